-- What worked examples of tables are made of.
use Rattle.std.specs.Prelude.{ℕ}
use Rattle.map_rules.specs.Table.{Row}

-- the symbols
abbrev pub A : ℕ
A = 0

abbrev pub B : ℕ
B = 1

abbrev pub C : ℕ
C = 2

-- the greatest moment, and the greatest instrument
abbrev pub last : ℕ
last = 18446744073709551615

abbrev pub greatest : ℕ
greatest = 4294967295

-- an interval of an instrument, and of instrument 7
abbrev pub of : ℕ → ℕ → ℕ → ℕ → Row ℕ
of i a b v = record { instrument = i; start = a; end = b; value = v }

abbrev pub row : ℕ → ℕ → ℕ → Row ℕ
row a b v = of 7 a b v
