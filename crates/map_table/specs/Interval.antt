-- An interval of the code as a row of the table.
use Rattle.std.specs.Prelude.{ℕ}
use Rattle.map_rules.specs.Table.{Row}
use Rattle.map_table.specs.declared.interval.Interval.{Interval}

-- its value is its symbol number
abbrev pub row_of : Interval → Row ℕ
row_of x = record { instrument = x.instrument; start = x.start; end = x.end; value = x.symbol }
