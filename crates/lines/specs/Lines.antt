-- The lines of a replay (RULES, Merging records): "a record's line is stream, time, instrument; a damage line is stream, `damaged`,
-- place". Numbers are decimal, one blank parts two fields, a newline ends each line.
use Rattle.std.specs.Prelude.{◌≡◌, ℕ, zero, suc, ◌+◌, ◌/◌, ◌%◌, cond, List, [], ◌∷◌, ◌++◌, length, take, drop, ltb}

-- a number's decimal digits in ASCII, the most significant first: those of the tenth part, then the last one. As many steps as
-- the number is large are enough
unfoldable pub decimal_f : ℕ → ℕ → List ℕ
decimal_f zero n = []
decimal_f (suc f) n = cond (ltb n 10) ((48 + n) ∷ []) (decimal_f f (n / 10) ++ ((48 + n % 10) ∷ []))

unfoldable pub decimal : ℕ → List ℕ
unfolding decimal_f
decimal n = decimal_f (suc n) n

-- " "
unfoldable pub blank : List ℕ
blank = 32 ∷ []

-- the end of a line
unfoldable pub newline : List ℕ
newline = 10 ∷ []

-- " damaged "
unfoldable pub damaged_word : List ℕ
damaged_word = 32 ∷ 100 ∷ 97 ∷ 109 ∷ 97 ∷ 103 ∷ 101 ∷ 100 ∷ 32 ∷ []

-- "end" and the line's end
unfoldable pub end_line : List ℕ
end_line = 101 ∷ 110 ∷ 100 ∷ 10 ∷ []

-- "bad bundle" and the line's end
unfoldable pub bad_line : List ℕ
bad_line = 98 ∷ 97 ∷ 100 ∷ 32 ∷ 98 ∷ 117 ∷ 110 ∷ 100 ∷ 108 ∷ 101 ∷ 10 ∷ []

-- "A record's line is stream, time, instrument"
unfoldable pub record_line : ℕ → ℕ → ℕ → List ℕ
unfolding decimal blank newline
record_line stream time instrument = decimal stream ++ blank ++ decimal time ++ blank ++ decimal instrument ++ newline

-- "a damage line is stream, `damaged`, place"
unfoldable pub damage_line : ℕ → ℕ → List ℕ
unfolding decimal damaged_word newline
damage_line stream place = decimal stream ++ damaged_word ++ decimal place ++ newline

-- ---- a word laid in lent bytes

-- text with a word from `at` on; what stands before it and after it stays
unfoldable pub laid : List ℕ → ℕ → List ℕ → List ℕ
laid text at word = take at text ++ word ++ drop (at + length word) text

-- a word is laid at a place of a text, and `next` is the place behind it
pub record Lays (text : List ℕ) (at : ℕ) (word : List ℕ) (next : ℕ) (text' : List ℕ) : Type 0 where
  pub behind : next ≡ at + length word
  pub whole : text' ≡ laid text at word
