-- An answer at the C door: the number that a call returns, and what the lent numbers hold afterwards.
use Rattle.std.specs.Prelude.{ℕ, zero, suc, Bool, true, false, cond, [], ltb, eqb, length, get_or}
use Rattle.theory.specs.Answer.{Answer, answer}
use Rattle.map_rules.specs.Table.{Row}

-- the number that the call returns: the rules', 0 where it is done
unfoldable pub number_in : Answer → ℕ
number_in (answer number values) = number

-- what a lent number holds that takes the k-th value, from 0: a done call's value, or 0 where it has none; a refusal leaves what it held
unfoldable pub value_in : ℕ → ℕ → Answer → ℕ
value_in held k (answer zero values) = get_or values k 0
value_in held k (answer (suc n) values) = held

-- what a lent number holds that says whether there is a k-th value: 1 or 0; a refusal leaves what it held
unfoldable pub given_in : ℕ → ℕ → Answer → ℕ
given_in held k (answer zero values) = cond (ltb k (length values)) 1 0
given_in held k (answer (suc n) values) = held

-- what a lent number holds that takes the k-th value of damage, 13 "with stream, place and reason": every other answer leaves it
unfoldable pub damage_in : ℕ → ℕ → Answer → ℕ
damage_in held k (answer number values) = cond (eqb number 13) (get_or values k 0) held

-- what a lent number holds that takes the k-th value of a done call and of damage: every other answer leaves it
unfoldable pub either_in : ℕ → ℕ → Answer → ℕ
unfolding value_in damage_in
either_in held k a = damage_in (value_in held k a) k a

-- whether a text is UTF-8, as an answer: done or 4
unfoldable pub utf8_answer : Bool → Answer
utf8_answer true = answer 0 []
utf8_answer false = answer 4 []

-- an interval that was handed in as numbers
abbrev pub row : ℕ → ℕ → ℕ → ℕ → Row ℕ
row instrument start end symbol = record { instrument = instrument; start = start; end = end; value = symbol }
