-- RULES, Names, numbers, days: "an optional single `+`, then one or more ASCII digits, at most 4294967295", read from left to
-- right as Rust's documentation of reading a `u32` from text has it.
use Rattle.std.specs.Prelude.{ℕ, ◌+◌, ◌-◌, ◌*◌, ◌≤◌, List, [], ◌∷◌, Bool, cond, ◌&&◌, leb, eqb, ◌≡◌, length, drop, Option, Some, None, Result, Ok, Err}
use Rattle.theory.specs.Answer.{Answer, answer}

-- the answer: 0 with the number, or 8 with the place of the first byte at which no reading could go on
abbrev pub reading_of : Result ℕ ℕ → Answer
reading_of (Ok number) = answer 0 (number ∷ [])
reading_of (Err place) = answer 8 (place ∷ [])

-- an ASCII digit: `0` to `9`
unfoldable pub is_digit : ℕ → Bool
is_digit b = leb 48 b && leb b 57

-- no reading could go on at this place
abbrev pub stuck : ℕ → Answer
stuck place = answer 8 (place ∷ [])

-- the digits from a place on, after those before it came to a value: each makes ten times the value and itself, at most 4294967295
unfoldable pub digits : ℕ → ℕ → List ℕ → Answer
digits place value [] = answer 0 (value ∷ [])
digits place value (b ∷ s) =
    cond (is_digit b && leb (value * 10 + (b - 48)) 4294967295)
    (digits (place + 1) (value * 10 + (b - 48)) s)
    (stuck place)

-- one or more digits from a place on
unfoldable pub some_digits : ℕ → List ℕ → Answer
some_digits place [] = stuck place
some_digits place (b ∷ s) = digits place 0 (b ∷ s)

-- an optional single `+` (43), then one or more digits
unfoldable pub number_text : List ℕ → Answer
number_text [] = stuck 0
number_text (b ∷ s) = cond (eqb b 43) (some_digits 1 s) (some_digits 0 (b ∷ s))

-- the value with one more digit; none where the byte is no digit, or the value then past the largest
unfoldable pub appended : ℕ → ℕ → Option ℕ
appended value b = cond (is_digit b && leb (value * 10 + (b - 48)) 4294967295) (Some (value * 10 + (b - 48))) None

-- the digits of the bytes begin at place at
pub record Begun (s : List ℕ) (at : ℕ) : Type 0 where
  pub inside : at ≤ length s
  pub left : number_text s ≡ some_digits at (drop at s)
