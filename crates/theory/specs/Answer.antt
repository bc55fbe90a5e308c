-- What a call answers, in the rules' terms. Every promise is an equation between two of these.
use Rattle.std.specs.Prelude.{ℕ, Bool, true, false, List, [], ◌∷◌}

-- the rules' number (0 is done) and the values that come with it
pub data Answer : Type 0 where
  answer : ℕ → List ℕ → Answer

-- a yes or no as a number
abbrev pub bit : Bool → ℕ
bit true = 1
bit false = 0

-- the values of what a call says: nothing besides that it is done, or one number
abbrev pub no_values : {A : Type 0} → A → List ℕ
no_values x = []

abbrev pub one_value : ℕ → List ℕ
one_value n = n ∷ []
