-- What a mapping call gives and leaves at the C door (RULES, The map over time and Merging records).
use Rattle.std.specs.Prelude.{◌≡◌, ℕ, List, ◌∷◌, []}
use Rattle.theory.specs.Answer.{Answer}
use Rattle.map_record.specs.Mapping.{Left}
use Rattle.door_answers.specs.Answers.{number_in, value_in, damage_in}

-- a call that leaves this gave this number: the lent numbers in use become the answer's values, `reason` is set by 13 alone, and the
-- lent memory is what is left
pub record Tells (left : Left) (used names name_bytes reason number used' names' name_bytes' reason' : ℕ) (t' b' e' : List ℕ) : Type 0 where
  pub answers : number ≡ number_in left.says
  pub in_use : used' ≡ value_in used 0 left.says
  pub names_in_use : names' ≡ value_in names 1 left.says
  pub bytes_in_use : name_bytes' ≡ value_in name_bytes 2 left.says
  pub damage : reason' ≡ damage_in reason 2 left.says
  pub table : t' ≡ left.table
  pub bytes : b' ≡ left.bytes
  pub ends : e' ≡ left.ends

-- what comes with a done call: how many are in use in the table, the names and the name bytes
abbrev pub in_use_values : ℕ → ℕ → ℕ → List ℕ
in_use_values names name_bytes used = used ∷ names ∷ name_bytes ∷ []

-- the part of that which an answer says
pub record Told (says : Answer) (used names name_bytes reason number used' names' name_bytes' reason' : ℕ) : Type 0 where
  pub answers : number ≡ number_in says
  pub in_use : used' ≡ value_in used 0 says
  pub names_in_use : names' ≡ value_in names 1 says
  pub bytes_in_use : name_bytes' ≡ value_in name_bytes 2 says
  pub damage : reason' ≡ damage_in reason 2 says
