-- The answers of `map_time`, of the comparison and of the mapping call: two that say the same number and the same values are one answer. Assumes nothing.
use Rattle.std.specs.Prelude.{◌≡◌, refl, ℕ, Option, Some, None, Result, Ok, Err, OnOk}
use Rattle.std.proofs.Common.{sym, ap, arith}
use Rattle.theory.specs.Answer.{one_value, no_values}
use Rattle.leaves.specs.Refusal.{answer_with}
use Rattle.leaves.specs.RefusalLaws.{refused_one}
use Rattle.leaves.specs.declared.refusal.Refusal.{Refusal}
use Rattle.leaves_names.specs.Room.{named_values}
use Rattle.leaves_names.specs.declared.names.NameRoom.{NameRoom}
use Rattle.map_look.specs.Lookup.{found_of, looked_of}
use Rattle.map_point.specs.Points.{symbol_values}
use Rattle.map_look.specs.declared.lookup.Looked.{Looked}
use Rattle.one_answer.specs.Leaves.{done_or_refused, answer_one, value_one, named_one}

-- a check's
pub checked_one : (x y : Result (Unit {0}) Refusal) → answer_with no_values x ≡ answer_with no_values y → x ≡ y
checked_one = answer_one no_values (λ m n e. refl)

-- an insert's, a comparison's and a set entry's: how many are in use or laid then
pub inserted_one : (x y : Result ℕ Refusal) → answer_with one_value x ≡ answer_with one_value y → x ≡ y
inserted_one = value_one

pub compared_one : (x y : Result ℕ Refusal) → answer_with one_value x ≡ answer_with one_value y → x ≡ y
compared_one = value_one

pub stored_one : (x y : Result ℕ Refusal) → answer_with one_value x ≡ answer_with one_value y → x ≡ y
stored_one = value_one

-- what is found, where the hints are the same: a cursor's answer
pub found_one : (x y : Result (Option ℕ) Refusal) (h k : ℕ) → found_of x h ≡ found_of y k → x ≡ y
found_one (Ok (Some s)) (Ok (Some t)) h k e = cc
found_one (Ok (Some s)) (Ok None) h k e = let z : ◌≡◌ {A = ℕ} 0 1 = cc in absurd (omega arith)
found_one (Ok (Some s)) (Err q) h k e = absurd (done_or_refused q e)
found_one (Ok None) (Ok (Some t)) h k e = let z : ◌≡◌ {A = ℕ} 0 1 = cc in absurd (omega arith)
found_one (Ok None) (Ok None) h k e = refl
found_one (Ok None) (Err q) h k e = absurd (done_or_refused q e)
found_one (Err r) (Ok (Some t)) h k e = absurd (done_or_refused r (sym e))
found_one (Err r) (Ok None) h k e = absurd (done_or_refused r (sym e))
found_one (Err r) (Err q) h k e = ap Err (refused_one r q e)

-- a lookup's answer and new hint
pub looked_one : (x y : Looked) → looked_of x ≡ looked_of y → x.hint ≡ y.hint → x ≡ y
looked_one x y e h = λ i. record { found = found_one x.found y.found x.hint y.hint e i; hint = h i }

-- on a point-in-time table
pub point_one : (x y : Result (Option ℕ) Refusal) → answer_with symbol_values x ≡ answer_with symbol_values y → x ≡ y
point_one = answer_one symbol_values apart
  where
    apart : (x y : Option ℕ) → symbol_values x ≡ symbol_values y → x ≡ y
    apart (Some s) (Some t) e = cc
    apart (Some s) None e = let z : ◌≡◌ {A = ℕ} 0 1 = cc in absurd (omega arith)
    apart None (Some t) e = let z : ◌≡◌ {A = ℕ} 0 1 = cc in absurd (omega arith)
    apart None None e = refl

-- a mapping call's, with the names and the bytes in use
pub recorded_one : (s t : NameRoom) (x y : Result ℕ Refusal) → answer_with (named_values s) x ≡ answer_with (named_values t) y
    → (x ≡ y) × OnOk x ((s.names ≡ t.names) × (s.name_bytes ≡ t.name_bytes))
recorded_one = named_one
