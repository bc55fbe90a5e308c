-- The answers of `leaves`: two that say the same number and the same values are one answer. (Frames and mapping records: leaves,
-- FrameLaws.) Assumes nothing.
use Rattle.std.specs.Prelude.{◌≡◌, refl, ℕ, ◌∷◌, List, Result, Ok, Err, OnOk, IsOk, MatchResult}
use Rattle.std.proofs.Common.{sym, ap, ap₂, arith}
use Rattle.theory.specs.Answer.{answer, one_value, no_values}
use Rattle.leaves.specs.Refusal.{number_of, refused, answer_with}
use Rattle.leaves.specs.RefusalLaws.{refused_not_done, refused_one}
use Rattle.leaves.specs.declared.refusal.Refusal.{Refusal}
use Rattle.leaves_text.specs.NumberText.{reading_of}
use Rattle.leaves_names.specs.Names.{place_values}
use Rattle.leaves_names.specs.Room.{named_values}
use Rattle.leaves_names.specs.declared.names.NamePlace.{NamePlace}
use Rattle.leaves_names.specs.declared.names.NameRoom.{NameRoom}

-- no refusal is done
pub done_or_refused : {vs : List ℕ} (r : Refusal) → answer 0 vs ≡ refused r → ⊥
done_or_refused r e = let z : number_of r ≡ 0 = cc in refused_not_done r z

-- where the values tell what is done apart, answers tell results apart
pub answer_one : {X : Type 0} (values : X → List ℕ) → ((x y : X) → values x ≡ values y → x ≡ y) → (x y : Result X Refusal) → answer_with values x ≡ answer_with values y → x ≡ y
answer_one values apart (Ok m) (Ok n) e = let z : values m ≡ values n = cc in ap Ok (apart m n z)
answer_one values apart (Ok m) (Err q) e = absurd (done_or_refused q e)
answer_one values apart (Err r) (Ok n) e = absurd (done_or_refused r (sym e))
answer_one values apart (Err r) (Err q) e = ap Err (refused_one r q e)

-- of one number: a date's day, a day's date, a day's start
pub value_one : (x y : Result ℕ Refusal) → answer_with one_value x ≡ answer_with one_value y → x ≡ y
value_one = answer_one one_value (λ m n e. cc)

pub reading_one : (x y : Result ℕ ℕ) → reading_of x ≡ reading_of y → x ≡ y
reading_one (Ok m) (Ok n) e = cc
reading_one (Ok m) (Err p) e = let z : ◌≡◌ {A = ℕ} 0 8 = cc in absurd (omega arith)
reading_one (Err p) (Ok n) e = let z : ◌≡◌ {A = ℕ} 0 8 = cc in absurd (omega arith)
reading_one (Err p) (Err q) e = cc

pub placed_one : (x y : Result NamePlace Refusal) → answer_with place_values x ≡ answer_with place_values y → x ≡ y
placed_one =
    answer_one place_values
    (λ m n e. let f : m.first ≡ n.first = cc in let g : m.end ≡ n.end = cc in ap₂ (λ (a b : ℕ). record { first = a; end = b }) f g)

-- the names and the bytes in use come with a name's number
pub named_one : (s t : NameRoom) (x y : Result ℕ Refusal) → answer_with (named_values s) x ≡ answer_with (named_values t) y
    → (x ≡ y) × OnOk x ((s.names ≡ t.names) × (s.name_bytes ≡ t.name_bytes))
named_one s t (Ok m) (Ok n) e = let z : m ≡ n = cc in (ap Ok z, (cc, cc))
named_one s t (Ok m) (Err q) e = absurd (done_or_refused q e)
named_one s t (Err r) (Ok n) e = absurd (done_or_refused r (sym e))
named_one s t (Err r) (Err q) e = (ap Err (refused_one r q e), _)

-- a check that says nothing besides: done twice, or refused twice for the same reason
pub checked_one : {X : Type 0} (x y : Result X Refusal) → answer_with no_values x ≡ answer_with no_values y → MatchResult x (λ m. IsOk y) (λ r. y ≡ Err r)
checked_one (Ok m) (Ok n) e = refl
checked_one (Ok m) (Err q) e = absurd (done_or_refused q e)
checked_one (Err r) (Ok n) e = absurd (done_or_refused r (sym e))
checked_one (Err r) (Err q) e = ap Err (sym (refused_one r q e))
