-- The answers of `next` and `open` in the rules' numbers.
use Rattle.std.specs.Prelude.{◌≡◌, refl, ℕ, List, [], ◌∷◌, Option, Some, None, Result, Ok, Err, OnOk}
use Rattle.std.proofs.Common.{ap, arith}
use Rattle.theory.specs.Answer.{Answer}
use Rattle.leaves.specs.Refusal.{number_of, answer_with}
use Rattle.leaves.specs.RefusalLaws.{refused_not_done, refused_one}
use Rattle.leaves.specs.declared.refusal.Refusal.{Refusal}
use Rattle.records.specs.declared.merge.Record.{Record}

-- a record's stream, place, length, kind, instrument and time; nothing at the end
abbrev pub record_values : Record → List ℕ
record_values r = r.stream ∷ r.place ∷ r.length ∷ r.kind ∷ r.instrument ∷ r.time ∷ []

abbrev pub turn_values : Option Record → List ℕ
turn_values (Some r) = record_values r
turn_values None = []

-- a record is done, with its values; the end is done, with nothing
abbrev pub turn_of : Result (Option Record) Refusal → Answer
turn_of r = answer_with turn_values r

-- an opening is done, with the number of streams and of those that the heap holds
abbrev pub opening_of : ℕ → Result ℕ Refusal → Answer
opening_of held r = answer_with (λ streams. streams ∷ held ∷ []) r

-- the same where all that are opened are held
abbrev pub opened_of : Result ℕ Refusal → Answer
opened_of r = answer_with (λ streams. streams ∷ streams ∷ []) r

-- only one answer fits
record_by : ℕ → ℕ → ℕ → ℕ → ℕ → ℕ → Record
record_by stream place size kind instrument time =
    record { stream = stream; place = place; length = size; kind = kind; instrument = instrument; time = time }

pub turn_one : (x y : Result (Option Record) Refusal) → turn_of x ≡ turn_of y → x ≡ y
unfolding record_by
turn_one (Ok (Some r)) (Ok (Some s)) z =
    let e : record_by r.stream r.place r.length r.kind r.instrument r.time ≡ record_by s.stream s.place s.length s.kind s.instrument s.time = cc in
    ap (λ (t : Record). Ok (Some t)) e
turn_one (Ok (Some r)) (Ok None) z = let n : ◌≡◌ {A = ℕ} 0 1 = cc in absurd (omega arith)
turn_one (Ok (Some r)) (Err q) z = let n : number_of q ≡ 0 = cc in absurd (refused_not_done q n)
turn_one (Ok None) (Ok (Some s)) z = let n : ◌≡◌ {A = ℕ} 0 1 = cc in absurd (omega arith)
turn_one (Ok None) (Ok None) z = refl
turn_one (Ok None) (Err q) z = let n : number_of q ≡ 0 = cc in absurd (refused_not_done q n)
turn_one (Err r) (Ok (Some s)) z = let n : number_of r ≡ 0 = cc in absurd (refused_not_done r n)
turn_one (Err r) (Ok None) z = let n : number_of r ≡ 0 = cc in absurd (refused_not_done r n)
turn_one (Err r) (Err q) z = ap Err (refused_one r q z)

pub opening_one : (h k : ℕ) (x y : Result ℕ Refusal) → opening_of h x ≡ opening_of k y → (x ≡ y) × OnOk x (h ≡ k)
opening_one h k (Ok a) (Ok b) z = (cc, cc)
opening_one h k (Ok a) (Err q) z = let n : number_of q ≡ 0 = cc in absurd (refused_not_done q n)
opening_one h k (Err r) (Ok b) z = let n : number_of r ≡ 0 = cc in absurd (refused_not_done r n)
opening_one h k (Err r) (Err q) z = (ap Err (refused_one r q z), tt)
