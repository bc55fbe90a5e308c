-- What the lent numbers of a merge's call hold, one law a case of the answer. Assumes nothing.
use Rattle.std.specs.Prelude.{ℕ, ◌≡◌, refl, List, [], ◌∷◌}
use Rattle.std.proofs.Common.{sym}
use Rattle.theory.specs.Answer.{Answer, answer}
use Rattle.leaves.specs.Refusal.{number_of, refused}
use Rattle.leaves.specs.declared.refusal.Refusal.{Refusal}
use Rattle.door_answers.specs.Answers.{damage_in}
use Rattle.door_answers.specs.AnswersLaws.{done_given, not_given, done_number, done_value, not_number, not_value}
use Rattle.door_answers.specs.HandingLaws.{record_done, record_not}
use Rattle.records_rules.specs.State.{Arrays, arrays, OpenSays}
use Rattle.records_state.specs.declared.state.State.{State}
use Rattle.records_state.specs.Lent.{arrays_of}
use Rattle.door_records.specs.Merge.{Numbers, numbers, Handed, DeskOpen}

module _ {a : Answer} (o : Numbers) where
  pub handed_record : {s p l k i t : ℕ} → answer 0 (s ∷ p ∷ l ∷ k ∷ i ∷ t ∷ []) ≡ a → Handed a 0 o (numbers 1 s p l k i t o.rest.reason)
  handed_record {s} {p} {l} {k} {i} {t} e =
      record { finds = done_given o.found 0 e; hands = record_done 2 o.rest (s ∷ p ∷ l ∷ k ∷ i ∷ t ∷ []) e }

  pub handed_end : answer 0 [] ≡ a → Handed a 0 o (numbers 0 0 0 0 0 0 0 o.rest.reason)
  handed_end e = record { finds = done_given o.found 0 e; hands = record_done 2 o.rest [] e }

  pub handed_not : (r : Refusal) {n s p q : ℕ} → n ≡ number_of r → s ≡ damage_in o.rest.stream 0 (refused r) → p ≡ damage_in o.rest.place 1 (refused r)
      → q ≡ damage_in o.rest.reason 2 (refused r) → refused r ≡ a
      → Handed a n o (numbers o.found s p o.rest.long o.rest.kind o.rest.instrument o.rest.time q)
  handed_not r f g h i e = record { finds = not_given r o.found 0 e; hands = record_not 2 o.rest r f g h i e }

-- the caller's arrays where the state t was left in them
there : (t : State) {ms ts cs hs hp : List ℕ} → ms ≡ t.marks.now → ts ≡ t.times.now → cs ≡ t.places.now → hs ≡ t.heads.now → hp ≡ t.heap.now
    → arrays_of t ≡ arrays ms ts cs hs hp
there t em et ec eh ep = λ i. arrays (sym em i) (sym et i) (sym ec i) (sym eh i) (sym ep i)

-- an opening that left the state t
module _ {buffer cuts hints : List ℕ} {a : Arrays} {streams held : ℕ} (t : State) {ms ts cs hs hp : List ℕ}
    (em : ms ≡ t.marks.now) (et : ts ≡ t.times.now) (ec : cs ≡ t.places.now) (eh : hs ≡ t.heads.now) (ep : hp ≡ t.heap.now) where
  pub open_done : {count : ℕ} → OpenSays buffer cuts hints a (answer 0 (count ∷ t.held ∷ [])) (arrays_of t)
      → DeskOpen buffer cuts hints a streams held 0 count t.held (arrays ms ts cs hs hp)
  open_done o = rw (← (there t em et ec eh ep)) (record {
    returns = done_number o.answers;
    counts = done_value streams 0 o.answers;
    holds = done_value held 1 o.answers;
    opens = record { answers = refl; refused = o.refused; opened = o.opened };
  })

  pub open_not : (r : Refusal) {n : ℕ} → n ≡ number_of r → OpenSays buffer cuts hints a (refused r) (arrays_of t)
      → DeskOpen buffer cuts hints a streams held n streams held (arrays ms ts cs hs hp)
  open_not r e o = rw (← (there t em et ec eh ep)) (record {
    returns = not_number r e o.answers;
    counts = not_value r streams 0 o.answers;
    holds = not_value r held 1 o.answers;
    opens = record { answers = refl; refused = o.refused; opened = o.opened };
  })
