-- What the lent numbers hold, one law a case of the answer. Assumes nothing.
use Rattle.std.specs.Prelude.{ℕ, ◌≡◌, refl, get_or}
use Rattle.std.proofs.Common.{sym, ap, ◌∙◌}
use mathlib.Core.List.{List, [], ◌∷◌}
use Rattle.theory.specs.Answer.{Answer, answer}
use Rattle.leaves.specs.Refusal.{number_of, refused}
use Rattle.leaves.specs.RefusalLaws.{refused_all}
use Rattle.leaves.specs.declared.refusal.Refusal.{Refusal}
use Rattle.door_answers.specs.Answers.{damage_in}
use Rattle.door_answers.specs.AnswersLaws.{done_number, done_value, not_number, not_value}
use Rattle.door_answers.specs.HandingLaws.{record_done, record_not}
use Rattle.feed_rules.specs.Spans.{FeedArrays, feed_arrays, FeedNext}
use Rattle.feed_rules.specs.Adding.{FeedOpens}
use Rattle.feed.specs.Lent.{feed_arrays_of}
use Rattle.records_state.specs.declared.state.State.{State}
use Rattle.door_feed.specs.Handing.{found_in, Numbers, numbers, FedHanded, DeskFeedNext, DeskFeedOpen}

not_found : (r : Refusal) (found : ℕ) → found ≡ found_in found (refused r)
unfolding found_in
not_found r found = refused_all (λ (x : Answer). found ≡ found_in found x) (λ n values. refl) r

module _ {a : Answer} (o : Numbers) where
  -- a done call: its values, of which the end has none and a call that needs more one
  done : (vs : List ℕ) → answer 0 vs ≡ a
      → FedHanded a 0 o (numbers (found_in o.found (answer 0 vs)) (get_or vs 0 0) (get_or vs 1 0) (get_or vs 2 0) (get_or vs 3 0) (get_or vs 4 0) (get_or vs 5 0)
      (get_or vs 6 0) o.rest.reason)
  done vs e = record { finds = ap (found_in o.found) e; indexes = done_value o.index 2 e; hands = record_done 3 o.rest vs e }

  pub fed_record : {s p x l k i t : ℕ} → answer 0 (s ∷ p ∷ x ∷ l ∷ k ∷ i ∷ t ∷ []) ≡ a → FedHanded a 0 o (numbers 1 s p x l k i t o.rest.reason)
  unfolding found_in
  fed_record {s} {p} {x} {l} {k} {i} {t} e = done (s ∷ p ∷ x ∷ l ∷ k ∷ i ∷ t ∷ []) e

  pub fed_end : answer 0 [] ≡ a → FedHanded a 0 o (numbers 0 0 0 0 0 0 0 0 o.rest.reason)
  unfolding found_in
  fed_end e = done [] e

  pub fed_need : {s : ℕ} → answer 0 (s ∷ []) ≡ a → FedHanded a 0 o (numbers 2 s 0 0 0 0 0 0 o.rest.reason)
  unfolding found_in
  fed_need {s} e = done (s ∷ []) e

  pub fed_not : (r : Refusal) {n s p q : ℕ} → n ≡ number_of r → s ≡ damage_in o.rest.stream 0 (refused r) → p ≡ damage_in o.rest.place 1 (refused r)
      → q ≡ damage_in o.rest.reason 2 (refused r) → refused r ≡ a
      → FedHanded a n o (numbers o.found s p o.index o.rest.long o.rest.kind o.rest.instrument o.rest.time q)
  fed_not r f g h i e = record {
    finds = not_found r o.found ∙ ap (found_in o.found) e;
    indexes = not_value r o.index 2 e;
    hands = record_not 3 o.rest r f g h i e;
  }

-- the caller's arrays where this state was left in them
there : (t : State) {ms ts cs hs hp : List ℕ} (ps : List ℕ) → ms ≡ t.marks.now → ts ≡ t.times.now → cs ≡ t.places.now
    → hs ≡ t.heads.now → hp ≡ t.heap.now → feed_arrays_of t ps ≡ feed_arrays ms ts cs hs hp ps
there t ps em et ec eh ep = λ i. feed_arrays (sym em i) (sym et i) (sym ec i) (sym eh i) (sym ep i) ps

module _ (f : State) {ms ts cs hs hp ps : List ℕ}
    (em : ms ≡ f.marks.now) (et : ts ≡ f.times.now) (ec : cs ≡ f.places.now) (eh : hs ≡ f.heads.now) (ep : hp ≡ f.heap.now) where
  -- an opening that left the state f
  module _ {n : ℕ} {hints : List ℕ} {a : FeedArrays} {held : ℕ} where
    pub open_done : {count : ℕ} → FeedOpens n hints a (answer 0 (count ∷ f.held ∷ [])) (feed_arrays_of f ps)
        → DeskFeedOpen n hints a held 0 f.held (feed_arrays ms ts cs hs hp ps)
    open_done o = rw (← (there f ps em et ec eh ep)) (record {
      returns = done_number o.answers;
      holds = done_value held 1 o.answers;
      opens = record { answers = refl; refused = o.refused; accepted = o.accepted };
    })

    pub open_not : (r : Refusal) {k : ℕ} → k ≡ number_of r → FeedOpens n hints a (refused r) (feed_arrays_of f ps)
        → DeskFeedOpen n hints a held k held (feed_arrays ms ts cs hs hp ps)
    open_not r e o = rw (← (there f ps em et ec eh ep)) (record {
      returns = not_number r e o.answers;
      holds = not_value r held 1 o.answers;
      opens = record { answers = refl; refused = o.refused; accepted = o.accepted };
    })

  -- a call that left it, and handed over its answer
  pub next_handed : {window : List ℕ} {held : ℕ} {a : FeedArrays} {x : Answer} {o o' : Numbers} {r : ℕ}
      → FeedNext window held a x f.held (feed_arrays_of f ps) → FedHanded x r o o'
      → DeskFeedNext window held a o r f.held (feed_arrays ms ts cs hs hp ps) o'
  next_handed t h = rw (← (there f ps em et ec eh ep)) (record {
    refused = λ w. let y = t.refused w in (rw (← y.0) h, y.1, y.2);
    says = λ w n few ok.
        let s = t.told w in
        let y = s.says n few ok in
        (rw (← y.heard) h, rw (← y.heard) y, rw (← y.heard) s.needs);
  })
