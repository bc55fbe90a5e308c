-- A run at the C door: what the lent numbers hold afterwards, one law a case of the answer. Assumes nothing.
use Rattle.std.specs.Prelude.{ℕ, ◌≡◌, cond, List, [], ◌∷◌, get_or, eqb}
use Rattle.std.proofs.Common.{sym, subst, ◌∙◌}
use Rattle.std.proofs.Math.Path.{ap}
use Rattle.theory.specs.Answer.{Answer, answer}
use Rattle.leaves.specs.Refusal.{number_of, refused}
use Rattle.leaves.specs.declared.refusal.Refusal.{Refusal}
use Rattle.run_rules.specs.Batch.{Ran}
use Rattle.run_rules.specs.Rows.{Note, records_in, last_in, list_after, wanting}
use Rattle.door_answers.specs.Answers.{number_in, value_in, damage_in}
use Rattle.door_answers.specs.AnswersLaws.{refused_value, done_number, done_value, done_damage, not_number, not_value, not_damage}

-- what a lent number holds that a run moves on: bad memory (15) leaves it
unfoldable pub moved_in : ℕ → ℕ → Answer → ℕ
moved_in held after (answer number values) = cond (eqb number 15) held after

-- what the lent stream and place hold: the stream of which more is needed, else 0 where a run is done; the damaged stream and where its
-- read began after 13; and after 15 what they held
unfoldable pub stream_in : ℕ → Answer → ℕ
unfolding value_in damage_in
stream_in held a = damage_in (value_in held 1 a) 0 a

unfoldable pub place_in : ℕ → Answer → ℕ
unfolding value_in damage_in
place_in held a = damage_in (value_in held 2 a) 1 a

-- the lent numbers of a run
pub record Numbers : Type 0 where
  pub calls : ℕ
  pub written : ℕ
  pub last : ℕ
  pub stream : ℕ
  pub place : ℕ
  pub reason : ℕ

abbrev pub numbers : ℕ → ℕ → ℕ → ℕ → ℕ → ℕ → Numbers
numbers calls written last stream place reason =
    record { calls = calls; written = written; last = last; stream = stream; place = place; reason = reason }

-- a run with this answer, these calls and these records returned r, and left these in the lent numbers
pub record RunHanded (a : Answer) (c w r : ℕ) (o o' : Numbers) : Type 0 where
  pub returns : r ≡ number_in a
  pub counts : o'.calls ≡ moved_in o.calls c a
  pub writes : o'.written ≡ moved_in o.written w a
  pub lasts : o'.last ≡ value_in o.last 0 a
  pub streams : o'.stream ≡ stream_in o.stream a
  pub places : o'.place ≡ place_in o.place a
  pub reasons : o'.reason ≡ damage_in o.reason 2 a

-- the numbers and the list are those of the run r, which returned n
pub record RunHands {S : Type 0} (r : Ran Note S) (ws : List ℕ) (n : ℕ) (o o' : Numbers) (ws' : List ℕ) : Type 0 where
  pub handed : RunHanded (last_in r.heard) r.steps (records_in r.heard) n o o'
  pub list : ws' ≡ list_after r.heard ws

module _ {a : Answer} {c w c' w' : ℕ} (o : Numbers) (ec : c' ≡ c) (ew : w' ≡ w) where
  done : (l : ℕ) (vs : List ℕ) → answer 0 (l ∷ vs) ≡ a → RunHanded a c w 0 o (numbers c' w' l (get_or vs 0 0) (get_or vs 1 0) o.reason)
  unfolding moved_in stream_in place_in
  done l vs e =
      record {
        returns = done_number e;
        counts = ec ∙ ap (moved_in o.calls c) e;
        writes = ew ∙ ap (moved_in o.written w) e;
        lasts = done_value o.last 0 e;
        streams = ap (stream_in o.stream) e;
        places = ap (place_in o.place) e;
        reasons = done_damage o.reason 2 e;
      }

  -- the run goes on, or is at the end
  pub ran_done : {l : ℕ} → answer 0 (l ∷ []) ≡ a → RunHanded a c w 0 o (numbers c' w' l 0 0 o.reason)
  ran_done {l} e = done l [] e

  -- more of a stream is needed
  pub ran_needs : {p : ℕ} → wanting p ≡ a → RunHanded a c w 0 o (numbers c' w' 2 p 0 o.reason)
  ran_needs {p} e = done 2 (p ∷ []) e

  -- it is refused
  pub ran_not : (r : Refusal) {n k m s p q : ℕ} → n ≡ number_of r → k ≡ moved_in o.calls c' (refused r) → m ≡ moved_in o.written w' (refused r)
      → s ≡ damage_in o.stream 0 (refused r) → p ≡ damage_in o.place 1 (refused r) → q ≡ damage_in o.reason 2 (refused r) → refused r ≡ a
      → RunHanded a c w n o (numbers k m o.last s p q)
  unfolding stream_in place_in
  ran_not r f g h i j l e =
      record {
        returns = not_number r f e;
        counts = g ∙ ap (λ (d : ℕ). moved_in o.calls d (refused r)) ec ∙ ap (moved_in o.calls c) e;
        writes = h ∙ ap (λ (d : ℕ). moved_in o.written d (refused r)) ew ∙ ap (moved_in o.written w) e;
        lasts = not_value r o.last 0 e;
        streams = i ∙ ap (λ (d : ℕ). damage_in d 0 (refused r)) (sym (refused_value r o.stream 1)) ∙ ap (stream_in o.stream) e;
        places = j ∙ ap (λ (d : ℕ). damage_in d 1 (refused r)) (sym (refused_value r o.place 2)) ∙ ap (place_in o.place) e;
        reasons = not_damage r o.reason 2 l e;
      }

-- the same answer, calls and records
pub handed_as : {x a : Answer} {c k w m r : ℕ} {o o' : Numbers} → RunHanded x c w r o o' → x ≡ a → c ≡ k → w ≡ m → RunHanded a k m r o o'
handed_as {x} {a} {c} {k} {w} {m} {r} {o} {o'} h e f g =
    subst (λ (n : ℕ). RunHanded a k n r o o') g (subst (λ (n : ℕ). RunHanded a n w r o o') f (subst (λ (y : Answer). RunHanded y c w r o o') e h))
