-- Calls of the code, one after the other: their answers are those of `Windows` on what is kept, whatever the heap's order and wherever the
-- bytes stand; so whatever the portions, the answers without "need more" are the whole streams'. Assumes nothing.
use Rattle.std.proofs.Math.Path.{◌≡◌, refl, sym, ap, subst}
use Rattle.std.proofs.Common.{◌∙◌, arith, true≢false, get_or-set_same, get_or-set_other}
use Rattle.std.specs.Prelude.{◌≢◌, Bool, ◌||◌, length, set, take, eqb}
use Prim.Native.Nat.{ℕ, zero, suc, ◌+◌, ◌<◌}
use Rattle.std.proofs.Math.Decide.{ℕ_discrete}
use Rattle.std.proofs.Math.Bool.{true, false, cond}
use Rattle.std.proofs.Math.Option.{Option, none, some}
use mathlib.Core.List.{List, [], ◌∷◌, ◌++◌}
use Rattle.std.proofs.Math.ListN.{get_or}
use Rattle.std.proofs.Math.Seq.{slice}
use Rattle.theory.specs.Answer.{Answer, answer}
use Rattle.leaves.specs.Frame.{Read, whole, ended, damaged}
use Rattle.records_rules.specs.Machine.{Rec, rec, record_at_lem, damage_at, Status, waiting, standing, gone, First, nobody, first, least}
use Rattle.records_rules.specs.Machine.{says, end, done, again, after_read, answers_f, start}
use Rattle.records_rules.specs.Least.{LeastOk, least_ok}
use Rattle.records_rules.specs.Kept.{inside}
use Rattle.records_rules.specs.Bytes.{bytes_of}
use Rattle.records_rules.specs.State.{padded}
use Rattle.feed_rules.proofs.PartialLaws.{next_agrees}
use Rattle.feed_rules.specs.Partial.{Step⁺, moved, wants, found⁺, chosen⁺, step_at⁺, step⁺, Turn⁺}
use Rattle.feed_rules.specs.Partial.{replies, needs, onward⁺, next_f⁺, next⁺, rest⁺}
use Rattle.feed_rules.specs.Windows.{Kept, known_in, Feed, known, put, opened, is_gone, closed}
use Rattle.feed_rules.specs.Windows.{taking, grow, shut, add_answer, add_leaves, end_answer, end_leaves}
use Rattle.feed_rules.specs.Windows.{counted, kept_by, turn_in, turn_leaves, next_leaves, turn_answer, next_answer, Alike}
use Rattle.feed_rules.specs.Windows.{Call, portion, word, call, answer_to, leaves, answers_to, lastly, heard, Within}
use Rattle.feed_rules.specs.Portions.{Covers, opened_within, Brought}
use Rattle.feed_rules.proofs.Portions.{covers_step, call_within, record_bytes, portioned_are}
use Rattle.feed_rules.specs.Spans.{bytes_in, kept_of, feed_of}
use Rattle.feed_rules.specs.Adding.{FeedOpenedIn}
use Rattle.feed_rules.specs.History.{FeedLent, feed_in, Calling, FeedCalls, more, stop, call_answers, After, alike_trans}

-- ---- a turn asks only of streams that wait, and wakes nobody

-- whose status is not gone has one
abbrev Alive : List Status → ℕ → Type 0
Alive ss q = get_or ss q gone ≢ gone

-- who is there after the turn was there before, and a record's stream is there
abbrev TurnAlive : List Status → Turn⁺ → Type 0
TurnAlive ss (replies (says p (record_at_lem a r)) ss') = ((q : ℕ) → Alive ss' q → Alive ss q) × Alive ss' p
TurnAlive ss (replies (says p (damage_at a reason)) ss') = (q : ℕ) → Alive ss' q → Alive ss q
TurnAlive ss (replies end ss') = (q : ℕ) → Alive ss' q → Alive ss q
TurnAlive ss (needs p ss') = (q : ℕ) → Alive ss' q → Alive ss q

abbrev StepAlive : List Status → Step⁺ → Type 0
StepAlive ss (wants p) = Unit {0}
StepAlive ss (moved (done x ss')) = TurnAlive ss (replies x ss')
StepAlive ss (moved (again ss')) = (q : ℕ) → Alive ss' q → Alive ss q

set_alive : (ss : List Status) (p : ℕ) (s : Status) → Alive ss p → (q : ℕ) → Alive (set ss p s) q → Alive ss q
set_alive ss p s h q d = go (ℕ_discrete q p)
  where
    go : Dec (q ≡ p) → get_or ss q gone ≢ gone
    go (yes e) = rw e h
    go (no e) = rw (← get_or-set_other ss p q s gone e) d

module _ (k : ℕ → ℕ → Option Read) where
  found_alive : (ss : List Status) (p a : ℕ) → Alive ss p → (o : Option Read) → StepAlive ss (found⁺ ss p a o)
  unfolding found⁺ after_read
  found_alive ss p a h none = tt
  found_alive ss p a h (some ended) = set_alive ss p gone h
  found_alive ss p a h (some (damaged r)) = set_alive ss p gone h
  found_alive ss p a h (some (whole l κ ι t)) = set_alive ss p (standing a (rec l κ ι t)) h

  chosen_alive : (ss : List Status) (p : ℕ) → p < length ss → (s : Status) → get_or ss p gone ≡ s → StepAlive ss (chosen⁺ k ss p s)
  unfolding chosen⁺
  chosen_alive ss p l (waiting t a) e =
      found_alive ss p a (λ z. let i : waiting t a ≡ gone = sym e ∙ z in let y : ◌≡◌ {A = ℕ} 0 1 = cc in absurd (omega arith)) (k p a)
  chosen_alive ss p l (standing a r) e =
      let h : get_or ss p gone ≢ gone =
      λ z. let i : standing a r ≡ gone = sym e ∙ z in let y : ◌≡◌ {A = ℕ} 0 1 = cc in absurd (omega arith) in
      let w = waiting r.time (a + r.size) in (
        set_alive ss p w h,
        λ z. let i : w ≡ gone = sym (get_or-set_same ss p w gone l) ∙ z in let y : ◌≡◌ {A = ℕ} 0 1 = cc in absurd (omega arith),
      )
  chosen_alive ss p l gone e = λ q d. d

  step_alive : (ss : List Status) → StepAlive ss (step⁺ k ss)
  unfolding step⁺ step_at⁺
  step_alive ss = pick (least ss) (least_ok ss)
    where
      pick : (r : First) → LeastOk ss r → StepAlive ss (step_at⁺ k ss r)
      pick nobody f = λ q d. d
      pick (first t p) f = chosen_alive ss p (inside ss p t f.has) (get_or ss p gone) refl

  later_alive : (ss ss' : List Status) → ((q : ℕ) → Alive ss' q → Alive ss q) → (r : Turn⁺) → TurnAlive ss' r → TurnAlive ss r
  later_alive ss ss' f (replies (says p (record_at_lem a r)) ss'') z = ((λ q d. f q (z.0 q d)), z.1)
  later_alive ss ss' f (replies (says p (damage_at a reason)) ss'') z = λ q d. f q (z q d)
  later_alive ss ss' f (replies end ss'') z = λ q d. f q (z q d)
  later_alive ss ss' f (needs p ss'') z = λ q d. f q (z q d)

  turn_alive_f : (f : ℕ) (ss : List Status) → TurnAlive ss (next_f⁺ f k ss)
  unfolding next_f⁺ onward⁺
  turn_alive_f zero ss = λ q d. d
  turn_alive_f (suc f) ss = go (step⁺ k ss) (step_alive ss) (λ ss'. turn_alive_f f ss')
    where
      go : (s : Step⁺) → StepAlive ss s → ((ss' : List Status) → TurnAlive ss' (next_f⁺ f k ss'))
          → TurnAlive ss (onward⁺ (λ l. next_f⁺ f k l) ss s)
      go (wants p) z ih = λ q d. d
      go (moved (done x ss')) z ih = z
      go (moved (again ss')) z ih = later_alive ss ss' z (next_f⁺ f k ss') (ih ss')

  turn_alive : (ss : List Status) → TurnAlive ss (next⁺ k ss)
  unfolding next⁺
  turn_alive ss = turn_alive_f (suc (length ss)) ss

  rest_alive : (ss : List Status) (r : Turn⁺) → TurnAlive ss r → (q : ℕ) → Alive (rest⁺ r) q → Alive ss q
  unfolding rest⁺
  rest_alive ss (replies (says p (record_at_lem a r)) ss') z = z.0
  rest_alive ss (replies (says p (damage_at a reason)) ss') z = z
  rest_alive ss (replies end ss') z = z
  rest_alive ss (needs p ss') z = z

-- ---- states alike answer alike, and stay alike

by_status : {X : Type 0} (s : Status) → (s ≡ gone → X) → (s ≢ gone → X) → X
by_status (waiting t a) f g = g (λ i. let y : ◌≡◌ {A = ℕ} 0 1 = cc in absurd (omega arith))
by_status (standing a r) f g = g (λ i. let y : ◌≡◌ {A = ℕ} 0 1 = cc in absurd (omega arith))
by_status gone f g = f refl

waits_alive : {s : Status} {t a : ℕ} → s ≡ waiting t a → s ≢ gone
waits_alive {t = t} {a = a} e z = let i : waiting t a ≡ gone = sym e ∙ z in let y : ◌≡◌ {A = ℕ} 0 1 = cc in omega arith

shut_gone : (F : Feed) (p : ℕ) → get_or F.statuses p gone ≡ gone → closed F p ≡ true
unfolding closed is_gone
shut_gone F p e = ap (λ (s : Status). is_gone s || (F.kept p).over) e

module _ (F G : Feed) (s : Alike F G) where
  same_turn : turn_in F ≡ turn_in G
  same_turn =
      ap (next⁺ (known F)) s.statuses
      ∙ next_agrees (known F) (known G) G.statuses (λ p t a e. ap (λ (x : Kept). known_in x a) (s.kept p (waits_alive e)))

  same_next : Alike (next_leaves F) (next_leaves G)
  unfolding next_leaves turn_leaves
  same_next =
      record {
        statuses = ap rest⁺ same_turn;
        kept = λ q d.
            let l : get_or G.statuses q gone ≢ gone =
            rest_alive (known G) G.statuses (turn_in G) (turn_alive (known G) G.statuses) q d in
            ap (λ (r : Turn⁺). kept_by (counted q r) (get_or (rest⁺ r) q gone) (F.kept q)) same_turn
            ∙ ap (kept_by (counted q (turn_in G)) (get_or (rest⁺ (turn_in G)) q gone)) (s.kept q l);
      }

  same_answer : next_answer F ≡ next_answer G
  unfolding next_answer next_leaves turn_leaves turn_answer rest⁺
  same_answer =
      ap (turn_answer (next_leaves F).kept) same_turn
      ∙ go (turn_in G) (turn_alive (known G) G.statuses) (λ p d. same_next.kept p d) refl
    where
      go : (r : Turn⁺) → TurnAlive G.statuses r
          → ((p : ℕ) → get_or (next_leaves G).statuses p gone ≢ gone → (next_leaves F).kept p ≡ (next_leaves G).kept p)
          → turn_in G ≡ r → turn_answer (next_leaves F).kept r ≡ turn_answer (next_leaves G).kept r
      go (replies (says p (record_at_lem a r)) ss) z k e =
          ap (λ (y : Kept). answer 0 (p ∷ a ∷ y.at ∷ r.size ∷ r.kind ∷ r.instrument ∷ r.time ∷ []))
          (k p (λ i. z.1 (ap (λ (t : Turn⁺). get_or (rest⁺ t) p gone) (sym e) ∙ i)))
      go (replies (says p (damage_at a reason)) ss) z k e = refl
      go (replies end ss) z k e = refl
      go (needs p ss) z k e = refl

  same_closed : (p : ℕ) → closed F p ≡ closed G p
  unfolding closed is_gone
  same_closed p =
      by_status (get_or G.statuses p gone)
      (λ e. shut_gone F p (ap (λ (l : List Status). get_or l p gone) s.statuses ∙ e) ∙ sym (shut_gone G p e))
      (λ d. ap (λ (l : List Status). is_gone (get_or l p gone) || (F.kept p).over) s.statuses
      ∙ ap (λ (x : Kept). is_gone (get_or G.statuses p gone) || x.over) (s.kept p d))

  -- who is not closed is not gone
  not_gone : (p : ℕ) → closed G p ≡ false → Alive G.statuses p
  not_gone p e z = true≢false (sym (shut_gone G p z) ∙ e)

  same_put : (p q : ℕ) (f : Kept → Kept) → closed G p ≡ false → Alive G.statuses q
      → put p (f (F.kept p)) F.kept q ≡ put p (f (G.kept p)) G.kept q
  unfolding put
  same_put p q f e d =
      ap (λ (x : Kept). cond (eqb q p) (f x) (F.kept q)) (s.kept p (not_gone p e))
      ∙ ap (λ (x : Kept). cond (eqb q p) (f (G.kept p)) x) (s.kept q d)

  same_add : (p : ℕ) (xs : List ℕ) → add_answer F p xs ≡ add_answer G p xs
  unfolding add_answer
  same_add p xs = ap (λ (b : Bool). cond b (answer 12 []) (answer 0 (taking (length xs) (F.kept p) ∷ []))) (same_closed p)
      ∙ go (closed G p) refl
    where
      go : (b : Bool) → closed G p ≡ b
          → cond b (answer 12 []) (answer 0 (taking (length xs) (F.kept p) ∷ [])) ≡ cond b (answer 12 []) (answer 0 (taking (length xs) (G.kept p) ∷ []))
      go true e = refl
      go false e = ap (λ (x : Kept). answer 0 (taking (length xs) x ∷ [])) (s.kept p (not_gone p e))

  same_grown : (p : ℕ) (xs : List ℕ) → Alike (add_leaves F p xs) (add_leaves G p xs)
  unfolding add_leaves
  same_grown p xs = subst (λ (b : Bool). Alike (cond b F (more F)) (add_leaves G p xs)) (sym (same_closed p)) (go (closed G p) refl)
    where
      more : Feed → Feed
      more H = record { statuses = H.statuses; kept = put p (grow p xs (H.kept p)) H.kept }

      go : (b : Bool) → closed G p ≡ b → Alike (cond b F (more F)) (cond b G (more G))
      go true e = s
      go false e = record { statuses = s.statuses; kept = λ q d. same_put p q (grow p xs) e d }

  same_end : (p : ℕ) → end_answer F p ≡ end_answer G p
  unfolding end_answer
  same_end p = rw (same_closed p) refl

  same_ended : (p : ℕ) → Alike (end_leaves F p) (end_leaves G p)
  unfolding end_leaves
  same_ended p = subst (λ (b : Bool). Alike (cond b F (over F)) (end_leaves G p)) (sym (same_closed p)) (go (closed G p) refl)
    where
      over : Feed → Feed
      over H = record { statuses = H.statuses; kept = put p (shut (H.kept p)) H.kept }

      go : (b : Bool) → closed G p ≡ b → Alike (cond b F (over F)) (cond b G (over G))
      go true e = s
      go false e = record { statuses = s.statuses; kept = λ q d. same_put p q shut e d }

  pub same_call : (c : Call) → answer_to F c ≡ answer_to G c
  unfolding answer_to
  same_call (portion p xs) = same_add p xs
  same_call (word p) = same_end p
  same_call call = same_answer

  pub same_left : (c : Call) → Alike (leaves F c) (leaves G c)
  unfolding leaves
  same_left (portion p xs) = same_grown p xs
  same_left (word p) = same_ended p
  same_left call = same_next

-- states alike answer equally for ever
pub equal_for_ever : (F G : Feed) (cs : List Call) → Alike F G → answers_to F cs ≡ answers_to G cs
unfolding answers_to
equal_for_ever F G [] s = refl
equal_for_ever F G (c ∷ cs) s =
    ap (λ (x : Answer). x ∷ answers_to (leaves F c) cs) (same_call F G s c)
    ∙ ap (λ (xs : List Answer). answer_to G c ∷ xs) (equal_for_ever (leaves F c) (leaves G c) cs (same_left F G s c))

-- ---- calls of the code

pub feed_calls_are : {n : ℕ} {s : FeedLent} {cs : List Call} {xs : List Answer} → FeedCalls n s cs xs → xs ≡ answers_to (feed_in n s) cs
unfolding answers_to
feed_calls_are stop = refl
feed_calls_are {n} {s} (more {s' = s'} {c = c} {x = x} {cs = cs} {xs = xs} told rest) =
    let z = call_answers n s c x s' told in
    ap (λ (y : Answer). y ∷ xs) z.0
    ∙ ap (λ (ys : List Answer). answer_to (feed_in n s) c ∷ ys) (feed_calls_are rest
    ∙ equal_for_ever (feed_in n s') (leaves (feed_in n s) c) cs z.1)

-- THE THEOREM: an opening of n streams and then calls in any order. They are answered as on what is kept; and whatever the portions, the
-- answers without "need more" are those of the whole streams, as many
pub opened_fed : {n : ℕ} {hints : List ℕ} {s : FeedLent} {cs : List Call} {xs : List Answer}
    → FeedOpenedIn n hints s.arrays → FeedCalls n s cs xs
    → (xs ≡ answers_to (opened n hints) cs)
    × ((b : ℕ → List ℕ) → ((p : ℕ) → Brought n hints cs p (b p))
    → heard (opened n hints) cs ≡ answers_f (length (heard (opened n hints) cs)) (λ p. bytes_of (b p)) (start (padded n hints)))
opened_fed {n} {hints} {s} {cs} o x =
    (feed_calls_are x ∙ equal_for_ever (feed_in n s) (opened n hints) cs (o.starts s.window), λ b h. portioned_are n hints cs b h)

-- ---- a record's bytes in the window

covers_lastly : (F : Feed) → Within F.kept F.statuses → (cs ds : List Call) (p : ℕ) (b : List ℕ) → Covers F (cs ++ ds) p b
    → Covers (lastly F cs) ds p b × Within (lastly F cs).kept (lastly F cs).statuses
unfolding lastly
covers_lastly F w [] ds p b h = (h, w)
covers_lastly F w (c ∷ cs) ds p b h = covers_lastly (leaves F c) (call_within F c w) cs ds p b (covers_step F w c (cs ++ ds) p b h)

lastly_snoc : (F : Feed) (cs : List Call) (c : Call) → lastly F (cs ++ c ∷ []) ≡ leaves (lastly F cs) c
unfolding lastly
lastly_snoc F [] c = refl
lastly_snoc F (d ∷ cs) c = lastly_snoc (leaves F d) cs c

-- one call further
pub after_call : (n : ℕ) (hints : List ℕ) (cs : List Call) (s : FeedLent) → After n hints cs s
    → (c : Call) (x : Answer) (s' : FeedLent) → Calling n s c x s' → After n hints (cs ++ c ∷ []) s'
after_call n hints cs s k c x s' told =
    subst (λ (H : Feed). Alike (feed_in n s') H) (sym (lastly_snoc (opened n hints) cs c))
    (alike_trans (call_answers n s c x s' told).1 (same_left (feed_in n s) (lastly (opened n hints) cs) k c))

-- THE THEOREM: the bytes of the record that a call hands out stand in the window, at the index that comes with it, as in the stream
pub window_record : (n : ℕ) (hints : List ℕ) (cs ds : List Call) (s : FeedLent) → After n hints cs s
    → (x : Answer) (s' : FeedLent) → Calling n s call x s'
    → (p : ℕ) (b : List ℕ) → Brought n hints (cs ++ call ∷ ds) p b
    → (a : ℕ) (r : Rec) (ss : List Status) → turn_in (lastly (opened n hints) cs) ≡ replies (says p (record_at_lem a r)) ss
    → take r.size (bytes_in s'.window p (get_or s'.arrays.spans p 0)) ≡ slice a (a + r.size) b
unfolding next_leaves turn_leaves feed_of kept_of opened leaves
window_record n hints cs ds s k x s' told p b br a r ss e =
    let O = opened n hints in
    let F = lastly O cs in
    let z = covers_lastly O (opened_within n hints) cs (call ∷ ds) p b (record { later = br.later; joined = br.joined; none_later = br.none_later }) in
    let like : Alike (feed_in n s') (next_leaves F) = alike_trans (call_answers n s call x s' told).1 (same_left (feed_in n s) F k call) in
    let alive : TurnAlive F.statuses (replies (says p (record_at_lem a r)) ss) = rw e at (turn_alive (known F) F.statuses) in
    let there : get_or (rest⁺ (turn_in F)) p gone ≢ gone = λ i. alive.1 (ap (λ (t : Turn⁺). get_or (rest⁺ t) p gone) (sym e) ∙ i) in
    ap (λ (y : Kept). take r.size y.bytes) (like.kept p there)
    ∙ record_bytes F z.1 ds p b z.0 a r ss e
