-- Calls on lent memory one after the other: inserts, refused ones among them, and lookups between, from a table with 0 in use or from
-- one that a build left. Each step is the contract of its call, and the caller goes by the answers alone: they tell how many intervals
-- are in use and which inserts were done. Demand 3 of the bytes then is one statement. Assumes nothing.
use Rattle.std.specs.Prelude.{◌≡◌, refl, ◌≢◌, ◌↔◌, ℕ, zero, suc, ◌%◌, ◌≤◌, ◌<◌, Bool, true, false, not, ◌&&◌, ◌||◌, List, [], ◌∷◌, length, T, ltb, eqb}
use Rattle.std.proofs.Common.{sym, ap, ap₂, ◌∙◌, subst, arith}
use Rattle.std.proofs.Math.Decide.{ℕ_discrete}
use Rattle.std.proofs.Math.Dec.{eqb_refl}
use Rattle.std.proofs.Math.Facts.{eqb_no, ltb_no}
use Rattle.theory.specs.Answer.{Answer, answer}
use Rattle.theory.specs.Runs.{Mem, IsRun}
use Rattle.theory.specs.RunsTools.{cond_case, cond_yes, T_right}
use Rattle.theory.proofs.RunsLongest.{Rising}
use Rattle.map_rules.specs.Table.{Row, interval_of, group, answer_for, Ordered, ordered, Outcome, refused_by, stored, now_stored, if_room, room_fits, names_fit, well_formed, insert_rows, entered, inserted}
use Rattle.map_rules.specs.Tests.{ordered_iff}
use Rattle.map_rules.specs.Groups.{Sorted}
use Rattle.map_rules.specs.Rules.{rows_other, rows_before, rows_after}
use Rattle.map_rules.specs.History.{Event, insertion, after, noted, accepted, stored_runs, stored_only}
use Rattle.map_rules.specs.Lookup.{lookup_rows}
use Rattle.map_rules.specs.Memory.{width, same_value, known_value, rows_from, rows, room_of, table_fits, insert_outcome, outcome_answer, used_after, Gives}
use Rattle.map_rules.specs.Pieces.{symbols}
use Rattle.map_rules.specs.Looks.{said_answer, lookup_answer, lookup_hint}
use Rattle.map_rules.specs.Calls.{Holds, insert_call, odd_call, in_order_call, lookup_call}

-- ---- what a caller learns from an answer

-- the number in use then: the first value of a call that was done, else as before
unfoldable pub used_told : ℕ → Answer → ℕ
used_told used (answer zero []) = used
used_told used (answer zero (u ∷ us)) = u
used_told used (answer (suc c) us) = used

-- the inserts that were done then, the latest first, where the call was one of n
unfoldable pub done_told : Row ℕ → List (Row ℕ) → Answer → List (Row ℕ)
done_told n ns (answer zero us) = n ∷ ns
done_told n ns (answer (suc c) us) = ns

-- ---- the steps

-- inserts as events, the latest first, where so many names are known and the table has this room
unfoldable pub events : ℕ → ℕ → List (Row ℕ) → List (Event ℕ)
events names room [] = []
events names room (n ∷ ns) = insertion names room n ∷ events names room ns

-- the rows ys are those after the inserts ns into an empty table, each of them done, and the table is well-formed and fits: a build's
pub record Comes (names room : ℕ) (ns ys : List (Row ℕ)) : Type 0 where
  pub history : ys ≡ after same_value known_value (events names room ns)
  pub each : accepted same_value known_value (events names room ns) ≡ ns
  pub formed : T (well_formed same_value known_value names ys)
  pub fits : length ys ≤ room

-- what a lookup promises of its answer a and of the hint h'' that it leaves
abbrev pub LooksUp : List ℕ → ℕ → ℕ → ℕ → ℕ → Answer → ℕ → Type 0
LooksUp t used i m h a h'' =
    T (not (table_fits (length t) used) || ordered same_value (rows t used)) → (a ≡ lookup_answer t used i m h) × (h'' ≡ lookup_hint t used i m h)

-- calls one after the other: the inserts that were done, the latest first, the memory and the number in use then
pub data Trace : List (Row ℕ) → List ℕ → ℕ → Type 0 where
  empty : (t : List ℕ) → Trace [] t 0
  build : (names room : ℕ) (ns : List (Row ℕ)) (t : List ℕ) (used : ℕ) → Comes names room ns (rows t used) → Trace ns t used
  insert : {ns : List (Row ℕ)} {t : List ℕ} {used : ℕ} → Trace ns t used → (names : ℕ) (n : Row ℕ) (a : Answer) (t' : List ℕ)
      → Gives (insert_outcome t used names n) t used a t' → Trace (done_told n ns a) t' (used_told used a)
  look : {ns : List (Row ℕ)} {t : List ℕ} {used : ℕ} → Trace ns t used → (i m h : ℕ) (a : Answer) (h'' : ℕ)
      → LooksUp t used i m h a h'' → Trace ns t used

-- ---- each trace is a history

-- the answer tells the number in use
pub used_told_lem : (used : ℕ) (o : Outcome (Row ℕ)) → used_told used (outcome_answer o) ≡ used_after used o
unfolding used_told outcome_answer used_after
used_told_lem used (refused_by zero) = refl
used_told_lem used (refused_by (suc c)) = refl
used_told_lem used (stored ys) = refl

-- and whether the insert was done: no refusal has the number 0
pub done_told_lem : (names room : ℕ) (n : Row ℕ) (xs ns : List (Row ℕ))
    → done_told n ns (outcome_answer (inserted same_value known_value names room n xs)) ≡ noted n ns (inserted same_value known_value names room n xs)
unfolding done_told outcome_answer noted inserted entered if_room
done_told_lem names room n xs ns =
    let P : Outcome (Row ℕ) → Type 0 = λ o. done_told n ns (outcome_answer o) ≡ noted n ns o in
    cond_case P (room_fits room (length xs) && names_fit names) _ _ (λ b.
    cond_case P (well_formed same_value known_value names xs) _ _ (λ f.
    cond_case P (ltb n.end n.start) _ _ (λ h. refl) (λ h.
    cond_case P (eqb n.start n.end) _ _ (λ e. refl) (λ e.
    cond_case P (ltb n.value names) _ _ (λ k.
    cond_case P (ltb room (length (insert_rows same_value n xs))) _ _ (λ r. refl) (λ r. refl))
    (λ k. refl)))) (λ f. refl)) (λ b. refl)

-- a history whose accepted inserts are these, and the memory holds the table after it
pub record Lived (ns : List (Row ℕ)) (t : List ℕ) (used : ℕ) : Type 0 where
  pub past : List (Event ℕ)
  pub held : Holds past t used
  pub each : accepted same_value known_value past ≡ ns

pub lived : {ns : List (Row ℕ)} {t : List ℕ} {used : ℕ} → Trace ns t used → Lived ns t used
unfolding after accepted rows_from done_told used_told insert_outcome
lived (empty t) = record { past = []; held = refl; each = refl }
lived (build names room ns t used c) = record { past = events names room ns; held = c.history; each = c.each }
lived (look c i m h a h'' p) = lived c
lived (insert {ns} {t} {used} c names n a t' g) = go (lived c) (ℕ_discrete (length t % width) 0)
  where
    even : length t % width ≡ 0 → insert_outcome t used names n ≡ inserted same_value known_value names (room_of t) n (rows t used)
    even e = cond_yes (eqb (length t % width) 0) _ _ (rw e (eqb_refl 0))

    go : Lived ns t used → Dec (length t % width ≡ 0) → Lived (done_told n ns a) t' (used_told used a)
    go l (yes e) = record {
      past = insertion names (room_of t) n ∷ l.past;
      held = ap (rows t') (ap (used_told used) g.answers ∙ used_told_lem used (insert_outcome t used names n)) ∙ insert_call l.past t used l.held names n a t' e g;
      each =
          ap₂ (λ (xs : List (Row ℕ)) (ys : List (Row ℕ)). noted n ys (inserted same_value known_value names (room_of t) n xs)) (sym l.held) l.each
          ∙ sym (done_told_lem names (room_of t) n (rows t used) ns)
          ∙ ap (λ (x : Outcome (Row ℕ)). done_told n ns (outcome_answer x)) (sym (even e))
          ∙ ap (done_told n ns) (sym g.answers);
    }
    go l (no e) =
        let p = odd_call l.past t used l.held names n a t' e g in
        rw (p.0, p.1) l

-- ---- demand 3 of lent bytes

pub record Demanded (ns : List (Row ℕ)) (t : List ℕ) (used : ℕ) : Type 0 where
  -- the rows are in order, so that the promise on lookups holds
  pub in_order : Ordered (rows t used)
  -- the latest insert that was done and covers the moment decides: what every lookup answers, with any hint
  pub decides : (i m h : ℕ) (a : Answer) (h'' : ℕ) → LooksUp t used i m h a h'' → table_fits (length t) used ≡ true → a ≡ said_answer h'' (answer_for ns i m)
  -- the intervals are exactly the longest runs of that answer
  pub runs : (x : Row ℕ) → Mem x (rows t used) ↔ IsRun (answer_for ns x.instrument) (interval_of x)
  -- only one list fits
  pub only : (ys : List (Row ℕ)) → Sorted ys → ((i : ℕ) → Rising (group i ys))
      → ((y : Row ℕ) → Mem y ys ↔ IsRun (answer_for ns y.instrument) (interval_of y)) → ys ≡ rows t used

-- THE THEOREM: it holds after any calls
pub demanded : {ns : List (Row ℕ)} {t : List ℕ} {used : ℕ} → Trace ns t used → Demanded ns t used
unfolding lookup_answer lookup_hint
demanded {ns} {t} {used} c =
    let l : Lived ns t used = lived c in
    let o : Ordered (rows t used) = in_order_call l.past t used l.held in
    let Runs : List (Row ℕ) → List (Row ℕ) → Row ℕ → Type 0 = λ xs ac x. Mem x xs ↔ IsRun (answer_for ac x.instrument) (interval_of x) in
    record {
      in_order = o;
      decides = λ i m h a h'' p f.
          let q = p (T_right (not (table_fits (length t) used)) (ordered same_value (rows t used)) ((ordered_iff same_value symbols (rows t used)).1 o)) in
          q.0 ∙ told i m h f l.past l.held l.each ∙ ap (λ (k : ℕ). said_answer k (answer_for ns i m)) (sym q.1);
      runs = λ x. subst (λ (ac : List (Row ℕ)). Runs (rows t used) ac x) l.each
          (subst (λ (xs : List (Row ℕ)). Runs xs (accepted same_value known_value l.past) x) (sym l.held) (stored_runs same_value symbols known_value l.past x));
      only = λ ys s r g. stored_only same_value symbols known_value l.past ys s r
          (λ y. subst (λ (ac : List (Row ℕ)). Runs ys ac y) (sym l.each) (g y)) ∙ sym l.held;
    }
  where
    told : (i m h : ℕ) → table_fits (length t) used ≡ true → (es : List (Event ℕ)) → Holds es t used → accepted same_value known_value es ≡ ns
        → lookup_answer t used i m h ≡ said_answer (lookup_hint t used i m h) (answer_for ns i m)
    told i m h f es s e =
        rw f (ap (said_answer (lookup_rows (rows t used) i m h).hint) (lookup_call es t used s i m h ∙ ap (λ (ac : List (Row ℕ)). answer_for ac i m) e))

-- ---- what an insert leaves alone

-- x is of another instrument than n, or ends before n starts, or starts after n ends
pub data Away (n x : Row ℕ) : Type 0 where
  other : n.instrument ≢ x.instrument → Away n x
  before : n.instrument ≡ x.instrument → x.end < n.start → Away n x
  behind : n.instrument ≡ x.instrument → n.end < x.start → Away n x

module _ (names room : ℕ) (n : Row ℕ) (xs : List (Row ℕ)) (w : Ordered xs) (x : Row ℕ) (a : Away n x) where
  leaves : n.start < n.end → Away n x → Mem x xs ↔ Mem x (insert_rows same_value n xs)
  leaves h (other d) = rows_other same_value symbols n xs h w x d
  leaves h (before e d) = rows_before same_value symbols n xs h w x e d
  leaves h (behind e d) = rows_after same_value symbols n xs h w x e d

  pub insert_leaves : Mem x xs ↔ Mem x (now_stored xs (inserted same_value known_value names room n xs))
  unfolding inserted entered if_room now_stored
  insert_leaves =
      let P : Outcome (Row ℕ) → Type 0 = λ o. Mem x xs ↔ Mem x (now_stored xs o) in
      let k : Mem x xs ↔ Mem x xs = (λ y. y, λ y. y) in
      cond_case P (room_fits room (length xs) && names_fit names) _ _ (λ b.
      cond_case P (well_formed same_value known_value names xs) _ _ (λ f.
      cond_case P (ltb n.end n.start) _ _ (λ h. k) (λ h.
      cond_case P (eqb n.start n.end) _ _ (λ e. k) (λ e.
      let d : n.start ≢ n.end = eqb_no e in
      let l : n.start ≤ n.end = ltb_no h in
      cond_case P (ltb n.value names) _ _ (λ v.
      cond_case P (ltb room (length (insert_rows same_value n xs))) _ _ (λ r. k) (λ r. leaves (omega arith) a))
      (λ v. k)))) (λ f. k)) (λ b. k)

-- so a call of insert leaves those intervals in the bytes, and brings none there
pub call_leaves : {ns : List (Row ℕ)} {t : List ℕ} {used : ℕ} → Trace ns t used → (names : ℕ) (n : Row ℕ) (a : Answer) (t' : List ℕ)
    → Gives (insert_outcome t used names n) t used a t' → (x : Row ℕ) → Away n x → Mem x (rows t used) ↔ Mem x (rows t' (used_told used a))
unfolding insert_outcome now_stored
call_leaves {ns} {t} {used} c names n a t' g x y =
    let s : rows t' (used_told used a) ≡ now_stored (rows t used) (insert_outcome t used names n) =
    ap (rows t') (ap (used_told used) g.answers ∙ used_told_lem used (insert_outcome t used names n)) ∙ g.holds in
    subst (λ (zs : List (Row ℕ)). Mem x (rows t used) ↔ Mem x zs) (sym s)
    (cond_case (λ (o : Outcome (Row ℕ)). Mem x (rows t used) ↔ Mem x (now_stored (rows t used) o)) (eqb (length t % width) 0) _ _
    (λ e. insert_leaves names (room_of t) n (rows t used) (demanded c).in_order x y) (λ e. (λ k. k, λ k. k)))
