-- Any history of inserts, refused ones among them, each with its own name count and room, and lookups between with any hint:
-- the latest accepted insert with start <= moment < end decides (RULES, Demands, 3), the stored rows are exactly the longest runs
-- of that answer, and a lookup gives it whatever the hint. Assumes nothing.
use Rattle.std.specs.Prelude.{◌≡◌, ◌≢◌, ◌↔◌, ℕ, ◌≤◌, ◌<◌, Bool, ◌&&◌, length, eqb}
use Rattle.std.proofs.Math.Path.{refl}
use Rattle.std.proofs.Common.{sym, ◌∙◌}
use native.Mathlib.Omega.{arith}
use Rattle.std.proofs.Math.Option.{Option}
use mathlib.Core.List.{List, [], ◌∷◌}
use Rattle.std.proofs.Math.Dec.{T}
use Rattle.std.proofs.Math.Facts.{eqb_yes, eqb_no}
use Rattle.theory.specs.Runs.{answer_at, Mem, IsRun, Same}
use Rattle.theory.specs.RunsTools.{cond_case, ltb_case, T_and}
use Rattle.theory.proofs.RunsLongest.{Rising, same_run}
use Rattle.map_rules.specs.Table.{Row, interval_of, group, answer_for, Ordered, all_known, Outcome, refused_by, stored, now_stored, if_room, room_fits, names_fit, well_formed, insert_rows, entered, inserted}
use Rattle.map_rules.specs.Tests.{formed_parts, formed_both, memory_good}
use Rattle.map_rules.specs.Groups.{Sorted}
use Rattle.map_rules.specs.Rules.{rows_longest, only_rows, front, empty_front, rows_ok, rows_answer_lem, known_answers}
use Rattle.map_rules.specs.Lookup.{lookup_rows, lookup_rows_right}

-- ---- definitions

-- what happens to a table: an insert, with the name count and the room at that time, or a lookup
pub data Event (A : Type 0) : Type 0 where
  insertion : ℕ → ℕ → Row A → Event A
  look : ℕ → ℕ → ℕ → Event A

module _ {X : Type 0} where
  -- the accepted inserts after one more, the latest first
  unfoldable pub noted : X → List X → Outcome X → List X
  noted n ns (refused_by c) = ns
  noted n ns (stored ys) = n ∷ ns

module _ {A : Type 0} (same : A → A → Bool) (known : ℕ → A → Bool) where
  -- the table after these events, the latest first, on one that was empty
  unfoldable pub after : List (Event A) → List (Row A)
  unfolding now_stored inserted
  after [] = []
  after (insertion names room n ∷ es) = let xs = after es in now_stored xs (inserted same known names room n xs)
  after (look i m h ∷ es) = after es

  -- the accepted inserts among them, the latest first
  unfoldable pub accepted : List (Event A) → List (Row A)
  unfolding noted inserted after
  accepted [] = []
  accepted (insertion names room n ∷ es) = noted n (accepted es) (inserted same known names room n (after es))
  accepted (look i m h ∷ es) = accepted es

-- ---- laws

-- what an accepted insert leaves: a well-formed table that fits the room and answers as if the new row stood in front
module _ {A : Type 0} (same : A → A → Bool) (laws : Same same) (known : ℕ → A → Bool) where
  pub record Accepted (names room : ℕ) (n : Row A) (xs ys : List (Row A)) : Type 0 where
    pub formed : T (well_formed same known names ys)
    pub fits : length ys ≤ room
    pub answers : (i m : ℕ) → answer_for ys i m ≡ answer_for (n ∷ xs) i m

  abbrev AcceptedIf : ℕ → ℕ → Row A → List (Row A) → Outcome (Row A) → Type 0
  AcceptedIf names room n xs (refused_by c) = Unit {0}
  AcceptedIf names room n xs (stored ys) = Accepted names room n xs ys

  pub entered_ok : (names room : ℕ) (n : Row A) (xs : List (Row A)) → length xs ≤ room → T (well_formed same known names xs)
      → AcceptedIf names room n xs (entered same known names room n xs)
  unfolding entered if_room all_known
  entered_ok names room n xs l f =
      ltb_case (λ (o : Outcome (Row A)). AcceptedIf names room n xs o) n.end n.start _ _ (λ i. tt) (λ i.
      cond_case (λ (o : Outcome (Row A)). AcceptedIf names room n xs o) (eqb n.start n.end) _ _
      (λ t. let e : n.start ≡ n.end = eqb_yes t in
      record { formed = f; fits = l; answers = λ i m. empty_front n xs i m e }) (λ t.
      let d : n.start ≢ n.end = eqb_no t in
      let h : n.start < n.end = omega arith in
      let w : Ordered xs = (formed_parts same laws known names xs f).0 in
      cond_case (λ (o : Outcome (Row A)). AcceptedIf names room n xs o) (known names n.value) _ _ (λ k.
      ltb_case (λ (o : Outcome (Row A)). AcceptedIf names room n xs o) room (length (insert_rows same n xs)) _ _ (λ j. tt) (λ j.
      record {
        formed = formed_both same laws known names (insert_rows same n xs) (rows_ok same laws n xs h w)
            (known_answers (known names) (n ∷ xs) (insert_rows same n xs) (rows_ok same laws n xs h w) (rows_answer_lem same laws n xs h w)
            (known_front names n xs k (formed_parts same laws known names xs f).1));
        fits = j;
        answers = rows_answer_lem same laws n xs h w;
      })) (λ k. tt)))
    where
      known_front : (names : ℕ) (n : Row A) (xs : List (Row A)) → T (known names n.value) → T (all_known (known names) xs) → T (all_known (known names) (n ∷ xs))
      known_front names n xs a b = T_and (known names n.value) (all_known (known names) xs) a b

  pub inserted_ok : (names room : ℕ) (n : Row A) (xs : List (Row A)) → AcceptedIf names room n xs (inserted same known names room n xs)
  unfolding inserted
  inserted_ok names room n xs =
      cond_case (λ (o : Outcome (Row A)). AcceptedIf names room n xs o) (room_fits room (length xs) && names_fit names) _ _ (λ t.
      cond_case (λ (o : Outcome (Row A)). AcceptedIf names room n xs o) (well_formed same known names xs) _ _
      (λ f. entered_ok names room n xs (memory_good room (length xs) names t).0.in_use f) (λ f. tt)) (λ t. tt)

  -- what holds of the table after any events
  pub record Told (xs ac : List (Row A)) : Type 0 where
    pub in_order : Ordered xs
    pub latest : (i m : ℕ) → answer_for xs i m ≡ answer_for ac i m

  pub history_told : (es : List (Event A)) → Told (after same known es) (accepted same known es)
  unfolding after now_stored accepted noted answer_for group answer_at
  history_told [] = record { in_order = tt; latest = λ i m. refl }
  history_told (look i m h ∷ es) = history_told es
  history_told (insertion names room n ∷ es) = go (inserted same known names room n xs) (inserted_ok names room n xs) (history_told es)
    where
      xs : List (Row A)
      xs = after same known es

      ac : List (Row A)
      ac = accepted same known es

      go : (o : Outcome (Row A)) → AcceptedIf names room n xs o → Told xs ac → Told (now_stored xs o) (noted n ac o)
      go (refused_by c) h t = t
      go (stored ys) h t = record {
        in_order = (formed_parts same laws known names ys h.formed).0;
        latest = λ i m. h.answers i m ∙ front n xs ac i m (t.latest i m);
      }

  -- the stored rows are exactly the longest unbroken runs of what the latest accepted inserts say
  pub stored_runs : (es : List (Event A)) (x : Row A)
      → Mem x (after same known es) ↔ IsRun (answer_for (accepted same known es) x.instrument) (interval_of x)
  stored_runs es x =
      let t : Told (after same known es) (accepted same known es) = history_told es in
      let f : ℕ → Option A = answer_for (after same known es) x.instrument in
      let g : ℕ → Option A = answer_for (accepted same known es) x.instrument in
      let l : Mem x (after same known es) ↔ IsRun f (interval_of x) = rows_longest (after same known es) t.in_order x in (
        λ h. same_run f g (t.latest x.instrument) (interval_of x) (l.0 h),
        λ h. l.1 (same_run g f (λ m. sym (t.latest x.instrument m)) (interval_of x) h),
      )

  -- and only one list fits
  pub stored_only : (es : List (Event A)) (ys : List (Row A)) → Sorted ys → ((i : ℕ) → Rising (group i ys))
      → ((y : Row A) → Mem y ys ↔ IsRun (answer_for (accepted same known es) y.instrument) (interval_of y)) → ys ≡ after same known es
  stored_only es ys s r g = only_rows (answer_for (accepted same known es)) (after same known es) ys (history_told es).in_order (history_told es).latest s r g

  -- a lookup at any time, with any hint
  pub looked_up : (es : List (Event A)) (i m h : ℕ) → (lookup_rows (after same known es) i m h).said ≡ answer_for (accepted same known es) i m
  looked_up es i m h = lookup_rows_right (after same known es) (history_told es).in_order i m h ∙ (history_told es).latest i m
