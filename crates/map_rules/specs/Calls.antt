-- Calls on lent memory make a history: a memory that holds the table after some events holds it after one more, whatever the
-- name count and the room of the call; a lookup in it gives what the latest accepted insert says; and each refusal is given
-- exactly when the rules' table says, in its order. Assumes nothing.
use Rattle.std.specs.Prelude.{◌≡◌, ◌≢◌, ℕ, ◌%◌, ◌≤◌, ◌<◌, Bool, not, ◌&&◌, cond, length, T, ltb, eqb}
use Rattle.std.proofs.Common.{sym, ◌∙◌, lt→ltb}
use Rattle.std.proofs.Math.Path.{ap}
use native.Mathlib.Omega.{arith}
use mathlib.Core.List.{List, [], ◌∷◌}
use Rattle.std.proofs.Math.Dec.{eqb_refl, not_T}
use Rattle.std.proofs.Math.Facts.{eqb_yes, eqb_no, ltb_yes, ltb_no}
use Rattle.theory.specs.Answer.{Answer, answer}
use Rattle.theory.specs.RunsTools.{cond_case, cond_yes, cond_no}
use Rattle.map_rules.specs.Table.{Row, answer_for, Ordered, Outcome, refused_by, stored, now_stored, if_room, room_fits, names_fit, well_formed, insert_rows, entered, inserted}
use Rattle.map_rules.specs.History.{Event, insertion, after, accepted, history_told}
use Rattle.map_rules.specs.Lookup.{lookup_rows, lookup_rows_right}
use Rattle.map_rules.specs.Memory.{width, same_value, known_value, rows, room_of, insert_outcome, memory_after, outcome_answer, used_after, Gives}
use Rattle.map_rules.specs.Pieces.{symbols}

-- the memory holds the table after these events
abbrev pub Holds : List (Event ℕ) → List ℕ → ℕ → Type 0
Holds es t used = rows t used ≡ after same_value known_value es

module _ (es : List (Event ℕ)) (t : List ℕ) (used : ℕ) (s : Holds es t used) where
  -- one more call of insert
  pub insert_call : (names : ℕ) (n : Row ℕ) (a : Answer) (t' : List ℕ) → length t % width ≡ 0 → Gives (insert_outcome t used names n) t used a t'
      → Holds (insertion names (room_of t) n ∷ es) t' (used_after used (insert_outcome t used names n))
  unfolding after insert_outcome
  insert_call names n a t' h g =
      g.holds
      ∙ ap (λ (o : Outcome (Row ℕ)). now_stored (rows t used) o) (cond_yes (eqb (length t % width) 0) _ _ (rw h (eqb_refl 0)))
      ∙ ap (λ (xs : List (Row ℕ)). now_stored xs (inserted same_value known_value names (room_of t) n xs)) s

  -- memory of an odd length is refused, and stays
  pub odd_call : (names : ℕ) (n : Row ℕ) (a : Answer) (t' : List ℕ) → length t % width ≢ 0 → Gives (insert_outcome t used names n) t used a t'
      → (a ≡ answer 15 []) × (t' ≡ t)
  unfolding insert_outcome memory_after outcome_answer
  odd_call names n a t' h g =
      let e : insert_outcome t used names n ≡ refused_by 15 = cond_no (eqb (length t % width) 0) _ _ (not_T (eqb (length t % width) 0) (λ x. h (eqb_yes x))) in
      (g.answers ∙ ap outcome_answer e, g.memory ∙ ap (memory_after t used) e)

  -- it is in order at any time, so that the promise on lookups holds
  pub in_order_call : Ordered (rows t used)
  in_order_call = rw s (history_told same_value symbols known_value es).in_order

  -- a lookup, with any hint
  pub lookup_call : (i m h : ℕ) → (lookup_rows (rows t used) i m h).said ≡ answer_for (accepted same_value known_value es) i m
  lookup_call i m h =
      lookup_rows_right (rows t used) in_order_call i m h
      ∙ ap (λ (xs : List (Row ℕ)). answer_for xs i m) s
      ∙ (history_told same_value symbols known_value es).latest i m

-- ---- the refusals, each exactly when the table says

-- the number of an outcome: 0 is done
unfoldable pub outcome_number : Outcome (Row ℕ) → ℕ
outcome_number (refused_by c) = c
outcome_number (stored ys) = 0

module _ (names room : ℕ) (n : Row ℕ) (xs : List (Row ℕ)) where
  abbrev lent : Bool
  lent = room_fits room (length xs) && names_fit names

  abbrev formed : Bool
  formed = well_formed same_value known_value names xs

  -- which refusal, if any, comes first in the order
  pub data First : ℕ → Type 0 where
    by_15 : T (not (room_fits room (length xs) && names_fit names)) → First 15
    by_14 : T (room_fits room (length xs) && names_fit names) → T (not (well_formed same_value known_value names xs)) → First 14
    by_1 : T (room_fits room (length xs) && names_fit names) → T (well_formed same_value known_value names xs) → n.end < n.start → First 1
    empty : T (room_fits room (length xs) && names_fit names) → T (well_formed same_value known_value names xs) → n.start ≡ n.end → First 0
    by_3 : T (room_fits room (length xs) && names_fit names) → T (well_formed same_value known_value names xs) → n.start < n.end → names ≤ n.value → First 3
    by_2 : T (room_fits room (length xs) && names_fit names) → T (well_formed same_value known_value names xs) → n.start < n.end → n.value < names
        → room < length (insert_rows same_value n xs) → First 2
    fits : T (room_fits room (length xs) && names_fit names) → T (well_formed same_value known_value names xs) → n.start < n.end → n.value < names
        → length (insert_rows same_value n xs) ≤ room → First 0

  pub refused_first : First (outcome_number (inserted same_value known_value names room n xs))
  unfolding inserted entered if_room outcome_number
  refused_first =
      let P : Outcome (Row ℕ) → Type 0 = λ o. First (outcome_number o) in
      cond_case P lent _ _ (λ b.
      cond_case P formed _ _ (λ f.
      cond_case P (ltb n.end n.start) _ _ (λ h. by_1 b f (ltb_yes h)) (λ h.
      cond_case P (eqb n.start n.end) _ _ (λ e. empty b f (eqb_yes e)) (λ e.
      let d : n.start ≢ n.end = eqb_no e in
      let h'' : n.start ≤ n.end = ltb_no h in
      let l : n.start < n.end = omega arith in
      cond_case P (ltb n.value names) _ _ (λ k.
      cond_case P (ltb room (length (insert_rows same_value n xs))) _ _ (λ r. by_2 b f l (ltb_yes k) (ltb_yes r)) (λ r. fits b f l (ltb_yes k) (ltb_no r)))
      (λ k. by_3 b f l (ltb_no k))))) (λ f. by_14 b f)) (λ b. by_15 b)

  not_less : (a b : ℕ) → b ≤ a → T (not (ltb a b))
  not_less a b h = not_T (ltb a b) (λ x. let k : a < b = ltb_yes x in absurd (omega arith))

  not_equal : (a b : ℕ) → a < b → T (not (eqb a b))
  not_equal a b h = not_T (eqb a b) (λ x. let k : a ≡ b = eqb_yes x in absurd (omega arith))

  passes : T lent → T formed → inserted same_value known_value names room n xs ≡ entered same_value known_value names room n xs
  unfolding inserted
  passes b f = cond_yes lent _ _ b ∙ cond_yes formed _ _ f

  forward : T lent → T formed → n.start < n.end
      → inserted same_value known_value names room n xs ≡ cond (ltb n.value names) (if_room room (insert_rows same_value n xs)) (refused_by 3)
  unfolding entered
  forward b f l = passes b f ∙ cond_no (ltb n.end n.start) _ _ (not_less n.end n.start (omega arith)) ∙ cond_no (eqb n.start n.end) _ _ (not_equal n.start n.end l)

  -- and the other way: the number that is first is the one that is given
  pub first_refused : {c : ℕ} → First c → outcome_number (inserted same_value known_value names room n xs) ≡ c
  unfolding inserted entered if_room outcome_number
  first_refused (by_15 b) = ap outcome_number (cond_no lent _ _ b)
  first_refused (by_14 b f) = ap outcome_number (cond_yes lent _ _ b ∙ cond_no formed _ _ f)
  first_refused (by_1 b f l) = ap outcome_number (passes b f ∙ cond_yes (ltb n.end n.start) _ _ (lt→ltb n.end n.start l))
  first_refused (empty b f e) =
      ap outcome_number (passes b f ∙ cond_no (ltb n.end n.start) _ _ (not_less n.end n.start (omega arith))
      ∙ cond_yes (eqb n.start n.end) _ _ (rw e (eqb_refl n.end)))
  first_refused (by_3 b f l k) = ap outcome_number (forward b f l ∙ cond_no (ltb n.value names) _ _ (not_less n.value names k))
  first_refused (by_2 b f l k r) =
      ap outcome_number (forward b f l ∙ cond_yes (ltb n.value names) _ _ (lt→ltb n.value names k)
      ∙ cond_yes (ltb room (length (insert_rows same_value n xs))) _ _ (lt→ltb room (length (insert_rows same_value n xs)) r))
  first_refused (fits b f l k r) =
      ap outcome_number (forward b f l ∙ cond_yes (ltb n.value names) _ _ (lt→ltb n.value names k)
      ∙ cond_no (ltb room (length (insert_rows same_value n xs))) _ _ (not_less room (length (insert_rows same_value n xs)) r))

  -- so only one number is first
  pub only_first : {c d : ℕ} → First c → First d → c ≡ d
  only_first x y = sym (first_refused x) ∙ first_refused y
