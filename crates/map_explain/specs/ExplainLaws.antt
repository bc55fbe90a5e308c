-- The code's way to the reason: where the instrument begins and how far the moment reaches tell the last interval that has started, and
-- the interval at the place behind tells the rest. Each way ends in a reason that holds, and no other does. Assumes nothing.
use Rattle.std.specs.Prelude.{◌≡◌, ◌≢◌, Bool, true, ◌&&◌, cond, length}
use Rattle.std.proofs.Math.Path.{refl, sym, ap}
use Rattle.std.proofs.Common.{◌∙◌, add-zero, lt→ltb}
use Prim.Native.Nat.{ℕ, zero, suc, ◌+◌, ◌-◌, ◌≤◌, ◌<◌}
use Rattle.std.proofs.Math.Decide.{dec_lt, ℕ_discrete}
use native.Mathlib.Omega.{arith}
use Rattle.std.proofs.Math.Bool.{false}
use Rattle.std.proofs.lemmas.Bool.{false≢true}
use Rattle.std.proofs.Math.Option.{none, some}
use mathlib.Core.List.{List, [], ◌∷◌, ◌++◌}
use Rattle.std.proofs.Math.ListN.{get_elem?}
use Rattle.std.proofs.Math.Dec.{T, ltb, eqb, eqb_refl}
use Rattle.std.proofs.Math.Arith.{le→nltb}
use Rattle.std.proofs.Math.Facts.{eqb_yes, ltb_yes}
use Rattle.theory.specs.Answer.{answer}
use Rattle.theory.specs.Bools.{true_T, T_true, T_false}
use Rattle.theory.specs.Runs.{Interval}
use Rattle.theory.specs.RunsTools.{cond_lt, cond_ge, T_fst, T_snd, T_nor_l, none_some, some_same}
use Rattle.map_rules.specs.Table.{Row, interval_of, group, Ordered, names_fit, well_formed}
use Rattle.map_rules.specs.Groups.{Sorted, formed_iff}
use Rattle.map_rules.specs.Lookup.{started}
use Rattle.map_rules.specs.Places.{own, own_yes, own_no, lower, group_place, started_place}
use Rattle.map_rules.specs.Memory.{same_value, known_value, row_at, rows, table_fits, check_answer}
use Rattle.map_rules.specs.Outcomes.{Lent, memory_lent, memory_holds, checked_ordered}
use Rattle.map_rules.specs.Search.{row_in, row_out}
use Rattle.map_rules.specs.Looks.{number_in, Begun, Reach}
use Rattle.map_explain.specs.Reason.{Reason, in_one, unknown, before, after, between, explained_rows, Holds}
use Rattle.map_explain.specs.ReasonLaws.{reason_only}
use Rattle.map_explain.specs.Explain.{Value, numbers_of, reason_answer, rows_answer, own_at, InOrder, Placed}

-- ---- the interval at a place

module _ (t : List ℕ) (used k i : ℕ) where
  -- how the code finds out whose it is
  pub own_out : used ≤ k → own_at t used k i ≡ false
  unfolding own_at
  own_out h = T_false _ (T_nor_l (ltb k used) _ (le→nltb k used h))

  pub own_in : {b : Bool} → k < used → eqb (row_at t k).instrument i ≡ b → own_at t used k i ≡ b
  unfolding own_at
  own_in h e j = T_true (ltb k used) (lt→ltb k used h) j && e j

  row_own : k < used → (row_at t k).instrument ≡ i → own i (get_elem? (rows t used) k) ≡ some (interval_of (row_at t k))
  row_own h e = ap (own i) (row_in t used k h) ∙ own_yes i (row_at t k) e

  row_other : k < used → (row_at t k).instrument ≢ i → own i (get_elem? (rows t used) k) ≡ none
  row_other h d = ap (own i) (row_in t used k h) ∙ own_no i (row_at t k) d

  row_past : used ≤ k → own i (get_elem? (rows t used) k) ≡ none
  unfolding own
  row_past h = ap (own i) (row_out t used k h)

  own_yes_row : own_at t used k i ≡ true → own i (get_elem? (rows t used) k) ≡ some (interval_of (row_at t k))
  unfolding own_at
  own_yes_row e =
      let a : T (ltb k used && eqb (row_at t k).instrument i) = true_T _ e in
      row_own (ltb_yes (T_fst (ltb k used) _ a)) (eqb_yes (T_snd (ltb k used) _ a))

  pub own_within : {b : Bool} → b ≡ own_at t used k i → b ≡ true → k < used
  unfolding own_at
  own_within e f = ltb_yes (T_fst (ltb k used) (eqb (row_at t k).instrument i) (true_T _ (sym e ∙ f)))

  own_no_row : own_at t used k i ≡ false → own i (get_elem? (rows t used) k) ≡ none
  unfolding own_at
  own_no_row e = go (dec_lt k used) (ℕ_discrete (row_at t k).instrument i)
    where
      go : Dec (k < used) → Dec ((row_at t k).instrument ≡ i) → own i (get_elem? (rows t used) k) ≡ none
      go (no h) d = row_past (omega arith)
      go (yes h) (no d) = row_other h d
      go (yes h) (yes d) =
          let a : ltb k used ≡ true = T_true (ltb k used) (lt→ltb k used h) in
          let b : eqb (row_at t k).instrument i ≡ true = T_true _ (rw d (eqb_refl i)) in
          absurd (false≢true (sym e ∙ (λ j. a j && b j)))

  -- an own interval there is the stored one
  own_is : (x : Interval Value) → own i (get_elem? (rows t used) k) ≡ some x → x ≡ interval_of (row_at t k)
  own_is x e = go (dec_lt k used) (ℕ_discrete (row_at t k).instrument i)
    where
      go : Dec (k < used) → Dec ((row_at t k).instrument ≡ i) → x ≡ interval_of (row_at t k)
      go (no h) d = absurd (none_some _ x (row_past (omega arith)) e)
      go (yes h) (no d) = absurd (none_some _ x (row_other h d) e)
      go (yes h) (yes d) = some_same _ x (interval_of (row_at t k)) e (row_own h d)

-- ---- the last that has started, and the next

module _ {A : Type 0} where
  -- interval number k, which has started
  record Last (g : List (Interval A)) (m k : ℕ) : Type 0 where
    x : Interval A
    there : get_elem? g k ≡ some x
    begun : x.start ≤ m

  last_started : (g : List (Interval A)) (m k : ℕ) → started g m ≡ suc k → Last g m k
  unfolding started
  last_started [] m k e = absurd (omega arith)
  last_started (x ∷ xs) m k e = go (dec_lt m x.start) k e (last_started xs m)
    where
      go : Dec (m < x.start) → (k : ℕ) → started (x ∷ xs) m ≡ suc k → ((j : ℕ) → started xs m ≡ suc j → Last xs m j)
          → Last (x ∷ xs) m k
      go (yes h) k e f = absurd (let z : started (x ∷ xs) m ≡ 0 = cond_lt m x.start 0 (suc (started xs m)) h in omega arith)
      go (no h) zero e f = record { x = x; there = refl; begun = omega arith }
      go (no h) (suc k) e f =
          let z : started (x ∷ xs) m ≡ suc (started xs m) = cond_ge m x.start 0 (suc (started xs m)) (omega arith) in
          let l : Last xs m k = f k (omega arith) in
          record { x = l.x; there = l.there; begun = l.begun }

  -- the one behind them starts later
  next_later : (g : List (Interval A)) (m : ℕ) (y : Interval A) → get_elem? g (started g m) ≡ some y → m < y.start
  unfolding started
  next_later [] m y e = absurd (none_some none y refl e)
  next_later (x ∷ xs) m y e = go (dec_lt m x.start) (next_later xs m y)
    where
      go : Dec (m < x.start) → (get_elem? xs (started xs m) ≡ some y → m < y.start) → m < y.start
      go (yes h) f =
          let z : get_elem? (x ∷ xs) 0 ≡ some y = ap (get_elem? (x ∷ xs)) (sym (cond_lt m x.start 0 (suc (started xs m)) h)) ∙ e in
          rw (← some_same (some x) x y refl z) h
      go (no h) f = f (ap (get_elem? (x ∷ xs)) (sym (cond_ge m x.start 0 (suc (started xs m)) (omega arith))) ∙ e)

  none_there : (g : List (Interval A)) → get_elem? g 0 ≡ none → g ≡ []
  none_there [] e = refl
  none_there (x ∷ xs) e = absurd (none_some (some x) x e refl)

-- ---- each way through the code

-- what both searches tell
pub placed : {t : List ℕ} {used i m g u : ℕ} → InOrder t used → (Ordered (rows t used) → Begun t used i g 0)
    → (Ordered (rows t used) → Begun t used i g 0 → Reach t used i m u u) → u ≤ used → Placed t used i m g u
placed o a b h =
    record { table = o; begins = a o.order; reaches = b o.order (a o.order); within = h }

module _ {t : List ℕ} {used i m g u : ℕ} (p : Placed t used i m g u) where
  abbrev G : List (Interval Value)
  G = group i (rows t used)

  w : Ordered (rows t used)
  w = p.table.order

  sorted : Sorted (rows t used)
  sorted = ((formed_iff (rows t used)).0 w).sorted

  at_place : (k : ℕ) → get_elem? G k ≡ own i (get_elem? (rows t used) (g + k))
  at_place k =
      let z : lower i (rows t used) ≡ g = omega (arith, p.begins.from, p.begins.upto) in
      group_place i (rows t used) sorted k ∙ ap (λ (c : ℕ). own i (get_elem? (rows t used) (c + k))) z

  started_is : u ≡ g + started G m
  started_is =
      omega (arith, p.begins.from, p.begins.upto, p.reaches.from, p.reaches.upto, started_place i m (rows t used) sorted)

  gives : (r : Reason Value) → Holds G m r → reason_answer r ≡ rows_answer t used i m
  unfolding explained_rows
  gives r o = ap reason_answer (sym (reason_only G m r (((formed_iff (rows t used)).0 w).groups i) o))

  -- where none has started
  module _ (h : u ≤ g) where
    first_place : get_elem? G 0 ≡ own i (get_elem? (rows t used) g)
    first_place = at_place 0 ∙ ap (λ (c : ℕ). own i (get_elem? (rows t used) c)) (add-zero g)

    pub unknown_told : own_at t used g i ≡ false → answer 0 (2 ∷ []) ≡ rows_answer t used i m
    unfolding reason_answer
    unknown_told e = gives unknown (none_there G (first_place ∙ own_no_row t used g i e))

    pub before_told : {x : Row Value} {vs : List ℕ} → own_at t used g i ≡ true → x ≡ row_at t g
        → vs ≡ numbers_of 0 (interval_of x) → answer 0 (3 ∷ vs) ≡ rows_answer t used i m
    unfolding reason_answer
    before_told e d n =
        let there : get_elem? G 0 ≡ some (interval_of (row_at t g)) = first_place ∙ own_yes_row t used g i e in
        let none_yet : started G m ≡ 0 = omega (arith, started_is) in
        let later : m < (row_at t g).start = next_later G m (interval_of (row_at t g)) (ap (get_elem? G) none_yet ∙ there) in
        (λ j. answer 0 (3 ∷ (n ∙ ap (λ (y : Row Value). numbers_of 0 (interval_of y)) d) j))
        ∙ gives (before (interval_of (row_at t g))) (there, later)

  -- where one has
  module _ (h : g < u) where
    count : started G m ≡ suc (u - 1 - g)
    count = omega (arith, started_is)

    last_row : (get_elem? G (u - 1 - g) ≡ some (interval_of (row_at t (u - 1)))) × ((row_at t (u - 1)).start ≤ m)
    last_row =
        let l : Last G m (u - 1 - g) = last_started G m (u - 1 - g) count in
        let q : g + (u - 1 - g) ≡ u - 1 = omega arith in
        let f : get_elem? G (u - 1 - g) ≡ own i (get_elem? (rows t used) (u - 1)) =
        at_place (u - 1 - g) ∙ ap (λ (c : ℕ). own i (get_elem? (rows t used) c)) q in
        let e : l.x ≡ interval_of (row_at t (u - 1)) = own_is t used (u - 1) i l.x (sym f ∙ l.there) in
        (l.there ∙ ap some e, rw e at l.begun)

    next_place : get_elem? G (suc (u - 1 - g)) ≡ own i (get_elem? (rows t used) u)
    next_place =
        let q : g + suc (u - 1 - g) ≡ u = omega arith in
        at_place (suc (u - 1 - g)) ∙ ap (λ (c : ℕ). own i (get_elem? (rows t used) c)) q

    module _ {x : Row Value} {vs : List ℕ} (d : x ≡ row_at t (u - 1)) (n : vs ≡ numbers_of (u - 1 - g) (interval_of x)) where
      numbers : vs ≡ numbers_of (u - 1 - g) (interval_of (row_at t (u - 1)))
      numbers = n ∙ ap (λ (y : Row Value). numbers_of (u - 1 - g) (interval_of y)) d

      pub in_told : m < x.end → answer 0 (1 ∷ vs) ≡ rows_answer t used i m
      unfolding reason_answer
      in_told l =
          (λ j. answer 0 (1 ∷ numbers j))
          ∙ gives (in_one (u - 1 - g) (interval_of (row_at t (u - 1)))) (last_row.0, last_row.1, rw d at l)

      pub after_told : x.end ≤ m → own_at t used u i ≡ false → answer 0 (4 ∷ vs) ≡ rows_answer t used i m
      unfolding reason_answer
      after_told l e =
          (λ j. answer 0 (4 ∷ numbers j))
          ∙ gives (after (u - 1 - g) (interval_of (row_at t (u - 1))))
          (last_row.0, next_place ∙ own_no_row t used u i e, rw d at l)

      pub between_told : {y : Row Value} {us : List ℕ} → x.end ≤ m → own_at t used u i ≡ true → y ≡ row_at t u
          → us ≡ numbers_of (u - 1 - g + 1) (interval_of y) → answer 0 (5 ∷ vs ++ us) ≡ rows_answer t used i m
      unfolding reason_answer
      between_told l e d' n' =
          let next : get_elem? G (suc (u - 1 - g)) ≡ some (interval_of (row_at t u)) = next_place ∙ own_yes_row t used u i e in
          let later : m < (row_at t u).start = next_later G m (interval_of (row_at t u)) (ap (get_elem? G) count ∙ next) in
          (λ j. answer 0 (5 ∷ numbers j ++ (n' ∙ ap (λ (z : Row Value). numbers_of (u - 1 - g + 1) (interval_of z)) d') j))
          ∙ gives (between (u - 1 - g) (interval_of (row_at t (u - 1))) (interval_of (row_at t u)))
          (last_row.0, next, rw d at l, later)

-- ---- a table that the check accepts

module _ (t : List ℕ) (used names : ℕ) where
  -- a table that is accepted: its memory fits, and it is well-formed
  pub record Accepted : Type 0 where
    pub fits : table_fits (length t) used ≡ true
    pub few : names_fit names ≡ true
    pub formed : well_formed same_value known_value names (rows t used) ≡ true

  pub accepted : check_answer t used names ≡ answer 0 [] → Accepted
  unfolding check_answer
  accepted e = go (table_fits (length t) used) (names_fit names) (well_formed same_value known_value names (rows t used)) refl refl refl e
    where
      go : (a b c : Bool) → table_fits (length t) used ≡ a → names_fit names ≡ b → well_formed same_value known_value names (rows t used) ≡ c
          → cond (a && b) (cond c (answer 0 []) (answer 14 [])) (answer 15 []) ≡ answer 0 [] → Accepted
      go true true true p q r z = record { fits = p; few = q; formed = r }
      go true true false p q r z = absurd (let n : 14 ≡ 0 = ap number_in z in omega arith)
      go true false c p q r z = absurd (let n : 15 ≡ 0 = ap number_in z in omega arith)
      go false b c p q r z = absurd (let n : 15 ≡ 0 = ap number_in z in omega arith)

  -- it is in order
  pub checked_order : check_answer t used names ≡ answer 0 [] → InOrder t used
  checked_order e =
      let w : Accepted = accepted e in
      let f : true ≡ table_fits (length t) used && names_fit names = sym (λ j. w.fits j && w.few j) in
      let l : Lent (length t) used = memory_lent (length t) used names f refl in
      record {
        fits = memory_holds (length t) used names f refl;
        few = omega (arith, l.limit, l.in_use);
        order = checked_ordered t used names refl w.formed;
      }
