-- An insert into a table is a splice of its rows (spliced-by): take lo, one to three rows made of the first and the last that it
-- touches, drop hi. Assumes nothing.
use Rattle.std.specs.Prelude.{◌≡◌, ◌&&◌, get_or}
use Rattle.std.proofs.Math.Path.{refl, sym, ap}
use Rattle.std.proofs.Common.{◌∙◌, length-drop, take-append-drop, drop-drop}
use Prim.Native.Nat.{ℕ, suc, ◌+◌, ◌-◌, ◌≤◌, ◌<◌}
use Rattle.std.proofs.Math.Nat.{le_refl}
use Rattle.std.proofs.Math.Decide.{dec_lt}
use native.Mathlib.Omega.{arith}
use Rattle.std.proofs.Math.Bool.{Bool, not, cond}
use mathlib.Core.List.{List, [], ◌∷◌, ◌++◌, map, append_assoc}
use Rattle.std.proofs.Math.ListN.{length, take, drop}
use Rattle.std.proofs.Math.Seq.{length-take-le, get_or-take, get_or-drop}
use Rattle.std.proofs.Math.Dec.{T, ltb}
use Rattle.std.proofs.Math.Arith.{le→nltb}
use Rattle.theory.specs.Runs.{Interval, interval, All, Ahead, WellFormed, from, glue, join, overwrite, Same}
use Rattle.theory.specs.RunsTools.{cond_lt, cond_ge, cond_no, T_nor_l, Order, less, equal, more, order}
use Rattle.map_rules.specs.Splice.{left_of, core, core_start, core_end, right_of, splice, middle, middle_pieces, up_to_first, from_skip}
use Rattle.map_rules.specs.Table.{Row, interval_of, row_of, picked, group, below, above, tagged, Ordered, insert_rows}
use Rattle.map_rules.specs.Groups.{picked_own, picked_other, picked_case, group_append, group_none, Least, least_le, Sorted, Formed, formed_iff}

module _ {X : Type 0} where
  all_map : (P Q : X → Type 0) (xs : List X) → ((x : X) → P x → Q x) → All P xs → All Q xs
  all_map P Q [] f a = tt
  all_map P Q (x ∷ xs) f a = (f x a.0, all_map P Q xs f a.1)

  all_append : (P : X → Type 0) (xs ys : List X) → All P xs → All P ys → All P (xs ++ ys)
  all_append P [] ys a b = b
  all_append P (x ∷ xs) ys a b = (a.0, all_append P xs ys a.1 b)

  -- every element, by its index
  all_index : (P : X → Type 0) (d : X) (xs : List X) → ((k : ℕ) → k < length xs → P (get_or xs k d)) → All P xs
  all_index P d [] f = tt
  all_index P d (x ∷ xs) f = (f 0 (omega arith), all_index P d xs (λ k h. f (suc k) (omega arith)))

  last_of : X → List X → X
  last_of x [] = x
  last_of x (y ∷ ys) = last_of y ys

  last_index : (d x : X) (xs : List X) → last_of x xs ≡ get_or (x ∷ xs) (length xs) d
  unfolding last_of
  last_index d x [] = refl
  last_index d x (y ∷ ys) = last_index d y ys

module _ {A : Type 0} where
  -- a row lies before the new one, or touches or overlaps it, or lies after it
  pub record Before (n x : Row A) : Type 0 where
    pub upto : x.instrument ≤ n.instrument
    pub ends : x.instrument ≡ n.instrument → x.end < n.start

  pub record Touches (n x : Row A) : Type 0 where
    pub own : x.instrument ≡ n.instrument
    pub reaches : n.start ≤ x.end
    pub reached : x.start ≤ n.end

  pub record After (n x : Row A) : Type 0 where
    pub from : n.instrument ≤ x.instrument
    pub starts : x.instrument ≡ n.instrument → n.end < x.start

  -- lo is the first row that is not before the new one, hi the first that is after it
  pub record Cut (n : Row A) (xs : List (Row A)) (d : Row A) (lo hi : ℕ) : Type 0 where
    pub ordered : lo ≤ hi
    pub inside : hi ≤ length xs
    pub left_of_lem : (k : ℕ) → k < lo → Before n (get_or xs k d)
    pub between_them : (k : ℕ) → lo ≤ k → k < hi → Touches n (get_or xs k d)
    pub right_of_lem : (k : ℕ) → hi ≤ k → k < length xs → After n (get_or xs k d)

  group_all : (i : ℕ) (P : Interval A → Type 0) (xs : List (Row A)) → All (λ x. x.instrument ≡ i → P (interval_of x)) xs → All P (group i xs)
  unfolding group
  group_all i P [] a = tt
  group_all i P (x ∷ xs) a = picked_case (λ (rs : List (Interval A)). All P rs) i x (group i xs) (λ e. (a.0 e, group_all i P xs a.1)) (λ d. group_all i P xs a.1)

  wf_right : (xs ys : List (Interval A)) → WellFormed (xs ++ ys) → WellFormed ys
  wf_right [] ys w = w
  wf_right (x ∷ xs) ys w = wf_right xs ys w.2

  wf_left : (xs ys : List (Interval A)) → WellFormed (xs ++ ys) → WellFormed xs
  wf_left [] ys w = tt
  wf_left (x ∷ xs) ys w = (w.0, first xs w.1, wf_left xs ys w.2)
    where
      first : (us : List (Interval A)) → Ahead x.end x.value (us ++ ys) → Ahead x.end x.value us
      first [] a = tt
      first (u ∷ us) a = a

  tagged_append : (i : ℕ) (rs ss : List (Interval A)) → tagged i (rs ++ ss) ≡ tagged i rs ++ tagged i ss
  unfolding tagged
  tagged_append i [] ss = refl
  tagged_append i (r ∷ rs) ss = ap (λ (xs : List (Row A)). row_of i r ∷ xs) (tagged_append i rs ss)

  -- ---- what is below, and what is above

  below_append : (i : ℕ) (xs ys : List (Row A)) → All (λ y. i ≤ y.instrument) ys → below i (xs ++ ys) ≡ below i xs
  unfolding below
  below_append i [] [] a = refl
  below_append i [] (y ∷ ys) a = cond_ge y.instrument i _ _ a.0 ∙ below_append i [] ys a.1
  below_append i (x ∷ xs) ys a =
      ap (λ (zs : List (Row A)). cond (ltb x.instrument i) (x ∷ zs) zs) (below_append i xs ys a)

  above_append : (i : ℕ) (xs ys : List (Row A)) → All (λ x. x.instrument ≤ i) xs → above i (xs ++ ys) ≡ above i ys
  unfolding above
  above_append i [] ys a = refl
  above_append i (x ∷ xs) ys a = cond_ge i x.instrument _ _ a.0 ∙ above_append i xs ys a.1

  sorted_left : (xs ys : List (Row A)) → Sorted (xs ++ ys) → Sorted xs
  sorted_left [] ys s = tt
  sorted_left (x ∷ xs) ys s = (first xs s.0, sorted_left xs ys s.1)
    where
      first : (us : List (Row A)) → Least x.instrument (us ++ ys) → Least x.instrument us
      first [] l = tt
      first (u ∷ us) l = l

  sorted_right : (xs ys : List (Row A)) → Sorted (xs ++ ys) → Sorted ys
  sorted_right [] ys s = s
  sorted_right (x ∷ xs) ys s = sorted_right xs ys s.1

  below_none : (i : ℕ) (xs : List (Row A)) → Sorted xs → Least i xs → below i xs ≡ []
  unfolding below
  below_none i [] s l = refl
  below_none i (x ∷ xs) s l = cond_ge x.instrument i _ _ l ∙ below_none i xs s.1 (least_le i x.instrument xs l s.0)

  above_all : (i : ℕ) (xs : List (Row A)) → Sorted xs → Least (suc i) xs → above i xs ≡ xs
  unfolding above
  above_all i [] s l = refl
  above_all i (x ∷ xs) s l =
      cond_lt i x.instrument _ _ l ∙ ap (λ (ys : List (Row A)). x ∷ ys) (above_all i xs s.1 (least_le (suc i) x.instrument xs l s.0))

  split_low : (i : ℕ) (xs : List (Row A)) → Sorted xs → All (λ x. x.instrument ≤ i) xs → below i xs ++ tagged i (group i xs) ≡ xs
  unfolding below group tagged
  split_low i [] s a = refl
  split_low i (x ∷ xs) s a = go (order x.instrument i) (split_low i xs s.1 a.1)
    where
      go : Order x.instrument i → below i xs ++ tagged i (group i xs) ≡ xs → below i (x ∷ xs) ++ tagged i (picked i x (group i xs)) ≡ x ∷ xs
      go (less h) e =
          (λ q. cond_lt x.instrument i (x ∷ below i xs) (below i xs) h q ++ tagged i (picked_other i x (group i xs) (omega arith) q))
          ∙ ap (λ (ys : List (Row A)). x ∷ ys) e
      go (equal h) e =
          let z : below i xs ≡ [] = below_none i xs s.1 (rw (← h) s.0) in
          (λ q. (cond_ge x.instrument i (x ∷ below i xs) (below i xs) (omega arith) ∙ z) q ++ tagged i (picked_own i x (group i xs) h q))
          ∙ (λ q. record { instrument = sym h q; start = x.start; end = x.end; value = x.value } ∷ (sym (ap (λ (ys : List (Row A)). ys ++ tagged i (group i xs)) z) ∙ e) q)
      go (more h) e = absurd (omega (arith, a.0))

  split_high : (i : ℕ) (xs : List (Row A)) → Sorted xs → Least i xs → tagged i (group i xs) ++ above i xs ≡ xs
  unfolding above group tagged
  split_high i [] s l = refl
  split_high i (x ∷ xs) s l = go (order x.instrument i) (split_high i xs s.1 (least_le i x.instrument xs l s.0))
    where
      go : Order x.instrument i → tagged i (group i xs) ++ above i xs ≡ xs → tagged i (picked i x (group i xs)) ++ above i (x ∷ xs) ≡ x ∷ xs
      go (less h) e = absurd (omega arith)
      go (equal h) e =
          (λ q. tagged i (picked_own i x (group i xs) h q) ++ cond_ge i x.instrument (x ∷ above i xs) (above i xs) (omega arith) q)
          ∙ (λ q. record { instrument = sym h q; start = x.start; end = x.end; value = x.value } ∷ e q)
      go (more h) e =
          (λ q. tagged i (group_none i x.instrument (x ∷ xs) s (le_refl x.instrument) h q) ++ above_all i (x ∷ xs) s h q)

module _ {A : Type 0} (same : A → A → Bool) (laws : Same same) where
  -- the splice: those before and those after stay
  module _ (n : Row A) (ls ms rs : List (Row A)) (h : n.start < n.end) (w : Ordered (ls ++ (ms ++ rs)))
      (a : All (Before n) ls) (b : All (Touches n) ms) (c : All (After n) rs) where
    i : ℕ
    i = n.instrument

    whole : List (Row A)
    whole = ls ++ (ms ++ rs)

    formed : Formed whole
    unfolding whole
    formed = (formed_iff whole).0 w

    sorted_rs : Sorted rs
    unfolding whole
    sorted_rs = sorted_right ms rs (sorted_right ls (ms ++ rs) formed.sorted)

    below_part : below i whole ≡ below i ls
    unfolding i whole
    below_part =
        below_append i ls (ms ++ rs) (all_append (λ y. i ≤ y.instrument) ms rs
        (all_map (Touches n) (λ y. i ≤ y.instrument) ms (λ x t. omega (arith, t.own)) b)
        (all_map (After n) (λ y. i ≤ y.instrument) rs (λ x t. t.from) c))

    above_part : above i whole ≡ above i rs
    unfolding i whole
    above_part =
        above_append i ls (ms ++ rs) (all_map (Before n) (λ y. y.instrument ≤ i) ls (λ x t. t.upto) a)
        ∙ above_append i ms rs (all_map (Touches n) (λ y. y.instrument ≤ i) ms (λ x t. omega (arith, t.own)) b)

    group_part : group i whole ≡ group i ls ++ (group i ms ++ group i rs)
    unfolding i whole
    group_part = group_append i ls (ms ++ rs) ∙ ap (λ (us : List (Interval A)). group i ls ++ us) (group_append i ms rs)

    group_formed : WellFormed (group i ls ++ (group i ms ++ group i rs))
    group_formed = rw group_part at (formed.groups i)

    pub touched_formed : WellFormed (group n.instrument ms)
    unfolding i
    touched_formed = wf_left (group i ms) (group i rs) (wf_right (group i ls) (group i ms ++ group i rs) group_formed)

    insert_part : overwrite same (interval_of n) (group i whole) ≡ group i ls ++ (overwrite same (interval_of n) (group i ms) ++ group i rs)
    unfolding i
    insert_part =
        ap (λ (us : List (Interval A)). overwrite same (interval_of n) us) group_part
        ∙ splice same laws (interval_of n) (group i ls) (group i ms) (group i rs) h group_formed
        (wf_right (group i ms) (group i rs) (wf_right (group i ls) (group i ms ++ group i rs) group_formed))
        (group_all i (λ x. x.end < n.start) ls (all_map (Before n) (λ x. x.instrument ≡ i → x.end < n.start) ls (λ x t. t.ends) a))
        (group_all i (λ x. n.end < x.start) rs (all_map (After n) (λ x. x.instrument ≡ i → n.end < x.start) rs (λ x t. t.starts) c))

    least_rs : (us : List (Row A)) → All (After n) us → Least n.instrument us
    least_rs [] d = tt
    least_rs (u ∷ us) d = d.0.from

    pub splice_rows : insert_rows same n (ls ++ (ms ++ rs)) ≡ ls ++ (tagged n.instrument (overwrite same (interval_of n) (group n.instrument ms)) ++ rs)
    unfolding i whole insert_rows
    splice_rows =
        let ins : List (Interval A) = overwrite same (interval_of n) (group i ms) in
        let lo : below i ls ++ tagged i (group i ls) ≡ ls =
        split_low i ls (sorted_left ls (ms ++ rs) formed.sorted) (all_map (Before n) (λ y. y.instrument ≤ i) ls (λ x t. t.upto) a) in
        let hi : tagged i (group i rs) ++ above i rs ≡ rs = split_high i rs sorted_rs (least_rs rs c) in
        (λ q. below_part q ++ (tagged i (insert_part q) ++ above_part q))
        ∙ (λ q. below i ls ++ ((tagged_append i (group i ls) (ins ++ group i rs)
        ∙ ap (λ (us : List (Row A)). tagged i (group i ls) ++ us) (tagged_append i ins (group i rs))) q ++ above i rs))
        ∙ regroup (below i ls) (tagged i (group i ls)) (tagged i ins) (tagged i (group i rs)) (above i rs)
        ∙ (λ q. lo q ++ (tagged i ins ++ hi q))
      where
        regroup : (u v x y z : List (Row A)) → u ++ ((v ++ (x ++ y)) ++ z) ≡ (u ++ v) ++ (x ++ (y ++ z))
        regroup u v x y z = simp append_assoc

  -- ---- the middle, from the first and the last of those that are touched

  group_own : (i : ℕ) (xs : List (Row A)) → All (λ x. x.instrument ≡ i) xs → group i xs ≡ map (λ x. interval_of x) xs
  unfolding group
  group_own i [] a = refl
  group_own i (x ∷ xs) a = picked_own i x (group i xs) a.0 ∙ ap (λ (rs : List (Interval A)). interval_of x ∷ rs) (group_own i xs a.1)

  last_map : (x : Row A) (xs : List (Row A)) → last_of (interval_of x) (map (λ y. interval_of y) xs) ≡ interval_of (last_of x xs)
  unfolding last_of
  last_map x [] = refl
  last_map x (y ∷ ys) = last_map y ys

  last_late : (x : Interval A) (xs : List (Interval A)) → WellFormed (x ∷ xs) → x.start ≤ (last_of x xs).start
  unfolding last_of
  last_late x [] w = le_refl x.start
  last_late x (y ∷ ys) w = omega (arith, last_late y ys w.2, w.1.0, w.0)

  from_last : (b : ℕ) (x : Interval A) (xs : List (Interval A)) → WellFormed (x ∷ xs) → (last_of x xs).start ≤ b → from b (x ∷ xs) ≡ from b (last_of x xs ∷ [])
  unfolding last_of
  from_last b x [] w h = refl
  from_last b x (y ∷ ys) w h =
      from_skip b x (y ∷ ys) (omega (arith, last_late y ys w.2, w.1.0)) ∙ from_last b y ys w.2 h

  insert_runs : (n x : Interval A) (xs : List (Interval A)) → WellFormed (x ∷ xs) → n.start ≤ x.end → (last_of x xs).start ≤ n.end
      → overwrite same n (x ∷ xs) ≡ left_of same n x (core same n x (last_of x xs) ∷ right_of same n (last_of x xs))
  unfolding overwrite middle
  insert_runs n x xs w h k =
      (λ q. join same (up_to_first n.start x xs w h q) (glue same n (from_last n.end x xs w k q)))
      ∙ middle_pieces same laws n x (last_of x xs) h k

  -- the rows that come into the place of the touched ones, the first x and the last z
  unfoldable pub between : Row A → Row A → Row A → List (Row A)
  between n x z =
      let z' = interval_of z in
      tagged n.instrument (left_of same (interval_of n) (interval_of x) (core same (interval_of n) (interval_of x) z' ∷ right_of same (interval_of n) z'))

  all_last : (P : Row A → Type 0) (x : Row A) (xs : List (Row A)) → All P (x ∷ xs) → P (last_of x xs)
  unfolding last_of
  all_last P x [] a = a.0
  all_last P x (y ∷ ys) a = all_last P y ys a.1

  touched : (n x : Row A) (xs : List (Row A)) → WellFormed (group n.instrument (x ∷ xs)) → All (Touches n) (x ∷ xs)
      → tagged n.instrument (overwrite same (interval_of n) (group n.instrument (x ∷ xs))) ≡ between n x (last_of x xs)
  unfolding between
  touched n x xs w a =
      let i : ℕ = n.instrument in
      let g : group i (x ∷ xs) ≡ interval_of x ∷ map (λ y. interval_of y) xs =
      group_own i (x ∷ xs) (all_map (Touches n) (λ y. y.instrument ≡ i) (x ∷ xs) (λ y t. t.own) a) in
      let v : WellFormed (interval_of x ∷ map (λ y. interval_of y) xs) = rw g at w in
      let e : last_of (interval_of x) (map (λ y. interval_of y) xs) ≡ interval_of (last_of x xs) = last_map x xs in
      let t : (last_of (interval_of x) (map (λ y. interval_of y) xs)).start ≤ n.end = rw e (all_last (Touches n) x xs a).reached in
      ap (λ (us : List (Interval A)). tagged i (overwrite same (interval_of n) us)) g
      ∙ ap (λ (us : List (Interval A)). tagged i us) (insert_runs (interval_of n) (interval_of x) (map (λ y. interval_of y) xs) v a.0.reaches t)
      ∙ (λ q. tagged i (left_of same (interval_of n) (interval_of x) (core same (interval_of n) (interval_of x) (e q) ∷ right_of same (interval_of n) (e q))))

  -- ---- by indices

  module _ (n : Row A) (xs : List (Row A)) (d : Row A) (lo hi : ℕ) (h : n.start < n.end) (w : Ordered xs) (c : Cut n xs d lo hi) where
    ms : List (Row A)
    ms = take (hi - lo) (drop lo xs)

    parted : xs ≡ take lo xs ++ (ms ++ drop hi xs)
    unfolding ms
    parted =
        let o : lo ≤ hi = c.ordered in
        sym (take-append-drop lo xs)
        ∙ ap (λ (us : List (Row A)). take lo xs ++ us)
        (sym (take-append-drop (hi - lo) (drop lo xs))
        ∙ ap (λ (us : List (Row A)). take (hi - lo) (drop lo xs) ++ us)
        (drop-drop (hi - lo) lo xs ∙ (let e : lo + (hi - lo) ≡ hi = omega arith in ap (λ (k : ℕ). drop k xs) e)))

    length_ms : length ms ≡ hi - lo
    unfolding ms
    length_ms =
        let o : hi ≤ length xs = c.inside in
        let p : lo ≤ hi = c.ordered in
        length-take-le (hi - lo) (drop lo xs) (rw (length-drop lo xs) (omega arith))

    at_ms : (k : ℕ) → k < hi - lo → get_or ms k d ≡ get_or xs (lo + k) d
    unfolding ms
    at_ms k l = get_or-take (hi - lo) (drop lo xs) k d l ∙ get_or-drop lo xs k d

    lefts : All (Before n) (take lo xs)
    lefts =
        let e : length (take lo xs) ≡ lo = length-take-le lo xs (omega (arith, c.ordered, c.inside)) in
        all_index (Before n) d (take lo xs) (λ k l. rw (get_or-take lo xs k d (omega arith)) (c.left_of_lem k (omega arith)))

    middles : All (Touches n) ms
    middles =
        all_index (Touches n) d ms (λ k l. rw (at_ms k (omega (arith, length_ms))) (c.between_them (lo + k) (omega arith) (omega (arith, length_ms))))

    rights : All (After n) (drop hi xs)
    rights =
        let e : length (drop hi xs) ≡ length xs - hi = length-drop hi xs in
        all_index (After n) d (drop hi xs) (λ k l. rw (get_or-drop hi xs k d) (c.right_of_lem (hi + k) (omega arith) (omega arith)))

    spliced : insert_rows same n xs ≡ take lo xs ++ (tagged n.instrument (overwrite same (interval_of n) (group n.instrument ms)) ++ drop hi xs)
    spliced =
        ap (λ (us : List (Row A)). insert_rows same n us) parted
        ∙ splice_rows n (take lo xs) ms (drop hi xs) h (rw parted at w) lefts middles rights

    -- none is touched: the new row goes in at lo
    splice_none : lo ≡ hi → insert_rows same n xs ≡ take lo xs ++ (n ∷ drop hi xs)
    unfolding overwrite tagged group
    splice_none e = spliced ∙ ap (λ (us : List (Row A)). take lo xs ++ (us ++ drop hi xs)) (nothing ms (omega (arith, length_ms)))
      where
        nothing : (us : List (Row A)) → length us ≡ 0 → tagged n.instrument (overwrite same (interval_of n) (group n.instrument us)) ≡ n ∷ []
        nothing [] l = refl
        nothing (u ∷ us) l = absurd (omega arith)

    splice_some : lo < hi → insert_rows same n xs ≡ take lo xs ++ (between n (get_or xs lo d) (get_or xs (hi - 1) d) ++ drop hi xs)
    splice_some e = spliced ∙ ap (λ (us : List (Row A)). take lo xs ++ (us ++ drop hi xs)) (go ms refl)
      where
        go : (us : List (Row A)) → ms ≡ us
            → tagged n.instrument (overwrite same (interval_of n) (group n.instrument ms)) ≡ between n (get_or xs lo d) (get_or xs (hi - 1) d)
        go [] p = absurd (omega (arith, length_ms, ap length p))
        go (u ∷ us) p =
            let l : hi - lo ≡ suc (length us) = sym length_ms ∙ ap length p in
            let f : u ≡ get_or xs lo d =
            ap (λ (vs : List (Row A)). get_or vs 0 d) (sym p) ∙ at_ms 0 (omega arith) ∙ (let z : lo + 0 ≡ lo = omega arith in ap (λ (k : ℕ). get_or xs k d) z) in
            let g : last_of u us ≡ get_or xs (hi - 1) d =
            last_index d u us ∙ ap (λ (vs : List (Row A)). get_or vs (length us) d) (sym p) ∙ at_ms (length us) (omega arith)
            ∙ (let z : lo + length us ≡ hi - 1 = omega arith in ap (λ (k : ℕ). get_or xs k d) z) in
            let v : WellFormed (group n.instrument ms) = touched_formed n (take lo xs) ms (drop hi xs) h (rw parted at w) lefts middles rights in
            ap (λ (vs : List (Row A)). tagged n.instrument (overwrite same (interval_of n) (group n.instrument vs))) p
            ∙ touched n u us (rw p at v) (rw p at middles)
            ∙ (λ q. between n (f q) (g q))

    -- n alone: nothing is left of it on either side
    between_itself : between n n n ≡ n ∷ []
    unfolding between left_of right_of core core_start core_end tagged
    between_itself =
        let p : Bool = ltb n.start n.start in
        let q : Bool = ltb n.end n.end in
        let v : Bool = same n.value n.value in
        let np : T (not p) = le→nltb n.start n.start (le_refl n.start) in
        let nq : T (not q) = le→nltb n.end n.end (le_refl n.end) in
        let s : cond (p && v) n.start n.start ≡ n.start = cond_no (p && v) _ _ (T_nor_l p v np) in
        let e : cond (q && v) n.end n.end ≡ n.end = cond_no (q && v) _ _ (T_nor_l q v nq) in
        ap (λ (rs : List (Interval A)). tagged n.instrument rs) (cond_no (p && not v) _ _ (T_nor_l p (not v) np))
        ∙ (λ j. row_of n.instrument (interval (s j) (e j) n.value) ∷ tagged n.instrument (cond_no (q && not v) (interval n.end n.end n.value ∷ []) [] (T_nor_l q (not v) nq) j))

    -- the splice: x is the first and z the last of the rows that n touches; where it touches none, both are n itself
    pub spliced_by : (x z : Row A) → (lo < hi → x ≡ get_or xs lo d) → (hi ≤ lo → x ≡ n) → (lo < hi → z ≡ get_or xs (hi - 1) d) → (hi ≤ lo → z ≡ n)
        → insert_rows same n xs ≡ take lo xs ++ (between n x z ++ drop hi xs)
    spliced_by x z fx nx fz nz = go (dec_lt lo hi)
      where
        go : Dec (lo < hi) → insert_rows same n xs ≡ take lo xs ++ (between n x z ++ drop hi xs)
        go (yes k) = splice_some k ∙ (λ j. take lo xs ++ (between n (sym (fx k) j) (sym (fz k) j) ++ drop hi xs))
        go (no k) =
            let e : x ≡ n = nx (omega arith) in
            let f : z ≡ n = nz (omega arith) in
            splice_none (omega (arith, c.ordered))
            ∙ (λ j. take lo xs ++ (sym between_itself j ++ drop hi xs))
            ∙ (λ j. take lo xs ++ (between n (sym e j) (sym f j) ++ drop hi xs))
