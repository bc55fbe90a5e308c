-- The comparison is right: its list is in order and says at each moment what is to be reported (compared-right), so it is
-- exactly the longest runs of that (compared-longest), the only such list (compared-only, compared-runs), and outside it both tables
-- say the same (compared-outside); a table beside itself gives none, exchanged sides give the same stretches turned, and no
-- more than two stretches a row come out. Assumes nothing.
use Rattle.std.specs.Prelude.{◌≡◌, ◌↔◌, true, false, not, ◌&&◌, ◌||◌, eqb}
use Rattle.std.proofs.Math.Path.{refl, ap}
use Rattle.std.proofs.Common.{sym, ◌∙◌, subst, arith, lt→ltb, le→leb}
use Prim.Native.Nat.{ℕ, suc, ◌+◌, ◌*◌, min, max, ◌≤◌, ◌<◌}
use Rattle.std.proofs.Math.Decide.{ℕ_discrete, dec_le}
use Rattle.std.proofs.Math.Bool.{Bool, cond}
use Rattle.std.proofs.Math.Option.{Option, none, some}
use mathlib.Core.List.{List, [], ◌∷◌, map}
use Rattle.std.proofs.Math.ListN.{length}
use Rattle.std.proofs.Math.Dec.{T, leb, ltb, eqb_refl, not_T, T_not}
use Rattle.std.proofs.Math.Arith.{le→nltb, lt→nleb}
use Rattle.std.proofs.Math.Facts.{eqb_yes}
use Rattle.theory.specs.RunsTools.{cond_case, cond_yes, cond_no, cond_lt, cond_ge, T_and, T_right, T_nor_l, T_nor_r, Order, less, equal, more, order, none_some}
use Rattle.theory.specs.Runs.{Interval, Same, IsRun, Mem}
use Rattle.theory.proofs.RunsLongest.{Rising, same_run}
use Rattle.map_rules.specs.Table.{Row, interval_of, group, answer_for, Ordered}
use Rattle.map_rules.specs.Groups.{Sorted}
use Rattle.map_rules.specs.Rules.{rows_longest, rows_unique, only_rows}
use Rattle.map_rules.specs.Fronts.{Sooner, quiet, empty_says}
use Rattle.map_compare_rules.specs.Compare.{Difference, Stretches, stretch, left_only, right_only, over, since, lead, differ, common, against, compared, Right}
use Rattle.map_compare_rules.specs.Turned.{turned, turned_said, turned_order, turned_answers}
use Rattle.map_compare_rules.specs.Steps.{Before, reported, passed, since_ok, left_step, right_step, lead_left, lead_right, ends_x, ends_y, ends_both}

module _ {A : Type 0} (same : A → A → Bool) where
  -- x is over before y starts
  pub record Past (x y : Row A) : Type 0 where
    pub upto : x.instrument ≤ y.instrument
    pub ends : x.instrument ≡ y.instrument → x.end ≤ y.start

  or_left : (a b : Bool) → T a → T (a || b)
  or_left true b t = tt
  or_left false b t = absurd t

  nor : (a b : Bool) → T (not a) → T (not b) → T (not (a || b))
  nor true b s t = absurd s
  nor false b s t = t

  pub over_yes : (x y : Row A) → Past x y → T (over x y)
  unfolding over
  over_yes x y p = go (order x.instrument y.instrument)
    where
      go : Order x.instrument y.instrument → T (ltb x.instrument y.instrument || (eqb x.instrument y.instrument && leb x.end y.start))
      go (less h) = or_left (ltb x.instrument y.instrument) (eqb x.instrument y.instrument && leb x.end y.start) (lt→ltb _ _ h)
      go (equal h) =
          T_right (ltb x.instrument y.instrument) (eqb x.instrument y.instrument && leb x.end y.start)
          (T_and (eqb x.instrument y.instrument) (leb x.end y.start) (rw h (eqb_refl y.instrument)) (le→leb _ _ (p.ends h)))
      go (more h) = absurd (omega (arith, p.upto))

  pub over_no : (x y : Row A) → (Past x y → ⊥) → T (not (over x y))
  unfolding over
  over_no x y n = go (order x.instrument y.instrument) (dec_le x.end y.start)
    where
      l : Bool
      l = ltb x.instrument y.instrument

      q : Bool
      q = eqb x.instrument y.instrument

      r : Bool
      r = leb x.end y.start

      go : Order x.instrument y.instrument → Dec (x.end ≤ y.start) → T (not (l || (q && r)))
      go (less h) k = absurd (n (record { upto = omega arith; ends = λ e. omega arith }))
      go (equal h) (yes k) = absurd (n (record { upto = omega arith; ends = λ e. k }))
      go (equal h) (no k) = nor l (q && r) (le→nltb x.instrument y.instrument (omega arith)) (T_nor_r q r (lt→nleb x.end y.start (omega arith)))
      go (more h) k = nor l (q && r) (le→nltb x.instrument y.instrument (omega arith)) (T_nor_l q r (not_T q (λ t. let z : x.instrument ≡ y.instrument = eqb_yes t in omega arith)))

  past? : (x y : Row A) → Dec (Past x y)
  past? x y = go (order x.instrument y.instrument) (dec_le x.end y.start)
    where
      go : Order x.instrument y.instrument → Dec (x.end ≤ y.start) → Dec (Past x y)
      go (less h) k = yes (record { upto = omega arith; ends = λ e. omega arith })
      go (equal h) (yes k) = yes (record { upto = omega arith; ends = λ e. k })
      go (equal h) (no k) = no (λ p. k (p.ends h))
      go (more h) k = no (λ p. omega (arith, p.upto))

  -- x and y are of one instrument, and neither is over before the other starts
  pub record Overlap (x y : Row A) : Type 0 where
    pub one : x.instrument ≡ y.instrument
    pub sooner : x.start < y.end
    pub later : y.start < x.end

  pub overlap_of : (x y : Row A) → (Past x y → ⊥) → (Past y x → ⊥) → Overlap x y
  overlap_of x y n o = go (order x.instrument y.instrument) (dec_le y.end x.start) (dec_le x.end y.start)
    where
      go : Order x.instrument y.instrument → Dec (y.end ≤ x.start) → Dec (x.end ≤ y.start) → Overlap x y
      go (less l) a b = absurd (n (record { upto = omega arith; ends = λ q. omega arith }))
      go (more l) a b = absurd (o (record { upto = omega arith; ends = λ q. omega arith }))
      go (equal l) (yes a) b = absurd (o (record { upto = omega arith; ends = λ q. a }))
      go (equal l) (no a) (yes b) = absurd (n (record { upto = omega arith; ends = λ q. b }))
      go (equal l) (no a) (no b) = record { one = l; sooner = omega arith; later = omega arith }

  pub not_past : (x y : Row A) → T (not (over x y)) → Past x y → ⊥
  not_past x y t p = T_not (over x y) t (over_yes x y p)

  -- what is past x's end is quiet before it
  past_quiet : (x y : Row A) (ys : List (Row A)) → Ordered (y ∷ ys) → Past x y → (j m : ℕ) → Sooner j m x.instrument x.end → answer_for (y ∷ ys) j m ≡ none
  past_quiet x y ys v p j m s =
      quiet y ys v j m (record { upto = omega (arith, s.upto, p.upto); early = λ h. by (ℕ_discrete x.instrument y.instrument) h })
    where
      by : Dec (x.instrument ≡ y.instrument) → y.instrument ≤ j → m < y.start
      by (yes e) h = omega (arith, s.early (omega arith), p.ends e)
      by (no d) h = absurd (d (omega (arith, s.upto, p.upto)))

  since_self : (s : ℕ) (x : Row A) → s ≡ x.start → since s x ≡ x
  since_self s x q = λ r. record { instrument = x.instrument; start = q r; end = x.end; value = x.value }

  module _ (laws : Same same) where
    common_right : (x y : Row A) (ls rs ls' rs' : List (Row A)) (ds : Stretches A)
        → Before same ls rs ls' rs' (stretch x.instrument (max x.start y.start) (min x.end y.end) (some x.value) (some y.value))
        → Right same ls' rs' ds → Right same ls rs (common same x y ds)
    unfolding common differ
    common_right x y ls rs ls' rs' ds b r =
        let p : Row (Difference A) = stretch x.instrument (max x.start y.start) (min x.end y.end) (some x.value) (some y.value) in
        cond_case (λ (zs : Stretches A). Right same ls rs zs) (same x.value y.value) _ _
        (λ t. passed same ls rs ls' rs' p ds b (cond_yes (same x.value y.value) none _ t) r)
        (λ t. reported same ls rs ls' rs' p ds b (cond_no (same x.value y.value) none _ t) r)

    lead_case : (x : Row A) (xs : List (Row A)) (y : Row A) (ys : List (Row A)) (ds : Stretches A) → Ordered (x ∷ xs) → Ordered (y ∷ ys)
        → x.instrument ≡ y.instrument → x.start < y.end → y.start < x.end
        → Right same (since (max x.start y.start) x ∷ xs) (since (max x.start y.start) y ∷ ys) ds → Right same (x ∷ xs) (y ∷ ys) (lead x y ds)
    unfolding lead
    lead_case x xs y ys ds w v e h k r = go (order x.start y.start)
      where
        s : ℕ
        s = max x.start y.start

        go : Order x.start y.start → Right same (x ∷ xs) (y ∷ ys) (cond (ltb x.start y.start) (stretch x.instrument x.start y.start (some x.value) none ∷ ds) (cond (ltb y.start x.start) (stretch x.instrument y.start x.start none (some y.value) ∷ ds) ds))
        go (less l) =
            let q : max x.start y.start ≡ y.start = omega arith in
            rw (cond_lt x.start y.start (stretch x.instrument x.start y.start (some x.value) none ∷ ds) (cond (ltb y.start x.start) (stretch x.instrument y.start x.start none (some y.value) ∷ ds) ds) l)
            (lead_left same x xs y ys w v e h k ds l (subst (λ (zs : List (Row A)). Right same (since y.start x ∷ xs) zs ds) (ap (λ (z : Row A). z ∷ ys) (since_self s y q))
            (subst (λ (n : ℕ). Right same (since n x ∷ xs) (since s y ∷ ys) ds) q r)))
        go (equal l) =
            let q : max x.start y.start ≡ x.start = omega arith in
            let q' : max x.start y.start ≡ y.start = omega arith in
            rw (
              cond_ge x.start y.start (stretch x.instrument x.start y.start (some x.value) none ∷ ds) (cond (ltb y.start x.start) (stretch x.instrument y.start x.start none (some y.value) ∷ ds) ds) (omega arith),
              cond_ge y.start x.start (stretch x.instrument y.start x.start none (some y.value) ∷ ds) ds (omega arith),
            )
            (subst (λ (zs : List (Row A)). Right same (x ∷ xs) zs ds) (ap (λ (z : Row A). z ∷ ys) (since_self s y q'))
            (subst (λ (zs : List (Row A)). Right same zs (since s y ∷ ys) ds) (ap (λ (z : Row A). z ∷ xs) (since_self s x q)) r))
        go (more l) =
            let q : max x.start y.start ≡ x.start = omega arith in
            rw (
              cond_ge x.start y.start (stretch x.instrument x.start y.start (some x.value) none ∷ ds) (cond (ltb y.start x.start) (stretch x.instrument y.start x.start none (some y.value) ∷ ds) ds) (omega arith),
              cond_lt y.start x.start (stretch x.instrument y.start x.start none (some y.value) ∷ ds) ds l,
            )
            (lead_right same x xs y ys w v e h k ds l (subst (λ (zs : List (Row A)). Right same zs (since x.start y ∷ ys) ds) (ap (λ (z : Row A). z ∷ xs) (since_self s x q))
            (subst (λ (n : ℕ). Right same (since s x ∷ xs) (since n y ∷ ys) ds) q r)))

    -- the rest behind two rows that overlap, and the common part in front of it
    overlap : (x : Row A) (xs : List (Row A)) (y : Row A) (ys : List (Row A)) (go : List (Row A) → Stretches A) (ag : Stretches A) → Ordered (x ∷ xs)
        → Ordered (y ∷ ys) → x.instrument ≡ y.instrument → x.start < y.end → y.start < x.end
        → ((zs : List (Row A)) → Ordered zs → Right same xs zs (go zs)) → (y.end < x.end → Right same (since y.end x ∷ xs) ys ag)
        → Right same (x ∷ xs) (y ∷ ys) (lead x y (common same x y (cond (ltb x.end y.end) (go (since x.end y ∷ ys)) (cond (ltb y.end x.end) ag (go ys)))))
    overlap x xs y ys go ag w v e h k on cut = lead_case x xs y ys _ w v e h k (rest (order x.end y.end))
      where
        s : ℕ
        s = max x.start y.start

        t : ℕ
        t = min x.end y.end

        all : Stretches A
        all = cond (ltb x.end y.end) (go (since x.end y ∷ ys)) (cond (ltb y.end x.end) ag (go ys))

        rest : Order x.end y.end → Right same (since s x ∷ xs) (since s y ∷ ys) (common same x y all)
        rest (less l) =
            let q : x.end ≡ min x.end y.end = omega arith in
            let z : all ≡ go (since x.end y ∷ ys) = cond_lt x.end y.end _ _ l in
            subst (λ (ds : Stretches A). Right same (since s x ∷ xs) (since s y ∷ ys) (common same x y ds)) (sym z)
            (common_right x y (since s x ∷ xs) (since s y ∷ ys) xs (since t y ∷ ys) (go (since x.end y ∷ ys))
            (ends_x same x xs y ys w v e h k s t (omega arith) (omega arith) (omega (arith, w.0, v.0)) (omega arith) (omega arith) q (omega arith))
            (subst (λ (n : ℕ). Right same xs (since n y ∷ ys) (go (since x.end y ∷ ys))) q (on (since x.end y ∷ ys) (since_ok same x.end y ys l v))))
        rest (equal l) =
            let q : x.end ≡ min x.end y.end = omega arith in
            let q' : y.end ≡ min x.end y.end = omega arith in
            let z : all ≡ go ys = cond_ge x.end y.end _ _ (omega arith) ∙ cond_ge y.end x.end _ _ (omega arith) in
            subst (λ (ds : Stretches A). Right same (since s x ∷ xs) (since s y ∷ ys) (common same x y ds)) (sym z)
            (common_right x y (since s x ∷ xs) (since s y ∷ ys) xs ys (go ys)
            (ends_both same x xs y ys w v e h k s t (omega arith) (omega arith) (omega (arith, w.0, v.0)) (omega arith) (omega arith) q q')
            (on ys v.2))
        rest (more l) =
            let q : y.end ≡ min x.end y.end = omega arith in
            let z : all ≡ ag = cond_ge x.end y.end _ _ (omega arith) ∙ cond_lt y.end x.end _ _ l in
            subst (λ (ds : Stretches A). Right same (since s x ∷ xs) (since s y ∷ ys) (common same x y ds)) (sym z)
            (common_right x y (since s x ∷ xs) (since s y ∷ ys) (since t x ∷ xs) ys ag
            (ends_y same x xs y ys w v e h k s t (omega arith) (omega arith) (omega (arith, w.0, v.0)) (omega arith) (omega arith) q (omega arith))
            (subst (λ (n : ℕ). Right same (since n x ∷ xs) ys ag) q (cut l)))

    against_right : (xs : List (Row A)) (go : List (Row A) → Stretches A) → ((zs : List (Row A)) → Ordered zs → Right same xs zs (go zs))
        → (ys : List (Row A)) (x : Row A) → Ordered (x ∷ xs) → Ordered ys → Right same (x ∷ xs) ys (against same x go ys)
    unfolding against
    against_right xs go on [] x w v = left_step same x xs [] (go []) w (λ j m s. nothing j m) (on [] tt)
      where
        nothing : (j m : ℕ) → answer_for {A = A} [] j m ≡ none
        nothing j m = empty_says j m
    against_right xs go on (y ∷ ys) x w v = by (past? x y) (past? y x) (λ z u. against_right xs go on ys z u v.2)
      where
        all : Stretches A
        all = against same x go (y ∷ ys)

        more_of : Stretches A
        more_of = lead x y (common same x y (cond (ltb x.end y.end) (go (since x.end y ∷ ys)) (cond (ltb y.end x.end) (against same (since y.end x) go ys) (go ys))))

        by : Dec (Past x y) → Dec (Past y x) → ((z : Row A) → Ordered (z ∷ xs) → Right same (z ∷ xs) ys (against same z go ys)) → Right same (x ∷ xs) (y ∷ ys) all
        by (yes p) k rec =
            subst (λ (ds : Stretches A). Right same (x ∷ xs) (y ∷ ys) ds) (sym (cond_yes (over x y) _ _ (over_yes x y p)))
            (left_step same x xs (y ∷ ys) (go (y ∷ ys)) w (past_quiet x y ys v p) (on (y ∷ ys) v))
        by (no n) (yes p) rec =
            subst (λ (ds : Stretches A). Right same (x ∷ xs) (y ∷ ys) ds) (sym (cond_no (over x y) _ _ (over_no x y n) ∙ cond_yes (over y x) _ _ (over_yes y x p)))
            (right_step same (x ∷ xs) y ys (against same x go ys) v (past_quiet y x xs w p) (rec x w))
        by (no n) (no o) rec =
            subst (λ (ds : Stretches A). Right same (x ∷ xs) (y ∷ ys) ds) (sym (cond_no (over x y) _ _ (over_no x y n) ∙ cond_no (over y x) _ _ (over_no y x o)))
            (overlap x xs y ys go (against same (since y.end x) go ys) w v u.one u.sooner u.later on (λ l. rec (since y.end x) (since_ok same y.end x xs l w)))
          where
            u : Overlap x y
            u = overlap_of x y n o

    right_all : (ys : List (Row A)) → Ordered ys → Right same [] ys (map (λ y. right_only y) ys)
    unfolding differ answer_for group
    right_all [] v = record { in_order = tt; answers = λ i m. refl }
    right_all (y ∷ ys) v = right_step same [] y ys (map (λ y. right_only y) ys) v (λ j m s. refl) (right_all ys v.2)

    -- the stretches of two ordered tables are in order and say at each moment what is to be reported
    pub compared_right : (xs ys : List (Row A)) → Ordered xs → Ordered ys → Right same xs ys (compared same xs ys)
    unfolding compared
    compared_right [] ys w v = right_all ys v
    compared_right (x ∷ xs) ys w v = against_right xs (compared same xs) (λ zs u. compared_right xs zs w.2 u) ys x w v

    -- each stretch is a longest run of what is to be reported, and each longest run is a stretch
    pub compared_longest : (xs ys : List (Row A)) → Ordered xs → Ordered ys → (d : Row (Difference A))
        → Mem d (compared same xs ys) ↔ IsRun (λ m. differ same (answer_for xs d.instrument m) (answer_for ys d.instrument m)) (interval_of d)
    compared_longest xs ys w v d =
        let r : Right same xs ys (compared same xs ys) = compared_right xs ys w v in
        let f : ℕ → Option (Difference A) = answer_for (compared same xs ys) d.instrument in
        let g : ℕ → Option (Difference A) = λ m. differ same (answer_for xs d.instrument m) (answer_for ys d.instrument m) in
        let l : Mem d (compared same xs ys) ↔ IsRun f (interval_of d) = rows_longest (compared same xs ys) r.in_order d in
        (λ h. same_run f g (r.answers d.instrument) (interval_of d) (l.0 h), λ h. l.1 (same_run g f (λ m. sym (r.answers d.instrument m)) (interval_of d) h))

    -- only one list is right
    pub compared_only : (xs ys : List (Row A)) (ds : Stretches A) → Ordered xs → Ordered ys → Right same xs ys ds → ds ≡ compared same xs ys
    compared_only xs ys ds w v r =
        let q : Right same xs ys (compared same xs ys) = compared_right xs ys w v in
        rows_unique ds (compared same xs ys) r.in_order q.in_order (λ i m. r.answers i m ∙ sym (q.answers i m))

    -- outside the stretches both say the same
    same_said : (l r : Option A) → differ same l r ≡ none → l ≡ r
    unfolding differ
    same_said none none e = refl
    same_said none (some v) e = absurd (none_some _ _ e refl)
    same_said (some u) none e = absurd (none_some _ _ e refl)
    same_said (some u) (some v) e =
        let d : Difference A = record { left = some u; right = some v } in
        cond_case (λ (o : Option (Difference A)). o ≡ none → some u ≡ some v) (same u v) none (some d)
        (λ t z. ap some (laws.alike u v t)) (λ t z. absurd (none_some (some d) d z refl)) e

    pub compared_outside : (xs ys : List (Row A)) → Ordered xs → Ordered ys → (i m : ℕ) → answer_for (compared same xs ys) i m ≡ none → answer_for xs i m ≡ answer_for ys i m
    compared_outside xs ys w v i m e = same_said _ _ (sym ((compared_right xs ys w v).answers i m) ∙ e)

    -- only one list, by instrument and start, has exactly the longest runs of what is to be reported
    pub compared_runs : (xs ys : List (Row A)) (ds : Stretches A) → Ordered xs → Ordered ys → Sorted ds → ((i : ℕ) → Rising (group i ds))
        → ((d : Row (Difference A)) → Mem d ds ↔ IsRun (λ m. differ same (answer_for xs d.instrument m) (answer_for ys d.instrument m)) (interval_of d))
        → ds ≡ compared same xs ys
    compared_runs xs ys ds w v s g h =
        let r : Right same xs ys (compared same xs ys) = compared_right xs ys w v in
        only_rows (λ i m. differ same (answer_for xs i m) (answer_for ys i m)) (compared same xs ys) ds r.in_order r.answers s g h

    -- a table disagrees nowhere with itself
    differ_self : (o : Option A) → differ same o o ≡ none
    unfolding differ
    differ_self none = refl
    differ_self (some v) = cond_yes (same v v) none _ (laws.itself v)

    pub compared_self : (xs : List (Row A)) → Ordered xs → compared same xs xs ≡ []
    compared_self xs w =
        sym (compared_only xs xs [] w w (record { in_order = tt; answers = λ i m. empty_says i m ∙ sym (differ_self (answer_for xs i m)) }))

    -- the sides exchanged
    differ_swap : (l r : Option A) → differ same r l ≡ turned_said (differ same l r)
    unfolding differ turned_said
    differ_swap none none = refl
    differ_swap none (some v) = refl
    differ_swap (some u) none = refl
    differ_swap (some u) (some v) =
        let d : Option (Difference A) = some (record { left = some u; right = some v }) in
        let e : Option (Difference A) = some (record { left = some v; right = some u }) in
        cond_case (λ (o : Option (Difference A)). cond (same v u) none e ≡ turned_said o) (same u v) none d
        (λ t. let q : u ≡ v = laws.alike u v t in cond_yes (same v u) none e (rw q (laws.itself v)))
        (λ t. cond_no (same v u) none e (not_T (same v u) (λ s. let q : v ≡ u = laws.alike v u s in T_not (same u v) t (rw q (laws.itself u)))))

    pub compared_swap : (xs ys : List (Row A)) → Ordered xs → Ordered ys → compared same ys xs ≡ map (λ d. turned d) (compared same xs ys)
    compared_swap xs ys w v =
        let r : Right same xs ys (compared same xs ys) = compared_right xs ys w v in
        sym (compared_only ys xs (map (λ d. turned d) (compared same xs ys)) v w (record {
          in_order = turned_order (compared same xs ys) r.in_order;
          answers = λ i m.
              turned_answers same (compared same xs ys) i m ∙ ap turned_said (r.answers i m)
              ∙ sym (differ_swap (answer_for xs i m) (answer_for ys i m));
        }))

  -- room that suffices: two stretches a row
  lead_long : (x y : Row A) (ds : Stretches A) → length (lead x y ds) ≤ suc (length ds)
  unfolding lead
  lead_long x y ds =
      cond_case (λ (zs : Stretches A). length zs ≤ suc (length ds)) (ltb x.start y.start) _ _ (λ t. omega arith)
      (λ t. cond_case (λ (zs : Stretches A). length zs ≤ suc (length ds)) (ltb y.start x.start) _ _ (λ t. omega arith) (λ t. omega arith))

  common_long : (x y : Row A) (ds : Stretches A) → length (common same x y ds) ≤ suc (length ds)
  unfolding common
  common_long x y ds =
      cond_case (λ (zs : Stretches A). length zs ≤ suc (length ds)) (same x.value y.value) _ _ (λ t. omega arith) (λ t. omega arith)

  against_long : (n : ℕ) (go : List (Row A) → Stretches A) → ((zs : List (Row A)) → length (go zs) ≤ 2 * (n + length zs))
      → (ys : List (Row A)) (x : Row A) → length (against same x go ys) ≤ 2 * (suc n + length ys)
  unfolding against
  against_long n go on [] x = omega (arith, on [])
  against_long n go on (y ∷ ys) x =
      let P : Stretches A → Type 0 = λ zs. length zs ≤ 2 * (suc n + suc (length ys)) in
      let Q : Stretches A → Type 0 = λ zs. length zs ≤ 2 * (suc n + length ys) in
      let a = on (y ∷ ys) in
      let b = on ys in
      let c = on (since x.end y ∷ ys) in
      let d = against_long n go on ys x in
      let f = against_long n go on ys (since y.end x) in
      let rest = cond (ltb x.end y.end) (go (since x.end y ∷ ys)) (cond (ltb y.end x.end) (against same (since y.end x) go ys) (go ys)) in
      let r : Q rest = cond_case Q (ltb x.end y.end) _ _ (λ t. omega (arith, c)) (λ t. cond_case Q (ltb y.end x.end) _ _ (λ t. f) (λ t. omega (arith, b))) in
      cond_case P (over x y) _ _ (λ t. omega (arith, a)) (λ t. cond_case P (over y x) _ _ (λ t. omega (arith, d))
      (λ t. omega (arith, lead_long x y (common same x y rest), common_long x y rest, r)))

  map_long : (ys : List (Row A)) → length (map (λ y. right_only y) ys) ≡ length ys
  map_long [] = refl
  map_long (y ∷ ys) = ap suc (map_long ys)

  pub compared_length : (xs ys : List (Row A)) → length (compared same xs ys) ≤ 2 * (length xs + length ys)
  unfolding compared
  compared_length [] ys = omega (arith, map_long ys)
  compared_length (x ∷ xs) ys = against_long (length xs) (compared same xs) (λ zs. compared_length xs zs) ys x
