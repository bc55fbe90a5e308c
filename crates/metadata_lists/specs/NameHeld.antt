-- One name's lists, gathered one after the other in `out` from the place k on. Assumes nothing.
use Rattle.std.specs.Prelude.{◌≡◌, refl, ◌≢◌, ℕ, suc, ◌+◌, ◌-◌, ◌*◌, ◌≤◌, ◌<◌, get_or, set, None, Some}
use Rattle.std.proofs.Math.Path.{sym, ap}
use Rattle.std.proofs.Common.{◌∙◌, subst, arith, set-set}
use mathlib.Core.List.{List, [], ◌∷◌}
use Rattle.std.proofs.Math.ListN.{length, length-set}
use Rattle.std.proofs.Math.Seq.{get_or-set_same, get_or-set_other}
use Rattle.std.proofs.lemmas.List.{set_comm}
use Rattle.metadata_rules.specs.declared.Interval.{Interval}
use Rattle.metadata_rules.specs.declared.IntervalOrdering.{IntervalOrdering}
use Rattle.metadata_rules.specs.declared.IntervalOrdering.TheVariants.{Equal, Less, Greater, Overlap}
use Rattle.metadata_rules.specs.Walk.{Walked, conflict, laid, walk, walk_all, then_all, out, agreed, heads, ordering, against, joined}
use Rattle.metadata_rules.specs.Cases.{eqb_case}
use Rattle.metadata_rules.specs.Words.{interval_at, stretch}
use Rattle.metadata_words.specs.Words.{put_at, rest, lay_intervals, length_put}
use Rattle.metadata_lists.specs.Heads.{conflicted, held, finish, ended_of}

-- ---- a walk's length: at least the longer list's, at most both together

abbrev Sized : ℕ → ℕ → Walked → Type 0
Sized a b conflict = Unit {0}
Sized a b (laid xs) = (a ≤ length xs) × (b ≤ length xs) × (length xs ≤ a + b)

out_sized : (a b p q : ℕ) (x : Interval) (w : Walked) → Sized a b w → a ≤ p → p ≤ suc a → b ≤ q → q ≤ suc b → suc (a + b) ≤ p + q → Sized p q (out x w)
unfolding out
out_sized a b p q x conflict s h i j k l = tt
out_sized a b p q x (laid xs) s h i j k l = (omega arith, omega arith, omega arith)

agreed_sized : (a b : ℕ) (x y z : Interval) (w : Walked) → Sized a b w → Sized (suc a) (suc b) (agreed x y z w)
unfolding agreed
agreed_sized a b x y z w s =
    eqb_case (Sized (suc a) (suc b)) x.symbol y.symbol _ _
    (λ e. out_sized a b (suc a) (suc b) z w s (omega arith) (omega arith) (omega arith) (omega arith) (omega arith)) (λ e. tt)

heads_sized : (p q : ℕ) (a b : Interval) (o : IntervalOrdering) (both past_a past_b : Walked)
    → Sized p q both → Sized p (suc q) past_a → Sized (suc p) q past_b → Sized (suc p) (suc q) (heads a b o both past_a past_b)
unfolding heads
heads_sized p q a b Equal both past_a past_b r s t = agreed_sized p q a b a both r
heads_sized p q a b Less both past_a past_b r s t = out_sized p (suc q) (suc p) (suc q) a past_a s (omega arith) (omega arith) (omega arith) (omega arith) (omega arith)
heads_sized p q a b Greater both past_a past_b r s t = out_sized (suc p) q (suc p) (suc q) b past_b t (omega arith) (omega arith) (omega arith) (omega arith) (omega arith)
heads_sized p q a b Overlap both past_a past_b r s t = agreed_sized p q a b (joined a b) both r

against_sized : (a : Interval) (al : List Interval) (go : List Interval → Walked) → ((bs : List Interval) → Sized (length al) (length bs) (go bs))
    → (bs : List Interval) → Sized (suc (length al)) (length bs) (against a al go bs)
unfolding against
against_sized a al go r [] = (omega arith, omega arith, omega arith)
against_sized a al go r (b ∷ bs) =
    heads_sized (length al) (length bs) a b (ordering a b) (go bs) (go (b ∷ bs)) (against a al go bs) (r bs) (r (b ∷ bs)) (against_sized a al go r bs)

walk_sized : (xs ys : List Interval) → Sized (length xs) (length ys) (walk xs ys)
unfolding walk
walk_sized [] ys = (omega arith, omega arith, omega arith)
walk_sized (a ∷ al) ys = against_sized a al (walk al) (walk_sized al) ys

pub walk_length : (xs ys zs : List Interval) → walk xs ys ≡ laid zs → (length xs ≤ length zs) × (length zs ≤ length xs + length ys)
walk_length xs ys zs e =
    let s : Sized (length xs) (length ys) (laid zs) = subst (Sized (length xs) (length ys)) e (walk_sized xs ys) in
    (s.0, s.2)

-- ---- what was laid is there

module _ (v : List ℕ) (k : ℕ) (x : Interval) where
  one : List ℕ
  one = set v (3 * k) x.start

  two : List ℕ
  two = set (set v (3 * k) x.start) (3 * k + 1) x.end

  put_other : (t : ℕ) → t ≢ 3 * k → t ≢ 3 * k + 1 → t ≢ 3 * k + 2 → get_or (put_at v k x) t 0 ≡ get_or v t 0
  unfolding put_at one two
  put_other t a b c =
      get_or-set_other two (3 * k + 2) t x.symbol 0 c
      ∙ get_or-set_other one (3 * k + 1) t x.end 0 b
      ∙ get_or-set_other v (3 * k) t x.start 0 a

  put_start : 3 * k + 3 ≤ length v → get_or (put_at v k x) (3 * k) 0 ≡ x.start
  unfolding put_at one two
  put_start h =
      get_or-set_other two (3 * k + 2) (3 * k) x.symbol 0 (λ e. omega arith)
      ∙ get_or-set_other one (3 * k + 1) (3 * k) x.end 0 (λ e. omega arith)
      ∙ get_or-set_same v (3 * k) x.start 0 (omega arith)

  put_end : 3 * k + 3 ≤ length v → get_or (put_at v k x) (3 * k + 1) 0 ≡ x.end
  unfolding put_at one two
  put_end h =
      get_or-set_other two (3 * k + 2) (3 * k + 1) x.symbol 0 (λ e. omega arith)
      ∙ get_or-set_same one (3 * k + 1) x.end 0 (simp length-set (omega arith))

  put_symbol : 3 * k + 3 ≤ length v → get_or (put_at v k x) (3 * k + 2) 0 ≡ x.symbol
  unfolding put_at two
  put_symbol h = get_or-set_same two (3 * k + 2) x.symbol 0 (simp length-set (omega arith))

lay_below : (xs : List Interval) (v : List ℕ) (k t : ℕ) → t < 3 * k → get_or (lay_intervals v k xs) t 0 ≡ get_or v t 0
unfolding lay_intervals
lay_below [] v k t h = refl
lay_below (x ∷ xs) v k t h =
    lay_below xs (put_at v k x) (k + 1) t (omega arith) ∙ put_other v k x t (λ e. omega arith) (λ e. omega arith) (λ e. omega arith)

lay_head : (x : Interval) (xs : List Interval) (v : List ℕ) (k : ℕ) → 3 * k + 3 ≤ length v → interval_at (lay_intervals (put_at v k x) (k + 1) xs) k ≡ x
unfolding interval_at
lay_head x xs v k h =
    let a : get_or (lay_intervals (put_at v k x) (k + 1) xs) (3 * k) 0 ≡ x.start = lay_below xs (put_at v k x) (k + 1) (3 * k) (omega arith) ∙ put_start v k x h in
    let b : get_or (lay_intervals (put_at v k x) (k + 1) xs) (3 * k + 1) 0 ≡ x.end = lay_below xs (put_at v k x) (k + 1) (3 * k + 1) (omega arith) ∙ put_end v k x h in
    let c : get_or (lay_intervals (put_at v k x) (k + 1) xs) (3 * k + 2) 0 ≡ x.symbol = lay_below xs (put_at v k x) (k + 1) (3 * k + 2) (omega arith) ∙ put_symbol v k x h in
    rw (a, b, c) refl

stretch_lay : (xs : List Interval) (v : List ℕ) (k : ℕ) → 3 * (k + length xs) ≤ length v → stretch (lay_intervals v k xs) k (length xs) ≡ xs
unfolding stretch lay_intervals
stretch_lay [] v k h = refl
stretch_lay (x ∷ xs) v k h =
    let l : length (put_at v k x) ≡ length v = length_put v k x in
    rw (lay_head x xs v k (omega arith)) (ap (λ (r : List Interval). x ∷ r) (stretch_lay xs (put_at v k x) (k + 1) (omega arith)))

pub rest_laid : (v w : List ℕ) (k n : ℕ) (xs : List Interval) → w ≡ lay_intervals v k xs → n ≡ length xs → 3 * (k + n) ≤ length v → rest w k (k + n) ≡ xs
unfolding rest
rest_laid v w k n xs e d h =
    let z : (k + n) - k ≡ length xs = omega arith in
    rw (e, z) (stretch_lay xs v k (omega arith))

-- ---- laid over what was laid

put_set : (v : List ℕ) (k : ℕ) (x : Interval) (p a : ℕ) → 3 * k ≢ p → 3 * k + 1 ≢ p → 3 * k + 2 ≢ p → set (put_at v k x) p a ≡ put_at (set v p a) k x
unfolding put_at
put_set v k x p a f g h =
    set_comm (set (set v (3 * k) x.start) (3 * k + 1) x.end) (3 * k + 2) p x.symbol a h
    ∙ ap (λ (w : List ℕ). set w (3 * k + 2) x.symbol)
    (set_comm (set v (3 * k) x.start) (3 * k + 1) p x.end a g
    ∙ ap (λ (w : List ℕ). set w (3 * k + 1) x.end) (set_comm v (3 * k) p x.start a f))

put_comm : (v : List ℕ) (k j : ℕ) (x y : Interval) → j < k → put_at (put_at v k x) j y ≡ put_at (put_at v j y) k x
unfolding put_at
put_comm v k j x y h =
    ap (λ (w : List ℕ). set (set w (3 * j + 1) y.end) (3 * j + 2) y.symbol)
    (put_set v k x (3 * j) y.start (λ e. omega arith) (λ e. omega arith) (λ e. omega arith))
    ∙ ap (λ (w : List ℕ). set w (3 * j + 2) y.symbol)
    (put_set (set v (3 * j) y.start) k x (3 * j + 1) y.end (λ e. omega arith) (λ e. omega arith) (λ e. omega arith))
    ∙ put_set (set (set v (3 * j) y.start) (3 * j + 1) y.end) k x (3 * j + 2) y.symbol (λ e. omega arith) (λ e. omega arith) (λ e. omega arith)

put_put : (v : List ℕ) (k : ℕ) (x y : Interval) → put_at (put_at v k x) k y ≡ put_at v k y
unfolding put_at
put_put v k x y = go (3 * k) (3 * k + 1) (3 * k + 2) (λ e. omega arith) (λ e. omega arith) (λ e. omega arith) x.start x.end x.symbol y.start y.end y.symbol
  where
    go : (p q r : ℕ) → q ≢ p → r ≢ p → r ≢ q → (a b c d e f : ℕ) → set (set (set (set (set (set v p a) q b) r c) p d) q e) r f ≡ set (set (set v p d) q e) r f
    go p q r m n o a b c d e f =
        ap (λ (w : List ℕ). set (set w q e) r f)
        (set_comm (set (set v p a) q b) r p c d n
        ∙ ap (λ (w : List ℕ). set w r c) (set_comm (set v p a) q p b d m ∙ ap (λ (w : List ℕ). set w q b) (set-set v p a d)))
        ∙ ap (λ (w : List ℕ). set w r f)
        (set_comm (set (set v p d) q b) r q c e o ∙ ap (λ (w : List ℕ). set w r c) (set-set (set v p d) q b e))
        ∙ set-set (set (set v p d) q e) r c f

lay_put : (xs : List Interval) (v : List ℕ) (k j : ℕ) (y : Interval) → j < k → put_at (lay_intervals v k xs) j y ≡ lay_intervals (put_at v j y) k xs
unfolding lay_intervals
lay_put [] v k j y h = refl
lay_put (x ∷ xs) v k j y h =
    lay_put xs (put_at v k x) (k + 1) j y (omega arith) ∙ ap (λ (w : List ℕ). lay_intervals w (k + 1) xs) (put_comm v k j x y h)

pub lay_over : (xs ys : List Interval) (v : List ℕ) (k : ℕ) → length xs ≤ length ys → lay_intervals (lay_intervals v k xs) k ys ≡ lay_intervals v k ys
unfolding lay_intervals
lay_over [] ys v k h = refl
lay_over (x ∷ xs) [] v k h = absurd (omega arith)
lay_over (x ∷ xs) (y ∷ ys) v k h =
    ap (λ (w : List ℕ). lay_intervals w (k + 1) ys)
    (lay_put xs (put_at v k x) (k + 1) k y (omega arith) ∙ ap (λ (w : List ℕ). lay_intervals w (k + 1) xs) (put_put v k x y))
    ∙ lay_over xs ys (put_at v k y) (k + 1) (omega arith)

-- ---- gathering

-- `out` holds from the place k on n intervals, and walked on with the lists ls they give the goal
pub record Gathered (ls : List (List Interval)) (goal : Walked) (v w : List ℕ) (k n : ℕ) : Type 0 where
  pub cur : List Interval
  pub there : w ≡ lay_intervals v k cur
  pub size : n ≡ length cur
  pub on : walk_all cur ls ≡ goal

pub held_finish : (w : List ℕ) (e : ℕ) (v : List ℕ) (k : ℕ) (r : Walked) → held w e ≡ finish v k r
    → (xs : List Interval) × (r ≡ laid xs) × (w ≡ lay_intervals v k xs) × (e ≡ k + length xs)
unfolding finish
held_finish w e v k conflict d = let z : ◌≡◌ {A = ℕ} 0 1 = cc in absurd (omega arith)
held_finish w e v k (laid xs) d = (xs, refl, (cc), (cc))

pub conflict_finish : (v : List ℕ) (k : ℕ) (r : Walked) → conflicted ≡ finish v k r → r ≡ conflict
unfolding finish
conflict_finish v k conflict d = refl
conflict_finish v k (laid xs) d = let z : ◌≡◌ {A = ℕ} 0 1 = cc in absurd (omega arith)

pub first_list : (l : List Interval) (ls : List (List Interval)) (v w : List ℕ) (k n : ℕ) → w ≡ lay_intervals v k l → n ≡ length l → Gathered ls (walk_all l ls) v w k n
first_list l ls v w k n e d = record { cur = l; there = e; size = d; on = refl }

module _ (l : List Interval) (ls : List (List Interval)) (goal : Walked) (v w : List ℕ) (k n : ℕ) (g : Gathered (l ∷ ls) goal v w k n)
    (t u : List ℕ) (copied : u ≡ lay_intervals t 0 (rest w k (k + n))) (room : 3 * (k + n) ≤ length v) (space : 3 * n ≤ length t) where
  seen : rest w k (k + n) ≡ g.cur
  seen = rest_laid v w k n g.cur g.there g.size room

  back : rest u 0 n ≡ g.cur
  back =
      let z : 0 + n ≡ n = omega arith in
      ap (rest u 0) (sym z) ∙ rest_laid t u 0 n g.cur (copied ∙ ap (lay_intervals t 0) seen) g.size (omega arith)

  pub more_conflict : (x : List ℕ) → ended_of None x ≡ finish w k (walk (rest u 0 n) l) → goal ≡ conflict
  unfolding ended_of walk_all then_all
  more_conflict x d =
      let e : walk g.cur l ≡ conflict = ap (λ (r : List Interval). walk r l) (sym back) ∙ conflict_finish w k (walk (rest u 0 n) l) d in
      sym g.on ∙ ap (then_all (λ r. walk_all r ls)) e

  pub more_laid : (x : List ℕ) (e : ℕ) → ended_of (Some e) x ≡ finish w k (walk (rest u 0 n) l)
      → Gathered ls goal v x k (e - k) × (k ≤ e) × (e ≤ k + n + length l)
  unfolding ended_of walk_all then_all
  more_laid x e d = go (held_finish x e w k (walk (rest u 0 n) l) d)
    where
      go : (xs : List Interval) × (walk (rest u 0 n) l ≡ laid xs) × (x ≡ lay_intervals w k xs) × (e ≡ k + length xs)
          → Gathered ls goal v x k (e - k) × (k ≤ e) × (e ≤ k + n + length l)
      go h =
          let f : walk g.cur l ≡ laid h.0 = ap (λ (r : List Interval). walk r l) (sym back) ∙ h.1 in
          let s = walk_length g.cur l h.0 f in
          let z = g.size in (
            record {
              cur = h.0;
              there = h.2 ∙ ap (λ (r : List ℕ). lay_intervals r k h.0) g.there ∙ lay_over g.cur h.0 v k s.0;
              size = omega (arith, h.3);
              on = ap (then_all (λ r. walk_all r ls)) (sym f) ∙ g.on;
            },
            omega (arith, h.3),
            omega (arith, h.3),
          )

pub gathered_end : (goal : Walked) (v w : List ℕ) (k n : ℕ) → Gathered [] goal v w k n → held w (k + n) ≡ finish v k goal
unfolding finish walk_all
gathered_end goal v w k n g =
    ap (λ (r : List ℕ). held r (k + n)) g.there ∙ ap (λ (m : ℕ). held (lay_intervals v k g.cur) (k + m)) g.size ∙ ap (finish v k) g.on
