-- The heap: what its contracts cite, and the laws that its loops' proofs cite. Assumes nothing.
use Rattle.std.specs.Prelude.{◌≡◌, refl, ◌≢◌, ◌⊎◌, Bool, true, false, ℕ, ◌+◌, ◌-◌, ◌*◌, ◌/◌, ◌≤◌, ◌<◌, ltb, get_or}
use Rattle.std.proofs.Math.Path.{sym, ap, subst}
use Rattle.std.proofs.Common.{◌∙◌, inl, inr, ⊎_elim, true≢false, zero-le, ltb-true, ltb-false, get_or-set_same, get_or-set_other, set-set}
use Rattle.std.proofs.Math.Decide.{ℕ_discrete}
use native.Mathlib.Omega.{arith}
use mathlib.Core.List.{List}
use Rattle.std.proofs.Math.ListN.{length, set, length-set}
use Rattle.std.proofs.lemmas.List.{set-get_or}
use Rattle.records_rules.specs.Least.{Upto, upto_refl, upto_trans}
use Rattle.records_rules.specs.Heap.{at, over, swap, swap_left, swap_right, swap_other, swap_there, Le, HeapFrom, HeapBut, but_start, but_done, but_step}

abbrev pub keys : List ℕ → ℕ → ℕ
keys ts p = get_or ts p 0

-- ---- the first n places of hq hold what those of hp hold, in another order; the places behind them are as they were

pub record Moved (n : ℕ) (hp hq : List ℕ) : Type 0 where
  pub to : (x : ℕ) → x < n → (y : ℕ) × (y < n) × (at hq y ≡ at hp x)
  pub from : (y : ℕ) → y < n → (x : ℕ) × (x < n) × (at hp x ≡ at hq y)
  pub once : ((x y : ℕ) → x < n → y < n → at hp x ≡ at hp y → x ≡ y) → (x y : ℕ) → x < n → y < n → at hq x ≡ at hq y → x ≡ y
  pub behind : (x : ℕ) → n ≤ x → at hq x ≡ at hp x

pub moved_refl : (n : ℕ) (hp : List ℕ) → Moved n hp hp
moved_refl n hp = record { to = λ x h. (x, h, refl); from = λ x h. (x, h, refl); once = λ f. f; behind = λ x h. refl }

pub moved_trans : {n : ℕ} {hp hq hr : List ℕ} → Moved n hp hq → Moved n hq hr → Moved n hp hr
moved_trans {n} {hp} {hq} {hr} a b = record { to = to'; from = from'; once = λ f. b.once (a.once f); behind = λ x h. b.behind x h ∙ a.behind x h }
  where
    to' : (x : ℕ) → x < n → (y : ℕ) × (y < n) × (at hr y ≡ at hp x)
    to' x h =
        let u : (y : ℕ) × (y < n) × (at hq y ≡ at hp x) = a.to x h in
        let v : (y : ℕ) × (y < n) × (at hr y ≡ at hq u.0) = b.to u.0 u.1 in
        (v.0, v.1, v.2 ∙ u.2)

    from' : (y : ℕ) → y < n → (x : ℕ) × (x < n) × (at hp x ≡ at hr y)
    from' y h =
        let u : (x : ℕ) × (x < n) × (at hq x ≡ at hr y) = b.from y h in
        let v : (x : ℕ) × (x < n) × (at hp x ≡ at hq u.0) = a.from u.0 u.1 in
        (v.0, v.1, v.2 ∙ u.2)

-- where a swap puts the index x
module _ (hp : List ℕ) (n i m : ℕ) (hn : n ≤ length hp) (hi : i < n) (hm : m < n) (d : i ≢ m) where
  goes : (x : ℕ) → x < n → (y : ℕ) × (y < n) × (at (swap hp i m) x ≡ at hp y) × ((x ≡ i → y ≡ m) × (x ≡ m → y ≡ i) × (x ≢ i → x ≢ m → y ≡ x))
  goes x hx = go (ℕ_discrete x i) (ℕ_discrete x m)
    where
      go : Dec (x ≡ i) → Dec (x ≡ m) → (y : ℕ) × (y < n) × (at (swap hp i m) x ≡ at hp y) × ((x ≡ i → y ≡ m) × (x ≡ m → y ≡ i) × (x ≢ i → x ≢ m → y ≡ x))
      go (yes a) b =
          (m, hm, ap (at (swap hp i m)) a ∙ swap_left hp i m (omega arith) (omega arith) d, ((λ e. refl), (λ e. absurd (d (sym a ∙ e))), (λ e f. absurd (e a))))
      go (no a) (yes b) =
          (i, hi, ap (at (swap hp i m)) b ∙ swap_right hp i m (omega arith) (omega arith), ((λ e. absurd (a e)), (λ e. refl), (λ e f. absurd (f b))))
      go (no a) (no b) =
          (x, hx, swap_other hp i m (omega arith) (omega arith) x a b, ((λ e. absurd (a e)), (λ e. absurd (b e)), (λ e f. refl)))

  pub moved_swap : Moved n hp (swap hp i m)
  moved_swap =
      record {
        to = λ x h. swap_there hp n i m hn hi hm d (at hp x) x h refl;
        from = λ y h. let u = goes y h in (u.0, u.1, sym u.2);
        once = λ f x y hx hy e.
            let u = goes x hx in
            let v = goes y hy in
            let w : u.0 ≡ v.0 = f u.0 v.0 u.1 v.1 (sym u.2 ∙ e ∙ v.2) in
            fin x y hx hy u.0 v.0 w u.3 v.3 (ℕ_discrete x i) (ℕ_discrete x m) (ℕ_discrete y i) (ℕ_discrete y m);
        behind = λ x h. swap_other hp i m (omega arith) (omega arith) x (λ e. omega arith) (λ e. omega arith);
      }
    where
      Rule : ℕ → ℕ → Type 0
      Rule x y = (x ≡ i → y ≡ m) × (x ≡ m → y ≡ i) × (x ≢ i → x ≢ m → y ≡ x)

      fin : (x y : ℕ) → x < n → y < n → (u v : ℕ) → u ≡ v → Rule x u → Rule y v → Dec (x ≡ i) → Dec (x ≡ m) → Dec (y ≡ i) → Dec (y ≡ m) → x ≡ y
      fin x y hx hy u v w r s (yes a) b (yes c) e = a ∙ sym c
      fin x y hx hy u v w r s (yes a) b (no c) (yes e) = absurd (d (omega (arith, r.0 a, s.1 e)))
      fin x y hx hy u v w r s (yes a) b (no c) (no e) = absurd (e (omega (arith, r.0 a, s.2 c e)))
      fin x y hx hy u v w r s (no a) (yes b) (yes c) e = absurd (d (omega (arith, r.1 b, s.0 c)))
      fin x y hx hy u v w r s (no a) (yes b) (no c) (yes e) = b ∙ sym e
      fin x y hx hy u v w r s (no a) (yes b) (no c) (no e) = absurd (c (omega (arith, r.1 b, s.2 c e)))
      fin x y hx hy u v w r s (no a) (no b) (yes c) e = absurd (b (omega (arith, r.2 a b, s.0 c)))
      fin x y hx hy u v w r s (no a) (no b) (no c) (yes e) = absurd (a (omega (arith, r.2 a b, s.1 e)))
      fin x y hx hy u v w r s (no a) (no b) (no c) (no e) = omega (arith, r.2 a b, s.2 c e)

-- a sift from i: the same streams; and where the order held behind i, it holds from i on
pub record Sifted (ts : List ℕ) (n i : ℕ) (hp hq : List ℕ) : Type 0 where
  pub moved : Moved n hp hq
  pub heap : HeapFrom (keys ts) hp n (i + 1) → HeapFrom (keys ts) hq n i

-- ---- what stands at a place: its stream and its time; of two places side by side, the one whose stream comes first

pub record Stands (ts hp : List ℕ) (a r q t : ℕ) : Type 0 where
  pub place : r ≡ a
  pub stream : q ≡ at hp a
  pub small : q < 256
  pub time : t ≡ keys ts q

-- whether (t, p) is not after (u, q); where both are the same, either answer will do
pub record Sooner (t p u q : ℕ) (r : Bool) : Type 0 where
  pub yes : r ≡ true → Upto t p u q
  pub no : r ≡ false → Upto u q t p

pub sooner_yes : {t p u q : ℕ} → t < u → Sooner t p u q true
sooner_yes h = record { yes = λ e. record { times = omega arith; numbers = λ k. absurd (omega arith) }; no = λ e. absurd (true≢false e) }

pub sooner_tie : {t p u q : ℕ} → t ≤ u → u ≤ t → Sooner t p u q (ltb p q)
sooner_tie {t} {p} {u} {q} h k =
    record {
      yes = λ e. record { times = h; numbers = λ i. omega (arith, ltb-true p q e) };
      no = λ e. record { times = k; numbers = λ i. omega (arith, ltb-false p q e) };
    }

pub sooner_no : {t p u q : ℕ} → u < t → Sooner t p u q false
sooner_no h = record { yes = λ e. absurd (true≢false (sym e)); no = λ e. record { times = omega arith; numbers = λ k. absurd (omega arith) } }

pub record Lesser (ts hp : List ℕ) (a r q t : ℕ) : Type 0 where
  pub one : (r ≡ a) ⊎ (r ≡ a + 1)
  pub stands : Stands ts hp r r q t
  pub left : Le (keys ts) q (at hp a)
  pub right : Le (keys ts) q (at hp (a + 1))

module _ {ts hp : List ℕ} {a r q t s p u : ℕ} (x : Stands ts hp a r q t) (y : Stands ts hp (a + 1) s p u) where
  own : {b m l k : ℕ} → Stands ts hp b m l k → Stands ts hp m m l k
  own z = record { place = refl; stream = z.stream ∙ ap (at hp) (sym z.place); small = z.small; time = z.time }

  pub lesser_left : Upto t q u p → Lesser ts hp a r q t
  lesser_left h =
      record {
        one = inl x.place;
        stands = own x;
        left = rw (← x.stream) (upto_refl _ _);
        right = rw (← y.stream, ← x.time, ← y.time) h;
      }

  pub lesser_right : Upto u p t q → Lesser ts hp a s p u
  lesser_right h =
      record {
        one = inr y.place;
        stands = own y;
        left = rw (← x.stream, ← x.time, ← y.time) h;
        right = rw (← y.stream) (upto_refl _ _);
      }

-- ---- the least child of i

pub record Child (ts hp : List ℕ) (n i m q t : ℕ) : Type 0 where
  pub below : (0 < m) × (m < n) × (over m ≡ i)
  pub stream : q ≡ at hp m
  pub time : t ≡ keys ts q
  pub best : (j : ℕ) → 0 < j → j < n → over j ≡ i → Le (keys ts) q (at hp j)

pub child_lone : {ts hp : List ℕ} {n i m q t : ℕ} → 2 * i + 1 < n → n ≤ 2 * i + 2 → Stands ts hp (2 * i + 1) m q t → Child ts hp n i (2 * i + 1) q t
child_lone {ts} {hp} {n} {i} h k x =
    record {
      below = (omega arith, h, omega arith);
      stream = x.stream;
      time = x.time;
      best = λ j a b d. let e : 2 * i + 1 ≡ j = omega arith in rw (← e, ← x.stream) (upto_refl _ _);
    }

pub child_lesser : {ts hp : List ℕ} {n i m q t : ℕ} → 2 * i + 2 < n → Lesser ts hp (2 * i + 1) m q t → Child ts hp n i m q t
child_lesser {ts} {hp} {n} {i} {m} {q} {t} h x =
    record {
      below = ⊎_elim (λ e. (omega arith, omega arith, omega arith)) (λ e. (omega arith, omega arith, omega arith)) x.one;
      stream = x.stands.stream;
      time = x.stands.time;
      best = best';
    }
  where
    best' : (j : ℕ) → 0 < j → j < n → over j ≡ i → Le (keys ts) q (at hp j)
    best' j a b d = go (ℕ_discrete (2 * i + 1) j)
      where
        go : Dec (2 * i + 1 ≡ j) → Le (keys ts) q (at hp j)
        go (yes e) = rw e at x.left
        go (no e) = let f : 2 * i + 1 + 1 ≡ j = omega arith in rw f at x.right

-- ---- a turn of the sift, that started from o: nothing here asks that there was an order

pub record Sifting (ts : List ℕ) (n o i : ℕ) (hp hq : List ℕ) : Type 0 where
  pub moved : Moved n hp hq
  pub but : HeapFrom (keys ts) hp n (o + 1) → HeapBut (keys ts) hq n o i

-- the heap with the stream x, which is in hand, at the hole i
pub record Holding (ts : List ℕ) (n o x i : ℕ) (hp hq : List ℕ) : Type 0 where
  pub inside : i < n
  pub room : n ≤ length hq
  pub long : length hq ≡ length hp
  pub filled : Sifting ts n o i hp (set hq i x)

-- nothing stands at o
pub sift_none : (ts hp : List ℕ) (n o : ℕ) → n ≤ o → Sifted ts n o hp hp
sift_none ts hp n o h = record { moved = moved_refl n hp; heap = λ f j a b c. absurd (omega arith) }

pub sift_start : {ts hp : List ℕ} {n o x : ℕ} → o < n → n ≤ length hp → x ≡ at hp o → Holding ts n o x o hp hp
sift_start {ts} {hp} {n} {o} {x} h k e =
    let same : hp ≡ set hp o x = sym (ap (set hp o) e ∙ set-get_or hp o 0) in
    let start : Sifting ts n o o hp hp = record { moved = moved_refl n hp; but = but_start (keys ts) hp n o } in
    record { inside = h; room = k; long = refl; filled = subst (Sifting ts n o o hp) same start }

module _ {ts hp hq : List ℕ} {n o x i : ℕ} (s : Holding ts n o x i hp hq) where
  -- a place other than the hole
  aside : (j : ℕ) → j ≢ i → at (set hq i x) j ≡ at hq j
  aside j d = get_or-set_other hq i j x 0 d

  hole : at (set hq i x) i ≡ x
  hole = get_or-set_same hq i x 0 (omega (arith, s.inside, s.room))

  -- no child: what is in hand goes into the hole
  pub sift_leaf : n ≤ 2 * i + 1 → Sifted ts n o hp (set hq i x)
  sift_leaf h =
      let f = s.filled in
      record { moved = f.moved; heap = λ k. but_done (keys ts) (set hq i x) n o i (f.but k) (λ j a b d. absurd (omega arith)) }

  module _ {m q t u : ℕ} (c : Child ts hq n i m q t) (e : u ≡ keys ts x) where
    -- no child before it: likewise
    pub sift_stay : Upto u x t q → Sifted ts n o hp (set hq i x)
    sift_stay l = record { moved = s.filled.moved; heap = λ k. but_done (keys ts) (set hq i x) n o i (s.filled.but k) best' }
      where
        best' : (j : ℕ) → 0 < j → j < n → over j ≡ i → Le (keys ts) (at (set hq i x) i) (at (set hq i x) j)
        best' j a b d =
            let v : at (set hq i x) j ≡ at hq j = aside j (λ z. omega arith) in
            rw (hole, v) (upto_trans (rw (← e, ← c.time) l) (c.best j a b d))

    -- the least child goes into the hole, and leaves one behind it
    pub sift_turn : Upto t q u x → Holding ts n o x m hp (set hq i q)
    unfolding swap
    sift_turn l =
        let b = c.below in
        let f = s.filled in
        let ne : m ≢ i = λ z. omega arith in
        let fits : n ≤ length (set hq i x) = omega (arith, length-set hq i x, s.room) in
        let um : at (set hq i x) m ≡ q = aside m ne ∙ sym c.stream in
        let own' : Le (keys ts) (at (set hq i x) m) (at (set hq i x) i) = rw (um, hole, ← e, ← c.time) l in
        let best' : (j : ℕ) → 0 < j → j < n → over j ≡ i → Le (keys ts) (at (set hq i x) m) (at (set hq i x) j) =
        λ j p r d. let v : at (set hq i x) j ≡ at hq j = aside j (λ z. omega arith) in rw (um, v) (c.best j p r d) in
        let same : swap (set hq i x) i m ≡ set (set hq i q) m x =
        ap (λ (y : ℕ). set (set (set hq i x) i y) m (at (set hq i x) i)) um
        ∙ ap (λ (y : ℕ). set (set (set hq i x) i q) m y) hole
        ∙ ap (λ (l : List ℕ). set l m x) (set-set hq i x q) in
        let turned : Sifting ts n o m hp (swap (set hq i x) i m) =
        record {
          moved = moved_trans f.moved (moved_swap (set hq i x) n i m fits s.inside b.1 (λ z. ne (sym z)));
          but = λ k. but_step (keys ts) (set hq i x) n o i m fits (f.but k) b.0 b.1 b.2 own' best';
        } in
        record {
          inside = b.1;
          room = omega (arith, length-set hq i q, s.room);
          long = length-set hq i q ∙ s.long;
          filled = subst (Sifting ts n o m hp) same turned;
        }

-- the hole at i, which has one child at most, is at r in the end: what is in hand, of the time u, goes there
pub record Settled (ts : List ℕ) (n u x i : ℕ) (hq : List ℕ) (r : ℕ) (hr : List ℕ) : Type 0 where
  pub inside : r < n
  pub done : {hp : List ℕ} {o : ℕ} → u ≡ keys ts x → Holding ts n o x i hp hq → Sifted ts n o hp (set hr r x)

pub settle_leaf : {ts hq : List ℕ} {n u x i : ℕ} → i < n → n ≤ 2 * i + 1 → Settled ts n u x i hq i hq
settle_leaf h k = record { inside = h; done = λ e s. sift_leaf s k }

pub settle_stay : {ts hq : List ℕ} {n u x i m q t : ℕ} → i < n → Child ts hq n i m q t → Upto u x t q → Settled ts n u x i hq i hq
settle_stay h c l = record { inside = h; done = λ e s. sift_stay s c e l }

pub settle_turn : {ts hq : List ℕ} {n u x i m q t : ℕ} → n ≤ 2 * i + 2 → Child ts hq n i m q t → Upto t q u x → Settled ts n u x i hq m (set hq i q)
settle_turn k c l =
    let b = c.below in
    record { inside = b.1; done = λ e s. sift_leaf (sift_turn s c e l) (omega arith) }

pub moved_bound : {n : ℕ} {hp hq : List ℕ} (k : ℕ) → Moved n hp hq → ((x : ℕ) → x < n → at hp x < k) → (y : ℕ) → y < n → at hq y < k
moved_bound {n} {hp} {hq} k m f y h =
    let u : (x : ℕ) × (x < n) × (at hp x ≡ at hq y) = m.from y h in
    omega (arith, u.2, f u.0 u.1)

-- ---- the order is made from k on

pub record Heaped (ts : List ℕ) (n : ℕ) (hp hq : List ℕ) (k : ℕ) : Type 0 where
  pub long : length hq ≡ length hp
  pub few : k ≤ n
  pub moved : Moved n hp hq
  pub order : HeapFrom (keys ts) hq n k

pub heaped_start : (ts : List ℕ) (n : ℕ) (hp : List ℕ) → Heaped ts n hp hp (n / 2)
heaped_start ts n hp = record { long = refl; few = omega arith; moved = moved_refl n hp; order = λ j a b c. absurd (omega arith) }

pub heaped_step : {ts : List ℕ} {n : ℕ} {hp hq hr : List ℕ} {k : ℕ} → 0 < k → Heaped ts n hp hq k → Sifted ts n (k - 1) hq hr → length hr ≡ length hq
    → Heaped ts n hp hr (k - 1)
heaped_step b x s l = record { long = l ∙ x.long; few = omega (arith, x.few); moved = moved_trans x.moved s.moved; order = s.heap (λ j p q r. x.order j p q (omega arith)) }

pub heaped_done : {ts : List ℕ} {n : ℕ} {hp hq : List ℕ} {k : ℕ} → k ≤ 0 → Heaped ts n hp hq k → Heaped ts n hp hq 0
heaped_done h x = record { long = x.long; few = zero-le; moved = x.moved; order = λ j a b c. x.order j a b (omega arith) }
