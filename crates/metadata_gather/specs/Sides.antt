-- Mappings laid by their places: the words that a place asks for, and what is laid. Assumes nothing.
use Rattle.std.specs.Prelude.{◌≡◌, get_or, set, take, drop}
use Rattle.std.proofs.Math.Path.{refl, sym, ap}
use Rattle.std.proofs.Common.{◌∙◌, subst, get_or-set_same, get_or-set_other, get_or-take, drop-cons, length-take-le}
use Prim.Native.Nat.{ℕ, zero, suc, ◌+◌, ◌-◌, ◌*◌, ◌≤◌, ◌<◌}
use native.Mathlib.Omega.{arith}
use Rattle.std.proofs.Math.Decide.{ℕ_discrete}
use mathlib.Core.List.{List, [], ◌∷◌, ◌++◌}
use Rattle.std.proofs.Math.ListN.{length}
use Rattle.theory.specs.Runs.{All}
use Rattle.metadata_rules.specs.Cases.{eqb_case, cond_eq, cond_ne}
use Rattle.metadata_rules.specs.Metadata.{Mapping, mapping, enter, enter_all, count_intervals}
use Rattle.metadata_rules.specs.Words.{name_at, count_at, mappings_from, before, stretch_length}
use Rattle.metadata_words.specs.Words.{put_mapping, lay_intervals}
use Rattle.metadata_lists.specs.Flat.{list_at, placed_from}
use Rattle.metadata_rules.specs.WordsLaws.{before_next, before_up}
use Rattle.metadata_lists.specs.Link.{flat_same}
use Rattle.metadata_lists.specs.Name.{list_length}
use Rattle.metadata_lists.specs.Names.{placed, lay_all}
use Rattle.metadata_gather.specs.Picks.{enter_place, picks_of}

-- the place j asks for its mapping's words, its offset and its intervals
pub record Within (m v off : List ℕ) (j : ℕ) : Type 0 where
  pub words : 2 * j + 2 ≤ length m
  pub offs : j < length off
  pub spans : 3 * (get_or off j 0 + count_at m j) ≤ length v

-- the mappings at n places from the p-th on
unfoldable pub picked_from : List ℕ → List ℕ → List ℕ → List ℕ → ℕ → ℕ → List Mapping
picked_from m v off ps p zero = []
picked_from m v off ps p (suc n) = mapping (name_at m (get_or ps p 0)) (list_at m v off (get_or ps p 0)) ∷ picked_from m v off ps (p + 1) n

unfoldable pub picked_to : List ℕ → List ℕ → List ℕ → List ℕ → ℕ → ℕ → List Mapping
unfolding picked_from
picked_to m v off ps p e = picked_from m v off ps p (e - p)

-- n places whose mappings fit from the q-th mapping and the k-th interval on
pub record Layable (m v off ps : List ℕ) (n lm q lv k : ℕ) : Type 0 where
  pub places : n ≤ length ps
  pub inside : (t : ℕ) → t < n → Within m v off (get_or ps t 0)
  pub maps : 2 * (q + n) ≤ lm
  pub room : 3 * (k + count_intervals (picked_to m v off ps 0 n)) ≤ lv
  pub small : lv < 4294967296
  pub few : lm < 4294967296

-- n mappings of a metadata stand in their words, few enough, and fit from the q-th mapping and the k-th interval on
pub record Sound (m : List ℕ) (n : ℕ) (v : List ℕ) (lm q lv k : ℕ) : Type 0 where
  pub words : 2 * n ≤ length m
  pub count : n ≤ 4096
  pub spans : 3 * before m n ≤ length v
  pub maps : 2 * (q + n) ≤ lm
  pub room : 3 * (k + before m n) ≤ lv
  pub small : lv < 4294967296
  pub few : lm < 4294967296

-- ---- laying by places

-- what holds after i places
pub record Following (m v off ps : List ℕ) (n : ℕ) (gm₀ gm : List ℕ) (q : ℕ) (gv₀ gv : List ℕ) (k e i : ℕ) : Type 0 where
  pub upto : i ≤ n
  pub maps : length gm ≡ length gm₀
  pub same : length gv ≡ length gv₀
  pub room : 3 * (e + count_intervals (picked_to m v off ps i n)) ≤ length gv₀
  pub on : lay_all gm (q + i) gv e (picked_to m v off ps i n) ≡ lay_all gm₀ q gv₀ k (picked_to m v off ps 0 n)

module _ (m v off ps : List ℕ) (n : ℕ) where
  picked_cons : (p : ℕ) → p < n → picked_to m v off ps p n ≡ mapping (name_at m (get_or ps p 0)) (list_at m v off (get_or ps p 0)) ∷ picked_to m v off ps (p + 1) n
  unfolding picked_to picked_from
  picked_cons p h = let z : n - p ≡ suc (n - (p + 1)) = omega arith in rw z refl

  picked_end : (p : ℕ) → n ≤ p → picked_to m v off ps p n ≡ []
  unfolding picked_to picked_from
  picked_end p h = let z : n - p ≡ 0 = omega arith in rw z refl

  picked_count : (p : ℕ) → p < n → count_intervals (picked_to m v off ps p n) ≡ count_at m (get_or ps p 0) + count_intervals (picked_to m v off ps (p + 1) n)
  unfolding count_intervals
  picked_count p h = ap count_intervals (picked_cons p h) ∙ ap (λ (c : ℕ). c + count_intervals (picked_to m v off ps (p + 1) n)) (list_length m v off (get_or ps p 0))

  module _ (gm₀ : List ℕ) (q : ℕ) (gv₀ : List ℕ) (k : ℕ) where
    pub following_start : 3 * (k + count_intervals (picked_to m v off ps 0 n)) ≤ length gv₀ → Following m v off ps n gm₀ gm₀ q gv₀ gv₀ k k 0
    following_start h =
        let z : q + 0 ≡ q = omega arith in
        record { upto = omega arith; maps = refl; same = refl; room = h; on = ap (λ (j : ℕ). lay_all gm₀ j gv₀ k (picked_to m v off ps 0 n)) z }

    module _ (gm gv : List ℕ) (e i : ℕ) (g : Following m v off ps n gm₀ gm q gv₀ gv k e i) (h : i < n) (j : ℕ) (y : j ≡ get_or ps i 0) where
      pub turn_room : 3 * (e + count_at m j) ≤ length gv
      turn_room =
          let a = g.room in
          let b = g.same in
          let c : count_intervals (picked_to m v off ps i n) ≡ count_at m j + count_intervals (picked_to m v off ps (i + 1) n) =
          picked_count i h ∙ ap (λ (u : ℕ). count_at m u + count_intervals (picked_to m v off ps (i + 1) n)) (sym y) in
          omega arith

      pub following_turn : (gm' gv' : List ℕ) (e' : ℕ) → gm' ≡ put_mapping gm (q + i) (name_at m j) (count_at m j) → gv' ≡ lay_intervals gv e (list_at m v off j) → e' ≡ e + count_at m j
          → length gm' ≡ length gm → length gv' ≡ length gv → Following m v off ps n gm₀ gm' q gv₀ gv' k e' (i + 1)
      unfolding lay_all
      following_turn gm' gv' e' a b c lm lv =
          let d : count_intervals (picked_to m v off ps i n) ≡ count_at m j + count_intervals (picked_to m v off ps (i + 1) n) =
          picked_count i h ∙ ap (λ (u : ℕ). count_at m u + count_intervals (picked_to m v off ps (i + 1) n)) (sym y) in
          let w = g.room in
          let z : q + (i + 1) ≡ q + i + 1 = omega arith in
          let p : picked_to m v off ps i n ≡ mapping (name_at m j) (list_at m v off j) ∷ picked_to m v off ps (i + 1) n =
          picked_cons i h ∙ ap (λ (u : ℕ). mapping (name_at m u) (list_at m v off u) ∷ picked_to m v off ps (i + 1) n) (sym y) in
          let l = list_length m v off j in
          record {
            upto = omega arith;
            maps = lm ∙ g.maps;
            same = lv ∙ g.same;
            room = omega arith;
            on =
                ap (λ (u : ℕ). lay_all gm' u gv' e' (picked_to m v off ps (i + 1) n)) z
                ∙ ap (λ (u : ℕ). lay_all gm' (q + i + 1) gv' u (picked_to m v off ps (i + 1) n)) (c ∙ ap (λ (u : ℕ). e + u) (sym l))
                ∙ ap (λ (u : List ℕ). lay_all gm' (q + i + 1) u (e + length (list_at m v off j)) (picked_to m v off ps (i + 1) n)) b
                ∙ ap (λ (u : List ℕ). lay_all u (q + i + 1) (lay_intervals gv e (list_at m v off j)) (e + length (list_at m v off j)) (picked_to m v off ps (i + 1) n)) (a ∙ ap (put_mapping gm (q + i) (name_at m j)) (sym l))
                ∙ ap (lay_all gm (q + i) gv e) (sym p)
                ∙ g.on;
          }

    pub following_end : (gm gv : List ℕ) (e i : ℕ) → Following m v off ps n gm₀ gm q gv₀ gv k e i → n ≤ i
        → placed gm (q + n) gv e ≡ lay_all gm₀ q gv₀ k (picked_to m v off ps 0 n)
    unfolding lay_all
    following_end gm gv e i g h =
        let u = g.upto in
        let z : n ≡ i = omega arith in
        ap (λ (j : ℕ). placed gm (q + j) gv e) z ∙ ap (lay_all gm (q + i) gv e) (sym (picked_end i h)) ∙ g.on

-- ---- places that count up

-- the first i places hold their own numbers
unfoldable pub Counted : List ℕ → ℕ → Type 0
Counted ps i = (t : ℕ) → t < i → get_or ps t 0 ≡ t

pub counted_none : (ps : List ℕ) → Counted ps 0
unfolding Counted
counted_none ps = λ t h. absurd (omega arith)

pub counted_more : (ps : List ℕ) (i : ℕ) → Counted ps i → i < length ps → Counted (set ps i i) (i + 1)
unfolding Counted
counted_more ps i f l = λ t h. go t h (ℕ_discrete t i)
  where
    go : (t : ℕ) → t < i + 1 → Dec (t ≡ i) → get_or (set ps i i) t 0 ≡ t
    go t h (yes e) = ap (λ (u : ℕ). get_or (set ps i i) u 0) e ∙ get_or-set_same ps i i 0 l ∙ sym e
    go t h (no d) = get_or-set_other ps i t i 0 d ∙ f t (omega arith)

picked_counted : (m v off ps : List ℕ) (n : ℕ) → ((t : ℕ) → t < n → get_or ps t 0 ≡ t) → (k p : ℕ) → p + k ≡ n → picked_from m v off ps p k ≡ placed_from m v off p k
unfolding picked_from placed_from
picked_counted m v off ps n f zero p z = refl
picked_counted m v off ps n f (suc k) p z =
    rw (f p (omega arith)) (ap (λ (l : List Mapping). mapping (name_at m p) (list_at m v off p) ∷ l) (picked_counted m v off ps n f k (p + 1) (omega arith)))

-- ---- the offsets of a metadata

abbrev pub Offs : List ℕ → List ℕ → ℕ → Type 0
Offs m off n = (t : ℕ) → t < n → get_or off t 0 ≡ before m t

pub placed_flat : (m v off : List ℕ) (n : ℕ) → Offs m off n → placed_from m v off 0 n ≡ mappings_from m v 0 0 n
unfolding before
placed_flat m v off n f = flat_same m v off n f n 0 (omega arith)

pub within_of : (m v off : List ℕ) (n j : ℕ) → Offs m off n → j < n → 2 * n ≤ length m → n ≤ length off → 3 * before m n ≤ length v → Within m v off j
within_of m v off n j f h a b c =
    let e = f j h in
    let s = before_next m j in
    let u = before_up m (j + 1) n (omega arith) in
    record { words = omega arith; offs = omega arith; spans = omega arith }

count_flat : (m v : List ℕ) (n t o : ℕ) → count_intervals (mappings_from m v t o n) + before m t ≡ before m (t + n)
unfolding mappings_from count_intervals
count_flat m v zero t o = let z : t ≡ t + 0 = omega arith in let r = ap (before m) z in omega arith
count_flat m v (suc n) t o =
    let z : (t + 1) + n ≡ t + suc n = omega arith in
    let r = count_flat m v n (t + 1) (o + count_at m t) ∙ ap (before m) z in
    let b = before_next m t in
    let s = stretch_length v o (count_at m t) in
    omega arith

-- a metadata's mappings have as many intervals as their counts say
pub count_all : (m v : List ℕ) (n : ℕ) → count_intervals (mappings_from m v 0 0 n) ≡ before m n
unfolding before
count_all m v n = let z : 0 + n ≡ n = omega arith in let r = count_flat m v n 0 0 ∙ ap (before m) z in omega arith

-- ---- an added side

module _ (m v off ps : List ℕ) (n : ℕ) (f : Offs m off n) (g : (t : ℕ) → t < n → get_or ps t 0 ≡ t) where
  pub side_picked : picked_to m v off ps 0 n ≡ mappings_from m v 0 0 n
  unfolding picked_to
  side_picked = let z : n - 0 ≡ n = omega arith in ap (picked_from m v off ps 0) z ∙ picked_counted m v off ps n g n 0 (omega arith) ∙ placed_flat m v off n f

  pub side_layable : (lm q lv k : ℕ) → Sound m n v lm q lv k → n ≤ length off → n ≤ length ps → Layable m v off ps n lm q lv k
  side_layable lm q lv k s a b =
      let e : count_intervals (picked_to m v off ps 0 n) ≡ before m n = ap count_intervals side_picked ∙ count_all m v n in
      let r = s.room in
      record {
        places = b;
        inside = λ t h. subst (Within m v off) (sym (g t h)) (within_of m v off n t f h s.words a s.spans);
        maps = s.maps;
        room = omega arith;
        small = s.small;
        few = s.few;
      }

-- ---- a first side, without its repeats

module _ (m v off : List ℕ) where
  unfoldable placed_of : List ℕ → List Mapping
  placed_of [] = []
  placed_of (p ∷ ps) = mapping (name_at m p) (list_at m v off p) ∷ placed_of ps

  picked_places : (ps : List ℕ) (n p : ℕ) → p + n ≤ length ps → picked_from m v off ps p n ≡ placed_of (take n (drop p ps))
  unfolding picked_from placed_of
  picked_places ps zero p h = refl
  picked_places ps (suc n) p h =
      let z : suc p ≡ p + 1 = omega arith in
      rw (drop-cons ps p 0 (omega arith), z) (ap (λ (l : List Mapping). mapping (name_at m (get_or ps p 0)) (list_at m v off (get_or ps p 0)) ∷ l) (picked_places ps n (p + 1) (omega arith)))

  enter_places : (ps : List ℕ) (t : ℕ) → placed_of (enter_place m ps t) ≡ enter (placed_of ps) (mapping (name_at m t) (list_at m v off t))
  unfolding placed_of enter_place enter
  enter_places [] t = refl
  enter_places (p ∷ ps) t =
      eqb_case (λ (r : List ℕ). placed_of r ≡ enter (placed_of (p ∷ ps)) (mapping (name_at m t) (list_at m v off t))) (name_at m p) (name_at m t) _ _
      (λ e. sym (cond_eq (name_at m p) (name_at m t) _ _ e))
      (λ d. ap (λ (l : List Mapping). mapping (name_at m p) (list_at m v off p) ∷ l) (enter_places ps t) ∙ sym (cond_ne (name_at m p) (name_at m t) _ _ d))

  placed_snoc : (n s : ℕ) → placed_from m v off s (suc n) ≡ placed_from m v off s n ++ mapping (name_at m (s + n)) (list_at m v off (s + n)) ∷ []
  unfolding placed_from
  placed_snoc zero s = let z : s + 0 ≡ s = omega arith in rw z refl
  placed_snoc (suc n) s =
      let z : (s + 1) + n ≡ s + suc n = omega arith in
      ap (λ (l : List Mapping). mapping (name_at m s) (list_at m v off s) ∷ l)
      (placed_snoc n (s + 1) ∙ ap (λ (u : ℕ). placed_from m v off (s + 1) n ++ mapping (name_at m u) (list_at m v off u) ∷ []) z)

  enter_snoc : (ms : List Mapping) (x : Mapping) (ls : List Mapping) → enter_all ls (ms ++ x ∷ []) ≡ enter (enter_all ls ms) x
  unfolding enter_all
  enter_snoc [] x ls = refl
  enter_snoc (y ∷ ms) x ls = enter_snoc ms x (enter ls y)

  picks_entered : (t : ℕ) → placed_of (picks_of m t) ≡ enter_all [] (placed_from m v off 0 t)
  unfolding picks_of placed_of placed_from enter_all
  picks_entered zero = refl
  picks_entered (suc t) =
      let z : 0 + t ≡ t = omega arith in
      enter_places (picks_of m t) t
      ∙ ap (λ (l : List Mapping). enter l (mapping (name_at m t) (list_at m v off t))) (picks_entered t)
      ∙ sym (ap (enter_all []) (placed_snoc t 0 ∙ ap (λ (u : ℕ). placed_from m v off 0 t ++ mapping (name_at m u) (list_at m v off u) ∷ []) z)
      ∙ enter_snoc (placed_from m v off 0 t) (mapping (name_at m t) (list_at m v off t)) [])

-- the places that count are places of mappings
enter_below : (m ps : List ℕ) (t n : ℕ) → All (λ (p : ℕ). p < n) ps → t < n → All (λ (p : ℕ). p < n) (enter_place m ps t)
unfolding enter_place
enter_below m [] t n a h = (h, tt)
enter_below m (p ∷ ps) t n a h =
    eqb_case (λ (l : List ℕ). All (λ (p : ℕ). p < n) l) (name_at m p) (name_at m t) _ _ (λ e. (h, a.1)) (λ d. (a.0, enter_below m ps t n a.1 h))

all_up : (ps : List ℕ) (n : ℕ) → All (λ (p : ℕ). p < n) ps → All (λ (p : ℕ). p < suc n) ps
all_up [] n a = tt
all_up (p ∷ ps) n a = let h = a.0 in (omega arith, all_up ps n a.1)

picks_below : (m : List ℕ) (n : ℕ) → All (λ (p : ℕ). p < n) (picks_of m n)
unfolding picks_of
picks_below m zero = tt
picks_below m (suc n) = enter_below m (picks_of m n) n (suc n) (all_up (picks_of m n) n (picks_below m n)) (omega arith)

all_at : (ps : List ℕ) (n t : ℕ) → All (λ (p : ℕ). p < n) ps → t < length ps → get_or ps t 0 < n
all_at [] n t a h = absurd (omega arith)
all_at (p ∷ ps) n zero a h = a.0
all_at (p ∷ ps) n (suc t) a h = all_at ps n t a.1 (omega arith)

-- losing repeats never adds intervals
enter_count : (ls : List Mapping) (x : Mapping) → count_intervals (enter ls x) ≤ count_intervals ls + length x.intervals
unfolding enter count_intervals
enter_count [] x = omega arith
enter_count (l ∷ ls) x =
    eqb_case (λ (r : List Mapping). count_intervals r ≤ length l.intervals + count_intervals ls + length x.intervals) l.name x.name _ _
    (λ e. omega arith) (λ d. let r = enter_count ls x in omega arith)

enter_all_count : (ms ls : List Mapping) → count_intervals (enter_all ls ms) ≤ count_intervals ls + count_intervals ms
unfolding enter_all count_intervals
enter_all_count [] ls = omega arith
enter_all_count (x ∷ ms) ls = let a = enter_all_count ms (enter ls x) in let b = enter_count ls x in omega arith

pub kept_count : (m v : List ℕ) (n : ℕ) → count_intervals (enter_all [] (mappings_from m v 0 0 n)) ≤ before m n
unfolding count_intervals
kept_count m v n = let a = enter_all_count (mappings_from m v 0 0 n) [] in let b = count_all m v n in omega arith

-- nor mappings
enter_few : (ls : List Mapping) (m : Mapping) → length (enter ls m) ≤ length ls + 1
unfolding enter
enter_few [] m = omega arith
enter_few (l ∷ ls) m =
    eqb_case (λ (r : List Mapping). length r ≤ suc (length ls) + 1) l.name m.name _ _ (λ e. omega arith) (λ d. let r = enter_few ls m in omega arith)

enter_all_few : (ms ls : List Mapping) → length (enter_all ls ms) ≤ length ls + length ms
unfolding enter_all
enter_all_few [] ls = omega arith
enter_all_few (m ∷ ms) ls = let a = enter_all_few ms (enter ls m) in let b = enter_few ls m in omega arith

pub flat_length : (m v : List ℕ) (j t o : ℕ) → length (mappings_from m v t o j) ≡ j
unfolding mappings_from
flat_length m v zero t o = refl
flat_length m v (suc j) t o = ap suc (flat_length m v j (t + 1) (o + count_at m t))

pub kept_few : (m v : List ℕ) (n : ℕ) → length (enter_all [] (mappings_from m v 0 0 n)) ≤ n
kept_few m v n = let a = enter_all_few (mappings_from m v 0 0 n) [] in let b = flat_length m v n 0 0 in omega arith

module _ (m v off ps : List ℕ) (n r : ℕ) (f : Offs m off n) (l : r ≤ length ps) (g : take r ps ≡ picks_of m n) where
  pub first_picked : picked_to m v off ps 0 r ≡ enter_all [] (mappings_from m v 0 0 n)
  unfolding picked_to
  first_picked =
      let z : r - 0 ≡ r = omega arith in
      ap (picked_from m v off ps 0) z ∙ picked_places m v off ps r 0 (omega arith) ∙ ap (placed_of m v off) g ∙ picks_entered m v off n ∙ ap (enter_all []) (placed_flat m v off n f)

  pub first_layable : (lm lv : ℕ) → Sound m n v lm 0 lv 0 → n ≤ length off → r ≤ n → Layable m v off ps r lm 0 lv 0
  first_layable lm lv s a h =
      let e : count_intervals (picked_to m v off ps 0 r) ≡ count_intervals (enter_all [] (mappings_from m v 0 0 n)) = ap count_intervals first_picked in
      let c = kept_count m v n in
      let w = s.room in
      let u = s.maps in
      record {
        places = l;
        inside = λ t k. within_of m v off n (get_or ps t 0) f (below t k) s.words a s.spans;
        maps = omega arith;
        room = omega arith;
        small = s.small;
        few = s.few;
      }
    where
      below : (t : ℕ) → t < r → get_or ps t 0 < n
      below t k =
          let z : length (picks_of m n) ≡ r = sym (ap length g) ∙ length-take-le r ps l in
          subst (λ (u : ℕ). u < n) (ap (λ (q : List ℕ). get_or q t 0) (sym g) ∙ get_or-take r ps t 0 k) (all_at (picks_of m n) n t (picks_below m n) (omega arith))

-- laying two lists is laying the one after the other
pub lay_append : (xs ys : List Mapping) (a : List ℕ) (q : ℕ) (b : List ℕ) (k : ℕ) (a' : List ℕ) (q' : ℕ) (b' : List ℕ) (k' : ℕ)
    → placed a' q' b' k' ≡ lay_all a q b k xs → lay_all a' q' b' k' ys ≡ lay_all a q b k (xs ++ ys)
unfolding lay_all
lay_append [] ys a q b k a' q' b' k' e =
    let e1 : a' ≡ a = cc in
    let e2 : q' ≡ q = cc in
    let e3 : b' ≡ b = cc in
    let e4 : k' ≡ k = cc in
    rw (e1, e2, e3, e4) refl
lay_append (x ∷ xs) ys a q b k a' q' b' k' e = lay_append xs ys _ _ _ _ a' q' b' k' e
