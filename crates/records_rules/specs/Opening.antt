-- What an opening lays is a sound state, the machine's start; and what its tests show. Assumes nothing.
use Rattle.std.specs.Prelude.{◌≡◌, refl, ◌⊎◌, ℕ, zero, suc, ◌+◌, ◌-◌, ◌≤◌, ◌<◌, Bool, true, false, cond, ◌&&◌, ◌||◌, List, ◌∷◌, map, length, set, eqb, leb, ltb}
use Rattle.std.proofs.Math.Path.{sym}
use Rattle.std.proofs.Common.{ap, ap₂, ◌∙◌, inl, inr, ⊎_elim, zero-le, add-one, arith, length-set, get_or-set_same, get_or-set_other, lt-ltb, le-ltb, le-leb, leb-true, eqb-true}
use Rattle.std.proofs.Math.Decide.{ℕ_discrete}
use Rattle.std.proofs.Math.ListN.{get_or, get_or-eq_default}
use Rattle.std.proofs.lemmas.Bool.{lt-leb}
use Rattle.records_rules.specs.Machine.{waiting, start}
use Rattle.records_rules.specs.View.{tab, status_of, statuses_of}
use Rattle.records_rules.specs.Sift.{Heaped}
use Rattle.records_rules.specs.Holds.{Holds, holds_moved}
use Rattle.records_rules.specs.State.{arrays_fit, right_streams, Room, rise_to, padded, StreamsOpened}
use Rattle.theory.specs.Bools.{and_false, both}

-- ---- each place of the 256 is laid

-- what the place q of each array holds where n streams are laid: the mark, and the stream number
unfoldable pub mark_at : ℕ → ℕ → ℕ
mark_at n q = cond (ltb q n) 1 0

unfoldable pub number_at : ℕ → ℕ → ℕ
number_at n q = cond (ltb q n) q 0

pub record LaidAt (n : ℕ) (hints ms ts cs hs hp : List ℕ) (q : ℕ) : Type 0 where
  pub mark : get_or ms q 0 ≡ mark_at n q
  pub time : get_or ts q 0 ≡ get_or hints q 0
  pub place : get_or cs q 0 ≡ 0
  pub head : get_or hs q 0 ≡ 0
  pub number : get_or hp q 0 ≡ number_at n q

abbrev pub Laid : ℕ → ℕ → List ℕ → List ℕ → List ℕ → List ℕ → List ℕ → List ℕ → Type 0
Laid n i hints ms ts cs hs hp = (q : ℕ) → q < i → LaidAt n hints ms ts cs hs hp q

-- the loop's invariant: the first i are laid
pub record Laying (n i : ℕ) (hints ms₀ ts₀ cs₀ hs₀ hp₀ ms ts cs hs hp : List ℕ) : Type 0 where
  pub marks : length ms ≡ length ms₀
  pub times : length ts ≡ length ts₀
  pub places : length cs ≡ length cs₀
  pub heads : length hs ≡ length hs₀
  pub heap : length hp ≡ length hp₀
  pub few : i ≤ 256
  pub laid : Laid n i hints ms ts cs hs hp

pub laying_start : (n : ℕ) (hints ms ts cs hs hp : List ℕ) → Laying n 0 hints ms ts cs hs hp ms ts cs hs hp
laying_start n hints ms ts cs hs hp = record { marks = refl; times = refl; places = refl; heads = refl; heap = refl; few = zero-le; laid = λ q h. absurd (omega arith) }

pub laying_step : {n i : ℕ} {hints ms₀ ts₀ cs₀ hs₀ hp₀ ms ts cs hs hp : List ℕ} (m h k : ℕ) → Room n ms₀ ts₀ cs₀ hs₀ hp₀
    → Laying n i hints ms₀ ts₀ cs₀ hs₀ hp₀ ms ts cs hs hp → i < 256 → m ≡ mark_at n i → h ≡ get_or hints i 0 → k ≡ number_at n i
    → Laying n (i + 1) hints ms₀ ts₀ cs₀ hs₀ hp₀ (set ms i m) (set ts i h) (set cs i 0) (set hs i 0) (set hp i k)
laying_step {n} {i} {hints} {ms₀} {ts₀} {cs₀} {hs₀} {hp₀} {ms} {ts} {cs} {hs} {hp} m h k room g b em eh ek =
    record {
      marks = length-set ms i m ∙ g.marks;
      times = length-set ts i h ∙ g.times;
      places = length-set cs i 0 ∙ g.places;
      heads = length-set hs i 0 ∙ g.heads;
      heap = length-set hp i k ∙ g.heap;
      few = omega arith;
      laid = λ q l. go q l (ℕ_discrete q i);
    }
  where
    go : (q : ℕ) → q < i + 1 → Dec (q ≡ i) → LaidAt n hints (set ms i m) (set ts i h) (set cs i 0) (set hs i 0) (set hp i k) q
    go q l (yes d) = rw d (record {
      mark = get_or-set_same ms i m 0 (omega (arith, room, g.marks)) ∙ em;
      time = get_or-set_same ts i h 0 (omega (arith, room, g.times)) ∙ eh;
      place = get_or-set_same cs i 0 0 (omega (arith, room, g.places));
      head = get_or-set_same hs i 0 0 (omega (arith, room, g.heads));
      number = get_or-set_same hp i k 0 (omega (arith, room, g.heap)) ∙ ek;
    })
    go q l (no d) =
        let x = g.laid q (omega arith) in
        record {
          mark = get_or-set_other ms i q m 0 d ∙ x.mark;
          time = get_or-set_other ts i q h 0 d ∙ x.time;
          place = get_or-set_other cs i q 0 0 d ∙ x.place;
          head = get_or-set_other hs i q 0 0 d ∙ x.head;
          number = get_or-set_other hp i q k 0 d ∙ x.number;
        }

-- ---- so it is open

tab_below : {A : Type 0} (n : ℕ) (f g : ℕ → A) → ((j : ℕ) → j < n → f j ≡ g j) → tab n f ≡ tab n g
unfolding tab
tab_below zero f g h = refl
tab_below (suc n) f g h = ap₂ ◌∷◌ (h 0 (omega arith)) (tab_below n (λ j. f (suc j)) (λ j. g (suc j)) (λ j l. h (suc j) (omega arith)))

map_tab : {A B : Type 0} (f : A → B) (n : ℕ) (g : ℕ → A) → map f (tab n g) ≡ tab n (λ p. f (g p))
unfolding tab
map_tab f zero g = refl
map_tab f (suc n) g = ap (λ (r : List _). f (g 0) ∷ r) (map_tab f n (λ p. g (suc p)))

module _ {n : ℕ} {hints ms ts cs hs hp : List ℕ} (few : n ≤ 256) (given : length hints ≤ n) (laid : Laid n 256 hints ms ts cs hs hp) where
  mark_is : (q : ℕ) → q < n → get_or ms q 0 ≡ 1
  unfolding mark_at
  mark_is q h = (laid q (omega arith)).mark ∙ simp (lt-ltb q n h)

  number_is : (q : ℕ) → q < n → get_or hp q 0 ≡ q
  unfolding number_at
  number_is q h = (laid q (omega arith)).number ∙ simp (lt-ltb q n h)

  mark_none : (q : ℕ) → n ≤ q → q < 256 → get_or ms q 0 ≡ 0
  unfolding mark_at
  mark_none q h l = (laid q l).mark ∙ simp (le-ltb q n h)

  number_none : (q : ℕ) → n ≤ q → q < 256 → get_or hp q 0 ≡ 0
  unfolding number_at
  number_none q h l = (laid q l).number ∙ simp (le-ltb q n h)

  held : Holds n ms hp n
  held = record {
    who = λ p h. (omega (arith, number_is p h), rw (number_is p h) (λ e. let k : get_or ms p 0 ≡ 1 = mark_is p h in omega arith));
    there = λ q h d. (q, h, number_is q h);
    once = λ p q h i e. sym (number_is p h) ∙ e ∙ number_is q i;
  }

  pub opened : {hq : List ℕ} → Heaped ts n hp hq 0 → StreamsOpened n hints ms ts cs hs hq
  unfolding statuses_of status_of start padded
  opened x =
      record {
        starts = tab_below n _ _ (λ p h. let l = laid p (omega arith) in rw (mark_is p h, l.time, l.place)) ∙ sym (map_tab (λ h. waiting h 0) n (λ p. get_or hints p 0));
        sound = record {
          small = λ p h. omega (arith, (laid p (omega arith)).place, (laid p (omega arith)).head);
          heaped = record { holds = holds_moved held x.moved; heap = x.order };
        };
        places = λ q h. ((laid q h).place, (laid q h).head);
        unused = λ q h l. (mark_none q h l, (laid q l).time ∙ get_or-eq_default hints 0 (omega arith), x.moved.behind q h ∙ number_none q h l);
      }

-- ---- the tests

-- an array of 256 places has the room
pub full : (n : ℕ) → eqb n 256 ≡ true → 256 ≤ n
full n e = omega (arith, eqb-true n 256 e)

pub arrays_room : (held : ℕ) (ms ts cs hs hp : List ℕ) → arrays_fit held (length ms) (length ts) (length cs) (length hs) (length hp) ≡ true → Room held ms ts cs hs hp
unfolding arrays_fit
arrays_room held ms ts cs hs hp e =
    let a = both _ _ e in
    let b = both _ _ a.1 in
    let c = both _ _ b.1 in
    let d = both _ _ c.1 in
    let f = both _ _ d.1 in (
      leb-true held 256 a.0,
      full (length ms) b.0,
      full (length ts) c.0,
      full (length cs) d.0,
      full (length hs) f.0,
      full (length hp) f.1,
    )

either : (x y : Bool) → (x || y) ≡ true → (x ≡ true) ⊎ (y ≡ true)
either true y e = inl refl
either false y e = inr e

-- right streams are from 1 to 256, and have no more hints
pub right_count_lem : (size : ℕ) (cuts : List ℕ) (hints : ℕ) → right_streams size cuts hints ≡ true → (2 ≤ length cuts) × (length cuts ≤ 257) × (hints ≤ length cuts - 1)
unfolding right_streams
right_count_lem size cuts hints e =
    let given = eqb hints 0 || eqb hints (length cuts - 1) in
    let from₅ = given && rise_to (length cuts - 1) cuts in
    let from₄ = eqb (get_or cuts (length cuts - 1) 0) size && from₅ in
    let from₃ = eqb (get_or cuts 0 0) 0 && from₄ in
    let a = both (leb 2 (length cuts)) (leb (length cuts) 257 && from₃) e in
    let b = both (leb (length cuts) 257) from₃ a.1 in
    let c = both (eqb (get_or cuts 0 0) 0) from₄ b.1 in
    let d = both (eqb (get_or cuts (length cuts - 1) 0) size) from₅ c.1 in
    let f = both given (rise_to (length cuts - 1) cuts) d.1 in (
      leb-true 2 (length cuts) a.0,
      leb-true (length cuts) 257 b.0,
      ⊎_elim (λ z. omega (arith, eqb-true hints 0 z)) (λ z. omega (arith, eqb-true hints (length cuts - 1) z)) (either (eqb hints 0) (eqb hints (length cuts - 1)) f.0),
    )

-- a fall among the cuts, and none
pub falls : (n i : ℕ) (cuts : List ℕ) → i < n → get_or cuts (i + 1) 0 < get_or cuts i 0 → rise_to n cuts ≡ false
unfolding rise_to
falls zero i cuts h l = absurd (omega arith)
falls (suc n) i cuts h l = go (ℕ_discrete i n) (λ b. falls n i cuts b l)
  where
    go : Dec (i ≡ n) → (i < n → rise_to n cuts ≡ false) → (leb (get_or cuts n 0) (get_or cuts (n + 1) 0) && rise_to n cuts) ≡ false
    go (yes e) ih = simp (lt-leb (get_or cuts n 0) (get_or cuts (n + 1) 0) (rw e at l))
    go (no d) ih = rw (ih (omega arith)) (and_false (leb (get_or cuts n 0) (get_or cuts (n + 1) 0)))

pub rises_more : (i : ℕ) (cuts : List ℕ) → rise_to i cuts ≡ true → get_or cuts i 0 ≤ get_or cuts (i + 1) 0 → rise_to (i + 1) cuts ≡ true
unfolding rise_to
rises_more i cuts e h = rw add-one (simp (le-leb (get_or cuts i 0) (get_or cuts (i + 1) 0) h) e)
