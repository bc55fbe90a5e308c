-- What the code on point-in-time tables reads: the tests of memory, the check, the search and the lookup. Assumes nothing.
use Rattle.std.specs.Prelude.{◌≡◌, ◌≢◌, ℕ, ◌+◌, ◌-◌, ◌*◌, ◌/◌, ◌%◌, ◌≤◌, ◌<◌, Bool, not, ◌&&◌, ◌||◌, List, [], ◌∷◌, length, get_or, T, ltb, leb, eqb}
use Rattle.std.proofs.Math.Path.{refl, sym}
use Rattle.std.proofs.Common.{ap, ◌∙◌, zero-add, arith}
use Rattle.std.proofs.Math.Nat.{sub-zero}
use Rattle.std.proofs.Math.Bool.{true, false}
use Rattle.std.proofs.Math.Option.{none, some}
use borrow.Author.Tests.{lt-ltb, le-ltb, le-leb, lt-leb, leb-true, ltb-true, eq-eqb, ne_eqb, eqb-true, not-true, not-false}
use Rattle.theory.specs.Bracket.{Bracket, bracket_met}
use Rattle.theory.specs.Bools.{and_left, and_right}
use Rattle.theory.specs.Answer.{answer}
use Rattle.leaves.specs.Refusal.{refused}
use Rattle.leaves.specs.declared.refusal.Refusal.TheVariants.{IllFormed, BadMemory}
use Rattle.map_rules.specs.Table.{room_fits, names_fit}
use Rattle.map_point.specs.declared.entries.Entry.{Entry}
use Rattle.map_point.specs.Entries.{entry_at, entries_from, entries}
use Rattle.map_point.specs.EntriesLaws.{length_entries, get_d_entries, entries_cons}
use Rattle.map_point.specs.Points.{ahead, rising, all_known, well_formed, symbol_for, points_fit, points_checked, point_found}
use Rattle.map_point.specs.PointsLaws.{place_of, place_is, symbol_at, symbol_none}

-- ---- the memory

and_false : (a b : Bool) → b ≡ false → (a && b) ≡ false
and_false true b e = e
and_false false b e = refl

pub fit_odd : (bytes used : ℕ) → bytes % 8 ≢ 0 → false ≡ points_fit bytes used
unfolding points_fit
fit_odd bytes used h = rw (ne_eqb (bytes % 8) 0 h) refl

pub fit_large : (bytes used : ℕ) → 65536 < bytes / 8 → false ≡ points_fit bytes used
unfolding points_fit room_fits
fit_large bytes used h = sym (and_false (eqb (bytes % 8) 0) (room_fits (bytes / 8) used) (rw (lt-leb (bytes / 8) 65536 h) refl))

pub fit_used : (bytes used : ℕ) → bytes % 8 ≡ 0 → bytes / 8 ≤ 65536 → leb used (bytes / 8) ≡ points_fit bytes used
unfolding points_fit room_fits
fit_used bytes used e h = rw (eq-eqb (bytes % 8) 0 e, le-leb (bytes / 8) 65536 h) refl

-- a table that fits has its entries in use within its bytes
pub fit_bytes : (bytes used : ℕ) → points_fit bytes used ≡ true → used * 8 ≤ bytes
unfolding points_fit room_fits
fit_bytes bytes used e =
    let r : room_fits (bytes / 8) used ≡ true = and_right (eqb (bytes % 8) 0) (room_fits (bytes / 8) used) e in
    omega (arith, leb-true used (bytes / 8) (and_right (leb (bytes / 8) 65536) (leb used (bytes / 8)) r))

-- ---- the check

-- the entry at a place has a known symbol and may stand before those that follow
unfoldable pub stands_at : List ℕ → ℕ → ℕ → ℕ → Bool
unfolding ahead
stands_at t used names place = ltb (entry_at t place).symbol names && ahead (entry_at t place) (entries_from t (place + 1) (used - (place + 1)))

pub stands_unknown : (t : List ℕ) (used names place : ℕ) {x : Entry} → x ≡ entry_at t place → names ≤ x.symbol → false ≡ stands_at t used names place
unfolding stands_at
stands_unknown t used names place e h =
    let l : ltb (entry_at t place).symbol names ≡ false = rw (← e) (le-ltb _ names h) in
    rw l refl

pub stands_last : (t : List ℕ) (used names place : ℕ) {x : Entry} → x ≡ entry_at t place → x.symbol < names → place + 1 ≡ used → true ≡ stands_at t used names place
unfolding stands_at ahead entries_from
stands_last t used names place e h l =
    let known : ltb (entry_at t place).symbol names ≡ true = rw (← e) (lt-ltb _ names h) in
    let none_left : used - (place + 1) ≡ 0 = omega arith in
    rw (known, none_left) refl

pub stands_next : (t : List ℕ) (used names place : ℕ) {x y : Entry} → place < used → x ≡ entry_at t place → x.symbol < names → place + 1 ≢ used → y ≡ entry_at t (place + 1)
    → ltb x.instrument y.instrument ≡ stands_at t used names place
unfolding stands_at ahead
stands_next t used names place {x} {y} u e h l f =
    let known : ltb (entry_at t place).symbol names ≡ true = rw (← e) (lt-ltb _ names h) in
    rw (known, entries_cons t (place + 1) used (omega arith), ← e, ← f) refl

-- the check from here on is the whole check
pub record Left (t : List ℕ) (used names place : ℕ) : Type 0 where
  pub within : place ≤ used
  pub same : well_formed names (entries t used) ≡ well_formed names (entries_from t place (used - place))

four : (a b c d : Bool) → ((a && b) && (c && d)) ≡ ((c && a) && (b && d))
four true b true d = refl
four true true false d = refl
four true false false d = refl
four false b true d = refl
four false b false d = refl

formed_cons : (names : ℕ) (t : List ℕ) (used place : ℕ) → place < used
    → well_formed names (entries_from t place (used - place)) ≡ (stands_at t used names place && well_formed names (entries_from t (place + 1) (used - (place + 1))))
unfolding well_formed stands_at rising all_known
formed_cons names t used place h =
    let x = entry_at t place in
    let xs = entries_from t (place + 1) (used - (place + 1)) in
    ap (well_formed names) (entries_cons t place used h) ∙ four (ahead x xs) (rising xs) (ltb x.symbol names) (all_known names xs)

pub left_start : (t : List ℕ) (used names : ℕ) → Left t used names 0
left_start t used names = record { within = omega arith; same = ap (λ (n : ℕ). well_formed names (entries_from t 0 n)) (sym (sub-zero used)) }

pub left_on : {t : List ℕ} {used names place : ℕ} {b : Bool} → place < used → b ≡ stands_at t used names place → not b ≡ false → Left t used names place → Left t used names (place + 1)
left_on {t} {used} {names} {place} {b} h r f l = record {
  within = omega arith;
  same =
      l.same
      ∙ formed_cons names t used place h
      ∙ ap (λ (a : Bool). a && well_formed names (entries_from t (place + 1) (used - (place + 1)))) (sym r ∙ not-false b f);
}

pub left_fault : {t : List ℕ} {used names place : ℕ} {b : Bool} → place < used → b ≡ stands_at t used names place → not b ≡ true → Left t used names place
    → false ≡ well_formed names (entries t used)
left_fault {t} {used} {names} {place} {b} h r f l =
    sym (l.same
    ∙ formed_cons names t used place h
    ∙ ap (λ (a : Bool). a && well_formed names (entries_from t (place + 1) (used - (place + 1)))) (sym r ∙ not-true b f))

pub left_end : {t : List ℕ} {used names place : ℕ} → used ≤ place → Left t used names place → true ≡ well_formed names (entries t used)
unfolding well_formed rising all_known entries_from
left_end {t} {used} {names} {place} h l =
    let e : used - place ≡ 0 = omega arith in
    sym (l.same ∙ ap (λ (n : ℕ). well_formed names (entries_from t place n)) e)

-- ---- the search

-- what the search answers: a place within those in use, and in a sorted table the instrument's
pub record EntryPlaced (t : List ℕ) (used instrument place : ℕ) : Type 0 where
  pub within : place ≤ used
  pub exact : T (rising (entries t used)) → place_of instrument (entries t used) ≡ place

-- the instrument of the entry at a place
abbrev pub instrument_at : List ℕ → ℕ → ℕ
instrument_at t k = (entry_at t k).instrument

-- the instrument of the entry that was read at a place
pub instrument_at_lem : (t : List ℕ) (k : ℕ) {x : Entry} → x ≡ entry_at t k → x.instrument ≡ instrument_at t k
instrument_at_lem t k e = ap (λ (y : Entry). y.instrument) e

-- the entry before the lower end is below the instrument, the one at the upper end is not
pub bracket_placed : {t : List ℕ} {used instrument low high : ℕ} → high ≤ low → Bracket (instrument_at t) used instrument low high → EntryPlaced t used instrument low
bracket_placed {t} {used} {instrument} {low} {high} h w =
    let b = bracket_met w h in
    let d = entry_at t 0 in
    record {
      within = b.hi_le;
      exact = λ s.
          place_is instrument d (entries t used) s low
          (omega (arith, length_entries t 0 used, b.hi_le))
          (λ k e.
          let g : get_or (entries t used) k d ≡ entry_at t k = get_d_entries t 0 used k d (omega (arith, b.hi_le)) ∙ ap (entry_at t) (zero-add k) in
          rw g (b.below k e))
          (λ u.
          let l : low < used = omega (arith, length_entries t 0 used) in
          let g : get_or (entries t used) low d ≡ entry_at t low = get_d_entries t 0 used low d l ∙ ap (entry_at t) (zero-add low) in
          rw g (b.above l));
    }

-- ---- the lookup

-- a place is in use and its entry is of the instrument
unfoldable pub holds_at : List ℕ → ℕ → ℕ → ℕ → Bool
holds_at t used place instrument = ltb place used && eqb (entry_at t place).instrument instrument

pub holds_past : (t : List ℕ) (used place instrument : ℕ) → used ≤ place → false ≡ holds_at t used place instrument
unfolding holds_at
holds_past t used place instrument h = rw (le-ltb place used h) refl

pub holds_own : (t : List ℕ) (used place instrument : ℕ) {x : Entry} → place < used → x ≡ entry_at t place → eqb x.instrument instrument ≡ holds_at t used place instrument
unfolding holds_at
holds_own t used place instrument h e = rw (lt-ltb place used h, ← e) refl

pub record Held (t : List ℕ) (used place instrument : ℕ) : Type 0 where
  pub within : place < used
  pub own : (entry_at t place).instrument ≡ instrument

pub held : (t : List ℕ) (used place instrument : ℕ) → holds_at t used place instrument ≡ true → Held t used place instrument
unfolding holds_at
held t used place instrument e = record {
  within = ltb-true place used (and_left (ltb place used) (eqb (entry_at t place).instrument instrument) e);
  own = eqb-true (entry_at t place).instrument instrument (and_right (ltb place used) (eqb (entry_at t place).instrument instrument) e);
}

pub not_held : (t : List ℕ) (used place instrument : ℕ) → holds_at t used place instrument ≡ false → place < used → (entry_at t place).instrument ≢ instrument
unfolding holds_at
not_held t used place instrument e h o =
    let y : holds_at t used place instrument ≡ true = rw (lt-ltb place used h, eq-eqb (entry_at t place).instrument instrument o) refl in
    let z : ◌≡◌ {A = ℕ} 0 1 = cc in
    omega arith

module _ (t : List ℕ) (used instrument place : ℕ) (p : EntryPlaced t used instrument place) (s : T (rising (entries t used))) where
  abbrev xs : List Entry
  xs = entries t used

  abbrev d : Entry
  d = entry_at t 0

  pub at_place : place < used → get_or xs (place_of instrument xs) d ≡ entry_at t place
  at_place h = rw (p.exact s) (get_d_entries t 0 used place d h ∙ ap (entry_at t) (zero-add place))

  pub symbol_held : Held t used place instrument → symbol_for instrument xs ≡ some (entry_at t place).symbol
  symbol_held h =
      let g : get_or xs (place_of instrument xs) d ≡ entry_at t place = at_place h.within in
      symbol_at instrument d xs (rw (p.exact s, length_entries t 0 used) h.within) (rw g h.own) ∙ ap (λ (x : Entry). some x.symbol) g

  pub symbol_not_held : (place < used → (entry_at t place).instrument ≢ instrument) → symbol_for instrument xs ≡ none
  symbol_not_held f =
      symbol_none instrument d xs s
      (λ h e.
      let l : place < used = rw (p.exact s, length_entries t 0 used) at h in
      f l (rw (at_place l) at e))

-- ---- the answers of the check and of the lookup

module _ (t : List ℕ) (used : ℕ) {b : Bool} (e : b ≡ points_fit (length t) used) where
  fits : not b ≡ false → points_fit (length t) used ≡ true
  fits f = sym e ∙ not-false b f

  unfit : not b ≡ true → points_fit (length t) used ≡ false
  unfit f = sym e ∙ not-true b f

  pub fit_in_lem : not b ≡ false → used * 8 ≤ length t
  fit_in_lem f = fit_bytes (length t) used (fits f)

  pub check_memory : (names : ℕ) → not b ≡ true → refused BadMemory ≡ points_checked t used names
  unfolding points_checked
  check_memory names f = rw (unfit f) refl

  pub check_names_lem : (names : ℕ) → not b ≡ false → 4096 < names → refused BadMemory ≡ points_checked t used names
  unfolding points_checked names_fit
  check_names_lem names f h = rw (fits f, lt-leb names 4096 h) refl

  pub check_no : (names : ℕ) {w : Bool} → not b ≡ false → names ≤ 4096 → w ≡ well_formed names (entries t used) → w ≡ false
      → refused IllFormed ≡ points_checked t used names
  unfolding points_checked names_fit
  check_no names {w} f h g n =
      let i : well_formed names (entries t used) ≡ false = sym g ∙ n in
      rw (fits f, le-leb names 4096 h, i) refl

  pub check_yes : (names : ℕ) {w : Bool} → not b ≡ false → names ≤ 4096 → w ≡ well_formed names (entries t used) → w ≡ true
      → answer 0 [] ≡ points_checked t used names
  unfolding points_checked names_fit
  check_yes names {w} f h g n =
      let i : well_formed names (entries t used) ≡ true = sym g ∙ n in
      rw (fits f, le-leb names 4096 h, i) refl

  pub get_memory : (i : ℕ) → not b ≡ true → refused BadMemory ≡ point_found t used i
  unfolding point_found
  get_memory i f = rw (unfit f) refl

  -- 15 is given for no table that fits
  pub get_unfit : {n : ℕ} → not b ≡ true → points_fit (length t) used ≡ true → n ≡ 0
  get_unfit f g = let z : ◌≡◌ {A = ℕ} 0 1 = cc (unfit f) in absurd (omega arith)

  sorted : not b ≡ false → T (not (points_fit (length t) used) || rising (entries t used)) → T (rising (entries t used))
  sorted f s = rw (fits f) at s

  pub get_nothing : (i : ℕ) {place : ℕ} {h : Bool} → not b ≡ false → EntryPlaced t used i place → h ≡ holds_at t used place i → h ≡ false
      → T (not (points_fit (length t) used) || rising (entries t used)) → answer 0 [] ≡ point_found t used i
  unfolding point_found
  get_nothing i {place} {h} f p g n s =
      let o : symbol_for i (entries t used) ≡ none = symbol_not_held t used i place p (sorted f s) (not_held t used place i (sym g ∙ n)) in
      rw (fits f, o) refl

  pub get_symbol : (i : ℕ) {place : ℕ} {h : Bool} {x : Entry} → not b ≡ false → EntryPlaced t used i place → h ≡ holds_at t used place i → h ≡ true → x ≡ entry_at t place
      → T (not (points_fit (length t) used) || rising (entries t used)) → answer 0 (x.symbol ∷ []) ≡ point_found t used i
  unfolding point_found
  get_symbol i {place} {h} {x} f p g n q s =
      let o : symbol_for i (entries t used) ≡ some (entry_at t place).symbol = symbol_held t used i place p (sorted f s) (held t used place i (sym g ∙ n)) in
      rw (fits f, o, ← q) refl

  pub get_within : (i place : ℕ) {h : Bool} → not b ≡ false → h ≡ holds_at t used place i → h ≡ true → place * 8 + 8 ≤ length t
  get_within i place {h} f g n =
      omega (arith, fit_in_lem f, (held t used place i (sym g ∙ n)).within)
