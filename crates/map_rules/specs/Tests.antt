-- The tests for the two parts of well-formedness are right: `ordered` for the order, `all_known` for the values.
-- Assumes nothing.
use Rattle.std.specs.Prelude.{◌≡◌, refl, ◌↔◌, ℕ, ◌≤◌, ◌<◌, true, false, ◌&&◌, leb, ltb}
use Rattle.std.proofs.Common.{◌∙◌, inl, inr, arith, lt→ltb, le→leb}
use Rattle.std.proofs.Math.Bool.{Bool}
use mathlib.Core.List.{List, [], ◌∷◌}
use Rattle.std.proofs.Math.Dec.{T}
use Rattle.std.proofs.Math.Facts.{leb_yes, ltb_yes}
use Rattle.theory.specs.Runs.{Mem, Same, apart}
use Rattle.theory.specs.RunsTools.{cond_lt, cond_ge, T_and, T_fst, T_snd, head_yes, head_if, Order, less, equal, more, order}
use Rattle.theory.proofs.RunsOverwrite.{apart_iff}
use Rattle.map_rules.specs.Table.{Row, interval_of, AheadRow, Ordered, all_known, apart_row, ordered, well_formed, room_fits, names_fit}

module _ {A : Type 0} (same : A → A → Bool) (laws : Same same) where
  -- the test of two neighbours, by how their instruments stand
  pub apart_lower : (x y : Row A) (ys : List (Row A)) → x.instrument < y.instrument → apart_row same x (y ∷ ys) ≡ true
  unfolding apart_row
  apart_lower x y ys h = cond_lt x.instrument y.instrument _ _ h

  pub apart_higher : (x y : Row A) (ys : List (Row A)) → y.instrument < x.instrument → apart_row same x (y ∷ ys) ≡ false
  unfolding apart_row
  apart_higher x y ys h =
      cond_ge x.instrument y.instrument _ _ (omega arith) ∙ cond_lt y.instrument x.instrument _ _ h

  pub apart_own : (x y : Row A) (ys : List (Row A)) → x.instrument ≡ y.instrument
      → apart_row same x (y ∷ ys) ≡ apart same (interval_of x) (interval_of y ∷ [])
  unfolding apart_row
  apart_own x y ys e =
      cond_ge x.instrument y.instrument _ _ (omega arith) ∙ cond_ge y.instrument x.instrument _ _ (omega arith)

  ahead_yes : (x : Row A) (xs : List (Row A)) → T (apart_row same x xs) → AheadRow x xs
  ahead_yes x [] t = tt
  ahead_yes x (y ∷ ys) t = go (order x.instrument y.instrument)
    where
      go : Order x.instrument y.instrument → AheadRow x (y ∷ ys)
      go (less h) = (omega arith, λ e. absurd (omega arith))
      go (equal h) = (omega arith, λ e. (apart_iff same laws (interval_of x) (interval_of y ∷ [])).0 (rw (apart_own x y ys h) at t))
      go (more h) = let f : T false = rw (apart_higher x y ys h) at t in absurd f

  ahead_if : (x : Row A) (xs : List (Row A)) → AheadRow x xs → T (apart_row same x xs)
  unfolding apart_row
  ahead_if x [] a = tt
  ahead_if x (y ∷ ys) a = go (order x.instrument y.instrument)
    where
      go : Order x.instrument y.instrument → T (apart_row same x (y ∷ ys))
      go (less h) = rw (apart_lower x y ys h) tt
      go (equal h) = rw (apart_own x y ys h) ((apart_iff same laws (interval_of x) (interval_of y ∷ [])).1 (a.1 h))
      go (more h) = absurd (omega (arith, a.0))

  ordered_yes : (xs : List (Row A)) → T (ordered same xs) → Ordered xs
  unfolding ordered
  ordered_yes [] t = tt
  ordered_yes (x ∷ xs) t = head_yes x.start x.end (apart_row same x xs) (ordered same xs) (ahead_yes x xs) (ordered_yes xs) t

  ordered_if : (xs : List (Row A)) → Ordered xs → T (ordered same xs)
  unfolding ordered
  ordered_if [] w = tt
  ordered_if (x ∷ xs) w = head_if x.start x.end (apart_row same x xs) (ordered same xs) (ahead_if x xs) (ordered_if xs) w

  pub ordered_iff : (xs : List (Row A)) → T (ordered same xs) ↔ Ordered xs
  ordered_iff xs = (ordered_yes xs, ordered_if xs)

module _ {A : Type 0} (known : A → Bool) where
  known_yes : (xs : List (Row A)) → T (all_known known xs) → (x : Row A) → Mem x xs → T (known x.value)
  unfolding all_known
  known_yes [] t x h = absurd h
  known_yes (y ∷ ys) t x (inl e) = rw e (T_fst (known y.value) (all_known known ys) t)
  known_yes (y ∷ ys) t x (inr h) = known_yes ys (T_snd (known y.value) (all_known known ys) t) x h

  known_if : (xs : List (Row A)) → ((x : Row A) → Mem x xs → T (known x.value)) → T (all_known known xs)
  unfolding all_known
  known_if [] f = tt
  known_if (x ∷ xs) f = T_and (known x.value) (all_known known xs) (f x (inl refl)) (known_if xs (λ y h. f y (inr h)))

  pub known_iff : (xs : List (Row A)) → T (all_known known xs) ↔ ((x : Row A) → Mem x xs → T (known x.value))
  known_iff xs = (known_yes xs, known_if xs)

-- both parts
module _ {A : Type 0} (same : A → A → Bool) (laws : Same same) (known : ℕ → A → Bool) where
  pub formed_parts : (names : ℕ) (xs : List (Row A)) → T (well_formed same known names xs) → Ordered xs × T (all_known (known names) xs)
  unfolding well_formed
  formed_parts names xs t =
      let b : Bool = ordered same xs in
      let c : Bool = all_known (known names) xs in
      ((ordered_iff same laws xs).0 (T_fst b c t), T_snd b c t)

  pub formed_both : (names : ℕ) (xs : List (Row A)) → Ordered xs → T (all_known (known names) xs) → T (well_formed same known names xs)
  unfolding well_formed
  formed_both names xs w k = T_and (ordered same xs) (all_known (known names) xs) ((ordered_iff same laws xs).1 w) k

-- ---- room and names

-- the room and the number in use, as numbers
pub record Good (room used : ℕ) : Type 0 where
  pub limit : room ≤ 65536
  pub in_use : used ≤ room

pub room_good : (room used : ℕ) → T (room_fits room used) → Good room used
unfolding room_fits
room_good room used t =
    record { limit = leb_yes (T_fst (leb room 65536) (leb used room) t); in_use = leb_yes (T_snd (leb room 65536) (leb used room) t) }

pub good_room : (room used : ℕ) → Good room used → T (room_fits room used)
unfolding room_fits
good_room room used g = T_and (leb room 65536) (leb used room) (le→leb room 65536 g.limit) (le→leb used room g.in_use)

-- and the names too
pub memory_good : (room used names : ℕ) → T (room_fits room used && names_fit names) → Good room used × names ≤ 4096
unfolding names_fit
memory_good room used names t = (
  room_good room used (T_fst (room_fits room used) (names_fit names) t),
  leb_yes (T_snd (room_fits room used) (names_fit names) t),
)
