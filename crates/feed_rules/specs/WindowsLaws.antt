-- What is kept of a stream tells what the stream does: dropping what was read changes nothing that is still to be read; a call keeps the
-- places within what is kept; whoever is asked for more has room. Assumes nothing.
-- What rests on a step of the machine, or on what is known of a stream, stands in proofs/WindowsLaws.
use Rattle.std.specs.Prelude.{◌≡◌, ◌≢◌, Bool, get_or, take, drop, ltb}
use Rattle.std.proofs.Math.Path.{refl, ap}
use Rattle.std.proofs.Common.{◌∙◌, length-append, length-drop, le-ltb}
use Prim.Native.Nat.{ℕ, ◌+◌, ◌-◌, ◌≤◌}
use native.Mathlib.Omega.{arith}
use Rattle.std.proofs.Math.Bool.{true, false}
use Rattle.std.proofs.Math.Option.{Option, none, some}
use mathlib.Core.List.{List}
use Rattle.std.proofs.Math.ListN.{length}
use Rattle.std.proofs.Math.Dec.{eqb}
use Rattle.std.proofs.Math.Facts.{ltb_no, eqb_yes, eqb_no}
use Rattle.theory.specs.RunsTools.{cond_case}
use Rattle.theory.specs.Fields.{field, field_drop}
use Rattle.leaves.specs.Frame.{Read, record_at, frame_at}
use Rattle.records_rules.specs.Machine.{Status, waiting, standing, gone}
use Rattle.feed_rules.specs.PartialLaws.{never_some}
use Rattle.feed_rules.specs.Partial.{part, known_at}
use Rattle.feed_rules.specs.Windows.{Kept, known_in, from, Feed, put, closed, taking, grow, shut, add_leaves, end_leaves}
use Rattle.feed_rules.specs.Windows.{kept_by, In, Within}

-- ---- dropping what was read

module _ (s : List ℕ) (n a : ℕ) (h : n ≤ a) where
  drop_left : length (drop n s) - (a - n) ≡ length s - a
  drop_left = omega (arith, length-drop n s)

  drop_field : (w d : ℕ) → field w (drop n s) (a - n + d) ≡ field w s (a + d)
  drop_field w d = let e : n + (a - n + d) ≡ a + d = omega arith in field_drop w s n (a - n + d) ∙ ap (field w s) e

  drop_size : field 2 (drop n s) (a - n) ≡ field 2 s a
  drop_size = let e : n + (a - n) ≡ a = omega arith in field_drop 2 s n (a - n) ∙ ap (field 2 s) e

  pub frame_drop : frame_at (drop n s) (a - n) ≡ frame_at s a
  unfolding frame_at record_at
  frame_drop = rw (drop_left, drop_size, drop_field 2 2, drop_field 4 4, drop_field 8 8) refl

  pub known_drop : (o : Bool) → known_at (part (drop n s) o) (a - n) ≡ known_at (part s o) a
  unfolding known_at record_at
  known_drop true = ap some frame_drop
  known_drop false = rw (drop_left, drop_size, drop_field 2 2, drop_field 4 4, drop_field 8 8) refl

-- at the place where the kept bytes begin
pub known_here : (x : Kept) → known_in x x.base ≡ known_at (part x.bytes x.over) 0
unfolding known_in
known_here x =
    let z : ltb x.base x.base ≡ false = le-ltb x.base x.base (omega arith) in
    let e : x.base - x.base ≡ 0 = omega arith in
    rw (z, e) refl

-- a place where something is known has not been dropped
pub known_base : (x : Kept) (a : ℕ) (r : Read) → known_in x a ≡ some r
    → (x.base ≤ a) × (known_at (part x.bytes x.over) (a - x.base) ≡ some r)
unfolding known_in
known_base x a r = cond_case P (ltb a x.base) none (known_at (part x.bytes x.over) (a - x.base)) (λ c e. never_some e) (λ c e. (ltb_no c, e))
  where
    P : Option Read → Type 0
    P o = o ≡ some r → (x.base ≤ a) × (known_at (part x.bytes x.over) (a - x.base) ≡ some r)

-- ---- places stay within what is kept

-- the bytes that still count are kept too
abbrev pub Counts : ℕ → Kept → Status → Type 0
Counts c x (waiting t a) = (x.base + c ≤ a) × (a ≤ x.base + length x.bytes)
Counts c x (standing a r) = In x (standing a r)
Counts c x gone = Unit {0}

-- what is kept after a turn has the place within it
pub kept_in : (c : ℕ) (x : Kept) (s : Status) → Counts c x s → In (kept_by c s x) s
unfolding kept_by from
kept_in c x (waiting t a) i =
    let u : x.base + c ≤ a = i.0 in
    let v : a ≤ x.base + length x.bytes = i.1 in
    (omega arith, omega (arith, length-drop (a - c - x.base) x.bytes))
kept_in c x (standing a r) i =
    let u : x.base ≤ a = i.0 in
    let v : a + r.size ≤ x.base + length x.bytes = i.1 in
    (omega arith, omega (arith, length-drop (a - x.base) x.bytes))
kept_in c x gone i = tt

-- ---- the calls keep the places within what is kept

pub put_case : (P : Kept → Type 0) (p : ℕ) (x : Kept) (kept : ℕ → Kept) (q : ℕ) → (q ≡ p → P x) → (q ≢ p → P (kept q)) → P (put p x kept q)
unfolding put
put_case P p x kept q f g = cond_case P (eqb q p) x (kept q) (λ e. f (eqb_yes e)) (λ e. g (eqb_no e))

-- more bytes, from the same place on
in_more : (x y : Kept) (s : Status) → y.base ≡ x.base → length x.bytes ≤ length y.bytes → In x s → In y s
in_more x y (waiting t a) e l i = (omega (arith, i.0), omega (arith, i.1))
in_more x y (standing a r) e l i = (omega (arith, i.0), omega (arith, i.1))
in_more x y gone e l i = tt

pub add_within : (F : Feed) (p : ℕ) (xs : List ℕ) → Within F.kept F.statuses
    → Within (add_leaves F p xs).kept (add_leaves F p xs).statuses
unfolding add_leaves grow
add_within F p xs w =
    cond_case (λ (G : Feed). Within G.kept G.statuses) (closed F p) F _ (λ c. w)
    (λ c q. put_case (λ (x : Kept). In x (get_or F.statuses q gone)) p (grow p xs (F.kept p)) F.kept q
    (λ e. in_more (F.kept p) (grow p xs (F.kept p)) (get_or F.statuses q gone) refl
    (omega (arith, length-append (F.kept p).bytes (take (taking (length xs) (F.kept p)) xs))) (rw (← e) (w q)))
    (λ d. w q))

pub end_within : (F : Feed) (p : ℕ) → Within F.kept F.statuses → Within (end_leaves F p).kept (end_leaves F p).statuses
unfolding end_leaves shut
end_within F p w =
    cond_case (λ (G : Feed). Within G.kept G.statuses) (closed F p) F _ (λ c. w)
    (λ c q. put_case (λ (x : Kept). In x (get_or F.statuses q gone)) p (shut (F.kept p)) F.kept q
    (λ e. in_more (F.kept p) (shut (F.kept p)) (get_or F.statuses q gone) refl (omega arith) (rw (← e) (w q)))
    (λ d. w q))
