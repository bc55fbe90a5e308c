-- A section of a kind found in place (whole length 4 bytes, kind 2, then the content), and its laws. All little-endian; a section's whole
-- length counts its own 6 bytes before the content. Assumes nothing.
use Rattle.std.specs.Prelude.{◌≡◌, ℕ, ◌+◌, ◌-◌, ◌≤◌, ◌<◌, Bool, ◌&&◌, List, length, Option, Some, None}
use Rattle.std.proofs.Math.Path.{refl, sym}
use Rattle.std.proofs.Common.{ap, ◌∙◌, arith, take_all}
use Rattle.std.proofs.Math.Bool.{true, false, cond}
use Rattle.std.proofs.Math.ListN.{take, drop, length-drop}
use Rattle.std.proofs.Math.Dec.{leb, eqb}
use borrow.Author.Tests.{leb-true, eqb-true, le-leb, eq-eqb}
use Rattle.theory.specs.Bools.{both}
use Rattle.theory.specs.Fields.{field}

-- the whole length that the section at the front of s says
abbrev pub size_of : List ℕ → ℕ
size_of s = field 4 s 0

-- the kind that it says
abbrev pub kind_of : List ℕ → ℕ
kind_of s = field 2 s 4

-- a section of the kind stands at the front of s: its 6 bytes are there, its length is no less and does not pass the end
unfoldable pub is_part : ℕ → List ℕ → Bool
is_part kind s = leb 6 (length s) && leb 6 (size_of s) && leb (size_of s) (length s) && eqb (kind_of s) kind

-- its whole length, if one stands there
unfoldable pub part_size : ℕ → List ℕ → Option ℕ
part_size kind s = cond (is_part kind s) (Some (size_of s)) None

-- where the one that stands at a place ends, if one stands there
unfoldable pub part_end : ℕ → List ℕ → ℕ → Option ℕ
part_end kind b at = cond (is_part kind (drop at b)) (Some (at + size_of (drop at b))) None

-- ---- a section at the front

pub record Part (kind : ℕ) (s : List ℕ) : Type 0 where
  pub head : 6 ≤ length s
  pub size : 6 ≤ size_of s
  pub ends : size_of s ≤ length s
  pub kind_is : kind_of s ≡ kind

module _ (kind : ℕ) (s : List ℕ) where
  pub part_yes : is_part kind s ≡ true → Part kind s
  unfolding is_part
  part_yes e =
      let abc = both (leb 6 (length s) && leb 6 (size_of s) && leb (size_of s) (length s)) (eqb (kind_of s) kind) e in
      let ab = both (leb 6 (length s) && leb 6 (size_of s)) (leb (size_of s) (length s)) abc.0 in
      let a = both (leb 6 (length s)) (leb 6 (size_of s)) ab.0 in
      record {
        head = leb-true 6 (length s) a.0;
        size = leb-true 6 (size_of s) a.1;
        ends = leb-true (size_of s) (length s) ab.1;
        kind_is = eqb-true (kind_of s) kind abc.1;
      }

  -- what a size says
  pub size_none : None ≡ part_size kind s → is_part kind s ≡ false
  unfolding part_size
  size_none e = go (is_part kind s) e
    where
      go : (b : Bool) → None ≡ cond b (Some (size_of s)) None → b ≡ false
      go true z = cc
      go false z = refl

-- a section of the kind and of n bytes stands at the front of s
pub record Sized (kind : ℕ) (s : List ℕ) (n : ℕ) : Type 0 where
  pub stands : is_part kind s ≡ true
  pub part : Part kind s
  pub size : n ≡ size_of s

pub size_some : (kind : ℕ) (s : List ℕ) (n : ℕ) → Some n ≡ part_size kind s → Sized kind s n
unfolding part_size
size_some kind s n e = go (is_part kind s) refl e
  where
    go : (b : Bool) → is_part kind s ≡ b → Some n ≡ cond b (Some (size_of s)) None → Sized kind s n
    go true w z = record { stands = w; part = part_yes kind s w; size = cc }
    go false w z = cc

-- ---- what the code reads

module _ (kind : ℕ) (s : List ℕ) where
  none_there : (Part kind s → ⊥) → None ≡ part_size kind s
  unfolding part_size
  none_there d = go (is_part kind s) refl
    where
      go : (c : Bool) → is_part kind s ≡ c → None ≡ cond c (Some (size_of s)) None
      go true e = absurd (d (part_yes kind s e))
      go false e = refl

  pub no_head : length s < 6 → None ≡ part_size kind s
  no_head h = none_there (λ w. omega (arith, w.head))

  pub no_size : {n : ℕ} → n ≡ size_of s → n < 6 → None ≡ part_size kind s
  no_size e h = none_there (λ w. omega (arith, w.size))

  pub no_end : {n : ℕ} → n ≡ size_of s → length s < n → None ≡ part_size kind s
  no_end e h = none_there (λ w. omega (arith, w.ends))

  pub no_kind : {k : ℕ} → k ≡ kind_of s → (k ≡ kind → ⊥) → None ≡ part_size kind s
  no_kind e d = none_there (λ w. d (e ∙ w.kind_is))

  pub size_there : {n k : ℕ} → n ≡ size_of s → k ≡ kind_of s → 6 ≤ n → n ≤ length s → k ≡ kind → Some n ≡ part_size kind s
  unfolding part_size is_part
  size_there {n} {k} en ek l u one =
      let a : leb 6 (length s) ≡ true = le-leb 6 (length s) (omega arith) in
      let c : leb 6 (size_of s) ≡ true = le-leb 6 (size_of s) (omega arith) in
      let d : leb (size_of s) (length s) ≡ true = le-leb (size_of s) (length s) (omega arith) in
      let e : eqb (kind_of s) kind ≡ true = eq-eqb (kind_of s) kind (sym ek ∙ one) in
      rw (a, c, d, e) (ap (λ (i : ℕ). Some i) en)

-- the bytes from a place on, as the code takes them
abbrev pub rest_from : List ℕ → ℕ → List ℕ
rest_from b at = take (length b - at) (drop at b)

module _ (kind : ℕ) (b : List ℕ) (at : ℕ) where
  rest_all : part_size kind (rest_from b at) ≡ part_size kind (drop at b)
  rest_all = ap (part_size kind) (take_all (length b - at) (drop at b) (omega (arith, length-drop at b)))

  pub none_at : None ≡ part_size kind (rest_from b at) → is_part kind (drop at b) ≡ false
  none_at e = size_none kind (drop at b) (e ∙ rest_all)

  pub some_at : {n : ℕ} → Some n ≡ part_size kind (rest_from b at) → Sized kind (drop at b) n
  some_at {n} e = size_some kind (drop at b) n (e ∙ rest_all)

  -- where it ends: nowhere where it has no size, else behind its bytes
  pub end_none : None ≡ part_size kind (rest_from b at) → None ≡ part_end kind b at
  unfolding part_end
  end_none e = rw (none_at e) refl

  pub end_some : {n : ℕ} → Some n ≡ part_size kind (rest_from b at) → Some (at + n) ≡ part_end kind b at
  unfolding part_end
  end_some e = let x = some_at e in rw x.stands (ap (λ (i : ℕ). Some (at + i)) x.size)

  -- a section takes 6 bytes at least
  pub part_long : {e : ℕ} → Some e ≡ part_end kind b at → at + 6 ≤ e
  unfolding part_end
  part_long {e} d = go (is_part kind (drop at b)) refl d
    where
      go : (c : Bool) → is_part kind (drop at b) ≡ c → Some e ≡ cond c (Some (at + size_of (drop at b))) None → at + 6 ≤ e
      go true w f = let u = part_yes kind (drop at b) w in let g : e ≡ at + size_of (drop at b) = cc in omega (arith, u.size)
      go false w f = cc
