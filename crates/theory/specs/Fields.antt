-- Little-endian numbers in a list of bytes (RULES, Merging records, 1), over their width in bytes, and their laws.
use Rattle.std.specs.Prelude.{◌≡◌, refl, ◌≢◌, ℕ, zero, suc, ◌+◌, ◌*◌, ◌/◌, ◌%◌, ◌^◌, ◌≤◌, ◌<◌, List, length, get_or, set, take, drop}
use Rattle.std.proofs.Common.{ap, ◌∙◌, div-lt_iff_lt-mul, mul_comm, add_assoc, add-zero, arith, length-set, get_or-set_same, get_or-set_other, get_or-take, get_or-drop}
use Rattle.std.proofs.Math.Nat.{pow-succ', mul-add-mod_self_right}
use Rattle.std.proofs.Math.Seq.{slice}

-- the number in `width` bytes from place at, the lowest byte first
unfoldable pub field : ℕ → List ℕ → ℕ → ℕ
field zero b at = 0
field (suc width) b at = get_or b at 0 + 256 * field width b (at + 1)

-- b with the number v in `width` bytes from place at
unfoldable pub put_field : ℕ → List ℕ → ℕ → ℕ → List ℕ
put_field zero b at v = b
put_field (suc width) b at v = put_field width (set b at (v % 256)) (at + 1) (v / 256)

-- b' has the bytes of b at the n places from k on
abbrev pub Agree : List ℕ → List ℕ → ℕ → ℕ → Type 0
Agree b b' k n = (x : ℕ) → k ≤ x → x < k + n → get_or b' x 0 ≡ get_or b x 0

-- each element is a byte
abbrev pub Bytes : List ℕ → Type 0
Bytes b = (x : ℕ) → get_or b x 0 < 256

-- a field of two lists that agree on its bytes
pub field_same : (width : ℕ) (b b' : List ℕ) (at : ℕ) → Agree b b' at width → field width b' at ≡ field width b at
unfolding field
field_same zero b b' at h = refl
field_same (suc width) b b' at h =
    omega (arith, h at (omega arith) (omega arith), field_same width b b' (at + 1) (λ x l u. h x (omega arith) (omega arith)))

-- the same, at another place of the other list
pub field_moved : (width : ℕ) (b b' : List ℕ) (at at' : ℕ) → ((k : ℕ) → k < width → get_or b' (at' + k) 0 ≡ get_or b (at + k) 0) → field width b' at' ≡ field width b at
unfolding field
field_moved zero b b' at at' h = refl
field_moved (suc width) b b' at at' h =
    let e : get_or b' at' 0 ≡ get_or b at 0 = simp add-zero at (h 0 (omega arith)) in
    omega (
      arith,
      field_moved width b b' (at + 1) (at' + 1)
          (λ k l. ap (λ (i : ℕ). get_or b' i 0) (omega arith) ∙ h (k + 1) (omega arith) ∙ ap (λ (i : ℕ). get_or b i 0) (omega arith)),
    )

-- a store keeps the length
pub length_put : (width : ℕ) (b : List ℕ) (at v : ℕ) → length (put_field width b at v) ≡ length b
unfolding put_field
length_put zero b at v = refl
length_put (suc width) b at v = length_put width (set b at (v % 256)) (at + 1) (v / 256) ∙ length-set b at (v % 256)

-- a byte outside what is stored
pub put_byte : (width : ℕ) (b : List ℕ) (at v x : ℕ) → (at ≤ x → x < at + width → ⊥) → get_or (put_field width b at v) x 0 ≡ get_or b x 0
unfolding put_field
put_byte zero b at v x out = refl
put_byte (suc width) b at v x out =
    let h : x ≢ at = λ e. out (omega arith) (omega arith) in
    put_byte width (set b at (v % 256)) (at + 1) (v / 256) x (λ l u. out (omega arith) (omega arith))
    ∙ get_or-set_other b at x (v % 256) 0 h

-- a field outside what is stored
pub put_other : (width : ℕ) (b : List ℕ) (at v width' at' : ℕ) → ((x : ℕ) → at ≤ x → x < at + width → at' ≤ x → x < at' + width' → ⊥)
    → field width' (put_field width b at v) at' ≡ field width' b at'
put_other width b at v width' at' out =
    field_same width' b (put_field width b at v) at' (λ x l u. put_byte width b at v x (λ l' u'. out x l' u' l u))

-- the number that was stored
pub put_same : (width : ℕ) (b : List ℕ) (at v : ℕ) → at + width ≤ length b → v < 256 ^ width → field width (put_field width b at v) at ≡ v
unfolding field put_field
put_same zero b at v fits small = omega arith
put_same (suc width) b at v fits small =
    let b₁ = set b at (v % 256) in
    let low : get_or (put_field width b₁ (at + 1) (v / 256)) at 0 ≡ v % 256 =
    put_byte width b₁ (at + 1) (v / 256) at (λ l u. omega arith)
    ∙ get_or-set_same b at (v % 256) 0 (omega arith) in
    let high : v / 256 < 256 ^ width = (div-lt_iff_lt-mul {k = 256} {y = 256 ^ width} (omega arith)).1 (rw (mul_comm (256 ^ width) 256, ← pow-succ' 256 width) small) in
    omega (arith, put_same width b₁ (at + 1) (v / 256) (simp length-set (omega arith)) high)

-- a field of bytes is below its power
pub field_below : (width : ℕ) (b : List ℕ) (at : ℕ) → Bytes b → field width b at < 256 ^ width
unfolding field
field_below zero b at h = omega arith
field_below (suc width) b at h = rw pow-succ' (omega (arith, h at, field_below width b (at + 1) h))

-- a field of a part is the field of the whole, at its place there
pub field_take : (width : ℕ) (b : List ℕ) (n at : ℕ) → at + width ≤ n → field width (take n b) at ≡ field width b at
field_take width b n at h = field_same width b (take n b) at (λ x l u. get_or-take n b x 0 (omega arith))

pub field_drop : (width : ℕ) (b : List ℕ) (n at : ℕ) → field width (drop n b) at ≡ field width b (n + at)
field_drop width b n at =
    field_moved width b (drop n b) (n + at) at (λ k l. get_or-drop n b (at + k) 0 ∙ ap (λ (i : ℕ). get_or b i 0) (omega arith))

pub field_slice : (width : ℕ) (b : List ℕ) (from to at : ℕ) → from + at + width ≤ to → field width (slice from to b) at ≡ field width b (from + at)
field_slice width b from to at h = field_drop width (take to b) from at ∙ field_take width b to (from + at) h

-- written out, for arithmetic
pub field_2 : (b : List ℕ) (at : ℕ) → field 2 b at ≡ get_or b at 0 + get_or b (at + 1) 0 * 256
unfolding field
field_2 b at = omega arith

pub field_4 : (b : List ℕ) (at : ℕ) → field 4 b at ≡ get_or b at 0 + get_or b (at + 1) 0 * 256 + get_or b (at + 2) 0 * 65536 + get_or b (at + 3) 0 * 16777216
unfolding field
field_4 b at = simp add_assoc (omega arith)

pub field_8 : (b : List ℕ) (at : ℕ) → field 8 b at ≡ field 4 b at + field 4 b (at + 4) * 4294967296
unfolding field
field_8 b at = simp add_assoc (omega arith)

pub put_2 : (b : List ℕ) (at v : ℕ) → put_field 2 b at v ≡ set (set b at (v % 256)) (at + 1) (v / 256 % 256)
unfolding put_field
put_2 b at v = refl

pub put_4 : (b : List ℕ) (at v : ℕ)
    → put_field 4 b at v ≡ set (set (set (set b at (v % 256)) (at + 1) (v / 256 % 256)) (at + 2) (v / 65536 % 256)) (at + 3) (v / 16777216 % 256)
unfolding put_field
put_4 b at v =
    let e2 : v / 256 / 256 ≡ v / 65536 = omega arith in
    let e3 : v / 256 / 256 / 256 ≡ v / 16777216 = omega arith in
    let a2 : at + 1 + 1 ≡ at + 2 = omega arith in
    let a3 : at + 1 + 1 + 1 ≡ at + 3 = omega arith in
    cc

pub put_8 : (b : List ℕ) (at v : ℕ) → put_field 8 b at v ≡ put_field 4 (put_field 4 b at (v % 4294967296)) (at + 4) (v / 4294967296)
unfolding put_field
put_8 b at v =
    let q = v / 4294967296 in
    let r = v % 4294967296 in
    let a4 : at + 1 + 1 + 1 + 1 ≡ at + 4 = omega arith in
    let d1 : v / 256 ≡ q * 16777216 + r / 256 = omega arith in
    let d2 : v / 256 / 256 ≡ q * 65536 + r / 256 / 256 = omega arith in
    let d3 : v / 256 / 256 / 256 ≡ q * 256 + r / 256 / 256 / 256 = omega arith in
    let d4 : v / 256 / 256 / 256 / 256 ≡ q = omega arith in
    let e1 : v % 256 ≡ r % 256 = omega arith in
    let e2 : v / 256 % 256 ≡ r / 256 % 256 = omega arith in
    let e3 : v / 256 / 256 % 256 ≡ r / 256 / 256 % 256 = omega arith in
    let e4 : v / 256 / 256 / 256 % 256 ≡ r / 256 / 256 / 256 % 256 = ap (λ (n : ℕ). n % 256) d3 ∙ mul-add-mod_self_right q 256 (r / 256 / 256 / 256) in
    cc
