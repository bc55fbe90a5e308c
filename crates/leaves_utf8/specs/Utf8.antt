-- RFC 3629, section 4, "Syntax of UTF-8 Byte Sequences", production by production, over a list of bytes.
use Rattle.std.specs.Prelude.{ℕ, ◌+◌, ◌≤◌, ◌<◌, List, [], ◌∷◌, Bool, true, false, cond, ◌&&◌, ◌||◌, leb, ◌≡◌, get_or}
use Rattle.std.proofs.Math.Seq.{slice}

-- %xLOW-HIGH: the byte lies from low to high
unfoldable pub within : ℕ → ℕ → ℕ → Bool
within low high x = leb low x && leb x high

-- RFC 3629, 4: UTF8-tail = %x80-BF
abbrev pub is_tail : ℕ → Bool
is_tail x = within 0x80 0xBF x

-- RFC 3629, 4: UTF8-1 = %x00-7F
abbrev pub utf8_1 : ℕ → Bool
utf8_1 a = within 0x00 0x7F a

-- RFC 3629, 4: UTF8-2 = %xC2-DF UTF8-tail
unfoldable pub utf8_2 : ℕ → ℕ → Bool
utf8_2 a b = within 0xC2 0xDF a && is_tail b

-- %xFROM-TO %xLOW-HIGH UTF8-tail
unfoldable pub three : ℕ → ℕ → ℕ → ℕ → ℕ → ℕ → ℕ → Bool
three from to low high a b c = within from to a && within low high b && is_tail c

-- RFC 3629, 4: UTF8-3 = %xE0 %xA0-BF UTF8-tail / %xE1-EC 2( UTF8-tail ) / %xED %x80-9F UTF8-tail / %xEE-EF 2( UTF8-tail )
unfoldable pub utf8_3 : ℕ → ℕ → ℕ → Bool
utf8_3 a b c =
    three 0xE0 0xE0 0xA0 0xBF a b c
    || three 0xE1 0xEC 0x80 0xBF a b c
    || three 0xED 0xED 0x80 0x9F a b c
    || three 0xEE 0xEF 0x80 0xBF a b c

-- its first two bytes
unfoldable pub begins_3 : ℕ → ℕ → Bool
begins_3 a b =
    (within 0xE0 0xE0 a && within 0xA0 0xBF b)
    || (within 0xE1 0xEC a && is_tail b)
    || (within 0xED 0xED a && within 0x80 0x9F b)
    || (within 0xEE 0xEF a && is_tail b)

-- %xFROM-TO %xLOW-HIGH 2( UTF8-tail )
unfoldable pub four : ℕ → ℕ → ℕ → ℕ → ℕ → ℕ → ℕ → ℕ → Bool
four from to low high a b c d = three from to low high a b c && is_tail d

-- RFC 3629, 4: UTF8-4 = %xF0 %x90-BF 2( UTF8-tail ) / %xF1-F3 3( UTF8-tail ) / %xF4 %x80-8F 2( UTF8-tail )
unfoldable pub utf8_4 : ℕ → ℕ → ℕ → ℕ → Bool
utf8_4 a b c d =
    four 0xF0 0xF0 0x90 0xBF a b c d
    || four 0xF1 0xF3 0x80 0xBF a b c d
    || four 0xF4 0xF4 0x80 0x8F a b c d

-- its first two bytes
unfoldable pub begins_4 : ℕ → ℕ → Bool
begins_4 a b = (within 0xF0 0xF0 a && within 0x90 0xBF b) || (within 0xF1 0xF3 a && is_tail b) || (within 0xF4 0xF4 a && within 0x80 0x8F b)

-- RFC 3629, 4: UTF8-octets = *( UTF8-char ), UTF8-char = UTF8-1 / UTF8-2 / UTF8-3 / UTF8-4.
-- Nothing, or a UTF8-char and then UTF8-octets. No UTF8-char is another's beginning, so the first that fits is the one that stands there.
unfoldable mutual
  pub is_utf8 : List ℕ → Bool
  is_utf8 [] = true
  is_utf8 (a ∷ s) = cond (utf8_1 a) (is_utf8 s) (from_2 s a)

  -- the same, where a was read and is no UTF8-1
  pub from_2 : List ℕ → ℕ → Bool
  from_2 [] a = false
  from_2 (b ∷ s) a = cond (utf8_2 a b) (is_utf8 s) (from_3 s a b)

  -- the same, where a and b were read and are no UTF8-2
  pub from_3 : List ℕ → ℕ → ℕ → Bool
  from_3 [] a b = false
  from_3 (c ∷ s) a b = cond (utf8_3 a b c) (is_utf8 s) (from_4 s a b c)

  -- the same, where a, b and c were read and are no UTF8-3
  pub from_4 : List ℕ → ℕ → ℕ → ℕ → Bool
  from_4 [] a b c = false
  from_4 (d ∷ s) a b c = cond (utf8_4 a b c d) (is_utf8 s) false

-- n is the length of the UTF8-char that stands at place at, of the bytes before to; 0 where none does
pub record Stepped (s : List ℕ) (at to n : ℕ) : Type 0 where
  pub inside : at + n ≤ to
  pub stuck : n ≡ 0 → is_utf8 (slice at to s) ≡ false
  pub onward : (n ≡ 0 → ⊥) → is_utf8 (slice at to s) ≡ is_utf8 (slice (at + n) to s)

-- no byte of those from place at to before to is above n
pub record Upto (s : List ℕ) (at to n : ℕ) : Type 0 where
  pub each : (k : ℕ) → at ≤ k → k < to → get_or s k 0 ≤ n
