-- A bundle (RULES, Merging records): sections of whole length (4 bytes), kind (2, always 1), then one stream.
use Rattle.std.specs.Prelude as std
use Rattle.std.specs.Prelude.{◌≡◌, ℕ, zero, suc, ◌+◌, ◌≤◌, ◌<◌, ◌&&◌, cond, List, [], ◌∷◌, ◌++◌, length, get_or, drop, leb, eqb}
use Rattle.std.proofs.Math.Option.{Option, none, some}
use Rattle.std.proofs.Math.Seq.{slice}
use Rattle.leaves_limits.specs.Limits.{most_bundle, most_streams}
use Rattle.lines.specs.Parts.{size_of, is_part}
use Rattle.lines.specs.declared.sections.Parted.{Parted}

-- the stream of the section at the front of s: what follows its 6 bytes
unfoldable pub stream_of : List ℕ → List ℕ
stream_of s = slice 6 (size_of s) s

-- these streams, and then those
unfoldable pub ahead : List (List ℕ) → Option (List (List ℕ)) → Option (List (List ℕ))
ahead xs none = none
ahead xs (some ys) = some (xs ++ ys)

-- the streams of the sections that s is made of; none where s can't be taken apart. Each section takes 6 bytes at least,
-- so that a count of the bytes is enough
unfoldable pub sections_f : ℕ → List ℕ → Option (List (List ℕ))
unfolding is_part stream_of ahead
sections_f zero s = none
sections_f (suc f) s =
    cond (eqb (length s) 0) (some [])
    (cond (is_part 1 s) (ahead (stream_of s ∷ []) (sections_f f (drop (size_of s) s))) none)

unfoldable pub sections : List ℕ → Option (List (List ℕ))
unfolding sections_f
sections s = sections_f (suc (length s)) s

-- "0 or over 256 sections" are bad
unfoldable pub few : Option (List (List ℕ)) → Option (List (List ℕ))
few none = none
few (some ss) = cond (leb 1 (length ss) && leb (length ss) most_streams) (some ss) none

-- the streams of a bundle; none: bad ("a bundle that it can't take apart, over 60,000 bytes, or with 0 or over 256 sections")
unfoldable pub streams_in : List ℕ → Option (List (List ℕ))
unfolding sections few
streams_in b = cond (leb (length b) most_bundle) (few (sections b)) none

-- ---- what the code makes of it

-- stream p of a buffer that is cut: from cut p up to the next
unfoldable pub stream_at : List ℕ → List ℕ → ℕ → List ℕ
stream_at buffer cuts p = slice (get_or cuts p 0) (get_or cuts (p + 1) 0) buffer

-- the first n streams
unfoldable pub cut_out : List ℕ → List ℕ → ℕ → List (List ℕ)
unfolding stream_at
cut_out buffer cuts zero = []
cut_out buffer cuts (suc n) = cut_out buffer cuts n ++ (stream_at buffer cuts n ∷ [])

-- the cuts of n streams, of so many bytes: they start at 0, never fall, and end at the count of bytes
pub record Cuts (cuts : List ℕ) (n bytes : ℕ) : Type 0 where
  pub first : get_or cuts 0 0 ≡ 0
  pub last : get_or cuts n 0 ≡ bytes
  pub rises : (p : ℕ) → p < n → get_or cuts p 0 ≤ get_or cuts (p + 1) 0

-- the bundle's streams are those that the cuts mark in the buffer
pub record Apart (bundle buffer cuts : List ℕ) (n bytes : ℕ) : Type 0 where
  pub streams : streams_in bundle ≡ some (cut_out buffer cuts n)
  pub cut : Cuts cuts n bytes
  pub some : 0 < n
  pub few : n ≤ most_streams
  pub fits : bytes ≤ most_bundle

-- what an answer says of the bundle
abbrev pub PartedOk : List ℕ → List ℕ → List ℕ → std.Option Parted → Type 0
PartedOk bundle buffer cuts (std.Some p) = Apart bundle buffer cuts p.count p.bytes
PartedOk bundle buffer cuts std.None = streams_in bundle ≡ none
