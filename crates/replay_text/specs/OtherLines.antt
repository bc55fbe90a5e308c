-- The lines of a replay's text that are not of one stream (RULES, Requests, No. 11), and when two bundles are alike but for it.
use Rattle.std.specs.Prelude.{◌≡◌, ◌≢◌, ℕ, Bool, true, false, ◌&&◌, cond, List, [], ◌∷◌, ◌++◌, length, get_or, eqb}
use Rattle.std.proofs.Math.Option.{some}
use Rattle.lines.specs.Lines.{decimal, blank}
use Rattle.lines.specs.Sections.{streams_in}

-- a text's lines, without the newline (10) that ends each
unfoldable pub in_front : ℕ → List (List ℕ) → List (List ℕ)
in_front b [] = (b ∷ []) ∷ []
in_front b (l ∷ ls) = (b ∷ l) ∷ ls

unfoldable pub lines_in : List ℕ → List (List ℕ)
unfolding in_front
lines_in [] = []
lines_in (b ∷ s) = cond (eqb b 10) ([] ∷ lines_in s) (in_front b (lines_in s))

-- whether s begins with w
unfoldable pub begins : List ℕ → List ℕ → Bool
begins [] s = true
begins (x ∷ w) [] = false
begins (x ∷ w) (y ∷ s) = eqb x y && begins w s

-- whether a line is of the stream p: it begins with p's number and a blank
unfoldable pub line_is_of : ℕ → List ℕ → Bool
unfolding begins decimal blank
line_is_of p line = begins (decimal p ++ blank) line

unfoldable pub not_of : ℕ → List (List ℕ) → List (List ℕ)
unfolding line_is_of
not_of p [] = []
not_of p (l ∷ ls) = let rest = not_of p ls in cond (line_is_of p l) rest (l ∷ rest)

-- the lines of a text that are not of the stream p, in their order
unfoldable pub other_lines : ℕ → List ℕ → List (List ℕ)
unfolding lines_in not_of
other_lines p text = not_of p (lines_in text)

-- two bundles of as many streams, each but p with the same bytes
pub record BundlesAlikeBut (p : ℕ) (bundle bundle' : List ℕ) : Type 0 where
  pub streams : List (List ℕ)
  pub streams' : List (List ℕ)
  pub apart : streams_in bundle ≡ some streams
  pub apart' : streams_in bundle' ≡ some streams'
  pub count : length streams ≡ length streams'
  pub same : (q : ℕ) → q ≢ p → get_or streams q [] ≡ get_or streams' q []
