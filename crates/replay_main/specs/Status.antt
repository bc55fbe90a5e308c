-- The status of a bundle, and of a replay's text.
use Rattle.std.specs.Prelude.{ℕ, cond, List, get_or, eqb}
use Rattle.std.proofs.Math.Option.{Option, none, some}

-- 0 for a bundle that was taken apart, 1 for a bad one
unfoldable pub status_of : Option (List (List ℕ)) → ℕ
status_of none = 1
status_of (some ss) = 0

-- the status of a replay's text, by its first byte: `b` begins that of a bad bundle
unfoldable pub text_status : List ℕ → ℕ
text_status text = cond (eqb (get_or text 0 0) 98) 1 0
