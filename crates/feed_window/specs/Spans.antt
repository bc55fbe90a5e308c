-- A span's number in lent memory, and what a read of the window says.
use Rattle.std.specs.Prelude.{ℕ, ◌+◌, ◌*◌, ◌/◌, ◌%◌, Option, Some, None, Result}
use Rattle.std.proofs.Math.Option.{none, some}
use Rattle.std.proofs.Math.Option as known
use Rattle.leaves.specs.Frame.{Read, head_of}
use Rattle.leaves.specs.declared.frame.Head.{Head}
use Rattle.leaves.specs.declared.refusal.Reason.{Reason}
use Rattle.feed_window.specs.declared.spans.Span.{Span}

-- start + 65,536 × fill + 2^32 × ended
abbrev pub span_number : Span → ℕ
span_number s = s.start + 65536 * s.fill + 4294967296 * s.ended

-- the span that has this number
abbrev pub span_of : ℕ → Span
span_of n = record { start = n % 65536; fill = n / 65536 % 65536; ended = n / 4294967296 }

-- a read: nothing where more must come first, else what stands there
abbrev pub read_known : Option (Result (Option Head) Reason) → known.Option Read
read_known None = none
read_known (Some r) = some (head_of r)
