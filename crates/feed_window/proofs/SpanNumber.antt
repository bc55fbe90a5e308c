-- A span's number and its parts. Assumes nothing.
use Rattle.std.specs.Prelude.{◌≡◌, ℕ, ◌+◌, ◌-◌, ◌*◌, ◌/◌, ◌%◌, ◌<◌, ◌≤◌, ◌^◌, min}
use Rattle.std.proofs.Common.{refl, ap, arith}
use borrow.Author.Tests.{lt-ltb, le-ltb}
use Rattle.feed_rules.specs.Spans.{counts}
use Rattle.feed_rules.specs.Adding.{room_for}
use Rattle.feed_window.specs.Spans.{span_number, span_of}
use Rattle.feed_window.specs.declared.spans.Span.{Span}

-- the number of the parts of a number
pub number_of_parts : (n : ℕ) → span_number (span_of n) ≡ n
number_of_parts n = omega arith

-- the same, and the stream has ended
pub number_of_end : (n : ℕ) → n / 4294967296 ≡ 0 → span_number (record { start = n % 65536; fill = n / 65536 % 65536; ended = 1 }) ≡ n + 4294967296
number_of_end n e = omega (arith, e)

-- bytes at the front of a part
pub number_of_front : (n : ℕ) → span_number (record { start = 0; fill = n; ended = 0 }) ≡ 65536 * n
number_of_front n = omega arith

module _ (s : Span) (low : s.start < 65536) where
  -- the parts of a span's number
  pub number_start : span_number s % 65536 ≡ s.start
  number_start = omega (arith, low)

  module _ (mid : s.fill < 65536) where
    pub number_fill : span_number s / 65536 % 65536 ≡ s.fill
    number_fill = omega (arith, low, mid)

    pub number_ended : span_number s / 4294967296 ≡ s.ended
    number_ended = omega (arith, low, mid)

    -- how many of so many bytes are taken, by the parts
    module _ (size mark place head : ℕ) where
      pub none_taken : 1024 < s.start + s.fill → 0 ≡ room_for size mark place head (span_number s)
      unfolding room_for
      none_taken h = rw (number_start, number_fill, lt-ltb 1024 (s.start + s.fill) h) refl

      pub some_taken : s.start + s.fill ≤ 1024
          → min size (min (1024 - s.fill) (2 ^ 63 - s.fill - (place - counts mark head))) ≡ room_for size mark place head (span_number s)
      unfolding room_for
      some_taken h =
          let e : 2 ^ 63 - s.fill - (place - counts mark head) ≡ 2 ^ 63 - (place - counts mark head + s.fill) = omega arith in
          rw (number_start, number_fill, le-ltb 1024 (s.start + s.fill) h) (ap (λ (n : ℕ). min size (min (1024 - s.fill) n)) e)
