-- Where there is no next cut, it is 0 by default, and the part is empty. Assumes nothing.
use mathlib.Core.Path.{◌≡◌, ap, ◌∙◌, sym}
use mathlib.Core.List.{List, []}
use Prim.Native.Nat.{ℕ, ◌+◌, ◌-◌, ◌≤◌, zero-le}
use native.Mathlib.Omega.{arith}
use lib.ListN.{length, get_or, drop_of_length-le, get_or-eq_default}
use lib.Seq.{slice}
use Rattle.leaves.specs.Frame.{ended, frame_at, judged}
use Rattle.records_rules.specs.Bytes.{stream_read}
use Rattle.records.proofs.merge.read_stream.Goals as goal

no_part : (cuts : List ℕ) (p : ℕ) → length cuts ≤ p + 1 → (s : List ℕ) → slice (get_or cuts p 0) (get_or cuts (p + 1) 0) s ≡ []
no_part cuts p h s =
    ap (λ (e : ℕ). slice (get_or cuts p 0) e s) (get_or-eq_default cuts 0 h) ∙ drop_of_length-le [] {i = get_or cuts p 0} zero-le

no_read : (a : ℕ) → frame_at [] a ≡ ended
unfolding frame_at judged
no_read a = let e : 0 - a ≡ 0 = omega arith in rw e

pub returns-then-cuts-stream : goal.returns-then-cuts-stream
returns-then-cuts-stream c =
    let a = c.args in
    rw (stream_read a.buffer.now a.cuts.now a.stream a.place, no_part a.cuts.now a.stream c.if-cuts-stream.true a.buffer.now) (sym (no_read a.place))

pub returns : goal.returns
returns c = let a = c.args in rw (stream_read a.buffer.now a.cuts.now a.stream a.place) c.read_within.ensures
