-- Each way out is one case of the frame, read at its place in the buffer. Assumes nothing.
use mathlib.Core.Path.{◌≡◌, sym}
use mathlib.Core.Logic.{inl, inr}
use Prim.Native.Nat.{◌+◌}
use native.Mathlib.Omega.{arith}
use Rattle.theory.specs.Fields.{field}
use Rattle.leaves.specs.FrameLaws.{within_ended, within_short, within_low, within_high, within_past, within_whole}
use borrow.Author.Rules.{rules}
use Rattle.leaves.proofs.frame.read_within.Goals as goal

pub returns-then-left-eq0 : goal.returns-then-left-eq0
returns-then-left-eq0 c =
    let a = c.args in sym (within_ended a.buffer.now a.from a.to a.place _ c.left_of-left.ensures (search rules))

pub returns-then-left : goal.returns-then-left
returns-then-left c =
    let a = c.args in sym (within_short a.buffer.now a.from a.to a.place _ c.left_of-left.ensures (search rules) (search rules))

pub returns-then-length-lt-HEADER : goal.returns-then-length-lt-HEADER
returns-then-length-lt-HEADER c =
    let a = c.args in
    let size : c.u16_at-length.result ≡ field 2 a.buffer.now (a.from + a.place) = c.u16_at-length.ensures in
    elim c.then-length-lt-HEADER.either [
      | inl low ↦ sym (within_low a.buffer.now a.from a.to a.place _ c.left_of-left.ensures (omega arith) (omega arith))
      | inr high ↦ sym (within_high a.buffer.now a.from a.to a.place _ c.left_of-left.ensures (omega arith) (omega (arith, high.1, size)))
    ]

pub returns-then-left-length : goal.returns-then-left-length
returns-then-left-length c =
    let a = c.args in
    let size : c.u16_at-length.result ≡ field 2 a.buffer.now (a.from + a.place) = c.u16_at-length.ensures in
    sym (within_past a.buffer.now a.from a.to a.place _ c.left_of-left.ensures (omega arith) (omega arith) (omega arith) (omega arith))

pub returns : goal.returns
returns c =
    let a = c.args in
    let size : c.u16_at-length.result ≡ field 2 a.buffer.now (a.from + a.place) = c.u16_at-length.ensures in
    let e = within_whole a.buffer.now a.from a.to a.place _ c.left_of-left.ensures (omega arith) (omega arith) (omega arith) (omega arith) in
    cc (e, size, c.u16_at.ensures, c.u32_at.ensures, c.u64_at.ensures)
