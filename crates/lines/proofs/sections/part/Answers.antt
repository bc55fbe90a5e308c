-- Loop: what is taken apart so far, and the sections that are left (`Taking`). Assumes nothing.
use native.Mathlib.Omega.{arith}
use mathlib.Core.Path.{◌≡◌, refl, sym, ap, ◌∙◌}
use Rattle.std.specs.Prelude.{◌+◌, ◌-◌, ◌≤◌}
use lib.ListN.{length, length-drop, length-set}
use Rattle.lines.specs.SectionsLaws.{taking_start, taking_turn, bad_long, bad_many, bad_section, bad_none, apart, laid_part, part_kept}
use Rattle.lines.specs.Parts.{some_at}
use Rattle.lines.proofs.sections.part.Goals as goal

pub returns-then-bundle-gt-BUNDLE_BYTES : goal.returns-then-bundle-gt-BUNDLE_BYTES
returns-then-bundle-gt-BUNDLE_BYTES c = bad_long _ (omega arith)

pub loop-at-init : goal.loop-at-init
loop-at-init c = (refl, refl, omega arith, refl, omega arith, taking_start _ _ _ c.requires.2)

pub returns-then-count-eq-STREAMS : goal.returns-then-count-eq-STREAMS
returns-then-count-eq-STREAMS c =
    bad_many c.loop-at.invariant.5 c.if-bundle-gt-BUNDLE_BYTES.false c.loop-at-test.true c.if-count-eq-STREAMS.true

pub returns-in_err-size : goal.returns-in_err-size
returns-in_err-size c =
    rw c.from_residual.ensures (
    bad_section c.loop-at.invariant.5 c.if-bundle-gt-BUNDLE_BYTES.false c.loop-at-test.true (sym c.in_err-size.was ∙ c.part_size.ensures.whole))

pub loop-at-preserved : goal.loop-at-preserved
loop-at-preserved c =
    let w = c.loop-at in
    let z = some_at 1 c.args.bundle.now w.at (sym c.in_ok-size.was ∙ c.part_size.ensures.whole) in
    let n : w.at + c.in_ok-size.size ≤ length c.args.bundle.now = omega (arith, z.part.ends, z.size, length-drop w.at c.args.bundle.now) in
    let e : w.bytes + c.in_ok-size.size - 6 ≡ w.bytes + (c.in_ok-size.size - 6) = omega arith in
    let k = laid_part w.buffer c.args.bundle.now w.at w.bytes c.in_ok-size.size (omega arith) n c.copy_from_slice.ensures.after in
    let l = part_kept w.buffer c.args.bundle.now w.at w.bytes c.in_ok-size.size (omega arith) n c.copy_from_slice.ensures.after (omega arith) in (
      l ∙ w.invariant.0,
      simp length-set w.invariant.1,
      n,
      omega arith,
      omega arith,
      rw (k, e) (
          taking_turn w.invariant.5 c.loop-at-test.true z c.if-bundle-gt-BUNDLE_BYTES.false (omega arith) (omega arith) c.if-count-eq-STREAMS.false
          ),
    )

pub returns-then-count-eq0 : goal.returns-then-count-eq0
returns-then-count-eq0 c =
    bad_none c.loop-at.invariant.5 c.if-bundle-gt-BUNDLE_BYTES.false c.loop-at-test.false c.if-count-eq0.true

pub returns : goal.returns
returns c = apart c.loop-at.invariant.5 c.if-bundle-gt-BUNDLE_BYTES.false c.loop-at-test.false c.if-count-eq0.false
