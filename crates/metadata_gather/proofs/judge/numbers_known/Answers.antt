-- `numbers_known` meets its contract. The invariant: what is left to test decides as the whole does. Assumes nothing.
use mathlib.Core.Path.{◌≡◌, ap, ◌∙◌}
use Prim.Native.Nat.{ℕ, ◌+◌, ◌-◌, ◌*◌}
use Rattle.metadata_rules.specs.Metadata.{every}
use Rattle.metadata_gather.specs.Judge.{below, spaced, spaced_turn, spaced_stop, spaced_end}
use native.Mathlib.Omega.{arith}
use Rattle.metadata_gather.proofs.judge.numbers_known.Goals as goal

pub returns-then-not-is_known : goal.returns-then-not-is_known
returns-then-not-is_known c =
    let a = c.args in
    spaced_stop (below a.names) a.words.now a.stride (c.loop-i.i * a.stride) c.loop-i.i a.count c.is_known.ensures
    c.if-not-is_known.true c.loop-i-test.true ∙ c.loop-i.invariant

pub loop-i-preserved : goal.loop-i-preserved
loop-i-preserved c =
    let a = c.args in
    let z : (c.loop-i.i + 1) * a.stride ≡ c.loop-i.i * a.stride + a.stride = grind arith in
    ap (λ (u : ℕ). every (below a.names) (spaced a.words.now a.stride u (a.count - (c.loop-i.i + 1)))) z
    ∙ spaced_turn (below a.names) a.words.now a.stride (c.loop-i.i * a.stride) c.loop-i.i a.count c.is_known.ensures
    c.if-not-is_known.false c.loop-i-test.true ∙ c.loop-i.invariant

pub returns : goal.returns
returns c =
    let a = c.args in
    spaced_end (below a.names) a.words.now a.stride (c.loop-i.i * a.stride) c.loop-i.i a.count (omega arith) ∙ c.loop-i.invariant
