-- A turn copies one element more, and all of them are the slice. Assumes nothing.
use mathlib.Core.Path.{◌≡◌, ap, ◌∙◌}
use mathlib.Core.List.{◌++◌}
use Prim.Native.Nat.{◌+◌}
use native.Mathlib.Omega.{arith}
use lib.ListN.{length, get_or, set}
use lib.Seq.{paste, paste-zero}
use Rattle.std.proofs.lemmas.List.{append-nil, drop_all}
use Rattle.std.proofs.lemmas.List.Edits.{paste_more, paste_all}
use borrow.Author.Rules.{rules}
use Rattle.leaves_fields.proofs.copies.copy.Goals as goal

pub loop-i-init : goal.loop-i-init
loop-i-init g c = paste-zero c.args.to.now 0 c.args.from.now

pub loop-i-preserved : goal.loop-i-preserved
loop-i-preserved g c =
    let asked = c.requires in
    let to = c.args.to.now in
    let from = c.args.from.now in
    let i = c.loop-i.i in
    let x = c.index-from-i.result in
    let read : x ≡ get_or from i x = search rules in
    let here : i ≡ 0 + i = omega arith in
    ap (λ l. set l i x) c.loop-i.invariant
    ∙ (λ q. set (paste to 0 from i) (here q) (read q))
    ∙ paste_more to 0 from i x (omega arith) (omega arith)

pub returns : goal.returns
returns g c =
    let asked = c.requires in
    let to = c.args.to.now in
    let from = c.args.from.now in
    let all : c.loop-i.i ≡ length from = omega arith in
    c.loop-i.invariant ∙ paste_all to 0 from c.loop-i.i all
    ∙ ap (λ rest. from ++ rest) (drop_all (0 + c.loop-i.i) to (omega arith))
    ∙ append-nil from
