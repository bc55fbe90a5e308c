-- Each way out is one case of the definition. Assumes nothing.
use mathlib.Core.Path.{◌≡◌, sym, ap, ◌∙◌}
use lib.ListN.{length}
use Rattle.std.specs.Prelude.{Option, Result, Ok, Err, IsErrAnd}
use Rattle.leaves.specs.Frame.{mapping_of, mapped_of}
use Rattle.leaves.specs.FrameLaws.{mapping_none, mapping_damaged, mapping_over, mapping_other, mapping_short, mapping_symbol}
use Rattle.leaves.specs.Refusal.{refused, refused_for}
use Rattle.leaves.specs.declared.frame.Mapping.{Mapping}
use Rattle.leaves.specs.declared.refusal.Reason.{Reason}
use Rattle.leaves.specs.declared.refusal.Refusal.{Refusal}
use Rattle.leaves.proofs.frame.read_mapping.Goals as goal

-- what `?` makes of a reason
came : (x : Result (Option Mapping) Refusal) (why : Reason) → IsErrAnd x (λ (r : Refusal). r ≡ refused_for why) → x ≡ Err (refused_for why)
came (Ok m) why h = absurd h
came (Err r) why h = ap Err h

pub returns-in_err-head : goal.returns-in_err-head
returns-in_err-head c =
    let b = c.args.bytes.now in
    ap mapping_of (came _ _ c.from_residual.ensures.1) ∙ sym (ap (mapped_of (length b)) (mapping_damaged b _ c.read_within.ensures c.in_err-head.was))

pub returns-in_default : goal.returns-in_default
returns-in_default c =
    let b = c.args.bytes.now in
    ap refused c.into.ensures ∙ sym (ap (mapped_of (length b)) (mapping_none b _ c.read_within.ensures (c.in_ok-head.was ∙ ap Ok c.in_default.is)))

pub returns-then-head-size : goal.returns-then-head-size
returns-then-head-size c =
    let b = c.args.bytes.now in
    ap refused c.into-then-head-size.ensures
    ∙ sym (ap (mapped_of (length b)) (mapping_over b _ c.read_within.ensures (c.in_ok-head.was ∙ ap Ok c.in-Some.is) c.if-head-size.true))

pub returns-then-head-ne-SYMBOL_MAPPING : goal.returns-then-head-ne-SYMBOL_MAPPING
returns-then-head-ne-SYMBOL_MAPPING c =
    let b = c.args.bytes.now in
    sym (ap (mapped_of (length b)) (mapping_other b _ c.read_within.ensures (c.in_ok-head.was ∙ ap Ok c.in-Some.is) c.if-head-size.false c.if-head-ne-SYMBOL_MAPPING.true))

pub returns-then-size-lt-NAME_AT : goal.returns-then-size-lt-NAME_AT
returns-then-size-lt-NAME_AT c =
    let b = c.args.bytes.now in
    ap refused c.into-then-size-lt-NAME_AT.ensures
    ∙ sym (ap (mapped_of (length b)) (mapping_short b _ c.read_within.ensures (c.in_ok-head.was ∙ ap Ok c.in-Some.is) c.if-head-size.false
    c.if-head-ne-SYMBOL_MAPPING.false c.if-size-lt-NAME_AT.true))

pub returns : goal.returns
returns c =
    let b = c.args.bytes.now in
    let m = mapping_symbol b _ c.read_within.ensures (c.in_ok-head.was ∙ ap Ok c.in-Some.is) c.if-head-size.false c.if-head-ne-SYMBOL_MAPPING.false
    c.if-size-lt-NAME_AT.false in
    rw m (cc (c.u64_at.ensures, c.mapping_start.ensures, c.u64_at-2.ensures))
