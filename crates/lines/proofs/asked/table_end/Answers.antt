-- Each return has the facts that decide it. Assumes nothing.
use mathlib.Core.Path.{sym, ◌∙◌}
use Rattle.lines.specs.Asked.{end_long, end_no_names, end_names_lem, end_table, end_no_last, end_last, end_there, apart_there}
use Rattle.lines.proofs.asked.table_end.Goals as goal
use Rattle.lines.proofs.asked.table_end.Goals.{then-most-input-via-then-most-input, then-most-input-via-else-most-input+in_ok-part_end+then-branch-ne-NAMES_BYTES}

pub returns-in_err-part_end-clause-whole : goal.returns-in_err-part_end-clause-whole
returns-in_err-part_end-clause-whole c =
    c.from_residual.ensures ∙ end_no_names _ _ _ c.if-most-input.false (sym c.in_err-part_end.was ∙ c.part_end.ensures.whole)

pub returns-then-most-input-clause-whole : goal.returns-then-most-input-clause-whole
returns-then-most-input-clause-whole c = elim c.then-most-input.branch [
  | then-most-input-via-then-most-input w ↦ end_long _ _ _ w.if-most-input.true
  | then-most-input-via-else-most-input+in_ok-part_end+then-branch-ne-NAMES_BYTES w ↦
      end_names_lem _ _ _ w.if-most-input.false (sym w.in_ok-part_end.was ∙ w.part_end.ensures.whole) w.if-branch-ne-NAMES_BYTES.true
]

pub returns-in_err-end-clause-whole : goal.returns-in_err-end-clause-whole
returns-in_err-end-clause-whole c =
    c.from_residual-in_err-end.ensures
    ∙ end_table _ _ _ c.if-most-input.false (sym c.in_ok-part_end.was ∙ c.part_end.ensures.whole) c.if-branch-ne-NAMES_BYTES.false
    (sym c.in_err-end.was ∙ c.part_end-2.ensures.whole)

pub returns-in_err-part_end-2-clause-whole : goal.returns-in_err-part_end-2-clause-whole
returns-in_err-part_end-2-clause-whole c =
    c.from_residual-in_err-part_end-2.ensures
    ∙ end_no_last _ _ _ c.if-most-input.false (sym c.in_ok-part_end.was ∙ c.part_end.ensures.whole) c.if-branch-ne-NAMES_BYTES.false
    (sym c.in_ok-end.was ∙ c.part_end-2.ensures.whole) (sym c.in_err-part_end-2.was ∙ c.part_end-3.ensures.whole)

pub returns-then-branch-input-clause-whole : goal.returns-then-branch-input-clause-whole
returns-then-branch-input-clause-whole c =
    end_last _ _ _ c.if-most-input.false (sym c.in_ok-part_end.was ∙ c.part_end.ensures.whole) c.if-branch-ne-NAMES_BYTES.false
    (sym c.in_ok-end.was ∙ c.part_end-2.ensures.whole) (sym c.in_ok-part_end-2.was ∙ c.part_end-3.ensures.whole) c.if-branch-input.true

pub returns-clause-whole : goal.returns-clause-whole
returns-clause-whole c =
    end_there _ _ _ c.if-most-input.false (sym c.in_ok-part_end.was ∙ c.part_end.ensures.whole) c.if-branch-ne-NAMES_BYTES.false
    (sym c.in_ok-end.was ∙ c.part_end-2.ensures.whole) (sym c.in_ok-part_end-2.was ∙ c.part_end-3.ensures.whole) c.if-branch-input.false

pub returns-clause-apart : goal.returns-clause-apart
returns-clause-apart c =
    apart_there _ _ _ c.if-most-input.false (sym c.in_ok-part_end.was ∙ c.part_end.ensures.whole) c.if-branch-ne-NAMES_BYTES.false
    (sym c.in_ok-end.was ∙ c.part_end-2.ensures.whole) (sym c.in_ok-part_end-2.was ∙ c.part_end-3.ensures.whole) c.if-branch-input.false
