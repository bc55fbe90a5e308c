-- `commit::commit` meets its contract: one list after the other. Assumes nothing.
use mathlib.Core.Path.{sym, ap, ◌∙◌}
use Rattle.metadata_rules.specs.Words.{before}
use Rattle.metadata_form.specs.Header.{Lists}
use Rattle.metadata_open.specs.Commit.{lists_same}
use Rattle.metadata_open.proofs.commit.commit.Goals as goal

pub returns-clause-holds : goal.returns-clause-holds
returns-clause-holds c =
    rw (sym (c.total-used.ensures ∙ ap (λ (l : Lists). before l.mappings c.args.header.mappings) c.shared.ensures))
    (lists_same c.lay_over.ensures c.lay_over-2.ensures c.lay_over-3.ensures c.lay_over-4.ensures c.lay_over-5.ensures)
