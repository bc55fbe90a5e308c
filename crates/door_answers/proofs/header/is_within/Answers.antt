-- Pair by pair where the lengths are one. Assumes nothing.
use Rattle.std.proofs.Common.{sym, ◌∙◌}
use borrow.Author.Tests.{ne_eqb}
use Rattle.door_answers.specs.HeaderLaws.{within_unequal, within_pairs}
use Rattle.door_answers.proofs.header.is_within.Goals as goal

pub returns-then-words-most : goal.returns-then-words-most
returns-then-words-most c = c.none_over.ensures ∙ sym (within_pairs c.args.words.now c.args.most.now c.if-words-most.true)

pub returns-else-words-most : goal.returns-else-words-most
returns-else-words-most c = ne_eqb _ _ c.if-words-most.false ∙ within_unequal _ _ c.if-words-most.false
