-- The bytes are copied, or stand there. Assumes nothing.
use borrow.Author.Rules.{rules}
use Rattle.map_moves.proofs.Bytes.{moved_within}
use Rattle.map_moves.proofs.moves.move_tail.Goals as goal

pub returns-then-from-to : goal.returns-then-from-to
returns-then-from-to c = search (rules, moved_within)
