-- The bytes are filled with 0. Assumes nothing.
use borrow.Author.Rules.{rules}
use Rattle.map_moves.proofs.Bytes.{cleared_fill}
use Rattle.map_moves.proofs.moves.clear.Goals as goal

pub returns-then-from-to : goal.returns-then-from-to
returns-then-from-to c = cleared_fill _ _ _ _ (search rules) (search rules) (c.fill.ensures.after (λ y h. h))
