-- The search and the walk cut the table; the outcome is made of the rows before the cut, at most three new ones and the rows after it.
-- Assumes nothing.
use mathlib.Core.Path.{◌∙◌}
use native.Mathlib.Omega.{arith}
use Rattle.map_rules.specs.Search.{in_order}
use Rattle.map_rules.specs.Pieces.{unplaced, placed}
use Rattle.map_moves.specs.Pieces.{replaced_pieces}
use borrow.Author.Rules.{rules}
use Rattle.map_time.proofs.insert.place.Goals as goal

pub replace-requires : goal.replace-requires
replace-requires c = (search (rules, in_order), search rules, search rules, search rules)

pub clear-requires : goal.clear-requires
clear-requires c = omega (arith, c.replace.auto.table, c.requires.0, c.requires.1)

pub returns-then-room-total : goal.returns-then-room-total
returns-then-room-total c =
    unplaced c.requires.2 c.requires.3 c.find-lo.ensures c.pass-hi.ensures
    c.touched.ensures.first.0 c.touched.ensures.first.1 c.touched.ensures.last.0 c.touched.ensures.last.1
    (c.count.ensures.0 ∙ c.left_of-left.ensures.many) (c.count-2.ensures.0 ∙ c.right_of-right.ensures.many) c.if-room-total.true

pub returns : goal.returns
returns c =
    placed c.requires.2 c.requires.3 c.find-lo.ensures c.pass-hi.ensures
    c.touched.ensures.first.0 c.touched.ensures.first.1 c.touched.ensures.last.0 c.touched.ensures.last.1
    (c.count.ensures.0 ∙ c.left_of-left.ensures.many) (c.count-2.ensures.0 ∙ c.right_of-right.ensures.many)
    c.joined_start.ensures c.joined_end.ensures
    (λ x. omega (arith, c.slice_known-1.given x)) (λ x. omega (arith, c.type_inv.table x))
    c.requires.0 (c.clear.auto.table ∙ c.replace.auto.table) c.requires.1 c.if-room-total.false
    (replaced_pieces c.count.ensures.0 c.left_of-left.ensures c.count-2.ensures.0 c.right_of-right.ensures c.replace.ensures) c.clear.ensures
