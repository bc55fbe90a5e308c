-- A piece, or none. Assumes nothing.
use native.Mathlib.Omega.{arith}
use mathlib.Core.Path.{◌≡◌, refl}
use Rattle.map_rules.specs.Pieces.{left_count, left_yes, left_not, left_ge}
use Rattle.map_table.specs.Interval.{row_of}
use borrow.Author.Rules.{rules}
use Rattle.map_time.proofs.insert.left_of.Goals as goal

pub returns-then-not-same_value : goal.returns-then-not-same_value
returns-then-not-same_value c = record { many = search (rules, left_yes); row = λ e. refl }

pub returns-else-x-n : goal.returns-else-x-n
returns-else-x-n c =
    let m : 0 ≡ left_count (row_of c.args.n) (row_of c.args.x) = search (rules, left_not, left_ge) in
    record { many = m; row = λ e. absurd (omega (arith, m, e)) }
