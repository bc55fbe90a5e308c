-- A piece, or none. Assumes nothing.
use native.Mathlib.Omega.{arith}
use mathlib.Core.Path.{◌≡◌, refl}
use Rattle.map_rules.specs.Pieces.{right_count, right_yes, right_not, right_ge}
use Rattle.map_table.specs.Interval.{row_of}
use borrow.Author.Rules.{rules}
use Rattle.map_time.proofs.insert.right_of.Goals as goal

pub returns-then-not-same_value : goal.returns-then-not-same_value
returns-then-not-same_value c = record { many = search (rules, right_yes); row = λ e. refl }

pub returns-else-n-z : goal.returns-else-n-z
returns-else-n-z c =
    let m : 0 ≡ right_count (row_of c.args.n) (row_of c.args.z) = search (rules, right_not, right_ge) in
    record { many = m; row = λ e. absurd (omega (arith, m, e)) }
