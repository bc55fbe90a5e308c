-- The sides of an interval as the rules count them.
use Rattle.std.specs.Prelude.{ℕ}
use Rattle.map_moves.specs.declared.search.IntervalSide.{IntervalSide}
use Rattle.map_moves.specs.declared.search.IntervalSide.TheVariants.{Before, Touching, After}

-- 0 before, 1 touching or overlapping, 2 after
abbrev pub side_number : IntervalSide → ℕ
side_number Before = 0
side_number Touching = 1
side_number After = 2
