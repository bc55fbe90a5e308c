-- What an insert leaves of an interval that it cuts: a piece, or none. Assumes nothing.
use Rattle.std.specs.Prelude.{ℕ, ◌≡◌, Option, Some, None, List}
use Rattle.std.proofs.Common.{◌∙◌, sym}
use Rattle.map_rules.specs.Table.{Row}
use Rattle.map_rules.specs.MemoryLaws.{blank}
use Rattle.map_rules.specs.Moves.{Replaced}
use Rattle.map_table.specs.Interval.{row_of}
use Rattle.map_table.specs.declared.interval.Interval.{Interval}

-- how many intervals it is
abbrev pub pieces : Option Interval → ℕ
pieces None = 0
pieces (Some x) = 1

-- its row, where there is one
abbrev pub piece_row : Option Interval → Row ℕ
piece_row None = blank
piece_row (Some x) = row_of x

-- so many pieces, 0 or 1, and if 1 with this row
pub record IsPiece (piece : Option Interval) (n : ℕ) (x : Row ℕ) : Type 0 where
  pub many : pieces piece ≡ n
  pub row : n ≡ 1 → piece_row piece ≡ x

-- so a stretch replaced by pieces is replaced by their rows
pub replaced_pieces : {t t' : List ℕ} {used lo hi a b m n : ℕ} {p q : Option Interval} {l c r : Row ℕ} → a ≡ pieces p → IsPiece p m l → b ≡ pieces q → IsPiece q n r
    → Replaced t used lo hi (piece_row p) c (piece_row q) (pieces p) (pieces q) t' → Replaced t used lo hi l c r a b t'
replaced_pieces ea f eb g x = rw (ea, eb) (record {
  before = x.before;
  first = λ e. x.first e ∙ f.row (sym f.many ∙ e);
  middle = x.middle;
  last = λ e. x.last e ∙ g.row (sym g.many ∙ e);
  after = x.after;
  beyond = x.beyond;
})
