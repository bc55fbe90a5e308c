-- The lines of a comparison (RULES, Requests, No. 1): a stretch's line is instrument, start, end, left symbol or `-`, right symbol or `-`. Numbers are
-- decimal, one blank parts two fields, a newline ends each line.
use Rattle.std.specs.Prelude.{ℕ, ◌≡◌, false, take, drop, List, [], ◌∷◌, ◌++◌}
use Rattle.std.proofs.Common.{ap, sym, ◌∙◌, add-zero, take-append-drop, append-nil}
use Rattle.std.proofs.Math.Option.{Option, none, some}
use Rattle.lines.specs.Lines.{decimal, blank, newline, laid, Lays}
use Rattle.map_rules.specs.Table.{Row}
use Rattle.map_compare_rules.specs.Compare.{Difference, Stretches}
use Rattle.map_compare_rules.specs.Memory.{Value}
use Rattle.map_compare_walk.specs.declared.walk.Turn.{Turn}
use Rattle.map_compare_walk.specs.Walk.{spoken, told_of}

-- a symbol's number, or `-` for nothing
abbrev pub side_text : Option Value → List ℕ
side_text none = 45 ∷ []
side_text (some v) = decimal v

unfoldable pub numbers_text : Row (Difference Value) → List ℕ
unfolding blank
numbers_text d = decimal d.instrument ++ blank ++ decimal d.start ++ blank ++ decimal d.end ++ blank

unfoldable pub sides_text : Row (Difference Value) → List ℕ
unfolding blank newline
sides_text d = side_text d.value.left ++ blank ++ side_text d.value.right ++ newline

-- a stretch's line
unfoldable pub stretch_line : Row (Difference Value) → List ℕ
unfolding numbers_text sides_text
stretch_line d = numbers_text d ++ sides_text d

-- the lines of stretches
unfoldable pub lines_of : Stretches Value → List ℕ
unfolding stretch_line
lines_of [] = []
lines_of (d ∷ ds) = stretch_line d ++ lines_of ds

-- ---- laws

nothing_laid : (text : List ℕ) (at : ℕ) → Lays text at [] at text
unfolding laid
nothing_laid text at = record {
  behind = sym (add-zero at);
  whole = sym (simp append-nil (ap (λ (k : ℕ). take at text ++ drop k text) (add-zero at) ∙ take-append-drop at text));
}

-- a turn in which neither side says something has no line
pub turn_none : (text : List ℕ) (at : ℕ) (x y : _) (t : Turn) → t.left ≡ false → t.right ≡ false
    → Lays text at (lines_of (told_of (spoken x y t) [])) at text
unfolding spoken lines_of
turn_none text at x y t e f = rw (e, f) (nothing_laid text at)
