-- A comparison's lines laid portion by portion: what is laid of them and those still to come are all. Assumes nothing.
use Rattle.std.specs.Prelude.{◌≡◌, refl, ℕ, ◌-◌, ◌≤◌, ◌<◌, List, [], ◌∷◌, ◌++◌, length, take}
use Rattle.std.proofs.Common.{sym, ap, ◌∙◌, arith, append_assoc, length-append, length-take-le}
use Rattle.std.proofs.Math.Decide.{dec_lt}
use Rattle.lines.specs.LinesLaws.{laid_taken, laid_length}
use Rattle.lines.specs.Lines.{Lays}
use Rattle.map_rules.specs.Table.{Row}
use Rattle.map_compare_rules.specs.Compare.{Difference, Stretches}
use Rattle.map_compare_rules.specs.Memory.{Value}
use Rattle.compare_text.specs.Text.{stretch_line, lines_of}

-- a portion: its text and the lines from where it ends are the lines from where it began, and it comes nearer to the end where there is
-- something left
pub record Portioned (before after : Stretches Value) (at : ℕ) (text : List ℕ) : Type 0 where
  pub within : at ≤ length text
  pub lines : take at text ++ lines_of after ≡ lines_of before
  pub nearer : 0 < length before → length after < length before

-- ---- laws

-- within a portion
pub record Telling (before after : Stretches Value) (at : ℕ) (text₀ text : List ℕ) : Type 0 where
  pub within : at ≤ length text
  pub kept : length text ≡ length text₀
  pub lines : take at text ++ lines_of after ≡ lines_of before
  pub near : length after ≤ length before
  pub begun : length after ≡ length before → at ≡ 0

pub telling_start : (ds : Stretches Value) (text : List ℕ) → Telling ds ds 0 text text
telling_start ds text = record { within = omega arith; kept = refl; lines = refl; near = omega arith; begun = λ e. refl }

pub telling_on : {before ds es : Stretches Value} {d : Row (Difference Value)} {at next : ℕ} {text₀ text text' : List ℕ} → Telling before ds at text₀ text
    → ds ≡ d ∷ es → Lays text at (stretch_line d) next text' → next ≤ length text → Telling before es next text₀ text'
unfolding lines_of
telling_on {before} {ds} {es} {d} {at} {next} {text₀} {text} {text'} w e l h =
    let k : length text' ≡ length text = laid_length text text' at next (stretch_line d) h l in
    let n : length ds ≡ length (d ∷ es) = ap length e in
    record {
      within = omega arith;
      kept = k ∙ w.kept;
      lines =
          ap (λ (t : List ℕ). t ++ lines_of es) (laid_taken text text' at next (stretch_line d) w.within l)
          ∙ append_assoc (take at text) (stretch_line d) (lines_of es)
          ∙ ap (λ (xs : Stretches Value). take at text ++ lines_of xs) (sym e) ∙ w.lines;
      near = omega (arith, w.near, n);
      begun = λ f. absurd (omega (arith, w.near, n));
    }

-- the text is full, or the walk is at its end
module _ {before after : Stretches Value} {at : ℕ} {text₀ text : List ℕ} (w : Telling before after at text₀ text) where
  pub telling_full : length text - at < 105 → 105 ≤ length text₀ → Portioned before after at text
  telling_full h k = record { within = w.within; lines = w.lines; nearer = λ some. go (dec_lt (length after) (length before)) }
    where
      go : Dec (length after < length before) → length after < length before
      go (yes l) = l
      go (no d) = absurd (omega (arith, w.begun (omega (arith, w.near)), w.kept))

  pub telling_end : {es : Stretches Value} → after ≡ [] → es ≡ [] → Portioned before es at text
  telling_end e f = record {
    within = w.within;
    lines = ap (λ (ds : Stretches Value). take at text ++ lines_of ds) (f ∙ sym e) ∙ w.lines;
    nearer = λ some. omega (arith, ap length f);
  }

-- a portion with text comes nearer to the end
pub portion_nearer : {before after : Stretches Value} {at : ℕ} {text : List ℕ} → Portioned before after at text → (at ≡ 0 → ⊥) → length after < length before
unfolding lines_of
portion_nearer {before} {after} {at} {text} w d = go before w
  where
    go : (ds : Stretches Value) → Portioned ds after at text → length after < length ds
    go [] v = absurd (d (omega (arith, ap length v.lines, length-append (take at text) (lines_of after), length-take-le at text v.within)))
    go (x ∷ xs) v = v.nearer (omega arith)
