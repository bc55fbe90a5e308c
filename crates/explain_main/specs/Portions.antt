-- Questions' lines laid portion by portion: what is laid of them and those still to come are all. Assumes nothing.
use Rattle.std.specs.Prelude.{◌≡◌, refl, ℕ, suc, ◌+◌, ◌-◌, ◌≤◌, ◌<◌, List, ◌++◌, length, take}
use Rattle.std.proofs.Common.{sym, ap, ◌∙◌, arith, append_assoc}
use Rattle.std.proofs.Math.Decide.{dec_lt}
use Rattle.lines.specs.LinesLaws.{laid_taken, laid_length}
use Rattle.lines.specs.Lines.{Lays}
use Rattle.explain_main.specs.Text.{Checked, question_text, lines_from}

-- a portion from question `from` of so many: its text and the lines from the next question on are the lines from where it began, and it
-- comes nearer to the end where a question is left
pub record Portioned (t : List ℕ) (used : ℕ) (c : Checked) (b : List ℕ) (count from next at : ℕ) (text : List ℕ) : Type 0 where
  pub few : next ≤ count
  pub within : at ≤ length text
  pub lines : take at text ++ lines_from t used c b next (count - next) ≡ lines_from t used c b from (count - from)
  pub nearer : from < count → from < next

-- ---- laws

-- within a portion
pub record Telling (t : List ℕ) (used : ℕ) (c : Checked) (b : List ℕ) (count from next at : ℕ) (text₀ text : List ℕ) : Type 0 where
  pub since : from ≤ next
  pub few : next ≤ count
  pub within : at ≤ length text
  pub kept : length text ≡ length text₀
  pub lines : take at text ++ lines_from t used c b next (count - next) ≡ lines_from t used c b from (count - from)
  pub begun : next ≡ from → at ≡ 0

pub telling_start : (t : List ℕ) (used : ℕ) (c : Checked) (b : List ℕ) (count from : ℕ) (text : List ℕ) → from ≤ count
    → Telling t used c b count from from 0 text text
telling_start t used c b count from text h = record {
  since = omega arith;
  few = h;
  within = omega arith;
  kept = refl;
  lines = refl;
  begun = λ e. refl;
}

one_line : (t : List ℕ) (used : ℕ) (c : Checked) (b : List ℕ) (count k : ℕ) → k < count
    → question_text t used c b k ++ lines_from t used c b (k + 1) (count - (k + 1)) ≡ lines_from t used c b k (count - k)
unfolding lines_from
one_line t used c b count k h =
    let n : count - k ≡ suc (count - (k + 1)) = omega arith in
    let s : k + 1 ≡ suc k = omega arith in
    ap (λ (j : ℕ). question_text t used c b k ++ lines_from t used c b j (count - (k + 1))) s ∙ sym (ap (lines_from t used c b k) n)

pub telling_on : {t : List ℕ} {used : ℕ} {c : Checked} {b : List ℕ} {count from k at next : ℕ} {text₀ text text' : List ℕ}
    → Telling t used c b count from k at text₀ text → k < count → Lays text at (question_text t used c b k) next text' → next ≤ length text
    → Telling t used c b count from (k + 1) next text₀ text'
telling_on {t} {used} {c} {b} {count} {from} {k} {at} {next} {text₀} {text} {text'} w m l h =
    let e : length text' ≡ length text = laid_length text text' at next (question_text t used c b k) h l in
    record {
      since = omega (arith, w.since);
      few = omega arith;
      within = omega arith;
      kept = e ∙ w.kept;
      lines =
          ap (λ (s : List ℕ). s ++ lines_from t used c b (k + 1) (count - (k + 1))) (laid_taken text text' at next (question_text t used c b k) w.within l)
          ∙ append_assoc (take at text) (question_text t used c b k) (lines_from t used c b (k + 1) (count - (k + 1)))
          ∙ ap (λ (s : List ℕ). take at text ++ s) (one_line t used c b count k m)
          ∙ w.lines;
      begun = λ z. absurd (omega (arith, w.since));
    }

-- the text is full, or no question is left
module _ {t : List ℕ} {used : ℕ} {c : Checked} {b : List ℕ} {count from next at : ℕ} {text₀ text : List ℕ}
    (w : Telling t used c b count from next at text₀ text) where
  ended : (from < count → next ≡ from → ⊥) → Portioned t used c b count from next at text
  ended d = record {
    few = w.few;
    within = w.within;
    lines = w.lines;
    nearer = λ m. go (dec_lt from next) (d m);
  }
    where
      go : Dec (from < next) → (next ≡ from → ⊥) → from < next
      go (yes h) f = h
      go (no h) f = absurd (f (omega (arith, w.since)))

  pub telling_full : length text - at < 218 → 218 ≤ length text₀ → Portioned t used c b count from next at text
  telling_full h k = ended (λ m e. omega (arith, w.begun e, w.kept))

  pub telling_end : count ≤ next → Portioned t used c b count from count at text
  telling_end h =
      let e : next ≡ count = omega (arith, w.few) in
      let p : Portioned t used c b count from next at text = ended (λ m e. omega arith) in
      rw e at p
