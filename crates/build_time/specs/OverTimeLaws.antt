-- What the functions of the build promise one another: the table holds rows in order and 0 in every other place, and the rest of the
-- build on it is the whole. Assumes nothing.
use Rattle.std.proofs.Math.Path.{◌≡◌, refl, sym, ap, subst}
use Rattle.std.proofs.Common.{◌∙◌}
use Prim.Native.Nat.{ℕ, ◌+◌, ◌-◌, ◌*◌, ◌/◌, ◌≤◌, ◌<◌}
use native.Mathlib.Omega.{arith}
use Rattle.std.specs.Prelude.{◌≢◌, Option, Some, None, Result, Ok, Err}
use mathlib.Core.List.{List, [], ◌∷◌}
use Rattle.std.proofs.Math.ListN.{length, replicate}
use Rattle.theory.specs.Answer.{answer, one_value}
use Rattle.leaves.specs.Refusal.{number_of, refused, answer_with}
use Rattle.leaves.specs.declared.refusal.Refusal.{Refusal}
use Rattle.map_table.specs.Interval.{row_of}
use Rattle.map_table.specs.declared.interval.Interval.{Interval}
use Rattle.map_rules.specs.Table.{Row, Ordered, Outcome, refused_by, stored, now_stored, entered}
use Rattle.map_rules.specs.Memory.{same_value, known_value, rows, room_of, rows_written, memory_after, outcome_answer, used_after, Gives}
use Rattle.map_rules.specs.MemoryLaws.{length_rows}
use Rattle.map_rules.specs.Tests.{formed_parts}
use Rattle.map_rules.specs.Pieces.{symbols}
use Rattle.map_rules.specs.History.{Accepted, entered_ok}
use Rattle.leaves.specs.RefusalLaws.{refused_not_done, plain_refused}
use Rattle.metadata_rules.specs.declared.Interval.{Interval as Span}
use Rattle.metadata_rules.specs.Words.{interval_at, stretch}
use Rattle.build_rules.specs.Reading.{Read, fault, value, and_then, text_of, number_in, intervals_in}
use Rattle.build_rules.specs.declared.reading.Direction.{Direction}
use Rattle.build_rules.specs.declared.reading.Direction.TheVariants as direction
use Rattle.build_rules.specs.OverTime.{Step, stop, skip, give, reading, unless_empty, step_by, dated, forward_step, inverse_step, taken, Build, stopped, built, lay_intervals, build_answer}
use Rattle.build_rules.specs.OverTimeLaws.{text_stops, text_skips, text_reads, Plain, PlainStep, forward_plain, inverse_plain, intervals_end, intervals_turn, intervals_stop, written_again}
use Rattle.build_time.specs.declared.over_time.Way.{Way}
use Rattle.build_time.specs.declared.over_time.Way.TheVariants.{Forward, Inverse}
use Rattle.build_time.specs.OverTime.{way_for, way_step, way_filled, Holds, Took, Lays}

-- ---- one interval's step

-- a refusal that comes with no values
pub plain_stopped : (r : Refusal) → Plain (number_of r) → refused r ≡ answer (number_of r) []
plain_stopped r p = plain_refused r p.no_field p.no_damage

way_plain : (texts : List (List ℕ)) (way : Way) (x : Span) → PlainStep (way_step texts way x)
way_plain texts (Forward name) x = forward_plain texts name x
way_plain texts (Inverse instrument) x = inverse_plain texts instrument x

-- what a table in order gives a caller of an insert
pub holds_ordered : {names : ℕ} {t : List ℕ} {used : ℕ} → Holds names t used → Ordered (rows t used)
holds_ordered {names} {t} {used} h = (formed_parts same_value symbols known_value names (rows t used) h.formed).0

module _ (names : ℕ) (t t' : List ℕ) (used : ℕ) (n : Row ℕ) (h : Holds names t used) (l : length t' ≡ length t) where
  abbrev xs : List (Row ℕ)
  xs = rows t used

  abbrev o : Outcome (Row ℕ)
  o = entered same_value known_value names (room_of t) n xs

  -- an accepted insert leaves such a table
  entered_holds : (ys : List (Row ℕ)) → o ≡ stored ys → Gives (stored ys) t used (answer 0 (length ys ∷ [])) t' → Holds names t' (length ys)
  unfolding memory_after used_after now_stored
  entered_holds ys e g =
      let c : length xs ≡ used = length_rows t 0 used in
      let in_use : length xs ≤ room_of t = omega (arith, h.in_use) in
      let a : Accepted same_value symbols known_value names (room_of t) n xs ys = rw e at (entered_ok same_value symbols known_value names (room_of t) n xs in_use h.formed) in
      let r : room_of t' ≡ room_of t = ap (λ (k : ℕ). k / 24) l in
      let d : rows t' (length ys) ≡ ys = g.holds in
      let z : List ℕ = replicate (length t) 0 in
      record {
        whole = l ∙ h.whole ∙ ap (λ (k : ℕ). k * 24) (sym r);
        in_use = omega (arith, a.fits, r);
        formed = rw d a.formed;
        memory =
            g.memory
            ∙ ap (λ (k : ℕ). rows_written t k ys) (sym c)
            ∙ ap (λ (b : List ℕ). rows_written b (length xs) ys) h.memory
            ∙ written_again (length t) xs ys (omega (arith, h.whole)) (omega (arith, h.whole, a.fits))
            ∙ (λ i. rows_written (replicate (sym l i) 0) 0 (sym d i));
      }

-- ---- the step, by what its readings answered

module _ (way : Way) (x : Span) (text : List ℕ) where
  -- the text says no number
  pub fill_stops : (name c : ℕ) → way ≡ Forward name → fault c ≡ number_in text → stop c ≡ way_filled way x text
  unfolding reading
  fill_stops name c w e = ap (λ (r : Read ℕ). reading r (λ i. dated i name x)) e ∙ sym (ap (λ (w : Way). way_filled w x text) w)

  -- the dates are read then
  pub fill_forward : (name i : ℕ) (s : Step (Row ℕ)) → s ≡ dated i name x → way ≡ Forward name → value i ≡ number_in text → s ≡ way_filled way x text
  unfolding reading
  fill_forward name i s f w e = f ∙ ap (λ (r : Read ℕ). reading r (λ i. dated i name x)) e ∙ sym (ap (λ (w : Way). way_filled w x text) w)

  pub fill_inverse : (i : ℕ) (s : Step (Row ℕ)) → s ≡ dated i x.symbol x → way ≡ Inverse i → s ≡ way_filled way x text
  fill_inverse i s f w = f ∙ sym (ap (λ (w : Way). way_filled w x text) w)

pub ruleset filling = (fill_stops, fill_forward, fill_inverse)

module _ (texts : List (List ℕ)) (way : Way) (x : Span) where
  forward_reads : (name : ℕ) → reading (text_of texts x.symbol) (λ text. unless_empty text (way_filled (Forward name) x text)) ≡ way_step texts (Forward name) x
  unfolding forward_step
  forward_reads name = refl

  inverse_reads : (i : ℕ) → reading (text_of texts x.symbol) (λ text. unless_empty text (way_filled (Inverse i) x text)) ≡ way_step texts (Inverse i) x
  unfolding inverse_step
  inverse_reads i = refl

  way_reads : reading (text_of texts x.symbol) (λ text. unless_empty text (way_filled way x text)) ≡ way_step texts way x
  way_reads = go way
    where
      go : (w : Way) → reading (text_of texts x.symbol) (λ text. unless_empty text (way_filled w x text)) ≡ way_step texts w x
      go (Forward name) = forward_reads name
      go (Inverse instrument) = inverse_reads instrument

  pub step_stops : (c : ℕ) → fault c ≡ text_of texts x.symbol → stop c ≡ way_step texts way x
  step_stops c e = text_stops _ e ∙ way_reads

  module _ (text : List ℕ) (e : value text ≡ text_of texts x.symbol) where
    pub step_skips : length text ≡ 0 → skip ≡ way_step texts way x
    step_skips h = text_skips _ e h ∙ way_reads

    pub step_fills : (s : Step (Row ℕ)) → s ≡ way_filled way x text → length text ≢ 0 → s ≡ way_step texts way x
    step_fills s f h = f ∙ text_reads (way_filled way x) e h ∙ way_reads

pub ruleset stepping = (step_stops, step_skips, step_fills)

-- ---- how a mapping's intervals are read

module _ (texts : List (List ℕ)) (d : Direction) (name : ℕ) where
  pub way_forward : d ≡ direction.Forward → value (Forward name) ≡ way_for texts d name
  way_forward e = sym (ap (λ (d : Direction). way_for texts d name) e)

  module _ (e : d ≡ direction.Inverse) where
    named : (r : Read ℕ) → r ≡ and_then (text_of texts name) number_in → and_then r (λ i. value (Inverse i)) ≡ way_for texts d name
    named r f = ap (λ (r : Read ℕ). and_then r (λ i. value (Inverse i))) f ∙ sym (ap (λ (d : Direction). way_for texts d name) e)

    pub way_unknown : (c : ℕ) → fault c ≡ text_of texts name → fault c ≡ way_for texts d name
    unfolding and_then
    way_unknown c f = named (fault c) (ap (λ (r : Read (List ℕ)). and_then r number_in) f)

    module _ (text : List ℕ) (f : value text ≡ text_of texts name) where
      pub way_stops : (c : ℕ) → fault c ≡ number_in text → fault c ≡ way_for texts d name
      unfolding and_then
      way_stops c g = named (fault c) (g ∙ ap (λ (r : Read (List ℕ)). and_then r number_in) f)

      pub way_inverse : (i : ℕ) → value i ≡ number_in text → value (Inverse i) ≡ way_for texts d name
      unfolding and_then
      way_inverse i g = named (value i) (g ∙ ap (λ (r : Read (List ℕ)). and_then r number_in) f)

pub ruleset directing = (way_forward, way_unknown, way_stops, way_inverse)

-- ---- one interval taken

module _ (names : ℕ) (texts : List (List ℕ)) (way : Way) (x : Span) (t : List ℕ) (used : ℕ) where
  abbrev step : Step (Row ℕ)
  step = way_step texts way x

  pub took_stop : (why : Refusal) (t' : List ℕ) → stop (number_of why) ≡ way_step texts way x
      → Took names (taken names (room_of t) (way_step texts way x) (rows t used)) (Err why) t'
  unfolding taken outcome_answer
  took_stop why t' e =
      let s : step ≡ stop (number_of why) = sym e in
      rw s (record { answers = plain_stopped why (way_plain texts way x (number_of why) s); on = λ u f. cc })

  pub took_skip : (o : Option Interval) → Holds names t used → step_by row_of (Ok o) ≡ way_step texts way x → o ≡ None
      → Took names (taken names (room_of t) (way_step texts way x) (rows t used)) (Ok used) t
  unfolding taken outcome_answer
  took_skip o h w e =
      let s : step ≡ skip = sym (ap (λ (o : Option Interval). step_by row_of (Ok o)) (sym e) ∙ w) in
      rw s (record {
        answers = ap (λ (k : ℕ). answer 0 (k ∷ [])) (sym (length_rows t 0 used));
        on = λ u f. let v : used ≡ u = cc in subst (λ (k : ℕ). (stored (rows t used) ≡ stored (rows t k)) × Holds names t k) v (refl, h);
      })

  pub took_insert : (n : Interval) (r : Result ℕ Refusal) (t' : List ℕ) (o : Option Interval) → Holds names t used → length t' ≡ length t → step_by row_of (Ok o) ≡ way_step texts way x → o ≡ Some n
      → Gives (entered same_value known_value names (room_of t) (row_of n) (rows t used)) t used (answer_with one_value r) t'
      → Took names (taken names (room_of t) (way_step texts way x) (rows t used)) r t'
  unfolding taken outcome_answer used_after now_stored
  took_insert n r t' o h l w e g =
      let s : step ≡ give (row_of n) = sym (ap (λ (o : Option Interval). step_by row_of (Ok o)) (sym e) ∙ w) in
      rw s (go (entered same_value known_value names (room_of t) (row_of n) (rows t used)) refl g)
    where
      go : (p : Outcome (Row ℕ)) → entered same_value known_value names (room_of t) (row_of n) (rows t used) ≡ p → Gives p t used (answer_with one_value r) t' → Took names p r t'
      go (refused_by c) y k = record {
        answers = k.answers;
        on = λ u f. let z : answer 0 (u ∷ []) ≡ answer c [] = ap (answer_with one_value) (sym f) ∙ k.answers in cc;
      }
      go (stored ys) y k =
          let b : Holds names t' (length ys) = entered_holds names t t' used (row_of n) h l ys y (record { answers = refl; memory = k.memory; holds = k.holds }) in
          record {
            answers = k.answers;
            on = λ u f.
                let z : answer 0 (u ∷ []) ≡ answer 0 (length ys ∷ []) = ap (answer_with one_value) (sym f) ∙ k.answers in
                let i : length ys ≡ u = cc in
                subst (λ (c : ℕ). (stored ys ≡ stored (rows t' c)) × Holds names t' c) i (ap stored (sym k.holds), b);
          }

-- ---- a stretch that stops

-- a refusal is no answer of a call that is done
pub no_refusal : (why : Refusal) (n : ℕ) → refused why ≡ answer 0 (n ∷ []) → ⊥
no_refusal why n d = let z : number_of why ≡ 0 = cc in refused_not_done why z

interval_stops : (o : Outcome (Row ℕ)) (why : Refusal) (b : Build (Row ℕ)) → refused why ≡ outcome_answer o
    → ((c : ℕ) → o ≡ refused_by c → answer c [] ≡ build_answer b) → refused why ≡ build_answer b
unfolding outcome_answer
interval_stops (refused_by c) why b e f = e ∙ f c refl
interval_stops (stored ys) why b e f = absurd (no_refusal why (length ys) e)

pub stretch_stops : (p : Build (Row ℕ)) (why : Refusal) (b : Build (Row ℕ)) → refused why ≡ build_answer p
    → ((c s k : ℕ) → p ≡ stopped c s k → answer c [] ≡ build_answer b) → refused why ≡ build_answer b
unfolding build_answer
stretch_stops (stopped c s k) why b e f = e ∙ f c s k refl
stretch_stops (built ys) why b e f = absurd (no_refusal why (length ys) e)

-- ---- the intervals of a mapping, one after the other

-- before the interval of number k: what is left of them on this table is the whole
pub record Laying (names : ℕ) (texts : List (List ℕ)) (way : Way) (v : List ℕ) (t₀ : List ℕ) (used₀ : ℕ) (t : List ℕ) (used k : ℕ) : Type 0 where
  pub upto : k ≤ length v / 3
  pub long : length t ≡ length t₀
  pub holds : Holds names t used
  pub left : (m : ℕ) → lay_intervals names (room_of t₀) (way_step texts way) m 0 (intervals_in v) (rows t₀ used₀)
      ≡ lay_intervals names (room_of t₀) (way_step texts way) m k (stretch v k (length v / 3 - k)) (rows t used)

module _ (names : ℕ) (texts : List (List ℕ)) (way : Way) (v : List ℕ) (t₀ : List ℕ) (used₀ : ℕ) where
  abbrev whole : ℕ → Build (Row ℕ)
  whole m = lay_intervals names (room_of t₀) (way_step texts way) m 0 (intervals_in v) (rows t₀ used₀)

  pub laying_start : Holds names t₀ used₀ → Laying names texts way v t₀ used₀ t₀ used₀ 0
  laying_start h =
      let d : length v / 3 ≡ length v / 3 - 0 = omega arith in
      record { upto = omega arith; long = refl; holds = h; left = λ m i. lay_intervals names (room_of t₀) (way_step texts way) m 0 (stretch v 0 (d i)) (rows t₀ used₀) }

  module _ (t : List ℕ) (used k : ℕ) (l : Laying names texts way v t₀ used₀ t used k) (h : k < length v / 3) (t' : List ℕ) (x : Span) (e : x ≡ interval_at v k) where
    -- the room is as it was
    taken_here : (o : Outcome (Row ℕ)) → taken names (room_of t) (way_step texts way x) (rows t used) ≡ o
        → taken names (room_of t₀) (way_step texts way (interval_at v k)) (rows t used) ≡ o
    taken_here o d =
        ap (λ (n : ℕ). taken names (n / 24) (way_step texts way (interval_at v k)) (rows t used)) (sym l.long)
        ∙ ap (λ (x : Span). taken names (room_of t) (way_step texts way x) (rows t used)) (sym e) ∙ d

    pub laying_turn : (u : ℕ) → length t' ≡ length t → Took names (taken names (room_of t) (way_step texts way x) (rows t used)) (Ok u) t'
        → Laying names texts way v t₀ used₀ t' u (k + 1)
    laying_turn u g w =
        let p = w.on u refl in
        let b : length v / 3 - k - 1 ≡ length v / 3 - (k + 1) = omega arith in
        record {
          upto = omega arith;
          long = g ∙ l.long;
          holds = p.1;
          left = λ m.
              l.left m ∙ intervals_turn names (room_of t₀) (way_step texts way) m v k k (length v / 3 - k) (rows t used) (rows t' u) (omega arith) (taken_here _ p.0)
              ∙ (λ i. lay_intervals names (room_of t₀) (way_step texts way) m (k + 1) (stretch v (k + 1) (b i)) (rows t' u));
        }

    pub laying_stop : (why : Refusal) → Took names (taken names (room_of t) (way_step texts way x) (rows t used)) (Err why) t'
        → (m : ℕ) → Lays names (lay_intervals names (room_of t₀) (way_step texts way) m 0 (intervals_in v) (rows t₀ used₀)) (Err why) t'
    unfolding build_answer
    laying_stop why w m = record {
      answers = interval_stops (taken names (room_of t) (way_step texts way x) (rows t used)) why (whole m) w.answers
          (λ c y. sym (ap build_answer (l.left m ∙ intervals_stop names (room_of t₀) (way_step texts way) m v k k (length v / 3 - k) (rows t used) c (omega arith) (taken_here _ y))));
      on = λ u y. cc;
    }

  pub laying_end : (t : List ℕ) (used k : ℕ) → Laying names texts way v t₀ used₀ t used k → length v / 3 ≤ k
      → (m : ℕ) → Lays names (lay_intervals names (room_of t₀) (way_step texts way) m 0 (intervals_in v) (rows t₀ used₀)) (Ok used) t
  unfolding build_answer
  laying_end t used k l h m =
      let z : length v / 3 - k ≡ 0 = omega arith in
      let b : whole m ≡ built (rows t used) =
      l.left m ∙ intervals_end names (room_of t₀) (way_step texts way) m v k k (length v / 3 - k) (rows t used) z in
      record {
        answers = ap (λ (n : ℕ). answer 0 (n ∷ [])) (sym (length_rows t 0 used)) ∙ sym (ap build_answer b);
        on = λ u y. let i : used ≡ u = cc in subst (λ (c : ℕ). (whole m ≡ built (rows t c)) × Holds names t c) i (b, l.holds);
      }

-- what one interval comes to, and a turn of the intervals
pub ruleset taking = (took_stop, took_skip, took_insert, holds_ordered)

pub ruleset laying = (laying_start, laying_turn, laying_stop, laying_end)
