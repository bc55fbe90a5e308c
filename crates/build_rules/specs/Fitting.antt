-- The rows of a table built over time fit their bytes, so that they are read back from them: an interval that stands is one of the inserts
-- asked for wherever it covers a moment, and those have instruments and times that were read. Assumes nothing.
use Rattle.std.specs.Prelude.{◌≡◌, refl, ℕ, ◌+◌, ◌-◌, ◌*◌, ◌≤◌, ◌<◌, ◌&&◌, List, [], ◌∷◌}
use Rattle.std.proofs.Common.{sym, ap, ◌∙◌, subst, arith, inl, inr}
use Rattle.std.proofs.Math.Decide.{ℕ_discrete}
use Rattle.std.proofs.Math.Option.{none, some}
use Rattle.std.proofs.Math.Facts.{ltb_yes}
use Rattle.theory.specs.Answer.{Answer}
use Rattle.theory.specs.Runs.{Interval, answer_at, Mem, IsRun, All}
use Rattle.theory.specs.RunsTools.{cond_case, cond_yes, none_some, Place, early, within, late, place, answer_early, answer_late}
use Rattle.leaves_days.specs.Calendar.{is_date, day_number}
use Rattle.leaves_days.specs.Days.{day_of, in_range}
use Rattle.leaves_days.specs.DaysLaws.{day_limit}
use Rattle.map_rules.specs.Table.{Row, interval_of, group, answer_for}
use Rattle.map_rules.specs.Tests.{formed_parts, known_iff}
use Rattle.map_rules.specs.Groups.{picked_own, picked_other}
use Rattle.map_rules.specs.Memory.{same_value, known_value, Fit}
use Rattle.map_rules.specs.Pieces.{symbols}
use Rattle.map_rules.specs.History.{stored_runs}
use Rattle.map_rules.specs.Trace.{events, Comes}
use Rattle.metadata_rules.specs.declared.Interval as days
use Rattle.metadata_rules.specs.Metadata.{Mapping, Metadata}
use Rattle.build_rules.specs.Reading.{Read, fault, value, read_of, and_then, text_of, number_in, day_in, day_length, moment_in, is_empty, direction_of}
use Rattle.build_rules.specs.declared.reading.Direction.{Direction}
use Rattle.build_rules.specs.declared.reading.Direction.TheVariants.{Forward, Inverse}
use Rattle.build_rules.specs.OverTime.{Step, stop, skip, give, reading, unless_empty, dated, forward_step, inverse_step}
use Rattle.build_rules.specs.OverTimeHistory.{asks, intervals_ask, read_asks, mapping_asks, mappings_ask, directed_asks, inserts_asked}
use Rattle.build_rules.specs.PointInTimeLaws.{Narrow, number_narrow}

-- an instrument of 32 bits, and an end of 64
pub record Bounded (n : Row ℕ) : Type 0 where
  pub instrument_bound : n.instrument < 4294967296
  pub end_bound : n.end < 18446744073709551616

-- ---- what an answer comes from

covered : (ns : List (Row ℕ)) → All Bounded ns → (i m v : ℕ) → answer_for ns i m ≡ some v → (i < 4294967296) × (m + 1 < 18446744073709551616)
unfolding answer_for group answer_at
covered [] a i m v e = absurd (none_some none v refl e)
covered (x ∷ xs) a i m v e = go (ℕ_discrete x.instrument i) (covered xs a.1 i m v)
  where
    by : x.instrument ≡ i → answer_at (interval_of x ∷ group i xs) m ≡ some v → (answer_for xs i m ≡ some v → (i < 4294967296) × (m + 1 < 18446744073709551616))
        → Place x.start x.end m → (i < 4294967296) × (m + 1 < 18446744073709551616)
    by d c f (early h) = f (sym (answer_early (interval_of x) (group i xs) m h) ∙ c)
    by d c f (within h k) = (omega (arith, a.0.instrument_bound), omega (arith, a.0.end_bound))
    by d c f (late h k) = f (sym (answer_late (interval_of x) (group i xs) m k) ∙ c)

    go : Dec (x.instrument ≡ i) → (answer_for xs i m ≡ some v → (i < 4294967296) × (m + 1 < 18446744073709551616)) → (i < 4294967296) × (m + 1 < 18446744073709551616)
    go (yes d) f = by d (sym (ap (λ (rs : List (Interval ℕ)). answer_at rs m) (picked_own i x (group i xs) d)) ∙ e) f (place x.start x.end m)
    go (no d) f = f (sym (ap (λ (rs : List (Interval ℕ)). answer_at rs m) (picked_other i x (group i xs) d)) ∙ e)

-- so what stands after bounded inserts fits
module _ (names room : ℕ) (few : names ≤ 4096) (ns ys : List (Row ℕ)) (c : Comes names room ns ys) (a : All Bounded ns) where
  stands : (x : Row ℕ) → Mem x ys → Fit x
  stands x k =
      let es = events names room ns in
      let r : IsRun (answer_for ns x.instrument) (interval_of x) =
      subst (λ (l : List (Row ℕ)). IsRun (answer_for l x.instrument) (interval_of x)) c.each
      ((stored_runs same_value symbols known_value es x).0 (subst (λ (l : List (Row ℕ)). Mem x l) c.history k)) in
      let l : x.start < x.end = r.some_time in
      let p = covered ns a x.instrument (x.end - 1) x.value (r.constant (x.end - 1) (omega arith) (omega arith)) in
      let v : x.value < names = ltb_yes ((known_iff (known_value names) ys).0 (formed_parts same_value symbols known_value names ys c.formed).1 x k) in
      record {
        instrument_fits = p.0;
        value_fits = omega arith;
        start_fits = omega (arith, p.1);
        end_fits = omega (arith, p.1);
      }

  each_fits : (zs : List (Row ℕ)) → ((x : Row ℕ) → Mem x zs → Fit x) → All Fit zs
  each_fits [] f = tt
  each_fits (z ∷ zs) f = (f z (inl refl), each_fits zs (λ x k. f x (inr k)))

  pub comes_fit : All Fit ys
  comes_fit = each_fits ys stands

-- ---- the inserts that a build asks for are bounded

abbrev Good : Step (Row ℕ) → Type 0
Good (stop c) = Unit {0}
Good skip = Unit {0}
Good (give n) = Bounded n

abbrev Timely : Read ℕ → Type 0
Timely (fault c) = Unit {0}
Timely (value a) = a < 18446744073709551616

moment_timely : (date : ℕ) → Timely (moment_in date)
unfolding moment_in and_then day_in day_of read_of
moment_timely date =
    cond_case (λ (r : Answer). Timely (and_then (read_of r) (λ day. value (day * day_length)))) (is_date date && in_range date) _ _
    (λ t. let l : day_number date ≤ 213503 = day_limit date (day_number date) (cond_yes (is_date date && in_range date) _ _ t) in omega arith) (λ t. tt)

reading_good : {X : Type 0} (r : Read X) (f : X → Step (Row ℕ)) → ((x : X) → Good (f x)) → Good (reading r f)
unfolding reading
reading_good (fault c) f g = tt
reading_good (value x) f g = g x

unless_good : (text : List ℕ) (s : Step (Row ℕ)) → Good s → Good (unless_empty text s)
unfolding unless_empty
unless_good text s g = cond_case Good (is_empty text) _ _ (λ t. tt) (λ t. g)

narrow_good : (r : Read ℕ) → Narrow r → (f : ℕ → Step (Row ℕ)) → ((i : ℕ) → i < 4294967296 → Good (f i)) → Good (reading r f)
unfolding reading
narrow_good (fault c) n f g = tt
narrow_good (value i) n f g = g i n

dated_good : (i v : ℕ) (x : days.Interval) → i < 4294967296 → Good (dated i v x)
unfolding dated
dated_good i v x h = reading_good (moment_in x.start) _ (λ a. ends a (moment_in x.end) (moment_timely x.end))
  where
    ends : (a : ℕ) (r : Read ℕ) → Timely r → Good (reading r (λ b. give (record { instrument = i; start = a; end = b; value = v })))
    ends a (fault c) t = tt
    ends a (value b) t = record { instrument_bound = h; end_bound = t }

forward_good : (texts : List (List ℕ)) (name : ℕ) (x : days.Interval) → Good (forward_step texts name x)
unfolding forward_step
forward_good texts name x =
    reading_good (text_of texts x.symbol) _ (λ text. unless_good text _ (narrow_good (number_in text) (number_narrow text) _ (λ i h. dated_good i name x h)))

inverse_good : (texts : List (List ℕ)) (i : ℕ) → i < 4294967296 → (x : days.Interval) → Good (inverse_step texts i x)
unfolding inverse_step
inverse_good texts i h x = reading_good (text_of texts x.symbol) _ (λ text. unless_good text _ (dated_good i x.symbol x h))

asks_bounded : (s : Step (Row ℕ)) (ns : List (Row ℕ)) → Good s → All Bounded ns → All Bounded (asks s ns)
unfolding asks
asks_bounded (stop c) ns g a = a
asks_bounded skip ns g a = a
asks_bounded (give n) ns g a = (g, a)

intervals_bounded : (step : days.Interval → Step (Row ℕ)) → ((x : days.Interval) → Good (step x)) → (xs : List days.Interval) (ns : List (Row ℕ)) → All Bounded ns
    → All Bounded (intervals_ask step xs ns)
unfolding intervals_ask
intervals_bounded step g [] ns a = a
intervals_bounded step g (x ∷ xs) ns a = intervals_bounded step g xs (asks (step x) ns) (asks_bounded (step x) ns (g x) a)

read_bounded : (texts : List (List ℕ)) (xs : List days.Interval) (r : Read ℕ) → Narrow r → (ns : List (Row ℕ)) → All Bounded ns → All Bounded (read_asks texts xs r ns)
unfolding read_asks
read_bounded texts xs (fault c) n ns a = a
read_bounded texts xs (value i) n ns a = intervals_bounded (inverse_step texts i) (inverse_good texts i n) xs ns a

mapping_bounded : (texts : List (List ℕ)) (d : Direction) (m : Mapping) (ns : List (Row ℕ)) → All Bounded ns → All Bounded (mapping_asks texts d m ns)
unfolding mapping_asks and_then
mapping_bounded texts Forward m ns a = intervals_bounded (forward_step texts m.name) (forward_good texts m.name) m.intervals ns a
mapping_bounded texts Inverse m ns a = read_bounded texts m.intervals (and_then (text_of texts m.name) number_in) (named (text_of texts m.name)) ns a
  where
    named : (r : Read (List ℕ)) → Narrow (and_then r number_in)
    named (fault c) = tt
    named (value text) = number_narrow text

mappings_bounded : (texts : List (List ℕ)) (d : Direction) (ms : List Mapping) (ns : List (Row ℕ)) → All Bounded ns → All Bounded (mappings_ask texts d ms ns)
unfolding mappings_ask
mappings_bounded texts d [] ns a = a
mappings_bounded texts d (m ∷ ms) ns a = mappings_bounded texts d ms (mapping_asks texts d m ns) (mapping_bounded texts d m ns a)

pub asked_bounded : (texts : List (List ℕ)) (m : Metadata) → All Bounded (inserts_asked texts m)
unfolding inserts_asked directed_asks
asked_bounded texts m = go (direction_of m.fields)
  where
    go : (r : Read Direction) → All Bounded (directed_asks texts m.mappings r)
    go (fault c) = tt
    go (value d) = mappings_bounded texts d m.mappings [] tt
