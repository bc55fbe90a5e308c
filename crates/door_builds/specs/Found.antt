-- Build at the C door, then look up at the door: a build over time that returns 0 begins a trace of calls, and a lookup in any such trace
-- tells what the latest done insert says; after a build at a point in time that returns 0 a lookup tells the entry that the build set last
-- for the instrument. Assumes nothing.
use Rattle.std.specs.Prelude.{◌≡◌, refl, ℕ, zero, suc, ◌+◌, ◌-◌, ◌*◌, ◌/◌, ◌<◌, Bool, not, ◌&&◌, ◌||◌, length, replicate, T, ltb, leb, eqb}
use Rattle.std.proofs.Common.{sym, ◌∙◌, arith}
use Rattle.std.proofs.Math.Path.{ap}
use Rattle.std.proofs.Math.Bool.{true, false, cond}
use Rattle.std.proofs.Math.Option.{Option, none, some}
use mathlib.Core.List.{List, [], ◌∷◌}
use Rattle.theory.specs.Answer.{Answer, answer}
use Rattle.theory.specs.RunsTools.{cond_case, T_right}
use Rattle.leaves_text.specs.NumberText.{number_text, some_digits, digits, is_digit}
use Rattle.leaves_days.specs.Calendar.{is_date}
use Rattle.leaves_days.specs.Days.{day_of, in_range}
use Rattle.leaves_names.specs.Names.{names_of, well_formed}
use Rattle.map_rules.specs.Table.{Row, Outcome, refused_by, stored, if_room, insert_rows, entered, answer_for, ordered}
use Rattle.map_rules.specs.Tests.{ordered_iff}
use Rattle.map_rules.specs.Pieces.{symbols}
use Rattle.map_rules.specs.Memory.{same_value, rows, room_of, table_fits}
use Rattle.map_rules.specs.Looks.{said_answer, lookup_answer, lookup_hint}
use Rattle.map_rules.specs.Trace.{Trace, demanded}
use Rattle.map_point.specs.declared.entries.Entry.{Entry}
use Rattle.map_point.specs.Entries.{entries}
use Rattle.map_point.specs.Points.{rising, symbol_for, points_fit, symbol_answer, point_found}
use Rattle.metadata_rules.specs.declared.Interval.{Interval}
use Rattle.metadata_rules.specs.Metadata.{Mapping, Metadata}
use Rattle.metadata_form.specs.Header.{Lists, lengths_of, metadata_of}
use Rattle.build_rules.specs.declared.reading.Direction.{Direction}
use Rattle.build_rules.specs.declared.reading.Direction.TheVariants.{Forward, Inverse}
use Rattle.build_rules.specs.Reading.{Read, fault, value, read_of, and_then, text_of, number_in as instrumentIn, day_in, day_length, moment_in, is_empty, direction_by, direction_of}
use Rattle.build_rules.specs.OverTime.{Step, stop, skip, give, reading, unless_empty, dated, forward_step, inverse_step, taken, Build, stopped, built, onward, further, lay_intervals, lay_read, lay_mapping, lay_mappings, directed, over_time, build_answer}
use Rattle.build_rules.specs.Call.{build_fits}
use Rattle.build_rules.specs.OverTimeHistory.{inserts_asked}
use Rattle.build_rules.specs.PointInTime.{point_in_time}
use Rattle.build_rules.specs.PointInTimeLaws.{point_refusal, Sound, point_sound}
use Rattle.build_rules.specs.PointInTimeLatest.{settings}
use Rattle.build_time.specs.OverTime.{over_time_build, over_time_answer, over_time_memory}
use Rattle.build_time.specs.OverTimeMappings.{over_traced}
use Rattle.build_point.specs.Build.{point_build, point_in_time_answer, point_in_time_memory}
use Rattle.build_point.specs.Found.{built_there, built_found}
use Rattle.door_answers.specs.Answers.{number_in, value_in, given_in}
use Rattle.door_answers.specs.Header.{header_fits, header_of}
use Rattle.door_builds.specs.Build.{building_answer, building_memory, Building}

-- ---- no refusal of a build has the number 0

abbrev Faulty : {X : Type 0} → Read X → Type 0
Faulty (fault c) = 0 < c
Faulty (value x) = Unit {0}

abbrev StepFaulty : Step (Row ℕ) → Type 0
StepFaulty (stop c) = 0 < c
StepFaulty skip = Unit {0}
StepFaulty (give n) = Unit {0}

abbrev OutcomeFaulty : Outcome (Row ℕ) → Type 0
OutcomeFaulty (refused_by c) = 0 < c
OutcomeFaulty (stored ys) = Unit {0}

abbrev BuildFaulty : {X : Type 0} → Build X → Type 0
BuildFaulty (stopped c t k) = 0 < c
BuildFaulty (built xs) = Unit {0}

text_faulty : (texts : List (List ℕ)) (n : ℕ) → Faulty (text_of texts n)
unfolding text_of
text_faulty texts n = cond_case (λ (r : Read (List ℕ)). Faulty r) (ltb n (length texts)) _ _ (λ t. tt) (λ t. omega arith)

digits_faulty : (place v : ℕ) (s : List ℕ) → Faulty (read_of (digits place v s))
unfolding digits read_of
digits_faulty place v [] = tt
digits_faulty place v (b ∷ s) =
    cond_case (λ (a : Answer). Faulty (read_of a)) (is_digit b && leb (v * 10 + (b - 48)) 4294967295) _ _
    (λ t. digits_faulty (place + 1) (v * 10 + (b - 48)) s) (λ t. omega arith)

some_faulty : (place : ℕ) (s : List ℕ) → Faulty (read_of (some_digits place s))
unfolding some_digits read_of
some_faulty place [] = omega arith
some_faulty place (b ∷ s) = digits_faulty place 0 (b ∷ s)

number_faulty : (text : List ℕ) → Faulty (instrumentIn text)
unfolding instrumentIn number_text read_of
number_faulty [] = omega arith
number_faulty (b ∷ s) = cond_case (λ (a : Answer). Faulty (read_of a)) (eqb b 43) _ _ (λ t. some_faulty 1 s) (λ t. some_faulty 0 (b ∷ s))

moment_faulty : (date : ℕ) → Faulty (moment_in date)
unfolding moment_in and_then day_in day_of read_of
moment_faulty date =
    cond_case (λ (a : Answer). Faulty (and_then (read_of a) (λ day. value (day * day_length)))) (is_date date && in_range date) _ _ (λ t. tt) (λ t. omega arith)

direction_faulty : (m : Metadata) → Faulty (direction_of m.fields)
unfolding direction_of direction_by
direction_faulty m =
    cond_case (λ (r : Read Direction). Faulty r) (eqb m.fields.stype_out 0) _ _ (λ t. tt)
    (λ t. cond_case (λ (r : Read Direction). Faulty r) (eqb m.fields.stype_in 0) _ _ (λ u. tt) (λ u. omega arith))

reading_faulty : {X : Type 0} (r : Read X) (f : X → Step (Row ℕ)) → Faulty r → ((x : X) → StepFaulty (f x)) → StepFaulty (reading r f)
unfolding reading
reading_faulty (fault c) f h g = h
reading_faulty (value x) f h g = g x

unless_faulty : (text : List ℕ) (s : Step (Row ℕ)) → StepFaulty s → StepFaulty (unless_empty text s)
unfolding unless_empty
unless_faulty text s g = cond_case StepFaulty (is_empty text) _ _ (λ t. tt) (λ t. g)

dated_faulty : (i v : ℕ) (x : Interval) → StepFaulty (dated i v x)
unfolding dated
dated_faulty i v x =
    reading_faulty (moment_in x.start) _ (moment_faulty x.start) (λ a. reading_faulty (moment_in x.end) _ (moment_faulty x.end) (λ b. tt))

forward_faulty : (texts : List (List ℕ)) (name : ℕ) (x : Interval) → StepFaulty (forward_step texts name x)
unfolding forward_step
forward_faulty texts name x =
    reading_faulty (text_of texts x.symbol) _ (text_faulty texts x.symbol)
    (λ text. unless_faulty text _ (reading_faulty (instrumentIn text) _ (number_faulty text) (λ i. dated_faulty i name x)))

inverse_faulty : (texts : List (List ℕ)) (i : ℕ) (x : Interval) → StepFaulty (inverse_step texts i x)
unfolding inverse_step
inverse_faulty texts i x =
    reading_faulty (text_of texts x.symbol) _ (text_faulty texts x.symbol) (λ text. unless_faulty text _ (dated_faulty i x.symbol x))

taken_faulty : (names room : ℕ) (s : Step (Row ℕ)) (ys : List (Row ℕ)) → StepFaulty s → OutcomeFaulty (taken names room s ys)
unfolding taken entered if_room
taken_faulty names room (stop c) ys h = h
taken_faulty names room skip ys h = tt
taken_faulty names room (give n) ys h =
    cond_case OutcomeFaulty (ltb n.end n.start) _ _ (λ t. omega arith)
    (λ t. cond_case OutcomeFaulty (eqb n.start n.end) _ _ (λ u. tt)
    (λ u. cond_case OutcomeFaulty (ltb n.value names) _ _
    (λ v. cond_case OutcomeFaulty (ltb room (length (insert_rows same_value n ys))) _ _ (λ w. omega arith) (λ w. tt)) (λ v. omega arith)))

intervals_faulty : (names room : ℕ) (step : Interval → Step (Row ℕ)) → ((x : Interval) → StepFaulty (step x)) → (t k : ℕ) (xs : List Interval) (ys : List (Row ℕ))
    → BuildFaulty (lay_intervals names room step t k xs ys)
unfolding lay_intervals onward
intervals_faulty names room step g t k [] ys = tt
intervals_faulty names room step g t k (x ∷ xs) ys =
    go (taken names room (step x) ys) (taken_faulty names room (step x) ys (g x)) (intervals_faulty names room step g t (k + 1) xs)
  where
    go : (o : Outcome (Row ℕ)) → OutcomeFaulty o → ((zs : List (Row ℕ)) → BuildFaulty (lay_intervals names room step t (k + 1) xs zs))
        → BuildFaulty (onward t k (lay_intervals names room step t (k + 1) xs) o)
    go (refused_by c) h f = h
    go (stored zs) h f = f zs

module _ (room : ℕ) (texts : List (List ℕ)) where
  mapping_faulty : (d : Direction) (t : ℕ) (m : Mapping) (ys : List (Row ℕ)) → BuildFaulty (lay_mapping room texts d t m ys)
  unfolding lay_mapping lay_read and_then
  mapping_faulty Forward t m ys = intervals_faulty (length texts) room (forward_step texts m.name) (forward_faulty texts m.name) t 0 m.intervals ys
  mapping_faulty Inverse t m ys = go (and_then (text_of texts m.name) instrumentIn) (named (text_of texts m.name) (text_faulty texts m.name))
    where
      named : (r : Read (List ℕ)) → Faulty r → Faulty (and_then r instrumentIn)
      named (fault c) h = h
      named (value text) h = number_faulty text

      go : (r : Read ℕ) → Faulty r → BuildFaulty (lay_read room texts t m.intervals ys r)
      go (fault c) h = h
      go (value i) h = intervals_faulty (length texts) room (inverse_step texts i) (inverse_faulty texts i) t 0 m.intervals ys

  mappings_faulty : (d : Direction) (t : ℕ) (ms : List Mapping) (ys : List (Row ℕ)) → BuildFaulty (lay_mappings room texts d t ms ys)
  unfolding lay_mappings further
  mappings_faulty d t [] ys = tt
  mappings_faulty d t (m ∷ ms) ys = go (lay_mapping room texts d t m ys) (mapping_faulty d t m ys) (mappings_faulty d (t + 1) ms)
    where
      go : (b : Build (Row ℕ)) → BuildFaulty b → ((zs : List (Row ℕ)) → BuildFaulty (lay_mappings room texts d (t + 1) ms zs)) → BuildFaulty (further (lay_mappings room texts d (t + 1) ms) b)
      go (stopped c s k) h f = h
      go (built zs) h f = f zs

  over_faulty : (m : Metadata) → BuildFaulty (over_time room texts m)
  unfolding over_time directed
  over_faulty m = go (direction_of m.fields) (direction_faulty m)
    where
      go : (r : Read Direction) → Faulty r → BuildFaulty (directed room texts m.mappings r)
      go (fault c) h = h
      go (value d) h = mappings_faulty d 0 m.mappings []

judged_faulty : {X : Type 0} (f w : Bool) (b : Build X) → BuildFaulty b → BuildFaulty (cond f (cond w b (stopped 14 0 0)) (stopped 15 0 0))
judged_faulty true true b h = h
judged_faulty true false b h = omega arith
judged_faulty false w b h = omega arith

refusal_positive : (c : ℕ) → T (point_refusal c) → 0 < c
unfolding point_refusal
refusal_positive zero t = absurd t
refusal_positive (suc c) t = omega arith

-- so a build that returns 0 is done, with the number in use
done_of : {X : Type 0} (b : Build X) → BuildFaulty b → number_in (build_answer b) ≡ 0 → build_answer b ≡ answer 0 (value_in 0 0 (build_answer b) ∷ [])
unfolding build_answer number_in value_in
done_of (stopped c t k) h e = absurd (omega arith)
done_of (built xs) h e = refl

-- ---- what a lookup tells: 1 and the symbol, or 0 and 0

abbrev pub Tells : Option ℕ → ℕ → ℕ → Type 0
Tells none found symbol = (found ≡ 0) × (symbol ≡ 0)
Tells (some v) found symbol = (found ≡ 1) × (symbol ≡ v)

-- ---- over time

module _ (t : List ℕ) (w : List ℕ) (l : Lists) (bytes ends : List ℕ) (names name_bytes : ℕ) where
  -- a build at the door that returns 0 begins a trace with the inserts that its metadata asks for
  pub door_traced : (used : ℕ) (t' : List ℕ)
      → Building (length t) w (λ h. over_time_answer t h l bytes ends names name_bytes) (λ h. over_time_memory t h l bytes ends names name_bytes) 0 used t'
      → Trace (inserts_asked (names_of bytes ends names) (metadata_of (header_of w) l)) t' used
  unfolding building_answer building_memory over_time_answer over_time_build number_in
  door_traced used t' b = go (header_fits w) b.returns b.counts b.holds
    where
      go : (f : Bool) → 0 ≡ number_in (cond f (over_time_answer t (header_of w) l bytes ends names name_bytes) (answer 15 []))
          → used ≡ value_in 0 0 (cond f (over_time_answer t (header_of w) l bytes ends names name_bytes) (answer 15 []))
          → t' ≡ cond f (over_time_memory t (header_of w) l bytes ends names name_bytes) (replicate (length t) 0)
          → Trace (inserts_asked (names_of bytes ends names) (metadata_of (header_of w) l)) t' used
      go false r u m = absurd (omega arith)
      go true r u m =
          over_traced t (header_of w) l bytes ends names name_bytes used t'
          (done_of (over_time_build t (header_of w) l bytes ends names name_bytes)
          (judged_faulty (build_fits (table_fits (length t) 0) (header_of w) (lengths_of l) l.mappings (length bytes) (length ends) names name_bytes) (well_formed bytes ends names name_bytes)
          (over_time (room_of t) (names_of bytes ends names) (metadata_of (header_of w) l)) (over_faulty (room_of t) (names_of bytes ends names) (metadata_of (header_of w) l))) (sym r)
          ∙ ap (λ (k : ℕ). answer 0 (k ∷ [])) (sym u)) m

-- a lookup at the door in any trace that returns 0 tells what the latest done insert says
pub door_look : {ns : List (Row ℕ)} {t : List ℕ} {used : ℕ} → Trace ns t used → (i m h h'' f f' s s' r : ℕ)
    → (T (not (table_fits (length t) used) || ordered same_value (rows t used)) → (r ≡ number_in (lookup_answer t used i m h)) × (h'' ≡ value_in h 0 (lookup_answer t used i m h))
    × (f' ≡ given_in f 1 (lookup_answer t used i m h)) × (s' ≡ value_in s 1 (lookup_answer t used i m h)))
    → r ≡ 0 → Tells (answer_for ns i m) f' s'
unfolding lookup_answer said_answer number_in value_in given_in
door_look {ns} {t} {used} c i m h h'' f f' s s' r k e =
    let d = demanded c in
    let q = k (T_right (not (table_fits (length t) used)) (ordered same_value (rows t used)) ((ordered_iff same_value symbols (rows t used)).1 d.in_order)) in
    fit (table_fits (length t) used) refl (sym q.0 ∙ e) (λ g. d.decides i m h (lookup_answer t used i m h) (lookup_hint t used i m h) (λ z. (refl, refl)) g) q.2 q.3
  where
    tells : (o : Option ℕ) (j : ℕ) → f' ≡ given_in f 1 (said_answer j o) → s' ≡ value_in s 1 (said_answer j o) → Tells o f' s'
    tells none j a b = (a, b)
    tells (some v) j a b = (a, b)

    fit : (b : Bool) → table_fits (length t) used ≡ b → number_in (lookup_answer t used i m h) ≡ 0
        → (table_fits (length t) used ≡ true → lookup_answer t used i m h ≡ said_answer (lookup_hint t used i m h) (answer_for ns i m))
        → f' ≡ given_in f 1 (lookup_answer t used i m h) → s' ≡ value_in s 1 (lookup_answer t used i m h) → Tells (answer_for ns i m) f' s'
    fit true g n l a b =
        tells (answer_for ns i m) (lookup_hint t used i m h) (a ∙ ap (given_in f 1) (l g)) (b ∙ ap (value_in s 1) (l g))
    fit false g n l a b = absurd (let z : 15 ≡ 0 = rw g at n in omega arith)

-- ---- at a point in time

module _ (size : ℕ) (w : List ℕ) (l : Lists) (bytes ends : List ℕ) (names name_bytes date : ℕ) where
  -- after a build at the door that returns 0, a lookup at the door returns 0 and tells the entry that the build set last
  pub door_found : (used : ℕ) (t : List ℕ)
      → Building size w (λ h. point_in_time_answer size h l bytes ends names name_bytes date) (λ h. point_in_time_memory size h l bytes ends names name_bytes date) 0 used t
      → {d : Direction} {day : ℕ} → direction_of (metadata_of (header_of w) l).fields ≡ value d → day_in date ≡ value day → (i f f' s s' r : ℕ)
      → (T (not (points_fit (length t) used) || rising (entries t used)) → (r ≡ number_in (point_found t used i)) × (f' ≡ given_in f 0 (point_found t used i)) × (s' ≡ value_in s 0 (point_found t used i)))
      → (r ≡ 0) × Tells (symbol_for i (settings (names_of bytes ends names) d day (metadata_of (header_of w) l).mappings [])) f' s'
  unfolding building_answer building_memory point_in_time_answer point_build number_in value_in given_in
  door_found used t b {d} {day} p q i f f' s s' r k = go (header_fits w) b.returns b.counts b.holds
    where
      tells : (o : Option ℕ) (a : Answer) → a ≡ symbol_answer o → r ≡ number_in a → f' ≡ given_in f 0 a → s' ≡ value_in s 0 a → (r ≡ 0) × Tells o f' s'
      tells none a e x y z = (x ∙ ap number_in e, (y ∙ ap (given_in f 0) e, z ∙ ap (value_in s 0) e))
      tells (some v) a e x y z = (x ∙ ap number_in e, (y ∙ ap (given_in f 0) e, z ∙ ap (value_in s 0) e))

      sound : (b : Build Entry) → Sound (size / 8) (length (names_of bytes ends names)) b → BuildFaulty b
      sound (stopped c t k) h = refusal_positive c h
      sound (built es) h = tt

      go : (g : Bool) → 0 ≡ number_in (cond g (point_in_time_answer size (header_of w) l bytes ends names name_bytes date) (answer 15 []))
          → used ≡ value_in 0 0 (cond g (point_in_time_answer size (header_of w) l bytes ends names name_bytes date) (answer 15 []))
          → t ≡ cond g (point_in_time_memory size (header_of w) l bytes ends names name_bytes date) (replicate size 0)
          → (r ≡ 0) × Tells (symbol_for i (settings (names_of bytes ends names) d day (metadata_of (header_of w) l).mappings [])) f' s'
      go false x y z = absurd (omega arith)
      go true x y z =
          let h = header_of w in
          let m = metadata_of h l in
          let done : point_in_time_answer size h l bytes ends names name_bytes date ≡ answer 0 (used ∷ []) =
          done_of (point_build size h l bytes ends names name_bytes date)
          (judged_faulty (build_fits (points_fit size 0) h (lengths_of l) l.mappings (length bytes) (length ends) names name_bytes) (well_formed bytes ends names name_bytes)
          (point_in_time (size / 8) (names_of bytes ends names) m date)
          (sound (point_in_time (size / 8) (names_of bytes ends names) m date) (point_sound (size / 8) (names_of bytes ends names) m date))) (sym x)
          ∙ ap (λ (n : ℕ). answer 0 (n ∷ [])) (sym y) in
          let there = built_there size h l bytes ends names name_bytes date used t done z in
          let c = k (T_right (not (points_fit (length t) used)) (rising (entries t used)) there.sorted) in
          tells (symbol_for i (settings (names_of bytes ends names) d day m.mappings [])) (point_found t used i)
          (built_found size h l bytes ends names name_bytes date used t done z p q i (point_found t used i) (λ g. refl)) c.0 c.1 c.2
