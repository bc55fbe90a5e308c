-- What comes before the mappings: 11 for the asked day, 9, 10. Assumes nothing.
use Rattle.std.specs.Prelude.{◌≡◌, ℕ, ◌≤◌, Bool, true, false, List, [], ◌∷◌}
use Rattle.std.proofs.Math.Path.{refl, ap}
use Rattle.std.proofs.Common.{sym, ◌∙◌}
use Rattle.std.proofs.Math.Bool.{cond}
use Rattle.theory.specs.Answer.{answer}
use Rattle.leaves.specs.Refusal.{number_of, refused}
use Rattle.leaves_days.specs.Days.{day_of}
use Rattle.leaves_days.specs.DaysLaws.{day_limit}
use Rattle.leaves.specs.declared.refusal.Refusal.{Refusal}
use Rattle.metadata_rules.specs.Metadata.{Fields, Metadata}
use Rattle.map_point.specs.declared.entries.Entry.{Entry}
use Rattle.metadata_form.specs.declared.header.Header.{Header}
use Rattle.metadata_form.specs.Header.{header_fields}
use Rattle.build_rules.specs.declared.reading.Direction.{Direction}
use Rattle.build_rules.specs.Reading.{Read, fault, value, and_then, day_in, direction_by, direction_of}
use Rattle.build_rules.specs.ReadingLaws.{day_value, day_fault}
use Rattle.build_rules.specs.OverTime.{Build, stopped}
use Rattle.build_point.specs.declared.begin.Start.{Start}
use Rattle.build_rules.specs.PointInTime.{outside_query, on_day, asked, pick_mappings, point_in_time}

-- 9, then 10
unfoldable pub start_on : Fields → ℕ → Read Start
unfolding and_then direction_of outside_query
start_on f day = and_then (direction_of f) (λ d. cond (outside_query f day) (fault 10) (value (record { direction = d; day = day })))

-- 11 first
unfoldable pub start_for : Fields → ℕ → Read Start
unfolding and_then day_in start_on
start_for f date = and_then (day_in date) (start_on f)

-- the build from there
unfoldable pub build_from : ℕ → List (List ℕ) → Metadata → Read Start → Build Entry
unfolding pick_mappings
build_from room texts m (fault c) = stopped c 0 0
build_from room texts m (value s) = pick_mappings room texts s.direction s.day 0 m.mappings []

-- and that is the build
pub begin_build : (room : ℕ) (texts : List (List ℕ)) (m : Metadata) (date : ℕ) → point_in_time room texts m date ≡ build_from room texts m (start_for m.fields date)
unfolding point_in_time asked on_day start_for start_on and_then build_from
begin_build room texts m date = go (day_in date)
  where
    within : (d : Direction) (day : ℕ) (b : Bool)
        → cond b (stopped 10 0 0) (pick_mappings room texts d day 0 m.mappings []) ≡ build_from room texts m (cond b (fault 10) (value (record { direction = d; day = day })))
    within d day true = refl
    within d day false = refl

    on : (day : ℕ) (r : Read Direction)
        → on_day room texts m r day ≡ build_from room texts m (and_then r (λ d. cond (outside_query m.fields day) (fault 10) (value (record { direction = d; day = day }))))
    on day (fault c) = refl
    on day (value d) = within d day (outside_query m.fields day)

    go : (r : Read ℕ) → asked room texts m r ≡ build_from room texts m (and_then r (start_on m.fields))
    go (fault c) = refl
    go (value day) = on day (direction_of m.fields)

-- ---- the start, by what its parts answered

module _ (h : Header) (date : ℕ) where
  pub begin_undated : (r : Refusal) → refused r ≡ day_of date → fault (number_of r) ≡ start_for (header_fields h) date
  unfolding start_for and_then
  begin_undated r e = ap (λ (d : Read ℕ). and_then d (start_on (header_fields h))) (day_fault date r e)

  module _ (day : ℕ) (e : answer 0 (day ∷ []) ≡ day_of date) where
    pub begin_small : day ≤ 213503
    begin_small = day_limit date day (sym e)

    on : start_on (header_fields h) day ≡ start_for (header_fields h) date
    unfolding start_for and_then
    on = ap (λ (d : Read ℕ). and_then d (start_on (header_fields h))) (day_value date e)

    -- the direction read, on that day
    directed : Read Direction → Read Start
    directed r = and_then r (λ d. cond (outside_query (header_fields h) day) (fault 10) (value (record { direction = d; day = day })))

    pub begin_undirected : (r : Refusal) → fault (number_of r) ≡ direction_by h.stype_in h.stype_out → fault (number_of r) ≡ start_for (header_fields h) date
    unfolding start_on direction_of and_then directed
    begin_undirected r p = ap directed p ∙ on

    module _ (d : Direction) (p : value d ≡ direction_by h.stype_in h.stype_out) {b : Bool} (q : b ≡ outside_query (header_fields h) day) where
      tested : cond b (fault 10) (value (record { direction = d; day = day })) ≡ start_for (header_fields h) date
      unfolding start_on direction_of and_then directed
      tested = ap (λ (b : Bool). cond b (fault 10) (value (record { direction = d; day = day }))) q ∙ ap directed p ∙ on

      pub begin_outside : b ≡ true → fault 10 ≡ start_for (header_fields h) date
      begin_outside t = sym (ap (λ (b : Bool). cond b (fault 10) (value (record { direction = d; day = day }))) t) ∙ tested

      pub begin_inside : b ≡ false → value (record { direction = d; day = day }) ≡ start_for (header_fields h) date
      begin_inside t = sym (ap (λ (b : Bool). cond b (fault 10) (value (record { direction = d; day = day }))) t) ∙ tested

pub ruleset beginning = (begin_undated, begin_small, begin_undirected, begin_outside, begin_inside)
