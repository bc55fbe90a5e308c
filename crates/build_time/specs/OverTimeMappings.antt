-- The mappings of a build one after the other, the whole build, and the call, over the steps of one mapping (OverTimeLaws). Assumes
-- nothing.
use Rattle.std.proofs.Math.Path.{◌≡◌, refl, sym, ap, subst}
use Rattle.std.proofs.Common.{◌∙◌}
use Rattle.std.specs.Prelude.{ℕ, ◌+◌, ◌-◌, ◌*◌, ◌/◌, ◌≤◌, ◌<◌, Bool, cond, Result, Ok, Err, OnErr}
use native.Mathlib.Omega.{arith}
use Rattle.std.proofs.Math.Bool.{true, false}
use mathlib.Core.List.{List, [], ◌∷◌}
use Rattle.std.proofs.Math.ListN.{length, replicate}
use Rattle.std.proofs.lemmas.List.{length-replicate}
use Rattle.theory.specs.Answer.{answer, one_value}
use Rattle.leaves.specs.Refusal.{number_of, refused, answer_with}
use Rattle.leaves.specs.declared.refusal.Refusal.{Refusal}
use Rattle.map_rules.specs.Table.{Row, ordered, all_known, well_formed}
use Rattle.map_rules.specs.Memory.{rows_from, rows, rows_bytes, room_of, table_fits, rows_written}
use Rattle.map_rules.specs.MemoryLaws.{length_rows, rows_written_lem}
use Rattle.map_rules.specs.Outcomes.{Lent, table_lent}
use Rattle.leaves_names.specs.Names.{names_of}
use Rattle.leaves_names.specs.Names.{well_formed as wellFormedNames}
use Rattle.leaves_names.specs.NamesLaws.{memory}
use Rattle.leaves_names.specs.NamesList.{names_length}
use Rattle.metadata_rules.specs.declared.Interval.{Interval as Span}
use Rattle.metadata_rules.specs.Metadata.{Mapping, mapping}
use Rattle.metadata_rules.specs.Words.{name_at, count_at, before, stretch, mappings_from}
use Rattle.metadata_form.specs.declared.header.Header.{Header}
use Rattle.metadata_form.specs.Header.{Lists, lengths_of, metadata_of, MetadataFitting, metadata_fitting}
use Rattle.metadata_rules.specs.WordsLaws.{before_next, before_up}
use Rattle.build_rules.specs.declared.reading.Direction.{Direction}
use Rattle.build_rules.specs.declared.reading.Direction.TheVariants as direction
use Rattle.build_rules.specs.Reading.{Read, fault, value, and_then, text_of, number_in, direction_by, direction_of}
use Rattle.build_rules.specs.Call.{build_fits, judged, settled}
use Rattle.build_rules.specs.OverTime.{Step, Build, stopped, built, lay_intervals, lay_read, lay_mapping, lay_mappings, directed, over_time, build_answer}
use Rattle.build_rules.specs.OverTimeLaws.{PlainRead, text_plain, number_plain, direction_plain, and_then_plain, mappings_end, mappings_turn, mappings_stop, laid_blank}
use Rattle.map_rules.specs.Trace.{Comes, Trace, build}
use Rattle.build_rules.specs.OverTimeHistory.{inserts_asked, built_history}
use Rattle.build_rules.specs.Fitting.{comes_fit, asked_bounded}
use Rattle.build_rules.specs.CallLaws.{fits_facts, judged_good, judged_stops}
use Rattle.build_time.specs.OverTime.{way_for, way_step, over_time_build, over_time_answer, built_memory, over_time_memory, built_rows, over_time_rows, Holds, Lays}
use Rattle.build_time.specs.declared.over_time.Way.{Way}
use Rattle.build_time.specs.declared.over_time.Way.TheVariants.{Inverse}
use Rattle.build_time.specs.OverTimeLaws.{plain_stopped, no_refusal, stretch_stops}

-- ---- one mapping

module _ (bytes ends : List ℕ) (names : ℕ) (d : Direction) (name room : ℕ) (xs : List Span) (ys : List (Row ℕ)) where
  abbrev texts : List (List ℕ)
  texts = names_of bytes ends names

  -- how many names are known is how many texts there are
  counted : (step : Span → Step (Row ℕ)) (m : ℕ) → lay_intervals names room step m 0 xs ys ≡ lay_intervals (length texts) room step m 0 xs ys
  counted step m = ap (λ (n : ℕ). lay_intervals n room step m 0 xs ys) (sym (names_length bytes ends names))

  -- the mapping by how its intervals are read
  lay_way : ℕ → Read Way → Build (Row ℕ)
  lay_way m (fault c) = stopped c m 0
  lay_way m (value way) = lay_intervals (length texts) room (way_step texts way) m 0 xs ys

  mapping_way : (m : ℕ) → lay_way m (way_for texts d name) ≡ lay_mapping room texts d m (mapping name xs) ys
  unfolding lay_way lay_mapping lay_read
  mapping_way m = go d
    where
      read : (r : Read ℕ) → lay_way m (and_then r (λ i. value (Inverse i))) ≡ lay_read room texts m xs ys r
      read (fault c) = refl
      read (value i) = refl

      go : (d : Direction) → lay_way m (way_for texts d name) ≡ lay_mapping room texts d m (mapping name xs) ys
      go direction.Forward = refl
      go direction.Inverse = read (and_then (text_of texts name) number_in)

  way_plain : PlainRead (way_for texts d name)
  way_plain = go d
    where
      go : (d : Direction) → PlainRead (way_for texts d name)
      go direction.Forward c e = cc
      go direction.Inverse c e =
          and_then_plain (and_then (text_of texts name) number_in) (λ i. value (Inverse i))
          (and_then_plain (text_of texts name) number_in (text_plain texts name) number_plain) (λ i c e. cc) c e

  pub mapping_laid : (way : Way) (r : Result ℕ Refusal) (t' : List ℕ) → value way ≡ way_for texts d name
      → ((m : ℕ) → Lays names (lay_intervals names room (way_step texts way) m 0 xs ys) r t')
      → (m : ℕ) → Lays names (lay_mapping room texts d m (mapping name xs) ys) r t'
  unfolding lay_way
  mapping_laid way r t' e l m = subst (λ (b : Build (Row ℕ)). Lays names b r t') (counted (way_step texts way) m ∙ ap (lay_way m) e ∙ mapping_way m) (l m)

  pub mapping_stops : (why : Refusal) (t' : List ℕ) → fault (number_of why) ≡ way_for texts d name
      → (m : ℕ) → Lays names (lay_mapping room texts d m (mapping name xs) ys) (Err why) t'
  unfolding lay_way build_answer
  mapping_stops why t' e m =
      let b : stopped (number_of why) m 0 ≡ lay_mapping room texts d m (mapping name xs) ys = ap (lay_way m) e ∙ mapping_way m in
      record { answers = plain_stopped why (way_plain (number_of why) (sym e)) ∙ ap build_answer b; on = λ u y. cc }

-- ---- the mappings, one after the other

-- before the mapping of number k, whose intervals begin at this place: what is left of them on this table is the whole
pub record Mapped (names : ℕ) (texts : List (List ℕ)) (d : Direction) (m v : List ℕ) (count : ℕ) (t₀ t : List ℕ) (used from k : ℕ) : Type 0 where
  pub upto : k ≤ count
  pub begins : from ≡ before m k
  pub long : length t ≡ length t₀
  pub holds : Holds names t used
  pub left : lay_mappings (room_of t₀) texts d 0 (mappings_from m v 0 0 count) []
      ≡ lay_mappings (room_of t₀) texts d k (mappings_from m v k from (count - k)) (rows t used)

module _ (names : ℕ) (texts : List (List ℕ)) (d : Direction) (m v : List ℕ) (count : ℕ) (t₀ : List ℕ) where
  abbrev whole : Build (Row ℕ)
  whole = lay_mappings (room_of t₀) texts d 0 (mappings_from m v 0 0 count) []

  pub mapping_start_lem : Holds names t₀ 0 → Mapped names texts d m v count t₀ t₀ 0 0 0
  unfolding before rows_from
  mapping_start_lem h =
      let e : count ≡ count - 0 = omega arith in
      record { upto = omega arith; begins = refl; long = refl; holds = h; left = λ i. lay_mappings (room_of t₀) texts d 0 (mappings_from m v 0 0 (e i)) [] }

  module _ (t : List ℕ) (used from k : ℕ) (l : Mapped names texts d m v count t₀ t used from k) (h : k < count) where
    -- its intervals are within the lent ones
    pub mapping_within : (n : ℕ) → n ≡ count_at m k → 3 * before m count ≤ length v → 3 * (from + n) ≤ length v
    mapping_within n e w = omega (arith, before_next m k, before_up m (k + 1) count (omega arith), l.begins)

    module _ (t' : List ℕ) (r : Result ℕ Refusal) (name n : ℕ) (y : name ≡ name_at m k) (z : n ≡ count_at m k) {xs : List Span} (q : xs ≡ stretch v from n)
        (w : (q : ℕ) → Lays names (lay_mapping (room_of t) texts d q (mapping name xs) (rows t used)) r t') where
      abbrev here : Build (Row ℕ)
      here = lay_mapping (room_of t₀) texts d k (mapping (name_at m k) (stretch v from (count_at m k))) (rows t used)

      -- read where they lie, in the room as it was
      read : Lays names (lay_mapping (room_of t₀) texts d k (mapping (name_at m k) (stretch v from (count_at m k))) (rows t used)) r t'
      read =
          let e : xs ≡ stretch v from (count_at m k) = q ∙ ap (stretch v from) z in
          subst (λ (b : Build (Row ℕ)). Lays names b r t') (λ i. lay_mapping (l.long i / 24) texts d k (mapping (y i) (e i)) (rows t used)) (w k)

    module _ (t' : List ℕ) (name n : ℕ) (y : name ≡ name_at m k) (z : n ≡ count_at m k) {xs : List Span} (q : xs ≡ stretch v from n) where
      pub mapping_turn : (u : ℕ) → length t' ≡ length t
          → ((q : ℕ) → Lays names (lay_mapping (room_of t) texts d q (mapping name xs) (rows t used)) (Ok u) t')
          → Mapped names texts d m v count t₀ t' u (from + n) (k + 1)
      mapping_turn u g w =
          let p = (read t' (Ok u) name n y z q w).on u refl in
          let b : count - k - 1 ≡ count - (k + 1) = omega arith in
          record {
            upto = omega arith;
            begins = omega (arith, before_next m k, l.begins, z);
            long = g ∙ l.long;
            holds = p.1;
            left =
                l.left ∙ mappings_turn (room_of t₀) texts d m v k from (count - k) (rows t used) (rows t' u) (omega arith) p.0
                ∙ (λ i. lay_mappings (room_of t₀) texts d (k + 1) (mappings_from m v (k + 1) (from + sym z i) (b i)) (rows t' u));
          }

      pub mapping_stop : (why : Refusal)
          → ((q : ℕ) → Lays names (lay_mapping (room_of t) texts d q (mapping name xs) (rows t used)) (Err why) t')
          → Lays names (lay_mappings (room_of t₀) texts d 0 (mappings_from m v 0 0 count) []) (Err why) t'
      unfolding build_answer
      mapping_stop why w = record {
        answers = stretch_stops (lay_mapping (room_of t₀) texts d k (mapping (name_at m k) (stretch v from (count_at m k))) (rows t used)) why whole
            (read t' (Err why) name n y z q w).answers
            (λ c s j x. sym (ap build_answer (l.left ∙ mappings_stop (room_of t₀) texts d m v k from (count - k) (rows t used) c s j (omega arith) x)));
        on = λ u x. cc;
      }

  pub mapping_end : (t : List ℕ) (used from k : ℕ) → Mapped names texts d m v count t₀ t used from k → count ≤ k
      → Lays names (lay_mappings (room_of t₀) texts d 0 (mappings_from m v 0 0 count) []) (Ok used) t
  unfolding build_answer
  mapping_end t used from k l h =
      let z : count - k ≡ 0 = omega arith in
      let b : whole ≡ built (rows t used) = l.left ∙ mappings_end (room_of t₀) texts d m v k from (count - k) (rows t used) z in
      record {
        answers = ap (λ (n : ℕ). answer 0 (n ∷ [])) (sym (length_rows t 0 used)) ∙ sym (ap build_answer b);
        on = λ u y. let i : used ≡ u = cc in subst (λ (c : ℕ). (whole ≡ built (rows t c)) × Holds names t c) i (b, l.holds);
      }

-- ---- the direction, then the mappings

module _ (names : ℕ) (t : List ℕ) (texts : List (List ℕ)) (ms : List Mapping) (i o : ℕ) where
  pub directed_stops : (why : Refusal) (t' : List ℕ) → fault (number_of why) ≡ direction_by i o → Lays names (directed (room_of t) texts ms (direction_by i o)) (Err why) t'
  unfolding directed build_answer
  directed_stops why t' e = rw (← e) (record { answers = plain_stopped why (direction_plain i o (number_of why) (sym e)); on = λ u y. cc })

  pub directed_laid : (d : Direction) (r : Result ℕ Refusal) (t' : List ℕ) → value d ≡ direction_by i o → Lays names (lay_mappings (room_of t) texts d 0 ms []) r t'
      → Lays names (directed (room_of t) texts ms (direction_by i o)) r t'
  unfolding directed
  directed_laid d r t' e l = rw (← e) l

-- ---- the lent memory

-- an emptied table
pub empty_holds : (long names : ℕ) (z : List ℕ) → z ≡ replicate long 0 → table_fits long 0 ≡ true → Holds names z 0
unfolding well_formed ordered all_known rows_from rows_bytes
empty_holds long names z e d =
    let k : length z ≡ long = ap length e ∙ length-replicate long 0 in
    let w : Lent long 0 = table_lent long 0 d in
    let r : long - 0 * 24 ≡ long = omega arith in
    record {
      whole = k ∙ w.whole ∙ ap (λ (n : ℕ). n / 24 * 24) (sym k);
      in_use = omega arith;
      formed = tt;
      memory = e ∙ sym (ap (λ (n : ℕ). rows_written (replicate n 0) 0 []) k ∙ laid_blank long [] ∙ ap (λ (n : ℕ). replicate n 0) r);
    }

-- and back: with nothing in use a table holds 0 in every place
pub holds_none : (names : ℕ) (t : List ℕ) → Holds names t 0 → t ≡ replicate (length t) 0
unfolding rows_from rows_bytes
holds_none names t h =
    let r : length t - 0 * 24 ≡ length t = omega arith in
    h.memory ∙ laid_blank (length t) [] ∙ ap (λ (n : ℕ). replicate n 0) r

-- ---- a build that is settled

pub lays_settled : {names : ℕ} {b : Build (Row ℕ)} (r : Result ℕ Refusal) (t : List ℕ) → Lays names b r t → Lays names b r (settled r t)
lays_settled (Ok u) t l = l
lays_settled (Err why) t l = record { answers = l.answers; on = λ u y. cc }

pub settled_empties : (r : Result ℕ Refusal) (t : List ℕ) → OnErr r (settled r t ≡ replicate (length t) 0)
settled_empties (Ok u) t = tt
settled_empties (Err why) t = refl

-- a table that a refusal left empty is settled
pub emptied_settled : (r : Result ℕ Refusal) (t : List ℕ) → OnErr r (t ≡ replicate (length t) 0) → t ≡ settled r t
emptied_settled (Ok u) t e = refl
emptied_settled (Err why) t e = e

-- ---- the call

module _ (t : List ℕ) (h : Header) (l : Lists) (bytes ends : List ℕ) (names name_bytes : ℕ) where
  -- what the call owes: the answer, the table's memory, and the rows that stand there
  pub record Owed (r : Result ℕ Refusal) (t' : List ℕ) : Type 0 where
    pub result_value : answer_with one_value r ≡ over_time_answer t h l bytes ends names name_bytes
    pub table_after : t' ≡ over_time_memory t h l bytes ends names name_bytes
    pub rows_after : rows t' (length (over_time_rows t h l bytes ends names name_bytes)) ≡ over_time_rows t h l bytes ends names name_bytes

  owed : (b : Build (Row ℕ)) (r : Result ℕ Refusal) (t' : List ℕ) → over_time_build t h l bytes ends names name_bytes ≡ b → answer_with one_value r ≡ build_answer b
      → t' ≡ built_memory (length t) b → rows t' (length (built_rows b)) ≡ built_rows b → Owed r t'
  unfolding over_time_answer over_time_memory over_time_rows
  owed b r t' e f g k = record {
    result_value = f ∙ sym (ap build_answer e);
    table_after = g ∙ sym (ap (built_memory (length t)) e);
    rows_after = subst (λ (b : Build (Row ℕ)). rows t' (length (built_rows b)) ≡ built_rows b) (sym e) k;
  }

  abbrev formed : Bool
  formed = wellFormedNames bytes ends names name_bytes

  module _ {of_form : Bool} (z : List ℕ) (e : z ≡ replicate (length t) 0) (i : of_form ≡ table_fits (length t) 0) where
    abbrev fits : Bool
    fits = build_fits of_form h (lengths_of l) l.mappings (length bytes) (length ends) names name_bytes

    long : length z ≡ length t
    long = ap length e ∙ length-replicate (length t) 0

    -- the build by its tests
    tested : (b : Build (Row ℕ)) → cond fits (cond formed (over_time (room_of t) (names_of bytes ends names) (metadata_of h l)) (stopped 14 0 0)) (stopped 15 0 0) ≡ b
        → over_time_build t h l bytes ends names name_bytes ≡ b
    unfolding over_time_build
    tested b d =
        ap (λ (f : Bool). cond (build_fits f h (lengths_of l) l.mappings (length bytes) (length ends) names name_bytes)
        (cond formed (over_time (room_of t) (names_of bytes ends names) (metadata_of h l)) (stopped 14 0 0)) (stopped 15 0 0)) (sym i) ∙ d

    pub over_refused : (why : Refusal)
        → refused why ≡ judged (build_fits of_form h (lengths_of l) l.mappings (length bytes) (length ends) names name_bytes) (wellFormedNames bytes ends names name_bytes) → Owed (Err why) z
    unfolding build_answer built_memory built_rows rows_from
    over_refused why y =
        let p = judged_stops fits formed (over_time (room_of t) (names_of bytes ends names) (metadata_of h l)) why y in
        owed (stopped (number_of why) 0 0) (Err why) z (tested _ p.0) p.1 e refl

    module _ (y : answer 0 [] ≡ judged (build_fits of_form h (lengths_of l) l.mappings (length bytes) (length ends) names name_bytes) (wellFormedNames bytes ends names name_bytes)) where
      good : (fits ≡ true) × (formed ≡ true)
      good = judged_good fits formed y

      pub over_ready : Holds names z 0 × (2 * h.mappings ≤ length l.mappings) × (3 * before l.mappings h.mappings ≤ length l.intervals)
      over_ready =
          let p = fits_facts of_form h (lengths_of l) l.mappings (length bytes) (length ends) names name_bytes good.0 in
          let s : MetadataFitting h (lengths_of l) l.mappings = metadata_fitting h (lengths_of l) l.mappings p.1 in
          let a = s.fit.spans_whole in
          let b = s.sum in (empty_holds (length t) names z e (sym i ∙ p.0), s.fit.maps_used, omega arith)

      abbrev laid : Build (Row ℕ)
      laid = directed (room_of z) (names_of bytes ends names) (mappings_from l.mappings l.intervals 0 0 h.mappings) (direction_by h.stype_in h.stype_out)

      is_laid : over_time_build t h l bytes ends names name_bytes ≡ laid
      unfolding over_time direction_of metadata_of
      is_laid =
          let p : fits ≡ true = good.0 in
          let q : formed ≡ true = good.1 in
          tested laid
          (rw (p, q) (ap (λ (n : ℕ). directed (n / 24) (names_of bytes ends names) (mappings_from l.mappings l.intervals 0 0 h.mappings) (direction_by h.stype_in h.stype_out)) (sym long)))

      pub over_built : (r : Result ℕ Refusal) (t' : List ℕ) → length t' ≡ length z
          → Lays names (directed (room_of z) (names_of bytes ends names) (mappings_from l.mappings l.intervals 0 0 h.mappings) (direction_by h.stype_in h.stype_out)) r t'
          → Owed r (settled r t')
      unfolding built_memory build_answer built_rows rows_from
      over_built (Ok u) t' g x =
          let p = x.on u refl in
          owed laid (Ok u) t' is_laid x.answers
          (p.1.memory ∙ ap (λ (n : ℕ). rows_written (replicate n 0) 0 (rows t' u)) (g ∙ long) ∙ sym (ap (built_memory (length t)) p.0))
          (rw p.0 (ap (λ (n : ℕ). rows t' n) (length_rows t' 0 u)))
      over_built (Err why) t' g x =
          let f : replicate (length t') 0 ≡ replicate (length t) 0 = ap (λ (n : ℕ). replicate n 0) (g ∙ long) in
          owed laid (Err why) (replicate (length t') 0) is_laid x.answers (f ∙ sym (clear laid x.answers)) (none laid x.answers)
        where
          clear : (b : Build (Row ℕ)) → refused why ≡ build_answer b → built_memory (length t) b ≡ replicate (length t) 0
          clear (stopped c s k) y = refl
          clear (built ys) y = absurd (no_refusal why (length ys) y)

          none : (b : Build (Row ℕ)) → refused why ≡ build_answer b → rows (replicate (length t') 0) (length (built_rows b)) ≡ built_rows b
          none (stopped c s k) y = refl
          none (built ys) y = absurd (no_refusal why (length ys) y)

  -- ---- a done call begins a trace of calls, with the inserts that its steps ask for; a refused one leaves 0 in use, where a trace begins

  over_comes : (u : ℕ) → over_time_answer t h l bytes ends names name_bytes ≡ answer 0 (u ∷ [])
      → (u ≡ length (over_time_rows t h l bytes ends names name_bytes))
      × (length (names_of bytes ends names) ≤ 4096) × Comes (length (names_of bytes ends names)) (room_of t) (inserts_asked (names_of bytes ends names) (metadata_of h l)) (over_time_rows t h l bytes ends names name_bytes)
  unfolding over_time_answer over_time_rows over_time_build build_answer built_rows
  over_comes u =
      go (build_fits (table_fits (length t) 0) h (lengths_of l) l.mappings (length bytes) (length ends) names name_bytes) refl (wellFormedNames bytes ends names name_bytes)
      (over_time (room_of t) (names_of bytes ends names) (metadata_of h l)) refl
    where
      go : (f : Bool) → build_fits (table_fits (length t) 0) h (lengths_of l) l.mappings (length bytes) (length ends) names name_bytes ≡ f → (w : Bool) (b : Build (Row ℕ))
          → over_time (room_of t) (names_of bytes ends names) (metadata_of h l) ≡ b
          → build_answer (cond f (cond w b (stopped 14 0 0)) (stopped 15 0 0)) ≡ answer 0 (u ∷ [])
          → (u ≡ length (built_rows (cond f (cond w b (stopped 14 0 0)) (stopped 15 0 0))))
          × (length (names_of bytes ends names) ≤ 4096) × Comes (length (names_of bytes ends names)) (room_of t) (inserts_asked (names_of bytes ends names) (metadata_of h l)) (built_rows (cond f (cond w b (stopped 14 0 0)) (stopped 15 0 0)))
      go false y w b z e = absurd (let q : ◌≡◌ {A = ℕ} 15 0 = cc in omega arith)
      go true y false b z e = absurd (let q : ◌≡◌ {A = ℕ} 14 0 = cc in omega arith)
      go true y true (stopped c s k) z e = absurd (let q : ◌≡◌ {A = ℕ} 0 1 = cc in omega arith)
      go true y true (built ys) z e =
          let p = fits_facts (table_fits (length t) 0) h (lengths_of l) l.mappings (length bytes) (length ends) names name_bytes y in
          let m = memory (length bytes) (length ends) names name_bytes p.2 in
          let a : names ≤ length ends = m.held in
          let b : length ends ≤ 4096 = m.few in
          let n : length (names_of bytes ends names) ≡ names = names_length bytes ends names in
          let d : length t / 24 ≤ 65536 = (table_lent (length t) 0 p.0).limit in
          let q : length ys ≡ u = cc in
          (sym q, omega arith, built_history (room_of t) (names_of bytes ends names) (omega arith) d (metadata_of h l) ys z)

  written : (u : ℕ) (b : Build (Row ℕ)) → build_answer b ≡ answer 0 (u ∷ []) → built_memory (length t) b ≡ rows_written (replicate (length t) 0) 0 (built_rows b)
  unfolding build_answer built_memory built_rows
  written u (stopped c s k) e = absurd (let z : ◌≡◌ {A = ℕ} 0 1 = cc in omega arith)
  written u (built ys) e = refl

  -- the intervals that a done call answers are read back from the bytes that it leaves
  pub over_read : (u : ℕ) → over_time_answer t h l bytes ends names name_bytes ≡ answer 0 (u ∷ [])
      → rows (over_time_memory t h l bytes ends names name_bytes) u ≡ over_time_rows t h l bytes ends names name_bytes
  unfolding over_time_answer over_time_memory over_time_rows
  over_read u e =
      let p = over_comes u e in
      let texts = names_of bytes ends names in
      let ys = over_time_rows t h l bytes ends names name_bytes in
      let asked = inserts_asked texts (metadata_of h l) in
      let f = comes_fit (length texts) (room_of t) p.1 asked ys p.2 (asked_bounded texts (metadata_of h l)) in
      ap (rows (over_time_memory t h l bytes ends names name_bytes)) p.0
      ∙ ap (λ (x : List ℕ). rows x (length ys)) (written u (over_time_build t h l bytes ends names name_bytes) e)
      ∙ rows_written_lem (replicate (length t) 0) 0 ys f

  pub over_traced : (u : ℕ) (t' : List ℕ) → over_time_answer t h l bytes ends names name_bytes ≡ answer 0 (u ∷ [])
      → t' ≡ over_time_memory t h l bytes ends names name_bytes → Trace (inserts_asked (names_of bytes ends names) (metadata_of h l)) t' u
  over_traced u t' e m =
      let p = over_comes u e in
      let asked = inserts_asked (names_of bytes ends names) (metadata_of h l) in
      let texts = length (names_of bytes ends names) in
      build texts (room_of t) asked t' u
      (subst (Comes texts (room_of t) asked) (sym (ap (λ (x : List ℕ). rows x u) m ∙ over_read u e)) p.2)

-- what one mapping comes to
pub ruleset mapping_lays = (mapping_stops, mapping_laid)
