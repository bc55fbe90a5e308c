-- What the steps of the mapping call show. Assumes nothing.
use Rattle.std.proofs.Math.Path.{◌≡◌, refl, ap}
use Rattle.std.proofs.Common.{sym, ◌∙◌, arith}
use Rattle.std.specs.Prelude.{ℕ, ◌*◌, ◌≤◌, Bool, ◌&&◌, cond, T, Option, Some, None, Result, Ok, Err}
use Rattle.std.proofs.Math.Bool.{true, false}
use mathlib.Core.List.{List, [], ◌∷◌}
use Rattle.std.proofs.Math.ListN.{length}
use Rattle.theory.specs.Bools.{and_left}
use Rattle.theory.specs.Answer.{Answer, answer}
use Rattle.leaves.specs.Refusal.{refused, number_of}
use Rattle.leaves.specs.declared.refusal.Refusal.{Refusal}
use Rattle.leaves.specs.declared.refusal.Refusal.TheVariants.{NoRoom}
use Rattle.leaves.specs.Frame.{mapped_in, name_in}
use Rattle.leaves.specs.RefusalLaws.{refused_not_done}
use Rattle.map_rules.specs.Table.{Row, Outcome, refused_by, stored, now_stored, Ordered, names_fit, well_formed as wellFormedRows, if_room, insert_rows}
use Rattle.map_rules.specs.Memory.{same_value, known_value, width, rows, room_of, table_fits, check_answer, rows_written, memory_after, outcome_answer, used_after, Gives}
use Rattle.map_rules.specs.MemoryLaws.{length_rows}
use Rattle.map_rules.specs.Outcomes.{check_passed, passed_table}
use Rattle.map_point.specs.declared.entries.Entry.{Entry}
use Rattle.map_point.specs.Entries.{entries, put_entries}
use Rattle.map_point.specs.EntriesLaws.{length_entries}
use Rattle.map_point.specs.Points.{rising, all_known, well_formed, set_entry, points_fit, points_checked, has_room, stored_answer, stored_bytes, used_then, entries_then}
use Rattle.map_point.specs.PointsReads.{fit_bytes}
use Rattle.map_point.specs.PointsSteps.{Stores}
use Rattle.map_plan.specs.Wanted.{wanted, judged_by, plan_of, numbered, stores, is_new, number_in}
use Rattle.map_plan.specs.WantedLaws.{judged_same}
use Rattle.map_plan.specs.declared.planning.Store.{Store}
use Rattle.leaves_names.specs.Room.{Added}
use Rattle.leaves_names.specs.declared.names.NameRoom.{NameRoom}
use Rattle.leaves_names.specs.declared.names.Naming.{Naming}
use Rattle.leaves_names.specs.declared.names.Naming.TheVariants.{Old, New}
use Rattle.map_record.specs.Mapping.{time_judged, point_judged, Comes, refusing, holding, mapping_row, time_outcome, outcome_comes, time_comes, point_outcome, point_comes, bytes_then, ends_then, left_by, time_left, point_left, joins_by, time_joins, point_joins, Joins, Leaves, TimeLeaves, PointLeaves, Keeps}

-- ---- a plan that stores has been tested for what its table needs

-- a check that is done
check_done : (fits known well : Bool) → cond (fits && known) (cond well (answer 0 []) (answer 14 [])) (answer 15 []) ≡ answer 0 [] → (fits ≡ true) × (well ≡ true)
check_done true true true e = (refl, refl)
check_done true true false e = let z : ◌≡◌ {A = ℕ} 14 0 = cc in absurd (omega arith)
check_done true false well e = let z : ◌≡◌ {A = ℕ} 15 0 = cc in absurd (omega arith)
check_done false known well e = let z : ◌≡◌ {A = ℕ} 15 0 = cc in absurd (omega arith)

pub insertable : (t : List ℕ) (used names : ℕ) {checked : Answer} → checked ≡ check_answer t used names → checked ≡ answer 0 []
    → (length t ≡ room_of t * width) × (used ≤ room_of t) × Ordered (rows t used)
insertable t used names q d = passed_table t used names (check_passed t used names (sym d ∙ q))

formed_rising : (names : ℕ) (xs : List Entry) → well_formed names xs ≡ true → T (rising xs)
unfolding well_formed
formed_rising names xs e = rw (and_left (rising xs) (all_known names xs) e) tt

pub settable : (t : List ℕ) (used names : ℕ) {checked : Answer} → checked ≡ points_checked t used names → checked ≡ answer 0 [] → (used * 8 ≤ length t) × T (rising (entries t used))
unfolding points_checked
settable t used names q d =
    let w = check_done (points_fit (length t) used) (names_fit names) (well_formed names (entries t used)) (sym q ∙ d) in
    (fit_bytes (length t) used w.0, formed_rising names (entries t used) w.1)

-- ---- the table's own step

-- what is stored, by its name's number
named_as : (i s e : ℕ) (x : Naming) → numbered i s e (Ok x) ≡ stores i s e (number_in x) (is_new x)
named_as i s e (Old n) = refl
named_as i s e (New n) = refl

abbrev Plan : Type 0
Plan = Result (Option Store) Refusal

not_refused : {A : Type 0} (r : Refusal) (vs : List ℕ) → refused r ≡ answer 0 vs → A
not_refused r vs h = let z : number_of r ≡ 0 = cc in absurd (refused_not_done r z)

module _ {X : Type 0} (read : List ℕ → ℕ → List X) {comes : Comes X} {new : Bool} {t : List ℕ} where
  keeps_refused : (r : Refusal) {a : Answer} {t' : List ℕ} → a ≡ refused r → comes ≡ refusing (refused r) → t' ≡ t → Keeps read comes new t a t'
  keeps_refused r h c m = record {
    refused_so = λ q e. (c ∙ ap refusing (sym (e ∙ h)), m);
    done_so = λ used e. not_refused r _ (sym (e ∙ h));
  }

  keeps_done : (used : ℕ) {a : Answer} {t' : List ℕ} → a ≡ answer 0 (used ∷ []) → comes ≡ holding (read t' used) t' new → Keeps read comes new t a t'
  keeps_done used {t' = t'} h c = record {
    refused_so = λ q e. not_refused q _ (e ∙ h);
    done_so = λ then e.
        let f : answer 0 (then ∷ []) ≡ answer 0 (used ∷ []) = e ∙ h in
        let g : used ≡ then = cc in
        c ∙ ap (λ (k : ℕ). holding (read t' k) t' new) g;
  }

module _ (t : List ℕ) (used : ℕ) where
  inserted_keeps : (o : Outcome (Row ℕ)) (new : Bool) {a : Answer} {t' : List ℕ} → Gives o t used a t' → Keeps rows (outcome_comes t used new o) new t a t'
  unfolding outcome_answer memory_after used_after now_stored rows_written
  inserted_keeps (refused_by c) new g = record {
    refused_so = λ r e. (ap refusing (sym (e ∙ g.answers)), g.memory);
    done_so = λ then e.
        let f : answer 0 (then ∷ []) ≡ answer c [] = e ∙ g.answers in
        let z : ◌≡◌ {A = ℕ} 0 1 = cc in
        absurd (omega arith);
  }
  inserted_keeps (stored ys) new {t' = t'} g =
      keeps_done rows (length ys) g.answers (λ j. holding (sym g.holds j) (sym g.memory j) new)

  module _ {p : Plan} where
    pub inserts_nothing : p ≡ Ok None → Keeps rows (time_comes t used (plan_of p)) false t (answer 0 (used ∷ [])) t
    unfolding time_comes
    inserts_nothing h = rw h (keeps_done rows used refl refl)

    pub inserts_refused : {r : Refusal} → p ≡ Err r → Keeps rows (time_comes t used (plan_of p)) false t (refused r) t
    unfolding time_comes
    inserts_refused {r} h = rw h (keeps_refused rows r refl refl refl)

    pub inserts_row : {x : Store} {a : Answer} {t' : List ℕ} → p ≡ Ok (Some x)
        → Gives (if_room (room_of t) (insert_rows same_value (mapping_row x.instrument x.start x.end (number_in x.naming)) (rows t used))) t used a t'
        → Keeps rows (time_comes t used (plan_of p)) (is_new x.naming) t a t'
    unfolding time_comes time_outcome
    inserts_row {x} h g = rw (h, named_as x.instrument x.start x.end x.naming) (inserted_keeps _ (is_new x.naming) g)

  set_keeps : (room : Bool) (out : List Entry) (new : Bool) {a : Answer} {t' : List ℕ} → a ≡ cond room (answer 0 (length out ∷ [])) (refused NoRoom)
      → t' ≡ cond room (put_entries t 0 out) t → entries t' (cond room (length out) used) ≡ cond room out (entries t used)
      → Keeps entries (cond room (holding out (put_entries t 0 out) new) (refusing (refused NoRoom))) new t a t'
  set_keeps true out new h m r = keeps_done entries (length out) h (λ j. holding (sym r j) (sym m j) new)
  set_keeps false out new h m r = keeps_refused entries NoRoom h refl m

  module _ {p : Plan} where
    pub sets_nothing : p ≡ Ok None → Keeps entries (point_comes t used (plan_of p)) false t (answer 0 (used ∷ [])) t
    unfolding point_comes
    sets_nothing h = rw h (keeps_done entries used refl refl)

    pub sets_refused : {r : Refusal} → p ≡ Err r → Keeps entries (point_comes t used (plan_of p)) false t (refused r) t
    unfolding point_comes
    sets_refused {r} h = rw h (keeps_refused entries r refl refl refl)

    pub sets_entry : {x : Store} {a : Answer} {t' : List ℕ} → p ≡ Ok (Some x)
        → Stores t used (record { instrument = x.instrument; symbol = number_in x.naming }) a t' → Keeps entries (point_comes t used (plan_of p)) (is_new x.naming) t a t'
    unfolding point_comes point_outcome stored_answer stored_bytes used_then entries_then
    sets_entry {x} h st =
        let out = set_entry (record { instrument = x.instrument; symbol = number_in x.naming }) (entries t used) in
        rw (h, named_as x.instrument x.start x.end x.naming) (set_keeps (has_room t out) out (is_new x.naming) st.0 st.1.0 st.1.1)

-- ---- the name joins the list

pub joined_old : (s : NameRoom) (name : List ℕ) → Joins false s name s
unfolding bytes_then ends_then
joined_old s name = record { bytes = refl; ends = refl; names = refl; name_bytes = refl; memory = record { bytes = refl; ends = refl } }

pub joined_new : {s t : NameRoom} {text name : List ℕ} → text ≡ name → Added s text t → Joins true s name t
unfolding bytes_then ends_then
joined_new {s} e a = rw (← e) (record { bytes = a.bytes; ends = a.ends; names = a.names; name_bytes = a.name_bytes; memory = a.memory })

-- ---- what is left

module _ {X : Type 0} (read : List ℕ → ℕ → List X) (t : List ℕ) (used : ℕ) (s : NameRoom) (name : List ℕ) where
  leaves_refused : {comes : Comes X} {a : Answer} {t' : List ℕ} → comes ≡ refusing a → t' ≡ t
      → Leaves read comes (left_by t s.bytes.now s.ends.now s.names s.name_bytes name comes) t used a t' s.bytes.now s.ends.now × Joins (joins_by comes) s name s
  unfolding left_by
  leaves_refused h m = rw (h, m) (record { says = refl; table = refl; bytes = refl; ends = refl; holds = refl }, joined_old s name)

  leaves_done : {comes : Comes X} {new : Bool} {then : ℕ} {t' : List ℕ} {s' : NameRoom} → comes ≡ holding (read t' then) t' new → length (read t' then) ≡ then
      → Joins new s name s'
      → Leaves read comes (left_by t s.bytes.now s.ends.now s.names s.name_bytes name comes) t used (answer 0 (then ∷ s'.names ∷ s'.name_bytes ∷ [])) t' s'.bytes.now s'.ends.now
      × Joins (joins_by comes) s name s'
  unfolding left_by
  leaves_done {new = new} {t' = t'} {s' = s'} h l j =
      rw h (
        record {
          says = (λ i. answer 0 (sym l i ∷ j.names i ∷ j.name_bytes i ∷ []));
          table = refl;
          bytes = j.bytes;
          ends = j.ends;
          holds = ap (read t') l;
        },
        j,
      )

module _ (t : List ℕ) (used : ℕ) (s : NameRoom) (rec : List ℕ) (p : Plan) {checked : Answer} where
  module _ (w : plan_of p ≡ judged_by checked s.bytes.now s.ends.now s.names s.name_bytes (wanted true s.bytes.now s.ends.now s.names s.name_bytes (name_in rec) (mapped_in rec)))
      (q : checked ≡ check_answer t used s.names) {new : Bool} {a : Answer} {t' : List ℕ} (k : Keeps rows (time_comes t used (plan_of p)) new t a t') where
    time_comes_lem : time_comes t used (time_judged t used s.bytes.now s.ends.now s.names s.name_bytes rec) ≡ time_comes t used (plan_of p)
    unfolding check_answer time_judged
    time_comes_lem =
        ap (time_comes t used) (sym (w
        ∙ ap (λ (c : Answer). judged_by c s.bytes.now s.ends.now s.names s.name_bytes (wanted true s.bytes.now s.ends.now s.names s.name_bytes (name_in rec) (mapped_in rec))) q
        ∙ judged_same (table_fits (length t) used) (wellFormedRows same_value known_value s.names (rows t used)) s.bytes.now s.ends.now s.names s.name_bytes _))

    pub time_refused : (r : Refusal) → refused r ≡ a
        → TimeLeaves t used s.bytes.now s.ends.now s.names s.name_bytes rec (refused r) t' s.bytes.now s.ends.now × Joins (time_joins t used s rec) s (name_in rec) s
    unfolding time_left
    time_refused r h = let f = k.refused_so r h in leaves_refused rows t used s (name_in rec) (time_comes_lem ∙ f.0) f.1

    pub time_done : (then : ℕ) → answer 0 (then ∷ []) ≡ a → {s' : NameRoom} → Joins new s (name_in rec) s'
        → TimeLeaves t used s.bytes.now s.ends.now s.names s.name_bytes rec (answer 0 (then ∷ s'.names ∷ s'.name_bytes ∷ [])) t' s'.bytes.now s'.ends.now
        × Joins (time_joins t used s rec) s (name_in rec) s'
    unfolding time_left
    time_done then h j = leaves_done rows t used s (name_in rec) (time_comes_lem ∙ k.done_so then h) (length_rows t' 0 then) j

  module _ (w : plan_of p ≡ judged_by checked s.bytes.now s.ends.now s.names s.name_bytes (wanted false s.bytes.now s.ends.now s.names s.name_bytes (name_in rec) (mapped_in rec)))
      (q : checked ≡ points_checked t used s.names) {new : Bool} {a : Answer} {t' : List ℕ} (k : Keeps entries (point_comes t used (plan_of p)) new t a t') where
    point_comes_lem : point_comes t used (point_judged t used s.bytes.now s.ends.now s.names s.name_bytes rec) ≡ point_comes t used (plan_of p)
    unfolding points_checked point_judged
    point_comes_lem =
        ap (point_comes t used) (sym (w
        ∙ ap (λ (c : Answer). judged_by c s.bytes.now s.ends.now s.names s.name_bytes (wanted false s.bytes.now s.ends.now s.names s.name_bytes (name_in rec) (mapped_in rec))) q
        ∙ judged_same (points_fit (length t) used) (well_formed s.names (entries t used)) s.bytes.now s.ends.now s.names s.name_bytes _))

    pub point_refused : (r : Refusal) → refused r ≡ a
        → PointLeaves t used s.bytes.now s.ends.now s.names s.name_bytes rec (refused r) t' s.bytes.now s.ends.now × Joins (point_joins t used s rec) s (name_in rec) s
    unfolding point_left
    point_refused r h = let f = k.refused_so r h in leaves_refused entries t used s (name_in rec) (point_comes_lem ∙ f.0) f.1

    pub point_done : (then : ℕ) → answer 0 (then ∷ []) ≡ a → {s' : NameRoom} → Joins new s (name_in rec) s'
        → PointLeaves t used s.bytes.now s.ends.now s.names s.name_bytes rec (answer 0 (then ∷ s'.names ∷ s'.name_bytes ∷ [])) t' s'.bytes.now s'.ends.now
        × Joins (point_joins t used s rec) s (name_in rec) s'
    unfolding point_left
    point_done then h j = leaves_done entries t used s (name_in rec) (point_comes_lem ∙ k.done_so then h) (length_entries t' 0 then) j
