-- A mapping call that stores is an insert of the trace of calls, with the name's number and the names known once it has joined;
-- any other leaves the table as it was. Assumes nothing.
use Rattle.std.specs.Prelude.{◌≡◌, ◌≢◌, ℕ, ◌+◌, ◌%◌, ◌≤◌, ◌<◌, Bool, true, false, ◌&&◌, cond, length, ltb, eqb, Result, Ok, Err}
use Rattle.std.proofs.Math.Path.{refl, ap, subst}
use Rattle.std.proofs.Common.{sym, ◌∙◌, arith, lt→ltb, lt-ltb, le-ltb, le-leb, ltb-true, ltb-false, ne_eqb}
use mathlib.Core.List.{List, [], ◌∷◌}
use Rattle.std.proofs.Math.Dec.{T, eqb_refl}
use Rattle.std.proofs.lemmas.Bool.{eqb-false}
use Rattle.std.proofs.Math.Facts.{ltb_yes}
use Rattle.theory.specs.Answer.{Answer}
use Rattle.theory.specs.Bools.{and_left, and_right, true_T, T_true}
use Rattle.theory.specs.RunsTools.{cond_case, cond_yes, T_and, T_fst, T_snd}
use Rattle.leaves.specs.Refusal.{refused}
use Rattle.leaves.specs.declared.refusal.Refusal.{Refusal}
use Rattle.leaves.specs.declared.refusal.Refusal.TheVariants.{Reversed, BadName, NoNameRoom, IllFormed, BadMemory}
use Rattle.leaves.specs.Frame.{Mapped, other, symbol, not_one, mapped_in, name_in}
use Rattle.leaves_names.specs.Names.{list_fits, well_formed as wellFormedNames, is_name, names_of, least, numbering, naming, has_room}
use Rattle.leaves_names.specs.NamesLaws.{Memory, memory}
use Rattle.leaves_names.specs.NamingLaws.{room}
use Rattle.leaves_names.specs.declared.names.Naming.{Naming}
use Rattle.leaves_names.specs.declared.names.Naming.TheVariants.{Old, New}
use Rattle.map_rules.specs.Table.{Row, Outcome, refused_by, stored, now_stored, room_fits, names_fit, well_formed, ordered, all_known, entered, inserted}
use Rattle.map_rules.specs.Memory.{width, same_value, known_value, rows, room_of, table_fits, insert_outcome, rows_written, memory_after, outcome_answer, used_after, Gives}
use Rattle.map_rules.specs.MemoryLaws.{length_rows}
use Rattle.map_rules.specs.Outcomes.{Lent, table_lent}
use Rattle.map_rules.specs.Trace.{used_told, done_told, Trace, insert}
use Rattle.map_point.specs.declared.entries.Entry.{Entry}
use Rattle.map_point.specs.Entries.{entries}
use Rattle.map_point.specs.Points as points
use Rattle.map_point.specs.Points.{rising, set_entry, points_fit}
use Rattle.map_point.specs.PointsLaws.{set_rising, set_known}
use Rattle.map_plan.specs.Wanted.{Wanted, nothing, refuses, stores, numbering_in, numbered, wanted, judged}
use Rattle.map_record.specs.Mapping.{time_judged, point_judged, point_outcome, mapping_row, time_outcome, outcome_comes, time_comes, names_then, left_by, time_left, Leaves, TimeLeaves}

-- ---- what a call that stores has passed

-- what naming makes of a name that is new or not
abbrev pub named : Bool → ℕ → Naming
named new n = cond new (New n) (Old n)

-- the table fits and is well-formed, over time the stretch is not empty, the name's number is known once it has joined, and is
-- what naming says
pub record Passed (over_time lent well : Bool) (bytes ends : List ℕ) (names name_bytes : ℕ) (name : List ℕ) (s e n : ℕ) (new : Bool) : Type 0 where
  pub fits : lent ≡ true
  pub formed : well ≡ true
  pub forward : over_time ≡ true → s < e
  pub known : n < names_then new names
  pub few : names_then new names ≤ 4096
  pub naming_is : naming bytes ends names name_bytes name ≡ Ok (named new n)

-- a choice that is not a refusal
chosen : (b : Bool) (w : Wanted) (a : Answer) {i s e n : ℕ} {new : Bool} → cond b w (refuses a) ≡ stores i s e n new → (b ≡ true) × (w ≡ stores i s e n new)
chosen true w a h = (refl, h)
chosen false w a h = let z : ◌≡◌ {A = ℕ} 0 1 = cc in absurd (omega arith)

past : (b : Bool) (a : Answer) (w : Wanted) {i s e n : ℕ} {new : Bool} → cond b (refuses a) w ≡ stores i s e n new → (b ≡ false) × (w ≡ stores i s e n new)
past true a w h = let z : ◌≡◌ {A = ℕ} 0 1 = cc in absurd (omega arith)
past false a w h = (refl, h)

nonempty : (b : Bool) (w : Wanted) {i s e n : ℕ} {new : Bool} → cond b nothing w ≡ stores i s e n new → (b ≡ false) × (w ≡ stores i s e n new)
nonempty true w h = let z : ◌≡◌ {A = ℕ} 0 1 = cc in absurd (omega arith)
nonempty false w h = (refl, h)

-- the number that a valid name gets is known then
numbered_known : (bytes places names name_bytes size number i s e : ℕ) {i' s' e' n : ℕ} {new : Bool} → names ≤ 4096
    → numbered i s e (numbering bytes places names name_bytes size number) ≡ stores i' s' e' n new → (n < names_then new names) × (names_then new names ≤ 4096) × (s ≡ s') × (e ≡ e')
unfolding numbering
numbered_known bytes places names name_bytes size number i s e {i'} {s'} {e'} {n} {new} few h =
    first (ltb number names) refl h
  where
    old : number < names → stores i s e number false ≡ stores i' s' e' n new → (n < names_then new names) × (names_then new names ≤ 4096) × (s ≡ s') × (e ≡ e')
    old l q =
        let a : number ≡ n = cc in
        let b : false ≡ new = cc in
        rw (← b, ← a) (l, few, cc, cc)

    fresh : (b : Bool) → has_room bytes places names name_bytes size ≡ b → numbered i s e (cond b (Ok (New names)) (Err NoNameRoom)) ≡ stores i' s' e' n new
        → (n < names_then new names) × (names_then new names ≤ 4096) × (s ≡ s') × (e ≡ e')
    fresh true r q =
        let a : names ≡ n = cc in
        let b : true ≡ new = cc in
        let m : names + 1 ≤ 4096 = (room bytes places names name_bytes size r).few in
        rw (← b, ← a) (omega arith, m, cc, cc)
    fresh false r q = let z : ◌≡◌ {A = ℕ} 0 1 = cc in absurd (omega arith)

    first : (b : Bool) → ltb number names ≡ b
        → numbered i s e (cond b (Ok (Old number)) (cond (has_room bytes places names name_bytes size) (Ok (New names)) (Err NoNameRoom))) ≡ stores i' s' e' n new
        → (n < names_then new names) × (names_then new names ≤ 4096) × (s ≡ s') × (e ≡ e')
    first true l q = old (ltb-true number names l) q
    first false l q = fresh (has_room bytes places names name_bytes size) refl q

numbered_is : (x : Result Naming Refusal) (i s e : ℕ) {i' s' e' n : ℕ} {new : Bool} → numbered i s e x ≡ stores i' s' e' n new → x ≡ Ok (named new n)
numbered_is (Ok (Old k)) i s e {i'} {s'} {e'} {n} {new} h =
    let a : k ≡ n = cc in
    let b : false ≡ new = cc in
    rw (← b, a) refl
numbered_is (Ok (New k)) i s e {i'} {s'} {e'} {n} {new} h =
    let a : k ≡ n = cc in
    let b : true ≡ new = cc in
    rw (← b, a) refl
numbered_is (Err r) i s e h = let z : ◌≡◌ {A = ℕ} 0 1 = cc in absurd (omega arith)

-- in a well-formed list in lent memory, a valid name is named so
named_so : (bytes ends : List ℕ) (names name_bytes : ℕ) (name : List ℕ) → list_fits (length bytes) (length ends) names name_bytes ≡ true → wellFormedNames bytes ends names name_bytes ≡ true
    → is_name name ≡ true → naming bytes ends names name_bytes name ≡ numbering_in bytes ends names name_bytes name
unfolding naming numbering_in
named_so bytes ends names name_bytes name m w v = rw (m, w, v) refl

wanted_known : (over_time : Bool) (bytes ends : List ℕ) (names name_bytes : ℕ) (name : List ℕ) (m : Mapped) {i s e n : ℕ} {new : Bool} → names ≤ 4096
    → wanted over_time bytes ends names name_bytes name m ≡ stores i s e n new
    → (over_time ≡ true → s < e) × (n < names_then new names) × (names_then new names ≤ 4096) × (is_name name ≡ true) × (numbering_in bytes ends names name_bytes name ≡ Ok (named new n))
unfolding wanted numbering_in
wanted_known over_time bytes ends names name_bytes name other few h = let z : ◌≡◌ {A = ℕ} 0 1 = cc in absurd (omega arith)
wanted_known over_time bytes ends names name_bytes name (not_one reason) few h = let z : ◌≡◌ {A = ℕ} 0 1 = cc in absurd (omega arith)
wanted_known over_time bytes ends names name_bytes name (symbol j a b) {s = s} {e = e} few h =
    let number = numbered j a b (numbering_in bytes ends names name_bytes name) in
    let rest = cond (over_time && eqb a b) nothing number in
    let p = chosen (is_name name) (cond (over_time && ltb b a) (refuses (refused Reversed)) rest) (refused BadName) h in
    let q = past (over_time && ltb b a) (refused Reversed) rest p.1 in
    let r = nonempty (over_time && eqb a b) number q.1 in
    let k = numbered_known (length bytes) (length ends) names name_bytes (length name) _ j a b few r.1 in
    let forward : over_time ≡ true → s < e = λ o.
    let le : a ≤ b = ltb-false b a (rw o at q.0) in
    let ne : a ≢ b = eqb-false a b (rw o at r.0) in
    omega (arith, k.2, k.3)
    in
    (forward, k.0, k.1, p.0, numbered_is (numbering_in bytes ends names name_bytes name) j a b r.1)

-- a call that stores has passed every test
pub passed : (over_time fits well : Bool) (bytes ends : List ℕ) (names name_bytes : ℕ) (name : List ℕ) (m : Mapped) {i s e n : ℕ} {new : Bool}
    → judged fits well bytes ends names name_bytes (wanted over_time bytes ends names name_bytes name m) ≡ stores i s e n new
    → Passed over_time fits well bytes ends names name_bytes name s e n new
unfolding judged
passed over_time fits well bytes ends names name_bytes name m h =
    let w = wanted over_time bytes ends names name_bytes name m in
    let lent = list_fits (length bytes) (length ends) names name_bytes in
    let list_ok = wellFormedNames bytes ends names name_bytes in
    let p = chosen (fits && lent) (cond (well && list_ok) w (refuses (refused IllFormed))) (refused BadMemory) h in
    let q = chosen (well && list_ok) w (refused IllFormed) p.1 in
    let l : Memory (length bytes) (length ends) names name_bytes = memory _ _ _ _ (and_right fits lent p.0) in
    let k = wanted_known over_time bytes ends names name_bytes name m (omega (arith, l.held, l.few)) q.1 in
    record {
      fits = and_left fits lent p.0;
      formed = and_left well list_ok q.0;
      forward = k.0;
      known = k.1;
      few = k.2;
      naming_is = named_so bytes ends names name_bytes name (and_right fits lent p.0) (and_right well list_ok q.0) k.3 ∙ k.4;
    }

-- of a call on a table over time, and on a point-in-time table
abbrev pub TimePassed : List ℕ → ℕ → List ℕ → List ℕ → ℕ → ℕ → List ℕ → ℕ → ℕ → ℕ → Bool → Type 0
TimePassed t used bytes ends names name_bytes rec s e n new =
    Passed true (table_fits (length t) used) (well_formed same_value known_value names (rows t used)) bytes ends names name_bytes (name_in rec) s e n new

pub time_passed : (t : List ℕ) (used : ℕ) (bytes ends : List ℕ) (names name_bytes : ℕ) (rec : List ℕ) {i s e n : ℕ} {new : Bool}
    → time_judged t used bytes ends names name_bytes rec ≡ stores i s e n new → TimePassed t used bytes ends names name_bytes rec s e n new
unfolding time_judged
time_passed t used bytes ends names name_bytes rec h = passed true _ _ bytes ends names name_bytes (name_in rec) (mapped_in rec) h

abbrev pub PointPassed : List ℕ → ℕ → List ℕ → List ℕ → ℕ → ℕ → List ℕ → ℕ → ℕ → ℕ → Bool → Type 0
PointPassed t used bytes ends names name_bytes rec s e n new =
    Passed false (points_fit (length t) used) (points.well_formed names (entries t used)) bytes ends names name_bytes (name_in rec) s e n new

pub point_passed : (t : List ℕ) (used : ℕ) (bytes ends : List ℕ) (names name_bytes : ℕ) (rec : List ℕ) {i s e n : ℕ} {new : Bool}
    → point_judged t used bytes ends names name_bytes rec ≡ stores i s e n new → PointPassed t used bytes ends names name_bytes rec s e n new
unfolding point_judged
point_passed t used bytes ends names name_bytes rec h = passed false _ _ bytes ends names name_bytes (name_in rec) (mapped_in rec) h

-- ---- and is an insert

known_more : (names more : ℕ) (xs : List (Row ℕ)) → names ≤ more → T (all_known (known_value names) xs) → T (all_known (known_value more) xs)
unfolding all_known
known_more names more [] h k = tt
known_more names more (x ∷ xs) h k =
    let l : x.value < names = ltb_yes (T_fst (ltb x.value names) (all_known (known_value names) xs) k) in
    T_and (ltb x.value more) (all_known (known_value more) xs) (lt→ltb x.value more (omega arith))
    (known_more names more xs h (T_snd (ltb x.value names) (all_known (known_value names) xs) k))

formed_more : (names more : ℕ) (xs : List (Row ℕ)) → names ≤ more → well_formed same_value known_value names xs ≡ true → well_formed same_value known_value more xs ≡ true
unfolding well_formed
formed_more names more xs h e =
    let o = ordered same_value xs in
    let t : T (o && all_known (known_value names) xs) = true_T _ e in
    T_true (o && all_known (known_value more) xs)
    (T_and o (all_known (known_value more) xs) (T_fst o (all_known (known_value names) xs) t) (known_more names more xs h (T_snd o (all_known (known_value names) xs) t)))

names_more : (new : Bool) (names : ℕ) → names ≤ names_then new names
names_more true names = omega arith
names_more false names = omega arith

pub stores_insert : (t : List ℕ) (used : ℕ) (bytes ends : List ℕ) (names name_bytes : ℕ) (rec : List ℕ) (i s e n : ℕ) (new : Bool) → TimePassed t used bytes ends names name_bytes rec s e n new
    → inserted same_value known_value (names_then new names) (room_of t) (mapping_row i s e n) (rows t used) ≡ time_outcome t used i s e n
unfolding inserted entered room_fits names_fit time_outcome
stores_insert t used bytes ends names name_bytes rec i s e n new p =
    let l : Lent (length t) used = table_lent (length t) used p.fits in
    let f : s < e = p.forward refl in
    let ne : s ≢ e = omega (arith, f) in
    rw (
      length_rows t 0 used,
      le-leb (room_of t) 65536 l.limit,
      le-leb used (room_of t) l.in_use,
      le-leb (names_then new names) 4096 p.few,
      formed_more names (names_then new names) (rows t used) (names_more new names) p.formed,
      le-ltb e s (omega (arith, f)),
      ne_eqb s e ne,
      lt-ltb n (names_then new names) p.known,
    )
    refl

-- ---- a mapping call is a step of the trace of calls

-- the inserts that were done once a mapping call has answered: a symbol's row, where it was stored
unfoldable pub mapped_told : Wanted → List (Row ℕ) → Answer → List (Row ℕ)
unfolding done_told
mapped_told nothing ns a = ns
mapped_told (refuses r) ns a = ns
mapped_told (stores i s e n new) ns a = done_told (mapping_row i s e n) ns a

-- a refusal tells no number in use
abbrev Refusing : Wanted → Type 0
Refusing nothing = Unit {0}
Refusing (refuses r) = (used : ℕ) → used_told used r ≡ used
Refusing (stores i s e n new) = Unit {0}

never_named : (bytes ends : List ℕ) (names name_bytes : ℕ) (name : List ℕ) (i s e : ℕ) → Refusing (numbered i s e (numbering_in bytes ends names name_bytes name))
unfolding numbering_in numbering used_told
never_named bytes ends names name_bytes name i s e =
    let number = least name (names_of bytes ends names) in
    cond_case (λ (x : Result Naming Refusal). Refusing (numbered i s e x)) (ltb number names) _ _ (λ l. tt) (λ l.
    cond_case (λ (x : Result Naming Refusal). Refusing (numbered i s e x)) (has_room (length bytes) (length ends) names name_bytes (length name)) _ _ (λ r. tt) (λ r used. refl))

never_wanted : (bytes ends : List ℕ) (names name_bytes : ℕ) (name : List ℕ) (m : Mapped) → Refusing (wanted true bytes ends names name_bytes name m)
unfolding wanted used_told
never_wanted bytes ends names name_bytes name other = tt
never_wanted bytes ends names name_bytes name (not_one reason) = λ used. refl
never_wanted bytes ends names name_bytes name (symbol i s e) =
    cond_case Refusing (is_name name) _ _ (λ v.
    cond_case Refusing (ltb e s) _ _ (λ h used. refl) (λ h.
    cond_case Refusing (eqb s e) _ _ (λ q. tt) (λ q. never_named bytes ends names name_bytes name i s e))) (λ v used. refl)

refusing : (t : List ℕ) (used : ℕ) (bytes ends : List ℕ) (names name_bytes : ℕ) (rec : List ℕ) → Refusing (time_judged t used bytes ends names name_bytes rec)
unfolding time_judged judged used_told
refusing t used bytes ends names name_bytes rec =
    cond_case Refusing (table_fits (length t) used && list_fits (length bytes) (length ends) names name_bytes) _ _ (λ f.
    cond_case Refusing (well_formed same_value known_value names (rows t used) && wellFormedNames bytes ends names name_bytes) _ _
    (λ w. never_wanted bytes ends names name_bytes (name_in rec) (mapped_in rec)) (λ w used'. refl)) (λ f used'. refl)

-- the answers of an insert and of a mapping call with one outcome tell the same
module _ (t : List ℕ) (used : ℕ) (bytes ends : List ℕ) (names name_bytes : ℕ) (name : List ℕ) (new : Bool) where
  abbrev said : Outcome (Row ℕ) → Answer
  said o = (left_by t bytes ends names name_bytes name (outcome_comes t used new o)).says

  same_used : (o : Outcome (Row ℕ)) → used_told used (outcome_answer o) ≡ used_told used (said o)
  unfolding used_told outcome_answer left_by
  same_used (refused_by c) = refl
  same_used (stored ys) = refl

  same_done : (n : Row ℕ) (ns : List (Row ℕ)) (o : Outcome (Row ℕ)) → done_told n ns (outcome_answer o) ≡ done_told n ns (said o)
  unfolding done_told outcome_answer left_by
  same_done n ns (refused_by c) = refl
  same_done n ns (stored ys) = refl

  same_gives : (o : Outcome (Row ℕ)) (a : Answer) (t' b' e' : List ℕ)
      → Leaves rows (outcome_comes t used new o) (left_by t bytes ends names name_bytes name (outcome_comes t used new o)) t used a t' b' e' → Gives o t used (outcome_answer o) t'
  unfolding left_by memory_after used_after rows_written now_stored
  same_gives (refused_by c) a t' b' e' l = record { answers = refl; memory = l.table; holds = l.holds }
  same_gives (stored ys) a t' b' e' l = record { answers = refl; memory = l.table; holds = l.holds }

-- calls, and then a mapping call that answers a and leaves t': where it stores a symbol it is an insert of its row, else nothing changes
module _ {ns : List (Row ℕ)} {t : List ℕ} {used : ℕ} (c : Trace ns t used) (bytes ends : List ℕ) (names name_bytes : ℕ) (rec : List ℕ) where
  abbrev asked : Wanted
  asked = time_judged t used bytes ends names name_bytes rec

  pub mapping_traced : (a : Answer) (t' b' e' : List ℕ) → TimeLeaves t used bytes ends names name_bytes rec a t' b' e' → Trace (mapped_told asked ns a) t' (used_told used a)
  unfolding mapped_told time_left time_comes left_by used_told insert_outcome
  mapping_traced a t' b' e' = go asked refl
    where
      go : (w : Wanted) → asked ≡ w → Leaves rows (time_comes t used w) (left_by t bytes ends names name_bytes (name_in rec) (time_comes t used w)) t used a t' b' e'
          → Trace (mapped_told w ns a) t' (used_told used a)
      go nothing j l = rw (l.says, l.table, length_rows t 0 used) c
      go (refuses q) j l =
          let z : Refusing (refuses q) = rw j at (refusing t used bytes ends names name_bytes rec) in
          rw (l.says, l.table, z used) c
      go (stores i s e n new) j l =
          let p = time_passed t used bytes ends names name_bytes rec j in
          let x = mapping_row i s e n in
          let o = time_outcome t used i s e n in
          let known = names_then new names in
          let even : T (eqb (length t % width) 0) = rw (table_lent (length t) used p.fits).even (eqb_refl 0) in
          let same : insert_outcome t used known x ≡ o = cond_yes (eqb (length t % width) 0) _ _ even ∙ stores_insert t used bytes ends names name_bytes rec i s e n new p in
          let g : Gives (insert_outcome t used known x) t used (outcome_answer o) t' = rw same (same_gives t used bytes ends names name_bytes (name_in rec) new o a t' b' e' l) in
          let d : done_told x ns (outcome_answer o) ≡ done_told x ns a = same_done t used bytes ends names name_bytes (name_in rec) new x ns o ∙ ap (done_told x ns) (sym l.says) in
          let u : used_told used (outcome_answer o) ≡ used_told used a = same_used t used bytes ends names name_bytes (name_in rec) new o ∙ ap (used_told used) (sym l.says) in
          subst (λ (k : ℕ). Trace (done_told x ns a) t' k) u
          (subst (λ (m : List (Row ℕ)). Trace m t' (used_told used (outcome_answer o))) d (insert c known x (outcome_answer o) t' g))

-- ---- on a point-in-time table

entries_more : (names more : ℕ) (xs : List Entry) → names ≤ more → T (points.all_known names xs) → T (points.all_known more xs)
unfolding points.all_known
entries_more names more [] h k = tt
entries_more names more (x ∷ xs) h k =
    let l : x.symbol < names = ltb_yes (T_fst (ltb x.symbol names) (points.all_known names xs) k) in
    T_and (ltb x.symbol more) (points.all_known more xs) (lt→ltb x.symbol more (omega arith))
    (entries_more names more xs h (T_snd (ltb x.symbol names) (points.all_known names xs) k))

-- the entries that it sets are well-formed with the names known then
pub point_formed : (t : List ℕ) (used : ℕ) (bytes ends : List ℕ) (names name_bytes : ℕ) (rec : List ℕ) (i s e n : ℕ) (new : Bool)
    → PointPassed t used bytes ends names name_bytes rec s e n new → points.well_formed (names_then new names) (point_outcome t used i n) ≡ true
unfolding points.well_formed point_outcome
point_formed t used bytes ends names name_bytes rec i s e n new p =
    let xs = entries t used in
    let x : Entry = record { instrument = i; symbol = n } in
    let more = names_then new names in
    let f : T (rising xs && points.all_known names xs) = true_T _ p.formed in
    T_true (rising (set_entry x xs) && points.all_known more (set_entry x xs))
    (T_and (rising (set_entry x xs)) (points.all_known more (set_entry x xs)) (set_rising x xs (T_fst (rising xs) (points.all_known names xs) f))
    (set_known more x xs p.known (entries_more names more xs (names_more new names) (T_snd (rising xs) (points.all_known names xs) f))))
