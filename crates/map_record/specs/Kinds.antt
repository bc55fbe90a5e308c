-- What the mapping call's steps come to on a kind of table, by what its check answers and what a call leaves.
use Rattle.std.specs.Prelude.{◌≡◌, ℕ, ◌<◌, Bool, true, List, [], ◌∷◌, Option, Some, None, Result, Ok, Err}
use Rattle.theory.specs.Answer.{Answer, answer}
use Rattle.leaves.specs.Refusal.{refused}
use Rattle.leaves.specs.declared.refusal.Refusal.{Refusal}
use Rattle.leaves.specs.Frame.{mapped_in, name_in}
use Rattle.leaves_names.specs.declared.names.NameRoom.{NameRoom}
use Rattle.map_plan.specs.Wanted.{wanted, judged_by, plan_of, is_new}
use Rattle.map_plan.specs.declared.planning.Store.{Store}
use Rattle.map_record.specs.Mapping.{time_joins, point_joins, TimeLeaves, PointLeaves, Joins}

-- what a call leaves of a table over time, and of a point-in-time table: the answer, the table's bytes and the list
abbrev pub LeftOverTime : List ℕ → ℕ → NameRoom → List ℕ → Answer → List ℕ → NameRoom → Type 0
LeftOverTime t used s rec a t' s' =
    TimeLeaves t used s.bytes.now s.ends.now s.names s.name_bytes rec a t' s'.bytes.now s'.ends.now × Joins (time_joins t used s rec) s (name_in rec) s'

abbrev pub LeftAtPoint : List ℕ → ℕ → NameRoom → List ℕ → Answer → List ℕ → NameRoom → Type 0
LeftAtPoint t used s rec a t' s' =
    PointLeaves t used s.bytes.now s.ends.now s.names s.name_bytes rec a t' s'.bytes.now s'.ends.now × Joins (point_joins t used s rec) s (name_in rec) s'

-- a kind of table: whether both times count, its check's answer, what a store asks and leaves, and what a call leaves
module _ (over_time : Bool) (checks : List ℕ → ℕ → ℕ → Answer) (Ready : List ℕ → ℕ → Store → Type 0) (Stores : List ℕ → ℕ → Store → Answer → List ℕ → Type 0)
    (Left : List ℕ → ℕ → NameRoom → List ℕ → Answer → List ℕ → NameRoom → Type 0) where
  -- what a call comes to, where the check answered so
  abbrev pub Planned : List ℕ → ℕ → NameRoom → List ℕ → Result (Option Store) Refusal → Type 0
  Planned t used s rec p =
      plan_of p ≡ judged_by (checks t used s.names) s.bytes.now s.ends.now s.names s.name_bytes
      (wanted over_time s.bytes.now s.ends.now s.names s.name_bytes (name_in rec) (mapped_in rec))

  -- a table that passed its check is as a store asks
  abbrev pub Readies : Type 0
  Readies = (t : List ℕ) (used names : ℕ) (x : Store) → checks t used names ≡ answer 0 [] → (over_time ≡ true → x.start < x.end) → Ready t used x

  -- a plan that refuses, and one that stores nothing
  abbrev pub PlanRefuses : Type 0
  PlanRefuses = (t : List ℕ) (used : ℕ) (s : NameRoom) (rec : List ℕ) (r : Refusal) → Planned t used s rec (Err r) → Left t used s rec (refused r) t s

  abbrev pub PlanEnds : Type 0
  PlanEnds = (t : List ℕ) (used : ℕ) (s : NameRoom) (rec : List ℕ) → Planned t used s rec (Ok None) → Left t used s rec (answer 0 (used ∷ s.names ∷ s.name_bytes ∷ [])) t s

  -- a store that refuses, and one that is done, after which the name joins
  abbrev pub StoreRefuses : Type 0
  StoreRefuses = (t : List ℕ) (used : ℕ) (s : NameRoom) (rec : List ℕ) (x : Store) (r : Refusal) (t' : List ℕ) → Planned t used s rec (Ok (Some x)) → Stores t used x (refused r) t'
      → Left t used s rec (refused r) t' s

  abbrev pub StoreEnds : Type 0
  StoreEnds = (t : List ℕ) (used : ℕ) (s : NameRoom) (rec : List ℕ) (x : Store) (then : ℕ) (t' : List ℕ) (s' : NameRoom) → Planned t used s rec (Ok (Some x))
      → Stores t used x (answer 0 (then ∷ [])) t' → Joins (is_new x.naming) s (name_in rec) s'
      → Left t used s rec (answer 0 (then ∷ s'.names ∷ s'.name_bytes ∷ [])) t' s'
