-- Both kinds of table keep the laws of a kind. Assumes nothing.
use Rattle.std.specs.Prelude.{◌≡◌, refl, ℕ, ◌*◌, ◌≤◌, ◌<◌, true, false, List, length, T, Some, None, Ok, Err}
use Rattle.theory.specs.Answer.{Answer}
use Rattle.map_rules.specs.Table.{Ordered, if_room, insert_rows}
use Rattle.map_rules.specs.Memory.{same_value, width, rows, room_of, check_answer, Gives}
use Rattle.map_point.specs.Entries.{entries}
use Rattle.map_point.specs.Points.{rising, points_checked}
use Rattle.map_point.specs.PointsSteps.{Stores}
use Rattle.map_plan.specs.Wanted.{number_in}
use Rattle.map_plan.specs.declared.planning.Store.{Store}
use Rattle.map_record.specs.Mapping.{mapping_row}
use Rattle.map_record.specs.MappingLaws.{insertable, settable, inserts_nothing, inserts_refused, inserts_row, sets_nothing, sets_refused, sets_entry, joined_old, time_refused, time_done, point_refused, point_done}
use Rattle.map_record.specs.Kinds.{LeftOverTime, LeftAtPoint, Readies, PlanRefuses, PlanEnds, StoreRefuses, StoreEnds}

-- ---- over time

abbrev pub Insertable : List ℕ → ℕ → Store → Type 0
Insertable t used x = (length t ≡ room_of t * width) × (used ≤ room_of t) × (x.start < x.end) × Ordered (rows t used)

abbrev pub Inserts : List ℕ → ℕ → Store → Answer → List ℕ → Type 0
Inserts t used x a t' = Gives (if_room (room_of t) (insert_rows same_value (mapping_row x.instrument x.start x.end (number_in x.naming)) (rows t used))) t used a t'

pub time_readies : Readies true check_answer Insertable Inserts LeftOverTime
time_readies t used names x d f = let i = insertable t used names refl d in (i.0, i.1, f refl, i.2)

pub time_plan_refuses : PlanRefuses true check_answer Insertable Inserts LeftOverTime
time_plan_refuses t used s rec r w = time_refused t used s rec (Err r) w refl (inserts_refused t used refl) r refl

pub time_plan_ends : PlanEnds true check_answer Insertable Inserts LeftOverTime
time_plan_ends t used s rec w = time_done t used s rec (Ok None) w refl (inserts_nothing t used refl) used refl (joined_old s _)

pub time_store_refuses : StoreRefuses true check_answer Insertable Inserts LeftOverTime
time_store_refuses t used s rec x r t' w g = time_refused t used s rec (Ok (Some x)) w refl (inserts_row t used {x = x} refl g) r refl

pub time_store_ends : StoreEnds true check_answer Insertable Inserts LeftOverTime
time_store_ends t used s rec x then t' s' w g j = time_done t used s rec (Ok (Some x)) w refl (inserts_row t used {x = x} refl g) then refl j

-- ---- at a point in time

abbrev pub Settable : List ℕ → ℕ → Store → Type 0
Settable t used x = (used * 8 ≤ length t) × T (rising (entries t used))

abbrev pub Sets : List ℕ → ℕ → Store → Answer → List ℕ → Type 0
Sets t used x a t' = Stores t used (record { instrument = x.instrument; symbol = number_in x.naming }) a t'

pub point_readies : Readies false points_checked Settable Sets LeftAtPoint
point_readies t used names x d f = settable t used names refl d

pub point_plan_refuses : PlanRefuses false points_checked Settable Sets LeftAtPoint
point_plan_refuses t used s rec r w = point_refused t used s rec (Err r) w refl (sets_refused t used refl) r refl

pub point_plan_ends : PlanEnds false points_checked Settable Sets LeftAtPoint
point_plan_ends t used s rec w = point_done t used s rec (Ok None) w refl (sets_nothing t used refl) used refl (joined_old s _)

pub point_store_refuses : StoreRefuses false points_checked Settable Sets LeftAtPoint
point_store_refuses t used s rec x r t' w g = point_refused t used s rec (Ok (Some x)) w refl (sets_entry t used {x = x} refl g) r refl

pub point_store_ends : StoreEnds false points_checked Settable Sets LeftAtPoint
point_store_ends t used s rec x then t' s' w g j = point_done t used s rec (Ok (Some x)) w refl (sets_entry t used {x = x} refl g) then refl j
