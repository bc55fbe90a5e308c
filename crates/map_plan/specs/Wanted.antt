-- What a mapping call asks of a name list and a table, before the table's room is judged (RULES, The map over time: "A symbol
-- mapping record inserts"; Merging records: "The mapping call takes a record's bytes").
use Rattle.std.specs.Prelude.{ℕ, zero, suc, ◌+◌, ◌-◌, ◌≤◌, ◌<◌, Bool, true, false, ◌&&◌, cond, List, [], ◌∷◌, length, ltb, eqb, ◌≡◌, Option, Some, None, Result, Ok, Err}
use Rattle.theory.specs.Answer.{Answer, answer}
use Rattle.leaves.specs.Refusal.{refused}
use Rattle.leaves.specs.declared.refusal.Refusal.{Refusal}
use Rattle.leaves.specs.declared.refusal.Refusal.TheVariants.{Reversed, BadName, IllFormed, BadMemory}
use Rattle.leaves.specs.Frame.{Mapped, other, symbol, not_one, name_in}
use Rattle.leaves_names.specs.Names.{is_name, list_fits, names_of, least, numbering, well_formed}
use Rattle.leaves_names.specs.declared.names.Naming.{Naming}
use Rattle.leaves_names.specs.declared.names.Naming.TheVariants.{Old, New}
use Rattle.map_plan.specs.declared.planning.Store.{Store}

-- what a call comes to before the room of the table is judged: it is done and changes nothing; it is refused; or it stores a
-- symbol for an instrument from a start to an end, and the symbol is a name of the list or a new one
pub data Wanted : Type 0 where
  nothing : Wanted
  refuses : Answer → Wanted
  stores : ℕ → ℕ → ℕ → ℕ → Bool → Wanted

-- what becomes of a valid name: "the least number with equal bytes, else the next new one", or 5
unfoldable pub numbering_in : List ℕ → List ℕ → ℕ → ℕ → List ℕ → Result Naming Refusal
numbering_in bytes ends names name_bytes name = numbering (length bytes) (length ends) names name_bytes (length name) (least name (names_of bytes ends names))

-- a symbol stored by its number, or 5
abbrev pub numbered : ℕ → ℕ → ℕ → Result Naming Refusal → Wanted
numbered instrument start end (Ok (Old number)) = stores instrument start end number false
numbered instrument start end (Ok (New number)) = stores instrument start end number true
numbered instrument start end (Err r) = refuses (refused r)

-- what a record asks of a table over time, or at a point in time, which "ignores both times": 13, 4; over time 1, and start = end
-- is done; 5. A missing start is 0 and a missing end the greatest time before they are compared; other kinds are done and change
-- nothing
unfoldable pub wanted : Bool → List ℕ → List ℕ → ℕ → ℕ → List ℕ → Mapped → Wanted
unfolding numbering_in
wanted over_time bytes ends names name_bytes name other = nothing
wanted over_time bytes ends names name_bytes name (not_one reason) = refuses (answer 13 (0 ∷ 0 ∷ reason ∷ []))
wanted over_time bytes ends names name_bytes name (symbol instrument start end) =
    cond (is_name name)
    (cond (over_time && ltb end start) (refuses (refused Reversed))
    (cond (over_time && eqb start end) nothing (numbered instrument start end (numbering_in bytes ends names name_bytes name))))
    (refuses (refused BadName))

-- a call: 15 for all lent memory, 14 for table and list, then what the record asks
unfoldable pub judged : Bool → Bool → List ℕ → List ℕ → ℕ → ℕ → Wanted → Wanted
judged fits formed bytes ends names name_bytes asks =
    cond (fits && list_fits (length bytes) (length ends) names name_bytes)
    (cond (formed && well_formed bytes ends names name_bytes) asks (refuses (refused IllFormed)))
    (refuses (refused BadMemory))

-- the same where the table's own check gives this answer
abbrev pub after_check : Answer → Wanted → Wanted
after_check (answer zero values) w = w
after_check (answer (suc number) values) w = refuses (answer (suc number) values)

unfoldable pub judged_by : Answer → List ℕ → List ℕ → ℕ → ℕ → Wanted → Wanted
judged_by checked bytes ends names name_bytes asks =
    cond (list_fits (length bytes) (length ends) names name_bytes)
    (after_check checked (cond (well_formed bytes ends names name_bytes) asks (refuses (refused IllFormed))))
    (refuses (refused BadMemory))

-- what a plan wants
abbrev pub plan_of : Result (Option Store) Refusal → Wanted
plan_of (Ok None) = nothing
plan_of (Ok (Some x)) = numbered x.instrument x.start x.end (Ok x.naming)
plan_of (Err r) = refuses (refused r)

-- whether a name is new, and its number
abbrev pub is_new : Naming → Bool
is_new (Old number) = false
is_new (New number) = true

abbrev pub number_in : Naming → ℕ
number_in (Old number) = number
number_in (New number) = number

-- the name that is to be stored is the record's, and there is room for it if it is new
pub record Lies (bytes ends : List ℕ) (names name_bytes : ℕ) (rec : List ℕ) (x : Store) : Type 0 where
  pub name : x.name.now ≡ name_in rec
  pub places : is_new x.naming ≡ true → names < length ends
  pub room : is_new x.naming ≡ true → name_bytes + length x.name.now ≤ length bytes
  pub small : is_new x.naming ≡ true → name_bytes + length x.name.now < 4294967296

-- a plan to store has been tested for that; over time it stores a stretch that is not empty; and the table's own check was done
pub record Tested (over_time : Bool) (checked : Answer) (bytes ends : List ℕ) (names name_bytes : ℕ) (rec : List ℕ) (x : Store) : Type 0 where
  pub placed : Lies bytes ends names name_bytes rec x
  pub forward : over_time ≡ true → x.start < x.end
  pub formed : checked ≡ answer 0 []

abbrev pub Ready : Bool → Answer → List ℕ → List ℕ → ℕ → ℕ → List ℕ → Result (Option Store) Refusal → Type 0
Ready over_time checked bytes ends names name_bytes rec (Ok None) = Unit {0}
Ready over_time checked bytes ends names name_bytes rec (Ok (Some x)) = Tested over_time checked bytes ends names name_bytes rec x
Ready over_time checked bytes ends names name_bytes rec (Err r) = Unit {0}
