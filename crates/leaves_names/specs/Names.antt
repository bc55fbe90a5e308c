-- RULES, Names, numbers, days, and the limits of RULES, Numbers the desk lives by: the list of names that lent memory holds, when it
-- is well-formed, and what naming does.
use Rattle.std.specs.Prelude.{ℕ, zero, suc, ◌+◌, ◌≤◌, ◌<◌, List, [], ◌∷◌, Bool, true, false, cond, ◌&&◌, leb, ltb, eqb, length, get_or, set, Option, Some, None, Result, Ok, Err}
use Rattle.std.proofs.Math.Seq.{slice, paste}
use Rattle.leaves_limits.specs.Limits.{longest_name, most_names, most_name_bytes}
use Rattle.theory.specs.Answer.{Answer, answer}
use Rattle.leaves.specs.Refusal.{refused}
use Rattle.leaves_utf8.specs.Utf8.{is_utf8}
use Rattle.leaves.specs.declared.refusal.Refusal.{Refusal}
use Rattle.leaves.specs.declared.refusal.Refusal.TheVariants.{UnknownSymbol, BadName, NoNameRoom, IllFormed, BadMemory}
use Rattle.leaves_names.specs.declared.names.NameList.{NameList}
use Rattle.leaves_names.specs.declared.names.Naming.{Naming}
use Rattle.leaves_names.specs.declared.names.Naming.TheVariants.{Old, New}
use Rattle.leaves_names.specs.declared.names.NamePlace.{NamePlace}

-- ---- the list that the memory holds

-- where name n begins: at 0, or where the one before it ends
unfoldable pub name_start : List ℕ → ℕ → ℕ
name_start ends zero = 0
name_start ends (suc n) = get_or ends n 0

-- where name n ends
abbrev pub name_end : List ℕ → ℕ → ℕ
name_end ends n = get_or ends n 0

-- the bytes of name n
unfoldable pub name_of : List ℕ → List ℕ → ℕ → List ℕ
name_of bytes ends n = slice (name_start ends n) (name_end ends n) bytes

-- so many names, from number n on
unfoldable pub names_from : List ℕ → List ℕ → ℕ → ℕ → List (List ℕ)
names_from bytes ends n zero = []
names_from bytes ends n (suc k) = name_of bytes ends n ∷ names_from bytes ends (suc n) k

-- the names in use: "Name numbers run from 0", so name n stands at place n
unfoldable pub names_of : List ℕ → List ℕ → ℕ → List (List ℕ)
names_of bytes ends names = names_from bytes ends 0 names

-- the names in use of a list
abbrev pub names_in : NameList → List (List ℕ)
names_in l = names_of l.bytes.now l.ends.now l.names

-- ---- well-formed

-- a name is "0 to 255 bytes of UTF-8"
unfoldable pub is_name : List ℕ → Bool
is_name name = leb (length name) longest_name && is_utf8 name

-- so many names, from number n on: no end falls, each name is valid, and the last ends where the bytes in use do
unfoldable pub stand_from : List ℕ → List ℕ → ℕ → ℕ → ℕ → Bool
stand_from bytes ends name_bytes n zero = eqb (name_start ends n) name_bytes
stand_from bytes ends name_bytes n (suc k) =
    leb (name_start ends n) (name_end ends n) && is_name (name_of bytes ends n) && stand_from bytes ends name_bytes (suc n) k

-- a name list is well-formed "where valid names stand one after another"
unfoldable pub well_formed : List ℕ → List ℕ → ℕ → ℕ → Bool
well_formed bytes ends names name_bytes = stand_from bytes ends name_bytes 0 names

-- at most 4,096 names and 65,536 name bytes in all; each number in use within its room
unfoldable pub list_fits : ℕ → ℕ → ℕ → ℕ → Bool
list_fits bytes places names name_bytes = leb places most_names && leb bytes most_name_bytes && leb names places && leb name_bytes bytes

-- a check of a name list: 15, then 14
unfoldable pub check_names : List ℕ → List ℕ → ℕ → ℕ → Answer
check_names bytes ends names name_bytes =
    cond (list_fits (length bytes) (length ends) names name_bytes)
    (cond (well_formed bytes ends names name_bytes) (answer 0 []) (refused IllFormed))
    (refused BadMemory)

-- ---- naming

-- the same bytes
unfoldable pub same : List ℕ → List ℕ → Bool
same [] [] = true
same [] (b ∷ t) = false
same (a ∷ s) [] = false
same (a ∷ s) (b ∷ t) = eqb a b && same s t

-- the least number with equal bytes; as many as there are where none has
unfoldable pub least : List ℕ → List (List ℕ) → ℕ
least name [] = 0
least name (x ∷ xs) = cond (same name x) 0 (suc (least name xs))

-- the least number with equal bytes; none where none has
unfoldable pub found : List ℕ → List (List ℕ) → Option ℕ
found name xs = cond (ltb (least name xs) (length xs)) (Some (least name xs)) None

-- one name more, of so many bytes, passes neither 4,096 names, nor 65,536 bytes, nor the room lent
unfoldable pub has_room : ℕ → ℕ → ℕ → ℕ → ℕ → Bool
has_room bytes places names name_bytes size =
    leb (names + 1) most_names && leb (name_bytes + size) most_name_bytes && leb (names + 1) places && leb (name_bytes + size) bytes

-- what becomes of a valid name whose least number is this: "the least number with equal bytes, else the next new one", or 5
unfoldable pub numbering : ℕ → ℕ → ℕ → ℕ → ℕ → ℕ → Result Naming Refusal
numbering bytes places names name_bytes size number =
    cond (ltb number names) (Ok (Old number))
    (cond (has_room bytes places names name_bytes size) (Ok (New names)) (Err NoNameRoom))

-- what becomes of a name: 15, 14, 4, then its number or 5
unfoldable pub naming : List ℕ → List ℕ → ℕ → ℕ → List ℕ → Result Naming Refusal
naming bytes ends names name_bytes name =
    cond (list_fits (length bytes) (length ends) names name_bytes)
    (cond (well_formed bytes ends names name_bytes)
    (cond (is_name name)
    (numbering (length bytes) (length ends) names name_bytes (length name) (least name (names_of bytes ends names)))
    (Err BadName))
    (Err IllFormed))
    (Err BadMemory)

-- what naming answers: the number, then the names and the bytes in use, of which a new name adds to both
abbrev pub naming_answer : ℕ → ℕ → List ℕ → Result Naming Refusal → Answer
naming_answer names name_bytes name (Ok (Old number)) = answer 0 (number ∷ names ∷ name_bytes ∷ [])
naming_answer names name_bytes name (Ok (New number)) = answer 0 (number ∷ (names + 1) ∷ (name_bytes + length name) ∷ [])
naming_answer names name_bytes name (Err r) = refused r

-- the lent bytes with a name after those in use
unfoldable pub name_written : List ℕ → ℕ → List ℕ → List ℕ
name_written bytes name_bytes name = paste bytes name_bytes name (length name)

-- the lent bytes after naming: a new name's stand after those in use, all else is as it was
abbrev pub bytes_after : List ℕ → ℕ → List ℕ → Result Naming Refusal → List ℕ
bytes_after bytes name_bytes name (Ok (Old number)) = bytes
bytes_after bytes name_bytes name (Ok (New number)) = name_written bytes name_bytes name
bytes_after bytes name_bytes name (Err r) = bytes

-- the lent ends after naming: a new name's stands after those in use, all else is as it was
abbrev pub ends_after : List ℕ → ℕ → ℕ → List ℕ → Result Naming Refusal → List ℕ
ends_after ends names name_bytes name (Ok (Old number)) = ends
ends_after ends names name_bytes name (Ok (New number)) = set ends names (name_bytes + length name)
ends_after ends names name_bytes name (Err r) = ends

-- ---- where a name lies

-- what comes with a name's place
abbrev pub place_values : NamePlace → List ℕ
place_values p = p.first ∷ p.end ∷ []

-- the place of name n among so many
unfoldable pub place_at : List ℕ → ℕ → ℕ → Option NamePlace
place_at ends names n = cond (ltb n names) (Some (record { first = name_start ends n; end = name_end ends n })) None

-- where name n lies, its first byte and its end: 15, 14, 3
unfoldable pub place_of_name : List ℕ → List ℕ → ℕ → ℕ → ℕ → Answer
place_of_name bytes ends names name_bytes n =
    cond (list_fits (length bytes) (length ends) names name_bytes)
    (cond (well_formed bytes ends names name_bytes)
    (cond (ltb n names) (answer 0 (name_start ends n ∷ name_end ends n ∷ [])) (refused UnknownSymbol))
    (refused IllFormed))
    (refused BadMemory)

-- a name lies from start to end, within the bytes in use
unfoldable pub standing : List ℕ → ℕ → ℕ → ℕ → Bool
standing bytes name_bytes start end = leb start end && leb end name_bytes && is_name (slice start end bytes)

-- the names in use lie one after another within the bytes lent
pub record Ordered (bytes ends : List ℕ) (names : ℕ) : Type 0 where
  pub places : names ≤ length ends
  pub rising : (n : ℕ) → n < names → name_start ends n ≤ name_end ends n
  pub inside : (n : ℕ) → n < names → name_end ends n ≤ length bytes
