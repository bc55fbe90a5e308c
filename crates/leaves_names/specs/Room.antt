-- A name list lent to be written, before and after.
use Rattle.std.specs.Prelude.{◌≡◌, ℕ, ◌+◌, List, [], ◌∷◌, length, set, Result, Ok, Err}
use Rattle.leaves.specs.declared.refusal.Refusal.{Refusal}
use Rattle.leaves_names.specs.declared.names.Naming.{Naming}
use Rattle.leaves_names.specs.declared.names.Naming.TheVariants.{Old, New}
use Rattle.leaves_names.specs.declared.names.NameRoom.{NameRoom}
use Rattle.leaves_names.specs.Names.{name_written, bytes_after, ends_after}

-- what comes with a name's number: the names and the bytes in use
abbrev pub named_values : NameRoom → ℕ → List ℕ
named_values s number = number ∷ s.names ∷ s.name_bytes ∷ []

-- the names in use after naming
abbrev pub names_after : ℕ → Result Naming Refusal → ℕ
names_after names (Ok (Old number)) = names
names_after names (Ok (New number)) = names + 1
names_after names (Err r) = names

-- the bytes in use after naming
abbrev pub name_bytes_after : ℕ → List ℕ → Result Naming Refusal → ℕ
name_bytes_after name_bytes name (Ok (Old number)) = name_bytes
name_bytes_after name_bytes name (Ok (New number)) = name_bytes + length name
name_bytes_after name_bytes name (Err r) = name_bytes

-- the same memory is lent
pub record SameMemory (s t : NameRoom) : Type 0 where
  pub bytes : t.bytes.ghost_name ≡ s.bytes.ghost_name
  pub ends : t.ends.ghost_name ≡ s.ends.ghost_name

-- a name stands after those in use, and all else is as it was
pub record Added (s : NameRoom) (name : List ℕ) (t : NameRoom) : Type 0 where
  pub bytes : t.bytes.now ≡ name_written s.bytes.now s.name_bytes name
  pub ends : t.ends.now ≡ set s.ends.now s.names (s.name_bytes + length name)
  pub names : t.names ≡ s.names + 1
  pub name_bytes : t.name_bytes ≡ s.name_bytes + length name
  pub memory : SameMemory s t

-- what naming leaves, by what becomes of the name
pub record Named (s : NameRoom) (name : List ℕ) (became : Result Naming Refusal) (t : NameRoom) : Type 0 where
  pub bytes : t.bytes.now ≡ bytes_after s.bytes.now s.name_bytes name became
  pub ends : t.ends.now ≡ ends_after s.ends.now s.names s.name_bytes name became
  pub names : t.names ≡ names_after s.names became
  pub name_bytes : t.name_bytes ≡ name_bytes_after s.name_bytes name became
  pub memory : SameMemory s t
