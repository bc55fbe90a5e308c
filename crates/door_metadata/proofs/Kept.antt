-- A refusal that is not 6 brings no field: what is held stays. Assumes nothing.
use Prim.Native.Nat.{ℕ}
use mathlib.Core.Path.{◌≡◌, refl}
use Rattle.leaves.specs.Refusal.{number_of, refused}
use borrow.Author.Tests.{ne_eqb}
use Rattle.leaves.specs.declared.refusal.Field.{Field}
use Rattle.leaves.specs.declared.refusal.Refusal.{Refusal}
use Rattle.leaves.specs.declared.refusal.Refusal.TheVariants.{Differ}
use Rattle.leaves.proofs.RefusalTags.{no_difference}
use Rattle.door_metadata.specs.Merger.{field_in}

pub field_kept : (r : Refusal) (held : ℕ) → ((field : Field) → r ≡ Differ field → ⊥) → held ≡ field_in held (refused r)
unfolding field_in
field_kept r held other = rw (ne_eqb (number_of r) 6 (no_difference r other)) refl
