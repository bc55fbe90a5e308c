-- A refusal that is not damage brings no stream, place or reason: what is held stays. Assumes nothing.
use Prim.Native.Nat.{ℕ}
use mathlib.Core.Path.{◌≡◌, refl}
use Rattle.leaves.specs.Refusal.{number_of, refused}
use borrow.Author.Tests.{ne_eqb}
use Rattle.leaves.specs.declared.refusal.Reason.{Reason}
use Rattle.leaves.specs.declared.refusal.Refusal.{Refusal}
use Rattle.leaves.specs.declared.refusal.Refusal.TheVariants.{Damaged}
use Rattle.leaves.proofs.RefusalTags.{no_damage}
use Rattle.door_answers.specs.Answers.{damage_in}

pub kept : (r : Refusal) (held k : ℕ) → ((stream place : ℕ) (reason : Reason) → r ≡ Damaged stream place reason → ⊥) → held ≡ damage_in held k (refused r)
unfolding damage_in
kept r held k other = rw (ne_eqb (number_of r) 13 (no_damage r other)) refl
