-- A refusal's tag, from 0 on, is one less than its number; damage and a difference are told by theirs. Assumes nothing.
use mathlib.Core.Path.{◌≡◌, refl}
use mathlib.Core.Logic.{◌≢◌}
use Prim.Native.Nat.{ℕ, suc}
use native.Mathlib.Omega.{arith}
use denote.Enum.Declared.{tag_of}
use Rattle.leaves.specs.Refusal.{number_of}
use Rattle.leaves.specs.declared.refusal.Refusal.{Refusal}
use Rattle.leaves.specs.declared.refusal.Refusal.TheVariants as refusal
use Rattle.leaves.specs.contracts.refusal.Refusal.{the_type}
use Rattle.leaves.specs.declared.refusal.Reason.{Reason}
use Rattle.leaves.specs.declared.refusal.Field.{Field}

tagged : (r : Refusal) → suc (tag_of the_type r) ≡ number_of r
tagged refusal.Reversed = refl
tagged refusal.NoRoom = refl
tagged refusal.UnknownSymbol = refl
tagged refusal.BadName = refl
tagged refusal.NoNameRoom = refl
tagged (refusal.Differ field) = refl
tagged refusal.Conflict = refl
tagged refusal.NotNumber = refl
tagged refusal.NoInstrumentId = refl
tagged refusal.OutsideQuery = refl
tagged refusal.NoDate = refl
tagged refusal.BadStreams = refl
tagged (refusal.Damaged stream place why) = refl
tagged refusal.IllFormed = refl
tagged refusal.BadMemory = refl

pub tag_is : (r : Refusal) (n : ℕ) → number_of r ≡ suc n → tag_of the_type r ≡ n
tag_is r n e = let t : suc (tag_of the_type r) ≡ number_of r = tagged r in omega arith

-- only damage has the number 13
pub no_damage : (r : Refusal) → ((stream place : ℕ) (why : Reason) → r ≡ refusal.Damaged stream place why → ⊥) → number_of r ≢ 13
no_damage refusal.Reversed h e = omega arith
no_damage refusal.NoRoom h e = omega arith
no_damage refusal.UnknownSymbol h e = omega arith
no_damage refusal.BadName h e = omega arith
no_damage refusal.NoNameRoom h e = omega arith
no_damage (refusal.Differ field) h e = omega arith
no_damage refusal.Conflict h e = omega arith
no_damage refusal.NotNumber h e = omega arith
no_damage refusal.NoInstrumentId h e = omega arith
no_damage refusal.OutsideQuery h e = omega arith
no_damage refusal.NoDate h e = omega arith
no_damage refusal.BadStreams h e = omega arith
no_damage (refusal.Damaged stream place why) h e = h stream place why refl
no_damage refusal.IllFormed h e = omega arith
no_damage refusal.BadMemory h e = omega arith

-- only a difference has the number 6
pub no_difference : (r : Refusal) → ((field : Field) → r ≡ refusal.Differ field → ⊥) → number_of r ≢ 6
no_difference refusal.Reversed h e = omega arith
no_difference refusal.NoRoom h e = omega arith
no_difference refusal.UnknownSymbol h e = omega arith
no_difference refusal.BadName h e = omega arith
no_difference refusal.NoNameRoom h e = omega arith
no_difference (refusal.Differ field) h e = h field refl
no_difference refusal.Conflict h e = omega arith
no_difference refusal.NotNumber h e = omega arith
no_difference refusal.NoInstrumentId h e = omega arith
no_difference refusal.OutsideQuery h e = omega arith
no_difference refusal.NoDate h e = omega arith
no_difference refusal.BadStreams h e = omega arith
no_difference (refusal.Damaged stream place why) h e = omega arith
no_difference refusal.IllFormed h e = omega arith
no_difference refusal.BadMemory h e = omega arith
