-- Laws of Bool. Assumes nothing.
use Rattle.std.specs.Prelude.{◌≡◌, refl, Bool, true, false, not, ◌&&◌, T}
use Rattle.std.proofs.Common.{sym, ◌∙◌}
use Rattle.std.proofs.lemmas.Bool.{false≢true, not-true, not-false}

pub and_false : (t : Bool) → (t && false) ≡ false
and_false true = refl
and_false false = refl

pub and_left : (a b : Bool) → (a && b) ≡ true → a ≡ true
and_left true b e = refl
and_left false b e = e

pub and_right : (a b : Bool) → (a && b) ≡ true → b ≡ true
and_right true b e = e
and_right false b e = absurd (false≢true e)

pub both : (a b : Bool) → (a && b) ≡ true → (a ≡ true) × (b ≡ true)
both a b e = (and_left a b e, and_right a b e)

-- a test that is true, and one that is false
pub true_T : (b : Bool) → b ≡ true → T b
true_T b e = rw e tt

pub false_T : (b : Bool) → b ≡ false → T (not b)
false_T b e = rw e tt

pub T_true : (b : Bool) → T b → b ≡ true
T_true true t = refl
T_true false t = absurd t

pub T_false : (b : Bool) → T (not b) → b ≡ false
T_false true t = absurd t
T_false false t = refl

-- what a test's answer says, where the code goes by its contrary
pub fails : {f t : Bool} → f ≡ t → not f ≡ true → t ≡ false
fails {f} e h = sym e ∙ not-true f h

pub holds : {f t : Bool} → f ≡ t → not f ≡ false → t ≡ true
holds {f} e h = sym e ∙ not-false f h
