-- The test of the lent memory: what it answers, what it shows, and the build that it stops. Assumes nothing.
use Rattle.std.specs.Prelude.{◌≡◌, ℕ, Bool, true, false, cond, List, [], length}
use Rattle.std.proofs.Math.Path.{refl, ap}
use Rattle.std.proofs.Common.{◌∙◌, arith}
use Rattle.theory.specs.Bools.{both}
use Rattle.theory.specs.Answer.{answer}
use Rattle.leaves.specs.Refusal.{number_of, refused}
use Rattle.leaves.specs.declared.refusal.Refusal.{Refusal}
use Rattle.leaves.specs.declared.refusal.Refusal.TheVariants.{BadMemory}
use Rattle.leaves.specs.RefusalLaws.{refused_not_done}
use Rattle.leaves_names.specs.Names.{list_fits, well_formed, check_names}
use Rattle.metadata_form.specs.declared.header.Header.{Header}
use Rattle.metadata_form.specs.declared.header.Lengths.{Lengths}
use Rattle.metadata_form.specs.Header.{metadata_fits}
use Rattle.build_rules.specs.OverTime.{Build, stopped}
use Rattle.build_rules.specs.Call.{build_fits, judged}

pub fits_facts : (table : Bool) (h : Header) (l : Lengths) (m : List ℕ) (bytes places names name_bytes : ℕ)
    → build_fits table h l m bytes places names name_bytes ≡ true → (table ≡ true) × (metadata_fits h l m ≡ true) × (list_fits bytes places names name_bytes ≡ true)
unfolding build_fits
fits_facts table h l m bytes places names name_bytes e =
    let p = both table _ e in
    let r = both (metadata_fits h l m) _ p.1 in
    (p.0, r.0, r.1)

module _ (table : Bool) (h : Header) (l : Lengths) (m bytes ends : List ℕ) (names name_bytes : ℕ) where
  abbrev fits : Bool
  fits = build_fits table h l m (length bytes) (length ends) names name_bytes

  abbrev formed : Bool
  formed = well_formed bytes ends names name_bytes

  -- 15 by the table's own test, or by the metadata's
  pub judged_table : table ≡ false → refused BadMemory ≡ judged (build_fits table h l m (length bytes) (length ends) names name_bytes) (well_formed bytes ends names name_bytes)
  unfolding build_fits judged
  judged_table t = rw t refl

  pub judged_metadata : table ≡ true → metadata_fits h l m ≡ false
      → refused BadMemory ≡ judged (build_fits table h l m (length bytes) (length ends) names name_bytes) (well_formed bytes ends names name_bytes)
  unfolding build_fits judged
  judged_metadata t g = rw (t, g) refl

  -- and else as the check of the list
  pub judged_list : table ≡ true → metadata_fits h l m ≡ true
      → check_names bytes ends names name_bytes ≡ judged (build_fits table h l m (length bytes) (length ends) names name_bytes) (well_formed bytes ends names name_bytes)
  unfolding build_fits judged check_names
  judged_list t g = rw (t, g) refl

  -- the same by all of them at once: 15, or as the check of the list
  pub judged_unfit : build_fits table h l m (length bytes) (length ends) names name_bytes ≡ false
      → refused BadMemory ≡ judged (build_fits table h l m (length bytes) (length ends) names name_bytes) (well_formed bytes ends names name_bytes)
  unfolding judged
  judged_unfit e = rw e refl

  pub judged_fit : build_fits table h l m (length bytes) (length ends) names name_bytes ≡ true
      → check_names bytes ends names name_bytes ≡ judged (build_fits table h l m (length bytes) (length ends) names name_bytes) (well_formed bytes ends names name_bytes)
  unfolding judged check_names
  judged_fit e = let f = fits_facts table h l m (length bytes) (length ends) names name_bytes e in rw (e, f.2) refl

-- what the test of the lent memory answers, in its order
pub ruleset judging = (judged_unfit, judged_fit)

-- memory that passes both tests
pub judged_good : (f w : Bool) → answer 0 [] ≡ judged f w → (f ≡ true) × (w ≡ true)
unfolding judged
judged_good true true e = (refl, refl)
judged_good true false e = absurd (let z : ◌≡◌ {A = ℕ} 0 14 = cc in omega arith)
judged_good false w e = absurd (let z : ◌≡◌ {A = ℕ} 0 15 = cc in omega arith)

-- a refusal stops the build, before a mapping is looked at
pub judged_stops : {X : Type 0} (f w : Bool) (b : Build X) (r : Refusal) → refused r ≡ judged f w
    → (cond f (cond w b (stopped 14 0 0)) (stopped 15 0 0) ≡ stopped (number_of r) 0 0) × (refused r ≡ answer (number_of r) [])
unfolding judged
judged_stops true true b r e = absurd (refused_not_done r (let z : number_of r ≡ 0 = cc in z))
judged_stops true false b r e = let z : 14 ≡ number_of r = cc in (ap (λ (c : ℕ). stopped c 0 0) z, e ∙ ap (λ (c : ℕ). answer c []) z)
judged_stops false w b r e = let z : 15 ≡ number_of r = cc in (ap (λ (c : ℕ). stopped c 0 0) z, e ∙ ap (λ (c : ℕ). answer c []) z)
