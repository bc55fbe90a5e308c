-- Merging one more metadata: what it answers, and what each lent list then holds (RULES, Merging metadata).
use Rattle.std.specs.Prelude.{◌≡◌, ◌≢◌, Bool, true, false, ◌&&◌, cond, List, [], ◌∷◌, length, leb, Result, Ok, Err}
use Rattle.std.proofs.Math.Path.{refl, ap, subst}
use Rattle.std.proofs.Common.{sym, ◌∙◌, arith}
use Prim.Native.Nat.{ℕ, zero, suc, ◌/◌}
use borrow.Author.Tests.{leb-true}
use Rattle.theory.specs.Bools.{and_left, and_right}
use Rattle.theory.specs.Answer.{Answer, answer}
use Rattle.leaves.specs.Refusal.{refused, answer_with, field_number}
use Rattle.leaves.specs.declared.refusal.Field.{Field}
use Rattle.leaves.specs.declared.refusal.Field.TheVariants as field
use Rattle.leaves.specs.declared.refusal.Refusal.{Refusal}
use Rattle.leaves.specs.declared.refusal.Refusal.TheVariants.{Differ, BadMemory}
use Rattle.metadata_rules.specs.Metadata.{opened, merge, merge_opened, if_same, agreed_merge, differs_at, fields_of, Outcome, done}
use Rattle.metadata_rules.specs.Metadata.{refused as stopped}
use Rattle.metadata_form.specs.declared.header.Header.{Header}
use Rattle.metadata_form.specs.declared.header.Lengths.{Lengths}
use Rattle.metadata_form.specs.declared.header.Counts.{Counts}
use Rattle.metadata_form.specs.Header.{Lists, lengths_of, header_fields, metadata_of, metadata_fits, merged_header, MetadataFitting, metadata_fitting, outcome_fits, numbers_of}
use Rattle.metadata_open.specs.Commit.{laid_over, Commit, committed, committed_laid, may_commit}
use Rattle.metadata_open.specs.Opening.{values_of, numbers_values}
use Rattle.metadata_merge.specs.Outcome.{Verdict, given, Deciding, Decided, Fitted}
use Rattle.metadata_merge.specs.OutcomeCalls.{Outcomes, Plannable}

-- an outcome's answer, and what the lists then hold
unfoldable pub answer_of : Outcome → Answer
unfolding values_of
answer_of (stopped a) = a
answer_of (done m) = answer 0 (values_of m)

unfoldable pub held_by : Header → Lists → Outcome → Lists
unfolding laid_over
held_by h l (stopped a) = l
held_by h l (done m) = laid_over h l m

-- the number of names and both sides' memory are of the form; where not, 15
unfoldable pub both_fit : ℕ → Header → Lengths → List ℕ → Header → Lengths → List ℕ → Bool
both_fit names header lengths mappings added added-lengths added-mappings =
    leb names 4096 && (metadata_fits header lengths mappings && metadata_fits added added-lengths added-mappings)

abbrev pub all_fit : ℕ → Header → Lists → Header → Lists → Bool
all_fit names h l g r = both_fit names h (lengths_of l) l.mappings g (lengths_of r) r.mappings

unfoldable pub merge_answer : ℕ → Header → Lists → Header → Lists → Answer
unfolding answer_of
merge_answer names h l g r = cond (all_fit names h l g r) (answer_of (merge (given names l) (metadata_of h l) (metadata_of g r))) (answer 15 [])

unfoldable pub merge_lists : ℕ → Header → Lists → Header → Lists → Lists
unfolding held_by
merge_lists names h l g r = cond (all_fit names h l g r) (held_by h l (merge (given names l) (metadata_of h l) (metadata_of g r))) l

pub record Merge (names : ℕ) (h : Header) (l : Lists) (g : Header) (r : Lists) (a : Result Header Refusal) (l' : Lists) : Type 0 where
  pub answers : answer_with numbers_of a ≡ merge_answer names h l g r
  pub holds : l' ≡ merge_lists names h l g r

-- both sides are of the form, and their six fields agree
pub record Agreed (names : ℕ) (h : Header) (l : Lists) (g : Header) (r : Lists) : Type 0 where
  pub fit : all_fit names h l g r ≡ true
  pub same : differs_at (header_fields h) (header_fields g) ≡ 0

-- ---- laws

module _ (names : ℕ) (h : Header) (l : Lists) (g : Header) (r : Lists) where
  -- what was tested are the lists
  pub both_tested : {n : Lists} {b t : Bool} → b ≡ all_fit names h n g r → n ≡ l → b ≡ t → all_fit names h l g r ≡ t
  both_tested e p f = sym (e ∙ ap (λ (u : Lists). all_fit names h u g r) p) ∙ f

  pub merge_unfit : all_fit names h l g r ≡ false → Merge names h l g r (Err BadMemory) l
  unfolding merge_answer merge_lists
  merge_unfit e = record { answers = rw e refl; holds = rw e refl }

  merge_from : all_fit names h l g r ≡ true → (a : Result Header Refusal) (l' : Lists) (x : Outcome) → merge (given names l) (metadata_of h l) (metadata_of g r) ≡ x
      → answer_with numbers_of a ≡ answer_of x → l' ≡ held_by h l x → Merge names h l g r a l'
  unfolding merge_answer merge_lists
  merge_from e a l' x z y w = record { answers = rw e (y ∙ ap answer_of (sym z)); holds = rw e (w ∙ ap (held_by h l) (sym z)) }

  merge_differ : (n : ℕ) → differs_at (header_fields h) (header_fields g) ≡ n
      → merge (given names l) (metadata_of h l) (metadata_of g r) ≡ if_same (given names l) (opened (metadata_of h l)) (metadata_of g r) n
  unfolding merge merge_opened opened metadata_of
  merge_differ n y = ap (if_same (given names l) (opened (metadata_of h l)) (metadata_of g r)) y

  differs_stop : (n : ℕ) → n ≡ differs_at (header_fields h) (header_fields g) → n ≢ 0
      → merge (given names l) (metadata_of h l) (metadata_of g r) ≡ stopped (answer 6 (n ∷ []))
  unfolding if_same
  differs_stop zero y z = absurd (z refl)
  differs_stop (suc n) y z = merge_differ (suc n) (sym y)

  pub merge_differs : all_fit names h l g r ≡ true → (f : Field) → field_number f ≡ differs_at (header_fields h) (header_fields g)
      → Merge names h l g r (Err (Differ f)) l
  unfolding answer_of held_by
  merge_differs e f y = merge_from e (Err (Differ f)) l (stopped (answer 6 (field_number f ∷ []))) (differs_stop (field_number f) y (some f)) refl refl
    where
      some : (f : Field) → field_number f ≢ 0
      some field.Version = λ z. omega arith
      some field.Dataset = λ z. omega arith
      some field.StypeIn = λ z. omega arith
      some field.StypeOut = λ z. omega arith
      some field.TsOut = λ z. omega arith
      some field.SymbolCstrLen = λ z. omega arith

  module _ (a : Agreed names h l g r) where
    left_fitting : MetadataFitting h (lengths_of l) l.mappings
    unfolding both_fit
    left_fitting = metadata_fitting h (lengths_of l) l.mappings (and_left (metadata_fits h (lengths_of l) l.mappings) _ (and_right (leb names 4096) _ a.fit))

    pub both_plannable : (t : Lists) → length t.symbols ≡ 8192 → length t.partial ≡ 8192 → length t.not_found ≡ 8192 → length t.mappings ≡ 16384
        → length t.intervals ≡ 393216 → Plannable names h l g r t
    unfolding both_fit
    both_plannable t i j k m n =
        let s = and_right (leb names 4096) _ a.fit in
        record {
          few_names = leb-true names 4096 (and_left (leb names 4096) _ a.fit);
          left_fitting = left_fitting;
          right_fitting = metadata_fitting g (lengths_of r) r.mappings (and_right (metadata_fits h (lengths_of l) l.mappings) _ s);
          room_a = i;
          room_b = j;
          room_c = k;
          room_m = m;
          room_v = n;
        }

    merge_agreed : merge (given names l) (metadata_of h l) (metadata_of g r) ≡ agreed_merge (given names l) (opened (metadata_of h l)) (metadata_of g r)
    unfolding if_same
    merge_agreed = merge_differ 0 a.same

    module _ (v : Verdict) (t : Lists) (o : Outcomes names h l g r v t) where
      decided_as : (w : Verdict) → v ≡ w
          → Decided (agreed_merge (given names l) (opened (metadata_of h l)) (metadata_of g r)) (fields_of (header_fields h) (header_fields g)) (lengths_of l) w t
      unfolding Outcomes Deciding
      decided_as w f =
          subst (λ (q : Verdict). Decided (agreed_merge (given names l) (opened (metadata_of h l)) (metadata_of g r)) (fields_of (header_fields h) (header_fields g)) (lengths_of l) q t) f o

      pub merge_refuses : (x : Refusal) → v ≡ Err x → Merge names h l g r (Err x) l
      unfolding answer_of held_by
      merge_refuses x f = merge_from a.fit (Err x) l (stopped (refused x)) (merge_agreed ∙ decided_as (Err x) f) refl refl

      module _ (c : Counts) (f : v ≡ Ok c) where
        fitted : Fitted (agreed_merge (given names l) (opened (metadata_of h l)) (metadata_of g r)) (fields_of (header_fields h) (header_fields g)) (lengths_of l) c t
        fitted = decided_as (Ok c) f

        pub merge_commit : Commit h l c t
        unfolding outcome_fits
        merge_commit =
            let e0 = fitted.room in
            let e1 = and_right (leb c.symbols (length l.symbols)) _ e0 in
            let e2 = and_right (leb c.partial (length l.partial)) _ e1 in
            let e3 = and_right (leb c.not_found (length l.not_found)) _ e2 in
            may_commit fitted.stands_in h l left_fitting
            (leb-true c.symbols (length l.symbols) (and_left (leb c.symbols (length l.symbols)) _ e0))
            (leb-true c.partial (length l.partial) (and_left (leb c.partial (length l.partial)) _ e1))
            (leb-true c.not_found (length l.not_found) (and_left (leb c.not_found (length l.not_found)) _ e2))
            (leb-true c.mappings (length l.mappings / 2) (and_left (leb c.mappings (length l.mappings / 2)) _ e3))
            (leb-true c.intervals (length l.intervals / 3) (and_right (leb c.mappings (length l.mappings / 2)) _ e3))

        pub merge_done : (l' : Lists) → l' ≡ committed h l c t → (k : Header) → k ≡ merged_header h g c → Merge names h l g r (Ok k) l'
        unfolding answer_of held_by fields_of
        merge_done l' w k i =
            let x = fitted in
            let s = x.stands_in in
            merge_from a.fit (Ok k) l' (done x.value) (merge_agreed ∙ x.is)
            (ap (λ (j : Header). answer 0 (numbers_of j)) i
            ∙ ap (answer 0) (numbers_values (merged_header h g c) x.value (sym x.fields) s.n_symbols s.n_partial s.n_not_found s.n_mappings))
            (w ∙ committed_laid s h l)

-- scratch takes what is read of lists of the form
pub plannable : (names : ℕ) (h : Header) {l n : Lists} (g : Header) (r : Lists) {t : Lists} → n ≡ l → Plannable names h l g r t → Plannable names h n g r t
plannable names h g r {t} e p = subst (λ (x : Lists). Plannable names h x g r t) (sym e) p

-- what stands in scratch stands in what is read of it
pub outcomes_read : (names : ℕ) (h : Header) {l n : Lists} (g : Header) (r : Lists) (v : Verdict) {t u : Lists} → n ≡ l → u ≡ t → Outcomes names h n g r v t → Outcomes names h l g r v u
outcomes_read names h {l} {n} g r v {t} {u} e f o =
    subst (λ (x : Lists). Outcomes names h x g r v u) e (subst (λ (x : Lists). Outcomes names h n g r v x) (sym f) o)
