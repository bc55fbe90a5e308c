-- What each way through the build leaves, and that it is what the definition says. Assumes nothing.
use Rattle.std.specs.Prelude.{◌≡◌, ℕ, ◌*◌, ◌/◌, ◌≤◌, Bool, true, cond, List, [], ◌∷◌, length, replicate, T, Result, Ok, Err}
use Rattle.std.proofs.Math.Path.{refl, ap, subst}
use Rattle.std.proofs.Common.{sym, ◌∙◌, arith}
use Rattle.std.proofs.lemmas.List.{length-replicate}
use Rattle.theory.specs.Answer.{answer, one_value}
use Rattle.leaves.specs.Refusal.{number_of, refused, answer_with}
use Rattle.leaves_names.specs.Names.{names_of, well_formed}
use Rattle.leaves.specs.declared.refusal.Refusal.{Refusal}
use Rattle.leaves.specs.RefusalLaws.{plain_refused}
use Rattle.map_point.specs.declared.entries.Entry.{Entry}
use Rattle.map_point.specs.Entries.{entries_from, entries, put_entries}
use Rattle.map_point.specs.EntriesLaws.{length_entries}
use Rattle.map_point.specs.Points.{rising, points_fit}
use Rattle.metadata_rules.specs.Words.{mappings_from, before}
use Rattle.metadata_form.specs.declared.header.Header.{Header}
use Rattle.metadata_form.specs.Header.{header_fields, Lists, lengths_of, metadata_of, MetadataFitting, metadata_fitting}
use Rattle.build_rules.specs.Reading.{Read, fault, value}
use Rattle.build_rules.specs.OverTime.{Build, stopped, built, build_answer}
use Rattle.build_rules.specs.PointInTime.{pick_mappings, point_in_time}
use Rattle.build_rules.specs.PointInTimeLaws.{point_refusal, Sound, point_sound}
use Rattle.build_point.specs.declared.begin.Start.{Start}
use Rattle.build_point.specs.Begin.{start_for, build_from, begin_build}
use Rattle.build_point.specs.Mappings.{Clean, Laid}
use Rattle.build_rules.specs.Call.{build_fits, judged, settled}
use Rattle.build_rules.specs.CallLaws.{fits_facts, judged_good, judged_stops}
use Rattle.build_point.specs.Build.{point_build, point_in_time_answer, built_memory, point_in_time_memory}

-- ---- refusals

-- the build's refusals come with no values
plain : (r : Refusal) → T (point_refusal (number_of r)) → refused r ≡ answer (number_of r) []
unfolding point_refusal
plain r t = plain_refused r (λ e. subst (λ (c : ℕ). T (point_refusal c)) e t) (λ e. subst (λ (c : ℕ). T (point_refusal c)) e t)

-- a build that refuses, by its number
refuses : (size room names : ℕ) (b : Build Entry) → Sound room names b → (r : Refusal) → build_answer b ≡ answer (number_of r) []
    → (refused r ≡ build_answer b) × (replicate size 0 ≡ built_memory size b)
unfolding build_answer built_memory
refuses size room names (stopped c t k) s r e =
    let n : c ≡ number_of r = cc in
    (plain r (subst (λ (c : ℕ). T (point_refusal c)) n s) ∙ sym e, refl)
refuses size room names (built es) s r e = let z : ◌≡◌ {A = ℕ} 0 1 = cc in absurd (omega arith)

-- ---- the ways through the build

module _ (size : ℕ) (h : Header) (l : Lists) (bytes ends : List ℕ) (names name_bytes date : ℕ) where
  pub record Ends (r : Result ℕ Refusal) (t : List ℕ) : Type 0 where
    pub answered : answer_with one_value r ≡ point_in_time_answer size h l bytes ends names name_bytes date
    pub memory : t ≡ point_in_time_memory size h l bytes ends names name_bytes date

  abbrev texts : List (List ℕ)
  texts = names_of bytes ends names

  abbrev formed : Bool
  formed = well_formed bytes ends names name_bytes

  -- what a build that is this one leaves
  ends_by : {b : Build Entry} → point_build size h l bytes ends names name_bytes date ≡ b → (r : Result ℕ Refusal) {t : List ℕ} → answer_with one_value r ≡ build_answer b
      → t ≡ built_memory size b → Ends r t
  unfolding point_in_time_answer point_in_time_memory
  ends_by e r a m = record { answered = a ∙ ap build_answer (sym e); memory = m ∙ ap (built_memory size) (sym e) }

  module _ {of_form : Bool} (z : List ℕ) (e : z ≡ replicate size 0) (i : of_form ≡ points_fit size 0) where
    abbrev fits : Bool
    fits = build_fits of_form h (lengths_of l) l.mappings (length bytes) (length ends) names name_bytes

    -- the build by its tests
    tested : (b : Build Entry) → cond fits (cond formed (point_in_time (size / 8) texts (metadata_of h l) date) (stopped 14 0 0)) (stopped 15 0 0) ≡ b
        → point_build size h l bytes ends names name_bytes date ≡ b
    unfolding point_build
    tested b d =
        ap (λ (f : Bool). cond (build_fits f h (lengths_of l) l.mappings (length bytes) (length ends) names name_bytes)
        (cond formed (point_in_time (size / 8) texts (metadata_of h l) date) (stopped 14 0 0)) (stopped 15 0 0)) (sym i) ∙ d

    pub ends_unlent : (why : Refusal)
        → refused why ≡ judged (build_fits of_form h (lengths_of l) l.mappings (length bytes) (length ends) names name_bytes) (well_formed bytes ends names name_bytes) → Ends (Err why) z
    unfolding build_answer built_memory
    ends_unlent why y =
        let p = judged_stops fits formed (point_in_time (size / 8) texts (metadata_of h l) date) why y in
        ends_by (tested _ p.0) (Err why) p.1 e

    module _ (y : answer 0 [] ≡ judged (build_fits of_form h (lengths_of l) l.mappings (length bytes) (length ends) names name_bytes) (well_formed bytes ends names name_bytes)) where
      good : (fits ≡ true) × (formed ≡ true)
      good = judged_good fits formed y

      pub ends_lists : (2 * h.mappings ≤ length l.mappings) × (3 * before l.mappings h.mappings ≤ length l.intervals)
      ends_lists =
          let p = fits_facts of_form h (lengths_of l) l.mappings (length bytes) (length ends) names name_bytes good.0 in
          let s : MetadataFitting h (lengths_of l) l.mappings = metadata_fitting h (lengths_of l) l.mappings p.1 in
          let v = s.fit.spans_whole in
          let n = s.sum in (s.fit.maps_used, omega arith)

      whole : point_build size h l bytes ends names name_bytes date ≡ point_in_time (size / 8) texts (metadata_of h l) date
      whole = let p : fits ≡ true = good.0 in let q : formed ≡ true = good.1 in tested _ (rw (p, q) refl)

      begins : {r : Read Start} → r ≡ start_for (header_fields h) date → point_in_time (size / 8) texts (metadata_of h l) date ≡ build_from (size / 8) texts (metadata_of h l) r
      unfolding metadata_of
      begins e = begin_build (size / 8) texts (metadata_of h l) date ∙ ap (build_from (size / 8) texts (metadata_of h l)) (sym e)

      refuse : (r : Refusal) {t : List ℕ} → build_answer (point_in_time (size / 8) texts (metadata_of h l) date) ≡ answer (number_of r) [] → t ≡ replicate size 0 → Ends (Err r) t
      refuse r a d =
          let s = refuses size (size / 8) (length texts) (point_in_time (size / 8) texts (metadata_of h l) date) (point_sound (size / 8) texts (metadata_of h l) date) r a in
          ends_by whole (Err r) s.0 (d ∙ s.1)

      pub ends_begun : (r : Refusal) → fault (number_of r) ≡ start_for (header_fields h) date → Ends (Err r) z
      unfolding build_from build_answer
      ends_begun r b = refuse r (ap build_answer (begins b)) e

      module _ (s : Start) (b : value s ≡ start_for (header_fields h) date) where
        abbrev picked : ℕ → Build Entry
        picked n = pick_mappings (n / 8) texts s.direction s.day 0 (mappings_from l.mappings l.intervals 0 0 h.mappings) []

        is_picked : point_in_time (size / 8) texts (metadata_of h l) date ≡ picked size
        unfolding build_from metadata_of
        is_picked = begins b

        own : (r : Result ℕ Refusal) (t' : List ℕ) → Laid (length z) (picked (length z)) r t' → Laid size (picked size) r t'
        own r t' o = subst (λ (n : ℕ). Laid n (picked n) r t') (ap length e ∙ length-replicate size 0) o

        pub ends_laid : (r : Result ℕ Refusal) (t' : List ℕ) → length t' ≡ length z
            → Laid (length z) (pick_mappings (length z / 8) texts s.direction s.day 0 (mappings_from l.mappings l.intervals 0 0 h.mappings) []) r t' → Ends r (settled r t')
        unfolding build_answer built_memory
        ends_laid (Ok k) t' g o =
            let f : Clean size t' k × (picked size ≡ built (entries t' k)) = own (Ok k) t' o in
            ends_by (whole ∙ is_picked ∙ f.1) (Ok k) (ap (λ (n : ℕ). answer 0 (n ∷ [])) (sym (length_entries t' 0 k))) f.0.bytes
        ends_laid (Err r) t' g o =
            refuse r (ap build_answer is_picked ∙ own (Err r) t' o) (ap (λ (n : ℕ). replicate n 0) (g ∙ ap length e ∙ length-replicate size 0))

-- a table of zeros
pub clean_zeros : (size : ℕ) (t : List ℕ) → t ≡ replicate size 0 → Clean (length t) t 0
unfolding entries_from rising put_entries
clean_zeros size t e = record {
  lent = refl;
  fits = omega arith;
  sorted = tt;
  bytes = e ∙ ap (λ (n : ℕ). replicate n 0) (sym (ap length e ∙ length-replicate size 0));
}
