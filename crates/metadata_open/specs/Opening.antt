-- Opening and finishing: what each answers, and what each lent list then holds (RULES, Merging metadata).
use Rattle.std.specs.Prelude.{◌≡◌, ℕ, ◌≤◌, ◌<◌, Bool, true, false, cond, length, take, Result, Ok, Err}
use Rattle.std.proofs.Math.Path.{refl, ap}
use Rattle.std.proofs.Common.{sym, ◌∙◌, subst}
use native.Mathlib.Omega.{arith}
use mathlib.Core.List.{List, [], ◌∷◌}
use Rattle.std.proofs.Math.Seq.{length-take-le}
use Rattle.theory.specs.Answer.{Answer, answer, bit}
use Rattle.leaves.specs.Refusal.{answer_with}
use Rattle.leaves.specs.declared.refusal.Refusal.{Refusal}
use Rattle.leaves.specs.declared.refusal.Refusal.TheVariants.{BadMemory}
use Rattle.metadata_rules.specs.Metadata.{Metadata, opened, once, add_all, enter_all}
use Rattle.metadata_rules.specs.Words.{mappings_from}
use Rattle.metadata_lists.specs.Names.{placed, lay_all}
use Rattle.metadata_lists.specs.NamesWords.{stands, front_maps, front_spans}
use Rattle.metadata_gather.specs.Arrivals.{add_all_small}
use Rattle.metadata_gather.specs.Sets.{AllUnited}
use Rattle.metadata_gather.specs.Sides.{Sound, flat_length, kept_count, kept_few}
use Rattle.metadata_form.specs.declared.header.Header.{Header}
use Rattle.metadata_form.specs.declared.header.Counts.{Counts}
use Rattle.metadata_form.specs.Header.{Lists, lists, lengths_of, header_fields, numbers_of, metadata_of, metadata_fits, counts_by, counted_header, MetadataFitting, metadata_fitting}
use Rattle.metadata_open.specs.Commit.{laid_over, committed, Commit, StandsIn, committed_laid, may_commit}

-- a metadata's numbers: its fields, and how many entries and mappings it has
unfoldable pub values_of : Metadata → List ℕ
values_of m =
    m.fields.version ∷ m.fields.dataset ∷ m.fields.schema ∷ m.fields.start ∷ m.fields.end ∷ m.fields.limit
    ∷ m.fields.stype_in ∷ m.fields.stype_out ∷ bit m.fields.ts_out ∷ m.fields.symbol_cstr_len
    ∷ length m.symbols ∷ length m.partial ∷ length m.not_found ∷ length m.mappings ∷ []

-- ---- open

unfoldable pub open_answer : Header → Lists → Answer
unfolding values_of
open_answer h l = cond (metadata_fits h (lengths_of l) l.mappings) (answer 0 (values_of (opened (metadata_of h l)))) (answer 15 [])

unfoldable pub open_lists : Header → Lists → Lists
unfolding laid_over
open_lists h l = cond (metadata_fits h (lengths_of l) l.mappings) (laid_over h l (opened (metadata_of h l))) l

pub record Open (h : Header) (l : Lists) (r : Result Header Refusal) (l' : Lists) : Type 0 where
  pub answers : answer_with numbers_of r ≡ open_answer h l
  pub holds : l' ≡ open_lists h l

-- a metadata of the form, and scratch at the limits
pub record Openable (h : Header) (l t : Lists) : Type 0 where
  pub fitting : MetadataFitting h (lengths_of l) l.mappings
  pub room_a : length t.symbols ≡ 4096
  pub room_b : length t.partial ≡ 4096
  pub room_c : length t.not_found ≡ 4096
  pub room_m : length t.mappings ≡ 8192
  pub room_v : length t.intervals ≡ 196608

-- ---- finish

unfoldable pub finish_answer : Header → Lists → Answer
unfolding values_of
finish_answer h l = cond (metadata_fits h (lengths_of l) l.mappings) (answer 0 (values_of (metadata_of h l))) (answer 15 [])

-- ---- laws

-- the numbers of a header with a metadata's fields and counts
pub numbers_values : (k : Header) (m : Metadata) → header_fields k ≡ m.fields → k.symbols ≡ length m.symbols → k.partial ≡ length m.partial
    → k.not_found ≡ length m.not_found → k.mappings ≡ length m.mappings → numbers_of k ≡ values_of m
unfolding values_of
numbers_values k m f a b c d = rw (← f, ← a, ← b, ← c, ← d) refl

-- a set that loses its repeats: it stands in its list, and the scratch takes it
pub set_room : {n ld s : ℕ} → n ≤ ld → ld ≤ 4096 → s ≡ 4096 → (n ≤ ld) × (n ≤ s) × (s < 4294967296)
set_room h k e = (h, omega arith, omega arith)

module _ (h : Header) (l : Lists) where
  pub finish_unfit : metadata_fits h (lengths_of l) l.mappings ≡ false → answer 15 [] ≡ finish_answer h l
  unfolding finish_answer
  finish_unfit e = rw e refl

  pub finish_done : metadata_fits h (lengths_of l) l.mappings ≡ true → answer 0 (numbers_of h) ≡ finish_answer h l
  unfolding finish_answer metadata_of
  finish_done e =
      let f = (metadata_fitting h (lengths_of l) l.mappings e).fit in
      rw e (ap (answer 0) (numbers_values h (metadata_of h l) refl (sym (length-take-le h.symbols l.symbols f.symbols_used))
      (sym (length-take-le h.partial l.partial f.partial_used)) (sym (length-take-le h.not_found l.not_found f.not_found_used))
      (sym (flat_length l.mappings l.intervals h.mappings 0 0))))

  pub open_unfit : metadata_fits h (lengths_of l) l.mappings ≡ false → Open h l (Err BadMemory) l
  unfolding open_answer open_lists
  open_unfit e = record { answers = rw e refl; holds = rw e refl }

  module _ (t : Lists) (o : Openable h l t) where
    pub open_sound : Sound l.mappings h.mappings l.intervals (length t.mappings) 0 (length t.intervals) 0
    open_sound =
        let f = o.fitting.fit in
        let s = o.fitting.sum in let x = o.room_m in let y = o.room_v in
        let p = f.maps_lent in let q = f.maps_used in let i = f.spans_lent in let j = f.spans_whole in
        record { words = q; count = omega arith; spans = omega arith; maps = omega arith; room = omega arith; small = omega arith; few = omega arith }

    pub open_stands : (ca : ℕ) (ta : List ℕ) → AllUnited (take h.symbols l.symbols) [] ca ta
        → (cb : ℕ) (tb : List ℕ) → AllUnited (take h.partial l.partial) [] cb tb
        → (cd : ℕ) (tc : List ℕ) → AllUnited (take h.not_found l.not_found) [] cd tc
        → (om out : List ℕ) (q k : ℕ) → placed om q out k ≡ lay_all t.mappings 0 t.intervals 0 (enter_all [] (mappings_from l.mappings l.intervals 0 0 h.mappings))
        → StandsIn (opened (metadata_of h l)) (counts_by ca cb cd q k) (lists ta tb tc om out)
    unfolding opened metadata_of add_all
    open_stands ca ta a cb tb u cd tc w om out q k laid =
        let ms = enter_all [] (mappings_from l.mappings l.intervals 0 0 h.mappings) in
        let x = kept_few l.mappings l.intervals h.mappings in let y = kept_count l.mappings l.intervals h.mappings in
        let d = open_sound.maps in let e = open_sound.room in
        let s = stands ms t.mappings t.intervals om out q k laid (omega arith) (omega arith) in
        record {
          n_symbols = a.how_many;
          symbols = a.stand;
          n_partial = u.how_many;
          partial = u.stand;
          n_not_found = w.how_many;
          not_found = w.stand;
          n_mappings = s.how_many;
          mappings = front_maps s;
          n_intervals = s.how_long;
          intervals = front_spans s;
        }

  once_few : (n : ℕ) (xs : List ℕ) → n ≤ length xs → length (once (take n xs)) ≤ length xs
  unfolding once
  once_few n xs e = let a = add_all_small (take n xs) [] in let b = length-take-le n xs e in omega arith

  module _ (e : metadata_fits h (lengths_of l) l.mappings ≡ true) where
    pub open_fitting : MetadataFitting h (lengths_of l) l.mappings
    open_fitting = metadata_fitting h (lengths_of l) l.mappings e

    module _ (c : Counts) (t : Lists) (s : StandsIn (opened (metadata_of h l)) c t) where
      pub open_commit : Commit h l c t
      unfolding opened metadata_of
      open_commit =
          let f = open_fitting.fit in let sum = open_fitting.sum in let even = f.maps_even in let used = f.maps_used in
          let a = once_few h.symbols l.symbols f.symbols_used in let a' = s.n_symbols in
          let b = once_few h.partial l.partial f.partial_used in let b' = s.n_partial in
          let d = once_few h.not_found l.not_found f.not_found_used in let d' = s.n_not_found in
          let m = kept_few l.mappings l.intervals h.mappings in let m' = s.n_mappings in
          let v = kept_count l.mappings l.intervals h.mappings in let v' = s.n_intervals in
          may_commit s h l open_fitting (omega arith) (omega arith) (omega arith) (omega arith) (omega arith)

      pub open_done : (l' : Lists) → l' ≡ committed h l c t → (k : Header) → k ≡ counted_header h c → Open h l (Ok k) l'
      unfolding open_answer open_lists opened metadata_of
      open_done l' z k x =
          record {
            answers = rw e (ap (λ (o : Header). answer 0 (numbers_of o)) x
                ∙ ap (answer 0) (numbers_values (counted_header h c) (opened (metadata_of h l)) refl s.n_symbols s.n_partial s.n_not_found s.n_mappings));
            holds = rw e (z ∙ committed_laid s h l);
          }

-- what was tested are the lists
pub tested : (h : Header) (l : Lists) {n : Lists} {b t : Bool} → b ≡ metadata_fits h (lengths_of n) n.mappings → n ≡ l → b ≡ t
    → metadata_fits h (lengths_of l) l.mappings ≡ t
tested h l e f g = sym (ap (λ (u : Lists). metadata_fits h (lengths_of u) u.mappings) f) ∙ sym e ∙ g

-- what stands in scratch stands in what is read of it
pub stood : (h : Header) {l n t u : Lists} {c : Counts} → n ≡ l → u ≡ t → StandsIn (opened (metadata_of h n)) c t → StandsIn (opened (metadata_of h l)) c u
stood h {l} {n} {t} {u} {c} e f s =
    subst (λ (x : Lists). StandsIn (opened (metadata_of h x)) c u) e (subst (λ (x : Lists). StandsIn (opened (metadata_of h n)) c x) (sym f) s)

-- scratch at the limits takes what is read of lists of the form
pub openable : (h : Header) {l n t : Lists} → n ≡ l → MetadataFitting h (lengths_of l) l.mappings → length t.symbols ≡ 4096 → length t.partial ≡ 4096
    → length t.not_found ≡ 4096 → length t.mappings ≡ 8192 → length t.intervals ≡ 196608 → Openable h n t
openable h {l} {n} {t} e f a b c m v =
    subst (λ (x : Lists). Openable h x t) (sym e) (record { fitting = f; room_a = a; room_b = b; room_c = c; room_m = m; room_v = v })
