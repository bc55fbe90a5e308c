-- Gather, merge, build: header and lists that `open` and `merge` leave read back as the outcome, so that the next call takes exactly it;
-- and opening what was opened changes nothing. Assumes nothing.
use Rattle.std.specs.Prelude.{◌≡◌, refl, ◌≢◌, ◌⊎◌, ℕ, zero, suc, ◌+◌, ◌-◌, ◌*◌, max, Bool, true, false, ◌&&◌, cond, List, [], ◌∷◌, ◌++◌, length, get_or, drop, replicate, Result, Ok}
use Rattle.std.proofs.Common.{sym, ap, ◌∙◌, inl, inr, arith, append_assoc, append-nil}
use Rattle.std.proofs.Math.Seq.{drop-append_seam}
use Rattle.theory.specs.Answer.{Answer, answer, bit}
use Rattle.theory.specs.Runs.{Mem}
use Rattle.theory.specs.RunsTools.{cond_case}
use Rattle.leaves.specs.declared.refusal.Refusal.{Refusal}
use Rattle.metadata_rules.specs.Cases.{Once, eqb_case}
use Rattle.metadata_rules.specs.Metadata.{Metadata, Mapping, add, add_all, once, names_of, enter, enter_all, opened, count_intervals, Merged, conflicting, merged, by_name, dates_known, names_known, forwards, fits, Given, Outcome, done, together, if_fits, if_merged, agreed_merge, differs_at, if_same, merge_opened, merge}
use Rattle.metadata_rules.specs.Metadata.{refused as stopped}
use Rattle.metadata_rules.specs.Words.{before, count_at, mapping_words, interval_words, mapping_length, interval_length}
use Rattle.metadata_rules.specs.Names.{add_only, once_once, enter_all_names}
use Rattle.metadata_rules.specs.Fold.{opened_once}
use Rattle.metadata_form.specs.declared.header.Header.{Header}
use Rattle.metadata_form.specs.Header.{Lists, lengths_of, metadata_of, metadata_fits, numbers_of}
use Rattle.metadata_words.specs.Over.{over}
use Rattle.metadata_merge.specs.Outcome.{given}
use Rattle.metadata_open.specs.Commit.{laid_over, laid_read}
use Rattle.metadata_open.specs.Opening.{values_of, open_answer, open_lists, Open}
use Rattle.metadata_merge.specs.Merger.{answer_of, held_by, all_fit, merge_answer, merge_lists, Merge}

-- ---- the numbers that come with a done answer are the header's

bit_one : (a b : Bool) → bit a ≡ bit b → a ≡ b
bit_one true true e = refl
bit_one true false e = absurd (omega arith)
bit_one false true e = absurd (omega arith)
bit_one false false e = refl

abbrev number_in : Answer → ℕ
number_in (answer c vs) = c

abbrev values_in : Answer → List ℕ
values_in (answer c vs) = vs

-- a header with a metadata's numbers reads as it where its lists are laid
numbers_read : (k : Header) (m : Metadata) → numbers_of k ≡ values_of m → (h : Header) (l : Lists) → metadata_of k (laid_over h l m) ≡ m
unfolding values_of
numbers_read k m e h l =
    let e₁ : k.version ≡ m.fields.version = cc in
    let e₂ : k.dataset ≡ m.fields.dataset = cc in
    let e₃ : k.schema ≡ m.fields.schema = cc in
    let e₄ : k.start ≡ m.fields.start = cc in
    let e₅ : k.end ≡ m.fields.end = cc in
    let e₆ : k.limit ≡ m.fields.limit = cc in
    let e₇ : k.stype_in ≡ m.fields.stype_in = cc in
    let e₈ : k.stype_out ≡ m.fields.stype_out = cc in
    let e₉ : bit k.ts_out ≡ bit m.fields.ts_out = cc in
    let e₀ : k.symbol_cstr_len ≡ m.fields.symbol_cstr_len = cc in
    let b : k.ts_out ≡ m.fields.ts_out = bit_one k.ts_out m.fields.ts_out e₉ in
    let c₁ : k.symbols ≡ length m.symbols = cc in
    let c₂ : k.partial ≡ length m.partial = cc in
    let c₃ : k.not_found ≡ length m.not_found = cc in
    let c₄ : k.mappings ≡ length m.mappings = cc in
    laid_read h l m k (λ i. record {
      version = e₁ i;
      dataset = e₂ i;
      schema = e₃ i;
      start = e₄ i;
      end = e₅ i;
      limit = e₆ i;
      stype_in = e₇ i;
      stype_out = e₈ i;
      ts_out = b i;
      symbol_cstr_len = e₀ i;
    }) c₁ c₂ c₃ c₄

-- ---- what calls leave

-- what a done `open` leaves reads as the first metadata without its repeats
pub open_read : (h : Header) (l : Lists) (k : Header) (l' : Lists) → Open h l (Ok k) l' → metadata_of k l' ≡ opened (metadata_of h l)
unfolding open_answer open_lists
open_read h l k l' o = go (metadata_fits h (lengths_of l) l.mappings) o.answers o.holds
  where
    go : (b : Bool) → answer 0 (numbers_of k) ≡ cond b (answer 0 (values_of (opened (metadata_of h l)))) (answer 15 [])
        → l' ≡ cond b (laid_over h l (opened (metadata_of h l))) l → metadata_of k l' ≡ opened (metadata_of h l)
    go true a w = ap (metadata_of k) w ∙ numbers_read k (opened (metadata_of h l)) (ap values_in a) h l
    go false a w = let z : ◌≡◌ {A = ℕ} 0 15 = ap number_in a in absurd (omega arith)

-- a refused merge has a number that is not 0
abbrev Stops : Outcome → Type 0
Stops (stopped a) = number_in a ≢ 0
Stops (done m) = Unit {0}

merge_stops : (w : Given) (m k : Metadata) → Stops (merge w m k)
unfolding merge merge_opened if_same agreed_merge if_merged if_fits
merge_stops w m k = go (differs_at (opened m).fields k.fields)
  where
    by_name_lem : (q : Merged) → Stops (if_merged w.rooms (opened m) k q)
    by_name_lem conflicting = λ e. absurd (omega arith)
    by_name_lem (merged ms) = cond_case Stops (fits w.rooms (together (opened m) k ms)) _ _ (λ t. tt) (λ t e. absurd (omega arith))

    go : (p : ℕ) → Stops (if_same w (opened m) k p)
    go zero =
        cond_case Stops (dates_known w.date (opened m).mappings && dates_known w.date k.mappings) _ _ (λ t.
        cond_case Stops (names_known w.names (opened m) && names_known w.names k) _ _ (λ t'.
        cond_case Stops (forwards (opened m).mappings && forwards k.mappings) _ _ (λ t''. by_name_lem (by_name ((opened m).mappings ++ k.mappings)))
        (λ t'' e. absurd (omega arith))) (λ t' e. absurd (omega arith))) (λ t e. absurd (omega arith))
    go (suc p) = λ e. absurd (omega arith)

-- what a done `merge` leaves reads as the outcome of the merge
pub merge_read : (names : ℕ) (h : Header) (l : Lists) (g : Header) (r : Lists) (k : Header) (l' : Lists) → Merge names h l g r (Ok k) l'
    → merge (given names l) (metadata_of h l) (metadata_of g r) ≡ done (metadata_of k l')
unfolding merge_answer merge_lists answer_of held_by
merge_read names h l g r k l' o =
    go (all_fit names h l g r) (merge (given names l) (metadata_of h l) (metadata_of g r)) (merge_stops (given names l) (metadata_of h l) (metadata_of g r)) o.answers o.holds
  where
    go : (b : Bool) (x : Outcome) → Stops x → answer 0 (numbers_of k) ≡ cond b (answer_of x) (answer 15 []) → l' ≡ cond b (held_by h l x) l → x ≡ done (metadata_of k l')
    go true (stopped a) s e w = absurd (s (sym (ap number_in e)))
    go true (done m) s e w = ap done (sym (ap (metadata_of k) w ∙ numbers_read k m (ap values_in e) h l))
    go false x s e w = let z : ◌≡◌ {A = ℕ} 0 15 = ap number_in e in absurd (omega arith)

-- ---- opening again

add_fresh : (ys : List ℕ) (x : ℕ) → (Mem x ys → ⊥) → add ys x ≡ ys ++ (x ∷ [])
unfolding add
add_fresh [] x h = refl
add_fresh (y ∷ ys) x h =
    eqb_case (λ (l : List ℕ). l ≡ y ∷ (ys ++ (x ∷ []))) y x _ _ (λ e. absurd (h (inl (sym e))))
    (λ d. ap (λ (l : List ℕ). y ∷ l) (add_fresh ys x (λ m. h (inr m))))

add_all_fresh : (xs ys : List ℕ) → Once xs → ((z : ℕ) → Mem z ys → Mem z xs → ⊥) → add_all ys xs ≡ ys ++ xs
unfolding add_all
add_all_fresh [] ys o d = sym (append-nil ys)
add_all_fresh (x ∷ xs) ys o d =
    add_all_fresh xs (add ys x) o.1 (λ z a b. apart z b (add_only ys x z a))
    ∙ ap (λ (l : List ℕ). l ++ xs) (add_fresh ys x (λ m. d x m (inl refl)))
    ∙ append_assoc ys (x ∷ []) xs
  where
    apart : (z : ℕ) → Mem z xs → Mem z ys ⊎ (z ≡ x) → ⊥
    apart z b (inl m) = d z m (inr b)
    apart z b (inr e) = o.0 (rw e at b)

once_again : (xs : List ℕ) → once (once xs) ≡ once xs
unfolding once
once_again xs = add_all_fresh (once xs) [] (once_once xs) (λ z m k. m)

enter_fresh : (ls : List Mapping) (m : Mapping) → (Mem m.name (names_of ls) → ⊥) → enter ls m ≡ ls ++ (m ∷ [])
unfolding enter names_of
enter_fresh [] m h = refl
enter_fresh (l ∷ ls) m h =
    eqb_case (λ (r : List Mapping). r ≡ l ∷ (ls ++ (m ∷ []))) l.name m.name _ _ (λ e. absurd (h (inl (sym e))))
    (λ d. ap (λ (r : List Mapping). l ∷ r) (enter_fresh ls m (λ k. h (inr k))))

enter_all_fresh : (ms ls : List Mapping) → Once (names_of ms) → ((z : ℕ) → Mem z (names_of ls) → Mem z (names_of ms) → ⊥) → enter_all ls ms ≡ ls ++ ms
unfolding enter_all names_of add_all
enter_all_fresh [] ls o d = sym (append-nil ls)
enter_all_fresh (m ∷ ms) ls o d =
    enter_all_fresh ms (enter ls m) o.1 (λ z a b. apart z b (add_only (names_of ls) m.name z (rw (enter_all_names (m ∷ []) ls) at a)))
    ∙ ap (λ (r : List Mapping). r ++ ms) (enter_fresh ls m (λ k. d m.name k (inl refl)))
    ∙ append_assoc ls (m ∷ []) ms
  where
    apart : (z : ℕ) → Mem z (names_of ms) → Mem z (names_of ls) ⊎ (z ≡ m.name) → ⊥
    apart z b (inl k) = d z k (inr b)
    apart z b (inr e) = o.0 (rw e at b)

-- a metadata without repeats loses nothing
pub opened_again : (m : Metadata) → opened (opened m) ≡ opened m
unfolding opened names_of
opened_again m =
    let a : once (once m.symbols) ≡ once m.symbols = once_again m.symbols in
    let b : once (once m.partial) ≡ once m.partial = once_again m.partial in
    let c : once (once m.not_found) ≡ once m.not_found = once_again m.not_found in
    let ms : List Mapping = enter_all [] m.mappings in
    let d : enter_all [] ms ≡ ms = enter_all_fresh ms [] (opened_once m.mappings) (λ z k j. k) in
    λ i. record { fields = m.fields; symbols = a i; partial = b i; not_found = c i; mappings = d i }

-- words laid over themselves
over_again : (d new : List ℕ) (used n : ℕ) → n ≡ length new → over (over d used new) n new ≡ over d used new
unfolding over
over_again d new used n e =
    let z : n - length new ≡ 0 = omega arith in
    let y : max n (length new) ≡ length new = omega arith in
    let rest : List ℕ = replicate (used - length new) 0 ++ drop (max used (length new)) d in
    rw (z, y) (ap (λ (r : List ℕ). new ++ r) (drop-append_seam new rest))

-- the intervals of mappings whose words stand in front
before_cons : (n c : ℕ) (w : List ℕ) (t : ℕ) → before (n ∷ c ∷ w) (suc t) ≡ c + before w t
unfolding before count_at
before_cons n c w zero = omega arith
before_cons n c w (suc t) =
    let i : 2 * suc t + 1 ≡ suc (suc (2 * t + 1)) = omega arith in
    let g : get_or (n ∷ c ∷ w) (2 * suc t + 1) 0 ≡ get_or w (2 * t + 1) 0 = ap (λ (x : ℕ). get_or (n ∷ c ∷ w) x 0) i in
    omega (arith, before_cons n c w t)

before_words : (ms : List Mapping) (rest : List ℕ) → before (mapping_words ms ++ rest) (length ms) ≡ count_intervals ms
unfolding mapping_words count_intervals before
before_words [] rest = refl
before_words (m ∷ ms) rest =
    before_cons m.name (length m.intervals) (mapping_words ms ++ rest) (length ms)
    ∙ ap (λ (n : ℕ). length m.intervals + n) (before_words ms rest)

before_front : (ms : List Mapping) (u : ℕ) (w : List ℕ) → before (over w u (mapping_words ms)) (length ms) ≡ count_intervals ms
unfolding over
before_front ms u w = before_words ms _

laid_again : (h k : Header) (l : Lists) (m : Metadata) → k.symbols ≡ length m.symbols → k.partial ≡ length m.partial → k.not_found ≡ length m.not_found
    → k.mappings ≡ length m.mappings → laid_over k (laid_over h l m) m ≡ laid_over h l m
unfolding laid_over
laid_again h k l m a b c d =
    let ms = m.mappings in
    let e₁ = over_again l.symbols m.symbols h.symbols k.symbols a in
    let e₂ = over_again l.partial m.partial h.partial k.partial b in
    let e₃ = over_again l.not_found m.not_found h.not_found k.not_found c in
    let n : 2 * k.mappings ≡ length (mapping_words ms) = omega (arith, mapping_length ms) in
    let e₄ = over_again l.mappings (mapping_words ms) (2 * h.mappings) (2 * k.mappings) n in
    let q : 3 * before (over l.mappings (2 * h.mappings) (mapping_words ms)) k.mappings ≡ length (interval_words ms) =
    omega (arith, interval_length ms, counted ms (2 * h.mappings) l.mappings k.mappings d) in
    let e₅ = over_again l.intervals (interval_words ms) (3 * before l.mappings h.mappings) (3 * before (over l.mappings (2 * h.mappings) (mapping_words ms)) k.mappings) q in
    λ i. record { symbols = e₁ i; partial = e₂ i; not_found = e₃ i; mappings = e₄ i; intervals = e₅ i }
  where
    counted : (ms : List Mapping) (u : ℕ) (w : List ℕ) (n : ℕ) → n ≡ length ms → before (over w u (mapping_words ms)) n ≡ count_intervals ms
    counted ms u w n e = ap (before (over w u (mapping_words ms))) e ∙ before_front ms u w

-- opening what was opened changes no list
pub open_again : (h : Header) (l : Lists) (k : Header) (l' : Lists) → Open h l (Ok k) l' → (r : Result Header Refusal) (l'' : Lists) → Open k l' r l'' → l'' ≡ l'
unfolding open_answer open_lists values_of
open_again h l k l' o r l'' p = p.holds ∙ go (metadata_fits k (lengths_of l') l'.mappings) (metadata_fits h (lengths_of l) l.mappings) o.answers o.holds (open_read h l k l' o)
  where
    go : (c b : Bool) → answer 0 (numbers_of k) ≡ cond b (answer 0 (values_of (opened (metadata_of h l)))) (answer 15 [])
        → l' ≡ cond b (laid_over h l (opened (metadata_of h l))) l → metadata_of k l' ≡ opened (metadata_of h l)
        → cond c (laid_over k l' (opened (metadata_of k l'))) l' ≡ l'
    go false b a w e = refl
    go true false a w e = let z : ◌≡◌ {A = ℕ} 0 15 = ap number_in a in absurd (omega arith)
    go true true a w e =
        let m = opened (metadata_of h l) in
        let q : numbers_of k ≡ values_of m = ap values_in a in
        let s : opened (metadata_of k l') ≡ m = ap opened e ∙ opened_again (metadata_of h l) in
        let c₁ : k.symbols ≡ length m.symbols = cc in
        let c₂ : k.partial ≡ length m.partial = cc in
        let c₃ : k.not_found ≡ length m.not_found = cc in
        let c₄ : k.mappings ≡ length m.mappings = cc in
        ap (laid_over k l') s ∙ ap (λ (x : Lists). laid_over k x m) w ∙ laid_again h k l m c₁ c₂ c₃ c₄ ∙ sym w
