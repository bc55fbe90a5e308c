-- What the mappings of a merge come to: a refusal, or the words of the mappings merged by name. Assumes nothing.
use Rattle.std.proofs.Math.Path.{◌≡◌, refl, ap, subst}
use Rattle.std.proofs.Common.{sym, ◌∙◌, ltb-true}
use Rattle.std.specs.Prelude.{ℕ, zero, suc, ◌+◌, ◌-◌, ◌*◌, ◌≤◌, ◌<◌, Bool, ◌&&◌, length, get_or, replicate, ltb, Option, Some, None, Result, Ok, Err}
use native.Mathlib.Omega.{arith}
use Rattle.std.proofs.Math.Bool.{true, false}
use Rattle.std.specs.Option.{ok_or}
use mathlib.Core.List.{List, [], ◌∷◌, ◌++◌}
use Rattle.std.proofs.lemmas.List.{length-replicate, get_or-replicate}
use Rattle.std.proofs.Math.ListN.{length-append}
use Rattle.metadata_rules.specs.declared.Interval.{Interval}
use Rattle.leaves.specs.declared.refusal.Refusal.{Refusal}
use Rattle.leaves.specs.declared.refusal.Refusal.TheVariants.{Conflict}
use Rattle.metadata_rules.specs.Metadata.{Mapping, Merged, conflicting, merged, enter_all, by_name, every, every_interval, dates_known, mappings_known, count_intervals}
use Rattle.metadata_rules.specs.Metadata.{forwards as forwardsOf}
use Rattle.metadata_rules.specs.Words.{name_at, mappings_from, before, mapping_words, interval_words, names_from, read_back, intervals_test, names_test, mapping_length, interval_length}
use Rattle.metadata_words.specs.Words.{rest}
use Rattle.metadata_lists.specs.Flat.{placed_from, placed_to}
use Rattle.metadata_lists.specs.Link.{Chained, chained_linked, chained_heads}
use Rattle.metadata_lists.specs.Names.{Final, failed, placed, lay_all, finish_names, collect_to, sums_to, end_names}
use Rattle.metadata_lists.specs.NamesLaying.{AllReady}
use Rattle.metadata_lists.specs.NamesWhole.{HeadOk, collect_by_name, sums_bound}
use Rattle.metadata_lists.specs.NamesWords.{Stands, stands}
use Rattle.metadata_lists.specs.declared.names.Laid.{Laid}
use Rattle.metadata_gather.specs.Sides.{Sound, Offs, count_all, flat_length, kept_count, kept_few, lay_append, within_of, placed_flat}
use Rattle.metadata_gather.specs.Judge.{known_date, dated, below, known, forward, spaced, judged_of, judged_by, and_assoc, rest_all, spaced_names}
use Rattle.theory.specs.Bools.{and_left, and_right}

-- the mappings of both sides: the left one's without its repeats, then the right one's
unfoldable pub both_sides : List ℕ → ℕ → List ℕ → List ℕ → ℕ → List ℕ → List Mapping
both_sides left-mappings left_count_lem left-intervals right-mappings right_count_lem right-intervals =
    enter_all [] (mappings_from left-mappings left-intervals 0 0 left_count_lem) ++ mappings_from right-mappings right-intervals 0 0 right_count_lem

-- what the tests say
abbrev pub Judged : Type 0
Judged = Result (Unit {0}) Refusal

-- 11, 3 or 1, over all mappings each before the next (RULES, Merging metadata); known says 3 of what else there is
unfoldable pub judged_all : ℕ → Bool → List Mapping → Judged
unfolding judged_of dates_known mappings_known forwardsOf
judged_all names known ms = judged_of (dates_known known_date ms) (known && mappings_known names ms) (forwardsOf ms)

-- what a plan comes to
pub data Shown : Type 0 where
  stopped : Refusal → Shown
  shown : Final → Shown

unfoldable pub end_plan : Result Laid Refusal → List ℕ → List ℕ → Shown
end_plan (Err r) om out = stopped r
end_plan (Ok l) om out = shown (placed om l.mappings out l.intervals)

unfoldable pub shown_merged : List ℕ → List ℕ → Merged → Shown
shown_merged om out conflicting = stopped Conflict
shown_merged om out (merged ms) = shown (lay_all om 0 out 0 ms)

unfoldable pub plan_on : Judged → List ℕ → List ℕ → List Mapping → Shown
unfolding shown_merged
plan_on (Ok x) om out ms = shown_merged om out (by_name ms)
plan_on (Err r) om out ms = stopped r

unfoldable pub plan_of : ℕ → Bool → List Mapping → List ℕ → List ℕ → Shown
unfolding judged_all plan_on
plan_of names known ms om out = plan_on (judged_all names known ms) om out ms

-- ---- what the functions ask

-- both sides stand in their words, few enough
pub record Sides (lm : List ℕ) (n : ℕ) (lv rm : List ℕ) (k : ℕ) (rv : List ℕ) : Type 0 where
  pub left_words : 2 * n ≤ length lm
  pub left_count_lem : n ≤ 4096
  pub left_spans : 3 * before lm n ≤ length lv
  pub right_words : 2 * k ≤ length rm
  pub right_count_lem : k ≤ 4096
  pub right_spans : 3 * before rm k ≤ length rv

-- and fit together
pub record Gathered (lm : List ℕ) (n : ℕ) (lv rm : List ℕ) (k : ℕ) (rv : List ℕ) (sm sv : ℕ) : Type 0 where
  pub sides : Sides lm n lv rm k rv
  pub maps : 2 * (n + k) ≤ sm
  pub room : 3 * (before lm n + before rm k) ≤ sv
  pub small : sv < 4294967296
  pub few : sm < 4294967296

-- and the scratch holds them together: 8,192 mappings, 131,072 intervals
pub record Planable (lm : List ℕ) (n : ℕ) (lv rm : List ℕ) (k : ℕ) (rv : List ℕ) (names sm so : ℕ) : Type 0 where
  pub sides : Sides lm n lv rm k rv
  pub few_spans : before lm n + before rm k ≤ 131072
  pub few_names : names ≤ 4096
  pub maps : sm ≡ 16384
  pub room : so ≡ 393216

-- q mappings that can be linked by name, and scratch for their outcome
pub record Linkable (gm : List ℕ) (q : ℕ) (gv : List ℕ) (st sm so : ℕ) : Type 0 where
  pub words : 2 * q ≤ length gm
  pub count : q ≤ 8192
  pub spans : 3 * before gm q ≤ length gv
  pub names : (t : ℕ) → t < q → name_at gm t < 4096
  pub maps : 2 * q ≤ sm
  pub room : 3 * before gm q ≤ so
  pub space : 3 * before gm q ≤ st
  pub small : so < 4294967296

zero_plus : (t : ℕ) → 0 + t ≡ t
zero_plus t = omega arith

-- each of the names passes
names_each : (names : ℕ) (gm : List ℕ) (q t : ℕ) → every (below names) (names_from gm t q) ≡ true → (j : ℕ) → j < q → name_at gm (t + j) < names
unfolding every names_from below
names_each names gm zero t e j h = absurd (omega arith)
names_each names gm (suc q) t e zero h = let z : t + 0 ≡ t = omega arith in subst (λ (u : ℕ). name_at gm u < names) (sym z) (ltb-true (name_at gm t) names (and_left (ltb (name_at gm t) names) _ e))
names_each names gm (suc q) t e (suc j) h =
    let z : (t + 1) + j ≡ t + suc j = omega arith in
    subst (λ (u : ℕ). name_at gm u < names) z (names_each names gm q (t + 1) (and_right (ltb (name_at gm t) names) _ e) j (omega arith))

-- ---- gathering

count_append : (xs ys : List Mapping) → count_intervals (xs ++ ys) ≡ count_intervals xs + count_intervals ys
unfolding count_intervals
count_append [] ys = omega arith
count_append (x ∷ xs) ys = let r = count_append xs ys in omega arith

module _ (lm : List ℕ) (n : ℕ) (lv rm : List ℕ) (k : ℕ) (rv : List ℕ) (gm gv : List ℕ) (g : Gathered lm n lv rm k rv (length gm) (length gv)) where
  pub left_sound : Sound lm n lv (length gm) 0 (length gv) 0
  left_sound =
      let x = g.maps in
      let y = g.room in
      record { words = g.sides.left_words; count = g.sides.left_count_lem; spans = g.sides.left_spans; maps = omega arith; room = omega arith; small = g.small; few = g.few }

  module _ (a b : List ℕ) (q o : ℕ) (laid : placed a q b o ≡ lay_all gm 0 gv 0 (enter_all [] (mappings_from lm lv 0 0 n))) where
    left_stands : Stands (enter_all [] (mappings_from lm lv 0 0 n)) a q b o
    left_stands =
        let x = g.maps in let y = g.room in let f = kept_few lm lv n in let h = kept_count lm lv n in
        stands (enter_all [] (mappings_from lm lv 0 0 n)) gm gv a b q o laid (omega arith) (omega arith)

    pub right_sound : (sm sv : ℕ) → sm ≡ length gm → sv ≡ length gv → Sound rm k rv sm q sv o
    right_sound sm sv d e =
        let x = g.maps in let y = g.room in let f = kept_few lm lv n in let h = kept_count lm lv n in
        let i = left_stands.how_many in let j = left_stands.how_long in
        record { words = g.sides.right_words; count = g.sides.right_count_lem; spans = g.sides.right_spans; maps = omega arith; room = omega arith; small = omega (arith, g.small); few = omega (arith, g.few) }

    pub q_small : q + k ≤ 8192
    q_small = let f = kept_few lm lv n in let i = left_stands.how_many in omega (arith, g.sides.left_count_lem, g.sides.right_count_lem)

    pub both_stand : (a' b' : List ℕ) (e : ℕ) → placed a' (q + k) b' e ≡ lay_all a q b o (mappings_from rm rv 0 0 k) → Stands (both_sides lm n lv rm k rv) a' (q + k) b' e
    unfolding both_sides
    both_stand a' b' e h =
        let x = g.maps in let y = g.room in let f = kept_few lm lv n in let i = kept_count lm lv n in
        let c = length-append (enter_all [] (mappings_from lm lv 0 0 n)) (mappings_from rm rv 0 0 k) in
        let d = flat_length rm rv k 0 0 in
        let u = count_append (enter_all [] (mappings_from lm lv 0 0 n)) (mappings_from rm rv 0 0 k) in
        let w = count_all rm rv k in
        stands (enter_all [] (mappings_from lm lv 0 0 n) ++ mappings_from rm rv 0 0 k) gm gv a' b' (q + k) e
        (h ∙ lay_append (enter_all [] (mappings_from lm lv 0 0 n)) (mappings_from rm rv 0 0 k) gm 0 gv 0 a q b o laid) (omega arith) (omega arith)

-- what both sides have together
pub both_size : (lm : List ℕ) (n : ℕ) (lv rm : List ℕ) (k : ℕ) (rv : List ℕ) → count_intervals (both_sides lm n lv rm k rv) ≤ before lm n + before rm k
unfolding both_sides
both_size lm n lv rm k rv =
    let u = count_append (enter_all [] (mappings_from lm lv 0 0 n)) (mappings_from rm rv 0 0 k) in
    let w = count_all rm rv k in
    let a = kept_count lm lv n in
    omega arith

pub both_count : (lm : List ℕ) (n : ℕ) (lv rm : List ℕ) (k : ℕ) (rv : List ℕ) → length (both_sides lm n lv rm k rv) ≤ n + k
unfolding both_sides
both_count lm n lv rm k rv =
    let a = kept_few lm lv n in
    let c = length-append (enter_all [] (mappings_from lm lv 0 0 n)) (mappings_from rm rv 0 0 k) in
    let d = flat_length rm rv k 0 0 in
    omega arith

-- ---- mappings that stand in words

-- what is at the front of a list is no longer than it
at_least : (a b r : List ℕ) (n : ℕ) → a ≡ b ++ r → length b ≡ n → n ≤ length a
at_least a b r n e h = let l = ap length e ∙ length-append b r in omega arith

module _ (ms : List Mapping) (gm : List ℕ) (q : ℕ) (gv : List ℕ) (e : ℕ) (s : Stands ms gm q gv e) where
  pub stands_read : mappings_from gm gv 0 0 q ≡ ms
  stands_read = rw (s.maps, s.spans, s.how_many) (read_back ms s.rest_m s.rest_v)

  pub stands_before : before gm q ≡ count_intervals ms
  stands_before = sym (count_all gm gv q) ∙ ap count_intervals stands_read

  pub stands_words : 2 * q ≤ length gm
  stands_words = at_least gm (mapping_words ms) s.rest_m (2 * q) s.maps (let c = s.how_many in omega (arith, mapping_length ms))

  pub stands_spans : 3 * e ≤ length gv
  stands_spans = at_least gv (interval_words ms) s.rest_v (3 * e) s.spans (let c = s.how_long in omega (arith, interval_length ms))

  spans_test : (p : Interval → Bool) → every p (rest gv 0 e) ≡ every_interval p ms
  spans_test p = ap (every p) (rest_all gv e) ∙ rw (s.spans, s.how_long) (sym (intervals_test p ms s.rest_v))

  names_tested : (p : ℕ → Bool) → every p (spaced gm 2 0 q) ≡ every (λ (m : Mapping). p m.name) ms
  names_tested p = ap (every p) (spaced_names gm q) ∙ rw (s.maps, s.how_many) (sym (names_test p ms s.rest_m))

  -- judged over words or over mappings: the same
  pub judged_same : (names : ℕ) (r : Bool) → judged_by names (r && every (below names) (spaced gm 2 0 q)) true (rest gv 0 e) ≡ judged_all names r ms
  unfolding judged_by judged_all dates_known mappings_known forwardsOf dated known forward below
  judged_same names r =
      rw (
        and_assoc r (every (below names) (spaced gm 2 0 q)) (every (known names) (rest gv 0 e)),
        spans_test dated,
        names_tested (below names),
        spans_test (known names),
        spans_test forward,
      ) refl

  -- all passed: each name was handed out
  pub names_below : (names : ℕ) (r : Bool) → judged_by names (r && every (below names) (spaced gm 2 0 q)) true (rest gv 0 e) ≡ Ok tt
      → (t : ℕ) → t < q → name_at gm t < names
  unfolding judged_by judged_of
  names_below names r z t h =
      go (every dated (rest gv 0 e)) r (every (below names) (spaced gm 2 0 q)) refl (every (known names) (rest gv 0 e)) (every forward (rest gv 0 e)) z
    where
      go : (a b c : Bool) → every (below names) (spaced gm 2 0 q) ≡ c → (d f : Bool) → judged_of a ((b && c) && d) (true && f) ≡ Ok tt → name_at gm t < names
      go true true true w d f y = subst (λ (u : ℕ). name_at gm u < names) (zero_plus t) (names_each names gm q 0 (sym (ap (every (below names)) (spaced_names gm q)) ∙ w) t h)
      go true true false w d f y = let x : ◌≡◌ {A = ℕ} 0 1 = cc in absurd (omega arith)
      go true false c w d f y = let x : ◌≡◌ {A = ℕ} 0 1 = cc in absurd (omega arith)
      go false b c w d f y = let x : ◌≡◌ {A = ℕ} 0 1 = cc in absurd (omega arith)

-- ---- linking and laying

module _ (gm : List ℕ) (q : ℕ) (gv : List ℕ) (st sm so : ℕ) (l : Linkable gm q gv st sm so) (off nx head : List ℕ) (f : Offs gm off q) (ch : Chained gm nx head q 0)
    (lo : q ≤ length off) (ln : q ≤ length nx) (lh : 4096 ≤ length head) where
  heads_in : (t : ℕ) → t < q → name_at gm t < length head
  heads_in t h = let a = l.names t h in omega arith

  heads_ok : HeadOk gm head q
  heads_ok = chained_heads gm nx head q ch heads_in

  all_placed : placed_to gm gv off 0 q ≡ mappings_from gm gv 0 0 q
  unfolding placed_to
  all_placed = let z : q - 0 ≡ q = omega arith in ap (placed_from gm gv off 0) z ∙ placed_flat gm gv off q f

  sums_fit : sums_to gm gv off head q 0 ≤ before gm q
  sums_fit = let a = sums_bound gm gv off head q heads_ok in let b = ap count_intervals all_placed ∙ count_all gm gv q in omega arith

  pub all_ready : AllReady gm q gv off nx head st sm so
  all_ready =
      let a = sums_fit in
      let b = l.room in
      let c = l.space in
      record {
        words = l.words;
        maps = l.maps;
        offs = lo;
        links = ln;
        within = λ t h. (within_of gm gv off q t f h l.words lo l.spans).spans;
        linked = chained_linked gm nx head q ch;
        heads = heads_in;
        small = l.small;
        room = omega arith;
        space = omega arith;
      }

  pub all_by_name : collect_to gm gv off head q 0 ≡ by_name (mappings_from gm gv 0 0 q)
  all_by_name = collect_by_name gm gv off head q heads_ok ∙ ap by_name all_placed

-- ---- the whole plan

not_laid : (ms : List Mapping) (om : List ℕ) (q : ℕ) (out : List ℕ) (k : ℕ) → failed ≡ lay_all om q out k ms → ⊥
unfolding lay_all
not_laid [] om q out k e = let z : ◌≡◌ {A = ℕ} 0 1 = cc in omega arith
not_laid (m ∷ ms) om q out k e = not_laid ms _ _ _ _ e

unfoldable pub shown_names : Option Laid → List ℕ → List ℕ → Shown
shown_names None om out = stopped Conflict
shown_names (Some l) om out = shown (placed om l.mappings out l.intervals)

pub shown_or : (r : Option Laid) (om out : List ℕ) → end_plan (ok_or r Conflict) om out ≡ shown_names r om out
unfolding end_plan shown_names
shown_or None om out = refl
shown_or (Some l) om out = refl

shown_end : (r : Option Laid) (om om' out out' : List ℕ) (g : Merged) → end_names r om' out' ≡ finish_names om 0 out 0 g → shown_names r om' out' ≡ shown_merged om out g
unfolding end_names finish_names shown_names shown_merged
shown_end None om om' out out' conflicting e = refl
shown_end None om om' out out' (merged ms) e = absurd (not_laid ms om 0 out 0 e)
shown_end (Some l) om om' out out' conflicting e = let z : ◌≡◌ {A = ℕ} 0 1 = cc in absurd (omega arith)
shown_end (Some l) om om' out out' (merged ms) e = ap shown e

pub full : (n k : ℕ) (a : List ℕ) → a ≡ replicate k n → (t : ℕ) → t < length a → get_or a t 0 ≡ n
full n k a e t h = let l = ap length e ∙ length-replicate {A = ℕ} k n in ap (λ (r : List ℕ). get_or r t 0) e ∙ get_or-replicate k t n 0 (omega arith)

-- mappings that stand in words, and what their judge said
module _ (ms : List Mapping) (gm : List ℕ) (q : ℕ) (gv : List ℕ) (e : ℕ) (s : Stands ms gm q gv e) (names : ℕ) (r nm : Bool) (a : nm ≡ every (below names) (spaced gm 2 0 q))
    (j : Judged) (b : j ≡ judged_by names (r && nm) true (rest gv 0 e)) where
  said : j ≡ judged_by names (r && every (below names) (spaced gm 2 0 q)) true (rest gv 0 e)
  said = b ∙ ap (λ (c : Bool). judged_by names (r && c) true (rest gv 0 e)) a

  pub linkable : names ≤ 4096 → j ≡ Ok tt → (st sm so : ℕ) → q ≤ 8192 → 2 * q ≤ sm → 3 * e ≤ so → 3 * e ≤ st → so < 4294967296 → Linkable gm q gv st sm so
  linkable h z st sm so c i k l m =
      let f = stands_before ms gm q gv e s in
      let g = s.how_long in
      let d = stands_spans ms gm q gv e s in
      record {
        words = stands_words ms gm q gv e s;
        count = c;
        spans = omega arith;
        names = λ t y. let w = names_below ms gm q gv e s names r (sym said ∙ z) t y in omega arith;
        maps = i;
        room = omega arith;
        space = omega arith;
        small = m;
      }

  module _ (om out : List ℕ) where
    as_judged : plan_on j om out ms ≡ plan_of names r ms om out
    unfolding plan_of
    as_judged = ap (λ (x : Judged). plan_on x om out ms) (said ∙ judged_same ms gm q gv e s names r)

    pub plan_stopped : (why : Refusal) → j ≡ Err why → stopped why ≡ plan_of names r ms om out
    unfolding plan_on
    plan_stopped why z = ap (λ (x : Judged). plan_on x om out ms) (sym z) ∙ as_judged

    pub plan_laid : (om' out' : List ℕ) (l : Option Laid) → j ≡ Ok tt → end_names l om' out' ≡ finish_names om 0 out 0 (by_name (mappings_from gm gv 0 0 q))
        → shown_names l om' out' ≡ plan_of names r ms om out
    unfolding plan_on
    plan_laid om' out' l z h =
        shown_end l om om' out out' (by_name ms) (h ∙ ap (λ (y : List Mapping). finish_names om 0 out 0 (by_name y)) (stands_read ms gm q gv e s))
        ∙ ap (λ (y : Judged). plan_on y om out ms) (sym z) ∙ as_judged

module _ (lm : List ℕ) (n : ℕ) (lv rm : List ℕ) (k : ℕ) (rv : List ℕ) (names sm so : ℕ) (p : Planable lm n lv rm k rv names sm so) where
  pub plan_gathered : (a b : ℕ) → a ≡ 16384 → b ≡ 393216 → Gathered lm n lv rm k rv a b
  plan_gathered a b x y =
      let c = p.sides.left_count_lem in
      let d = p.sides.right_count_lem in
      let e = p.few_spans in
      record {
        sides = p.sides;
        maps = omega arith;
        room = omega arith;
        small = omega arith;
        few = omega arith;
      }

  pub plan_linkable : (gm : List ℕ) (q : ℕ) (gv : List ℕ) (e : ℕ) → Stands (both_sides lm n lv rm k rv) gm q gv e → (r nm : Bool)
      → nm ≡ every (below names) (spaced gm 2 0 q) → (j : Judged) → j ≡ judged_by names (r && nm) true (rest gv 0 e) → j ≡ Ok tt
      → (st : ℕ) → st ≡ 393216 → Linkable gm q gv st sm so
  plan_linkable gm q gv e s r nm a j b z st x =
      let c = p.sides.left_count_lem in
      let d = p.sides.right_count_lem in
      let g = p.few_spans in
      let i = both_size lm n lv rm k rv in
      let f = both_count lm n lv rm k rv in
      let y = s.how_many in
      let w = s.how_long in
      let u = p.maps in
      let v = p.room in
      linkable (both_sides lm n lv rm k rv) gm q gv e s names r nm a j b p.few_names z st sm so (omega arith) (omega arith) (omega arith) (omega arith) (omega arith)
