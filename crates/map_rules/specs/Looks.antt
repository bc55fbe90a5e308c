-- A lookup in lent memory: its answer and its new hint, what one row says, and what the memory is asked. How it arrives at a row is in
-- Arrivals. Assumes nothing.
use Rattle.std.specs.Prelude.{◌≡◌, ◌≢◌, ◌⊎◌, not, ◌&&◌, ◌||◌, cond, List, [], ◌∷◌, length}
use Rattle.std.proofs.Math.Path.{sym, ap}
use Rattle.std.proofs.Common.{◌∙◌, inl, inr, arith, lt→ltb}
use Prim.Native.Nat.{ℕ, ◌+◌, ◌-◌, ◌*◌, ◌≤◌, ◌<◌}
use Rattle.std.proofs.Math.Decide.{dec_lt, ℕ_discrete}
use Rattle.std.proofs.Math.Bool.{Bool, true, false}
use Rattle.std.proofs.Math.Option.{Option, none, some}
use Rattle.std.proofs.Math.ListN.{get_elem?}
use Rattle.std.proofs.Math.Dec.{T, leb, ltb, eqb, eqb_refl, not_T}
use Rattle.std.proofs.Math.Arith.{le→nltb, lt→nleb}
use borrow.Author.Tests.{ltb-true, leb-true, eqb-true, lt-ltb, le-leb, eq-eqb}
use Rattle.std.proofs.Math.Facts.{eqb_yes, ltb_yes}
use Rattle.theory.specs.Answer.{Answer, answer}
use Rattle.theory.specs.Runs.{Interval, covers}
use Rattle.theory.specs.Bools.{both, true_T, T_false}
use Rattle.theory.specs.RunsTools.{cond_yes, cond_no, T_and, T_fst, T_snd, T_nor_l, T_nor_r}
use Rattle.map_rules.specs.Table.{Row, interval_of, group, Ordered, ordered}
use Rattle.map_rules.specs.Tests.{ordered_iff}
use Rattle.map_rules.specs.Lookup.{Finding, says, started, arrive, lookup_rows}
use Rattle.map_rules.specs.Places.{own, own_yes, own_no, lower, upper}
use Rattle.map_rules.specs.Memory.{width, same_value, row_at, rows, table_fits}
use Rattle.map_rules.specs.Pieces.{symbols}
use Rattle.map_rules.specs.Outcomes.{Lent, table_lent}
use Rattle.map_rules.specs.Halves.{Probe, RowFrom}
use Rattle.map_rules.specs.Search.{row_in, row_out}

-- ---- definitions

-- the rules' number of an answer
abbrev pub number_in : Answer → ℕ
number_in (answer c vs) = c

-- what a lookup answers: the new hint, and the symbol if there is one
unfoldable pub said_answer : ℕ → Option ℕ → Answer
said_answer h none = answer 0 (h ∷ [])
said_answer h (some v) = answer 0 (h ∷ v ∷ [])

-- the same of a finding
abbrev pub finding_answer : Finding ℕ → Answer
finding_answer f = said_answer f.hint f.said

-- a lookup in lent memory: 15, else as rows
unfoldable pub lookup_answer : List ℕ → ℕ → ℕ → ℕ → ℕ → Answer
lookup_answer t used i m h = cond (table_fits (length t) used) (finding_answer (lookup_rows (rows t used) i m h)) (answer 15 [])

-- the new hint: a refusal leaves it
unfoldable pub lookup_hint : List ℕ → ℕ → ℕ → ℕ → ℕ → ℕ
lookup_hint t used i m h = cond (table_fits (length t) used) (lookup_rows (rows t used) i m h).hint h

-- an answer and a hint tell a finding
pub record Tells (f : Finding ℕ) (a : Answer) (h : ℕ) : Type 0 where
  pub answers : a ≡ finding_answer f
  pub hints : h ≡ f.hint

-- whether the row at place k is one of the `used`, of the instrument, and covers the moment
unfoldable pub covers_at : List ℕ → ℕ → ℕ → ℕ → ℕ → Bool
covers_at t used i m k = ltb k used && (eqb (row_at t k).instrument i && (leb (row_at t k).start m && ltb m (row_at t k).end))

-- what the row at place k says of the instrument at the moment
unfoldable pub look_at : List ℕ → ℕ → ℕ → ℕ → ℕ → Option ℕ
look_at t used k i m = says (own i (get_elem? (rows t used) k)) m

-- the last step of a lookup: the last interval of the instrument that has started
abbrev pub last : List ℕ → ℕ → ℕ → ℕ → ℕ → Finding ℕ
last t used i m h = arrive (group i (rows t used)) m h (started (group i (rows t used)) m)

-- its rows begin at lo or up to n places further on
pub record Begun (t : List ℕ) (used i lo n : ℕ) : Type 0 where
  pub from : lo ≤ lower i (rows t used)
  pub upto : lower i (rows t used) ≤ lo + n

-- the first row that the moment does not reach is lo, hi or between them
pub record Reach (t : List ℕ) (used i m lo hi : ℕ) : Type 0 where
  pub from : lo ≤ upper i m (rows t used)
  pub upto : upper i m (rows t used) ≤ hi

-- ---- one row

never : (b : Bool) → T b → b ≡ false → ⊥
never true t e = let z : ◌≡◌ {A = ℕ} 0 1 = cc in omega arith
never false t e = t

module _ (t : List ℕ) (used k i m : ℕ) where
  look_out : used ≤ k → look_at t used k i m ≡ none
  unfolding look_at own says
  look_out h = ap (λ (o : Option (Row ℕ)). says (own i o) m) (row_out t used k h)

  look_row : k < used → look_at t used k i m ≡ says (own i (some (row_at t k))) m
  unfolding look_at
  look_row h = ap (λ (o : Option (Row ℕ)). says (own i o) m) (row_in t used k h)

  look_other : k < used → (row_at t k).instrument ≢ i → look_at t used k i m ≡ none
  unfolding says
  look_other h d = look_row h ∙ ap (λ (o : Option (Interval ℕ)). says o m) (own_no i (row_at t k) d)

  look_own : k < used → (row_at t k).instrument ≡ i → look_at t used k i m ≡ cond (covers (interval_of (row_at t k)) m) (some (row_at t k).value) none
  unfolding says
  look_own h e = look_row h ∙ ap (λ (o : Option (Interval ℕ)). says o m) (own_yes i (row_at t k) e)

  -- the test says whether there is an answer
  pub look_yes : {b : Bool} → b ≡ covers_at t used i m k → b ≡ true → look_at t used k i m ≡ some (row_at t k).value
  unfolding covers_at covers
  look_yes {b} e f =
      let x : Row ℕ = row_at t k in
      let p : Bool = ltb k used in
      let q : Bool = eqb x.instrument i in
      let r : Bool = leb x.start m && ltb m x.end in
      let a : T (p && (q && r)) = true_T (p && (q && r)) (sym e ∙ f) in
      let c : T (q && r) = T_snd p (q && r) a in
      look_own (ltb_yes (T_fst p (q && r) a)) (eqb_yes (T_fst q r c)) ∙ cond_yes r (some x.value) none (T_snd q r c)

  pub look_no : {b : Bool} → b ≡ covers_at t used i m k → b ≡ false → look_at t used k i m ≡ none
  unfolding covers_at covers
  look_no {b} e f = go (dec_lt k used) (ℕ_discrete (row_at t k).instrument i) (either r)
    where
      p : Bool
      p = ltb k used

      q : Bool
      q = eqb (row_at t k).instrument i

      r : Bool
      r = leb (row_at t k).start m && ltb m (row_at t k).end

      either : (c : Bool) → T c ⊎ T (not c)
      either true = inl tt
      either false = inr tt

      go : Dec (k < used) → Dec ((row_at t k).instrument ≡ i) → T r ⊎ T (not r) → look_at t used k i m ≡ none
      go (no h) d c = look_out (omega arith)
      go (yes h) (no d) c = look_other h d
      go (yes h) (yes d) (inr c) = look_own h d ∙ cond_no r (some (row_at t k).value) none c
      go (yes h) (yes d) (inl c) =
          absurd (never (p && (q && r)) (T_and p (q && r) (lt→ltb k used h) (T_and q r (rw d (eqb_refl i)) c)) (sym e ∙ f))

  -- what such a row tells
  pub record Covering : Type 0 where
    pub in_use : k < used
    pub own : (row_at t k).instrument ≡ i
    pub starts : (row_at t k).start ≤ m
    pub ends : m < (row_at t k).end

  pub covering : {b : Bool} → b ≡ covers_at t used i m k → b ≡ true → Covering
  unfolding covers_at
  covering e f =
      let x : Row ℕ = row_at t k in
      let p = both (ltb k used) _ (sym e ∙ f) in
      let q = both (eqb x.instrument i) _ p.1 in
      let r = both (leb x.start m) (ltb m x.end) q.1 in
      record { in_use = ltb-true k used p.0; own = eqb-true _ i q.0; starts = leb-true _ m r.0; ends = ltb-true m _ r.1 }

  covers_out : used ≤ k → false ≡ covers_at t used i m k
  unfolding covers_at
  covers_out h = sym (T_false _ (T_nor_l (ltb k used) _ (le→nltb k used h)))

  pub covers_own : k < used → (row_at t k).instrument ≡ i → (row_at t k).start ≤ m → ltb m (row_at t k).end ≡ covers_at t used i m k
  unfolding covers_at
  covers_own h d l = sym (λ j. lt-ltb k used h j && (eq-eqb _ i d j && (le-leb _ m l j && ltb m (row_at t k).end)))

  covers_other : (row_at t k).instrument ≢ i → false ≡ covers_at t used i m k
  unfolding covers_at
  covers_other d = sym (T_false _ (T_nor_r (ltb k used) _ (T_nor_l (eqb (row_at t k).instrument i) _ (not_T (eqb (row_at t k).instrument i) (λ z. d (eqb_yes z))))))

  covers_early : m < (row_at t k).start → false ≡ covers_at t used i m k
  unfolding covers_at
  covers_early l =
      sym (T_false _ (T_nor_r (ltb k used) _ (T_nor_r (eqb (row_at t k).instrument i) _ (T_nor_l (leb (row_at t k).start m) _ (lt→nleb (row_at t k).start m l)))))

-- how the code finds out
module _ (t : List ℕ) (used i m : ℕ) {at : ℕ} where
  pub probe_out : used * width < at + width → Probe (covers_at t used i m) at false
  probe_out h = record { tells = λ k e. covers_out t used k i m (omega arith) }

  module _ {x : Row ℕ} (f : RowFrom t at x) (h : at + width ≤ used * width) where
    pub probe_other : x.instrument ≢ i → Probe (covers_at t used i m) at false
    probe_other d = record { tells = λ k e. covers_other t used k i m (rw (f.row k e) at d) }

    pub probe_early : m < x.start → Probe (covers_at t used i m) at false
    probe_early l = record { tells = λ k e. covers_early t used k i m (rw (f.row k e) at l) }

    pub probe_own : {b : Bool} → x.instrument ≡ i → x.start ≤ m → b ≡ ltb m x.end → Probe (covers_at t used i m) at b
    probe_own d l g = record {
      tells = λ k e.
          let q = f.row k e in
          g ∙ ap (λ (y : Row ℕ). ltb m y.end) q ∙ covers_own t used k i m (omega arith) (rw q at d) (rw q at l);
    }

-- ---- the whole

good_or : (a b : Bool) → a ≡ true → T (not a || b) → T b
good_or true b e t = t
good_or false b e t = absurd (let z : ◌≡◌ {A = ℕ} 0 1 = cc in omega arith)

module _ (t : List ℕ) (used i m h : ℕ) {b : Bool} (e : b ≡ table_fits (length t) used) where
  pub looked_unfit : b ≡ false → (answer 15 [] ≡ lookup_answer t used i m h) × (h ≡ lookup_hint t used i m h)
  unfolding lookup_answer lookup_hint
  looked_unfit f =
      let t' : T (not (table_fits (length t) used)) = let n : table_fits (length t) used ≡ false = sym e ∙ f in rw n tt in
      (sym (cond_no (table_fits (length t) used) _ _ t'), sym (cond_no (table_fits (length t) used) _ _ t'))

  pub looked_fit : {r : Answer} {k : ℕ} → b ≡ true → (Ordered (rows t used) → Tells (lookup_rows (rows t used) i m h) r k)
      → T (not (table_fits (length t) used) || ordered same_value (rows t used)) → (r ≡ lookup_answer t used i m h) × (k ≡ lookup_hint t used i m h)
  unfolding lookup_answer lookup_hint
  looked_fit f g d =
      let n : table_fits (length t) used ≡ true = sym e ∙ f in
      let s : Tells (lookup_rows (rows t used) i m h) _ _ =
      g ((ordered_iff same_value symbols (rows t used)).0 (good_or (table_fits (length t) used) (ordered same_value (rows t used)) n d)) in
      let t' : T (table_fits (length t) used) = rw n tt in
      (s.answers ∙ sym (cond_yes (table_fits (length t) used) _ _ t'), s.hints ∙ sym (cond_yes (table_fits (length t) used) _ _ t'))

-- what the code asks of the memory
pub table_holds : {b : Bool} (long used : ℕ) → b ≡ table_fits long used → b ≡ true → used * width ≤ long
table_holds long used e f = let l : Lent long used = table_lent long used (sym e ∙ f) in omega (arith, l.whole, l.in_use)

pub table_limit : {b : Bool} (long used : ℕ) → b ≡ table_fits long used → b ≡ true → used ≤ 65536
table_limit long used e f = let l : Lent long used = table_lent long used (sym e ∙ f) in omega (arith, l.limit, l.in_use)

pub unfit_not : {b : Bool} (long used : ℕ) → b ≡ table_fits long used → b ≡ false → table_fits long used ≡ true → ⊥
unfit_not long used e f g = never (table_fits long used) (true_T (table_fits long used) g) (sym e ∙ f)
