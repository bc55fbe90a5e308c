-- What stores, moves and clearing leave of a table in bytes, place by place, as records, and their laws.
-- Assumes nothing.
use Rattle.std.specs.Prelude.{◌≡◌, refl, ◌≢◌, ℕ, ◌+◌, ◌-◌, ◌*◌, ◌≤◌, ◌<◌, List, get_or}
use Rattle.std.proofs.Common.{ap, ◌∙◌, arith}
use Rattle.std.proofs.Math.ListN.{length}
use Rattle.theory.specs.Fields.{field, put_field, field_same, put_byte, put_same, length_put}
use Rattle.map_rules.specs.Table.{Row}
use Rattle.map_rules.specs.Memory.{row_at, put_row, Fit}
use Rattle.map_rules.specs.MemoryLaws.{blank, row_same}

-- ---- definitions

-- t' is t with the row r at place i
pub record RowSet (t : List ℕ) (i : ℕ) (r : Row ℕ) (t' : List ℕ) : Type 0 where
  pub whole : t' ≡ put_row t i r
  pub here : row_at t' i ≡ r
  pub other : (j : ℕ) → j ≢ i → row_at t' j ≡ row_at t j

-- the rows from f up to n stand at g on, every other place is as it was
pub record Moved (t : List ℕ) (f n g : ℕ) (t' : List ℕ) : Type 0 where
  pub moved : (j : ℕ) → j < n - f → row_at t' (g + j) ≡ row_at t (f + j)
  pub kept : (j : ℕ) → (g ≤ j → j < g + (n - f) → ⊥) → row_at t' j ≡ row_at t j

-- the places from f up to n hold 0, every other is as it was
pub record Cleared (t : List ℕ) (f n : ℕ) (t' : List ℕ) : Type 0 where
  pub zero : (j : ℕ) → f ≤ j → j < n → row_at t' j ≡ blank
  pub kept : (j : ℕ) → (f ≤ j → j < n → ⊥) → row_at t' j ≡ row_at t j

-- in the place of the rows from lo up to hi: l if left is 1, c, and r if right is 1; past both lengths all is as it was
pub record Replaced (t : List ℕ) (used lo hi : ℕ) (l c r : Row ℕ) (left right : ℕ) (t' : List ℕ) : Type 0 where
  pub before : (j : ℕ) → j < lo → row_at t' j ≡ row_at t j
  pub first : left ≡ 1 → row_at t' lo ≡ l
  pub middle : row_at t' (lo + left) ≡ c
  pub last : right ≡ 1 → row_at t' (lo + left + 1) ≡ r
  pub after : (j : ℕ) → j < used - hi → row_at t' (lo + left + 1 + right + j) ≡ row_at t (hi + j)
  pub beyond : (j : ℕ) → used ≤ j → lo + left + 1 + right + (used - hi) ≤ j → row_at t' j ≡ row_at t j

-- ---- a store

module _ (t : List ℕ) (i : ℕ) (r : Row ℕ) (f : Fit r) (fits : i * 24 + 24 ≤ length t) where
  abbrev o : ℕ
  o = i * 24

  abbrev t1 : List ℕ
  t1 = put_field 4 t o r.instrument

  abbrev t2 : List ℕ
  t2 = put_field 4 t1 (o + 4) r.value

  abbrev t3 : List ℕ
  t3 = put_field 8 t2 (o + 8) r.start

  abbrev t4 : List ℕ
  t4 = put_field 8 t3 (o + 16) r.end

  byte1 : (x : ℕ) → (o ≤ x → x < o + 4 → ⊥) → get_or t1 x 0 ≡ get_or t x 0
  byte1 = put_byte 4 t o r.instrument

  byte2 : (x : ℕ) → (o + 4 ≤ x → x < o + 8 → ⊥) → get_or t2 x 0 ≡ get_or t1 x 0
  byte2 x out = put_byte 4 t1 (o + 4) r.value x (λ l u. out l (omega arith))

  byte3 : (x : ℕ) → (o + 8 ≤ x → x < o + 16 → ⊥) → get_or t3 x 0 ≡ get_or t2 x 0
  byte3 x out = put_byte 8 t2 (o + 8) r.start x (λ l u. out l (omega arith))

  byte4 : (x : ℕ) → (o + 16 ≤ x → x < o + 24 → ⊥) → get_or t4 x 0 ≡ get_or t3 x 0
  byte4 x out = put_byte 8 t3 (o + 16) r.end x (λ l u. out l (omega arith))

  byte : (x : ℕ) → (o ≤ x → x < o + 24 → ⊥) → get_or t4 x 0 ≡ get_or t x 0
  byte x out =
      byte4 x (λ l u. out (omega arith) (omega arith))
      ∙ byte3 x (λ l u. out (omega arith) (omega arith))
      ∙ byte2 x (λ l u. out (omega arith) (omega arith))
      ∙ byte1 x (λ l u. out (omega arith) (omega arith))

  put_here : row_at t4 i ≡ r
  unfolding row_at
  put_here =
      let l1 : length t1 ≡ length t = length_put 4 t o r.instrument in
      let l2 : length t2 ≡ length t1 = length_put 4 t1 (o + 4) r.value in
      let l3 : length t3 ≡ length t2 = length_put 8 t2 (o + 8) r.start in
      let e1 : field 4 t4 o ≡ r.instrument =
      field_same 4 t1 t4 o (λ x l u. byte4 x (λ l' u'. omega arith) ∙ byte3 x (λ l' u'. omega arith) ∙ byte2 x (λ l' u'. omega arith))
      ∙ put_same 4 t o r.instrument (omega arith) f.instrument_fits in
      let e2 : field 4 t4 (o + 4) ≡ r.value =
      field_same 4 t2 t4 (o + 4) (λ x l u. byte4 x (λ l' u'. omega arith) ∙ byte3 x (λ l' u'. omega arith))
      ∙ put_same 4 t1 (o + 4) r.value (omega arith) f.value_fits in
      let e3 : field 8 t4 (o + 8) ≡ r.start =
      field_same 8 t3 t4 (o + 8) (λ x l u. byte4 x (λ l' u'. omega arith))
      ∙ put_same 8 t2 (o + 8) r.start (omega arith) f.start_fits in
      let e4 : field 8 t4 (o + 16) ≡ r.end = put_same 8 t3 (o + 16) r.end (omega arith) f.end_fits in
      λ j. record { instrument = e1 j; start = e3 j; end = e4 j; value = e2 j }

  put_set : RowSet t i r (put_row t i r)
  unfolding put_row
  put_set = record {
    whole = refl;
    here = put_here;
    other = λ j ne. row_same t t4 j (λ x l u. byte x (λ l' u'. omega arith));
  }

-- the same, of lists that are known by the four equations that the calls give
pub row_set : {t t1 t2 t3 t4 : List ℕ} {i a v s e : ℕ} → i * 24 + 24 ≤ length t
    → a < 4294967296 → v < 4294967296 → s < 18446744073709551616 → e < 18446744073709551616
    → t1 ≡ put_field 4 t (i * 24) a → t2 ≡ put_field 4 t1 (i * 24 + 4) v → t3 ≡ put_field 8 t2 (i * 24 + 8) s → t4 ≡ put_field 8 t3 (i * 24 + 16) e
    → RowSet t i (record { instrument = a; start = s; end = e; value = v }) t4
unfolding put_row
row_set {t} {t4 = t4} {i = i} {a = a} {v = v} {s = s} {e = e} fits fa fv fs fe e1 e2 e3 e4 =
    let r : Row ℕ = record { instrument = a; start = s; end = e; value = v } in
    let q : t4 ≡ put_row t i r = cc in
    rw q (put_set t i r (record { instrument_fits = fa; value_fits = fv; start_fits = fs; end_fits = fe }) fits)

-- ---- moves

-- where they stand there
pub moved_none : {f g : ℕ} (t : List ℕ) (n : ℕ) → f ≤ g → g ≤ f → Moved t f n g t
moved_none {f} {g} t n h k = let e : g ≡ f = omega arith in record { moved = λ j l. ap (λ (x : ℕ). row_at t (x + j)) e; kept = λ j out. refl }

-- no row to move: all is as it was
pub lower_none : (t : List ℕ) (f m : ℕ) → Moved t f f (f - m) t
lower_none t f m = record { moved = λ j h. absurd (omega arith); kept = λ j out. refl }

-- ---- the rows of a stretch replaced

pub replaced : {t t₁ t₂ t₃ t₄ : List ℕ} {used lo hi : ℕ} {l c r : Row ℕ} {left right : ℕ} → lo ≤ hi → hi ≤ used → left ≤ 1 → right ≤ 1
    → Moved t hi used (lo + left + 1 + right) t₁ → RowSet t₁ (lo + left + right) r t₂ → RowSet t₂ lo l t₃ → RowSet t₃ (lo + left) c t₄
    → Replaced t used lo hi l c r left right t₄
replaced {t} {t₁} {t₂} {t₃} {t₄} {used = used} {lo = lo} {hi = hi} {l = l} {c = c} {r = r} {left = left} {right = right} h h'' hl hr m p q s = record {
  before = λ j k. s.other j (omega arith) ∙ q.other j (omega arith) ∙ p.other j (omega arith) ∙ m.kept j (λ a b. omega arith);
  first = λ e. s.other lo (omega arith) ∙ q.here;
  middle = s.here;
  last = λ e. s.other (lo + left + 1) (omega arith) ∙ q.other (lo + left + 1) (omega arith)
      ∙ (let d : lo + left + 1 ≡ lo + left + right = omega arith in ap (row_at t₂) d) ∙ p.here;
  after = λ j k. s.other (lo + left + 1 + right + j) (omega arith) ∙ q.other (lo + left + 1 + right + j) (omega arith)
      ∙ p.other (lo + left + 1 + right + j) (omega arith) ∙ m.moved j k;
  beyond = λ j a b. s.other j (omega arith) ∙ q.other j (omega arith) ∙ p.other j (omega arith) ∙ m.kept j (λ a' b'. omega arith);
}
