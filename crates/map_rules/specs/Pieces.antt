-- What an insert puts into the place of the rows that it touches, as the code counts and makes it, and that the table then
-- holds the outcome (placed, unplaced). Assumes nothing.
use Rattle.std.specs.Prelude.{◌≡◌, Bool, true, false, not, ◌&&◌, cond, take, drop, ltb}
use Rattle.std.proofs.Math.Path.{refl, ap}
use Rattle.std.proofs.Common.{sym, ◌∙◌, le_refl, zero-add, length-append, length-drop, length-take-le, lt→ltb}
use Prim.Native.Nat.{ℕ, zero, suc, ◌+◌, ◌-◌, ◌*◌, ◌/◌, ◌≤◌, ◌<◌}
use native.Mathlib.Omega.{arith}
use mathlib.Core.List.{List, [], ◌∷◌, ◌++◌}
use Rattle.std.proofs.Math.ListN.{length}
use Rattle.std.proofs.Math.Dec.{eqb_refl}
use Rattle.std.proofs.Math.Arith.{le→nltb}
use Rattle.std.proofs.Math.Facts.{eqb_yes}
use Rattle.theory.specs.Runs.{Interval, Same}
use Rattle.theory.specs.Answer.{answer}
use Rattle.theory.specs.Fields.{Bytes}
use Rattle.theory.specs.RunsTools.{cond_lt, cond_ge, cond_yes, cond_no, T_and, T_nor_l, T_nor_r}
use Rattle.map_rules.specs.Table.{Row, row_of, tagged, Ordered, insert_rows, refused_by, stored, now_stored, if_room}
use Rattle.map_rules.specs.Splice.{left_of, right_of, core, core_start, core_end}
use Rattle.map_rules.specs.RowSplice.{Cut, between, spliced_by}
use Rattle.map_rules.specs.Memory.{width, same_value, row_at, rows_from, rows, rows_written, memory_after, outcome_answer, used_after, Gives}
use Rattle.map_rules.specs.MemoryLaws.{blank, length_rows, rows_eq, rows_add, rows_take, rows_drop, memory_is}
use Rattle.map_rules.specs.Moves.{Replaced, Cleared}
use Rattle.map_rules.specs.Search.{Found, at_row, cuts}

-- ---- definitions: n touches x first and z last

-- 1 if something is left of x before n, else 0
unfoldable pub left_count : Row ℕ → Row ℕ → ℕ
left_count n x = cond (ltb x.start n.start && not (same_value x.value n.value)) 1 0

-- 1 if something is left of z after n, else 0
unfoldable pub right_count : Row ℕ → Row ℕ → ℕ
right_count n z = cond (ltb n.end z.end && not (same_value n.value z.value)) 1 0

-- where the new row starts: with x, where x starts before it and has its value
unfoldable pub joined_start : Row ℕ → Row ℕ → ℕ
joined_start n x = cond (ltb x.start n.start && same_value x.value n.value) x.start n.start

-- where it ends: with z, where z ends after it and has its value
unfoldable pub joined_end : Row ℕ → Row ℕ → ℕ
joined_end n z = cond (ltb n.end z.end && same_value n.value z.value) z.end n.end

-- what is left of x before n
abbrev pub left_row : Row ℕ → Row ℕ → Row ℕ
left_row n x = record { instrument = n.instrument; start = x.start; end = n.start; value = x.value }

-- the new row with what it is joined to
abbrev pub mid_row : Row ℕ → ℕ → ℕ → Row ℕ
mid_row n s e = record { instrument = n.instrument; start = s; end = e; value = n.value }

-- what is left of z after n
abbrev pub right_row : Row ℕ → Row ℕ → Row ℕ
right_row n z = record { instrument = n.instrument; start = n.end; end = z.end; value = z.value }

-- r in front of rs, if the count is not 0
unfoldable pub only_if : ℕ → Row ℕ → List (Row ℕ) → List (Row ℕ)
only_if zero r rs = rs
only_if (suc k) r rs = r ∷ rs

-- ---- two tests at once

pub symbols : Same same_value
symbols = record { alike = λ u v t. eqb_yes t; itself = eqb_refl }

module _ (a b u v : ℕ) (p : Bool) where
  and_yes : a < b → p ≡ true → u ≡ cond (ltb a b && p) u v
  and_yes h e = sym (cond_yes (ltb a b && p) u v (T_and (ltb a b) p (lt→ltb a b h) (rw e tt)))

  and_no : p ≡ false → v ≡ cond (ltb a b && p) u v
  and_no e = sym (cond_no (ltb a b && p) u v (T_nor_r (ltb a b) p (rw e tt)))

  and_ge : b ≤ a → v ≡ cond (ltb a b && p) u v
  and_ge h = sym (cond_no (ltb a b && p) u v (T_nor_l (ltb a b) p (le→nltb a b h)))

not_false : (p : Bool) → p ≡ false → not p ≡ true
not_false p e = ap not e

not_true : (p : Bool) → p ≡ true → not p ≡ false
not_true p e = ap not e

-- ---- the counts and the ends, by the two tests

module _ (n x : Row ℕ) {p : Bool} where
  pub left_yes : x.start < n.start → p ≡ same_value x.value n.value → p ≡ false → 1 ≡ left_count n x
  unfolding left_count
  left_yes h e f = and_yes x.start n.start 1 0 (not (same_value x.value n.value)) h (not_false (same_value x.value n.value) (sym e ∙ f))

  pub left_not : p ≡ same_value x.value n.value → p ≡ true → 0 ≡ left_count n x
  unfolding left_count
  left_not e f = and_no x.start n.start 1 0 (not (same_value x.value n.value)) (not_true (same_value x.value n.value) (sym e ∙ f))

  pub right_yes : n.end < x.end → p ≡ same_value n.value x.value → p ≡ false → 1 ≡ right_count n x
  unfolding right_count
  right_yes h e f = and_yes n.end x.end 1 0 (not (same_value n.value x.value)) h (not_false (same_value n.value x.value) (sym e ∙ f))

  pub right_not : p ≡ same_value n.value x.value → p ≡ true → 0 ≡ right_count n x
  unfolding right_count
  right_not e f = and_no n.end x.end 1 0 (not (same_value n.value x.value)) (not_true (same_value n.value x.value) (sym e ∙ f))

  pub start_yes : {a : ℕ} → x.start < n.start → p ≡ same_value x.value n.value → p ≡ true → a ≡ x.start → a ≡ joined_start n x
  unfolding joined_start
  start_yes h e f d = d ∙ and_yes x.start n.start x.start n.start (same_value x.value n.value) h (sym e ∙ f)

  pub start_not : {a : ℕ} → p ≡ same_value x.value n.value → p ≡ false → a ≡ n.start → a ≡ joined_start n x
  unfolding joined_start
  start_not e f d = d ∙ and_no x.start n.start x.start n.start (same_value x.value n.value) (sym e ∙ f)

  pub end_yes : {a : ℕ} → n.end < x.end → p ≡ same_value n.value x.value → p ≡ true → a ≡ x.end → a ≡ joined_end n x
  unfolding joined_end
  end_yes h e f d = d ∙ and_yes n.end x.end x.end n.end (same_value n.value x.value) h (sym e ∙ f)

  pub end_not : {a : ℕ} → p ≡ same_value n.value x.value → p ≡ false → a ≡ n.end → a ≡ joined_end n x
  unfolding joined_end
  end_not e f d = d ∙ and_no n.end x.end x.end n.end (same_value n.value x.value) (sym e ∙ f)

module _ (n x : Row ℕ) where
  pub left_ge : n.start ≤ x.start → 0 ≡ left_count n x
  unfolding left_count
  left_ge = and_ge x.start n.start 1 0 (not (same_value x.value n.value))

  pub right_ge : x.end ≤ n.end → 0 ≡ right_count n x
  unfolding right_count
  right_ge = and_ge n.end x.end 1 0 (not (same_value n.value x.value))

  pub start_ge : {a : ℕ} → n.start ≤ x.start → a ≡ n.start → a ≡ joined_start n x
  unfolding joined_start
  start_ge h d = d ∙ and_ge x.start n.start x.start n.start (same_value x.value n.value) h

  pub end_ge : {a : ℕ} → x.end ≤ n.end → a ≡ n.end → a ≡ joined_end n x
  unfolding joined_end
  end_ge h d = d ∙ and_ge n.end x.end x.end n.end (same_value n.value x.value) h

-- ---- the pieces as rows

if_front : (b : Bool) (i : ℕ) (l : Row ℕ) (rs : List (Row ℕ)) (u : Interval ℕ) (us : List (Interval ℕ)) → l ≡ row_of i u → rs ≡ tagged i us
    → only_if (cond b 1 0) l rs ≡ tagged i (cond b (u ∷ us) us)
unfolding only_if tagged
if_front true i l rs u us d e = λ q. d q ∷ e q
if_front false i l rs u us d e = e

pieces : (n x z : Row ℕ)
    → only_if (left_count n x) (left_row n x) (mid_row n (joined_start n x) (joined_end n z) ∷ only_if (right_count n z) (right_row n z) [])
    ≡ between same_value symbols n x z
unfolding left_count right_count joined_start joined_end between left_of right_of core core_start core_end tagged
pieces n x z =
    if_front (ltb x.start n.start && not (same_value x.value n.value)) n.instrument (left_row n x) _ _ _ refl
    (ap (λ (rs : List (Row ℕ)). mid_row n (joined_start n x) (joined_end n z) ∷ rs)
    (if_front (ltb n.end z.end && not (same_value n.value z.value)) n.instrument (right_row n z) [] _ [] refl refl))

length_only : (k : ℕ) (r : Row ℕ) (rs : List (Row ℕ)) → k ≤ 1 → length (only_if k r rs) ≡ k + length rs
unfolding only_if
length_only zero r rs h = omega arith
length_only (suc zero) r rs h = omega arith
length_only (suc (suc k)) r rs h = absurd (omega arith)

count_le : (b : Bool) → cond b 1 0 ≤ 1
count_le true = le_refl 1
count_le false = omega arith

pub left_le : (n x : Row ℕ) → left_count n x ≤ 1
unfolding left_count
left_le n x = count_le (ltb x.start n.start && not (same_value x.value n.value))

pub right_le : (n z : Row ℕ) → right_count n z ≤ 1
unfolding right_count
right_le n z = count_le (ltb n.end z.end && not (same_value n.value z.value))

length_pieces : (left right : ℕ) (l c r : Row ℕ) → left ≤ 1 → right ≤ 1 → length (only_if left l (c ∷ only_if right r [])) ≡ left + 1 + right
length_pieces left right l c r hl hr =
    let d : length (only_if right r []) ≡ right + 0 = length_only right r [] hr in
    length_only left l (c ∷ only_if right r []) hl ∙ omega arith

length_splice : (t : List ℕ) (used lo hi : ℕ) (ms : List (Row ℕ)) → lo ≤ hi → hi ≤ used
    → length (take lo (rows t used) ++ (ms ++ drop hi (rows t used))) ≡ lo + (length ms + (used - hi))
length_splice t used lo hi ms h k =
    let a : length (take lo (rows t used)) ≡ lo = length-take-le lo (rows t used) (rw (length_rows t 0 used) (omega arith)) in
    let b : length (drop hi (rows t used)) ≡ used - hi = rw (length_rows t 0 used) at (length-drop hi (rows t used)) in
    rw (length-append (take lo (rows t used)) (ms ++ drop hi (rows t used)), length-append ms (drop hi (rows t used)), a, b) refl

-- ---- the rows once a stretch is replaced

module _ {t t' : List ℕ} {used lo hi : ℕ} {l c r : Row ℕ} {left right : ℕ} (h : lo ≤ hi) (k : hi ≤ used)
    (hl : left ≤ 1) (hr : right ≤ 1) (p : Replaced t used lo hi l c r left right t') where
  here : left ≡ 0 → row_at t' lo ≡ c
  here d = (let z : lo ≡ lo + left = omega arith in ap (row_at t') z) ∙ p.middle

  mids : (a b : ℕ) → left ≡ a → right ≡ b → rows_from t' lo (a + 1 + b) ≡ only_if a l (c ∷ only_if b r [])
  unfolding only_if rows_from
  mids zero zero d e = let m : row_at t' lo ≡ c = here d in λ i. m i ∷ []
  mids zero (suc zero) d e =
      let m : row_at t' lo ≡ c = here d in
      let q : row_at t' (suc lo) ≡ r = (let z : suc lo ≡ lo + left + 1 = omega arith in ap (row_at t') z) ∙ p.last e in
      λ i. m i ∷ q i ∷ []
  mids zero (suc (suc b)) d e = absurd (omega arith)
  mids (suc zero) zero d e =
      let f : row_at t' lo ≡ l = p.first d in
      let m : row_at t' (suc lo) ≡ c = (let z : suc lo ≡ lo + left = omega arith in ap (row_at t') z) ∙ p.middle in
      λ i. f i ∷ m i ∷ []
  mids (suc zero) (suc zero) d e =
      let f : row_at t' lo ≡ l = p.first d in
      let m : row_at t' (suc lo) ≡ c = (let z : suc lo ≡ lo + left = omega arith in ap (row_at t') z) ∙ p.middle in
      let q : row_at t' (suc (suc lo)) ≡ r = (let z : suc (suc lo) ≡ lo + left + 1 = omega arith in ap (row_at t') z) ∙ p.last e in
      λ i. f i ∷ m i ∷ q i ∷ []
  mids (suc zero) (suc (suc b)) d e = absurd (omega arith)
  mids (suc (suc a)) b d e = absurd (omega arith)

  replaced_rows : rows t' (lo + (left + 1 + right + (used - hi))) ≡ take lo (rows t used) ++ (only_if left l (c ∷ only_if right r []) ++ drop hi (rows t used))
  replaced_rows =
      rows_add t' 0 lo (left + 1 + right + (used - hi))
      ∙ (λ i. (rows_eq t t' 0 0 lo (λ j q. rw zero-add (p.before j q)) ∙ sym (rows_take t 0 used lo (omega arith))) i
      ++ (rows_add t' (0 + lo) (left + 1 + right) (used - hi)
      ∙ (λ q. (ap (λ (j : ℕ). rows_from t' j (left + 1 + right)) (zero-add lo) ∙ mids left right refl refl) q
      ++ (rows_eq t t' hi (0 + lo + (left + 1 + right)) (used - hi)
      (λ j m. (let e : 0 + lo + (left + 1 + right) + j ≡ lo + left + 1 + right + j = omega arith in ap (row_at t') e) ∙ p.after j m)
      ∙ sym (rows_drop t 0 used hi k ∙ ap (λ (j : ℕ). rows_from t j (used - hi)) (zero-add hi))) q)) i)

-- ---- the insert in place

module _ {t : List ℕ} {used : ℕ} {n : Row ℕ} (h : n.start < n.end) (w : Ordered (rows t used)) {lo hi : ℕ}
    (a : Found t used n 1 lo) (b : Found t used n 2 hi) {x z : Row ℕ}
    (fx : lo < hi → x ≡ row_at t lo) (nx : hi ≤ lo → x ≡ n) (fz : lo < hi → z ≡ row_at t (hi - 1)) (nz : hi ≤ lo → z ≡ n) where
  cut_here : Cut n (rows t used) blank lo hi
  cut_here = cuts t used n lo hi h w a b

  spliced : insert_rows same_value n (rows t used) ≡ take lo (rows t used) ++ (between same_value symbols n x z ++ drop hi (rows t used))
  spliced =
      spliced_by same_value symbols n (rows t used) blank lo hi h w cut_here x z
      (λ k. fx k ∙ sym (at_row t used lo (omega (arith, b.within)))) nx (λ k. fz k ∙ sym (at_row t used (hi - 1) (omega (arith, b.within)))) nz

  pub outcome_length : {left right : ℕ} → left ≡ left_count n x → right ≡ right_count n z
      → length (insert_rows same_value n (rows t used)) ≡ lo + left + 1 + right + (used - hi)
  outcome_length {left} {right} el er =
      ap length spliced
      ∙ length_splice t used lo hi (between same_value symbols n x z) cut_here.ordered b.within
      ∙ ap (λ (ms : List (Row ℕ)). lo + (length ms + (used - hi))) (sym (pieces n x z))
      ∙ ap (λ (k : ℕ). lo + (k + (used - hi)))
      (length_pieces (left_count n x) (right_count n z) (left_row n x) (mid_row n (joined_start n x) (joined_end n z)) (right_row n z) (left_le n x) (right_le n z))
      ∙ omega arith

  pub outcome_rows : {left right s e : ℕ} {t' : List ℕ} → left ≡ left_count n x → right ≡ right_count n z → s ≡ joined_start n x → e ≡ joined_end n z
      → Replaced t used lo hi (left_row n x) (mid_row n s e) (right_row n z) left right t'
      → rows t' (lo + left + 1 + right + (used - hi)) ≡ insert_rows same_value n (rows t used)
  outcome_rows {left} {right} {s} {e} {t'} el er es ee p =
      let q : lo + left + 1 + right + (used - hi) ≡ lo + (left + 1 + right + (used - hi)) = omega arith in
      ap (λ (j : ℕ). rows t' j) q
      ∙ replaced_rows cut_here.ordered b.within (rw el (left_le n x)) (rw er (right_le n z)) p
      ∙ (λ j. take lo (rows t used)
      ++ (only_if (el j) (left_row n x) (mid_row n (es j) (ee j) ∷ only_if (er j) (right_row n z) []) ++ drop hi (rows t used)))
      ∙ ap (λ (ms : List (Row ℕ)). take lo (rows t used) ++ (ms ++ drop hi (rows t used))) (pieces n x z)
      ∙ sym spliced

  -- where the outcome does not fit
  pub unplaced : {left right : ℕ} → left ≡ left_count n x → right ≡ right_count n z → length t / width < lo + left + 1 + right + (used - hi)
      → Gives (if_room (length t / width) (insert_rows same_value n (rows t used))) t used (answer 2 []) t
  unfolding if_room outcome_answer memory_after used_after now_stored
  unplaced el er k =
      let l : length t / width < length (insert_rows same_value n (rows t used)) = rw (outcome_length el er) k in
      rw (cond_lt (length t / width) (length (insert_rows same_value n (rows t used))) (refused_by 2) (stored (insert_rows same_value n (rows t used))) l)
      (record { answers = refl; memory = refl; holds = refl })

  -- where it fits: the stretch replaced, and the freed places cleared
  pub placed : {left right s e : ℕ} {t₁ t' : List ℕ} → left ≡ left_count n x → right ≡ right_count n z → s ≡ joined_start n x → e ≡ joined_end n z
      → Bytes t → Bytes t' → length t ≡ length t / width * width → length t' ≡ length t → used ≤ length t / width
      → lo + left + 1 + right + (used - hi) ≤ length t / width
      → Replaced t used lo hi (left_row n x) (mid_row n s e) (right_row n z) left right t₁
      → Cleared t₁ (lo + left + 1 + right + (used - hi)) used t'
      → Gives (if_room (length t / width) (insert_rows same_value n (rows t used))) t used (answer 0 ((lo + left + 1 + right + (used - hi)) ∷ [])) t'
  unfolding if_room outcome_answer memory_after used_after now_stored
  placed {left} {right} {s} {e} {t₁} {t'} el er es ee b b' m l u k p q =
      let ys : List (Row ℕ) = insert_rows same_value n (rows t used) in
      let total : ℕ = lo + left + 1 + right + (used - hi) in
      let long : length ys ≡ total = outcome_length el er in
      let same : rows t' total ≡ rows t₁ total =
      rows_eq t₁ t' 0 0 total (λ j i. q.kept (0 + j) (λ c d. omega arith)) in
      let rs : rows t' total ≡ ys = same ∙ outcome_rows el er es ee p in
      let all : t' ≡ rows_written t used ys =
      memory_is t t' (length t / width) used total ys b b' m l u k rs (λ j i d. q.zero j i d)
      (λ j i d. q.kept j (λ c f. omega arith) ∙ p.beyond j d i) in
      rw (cond_ge (length t / width) (length ys) (refused_by 2) (stored ys) (omega arith))
      (record {
        answers = ap (λ (c : ℕ). answer 0 (c ∷ [])) (sym long);
        memory = all;
        holds = ap (λ (c : ℕ). rows t' c) long ∙ rs;
      })
