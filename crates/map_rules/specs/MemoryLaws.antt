-- Bytes and rows determine each other: the bytes of the rows of a memory are its bytes (bytes-rows), the rows of the bytes of
-- rows whose fields fit are those rows (rows-bytes), and so what holds of every place gives the whole memory (memory-is).
-- Assumes nothing.
use Rattle.std.specs.Prelude.{◌≡◌, refl, ℕ, zero, suc, ◌+◌, ◌-◌, ◌*◌, ◌/◌, ◌%◌, ◌^◌, ◌≤◌, ◌<◌, max, List, [], ◌∷◌, ◌++◌, length, get_or, take, drop, replicate}
use Rattle.std.proofs.Common.{sym, ap, ◌∙◌, add-zero, zero-add, suc-add, add-suc, mul_comm, div-lt_iff_lt-mul, arith, append_assoc, length-drop, take-add, take_all, drop-drop, drop-cons, drop_at}
use Rattle.std.proofs.Math.Nat.{pow-succ'}
use Rattle.std.proofs.lemmas.List.{replicate-append-replicate}
use Rattle.theory.specs.Runs.{All}
use Rattle.theory.specs.Fields.{field, Agree, Bytes, field_same, field_drop, field_below}
use Rattle.map_rules.specs.Table.{Row}
use Rattle.map_rules.specs.Memory.{row_at, Fit, rows_from, rows, bytes_of, row_bytes, rows_bytes, rows_written}

-- ---- the rows of a memory, one by one and as a list

pub length_rows : (t : List ℕ) (k n : ℕ) → length (rows_from t k n) ≡ n
unfolding rows_from
length_rows t k zero = refl
length_rows t k (suc n) = ap suc (length_rows t (suc k) n)

pub get_d_rows : (t : List ℕ) (k n i : ℕ) (d : Row ℕ) → i < n → get_or (rows_from t k n) i d ≡ row_at t (k + i)
unfolding rows_from
get_d_rows t k zero i d h = absurd (omega arith)
get_d_rows t k (suc n) zero d h = ap (row_at t) (omega arith)
get_d_rows t k (suc n) (suc i) d h = get_d_rows t (suc k) n i d (omega arith) ∙ ap (row_at t) (omega arith)

-- two stretches of rows that agree one by one are the same list
pub rows_eq : (t t' : List ℕ) (k k' n : ℕ) → ((j : ℕ) → j < n → row_at t' (k' + j) ≡ row_at t (k + j)) → rows_from t' k' n ≡ rows_from t k n
unfolding rows_from
rows_eq t t' k k' zero h = refl
rows_eq t t' k k' (suc n) h =
    cc (
      simp add-zero at (h 0 (omega arith)),
      rows_eq t t' (suc k) (suc k') n (λ j l. rw (suc-add k' j, suc-add k j, ← add-suc k, ← add-suc k') (h (suc j) (omega arith))),
    )

pub rows_add : (t : List ℕ) (k a b : ℕ) → rows_from t k (a + b) ≡ rows_from t k a ++ rows_from t (k + a) b
unfolding rows_from
rows_add t k zero b = rw (zero-add b, add-zero k) refl
rows_add t k (suc a) b =
    rw (suc-add a b)
    (ap (λ (rs : List (Row ℕ)). row_at t k ∷ rs)
    (rows_add t (suc k) a b ∙ (let e : suc k + a ≡ k + suc a = omega arith in ap (λ (j : ℕ). rows_from t (suc k) a ++ rows_from t j b) e)))

pub rows_take : (t : List ℕ) (k n a : ℕ) → a ≤ n → take a (rows_from t k n) ≡ rows_from t k a
unfolding rows_from
rows_take t k n zero h = refl
rows_take t k zero (suc a) h = absurd (omega arith)
rows_take t k (suc n) (suc a) h = ap (λ (rs : List (Row ℕ)). row_at t k ∷ rs) (rows_take t (suc k) n a (omega arith))

pub rows_drop : (t : List ℕ) (k n a : ℕ) → a ≤ n → drop a (rows_from t k n) ≡ rows_from t (k + a) (n - a)
unfolding rows_from
rows_drop t k n zero h = let e : n - 0 ≡ n = omega arith in rw (add-zero k, e) refl
rows_drop t k zero (suc a) h = absurd (omega arith)
rows_drop t k (suc n) (suc a) h =
    let e : suc k + a ≡ k + suc a = omega arith in
    let d : n - a ≡ suc n - suc a = omega arith in
    rows_drop t (suc k) n a (omega arith) ∙ (λ i. rows_from t (e i) (d i))

-- the row of two memories that agree on its bytes
pub row_same : (b b' : List ℕ) (j : ℕ) → Agree b b' (j * 24) 24 → row_at b' j ≡ row_at b j
unfolding row_at
row_same b b' j h =
    cc (
      field_same 4 b b' (j * 24) (λ x l u. h x (omega arith) (omega arith)),
      field_same 4 b b' (j * 24 + 4) (λ x l u. h x (omega arith) (omega arith)),
      field_same 8 b b' (j * 24 + 8) (λ x l u. h x (omega arith) (omega arith)),
      field_same 8 b b' (j * 24 + 16) (λ x l u. h x (omega arith) (omega arith)),
    )

-- ---- from bytes to rows and back

pub length_bytes : (w v : ℕ) → length (bytes_of w v) ≡ w
unfolding bytes_of
length_bytes zero v = refl
length_bytes (suc w) v = ap suc (length_bytes w (v / 256))

pub length_row : (x : Row ℕ) → length (row_bytes x) ≡ 24
unfolding row_bytes bytes_of
length_row x = refl

bytes_field : (w : ℕ) (t : List ℕ) (at : ℕ) → Bytes t → at + w ≤ length t → bytes_of w (field w t at) ≡ take w (drop at t)
unfolding bytes_of field
bytes_field zero t at h l = refl
bytes_field (suc w) t at h l =
    let f : ℕ = field w t (at + 1) in
    let b : get_or t at 0 < 256 = h at in
    let low : (get_or t at 0 + 256 * f) % 256 ≡ get_or t at 0 = omega arith in
    let high : (get_or t at 0 + 256 * f) / 256 ≡ f = omega arith in
    (λ i. low i ∷ bytes_of w (high i))
    ∙ ap (λ (bs : List ℕ). get_or t at 0 ∷ bs) (bytes_field w t (at + 1) h (omega arith))
    ∙ sym (ap (take (suc w)) (drop-cons t at 0 (omega arith)) ∙ (let e : suc at ≡ at + 1 = omega arith in ap (λ (k : ℕ). get_or t at 0 ∷ take w (drop k t)) e))

-- four parts one after another
parts : (o : ℕ) (t : List ℕ) → take 4 (drop o t) ++ (take 4 (drop (o + 4) t) ++ (take 8 (drop (o + 8) t) ++ take 8 (drop (o + 16) t))) ≡ take 24 (drop o t)
parts o t =
    sym (
    take-add 4 20 (drop o t)
    ∙ ap (λ (bs : List ℕ). take 4 (drop o t) ++ bs)
    (ap (take 20) (drop-drop 4 o t) ∙ take-add 4 16 (drop (o + 4) t)
    ∙ ap (λ (bs : List ℕ). take 4 (drop (o + 4) t) ++ bs)
    (ap (take 16) (drop-drop 4 (o + 4) t ∙ (let e : o + 4 + 4 ≡ o + 8 = omega arith in ap (λ (k : ℕ). drop k t) e))
    ∙ take-add 8 8 (drop (o + 8) t)
    ∙ ap (λ (bs : List ℕ). take 8 (drop (o + 8) t) ++ bs)
    (ap (take 8) (drop-drop 8 (o + 8) t ∙ (let e : o + 8 + 8 ≡ o + 16 = omega arith in ap (λ (k : ℕ). drop k t) e)))))
    )

bytes_row : (t : List ℕ) (i : ℕ) → Bytes t → i * 24 + 24 ≤ length t → row_bytes (row_at t i) ≡ take 24 (drop (i * 24) t)
unfolding row_bytes row_at
bytes_row t i h l =
    (λ q. bytes_field 4 t (i * 24) h (omega arith) q
    ++ (bytes_field 4 t (i * 24 + 4) h (omega arith) q
    ++ (bytes_field 8 t (i * 24 + 8) h (omega arith) q ++ bytes_field 8 t (i * 24 + 16) h (omega arith) q)))
    ∙ parts (i * 24) t

bytes_from : (t : List ℕ) (k n : ℕ) → Bytes t → (k + n) * 24 ≤ length t → rows_bytes (rows_from t k n) ≡ take (n * 24) (drop (k * 24) t)
unfolding rows_bytes rows_from
bytes_from t k zero h l = refl
bytes_from t k (suc n) h l =
    let e : suc n * 24 ≡ 24 + n * 24 = omega arith in
    let d : k * 24 + 24 ≡ suc k * 24 = omega arith in
    (λ q. bytes_row t k h (omega arith) q ++ bytes_from t (suc k) n h (omega arith) q)
    ∙ sym (ap (λ (m : ℕ). take m (drop (k * 24) t)) e ∙ take-add 24 (n * 24) (drop (k * 24) t)
    ∙ ap (λ (bs : List ℕ). take 24 (drop (k * 24) t) ++ take (n * 24) bs) (drop-drop 24 (k * 24) t ∙ ap (λ (m : ℕ). drop m t) d))

-- the bytes of all rows are the memory
pub bytes_rows : (t : List ℕ) (room : ℕ) → Bytes t → length t ≡ room * 24 → rows_bytes (rows t room) ≡ t
bytes_rows t room h l = bytes_from t 0 room h (omega arith) ∙ take_all (room * 24) t (omega arith)

bytes_append : (xs ys : List (Row ℕ)) → rows_bytes (xs ++ ys) ≡ rows_bytes xs ++ rows_bytes ys
unfolding rows_bytes
bytes_append [] ys = refl
bytes_append (x ∷ xs) ys = ap (λ (bs : List ℕ). row_bytes x ++ bs) (bytes_append xs ys) ∙ sym (append_assoc (row_bytes x) (rows_bytes xs) (rows_bytes ys))

-- a place that holds 0
abbrev pub blank : Row ℕ
blank = record { instrument = 0; start = 0; end = 0; value = 0 }

bytes_blank : (k : ℕ) → rows_bytes (replicate k blank) ≡ replicate (k * 24) 0
unfolding rows_bytes row_bytes bytes_of
bytes_blank zero = refl
bytes_blank (suc k) =
    let e : 24 + k * 24 ≡ suc k * 24 = omega arith in
    ap (λ (bs : List ℕ). replicate 24 0 ++ bs) (bytes_blank k) ∙ replicate-append-replicate 24 (k * 24) 0 ∙ ap (λ (m : ℕ). replicate m 0) e

blank_rows : (t : List ℕ) (k n : ℕ) → ((j : ℕ) → j < n → row_at t (k + j) ≡ blank) → rows_from t k n ≡ replicate n blank
unfolding rows_from
blank_rows t k zero h = refl
blank_rows t k (suc n) h =
    let e : row_at t k ≡ blank = simp add-zero at (h 0 (omega arith)) in
    let d : rows_from t (suc k) n ≡ replicate n blank = blank_rows t (suc k) n (λ j l. rw (suc-add, ← add-suc k) (h (suc j) (omega arith))) in
    λ i. e i ∷ d i

-- what holds of every place gives the whole memory
pub memory_is : (t t' : List ℕ) (room used m : ℕ) (ys : List (Row ℕ)) → Bytes t → Bytes t' → length t ≡ room * 24 → length t' ≡ length t
    → used ≤ room → m ≤ room → rows t' m ≡ ys
    → ((j : ℕ) → m ≤ j → j < used → row_at t' j ≡ blank) → ((j : ℕ) → m ≤ j → used ≤ j → row_at t' j ≡ row_at t j)
    → t' ≡ rows_written t used ys
unfolding rows_written
memory_is t t' room used m ys b b' l l' hu hm e z k =
    let lm : length ys ≡ m = ap length (sym e) ∙ length_rows t' 0 m in
    let x : ℕ = max used m in
    let s : room ≡ m + ((used - m) + (room - x)) = omega arith in
    let first : rows_bytes (rows_from t' 0 m) ≡ rows_bytes ys = ap rows_bytes e in
    let mid : rows_bytes (rows_from t' (0 + m) (used - m)) ≡ replicate ((used - length ys) * 24) 0 =
    ap rows_bytes (blank_rows t' (0 + m) (used - m) (λ j q. (let c : 0 + m + j ≡ m + j = omega arith in ap (row_at t') c) ∙ z (m + j) (omega arith) (omega arith)))
    ∙ bytes_blank (used - m) ∙ ap (λ (n : ℕ). replicate ((used - n) * 24) 0) (sym lm) in
    let last : rows_bytes (rows_from t' (0 + m + (used - m)) (room - x)) ≡ drop (max used (length ys) * 24) t =
    ap rows_bytes (rows_eq t t' x (0 + m + (used - m)) (room - x)
    (λ j q. (let c : 0 + m + (used - m) + j ≡ x + j = omega arith in ap (row_at t') c) ∙ k (x + j) (omega arith) (omega arith)))
    ∙ bytes_from t x (room - x) b (omega arith)
    ∙ take_all ((room - x) * 24) (drop (x * 24) t) (rw (length-drop (x * 24) t) (omega arith))
    ∙ ap (λ (n : ℕ). drop (max used n * 24) t) (sym lm) in
    sym (bytes_rows t' room b' (omega arith))
    ∙ ap (λ (n : ℕ). rows_bytes (rows_from t' 0 n)) s
    ∙ ap rows_bytes (rows_add t' 0 m ((used - m) + (room - x)) ∙ ap (λ (rs : List (Row ℕ)). rows_from t' 0 m ++ rs) (rows_add t' (0 + m) (used - m) (room - x)))
    ∙ bytes_append (rows_from t' 0 m) (rows_from t' (0 + m) (used - m) ++ rows_from t' (0 + m + (used - m)) (room - x))
    ∙ ap (λ (bs : List ℕ). rows_bytes (rows_from t' 0 m) ++ bs) (bytes_append (rows_from t' (0 + m) (used - m)) (rows_from t' (0 + m + (used - m)) (room - x)))
    ∙ (λ q. first q ++ (mid q ++ last q))

-- rows that are as they were leave the memory as it was
pub written_same : (t : List ℕ) (room used : ℕ) → Bytes t → length t ≡ room * 24 → used ≤ room → t ≡ rows_written t used (rows t used)
written_same t room used b l h =
    memory_is t t room used used (rows t used) b b l refl h h refl (λ j p q. absurd (omega arith)) (λ j p q. refl)

-- ---- from rows to bytes and back

field_bytes : (w v : ℕ) (q : List ℕ) → v < 256 ^ w → field w (bytes_of w v ++ q) 0 ≡ v
unfolding field bytes_of
field_bytes zero v q h = omega arith
field_bytes (suc w) v q h =
    let high : v / 256 < 256 ^ w = (div-lt_iff_lt-mul {k = 256} {y = 256 ^ w} (omega arith)).1 (rw (mul_comm (256 ^ w) 256, ← pow-succ' 256 w) h) in
    omega (arith, field_bytes w (v / 256) q high, sym (field_drop w (v % 256 ∷ (bytes_of w (v / 256) ++ q)) 1 0))

field_past : (w : ℕ) (p q : List ℕ) (n at : ℕ) → length p ≡ n → field w (p ++ q) (n + at) ≡ field w q at
field_past w p q n at l = sym (field_drop w (p ++ q) n at) ∙ ap (λ (b : List ℕ). field w b at) (drop_at p q n l)

row_bytes_lem : (x : Row ℕ) (q : List ℕ) → Fit x → row_at (row_bytes x ++ q) 0 ≡ x
unfolding row_at row_bytes
row_bytes_lem x q f =
    let i : List ℕ = bytes_of 4 x.instrument in
    let v : List ℕ = bytes_of 4 x.value in
    let s : List ℕ = bytes_of 8 x.start in
    let e : List ℕ = bytes_of 8 x.end in
    let b : List ℕ = (i ++ (v ++ (s ++ e))) ++ q in
    let d : b ≡ i ++ (v ++ (s ++ (e ++ q))) = simp append_assoc in
    let ei : field 4 b 0 ≡ x.instrument = ap (λ (u : List ℕ). field 4 u 0) d ∙ field_bytes 4 x.instrument (v ++ (s ++ (e ++ q))) f.instrument_fits in
    let ev : field 4 b 4 ≡ x.value =
    ap (λ (u : List ℕ). field 4 u 4) d ∙ field_past 4 i (v ++ (s ++ (e ++ q))) 4 0 (length_bytes 4 x.instrument) ∙ field_bytes 4 x.value (s ++ (e ++ q)) f.value_fits in
    let es : field 8 b 8 ≡ x.start =
    ap (λ (u : List ℕ). field 8 u 8) d ∙ field_past 8 i (v ++ (s ++ (e ++ q))) 4 4 (length_bytes 4 x.instrument)
    ∙ field_past 8 v (s ++ (e ++ q)) 4 0 (length_bytes 4 x.value) ∙ field_bytes 8 x.start (e ++ q) f.start_fits in
    let ee : field 8 b 16 ≡ x.end =
    ap (λ (u : List ℕ). field 8 u 16) d ∙ field_past 8 i (v ++ (s ++ (e ++ q))) 4 12 (length_bytes 4 x.instrument)
    ∙ field_past 8 v (s ++ (e ++ q)) 4 8 (length_bytes 4 x.value) ∙ field_past 8 s (e ++ q) 8 0 (length_bytes 8 x.start)
    ∙ field_bytes 8 x.end q f.end_fits in
    λ j. record { instrument = ei j; start = es j; end = ee j; value = ev j }

row_past : (p q : List ℕ) (j : ℕ) → length p ≡ 24 → row_at (p ++ q) (suc j) ≡ row_at q j
unfolding row_at
row_past p q j l =
    λ i. record {
      instrument = past 4 (suc j * 24) (j * 24) (omega arith) i;
      start = past 8 (suc j * 24 + 8) (j * 24 + 8) (omega arith) i;
      end = past 8 (suc j * 24 + 16) (j * 24 + 16) (omega arith) i;
      value = past 4 (suc j * 24 + 4) (j * 24 + 4) (omega arith) i;
    }
  where
    past : (w a b : ℕ) → a ≡ 24 + b → field w (p ++ q) a ≡ field w q b
    past w a b e = ap (λ (k : ℕ). field w (p ++ q) k) e ∙ field_past w p q 24 b l

-- the rows of the bytes of rows that fit are those rows
pub rows_bytes_lem : (xs : List (Row ℕ)) (q : List ℕ) → All Fit xs → rows (rows_bytes xs ++ q) (length xs) ≡ xs
unfolding rows_bytes rows_from
rows_bytes_lem [] q f = refl
rows_bytes_lem (x ∷ xs) q f =
    let b : List ℕ = (row_bytes x ++ rows_bytes xs) ++ q in
    let d : b ≡ row_bytes x ++ (rows_bytes xs ++ q) = append_assoc (row_bytes x) (rows_bytes xs) q in
    let first : row_at b 0 ≡ x = ap (λ (u : List ℕ). row_at u 0) d ∙ row_bytes_lem x (rows_bytes xs ++ q) f.0 in
    let rest : rows_from b 1 (length xs) ≡ xs =
    ap (λ (u : List ℕ). rows_from u 1 (length xs)) d
    ∙ rows_eq (rows_bytes xs ++ q) (row_bytes x ++ (rows_bytes xs ++ q)) 0 1 (length xs)
    (λ j h. (let e : 1 + j ≡ suc j = omega arith in ap (row_at (row_bytes x ++ (rows_bytes xs ++ q))) e)
    ∙ row_past (row_bytes x) (rows_bytes xs ++ q) j (length_row x) ∙ (let e : j ≡ 0 + j = omega arith in ap (row_at (rows_bytes xs ++ q)) e))
    ∙ rows_bytes_lem xs q f.1 in
    λ j. first j ∷ rest j

-- the rows that an accepted insert leaves
pub rows_written_lem : (t : List ℕ) (used : ℕ) (ys : List (Row ℕ)) → All Fit ys → rows (rows_written t used ys) (length ys) ≡ ys
unfolding rows_written
rows_written_lem t used ys f = rows_bytes_lem ys _ f

-- a row of bytes fits
pub row_fits : (t : List ℕ) (i : ℕ) → Bytes t → Fit (row_at t i)
unfolding row_at
row_fits t i b = record {
  instrument_fits = field_below 4 t (i * 24) b;
  value_fits = field_below 4 t (i * 24 + 4) b;
  start_fits = field_below 8 t (i * 24 + 8) b;
  end_fits = field_below 8 t (i * 24 + 16) b;
}
