-- Entries and bytes determine each other: stores at different places commute, what is stored is read back, and storing what
-- stands there changes nothing. Assumes nothing.
use Rattle.std.specs.Prelude.{◌≡◌, refl, ◌≢◌, ℕ, zero, suc, ◌+◌, ◌-◌, ◌*◌, ◌/◌, ◌%◌, ◌^◌, ◌≤◌, ◌<◌, List, [], ◌∷◌, ◌++◌, length, get_or, set, take, drop}
use Rattle.std.proofs.Common.{sym, ap, ◌∙◌, not-suc-le-zero, add-zero, add-one, arith, length-drop}
use Rattle.std.proofs.Math.Nat.{sub-zero}
use Rattle.std.proofs.lemmas.List.{set_comm, set-get_or, get_or-drop}
use Rattle.std.proofs.lemmas.List.Edits.{paste_more, paste_none}
use Rattle.std.proofs.Math.Seq.{paste}
use Rattle.theory.specs.Fields.{field, put_field, Bytes, field_same, length_put, put_byte, put_same, put_other, field_below, field_drop}
use Rattle.map_point.specs.declared.entries.Entry.{Entry}
use Rattle.map_point.specs.Entries.{entry_at, entries_from, put_entry, put_entries}

-- ---- fields

set_put : (w : ℕ) (b : List ℕ) (x a at v : ℕ) → (at ≤ x → x < at + w → ⊥) → put_field w (set b x a) at v ≡ set (put_field w b at v) x a
unfolding put_field
set_put zero b x a at v out = refl
set_put (suc w) b x a at v out =
    let h : x ≢ at = λ e. out (omega arith) (omega arith) in
    ap (λ (l : List ℕ). put_field w l (at + 1) (v / 256)) (set_comm b x at a (v % 256) h)
    ∙ set_put w (set b at (v % 256)) x a (at + 1) (v / 256) (λ l u. out (omega arith) (omega arith))

-- stores at places apart commute
put_comm : (w w' : ℕ) (b : List ℕ) (at v at' v' : ℕ) → ((x : ℕ) → at ≤ x → x < at + w → at' ≤ x → x < at' + w' → ⊥)
    → put_field w (put_field w' b at' v') at v ≡ put_field w' (put_field w b at v) at' v'
unfolding put_field
put_comm w zero b at v at' v' out = refl
put_comm w (suc w') b at v at' v' out =
    put_comm w w' (set b at' (v' % 256)) at v (at' + 1) (v' / 256) (λ x l u l' u'. out x l u (omega arith) (omega arith))
    ∙ ap (λ (l : List ℕ). put_field w' l (at' + 1) (v' / 256)) (set_put w b at' (v' % 256) at v (λ l u. out at' l u (omega arith) (omega arith)))

-- storing the number that stands there
put_back_field : (w : ℕ) (b : List ℕ) (at : ℕ) → Bytes b → put_field w b at (field w b at) ≡ b
unfolding put_field field
put_back_field zero b at h = refl
put_back_field (suc w) b at h =
    let f = field w b (at + 1) in
    let g = get_or b at 0 in
    let small : g < 256 = h at in
    let low : (g + 256 * f) % 256 ≡ g = omega arith in
    let high : (g + 256 * f) / 256 ≡ f = omega arith in
    let same : set b at ((g + 256 * f) % 256) ≡ b = ap (set b at) low ∙ set-get_or b at 0 in
    (λ q. put_field w (same q) (at + 1) (high q)) ∙ put_back_field w b (at + 1) h

-- ---- one entry

pub length_put_entry : (t : List ℕ) (i : ℕ) (e : Entry) → length (put_entry t i e) ≡ length t
unfolding put_entry
length_put_entry t i e = length_put 4 (put_field 4 t (i * 8) e.instrument) (i * 8 + 4) e.symbol ∙ length_put 4 t (i * 8) e.instrument

-- a byte of another place
pub put_entry_byte : (t : List ℕ) (i : ℕ) (e : Entry) (x : ℕ) → (i * 8 ≤ x → x < i * 8 + 8 → ⊥) → get_or (put_entry t i e) x 0 ≡ get_or t x 0
unfolding put_entry
put_entry_byte t i e x out =
    put_byte 4 (put_field 4 t (i * 8) e.instrument) (i * 8 + 4) e.symbol x (λ l u. out (omega arith) (omega arith))
    ∙ put_byte 4 t (i * 8) e.instrument x (λ l u. out (omega arith) (omega arith))

-- the entry of another place
pub put_entry_other : (t : List ℕ) (i j : ℕ) (e : Entry) → j ≢ i → entry_at (put_entry t i e) j ≡ entry_at t j
unfolding entry_at
put_entry_other t i j e ne =
    cc (
      field_same 4 t (put_entry t i e) (j * 8) (λ x l u. put_entry_byte t i e x (λ l' u'. omega arith)),
      field_same 4 t (put_entry t i e) (j * 8 + 4) (λ x l u. put_entry_byte t i e x (λ l' u'. omega arith)),
    )

-- an entry's numbers are those of 32 bits
pub record Small (e : Entry) : Type 0 where
  pub instrument : e.instrument < 256 ^ 4
  pub symbol : e.symbol < 256 ^ 4

-- the entry that was stored
pub put_entry_here : (t : List ℕ) (i : ℕ) (e : Entry) → i * 8 + 8 ≤ length t → Small e → entry_at (put_entry t i e) i ≡ e
unfolding entry_at put_entry
put_entry_here t i e fits small =
    let t₁ = put_field 4 t (i * 8) e.instrument in
    let a : field 4 (put_field 4 t₁ (i * 8 + 4) e.symbol) (i * 8) ≡ e.instrument =
    put_other 4 t₁ (i * 8 + 4) e.symbol 4 (i * 8) (λ x l u l' u'. omega arith)
    ∙ put_same 4 t (i * 8) e.instrument (omega arith) small.instrument in
    let b : field 4 (put_field 4 t₁ (i * 8 + 4) e.symbol) (i * 8 + 4) ≡ e.symbol =
    put_same 4 t₁ (i * 8 + 4) e.symbol (omega (arith, length_put 4 t (i * 8) e.instrument)) small.symbol in
    let r : entry_at (put_entry t i e) i ≡ record { instrument = e.instrument; symbol = e.symbol } = cc in
    r

-- stores at two places commute
put_entry_comm : (t : List ℕ) (i j : ℕ) (e f : Entry) → i ≢ j → put_entry (put_entry t j f) i e ≡ put_entry (put_entry t i e) j f
unfolding put_entry
put_entry_comm t i j e f ne =
    let a = i * 8 in
    let b = j * 8 in
    let t₁ = put_field 4 t b f.instrument in
    let t₂ = put_field 4 t₁ (b + 4) f.symbol in
    let u₁ = put_field 4 t a e.instrument in
    let p : put_field 4 t₂ a e.instrument ≡ put_field 4 (put_field 4 u₁ b f.instrument) (b + 4) f.symbol =
    put_comm 4 4 t₁ a e.instrument (b + 4) f.symbol (λ x l u l' u'. omega arith)
    ∙ ap (λ (l : List ℕ). put_field 4 l (b + 4) f.symbol) (put_comm 4 4 t a e.instrument b f.instrument (λ x l u l' u'. omega arith)) in
    ap (λ (l : List ℕ). put_field 4 l (a + 4) e.symbol) p
    ∙ put_comm 4 4 (put_field 4 u₁ b f.instrument) (a + 4) e.symbol (b + 4) f.symbol (λ x l u l' u'. omega arith)
    ∙ ap (λ (l : List ℕ). put_field 4 l (b + 4) f.symbol) (put_comm 4 4 u₁ (a + 4) e.symbol b f.instrument (λ x l u l' u'. omega arith))

-- storing the entry that stands there
put_entry_back : (t : List ℕ) (i : ℕ) → Bytes t → put_entry t i (entry_at t i) ≡ t
unfolding put_entry entry_at
put_entry_back t i h =
    ap (λ (l : List ℕ). put_field 4 l (i * 8 + 4) (field 4 t (i * 8 + 4))) (put_back_field 4 t (i * 8) h)
    ∙ put_back_field 4 t (i * 8 + 4) h

-- ---- many entries

pub length_put_entries : (t : List ℕ) (k : ℕ) (es : List Entry) → length (put_entries t k es) ≡ length t
unfolding put_entries
length_put_entries t k [] = refl
length_put_entries t k (e ∷ es) = length_put_entries (put_entry t k e) (suc k) es ∙ length_put_entry t k e

-- the entry of an earlier place
pub put_entries_before : (t : List ℕ) (k : ℕ) (es : List Entry) (i : ℕ) → i < k → entry_at (put_entries t k es) i ≡ entry_at t i
unfolding put_entries
put_entries_before t k [] i h = refl
put_entries_before t k (e ∷ es) i h = put_entries_before (put_entry t k e) (suc k) es i (omega arith) ∙ put_entry_other t k i e (omega arith)

-- the entry of a later place
pub put_entries_beyond : (t : List ℕ) (k : ℕ) (es : List Entry) (i : ℕ) → k + length es ≤ i → entry_at (put_entries t k es) i ≡ entry_at t i
unfolding put_entries
put_entries_beyond t k [] i h = refl
put_entries_beyond t k (e ∷ es) i h = put_entries_beyond (put_entry t k e) (suc k) es i (omega arith) ∙ put_entry_other t k i e (omega arith)

-- a store at an earlier place commutes
pub put_entries_comm : (t : List ℕ) (k : ℕ) (es : List Entry) (i : ℕ) (e : Entry) → i < k → put_entry (put_entries t k es) i e ≡ put_entries (put_entry t i e) k es
unfolding put_entries
put_entries_comm t k [] i e h = refl
put_entries_comm t k (f ∷ es) i e h =
    put_entries_comm (put_entry t k f) (suc k) es i e (omega arith)
    ∙ ap (λ (l : List ℕ). put_entries l (suc k) es) (put_entry_comm t i k e f (omega arith))

pub put_entries_append : (t : List ℕ) (k : ℕ) (xs ys : List Entry) → put_entries t k (xs ++ ys) ≡ put_entries (put_entries t k xs) (k + length xs) ys
unfolding put_entries
put_entries_append t k [] ys = rw add-zero refl
put_entries_append t k (x ∷ xs) ys =
    put_entries_append (put_entry t k x) (suc k) xs ys
    ∙ ap (λ (n : ℕ). put_entries (put_entries (put_entry t k x) (suc k) xs) n ys) (omega arith)

-- storing the entries that stand there
pub put_entries_back : (t : List ℕ) (k n : ℕ) → Bytes t → put_entries t k (entries_from t k n) ≡ t
unfolding put_entries entries_from
put_entries_back t k zero h = refl
put_entries_back t k (suc n) h =
    ap (λ (l : List ℕ). put_entries l (suc k) (entries_from t (suc k) n)) (put_entry_back t k h) ∙ put_entries_back t (suc k) n h

-- ---- the list of entries

pub length_entries : (t : List ℕ) (k n : ℕ) → length (entries_from t k n) ≡ n
unfolding entries_from
length_entries t k zero = refl
length_entries t k (suc n) = ap suc (length_entries t (suc k) n)

pub get_d_entries : (t : List ℕ) (k n i : ℕ) (d : Entry) → i < n → get_or (entries_from t k n) i d ≡ entry_at t (k + i)
unfolding entries_from
get_d_entries t k zero i d h = absurd (not-suc-le-zero h)
get_d_entries t k (suc n) zero d h = ap (entry_at t) (omega arith)
get_d_entries t k (suc n) (suc i) d h = get_d_entries t (suc k) n i d (omega arith) ∙ ap (entry_at t) (omega arith)

pub entries_cons : (t : List ℕ) (k n : ℕ) → k < n → entries_from t k (n - k) ≡ entry_at t k ∷ entries_from t (k + 1) (n - (k + 1))
unfolding entries_from
entries_cons t k n h =
    let e : n - k ≡ suc (n - (k + 1)) = omega arith in
    ap (entries_from t k) e ∙ ap (λ (j : ℕ). entry_at t k ∷ entries_from t j (n - (k + 1))) (sym (add-one k))

pub take_entries : (t : List ℕ) (k n p : ℕ) → p ≤ n → take p (entries_from t k n) ≡ entries_from t k p
unfolding entries_from
take_entries t k n zero h = refl
take_entries t k zero (suc p) h = absurd (not-suc-le-zero h)
take_entries t k (suc n) (suc p) h = ap (λ (es : List Entry). entry_at t k ∷ es) (take_entries t (suc k) n p (omega arith))

pub drop_entries : (t : List ℕ) (k n p : ℕ) → drop p (entries_from t k n) ≡ entries_from t (k + p) (n - p)
unfolding entries_from
drop_entries t k n zero = (λ q. entries_from t (sym (add-zero k) q) (sym (sub-zero n) q))
drop_entries t k zero (suc p) =
    let e : 0 ≡ 0 - suc p = omega arith in
    ap (entries_from t (k + suc p)) e
drop_entries t k (suc n) (suc p) =
    let e : suc k + p ≡ k + suc p = omega arith in
    let f : n - p ≡ suc n - suc p = omega arith in
    drop_entries t (suc k) n p ∙ (λ q. entries_from t (e q) (f q))

-- two tables with the same entries at these places
pub entries_same : (t t' : List ℕ) (k n : ℕ) → ((i : ℕ) → k ≤ i → i < k + n → entry_at t' i ≡ entry_at t i) → entries_from t' k n ≡ entries_from t k n
unfolding entries_from
entries_same t t' k zero h = refl
entries_same t t' k (suc n) h = cc (h k (omega arith) (omega arith), entries_same t t' (suc k) n (λ i l u. h i (omega arith) (omega arith)))

-- each of a list has numbers of 32 bits
abbrev pub AllSmall : List Entry → Type 0
AllSmall [] = Unit {0}
AllSmall (e ∷ es) = Small e × AllSmall es

-- the entries that were stored
pub entries_put : (t : List ℕ) (k : ℕ) (es : List Entry) → (k + length es) * 8 ≤ length t → AllSmall es → entries_from (put_entries t k es) k (length es) ≡ es
unfolding entries_from put_entries
entries_put t k [] fits small = refl
entries_put t k (e ∷ es) fits small =
    let t₁ = put_entry t k e in
    let here : entry_at (put_entries t₁ (suc k) es) k ≡ e = put_entries_before t₁ (suc k) es k (omega arith) ∙ put_entry_here t k e (omega arith) small.0 in
    let rest : entries_from (put_entries t₁ (suc k) es) (suc k) (length es) ≡ es =
    entries_put t₁ (suc k) es (omega (arith, length_put_entry t k e)) small.1 in
    cc

-- what stands in bytes has numbers of 32 bits
pub entry_small : (t : List ℕ) (i : ℕ) → Bytes t → Small (entry_at t i)
unfolding entry_at
entry_small t i h = record { instrument = field_below 4 t (i * 8) h; symbol = field_below 4 t (i * 8 + 4) h }

pub entries_small : (t : List ℕ) (k n : ℕ) → Bytes t → AllSmall (entries_from t k n)
unfolding entries_from
entries_small t k zero h = tt
entries_small t k (suc n) h = (entry_small t k h, entries_small t (suc k) n h)

-- ---- entries moved as bytes

-- a field copied behind what was copied
copied_field : (w : ℕ) (d s : List ℕ) (at j : ℕ) → Bytes s → at + j + w ≤ length d → j + w ≤ length s → put_field w (paste d at s j) (at + j) (field w s j) ≡ paste d at s (j + w)
unfolding put_field field
copied_field zero d s at j b h k = ap (paste d at s) (sym (add-zero j))
copied_field (suc w) d s at j b h k =
    let f = field w s (j + 1) in
    let g = get_or s j 0 in
    let small : g < 256 = b j in
    let low : (g + 256 * f) % 256 ≡ g = omega arith in
    let high : (g + 256 * f) / 256 ≡ f = omega arith in
    let next : at + j + 1 ≡ at + (j + 1) = omega arith in
    let all : j + 1 + w ≡ j + suc w = omega arith in
    (λ q. put_field w (set (paste d at s j) (at + j) (low q)) (next q) (high q))
    ∙ ap (λ (l : List ℕ). put_field w l (at + (j + 1)) f) (paste_more d at s j 0 (omega arith) (omega arith))
    ∙ copied_field w d s at (j + 1) b (omega arith) (omega arith)
    ∙ ap (paste d at s) all

copied_entry : (d s : List ℕ) (k i : ℕ) → Bytes s → (k + i) * 8 + 8 ≤ length d → i * 8 + 8 ≤ length s
    → put_entry (paste d (k * 8) s (i * 8)) (k + i) (entry_at s i) ≡ paste d (k * 8) s (suc i * 8)
unfolding put_entry entry_at
copied_entry d s k i b h l =
    let first : (k + i) * 8 ≡ k * 8 + i * 8 = omega arith in
    let second : (k + i) * 8 + 4 ≡ k * 8 + (i * 8 + 4) = omega arith in
    let all : i * 8 + 4 + 4 ≡ suc i * 8 = omega arith in
    (λ q. put_field 4 (put_field 4 (paste d (k * 8) s (i * 8)) (first q) (field 4 s (i * 8))) (second q) (field 4 s (i * 8 + 4)))
    ∙ ap (λ (l : List ℕ). put_field 4 l (k * 8 + (i * 8 + 4)) (field 4 s (i * 8 + 4))) (copied_field 4 d s (k * 8) (i * 8) b (omega arith) (omega arith))
    ∙ copied_field 4 d s (k * 8) (i * 8 + 4) b (omega arith) (omega arith)
    ∙ ap (paste d (k * 8) s) all

copied_entries : (d s : List ℕ) (k i m : ℕ) → Bytes s → (k + i + m) * 8 ≤ length d → (i + m) * 8 ≤ length s
    → put_entries (paste d (k * 8) s (i * 8)) (k + i) (entries_from s i m) ≡ paste d (k * 8) s ((i + m) * 8)
unfolding put_entries entries_from
copied_entries d s k i zero b h l = ap (λ (n : ℕ). paste d (k * 8) s (n * 8)) (sym (add-zero i))
copied_entries d s k i (suc m) b h l =
    let next : suc (k + i) ≡ k + suc i = omega arith in
    let all : suc i + m ≡ i + suc m = omega arith in
    ap (λ (t : List ℕ). put_entries t (suc (k + i)) (entries_from s (suc i) m)) (copied_entry d s k i b (omega arith) (omega arith))
    ∙ ap (λ (n : ℕ). put_entries (paste d (k * 8) s (suc i * 8)) n (entries_from s (suc i) m)) next
    ∙ copied_entries d s k (suc i) m b (omega arith) (omega arith)
    ∙ ap (λ (n : ℕ). paste d (k * 8) s (n * 8)) all

-- the entries behind those that are dropped
entries_dropped : (t : List ℕ) (p i m : ℕ) → entries_from (drop (p * 8) t) i m ≡ entries_from t (p + i) m
unfolding entries_from entry_at
entries_dropped t p i zero = refl
entries_dropped t p i (suc m) =
    let first : p * 8 + i * 8 ≡ (p + i) * 8 = omega arith in
    let second : p * 8 + (i * 8 + 4) ≡ (p + i) * 8 + 4 = omega arith in
    let next : p + suc i ≡ suc (p + i) = omega arith in
    let x : field 4 (drop (p * 8) t) (i * 8) ≡ field 4 t ((p + i) * 8) = field_drop 4 t (p * 8) (i * 8) ∙ ap (field 4 t) first in
    let y : field 4 (drop (p * 8) t) (i * 8 + 4) ≡ field 4 t ((p + i) * 8 + 4) = field_drop 4 t (p * 8) (i * 8 + 4) ∙ ap (field 4 t) second in
    (λ q. record { instrument = x q; symbol = y q } ∷ entries_from (drop (p * 8) t) (suc i) m)
    ∙ ap (λ (es : List Entry). entry_at t (p + i) ∷ es) (entries_dropped t p (suc i) m ∙ ap (λ (n : ℕ). entries_from t n m) next)

-- bytes of the entries from place p up to n, copied one place up
pub moved_up : (t : List ℕ) {t' : List ℕ} {p n : ℕ} → Bytes t → p ≤ n → (n + 1) * 8 ≤ length t → t' ≡ paste t ((p + 1) * 8) (drop (p * 8) t) (n * 8 - p * 8)
    → t' ≡ put_entries t (p + 1) (entries_from t p (n - p))
moved_up t {t'} {p} {n} b h l e =
    let s = drop (p * 8) t in
    let long : length s ≡ length t - p * 8 = length-drop (p * 8) t in
    let bytes : Bytes s = λ x. omega (arith, get_or-drop (p * 8) t x 0, b (p * 8 + x)) in
    let size : n * 8 - p * 8 ≡ (0 + (n - p)) * 8 = omega arith in
    let from : p + 0 ≡ p = omega arith in
    let at : p + 1 + 0 ≡ p + 1 = omega arith in
    e
    ∙ ap (paste t ((p + 1) * 8) s) size
    ∙ sym (copied_entries t s (p + 1) 0 (n - p) bytes (omega arith) (omega (arith, long)))
    ∙ (λ q. put_entries (sym (paste_none t ((p + 1) * 8) s) q) (at q) ((entries_dropped t p 0 (n - p) ∙ ap (λ (k : ℕ). entries_from t k (n - p)) from) q))
