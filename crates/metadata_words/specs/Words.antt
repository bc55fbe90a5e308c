-- Intervals and mappings laid in words. Assumes nothing.
use Rattle.std.specs.Prelude.{◌≡◌, refl, ℕ, suc, ◌+◌, ◌-◌, ◌*◌, ◌≤◌, ◌<◌, List, [], ◌∷◌, ◌++◌, length, set}
use Rattle.std.proofs.Common.{sym, ap, ◌∙◌, arith, append_assoc, length-set, length-append}
use Rattle.std.proofs.lemmas.List.{set_at}
use Rattle.metadata_rules.specs.declared.Interval.{Interval}
use Rattle.metadata_rules.specs.Words.{interval_at, stretch, words_of, stretch_length}

-- the words v with x as the i-th interval
unfoldable pub put_at : List ℕ → ℕ → Interval → List ℕ
put_at v i x = set (set (set v (3 * i) x.start) (3 * i + 1) x.end) (3 * i + 2) x.symbol

-- the words m with a mapping of the name n and c intervals as the q-th
unfoldable pub put_mapping : List ℕ → ℕ → ℕ → ℕ → List ℕ
put_mapping m q n c = set (set m (2 * q) n) (2 * q + 1) c

-- those from the place i up to the place e
unfoldable pub rest : List ℕ → ℕ → ℕ → List Interval
unfolding stretch
rest v i e = stretch v i (e - i)

-- laid one after the other from the place k on
unfoldable pub lay_intervals : List ℕ → ℕ → List Interval → List ℕ
lay_intervals v k [] = v
lay_intervals v k (x ∷ xs) = lay_intervals (put_at v k x) (k + 1) xs

-- ---- laws

pub length_put : (v : List ℕ) (i : ℕ) (x : Interval) → length (put_at v i x) ≡ length v
unfolding put_at
length_put v i x = simp length-set

pub rest_cons : (v : List ℕ) (i e : ℕ) → i < e → rest v i e ≡ interval_at v i ∷ rest v (i + 1) e
unfolding rest stretch
rest_cons v i e h = let z : e - i ≡ suc (e - (i + 1)) = omega arith in rw z refl

pub rest_nil : (v : List ℕ) (i e : ℕ) → e ≤ i → rest v i e ≡ []
unfolding rest stretch
rest_nil v i e h = let z : e - i ≡ 0 = omega arith in rw z refl

pub rest_length : (v : List ℕ) (i e : ℕ) → length (rest v i e) ≡ e - i
unfolding rest
rest_length v i e = stretch_length v i (e - i)

-- one turn of a copy: x is the i-th of a, and w is v with it
pub lay_turn : (a : List ℕ) (i e : ℕ) (v w : List ℕ) (k : ℕ) (x : Interval) → i < e → x ≡ interval_at a i → w ≡ put_at v k x
    → lay_intervals w (k + 1) (rest a (i + 1) e) ≡ lay_intervals v k (rest a i e)
unfolding lay_intervals
lay_turn a i e v w k x h p q =
    ap (λ (u : List ℕ). lay_intervals u (k + 1) (rest a (i + 1) e)) (q ∙ ap (put_at v k) p) ∙ ap (lay_intervals v k) (sym (rest_cons a i e h))

pub lay_end : (a : List ℕ) (i e : ℕ) (v : List ℕ) (k : ℕ) → e ≤ i → lay_intervals v k (rest a i e) ≡ v
unfolding lay_intervals
lay_end a i e v k h = ap (lay_intervals v k) (rest_nil a i e h)

pub put_length : (v w : List ℕ) (k : ℕ) (x : Interval) → w ≡ put_at v k x → length w ≡ length v
put_length v w k x e = ap length e ∙ length_put v k x

pub lay_length : (xs : List Interval) (v : List ℕ) (k : ℕ) → length (lay_intervals v k xs) ≡ length v
unfolding lay_intervals
lay_length [] v k = refl
lay_length (x ∷ xs) v k = lay_length xs (put_at v k x) (k + 1) ∙ length_put v k x

pub laid_length : (v w : List ℕ) (k : ℕ) (xs : List Interval) → w ≡ lay_intervals v k xs → length w ≡ length v
laid_length v w k xs e = ap length e ∙ lay_length xs v k

-- ---- what is laid, as words: the intervals' words in place of as many, and the rest as it was

put_words : (p r : List ℕ) (a b c k : ℕ) (x : Interval) → length p ≡ 3 * k → put_at (p ++ a ∷ b ∷ c ∷ r) k x ≡ p ++ x.start ∷ x.end ∷ x.symbol ∷ r
unfolding put_at
put_words p r a b c k x h =
    ap (λ (l : List ℕ). set (set l (3 * k + 1) x.end) (3 * k + 2) x.symbol) (set_at p a (b ∷ c ∷ r) x.start (3 * k) h)
    ∙ ap (λ (l : List ℕ). set l (3 * k + 2) x.symbol)
    (ap (λ (l : List ℕ). set l (3 * k + 1) x.end) (sym (append_assoc p (x.start ∷ []) (b ∷ c ∷ r)))
    ∙ set_at (p ++ x.start ∷ []) b (c ∷ r) x.end (3 * k + 1) (simp length-append (omega arith))
    ∙ append_assoc p (x.start ∷ []) (x.end ∷ c ∷ r))
    ∙ ap (λ (l : List ℕ). set l (3 * k + 2) x.symbol) (sym (append_assoc p (x.start ∷ x.end ∷ []) (c ∷ r)))
    ∙ set_at (p ++ x.start ∷ x.end ∷ []) c r x.symbol (3 * k + 2) (simp length-append (omega arith))
    ∙ append_assoc p (x.start ∷ x.end ∷ []) (x.symbol ∷ r)

pub lay_words : (xs : List Interval) (p w r : List ℕ) (k : ℕ) → length p ≡ 3 * k → length w ≡ 3 * length xs → lay_intervals (p ++ (w ++ r)) k xs ≡ p ++ (words_of xs ++ r)
unfolding lay_intervals words_of
lay_words [] p [] r k h n = refl
lay_words [] p (a ∷ w) r k h n = absurd (omega arith)
lay_words (x ∷ xs) p [] r k h n = absurd (omega arith)
lay_words (x ∷ xs) p (a ∷ []) r k h n = absurd (omega arith)
lay_words (x ∷ xs) p (a ∷ b ∷ []) r k h n = absurd (omega arith)
lay_words (x ∷ xs) p (a ∷ b ∷ c ∷ w) r k h n =
    ap (λ (l : List ℕ). lay_intervals l (k + 1) xs)
    (put_words p (w ++ r) a b c k x h ∙ sym (append_assoc p (x.start ∷ x.end ∷ x.symbol ∷ []) (w ++ r)))
    ∙ lay_words xs (p ++ x.start ∷ x.end ∷ x.symbol ∷ []) w r (k + 1) (simp length-append (omega arith)) (omega arith)
    ∙ append_assoc p (x.start ∷ x.end ∷ x.symbol ∷ []) (words_of xs ++ r)
