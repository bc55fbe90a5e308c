-- A metadata's lists in words: an interval is three (start, end, symbol), a mapping two (its name, how many intervals), its
-- intervals behind those of the mappings before it. Assumes nothing.
use Rattle.std.specs.Prelude.{◌≡◌, refl, ℕ, zero, suc, ◌+◌, ◌*◌, Bool, true, false, ◌&&◌, List, [], ◌∷◌, ◌++◌, length, get_or}
use Rattle.std.proofs.Common.{sym, ap, ◌∙◌, arith, append_assoc, length-append}
use Rattle.std.proofs.lemmas.List.{get_or_at}
use Rattle.metadata_rules.specs.declared.Interval.{Interval}
use Rattle.metadata_rules.specs.Metadata.{Mapping, mapping, count_intervals, every, every_interval}

-- ---- reading

-- the i-th interval of the words v
unfoldable pub interval_at : List ℕ → ℕ → Interval
interval_at v i = record { start = get_or v (3 * i) 0; end = get_or v (3 * i + 1) 0; symbol = get_or v (3 * i + 2) 0 }

-- n intervals from the place i on
unfoldable pub stretch : List ℕ → ℕ → ℕ → List Interval
unfolding interval_at
stretch v i zero = []
stretch v i (suc n) = interval_at v i ∷ stretch v (i + 1) n

-- the t-th mapping's name, and how many intervals it has
unfoldable pub name_at : List ℕ → ℕ → ℕ
name_at m t = get_or m (2 * t) 0

unfoldable pub count_at : List ℕ → ℕ → ℕ
count_at m t = get_or m (2 * t + 1) 0

-- n mappings from the place t on, whose intervals begin at the place o
unfoldable pub mappings_from : List ℕ → List ℕ → ℕ → ℕ → ℕ → List Mapping
unfolding name_at count_at stretch
mappings_from m v t o zero = []
mappings_from m v t o (suc n) = mapping (name_at m t) (stretch v o (count_at m t)) ∷ mappings_from m v (t + 1) (o + count_at m t) n

-- the intervals of the mappings before the place t
unfoldable pub before : List ℕ → ℕ → ℕ
unfolding count_at
before m zero = 0
before m (suc t) = before m t + count_at m t

-- ---- writing

unfoldable pub words_of : List Interval → List ℕ
words_of [] = []
words_of (x ∷ xs) = x.start ∷ x.end ∷ x.symbol ∷ words_of xs

unfoldable pub mapping_words : List Mapping → List ℕ
mapping_words [] = []
mapping_words (m ∷ ms) = m.name ∷ length m.intervals ∷ mapping_words ms

unfoldable pub interval_words : List Mapping → List ℕ
unfolding words_of
interval_words [] = []
interval_words (m ∷ ms) = words_of m.intervals ++ interval_words ms

-- ---- what was written is read back

-- the words after those of p: the first, the second, the third
second : (p : List ℕ) (a b : ℕ) (r : List ℕ) (n : ℕ) → length p ≡ n → get_or (p ++ a ∷ b ∷ r) (n + 1) 0 ≡ b
second p a b r n h =
    ap (λ (l : List ℕ). get_or l (n + 1) 0) (sym (append_assoc p (a ∷ []) (b ∷ r))) ∙ get_or_at (p ++ a ∷ []) b r 0 (n + 1) (simp length-append (omega arith))

third : (p : List ℕ) (a b c : ℕ) (r : List ℕ) (n : ℕ) → length p ≡ n → get_or (p ++ a ∷ b ∷ c ∷ r) (n + 2) 0 ≡ c
third p a b c r n h =
    ap (λ (l : List ℕ). get_or l (n + 2) 0) (sym (append_assoc p (a ∷ b ∷ []) (c ∷ r))) ∙ get_or_at (p ++ a ∷ b ∷ []) c r 0 (n + 2) (simp length-append (omega arith))

interval_read : (p : List ℕ) (x : Interval) (r : List ℕ) (o : ℕ) → length p ≡ 3 * o → interval_at (p ++ x.start ∷ x.end ∷ x.symbol ∷ r) o ≡ x
unfolding interval_at
interval_read p x r o h =
    let a = get_or_at p x.start (x.end ∷ x.symbol ∷ r) 0 (3 * o) h in
    let b = second p x.start x.end (x.symbol ∷ r) (3 * o) h in
    let c = third p x.start x.end x.symbol r (3 * o) h in
    rw (a, b, c) refl

stretch_read : (xs : List Interval) (p r : List ℕ) (o : ℕ) → length p ≡ 3 * o → stretch (p ++ (words_of xs ++ r)) o (length xs) ≡ xs
unfolding stretch words_of
stretch_read [] p r o h = refl
stretch_read (x ∷ xs) p r o h =
    rw (interval_read p x (words_of xs ++ r) o h) (ap (λ (l : List Interval). x ∷ l)
    (ap (λ (l : List ℕ). stretch l (o + 1) (length xs)) (sym (append_assoc p (x.start ∷ x.end ∷ x.symbol ∷ []) (words_of xs ++ r)))
    ∙ stretch_read xs (p ++ x.start ∷ x.end ∷ x.symbol ∷ []) r (o + 1) (simp length-append (omega arith))))

pub words_length : (xs : List Interval) → length (words_of xs) ≡ 3 * length xs
unfolding words_of
words_length [] = refl
words_length (x ∷ xs) = let r = words_length xs in omega arith

pub mapping_length : (ms : List Mapping) → length (mapping_words ms) ≡ 2 * length ms
unfolding mapping_words
mapping_length [] = refl
mapping_length (m ∷ ms) = let r = mapping_length ms in omega arith

pub interval_length : (ms : List Mapping) → length (interval_words ms) ≡ 3 * count_intervals ms
unfolding interval_words count_intervals
interval_length [] = refl
interval_length (m ∷ ms) =
    let r = interval_length ms in
    let s = words_length m.intervals in
    let t = length-append (words_of m.intervals) (interval_words ms) in
    omega arith

mappings_read : (ms : List Mapping) (pm rm pv rv : List ℕ) (t o : ℕ) → length pm ≡ 2 * t → length pv ≡ 3 * o
    → mappings_from (pm ++ (mapping_words ms ++ rm)) (pv ++ (interval_words ms ++ rv)) t o (length ms) ≡ ms
unfolding mappings_from mapping_words interval_words name_at count_at
mappings_read [] pm rm pv rv t o h k = refl
mappings_read (m ∷ ms) pm rm pv rv t o h k =
    let a = get_or_at pm m.name (length m.intervals ∷ (mapping_words ms ++ rm)) 0 (2 * t) h in
    let b = second pm m.name (length m.intervals) (mapping_words ms ++ rm) (2 * t) h in
    let l = words_length m.intervals in
    let g : pv ++ ((words_of m.intervals ++ interval_words ms) ++ rv) ≡ pv ++ (words_of m.intervals ++ (interval_words ms ++ rv)) =
    ap (λ (x : List ℕ). pv ++ x) (append_assoc (words_of m.intervals) (interval_words ms) rv) in
    let c = stretch_read m.intervals pv (interval_words ms ++ rv) o k in
    rw (a, b, g, c) (ap (λ (x : List Mapping). m ∷ x)
    (ap (λ (x : List ℕ). mappings_from (pm ++ (mapping_words (m ∷ ms) ++ rm)) x (t + 1) (o + length m.intervals) (length ms)) g
    ∙ ap (λ (x : List ℕ). mappings_from x (pv ++ (words_of m.intervals ++ (interval_words ms ++ rv))) (t + 1) (o + length m.intervals) (length ms))
    (sym (append_assoc pm (m.name ∷ length m.intervals ∷ []) (mapping_words ms ++ rm)))
    ∙ ap (λ (x : List ℕ). mappings_from ((pm ++ m.name ∷ length m.intervals ∷ []) ++ (mapping_words ms ++ rm)) x (t + 1) (o + length m.intervals) (length ms))
    (sym (append_assoc pv (words_of m.intervals) (interval_words ms ++ rv)))
    ∙ mappings_read ms (pm ++ m.name ∷ length m.intervals ∷ []) rm (pv ++ words_of m.intervals) rv (t + 1) (o + length m.intervals)
    (simp length-append (omega arith)) (simp length-append (omega arith))))

-- the words of mappings, with anything behind them, are read as those mappings
pub read_back : (ms : List Mapping) (rm rv : List ℕ) → mappings_from (mapping_words ms ++ rm) (interval_words ms ++ rv) 0 0 (length ms) ≡ ms
read_back ms rm rv = mappings_read ms [] rm [] rv 0 0 (omega arith) (omega arith)

-- ---- tests over words are tests over mappings

pub every_append : {X : Type 0} (p : X → Bool) (xs ys : List X) → every p (xs ++ ys) ≡ (every p xs && every p ys)
unfolding every
every_append p [] ys = refl
every_append p (x ∷ xs) ys = ap (λ (b : Bool). p x && b) (every_append p xs ys) ∙ and_assoc (p x) (every p xs) (every p ys)
  where
    and_assoc : (a b c : Bool) → (a && (b && c)) ≡ ((a && b) && c)
    and_assoc true b c = refl
    and_assoc false b c = refl

stretch_append : (v : List ℕ) (a b o : ℕ) → stretch v o (a + b) ≡ stretch v o a ++ stretch v (o + a) b
unfolding stretch
stretch_append v zero b o = let z : 0 + b ≡ b = omega arith in let y : o + 0 ≡ o = omega arith in rw (z, y) refl
stretch_append v (suc a) b o =
    let z : suc a + b ≡ suc (a + b) = omega arith in
    let y : (o + 1) + a ≡ o + suc a = omega arith in
    rw z (ap (λ (l : List Interval). interval_at v o ∷ l) (stretch_append v a b (o + 1) ∙ ap (λ (k : ℕ). stretch v (o + 1) a ++ stretch v k b) y))

pub stretch_length : (v : List ℕ) (o n : ℕ) → length (stretch v o n) ≡ n
unfolding stretch
stretch_length v o zero = refl
stretch_length v o (suc n) = ap suc (stretch_length v (o + 1) n)

intervals_flat : (p : Interval → Bool) (m v : List ℕ) (n t o : ℕ) → every_interval p (mappings_from m v t o n) ≡ every p (stretch v o (count_intervals (mappings_from m v t o n)))
unfolding every_interval mappings_from count_intervals every stretch
intervals_flat p m v zero t o = refl
intervals_flat p m v (suc n) t o =
    let l = stretch_length v o (count_at m t) in
    rw l (ap (λ (b : Bool). every p (stretch v o (count_at m t)) && b) (intervals_flat p m v n (t + 1) (o + count_at m t))
    ∙ sym (ap (every p) (stretch_append v (count_at m t) (count_intervals (mappings_from m v (t + 1) (o + count_at m t) n)) o)
    ∙ every_append p (stretch v o (count_at m t)) (stretch v (o + count_at m t) (count_intervals (mappings_from m v (t + 1) (o + count_at m t) n)))))

-- the names of n mappings from the place t on
unfoldable pub names_from : List ℕ → ℕ → ℕ → List ℕ
names_from m t zero = []
names_from m t (suc n) = name_at m t ∷ names_from m (t + 1) n

names_flat : (p : ℕ → Bool) (m v : List ℕ) (n t o : ℕ) → every (λ (k : Mapping). p k.name) (mappings_from m v t o n) ≡ every p (names_from m t n)
unfolding every mappings_from names_from
names_flat p m v zero t o = refl
names_flat p m v (suc n) t o = ap (λ (b : Bool). p (name_at m t) && b) (names_flat p m v n (t + 1) (o + count_at m t))

-- a test of each interval, of the mappings and of their words
pub intervals_test : (p : Interval → Bool) (ms : List Mapping) (rv : List ℕ) → every_interval p ms ≡ every p (stretch (interval_words ms ++ rv) 0 (count_intervals ms))
intervals_test p ms rv =
    ap (every_interval p) (sym (read_back ms [] rv))
    ∙ intervals_flat p (mapping_words ms ++ []) (interval_words ms ++ rv) (length ms) 0 0
    ∙ ap (λ (l : List Mapping). every p (stretch (interval_words ms ++ rv) 0 (count_intervals l))) (read_back ms [] rv)

-- a test of each name, of the mappings and of their words
pub names_test : (p : ℕ → Bool) (ms : List Mapping) (rm : List ℕ) → every (λ (k : Mapping). p k.name) ms ≡ every p (names_from (mapping_words ms ++ rm) 0 (length ms))
names_test p ms rm =
    ap (every (λ (k : Mapping). p k.name)) (sym (read_back ms rm []))
    ∙ names_flat p (mapping_words ms ++ rm) (interval_words ms ++ []) (length ms) 0 0
