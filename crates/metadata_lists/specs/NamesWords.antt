-- What is laid, as words: the mappings' words and the intervals' words in place of as many, and the rest as it was.
-- Assumes nothing.
use Rattle.std.specs.Prelude.{◌≡◌, ℕ, suc, ◌+◌, ◌*◌, ◌≤◌, List, [], ◌∷◌, ◌++◌}
use Rattle.std.proofs.Common.{sym, ap, ◌∙◌, arith, append_assoc, take_at, length-take-le}
use lib.ListN.{length, set, take, drop, length-append, take-append-drop}
use Rattle.std.proofs.lemmas.List.{set_at}
use Rattle.metadata_rules.specs.Metadata.{Mapping, count_intervals}
use Rattle.metadata_rules.specs.Words.{words_of, mapping_words, interval_words, words_length, interval_length, mapping_length}
use Rattle.metadata_words.specs.Words.{put_mapping, lay_intervals, lay_words}
use Rattle.metadata_lists.specs.Names.{placed, lay_all}

put_words : (p r : List ℕ) (a b q n c : ℕ) → length p ≡ 2 * q → put_mapping (p ++ a ∷ b ∷ r) q n c ≡ p ++ n ∷ c ∷ r
unfolding put_mapping
put_words p r a b q n c h =
    ap (λ (l : List ℕ). set l (2 * q + 1) c) (set_at p a (b ∷ r) n (2 * q) h ∙ sym (append_assoc p (n ∷ []) (b ∷ r)))
    ∙ set_at (p ++ n ∷ []) b r c (2 * q + 1) (simp length-append (omega arith))
    ∙ append_assoc p (n ∷ []) (c ∷ r)

all_words : (ms : List Mapping) (pm wm rm pv wv rv : List ℕ) (q k : ℕ) → length pm ≡ 2 * q → length wm ≡ 2 * length ms → length pv ≡ 3 * k → length wv ≡ 3 * count_intervals ms
    → lay_all (pm ++ (wm ++ rm)) q (pv ++ (wv ++ rv)) k ms ≡ placed (pm ++ (mapping_words ms ++ rm)) (q + length ms) (pv ++ (interval_words ms ++ rv)) (k + count_intervals ms)
unfolding lay_all mapping_words interval_words count_intervals
all_words [] pm [] rm pv [] rv q k h i j l =
    let z : q ≡ q + 0 = omega arith in
    let y : k ≡ k + 0 = omega arith in
    ap (λ (u : ℕ). placed (pm ++ rm) u (pv ++ rv) k) z ∙ ap (placed (pm ++ rm) (q + 0) (pv ++ rv)) y
all_words [] pm [] rm pv (b ∷ wv) rv q k h i j l = absurd (omega arith)
all_words [] pm (a ∷ wm) rm pv wv rv q k h i j l = absurd (omega arith)
all_words (m ∷ ms) pm [] rm pv wv rv q k h i j l = absurd (omega arith)
all_words (m ∷ ms) pm (a ∷ []) rm pv wv rv q k h i j l = absurd (omega arith)
all_words (m ∷ ms) pm (a ∷ b ∷ wm) rm pv wv rv q k h i j l =
    let n = 3 * length m.intervals in
    let s : wv ++ rv ≡ take (3 * length m.intervals) wv ++ (drop (3 * length m.intervals) wv ++ rv) =
    ap (λ (x : List ℕ). x ++ rv) (sym (take-append-drop (3 * length m.intervals) wv)) ∙ append_assoc (take (3 * length m.intervals) wv) (drop (3 * length m.intervals) wv) rv in
    let t = length-take-le (3 * length m.intervals) wv (omega arith) in
    let d = lib.ListN.length-drop (3 * length m.intervals) wv in
    let w = words_length m.intervals in
    let e : lay_intervals (pv ++ (wv ++ rv)) k m.intervals ≡ (pv ++ words_of m.intervals) ++ (drop (3 * length m.intervals) wv ++ rv) =
    ap (λ (x : List ℕ). lay_intervals (pv ++ x) k m.intervals) s
    ∙ lay_words m.intervals pv (take (3 * length m.intervals) wv) (drop (3 * length m.intervals) wv ++ rv) k j t
    ∙ sym (append_assoc pv (words_of m.intervals) (drop (3 * length m.intervals) wv ++ rv)) in
    let f : put_mapping (pm ++ a ∷ b ∷ (wm ++ rm)) q m.name (length m.intervals) ≡ (pm ++ m.name ∷ length m.intervals ∷ []) ++ (wm ++ rm) =
    put_words pm (wm ++ rm) a b q m.name (length m.intervals) h ∙ sym (append_assoc pm (m.name ∷ length m.intervals ∷ []) (wm ++ rm)) in
    let z : (q + 1) + length ms ≡ q + suc (length ms) = omega arith in
    let y : (k + length m.intervals) + count_intervals ms ≡ k + (length m.intervals + count_intervals ms) = omega arith in
    rw (e, f) (
    all_words ms (pm ++ m.name ∷ length m.intervals ∷ []) wm rm (pv ++ words_of m.intervals) (drop (3 * length m.intervals) wv) rv (q + 1) (k + length m.intervals)
    (simp length-append (omega arith)) (omega arith) (simp length-append (omega arith)) (omega arith)
    ∙ ap (λ (x : List ℕ). placed x ((q + 1) + length ms) ((pv ++ words_of m.intervals) ++ (interval_words ms ++ rv)) ((k + length m.intervals) + count_intervals ms)) (append_assoc pm (m.name ∷ length m.intervals ∷ []) (mapping_words ms ++ rm))
    ∙ ap (λ (x : List ℕ). placed (pm ++ m.name ∷ length m.intervals ∷ (mapping_words ms ++ rm)) ((q + 1) + length ms) x ((k + length m.intervals) + count_intervals ms))
    (append_assoc pv (words_of m.intervals) (interval_words ms ++ rv) ∙ ap (λ (x : List ℕ). pv ++ x) (sym (append_assoc (words_of m.intervals) (interval_words ms) rv)))
    ∙ ap (λ (u : ℕ). placed (pm ++ m.name ∷ length m.intervals ∷ (mapping_words ms ++ rm)) u (pv ++ ((words_of m.intervals ++ interval_words ms) ++ rv)) ((k + length m.intervals) + count_intervals ms)) z
    ∙ ap (placed (pm ++ m.name ∷ length m.intervals ∷ (mapping_words ms ++ rm)) (q + suc (length ms)) (pv ++ ((words_of m.intervals ++ interval_words ms) ++ rv))) y)

-- laid from the start: the words, then the rest as it was
pub laid_all : (ms : List Mapping) (a b : List ℕ) → 2 * length ms ≤ length a → 3 * count_intervals ms ≤ length b
    → lay_all a 0 b 0 ms ≡ placed (mapping_words ms ++ drop (2 * length ms) a) (length ms) (interval_words ms ++ drop (3 * count_intervals ms) b) (count_intervals ms)
laid_all ms a b h k =
    let z : 0 + length ms ≡ length ms = omega arith in
    let y : 0 + count_intervals ms ≡ count_intervals ms = omega arith in
    ap (λ (x : List ℕ). lay_all x 0 b 0 ms) (sym (take-append-drop (2 * length ms) a))
    ∙ ap (λ (x : List ℕ). lay_all (take (2 * length ms) a ++ drop (2 * length ms) a) 0 x 0 ms) (sym (take-append-drop (3 * count_intervals ms) b))
    ∙ all_words ms [] (take (2 * length ms) a) (drop (2 * length ms) a) [] (take (3 * count_intervals ms) b) (drop (3 * count_intervals ms) b) 0 0
    (omega arith) (length-take-le (2 * length ms) a h) (omega arith) (length-take-le (3 * count_intervals ms) b k)
    ∙ ap (λ (u : ℕ). placed (mapping_words ms ++ drop (2 * length ms) a) u (interval_words ms ++ drop (3 * count_intervals ms) b) (0 + count_intervals ms)) z
    ∙ ap (placed (mapping_words ms ++ drop (2 * length ms) a) (length ms) (interval_words ms ++ drop (3 * count_intervals ms) b)) y

-- what was laid, as words
pub record Stands (ms : List Mapping) (a' : List ℕ) (q : ℕ) (b' : List ℕ) (k : ℕ) : Type 0 where
  pub how_many : q ≡ length ms
  pub how_long : k ≡ count_intervals ms
  pub rest_m : List ℕ
  pub rest_v : List ℕ
  pub maps : a' ≡ mapping_words ms ++ rest_m
  pub spans : b' ≡ interval_words ms ++ rest_v

pub stands : (ms : List Mapping) (a b a' b' : List ℕ) (q k : ℕ) → placed a' q b' k ≡ lay_all a 0 b 0 ms → 2 * length ms ≤ length a → 3 * count_intervals ms ≤ length b → Stands ms a' q b' k
stands ms a b a' b' q k e h i =
    let f = e ∙ laid_all ms a b h i in
    record {
      how_many = (cc);
      how_long = (cc);
      rest_m = drop (2 * length ms) a;
      rest_v = drop (3 * count_intervals ms) b;
      maps = (cc);
      spans = (cc);
    }

-- what was laid stands at the front
front : (n : ℕ) (a b r : List ℕ) → a ≡ b ++ r → length b ≡ n → take n a ≡ b
front n a b r e h = ap (take n) e ∙ take_at b r n h

module _ {ms : List Mapping} {a b : List ℕ} {q k : ℕ} (s : Stands ms a q b k) where
  pub front_maps : take (2 * q) a ≡ mapping_words ms
  front_maps = front (2 * q) a (mapping_words ms) s.rest_m s.maps (omega (arith, mapping_length ms, s.how_many))

  pub front_spans : take (3 * k) b ≡ interval_words ms
  front_spans = front (3 * k) b (interval_words ms) s.rest_v s.spans (omega (arith, interval_length ms, s.how_long))
