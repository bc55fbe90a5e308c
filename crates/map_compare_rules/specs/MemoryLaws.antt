-- Stretches laid one after another are the list's bytes in front of what the memory held. Assumes nothing.
use Rattle.std.specs.Prelude.{◌≡◌, refl, ℕ, zero, suc, ◌+◌, ◌-◌, ◌*◌, ◌/◌, ◌%◌, ◌≤◌, List, [], ◌∷◌, ◌++◌, length, drop}
use Rattle.std.proofs.Common.{sym, ap, ◌∙◌, arith, append_assoc, length-append, length-drop, drop-drop}
use Rattle.std.proofs.lemmas.List.{set_at}
use Rattle.theory.specs.Fields.{put_field, length_put}
use Rattle.map_rules.specs.Table.{Row}
use Rattle.map_rules.specs.Memory.{bytes_of}
use Rattle.map_rules.specs.MemoryLaws.{length_bytes}
use Rattle.map_compare_rules.specs.Compare.{Difference, Stretches}
use Rattle.map_compare_rules.specs.Memory.{Value, stretch_width, symbol_in, put_stretch, stretch_bytes, stretches_bytes, lay_stretches}

-- ---- laws

pub length_put_stretch : (t : List ℕ) (i : ℕ) (d : Row (Difference Value)) → length (put_stretch t i d) ≡ length t
unfolding put_stretch
length_put_stretch t i d = simp length_put

-- a number put right behind p
put_behind : (w : ℕ) (p q : List ℕ) (at v : ℕ) → length p ≡ at → w ≤ length q → put_field w (p ++ q) at v ≡ p ++ (bytes_of w v ++ drop w q)
unfolding put_field bytes_of
put_behind zero p q at v l h = refl
put_behind (suc w) p [] at v l h = absurd (omega arith)
put_behind (suc w) p (c ∷ q) at v l h =
    ap (λ (b : List ℕ). put_field w b (at + 1) (v / 256)) (set_at p c q (v % 256) at l ∙ sym (append_assoc p (v % 256 ∷ []) q))
    ∙ put_behind w (p ++ v % 256 ∷ []) q (at + 1) (v / 256) (simp length-append (omega arith)) (omega arith)
    ∙ append_assoc p (v % 256 ∷ []) (bytes_of w (v / 256) ++ drop w q)

-- and behind the bytes b that stand behind p
put_next : (w : ℕ) (p b q : List ℕ) (at v : ℕ) → length p + length b ≡ at → w ≤ length q
    → put_field w (p ++ (b ++ q)) at v ≡ p ++ ((b ++ bytes_of w v) ++ drop w q)
put_next w p b q at v l h =
    ap (λ (u : List ℕ). put_field w u at v) (sym (append_assoc p b q))
    ∙ put_behind w (p ++ b) q at v (simp length-append l) h
    ∙ simp append_assoc

stretch_behind : (p q : List ℕ) (i : ℕ) (d : Row (Difference Value)) → length p ≡ i * stretch_width → stretch_width ≤ length q
    → put_stretch (p ++ q) i d ≡ p ++ (stretch_bytes d ++ drop stretch_width q)
unfolding put_stretch stretch_bytes
stretch_behind p q i d l h =
    let o : ℕ = i * stretch_width in
    let a : List ℕ = bytes_of 4 d.instrument in
    let b : List ℕ = bytes_of 4 (symbol_in d.value.left) in
    let c : List ℕ = bytes_of 4 (symbol_in d.value.right) in
    let s : List ℕ = bytes_of 8 d.start in
    let la : length a ≡ 4 = length_bytes 4 d.instrument in
    let lb : length b ≡ 4 = length_bytes 4 (symbol_in d.value.left) in
    let lc : length c ≡ 4 = length_bytes 4 (symbol_in d.value.right) in
    let ls : length s ≡ 8 = length_bytes 8 d.start in
    let q1 : List ℕ = drop 4 q in
    let q2 : List ℕ = drop 4 q1 in
    let q3 : List ℕ = drop 4 q2 in
    let q4 : List ℕ = drop 8 q3 in
    let e1 : length q1 ≡ length q - 4 = length-drop 4 q in
    let e2 : length q2 ≡ length q1 - 4 = length-drop 4 q1 in
    let e3 : length q3 ≡ length q2 - 4 = length-drop 4 q2 in
    let e4 : length q4 ≡ length q3 - 8 = length-drop 8 q3 in
    let left : drop 8 q4 ≡ drop stretch_width q = simp drop-drop in
    ap (λ (u : List ℕ). put_field 8 (put_field 8 (put_field 4 (put_field 4 u (o + 4) (symbol_in d.value.left)) (o + 8) (symbol_in d.value.right)) (o + 12) d.start) (o + 20) d.end)
    (put_behind 4 p q o d.instrument l (omega arith))
    ∙ ap (λ (u : List ℕ). put_field 8 (put_field 8 (put_field 4 u (o + 8) (symbol_in d.value.right)) (o + 12) d.start) (o + 20) d.end)
    (put_next 4 p a q1 (o + 4) (symbol_in d.value.left) (omega arith) (omega arith))
    ∙ ap (λ (u : List ℕ). put_field 8 (put_field 8 u (o + 12) d.start) (o + 20) d.end)
    (put_next 4 p (a ++ b) q2 (o + 8) (symbol_in d.value.right) (simp length-append (omega arith)) (omega arith))
    ∙ ap (λ (u : List ℕ). put_field 8 u (o + 20) d.end)
    (put_next 8 p ((a ++ b) ++ c) q3 (o + 12) d.start (simp length-append (omega arith)) (omega arith))
    ∙ put_next 8 p (((a ++ b) ++ c) ++ s) q4 (o + 20) d.end (simp length-append (omega arith)) (omega arith)
    ∙ ap (λ (u : List ℕ). p ++ (((((a ++ b) ++ c) ++ s) ++ bytes_of 8 d.end) ++ u)) left
    ∙ simp append_assoc

length_stretch : (d : Row (Difference Value)) → length (stretch_bytes d) ≡ stretch_width
unfolding stretch_bytes bytes_of
length_stretch d = refl

lay_behind : (ds : Stretches Value) (p q : List ℕ) (k : ℕ) → length p ≡ k * stretch_width → length ds * stretch_width ≤ length q
    → lay_stretches (p ++ q) k ds ≡ p ++ (stretches_bytes ds ++ drop (length ds * stretch_width) q)
unfolding lay_stretches stretches_bytes
lay_behind [] p q k l h = refl
lay_behind (d ∷ ds) p q k l h =
    let b : List ℕ = stretch_bytes d in
    let r : List ℕ = drop stretch_width q in
    let n : ℕ = length ds * stretch_width in
    let lb : length b ≡ stretch_width = length_stretch d in
    let lr : length r ≡ length q - stretch_width = length-drop stretch_width q in
    let e : stretch_width + n ≡ suc (length ds) * stretch_width = omega arith in
    ap (λ (u : List ℕ). lay_stretches u (k + 1) ds) (stretch_behind p q k d l (omega arith) ∙ sym (append_assoc p b r))
    ∙ lay_behind ds (p ++ b) r (k + 1) (simp length-append (omega arith)) (omega arith)
    ∙ ap (λ (u : List ℕ). (p ++ b) ++ (stretches_bytes ds ++ u)) (drop-drop n stretch_width q ∙ ap (λ (j : ℕ). drop j q) e)
    ∙ simp append_assoc

-- the list laid from the first place on
pub lay_memory : (t : List ℕ) (ds : Stretches Value) → length ds * stretch_width ≤ length t
    → lay_stretches t 0 ds ≡ stretches_bytes ds ++ drop (length ds * stretch_width) t
lay_memory t ds h = lay_behind ds [] t 0 refl h
