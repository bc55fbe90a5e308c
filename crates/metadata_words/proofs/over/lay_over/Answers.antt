-- `over::lay_over` meets its contract: the words are pasted, and what is freed is cleared, where anything is. Assumes nothing.
use Rattle.std.specs.Prelude.{◌≡◌, refl, ℕ, ◌+◌, ◌-◌, List, ◌++◌, length, take, drop, replicate}
use Rattle.std.proofs.Common.{sym, ap, ◌∙◌, arith, length-append, length-drop, length-take, length-take-le}
use Rattle.std.proofs.Math.Seq.{paste}
use Rattle.std.proofs.lemmas.List.{length-replicate}
use Rattle.std.proofs.lemmas.Slice.{put_mid-paste}
use Rattle.metadata_words.specs.Over.{over_kept, over_freed}
use Rattle.metadata_words.proofs.over.lay_over.Goals as goal

laid : (d t x : List ℕ) (n : ℕ) → x ≡ take n t → x ++ drop n d ≡ paste d 0 t n
laid d t x n e = let z : n ≡ 0 + n = omega arith in ap (λ (l : List ℕ). l ++ drop n d) e ∙ ap (λ (i : ℕ). take n t ++ drop i d) z

pub returns-then-count-used : goal.returns-then-count-used
returns-then-count-used c =
    let a = c.args in
    let copied = laid a.list.now a.words.now c.copy.new.to a.count c.copy.ensures in
    let front = ap length c.copy.ensures ∙ length-take-le a.count a.words.now c.requires.2 in
    let freed : length (take (a.used - a.count) (drop a.count (c.copy.new.to ++ drop a.count a.list.now))) ≡ a.used - a.count =
    simp (length-take, length-drop, length-append) (omega arith) in
    let zeros = c.fill.ensures.after (λ y e. e) ∙ ap (λ (k : ℕ). replicate k 0) freed in
    over_freed a.list.now _ _ a.words.now a.used a.count c.requires.1 c.requires.2 c.if-count-used.true copied
    (put_mid-paste a.count (a.used - a.count) _ c.fill.new.self (replicate (a.used - a.count) 0) (a.used - a.count) zeros refl
    (sym (length-replicate {A = ℕ} (a.used - a.count) 0)))

pub returns-else-count-used : goal.returns-else-count-used
returns-else-count-used c =
    let a = c.args in
    laid a.list.now a.words.now c.copy.new.to a.count c.copy.ensures
    ∙ over_kept a.list.now a.words.now a.used a.count c.requires.2 c.if-count-used.false
