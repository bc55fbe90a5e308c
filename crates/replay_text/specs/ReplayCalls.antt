-- From a bundle that was taken apart to its text, and what `replay` then answers and leaves. Assumes nothing.
use Rattle.std.specs.Prelude.{◌≡◌, refl, ℕ, zero, suc, ◌-◌, ◌+◌, ◌≤◌, ◌<◌, List, [], ◌∷◌, length, get_or, drop, replicate, Bool, true, false, cond, ltb, Result, Ok, Err}
use Rattle.std.proofs.Common.{sym, ap, ◌∙◌, arith, length-append, take_at, length-take-le}
use Rattle.std.proofs.Math.ListN.{take}
use borrow.Author.Tests.{le-leb, eq-eqb, lt-ltb, le-ltb}
use Rattle.std.proofs.Math.Option.{none}
use Rattle.theory.specs.Answer as theory
use Rattle.records_rules.specs.Machine.{start}
use Rattle.records_rules.specs.Bytes.{streams_of}
use Rattle.records_rules.specs.State.{rise_to, right_streams}
use Rattle.lines.specs.Sections.{streams_in, Apart}
use Rattle.lines.specs.Lines.{bad_line, laid, Lays}
use Rattle.lines.specs.LinesLaws.{lays_same}
use Rattle.replay_text.specs.Replay.{text_of, replay_text, replay_answer, replay_laid, lines_left}
use Rattle.replay_text.specs.ReplayLaws.{cs_cuts, apart_text, apart_room}
use Rattle.theory.specs.Answer.{one_value}
use Rattle.leaves.specs.Refusal.{number_of, answer_with}
use Rattle.leaves.specs.RefusalLaws.{refused_not_done, refused_one}
use Rattle.leaves.specs.declared.refusal.Refusal.{Refusal}
use Rattle.replay_text.specs.Telling.{Cut}

-- ---- a bundle that was taken apart

rise_all : (n : ℕ) (cuts : List ℕ) → ((p : ℕ) → p < n → get_or cuts p 0 ≤ get_or cuts (p + 1) 0) → rise_to n cuts ≡ true
unfolding rise_to
rise_all zero cuts h = refl
rise_all (suc n) cuts h = rw (le-leb (get_or cuts n 0) (get_or cuts (n + 1) 0) (h n (omega arith))) (rise_all n cuts (λ p l. h p (omega arith)))

-- the bundle was taken apart, into room that is large enough, and there is room for its text
pub record Taken (bundle buffer cuts text : List ℕ) (n bytes : ℕ) : Type 0 where
  pub apart : Apart bundle buffer cuts n bytes
  pub large : 60000 ≤ length buffer
  pub many : 257 ≤ length cuts
  pub room : 252441 ≤ length text

module _ {bundle buffer cuts text : List ℕ} {n bytes : ℕ} (t : Taken bundle buffer cuts text n bytes) where
  -- what is in use of the buffer, and of the cuts
  pub taken_bytes : (bytes ≤ length buffer) × (bytes ≡ length (take bytes buffer))
  taken_bytes =
      let h : bytes ≤ length buffer = omega (arith, t.apart.fits, t.large) in
      (h, sym (length-take-le bytes buffer h))

  pub taken_cuts : (n + 1 ≤ length cuts) × (n + 1 ≡ length (take (n + 1) cuts))
  taken_cuts =
      let h : n + 1 ≤ length cuts = omega (arith, t.apart.few, t.many) in
      (h, sym (length-take-le (n + 1) cuts h))

  less : length (take (n + 1) cuts) - 1 ≡ n
  less = omega (arith, taken_cuts.1)

  -- its cuts are right, and its text fits
  pub taken_cut : Cut (take bytes buffer) (take (n + 1) cuts) text
  unfolding right_streams
  taken_cut =
      let a = t.apart in
      let cs = take (n + 1) cuts in
      let c = cs_cuts buffer cuts n bytes a.cut in
      record {
        right = rw (
          le-leb 2 (length cs) (omega (arith, taken_cuts.1, a.some)),
          le-leb (length cs) 257 (omega (arith, taken_cuts.1, a.few)),
          eq-eqb (get_or cs 0 0) 0 c.first,
          less,
          eq-eqb (get_or cs n 0) (length (take bytes buffer)) (c.last ∙ taken_bytes.1),
          rise_all n cs c.rises,
        );
        few = omega (arith, taken_cuts.1, a.few);
        room = rw less (omega (arith, t.room, apart_room bundle buffer cuts n bytes a taken_cuts.0));
      }

  -- what the merge of its streams tells is its text
  pub taken_lays : {text' : List ℕ} {r : ℕ}
      → Lays text 0 (lines_left (streams_of (take bytes buffer) (take (n + 1) cuts)) (start (replicate (length (take (n + 1) cuts) - 1) 0))) r text'
      → Lays text 0 (replay_text bundle) r text'
  taken_lays l =
      lays_same (
      ap (λ (k : ℕ). lines_left (streams_of (take bytes buffer) (take (n + 1) cuts)) (start (replicate k 0))) less
      ∙ sym (apart_text bundle buffer cuts n bytes t.apart taken_cuts.0)
      ) l

-- a bad bundle's text
pub bad_lays : (bundle : List ℕ) {text text' : List ℕ} {r : ℕ} → streams_in bundle ≡ none → Lays text 0 bad_line r text' → Lays text 0 (replay_text bundle) r text'
unfolding replay_text text_of
bad_lays bundle e l = lays_same (sym (ap text_of e)) l

-- ---- the answer

pub replay_short : (bundle text : List ℕ) → length text < 252441 → (theory.answer 15 [] ≡ replay_answer bundle (length text)) × (text ≡ replay_laid bundle text)
unfolding replay_answer replay_laid
replay_short bundle text h = (rw (lt-ltb (length text) 252441 h), rw (lt-ltb (length text) 252441 h))

pub replay_laid_lem : (bundle : List ℕ) {text text' : List ℕ} {r : ℕ} → 252441 ≤ length text → Lays text 0 (replay_text bundle) r text'
    → (theory.answer 0 (r ∷ []) ≡ replay_answer bundle (length text)) × (text' ≡ replay_laid bundle text)
unfolding replay_answer replay_laid
replay_laid_lem bundle {text} {text'} {r} h l =
    let e : r ≡ length (replay_text bundle) = omega (arith, l.behind) in
    (rw (le-ltb (length text) 252441 h) (ap (λ (k : ℕ). theory.answer 0 (k ∷ [])) e), rw (le-ltb (length text) 252441 h) l.whole)

-- what a call laid and counted is the text, no longer than what it was laid in
pub text_taken : (bundle text text' : List ℕ) (n : ℕ) → theory.answer 0 (n ∷ []) ≡ replay_answer bundle (length text) → text' ≡ replay_laid bundle text
    → (take n text' ≡ replay_text bundle) × (n ≤ length text')
unfolding replay_answer replay_laid laid
text_taken bundle text text' n e l = go (ltb (length text) 252441) e l
  where
    go : (b : Bool) → theory.answer 0 (n ∷ []) ≡ cond b (theory.answer 15 []) (theory.answer 0 (length (replay_text bundle) ∷ []))
        → text' ≡ cond b text (laid text 0 (replay_text bundle)) → (take n text' ≡ replay_text bundle) × (n ≤ length text')
    go true e' l' = let z : ◌≡◌ {A = ℕ} 0 15 = cc in absurd (omega arith)
    go false e' l' =
        let w : length (replay_text bundle) ≡ n = cc in
        let behind = drop (0 + length (replay_text bundle)) text in
        (ap (take n) l' ∙ take_at (replay_text bundle) behind n w, omega (arith, ap length l', length-append (replay_text bundle) behind))

-- only one answer fits
pub replayed_one : (x y : Result ℕ Refusal) → answer_with one_value x ≡ answer_with one_value y → x ≡ y
replayed_one (Ok n) (Ok k) e = cc
replayed_one (Ok n) (Err q) e = let z : number_of q ≡ 0 = cc in absurd (refused_not_done q z)
replayed_one (Err r) (Ok k) e = let z : number_of r ≡ 0 = cc in absurd (refused_not_done r z)
replayed_one (Err r) (Err q) e = ap Err (refused_one r q e)
