-- What one stream leaves alone (RULES, Requests, No. 11): a run's answers without those of the stream p, the bytes of the records that it
-- hands out, and when two runs are alike but for p. Assumes nothing.
use Rattle.std.specs.Prelude.{◌≡◌, ◌≢◌, ℕ, zero, suc, ◌+◌, ◌-◌, ◌<◌, cond, List, [], ◌∷◌, length, get_or, eqb}
use Rattle.std.proofs.Math.Seq.{slice}
use Rattle.theory.specs.Answer as theory
use Rattle.records_rules.specs.Machine.{record_at_lem, damage_at, Answer, says, end}
use Rattle.records_rules.specs.Bytes.{streams_of}
use Rattle.records_rules.specs.Literal.{literal_run}
use Rattle.records_rules.specs.State.{padded, OpenedIn}
use Rattle.records_rules.specs.Calls.{Lent, Calls}

-- ---- the machine's answers

-- without those of the stream p: the others' records and damage reports with their stream numbers, in their order, and the end
unfoldable pub without : ℕ → Answer → List Answer → List Answer
without p (says q y) xs = cond (eqb q p) xs (says q y ∷ xs)
without p end xs = end ∷ xs

unfoldable pub others : ℕ → List Answer → List Answer
unfolding without
others p [] = []
others p (x ∷ xs) = without p x (others p xs)

-- how many of them are records, and how many damage reports
unfoldable pub records : List Answer → ℕ
records [] = 0
records (says p (record_at_lem a r) ∷ xs) = suc (records xs)
records (says p (damage_at a reason) ∷ xs) = records xs
records (end ∷ xs) = records xs

unfoldable pub reports : List Answer → ℕ
reports [] = 0
reports (says p (record_at_lem a r) ∷ xs) = reports xs
reports (says p (damage_at a reason) ∷ xs) = suc (reports xs)
reports (end ∷ xs) = reports xs

-- ---- bytes

-- stream p's part of a buffer: from cut p to the next one
unfoldable pub part_of : List ℕ → List ℕ → ℕ → List ℕ
part_of buffer cuts p = slice (get_or cuts p 0) (get_or cuts (p + 1) 0) buffer

-- the bytes of the record that an answer hands out, where stream q's bytes are `part q`; any other answer hands out none
unfoldable pub handed_out : (ℕ → List ℕ) → Answer → List ℕ
handed_out part (says q (record_at_lem a r)) = slice a (a + r.size) (part q)
handed_out part (says q (damage_at a reason)) = []
handed_out part end = []

-- the answers over a buffer, its cuts and hints, call after call up to and including the first end
unfoldable pub buffer_run : List ℕ → List ℕ → List ℕ → List Answer
buffer_run buffer cuts hints = literal_run (streams_of buffer cuts) (padded (length cuts - 1) hints)

-- as many streams, each but p with the same bytes and the same hint, 0 where no hints are given. Nothing is said of p's bytes and
-- hint, nor of the cuts: where p's length differs, every cut behind it does
pub record AlikeBut (p : ℕ) (buffer cuts hints buffer' cuts' hints' : List ℕ) : Type 0 where
  pub count : length cuts ≡ length cuts'
  pub parts : (q : ℕ) → q ≢ p → q < length cuts - 1 → part_of buffer cuts q ≡ part_of buffer' cuts' q
  pub hinted : (q : ℕ) → q ≢ p → q < length cuts - 1 → get_or hints q 0 ≡ get_or hints' q 0

-- ---- the same of the code's answers, in the rules' numbers: the stream is the first value, and the end has no value

unfoldable pub heard_without : ℕ → theory.Answer → List theory.Answer → List theory.Answer
heard_without p (theory.answer n []) xs = theory.answer n [] ∷ xs
heard_without p (theory.answer n (q ∷ vs)) xs = cond (eqb q p) xs (theory.answer n (q ∷ vs) ∷ xs)

unfoldable pub heard_others : ℕ → List theory.Answer → List theory.Answer
unfolding heard_without
heard_others p [] = []
heard_others p (x ∷ xs) = heard_without p x (heard_others p xs)

-- a record is 0 with values, a damage report 13
unfoldable pub heard_records : List theory.Answer → ℕ
heard_records [] = 0
heard_records (theory.answer zero [] ∷ xs) = heard_records xs
heard_records (theory.answer zero (q ∷ vs) ∷ xs) = suc (heard_records xs)
heard_records (theory.answer (suc n) vs ∷ xs) = heard_records xs

unfoldable pub heard_reports : List theory.Answer → ℕ
heard_reports [] = 0
heard_reports (theory.answer n vs ∷ xs) = cond (eqb n 13) (suc (heard_reports xs)) (heard_reports xs)

-- a record's values begin with stream, place and length
unfoldable pub heard_bytes : (ℕ → List ℕ) → theory.Answer → List ℕ
heard_bytes part (theory.answer zero []) = []
heard_bytes part (theory.answer zero (q ∷ [])) = []
heard_bytes part (theory.answer zero (q ∷ a ∷ [])) = []
heard_bytes part (theory.answer zero (q ∷ a ∷ size ∷ vs)) = slice a (a + size) (part q)
heard_bytes part (theory.answer (suc n) vs) = []

-- the last answer is the end (0 with no value), and no earlier one is
abbrev pub EndsFirst : List theory.Answer → Type 0
EndsFirst [] = ⊥
EndsFirst (theory.answer zero [] ∷ xs) = xs ≡ []
EndsFirst (theory.answer zero (q ∷ vs) ∷ xs) = EndsFirst xs
EndsFirst (theory.answer (suc n) vs ∷ xs) = EndsFirst xs

-- a run of the code on lent memory: what an accepted `open` left, and the answers of `next` from there up to and including the
-- first end
pub record Trace (buffer cuts hints : List ℕ) (xs : List theory.Answer) : Type 0 where
  pub left : Lent
  pub opened : OpenedIn (length cuts - 1) hints left.arrays
  pub calls : Calls (streams_of buffer cuts) (length cuts - 1) left xs
  pub ends : EndsFirst xs
