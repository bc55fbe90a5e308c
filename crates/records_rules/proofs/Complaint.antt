-- The complaint put to rest (RULES, Requests, No. 11): in two runs that are alike but for the stream p, which may be cut, garbled or empty,
-- the others' records and damage reports are the same, byte for byte and in their order among each other. Over bytes, and over the
-- calls of the code. Streams need not be sorted. Assumes nothing.
use Rattle.std.specs.Prelude.{◌≡◌, refl, ◌≢◌, ℕ, suc, ◌+◌, ◌-◌, ◌≤◌, ◌<◌, Bool, true, false, cond, List, [], ◌∷◌, map, length, get_or, eqb}
use Rattle.std.proofs.Common.{sym, ap₂, ◌∙◌, arith, ne_eqb, eq-eqb}
use Rattle.std.proofs.Math.Path.{ap}
use Rattle.std.proofs.Math.Decide.{ℕ_discrete, dec_lt}
use Rattle.std.proofs.lemmas.List.{length-map}
use Rattle.std.proofs.Math.ListN.{get_or-eq_default}
use Rattle.std.proofs.Math.Seq.{slice, drop-nil}
use Rattle.theory.specs.Answer as theory
use Rattle.records_rules.specs.Machine.{Stream, Said, record_at_lem, damage_at}
use Rattle.records_rules.specs.Machine.{Status, Answer, says, end, Turn, turn, next, answer, rest, up_to}
use Rattle.records_rules.specs.Bytes.{bytes_of, streams_of}
use Rattle.records_rules.specs.Whole.{all_from}
use Rattle.records_rules.proofs.Whole.{all_step, run_all}
use Rattle.records_rules.specs.Literal.{literal_run}
use Rattle.records_rules.proofs.Literal.{told_run}
use Rattle.records_rules.specs.View.{length_tab, get_d_tab}
use Rattle.records_rules.specs.State.{answer_of, padded}
use Rattle.records_rules.specs.Calls.{Lent, Calls, stop, call, statuses_in}
use Rattle.records_rules.specs.Others.{others, records, reports, part_of, handed_out, buffer_run, AlikeBut}
use Rattle.records_rules.specs.Others.{heard_others, heard_records, heard_reports, heard_bytes, EndsFirst, Trace}
use Rattle.records_rules.proofs.OthersLaws.{complaint, run_counts}

-- ---- two runs that are alike but for p: the same streams and hints beside p's

-- behind the last stream nothing stands
part_none : (buffer cuts : List ℕ) (q : ℕ) → length cuts - 1 ≤ q → part_of buffer cuts q ≡ []
unfolding part_of
part_none buffer cuts q h =
    ap (λ (t : ℕ). slice (get_or cuts q 0) t buffer) (get_or-eq_default cuts 0 (omega arith)) ∙ drop-nil (get_or cuts q 0)

hint_given : (n : ℕ) (hints : List ℕ) (q : ℕ) → q < n → get_or (padded n hints) q 0 ≡ get_or hints q 0
unfolding padded
hint_given n hints q h = get_d_tab n (λ p. get_or hints p 0) q 0 h

hint_none : (n : ℕ) (hints : List ℕ) (q : ℕ) → n ≤ q → get_or (padded n hints) q 0 ≡ 0
unfolding padded
hint_none n hints q h = get_or-eq_default (padded n hints) 0 (omega (arith, length_tab n (λ p. get_or hints p 0)))

length_padded : (n : ℕ) (hints : List ℕ) → length (padded n hints) ≡ n
unfolding padded
length_padded n hints = length_tab n (λ p. get_or hints p 0)

module _ {p : ℕ} {buffer cuts hints buffer' cuts' hints' : List ℕ} (a : AlikeBut p buffer cuts hints buffer' cuts' hints') where
  same_part : (q : ℕ) → q ≢ p → part_of buffer cuts q ≡ part_of buffer' cuts' q
  same_part q d = go (dec_lt q (length cuts - 1))
    where
      go : Dec (q < length cuts - 1) → part_of buffer cuts q ≡ part_of buffer' cuts' q
      go (yes h) = a.parts q d h
      go (no h) = part_none buffer cuts q (omega arith) ∙ sym (part_none buffer' cuts' q (omega (arith, a.count)))

  same_stream : (q : ℕ) → q ≢ p → streams_of buffer cuts q ≡ streams_of buffer' cuts' q
  unfolding streams_of part_of
  same_stream q d = ap bytes_of (same_part q d)

  same_hint : (q : ℕ) → q ≢ p → get_or (padded (length cuts - 1) hints) q 0 ≡ get_or (padded (length cuts' - 1) hints') q 0
  same_hint q d = go (dec_lt q (length cuts - 1))
    where
      go : Dec (q < length cuts - 1) → get_or (padded (length cuts - 1) hints) q 0 ≡ get_or (padded (length cuts' - 1) hints') q 0
      go (yes h) =
          hint_given (length cuts - 1) hints q h ∙ a.hinted q d h ∙ sym (hint_given (length cuts' - 1) hints' q (omega (arith, a.count)))
      go (no h) =
          hint_none (length cuts - 1) hints q (omega arith) ∙ sym (hint_none (length cuts' - 1) hints' q (omega (arith, a.count)))

  same_many : length (padded (length cuts - 1) hints) ≡ length (padded (length cuts' - 1) hints')
  same_many =
      omega (arith, length_padded (length cuts - 1) hints, length_padded (length cuts' - 1) hints', a.count)

-- ---- over bytes

-- what the others hand out lies in their own bytes
handed_same : (p : ℕ) (part part' : ℕ → List ℕ) → ((q : ℕ) → q ≢ p → part q ≡ part' q) → (xs : List Answer)
    → map (handed_out part) (others p xs) ≡ map (handed_out part') (others p xs)
unfolding others handed_out
handed_same p part part' e [] = refl
handed_same p part part' e (end ∷ xs) = ap (λ (r : List (List ℕ)). [] ∷ r) (handed_same p part part' e xs)
handed_same p part part' e (says q y ∷ xs) = go y (ℕ_discrete q p) (handed_same p part part' e xs)
  where
    go : (y : Said) → Dec (q ≡ p) → map (handed_out part) (others p xs) ≡ map (handed_out part') (others p xs)
        → map (handed_out part) (others p (says q y ∷ xs)) ≡ map (handed_out part') (others p (says q y ∷ xs))
    go y (yes d) ih = rw (eq-eqb q p d) ih
    go (record_at_lem a r) (no d) ih = rw (ne_eqb q p d) (ap₂ ◌∷◌ (ap (slice a (a + r.size)) (e q d)) ih)
    go (damage_at a r) (no d) ih = rw (ne_eqb q p d) (ap (λ (r : List (List ℕ)). [] ∷ r) ih)

-- THE THEOREM over bytes: the others' answers are the same, and so are the bytes of the records that they hand out
pub complaint_bytes : {p : ℕ} {buffer cuts hints buffer' cuts' hints' : List ℕ} → AlikeBut p buffer cuts hints buffer' cuts' hints'
    → (others p (buffer_run buffer cuts hints) ≡ others p (buffer_run buffer' cuts' hints'))
    × (map (handed_out (part_of buffer cuts)) (others p (buffer_run buffer cuts hints))
    ≡ map (handed_out (part_of buffer' cuts')) (others p (buffer_run buffer' cuts' hints')))
unfolding buffer_run
complaint_bytes {p} {buffer} {cuts} {hints} {buffer'} {cuts'} {hints'} a =
    let b = streams_of buffer cuts in
    let b' = streams_of buffer' cuts' in
    let hs = padded (length cuts - 1) hints in
    let hs' = padded (length cuts' - 1) hints' in
    let e : others p (literal_run b hs) ≡ others p (literal_run b' hs') =
    ap (others p) (told_run b hs) ∙ complaint p b b' hs hs' (same_many a) (same_stream a) (same_hint a) ∙ sym (ap (others p) (told_run b' hs')) in
    (e, handed_same p (part_of buffer cuts) (part_of buffer' cuts') (same_part a) (literal_run b hs) ∙ ap (map (handed_out (part_of buffer' cuts'))) e)

-- the calls up to and including the first end: the records handed out, the damage reports, and one
pub buffer_counts : (buffer cuts hints : List ℕ) → let xs = buffer_run buffer cuts hints in length xs ≡ records xs + reports xs + 1
unfolding buffer_run
buffer_counts buffer cuts hints =
    let b = streams_of buffer cuts in
    let hs = padded (length cuts - 1) hints in
    rw (told_run b hs) (run_counts b hs)

-- ---- over the calls of the code

ends_later : (q : ℕ) (y : Said) (xs : List theory.Answer) → EndsFirst (answer_of (says q y) ∷ xs) → EndsFirst xs
ends_later q (record_at_lem a r) xs h = h
ends_later q (damage_at a reason) xs h = h

-- call after call up to the first end, the answers are all of the machine's
heard_all : {b : ℕ → Stream} {n : ℕ} {s : Lent} {xs : List theory.Answer} → Calls b n s xs → EndsFirst xs
    → xs ≡ map answer_of (all_from b (statuses_in n s))
unfolding up_to answer rest
heard_all stop h = absurd h
heard_all {b} {n} {s} (call {s' = s'} {x = x} {xs = xs} says_so more) h =
    go (next b (statuses_in n s)) says_so.heard says_so.leaves h (λ k. heard_all more k)
    ∙ sym (ap (map answer_of) (all_step b (statuses_in n s)))
  where
    go : (r : Turn) → x ≡ answer_of (answer r) → statuses_in n s' ≡ rest r → EndsFirst (x ∷ xs)
        → (EndsFirst xs → xs ≡ map answer_of (all_from b (statuses_in n s')))
        → x ∷ xs ≡ map answer_of (up_to (answer r) (all_from b (rest r)))
    go (turn (says q y) ss') e l k ih =
        let k' : EndsFirst (answer_of (says q y) ∷ xs) = rw e at k in
        ap₂ ◌∷◌ e (ih (ends_later q y xs k') ∙ ap (λ (ss : List Status). map answer_of (all_from b ss)) l)
    go (turn end ss') e l k ih =
        let k' : EndsFirst (answer_of end ∷ xs) = rw e at k in
        ap₂ ◌∷◌ e k'

-- the answers of a trace are the machine's over its buffer
pub trace_run : {buffer cuts hints : List ℕ} {xs : List theory.Answer} → Trace buffer cuts hints xs → xs ≡ map answer_of (buffer_run buffer cuts hints)
unfolding buffer_run
trace_run {buffer} {cuts} {hints} t =
    let b = streams_of buffer cuts in
    let hs = padded (length cuts - 1) hints in
    heard_all t.calls t.ends
    ∙ ap (λ (ss : List Status). map answer_of (all_from b ss)) t.opened.starts
    ∙ ap (map answer_of) (sym (told_run b hs ∙ run_all b hs))

-- an answer in the rules' numbers is of the stream p where the machine's is
either_way : (c : Bool) (x : Answer) (zs : List Answer) {rs : List theory.Answer} → rs ≡ map answer_of zs
    → cond c rs (answer_of x ∷ rs) ≡ map answer_of (cond c zs (x ∷ zs))
either_way true x zs e = e
either_way false x zs e = ap (λ (r : List theory.Answer). answer_of x ∷ r) e

heard_others_lem : (p : ℕ) (zs : List Answer) → heard_others p (map answer_of zs) ≡ map answer_of (others p zs)
unfolding heard_others others
heard_others_lem p [] = refl
heard_others_lem p (end ∷ zs) = ap (λ (r : List theory.Answer). answer_of end ∷ r) (heard_others_lem p zs)
heard_others_lem p (says q (record_at_lem a r) ∷ zs) = either_way (eqb q p) (says q (record_at_lem a r)) (others p zs) (heard_others_lem p zs)
heard_others_lem p (says q (damage_at a reason) ∷ zs) = either_way (eqb q p) (says q (damage_at a reason)) (others p zs) (heard_others_lem p zs)

heard_bytes_lem : (part : ℕ → List ℕ) (zs : List Answer) → map (heard_bytes part) (map answer_of zs) ≡ map (handed_out part) zs
unfolding heard_bytes handed_out
heard_bytes_lem part [] = refl
heard_bytes_lem part (end ∷ zs) = ap (λ (r : List (List ℕ)). [] ∷ r) (heard_bytes_lem part zs)
heard_bytes_lem part (says q (record_at_lem a r) ∷ zs) = ap (λ (s : List (List ℕ)). slice a (a + r.size) (part q) ∷ s) (heard_bytes_lem part zs)
heard_bytes_lem part (says q (damage_at a reason) ∷ zs) = ap (λ (r : List (List ℕ)). [] ∷ r) (heard_bytes_lem part zs)

heard_records_lem : (zs : List Answer) → heard_records (map answer_of zs) ≡ records zs
unfolding heard_records records
heard_records_lem [] = refl
heard_records_lem (end ∷ zs) = heard_records_lem zs
heard_records_lem (says q (record_at_lem a r) ∷ zs) = ap suc (heard_records_lem zs)
heard_records_lem (says q (damage_at a reason) ∷ zs) = heard_records_lem zs

heard_reports_lem : (zs : List Answer) → heard_reports (map answer_of zs) ≡ reports zs
unfolding heard_reports reports
heard_reports_lem [] = refl
heard_reports_lem (end ∷ zs) = heard_reports_lem zs
heard_reports_lem (says q (record_at_lem a r) ∷ zs) = heard_reports_lem zs
heard_reports_lem (says q (damage_at a reason) ∷ zs) = ap suc (heard_reports_lem zs)

-- THE THEOREM over the calls of `open` and `next`: the others' answers are the same, and so are the bytes of the records that they
-- hand out
pub complaint_calls : {p : ℕ} {buffer cuts hints buffer' cuts' hints' : List ℕ} {xs ys : List theory.Answer}
    → AlikeBut p buffer cuts hints buffer' cuts' hints' → Trace buffer cuts hints xs → Trace buffer' cuts' hints' ys
    → (heard_others p xs ≡ heard_others p ys)
    × (map (heard_bytes (part_of buffer cuts)) (heard_others p xs) ≡ map (heard_bytes (part_of buffer' cuts')) (heard_others p ys))
complaint_calls {p} {buffer} {cuts} {hints} {buffer'} {cuts'} {hints'} {xs} {ys} a t u =
    let zs = buffer_run buffer cuts hints in
    let zs' = buffer_run buffer' cuts' hints' in
    let same = complaint_bytes a in
    let x : heard_others p xs ≡ map answer_of (others p zs) = ap (heard_others p) (trace_run t) ∙ heard_others_lem p zs in
    let y : heard_others p ys ≡ map answer_of (others p zs') = ap (heard_others p) (trace_run u) ∙ heard_others_lem p zs' in (
      x ∙ ap (map answer_of) same.0 ∙ sym y,
      ap (map (heard_bytes (part_of buffer cuts))) x ∙ heard_bytes_lem (part_of buffer cuts) (others p zs)
          ∙ same.1
          ∙ sym (ap (map (heard_bytes (part_of buffer' cuts'))) y ∙ heard_bytes_lem (part_of buffer' cuts') (others p zs')),
    )

-- and so many calls were made
pub trace_counts : {buffer cuts hints : List ℕ} {xs : List theory.Answer} → Trace buffer cuts hints xs → length xs ≡ heard_records xs + heard_reports xs + 1
trace_counts {buffer} {cuts} {hints} {xs} t =
    let zs = buffer_run buffer cuts hints in
    let e : xs ≡ map answer_of zs = trace_run t in
    omega (
      arith,
      ap length e ∙ length-map zs answer_of,
      ap heard_records e ∙ heard_records_lem zs,
      ap heard_reports e ∙ heard_reports_lem zs,
      buffer_counts buffer cuts hints,
    )
