-- No text but that of a bad bundle begins with a `b`: a line begins with a digit, or with the `e` of the end. Assumes nothing.
use Rattle.std.specs.Prelude.{◌≡◌, refl, ℕ, zero, suc, ◌+◌, ◌/◌, ◌%◌, Bool, true, false, cond, List, [], ◌∷◌, ◌++◌, length, get_or, replicate, ltb, eqb, ◌&&◌}
use Rattle.std.specs.List.{starts_with}
use Rattle.std.proofs.Common.{sym, ap, ◌∙◌, arith, ltb-true, eq-eqb, ne_eqb}
use borrow.Author.Tests.{eqb-true, eqb-false}
use Rattle.std.proofs.Math.Option.{Option, none, some}
use Rattle.records_rules.specs.Machine.{record_at_lem, damage_at, Answer, says, end}
use Rattle.records_rules.specs.Literal.{literal_run}
use Rattle.lines.specs.Lines.{decimal_f, decimal, blank, newline, damaged_word, record_line, damage_line, end_line, bad_line}
use Rattle.lines.specs.Sections.{streams_in}
use Rattle.replay_text.specs.Replay.{among, line_of, lines_of, text_of, replay_text}
use Rattle.replay_main.specs.Status.{status_of, text_status}

-- ---- the first byte

abbrev Other : List ℕ → Type 0
Other xs = get_or xs 0 0 ≡ 98 → ⊥

other_append : (xs ys : List ℕ) → Other xs → Other ys → Other (xs ++ ys)
other_append [] ys a b = b
other_append (x ∷ xs) ys a b = a

digit : (b : Bool) (n : ℕ) (before : List ℕ) → ltb n 10 ≡ b → Other before → Other (cond b ((48 + n) ∷ []) (before ++ ((48 + n % 10) ∷ [])))
digit true n before e o = λ h. omega (arith, ltb-true n 10 e)
digit false n before e o = other_append before ((48 + n % 10) ∷ []) o (λ h. omega arith)

digits : (f n : ℕ) → Other (decimal_f f n)
unfolding decimal_f
digits zero n = λ h. omega arith
digits (suc f) n = digit (ltb n 10) n (decimal_f f (n / 10)) refl (digits f (n / 10))

number : (n : ℕ) → Other (decimal n)
unfolding decimal
number n = digits (suc n) n

gap : Other blank
unfolding blank
gap h = omega arith

line : (x : Answer) → Other (line_of x)
unfolding line_of record_line damage_line end_line newline damaged_word
line (says p (record_at_lem a r)) =
    let times = decimal p ++ blank ++ decimal r.time in
    let o : Other times = other_append (decimal p ++ blank) (decimal r.time) (other_append (decimal p) blank (number p) gap) (number r.time) in
    let q : Other (times ++ blank) = other_append times blank o gap in
    other_append (times ++ blank ++ decimal r.instrument) newline
    (other_append (times ++ blank) (decimal r.instrument) q (number r.instrument)) (λ h. omega arith)
line (says p (damage_at a reason)) =
    let o : Other (decimal p ++ damaged_word) = other_append (decimal p) damaged_word (number p) (λ h. omega arith) in
    other_append (decimal p ++ damaged_word ++ decimal a) newline (other_append (decimal p ++ damaged_word) (decimal a) o (number a)) (λ h. omega arith)
line end = λ h. omega arith

lines : (xs : List Answer) → Other (lines_of xs)
unfolding lines_of
lines [] = λ h. omega arith
lines (x ∷ xs) = other_append (line_of x) (lines_of xs) (line x) (lines xs)

status : (o : Option (List (List ℕ))) → text_status (text_of o) ≡ status_of o
unfolding text_status text_of status_of bad_line
status none = refl
status (some ss) = rw (ne_eqb _ 98 (lines (literal_run (among ss) (replicate (length ss) 0)))) refl

-- a replay's text has the bundle's status
pub text_status_lem : (bundle : List ℕ) → text_status (replay_text bundle) ≡ status_of (streams_in bundle)
unfolding replay_text
text_status_lem bundle = status (streams_in bundle)

-- ---- a text's status

-- by whether the text begins with a `b`
abbrev pub by_bad : Bool → ℕ
by_bad b = cond b 1 0

pub status_first : (text : List ℕ) {b : Bool} → b ≡ starts_with eqb text (98 ∷ []) → by_bad b ≡ text_status text
unfolding text_status
status_first [] e = ap by_bad e
status_first (x ∷ xs) {b} e = go (eqb 98 x) refl e
  where
    go : (c : Bool) → eqb 98 x ≡ c → b ≡ c && true → by_bad b ≡ by_bad (eqb x 98)
    go true d f = ap by_bad (f ∙ sym (eq-eqb x 98 (sym (eqb-true 98 x d))))
    go false d f = ap by_bad (f ∙ sym (ne_eqb x 98 (λ z. eqb-false 98 x d (sym z))))
