-- The complaint put to rest in the replay's text (RULES, Requests, No. 11): where two bundles are alike but for the stream p, the lines
-- that are not p's are the same, in order. A number's digits hold no blank and no newline and say one number. Assumes nothing.
use Rattle.std.specs.Prelude.{◌≡◌, refl, ◌≢◌, ℕ, zero, suc, ◌+◌, ◌-◌, ◌*◌, ◌/◌, ◌%◌, ◌≤◌, ◌<◌, Bool, true, false, ◌&&◌, cond, List, [], ◌∷◌, ◌++◌, map, length, replicate, eqb}
use Rattle.std.proofs.Common.{sym, ap, ◌∙◌, arith, append_assoc, eq-eqb, ne_eqb, eqb-true, lt-ltb, le-ltb}
use Rattle.std.proofs.Math.Decide.{ℕ_discrete, dec_lt}
use Rattle.std.proofs.Math.Option.{some}
use Rattle.std.proofs.lemmas.List.{length-map}
use Rattle.records_rules.specs.Machine.{Said, record_at_lem, damage_at, Answer, says, end}
use Rattle.records_rules.specs.Bytes.{bytes_of}
use Rattle.records_rules.specs.Whole.{run}
use Rattle.records_rules.proofs.Literal.{told_run}
use Rattle.records_rules.specs.Others.{others, records, reports}
use Rattle.records_rules.proofs.OthersLaws.{complaint, run_counts}
use Rattle.lines.specs.Lines.{decimal_f, decimal, blank, newline, damaged_word, record_line, damage_line, end_line}
use Rattle.lines.specs.Sections.{streams_in}
use Rattle.replay_text.specs.Replay.{among, line_of, lines_of, text_of, replay_text}
use Rattle.replay_text.specs.OtherLines.{in_front, lines_in, begins, line_is_of, not_of, other_lines, BundlesAlikeBut}

-- ---- digits

-- each is from 48 ("0") to 57 ("9")
abbrev Digits : List ℕ → Type 0
Digits [] = Unit {0}
Digits (b ∷ s) = (48 ≤ b) × (b ≤ 57) × Digits s

digits_more : (s : List ℕ) (b : ℕ) → Digits s → 48 ≤ b → b ≤ 57 → Digits (s ++ (b ∷ []))
digits_more [] b d l u = (l, u, tt)
digits_more (x ∷ s) b d l u = (d.0, d.1, digits_more s b d.2 l u)

are_digits_f : (f n : ℕ) → Digits (decimal_f f n)
unfolding decimal_f
are_digits_f zero n = tt
are_digits_f (suc f) n = go (dec_lt n 10) (are_digits_f f (n / 10))
  where
    go : Dec (n < 10) → Digits (decimal_f f (n / 10)) → Digits (decimal_f (suc f) n)
    go (yes h) ih = rw (lt-ltb n 10 h) (omega arith, omega arith, tt)
    go (no h) ih = rw (le-ltb n 10 (omega arith)) (digits_more (decimal_f f (n / 10)) (48 + n % 10) ih (omega arith) (omega arith))

are_digits : (n : ℕ) → Digits (decimal n)
unfolding decimal
are_digits n = are_digits_f (suc n) n

-- the number that digits say, after v
said : ℕ → List ℕ → ℕ
said v [] = v
said v (b ∷ s) = said (v * 10 + (b - 48)) s

said_more : (v : ℕ) (s : List ℕ) (b : ℕ) → said v (s ++ (b ∷ [])) ≡ said v s * 10 + (b - 48)
unfolding said
said_more v [] b = refl
said_more v (x ∷ s) b = said_more (v * 10 + (x - 48)) s b

said_decimal_f : (f n : ℕ) → n < f → said 0 (decimal_f f n) ≡ n
unfolding decimal_f said
said_decimal_f zero n h = absurd (omega arith)
said_decimal_f (suc f) n h = go (dec_lt n 10) (λ l. said_decimal_f f (n / 10) l)
  where
    go : Dec (n < 10) → (n / 10 < f → said 0 (decimal_f f (n / 10)) ≡ n / 10) → said 0 (decimal_f (suc f) n) ≡ n
    go (yes l) ih = rw (lt-ltb n 10 l) (omega arith)
    go (no l) ih =
        rw (le-ltb n 10 (omega arith))
        (said_more 0 (decimal_f f (n / 10)) (48 + n % 10) ∙ omega (arith, ih (omega arith)))

-- two numbers with the same digits are one
decimal_one : (m n : ℕ) → decimal m ≡ decimal n → m ≡ n
unfolding decimal
decimal_one m n e = sym (said_decimal_f (suc m) m (omega arith)) ∙ ap (said 0) e ∙ said_decimal_f (suc n) n (omega arith)

-- ---- whose line it is

never : {X : Type 0} → false ≡ true → X
never z = let n : ◌≡◌ {A = ℕ} 0 1 = ap (λ (c : Bool). cond c 1 0) z in absurd (omega arith)

begins_itself : (u t : List ℕ) → begins (u ++ (32 ∷ [])) (u ++ (32 ∷ t)) ≡ true
unfolding begins
begins_itself [] t = refl
begins_itself (x ∷ u) t = rw (eq-eqb x x refl) (begins_itself u t)

begins_same : (u v t : List ℕ) → Digits u → Digits v → begins (u ++ (32 ∷ [])) (v ++ (32 ∷ t)) ≡ true → u ≡ v
unfolding begins
begins_same [] [] t d d' e = refl
begins_same [] (y ∷ v) t d d' e = never (ap (λ (c : Bool). c && true) (sym (ne_eqb 32 y (λ z. omega arith))) ∙ e)
begins_same (x ∷ u) [] t d d' e = never (ap (λ (c : Bool). c && begins (u ++ (32 ∷ [])) t) (sym (ne_eqb x 32 (λ z. omega arith))) ∙ e)
begins_same (x ∷ u) (y ∷ v) t d d' e = go (eqb x y) refl e (λ k. begins_same u v t d.2 d'.2 k)
  where
    go : (c : Bool) → eqb x y ≡ c → (c && begins (u ++ (32 ∷ [])) (v ++ (32 ∷ t))) ≡ true
        → (begins (u ++ (32 ∷ [])) (v ++ (32 ∷ t)) ≡ true → u ≡ v) → x ∷ u ≡ y ∷ v
    go true z k ih = λ i. eqb-true x y z i ∷ ih k i
    go false z k ih = never k

-- a line that begins with q's number is p's where q is p
begins_number : (p q : ℕ) (t : List ℕ) → line_is_of p (decimal q ++ (32 ∷ t)) ≡ eqb q p
unfolding line_is_of blank
begins_number p q t = go (ℕ_discrete q p)
  where
    no_way : (c : Bool) → q ≢ p → begins (decimal p ++ (32 ∷ [])) (decimal q ++ (32 ∷ t)) ≡ c → c ≡ false
    no_way true d e = absurd (d (sym (decimal_one p q (begins_same (decimal p) (decimal q) t (are_digits p) (are_digits q) e))))
    no_way false d e = refl

    go : Dec (q ≡ p) → begins (decimal p ++ (32 ∷ [])) (decimal q ++ (32 ∷ t)) ≡ eqb q p
    go (yes d) =
        ap (λ (i : ℕ). begins (decimal p ++ (32 ∷ [])) (decimal i ++ (32 ∷ t))) d
        ∙ begins_itself (decimal p) t
        ∙ sym (eq-eqb q p d)
    go (no d) = no_way (begins (decimal p ++ (32 ∷ [])) (decimal q ++ (32 ∷ t))) d refl ∙ sym (ne_eqb q p d)

-- "end" is nobody's
end_word : List ℕ
end_word = 101 ∷ 110 ∷ 100 ∷ []

begins_end : (u : List ℕ) → Digits u → begins (u ++ (32 ∷ [])) (101 ∷ 110 ∷ 100 ∷ []) ≡ false
unfolding begins
begins_end [] d = refl
begins_end (x ∷ u) d = ap (λ (c : Bool). c && begins (u ++ (32 ∷ [])) (110 ∷ 100 ∷ [])) (ne_eqb x 101 (λ z. omega arith))

-- ---- an answer's line, without its newline

shown : Answer → List ℕ
unfolding end_word
shown (says p (record_at_lem a r)) = decimal p ++ blank ++ decimal r.time ++ blank ++ decimal r.instrument
shown (says p (damage_at a reason)) = decimal p ++ damaged_word ++ decimal a
shown end = end_word

shown_line : (x : Answer) → line_of x ≡ shown x ++ (10 ∷ [])
unfolding line_of shown record_line damage_line end_line newline end_word
shown_line (says p (record_at_lem a r)) = refl
shown_line (says p (damage_at a reason)) = refl
shown_line end = refl

-- what follows the stream's number and a blank
after_number : Said → List ℕ
after_number (record_at_lem a r) = decimal r.time ++ (blank ++ decimal r.instrument)
after_number (damage_at a reason) = 100 ∷ 97 ∷ 109 ∷ 97 ∷ 103 ∷ 101 ∷ 100 ∷ 32 ∷ decimal a

shown_number : (p : ℕ) (y : Said) → shown (says p y) ≡ decimal p ++ (32 ∷ after_number y)
unfolding shown after_number blank damaged_word
shown_number p (record_at_lem a r) =
    let t = decimal r.time in
    let i = decimal r.instrument in
    append_assoc (decimal p ++ blank ++ t) blank i ∙ append_assoc (decimal p ++ blank) t (blank ++ i) ∙ append_assoc (decimal p) blank (t ++ (blank ++ i))
shown_number p (damage_at a reason) = append_assoc (decimal p) damaged_word (decimal a)

-- no newline in it
abbrev Plain : List ℕ → Type 0
Plain [] = Unit {0}
Plain (b ∷ s) = (eqb b 10 ≡ false) × Plain s

digits_plain : (s : List ℕ) → Digits s → Plain s
digits_plain [] d = tt
digits_plain (b ∷ s) d = (ne_eqb b 10 (λ e. omega arith), digits_plain s d.2)

plain_append : (s t : List ℕ) → Plain s → Plain t → Plain (s ++ t)
plain_append [] t a b = b
plain_append (x ∷ s) t a b = (a.0, plain_append s t a.1 b)

decimal_plain : (n : ℕ) → Plain (decimal n)
decimal_plain n = digits_plain (decimal n) (are_digits n)

shown_plain : (x : Answer) → Plain (shown x)
unfolding shown blank damaged_word end_word
shown_plain (says p (record_at_lem a r)) =
    let t = decimal r.time in
    plain_append (decimal p ++ blank ++ t ++ blank) (decimal r.instrument)
    (plain_append (decimal p ++ blank ++ t) blank
    (plain_append (decimal p ++ blank) t (plain_append (decimal p) blank (decimal_plain p) (refl, tt)) (decimal_plain r.time)) (refl, tt))
    (decimal_plain r.instrument)
shown_plain (says p (damage_at a reason)) =
    plain_append (decimal p ++ damaged_word) (decimal a)
    (plain_append (decimal p) damaged_word (decimal_plain p) (refl, (refl, (refl, (refl, (refl, (refl, (refl, (refl, (refl, tt)))))))))) (decimal_plain a)
shown_plain end = (refl, (refl, (refl, tt)))

line_first : (w s : List ℕ) → Plain w → lines_in (w ++ (10 ∷ s)) ≡ w ∷ lines_in s
unfolding lines_in in_front
line_first [] s k = refl
line_first (b ∷ w) s k = rw k.0 (ap (in_front b) (line_first w s k.1))

-- the text of a run has a line for each answer
lines_are : (xs : List Answer) → lines_in (lines_of xs) ≡ map shown xs
unfolding lines_of lines_in newline
lines_are [] = refl
lines_are (x ∷ xs) =
    ap (λ (l : List ℕ). lines_in (l ++ lines_of xs)) (shown_line x)
    ∙ ap lines_in (append_assoc (shown x) (10 ∷ []) (lines_of xs))
    ∙ line_first (shown x) (lines_of xs) (shown_plain x)
    ∙ ap (λ (ls : List (List ℕ)). shown x ∷ ls) (lines_are xs)

-- ---- the others' lines

end_nobody : (p : ℕ) → line_is_of p (shown end) ≡ false
unfolding line_is_of shown end_word blank
end_nobody p = begins_end (decimal p) (are_digits p)

either_way : (c : Bool) (x : Answer) (zs : List Answer) {ls : List (List ℕ)} → ls ≡ map shown zs
    → cond c ls (shown x ∷ ls) ≡ map shown (cond c zs (x ∷ zs))
either_way true x zs e = e
either_way false x zs e = ap (λ (ls : List (List ℕ)). shown x ∷ ls) e

not_of_lem : (p : ℕ) (xs : List Answer) → not_of p (map shown xs) ≡ map shown (others p xs)
unfolding not_of others
not_of_lem p [] = refl
not_of_lem p (end ∷ xs) =
    ap (λ (c : Bool). cond c (not_of p (map shown xs)) (shown end ∷ not_of p (map shown xs))) (end_nobody p)
    ∙ ap (λ (ls : List (List ℕ)). shown end ∷ ls) (not_of_lem p xs)
not_of_lem p (says q y ∷ xs) =
    ap (λ (c : Bool). cond c (not_of p (map shown xs)) (shown (says q y) ∷ not_of p (map shown xs))) (ap (line_is_of p) (shown_number q y) ∙ begins_number p q (after_number y))
    ∙ either_way (eqb q p) (says q y) (others p xs) (not_of_lem p xs)

-- those of a run are the lines of its other answers
other_lines_lem : (p : ℕ) (xs : List Answer) → other_lines p (lines_of xs) ≡ map shown (others p xs)
unfolding other_lines
other_lines_lem p xs = ap (not_of p) (lines_are xs) ∙ not_of_lem p xs

-- the answers that a text of these streams tells
text_run : (bundle : List ℕ) (ss : List (List ℕ)) → streams_in bundle ≡ some ss → replay_text bundle ≡ lines_of (run (among ss) (replicate (length ss) 0))
unfolding replay_text text_of
text_run bundle ss e = ap text_of e ∙ ap lines_of (told_run (among ss) (replicate (length ss) 0))

-- THE THEOREM of the text: whatever the stream p holds, the lines of the others, and the end, are the same lines in the same order
pub complaint_text : {p : ℕ} {bundle bundle' : List ℕ} → BundlesAlikeBut p bundle bundle'
    → other_lines p (replay_text bundle) ≡ other_lines p (replay_text bundle')
unfolding among
complaint_text {p} {bundle} {bundle'} a =
    let b = among a.streams in
    let b' = among a.streams' in
    let n = length a.streams' in
    ap (other_lines p) (text_run bundle a.streams a.apart ∙ ap (λ (k : ℕ). lines_of (run b (replicate k 0))) a.count)
    ∙ other_lines_lem p (run b (replicate n 0))
    ∙ ap (map shown) (complaint p b b' (replicate n 0) (replicate n 0) refl (λ q d. ap bytes_of (a.same q d)) (λ q d. refl))
    ∙ sym (ap (other_lines p) (text_run bundle' a.streams' a.apart') ∙ other_lines_lem p (run b' (replicate n 0)))

-- a text has a line for each record, one for each damage report, and the last
pub text_counts : (bundle : List ℕ) (ss : List (List ℕ)) → streams_in bundle ≡ some ss
    → let xs = run (among ss) (replicate (length ss) 0) in length (lines_in (replay_text bundle)) ≡ records xs + reports xs + 1
text_counts bundle ss e =
    let xs = run (among ss) (replicate (length ss) 0) in
    ap (λ (t : List ℕ). length (lines_in t)) (text_run bundle ss e)
    ∙ ap length (lines_are xs)
    ∙ length-map xs shown
    ∙ run_counts (among ss) (replicate (length ss) 0)
