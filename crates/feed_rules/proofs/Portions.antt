-- Calls one after the other on streams that arrive in portions: whatever the portions, the answers without "need more" are those of the
-- whole streams, and the bytes of a record are the stream's. Assumes nothing.
use Rattle.std.specs.Prelude.{◌≡◌, refl, ◌≢◌, ℕ, ◌+◌, ◌-◌, ◌≤◌, Bool, true, false, cond, ◌||◌, List, [], ◌∷◌, ◌++◌, length, get_or, take, drop, eqb}
use Rattle.std.proofs.Common.{sym, ap, subst, ◌∙◌, arith, append-nil, append_assoc, drop-drop, eq-eqb}
use Rattle.std.proofs.Math.Seq.{slice}
use Rattle.std.proofs.lemmas.List.{take-append-le, drop-append-le}
use Rattle.std.proofs.Math.Facts.{eqb_yes}
use Rattle.theory.specs.RunsTools.{cond_case}
use Rattle.records_rules.specs.Machine.{record_at_lem, Status, waiting, standing, gone, says, answers_f, start}
use Rattle.records_rules.specs.Machine as machine
use Rattle.records_rules.specs.Bytes.{bytes_of}
use Rattle.records_rules.specs.Whole.{Ends, run}
use Rattle.records_rules.specs.State.{padded}
use Rattle.feed_rules.specs.Partial.{part, Turn⁺, replies, needs, rest⁺, Knows, Heard, stop, reply, need}
use Rattle.feed_rules.proofs.PartialLaws.{heard_are}
use Rattle.feed_rules.specs.Needs.{Begins}
use Rattle.feed_rules.proofs.Needs.{known_part, heard_run}
use Rattle.feed_rules.specs.Windows.{Kept, from, Feed, known, put, opened, is_gone, closed, taking, grow, shut, add_leaves, end_leaves}
use Rattle.feed_rules.specs.Windows.{counted, kept_by, turn_in, turn_leaves, next_leaves, In, Within}
use Rattle.feed_rules.specs.Windows.{Call, portion, word, call, leaves, lastly, told, heard_at, heard, took_at, taken}
use Rattle.feed_rules.specs.WindowsLaws.{frame_drop, known_base, Counts}
use Rattle.feed_rules.proofs.WindowsLaws.{TurnIn, turn_in_lem}
use Rattle.feed_rules.specs.WindowsLaws.{add_within, end_within}
use Rattle.feed_rules.proofs.WindowsLaws.{counted_in, next_within}
use Rattle.feed_rules.specs.Portions.{over_stays, Covers, Moved, opened_within, Brought, slice_is}

-- ---- a stream that has been ended takes no more

over_lastly : (F : Feed) (cs : List Call) (p : ℕ) → (F.kept p).over ≡ true → ((lastly F cs).kept p).over ≡ true
unfolding lastly
over_lastly F [] p o = o
over_lastly F (c ∷ cs) p o = over_lastly (leaves F c) cs p (over_stays F c p o)

or_true : (x y : Bool) → y ≡ true → (x || y) ≡ true
or_true true y e = refl
or_true false y e = e

over_took : (F : Feed) (c : Call) (p : ℕ) → (F.kept p).over ≡ true → took_at p F c ≡ []
unfolding took_at closed
over_took F (portion q xs) p o =
    cond_case (λ (l : List ℕ). l ≡ []) (eqb p q) _ []
    (λ h.
    let e : p ≡ q = eqb_yes h in
    let z : closed F q ≡ true = or_true (is_gone (get_or F.statuses q gone)) (F.kept q).over (rw (← e) o) in
    rw z refl)
    (λ h. refl)
over_took F (word q) p o = refl
over_took F call p o = refl

over_taken : (F : Feed) (cs : List Call) (p : ℕ) → (F.kept p).over ≡ true → taken p F cs ≡ []
unfolding taken
over_taken F [] p o = refl
over_taken F (c ∷ cs) p o = rw (over_took F c p o) (over_taken (leaves F c) cs p (over_stays F c p o))

-- ---- what is kept, what the calls take, and what they don't take make up the stream

-- so what is known is so of the streams
covers_knows : (F : Feed) (cs : List Call) (b : ℕ → List ℕ) → ((p : ℕ) → Covers F cs p (b p)) → Knows (known F) (λ p. bytes_of (b p))
unfolding bytes_of
covers_knows F cs b h p a r e =
    let x = F.kept p in
    let k = known_base x a r e in
    let g : Begins (part x.bytes x.over) (drop x.base (b p)) =
    record {
      later = taken p F cs ++ (h p).later;
      joined = (h p).joined;
      none_later = λ o. rw (over_taken F cs p o) ((h p).none_later (over_lastly F cs p o));
    } in
    sym (frame_drop (b p) x.base a k.0) ∙ known_part (part x.bytes x.over) (drop x.base (b p)) g (a - x.base) r k.1

stays : (x y : Kept) (more : List ℕ) → y.base ≡ x.base → y.bytes ≡ x.bytes ++ more → Moved x y more
stays x y more e d =
    let z : y.base - x.base ≡ 0 = omega arith in
    record { on = omega arith; within = omega arith; bytes = rw z d }

kept_moved : (c : ℕ) (x : Kept) (s : Status) → Counts c x s → Moved x (kept_by c s x) []
unfolding kept_by from
kept_moved c x (waiting t a) i =
    let u : x.base + c ≤ a = i.0 in
    let v : a ≤ x.base + length x.bytes = i.1 in
    record { on = omega arith; within = omega arith; bytes = sym (append-nil (drop (a - c - x.base) x.bytes)) }
kept_moved c x (standing a r) i =
    let u : x.base ≤ a = i.0 in
    let v : a + r.size ≤ x.base + length x.bytes = i.1 in
    record { on = omega arith; within = omega arith; bytes = sym (append-nil (drop (a - x.base) x.bytes)) }
kept_moved c x gone i = stays x x [] refl (sym (append-nil x.bytes))

pub call_moved : (F : Feed) → Within F.kept F.statuses → (c : Call) (p : ℕ) → Moved (F.kept p) ((leaves F c).kept p) (took_at p F c)
unfolding leaves add_leaves end_leaves next_leaves turn_leaves grow shut took_at put
call_moved F w (portion q xs) p = go (eqb p q) refl (closed F q) refl
  where
    idle : Moved (F.kept p) (F.kept p) []
    idle = stays (F.kept p) (F.kept p) [] refl (sym (append-nil (F.kept p).bytes))

    go : (i : Bool) → eqb p q ≡ i → (j : Bool) → closed F q ≡ j
        → Moved (F.kept p) ((cond j F (record { statuses = F.statuses; kept = λ z. cond (eqb z q) (grow q xs (F.kept q)) (F.kept z) })).kept p)
        (cond i (cond j [] (take (taking (length xs) (F.kept q)) xs)) [])
    go true e true d = idle
    go true e false d =
        let h : p ≡ q = eqb_yes (rw e tt) in
        rw (h, eq-eqb q q refl) (stays (F.kept q) (grow q xs (F.kept q)) (take (taking (length xs) (F.kept q)) xs) refl refl)
    go false e true d = idle
    go false e false d = rw e idle
call_moved F w (word q) p = go (eqb p q) refl (closed F q) refl
  where
    go : (i : Bool) → eqb p q ≡ i → (j : Bool) → closed F q ≡ j
        → Moved (F.kept p) ((cond j F (record { statuses = F.statuses; kept = λ z. cond (eqb z q) (shut (F.kept q)) (F.kept z) })).kept p) []
    go i e true d = stays (F.kept p) (F.kept p) [] refl (sym (append-nil (F.kept p).bytes))
    go true e false d =
        let h : p ≡ q = eqb_yes (rw e tt) in
        rw (h, eq-eqb q q refl) (stays (F.kept q) (shut (F.kept q)) [] refl (sym (append-nil (F.kept q).bytes)))
    go false e false d = rw e (stays (F.kept p) (F.kept p) [] refl (sym (append-nil (F.kept p).bytes)))
call_moved F w call p =
    let r = turn_in F in
    kept_moved (counted p r) (F.kept p) (get_or (rest⁺ r) p gone) (counted_in F.kept r (turn_in_lem F.kept F.statuses w) p)

pub covers_step : (F : Feed) → Within F.kept F.statuses → (c : Call) (cs : List Call) (p : ℕ) (b : List ℕ)
    → Covers F (c ∷ cs) p b → Covers (leaves F c) cs p b
unfolding taken lastly
covers_step F w c cs p b h =
    let x = F.kept p in
    let y = (leaves F c).kept p in
    let m = call_moved F w c p in
    let after = taken p (leaves F c) cs in
    let on : x.base + (y.base - x.base) ≡ y.base = omega (arith, m.on) in
    let rest = took_at p F c ++ after ++ h.later in
    record {
      later = h.later;
      joined = ap (λ (n : ℕ). drop n b) (sym on)
          ∙ sym (drop-drop (y.base - x.base) x.base b)
          ∙ ap (drop (y.base - x.base)) h.joined
          ∙ drop-append-le (y.base - x.base) x.bytes rest m.within
          ∙ ap (λ (l : List ℕ). drop (y.base - x.base) x.bytes ++ l) (append_assoc (took_at p F c) after h.later)
          ∙ sym (append_assoc (drop (y.base - x.base) x.bytes) (took_at p F c) (after ++ h.later))
          ∙ ap (λ (l : List ℕ). l ++ (after ++ h.later)) (sym m.bytes);
      none_later = h.none_later;
    }

-- ---- the answers

same_statuses : (F : Feed) (c : Call) → c ≢ call → (leaves F c).statuses ≡ F.statuses
unfolding leaves add_leaves end_leaves
same_statuses F (portion q xs) d = cond_case (λ (G : Feed). G.statuses ≡ F.statuses) (closed F q) F _ (λ c. refl) (λ c. refl)
same_statuses F (word q) d = cond_case (λ (G : Feed). G.statuses ≡ F.statuses) (closed F q) F _ (λ c. refl) (λ c. refl)
same_statuses F call d = absurd (d refl)

pub call_within : (F : Feed) (c : Call) → Within F.kept F.statuses → Within (leaves F c).kept (leaves F c).statuses
unfolding leaves
call_within F (portion q xs) w = add_within F q xs w
call_within F (word q) w = end_within F q w
call_within F call w = next_within F w

pub heard_heard : (F : Feed) (cs : List Call) (b : ℕ → List ℕ) → Within F.kept F.statuses → ((p : ℕ) → Covers F cs p (b p))
    → Heard (λ p. bytes_of (b p)) F.statuses (heard F cs)
unfolding heard heard_at told
heard_heard F [] b w h = stop
heard_heard F (portion q xs ∷ cs) b w h =
    rw (same_statuses F (portion q xs) (λ e. let z : ◌≡◌ {A = ℕ} 0 1 = cc in absurd (omega arith)))
    at (heard_heard (leaves F (portion q xs)) cs b (call_within F (portion q xs) w) (λ p. covers_step F w (portion q xs) cs p (b p) (h p)))
heard_heard F (word q ∷ cs) b w h =
    rw (same_statuses F (word q) (λ e. let z : ◌≡◌ {A = ℕ} 0 1 = cc in absurd (omega arith)))
    at (heard_heard (leaves F (word q)) cs b (call_within F (word q) w) (λ p. covers_step F w (word q) cs p (b p) (h p)))
heard_heard F (call ∷ cs) b w h =
    go (turn_in F) refl (heard_heard (leaves F call) cs b (call_within F call w) (λ p. covers_step F w call cs p (b p) (h p)))
  where
    Later : List Status → Type 0
    Later ss = Heard (λ p. bytes_of (b p)) ss (heard (leaves F call) cs)

    go : (r : Turn⁺) → turn_in F ≡ r → Later (rest⁺ (turn_in F))
        → Heard (λ p. bytes_of (b p)) F.statuses (told r (heard (leaves F call) cs))
    go (replies x ss) e ih =
        reply (known F) (covers_knows F (call ∷ cs) b h) e (subst Later (ap rest⁺ e) ih)
    go (needs p ss) e ih =
        need (known F) (covers_knows F (call ∷ cs) b h) e (subst Later (ap rest⁺ e) ih)

-- ---- from an opening on

-- THE THEOREM: whatever the portions and whenever they come, the answers without "need more" are the whole streams', as many
pub portioned : (n : ℕ) (hints : List ℕ) (cs : List Call) (b : ℕ → List ℕ) → ((p : ℕ) → Brought n hints cs p (b p))
    → Heard (λ p. bytes_of (b p)) (start (padded n hints)) (heard (opened n hints) cs)
unfolding opened
portioned n hints cs b h =
    heard_heard (opened n hints) cs b (opened_within n hints)
    (λ p. record { later = (h p).later; joined = (h p).joined; none_later = (h p).none_later })

pub portioned_are : (n : ℕ) (hints : List ℕ) (cs : List Call) (b : ℕ → List ℕ) → ((p : ℕ) → Brought n hints cs p (b p))
    → heard (opened n hints) cs ≡ answers_f (length (heard (opened n hints) cs)) (λ p. bytes_of (b p)) (start (padded n hints))
portioned_are n hints cs b h = heard_are (portioned n hints cs b h)

-- up to the first end they are a whole run
pub portioned_run : (n : ℕ) (hints : List ℕ) (cs : List Call) (b : ℕ → List ℕ) → ((p : ℕ) → Brought n hints cs p (b p))
    → Ends (heard (opened n hints) cs) → heard (opened n hints) cs ≡ run (λ p. bytes_of (b p)) (padded n hints)
portioned_run n hints cs b h e = heard_run (padded n hints) (portioned n hints cs b h) e

-- ---- a record's bytes

-- what is kept of a stream that hands out a record begins with the record
left_record : (F : Feed) (p a : ℕ) (r : machine.Rec) (ss : List Status) → get_or ss p gone ≡ waiting r.time (a + r.size)
    → (turn_leaves F (replies (says p (record_at_lem a r)) ss)).kept p ≡ from a (F.kept p)
unfolding turn_leaves counted kept_by rest⁺
left_record F p a r ss e = let z : a + r.size - r.size ≡ a = omega arith in rw (eq-eqb p p refl, e) (ap (λ (n : ℕ). from n (F.kept p)) z)

-- the record that a call hands out stands at the front of what is kept, as in the stream
pub record_bytes : (F : Feed) → Within F.kept F.statuses → (cs : List Call) (p : ℕ) (b : List ℕ) → Covers F (call ∷ cs) p b
    → (a : ℕ) (r : machine.Rec) (ss : List Status) → turn_in F ≡ replies (says p (record_at_lem a r)) ss
    → take r.size ((next_leaves F).kept p).bytes ≡ slice a (a + r.size) b
unfolding leaves next_leaves from
record_bytes F w cs p b h a r ss e =
    let c = covers_step F w call cs p b h in
    let z : TurnIn F.kept (replies (says p (record_at_lem a r)) ss) = rw e at (turn_in_lem F.kept F.statuses w) in
    let k : Kept = (turn_leaves F (turn_in F)).kept p in
    let f : k ≡ from a (F.kept p) = ap (λ (t : Turn⁺). (turn_leaves F t).kept p) e ∙ left_record F p a r ss z.2 in
    let at : k.base ≡ a = ap (λ (x : Kept). x.base) f in
    let i : In k (get_or (rest⁺ (turn_in F)) p gone) = next_within F w p in
    let s : get_or (rest⁺ (turn_in F)) p gone ≡ waiting r.time (a + r.size) = ap (λ (t : Turn⁺). get_or (rest⁺ t) p gone) e ∙ z.2 in
    let j : In k (waiting r.time (a + r.size)) = subst (In k) s i in
    let l : r.size ≤ length k.bytes = omega (arith, j.1) in
    sym (take-append-le r.size k.bytes (taken p (leaves F call) cs ++ c.later) l)
    ∙ ap (take r.size) (sym c.joined)
    ∙ ap (λ (n : ℕ). take r.size (drop n b)) at
    ∙ sym (slice_is a r.size b)
