-- The machine of portions is the machine of whole streams: it answers what that one does, as far as it answers, and where all is known
-- it is that one. What is known of a stream stays so when more comes. And the rules that code cites. Assumes nothing.
use Rattle.std.specs.Prelude.{◌≡◌, length, set}
use Rattle.std.proofs.Math.Path.{refl, sym, ap}
use Rattle.std.proofs.Common.{◌∙◌, arith, get_or-set_same, get_or-set_other}
use Prim.Native.Nat.{ℕ, zero, suc, ◌+◌, ◌<◌}
use Rattle.std.proofs.Math.Decide.{ℕ_discrete}
use Rattle.std.proofs.Math.Option.{Option, none, some}
use mathlib.Core.List.{List, ◌∷◌}
use Rattle.std.proofs.Math.ListN.{get_or}
use Rattle.leaves.specs.Frame.{Read, whole, ended, damaged}
use Rattle.records_rules.specs.Machine.{Rec, rec, Stream, record_at_lem, damage_at}
use Rattle.records_rules.specs.Machine.{Status, waiting, standing, gone, key, First, nobody, first, least}
use Rattle.records_rules.specs.Machine.{Answer, says, end, done, again, after_read, chosen, step_at, step}
use Rattle.records_rules.specs.Machine.{Turn, turn, onward, next_f, next, answer, rest, answers_f}
use Rattle.records_rules.specs.Least.{IsFirst, LeastOk, least_ok, least_is, least_none}
use Rattle.records_rules.specs.Kept.{inside, unread, waits, waits_le, waits_less}
use Rattle.records_rules.proofs.Rules.{next_again}
use Rattle.feed_rules.specs.Partial.{Step⁺, moved, wants, found⁺, chosen⁺, step_at⁺, step⁺}
use Rattle.feed_rules.specs.Partial.{Turn⁺, replies, needs, onward⁺, next_f⁺, next⁺}
use Rattle.feed_rules.specs.Partial.{Knows, Heard, stop, reply, need}
use Rattle.feed_rules.specs.PartialLaws.{Same, AgainOk⁺, StepOk⁺}

-- ---- it is the machine on the streams that will have come

abbrev SameF : ℕ → (ℕ → Stream) → List Status → Turn⁺ → Type 0
SameF f b ss (replies x ss') = next_f f b ss ≡ turn x ss'
SameF f b ss (needs p ss') = next b ss ≡ next b ss'

abbrev Goes : (ℕ → Stream) → List Status → Step⁺ → Type 0
Goes b ss (moved s) = step b ss ≡ s
Goes b ss (wants p) = Unit {0}

module _ (k : ℕ → ℕ → Option Read) (b : ℕ → Stream) (h : Knows k b) where
  goes : (ss : List Status) → Goes b ss (step⁺ k ss)
  unfolding step step_at step⁺ step_at⁺ chosen chosen⁺ found⁺
  goes ss = pick (least ss) refl
    where
      seen : (p a : ℕ) → step b ss ≡ after_read ss p a ((b p).read a) → (o : Option Read) → k p a ≡ o → Goes b ss (found⁺ ss p a o)
      seen p a c none e = tt
      seen p a c (some r) e = c ∙ ap (after_read ss p a) (h p a r e)

      on : (p : ℕ) (s : Status) → step b ss ≡ chosen b ss p s → Goes b ss (chosen⁺ k ss p s)
      on p (waiting t a) c = seen p a c (k p a) refl
      on p (standing a r) c = c
      on p gone c = c

      pick : (r : First) → least ss ≡ r → Goes b ss (step_at⁺ k ss r)
      pick nobody e = ap (step_at b ss) e
      pick (first t p) e = on p (get_or ss p gone) (ap (step_at b ss) e)

  same_f : (f : ℕ) (ss : List Status) → SameF f b ss (next_f⁺ f k ss)
  unfolding next_f⁺ next_f onward onward⁺
  same_f zero ss = refl
  same_f (suc f) ss = go (step⁺ k ss) (goes ss) (λ ss'. same_f f ss')
    where
      later : (ss' : List Status) → step b ss ≡ again ss' → (r : Turn⁺) → SameF f b ss' r → SameF (suc f) b ss r
      later ss' e (replies x ss'') z = ap (onward (λ l. next_f f b l)) e ∙ z
      later ss' e (needs p ss'') z = next_again b ss ss' e ∙ z

      go : (r : Step⁺) → Goes b ss r → ((ss' : List Status) → SameF f b ss' (next_f⁺ f k ss'))
          → SameF (suc f) b ss (onward⁺ (λ l. next_f⁺ f k l) ss r)
      go (wants p) e ih = refl
      go (moved (done x ss')) e ih = ap (onward (λ l. next_f f b l)) e
      go (moved (again ss')) e ih = later ss' e (next_f⁺ f k ss') (ih ss')

  -- where it answers, that is the answer; where it needs more, what it left answers as what it was given
  pub same⁺ : (ss : List Status) → Same b ss (next⁺ k ss)
  unfolding next⁺ next
  same⁺ ss = go (next_f⁺ (suc (length ss)) k ss) (same_f (suc (length ss)) ss)
    where
      go : (r : Turn⁺) → SameF (suc (length ss)) b ss r → Same b ss r
      go (replies x ss') z = z
      go (needs p ss') z = z

answers_same : (f : ℕ) (b : ℕ → Stream) (ss ss' : List Status) → next b ss ≡ next b ss' → answers_f f b ss ≡ answers_f f b ss'
unfolding answers_f
answers_same zero b ss ss' e = refl
answers_same (suc f) b ss ss' e = ap (λ (r : Turn). answer r ∷ answers_f f b (rest r)) e

-- THE THEOREM: however the streams are portioned, the answers are the whole buffer's, as many
pub heard_are : {b : ℕ → Stream} {ss : List Status} {xs : List Answer} → Heard b ss xs → xs ≡ answers_f (length xs) b ss
unfolding answers_f answer rest
heard_are stop = refl
heard_are {b} {ss} (reply {ss' = ss'} {x = x} {xs = xs} k n e m) =
    let z : next b ss ≡ turn x ss' = (let w : Same b ss (replies x ss') = rw e at (same⁺ k b n ss) in w) in
    ap (λ (l : List Answer). x ∷ l) (heard_are m) ∙ sym (ap (λ (r : Turn). answer r ∷ answers_f (length xs) b (rest r)) z)
heard_are {b} {ss} {xs} (need {ss' = ss'} {p = p} k n e m) =
    let z : next b ss ≡ next b ss' = (let w : Same b ss (needs p ss') = rw e at (same⁺ k b n ss) in w) in
    heard_are m ∙ sym (answers_same (length xs) b ss ss' z)

-- ---- a step

module _ (k : ℕ → ℕ → Option Read) (ss : List Status) (p t a : ℕ) (f : IsFirst ss t p) (w : get_or ss p gone ≡ waiting t a) where
  read_ok : (s : Status) → unread s ≡ 0 → AgainOk⁺ ss (set ss p s)
  unfolding unread
  read_ok s u = record { fewer = waits_less ss p t a s (inside ss p t f.has) w u; still = λ q h c e. go q h c (ℕ_discrete q p) e }
    where
      go : (q h c : ℕ) → Dec (q ≡ p) → get_or (set ss p s) q gone ≡ waiting h c → get_or ss q gone ≡ waiting h c
      go q h c (yes d) e =
          let i : s ≡ waiting h c =
          sym (get_or-set_same ss p s gone (inside ss p t f.has)) ∙ ap (λ (x : ℕ). get_or (set ss p s) x gone) (sym d) ∙ e in
          absurd (omega (arith, u, ap unread i))
      go q h c (no d) e = sym (get_or-set_other ss p q s gone d) ∙ e

  found_ok : least ss ≡ first t p → (o : Option Read) → k p a ≡ o → StepOk⁺ k ss (found⁺ ss p a o)
  unfolding found⁺ after_read unread
  found_ok l none e = record { time = t; place = a; firstly = l; waits = w; unknown = e }
  found_ok l (some ended) e = read_ok gone refl
  found_ok l (some (damaged r)) e = tt
  found_ok l (some (whole z κ ι u)) e = read_ok (standing a (rec z κ ι u)) refl

pub step_ok⁺ : (k : ℕ → ℕ → Option Read) (ss : List Status) → StepOk⁺ k ss (step⁺ k ss)
unfolding step⁺ step_at⁺ chosen⁺ key
step_ok⁺ k ss = pick (least ss) refl (least_ok ss)
  where
    time : (h t : ℕ) → some h ≡ some t → h ≡ t
    time h t e = cc

    on : (t p : ℕ) → least ss ≡ first t p → IsFirst ss t p → (s : Status) → get_or ss p gone ≡ s → StepOk⁺ k ss (chosen⁺ k ss p s)
    on t p l f (waiting h a) e =
        let d : h ≡ t = time h t (sym (ap key e) ∙ f.has) in
        found_ok k ss p t a f (e ∙ ap (λ (x : ℕ). waiting x a) d) l (k p a) refl
    on t p l f (standing a r) e = tt
    on t p l f gone e = tt

    pick : (r : First) → least ss ≡ r → LeastOk ss r → StepOk⁺ k ss (step_at⁺ k ss r)
    pick nobody l f = tt
    pick (first t p) l f = on t p l f (get_or ss p gone) refl

-- ---- the count matters not

next_same⁺ : (f g : ℕ) (k : ℕ → ℕ → Option Read) (ss : List Status) → waits ss < f → waits ss < g → next_f⁺ f k ss ≡ next_f⁺ g k ss
unfolding next_f⁺ onward⁺
next_same⁺ zero g k ss h i = absurd (omega arith)
next_same⁺ (suc f) zero k ss h i = absurd (omega arith)
next_same⁺ (suc f) (suc g) k ss h i = go (step⁺ k ss) (step_ok⁺ k ss) (λ ss' x y. next_same⁺ f g k ss' x y)
  where
    go : (s : Step⁺) → StepOk⁺ k ss s → ((ss' : List Status) → waits ss' < f → waits ss' < g → next_f⁺ f k ss' ≡ next_f⁺ g k ss')
        → onward⁺ (λ l. next_f⁺ f k l) ss s ≡ onward⁺ (λ l. next_f⁺ g k l) ss s
    go (wants p) z ih = refl
    go (moved (done x ss')) z ih = refl
    go (moved (again ss')) z ih = ih ss' (omega (arith, z.fewer)) (omega (arith, z.fewer))

module _ (k : ℕ → ℕ → Option Read) (ss : List Status) where
  pub next_done⁺ : (x : Answer) (ss' : List Status) → step⁺ k ss ≡ moved (done x ss') → next⁺ k ss ≡ replies x ss'
  unfolding next⁺ next_f⁺ onward⁺
  next_done⁺ x ss' e = ap (onward⁺ (λ l. next_f⁺ (length ss) k l) ss) e

  pub next_again⁺ : (ss' : List Status) → step⁺ k ss ≡ moved (again ss') → next⁺ k ss ≡ next⁺ k ss'
  unfolding next⁺ next_f⁺ onward⁺
  next_again⁺ ss' e =
      let z : AgainOk⁺ ss ss' = (let y : StepOk⁺ k ss (moved (again ss')) = rw e at (step_ok⁺ k ss) in y) in
      ap (onward⁺ (λ l. next_f⁺ (length ss) k l) ss) e
      ∙ next_same⁺ (length ss) (suc (length ss')) k ss' (omega (arith, z.fewer, waits_le ss)) (omega (arith, waits_le ss'))

  pub next_wants⁺ : (p : ℕ) → step⁺ k ss ≡ wants p → next⁺ k ss ≡ needs p ss
  unfolding next⁺ next_f⁺ onward⁺
  next_wants⁺ p e = ap (onward⁺ (λ l. next_f⁺ (length ss) k l) ss) e

  -- ---- one rule for each way a turn of the code's loop can go

  -- nobody is left
  pub rule_end⁺ : ((q : ℕ) → key (get_or ss q gone) ≡ none) → next⁺ k ss ≡ replies end ss
  unfolding step⁺ step_at⁺
  rule_end⁺ h = next_done⁺ end ss (ap (step_at⁺ k ss) (least_none ss h))

  module _ (t p : ℕ) (f : IsFirst ss t p) where
    -- the first stands at a record
    pub rule_record⁺ : (a : ℕ) (r : Rec) → get_or ss p gone ≡ standing a r
        → next⁺ k ss ≡ replies (says p (record_at_lem a r)) (set ss p (waiting r.time (a + r.size)))
    unfolding step⁺ step_at⁺ chosen⁺
    rule_record⁺ a r e = next_done⁺ _ _ (ap (step_at⁺ k ss) (least_is ss t p f) ∙ ap (chosen⁺ k ss p) e)

    -- it waits, and is read
    reading⁺ : (h a : ℕ) → get_or ss p gone ≡ waiting h a → (o : Option Read) → k p a ≡ o → step⁺ k ss ≡ found⁺ ss p a o
    unfolding step⁺ step_at⁺ chosen⁺
    reading⁺ h a e o d = ap (step_at⁺ k ss) (least_is ss t p f) ∙ ap (chosen⁺ k ss p) e ∙ ap (found⁺ ss p a) d

    pub rule_wants⁺ : (h a : ℕ) → get_or ss p gone ≡ waiting h a → k p a ≡ none → next⁺ k ss ≡ needs p ss
    unfolding found⁺
    rule_wants⁺ h a e d = next_wants⁺ p (reading⁺ h a e none d)

    pub rule_ended⁺ : (h a : ℕ) → get_or ss p gone ≡ waiting h a → k p a ≡ some ended → next⁺ k ss ≡ next⁺ k (set ss p gone)
    unfolding found⁺ after_read
    rule_ended⁺ h a e d = next_again⁺ (set ss p gone) (reading⁺ h a e (some ended) d)

    pub rule_damaged⁺ : (h a r : ℕ) → get_or ss p gone ≡ waiting h a → k p a ≡ some (damaged r)
        → next⁺ k ss ≡ replies (says p (damage_at a r)) (set ss p gone)
    unfolding found⁺ after_read
    rule_damaged⁺ h a r e d = next_done⁺ _ _ (reading⁺ h a e (some (damaged r)) d)

    pub rule_whole⁺ : (h a l κ ι u : ℕ) → get_or ss p gone ≡ waiting h a → k p a ≡ some (whole l κ ι u)
        → next⁺ k ss ≡ next⁺ k (set ss p (standing a (rec l κ ι u)))
    unfolding found⁺ after_read
    rule_whole⁺ h a l κ ι u e d = next_again⁺ (set ss p (standing a (rec l κ ι u))) (reading⁺ h a e (some (whole l κ ι u)) d)

-- a call reads at the places where streams wait, and nowhere else
agree_F : (k k' : ℕ → ℕ → Option Read) (f : ℕ) (ss : List Status)
    → ((p t a : ℕ) → get_or ss p gone ≡ waiting t a → k p a ≡ k' p a) → next_f⁺ f k ss ≡ next_f⁺ f k' ss
unfolding next_f⁺ onward⁺ step⁺ step_at⁺ chosen⁺
agree_F k k' zero ss h = refl
agree_F k k' (suc f) ss h =
    ap (onward⁺ (λ l. next_f⁺ f k l) ss) (pick (least ss)) ∙ go (step⁺ k' ss) (step_ok⁺ k' ss) (λ ss' i. agree_F k k' f ss' i)
  where
    on : (p : ℕ) (s : Status) → get_or ss p gone ≡ s → chosen⁺ k ss p s ≡ chosen⁺ k' ss p s
    on p (waiting t a) e = ap (found⁺ ss p a) (h p t a e)
    on p (standing a r) e = refl
    on p gone e = refl

    pick : (r : First) → step_at⁺ k ss r ≡ step_at⁺ k' ss r
    pick nobody = refl
    pick (first t p) = on p (get_or ss p gone) refl

    go : (s : Step⁺) → StepOk⁺ k' ss s
        → ((ss' : List Status) → ((p t a : ℕ) → get_or ss' p gone ≡ waiting t a → k p a ≡ k' p a) → next_f⁺ f k ss' ≡ next_f⁺ f k' ss')
        → onward⁺ (λ l. next_f⁺ f k l) ss s ≡ onward⁺ (λ l. next_f⁺ f k' l) ss s
    go (wants p) z ih = refl
    go (moved (done x ss')) z ih = refl
    go (moved (again ss')) z ih = ih ss' (λ p t a e. h p t a (z.still p t a e))

pub next_agrees : (k k' : ℕ → ℕ → Option Read) (ss : List Status) → ((p t a : ℕ) → get_or ss p gone ≡ waiting t a → k p a ≡ k' p a) → next⁺ k ss ≡ next⁺ k' ss
unfolding next⁺
next_agrees k k' ss h = agree_F k k' (suc (length ss)) ss h
