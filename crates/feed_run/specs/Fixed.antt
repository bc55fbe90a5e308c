-- During a run nothing comes, so what is known may be taken as fixed: a run from what is kept hears what a run of the machine of portions
-- hears with what is known at its start, and leaves the same statuses (RULES, Requests, No. 14). Assumes nothing.
use Rattle.std.specs.Prelude.{◌≡◌, refl, ℕ, zero, suc, ◌+◌, ◌-◌, ◌≤◌, List, ◌∷◌, get_or}
use Rattle.std.proofs.Common.{ap, subst, ◌∙◌, arith}
use Rattle.std.proofs.Math.Option.{Option}
use Rattle.leaves.specs.Frame.{Read}
use Rattle.run_rules.specs.Batch.{Ran, ran, onward}
use Rattle.run_rules.specs.Rows.{Note, writes, stops, goes_on, run_of}
use Rattle.records_rules.specs.Machine.{Status, waiting, standing, gone}
use Rattle.feed_rules.specs.Partial.{Turn⁺, next⁺, rest⁺}
use Rattle.feed_rules.proofs.PartialLaws.{next_agrees}
use Rattle.feed_rules.specs.Windows.{Kept, known_in, from, Feed, known, counted, kept_by, turn_in, turn_leaves, next_leaves, In, Within}
use Rattle.feed_rules.specs.WindowsLaws.{Counts}
use Rattle.feed_rules.proofs.WindowsLaws.{known_from, turn_in_lem, counted_in, next_within}
use Rattle.feed_run.specs.Run.{note_of⁺, say⁺, ran_of⁺}

-- at most k calls of the machine of portions, what is known being fixed
abbrev pub ran_fixed : ℕ → (ℕ → ℕ → Option Read) → List Status → Ran Note (List Status)
ran_fixed k know ss = run_of (λ s. note_of⁺ (next⁺ know s)) (λ s. rest⁺ (next⁺ know s)) k ss

-- ---- one call

-- what is known from what is kept on is what was known
abbrev Agrees : (ℕ → ℕ → Option Read) → Feed → Type 0
Agrees know F = (p a : ℕ) → (F.kept p).base ≤ a → known F p a ≡ know p a

agree : (know : ℕ → ℕ → Option Read) (F : Feed) → Within F.kept F.statuses → Agrees know F → turn_in F ≡ next⁺ know F.statuses
agree know F w h = next_agrees (known F) know F.statuses (λ p t a e. h p a (base p t a e))
  where
    base : (p t a : ℕ) → get_or F.statuses p gone ≡ waiting t a → (F.kept p).base ≤ a
    base p t a e = let i : In (F.kept p) (waiting t a) = subst (In (F.kept p)) e (w p) in i.0

-- a call drops what was read, and no more
agrees_by : (c : ℕ) (x : Kept) (s : Status) (know : ℕ → Option Read) → Counts c x s → ((a : ℕ) → x.base ≤ a → known_in x a ≡ know a)
    → (a : ℕ) → (kept_by c s x).base ≤ a → known_in (kept_by c s x) a ≡ know a
unfolding kept_by from
agrees_by c x (waiting t b) know i h a l =
    let u : x.base + c ≤ b = i.0 in
    let v : b - c ≤ a = l in
    known_from x (b - c) a (omega arith) v ∙ h a (omega arith)
agrees_by c x (standing b r) know i h a l =
    let u : x.base ≤ b = i.0 in
    let v : b ≤ a = l in
    known_from x b a u v ∙ h a (omega arith)
agrees_by c x gone know i h a l = h a l

agrees_next : (know : ℕ → ℕ → Option Read) (F : Feed) → Within F.kept F.statuses → Agrees know F → Agrees know (next_leaves F)
unfolding next_leaves turn_leaves
agrees_next know F w h p a l =
    let r = turn_in F in
    agrees_by (counted p r) (F.kept p) (get_or (rest⁺ r) p gone) (know p)
    (counted_in F.kept r (turn_in_lem F.kept F.statuses w) p) (λ b g. h p b g) a l

-- ---- the run

-- both make as many calls, hear the same and leave the same statuses
pub record SameRun (x : Ran Note Feed) (y : Ran Note (List Status)) : Type 0 where
  pub steps : x.steps ≡ y.steps
  pub heard : x.heard ≡ y.heard
  pub left : x.left.statuses ≡ y.left

same_on : (n : Note) (F : Feed) (ss : List Status) (more : Feed → Ran Note Feed) (more' : List Status → Ran Note (List Status))
    → F.statuses ≡ ss → SameRun (more F) (more' ss) → SameRun (onward (goes_on n) n F more) (onward (goes_on n) n ss more')
unfolding onward goes_on
same_on (writes p a t) F ss more more' e i =
    record { steps = ap suc i.steps; heard = ap (λ (l : List Note). writes p a t ∷ l) i.heard; left = i.left }
same_on (stops x) F ss more more' e i = record { steps = refl; heard = refl; left = e }

fixed_by : (know : ℕ → ℕ → Option Read) (k : ℕ) (F : Feed) → Within F.kept F.statuses → Agrees know F
    → SameRun (ran_of⁺ k F) (ran_fixed k know F.statuses)
unfolding run_of ran next_leaves turn_leaves
fixed_by know zero F w h = record { steps = refl; heard = refl; left = refl }
fixed_by know (suc k) F w h =
    let more : Feed → Ran Note Feed = λ G. ran_of⁺ k G in
    let more' : List Status → Ran Note (List Status) = λ ss. ran_fixed k know ss in
    let n = say⁺ F in
    subst (λ (r : Turn⁺). SameRun (onward (goes_on n) n (next_leaves F) more) (onward (goes_on (note_of⁺ r)) (note_of⁺ r) (rest⁺ r) more'))
    (agree know F w h)
    (same_on n (next_leaves F) (rest⁺ (turn_in F)) more more' refl (fixed_by know k (next_leaves F) (next_within F w) (agrees_next know F w h)))

-- THE THEOREM: a run from what is kept is the run with what is known at its start
pub fixed : (k : ℕ) (F : Feed) → Within F.kept F.statuses → SameRun (ran_of⁺ k F) (ran_fixed k (known F) F.statuses)
fixed k F w = fixed_by (known F) k F w (λ p a l. refl)
