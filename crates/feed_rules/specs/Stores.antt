-- A store at the stream p, and the statuses after it. Assumes nothing.
use Rattle.std.specs.Prelude.{◌≡◌, refl, ◌≢◌, ℕ, zero, suc, ◌≤◌, ◌<◌, List, [], ◌∷◌, length, get_or, set}
use Rattle.std.proofs.Common.{sym, ap, ◌∙◌, arith, get_or-set_same, get_or-set_other}
use Rattle.std.proofs.Math.Decide.{ℕ_discrete, dec_lt}
use Rattle.std.proofs.lemmas.List.{set-get_or}
use Rattle.records_rules.specs.Machine.{Status, gone}
use Rattle.records_rules.specs.View.{status_of, statuses_of, length_statuses}
use Rattle.records_rules.specs.StateLaws.{waits_at, wait_set}

-- ---- a store at p

pub record Put (xs xs' : List ℕ) (p v : ℕ) : Type 0 where
  pub here : get_or xs' p 0 ≡ v
  pub there : (q : ℕ) → q ≢ p → get_or xs' q 0 ≡ get_or xs q 0

pub put_set : (xs : List ℕ) (p v : ℕ) → p < length xs → Put xs (set xs p v) p v
put_set xs p v h = record { here = get_or-set_same xs p v 0 h; there = λ q d. get_or-set_other xs p q v 0 d }

pub put_none : (xs : List ℕ) (p : ℕ) → Put xs xs p (get_or xs p 0)
put_none xs p = record { here = refl; there = λ q d. refl }

-- what holds of each stream's numbers holds after the stores, where it does of those stored
pub slots_put : {ms cs hs ps ms' cs' hs' ps' : List ℕ} {p m c h s : ℕ} (Q : ℕ → ℕ → ℕ → ℕ → ℕ → Type 0)
    → Put ms ms' p m → Put cs cs' p c → Put hs hs' p h → Put ps ps' p s
    → ((q : ℕ) → q ≢ p → Q q (get_or ms q 0) (get_or cs q 0) (get_or hs q 0) (get_or ps q 0)) → Q p m c h s
    → (q : ℕ) → Q q (get_or ms' q 0) (get_or cs' q 0) (get_or hs' q 0) (get_or ps' q 0)
slots_put {ms} {cs} {hs} {ps} {ms'} {cs'} {hs'} {ps'} {p} {m} {c} {h} {s} Q a b d e old new q = go (ℕ_discrete q p)
  where
    go : Dec (q ≡ p) → Q q (get_or ms' q 0) (get_or cs' q 0) (get_or hs' q 0) (get_or ps' q 0)
    go (yes i) = rw (i, a.here, b.here, d.here, e.here) new
    go (no i) = rw (a.there q i, b.there q i, d.there q i, e.there q i) (old q i)

pub unused_put : (n : ℕ) (ms ms' : List ℕ) (p m : ℕ) → p < n → Put ms ms' p m → ((q : ℕ) → n ≤ q → get_or ms q 0 ≡ 0) → (q : ℕ) → n ≤ q
    → get_or ms' q 0 ≡ 0
unused_put n ms ms' p m h u k q l = u.there q (λ e. omega arith) ∙ k q l

-- a waiting stream's head is no part of its status
pub head_set : (n : ℕ) (ms ts cs hs : List ℕ) (p : ℕ) → p < n → (n ≤ length ms) × (n ≤ length ts) × (n ≤ length cs) × (n ≤ length hs) → (l : ℕ)
    → get_or ms p 0 ≡ 1 → statuses_of n ms ts cs (set hs p l) ≡ statuses_of n ms ts cs hs
head_set n ms ts cs hs p hp long l e =
    let state = statuses_of n ms ts cs hs in
    ap (λ (r : List ℕ). statuses_of n r ts cs (set hs p l)) (sym (set-get_or ms p 0) ∙ ap (set ms p) e)
    ∙ ap (λ (r : List ℕ). statuses_of n (set ms p 1) ts r (set hs p l)) (sym (set-get_or cs p 0))
    ∙ wait_set n ms ts cs hs p hp long (get_or cs p 0) l
    ∙ ap (set state p) (sym (waits_at n ms ts cs hs p hp e))
    ∙ set-get_or state p gone

-- ---- who is there

pub statuses_out : (n : ℕ) (ms ts cs hs : List ℕ) (q : ℕ) → n ≤ q → get_or (statuses_of n ms ts cs hs) q gone ≡ gone
statuses_out n ms ts cs hs q l = out (statuses_of n ms ts cs hs) q (omega (arith, length_statuses n ms ts cs hs))
  where
    out : (ss : List Status) (i : ℕ) → length ss ≤ i → get_or ss i gone ≡ gone
    out [] i h = refl
    out (s ∷ ss) zero h = absurd (omega arith)
    out (s ∷ ss) (suc i) h = out ss i (omega arith)

pub not_there : (n : ℕ) (ms ts cs hs : List ℕ) (q : ℕ) → get_or (statuses_of n ms ts cs hs) q gone ≢ gone → q < n
not_there n ms ts cs hs q d = go (dec_lt q n)
  where
    go : Dec (q < n) → q < n
    go (yes h) = h
    go (no h) = absurd (d (statuses_out n ms ts cs hs q (omega (arith, h))))

pub alive : (m t a h : ℕ) → status_of m t a h ≢ gone → m ≢ 0
unfolding status_of
alive zero t a h d = absurd (d refl)
alive (suc m) t a h d = λ z. omega arith
