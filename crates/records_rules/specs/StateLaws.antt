-- One law for each way a turn of the code's loop goes, on lists: what the loop's proof cites. Assumes nothing.
-- What rests on a step of the machine stands in proofs/StateLaws.
use Rattle.std.proofs.Math.Path.{◌≡◌, refl, sym, ap}
use Rattle.std.proofs.Common.{◌∙◌, get_or-set_same, get_or-set_other}
use Rattle.std.specs.Prelude.{◌≢◌, length, set}
use Prim.Native.Nat.{ℕ, zero, suc, ◌+◌, ◌%◌, ◌<◌, ◌≤◌, ◌^◌}
use native.Mathlib.Omega.{arith}
use Rattle.std.proofs.Math.Decide.{ℕ_discrete}
use mathlib.Core.List.{List}
use Rattle.std.proofs.Math.ListN.{get_or}
use Rattle.std.proofs.lemmas.List.{set-get_or}
use Rattle.leaves.specs.Frame.{whole, read_found}
use Rattle.records_rules.specs.Machine.{Rec, Status, waiting, standing, gone}
use Rattle.records_rules.specs.Kept.{waits, waits_less, unread}
use Rattle.records_rules.specs.View.{packed, rec_in, rec_in_packed, status_of, statuses_of, statuses_set, status_at, length_statuses}
use Rattle.records_rules.specs.State.{stood, got_of, Small}

-- arrays that keep their lengths have the room still, and so has the heap where no more of it is in use
pub room_kept : {held m t c h p size m' t' c' h'' p' : ℕ} → (held ≤ 256) × (256 ≤ m) × (256 ≤ t) × (256 ≤ c) × (256 ≤ h) × (256 ≤ p)
    → size ≤ held → m' ≡ m → t' ≡ t → c' ≡ c → h'' ≡ h → p' ≡ p
    → (size ≤ 256) × (256 ≤ m') × (256 ≤ t') × (256 ≤ c') × (256 ≤ h'') × (256 ≤ p')
room_kept (few, m, t, c, h, p) l em et ec eh ep = (omega arith, omega arith, omega arith, omega arith, omega arith, omega arith)

-- which is room for any number of streams
pub room_enough : {size m t c h p n : ℕ} → (size ≤ 256) × (256 ≤ m) × (256 ≤ t) × (256 ≤ c) × (256 ≤ h) × (256 ≤ p) → n ≤ 256
    → (n ≤ m) × (n ≤ t) × (n ≤ c) × (n ≤ h)
room_enough (few, m, t, c, h, p) l = (omega arith, omega arith, omega arith, omega arith)

-- a record's head with its length, kind and instrument in one number
pub stood_packed : (size kind instrument t : ℕ) → size < 65536 → kind < 65536 → stood t (packed size kind instrument) ≡ whole size kind instrument t
unfolding rec_in
stood_packed size kind instrument t below-size below-kind =
    ap (λ (r : Rec). whole r.size r.kind r.instrument r.time) (rec_in_packed size kind instrument t below-size below-kind)

-- what a read says, with its length, kind and instrument in one number
pub got_packed : (k size kind instrument t : ℕ) → size < 65536 → kind < 65536 → got_of k t (packed size kind instrument) ≡ read_found k (whole size kind instrument t)
unfolding got_of
got_packed k size kind instrument t below-size below-kind = ap (read_found k) (stood_packed size kind instrument t below-size below-kind)

-- ---- a store at p, whoever is chosen
module _ (n : ℕ) (ms ts cs hs : List ℕ) (p : ℕ) where
  abbrev state : List Status
  state = statuses_of n ms ts cs hs

  module _ (hp : p < n) where
    pub waits_at : get_or ms p 0 ≡ 1 → get_or state p gone ≡ waiting (get_or ts p 0) (get_or cs p 0)
    unfolding status_of
    waits_at e = status_at n ms ts cs hs p hp ∙ ap (λ (k : ℕ). status_of k (get_or ts p 0) (get_or cs p 0) (get_or hs p 0)) e

    pub stands_at : get_or ms p 0 ≢ 0 → get_or ms p 0 ≢ 1 → get_or state p gone ≡ standing (get_or cs p 0) (rec_in (get_or hs p 0) (get_or ts p 0))
    unfolding status_of
    stands_at z d = status_at n ms ts cs hs p hp ∙ go (get_or ms p 0) z d
      where
        go : (k : ℕ) → k ≢ 0 → k ≢ 1
            → status_of k (get_or ts p 0) (get_or cs p 0) (get_or hs p 0) ≡ standing (get_or cs p 0) (rec_in (get_or hs p 0) (get_or ts p 0))
        go zero z d = absurd (z refl)
        go (suc zero) z d = absurd (d refl)
        go (suc (suc k)) z d = refl

    module _ (long : (n ≤ length ms) × (n ≤ length ts) × (n ≤ length cs) × (n ≤ length hs)) where
      pub gone_set : statuses_of n (set ms p 0) ts cs hs ≡ set state p gone
      unfolding status_of
      gone_set = ap (λ (l : List ℕ). statuses_of n (set ms p 0) l cs hs) (sym (set-get_or ts p 0))
          ∙ ap (λ (l : List ℕ). statuses_of n (set ms p 0) (set ts p (get_or ts p 0)) l hs) (sym (set-get_or cs p 0))
          ∙ ap (λ (l : List ℕ). statuses_of n (set ms p 0) (set ts p (get_or ts p 0)) (set cs p (get_or cs p 0)) l) (sym (set-get_or hs p 0))
          ∙ statuses_set n ms ts cs hs p 0 (get_or ts p 0) (get_or cs p 0) (get_or hs p 0) hp long.0 long.1 long.2 long.3

      pub stand_set : (t l : ℕ) → statuses_of n (set ms p 2) (set ts p t) cs (set hs p l) ≡ set state p (standing (get_or cs p 0) (rec_in l t))
      unfolding status_of
      stand_set t l = ap (λ (r : List ℕ). statuses_of n (set ms p 2) (set ts p t) r (set hs p l)) (sym (set-get_or cs p 0))
          ∙ statuses_set n ms ts cs hs p 2 t (get_or cs p 0) l hp long.0 long.1 long.2 long.3

      pub wait_set : (a l : ℕ) → statuses_of n (set ms p 1) ts (set cs p a) (set hs p l) ≡ set state p (waiting (get_or ts p 0) a)
      unfolding status_of
      wait_set a l = ap (λ (r : List ℕ). statuses_of n (set ms p 1) r (set cs p a) (set hs p l)) (sym (set-get_or ts p 0))
          ∙ statuses_set n ms ts cs hs p 1 (get_or ts p 0) a l hp long.0 long.1 long.2 long.3

    module _ (hk : n ≤ length ms) (ht : n ≤ length ts) (hc : n ≤ length cs) (hl : n ≤ length hs) where
      pub less_gone : get_or ms p 0 ≡ 1 → waits (statuses_of n (set ms p 0) ts cs hs) < waits state
      unfolding unread
      less_gone e = rw (gone_set (hk, ht, hc, hl)) (waits_less state p (get_or ts p 0) (get_or cs p 0) gone (omega (arith, length_statuses n ms ts cs hs)) (waits_at e) refl)

      pub less_stand : (t l : ℕ) → get_or ms p 0 ≡ 1 → waits (statuses_of n (set ms p 2) (set ts p t) cs (set hs p l)) < waits state
      unfolding unread
      less_stand t l e =
          rw (stand_set (hk, ht, hc, hl) t l) (waits_less state p (get_or ts p 0) (get_or cs p 0) (standing (get_or cs p 0) (rec_in l t)) (omega (arith, length_statuses n ms ts cs hs)) (waits_at e) refl)

pub small_set : (n : ℕ) (cs hs : List ℕ) (p l : ℕ) → p < length hs → Small n cs hs → get_or cs p 0 + l % 65536 < 2 ^ 64 → Small n cs (set hs p l)
small_set n cs hs p l h k x q i = go (ℕ_discrete q p)
  where
    go : Dec (q ≡ p) → get_or cs q 0 + get_or (set hs p l) q 0 % 65536 < 2 ^ 64
    go (yes d) = rw (d, get_or-set_same hs p l 0 h) x
    go (no d) = rw (get_or-set_other hs p q l 0 d) (k q i)

pub small_move : (n : ℕ) (cs hs : List ℕ) (p a : ℕ) → p < length cs → p < length hs → Small n cs hs → a < 2 ^ 64 → Small n (set cs p a) (set hs p 0)
small_move n cs hs p a h h' k x q i = go (ℕ_discrete q p)
  where
    go : Dec (q ≡ p) → get_or (set cs p a) q 0 + get_or (set hs p 0) q 0 % 65536 < 2 ^ 64
    go (yes d) = rw (d, get_or-set_same cs p a 0 h, get_or-set_same hs p 0 0 h') (omega arith)
    go (no d) = rw (get_or-set_other cs p q a 0 d, get_or-set_other hs p q 0 0 d) (k q i)
