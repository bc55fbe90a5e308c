-- A scan for the least (time, stream), over the arrays. The idea: among the streams that were looked at, the best comes first, or there
-- is none and all of them are gone. Assumes nothing.
use Rattle.std.specs.Prelude.{◌≡◌, refl, ◌≢◌, ℕ, zero, suc, ◌+◌, ◌≤◌, ◌<◌, List, get_or}
use Rattle.std.proofs.Common.{sym, ap, ◌∙◌, arith}
use Rattle.std.proofs.Math.Decide.{ℕ_discrete, dec_lt}
use Rattle.std.proofs.Math.Option.{Option, none, some}
use Rattle.records_rules.specs.Machine.{gone, key}
use Rattle.records_rules.specs.Least.{Upto, upto_refl}
use Rattle.records_rules.specs.Kept.{inside}
use Rattle.records_rules.specs.View.{status_of, statuses_of, status_at, length_statuses}
use Rattle.records_rules.specs.Holds.{Chosen}

-- among the first i streams r comes first, or r is n and all of them are gone
pub record Scan (n i : ℕ) (ms ts : List ℕ) (r : ℕ) : Type 0 where
  pub within : r ≤ n
  pub nobody : r ≡ n → (q : ℕ) → q < i → get_or ms q 0 ≡ 0
  pub here : r < n → (get_or ms r 0 ≢ 0) × ((q : ℕ) → q < i → get_or ms q 0 ≢ 0 → Upto (get_or ts r 0) r (get_or ts q 0) q)
  pub seen : r < n → r < i

pub scan_start : (n : ℕ) (ms ts : List ℕ) → Scan n 0 ms ts n
scan_start n ms ts =
    record {
      within = omega arith;
      nobody = λ e q h. absurd (omega arith);
      here = λ h. absurd (omega arith);
      seen = λ h. absurd (omega arith);
    }

module _ {n i : ℕ} {ms ts : List ℕ} {r : ℕ} (s : Scan n i ms ts r) where
  -- the stream i is gone
  pub scan_gone : get_or ms i 0 ≡ 0 → Scan n (i + 1) ms ts r
  scan_gone e =
      record {
        within = s.within;
        nobody = λ d q h. at q h (s.nobody d) (ℕ_discrete q i);
        here = λ h. ((s.here h).0, λ q l z. first q l z (s.here h).1 (ℕ_discrete q i));
        seen = λ h. omega (arith, s.seen h);
      }
    where
      at : (q : ℕ) → q < i + 1 → ((q : ℕ) → q < i → get_or ms q 0 ≡ 0) → Dec (q ≡ i) → get_or ms q 0 ≡ 0
      at q h f (yes d) = ap (λ (x : ℕ). get_or ms x 0) d ∙ e
      at q h f (no d) = f q (omega arith)

      first : (q : ℕ) → q < i + 1 → get_or ms q 0 ≢ 0
          → ((q : ℕ) → q < i → get_or ms q 0 ≢ 0 → Upto (get_or ts r 0) r (get_or ts q 0) q)
          → Dec (q ≡ i) → Upto (get_or ts r 0) r (get_or ts q 0) q
      first q l z f (yes d) = absurd (z (ap (λ (x : ℕ). get_or ms x 0) d ∙ e))
      first q l z f (no d) = f q (omega arith) z

  -- it is the first that is not, or comes before the best
  pub scan_new : i < n → get_or ms i 0 ≢ 0 → (r < n → get_or ts i 0 < get_or ts r 0) → Scan n (i + 1) ms ts i
  scan_new l z less =
      record {
        within = omega arith;
        nobody = λ d. absurd (omega arith);
        here = λ h. (z, λ q k y. at q k y (ℕ_discrete q i) (dec_lt r n));
        seen = λ h. omega arith;
      }
    where
      at : (q : ℕ) → q < i + 1 → get_or ms q 0 ≢ 0 → Dec (q ≡ i) → Dec (r < n) → Upto (get_or ts i 0) i (get_or ts q 0) q
      at q k y (yes d) c = rw d (upto_refl (get_or ts i 0) i)
      at q k y (no d) (yes c) =
          let u = (s.here c).1 q (omega arith) y in
          let w = less c in
          record { times = omega (arith, u.times); numbers = λ h. absurd (omega (arith, u.times)) }
      at q k y (no d) (no c) = absurd (y (s.nobody (omega (arith, s.within)) q (omega arith)))

  -- the best stays
  pub scan_stays : r < n → get_or ts r 0 ≤ get_or ts i 0 → Scan n (i + 1) ms ts r
  scan_stays l h =
      record {
        within = s.within;
        nobody = λ d. absurd (omega arith);
        here = λ k. ((s.here l).0, λ q u y. at q u y (ℕ_discrete q i));
        seen = λ k. omega (arith, s.seen l);
      }
    where
      at : (q : ℕ) → q < i + 1 → get_or ms q 0 ≢ 0 → Dec (q ≡ i) → Upto (get_or ts r 0) r (get_or ts q 0) q
      at q u y (yes d) = rw d (record { times = h; numbers = λ k. omega (arith, s.seen l) })
      at q u y (no d) = (s.here l).1 q (omega arith) y

live : (d : ℕ) → d ≢ 0 → (t a l : ℕ) → key (status_of d t a l) ≡ some t
unfolding key status_of
live zero h t a l = absurd (h refl)
live (suc zero) h t a l = refl
live (suc (suc d)) h t a l = refl

dead : (d t a l u : ℕ) → key (status_of d t a l) ≡ some u → (d ≢ 0) × (t ≡ u)
unfolding key status_of
dead zero t a l u e = let z : ◌≡◌ {A = ℕ} 0 1 = cc in absurd (omega arith)
dead (suc zero) t a l u e = (λ z. omega arith, cc)
dead (suc (suc d)) t a l u e = (λ z. omega arith, cc)

none_of : (o : Option ℕ) → ((u : ℕ) → o ≡ some u → ⊥) → o ≡ none
none_of none h = refl
none_of (some u) h = absurd (h u refl)

-- all were looked at: the best is who comes first
pub scan_done : {n : ℕ} {ms ts : List ℕ} {r : ℕ} → Scan n n ms ts r → Chosen n ms ts r
scan_done {n} {ms} {ts} {r} s =
    record {
      within = s.within;
      nobody = λ e cs hs q.
          none_of (key (get_or (statuses_of n ms ts cs hs) q gone)) (λ u z. let w = of cs hs q u z in w.1.0 (s.nobody e q w.0));
      some = λ l cs hs. (
        get_or ts r 0,
        record {
          has = ap key (status_at n ms ts cs hs r l) ∙ live (get_or ms r 0) (s.here l).0 _ _ _;
          low = λ q u z. let w = of cs hs q u z in (let v = (s.here l).1 q w.0 w.1.0 in rw (← w.1.1) v);
        },
      );
    }
  where
    of : (cs hs : List ℕ) (q u : ℕ) → key (get_or (statuses_of n ms ts cs hs) q gone) ≡ some u
        → (q < n) × ((get_or ms q 0 ≢ 0) × (get_or ts q 0 ≡ u))
    of cs hs q u z =
        let ss = statuses_of n ms ts cs hs in
        let h : q < n = omega (arith, inside ss q u z, length_statuses n ms ts cs hs) in
        (h, dead (get_or ms q 0) (get_or ts q 0) (get_or cs q 0) (get_or hs q 0) u (sym (ap key (status_at n ms ts cs hs q h)) ∙ z))
