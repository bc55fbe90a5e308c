-- One law for each way a turn of the code's loop goes, on lists: what the loop's proof cites. Assumes nothing.
use Rattle.std.proofs.Math.Path.{◌≡◌, refl, sym, ap}
use Rattle.std.proofs.Common.{◌∙◌}
use Rattle.std.specs.Prelude.{◌≢◌, length, set}
use Prim.Native.Nat.{ℕ, ◌+◌, ◌/◌, ◌%◌, ◌<◌, ◌≤◌}
use native.Mathlib.Omega.{arith}
use Rattle.std.proofs.Math.Option.{none, some}
use mathlib.Core.List.{List}
use Rattle.std.proofs.Math.ListN.{get_or}
use Rattle.leaves.specs.Frame.{ended, damaged}
use Rattle.records_rules.specs.Machine.{Rec, Fits, Stream, record_at_lem, damage_at, Status, waiting, standing, gone, key, turn, says, end}
use Rattle.records_rules.specs.Machine as machine
use Rattle.records_rules.specs.Least.{IsFirst}
use Rattle.records_rules.proofs.Rules.{rule_end, rule_record, rule_ended, rule_damaged, rule_whole}
use Rattle.records_rules.specs.View.{rec_in, status_of, statuses_of, status_at}
use Rattle.records_rules.specs.State.{stood}
use Rattle.records_rules.specs.Holds.{Chosen}
use Rattle.records_rules.specs.StateLaws.{gone_set, stand_set, stands_at, wait_set, waits_at}

module _ (b : ℕ → Stream) (n : ℕ) (ms ts cs hs : List ℕ) (p : ℕ) (ch : Chosen n ms ts p) where
  abbrev now : List Status
  now = statuses_of n ms ts cs hs

  pub law_end : n ≤ p → machine.next b now ≡ turn end now
  law_end h = rule_end b now (ch.nobody (omega (arith, ch.within)) cs hs)

  module _ (hp : p < n) (long : (n ≤ length ms) × (n ≤ length ts) × (n ≤ length cs) × (n ≤ length hs)) where
    f : (t : ℕ) × IsFirst now t p
    f = ch.some hp cs hs

    live : get_or ms p 0 ≢ 0
    unfolding status_of key
    live z =
        let is_gone_lem : key (status_of (get_or ms p 0) (get_or ts p 0) (get_or cs p 0) (get_or hs p 0)) ≡ none = rw z refl in
        let e : none ≡ some f.0 = sym is_gone_lem ∙ ap key (sym (status_at n ms ts cs hs p hp)) ∙ f.1.has in
        let y : ◌≡◌ {A = ℕ} 0 1 = cc in
        omega arith

    pub law_record : get_or ms p 0 ≢ 1
        → machine.next b now ≡ turn (says p (record_at_lem (get_or cs p 0) (rec_in (get_or hs p 0) (get_or ts p 0)))) (statuses_of n (set ms p 1) ts (set cs p (get_or cs p 0 + get_or hs p 0 % 65536)) (set hs p 0))
    unfolding rec_in
    law_record d =
        rule_record b now f.0 p f.1 (get_or cs p 0) (rec_in (get_or hs p 0) (get_or ts p 0)) (stands_at n ms ts cs hs p hp live d)
        ∙ ap (turn (says p (record_at_lem (get_or cs p 0) (rec_in (get_or hs p 0) (get_or ts p 0))))) (sym (wait_set n ms ts cs hs p hp long (get_or cs p 0 + get_or hs p 0 % 65536) 0))

    module _ (e : get_or ms p 0 ≡ 1) where
      pub law_ended : ended ≡ (b p).read (get_or cs p 0) → machine.next b (statuses_of n (set ms p 0) ts cs hs) ≡ machine.next b now
      law_ended g =
          ap (machine.next b) (gone_set n ms ts cs hs p hp long) ∙ sym (rule_ended b now f.0 p f.1 (get_or ts p 0) (get_or cs p 0) (waits_at n ms ts cs hs p hp e) (sym g))

      pub law_damaged : (k : ℕ) → damaged k ≡ (b p).read (get_or cs p 0) → machine.next b now ≡ turn (says p (damage_at (get_or cs p 0) k)) (statuses_of n (set ms p 0) ts cs hs)
      law_damaged k g =
          rule_damaged b now f.0 p f.1 (get_or ts p 0) (get_or cs p 0) k (waits_at n ms ts cs hs p hp e) (sym g)
          ∙ ap (turn (says p (damage_at (get_or cs p 0) k))) (sym (gone_set n ms ts cs hs p hp long))

      module _ (t l : ℕ) (g : stood t l ≡ (b p).read (get_or cs p 0)) where
        pub law_whole : machine.next b (statuses_of n (set ms p 2) (set ts p t) cs (set hs p l)) ≡ machine.next b now
        unfolding rec_in
        law_whole =
            ap (machine.next b) (stand_set n ms ts cs hs p hp long t l)
            ∙ sym (rule_whole b now f.0 p f.1 (get_or ts p 0) (get_or cs p 0) (l % 65536) (l / 65536 % 65536) (l / 4294967296) t (waits_at n ms ts cs hs p hp e) (sym g))

        pub law_small : get_or cs p 0 + l % 65536 ≤ (b p).size
        law_small =
            let x : Fits (b p).size (get_or cs p 0) (stood t l) = rw (sym g) at ((b p).fits (get_or cs p 0)) in
            x.1
