-- The ways a turn of the loop goes, on a sound state. Assumes nothing.
use Rattle.std.specs.Prelude.{◌≡◌, ◌≢◌, ℕ, ◌+◌, ◌-◌, ◌%◌, ◌≤◌, ◌<◌, ◌^◌, List, length, get_or, set}
use Rattle.std.proofs.Common.{sym, ap, ◌∙◌, arith, length-set}
use Rattle.leaves.specs.Frame.{ended, damaged}
use Rattle.records_rules.specs.Machine.{Stream, says, end, record_at_lem, damage_at, turn}
use Rattle.records_rules.specs.Machine as machine
use Rattle.records_rules.specs.View.{rec_in, statuses_of}
use Rattle.records_rules.specs.Heap.{at}
use Rattle.records_rules.specs.State.{answer_of, stood}
use Rattle.records_rules.specs.StateLaws.{room_kept, room_enough, small_set, small_move}
use Rattle.records_rules.proofs.StateLaws.{law_end, law_record, law_ended, law_damaged, law_whole, law_small}
use Rattle.records_rules.specs.Holds.{Chosen, holds_moved, holds_kind, holds_drop, but_drop, but_key}
use Rattle.records_rules.proofs.Holds.{ok_chosen, ok_none}
use Rattle.records_rules.specs.State.{Room, StateOk, Says}
use Rattle.records_rules.specs.Sift.{Sifted}
use Rattle.records_rules.specs.Steps.{Going, Done}

-- the machine's turn is this: so are its answer and what it leaves
heard_by : {b : ℕ → Stream} {n : ℕ} {ks₀ ts₀ cs₀ ls₀ ms ts cs hs hp : List ℕ} {size : ℕ} (y : machine.Answer) → machine.next b (statuses_of n ks₀ ts₀ cs₀ ls₀) ≡ turn y (statuses_of n ms ts cs hs)
    → StateOk n size ms ts cs hs hp → Says b n ks₀ ts₀ cs₀ ls₀ (answer_of y) size ms ts cs hs hp
unfolding machine.answer machine.rest
heard_by y e k = record { heard = ap (λ (r : machine.Turn). answer_of (machine.answer r)) (sym e); leaves = ap machine.rest (sym e); sound = k }

module _ {b : ℕ → Stream} {held : ℕ} {ks₀ ts₀ cs₀ ls₀ hp₀ : List ℕ} {size : ℕ} {ms ts cs hs hp : List ℕ}
    (g : Going b held ks₀ ts₀ cs₀ ls₀ hp₀ size ms ts cs hs hp) (room : Room held ks₀ ts₀ cs₀ ls₀ hp₀) where
  roomy : Room size ms ts cs hs hp
  roomy = room_kept room g.few g.marks g.times g.places g.heads g.heap

  enough : (n : ℕ) → n ≤ 256 → (n ≤ length ms) × (n ≤ length ts) × (n ≤ length cs) × (n ≤ length hs)
  enough n hn = room_enough roomy hn

  pub step_end : size ≡ 0 → Done b held ks₀ ts₀ cs₀ ls₀ hp₀ (answer_of end) size ms ts cs hs hp
  step_end e = record {
    fewer = g.few;
    says = λ n hn k.
        let x = g.keeps n hn k in
        heard_by end (sym x.same ∙ law_end b n ms ts cs hs n (ok_none n ms ts hp size x.sound.heaped e) (omega arith)) x.sound;
  }

  module _ {p : ℕ} (e : p ≡ at hp 0) (pos : 0 < size) where
    module _ (n : ℕ) (hn : n ≤ 256) (ok : StateOk n size ms ts cs hs hp) where
      root : p < n
      root = omega (arith, (ok.heaped.holds.who 0 pos).0)

      live : get_or ms p 0 ≢ 0
      live = rw e (ok.heaped.holds.who 0 pos).1

      ch : Chosen n ms ts p
      ch = rw e (ok_chosen n ms ts hp size ok.heaped pos)

    -- the root stands at a record
    pub step_record : get_or ms p 0 ≢ 1 → (a : ℕ) → (get_or cs p 0 + get_or hs p 0 % 65536 < 2 ^ 64 → a ≡ get_or cs p 0 + get_or hs p 0 % 65536)
        → Done b held ks₀ ts₀ cs₀ ls₀ hp₀ (answer_of (says p (record_at_lem (get_or cs p 0) (rec_in (get_or hs p 0) (get_or ts p 0))))) size (set ms p 1) ts (set cs p a) (set hs p 0) hp
    step_record d a f = record {
      fewer = g.few;
      says = λ n hn k.
          let x = g.keeps n hn k in
          let ok = x.sound in
          let r : p < n = root n hn ok in
          let fit : get_or cs p 0 + get_or hs p 0 % 65536 < 2 ^ 64 = ok.small p r in
          let m = enough n hn in
          rw (f fit) (heard_by (says p (record_at_lem (get_or cs p 0) (rec_in (get_or hs p 0) (get_or ts p 0))))
          (sym x.same ∙ law_record b n ms ts cs hs p (ch n hn ok) r m d)
          (record {
            small = small_move n cs hs p (get_or cs p 0 + get_or hs p 0 % 65536) (omega (arith, m.2)) (omega (arith, m.3)) ok.small fit;
            heaped = record { holds = holds_kind p 1 (omega (arith, m.0)) (live n hn ok) (λ z. omega arith) ok.heaped.holds; heap = ok.heaped.heap };
          }));
    }

    module _ (w : get_or ms p 0 ≡ 1) where
      module _ {hq : List ℕ} (sf : Sifted ts (size - 1) 0 (set hp 0 (at hp (size - 1))) hq) where
        dropped : (n : ℕ) → n ≤ 256 → StateOk n size ms ts cs hs hp → StateOk n (size - 1) (set ms p 0) ts cs hs hq
        dropped n hn ok =
            let m = enough n hn in
            let hh' : size ≤ length hp = omega (arith, roomy.5, roomy.0) in
            record {
              small = ok.small;
              heaped = record {
                holds = rw e (holds_moved (holds_drop n ms ts hp size pos m.0 hh' ok.heaped) sf.moved);
                heap = sf.heap (but_drop n ms ts hp size pos m.0 hh' ok.heaped);
              };
            }

        -- the root's stream has ended
        pub step_ended : ended ≡ (b p).read (get_or cs p 0) → length hq ≡ length (set hp 0 (at hp (size - 1))) → Going b held ks₀ ts₀ cs₀ ls₀ hp₀ (size - 1) (set ms p 0) ts cs hs hq
        step_ended got long =
            record {
              marks = length-set ms p 0 ∙ g.marks;
              times = g.times;
              places = g.places;
              heads = g.heads;
              heap = long ∙ length-set hp 0 (at hp (size - 1)) ∙ g.heap;
              few = omega (arith, g.few);
              keeps = λ n hn z.
                  let x = g.keeps n hn z in
                  let ok = x.sound in
                  let m = enough n hn in
                  record {
                    sound = dropped n hn ok;
                    same = law_ended b n ms ts cs hs p (ch n hn ok) (root n hn ok) m w got ∙ x.same;
                  };
            }

        -- it is damaged
        pub step_damaged : (k : ℕ) → damaged k ≡ (b p).read (get_or cs p 0) → Done b held ks₀ ts₀ cs₀ ls₀ hp₀ (answer_of (says p (damage_at (get_or cs p 0) k))) (size - 1) (set ms p 0) ts cs hs hq
        step_damaged k got = record {
          fewer = omega (arith, g.few);
          says = λ n hn z.
              let x = g.keeps n hn z in
              let ok = x.sound in
              let m = enough n hn in
              heard_by (says p (damage_at (get_or cs p 0) k))
              (sym x.same ∙ law_damaged b n ms ts cs hs p (ch n hn ok) (root n hn ok) m w k got)
              (dropped n hn ok);
        }

      -- it stands at a record now
      pub step_whole : (t l : ℕ) → stood t l ≡ (b p).read (get_or cs p 0) → (b p).size < 2 ^ 64 → {hq : List ℕ} → Sifted (set ts p t) size 0 hp hq → length hq ≡ length hp
          → Going b held ks₀ ts₀ cs₀ ls₀ hp₀ size (set ms p 2) (set ts p t) cs (set hs p l) hq
      step_whole t l got hb {hq} sf long =
          record {
            marks = length-set ms p 2 ∙ g.marks;
            times = length-set ts p t ∙ g.times;
            places = g.places;
            heads = length-set hs p l ∙ g.heads;
            heap = long ∙ g.heap;
            few = g.few;
            keeps = λ n hn z.
                let x = g.keeps n hn z in
                let ok = x.sound in
                let r : p < n = root n hn ok in
                let m = enough n hn in
                let fits : get_or cs p 0 + l % 65536 ≤ (b p).size = law_small b n ms ts cs hs p (ch n hn ok) r m w t l got in
                record {
                  sound = record {
                    small = small_set n cs hs p l (omega (arith, m.3)) ok.small (omega (arith, fits));
                    heaped = record {
                      holds = holds_moved (holds_kind p 2 (omega (arith, m.0)) (live n hn ok) (λ z. omega arith) ok.heaped.holds) sf.moved;
                      heap = sf.heap (rw e (but_key n ms ts hp size t pos ok.heaped));
                    };
                  };
                  same = law_whole b n ms ts cs hs p (ch n hn ok) r m w t l got ∙ x.same;
                };
          }
