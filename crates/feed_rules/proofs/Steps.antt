-- The ways a turn of the loop of the call for the next answer goes. Assumes nothing.
use Rattle.std.proofs.Math.Path.{◌≡◌, refl, sym, ap, subst}
use Rattle.std.proofs.Common.{◌∙◌, eq-eqb, ne_eqb}
use Rattle.std.specs.Prelude.{◌≢◌, not, List, [], ◌∷◌, length, take, eqb}
use Prim.Native.Nat.{ℕ, ◌+◌, ◌-◌, ◌*◌, ◌/◌, ◌%◌, ◌≤◌, ◌<◌, ◌^◌}
use native.Mathlib.Omega.{arith}
use Rattle.std.proofs.Math.Bool.{cond}
use Rattle.std.proofs.Math.Option.{Option, none, some}
use Rattle.std.proofs.Math.ListN.{get_or, set, length-set, length-take, length-drop}
use Rattle.std.proofs.Math.Seq.{set-get_or, get_or-set_same}
use Rattle.theory.specs.Answer.{answer}
use Rattle.leaves.specs.Frame.{Read, whole, ended, damaged}
use Rattle.records_rules.specs.Machine.{Rec, says, end, record_at_lem, damage_at, Status, waiting, gone}
use Rattle.records_rules.specs.View.{rec_in, statuses_of, length_statuses}
use Rattle.records_rules.specs.Heap.{at}
use Rattle.records_rules.specs.Holds.{Chosen, holds_moved, holds_kind, holds_drop, but_drop, but_key}
use Rattle.records_rules.proofs.Holds.{ok_chosen, ok_none}
use Rattle.records_rules.specs.StateLaws.{room_enough, waits_at, stands_at, gone_set, stand_set, wait_set}
use Rattle.records_rules.specs.Sift.{Sifted}
use Rattle.feed_rules.specs.Partial.{part, known_at, Turn⁺, replies, needs, next⁺, rest⁺}
use Rattle.feed_rules.proofs.PartialLaws.{rule_end⁺, rule_record⁺, rule_wants⁺, rule_ended⁺, rule_damaged⁺, rule_whole⁺}
use Rattle.feed_rules.specs.Windows.{Kept, known_in, from, counted, turn_leaves, turn_answer}
use Rattle.feed_rules.specs.WindowsLaws.{known_here}
use Rattle.feed_rules.proofs.WindowsLaws.{known_from, known_fits}
use Rattle.feed_rules.specs.Spans.{dropped, counts, bytes_in, kept_of, feed_of, handed_out, SlotOk, FeedOk, FeedRoom, FeedArrays, feed_arrays, Wanting}
use Rattle.feed_rules.specs.SpansLaws.{dropped_zero, kept_dropped}
use Rattle.feed_rules.specs.Stores.{put_set, put_none, slots_put, unused_put, head_set}
use Rattle.feed_rules.specs.Going.{Later, later_from, kept_at, Keeps⁺, Going⁺, going_room, counts_none, counts_zero}
use Rattle.feed_rules.proofs.Going.{known_later}
use Rattle.feed_rules.specs.Going.{says_by, kept_handed, slot_handed, slot_dropped}
use Rattle.feed_rules.specs.Going.{Done⁺, needs_not}

module _ {window : List ℕ} {held : ℕ} {ms₀ ts₀ cs₀ hs₀ hp₀ ps₀ : List ℕ} {size : ℕ} {ms ts cs hs hp ps : List ℕ}
    (g : Going⁺ window held ms₀ ts₀ cs₀ hs₀ hp₀ ps₀ size ms ts cs hs hp ps) (room : FeedRoom held ms₀ ts₀ cs₀ hs₀ hp₀ ps₀) where
  roomy : FeedRoom size ms ts cs hs hp ps
  roomy = going_room g room

  enough : (n : ℕ) → n ≤ 256 → (n ≤ length ms) × (n ≤ length ts) × (n ≤ length cs) × (n ≤ length hs)
  enough n hn = room_enough roomy.0 hn

  abbrev ss : ℕ → List Status
  ss n = statuses_of n ms ts cs hs

  -- what is known: of what was kept at entry
  abbrev kn : ℕ → ℕ → Option Read
  kn q a = known_in (kept_at window ms₀ cs₀ hs₀ ps₀ q) a

  -- where more had to come first at entry, this is the state at entry
  want : Wanting window held ms₀ hs₀ hp₀ ps₀ → Wanting window size ms hs hp ps
  want w =
      let u = g.still w in
      rw (
        u.0,
        ap (λ (a : FeedArrays). a.marks) u.1,
        ap (λ (a : FeedArrays). a.heads) u.1,
        ap (λ (a : FeedArrays). a.heap) u.1,
        ap (λ (a : FeedArrays). a.spans) u.1,
      ) w

  pub step_end⁺ : size ≡ 0 → Done⁺ window held ms₀ ts₀ cs₀ hs₀ hp₀ ps₀ (answer 0 []) size ms ts cs hs hp ps
  unfolding feed_of rest⁺ counted turn_answer
  step_end⁺ e = record {
    fewer = g.few;
    says = λ n hn k.
        let x = g.keeps n hn k in
        let ok = x.sound in
        says_by (answer 0 []) (replies end (ss n))
        (sym x.same ∙ rule_end⁺ kn (ss n) ((ok_none n ms ts hp size ok.state.heaped e).nobody refl cs hs))
        refl x.kept
        (λ q l m. absurd (omega (arith, e, (ok.state.heaped.holds.there q l (λ z. omega arith)).1)))
        ok (λ a. refl);
    needs = needs_not (λ q i. let z : ◌≡◌ {A = ℕ} 0 1 = cc in omega arith) (λ w. let h = (want w).any in omega arith);
  }

  module _ {p : ℕ} (e : p ≡ at hp 0) (pos : 0 < size) where
    module _ (n : ℕ) (hn : n ≤ 256) (ok : FeedOk n size ms ts cs hs hp ps) where
      root : p < n
      root = omega (arith, (ok.state.heaped.holds.who 0 pos).0)

      live : get_or ms p 0 ≢ 0
      live = rw e (ok.state.heaped.holds.who 0 pos).1

      ch : Chosen n ms ts p
      ch = rw e (ok_chosen n ms ts hp size ok.state.heaped pos)

      slot : SlotOk (get_or ms p 0) (get_or cs p 0) (get_or hs p 0) (get_or ps p 0)
      slot = ok.slots p root live

    -- the root stands at a record
    pub step_record⁺ : get_or ms p 0 ≢ 1 → (a : ℕ) → (get_or cs p 0 + get_or hs p 0 % 65536 < 2 ^ 64 → a ≡ get_or cs p 0 + get_or hs p 0 % 65536)
        → Done⁺ window held ms₀ ts₀ cs₀ hs₀ hp₀ ps₀
        (handed_out p (get_or cs p 0) (get_or ps p 0) (get_or hs p 0) (get_or ts p 0))
        size (set ms p 1) ts (set cs p a) (set hs p (get_or hs p 0 % 65536)) hp ps
    unfolding feed_of rest⁺ counted turn_answer turn_leaves rec_in handed_out
    step_record⁺ d a f = record {
      fewer = g.few;
      says = λ n hn k.
          let x = g.keeps n hn k in
          let ok = x.sound in
          let r : p < n = root n hn ok in
          rw (f (ok.state.small p r))
          (let b = get_or cs p 0 in
          let sz = get_or hs p 0 % 65536 in
          let s = get_or ps p 0 in
          let sl = slot n hn ok in
          let u₁ = put_set ms p 1 (omega (arith, roomy.0.1)) in
          let u₂ = put_set cs p (b + sz) (omega (arith, roomy.0.3)) in
          let u₃ = put_set hs p sz (omega (arith, roomy.0.4)) in
          let u₄ = put_none ps p in
          let c₀ : counts (get_or ms p 0) (get_or hs p 0) ≡ 0 = counts_none (get_or ms p 0) (get_or hs p 0) d in
          let rr : Rec = rec_in (get_or hs p 0) (get_or ts p 0) in
          let turn : Turn⁺ = replies (says p (record_at_lem b rr)) (set (ss n) p (waiting (get_or ts p 0) (b + sz))) in
          let fst = (ch n hn ok).some r cs hs in
          let stored = get_or-set_same (ss n) p (waiting (get_or ts p 0) (b + sz)) gone (omega (arith, length_statuses n ms ts cs hs)) in
          says_by (handed_out p b s (get_or hs p 0) (get_or ts p 0)) turn
          (sym x.same
          ∙ rule_record⁺ kn (ss n) fst.0 p fst.1 b rr (stands_at n ms ts cs hs p r (live n hn ok) d))
          (sym (wait_set n ms ts cs hs p r (enough n hn) (b + sz) sz))
          (slots_put (λ q m c h z. q < n → m ≢ 0 → Later (kept_at window ms₀ cs₀ hs₀ ps₀ q) (kept_of window q m c h z)) u₁ u₂ u₃ u₄
          (λ q i. x.kept q)
          (λ i j. subst (Later (kept_at window ms₀ cs₀ hs₀ ps₀ p)) (sym (kept_handed window p (get_or ms p 0) b (get_or hs p 0) s d)) (x.kept p r (live n hn ok))))
          (slots_put (λ q m c h z. q < n → m ≡ 1 → h % 65536 ≡ cond (eqb q p) sz 0) u₁ u₂ u₃ u₄
          (λ q i l m. rw (ne_eqb q p i) (ok.lone q l m (λ z. i (z ∙ sym e))))
          (λ l m. rw (eq-eqb p p refl) (omega arith)))
          (record {
            state = record {
              small = slots_put (λ q m c h z. q < n → c + h % 65536 < 2 ^ 64) u₁ u₂ u₃ u₄ (λ q i. ok.state.small q)
                  (λ l. omega (arith, sl.fits, sl.most, c₀));
              heaped = record {
                holds = holds_kind p 1 (omega (arith, roomy.0.1)) (live n hn ok) (λ z. omega arith) ok.state.heaped.holds;
                heap = ok.state.heaped.heap;
              };
            };
            slots = slots_put (λ q m c h z. q < n → m ≢ 0 → SlotOk m c h z) u₁ u₂ u₃ u₄ (λ q i. ok.slots q)
                (λ i j. slot_handed (get_or ms p 0) b (get_or hs p 0) s d sl);
            lone = slots_put (λ q m c h z. q < n → m ≡ 1 → q ≢ at hp 0
                → h % 65536 ≡ 0) u₁ u₂ u₃ u₄ (λ q i. ok.lone q) (λ l m i. absurd (i e));
            unused = unused_put n ms (set ms p 1) p 1 r u₁ ok.unused;
          })
          (λ al. ap (λ (y : Kept). answer 0 (p ∷ b ∷ y.at ∷ sz ∷ (get_or hs p 0 / 65536 % 65536) ∷ (get_or hs p 0 / 4294967296) ∷ get_or ts p 0 ∷ []))
          (al.kept p (λ i. let z : waiting (get_or ts p 0) (b + sz) ≡ gone = sym stored
          ∙ i in let y : ◌≡◌ {A = ℕ} 0 1 = cc in absurd (omega arith)))));
      needs = needs_not (λ q i. let z : ◌≡◌ {A = ℕ} 0 1 = cc in omega arith) (λ v. d (rw e (want v).waits));
    }

    module _ (w : get_or ms p 0 ≡ 1) (o : Option Read)
        (got : o ≡ known_at (part (bytes_in window p (dropped (get_or ps p 0) (get_or hs p 0 % 65536)))
        (not (eqb (dropped (get_or ps p 0) (get_or hs p 0 % 65536) / 4294967296) 0))) 0) where
      -- the span without the bytes that counted
      abbrev less : ℕ
      less = dropped (get_or ps p 0) (get_or hs p 0 % 65536)

      -- where more must come first, no bytes counted, and the read is not known
      none_counted : Wanting window size ms hs hp ps → (get_or hs p 0 ≡ 0) × (less ≡ get_or ps p 0)
      none_counted v = let z : get_or hs p 0 ≡ 0 = rw e v.none_counts_lem in (z, rw z (dropped_zero (get_or ps p 0)))

      not_known : Wanting window size ms hs hp ps → o ≡ none
      not_known v =
          let s = (none_counted v).1 in
          let u : known_at (part (bytes_in window p less) (not (eqb (less / 4294967296) 0))) 0 ≡ none = rw (s, e) v.unknown in
          got ∙ u

      module _ (n : ℕ) (hn : n ≤ 256) (x : Keeps⁺ n window ms₀ ts₀ cs₀ hs₀ ps₀ size ms ts cs hs hp ps) where
        slot₁ : SlotOk 1 (get_or cs p 0) (get_or hs p 0) (get_or ps p 0)
        slot₁ = subst (λ (m : ℕ). SlotOk m (get_or cs p 0) (get_or hs p 0) (get_or ps p 0)) w (slot n hn x.sound)

        had : Later (kept_at window ms₀ cs₀ hs₀ ps₀ p) (kept_at window ms cs hs ps p)
        had = x.kept p (root n hn x.sound) (live n hn x.sound)

        low : (kept_at window ms cs hs ps p).base ≤ get_or cs p 0
        unfolding kept_of
        low = omega arith

        fresh : (m' h' : ℕ) → counts m' h' ≡ 0 → kept_of window p m' (get_or cs p 0) h' less ≡ from (get_or cs p 0) (kept_at window ms cs hs ps p)
        unfolding counts
        fresh m' h' z =
            kept_dropped window p (get_or cs p 0) (get_or hs p 0) (get_or ps p 0) m' h' slot₁.fits slot₁.short slot₁.placed z
            ∙ ap (λ (m : ℕ). from (get_or cs p 0) (kept_of window p m (get_or cs p 0) (get_or hs p 0) (get_or ps p 0))) (sym w)

        later_fresh : (m' h' : ℕ) → counts m' h' ≡ 0 → Later (kept_at window ms₀ cs₀ hs₀ ps₀ p) (kept_of window p m' (get_or cs p 0) h' less)
        later_fresh m' h' z = later_from had (get_or cs p 0) low (fresh m' h' z)

        reads : kn p (get_or cs p 0) ≡ o
        unfolding kept_of from
        reads =
            known_later had (get_or cs p 0) low
            ∙ sym (known_from (kept_at window ms cs hs ps p) (get_or cs p 0) (get_or cs p 0) low (omega arith))
            ∙ known_here (from (get_or cs p 0) (kept_at window ms cs hs ps p))
            ∙ ap (λ (z : Kept). known_at (part z.bytes z.over) 0) (sym (fresh 1 0 (counts_zero 1)))
            ∙ sym got

        -- a record lies in the span
        whole_fits : (l t : ℕ) → o ≡ some (whole (l % 65536) (l / 65536 % 65536) (l / 4294967296) t) → l % 65536 ≤ less / 65536 % 65536
        unfolding kept_of
        whole_fits l t d =
            let y : Kept = kept_of window p 1 (get_or cs p 0) 0 less in
            let same : kn p (get_or cs p 0) ≡ known_in y (get_or cs p 0) =
            known_later (later_fresh 1 0 (counts_zero 1)) (get_or cs p 0) (omega arith) in
            let f = known_fits y (get_or cs p 0) (l % 65536) (l / 65536 % 65536) (l / 4294967296) t (sym same ∙ reads ∙ d) in
            let b : y.base ≤ get_or cs p 0 = omega arith in
            let from₀ : ℕ = 1024 * p + less % 65536 in
            let size₀ : ℕ = less / 65536 % 65536 in
            omega (arith, f.1, b, length-drop from₀ (take (from₀ + size₀) window), length-take (from₀ + size₀) window)

      -- more is needed first
      pub step_wants⁺ : o ≡ none → p < 256
          → Done⁺ window held ms₀ ts₀ cs₀ hs₀ hp₀ ps₀ (answer 0 (p ∷ [])) size ms ts cs (set hs p 0) hp (set ps p less)
      unfolding feed_of rest⁺ counted turn_answer
      step_wants⁺ d below = record {
        fewer = g.few;
        says = λ n hn z.
            let x = g.keeps n hn z in
            let ok = x.sound in
            let r : p < n = root n hn ok in
            let u₁ = put_none ms p in
            let u₂ = put_none cs p in
            let u₃ = put_set hs p 0 (omega (arith, roomy.0.4)) in
            let u₄ = put_set ps p less (omega (arith, roomy.1)) in
            let fst = (ch n hn ok).some r cs hs in
            says_by (answer 0 (p ∷ [])) (needs p (ss n))
            (sym x.same
            ∙ rule_wants⁺ kn (ss n) fst.0 p fst.1 (get_or ts p 0) (get_or cs p 0) (waits_at n ms ts cs hs p r w)
            (reads n hn x ∙ d))
            (sym (head_set n ms ts cs hs p r (enough n hn) 0 w))
            (slots_put (λ q m c h z. q < n → m ≢ 0 → Later (kept_at window ms₀ cs₀ hs₀ ps₀ q) (kept_of window q m c h z)) u₁ u₂ u₃ u₄
            (λ q i. x.kept q) (λ i j. later_fresh n hn x (get_or ms p 0) 0 (counts_zero (get_or ms p 0))))
            (slots_put (λ q m c h z. q < n → m ≡ 1
            → h % 65536 ≡ 0) u₁ u₂ u₃ u₄ (λ q i l m. ok.lone q l m (λ z. i (z ∙ sym e))) (λ i j. refl))
            (record {
              state = record {
                small = slots_put (λ q m c h z. q < n → c + h % 65536 < 2 ^ 64) u₁ u₂ u₃ u₄ (λ q i. ok.state.small q)
                    (λ i. omega (arith, ok.state.small p r));
                heaped = ok.state.heaped;
              };
              slots = slots_put (λ q m c h z. q < n → m ≢ 0 → SlotOk m c h z) u₁ u₂ u₃ u₄ (λ q i. ok.slots q)
                  (λ i j. slot_dropped (get_or ms p 0) (get_or cs p 0) (get_or hs p 0) 0 (get_or ps p 0) (slot₁ n hn x) (counts_zero (get_or ms p 0)) (omega arith));
              lone = slots_put (λ q m c h z. q < n → m ≡ 1 → q ≢ at hp 0 → h % 65536 ≡ 0) u₁ u₂ u₃ u₄ (λ q i. ok.lone q) (λ i j z. refl);
              unused = ok.unused;
            })
            (λ al. refl);
        needs = record {
          left = λ q i.
              let z : q ≡ p = cc in
              let u = put_set ps p less (omega (arith, roomy.1)) in (
                z ∙ e,
                record {
                  any = pos;
                  waits = rw (← e) w;
                  none_counts_lem = rw (← e) (put_set hs p 0 (omega (arith, roomy.0.4))).here;
                  unknown = rw (← e, u.here) (sym got ∙ d);
                },
              );
          again = λ v.
              let u = g.still v in
              let z = none_counted (want v) in
              let heads_back : set hs p 0 ≡ hs = ap (set hs p) (sym z.0) ∙ set-get_or hs p 0 in
              let spans_back : set ps p less ≡ ps = ap (set ps p) z.1 ∙ set-get_or ps p 0 in (
                ap (λ (q : ℕ). answer 0 (q ∷ [])) (e ∙ ap (λ (a : FeedArrays). at a.heap 0) u.1),
                u.0,
                (λ i. feed_arrays ms ts cs (heads_back i) hp (spans_back i)) ∙ u.1,
              );
        };
      }

      module _ (r₀ : Read) (found : o ≡ some r₀) where
        known : o ≢ none
        known z = let y : none ≡ some r₀ = sym z ∙ found in let y₁ : ◌≡◌ {A = ℕ} 0 1 = cc in absurd (omega arith)

        module _ {hq : List ℕ} (sf : Sifted ts (size - 1) 0 (set hp 0 (at hp (size - 1))) hq) where
          -- no other stream has a record that counts
          alone : (n : ℕ) → n ≤ 256 → FeedOk n size ms ts cs hs hp ps → (q : ℕ) → q < n → get_or (set ms p 0) q 0 ≡ 1
              → get_or hs q 0 % 65536 ≡ 0
          alone n hn ok =
              slots_put (λ q m c h z. q < n → m ≡ 1 → h % 65536 ≡ 0) (put_set ms p 0 (omega (arith, roomy.0.1, root n hn ok)))
              (put_none cs p) (put_none hs p) (put_none ps p) (λ q i l m. ok.lone q l m (λ z. i (z ∙ sym e))) (λ i j. absurd (omega arith))

          closed : (n : ℕ) → n ≤ 256 → FeedOk n size ms ts cs hs hp ps → FeedOk n (size - 1) (set ms p 0) ts cs hs hq ps
          closed n hn ok =
              let hk' : n ≤ length ms = omega (arith, roomy.0.1) in
              let hh' : size ≤ length hp = omega (arith, roomy.0.5, roomy.0.0) in
              let u₁ = put_set ms p 0 (omega (arith, root n hn ok)) in
              record {
                state = record {
                  small = ok.state.small;
                  heaped = record {
                    holds = rw e (holds_moved (holds_drop n ms ts hp size pos hk' hh' ok.state.heaped) sf.moved);
                    heap = sf.heap (but_drop n ms ts hp size pos hk' hh' ok.state.heaped);
                  };
                };
                slots = slots_put (λ q m c h z. q < n → m ≢ 0 → SlotOk m c h z) u₁ (put_none cs p) (put_none hs p) (put_none ps p)
                    (λ q i. ok.slots q) (λ i j. absurd (j refl));
                lone = λ q l m i. alone n hn ok q l m;
                unused = unused_put n ms (set ms p 0) p 0 (root n hn ok) u₁ ok.unused;
              }

          kept_closed : (n : ℕ) → n ≤ 256 → Keeps⁺ n window ms₀ ts₀ cs₀ hs₀ ps₀ size ms ts cs hs hp ps
              → (q : ℕ) → q < n → get_or (set ms p 0) q 0 ≢ 0
              → Later (kept_at window ms₀ cs₀ hs₀ ps₀ q) (kept_at window (set ms p 0) cs hs ps q)
          kept_closed n hn x =
              slots_put (λ q m c h z. q < n → m ≢ 0 → Later (kept_at window ms₀ cs₀ hs₀ ps₀ q) (kept_of window q m c h z))
              (put_set ms p 0 (omega (arith, roomy.0.1, root n hn x.sound))) (put_none cs p) (put_none hs p) (put_none ps p) (λ q i. x.kept q) (λ i j. absurd (j refl))

          -- the root's stream has ended
          pub step_ended⁺ : r₀ ≡ ended → length hq ≡ length (set hp 0 (at hp (size - 1)))
              → Going⁺ window held ms₀ ts₀ cs₀ hs₀ hp₀ ps₀ (size - 1) (set ms p 0) ts cs hs hq ps
          step_ended⁺ d long =
              record {
                marks = length-set ms p 0 ∙ g.marks;
                times = g.times;
                places = g.places;
                heads = g.heads;
                heap = long ∙ length-set hp 0 (at hp (size - 1)) ∙ g.heap;
                spans = g.spans;
                few = omega (arith, g.few);
                still = λ v. absurd (known (not_known (want v)));
                keeps = λ n hn z.
                    let x = g.keeps n hn z in
                    let ok = x.sound in
                    let r : p < n = root n hn ok in
                    let fst = (ch n hn ok).some r cs hs in
                    record {
                      sound = closed n hn ok;
                      same = ap (next⁺ kn) (gone_set n ms ts cs hs p r (enough n hn))
                          ∙ sym (rule_ended⁺ kn (ss n) fst.0 p fst.1 (get_or ts p 0) (get_or cs p 0)
                          (waits_at n ms ts cs hs p r w) (reads n hn x ∙ found ∙ ap some d))
                          ∙ x.same;
                      kept = kept_closed n hn x;
                    };
              }

          -- it is damaged
          pub step_damaged⁺ : (k : ℕ) → r₀ ≡ damaged k
              → Done⁺ window held ms₀ ts₀ cs₀ hs₀ hp₀ ps₀ (answer 13 (p ∷ get_or cs p 0 ∷ k ∷ [])) (size - 1) (set ms p 0) ts cs hs hq ps
          unfolding feed_of rest⁺ counted turn_answer
          step_damaged⁺ k d = record {
            fewer = omega (arith, g.few);
            says = λ n hn z.
                let x = g.keeps n hn z in
                let ok = x.sound in
                let r : p < n = root n hn ok in
                let fst = (ch n hn ok).some r cs hs in
                says_by (answer 13 (p ∷ get_or cs p 0 ∷ k ∷ [])) (replies (says p (damage_at (get_or cs p 0) k)) (set (ss n) p gone))
                (sym x.same
                ∙ rule_damaged⁺ kn (ss n) fst.0 p fst.1 (get_or ts p 0) (get_or cs p 0) k
                (waits_at n ms ts cs hs p r w) (reads n hn x ∙ found ∙ ap some d))
                (sym (gone_set n ms ts cs hs p r (enough n hn)))
                (kept_closed n hn x)
                (alone n hn ok)
                (closed n hn ok)
                (λ al. refl);
            needs = needs_not (λ q i. let z : ◌≡◌ {A = ℕ} 13 0 = cc in omega arith) (λ v. known (not_known (want v)));
          }

        -- it stands at a record now
        pub step_whole⁺ : (l t : ℕ) → r₀ ≡ whole (l % 65536) (l / 65536 % 65536) (l / 4294967296) t → {hq : List ℕ} → Sifted (set ts p t) size 0 hp hq → length hq ≡ length hp
            → Going⁺ window held ms₀ ts₀ cs₀ hs₀ hp₀ ps₀ size (set ms p 2) (set ts p t) cs (set hs p l) hq (set ps p less)
        unfolding rec_in
        step_whole⁺ l t is {hq} sf long =
            record {
              marks = length-set ms p 2 ∙ g.marks;
              times = length-set ts p t ∙ g.times;
              places = g.places;
              heads = length-set hs p l ∙ g.heads;
              heap = long ∙ g.heap;
              spans = length-set ps p less ∙ g.spans;
              few = g.few;
              still = λ v. absurd (known (not_known (want v)));
              keeps = λ n hn z.
                  let x = g.keeps n hn z in
                  let ok = x.sound in
                  let r : p < n = root n hn ok in
                  let u₁ = put_set ms p 2 (omega (arith, roomy.0.1)) in
                  let u₂ = put_none cs p in
                  let u₃ = put_set hs p l (omega (arith, roomy.0.4)) in
                  let u₄ = put_set ps p less (omega (arith, roomy.1)) in
                  let fst = (ch n hn ok).some r cs hs in
                  let c₀ : counts 2 l ≡ 0 = counts_none 2 l (λ i. omega arith) in
                  let read : kn p (get_or cs p 0) ≡ some (whole (l % 65536) (l / 65536 % 65536) (l / 4294967296) t) = reads n hn x
                  ∙ found ∙ ap some is in
                  let fill : l % 65536 ≤ less / 65536 % 65536 = whole_fits n hn x l t (found ∙ ap some is) in
                  let sl : SlotOk 2 (get_or cs p 0) l less =
                  slot_dropped 2 (get_or cs p 0) (get_or hs p 0) l (get_or ps p 0) (slot₁ n hn x) c₀ fill in
                  record {
                    sound = record {
                      state = record {
                        small = slots_put (λ q m c h z. q < n → c + h % 65536 < 2 ^ 64) u₁ u₂ u₃ u₄ (λ q i. ok.state.small q)
                            (λ i. omega (arith, sl.most, sl.fits, c₀));
                        heaped = record {
                          holds = holds_moved (holds_kind p 2 (omega (arith, roomy.0.1)) (live n hn ok) (λ z. omega arith) ok.state.heaped.holds) sf.moved;
                          heap = sf.heap (rw e (but_key n ms ts hp size t pos ok.state.heaped));
                        };
                      };
                      slots = slots_put (λ q m c h z. q < n → m ≢ 0 → SlotOk m c h z) u₁ u₂ u₃ u₄ (λ q i. ok.slots q) (λ i j. sl);
                      lone = λ q i j z. slots_put (λ q m c h z. q < n → m ≡ 1 → h % 65536 ≡ 0) u₁ u₂ u₃ u₄
                          (λ q i l m. ok.lone q l m (λ z. i (z ∙ sym e))) (λ i j. absurd (omega arith)) q i j;
                      unused = unused_put n ms (set ms p 2) p 2 r u₁ ok.unused;
                    };
                    same = ap (next⁺ kn) (stand_set n ms ts cs hs p r (enough n hn) t l)
                        ∙ sym (rule_whole⁺ kn (ss n) fst.0 p fst.1 (get_or ts p 0) (get_or cs p 0)
                        (l % 65536) (l / 65536 % 65536) (l / 4294967296) t (waits_at n ms ts cs hs p r w) read)
                        ∙ x.same;
                    kept = slots_put (λ q m c h z. q < n → m ≢ 0
                        → Later (kept_at window ms₀ cs₀ hs₀ ps₀ q) (kept_of window q m c h z)) u₁ u₂ u₃ u₄
                        (λ q i. x.kept q) (λ i j. later_fresh n hn x 2 l c₀);
                  };
            }
