-- Loop: `Scan` over the first p streams, and the best one's time. Assumes nothing.
use Rattle.std.specs.Prelude.{◌≡◌, refl, ℕ, ◌≤◌, ◌<◌, true, false, Option, Some, None, unwrap_or, get_or}
use Rattle.std.proofs.Common.{sym, ap, ◌∙◌, arith, true≢false}
use Rattle.std.proofs.lemmas.Bool.{ltb-true, ltb-false}
use Rattle.std.specs.Option.{is_some}
use Rattle.records_plain.specs.Scan.{scan_gone, scan_new, scan_stays, scan_done}
use Rattle.records_plain.proofs.plain.least.Goals.{then-marks-p-ne-GONE+then-times-p, then-is_none, else-is_none, else-marks-p-ne-GONE, else-marks-p-ne-GONE-via-then-marks-p-ne-GONE+else-times-p, else-marks-p-ne-GONE-via-else-marks-p-ne-GONE}
use Rattle.records_plain.proofs.plain.least.Goals as goal

nobody : (b : Option ℕ) (n : ℕ) → is_some b ≡ false → unwrap_or b n ≡ n
nobody None n e = refl
nobody (Some q) n e = absurd (true≢false e)

somebody : (b : Option ℕ) → is_some b ≡ true → (q : ℕ) × (b ≡ Some q)
somebody None e = absurd (true≢false (sym e))
somebody (Some q) e = (q, refl)

pub loop-p-preserved : goal.loop-p-preserved
loop-p-preserved c =
    let i = c.loop-p.invariant in
    let s = c.args.state.now in
    let p = c.loop-p.p in
    let r = unwrap_or c.loop-p.best s.held in
    elim c.if-marks-p-ne-GONE.branch [
      | then-marks-p-ne-GONE+then-times-p w ↦
          let less : r < s.held → get_or s.times.now p 0 < get_or s.times.now r 0 = λ l.
          elim w.if-is_none.branch [
            | then-is_none v ↦ absurd (omega (arith, l, nobody c.loop-p.best s.held v.if-is_none.ensures))
            | else-is_none v ↦
                let b = somebody c.loop-p.best v.if-is_none.ensures in
                let e : r ≡ b.0 = ap (λ (o : Option ℕ). unwrap_or o s.held) b.1 in
                rw e (rw (i.timed b.0 b.1) at (ltb-true _ _ (sym v.value-is ∙ w.if-times-p.true)))
          ] in
          record {
            scan = rw w.best-is (scan_new i.scan (omega arith) w.if-marks-p-ne-GONE.true less);
            below = λ q e. let z : q ≡ p = cc in omega arith;
            timed = λ q e. let z : q ≡ p = cc in rw z w.time-is;
            end = refl;
            within = omega arith;
          }
      | else-marks-p-ne-GONE w ↦ elim w.else-marks-p-ne-GONE.branch [
        | else-marks-p-ne-GONE-via-then-marks-p-ne-GONE+else-times-p v ↦ elim v.if-is_none.branch [
          | then-is_none u ↦ absurd (true≢false (sym (u.value-is ∙ u.if-is_none.true) ∙ v.if-times-p.false))
          | else-is_none u ↦
              let b = somebody c.loop-p.best u.if-is_none.ensures in
              let e : r ≡ b.0 = ap (λ (o : Option ℕ). unwrap_or o s.held) b.1 in
              let h : get_or s.times.now b.0 0 ≤ get_or s.times.now p 0 =
              rw (i.timed b.0 b.1) at (ltb-false _ _ (sym u.value-is ∙ v.if-times-p.false)) in
              record {
                scan = rw w.best-is (scan_stays i.scan (omega (arith, e, i.below b.0 b.1)) (rw e h));
                below = λ q z. omega (arith, i.below q (sym w.best-is ∙ z));
                timed = λ q z. w.time-is ∙ i.timed q (sym w.best-is ∙ z);
                end = refl;
                within = omega arith;
              }
        ]
        | else-marks-p-ne-GONE-via-else-marks-p-ne-GONE v ↦
            record {
              scan = rw w.best-is (scan_gone i.scan v.if-marks-p-ne-GONE.false);
              below = λ q z. omega (arith, i.below q (sym w.best-is ∙ z));
              timed = λ q z. w.time-is ∙ i.timed q (sym w.best-is ∙ z);
              end = refl;
              within = omega arith;
            }
      ]
    ]

pub returns-clause-chosen : goal.returns-clause-chosen
returns-clause-chosen c =
    let i = c.loop-p.invariant in
    let e : c.loop-p.p ≡ c.args.state.now.held = omega arith in
    scan_done (rw e at i.scan)
