-- What each turn keeps.
use mathlib.Core.Path.{◌≡◌}
use Prim.Native.Nat.{ℕ, ◌<◌, ◌≤◌}
use Rattle.std.specs.Prelude.{Some, unwrap_or, get_or}
use Rattle.records_plain.specs.Scan.{Scan}
use Rattle.records_plain.proofs.plain.least.Given as goal

abbrev pub invariant-loop-p : goal.invariant-loop-p
invariant-loop-p l =
    record {
      scan : Scan l.state.held l.p l.state.marks.now l.state.times.now (unwrap_or l.best l.state.held);
      below : (q : ℕ) → l.best ≡ Some q → q < l.p;
      timed : (q : ℕ) → l.best ≡ Some q → l.time ≡ get_or l.state.times.now q 0;
      end : l.p-end ≡ l.state.held;
      within : l.p ≤ l.state.held;
    }
