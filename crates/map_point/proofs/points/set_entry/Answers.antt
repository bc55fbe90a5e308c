-- The entry is stored over its instrument's, or at its place after the later ones have moved. Assumes nothing.
use native.Mathlib.Omega.{arith}
use Rattle.map_point.specs.PointsSteps.{held_within, stores_held, stores_full, stores_more}
use Rattle.map_point.proofs.points.set_entry.Goals as goal

pub put_entry-requires : goal.put_entry-requires
put_entry-requires c = held_within _ _ _ _ c.requires.0 c.holds.ensures c.if-holds.true

pub returns-then-holds : goal.returns-then-holds
returns-then-holds c =
    let p = stores_held _ _ _ _ c.requires.0 c.requires.1 c.place_of-place.ensures c.holds.ensures
    (λ k. omega (arith, c.slice_known-1.given k)) (record { instrument = omega arith; symbol = omega arith }) c.if-holds.true c.put_entry.ensures in
    record {
      answered = p.0;
      bytes = p.1.0;
      stored = p.1.1;
    }

pub returns-then-table-used : goal.returns-then-table-used
returns-then-table-used c =
    let p = stores_full _ _ _ _ c.requires.0 c.requires.1 c.place_of-place.ensures c.holds.ensures
    (λ k. omega (arith, c.slice_known-1.given k)) (record { instrument = omega arith; symbol = omega arith }) c.if-holds.false c.if-table-used.true in
    record {
      answered = p.0;
      bytes = p.1.0;
      stored = p.1.1;
    }

pub returns : goal.returns
returns c =
    let p = stores_more _ _ _ _ c.requires.0 c.requires.1 c.place_of-place.ensures
    c.holds.ensures
    (λ k. omega (arith, c.slice_known-1.given k)) (record { instrument = omega arith; symbol = omega arith })
    c.if-holds.false
    c.if-table-used.false
    c.move_up.ensures c.put_entry-2.ensures in
    record {
      answered = p.0;
      bytes = p.1.0;
      stored = p.1.1;
    }
