-- The places lent of a side lie within the lists that hold it.
use Rattle.std.specs.Prelude.{◌≤◌, length}
use Rattle.metadata_form.specs.Header.{Lists}
use Rattle.vectors_side.specs.declared.Side.{Side}

pub record Within (a : Side) (l : Lists) : Type 0 where
  pub in_symbols : a.symbols ≤ length l.symbols
  pub in_partial : a.partial ≤ length l.partial
  pub in_not_found : a.not_found ≤ length l.not_found
  pub in_mappings : a.mappings ≤ length l.mappings
  pub in_intervals : a.intervals ≤ length l.intervals
