-- What is lent of a name list lies within the memory that holds it.
use Rattle.std.specs.Prelude.{ℕ, ◌≤◌}
use Rattle.vectors_builds.specs.declared.calls.Names.{Names}

pub record Listed (n : Names) (bytes ends : ℕ) : Type 0 where
  pub in_bytes : n.bytes ≤ bytes
  pub in_ends : n.ends ≤ ends
