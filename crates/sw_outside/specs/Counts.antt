-- What a shelf over the system counts.
use Rattle.std.specs.Prelude.{ℕ}

pub record Counts : Type 0 where
  -- the number of bytes that the last fetch received
  pub received : ℕ
  -- the number of faults of the system
  pub faults : ℕ
