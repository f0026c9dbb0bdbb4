-- A type that there isn't may not cross.
use Rattle.std.proofs.Common.{◌≡◌, ◌≤◌, ℕ, false, List, length}
use Rattle.sw_types.proofs.DepthLemmas.{of_shape-beyond}
use Rattle.sw_types.specs.Sendable.{sends_at, shape_sends}
use Rattle.sw_types.specs.declared.shape.Shape.{Shape}

pub sends_beyond : (shapes : List Shape) (k : ℕ) → length shapes ≤ k → sends_at shapes k ≡ false
sends_beyond shapes k le = of_shape-beyond false shape_sends shapes k le
