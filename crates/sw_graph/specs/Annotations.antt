-- Annotations of a function's points, which show what holds on every way.
use Rattle.std.specs.Prelude.{◌≡◌, ℕ, Bool, false, ◌||◌, IsTrue, Option, Some, None}
use Rattle.sw_types.specs.declared.ty.Ty.TheVariants.{Unit as Void}
use Rattle.sw_graph.specs.declared.function.Function.{Function}
use Rattle.sw_graph.specs.declared.instr.Last.TheVariants.{Return}
use Rattle.sw_graph.specs.declared.instr.Operand.{Operand}
use Rattle.sw_graph.specs.Points.{End, point_in}
use Rattle.sw_graph.specs.Ways.{Leads}
use Rattle.sw_graph.specs.Stores.{point_stores}
use Rattle.sw_graph.specs.Sure.{SureLeads}

-- The points that are reached: the first one, and with a point those that it leads to, but by no
-- side of a branch that a constant rules out. A return of nothing that is reached stands in a
-- function that gives nothing.
pub record ReachesReturns (function : Function) (reached : ℕ → Bool) : Type 0 where
  pub starts : IsTrue (reached 0)
  pub leads : (p q : ℕ) → SureLeads function p q → IsTrue (reached p) → IsTrue (reached q)
  pub returns : (p : ℕ) → IsTrue (reached p)
      → point_in function p ≡ Some (End (Return None)) → function.result ≡ Void

-- The points at which global g was stored: not at the first, and after a point only where it was
-- stored there or before. Each return is one.
pub record StoresBefore (g : ℕ) (function : Function) (stored : ℕ → Bool) : Type 0 where
  pub starts : stored 0 ≡ false
  pub leads : (p q : ℕ) → Leads function p q → IsTrue (stored q)
      → IsTrue (point_stores g (point_in function p) || stored p)
  pub returns : (p : ℕ) (value : Option Operand) → point_in function p ≡ Some (End (Return value))
      → IsTrue (stored p)
