-- What annotations say of the points holds on every way.
use Rattle.std.proofs.Common.{◌≡◌, ℕ, ◌||◌, Bool, true, false, IsTrue, List, refl, sym, ◌∙◌}
use Rattle.sw_graph.specs.declared.function.Function.{Function}
use Rattle.sw_graph.specs.Points.{point_in}
use Rattle.sw_graph.specs.Ways.{Way, begin, further}
use Rattle.sw_graph.specs.Annotations.{ReachesReturns, StoresBefore}
use Rattle.sw_graph.specs.Stores.{has_stored, point_stores, StoresFirst}
use Rattle.sw_graph.specs.Supplied.{ReturnsResult}
use Rattle.sw_graph.specs.Sure as sure
use Rattle.sw_graph.specs.Sure.{SureWay}

reached_by : (function : Function) (reached : ℕ → Bool) → ReachesReturns function reached
    → (p : ℕ) (passed : List ℕ) → SureWay function p passed → IsTrue (reached p)
reached_by function reached is p passed sure.begin = is.starts
reached_by function reached is p passed (sure.further before q earlier way leads) =
    is.leads before p leads (reached_by function reached is before earlier way)

pub returns_result : (function : Function) (reached : ℕ → Bool) → ReachesReturns function reached
    → ReturnsResult function
returns_result function reached is p passed way here =
    is.returns p (reached_by function reached is p passed way) here

or_more : (a b c : Bool) → IsTrue (a || b) → (IsTrue b → IsTrue c) → IsTrue (a || c)
or_more true b c holds more = refl
or_more false b c holds more = more holds

stored_by : (g : ℕ) (function : Function) (stored : ℕ → Bool) → StoresBefore g function stored
    → (p : ℕ) (passed : List ℕ) → Way function p passed → IsTrue (stored p)
    → IsTrue (has_stored function passed g)
stored_by g function stored is p passed begin holds =
    let wrong : false ≡ true = sym is.starts ∙ holds in cc
stored_by g function stored is p passed (further before q earlier way leads) holds =
    or_more (point_stores g (point_in function before)) (stored before)
    (has_stored function earlier g) (is.leads before p leads holds)
    (stored_by g function stored is before earlier way)

pub stores_first : (g : ℕ) (function : Function) (stored : ℕ → Bool)
    → StoresBefore g function stored → StoresFirst g function
stores_first g function stored is p passed s way here =
    stored_by g function stored is p passed way (is.returns p s here)
