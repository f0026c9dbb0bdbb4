-- Which values may not cross, as the code finds them.
use Rattle.std.specs.Prelude.{◌≡◌, ℕ, Bool, not, List, nat_eq, option_map}
use Rattle.std.specs.List.{list_any}
use Rattle.indexmap.specs.IndexMap.{IndexMap, get}
use Rattle.sw_types.specs.Sendable.{is_sendable}
use Rattle.sw_types.specs.declared.shape.Shape.{Shape}
use Rattle.sw_types.specs.declared.ty.Ty.{Ty}
use Rattle.sw_types.specs.declared.ty.Ty.TheVariants as types
use Rattle.sw_isolation_rules.specs.Races.{shape_from}

-- one of the types isn't Sendable
abbrev pub any_unsent : List Shape → List Ty → Bool
any_unsent shapes types = list_any (λ ty. not (is_sendable shapes ty)) types

-- the table has the numbers of types by the keys of their words
abbrev pub AreTypeNumbers : {S : Type 0} → List Shape → IndexMap ℕ ℕ S → Type 0
AreTypeNumbers shapes numbers =
    (key : ℕ) → option_map types.Named (get nat_eq numbers key) ≡ shape_from 0 shapes key
