-- The region state at the entry of a function (SE-0414, SE-0430).
use Rattle.std.specs.Prelude.{◌≡◌, ℕ, ◌+◌, ◌<◌, ◌↔◌, ◌⊎◌, Bool, if◌then◌else◌, Option, Some, None}
use Rattle.std.specs.Prelude.{List, [], ◌∷◌, ◌++◌, length, Contains}
use Rattle.sw_graph.specs.declared.function.Function.{Function}
use Rattle.sw_graph.specs.declared.graph.Graph.{Graph}
use Rattle.sw_partition.specs.Regions.{Regions, Together, HasPair}
use Rattle.sw_region_ops.specs.Elements.{element_at, element_count}
use Rattle.sw_region_ops.specs.Setting.{FunctionSetting, setting_of}
use Rattle.sw_region_ops.specs.Sites.{AreSites}

-- one element or none
abbrev pub listed : Option ℕ → List ℕ
listed (Some x) = x ∷ []
listed None = []

-- the elements of the registers from k on that a function takes and that aren't `sending`
abbrev pub lent_from : List (Option ℕ) → ℕ → List Bool → List ℕ
lent_from elements k [] = []
lent_from elements k (sends ∷ sending) =
    (if sends then [] else listed (element_at elements k)) ++ lent_from elements (k + 1) sending

-- `Here` and the elements that a function is lent: its captures, and its parameters that aren't
-- `sending`
abbrev pub here_at_entry : FunctionSetting → List ℕ
here_at_entry setting = 0 ∷ lent_from setting.elements 0 setting.body.sending

-- x and y are one of the elements, or both are among those that are together
abbrev pub AreMet : ℕ → List ℕ → ℕ → ℕ → Type 0
AreMet count met x y = ((x ≡ y) × (x < count)) ⊎ (Contains met x × Contains met y)

-- these elements are together, each other one is alone, and there are no pairs
pub record IsMet (count : ℕ) (sites met : List ℕ) (r : Regions) : Type 0 where
  pub elements_are : length r.labels ≡ count
  pub sites_are : r.sites ≡ sites
  pub together : (x y : ℕ) → Together r x y ↔ AreMet count met x y
  pub no_pairs : (x site : ℕ) → ¬ (HasPair r x site)

-- the state at the entry of a function: what it is lent is with `Here`
abbrev pub IsEntry : FunctionSetting → List ℕ → Regions → Type 0
IsEntry setting sites r =
    IsMet (element_count setting.elements) sites (here_at_entry setting) r

-- the state at the entry of a function of a graph, over the sites at which the function gives
-- elements away
pub record IsEntryOf (graph : Graph) (body : Function) (r : Regions) : Type 0 where
  pub sites : AreSites (setting_of graph body) r.sites
  pub entry : IsEntry (setting_of graph body) r.sites r
