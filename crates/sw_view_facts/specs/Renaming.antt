-- Colours that become another one, everywhere.
use Rattle.std.specs.Prelude.{◌≡◌, ◌⊎◌, ℕ, ◌==◌, ◌&&◌, if◌then◌else◌, Some, List, [], ◌∷◌, map}
use Rattle.std.specs.Prelude.{slice_get, Contains}
use Rattle.std.specs.Option.{option_map}
use Rattle.sw_owner_facts.specs.Colours.{Colour, OfJob, OfActor}
use Rattle.sw_owner_facts.specs.View.{Element, View, HoldsLive, IsUnheld, InOneRegion}
use Rattle.sw_owner_facts.specs.View.{Frame as Spot}
use Rattle.sw_view_facts.specs.Views.{Colours}

-- a colour of a job becomes `kept`
abbrev pub renames : ℕ → ℕ → Colour → Colour → Colour
renames job number kept (OfJob j n) = if (j == job) && (n == number) then kept else OfJob j n
renames job number kept (OfActor a) = OfActor a

abbrev pub recoloured_by : (Colour → Colour) → Colours → Colours
recoloured_by f colours = record {
  cells = map (option_map f) colours.cells;
  heres = map (map f) colours.heres;
}

-- several colours of a job become `kept`, one after the other
abbrev pub united : ℕ → List ℕ → Colour → Colours → Colours
united job [] kept colours = colours
united job (n ∷ ns) kept colours =
    united job ns kept (recoloured_by (renames job n kept) colours)

-- each frame has a colour for its `Here`
pub record HasHere (colours : Colours) (p : Spot) : Type 0 where
  pub row : List Colour
  pub rows : slice_get colours.heres p.job ≡ Some row
  pub colour : Colour
  pub at : slice_get row p.depth ≡ Some colour

-- A colour of q's job may become `kept`, which y holds: it is that, or nothing live holds it, or
-- something does that is together with y.
abbrev pub MayUnite : View → Spot → Element → Colour → ℕ → Type 0
MayUnite w q y kept n = (kept ≡ OfJob q.job n)
    ⊎ (IsUnheld w (OfJob q.job n)
    ⊎ ((x : Element) × HoldsLive w q x (OfJob q.job n) × InOneRegion w q x y))

-- each colour of the list is this one, or the job's own
abbrev pub AllButOne : Spot → Colour → List Colour → Type 0
AllButOne p kept cs = (c : Colour) → Contains cs c → (c ≡ kept) ⊎ ((n : ℕ) × (c ≡ OfJob p.job n))
