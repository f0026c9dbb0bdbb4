-- Which numbers the cells and frames of a state may have as colours.
use Rattle.std.specs.Prelude.{◌<◌, ℕ, List, [], ◌∷◌, length}
use Rattle.std.specs.List.{All}
use Rattle.sw_color_rules.specs.declared.colors.Tint.{Tint}
use Rattle.sw_color_rules.specs.declared.colors.Tint.TheVariants.{Bare, Colored, Owns, Holds}
use Rattle.sw_color_rules.specs.declared.colors.Colors.{Colors}

-- the colours that are noted of a cell
abbrev pub noted : Tint → List ℕ
noted Bare = []
noted (Colored n) = n ∷ []
noted (Owns n) = n ∷ []
noted (Holds ns) = ns

-- these numbers are of the first `count` colours
abbrev pub AreBelow : ℕ → List ℕ → Type 0
AreBelow count ns = All (λ n. n < count) ns

-- Each colour that is noted of a cell or is a frame's `Here` was made.
pub record AreMade (colors : Colors) : Type 0 where
  pub cells : All (λ tint. AreBelow (length colors.palette.names) (noted tint)) colors.cells
  pub heres : All (AreBelow (length colors.palette.names)) colors.heres
