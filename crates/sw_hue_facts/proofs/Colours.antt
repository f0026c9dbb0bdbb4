-- Colours can be told apart, and numbers renamed in a palette rename what is coloured by them.
use Rattle.std.proofs.Common.{◌≡◌, ◌⊎◌, ℕ, Option, Some, List, [], ◌∷◌, map, Contains, refl}
use Rattle.std.proofs.Common.{ap, ◌∙◌, inl, inr}
use Rattle.std.specs.Option.{option_map}
use Rattle.std.proofs.lemmas.Bool.{cases_eq}
use Rattle.sw_color_rules.specs.declared.colors.Colors.{Colors}
use Rattle.sw_color_rules.specs.declared.colors.Palette.{Palette}
use Rattle.sw_color_rules.specs.declared.colors.Tint.{Tint}
use Rattle.sw_color_rules.specs.declared.colors.Tint.TheVariants.{Bare, Colored, Owns, Holds}
use Rattle.sw_color_rules.specs.Tints.{color_by}
use Rattle.sw_late_facts.specs.Hues.{hue}
use Rattle.sw_owner_facts.specs.Colours.{Actor, Colour, GlobalActor, Instance, OfActor, OfJob}
use Rattle.sw_view_facts.specs.Renaming.{recoloured_by}
use Rattle.sw_view_facts.proofs.RenameLemmas.{cases_colour}
use Rattle.sw_hue_facts.specs.Hued.{cell_hue, hued}
use Rattle.sw_hue_facts.proofs.Lists.{is_among}

cases_actor : (a b : Actor) → (a ≡ b) ⊎ (a ≡ b → ⊥)
cases_actor (Instance c) (Instance d) = elim (cases_eq c d) [
  | inl same ↦ inl (ap Instance same)
  | inr differ ↦ inr (λ e. differ (let same : c ≡ d = cc in same))
]
cases_actor (GlobalActor c) (GlobalActor d) = elim (cases_eq c d) [
  | inl same ↦ inl (ap GlobalActor same)
  | inr differ ↦ inr (λ e. differ (let same : c ≡ d = cc in same))
]
cases_actor (Instance c) (GlobalActor d) = inr (λ e. let clash : ⊥ = cc in clash)
cases_actor (GlobalActor c) (Instance d) = inr (λ e. let clash : ⊥ = cc in clash)

pub cases_same : (c d : Colour) → (c ≡ d) ⊎ (c ≡ d → ⊥)
cases_same c (OfJob job n) = cases_colour c job n
cases_same (OfJob job n) (OfActor b) = inr (λ e. let clash : ⊥ = cc in clash)
cases_same (OfActor a) (OfActor b) = elim (cases_actor a b) [
  | inl same ↦ inl (ap OfActor same)
  | inr differ ↦ inr (λ e. differ (let same : a ≡ b = cc in same))
]

pub cases_among : (c : Colour) (cs : List Colour) → Contains cs c ⊎ (Contains cs c → ⊥)
cases_among c cs = is_among c cs (λ d. cases_same d c)

-- palettes that show the same hues
pub hued_alike : (colors : Colors) (q : Palette) → ((n : ℕ) → hue q n ≡ hue colors.palette n)
    → hued (record colors { palette = q }) ≡ hued colors
hued_alike colors q same =
    ap (λ (h : ℕ → Colour). record {
      cells = map (λ tint. option_map h (color_by tint)) colors.cells;
      heres = map (map h) colors.heres;
    }) (λ i n. same n i)

-- where hues are renamed, so are the colours of a state
module _ (colors : Colors) (q : Palette) (f : Colour → Colour)
    (renamed : (n : ℕ) → hue q n ≡ f (hue colors.palette n)) where
  cell_renamed : (tint : Tint)
      → cell_hue q tint ≡ option_map f (cell_hue colors.palette tint)
  cell_renamed Bare = refl
  cell_renamed (Colored n) = ap (λ c. Some c) (renamed n)
  cell_renamed (Owns n) = refl
  cell_renamed (Holds ns) = refl

  pub cells_renamed : (tints : List Tint)
      → map (cell_hue q) tints ≡ map (option_map f) (map (cell_hue colors.palette) tints)
  cells_renamed [] = refl
  cells_renamed (tint ∷ tints) =
      ap (λ o. o ∷ map (cell_hue q) tints) (cell_renamed tint)
      ∙ ap (λ os. option_map f (cell_hue colors.palette tint) ∷ os) (cells_renamed tints)

  pub row_renamed : (ns : List ℕ) → map (hue q) ns ≡ map f (map (hue colors.palette) ns)
  row_renamed [] = refl
  row_renamed (n ∷ ns) =
      ap (λ c. c ∷ map (hue q) ns) (renamed n)
      ∙ ap (λ cs. f (hue colors.palette n) ∷ cs) (row_renamed ns)

  rows_renamed : (rows : List (List ℕ))
      → map (map (hue q)) rows ≡ map (map f) (map (map (hue colors.palette)) rows)
  rows_renamed [] = refl
  rows_renamed (row ∷ rows) =
      ap (λ cs. cs ∷ map (map (hue q)) rows) (row_renamed row)
      ∙ ap (λ l. map f (map (hue colors.palette) row) ∷ l) (rows_renamed rows)

  pub hued_renamed : hued (record colors { palette = q }) ≡ recoloured_by f (hued colors)
  hued_renamed =
      ap (λ (cs : List (Option Colour)). record {
        cells = cs;
        heres = map (map (hue q)) colors.heres;
      })
      (cells_renamed colors.cells)
      ∙ ap (λ (hs : List (List Colour)). record {
        cells = map (option_map f) (map (cell_hue colors.palette) colors.cells);
        heres = hs;
      }) (rows_renamed colors.heres)
