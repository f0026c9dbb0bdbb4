-- Tints that fit go on to fit where hues are renamed, colours are made, and frames change.
use Rattle.std.proofs.Common.{◌≡◌, ◌⊎◌, ◌<◌, ℕ, Some, List, [], ◌∷◌, length, map, flat_map}
use Rattle.std.proofs.Common.{Contains, refl, sym, subst, ap, ◌∙◌}
use Rattle.std.proofs.lemmas.List.Elements.{All-head, All-tail}
use Rattle.sw_list.proofs.Members.{flat_map_same, map-flat_map}
use Rattle.sw_graph.specs.declared.graph.Graph.{Graph}
use Rattle.sw_value.specs.declared.cell.HeapCell.{HeapCell}
use Rattle.sw_value.specs.declared.value.Value.{Value}
use Rattle.sw_color_rules.specs.declared.colors.Colors.{Colors}
use Rattle.sw_color_rules.specs.declared.colors.Owner.{Owner}
use Rattle.sw_color_rules.specs.declared.colors.Palette.{Palette}
use Rattle.sw_color_rules.specs.declared.colors.Tint.{Tint}
use Rattle.sw_color_rules.specs.declared.colors.Tint.TheVariants.{Owns, Holds}
use Rattle.sw_color_rules.specs.Changes.{Begin, Fresh, Pop, Push, after_change, after_changes}
use Rattle.sw_color_rules.specs.Changes.{begin_heres, on_palette, pop_here, push_here}
use Rattle.sw_color_rules.specs.Palette.{IsWhole, fresh, hand_over}
use Rattle.sw_color_rules.specs.Plans.{merges}
use Rattle.sw_color_rules.specs.Ranges.{AreBelow, AreMade, noted}
use Rattle.sw_color_rules.proofs.NumberLemmas.{all_there}
use Rattle.sw_late_facts.specs.Hues.{hue}
use Rattle.sw_late_facts.specs.Late.{givings}
use Rattle.sw_late_facts.proofs.HueLemmas.{fresh_stays, handed_goes, handed_stays}
use Rattle.sw_owner_facts.specs.Colours.{Actor, Colour, Instance, OfActor, OfJob}
use Rattle.sw_owner_facts.specs.View.{Frame as Spot}
use Rattle.sw_reach_facts.specs.Reached.{colours_of}
use Rattle.sw_reach_facts.proofs.RenamedLemmas.{colours_renamed}
use Rattle.sw_secure_facts.specs.Painting.{MayUnite}
use Rattle.sw_view_facts.specs.Renaming.{renames}
use Rattle.sw_view_facts.specs.Views.{Colours}
use Rattle.sw_hue_facts.specs.Hued.{SameColours, hued, hues_of}
use Rattle.sw_hue_facts.specs.Tinted.{TintsFit}
use Rattle.sw_hue_facts.proofs.Colours.{cells_renamed, row_renamed}
use Rattle.sw_hue_facts.proofs.Counts.{handed_count, handed_whole}
use Rattle.sw_hue_facts.proofs.Handing.{givings_are, hand_all, renaming}
use Rattle.sw_hue_facts.proofs.Lists.{map_all}
use Rattle.sw_hue_facts.proofs.Made.{fresh_made}
use Rattle.sw_hue_facts.proofs.Merging.{merge_all}
use Rattle.sw_hue_facts.proofs.Same.{same_lists, same_renamed, same_through}
use Rattle.sw_hue_facts.proofs.Uniting.{merges_are, merges_rename}

-- ---- hues are renamed
module _ (graph : Graph) (cells : List HeapCell) (colors : Colors) (q : Palette)
    (f : Colour → Colour) (renamed : (n : ℕ) → hue q n ≡ f (hue colors.palette n))
    (stay : (a : Actor) → f (OfActor a) ≡ OfActor a) where
  abbrev next : Colors
  next = record colors { palette = q }

  captured : (vs : List Value) → flat_map (colours_of cells (hued next).cells) vs
      ≡ map f (flat_map (colours_of cells (hued colors).cells) vs)
  captured vs =
      flat_map_same (colours_of cells (hued next).cells)
      (λ v. map f (colours_of cells (hued colors).cells v)) vs
      (λ v has. ap (λ hues. colours_of cells hues v) (cells_renamed colors q f renamed colors.cells)
      ∙ colours_renamed f cells (hued colors).cells v)
      ∙ sym (map-flat_map f (colours_of cells (hued colors).cells) vs)

  pub tints_renamed : TintsFit graph cells colors → TintsFit graph cells next
  tints_renamed fit = record {
    count = fit.count;
    each = λ c cell tint there at.
        let old = fit.each c cell tint there at in
        record {
          coloured = old.coloured;
          bare = old.bare;
          owns = λ k parts is.
              let own = old.owns k parts is in
              (own.0, own.1, renamed own.0 ∙ ap f own.2 ∙ stay (Instance c));
          holds = λ g vs is free.
              let held = old.holds g vs is free in (
                held.0,
                held.1,
                same_through (hues_of q held.0) (map f (hues_of colors.palette held.0))
                    (flat_map (colours_of cells (hued next).cells) vs)
                    (same_lists _ _ (row_renamed colors q f renamed held.0))
                    (same_through (map f (hues_of colors.palette held.0))
                    (map f (flat_map (colours_of cells (hued colors).cells) vs))
                    (flat_map (colours_of cells (hued next).cells) vs)
                    (same_renamed f _ _ held.2) (same_lists _ _ (sym (captured vs)))),
              );
        };
  }

module _ (graph : Graph) (cells : List HeapCell) where
  pub tints_merged : (q : Spot) (n : ℕ) (ms : List ℕ) (colors : Colors) → IsWhole colors.palette
      → AreBelow (length colors.palette.names) (n ∷ ms)
      → MayUnite q (hues_of colors.palette (n ∷ ms))
      → ((m : ℕ) → Contains (n ∷ ms) m → ((a : Actor) × (hue colors.palette m ≡ OfActor a))
      ⊎ ((l : ℕ) × (hue colors.palette m ≡ OfJob q.job l)))
      → TintsFit graph cells colors → TintsFit graph cells (after_changes (merges (n ∷ ms)) colors)
  tints_merged q n ms colors whole below may ours fit =
      let renames = merges_rename q n ms colors whole below may ours in
      subst (TintsFit graph cells) (sym (merges_are n ms colors))
      (tints_renamed graph cells colors (merge_all n ms colors.palette) renames.0 renames.2
      renames.1
      fit)

  handed_once : (n heir : ℕ) (colors : Colors) → IsWhole colors.palette
      → n < length colors.palette.names → TintsFit graph cells colors
      → TintsFit graph cells (on_palette (hand_over n heir) colors)
  handed_once n heir colors whole inside fit = by (hue colors.palette n) refl where
    by : (c : Colour) → hue colors.palette n ≡ c
        → TintsFit graph cells (on_palette (hand_over n heir) colors)
    by (OfActor a) is = tints_renamed graph cells colors (hand_over n heir colors.palette) (λ c. c)
        (handed_stays n heir colors.palette whole a is) (λ b. refl) fit
    by (OfJob j l) is = tints_renamed graph cells colors (hand_over n heir colors.palette)
        (renames j l (OfJob heir l))
        (λ m. renaming j l (OfJob heir l) (hue colors.palette m)
        (hue (hand_over n heir colors.palette) m)
        (handed_goes n heir colors.palette whole inside j l is m)) (λ b. refl) fit

  handed_all : (heir : ℕ) (ns : List ℕ) (colors : Colors) → IsWhole colors.palette
      → AreBelow (length colors.palette.names) ns → TintsFit graph cells colors
      → TintsFit graph cells (on_palette (hand_all heir ns) colors)
  handed_all heir [] colors whole below fit = fit
  handed_all heir (n ∷ ns) colors whole below fit =
      handed_all heir ns (on_palette (hand_over n heir) colors)
      (handed_whole n heir colors.palette whole)
      (subst (λ count. AreBelow count ns) (sym (handed_count n heir colors.palette))
      (All-tail (λ m. m < length colors.palette.names) n ns below))
      (handed_once n heir colors whole (All-head (λ m. m < length colors.palette.names) n ns below)
      fit)

  pub tints_handed : (heir : ℕ) (ns : List ℕ) (colors : Colors) → IsWhole colors.palette
      → AreBelow (length colors.palette.names) ns → TintsFit graph cells colors
      → TintsFit graph cells (after_changes (givings (Some heir) ns) colors)
  tints_handed heir ns colors whole below fit =
      subst (TintsFit graph cells) (sym (givings_are heir ns colors))
      (handed_all heir ns colors whole below fit)

  -- ---- a colour is made
  module _ (owner : Owner) (colors : Colors) (whole : IsWhole colors.palette)
      (made : AreMade colors) (fit : TintsFit graph cells colors) where
    abbrev count : ℕ
    count = length colors.palette.names

    abbrev q : Palette
    q = fresh owner colors.palette

    abbrev before : List Value → List Colour
    before vs = flat_map (colours_of cells (hued colors).cells) vs

    abbrev after : List Value → List Colour
    after vs = flat_map (colours_of cells (hued (after_change colors (Fresh owner))).cells) vs

    -- what is noted in a tint was made
    below_as : (tint other : Tint) → tint ≡ other → AreBelow count (noted tint)
        → AreBelow count (noted other)
    below_as tint other is below = subst (λ t. AreBelow count (noted t)) is below

    owned : (n : ℕ) (tint : Tint) → tint ≡ Owns n → AreBelow count (noted tint)
        → hue q n ≡ hue colors.palette n
    owned n tint is below = fresh_stays owner colors.palette whole n
        (All-head (λ m. m < count) n [] (below_as tint (Owns n) is below))

    held_hues : (ns : List ℕ) (tint : Tint) → tint ≡ Holds ns → AreBelow count (noted tint)
        → hues_of q ns ≡ hues_of colors.palette ns
    held_hues ns tint is below = map_all (λ n. n < count) (hue q) (hue colors.palette) ns
        (fresh_stays owner colors.palette whole) (below_as tint (Holds ns) is below)

    after_same : (vs : List Value) → after vs ≡ before vs
    after_same vs = ap (λ (h : Colours). flat_map (colours_of cells h.cells) vs)
        (fresh_made owner colors whole made).0

    holds_on : (ns : List ℕ) (vs : List Value) → hues_of q ns ≡ hues_of colors.palette ns
        → SameColours (hues_of colors.palette ns) (before vs)
        → SameColours (hues_of q ns) (after vs)
    holds_on ns vs same held =
        same_through (hues_of q ns) (hues_of colors.palette ns) (after vs) (same_lists _ _ same)
        (same_through (hues_of colors.palette ns) (before vs) (after vs) held
        (same_lists _ _ (sym (after_same vs))))

    pub tints_before : TintsFit graph cells (after_change colors (Fresh owner))
    tints_before = record {
      count = fit.count;
      each = λ c cell tint there at.
          let old = fit.each c cell tint there at in
          let below = all_there (λ t. AreBelow count (noted t)) colors.cells c tint at made.cells in
          record {
            coloured = old.coloured;
            bare = old.bare;
            owns = λ k parts is.
                let own = old.owns k parts is in
                (own.0, own.1, owned own.0 tint own.1 below ∙ own.2);
            holds = λ g vs is free.
                let held = old.holds g vs is free in (
                  held.0,
                  held.1,
                  holds_on held.0 vs (held_hues held.0 tint held.1 below) held.2,
                );
          };
    }

  -- ---- frames
  with_heres : (heres : List (List ℕ)) (colors : Colors) → TintsFit graph cells colors
      → TintsFit graph cells (record colors { heres = heres })
  with_heres heres colors fit = record {
    count = fit.count;
    each = λ c cell tint there at.
        let old = fit.each c cell tint there at in
        record { coloured = old.coloured; bare = old.bare; owns = old.owns; holds = old.holds };
  }

  pub tints_pushed : (job n : ℕ) (colors : Colors) → TintsFit graph cells colors
      → TintsFit graph cells (after_change colors (Push job n))
  unfolding push_here
  tints_pushed job n colors fit = with_heres (push_here job n colors).heres colors fit

  pub tints_begun : (n : ℕ) (colors : Colors) → TintsFit graph cells colors
      → TintsFit graph cells (after_change colors (Begin n))
  unfolding begin_heres
  tints_begun n colors fit = with_heres (begin_heres n colors).heres colors fit

  pub tints_popped : (job : ℕ) (colors : Colors) → TintsFit graph cells colors
      → TintsFit graph cells (after_change colors (Pop job))
  unfolding pop_here
  tints_popped job colors fit = with_heres (pop_here job colors).heres colors fit
