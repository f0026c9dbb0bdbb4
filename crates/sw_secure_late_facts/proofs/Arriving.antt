-- A late state stays secure by hue when all that jobs take along is delivered at once, and its
-- tints go on to fit.
use Rattle.std.proofs.Common.{◌≡◌, ◌≢◌, ◌<◌, ℕ, suc, Option, List, [], ◌∷◌, length, get_or, refl}
use Rattle.std.proofs.Common.{sym, subst, ap, ◌∙◌}
use Rattle.std.proofs.Common.{arith}
use Rattle.std.specs.List.{All, AllPairs, slice_get}
use Rattle.std.proofs.lemmas.List.{append-nil}
use Rattle.std.proofs.lemmas.List.Elements.{All-head, All-tail}
use Rattle.std.proofs.lemmas.List.Sums.{fold-append}
use Rattle.sw_graph.specs.declared.graph.Graph.{Graph}
use Rattle.sw_value.specs.declared.state.State.{State}
use Rattle.sw_color_rules.specs.declared.colors.Colors.{Colors}
use Rattle.sw_color_rules.specs.declared.colors.Palette.{Palette}
use Rattle.sw_color_rules.specs.declared.colors.Tint.{Tint}
use Rattle.sw_color_rules.specs.Changes.{after_change, after_changes}
use Rattle.sw_color_rules.specs.Palette.{IsWhole, merge}
use Rattle.sw_color_rules.specs.Plans.{next_color}
use Rattle.sw_color_rules.specs.Ranges.{AreBelow, AreMade, noted}
use Rattle.sw_color_rules.proofs.PaletteLemmas.{changes_whole}
use Rattle.sw_partition.specs.Regions.{Regions}
use Rattle.sw_late_facts.specs.Hues.{hue}
use Rattle.sw_late_facts.specs.Late.{Cargo, deliveries, delivery}
use Rattle.sw_late_facts.specs.Owners.{AreOfOtherJobs}
use Rattle.sw_late_facts.proofs.Cells.{changes_cells, changes_heres, merges_quiet}
use Rattle.sw_secure_facts.specs.Secure.{IsSecure}
use Rattle.sw_hue_facts.specs.Hued.{hued, hues_of}
use Rattle.sw_hue_facts.specs.Tinted.{TintsFit}
use Rattle.sw_hue_facts.proofs.Counts.{merged_count}
use Rattle.sw_hue_facts.proofs.Merging.{merge_all}
use Rattle.sw_hue_facts.proofs.Retinted.{tints_merged}
use Rattle.sw_hue_facts.proofs.Uniting.{merges_are}
use Rattle.sw_secure_late_facts.specs.LateSecure.{CargoFits}
use Rattle.sw_secure_late_facts.proofs.Delivering as delivering
use Rattle.sw_secure_late_facts.proofs.Lasting.{Lasts, cargo_lasts}
use Rattle.sw_secure_late_facts.proofs.Same.{in_hues, may_unite_own}
use Rattle.sw_secure_late_facts.proofs.Turning.{Renamed}

merges_count : (n : ℕ) (ms : List ℕ) (p : Palette) → length (merge_all n ms p).names ≡ length
    p.names
merges_count n [] p = refl
merges_count n (m ∷ ms) p = merges_count n ms (merge n m p) ∙ merged_count n m p

delivery_count : (c : Cargo) (colors : Colors)
    → next_color (after_changes (delivery c) colors) ≡ next_color colors
delivery_count c colors = ap next_color (merges_are c.actor c.colors colors)
    ∙ merges_count c.actor c.colors colors.palette

module _ (graph : Graph) (states : ℕ → List (Option Regions)) (state : State) where
  -- What these jobs are to take, which is all among so many colours.
  pub record Stands (count : ℕ) (colors : Colors) (cargo : List Cargo) : Type 0 where
    pub whole : IsWhole colors.palette
    pub made : AreMade colors
    pub counted : next_color colors ≡ count
    pub tints : TintsFit graph state.cells colors
    pub secure : IsSecure graph states state (hued colors)
    pub fits : All (CargoFits graph states state colors) cargo
    pub below : All (λ (c : Cargo). AreBelow count (c.actor ∷ c.colors)) cargo
    pub once : AllPairs AreOfOtherJobs cargo

  -- the first of it is delivered
  module _ (count : ℕ) (colors : Colors) (c : Cargo) (cargo : List Cargo)
      (s : Stands count colors (c ∷ cargo)) where
    abbrev after : Colors
    after = after_changes (delivery c) colors

    abbrev numbers : List ℕ
    numbers = c.actor ∷ c.colors

    first : CargoFits graph states state colors c
    first = All-head (CargoFits graph states state colors) c cargo s.fits

    first_below : AreBelow (next_color colors) numbers
    first_below = subst (λ n. AreBelow n numbers) (sym s.counted)
        (All-head (λ (d : Cargo). AreBelow count (d.actor ∷ d.colors)) c cargo s.below)

    secure_after : IsSecure graph states state (hued after)
    secure_after = delivering.delivered_secure graph states state colors s.whole s.secure c first
        first_below

    renamed : Renamed c.job c.job colors.palette after.palette
    renamed = delivering.delivered_renamed graph states state colors s.whole s.secure c first
        first_below

    tints_after : TintsFit graph state.cells after
    tints_after =
        let may = delivering.may graph states state colors s.whole s.secure c first first_below in
        let q = delivering.q graph states state colors s.whole s.secure c first first_below in
        tints_merged graph state.cells q c.actor c.colors colors s.whole first_below may
        (λ m has. may_unite_own q (hues_of colors.palette numbers) may (hue colors.palette m)
        (in_hues colors.palette numbers m has)) s.tints

    cells_after : after.cells ≡ colors.cells
    cells_after = changes_cells (delivery c) colors ∙ (merges_quiet numbers).cells colors.cells

    heres_after : after.heres ≡ colors.heres
    heres_after = changes_heres (delivery c) colors ∙ (merges_quiet numbers).heres colors.heres

    made_after : AreMade after
    made_after = record {
      cells = subst (λ n. All (λ tint. AreBelow n (noted tint)) after.cells)
          (sym (delivery_count c colors))
          (subst (λ (ts : List Tint). All (λ tint. AreBelow (next_color colors) (noted tint)) ts)
          (sym cells_after) s.made.cells);
      heres = subst (λ n. All (AreBelow n) after.heres) (sym (delivery_count c colors))
          (subst (All (AreBelow (next_color colors))) (sym heres_after) s.made.heres);
    }

    lasts : (k : ℕ) → k ≢ c.job → Lasts k colors after
    lasts k apart = record {
      actors = λ n a low is. renamed.actors n a is;
      fixed = λ n m low is. renamed.fixed n k m apart apart is;
      back = λ n m low is. renamed.back n k m apart apart is;
      more = [];
      cells = cells_after ∙ sym (append-nil colors.cells);
      heres = ap (λ (l : List (List ℕ)). slice_get l k) heres_after;
    }

    rest_fits : All (CargoFits graph states state after) cargo
    rest_fits k d within =
        let e = get_or cargo k d in
        let fits = All-tail (CargoFits graph states state colors) c cargo s.fits k d within in
        let low = subst (λ n. AreBelow n (e.actor ∷ e.colors)) (sym s.counted)
        (All-tail (λ (d : Cargo). AreBelow count (d.actor ∷ d.colors)) c cargo s.below k d within)
        in
        let apart = s.once 0 (suc k) d (omega arith) (omega (arith, within)) in
        cargo_lasts graph states state state colors after s.made s.secure secure_after s.tints
        tints_after
        e fits fits.there (lasts e.job (λ same. apart (sym same)))
        (All-head (λ n. n < next_color colors) e.actor e.colors low)
        (All-tail (λ n. n < next_color colors) e.actor e.colors low)

    next : Stands count after cargo
    next = record {
      whole = changes_whole (delivery c) colors s.whole;
      made = made_after;
      counted = delivery_count c colors ∙ s.counted;
      tints = tints_after;
      secure = secure_after;
      fits = rest_fits;
      below = All-tail (λ (d : Cargo). AreBelow count (d.actor ∷ d.colors)) c cargo s.below;
      once = λ i k d low within. s.once (suc i) (suc k) d (omega (arith, low))
          (omega (arith, within));
    }

  pub all_arrive : (count : ℕ) (cargo : List Cargo) (colors : Colors) → Stands count colors cargo
      → Stands count (after_changes (deliveries cargo) colors) []
  all_arrive count [] colors s = s
  all_arrive count (c ∷ cargo) colors s =
      subst (λ (l : Colors). Stands count l [])
      (sym (fold-append after_change colors (delivery c) (deliveries cargo)))
      (all_arrive count cargo (after_changes (delivery c) colors) (next count colors c cargo s))
