-- What changes do to cells and to frames.
use Rattle.std.proofs.Common.{◌≡◌, ℕ, refl, ap, ◌∙◌, Option, Some, None, List, [], ◌∷◌, ◌++◌, map}
use Rattle.sw_value.specs.Lists.{changed_at}
use Rattle.sw_color_rules.specs.declared.colors.Tint.{Tint}
use Rattle.sw_color_rules.specs.declared.colors.Colors.{Colors}
use Rattle.sw_color_rules.specs.Changes.{Change, Fresh, Mark, Push, Begin, Pop, Merge, HandOver}
use Rattle.sw_color_rules.specs.Changes.{after_change, after_changes, mark, push_here, pop_here, begin_heres}
use Rattle.sw_color_rules.specs.Changes.{with_last, without_last}
use Rattle.sw_color_rules.specs.Plans.{merges, handing}
use Rattle.sw_late_facts.specs.Late.{Cargo, delivery, deliveries, givings, merges_here}

abbrev pub cells_after : List Change → List Tint → List Tint
cells_after [] cells = cells
cells_after (Mark tint ∷ cs) cells = cells_after cs (cells ++ tint ∷ [])
cells_after (_ ∷ cs) cells = cells_after cs cells

abbrev pub heres_after : List Change → List (List ℕ) → List (List ℕ)
heres_after [] heres = heres
heres_after (Push job n ∷ cs) heres = heres_after cs (changed_at (with_last n) job heres)
heres_after (Begin n ∷ cs) heres = heres_after cs (heres ++ (n ∷ []) ∷ [])
heres_after (Pop job ∷ cs) heres = heres_after cs (changed_at without_last job heres)
heres_after (_ ∷ cs) heres = heres_after cs heres

pub changes_cells : (cs : List Change) (colors : Colors)
    → (after_changes cs colors).cells ≡ cells_after cs colors.cells
unfolding mark push_here pop_here begin_heres
changes_cells [] colors = refl
changes_cells (Fresh o ∷ cs) colors = changes_cells cs (after_change colors (Fresh o))
changes_cells (Mark tint ∷ cs) colors = changes_cells cs (after_change colors (Mark tint))
changes_cells (Push job n ∷ cs) colors = changes_cells cs (after_change colors (Push job n))
changes_cells (Begin n ∷ cs) colors = changes_cells cs (after_change colors (Begin n))
changes_cells (Pop job ∷ cs) colors = changes_cells cs (after_change colors (Pop job))
changes_cells (Merge a b ∷ cs) colors = changes_cells cs (after_change colors (Merge a b))
changes_cells (HandOver n job ∷ cs) colors = changes_cells cs (after_change colors (HandOver n job))

pub changes_heres : (cs : List Change) (colors : Colors)
    → (after_changes cs colors).heres ≡ heres_after cs colors.heres
unfolding mark push_here pop_here begin_heres
changes_heres [] colors = refl
changes_heres (Fresh o ∷ cs) colors = changes_heres cs (after_change colors (Fresh o))
changes_heres (Mark tint ∷ cs) colors = changes_heres cs (after_change colors (Mark tint))
changes_heres (Push job n ∷ cs) colors = changes_heres cs (after_change colors (Push job n))
changes_heres (Begin n ∷ cs) colors = changes_heres cs (after_change colors (Begin n))
changes_heres (Pop job ∷ cs) colors = changes_heres cs (after_change colors (Pop job))
changes_heres (Merge a b ∷ cs) colors = changes_heres cs (after_change colors (Merge a b))
changes_heres (HandOver n job ∷ cs) colors = changes_heres cs (after_change colors (HandOver n job))

pub cells_both : (cs ds : List Change) (cells : List Tint)
    → cells_after (cs ++ ds) cells ≡ cells_after ds (cells_after cs cells)
cells_both [] ds cells = refl
cells_both (Mark tint ∷ cs) ds cells = cells_both cs ds (cells ++ tint ∷ [])
cells_both (_ ∷ cs) ds cells = cells_both cs ds cells

pub heres_both : (cs ds : List Change) (heres : List (List ℕ))
    → heres_after (cs ++ ds) heres ≡ heres_after ds (heres_after cs heres)
heres_both [] ds heres = refl
heres_both (Push job n ∷ cs) ds heres = heres_both cs ds (changed_at (with_last n) job heres)
heres_both (Begin n ∷ cs) ds heres = heres_both cs ds (heres ++ (n ∷ []) ∷ [])
heres_both (Pop job ∷ cs) ds heres = heres_both cs ds (changed_at without_last job heres)
heres_both (_ ∷ cs) ds heres = heres_both cs ds heres

-- changes of the palette alone
pub record IsQuiet (cs : List Change) : Type 0 where
  pub cells : (cells : List Tint) → cells_after cs cells ≡ cells
  pub heres : (heres : List (List ℕ)) → heres_after cs heres ≡ heres

pub none_quiet : IsQuiet []
none_quiet = record { cells = λ c. refl; heres = λ h. refl }

pub quiet_both : (cs ds : List Change) → IsQuiet cs → IsQuiet ds → IsQuiet (cs ++ ds)
quiet_both cs ds one other = record {
  cells = λ c. cells_both cs ds c ∙ ap (cells_after ds) (one.cells c) ∙ other.cells c;
  heres = λ h. heres_both cs ds h ∙ ap (heres_after ds) (one.heres h) ∙ other.heres h;
}

merge_list_quiet : (a : ℕ) (ns : List ℕ) → IsQuiet (map (Merge a) ns)
merge_list_quiet a [] = none_quiet
merge_list_quiet a (n ∷ ns) =
    let rest = merge_list_quiet a ns in record { cells = rest.cells; heres = rest.heres }

pub merges_quiet : (ns : List ℕ) → IsQuiet (merges ns)
merges_quiet [] = none_quiet
merges_quiet (a ∷ ns) = merge_list_quiet a ns

pub handing_quiet : (ns : List ℕ) (heir : Option ℕ) → IsQuiet (handing ns heir)
handing_quiet [] None = none_quiet
handing_quiet [] (Some job) = none_quiet
handing_quiet (a ∷ ns) None = none_quiet
handing_quiet (a ∷ ns) (Some job) = record { cells = λ c. refl; heres = λ h. refl }

hand_list_quiet : (job : ℕ) (ns : List ℕ) → IsQuiet (map (λ n. HandOver n job) ns)
hand_list_quiet job [] = none_quiet
hand_list_quiet job (n ∷ ns) =
    let rest = hand_list_quiet job ns in record { cells = rest.cells; heres = rest.heres }

pub givings_quiet : (heir : Option ℕ) (ns : List ℕ) → IsQuiet (givings heir ns)
givings_quiet None ns = none_quiet
givings_quiet (Some job) ns = hand_list_quiet job ns

pub merges_here_quiet : (to : Option ℕ) (ns : List ℕ) → IsQuiet (merges_here to ns)
merges_here_quiet None ns = merges_quiet ns
merges_here_quiet (Some a) ns = none_quiet

pub deliveries_quiet : (cargo : List Cargo) → IsQuiet (deliveries cargo)
deliveries_quiet [] = none_quiet
deliveries_quiet (c ∷ cs) =
    quiet_both (delivery c) (deliveries cs) (merge_list_quiet c.actor c.colors) (deliveries_quiet cs)
