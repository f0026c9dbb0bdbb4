-- A plan whose colours become one: what it makes, and what it joins, by hue.
use Rattle.std.proofs.Common.{◌≡◌, ℕ, Option, Some, None, List, [], ◌∷◌, ◌++◌}
use Rattle.std.proofs.Common.{refl, sym, subst, ap, ◌∙◌}
use Rattle.std.proofs.lemmas.List.Sums.{fold-append}
use Rattle.sw_list.proofs.Members.{none_in}
use Rattle.sw_color_rules.specs.declared.colors.Colors.{Colors}
use Rattle.sw_color_rules.specs.declared.plan.Plan.{Plan}
use Rattle.sw_color_rules.specs.Changes.{after_change, after_changes}
use Rattle.sw_color_rules.specs.Palette.{IsWhole}
use Rattle.sw_color_rules.specs.Plans.{makings, merges, next_color}
use Rattle.sw_color_rules.specs.Ranges.{AreBelow}
use Rattle.sw_color_rules.proofs.PaletteLemmas.{changes_whole}
use Rattle.sw_late_facts.specs.Hues.{hue}
use Rattle.sw_late_facts.specs.Late.{givings, late_by, later_of, merges_here}
use Rattle.sw_owner_facts.specs.Colours.{Colour, OfJob}
use Rattle.sw_owner_facts.specs.View.{Frame as Spot}
use Rattle.sw_view_facts.specs.Views.{Colours}
use Rattle.sw_secure_facts.specs.Painting.{MayUnite, Unites}
use Rattle.sw_hue_facts.specs.Hued.{SameColours, hued, hues_of}
use Rattle.sw_hue_facts.proofs.Uniting.{merges_unite}
use Rattle.sw_secure_late_facts.proofs.Same.{in_hues, may_unite_own, may_unite_same, unites_same}

-- the colours with what a plan makes
abbrev pub base_of : ℕ → Plan → Colors → Colors
base_of job plan colors = after_changes (makings job plan) colors

-- What a plan makes is this by hue, and what it joins are these colours.
pub record PlanFits (q : Spot) (colors : Colors) (plan : Plan) (joined : List Colour)
    (made : Colours) : Type 0 where
  pub heir : plan.heir ≡ None
  pub below : AreBelow (next_color (base_of q.job plan colors)) plan.joined
  pub is : hued (base_of q.job plan colors) ≡ made
  pub same : SameColours (hues_of (base_of q.job plan colors).palette plan.joined) joined

-- no colours become one
pub none_unite : (job : ℕ) (colours : Colours) → Unites job [] colours colours
none_unite job colours = record {
  kept = OfJob job 0;
  numbers = [];
  is = refl;
  among = λ c has. absurd (none_in c has);
  others = λ c has. absurd (none_in c has);
  only = λ n has. absurd (none_in n has);
}

-- numbers that merge, however many
pub numbers_unite : (q : Spot) (ns : List ℕ) (colors : Colors) → IsWhole colors.palette
    → AreBelow (next_color colors) ns → MayUnite q (hues_of colors.palette ns)
    → Unites q.job (hues_of colors.palette ns) (hued colors)
    (hued (after_changes (merges ns) colors))
numbers_unite q [] colors whole below may = none_unite q.job (hued colors)
numbers_unite q (n ∷ ns) colors whole below may =
    merges_unite q n ns colors whole below may
    (λ m has. may_unite_own q (hues_of colors.palette (n ∷ ns)) may (hue colors.palette m)
    (in_hues colors.palette (n ∷ ns) m has))

module _ (q : Spot) (colors : Colors) (plan : Plan) (heir : plan.heir ≡ None) where
  changed : (to : Option ℕ) → after_changes (late_by q.job plan to) colors
      ≡ after_changes (merges_here to plan.joined) (base_of q.job plan colors)
  changed to =
      ap (λ h. after_changes (makings q.job plan ++ (givings h (later_of plan.joined)
      ++ merges_here to plan.joined)) colors) heir
      ∙ fold-append after_change colors (makings q.job plan) (merges_here to plan.joined)

-- what the plan joins becomes one
pub plan_unites : (q : Spot) (colors : Colors) (plan : Plan) (joined : List Colour) (made : Colours)
    → IsWhole colors.palette → PlanFits q colors plan joined made → MayUnite q joined
    → Unites q.job joined made (hued (after_changes (late_by q.job plan None) colors))
plan_unites q colors plan joined made whole fits may =
    subst (λ m. Unites q.job joined m (hued (after_changes (late_by q.job plan None) colors)))
    fits.is
    (subst (λ l. Unites q.job joined (hued base) (hued l))
    (sym (changed q colors plan fits.heir None))
    (unites_same q.job hues joined (hued base) (hued (after_changes (merges plan.joined) base))
    fits.same
    (numbers_unite q plan.joined base (changes_whole (makings q.job plan) colors whole) fits.below
    (may_unite_same q joined hues
    (record { to = fits.same.from; from = fits.same.to }) may))))
  where
    base : Colors
    base = base_of q.job plan colors

    hues : List Colour
    hues = hues_of base.palette plan.joined

-- what the plan would join goes to an actor first
pub plan_waits : (q : Spot) (colors : Colors) (plan : Plan) (joined : List Colour) (made : Colours)
    (actor : ℕ) → PlanFits q colors plan joined made
    → Unites q.job [] made (hued (after_changes (late_by q.job plan (Some actor)) colors))
plan_waits q colors plan joined made actor fits =
    subst (λ m. Unites q.job [] m (hued (after_changes (late_by q.job plan (Some actor)) colors)))
    fits.is
    (subst (λ l. Unites q.job [] (hued (base_of q.job plan colors)) (hued l))
    (sym (changed q colors plan fits.heir (Some actor)))
    (none_unite q.job (hued (base_of q.job plan colors))))
