-- Plans by which a frame begins, on top of a job's: its `Here` is its actor's or a new one, and
-- others
-- join it.
use Rattle.std.proofs.Common.{◌≡◌, ◌<◌, ℕ, Bool, true, false, cond, Option, Some, None, List, ◌∷◌}
use Rattle.std.proofs.Common.{refl}
use Rattle.std.proofs.Common.{sym, subst, ap, ◌∙◌}
use Rattle.std.proofs.lemmas.List.Elements.{All-cons}
use Rattle.sw_graph.specs.declared.instr.Instr.TheVariants as instr
use Rattle.sw_graph.specs.Points.{Point, Middle}
use Rattle.sw_value.specs.declared.executor.Executor.{Executor}
use Rattle.sw_value.specs.declared.executor.Executor.TheVariants as executor
use Rattle.sw_value.specs.declared.frame.Frame.{Frame}
use Rattle.sw_color_rules.specs.declared.colors.Colors.{Colors}
use Rattle.sw_color_rules.specs.declared.colors.Owner.TheVariants as owner
use Rattle.sw_color_rules.specs.declared.plan.FrameChange.TheVariants.{Pushed}
use Rattle.sw_color_rules.specs.Changes.{Fresh, after_change, push_here}
use Rattle.sw_color_rules.specs.Palette.{IsWhole}
use Rattle.sw_color_rules.specs.Plans.{begun_with, called_number, is_to_actor, next_color}
use Rattle.sw_color_rules.specs.Plans.{number_on}
use Rattle.sw_color_rules.specs.Ranges.{AreBelow, AreMade}
use Rattle.sw_late_facts.specs.Hues.{hue}
use Rattle.sw_owner_facts.specs.Colours.{Actor, Colour, GlobalActor, Instance, OfActor, OfJob}
use Rattle.sw_owner_facts.specs.View.{Frame as Spot}
use Rattle.sw_secure_facts.specs.Painting.{actor_on, begun_here, called_on, with_here}
use Rattle.sw_hue_facts.specs.Hued.{SameColours, hued, hues_of}
use Rattle.sw_hue_facts.proofs.Made.{frame_made, fresh_made}
use Rattle.sw_secure_late_facts.proofs.Joining.{PlanFits}
use Rattle.sw_secure_late_facts.proofs.More.{more, more_below, more_show}
use Rattle.sw_secure_late_facts.proofs.Same.{same_more}

-- the actor that an executor is has a number, with its hue
abbrev pub HasNumber : Colors → Executor → Type 0
HasNumber colors on = (a : Actor) → actor_on on ≡ Some a
    → (n : ℕ) × (number_on colors on ≡ Some n) × (n < next_color colors)
    × (hue colors.palette n ≡ OfActor a)

-- The number with which a frame begins is that of the actor with which it begins, if there is one.
pub data BeginsOn (colors : Colors) : Option Actor → Option ℕ → Type 0 where
  Nowhere : BeginsOn colors None None
  On : (a : Actor) (n : ℕ) → n < next_color colors → hue colors.palette n ≡ OfActor a
      → BeginsOn colors (Some a) (Some n)

pub begins_on : (colors : Colors) (on : Executor) → HasNumber colors on
    → BeginsOn colors (actor_on on) (number_on colors on)
begins_on colors executor.Generic has = Nowhere
begins_on colors (executor.ActorOf c) has =
    let number = has (Instance c) refl in
    subst (BeginsOn colors (Some (Instance c))) (sym number.1)
    (On (Instance c) number.0 number.2 number.3)
begins_on colors (executor.Global g) has =
    let number = has (GlobalActor g) refl in
    subst (BeginsOn colors (Some (GlobalActor g))) (sym number.1)
    (On (GlobalActor g) number.0 number.2 number.3)

pub called_begins : (colors : Colors) (point : Point) (frame : Frame) → HasNumber colors
    frame.executor
    → BeginsOn colors (called_on point frame) (called_number colors point frame)
called_begins colors (Middle (instr.Call at dst kind f args)) frame has = by (is_to_actor kind)
  where
    by : (b : Bool) → BeginsOn colors (cond b (actor_on frame.executor) None)
        (cond b (number_on colors frame.executor) None)
    by true = begins_on colors frame.executor has
    by false = Nowhere
called_begins colors _ frame has = Nowhere

module _ (colors : Colors) (q : Spot) (whole : IsWhole colors.palette) (made : AreMade colors) where
  pub pushed_fits : (on : Option Actor) (number : Option ℕ) → BeginsOn colors on number
      → (ns : List ℕ)
      (cs : List Colour) → AreBelow (next_color colors) ns → SameColours (hues_of colors.palette ns)
      cs
      → PlanFits q colors (begun_with number (owner.Job q.job) Pushed (next_color colors) ns)
      (begun_here on q.job (next_color colors) ∷ cs)
      (with_here q.job (begun_here on q.job (next_color colors)) (hued colors))
  unfolding push_here
  pushed_fits _ _ Nowhere ns cs below same =
      let new = fresh_made (owner.Job q.job) colors whole made in
      record {
        heir = refl;
        below = more_below colors (owner.Job q.job) whole made ns below;
        is = frame_made (more colors (owner.Job q.job) whole made) q.job (next_color colors)
            ∙ ap (λ c. with_here q.job c (hued (after_change colors (Fresh (owner.Job q.job)))))
            new.1
            ∙ ap (with_here q.job (OfJob q.job (next_color colors))) new.0;
        same = more_show colors (owner.Job q.job) whole made ns cs below same;
      }
  pushed_fits _ _ (On a n inside is) ns cs below same = record {
    heir = refl;
    below = All-cons (λ m. m < next_color colors) n ns inside below;
    is = frame_made colors q.job n ∙ ap (λ c. with_here q.job c (hued colors)) is;
    same = same_more (hue colors.palette n) (OfActor a) (hues_of colors.palette ns) cs is same;
  }
