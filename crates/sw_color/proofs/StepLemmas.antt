-- A step as the program makes it.
use Rattle.std.proofs.Common.{◌≡◌, ℕ, List, [], ◌∷◌, ◌++◌, refl, ap, ◌∙◌, Option, Some, None, map}
use Rattle.std.proofs.Common.{option_map, option_to_list}
use Rattle.std.specs.Option.{option_map_or}
use Rattle.sw_graph.specs.declared.graph.Graph.{Graph}
use Rattle.sw_value.specs.declared.effect.Act.{Act}
use Rattle.sw_value.specs.Act.{act_of}
use Rattle.sw_value.specs.Reach.{after_act}
use Rattle.sw_step.proofs.StepLemmas.{step_nothing, step_act, event_nothing, event_act}
use Rattle.sw_color_rules.specs.declared.colors.Owner.{Owner}
use Rattle.sw_color_rules.specs.declared.colors.Tint.{Tint}
use Rattle.sw_color_rules.specs.declared.colors.Colors.{Colors}
use Rattle.sw_color_rules.specs.declared.plan.Plan.{Plan}
use Rattle.sw_color_rules.specs.declared.plan.FrameChange.{FrameChange}
use Rattle.sw_color_rules.specs.declared.plan.FrameChange.TheVariants.{Stays, Pushed, Begun, Popped}
use Rattle.sw_color_rules.specs.declared.colored.Colored.{Colored}
use Rattle.sw_color_rules.specs.Palette.{fresh, merge}
use Rattle.sw_color_rules.specs.Changes.{Change, Fresh, Mark, Merge, on_palette, mark, after_change}
use Rattle.sw_color_rules.specs.Changes.{after_changes}
use Rattle.sw_color_rules.specs.Plans.{frame_changes, merges, handing, makings, changes_by, plan_of}
use Rattle.sw_color_rules.specs.Machine.{changes_of, colored_step}
use Rattle.sw_color.specs.Making.{made_fresh, marked, framed, joined_with, joined, handed}

after-append : (xs ys : List Change) (colors : Colors)
    → after_changes (xs ++ ys) colors ≡ after_changes ys (after_changes xs colors)
after-append [] ys colors = refl
after-append (x ∷ xs) ys colors = after-append xs ys (after_change colors x)

frame_made : (job : ℕ) (frame : FrameChange) (colors : Colors)
    → after_changes (frame_changes job frame) colors ≡ framed job frame colors
frame_made job Stays colors = refl
frame_made job (Pushed n) colors = refl
frame_made job (Begun n) colors = refl
frame_made job Popped colors = refl

cell_made : (tint : Option Tint) (job : ℕ) (frame : FrameChange) (colors : Colors)
    → after_changes (option_to_list (option_map Mark tint) ++ frame_changes job frame) colors
    ≡ framed job frame (marked tint colors)
cell_made None job frame colors = frame_made job frame colors
cell_made (Some tint) job frame colors = frame_made job frame (mark tint colors)

all_made : (owner : Option Owner) (tint : Option Tint) (job : ℕ) (frame : FrameChange)
    (colors : Colors)
    → after_changes (option_to_list (option_map Fresh owner)
    ++ (option_to_list (option_map Mark tint) ++ frame_changes job frame)) colors
    ≡ framed job frame (marked tint (made_fresh owner colors))
all_made None tint job frame colors = cell_made tint job frame colors
all_made (Some owner) tint job frame colors =
    cell_made tint job frame (on_palette (fresh owner) colors)

merged_with : (a : ℕ) (ns : List ℕ) (colors : Colors)
    → after_changes (map (Merge a) ns) colors ≡ on_palette (joined_with a ns) colors
merged_with a [] colors = refl
merged_with a (n ∷ ns) colors = merged_with a ns (on_palette (merge a n) colors)

all_merged : (ns : List ℕ) (colors : Colors)
    → after_changes (merges ns) colors ≡ on_palette (joined ns) colors
all_merged [] colors = refl
all_merged (n ∷ ns) colors = merged_with n ns colors

all_handed : (ns : List ℕ) (heir : Option ℕ) (colors : Colors)
    → after_changes (handing ns heir) colors ≡ on_palette (handed ns heir) colors
all_handed [] None colors = refl
all_handed [] (Some job) colors = refl
all_handed (n ∷ ns) None colors = refl
all_handed (n ∷ ns) (Some job) colors = refl

-- a plan that is carried out makes its changes
pub carried_out : (job : ℕ) (plan : Plan) (colors : Colors)
    → after_changes (changes_by job plan) colors
    ≡ on_palette (λ p. handed plan.joined plan.heir (joined plan.joined p))
    (framed job plan.frame (marked plan.tint (made_fresh plan.fresh colors)))
carried_out job plan colors =
    let made = framed job plan.frame (marked plan.tint (made_fresh plan.fresh colors)) in
    after-append (makings job plan) (merges plan.joined ++ handing plan.joined plan.heir) colors
    ∙ ap (after_changes (merges plan.joined ++ handing plan.joined plan.heir))
    (all_made plan.fresh plan.tint job plan.frame colors)
    ∙ after-append (merges plan.joined) (handing plan.joined plan.heir) made
    ∙ ap (after_changes (handing plan.joined plan.heir)) (all_merged plan.joined made)
    ∙ all_handed plan.joined plan.heir (on_palette (joined plan.joined) made)

pub ruleset carrying = (carried_out)

-- nothing changes
pub no_change : (changes : List Change) (colors : Colors) → changes ≡ []
    → after_changes changes colors ≡ colors
no_change changes colors none = ap (λ cs. after_changes cs colors) none

pub ruleset still = (no_change)

-- nothing happens
pub colored_still : (graph : Graph) (colored : Colored) (item : ℕ)
    → act_of graph colored.state item ≡ None → colored_step graph colored item ≡ colored
unfolding colored_step changes_of
colored_still graph colored item e =
    ap (λ s. record { state = s; colors = after_changes (changes_of graph colored item) colored.colors })
    (step_nothing graph colored.state item e)
    ∙ ap (λ (o : Option Act). record {
      state = colored.state;
      colors = after_changes
          (option_map_or
          (λ act. changes_by item (plan_of graph colored.state colored.colors item act)) o [])
          colored.colors;
    }) e

-- a job does an act
pub colored_acts : (graph : Graph) (colored : Colored) (item : ℕ) (act : Act)
    → act_of graph colored.state item ≡ Some act → colored_step graph colored item
    ≡ record {
      state = after_act item act colored.state;
      colors = after_changes
          (changes_by item (plan_of graph colored.state colored.colors item act)) colored.colors;
    }
unfolding colored_step changes_of
colored_acts graph colored item act e =
    ap (λ s. record { state = s; colors = after_changes (changes_of graph colored item) colored.colors })
    (step_act graph colored.state item act e)
    ∙ ap (λ (o : Option Act). record {
      state = after_act item act colored.state;
      colors = after_changes
          (option_map_or
          (λ act. changes_by item (plan_of graph colored.state colored.colors item act)) o [])
          colored.colors;
    }) e

pub ruleset steps = (colored_still, colored_acts, event_nothing, event_act)
