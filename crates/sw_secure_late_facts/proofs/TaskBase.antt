-- The plan of a task: what it makes before anything is handed over.
use Rattle.std.proofs.Common.{◌≡◌, ◌<◌, ℕ, Option, Some, None, List, [], ◌∷◌, ◌++◌, length, refl}
use Rattle.std.proofs.Common.{ap, ◌∙◌}
use Rattle.std.proofs.Common.{arith}
use Rattle.std.proofs.lemmas.List.Elements.{All-weaker}
use Rattle.sw_graph.specs.declared.graph.Graph.{Graph}
use Rattle.sw_value.specs.declared.cell.HeapCell.{HeapCell}
use Rattle.sw_color_rules.specs.declared.colors.Colors.{Colors}
use Rattle.sw_color_rules.specs.declared.colors.Owner.TheVariants as owner
use Rattle.sw_color_rules.specs.declared.colors.Palette.{Palette}
use Rattle.sw_color_rules.specs.declared.colors.Tint.TheVariants.{Bare}
use Rattle.sw_color_rules.specs.declared.plan.FrameChange.TheVariants.{Begun}
use Rattle.sw_color_rules.specs.declared.plan.Plan.{Plan}
use Rattle.sw_color_rules.specs.Changes.{Fresh, begin_heres, mark}
use Rattle.sw_color_rules.specs.Palette.{IsWhole, fresh}
use Rattle.sw_color_rules.specs.Plans.{begun_with, next_color}
use Rattle.sw_color_rules.specs.Ranges.{AreBelow, AreMade}
use Rattle.sw_color_rules.proofs.PaletteLemmas.{changes_whole}
use Rattle.sw_owner_facts.specs.Colours.{Actor}
use Rattle.sw_late_facts.specs.Hues.{hue}
use Rattle.sw_view_facts.specs.Memory.{coloured_more}
use Rattle.sw_secure_facts.specs.Painting.{begun_here, with_job}
use Rattle.sw_hue_facts.specs.Hued.{hued}
use Rattle.sw_hue_facts.specs.Tinted.{TintsFit}
use Rattle.sw_hue_facts.proofs.Made.{cell_made, fresh_made, job_made}
use Rattle.sw_hue_facts.proofs.Retinted.{tints_before}
use Rattle.sw_secure_late_facts.proofs.Begun.{BeginsOn, Nowhere, On}
use Rattle.sw_secure_late_facts.proofs.Joining.{base_of}
use Rattle.sw_secure_late_facts.proofs.More.{count_more}

-- the plan of a task with the number k
abbrev pub task_plan : Colors → ℕ → Option ℕ → List ℕ → Plan
task_plan colors k number ns =
    record (begun_with number (owner.Job k) Begun (next_color colors) ns) {
      tint = Some Bare;
      heir = Some k;
    }

-- a cell and a job more
abbrev pub task_more : Colors → Palette → ℕ → Colors
task_more colors palette first = record {
  cells = colors.cells ++ Bare ∷ [];
  heres = colors.heres ++ (first ∷ []) ∷ [];
  palette = palette;
}

abbrev pub in_palette : Colors → Palette → Colors
in_palette colors palette = record colors { palette = palette }

-- The palette with the new `Here`, which is the first of what the plan joins.
pub record TaskBase (graph : Graph) (cells : List HeapCell) (colors : Colors) (job k : ℕ)
    (on : Option Actor) (number : Option ℕ) (ns : List ℕ) : Type 0 where
  pub palette : Palette
  pub first : ℕ
  pub whole : IsWhole palette
  pub tints : TintsFit graph cells (in_palette colors palette)
  pub hues : hued (in_palette colors palette) ≡ hued colors
  pub first_in : first < length palette.names
  pub below : AreBelow (length palette.names) ns
  pub shows : hue palette first ≡ begun_here on k (next_color colors)
  pub joined : (task_plan colors k number ns).joined ≡ first ∷ ns
  pub made : base_of job (task_plan colors k number ns) colors ≡ task_more colors palette first

pub task_base : (graph : Graph) (cells : List HeapCell) (colors : Colors) (job k : ℕ)
    (on : Option Actor) (number : Option ℕ) (ns : List ℕ) → IsWhole colors.palette → AreMade colors
    → TintsFit graph cells colors → AreBelow (next_color colors) ns → BeginsOn colors on number
    → TaskBase graph cells colors job k on number ns
unfolding mark begin_heres
task_base graph cells colors job k _ _ ns whole made tints below Nowhere =
    let new = fresh_made (owner.Job k) colors whole made in
    let count = count_more colors (owner.Job k) whole made in
    record {
      palette = fresh (owner.Job k) colors.palette;
      first = next_color colors;
      whole = changes_whole (Fresh (owner.Job k) ∷ []) colors whole;
      tints = tints_before graph cells (owner.Job k) colors whole made tints;
      hues = new.0;
      first_in = omega (arith, count);
      below = All-weaker (λ n. n < next_color colors)
          (λ n. n < length (fresh (owner.Job k) colors.palette).names)
          (λ n inside. omega (arith, inside, count)) ns below;
      shows = new.1;
      joined = refl;
      made = refl;
    }
task_base graph cells colors job k _ _ ns whole made tints below (On a n inside is) = record {
  palette = colors.palette;
  first = n;
  whole = whole;
  tints = tints;
  hues = refl;
  first_in = inside;
  below = below;
  shows = is;
  joined = refl;
  made = refl;
}

-- by hue
pub task_hues : (colors : Colors) (palette : Palette) (first : ℕ)
    → hued (task_more colors palette first)
    ≡ with_job (hue palette first) (coloured_more None (hued (in_palette colors palette)))
unfolding mark begin_heres
task_hues colors palette first =
    job_made (record { cells = colors.cells ++ Bare ∷ []; heres = colors.heres; palette = palette })
    first
    ∙ ap (with_job (hue palette first)) (cell_made Bare (in_palette colors palette))
