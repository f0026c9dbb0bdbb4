-- A frame goes on where a block begins.
use Rattle.std.proofs.Common.{◌≡◌, ℕ, Bool, true, false, cond, Option, Some, None, List}
use Rattle.std.proofs.Common.{refl, sym, subst, ap, ◌∙◌}
use Rattle.std.specs.Option.{option_and_then}
use Rattle.std.specs.List.{slice_get}
use Rattle.sw_graph.specs.declared.function.Function.{Function}
use Rattle.sw_graph.specs.declared.graph.Graph.{Graph}
use Rattle.sw_graph.specs.declared.instr.Last.{Last}
use Rattle.sw_graph.specs.declared.instr.Last.TheVariants.{Branch, Jump, Return, Switch}
use Rattle.sw_graph.specs.Mentions.{blocks_of}
use Rattle.sw_graph.specs.Points.{End, block_start}
use Rattle.sw_value.specs.declared.effect.Effect.{Effect}
use Rattle.sw_value.specs.declared.effect.Effect.TheVariants.{Goto, Leave}
use Rattle.sw_value.specs.declared.frame.Frame.{Frame}
use Rattle.sw_value.specs.declared.job.Job.{Job}
use Rattle.sw_value.specs.declared.state.State.{State}
use Rattle.sw_value.specs.declared.value.Value.{Value}
use Rattle.sw_value.specs.Effect.{goto_of, last_effect, needs, returned_value}
use Rattle.sw_value.specs.Frame.{go_on, start_at}
use Rattle.sw_value.specs.Reach.{after_effect, step_of}
use Rattle.sw_value.specs.State.{in_job}
use Rattle.sw_value.specs.Value.{operand_value, tag_of, truth_of}
use Rattle.sw_partition.specs.Regions.{Regions}
use Rattle.sw_region_ops.specs.Elements.{elements_of}
use Rattle.sw_owner_facts.specs.View.{Frame as Spot}
use Rattle.sw_region_facts.specs.Annotated.{StandsAt as AnnotationStands}
use Rattle.sw_region_facts.specs.FrameRegions.{IsWeaker}
use Rattle.sw_region_facts.proofs.Annotated as region
use Rattle.sw_view_facts.specs.Effects.{turn_of}
use Rattle.sw_view_facts.specs.Standing.{StandsAt}
use Rattle.sw_view_facts.specs.Steps.{ChangesFrame}
use Rattle.sw_view_facts.specs.Views.{Colours, annotated, is_return, state_with}
use Rattle.sw_view_facts.proofs.BlockLemmas.{open_at_block}
use Rattle.sw_view_facts.proofs.EffectLemmas.{inside_changes, inside_keeps_shape, reach_same}
use Rattle.sw_view_facts.proofs.EffectLemmas.{step_is}
use Rattle.sw_view_facts.proofs.StepLemmas.{effect_goes_on}
use Rattle.sw_solve.specs.Annotation.{value_at}
use Rattle.sw_store_facts.specs.Sound.{HasSoundView, IsColoured}
use Rattle.sw_secure_facts.specs.Executing.{is_of_values}
use Rattle.sw_store_facts.proofs.Standing.{annotated_at, state_at}

-- The last instruction leads to a block, and is no return.
pub record LeadsOn (graph : Graph) (f : Frame) (l : Last) (e : Effect) : Type 0 where
  pub next : ℕ
  pub is : e ≡ Goto next
  pub index : ℕ
  pub block : ℕ
  pub among : slice_get (blocks_of l) index ≡ Some block
  pub begins : start_at graph f block ≡ Some next
  pub no_return : is_return (Some (End l)) ≡ false

goes_to : (graph : Graph) (f : Frame) (l : Last) (index block : ℕ)
    → slice_get (blocks_of l) index ≡ Some block → is_return (Some (End l)) ≡ false
    → is_of_values (goto_of graph f block) ≡ true → LeadsOn graph f l (goto_of graph f block)
goes_to graph f l index block among no_return is = by (start_at graph f block) refl is where
  by : (o : Option ℕ) → start_at graph f block ≡ o → is_of_values (needs o Goto) ≡ true
      → LeadsOn graph f l (goto_of graph f block)
  by None begins is = absurd (let clash : ⊥ = cc in clash)
  by (Some next) begins is = record {
    next = next;
    is = ap (λ o. needs o Goto) begins;
    index = index;
    block = block;
    among = among;
    begins = begins;
    no_return = no_return;
  }

pub leads_on : (graph : Graph) (f : Frame) (l : Last)
    → is_of_values (last_effect graph f l) ≡ true → LeadsOn graph f l (last_effect graph f l)
leads_on graph f (Jump to) is = goes_to graph f (Jump to) 0 to refl refl is
leads_on graph f (Branch condition holds fails) is =
    by (option_and_then truth_of (operand_value f.regs condition)) is where
      by : (o : Option Bool)
          → is_of_values (needs o (λ truth. goto_of graph f (cond truth holds fails))) ≡ true
          → LeadsOn graph f (Branch condition holds fails)
          (needs o (λ truth. goto_of graph f (cond truth holds fails)))
      by None is = absurd (let clash : ⊥ = cc in clash)
      by (Some true) is = goes_to graph f (Branch condition holds fails) 0 holds refl refl is
      by (Some false) is = goes_to graph f (Branch condition holds fails) 1 fails refl refl is
leads_on graph f (Switch subject to) is =
    by (option_and_then tag_of (operand_value f.regs subject)) is where
      with_tag : (tag : ℕ) (o : Option ℕ) → slice_get to tag ≡ o
          → is_of_values (needs o (goto_of graph f)) ≡ true
          → LeadsOn graph f (Switch subject to) (needs o (goto_of graph f))
      with_tag tag None at is = absurd (let clash : ⊥ = cc in clash)
      with_tag tag (Some block) at is =
          goes_to graph f (Switch subject to) tag block at refl is

      by : (o : Option ℕ)
          → is_of_values (needs o (λ tag. needs (slice_get to tag) (goto_of graph f))) ≡ true
          → LeadsOn graph f (Switch subject to)
          (needs o (λ tag. needs (slice_get to tag) (goto_of graph f)))
      by None is = absurd (let clash : ⊥ = cc in clash)
      by (Some tag) is = with_tag tag (slice_get to tag) refl is
leads_on graph f (Return operand) is = by (returned_value f.regs operand) is where
  by : (o : Option Value) → is_of_values (needs o Leave) ≡ true
      → LeadsOn graph f (Return operand) (needs o Leave)
  by None is = absurd (let clash : ⊥ = cc in clash)
  by (Some v) is = absurd (let clash : ⊥ = cc in clash)

module _ (graph : Graph) (states : ℕ → List (Option Regions)) (state : State) (colours : Colours)
    (s : IsColoured graph states state colours) (q : Spot) (job : Job) (f : Frame)
    (function : Function) (l : Last) (x : StandsAt graph state q job f function (End l)) where
  pub block_sound : LeadsOn graph f l (last_effect graph f l)
      → HasSoundView graph states (step_of graph state q.job) colours
  unfolding start_at in_job go_on
  block_sound leads =
      effect_goes_on graph states state next q f function (Goto leads.next)
      (annotated states state) (annotated states next) colours colours at.0 there.state
      (record {
        job = job;
        top = x.top;
        is = x.is;
        steps = steps;
        inside = refl;
        before = annotated_at graph states state colours s q job f function (End l) x;
        behind = ap (state_with states) changes.now
            ∙ ap (λ n. value_at (states n) leads.next) changes.call.function ∙ there.stands;
        elsewhere = λ p differ. refl;
        others = λ p differ. refl;
        heres = λ p. refl;
        reach = reach_same state next colours colours (ap (λ (t : State). t.cells) steps) refl;
      })
      (inside_keeps_shape graph state q job f function (End l) x (Goto leads.next) leads.next refl
      leads.no_return (open_at_block graph function leads.block leads.next starts)
      (λ self sets. let clash : ⊥ = cc in clash)) refl there.is s.sound
    where
      next : State
      next = step_of graph state q.job

      steps : next ≡ after_effect q.job (Goto leads.next) state
      steps = step_is graph state q job f function (End l) (Goto leads.next) x leads.is refl

      changes : ChangesFrame state next q f (turn_of (Goto leads.next) f)
      changes = subst (λ t. ChangesFrame state t q f (turn_of (Goto leads.next) f)) (sym steps)
          (inside_changes state q job f x.top (Goto leads.next) refl)

      starts : block_start function leads.block ≡ Some leads.next
      starts = sym (ap (option_and_then (λ (b : Function). block_start b leads.block)) x.is)
          ∙ leads.begins

      at : (a : Regions) × (value_at (states f.function) f.point ≡ Some a)
      at = state_at graph states state colours s q job f function (End l) x

      there : AnnotationStands (states f.function) leads.next
          (IsWeaker (elements_of graph.shapes function.regs) at.0)
      there = region.goes_on graph function (states f.function)
          (s.annotates f.function function x.is) f.point l x.here at.0 at.1 leads.index leads.block
          leads.next leads.among starts
