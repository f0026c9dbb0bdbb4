-- Stores: what is stored and what it is stored in come together, and so do their colours.
use Rattle.std.proofs.Common.{◌≡◌, ◌+◌, ℕ, true, false, Option, Some, None, List, length}
use Rattle.std.proofs.Common.{refl, sym, ◌∙◌}
use Rattle.sw_graph.specs.declared.function.Function.{Function}
use Rattle.sw_graph.specs.declared.graph.Graph.{Graph}
use Rattle.sw_graph.specs.declared.instr.Instr.{Instr}
use Rattle.sw_graph.specs.Points.{Middle}
use Rattle.sw_value.specs.declared.effect.Effect.{Effect}
use Rattle.sw_value.specs.declared.frame.Frame.{Frame}
use Rattle.sw_value.specs.declared.job.Job.{Job}
use Rattle.sw_value.specs.declared.state.State.{State}
use Rattle.sw_value.specs.Effect.{point_effect}
use Rattle.sw_partition.specs.Regions.{Regions}
use Rattle.sw_region_ops.specs.Elements.{elements_of}
use Rattle.sw_owner_facts.specs.Colours.{Colour}
use Rattle.sw_owner_facts.specs.View.{Element, Frame as Spot}
use Rattle.sw_region_facts.specs.Moves.{Gathers}
use Rattle.sw_region_facts.proofs.Weaker.{weaker_itself}
use Rattle.sw_view_facts.specs.Changes.{KeepsReach}
use Rattle.sw_view_facts.specs.Effects.{is_inside, next_of, register_of}
use Rattle.sw_view_facts.specs.Executing.{Executes}
use Rattle.sw_view_facts.specs.Renaming.{united}
use Rattle.sw_view_facts.specs.Standing.{StandsAt}
use Rattle.sw_view_facts.specs.Views.{Colours, annotated, makes_itself, over}
use Rattle.sw_view_facts.proofs.EffectLemmas.{over_other, over_there}
use Rattle.sw_view_facts.proofs.StepLemmas.{effect_goes_on}
use Rattle.sw_store_facts.specs.Sound.{HasSoundView, HaveHeres, IsColoured, MayBecomeOne}
use Rattle.sw_store_facts.proofs.Gathering.{united_between}
use Rattle.sw_store_facts.proofs.Stepping.{Row, keeps_shape, next_state, row}
use Rattle.sw_store_facts.proofs.Stepping.{stands_behind, steps}

module _ (graph : Graph) (states : ℕ → List (Option Regions)) (state : State) (colours : Colours)
    (s : IsColoured graph states state colours) (heres : HaveHeres graph states state colours)
    (q : Spot) (job : Job) (f : Frame) (function : Function) (instr : Instr)
    (x : StandsAt graph state q job f function (Middle instr)) where
  abbrev elements : List (Option ℕ)
  elements = elements_of graph.shapes function.regs

  abbrev next : State
  next = next_state graph states state colours s q job f function instr x

  abbrev here : Row graph states state colours s q job f function instr x
  here = row graph states state colours s q job f function instr x

  abbrev between : Spot → Option Regions
  between = over (annotated states state) q here.c

  module _ (xs : List Element) (gathers : Gathers elements xs here.a here.c) (kept : Colour)
      (numbers : List ℕ) (one : MayBecomeOne state colours q f xs kept numbers) where
    -- the effect sets no register, and no frame's reach changes
    pub stored : (e : Effect) → is_inside e ≡ true → next_of e ≡ Some (f.point + 1)
        → point_effect graph state (length job.frames) f (Middle instr) ≡ e → register_of e ≡ None
        → makes_itself graph function (Middle instr) ≡ false
        → KeepsReach state next (united q.job numbers kept colours)
        (united q.job numbers kept colours)
        → HasSoundView graph states next (united q.job numbers kept colours)
    stored e inside goes gives none ordinary reach =
        effect_goes_on graph states state next q f function e between (annotated states next)
        (united q.job numbers kept colours) (united q.job numbers kept colours) here.c here.c
        executing
        (keeps_shape graph states state colours s q job f function instr x e inside goes gives ordinary
        (λ r sets. absurd (let both : None ≡ Some r = sym none ∙ sets in
        let clash : ⊥ = cc in clash))) none (weaker_itself elements here.c)
        (united_between graph states state colours s q job f function instr x xs gathers heres kept
        numbers one)
      where
        executing : Executes graph states state next q f function e between (annotated states next)
            (united q.job numbers kept colours) (united q.job numbers kept colours) here.c here.c
        executing = record {
          job = job;
          top = x.top;
          is = x.is;
          steps = steps graph states state colours s q job f function instr x e inside goes gives;
          inside = inside;
          before = over_there (annotated states state) q here.c;
          behind = stands_behind graph states state colours s q job f function instr x e inside goes
              gives;
          elsewhere = λ p differ. over_other (annotated states state) q here.c p differ;
          others = λ p differ. refl;
          heres = λ p. refl;
          reach = reach;
        }
