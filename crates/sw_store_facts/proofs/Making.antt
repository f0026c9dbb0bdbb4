-- A struct, or a case of an enum, that is made of operands.
use Rattle.std.proofs.Common.{◌≡◌, ◌≢◌, ◌+◌, ℕ, Option, Some, None, List, length, Contains}
use Rattle.std.proofs.Common.{refl, sym, subst}
use Rattle.std.specs.Option.{option_map}
use Rattle.sw_graph.specs.declared.function.Function.{Function}
use Rattle.sw_graph.specs.declared.graph.Graph.{Graph}
use Rattle.sw_graph.specs.declared.instr.Instr.{Instr}
use Rattle.sw_graph.specs.declared.instr.Instr.TheVariants.{Make}
use Rattle.sw_graph.specs.declared.instr.Operand.{Operand}
use Rattle.sw_graph.specs.Bodies.{is_own}
use Rattle.sw_graph.specs.Points.{Middle}
use Rattle.sw_value.specs.declared.effect.Effect.TheVariants.{Set}
use Rattle.sw_value.specs.declared.frame.Frame.{Frame}
use Rattle.sw_value.specs.declared.job.Job.{Job}
use Rattle.sw_value.specs.declared.state.State.{State}
use Rattle.sw_value.specs.declared.value.Value.{Value}
use Rattle.sw_value.specs.Effect.{needs, point_effect, set_of}
use Rattle.sw_value.specs.Reach.{step_of}
use Rattle.sw_value.specs.Value.{made, values_at}
use Rattle.sw_partition.specs.Regions.{Regions}
use Rattle.sw_region_ops.specs.Elements.{element_at, elements_of}
use Rattle.sw_owner_facts.specs.Colours.{Colour}
use Rattle.sw_owner_facts.specs.View.{Element, Register, Frame as Spot}
use Rattle.sw_region_facts.specs.Moves.{if_tracked, tracked}
use Rattle.sw_region_facts.proofs.Comes.{makes_sets}
use Rattle.sw_reach_facts.specs.Reached.{colours_of}
use Rattle.sw_reach_facts.proofs.PartLemmas.{made_shows}
use Rattle.sw_view_facts.specs.Changes.{HoldsIn}
use Rattle.sw_view_facts.specs.Effects.{turn_of}
use Rattle.sw_view_facts.specs.Standing.{StandsAt}
use Rattle.sw_view_facts.specs.Views.{Colours, colours_by, here_at}
use Rattle.sw_store_facts.specs.Sound.{HasSoundView, IsColoured}
use Rattle.sw_store_facts.proofs.Copying.{set_bare, set_sound, reached}
use Rattle.sw_store_facts.proofs.Getting.{gets, no_maker}
use Rattle.sw_store_facts.proofs.Operands.{HeldBy, operands_apart, values_held}
use Rattle.sw_store_facts.proofs.Stepping.{Row, row, frame_is, next_state}

-- what is computed from an option
needs_map : {X : Type 0} (g : X → Value) (o : Option X) (r n : ℕ)
    → needs o (λ z. Set r (g z) n) ≡ set_of n r (option_map g o)
needs_map g None r n = refl
needs_map g (Some z) r n = refl

from_map : {X Y : Type 0} (g : X → Y) (o : Option X) (y : Y) → option_map g o ≡ Some y
    → (z : X) × (o ≡ Some z) × (g z ≡ y)
from_map g None y is = absurd (let clash : ⊥ = cc in clash)
from_map g (Some z) y is = (z, refl, let same : g z ≡ y = cc in same)

module _ (graph : Graph) (states : ℕ → List (Option Regions)) (state : State) (colours : Colours)
    (s : IsColoured graph states state colours) (q : Spot) (job : Job) (f : Frame)
    (function : Function) (at dst shape : ℕ) (tag : Option ℕ) (args : List Operand)
    (x : StandsAt graph state q job f function (Middle (Make at dst shape tag args))) where
  abbrev elements : List (Option ℕ)
  elements = elements_of graph.shapes function.regs

  abbrev instr : Instr
  instr = Make at dst shape tag args

  abbrev here : Row graph states state colours s q job f function instr x
  here = row graph states state colours s q job f function instr x

  abbrev sources : List Element
  sources = tracked elements args

  -- no operand is in the register that is set
  apart : (y : Element) → Contains sources y → y ≢ Register dst
  apart = operands_apart elements args dst
      (s.clean.placed.sets f.function function x.is f.point instr x.here)

  -- a colour that the parts reach is held by a tracked operand
  of_parts : (parts : List Value) → values_at f.regs args ≡ Some parts
      → HeldBy state colours q f sources
      (colours_of state.cells colours.cells (made tag parts))
  of_parts parts are c has =
      values_held graph s.clean state s.kinded colours s.have q f
      (frame_is graph states state colours s q job f function instr x) function x.is args parts are c
      (subst (λ l. Contains l c) (made_shows state.cells colours.cells tag parts) has)

  pub makes : HasSoundView graph states (step_of graph state q.job) colours
  makes =
      let got = gets graph states state colours s q job f function instr x dst
      (option_map (made tag) (values_at f.regs args))
      (needs_map (made tag) (values_at f.regs args) dst (f.point + 1)) in
      let parts = from_map (made tag) (values_at f.regs args) got.0 got.1 in
      set_sound graph states state colours s q job f function instr x (no_maker (is_own function.iso))
      dst got.0 refl got.2 (if_tracked (element_at elements dst) sources)
      (makes_sets elements dst sources here.a here.c here.moves apart)
      (brings got.0 got.2 parts.0 parts.1 parts.2)
    where
      brings : (v : Value)
          → (gives : point_effect graph state (length job.frames) f (Middle instr)
          ≡ Set dst v (f.point + 1))
          → (parts : List Value) → values_at f.regs args ≡ Some parts → made tag parts ≡ v
          → (c : Colour) → Contains (colours_by
          (next_state graph states state colours s q job f function instr x) colours
          (Some (turn_of (Set dst v (f.point + 1)) f)) dst) c
          → (y : Element) × Contains (if_tracked (element_at elements dst) sources) y
          × HoldsIn state colours f (here_at colours q) y c
      brings v gives parts are is c in_r = by (element_at elements dst) refl where
        by : (o : Option ℕ) → element_at elements dst ≡ o
            → (y : Element) × Contains (if_tracked o sources) y
            × HoldsIn state colours f (here_at colours q) y c
        by None none = absurd (set_bare graph states state colours s q job f function instr x
            (no_maker (is_own function.iso)) dst v refl gives none c in_r)
        by (Some n) there = of_parts parts are c
            (subst (λ w. Contains (colours_of state.cells colours.cells w) c) (sym is)
            (reached graph states state colours s q job f function instr x
            (no_maker (is_own function.iso)) dst v refl gives c in_r))
