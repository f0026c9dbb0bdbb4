-- An object of a class that isn't Sendable is made.
use Rattle.std.proofs.Common.{◌≡◌, ◌+◌, ℕ, true, false, cond, not, Option, Some}
use Rattle.std.proofs.Common.{None, List, ◌∷◌, length, Contains, refl, sym, subst, ap, ◌∙◌}
use Rattle.std.specs.Option.{option_map}
use Rattle.sw_list.proofs.Members.{first_in, later_in, in_flat_map}
use Rattle.sw_types.specs.Sendable.{sends_at}
use Rattle.sw_graph.specs.declared.function.Function.{Function}
use Rattle.sw_graph.specs.declared.graph.Graph.{Graph}
use Rattle.sw_graph.specs.declared.instr.Instr.TheVariants.{NewObject}
use Rattle.sw_graph.specs.declared.instr.Instr.{Instr}
use Rattle.sw_graph.specs.declared.instr.Operand.{Operand}
use Rattle.sw_graph.specs.Bodies.{actor_of}
use Rattle.sw_graph.specs.Points.{Middle}
use Rattle.sw_value.specs.declared.cell.HeapCell.{HeapCell}
use Rattle.sw_value.specs.declared.cell.HeapCell.TheVariants.{Object}
use Rattle.sw_value.specs.declared.effect.Effect.{Effect}
use Rattle.sw_value.specs.declared.effect.Effect.TheVariants.{New}
use Rattle.sw_value.specs.declared.frame.Frame.{Frame}
use Rattle.sw_value.specs.declared.job.Job.{Job}
use Rattle.sw_value.specs.declared.state.State.{State}
use Rattle.sw_value.specs.declared.value.Value.{Value}
use Rattle.sw_value.specs.Value.{values_at}
use Rattle.sw_partition.specs.Regions.{Regions}
use Rattle.sw_region_ops.specs.Elements.{elements_of}
use Rattle.sw_owner_facts.specs.Colours.{Colour, GlobalActor, OfJob}
use Rattle.sw_owner_facts.specs.View.{Element, Frame as Spot}
use Rattle.sw_region_facts.specs.Moves.{tracked}
use Rattle.sw_reach_facts.specs.Reached.{colours_of}
use Rattle.sw_reach_facts.specs.Coloured.{may_have_colour}
use Rattle.sw_view_facts.specs.Changes.{HoldsIn}
use Rattle.sw_view_facts.specs.Memory.{coloured_more}
use Rattle.sw_view_facts.specs.Renaming.{united}
use Rattle.sw_view_facts.specs.Views.{Colours, here_at, makes_itself}
use Rattle.sw_store_facts.proofs.Stepping.{row}
use Rattle.sw_secure_facts.specs.Executing.{Executing, MayJoin, StaysSecure}
use Rattle.sw_secure_facts.specs.Memory.{ReachesOnly}
use Rattle.sw_secure_facts.specs.Painting.{MayUnite, Unites, reached_by_all}
use Rattle.sw_secure_facts.proofs.Uniting.{joined_become, united_colour}
use Rattle.sw_secure_cell_facts.proofs.Adding.{HoldsItsOwn, reaches_kept}
use Rattle.sw_secure_cell_facts.proofs.Coloured.{coloured_joins, coloured_secure}
use Rattle.sw_secure_cell_facts.proofs.Made.{operands_named}
use Rattle.sw_store_facts.proofs.Operands.{operands_apart}
use Rattle.sw_secure_cell_facts.proofs.Operands.{of_operands}
use Rattle.sw_reach_facts.proofs.ClassLemmas.{without_actor}
use Rattle.sw_secure_cell_facts.proofs.Shapes.{no_initialiser}

module _ (graph : Graph) (states : ℕ → List (Option Regions)) (state : State) (colours : Colours)
    (q : Spot) (number : ℕ) (job : Job) (f : Frame) (function : Function) (at dst k : ℕ)
    (args : List Operand) (parts : List Value) (have : values_at f.regs args ≡ Some parts)
    (x : Executing graph states state colours q number job f function
    (Middle (NewObject at dst k args))
    (New dst (Object k parts) (length state.cells) (f.point + 1)))
    (never : sends_at graph.shapes k ≡ false) where
  abbrev instr : Instr
  instr = NewObject at dst k args

  abbrev cell : HeapCell
  cell = Object k parts

  abbrev effect : Effect
  effect = New dst cell (length state.cells) (f.point + 1)

  abbrev xs : List Element
  xs = tracked (elements_of graph.shapes function.regs) args

  abbrev own : Colour
  own = OfJob q.job number

  abbrev rest : List Colour
  rest = reached_by_all state colours parts

  abbrev more : Colours
  more = coloured_more (Some own) colours

  no_actor : actor_of graph.shapes k ≡ None
  no_actor = without_actor graph x.secure.coloured.clean k never

  ordinary : makes_itself graph function (Middle instr) ≡ false
  ordinary = no_initialiser graph function at dst k args no_actor

  may : may_have_colour graph cell ≡ true
  may = ap not never

  held : (c : Colour) → Contains rest c
      → (y : Element) × Contains xs y × HoldsIn state colours f (here_at colours q) y c
  held = of_operands graph states state colours x.secure.coloured q job f function instr x.stands
      args parts have

  holds : (after : Colours) (unites : Unites q.job (own ∷ rest) more after)
      → HoldsItsOwn graph state (united q.job unites.numbers unites.kept colours) cell
      (Some (united_colour q.job unites.numbers unites.kept own))
  holds after unites = record {
    marked = λ m. (united_colour q.job unites.numbers unites.kept own, refl);
    may = λ c is. may;
    named = operands_named graph states state colours x.secure.coloured x.secure.memory.count q job
        f function instr x.stands dst cell refl x.gives (Some own) (λ c is. may) args parts have;
    inside = λ c w is has. subst (ReachesOnly state (united q.job unites.numbers unites.kept
        colours) w) (let become = joined_become q.job (own ∷ rest) more after unites own (first_in
        own rest) in
        let e : unites.kept ≡ c = cc in e)
        (reaches_kept graph state colours more after q.job (own ∷ rest) unites w
        (λ d reached. later_in own rest d
        (in_flat_map (colours_of state.cells colours.cells) parts w d has reached)));
    kept = λ owner w is has.
        let clash : None ≡ Some owner = sym (ap (option_map GlobalActor) no_actor) ∙ is in
        absurd (let wrong : ⊥ = cc in wrong);
    global_closures = λ g actor captures c is. absurd (let clash : ⊥ = cc in clash);
    own_closures = λ g self captures c is. absurd (let clash : ⊥ = cc in clash);
  }

  pub object_stays : StaysSecure graph states state colours q number f (Middle instr) effect
  object_stays after paints =
      let unites : Unites q.job (own ∷ rest) more after =
      subst (λ b. Unites q.job (cond b (here_at colours q) own ∷ rest)
      (coloured_more (cond (not b) (Some own) None) colours) after) never paints in
      coloured_secure graph states state colours x.secure q job f function instr x.stands dst cell
      refl x.gives may ordinary number x.numbered xs
      (row graph states state colours x.secure.coloured q job f function instr x.stands).moves
      (operands_apart (elements_of graph.shapes function.regs) args dst
      (x.secure.coloured.clean.placed.sets f.function function x.stands.is f.point instr
      x.stands.here)) rest held after unites (holds after unites)

  pub object_joins : MayJoin graph state colours q number f (Middle instr) effect
  object_joins =
      subst (λ b. MayUnite q (cond b (here_at colours q) own ∷ rest)) (sym never)
      (coloured_joins graph states state colours x.secure q job f function instr x.stands dst cell
      refl x.gives may ordinary number x.numbered xs
      (row graph states state colours x.secure.coloured q job f function instr x.stands).moves
      (operands_apart (elements_of graph.shapes function.regs) args dst
      (x.secure.coloured.clean.placed.sets f.function function x.stands.is f.point instr
      x.stands.here)) rest held)
