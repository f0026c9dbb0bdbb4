-- A box is made.
use Rattle.std.proofs.Common.{◌≡◌, ◌+◌, ℕ, Option, Some, List, [], ◌∷◌, length}
use Rattle.std.proofs.Common.{Contains, refl, sym, subst, ap}
use Rattle.std.specs.Option.{option_and_then, option_map}
use Rattle.sw_list.proofs.Members.{first_in, later_in, one_in, in_flat_map, in_one}
use Rattle.sw_graph.specs.declared.function.Function.{Function}
use Rattle.sw_graph.specs.declared.graph.Graph.{Graph}
use Rattle.sw_graph.specs.declared.instr.Instr.TheVariants.{NewBox}
use Rattle.sw_graph.specs.declared.instr.Instr.{Instr}
use Rattle.sw_graph.specs.declared.instr.Operand.{Operand}
use Rattle.sw_graph.specs.Bodies.{is_own}
use Rattle.sw_graph.specs.Points.{Middle}
use Rattle.sw_value.specs.declared.cell.HeapCell.{HeapCell}
use Rattle.sw_value.specs.declared.cell.HeapCell.TheVariants.{BoxOf}
use Rattle.sw_value.specs.declared.effect.Effect.{Effect}
use Rattle.sw_value.specs.declared.effect.Effect.TheVariants.{New}
use Rattle.sw_value.specs.declared.frame.Frame.{Frame}
use Rattle.sw_value.specs.declared.job.Job.{Job}
use Rattle.sw_value.specs.declared.state.State.{State}
use Rattle.sw_value.specs.declared.value.Value.{Value}
use Rattle.sw_value.specs.Value.{operand_value, values_at}
use Rattle.sw_partition.specs.Regions.{Regions}
use Rattle.sw_region_ops.specs.Elements.{elements_of}
use Rattle.sw_owner_facts.specs.Colours.{Colour, OfJob}
use Rattle.sw_owner_facts.specs.View.{Element, Frame as Spot}
use Rattle.sw_region_facts.specs.Moves.{tracked}
use Rattle.sw_reach_facts.specs.Reached.{colours_of}
use Rattle.sw_view_facts.specs.Changes.{HoldsIn}
use Rattle.sw_view_facts.specs.Memory.{coloured_more}
use Rattle.sw_view_facts.specs.Renaming.{united}
use Rattle.sw_view_facts.specs.Views.{Colours, here_at}
use Rattle.sw_store_facts.proofs.Getting.{no_maker}
use Rattle.sw_store_facts.proofs.Stepping.{row}
use Rattle.sw_secure_facts.specs.Executing.{Executing, MayJoin, StaysSecure}
use Rattle.sw_secure_facts.specs.Memory.{ReachesOnly}
use Rattle.sw_secure_facts.specs.Painting.{Unites}
use Rattle.sw_secure_facts.proofs.Uniting.{joined_become, united_colour}
use Rattle.sw_secure_cell_facts.proofs.Adding.{HoldsItsOwn, reaches_kept}
use Rattle.sw_secure_cell_facts.proofs.Coloured.{coloured_joins, coloured_secure}
use Rattle.sw_secure_cell_facts.proofs.Made.{operands_named}
use Rattle.sw_store_facts.proofs.Operands.{operands_apart}
use Rattle.sw_secure_cell_facts.proofs.Operands.{of_operands}

module _ (graph : Graph) (states : ℕ → List (Option Regions)) (state : State) (colours : Colours)
    (q : Spot) (number : ℕ) (job : Job) (f : Frame) (function : Function) (at dst : ℕ)
    (src : Operand) (v : Value) (has_v : operand_value f.regs src ≡ Some v)
    (x : Executing graph states state colours q number job f function
    (Middle (NewBox at dst src)) (New dst (BoxOf v) (length state.cells) (f.point + 1))) where
  abbrev instr : Instr
  instr = NewBox at dst src

  abbrev cell : HeapCell
  cell = BoxOf v

  abbrev effect : Effect
  effect = New dst cell (length state.cells) (f.point + 1)

  abbrev xs : List Element
  xs = tracked (elements_of graph.shapes function.regs) (src ∷ [])

  abbrev own : Colour
  own = OfJob q.job number

  abbrev rest : List Colour
  rest = colours_of state.cells colours.cells v

  abbrev more : Colours
  more = coloured_more (Some own) colours

  values_are : values_at f.regs (src ∷ []) ≡ Some (v ∷ [])
  values_are = ap (option_and_then (λ y. option_map (λ ys. y ∷ ys) (Some []))) has_v

  held : (c : Colour) → Contains rest c
      → (y : Element) × Contains xs y × HoldsIn state colours f (here_at colours q) y c
  held c has = of_operands graph states state colours x.secure.coloured q job f function instr
      x.stands (src ∷ []) (v ∷ []) values_are c
      (in_flat_map (colours_of state.cells colours.cells) (v ∷ []) v c (in_one v) has)

  holds : (after : Colours) (unites : Unites q.job (own ∷ rest) more after)
      → HoldsItsOwn graph state (united q.job unites.numbers unites.kept colours) cell
      (Some (united_colour q.job unites.numbers unites.kept own))
  holds after unites = record {
    marked = λ m. (united_colour q.job unites.numbers unites.kept own, refl);
    may = λ c is. refl;
    named = operands_named graph states state colours x.secure.coloured x.secure.memory.count q job
        f function instr x.stands dst cell refl x.gives (Some own) (λ c is. refl) (src ∷ []) (v ∷
        []) values_are;
    inside = λ c w is has. subst (ReachesOnly state (united q.job unites.numbers unites.kept
        colours) w) (let become = joined_become q.job (own ∷ rest) more after unites own (first_in
        own rest) in
        let e : unites.kept ≡ c = cc in e)
        (reaches_kept graph state colours more after q.job (own ∷ rest) unites w
        (λ d reached. later_in own rest d
        (subst (λ u. Contains (colours_of state.cells colours.cells u) d) (sym (one_in v w has))
        reached)));
    kept = λ owner w is has. absurd (let clash : ⊥ = cc in clash);
    global_closures = λ g actor captures c is. absurd (let clash : ⊥ = cc in clash);
    own_closures = λ g self captures c is. absurd (let clash : ⊥ = cc in clash);
  }

  pub box_stays : StaysSecure graph states state colours q number f (Middle instr) effect
  box_stays after paints =
      coloured_secure graph states state colours x.secure q job f function instr x.stands dst cell
      refl x.gives refl (no_maker (is_own function.iso)) number x.numbered xs
      (row graph states state colours x.secure.coloured q job f function instr x.stands).moves
      (operands_apart (elements_of graph.shapes function.regs) (src ∷ []) dst
      (x.secure.coloured.clean.placed.sets f.function function x.stands.is f.point instr
      x.stands.here)) rest held after paints (holds after paints)

  pub box_joins : MayJoin graph state colours q number f (Middle instr) effect
  box_joins =
      coloured_joins graph states state colours x.secure q job f function instr x.stands dst cell
      refl x.gives refl (no_maker (is_own function.iso)) number x.numbered xs
      (row graph states state colours x.secure.coloured q job f function instr x.stands).moves
      (operands_apart (elements_of graph.shapes function.regs) (src ∷ []) dst
      (x.secure.coloured.clean.placed.sets f.function function x.stands.is f.point instr
      x.stands.here)) rest held
