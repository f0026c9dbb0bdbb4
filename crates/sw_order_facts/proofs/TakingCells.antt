-- What makes a cell hands what is the job's to takers alone.
use Rattle.std.proofs.Common.{◌≡◌, ◌+◌, inl, inr, ℕ, Bool, true, false, cond, Option, Some}
use Rattle.std.proofs.Common.{None, List, [], ◌∷◌, length, Contains, refl, sym, subst, ap, ◌∙◌}
use Rattle.std.proofs.Common.{arith}
use Rattle.std.specs.Option.{option_map}
use Rattle.std.specs.List.{slice_index_or}
use Rattle.std.proofs.lemmas.List.{get_or_append_left}
use Rattle.sw_list.proofs.ListLemmas.{some_injective}
use Rattle.sw_graph.specs.declared.function.Function.{Function}
use Rattle.sw_graph.specs.declared.graph.Graph.{Graph}
use Rattle.sw_graph.specs.declared.instr.Instr.TheVariants as instr
use Rattle.sw_graph.specs.Bodies.{actor_of, is_on, names}
use Rattle.sw_graph.specs.Points.{Point, Middle}
use Rattle.sw_value.specs.declared.cell.HeapCell.{HeapCell}
use Rattle.sw_value.specs.declared.cell.HeapCell.TheVariants as heap
use Rattle.sw_value.specs.declared.effect.Act.TheVariants.{Execute}
use Rattle.sw_value.specs.declared.effect.Effect.TheVariants as effect
use Rattle.sw_value.specs.declared.frame.Frame.{Frame}
use Rattle.sw_value.specs.declared.job.Job.{Job}
use Rattle.sw_value.specs.declared.state.State.{State}
use Rattle.sw_value.specs.Act.{act_of}
use Rattle.sw_partition.specs.Regions.{Regions}
use Rattle.std.proofs.lemmas.Bool.{and_parts}
use Rattle.sw_owner_facts.specs.Colours.{Actor, Colour, GlobalActor, Instance, OfActor, OfJob}
use Rattle.sw_owner_facts.specs.View.{Frame as Spot}
use Rattle.sw_reach_facts.specs.Coloured.{may_have_colour}
use Rattle.sw_view_facts.specs.Memory.{coloured_more}
use Rattle.sw_view_facts.specs.Standing.{StandsAt}
use Rattle.sw_view_facts.specs.Views.{Colours}
use Rattle.sw_view_facts.proofs.IsolationLemmas.{global_isolation, on_is}
use Rattle.sw_store_facts.proofs.Standing.{stands_of}
use Rattle.sw_secure_facts.specs.Executing.{Executing}
use Rattle.sw_secure_facts.specs.Memory.{keeper}
use Rattle.sw_secure_facts.specs.Painting.{Unites, cell_colour, joined_in_cell}
use Rattle.sw_secure_cell_facts.proofs.Adding.{colour_at_end}
use Rattle.sw_secure_cell_facts.proofs.Closing.{maker_placed}
use Rattle.sw_secure_cell_facts.proofs.Makers as makers
use Rattle.sw_secure_cell_facts.proofs.Makers.{MakesAt}
use Rattle.sw_owned_facts.proofs.Passing.{IsOfCell, cells_held}
use Rattle.sw_machine_name_facts.specs.Given.{made_cell}
use Rattle.sw_order_facts.specs.Taking.{AllTake, IsTakers, maker, own, runner}
use Rattle.sw_order_facts.proofs.Becoming.{united_bare, united_was}
use Rattle.sw_order_facts.proofs.Holding.{standing_runs}
use Rattle.sw_order_facts.proofs.Taking.{CellTakes, all_take}
use Rattle.sw_order_facts.proofs.TakingEffects.{of_held}

-- the colour that a cell is made with is the job's
new_colour : (b : Bool) (mine colour : Colour) → cond b (Some mine) None ≡ Some colour
    → colour ≡ mine
new_colour true mine colour is = sym (some_injective is)
new_colour false mine colour is = cc

mapped : {X Y : Type 0} (g : X → Y) (o : Option X) (y : Y) → option_map g o ≡ Some y
    → (x : X) × (o ≡ Some x) × (y ≡ g x)
mapped g None y is = cc
mapped g (Some x) y is = (x, refl, sym (some_injective is))

module _ (graph : Graph) (states : ℕ → List (Option Regions)) (state : State) (colours : Colours)
    (q : Spot) (number : ℕ) (job : Job) (f : Frame) (function : Function) (point : Point)
    (r : ℕ) (cell : HeapCell) (c next : ℕ)
    (x : Executing graph states state colours q number job f function point
    (effect.New r cell c next))
    (acts : act_of graph state q.job ≡ Some (Execute (effect.New r cell c next)))
    (next_cell : (k : ℕ) → made_cell (Execute (effect.New r cell c next)) ≡ Some k
    → k ≡ length state.cells) (after : Colours)
    (unites : Unites q.job (joined_in_cell graph state colours q number c cell)
    (coloured_more (cell_colour graph q.job number cell) colours) after) where
  abbrev Taker : Colour → Type 0
  Taker = IsTakers state q.job (Execute (effect.New r cell c next))

  abbrev base : Colours
  base = coloured_more (cell_colour graph q.job number cell) colours

  joined : (d : Colour) → Contains (joined_in_cell graph state colours q number c cell) d
      → Taker d
  joined d has = by (cells_held graph states state colours x.secure q job f function number point
      (length job.frames) r cell c next x.stands x.gives d has)
    where
      by : IsOfCell graph states state colours x.secure q job f function number c cell d → Taker d
      by (inl held) = of_held graph states state colours q number job f function point
          (effect.New r cell c next) x acts next_cell after d held
      by (inr (inl is)) = own number is
      by (inr (inr (k, parts, actor, is))) = maker c refl is

  -- the cell at the end is the one that is made
  made_at_end : (k : ℕ) → k ≡ length colours.cells
      → made_cell (Execute (effect.New r cell c next)) ≡ Some k
  made_at_end k end = ap Some (next_cell c refl ∙ sym x.secure.memory.count ∙ sym end)

  -- who keeps the new cell
  keeps : (k : ℕ) (actor : Actor) → made_cell (Execute (effect.New r cell c next)) ≡ Some k
      → keeper graph k cell ≡ Some actor → Taker (OfActor actor)
  keeps k actor made is = by (makers.made_at graph state (length job.frames) f point
      (effect.New r cell c next) x.gives refl)
    where
      same : (h : HeapCell) → effect.New r cell c next ≡ effect.New r h c next → cell ≡ h
      same h e = cc

      cell_is : (d n : ℕ) (h : HeapCell) → effect.New r cell c next ≡ effect.New d h n (f.point + 1)
          → cell ≡ h
      cell_is d n h e = cc

      by : MakesAt state f point (effect.New r cell c next) → Taker (OfActor actor)
      by (makers.box at dst src v p has makes) =
          let none = sym (ap (keeper graph k) (cell_is dst (length state.cells) (heap.BoxOf v) makes))
          ∙ is in
          absurd (let no : ⊥ = cc in no)
      by (makers.closure at dst g captures values p are makes) =
          let none = sym (ap (keeper graph k)
          (cell_is dst (length state.cells) (heap.Closure g values) makes)) ∙ is in
          absurd (let no : ⊥ = cc in no)
      by (makers.actor at dst n args parts p are makes) =
          let keeps : Some (Instance k) ≡ Some actor = sym (ap (keeper graph k)
          (cell_is dst (length state.cells) (heap.Actor n parts) makes)) ∙ is in
          maker k made (ap OfActor (sym (some_injective keeps)))
      by (makers.object at dst n args parts p are makes) =
          let keeps : option_map GlobalActor (actor_of graph.shapes n) ≡ Some actor =
          sym (ap (keeper graph k) (cell_is dst (length state.cells) (heap.Object n parts) makes))
          ∙ is in
          let global = mapped GlobalActor (actor_of graph.shapes n) actor keeps in
          let stands = subst (StandsAt graph state q job f function) p x.stands in
          let placed = maker_placed graph states state colours x.secure q job f function
          (instr.NewObject at dst n args) stands global.0 global.1 in
          let parts = and_parts (is_on global.0 function.iso) (names n function.result) placed.0 in
          runner (GlobalActor global.0)
          (standing_runs graph states state colours x.secure q job f function
          (Middle (instr.NewObject at dst n args)) stands (GlobalActor global.0)
          (stands_of graph states state colours x.secure.coloured q job f function
          (Middle (instr.NewObject at dst n args)) stands (GlobalActor global.0)
          (global_isolation function f.regs global.0 (on_is global.0 function.iso parts.0))))
          (ap OfActor global.2)

  coloured : (k : ℕ) (colour : Colour) → slice_index_or after.cells k None ≡ Some colour
      → CellTakes state colours q.job (effect.New r cell c next) k colour
  coloured k colour is =
      elim (united_was graph state q.job (joined_in_cell graph state colours q number c cell) base
      after unites k colour is) [
        | inl was ↦ elim (colour_at_end colours.cells (cell_colour graph q.job number cell) k colour
            was) [
              | inl old ↦ inl old
              | inr (end, new) ↦ inr (inr (
                made_at_end k end,
                own number (new_colour (may_have_colour graph cell) (OfJob q.job number) colour new),
              ))
            ]
        | inr (n, was, has) ↦ elim (colour_at_end colours.cells
            (cell_colour graph q.job number cell) k (OfJob q.job n) was) [
              | inl old ↦ inr (inl (n, old, joined colour has))
              | inr (end, new) ↦ inr (inr (made_at_end k end, joined colour has))
            ]
      ]

  pub cells_take : AllTake graph state colours q.job (Execute (effect.New r cell c next)) after
  cells_take = all_take graph state colours after q.job (effect.New r cell c next) acts next_cell
      coloured
      (λ k is low. sym (get_or_append_left colours.cells
      (cell_colour graph q.job number cell ∷ []) None k
      (let count = x.secure.memory.count in omega (arith, low, count)))
      ∙ united_bare graph state q.job (joined_in_cell graph state colours q number c cell) base after
      unites k is)
      (λ k h actor made added is. keeps k actor made (ap (keeper graph k) (some_injective added) ∙ is))
