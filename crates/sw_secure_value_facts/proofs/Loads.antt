-- What cells and globals have that are read: the colour of the cell, or of `Here`, or nothing.
use Rattle.std.proofs.Common.{◌≡◌, ℕ, Bool, true, false, not, Option, Some, None}
use Rattle.std.proofs.Common.{List, [], ◌∷◌, Contains, refl, sym, subst, ap, ◌∙◌, inl, inr}
use Rattle.std.specs.Option.{is_some, option_and_then, option_map, option_map_or}
use Rattle.std.specs.List.{slice_get, slice_index_or}
use Rattle.std.proofs.lemmas.Bool.{and_parts}
use Rattle.std.proofs.lemmas.Option.{slice_get-map}
use Rattle.sw_list.proofs.ListLemmas.{some_injective}
use Rattle.sw_list.proofs.Members.{in_one, member_at}
use Rattle.sw_graph.specs.declared.function.Function.{Function}
use Rattle.sw_graph.specs.declared.function.GlobalKind.{GlobalKind}
use Rattle.sw_graph.specs.declared.function.RegKind.{RegKind}
use Rattle.sw_graph.specs.declared.function.RegKind.TheVariants.{Plain}
use Rattle.sw_graph.specs.declared.graph.Graph.{Graph}
use Rattle.sw_graph.specs.declared.instr.Instr.TheVariants.{LoadGlobal, LoadProp}
use Rattle.sw_graph.specs.declared.instr.Operand.{Operand}
use Rattle.sw_graph.specs.Clean.{is_untracked, may_cross}
use Rattle.sw_graph.specs.Kinds.{is_cell, part, shape_of}
use Rattle.sw_graph.specs.Placed.{is_inside, is_inside_global, is_var_global, is_var_part}
use Rattle.sw_graph.specs.Bodies.{is_on}
use Rattle.sw_graph.specs.Points.{Middle, Point}
use Rattle.sw_types.specs.Sendable.{sends_at}
use Rattle.sw_value.specs.declared.cell.HeapCell.{HeapCell}
use Rattle.sw_value.specs.declared.cell.HeapCell.TheVariants as cell
use Rattle.sw_value.specs.declared.cell.Slot.{Slot}
use Rattle.sw_value.specs.declared.cell.Slot.TheVariants.{Content, Part}
use Rattle.sw_value.specs.declared.frame.Frame.{Frame}
use Rattle.sw_value.specs.declared.job.Job.{Job}
use Rattle.sw_value.specs.declared.state.State.{State}
use Rattle.sw_value.specs.declared.value.Value.{Value}
use Rattle.sw_value.specs.Cell.{slot_of}
use Rattle.sw_value.specs.Effect.{cell_at, loaded}
use Rattle.sw_value.specs.Value.{reference_at, value_at}
use Rattle.sw_partition.specs.Regions.{Regions}
use Rattle.sw_region_ops.specs.Elements.{element_at, elements_of}
use Rattle.sw_machine_kind_facts.proofs.PartLemmas.{goes_there}
use Rattle.sw_owner_facts.specs.Colours.{Colour}
use Rattle.sw_owner_facts.specs.Colours.{GlobalActor}
use Rattle.sw_owner_facts.specs.View.{Frame as Spot}
use Rattle.sw_reach_facts.specs.Coloured.{may_have_colour}
use Rattle.sw_reach_facts.specs.Named.{values_in}
use Rattle.sw_view_facts.specs.Standing.{StandsAt}
use Rattle.sw_view_facts.specs.Views.{Colours, here_at}
use Rattle.sw_store_facts.specs.Sound.{HasSlotColour, IsColoured, IsOfHere}
use Rattle.sw_store_facts.proofs.Getting.{from_some}
use Rattle.sw_secure_facts.specs.Memory.{OwnsMemory}
use Rattle.sw_secure_value_facts.proofs.Belongs.{belongs}
use Rattle.sw_store_facts.proofs.Referring.{OfCell, of_cell}
use Rattle.sw_view_facts.proofs.IsolationLemmas.{global_isolation, on_is}
use Rattle.sw_reach_facts.proofs.CellShapeLemmas.{HasShape, IsOfParts, has_part, has_shape}
use Rattle.sw_reach_facts.proofs.CellShapeLemmas.{of_parts, shape_here}
use Rattle.sw_reach_facts.proofs.ClassLemmas.{actor_sends}
use Rattle.sw_reach_facts.proofs.ElementLemmas.{named_element}
use Rattle.sw_store_facts.proofs.Standing.{crossing_bare, here_of, instr_at}

-- ---- slots
-- what a cell has in a slot is in it
pub in_slot : (slot : Slot) (h : HeapCell) (v : Value) → slot_of slot h ≡ Some v
    → Contains (values_in h) v
in_slot (Part i) (cell.Object k vs) v is = member_at vs i v is
in_slot (Part i) (cell.Actor k vs) v is = member_at vs i v is
in_slot (Part i) (cell.BoxOf w) v is = absurd (let clash : ⊥ = cc in clash)
in_slot (Part i) (cell.Closure f vs) v is = absurd (let clash : ⊥ = cc in clash)
in_slot (Part i) (cell.TaskOf j) v is = absurd (let clash : ⊥ = cc in clash)
in_slot Content (cell.BoxOf w) v is =
    subst (λ u. Contains (w ∷ []) u) (some_injective is) (in_one w)
in_slot Content (cell.Object k vs) v is = absurd (let clash : ⊥ = cc in clash)
in_slot Content (cell.Actor k vs) v is = absurd (let clash : ⊥ = cc in clash)
in_slot Content (cell.Closure f vs) v is = absurd (let clash : ⊥ = cc in clash)
in_slot Content (cell.TaskOf j) v is = absurd (let clash : ⊥ = cc in clash)

-- only a box has a content, and each box may have a colour
pub content_marked : (graph : Graph) (h : HeapCell) (v : Value) → slot_of Content h ≡ Some v
    → may_have_colour graph h ≡ true
content_marked graph (cell.BoxOf w) v is = refl
content_marked graph (cell.Object k vs) v is = cc
content_marked graph (cell.Actor k vs) v is = cc
content_marked graph (cell.Closure f vs) v is = cc
content_marked graph (cell.TaskOf j) v is = cc

-- the cell of a slot that is loaded
pub loaded_cell : (state : State) (f : Frame) (o : Operand) (slot : Slot) (v : Value)
    → loaded state f o slot ≡ Some v
    → (c : ℕ) × (h : HeapCell) × (reference_at f.regs o ≡ Some c)
    × (slice_get state.cells c ≡ Some h) × (slot_of slot h ≡ Some v)
loaded_cell state f o slot v is =
    let content = from_some (slot_of slot) (cell_at state f o) v is in
    let there = from_some (λ c. slice_get state.cells c) (reference_at f.regs o) content.0 content.1
    in
    (there.0, content.0, there.1, there.2, content.2)

module _ (graph : Graph) (state : State) (colours : Colours)
    (memory : OwnsMemory graph state colours) (f : Frame) where
  -- what a cell with a colour has in a slot reaches that colour alone
  pub slot_colour : (o : Operand) (slot : Slot) (c : ℕ) (h : HeapCell)
      → reference_at f.regs o ≡ Some c → slice_get state.cells c ≡ Some h → (own : Colour)
      → slice_index_or colours.cells c None ≡ Some own → HasSlotColour state colours f o slot
  slot_colour o slot c h reference there own is = record {
    colour = own;
    coloured = λ d names. ap (λ k. slice_index_or colours.cells k None)
        (some_injective (sym names ∙ reference)) ∙ is;
    one = λ v other has reached. memory.inside c h own v there is
        (in_slot slot h v (sym (ap (option_and_then (slot_of slot))
        (ap (option_and_then (λ c. slice_get state.cells c)) reference ∙ there)) ∙ has)) other
        reached;
  }

  -- so does what is in a box
  pub box_colour : (o : Operand) (v : Value) → loaded state f o Content ≡ Some v
      → HasSlotColour state colours f o Content
  box_colour o v is =
      let at = loaded_cell state f o Content v is in
      let own = memory.marked at.0 at.1 at.3 (content_marked graph at.1 v at.4) in
      slot_colour o Content at.0 at.1 at.2 at.3 own.0 own.1

module _ (graph : Graph) (states : ℕ → List (Option Regions)) (state : State) (colours : Colours)
    (s : IsColoured graph states state colours) (memory : OwnsMemory graph state colours) (q : Spot)
    (job : Job) (f : Frame) (function : Function) (point : Point)
    (x : StandsAt graph state q job f function point) where
  -- an object that is tracked has a colour
  pub tracked_coloured : (o : Operand) (n : ℕ)
      → element_at (elements_of graph.shapes function.regs) o.reg ≡ Some n → (c : ℕ) (h : HeapCell)
      (of : OfCell graph states state colours s q job f function point x o c h)
      (k : ℕ) (vs : List Value) → HasShape graph s.kinded.world h of.kind k vs
      → (may_have_colour graph h ≡ true)
      × ((own : Colour) × (slice_index_or colours.cells c None ≡ Some own))
  tracked_coloured o n tracked c h of k vs has = (may, memory.marked c h of.there may) where
    unsent : not (sends_at graph.shapes k) ≡ true
    unsent = sym (named_element graph function.regs o.reg of.kind k of.kind_is has.form)
        ∙ ap is_some tracked

    may : may_have_colour graph h ≡ true
    may = elim has.sort [
      | inl object ↦ ap (may_have_colour graph) object.0 ∙ unsent
      | inr actor ↦
          let clash : false ≡ true =
          sym (ap not (actor_sends graph.shapes k has.shape has.at actor.1)) ∙ unsent in
          absurd (let z : ⊥ = cc in z)
    ]

module _ (graph : Graph) (states : ℕ → List (Option Regions)) (state : State) (colours : Colours)
    (s : IsColoured graph states state colours) (memory : OwnsMemory graph state colours) (q : Spot)
    (job : Job) (f : Frame) (function : Function) where
  -- a part of an object that is tracked
  pub part_colour : (at dst : ℕ) (o : Operand) (i n : ℕ)
      → StandsAt graph state q job f function (Middle (LoadProp at dst o i))
      → element_at (elements_of graph.shapes function.regs) o.reg ≡ Some n → (v : Value)
      → loaded state f o (Part i) ≡ Some v → HasSlotColour state colours f o (Part i)
  part_colour at dst o i n x tracked v is =
      let there = loaded_cell state f o (Part i) v is in
      let of = of_cell graph states state colours s q job f function (Middle (LoadProp at dst o i))
      x o
      there.0 there.1 there.2 there.3 in
      let parts = of_parts there.1 i v there.4 in
      let has = has_shape graph s.kinded.world there.1 of.from of.kind of.fits of.goes parts.0 parts.1
      parts.2 in
      let own = (tracked_coloured graph states state colours s memory q job f function
      (Middle (LoadProp at dst o i)) x o n tracked there.0 there.1 of parts.0 parts.1 has).1 in
      slot_colour graph state colours memory f o (Part i) there.0 there.1 there.2 there.3 own.0
      own.1

  -- a part of any other cell
  pub part_of_here : (at dst : ℕ) (o : Operand) (i : ℕ)
      → StandsAt graph state q job f function (Middle (LoadProp at dst o i))
      → element_at (elements_of graph.shapes function.regs) o.reg ≡ None → (v : Value)
      → loaded state f o (Part i) ≡ Some v → IsOfHere state colours q v
  part_of_here at dst o i x none v is c reached =
      by (is_inside graph.shapes function o) refl
    where
      there : (c : ℕ) × (h : HeapCell) × (reference_at f.regs o ≡ Some c)
          × (slice_get state.cells c ≡ Some h) × (slot_of (Part i) h ≡ Some v)
      there = loaded_cell state f o (Part i) v is

      of : OfCell graph states state colours s q job f function (Middle (LoadProp at dst o i)) x o
          there.0 there.1
      of = of_cell graph states state colours s q job f function (Middle (LoadProp at dst o i)) x o
          there.0 there.1 there.2 there.3

      parts : (k : ℕ) × (vs : List Value) × IsOfParts there.1 k vs
      parts = of_parts there.1 i v there.4

      has : HasShape graph s.kinded.world there.1 of.kind parts.0 parts.1
      has = has_shape graph s.kinded.world there.1 of.from of.kind of.fits of.goes parts.0 parts.1
          parts.2

      by : (b : Bool) → is_inside graph.shapes function o ≡ b → here_at colours q ≡ c
      by true inside = elim (belongs graph states state colours s q job f function
          (Middle (LoadProp at dst o i)) x o there.0 there.1 of parts.0 parts.1 has none inside) [
            | inl own ↦ own.here ∙ sym (memory.kept there.0 there.1 own.owner v there.3 own.keeps
                (in_slot (Part i) there.1 v there.4) c reached)
            | inr may ↦
                let one = has_part graph s.kinded.world there.1 of.kind parts.0 parts.1 has i v there.4 in
                absurd (crossing_bare graph states state colours s q job f function
                (Middle (LoadProp at dst o i)) x v one.kind_of one.fits
                (may.crosses i one.kind_of one.among) c reached)
          ]
      by false outside =
          let one = has_part graph s.kinded.world there.1 of.kind parts.0 parts.1 has i v there.4 in
          let clean = and_parts (not (is_var_part graph.shapes function o i))
          (is_untracked graph
          (part (shape_of graph.shapes is_cell (slice_get function.regs o.reg)) i))
          (s.clean.reads f.function function x.is f.point (LoadProp at dst o i) x.here outside) in
          absurd (crossing_bare graph states state colours s q job f function
          (Middle (LoadProp at dst o i)) x v one.kind_of one.fits
          (sym (ap (λ k. is_untracked graph (part (shape_of graph.shapes is_cell k) i)) of.kind_is
          ∙ ap (λ p. is_untracked graph (part p i))
          (shape_here graph s.kinded.world there.1 of.kind parts.0 parts.1 has)
          ∙ ap (is_untracked graph) one.is) ∙ clean.1) c reached)

  -- a global
  pub global_of_here : (at dst g : ℕ)
      → StandsAt graph state q job f function (Middle (LoadGlobal at dst g)) → (v : Value)
      → value_at state.globals g ≡ Some v → IsOfHere state colours q v
  global_of_here at dst g x v is c reached =
      let goes = goes_there
      (option_map (λ (global : GlobalKind). Plain global.ty) (slice_get graph.globals g))
      (slice_get function.regs dst)
      (instr_at graph states state colours s q job f function (LoadGlobal at dst g) x).kinds in
      by (slice_get graph.globals g) refl goes.0 goes.2
    where
      inside_is : (kind : GlobalKind) → slice_get graph.globals g ≡ Some kind
          → is_inside_global graph.globals function g
          ≡ option_map_or (λ actor. is_on actor function.iso) kind.actor true
      inside_is kind there = ap (λ p. option_map_or (λ (global : GlobalKind).
          option_map_or (λ actor. is_on actor function.iso) global.actor true) p false) there

      found : (kind : GlobalKind) → slice_get graph.globals g ≡ Some kind → (b : Bool)
          → is_inside_global graph.globals function g ≡ b → here_at colours q ≡ c
      found kind there true inside =
          let own = memory.globals g kind v c there is reached in
          here_of graph states state colours s q job f function (Middle (LoadGlobal at dst g)) x
          (GlobalActor own.0) (global_isolation function f.regs own.0 (on_is own.0 function.iso
          (sym (ap (λ p. option_map_or (λ actor. is_on actor function.iso) p true) own.1)
          ∙ sym (inside_is kind there) ∙ inside))) ∙ sym own.2
      found kind there false outside =
          let clean = and_parts (not (is_var_global graph.globals g))
          (option_map_or (λ (global : GlobalKind). may_cross graph global.ty)
          (slice_get graph.globals g) false)
          (s.clean.reads f.function function x.is f.point (LoadGlobal at dst g) x.here outside) in
          absurd (crossing_bare graph states state colours s q job f function
          (Middle (LoadGlobal at dst g)) x v (Plain kind.ty)
          (s.kinded.fits.globals.each g v (Plain kind.ty) is
          (slice_get-map (λ (global : GlobalKind). Plain global.ty) graph.globals g
          ∙ ap (option_map (λ (global : GlobalKind). Plain global.ty)) there))
          (sym (ap (λ p. option_map_or (λ (global : GlobalKind). may_cross graph global.ty) p false)
          there) ∙ clean.1) c reached)

      by : (p : Option GlobalKind) → slice_get graph.globals g ≡ p → (from : RegKind)
          → option_map (λ (global : GlobalKind). Plain global.ty) p ≡ Some from
          → here_at colours q ≡ c
      by None there from goes = absurd (let clash : ⊥ = cc in clash)
      by (Some kind) there from goes =
          found kind there (is_inside_global graph.globals function g) refl
