-- Stores into boxes, parts and globals: what is stored has the place's colour, or the place is of
-- the actor that the body runs on.
use Rattle.std.proofs.Common.{◌≡◌, ◌+◌, ℕ, Bool, true, false, not, Option, Some, None, List, [], ◌∷◌}
use Rattle.std.proofs.Common.{length, Contains, refl, sym, subst, ap, ◌∙◌, inl, inr}
use Rattle.std.specs.Option.{option_and_then, option_map, unwrap_or}
use Rattle.std.specs.List.{slice_get, slice_index_or}
use Rattle.sw_list.proofs.ListLemmas.{some_injective}
use Rattle.sw_list.proofs.Members.{first_in, later_in, member_at, one_in}
use Rattle.sw_graph.specs.declared.function.Function.{Function}
use Rattle.sw_types.specs.Sendable.{sends_at}
use Rattle.sw_graph.specs.declared.graph.Graph.{Graph}
use Rattle.sw_graph.specs.declared.instr.Instr.{Instr}
use Rattle.sw_graph.specs.declared.instr.Instr.TheVariants.{StoreBox, StoreProp}
use Rattle.sw_graph.specs.declared.instr.Operand.{Operand}
use Rattle.sw_graph.specs.Clean.{IsClean}
use Rattle.sw_graph.specs.Points.{Middle}
use Rattle.sw_value.specs.declared.cell.HeapCell.{HeapCell}
use Rattle.sw_value.specs.declared.cell.HeapCell.TheVariants as cell
use Rattle.sw_value.specs.declared.cell.Slot.{Slot}
use Rattle.sw_value.specs.declared.cell.Slot.TheVariants.{Content, Part}
use Rattle.sw_value.specs.declared.effect.Effect.{Effect}
use Rattle.sw_value.specs.declared.effect.Effect.TheVariants as effect
use Rattle.sw_value.specs.declared.frame.Frame.{Frame}
use Rattle.sw_value.specs.declared.job.Job.{Job}
use Rattle.sw_value.specs.declared.state.State.{State}
use Rattle.sw_value.specs.declared.value.Value.{Value}
use Rattle.sw_value.specs.Cell.{slot_of}
use Rattle.sw_value.specs.Effect.{is_stuck, needs, point_effect, slot_at, slot_write}
use Rattle.sw_value.specs.Value.{operand_value, reference_at}
use Rattle.sw_partition.specs.Regions.{Regions}
use Rattle.sw_region_ops.specs.Elements.{element_at, elements_of}
use Rattle.sw_owner_facts.specs.Colours.{Actor as Owner, Colour, GlobalActor, OfActor}
use Rattle.sw_owner_facts.specs.View.{Here, Frame as Spot}
use Rattle.sw_region_facts.specs.Moves.{Gathers, tracked}
use Rattle.sw_region_facts.specs.Rows.{StoresPart}
use Rattle.sw_reach_facts.specs.Coloured.{may_have_colour}
use Rattle.sw_reach_facts.specs.Reached.{colours_of}
use Rattle.sw_view_facts.specs.Standing.{StandsAt}
use Rattle.sw_view_facts.specs.Views.{Colours, frame_at, here_at}
use Rattle.sw_store_facts.specs.Sound.{MayBecomeOne, stored_with}
use Rattle.sw_store_facts.proofs.Getting.{from_some, unstuck}
use Rattle.sw_store_facts.proofs.Stepping.{row}
use Rattle.sw_store_facts.proofs.Stores.{box_stores, found, part_stores}
use Rattle.sw_secure_facts.specs.Memory.{keeper}
use Rattle.sw_secure_facts.specs.Painting.{stored_colour}
use Rattle.sw_secure_facts.specs.Secure.{IsSecure}
use Rattle.sw_secure_facts.proofs.Heres.{have_heres}
use Rattle.sw_secure_value_facts.proofs.Belongs.{belongs}
use Rattle.sw_store_facts.proofs.Referring.{OfCell, cell_reached, of_cell}
use Rattle.sw_store_facts.proofs.Operands.{HeldBy, both_held, reaching_tracked, register_held}
use Rattle.sw_store_facts.proofs.Operands.{value_held}
use Rattle.sw_secure_value_facts.proofs.Keeping.{Keeps}
use Rattle.sw_secure_value_facts.proofs.Loads.{content_marked, tracked_coloured}
use Rattle.sw_reach_facts.proofs.CellShapeLemmas.{HasShape, IsOfParts, has_shape, of_parts}
use Rattle.sw_reach_facts.proofs.ClassLemmas.{without_actor}
use Rattle.sw_store_facts.proofs.Standing.{frame_there}
use Rattle.sw_secure_value_facts.proofs.Storing.{slot_kept}

-- a cell that may have a colour holds nothing that is an actor's
coloured_unkept : (graph : Graph) → IsClean graph → (c : ℕ) (h : HeapCell)
    → may_have_colour graph h ≡ true → keeper graph c h ≡ None
coloured_unkept graph clean c (cell.Object k vs) may =
    ap (option_map GlobalActor) (without_actor graph clean k (not_is (sends_at graph.shapes k) may))
  where
    not_is : (b : Bool) → not b ≡ true → b ≡ false
    not_is true is = cc
    not_is false is = refl
coloured_unkept graph clean c (cell.Actor k vs) may = cc
coloured_unkept graph clean c (cell.BoxOf v) may = refl
coloured_unkept graph clean c (cell.Closure f vs) may = refl
coloured_unkept graph clean c (cell.TaskOf j) may = cc

-- an option that is mapped to a constant
from_map : {X Y : Type 0} (y z : Y) (o : Option X) → option_map (λ old. y) o ≡ Some z
    → (x : X) × (o ≡ Some x) × (y ≡ z)
from_map y z None is = absurd (let clash : ⊥ = cc in clash)
from_map y z (Some x) is = (x, refl, some_injective is)

-- What a slot is written with, and the cell.
pub record WritesSlot (state : State) (f : Frame) (o : Operand) (slot : Slot) (src : Operand)
    (next : ℕ) : Type 0 where
  pub value : Value
  pub has : operand_value f.regs src ≡ Some value
  pub number : ℕ
  pub cell : HeapCell
  pub reference : reference_at f.regs o ≡ Some number
  pub there : slice_get state.cells number ≡ Some cell
  pub old : Value
  pub slot_is : slot_of slot cell ≡ Some old
  pub is : slot_write state f next o slot src ≡ effect.Write number slot value next

writes_slot : (state : State) (f : Frame) (o : Operand) (slot : Slot) (src : Operand) (next : ℕ)
    → is_stuck (slot_write state f next o slot src) ≡ false → WritesSlot state f o slot src next
writes_slot state f o slot src next free =
    let then : Value → Effect =
    λ v. needs (slot_at state f o slot) (λ c. effect.Write c slot v next) in
    let v = found (operand_value f.regs src) then free in
    let c = found (slot_at state f o slot) (λ c. effect.Write c slot v.0 next)
    (sym (ap (λ p. is_stuck (needs p then)) v.1) ∙ free) in
    let at = from_some
    (λ c. option_map (λ old. c) (option_and_then (slot_of slot) (slice_get state.cells c)))
    (reference_at f.regs o) c.0 c.1 in
    let mapped = from_map at.0 c.0 (option_and_then (slot_of slot) (slice_get state.cells at.0))
    at.2
    in
    let content = from_some (slot_of slot) (slice_get state.cells at.0) mapped.0 mapped.1 in
    record {
      value = v.0;
      has = v.1;
      number = at.0;
      cell = content.0;
      reference = at.1;
      there = content.1;
      old = mapped.0;
      slot_is = content.2;
      is = ap (λ p. needs p then) v.1
          ∙ ap (λ p. needs p (λ c. effect.Write c slot v.0 next)) c.1
          ∙ ap (λ n. effect.Write n slot v.0 next) (sym mapped.2);
    }

module _ (graph : Graph) (states : ℕ → List (Option Regions)) (state : State) (colours : Colours)
    (s : IsSecure graph states state colours) (q : Spot) (job : Job) (f : Frame)
    (function : Function) (number : ℕ) where
  abbrev elements : List (Option ℕ)
  elements = elements_of graph.shapes function.regs

  -- the cell has a colour, which the operand holds, and the value's colours are held
  own_held : (instr : Instr) (x : StandsAt graph state q job f function (Middle instr))
      (o : Operand) (slot : Slot) (src : Operand)
      (w : WritesSlot state f o slot src (f.point + 1))
      → OfCell graph states state colours s.coloured q job f function (Middle instr) x o w.number
      w.cell → (own : Colour) → slice_index_or colours.cells w.number None ≡ Some own
      → HeldBy state colours q f (tracked elements (o ∷ src ∷ []))
      (stored_colour colours q w.number ∷ colours_of state.cells colours.cells w.value)
  own_held instr x o slot src w of own is =
      both_held state colours q f (tracked elements (o ∷ src ∷ []))
      (stored_colour colours q w.number ∷ []) (colours_of state.cells colours.cells w.value)
      (λ c has. register_held graph s.coloured.clean state s.coloured.kinded colours s.coloured.have
      q f there function x.is (o ∷ src ∷ []) o (member_at (o ∷ src ∷ []) 0 o refl) c
      (subst (Contains _) (sym (ap (λ p. unwrap_or p (here_at colours q)) is)
      ∙ one_in (stored_colour colours q w.number) c has)
      (cell_reached graph states state colours s.coloured q job f function (Middle instr) x o
      w.number
      w.cell of own is)))
      (value_held graph s.coloured.clean state s.coloured.kinded colours s.coloured.have q f there
      function x.is (o ∷ src ∷ []) src w.value (member_at (o ∷ src ∷ []) 1 src refl) w.has)
    where
      there : frame_at state q ≡ Some f
      there = frame_there graph states state colours s.coloured q job f function (Middle instr) x

  -- a cell with a colour is no one's
  no_owner : (c : ℕ) (h : HeapCell) → may_have_colour graph h ≡ true → (other : HeapCell)
      (owner : Owner) → slice_get state.cells c ≡ Some h → slice_get state.cells c ≡ Some other
      → keeper graph c other ≡ Some owner → ⊥
  no_owner c h may other owner there also keeps =
      let same : h ≡ other = some_injective (sym there ∙ also) in
      let clash : None ≡ Some owner =
      sym (coloured_unkept graph s.coloured.clean c h may)
      ∙ ap (keeper graph c) same ∙ keeps in
      let z : ⊥ = cc in z

  -- a box
  pub box_store_kept : (at : ℕ) (o src : Operand)
      → StandsAt graph state q job f function (Middle (StoreBox at o src))
      → Keeps graph states state colours q number f (Middle (StoreBox at o src))
      (point_effect graph state (length job.frames) f (Middle (StoreBox at o src)))
  box_store_kept at o src x =
      let instr = StoreBox at o src in
      let w = writes_slot state f o Content src (f.point + 1)
      (unstuck graph states state colours s.coloured q job f function instr x) in
      let of = of_cell graph states state colours s.coloured q job f function (Middle instr) x o
      w.number w.cell w.reference w.there in
      let may = content_marked graph w.cell w.old w.slot_is in
      let own = s.memory.marked w.number w.cell w.there may in
      subst (Keeps graph states state colours q number f (Middle instr)) (sym w.is)
      (slot_kept graph states state colours s q job f function number instr x
      (tracked elements (o ∷ src ∷ []))
      (row graph states state colours s.coloured q job f function instr x).moves
      (box_stores graph states state colours s.coloured
      (have_heres graph states state colours s.heres) q job f function at o src x) w.value w.number
      Content w.is (own_held instr x o Content src w of own.0 own.1)
      (λ h owner there keeps. absurd (no_owner w.number w.cell may h owner w.there there keeps)))

  module _ (at : ℕ) (o : Operand) (i : ℕ) (src : Operand)
      (x : StandsAt graph state q job f function (Middle (StoreProp at o i src)))
      (w : WritesSlot state f o (Part i) src (f.point + 1)) where
    abbrev instr : Instr
    instr = StoreProp at o i src

    of : OfCell graph states state colours s.coloured q job f function (Middle instr) x o w.number
        w.cell
    of = of_cell graph states state colours s.coloured q job f function (Middle instr) x o w.number
        w.cell w.reference w.there

    of_shape : (k : ℕ) × (vs : List Value) × IsOfParts w.cell k vs
    of_shape = of_parts w.cell i w.old w.slot_is

    has : HasShape graph s.coloured.kinded.world w.cell of.kind of_shape.0 of_shape.1
    has = has_shape graph s.coloured.kinded.world w.cell of.from of.kind of.fits of.goes of_shape.0
        of_shape.1 of_shape.2

    there : frame_at state q ≡ Some f
    there = frame_there graph states state colours s.coloured q job f function (Middle instr) x

    moves : (p : Option ℕ) → element_at elements o.reg ≡ p
        → Gathers elements (stored_with elements p o src)
        (row graph states state colours s.coloured q job f function instr x).a
        (row graph states state colours s.coloured q job f function instr x).c
    moves p is = by p (subst (λ p. StoresPart elements p o src
        (row graph states state colours s.coloured q job f function instr x).a
        (row graph states state colours s.coloured q job f function instr x).c) is
        (row graph states state colours s.coloured q job f function instr x).moves)
      where
        by : {a c : Regions} (p : Option ℕ) → StoresPart elements p o src a c
            → Gathers elements (stored_with elements p o src) a c
        by {a} {c} (Some n) moves = moves
        by {a} {c} None moves = moves

    -- what is stored, by whether the cell is tracked
    part_kept : (p : Option ℕ) → element_at elements o.reg ≡ p
        → HeldBy state colours q f (stored_with elements p o src)
        (stored_colour colours q w.number ∷ colours_of state.cells colours.cells w.value)
        → ((h : HeapCell) (owner : Owner) → slice_get state.cells w.number ≡ Some h
        → keeper graph w.number h ≡ Some owner
        → stored_colour colours q w.number ≡ OfActor owner)
        → Keeps graph states state colours q number f (Middle instr)
        (effect.Write w.number (Part i) w.value (f.point + 1))
    part_kept p is held keeps =
        slot_kept graph states state colours s q job f function number instr x
        (stored_with elements p o src) (moves p is)
        (λ kept numbers one. part_stores graph states state colours s.coloured
        (have_heres graph states state colours s.heres) q job f function at o i src x kept numbers
        (subst (λ p. MayBecomeOne state colours q f (stored_with elements p o src) kept numbers)
        (sym is) one)) w.value w.number (Part i) w.is held keeps

    tracked_kept : (n : ℕ) → element_at elements o.reg ≡ Some n
        → Keeps graph states state colours q number f (Middle instr)
        (effect.Write w.number (Part i) w.value (f.point + 1))
    tracked_kept n is =
        let own = tracked_coloured graph states state colours s.coloured s.memory q job f function
        (Middle instr) x o n is w.number w.cell of of_shape.0 of_shape.1 has in
        part_kept (Some n) is (own_held instr x o (Part i) src w of own.1.0 own.1.1)
        (λ h owner also keeps. absurd
        (no_owner w.number w.cell own.0 h owner w.there also keeps))

    -- what isn't tracked has no colour
    uncoloured : element_at elements o.reg ≡ None
        → stored_colour colours q w.number ≡ here_at colours q
    uncoloured none = by (slice_index_or colours.cells w.number None) refl where
      by : (p : Option Colour) → slice_index_or colours.cells w.number None ≡ p
          → stored_colour colours q w.number ≡ here_at colours q
      by None is = ap (λ p. unwrap_or p (here_at colours q)) is
      by (Some own) is =
          let at = reaching_tracked graph s.coloured.clean state s.coloured.kinded colours
          s.coloured.have q f there function x.is o.reg own
          (cell_reached graph states state colours s.coloured q job f function (Middle instr) x o
          w.number w.cell of own is) in
          let clash : None ≡ Some at.0 = sym none ∙ at.1 in
          absurd (let z : ⊥ = cc in z)

    here_held : (stored : Colour) → stored ≡ here_at colours q
        → HeldBy state colours q f (Here ∷ tracked elements (src ∷ []))
        (stored ∷ colours_of state.cells colours.cells w.value)
    here_held stored is = both_held state colours q f (Here ∷ tracked elements (src ∷ []))
        (stored ∷ []) (colours_of state.cells colours.cells w.value)
        (λ c has. (Here, first_in Here (tracked elements (src ∷ [])), sym is ∙ one_in stored c has))
        (λ c has.
        let y = value_held graph s.coloured.clean state s.coloured.kinded colours s.coloured.have q
        f
        there function x.is (src ∷ []) src w.value (member_at (src ∷ []) 0 src refl) w.has c has in
        (y.0, later_in Here (tracked elements (src ∷ [])) y.0 y.1, y.2))

    untracked_kept : element_at elements o.reg ≡ None
        → Keeps graph states state colours q number f (Middle instr)
        (effect.Write w.number (Part i) w.value (f.point + 1))
    untracked_kept none = part_kept None none
        (here_held (stored_colour colours q w.number) (uncoloured none))
        (λ h owner also keeps. uncoloured none ∙ owned h owner also keeps)
      where
        owned : (h : HeapCell) (owner : Owner) → slice_get state.cells w.number ≡ Some h
            → keeper graph w.number h ≡ Some owner → here_at colours q ≡ OfActor owner
        owned h owner also keeps =
            let same : w.cell ≡ h = some_injective (sym w.there ∙ also) in
            let kept = ap (keeper graph w.number) same ∙ keeps in
            elim (belongs graph states state colours s.coloured q job f function (Middle instr) x o
            w.number w.cell of of_shape.0 of_shape.1 has none
            (s.coloured.clean.placed.accesses f.function function x.is f.point instr x.here)) [
              | inl own ↦ own.here ∙ ap OfActor (some_injective (sym own.keeps ∙ kept))
              | inr may ↦
                  let clash : None ≡ Some owner = sym may.keeps ∙ kept in
                  absurd (let z : ⊥ = cc in z)
            ]

  -- a part
  pub part_store_kept : (at : ℕ) (o : Operand) (i : ℕ) (src : Operand)
      → StandsAt graph state q job f function (Middle (StoreProp at o i src))
      → Keeps graph states state colours q number f (Middle (StoreProp at o i src))
      (point_effect graph state (length job.frames) f (Middle (StoreProp at o i src)))
  part_store_kept at o i src x =
      let w = writes_slot state f o (Part i) src (f.point + 1)
      (unstuck graph states state colours s.coloured q job f function (StoreProp at o i src) x) in
      subst (Keeps graph states state colours q number f (Middle (StoreProp at o i src))) (sym w.is)
      (by w (element_at elements o.reg) refl)
    where
      by : (w : WritesSlot state f o (Part i) src (f.point + 1)) (p : Option ℕ)
          → element_at elements o.reg ≡ p
          → Keeps graph states state colours q number f (Middle (StoreProp at o i src))
          (effect.Write w.number (Part i) w.value (f.point + 1))
      by w (Some n) is = tracked_kept at o i src x w n is
      by w None is = untracked_kept at o i src x w is
