-- In a secure state each running job that is about to access a place has a claim to it, so that two
-- of them are one.
use Rattle.std.proofs.Common.{◌≡◌, ℕ, Bool, true, false}
use Rattle.std.proofs.Common.{Option, Some, None, List, [], ◌∷◌, IsTrue, refl}
use Rattle.std.proofs.Common.{sym, subst, ap, ◌∙◌, inl, inr, arith}
use Rattle.std.specs.Option.{option_and_then, option_map, option_map_or, unwrap_or}
use Rattle.std.specs.List.{slice_get, slice_index_or}
use Rattle.sw_list.proofs.Members.{first_in}
use Rattle.sw_types.specs.declared.shape.Part.{Part}
use Rattle.sw_types.specs.declared.shape.Shape.{Shape}
use Rattle.sw_graph.specs.declared.function.Function.{Function}
use Rattle.sw_graph.specs.declared.function.GlobalKind.{GlobalKind}
use Rattle.sw_graph.specs.declared.graph.Graph.{Graph}
use Rattle.sw_graph.specs.declared.instr.Instr.{Instr}
use Rattle.sw_graph.specs.declared.instr.Instr.TheVariants as instr
use Rattle.sw_graph.specs.declared.instr.Operand.{Operand}
use Rattle.sw_graph.specs.Kinds.{is_cell, part}
use Rattle.sw_graph.specs.Kinds.{shape_of}
use Rattle.sw_graph.specs.Placed.{is_inside, is_inside_global, is_inside_shape, is_var_global}
use Rattle.sw_graph.specs.Placed as placed
use Rattle.sw_graph.specs.Points.{Middle}
use Rattle.sw_value.specs.declared.cell.HeapCell.{HeapCell}
use Rattle.sw_value.specs.declared.cell.HeapCell.TheVariants as cell
use Rattle.sw_value.specs.declared.frame.Frame.{Frame}
use Rattle.sw_value.specs.declared.job.Job.{Job}
use Rattle.sw_value.specs.declared.race.Access.{Access}
use Rattle.sw_value.specs.declared.race.Place.{Place}
use Rattle.sw_value.specs.declared.state.State.{State}
use Rattle.sw_value.specs.Access.{access_of, read_by, write_by}
use Rattle.sw_value.specs.Job.{is_running, is_running_status}
use Rattle.sw_value.specs.Racing.{Racing}
use Rattle.sw_value.specs.Value.{reference_at}
use Rattle.sw_partition.specs.Regions.{Regions}
use Rattle.sw_region_ops.specs.Elements.{element_at, elements_of}
use Rattle.sw_owner_facts.specs.Colours.{Actor, Colour, GlobalActor, On}
use Rattle.sw_owner_facts.specs.View.{IsolatedTo, Register, View}
use Rattle.sw_owner_facts.specs.View.{Frame as Spot}
use Rattle.sw_region_facts.specs.FrameRegions.{LiveIn}
use Rattle.sw_region_facts.specs.Rows.{LoadsPart, StoresPart}
use Rattle.sw_reach_facts.specs.Coloured.{may_have_colour}
use Rattle.sw_reach_facts.proofs.CellShapeLemmas.{HasShape, has_shape, shape_here}
use Rattle.sw_view_facts.specs.Standing.{StandsAt}
use Rattle.sw_view_facts.specs.Views.{Colours, annotated, isolation_in, view_of}
use Rattle.sw_view_facts.proofs.TopLemmas.{height_is}
use Rattle.sw_store_facts.proofs.Gathering.{held_live}
use Rattle.sw_store_facts.proofs.Operands.{among_tracked, reaching_tracked}
use Rattle.sw_store_facts.proofs.Referring.{OfCell, cell_reached, of_cell}
use Rattle.sw_store_facts.proofs.Standing.{stands_of}
use Rattle.sw_store_facts.proofs.Stepping.{frame_is, row}
use Rattle.sw_secure_facts.specs.Secure.{IsSecure}
use Rattle.sw_secure_facts.proofs.Belonging.{implied}
use Rattle.sw_secure_race_facts.proofs.Accessing.{AccessAt, NamesBox, NamesGlobal, NamesPart, access_at}
use Rattle.sw_secure_race_facts.proofs.Accessing.{names_box, names_global, names_part}
use Rattle.sw_secure_race_facts.specs.Places.{IsKept, cell_in}
use Rattle.sw_secure_race_facts.proofs.Claims.{Claims, one_claims}
use Rattle.sw_secure_race_facts.proofs.Insiders.{inside_global, inside_part}

module _ (graph : Graph) (states : ℕ → List (Option Regions)) (state : State) (colours : Colours)
    (s : IsSecure graph states state colours) where
  abbrev pub view : View
  view = view_of graph (annotated states state) state colours

  module _ (q : Spot) (job : Job) (f : Frame) (function : Function) (i : Instr)
      (x : StandsAt graph state q job f function (Middle i)) where
    abbrev elements : List (Option ℕ)
    elements = elements_of graph.shapes function.regs

    -- a function that is isolated to an actor stands on it
    stands_on : (actor : Actor) → isolation_in function f.regs ≡ IsolatedTo actor
        → (view.shape q).executor ≡ On actor
    stands_on = stands_of graph states state colours s.coloured q job f function (Middle i) x

    abbrev RefersTo : Operand → ℕ → HeapCell → Type 0
    RefersTo = OfCell graph states state colours s.coloured q job f function (Middle i) x

    referring : (operand : Operand) (c : ℕ) (h : HeapCell) → reference_at f.regs operand ≡ Some c
        → slice_get state.cells c ≡ Some h → RefersTo operand c h
    referring = of_cell graph states state colours s.coloured q job f function (Middle i) x

    -- a cell with a colour is held
    coloured_claim : (operand : Operand) (c : ℕ) (place : Place) (colour : Colour) (h : HeapCell)
        → RefersTo operand c h → cell_in place ≡ Some c
        → slice_index_or colours.cells c None ≡ Some colour
        → ((number : ℕ) → element_at elements operand.reg ≡ Some number
        → LiveIn elements (row graph states state colours s.coloured q job f function i x).a
        (Register operand.reg)) → Claims graph state colours view q place
    coloured_claim operand c place colour h of inside has live =
        let shows = cell_reached graph states state colours s.coloured q job f function (Middle i) x
        operand c h of colour has in
        let tracked = reaching_tracked graph s.coloured.clean state s.coloured.kinded colours
        s.coloured.have q f
        (frame_is graph states state colours s.coloured q job f function i x) function x.is operand.reg
        colour shows in
        inl (
          colour,
          record { number = c; inside = inside; is = has },
          (
            Register operand.reg,
            held_live graph states state colours s.coloured q job f function i x
                (Register operand.reg) colour (live tracked.0 tracked.1) shows,
          ),
        )

    -- a box has a colour
    box_claim : (operand : Operand) (place : Place) → NamesBox state f operand place
        → ((number : ℕ) → element_at elements operand.reg ≡ Some number
        → LiveIn elements (row graph states state colours s.coloured q job f function i x).a
        (Register operand.reg)) → Claims graph state colours view q place
    box_claim operand place named live =
        let colour = s.memory.marked named.number (cell.BoxOf named.value) named.is refl in
        coloured_claim operand named.number place colour.0 (cell.BoxOf named.value)
        (referring operand named.number (cell.BoxOf named.value) named.refers named.is)
        (ap cell_in named.place_is) colour.1 live

    -- a part is that of a cell with a colour, or of an actor that the body is isolated to
    part_claim : (operand : Operand) (index : ℕ) (place : Place)
        → NamesPart graph state f operand index place
        → (placed.is_var_part graph.shapes function operand index ≡ true
        → is_inside graph.shapes function operand ≡ true)
        → ((number : ℕ) → element_at elements operand.reg ≡ Some number
        → LiveIn elements (row graph states state colours s.coloured q job f function i x).a
        (Register operand.reg)) → Claims graph state colours view q place
    part_claim operand index place named inside live =
        by (slice_index_or colours.cells named.number None) refl
      where
        of : RefersTo operand named.number named.found
        of = referring operand named.number named.found named.refers named.is

        has : HasShape graph s.coloured.kinded.world named.found of.kind named.shape named.parts
        has = has_shape graph s.coloured.kinded.world named.found of.from of.kind of.fits of.goes
            named.shape named.parts named.sort

        shape_is : shape_of graph.shapes is_cell (slice_get function.regs operand.reg)
            ≡ Some has.shape
        shape_is = ap (shape_of graph.shapes is_cell) of.kind_is
            ∙ shape_here graph s.coloured.kinded.world named.found of.kind named.shape named.parts has

        var_here : placed.is_var_part graph.shapes function operand index ≡ true
        var_here =
            ap (λ o. option_map_or (λ (s : Shape). option_map_or (λ (p : Part). p.mutable)
            (slice_get s.parts index) false) o false) shape_is
            ∙ same_var (slice_get has.shape.parts index)
            (ap (λ o. unwrap_or (option_and_then (λ (s : Shape). option_map
            (λ (p : Part). p.mutable) (slice_get s.parts index)) o) false) (sym has.at)
            ∙ named.var)
          where
            same_var : (o : Option Part)
                → unwrap_or (option_map (λ (p : Part). p.mutable) o) false ≡ true
                → option_map_or (λ (p : Part). p.mutable) o false ≡ true
            same_var None e = e
            same_var (Some p) e = e

        by : (o : Option Colour) → slice_index_or colours.cells named.number None ≡ o
            → Claims graph state colours view q place
        by (Some colour) is = coloured_claim operand named.number place colour named.found of
            (ap cell_in named.place_is) is live
        by None none =
            let own = inside_part graph s.coloured.clean function f.regs operand named.number
            named.shape index named.parts named.found has.shape named.refers has.at has.sort
            named.var (bare (may_have_colour graph named.found) refl)
            (ap (λ o. option_map_or (is_inside_shape function operand) o false) (sym shape_is)
            ∙ inside var_here) in
            inr (
              own.0,
              subst (λ p. IsKept graph state colours p own.0) (sym named.place_is)
                  (none, (named.found, named.is, own.1)),
              stands_on own.0 own.2,
            )
          where
            bare : (b : Bool) → may_have_colour graph named.found ≡ b → b ≡ false
            bare false may = refl
            bare true may =
                let marked = s.memory.marked named.number named.found named.is may in
                let clash : None ≡ Some marked.0 = sym none ∙ marked.1 in
                absurd (let z : ⊥ = cc in z)

    global_claim : (number : ℕ) (place : Place) → NamesGlobal graph number place
        → is_inside_global graph.globals function number ≡ true
        → Claims graph state colours view q place
    global_claim number place named inside =
        let own = inside_global graph s.coloured.clean function f.regs number named.kind named.is
        named.mutable inside in
        inr (
          GlobalActor own.0,
          subst (λ p. IsKept graph state colours p (GlobalActor own.0)) (sym named.place_is)
              (named.kind, own.0, named.is, own.1, refl),
          stands_on (GlobalActor own.0) own.2,
        )

  var_global : (number : ℕ) (kind : GlobalKind) → slice_get graph.globals number ≡ Some kind
      → kind.mutable ≡ true → is_var_global graph.globals number ≡ true
  var_global number kind is mutable =
      ap (λ o. option_map_or (λ (k : GlobalKind). k.mutable) o false) is ∙ mutable

  -- a job has a claim to what it is about to access
  pub claims : (j : ℕ) (access : Access) (a : AccessAt graph state j access)
      → Claims graph state colours view a.q access.place
  claims j access a = by a.instr a.stands a.gives where
    by : (i : Instr) (x : StandsAt graph state a.q a.job a.frame a.function (Middle i))
        → access_of graph state j a.frame i ≡ Some access
        → Claims graph state colours view a.q access.place
    by (instr.LoadBox at dst cell) x gives =
        let here = row graph states state colours s.coloured a.q a.job a.frame a.function
        (instr.LoadBox at dst cell) x in
        box_claim a.q a.job a.frame a.function (instr.LoadBox at dst cell) x cell access.place
        (names_box (read_by j at) (λ place. refl) access state a.frame cell gives)
        (λ number is. here.moves.live)
    by (instr.StoreBox at cell src) x gives =
        let here = row graph states state colours s.coloured a.q a.job a.frame a.function
        (instr.StoreBox at cell src) x in
        box_claim a.q a.job a.frame a.function (instr.StoreBox at cell src) x cell access.place
        (names_box (write_by j at) (λ place. refl) access state a.frame cell gives)
        (λ number is. here.moves.uses.used (Register cell.reg)
        (among_tracked (elements_of graph.shapes a.function.regs) (cell ∷ src ∷ []) cell number
        (first_in cell (src ∷ [])) is))
    by (instr.LoadProp at dst cell index) x gives =
        let i = instr.LoadProp at dst cell index in
        let here = row graph states state colours s.coloured a.q a.job a.frame a.function i x in
        let elements = elements_of graph.shapes a.function.regs in
        part_claim a.q a.job a.frame a.function i x cell index access.place
        (names_part (read_by j at) (λ place. refl) access graph state a.frame cell index gives)
        (λ var. implied (placed.is_var_part graph.shapes a.function cell index)
        (is_inside graph.shapes a.function cell) var
        (s.coloured.clean.placed.accesses a.frame.function a.function x.is a.frame.point i x.here))
        (λ number is. (subst (λ o. LoadsPart elements o dst cell here.a here.c) is
        here.moves).live)
    by (instr.StoreProp at cell index src) x gives =
        let i = instr.StoreProp at cell index src in
        let here = row graph states state colours s.coloured a.q a.job a.frame a.function i x in
        let elements = elements_of graph.shapes a.function.regs in
        part_claim a.q a.job a.frame a.function i x cell index access.place
        (names_part (write_by j at) (λ place. refl) access graph state a.frame cell index gives)
        (λ var. s.coloured.clean.placed.accesses a.frame.function a.function x.is a.frame.point i
        x.here)
        (λ number is. (subst (λ o. StoresPart elements o cell src here.a here.c) is
        here.moves).uses.used (Register cell.reg)
        (among_tracked elements (cell ∷ src ∷ []) cell number (first_in cell (src ∷ [])) is))
    by (instr.LoadGlobal at dst global) x gives =
        let i = instr.LoadGlobal at dst global in
        let named = names_global (read_by j at) (λ place. refl) access graph global gives in
        global_claim a.q a.job a.frame a.function i x global access.place named
        (implied (is_var_global graph.globals global)
        (is_inside_global graph.globals a.function global)
        (var_global global named.kind named.is named.mutable)
        (s.coloured.clean.placed.accesses a.frame.function a.function x.is a.frame.point i x.here))
    by (instr.StoreGlobal at global src) x gives =
        let i = instr.StoreGlobal at global src in
        global_claim a.q a.job a.frame a.function i x global access.place
        (names_global (write_by j at) (λ place. refl) access graph global gives)
        (s.coloured.clean.placed.accesses a.frame.function a.function x.is a.frame.point i x.here)
    by (instr.Const at dst value) x gives = cc
    by (instr.Un at dst op src) x gives = cc
    by (instr.Bin at dst op left right) x gives = cc
    by (instr.Print at dst args) x gives = cc
    by (instr.Copy at dst src) x gives = cc
    by (instr.Field at dst src part) x gives = cc
    by (instr.Payload at dst src index) x gives = cc
    by (instr.SetField at target part src) x gives = cc
    by (instr.Make at dst shape tag args) x gives = cc
    by (instr.NewObject at dst shape args) x gives = cc
    by (instr.NewBox at dst src) x gives = cc
    by (instr.NewActor at dst shape args) x gives = cc
    by (instr.NewClosure at dst function captures) x gives = cc
    by (instr.Call at dst kind function args) x gives = cc
    by (instr.CallClosure at dst closure args) x gives = cc
    by (instr.NewTask at dst function captures) x gives = cc
    by (instr.Await at dst task) x gives = cc
    by (instr.Yield at dst) x gives = cc

  pub runs : (j : ℕ) (access : Access) (a : AccessAt graph state j access)
      → IsTrue (view.running a.q.job)
  unfolding is_running
  runs j access a = ap (λ o. option_map_or is_running o false) a.stands.top.there
      ∙ ap is_running_status a.stands.running

pub never_race : (graph : Graph) (states : ℕ → List (Option Regions)) (state : State)
    (colours : Colours) → IsSecure graph states state colours → Racing graph state → ⊥
never_race graph states state colours s (race, is_race) =
    let one = access_at graph state race.first.job race.first is_race.first_next in
    let other = access_at graph state race.second.job race.second is_race.second_next in
    let same = one_claims graph state colours (view_of graph (annotated states state) state colours)
    s.coloured.sound.owned one.q other.q race.second.place
    (runs graph states state colours s race.first.job race.first one)
    (runs graph states state colours s race.second.job race.second other)
    (height_is state one.q one.job one.frame one.stands.top)
    (height_is state other.q other.job other.frame other.stands.top)
    (subst (λ p. Claims graph state colours
    (view_of graph (annotated states state) state colours) one.q p) is_race.conflict.same
    (claims graph states state colours s race.first.job race.first one))
    (claims graph states state colours s race.second.job race.second other) in
    let order = is_race.order in
    let first = one.is_job in
    let second = other.is_job in
    omega (arith, order, same, first, second)
