-- Where the colours come from that a step makes one, by operands: the top frame holds them live.
use Rattle.std.proofs.Common.{◌≡◌, ◌+◌, ◌++◌, ℕ, Bool, true, false, cond, Option, Some, None, List}
use Rattle.std.proofs.Common.{[], ◌∷◌, Contains, refl, sym, subst, ap, ◌∙◌}
use Rattle.std.proofs.Common.{inl, inr}
use Rattle.std.specs.Prelude.{Result, Ok, Err, unwrap_or}
use Rattle.std.specs.Option.{option_and_then, option_map}
use Rattle.std.specs.List.{slice_get, slice_index_or}
use Rattle.std.proofs.lemmas.List.Elements.{Contains-append_cases}
use Rattle.sw_list.proofs.Members.{first_in, first_or_later, later_in, none_in}
use Rattle.sw_list.proofs.ListLemmas.{some_injective}
use Rattle.sw_graph.specs.declared.function.Function.{Function}
use Rattle.sw_graph.specs.declared.graph.Graph.{Graph}
use Rattle.sw_graph.specs.declared.instr.Instr.{Instr}
use Rattle.sw_graph.specs.declared.instr.Instr.TheVariants as instr
use Rattle.sw_graph.specs.declared.instr.Last.TheVariants as last
use Rattle.sw_graph.specs.declared.instr.Operand.{Operand}
use Rattle.sw_graph.specs.Points.{Point, Middle, End}
use Rattle.sw_value.specs.declared.cell.HeapCell.{HeapCell}
use Rattle.sw_value.specs.declared.cell.Slot.{Slot}
use Rattle.sw_value.specs.declared.cell.Slot.TheVariants.{Part, Content}
use Rattle.sw_value.specs.declared.effect.Effect.{Effect}
use Rattle.sw_value.specs.declared.effect.Effect.TheVariants as effect
use Rattle.sw_value.specs.declared.frame.Frame.{Frame}
use Rattle.sw_value.specs.declared.job.Job.{Job}
use Rattle.sw_value.specs.declared.state.State.{State}
use Rattle.sw_value.specs.declared.state.TrapKind.{TrapKind}
use Rattle.sw_value.specs.declared.value.Value.{Value}
use Rattle.sw_value.specs.Cell.{slot_of}
use Rattle.sw_value.specs.Effect.{computed_of, needs, point_effect, slot_at, slot_write}
use Rattle.sw_value.specs.Value.{field_of, made, operand_value, reference_at, values_at}
use Rattle.sw_color_rules.specs.Plans.{is_make}
use Rattle.sw_partition.specs.Regions.{Regions}
use Rattle.sw_region_ops.specs.Elements.{element_at, elements_of}
use Rattle.sw_owner_facts.specs.Colours.{Colour}
use Rattle.sw_owner_facts.specs.View.{Element, Here, HoldsLive, Frame as Spot}
use Rattle.sw_region_facts.specs.FrameRegions.{LiveIn}
use Rattle.sw_region_facts.specs.Moves.{tracked}
use Rattle.sw_region_facts.specs.Rows.{StoresPart}
use Rattle.sw_reach_facts.specs.Reached.{colours_of}
use Rattle.sw_reach_facts.proofs.PartLemmas.{made_shows}
use Rattle.sw_view_facts.specs.Standing.{StandsAt}
use Rattle.sw_view_facts.specs.Views.{Colours, colours_by, here_at, view_at}
use Rattle.sw_store_facts.proofs.Gathering.{held_live}
use Rattle.sw_store_facts.proofs.Getting.{from_some}
use Rattle.sw_store_facts.proofs.Operands.{HeldBy, reaching_tracked, register_held, value_held}
use Rattle.sw_store_facts.proofs.Operands.{values_held}
use Rattle.sw_store_facts.proofs.Referring.{OfCell, cell_reached, of_cell}
use Rattle.sw_store_facts.proofs.Stepping.{Row, frame_is, row}
use Rattle.sw_secure_facts.specs.Painting.{joined_by, reached_by_all, stored_colour}
use Rattle.sw_secure_facts.specs.Secure.{IsSecure}

-- the cell with a slot that an operand refers to
slot_there : (state : State) (f : Frame) (o : Operand) (slot : Slot) (c : ℕ)
    → slot_at state f o slot ≡ Some c
    → (cell : HeapCell) × (reference_at f.regs o ≡ Some c) × (slice_get state.cells c ≡ Some cell)
slot_there state f o slot c is =
    let at = from_some (λ k. option_map (λ old. k)
    (option_and_then (slot_of slot) (slice_get state.cells k))) (reference_at f.regs o) c is in
    by at.0 at.1 (slice_get state.cells at.0) refl at.2
  where
    mapped : (k : ℕ) (o : Option Value) → option_map (λ old. k) o ≡ Some c → k ≡ c
    mapped k None same = absurd (let no : ⊥ = cc in no)
    mapped k (Some v) same = some_injective same

    by : (k : ℕ) → reference_at f.regs o ≡ Some k → (p : Option HeapCell)
        → slice_get state.cells k ≡ p
        → option_map (λ old. k) (option_and_then (slot_of slot) p) ≡ Some c
        → (cell : HeapCell) × (reference_at f.regs o ≡ Some c)
        × (slice_get state.cells c ≡ Some cell)
    by k refers None there same = absurd (let no : ⊥ = cc in no)
    by k refers (Some cell) there same =
        let is = mapped k (slot_of slot cell) same in
        (cell, refers ∙ ap (λ n. Some n) is, ap (slice_get state.cells) (sym is) ∙ there)

module _ (graph : Graph) (states : ℕ → List (Option Regions)) (state : State) (colours : Colours)
    (s : IsSecure graph states state colours) (q : Spot) (job : Job) (f : Frame)
    (function : Function) where
  -- the top frame holds the colour live
  abbrev pub IsHeld : Colour → Type 0
  IsHeld c = (y : Element) × HoldsLive (view_at graph states state colours) q y c

  abbrev pub AreHeld : List Colour → Type 0
  AreHeld cs = (c : Colour) → Contains cs c → IsHeld c

  pub none_held : AreHeld []
  none_held c has = absurd (none_in c has)

  both_held : (cs ds : List Colour) → AreHeld cs → AreHeld ds → AreHeld (cs ++ ds)
  both_held cs ds one other c has = elim (Contains-append_cases cs ds c has) [
    | inl first ↦ one c first
    | inr second ↦ other c second
  ]

  pub more_held : (d : Colour) (cs : List Colour) → IsHeld d → AreHeld cs → AreHeld (d ∷ cs)
  more_held d cs one other c has = elim (first_or_later d cs c has) [
    | inl same ↦ subst IsHeld same one
    | inr there ↦ other c there
  ]

  abbrev elements : List (Option ℕ)
  elements = elements_of graph.shapes function.regs

  -- the colours that an effect joins which makes no cell, frame or job
  abbrev pub values_of : ℕ → Point → Effect → List Colour
  values_of number point (effect.New r cell c next) = []
  values_of number point (effect.Enter frame next) = []
  values_of number point (effect.Spawn r frame made cell next) = []
  values_of number point (effect.Set r v next) =
      joined_by graph state colours q number f point (effect.Set r v next)
  values_of number point (effect.SetField r i v next) =
      joined_by graph state colours q number f point (effect.SetField r i v next)
  values_of number point (effect.Write c slot v next) =
      joined_by graph state colours q number f point (effect.Write c slot v next)
  values_of number point (effect.WriteGlobal g v next) =
      joined_by graph state colours q number f point (effect.WriteGlobal g v next)
  values_of number point (effect.Print r line next) = []
  values_of number point (effect.Goto next) = []
  values_of number point (effect.Wait on r next) = []
  values_of number point (effect.Rest r next) = []
  values_of number point (effect.Leave v) = []
  values_of number point (effect.Halt kind at) = []
  values_of number point effect.Stuck = []

  -- ---- an instruction
  module _ (i : Instr) (x : StandsAt graph state q job f function (Middle i)) where
    abbrev here : Row graph states state colours s.coloured q job f function i x
    here = row graph states state colours s.coloured q job f function i x

    -- these operands are live
    abbrev pub AreUsed : List Operand → Type 0
    AreUsed args = (y : Element) → Contains (tracked elements args) y → LiveIn elements here.a y

    pub here_held : IsHeld (here_at colours q)
    here_held = (
      Here,
      held_live graph states state colours s.coloured q job f function i x Here
          (here_at colours q) tt refl,
    )

    live_held : (args : List Operand) → AreUsed args → (cs : List Colour)
        → HeldBy state colours q f (tracked elements args) cs → AreHeld cs
    live_held args used cs held c has =
        let y = held c has in (
          y.0,
          held_live graph states state colours s.coloured q job f function i x y.0 c
              (used y.0 y.1) y.2,
        )

    -- what the values of live operands reach
    pub operands_held : (args : List Operand) → AreUsed args → (values : List Value)
        → values_at f.regs args ≡ Some values → AreHeld (reached_by_all state colours values)
    operands_held args used values are = live_held args used (reached_by_all state colours values)
        (values_held graph s.coloured.clean state s.coloured.kinded colours s.coloured.have q f
        (frame_is graph states state colours s.coloured q job f function i x) function x.is args
        values are)

    pub operand_held : (args : List Operand) → AreUsed args → (o : Operand) (v : Value)
        → Contains args o → operand_value f.regs o ≡ Some v
        → AreHeld (colours_of state.cells colours.cells v)
    operand_held args used o v among has = live_held args used
        (colours_of state.cells colours.cells v)
        (value_held graph s.coloured.clean state s.coloured.kinded colours s.coloured.have q f
        (frame_is graph states state colours s.coloured q job f function i x) function x.is args o v
        among has)

    slot_held : (args : List Operand) → AreUsed args → (o : Operand) → Contains args o
        → AreHeld (colours_by state colours (Some f) o.reg)
    slot_held args used o among = live_held args used (colours_by state colours (Some f) o.reg)
        (register_held graph s.coloured.clean state s.coloured.kinded colours s.coloured.have q f
        (frame_is graph states state colours s.coloured q job f function i x) function x.is args o
        among)

    -- ---- a part of a struct is set
    pub field_held : (target src : Operand) → AreUsed (target ∷ src ∷ []) → (part : ℕ) (v : Value)
        → operand_value f.regs src ≡ Some v
        → AreHeld (colours_by state colours (Some f) target.reg
        ++ colours_of state.cells colours.cells v)
    field_held target src used part v has =
        both_held (colours_by state colours (Some f) target.reg)
        (colours_of state.cells colours.cells v)
        (slot_held (target ∷ src ∷ []) used target (first_in target (src ∷ [])))
        (operand_held (target ∷ src ∷ []) used src v
        (later_in target (src ∷ []) src (first_in src [])) has)

    -- ---- a cell is written
    cell_held : (args : List Operand) → AreUsed args → (o : Operand) (c : ℕ) (cell : HeapCell)
        → OfCell graph states state colours s.coloured q job f function (Middle i) x o c cell
        → ((n : ℕ) → element_at elements o.reg ≡ Some n → Contains args o)
        → IsHeld (stored_colour colours q c)
    cell_held args used o c cell of among = by (slice_index_or colours.cells c None) refl where
      by : (p : Option Colour) → slice_index_or colours.cells c None ≡ p
          → IsHeld (unwrap_or p (here_at colours q))
      by None is = here_held
      by (Some own) is =
          let shows = cell_reached graph states state colours s.coloured q job f function (Middle i)
          x o c cell of own is in
          let at = reaching_tracked graph s.coloured.clean state s.coloured.kinded colours
          s.coloured.have q f (frame_is graph states state colours s.coloured q job f function i x)
          function x.is o.reg own shows in
          slot_held args used o (among at.0 at.1) own shows

    written_held : (args : List Operand) → AreUsed args → (number next : ℕ) (o : Operand)
        (slot : Slot) (src : Operand) → Contains args src
        → ((n : ℕ) → element_at elements o.reg ≡ Some n → Contains args o)
        → AreHeld (values_of number (Middle i) (slot_write state f next o slot src))
    written_held args used number next o slot src among_src among =
        by (operand_value f.regs src) refl
      where
        cell : (v : Value) → operand_value f.regs src ≡ Some v → (p : Option ℕ)
            → slot_at state f o slot ≡ p
            → AreHeld (values_of number (Middle i) (needs p (λ c. effect.Write c slot v next)))
        cell v has None is = none_held
        cell v has (Some c) is =
            let at = slot_there state f o slot c is in
            more_held (stored_colour colours q c) (colours_of state.cells colours.cells v)
            (cell_held args used o c at.0
            (of_cell graph states state colours s.coloured q job f function (Middle i) x o c at.0
            at.1 at.2) among)
            (operand_held args used src v among_src has)

        by : (p : Option Value) → operand_value f.regs src ≡ p
            → AreHeld (values_of number (Middle i) (needs p (λ v. needs (slot_at state f o slot)
            (λ c. effect.Write c slot v next))))
        by None is = none_held
        by (Some v) is = cell v is (slot_at state f o slot) refl

  -- ---- effects that make no cell, frame or job
  module _ (number : ℕ) where
    abbrev ValuesAt : Point → Effect → Type 0
    ValuesAt point e = AreHeld (values_of number point e)

    set_at : (at : ℕ) (target : Operand) (part : ℕ) (src : Operand)
        → StandsAt graph state q job f function (Middle (instr.SetField at target part src))
        → (next : ℕ) → ValuesAt (Middle (instr.SetField at target part src))
        (needs (operand_value f.regs src)
        (λ v. needs (option_and_then (field_of part) (operand_value f.regs target))
        (λ old. effect.SetField target.reg part v next)))
    set_at at target part src x next = by (operand_value f.regs src) refl where
      i : Instr
      i = instr.SetField at target part src

      old : (v : Value) → operand_value f.regs src ≡ Some v → (p : Option Value)
          → ValuesAt (Middle (instr.SetField at target part src))
          (needs p (λ old. effect.SetField target.reg part v next))
      old v has None = none_held
      old v has (Some w) = field_held (instr.SetField at target part src) x target src
          (row graph states state colours s.coloured q job f function
          (instr.SetField at target part src) x).moves.uses.used part v has

      by : (p : Option Value) → operand_value f.regs src ≡ p
          → ValuesAt (Middle (instr.SetField at target part src)) (needs p
          (λ v. needs (option_and_then (field_of part) (operand_value f.regs target))
          (λ old. effect.SetField target.reg part v next)))
      by None is = none_held
      by (Some v) is = old v is (option_and_then (field_of part) (operand_value f.regs target))

    made_at : (at dst shape : ℕ) (tag : Option ℕ) (args : List Operand)
        → StandsAt graph state q job f function (Middle (instr.Make at dst shape tag args))
        → (next : ℕ) → ValuesAt (Middle (instr.Make at dst shape tag args))
        (needs (values_at f.regs args) (λ parts. effect.Set dst (made tag parts) next))
    made_at at dst shape tag args x next = by (values_at f.regs args) refl where
      by : (p : Option (List Value)) → values_at f.regs args ≡ p
          → ValuesAt (Middle (instr.Make at dst shape tag args))
          (needs p (λ parts. effect.Set dst (made tag parts) next))
      by None is = none_held
      by (Some parts) is = subst AreHeld (sym (made_shows state.cells colours.cells tag parts))
          (operands_held (instr.Make at dst shape tag args) x args
          (row graph states state colours s.coloured q job f function
          (instr.Make at dst shape tag args) x).moves.used parts is)

    part_at : (at : ℕ) (o : Operand) (part : ℕ) (src : Operand)
        → StandsAt graph state q job f function (Middle (instr.StoreProp at o part src))
        → (next : ℕ) → ValuesAt (Middle (instr.StoreProp at o part src))
        (slot_write state f next o (Part part) src)
    part_at at o part src x next = by (element_at elements o.reg) refl
        (row graph states state colours s.coloured q job f function
        (instr.StoreProp at o part src) x).moves
      where
        by : (p : Option ℕ) → element_at elements o.reg ≡ p
            → StoresPart elements (element_at elements o.reg) o src
            (row graph states state colours s.coloured q job f function
            (instr.StoreProp at o part src) x).a
            (row graph states state colours s.coloured q job f function
            (instr.StoreProp at o part src) x).c
            → ValuesAt (Middle (instr.StoreProp at o part src))
            (slot_write state f next o (Part part) src)
        by (Some n) is moves =
            let gathers = subst (λ p. StoresPart elements p o src
            (row graph states state colours s.coloured q job f function
            (instr.StoreProp at o part src) x).a
            (row graph states state colours s.coloured q job f function
            (instr.StoreProp at o part src) x).c) is moves in
            written_held (instr.StoreProp at o part src) x (o ∷ src ∷ []) gathers.uses.used number
            next o (Part part) src (later_in o (src ∷ []) src (first_in src []))
            (λ k at. first_in o (src ∷ []))
        by None is moves =
            let gathers = subst (λ p. StoresPart elements p o src
            (row graph states state colours s.coloured q job f function
            (instr.StoreProp at o part src) x).a
            (row graph states state colours s.coloured q job f function
            (instr.StoreProp at o part src) x).c) is moves in
            written_held (instr.StoreProp at o part src) x (src ∷ [])
            (λ y has. gathers.uses.used y (later_in Here (tracked elements (src ∷ [])) y has))
            number next o (Part part) src (first_in src [])
            (λ k at. absurd (let clash : None ≡ Some k = sym is ∙ at in let no : ⊥ = cc in no))

    global_at : (at g : ℕ) (src : Operand)
        → StandsAt graph state q job f function (Middle (instr.StoreGlobal at g src))
        → (next : ℕ) → ValuesAt (Middle (instr.StoreGlobal at g src))
        (needs (operand_value f.regs src) (λ v. needs (slice_get state.globals g)
        (λ old. effect.WriteGlobal g v next)))
    global_at at g src x next = by (operand_value f.regs src) refl where
      old : (v : Value) → operand_value f.regs src ≡ Some v → (p : Option (Option Value))
          → ValuesAt (Middle (instr.StoreGlobal at g src))
          (needs p (λ old. effect.WriteGlobal g v next))
      old v has None = none_held
      old v has (Some w) =
          more_held (here_at colours q) (colours_of state.cells colours.cells v)
          (here_held (instr.StoreGlobal at g src) x)
          (operand_held (instr.StoreGlobal at g src) x (src ∷ [])
          (λ y among. (row graph states state colours s.coloured q job f function
          (instr.StoreGlobal at g src) x).moves.uses.used y
          (later_in Here (tracked elements (src ∷ [])) y among)) src v (first_in src []) has)

      by : (p : Option Value) → operand_value f.regs src ≡ p
          → ValuesAt (Middle (instr.StoreGlobal at g src)) (needs p
          (λ v. needs (slice_get state.globals g) (λ old. effect.WriteGlobal g v next)))
      by None is = none_held
      by (Some v) is = old v is (slice_get state.globals g)

    -- whether colours become one at a point by an effect of values
    abbrev joins_at : Point → Bool
    joins_at (Middle (instr.SetField at target part src)) = true
    joins_at (Middle (instr.Make at dst shape tag args)) = true
    joins_at (Middle (instr.StoreBox at o src)) = true
    joins_at (Middle (instr.StoreProp at o part src)) = true
    joins_at (Middle (instr.StoreGlobal at g src)) = true
    joins_at _ = false

    joining : (depth : ℕ) (point : Point) → StandsAt graph state q job f function point
        → joins_at point ≡ true → ValuesAt point (point_effect graph state depth f point)
    joining depth (Middle (instr.SetField at target part src)) x is =
        set_at at target part src x (f.point + 1)
    joining depth (Middle (instr.Make at dst shape tag args)) x is =
        made_at at dst shape tag args x (f.point + 1)
    joining depth (Middle (instr.StoreBox at o src)) x is =
        written_held (instr.StoreBox at o src) x (o ∷ src ∷ [])
        (row graph states state colours s.coloured q job f function (instr.StoreBox at o src)
        x).moves.uses.used number (f.point + 1) o Content src
        (later_in o (src ∷ []) src (first_in src [])) (λ k at. first_in o (src ∷ []))
    joining depth (Middle (instr.StoreProp at o part src)) x is =
        part_at at o part src x (f.point + 1)
    joining depth (Middle (instr.StoreGlobal at g src)) x is = global_at at g src x (f.point + 1)
    joining depth _ x is = absurd (let no : ⊥ = cc in no)

    -- ---- points at which nothing becomes one
    none_of : {X : Type 0} (point : Point) (o : Option X) (k : X → Effect)
        → ((z : X) → values_of number point (k z) ≡ []) → values_of number point (needs o k) ≡ []
    none_of point None k none = refl
    none_of point (Some z) k none = none z

    none_if : (point : Point) (b : Bool) (one other : Effect) → values_of number point one ≡ []
        → values_of number point other ≡ [] → values_of number point (cond b one other) ≡ []
    none_if point true one other first second = first
    none_if point false one other first second = second

    computed : (point : Point) → is_make point ≡ false → (next at r : ℕ)
        (result : Result Value TrapKind)
        → values_of number point (computed_of next at r result) ≡ []
    computed point plain next at r (Ok v) =
        ap (λ b. cond b (colours_of state.cells colours.cells v) []) plain
    computed point plain next at r (Err kind) = refl

    quiet : (depth : ℕ) (point : Point) → joins_at point ≡ false
        → values_of number point (point_effect graph state depth f point) ≡ []
    quiet depth (Middle (instr.Const at dst literal)) is = refl
    quiet depth (Middle (instr.Un at dst op src)) is =
        search (none_of, computed (Middle (instr.Un at dst op src)) refl)
    quiet depth (Middle (instr.Bin at dst op left right)) is =
        search (none_of, computed (Middle (instr.Bin at dst op left right)) refl)
    quiet depth (Middle (instr.Print at dst args)) is = search none_of
    quiet depth (Middle (instr.Copy at dst src)) is = search none_of
    quiet depth (Middle (instr.Field at dst src part)) is = search none_of
    quiet depth (Middle (instr.Payload at dst src index)) is = search none_of
    quiet depth (Middle (instr.SetField at target part src)) is = cc
    quiet depth (Middle (instr.Make at dst shape tag args)) is = cc
    quiet depth (Middle (instr.NewObject at dst k args)) is = search none_of
    quiet depth (Middle (instr.NewBox at dst src)) is = search none_of
    quiet depth (Middle (instr.NewActor at dst k args)) is = search none_of
    quiet depth (Middle (instr.LoadBox at dst cell)) is = search none_of
    quiet depth (Middle (instr.StoreBox at cell src)) is = cc
    quiet depth (Middle (instr.LoadProp at dst cell part)) is = search none_of
    quiet depth (Middle (instr.StoreProp at cell part src)) is = cc
    quiet depth (Middle (instr.LoadGlobal at dst global)) is = search none_of
    quiet depth (Middle (instr.StoreGlobal at global src)) is = cc
    quiet depth (Middle (instr.NewClosure at dst number captures)) is = search none_of
    quiet depth (Middle (instr.Call at dst kind function args)) is = search (none_of, none_if)
    quiet depth (Middle (instr.CallClosure at dst called args)) is = search (none_of, none_if)
    quiet depth (Middle (instr.NewTask at dst function captures)) is = search (none_of, none_if)
    quiet depth (Middle (instr.Await at dst task)) is = search none_of
    quiet depth (Middle (instr.Yield at dst)) is = refl
    quiet depth (End (last.Jump to)) is = search none_of
    quiet depth (End (last.Branch condition holds fails)) is = search none_of
    quiet depth (End (last.Switch subject to)) is = search none_of
    quiet depth (End (last.Return operand)) is = search none_of

    pub values_held_at : (depth : ℕ) (point : Point)
        → StandsAt graph state q job f function point
        → AreHeld (values_of number point (point_effect graph state depth f point))
    values_held_at depth point x = by (joins_at point) refl where
      by : (b : Bool) → joins_at point ≡ b
          → AreHeld (values_of number point (point_effect graph state depth f point))
      by true is = joining depth point x is
      by false is = subst AreHeld (sym (quiet depth point is)) none_held
