-- Where the colours come from of cells that are made and of calls: the top frame holds them live,
-- or they are new.
use Rattle.std.proofs.Common.{◌≡◌, ◌⊎◌, ◌++◌, ℕ, Bool, true, false, cond, Option, Some}
use Rattle.std.proofs.Common.{List, [], ◌∷◌, length, Contains, refl, sym, subst, ap, ◌∙◌}
use Rattle.std.proofs.Common.{inl, inr}
use Rattle.std.proofs.lemmas.List.Elements.{Contains-append_left}
use Rattle.sw_list.proofs.ListLemmas.{some_injective}
use Rattle.sw_list.proofs.Members.{first_in, first_or_later, none_in}
use Rattle.sw_types.specs.Sendable.{sends_at}
use Rattle.sw_types.specs.declared.isolation.CallKind.{CallKind}
use Rattle.sw_types.specs.declared.isolation.CallKind.TheVariants.{Plain}
use Rattle.sw_graph.specs.declared.function.Function.{Function}
use Rattle.sw_graph.specs.declared.graph.Graph.{Graph}
use Rattle.sw_graph.specs.declared.instr.Instr.TheVariants as instr
use Rattle.sw_graph.specs.declared.instr.Operand.{Operand}
use Rattle.sw_graph.specs.Points.{Point, Middle}
use Rattle.sw_value.specs.declared.cell.HeapCell.{HeapCell}
use Rattle.sw_value.specs.declared.cell.HeapCell.TheVariants.{Object, Actor, BoxOf, Closure}
use Rattle.sw_value.specs.declared.effect.Effect.{Effect}
use Rattle.sw_value.specs.declared.effect.Effect.TheVariants as effect
use Rattle.sw_value.specs.declared.frame.Frame.{Frame}
use Rattle.sw_value.specs.declared.job.Job.{Job}
use Rattle.sw_value.specs.declared.state.State.{State}
use Rattle.sw_value.specs.declared.value.Value.{Value}
use Rattle.sw_value.specs.Call.{crosses, pushed_frame}
use Rattle.sw_value.specs.Effect.{point_effect}
use Rattle.sw_value.specs.Value.{operand_value, registers, values_at}
use Rattle.sw_color_rules.specs.Plans.{sending_of}
use Rattle.sw_partition.specs.Regions.{Regions}
use Rattle.sw_region_ops.specs.Elements.{elements_of}
use Rattle.sw_owner_facts.specs.Colours.{Colour, Instance, OfActor, OfJob}
use Rattle.sw_owner_facts.specs.View.{Element, Here, Frame as Spot}
use Rattle.sw_region_facts.specs.Moves.{tracked}
use Rattle.sw_region_facts.specs.Rows.{captured}
use Rattle.sw_reach_facts.specs.Coloured.{runs_isolated}
use Rattle.sw_reach_facts.specs.Reached.{colours_of}
use Rattle.sw_view_facts.specs.Standing.{StandsAt}
use Rattle.sw_view_facts.specs.Views.{Colours, here_at}
use Rattle.sw_store_facts.proofs.Stepping.{row}
use Rattle.sw_secure_facts.specs.Executing.{is_call}
use Rattle.sw_secure_facts.specs.Painting.{called_closure, joined_in_cell, passed, reached_by_all}
use Rattle.sw_secure_facts.specs.Secure.{AreNumberedBelow, IsSecure}
use Rattle.sw_secure_cell_facts.proofs.Makers as makers
use Rattle.sw_secure_cell_facts.proofs.Makers.{MakesAt}
use Rattle.sw_secure_call_facts.proofs.Before.{lent_first}
use Rattle.sw_secure_call_facts.proofs.Closures as closures
use Rattle.sw_secure_call_facts.proofs.Functions.{DirectCall, set}
use Rattle.sw_secure_call_facts.proofs.Inverting.{CallsAt, calls_at, closure, closure_called}
use Rattle.sw_secure_call_facts.proofs.Inverting.{function, function_called}
use Rattle.sw_owned_facts.proofs.Sources.{AreHeld, IsHeld, here_held, more_held}
use Rattle.sw_owned_facts.proofs.Sources.{operand_held, operands_held}

in_captured : (b : Bool) (ys : List Element) (y : Element) → Contains ys y
    → Contains (captured b ys) y
in_captured true ys y has = Contains-append_left ys (Here ∷ []) y has
in_captured false ys y has = has

module _ (graph : Graph) (states : ℕ → List (Option Regions)) (state : State) (colours : Colours)
    (s : IsSecure graph states state colours) (q : Spot) (job : Job) (f : Frame)
    (body : Function) where
  abbrev Held : Colour → Type 0
  Held = IsHeld graph states state colours s q job f body

  abbrev AllHeld : List Colour → Type 0
  AllHeld = AreHeld graph states state colours s q job f body

  abbrev Stands : Point → Type 0
  Stands = StandsAt graph state q job f body

  -- ---- a cell is made
  module _ (number : ℕ) where
    -- The colour is held, or it is a new one of the job, or that of the actor which is made.
    abbrev pub IsOfCell : ℕ → HeapCell → Colour → Type 0
    IsOfCell c cell d = IsHeld graph states state colours s q job f body d
        ⊎ ((d ≡ OfJob q.job number)
        ⊎ ((k : ℕ) × (parts : List Value) × (cell ≡ Actor k parts) × (d ≡ OfActor (Instance c))))

    abbrev AreOfCell : ℕ → HeapCell → List Colour → Type 0
    AreOfCell c cell ds = (d : Colour) → Contains ds d → IsOfCell c cell d

    after_new : (c : ℕ) (cell : HeapCell) (ds : List Colour) → AllHeld ds
        → AreOfCell c cell (OfJob q.job number ∷ ds)
    after_new c cell ds held d has = elim (first_or_later (OfJob q.job number) ds d has) [
      | inl same ↦ inr (inl (sym same))
      | inr there ↦ inl (held d there)
    ]

    abbrev MadeOf : Effect → Type 0
    MadeOf (effect.New r cell c next) =
        AreOfCell c cell (joined_in_cell graph state colours q number c cell)
    MadeOf _ = Unit {0}

    of_box : (at dst : ℕ) (src : Operand) (v : Value) → Stands (Middle (instr.NewBox at dst src))
        → operand_value f.regs src ≡ Some v → (c : ℕ)
        → AreOfCell c (BoxOf v) (joined_in_cell graph state colours q number c (BoxOf v))
    of_box at dst src v x has c =
        after_new c (BoxOf v) (colours_of state.cells colours.cells v)
        (operand_held graph states state colours s q job f body (instr.NewBox at dst src) x
        (src ∷ [])
        (row graph states state colours s.coloured q job f body (instr.NewBox at dst src)
        x).moves.used src v (first_in src []) has)

    of_object : (at dst k : ℕ) (args : List Operand) (parts : List Value)
        → Stands (Middle (instr.NewObject at dst k args)) → values_at f.regs args ≡ Some parts
        → (c : ℕ)
        → AreOfCell c (Object k parts) (joined_in_cell graph state colours q number c
        (Object k parts))
    of_object at dst k args parts x are c = by (sends_at graph.shapes k) where
      held : AllHeld (reached_by_all state colours parts)
      held = operands_held graph states state colours s q job f body (instr.NewObject at dst k args)
          x args (row graph states state colours s.coloured q job f body
          (instr.NewObject at dst k args) x).moves.used parts are

      by : (b : Bool) → AreOfCell c (Object k parts)
          (cond b (here_at colours q) (OfJob q.job number) ∷ reached_by_all state colours parts)
      by true = λ d has. inl (more_held graph states state colours s q job f body
          (here_at colours q) (reached_by_all state colours parts)
          (here_held graph states state colours s q job f body (instr.NewObject at dst k args) x)
          held d has)
      by false = after_new c (Object k parts) (reached_by_all state colours parts) held

    of_actor : (at dst k : ℕ) (args : List Operand) (parts : List Value)
        → Stands (Middle (instr.NewActor at dst k args)) → values_at f.regs args ≡ Some parts
        → (c : ℕ)
        → AreOfCell c (Actor k parts) (joined_in_cell graph state colours q number c
        (Actor k parts))
    of_actor at dst k args parts x are c d has =
        elim (first_or_later (OfActor (Instance c))
        (here_at colours q ∷ reached_by_all state colours parts) d has) [
          | inl same ↦ inr (inr (k, parts, refl, sym same))
          | inr there ↦ inl (more_held graph states state colours s q job f body
              (here_at colours q) (reached_by_all state colours parts)
              (here_held graph states state colours s q job f body (instr.NewActor at dst k args) x)
              (operands_held graph states state colours s q job f body
              (instr.NewActor at dst k args) x args
              (row graph states state colours s.coloured q job f body (instr.NewActor at dst k args)
              x).moves.used parts are) d there)
        ]

    of_closure : (at dst g : ℕ) (captures : List Operand) (values : List Value)
        → Stands (Middle (instr.NewClosure at dst g captures))
        → values_at f.regs captures ≡ Some values → (c : ℕ)
        → AreOfCell c (Closure g values) (joined_in_cell graph state colours q number c
        (Closure g values))
    of_closure at dst g captures values x are c = by (runs_isolated graph g) where
      held : AllHeld (reached_by_all state colours values)
      held = operands_held graph states state colours s q job f body
          (instr.NewClosure at dst g captures) x captures
          (λ y has. (row graph states state colours s.coloured q job f body
          (instr.NewClosure at dst g captures) x).moves.used y
          (in_captured _ (tracked (elements_of graph.shapes body.regs) captures) y has)) values are

      by : (b : Bool) → AreOfCell c (Closure g values) (cond b (OfJob q.job number
          ∷ here_at colours q ∷ reached_by_all state colours values) [])
      by true = after_new c (Closure g values)
          (here_at colours q ∷ reached_by_all state colours values)
          (more_held graph states state colours s q job f body
          (here_at colours q) (reached_by_all state colours values)
          (here_held graph states state colours s q job f body (instr.NewClosure at dst g captures)
          x) held)
      by false = λ d has. absurd (none_in d has)

    made_of : (point : Point) (e : Effect) → Stands point → MakesAt state f point e → MadeOf e
    made_of point e x (makers.box at dst src v is has makes) =
        subst MadeOf (sym makes) (of_box at dst src v (subst Stands is x) has (length state.cells))
    made_of point e x (makers.object at dst k args parts is are makes) =
        subst MadeOf (sym makes)
        (of_object at dst k args parts (subst Stands is x) are (length state.cells))
    made_of point e x (makers.actor at dst k args parts is are makes) =
        subst MadeOf (sym makes)
        (of_actor at dst k args parts (subst Stands is x) are (length state.cells))
    made_of point e x (makers.closure at dst g captures values is are makes) =
        subst MadeOf (sym makes)
        (of_closure at dst g captures values (subst Stands is x) are (length state.cells))

    pub cells_held : (point : Point) (depth r : ℕ) (cell : HeapCell) (c next : ℕ)
        → StandsAt graph state q job f body point
        → point_effect graph state depth f point ≡ effect.New r cell c next → (d : Colour)
        → Contains (joined_in_cell graph state colours q number c cell) d → IsOfCell c cell d
    cells_held point depth r cell c next x gives = made_of point (effect.New r cell c next) x
        (makers.made_at graph state depth f point (effect.New r cell c next) gives refl)

  -- ---- a call
  module _ (number : ℕ) (numbered : AreNumberedBelow number colours) where
    abbrev passed_to : Point → Frame → List Colour
    passed_to point t = called_closure state colours f point
        ++ passed state colours (sending_of graph t.function) t.regs

    direct : (at dst : ℕ) (kind : CallKind) (called : ℕ) (args : List Operand) (t : Frame) (n : ℕ)
        → Stands (Middle (instr.Call at dst kind called args))
        → point_effect graph state (length job.frames) f
        (Middle (instr.Call at dst kind called args)) ≡ effect.Enter t n
        → AllHeld (passed_to (Middle (instr.Call at dst kind called args)) t)
    direct at dst kind called args t n x gives =
        let found = function_called graph state (length job.frames) f at dst kind called args t n
        gives in
        let c : DirectCall kind = record {
          graph = graph;
          states = states;
          state = state;
          colours = colours;
          secure = s;
          q = q;
          number = number;
          numbered = numbered;
          job = job;
          f = f;
          function = body;
          at = at;
          dst = dst;
          body = called;
          args = args;
          x = x;
          callee = found.called.callee;
          is = found.called.is;
          values = found.values;
          are = found.are;
          executor = found.called.executor;
          runs = found.called.runs;
          gives = gives ∙ ap (λ g. effect.Enter g n) (sym found.called.frame)
              ∙ ap (effect.Enter (pushed_frame called dst (crosses kind)
              (registers (length found.called.callee.regs) found.values) found.called.executor))
              (sym found.next);
        } in
        subst (λ g. AllHeld (passed_to (Middle (instr.Call at dst kind called args)) g))
        found.called.frame (lent_first (set kind c))

    closed : (at dst : ℕ) (o : Operand) (args : List Operand) (t : Frame) (n : ℕ)
        → Stands (Middle (instr.CallClosure at dst o args))
        → point_effect graph state (length job.frames) f (Middle (instr.CallClosure at dst o args))
        ≡ effect.Enter t n
        → AllHeld (passed_to (Middle (instr.CallClosure at dst o args)) t)
    closed at dst o args t n x e_gives =
        let found = closure_called graph state (length job.frames) f at dst o args t n e_gives in
        let same = some_injective found.called.runs in
        let frame : pushed_frame found.body dst (crosses Plain)
        (registers (length found.called.callee.regs) (found.captures ++ found.values)) f.executor
        ≡ t =
        ap (pushed_frame found.body dst (crosses Plain)
        (registers (length found.called.callee.regs) (found.captures ++ found.values))) same
        ∙ found.called.frame in
        let gives = e_gives ∙ ap (λ g. effect.Enter g n) (sym frame)
        ∙ ap (effect.Enter (pushed_frame found.body dst (crosses Plain)
        (registers (length found.called.callee.regs) (found.captures ++ found.values)) f.executor))
        (sym found.next) in
        subst (λ g. AllHeld (passed_to (Middle (instr.CallClosure at dst o args)) g)) frame
        (lent_first (closures.setup graph states state colours s q number numbered job f body at
        dst o args x found.value found.has found.number found.refers found.body
        found.captures found.at found.called.callee found.called.is found.values found.are gives))

    pub calls_held : (point : Point) (t : Frame) (n : ℕ) → StandsAt graph state q job f body point
        → point_effect graph state (length job.frames) f point ≡ effect.Enter t n
        → AreHeld graph states state colours s q job f body (called_closure state colours f point
        ++ passed state colours (sending_of graph t.function) t.regs)
    calls_held point t n x gives = by (calls_at graph state (length job.frames) f point
        (ap is_call gives))
      where
        by : CallsAt point → AllHeld (passed_to point t)
        by (function at dst kind called args p is) =
            subst (λ p. AllHeld (passed_to p t)) (sym is)
            (direct at dst kind called args t n (subst Stands is x)
            (ap (point_effect graph state (length job.frames) f) (sym is) ∙ gives))
        by (closure at dst o args p is) =
            subst (λ p. AllHeld (passed_to p t)) (sym is)
            (closed at dst o args t n (subst Stands is x)
            (ap (point_effect graph state (length job.frames) f) (sym is) ∙ gives))
