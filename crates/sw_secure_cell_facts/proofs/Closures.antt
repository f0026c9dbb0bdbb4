-- A closure is made.
use Rattle.std.proofs.Common.{◌≡◌, ◌≢◌, ◌+◌, ◌==◌, ℕ, true, false, cond, IsTrue, Option, Some, None}
use Rattle.std.proofs.Common.{List, []}
use Rattle.std.proofs.Common.{◌∷◌, ◌++◌, length, Contains, refl, sym, subst, ap, ◌∙◌, inl, inr}
use Rattle.std.specs.List.{slice_get}
use Rattle.std.specs.Option.{option_map, option_map_or}
use Rattle.std.proofs.lemmas.Bool.{and_parts, eqb-true}
use Rattle.std.proofs.lemmas.List.Elements.{Contains-append_cases, Contains-append_left}
use Rattle.std.proofs.lemmas.List.Elements.{Contains-append_right}
use Rattle.sw_list.proofs.Members.{first_in, later_in, first_or_later, none_in, one_in, in_flat_map, of_flat_map}
use Rattle.sw_types.specs.declared.isolation.Iso.TheVariants.{Own, Global}
use Rattle.sw_graph.specs.declared.function.Function.{Function}
use Rattle.sw_graph.specs.declared.graph.Graph.{Graph}
use Rattle.sw_graph.specs.declared.instr.Instr.TheVariants.{NewClosure}
use Rattle.sw_graph.specs.declared.instr.Instr.{Instr}
use Rattle.sw_graph.specs.declared.instr.Operand.{Operand}
use Rattle.sw_graph.specs.Bodies.{first_is_self, has_self, is_own}
use Rattle.sw_graph.specs.Placed.{FunctionAt, MadeInside}
use Rattle.sw_graph.specs.Points.{Middle}
use Rattle.sw_value.specs.declared.cell.HeapCell.{HeapCell}
use Rattle.sw_value.specs.declared.cell.HeapCell.TheVariants.{Closure}
use Rattle.sw_value.specs.declared.effect.Effect.{Effect}
use Rattle.sw_value.specs.declared.effect.Effect.TheVariants.{New}
use Rattle.sw_value.specs.declared.frame.Frame.{Frame}
use Rattle.sw_value.specs.declared.job.Job.{Job}
use Rattle.sw_value.specs.declared.state.State.{State}
use Rattle.sw_value.specs.declared.value.Value.{Value}
use Rattle.sw_value.specs.declared.value.Value.TheVariants as value
use Rattle.sw_value.specs.Reach.{step_of}
use Rattle.sw_value.specs.Value.{layer_reference, operand_value, reference_of, value_at, values_at}
use Rattle.sw_value.proofs.ListLemmas.{slice_get_end}
use Rattle.sw_partition.specs.Regions.{Regions}
use Rattle.sw_region_ops.specs.Calls.{is_isolated}
use Rattle.sw_region_ops.specs.Elements.{elements_of}
use Rattle.sw_owner_facts.specs.Colours.{Colour, GlobalActor, Instance, OfActor}
use Rattle.sw_owner_facts.specs.Colours.{OfJob}
use Rattle.sw_owner_facts.specs.View.{Element, Here, Register, Frame as Spot}
use Rattle.sw_region_facts.specs.Moves.{Makes, tracked}
use Rattle.sw_region_facts.specs.Rows.{captured}
use Rattle.sw_reach_facts.specs.Coloured.{CaptureEarlier, may_have_colour, runs_isolated}
use Rattle.sw_reach_facts.specs.Reached.{colours_of}
use Rattle.sw_reach_facts.proofs.ClosureLemmas.{reference_captures}
use Rattle.sw_view_facts.specs.Changes.{HoldsIn}
use Rattle.sw_view_facts.specs.Memory.{coloured_more}
use Rattle.sw_view_facts.specs.Renaming.{united}
use Rattle.sw_view_facts.specs.Views.{Colours, here_at}
use Rattle.sw_store_facts.proofs.Getting.{no_maker}
use Rattle.sw_store_facts.proofs.Stepping.{row}
use Rattle.sw_secure_facts.specs.Executing.{Executing, MayJoin, StaysSecure}
use Rattle.sw_secure_facts.specs.Memory.{ReachesOnly}
use Rattle.sw_secure_facts.specs.Painting.{MayUnite, Unites, reached_by_all}
use Rattle.sw_secure_facts.proofs.Uniting.{joined_become, united_colour}
use Rattle.sw_secure_cell_facts.proofs.Adding.{HoldsItsOwn, index_new, kept_is, memory_added, reach}
use Rattle.sw_secure_cell_facts.proofs.Adding.{reaches_kept}
use Rattle.sw_secure_cell_facts.proofs.Bare.{bare_secure}
use Rattle.sw_secure_cell_facts.proofs.Coloured.{coloured_joins, coloured_secure}
use Rattle.sw_view_facts.proofs.IsolationLemmas.{global_isolation, on_is, self_isolation}
use Rattle.sw_store_facts.proofs.Getting.{from_some}
use Rattle.sw_store_facts.proofs.Standing.{here_of, self_refers}
use Rattle.sw_secure_cell_facts.proofs.Made.{cells_now, globals_now, operands_named}
use Rattle.sw_store_facts.proofs.Operands.{operands_apart}
use Rattle.sw_secure_cell_facts.proofs.Operands.{of_operands}

-- The first of the operands is the body's own `self`: so is the first of the values.
self_first : (function : Function) (regs : List (Option Value)) (operands : List Operand)
    (self : Value) (more : List Value) → IsTrue (first_is_self function operands)
    → values_at regs operands ≡ Some (self ∷ more)
    → (has_self function ≡ true) × (value_at regs 0 ≡ Some self)
self_first function regs [] self more first are = absurd (let clash : ⊥ = cc in clash)
self_first function regs (operand ∷ operands) self more first are =
    let both = and_parts (has_self function) (operand.reg == 0) first in
    let got = from_some (λ y. option_map (λ ys. y ∷ ys) (values_at regs operands))
    (operand_value regs operand) (self ∷ more) are in (
      both.0,
      ap (value_at regs) (sym (eqb-true operand.reg 0 both.1)) ∙ got.1
          ∙ ap Some (by got.0 (values_at regs operands) got.2),
    )
  where
    by : (z : Value) (o : Option (List Value)) → option_map (λ ys. z ∷ ys) o ≡ Some (self ∷ more)
        → z ≡ self
    by z None is = cc
    by z (Some zs) is = cc

module _ (graph : Graph) (states : ℕ → List (Option Regions)) (state : State) (colours : Colours)
    (q : Spot) (number : ℕ) (job : Job) (f : Frame) (function : Function) (at dst g : ℕ)
    (captures : List Operand) (values : List Value)
    (have : values_at f.regs captures ≡ Some values)
    (x : Executing graph states state colours q number job f function
    (Middle (NewClosure at dst g captures))
    (New dst (Closure g values) (length state.cells) (f.point + 1))) where
  abbrev instr : Instr
  instr = NewClosure at dst g captures

  abbrev cell : HeapCell
  cell = Closure g values

  abbrev effect : Effect
  effect = New dst cell (length state.cells) (f.point + 1)

  abbrev operands : List Element
  operands = tracked (elements_of graph.shapes function.regs) captures

  abbrev own : Colour
  own = OfJob q.job number

  abbrev reached : List Colour
  reached = reached_by_all state colours values

  held : (c : Colour) → Contains reached c
      → (y : Element) × Contains operands y × HoldsIn state colours f (here_at colours q) y c
  held = of_operands graph states state colours x.secure.coloured q job f function instr x.stands
      captures values have

  apart : (y : Element) → Contains operands y → y ≢ Register dst
  apart = operands_apart (elements_of graph.shapes function.regs) captures dst
      (x.secure.coloured.clean.placed.sets f.function function x.stands.is f.point instr
      x.stands.here)

  -- ---- of a function that is isolated
  module _ (isolated : runs_isolated graph g ≡ true) where
    abbrev xs : List Element
    xs = operands ++ Here ∷ []

    abbrev rest : List Colour
    rest = here_at colours q ∷ reached

    abbrev more : Colours
    more = coloured_more (Some own) colours

    held_here : (c : Colour) → Contains rest c
        → (y : Element) × Contains xs y × HoldsIn state colours f (here_at colours q) y c
    held_here c has = elim (first_or_later (here_at colours q) reached c has) [
      | inl same ↦ (Here, Contains-append_right operands (Here ∷ []) Here (first_in Here []), same)
      | inr there ↦ let y = held c there in
          (y.0, Contains-append_left operands (Here ∷ []) y.0 y.1, y.2)
    ]

    apart_here : (y : Element) → Contains xs y → y ≢ Register dst
    apart_here y has is = elim (Contains-append_cases operands (Here ∷ []) y has) [
      | inl among ↦ apart y among is
      | inr same ↦
          let clash : Here ≡ Register dst = one_in Here y same ∙ is in
          let wrong : ⊥ = cc in wrong
    ]

    moves : Makes (elements_of graph.shapes function.regs) dst xs
        (row graph states state colours x.secure.coloured q job f function instr x.stands).a
        (row graph states state colours x.secure.coloured q job f function instr x.stands).c
    moves = subst (λ b. Makes (elements_of graph.shapes function.regs) dst (captured b operands)
        (row graph states state colours x.secure.coloured q job f function instr x.stands).a
        (row graph states state colours x.secure.coloured q job f function instr x.stands).c)
        isolated (row graph states state colours x.secure.coloured q job f function instr
        x.stands).moves

    callee : (callee : Function) × (slice_get graph.functions g ≡ Some callee)
    callee = by (slice_get graph.functions g) refl isolated where
      by : (o : Option Function) → slice_get graph.functions g ≡ o
          → option_map_or (λ (function : Function). is_isolated function.iso) o false ≡ true
          → (callee : Function) × (slice_get graph.functions g ≡ Some callee)
      by None is runs = absurd (let clash : ⊥ = cc in clash)
      by (Some callee) is runs = (callee, is)

    inside : MadeInside function captures callee.0.iso
    inside = (x.secure.coloured.clean.placed.apart f.function function x.stands.is f.point instr
        x.stands.here callee.0 callee.1).0

    module _ (after : Colours) (unites : Unites q.job (own ∷ rest) more after) where
      own_becomes : united_colour q.job unites.numbers unites.kept own ≡ unites.kept
      own_becomes = joined_become q.job (own ∷ rest) more after unites own (first_in own rest)

      on_global : (h actor : ℕ) (vs : List Value) → cell ≡ Closure h vs
          → FunctionAt graph h (λ function. function.iso ≡ Global actor)
          → unites.kept ≡ OfActor (GlobalActor actor)
      on_global h actor vs is iso =
          let same : g ≡ h = cc in
          let global = iso callee.0 (ap (slice_get graph.functions) (sym same) ∙ callee.1) in
          kept_is q.job (own ∷ rest) more after unites (here_at colours q) (GlobalActor actor)
          (later_in own rest (here_at colours q) (first_in (here_at colours q) reached))
          (here_of graph states state colours x.secure.coloured q job f function (Middle instr)
          x.stands (GlobalActor actor) (global_isolation function f.regs actor
          (on_is actor function.iso (subst (MadeInside function captures) global inside))))

      on_self : (h : ℕ) (self : Value) (vs : List Value) → cell ≡ Closure h (self ∷ vs)
          → FunctionAt graph h (λ function. function.iso ≡ Own)
          → (actor : ℕ) × (reference_of self ≡ Some actor)
          × (unites.kept ≡ OfActor (Instance actor))
      on_self h self vs is iso =
          let same : g ≡ h = cc in
          let are : values ≡ self ∷ vs = cc in
          let global = iso callee.0 (ap (slice_get graph.functions) (sym same) ∙ callee.1) in
          let first = self_first function f.regs captures self vs
          (subst (MadeInside function captures) global inside) (have ∙ ap Some are) in
          let actor = self_refers graph states state colours x.secure.coloured q job f function
          (Middle instr) x.stands first.0 self first.1 in (
            actor.0,
            actor.1,
            kept_is q.job (own ∷ rest) more after unites (here_at colours q)
                (Instance actor.0)
                (later_in own rest (here_at colours q) (first_in (here_at colours q) reached))
                (here_of graph states state colours x.secure.coloured q job f function (Middle instr)
                x.stands (Instance actor.0)
                (self_isolation function f.regs self actor.0 first.0 first.1 actor.1)),
          )

      holds : HoldsItsOwn graph state (united q.job unites.numbers unites.kept colours) cell
          (Some (united_colour q.job unites.numbers unites.kept own))
      holds = record {
        marked = λ m. (united_colour q.job unites.numbers unites.kept own, refl);
        may = λ c is. isolated;
        named = operands_named graph states state colours x.secure.coloured x.secure.memory.count q
            job f function instr x.stands dst cell refl x.gives (Some own) (λ c is. isolated)
            captures values have;
        inside = λ c w is has. subst
            (ReachesOnly state (united q.job unites.numbers unites.kept colours) w)
            (let become = own_becomes in let e : unites.kept ≡ c = cc in e)
            (reaches_kept graph state colours more after q.job (own ∷ rest) unites w
            (λ d shows. later_in own rest d (later_in (here_at colours q) reached d
            (in_flat_map (colours_of state.cells colours.cells) values w d has shows))));
        kept = λ owner w is has. absurd (let clash : ⊥ = cc in clash);
        global_closures = λ h actor vs c is iso coloured.
            let kept = on_global h actor vs is iso in
            let become = own_becomes in
            let e : c ≡ OfActor (GlobalActor actor) = cc in e;
        own_closures = λ h self vs c is iso coloured.
            let found = on_self h self vs is iso in
            let kept = found.2 in
            let become = own_becomes in
            (found.0, found.1, let e : c ≡ OfActor (Instance found.0) = cc in e);
      }

    pub isolated_stays : StaysSecure graph states state colours q number f (Middle instr) effect
    isolated_stays after paints =
        let unites : Unites q.job (own ∷ rest) more after =
        subst (λ b. Unites q.job (cond b (own ∷ rest) [])
        (coloured_more (cond b (Some own) None) colours) after) isolated paints in
        coloured_secure graph states state colours x.secure q job f function instr x.stands dst cell
        refl x.gives isolated (no_maker (is_own function.iso)) number x.numbered xs moves apart_here
        rest held_here after unites (holds after unites)

    pub isolated_joins : MayJoin graph state colours q number f (Middle instr) effect
    isolated_joins =
        subst (λ b. MayUnite q (cond b (own ∷ rest) [])) (sym isolated)
        (coloured_joins graph states state colours x.secure q job f function instr x.stands dst cell
        refl x.gives isolated (no_maker (is_own function.iso)) number x.numbered xs moves apart_here
        rest held_here)

  -- ---- of a function that isn't
  module _ (free : runs_isolated graph g ≡ false) where
    abbrev next : State
    next = step_of graph state q.job

    abbrev bare : Colours
    bare = coloured_more None colours

    never : (own : Colour) → None ≡ Some own → may_have_colour graph cell ≡ true
    never own is = cc

    cells_are : next.cells ≡ state.cells ++ cell ∷ []
    cells_are = cells_now graph states state colours x.secure.coloured x.secure.memory.count q job f
        function instr x.stands dst cell refl x.gives None never

    free_holds : HoldsItsOwn graph state colours cell None
    free_holds = record {
      marked = λ m. let clash : false ≡ true = sym free ∙ m in
          absurd (let wrong : ⊥ = cc in wrong);
      may = never;
      named = operands_named graph states state colours x.secure.coloured x.secure.memory.count q
          job f function instr x.stands dst cell refl x.gives None never captures values have;
      inside = λ c w is has. absurd (let clash : ⊥ = cc in clash);
      kept = λ owner w is has. absurd (let clash : ⊥ = cc in clash);
      global_closures = λ h actor vs c is iso coloured. absurd (let clash : ⊥ = cc in clash);
      own_closures = λ h self vs c is iso coloured. absurd (let clash : ⊥ = cc in clash);
    }

    earlier : CaptureEarlier next.cells
    earlier = (memory_added graph state next colours cell None x.secure.memory.count cells_are
        x.secure.memory x.secure.coloured.kinded
        (globals_now graph states state colours x.secure.coloured x.secure.memory.count q job f
        function instr x.stands dst cell refl x.gives None never) free_holds).earlier

    -- the closure reaches what its captures reach
    brings : (c : Colour)
        → Contains (colours_of next.cells bare.cells (value.Cell (length state.cells))) c
        → (y : Element) × Contains operands y × HoldsIn state colours f (here_at colours q) y c
    brings c has =
        let shows = reference_captures next.cells bare.cells earlier
        (value.Cell (length state.cells)) (length state.cells) g values
        (ap layer_reference (value.outs-Cell (length state.cells)))
        (ap (λ l. slice_get l (length state.cells)) cells_are ∙ slice_get_end state.cells cell)
        (index_new graph state next colours cell None x.secure.memory.count cells_are
        (length state.cells) refl) in
        let of = of_flat_map (colours_of next.cells bare.cells) values c
        (subst (λ l. Contains l c) shows has) in
        held c (in_flat_map (colours_of state.cells colours.cells) values of.0 c of.1
        (subst (λ l. Contains l c) (reach graph state next colours cell None x.secure.memory.count
        cells_are of.0 (free_holds.named of.0 of.1)) of.2))

    pub free_stays : StaysSecure graph states state colours q number f (Middle instr) effect
    free_stays after paints =
        let unites : Unites q.job [] bare after =
        subst (λ b. Unites q.job (cond b (own ∷ here_at colours q ∷ reached) [])
        (coloured_more (cond b (Some own) None) colours) after) free paints in
        bare_secure graph states state colours x.secure q job f function instr x.stands dst cell
        refl x.gives (no_maker (is_own function.iso)) operands
        (subst (λ b. Makes (elements_of graph.shapes function.regs) dst (captured b operands)
        (row graph states state colours x.secure.coloured q job f function instr x.stands).a
        (row graph states state colours x.secure.coloured q job f function instr x.stands).c) free
        (row graph states state colours x.secure.coloured q job f function instr x.stands).moves)
        apart brings [] after unites
        (λ n has. absurd (none_in (OfJob q.job n) (unites.only n has))) free_holds

    pub free_joins : MayJoin graph state colours q number f (Middle instr) effect
    free_joins = inl (ap (λ b. cond b (own ∷ here_at colours q ∷ reached) []) free)
