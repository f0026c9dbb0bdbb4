-- An object of a Sendable class without a global actor is made.
use Rattle.std.proofs.Common.{◌≡◌, ◌+◌, ℕ, true, false, cond, not, Option, Some, None, List, []}
use Rattle.std.proofs.Common.{◌∷◌, ◌++◌, length, Contains, refl, sym, subst, ap, ◌∙◌, arith, inl}
use Rattle.std.proofs.Common.{inr}
use Rattle.std.specs.List.{slice_get}
use Rattle.std.specs.Option.{option_and_then, option_map}
use Rattle.std.proofs.lemmas.Option.{slice_get_within}
use Rattle.sw_list.proofs.Members.{first_in, first_or_later, none_in, of_flat_map, stands_at}
use Rattle.sw_types.specs.declared.shape.Shape.{Shape}
use Rattle.sw_types.specs.Sendable.{sends_at}
use Rattle.sw_graph.specs.declared.function.Function.{Function}
use Rattle.sw_graph.specs.declared.graph.Graph.{Graph}
use Rattle.sw_graph.specs.declared.instr.Instr.TheVariants.{NewObject}
use Rattle.sw_graph.specs.declared.instr.Instr.{Instr}
use Rattle.sw_graph.specs.declared.instr.Operand.{Operand}
use Rattle.sw_graph.specs.Bodies.{actor_of}
use Rattle.sw_graph.specs.Kinds.{is_class, parts, shape_at}
use Rattle.sw_graph.specs.Points.{Middle}
use Rattle.sw_value.specs.declared.cell.HeapCell.{HeapCell}
use Rattle.sw_value.specs.declared.cell.HeapCell.TheVariants.{Object}
use Rattle.sw_value.specs.declared.effect.Effect.{Effect}
use Rattle.sw_value.specs.declared.effect.Effect.TheVariants.{New}
use Rattle.sw_value.specs.declared.frame.Frame.{Frame}
use Rattle.sw_value.specs.declared.job.Job.{Job}
use Rattle.sw_value.specs.declared.state.State.{State}
use Rattle.sw_value.specs.declared.value.Value.{Value}
use Rattle.sw_value.specs.declared.value.Value.TheVariants as value
use Rattle.sw_value.specs.Reach.{step_of}
use Rattle.sw_value.specs.Value.{values_at}
use Rattle.sw_value.proofs.ListLemmas.{slice_get_end}
use Rattle.sw_partition.specs.Regions.{Regions}
use Rattle.sw_region_ops.specs.Elements.{elements_of}
use Rattle.sw_machine_kind_facts.specs.Kinded.{KindedLater}
use Rattle.sw_machine_kind_facts.specs.Kinds.{HavePlaces}
use Rattle.sw_machine_kind_facts.proofs.ItemLemmas.{found_within}
use Rattle.sw_machine_kind_facts.proofs.KindLemmas.{shape_found}
use Rattle.sw_owner_facts.specs.Colours.{Colour, GlobalActor, OfJob}
use Rattle.sw_owner_facts.specs.View.{Element, Here, HoldsLive, Frame as Spot}
use Rattle.sw_region_facts.specs.Moves.{tracked}
use Rattle.sw_reach_facts.specs.Coloured.{may_have_colour}
use Rattle.sw_reach_facts.specs.Named.{NamesCells}
use Rattle.sw_reach_facts.specs.Reached.{colours_of}
use Rattle.sw_reach_facts.proofs.CrossingLemmas.{part_crosses}
use Rattle.sw_reach_facts.proofs.FitLemmas.{colours_fit, conformances_hold}
use Rattle.sw_reach_facts.proofs.SendableLemmas.{crosses_nothing}
use Rattle.sw_view_facts.specs.Changes.{HoldsIn}
use Rattle.sw_view_facts.specs.Memory.{coloured_more}
use Rattle.sw_view_facts.specs.Views.{Colours, here_at, view_at}
use Rattle.sw_view_facts.proofs.NewLemmas.{bare_shows}
use Rattle.sw_store_facts.proofs.Stepping.{row}
use Rattle.sw_secure_facts.specs.Executing.{Executing, MayJoin, StaysSecure}
use Rattle.sw_secure_facts.specs.Painting.{MayUnite, Unites, reached_by_all}
use Rattle.sw_secure_cell_facts.proofs.Adding.{HoldsItsOwn, reach}
use Rattle.sw_secure_cell_facts.proofs.Bare.{bare_secure}
use Rattle.sw_secure_cell_facts.proofs.Made.{cells_now, have_now, kinded_now, operands_named}
use Rattle.sw_store_facts.proofs.Gathering.{held_live}
use Rattle.sw_store_facts.proofs.Operands.{operands_apart}
use Rattle.sw_secure_facts.proofs.Kept.{held_unite}
use Rattle.sw_secure_cell_facts.proofs.Shapes.{no_initialiser, parts_cross}

module _ (graph : Graph) (states : ℕ → List (Option Regions)) (state : State) (colours : Colours)
    (q : Spot) (number : ℕ) (job : Job) (f : Frame) (function : Function) (at dst k : ℕ)
    (args : List Operand) (values : List Value) (have : values_at f.regs args ≡ Some values)
    (x : Executing graph states state colours q number job f function
    (Middle (NewObject at dst k args))
    (New dst (Object k values) (length state.cells) (f.point + 1)))
    (sends : sends_at graph.shapes k ≡ true) (no_actor : actor_of graph.shapes k ≡ None) where
  abbrev instr : Instr
  instr = NewObject at dst k args

  abbrev cell : HeapCell
  cell = Object k values

  abbrev effect : Effect
  effect = New dst cell (length state.cells) (f.point + 1)

  abbrev xs : List Element
  xs = tracked (elements_of graph.shapes function.regs) args

  abbrev own : Colour
  own = OfJob q.job number

  abbrev reached : List Colour
  reached = reached_by_all state colours values

  abbrev joined : List Colour
  joined = here_at colours q ∷ reached

  abbrev next : State
  next = step_of graph state q.job

  abbrev more : Colours
  more = coloured_more None colours

  never : (own : Colour) → None ≡ Some own → may_have_colour graph cell ≡ true
  never own is = cc

  cells_are : next.cells ≡ state.cells ++ cell ∷ []
  cells_are = cells_now graph states state colours x.secure.coloured x.secure.memory.count q job f
      function instr x.stands dst cell refl x.gives None never

  abbrev later : KindedLater graph x.secure.coloured.kinded.world next
  later = kinded_now graph states state colours x.secure.coloured x.secure.memory.count q job f
      function instr x.stands dst cell refl x.gives None never

  named : (v : Value) → Contains values v → NamesCells state.cells v
  named = operands_named graph states state colours x.secure.coloured x.secure.memory.count q job f
      function instr x.stands dst cell refl x.gives None never args values have

  -- the parts have the kinds of their places
  places : HavePlaces graph.shapes later.kinded.world.cells values
      (parts (shape_at graph.shapes is_class k))
  places =
      let there = ap (λ l. slice_get l (length state.cells)) cells_are
      ∙ slice_get_end state.cells cell in
      let inside = slice_get_within next.cells (length state.cells) cell there in
      let count = later.kinded.fits.cell_count in
      let kind = found_within later.kinded.world.cells (length state.cells)
      (omega (arith, inside, count)) in
      (later.kinded.fits.cells (length state.cells) cell kind.0 there kind.1).1

  -- so they reach nothing
  nothing : (c : Colour) → Contains reached c → ⊥
  nothing c has =
      let of = of_flat_map (colours_of state.cells colours.cells) values c has in
      by (shape_at graph.shapes is_class k) refl of.0 of.1
      (subst (λ l. Contains l c) (sym (reach graph state next colours cell None
      x.secure.memory.count cells_are of.0 (named of.0 of.1))) of.2) places
    where
      by : (o : Option Shape) → shape_at graph.shapes is_class k ≡ o → (v : Value)
          → Contains values v → Contains (colours_of next.cells more.cells v) c
          → HavePlaces graph.shapes later.kinded.world.cells values (parts o) → ⊥
      by None is v among shows fit =
          let are = fit.are in let clash : None ≡ Some fit.kinds = are in
          let wrong : ⊥ = cc in wrong
      by (Some shape) is v among shows fit =
          let found = shape_found graph.shapes is_class k shape is in
          let all = parts_cross graph x.secure.coloured.clean k shape found.0 found.1 sends
          (sym (ap (option_and_then (λ (s : Shape). s.actor)) found.0) ∙ no_actor) in
          let stands = stands_at values v among in
          let inside = slice_get_within values stands.0 v stands.1 in
          let count = fit.have.count in
          let kind = found_within fit.kinds stands.0 (omega (arith, inside, count)) in
          crosses_nothing graph (conformances_hold graph x.secure.coloured.clean) later.kinded.world
          next.cells more.cells
          (colours_fit graph x.secure.coloured.clean next later.kinded more.cells
          (have_now graph states state colours x.secure.coloured x.secure.memory.count q job f
          function instr x.stands dst cell refl x.gives None never)) v kind.0
          (fit.have.each stands.0 v kind.0 stands.1 kind.1)
          (part_crosses graph shape all fit.kinds fit.are stands.0 kind.0 kind.1) c shows

  brings : (c : Colour)
      → Contains (colours_of next.cells more.cells (value.Cell (length state.cells))) c
      → (y : Element) × Contains xs y × HoldsIn state colours f (here_at colours q) y c
  brings c has = absurd (none_in c (subst (λ l. Contains l c)
      (ap (λ cells. colours_of cells more.cells (value.Cell (length state.cells))) cells_are
      ∙ bare_shows state.cells colours.cells cell x.secure.memory.count
      (λ g captures is. let clash : ⊥ = cc in clash)) has))

  holds : HoldsItsOwn graph state colours cell None
  holds = record {
    marked = λ m. let clash : false ≡ true = sym (ap not sends) ∙ m in
        absurd (let wrong : ⊥ = cc in wrong);
    may = never;
    named = named;
    inside = λ c w is has. absurd (let clash : ⊥ = cc in clash);
    kept = λ owner w is has.
        let clash : None ≡ Some owner = sym (ap (option_map GlobalActor) no_actor) ∙ is in
        absurd (let wrong : ⊥ = cc in wrong);
    global_closures = λ g actor captures c is. absurd (let clash : ⊥ = cc in clash);
    own_closures = λ g self captures c is. absurd (let clash : ⊥ = cc in clash);
  }

  pub sendable_stays : StaysSecure graph states state colours q number f (Middle instr) effect
  sendable_stays after paints =
      bare_secure graph states state colours x.secure q job f function instr x.stands dst cell
      refl x.gives (no_initialiser graph function at dst k args no_actor) xs
      (row graph states state colours x.secure.coloured q job f function instr x.stands).moves
      (operands_apart (elements_of graph.shapes function.regs) args dst
      (x.secure.coloured.clean.placed.sets f.function function x.stands.is f.point instr
      x.stands.here)) brings joined after unites same holds
    where
      unites : Unites q.job joined more after
      unites = subst (λ b. Unites q.job (cond b (here_at colours q) own ∷ reached)
          (coloured_more (cond (not b) (Some own) None) colours) after) sends paints

      -- the colour of `Here` alone is joined
      is_here : (c : Colour) → Contains joined c → here_at colours q ≡ c
      is_here c has = elim (first_or_later (here_at colours q) reached c has) [
        | inl same ↦ same
        | inr there ↦ absurd (nothing c there)
      ]

      same : (n : ℕ) → Contains unites.numbers n → unites.kept ≡ OfJob q.job n
      same n has =
          sym (is_here unites.kept (unites.among (here_at colours q)
          (first_in (here_at colours q) reached)))
          ∙ is_here (OfJob q.job n) (unites.only n has)

  pub sendable_joins : MayJoin graph state colours q number f (Middle instr) effect
  sendable_joins =
      subst (λ b. MayUnite q (cond b (here_at colours q) own ∷ reached)) (sym sends)
      (held_unite (view_at graph states state colours) q x.secure.coloured.sound.owned
      joined held)
    where
      held : (c : Colour) → Contains joined c
          → (y : Element) × HoldsLive (view_at graph states state colours) q y c
      held c has = elim (first_or_later (here_at colours q) reached c has) [
        | inl same ↦ (
          Here,
          held_live graph states state colours x.secure.coloured q job f function
              instr x.stands Here c tt same,
        )
        | inr there ↦ absurd (nothing c there)
      ]
