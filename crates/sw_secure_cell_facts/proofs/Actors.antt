-- The initialiser of an actor makes it.
use Rattle.std.proofs.Common.{◌≡◌, ◌+◌, ◌&&◌, ℕ, zero, suc, Bool, true, false, cond, Option}
use Rattle.std.proofs.Common.{Some, None, List, [], ◌∷◌, length, Contains, refl, sym, subst, ap}
use Rattle.std.proofs.Common.{◌∙◌}
use Rattle.std.proofs.Common.{inl, inr}
use Rattle.std.specs.List.{list_any, slice_get}
use Rattle.std.proofs.lemmas.Bool.{and_from, and_parts, or_left, or_right}
use Rattle.sw_list.proofs.Members.{first_in, first_or_later, later_in, in_flat_map}
use Rattle.sw_graph.specs.declared.function.Function.{Function}
use Rattle.sw_graph.specs.declared.graph.Graph.{Graph}
use Rattle.sw_graph.specs.declared.instr.Instr.TheVariants.{NewActor}
use Rattle.sw_graph.specs.declared.instr.Instr.{Instr}
use Rattle.sw_graph.specs.declared.instr.Operand.{Operand}
use Rattle.sw_graph.specs.Bodies.{is_actor_initialiser, is_own, makes_actor, names}
use Rattle.sw_graph.specs.Placed.{IsLastOf}
use Rattle.sw_graph.specs.Points.{Middle, points_of}
use Rattle.sw_value.specs.declared.cell.HeapCell.{HeapCell}
use Rattle.sw_value.specs.declared.cell.HeapCell.TheVariants.{Actor}
use Rattle.sw_value.specs.declared.effect.Effect.{Effect}
use Rattle.sw_value.specs.declared.effect.Effect.TheVariants.{New}
use Rattle.sw_value.specs.declared.frame.Frame.{Frame}
use Rattle.sw_value.specs.declared.job.Job.{Job}
use Rattle.sw_value.specs.declared.state.State.{State}
use Rattle.sw_value.specs.declared.value.Value.{Value}
use Rattle.sw_value.specs.Reach.{step_of}
use Rattle.sw_value.specs.Value.{values_at}
use Rattle.sw_partition.specs.Regions.{Regions}
use Rattle.sw_region_ops.specs.Elements.{elements_of}
use Rattle.sw_owner_facts.specs.Colours.{Colour, Instance, OfActor, OfJob}
use Rattle.sw_owner_facts.specs.View.{Element, HoldsLive, IsDisconnected, MakesActor}
use Rattle.sw_owner_facts.specs.View.{Frame as Spot}
use Rattle.sw_owner_facts.proofs.WithinLemmas.{closed_is_disconnected}
use Rattle.sw_region_facts.specs.Moves.{tracked}
use Rattle.sw_reach_facts.specs.Coloured.{may_have_colour}
use Rattle.sw_reach_facts.specs.Reached.{colours_of}
use Rattle.sw_view_facts.specs.Memory.{coloured_more}
use Rattle.sw_view_facts.specs.Renaming.{united}
use Rattle.sw_view_facts.specs.Views.{Colours, annotated, here_at, isolation_by, makes_itself}
use Rattle.sw_view_facts.specs.Views.{view_at}
use Rattle.sw_store_facts.proofs.Stepping.{frame_is, row}
use Rattle.sw_secure_facts.specs.Executing.{Executing, MayJoin, StaysSecure}
use Rattle.sw_secure_facts.specs.Memory.{ReachesOnly}
use Rattle.sw_secure_facts.specs.Painting.{Unites, reached_by_all}
use Rattle.sw_secure_facts.specs.Secure.{IsSecure}
use Rattle.sw_secure_cell_facts.proofs.Adding.{HoldsItsOwn, kept_is, reaches_kept}
use Rattle.sw_secure_cell_facts.proofs.Closing.{begins, handed_sound, maker_placed}
use Rattle.sw_view_facts.proofs.IsolationLemmas.{isolation_at}
use Rattle.sw_store_facts.proofs.Standing.{place}
use Rattle.sw_secure_cell_facts.proofs.Made.{operands_named}
use Rattle.sw_secure_cell_facts.proofs.Operands.{all_held}
use Rattle.sw_secure_cell_facts.proofs.Whole.{made_secure}

-- one item of a list passes a test
any_at : {X : Type 0} (p : X → Bool) (xs : List X) (i : ℕ) (y : X) → slice_get xs i ≡ Some y
    → p y ≡ true → list_any p xs ≡ true
any_at p [] i y at is = cc
any_at p (z ∷ xs) zero y at is =
    let same : z ≡ y = cc in or_left (p z) (list_any p xs) (ap p same ∙ is)
any_at p (z ∷ xs) (suc i) y at is = or_right (p z) (list_any p xs) (any_at p xs i y at is)

module _ (graph : Graph) (states : ℕ → List (Option Regions)) (state : State) (colours : Colours)
    (q : Spot) (number : ℕ) (job : Job) (f : Frame) (function : Function) (at dst k : ℕ)
    (args : List Operand) (values : List Value) (have : values_at f.regs args ≡ Some values)
    (x : Executing graph states state colours q number job f function
    (Middle (NewActor at dst k args))
    (New dst (Actor k values) (length state.cells) (f.point + 1))) where
  abbrev instr : Instr
  instr = NewActor at dst k args

  abbrev cell : HeapCell
  cell = Actor k values

  abbrev effect : Effect
  effect = New dst cell (length state.cells) (f.point + 1)

  abbrev xs : List Element
  xs = tracked (elements_of graph.shapes function.regs) args

  abbrev its : Colour
  its = OfActor (Instance (length state.cells))

  abbrev reached : List Colour
  reached = reached_by_all state colours values

  abbrev rest : List Colour
  rest = here_at colours q ∷ reached

  abbrev next : State
  next = step_of graph state q.job

  abbrev more : Colours
  more = coloured_more None colours

  never : (own : Colour) → None ≡ Some own → may_have_colour graph cell ≡ true
  never own is = cc

  placed : ((is_own function.iso && names k function.result) ≡ true)
      × IsLastOf (place graph states state colours x.secure.coloured q job f function (Middle instr)
      x.stands).block
      (place graph states state colours x.secure.coloured q job f function (Middle instr)
      x.stands).index
  placed = maker_placed graph states state colours x.secure q job f function instr x.stands

  parts : (is_own function.iso ≡ true) × (names k function.result ≡ true)
  parts = and_parts (is_own function.iso) (names k function.result) placed.0

  makes_it : makes_itself graph function (Middle instr) ≡ true
  makes_it = or_left (is_own function.iso && names k function.result) false placed.0

  initialiser : is_actor_initialiser function ≡ true
  initialiser = and_from (is_own function.iso)
      (list_any (makes_actor function.result) (points_of function.blocks)) parts.0
      (any_at (makes_actor function.result) (points_of function.blocks) f.point (Middle instr)
      x.stands.here parts.1)

  isolation : ((view_at graph states state colours).shape q).isolation ≡ MakesActor
  isolation = isolation_at graph (annotated states state) state colours q f function
      (frame_is graph states state colours x.secure.coloured q job f function instr x.stands)
      x.stands.is
      ∙ ap (λ b. cond b MakesActor (isolation_by function.iso f.regs)) initialiser

  -- what is joined with the actor's colour is held live
  held : (c : Colour) → Contains rest c
      → (y : Element) × HoldsLive (view_at graph states state colours) q y c
  held = all_held graph states state colours x.secure.coloured q job f function instr x.stands args
      values have (row graph states state colours x.secure.coloured q job f function instr
      x.stands).moves.used

  -- and is the job's, and nothing live holds it any more
  disconnected : (c : Colour) → Contains rest c
      → IsDisconnected (view_at graph states next more) q.job c
  disconnected c has =
      let y = held c has in
      closed_is_disconnected (view_at graph states state colours) (view_at graph states next more) q
      x.secure.coloured.sound
      (begins graph states state colours x.secure q job f function instr x.stands dst cell refl
      x.gives makes_it placed.1) isolation y.0 c y.1

  module _ (after : Colours) (unites : Unites q.job (its ∷ rest) more after) where
    kept_its : unites.kept ≡ its
    kept_its = kept_is q.job (its ∷ rest) more after unites its (Instance (length state.cells))
        (first_in its rest) refl

    holds : HoldsItsOwn graph state (united q.job unites.numbers unites.kept colours) cell None
    holds = record {
      marked = λ m. absurd (let clash : ⊥ = cc in clash);
      may = never;
      named = operands_named graph states state colours x.secure.coloured x.secure.memory.count q
          job f function instr x.stands dst cell refl x.gives None never args values have;
      inside = λ c w is has. absurd (let clash : ⊥ = cc in clash);
      kept = λ owner w is has.
          subst (ReachesOnly state (united q.job unites.numbers unites.kept colours) w)
          (kept_its ∙ ap OfActor (let e : Instance (length state.cells) ≡ owner = cc in e))
          (reaches_kept graph state colours more after q.job (its ∷ rest) unites w
          (λ d shows. later_in its rest d (later_in (here_at colours q) reached d
          (in_flat_map (colours_of state.cells colours.cells) values w d has shows))));
      global_closures = λ g actor captures c is. absurd (let clash : ⊥ = cc in clash);
      own_closures = λ g self captures c is. absurd (let clash : ⊥ = cc in clash);
    }

    secure : IsSecure graph states next after
    secure = subst (IsSecure graph states next) (sym unites.is)
        (made_secure graph states state colours x.secure q job f function instr x.stands dst cell
        refl x.gives None never unites.numbers unites.kept holds
        (handed_sound graph states state colours x.secure q job f function instr x.stands dst cell
        refl x.gives makes_it placed.1 unites.numbers unites.kept
        (λ n has. elim (first_or_later its rest (OfJob q.job n) (unites.only n has)) [
          | inl same ↦ absurd (let clash : ⊥ = cc in clash)
          | inr there ↦ (disconnected (OfJob q.job n) there).unheld
        ])))

  pub actor_stays : StaysSecure graph states state colours q number f (Middle instr) effect
  actor_stays after paints = secure after paints

  pub actor_joins : MayJoin graph state colours q number f (Middle instr) effect
  actor_joins = inr (
    its,
    first_in its rest,
    λ c has. elim (first_or_later its rest c has) [
      | inl same ↦ inl (sym same)
      | inr there ↦ let is = disconnected c there in inr (is.number, is.owner)
    ],
    inl (Instance _, refl),
  )
