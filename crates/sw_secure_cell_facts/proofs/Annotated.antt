-- The initialiser of a class with a global actor makes its object.
use Rattle.std.proofs.Common.{◌≡◌, ◌+◌, ◌&&◌, ℕ, true, false, cond, not, Option, Some, None}
use Rattle.std.proofs.Common.{List, ◌∷◌, length, Contains, refl, sym, subst, ap, ◌∙◌}
use Rattle.std.specs.Option.{option_map}
use Rattle.std.proofs.lemmas.Bool.{and_from, and_parts, or_right}
use Rattle.sw_list.proofs.Members.{first_in, later_in, in_flat_map}
use Rattle.sw_types.specs.Sendable.{sends_at}
use Rattle.sw_graph.specs.declared.function.Function.{Function}
use Rattle.sw_graph.specs.declared.graph.Graph.{Graph}
use Rattle.sw_graph.specs.declared.instr.Instr.TheVariants.{NewObject}
use Rattle.sw_graph.specs.declared.instr.Instr.{Instr}
use Rattle.sw_graph.specs.declared.instr.Operand.{Operand}
use Rattle.sw_graph.specs.Bodies.{actor_of, is_on, is_on_some, is_own, names}
use Rattle.sw_graph.specs.Placed.{IsLastOf}
use Rattle.sw_graph.specs.Points.{Middle}
use Rattle.sw_value.specs.declared.cell.HeapCell.{HeapCell}
use Rattle.sw_value.specs.declared.cell.HeapCell.TheVariants.{Object}
use Rattle.sw_value.specs.declared.effect.Effect.{Effect}
use Rattle.sw_value.specs.declared.effect.Effect.TheVariants.{New}
use Rattle.sw_value.specs.declared.frame.Frame.{Frame}
use Rattle.sw_value.specs.declared.job.Job.{Job}
use Rattle.sw_value.specs.declared.state.State.{State}
use Rattle.sw_value.specs.declared.value.Value.{Value}
use Rattle.sw_value.specs.Reach.{step_of}
use Rattle.sw_value.specs.Value.{values_at}
use Rattle.sw_partition.specs.Regions.{Regions}
use Rattle.sw_region_ops.specs.Elements.{elements_of}
use Rattle.sw_owner_facts.specs.Colours.{Colour, GlobalActor, OfActor, OfJob}
use Rattle.sw_owner_facts.specs.View.{Element, HoldsLive, IsUnheld, Frame as Spot}
use Rattle.sw_owner_facts.proofs.WithinLemmas.{closed_class_is_unheld}
use Rattle.sw_region_facts.specs.Moves.{tracked}
use Rattle.sw_reach_facts.specs.Coloured.{may_have_colour}
use Rattle.sw_reach_facts.specs.Reached.{colours_of}
use Rattle.sw_view_facts.specs.Memory.{coloured_more}
use Rattle.sw_view_facts.specs.Renaming.{united}
use Rattle.sw_view_facts.specs.Views.{Colours, here_at, makes_itself, view_at}
use Rattle.sw_store_facts.proofs.Stepping.{row}
use Rattle.sw_secure_facts.specs.Executing.{Executing, MayJoin, StaysSecure}
use Rattle.sw_secure_facts.specs.Memory.{ReachesOnly}
use Rattle.sw_secure_facts.specs.Painting.{MayUnite, Unites, reached_by_all}
use Rattle.sw_secure_facts.specs.Secure.{IsSecure}
use Rattle.sw_secure_cell_facts.proofs.Adding.{HoldsItsOwn, kept_is, reaches_kept}
use Rattle.sw_secure_cell_facts.proofs.Closing.{begins, handed_sound, maker_placed}
use Rattle.sw_view_facts.proofs.IsolationLemmas.{global_isolation, on_is}
use Rattle.sw_store_facts.proofs.Standing.{here_of, place}
use Rattle.sw_secure_facts.proofs.Kept.{held_unite}
use Rattle.sw_secure_cell_facts.proofs.Made.{operands_named}
use Rattle.sw_secure_cell_facts.proofs.Operands.{all_held}
use Rattle.sw_secure_cell_facts.proofs.Whole.{made_secure}

module _ (graph : Graph) (states : ℕ → List (Option Regions)) (state : State) (colours : Colours)
    (q : Spot) (number : ℕ) (job : Job) (f : Frame) (function : Function) (at dst k : ℕ)
    (args : List Operand) (values : List Value) (have : values_at f.regs args ≡ Some values)
    (x : Executing graph states state colours q number job f function
    (Middle (NewObject at dst k args))
    (New dst (Object k values) (length state.cells) (f.point + 1)))
    (sends : sends_at graph.shapes k ≡ true) (actor : ℕ)
    (of_actor : actor_of graph.shapes k ≡ Some actor) where
  abbrev instr : Instr
  instr = NewObject at dst k args

  abbrev cell : HeapCell
  cell = Object k values

  abbrev effect : Effect
  effect = New dst cell (length state.cells) (f.point + 1)

  abbrev xs : List Element
  xs = tracked (elements_of graph.shapes function.regs) args

  abbrev own : Colour
  own = OfJob q.job number

  abbrev reached : List Colour
  reached = reached_by_all state colours values

  abbrev joined : List Colour
  joined = here_at colours q ∷ reached

  abbrev next : State
  next = step_of graph state q.job

  abbrev more : Colours
  more = coloured_more None colours

  never : (own : Colour) → None ≡ Some own → may_have_colour graph cell ≡ true
  never own is = cc

  placed : ((is_on actor function.iso && names k function.result) ≡ true)
      × IsLastOf (place graph states state colours x.secure.coloured q job f function (Middle instr)
      x.stands).block
      (place graph states state colours x.secure.coloured q job f function (Middle instr)
      x.stands).index
  placed = maker_placed graph states state colours x.secure q job f function instr x.stands actor
      of_actor

  parts : (is_on actor function.iso ≡ true) × (names k function.result ≡ true)
  parts = and_parts (is_on actor function.iso) (names k function.result) placed.0

  makes_it : makes_itself graph function (Middle instr) ≡ true
  makes_it = or_right (is_own function.iso && false)
      (names k function.result && is_on_some (actor_of graph.shapes k) function.iso)
      (and_from (names k function.result) (is_on_some (actor_of graph.shapes k) function.iso)
      parts.1 (ap (λ o. is_on_some o function.iso) of_actor ∙ parts.0))

  here_is : here_at colours q ≡ OfActor (GlobalActor actor)
  here_is = here_of graph states state colours x.secure.coloured q job f function (Middle instr) x.stands
      (GlobalActor actor) (global_isolation function f.regs actor (on_is actor function.iso parts.0))

  -- what is joined is held live
  held : (c : Colour) → Contains joined c
      → (y : Element) × HoldsLive (view_at graph states state colours) q y c
  held = all_held graph states state colours x.secure.coloured q job f function instr x.stands args
      values have (row graph states state colours x.secure.coloured q job f function instr
      x.stands).moves.used

  unheld : (n : ℕ) → Contains joined (OfJob q.job n)
      → IsUnheld (view_at graph states next more) (OfJob q.job n)
  unheld n has =
      let y = held (OfJob q.job n) has in
      closed_class_is_unheld (view_at graph states state colours) (view_at graph states next more) q
      y.0 (GlobalActor actor) n x.secure.coloured.sound
      (begins graph states state colours x.secure q job f function instr x.stands dst cell refl
      x.gives makes_it placed.1) here_is y.1

  module _ (after : Colours) (unites : Unites q.job joined more after) where
    kept_actor : unites.kept ≡ OfActor (GlobalActor actor)
    kept_actor = kept_is q.job joined more after unites (here_at colours q) (GlobalActor actor)
        (first_in (here_at colours q) reached) here_is

    holds : HoldsItsOwn graph state (united q.job unites.numbers unites.kept colours) cell None
    holds = record {
      marked = λ m. let clash : false ≡ true = sym (ap not sends) ∙ m in
          absurd (let wrong : ⊥ = cc in wrong);
      may = never;
      named = operands_named graph states state colours x.secure.coloured x.secure.memory.count q
          job f function instr x.stands dst cell refl x.gives None never args values have;
      inside = λ c w is has. absurd (let clash : ⊥ = cc in clash);
      kept = λ owner w is has.
          subst (ReachesOnly state (united q.job unites.numbers unites.kept colours) w)
          (kept_actor ∙ ap OfActor (let owned : Some (GlobalActor actor) ≡ Some owner =
          sym (ap (option_map GlobalActor) of_actor) ∙ is in
          let e : GlobalActor actor ≡ owner = cc in e))
          (reaches_kept graph state colours more after q.job joined unites w
          (λ d shows. later_in (here_at colours q) reached d
          (in_flat_map (colours_of state.cells colours.cells) values w d has shows)));
      global_closures = λ g actor captures c is. absurd (let clash : ⊥ = cc in clash);
      own_closures = λ g self captures c is. absurd (let clash : ⊥ = cc in clash);
    }

    secure : IsSecure graph states next after
    secure = subst (IsSecure graph states next) (sym unites.is)
        (made_secure graph states state colours x.secure q job f function instr x.stands dst cell
        refl x.gives None never unites.numbers unites.kept holds
        (handed_sound graph states state colours x.secure q job f function instr x.stands dst cell
        refl x.gives makes_it placed.1 unites.numbers unites.kept
        (λ n has. unheld n (unites.only n has))))

  pub annotated_stays : StaysSecure graph states state colours q number f (Middle instr) effect
  annotated_stays after paints = secure after
      (subst (λ b. Unites q.job (cond b (here_at colours q) own ∷ reached)
      (coloured_more (cond (not b) (Some own) None) colours) after) sends paints)

  pub annotated_joins : MayJoin graph state colours q number f (Middle instr) effect
  annotated_joins =
      subst (λ b. MayUnite q (cond b (here_at colours q) own ∷ reached)) (sym sends)
      (held_unite (view_at graph states state colours) q x.secure.coloured.sound.owned
      joined held)
