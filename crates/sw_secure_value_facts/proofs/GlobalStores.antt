-- Stores into globals: a global is of the actor that the body runs on, or what it has may cross.
use Rattle.std.proofs.Common.{◌≡◌, ◌+◌, ℕ, true, false, not, Option, Some, None, List, [], ◌∷◌}
use Rattle.std.proofs.Common.{length, Contains, refl, sym, subst, ap, ◌∙◌}
use Rattle.std.specs.Option.{option_map, option_map_or}
use Rattle.std.specs.List.{slice_get}
use Rattle.std.proofs.lemmas.Bool.{and_parts}
use Rattle.sw_list.proofs.Members.{first_in, later_in, member_at, one_in}
use Rattle.sw_graph.specs.declared.function.Function.{Function}
use Rattle.sw_graph.specs.declared.function.GlobalKind.{GlobalKind}
use Rattle.sw_graph.specs.declared.function.RegKind.TheVariants.{Plain}
use Rattle.sw_graph.specs.declared.graph.Graph.{Graph}
use Rattle.sw_graph.specs.declared.instr.Instr.{Instr}
use Rattle.sw_graph.specs.declared.instr.Instr.TheVariants.{StoreGlobal}
use Rattle.sw_graph.specs.declared.instr.Operand.{Operand}
use Rattle.sw_graph.specs.Bodies.{is_on}
use Rattle.sw_graph.specs.Clean.{GlobalClean, may_cross}
use Rattle.sw_graph.specs.Kinds.{Goes}
use Rattle.sw_graph.specs.Points.{Middle}
use Rattle.sw_value.specs.declared.effect.Effect.{Effect}
use Rattle.sw_value.specs.declared.effect.Effect.TheVariants as effect
use Rattle.sw_value.specs.declared.frame.Frame.{Frame}
use Rattle.sw_value.specs.declared.job.Job.{Job}
use Rattle.sw_value.specs.declared.state.State.{State}
use Rattle.sw_value.specs.declared.value.Value.{Value}
use Rattle.sw_value.specs.Effect.{is_stuck, needs, point_effect}
use Rattle.sw_value.specs.Value.{operand_value}
use Rattle.sw_list.proofs.ListLemmas.{at_index}
use Rattle.sw_partition.specs.Regions.{Regions}
use Rattle.sw_region_ops.specs.Elements.{elements_of}
use Rattle.sw_machine_kind_facts.specs.Kinds.{HasKind}
use Rattle.sw_machine_kind_facts.proofs.KindLemmas.{captured, goes_captured}
use Rattle.sw_owner_facts.specs.Colours.{Colour, GlobalActor, OfActor}
use Rattle.sw_owner_facts.specs.View.{Here, Frame as Spot}
use Rattle.sw_region_facts.specs.Moves.{tracked}
use Rattle.sw_reach_facts.specs.Reached.{colours_of}
use Rattle.sw_view_facts.specs.Standing.{StandsAt}
use Rattle.sw_view_facts.specs.Views.{Colours, frame_at, here_at}
use Rattle.sw_store_facts.proofs.Getting.{unstuck}
use Rattle.sw_store_facts.proofs.Stepping.{row}
use Rattle.sw_store_facts.proofs.Stores.{found, global_stores}
use Rattle.sw_secure_facts.specs.Secure.{IsSecure}
use Rattle.sw_secure_facts.proofs.Heres.{have_heres}
use Rattle.sw_store_facts.proofs.Operands.{HeldBy, both_held, value_held}
use Rattle.sw_view_facts.proofs.IsolationLemmas.{global_isolation, on_is}
use Rattle.sw_secure_value_facts.proofs.Keeping.{Keeps}
use Rattle.sw_store_facts.proofs.Standing.{crossing_bare, frame_there, here_of, instr_at}
use Rattle.sw_store_facts.proofs.Standing.{of_register}
use Rattle.sw_secure_value_facts.proofs.Storing.{global_kept}

module _ (graph : Graph) (states : ℕ → List (Option Regions)) (state : State) (colours : Colours)
    (s : IsSecure graph states state colours) (q : Spot) (job : Job) (f : Frame)
    (function : Function) (number at g : ℕ) (src : Operand)
    (x : StandsAt graph state q job f function (Middle (StoreGlobal at g src))) where
  abbrev elements : List (Option ℕ)
  elements = elements_of graph.shapes function.regs

  abbrev instr : Instr
  instr = StoreGlobal at g src

  there : frame_at state q ≡ Some f
  there = frame_there graph states state colours s.coloured q job f function (Middle instr) x

  module _ (v : Value) (has : operand_value f.regs src ≡ Some v) where
    held : HeldBy state colours q f (Here ∷ tracked elements (src ∷ []))
        (here_at colours q ∷ colours_of state.cells colours.cells v)
    held = both_held state colours q f (Here ∷ tracked elements (src ∷ []))
        (here_at colours q ∷ []) (colours_of state.cells colours.cells v)
        (λ c has. (
          Here,
          first_in Here (tracked elements (src ∷ [])),
          one_in (here_at colours q) c has,
        ))
        (λ c reached.
        let y = value_held graph s.coloured.clean state s.coloured.kinded colours s.coloured.have q
        f
        there function x.is (src ∷ []) src v (member_at (src ∷ []) 0 src refl) has c reached in
        (y.0, later_in Here (tracked elements (src ∷ [])) y.0 y.1, y.2))

    -- the value has the global's kind
    global_kind : (kind : GlobalKind) → slice_get graph.globals g ≡ Some kind
        → HasKind graph.shapes s.coloured.kinded.world.cells v (Plain kind.ty)
    global_kind kind is =
        let register = of_register graph states state colours s.coloured q job f function (Middle
        instr)
        x src.reg v has in
        captured graph.shapes s.coloured.kinded.world.cells v register.kind (Plain kind.ty)
        register.has
        (goes_captured (Some register.kind) (Some (Plain kind.ty))
        (subst (λ k. Goes k (Some (Plain kind.ty))) register.is
        (subst (λ o. Goes (slice_get function.regs src.reg)
        (option_map (λ (global : GlobalKind). Plain global.ty) o)) is
        (instr_at graph states state colours s.coloured q job f function instr x).kinds)))

    owned : (kind : GlobalKind) (other : Colour) → slice_get graph.globals g ≡ Some kind
        → Contains (colours_of state.cells colours.cells v) other
        → (actor : ℕ) × (kind.actor ≡ Some actor)
        × (here_at colours q ≡ OfActor (GlobalActor actor))
    owned kind other is reached = by kind.actor refl where
      inside : option_map_or (λ actor. is_on actor function.iso) kind.actor true ≡ true
      inside = sym (ap (λ p. option_map_or (λ (global : GlobalKind).
          option_map_or (λ actor. is_on actor function.iso) global.actor true) p false) is)
          ∙ s.coloured.clean.placed.accesses f.function function x.is f.point instr x.here

      by : (o : Option ℕ) → kind.actor ≡ o → (actor : ℕ) × (kind.actor ≡ Some actor)
          × (here_at colours q ≡ OfActor (GlobalActor actor))
      by (Some actor) on = (
        actor,
        on,
        here_of graph states state colours s.coloured q job f function (Middle instr) x
            (GlobalActor actor) (global_isolation function f.regs actor (on_is actor function.iso
            (sym (ap (λ p. option_map_or (λ actor. is_on actor function.iso) p true) on) ∙ inside))),
      )
      by None free =
          let clean = and_parts (not kind.mutable) (may_cross graph kind.ty)
          (at_index (GlobalClean graph) graph.globals g kind s.coloured.clean.globals is free) in
          absurd (crossing_bare graph states state colours s.coloured q job f function (Middle
          instr) x
          v (Plain kind.ty) (global_kind kind is) clean.1 other reached)

  pub global_store_kept : Keeps graph states state colours q number f (Middle instr)
      (point_effect graph state (length job.frames) f (Middle instr))
  global_store_kept =
      let then : Value → Effect = λ v. needs (slice_get state.globals g)
      (λ old. effect.WriteGlobal g v (f.point + 1)) in
      let free = unstuck graph states state colours s.coloured q job f function instr x in
      let v = found (operand_value f.regs src) then free in
      let old = found (slice_get state.globals g)
      (λ old. effect.WriteGlobal g v.0 (f.point + 1))
      (sym (ap (λ o. is_stuck (needs o then)) v.1) ∙ free) in
      let gives : point_effect graph state (length job.frames) f (Middle instr)
      ≡ effect.WriteGlobal g v.0 (f.point + 1) =
      ap (λ o. needs o then) v.1
      ∙ ap (λ o. needs o (λ old. effect.WriteGlobal g v.0 (f.point + 1))) old.1 in
      subst (Keeps graph states state colours q number f (Middle instr)) (sym gives)
      (global_kept graph states state colours s q job f function number instr x
      (Here ∷ tracked elements (src ∷ []))
      (row graph states state colours s.coloured q job f function instr x).moves
      (global_stores graph states state colours s.coloured
      (have_heres graph states state colours s.heres) q job f function at g src x) v.0 g gives
      (held v.0 v.1) (owned v.0 v.1))
