-- A register that gets a value which reaches no more than another register's.
use Rattle.std.proofs.Common.{◌≡◌, ◌+◌, ℕ, false, Option, Some, None, List, [], length, Contains}
use Rattle.std.proofs.Common.{refl, sym, subst, ap, ◌∙◌}
use Rattle.std.specs.List.{slice_get}
use Rattle.std.specs.Option.{option_map_or}
use Rattle.sw_list.proofs.Members.{in_one}
use Rattle.sw_graph.specs.declared.function.Function.{Function}
use Rattle.sw_graph.specs.declared.graph.Graph.{Graph}
use Rattle.sw_graph.specs.declared.instr.Instr.{Instr}
use Rattle.sw_graph.specs.declared.instr.Operand.{Operand}
use Rattle.sw_graph.specs.Mentions.{set_by}
use Rattle.sw_graph.specs.Points.{Middle}
use Rattle.sw_value.specs.declared.effect.Effect.TheVariants.{Set}
use Rattle.sw_value.specs.declared.frame.Frame.{Frame}
use Rattle.sw_value.specs.declared.job.Job.{Job}
use Rattle.sw_value.specs.declared.state.State.{State}
use Rattle.sw_value.specs.declared.value.Value.{Value}
use Rattle.sw_value.specs.Effect.{point_effect}
use Rattle.sw_value.specs.State.{in_job}
use Rattle.sw_value.specs.Value.{value_at}
use Rattle.sw_partition.specs.Regions.{Regions}
use Rattle.sw_region_ops.specs.Elements.{element_at, elements_of}
use Rattle.sw_machine_kind_facts.proofs.NeverStuck.{step_kinded}
use Rattle.sw_owner_facts.specs.Colours.{Colour}
use Rattle.sw_owner_facts.specs.View.{Element, Register, Frame as Spot}
use Rattle.sw_region_facts.specs.Moves.{Sets, copied_from}
use Rattle.sw_region_facts.specs.Rows.{CopiesFrom}
use Rattle.sw_reach_facts.specs.Reached.{colours_of}
use Rattle.sw_reach_facts.specs.Coloured.{HaveColours}
use Rattle.sw_view_facts.specs.Changes.{HoldsIn}
use Rattle.sw_view_facts.specs.Effects.{turn_of}
use Rattle.sw_view_facts.specs.Standing.{StandsAt}
use Rattle.sw_view_facts.specs.Views.{Colours, annotated, colours_by, here_at, makes_itself}
use Rattle.sw_view_facts.proofs.EffectLemmas.{reach_same}
use Rattle.sw_view_facts.proofs.StepLemmas.{effect_sets}
use Rattle.sw_view_facts.proofs.ValueLemmas.{register_shows}
use Rattle.sw_store_facts.specs.Sound.{HasSoundView, IsColoured}
use Rattle.sw_store_facts.proofs.Bare.{untracked_bare}
use Rattle.sw_store_facts.proofs.Stepping.{next_state, frame_is, Row, row, steps, frame_now}
use Rattle.sw_store_facts.proofs.Stepping.{function_now, executes, keeps_shape}

module _ (graph : Graph) (states : ℕ → List (Option Regions)) (state : State) (colours : Colours)
    (s : IsColoured graph states state colours) (q : Spot) (job : Job) (f : Frame)
    (function : Function) (instr : Instr)
    (x : StandsAt graph state q job f function (Middle instr))
    (ordinary : makes_itself graph function (Middle instr) ≡ false) (r : ℕ) (v : Value)
    (sets_r : set_by instr ≡ Some r)
    (gives : point_effect graph state (length job.frames) f (Middle instr)
    ≡ Set r v (f.point + 1)) where
  abbrev elements : List (Option ℕ)
  elements = elements_of graph.shapes function.regs

  abbrev next : State
  next = next_state graph states state colours s q job f function instr x

  abbrev here : Row graph states state colours s q job f function instr x
  here = row graph states state colours s q job f function instr x

  cells_stay : next.cells ≡ state.cells
  unfolding in_job
  cells_stay = ap (λ (t : State). t.cells)
      (steps graph states state colours s q job f function instr x (Set r v (f.point + 1)) refl refl
      gives)

  -- what the register reaches afterwards
  pub reached : (c : Colour)
      → Contains (colours_by next colours (Some (turn_of (Set r v (f.point + 1)) f)) r) c
      → Contains (colours_of state.cells colours.cells v) c
  reached c in_r = subst (λ cells. Contains (colours_of cells colours.cells v) c) cells_stay
      (register_shows next colours f (Set r v (f.point + 1)) r v c refl refl in_r)

  -- if it isn't tracked, it reaches nothing
  pub set_bare : element_at elements r ≡ None → (c : Colour)
      → Contains (colours_by next colours (Some (turn_of (Set r v (f.point + 1)) f)) r) c → ⊥
  set_bare none c in_r =
      untracked_bare graph s.clean next (step_kinded graph s.supplied state q.job s.kinded).kinded
      colours (subst (λ cells. HaveColours graph cells colours.cells) (sym cells_stay) s.have) q
      (turn_of (Set r v (f.point + 1)) f)
      (frame_now graph states state colours s q job f function instr x (Set r v (f.point + 1)) refl
      refl gives) function
      (ap (slice_get graph.functions)
      (function_now graph states state colours s q job f function instr x (Set r v (f.point + 1))
      refl refl gives) ∙ x.is) r none c in_r

  -- the register gets what these elements hold
  pub set_sound : (sources : List Element) → Sets elements r sources here.a here.c
      → ((c : Colour)
      → Contains (colours_by next colours (Some (turn_of (Set r v (f.point + 1)) f)) r) c
      → (y : Element) × Contains sources y × HoldsIn state colours f (here_at colours q) y c)
      → HasSoundView graph states next colours
  set_sound sources sets brings =
      effect_sets graph states state next q f function (Set r v (f.point + 1))
      (annotated states state) (annotated states next) colours colours here.a here.c
      (executes graph states state colours s q job f function instr x (Set r v (f.point + 1)) refl
      refl gives colours (λ p. refl) (reach_same state next colours colours cells_stay refl))
      (keeps_shape graph states state colours s q job f function instr x (Set r v (f.point + 1)) refl
      refl gives ordinary (λ k is. sets_r ∙ is)) r sources refl sets brings s.sound

  -- the value reaches no more than that of the operand
  pub copy_sound : (operand : Operand) (w : Value) → CopiesFrom elements r operand here.a here.c
      → value_at f.regs operand.reg ≡ Some w
      → ((c : Colour) → Contains (colours_of state.cells colours.cells v) c
      → Contains (colours_of state.cells colours.cells w) c)
      → HasSoundView graph states next colours
  copy_sound operand w copies has less =
      set_sound (copied_from (element_at elements r) (element_at elements operand.reg) operand.reg)
      copies.sets brings
    where
      in_source : (c : Colour)
          → Contains (colours_by next colours (Some (turn_of (Set r v (f.point + 1)) f)) r) c
          → Contains (colours_by state colours (Some f) operand.reg) c
      in_source c in_r = subst (λ o. Contains
          (option_map_or (colours_of state.cells colours.cells) o []) c) (sym has)
          (less c (reached c in_r))

      brings : (c : Colour)
          → Contains (colours_by next colours (Some (turn_of (Set r v (f.point + 1)) f)) r) c
          → (y : Element) × Contains (copied_from (element_at elements r)
          (element_at elements operand.reg) operand.reg) y
          × HoldsIn state colours f (here_at colours q) y c
      brings c in_r = by (element_at elements r) refl (element_at elements operand.reg) refl where
        by : (o : Option ℕ) → element_at elements r ≡ o → (p : Option ℕ)
            → element_at elements operand.reg ≡ p
            → (y : Element) × Contains (copied_from o p operand.reg) y
            × HoldsIn state colours f (here_at colours q) y c
        by None none p is = absurd (set_bare none c in_r)
        by (Some i) is None none = absurd (untracked_bare graph s.clean state s.kinded colours s.have
            q f (frame_is graph states state colours s q job f function instr x) function x.is
            operand.reg none c (in_source c in_r))
        by (Some i) is (Some k) there =
            (Register operand.reg, in_one (Register operand.reg), in_source c in_r)
