-- A part of a struct is set: the struct and the part come together first, and so do their colours.
use Rattle.std.proofs.Common.{◌≡◌, ◌+◌, ℕ, cond, Option, Some, None, List, [], ◌∷◌}
use Rattle.std.proofs.Common.{IsSome, IsTrue, length, Contains, refl, sym, subst, ap, ◌∙◌, inl, inr}
use Rattle.std.specs.Option.{option_and_then, option_map_or}
use Rattle.std.specs.List.{slice_get}
use Rattle.sw_list.proofs.ListLemmas.{some_injective}
use Rattle.sw_list.proofs.Members.{member_at}
use Rattle.sw_types.specs.declared.shape.Shape.{Shape}
use Rattle.sw_types.specs.declared.shape.ShapeKind.{ShapeKind}
use Rattle.sw_types.specs.declared.shape.ShapeKind.TheVariants.{Struct, Enum, Class, Actor}
use Rattle.sw_graph.specs.declared.function.Function.{Function}
use Rattle.sw_graph.specs.declared.function.RegKind.{RegKind}
use Rattle.sw_graph.specs.declared.function.RegKind.TheVariants.{Plain, BoxOf}
use Rattle.sw_graph.specs.declared.graph.Graph.{Graph}
use Rattle.sw_graph.specs.declared.instr.Instr.{Instr}
use Rattle.sw_graph.specs.declared.instr.Instr.TheVariants.{SetField}
use Rattle.sw_graph.specs.declared.instr.Operand.{Operand}
use Rattle.sw_graph.specs.Bodies.{has_self, is_own}
use Rattle.sw_graph.specs.Kinds.{Goes, form_of, is_actor, is_struct, number_of, part, shape_at}
use Rattle.sw_graph.specs.Kinds.{shape_of}
use Rattle.sw_graph.specs.Points.{Middle}
use Rattle.sw_value.specs.declared.effect.Effect.{Effect}
use Rattle.sw_value.specs.declared.effect.Effect.TheVariants as effect
use Rattle.sw_value.specs.declared.frame.Frame.{Frame}
use Rattle.sw_value.specs.declared.job.Job.{Job}
use Rattle.sw_value.specs.declared.state.State.{State}
use Rattle.sw_value.specs.declared.value.Value.{Value}
use Rattle.sw_value.specs.Effect.{point_effect}
use Rattle.sw_value.specs.State.{in_job}
use Rattle.sw_value.specs.Value.{operand_value, value_at}
use Rattle.sw_partition.specs.Regions.{Regions}
use Rattle.sw_region_ops.specs.Elements.{element_at, elements_of}
use Rattle.sw_machine_kind_facts.proofs.NeverStuck.{step_kinded}
use Rattle.sw_owner_facts.specs.Colours.{Colour}
use Rattle.sw_owner_facts.specs.Owned.{IsSound}
use Rattle.sw_owner_facts.specs.View.{Element, Frame as Spot}
use Rattle.sw_region_facts.specs.Moves.{Gathers, Sets, tracked}
use Rattle.sw_region_facts.proofs.Comes.{gathers_sets, sets_weaker}
use Rattle.sw_region_facts.proofs.Weaker.{weaker_itself}
use Rattle.sw_reach_facts.specs.Coloured.{HaveColours}
use Rattle.sw_reach_facts.specs.Reached.{colours_of}
use Rattle.sw_view_facts.specs.Changes.{HoldsIn, KeepsShape}
use Rattle.sw_view_facts.specs.Effects.{turn_of}
use Rattle.sw_view_facts.specs.Executing.{Executes}
use Rattle.sw_view_facts.specs.Standing.{StandsAt}
use Rattle.sw_view_facts.specs.Views.{Colours, annotated, colours_by, here_at, view_of}
use Rattle.sw_view_facts.proofs.EffectLemmas.{inside_keeps_shape, over_other, over_there}
use Rattle.sw_view_facts.proofs.EffectLemmas.{reach_same}
use Rattle.sw_view_facts.proofs.ShapeLemmas.{open_after}
use Rattle.sw_view_facts.proofs.StepLemmas.{effect_sets}
use Rattle.sw_view_facts.proofs.ValueLemmas.{field_shows}
use Rattle.sw_store_facts.specs.Sound.{HasSoundView, IsColoured}
use Rattle.sw_store_facts.proofs.Bare.{untracked_bare}
use Rattle.sw_store_facts.proofs.Getting.{no_maker}
use Rattle.sw_store_facts.proofs.Stepping.{Row, frame_is, frame_now, function_now, next_state, row}
use Rattle.sw_store_facts.proofs.Stepping.{stands_behind, steps}
use Rattle.sw_store_facts.proofs.Gathering.{between}
use Rattle.sw_store_facts.proofs.Operands.{among_tracked, register_held, value_held}
use Rattle.sw_store_facts.proofs.Standing.{instr_at}

-- ---- a struct is no actor
goes_nowhere : (from : Option RegKind) → Goes from None → ⊥
goes_nowhere None goes = goes
goes_nowhere (Some (Plain ty)) goes = goes
goes_nowhere (Some (BoxOf ty)) goes = goes

no_actor : (kind : ShapeKind) (shape : Shape) (from : Option RegKind) (i : ℕ)
    → IsSome (cond (is_actor kind) (Some shape) None)
    → Goes from (part (cond (is_struct kind) (Some shape) None) i) → ⊥
no_actor Struct shape from i is goes = absurd (let clash : ⊥ = cc in clash)
no_actor Enum shape from i is goes = goes_nowhere from goes
no_actor Class shape from i is goes = goes_nowhere from goes
no_actor Actor shape from i is goes = goes_nowhere from goes

struct_is_no_actor : (shapes : List Shape) (kind from : Option RegKind) (i : ℕ)
    → IsSome (shape_of shapes is_actor kind) → Goes from (part (shape_of shapes is_struct kind) i)
    → ⊥
struct_is_no_actor shapes kind from i is goes = by (number_of (form_of kind)) is goes where
  at : (o : Option Shape)
      → IsSome (option_and_then (λ (s : Shape). cond (is_actor s.kind) (Some s) None) o)
      → Goes from (part (option_and_then
      (λ (s : Shape). cond (is_struct s.kind) (Some s) None) o) i) → ⊥
  at None is goes = goes_nowhere from goes
  at (Some shape) is goes = no_actor shape.kind shape from i is goes

  by : (o : Option ℕ) → IsSome (option_and_then (shape_at shapes is_actor) o)
      → Goes from (part (option_and_then (shape_at shapes is_struct) o) i) → ⊥
  by None is goes = goes_nowhere from goes
  by (Some k) is goes = at (slice_get shapes k) is goes

module _ (graph : Graph) (states : ℕ → List (Option Regions)) (state : State) (colours : Colours)
    (s : IsColoured graph states state colours) (q : Spot) (job : Job) (f : Frame)
    (function : Function) (at : ℕ) (target : Operand) (i : ℕ) (src : Operand)
    (x : StandsAt graph state q job f function (Middle (SetField at target i src))) (v : Value)
    (gives : point_effect graph state (length job.frames) f (Middle (SetField at target i src))
    ≡ effect.SetField target.reg i v (f.point + 1)) where
  abbrev elements : List (Option ℕ)
  elements = elements_of graph.shapes function.regs

  abbrev instr : Instr
  instr = SetField at target i src

  abbrev e : Effect
  e = effect.SetField target.reg i v (f.point + 1)

  abbrev xs : List Element
  xs = tracked elements (target ∷ src ∷ [])

  abbrev next : State
  next = next_state graph states state colours s q job f function instr x

  abbrev here : Row graph states state colours s q job f function instr x
  here = row graph states state colours s q job f function instr x

  -- it isn't the frame's own `self`
  shape : KeepsShape graph f (turn_of e f)
  shape = inside_keeps_shape graph state q job f function (Middle instr) x e (f.point + 1) refl refl
      (open_after graph function f.point (Middle instr) x.here (no_maker (is_own function.iso)))
      stays
    where
      stays : IsTrue (has_self function) → Some target.reg ≡ Some 0 → ⊥
      stays self is = struct_is_no_actor graph.shapes (slice_get function.regs target.reg)
          (slice_get function.regs src.reg) i
          (subst (λ r. IsSome (shape_of graph.shapes is_actor (slice_get function.regs r)))
          (sym (some_injective is)) (s.clean.placed.selves f.function function x.is self).kind)
          (instr_at graph states state colours s q job f function instr x).kinds

  cells_stay : next.cells ≡ state.cells
  unfolding in_job
  cells_stay = ap (λ (t : State). t.cells)
      (steps graph states state colours s q job f function instr x e refl refl gives)

  -- The part comes to the struct, with the colours that they have after they became one.
  pub field_sound : operand_value f.regs src ≡ Some v → (after : Colours)
      → HaveColours graph state.cells after.cells
      → IsSound (view_of graph (between graph states state colours s q job f function instr x)
      state after) → HasSoundView graph states next after
  field_sound has after have sound = by (element_at elements target.reg) refl where
    executing : Executes graph states state next q f function e
        (between graph states state colours s q job f function instr x) (annotated states next)
        after after here.c here.c
    executing = record {
      job = job;
      top = x.top;
      is = x.is;
      steps = steps graph states state colours s q job f function instr x e refl refl gives;
      inside = refl;
      before = over_there (annotated states state) q here.c;
      behind = stands_behind graph states state colours s q job f function instr x e refl refl
          gives;
      elsewhere = λ p differ. over_other (annotated states state) q here.c p differ;
      others = λ p differ. refl;
      heres = λ p. refl;
      reach = reach_same state next after after cells_stay refl;
    }

    set_with : (sources : List Element) → Sets elements target.reg sources here.c here.c
        → ((c : Colour) → Contains (colours_by next after (Some (turn_of e f)) target.reg) c
        → (y : Element) × Contains sources y × HoldsIn state after f (here_at after q) y c)
        → HasSoundView graph states next after
    set_with sources sets brings = effect_sets graph states state next q f function e
        (between graph states state colours s q job f function instr x) (annotated states next)
        after after here.c here.c executing shape target.reg sources refl sets brings sound

    still : Gathers elements xs here.c here.c
    still = record {
      uses = record { weaker = weaker_itself elements here.c; used = here.moves.still };
      still = here.moves.still;
      together = here.moves.together;
    }

    brings : (c : Colour) → Contains (colours_by next after (Some (turn_of e f)) target.reg) c
        → (y : Element) × Contains xs y × HoldsIn state after f (here_at after q) y c
    brings c in_r = elim (field_shows next after f target.reg i v (f.point + 1) c in_r) [
      | inl old ↦ register_held graph s.clean state s.kinded after have q f
          (frame_is graph states state colours s q job f function instr x) function x.is
          (target ∷ src ∷ []) target (member_at (target ∷ src ∷ []) 0 target refl) c
          (subst (λ cells. Contains
          (option_map_or (colours_of cells after.cells) (value_at f.regs target.reg) []) c)
          cells_stay old)
      | inr new ↦ value_held graph s.clean state s.kinded after have q f
          (frame_is graph states state colours s q job f function instr x) function x.is
          (target ∷ src ∷ []) src v (member_at (target ∷ src ∷ []) 1 src refl) has c
          (subst (λ cells. Contains (colours_of cells after.cells v) c) cells_stay new)
    ]

    bare : element_at elements target.reg ≡ None → (c : Colour)
        → Contains (colours_by next after (Some (turn_of e f)) target.reg) c → ⊥
    bare none c in_r = untracked_bare graph s.clean next
        (step_kinded graph s.supplied state q.job s.kinded).kinded after
        (subst (λ cells. HaveColours graph cells after.cells) (sym cells_stay) have) q
        (turn_of e f)
        (frame_now graph states state colours s q job f function instr x e refl refl gives)
        function (ap (slice_get graph.functions)
        (function_now graph states state colours s q job f function instr x e refl refl gives)
        ∙ x.is) target.reg none c in_r

    by : (o : Option ℕ) → element_at elements target.reg ≡ o → HasSoundView graph states next after
    by None none = set_with []
        (sets_weaker elements target.reg here.c here.c (weaker_itself elements here.c))
        (λ c in_r. absurd (bare none c in_r))
    by (Some n) is = set_with xs
        (gathers_sets elements target.reg xs here.c here.c still
        (among_tracked elements (target ∷ src ∷ []) target n
        (member_at (target ∷ src ∷ []) 0 target refl) is)) brings
