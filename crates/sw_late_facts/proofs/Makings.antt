-- What is made by an act: a cell is noted for each cell, and an actor with the colour that it owns.
use Rattle.std.proofs.Common.{◌≡◌, ℕ, suc, arith, refl, sym, subst, Bool, true, false, cond}
use Rattle.std.proofs.Common.{Option, Some, None, List, [], ◌∷◌, ◌++◌, length, length-append}
use Rattle.std.specs.Option.{option_map_or}
use Rattle.sw_types.specs.Sendable.{sends_at}
use Rattle.sw_graph.specs.declared.graph.Graph.{Graph}
use Rattle.sw_graph.specs.Points.{Point}
use Rattle.sw_value.specs.declared.cell.HeapCell.{HeapCell}
use Rattle.sw_value.specs.declared.cell.HeapCell.TheVariants.{Object, Actor, BoxOf, Closure, TaskOf}
use Rattle.sw_value.specs.declared.frame.Frame.{Frame}
use Rattle.sw_value.specs.declared.state.State.{State}
use Rattle.sw_value.specs.declared.effect.Effect.{Effect}
use Rattle.sw_value.specs.declared.effect.Effect.TheVariants as effect
use Rattle.sw_value.specs.declared.effect.Act.{Act}
use Rattle.sw_value.specs.declared.effect.Act.TheVariants.{Dispatch, Wake, Execute}
use Rattle.sw_value.specs.Act.{act_of}
use Rattle.sw_value.specs.Cell.{with_slot}
use Rattle.sw_value.specs.Reach.{after_act, after_effect}
use Rattle.sw_value.specs.State.{in_job, add_job, add_cell, in_cell, set_global, halt}
use Rattle.sw_value.proofs.ListLemmas.{length-changed_at}
use Rattle.sw_color_rules.specs.declared.colors.Owner.{Owner}
use Rattle.sw_color_rules.specs.declared.colors.Owner.TheVariants as owner
use Rattle.sw_color_rules.specs.declared.colors.Tint.{Tint}
use Rattle.sw_color_rules.specs.declared.colors.Tint.TheVariants.{Bare, Owns}
use Rattle.sw_color_rules.specs.declared.colors.Colors.{Colors}
use Rattle.sw_color_rules.specs.declared.plan.Plan.{Plan}
use Rattle.sw_color_rules.specs.declared.plan.FrameChange.{FrameChange}
use Rattle.sw_color_rules.specs.declared.plan.FrameChange.TheVariants.{Pushed, Begun}
use Rattle.sw_color_rules.specs.Tints.{colors_in, colors_of}
use Rattle.sw_color_rules.specs.Plans.{no_plan, joining, bare_cell, colored_cell, top_here, next_color}
use Rattle.sw_color_rules.specs.Plans.{number_on, is_isolated, new_closure, new_cell, begun_with, passed}
use Rattle.sw_color_rules.specs.Plans.{sending_of, called_number, called_closure, is_make, effect_plan}
use Rattle.sw_color_rules.specs.Plans.{plan_at, plan_of}
use Rattle.sw_late_facts.proofs.Acting.{acts_at}
use Rattle.sw_late_facts.proofs.Fits.{Fits, fits_act}

-- how many cells there are with one more, if one is made
abbrev pub count_with : Option Tint → ℕ → ℕ
count_with None n = n
count_with (Some t) n = suc n

-- A colour that is made is a job's, or that of the actor that is made, which is noted of its cell.
abbrev pub OwnsMade : ℕ → ℕ → Option Owner → Option Tint → Type 0
OwnsMade count cells (Some (owner.ActorOf c)) tint = (c ≡ cells) × (tint ≡ Some (Owns count))
OwnsMade count cells (Some (owner.Global g)) tint = ⊥
OwnsMade count cells _ tint = Unit {0}

-- a plan of a state with so many cells, after which there are that many
pub record Makes (count cells later : ℕ) (plan : Plan) : Type 0 where
  pub counted : later ≡ count_with plan.tint cells
  pub owned : OwnsMade count cells plan.fresh plan.tint

module _ (graph : Graph) (state : State) (colors : Colors) where
  abbrev count : ℕ
  count = next_color colors

  abbrev cells : ℕ
  cells = length state.cells

  more : (cell : HeapCell) → length (state.cells ++ cell ∷ []) ≡ suc cells
  more cell = omega (arith, length-append state.cells (cell ∷ []))

  cell_makes : (job n : ℕ) (cell : HeapCell) → n ≡ cells
      → Makes count cells (length (state.cells ++ cell ∷ [])) (new_cell graph colors job n cell)
  cell_makes job n (Object k parts) is = by (sends_at graph.shapes k) where
    by : (b : Bool) → Makes count cells (length (state.cells ++ Object k parts ∷ []))
        (cond b (bare_cell (top_here colors job ++ colors_of colors.cells parts))
        (colored_cell job count (colors_of colors.cells parts)))
    by true = record { counted = more (Object k parts); owned = tt }
    by false = record { counted = more (Object k parts); owned = tt }
  cell_makes job n (Actor k parts) is =
      record { counted = more (Actor k parts); owned = (is, refl) }
  cell_makes job n (BoxOf v) is = record { counted = more (BoxOf v); owned = tt }
  cell_makes job n (Closure f captures) is = by (is_isolated graph f) where
    by : (b : Bool) → Makes count cells (length (state.cells ++ Closure f captures ∷ []))
        (new_closure colors b job (colors_of colors.cells captures))
    by true = record { counted = more (Closure f captures); owned = tt }
    by false = record { counted = more (Closure f captures); owned = tt }
  cell_makes job n (TaskOf j) is = record { counted = more (TaskOf j); owned = tt }

  set_makes : (b : Bool) (ns : List ℕ) → Makes count cells cells (cond b (joining ns) no_plan)
  set_makes true ns = record { counted = refl; owned = tt }
  set_makes false ns = record { counted = refl; owned = tt }

  begun_makes : (o : Option ℕ) (job : ℕ) (begins : ℕ → FrameChange) (ns : List ℕ)
      → Makes count cells cells (begun_with o (owner.Job job) begins count ns)
  begun_makes None job begins ns = record { counted = refl; owned = tt }
  begun_makes (Some a) job begins ns = record { counted = refl; owned = tt }

  spawned_makes : (later : ℕ) → later ≡ suc cells → (o : Option ℕ) (made : ℕ) (ns : List ℕ)
      → Makes count cells later (record (begun_with o (owner.Job made) Begun count ns) {
        tint = Some Bare;
        heir = Some made;
      })
  spawned_makes later is None made ns = record { counted = is; owned = tt }
  spawned_makes later is (Some a) made ns = record { counted = is; owned = tt }

  effect_makes : (j : ℕ) (top : Frame) (point : Point) (f : Effect) → Fits graph state f
      → Makes count cells (length (after_effect j f state).cells)
      (effect_plan graph colors j top point f)
  unfolding in_job add_job add_cell in_cell set_global halt
  effect_makes j top point (effect.Set r v next) fits =
      set_makes (is_make point) (colors_in colors.cells v)
  effect_makes j top point (effect.SetField r i v next) fits =
      record { counted = refl; owned = tt }
  effect_makes j top point (effect.Print r line next) fits = record { counted = refl; owned = tt }
  effect_makes j top point (effect.New r cell n next) fits = cell_makes j n cell fits
  effect_makes j top point (effect.Write c slot v next) fits =
      record { counted = length-changed_at (with_slot slot v) c state.cells; owned = tt }
  effect_makes j top point (effect.WriteGlobal g v next) fits =
      record { counted = refl; owned = tt }
  effect_makes j top point (effect.Goto next) fits = record { counted = refl; owned = tt }
  effect_makes j top point (effect.Enter frame next) fits =
      begun_makes (called_number colors point frame) j Pushed
      (called_closure colors point top ++ passed colors.cells (sending_of graph frame.function) frame.regs)
  effect_makes j top point (effect.Spawn r frame made cell next) fits =
      spawned_makes (length (state.cells ++ TaskOf made ∷ [])) (more (TaskOf made))
      (number_on colors frame.executor) made (passed colors.cells [] frame.regs)
  effect_makes j top point (effect.Wait on r next) fits = record { counted = refl; owned = tt }
  effect_makes j top point (effect.Rest r next) fits = record { counted = refl; owned = tt }
  effect_makes j top point (effect.Leave v) fits = record { counted = refl; owned = tt }
  effect_makes j top point (effect.Halt kind at) fits = record { counted = refl; owned = tt }
  effect_makes j top point effect.Stuck fits = record { counted = refl; owned = tt }

  pub act_makes : (j : ℕ) (act : Act) → act_of graph state j ≡ Some act
      → Makes count cells (length (after_act j act state).cells)
      (plan_of graph state colors j act)
  unfolding in_job
  act_makes j Dispatch acts = record { counted = refl; owned = tt }
  act_makes j (Wake ended r v) acts = record { counted = refl; owned = tt }
  act_makes j (Execute f) acts =
      let at = acts_at graph state j f acts in
      subst (λ o. Makes count cells (length (after_effect j f state).cells)
      (option_map_or (plan_at graph colors j f) o no_plan)) (sym at.has)
      (subst (λ o. Makes count cells (length (after_effect j f state).cells)
      (option_map_or (λ point. effect_plan graph colors j at.top point f) o no_plan)) (sym at.stands)
      (effect_makes j at.top at.point f (fits_act graph state j f acts)))
