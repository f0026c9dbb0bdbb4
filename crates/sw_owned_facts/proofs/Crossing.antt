-- What may cross between isolations has no colour.
use Rattle.std.proofs.Common.{◌≡◌, ℕ, true, Option, Some, None, List, [], Contains, sym, subst, ap}
use Rattle.std.proofs.Common.{◌∙◌, arith}
use Rattle.std.specs.Option.{option_map_or}
use Rattle.std.specs.List.{slice_get}
use Rattle.std.proofs.lemmas.Option.{slice_get_within}
use Rattle.sw_types.specs.declared.ty.Ty.{Ty}
use Rattle.sw_graph.specs.declared.function.RegKind.{RegKind}
use Rattle.sw_graph.specs.declared.function.RegKind.TheVariants.{Plain}
use Rattle.sw_graph.specs.declared.graph.Graph.{Graph}
use Rattle.sw_graph.specs.declared.instr.Instr.TheVariants.{NewTask}
use Rattle.sw_graph.specs.Clean.{is_untracked, may_cross}
use Rattle.sw_value.specs.declared.cell.HeapCell.TheVariants as cell
use Rattle.sw_value.specs.declared.frame.Frame.{Frame}
use Rattle.sw_value.specs.declared.job.Job.{Job}
use Rattle.sw_value.specs.declared.job.Status.TheVariants.{Ended}
use Rattle.sw_value.specs.declared.value.Value.{Value}
use Rattle.sw_value.specs.Value.{value_at}
use Rattle.sw_color_rules.specs.declared.colored.Colored.{Colored}
use Rattle.sw_partition.specs.Regions.{Regions}
use Rattle.sw_region_ops.specs.Elements.{element_at}
use Rattle.sw_machine_kind_facts.specs.Kinded.{StateFits}
use Rattle.sw_machine_kind_facts.specs.Kinds.{HasKind, Referents, TaskFits}
use Rattle.sw_machine_kind_facts.specs.Standing.{JobFits, StatusFits, goes, over}
use Rattle.sw_machine_kind_facts.proofs.ItemLemmas.{found_within}
use Rattle.sw_owner_facts.specs.View.{Frame as Spot}
use Rattle.sw_reach_facts.specs.Reached.{colours_of}
use Rattle.sw_reach_facts.proofs.FitLemmas.{colours_fit, conformances_hold}
use Rattle.sw_reach_facts.proofs.SendableLemmas.{crosses_nothing}
use Rattle.sw_view_facts.specs.Views.{elements_in, elements_with, frame_at}
use Rattle.sw_store_facts.proofs.Bare.{untracked_bare}
use Rattle.sw_secure_facts.specs.Secure.{IsSecure}
use Rattle.sw_hue_facts.specs.Hued.{hued}
use Rattle.sw_owned_facts.specs.Owned.{CrossWithoutColour, HasNoColour}
use Rattle.sw_owned_facts.proofs.Frames.{function_at}
use Rattle.sw_owned_facts.proofs.Numbers.{IsKnown, has_none, secure}

-- what a job has given has the type of its result
given : (graph : Graph) (world : Referents) (job : Job) (result : Ty) (v : Value)
    → JobFits graph world job result → job.status ≡ Ended v
    → HasKind graph.shapes world.cells v (Plain result)
given graph world job result v (over j r w none ended has) is =
    subst (λ u. HasKind graph.shapes world.cells u (Plain result))
    (let same : Ended w ≡ Ended v = sym ended ∙ is in let e : w ≡ v = cc in e) has
given graph world job result v (goes j r below top frames stack status) is =
    absurd (subst (StatusFits graph world top) is status)

module _ (graph : Graph) (states : ℕ → List (Option Regions)) (colored : Colored)
    (known : IsKnown graph states colored) where
  is_secure : IsSecure graph states colored.state (hued colored.colors)
  is_secure = secure graph states colored known

  -- values of kinds that may cross
  of_kind : (world : Referents) → StateFits graph world colored.state → (v : Value)
      (kind : RegKind) → HasKind graph.shapes world.cells v kind
      → is_untracked graph (Some kind) ≡ true → HasNoColour colored v
  of_kind world fits v kind has untracked = has_none graph states colored known v
      (crosses_nothing graph (conformances_hold graph is_secure.coloured.clean) world
      colored.state.cells (hued colored.colors).cells
      (colours_fit graph is_secure.coloured.clean colored.state (record {
        world = world;
        fits = fits;
        firsts = is_secure.coloured.kinded.firsts;
      }) (hued colored.colors).cells is_secure.coloured.have) v kind has untracked)

  untracked : (p : Spot) (frame : Frame) (r : ℕ) (v : Value)
      → frame_at colored.state p ≡ Some frame → element_at (elements_in graph (Some frame)) r ≡ None
      → value_at frame.regs r ≡ Some v → HasNoColour colored v
  untracked p frame r v there none has = has_none graph states colored known v (λ c reached.
      let function = function_at graph states colored known p frame there in
      untracked_bare graph is_secure.coloured.clean colored.state is_secure.coloured.kinded
      (hued colored.colors) is_secure.coloured.have p frame there function.0 function.1 r
      (ap (λ o. element_at (elements_with graph o) r) (sym function.1) ∙ none) c
      (subst (λ o. Contains (option_map_or
      (colours_of colored.state.cells (hued colored.colors).cells) o []) c) (sym has) reached))

  -- the result of a task
  result_at : (c j : ℕ) → slice_get colored.state.cells c ≡ Some (cell.TaskOf j)
      → (kind : RegKind) × TaskFits graph is_secure.coloured.kinded.world.results j kind
  result_at c j there =
      let within = slice_get_within colored.state.cells c (cell.TaskOf j) there in
      let count = is_secure.coloured.kinded.fits.cell_count in
      let kind = found_within is_secure.coloured.kinded.world.cells c (omega (arith, within, count))
      in
      (kind.0, is_secure.coloured.kinded.fits.cells c (cell.TaskOf j) kind.0 there kind.1)

  results : (c j : ℕ) (job : Job) (v : Value)
      → slice_get colored.state.cells c ≡ Some (cell.TaskOf j)
      → slice_get colored.state.jobs j ≡ Some job → job.status ≡ Ended v → HasNoColour colored v
  results c j job v there at ended =
      let task = (result_at c j there).1 in
      of_kind is_secure.coloured.kinded.world is_secure.coloured.kinded.fits v (Plain task.result)
      (given graph is_secure.coloured.kinded.world job task.result v
      (is_secure.coloured.kinded.fits.jobs j job task.result at task.is) ended)
      (ap (may_cross graph) (sym task.made.gives)
      ∙ is_secure.coloured.clean.tasks task.made.maker.number task.made.body task.made.maker.is
      task.made.maker.point
      (NewTask task.made.at task.made.register task.made.number task.made.operands)
      task.made.maker.here task.made.function task.made.is)

  pub crossing : CrossWithoutColour graph colored
  crossing = record { registers = untracked; values = of_kind; results = results }
