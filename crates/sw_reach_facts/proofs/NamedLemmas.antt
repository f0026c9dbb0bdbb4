-- The values of a kinded state refer to cells that are there.
use Rattle.std.specs.Option.{option_and_then}
use Rattle.std.specs.List.{slice_get}
use Rattle.std.proofs.Common.{◌≡◌, ◌<◌, ℕ, List, Option, Some, None, length, Contains, refl, sym}
use Rattle.std.proofs.Common.{subst, ◌∙◌, arith}
use Rattle.std.proofs.lemmas.Option.{slice_get_within}
use Rattle.sw_list.proofs.Members.{none_in, one_in, stands_at}
use Rattle.sw_types.specs.declared.shape.Shape.{Shape}
use Rattle.sw_types.specs.declared.ty.Ty.{Ty}
use Rattle.sw_graph.specs.declared.function.RegKind.{RegKind}
use Rattle.sw_graph.specs.declared.function.RegKind.TheVariants.{Plain}
use Rattle.sw_graph.specs.declared.graph.Graph.{Graph}
use Rattle.sw_value.specs.declared.cell.HeapCell.{HeapCell}
use Rattle.sw_value.specs.declared.cell.HeapCell.TheVariants as cell
use Rattle.sw_value.specs.declared.frame.Frame.{Frame}
use Rattle.sw_value.specs.declared.job.Job.{Job}
use Rattle.sw_value.specs.declared.job.Status.TheVariants.{Ended}
use Rattle.sw_value.specs.declared.state.State.{State}
use Rattle.sw_value.specs.declared.value.Value.{Value}
use Rattle.sw_value.specs.Value.{value_at}
use Rattle.sw_machine_kind_facts.specs.Kinded.{Kinded, global_kinds}
use Rattle.sw_machine_kind_facts.specs.Kinds.{HasKind, HaveKinds, SlotsFit, CellFits}
use Rattle.sw_machine_kind_facts.specs.Standing.{JobFits, StatusFits, over, goes}
use Rattle.sw_machine_kind_facts.proofs.ItemLemmas.{found_within}
use Rattle.sw_machine_kind_facts.proofs.StackLemmas.{frame_at}
use Rattle.sw_reach_facts.specs.Named.{NamesCells, values_in}
use Rattle.sw_reach_facts.specs.Reached.{references}
use Rattle.sw_reach_facts.proofs.ReferentLemmas.{leads_to}

-- a value that has a kind refers to cells that have kinds
kinds_named : (shapes : List Shape) (cells : List RegKind) (v : Value) (kind : RegKind)
    → HasKind shapes cells v kind → (c : ℕ) → Contains (references v) c → c < length cells
kinds_named shapes cells v kind has c refers =
    let there = leads_to shapes (λ kind. Unit {0}) (λ a b c d i one at. tt)
    (λ a t b c d i one at. tt) cells v kind has tt c refers in
    slice_get_within cells c there.from there.at

-- the value of a register or a global that has one
slots_named : (shapes : List Shape) (cells : List RegKind) (slots : List (Option Value))
    (kinds : List RegKind) → SlotsFit shapes cells slots kinds → (r : ℕ) (v : Value)
    → value_at slots r ≡ Some v → (c : ℕ) → Contains (references v) c → c < length cells
slots_named shapes cells slots kinds fits r v at =
    let kind = found_within kinds r (omega (arith, fits.count, inside (slice_get slots r) refl at))
    in kinds_named shapes cells v kind.0 (fits.each r v kind.0 at kind.1) where
      inside : (o : Option (Option Value)) → slice_get slots r ≡ o
          → option_and_then (λ w. w) o ≡ Some v → r < length slots
      inside None is at = cc
      inside (Some slot) is at = slice_get_within slots r slot is

-- one of some values that have kinds
each_named : (shapes : List Shape) (cells : List RegKind) (vs : List Value) (kinds : List RegKind)
    → HaveKinds shapes cells vs kinds → (v : Value) → Contains vs v → (c : ℕ)
    → Contains (references v) c → c < length cells
each_named shapes cells vs kinds have v has =
    let stands = stands_at vs v has in
    let within : stands.0 < length vs = slice_get_within vs stands.0 v stands.1 in
    let kind = found_within kinds stands.0 (omega (arith, have.count, within)) in
    kinds_named shapes cells v kind.0 (have.each stands.0 v kind.0 stands.1 kind.1)

module _ (graph : Graph) (state : State) (kinded : Kinded graph state) where
  abbrev kinds : List RegKind
  kinds = kinded.world.cells

  there : (v : Value) → ((c : ℕ) → Contains (references v) c → c < length kinds)
      → NamesCells state.cells v
  there v named c has =
      let cell_count = kinded.fits.cell_count in
      let lt = named c has in omega (arith, lt, cell_count)

  -- the value of a register of a frame
  pub registers_named : (j i : ℕ) (job : Job) (frame : Frame) (r : ℕ) (v : Value)
      → slice_get state.jobs j ≡ Some job → slice_get job.frames i ≡ Some frame
      → value_at frame.regs r ≡ Some v → NamesCells state.cells v
  registers_named j i job frame r v at here has =
      let fits = frame_at graph state kinded j i job frame at here in
      there v (slots_named graph.shapes kinds frame.regs fits.function.regs fits.stands.slots r v has)

  -- the value of a global
  pub globals_named : (g : ℕ) (v : Value) → value_at state.globals g ≡ Some v
      → NamesCells state.cells v
  globals_named g v has =
      there v (slots_named graph.shapes kinds state.globals (global_kinds graph.globals)
      kinded.fits.globals g v has)

  -- a value in a cell
  pub contents_named : (n : ℕ) (c : HeapCell) (v : Value) → slice_get state.cells n ≡ Some c
      → Contains (values_in c) v → NamesCells state.cells v
  contents_named n c v at has =
      let cell_count = kinded.fits.cell_count in
      let inside : n < length state.cells = slice_get_within state.cells n c at in
      let kind = found_within kinds n (omega (arith, cell_count, inside)) in
      there v (by c kind.0 (kinded.fits.cells n c kind.0 at kind.1) has) where
        by : (c : HeapCell) (kind : RegKind) → CellFits graph kinded.world c kind
            → Contains (values_in c) v → (d : ℕ) → Contains (references v) d → d < length kinds
        by (cell.Object k vs) kind fits has =
            each_named graph.shapes kinds vs fits.1.kinds fits.1.have v has
        by (cell.Actor k vs) kind fits has =
            each_named graph.shapes kinds vs fits.1.kinds fits.1.have v has
        by (cell.BoxOf w) kind fits has =
            subst (λ x. (d : ℕ) → Contains (references x) d → d < length kinds) (one_in w v has)
            (kinds_named graph.shapes kinds w fits.inner fits.fits)
        by (cell.Closure f vs) kind fits has =
            each_named graph.shapes kinds vs fits.captured fits.have v has
        by (cell.TaskOf j) kind fits has = absurd (none_in v has)

  -- the value of a job that has ended
  pub results_named : (j : ℕ) (job : Job) (v : Value) → slice_get state.jobs j ≡ Some job
      → job.status ≡ Ended v → NamesCells state.cells v
  results_named j job v at ended =
      let job_count = kinded.fits.job_count in
      let inside : j < length state.jobs = slice_get_within state.jobs j job at in
      let result = found_within kinded.world.results j (omega (arith, job_count, inside)) in
      there v (by job result.0 (kinded.fits.jobs j job result.0 at result.1) ended) where
        by : (job : Job) (result : Ty) → JobFits graph kinded.world job result
            → job.status ≡ Ended v → (c : ℕ) → Contains (references v) c → c < length kinds
        by job result (over y r w none is has) ended =
            let ends : Ended w ≡ Ended v = sym is ∙ ended in let same : w ≡ v = cc in
            subst (λ x. (c : ℕ) → Contains (references x) c → c < length kinds) same
            (kinds_named graph.shapes kinds w (Plain r) has)
        by job result (goes y r below top are stack status) ended =
            absurd (subst (StatusFits graph kinded.world top) ended status)
