-- The frames of a job by their indices, and the cells that values name.
use Rattle.std.proofs.Common.{◌≡◌, ℕ, ◌+◌, ◌<◌, ◌≤◌, inl, inr, Option, Some, None, List}
use Rattle.std.proofs.Common.{[]}
use Rattle.std.proofs.Common.{◌∷◌, ◌++◌, length, ap, sym, ◌∙◌, subst, arith, length-append}
use Rattle.std.specs.List.{slice_get}
use Rattle.std.proofs.Math.Nat.{eq-or-lt_of_le}
use Rattle.std.proofs.lemmas.Option.{slice_get_within, slice_get_past}
use Rattle.sw_list.proofs.ListLemmas.{some_injective, slice_get_first}
use Rattle.sw_types.specs.declared.ty.Ty.{Ty}
use Rattle.sw_graph.specs.declared.function.RegKind.{RegKind}
use Rattle.sw_graph.specs.declared.graph.Graph.{Graph}
use Rattle.sw_graph.specs.Kinds.{IsCaptured}
use Rattle.sw_value.specs.declared.cell.HeapCell.{HeapCell}
use Rattle.sw_value.specs.declared.frame.Frame.{Frame}
use Rattle.sw_value.specs.declared.job.Job.{Job}
use Rattle.sw_value.specs.declared.state.State.{State}
use Rattle.sw_value.specs.declared.value.Value.{Value}
use Rattle.sw_value.specs.Value.{reference_of, layer_reference}
use Rattle.sw_value.proofs.ListLemmas.{slice_get_end}
use Rattle.sw_machine_kind_facts.specs.Kinded.{Kinded}
use Rattle.sw_machine_kind_facts.specs.Kinds.{HasKind, integer, truth, void, refers, group, choice}
use Rattle.sw_machine_kind_facts.specs.Kinds.{CellFits}
use Rattle.sw_machine_kind_facts.specs.Standing.{FrameFits, StackFits, bottom, above, awaited_in, JobFits, over}
use Rattle.sw_machine_kind_facts.specs.Standing.{goes, or_above, awaited_at}
use Rattle.sw_machine_kind_facts.proofs.ItemLemmas.{at_end, found_within}

-- nothing stands above the top
none_above : (below : List Frame) (top : Frame) → slice_get (below ++ top ∷ []) (length below + 1)
    ≡ None
none_above below top = slice_get_past (below ++ top ∷ []) (length below + 1)
    (omega (arith, length-append below (top ∷ [])))

-- what stands above a frame below the top one
above_below : (below : List Frame) (top : Frame) (awaits : Option ℕ) (i : ℕ) → i < length below
    → or_above (slice_get (below ++ top ∷ []) (i + 1)) awaits
    ≡ or_above (slice_get below (i + 1)) (Some top.result)
above_below below top awaits i inside =
    elim (eq-or-lt_of_le (let within : i + 1 ≤ length below = omega (arith, inside) in within)) [
      | inl last ↦
          let here : slice_get (below ++ top ∷ []) (i + 1) ≡ Some top =
          ap (slice_get (below ++ top ∷ [])) last ∙ slice_get_end below top in
          let past : slice_get below (i + 1) ≡ None =
          slice_get_past below (i + 1) (omega (arith, last)) in
          ap (λ o. or_above o awaits) here ∙ sym (ap (λ o. or_above o (Some top.result)) past)
      | inr before ↦ by (found_within below (i + 1) before)
    ] where
      by : (f : Frame) × (slice_get below (i + 1) ≡ Some f)
          → or_above (slice_get (below ++ top ∷ []) (i + 1)) awaits
          ≡ or_above (slice_get below (i + 1)) (Some top.result)
      by (f, is) =
          let within = slice_get_within below (i + 1) f is in
          ap (λ o. or_above o awaits) (slice_get_first below (top ∷ []) (i + 1) within ∙ is)
          ∙ sym (ap (λ o. or_above o (Some top.result)) is)

top_at : (graph : Graph) (cells : List RegKind) (below : List Frame) (top : Frame)
    (awaits : Option ℕ) → FrameFits graph cells awaits top → (i : ℕ) (frame : Frame)
    → i ≡ length below → frame ≡ top
    → FrameFits graph cells (or_above (slice_get (below ++ top ∷ []) (i + 1)) awaits) frame
top_at graph cells below top awaits fits i frame at is =
    let none : slice_get (below ++ top ∷ []) (i + 1) ≡ None =
    ap (λ n. slice_get (below ++ top ∷ []) (n + 1)) at ∙ none_above below top in
    subst (λ f. FrameFits graph cells (or_above (slice_get (below ++ top ∷ []) (i + 1)) awaits) f)
    (sym is) (subst (λ o. FrameFits graph cells (or_above o awaits) top) (sym none) fits)

stack_at : (graph : Graph) (cells : List RegKind) (below : List Frame) (top : Frame)
    (awaits : Option ℕ) (result : Ty) → StackFits graph cells below top awaits result → (i : ℕ)
    (frame : Frame) → slice_get (below ++ top ∷ []) i ≡ Some frame
    → FrameFits graph cells (or_above (slice_get (below ++ top ∷ []) (i + 1)) awaits) frame
stack_at graph cells below top awaits result (bottom b t a r none fits gives) i frame here =
    elim (at_end b t frame i here) [
      | inl before ↦
          let wrong : slice_get [] i ≡ Some frame = ap (λ l. slice_get l i) (sym none) ∙ before in
          absurd (let c : ⊥ = cc in c)
      | inr (at, is) ↦ top_at graph cells b t a fits i frame at is
    ]
stack_at graph cells below top awaits result (above b t a r lowest lower are stack fits links) i
    frame here =
    elim (at_end b t frame i here) [
      | inl before ↦
          let inside = slice_get_within b i frame before in
          subst (λ x. FrameFits graph cells x frame) (sym (above_below b t a i inside))
          (subst (λ l. FrameFits graph cells (or_above (slice_get l (i + 1)) (Some t.result)) frame)
          (sym are)
          (stack_at graph cells lowest lower (Some t.result) r stack i frame
          (ap (λ l. slice_get l i) (sym are) ∙ before)))
      | inr (at, is) ↦ top_at graph cells b t a fits i frame at is
    ]

-- the frame with an index
pub frame_at : (graph : Graph) (state : State) (k : Kinded graph state) (j i : ℕ) (job : Job)
    (frame : Frame) → slice_get state.jobs j ≡ Some job → slice_get job.frames i ≡ Some frame
    → FrameFits graph k.world.cells (awaited_at job i) frame
frame_at graph state k j i job frame at here =
    let job_count = k.fits.job_count in
    let inside = slice_get_within state.jobs j job at in
    let result = found_within k.world.results j (omega (arith, inside, job_count)) in
    by job result.0 (k.fits.jobs j job result.0 at result.1) here where
      by : (x : Job) (result : Ty) → JobFits graph k.world x result
          → slice_get x.frames i ≡ Some frame
          → FrameFits graph k.world.cells (awaited_at x i) frame
      by x result (over y r v none ended has) here =
          let wrong : slice_get [] i ≡ Some frame = ap (λ l. slice_get l i) (sym none) ∙ here in
          absurd (let c : ⊥ = cc in c)
      by x result (goes y r below top are stack status) here =
          subst (λ l. FrameFits graph k.world.cells
          (or_above (slice_get l (i + 1)) (awaited_in y.status)) frame) (sym are)
          (stack_at graph k.world.cells below top (awaited_in y.status) r stack i frame
          (ap (λ l. slice_get l i) (sym are) ∙ here))

-- the cell that a value names
pub cell_named : (graph : Graph) (state : State) (k : Kinded graph state) (v : Value)
    (kind : RegKind) (c : ℕ) → HasKind graph.shapes k.world.cells v kind → reference_of v ≡ Some c
    → (cell : HeapCell) × (from : RegKind) × (slice_get state.cells c ≡ Some cell)
    × CellFits graph k.world cell from × IsCaptured (Some from) (Some kind)
cell_named graph state k v kind c (integer w l n is s) names =
    let wrong = sym (ap layer_reference is) ∙ names in absurd (let none : ⊥ = cc in none)
cell_named graph state k v kind c (truth w l b is s) names =
    let wrong = sym (ap layer_reference is) ∙ names in absurd (let none : ⊥ = cc in none)
cell_named graph state k v kind c (void w l is s) names =
    let wrong = sym (ap layer_reference is) ∙ names in absurd (let none : ⊥ = cc in none)
cell_named graph state k v kind c (refers w l d from is s at may) names =
    let same : d ≡ c = some_injective (sym (ap layer_reference is) ∙ names) in
    let inside = slice_get_within k.world.cells d from at in
    let cell_count = k.fits.cell_count in
    let found = found_within state.cells d (omega (arith, inside, cell_count)) in (
      found.0,
      from,
      ap (slice_get state.cells) (sym same) ∙ found.1,
      k.fits.cells d found.0 from found.1 at,
      may,
    )
cell_named graph state k v kind c (group w l vs kinds is s are count each) names =
    let wrong = sym (ap layer_reference is) ∙ names in absurd (let none : ⊥ = cc in none)
cell_named graph state k v kind c (choice w l tag vs kinds is s are count each) names =
    let wrong = sym (ap layer_reference is) ∙ names in absurd (let none : ⊥ = cc in none)
