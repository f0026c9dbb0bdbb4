-- The least annotation has, after an instruction, exactly what its operations make.
use Rattle.std.proofs.Common.{◌≡◌, ◌≢◌, ℕ, ◌+◌, ◌<◌, Option, Some, None, List, ◌∷◌, length}
use Rattle.std.proofs.Common.{Contains, refl, sym, subst, ap, ◌∙◌, arith, All, inl, inr, IfSome}
use Rattle.std.proofs.Common.{set}
use Rattle.std.proofs.lemmas.Bool.{cases_eq, cases_lt}
use Rattle.std.proofs.lemmas.List.{get_or-set_same, get_or-set_other, get_or_past}
use Rattle.sw_list.proofs.ListLemmas.{some_injective}
use Rattle.sw_graph.specs.declared.instr.Block.{Block}
use Rattle.sw_graph.specs.declared.instr.Instr.{Instr}
use Rattle.sw_graph.specs.Points.{Middle, point_in}
use Rattle.sw_partition.specs.Laws.{within_refl, within_trans, within_both, same_refl}
use Rattle.sw_partition.specs.Regions.{Regions, size_of, IsWithin, IsSameState}
use Rattle.sw_region_flow.specs.Laws.{walks_monotone}
use Rattle.sw_region_flow.specs.Least.{point_ops_at, followers, IsLeast, IsClosedFor}
use Rattle.sw_region_flow.specs.Walks.{Walks}
use Rattle.sw_region_flow.proofs.Doing.{some_run}
use Rattle.sw_region_flow.proofs.Leasts.{point_fits}
use Rattle.sw_region_ops.specs.Elements.{element_count}
use Rattle.sw_region_ops.specs.Runs.{Fits}
use Rattle.sw_region_ops.specs.Setting.{FunctionSetting}
use Rattle.sw_region_ops.proofs.RangeLemmas.{AreInside}
use Rattle.sw_region_ops.proofs.RunLemmas.{runs_size}
use Rattle.sw_solve.specs.Annotation.{value_at, IsBelow, IsPassedOn, IsAtMost}
use Rattle.sw_region_facts.proofs.Follows.{AreThere, only_before}
use Rattle.sw_region_facts.proofs.Points.{follows_on, size_at}

below_more : (x y : Regions) (o : Option Regions) → IsWithin x y → IsBelow IsWithin y o
    → IsBelow IsWithin x o
below_more x y None le below = below
below_more x y (Some z) le below = within_trans x y z le below

-- ---- what is made instead of what stands at the next point
module _ (setting : FunctionSetting) (states : List (Option Regions)) (least : IsLeast setting states)
    (inside : AreInside setting.elements) (there : AreThere setting.body) (p : ℕ) (instr : Instr)
    (here : point_in setting.body p ≡ Some (Middle instr)) (a c : Regions)
    (at : value_at states p ≡ Some a) (next : value_at states (p + 1) ≡ Some c) where
  abbrev blocks : List Block
  blocks = setting.body.blocks

  abbrev Passed : List (Option Regions) → ℕ → Regions → Type 0
  Passed = IsPassedOn IsWithin (λ q. Walks (point_ops_at setting q)) (followers blocks)

  abbrev step : Passed states p a
  step = least.closed.stepped p a at

  abbrev other : List (Option Regions)
  other = set states (p + 1) (Some step.made)

  abbrev facts : List ℕ
  facts = element_count setting.elements ∷ least.sites

  reaches : p + 1 < length states
  reaches = elim (cases_lt (p + 1) (length states)) [
    | inl lt ↦ lt
    | inr past ↦
        let none : value_at states (p + 1) ≡ None = get_or_past states (p + 1) None past in
        let clash : Some c ≡ None = sym next ∙ none in
        absurd (let nothing : ⊥ = cc in nothing)
  ]

  other_here : value_at other (p + 1) ≡ Some step.made
  other_here = get_or-set_same states (p + 1) (Some step.made) None reaches

  other_there : (r : ℕ) → r ≢ p + 1 → value_at other r ≡ value_at states r
  other_there r differ = get_or-set_other states (p + 1) r (Some step.made) None differ

  made_size : size_of step.made ≡ facts
  made_size =
      runs_size (point_ops_at setting p) step.leads_to.copied step.made step.leads_to.runs
      ∙ step.leads_to.is_copy.sized ∙ size_at setting states least p a at

  made_within : IsWithin step.made c
  made_within = subst (IsBelow IsWithin step.made) next
      (step.below (p + 1) (follows_on setting states least p instr here))

  -- ---- the step at the next point, from what is made there
  next_fits : All (Fits (size_of step.made)) (point_ops_at setting (p + 1))
  next_fits = subst (λ s. All (Fits s) (point_ops_at setting (p + 1))) (sym made_size)
      (point_fits setting least.sites inside least.are_sites (p + 1))

  next_run : (m : Regions) × Walks (point_ops_at setting (p + 1)) step.made m
  next_run =
      let run = some_run (point_ops_at setting (p + 1)) step.made next_fits in (
        run.0,
        record {
          copied = step.made;
          is_copy = record { same = same_refl step.made; sized = refl };
          runs = run.1;
        },
      )

  next_within : IsWithin next_run.0 (least.closed.stepped (p + 1) c next).made
  next_within =
      let old = least.closed.stepped (p + 1) c next in
      walks_monotone (point_ops_at setting (p + 1)) step.made c next_run.0 old.made
      (made_size ∙ sym (size_at setting states least (p + 1) c next)) made_within next_run.1
      old.leads_to

  next_passed : Passed other (p + 1) step.made
  next_passed =
      let old = least.closed.stepped (p + 1) c next in
      record {
        made = next_run.0;
        leads_to = next_run.1;
        below = λ t has.
            let apart : t ≢ p + 1 = λ same. loops (only_before setting.body there p instr here (p + 1)
            (subst (Contains (followers blocks (p + 1))) same has)) in
            subst (IsBelow IsWithin next_run.0) (sym (other_there t apart))
            (below_more next_run.0 old.made (value_at states t) next_within (old.below t has));
      }
    where
      loops : p + 1 ≡ p → ⊥
      loops e = omega (arith, e)

  -- ---- the step at the instruction, and those elsewhere
  here_passed : Passed other p a
  here_passed = record {
    made = step.made;
    leads_to = step.leads_to;
    below = λ t has. elim (cases_eq t (p + 1)) [
      | inl is ↦ subst (IsBelow IsWithin step.made) (sym (ap (value_at other) is ∙ other_here))
          (within_refl step.made)
      | inr apart ↦
          subst (IsBelow IsWithin step.made) (sym (other_there t apart)) (step.below t has)
    ];
  }

  elsewhere_passed : (r : ℕ) (x : Regions) → r ≢ p → Passed states r x → Passed other r x
  elsewhere_passed r x away old = record {
    made = old.made;
    leads_to = old.leads_to;
    below = λ t has.
        let apart : t ≢ p + 1 = λ is. away (only_before setting.body there p instr here r
        (subst (Contains (followers blocks r)) is has)) in
        subst (IsBelow IsWithin old.made) (sym (other_there t apart)) (old.below t has);
  }

  other_passed : (r : ℕ) (x : Regions) → value_at other r ≡ Some x → Passed other r x
  other_passed r x e = elim (cases_eq r (p + 1)) [
    | inl same ↦
        let is : step.made ≡ x =
        some_injective (sym other_here ∙ ap (value_at other) (sym same) ∙ e) in
        subst (λ q. Passed other q x) (sym same) (subst (Passed other (p + 1)) is next_passed)
    | inr differ ↦
        let old : value_at states r ≡ Some x = sym (other_there r differ) ∙ e in
        elim (cases_eq r p) [
          | inl same ↦
              let is : a ≡ x = some_injective (sym at ∙ ap (value_at states) (sym same) ∙ old) in
              subst (λ q. Passed other q x) (sym same) (subst (Passed other p) is here_passed)
          | inr away ↦ elsewhere_passed r x away (least.closed.stepped r x old)
        ]
  ]

  other_closed : IsClosedFor setting least.sites other
  other_closed = record {
    sized = λ r. elim (cases_eq r (p + 1)) [
      | inl same ↦ subst (λ o. IfSome o (λ y. size_of y ≡ facts))
          (sym (ap (value_at other) same ∙ other_here)) made_size
      | inr differ ↦ subst (λ o. IfSome o (λ y. size_of y ≡ facts)) (sym (other_there r differ))
          (least.closed.sized r)
    ];
    entry = least.closed.entry;
    enters_by = least.closed.enters_by;
    entered = subst (IsBelow IsWithin least.closed.entry)
        (sym (other_there 0 (λ e. omega (arith, e)))) least.closed.entered;
    stepped = other_passed;
  }

  within_made : IsWithin c step.made
  within_made = subst (IsBelow IsWithin c) other_here
      (subst (λ o. IsAtMost IsWithin o (value_at other (p + 1))) next
      ((least.least other other_closed).each (p + 1)))

  -- whatever the operations make is what stands at the next point
  pub least_is_made : (made : Regions) → Walks (point_ops_at setting p) a made
      → IsSameState made c
  least_is_made made walks = within_both made c
      (within_trans made step.made c (as_made a made a step.made refl walks step.leads_to)
      made_within)
      (within_trans c step.made made within_made
      (as_made a step.made a made refl step.leads_to walks))
    where
      as_made : (x m y n : Regions) → x ≡ y → Walks (point_ops_at setting p) x m
          → Walks (point_ops_at setting p) y n → IsWithin m n
      as_made x m y n same first second =
          walks_monotone (point_ops_at setting p) x y m n (ap size_of same)
          (subst (IsWithin x) same (within_refl x)) first second
