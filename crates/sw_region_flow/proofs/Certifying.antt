-- A function with a closed annotation of its blocks in which each test passes: each test passes in
-- its least annotation of the points.
use Rattle.std.proofs.Common.{◌≡◌, ◌+◌, ◌<◌, ◌≤◌, ℕ, zero, suc, inl, inr, Option, Some, List, []}
use Rattle.std.proofs.Common.{◌∷◌, ◌++◌, length, take, sym, subst, ap, ◌∙◌, arith}
use Rattle.std.proofs.lemmas.Bool.{cases_lt}
use Rattle.std.proofs.lemmas.Option.{slice_get_within, slice_get_past}
use Rattle.std.specs.List.{slice_get}
use Rattle.std.specs.Option.{option_map_or}
use Rattle.sw_graph.specs.Points.{Point, points_of, points_of_block}
use Rattle.sw_graph.specs.declared.graph.Graph.{Graph}
use Rattle.sw_graph.specs.declared.instr.Block.{Block}
use Rattle.sw_partition.specs.Laws.{within_trans, same_within}
use Rattle.sw_partition.specs.Regions.{Regions, size_of, IsWithin}
use Rattle.sw_region_flow.proofs.Exact.{comes_to, stands_above, at_some, size_at}
use Rattle.sw_region_flow.proofs.Flows.{body_fits}
use Rattle.sw_region_flow.proofs.Laid.{points_ops, stands_at, ops_are, laid_out}
use Rattle.sw_region_flow.proofs.Leasts.{some_least}
use Rattle.sw_region_flow.proofs.OneSites.{sites_are_one}
use Rattle.sw_region_flow.proofs.Passing.{passed_breaches}
use Rattle.sw_region_flow.proofs.Places.{element_at, count_is, place_of}
use Rattle.sw_region_flow.specs.Analysis.{Analysis, IsAnalysis, layout, facts_of}
use Rattle.sw_region_flow.specs.Breaches.{AreBreaches}
use Rattle.sw_region_flow.specs.Certified.{IsCertified, HasCertified}
use Rattle.sw_region_flow.specs.Least.{first_point, point_ops_at, IsClosedFor, IsLeast}
use Rattle.sw_region_flow.specs.Passing.{Passes, AllPass, EachPasses}
use Rattle.sw_region_ops.proofs.ContextLemmas.{inside}
use Rattle.sw_region_ops.proofs.RunLemmas.{does_size, does_monotone, runs_split}
use Rattle.sw_region_ops.specs.Runs.{Runs}
use Rattle.sw_region_ops.specs.Setting.{FunctionSetting, setting_of}
use Rattle.sw_region_ops.specs.Table.{point_ops}
use Rattle.sw_region_ops.specs.declared.op.Op.{Op}
use Rattle.sw_region_ops.specs.declared.op.Op.TheVariants.{Need, Free, Fresh, Put, Join, Give}
use Rattle.sw_solve.proofs.Least.{all, points_closed, stood}
use Rattle.sw_solve.specs.Annotation.{value_at}

-- what passes in a state passes in a lesser one
passes_down : (op : Op) (c d : Regions) → IsWithin c d → Passes op d → Passes op c
passes_down (Need x at) c d within live = λ has. live (has.0, within.pairs x has.0 has.1)
passes_down (Free x at code) c d within free = (
  λ has. free.0 (has.0, within.pairs x has.0 has.1),
  λ here. free.1 (within.together x 0 here),
)
passes_down (Fresh x) c d within passes = tt
passes_down (Put x y) c d within passes = tt
passes_down (Join x y) c d within passes = tt
passes_down (Give x site) c d within passes = tt

all_down : (ops : List Op) (c d z : Regions) → size_of c ≡ size_of d → IsWithin c d → Runs ops d z
    → AllPass ops d → AllPass ops c
all_down [] c d z size within runs passes = tt
all_down (op ∷ ops) c d z size within (n, does_too, rest) passes = (
  passes_down op c d within passes.0,
  λ made does. all_down ops made n z
      (does_size op c made does ∙ size ∙ sym (does_size op d n does_too))
      (does_monotone op c d made n size within does does_too) rest (passes.1 n does_too),
)

-- the operations of a point among those of its block
first_pass : (xs ys : List Op) (a : Regions) → AllPass (xs ++ ys) a → AllPass xs a
first_pass [] ys a passes = tt
first_pass (op ∷ xs) ys a passes = (
  passes.0,
  λ made does. first_pass xs ys made (passes.1 made does),
)

last_pass : (xs ys : List Op) (a m : Regions) → Runs xs a m → AllPass (xs ++ ys) a → AllPass ys m
last_pass [] ys a m e passes = subst (AllPass ys) (sym e) passes
last_pass (op ∷ xs) ys a m (n, does, rest) passes = last_pass xs ys n m rest (passes.1 n does)

pass_at : (setting : FunctionSetting) (points : List Point) (k : ℕ) (point : Point) (a m : Regions)
    → slice_get points k ≡ Some point → Runs (points_ops setting (take k points)) a m
    → AllPass (points_ops setting points) a → AllPass (point_ops setting point) m
pass_at setting [] k point a m e runs passes = cc
pass_at setting (first ∷ points) zero point a m e runs passes =
    let same : first ≡ point = cc in
    subst (λ q. AllPass (point_ops setting q) m) same
    (subst (AllPass (point_ops setting first)) (sym runs)
    (first_pass (point_ops setting first) (points_ops setting points) a passes))
pass_at setting (first ∷ points) (suc k) point a m e runs passes =
    let h = runs_split (point_ops setting first) (points_ops setting (take k points)) a m runs in
    pass_at setting points k point h.0 m e h.2
    (last_pass (point_ops setting first) (points_ops setting points) a h.0 h.1 passes)

none_pass : (setting : FunctionSetting) (p : ℕ) (c : Regions)
    → length (points_of setting.body.blocks) ≤ p → AllPass (point_ops_at setting p) c
unfolding point_ops_at
none_pass setting p c past =
    subst (λ o. AllPass (option_map_or (point_ops setting) o []) c)
    (sym (slice_get_past (points_of setting.body.blocks) p past)) tt

module _ (setting : FunctionSetting) (s : List (Option Regions)) (certified : IsCertified setting s)
    (fits : IsAnalysis (record { setting = setting; sites = certified.sites })) where
  abbrev analysis : Analysis
  analysis = record { setting = setting; sites = certified.sites }

  abbrev points : List (Option Regions)
  points = all (layout analysis) (laid_out analysis fits) s certified.closed

  closed_points : IsClosedFor setting certified.sites points
  closed_points = points_closed (layout analysis) (laid_out analysis fits) s certified.closed

  -- at a point of a block
  in_block : (p : ℕ) (y c : Regions) (point : Point) (b k : ℕ) (block : Block)
      → slice_get setting.body.blocks b ≡ Some block → k < length (points_of_block block)
      → p ≡ first_point setting.body.blocks b + k → slice_get (points_of_block block) k ≡ Some point
      → value_at points p ≡ Some y → IsWithin c y → size_of c ≡ size_of y
      → AllPass (point_ops_at setting p) c
  in_block p y c point b k block e within place here_is stands below size =
      let ops = ap (point_ops_at setting) place ∙ stands_at setting b block e k point here_is in
      let from = stood (layout analysis) (laid_out analysis fits) s certified.closed b k y
      (slice_get_within setting.body.blocks b block e)
      (omega (arith, count_is setting.body.blocks b block e, within))
      (ap (value_at points) (sym place) ∙ stands) in
      let passed = certified.closed.stepped b from.0 from.1 in
      let to = comes_to setting b k block point from.0 y passed.made e here_is passed.leads_to.1
      from.2 in
      let passes = pass_at setting (points_of_block block) k point to.copied to.before here_is
      to.runs (subst (λ os. AllPass os to.copied) (ops_are setting b block e)
      (certified.passes b from.0 to.copied from.1 to.is_copy)) in
      subst (λ os. AllPass os c) (sym ops)
      (all_down (point_ops setting point) c to.before to.made (size ∙ sym to.same.sized)
      (within_trans c y to.before below (same_within y to.before to.same.same).0) to.does passes)

  pub each_passes : (found : List (Option Regions)) → IsLeast setting found
      → EachPasses setting found
  each_passes found least p x c stands copy =
      elim (cases_lt p (length (points_of setting.body.blocks))) [
        | inr past ↦ none_pass setting p c past
        | inl inside ↦ (
            let point = element_at (points_of setting.body.blocks) p inside in
            let at = place_of setting.body.blocks p point.0 point.1 in
            let sites = sites_are_one setting least.sites certified.sites least.are_sites
            certified.are_sites in
            let closed = subst (λ ns. IsClosedFor setting ns found) sites least.closed in
            let up = least.least points
            (subst (λ ns. IsClosedFor setting ns points) (sym sites) closed_points) in
            let y = stands_above (value_at points p) x
            (at_some (value_at found p) (value_at points p) x stands (up.each p)) in
            let size = copy.sized
            ∙ size_at (facts_of analysis) (value_at found p) x stands (closed.sized p)
            ∙ sym (size_at (facts_of analysis) (value_at points p) y.0 y.1
            (closed_points.sized p)) in
            in_block p y.0 c point.0 at.0 at.1 at.2 at.3 at.4 at.5 at.6 y.1
            (within_trans c x y.0 (same_within x c copy.same).1 y.2) size
            )
      ]

pub certified_passes : (graph : Graph) → HasCertified graph → AreBreaches graph []
certified_passes graph each = passed_breaches graph (record {
  annotated = λ number body is. some_least (setting_of graph body) (inside graph.shapes body.regs);
  passes = λ number body is. let h = each number body is in
      each_passes (setting_of graph body) h.0 h.1
      (body_fits graph number body h.1.sites is h.1.are_sites);
})
