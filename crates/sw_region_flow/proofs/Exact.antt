-- A test fails in the least annotation of the points exactly where one fails on the way through a
-- block of a least annotation of the blocks.
use Rattle.std.proofs.Common.{◌≡◌, ℕ, zero, suc, ◌+◌, ◌<◌, ◌≤◌, inl, inr, ◌↔◌, Option, Some, None}
use Rattle.std.proofs.Common.{IfSome, List, [], ◌∷◌, length, take, refl, sym, subst}
use Rattle.std.proofs.Common.{ap, ◌∙◌, arith}
use Rattle.std.proofs.lemmas.Bool.{cases_lt}
use Rattle.std.proofs.lemmas.Option.{slice_get_within, slice_get_past}
use Rattle.std.specs.List.{slice_get}
use Rattle.std.specs.Option.{option_map_or}
use Rattle.sw_solve.proofs.Least.{blocks_give_points}
use Rattle.sw_solve.specs.Layout.{Chain, IsLeastOfBlocks, IsLeastOfPoints}
use Rattle.sw_breach.specs.declared.Breach.{Breach}
use Rattle.sw_graph.specs.Points.{Point, points_of, points_of_block}
use Rattle.sw_graph.specs.declared.instr.Block.{Block}
use Rattle.sw_partition.specs.Laws.{within_refl, within_trans, within_both}
use Rattle.sw_partition.specs.Rank.{rank_of}
use Rattle.sw_partition.specs.Regions.{Regions, size_of, IsWithin}
use Rattle.sw_region_flow.proofs.Laid.{points_ops, Stand, later, here, stands_at, ops_are, laid_out}
use Rattle.sw_region_flow.proofs.OneSites.{sites_are_one}
use Rattle.sw_region_flow.proofs.Places.{element_at, count_is, place_of}
use Rattle.sw_region_flow.proofs.Same.{copy_back, copy_trans, runs_same, among_same, among_split}
use Rattle.sw_region_flow.proofs.Same.{among_left, among_right}
use Rattle.sw_region_flow.specs.Analysis.{Analysis, IsAnalysis, layout, block_ops_at, facts_of}
use Rattle.sw_region_flow.specs.Breaches.{IsBreachIn}
use Rattle.sw_region_flow.specs.Laws.{walks_monotone, entries_within}
use Rattle.sw_region_flow.specs.Least.{first_point, followers, point_ops_at, IsClosedFor, IsLeast}
use Rattle.sw_region_flow.specs.Least.{FailsAt, IsLeastAtBlocks}
use Rattle.sw_region_flow.specs.Walks.{IsCopy, Walks, FailsAmong}
use Rattle.sw_region_ops.proofs.RunLemmas.{runs_split, runs_both}
use Rattle.sw_region_ops.specs.Entry.{IsEntry}
use Rattle.sw_region_ops.specs.Runs.{Runs}
use Rattle.sw_region_ops.specs.Setting.{FunctionSetting}
use Rattle.sw_region_ops.specs.Table.{point_ops}
use Rattle.sw_solve.proofs.Solving.{Problem, IsLawful, closed_bounds}
use Rattle.sw_solve.specs.Annotation.{value_at, IsBelow, IsAtMost, IsAtMostEverywhere}

-- what a chain of points makes is a copy of what their operations make of a copy
chain_same : (setting : FunctionSetting) (points : List Point) (k p : ℕ) (x y c m : Regions)
    → Stand setting p points → k ≤ length points
    → Chain (λ q. Walks (point_ops_at setting q)) p k x y → IsCopy x c
    → Runs (points_ops setting (take k points)) c m → IsCopy y m
chain_same setting points zero p x y c m stand within chain copy runs =
    subst (λ r. IsCopy r m) (sym chain) (subst (λ r. IsCopy x r) (sym (none points runs)) copy)
  where
    none : (points : List Point) → Runs (points_ops setting (take zero points)) c m → m ≡ c
    none points runs = runs
chain_same setting [] (suc k) p x y c m stand within chain copy runs = absurd (omega arith)
chain_same setting (point ∷ points) (suc k) p x y c m stand within (n, walks, rest) copy runs =
    let h = runs_split (point_ops setting point) (points_ops setting (take k points)) c m runs in
    let ops = here setting p point points stand in
    let made = subst (λ os. Runs os walks.copied n) (sym ops) walks.runs in
    let step : IsCopy n h.0 = runs_same (point_ops setting point) walks.copied c n h.0
    (copy_trans walks.copied x c (copy_back x walks.copied walks.is_copy) copy) made h.1 in
    chain_same setting points k (suc p) n y h.0 m (later setting p point points stand)
    (omega arith) rest step h.2

-- the point of a block at which a test fails
among_point : (setting : FunctionSetting) (points : List Point) (a : Regions) (breach : Breach)
    → FailsAmong (points_ops setting points) a breach
    → (k : ℕ) × (point : Point) × (slice_get points k ≡ Some point)
    × (m : Regions) × Runs (points_ops setting (take k points)) a m
    × FailsAmong (point_ops setting point) m breach
among_point setting [] a breach fails = absurd fails
among_point setting (point ∷ points) a breach fails =
    elim (among_split (point_ops setting point) (points_ops setting points) a breach fails) [
      | inl first ↦ (0, point, refl, a, refl, first)
      | inr rest ↦ let h = among_point setting points rest.0 breach rest.2 in (
        suc h.0,
        h.1,
        h.2,
        h.3,
        runs_both (point_ops setting point) (points_ops setting (take h.0 points)) a rest.0 h.3
            rest.1 h.4,
        h.5,
      )
    ]

-- the operations of a point among those of its block
runs_at : (setting : FunctionSetting) (points : List Point) (k : ℕ) (point : Point) (a z : Regions)
    → slice_get points k ≡ Some point → Runs (points_ops setting points) a z
    → (m n : Regions) × Runs (points_ops setting (take k points)) a m
    × Runs (point_ops setting point) m n
runs_at setting [] k point a z e runs = cc
runs_at setting (first ∷ points) zero point a z e runs =
    let same : first ≡ point = cc in
    let h = runs_split (point_ops setting first) (points_ops setting points) a z runs in
    (a, h.0, refl, subst (λ q. Runs (point_ops setting q) a h.0) same h.1)
runs_at setting (first ∷ points) (suc k) point a z e runs =
    let h = runs_split (point_ops setting first) (points_ops setting points) a z runs in
    let t = runs_at setting points k point h.0 z e h.2 in (
      t.0,
      t.1,
      runs_both (point_ops setting first) (points_ops setting (take k points)) a h.0 t.0 h.1 t.2,
      t.3,
    )

among_at : (setting : FunctionSetting) (points : List Point) (k : ℕ) (point : Point) (a m : Regions)
    (breach : Breach) → slice_get points k ≡ Some point
    → Runs (points_ops setting (take k points)) a m
    → FailsAmong (point_ops setting point) m breach
    → FailsAmong (points_ops setting points) a breach
among_at setting [] k point a m breach e runs fails = cc
among_at setting (first ∷ points) zero point a m breach e runs fails =
    let same : point ≡ first = cc in
    among_left (point_ops setting first) (points_ops setting points) a breach
    (subst (λ q. FailsAmong (point_ops setting q) a breach) same
    (subst (λ r. FailsAmong (point_ops setting point) r breach) runs fails))
among_at setting (first ∷ points) (suc k) point a m breach e runs fails =
    let h = runs_split (point_ops setting first) (points_ops setting (take k points)) a m runs in
    among_right (point_ops setting first) (points_ops setting points) a h.0 breach h.1
    (among_at setting points k point h.0 m breach e h.2 fails)

-- From a state at a block the points before one of its points make what stands there, and the
-- operations at that point can be done.
pub record ComesTo (setting : FunctionSetting) (points : List Point) (k : ℕ) (point : Point)
    (x y : Regions) : Type 0 where
  pub copied : Regions
  pub is_copy : IsCopy x copied
  pub before : Regions
  pub runs : Runs (points_ops setting (take k points)) copied before
  pub same : IsCopy y before
  pub made : Regions
  pub does : Runs (point_ops setting point) before made

pub comes_to : (setting : FunctionSetting) (b k : ℕ) (block : Block) (point : Point)
    (x y end : Regions) → slice_get setting.body.blocks b ≡ Some block
    → slice_get (points_of_block block) k ≡ Some point → Walks (block_ops_at setting b) x end
    → Chain (λ q. Walks (point_ops_at setting q)) (first_point setting.body.blocks b) k x y
    → ComesTo setting (points_of_block block) k point x y
comes_to setting b k block point x y end e here_is walks chain =
    let within = slice_get_within (points_of_block block) k point here_is in
    let at = runs_at setting (points_of_block block) k point walks.copied end here_is
    (subst (λ os. Runs os walks.copied end) (ops_are setting b block e) walks.runs) in
    record {
      copied = walks.copied;
      is_copy = walks.is_copy;
      before = at.0;
      runs = at.2;
      same = chain_same setting (points_of_block block) k (first_point setting.body.blocks b) x y
          walks.copied at.0 (stands_at setting b block e) (omega (arith, within)) chain
          walks.is_copy at.2;
      made = at.1;
      does = at.3;
    }

-- a test fails only where there is a point
point_there : (setting : FunctionSetting) (p : ℕ) (a : Regions) (breach : Breach)
    → FailsAmong (point_ops_at setting p) a breach
    → (point : Point) × (slice_get (points_of setting.body.blocks) p ≡ Some point)
unfolding point_ops_at
point_there setting p a breach fails =
    elim (cases_lt p (length (points_of setting.body.blocks))) [
      | inl inside ↦ element_at (points_of setting.body.blocks) p inside
      | inr past ↦ absurd (subst (λ o. FailsAmong (option_map_or (point_ops setting) o []) a breach)
          (slice_get_past (points_of setting.body.blocks) p past) fails)
    ]

-- what stands at a point, if something below it stands there
pub stands_above : (o : Option Regions) (x : Regions) → IsBelow IsWithin x o
    → (y : Regions) × (o ≡ Some y) × IsWithin x y
stands_above None x below = absurd below
stands_above (Some y) x below = (y, refl, below)

pub at_some : (o other : Option Regions) (x : Regions) → o ≡ Some x → IsAtMost IsWithin o other
    → IsBelow IsWithin x other
at_some o other x e most = subst (λ v. IsAtMost IsWithin v other) e most

pub size_at : (facts : List ℕ) (o : Option Regions) (x : Regions) → o ≡ Some x
    → IfSome o (λ r. size_of r ≡ facts) → size_of x ≡ facts
size_at facts o x e sized = subst (λ v. IfSome v (λ r. size_of r ≡ facts)) e sized

-- the flow of the points, and its laws
abbrev pub point_flow : FunctionSetting → List ℕ → Problem Regions
point_flow setting sites = record {
  le = IsWithin;
  size = size_of;
  rank = rank_of;
  facts = facts_of (record { setting = setting; sites = sites });
  enters = IsEntry setting sites;
  leads = λ p. Walks (point_ops_at setting p);
  successors = followers setting.body.blocks;
}

pub point_laws : (setting : FunctionSetting) (sites : List ℕ) → IsLawful (point_flow setting sites)
point_laws setting sites = record {
  reflexive = within_refl;
  transitive = within_trans;
  one_entry = entries_within setting sites;
  monotone = λ p a b c d first second within walks walks_too.
      walks_monotone (point_ops_at setting p) a b c d (first ∙ sym second) within walks walks_too;
}

module _ (analysis : Analysis) (fits : IsAnalysis analysis) (s a : List (Option Regions))
    (blocks : IsLeastOfBlocks (layout analysis) s)
    (points : IsLeastOfPoints (layout analysis) s a) where
  below_closed : (other : List (Option Regions))
      → IsClosedFor analysis.setting analysis.sites other → IsAtMostEverywhere IsWithin a other
  below_closed other closed = points.lowest other
      (closed_bounds (point_flow analysis.setting analysis.sites)
      (point_laws analysis.setting analysis.sites) other closed)

  pub is_least : IsLeast analysis.setting a
  is_least = record {
    sites = analysis.sites;
    are_sites = fits.sites;
    closed = points.closed;
    least = below_closed;
  }

  -- a test that fails on the way through a block fails at one of its points
  pub from_block : (b : ℕ) (breach : Breach) → FailsAt (block_ops_at analysis.setting) s b breach
      → IsBreachIn analysis.setting breach
  from_block b breach fails =
      let passed = blocks.closed.stepped b fails.state fails.stands in
      let inside = passed.leads_to.0 in
      let walks = passed.leads_to.1 in
      let block = element_at analysis.setting.body.blocks b inside in
      let ops = ops_are analysis.setting b block.0 block.1 in
      let among = subst (λ os. FailsAmong os walks.copied breach) ops
      (among_same (block_ops_at analysis.setting b) fails.copied walks.copied passed.made breach
      (copy_trans fails.copied fails.state walks.copied
      (copy_back fails.state fails.copied fails.is_copy) walks.is_copy) walks.runs fails.fails) in
      let h = among_point analysis.setting (points_of_block block.0) walks.copied breach among in
      let within = slice_get_within (points_of_block block.0) h.0 h.1 h.2 in
      let count = count_is analysis.setting.body.blocks b block.0 block.1 in
      let stand = stands_at analysis.setting b block.0 block.1 in
      let at = points.stands b h.0 fails.state inside (omega (arith, count, within)) fails.stands in
      record {
        states = a;
        least = is_least;
        point = first_point analysis.setting.body.blocks b + h.0;
        fails = record {
          state = at.0;
          stands = at.1;
          copied = h.3;
          is_copy = chain_same analysis.setting (points_of_block block.0) h.0
              (first_point analysis.setting.body.blocks b) fails.state at.0 walks.copied h.3 stand
              (omega (arith, within)) at.2 walks.is_copy h.4;
          fails = subst (λ os. FailsAmong os h.3 breach) (sym (stand h.0 h.1 h.2)) h.5;
        };
      }

  -- a test that fails in a least annotation of the points fails on the way through a block
  pub to_block : (breach : Breach) → IsBreachIn analysis.setting breach
      → (b : ℕ) × FailsAt (block_ops_at analysis.setting) s b breach
  to_block breach breaks =
      let p = breaks.point in
      let x = breaks.fails.state in
      let sites = sites_are_one analysis.setting breaks.least.sites analysis.sites
      breaks.least.are_sites fits.sites in
      let closed = subst (λ ns. IsClosedFor analysis.setting ns breaks.states) sites
      breaks.least.closed in
      let up = breaks.least.least a
      (subst (λ ns. IsClosedFor analysis.setting ns a) (sym sites) points.closed) in
      let y = stands_above (value_at a p) x
      (at_some (value_at breaks.states p) (value_at a p) x breaks.fails.stands (up.each p)) in
      let down = stands_above (value_at breaks.states p) y.0
      (at_some (value_at a p) (value_at breaks.states p) y.0 y.1
      ((below_closed breaks.states closed).each p)) in
      let same : x ≡ down.0 = some_same x down.0 (sym breaks.fails.stands ∙ down.1) in
      let copy : IsCopy x y.0 = record {
        same = within_both x y.0 y.2 (subst (λ r. IsWithin y.0 r) (sym same) down.2);
        sized = size_at (facts_of analysis) (value_at a p) y.0 y.1 (points.closed.sized p)
            ∙ sym (size_at (facts_of analysis) (value_at breaks.states p) x breaks.fails.stands
            (closed.sized p));
      } in
      let point = point_there analysis.setting p breaks.fails.copied breach breaks.fails.fails in
      let at = place_of analysis.setting.body.blocks p point.0 point.1 in
      in_place breach p y.0 breaks.fails.copied point.0 at.0 at.1 at.2 at.3 at.4 at.5 at.6 y.1
      (copy_trans breaks.fails.copied x y.0
      (copy_back x breaks.fails.copied breaks.fails.is_copy) copy) breaks.fails.fails
    where
      some_same : (x y : Regions) → Some x ≡ Some y → x ≡ y
      some_same x y e = cc

      in_place : (breach : Breach) (p : ℕ) (y c : Regions) (point : Point) (b k : ℕ) (block : _)
          → slice_get analysis.setting.body.blocks b ≡ Some block
          → k < length (points_of_block block)
          → p ≡ first_point analysis.setting.body.blocks b + k
          → slice_get (points_of_block block) k ≡ Some point → value_at a p ≡ Some y → IsCopy c y
          → FailsAmong (point_ops_at analysis.setting p) c breach
          → (b : ℕ) × FailsAt (block_ops_at analysis.setting) s b breach
      in_place breach p y c point b k block e within place here_is stands copy fails =
          let inside = slice_get_within analysis.setting.body.blocks b block e in
          let count = count_is analysis.setting.body.blocks b block e in
          let stand = stands_at analysis.setting b block e in
          let ops = ap (point_ops_at analysis.setting) place ∙ stand k point here_is in
          let stood = points.stood b k y inside (omega (arith, count, within))
          (ap (value_at a) (sym place) ∙ stands) in
          let passed = blocks.closed.stepped b stood.0 stood.1 in
          let to = comes_to analysis.setting b k block point stood.0 y passed.made e here_is
          passed.leads_to.1 stood.2 in
          let among = among_same (point_ops analysis.setting point) c to.before to.made breach
          (copy_trans c y to.before copy to.same) to.does
          (subst (λ os. FailsAmong os c breach) ops fails) in (
            b,
            record {
              state = stood.0;
              stands = stood.1;
              copied = to.copied;
              is_copy = to.is_copy;
              fails = subst (λ os. FailsAmong os to.copied breach)
                  (sym (ops_are analysis.setting b block e))
                  (among_at analysis.setting (points_of_block block) k point to.copied to.before
                  breach here_is to.runs among);
            },
          )

-- A breach of a function is a test that fails on the way through a block.
pub breaches_are : (analysis : Analysis) → IsAnalysis analysis → (s : List (Option Regions))
    → IsLeastOfBlocks (layout analysis) s → (breach : Breach)
    → IsBreachIn analysis.setting breach
    ↔ ((b : ℕ) × FailsAt (block_ops_at analysis.setting) s b breach)
breaches_are analysis fits s blocks breach =
    let h = blocks_give_points (layout analysis) (laid_out analysis fits) s blocks in (
      to_block analysis fits s h.0 blocks h.1 breach,
      λ found. from_block analysis fits s h.0 blocks h.1 found.0 breach found.1,
    )

-- a least annotation of the blocks has what one of the points has
pub least_at_blocks : (analysis : Analysis) → IsAnalysis analysis → (s : List (Option Regions))
    → IsLeastOfBlocks (layout analysis) s → IsLeastAtBlocks analysis.setting s
least_at_blocks analysis fits s blocks =
    let h = blocks_give_points (layout analysis) (laid_out analysis fits) s blocks in
    record {
      points = h.0;
      least = is_least analysis fits s h.0 blocks h.1;
      at = λ b within. sym (h.1.starts b within);
    }
