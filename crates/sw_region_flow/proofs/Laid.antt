-- A function's points lie in its blocks.
use Rattle.std.proofs.Common.{◌≡◌, ℕ, suc, ◌+◌, ◌<◌, Some, List, [], ◌∷◌}
use Rattle.std.proofs.Common.{length, map, Contains, refl, sym, subst, ap, ◌∙◌, arith, add-one}
use Rattle.std.proofs.lemmas.List.Elements.{All-contains}
use Rattle.std.proofs.lemmas.Option.{slice_get_within}
use Rattle.std.specs.List.{slice_get, flat_map}
use Rattle.std.specs.Option.{option_map_or}
use Rattle.sw_solve.specs.Layout.{IsLayout, Chain}
use Rattle.sw_graph.specs.Mentions.{blocks_of}
use Rattle.sw_graph.specs.Points.{Point, Middle, End, points_of_block}
use Rattle.sw_graph.specs.declared.instr.Block.{Block}
use Rattle.sw_graph.proofs.PointLemmas.{length-points_of_block}
use Rattle.sw_partition.specs.Laws.{within_refl, same_refl}
use Rattle.sw_partition.specs.Regions.{Regions}
use Rattle.sw_region_flow.specs.Analysis.{Analysis, IsAnalysis, layout, block_ops_at, point_count}
use Rattle.sw_region_flow.specs.Analysis.{targets_at}
use Rattle.sw_region_flow.specs.Laws.{walks_size}
use Rattle.sw_region_flow.specs.Least.{first_point, followers, point_ops_at}
use Rattle.sw_region_flow.specs.Walks.{IsCopy, Walks}
use Rattle.sw_region_flow.proofs.Places.{element_at, first_zero, first_next, count_is, point_is}
use Rattle.sw_region_flow.proofs.Places.{instr_at, last_at, followers_of, targets_of, block_filled}
use Rattle.sw_region_ops.proofs.RunLemmas.{runs_split}
use Rattle.sw_region_ops.specs.Runs.{Runs}
use Rattle.sw_region_ops.specs.Setting.{FunctionSetting}
use Rattle.sw_region_ops.specs.Table.{point_ops, block_ops}
use Rattle.sw_region_ops.specs.declared.op.Op.{Op}

pub copy_of_itself : (r : Regions) → IsCopy r r
copy_of_itself r = record { same = same_refl r; sized = refl }

-- the operations of points, one point after the other
abbrev pub points_ops : FunctionSetting → List Point → List Op
points_ops setting points = flat_map (point_ops setting) points

-- these points stand at p and after it
abbrev pub Stand : FunctionSetting → ℕ → List Point → Type 0
Stand setting p points = (k : ℕ) (point : Point) → slice_get points k ≡ Some point
    → point_ops_at setting (p + k) ≡ point_ops setting point

pub later : (setting : FunctionSetting) (p : ℕ) (point : Point) (points : List Point)
    → Stand setting p (point ∷ points) → Stand setting (suc p) points
later setting p point points stand k next e =
    let here : suc p + k ≡ p + suc k = omega arith in
    ap (point_ops_at setting) here ∙ stand (suc k) next e

pub here : (setting : FunctionSetting) (p : ℕ) (point : Point) (points : List Point)
    → Stand setting p (point ∷ points) → point_ops setting point ≡ point_ops_at setting p
here setting p point points stand =
    sym (ap (point_ops_at setting) (let h : p ≡ p + 0 = omega arith in h) ∙ stand 0 point refl)

-- what the operations of points make is made point by point
chain_runs : (setting : FunctionSetting) (points : List Point) (p : ℕ) (a z : Regions)
    → Stand setting p points → Runs (points_ops setting points) a z
    → Chain (λ q. Walks (point_ops_at setting q)) p (length points) a z
chain_runs setting [] p a z stand runs = runs
chain_runs setting (point ∷ points) p a z stand runs =
    let h = runs_split (point_ops setting point) (points_ops setting points) a z runs in (
      h.0,
      subst (λ ops. Walks ops a h.0) (here setting p point points stand)
          (record { copied = a; is_copy = copy_of_itself a; runs = h.1 }),
      chain_runs setting points (suc p) h.0 z (later setting p point points stand) h.2,
    )

chain_walks : (setting : FunctionSetting) (points : List Point) (p : ℕ) (a z : Regions)
    → Stand setting p points → 0 < length points → Walks (points_ops setting points) a z
    → Chain (λ q. Walks (point_ops_at setting q)) p (length points) a z
chain_walks setting [] p a z stand some walks = absurd (omega arith)
chain_walks setting (point ∷ points) p a z stand some walks =
    let h = runs_split (point_ops setting point) (points_ops setting points) walks.copied z
    walks.runs in (
      h.0,
      subst (λ ops. Walks ops a h.0) (here setting p point points stand)
          (record { copied = walks.copied; is_copy = walks.is_copy; runs = h.1 }),
      chain_runs setting points (suc p) h.0 z (later setting p point points stand) h.2,
    )

-- the operations at the points of a block
pub stands_at : (setting : FunctionSetting) (b : ℕ) (block : Block)
    → slice_get setting.body.blocks b ≡ Some block
    → Stand setting (first_point setting.body.blocks b) (points_of_block block)
unfolding point_ops_at
stands_at setting b block e k point at =
    ap (λ o. option_map_or (point_ops setting) o [])
    (point_is setting.body.blocks b k block e (slice_get_within (points_of_block block) k point at)
    ∙ at)

pub ops_are : (setting : FunctionSetting) (b : ℕ) (block : Block)
    → slice_get setting.body.blocks b ≡ Some block
    → block_ops_at setting b ≡ points_ops setting (points_of_block block)
unfolding block_ops_at
ops_are setting b block e = ap (λ o. option_map_or (block_ops setting) o []) e

module _ (analysis : Analysis) (fits : IsAnalysis analysis) where
  blocks : List Block
  blocks = analysis.setting.body.blocks

  walked : (b : ℕ) (x z : Regions) → b < length analysis.setting.body.blocks
      → Walks (block_ops_at analysis.setting b) x z
      → Chain (λ q. Walks (point_ops_at analysis.setting q))
      (first_point analysis.setting.body.blocks b) (point_count analysis.setting.body.blocks b) x z
  walked b x z inside walks =
      let h = element_at analysis.setting.body.blocks b inside in
      subst (λ n. Chain (λ q. Walks (point_ops_at analysis.setting q))
      (first_point analysis.setting.body.blocks b) n x z)
      (sym (count_is analysis.setting.body.blocks b h.0 h.1))
      (chain_walks analysis.setting (points_of_block h.0)
      (first_point analysis.setting.body.blocks b) x z
      (stands_at analysis.setting b h.0 h.1) (block_filled h.0)
      (subst (λ ops. Walks ops x z) (ops_are analysis.setting b h.0 h.1) walks))

  inner : (b k : ℕ) → b < length analysis.setting.body.blocks
      → suc k < point_count analysis.setting.body.blocks b
      → followers analysis.setting.body.blocks (first_point analysis.setting.body.blocks b + k)
      ≡ suc (first_point analysis.setting.body.blocks b + k) ∷ []
  inner b k inside within =
      let h = element_at analysis.setting.body.blocks b inside in
      let count = count_is analysis.setting.body.blocks b h.0 h.1 in
      let at = instr_at h.0 k (omega (arith, within, count, length-points_of_block h.0)) in
      followers_of analysis.setting.body.blocks (first_point analysis.setting.body.blocks b + k)
      (Middle at.0)
      (point_is analysis.setting.body.blocks b k h.0 h.1 (omega (arith, within, count)) ∙ at.1)
      ∙ ap (λ n. n ∷ []) (add-one (first_point analysis.setting.body.blocks b + k))

  last : (b k : ℕ) → b < length analysis.setting.body.blocks
      → suc k ≡ point_count analysis.setting.body.blocks b
      → followers analysis.setting.body.blocks (first_point analysis.setting.body.blocks b + k)
      ≡ map (first_point analysis.setting.body.blocks)
      (targets_at analysis.setting.body.blocks b)
  last b k inside ends =
      let h = element_at analysis.setting.body.blocks b inside in
      let count = count_is analysis.setting.body.blocks b h.0 h.1 in
      let at = last_at h.0 k (omega (arith, ends, count, length-points_of_block h.0)) in
      followers_of analysis.setting.body.blocks (first_point analysis.setting.body.blocks b + k)
      (End h.0.last)
      (point_is analysis.setting.body.blocks b k h.0 h.1 (omega (arith, ends, count)) ∙ at)
      ∙ ap (map (first_point analysis.setting.body.blocks))
      (sym (targets_of analysis.setting.body.blocks b h.0 h.1))

  within : (b q : ℕ) → b < length analysis.setting.body.blocks
      → Contains (targets_at analysis.setting.body.blocks b) q
      → q < length analysis.setting.body.blocks
  within b q inside has =
      let h = element_at analysis.setting.body.blocks b inside in
      All-contains (λ target. target < length analysis.setting.body.blocks) (blocks_of h.0.last) q
      (fits.targets b h.0 h.1)
      (subst (λ targets. Contains targets q) (targets_of analysis.setting.body.blocks b h.0 h.1)
      has)

  filled : (b : ℕ) → b < length analysis.setting.body.blocks
      → 0 < point_count analysis.setting.body.blocks b
  filled b inside =
      let h = element_at analysis.setting.body.blocks b inside in
      omega (arith, count_is analysis.setting.body.blocks b h.0 h.1, block_filled h.0)

  -- the points of a function are laid out in its blocks
  pub laid_out : IsLayout (layout analysis)
  laid_out = record {
    reflexive = within_refl;
    kept = λ p x y walks. walks_size (point_ops_at analysis.setting p) x y walks;
    some = fits.begins;
    first = first_zero analysis.setting.body.blocks;
    begins = first_next analysis.setting.body.blocks;
    filled = filled;
    walked = λ b x z leads. walked b x z leads.0 leads.1;
    inner = inner;
    last = last;
    within = within;
  }
