-- The flow of a function's blocks with region states.
use Rattle.std.specs.Coded.{Coded, code_by, coded×, coded_list, coded_ℕ}
use Rattle.std.specs.Prelude.{◌≡◌, ℕ, ◌<◌, ◌≤◌, Option, Some, List, [], ◌∷◌, length, slice_get}
use Rattle.std.specs.Prelude.{All, refl}
use Rattle.std.specs.Option.{option_map_or}
use Rattle.sw_graph.specs.Mentions.{blocks_of}
use Rattle.sw_solve.specs.Layout.{Layout, IsLeastOfBlocks}
use Rattle.sw_graph.specs.Points.{points_of_block}
use Rattle.sw_graph.specs.declared.function.TheConstants.{MAX_POINTS}
use Rattle.sw_graph.specs.declared.instr.Block.{Block}
use Rattle.sw_partition.specs.Regions.{Regions, size_of, IsWithin}
use Rattle.sw_region_flow.specs.Least.{first_point, followers, point_ops_at}
use Rattle.sw_region_flow.specs.Walks.{Walks}
use Rattle.sw_region_ops.specs.Elements.{AreElements, element_count}
use Rattle.sw_region_ops.specs.Entry.{IsEntry}
use Rattle.sw_region_ops.specs.Setting.{FunctionSetting}
use Rattle.sw_region_ops.specs.Sites.{AreSites}
use Rattle.sw_region_ops.specs.Table.{block_ops}
use Rattle.sw_region_ops.specs.declared.op.Op.{Op}

-- the setting of a function, and the sites of its states
pub record Analysis : Type 0 where
  pub setting : FunctionSetting
  pub sites : List ℕ

-- an analysis is stored as its two fields
abbrev pub analysis_code : Coded FunctionSetting → Coded Analysis
analysis_code setting = code_by (FunctionSetting × List ℕ) (coded× setting (coded_list coded_ℕ))
    (λ a. (a.setting, a.sites)) (λ p. record { setting = p.0; sites = p.1 }) (λ _. refl)

-- the elements and the sites of the states
abbrev pub facts_of : Analysis → List ℕ
facts_of analysis = element_count analysis.setting.elements ∷ analysis.sites

-- the operations of a block; none where there is no such block
unfoldable pub block_ops_at : FunctionSetting → ℕ → List Op
block_ops_at setting b =
    option_map_or (block_ops setting) (slice_get setting.body.blocks b) []

-- the blocks that a block leads to
unfoldable pub targets_at : List Block → ℕ → List ℕ
targets_at blocks b = option_map_or (λ block. blocks_of block.last) (slice_get blocks b) []

-- the operations of a block make the second state of the first
abbrev pub WalksBlock : Analysis → ℕ → Regions → Regions → Type 0
WalksBlock analysis b before after =
    (b < length analysis.setting.body.blocks) × Walks (block_ops_at analysis.setting b) before after

-- how many points a block has
unfoldable pub point_count : List Block → ℕ → ℕ
point_count blocks b =
    option_map_or (λ block. length (points_of_block block)) (slice_get blocks b) 0

-- The flow of the blocks, beside that of the points.
abbrev pub layout : Analysis → Layout Regions
layout analysis = record {
  le = IsWithin;
  size = size_of;
  facts = facts_of analysis;
  enters = IsEntry analysis.setting analysis.sites;
  blocks = length analysis.setting.body.blocks;
  start = first_point analysis.setting.body.blocks;
  len = point_count analysis.setting.body.blocks;
  step = λ p. Walks (point_ops_at analysis.setting p);
  after = followers analysis.setting.body.blocks;
  walk = WalksBlock analysis;
  next = targets_at analysis.setting.body.blocks;
}

-- The function has a block, but not too many, each of its blocks leads to blocks that it has, and
-- the states are over its elements and its sites.
pub record IsAnalysis (analysis : Analysis) : Type 0 where
  pub elements : AreElements analysis.setting.elements
  pub sites : AreSites analysis.setting analysis.sites
  pub begins : 0 < length analysis.setting.body.blocks
  pub few : length analysis.setting.body.blocks ≤ MAX_POINTS
  pub targets : (b : ℕ) (block : Block) → slice_get analysis.setting.body.blocks b ≡ Some block
      → All (λ target. target < length analysis.setting.body.blocks) (blocks_of block.last)

-- a least annotation of a function's blocks, over the sites at which the function gives elements
-- away
pub record IsLeastOfFunction (setting : FunctionSetting)
    (states : List (Option Regions)) : Type 0 where
  pub sites : List ℕ
  pub fits : IsAnalysis (record { setting = setting; sites = sites })
  pub least : IsLeastOfBlocks (layout (record { setting = setting; sites = sites })) states
