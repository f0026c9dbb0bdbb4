-- The flow of a function's blocks: its facts, its steps and its solution.
use Rattle.std.proofs.Common.{◌≡◌, ℕ, ◌+◌, ◌*◌, ◌<◌, ◌≤◌, Option, Some, List, length}
use Rattle.std.proofs.Common.{sym, subst, ap, ◌∙◌, arith}
use Rattle.std.specs.List.{slice_get, All}
use Rattle.sw_list.proofs.ListLemmas.{at_index}
use Rattle.sw_graph.specs.Limits.{IsWithinLimits}
use Rattle.sw_graph.specs.Mentions.{blocks_of}
use Rattle.sw_graph.specs.WellFormed.{FunctionFits, BlockFits}
use Rattle.sw_graph.specs.declared.function.Function.{Function}
use Rattle.sw_graph.specs.declared.function.GlobalKind.{GlobalKind}
use Rattle.sw_graph.specs.declared.graph.Graph.{Graph}
use Rattle.sw_graph.specs.declared.instr.Block.{Block}
use Rattle.sw_types.specs.declared.shape.Shape.{Shape}
use Rattle.sw_region_flow.proofs.Counting.{length_is}
use Rattle.sw_region_flow.proofs.Laid.{ops_are}
use Rattle.sw_region_flow.proofs.Places.{element_at, fewer_blocks, targets_of}
use Rattle.sw_region_flow.specs.Analysis.{Analysis, IsAnalysis, facts_of, block_ops_at}
use Rattle.sw_region_flow.specs.Analysis.{targets_at}
use Rattle.sw_region_flow.specs.Work.{site_count, joins_of}
use Rattle.sw_region_ops.proofs.ContextLemmas.{are_elements}
use Rattle.sw_region_ops.proofs.RangeLemmas.{block_fits}
use Rattle.sw_region_ops.specs.Elements.{AreElements, element_count}
use Rattle.sw_region_ops.specs.Runs.{Fits}
use Rattle.sw_region_ops.specs.Setting.{FunctionSetting, setting_of}
use Rattle.sw_region_ops.specs.Sites.{AreSites, sites_of, body_ops}
use Rattle.sw_region_ops.specs.Table.{block_ops}
use Rattle.sw_region_ops.specs.declared.op.Op.{Op}
use Rattle.sw_solve.specs.Work.{edge_count}

-- a function of a graph has what its flow rests on
fits_as : (shapes : List Shape) (globals : List GlobalKind) (functions : List Function) (n : ℕ)
    (body : Function) (elements : List (Option ℕ)) (sites : List ℕ)
    → FunctionFits shapes globals functions body → IsWithinLimits body → AreElements elements
    → AreSites (record { functions = functions; body = body; elements = elements }) sites
    → IsAnalysis (record {
      setting = record { functions = functions; body = body; elements = elements };
      sites = sites;
    })
fits_as shapes globals functions n body elements sites fits limits are are_sites = record {
  elements = are;
  sites = are_sites;
  begins = fits.begins;
  few = omega (arith, fewer_blocks body.blocks, limits.points);
  targets = λ b block e.
      let h = at_index (BlockFits shapes globals functions body) body.blocks b block fits.blocks e
      in h.last.blocks_in;
}

pub body_fits : (graph : Graph) (n : ℕ) (body : Function) (sites : List ℕ)
    → slice_get graph.functions n ≡ Some body → AreSites (setting_of graph body) sites
    → IsAnalysis (record { setting = setting_of graph body; sites = sites })
body_fits graph n body sites is are_sites =
    let limits = at_index IsWithinLimits graph.functions n body graph.well_formed.limits is in
    fits_as graph.shapes graph.globals graph.functions n body (setting_of graph body).elements sites
    (at_index (FunctionFits graph.shapes graph.globals graph.functions) graph.functions n body
    graph.well_formed.each is) limits
    (are_elements graph.shapes body.regs limits.registers) are_sites

pub analysis_fits : (graph : Graph) (n : ℕ) (setting : FunctionSetting) (sites : List ℕ)
    → n < length graph.functions
    → ((body : Function) → slice_get graph.functions n ≡ Some body
    → setting ≡ setting_of graph body)
    → AreSites setting sites → IsAnalysis (record { setting = setting; sites = sites })
analysis_fits graph n setting sites within value are_sites =
    let h = element_at graph.functions n within in
    let e = value h.0 h.1 in
    subst (λ s. IsAnalysis (record { setting = s; sites = sites })) (sym e)
    (body_fits graph n h.0 sites h.1 (subst (λ s. AreSites s sites) e are_sites))

-- the operations of a block that there is
pub ops_there : (setting : FunctionSetting) (b : ℕ) (block : Block) (ops : List Op)
    → slice_get setting.body.blocks b ≡ Some block → ops ≡ block_ops setting block
    → ops ≡ block_ops_at setting b
ops_there setting b block ops at e = e ∙ sym (ops_are setting b block at)

pub ops_fit : (analysis : Analysis) (b : ℕ) (block : Block) (ops : List Op) → IsAnalysis analysis
    → slice_get analysis.setting.body.blocks b ≡ Some block
    → ops ≡ block_ops analysis.setting block → All (Fits (facts_of analysis)) ops
ops_fit analysis b block ops fits at e = subst (λ os. All (Fits (facts_of analysis)) os) (sym e)
    (block_fits analysis.setting analysis.sites b block fits.elements fits.sites at)

-- the blocks that follow a block that there is
pub targets_there : (blocks : List Block) (b : ℕ) (block : Block) (targets : List ℕ)
    → slice_get blocks b ≡ Some block → targets ≡ blocks_of block.last
    → targets ≡ targets_at blocks b
targets_there blocks b block targets at e = e ∙ sym (targets_of blocks b block at)

pub targets_fit : (analysis : Analysis) (b : ℕ) (block : Block) (targets : List ℕ)
    → IsAnalysis analysis → slice_get analysis.setting.body.blocks b ≡ Some block
    → targets ≡ blocks_of block.last
    → All (λ q. q < length analysis.setting.body.blocks) targets
targets_fit analysis b block targets fits at e =
    subst (λ ts. All (λ q. q < length analysis.setting.body.blocks) ts) (sym e)
    (fits.targets b block at)

-- the number of sites, and so the bound on joins
pub joins_are : (analysis : Analysis) → AreSites analysis.setting analysis.sites
    → edge_count (targets_at analysis.setting.body.blocks) (length analysis.setting.body.blocks)
    * (element_count analysis.setting.elements * (length analysis.sites + 1) + 1)
    ≡ joins_of analysis.setting
unfolding joins_of site_count
joins_are analysis sites =
    ap (λ n. edge_count (targets_at analysis.setting.body.blocks)
    (length analysis.setting.body.blocks)
    * (element_count analysis.setting.elements * (n + 1) + 1))
    (length_is analysis.sites (sites_of (body_ops analysis.setting)) sites.rising sites.same)

-- the joins of a function's flow
pub joins_within : (analysis : Analysis) (old new : ℕ) → IsAnalysis analysis
    → new ≤ old
    + edge_count (targets_at analysis.setting.body.blocks) (length analysis.setting.body.blocks)
    * (element_count analysis.setting.elements * (length analysis.sites + 1) + 1)
    → (setting : FunctionSetting) → analysis.setting ≡ setting → new ≤ old + joins_of setting
joins_within analysis old new fits within setting same =
    let e = joins_are analysis fits.sites ∙ ap joins_of same in
    subst (λ n. new ≤ old + n) e within
