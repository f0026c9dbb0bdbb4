-- How many joins it takes to solve the flows of a graph's functions, at most.
use Rattle.std.specs.Prelude.{ℕ, ◌+◌, ◌*◌, length}
use Rattle.std.specs.List.{sum_by}
use Rattle.sw_graph.specs.declared.graph.Graph.{Graph}
use Rattle.sw_region_flow.specs.Analysis.{targets_at}
use Rattle.sw_region_flow.specs.Distinct.{distinct_count}
use Rattle.sw_region_ops.specs.Elements.{element_count}
use Rattle.sw_region_ops.specs.Setting.{FunctionSetting, setting_of}
use Rattle.sw_region_ops.specs.Sites.{sites_of, body_ops}
use Rattle.sw_solve.specs.Work.{edge_count}

-- how many sites a function has
unfoldable pub site_count : FunctionSetting → ℕ
site_count setting = distinct_count (sites_of (body_ops setting))

-- edges * (elements * (sites + 1) + 1), where the edges lead from a block to one that follows it
unfoldable pub joins_of : FunctionSetting → ℕ
joins_of setting = edge_count (targets_at setting.body.blocks) (length setting.body.blocks)
    * (element_count setting.elements * (site_count setting + 1) + 1)

-- the sum of that over the functions
unfoldable pub graph_joins : Graph → ℕ
graph_joins graph = sum_by (λ body. joins_of (setting_of graph body)) graph.functions
