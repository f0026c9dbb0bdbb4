-- What the region operations of an instruction depend on beside the instruction.
use Rattle.std.specs.Coded.{Coded, code_by, coded×, coded_list, coded_option, coded_ℕ}
use Rattle.std.specs.Prelude.{ℕ, Option, List, refl}
use Rattle.sw_graph.specs.declared.graph.Graph.{Graph}
use Rattle.sw_graph.specs.declared.function.Function.{Function}
use Rattle.sw_region_ops.specs.Elements.{elements_of}

-- the functions of the graph, the one in which the instruction stands, and the elements of that
-- one's registers
pub record FunctionSetting : Type 0 where
  pub functions : List Function
  pub body : Function
  pub elements : List (Option ℕ)

-- a setting is stored as its three fields
abbrev pub setting_code : Coded Function → Coded FunctionSetting
setting_code function =
    code_by (List Function × (Function × List (Option ℕ)))
    (coded× (coded_list function) (coded× function (coded_list (coded_option coded_ℕ))))
    (λ s. (s.functions, (s.body, s.elements)))
    (λ p. record { functions = p.0; body = p.1.0; elements = p.1.1 }) (λ _. refl)

-- the setting of a function of a graph
abbrev pub setting_of : Graph → Function → FunctionSetting
setting_of graph body = record {
  functions = graph.functions;
  body = body;
  elements = elements_of graph.shapes body.regs;
}
