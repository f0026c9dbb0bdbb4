-- The graphs of programs that keep the rules.
use Rattle.std.proofs.Common.{List}
use Rattle.sw_tree.specs.CasePlaces.{CasesApart}
use Rattle.sw_tree.specs.declared.decl.Decl.{Decl}
use Rattle.sw_graph.specs.Clean.{IsClean}
use Rattle.sw_graph.specs.Placed.{IsPlaced}
use Rattle.sw_graph.specs.declared.graph.Graph.{Graph}
use Rattle.sw_decls.specs.declared.signature.AsyncDefault.{AsyncDefault}
use Rattle.sw_typing_rules.specs.Worlds.{World}
use Rattle.sw_lower_code.specs.Whole.{Body}
use Rattle.sw_lower_total_facts.specs.Programs.{IsWelltyped}
use Rattle.sw_lower_first_facts.specs.Programs.{IsGraph}
use Rattle.sw_lower_placed_facts.specs.Bodies.{ArePlaced}
use Rattle.sw_lower_placed_facts.specs.Programs.{KeepsApart, KeepsUnshared}
use Rattle.sw_lower_placed_facts.specs.Hosts.{Program}
use Rattle.sw_lower_placed_facts.proofs.Bodies.Every.{all_placed}
use Rattle.sw_lower_placed_facts.proofs.Graphs.Programs.{graph_is_clean, graph_is_placed, made, numbered}
use Rattle.sw_lower_placed_facts.proofs.Graphs.Programs.{ordered, program}

module _ (decls : List Decl) (rule : AsyncDefault) (world : World) (graph : Graph)
    (is : IsWelltyped decls rule world) (cases : CasesApart decls) (apart : KeepsApart world decls)
    (lowered : IsGraph world decls graph) where
  abbrev bodies : List Body
  bodies = ordered decls rule world graph is lowered

  abbrev whole : Program
  whole = program decls rule world graph is lowered

  placed : ArePlaced whole
  placed =
      all_placed decls rule world bodies is cases apart lowered.are_ordered
      (numbered decls rule world graph is lowered) (made decls rule world graph is lowered)

  pub kept_placed : IsPlaced graph
  kept_placed = graph_is_placed decls rule world graph is lowered placed

  pub kept_clean : KeepsUnshared world decls → IsClean graph
  kept_clean unshared = graph_is_clean decls rule world graph is lowered placed apart unshared

pub placed_graph : (decls : List Decl) (rule : AsyncDefault) (world : World) (graph : Graph)
    → IsWelltyped decls rule world → CasesApart decls → KeepsApart world decls
    → IsGraph world decls graph → IsPlaced graph
placed_graph decls rule world graph is cases apart lowered =
    kept_placed decls rule world graph is cases apart lowered

pub clean_graph : (decls : List Decl) (rule : AsyncDefault) (world : World) (graph : Graph)
    → IsWelltyped decls rule world → CasesApart decls → KeepsApart world decls
    → KeepsUnshared world decls → IsGraph world decls graph → IsClean graph
clean_graph decls rule world graph is cases apart unshared lowered =
    kept_clean decls rule world graph is cases apart lowered unshared
