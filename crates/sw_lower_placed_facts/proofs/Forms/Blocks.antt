-- The statements of a block.
use Rattle.std.proofs.Common.{List, [], ◌∷◌, ◌++◌, Option, Some, None, flat_map}
use Rattle.std.proofs.lemmas.List.Elements.{All-nil}
use Rattle.sw_graph.specs.declared.instr.Operand.{Operand}
use Rattle.sw_lower_code.specs.Code.{Code, all}
use Rattle.sw_lower_code.specs.Whole.{Body}
use Rattle.sw_lower_rules.specs.Carriers.{StmtCode}
use Rattle.sw_lower_rules.specs.Statements.{block_layer, block_only}
use Rattle.sw_lower_rules.specs.declared.targets.Targets.{Targets}
use Rattle.sw_lower_placed_facts.specs.Claims.{AreOrdinary, BlockPlaced, IsOrdinary, OnlyPlaced}
use Rattle.sw_lower_placed_facts.specs.Claims.{StmtPlaced}
use Rattle.sw_lower_placed_facts.specs.Placing.{PlacesWith}
use Rattle.sw_lower_placed_facts.specs.Hosts.{Program, Host}
use Rattle.sw_lower_placed_facts.proofs.Forms.Joining.{both_ordinary, with_done, with_then, with_weaker}
use Rattle.sw_lower_placed_facts.proofs.Placing.Joining.{places_scope}

module _ (program : Program) (host : Host) where
  abbrev stmts_inside : List StmtCode → List Body
  stmts_inside stmts = flat_map (λ (one : StmtCode). one.inside) stmts

  -- statements after each other, and the one that is alone
  pub record StmtsPlaced (stmts : List StmtCode) : Type 0 where
    pub code_is : (targets : Targets)
        → PlacesWith program host (all (λ (one : StmtCode). one.code targets) stmts)
        (AreOrdinary program (stmts_inside stmts))
    pub only : OnlyPlaced program host (block_only stmts) (stmts_inside stmts)

  pub no_stmts_placed : StmtsPlaced []
  unfolding all
  no_stmts_placed =
      record { code_is = λ targets. with_done tt (All-nil (IsOrdinary program)); only = tt }

  pub more_stmts_placed : (stmt : StmtCode) (stmts : List StmtCode)
      → StmtPlaced program host stmt → StmtsPlaced stmts → StmtsPlaced (stmt ∷ stmts)
  unfolding all
  more_stmts_placed stmt stmts one more = record {
    code_is = λ targets.
        with_then (stmt.code targets) _ (one.code_is targets) (λ first done.
        with_weaker (all (λ (other : StmtCode). other.code targets) stmts)
        (λ rest. both_ordinary program stmt.inside (stmts_inside stmts) first rest)
        (more.code_is targets));
    only = alone stmts;
  } where
    alone : (rest : List StmtCode)
        → OnlyPlaced program host (block_only (stmt ∷ rest)) (stmts_inside (stmt ∷ rest))
    alone [] = one_only stmt.only one.only where
      one_only : (only : Option (Code Operand)) → OnlyPlaced program host only stmt.inside
          → OnlyPlaced program host only (stmt.inside ++ [])
      one_only None so = tt
      one_only (Some read) so =
          with_weaker read
          (λ first. both_ordinary program stmt.inside [] first (All-nil (IsOrdinary program))) so
    alone (other ∷ rest) = tt

  -- A block, whose variables are seen in it alone.
  pub block_placed : (stmts : List StmtCode) → StmtsPlaced stmts
      → BlockPlaced program host (block_layer stmts)
  block_placed stmts placed = record {
    code_is = λ targets s.
        places_scope s (all (λ (one : StmtCode). one.code targets) stmts)
        (λ done t. AreOrdinary program (stmts_inside stmts)) (placed.code_is targets s);
    only = placed.only;
  }
