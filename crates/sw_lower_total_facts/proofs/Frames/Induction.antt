-- The code of each tree writes into the block that goes on and into blocks that it makes alone.
use Rattle.std.proofs.Common.{ℕ, ◌≤◌, List, Option}
use Rattle.sw_tree.specs.declared.stmt.Block.{Block}
use Rattle.sw_tree.specs.declared.stmt.Pattern.{Pattern}
use Rattle.sw_graph.specs.declared.instr.Instr.{Instr}
use Rattle.sw_graph.specs.declared.instr.Operand.{Operand}
use Rattle.sw_lower_rules.specs.Expressions.{jump}
use Rattle.sw_lower_rules.specs.Statements.{block_code, patterns_code}
use Rattle.sw_lower_rules.specs.Tables.{Tables}
use Rattle.sw_lower_rules.specs.declared.targets.Targets.{Targets}
use Rattle.sw_lower_code_facts.specs.Kept.{Kept}
use Rattle.sw_lower_code_facts.specs.Steps.{KeptByBlocks, KeptByStatements, KeptByVariables}
use Rattle.sw_lower_code_facts.proofs.Calls.{kept_by_forms, none_required}
use Rattle.sw_lower_code_facts.proofs.Declaring.{has_patterns}
use Rattle.sw_lower_code_facts.proofs.Induction.{every_block_code}
use Rattle.sw_lower_code_facts.proofs.Logic.{has_both, has_either, has_jump}
use Rattle.sw_lower_code_facts.proofs.Statements.{said_by_steps, said_has}
use Rattle.sw_lower_total_facts.specs.Frames.{CodeStays}
use Rattle.sw_lower_total_facts.proofs.Frames.Joining.{Keeps, Yields, keeps_scope, keeps_then, keeps_with}
use Rattle.sw_lower_total_facts.proofs.Frames.Joining.{stays_done, yields_any, yields_done, yields_then}
use Rattle.sw_lower_total_facts.proofs.Frames.Steps.{keeps_block, keeps_resume, stays_bind, stays_close}
use Rattle.sw_lower_total_facts.proofs.Frames.Steps.{stays_emit, stays_front, stays_known, stays_number}
use Rattle.sw_lower_total_facts.proofs.Frames.Steps.{stays_reg, stays_var, yields_block}

module _ (count own : ℕ) where
  abbrev staying : Kept
  staying = record {
    Has = λ code. Keeps count own code;
    done = λ value. stays_done value count own;
    after = keeps_then count own;
    known = λ fallback found. stays_known fallback found count own;
    var = λ key. stays_var key count own;
    number = λ name. stays_number name count own;
    reg = λ kind. stays_reg kind count own;
    emit = λ instr so. stays_emit instr count own;
  }

  abbrev blocks : KeptByBlocks staying
  blocks = record {
    Fresh = λ block. count ≤ block;
    after_block = keeps_block count own;
    close = λ last. stays_close last count own;
    resume = keeps_resume count own;
  }

  abbrev variables : KeptByVariables staying
  variables = record {
    bind = λ bound. stays_bind bound count own;
    front = λ instr so. stays_front instr count own;
  }

  abbrev statements : KeptByStatements staying blocks
  statements = record {
    Gives = λ P code. Yields count P code;
    gives_any = yields_any count;
    gives_done = yields_done count;
    gives_after = yields_then count;
    gives_block = yields_block count;
    after_given = λ P. keeps_with P count own;
    scope = keeps_scope count own;
  }

pub stays_jump : (to : ℕ) → CodeStays (jump to)
stays_jump to count own = has_jump (staying count own) (blocks count own) to

module _ (tables : Tables) where
  pub stays_patterns : (subject : Operand) (number : ℕ) (patterns : List Pattern)
      → CodeStays (patterns_code tables subject number patterns)
  stays_patterns subject number patterns count own =
      has_patterns (staying count own) (variables count own) tables subject number patterns

  pub block_stays : (owner : Option ℕ) (block : Block) (targets : Targets)
      → CodeStays ((block_code tables owner block).code targets)
  block_stays owner block targets count own =
      let stays = staying count own in
      let makes = blocks count own in
      let emits = λ (instr : Instr). stays_emit instr count own in
      let forms = kept_by_forms stays emits tables owner (has_both stays makes)
      (has_either stays makes) in
      let inside = none_required stays emits tables owner (has_both stays makes)
      (has_either stays makes) (block_code tables owner block).inside in
      said_has stays makes (variables count own) (statements count own) tables
      ((block_code tables owner block).code targets)
      ((every_block_code stays tables owner forms
      (said_by_steps stays makes (variables count own) (statements count own) tables) block
      inside).code targets)
