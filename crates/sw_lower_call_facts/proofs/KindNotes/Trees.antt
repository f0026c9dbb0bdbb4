-- What is noted of a tree: the making of an actor has its own kind.
use Rattle.std.proofs.Common.{ℕ, List}
use Rattle.sw_tree.specs.declared.expr.Expr.{Expr}
use Rattle.sw_tree.specs.declared.stmt.Block.{Block}
use Rattle.sw_typing_rules.specs.Worlds.{World}
use Rattle.sw_isolation_rules.specs.Answers.{Answers}
use Rattle.sw_isolation_rules.specs.Noting.{block_notes, see}
use Rattle.sw_isolation_rules.specs.declared.uses.Context.{Context}
use Rattle.sw_isolation_rules.proofs.Noted.{EachNoted, noted_block, noted_expr}
use Rattle.sw_lower_call_facts.specs.Making.{NoteMakes}
use Rattle.sw_lower_call_facts.proofs.KindNotes.Noted.{AllMake, leaf_makes, of_used}

module _ (world : World) (answers : Answers) where
  each_makes : EachNoted world answers (NoteMakes world answers)
  each_makes = record {
    leaf = leaf_makes world answers;
    bodies = λ one. tt;
    vars = λ key. tt;
    uses = of_used world answers;
  }

  pub expr_makes : (e : Expr) (context : Context) (listed : List ℕ)
      → AllMake world answers ((see world answers e).notes context listed)
  expr_makes = noted_expr world answers (NoteMakes world answers) each_makes

  pub block_makes : (block : Block) (context : Context) (listed : List ℕ)
      → AllMake world answers (block_notes world answers block context listed)
  block_makes = noted_block world answers (NoteMakes world answers) each_makes
