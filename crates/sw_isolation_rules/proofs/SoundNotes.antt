-- What is noted of a tree is sound.
use Rattle.std.proofs.Common.{ℕ, List}
use Rattle.sw_tree.specs.declared.expr.Expr.{Expr}
use Rattle.sw_tree.specs.declared.stmt.Block.{Block}
use Rattle.sw_typing_rules.specs.Worlds.{World}
use Rattle.sw_isolation_rules.specs.Answers.{Answers}
use Rattle.sw_isolation_rules.specs.Noting.{block_notes, see, used_at}
use Rattle.sw_isolation_rules.specs.declared.uses.Context.{Context}
use Rattle.sw_isolation_rules.proofs.Noted.{EachNoted, noted_block, noted_expr}
use Rattle.sw_isolation_rules.proofs.NotedUses.{of_use}
use Rattle.sw_isolation_rules.proofs.Sound.{AreSound, IsSound, leaf_sound}

module _ (world : World) (answers : Answers) where
  each_sound : EachNoted world answers IsSound
  each_sound = record {
    leaf = leaf_sound;
    bodies = λ one. tt;
    vars = λ key. tt;
    uses = λ context base at.
        of_use IsSound leaf_sound context at (used_at world answers context base at) (λ kind. tt);
  }

  pub sound_expr : (e : Expr) (context : Context) (listed : List ℕ)
      → AreSound ((see world answers e).notes context listed)
  sound_expr = noted_expr world answers IsSound each_sound

  pub sound_block : (block : Block) (context : Context) (listed : List ℕ)
      → AreSound (block_notes world answers block context listed)
  sound_block = noted_block world answers IsSound each_sound
