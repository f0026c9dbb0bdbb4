-- No body that is noted of a tree has a key that is not among the tree's.
use Rattle.std.proofs.Common.{◌≡◌, ℕ, List, arith}
use Rattle.sw_tree.specs.Keys.{Keys, block_keys, expr_keys}
use Rattle.sw_tree.specs.declared.expr.Expr.{Expr}
use Rattle.sw_tree.specs.declared.stmt.Block.{Block}
use Rattle.sw_tree.proofs.Counting.{count, hits}
use Rattle.sw_typing_rules.specs.Worlds.{World}
use Rattle.sw_isolation_rules.specs.Answers.{Answers}
use Rattle.sw_isolation_rules.specs.Noting.{Notes, block_notes, see}
use Rattle.sw_isolation_rules.specs.declared.note.BodyIso.{BodyIso}
use Rattle.sw_isolation_rules.specs.declared.uses.Context.{Context}
use Rattle.sw_isolation_facts.proofs.EachNoted.{EachFits, each_noted}
use Rattle.sw_isolation_facts.proofs.NotedTrees.{block_goes, expr_goes}
use Rattle.sw_lower_first_facts.specs.Isolated.{BodiesAre, BodyIs}
use Rattle.sw_lower_first_facts.proofs.Isolated.Noting.{leaf_bodies}

module _ (P : BodyIso → Type 0) (key : ℕ)
    (other : (body : BodyIso) → hits body.key key ≡ 0 → P body)
  where
    -- what is noted, where the key is none of these
    abbrev pub Apart : Notes → Keys → Type 0
    Apart notes keys = count keys key ≡ 0 → (context : Context) (listed : List ℕ)
        → BodiesAre P (notes context listed)

    module _ (world : World) (answers : Answers) where
      apart : EachFits world answers (BodyIs P) (λ context keys. keys key ≡ 0)
      apart = record {
        leaf = leaf_bodies P;
        kinds = λ at kind. tt;
        vars = λ at. tt;
        fewer = λ context some all within none. omega (arith, within key, none);
        awaited = λ context keys none. none;
        closures = λ context at keys none.
            (other _ (omega (arith, none)), omega (arith, none));
        tasks = λ context at mark detached keys none.
            (other _ (omega (arith, none)), omega (arith, none));
      }

      -- what is noted of expressions and blocks
      pub expr_apart : (e : Expr) → Apart (see world answers e).notes (expr_keys e)
      unfolding each_noted
      expr_apart e none context listed =
          (expr_goes world answers (each_noted apart) e).notes context listed none

      pub block_apart : (x : Block) → Apart (block_notes world answers x) (block_keys x)
      unfolding each_noted
      block_apart x none context listed =
          block_goes world answers (each_noted apart) x context listed none
