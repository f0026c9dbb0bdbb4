-- Which tokens blocks, expressions and types have doesn't depend on the indices of names.
use Rattle.std.proofs.Common.{ℕ, Bool, List}
use Rattle.sw_grammar_forms.specs.Reader.{Reader}
use Rattle.sw_grammar_forms.proofs.Alike.{Alike, Any, alike_inside}
use Rattle.sw_grammar.specs.Around.{Here, around_in, nowhere}
use Rattle.sw_grammar.specs.Nests.{Nest, El, shape_of}
use Rattle.sw_grammar.specs.Nests.Nest.{in_types, in_payload, in_result, in_task_type, in_round}
use Rattle.sw_grammar.specs.Nests.Nest.{in_args, in_member, in_empty, in_captures}
use Rattle.sw_grammar.specs.Nests.Nest.{in_closure_params, in_closure, in_task, in_block, in_switch}
use Rattle.sw_grammar.specs.Nests.Nest.{in_if_let, in_patterns, in_params, in_isolation, in_entry}
use Rattle.sw_grammar.specs.Nests.Nest.{in_global_actor, in_struct, in_enum, in_class}
use Rattle.sw_grammar_forms.specs.Spells.{read_inside}
use Rattle.sw_grammar.specs.Grammar.{body}
use Rattle.sw_grammar.specs.Reading.{read}
use Rattle.sw_grammar.specs.Types.{type}
use Rattle.sw_grammar.specs.Exprs.{expr}
use Rattle.sw_grammar.specs.Stmts.{block}
use Rattle.sw_grammar.proofs.TypesAlike.{NestAlike, OfBody, SameForm, same_types, same_type}
use Rattle.sw_grammar.proofs.TypesAlike.{same_task_inner}
use Rattle.sw_grammar.proofs.ExprsAlike.{same_round, same_args, same_member, same_nothing}
use Rattle.sw_grammar.proofs.ExprsAlike.{same_expr}
use Rattle.sw_grammar.proofs.ClosuresAlike.{same_captured_words, same_closure_params}
use Rattle.sw_grammar.proofs.StmtsAlike.{same_block, same_statements, same_closure_inside}
use Rattle.sw_grammar.proofs.StmtsAlike.{same_task_inside, same_patterns_inside}
use Rattle.sw_grammar.proofs.StmtsAlike.{same_switch_inside, same_if_let_inside}

module _ (f g : List ℕ → ℕ) where
  same_bodies : (depth : ℕ) (F G : (n : Nest) → Reader (El n))
      → ((n : Nest) → OfBody n → Alike (NestAlike n) (F n) (G n)) → (n : Nest) → OfBody n
      → SameForm depth F G (NestAlike n) (body f n) (body g n)
  same_bodies depth F G nests in_types of_body = same_types f g nowhere depth F G nests
  same_bodies depth F G nests in_payload of_body = absurd of_body
  same_bodies depth F G nests in_result of_body = same_type f g nowhere depth F G nests
  same_bodies depth F G nests in_task_type of_body = same_task_inner f g nowhere depth F G nests
  same_bodies depth F G nests (in_round here) of_body = same_round f g here depth F G nests
  same_bodies depth F G nests (in_args here) of_body = same_args f g here depth F G nests
  same_bodies depth F G nests (in_member here) of_body = same_member f g here depth F G nests
  same_bodies depth F G nests in_empty of_body = same_nothing f g nowhere depth F G
  same_bodies depth F G nests in_captures of_body = same_captured_words f g nowhere depth F G
  same_bodies depth F G nests (in_closure_params here) of_body =
      same_closure_params f g here depth F G nests
  same_bodies depth F G nests (in_closure here) of_body = same_closure_inside f g here depth F G nests
  same_bodies depth F G nests (in_task here) of_body = same_task_inside f g here depth F G nests
  same_bodies depth F G nests (in_block here) of_body = same_statements f g here depth F G nests
  same_bodies depth F G nests (in_switch here) of_body = same_switch_inside f g here depth F G nests
  same_bodies depth F G nests (in_if_let here) of_body = same_if_let_inside f g here depth F G nests
  same_bodies depth F G nests (in_patterns here) of_body = same_patterns_inside f g here depth F G
  same_bodies depth F G nests in_params of_body = absurd of_body
  same_bodies depth F G nests in_isolation of_body = absurd of_body
  same_bodies depth F G nests in_entry of_body = absurd of_body
  same_bodies depth F G nests in_global_actor of_body = absurd of_body
  same_bodies depth F G nests in_struct of_body = absurd of_body
  same_bodies depth F G nests in_enum of_body = absurd of_body
  same_bodies depth F G nests in_class of_body = absurd of_body

  insides_alike : (depth : ℕ) (n : Nest) → OfBody n → Alike (NestAlike n)
      (read_inside El shape_of (body f) depth n) (read_inside El shape_of (body g) depth n)
  insides_alike depth n of_body =
      alike_inside El shape_of (body f) (body g) OfBody NestAlike same_bodies depth n of_body

  pub blocks_alike : (here : Here) (depth : ℕ) → Alike Any
      (read (around_in f here) depth (block (around_in f here)))
      (read (around_in g here) depth (block (around_in g here)))
  blocks_alike here depth =
      (same_block f g here depth (read_inside El shape_of (body f) depth)
      (read_inside El shape_of (body g) depth) (insides_alike depth)).answers

  pub exprs_alike : (here : Here) (depth : ℕ) (closures : Bool) → Alike Any
      (read (around_in f here) depth (expr (around_in f here) closures))
      (read (around_in g here) depth (expr (around_in g here) closures))
  exprs_alike here depth closures =
      (same_expr f g here depth (read_inside El shape_of (body f) depth)
      (read_inside El shape_of (body g) depth) (insides_alike depth) closures).answers

  pub types_alike : (here : Here) (depth : ℕ) → Alike Any
      (read (around_in f here) depth (type (around_in f here)))
      (read (around_in g here) depth (type (around_in g here)))
  types_alike here depth =
      (same_type f g here depth (read_inside El shape_of (body f) depth)
      (read_inside El shape_of (body g) depth) (insides_alike depth)).answers
