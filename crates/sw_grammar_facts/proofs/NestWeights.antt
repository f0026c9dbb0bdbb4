-- What the values weigh that are no trees of their own: those of nests, headers and lists of
-- members.
use Rattle.std.proofs.Common.{ℕ, ◌+◌, List, Option}
use Rattle.sw_tree.proofs.Counting.{Weight, in_all, in_option}
use Rattle.sw_tree.specs.declared.stmt.IfArm.{IfArm}
use Rattle.sw_tree.specs.declared.stmt.CaseArm.{CaseArm}
use Rattle.sw_tree.specs.declared.stmt.Block.{Block}
use Rattle.sw_grammar.specs.Nests.{Nest, El, Link, ClosureInside, IfLet, Main, Member}
use Rattle.sw_grammar.specs.Nests.Nest.{in_types, in_payload, in_result, in_task_type, in_round}
use Rattle.sw_grammar.specs.Nests.Nest.{in_args, in_member, in_empty, in_captures}
use Rattle.sw_grammar.specs.Nests.Nest.{in_closure_params, in_closure, in_task, in_block, in_switch}
use Rattle.sw_grammar.specs.Nests.Nest.{in_if_let, in_patterns, in_params, in_isolation, in_entry}
use Rattle.sw_grammar.specs.Nests.Nest.{in_global_actor, in_struct, in_enum, in_class}
use Rattle.sw_grammar.specs.Nests.Member.{property, initialiser, function, cases}
use Rattle.sw_grammar.specs.Closures.{Header, Signature}
use Rattle.sw_grammar.specs.Types.{Typed, tree_of}
use Rattle.sw_grammar_facts.proofs.Owning.{none}
use Rattle.sw_grammar_facts.proofs.Weighing.{Weighing}

module _ {id_of : List ℕ → ℕ} (w : Weighing id_of) where
  -- a member after its `.`
  abbrev pub dotted : Link → Weight
  dotted link k = w.node link.0 k + in_option (in_all w.arg) link.1 k

  abbrev pub of_typed : Typed → Weight
  of_typed written = w.type written.tree

  -- a type that may be left out
  abbrev pub of_typed_if : Option Typed → Weight
  of_typed_if written = in_option w.type (tree_of written)

  abbrev pub signed : Signature → Weight
  signed signature k = in_all w.closure_param signature.0 k + of_typed_if signature.1 k

  abbrev pub headed : Header → Weight
  headed header k =
      in_option w.label header.mark k + in_all w.node header.captures k
      + in_all w.closure_param header.params k + of_typed_if header.result k

  -- the headers of tasks, and what stands in tasks
  abbrev pub task_signed : Signature → Weight
  task_signed signature k = signed signature k + in_all w.task_param signature.0 k

  abbrev pub task_headed : Header → Weight
  task_headed header k = headed header k + in_all w.task_param header.params k

  abbrev pub tasked : ClosureInside → Weight
  tasked it k = w.inside it k + in_all w.task_param it.params k

  abbrev pub armed : List IfArm × Option Block → Weight
  armed arms k = in_all w.if_arm arms.0 k + in_option w.block arms.1 k

  abbrev pub cased : List CaseArm × Option Block → Weight
  cased arms k = in_all w.case_arm arms.0 k + in_option w.block arms.1 k

  abbrev pub if_let_weight : IfLet → Weight
  if_let_weight it k =
      w.expr it.subject k + w.for_block it.name it.chosen k + w.block it.otherwise k

  abbrev pub entered : Main → Weight
  entered main k = w.written main.written k + w.entry main.at k + w.block main.body k

  abbrev pub member : Member → Weight
  member (property tree) = w.prop tree
  member (initialiser tree) = w.init tree
  member (function tree) = w.func tree
  member (cases trees) = in_all w.case trees

  -- what stands in each nest
  abbrev pub weight : (n : Nest) → El n → Weight
  weight in_types = in_all w.type
  weight in_payload = in_all w.type
  weight in_result = w.type
  weight in_task_type = w.type
  weight (in_round here) = w.expr
  weight (in_args here) = in_all w.arg
  weight (in_member here) = in_all dotted
  weight in_empty = λ at. none
  weight in_captures = in_all w.node
  weight (in_closure_params here) = in_all w.closure_param
  weight (in_closure here) = w.inside
  weight (in_task here) = tasked
  weight (in_block here) = w.stmts
  weight (in_switch here) = cased
  weight (in_if_let here) = if_let_weight
  weight (in_patterns here) = in_all w.pattern
  weight in_params = in_all w.param
  weight in_isolation = λ at. none
  weight in_entry = entered
  weight in_global_actor = w.label
  weight in_struct = in_all member
  weight in_enum = in_all member
  weight in_class = in_all member
