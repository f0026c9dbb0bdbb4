use Rattle.std.proofs.Common.{rules, ◌++◌, ◌∙◌, ap, sym}
use Rattle.sw_isolation_table.specs.Known.{answers_of}
use Rattle.sw_tree.specs.declared.expr.Arg.{out-Arg}
use Rattle.sw_tree.specs.declared.expr.Link.{out-Link}
use Rattle.sw_tree.specs.declared.stmt.CaseArm.{out-CaseArm}
use Rattle.sw_isolation_rules.specs.Noting.{block_notes, see, stmt_notes}
use Rattle.sw_typing_rules.specs.Worlds.{world_of}
use Rattle.sw_isolation_walk.proofs.Adding.{alone, both, none, one_more, two}
use Rattle.sw_isolation_walk.proofs.Forms as forms
use Rattle.sw_isolation_walk.proofs.Wholes as wholes
use Rattle.sw_isolation_walk.specs.Walked.{if_arm_noted}
use Rattle.sw_isolation_walk.proofs.walk.+walk.Goals as goal

pub expr-returns-in-Use-clause-notes : goal.expr-returns-in-Use-clause-notes
expr-returns-in-Use-clause-notes t c =
    let world = world_of c.args.world.now in
    let answers = answers_of c.args.typed.now in
    alone c.word_notes.result c.args.notes.now c.word_notes.new.notes _ _
    (wholes.expr_whole world answers c.args.context c.args.listed.now c.args.tree.now _ _
    c.in-Use.is (forms.use_is world answers c.args.context c.args.listed.now c.in-Use.name))
    c.word_notes.ensures

pub expr-returns-in-Me-clause-notes : goal.expr-returns-in-Me-clause-notes
expr-returns-in-Me-clause-notes t c =
    let world = world_of c.args.world.now in
    let answers = answers_of c.args.typed.now in
    alone c.mention_self.result c.args.notes.now c.mention_self.new.notes _ _
    (wholes.expr_whole world answers c.args.context c.args.listed.now c.args.tree.now _ _
    c.in-Me.is (forms.me_is world answers c.args.context c.args.listed.now c.in-Me.at))
    c.mention_self.ensures

pub expr-returns-in_ok-expr-in-Member-clause-notes :
    goal.expr-returns-in_ok-expr-in-Member-clause-notes
expr-returns-in_ok-expr-in-Member-clause-notes t c =
    let world = world_of c.args.world.now in
    let answers = answers_of c.args.typed.now in
    two c.member_notes.result c.args.notes.now c.expr.new.notes c.member_notes.new.notes _ _ _
    c.in_ok-expr-in-Member.ensures.notes
    (wholes.member_whole world answers c.args.context c.args.listed.now c.args.tree.now
    c.in-Member.base c.get-base.result.now c.in-Member.name c.base_at-known.result
    c.in-Member.is (search rules) (c.base_at-known.ensures world))
    c.member_notes.ensures

pub expr-returns-in_ok-word_notes-in-Call-clause-notes :
    goal.expr-returns-in_ok-word_notes-in-Call-clause-notes
expr-returns-in_ok-word_notes-in-Call-clause-notes t c =
    let world = world_of c.args.world.now in
    let answers = answers_of c.args.typed.now in
    two c.arguments.result c.args.notes.now c.word_notes-in-Call.new.notes
    c.arguments.new.notes _ _ _ c.in_ok-word_notes-in-Call.ensures
    (wholes.call_whole world answers c.args.context c.args.listed.now c.args.tree.now
    c.in-Call.name c.in-Call.args c.as_slice-args.result.now c.in-Call.is (search rules))
    c.arguments.ensures.notes

pub expr-returns-in_ok-member_notes-in-Method-clause-notes :
    goal.expr-returns-in_ok-member_notes-in-Method-clause-notes
expr-returns-in_ok-member_notes-in-Method-clause-notes t c =
    let world = world_of c.args.world.now in
    let answers = answers_of c.args.typed.now in
    two c.arguments-in-Method.result c.args.notes.now c.member_notes-in-Method.new.notes
    c.arguments-in-Method.new.notes _ _ _
    (both c.args.notes.now c.expr-in-Method.new.notes c.member_notes-in-Method.new.notes _ _
    c.in_ok-expr-in-Method.ensures.notes c.in_ok-member_notes-in-Method.ensures)
    (wholes.method_whole world answers c.args.context c.args.listed.now c.args.tree.now
    c.in-Method.base c.get-base-in-Method.result.now c.in-Method.name c.in-Method.args
    c.as_slice-args-in-Method.result.now c.base_at-known-in-Method.result
    c.expr-in-Method.new.listed c.in-Method.is (search rules) (search rules)
    (c.base_at-known-in-Method.ensures world) c.in_ok-expr-in-Method.ensures.listed)
    c.arguments-in-Method.ensures.notes

pub expr-returns-in_ok-expr-in-Chain-clause-notes :
    goal.expr-returns-in_ok-expr-in-Chain-clause-notes
expr-returns-in_ok-expr-in-Chain-clause-notes t c =
    let world = world_of c.args.world.now in
    let answers = answers_of c.args.typed.now in
    two c.links.result c.args.notes.now c.expr-in-Chain.new.notes c.links.new.notes _ _ _
    c.in_ok-expr-in-Chain.ensures.notes
    (wholes.chain_whole world answers c.args.context c.args.listed.now c.args.tree.now
    c.in-Chain.first c.get.result.now c.in-Chain.rest c.as_slice.result.now
    c.expr-in-Chain.new.listed c.in-Chain.is (search rules) (search rules)
    c.in_ok-expr-in-Chain.ensures.listed)
    c.links.ensures.notes

pub expr-returns-in-Prefix-clause-notes : goal.expr-returns-in-Prefix-clause-notes
expr-returns-in-Prefix-clause-notes t c =
    let world = world_of c.args.world.now in
    let answers = answers_of c.args.typed.now in
    alone c.expr-in-Prefix.result c.args.notes.now c.expr-in-Prefix.new.notes _ _
    (wholes.prefix_whole world answers c.args.context c.args.listed.now c.args.tree.now
    c.in-Prefix.inner c.get-in-Prefix.result.now _ _ c.in-Prefix.is (search rules))
    c.expr-in-Prefix.ensures.notes

pub expr-returns-in-Await-clause-notes : goal.expr-returns-in-Await-clause-notes
expr-returns-in-Await-clause-notes t c =
    let world = world_of c.args.world.now in
    let answers = answers_of c.args.typed.now in
    alone c.expr-in-Await.result c.args.notes.now c.expr-in-Await.new.notes _ _
    (wholes.await_whole world answers c.args.context c.args.listed.now c.args.tree.now
    c.in-Await.inner c.get-in-Await.result.now _ c.in_await-context.result c.in-Await.is
    (search rules) c.in_await-context.ensures)
    c.expr-in-Await.ensures.notes

pub expr-returns-in-Fun-clause-notes : goal.expr-returns-in-Fun-clause-notes
expr-returns-in-Fun-clause-notes t c =
    let world = world_of c.args.world.now in
    let answers = answers_of c.args.typed.now in
    alone c.fun.result c.args.notes.now c.fun.new.notes _ _
    (wholes.fun_whole world answers c.args.context c.args.listed.now c.args.tree.now
    c.in-Fun.tree c.get-in-Fun.result.now c.in-Fun.is (search rules))
    c.fun.ensures.notes

pub expr-returns-in-Spawn-clause-notes : goal.expr-returns-in-Spawn-clause-notes
expr-returns-in-Spawn-clause-notes t c =
    let world = world_of c.args.world.now in
    let answers = answers_of c.args.typed.now in
    alone c.task.result c.args.notes.now c.task.new.notes _ _
    (wholes.spawn_whole world answers c.args.context c.args.listed.now c.args.tree.now
    c.in-Spawn.body c.get-in-Spawn.result.now c.in-Spawn.at c.in-Spawn.detached c.in-Spawn.is
    (search rules))
    c.task.ensures.notes

pub expr-returns-in-Yield-clause-notes : goal.expr-returns-in-Yield-clause-notes
expr-returns-in-Yield-clause-notes t c =
    let world = world_of c.args.world.now in
    let answers = answers_of c.args.typed.now in
    alone c.await_notes.result c.args.notes.now c.await_notes.new.notes _ _
    (wholes.expr_whole world answers c.args.context c.args.listed.now c.args.tree.now _ _
    c.in-Yield.is (forms.yield_is world answers c.args.context c.args.listed.now c.in-Yield.at))
    c.await_notes.ensures

pub before-returns-in-Use-clause-notes : goal.before-returns-in-Use-clause-notes
before-returns-in-Use-clause-notes t c =
    let world = world_of c.args.world.now in
    let answers = answers_of c.args.typed.now in
    alone c.mention_word.result c.args.notes.now c.mention_word.new.notes _ _
    (wholes.place_whole world answers c.args.context c.args.listed.now c.args.tree.now _ _
    c.in-Use.is (forms.use_before world answers c.args.context c.args.listed.now c.in-Use.name))
    c.mention_word.ensures

pub before-returns-in-Me-clause-notes : goal.before-returns-in-Me-clause-notes
before-returns-in-Me-clause-notes t c =
    let world = world_of c.args.world.now in
    let answers = answers_of c.args.typed.now in
    alone c.mention_self.result c.args.notes.now c.mention_self.new.notes _ _
    (wholes.place_whole world answers c.args.context c.args.listed.now c.args.tree.now _ _
    c.in-Me.is (forms.me_before world answers c.args.context c.args.listed.now c.in-Me.at))
    c.mention_self.ensures

pub before-returns-in-Member-clause-notes : goal.before-returns-in-Member-clause-notes
before-returns-in-Member-clause-notes t c =
    let world = world_of c.args.world.now in
    let answers = answers_of c.args.typed.now in
    alone c.expr.result c.args.notes.now c.expr.new.notes _ _
    (wholes.member_place_whole world answers c.args.context c.args.listed.now c.args.tree.now
    c.in-Member.base c.get.result.now _ c.in-Member.is (search rules))
    c.expr.ensures.notes

pub closure-returns-clause-notes : goal.closure-returns-clause-notes
closure-returns-clause-notes t c =
    let world = world_of c.args.world.now in
    let answers = answers_of c.args.typed.now in
    c.in_ok-close.ensures
    ∙ ap (λ notes. c.args.notes.now ++ notes)
    (sym (wholes.inside_whole world answers c.args.context c.args.listed.now c.args.tree.now
    c.as_slice-words.result.now c.list_words.new.listed c.block.new.listed
    c.mention_list.new.notes c.block.new.notes (search rules) c.in_ok-list_words.ensures
    c.in_ok-block.ensures.listed (search rules) c.in_ok-block.ensures.notes))

pub block-returns-clause-notes : goal.block-returns-clause-notes
block-returns-clause-notes t c =
    let world = world_of c.args.world.now in
    let answers = answers_of c.args.typed.now in
    alone c.stmts.result c.args.notes.now c.stmts.new.notes _ _
    (wholes.block_whole world answers c.args.context c.args.listed.now c.args.tree.now
    c.as_slice-trees.result.now (search rules))
    c.stmts.ensures.notes

pub if_arm-returns-clause-notes : goal.if_arm-returns-clause-notes
if_arm-returns-clause-notes t c =
    let world = world_of c.args.world.now in
    let answers = answers_of c.args.typed.now in
    two c.block.result c.args.notes.now c.expr.new.notes c.block.new.notes _ _ _
    c.in_ok-expr.ensures.notes
    (wholes.if_arm_whole world answers c.args.context c.args.listed.now c.args.tree.now
    c.expr.new.listed c.in_ok-expr.ensures.listed)
    c.block.ensures.notes

pub otherwise-returns-in-Some-clause-notes : goal.otherwise-returns-in-Some-clause-notes
otherwise-returns-in-Some-clause-notes t c =
    let world = world_of c.args.world.now in
    let answers = answers_of c.args.typed.now in
    alone c.block.result c.args.notes.now c.block.new.notes _ _
    (wholes.otherwise_whole world answers c.args.context c.args.listed.now c.args.tree.now
    c.in-Some.tree c.in-Some.is)
    c.block.ensures.notes

pub stmt-returns-in_ok-var_notes-in-Bind-clause-notes :
    goal.stmt-returns-in_ok-var_notes-in-Bind-clause-notes
stmt-returns-in_ok-var_notes-in-Bind-clause-notes t c =
    let world = world_of c.args.world.now in
    let answers = answers_of c.args.typed.now in
    two c.expr.result c.args.notes.now c.var_notes.new.notes c.expr.new.notes _ _ _
    c.in_ok-var_notes-in-Bind.ensures
    (wholes.stmt_whole world answers c.args.context c.args.listed.now c.args.tree.now _ _
    c.in-Bind.is (forms.bind_is world answers c.args.context c.args.listed.now
    c.in-Bind.mutable c.in-Bind.name _ c.in-Bind.value))
    c.expr.ensures.notes

pub stmt-returns-in_ok-place-in-Assign-clause-notes :
    goal.stmt-returns-in_ok-place-in-Assign-clause-notes
stmt-returns-in_ok-place-in-Assign-clause-notes t c =
    let world = world_of c.args.world.now in
    let answers = answers_of c.args.typed.now in
    two c.expr-in-Assign.result c.args.notes.now c.place.new.notes c.expr-in-Assign.new.notes
    _ _ _ c.in_ok-place-in-Assign.ensures.notes
    (wholes.assign_whole world answers c.args.context c.args.listed.now c.args.tree.now _
    c.in-Assign.op c.in-Assign.left c.in-Assign.value c.place.new.listed c.in-Assign.is
    c.in_ok-place-in-Assign.ensures.listed)
    c.expr-in-Assign.ensures.notes

pub stmt-returns-in-Discard-clause-notes : goal.stmt-returns-in-Discard-clause-notes
stmt-returns-in-Discard-clause-notes t c =
    let world = world_of c.args.world.now in
    let answers = answers_of c.args.typed.now in
    alone c.expr-in-Discard.result c.args.notes.now c.expr-in-Discard.new.notes _ _
    (wholes.stmt_whole world answers c.args.context c.args.listed.now c.args.tree.now _ _
    c.in-Discard.is (forms.discard_is world answers c.args.context c.args.listed.now _
    c.in-Discard.value))
    c.expr-in-Discard.ensures.notes

pub stmt-returns-in_ok-if_arms-in-If-clause-notes :
    goal.stmt-returns-in_ok-if_arms-in-If-clause-notes
stmt-returns-in_ok-if_arms-in-If-clause-notes t c =
    let world = world_of c.args.world.now in
    let answers = answers_of c.args.typed.now in
    two c.otherwise.result c.args.notes.now c.if_arms.new.notes c.otherwise.new.notes _ _ _
    c.in_ok-if_arms-in-If.ensures.notes
    (wholes.if_whole world answers c.args.context c.args.listed.now c.args.tree.now
    c.in-If.arms c.as_slice-arms.result.now c.in-If.last c.if_arms.new.listed c.in-If.is
    (search rules) c.in_ok-if_arms-in-If.ensures.listed)
    c.otherwise.ensures.notes

pub stmt-returns-in_ok-expr-in-While-clause-notes :
    goal.stmt-returns-in_ok-expr-in-While-clause-notes
stmt-returns-in_ok-expr-in-While-clause-notes t c =
    let world = world_of c.args.world.now in
    let answers = answers_of c.args.typed.now in
    two c.block.result c.args.notes.now c.expr-in-While.new.notes c.block.new.notes _ _ _
    c.in_ok-expr-in-While.ensures.notes
    (wholes.while_whole world answers c.args.context c.args.listed.now c.args.tree.now _
    c.in-While.cond c.in-While.body c.expr-in-While.new.listed c.in-While.is
    c.in_ok-expr-in-While.ensures.listed)
    c.block.ensures.notes

pub stmt-returns-in_ok-case_arms-in-Switch-clause-notes :
    goal.stmt-returns-in_ok-case_arms-in-Switch-clause-notes
stmt-returns-in_ok-case_arms-in-Switch-clause-notes t c =
    let world = world_of c.args.world.now in
    let answers = answers_of c.args.typed.now in
    two c.otherwise-in-Switch.result c.args.notes.now c.case_arms.new.notes
    c.otherwise-in-Switch.new.notes _ _ _
    (both c.args.notes.now c.expr-in-Switch.new.notes c.case_arms.new.notes _ _
    c.in_ok-expr-in-Switch.ensures.notes c.in_ok-case_arms-in-Switch.ensures.notes)
    (wholes.switch_whole world answers c.args.context c.args.listed.now c.args.tree.now _
    c.in-Switch.subject c.in-Switch.arms c.as_slice-arms-in-Switch.result.now c.in-Switch.last
    c.expr-in-Switch.new.listed c.case_arms.new.listed c.in-Switch.is (search rules)
    c.in_ok-expr-in-Switch.ensures.listed c.in_ok-case_arms-in-Switch.ensures.listed)
    c.otherwise-in-Switch.ensures.notes

pub stmt-returns-in-None-clause-notes : goal.stmt-returns-in-None-clause-notes
stmt-returns-in-None-clause-notes t c =
    let world = world_of c.args.world.now in
    let answers = answers_of c.args.typed.now in
    none c.args.notes.now _
    (wholes.void_whole world answers c.args.context c.args.listed.now c.args.tree.now _
    c.in-Return.value c.in-Return.is c.in-None.is)

pub stmt-returns-in-Some-clause-notes : goal.stmt-returns-in-Some-clause-notes
stmt-returns-in-Some-clause-notes t c =
    let world = world_of c.args.world.now in
    let answers = answers_of c.args.typed.now in
    alone c.expr-in-Some.result c.args.notes.now c.expr-in-Some.new.notes _ _
    (wholes.return_whole world answers c.args.context c.args.listed.now c.args.tree.now _
    c.in-Return.value c.in-Some.value c.in-Return.is c.in-Some.is)
    c.expr-in-Some.ensures.notes

pub stmt-returns-in-Plain-clause-notes : goal.stmt-returns-in-Plain-clause-notes
stmt-returns-in-Plain-clause-notes t c =
    let world = world_of c.args.world.now in
    let answers = answers_of c.args.typed.now in
    alone c.expr-in-Plain.result c.args.notes.now c.expr-in-Plain.new.notes _ _
    (wholes.stmt_whole world answers c.args.context c.args.listed.now c.args.tree.now _ _
    c.in-Plain.is (forms.plain_is world answers c.args.context c.args.listed.now
    c.in-Plain.value))
    c.expr-in-Plain.ensures.notes

pub arguments-loop-arg-preserved : goal.arguments-loop-arg-preserved
arguments-loop-arg-preserved t c =
    let world = world_of c.args.world.now in
    let answers = answers_of c.args.typed.now in (
      one_more c.args.notes.now c.loop-arg.notes c.expr.new.notes _ _ _ _
          (c.in_ok-expr.ensures.notes ∙ ap (λ listed. c.loop-arg.notes
          ++ (see world answers (out-Arg c.arg-item.result).value).notes c.args.context listed)
          c.loop-arg.invariant.1)
          (wholes.args_next world answers c.args.context c.args.listed.now c.args.args.now
          c.loop-arg.arg-index c.arg-item.result (search rules) c.arg-item.is)
          c.loop-arg.invariant.0,
      c.in_ok-expr.ensures.listed ∙ c.loop-arg.invariant.1,
    )

pub links-loop-link-preserved : goal.links-loop-link-preserved
links-loop-link-preserved t c =
    let world = world_of c.args.world.now in
    let answers = answers_of c.args.typed.now in (
      one_more c.args.notes.now c.loop-link.notes c.expr.new.notes _ _ _ _
          (c.in_ok-expr.ensures.notes ∙ ap (λ listed. c.loop-link.notes
          ++ (see world answers (out-Link c.link-item.result).operand).notes c.args.context
          listed) c.loop-link.invariant.1)
          (wholes.links_next world answers c.args.context c.args.listed.now c.args.links.now
          c.loop-link.link-index c.link-item.result (search rules) c.link-item.is)
          c.loop-link.invariant.0,
      c.in_ok-expr.ensures.listed ∙ c.loop-link.invariant.1,
    )

pub stmts-loop-tree-preserved : goal.stmts-loop-tree-preserved
stmts-loop-tree-preserved t c =
    let world = world_of c.args.world.now in
    let answers = answers_of c.args.typed.now in (
      one_more c.args.notes.now c.loop-tree.notes c.stmt.new.notes _ _ _ _
          (c.in_ok-stmt.ensures.notes ∙ ap (λ listed. c.loop-tree.notes
          ++ stmt_notes world answers c.tree-item.result c.args.context listed)
          c.loop-tree.invariant.1)
          (wholes.stmts_next world answers c.args.context c.args.listed.now c.args.trees.now
          c.loop-tree.tree-index c.tree-item.result (search rules) c.tree-item.is)
          c.loop-tree.invariant.0,
      c.in_ok-stmt.ensures.listed ∙ c.loop-tree.invariant.1,
    )

pub if_arms-loop-tree-preserved : goal.if_arms-loop-tree-preserved
if_arms-loop-tree-preserved t c =
    let world = world_of c.args.world.now in
    let answers = answers_of c.args.typed.now in (
      one_more c.args.notes.now c.loop-tree.notes c.if_arm.new.notes _ _ _ _
          (c.in_ok-if_arm.ensures.notes ∙ ap (λ listed. c.loop-tree.notes
          ++ if_arm_noted world answers c.tree-item.result c.args.context listed)
          c.loop-tree.invariant.1)
          (wholes.if_arms_next world answers c.args.context c.args.listed.now c.args.trees.now
          c.loop-tree.tree-index c.tree-item.result (search rules) c.tree-item.is)
          c.loop-tree.invariant.0,
      c.in_ok-if_arm.ensures.listed ∙ c.loop-tree.invariant.1,
    )

pub case_arms-loop-tree-preserved : goal.case_arms-loop-tree-preserved
case_arms-loop-tree-preserved t c =
    let world = world_of c.args.world.now in
    let answers = answers_of c.args.typed.now in (
      one_more c.args.notes.now c.loop-tree.notes c.block.new.notes _ _ _ _
          (c.in_ok-block.ensures.notes ∙ ap (λ listed. c.loop-tree.notes
          ++ block_notes world answers (out-CaseArm c.tree-item.result).body c.args.context
          listed) c.loop-tree.invariant.1)
          (wholes.case_arms_next world answers c.args.context c.args.listed.now
          c.args.trees.now c.loop-tree.tree-index c.tree-item.result (search rules)
          c.tree-item.is)
          c.loop-tree.invariant.0,
      c.in_ok-block.ensures.listed ∙ c.loop-tree.invariant.1,
    )
