use Rattle.std.proofs.Common.{rules, ap, sym, drop, ◌∙◌, ◌∷◌, ◌++◌, ◌+◌, ℕ, List, [], Option}
use Rattle.std.proofs.lemmas.List.{drop_more}
use Rattle.std.proofs.lemmas.Result.{on_ok_weaker}
use Rattle.std.specs.Option.{option_copied}
use Rattle.sw_tree.specs.declared.expr.Arg.{out-Arg}
use Rattle.sw_typing_rules.specs.Calls.{slots_of}
use Rattle.sw_typing_rules.specs.Expressions.{Passed}
use Rattle.sw_typing_rules.specs.Worlds.{world_of}
use Rattle.sw_typing_rules.specs.declared.scope.Var.{Var}
use Rattle.sw_typing_words.specs.Callees.{as_callee}
use Rattle.sw_typing.specs.Walked.{expr_known}
use Rattle.sw_typing_steps.specs.Steps.{known_of, setting_in, state_of}
use Rattle.sw_typing.proofs.Bodies.{closure_enclosed, closure_rows}
use Rattle.sw_typing.proofs.Ending.{plain_end, return_end, switch_end, switch_went, went_by}
use Rattle.sw_typing.proofs.Finishing.{await_whole, block_vars, chain_rows, chain_same, fun_same}
use Rattle.sw_typing.proofs.Finishing.{fun_whole, known_by, method_rows, method_same, noted_rows}
use Rattle.sw_typing.proofs.Finishing.{prefix_whole, spawn_same, spawn_whole}
use Rattle.sw_typing.proofs.Walking.{given_more, passed_step, rows_more}
use Rattle.sw_typing.proofs.walk.+walk.Goals as goal

pub block-returns-clause-vars : goal.block-returns-clause-vars
block-returns-clause-vars t c =
    block_vars (world_of c.args.world.now) c.args.tree.now c.args.inside c.with_only-inside.result
    (state_of c.args.table.now) c.as_slice-2.result.now c.len-depth.result c.stmts.new.table
    c.truncate.new.self (search rules) (search rules) c.in_ok-went.ensures.state (search rules)
    (search rules)

pub expr-returns-in_ok-given-in-Method-clause-known :
    goal.expr-returns-in_ok-given-in-Method-clause-known
expr-returns-in_ok-given-in-Method-clause-known t c =
    known_by c.call-in-Method.result _ _
    (method_same (world_of c.args.world.now) c.args.tree.now c.in-Method.base
    c.get-in-Method.result.now c.in-Method.name c.in-Method.args c.as_slice-in-Method.result.now
    c.args.owner c.args.expected
    (as_callee (world_of c.args.world.now) c.in_ok-callee-in-Method.callee)
    c.in_ok-given-in-Method.given c.callee_of.new.table c.args.table.now c.in-Method.is
    (search rules) (search rules) c.in_ok-callee-in-Method.ensures.callee
    c.in_ok-callee-in-Method.ensures.vars c.in_ok-given-in-Method.ensures.given)
    c.call-in-Method.ensures.known

pub expr-returns-in_ok-given-in-Method-clause-rows :
    goal.expr-returns-in_ok-given-in-Method-clause-rows
expr-returns-in_ok-given-in-Method-clause-rows t c =
    method_rows (world_of c.args.world.now) c.args.tree.now c.in-Method.base
    c.get-in-Method.result.now c.in-Method.name c.in-Method.args c.as_slice-in-Method.result.now
    c.args.owner c.args.expected
    (as_callee (world_of c.args.world.now) c.in_ok-callee-in-Method.callee)
    c.in_ok-given-in-Method.given c.callee_of.new.table c.args.table.now c.in-Method.is
    (search rules) (search rules) c.in_ok-callee-in-Method.ensures.callee
    c.in_ok-callee-in-Method.ensures.vars c.in_ok-given-in-Method.ensures.given
    c.call-in-Method.result c.call-in-Method.new.table c.pass-in-Method.new.table
    c.in_ok-given-in-Method.ensures.rows c.in_ok-callee-in-Method.ensures.rows
    c.call-in-Method.ensures.noted

pub expr-returns-in_ok-first-in-Chain-clause-known :
    goal.expr-returns-in_ok-first-in-Chain-clause-known
expr-returns-in_ok-first-in-Chain-clause-known t c =
    known_by c.links.result _ _
    (ap known_of (chain_same (world_of c.args.world.now) c.args.tree.now c.in-Chain.first
    c.get-in-Chain.result.now c.in-Chain.rest c.as_slice-in-Chain.result.now c.args.owner
    c.args.expected c.in_ok-first-in-Chain.first c.len-start-in-Chain.result
    c.expr-in-Chain.new.table c.args.table.now c.in-Chain.is (search rules) (search rules)
    c.in_ok-first-in-Chain.ensures.known c.in_ok-first-in-Chain.ensures.rows (search rules)
    c.in_ok-first-in-Chain.ensures.vars))
    c.links.ensures.known

pub expr-returns-in_ok-first-in-Chain-clause-rows :
    goal.expr-returns-in_ok-first-in-Chain-clause-rows
expr-returns-in_ok-first-in-Chain-clause-rows t c =
    chain_rows (world_of c.args.world.now) c.links.result c.links.new.table
    c.expr-in-Chain.new.table c.args.table.now _ _ _ c.len-start-in-Chain.result
    c.in_ok-first-in-Chain.first c.in_ok-first-in-Chain.ensures.known
    c.in_ok-first-in-Chain.ensures.rows (search rules)
    (chain_same (world_of c.args.world.now) c.args.tree.now c.in-Chain.first
    c.get-in-Chain.result.now c.in-Chain.rest c.as_slice-in-Chain.result.now c.args.owner
    c.args.expected c.in_ok-first-in-Chain.first c.len-start-in-Chain.result
    c.expr-in-Chain.new.table c.args.table.now c.in-Chain.is (search rules) (search rules)
    c.in_ok-first-in-Chain.ensures.known c.in_ok-first-in-Chain.ensures.rows (search rules)
    c.in_ok-first-in-Chain.ensures.vars)
    c.links.ensures.rows

pub expr-returns-in_ok-inner-in-Prefix-clause-rows :
    goal.expr-returns-in_ok-inner-in-Prefix-clause-rows
expr-returns-in_ok-inner-in-Prefix-clause-rows t c =
    noted_rows c.prefix.result c.prefix.new.table c.expr-in-Prefix.new.table c.args.table.now _ _ _
    c.in_ok-inner-in-Prefix.ensures.rows
    (prefix_whole (world_of c.args.world.now) c.args.tree.now c.in-Prefix.inner
    c.get-in-Prefix.result.now c.in-Prefix.op c.in-Prefix.at
    (setting_in c.args.owner c.args.table.now) c.args.expected c.in_ok-inner-in-Prefix.inner
    c.in-Prefix.is (search rules) c.in_ok-inner-in-Prefix.ensures.known)
    c.prefix.ensures.noted

pub expr-returns-in_ok-inner-in-Await-clause-rows :
    goal.expr-returns-in_ok-inner-in-Await-clause-rows
expr-returns-in_ok-inner-in-Await-clause-rows t c =
    noted_rows c.awaited.result c.awaited.new.table c.expr-in-Await.new.table c.args.table.now _ _ _
    c.in_ok-inner-in-Await.ensures.rows
    (await_whole (world_of c.args.world.now) c.args.tree.now c.in-Await.inner
    c.get-in-Await.result.now c.in-Await.at (setting_in c.args.owner c.args.table.now)
    c.args.expected c.in_ok-inner-in-Await.inner c.in-Await.is (search rules)
    c.in_ok-inner-in-Await.ensures.known)
    c.awaited.ensures.noted

pub expr-returns-in_ok-closed-in-Fun-clause-known :
    goal.expr-returns-in_ok-closed-in-Fun-clause-known
expr-returns-in_ok-closed-in-Fun-clause-known t c =
    known_by c.note_fun.result _ _
    (fun_same (world_of c.args.world.now) c.args.tree.now c.in-Fun.tree c.get-in-Fun.result.now
    (setting_in c.args.owner c.args.table.now) c.args.expected c.in_ok-closed-in-Fun.closed
    c.in-Fun.is (search rules) c.in_ok-closed-in-Fun.ensures.enclosed)
    c.note_fun.ensures.known

pub expr-returns-in_ok-closed-in-Fun-clause-rows :
    goal.expr-returns-in_ok-closed-in-Fun-clause-rows
expr-returns-in_ok-closed-in-Fun-clause-rows t c =
    noted_rows c.note_fun.result c.note_fun.new.table c.closure.new.table c.args.table.now _ _ _
    c.in_ok-closed-in-Fun.ensures.rows
    (fun_whole (world_of c.args.world.now) c.args.tree.now c.in-Fun.tree c.get-in-Fun.result.now
    (setting_in c.args.owner c.args.table.now) c.args.expected c.in_ok-closed-in-Fun.closed
    c.in-Fun.is (search rules) c.in_ok-closed-in-Fun.ensures.enclosed)
    c.note_fun.ensures.noted

pub expr-returns-in_ok-closed-in-Spawn-clause-known :
    goal.expr-returns-in_ok-closed-in-Spawn-clause-known
expr-returns-in_ok-closed-in-Spawn-clause-known t c =
    known_by c.note_task.result _ _
    (spawn_same (world_of c.args.world.now) c.args.tree.now c.in-Spawn.at c.in-Spawn.detached
    c.in-Spawn.body c.get-in-Spawn.result.now (setting_in c.args.owner c.args.table.now)
    c.args.expected c.in_ok-closed-in-Spawn.closed c.in-Spawn.is (search rules)
    c.in_ok-closed-in-Spawn.ensures.enclosed)
    c.note_task.ensures.known

pub expr-returns-in_ok-closed-in-Spawn-clause-rows :
    goal.expr-returns-in_ok-closed-in-Spawn-clause-rows
expr-returns-in_ok-closed-in-Spawn-clause-rows t c =
    noted_rows c.note_task.result c.note_task.new.table c.closure-in-Spawn.new.table
    c.args.table.now _ _ _ c.in_ok-closed-in-Spawn.ensures.rows
    (spawn_whole (world_of c.args.world.now) c.args.tree.now c.in-Spawn.at c.in-Spawn.detached
    c.in-Spawn.body c.get-in-Spawn.result.now (setting_in c.args.owner c.args.table.now)
    c.args.expected c.in_ok-closed-in-Spawn.closed c.in-Spawn.is (search rules)
    c.in_ok-closed-in-Spawn.ensures.enclosed)
    c.note_task.ensures.noted

pub stmt-returns-in_ok-other-in-Switch-clause-went
    : goal.stmt-returns-in_ok-other-in-Switch-clause-went
stmt-returns-in_ok-other-in-Switch-clause-went t c =
    went_by c.switch_end.result _ _
    (switch_went (world_of c.args.world.now) c.args.tree.now c.in-Switch.at c.in-Switch.subject
    c.in-Switch.arms c.as_slice-arms.result.now c.in-Switch.last c.args.inside
    c.in_switch-inside.result c.in_ok-subject-in-Switch.subject
    (option_copied c.cases_of-cases.result) c.in_ok-one-in-Switch.one c.in_ok-other-in-Switch.other
    c.beside-inner.result c.is_some-in-Switch.result c.len-start-in-Switch.result
    c.expr-in-Switch.new.table c.case_arms.new.table c.otherwise-in-Switch.new.table
    c.args.table.now c.in-Switch.is (search rules) c.in_switch-inside.ensures
    c.in_ok-subject-in-Switch.ensures.known c.in_ok-subject-in-Switch.ensures.rows
    c.in_ok-subject-in-Switch.ensures.vars c.in_ok-subject-in-Switch.ensures.returned
    (search rules) c.in_ok-one-in-Switch.ensures.went c.in_ok-one-in-Switch.ensures.rows
    c.in_ok-one-in-Switch.ensures.state c.in_ok-other-in-Switch.ensures.went
    c.in_ok-other-in-Switch.ensures.rows c.in_ok-other-in-Switch.ensures.state
    (search rules) (search rules) (search rules))
    c.switch_end.ensures.went

pub stmt-returns-in_ok-other-in-Switch-clause-rows
    : goal.stmt-returns-in_ok-other-in-Switch-clause-rows
stmt-returns-in_ok-other-in-Switch-clause-rows t c =
    switch_end (world_of c.args.world.now) c.args.tree.now c.in-Switch.at c.in-Switch.subject
    c.in-Switch.arms c.as_slice-arms.result.now c.in-Switch.last c.args.inside
    c.in_switch-inside.result c.in_ok-subject-in-Switch.subject
    (option_copied c.cases_of-cases.result) c.in_ok-one-in-Switch.one c.in_ok-other-in-Switch.other
    c.beside-inner.result c.is_some-in-Switch.result c.len-start-in-Switch.result
    c.expr-in-Switch.new.table c.case_arms.new.table c.otherwise-in-Switch.new.table
    c.args.table.now c.in-Switch.is (search rules) c.in_switch-inside.ensures
    c.in_ok-subject-in-Switch.ensures.known c.in_ok-subject-in-Switch.ensures.rows
    c.in_ok-subject-in-Switch.ensures.vars c.in_ok-subject-in-Switch.ensures.returned
    (search rules) c.in_ok-one-in-Switch.ensures.went c.in_ok-one-in-Switch.ensures.rows
    c.in_ok-one-in-Switch.ensures.state c.in_ok-other-in-Switch.ensures.went
    c.in_ok-other-in-Switch.ensures.rows c.in_ok-other-in-Switch.ensures.state
    (search rules) (search rules) (search rules)
    c.switch_end.result c.switch_end.new.table c.switch_end.ensures.left

pub stmt-returns-in_ok-value-in-Some-clause-rows : goal.stmt-returns-in_ok-value-in-Some-clause-rows
stmt-returns-in_ok-value-in-Some-clause-rows t c =
    return_end (world_of c.args.world.now) c.return_value.result c.return_value.new.table
    c.expr-in-Some.new.table c.args.table.now c.args.tree.now c.args.inside c.in-Return.at
    c.in-Return.value c.in-Some.value c.in_ok-value-in-Some.value c.marked_result-marked.result
    c.len-start-in-Some.result c.in-Return.is c.in-Some.is (search rules)
    c.in_ok-value-in-Some.ensures.known c.in_ok-value-in-Some.ensures.rows
    c.in_ok-value-in-Some.ensures.vars c.in_ok-value-in-Some.ensures.returned (search rules)
    c.return_value.ensures.left

pub stmt-returns-in_ok-value-in-Plain-clause-rows
    : goal.stmt-returns-in_ok-value-in-Plain-clause-rows
stmt-returns-in_ok-value-in-Plain-clause-rows t c =
    plain_end (world_of c.args.world.now) c.plain.result c.plain.new.table c.expr-in-Plain.new.table
    c.args.table.now c.args.tree.now c.args.inside c.in-Plain.value c.in_ok-value-in-Plain.value
    c.expects-marked.result c.len-start-in-Plain.result c.in-Plain.is (search rules)
    c.in_ok-value-in-Plain.ensures.known c.in_ok-value-in-Plain.ensures.rows
    c.in_ok-value-in-Plain.ensures.vars c.in_ok-value-in-Plain.ensures.returned (search rules)
    c.plain.ensures.left

pub pass-loop-index-preserved : goal.pass-loop-index-preserved
pass-loop-index-preserved t c =
    let world = world_of c.args.world.now in
    let slots = slots_of (as_callee world c.args.callee.now) in
    let here = setting_in c.args.owner c.args.table.now in
    let passed = passed_step world c.args.args.now slots c.loop-index.index
    c.index-args-index.result here c.in_ok-value.value c.is_marked_at-marked.result
    (drop_more c.args.args.now c.loop-index.index c.index-args-index.result (search rules)
    ∙ ap (λ arg. arg ∷ drop (c.loop-index.index + 1) c.args.args.now)
    (sym c.index-args-index.is))
    c.is_marked_at-marked.ensures (search rules) in (
      given_more c.loop-index.given c.push.new.self _ _ _ _
          (c.in_ok-push.ensures.ok ∙ ap (λ (label : Option ℕ). c.loop-index.given
          ++ record { label = label; ty = c.in_ok-value.value.ty } ∷ []) c.label_id.ensures)
          (ap (λ (x : Passed). x.given) passed) c.loop-index.invariant.0,
      (
        rows_more c.loop-index.table.rows c.expr.new.table.rows _ c.args.table.now.rows _ _ _
            (c.in_ok-value.ensures.rows ∙ ap (λ (vars : List Var). c.loop-index.table.rows
            ++ (expr_known world (out-Arg c.index-args-index.result).value
            (record { owner = c.args.owner; vars = vars }) c.is_marked_at-marked.result).rows)
            c.loop-index.invariant.1.1.0)
            (ap (λ (x : Passed). x.rows) passed) c.loop-index.invariant.1.0,
        ((search rules), (search rules)),
      ),
    )

pub closure-returns-clause-rows : goal.closure-returns-clause-rows
closure-returns-clause-rows t c =
    on_ok_weaker c.close_closure.result
    (closure_rows (world_of c.args.world.now) c.args.owner c.args.tree.now c.args.table.now
    c.open_closure.new.table c.block.new.table c.in_body.result c.in_ok-opened.opened
    c.in_ok-went.went c.in_body.ensures c.in_ok-opened.ensures.opening c.in_ok-opened.ensures.opened c.in_ok-went.ensures.went
    c.in_ok-went.ensures.rows c.in_ok-went.ensures.returned c.close_closure.new.table)
    c.close_closure.ensures.rows

pub closure-returns-clause-enclosed : goal.closure-returns-clause-enclosed
closure-returns-clause-enclosed t c =
    known_by c.close_closure.result _ _
    (closure_enclosed (world_of c.args.world.now) c.args.owner c.args.tree.now c.args.table.now
    c.open_closure.new.table c.block.new.table c.in_body.result c.in_ok-opened.opened
    c.in_ok-went.went c.in_body.ensures c.in_ok-opened.ensures.opening c.in_ok-opened.ensures.opened c.in_ok-went.ensures.went
    c.in_ok-went.ensures.rows c.in_ok-went.ensures.returned)
    c.close_closure.ensures.enclosed
