use Rattle.std.proofs.Common.{◌≡◌, ◌⊎◌, ◌∙◌, ap, inl, inr, length, sym}
use Rattle.std.proofs.lemmas.Result.{err_from_is_err_and}
use Rattle.std.specs.Iterator.Adapters.{zip_first, zip_second}
use Rattle.std.specs.Slice.Iter.{iter_rest}
use Rattle.sw_lower_draft.specs.Drafts.{making_of}
use Rattle.sw_lower_known.specs.Knowledge.{tables_by}
use Rattle.sw_lower_rules.specs.Carriers.{StmtCode}
use Rattle.sw_lower_rules.specs.Statements.{arm_code, default_code, else_code, stmt_code}
use Rattle.sw_lower_code.specs.Code.{all, each, resume}
use Rattle.sw_lower_stmt.proofs.CaseArms.{next_numbered, none_numbered}
use Rattle.sw_lower_stmt.proofs.Loops.{all_ends, all_fails, all_next, each_ends, each_fails}
use Rattle.sw_lower_stmt.proofs.Loops.{each_next, first_fails, given_then, next_item}
use Rattle.sw_lower_stmt.proofs.Loops.{no_item, scope_ends, scope_fails}
use Rattle.sw_lower_stmt.proofs.Whole.{block_whole, if_whole, switch_whole}
use Rattle.sw_lower_stmt.specs.Parts.{arm_opened, if_arm_code, if_codes, numbered, otherwise_code}
use Rattle.sw_lower_stmt.specs.Parts.{stmt_codes, switch_opened}
use Rattle.sw_lower_expr.proofs.Gathered.{each_is}
use Rattle.sw_lower_stmt.proofs.walk.+walk.Goals as goal

pub block-returns-in_err-stmts : goal.block-returns-in_err-stmts
block-returns-in_err-stmts t c =
    let p = err_from_is_err_and c.from_residual.result c.from_residual.ensures.1 in
    rw (p.1, p.2) (λ other.
    block_whole (tables_by c.args.known.now) c.args.owner c.args.targets c.args.tree.now
    c.as_slice.result.now (making_of c.args.draft.now) c.as_slice.ensures
    ∙ scope_fails (all (λ (one : StmtCode). one.code c.args.targets)
    (stmt_codes (tables_by c.args.known.now) c.args.owner c.as_slice.result.now))
    (making_of c.args.draft.now) _ (c.in_err-stmts.ensures other))

pub block-returns : goal.block-returns
block-returns t c =
    block_whole (tables_by c.args.known.now) c.args.owner c.args.targets c.args.tree.now
    c.as_slice.result.now (making_of c.args.draft.now) c.as_slice.ensures
    ∙ scope_ends (all (λ (one : StmtCode). one.code c.args.targets)
    (stmt_codes (tables_by c.args.known.now) c.args.owner c.as_slice.result.now))
    (making_of c.args.draft.now) _ (making_of c.stmts.new.draft) (making_of c.forget.new.self)
    c.var_count-count.result c.var_count-count.ensures c.in_ok-stmts.ensures c.forget.ensures

pub case_arms-loop-tree-preserved : goal.case_arms-loop-tree-preserved
case_arms-loop-tree-preserved t c =
    all_next (arm_code (tables_by c.args.known.now) c.args.opened.now.subject c.args.targets
    c.args.opened.now.merge) _ (making_of c.loop-tree.draft) _ c.loop-tree.invariant _ _
    (making_of c.case_arm.new.draft)
    (next_numbered (tables_by c.args.known.now) c.args.owner
    (iter_rest (zip_first c.loop-tree.tree-iterator)) (iter_rest (zip_first c.next.new.self))
    (iter_rest (zip_second c.loop-tree.tree-iterator)) (iter_rest (zip_second c.next.new.self))
    c.in-Some.tree.now c.in-Some.number.now c.in-Some.ensures.steps.0 c.in-Some.ensures.steps.1)
    c.in_ok-case_arm.ensures

pub case_arms-returns-in_err-case_arm : goal.case_arms-returns-in_err-case_arm
case_arms-returns-in_err-case_arm t c =
    let p = err_from_is_err_and c.from_residual.result c.from_residual.ensures.1 in
    rw (p.1, p.2) (λ other.
    all_fails (arm_code (tables_by c.args.known.now) c.args.opened.now.subject c.args.targets
    c.args.opened.now.merge) _ (making_of c.loop-tree.draft) _ c.loop-tree.invariant _ _ _
    (next_numbered (tables_by c.args.known.now) c.args.owner
    (iter_rest (zip_first c.loop-tree.tree-iterator)) (iter_rest (zip_first c.next.new.self))
    (iter_rest (zip_second c.loop-tree.tree-iterator)) (iter_rest (zip_second c.next.new.self))
    c.in-Some.tree.now c.in-Some.number.now c.in-Some.ensures.steps.0 c.in-Some.ensures.steps.1)
    (c.in_err-case_arm.ensures other))

pub case_arms-returns : goal.case_arms-returns
case_arms-returns t c =
    let trees = iter_rest (zip_first c.loop-tree.tree-iterator) in
    let numbers = iter_rest (zip_second c.loop-tree.tree-iterator) in
    let none_left : (length trees ≡ 0) ⊎ (length numbers ≡ 0) =
    elim c.in-None.ensures.steps [ inl w ↦ inl w.1.0 | inr w ↦ inr w.1.0 ] in
    all_ends (arm_code (tables_by c.args.known.now) c.args.opened.now.subject c.args.targets
    c.args.opened.now.merge) _ (making_of c.loop-tree.draft) _ c.loop-tree.invariant
    (none_numbered (tables_by c.args.known.now) c.args.owner trees numbers none_left)

pub if_arms-loop-tree-init : goal.if_arms-loop-tree-init
if_arms-loop-tree-init t c = rw c.new-merges.ensures
    (sym (each_is (arm_opened c.args.targets)
    (if_codes (tables_by c.args.known.now) c.args.owner c.args.trees.now)
    (making_of c.args.draft.now)))

pub if_arms-loop-tree-preserved : goal.if_arms-loop-tree-preserved
if_arms-loop-tree-preserved t c = rw c.in_ok-push.ensures.ok
    (each_next (arm_opened c.args.targets) _ c.loop-tree.merges (making_of c.loop-tree.draft) _
    c.loop-tree.invariant
    (if_arm_code (tables_by c.args.known.now) c.args.owner c.tree-item.result) _ _
    (making_of c.if_arm.new.draft)
    (ap (if_codes (tables_by c.args.known.now) c.args.owner)
    (next_item c.args.trees.now c.loop-tree.tree-index c.tree-item.result
    c.loop-tree-test.true c.tree-item.is)) c.in_ok-if_arm.ensures)

pub if_arms-returns-in_err-if_arm : goal.if_arms-returns-in_err-if_arm
if_arms-returns-in_err-if_arm t c =
    let p = err_from_is_err_and c.from_residual.result c.from_residual.ensures.1 in
    rw (p.1, p.2) (λ other.
    each_fails (arm_opened c.args.targets) _ c.loop-tree.merges (making_of c.loop-tree.draft) _
    c.loop-tree.invariant
    (if_arm_code (tables_by c.args.known.now) c.args.owner c.tree-item.result) _ _
    (ap (if_codes (tables_by c.args.known.now) c.args.owner)
    (next_item c.args.trees.now c.loop-tree.tree-index c.tree-item.result
    c.loop-tree-test.true c.tree-item.is)) (c.in_err-if_arm.ensures other))

pub if_arms-returns : goal.if_arms-returns
if_arms-returns t c =
    each_ends (arm_opened c.args.targets) _ c.loop-tree.merges (making_of c.loop-tree.draft) _
    c.loop-tree.invariant
    (ap (if_codes (tables_by c.args.known.now) c.args.owner)
    (no_item c.args.trees.now c.loop-tree.tree-index c.loop-tree-test.false))

pub stmt-returns-in_err-merges-in-If : goal.stmt-returns-in_err-merges-in-If
stmt-returns-in_err-merges-in-If t c =
    let p =
    err_from_is_err_and c.from_residual-in_err-merges-in-If.result
    c.from_residual-in_err-merges-in-If.ensures.1 in
    rw (p.1, p.2)
    (λ other. if_whole (tables_by c.args.known.now) c.args.owner c.args.targets c.args.tree.now
    c.in-If.arms c.as_slice.result.now c.in-If.last (making_of c.args.draft.now) c.in-If.is
    c.as_slice.ensures
    ∙ first_fails
    (each (arm_opened c.args.targets) (if_codes (tables_by c.args.known.now) c.args.owner
    c.as_slice.result.now)) _
    (making_of c.args.draft.now) _ (c.in_err-merges-in-If.ensures other))

pub stmt-returns-in_err-otherwise-in-If : goal.stmt-returns-in_err-otherwise-in-If
stmt-returns-in_err-otherwise-in-If t c =
    let p =
    err_from_is_err_and c.from_residual-in_err-otherwise-in-If.result
    c.from_residual-in_err-otherwise-in-If.ensures.1 in
    rw (p.1, p.2)
    (λ other. if_whole (tables_by c.args.known.now) c.args.owner c.args.targets c.args.tree.now
    c.in-If.arms c.as_slice.result.now c.in-If.last (making_of c.args.draft.now) c.in-If.is
    c.as_slice.ensures
    ∙ (given_then
    (each (arm_opened c.args.targets) (if_codes (tables_by c.args.known.now) c.args.owner
    c.as_slice.result.now)) _
    (making_of c.args.draft.now) c.in_ok-merges-in-If.merges (making_of c.if_arms.new.draft)
    c.in_ok-merges-in-If.ensures
    ∙ first_fails (else_code (otherwise_code (tables_by c.args.known.now) c.args.owner c.in-If.last)
    c.args.targets) _
    (making_of c.if_arms.new.draft) _ (c.in_err-otherwise-in-If.ensures other)))

pub stmt-returns-in_ok-otherwise-in-If : goal.stmt-returns-in_ok-otherwise-in-If
stmt-returns-in_ok-otherwise-in-If t c =
    rw (if_whole (tables_by c.args.known.now) c.args.owner c.args.targets c.args.tree.now
    c.in-If.arms c.as_slice.result.now c.in-If.last (making_of c.args.draft.now) c.in-If.is
    c.as_slice.ensures
    ∙ (given_then
    (each (arm_opened c.args.targets) (if_codes (tables_by c.args.known.now) c.args.owner
    c.as_slice.result.now)) _
    (making_of c.args.draft.now) c.in_ok-merges-in-If.merges (making_of c.if_arms.new.draft)
    c.in_ok-merges-in-If.ensures
    ∙ given_then (else_code (otherwise_code (tables_by c.args.known.now) c.args.owner c.in-If.last)
    c.args.targets) _
    (making_of c.if_arms.new.draft) tt (making_of c.otherwise.new.draft)
    c.in_ok-otherwise-in-If.ensures)) c.join_all.ensures

pub stmt-returns-in_err-opened-in-Switch : goal.stmt-returns-in_err-opened-in-Switch
stmt-returns-in_err-opened-in-Switch t c =
    let p =
    err_from_is_err_and c.from_residual-in_err-opened-in-Switch.result
    c.from_residual-in_err-opened-in-Switch.ensures.1 in
    rw (p.1, p.2)
    (λ other.
    switch_whole (tables_by c.args.known.now) c.args.owner c.args.targets c.args.tree.now _
    c.in-Switch.subject c.in-Switch.arms c.as_slice-arms.result.now c.in-Switch.last
    (making_of c.args.draft.now) c.in-Switch.is c.as_slice-arms.ensures
    ∙ first_fails (switch_opened (tables_by c.args.known.now) c.args.owner c.in-Switch.subject
    c.as_slice-arms.result.now c.in-Switch.last) _ (making_of c.args.draft.now) _
    (c.in_err-opened-in-Switch.ensures other))

pub stmt-returns-in_err-case_arms-in-Switch : goal.stmt-returns-in_err-case_arms-in-Switch
stmt-returns-in_err-case_arms-in-Switch t c =
    let p =
    err_from_is_err_and c.from_residual-in_err-case_arms-in-Switch.result
    c.from_residual-in_err-case_arms-in-Switch.ensures.1 in
    rw (p.1, p.2)
    (λ other.
    switch_whole (tables_by c.args.known.now) c.args.owner c.args.targets c.args.tree.now _
    c.in-Switch.subject c.in-Switch.arms c.as_slice-arms.result.now c.in-Switch.last
    (making_of c.args.draft.now) c.in-Switch.is c.as_slice-arms.ensures
    ∙ (given_then (switch_opened (tables_by c.args.known.now) c.args.owner c.in-Switch.subject
    c.as_slice-arms.result.now c.in-Switch.last) _ (making_of c.args.draft.now)
    c.in_ok-opened-in-Switch.opened (making_of c.open_switch.new.draft)
    c.in_ok-opened-in-Switch.ensures
    ∙ first_fails
    (all (arm_code (tables_by c.args.known.now) c.in_ok-opened-in-Switch.opened.subject
    c.args.targets c.in_ok-opened-in-Switch.opened.merge) (numbered (tables_by c.args.known.now)
    c.args.owner c.as_slice-arms.result.now c.in_ok-opened-in-Switch.opened.numbers)) _
    (making_of c.open_switch.new.draft) _
    (c.in_err-case_arms-in-Switch.ensures other)))

pub stmt-returns-in_err-default_arm-in-Switch : goal.stmt-returns-in_err-default_arm-in-Switch
stmt-returns-in_err-default_arm-in-Switch t c =
    let p =
    err_from_is_err_and c.from_residual-in_err-default_arm-in-Switch.result
    c.from_residual-in_err-default_arm-in-Switch.ensures.1 in
    rw (p.1, p.2)
    (λ other.
    switch_whole (tables_by c.args.known.now) c.args.owner c.args.targets c.args.tree.now _
    c.in-Switch.subject c.in-Switch.arms c.as_slice-arms.result.now c.in-Switch.last
    (making_of c.args.draft.now) c.in-Switch.is c.as_slice-arms.ensures
    ∙ (given_then (switch_opened (tables_by c.args.known.now) c.args.owner c.in-Switch.subject
    c.as_slice-arms.result.now c.in-Switch.last) _ (making_of c.args.draft.now)
    c.in_ok-opened-in-Switch.opened (making_of c.open_switch.new.draft)
    c.in_ok-opened-in-Switch.ensures
    ∙ (given_then
    (all (arm_code (tables_by c.args.known.now) c.in_ok-opened-in-Switch.opened.subject
    c.args.targets c.in_ok-opened-in-Switch.opened.merge) (numbered (tables_by c.args.known.now)
    c.args.owner c.as_slice-arms.result.now c.in_ok-opened-in-Switch.opened.numbers)) _
    (making_of c.open_switch.new.draft) tt
    (making_of c.case_arms.new.draft) c.in_ok-case_arms-in-Switch.ensures
    ∙ first_fails (default_code (tables_by c.args.known.now)
    (otherwise_code (tables_by c.args.known.now) c.args.owner c.in-Switch.last)
    c.in_ok-opened-in-Switch.opened.default c.args.targets
    c.in_ok-opened-in-Switch.opened.merge) _
    (making_of c.case_arms.new.draft) _ (c.in_err-default_arm-in-Switch.ensures other))))

pub stmt-returns-in_ok-default_arm-in-Switch : goal.stmt-returns-in_ok-default_arm-in-Switch
unfolding resume
stmt-returns-in_ok-default_arm-in-Switch t c =
    rw (switch_whole (tables_by c.args.known.now) c.args.owner c.args.targets c.args.tree.now _
    c.in-Switch.subject c.in-Switch.arms c.as_slice-arms.result.now c.in-Switch.last
    (making_of c.args.draft.now) c.in-Switch.is c.as_slice-arms.ensures
    ∙ (given_then (switch_opened (tables_by c.args.known.now) c.args.owner c.in-Switch.subject
    c.as_slice-arms.result.now c.in-Switch.last) _ (making_of c.args.draft.now)
    c.in_ok-opened-in-Switch.opened (making_of c.open_switch.new.draft)
    c.in_ok-opened-in-Switch.ensures
    ∙ (given_then
    (all (arm_code (tables_by c.args.known.now) c.in_ok-opened-in-Switch.opened.subject
    c.args.targets c.in_ok-opened-in-Switch.opened.merge) (numbered (tables_by c.args.known.now)
    c.args.owner c.as_slice-arms.result.now c.in_ok-opened-in-Switch.opened.numbers)) _
    (making_of c.open_switch.new.draft) tt
    (making_of c.case_arms.new.draft) c.in_ok-case_arms-in-Switch.ensures
    ∙ given_then (default_code (tables_by c.args.known.now)
    (otherwise_code (tables_by c.args.known.now) c.args.owner c.in-Switch.last)
    c.in_ok-opened-in-Switch.opened.default c.args.targets
    c.in_ok-opened-in-Switch.opened.merge) _
    (making_of c.case_arms.new.draft) tt (making_of c.default_arm.new.draft)
    c.in_ok-default_arm-in-Switch.ensures))) c.resume.ensures

pub stmts-loop-tree-preserved : goal.stmts-loop-tree-preserved
stmts-loop-tree-preserved t c =
    all_next (λ (one : StmtCode). one.code c.args.targets) _ (making_of c.loop-tree.draft) _
    c.loop-tree.invariant
    (stmt_code (tables_by c.args.known.now) c.args.owner c.tree-item.result) _
    (making_of c.stmt.new.draft)
    (ap (stmt_codes (tables_by c.args.known.now) c.args.owner)
    (next_item c.args.trees.now c.loop-tree.tree-index c.tree-item.result
    c.loop-tree-test.true c.tree-item.is)) c.in_ok-stmt.ensures

pub stmts-returns-in_err-stmt : goal.stmts-returns-in_err-stmt
stmts-returns-in_err-stmt t c =
    let p = err_from_is_err_and c.from_residual.result c.from_residual.ensures.1 in
    rw (p.1, p.2) (λ other.
    all_fails (λ (one : StmtCode). one.code c.args.targets) _ (making_of c.loop-tree.draft) _
    c.loop-tree.invariant
    (stmt_code (tables_by c.args.known.now) c.args.owner c.tree-item.result) _ _
    (ap (stmt_codes (tables_by c.args.known.now) c.args.owner)
    (next_item c.args.trees.now c.loop-tree.tree-index c.tree-item.result
    c.loop-tree-test.true c.tree-item.is)) (c.in_err-stmt.ensures other))

pub stmts-returns : goal.stmts-returns
stmts-returns t c =
    all_ends (λ (one : StmtCode). one.code c.args.targets) _ (making_of c.loop-tree.draft) _
    c.loop-tree.invariant
    (ap (stmt_codes (tables_by c.args.known.now) c.args.owner)
    (no_item c.args.trees.now c.loop-tree.tree-index c.loop-tree-test.false))
