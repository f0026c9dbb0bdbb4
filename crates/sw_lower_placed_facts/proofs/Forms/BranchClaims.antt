-- Blocks, and statements that hold some, by how they are judged.
use Rattle.std.proofs.Common.{ℕ, Bool, false, List, ◌∷◌, ◌++◌, map, flat_map, Option}
use Rattle.std.proofs.Common.{option_map, sym, subst}
use Rattle.sw_tree.specs.Folds.{fold_block, fold_if_arm, fold_stmt}
use Rattle.sw_tree.specs.declared.expr.Expr.{Expr}
use Rattle.sw_tree.specs.declared.stmt.Block.{Block}
use Rattle.sw_tree.specs.declared.stmt.IfArm.{IfArm}
use Rattle.sw_tree.specs.declared.stmt.Stmt.{Stmt}
use Rattle.sw_tree.proofs.FoldEquations as eq
use Rattle.sw_typing_rules.specs.Expressions.{Judged}
use Rattle.sw_typing_rules.specs.Judges as is
use Rattle.sw_typing_rules.specs.Statements.{Left, State, arm_left}
use Rattle.sw_typing_rules.specs.Statements.{condition_rows, in_loop}
use Rattle.sw_typing_rules.specs.Statements.{is_one, in_branch, setting_of}
use Rattle.sw_typing_rules.specs.Statements.{with_only}
use Rattle.sw_typing_rules.specs.declared.scope.Inside.{Inside}
use Rattle.sw_lower_code.specs.Whole.{Body}
use Rattle.sw_lower_rules.specs.Carriers.{BlockCode, IfCode, StmtCode}
use Rattle.sw_lower_rules.specs.Statements.{block_code, code_steps, expr_code, inside_of, stmt_code}
use Rattle.sw_lower_formed_facts.specs.Forms.{VarsHold}
use Rattle.sw_lower_formed_facts.proofs.Expressions.Typed.{type_of_expr}
use Rattle.sw_typing_facts.proofs.Said.Rows.{rows_left, rows_right}
use Rattle.sw_lower_formed_facts.proofs.Statements.Sequences.{arms_vars}
use Rattle.sw_lower_formed_facts.proofs.Statements.Sequences.{vars_after}
use Rattle.sw_lower_placed_facts.specs.Claims.{AreInside, BlockPlaced}
use Rattle.sw_lower_placed_facts.specs.Hosts.{Program}
use Rattle.sw_lower_placed_facts.proofs.Forms.Blocks.{block_placed, more_stmts_placed}
use Rattle.sw_lower_placed_facts.proofs.Forms.Blocks.{no_stmts_placed}
use Rattle.sw_lower_placed_facts.proofs.Forms.Branches.{ArmsPlaced, if_placed}
use Rattle.sw_lower_placed_facts.proofs.Forms.Branches.{more_arms_placed, no_arms_placed, while_placed}
use Rattle.sw_lower_placed_facts.proofs.Forms.Claims.{ArmsClaim, BlockClaim, ExprClaim}
use Rattle.sw_lower_placed_facts.proofs.Forms.Claims.{OtherwiseClaim, StmtClaim, StmtsClaim}
use Rattle.sw_lower_placed_facts.proofs.Forms.Joining.{inside_left, inside_right}
use Rattle.sw_lower_placed_facts.proofs.Forms.Noted.{OtherwiseNoted, arm_body_noted, arm_cond_noted}
use Rattle.sw_lower_placed_facts.proofs.Forms.Noted.{arms_more_noted}
use Rattle.sw_lower_placed_facts.proofs.Forms.Noted.{block_stmts_noted}
use Rattle.sw_lower_placed_facts.proofs.Forms.Noted.{if_arms_noted}
use Rattle.sw_lower_placed_facts.proofs.Forms.Noted.{if_otherwise_noted, stmts_after_noted}
use Rattle.sw_lower_placed_facts.proofs.Forms.Noted.{stmts_first_noted}
use Rattle.sw_lower_placed_facts.proofs.Forms.Noted.{while_body_noted, while_cond_noted}
use Rattle.sw_lower_placed_facts.proofs.Forms.Shaping.{stmt_by}
use Rattle.sw_lower_placed_facts.proofs.Forms.Typed.{Sound}
use Rattle.sw_lower_placed_facts.proofs.Forms.Values.{goes_read}

module _ (program : Program) (sound : Sound program) (inside : Inside) (state : State) where
  -- the statements of a block
  pub no_stmts_claim : StmtsClaim program (is.no_stmt inside state)
  no_stmts_claim init host is_host same vars rows bodies context listed seen noted =
      no_stmts_placed program host

  abbrev stmts_inside : List StmtCode → List Body
  stmts_inside stmts = flat_map (λ (one : StmtCode). one.inside) stmts

  pub more_stmts_claim : (stmt : Stmt) (list : List Stmt) (one last : Left)
      (of_stmt : is.Leaves program.tables.world inside state stmt one)
      (of_more : is.LeavesAll program.tables.world inside one.state list last)
      → StmtClaim program of_stmt → StmtsClaim program of_more
      → StmtsClaim program (is.one_stmt inside state stmt list one last of_stmt of_more)
  unfolding stmt_code
  more_stmts_claim stmt list one last of_stmt of_more claim claims init host is_host same vars rows
      bodies context listed seen noted =
      let first = rows_left program.tables.answers one.rows last.rows rows in
      let code = stmt_code program.tables host.owner stmt in
      let more = map (fold_stmt (code_steps program.tables host.owner)) list in
      more_stmts_placed program host code more
      (claim init host is_host same vars first
      (inside_left program code.inside (stmts_inside more) bodies) context listed seen
      (stmts_first_noted program context listed state.vars stmt list noted))
      (claims init host is_host same
      (vars_after program.tables.world program.tables.answers inside state stmt one of_stmt
      (λ judged expected value judges value_rows. type_of_expr program.tables
      (setting_of inside state) expected value judged judges vars value_rows) vars first)
      (rows_right program.tables.answers one.rows last.rows rows)
      (inside_right program code.inside (stmts_inside more) bodies) context listed seen
      (stmts_after_noted program context listed inside state stmt list one of_stmt noted))

  pub block_claim : (list : List Stmt) (left : Left)
      (of_stmts : is.LeavesAll program.tables.world
      (with_only inside (is_one list)) state list left)
      → StmtsClaim program of_stmts
      → BlockClaim program (is.block inside state list left of_stmts)
  unfolding block_code
  block_claim list left of_stmts claims init host is_host same vars rows bodies context listed seen
      noted =
      let shape = eq.fold_block-roll (code_steps program.tables host.owner) list in
      subst (BlockPlaced program host) (sym shape)
      (block_placed program host (map (fold_stmt (code_steps program.tables host.owner)) list)
      (claims init host is_host same vars rows
      (subst (λ (code : BlockCode). AreInside program code.inside) shape bodies) context listed
      seen (block_stmts_noted program context listed state.vars list noted)))

  -- loops
  pub while_claim : (at : ℕ) (cond : Expr) (body : Block) (judged : Judged) (left : Left)
      (of_cond : is.Judges program.tables.world (setting_of inside state) false cond judged)
      (of_body : is.LeavesBlock program.tables.world (in_loop inside) state body left)
      → ExprClaim program of_cond → BlockClaim program of_body
      → StmtClaim program (is.while_of inside state at cond body judged left of_cond of_body)
  unfolding expr_code stmt_code block_code
  while_claim at cond body judged left of_cond of_body claim block init host is_host same vars rows
      bodies context listed seen noted =
      let code = expr_code program.tables host.owner cond in
      let inner = block_code program.tables host.owner body in
      stmt_by program host _ _
      (eq.fold_stmt-While (code_steps program.tables host.owner) at cond body) bodies
      (λ now. record {
        code_is = while_placed program host code.read inner code.inside
            (goes_read program host code
            ((claim host is_host same vars
            (rows_left program.tables.answers judged.rows _
            (rows_left program.tables.answers (condition_rows judged) left.rows rows))
            (inside_left program code.inside inner.inside now) context listed seen).read
            (while_cond_noted program context listed state.vars at cond body noted)))
            (block init host is_host same vars
            (rows_right program.tables.answers (condition_rows judged) left.rows rows)
            (inside_right program code.inside inner.inside now) context listed seen
            (while_body_noted program context listed state.vars at cond body noted));
        only = tt;
      })

  -- the arms of an `if`
  pub no_arms_claim : ArmsClaim program (is.no_arm inside state)
  no_arms_claim init host is_host same vars rows bodies context listed seen noted =
      no_arms_placed program host

  abbrev if_inside : List IfCode → List Body
  if_inside arms = flat_map (λ (arm : IfCode). arm.inside) arms

  pub more_arms_claim : (at : ℕ) (cond : Expr) (body : Block) (arms : List IfArm)
      (judged : Judged) (left last : Left)
      (of_cond : is.Judges program.tables.world (setting_of inside state) false cond judged)
      (of_body : is.LeavesBlock program.tables.world (in_branch inside) state body left)
      (rest : is.LeavesArms program.tables.world inside
      (arm_left state judged left).state arms last)
      → ExprClaim program of_cond → BlockClaim program of_body → ArmsClaim program rest
      → ArmsClaim program
      (is.one_arm inside state at cond body arms judged left last of_cond of_body rest)
  unfolding expr_code block_code
  more_arms_claim at cond body arms judged left last of_cond of_body rest claim block claims init
      host is_host same vars rows bodies context listed seen noted =
      let shape = eq.fold_if_arm-roll (code_steps program.tables host.owner) at cond body in
      let code = expr_code program.tables host.owner cond in
      let inner = block_code program.tables host.owner body in
      let more = map (fold_if_arm (code_steps program.tables host.owner)) arms in
      let now = subst (λ (arm : IfCode). AreInside program (arm.inside ++ if_inside more)) shape
      bodies in
      let both = code.inside ++ inner.inside in
      let own = inside_left program both (if_inside more) now in
      let arm_rows = rows_left program.tables.answers (arm_left state judged left).rows last.rows
      rows in
      subst (λ arm. ArmsPlaced program host (arm ∷ more)) (sym shape)
      (more_arms_placed program host code.read inner code.inside more
      (goes_read program host code
      ((claim host is_host same vars
      (rows_left program.tables.answers judged.rows _
      (rows_left program.tables.answers (condition_rows judged) left.rows arm_rows))
      (inside_left program code.inside inner.inside own) context listed seen).read
      (arm_cond_noted program context listed state.vars at cond body arms noted)))
      (block init host is_host same vars
      (rows_right program.tables.answers (condition_rows judged) left.rows arm_rows)
      (inside_right program code.inside inner.inside own) context listed seen
      (arm_body_noted program context listed state.vars at cond body arms noted))
      (claims init host is_host same vars
      (rows_right program.tables.answers (arm_left state judged left).rows last.rows rows)
      (inside_right program both (if_inside more) now) context listed seen
      (arms_more_noted program context listed state.vars _ arms noted)))

  pub if_claim : (arms : List IfArm) (otherwise : Option Block) (one last : Left)
      (of_arms : is.LeavesArms program.tables.world inside state arms one)
      (of_other : is.LeavesOtherwise program.tables.world false inside one.state otherwise last)
      → ArmsClaim program of_arms → OtherwiseClaim program of_other
      → StmtClaim program (is.if_of inside state arms otherwise one last of_arms of_other)
  unfolding stmt_code
  if_claim arms otherwise one last of_arms of_other claims other init host is_host same vars rows
      bodies context listed seen noted =
      let these = map (fold_if_arm (code_steps program.tables host.owner)) arms in
      let ended = option_map (fold_block (code_steps program.tables host.owner)) otherwise in
      let vars_same = arms_vars program.tables.world inside state arms one of_arms in
      stmt_by program host _ _
      (eq.fold_stmt-If (code_steps program.tables host.owner) arms otherwise) bodies
      (λ now. record {
        code_is = if_placed program host these ended
            (claims init host is_host same vars
            (rows_left program.tables.answers one.rows last.rows rows)
            (inside_left program (if_inside these) (inside_of ended) now) context listed seen
            (if_arms_noted program context listed state.vars arms otherwise noted))
            (other init host is_host same
            (subst (VarsHold program.tables.answers) (sym vars_same) vars)
            (rows_right program.tables.answers one.rows last.rows rows)
            (inside_right program (if_inside these) (inside_of ended) now) context listed seen
            (subst (λ these_vars. OtherwiseNoted program context listed these_vars otherwise)
            (sym vars_same)
            (if_otherwise_noted program context listed state.vars arms otherwise noted)));
        only = tt;
      })

  -- an `else` or a `default`
  pub no_else_claim : OtherwiseClaim program (is.absent inside state)
  no_else_claim init host is_host same vars rows bodies context listed seen noted = tt

  pub no_default_claim : OtherwiseClaim program (is.absent_default inside state)
  no_default_claim init host is_host same vars rows bodies context listed seen noted = tt

  pub some_block_claim : (ends : Bool) (body : Block) (left : Left)
      (of_body : is.LeavesBlock program.tables.world (in_branch inside) state body left)
      → BlockClaim program of_body
      → OtherwiseClaim program (is.present ends inside state body left of_body)
  unfolding block_code
  some_block_claim ends body left of_body block init host is_host same vars rows bodies context
      listed seen noted =
      block init host is_host same vars rows bodies context listed seen noted
