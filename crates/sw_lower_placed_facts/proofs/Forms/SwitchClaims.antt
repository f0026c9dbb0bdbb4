-- `switch` and its arms, by how they are judged.
use Rattle.std.proofs.Common.{ℕ, true, false, List, ◌∷◌, ◌++◌, map, flat_map, Option}
use Rattle.std.proofs.Common.{is_some, option_map, sym, subst}
use Rattle.std.proofs.lemmas.List.Elements.{All-append, All-head, All-tail}
use Rattle.sw_tree.specs.Folds.{fold_block, fold_case_arm}
use Rattle.sw_tree.specs.declared.expr.Expr.{Expr}
use Rattle.sw_tree.specs.declared.name.Name.{Name}
use Rattle.sw_tree.specs.declared.stmt.Block.{Block}
use Rattle.sw_tree.specs.declared.stmt.CaseArm.{CaseArm}
use Rattle.sw_tree.specs.declared.stmt.Pattern.{Pattern}
use Rattle.sw_tree.proofs.FoldEquations as eq
use Rattle.sw_types.specs.declared.shape.CaseShape.{CaseShape}
use Rattle.sw_typing_rules.specs.Expressions.{Judged}
use Rattle.sw_typing_rules.specs.Judges as is
use Rattle.sw_typing_rules.specs.Statements.{Armed, Left, State, arm_payload, arm_vars, beside}
use Rattle.sw_typing_rules.specs.Statements.{cases_of, in_switch, in_branch, setting_of, vars_rows}
use Rattle.sw_typing_rules.specs.declared.scope.Inside.{Inside}
use Rattle.sw_lower_code.specs.Whole.{Body}
use Rattle.sw_lower_rules.specs.Carriers.{CaseCode}
use Rattle.sw_lower_rules.specs.Statements.{block_code, code_steps, expr_code, inside_of, stmt_code}
use Rattle.sw_lower_formed_facts.specs.Forms.{VarHolds, VarsHold}
use Rattle.sw_lower_formed_facts.proofs.Expressions.Typed.{type_of_expr}
use Rattle.sw_typing_facts.proofs.Said.Rows.{rows_left, rows_right}
use Rattle.sw_lower_formed_facts.proofs.Statements.Cases.{HeadFits, switch_well}
use Rattle.sw_lower_formed_facts.proofs.Statements.Sequences.{arm_vars_hold, cases_vars}
use Rattle.sw_lower_placed_facts.specs.Claims.{AreInside}
use Rattle.sw_lower_placed_facts.specs.Hosts.{Program}
use Rattle.sw_lower_placed_facts.proofs.Forms.Branches.{CasesPlaced}
use Rattle.sw_lower_placed_facts.proofs.Forms.Claims.{BlockClaim, CasesClaim, ExprClaim, OtherwiseClaim}
use Rattle.sw_lower_placed_facts.proofs.Forms.Claims.{StmtClaim}
use Rattle.sw_lower_placed_facts.proofs.Forms.Joining.{inside_left, inside_right}
use Rattle.sw_lower_placed_facts.proofs.Forms.Noted.{OtherwiseNoted, case_body_noted, cases_more_noted}
use Rattle.sw_lower_placed_facts.proofs.Forms.Noted.{switch_arms_noted, switch_otherwise_noted}
use Rattle.sw_lower_placed_facts.proofs.Forms.Noted.{switch_subject_noted}
use Rattle.sw_lower_placed_facts.proofs.Forms.Shaping.{stmt_by}
use Rattle.sw_lower_placed_facts.proofs.Forms.Switches.{switch_placed}
use Rattle.sw_lower_placed_facts.proofs.Forms.Typed.{Sound}

module _ (program : Program) (sound : Sound program) where
  abbrev cases_inside : List CaseCode → List Body
  cases_inside arms = flat_map (λ (arm : CaseCode). arm.body.inside) arms

  -- the arms of a `switch`
  module _ (inside : Inside) (cases : Option (List CaseShape)) (state : State) where
    pub no_cases_claim : CasesClaim program (is.no_case inside cases state)
    no_cases_claim init fit host is_host same vars rows bodies context listed seen noted = tt

    pub more_cases_claim : (name : Name) (patterns : List Pattern) (body : Block)
        (arms : List CaseArm) (left : Left) (armed : Armed)
        (of_body : is.LeavesBlock program.tables.world (in_branch inside)
        (is.arm_state cases state (is.head_of name patterns)) body left)
        (of_more : is.LeavesCases program.tables.world inside cases
        (is.case_of cases state (is.head_of name patterns) left).state arms armed)
        → BlockClaim program of_body → CasesClaim program of_more
        → CasesClaim program
        (is.one_case inside cases state name patterns body arms left armed of_body of_more)
    unfolding block_code
    more_cases_claim name patterns body arms left armed of_body of_more block claims init fit host
        is_host same vars rows bodies context listed seen noted =
        let head = is.head_of name patterns in
        let payload = arm_payload cases name.id in
        let new = arm_vars head payload in
        let shape = eq.fold_case_arm-roll (code_steps program.tables host.owner) name patterns
        body in
        let inner = block_code program.tables host.owner body in
        let more = map (fold_case_arm (code_steps program.tables host.owner)) arms in
        let now = subst (λ (arm : CaseCode). AreInside program
        (arm.body.inside ++ cases_inside more)) shape bodies in
        let one = is.case_of cases state head left in
        let arm_rows = rows_left program.tables.answers one.rows armed.left.rows rows in
        subst (λ arm. CasesPlaced program host (arm ∷ more)) (sym shape) (
          block init host is_host same
              (All-append (VarHolds program.tables.answers) state.vars new vars
              (arm_vars_hold program.tables.answers head payload
              (All-head (HeadFits cases) head armed.heads fit)
              (rows_left program.tables.answers (vars_rows new) left.rows arm_rows)))
              (rows_right program.tables.answers (vars_rows new) left.rows arm_rows)
              (inside_left program inner.inside (cases_inside more) now) context listed seen
              (case_body_noted program context listed state.vars name patterns body arms payload
              noted),
          claims init (All-tail (HeadFits cases) head armed.heads fit) host is_host same vars
              (rows_right program.tables.answers one.rows armed.left.rows rows)
              (inside_right program inner.inside (cases_inside more) now) context listed seen
              (cases_more_noted program context listed state.vars _ arms noted),
        )

  module _ (inside : Inside) (state : State) where
    pub switch_claim : (at : ℕ) (subject : Expr) (arms : List CaseArm)
        (otherwise : Option Block) (judged : Judged) (armed : Armed) (last : Left)
        (of_subject : is.Judges program.tables.world (setting_of inside state) false subject
        judged)
        (of_cases : is.LeavesCases program.tables.world (in_switch inside)
        (cases_of program.tables.world judged.ty) state arms armed)
        (of_other : is.LeavesOtherwise program.tables.world true (in_switch inside)
        armed.left.state otherwise last)
        → ExprClaim program of_subject → CasesClaim program of_cases
        → OtherwiseClaim program of_other
        → StmtClaim program
        (is.switch inside state at subject arms otherwise judged armed last of_subject of_cases
        of_other)
    unfolding expr_code stmt_code
    switch_claim at subject arms otherwise judged armed last of_subject of_cases of_other claim
        claims other init host is_host same vars rows bodies context listed seen noted =
        let code = expr_code program.tables host.owner subject in
        let these = map (fold_case_arm (code_steps program.tables host.owner)) arms in
        let ended = option_map (fold_block (code_steps program.tables host.owner)) otherwise in
        let answers = program.tables.answers in
        let subject_rows = rows_left answers judged.rows _ rows in
        let inner = rows_left answers (armed.left.rows ++ last.rows) _
        (rows_right answers judged.rows _ rows) in
        let typed = type_of_expr program.tables (setting_of inside state) false subject judged
        of_subject vars subject_rows in
        let vars_same = cases_vars program.tables.world (in_switch inside)
        (cases_of program.tables.world judged.ty) state arms armed of_cases in
        stmt_by program host _ _
        (eq.fold_stmt-Switch (code_steps program.tables host.owner) at subject arms otherwise)
        bodies
        (λ now.
        let first = inside_left program (code.inside ++ cases_inside these) (inside_of ended)
        now in
        record {
          code_is = switch_placed program host sound.settled is_host sound.ground code these ended
              ((claim host is_host same vars subject_rows
              (inside_left program code.inside (cases_inside these) first) context listed
              seen).read
              (switch_subject_noted program context listed state.vars at subject arms otherwise
              noted))
              (claims init
              (switch_well answers (cases_of program.tables.world judged.ty) at judged armed.heads
              (is_some otherwise) (beside armed.left last) typed.0 typed.1 rows).each host is_host
              same vars (rows_left answers armed.left.rows last.rows inner)
              (inside_right program code.inside (cases_inside these) first) context listed seen
              (switch_arms_noted program context listed state.vars at subject arms otherwise
              noted))
              (other init host is_host same
              (subst (VarsHold answers) (sym vars_same) vars)
              (rows_right answers armed.left.rows last.rows inner)
              (inside_right program (code.inside ++ cases_inside these) (inside_of ended) now)
              context listed seen
              (subst (λ these_vars. OtherwiseNoted program context listed these_vars otherwise)
              (sym vars_same)
              (switch_otherwise_noted program context listed state.vars at subject arms otherwise
              noted)));
          only = tt;
        })
