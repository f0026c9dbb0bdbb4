-- What a body is to give by its declaration is wanted after each of its statements.
use Rattle.std.proofs.Common.{◌≡◌, ℕ, Bool, true, false, List, Option, Some, None, sym, subst}
use Rattle.std.specs.Prelude.{if◌then◌else◌}
use Rattle.sw_tree.specs.declared.stmt.Block.{Block}
use Rattle.sw_tree.specs.declared.stmt.CaseArm.{CaseArm}
use Rattle.sw_tree.specs.declared.stmt.IfArm.{IfArm}
use Rattle.sw_tree.specs.declared.stmt.Stmt.{Stmt}
use Rattle.sw_tree.specs.declared.name.Name.{Name}
use Rattle.sw_types.specs.declared.shape.CaseShape.{CaseShape}
use Rattle.sw_types.specs.declared.ty.Ty.{Ty}
use Rattle.sw_typing_rules.specs.Expressions.{Judged}
use Rattle.sw_typing_rules.specs.Judges as is
use Rattle.sw_typing_rules.specs.Judges.{arm_state, case_of, head_of}
use Rattle.sw_typing_rules.specs.Statements.{Armed, Left, State, accepted_left, arm_left, bind_left}
use Rattle.sw_typing_rules.specs.Statements.{discard_left, in_loop, in_switch, is_one, in_branch}
use Rattle.sw_typing_rules.specs.Statements.{cases_of, plain_left, result_left, return_value}
use Rattle.sw_typing_rules.specs.Statements.{return_void, with_only, written}
use Rattle.sw_typing_rules.specs.Verdicts.{is_unit}
use Rattle.sw_typing_rules.specs.Worlds.{World}
use Rattle.sw_typing_rules.specs.declared.scope.Inside.{Inside}
use Rattle.sw_typing_rules.specs.declared.scope.Returned.TheVariants.{Wants}

module _ (world : World) (wanted : Ty) where
  -- a body in this state is to give the wanted type
  abbrev pub Wanting : State → Type 0
  Wanting state = state.returned ≡ Wants wanted

  bound : (s : State) (mutable : Bool) (name : Name) (ty : Option Ty) (judged : Judged) → Wanting s
      → Wanting (bind_left s mutable name ty judged).state
  bound s mutable name None judged is = is
  bound s mutable name (Some ty) judged is = is

  void : (s : State) (at : ℕ) → Wanting s → Wanting (return_void s.returned s at).state
  void s at is = subst (λ r. Wanting (return_void r s at).state) (sym is) is

  value : (s : State) (at : ℕ) (judged : Judged) → Wanting s
      → Wanting (return_value s.returned s at judged).state
  value s at judged is = subst (λ r. Wanting (return_value r s at judged).state) (sym is) is

  result : (s : State) (judged : Judged) (unit : Bool) → Wanting s
      → Wanting (if unit then discard_left s judged else accepted_left s judged.key judged
      wanted).state
  result s judged true is = is
  result s judged false is = is

  plain : (only : Bool) (s : State) (judged : Judged) → Wanting s
      → Wanting (plain_left only s judged).state
  plain false s judged is = is
  plain true s judged is =
      subst (λ r. Wanting (result_left r s judged).state) (sym is)
      (result s judged (is_unit wanted) is)

  mutual
    stmt_wants : (i : Inside) (s : State) (x : Stmt) (l : Left) → is.Leaves world i s x l
        → Wanting s → Wanting l.state
    stmt_wants i s x l (is.bind _ _ mutable name ty value judged d) w =
        bound s mutable name (written world ty) judged w
    stmt_wants i s x l (is.assign _ _ at op place value placed judged of_place d) w = w
    stmt_wants i s x l (is.discard _ _ at value judged d) w = w
    stmt_wants i s x l (is.if_of _ _ arms otherwise a last of_arms d) w =
        otherwise_wants false i a.state otherwise last d (arms_want i s arms a of_arms w)
    stmt_wants i s x l (is.while_of _ _ at cond block judged inner of_cond d) w =
        block_wants (in_loop i) s block inner d w
    stmt_wants i s x l
        (is.switch _ _ at subject arms otherwise judged armed last of_subject of_arms d) w =
        otherwise_wants true (in_switch i) armed.left.state otherwise last d
        (cases_want (in_switch i) (cases_of world judged.ty) s arms armed of_arms w)
    stmt_wants i s x l (is.return_nothing _ _ at) w = void s at w
    stmt_wants i s x l (is.return_of _ _ at value_of judged d) w = value s at judged w
    stmt_wants i s x l (is.break_of _ _ at) w = w
    stmt_wants i s x l (is.continue_of _ _ at) w = w
    stmt_wants i s x l (is.plain _ _ value judged d) w = plain i.only s judged w

    all_want : (i : Inside) (s : State) (xs : List Stmt) (l : Left)
        → is.LeavesAll world i s xs l → Wanting s → Wanting l.state
    all_want i s xs l (is.no_stmt _ _) w = w
    all_want i s xs l (is.one_stmt _ _ stmt stmts one last d rest) w =
        all_want i one.state stmts last rest (stmt_wants i s stmt one d w)

    -- what was wanted before a block is wanted after it
    pub block_wants : (i : Inside) (s : State) (b : Block) (l : Left)
        → is.LeavesBlock world i s b l → Wanting s → Wanting l.state
    block_wants i s b l (is.block _ _ stmts _ d) w =
        all_want (with_only i (is_one stmts)) s stmts l d w

    arms_want : (i : Inside) (s : State) (arms : List IfArm) (l : Left)
        → is.LeavesArms world i s arms l → Wanting s → Wanting l.state
    arms_want i s arms l (is.no_arm _ _) w = w
    arms_want i s arms l (is.one_arm _ _ at cond block more judged inner last of_cond d rest) w =
        arms_want i (arm_left s judged inner).state more last rest
        (block_wants (in_branch i) s block inner d w)

    otherwise_wants : (ends : Bool) (i : Inside) (s : State) (x : Option Block) (l : Left)
        → is.LeavesOtherwise world ends i s x l → Wanting s → Wanting l.state
    otherwise_wants ends i s x l (is.absent _ _) w = w
    otherwise_wants ends i s x l (is.absent_default _ _) w = w
    otherwise_wants ends i s x l (is.present _ _ _ block inner d) w =
        block_wants (in_branch i) s block inner d w

    cases_want : (i : Inside) (cases : Option (List CaseShape)) (s : State)
        (arms : List CaseArm) (a : Armed) → is.LeavesCases world i cases s arms a
        → Wanting s → Wanting a.left.state
    cases_want i cases s arms a (is.no_case _ _ _) w = w
    cases_want i cases s arms a
        (is.one_case _ _ _ name patterns block more inner armed d rest) w =
        cases_want i cases (case_of cases s (head_of name patterns) inner).state more armed rest
        (block_wants (in_branch i) (arm_state cases s (head_of name patterns)) block inner d w)
