-- The ends of the arms of the walk over statements: what a step leaves after what its parts noted
-- is what the whole leaves.
use Rattle.std.proofs.Common.{◌≡◌, ◌++◌, ◌&&◌, ◌||◌, ℕ, Bool, true, false, List, []}
use Rattle.std.proofs.Common.{Option, Some, Result, append_assoc, ap, is_some, length, map}
use Rattle.std.proofs.Common.{sym, subst, ◌∙◌, IfOk, OnOk}
use Rattle.std.proofs.lemmas.Result.{on_ok_weaker}
use Rattle.sw_tree.proofs.FoldEquations as eq
use Rattle.sw_tree.specs.Folds.{fold_block}
use Rattle.sw_tree.specs.declared.expr.Expr.{Expr}
use Rattle.sw_tree.specs.declared.stmt.Block.{Block}
use Rattle.sw_tree.specs.declared.stmt.CaseArm.{CaseArm}
use Rattle.sw_tree.specs.declared.stmt.Stmt.{Stmt}
use Rattle.sw_tree.specs.declared.stmt.Stmt.TheVariants as stmts
use Rattle.sw_types.specs.declared.shape.CaseShape.{CaseShape}
use Rattle.sw_typing_rules.proofs.Complete.{is_some-map}
use Rattle.sw_typing_rules.specs.Expressions.{Judged}
use Rattle.sw_typing_rules.specs.Judging.{OfStmt, typing_steps}
use Rattle.sw_typing_rules.specs.Statements.{Armed, Head, Left, beside, cases_of, expects}
use Rattle.sw_typing_rules.specs.Statements.{in_switch, marked_result, plain_left, return_value}
use Rattle.sw_typing_rules.specs.Statements.{switch_left}
use Rattle.sw_typing_rules.specs.Worlds.{World}
use Rattle.sw_typing_rules.specs.declared.scope.Inside.{Inside}
use Rattle.sw_typing_steps.specs.Steps.{after, cut, judged_of, judged_since, known_of, left_since}
use Rattle.sw_typing_steps.specs.Steps.{setting_in, state_of, went_of}
use Rattle.sw_typing_steps.specs.Switches.{head_at, switched}
use Rattle.sw_typing_steps.specs.declared.known.Known.{Known}
use Rattle.sw_typing_steps.specs.declared.known.Went.{Went}
use Rattle.sw_typing_steps.specs.declared.table.Table.{Table}
use Rattle.sw_typing.proofs.Since.{plain_rows, return_rows, switch_rows}
use Rattle.sw_typing.proofs.Walking.{heads_are}
use Rattle.sw_typing.specs.Walked.{case_arms_left, expr_known, otherwise_left, stmt_left}

-- how a statement went, by an equal one
pub went_by : {E : Type 0} (r : Result Went E) (one other : Went) → one ≡ other
    → IfOk r (λ went. went ≡ one) → IfOk r (λ went. went ≡ other)
went_by r one other p h = subst (λ k. IfOk r (λ went. went ≡ k)) p h

abbrev both : Went → Went → Went
both one other = record {
  fine = one.fine && other.fine;
  ends = one.ends && other.ends;
  breaks = one.breaks || other.breaks;
}

module _ (world : World) where
  -- a `return` of a value
  pub return_end : {X E : Type 0} (r : Result X E) (now mid old : Table) (tree : Stmt) (i : Inside)
      (at : ℕ) (held : Option Expr) (part : Expr) (value : Known) (marked : Bool) (start : ℕ)
      → tree ≡ stmts.Return at held → held ≡ Some part
      → marked ≡ marked_result old.returned
      → value ≡ known_of (expr_known world part (setting_in i.owner old) marked)
      → mid.rows ≡ old.rows ++ (expr_known world part (setting_in i.owner old) marked).rows
      → mid.vars ≡ old.vars → mid.returned ≡ old.returned → start ≡ length old.rows
      → OnOk r (now ≡ after (cut start mid)
      (return_value mid.returned (state_of mid) at (judged_since value start mid)))
      → OnOk r (now.rows ≡ old.rows ++ (stmt_left world tree i (state_of old)).rows)
  return_end r now mid old tree i at held part value marked start p s m k q v w l h =
      on_ok_weaker r (λ (n : now ≡ after (cut start mid)
      (return_value mid.returned (state_of mid) at (judged_since value start mid))).
      ap (λ (t : Table). t.rows) n
      ∙ return_rows at value (expr_known world part (setting_in i.owner old) marked) start mid old
      k q l v w
      ∙ ap (λ x. old.rows ++ (return_value old.returned (state_of old) at
      (expr_known world part (setting_in i.owner old) x)).rows) m
      ∙ sym (ap (λ (f : OfStmt). old.rows ++ (f i (state_of old)).rows)
      (eq.fold_stmt-Return (typing_steps world) at (Some part)))
      ∙ ap (λ x. old.rows ++ (stmt_left world (stmts.Return at x) i (state_of old)).rows) (sym s)
      ∙ ap (λ x. old.rows ++ (stmt_left world x i (state_of old)).rows) (sym p)) h

  -- an expression as a statement
  pub plain_end : {X E : Type 0} (r : Result X E) (now mid old : Table) (tree : Stmt) (i : Inside)
      (part : Expr) (value : Known) (marked : Bool) (start : ℕ)
      → tree ≡ stmts.Plain part → marked ≡ expects i.only (state_of old)
      → value ≡ known_of (expr_known world part (setting_in i.owner old) marked)
      → mid.rows ≡ old.rows ++ (expr_known world part (setting_in i.owner old) marked).rows
      → mid.vars ≡ old.vars → mid.returned ≡ old.returned → start ≡ length old.rows
      → OnOk r (now ≡ after (cut start mid)
      (plain_left i.only (state_of mid) (judged_since value start mid)))
      → OnOk r (now.rows ≡ old.rows ++ (stmt_left world tree i (state_of old)).rows)
  plain_end r now mid old tree i part value marked start p m k q v w l h =
      on_ok_weaker r (λ (n : now ≡ after (cut start mid)
      (plain_left i.only (state_of mid) (judged_since value start mid))).
      ap (λ (t : Table). t.rows) n
      ∙ plain_rows i.only value (expr_known world part (setting_in i.owner old) marked) start mid
      old k q l v w
      ∙ ap (λ x. old.rows ++ (plain_left i.only (state_of old)
      (expr_known world part (setting_in i.owner old) x)).rows) m
      ∙ sym (ap (λ (f : OfStmt). old.rows ++ (f i (state_of old)).rows)
      (eq.fold_stmt-Plain (typing_steps world) part))
      ∙ ap (λ x. old.rows ++ (stmt_left world x i (state_of old)).rows) (sym p)) h

  -- a `switch`
  module _ (tree : Stmt) (at : ℕ) (subject : Expr) (arms slice : List CaseArm)
      (last : Option Block) (i within : Inside) (known : Known)
      (cases : Option (List CaseShape)) (one other inner : Went) (has : Bool) (start : ℕ)
      (mid arms_done done old : Table)
      (p : tree ≡ stmts.Switch at subject arms last) (a : slice ≡ arms) (w : within ≡ in_switch i)
      (k : known ≡ known_of (expr_known world subject (setting_in within.owner old) false))
      (r1 : mid.rows ≡ old.rows
      ++ (expr_known world subject (setting_in within.owner old) false).rows)
      (v1 : mid.vars ≡ old.vars) (t1 : mid.returned ≡ old.returned)
      (c : cases ≡ cases_of world known.ty)
      (o1 : one ≡ went_of (case_arms_left world slice cases within (state_of mid)).left)
      (r2 : arms_done.rows ≡ mid.rows
      ++ (case_arms_left world slice cases within (state_of mid)).left.rows)
      (s2 : state_of arms_done
      ≡ (case_arms_left world slice cases within (state_of mid)).left.state)
      (o2 : other ≡ went_of (otherwise_left world last true within (state_of arms_done)))
      (r3 : done.rows ≡ arms_done.rows
      ++ (otherwise_left world last true within (state_of arms_done)).rows)
      (s3 : state_of done ≡ (otherwise_left world last true within (state_of arms_done)).state)
      (b : inner ≡ both one other) (h : has ≡ is_some last) (l : start ≡ length old.rows) where
    abbrev judged : Judged
    judged = expr_known world subject (setting_in i.owner old) false

    abbrev chosen : Option (List CaseShape)
    chosen = cases_of world judged.ty

    abbrev armed : Armed
    armed = case_arms_left world arms chosen (in_switch i) (state_of old)

    abbrev lasts : Left
    lasts = otherwise_left world last true (in_switch i) armed.left.state

    abbrev branches : Left
    branches = beside armed.left lasts

    known_is : known ≡ known_of judged
    known_is = k
        ∙ ap (λ (x : Inside). known_of (expr_known world subject (setting_in x.owner old) false)) w

    cases_are : cases ≡ chosen
    cases_are = c ∙ ap (λ (x : Known). cases_of world x.ty) known_is

    mid_state : state_of mid ≡ state_of old
    mid_state = λ n. record { vars = v1 n; returned = t1 n }

    arms_are : case_arms_left world slice cases within (state_of mid) ≡ armed
    arms_are = ap (λ x. case_arms_left world x cases within (state_of mid)) a
        ∙ ap (λ x. case_arms_left world arms x within (state_of mid)) cases_are
        ∙ ap (λ x. case_arms_left world arms chosen x (state_of mid)) w
        ∙ ap (case_arms_left world arms chosen (in_switch i)) mid_state

    lasts_are : otherwise_left world last true within (state_of arms_done) ≡ lasts
    lasts_are = ap (λ x. otherwise_left world last true x (state_of arms_done)) w
        ∙ ap (otherwise_left world last true (in_switch i))
        (s2 ∙ ap (λ (x : Armed). x.left.state) arms_are)

    inner_is : inner ≡ went_of branches
    inner_is = b
        ∙ ap (λ x. both x other) (o1 ∙ ap (λ (x : Armed). went_of x.left) arms_are)
        ∙ ap (both (went_of armed.left)) (o2 ∙ ap went_of lasts_are)

    state_is : state_of done ≡ branches.state
    state_is = s3 ∙ ap (λ (x : Left). x.state) lasts_are

    arms_rows : arms_done.rows ≡ (old.rows ++ judged.rows) ++ armed.left.rows
    arms_rows = r2 ∙ ap (λ (x : Armed). mid.rows ++ x.left.rows) arms_are
        ∙ ap (λ rows. rows ++ armed.left.rows)
        (r1 ∙ ap (λ (x : Inside). old.rows
        ++ (expr_known world subject (setting_in x.owner old) false).rows) w)

    done_rows : done.rows ≡ old.rows ++ (judged.rows ++ branches.rows)
    done_rows = r3 ∙ ap (λ (x : Left). arms_done.rows ++ x.rows) lasts_are
        ∙ ap (λ rows. rows ++ lasts.rows) arms_rows
        ∙ append_assoc (old.rows ++ judged.rows) armed.left.rows lasts.rows
        ∙ append_assoc old.rows judged.rows (armed.left.rows ++ lasts.rows)

    whole : stmt_left world tree i (state_of old)
        ≡ switch_left chosen at judged armed.heads (is_some last) branches
    whole = ap (λ x. stmt_left world x i (state_of old)) p
        ∙ ap (λ (f : OfStmt). f i (state_of old))
        (eq.fold_stmt-Switch (typing_steps world) at subject arms last)
        ∙ ap (λ x. switch_left chosen at judged armed.heads x branches)
        (is_some-map (fold_block (typing_steps world)) last)

    heads : map head_at arms ≡ armed.heads
    heads = sym (heads_are world arms chosen (in_switch i) (state_of old))

    parts_are : (F : Left → Table) (G : Option (List CaseShape) → List Head → Bool → Left)
        → F (G cases (map head_at slice) has) ≡ F (G chosen (map head_at arms) (is_some last))
    parts_are F G = ap (λ x. F (G x (map head_at slice) has)) cases_are
        ∙ ap (λ x. F (G chosen (map head_at x) has)) a
        ∙ ap (λ x. F (G chosen (map head_at arms) x)) h

    ends_same : after (cut start done) (switched cases start at known slice has inner done)
        ≡ after old (stmt_left world tree i (state_of old))
    ends_same = parts_are (after (cut start done)) (λ x hs o.
        switch_left x at (judged_of known []) hs o (left_since inner start done))
        ∙ switch_rows chosen at (map head_at arms) (is_some last) known judged inner branches start
        done old known_is inner_is state_is done_rows l
        ∙ ap (λ x. after old (switch_left chosen at judged x (is_some last) branches)) heads
        ∙ ap (after old) (sym whole)

    pub switch_went : went_of (switched cases start at known slice has inner done)
        ≡ went_of (stmt_left world tree i (state_of old))
    switch_went =
        ap (λ x. went_of (switched x start at known slice has inner done)) cases_are
        ∙ ap (λ x. went_of (switched chosen start at known x has inner done)) a
        ∙ ap (λ x. went_of (switched chosen start at known arms x inner done)) h
        ∙ ap (λ x. went_of (switched chosen start at x arms (is_some last) inner done)) known_is
        ∙ ap (λ x. went_of (switched chosen start at (known_of judged) arms (is_some last) x done))
        inner_is
        ∙ ap (λ x. went_of (switch_left chosen at judged x (is_some last) branches)) heads
        ∙ ap went_of (sym whole)

    pub switch_end : {X E : Type 0} (r : Result X E) (now : Table)
        → OnOk r (now ≡ after (cut start done)
        (switched cases start at known slice has inner done))
        → OnOk r (now.rows ≡ old.rows ++ (stmt_left world tree i (state_of old)).rows)
    switch_end r now e = on_ok_weaker r (λ (n : now ≡ after (cut start done)
        (switched cases start at known slice has inner done)).
        ap (λ (t : Table). t.rows) (n ∙ ends_same)) e
