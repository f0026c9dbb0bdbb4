-- What is noted of each form of node.
use Rattle.std.proofs.Common.{◌≡◌, ℕ, false, true, Bool, List, ◌∷◌, ◌++◌, map, Option, Some}
use Rattle.std.proofs.Common.{option_map, unwrap_or, ap, ◌∙◌}
use Rattle.sw_tree.specs.Folds.{Steps, fold_arg, fold_case_arm, fold_if_arm, fold_link}
use Rattle.sw_tree.specs.declared.expr.Arg.{Arg, roll-Arg}
use Rattle.sw_tree.specs.declared.expr.ClosureParam.{ClosureParam}
use Rattle.sw_tree.specs.declared.expr.Expr.{Expr}
use Rattle.sw_tree.specs.declared.expr.Expr.TheOpen as layer
use Rattle.sw_tree.specs.declared.expr.Expr.TheVariants as exprs
use Rattle.sw_tree.specs.declared.expr.Link.{Link, roll-Link}
use Rattle.sw_tree.specs.declared.name.Name.{Name}
use Rattle.sw_tree.specs.declared.operator.AssignOp.{AssignOp}
use Rattle.sw_tree.specs.declared.operator.InfixOp.{InfixOp}
use Rattle.sw_tree.specs.declared.operator.PrefixOp.{PrefixOp}
use Rattle.sw_tree.specs.declared.stmt.Block.{Block, roll-Block}
use Rattle.sw_tree.specs.declared.stmt.CaseArm.{CaseArm, roll-CaseArm}
use Rattle.sw_tree.specs.declared.stmt.IfArm.{IfArm, roll-IfArm}
use Rattle.sw_tree.specs.declared.stmt.Pattern.{Pattern}
use Rattle.sw_tree.specs.declared.stmt.Stmt.{Stmt}
use Rattle.sw_tree.specs.declared.stmt.Stmt.TheVariants as stmts
use Rattle.sw_tree.specs.declared.type_tree.TypeTree.{TypeTree}
use Rattle.sw_tree.proofs.FoldEquations as eq
use Rattle.sw_typing_rules.specs.Judges.{closure_of}
use Rattle.sw_typing_rules.specs.Worlds.{World}
use Rattle.sw_isolation_rules.specs.Answers.{Answers}
use Rattle.sw_isolation_rules.specs.Captures.{closed, list_mentions}
use Rattle.sw_isolation_rules.specs.Noting.{Linked, Notes, all_of, block_notes, body_note}
use Rattle.sw_isolation_rules.specs.Noting.{closure_iso, in_await, in_closure, member_notes}
use Rattle.sw_isolation_rules.specs.Noting.{no_notes, note_steps, place_notes, see, stmt_notes}
use Rattle.sw_isolation_rules.specs.Noting.{task_iso, task_races, var_notes, with_list, word_notes}
use Rattle.sw_isolation_rules.specs.declared.note.Note.{Note}
use Rattle.sw_isolation_rules.specs.declared.note.Note.TheVariants.{Mentioned}
use Rattle.sw_isolation_rules.specs.declared.uses.Context.{Context}

module _ (world : World) (answers : Answers) where
  abbrev steps : Steps
  steps = note_steps world answers

  -- lists of trees, and what may be there
  abbrev pub args_notes : List Arg → Notes
  args_notes args = all_of (map (fold_arg steps) args)

  abbrev pub links_notes : List Link → Notes
  links_notes links = all_of (map (λ (link : Linked). link.operand) (map (fold_link steps) links))

  abbrev pub stmts_notes : List Stmt → Notes
  stmts_notes stmts = all_of (map (stmt_notes world answers) stmts)

  abbrev pub if_arms_notes : List IfArm → Notes
  if_arms_notes arms = all_of (map (fold_if_arm steps) arms)

  abbrev pub case_arms_notes : List CaseArm → Notes
  case_arms_notes arms = all_of (map (fold_case_arm steps) arms)

  abbrev pub otherwise_notes : Option Block → Notes
  otherwise_notes otherwise = unwrap_or (option_map (block_notes world answers) otherwise) no_notes

  module _ (context : Context) (listed : List ℕ) where
    abbrev pub expr_notes : Expr → List Note
    expr_notes expr = (see world answers expr).notes context listed

    abbrev pub notes_in : Block → List Note
    notes_in block = block_notes world answers block context listed

    pub notes-Member : (base : Expr) (name : Name)
        → expr_notes (exprs.Member base name)
        ≡ expr_notes base ++ member_notes world answers (see world answers base) name.at context
    unfolding see
    notes-Member base name =
        ap (λ s. s.notes context listed) (eq.fold_expr-Member steps base name)

    pub before-Member : (base : Expr) (name : Name)
        → (see world answers (exprs.Member base name)).before context listed ≡ expr_notes base
    unfolding see
    before-Member base name =
        ap (λ s. s.before context listed) (eq.fold_expr-Member steps base name)

    pub notes-Call : (name : Name) (args : List Arg)
        → expr_notes (exprs.Call name args)
        ≡ word_notes world answers context name.at ++ args_notes args context listed
    unfolding see
    notes-Call name args = ap (λ s. s.notes context listed) (eq.fold_expr-Call steps name args)

    pub notes-Method : (base : Expr) (name : Name) (args : List Arg)
        → expr_notes (exprs.Method base name args)
        ≡ expr_notes base ++ member_notes world answers (see world answers base) name.at context
        ++ args_notes args context listed
    unfolding see
    notes-Method base name args =
        ap (λ s. s.notes context listed) (eq.fold_expr-Method steps base name args)

    pub notes-Chain : (first : Expr) (rest : List Link)
        → expr_notes (exprs.Chain first rest)
        ≡ expr_notes first ++ links_notes rest context listed
    unfolding see
    notes-Chain first rest =
        ap (λ s. s.notes context listed) (eq.fold_expr-Chain steps first rest)

    pub notes-Prefix : (op : PrefixOp) (at : ℕ) (inner : Expr)
        → expr_notes (exprs.Prefix op at inner) ≡ expr_notes inner
    unfolding see
    notes-Prefix op at inner =
        ap (λ s. s.notes context listed) (eq.fold_expr-Prefix steps op at inner)

    pub notes-Await : (at : ℕ) (inner : Expr)
        → expr_notes (exprs.Await at inner)
        ≡ (see world answers inner).notes (in_await context) listed
    unfolding see
    notes-Await at inner =
        ap (λ s. s.notes context listed) (eq.fold_expr-Await steps at inner)

    -- what is noted inside a closure or a task, in the context of its body
    abbrev pub closure_inner : Context → List Name → Block → List Note
    closure_inner inside captures body =
        map Mentioned (list_mentions world answers inside.owner captures)
        ++ block_notes world answers body inside (with_list world answers inside listed captures)

    abbrev pub closure_noted : Context → ℕ → List Name → Block → List Note
    closure_noted inside at captures body =
        closed world inside at (with_list world answers inside listed captures)
        (closure_inner inside captures body)

    abbrev pub fun_inside : ℕ → Context
    fun_inside at = in_closure context (closure_iso answers at context.iso) false

    abbrev pub task_inside : Option Name → Bool → Context
    task_inside mark detached =
        in_closure context (task_iso world mark detached context.iso) true

    pub notes-Fun : (at : ℕ) (mark : Option Name) (captures : List Name)
        (params : List ClosureParam) (result : Option TypeTree) (body : Block)
        → expr_notes (exprs.Fun (closure_of at mark captures params result body))
        ≡ body_note at (closure_iso answers at context.iso) false
        ∷ closure_noted (fun_inside at) at captures body
    unfolding see block_notes
    notes-Fun at mark captures params result body =
        ap (λ s. s.notes context listed)
        (eq.fold_expr-Fun steps (closure_of at mark captures params result body))
        ∙ ap (λ w. (steps.expr (layer.Fun w)).notes context listed)
        (eq.fold_closure-roll steps at mark captures params result body)

    pub notes-Spawn : (place : ℕ) (detached : Bool) (at : ℕ) (mark : Option Name)
        (captures : List Name) (params : List ClosureParam) (result : Option TypeTree)
        (body : Block)
        → expr_notes (exprs.Spawn place detached (closure_of at mark captures params result body))
        ≡ body_note at (task_iso world mark detached context.iso) true
        ∷ task_races world answers place
        ++ closure_noted (task_inside mark detached) at captures body
    unfolding see block_notes
    notes-Spawn place detached at mark captures params result body =
        ap (λ s. s.notes context listed)
        (eq.fold_expr-Spawn steps place detached
        (closure_of at mark captures params result body))
        ∙ ap (λ w. (steps.expr (layer.Spawn place detached w)).notes context listed)
        (eq.fold_closure-roll steps at mark captures params result body)

    pub notes-arg : (label : Option Name) (value : Expr)
        → fold_arg steps (roll-Arg (record { label = label; value = value })) context listed
        ≡ expr_notes value
    unfolding see
    notes-arg label value =
        ap (λ (n : Notes). n context listed) (eq.fold_arg-roll steps label value)

    pub notes-link : (op : InfixOp) (at : ℕ) (operand : Expr)
        → (fold_link steps (roll-Link (record { op = op; at = at; operand = operand }))).operand
        context listed
        ≡ expr_notes operand
    unfolding see
    notes-link op at operand =
        ap (λ (l : Linked). l.operand context listed) (eq.fold_link-roll steps op at operand)

    abbrev pub noted_stmt : Stmt → List Note
    noted_stmt stmt = stmt_notes world answers stmt context listed

    pub notes-Bind : (mutable : Bool) (name : Name) (ty : Option TypeTree) (value : Expr)
        → noted_stmt (stmts.Bind mutable name ty value)
        ≡ var_notes mutable name.at ++ expr_notes value
    unfolding see stmt_notes
    notes-Bind mutable name ty value =
        ap (λ (n : Notes). n context listed) (eq.fold_stmt-Bind steps mutable name ty value)

    pub notes-Assign : (at : ℕ) (op : AssignOp) (place value : Expr)
        → noted_stmt (stmts.Assign at op place value)
        ≡ place_notes world answers op (see world answers place) context listed
        ++ expr_notes value
    unfolding see stmt_notes
    notes-Assign at op place value =
        ap (λ (n : Notes). n context listed) (eq.fold_stmt-Assign steps at op place value)

    pub notes-Discard : (at : ℕ) (value : Expr)
        → noted_stmt (stmts.Discard at value) ≡ expr_notes value
    unfolding see stmt_notes
    notes-Discard at value =
        ap (λ (n : Notes). n context listed) (eq.fold_stmt-Discard steps at value)

    pub notes-If : (arms : List IfArm) (otherwise : Option Block)
        → noted_stmt (stmts.If arms otherwise)
        ≡ if_arms_notes arms context listed ++ otherwise_notes otherwise context listed
    unfolding stmt_notes block_notes
    notes-If arms otherwise =
        ap (λ (n : Notes). n context listed) (eq.fold_stmt-If steps arms otherwise)

    pub notes-While : (at : ℕ) (cond : Expr) (body : Block)
        → noted_stmt (stmts.While at cond body) ≡ expr_notes cond ++ notes_in body
    unfolding see stmt_notes block_notes
    notes-While at cond body =
        ap (λ (n : Notes). n context listed) (eq.fold_stmt-While steps at cond body)

    pub notes-Switch : (at : ℕ) (subject : Expr) (arms : List CaseArm) (otherwise : Option Block)
        → noted_stmt (stmts.Switch at subject arms otherwise)
        ≡ expr_notes subject ++ case_arms_notes arms context listed
        ++ otherwise_notes otherwise context listed
    unfolding see stmt_notes block_notes
    notes-Switch at subject arms otherwise =
        ap (λ (n : Notes). n context listed) (eq.fold_stmt-Switch steps at subject arms otherwise)

    pub notes-Return : (at : ℕ) (value : Expr)
        → noted_stmt (stmts.Return at (Some value)) ≡ expr_notes value
    unfolding see stmt_notes
    notes-Return at value =
        ap (λ (n : Notes). n context listed) (eq.fold_stmt-Return steps at (Some value))

    pub notes-Plain : (value : Expr) → noted_stmt (stmts.Plain value) ≡ expr_notes value
    unfolding see stmt_notes
    notes-Plain value =
        ap (λ (n : Notes). n context listed) (eq.fold_stmt-Plain steps value)

    pub notes-block : (stmts : List Stmt)
        → notes_in (roll-Block (record { stmts = stmts })) ≡ stmts_notes stmts context listed
    unfolding stmt_notes block_notes
    notes-block stmts = ap (λ (n : Notes). n context listed) (eq.fold_block-roll steps stmts)

    pub notes-if_arm : (at : ℕ) (cond : Expr) (body : Block)
        → fold_if_arm steps (roll-IfArm (record { at = at; cond = cond; body = body })) context
        listed
        ≡ expr_notes cond ++ notes_in body
    unfolding see block_notes
    notes-if_arm at cond body =
        ap (λ (n : Notes). n context listed) (eq.fold_if_arm-roll steps at cond body)

    pub notes-case_arm : (name : Name) (patterns : List Pattern) (body : Block)
        → fold_case_arm steps (roll-CaseArm (record {
          name = name;
          patterns = patterns;
          body = body;
        })) context listed
        ≡ notes_in body
    unfolding block_notes
    notes-case_arm name patterns body =
        ap (λ (n : Notes). n context listed) (eq.fold_case_arm-roll steps name patterns body)
