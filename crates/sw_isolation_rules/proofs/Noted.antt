-- What holds of each note of a use, a store and a closure holds of each note of a tree.
use Rattle.std.proofs.Common.{ℕ, Bool, true, false, List, [], ◌∷◌, ◌++◌, map, Option, Some}
use Rattle.std.proofs.Common.{None, option_map, unwrap_or, not, sym, subst}
use Rattle.std.specs.List.{AllByRecursion}
use Rattle.sw_tree.proofs.FoldEquations as eq
use Rattle.sw_tree.proofs.TreeInduction.{Claims, Cases, Given, every_expr, every_block}
use Rattle.sw_tree.specs.Folds.{Steps, fold_expr, fold_stmt, fold_arg, fold_closure, fold_link}
use Rattle.sw_tree.specs.Folds.{fold_block, fold_case_arm, fold_if_arm}
use Rattle.sw_tree.specs.declared.expr.Arg.{Arg}
use Rattle.sw_tree.specs.declared.expr.Expr.{Expr}
use Rattle.sw_tree.specs.declared.expr.Expr.TheOpen as layer
use Rattle.sw_tree.specs.declared.name.Name.{Name}
use Rattle.sw_tree.specs.declared.operator.AssignOp.{AssignOp}
use Rattle.sw_tree.specs.declared.operator.AssignOp.TheVariants as assigns
use Rattle.sw_tree.specs.declared.stmt.Block.{Block}
use Rattle.sw_types.specs.Sendable.{is_sendable}
use Rattle.sw_types.specs.declared.ty.Ty.{Ty}
use Rattle.sw_typing_rules.specs.Worlds.{World}
use Rattle.sw_isolation_rules.specs.Answers.{Answers}
use Rattle.sw_isolation_rules.specs.Captures.{list_mentions, me_mentions, word_mentions}
use Rattle.sw_isolation_rules.specs.Noting.{Notes, Seen, NotedClosure, Linked, value, no_notes}
use Rattle.sw_isolation_rules.specs.Noting.{all_of}
use Rattle.sw_isolation_rules.specs.Noting.{note_steps, see, block_notes, in_await}
use Rattle.sw_isolation_rules.specs.Noting.{word_notes, member_notes, mention_notes}
use Rattle.sw_isolation_rules.specs.Noting.{use_notes}
use Rattle.sw_isolation_rules.specs.Noting.{task_races, result_races}
use Rattle.sw_isolation_rules.specs.Noting.{task_result}
use Rattle.sw_isolation_rules.specs.Noting.{place_notes, var_notes, used_at}
use Rattle.sw_isolation_rules.specs.Noting.{inner_notes, with_list}
use Rattle.sw_isolation_rules.specs.Uses.{no_base, base_of}
use Rattle.sw_isolation_rules.specs.declared.note.BodyIso.{BodyIso}
use Rattle.sw_isolation_rules.specs.declared.note.Mention.{Mention}
use Rattle.sw_isolation_rules.specs.declared.note.Note.{Note}
use Rattle.sw_isolation_rules.specs.declared.note.Note.TheVariants.{Body, Mentioned, Var}
use Rattle.sw_isolation_rules.specs.declared.uses.Context.{Context}
use Rattle.sw_isolation_rules.specs.declared.uses.Base.{Base}
use Rattle.sw_isolation_rules.proofs.Each.{Each, each_join, mapped}
use Rattle.sw_isolation_rules.proofs.NotedUses.{EachLeaf, of_await, of_closed, of_mentions}
use Rattle.sw_isolation_rules.proofs.NotedUses.{of_race_605, of_store}

-- What holds of the notes that trees are made of.
pub record EachNoted (world : World) (answers : Answers) (P : Note → Type 0) : Type 0 where
  pub leaf : EachLeaf P
  pub bodies : (one : BodyIso) → P (Body one)
  pub vars : (key : ℕ) → P (Var key)
  pub uses : (context : Context) (base : Base) (at : ℕ)
      → Each P (use_notes context at (used_at world answers context base at))

module _ (world : World) (answers : Answers) (P : Note → Type 0)
    (so : EachNoted world answers P) where
  join : (one other : List Note) → Each P one → Each P other → Each P (one ++ other)
  join = each_join P

  noted_mentions : (mentions : List Mention) → Each P (map Mentioned mentions)
  noted_mentions = of_mentions P so.leaf

  abbrev NotesAre : Notes → Type 0
  NotesAre notes = (context : Context) (listed : List ℕ) → Each P (notes context listed)

  record SeenIs (seen : Seen) : Type 0 where
    notes : NotesAre seen.notes
    before : NotesAre seen.before
    stores : (context : Context) (at : ℕ) → Each P (seen.stores context at)

  abbrev WithinIs : NotedClosure → Type 0
  WithinIs closure = NotesAre closure.inside

  abbrev LinkedAre : Linked → Type 0
  LinkedAre link = NotesAre link.operand

  noted_value : (at : ℕ) (notes : Notes) → NotesAre notes → SeenIs (value at notes)
  noted_value at notes are = record {
    notes = are;
    before = λ context listed. tt;
    stores = λ context place. tt;
  }

  noted_all : (list : List Notes) → AllByRecursion NotesAre list → NotesAre (all_of list)
  noted_all [] all context listed = tt
  noted_all (notes ∷ more) all context listed =
      join (notes context listed) (all_of more context listed) (all.0 context listed)
      (noted_all more all.1 context listed)

  noted_word : (at : ℕ) (context : Context) → Each P (word_notes world answers context at)
  noted_word at context =
      join (mention_notes world answers context at) _
      (noted_mentions (word_mentions world answers context.owner at))
      (so.uses context no_base at)

  noted_member : (base : Seen) (at : ℕ) (context : Context)
      → Each P (member_notes world answers base at context)
  noted_member base at context =
      so.uses context (base_of answers base.key base.is_self) at

  noted_of_result : (at : ℕ) (result : Option Ty) → Each P (result_races world at result)
  noted_of_result at None = tt
  noted_of_result at (Some ty) = of_race_605 P so.leaf (not (is_sendable world.shapes ty)) at

  noted_task : (at : ℕ) → Each P (task_races world answers at)
  unfolding task_races
  noted_task at = noted_of_result at (task_result (answers.type_at at))

  noted_var : (mutable : Bool) (at : ℕ) → Each P (var_notes mutable at)
  noted_var true at = (so.vars at, tt)
  noted_var false at = tt

  noted_place : (op : AssignOp) (place : Seen) → SeenIs place
      → NotesAre (place_notes world answers op place)
  noted_place assigns.Set place are context listed =
      join _ _ (are.before context listed) (are.stores context place.key)
  noted_place assigns.Add place are context listed =
      join _ _ (are.notes context listed) (are.stores context place.key)
  noted_place assigns.Subtract place are context listed =
      join _ _ (are.notes context listed) (are.stores context place.key)
  noted_place assigns.Multiply place are context listed =
      join _ _ (are.notes context listed) (are.stores context place.key)
  noted_place assigns.Divide place are context listed =
      join _ _ (are.notes context listed) (are.stores context place.key)
  noted_place assigns.Remainder place are context listed =
      join _ _ (are.notes context listed) (are.stores context place.key)

  abbrev steps : Steps
  steps = note_steps world answers

  abbrev claims : Claims
  claims = record {
    expr = λ x. SeenIs (fold_expr steps x);
    stmt = λ x. NotesAre (fold_stmt steps x);
    arg = λ x. NotesAre (fold_arg steps x);
    closure = λ x. WithinIs (fold_closure steps x);
    link = λ x. LinkedAre (fold_link steps x);
    block = λ x. NotesAre (fold_block steps x);
    case_arm = λ x. NotesAre (fold_case_arm steps x);
    if_arm = λ x. NotesAre (fold_if_arm steps x);
  }

  noted_args : (args : List Arg) → AllByRecursion claims.arg args
      → NotesAre (all_of (map (fold_arg steps) args))
  noted_args args all = noted_all _ (mapped NotesAre (fold_arg steps) args all)

  operands_are : (links : List Linked) → AllByRecursion LinkedAre links
      → AllByRecursion NotesAre (map (λ (link : Linked). link.operand) links)
  operands_are [] all = tt
  operands_are (link ∷ links) all = (all.0, operands_are links all.1)

  noted_otherwise : (otherwise : Option Block) → Given claims.block otherwise
      → NotesAre (unwrap_or (option_map (fold_block steps) otherwise)
      no_notes)
  noted_otherwise None are = λ context listed. tt
  noted_otherwise (Some block) are = are

  noted_returned : (at : ℕ) (value : Option Expr) → Given claims.expr value
      → NotesAre (steps.stmt (layer.Return at (option_map (fold_expr steps) value)))
  noted_returned at None are = λ context listed. tt
  noted_returned at (Some given) are = are.notes

  noted_inner : (words : List Name) (body : Notes) → NotesAre body → (context : Context)
      (listed : List ℕ) → Each P (inner_notes world answers words body context listed)
  noted_inner words body are context listed =
      join (map Mentioned (list_mentions world answers context.owner words)) _
      (noted_mentions (list_mentions world answers context.owner words))
      (are context (with_list world answers context listed words))

  cases : Cases claims
  cases = record {
    int = λ at value. subst SeenIs (sym (eq.fold_expr-Int steps at value))
        (noted_value at no_notes (λ context listed. tt));
    bool = λ at value. subst SeenIs (sym (eq.fold_expr-Bool steps at value))
        (noted_value at no_notes (λ context listed. tt));
    use_of = λ name. subst SeenIs (sym (eq.fold_expr-Use steps name))
        (record {
          notes = λ context listed. noted_word name.at context;
          before = λ context listed.
              noted_mentions (word_mentions world answers context.owner name.at);
          stores = λ context place.
              of_store P so.leaf context place (used_at world answers context no_base name.at) []
              tt;
        });
    me = λ at. subst SeenIs (sym (eq.fold_expr-Me steps at))
        (record {
          notes = λ context listed. noted_mentions (me_mentions world context.owner at);
          before = λ context listed. noted_mentions (me_mentions world context.owner at);
          stores = λ context place. tt;
        });
    member = λ base name of_base. subst SeenIs (sym (eq.fold_expr-Member steps base name))
        (record {
          notes = λ context listed.
              join _ _ (of_base.notes context listed)
              (noted_member (fold_expr steps base) name.at context);
          before = of_base.notes;
          stores = λ context place.
              of_store P so.leaf context place (used_at world answers context
              (base_of answers (fold_expr steps base).key (fold_expr steps base).is_self) name.at)
              ((fold_expr steps base).stores context place) (of_base.stores context place);
        });
    call = λ name args all. subst SeenIs (sym (eq.fold_expr-Call steps name args))
        (noted_value name.at _ (λ context listed.
        join _ _ (noted_word name.at context) (noted_args args all context listed)));
    method = λ base name args of_base all.
        subst SeenIs (sym (eq.fold_expr-Method steps base name args))
        (noted_value name.at _ (λ context listed.
        join _ _
        (join _ _ (of_base.notes context listed)
        (noted_member (fold_expr steps base) name.at context))
        (noted_args args all context listed)));
    chain = λ first rest of_first all. subst SeenIs (sym (eq.fold_expr-Chain steps first rest))
        (noted_value _ _ (λ context listed.
        join _ _ (of_first.notes context listed)
        (noted_all _ (operands_are _ (mapped LinkedAre (fold_link steps) rest all))
        context listed)));
    prefix = λ op at inner of_inner. subst SeenIs (sym (eq.fold_expr-Prefix steps op at inner))
        (noted_value at _ of_inner.notes);
    await = λ at inner of_inner. subst SeenIs (sym (eq.fold_expr-Await steps at inner))
        (noted_value at _ (λ context listed. of_inner.notes (in_await context) listed));
    fun = λ closure inside. subst SeenIs (sym (eq.fold_expr-Fun steps closure))
        (noted_value _ _ (λ context listed. (so.bodies _, inside _ listed)));
    spawn = λ at detached body inside.
        subst SeenIs (sym (eq.fold_expr-Spawn steps at detached body))
        (noted_value at _ (λ context listed.
        (so.bodies _, join (task_races world answers at) _ (noted_task at) (inside _ listed))));
    yield = λ at. subst SeenIs (sym (eq.fold_expr-Yield steps at))
        (noted_value at _ (λ context listed. of_await P so.leaf context at true));
    bind = λ mutable name ty value of_value.
        subst NotesAre (sym (eq.fold_stmt-Bind steps mutable name ty value))
        (λ context listed. join _ _ (noted_var mutable name.at) (of_value.notes context listed));
    assign = λ at op place value of_place of_value.
        subst NotesAre (sym (eq.fold_stmt-Assign steps at op place value))
        (λ context listed.
        join _ _ (noted_place op (fold_expr steps place) of_place context listed)
        (of_value.notes context listed));
    discard = λ at value of_value. subst NotesAre (sym (eq.fold_stmt-Discard steps at value))
        of_value.notes;
    if_of = λ arms otherwise all last. subst NotesAre (sym (eq.fold_stmt-If steps arms otherwise))
        (λ context listed.
        join _ _
        (noted_all _ (mapped NotesAre (fold_if_arm steps) arms all) context listed)
        (noted_otherwise otherwise last context listed));
    while_of = λ at cond body of_cond of_body.
        subst NotesAre (sym (eq.fold_stmt-While steps at cond body))
        (λ context listed. join _ _ (of_cond.notes context listed) (of_body context listed));
    switch = λ at subject arms otherwise of_subject all last.
        subst NotesAre (sym (eq.fold_stmt-Switch steps at subject arms otherwise))
        (λ context listed.
        join _ _
        (join _ _ (of_subject.notes context listed)
        (noted_all _ (mapped NotesAre (fold_case_arm steps) arms all) context listed))
        (noted_otherwise otherwise last context listed));
    return_of = λ at value given. subst NotesAre (sym (eq.fold_stmt-Return steps at value))
        (noted_returned at value given);
    break_of = λ at. subst NotesAre (sym (eq.fold_stmt-Break steps at)) (λ context listed. tt);
    continue_of = λ at. subst NotesAre (sym (eq.fold_stmt-Continue steps at))
        (λ context listed. tt);
    plain = λ value of_value. subst NotesAre (sym (eq.fold_stmt-Plain steps value))
        of_value.notes;
    arg = λ label value of_value. subst NotesAre (sym (eq.fold_arg-roll steps label value))
        of_value.notes;
    closure = λ at mark captures params result body of_body.
        subst WithinIs
        (sym (eq.fold_closure-roll steps at mark captures params result body))
        (λ context listed.
        of_closed P so.leaf at world context (with_list world answers context listed captures)
        (inner_notes world answers captures (fold_block steps body) context listed)
        (noted_inner captures (fold_block steps body) of_body context listed));
    link = λ op at operand of_operand.
        subst LinkedAre (sym (eq.fold_link-roll steps op at operand)) of_operand.notes;
    block = λ stmts all. subst NotesAre (sym (eq.fold_block-roll steps stmts))
        (noted_all _ (mapped NotesAre (fold_stmt steps) stmts all));
    case_arm = λ name patterns body of_body.
        subst NotesAre (sym (eq.fold_case_arm-roll steps name patterns body)) of_body;
    if_arm = λ at cond body of_cond of_body.
        subst NotesAre (sym (eq.fold_if_arm-roll steps at cond body))
        (λ context listed. join _ _ (of_cond.notes context listed) (of_body context listed));
  }

  pub noted_expr : (e : Expr) (context : Context) (listed : List ℕ)
      → Each P ((see world answers e).notes context listed)
  unfolding see
  noted_expr e context listed = (every_expr claims cases e).notes context listed

  pub noted_block : (block : Block) (context : Context) (listed : List ℕ)
      → Each P (block_notes world answers block context listed)
  unfolding block_notes
  noted_block block context listed = every_block claims cases block context listed
