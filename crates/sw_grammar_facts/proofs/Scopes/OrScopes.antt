-- What the statements of `let x: T = e ?? d` declare, their scopes, and what they weigh.
use Rattle.std.proofs.Common.{◌≡◌, ℕ, suc, ◌+◌, ◌≤◌, ◌<◌, true, IsTrue, List, [], ◌∷◌, Some, length}
use Rattle.std.proofs.Common.{sym, ap, subst, ◌∙◌, arith}
use Rattle.sw_token.specs.Spelling.{Spelled}
use Rattle.sw_tree.proofs.FoldEquations as eq
use Rattle.sw_tree.specs.Folds.{fold_block, fold_case_arm, fold_expr, fold_stmt}
use Rattle.sw_tree.specs.Names.{id_in}
use Rattle.sw_tree.specs.Scopes.{Scoped, Stated, both, declaring, each, maybe, scope_steps}
use Rattle.sw_tree.specs.Scopes.{sequence, stated, using}
use Rattle.sw_tree.specs.declared.expr.Expr.{Expr}
use Rattle.sw_tree.specs.declared.expr.Expr.TheVariants as exprs
use Rattle.sw_tree.specs.declared.name.Name.{Name}
use Rattle.sw_tree.specs.declared.operator.AssignOp.TheVariants as assigns
use Rattle.sw_tree.specs.declared.stmt.Pattern.TheVariants as patterns
use Rattle.sw_tree.specs.declared.type_tree.TypeTree.{TypeTree}
use Rattle.sw_sugar.specs.Calls.{or_literal_form, whole_text}
use Rattle.sw_sugar.specs.Optionals.{block_of, declared, name_at, or_literal_stmts, or_switch}
use Rattle.sw_sugar.specs.Optionals.{some_arm, taken}
use Rattle.sw_sugar.specs.declared.words.OrLiteral.{OrLiteral}
use Rattle.sw_grammar.specs.Around.{index_in}
use Rattle.sw_grammar.specs.Stmts.{Binding, Or}
use Rattle.sw_grammar_facts.proofs.KeysDiffer.{or_keys}
use Rattle.sw_grammar_facts.proofs.Scopes.OrLiteral.{or_stated, weigh_or}
use Rattle.sw_grammar_facts.proofs.Spread.{spread}
use Rattle.sw_grammar_facts.proofs.Scopes.Ids.{is_known, is_whole, whole_is, whole_known}
use Rattle.sw_grammar_facts.proofs.Weighing.{IsTyped}
use Rattle.sw_grammar_facts.proofs.Scopes.Nodes.{expr, node, place, same_scope, stated_of, stmts}

module _ (texts : List (List ℕ)) where
  -- what the statements of `let x: T = e ?? d` declare, and their scopes
  pub or_scopes : (form : OrLiteral) (ty : TypeTree) (value literal : Expr)
      → stated_of (or_literal_stmts form ty value literal)
      ≡ or_stated (is_whole texts) form.word.whole form.word.part form.op_at (suc form.op_at) (suc form.let_at)
      (suc (suc form.let_at)) form.colon_at form.word.name (fold_expr scope_steps value)
      (fold_expr scope_steps literal)
  or_scopes form ty value literal =
      ap (λ one. one ∷ fold_stmt scope_steps (or_switch form value)
      ∷ fold_stmt scope_steps (declared form ty) ∷ [])
      (eq.fold_stmt-Bind scope_steps true first (Some ty) literal)
      ∙ ap (λ one. bound ∷ one ∷ fold_stmt scope_steps (declared form ty) ∷ []) of_switch
      ∙ ap (λ one. bound ∷ stated (switch_of made_arm (sequence [])) ∷ one ∷ []) of_last
    where
      first : Name
      first = name_at form.op_at form.word.whole

      target : Name
      target = name_at (suc form.op_at) form.word.whole

      part : Name
      part = name_at (suc form.let_at) form.word.part

      last : Name
      last = name_at (suc (suc form.let_at)) form.word.whole

      part_word : Name
      part_word = name_at form.colon_at form.word.part

      bound : Stated
      bound = record { names = first ∷ []; inside = fold_expr scope_steps literal }

      switch_of : Scoped → Scoped → Scoped
      switch_of arm otherwise =
          both (both (fold_expr scope_steps value) (each (arm ∷ []))) (maybe (Some otherwise))

      assigned : Scoped
      assigned = sequence (stated (both (using target) (using part)) ∷ [])

      made_arm : Scoped
      made_arm = declaring (part_word ∷ []) [] assigned

      of_assignment : fold_stmt scope_steps (taken form) ≡ stated (both (using target) (using part))
      of_assignment =
          eq.fold_stmt-Assign scope_steps form.let_at assigns.Set (exprs.Use target) (exprs.Use part)
          ∙ ap (λ one. stated (both one (fold_expr scope_steps (exprs.Use part))))
          (eq.fold_expr-Use scope_steps target)
          ∙ ap (λ one. stated (both (using target) one)) (eq.fold_expr-Use scope_steps part)

      of_arm : fold_case_arm scope_steps (some_arm form.some form.colon_at part_word
          (block_of (taken form ∷ []))) ≡ made_arm
      of_arm =
          eq.fold_case_arm-roll scope_steps (name_at form.colon_at form.some)
          (patterns.Let part_word ∷ []) (block_of (taken form ∷ []))
          ∙ ap (declaring (part_word ∷ []) []) (eq.fold_block-roll scope_steps (taken form ∷ [])
          ∙ ap (λ one. sequence (one ∷ [])) of_assignment)

      of_switch : fold_stmt scope_steps (or_switch form value)
          ≡ stated (switch_of made_arm (sequence []))
      of_switch =
          eq.fold_stmt-Switch scope_steps form.eq_at value (some_arm form.some form.colon_at part_word
          (block_of (taken form ∷ [])) ∷ []) (Some (block_of []))
          ∙ ap (λ arm. stated (switch_of arm (fold_block scope_steps (block_of [])))) of_arm
          ∙ ap (λ otherwise. stated (switch_of made_arm otherwise))
          (eq.fold_block-roll scope_steps [])

      of_last : fold_stmt scope_steps (declared form ty)
          ≡ record { names = form.word.name ∷ []; inside = using last }
      of_last =
          eq.fold_stmt-Bind scope_steps form.mutable form.word.name (Some ty) (exprs.Use last)
          ∙ ap (λ inside. record { names = form.word.name ∷ []; inside = inside })
          (eq.fold_expr-Use scope_steps last)

  pub or_weighs : (binding : Binding) (word_token colon : Spelled)
      → (typed : IsTyped (index_in texts) binding word_token colon)
      → IsTrue (is_known texts (typed.let_token ∷ word_token ∷ colon ∷ []))
      → (colon_at : ℕ) (ty : TypeTree) (eq_at : ℕ) (value : Expr) (or : Or) (k : ℕ)
      → stmts texts (or_literal_stmts (or_literal_form (index_in texts) binding.word.text
      binding.mutable binding.word.name binding.let_at colon_at eq_at or.op_at) ty value or.other) k
      ≤ spread place 3 binding.let_at k + node texts binding.word.name k + place colon_at k
      + place eq_at k + expr texts value k + spread place 2 or.op_at k + expr texts or.other k
  unfolding spread
  or_weighs binding word_token colon typed known colon_at ty eq_at value or k =
      let form = or_literal_form (index_in texts) binding.word.text binding.mutable binding.word.name
      binding.let_at colon_at eq_at or.op_at in
      let has = subst (λ (text : List ℕ). id_in texts (whole_text text) < length texts)
      (sym typed.text) (whole_known texts typed.let_token word_token colon typed.is_let
      typed.is_word typed.is_colon known) in
      omega (
        arith,
        or_keys form ty value or.other k,
        same_scope texts (ap sequence (or_scopes form ty value or.other)) k,
        weigh_or (is_whole texts) form.word.whole form.word.part or.op_at (suc or.op_at)
            (suc binding.let_at) (suc (suc binding.let_at)) colon_at binding.word.name (fold_expr scope_steps value)
            (fold_expr scope_steps or.other) (whole_is texts binding.word.text has) k,
      )
