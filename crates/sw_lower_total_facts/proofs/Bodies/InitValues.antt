-- What the statements of an initialiser give proceeds, and has the names of the properties that
-- they set.
use Rattle.std.proofs.Common.{◌≡◌, ℕ, Bool, true, false, List, [], ◌∷◌, ◌++◌, Option, Some, None}
use Rattle.std.proofs.Common.{map, flat_map, Contains, is_some, refl, ap, sym, ◌∙◌, subst}
use Rattle.std.proofs.Common.{true≢false, inl, inr, ◌⊎◌}
use Rattle.std.proofs.lemmas.List.{map-append}
use Rattle.std.proofs.lemmas.List.Elements.{Contains-append_cases}
use Rattle.std.specs.Prelude.{if◌then◌else◌, option_to_list}
use Rattle.sw_list.proofs.Members.{none_in}
use Rattle.sw_tree.specs.Folds.{Steps, fold_expr, fold_stmt}
use Rattle.sw_tree.specs.declared.decl.Decl.{Decl}
use Rattle.sw_tree.specs.declared.expr.Expr.{Expr}
use Rattle.sw_tree.specs.declared.expr.Expr.TheOpen as layer
use Rattle.sw_tree.specs.declared.expr.Expr.TheVariants as exprs
use Rattle.sw_tree.specs.declared.name.Name.{Name}
use Rattle.sw_tree.specs.declared.operator.AssignOp.{AssignOp}
use Rattle.sw_tree.specs.declared.operator.AssignOp.TheVariants as assigns
use Rattle.sw_tree.specs.declared.stmt.Block.{Block, out-roll-Block, roll-Block}
use Rattle.sw_tree.specs.declared.stmt.Stmt.{Stmt, out-Stmt}
use Rattle.sw_tree.specs.declared.stmt.Stmt.TheVariants as stmts
use Rattle.sw_tree.proofs.FoldEquations as eq
use Rattle.sw_tree_facts.specs.Unwritten.{block_unwritten, expr_unwritten, unwritten_steps}
use Rattle.sw_decl_words.specs.Evident.{meanings_of}
use Rattle.sw_decl_values.specs.Values.{StmtLayer, me_layer, place_layer, set_by, set_in, sets_layer}
use Rattle.sw_decls.specs.declared.signature.AsyncDefault.{AsyncDefault}
use Rattle.sw_typing_rules.specs.Expressions.{Judged}
use Rattle.sw_typing_rules.specs.Judges as is
use Rattle.sw_typing_rules.specs.Judges.{Judges, Leaves, LeavesAll, LeavesBlock}
use Rattle.sw_typing_rules.specs.Statements.{Left, State, in_body, setting_of, fixed}
use Rattle.sw_typing_rules.specs.Verdicts.{ill_if}
use Rattle.sw_typing_rules.specs.Words.{local}
use Rattle.sw_typing_rules.specs.Worlds.{World}
use Rattle.sw_typing_rules.specs.declared.scope.Inside.{Inside}
use Rattle.sw_typing_rules.specs.declared.scope.Var.{Var}
use Rattle.sw_isolation_rules.specs.declared.note.Note.{Note}
use Rattle.sw_isolation_rules.specs.declared.uses.Context.{Context}
use Rattle.sw_lower_plans.specs.Plan.{Numbers}
use Rattle.sw_lower_plans.specs.Run.{Making}
use Rattle.sw_lower_rules.specs.Carriers.{BlockCode, Given, StmtCode}
use Rattle.sw_lower_rules.specs.Statements.{block_code, code_steps, expr_code}
use Rattle.sw_lower_rules.specs.Tables.{Tables}
use Rattle.sw_lower_formed_facts.specs.Forms.{VarsHold}
use Rattle.sw_typing_facts.specs.Rows.{RowsHold}
use Rattle.sw_lower_formed_facts.proofs.Bodies.InitStmts.{in_init, own_gives, own_inside}
use Rattle.sw_typing_facts.proofs.Lists.Joined.{all_left, all_right}
use Rattle.sw_typing_facts.proofs.Lists.Listed.{in_first, in_rest, only_in}
use Rattle.sw_typing_facts.proofs.Programs.DeclStands.{none_left, none_right}
use Rattle.sw_typing_facts.proofs.Programs.OwnAssigns.{OwnAssign}
use Rattle.sw_typing_facts.proofs.Said.Rows.{rows_left, rows_right}
use Rattle.sw_typing_facts.specs.EnumWords as enums
use Rattle.sw_typing_facts.specs.EnumWords.{AreUnmeant}
use Rattle.sw_lower_total_facts.specs.Proceeding.{Proceeds}
use Rattle.sw_lower_total_facts.specs.Programs.{noted_tables, notes_of}
use Rattle.sw_lower_total_facts.specs.Trees.{BlockStands}
use Rattle.sw_lower_total_facts.proofs.Bodies.Given.{IsProgram}
use Rattle.sw_lower_total_facts.proofs.Bodies.GivenValues.{Begun, simple_proceeds}
use Rattle.sw_lower_total_facts.proofs.Standing.Trees.{StandStmts, StandsExpr, StandsStmt}
use Rattle.sw_lower_total_facts.proofs.Standing.Trees.{assign_value_stands, block_stmts_stand}
use Rattle.sw_lower_total_facts.proofs.Standing.Trees.{stmts_after_stand, stmts_first_stands}

-- the parts of an assignment
abbrev is_assign : StmtLayer → Bool
is_assign (layer.Assign at op place value) = true
is_assign _ = false

abbrev value_in : Expr → StmtLayer → Expr
value_in other (layer.Assign at op place value) = value
value_in other _ = other

-- An assignment is no other statement.
other_stmt : (l : StmtLayer) (at : ℕ) (op : AssignOp) (place value : Expr) → is_assign l ≡ false
    → l ≡ layer.Assign at op place value → ⊥
other_stmt l at op place value other is = true≢false (sym (ap is_assign is) ∙ other)

-- what is so of the value of an assignment that is judged
record Assigned (tables : Tables) (inside : Inside) (state : State) (left : Left) (value : Expr)
    : Type 0 where
  expected : Bool
  judged : Judged
  judges : Judges tables.world (setting_of inside state) expected value judged
  unmeant : AreUnmeant tables.answers
      (enums.in_expr tables.world (setting_of inside state) expected value judged judges)
  rows : RowsHold tables.answers left.rows → RowsHold tables.answers judged.rows
  still : left.state ≡ state

assigned : (tables : Tables) (inside : Inside) (state : State) (stmt : Stmt) (left : Left)
    (leaves : Leaves tables.world inside state stmt left) (at : ℕ) (op : AssignOp)
    (place value : Expr) → out-Stmt stmt ≡ layer.Assign at op place value
    → AreUnmeant tables.answers (enums.in_stmt tables.world inside state stmt left leaves)
    → Assigned tables inside state left value
unfolding enums.in_stmt
assigned tables inside state stmt left (is.bind _ _ mutable name ty bound judged of_value) at op
    place value out none =
    absurd (other_stmt _ at op place value refl (sym (stmts.outs-Bind mutable name ty bound) ∙ out))
assigned tables inside state stmt left
    (is.assign _ _ key by target given placed judged of_place of_value) at op place value out none =
    subst (Assigned tables inside state left)
    (ap (value_in given) (sym (stmts.outs-Assign key by target given) ∙ out)) (record {
      expected = _;
      judged = judged;
      judges = of_value;
      unmeant = all_right (λ at. tables.answers.meaning_at at ≡ None) _ _ none;
      rows = λ rows.
          rows_left tables.answers judged.rows _
          (rows_right tables.answers (ill_if (fixed inside placed) placed.key 404) _
          (rows_right tables.answers placed.rows _ rows));
      still = refl;
    })
assigned tables inside state stmt left (is.discard _ _ key given judged of_value) at op place value
    out none =
    absurd (other_stmt _ at op place value refl (sym (stmts.outs-Discard key given) ∙ out))
assigned tables inside state stmt left (is.if_of _ _ arms otherwise one last of_arms of_other) at op
    place value out none =
    absurd (other_stmt _ at op place value refl (sym (stmts.outs-If arms otherwise) ∙ out))
assigned tables inside state stmt left (is.while_of _ _ key cond body judged one of_cond of_body) at
    op place value out none =
    absurd (other_stmt _ at op place value refl (sym (stmts.outs-While key cond body) ∙ out))
assigned tables inside state stmt left
    (is.switch _ _ key subject arms otherwise judged armed last of_subject of_cases of_other) at op
    place value out none =
    absurd (other_stmt _ at op place value refl
    (sym (stmts.outs-Switch key subject arms otherwise) ∙ out))
assigned tables inside state stmt left (is.return_nothing _ _ key) at op place value out none =
    absurd (other_stmt _ at op place value refl (sym (stmts.outs-Return key None) ∙ out))
assigned tables inside state stmt left (is.return_of _ _ key given judged of_value) at op place
    value out none =
    absurd (other_stmt _ at op place value refl (sym (stmts.outs-Return key (Some given)) ∙ out))
assigned tables inside state stmt left (is.break_of _ _ key) at op place value out none =
    absurd (other_stmt _ at op place value refl (sym (stmts.outs-Break key) ∙ out))
assigned tables inside state stmt left (is.continue_of _ _ key) at op place value out none =
    absurd (other_stmt _ at op place value refl (sym (stmts.outs-Continue key) ∙ out))
assigned tables inside state stmt left (is.plain _ _ given judged of_value) at op place value out
    none =
    absurd (other_stmt _ at op place value refl (sym (stmts.outs-Plain given) ∙ out))

-- the property that `self.p = e` sets
sets_name : (stmt : Stmt) (at me : ℕ) (name : Name) (value : Expr)
    → out-Stmt stmt ≡ layer.Assign at assigns.Set (exprs.Member (exprs.Me me) name) value
    → set_by stmt ≡ Some name
sets_name stmt at me name value out =
    ap sets_layer out ∙ ap place_layer (exprs.outs-Member (exprs.Me me) name)
    ∙ ap (λ own. if own then Some name else None) (ap me_layer (exprs.outs-Me me))

module _ (world : World) (decls : List Decl) (rule : AsyncDefault) (number : Numbers)
    (program : IsProgram world decls rule number) (n : ℕ) (params : ℕ → Option ℕ)
    (context : Context) (owner : context.owner ≡ Some n) where
  abbrev tables : Tables
  tables = noted_tables world decls

  abbrev all : List Note
  all = notes_of world decls

  abbrev steps : Steps
  steps = code_steps tables (Some n)

  -- The parameters are the variables that are seen.
  abbrev pub Agree : List Var → Type 0
  Agree vars = (id : ℕ) → is_some (params id) ≡ is_some (local vars id)

  -- What is given proceeds, and has these names.
  pub record Gives (state : State) (given : List Given) (names : List Name) : Type 0 where
    pub reads : (one : Given) → Contains given one → (s : Making)
        → Begun tables number state.vars s → Proceeds s one.read
    pub named : map (λ (one : Given). one.name) given ≡ map (λ (name : Name). name.id) names

  none_given : (state : State) → Gives state [] []
  none_given state = record { reads = λ one has. absurd (none_in one has); named = refl }

  join_given : (state : State) (one other : List Given) (names more : List Name)
      → Gives state one names → Gives state other more → Gives state (one ++ other) (names ++ more)
  join_given state one other names more first second = record {
    reads = λ given has. by given (Contains-append_cases one other given has);
    named = map-append (λ (one : Given). one.name) one other
        ∙ ap (λ before. before ++ map (λ (one : Given). one.name) other) first.named
        ∙ ap (λ after. map (λ (name : Name). name.id) names ++ after) second.named
        ∙ sym (map-append (λ (name : Name). name.id) names more);
  } where
    by : (given : Given) → Contains one given ⊎ Contains other given → (s : Making)
        → Begun tables number state.vars s → Proceeds s given.read
    by given (inl has) = first.reads given has
    by given (inr has) = second.reads given has

  -- what a statement gives
  record StmtGives (state : State) (stmt : Stmt) (left : Left) : Type 0 where
    gives : Gives state (fold_stmt steps stmt).gives (option_to_list (set_by stmt))
    inside : (fold_stmt steps stmt).inside ≡ []
    still : left.state ≡ state

  assign_gives : (only : Bool) (state : State) (stmt : Stmt) (left : Left)
      (leaves : Leaves world (in_init n only) state stmt left) → VarsHold tables.answers state.vars
      → Agree state.vars → RowsHold tables.answers left.rows
      → AreUnmeant tables.answers (enums.in_stmt world (in_init n only) state stmt left leaves)
      → fold_stmt unwritten_steps stmt ≡ [] → StandsStmt tables all context [] state.vars stmt
      → OwnAssign (meanings_of decls) n params stmt → StmtGives state stmt left
  unfolding expr_code expr_unwritten
  assign_gives only state stmt left leaves vars agree rows unmeant tasks stands own = record {
    gives = subst (λ given. Gives state given (option_to_list (set_by stmt))) (sym gives)
        (subst (λ name. Gives state (one ∷ []) (option_to_list name))
        (sym (sets_name stmt own.sets.at own.sets.me own.name value own.sets.out)) (record {
          reads = λ given has s begun.
              subst (λ (g : Given). Proceeds s g.read) (only_in one given has) (read s begun);
          named = refl;
        }));
    inside = own_inside tables n (meanings_of decls) params stmt own;
    still = it.still;
  } where
    value : Expr
    value = own.sets.value

    place : Expr
    place = exprs.Member (exprs.Me own.sets.me) own.name

    one : Given
    one = record { name = own.name.id; read = (expr_code tables (Some n) value).read }

    gives : (fold_stmt steps stmt).gives ≡ one ∷ []
    gives = own_gives tables n (meanings_of decls) params stmt own

    it : Assigned tables (in_init n only) state left value
    it = assigned tables (in_init n only) state stmt left leaves own.sets.at assigns.Set place value
        own.sets.out unmeant

    none : expr_unwritten value ≡ []
    none = none_right (fold_expr unwritten_steps place) _
        (sym (ap (fold_stmt unwritten_steps) own.sets.is
        ∙ eq.fold_stmt-Assign unwritten_steps own.sets.at assigns.Set place value) ∙ tasks)

    there : StandsExpr tables all context [] state.vars value
    there = assign_value_stands tables all context [] state.vars own.sets.at assigns.Set place value
        (subst (StandsStmt tables all context [] state.vars) own.sets.is stands)

    read : (s : Making) → Begun tables number state.vars s
        → Proceeds s (expr_code tables (Some n) value).read
    read = simple_proceeds world decls rule number program (setting_of (in_init n only) state)
        it.expected value it.judged it.judges it.unmeant none vars (it.rows rows) params agree
        own.simple context owner there

  -- what statements give
  pub record AllGive (state : State) (xs : List Stmt) : Type 0 where
    pub gives : Gives state
        (flat_map (λ (one : StmtCode). one.gives) (map (fold_stmt steps) xs)) (set_in xs)
    pub inside : flat_map (λ (one : StmtCode). one.inside) (map (fold_stmt steps) xs) ≡ []

  stmts_give : (only : Bool) (state : State) (xs : List Stmt) (left : Left)
      (leaves : LeavesAll world (in_init n only) state xs left)
      → VarsHold tables.answers state.vars → Agree state.vars → RowsHold tables.answers left.rows
      → AreUnmeant tables.answers (enums.in_stmts world (in_init n only) state xs left leaves)
      → flat_map (λ more. more) (map (fold_stmt unwritten_steps) xs) ≡ []
      → StandStmts tables all context [] state.vars xs
      → ((x : Stmt) → Contains xs x → OwnAssign (meanings_of decls) n params x)
      → AllGive state xs
  unfolding enums.in_stmts
  stmts_give only state xs left (is.no_stmt _ _) vars agree rows unmeant tasks stands own =
      record { gives = none_given state; inside = refl }
  stmts_give only state xs left (is.one_stmt _ _ stmt more one last d rest) vars agree rows unmeant
      tasks stands own =
      let first = assign_gives only state stmt one d vars agree
      (rows_left tables.answers one.rows last.rows rows)
      (all_left (λ at. tables.answers.meaning_at at ≡ None) _ _ unmeant)
      (none_left (fold_stmt unwritten_steps stmt) _ tasks)
      (stmts_first_stands tables all context [] state.vars stmt more stands)
      (own stmt (in_first stmt more)) in
      let later = subst (λ s. AllGive s more) first.still
      (stmts_give only one.state more last rest
      (subst (λ (s : State). VarsHold tables.answers s.vars) (sym first.still) vars)
      (subst (λ (s : State). Agree s.vars) (sym first.still) agree)
      (rows_right tables.answers one.rows last.rows rows)
      (all_right (λ at. tables.answers.meaning_at at ≡ None) _ _ unmeant)
      (none_right (fold_stmt unwritten_steps stmt) _ tasks)
      (stmts_after_stand tables all context [] (in_init n only) state stmt more one d stands)
      (λ x has. own x (in_rest stmt more x has))) in record {
        gives = join_given state (fold_stmt steps stmt).gives
            (flat_map (λ (one : StmtCode). one.gives) (map (fold_stmt steps) more))
            (option_to_list (set_by stmt)) (set_in more) first.gives later.gives;
        inside = ap (λ before. before
            ++ flat_map (λ (one : StmtCode). one.inside) (map (fold_stmt steps) more)) first.inside
            ∙ later.inside;
      }

  -- what the block of an initialiser gives
  pub record BlockGives (state : State) (block : Block) : Type 0 where
    pub gives : Gives state (block_code tables (Some n) block).gives (set_in block.stmts)
    pub inside : (block_code tables (Some n) block).inside ≡ []

  pub block_gives : (state : State) (block : Block) (left : Left)
      (leaves : LeavesBlock world (in_body (Some n) true) state block left)
      → VarsHold tables.answers state.vars → Agree state.vars → RowsHold tables.answers left.rows
      → AreUnmeant tables.answers
      (enums.in_block world (in_body (Some n) true) state block left leaves)
      → block_unwritten block ≡ [] → BlockStands tables number all context [] state.vars block
      → ((x : Stmt) → Contains block.stmts x → OwnAssign (meanings_of decls) n params x)
      → BlockGives state block
  unfolding enums.in_block block_code block_unwritten
  block_gives state block left (is.block _ _ xs _ d) vars agree rows unmeant tasks stands own =
      let stmts_are : (roll-Block (record { stmts = xs })).stmts ≡ xs =
      ap (λ b. b.stmts) (out-roll-Block (record { stmts = xs })) in
      let code_is = eq.fold_block-roll steps xs in
      let it = stmts_give _ state xs left d vars agree rows unmeant
      (sym (eq.fold_block-roll unwritten_steps xs) ∙ tasks)
      (block_stmts_stand tables all context [] state.vars xs stands)
      (λ x has. own x (subst (λ list. Contains list x) (sym stmts_are) has)) in record {
        gives = subst (λ list. Gives state (block_code tables (Some n) block).gives (set_in list))
            (sym stmts_are)
            (subst (λ given. Gives state given (set_in xs)) (sym (ap (λ (c : BlockCode). c.gives)
            code_is)) it.gives);
        inside = ap (λ (c : BlockCode). c.inside) code_is ∙ it.inside;
      }
