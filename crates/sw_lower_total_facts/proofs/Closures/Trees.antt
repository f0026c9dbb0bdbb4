-- A closure and a task proceed where they stand as trees.
use Rattle.std.proofs.Common.{◌≡◌, ℕ, ◌≤◌, ◌⊎◌, inl, inr, Bool, true, false, List, [], ◌∷◌, ◌++◌}
use Rattle.std.proofs.Common.{Contains, ap, sym, ◌∙◌, subst, arith, Option, is_some}
use Rattle.std.proofs.lemmas.List.Elements.{All-head, All-tail, Contains-append_cases}
use Rattle.std.proofs.lemmas.List.Elements.{Contains-append_left}
use Rattle.std.proofs.lemmas.List.Elements.{Contains-append_right}
use Rattle.std.specs.Prelude.{All, ◌||◌}
use Rattle.sw_tree.specs.Keys.{Keys, block_keys}
use Rattle.sw_tree.specs.declared.expr.ClosureParam.{ClosureParam}
use Rattle.sw_tree.specs.declared.expr.Expr.{Expr}
use Rattle.sw_tree.specs.declared.expr.Expr.TheVariants as exprs
use Rattle.sw_tree.specs.declared.name.Name.{Name}
use Rattle.sw_tree.specs.declared.stmt.Block.{Block}
use Rattle.sw_tree.specs.declared.type_tree.TypeTree.{TypeTree}
use Rattle.sw_tree.proofs.Counting.{count, hits, in_all-cons}
use Rattle.sw_tree.proofs.FoldEquations as eq
use Rattle.sw_tree.proofs.KeyEquations as keys
use Rattle.sw_typing_rules.proofs.OneWorld.{distinct_once}
use Rattle.sw_typing_rules.specs.Expressions.{Closed, fun_judged, fun_types, spawn_judged}
use Rattle.sw_typing_rules.specs.Expressions.{task_types}
use Rattle.sw_typing_rules.specs.Judges.{closure_of}
use Rattle.sw_typing_rules.specs.Statements.{Left, closed, closure_state, closure_vars, in_body}
use Rattle.sw_typing_rules.specs.Verdicts.{rows_of}
use Rattle.sw_typing_rules.specs.Words.{Setting}
use Rattle.sw_isolation_rules.specs.Noting.{Notes, block_notes}
use Rattle.sw_isolation_rules.specs.declared.note.Note.{Note}
use Rattle.sw_isolation_rules.specs.declared.uses.Context.{Context}
use Rattle.sw_lower_plans.specs.Plan.{Numbers}
use Rattle.sw_lower_rules.specs.Carriers.{ClosureCode, ExprCode}
use Rattle.sw_lower_rules.specs.Expressions.{closure_body, fun_code, fun_result, spawn_code}
use Rattle.sw_lower_rules.specs.Expressions.{spawn_result, task_body}
use Rattle.sw_lower_rules.specs.Statements.{block_code, code_steps, expr_code}
use Rattle.sw_lower_rules.specs.Tables.{Tables}
use Rattle.sw_lower_formed_facts.specs.Forms.{VarsHold}
use Rattle.sw_typing_facts.specs.Rows.{RowsHold}
use Rattle.sw_lower_formed_facts.proofs.Bodies.ClosureRows.{inner_rows, inner_vars}
use Rattle.sw_typing_facts.proofs.Lists.Listed.{in_first}
use Rattle.sw_typing_facts.proofs.Said.Rows.{rows_left}
use Rattle.sw_lower_total_facts.specs.Bound.{sight_in}
use Rattle.sw_lower_total_facts.specs.Forms.{BlockProceeds, ExprProceeds}
use Rattle.sw_lower_total_facts.specs.Known.{TablesAgree}
use Rattle.sw_lower_total_facts.specs.Noted.{Sight, StandsInText, vars_of}
use Rattle.sw_lower_total_facts.specs.Proceeding.{BodyIsNumbered}
use Rattle.sw_tree.specs.Scopes.{Scoped, block_scoped}
use Rattle.sw_lower_total_facts.specs.Trees.{BlockStands, ExprStands, noted_in, noted_of}
use Rattle.sw_lower_total_facts.proofs.Closures.Apart.{none_in_block, params_apart}
use Rattle.sw_lower_total_facts.proofs.Closures.Enclosed.{Enclosure, block, lists, within}
use Rattle.sw_lower_total_facts.proofs.Closures.Forms.{fun_at, fun_noted, fun_proceeds, spawn_at}
use Rattle.sw_lower_total_facts.proofs.Closures.Forms.{spawn_noted, spawn_proceeds}
use Rattle.sw_lower_total_facts.proofs.Closures.Places.{IsSeenInside, noted_closed, scoped_with}
use Rattle.sw_lower_total_facts.proofs.Mentions.Closures.{enclosing, names_of}
use Rattle.sw_tree.proofs.ScopeCounts.{ats, declared_few, params_are}
use Rattle.sw_lower_total_facts.proofs.Standing.Closures.{head_keys, list_keys, param_keys}
use Rattle.sw_lower_total_facts.proofs.Standing.Covering.{Covers, block_covers}
use Rattle.sw_tree.proofs.KeyMembers.{contained, counted}
use Rattle.sw_lower_total_facts.proofs.Standing.NoteForms.{notes-Fun, notes-Spawn}
use Rattle.sw_lower_total_facts.proofs.Standing.ScopeForms as placed
use Rattle.sw_lower_total_facts.proofs.Standing.Trees.{fun_body_stands, spawn_body_stands}

-- where something stands, with the same notes, keys and scopes
stands_as : (all : List Note) (sight : Sight) (notes : List Note) (keys : Keys) (scoped : Scoped)
    (notes' : List Note) (keys' : Keys) (scoped' : Scoped) → notes ≡ notes' → keys ≡ keys'
    → scoped ≡ scoped'
    → StandsInText all sight notes keys scoped → StandsInText all sight notes' keys' scoped'
stands_as all sight notes keys scoped notes' keys' scoped' same_notes same_keys same_scoped stands =
    subst (λ notes. StandsInText all sight notes keys' scoped') same_notes
    (subst (λ keys. StandsInText all sight notes keys scoped') same_keys
    (subst (StandsInText all sight notes keys) same_scoped stands))

-- What is declared in a closure is a parameter of it, or a key of its block.
declared_in : (at : ℕ) (words : List Name) (params : List ClosureParam) (body : Block)
    (key : ℕ) → Contains (enclosing at words params (block_scoped body)).declared key
    → Contains (head_keys at words params ++ block_keys body) key
declared_in at words params body key has =
    by (Contains-append_cases (ats (names_of params)) (block_scoped body).declared key has) where
      by : Contains (ats (names_of params)) key ⊎ Contains (block_scoped body).declared key
          → Contains (head_keys at words params ++ block_keys body) key
      by (inl param) =
          Contains-append_left (head_keys at words params) (block_keys body) key
          (Contains-append_right (at ∷ list_keys words) (param_keys params) key
          (subst (λ list. Contains list key) (params_are params) param))
      by (inr inside) =
          Contains-append_right (head_keys at words params) (block_keys body) key
          (contained (block_keys body) key
          (omega (
            arith,
            counted (block_scoped body).declared key inside,
            declared_few key body,
          )))

module _ (tables : Tables) (number : Numbers) (all : List Note)
    (known : TablesAgree tables number all)
    (context : Context) (listed : List ℕ) (setting : Setting)
    (vars : VarsHold tables.answers setting.vars) (at : ℕ) (mark : Option Name)
    (words : List Name) (params : List ClosureParam) (result : Option TypeTree) (body : Block)
    (left : Left) where
  -- the code of the closure, and what is noted of its block
  abbrev code : ClosureCode
  code = record { at = at; params = params; body = block_code tables setting.owner body }

  abbrev body_notes : Notes
  body_notes = block_notes tables.world tables.answers body

  -- what is known of it, by what its block leaves
  abbrev closing : Closed
  closing = closed tables.world setting at mark words params left

  -- Its block proceeds, in the context inside it and with the variables that are seen there.
  abbrev pub BlockProceedsIn : Enclosure → Type 0
  BlockProceedsIn closure =
      BlockProceeds tables number (within tables closure) (lists tables closure)
      (in_body setting.owner false) (closure_state tables.world setting words params result)
      (noted_in tables number all body (within tables closure) (lists tables closure))
      (block_code tables setting.owner body)

  -- a closure as a tree, and where it stands
  abbrev pub fun_tree : Expr
  fun_tree = exprs.Fun (closure_of at mark words params result body)

  abbrev pub fun_here : Enclosure
  fun_here = fun_at tables context listed setting at words params body_notes

  fun_code_is : expr_code tables setting.owner fun_tree ≡ fun_code tables setting.owner code
  unfolding expr_code block_code
  fun_code_is =
      eq.fold_expr-Fun (code_steps tables setting.owner)
      (closure_of at mark words params result body)
      ∙ ap (fun_code tables setting.owner)
      (eq.fold_closure-roll (code_steps tables setting.owner) at mark words params result body)

  -- The code of a closure proceeds where its block does, and each variable that is mentioned in the
  -- block is seen where the block begins or declared in it.
  pub fun_tree_proceeds : (expected : Bool) → is_some (fun_judged expected closing).ty ≡ true
      → RowsHold tables.answers (fun_judged expected closing).rows
      → All (BodyIsNumbered number) (expr_code tables setting.owner fun_tree).inside
      → ExprStands tables number all context listed setting.vars fun_tree
      → IsSeenInside tables fun_here (block_scoped body) → BlockProceedsIn fun_here
      → ExprProceeds tables number context listed setting.vars
      (noted_of tables number all fun_tree context listed)
      (expr_code tables setting.owner fun_tree)
  fun_tree_proceeds expected typed_so rows numbered stands seen proceeds =
      subst (λ notes. ExprProceeds tables number context listed setting.vars notes
      (expr_code tables setting.owner fun_tree)) (sym notes_are)
      (subst (ExprProceeds tables number context listed setting.vars (fun_noted tables fun_here))
      (sym fun_code_is)
      (fun_proceeds tables number all known context listed setting code mark words result left
      body_notes vars expected typed_so rows
      (All-head (BodyIsNumbered number)
      (closure_body tables setting.owner code (fun_result tables setting.owner at)) _
      (subst (λ (form : ExprCode). All (BodyIsNumbered number) form.inside) fun_code_is numbered))
      (head_keys at words params ++ block_keys body) (block_scoped body)
      (in_first at _) here (declared_in at words params body)
      (record {
        none = none_in_block tables all fun_here (block_keys body) covers once;
        params_fixed = params_apart tables all fun_here (block_keys body) covers once alone;
        seen = seen;
        proceeds = proceeds;
      }))) where
        notes_are : noted_of tables number all fun_tree context listed ≡ fun_noted tables fun_here
        notes_are =
            notes-Fun tables.world tables.answers context listed at mark words params result body

        here : StandsInText all (sight_in tables context.owner setting.vars)
            (fun_noted tables fun_here) (head_keys at words params ++ block_keys body)
            (scoped_with tables fun_here (block_scoped body))
        here = stands_as all (sight_in tables context.owner setting.vars) _ _ _ _ _ _ notes_are
            (keys.expr_keys-Fun (closure_of at mark words params result body)
            ∙ keys.closure_keys-roll at mark words params result body)
            (placed.scoped-Fun (closure_of at mark words params result body)
            ∙ placed.scoped-closure at mark words params result body) stands

        once : (key : ℕ) → count (head_keys at words params ++ block_keys body) key ≤ 1
        once key = distinct_once (head_keys at words params ++ block_keys body) here.apart key

        covers : Covers (block tables fun_here) (block_keys body)
        covers =
            block_covers tables.world tables.answers body (within tables fun_here)
            (lists tables fun_here)

        alone : (key : ℕ) → Contains (param_keys params) key
            → vars_of key all ≡ vars_of key (noted_closed tables fun_here)
        alone key has =
            here.alone.vars key
            (Contains-append_left (head_keys at words params) (block_keys body) key
            (Contains-append_right (at ∷ list_keys words) (param_keys params) key has))

  -- a task as a tree, and where it stands
  abbrev pub spawn_tree : ℕ → Bool → Expr
  spawn_tree place detached =
      exprs.Spawn place detached (closure_of at mark words params result body)

  abbrev pub spawn_here : Bool → Enclosure
  spawn_here detached = spawn_at tables context listed setting mark detached at words body_notes

  spawn_code_is : (place : ℕ) (detached : Bool)
      → expr_code tables setting.owner (spawn_tree place detached)
      ≡ spawn_code tables setting.owner place code
  unfolding expr_code block_code
  spawn_code_is place detached =
      eq.fold_expr-Spawn (code_steps tables setting.owner) place detached
      (closure_of at mark words params result body)
      ∙ ap (spawn_code tables setting.owner place)
      (eq.fold_closure-roll (code_steps tables setting.owner) at mark words params result body)

  -- the same with its parameters, as its block sees them
  abbrev pub spawn_with : Bool → List ClosureParam → Enclosure
  spawn_with detached these = record (spawn_here detached) { params = these }

  -- The code of a task without parameters proceeds where its block does, and each variable that is
  -- mentioned in the block is seen where the block begins or declared in it.
  pub spawn_tree_proceeds : (place : ℕ) (detached : Bool) → params ≡ []
      → is_some (spawn_judged place closing).ty ≡ true
      → RowsHold tables.answers (spawn_judged place closing).rows
      → All (BodyIsNumbered number) (expr_code tables setting.owner
      (spawn_tree place detached)).inside
      → ExprStands tables number all context listed setting.vars (spawn_tree place detached)
      → IsSeenInside tables (spawn_with detached params) (block_scoped body)
      → BlockProceedsIn (spawn_with detached params)
      → ExprProceeds tables number context listed setting.vars
      (noted_of tables number all (spawn_tree place detached) context listed)
      (expr_code tables setting.owner (spawn_tree place detached))
  spawn_tree_proceeds place detached no_params typed_so rows numbered stands seen proceeds =
      subst (λ notes. ExprProceeds tables number context listed setting.vars notes
      (expr_code tables setting.owner (spawn_tree place detached))) (sym notes_are)
      (subst (ExprProceeds tables number context listed setting.vars
      (spawn_noted tables place (spawn_here detached))) (sym (spawn_code_is place detached))
      (spawn_proceeds tables number all known context listed setting code mark words result left
      body_notes vars place detached typed_so rows
      (All-head (BodyIsNumbered number)
      (task_body tables setting.owner code (spawn_result tables setting.owner place)) _
      (subst (λ (form : ExprCode). All (BodyIsNumbered number) form.inside)
      (spawn_code_is place detached) numbered))
      (place ∷ (head_keys at words [] ++ block_keys body)) (block_scoped body)
      (Contains-append_right (place ∷ []) (head_keys at words [] ++ block_keys body) at
      (in_first at _)) here
      (λ key has. Contains-append_right (place ∷ []) (head_keys at words [] ++ block_keys body) key
      (declared_in at words [] body key has))
      (record {
        none = none_in_block tables all (spawn_here detached) (block_keys body) covers once;
        params_fixed = params_apart tables all (spawn_here detached) (block_keys body) covers once
            (λ key has. absurd (no_key key has));
        seen = subst (λ these. IsSeenInside tables (spawn_with detached these) (block_scoped body))
            no_params seen;
        proceeds = subst (λ these. BlockProceeds tables number
            (within tables (spawn_here detached)) (lists tables (spawn_here detached))
            (in_body setting.owner false) (closure_state tables.world setting words these result)
            (block tables (spawn_here detached)) (block_code tables setting.owner body)) no_params
            proceeds;
      }))) where
        notes_are : noted_of tables number all (spawn_tree place detached) context listed
            ≡ spawn_noted tables place (spawn_here detached)
        notes_are =
            notes-Spawn tables.world tables.answers context listed place detached at mark words
            params result body

        here : StandsInText all (sight_in tables context.owner setting.vars)
            (spawn_noted tables place (spawn_here detached))
            (place ∷ (head_keys at words [] ++ block_keys body))
            (scoped_with tables (spawn_here detached) (block_scoped body))
        here = stands_as all (sight_in tables context.owner setting.vars) _ _ _ _ _ _ notes_are
            (keys.expr_keys-Spawn place detached (closure_of at mark words params result body)
            ∙ ap (λ more. place ∷ more) (keys.closure_keys-roll at mark words params result body
            ∙ ap (λ these. head_keys at words these ++ block_keys body) no_params))
            (placed.scoped-Spawn place detached (closure_of at mark words params result body)
            ∙ placed.scoped-closure at mark words params result body
            ∙ ap (λ these. enclosing at words these (block_scoped body)) no_params) stands

        once : (key : ℕ) → count (head_keys at words [] ++ block_keys body) key ≤ 1
        once key =
            omega (
              arith,
              distinct_once (place ∷ (head_keys at words [] ++ block_keys body)) here.apart key,
              in_all-cons hits place (head_keys at words [] ++ block_keys body) key,
            )

        covers : Covers (block tables (spawn_here detached)) (block_keys body)
        covers =
            block_covers tables.world tables.answers body (within tables (spawn_here detached))
            (lists tables (spawn_here detached))

        no_key : (key : ℕ) → Contains [] key → ⊥
        no_key key (k, below, is) = omega (arith, below)

  -- the rows of the closure, where those of the expression hold
  fun_rows : (expected : Bool) → RowsHold tables.answers (fun_judged expected closing).rows
      → RowsHold tables.answers closing.rows
  fun_rows expected rows =
      rows_left tables.answers closing.rows
      (rows_of at (fun_types (closing.marked || expected) closing.params closing.result)) rows

  spawn_rows : (place : ℕ) → RowsHold tables.answers (spawn_judged place closing).rows
      → RowsHold tables.answers closing.rows
  spawn_rows place rows =
      rows_left tables.answers closing.rows (rows_of place (task_types closing.result)) rows

  -- What is shown of the block of a closure, where the variables that it sees have types, what is
  -- said of it holds, the bodies in it have numbers, and it stands in the closure's context.
  abbrev pub WhereBlock : Enclosure → Type 0 → Type 0
  WhereBlock closure Shown =
      VarsHold tables.answers (closure_vars tables.world setting.vars words params)
      → RowsHold tables.answers left.rows
      → All (BodyIsNumbered number) (block_code tables setting.owner body).inside
      → BlockStands tables number all (within tables closure) (lists tables closure)
      (closure_vars tables.world setting.vars words params) body → Shown

  -- A closure proceeds by what is shown of its block.
  pub fun_by_block : (expected : Bool) → is_some (fun_judged expected closing).ty ≡ true
      → RowsHold tables.answers (fun_judged expected closing).rows
      → All (BodyIsNumbered number) (expr_code tables setting.owner fun_tree).inside
      → ExprStands tables number all context listed setting.vars fun_tree
      → WhereBlock fun_here (IsSeenInside tables fun_here (block_scoped body))
      → WhereBlock fun_here (BlockProceedsIn fun_here)
      → ExprProceeds tables number context listed setting.vars
      (noted_of tables number all fun_tree context listed)
      (expr_code tables setting.owner fun_tree)
  fun_by_block expected typed_so rows numbered stands seen proceeds =
      fun_tree_proceeds expected typed_so rows numbered stands
      (seen inner own_rows inside here) (proceeds inner own_rows inside here) where
        inner : VarsHold tables.answers (closure_vars tables.world setting.vars words params)
        inner =
            inner_vars tables.answers tables.world setting at mark words params left vars
            (fun_rows expected rows)

        own_rows : RowsHold tables.answers left.rows
        own_rows =
            inner_rows tables.answers tables.world setting at mark words params left
            (fun_rows expected rows)

        inside : All (BodyIsNumbered number) (block_code tables setting.owner body).inside
        inside =
            All-tail (BodyIsNumbered number)
            (closure_body tables setting.owner code (fun_result tables setting.owner at)) _
            (subst (λ (form : ExprCode). All (BodyIsNumbered number) form.inside) fun_code_is
            numbered)

        here : BlockStands tables number all (within tables fun_here) (lists tables fun_here)
            (closure_vars tables.world setting.vars words params) body
        here =
            fun_body_stands tables all context listed setting.vars at mark words params result body
            stands

  -- And so does a task without parameters.
  pub spawn_by_block : (place : ℕ) (detached : Bool) → params ≡ []
      → is_some (spawn_judged place closing).ty ≡ true
      → RowsHold tables.answers (spawn_judged place closing).rows
      → All (BodyIsNumbered number) (expr_code tables setting.owner
      (spawn_tree place detached)).inside
      → ExprStands tables number all context listed setting.vars (spawn_tree place detached)
      → WhereBlock (spawn_with detached params)
      (IsSeenInside tables (spawn_with detached params) (block_scoped body))
      → WhereBlock (spawn_with detached params) (BlockProceedsIn (spawn_with detached params))
      → ExprProceeds tables number context listed setting.vars
      (noted_of tables number all (spawn_tree place detached) context listed)
      (expr_code tables setting.owner (spawn_tree place detached))
  spawn_by_block place detached no_params typed_so rows numbered stands seen proceeds =
      spawn_tree_proceeds place detached no_params typed_so rows numbered stands
      (seen inner own_rows inside here) (proceeds inner own_rows inside here) where
        inner : VarsHold tables.answers (closure_vars tables.world setting.vars words params)
        inner =
            inner_vars tables.answers tables.world setting at mark words params left vars
            (spawn_rows place rows)

        own_rows : RowsHold tables.answers left.rows
        own_rows =
            inner_rows tables.answers tables.world setting at mark words params left
            (spawn_rows place rows)

        inside : All (BodyIsNumbered number) (block_code tables setting.owner body).inside
        inside =
            All-tail (BodyIsNumbered number)
            (task_body tables setting.owner code (spawn_result tables setting.owner place)) _
            (subst (λ (form : ExprCode). All (BodyIsNumbered number) form.inside)
            (spawn_code_is place detached) numbered)

        here : BlockStands tables number all (within tables (spawn_with detached params))
            (lists tables (spawn_with detached params))
            (closure_vars tables.world setting.vars words params) body
        here =
            spawn_body_stands tables all context listed setting.vars place detached at mark words
            params result body stands
