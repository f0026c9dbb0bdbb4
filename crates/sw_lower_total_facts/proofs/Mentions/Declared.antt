-- What a statement declares for those after it, and what free words mean where it is declared.
use Rattle.std.proofs.Common.{◌≡◌, ℕ, Bool, true, false, not, inl, inr, ◌⊎◌, List, [], ◌∷◌, ◌++◌}
use Rattle.std.proofs.Common.{Option, Some, None, refl, ap, sym, ◌∙◌, subst, Contains}
use Rattle.std.proofs.Common.{flat_map, map}
use Rattle.std.proofs.lemmas.List.{append-nil}
use Rattle.std.proofs.lemmas.List.Elements.{Contains-append_left, Contains-append_right}
use Rattle.std.proofs.lemmas.List.Folds.{list_any_none}
use Rattle.std.proofs.lemmas.Option.{same_Some}
use Rattle.std.specs.Prelude.{◌==◌, ◌||◌}
use Rattle.sw_tree.specs.Folds.{fold_stmt}
use Rattle.sw_tree.specs.declared.name.Name.{Name}
use Rattle.sw_tree.specs.declared.stmt.Pattern.{Pattern}
use Rattle.sw_tree.specs.declared.stmt.Pattern.TheVariants.{Let, Skip}
use Rattle.sw_tree.specs.declared.stmt.Stmt.{Stmt}
use Rattle.sw_tree.proofs.FoldEquations as eq
use Rattle.sw_types.specs.declared.ty.Ty.{Ty}
use Rattle.sw_typing_rules.specs.Expressions.{Judged}
use Rattle.sw_typing_rules.specs.Judges as is
use Rattle.sw_typing_rules.specs.Statements.{Left, State, bind_left, cases_of, in_switch}
use Rattle.sw_typing_rules.specs.Statements.{more_types, pattern_vars, written}
use Rattle.sw_typing_rules.specs.Words.{local}
use Rattle.sw_typing_rules.specs.Worlds.{World}
use Rattle.sw_typing_rules.specs.declared.scope.Inside.{Inside}
use Rattle.sw_typing_rules.specs.declared.scope.Var.{Var}
use Rattle.sw_lower_rules.specs.Tables.{Tables}
use Rattle.sw_lower_formed_facts.proofs.Statements.Sequences.{arms_vars, cases_vars, otherwise_vars}
use Rattle.sw_lower_formed_facts.proofs.Statements.Sequences.{plain_vars, value_vars, void_vars}
use Rattle.sw_tree.specs.Scopes.{Scoped, Stated, Word, declaring, is_of, is_of_any}
use Rattle.sw_tree.specs.Scopes.{pattern_names, scope_steps}
use Rattle.sw_tree.proofs.Members.{in_filter, in_map, of_map}
use Rattle.sw_lower_total_facts.proofs.Mentions.Seen.{Covers, Means}
use Rattle.sw_lower_total_facts.proofs.Standing.Scopes.{all_of_each, local_more}

-- what is declared: an id, and the key of the declaration
abbrev pub of_var : Var → ℕ × ℕ
of_var one = (one.name, one.at)

abbrev pub of_name : Name → ℕ × ℕ
of_name name = (name.id, name.at)

-- Variables are those that names declare.
abbrev pub AreNamed : List Var → List Name → Type 0
AreNamed vars names = map of_var vars ≡ map of_name names

-- Of variables that names declare each has the id and the key of one of these.
pub named_by : (vars : List Var) (names : List Name) → AreNamed vars names → (one : Var)
    → Contains vars one
    → (name : Name) × Contains names name × (name.id ≡ one.name) × (name.at ≡ one.at)
named_by vars names named one has =
    let (name, among, same) = of_map of_name names (of_var one)
    (subst (λ list. Contains list (of_var one)) named (in_map of_var vars one has)) in
    (name, among, ap (λ (pair : ℕ × ℕ). pair.0) same, ap (λ (pair : ℕ × ℕ). pair.1) same)

-- And each of these names is of one of them: a word that is of none of them is of no name.
pub none_named : (vars : List Var) (names : List Name) (word : Word) → AreNamed vars names
    → ((one : Var) → Contains vars one → one.name == word.id ≡ false)
    → is_of_any names word ≡ false
none_named vars names word named none =
    list_any_none (λ (name : Name). is_of name word) names
    (all_of_each (λ (name : Name). is_of name word ≡ false) names of_none) where
      of_none : (name : Name) → Contains names name → is_of name word ≡ false
      of_none name has =
          let (one, among, same) = of_map of_var vars (of_name name)
          (subst (λ list. Contains list (of_name name)) (sym named) (in_map of_name names name has))
          in
          subst (λ id. id == word.id ≡ false) (ap (λ (pair : ℕ × ℕ). pair.0) same) (none one among)

-- Where names are declared, a word that is of none of them is free around too.
pub stays_free : (names listed : List Name) (inside : Scoped) (word : Word)
    → Contains inside.free word → is_of_any names word ≡ false
    → Contains (declaring names listed inside).free word
stays_free names listed inside word has none =
    in_filter (λ (one : Word). is_of_any listed one || not (is_of_any names one)) inside.free word
    has (by (is_of_any listed word) (is_of_any names word) none) where
      by : (one other : Bool) → other ≡ false → (one || not other) ≡ true
      by true other is = refl
      by false true is = sym is
      by false false is = refl

-- Where variables are declared, what a free word means is one of them, or what it means around.
pub declared_covers : (tables : Tables) (vars more : List Var) (names : List Name)
    (inside : Scoped) → AreNamed more names
    → Covers tables (vars ++ more) inside vars (declaring names [] inside)
declared_covers tables vars more names inside named = (
  λ key means. by key means (local_more vars more means.0.id),
  λ key has. Contains-append_right (map (λ (name : Name). name.at) names) inside.declared key has,
) where
  new : (one : Var) → Contains more one
      → Contains (declaring names [] inside).declared one.at
  new one has =
      let (name, among, id, at) = named_by more names named one has in
      Contains-append_left (map (λ (name : Name). name.at) names) inside.declared one.at
      (subst (Contains (map (λ (name : Name). name.at) names)) at
      (in_map (λ (name : Name). name.at) names name among))

  by : (key : ℕ) (means : Means (vars ++ more) inside.free key)
      → ((one : Var) × Contains more one × (one.name == means.0.id ≡ true)
      × (local (vars ++ more) means.0.id ≡ Some one))
      ⊎ ((local (vars ++ more) means.0.id ≡ local vars means.0.id)
      × ((one : Var) → Contains more one → one.name == means.0.id ≡ false))
      → Means vars (declaring names [] inside).free key
      ⊎ Contains (declaring names [] inside).declared key
  by key (word, has, one, found, is) (inl (other, among, name, meant)) =
      inr (subst (Contains (declaring names [] inside).declared)
      (ap (λ (var : Var). var.at) (same_Some other one (sym meant ∙ found)) ∙ is) (new other among))
  by key (word, has, one, found, is) (inr (same, none)) = inl (
    word,
    stays_free names [] inside word has (none_named more names word named none),
    one,
    sym same ∙ found,
    is,
  )

-- What a statement leaves: the variables before it, and those that it declares for the statements
-- after it.
pub record Declares (before after : List Var) (names : List Name) : Type 0 where
  pub more : List Var
  pub are : after ≡ before ++ more
  pub named : AreNamed more names

none_declared : (before after : List Var) (names : List Name) → names ≡ [] → after ≡ before
    → Declares before after names
none_declared before after names none same = record {
  more = [];
  are = same ∙ sym (append-nil before);
  named = ap (map of_name) (sym none);
}

bind_declares : (state : State) (mutable : Bool) (name : Name) (found : Option Ty) (value : Judged)
    → Declares state.vars (bind_left state mutable name found value).state.vars (name ∷ [])
bind_declares state mutable name None value = record { more = _; are = refl; named = refl }
bind_declares state mutable name (Some ty) value = record { more = _; are = refl; named = refl }

-- the names that a form of statement declares
stated_names : (one other : Stated) → one ≡ other → one.names ≡ other.names
stated_names one other same = ap (λ (stated : Stated). stated.names) same

pub stmt_declares : (world : World) (inside : Inside) (state : State) (stmt : Stmt) (left : Left)
    → is.Leaves world inside state stmt left
    → Declares state.vars left.state.vars (fold_stmt scope_steps stmt).names
stmt_declares world inside state stmt left (is.bind _ _ mutable name ty value judged of_value) =
    subst (Declares state.vars (bind_left state mutable name (written world ty) judged).state.vars)
    (sym (stated_names _ _ (eq.fold_stmt-Bind scope_steps mutable name ty value)))
    (bind_declares state mutable name (written world ty) judged)
stmt_declares world inside state stmt left
    (is.assign _ _ at op place value placed judged of_place of_value) =
    none_declared state.vars state.vars _
    (stated_names _ _ (eq.fold_stmt-Assign scope_steps at op place value)) refl
stmt_declares world inside state stmt left (is.discard _ _ at value judged of_value) =
    none_declared state.vars state.vars _
    (stated_names _ _ (eq.fold_stmt-Discard scope_steps at value)) refl
stmt_declares world inside state stmt left
    (is.if_of _ _ arms other one last of_arms of_other) =
    none_declared state.vars last.state.vars _
    (stated_names _ _ (eq.fold_stmt-If scope_steps arms other))
    (otherwise_vars world false inside one.state other last of_other
    ∙ arms_vars world inside state arms one of_arms)
stmt_declares world inside state stmt left
    (is.while_of _ _ at cond body judged one of_cond of_body) =
    none_declared state.vars state.vars _
    (stated_names _ _ (eq.fold_stmt-While scope_steps at cond body)) refl
stmt_declares world inside state stmt left
    (is.switch _ _ at subject arms other judged armed last of_subject of_cases of_other) =
    none_declared state.vars last.state.vars _
    (stated_names _ _ (eq.fold_stmt-Switch scope_steps at subject arms other))
    (otherwise_vars world true (in_switch inside) armed.left.state other last of_other
    ∙ cases_vars world (in_switch inside) (cases_of world judged.ty) state arms armed of_cases)
stmt_declares world inside state stmt left (is.return_nothing _ _ at) =
    none_declared state.vars _ _ (stated_names _ _ (eq.fold_stmt-Return scope_steps at None))
    (void_vars state.returned state at)
stmt_declares world inside state stmt left (is.return_of _ _ at value judged of_value) =
    none_declared state.vars _ _ (stated_names _ _ (eq.fold_stmt-Return scope_steps at (Some value)))
    (value_vars state.returned state at judged)
stmt_declares world inside state stmt left (is.break_of _ _ at) =
    none_declared state.vars state.vars _ (stated_names _ _ (eq.fold_stmt-Break scope_steps at)) refl
stmt_declares world inside state stmt left (is.continue_of _ _ at) =
    none_declared state.vars state.vars _ (stated_names _ _ (eq.fold_stmt-Continue scope_steps at)) refl
stmt_declares world inside state stmt left (is.plain _ _ value judged of_value) =
    none_declared state.vars _ _ (stated_names _ _ (eq.fold_stmt-Plain scope_steps value))
    (plain_vars inside.only state judged)

-- The variables of patterns.
pub patterns_named : (patterns : List Pattern) (tys : List Ty)
    → AreNamed (pattern_vars patterns tys) (flat_map pattern_names patterns)
patterns_named [] tys = refl
patterns_named (Skip at ∷ patterns) tys = patterns_named patterns (more_types tys)
patterns_named (Let name ∷ patterns) tys =
    ap (λ more. of_name name ∷ more) (patterns_named patterns (more_types tys))
