-- No closure and no task stands in a simple value, so there is no body in it.
use Rattle.std.proofs.Common.{◌≡◌, ℕ, Bool, true, false, List, [], ◌∷◌, map, flat_map, Option, Some}
use Rattle.std.proofs.Common.{None, is_some, refl, sym, subst, ◌||◌, true≢false}
use Rattle.std.specs.List.{AllByRecursion}
use Rattle.sw_tree.proofs.FoldEquations as eq
use Rattle.sw_tree.proofs.TreeInduction.{Cases, Claims, every_expr}
use Rattle.sw_tree.specs.Folds.{Steps, fold_arg, fold_expr, fold_link}
use Rattle.sw_tree.specs.declared.expr.Arg.{Arg, roll-Arg}
use Rattle.sw_tree.specs.declared.expr.Expr.{Expr}
use Rattle.sw_tree.specs.declared.expr.Link.{Link, roll-Link}
use Rattle.sw_decl_words.specs.Evident.{Meanings, case_type, made_type}
use Rattle.sw_typing_rules.proofs.Steps.{and_left, and_right}
use Rattle.sw_decl_values.specs.Simple.{Worth, all_simple, is_simple, read, worth_steps}
use Rattle.sw_lower_rules.specs.Carriers.{ArgCode, ExprCode, LinkCode}
use Rattle.sw_lower_rules.specs.Statements.{code_steps, expr_code}
use Rattle.sw_lower_rules.specs.Tables.{Tables}
use Rattle.sw_typing_facts.proofs.Lists.Joined.{both_none}

-- a value that is simple, or names an enum, has no body in it
abbrev ExprNone : Worth → ExprCode → Type 0
ExprNone worth code = (worth.simple || is_some worth.enum) ≡ true → code.inside ≡ []

abbrev ArgNone : Bool → ArgCode → Type 0
ArgNone simple code = simple ≡ true → code.inside ≡ []

abbrev LinkNone : Bool → LinkCode → Type 0
LinkNone simple code = simple ≡ true → code.inside ≡ []

pub or_false : (a : Bool) → (a || false) ≡ true → a ≡ true
or_false true is = refl
or_false false is = is

pub or_true : (a b : Bool) → a ≡ true → (a || b) ≡ true
or_true true b is = refl
or_true false b is = absurd (true≢false (sym is))

-- a base of a case names its enum
pub base_named : (known : Meanings) (enum : Option ℕ) (id : ℕ)
    → is_some (case_type known enum id) ≡ true → is_some enum ≡ true
base_named known None id is = is
base_named known (Some number) id is = refl

pub base_worth : (known : Meanings) (simple : Bool) (enum : Option ℕ) (id : ℕ)
    → (simple || is_some (case_type known enum id)) ≡ true → (simple || is_some enum) ≡ true
base_worth known true enum id is = refl
base_worth known false enum id is = base_named known enum id is

pub or_some : (a b : Bool) → b ≡ true → (a || b) ≡ true
or_some true b is = refl
or_some false b is = is

module _ (tables : Tables) (around : Option ℕ) (known : Meanings) (owner : Option ℕ)
    (params : ℕ → Option ℕ) where
  abbrev steps : Steps
  steps = code_steps tables around

  abbrev worths : Steps
  worths = worth_steps known owner params

  abbrev claims : Claims
  claims = record {
    expr = λ x. ExprNone (fold_expr worths x) (fold_expr steps x);
    stmt = λ x. Unit {0};
    arg = λ x. ArgNone (fold_arg worths x) (fold_arg steps x);
    closure = λ x. Unit {0};
    link = λ x. LinkNone (fold_link worths x) (fold_link steps x);
    block = λ x. Unit {0};
    case_arm = λ x. Unit {0};
    if_arm = λ x. Unit {0};
  }

  args_none : (args : List Arg) → AllByRecursion claims.arg args
      → all_simple (map (fold_arg worths) args) ≡ true
      → flat_map (λ (arg : ArgCode). arg.inside) (map (fold_arg steps) args) ≡ []
  args_none [] all are = refl
  args_none (arg ∷ args) all are =
      both_none (fold_arg steps arg).inside _
      (all.0 (and_left (fold_arg worths arg) (all_simple (map (fold_arg worths) args)) are))
      (args_none args all.1
      (and_right (fold_arg worths arg) (all_simple (map (fold_arg worths) args)) are))

  links_none : (links : List Link) → AllByRecursion claims.link links
      → all_simple (map (fold_link worths) links) ≡ true
      → flat_map (λ (link : LinkCode). link.inside) (map (fold_link steps) links) ≡ []
  links_none [] all are = refl
  links_none (link ∷ links) all are =
      both_none (fold_link steps link).inside _
      (all.0 (and_left (fold_link worths link) (all_simple (map (fold_link worths) links)) are))
      (links_none links all.1
      (and_right (fold_link worths link) (all_simple (map (fold_link worths) links)) are))

  -- by what the steps give
  expr_by : (x : Expr) (worth : Worth) (code : ExprCode) → fold_expr worths x ≡ worth
      → fold_expr steps x ≡ code → ExprNone worth code → claims.expr x
  expr_by x worth code worth_is code_is none =
      subst (λ (w : Worth). ExprNone w (fold_expr steps x)) (sym worth_is)
      (subst (λ (c : ExprCode). ExprNone worth c) (sym code_is) none)

  cases : Cases claims
  cases = record {
    int = λ at value. expr_by _ _ _ (eq.fold_expr-Int worths at value)
        (eq.fold_expr-Int steps at value) (λ is. refl);
    bool = λ at value. expr_by _ _ _ (eq.fold_expr-Bool worths at value)
        (eq.fold_expr-Bool steps at value) (λ is. refl);
    use_of = λ name. expr_by _ _ _ (eq.fold_expr-Use worths name) (eq.fold_expr-Use steps name)
        (λ is. refl);
    me = λ at. expr_by _ _ _ (eq.fold_expr-Me worths at) (eq.fold_expr-Me steps at) (λ is. refl);
    member = λ base name none. expr_by _ _ _ (eq.fold_expr-Member worths base name)
        (eq.fold_expr-Member steps base name)
        (λ is. none (base_worth known (fold_expr worths base).simple (fold_expr worths base).enum
        name.id (or_false _ is)));
    call = λ name args none. expr_by _ _ _ (eq.fold_expr-Call worths name args)
        (eq.fold_expr-Call steps name args)
        (λ is. args_none args none
        (and_right (is_some (made_type (read known owner params name.id)))
        (all_simple (map (fold_arg worths) args)) (or_false _ is)));
    method = λ base name args of_base none. expr_by _ _ _
        (eq.fold_expr-Method worths base name args)
        (eq.fold_expr-Method steps base name args)
        (λ is. both_none (fold_expr steps base).inside _
        (of_base (or_some (fold_expr worths base).simple (is_some (fold_expr worths base).enum)
        (base_named known (fold_expr worths base).enum name.id
        (and_left (is_some (case_type known (fold_expr worths base).enum name.id))
        (all_simple (map (fold_arg worths) args)) (or_false _ is)))))
        (args_none args none
        (and_right (is_some (case_type known (fold_expr worths base).enum name.id))
        (all_simple (map (fold_arg worths) args)) (or_false _ is))));
    chain = λ first rest of_first none. expr_by _ _ _ (eq.fold_expr-Chain worths first rest)
        (eq.fold_expr-Chain steps first rest)
        (λ is. both_none (fold_expr steps first).inside _
        (of_first (or_true (fold_expr worths first).simple (is_some (fold_expr worths first).enum)
        (and_left (fold_expr worths first).simple (all_simple (map (fold_link worths) rest))
        (or_false _ is))))
        (links_none rest none
        (and_right (fold_expr worths first).simple (all_simple (map (fold_link worths) rest))
        (or_false _ is))));
    prefix = λ op at inner none. expr_by _ _ _ (eq.fold_expr-Prefix worths op at inner)
        (eq.fold_expr-Prefix steps op at inner)
        (λ is. none (or_true (fold_expr worths inner).simple (is_some (fold_expr worths inner).enum)
        (or_false _ is)));
    await = λ at inner none. expr_by _ _ _ (eq.fold_expr-Await worths at inner)
        (eq.fold_expr-Await steps at inner) (λ is. absurd (true≢false (sym is)));
    fun = λ closure none. expr_by _ _ _ (eq.fold_expr-Fun worths closure)
        (eq.fold_expr-Fun steps closure) (λ is. absurd (true≢false (sym is)));
    spawn = λ at detached body none. expr_by _ _ _ (eq.fold_expr-Spawn worths at detached body)
        (eq.fold_expr-Spawn steps at detached body) (λ is. absurd (true≢false (sym is)));
    yield = λ at. expr_by _ _ _ (eq.fold_expr-Yield worths at) (eq.fold_expr-Yield steps at)
        (λ is. refl);
    bind = λ mutable name ty value none. tt;
    assign = λ at op place value of_place of_value. tt;
    discard = λ at value none. tt;
    if_of = λ arms otherwise all last. tt;
    while_of = λ at cond body of_cond of_body. tt;
    switch = λ at subject arms otherwise of_subject all last. tt;
    return_of = λ at value none. tt;
    break_of = λ at. tt;
    continue_of = λ at. tt;
    plain = λ value none. tt;
    arg = λ label value none.
        subst (λ (simple : Bool). ArgNone simple
        (fold_arg steps (roll-Arg (record { label = label; value = value }))))
        (sym (eq.fold_arg-roll worths label value))
        (subst (λ (c : ArgCode). ArgNone (fold_expr worths value).simple c)
        (sym (eq.fold_arg-roll steps label value))
        (λ is. none (or_true (fold_expr worths value).simple (is_some (fold_expr worths value).enum)
        is)));
    closure = λ at mark captures params result body none. tt;
    link = λ op at operand none.
        subst (λ (simple : Bool). LinkNone simple
        (fold_link steps (roll-Link (record { op = op; at = at; operand = operand }))))
        (sym (eq.fold_link-roll worths op at operand))
        (subst (λ (c : LinkCode). LinkNone (fold_expr worths operand).simple c)
        (sym (eq.fold_link-roll steps op at operand))
        (λ is. none (or_true (fold_expr worths operand).simple
        (is_some (fold_expr worths operand).enum) is)));
    block = λ stmts all. tt;
    case_arm = λ name patterns body none. tt;
    if_arm = λ at cond body of_cond of_body. tt;
  }

  -- There is no body in a simple value.
  pub simple_inside : (expr : Expr) → is_simple known owner params expr ≡ true
      → (expr_code tables around expr).inside ≡ []
  unfolding expr_code
  simple_inside expr is =
      every_expr claims cases expr
      (or_true (fold_expr worths expr).simple (is_some (fold_expr worths expr).enum) is)
