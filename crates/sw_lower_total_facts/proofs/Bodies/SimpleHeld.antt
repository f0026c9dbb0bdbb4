-- No closure stands in a simple value, so none takes anything there.
use Rattle.std.proofs.Common.{◌≡◌, ℕ, Bool, true, List, [], ◌∷◌, ◌++◌, map, flat_map, Option}
use Rattle.std.proofs.Common.{is_some, refl, sym, subst, ◌||◌, true≢false}
use Rattle.std.specs.List.{AllByRecursion}
use Rattle.sw_tree.specs.Folds.{Steps, fold_arg, fold_expr, fold_link}
use Rattle.sw_tree.specs.declared.expr.Arg.{Arg, roll-Arg}
use Rattle.sw_tree.specs.declared.expr.Expr.{Expr}
use Rattle.sw_tree.specs.declared.expr.Link.{Link, roll-Link}
use Rattle.sw_tree.proofs.FoldEquations as eq
use Rattle.sw_tree.proofs.TreeInduction.{Cases, Claims, every_expr}
use Rattle.sw_decl_words.specs.Evident.{Meanings, case_type, made_type}
use Rattle.sw_decl_values.specs.Simple.{Worth, all_simple, is_simple, read, worth_steps}
use Rattle.sw_typing_rules.specs.Worlds.{World}
use Rattle.sw_typing_rules.proofs.Steps.{and_left, and_right}
use Rattle.sw_isolation_rules.specs.Answers.{Answers}
use Rattle.sw_isolation_rules.specs.Captures.{me_mentions, word_mentions}
use Rattle.sw_isolation_rules.specs.Lists.{held_in}
use Rattle.sw_isolation_rules.specs.Noting.{Linked, Notes, Seen, all_of, note_steps, see}
use Rattle.sw_isolation_rules.specs.Noting.{member_notes, mention_notes, use_notes, word_notes}
use Rattle.sw_isolation_rules.specs.declared.note.Captured.{Captured as Held}
use Rattle.sw_isolation_rules.specs.declared.note.Mention.{Mention}
use Rattle.sw_isolation_rules.specs.declared.note.Note.{Note}
use Rattle.sw_isolation_rules.specs.declared.note.Note.TheVariants.{Mentioned}
use Rattle.sw_isolation_rules.specs.declared.uses.Context.{Context}
use Rattle.sw_isolation_rules.specs.declared.uses.Used.{Used}
use Rattle.sw_lower_formed_facts.proofs.Programs.SimpleInside.{base_named, base_worth, or_false, or_some}
use Rattle.sw_lower_formed_facts.proofs.Programs.SimpleInside.{or_true}
use Rattle.sw_lower_total_facts.proofs.Bodies.UseNotes.{join_lacks, use_lacks}

abbrev pub held_notes : List Note → List Held
held_notes notes = flat_map held_in notes

join_none : (one other : List Note) → held_notes one ≡ [] → held_notes other ≡ []
    → held_notes (one ++ other) ≡ []
join_none one other first second = join_lacks held_in one other first second

mentions_none : (mentions : List Mention) → held_notes (map Mentioned mentions) ≡ []
mentions_none [] = refl
mentions_none (one ∷ mentions) = mentions_none mentions

use_none : (context : Context) (at : ℕ) (one : Used) → held_notes (use_notes context at one) ≡ []
use_none context at one = use_lacks held_in (λ k. refl) (λ p. refl) (λ p. refl) context at one

-- nothing is taken in these notes
abbrev TakesNone : Notes → Type 0
TakesNone notes = (context : Context) (listed : List ℕ) → held_notes (notes context listed) ≡ []

abbrev ExprNone : Worth → Seen → Type 0
ExprNone worth seen = (worth.simple || is_some worth.enum) ≡ true → TakesNone seen.notes

abbrev PartNone : Bool → Notes → Type 0
PartNone simple notes = simple ≡ true → TakesNone notes

module _ (world : World) (answers : Answers) (known : Meanings) (owner : Option ℕ)
    (params : ℕ → Option ℕ) where
  abbrev steps : Steps
  steps = note_steps world answers

  abbrev worths : Steps
  worths = worth_steps known owner params

  abbrev claims : Claims
  claims = record {
    expr = λ x. ExprNone (fold_expr worths x) (fold_expr steps x);
    stmt = λ x. Unit {0};
    arg = λ x. PartNone (fold_arg worths x) (fold_arg steps x);
    closure = λ x. Unit {0};
    link = λ x. PartNone (fold_link worths x) (fold_link steps x).operand;
    block = λ x. Unit {0};
    case_arm = λ x. Unit {0};
    if_arm = λ x. Unit {0};
  }

  -- a word, and a member after its base
  word_none : (context : Context) (at : ℕ)
      → held_notes (word_notes world answers context at) ≡ []
  word_none context at =
      join_none (mention_notes world answers context at) _
      (mentions_none (word_mentions world answers context.owner at)) (use_none context at _)

  args_none : (args : List Arg) → AllByRecursion claims.arg args
      → all_simple (map (fold_arg worths) args) ≡ true
      → TakesNone (all_of (map (fold_arg steps) args))
  args_none [] all are context listed = refl
  args_none (arg ∷ args) all are context listed =
      join_none (fold_arg steps arg context listed) _
      (all.0 (and_left (fold_arg worths arg) (all_simple (map (fold_arg worths) args)) are)
      context listed)
      (args_none args all.1
      (and_right (fold_arg worths arg) (all_simple (map (fold_arg worths) args)) are)
      context listed)

  links_none : (links : List Link) → AllByRecursion claims.link links
      → all_simple (map (fold_link worths) links) ≡ true
      → TakesNone (all_of (map (λ (link : Linked). link.operand) (map (fold_link steps) links)))
  links_none [] all are context listed = refl
  links_none (link ∷ links) all are context listed =
      join_none ((fold_link steps link).operand context listed) _
      (all.0 (and_left (fold_link worths link) (all_simple (map (fold_link worths) links)) are)
      context listed)
      (links_none links all.1
      (and_right (fold_link worths link) (all_simple (map (fold_link worths) links)) are) context
      listed)

  -- by what the steps give
  expr_by : (x : Expr) (worth : Worth) (seen : Seen) → fold_expr worths x ≡ worth
      → fold_expr steps x ≡ seen → ExprNone worth seen → claims.expr x
  expr_by x worth seen worth_is seen_is none =
      subst (λ (w : Worth). ExprNone w (fold_expr steps x)) (sym worth_is)
      (subst (λ (s : Seen). ExprNone worth s) (sym seen_is) none)

  cases : Cases claims
  cases = record {
    int = λ at value. expr_by _ _ _ (eq.fold_expr-Int worths at value)
        (eq.fold_expr-Int steps at value) (λ is context listed. refl);
    bool = λ at value. expr_by _ _ _ (eq.fold_expr-Bool worths at value)
        (eq.fold_expr-Bool steps at value) (λ is context listed. refl);
    use_of = λ name. expr_by _ _ _ (eq.fold_expr-Use worths name) (eq.fold_expr-Use steps name)
        (λ is context listed. word_none context name.at);
    me = λ at. expr_by _ _ _ (eq.fold_expr-Me worths at) (eq.fold_expr-Me steps at)
        (λ is context listed. mentions_none (me_mentions world context.owner at));
    member = λ base name none. expr_by _ _ _ (eq.fold_expr-Member worths base name)
        (eq.fold_expr-Member steps base name)
        (λ is context listed. join_none ((fold_expr steps base).notes context listed) _
        (none (base_worth known (fold_expr worths base).simple (fold_expr worths base).enum
        name.id (or_false _ is)) context listed) (use_none context name.at _));
    call = λ name args none. expr_by _ _ _ (eq.fold_expr-Call worths name args)
        (eq.fold_expr-Call steps name args)
        (λ is context listed. join_none (word_notes world answers context name.at) _
        (word_none context name.at) (args_none args none
        (and_right (is_some (made_type (read known owner params name.id)))
        (all_simple (map (fold_arg worths) args)) (or_false _ is)) context listed));
    method = λ base name args of_base none. expr_by _ _ _
        (eq.fold_expr-Method worths base name args)
        (eq.fold_expr-Method steps base name args)
        (λ is context listed. join_none ((fold_expr steps base).notes context listed
        ++ member_notes world answers (fold_expr steps base) name.at context)
        (all_of (map (fold_arg steps) args) context listed)
        (join_none ((fold_expr steps base).notes context listed)
        (member_notes world answers (fold_expr steps base) name.at context)
        (of_base (or_some (fold_expr worths base).simple (is_some (fold_expr worths base).enum)
        (base_named known (fold_expr worths base).enum name.id
        (and_left (is_some (case_type known (fold_expr worths base).enum name.id))
        (all_simple (map (fold_arg worths) args)) (or_false _ is)))) context listed)
        (use_none context name.at _)) (args_none args none
        (and_right (is_some (case_type known (fold_expr worths base).enum name.id))
        (all_simple (map (fold_arg worths) args)) (or_false _ is)) context listed));
    chain = λ first rest of_first none. expr_by _ _ _ (eq.fold_expr-Chain worths first rest)
        (eq.fold_expr-Chain steps first rest)
        (λ is context listed. join_none ((fold_expr steps first).notes context listed) _
        (of_first (or_true (fold_expr worths first).simple (is_some (fold_expr worths first).enum)
        (and_left (fold_expr worths first).simple (all_simple (map (fold_link worths) rest))
        (or_false _ is))) context listed)
        (links_none rest none
        (and_right (fold_expr worths first).simple (all_simple (map (fold_link worths) rest))
        (or_false _ is)) context listed));
    prefix = λ op at inner none. expr_by _ _ _ (eq.fold_expr-Prefix worths op at inner)
        (eq.fold_expr-Prefix steps op at inner)
        (λ is. none (or_true (fold_expr worths inner).simple (is_some (fold_expr worths inner).enum)
        (or_false _ is)));
    await = λ at inner none. expr_by _ _ _ (eq.fold_expr-Await worths at inner)
        (eq.fold_expr-Await steps at inner) (λ is. absurd (true≢false (sym is)));
    fun = λ closure none. expr_by _ _ _ (eq.fold_expr-Fun worths closure)
        (eq.fold_expr-Fun steps closure) (λ is. absurd (true≢false (sym is)));
    spawn = λ at detached body none. expr_by _ _ _ (eq.fold_expr-Spawn worths at detached body)
        (eq.fold_expr-Spawn steps at detached body) (λ is. absurd (true≢false (sym is)));
    yield = λ at. expr_by _ _ _ (eq.fold_expr-Yield worths at) (eq.fold_expr-Yield steps at)
        (λ is. absurd (true≢false (sym is)));
    bind = λ mutable name ty value none. tt;
    assign = λ at op place value of_place of_value. tt;
    discard = λ at value none. tt;
    if_of = λ arms otherwise all last. tt;
    while_of = λ at cond body of_cond of_body. tt;
    switch = λ at subject arms otherwise of_subject all last. tt;
    return_of = λ at value none. tt;
    break_of = λ at. tt;
    continue_of = λ at. tt;
    plain = λ value none. tt;
    arg = λ label value none.
        subst (λ (simple : Bool). PartNone simple
        (fold_arg steps (roll-Arg (record { label = label; value = value }))))
        (sym (eq.fold_arg-roll worths label value))
        (subst (λ (notes : Notes). PartNone (fold_expr worths value).simple notes)
        (sym (eq.fold_arg-roll steps label value))
        (λ is. none (or_true (fold_expr worths value).simple (is_some (fold_expr worths value).enum)
        is)));
    closure = λ at mark captures params result body none. tt;
    link = λ op at operand none.
        subst (λ (simple : Bool). PartNone simple
        (fold_link steps (roll-Link (record { op = op; at = at; operand = operand }))).operand)
        (sym (eq.fold_link-roll worths op at operand))
        (subst (λ (link : Linked). PartNone (fold_expr worths operand).simple link.operand)
        (sym (eq.fold_link-roll steps op at operand))
        (λ is. none (or_true (fold_expr worths operand).simple
        (is_some (fold_expr worths operand).enum) is)));
    block = λ stmts all. tt;
    case_arm = λ name patterns body none. tt;
    if_arm = λ at cond body of_cond of_body. tt;
  }

  -- Nothing is taken in a simple value.
  pub simple_held : (expr : Expr) → is_simple known owner params expr ≡ true → (context : Context)
      (listed : List ℕ) → held_notes ((see world answers expr).notes context listed) ≡ []
  unfolding see
  simple_held expr is context listed =
      every_expr claims cases expr
      (or_true (fold_expr worths expr).simple (is_some (fold_expr worths expr).enum) is) context
      listed
