-- The code of simple values, by induction over their typing.
use Rattle.std.proofs.Common.{◌≡◌, ℕ, Bool, true, false, List, [], ◌∷◌, ◌++◌, map, Option, Some}
use Rattle.std.proofs.Common.{None, is_some, refl, sym, ap, ◌∙◌, subst, ◌||◌, true≢false}
use Rattle.std.proofs.lemmas.Option.{none-some}
use Rattle.std.specs.List.{AllByRecursion}
use Rattle.sw_tree.specs.Folds.{Steps, fold_arg, fold_expr, fold_link}
use Rattle.sw_tree.specs.declared.expr.Arg.{Arg, roll-Arg}
use Rattle.sw_tree.specs.declared.expr.Expr.{Expr}
use Rattle.sw_tree.specs.declared.expr.Link.{Link, roll-Link}
use Rattle.sw_tree.specs.declared.name.Name.{Name}
use Rattle.sw_tree.proofs.FoldEquations as eq
use Rattle.sw_types.specs.declared.ty.Ty.{Ty}
use Rattle.sw_decl_words.specs.Evident.{case_type, made_type}
use Rattle.sw_decl_values.specs.Simple.{Worth, all_simple, is_simple, read, worth_steps}
use Rattle.sw_typing_rules.specs.Calls.{Slot}
use Rattle.sw_typing_rules.specs.Expressions.{Judged, Passed, base_rows}
use Rattle.sw_typing_rules.specs.Expressions.{infix_judged, member_by, member_judged}
use Rattle.sw_typing_rules.specs.Judges as is
use Rattle.sw_typing_rules.specs.Words.{Setting, local}
use Rattle.sw_typing_rules.specs.Worlds.{World}
use Rattle.sw_typing_rules.specs.declared.row.Meaning.TheVariants as means
use Rattle.sw_typing_rules.proofs.Steps.{and_left, and_right}
use Rattle.sw_typing_rules.proofs.Welltyped.{typed_expr}
use Rattle.sw_lower_plans.specs.Plan.{Numbers}
use Rattle.sw_lower_rules.specs.Carriers.{ArgCode, ExprCode, LinkCode}
use Rattle.sw_lower_rules.specs.Expressions.{args_read, call_read, member_read, method_read}
use Rattle.sw_lower_rules.specs.Statements.{code_steps, expr_code}
use Rattle.sw_lower_rules.specs.Tables.{Tables}
use Rattle.sw_lower_rules.specs.Uses.{read_word, word_by}
use Rattle.sw_lower_formed_facts.specs.Forms.{VarsHold}
use Rattle.sw_typing_facts.specs.Rows.{RowsHold}
use Rattle.sw_lower_formed_facts.proofs.Bodies.ClosureRows.{vars_are_typed}
use Rattle.sw_lower_formed_facts.proofs.Expressions.Arguments.{HaveTypes}
use Rattle.sw_typing_facts.proofs.Said.Rows.{rows_left, rows_right, rows_well}
use Rattle.sw_lower_formed_facts.proofs.Expressions.Typed.{some_type}
use Rattle.sw_lower_total_facts.proofs.Bodies.SimpleWords.{call_makes, enum_named, param_means}
use Rattle.sw_lower_first_facts.specs.Quiet.{WritesQuiet}
use Rattle.sw_lower_first_facts.proofs.Quiet.Cases.{case_means, method_means, value_rows}
use Rattle.sw_lower_first_facts.proofs.Quiet.Forms.{writes_args, writes_links, writes_member}
use Rattle.sw_lower_first_facts.proofs.Quiet.Forms.{writes_prefixed}
use Rattle.sw_lower_first_facts.proofs.Quiet.Joining.{writes_give, writes_then}
use Rattle.sw_lower_first_facts.proofs.Quiet.Uses.{writes_make, writes_make_value, writes_var_read}

-- the enum of a case
named_case : (found : Option ℕ) (type_of : Option ℕ → Option Ty) → type_of None ≡ None
    → is_some (type_of found) ≡ true → (k : ℕ) × (found ≡ Some k)
named_case None type_of none is = absurd (true≢false (sym is ∙ ap is_some none))
named_case (Some k) type_of none is = (k, refl)

-- Where one of two tests holds, it is the second if the first doesn't.
second_of : (a b : Bool) → a ≡ false → (a || b) ≡ true → b ≡ true
second_of true b other is = absurd (true≢false other)
second_of false b other is = is

module _ (tables : Tables) (numbers : Numbers) (setting : Setting) (params : ℕ → Option ℕ)
    (agrees : (id : ℕ) → is_some (params id) ≡ is_some (local setting.vars id))
    (typed : VarsHold tables.answers setting.vars) where
  abbrev world : World
  world = tables.world

  abbrev steps : Steps
  steps = code_steps tables setting.owner

  abbrev worths : Steps
  worths = worth_steps world.known setting.owner params

  abbrev worth_of : Expr → Worth
  worth_of x = fold_expr worths x

  abbrev code_of : Expr → ExprCode
  code_of x = fold_expr steps x

  abbrev Quiet : Expr → Type 0
  Quiet x = WritesQuiet tables numbers (code_of x).read

  -- by what the steps give
  quiet_by : (x : Expr) (code : ExprCode) → fold_expr steps x ≡ code
      → WritesQuiet tables numbers code.read → Quiet x
  quiet_by x code is quiet =
      subst (λ (c : ExprCode). WritesQuiet tables numbers c.read) (sym is) quiet

  simple_by : (x : Expr) (worth : Worth) → fold_expr worths x ≡ worth
      → (worth_of x).simple ≡ true → worth.simple ≡ true
  simple_by x worth is simple = sym (ap (λ (w : Worth). w.simple) is) ∙ simple

  -- a word that names an enum
  no_enum : {X : Type 0} (x : Expr) (worth : Worth) → fold_expr worths x ≡ worth
      → worth.enum ≡ None → (k : ℕ) → (worth_of x).enum ≡ Some k → X
  no_enum x worth is none k named =
      absurd (none-some k (sym none ∙ sym (ap (λ (w : Worth). w.enum) is) ∙ named))

  names_enum : (expected : Bool) (x : Expr) (judged : Judged)
      → is.Judges world setting expected x judged → (k : ℕ) → (worth_of x).enum ≡ Some k
      → judged.enum ≡ Some k
  names_enum expected x judged (is.int _ _ at value) k named =
      no_enum x _ (eq.fold_expr-Int worths at value) refl k named
  names_enum expected x judged (is.bool _ _ at value) k named =
      no_enum x _ (eq.fold_expr-Bool worths at value) refl k named
  names_enum expected x judged (is.word _ _ name) k named =
      enum_named world tables.answers setting params agrees name k
      (sym (ap (λ (w : Worth). w.enum) (eq.fold_expr-Use worths name)) ∙ named)
  names_enum expected x judged (is.me _ _ at) k named =
      no_enum x _ (eq.fold_expr-Me worths at) refl k named
  names_enum expected x judged (is.member _ _ base name one d) k named =
      no_enum x _ (eq.fold_expr-Member worths base name) refl k named
  names_enum expected x judged (is.call _ _ name args passed d) k named =
      no_enum x _ (eq.fold_expr-Call worths name args) refl k named
  names_enum expected x judged (is.method _ _ base name args one passed of_base d) k named =
      no_enum x _ (eq.fold_expr-Method worths base name args) refl k named
  names_enum expected x judged (is.chain _ _ first rest left _ of_first d) k named =
      no_enum x _ (eq.fold_expr-Chain worths first rest) refl k named
  names_enum expected x judged (is.prefix _ _ op at inner one d) k named =
      no_enum x _ (eq.fold_expr-Prefix worths op at inner) refl k named
  names_enum expected x judged (is.await _ _ at inner one d) k named =
      no_enum x _ (eq.fold_expr-Await worths at inner) refl k named
  names_enum expected x judged (is.fun _ _ closure closed d) k named =
      no_enum x _ (eq.fold_expr-Fun worths closure) refl k named
  names_enum expected x judged (is.spawn _ _ at detached body closed d) k named =
      no_enum x _ (eq.fold_expr-Spawn worths at detached body) refl k named
  names_enum expected x judged (is.yield _ _ at) k named =
      no_enum x _ (eq.fold_expr-Yield worths at) refl k named

  -- what is said of the first operand of a chain is said of the chain
  first_rows : (left judged : Judged) (links : List Link)
      → is.Links world setting left links judged → RowsHold tables.answers judged.rows
      → RowsHold tables.answers left.rows
  first_rows left judged links (is.no_link _ _) rows = rows
  first_rows left judged links (is.one_link _ _ op at operand more right _ of_right rest) rows =
      rows_left tables.answers left.rows right.rows
      (rows_left tables.answers (left.rows ++ right.rows) _
      (first_rows (infix_judged op at left right) judged more rest rows))

  -- Arguments without an ill node have types.
  args_typed : (slots : List Slot) (args : List Arg) (passed : Passed)
      → is.Passes world setting slots args passed → RowsHold tables.answers passed.rows
      → (tys : List Ty) × HaveTypes passed.given tys
  args_typed slots args passed (is.passes_none _ _) rows = ([], tt)
  args_typed slots args passed (is.passes_one _ _ label value more one rest of_value of_rest) rows =
      let ty = some_type one.ty (typed_expr world setting _ value one of_value
      (vars_are_typed tables.answers setting.vars typed)
      (rows_well tables.answers one.rows (rows_left tables.answers one.rows rest.rows rows))) in
      let others = args_typed _ more rest of_rest
      (rows_right tables.answers one.rows rest.rows rows) in
      (ty.0 ∷ others.0, (ty.1, others.1))

  -- a word that is a parameter
  word_quiet : (at : ℕ) (variable : ℕ) → tables.answers.meaning_at at ≡ Some (means.Local variable)
      → WritesQuiet tables numbers (read_word tables setting.owner at)
  unfolding read_word
  word_quiet at variable is =
      subst (λ found. WritesQuiet tables numbers (word_by tables setting.owner at found)) (sym is)
      (writes_var_read tables numbers at variable)

  -- a member: of a simple value, or a case of an enum
  member_quiet : (base : Expr) (one : Judged) (name : Name)
      → is.Judges world setting false base one
      → RowsHold tables.answers (member_judged world one name).rows
      → ((worth_of base).simple
      || is_some (case_type world.known (worth_of base).enum name.id)) ≡ true
      → (RowsHold tables.answers one.rows → (worth_of base).simple ≡ true → Quiet base)
      → (enum : Option ℕ) → one.enum ≡ enum → (so : Bool) → (worth_of base).simple ≡ so
      → WritesQuiet tables numbers (member_read tables setting.owner name.at (code_of base)
      (tables.answers.meaning_at name.at))
  member_quiet base one name d rows worth below (Some k) named so is =
      let (i, means_it) = case_means world tables.answers k name
      (subst (λ enum. RowsHold tables.answers (member_by world one enum name).rows) named rows) in
      subst (λ found. WritesQuiet tables numbers (member_read tables setting.owner name.at
      (code_of base) found)) (sym means_it)
      (writes_make_value tables numbers name.at k (Some i) [])
  member_quiet base one name d rows worth below None none true is =
      writes_member tables numbers setting.owner name.at (code_of base)
      (tables.answers.meaning_at name.at)
      (below (value_rows world tables.answers one one.ty name
      (subst (λ enum. RowsHold tables.answers (member_by world one enum name).rows) none rows))
      is)
  member_quiet base one name d rows worth below None none false is =
      let (k, named) = named_case (worth_of base).enum
      (λ enum. case_type world.known enum name.id) refl
      (second_of (worth_of base).simple
      (is_some (case_type world.known (worth_of base).enum name.id)) is worth) in
      absurd (none-some k (sym none ∙ names_enum false base one d k named))

  mutual
    quiet_in : (expected : Bool) (expr : Expr) (judged : Judged)
        → is.Judges world setting expected expr judged → RowsHold tables.answers judged.rows
        → (worth_of expr).simple ≡ true → Quiet expr
    quiet_in expected expr judged (is.int _ _ at value) rows simple =
        quiet_by expr _ (eq.fold_expr-Int steps at value)
        (writes_give tables numbers at _ _ (λ r. tt))
    quiet_in expected expr judged (is.bool _ _ at value) rows simple =
        quiet_by expr _ (eq.fold_expr-Bool steps at value)
        (writes_give tables numbers at _ _ (λ r. tt))
    quiet_in expected expr judged (is.word _ _ name) rows simple =
        let (variable, means_it) = param_means world tables.answers setting params agrees name rows
        (simple_by expr _ (eq.fold_expr-Use worths name) simple) in
        quiet_by expr _ (eq.fold_expr-Use steps name) (word_quiet name.at variable means_it)
    quiet_in expected expr judged (is.me _ _ at) rows simple =
        absurd (true≢false (sym (simple_by expr _ (eq.fold_expr-Me worths at) simple)))
    quiet_in expected expr judged (is.member _ _ base name one d) rows simple =
        quiet_by expr _ (eq.fold_expr-Member steps base name)
        (member_quiet base one name d rows
        (simple_by expr _ (eq.fold_expr-Member worths base name) simple)
        (λ below is_simple. quiet_in false base one d below is_simple) one.enum refl
        (worth_of base).simple refl)
    quiet_in expected expr judged (is.call _ _ name args passed d) rows simple =
        let is_simple = simple_by expr _ (eq.fold_expr-Call worths name args) simple in
        let made = is_some (made_type (read world.known setting.owner params name.id)) in
        let passed_rows = rows_left tables.answers passed.rows _
        (rows_left tables.answers _ _ rows) in
        let have = args_typed _ args passed d passed_rows in
        let (number, means_it) = call_makes world tables.answers setting params agrees name passed
        have.0 have.1 rows
        (and_left made (all_simple (map (fold_arg worths) args)) is_simple) in
        quiet_by expr _ (eq.fold_expr-Call steps name args)
        (subst (λ found. WritesQuiet tables numbers (call_read tables setting.owner name.at
        (map (fold_arg steps) args) found)) (sym means_it)
        (writes_then tables numbers (args_read (map (fold_arg steps) args)) _
        (writes_args tables numbers (map (fold_arg steps) args)
        (args_in _ args passed d passed_rows
        (and_right made (all_simple (map (fold_arg worths) args)) is_simple)))
        (writes_make tables numbers name.at number)))
    quiet_in expected expr judged (is.method _ _ base name args one passed of_base d) rows simple =
        let is_simple = simple_by expr _ (eq.fold_expr-Method worths base name args) simple in
        let cased = is_some (case_type world.known (worth_of base).enum name.id) in
        let noted = rows_left tables.answers _ _ rows in
        let passed_rows = rows_left tables.answers passed.rows _
        (rows_right tables.answers (base_rows one) _ noted) in
        let have = args_typed _ args passed d passed_rows in
        let (k, named) = named_case (worth_of base).enum
        (λ enum. case_type world.known enum name.id) refl
        (and_left cased (all_simple (map (fold_arg worths) args)) is_simple) in
        let (i, means_it) =
        method_means world tables.answers one k (names_enum false base one of_base k named) name
        passed have.0 have.1 rows in
        quiet_by expr _ (eq.fold_expr-Method steps base name args)
        (subst (λ found. WritesQuiet tables numbers (method_read tables setting.owner name.at
        (code_of base) (map (fold_arg steps) args) found)) (sym means_it)
        (writes_then tables numbers (args_read (map (fold_arg steps) args)) _
        (writes_args tables numbers (map (fold_arg steps) args)
        (args_in _ args passed d passed_rows
        (and_right cased (all_simple (map (fold_arg worths) args)) is_simple)))
        (writes_make_value tables numbers name.at k (Some i))))
    quiet_in expected expr judged (is.chain _ _ first rest left _ of_first d) rows simple =
        let is_simple = simple_by expr _ (eq.fold_expr-Chain worths first rest) simple in
        quiet_by expr _ (eq.fold_expr-Chain steps first rest)
        (writes_then tables numbers (code_of first).read _
        (quiet_in false first left of_first (first_rows left judged rest d rows)
        (and_left (worth_of first).simple (all_simple (map (fold_link worths) rest)) is_simple))
        (writes_links tables numbers (map (fold_link steps) rest)
        (links_in left judged rest d rows
        (and_right (worth_of first).simple (all_simple (map (fold_link worths) rest)) is_simple))))
    quiet_in expected expr judged (is.prefix _ _ op at inner one d) rows simple =
        quiet_by expr _ (eq.fold_expr-Prefix steps op at inner)
        (writes_then tables numbers (code_of inner).read _
        (quiet_in false inner one d (rows_left tables.answers one.rows _ rows)
        (simple_by expr _ (eq.fold_expr-Prefix worths op at inner) simple))
        (writes_prefixed tables numbers op at))
    quiet_in expected expr judged (is.await _ _ at inner one d) rows simple =
        absurd (true≢false (sym (simple_by expr _ (eq.fold_expr-Await worths at inner) simple)))
    quiet_in expected expr judged (is.fun _ _ closure closed d) rows simple =
        absurd (true≢false (sym (simple_by expr _ (eq.fold_expr-Fun worths closure) simple)))
    quiet_in expected expr judged (is.spawn _ _ at detached body closed d) rows simple =
        absurd (true≢false (sym
        (simple_by expr _ (eq.fold_expr-Spawn worths at detached body) simple)))
    quiet_in expected expr judged (is.yield _ _ at) rows simple =
        absurd (true≢false (sym (simple_by expr _ (eq.fold_expr-Yield worths at) simple)))

    args_in : (slots : List Slot) (args : List Arg) (passed : Passed)
        → is.Passes world setting slots args passed → RowsHold tables.answers passed.rows
        → all_simple (map (fold_arg worths) args) ≡ true
        → AllByRecursion (λ (arg : ArgCode). WritesQuiet tables numbers arg.read)
        (map (fold_arg steps) args)
    args_in slots args passed (is.passes_none _ _) rows are = tt
    args_in slots args passed (is.passes_one _ _ label value more one rest of_value of_rest) rows
        are =
        let arg = roll-Arg (record { label = label; value = value }) in (
          subst (λ (c : ArgCode). WritesQuiet tables numbers c.read)
              (sym (eq.fold_arg-roll steps label value))
              (quiet_in _ value one of_value (rows_left tables.answers one.rows rest.rows rows)
              (sym (eq.fold_arg-roll worths label value)
              ∙ and_left (fold_arg worths arg) (all_simple (map (fold_arg worths) more)) are)),
          args_in _ more rest of_rest (rows_right tables.answers one.rows rest.rows rows)
              (and_right (fold_arg worths arg) (all_simple (map (fold_arg worths) more)) are),
        )

    links_in : (left judged : Judged) (links : List Link)
        → is.Links world setting left links judged → RowsHold tables.answers judged.rows
        → all_simple (map (fold_link worths) links) ≡ true
        → AllByRecursion (λ (link : LinkCode). WritesQuiet tables numbers link.read)
        (map (fold_link steps) links)
    links_in left judged links (is.no_link _ _) rows are = tt
    links_in left judged links (is.one_link _ _ op at operand more right _ of_right rest) rows are =
        let link = roll-Link (record { op = op; at = at; operand = operand }) in
        let here = first_rows (infix_judged op at left right) judged more rest rows in (
          subst (λ (c : LinkCode). WritesQuiet tables numbers c.read)
              (sym (eq.fold_link-roll steps op at operand))
              (quiet_in false operand right of_right
              (rows_right tables.answers left.rows right.rows
              (rows_left tables.answers (left.rows ++ right.rows) _ here))
              (sym (eq.fold_link-roll worths op at operand)
              ∙ and_left (fold_link worths link) (all_simple (map (fold_link worths) more)) are)),
          links_in (infix_judged op at left right) judged more rest rows
              (and_right (fold_link worths link) (all_simple (map (fold_link worths) more)) are),
        )

  -- The code of a simple value writes such instructions alone.
  pub simple_quiet : (expected : Bool) (expr : Expr) (judged : Judged)
      → is.Judges world setting expected expr judged → RowsHold tables.answers judged.rows
      → is_simple world.known setting.owner params expr ≡ true
      → WritesQuiet tables numbers (expr_code tables setting.owner expr).read
  unfolding expr_code
  simple_quiet expected expr judged d rows simple = quiet_in expected expr judged d rows simple
