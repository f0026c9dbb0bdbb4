-- Simple values mention no variables but parameters.
use Rattle.std.proofs.Common.{◌≡◌, ℕ, Bool, true, false, List, [], ◌∷◌, ◌++◌, map, Option, Some}
use Rattle.std.proofs.Common.{None, is_some, refl, sym, ap, ◌∙◌, subst, ◌||◌, Contains, true≢false}
use Rattle.std.proofs.lemmas.List.Elements.{All-contains_itself, All-head}
use Rattle.std.specs.Prelude.{All}
use Rattle.sw_tree.specs.Folds.{Steps, fold_arg, fold_expr, fold_link}
use Rattle.sw_tree.specs.declared.expr.Arg.{Arg, roll-Arg}
use Rattle.sw_tree.specs.declared.expr.Expr.{Expr}
use Rattle.sw_tree.specs.declared.expr.Link.{Link, roll-Link}
use Rattle.sw_tree.specs.declared.name.Name.{Name}
use Rattle.sw_tree.proofs.FoldEquations as eq
use Rattle.sw_types.specs.declared.shape.ShapeKind.TheVariants as kinds
use Rattle.sw_types.specs.declared.ty.Ty.{Ty}
use Rattle.sw_decl_words.specs.Evident.{case_type, enum_of, made_type}
use Rattle.sw_decl_words.specs.declared.words.Meaning as words
use Rattle.sw_decl_words.specs.declared.words.Meaning.TheVariants as word
use Rattle.sw_decl_values.specs.Simple.{Worth, all_simple, is_simple, read, worth_steps}
use Rattle.sw_typing_rules.specs.Calls.{Slot}
use Rattle.sw_typing_rules.specs.Expressions.{Judged, Passed, base_rows, call_callee, call_judged}
use Rattle.sw_typing_rules.specs.Expressions.{infix_judged, word_judged}
use Rattle.sw_typing_rules.specs.Judges as is
use Rattle.sw_typing_rules.specs.Verdicts.{meaning_rows, rows_of}
use Rattle.sw_typing_rules.specs.Words.{Sense, Setting, Top, Variable, local, local_sense}
use Rattle.sw_typing_rules.specs.Words.{member_sense, owned, sense, top_sense, word_meaning}
use Rattle.sw_typing_rules.specs.Words.{word_types}
use Rattle.sw_typing_rules.specs.Worlds.{World}
use Rattle.sw_typing_rules.specs.declared.row.Meaning.TheVariants as means
use Rattle.sw_typing_rules.specs.declared.scope.Var.{Var}
use Rattle.sw_typing_rules.proofs.Steps.{and_left, and_right}
use Rattle.sw_typing_rules.proofs.Welltyped.{typed_expr}
use Rattle.sw_isolation_rules.specs.Answers.{Answers, for_some}
use Rattle.sw_isolation_rules.specs.Captures.{meant_mentions, word_mentions}
use Rattle.sw_isolation_rules.specs.Noting.{Linked, Notes, Seen, all_of, member_notes}
use Rattle.sw_isolation_rules.specs.Noting.{mention_notes, note_steps, see, word_notes}
use Rattle.sw_isolation_rules.specs.declared.uses.Context.{Context}
use Rattle.sw_lower_formed_facts.specs.Forms.{VarsHold}
use Rattle.sw_typing_facts.specs.Rows.{RowsHold}
use Rattle.sw_lower_formed_facts.proofs.Bodies.ClosureRows.{vars_are_typed}
use Rattle.sw_lower_formed_facts.proofs.Expressions.Arguments.{HaveTypes}
use Rattle.sw_lower_formed_facts.proofs.Expressions.Typed.{some_type, first_rows, member_rows, valued_rows}
use Rattle.sw_typing_facts.proofs.Lists.Found.{local_has}
use Rattle.sw_typing_facts.proofs.Lists.Joined.{all_left, all_right}
use Rattle.sw_lower_formed_facts.proofs.Programs.SimpleInside.{base_named, base_worth, or_false, or_some}
use Rattle.sw_lower_formed_facts.proofs.Programs.SimpleInside.{or_true}
use Rattle.sw_typing_facts.proofs.Said.Rows.{rows_left, rows_right, rows_well}
use Rattle.sw_typing_facts.specs.EnumWords as enums
use Rattle.sw_typing_facts.specs.EnumWords.{AreUnmeant}
use Rattle.sw_typing_facts.proofs.Said.EnumNames.{links_enum, member_no_enum}
use Rattle.sw_lower_total_facts.proofs.Bodies.SimpleWords.{call_makes, read_top}
use Rattle.sw_lower_total_facts.proofs.Mentions.Notes.{AreIn, MentionsIn, in_join, in_mentioned}
use Rattle.sw_lower_total_facts.proofs.Mentions.Notes.{in_silent}
use Rattle.sw_lower_total_facts.proofs.Mentions.Silent.{use_silent}

module _ (world : World) (answers : Answers) (setting : Setting) (params : ℕ → Option ℕ)
    (agrees : (id : ℕ) → is_some (params id) ≡ is_some (local setting.vars id))
    (typed : VarsHold answers setting.vars) where
  abbrev steps : Steps
  steps = note_steps world answers

  abbrev worths : Steps
  worths = worth_steps world.known setting.owner params

  -- one of the variables
  abbrev pub IsParam : ℕ → Type 0
  IsParam key = Contains (map (λ (one : Var). one.at) setting.vars) key

  -- a value that is simple, or names an enum
  abbrev IsWorth : Expr → Type 0
  IsWorth x = ((fold_expr worths x).simple || is_some (fold_expr worths x).enum) ≡ true

  all_params : (vars : List Var) → ((one : Var) → Contains vars one → IsParam one.at)
      → All (λ (one : Var). IsParam one.at) vars
  all_params vars each = λ k d below. each _ (All-contains_itself vars k d below)

  -- a word of a variable
  variable_in : (context : Context) (at : ℕ) (one : Var) → IsParam one.at
      → answers.meaning_at at ≡ Some (means.Local one.at)
      → MentionsIn IsParam (word_mentions world answers context.owner at)
  unfolding word_mentions
  variable_in context at one param is =
      subst (λ found. MentionsIn IsParam (for_some found (meant_mentions world context.owner at)))
      (sym is) (param, tt)

  made_in : (context : Context) (at number : ℕ)
      → answers.meaning_at at ≡ Some (means.MakeOf number)
      → MentionsIn IsParam (word_mentions world answers context.owner at)
  unfolding word_mentions
  made_in context at number is =
      subst (λ found. MentionsIn IsParam (for_some found (meant_mentions world context.owner at)))
      (sym is) tt

  unmeant_in : (context : Context) (at : ℕ) → answers.meaning_at at ≡ None
      → MentionsIn IsParam (word_mentions world answers context.owner at)
  unfolding word_mentions
  unmeant_in context at is =
      subst (λ found. MentionsIn IsParam (for_some found (meant_mentions world context.owner at)))
      (sym is) tt

  -- a word, by what it mentions
  word_in : (context : Context) (at : ℕ)
      → MentionsIn IsParam (word_mentions world answers context.owner at)
      → AreIn IsParam (word_notes world answers context at)
  word_in context at are =
      in_join IsParam (mention_notes world answers context at) _
      (in_mentioned IsParam (word_mentions world answers context.owner at) are)
      (in_silent IsParam _ (use_silent context at _))

  word_among : (name : Name) → RowsHold answers (word_judged world setting name).rows
      → (is_some (params name.id)
      || is_some (enum_of (read world.known setting.owner params name.id))) ≡ true
      → ((one : Var) → Contains setting.vars one → IsParam one.at) → (context : Context)
      → AreIn IsParam (word_notes world answers context name.at)
  word_among name rows worth each context = by (local setting.vars name.id) refl where
    of_sense : (found : Sense) → sense world setting name.id ≡ found
        → RowsHold answers (meaning_rows name.at (word_meaning found)
        ++ rows_of name.at (word_types world found))
    of_sense found is =
        subst (λ s. RowsHold answers (meaning_rows name.at (word_meaning s)
        ++ rows_of name.at (word_types world s))) is rows

    no_param : is_some (params name.id) ≡ false
        → is_some (enum_of (read world.known setting.owner params name.id)) ≡ true
    no_param is = ap (λ b. b || is_some (enum_of (read world.known setting.owner params name.id)))
        (sym is) ∙ worth

    named : (found : Option words.Meaning)
        → read world.known setting.owner params name.id ≡ found
        → is_some (enum_of found) ≡ true → AreIn IsParam (word_notes world answers context name.at)
    named None at some = absurd (true≢false (sym some))
    named (Some (word.Shape kinds.Struct number)) at some = absurd (true≢false (sym some))
    named (Some (word.Shape kinds.Enum number)) at some =
        absurd (of_sense (Top (word.Shape kinds.Enum number))
        (read_top world answers setting params agrees name.id (word.Shape kinds.Enum number) at)).0
    named (Some (word.Shape kinds.Class number)) at some = absurd (true≢false (sym some))
    named (Some (word.Shape kinds.Actor number)) at some = absurd (true≢false (sym some))
    named (Some (word.GlobalActor number)) at some = absurd (true≢false (sym some))
    named (Some (word.Func key)) at some = absurd (true≢false (sym some))
    named (Some (word.Global number)) at some = absurd (true≢false (sym some))
    named (Some word.Entry) at some = absurd (true≢false (sym some))

    by : (found : Option Var) → local setting.vars name.id ≡ found
        → AreIn IsParam (word_notes world answers context name.at)
    by (Some one) at =
        word_in context name.at (variable_in context name.at one
        (local_has (λ (v : Var). IsParam v.at) setting.vars name.id one
        (all_params setting.vars each) at)
        (of_sense (Variable one) (ap (λ found. local_sense found (member_sense setting.owner
        (owned world setting.owner name.id) (top_sense (world.known.top name.id) name.id))) at)).0)
    by None at =
        named (read world.known setting.owner params name.id) refl
        (no_param (agrees name.id ∙ ap is_some at))

  -- a call by the word of a type that is made
  made_by : (name : Name) (passed : Passed) (tys : List Ty) → HaveTypes passed.given tys
      → RowsHold answers (call_judged (call_callee world setting name) name.at [] passed).rows
      → is_some (made_type (read world.known setting.owner params name.id)) ≡ true
      → (context : Context) → AreIn IsParam (word_notes world answers context name.at)
  made_by name passed tys have rows some context =
      let (number, is) =
      call_makes world answers setting params agrees name passed tys have rows some in
      word_in context name.at (made_in context name.at number is)

  -- Arguments without an ill node have types.
  args_typed : (slots : List Slot) (args : List Arg) (passed : Passed)
      → is.Passes world setting slots args passed → RowsHold answers passed.rows
      → (tys : List Ty) × HaveTypes passed.given tys
  args_typed slots args passed (is.passes_none _ _) rows = ([], tt)
  args_typed slots args passed (is.passes_one _ _ label value more one rest of_value of_rest) rows =
      let ty = some_type one.ty (typed_expr world setting _ value one of_value
      (vars_are_typed answers setting.vars typed)
      (rows_well answers one.rows (rows_left answers one.rows rest.rows rows))) in
      let others = args_typed _ more rest of_rest (rows_right answers one.rows rest.rows rows) in
      (ty.0 ∷ others.0, (ty.1, others.1))

  -- A word that names an enum is silent where nothing is said of it.
  enum_in : (expected : Bool) (expr : Expr) (judged : Judged)
      (d : is.Judges world setting expected expr judged) (k : ℕ) → judged.enum ≡ Some k
      → answers.meaning_at judged.key ≡ None → (context : Context) (listed : List ℕ)
      → AreIn IsParam ((fold_expr steps expr).notes context listed)
  enum_in expected expr judged (is.int _ _ at value) k named none context listed = cc
  enum_in expected expr judged (is.bool _ _ at value) k named none context listed = cc
  enum_in expected expr judged (is.word _ _ name) k named none context listed =
      subst (λ (s : Seen). AreIn IsParam (s.notes context listed))
      (sym (eq.fold_expr-Use steps name))
      (word_in context name.at (unmeant_in context name.at none))
  enum_in expected expr judged (is.me _ _ at) k named none context listed = cc
  enum_in expected expr judged (is.member _ _ base name one d) k named none context listed =
      absurd (member_no_enum world one name k named)
  enum_in expected expr judged (is.call _ _ name args passed d) k named none context listed = cc
  enum_in expected expr judged (is.method _ _ base name args one passed of_base d) k named none
      context listed = cc
  enum_in expected expr judged (is.chain _ _ first rest left _ of_first d) k named none context
      listed =
      let alone = links_enum world setting left judged rest d k named in
      subst (λ (s : Seen). AreIn IsParam (s.notes context listed))
      (sym (eq.fold_expr-Chain steps first rest))
      (in_join IsParam ((fold_expr steps first).notes context listed) _
      (enum_in false first left of_first k alone.1
      (subst (λ key. answers.meaning_at key ≡ None) alone.2 none) context listed)
      (subst (λ (links : List Link). AreIn IsParam
      (all_of (map (λ (link : Linked). link.operand) (map (fold_link steps) links)) context listed))
      (sym alone.0) tt))
  enum_in expected expr judged (is.prefix _ _ op at inner one d) k named none context listed = cc
  enum_in expected expr judged (is.await _ _ at inner one d) k named none context listed = cc
  enum_in expected expr judged (is.fun _ _ closure closed d) k named none context listed = cc
  enum_in expected expr judged (is.spawn _ _ at detached body closed d) k named none context
      listed = cc
  enum_in expected expr judged (is.yield _ _ at) k named none context listed = cc

  -- by what the steps give
  expr_by : (x : Expr) (seen : Seen) (context : Context) (listed : List ℕ)
      → fold_expr steps x ≡ seen → AreIn IsParam (seen.notes context listed)
      → AreIn IsParam ((fold_expr steps x).notes context listed)
  expr_by x seen context listed is are =
      subst (λ (s : Seen). AreIn IsParam (s.notes context listed)) (sym is) are

  worth_by : (x : Expr) (worth : Worth) → fold_expr worths x ≡ worth → IsWorth x
      → (worth.simple || is_some worth.enum) ≡ true
  worth_by x worth is has = subst (λ (w : Worth). (w.simple || is_some w.enum) ≡ true) is has

  -- the words that name enums in a base that is a value
  value_unmeant : (one : Judged) (inner : List ℕ) → AreUnmeant answers (enums.in_base one inner)
      → one.enum ≡ None → AreUnmeant answers inner
  value_unmeant one inner none is =
      subst (λ e. AreUnmeant answers (enums.base_by one.key e inner)) is none

  -- what stands before a `.`: a value, or a word that names an enum
  base_in : (base : Expr) (one : Judged) (d : is.Judges world setting false base one)
      (inner : List ℕ) → AreUnmeant answers (enums.in_base one inner) → (context : Context)
      (listed : List ℕ)
      → (one.enum ≡ None → AreIn IsParam ((fold_expr steps base).notes context listed))
      → AreIn IsParam ((fold_expr steps base).notes context listed)
  base_in base one d inner none context listed value = by one.enum refl where
    by : (enum : Option ℕ) → one.enum ≡ enum
        → AreIn IsParam ((fold_expr steps base).notes context listed)
    by None is = value is
    by (Some k) is =
        enum_in false base one d k is
        (All-head (λ at. answers.meaning_at at ≡ None) one.key []
        (subst (λ e. AreUnmeant answers (enums.base_by one.key e inner)) is none)) context listed

  module _ (each : (one : Var) → Contains setting.vars one → IsParam one.at) where
    mutual
      unfolding enums.in_expr

      simple_in : (expected : Bool) (expr : Expr) (judged : Judged)
          (d : is.Judges world setting expected expr judged) → RowsHold answers judged.rows
          → AreUnmeant answers (enums.in_expr world setting expected expr judged d) → IsWorth expr
          → (context : Context) (listed : List ℕ)
          → AreIn IsParam ((fold_expr steps expr).notes context listed)
      simple_in expected expr judged (is.int _ _ at value) rows none worth context listed =
          expr_by expr _ context listed (eq.fold_expr-Int steps at value) tt
      simple_in expected expr judged (is.bool _ _ at value) rows none worth context listed =
          expr_by expr _ context listed (eq.fold_expr-Bool steps at value) tt
      simple_in expected expr judged (is.word _ _ name) rows none worth context listed =
          expr_by expr _ context listed (eq.fold_expr-Use steps name)
          (word_among name rows (worth_by expr _ (eq.fold_expr-Use worths name) worth) each context)
      simple_in expected expr judged (is.me _ _ at) rows none worth context listed =
          absurd (true≢false (sym (worth_by expr _ (eq.fold_expr-Me worths at) worth)))
      simple_in expected expr judged (is.member _ _ base name one d) rows none worth context
          listed =
          expr_by expr _ context listed (eq.fold_expr-Member steps base name)
          (in_join IsParam ((fold_expr steps base).notes context listed) _
          (base_in base one d (enums.in_expr world setting false base one d) none context listed
          (λ no. simple_in false base one d
          (valued_rows world answers one no (member_rows world answers one name rows))
          (value_unmeant one _ none no)
          (base_worth world.known (fold_expr worths base).simple (fold_expr worths base).enum
          name.id (or_false _ (worth_by expr _ (eq.fold_expr-Member worths base name) worth)))
          context listed))
          (in_silent IsParam _ (use_silent context name.at _)))
      simple_in expected expr judged (is.call _ _ name args passed d) rows none worth context
          listed =
          let is_worth = or_false _ (worth_by expr _ (eq.fold_expr-Call worths name args) worth) in
          let passed_rows = rows_left answers passed.rows _ (rows_left answers _ _ rows) in
          let have = args_typed _ args passed d passed_rows in
          expr_by expr _ context listed (eq.fold_expr-Call steps name args)
          (in_join IsParam (word_notes world answers context name.at) _
          (made_by name passed have.0 have.1 rows
          (and_left (is_some (made_type (read world.known setting.owner params name.id)))
          (all_simple (map (fold_arg worths) args)) is_worth) context)
          (args_in _ args passed d passed_rows none
          (and_right (is_some (made_type (read world.known setting.owner params name.id)))
          (all_simple (map (fold_arg worths) args)) is_worth) context listed))
      simple_in expected expr judged (is.method _ _ base name args one passed of_base d) rows none
          worth context listed =
          let is_worth = or_false _
          (worth_by expr _ (eq.fold_expr-Method worths base name args) worth) in
          let noted = rows_left answers _ _ rows in
          let words = all_left (λ at. answers.meaning_at at ≡ None) (enums.in_base one
          (enums.in_expr world setting false base one of_base)) _ none in
          expr_by expr _ context listed (eq.fold_expr-Method steps base name args)
          (in_join IsParam ((fold_expr steps base).notes context listed
          ++ member_notes world answers (fold_expr steps base) name.at context)
          (all_of (map (fold_arg steps) args) context listed)
          (in_join IsParam ((fold_expr steps base).notes context listed)
          (member_notes world answers (fold_expr steps base) name.at context)
          (base_in base one of_base (enums.in_expr world setting false base one of_base) words
          context listed
          (λ no. simple_in false base one of_base
          (valued_rows world answers one no (rows_left answers (base_rows one) _ noted))
          (value_unmeant one _ words no)
          (or_some (fold_expr worths base).simple (is_some (fold_expr worths base).enum)
          (base_named world.known (fold_expr worths base).enum name.id
          (and_left (is_some (case_type world.known (fold_expr worths base).enum name.id))
          (all_simple (map (fold_arg worths) args)) is_worth))) context listed))
          (in_silent IsParam _ (use_silent context name.at _)))
          (args_in _ args passed d
          (rows_left answers passed.rows _ (rows_right answers (base_rows one) _ noted))
          (all_right (λ at. answers.meaning_at at ≡ None) (enums.in_base one
          (enums.in_expr world setting false base one of_base)) _ none)
          (and_right (is_some (case_type world.known (fold_expr worths base).enum name.id))
          (all_simple (map (fold_arg worths) args)) is_worth) context listed))
      simple_in expected expr judged (is.chain _ _ first rest left _ of_first d) rows none worth
          context listed =
          let is_worth = or_false _
          (worth_by expr _ (eq.fold_expr-Chain worths first rest) worth) in
          expr_by expr _ context listed (eq.fold_expr-Chain steps first rest)
          (in_join IsParam ((fold_expr steps first).notes context listed) _
          (simple_in false first left of_first
          (first_rows world answers setting left judged rest d rows)
          (all_left (λ at. answers.meaning_at at ≡ None) _ _ none)
          (or_true (fold_expr worths first).simple (is_some (fold_expr worths first).enum)
          (and_left (fold_expr worths first).simple (all_simple (map (fold_link worths) rest))
          is_worth)) context listed)
          (links_in left judged rest d rows
          (all_right (λ at. answers.meaning_at at ≡ None) _ _ none)
          (and_right (fold_expr worths first).simple (all_simple (map (fold_link worths) rest))
          is_worth) context listed))
      simple_in expected expr judged (is.prefix _ _ op at inner one d) rows none worth context
          listed =
          expr_by expr _ context listed (eq.fold_expr-Prefix steps op at inner)
          (simple_in false inner one d (rows_left answers one.rows _ rows) none
          (or_true (fold_expr worths inner).simple (is_some (fold_expr worths inner).enum)
          (or_false _ (worth_by expr _ (eq.fold_expr-Prefix worths op at inner) worth))) context
          listed)
      simple_in expected expr judged (is.await _ _ at inner one d) rows none worth context listed =
          absurd (true≢false (sym (worth_by expr _ (eq.fold_expr-Await worths at inner) worth)))
      simple_in expected expr judged (is.fun _ _ closure closed d) rows none worth context listed =
          absurd (true≢false (sym (worth_by expr _ (eq.fold_expr-Fun worths closure) worth)))
      simple_in expected expr judged (is.spawn _ _ at detached body closed d) rows none worth
          context listed =
          absurd (true≢false (sym
          (worth_by expr _ (eq.fold_expr-Spawn worths at detached body) worth)))
      simple_in expected expr judged (is.yield _ _ at) rows none worth context listed =
          absurd (true≢false (sym (worth_by expr _ (eq.fold_expr-Yield worths at) worth)))

      args_in : (slots : List Slot) (args : List Arg) (passed : Passed)
          (d : is.Passes world setting slots args passed) → RowsHold answers passed.rows
          → AreUnmeant answers (enums.in_args world setting slots args passed d)
          → all_simple (map (fold_arg worths) args) ≡ true → (context : Context)
          (listed : List ℕ) → AreIn IsParam (all_of (map (fold_arg steps) args) context listed)
      args_in slots args passed (is.passes_none _ _) rows none are context listed = tt
      args_in slots args passed (is.passes_one _ _ label value more one rest of_value of_rest) rows
          none are context listed =
          let arg = roll-Arg (record { label = label; value = value }) in
          in_join IsParam (fold_arg steps arg context listed) _
          (subst (λ (notes : Notes). AreIn IsParam (notes context listed))
          (sym (eq.fold_arg-roll steps label value))
          (simple_in _ value one of_value (rows_left answers one.rows rest.rows rows)
          (all_left (λ at. answers.meaning_at at ≡ None) _ _ none)
          (or_true (fold_expr worths value).simple (is_some (fold_expr worths value).enum)
          (sym (eq.fold_arg-roll worths label value)
          ∙ and_left (fold_arg worths arg) (all_simple (map (fold_arg worths) more)) are)) context
          listed))
          (args_in _ more rest of_rest (rows_right answers one.rows rest.rows rows)
          (all_right (λ at. answers.meaning_at at ≡ None) _ _ none)
          (and_right (fold_arg worths arg) (all_simple (map (fold_arg worths) more)) are) context
          listed)

      links_in : (left judged : Judged) (links : List Link)
          (d : is.Links world setting left links judged) → RowsHold answers judged.rows
          → AreUnmeant answers (enums.in_links world setting left links judged d)
          → all_simple (map (fold_link worths) links) ≡ true → (context : Context)
          (listed : List ℕ)
          → AreIn IsParam
          (all_of (map (λ (link : Linked). link.operand) (map (fold_link steps) links)) context
          listed)
      links_in left judged links (is.no_link _ _) rows none are context listed = tt
      links_in left judged links (is.one_link _ _ op at operand more right _ of_right rest) rows
          none are context listed =
          let link = roll-Link (record { op = op; at = at; operand = operand }) in
          let here =
          first_rows world answers setting (infix_judged op at left right) judged more rest rows in
          in_join IsParam ((fold_link steps link).operand context listed) _
          (subst (λ (linked : Linked). AreIn IsParam (linked.operand context listed))
          (sym (eq.fold_link-roll steps op at operand))
          (simple_in false operand right of_right
          (rows_right answers left.rows right.rows
          (rows_left answers (left.rows ++ right.rows) _ here))
          (all_left (λ at. answers.meaning_at at ≡ None) _ _ none)
          (or_true (fold_expr worths operand).simple (is_some (fold_expr worths operand).enum)
          (sym (eq.fold_link-roll worths op at operand)
          ∙ and_left (fold_link worths link) (all_simple (map (fold_link worths) more)) are))
          context listed))
          (links_in (infix_judged op at left right) judged more rest rows
          (all_right (λ at. answers.meaning_at at ≡ None) _ _ none)
          (and_right (fold_link worths link) (all_simple (map (fold_link worths) more)) are) context
          listed)

    -- A simple value mentions parameters alone.
    pub simple_mentions : (expected : Bool) (expr : Expr) (judged : Judged)
        (d : is.Judges world setting expected expr judged) → RowsHold answers judged.rows
        → AreUnmeant answers (enums.in_expr world setting expected expr judged d)
        → is_simple world.known setting.owner params expr ≡ true → (context : Context)
        (listed : List ℕ) → AreIn IsParam ((see world answers expr).notes context listed)
    unfolding see
    simple_mentions expected expr judged d rows none simple context listed =
        simple_in expected expr judged d rows none
        (or_true (fold_expr worths expr).simple (is_some (fold_expr worths expr).enum) simple)
        context listed
