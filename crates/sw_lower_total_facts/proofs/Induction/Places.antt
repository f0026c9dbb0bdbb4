-- A place that is assigned: a word or a member.
use Rattle.std.proofs.Common.{◌≡◌, ℕ, Bool, true, false, List, [], ◌++◌, Some, None, refl, sym, ◌∙◌}
use Rattle.std.proofs.Common.{subst, map, Contains}
use Rattle.std.proofs.lemmas.List.Elements.{All-nil}
use Rattle.std.proofs.lemmas.Bool.{false≢true}
use Rattle.sw_tree.specs.Folds.{fold_link}
use Rattle.sw_tree.specs.Keys.{joined}
use Rattle.sw_tree.specs.declared.expr.Expr.{Expr}
use Rattle.sw_tree.specs.declared.expr.Link.{Link}
use Rattle.sw_tree.specs.declared.name.Name.{Name}
use Rattle.sw_tree.proofs.FoldEquations as eq
use Rattle.sw_tree_facts.specs.Unwritten.{expr_unwritten, unwritten_steps}
use Rattle.sw_types.specs.declared.ty.Ty.{Ty}
use Rattle.sw_typing_rules.specs.Expressions.{Judged, member_judged}
use Rattle.sw_typing_rules.specs.Judges as is
use Rattle.sw_typing_rules.specs.Statements.{fixed}
use Rattle.sw_typing_rules.specs.Words.{Setting}
use Rattle.sw_typing_rules.specs.declared.scope.Var.{Var}
use Rattle.sw_isolation_rules.specs.Noting.{Seen, member_seen, see, word_seen}
use Rattle.sw_isolation_rules.specs.declared.note.Note.{Note}
use Rattle.sw_isolation_rules.specs.declared.uses.Context.{Context}
use Rattle.sw_lower_plans.specs.Plan.{Numbers}
use Rattle.sw_lower_rules.specs.Carriers.{ExprCode}
use Rattle.sw_lower_rules.specs.Expressions.{member_code}
use Rattle.sw_lower_rules.specs.Statements.{code_steps, expr_code}
use Rattle.sw_lower_rules.specs.Tables.{Tables}
use Rattle.sw_typing_facts.specs.Rows.{RowsHold}
use Rattle.sw_typing_facts.proofs.Programs.DeclStands.{none_right}
use Rattle.sw_typing_facts.specs.EnumWords.{in_expr}
use Rattle.sw_lower_total_facts.specs.Forms.{ExprProceeds}
use Rattle.sw_lower_total_facts.specs.Known.{TablesAgree}
use Rattle.sw_lower_total_facts.specs.Proceeding.{BodyProceeds}
use Rattle.sw_lower_total_facts.specs.Trees.{noted_of}
use Rattle.sw_lower_total_facts.proofs.Expressions.Bases.{BaseStands, base_inside}
use Rattle.sw_lower_total_facts.proofs.Expressions.Members.{member_before, member_place}
use Rattle.sw_lower_total_facts.proofs.Expressions.Senses.{ShapesStand}
use Rattle.sw_lower_total_facts.proofs.Expressions.Words.{word_before, word_place}
use Rattle.sw_lower_total_facts.proofs.Induction.Bases.{member_rows, value_unmeant}
use Rattle.sw_lower_total_facts.proofs.Induction.Claims.{BaseIn, ExprClaim, IsPlace, Numbered, PlaceClaim}
use Rattle.sw_lower_total_facts.proofs.Induction.Forms.{seeing, tasks_in}
use Rattle.sw_lower_total_facts.proofs.Standing.Trees as standing
use Rattle.sw_lower_total_facts.proofs.Standing.Trees.{StandsExpr}
use Rattle.sw_lower_total_facts.proofs.Trees.Enums.{enum_alone}
use Rattle.sw_lower_total_facts.proofs.Trees.Keys.{seen_key}
use Rattle.sw_lower_total_facts.proofs.Trees.Places.{before_among, chain_no_place}
use Rattle.sw_lower_total_facts.proofs.Trees.Types.{node_typed}

module _ (tables : Tables) (number : Numbers) (all : List Note) where
  -- by what is seen and the code that a form gives
  place_by : (context : Context) (listed : List ℕ) (vars : List Var) (seen other : Seen)
      (code form : ExprCode) → seen ≡ other → code ≡ form
      → IsPlace tables number all context listed vars other form
      → IsPlace tables number all context listed vars seen code
  place_by context listed vars seen other code form same is place =
      subst (λ these. IsPlace tables number all context listed vars these code) (sym same)
      (subst (IsPlace tables number all context listed vars other) (sym is) place)

  pub base_in : (context : Context) (listed : List ℕ) (vars : List Var) (place : Expr)
      → StandsExpr tables all context listed vars place
      → BaseIn tables number all context listed vars place
  base_in context listed vars place stands base name is =
      standing.member_base_stands tables all context listed vars base name
      (subst (StandsExpr tables all context listed vars) is stands)

  -- What can't be assigned is no place.
  pub no_place : (setting : Setting) (expected : Bool) (expr : Expr) (judged : Judged)
      (judges : is.Judges tables.world setting expected expr judged) → judged.settable ≡ false
      → PlaceClaim tables number all judges
  no_place setting expected expr judged judges fixed unmeant none vars rows numbered context listed
      same stands settable = absurd (false≢true (sym fixed ∙ settable))

  pub chain_place : (setting : Setting) (expected : Bool) (first : Expr) (rest : List Link)
      (left judged : Judged) (of_first : is.Judges tables.world setting false first left)
      (of_rest : is.Links tables.world setting left rest judged)
      → PlaceClaim tables number all
      (is.chain setting expected first rest left judged of_first of_rest)
  unfolding expr_unwritten
  chain_place setting expected first rest left judged of_first of_rest unmeant none =
      no_place setting expected _ judged (is.chain _ _ first rest left judged of_first of_rest)
      (chain_no_place tables setting first rest left judged of_rest
      (none_right (expr_unwritten first ++ joined (map (fold_link unwritten_steps) rest)) _
      (tasks_in _ _ (eq.fold_expr-Chain unwritten_steps first rest) none))) unmeant none

  module _ (known : TablesAgree tables number all) (stand : ShapesStand tables.world) where
    pub word_is_place : (setting : Setting) (expected : Bool) (name : Name)
        → PlaceClaim tables number all (is.word setting expected name)
    unfolding see expr_code
    word_is_place setting expected name unmeant none vars rows numbered context listed same stands
        settable =
        place_by context listed setting.vars _ (word_seen tables.world tables.answers name.at) _ _
        (eq.fold_expr-Use (seeing tables) name)
        (eq.fold_expr-Use (code_steps tables setting.owner) name)
        (record {
          write = word_place tables number all known stand context listed setting same name rows
              settable;
          among = word_before tables number all known stand context listed setting same name;
          inside = All-nil (BodyProceeds number);
        })

    -- A member is a place, where its base is one that stands.
    place_by_base : (setting : Setting) (base : Expr) (one : Judged) (name : Name)
        (context : Context) (listed : List ℕ)
        → RowsHold tables.answers (member_judged tables.world one name).rows
        → (member_judged tables.world one name).settable ≡ true
        → (one.enum ≡ None
        → ExprProceeds tables number context listed setting.vars
        (noted_of tables number all base context listed) (expr_code tables setting.owner base))
        → (one.enum ≡ None → one.settable ≡ true
        → IsPlace tables number all context listed setting.vars
        (see tables.world tables.answers base) (expr_code tables setting.owner base))
        → (one.enum ≡ None → (ty : Ty) → one.ty ≡ Some ty
        → tables.answers.type_at (expr_code tables setting.owner base).key ≡ Some ty)
        → ((k : ℕ) → one.enum ≡ Some k → (expr_code tables setting.owner base).inside ≡ [])
        → ((context : Context) (listed : List ℕ) (note : Note)
        → Contains ((see tables.world tables.answers base).before context listed) note
        → Contains ((see tables.world tables.answers base).notes context listed) note)
        → IsPlace tables number all context listed setting.vars
        (member_seen tables.world tables.answers (see tables.world tables.answers base) name.at)
        (member_code tables setting.owner (expr_code tables setting.owner base) name.at name.id)
    place_by_base setting base one name context listed rows settable proceeds place typed alone
        among = record {
          write = member_place tables number all known stand context listed setting.vars
              setting.owner seen one code name stands (seen_key tables setting.owner base)
              (record { place = λ none set. (place none set).write; among = among context listed })
              rows settable;
          among = member_before tables number all known stand context listed setting.vars
              setting.owner seen one code name stands (seen_key tables setting.owner base);
          inside = base_inside tables number context listed setting.vars one code
              (seen.notes context listed) stands;
        } where
          seen : Seen
          seen = see tables.world tables.answers base

          code : ExprCode
          code = expr_code tables setting.owner base

          stands : BaseStands tables number context listed setting.vars one code
              (seen.notes context listed)
          stands = record { proceeds = proceeds; typed = typed; alone = alone }

    pub member_is_place : (setting : Setting) (expected : Bool) (base : Expr) (name : Name)
        (one : Judged) (of_base : is.Judges tables.world setting false base one)
        → ExprClaim tables number all of_base → PlaceClaim tables number all of_base
        → PlaceClaim tables number all (is.member setting expected base name one of_base)
    unfolding see expr_code expr_unwritten in_expr
    member_is_place setting expected base name one of_base base_proceeds base_place unmeant none
        vars rows numbered context listed same stands settable =
        let base_none = tasks_in _ _ (eq.fold_expr-Member unwritten_steps base name) none in
        let base_numbered = subst (λ (form : ExprCode). Numbered number form.inside)
        (eq.fold_expr-Member (code_steps tables setting.owner) base name) numbered in
        let base_words = in_expr tables.world setting false base one of_base in
        place_by context listed setting.vars _ (member_seen tables.world tables.answers
        (see tables.world tables.answers base) name.at) _ _
        (eq.fold_expr-Member (seeing tables) base name)
        (eq.fold_expr-Member (code_steps tables setting.owner) base name)
        (place_by_base setting base one name context listed rows settable
        (λ none_named. base_proceeds (value_unmeant tables one base_words unmeant none_named)
        base_none vars (member_rows tables one name none_named rows) base_numbered context listed
        same (stands base name refl))
        (λ none_named set. base_place (value_unmeant tables one base_words unmeant none_named)
        base_none vars (member_rows tables one name none_named rows) base_numbered context listed
        same (base_in context listed setting.vars base (stands base name refl)) set)
        (λ none_named ty has. node_typed tables setting false base one of_base
        (member_rows tables one name none_named rows) ty has)
        (enum_alone tables setting false base one of_base)
        (before_among tables setting false base one of_base))
