-- Places that are assigned.
use Rattle.std.proofs.Common.{◌≡◌, ℕ, Bool, true, false, List, [], Contains, arith, map, subst, sym}
use Rattle.std.proofs.Common.{refl, Some}
use Rattle.std.proofs.lemmas.List.Elements.{Contains-append_left}
use Rattle.sw_tree.specs.Folds.{Steps, fold_link}
use Rattle.sw_tree.specs.declared.expr.Expr.{Expr}
use Rattle.sw_tree.specs.declared.expr.Link.{Link}
use Rattle.sw_tree.specs.declared.operator.AssignOp.{AssignOp}
use Rattle.sw_tree.proofs.FoldEquations as eq
use Rattle.sw_tree_facts.specs.Unwritten.{bare, unwritten_steps}
use Rattle.sw_types.specs.declared.ty.Ty.{Ty}
use Rattle.sw_typing_rules.specs.Expressions.{Judged, infix_judged}
use Rattle.sw_typing_rules.specs.Judges as is
use Rattle.sw_typing_rules.specs.Statements.{State, assign_left}
use Rattle.sw_typing_rules.specs.Words.{Setting}
use Rattle.sw_typing_rules.specs.declared.scope.Inside.{Inside}
use Rattle.sw_isolation_rules.specs.Answers.{Answers}
use Rattle.sw_isolation_rules.specs.Noting.{Seen, member_notes, mention_notes, note_steps, see}
use Rattle.sw_isolation_rules.specs.Noting.{use_notes, used_at}
use Rattle.sw_isolation_rules.specs.Uses.{no_base}
use Rattle.sw_isolation_rules.specs.declared.note.Note.{Note}
use Rattle.sw_isolation_rules.specs.declared.uses.Context.{Context}
use Rattle.sw_lower_rules.specs.Tables.{Tables}
use Rattle.sw_typing_facts.specs.Rows.{RowsHold}
use Rattle.sw_lower_formed_facts.proofs.Statements.Assigning.{settles}

-- A place that is assigned outside of initialisers, and has a type, can be assigned.
pub is_settable : (answers : Answers) (inside : Inside) (state : State) (at : ℕ) (op : AssignOp)
    (placed judged : Judged) (ty : Ty) → inside.init ≡ false → placed.ty ≡ Some ty
    → RowsHold answers (assign_left inside state at op placed judged).rows
    → placed.settable ≡ true
is_settable answers inside state at op placed judged ty init has rows =
    (settles answers inside state at op placed judged ty init has rows).settable

module _ (tables : Tables) where
  abbrev steps : Steps
  steps = note_steps tables.world tables.answers

  -- What is noted before a place is assigned is noted of its value too.
  abbrev Among : Seen → Type 0
  Among seen = (context : Context) (listed : List ℕ) (note : Note)
      → Contains (seen.before context listed) note → Contains (seen.notes context listed) note

  none_before : (note : Note) → Contains [] note → ⊥
  none_before note (place, below, is) = omega (arith, below)

  pub before_among : (setting : Setting) (expected : Bool) (expr : Expr) (judged : Judged)
      → is.Judges tables.world setting expected expr judged
      → Among (see tables.world tables.answers expr)
  unfolding see
  before_among setting expected expr judged (is.int _ _ at value) =
      subst Among (sym (eq.fold_expr-Int steps at value)) (λ context listed note has.
      absurd (none_before note has))
  before_among setting expected expr judged (is.bool _ _ at value) =
      subst Among (sym (eq.fold_expr-Bool steps at value)) (λ context listed note has.
      absurd (none_before note has))
  before_among setting expected expr judged (is.word _ _ name) =
      subst Among (sym (eq.fold_expr-Use steps name)) (λ context listed note has.
      Contains-append_left (mention_notes tables.world tables.answers context name.at)
      (use_notes context name.at (used_at tables.world tables.answers context no_base name.at)) note
      has)
  before_among setting expected expr judged (is.me _ _ at) =
      subst Among (sym (eq.fold_expr-Me steps at)) (λ context listed note has. has)
  before_among setting expected expr judged (is.member _ _ base name one of_base) =
      subst Among (sym (eq.fold_expr-Member steps base name)) (λ context listed note has.
      Contains-append_left ((see tables.world tables.answers base).notes context listed)
      (member_notes tables.world tables.answers (see tables.world tables.answers base) name.at
      context) note has)
  before_among setting expected expr judged (is.call _ _ name args passed of_args) =
      subst Among (sym (eq.fold_expr-Call steps name args)) (λ context listed note has.
      absurd (none_before note has))
  before_among setting expected expr judged
      (is.method _ _ base name args one passed of_base of_args) =
      subst Among (sym (eq.fold_expr-Method steps base name args)) (λ context listed note has.
      absurd (none_before note has))
  before_among setting expected expr judged (is.chain _ _ first rest left _ of_first of_rest) =
      subst Among (sym (eq.fold_expr-Chain steps first rest)) (λ context listed note has.
      absurd (none_before note has))
  before_among setting expected expr judged (is.prefix _ _ op at inner one of_inner) =
      subst Among (sym (eq.fold_expr-Prefix steps op at inner)) (λ context listed note has.
      absurd (none_before note has))
  before_among setting expected expr judged (is.await _ _ at inner one of_inner) =
      subst Among (sym (eq.fold_expr-Await steps at inner)) (λ context listed note has.
      absurd (none_before note has))
  before_among setting expected expr judged (is.fun _ _ closure closed of_closure) =
      subst Among (sym (eq.fold_expr-Fun steps closure)) (λ context listed note has.
      absurd (none_before note has))
  before_among setting expected expr judged (is.spawn _ _ at detached task closed of_closure) =
      subst Among (sym (eq.fold_expr-Spawn steps at detached task)) (λ context listed note has.
      absurd (none_before note has))
  before_among setting expected expr judged (is.yield _ _ at) =
      subst Among (sym (eq.fold_expr-Yield steps at)) (λ context listed note has.
      absurd (none_before note has))

  -- What stands after an operator is no place.
  links_no_place : (setting : Setting) (left judged : Judged) (links : List Link)
      → is.Links tables.world setting left links judged → left.settable ≡ false
      → judged.settable ≡ false
  links_no_place setting left judged links (is.no_link _ _) never = never
  links_no_place setting left judged links
      (is.one_link _ _ op at operand more right _ of_right rest) never =
      links_no_place setting (infix_judged op at left right) judged more rest refl

  -- A chain that a text can write has an operator, so it is no place.
  pub chain_no_place : (setting : Setting) (first : Expr) (rest : List Link) (left judged : Judged)
      → is.Links tables.world setting left rest judged
      → bare (map (fold_link unwritten_steps) rest) ≡ [] → judged.settable ≡ false
  chain_no_place setting first rest left judged (is.no_link _ _) written = cc
  chain_no_place setting first rest left judged
      (is.one_link _ _ op at operand more right _ of_right of_more) written =
      links_no_place setting (infix_judged op at left right) judged more of_more refl
