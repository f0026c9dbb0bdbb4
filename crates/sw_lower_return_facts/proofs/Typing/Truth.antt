-- The code of a condition that counts as the literal `true`.
use Rattle.std.proofs.Common.{◌≡◌, ℕ, Bool, true, false, List, [], refl, sym, ◌∙◌}
use Rattle.std.proofs.Common.{subst, append-nil, map, Option, Some, None}
use Rattle.std.proofs.lemmas.Bool.{false≢true}
use Rattle.sw_tree.proofs.FoldEquations as eq
use Rattle.sw_tree.specs.Folds.{fold_link}
use Rattle.sw_tree.specs.declared.expr.Expr.{Expr}
use Rattle.sw_tree.specs.declared.expr.Link.{Link}
use Rattle.sw_tree.specs.declared.name.Name.{Name}
use Rattle.sw_types.specs.declared.ty.Ty.{Ty}
use Rattle.sw_types.specs.declared.ty.Ty.TheVariants as types
use Rattle.sw_graph.specs.declared.instr.Instr.TheVariants as instr
use Rattle.sw_graph.specs.declared.instr.Literal.TheVariants as literals
use Rattle.sw_graph.specs.declared.instr.Operand.{Operand}
use Rattle.sw_typing_rules.specs.Expressions.{Judged, infix_judged, me_judged, member_judged}
use Rattle.sw_typing_rules.specs.Expressions.{member_by, value_member}
use Rattle.sw_typing_rules.specs.Judges as is
use Rattle.sw_typing_rules.specs.Words.{Setting}
use Rattle.sw_lower_code.specs.Code.{Code, andthen, done, emit, reg}
use Rattle.sw_lower_rules.specs.Carriers.{ExprCode}
use Rattle.sw_lower_rules.specs.Expressions.{links_read}
use Rattle.sw_lower_rules.specs.Statements.{code_steps, expr_code}
use Rattle.sw_lower_rules.specs.Tables.{Tables}
use Rattle.sw_lower_rules.specs.Uses.{give}
use Rattle.sw_lower_return_facts.proofs.Statements.Truth.{MakesTrue}

-- the literal
true_code : (at : ℕ) → MakesTrue (give at types.Bool (λ r. instr.Const at r (literals.Bool true)))
unfolding reg emit done andthen
true_code at place = record { made = refl; lasts = refl; there = refl; at = at; writes = refl }

-- a chain without operators
alone_code : (code : Code Operand) → MakesTrue code → MakesTrue (andthen code (links_read []))
unfolding andthen links_read done
alone_code code makes place =
    let piece = code.plan place in
    let one = makes place in
    record {
      made = append-nil piece.made ∙ one.made;
      lasts = append-nil piece.lasts ∙ one.lasts;
      there = one.there;
      at = one.at;
      writes = append-nil piece.writes ∙ one.writes;
    }

module _ (tables : Tables) where
  member_never : (base : Judged) (name : Name)
      → (member_judged tables.world base name).is_true ≡ true → ⊥
  member_never base name is_so = by base.enum is_so where
    value : (found : Option Ty) → (value_member tables.world base found name).is_true ≡ true → ⊥
    value None so = false≢true so
    value (Some ty) so = false≢true so

    by : (named : Option ℕ) → (member_by tables.world base named name).is_true ≡ true → ⊥
    by None so = value base.ty so
    by (Some shape) so = false≢true so

  links_alone : (setting : Setting) (left judged : Judged) (links : List Link)
      → is.Links tables.world setting left links judged → judged.is_true ≡ true
      → (links ≡ []) × (left.is_true ≡ true)
  links_alone setting left judged links (is.no_link _ _) so = (refl, so)
  links_alone setting left judged links (is.one_link _ _ op at operand more right _ of_right rest)
      so =
      let later = links_alone setting (infix_judged op at left right) judged more rest so in
      absurd (false≢true later.1)

  pub makes_true : (setting : Setting) (expected : Bool) (expr : Expr) (judged : Judged)
      → is.Judges tables.world setting expected expr judged → judged.is_true ≡ true
      → MakesTrue (expr_code tables setting.owner expr).read
  unfolding expr_code
  makes_true setting expected expr judged (is.int _ _ at value) so = absurd (false≢true so)
  makes_true setting expected expr judged (is.bool _ _ at value) so =
      subst (λ (code : ExprCode). MakesTrue code.read)
      (sym (eq.fold_expr-Bool (code_steps tables setting.owner) at value))
      (subst (λ one. MakesTrue (give at types.Bool (λ r. instr.Const at r (literals.Bool one))))
      (sym so) (true_code at))
  makes_true setting expected expr judged (is.word _ _ name) so = absurd (false≢true so)
  makes_true setting expected expr judged (is.me _ _ at) so =
      absurd (me_never setting.owner so) where
        me_never : (owner : Option ℕ) → (me_judged owner at).is_true ≡ true → ⊥
        me_never None so = false≢true so
        me_never (Some k) so = false≢true so
  makes_true setting expected expr judged (is.member _ _ base name one of_base) so =
      absurd (member_never one name so)
  makes_true setting expected expr judged (is.call _ _ name args passed of_args) so =
      absurd (false≢true so)
  makes_true setting expected expr judged (is.method _ _ base name args one passed of_base of_args)
      so = absurd (false≢true so)
  makes_true setting expected expr judged (is.chain _ _ first rest left _ of_first of_rest) so =
      let alone = links_alone setting left judged rest of_rest so in
      subst (λ (code : ExprCode). MakesTrue code.read)
      (sym (eq.fold_expr-Chain (code_steps tables setting.owner) first rest))
      (subst (λ all. MakesTrue (andthen (expr_code tables setting.owner first).read
      (links_read (map (fold_link (code_steps tables setting.owner)) all)))) (sym alone.0)
      (alone_code (expr_code tables setting.owner first).read
      (makes_true setting false first left of_first alone.1)))
  makes_true setting expected expr judged (is.prefix _ _ op at inner one of_inner) so =
      absurd (false≢true so)
  makes_true setting expected expr judged (is.await _ _ at inner one of_inner) so =
      absurd (false≢true so)
  makes_true setting expected expr judged (is.fun _ _ closure closed of_closure) so =
      absurd (false≢true so)
  makes_true setting expected expr judged (is.spawn _ _ at detached body closed of_body) so =
      absurd (false≢true so)
  makes_true setting expected expr judged (is.yield _ _ at) so = absurd (false≢true so)
