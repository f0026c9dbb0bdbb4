-- The functions of what gives global variables their first values return their results, and so do
-- those of the bodies in it.
use Rattle.std.proofs.Common.{◌≡◌, ℕ, false, true≢false, List, ◌∷◌, Option, Some, None}
use Rattle.std.proofs.Common.{refl, sym, subst, ap, ◌∙◌, Contains}
use Rattle.std.proofs.lemmas.List.Elements.{All-cons, All-nil, All-tail}
use Rattle.std.specs.Prelude.{slice_get}
use Rattle.sw_lower_formed_facts.specs.Programs.{tables_in}
use Rattle.sw_tree.specs.declared.decl.Decl.{Decl}
use Rattle.sw_tree.specs.declared.decl.Decl.TheVariants.{Global}
use Rattle.sw_tree.specs.declared.decl.PropTree.{PropTree}
use Rattle.sw_tree.specs.declared.expr.Expr.{Expr}
use Rattle.sw_types.specs.Accepts.{is_marked}
use Rattle.sw_types.specs.declared.ty.Ty.TheVariants as types
use Rattle.sw_graph.specs.declared.function.Function.{Function}
use Rattle.sw_decls.specs.declared.signature.AsyncDefault.{AsyncDefault}
use Rattle.sw_typing_rules.proofs.Sound.{judges}
use Rattle.sw_typing_rules.specs.Expressions.{Judged}
use Rattle.sw_typing_rules.specs.Judges.{Judges}
use Rattle.sw_typing_rules.specs.Judging.{judge}
use Rattle.sw_typing_rules.specs.Programs.{ValueOf, value_setting, values_from}
use Rattle.sw_typing_rules.specs.Verdicts.{is_unit, unit_layer}
use Rattle.sw_typing_rules.specs.Worlds.{World}
use Rattle.sw_isolation_rules.specs.Answers.{for_some}
use Rattle.sw_lower_plans.specs.Plan.{Numbers}
use Rattle.sw_lower_code.specs.Whole.{Body}
use Rattle.sw_lower_rules.specs.Bodies.{first_value, global_bodies, global_getter, value_bodies}
use Rattle.sw_lower_rules.specs.Carriers.{ExprCode}
use Rattle.sw_lower_rules.specs.Statements.{expr_code}
use Rattle.sw_lower_rules.specs.Tables.{Isolation, Tables}
use Rattle.sw_lower_formed_facts.specs.Forms.{VarHolds}
use Rattle.sw_lower_formed_facts.specs.Trees.{IsHere}
use Rattle.sw_lower_formed_facts.proofs.Bodies.GlobalBodies.{global_first, global_first_stands}
use Rattle.sw_lower_formed_facts.proofs.Bodies.Given.{AllHere, IsProgram}
use Rattle.sw_typing_facts.proofs.Lists.Joined.{Gives, both_give, none_gives}
use Rattle.sw_typing_facts.proofs.Programs.Standing.{Stands}
use Rattle.sw_lower_formed_facts.proofs.Said.RowsOf.{value_rows_hold}
use Rattle.sw_lower_return_facts.specs.Forms.{BodyReturns}
use Rattle.sw_lower_return_facts.proofs.Functions.Bodies.{body_returns}
use Rattle.sw_lower_return_facts.proofs.Induction.{expr_returns}
use Rattle.sw_lower_return_facts.proofs.Programs.Getters.{global_getters_return}
use Rattle.sw_lower_return_facts.proofs.Programs.Signed.{AllReturn}

unit_never : is_unit types.Unit ≡ false → ⊥
unit_never is = true≢false (sym (ap unit_layer types.outs-Unit) ∙ is)

module _ (world : World) (isolation : Isolation) (decls : List Decl) (rule : AsyncDefault)
    (number : Numbers) (functions : List Function)
    (program : IsProgram world isolation decls rule number functions) where
  abbrev tables : Tables
  tables = tables_in world isolation decls

  abbrev Given : List Body → Type 0
  Given = Gives (IsHere tables number functions) (BodyReturns number)

  -- what gives a global variable its first value, with the bodies in it
  first_returns : (key g : ℕ) (value : ValueOf) → Contains (values_from world 0 decls) value
      → value.owner ≡ None
      → Given (first_value tables key g (expr_code tables None value.value)
      ∷ (expr_code tables None value.value).inside)
  first_returns key g value stands outside all =
      All-cons (BodyReturns number) body code.inside
      (body_returns number body (λ never. absurd (unit_never never))) (by value.owner outside) where
        code : ExprCode
        code = expr_code tables None value.value

        body : Body
        body = first_value tables key g code

        inside : AllHere tables number functions code.inside
        inside = All-tail (IsHere tables number functions) body code.inside all

        judged : Judged
        judged = judge world value.value (value_setting value) (is_marked value.wanted)

        is_judged : Judges world (value_setting value) (is_marked value.wanted) value.value judged
        is_judged = judges world (value_setting value) (is_marked value.wanted) value.value

        by : (owner : Option ℕ) → value.owner ≡ None → AllReturn number code.inside
        by owner is =
            subst (λ o. AllReturn number (expr_code tables o value.value).inside) is
            (expr_returns tables number functions program.exprs (value_setting value)
            (is_marked value.wanted) value.value judged is_judged
            (All-nil (VarHolds tables.answers))
            (value_rows_hold world decls program.keyed program.well value judged stands is_judged)
            (subst (λ o. AllHere tables number functions (expr_code tables o value.value).inside)
            (sym is) inside))

  -- what is made of a global variable
  pub globals_return : (n g : ℕ) (prop : PropTree) → Stands decls n g (Global prop)
      → Given (global_bodies tables g prop)
  unfolding global_bodies
  globals_return n g prop stands =
      both_give (IsHere tables number functions) (BodyReturns number)
      (value_bodies tables prop.word.at g prop.value)
      (for_some (slice_get world.globals g) (global_getter tables prop.word.at g))
      (by prop.value refl)
      (global_getters_return tables number functions prop.word.at g) where
        by : (found : Option Expr) → prop.value ≡ found
            → Given (value_bodies tables prop.word.at g found)
        by None is = none_gives (IsHere tables number functions) (BodyReturns number)
        by (Some value) is =
            first_returns prop.word.at g (global_first world prop value)
            (global_first_stands world decls n g prop value stands is) refl
