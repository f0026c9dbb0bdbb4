-- What gives global variables their first values proceeds, and so do their getters.
use Rattle.std.proofs.Common.{◌≡◌, ℕ, false, List, [], ◌∷◌, Option, Some, None, refl, sym}
use Rattle.std.proofs.Common.{subst, Contains, arith}
use Rattle.std.proofs.lemmas.List.Elements.{All-cons, All-nil, All-tail}
use Rattle.std.specs.Prelude.{All, slice_get}
use Rattle.sw_tree.specs.declared.decl.Decl.{Decl}
use Rattle.sw_tree.specs.declared.decl.Decl.TheVariants.{Global}
use Rattle.sw_tree.specs.declared.decl.PropTree.{PropTree}
use Rattle.sw_tree.specs.declared.expr.Expr.{Expr}
use Rattle.sw_tree_facts.specs.Unwritten.{expr_unwritten}
use Rattle.sw_types.specs.Accepts.{is_marked}
use Rattle.sw_types.specs.declared.isolation.Iso.{Iso}
use Rattle.sw_graph.specs.declared.instr.Instr.TheVariants as instr
use Rattle.sw_graph.specs.declared.instr.Last.TheVariants.{Return}
use Rattle.sw_decls.specs.declared.signature.AsyncDefault.{AsyncDefault}
use Rattle.sw_typing_rules.specs.Expressions.{Judged}
use Rattle.sw_typing_rules.specs.Judges.{Judges}
use Rattle.sw_typing_rules.specs.Judging.{judge}
use Rattle.sw_typing_rules.specs.Programs.{ValueOf, value_setting, values_from}
use Rattle.sw_typing_rules.specs.Worlds.{World}
use Rattle.sw_typing_rules.proofs.Sound.{judges}
use Rattle.sw_isolation_rules.specs.Answers.{for_some}
use Rattle.sw_isolation_rules.specs.Programs.{context_of}
use Rattle.sw_isolation_rules.specs.declared.note.Note.{Note}
use Rattle.sw_lower_plans.specs.Plan.{Numbers}
use Rattle.sw_lower_plans.specs.Run.{Making}
use Rattle.sw_lower_code.specs.Code.{close, emit, ◌>>◌}
use Rattle.sw_lower_code.specs.Whole.{Body}
use Rattle.sw_lower_rules.specs.Bodies.{first_value, global_bodies, global_getter, value_bodies}
use Rattle.sw_lower_rules.specs.Carriers.{ExprCode}
use Rattle.sw_lower_rules.specs.Statements.{expr_code}
use Rattle.sw_lower_rules.specs.Tables.{Tables}
use Rattle.sw_lower_formed_facts.specs.Forms.{VarHolds}
use Rattle.sw_lower_formed_facts.proofs.Bodies.GlobalBodies.{global_first, global_first_stands}
use Rattle.sw_typing_facts.proofs.Lists.Joined.{Gives, both_give, none_gives}
use Rattle.sw_typing_facts.proofs.Programs.Standing.{Stands}
use Rattle.sw_lower_formed_facts.proofs.Said.RowsOf.{value_rows_hold}
use Rattle.sw_lower_total_facts.specs.Bound.{Ready}
use Rattle.sw_lower_total_facts.specs.Forms.{ExprProceeds}
use Rattle.sw_lower_total_facts.specs.Proceeding.{BodyProceeds, BodyIsNumbered}
use Rattle.sw_lower_total_facts.specs.Programs.{noted_tables, notes_of}
use Rattle.sw_lower_total_facts.specs.Trees.{ExprStands, noted_of}
use Rattle.sw_lower_total_facts.proofs.Bodies.Getters.{global_getters_proceed}
use Rattle.sw_lower_total_facts.proofs.Bodies.Given.{IsProgram}
use Rattle.sw_lower_total_facts.proofs.Bodies.Taking.{Entered, body_proceeds}
use Rattle.sw_lower_total_facts.proofs.EnumWords.{value_unmeant}
use Rattle.sw_lower_total_facts.proofs.Proceeding.Steps.{proceeds_close, proceeds_emit}
use Rattle.sw_lower_total_facts.proofs.Proceeding.Then.{proceeds_then}

module _ (world : World) (decls : List Decl) (rule : AsyncDefault) (number : Numbers)
    (program : IsProgram world decls rule number) where
  abbrev tables : Tables
  tables = noted_tables world decls

  abbrev all : List Note
  all = notes_of world decls

  abbrev Given : List Body → Type 0
  Given = Gives (BodyIsNumbered number) (BodyProceeds number)

  -- a first value, in its context
  pub value_proceeds : (value : ValueOf) → Contains (values_from world 0 decls) value
      → (iso : Iso)
      → ExprStands tables number all (context_of iso false value.owner) [] [] value.value
      → expr_unwritten value.value ≡ []
      → All (BodyIsNumbered number) (expr_code tables value.owner value.value).inside
      → ExprProceeds tables number (context_of iso false value.owner) [] []
      (noted_of tables number all value.value (context_of iso false value.owner) [])
      (expr_code tables value.owner value.value)
  value_proceeds value has iso there tasks numbered =
      program.exprs (value_setting value) (is_marked value.wanted) value.value judged is_judged
      (value_unmeant world decls program.keyed value has) tasks
      (All-nil (VarHolds tables.answers))
      (value_rows_hold world decls program.keyed program.well value judged has is_judged) numbered
      (context_of iso false value.owner) [] refl there where
        judged : Judged
        judged = judge world value.value (value_setting value) (is_marked value.wanted)

        is_judged : Judges world (value_setting value) (is_marked value.wanted) value.value judged
        is_judged = judges world (value_setting value) (is_marked value.wanted) value.value

  -- Outside of types nothing is seen where a first value begins.
  first_ready : (iso : Iso) (notes : List Note) (t : Making) → Entered number [] t
      → Ready tables number (context_of iso false None) [] [] notes t
  first_ready iso notes t entered = record {
    going = entered.going;
    numbers = entered.numbers;
    vars = λ key (k, lt, is) mentioned. absurd (omega (arith, lt));
    held = λ own held key (k, lt, is). absurd (omega (arith, lt));
  }

  -- what gives a global variable its first value, with the bodies in it
  first_proceeds : (key g : ℕ) (value : ValueOf) → Contains (values_from world 0 decls) value
      → value.owner ≡ None → (iso : Iso)
      → ExprStands tables number all (context_of iso false None) [] [] value.value
      → expr_unwritten value.value ≡ []
      → Given (first_value tables key g (expr_code tables None value.value)
      ∷ (expr_code tables None value.value).inside)
  first_proceeds key g value has outside iso there tasks numbered =
      All-cons (BodyProceeds number) body code.inside
      (body_proceeds number body (λ t entered.
      proceeds_then code.read
      (λ x. emit (instr.StoreGlobal key g x) >> close (Return None)) t entered.going
      (ok.read t (first_ready iso _ t entered))
      (λ x u ran made.
      proceeds_then (emit (instr.StoreGlobal key g x)) (λ _. close (Return None)) u made.1.there
      (proceeds_emit (instr.StoreGlobal key g x) u)
      (λ value v ended more. proceeds_close (Return None) v))))
      ok.inside where
        code : ExprCode
        code = expr_code tables None value.value

        body : Body
        body = first_value tables key g code

        Ok : Option ℕ → Type 0
        Ok owner = ExprProceeds tables number (context_of iso false owner) [] []
            (noted_of tables number all value.value (context_of iso false owner) [])
            (expr_code tables owner value.value)

        ok : Ok None
        ok = subst Ok outside (value_proceeds value has iso
            (subst (λ owner. ExprStands tables number all (context_of iso false owner) [] []
            value.value) (sym outside) there) tasks
            (subst (λ owner. All (BodyIsNumbered number)
            (expr_code tables owner value.value).inside)
            (sym outside) (All-tail (BodyIsNumbered number) body code.inside numbered)))

  -- what is made of a global variable
  pub globals_proceed : (n g : ℕ) (prop : PropTree) → Stands decls n g (Global prop) → (iso : Iso)
      → ((value : Expr) → prop.value ≡ Some value
      → ExprStands tables number all (context_of iso false None) [] [] value
      × (expr_unwritten value ≡ []))
      → Given (global_bodies tables g prop)
  unfolding global_bodies
  globals_proceed n g prop stands iso there =
      both_give (BodyIsNumbered number) (BodyProceeds number)
      (value_bodies tables prop.word.at g prop.value)
      (for_some (slice_get world.globals g) (global_getter tables prop.word.at g))
      (by prop.value refl) (λ numbered. global_getters_proceed tables number prop.word.at g) where
        by : (found : Option Expr) → prop.value ≡ found
            → Given (value_bodies tables prop.word.at g found)
        by None is = none_gives (BodyIsNumbered number) (BodyProceeds number)
        by (Some value) is =
            let at = there value is in
            first_proceeds prop.word.at g (global_first world prop value)
            (global_first_stands world decls n g prop value stands is) refl iso at.0 at.1
