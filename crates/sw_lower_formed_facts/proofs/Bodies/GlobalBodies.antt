-- The functions of global variables fit: what gives one its first value, and its getter.
use Rattle.std.proofs.Common.{◌≡◌, ℕ, List, [], ◌∷◌, Option, Some, None, map, refl, sym, subst, ap}
use Rattle.std.proofs.Common.{Contains, length}
use Rattle.std.proofs.lemmas.List.Elements.{All-cons, All-head, All-nil, All-tail}
use Rattle.std.specs.Option.{option_map}
use Rattle.std.specs.Prelude.{slice_get}
use Rattle.sw_lower_formed_facts.specs.Programs.{tables_in}
use Rattle.sw_tree.specs.declared.decl.Decl.{Decl}
use Rattle.sw_tree.specs.declared.decl.Decl.TheVariants.{Global}
use Rattle.sw_tree.specs.declared.decl.PropTree.{PropTree}
use Rattle.sw_tree.specs.declared.expr.Expr.{Expr}
use Rattle.sw_types.specs.Accepts.{IsAcceptedAs, is_marked}
use Rattle.sw_graph.specs.declared.function.Function.{Function}
use Rattle.sw_graph.specs.declared.function.GlobalKind.{GlobalKind}
use Rattle.sw_graph.specs.declared.function.RegKind.TheVariants.{Plain}
use Rattle.sw_graph.specs.declared.instr.Instr.TheVariants as instr
use Rattle.sw_graph.specs.declared.instr.Last.TheVariants.{Return}
use Rattle.sw_decl_words.specs.Evident.{Meanings, meanings_of}
use Rattle.sw_decl_words.specs.Shaped.{prop_type, written_actor}
use Rattle.sw_decls.specs.declared.signature.AsyncDefault.{AsyncDefault}
use Rattle.sw_decls.specs.declared.signature.GlobalVar.{GlobalVar}
use Rattle.sw_typing_rules.proofs.Sound.{judges}
use Rattle.sw_typing_rules.specs.Expressions.{Judged}
use Rattle.sw_typing_rules.specs.Judges.{Judges}
use Rattle.sw_typing_rules.specs.Judging.{judge}
use Rattle.sw_typing_rules.specs.Programs.{ValueOf, value_setting, values_from, values_of}
use Rattle.sw_typing_rules.specs.Programs as typing
use Rattle.sw_typing_rules.specs.Worlds.{World}
use Rattle.sw_isolation_rules.specs.Answers.{for_some}
use Rattle.sw_lower_plans.specs.Plan.{Numbers}
use Rattle.sw_lower_code.specs.Code.{close, emit, ◌>>◌}
use Rattle.sw_lower_code.specs.Whole.{Body}
use Rattle.sw_lower_rules.specs.Bodies.{first_code, first_value, global_bodies, global_getter}
use Rattle.sw_lower_rules.specs.Bodies.{global_kind, value_bodies}
use Rattle.sw_lower_rules.specs.Carriers.{ExprCode}
use Rattle.sw_lower_rules.specs.Statements.{expr_code}
use Rattle.sw_lower_rules.specs.Tables.{Isolation, Tables}
use Rattle.sw_lower_formed_facts.specs.Forms.{BodiesFit, ExprOk, VarHolds, Wherever}
use Rattle.sw_lower_formed_facts.specs.Trees.{IsHere}
use Rattle.sw_lower_formed_facts.specs.Safe.{MadeLast, Emitted, SafeAt, ValueAfter, here}
use Rattle.sw_lower_formed_facts.specs.Taking.{TakenOk}
use Rattle.sw_lower_formed_facts.specs.Whole.{IsSet}
use Rattle.sw_lower_formed_facts.proofs.Bodies.BodyFits.{body_fits}
use Rattle.sw_lower_formed_facts.proofs.Bodies.GetterBodies.{global_getters_fit}
use Rattle.sw_lower_formed_facts.proofs.Bodies.Given.{AllHere, Fits, IsProgram, fit_inside}
use Rattle.sw_typing_facts.proofs.Lists.Joined.{Gives, both_give, none_gives}
use Rattle.sw_typing_facts.proofs.Lists.Listed.{in_first}
use Rattle.sw_lower_formed_facts.proofs.Positions.Then.{safe_then, safe_weaker}
use Rattle.sw_lower_formed_facts.proofs.Positions.Using.{close_in, emit_in}
use Rattle.sw_typing_facts.proofs.Programs.DeclStands.{global_there, known_is, value_stands}
use Rattle.sw_typing_facts.proofs.Programs.Standing.{Stands}
use Rattle.sw_lower_formed_facts.proofs.Said.RowsOf.{value_goes, value_rows_hold}
use Rattle.sw_lower_formed_facts.proofs.Types.Going.{global_kind_by, goes_by}
use Rattle.sw_typing_facts.proofs.Types.Within.{unit_within}

-- the first value of a global variable, which is one of its program's
abbrev pub global_first : World → PropTree → Expr → ValueOf
global_first world prop value = record {
  at = prop.word.at;
  owner = None;
  wanted = prop_type world.known None prop;
  value = value;
}

pub global_first_stands : (world : World) (decls : List Decl) (n g : ℕ) (prop : PropTree)
    (value : Expr) → Stands decls n g (Global prop) → prop.value ≡ Some value
    → Contains (values_from world 0 decls) (global_first world prop value)
unfolding values_of
global_first_stands world decls n g prop value stands is =
    let made = global_first world prop value in
    value_stands world decls n g (Global prop) made stands
    (subst (λ found. Contains (typing.first_value world None prop found) made) (sym is)
    (in_first made []))

module _ (tables : Tables) (number : Numbers) (functions : List Function) where
  -- A value is stored in a global variable that accepts it.
  pub first_code_ok : (key g : ℕ) (global : GlobalVar)
      → slice_get tables.world.globals g ≡ Some global → (code : ExprCode) (judged : Judged)
      → (ok : ExprOk tables number functions None code judged) → IsAcceptedAs ok.ty global.ty
      → Wherever tables number functions None
      (λ w p. SafeAt w p (first_code key g code.read)
      (λ _ _. BodiesFit tables number functions code.inside))
  first_code_ok key g global at code judged ok accepted w of p knows =
      safe_then w p code.read
      (λ x. emit (instr.StoreGlobal key g x) >> close (Return None))
      (λ x q. ValueAfter w p ok.ty x q × Fit) (λ _ _. Fit) (ok.read w of p knows)
      (λ x q inside got.
      safe_then w q (emit (instr.StoreGlobal key g x)) (λ _. close (Return None))
      (λ _. Emitted w q (instr.StoreGlobal key g x)) (λ _ _. Fit)
      (emit_in tables functions w of q (instr.StoreGlobal key g x) refl
      (goes_by (slice_get w.regs x.reg) (option_map (λ (kind : GlobalKind). Plain kind.ty)
      (slice_get (map global_kind tables.world.globals) g)) ok.ty global.ty got.0.0.kind
      (global_kind_by tables.world.globals g global at) accepted)
      (All-cons (IsSet w q.writes (here q)) x.reg [] got.0.0.set
      (All-nil (IsSet w q.writes (here q)))))
      (λ _ s in_s emitted.
      safe_weaker w s (close (Return None)) (λ _. MadeLast w s) (λ _ _. Fit)
      (close_in tables functions w of s (Return None) tt (All-nil (IsSet w s.writes (here s)))
      (λ n to is. cc))
      (λ _ t in_t closed. got.1))) where
        Fit : Type 0
        Fit = BodiesFit tables number functions code.inside

module _ (world : World) (isolation : Isolation) (decls : List Decl) (rule : AsyncDefault)
    (number : Numbers) (functions : List Function)
    (program : IsProgram world isolation decls rule number functions) where
  abbrev tables : Tables
  tables = tables_in world isolation decls

  abbrev Given : List Body → Type 0
  Given = Gives (IsHere tables number functions) (Fits tables number functions)

  -- what gives a global variable its first value, with the bodies in it
  first_fits : (key g : ℕ) (global : GlobalVar) (value : ValueOf)
      → slice_get world.globals g ≡ Some global → Contains (values_from world 0 decls) value
      → value.owner ≡ None → value.wanted ≡ global.ty
      → Given (first_value tables key g (expr_code tables None value.value)
      ∷ (expr_code tables None value.value).inside)
  first_fits key g global value at stands outside wanted all =
      All-cons (Fits tables number functions) body code.inside fits.0
      (fit_inside tables number functions code.inside inside fits.1) where
        code : ExprCode
        code = expr_code tables None value.value

        body : Body
        body = first_value tables key g code

        inside : AllHere tables number functions code.inside
        inside = All-tail (IsHere tables number functions) body code.inside all

        judged : Judged
        judged = judge world value.value (value_setting value) (is_marked value.wanted)

        is_judged : Judges world (value_setting value) (is_marked value.wanted) value.value judged
        is_judged = judges world (value_setting value) (is_marked value.wanted) value.value

        ok_by : (owner : Option ℕ) → owner ≡ None
            → ExprOk tables number functions owner (expr_code tables owner value.value) judged
            → ExprOk tables number functions None code judged
        ok_by owner is ok =
            subst (λ o. ExprOk tables number functions o (expr_code tables o value.value) judged) is
            ok

        ok : ExprOk tables number functions None code judged
        ok = ok_by value.owner outside
            (program.exprs (value_setting value) (is_marked value.wanted) value.value judged
            is_judged (All-nil (VarHolds tables.answers))
            (value_rows_hold world decls program.keyed program.well value judged stands is_judged)
            (subst (λ o. AllHere tables number functions (expr_code tables o value.value).inside)
            (sym outside) inside))

        accepted : IsAcceptedAs ok.ty global.ty
        accepted = subst (IsAcceptedAs ok.ty) wanted
            (value_goes world decls program.keyed program.well value judged ok.ty stands is_judged
            ok.has)

        fits : Fits tables number functions body × BodiesFit tables number functions code.inside
        fits = body_fits tables number functions None body (All-nil (TakenOk tables None))
            (unit_within (length world.shapes)) (BodiesFit tables number functions code.inside)
            (λ w of p knows is.
            first_code_ok tables number functions key g global at code judged ok accepted w of p
            knows)
            (All-head (IsHere tables number functions) body code.inside all).made

  -- what is made of a global variable
  pub globals_fit : (n g : ℕ) (prop : PropTree) → Stands decls n g (Global prop)
      → Given (global_bodies tables g prop)
  unfolding global_bodies
  globals_fit n g prop stands =
      both_give (IsHere tables number functions) (Fits tables number functions)
      (value_bodies tables prop.word.at g prop.value)
      (for_some (slice_get world.globals g) (global_getter tables prop.word.at g))
      (by prop.value refl)
      (global_getters_fit tables number functions program.ground prop.word.at g) where
        global : GlobalVar
        global = record {
          key = prop.word;
          mutable = prop.mutable;
          actor = written_actor (meanings_of decls).top prop.written;
          ty = prop_type (meanings_of decls) None prop;
        }

        there : slice_get world.globals g ≡ Some global
        there = global_there decls rule world program.declared n g (Global prop) global stands refl

        by : (found : Option Expr) → prop.value ≡ found
            → Given (value_bodies tables prop.word.at g found)
        by None is = none_gives (IsHere tables number functions) (Fits tables number functions)
        by (Some value) is =
            first_fits prop.word.at g global (global_first world prop value) there
            (global_first_stands world decls n g prop value stands is)
            refl (ap (λ (known : Meanings). prop_type known None prop)
            (known_is decls rule world program.declared))
