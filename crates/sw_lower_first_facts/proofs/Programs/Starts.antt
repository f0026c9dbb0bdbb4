-- The bodies that give global variables their first values, by their numbers.
use Rattle.std.proofs.Common.{◌≡◌, ℕ, List, Option, Some, None, Contains}
use Rattle.std.proofs.Common.{sym, ap, subst, ◌∙◌, slice_get}
use Rattle.std.proofs.lemmas.List.Elements.{Contains-append_left}
use Rattle.std.proofs.lemmas.Option.{slice_get-map}
use Rattle.std.specs.Option.{option_map}
use Rattle.sw_tree.specs.declared.decl.Decl.{Decl}
use Rattle.sw_tree.specs.declared.decl.Decl.TheVariants.{Global}
use Rattle.sw_tree.specs.declared.decl.PropTree.{PropTree}
use Rattle.sw_tree.specs.declared.expr.Expr.{Expr}
use Rattle.sw_graph.specs.declared.graph.Graph.{Graph}
use Rattle.sw_decls.specs.declared.signature.AsyncDefault.{AsyncDefault}
use Rattle.sw_decls.specs.declared.signature.GlobalVar.{GlobalVar}
use Rattle.sw_typing_rules.specs.Worlds.{World}
use Rattle.sw_isolation_rules.specs.Answers.{for_some}
use Rattle.sw_lower_code.specs.Whole.{Body}
use Rattle.sw_lower_rules.specs.Bodies.{decl_bodies, first_value, global_bodies, global_getter}
use Rattle.sw_lower_rules.specs.Bodies.{numbers_of, value_bodies}
use Rattle.sw_lower_rules.specs.Statements.{expr_code}
use Rattle.sw_lower_rules.specs.Tables.{Tables, plain}
use Rattle.sw_typing_facts.proofs.Lists.Found.{mapped}
use Rattle.sw_typing_facts.proofs.Lists.Listed.{in_first}
use Rattle.sw_lower_formed_facts.proofs.Bodies.MadeOf.{body_stands}
use Rattle.sw_typing_facts.proofs.Programs.Standing.{Stands}
use Rattle.sw_lower_total_facts.specs.Programs.{IsWelltyped, noted_tables}
use Rattle.sw_lower_total_facts.proofs.Lowering.{bodies_are_found}
use Rattle.sw_lower_total_facts.proofs.Proceeding.Using.{some_of}
use Rattle.sw_typing_facts.proofs.Programs.GlobalDecls.{global_at}
use Rattle.sw_typing_facts.proofs.Programs.Standing.{stands_in}
use Rattle.sw_lower_first_facts.specs.Programs.{IsGraph}
use Rattle.sw_lower_first_facts.proofs.Programs.Places.{body_at}

-- what gives a global variable its first value is among the bodies of its declaration
value_has : (tables : Tables) (key g : ℕ) (given : Option Expr) (value : Expr)
    → given ≡ Some value
    → Contains (value_bodies tables key g given)
    (first_value tables key g (expr_code tables None value))
value_has tables key g given value is =
    subst (λ found. Contains (value_bodies tables key g found)
    (first_value tables key g (expr_code tables None value))) (sym is)
    (in_first (first_value tables key g (expr_code tables None value))
    (expr_code tables None value).inside)

start_has : (tables : Tables) (n g : ℕ) (prop : PropTree) (value : Expr)
    → prop.value ≡ Some value
    → Contains (decl_bodies tables n g (Global prop))
    (first_value tables prop.word.at g (expr_code tables None value))
unfolding decl_bodies global_bodies
start_has tables n g prop value is =
    Contains-append_left (value_bodies tables prop.word.at g prop.value)
    (for_some (slice_get tables.world.globals g) (global_getter tables prop.word.at g))
    (first_value tables prop.word.at g (expr_code tables None value))
    (value_has tables prop.word.at g prop.value value is)

-- a global variable, its declaration, and what gives it its first value
pub record StartAt (tables : Tables) (decls : List Decl) (ordered : List Body) (g f : ℕ)
    : Type 0 where
  pub n : ℕ
  pub prop : PropTree
  pub stands : Stands decls n g (Global prop)
  pub value : Expr
  pub value_is : prop.value ≡ Some value
  pub at : slice_get ordered f
      ≡ Some (first_value tables prop.word.at g (expr_code tables None value))

module _ (decls : List Decl) (rule : AsyncDefault) (world : World) (graph : Graph)
    (is : IsWelltyped decls rule world) (lowered : IsGraph world decls graph) where
  abbrev tables : Tables
  tables = noted_tables world decls

  abbrev ordered : List Body
  ordered = lowered.ordered

  -- the global variable with a number, and the number of what gives it its first value
  start_global : (g f : ℕ) → slice_get graph.starts g ≡ Some f
      → (global : GlobalVar) × (slice_get world.globals g ≡ Some global)
      × (numbers_of ordered (plain global.key.at) ≡ Some f)
  start_global g f at =
      mapped (λ (global : GlobalVar). numbers_of ordered (plain global.key.at))
      (slice_get world.globals g) (Some f)
      (sym (slice_get-map (λ (global : GlobalVar). numbers_of ordered (plain global.key.at))
      world.globals g)
      ∙ ap (λ all. slice_get all g) (sym lowered.starts)
      ∙ slice_get-map Some graph.starts g ∙ ap (option_map Some) at)

  -- What gives the global variable with a number its first value is where the graph has it.
  pub start_at : (g f : ℕ) → slice_get graph.starts g ≡ Some f → StartAt tables decls ordered g f
  start_at g f at =
      let (global, there, found) = start_global g f at in
      let here = global_at decls rule world is.declared g global there in
      let (value, value_is) = some_of here.prop.value
      (is.valued here.prop (stands_in 0 0 decls here.n g (Global here.prop) here.stands)) in
      let body = first_value tables here.prop.word.at g (expr_code tables None value) in
      record {
        n = here.n;
        prop = here.prop;
        stands = here.stands;
        value = value;
        value_is = value_is;
        at = body_at tables decls ordered lowered.are_ordered
            (bodies_are_found decls rule world is ordered lowered.are_ordered) body f
            (body_stands tables decls here.n g (Global here.prop) body here.stands
            (start_has tables here.n g here.prop value value_is))
            (ap (λ key. numbers_of ordered (plain key)) here.key ∙ found);
      }
