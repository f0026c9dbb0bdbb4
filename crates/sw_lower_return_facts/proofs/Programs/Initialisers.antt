-- The functions of initialisers return their results.
use Rattle.std.proofs.Common.{◌≡◌, ℕ, List, [], ◌∷◌, ◌++◌, Option, Some, None, map}
use Rattle.std.proofs.Common.{Contains, sym, subst}
use Rattle.std.proofs.lemmas.List.Elements.{All-cons, All-nil}
use Rattle.std.specs.List.{AllByRecursion}
use Rattle.std.specs.Prelude.{slice_get}
use Rattle.sw_lower_formed_facts.specs.Programs.{tables_in}
use Rattle.sw_tree.specs.declared.decl.Decl.{Decl}
use Rattle.sw_tree.specs.declared.decl.InitTree.{InitTree}
use Rattle.sw_tree.specs.declared.decl.ParamTree.{ParamTree}
use Rattle.sw_tree.specs.declared.decl.PropTree.{PropTree}
use Rattle.sw_tree.specs.declared.expr.Expr.{Expr}
use Rattle.sw_tree.specs.declared.name.Name.{Name}
use Rattle.sw_types.specs.declared.shape.Shape.{Shape}
use Rattle.sw_graph.specs.declared.function.Function.{Function}
use Rattle.sw_decl_words.specs.Evident.{meanings_of}
use Rattle.sw_decl_words.specs.Shaped.{part_of}
use Rattle.sw_decls.specs.declared.signature.AsyncDefault.{AsyncDefault}
use Rattle.sw_decls.specs.declared.signature.Signature.{Signature}
use Rattle.sw_typing_rules.specs.Programs.{bodies_from, init_body}
use Rattle.sw_typing_rules.specs.Worlds.{World}
use Rattle.sw_isolation_rules.specs.Answers.{for_some}
use Rattle.sw_isolation_rules.specs.Programs.{func_at}
use Rattle.sw_lower_plans.specs.Plan.{Numbers}
use Rattle.sw_lower_code.specs.Whole.{Body}
use Rattle.sw_lower_rules.specs.Bodies.{default_bodies, first_values, init_bodies, init_code}
use Rattle.sw_lower_rules.specs.Bodies.{init_signed, param_taken, prop_given, signed}
use Rattle.sw_lower_rules.specs.Carriers.{Given}
use Rattle.sw_lower_rules.specs.Statements.{block_code}
use Rattle.sw_lower_rules.specs.Tables.{Isolation, Tables}
use Rattle.sw_lower_formed_facts.specs.Trees.{IsHere}
use Rattle.sw_lower_formed_facts.proofs.Bodies.Given.{IsProgram}
use Rattle.sw_lower_formed_facts.proofs.Bodies.InitBodies.{init_inside}
use Rattle.sw_typing_facts.proofs.Lists.Joined.{Gives, both_give, none_gives}
use Rattle.sw_typing_facts.proofs.Programs.ObjectDecls.{ObjectOk}
use Rattle.sw_lower_code_facts.proofs.Inside.{gives_both}
use Rattle.sw_lower_return_facts.specs.Forms.{BodyReturns}
use Rattle.sw_lower_return_facts.proofs.Bodies.Codes.{init_closes}
use Rattle.sw_lower_return_facts.proofs.Expressions.Induction.{GivenFlows, block_gives, expr_flows}
use Rattle.sw_lower_return_facts.proofs.Expressions.Induction.{flowing}
use Rattle.sw_lower_return_facts.proofs.Functions.Bodies.{body_returns}

module _ (world : World) (isolation : Isolation) (decls : List Decl) (rule : AsyncDefault)
    (number : Numbers) (functions : List Function)
    (program : IsProgram world isolation decls rule number functions) where
  abbrev tables : Tables
  tables = tables_in world isolation decls

  abbrev Here : Body → Type 0
  Here = IsHere tables number functions

  -- the first values of properties
  first_flow : (n : ℕ) (props : List PropTree)
      → AllByRecursion GivenFlows (first_values tables n props)
  first_flow n [] = tt
  first_flow n (prop ∷ props) =
      gives_both flowing (prop_given tables n prop prop.value) (first_values tables n props) (by prop.value)
      (first_flow n props) where
        by : (found : Option Expr) → AllByRecursion GivenFlows (prop_given tables n prop found)
        by None = tt
        by (Some value) = ((expr_flows tables (Some n) value).read, tt)

  -- an initialiser, by its signature
  signed_return : (n : ℕ) (props : List PropTree) (params : List ParamTree) (givens : List Given)
      → AllByRecursion GivenFlows givens → (found : Option Signature)
      → Gives Here (BodyReturns number)
      (for_some found (init_signed tables n props params givens))
  signed_return n props params givens flow None = none_gives Here (BodyReturns number)
  signed_return n props params givens flow (Some func) = by (slice_get tables.world.shapes n) where
    by : (shape : Option Shape) → Gives Here (BodyReturns number) (for_some shape (λ (s : Shape).
        signed tables func (map (param_taken tables) params)
        (init_code func.key.at n s (first_values tables n props ++ givens)) ∷ []))
    by None here = All-nil (BodyReturns number)
    by (Some shape) here =
        All-cons (BodyReturns number) _ []
        (body_returns number (signed tables func (map (param_taken tables) params)
        (init_code func.key.at n shape (first_values tables n props ++ givens)))
        (λ value. init_closes func.key.at n shape (first_values tables n props ++ givens)
        (gives_both flowing (first_values tables n props) givens (first_flow n props) flow)))
        (All-nil (BodyReturns number))

  -- the initialiser of a type that writes none
  pub default_returns : (n : ℕ) (props : List PropTree) (word : Name)
      → Gives Here (BodyReturns number) (default_bodies tables n props word)
  unfolding default_bodies
  default_returns n props word =
      signed_return n props [] [] tt (func_at world tables.answers word.at)

  -- the one that a type writes
  pub init_returns : (n : ℕ) (props : List PropTree) (inits : List InitTree)
      (object : ObjectOk (meanings_of decls) n props inits) (shape : Shape)
      (there : slice_get world.shapes n ≡ Some shape)
      (parts : shape.parts ≡ map (part_of (meanings_of decls) (Some n)) props) (init : InitTree)
      (more : List InitTree) → inits ≡ init ∷ more
      → Contains (bodies_from world 0 decls) (init_body n init)
      → Gives Here (BodyReturns number) (init_bodies tables n props init)
  unfolding init_bodies
  init_returns n props inits object shape there parts init more inits_are stands =
      let code = block_code tables (Some n) init.body in
      both_give Here (BodyReturns number)
      (for_some (func_at world tables.answers init.at)
      (init_signed tables n props init.params code.gives)) code.inside
      (signed_return n props init.params code.gives (block_gives tables (Some n) init.body)
      (func_at world tables.answers init.at))
      (subst (Gives Here (BodyReturns number))
      (sym (init_inside world isolation decls rule number functions program n props inits object
      shape there parts init more inits_are stands))
      (none_gives Here (BodyReturns number)))
