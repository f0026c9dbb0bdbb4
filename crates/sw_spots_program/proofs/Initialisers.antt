-- The body of an initialiser stands in its function.
use Rattle.std.proofs.Common.{◌≡◌, ℕ, ◌≤◌, true, Option, Some, None, List, [], ◌∷◌, ◌++◌}
use Rattle.std.proofs.Common.{Contains, flat_map, map, refl, ap, sym, subst, arith}
use Rattle.std.proofs.lemmas.List.Elements.{Contains-append_left, Contains-append_right}
use Rattle.std.proofs.lemmas.Option.{same_Some}
use Rattle.std.specs.List.{AllByRecursion}
use Rattle.std.specs.Prelude.{slice_get}
use Rattle.sw_list.proofs.Members.{in_flat_map, none_in, of_flat_map}
use Rattle.sw_tree.specs.declared.decl.Decl.{Decl}
use Rattle.sw_tree.specs.declared.decl.InitTree.{InitTree}
use Rattle.sw_tree.specs.declared.decl.ParamTree.{ParamTree}
use Rattle.sw_tree.specs.declared.decl.PropTree.{PropTree}
use Rattle.sw_tree.specs.declared.expr.Expr.{Expr}
use Rattle.sw_tree.specs.declared.name.Name.{Name}
use Rattle.sw_tree.proofs.Counting.{in_option}
use Rattle.sw_tree.proofs.KeyCounts.{in_expr, in_init, in_init-is, in_prop, in_prop-is}
use Rattle.sw_tree_facts.specs.Parts.{StandsIn, of_block, of_decls, of_expr, of_init, of_prop}
use Rattle.sw_tree_facts.specs.Parts as parts
use Rattle.sw_types.specs.declared.shape.Shape.{Shape}
use Rattle.sw_graph.specs.declared.function.Function.{Function}
use Rattle.sw_decl_words.specs.Evident.{meanings_of}
use Rattle.sw_decl_values.specs.Simple.{is_simple}
use Rattle.sw_decl_values.specs.Profile.{no_params}
use Rattle.sw_decl_words.specs.Words.{top_meaning}
use Rattle.sw_decl_words.specs.declared.words.Meaning.{Meaning}
use Rattle.sw_decls.specs.declared.signature.AsyncDefault.{AsyncDefault}
use Rattle.sw_decls.specs.declared.signature.Signature.{Signature}
use Rattle.sw_typing_rules.specs.Worlds.{World}
use Rattle.sw_isolation_rules.specs.Answers.{Answers, for_some}
use Rattle.sw_isolation_rules.specs.Programs.{func_at}
use Rattle.sw_lower_plans.specs.Plan.{Numbers}
use Rattle.sw_lower_code.specs.Whole.{Body}
use Rattle.sw_lower_rules.specs.Bodies.{decl_bodies, default_bodies, first_values, functions_of}
use Rattle.sw_lower_rules.specs.Bodies.{init_bodies, init_code, init_signed, inits_bodies, numbers_of}
use Rattle.sw_lower_rules.specs.Bodies.{param_taken, prop_given, signed, tables_of}
use Rattle.sw_lower_rules.specs.Carriers.{Given}
use Rattle.sw_lower_rules.specs.Statements.{block_code}
use Rattle.sw_lower_rules.specs.Tables.{Isolation, Tables}
use Rattle.sw_lower_formed_facts.proofs.Bodies.MadeOf.{body_stands}
use Rattle.sw_lower_formed_facts.proofs.Headers.Signed.{for_found}
use Rattle.sw_lower_formed_facts.proofs.Programs.SimpleInside.{simple_inside}
use Rattle.sw_typing_facts.proofs.Lists.Listed.{in_first, only_in}
use Rattle.sw_typing_facts.proofs.Programs.Standing.{Stands}
use Rattle.sw_tree_work.specs.Bodies as works
use Rattle.sw_tree_work.specs.Bodies.{first_given, init_work, params_of}
use Rattle.sw_tree_work.specs.Facts.{Facts}
use Rattle.sw_tree_work.specs.Forms as forms
use Rattle.sw_tree_work.specs.Trees.{block_work, expr_work}
use Rattle.sw_tree_work.specs.Work.{TreeBody}
use Rattle.sw_spots.specs.Forms.{GivesStand, facts_of, program}
use Rattle.sw_spots.specs.Spots.{Program}
use Rattle.sw_spots_body.proofs.Begun.{IsMade}
use Rattle.sw_spots_tree.proofs.Bodies.{init_stands}
use Rattle.sw_spots_tree.proofs.Every.{every_block_stands, every_expr_stands}
use Rattle.sw_spots_tree.proofs.Keys.{down}
use Rattle.sw_spots_tree.specs.Declared.{block_declared, expr_declared}
use Rattle.sw_spots_program.specs.Lowered.{IsMadeOf}
use Rattle.sw_spots_program.proofs.Declared.{block_few, expr_few}
use Rattle.sw_spots_program.proofs.Functions.{Good, named_func}
use Rattle.sw_spots_program.proofs.Making.{are_made, is_made}
use Rattle.sw_spots_program.proofs.Ones.{once_by}

module _ (world : World) (answers : Answers) (isolation : Isolation) (decls : List Decl)
    (rule : AsyncDefault) (ordered : List Body)
    (it : IsMadeOf world answers isolation decls rule ordered) where
  abbrev tables : Tables
  tables = tables_of world answers isolation decls

  abbrev facts : Facts
  facts = facts_of tables

  abbrev numbers : Numbers
  numbers = numbers_of ordered

  abbrev functions : List Function
  functions = functions_of ordered

  abbrev p : Program
  p = program tables numbers functions

  abbrev known : ℕ → Option Meaning
  known = top_meaning decls

  abbrev IsGood : TreeBody → Type 0
  IsGood = Good world answers isolation decls rule ordered it

  abbrev Give : List Given → List forms.Given → Type 0
  Give givens ones = GivesStand tables numbers functions givens ones

  give_more : (xs ys : List Given) (ones others : List forms.Given) → Give xs ones
      → Give ys others → Give (xs ++ ys) (ones ++ others)
  give_more [] ys [] others first second = second
  give_more (x ∷ xs) ys (one ∷ ones) others first second =
      (first.0, first.1, give_more xs ys ones others first.2 second)
  give_more [] ys (one ∷ ones) others first second = absurd first
  give_more (x ∷ xs) ys [] others first second = absurd first

  -- The first value of a property stands. It is simple, so no body is in it.
  pub first_stands : (n : ℕ) (prop : PropTree) → StandsIn (of_prop prop) (of_decls decls)
      → ((c : ℕ) → in_prop prop c ≤ 1)
      → ((value : Expr) → prop.value ≡ Some value
      → is_simple (meanings_of decls) (Some n) no_params value ≡ true)
      → Give (prop_given tables n prop prop.value) (first_given facts n prop)
  unfolding in_option
  first_stands n prop part few simple = by prop.value refl where
    by : (value : Option Expr) → prop.value ≡ value → Give (prop_given tables n prop value)
        (for_some value (λ value. record {
          name = prop.word.id;
          read = (expr_work facts (Some n) value).read;
        } ∷ []))
    by None is = tt
    by (Some value) is =
        let none = simple_inside tables (Some n) (meanings_of decls) (Some n) no_params value
        (simple value is) in
        let one = every_expr_stands tables numbers functions (Some n) (of_decls decls) it.needs value
        (down (of_expr value) (of_prop prop) (of_decls decls) (parts.prop_value prop value is) part)
        (once_by (expr_declared value)
        (λ c. omega (
          arith,
          few c,
          in_prop-is prop c,
          ap (λ given. in_option in_expr given c) is,
          expr_few c value,
        )))
        (subst (AllByRecursion (λ body. IsMade p numbers body)) (sym none) tt) in
        (refl, one.read, tt)

  -- so do the first values of properties
  pub firsts_stand : (n : ℕ) (props : List PropTree)
      → ((prop : PropTree) → Contains props prop
      → Give (prop_given tables n prop prop.value) (first_given facts n prop))
      → Give (first_values tables n props) (flat_map (first_given facts n) props)
  firsts_stand n [] each = tt
  firsts_stand n (prop ∷ props) each =
      give_more (prop_given tables n prop prop.value) (first_values tables n props)
      (first_given facts n prop) (flat_map (first_given facts n) props)
      (each prop (in_first prop props))
      (firsts_stand n props (λ one has. each one (Contains-append_right (prop ∷ []) props one has)))

  module _ (n g : ℕ) (decl : Decl) (stands : Stands decls n g decl) (shape : Shape)
      (there : slice_get world.shapes n ≡ Some shape) (props : List PropTree)
      (firsts : Give (first_values tables n props) (flat_map (first_given facts n) props)) where
    module _ (key : ℕ) (params : List ParamTree) (givens : List Given)
        (ones : List forms.Given) (give : Give givens ones)
        (inside : (body : Body) → Contains (for_some (func_at world answers key)
        (init_signed tables n props params givens)) body
        → Contains (decl_bodies tables n g decl) body) where
      abbrev all_given : List Given
      all_given = first_values tables n props ++ givens

      abbrev all_work : List forms.Given
      all_work = flat_map (first_given facts n) props ++ ones

      abbrev lowered : Signature → Body
      lowered func = signed tables func (map (param_taken tables) params)
          (init_code func.key.at n shape all_given)

      abbrev body_for : Signature → TreeBody
      body_for func = works.body_of facts func (params_of facts params)
          (init_work shape all_work n)

      goes : (func : Signature) → func_at world answers key ≡ Some func → IsGood (body_for func)
      goes func at number named =
          init_stands tables numbers functions func params n shape all_given all_work number
          (give_more (first_values tables n props) givens (flat_map (first_given facts n) props) ones
          firsts give)
          (is_made tables decls ordered it.are it.numbered it.made (lowered func)
          (body_stands tables decls n g decl (lowered func) stands (inside (lowered func)
          (for_found (func_at world answers key) func (init_signed tables n props params givens)
          (lowered func) at
          (for_found (slice_get world.shapes n) shape (λ (shape : Shape).
          signed tables func (map (param_taken tables) params)
          (init_code func.key.at n shape all_given) ∷ []) (lowered func) there
          (in_first (lowered func) []))))))
          (named_func world answers isolation decls rule ordered it func.key.at number named)

      -- An initialiser stands if what its statements give does.
      init_good : (body : TreeBody)
          → Contains (works.init_body facts key n props params ones) body → IsGood body
      init_good body has = of_shape (slice_get world.shapes n) there has where
        of_func : (found : Option Signature) → func_at world answers key ≡ found
            → Contains (for_some found (λ func. body_for func ∷ [])) body → IsGood body
        of_func None at has = absurd (none_in body has)
        of_func (Some func) at has = subst IsGood (only_in (body_for func) body has) (goes func at)

        of_shape : (found : Option Shape) → found ≡ Some shape
            → Contains (for_some found (λ shape. works.signed_body facts key (λ func.
            works.body_of facts func (params_of facts params) (init_work shape all_work n)))) body
            → IsGood body
        of_shape None is has = absurd (none_in body has)
        of_shape (Some other) is has =
            of_func (func_at world answers key) refl
            (subst (λ (shape : Shape). Contains (works.signed_body facts key (λ func.
            works.body_of facts func (params_of facts params) (init_work shape all_work n))) body)
            (same_Some other shape is) has)

    -- one that is written
    pub written_good : (init : InitTree)
        → ((body : Body) → Contains (init_bodies tables n props init) body
        → Contains (decl_bodies tables n g decl) body)
        → StandsIn (of_init init) (of_decls decls) → ((c : ℕ) → in_init init c ≤ 1)
        → (body : TreeBody) → Contains (works.written_init facts n props init) body → IsGood body
    unfolding init_bodies
    written_good init inside part few =
        let code = block_code tables (Some n) init.body in
        let first = for_some (func_at world answers init.at)
        (init_signed tables n props init.params code.gives) in
        let block = every_block_stands tables numbers functions (Some n) (of_decls decls) it.needs
        init.body
        (down (of_block init.body) (of_init init) (of_decls decls) (parts.init_body init) part)
        (once_by (block_declared init.body)
        (λ c. omega (arith, few c, in_init-is init c, block_few c init.body)))
        (are_made tables decls ordered it.are it.numbered it.made code.inside
        (λ body has. body_stands tables decls n g decl body stands
        (inside body (Contains-append_right first code.inside body has)))) in
        init_good init.at init.params code.gives (block_work facts (Some n) init.body).gives
        block.gives (λ body has. inside body (Contains-append_left first code.inside body has))

    -- the initialisers of a type, of which one that isn't written gives first values alone
    pub inits_good : (word : Name) (inits : List InitTree)
        → ((body : Body) → Contains (inits_bodies tables n props word inits) body
        → Contains (decl_bodies tables n g decl) body)
        → ((init : InitTree) → Contains inits init → StandsIn (of_init init) (of_decls decls))
        → ((init : InitTree) → Contains inits init → (c : ℕ) → in_init init c ≤ 1)
        → (body : TreeBody) → Contains (works.inits facts n props word inits) body → IsGood body
    unfolding default_bodies
    inits_good word [] inside part few body has =
        init_good word.at [] [] [] tt inside body has
    inits_good word (init ∷ inits) inside part few body has =
        let (one, among, its) = of_flat_map (works.written_init facts n props) (init ∷ inits) body has in
        written_good one
        (λ made holds. inside made (in_flat_map (init_bodies tables n props) (init ∷ inits) one made
        among holds))
        (part one among) (few one among) body its
