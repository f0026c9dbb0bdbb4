-- Each task in a function of a program runs the body of a task that stands in a block or a first
-- value: none of a function's own body.
use Rattle.std.proofs.Common.{◌≡◌, ℕ, List, [], ◌∷◌, ◌++◌, Option, Some, None, flat_map, Contains}
use Rattle.std.proofs.Common.{inl, inr}
use Rattle.std.proofs.lemmas.List.Elements.{All-append, All-contains, All-nil}
use Rattle.std.proofs.lemmas.List.Elements.{Contains-append_cases, Contains-append_left}
use Rattle.std.proofs.lemmas.List.Elements.{Contains-append_right}
use Rattle.std.specs.Prelude.{All, slice_get}
use Rattle.sw_list.proofs.Members.{none_in}
use Rattle.sw_tree.specs.Contents.{AreKeyed}
use Rattle.sw_tree.specs.declared.decl.Decl.{Decl}
use Rattle.sw_tree.specs.declared.decl.Decl.TheVariants.{Entry, Struct, Enum, Class, Actor}
use Rattle.sw_tree.specs.declared.decl.Decl.TheVariants.{GlobalActor, Func, Global}
use Rattle.sw_tree.specs.declared.decl.FuncTree.{FuncTree}
use Rattle.sw_tree.specs.declared.decl.InitTree.{InitTree}
use Rattle.sw_tree.specs.declared.decl.ParamTree.{ParamTree}
use Rattle.sw_tree.specs.declared.decl.PropTree.{PropTree}
use Rattle.sw_tree.specs.declared.expr.Expr.{Expr}
use Rattle.sw_tree.specs.declared.name.Name.{Name}
use Rattle.sw_tree.specs.declared.stmt.Block.{Block}
use Rattle.sw_graph.specs.Points.{Middle, point_in}
use Rattle.sw_graph.specs.declared.function.Function.{Function}
use Rattle.sw_graph.specs.declared.instr.Instr.{Instr}
use Rattle.sw_decl_words.specs.Evident.{meanings_of}
use Rattle.sw_decls.specs.Declaring.{IsFirstBreach}
use Rattle.sw_decls.specs.declared.signature.Signature.{Signature}
use Rattle.sw_isolation_rules.specs.Answers.{for_some}
use Rattle.sw_isolation_rules.specs.Programs.{func_at}
use Rattle.sw_decl_values.specs.Profile.{no_params}
use Rattle.sw_lower_plans.specs.Plan.{Numbers}
use Rattle.sw_lower_code.specs.Whole.{Body}
use Rattle.sw_lower_rules.specs.Bodies.{AreMade, AreOrdered, decl_bodies, func_bodies, func_signed}
use Rattle.sw_lower_rules.specs.Bodies.{func_tree_bodies, functions_of, inits_bodies, numbers_of}
use Rattle.sw_lower_rules.specs.Bodies.{global_bodies, init_bodies, program_bodies, prop_getters}
use Rattle.sw_lower_rules.specs.Bodies.{value_bodies}
use Rattle.sw_lower_rules.specs.Statements.{block_code, expr_code}
use Rattle.sw_lower_rules.specs.Tables.{Tables}
use Rattle.sw_typing_facts.proofs.Lists.Listed.{in_rest}
use Rattle.sw_lower_formed_facts.proofs.Bodies.MadeOf.{body_made}
use Rattle.sw_typing_facts.proofs.Programs.ObjectDecls.{ObjectOk, actor_ok, class_ok}
use Rattle.sw_lower_formed_facts.proofs.Programs.SimpleInside.{simple_inside}
use Rattle.sw_typing_facts.proofs.Programs.Standing.{Stands, made_by_one, made_from}
use Rattle.sw_lower_call_facts.specs.Calls.{IsOfBody}
use Rattle.sw_lower_call_facts.specs.Carried.{BodyCalls}
use Rattle.sw_lower_call_facts.proofs.Calls.Bodies.{default_so, global_by, init_by, prop_getters_so}
use Rattle.sw_lower_call_facts.proofs.Calls.Bodies.{signed_by, value_inside}
use Rattle.sw_lower_call_facts.proofs.Calls.Programs.{instr_by}

-- the bodies in the blocks and the first values of a declaration
module _ (tables : Tables) where
  abbrev pub func_inside : ℕ → Block → List Body
  func_inside key block = for_some (func_at tables.world tables.answers key)
      (λ func. (block_code tables func.owner block).inside)

  abbrev pub tree_inside : FuncTree → List Body
  tree_inside tree = func_inside tree.word.at tree.body

  abbrev pub init_inside : ℕ → InitTree → List Body
  init_inside n init = (block_code tables (Some n) init.body).inside

  abbrev pub inside_of : ℕ → ℕ → Decl → List Body
  inside_of n g (Entry word written at is_async body) = func_inside at body
  inside_of n g (Struct word conforms fields funcs) = flat_map tree_inside funcs
  inside_of n g (Enum word conforms cases funcs) = flat_map tree_inside funcs
  inside_of n g (Class written word conforms props inits funcs) =
      flat_map (init_inside n) inits ++ flat_map tree_inside funcs
  inside_of n g (Actor word props inits funcs) =
      flat_map (init_inside n) inits ++ flat_map tree_inside funcs
  inside_of n g (GlobalActor word made) = []
  inside_of n g (Func func) = tree_inside func
  inside_of n g (Global prop) = value_inside tables prop.value

  abbrev pub insides : List Decl → List Body
  insides decls = made_from inside_of 0 0 decls

module _ (tables : Tables) (decls : List Decl) (keyed : AreKeyed decls)
    (sound : IsFirstBreach decls None) (numbers : Numbers) (bodies : List Body) where
  abbrev Bodies : Body → Type 0
  Bodies body = BodyCalls tables numbers bodies body

  abbrev In : List Body → Type 0
  In some = (body : Body) → Contains some body → Contains bodies body

  each_by : {X : Type 0} (made inner : X → List Body) (xs : List X)
      → ((x : X) → In (inner x) → All Bodies (made x)) → In (flat_map inner xs)
      → All Bodies (flat_map made xs)
  each_by made inner [] each are = All-nil Bodies
  each_by made inner (x ∷ xs) each are =
      All-append Bodies (made x) (flat_map made xs)
      (each x (λ one has. are one (Contains-append_left (inner x) (flat_map inner xs) one has)))
      (each_by made inner xs each (λ one has.
      are one (Contains-append_right (inner x) (flat_map inner xs) one has)))

  found_by : (params : List ParamTree) (block : Block) (found : Option Signature)
      → In (for_some found (λ func. (block_code tables func.owner block).inside))
      → All Bodies (for_some found (func_signed tables params block))
  found_by params block None are = All-nil Bodies
  found_by params block (Some func) are = signed_by tables numbers bodies params block func are

  func_by : (key : ℕ) (params : List ParamTree) (block : Block)
      → In (func_inside tables key block) → All Bodies (func_bodies tables key params block)
  unfolding func_bodies
  func_by key params block are =
      found_by params block (func_at tables.world tables.answers key) are

  funcs_by : (funcs : List FuncTree) → In (flat_map (tree_inside tables) funcs)
      → All Bodies (flat_map (func_tree_bodies tables) funcs)
  funcs_by funcs are =
      each_by (func_tree_bodies tables) (tree_inside tables) funcs (λ func.
      func_by func.word.at func.params func.body) are

  abbrev Bare : ℕ → List PropTree → Type 0
  Bare n props = (prop : PropTree) → Contains props prop → (value : Expr)
      → prop.value ≡ Some value → (expr_code tables (Some n) value).inside ≡ []

  inits_by : (n : ℕ) (props : List PropTree) → Bare n props → (word : Name)
      (inits : List InitTree) → In (flat_map (init_inside tables n) inits)
      → All Bodies (inits_bodies tables n props word inits)
  inits_by n props bare word [] are = default_so tables numbers bodies n props bare word
  inits_by n props bare word (init ∷ inits) are =
      each_by (init_bodies tables n props) (init_inside tables n) (init ∷ inits)
      (init_by tables numbers bodies n props bare) are

  object_by : (n : ℕ) (word : Name) (props : List PropTree) (inits : List InitTree)
      (funcs : List FuncTree) → ObjectOk (meanings_of decls) n props inits
      → In (flat_map (init_inside tables n) inits ++ flat_map (tree_inside tables) funcs)
      → All Bodies (prop_getters tables n 0 props ++ inits_bodies tables n props word inits
      ++ flat_map (func_tree_bodies tables) funcs)
  object_by n word props inits funcs object are =
      let first = flat_map (init_inside tables n) inits in
      let second = flat_map (tree_inside tables) funcs in
      All-append Bodies
      (prop_getters tables n 0 props ++ inits_bodies tables n props word inits)
      (flat_map (func_tree_bodies tables) funcs)
      (All-append Bodies (prop_getters tables n 0 props) (inits_bodies tables n props word inits)
      (prop_getters_so tables numbers bodies n 0 props)
      (inits_by n props
      (λ prop has value is.
      simple_inside tables (Some n) (meanings_of decls) (Some n) no_params value
      (object.firsts prop value has is)) word inits
      (λ one has. are one (Contains-append_left first second one has))))
      (funcs_by funcs (λ one has. are one (Contains-append_right first second one has)))

  decl_by : (n g : ℕ) (decl : Decl) → Stands decls n g decl → In (inside_of tables n g decl)
      → All Bodies (decl_bodies tables n g decl)
  unfolding decl_bodies
  decl_by n g (Entry word written at is_async body) stands are = func_by at [] body are
  decl_by n g (Struct word conforms fields funcs) stands are = funcs_by funcs are
  decl_by n g (Enum word conforms cases funcs) stands are = funcs_by funcs are
  decl_by n g (Class written word conforms props inits funcs) stands are =
      object_by n word props inits funcs
      (class_ok decls keyed sound n g written word conforms props inits funcs stands) are
  decl_by n g (Actor word props inits funcs) stands are =
      object_by n word props inits funcs
      (actor_ok decls keyed sound n g word props inits funcs stands) are
  decl_by n g (GlobalActor word made) stands are = All-nil Bodies
  decl_by n g (Func func) stands are = func_by func.word.at func.params func.body are
  decl_by n g (Global prop) stands are = global_by tables numbers bodies g prop are

-- each call and each task in a body of the program
inside_calls : (tables : Tables) (decls : List Decl) → AreKeyed decls
    → IsFirstBreach decls None → (numbers : Numbers) (body : Body)
    → Contains (program_bodies tables decls) body
    → BodyCalls tables numbers (insides tables decls) body
inside_calls tables decls keyed sound numbers body has =
    let made = body_made tables decls body has in
    All-contains (BodyCalls tables numbers (insides tables decls))
    (decl_bodies tables made.n made.g made.decl) body
    (decl_by tables decls keyed sound numbers (insides tables decls) made.n made.g made.decl
    made.stands (λ one there.
    made_by_one (inside_of tables) 0 0 decls made.n made.g made.decl one made.stands there))
    made.has

-- each call and each task in a function of the program
pub instr_inside : (tables : Tables) (decls : List Decl) (ordered : List Body) → AreKeyed decls
    → IsFirstBreach decls None → AreOrdered tables decls ordered → AreMade ordered → (n p : ℕ)
    (function : Function) (instr : Instr) → slice_get (functions_of ordered) n ≡ Some function
    → point_in function p ≡ Some (Middle instr)
    → IsOfBody tables (numbers_of ordered) (insides tables decls) instr
instr_inside tables decls ordered keyed sound are made n p function instr there at =
    let numbers = numbers_of ordered in
    instr_by tables decls ordered (insides tables decls) are made
    (inside_calls tables decls keyed sound numbers) n p function instr there at

-- The bodies in the blocks and the first values of a declaration are among its bodies.
module _ (tables : Tables) (body : Body) where
  each_in : {X : Type 0} (inner made : X → List Body)
      → ((x : X) → Contains (inner x) body → Contains (made x) body) → (xs : List X)
      → Contains (flat_map inner xs) body → Contains (flat_map made xs) body
  each_in inner made each [] has = has
  each_in inner made each (x ∷ xs) has =
      elim (Contains-append_cases (inner x) (flat_map inner xs) body has) [
        | inl here ↦
            Contains-append_left (made x) (flat_map made xs) body (each x here)
        | inr there ↦
            Contains-append_right (made x) (flat_map made xs) body
            (each_in inner made each xs there)
      ]

  found_in : (params : List ParamTree) (block : Block) (found : Option Signature)
      → Contains (for_some found (λ (func : Signature).
      (block_code tables func.owner block).inside)) body
      → Contains (for_some found (func_signed tables params block)) body
  found_in params block None has = has
  found_in params block (Some func) has =
      in_rest _ (block_code tables func.owner block).inside body has

  func_in : (key : ℕ) (params : List ParamTree) (block : Block)
      → Contains (func_inside tables key block) body
      → Contains (func_bodies tables key params block) body
  unfolding func_bodies
  func_in key params block has =
      found_in params block (func_at tables.world tables.answers key) has

  trees_in : (funcs : List FuncTree) → Contains (flat_map (tree_inside tables) funcs) body
      → Contains (flat_map (func_tree_bodies tables) funcs) body
  trees_in =
      each_in (tree_inside tables) (func_tree_bodies tables)
      (λ tree. func_in tree.word.at tree.params tree.body)

  init_in : (n : ℕ) (props : List PropTree) (init : InitTree)
      → Contains (init_inside tables n init) body
      → Contains (init_bodies tables n props init) body
  unfolding init_bodies
  init_in n props init has =
      Contains-append_right _ (block_code tables (Some n) init.body).inside body has

  inits_in : (n : ℕ) (props : List PropTree) (word : Name) (inits : List InitTree)
      → Contains (flat_map (init_inside tables n) inits) body
      → Contains (inits_bodies tables n props word inits) body
  inits_in n props word [] has = absurd (none_in body has)
  inits_in n props word (init ∷ inits) has =
      each_in (init_inside tables n) (init_bodies tables n props) (init_in n props) (init ∷ inits)
      has

  object_in : (n : ℕ) (word : Name) (props : List PropTree) (inits : List InitTree)
      (funcs : List FuncTree)
      → Contains (flat_map (init_inside tables n) inits ++ flat_map (tree_inside tables) funcs) body
      → Contains (prop_getters tables n 0 props ++ inits_bodies tables n props word inits
      ++ flat_map (func_tree_bodies tables) funcs) body
  object_in n word props inits funcs has =
      let makers = inits_bodies tables n props word inits in
      let trees = flat_map (func_tree_bodies tables) funcs in
      let getters = prop_getters tables n 0 props in
      elim (Contains-append_cases (flat_map (init_inside tables n) inits)
      (flat_map (tree_inside tables) funcs) body has) [
        | inl here ↦
            Contains-append_left (getters ++ makers) trees body
            (Contains-append_right getters makers body (inits_in n props word inits here))
        | inr there ↦
            Contains-append_right (getters ++ makers) trees body (trees_in funcs there)
      ]

  value_among : (key g : ℕ) (value : Option Expr) → Contains (value_inside tables value) body
      → Contains (value_bodies tables key g value) body
  value_among key g None has = has
  value_among key g (Some value) has = in_rest _ (expr_code tables None value).inside body has

  global_in : (g : ℕ) (prop : PropTree) → Contains (value_inside tables prop.value) body
      → Contains (global_bodies tables g prop) body
  unfolding global_bodies
  global_in g prop has =
      Contains-append_left (value_bodies tables prop.word.at g prop.value) _ body
      (value_among prop.word.at g prop.value has)

  pub inside_made : (n g : ℕ) (decl : Decl) → Contains (inside_of tables n g decl) body
      → Contains (decl_bodies tables n g decl) body
  unfolding decl_bodies
  inside_made n g (Entry word written at is_async block) has = func_in at [] block has
  inside_made n g (Struct word conforms fields funcs) has = trees_in funcs has
  inside_made n g (Enum word conforms cases funcs) has = trees_in funcs has
  inside_made n g (Class written word conforms props inits funcs) has =
      object_in n word props inits funcs has
  inside_made n g (Actor word props inits funcs) has = object_in n word props inits funcs has
  inside_made n g (GlobalActor word made) has = has
  inside_made n g (Func func) has = func_in func.word.at func.params func.body has
  inside_made n g (Global prop) has = global_in g prop has
