-- Of the functions of a program one at most has a key, and one getter at most.
use Rattle.std.proofs.Common.{◌≡◌, ℕ, ◌+◌, ◌≤◌, Bool, true, false, Option, Some, None, List, []}
use Rattle.std.proofs.Common.{◌∷◌, ◌++◌, map, flat_map, refl, ap, arith, ◌&&◌}
use Rattle.std.specs.Prelude.{if◌then◌else◌, slice_get}
use Rattle.sw_tree.specs.Contents.{AreKeyed}
use Rattle.sw_tree.specs.declared.decl.Decl.{Decl}
use Rattle.sw_tree.specs.declared.decl.Decl.TheVariants.{Entry, Struct, Enum, Class, Actor}
use Rattle.sw_tree.specs.declared.decl.Decl.TheVariants.{GlobalActor, Func, Global}
use Rattle.sw_tree.specs.declared.decl.FuncTree.{FuncTree}
use Rattle.sw_tree.specs.declared.decl.InitTree.{InitTree}
use Rattle.sw_tree.specs.declared.decl.ParamTree.{ParamTree}
use Rattle.sw_tree.specs.declared.decl.PropTree.{PropTree}
use Rattle.sw_tree.specs.declared.expr.Expr.{Expr}
use Rattle.sw_tree.specs.declared.name.Name.{Name}
use Rattle.sw_tree.specs.declared.stmt.Block.{Block}
use Rattle.sw_tree.proofs.Counting.{Weight, hits, in_all, in_all-append, in_all-cons, in_all-nil}
use Rattle.sw_tree.proofs.Counting.{in_option}
use Rattle.sw_tree.proofs.KeyCounts as keys
use Rattle.sw_tree.proofs.KeyCounts.{in_block, in_decl, in_expr, in_func, in_init, in_prop}
use Rattle.sw_types.specs.declared.shape.Shape.{Shape}
use Rattle.sw_types.specs.declared.ty.Ty.{Ty}
use Rattle.sw_decl_words.specs.Words.{shapes_made}
use Rattle.sw_decls.specs.declared.signature.AsyncDefault.{AsyncDefault}
use Rattle.sw_decls.specs.declared.signature.GlobalVar.{GlobalVar}
use Rattle.sw_decls.specs.declared.signature.Signature.{Signature}
use Rattle.sw_typing_rules.specs.Worlds.{IsWorldOf, World}
use Rattle.sw_isolation_rules.specs.Answers.{Answers, for_some}
use Rattle.sw_isolation_rules.specs.Kinds.{is_isolated, shape_iso}
use Rattle.sw_isolation_rules.specs.Programs.{func_at}
use Rattle.sw_lower_code.specs.Whole.{Body}
use Rattle.sw_lower_rules.specs.Bodies.{bodies_from, decl_bodies, default_bodies, first_value}
use Rattle.sw_lower_rules.specs.Bodies.{func_bodies, func_signed, func_tree_bodies, getter}
use Rattle.sw_lower_rules.specs.Bodies.{first_values, global_bodies, global_getter}
use Rattle.sw_decl_words.specs.Words.{globals_made}
use Rattle.sw_lower_rules.specs.Bodies.{init_bodies, init_code, init_signed, inits_bodies}
use Rattle.sw_lower_rules.specs.Bodies.{param_taken, part_getter, program_bodies, prop_getters}
use Rattle.sw_lower_rules.specs.Bodies.{self_taken, shape_getters, signed, stored_read, tables_of}
use Rattle.sw_lower_rules.specs.Bodies.{value_bodies}
use Rattle.sw_lower_rules.specs.Carriers.{ClosureCode, Given}
use Rattle.sw_lower_rules.specs.Expressions.{body_code, closure_body}
use Rattle.sw_lower_rules.specs.Statements.{block_code, expr_code}
use Rattle.sw_lower_rules.specs.Tables.{Isolation, Tables, is_same}
use Rattle.sw_typing_facts.proofs.Programs.Keyed.{key_once}
use Rattle.sw_lower_total_facts.proofs.Programs.Found.{key_found}
use Rattle.sw_lower_total_facts.proofs.Programs.TreeBodies.{block_few, expr_few}

-- one at the key of a body, where it is a getter or where it is none
abbrev pub named_so : Bool → Body → Weight
named_so kind body k = if is_same body.getter kind then hits body.key k else 0

-- the key of what is no getter, and of a getter
abbrev plain_key : Bool → ℕ → Weight
plain_key kind at k = if is_same false kind then hits at k else 0

abbrev getter_key : Bool → ℕ → Weight
getter_key kind at k = if is_same true kind then hits at k else 0

if_few : (test : Bool) (n : ℕ) → (if test then n else 0) ≤ n
if_few true n = omega arith
if_few false n = omega arith

one_of_both : (kind : Bool) (at k : ℕ)
    → plain_key kind at k + getter_key kind at k ≤ hits at k
one_of_both true at k = omega arith
one_of_both false at k = omega arith

module _ (world : World) (answers : Answers) (isolation : Isolation) (decls : List Decl)
    (rule : AsyncDefault) (is : IsWorldOf decls rule world) (kind : Bool) (k : ℕ) where
  abbrev tables : Tables
  tables = tables_of world answers isolation decls

  abbrev w : Body → Weight
  w = named_so kind

  -- how many of the bodies have the key
  abbrev few : List Body → ℕ
  few bodies = in_all w bodies k

  of_closure : (owner : Option ℕ) (closure : ClosureCode) (result : Ty)
      → w (closure_body tables owner closure result) k ≤ hits closure.at k
  unfolding closure_body
  of_closure owner closure result = if_few (is_same false kind) (hits closure.at k)

  -- one body, by its key
  only_few : (body : Body) (at : ℕ) → body.key ≡ at → few (body ∷ []) ≤ hits at k
  only_few body at same =
      omega (
        arith,
        in_all-cons w body [] k,
        in_all-nil w k,
        if_few (is_same body.getter kind) (hits body.key k),
        ap (λ key. hits key k) same,
      )

  none_few : (n : ℕ) → few [] ≤ n
  none_few n = omega (arith, in_all-nil w k)

  -- what is made of what is found
  some_few : {A : Type 0} (found : Option A) (f : A → List Body) (n : ℕ)
      → ((x : A) → found ≡ Some x → few (f x) ≤ n) → few (for_some found f) ≤ n
  some_few None f n each = none_few n
  some_few (Some x) f n each = each x refl

  -- a function with its closures
  func_few : (key : ℕ) (params : List ParamTree) (block : Block)
      → few (func_bodies tables key params block) ≤ hits key k + in_block block k
  unfolding func_bodies
  func_few key params block =
      some_few (func_at world answers key) (func_signed tables params block)
      (hits key k + in_block block k) each
    where
      each : (func : Signature) → func_at world answers key ≡ Some func
          → few (func_signed tables params block func) ≤ hits key k + in_block block k
      each func found =
          let code = block_code tables func.owner block in
          let body = signed tables func
          (self_taken tables func.owner ++ map (param_taken tables) params)
          (body_code func.result code) in
          let whole : few (body ∷ code.inside) ≤ hits key k + in_block block k = omega (
            arith,
            in_all-append w (body ∷ []) code.inside k,
            only_few body key (key_found decls rule world is answers key func found),
            block_few tables func.owner w k (of_closure func.owner) block,
          ) in
          whole

  tree_few : (func : FuncTree) → few (func_tree_bodies tables func) ≤ in_func func k
  tree_few func =
      omega (
        arith,
        func_few func.word.at func.params func.body,
        keys.in_func-is func k,
      )

  trees_few : (funcs : List FuncTree)
      → few (flat_map (func_tree_bodies tables) funcs) ≤ in_all in_func funcs k
  trees_few [] = none_few (in_all in_func [] k)
  trees_few (func ∷ funcs) =
      omega (
        arith,
        in_all-append w (func_tree_bodies tables func) (flat_map (func_tree_bodies tables) funcs) k,
        in_all-cons in_func func funcs k,
        tree_few func,
        trees_few funcs,
      )

  -- an initialiser
  signed_few : (n : ℕ) (props : List PropTree) (params : List ParamTree) (givens : List Given)
      (key : ℕ) → few (for_some (func_at world answers key)
      (init_signed tables n props params givens)) ≤ hits key k
  signed_few n props params givens key =
      some_few (func_at world answers key) (init_signed tables n props params givens) (hits key k)
      (λ func found.
      some_few (slice_get world.shapes n) (λ shape.
      signed tables func (map (param_taken tables) params)
      (init_code func.key.at n shape (first_values tables n props ++ givens)) ∷ []) (hits key k)
      (λ shape at.
      only_few (signed tables func (map (param_taken tables) params)
      (init_code func.key.at n shape (first_values tables n props ++ givens))) key
      (key_found decls rule world is answers key func found)))

  init_few : (n : ℕ) (props : List PropTree) (init : InitTree)
      → few (init_bodies tables n props init) ≤ in_init init k
  unfolding init_bodies
  init_few n props init =
      let code = block_code tables (Some n) init.body in
      let found = for_some (func_at world answers init.at)
      (init_signed tables n props init.params code.gives) in
      let whole : few (found ++ code.inside) ≤ in_init init k = omega (
        arith,
        in_all-append w found code.inside k,
        signed_few n props init.params code.gives init.at,
        block_few tables (Some n) w k (of_closure (Some n)) init.body,
        keys.in_init-is init k,
      ) in
      whole

  written_few : (n : ℕ) (props : List PropTree) (inits : List InitTree)
      → few (flat_map (init_bodies tables n props) inits) ≤ in_all in_init inits k
  written_few n props [] = none_few (in_all in_init [] k)
  written_few n props (init ∷ inits) =
      omega (
        arith,
        in_all-append w (init_bodies tables n props init)
            (flat_map (init_bodies tables n props) inits) k,
        in_all-cons in_init init inits k,
        init_few n props init,
        written_few n props inits,
      )

  default_few : (n : ℕ) (props : List PropTree) (word : Name)
      → few (default_bodies tables n props word) ≤ hits word.at k
  unfolding default_bodies
  default_few n props word = signed_few n props [] [] word.at

  inits_few : (n : ℕ) (props : List PropTree) (word : Name) (inits : List InitTree)
      → few (inits_bodies tables n props word inits) ≤ hits word.at k + in_all in_init inits k
  inits_few n props word [] = omega (arith, default_few n props word)
  inits_few n props word (init ∷ inits) = omega (arith, written_few n props (init ∷ inits))

  -- getters
  getter_few : (test : Bool) (n index : ℕ) (prop : PropTree) (shape : Shape)
      → few (if test then for_some (slice_get shape.parts index) (λ part.
      part_getter tables prop.word.at n index shape part ∷ []) else []) ≤ hits prop.word.at k
  getter_few false n index prop shape = none_few (hits prop.word.at k)
  getter_few true n index prop shape =
      some_few (slice_get shape.parts index) (λ part.
      part_getter tables prop.word.at n index shape part ∷ []) (hits prop.word.at k)
      (λ part at. only_few (part_getter tables prop.word.at n index shape part) prop.word.at refl)

  prop_few : (n index : ℕ) (prop : PropTree)
      → few (for_some (slice_get world.shapes n) (shape_getters tables n index prop))
      ≤ in_prop prop k
  prop_few n index prop =
      omega (
        arith,
        some_few (slice_get world.shapes n) (shape_getters tables n index prop)
            (hits prop.word.at k)
            (λ shape at. getter_few (prop.mutable && is_isolated (shape_iso shape)) n index prop
            shape),
        keys.in_prop-is prop k,
      )

  props_few : (n index : ℕ) (props : List PropTree)
      → few (prop_getters tables n index props) ≤ in_all in_prop props k
  props_few n index [] = none_few (in_all in_prop [] k)
  props_few n index (prop ∷ props) =
      omega (
        arith,
        in_all-append w
            (for_some (slice_get world.shapes n) (shape_getters tables n index prop))
            (prop_getters tables n (index + 1) props) k,
        in_all-cons in_prop prop props k,
        prop_few n index prop,
        props_few n (index + 1) props,
      )

  -- a class or an actor
  object_few : (n : ℕ) (word : Name) (props : List PropTree) (inits : List InitTree)
      (funcs : List FuncTree)
      → few (prop_getters tables n 0 props ++ inits_bodies tables n props word inits
      ++ flat_map (func_tree_bodies tables) funcs)
      ≤ hits word.at k + in_all in_prop props k + in_all in_init inits k + in_all in_func funcs k
  object_few n word props inits funcs =
      let getters = prop_getters tables n 0 props in
      let makers = inits_bodies tables n props word inits in
      omega (
        arith,
        in_all-append w (getters ++ makers) (flat_map (func_tree_bodies tables) funcs) k,
        in_all-append w getters makers k,
        props_few n 0 props,
        inits_few n props word inits,
        trees_few funcs,
      )

  -- a global variable: what gives its first value, with its closures, and its getter
  value_few : (key index : ℕ) (value : Option Expr)
      → few (value_bodies tables key index value)
      ≤ plain_key kind key k + in_option in_expr value k
  unfolding in_option
  value_few key index None = none_few (plain_key kind key k + 0)
  value_few key index (Some value) =
      let code = expr_code tables None value in
      let body = first_value tables key index code in
      let own : w body k ≡ plain_key kind key k = refl in
      let whole : few (body ∷ code.inside) ≤ plain_key kind key k + in_expr value k = omega (
        arith,
        in_all-cons w body code.inside k,
        own,
        expr_few tables None w k (of_closure None) value,
      ) in
      whole

  actor_few : (key index : ℕ) (global : GlobalVar) (test : Bool)
      → few (if test
      then getter tables key [] global.ty (stored_read key index global.ty) ∷ []
      else []) ≤ getter_key kind key k
  actor_few key index global false = none_few (getter_key kind key k)
  actor_few key index global true =
      let body = getter tables key [] global.ty (stored_read key index global.ty) in
      let own : w body k ≡ getter_key kind key k = refl in
      omega (arith, in_all-cons w body [] k, in_all-nil w k, own)

  global_few : (index : ℕ) (prop : PropTree)
      → few (global_bodies tables index prop) ≤ in_prop prop k
  unfolding global_bodies
  global_few index prop =
      let key = prop.word.at in
      let values = value_bodies tables key index prop.value in
      let getters = for_some (slice_get world.globals index) (global_getter tables key index) in
      let of_getters : few getters ≤ getter_key kind key k =
      some_few (slice_get world.globals index) (global_getter tables key index)
      (getter_key kind key k) (λ global at.
      some_few global.actor (λ actor. if global.mutable
      then getter tables key [] global.ty (stored_read key index global.ty) ∷ [] else [])
      (getter_key kind key k) (λ actor of. actor_few key index global global.mutable)) in
      let whole : few (values ++ getters) ≤ in_prop prop k = omega (
        arith,
        in_all-append w values getters k,
        value_few key index prop.value,
        of_getters,
        one_of_both kind key k,
        keys.in_prop-is prop k,
      ) in
      whole

  -- a declaration
  decl_few : (n g : ℕ) (decl : Decl) → few (decl_bodies tables n g decl) ≤ in_decl decl k
  unfolding decl_bodies
  decl_few n g (Entry word written at is_async body) =
      omega (
        arith,
        func_few at [] body,
        keys.in_decl-Entry word written at is_async body k,
      )
  decl_few n g (Struct word conforms fields funcs) =
      omega (arith, trees_few funcs, keys.in_decl-Struct word conforms fields funcs k)
  decl_few n g (Enum word conforms cases funcs) =
      omega (arith, trees_few funcs, keys.in_decl-Enum word conforms cases funcs k)
  decl_few n g (Class written word conforms props inits funcs) =
      omega (
        arith,
        object_few n word props inits funcs,
        keys.in_decl-Class written word conforms props inits funcs k,
      )
  decl_few n g (Actor word props inits funcs) =
      omega (
        arith,
        object_few n word props inits funcs,
        keys.in_decl-Actor word props inits funcs k,
      )
  decl_few n g (GlobalActor word made) = none_few (in_decl (GlobalActor word made) k)
  decl_few n g (Func func) = omega (arith, tree_few func, keys.in_decl-Func func k)
  decl_few n g (Global prop) = omega (arith, global_few g prop, keys.in_decl-Global prop k)

  decls_few : (n g : ℕ) (list : List Decl) → few (bodies_from tables n g list)
      ≤ in_all in_decl list k
  decls_few n g [] = none_few (in_all in_decl [] k)
  decls_few n g (decl ∷ list) =
      omega (
        arith,
        in_all-append w (decl_bodies tables n g decl)
            (bodies_from tables (n + shapes_made decl) (g + globals_made decl) list) k,
        in_all-cons in_decl decl list k,
        decl_few n g decl,
        decls_few (n + shapes_made decl) (g + globals_made decl) list,
      )

  -- One body at most has a name.
  pub once_named : AreKeyed decls → in_all (named_so kind) (program_bodies tables decls) k ≤ 1
  once_named keyed = omega (arith, decls_few 0 0 decls, key_once decls keyed k)
