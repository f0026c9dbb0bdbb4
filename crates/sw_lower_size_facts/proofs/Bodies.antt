-- The bodies of a program are few, and their code is short.
use Rattle.std.proofs.Common.{ℕ, ◌+◌, ◌*◌, ◌≤◌, Bool, true, false, ◌&&◌, Option, Some, None, List, []}
use Rattle.std.proofs.Common.{◌∷◌, ◌++◌, map, flat_map, All, length, arith}
use Rattle.std.proofs.lemmas.List.Elements.{All-weaker}
use Rattle.std.proofs.lemmas.List.Sums.{sum_by-cons}
use Rattle.std.specs.List.{sum_by}
use Rattle.std.specs.Prelude.{if◌then◌else◌, slice_get}
use Rattle.sw_tree.specs.declared.decl.Decl.{Decl}
use Rattle.sw_tree.specs.declared.decl.Decl.TheVariants.{Entry, Struct, Enum, Class, Actor}
use Rattle.sw_tree.specs.declared.decl.Decl.TheVariants.{GlobalActor, Func, Global}
use Rattle.sw_tree.specs.declared.decl.FuncTree.{FuncTree}
use Rattle.sw_tree.specs.declared.decl.InitTree.{InitTree}
use Rattle.sw_tree.specs.declared.decl.ParamTree.{ParamTree}
use Rattle.sw_tree.specs.declared.decl.PropTree.{PropTree}
use Rattle.sw_tree.specs.declared.expr.Expr.{Expr}
use Rattle.sw_tree.specs.declared.name.Name.{Name}
use Rattle.sw_tree.specs.declared.stmt.Block.{Block}
use Rattle.sw_tree_facts.specs.Sizes.{block_size, decl_size, func_size, init_size, prop_size}
use Rattle.sw_tree_facts.specs.Sizes.{size_of, value_size}
use Rattle.sw_types.specs.declared.shape.Shape.{Shape}
use Rattle.sw_decl_words.specs.Words.{globals_made, shapes_made}
use Rattle.sw_decls.specs.declared.signature.GlobalVar.{GlobalVar}
use Rattle.sw_decls.specs.declared.signature.Signature.{Signature}
use Rattle.sw_isolation_rules.specs.Answers.{for_some}
use Rattle.sw_isolation_rules.specs.Kinds.{is_isolated, shape_iso}
use Rattle.sw_isolation_rules.specs.Programs.{func_at}
use Rattle.sw_lower_plans.specs.Plan.{Numbers}
use Rattle.sw_lower_code.specs.Code.{all, each}
use Rattle.sw_lower_code.specs.Whole.{Body, code_of, enter, piece_of, start_place}
use Rattle.sw_lower_rules.specs.Bodies.{bodies_from, decl_bodies, default_bodies, first_value}
use Rattle.sw_lower_rules.specs.Bodies.{first_values, func_bodies, func_signed, func_tree_bodies}
use Rattle.sw_lower_rules.specs.Bodies.{getter, give_value, global_bodies, global_getter}
use Rattle.sw_lower_rules.specs.Bodies.{init_bodies, init_code, init_signed, inits_bodies}
use Rattle.sw_lower_rules.specs.Bodies.{param_taken, part_getter, program_bodies, prop_getters}
use Rattle.sw_lower_rules.specs.Bodies.{prop_given, self_taken, shape_getters, signed, stored_read}
use Rattle.sw_lower_rules.specs.Bodies.{value_bodies}
use Rattle.sw_lower_rules.specs.Carriers.{Given}
use Rattle.sw_lower_rules.specs.Expressions.{body_code}
use Rattle.sw_lower_rules.specs.Statements.{block_code, expr_code}
use Rattle.sw_lower_rules.specs.Tables.{Tables}
use Rattle.sw_lower_code_facts.proofs.Uses.{has_each_of, has_give}
use Rattle.sw_lower_size_facts.specs.Short.{AreShort, IsShort}
use Rattle.sw_lower_size_facts.proofs.Expressions.{quiet_short}
use Rattle.sw_lower_size_facts.proofs.Induction.{every_block_short, every_expr_short}
use Rattle.sw_lower_size_facts.proofs.Lists.{both_short, head_short, more_short, none_short}
use Rattle.sw_lower_size_facts.proofs.Statements.{GivesShort, body_short, gives_both, gives_none}
use Rattle.sw_lower_size_facts.proofs.Statements.{gives_one}
use Rattle.sw_lower_size_facts.proofs.Steps.{after_quiet, before_quiet, makes_more, quiet}
use Rattle.sw_lower_size_facts.proofs.Steps.{quiet_all, quiet_close, quiet_emit, quiet_variables}

module _ (tables : Tables) where
  -- one body, and what is made of what is found
  one_short : (body : Body) (count size : ℕ) → IsShort size body.code → 1 ≤ count
      → AreShort count size (body ∷ [])
  one_short body count size short most =
      head_short body [] 0 count size short (none_short 0 size) most

  some_short : {A : Type 0} (found : Option A) (f : A → List Body) (count size : ℕ)
      → ((x : A) → AreShort count size (f x)) → AreShort count size (for_some found f)
  some_short None f count size short = none_short count size
  some_short (Some x) f count size short = short x

  -- lists of parts of a declaration, in which no code is longer than a size
  all_short : {X : Type 0} (bodies : X → List Body) (own : X → ℕ) (whole : ℕ) (xs : List X)
      → ((x : X) → own x ≤ whole → AreShort (own x) whole (bodies x)) → sum_by own xs ≤ whole
      → AreShort (sum_by own xs) whole (flat_map bodies xs)
  all_short bodies own whole [] short less = none_short 0 whole
  all_short bodies own whole (x ∷ xs) short less =
      both_short (bodies x) (flat_map bodies xs) (own x) (sum_by own xs) (sum_by own (x ∷ xs)) whole
      (short x (omega (arith, less, sum_by-cons own x xs)))
      (all_short bodies own whole xs short (omega (arith, less, sum_by-cons own x xs)))
      (omega (arith, sum_by-cons own x xs))

  -- a function with its closures
  func_short : (key : ℕ) (params : List ParamTree) (block : Block) (count size : ℕ)
      → 1 + block_size block ≤ count → block_size block ≤ size
      → AreShort count size (func_bodies tables key params block)
  unfolding func_bodies
  func_short key params block count size few less =
      some_short (func_at tables.world tables.answers key) (func_signed tables params block) count
      size by
    where
      by : (func : Signature) → AreShort count size (func_signed tables params block func)
      by func =
          let code = block_code tables func.owner block in
          let short = every_block_short tables func.owner block in
          let n = block_size block in
          head_short
          (signed tables func (self_taken tables func.owner ++ map (param_taken tables) params)
          (body_code func.result code)) code.inside n count size
          (makes_more (3 * n) (3 * size) _ (body_short n func.result code short)
          (omega (arith, less)))
          (more_short code.inside n n n size short.inside (omega arith) less) few

  tree_short : (whole : ℕ) (func : FuncTree) → func_size func ≤ whole
      → AreShort (func_size func) whole (func_tree_bodies tables func)
  tree_short whole func less =
      func_short func.word.at func.params func.body (func_size func) whole (omega arith)
      (omega (arith, less))

  trees_short : (whole : ℕ) (funcs : List FuncTree) → sum_by func_size funcs ≤ whole
      → AreShort (sum_by func_size funcs) whole (flat_map (func_tree_bodies tables) funcs)
  trees_short whole funcs less =
      all_short (func_tree_bodies tables) func_size whole funcs (tree_short whole) less

  -- the first values of properties
  given_short : (n : ℕ) (prop : PropTree) (value : Option Expr)
      → GivesShort (value_size value) (prop_given tables n prop value)
  given_short n prop None = gives_none 0
  given_short n prop (Some value) =
      gives_one _ _ (every_expr_short tables (Some n) value).read

  firsts_short : (n : ℕ) (props : List PropTree)
      → GivesShort (sum_by prop_size props) (first_values tables n props)
  firsts_short n [] = gives_none 0
  firsts_short n (prop ∷ props) =
      gives_both (prop_given tables n prop prop.value) (first_values tables n props)
      (value_size prop.value) (sum_by prop_size props) (sum_by prop_size (prop ∷ props))
      (given_short n prop prop.value) (firsts_short n props)
      (omega (arith, sum_by-cons prop_size prop props))

  -- the code of an initialiser
  made_short : (key n size : ℕ) (shape : Shape) (gives : List Given) → GivesShort size gives
      → IsShort size (init_code key n shape gives)
  unfolding init_code
  made_short key n size shape gives short =
      before_quiet (3 * size) (each give_value gives) _ short (λ values.
      quiet.after _ _ (has_each_of quiet _ shape.parts (λ part. quiet.known _ _)) (λ operands.
      quiet.after _ _
      (quiet.after _ _ (quiet.reg _) (λ r. quiet.after _ _ (quiet_emit _) (λ made. quiet.done _)))
      (λ made. quiet_close _)))

  -- an initialiser, by what it gives besides first values
  signed_short : (n : ℕ) (props : List PropTree) (params : List ParamTree) (gives : List Given)
      (key size whole : ℕ) → GivesShort size gives → sum_by prop_size props + size ≤ whole
      → AreShort 1 whole (for_some (func_at tables.world tables.answers key)
      (init_signed tables n props params gives))
  signed_short n props params gives key size whole short less =
      let firsts = first_values tables n props in
      let both : GivesShort whole (firsts ++ gives)
      = gives_both firsts gives (sum_by prop_size props) size whole (firsts_short n props) short
      less in
      some_short (func_at tables.world tables.answers key)
      (init_signed tables n props params gives) 1 whole (λ func.
      some_short (slice_get tables.world.shapes n) (λ shape.
      signed tables func (map (param_taken tables) params)
      (init_code func.key.at n shape (firsts ++ gives)) ∷ []) 1 whole (λ shape.
      one_short (signed tables func (map (param_taken tables) params)
      (init_code func.key.at n shape (firsts ++ gives))) 1 whole
      (made_short func.key.at n whole shape (firsts ++ gives) both) (omega arith)))

  init_short : (n : ℕ) (props : List PropTree) (whole : ℕ) (init : InitTree)
      → sum_by prop_size props + init_size init ≤ whole
      → AreShort (init_size init) whole (init_bodies tables n props init)
  unfolding init_bodies
  init_short n props whole init less =
      let code = block_code tables (Some n) init.body in
      let short = every_block_short tables (Some n) init.body in
      let size = block_size init.body in
      both_short (for_some (func_at tables.world tables.answers init.at)
      (init_signed tables n props init.params code.gives)) code.inside 1 size (init_size init) whole
      (signed_short n props init.params code.gives init.at size whole short.gives
      (omega (arith, less)))
      (more_short code.inside size size size whole short.inside (omega arith) (omega (arith, less)))
      (omega arith)

  written_short : (n : ℕ) (props : List PropTree) (whole : ℕ) (inits : List InitTree)
      → sum_by prop_size props + sum_by init_size inits ≤ whole
      → AreShort (sum_by init_size inits) whole (flat_map (init_bodies tables n props) inits)
  written_short n props whole [] less = none_short 0 whole
  written_short n props whole (init ∷ inits) less =
      both_short (init_bodies tables n props init) (flat_map (init_bodies tables n props) inits)
      (init_size init) (sum_by init_size inits) (sum_by init_size (init ∷ inits)) whole
      (init_short n props whole init (omega (arith, less, sum_by-cons init_size init inits)))
      (written_short n props whole inits (omega (arith, less, sum_by-cons init_size init inits)))
      (omega (arith, sum_by-cons init_size init inits))

  default_short : (n : ℕ) (props : List PropTree) (word : Name) (whole : ℕ)
      → sum_by prop_size props ≤ whole → AreShort 1 whole (default_bodies tables n props word)
  unfolding default_bodies
  default_short n props word whole less =
      signed_short n props [] [] word.at 0 whole (gives_none 0) (omega (arith, less))

  inits_short : (n : ℕ) (props : List PropTree) (word : Name) (inits : List InitTree) (whole : ℕ)
      → sum_by prop_size props + sum_by init_size inits ≤ whole
      → AreShort (1 + sum_by init_size inits) whole (inits_bodies tables n props word inits)
  inits_short n props word [] whole less =
      more_short (default_bodies tables n props word) 1 whole (1 + sum_by init_size []) whole
      (default_short n props word whole (omega (arith, less))) (omega arith) (omega arith)
  inits_short n props word (init ∷ inits) whole less =
      more_short (flat_map (init_bodies tables n props) (init ∷ inits))
      (sum_by init_size (init ∷ inits)) whole (1 + sum_by init_size (init ∷ inits)) whole
      (written_short n props whole (init ∷ inits) less) (omega arith) (omega arith)

  -- getters
  getter_short : (test : Bool) (n index : ℕ) (prop : PropTree) (shape : Shape) (whole : ℕ)
      → AreShort 1 whole (if test then for_some (slice_get shape.parts index) (λ part.
      part_getter tables prop.word.at n index shape part ∷ []) else [])
  getter_short false n index prop shape whole = none_short 1 whole
  getter_short true n index prop shape whole =
      some_short (slice_get shape.parts index) (λ part.
      part_getter tables prop.word.at n index shape part ∷ []) 1 whole (λ part.
      one_short (part_getter tables prop.word.at n index shape part) 1 whole
      (quiet_short whole _
      (quiet.after _ _ (has_give quiet prop.word.at part.ty _ (λ r. tt)) (λ read. quiet_close _)))
      (omega arith))

  getters_short : (n index : ℕ) (props : List PropTree) (whole : ℕ)
      → AreShort (sum_by prop_size props) whole (prop_getters tables n index props)
  getters_short n index [] whole = none_short 0 whole
  getters_short n index (prop ∷ props) whole =
      both_short (for_some (slice_get tables.world.shapes n) (shape_getters tables n index prop))
      (prop_getters tables n (index + 1) props) 1 (sum_by prop_size props)
      (sum_by prop_size (prop ∷ props)) whole
      (some_short (slice_get tables.world.shapes n) (shape_getters tables n index prop) 1 whole
      (λ shape. getter_short (prop.mutable && is_isolated (shape_iso shape)) n index prop shape
      whole)) (getters_short n (index + 1) props whole)
      (omega (arith, sum_by-cons prop_size prop props))

  -- a class or an actor
  object_short : (n : ℕ) (word : Name) (props : List PropTree) (inits : List InitTree)
      (funcs : List FuncTree) (whole : ℕ)
      → 1 + sum_by prop_size props + sum_by init_size inits + sum_by func_size funcs ≤ whole
      → AreShort (2 * whole) whole (prop_getters tables n 0 props
      ++ inits_bodies tables n props word inits ++ flat_map (func_tree_bodies tables) funcs)
  object_short n word props inits funcs whole less =
      let a = sum_by prop_size props in
      let b = 1 + sum_by init_size inits in
      let c = sum_by func_size funcs in
      both_short (prop_getters tables n 0 props ++ inits_bodies tables n props word inits)
      (flat_map (func_tree_bodies tables) funcs) (a + b) c (2 * whole) whole
      (both_short (prop_getters tables n 0 props) (inits_bodies tables n props word inits) a b
      (a + b) whole (getters_short n 0 props whole)
      (inits_short n props word inits whole (omega (arith, less))) (omega arith))
      (trees_short whole funcs (omega (arith, less))) (omega (arith, less))

  -- a global variable
  value_short : (key index : ℕ) (value : Option Expr) (whole : ℕ) → value_size value ≤ whole
      → AreShort (1 + value_size value) whole (value_bodies tables key index value)
  value_short key index None whole less = none_short 1 whole
  value_short key index (Some value) whole less =
      let code = expr_code tables None value in
      let short = every_expr_short tables None value in
      let n = value_size (Some value) in
      head_short (first_value tables key index code) code.inside n (1 + n) whole
      (makes_more (3 * n) (3 * whole) _
      (before_quiet (3 * n) code.read _ short.read (λ given.
      quiet.after _ _ (quiet_emit _) (λ stored. quiet_close _))) (omega (arith, less)))
      (more_short code.inside n n n whole short.inside (omega arith) less) (omega arith)

  stored_short : (test : Bool) (key index : ℕ) (global : GlobalVar) (whole : ℕ)
      → AreShort 1 whole (if test
      then getter tables key [] global.ty (stored_read key index global.ty) ∷ [] else [])
  stored_short false key index global whole = none_short 1 whole
  stored_short true key index global whole =
      one_short (getter tables key [] global.ty (stored_read key index global.ty)) 1 whole
      (quiet_short whole _
      (quiet.after _ _ (has_give quiet key global.ty _ (λ r. tt)) (λ read. quiet_close _)))
      (omega arith)

  global_short : (index : ℕ) (prop : PropTree) (whole : ℕ) → prop_size prop ≤ whole
      → AreShort (2 * whole) whole (global_bodies tables index prop)
  unfolding global_bodies
  global_short index prop whole less =
      both_short (value_bodies tables prop.word.at index prop.value)
      (for_some (slice_get tables.world.globals index) (global_getter tables prop.word.at index))
      (1 + value_size prop.value) 1 (2 * whole) whole
      (value_short prop.word.at index prop.value whole (omega (arith, less)))
      (some_short (slice_get tables.world.globals index)
      (global_getter tables prop.word.at index) 1 whole (λ global.
      some_short global.actor (λ actor. if global.mutable
      then getter tables prop.word.at [] global.ty (stored_read prop.word.at index global.ty) ∷ []
      else []) 1 whole
      (λ actor. stored_short global.mutable prop.word.at index global whole)))
      (omega (arith, less))

  -- a declaration
  decl_short : (n g : ℕ) (decl : Decl) (whole : ℕ) → decl_size decl ≤ whole
      → AreShort (2 * whole) whole (decl_bodies tables n g decl)
  unfolding decl_bodies
  decl_short n g (Entry word written at is_async body) whole less =
      func_short at [] body (2 * whole) whole (omega (arith, less)) (omega (arith, less))
  decl_short n g (Struct word conforms fields funcs) whole less =
      let c = sum_by func_size funcs in
      more_short _ c whole (2 * whole) whole (trees_short whole funcs (omega (arith, less)))
      (omega (arith, less)) (omega arith)
  decl_short n g (Enum word conforms cases funcs) whole less =
      let c = sum_by func_size funcs in
      more_short _ c whole (2 * whole) whole (trees_short whole funcs (omega (arith, less)))
      (omega (arith, less)) (omega arith)
  decl_short n g (Class written word conforms props inits funcs) whole less =
      object_short n word props inits funcs whole less
  decl_short n g (Actor word props inits funcs) whole less =
      object_short n word props inits funcs whole less
  decl_short n g (GlobalActor word made) whole less = none_short (2 * whole) whole
  decl_short n g (Func func) whole less =
      more_short _ (func_size func) whole (2 * whole) whole (tree_short whole func less)
      (omega (arith, less)) (omega arith)
  decl_short n g (Global prop) whole less = global_short g prop whole less

  decls_short : (n g : ℕ) (decls : List Decl) (whole : ℕ) → sum_by decl_size decls ≤ whole
      → AreShort (2 * sum_by decl_size decls) whole (bodies_from tables n g decls)
  decls_short n g [] whole less = none_short 0 whole
  decls_short n g (decl ∷ decls) whole less =
      let size = decl_size decl in
      let more = sum_by decl_size decls in
      both_short (decl_bodies tables n g decl)
      (bodies_from tables (n + shapes_made decl) (g + globals_made decl) decls) (2 * size) (2 * more)
      (2 * sum_by decl_size (decl ∷ decls)) whole
      (more_short (decl_bodies tables n g decl) (2 * size) size (2 * size) whole
      (decl_short n g decl size (omega arith)) (omega arith)
      (omega (arith, less, sum_by-cons decl_size decl decls)))
      (decls_short (n + shapes_made decl) (g + globals_made decl) decls whole
      (omega (arith, less, sum_by-cons decl_size decl decls)))
      (omega (arith, sum_by-cons decl_size decl decls))

  -- The bodies of a program are no more than twice its size.
  pub program_short : (decls : List Decl)
      → AreShort (2 * size_of decls) (size_of decls) (program_bodies tables decls)
  unfolding size_of
  program_short decls = decls_short 0 0 decls (sum_by decl_size decls) (omega arith)

-- What a body takes adds no block to its code.
quiet_body : (number : Numbers) (body : Body) (size : ℕ) → IsShort size body.code
    → length (piece_of number body).made ≤ 3 * size
unfolding code_of
quiet_body number body size short =
    (after_quiet (3 * size) (all enter body.takes) (λ entered. body.code)
    (quiet_all enter body.takes (λ taken.
    quiet.after _ _ (quiet.reg taken.kind) (λ r. quiet_variables.bind _)))
    (λ entered. short)).few (start_place number)

pub bodies_are_short : (tables : Tables) (decls : List Decl) (number : Numbers)
    → All (λ (body : Body). length (piece_of number body).made ≤ 3 * size_of decls)
    (program_bodies tables decls)
bodies_are_short tables decls number =
    All-weaker (λ (body : Body). IsShort (size_of decls) body.code)
    (λ (body : Body). length (piece_of number body).made ≤ 3 * size_of decls)
    (λ body short. quiet_body number body (size_of decls) short) (program_bodies tables decls)
    (program_short tables decls).each
