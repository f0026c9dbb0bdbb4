-- The bodies of a program and its graph.
use Rattle.std.specs.Prelude.{◌≡◌, ◌≤◌, ℕ, ◌+◌, ◌*◌, ◌^◌, ◌==◌, ◌&&◌, true, false, List, [], ◌∷◌}
use Rattle.std.specs.Prelude.{◌++◌, length, map, flat_map, Option, Some, None, slice_get}
use Rattle.std.specs.Prelude.{if◌then◌else◌}
use Rattle.std.specs.Prelude.{All, Contains, Err, IsOk, IsPermutation}
use Rattle.std.specs.List.Sorted.{IsNonDecreasingBy}
use Rattle.sw_tree.specs.declared.decl.Decl.{Decl}
use Rattle.sw_tree.specs.declared.decl.Decl.TheVariants.{Entry, Struct, Enum, Class, Actor}
use Rattle.sw_tree.specs.declared.decl.Decl.TheVariants.{GlobalActor, Func, Global}
use Rattle.sw_tree.specs.declared.decl.FuncTree.{FuncTree}
use Rattle.sw_tree.specs.declared.decl.InitTree.{InitTree}
use Rattle.sw_tree.specs.declared.decl.ParamTree.{ParamTree}
use Rattle.sw_tree.specs.declared.decl.PropTree.{PropTree}
use Rattle.sw_tree.specs.declared.expr.Expr.{Expr}
use Rattle.sw_tree.specs.declared.name.Name.{Name as Word}
use Rattle.sw_tree.specs.declared.stmt.Block.{Block}
use Rattle.sw_types.specs.declared.shape.Part.{Part}
use Rattle.sw_types.specs.declared.shape.Shape.{Shape}
use Rattle.sw_types.specs.declared.shape.ShapeKind.{ShapeKind}
use Rattle.sw_types.specs.declared.shape.ShapeKind.TheVariants as shapes
use Rattle.sw_types.specs.declared.ty.Ty.{Ty}
use Rattle.sw_types.specs.declared.ty.Ty.TheVariants as types
use Rattle.sw_graph.specs.Limits.{excess_of}
use Rattle.sw_graph.specs.declared.function.Excess.{Excess}
use Rattle.sw_graph.specs.declared.function.Excess.TheVariants.{Registers, Points}
use Rattle.sw_graph.specs.declared.function.Function.{Function}
use Rattle.sw_graph.specs.declared.function.GlobalKind.{GlobalKind}
use Rattle.sw_graph.specs.declared.function.RegKind.TheVariants.{Plain}
use Rattle.sw_graph.specs.declared.graph.Graph.{Graph}
use Rattle.sw_graph.specs.declared.instr.Instr.{Instr}
use Rattle.sw_graph.specs.declared.instr.Instr.TheVariants as instr
use Rattle.sw_graph.specs.declared.instr.Last.TheVariants as last
use Rattle.sw_graph.specs.declared.instr.Operand.{Operand}
use Rattle.sw_decl_words.specs.Placed.{IsFirstPlaced}
use Rattle.sw_decl_words.specs.Words.{shapes_made}
use Rattle.sw_decl_words.specs.declared.placed.Placed.{Placed}
use Rattle.sw_decl_words.specs.Words.{globals_made}
use Rattle.sw_decls.specs.declared.signature.GlobalVar.{GlobalVar}
use Rattle.sw_decls.specs.declared.signature.Signature.{Signature}
use Rattle.sw_typing_rules.specs.Worlds.{World, and_then}
use Rattle.sw_isolation_rules.specs.Answers.{Answers, for_some}
use Rattle.sw_isolation_rules.specs.Kinds.{is_isolated, shape_iso}
use Rattle.sw_isolation_rules.specs.Programs.{func_at}
use Rattle.sw_lower_plans.specs.Plan.{Numbers}
use Rattle.sw_lower_code.specs.Code.{Code, close, done, each, emit, known, ◌>>=◌, ◌>>◌}
use Rattle.sw_lower_code.specs.Whole.{Body, HasManyBlocks, function_of, lower_body}
use Rattle.sw_lower_code.specs.declared.fault.BodyFault.TheVariants.{Missing}
use Rattle.sw_lower_code.specs.declared.taken.Taken.{Taken}
use Rattle.sw_lower_rules.specs.Carriers.{ExprCode, Given}
use Rattle.sw_lower_rules.specs.Expressions.{body_code, is_async_of, iso_of}
use Rattle.sw_lower_rules.specs.Statements.{block_code, expr_code}
use Rattle.sw_lower_rules.specs.Tables.{Isolation, Tables, name_of, number_in}
use Rattle.sw_lower_rules.specs.Tables.{or_void, part_key_in, plain}
use Rattle.sw_lower_rules.specs.Uses.{give, no_operand, operand}

-- the value that a property got, by the id of its name
pub record GivenValue : Type 0 where
  pub name : ℕ
  pub value : Operand

abbrev pub value_of : List GivenValue → ℕ → Option Operand
value_of [] name = None
value_of (one ∷ more) name = if one.name == name then Some one.value else value_of more name

-- each value in order, with its property
abbrev pub give_value : Given → Code GivenValue
give_value given =
    given.read >>= λ value. done (record { name = given.name; value = value })

-- An initialiser makes its actor or object of the values of all properties, in order.
abbrev pub made_instr : ShapeKind → ℕ → ℕ → ℕ → List Operand → Instr
made_instr shapes.Actor key dst number operands = instr.NewActor key dst number operands
made_instr _ key dst number operands = instr.NewObject key dst number operands

unfoldable pub init_code : ℕ → ℕ → Shape → List Given → Code (Unit {0})
init_code key number shape givens = each give_value givens
    >>= λ values. each (λ (part : Part). known no_operand (value_of values part.name)) shape.parts
    >>= λ operands. give key (types.Named number)
    (λ dst. made_instr shape.kind key dst number operands)
    >>= λ made. close (last.Return (Some made))

-- A getter gives what it reads.
abbrev pub getter_code : Code Operand → Code (Unit {0})
getter_code read = read >>= λ value. close (last.Return (Some value))

abbrev pub part_read : ℕ → ℕ → Ty → Code Operand
part_read key index ty = give key ty (λ dst. instr.LoadProp key dst (operand 0 key) index)

abbrev pub stored_read : ℕ → ℕ → Ty → Code Operand
stored_read key index ty = give key ty (λ dst. instr.LoadGlobal key dst index)

-- a global variable is given its first value
abbrev pub first_code : ℕ → ℕ → Code Operand → Code (Unit {0})
first_code key index read = read
    >>= λ given. emit (instr.StoreGlobal key index given) >> close (last.Return None)

-- `self` of a member of the type with a number
abbrev pub self_by : ℕ → Shape → Taken
self_by number shape = record {
  key = shape.at;
  kind = Plain (types.Named number);
  boxed = false;
  sending = false;
}

module _ (tables : Tables) where
  abbrev pub self_at : ℕ → List Taken
  self_at number = for_some (slice_get tables.world.shapes number)
      (λ shape. self_by number shape ∷ [])

  abbrev pub self_taken : Option ℕ → List Taken
  self_taken None = []
  self_taken (Some number) = self_at number

  abbrev pub param_taken : ParamTree → Taken
  param_taken param = record {
    key = param.name.at;
    kind = Plain (or_void (tables.answers.type_at param.name.at));
    boxed = false;
    sending = param.sending;
  }

  -- the body of a function, by its signature
  abbrev pub signed : Signature → List Taken → Code (Unit {0}) → Body
  signed func takes code = record {
    key = func.key.at;
    getter = false;
    iso = func.iso;
    is_async = func.is_async;
    takes = takes;
    sends = func.sends;
    result = func.result;
    code = code;
  }

  -- a function, a method or the entry
  abbrev pub func_signed : List ParamTree → Block → Signature → List Body
  func_signed params block func =
      let code = block_code tables func.owner block in
      signed func (self_taken func.owner ++ map param_taken params)
      (body_code func.result code) ∷ code.inside

  unfoldable pub func_bodies : ℕ → List ParamTree → Block → List Body
  func_bodies key params block =
      for_some (func_at tables.world tables.answers key) (func_signed params block)

  abbrev pub func_tree_bodies : FuncTree → List Body
  func_tree_bodies func = func_bodies func.word.at func.params func.body

  -- what the first value of a property gives
  abbrev pub prop_given : ℕ → PropTree → Option Expr → List Given
  prop_given number prop None = []
  prop_given number prop (Some value) =
      record { name = prop.word.id; read = (expr_code tables (Some number) value).read } ∷ []

  abbrev pub first_values : ℕ → List PropTree → List Given
  first_values number props =
      flat_map (λ (prop : PropTree). prop_given number prop prop.value) props

  -- An initialiser: first values in order, then what its statements give.
  abbrev pub init_signed : ℕ → List PropTree → List ParamTree → List Given → Signature → List Body
  init_signed number props params givens func =
      for_some (slice_get tables.world.shapes number) (λ shape.
      signed func (map param_taken params)
      (init_code func.key.at number shape (first_values number props ++ givens)) ∷ [])

  unfoldable pub init_bodies : ℕ → List PropTree → InitTree → List Body
  init_bodies number props init =
      let code = block_code tables (Some number) init.body in
      for_some (func_at tables.world tables.answers init.at)
      (init_signed number props init.params code.gives) ++ code.inside

  -- the initialiser that a type has where it writes none
  unfoldable pub default_bodies : ℕ → List PropTree → Word → List Body
  default_bodies number props word =
      for_some (func_at tables.world tables.answers word.at) (init_signed number props [] [])

  abbrev pub inits_bodies : ℕ → List PropTree → Word → List InitTree → List Body
  inits_bodies number props word [] = default_bodies number props word
  inits_bodies number props word (init ∷ inits) =
      flat_map (init_bodies number props) (init ∷ inits)

  -- a getter
  abbrev pub getter : ℕ → List Taken → Ty → Code Operand → Body
  getter key takes ty read = record {
    key = key;
    getter = true;
    iso = iso_of (tables.isolation.body_at key);
    is_async = is_async_of (tables.isolation.body_at key);
    takes = takes;
    sends = false;
    result = ty;
    code = getter_code read;
  }

  abbrev pub part_getter : ℕ → ℕ → ℕ → Shape → Part → Body
  part_getter key number index shape part =
      getter key (self_by number shape ∷ []) part.ty (part_read key index part.ty)

  -- A `var` of an actor or of a class with a global actor has a getter.
  abbrev pub shape_getters : ℕ → ℕ → PropTree → Shape → List Body
  shape_getters number index prop shape =
      if prop.mutable && is_isolated (shape_iso shape)
      then for_some (slice_get shape.parts index) (λ part.
      part_getter prop.word.at number index shape part ∷ []) else []

  abbrev pub prop_getters : ℕ → ℕ → List PropTree → List Body
  prop_getters number index [] = []
  prop_getters number index (prop ∷ props) =
      for_some (slice_get tables.world.shapes number) (shape_getters number index prop)
      ++ prop_getters number (index + 1) props

  abbrev pub global_getter : ℕ → ℕ → GlobalVar → List Body
  global_getter key index global = for_some global.actor (λ actor.
      if global.mutable
      then getter key [] global.ty (stored_read key index global.ty) ∷ []
      else [])

  -- what gives a global variable its first value
  abbrev pub first_value : ℕ → ℕ → ExprCode → Body
  first_value key index value = record {
    key = key;
    getter = false;
    iso = iso_of (tables.isolation.body_at key);
    is_async = is_async_of (tables.isolation.body_at key);
    takes = [];
    sends = false;
    result = types.Unit;
    code = first_code key index value.read;
  }

  abbrev pub value_bodies : ℕ → ℕ → Option Expr → List Body
  value_bodies key index None = []
  value_bodies key index (Some value) =
      let code = expr_code tables None value in first_value key index code ∷ code.inside

  unfoldable pub global_bodies : ℕ → PropTree → List Body
  global_bodies index prop =
      value_bodies prop.word.at index prop.value
      ++ for_some (slice_get tables.world.globals index) (global_getter prop.word.at index)

  -- the bodies of a declaration, by the numbers of shapes and of global variables before it
  unfoldable pub decl_bodies : ℕ → ℕ → Decl → List Body
  decl_bodies number index (Entry word written at is_async body) = func_bodies at [] body
  decl_bodies number index (Struct word conforms fields funcs) = flat_map func_tree_bodies funcs
  decl_bodies number index (Enum word conforms cases funcs) = flat_map func_tree_bodies funcs
  decl_bodies number index (Class written word conforms props inits funcs) =
      prop_getters number 0 props
      ++ inits_bodies number props word inits ++ flat_map func_tree_bodies funcs
  decl_bodies number index (Actor word props inits funcs) =
      prop_getters number 0 props
      ++ inits_bodies number props word inits ++ flat_map func_tree_bodies funcs
  decl_bodies number index (GlobalActor word made) = []
  decl_bodies number index (Func func) = func_tree_bodies func
  decl_bodies number index (Global prop) = global_bodies index prop

  abbrev pub bodies_from : ℕ → ℕ → List Decl → List Body
  bodies_from number index [] = []
  bodies_from number index (decl ∷ decls) =
      decl_bodies number index decl
      ++ bodies_from (number + shapes_made decl) (index + globals_made decl) decls

-- the bodies of a program
abbrev pub program_bodies : Tables → List Decl → List Body
program_bodies tables decls = bodies_from tables 0 0 decls

-- Functions are in the order of their keys, a getter after what gives a first value.
abbrev pub order_of : Body → ℕ
order_of body = 2 * body.key + (if body.getter then 1 else 0)

abbrev pub global_kind : GlobalVar → GlobalKind
global_kind global =
    record { ty = global.ty; mutable = global.mutable; actor = global.actor }

abbrev pub entry_key : List Decl → Option ℕ
entry_key [] = None
entry_key (Entry word written at is_async body ∷ decls) = Some at
entry_key (_ ∷ decls) = entry_key decls

abbrev pub tables_of : World → Answers → Isolation → List Decl → Tables
tables_of world answers isolation decls = record {
  world = world;
  answers = answers;
  isolation = isolation;
  part_key = part_key_in decls;
}

-- the numbers of the functions of bodies in order
abbrev pub numbers_of : List Body → Numbers
numbers_of ordered = number_in (map name_of ordered)

-- the bodies of a program in the order of their keys
pub record AreOrdered (tables : Tables) (decls : List Decl) (ordered : List Body) : Type 0 where
  pub bodies : IsPermutation (program_bodies tables decls) ordered
  pub in_order : IsNonDecreasingBy order_of ordered

-- the functions of bodies in order
abbrev pub functions_of : List Body → List Function
functions_of ordered = map (function_of (numbers_of ordered)) ordered

-- the code of too many registers, and that of too many points alone
abbrev pub excess_code : Excess → ℕ
excess_code Registers = 510
excess_code Points = 511

abbrev pub placed_excess : ℕ → Option Excess → List Placed
placed_excess key None = []
placed_excess key (Some excess) = record { at = key; code = excess_code excess } ∷ []

-- the functions that are larger than those of a graph
abbrev pub too_large_in : List Function → List Placed
too_large_in functions =
    flat_map (λ (function : Function). placed_excess function.key (excess_of function)) functions

-- the first function of a program that is too large, by its key
abbrev pub IsFirstTooLarge : Tables → List Decl → Option Placed → Type 0
IsFirstTooLarge tables decls first = (ordered : List Body) × AreOrdered tables decls ordered
    × IsFirstPlaced (too_large_in (functions_of ordered)) first

-- Each body is found by its name.
abbrev pub AreNumbered : List Body → Type 0
AreNumbered ordered = (number : ℕ) (body : Body) → slice_get ordered number ≡ Some body
    → numbers_of ordered (name_of body) ≡ Some number

-- The code of each body runs to its end: it asks for nothing that isn't known, and its function
-- isn't too large.
abbrev pub AreMade : List Body → Type 0
AreMade ordered = All (λ (body : Body). IsOk (lower_body (numbers_of ordered) body)) ordered

-- The functions are those of a program: its bodies in the order of their keys, each as its plan
-- says. Each is found by its name, and its code runs to its end.
pub record HasFunctions (tables : Tables) (decls : List Decl) (functions : List Function)
    : Type 0 where
  pub ordered : List Body
  pub are_ordered : AreOrdered tables decls ordered
  pub are_those : functions ≡ functions_of ordered
  pub numbered : AreNumbered ordered
  pub made : AreMade ordered

-- The number is that of the function of the entry.
abbrev pub IsEntryNumber : List Decl → List Body → ℕ → Type 0
IsEntryNumber decls ordered entry =
    Some entry ≡ and_then (entry_key decls) (λ key. numbers_of ordered (plain key))

-- the numbers of the functions that give global variables their first values
abbrev pub starts_in : Numbers → List GlobalVar → List (Option ℕ)
starts_in number globals = map (λ (global : GlobalVar). number (plain global.key.at)) globals

-- The functions with these numbers give the global variables their first values, in order.
abbrev pub AreStarts : World → List Body → List ℕ → Type 0
AreStarts world ordered starts = map Some starts ≡ starts_in (numbers_of ordered) world.globals

-- Something is missing in a program with these bodies in order: a body's own name, something that
-- the code of a body asks for, a number of 32 bits for a block or for a function, the number of the
-- entry, or those of the functions that give global variables their first values.
pub data LacksIn (world : World) (decls : List Decl) (ordered : List Body) : Type 0 where
  lacks_names : ¬ (AreNumbered ordered) → LacksIn world decls ordered
  lacks_asked : (body : Body) → Contains ordered body
      → lower_body (numbers_of ordered) body ≡ Err Missing → LacksIn world decls ordered
  lacks_blocks : (body : Body) → Contains ordered body
      → HasManyBlocks (numbers_of ordered) body → LacksIn world decls ordered
  lacks_numbers : 2 ^ 32 ≤ length ordered → LacksIn world decls ordered
  lacks_entry : ¬ ((entry : ℕ) × IsEntryNumber decls ordered entry) → LacksIn world decls ordered
  lacks_starts : ¬ ((starts : List ℕ) × AreStarts world ordered starts)
      → LacksIn world decls ordered

-- Something is missing in a program. No program that was judged is so.
abbrev pub Lacks : Tables → List Decl → Type 0
Lacks tables decls = (ordered : List Body) × AreOrdered tables decls ordered
    × LacksIn tables.world decls ordered

-- The graph is that of a program.
pub record Lowered (world : World) (answers : Answers) (isolation : Isolation) (decls : List Decl)
    (graph : Graph) : Type 0 where
  pub ordered : List Body
  pub are_ordered : AreOrdered (tables_of world answers isolation decls) decls ordered
  pub shapes : graph.shapes ≡ world.shapes
  pub globals : graph.globals ≡ map global_kind world.globals
  pub functions : graph.functions ≡ functions_of ordered
  pub entry : IsEntryNumber decls ordered graph.entry
  pub starts : AreStarts world ordered graph.starts
