-- What the code of bodies stands on: what the tables of a program and the functions of its graph
-- have in common, and what is known of the variables that are seen.
use Rattle.std.specs.Prelude.{◌≡◌, ℕ, ◌<◌, ◌⊎◌, Bool, true, false, IsTrue, List, [], ◌∷◌, Option}
use Rattle.std.specs.Prelude.{Some, None, All, length, map, slice_get, if◌then◌else◌}
use Rattle.std.specs.Option.{option_map_or}
use Rattle.sw_types.specs.Named.{is_within}
use Rattle.sw_types.specs.declared.shape.Part.{Part}
use Rattle.sw_types.specs.declared.shape.Shape.{Shape}
use Rattle.sw_types.specs.declared.ty.Ty.{Ty}
use Rattle.sw_types.specs.declared.ty.Ty.TheVariants as types
use Rattle.sw_graph.specs.Kinds.{taken}
use Rattle.sw_graph.specs.declared.function.Function.{Function}
use Rattle.sw_graph.specs.declared.function.RegKind.{RegKind}
use Rattle.sw_graph.specs.declared.function.RegKind.TheVariants.{BoxOf, Plain}
use Rattle.sw_decl_words.specs.declared.members.Member.{Member}
use Rattle.sw_decl_words.specs.declared.members.Role.TheVariants.{Method}
use Rattle.sw_decl_words.specs.declared.words.Meaning.TheVariants.{Func}
use Rattle.sw_decls.specs.declared.signature.GlobalVar.{GlobalVar}
use Rattle.sw_decls.specs.declared.signature.Param.{Param}
use Rattle.sw_decls.specs.declared.signature.Signature.{Signature}
use Rattle.sw_isolation_rules.specs.Captures.{is_among, self_of}
use Rattle.sw_isolation_rules.specs.Uses.{maker_at}
use Rattle.sw_lower_plans.specs.Plan.{Numbers}
use Rattle.sw_lower_plans.specs.declared.bound.Bound.{Bound}
use Rattle.sw_lower_rules.specs.Bodies.{global_kind}
use Rattle.sw_lower_rules.specs.Tables.{Tables, getter_of, plain}
use Rattle.sw_lower_formed_facts.specs.Safe.{Position, here}
use Rattle.sw_lower_formed_facts.specs.Whole.{IsSet, Whole}

-- The types that a type names are declared.
abbrev pub IsDeclaredIn : Tables → Ty → Type 0
IsDeclaredIn tables ty = IsTrue (is_within (length tables.world.shapes) ty)

-- The function with a number takes registers of these kinds and gives this type.
pub record IsHeader (functions : List Function) (takes : List RegKind) (result : Ty) (f : ℕ)
    : Type 0 where
  pub function : Function
  pub at : slice_get functions f ≡ Some function
  pub takes_these : taken function ≡ takes
  pub gives : function.result ≡ result

-- the kinds of the registers that a function takes for its parameters
abbrev pub params_of : Signature → List RegKind
params_of func = map (λ (param : Param). Plain param.ty) func.params

-- What the tables of a program, the numbers of its functions and the functions have in common.
pub record Ground (tables : Tables) (number : Numbers) (functions : List Function) : Type 0 where
  -- the types of nodes, properties, results and global variables are declared
  pub typed : (key : ℕ) (ty : Ty) → tables.answers.type_at key ≡ Some ty → IsDeclaredIn tables ty
  pub parts : (k i : ℕ) (shape : Shape) (part : Part)
      → slice_get tables.world.shapes k ≡ Some shape → slice_get shape.parts i ≡ Some part
      → IsDeclaredIn tables part.ty
  pub results : (n : ℕ) (func : Signature) → slice_get tables.world.funcs n ≡ Some func
      → IsDeclaredIn tables func.result
  pub global_types : (g : ℕ) (global : GlobalVar)
      → slice_get tables.world.globals g ≡ Some global → IsDeclaredIn tables global.ty
  -- the word of a declared type, which stands for `self`, has no type of its own
  pub selves : (k : ℕ) (shape : Shape) → slice_get tables.world.shapes k ≡ Some shape
      → tables.answers.type_at shape.at ≡ None
  -- functions, methods, initialisers and getters are found by their names
  pub funcs : (id key n f : ℕ) (func : Signature) → tables.world.known.top id ≡ Some (Func key)
      → tables.world.numbers key ≡ Some n → slice_get tables.world.funcs n ≡ Some func
      → number (plain func.key.at) ≡ Some f → IsHeader functions (params_of func) func.result f
  pub methods : (k id n f : ℕ) (member : Member) (func : Signature)
      → tables.world.known.members k id ≡ Some member → member.role ≡ Method
      → tables.world.numbers member.word.at ≡ Some n
      → slice_get tables.world.funcs n ≡ Some func → number (plain func.key.at) ≡ Some f
      → IsHeader functions (Plain (types.Named k) ∷ params_of func) func.result f
  pub makers : (k f : ℕ) (func : Signature) → maker_at tables.world k ≡ Some func
      → number (plain func.key.at) ≡ Some f → IsHeader functions (params_of func) func.result f
  pub part_getters : (k i key f : ℕ) (shape : Shape) (part : Part)
      → tables.part_key k i ≡ Some key → number (getter_of key) ≡ Some f
      → slice_get tables.world.shapes k ≡ Some shape → slice_get shape.parts i ≡ Some part
      → IsHeader functions (Plain (types.Named k) ∷ []) part.ty f
  pub global_getters : (g f : ℕ) (global : GlobalVar)
      → slice_get tables.world.globals g ≡ Some global
      → number (getter_of global.key.at) ≡ Some f → IsHeader functions [] global.ty f

-- The type of a variable: `self` has the type around, and each other variable that of its node.
abbrev pub HasVarType : Tables → Option ℕ → ℕ → Ty → Type 0
HasVarType tables owner key ty =
    ((is_among (self_of tables.world owner) key ≡ true)
    × (ty ≡ option_map_or types.Named owner types.Unit))
    ⊎ ((is_among (self_of tables.world owner) key ≡ false)
    × (tables.answers.type_at key ≡ Some ty))

-- the kind of the register of a variable, by whether it is boxed
abbrev pub kind_by : Bool → Ty → RegKind
kind_by boxed ty = if boxed then BoxOf ty else Plain ty

-- A variable that is seen has a value of its type, or is a box of that type.
pub record IsSeen (tables : Tables) (owner : Option ℕ) (w : Whole) (q : Position) (bound : Bound)
    : Type 0 where
  pub ty : Ty
  pub typed : HasVarType tables owner bound.key ty
  pub kind : slice_get w.regs bound.reg ≡ Some (kind_by bound.boxed ty)
  pub set : IsSet w q.writes (here q) bound.reg
  pub made : bound.reg < length q.making.made.regs

-- What is known where code stands in a member of the type `owner`: the variables, and the numbers
-- of functions.
pub record Knows (tables : Tables) (owner : Option ℕ) (number : Numbers) (w : Whole) (q : Position)
    : Type 0 where
  pub vars : All (IsSeen tables owner w q) q.making.vars
  pub numbers : q.making.number ≡ number

-- The function is one of the graph of these tables.
pub record IsOfGraph (tables : Tables) (functions : List Function) (w : Whole) : Type 0 where
  pub shapes : w.shapes ≡ tables.world.shapes
  pub globals : w.globals ≡ map global_kind tables.world.globals
  pub functions_are : w.functions ≡ functions
