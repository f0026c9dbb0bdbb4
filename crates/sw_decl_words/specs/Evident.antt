-- What words mean in the values of a type, and types that are evident from a first value.
use Rattle.std.specs.Prelude.{ℕ, Bool, true, false, List, Option, Some, None, is_some, nat_eq}
use Rattle.std.specs.Prelude.{if◌then◌else◌}
use Rattle.indexmap.specs.IndexMap.{get}
use Rattle.sw_tree.specs.declared.decl.Decl.{Decl}
use Rattle.sw_tree.specs.declared.expr.Arg.{Arg}
use Rattle.sw_tree.specs.declared.expr.Closure.{Closure}
use Rattle.sw_tree.specs.declared.expr.Expr.{Expr, out-Expr}
use Rattle.sw_tree.specs.declared.expr.Expr.TheOpen as layer
use Rattle.sw_tree.specs.declared.expr.Link.{Link}
use Rattle.sw_tree.specs.declared.stmt.Block.{Block}
use Rattle.sw_tree.specs.declared.stmt.CaseArm.{CaseArm}
use Rattle.sw_tree.specs.declared.stmt.IfArm.{IfArm}
use Rattle.sw_tree.specs.declared.stmt.Stmt.{Stmt}
use Rattle.sw_types.specs.declared.shape.ShapeKind.TheVariants as kind
use Rattle.sw_types.specs.declared.ty.Ty.{Ty}
use Rattle.sw_types.specs.declared.ty.Ty.TheVariants as types
use Rattle.sw_decl_words.specs.Members.{member_at, member_of}
use Rattle.sw_decl_words.specs.Words.{top_meaning}
use Rattle.sw_decl_words.specs.declared.members.Member.{Member}
use Rattle.sw_decl_words.specs.declared.members.Members.{Members}
use Rattle.sw_decl_words.specs.declared.members.Role.{Role}
use Rattle.sw_decl_words.specs.declared.members.Role.TheVariants as role
use Rattle.sw_decl_words.specs.declared.words.Meaning.{Meaning}
use Rattle.sw_decl_words.specs.declared.words.Meaning.TheVariants as means
use Rattle.sw_decl_words.specs.declared.words.Words.{Words}

-- what words mean: at top level, and as the members of a type by its number
pub record Meanings : Type 0 where
  pub top : ℕ → Option Meaning
  pub members : ℕ → ℕ → Option Member

-- what the words of a program mean
abbrev pub meanings_of : List Decl → Meanings
meanings_of decls = record { top = top_meaning decls; members = member_of decls }

-- what words mean by two tables
abbrev pub tabled : Words → Members → Meanings
tabled words members = record { top = get nat_eq words.meanings; members = member_at members }

-- a struct, a class or an actor is made by its name
abbrev pub made_type : Option Meaning → Option Ty
made_type None = None
made_type (Some (means.Shape kind.Struct number)) = Some (types.Named number)
made_type (Some (means.Shape kind.Enum number)) = None
made_type (Some (means.Shape kind.Class number)) = Some (types.Named number)
made_type (Some (means.Shape kind.Actor number)) = Some (types.Named number)
made_type (Some (means.GlobalActor number)) = None
made_type (Some (means.Func at)) = None
made_type (Some (means.Global number)) = None
made_type (Some means.Entry) = None

-- the enum that a word names
abbrev pub enum_of : Option Meaning → Option ℕ
enum_of None = None
enum_of (Some (means.Shape kind.Struct number)) = None
enum_of (Some (means.Shape kind.Enum number)) = Some number
enum_of (Some (means.Shape kind.Class number)) = None
enum_of (Some (means.Shape kind.Actor number)) = None
enum_of (Some (means.GlobalActor number)) = None
enum_of (Some (means.Func at)) = None
enum_of (Some (means.Global number)) = None
enum_of (Some means.Entry) = None

abbrev pub is_case_role : Role → Bool
is_case_role (role.Part number) = false
is_case_role (role.Case number) = true
is_case_role role.Method = false

abbrev pub is_case : Option Member → Bool
is_case None = false
is_case (Some member) = is_case_role member.role

abbrev pub Layer : Type 0
Layer = layer.Expr-F Expr Stmt Arg Closure Link Block CaseArm IfArm

module _ (known : Meanings) where
  -- whether a type has a member of this name; at top level there is no type
  abbrev pub hides : Option ℕ → ℕ → Bool
  hides None word = false
  hides (Some shape) word = is_some (known.members shape word)

  -- What a word means in a value inside a type: a member hides what the top level has.
  abbrev pub seen : Option ℕ → ℕ → Option Meaning
  seen owner word = if hides owner word then None else known.top word

  -- an enum is made by one of its cases
  abbrev pub case_type : Option ℕ → ℕ → Option Ty
  case_type None word = None
  case_type (Some number) word =
      if is_case (known.members number word) then Some (types.Named number) else None

  abbrev pub base_layer : Option ℕ → Layer → Option ℕ
  base_layer owner (layer.Use name) = enum_of (seen owner name.id)
  base_layer owner _ = None

  -- the enum that an expression before a `.` names
  abbrev pub base_enum : Option ℕ → Expr → Option ℕ
  base_enum owner base = base_layer owner (out-Expr base)

  abbrev pub evident_layer : Option ℕ → Layer → Option Ty
  evident_layer owner (layer.Int at value) = Some types.Int
  evident_layer owner (layer.Bool at value) = Some types.Bool
  evident_layer owner (layer.Call name args) = made_type (seen owner name.id)
  evident_layer owner (layer.Member base name) = case_type (base_enum owner base) name.id
  evident_layer owner (layer.Method base name args) = case_type (base_enum owner base) name.id
  evident_layer owner _ = None

  -- the type of a literal, of a call of a struct, class or actor by its name, or of an enum's case
  abbrev pub evident : Option ℕ → Expr → Option Ty
  evident owner value = evident_layer owner (out-Expr value)

  -- the type that is evident from a first value, if there is one
  abbrev pub evident_type : Option ℕ → Option Expr → Option Ty
  evident_type owner None = None
  evident_type owner (Some value) = evident owner value
