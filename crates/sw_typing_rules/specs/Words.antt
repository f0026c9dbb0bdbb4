-- What a word means where it stands, and what a name means after a `.`.
use Rattle.std.specs.Prelude.{ℕ, Bool, false, ◌&&◌, ◌||◌, ◌==◌, List, Option, Some, None, fold}
use Rattle.std.specs.Prelude.{slice_get, if◌then◌else◌}
use Rattle.sw_types.specs.declared.shape.Part.{Part}
use Rattle.sw_types.specs.declared.ty.Ty.{Ty, out-Ty}
use Rattle.sw_types.specs.declared.ty.Ty.TheOpen as layer
use Rattle.sw_types.specs.declared.ty.Ty.TheVariants as types
use Rattle.sw_tree.specs.Names.{print_id, value_id}
use Rattle.sw_decl_words.specs.Evident.{enum_of}
use Rattle.sw_decl_words.specs.declared.members.Member.{Member}
use Rattle.sw_decl_words.specs.declared.members.Role.{Role}
use Rattle.sw_decl_words.specs.declared.members.Role.TheVariants as role
use Rattle.sw_decl_words.specs.declared.words.Meaning as words
use Rattle.sw_decl_words.specs.declared.words.Meaning.TheVariants as word
use Rattle.sw_decls.specs.declared.signature.GlobalVar.{GlobalVar}
use Rattle.sw_typing_rules.specs.declared.verdict.Verdict.{Verdict}
use Rattle.sw_typing_rules.specs.declared.verdict.Verdict.TheVariants.{Has, Fails, Held}
use Rattle.sw_typing_rules.specs.Worlds.{World, part_at, is_object}
use Rattle.sw_typing_rules.specs.declared.found.Found.{Found}
use Rattle.sw_typing_rules.specs.declared.found.Found.TheVariants.{Property, Method, Result}
use Rattle.sw_typing_rules.specs.declared.found.Found.TheVariants.{NoMember}
use Rattle.sw_typing_rules.specs.declared.row.Meaning.{Meaning}
use Rattle.sw_typing_rules.specs.declared.row.Meaning.TheVariants as means
use Rattle.sw_typing_rules.specs.declared.scope.Var.{Var}

-- where an expression stands: the type whose member it is in, by number, and the variables that are
-- visible, the innermost last
pub record Setting : Type 0 where
  pub owner : Option ℕ
  pub vars : List Var

-- the innermost visible variable, parameter, pattern or listed capture of this name; of two in one
-- scope, which no program has that keeps the rules on declarations (E301), the later
abbrev pub local : List Var → ℕ → Option Var
local vars id = fold (λ found (one : Var). if one.name == id then Some one else found) None vars

-- what a word means
pub data Sense : Type 0 where
  Variable : Var → Sense
  -- a member of the type around: its shape, and the number of the property
  OwnProperty : ℕ → ℕ → Sense
  -- a method of the type around, by its key
  OwnMethod : ℕ → Sense
  -- a case of the enum around
  OwnCase : Sense
  -- what the word means at top level
  Top : words.Meaning → Sense
  Printing : Sense
  Nothing : Sense

abbrev pub role_sense : ℕ → ℕ → Role → Sense
role_sense shape at (role.Part number) = OwnProperty shape number
role_sense shape at (role.Case number) = OwnCase
role_sense shape at role.Method = OwnMethod at

abbrev pub own_sense : ℕ → Member → Sense
own_sense shape member = role_sense shape member.word.at member.role

-- a word with no other sense: what its name means at top level, or `print`
abbrev pub top_sense : Option words.Meaning → ℕ → Sense
top_sense None id = if id == print_id then Printing else Nothing
top_sense (Some meaning) id = Top meaning

abbrev pub member_sense : Option ℕ → Option Member → Sense → Sense
member_sense None member other = other
member_sense (Some shape) None other = other
member_sense (Some shape) (Some member) other = own_sense shape member

abbrev pub local_sense : Option Var → Sense → Sense
local_sense None other = other
local_sense (Some variable) other = Variable variable

abbrev pub var_types : Option Ty → Verdict
var_types None = Held
var_types (Some ty) = Has ty

abbrev pub part_types : Option Part → ℕ → Verdict
part_types None code = Fails code
part_types (Some part) code = Has part.ty

abbrev pub global_types : Option GlobalVar → Verdict
global_types None = Fails 401
global_types (Some global) = Has global.ty

abbrev pub is_var_part : Option Part → Bool
is_var_part None = false
is_var_part (Some part) = part.mutable

abbrev pub is_var_global : Option GlobalVar → Bool
is_var_global None = false
is_var_global (Some global) = global.mutable

abbrev pub role_found : ℕ → ℕ → Role → Found
role_found shape at (role.Part number) = Property shape number
role_found shape at (role.Case number) = NoMember
role_found shape at role.Method = Method at

abbrev pub member_found : ℕ → Option Member → Found
member_found shape None = NoMember
member_found shape (Some member) = role_found shape member.word.at member.role

abbrev pub me_types : Option ℕ → Verdict
me_types None = Fails 401
me_types (Some shape) = Has (types.Named shape)

module _ (world : World) where
  -- the member with this name of the type around, if there is such a type and such a member
  abbrev pub owned : Option ℕ → ℕ → Option Member
  owned None id = None
  owned (Some shape) id = world.known.members shape id

  -- The sense of a word: the innermost visible variable of its name; else the member of that name
  -- of the type around; else what the name means at top level; else `print`, where that is the
  -- name.
  abbrev pub sense : Setting → ℕ → Sense
  sense setting id =
      local_sense (local setting.vars id)
      (member_sense setting.owner (owned setting.owner id) (top_sense (world.known.top id) id))

  -- The type of a word that means something at top level. Only a global variable has one: a type, a
  -- function or an entry is no value (E401).
  abbrev pub top_types : words.Meaning → Verdict
  top_types (word.Shape kind number) = Fails 401
  top_types (word.GlobalActor number) = Fails 401
  top_types (word.Func key) = Fails 401
  top_types (word.Global number) = global_types (slice_get world.globals number)
  top_types word.Entry = Fails 401

  -- The type of a word by its sense. What is no variable, property or global variable is no value
  -- (E401).
  abbrev pub word_types : Sense → Verdict
  word_types (Variable variable) = var_types variable.ty
  word_types (OwnProperty shape number) = part_types (part_at world shape number) 401
  word_types (OwnMethod key) = Fails 401
  word_types OwnCase = Fails 401
  word_types (Top meaning) = top_types meaning
  word_types Printing = Fails 401
  word_types Nothing = Fails 401

  -- whether what a word means at top level can be assigned: a global `var`
  abbrev pub top_settable : words.Meaning → Bool
  top_settable (word.Shape kind number) = false
  top_settable (word.GlobalActor number) = false
  top_settable (word.Func key) = false
  top_settable (word.Global number) = is_var_global (slice_get world.globals number)
  top_settable word.Entry = false

  -- Whether a word can be assigned, by its sense: a variable that is a `var`, a global `var`, or a
  -- `var` of the class or actor around. One of the struct around can't, since `self` is no
  -- variable.
  abbrev pub word_settable : Sense → Bool
  word_settable (Variable variable) = variable.mutable
  word_settable (OwnProperty shape number) =
      is_object world shape && is_var_part (part_at world shape number)
  word_settable (OwnMethod key) = false
  word_settable OwnCase = false
  word_settable (Top meaning) = top_settable meaning
  word_settable Printing = false
  word_settable Nothing = false

  -- What a name means after the `.` of a value, by the outermost form of the value's type: a member
  -- of a declared type, or `value` of a task.
  abbrev pub found_layer : layer.Ty-F Ty → ℕ → Found
  found_layer layer.Int id = NoMember
  found_layer layer.Bool id = NoMember
  found_layer layer.Unit id = NoMember
  found_layer (layer.Named shape) id = member_found shape (world.known.members shape id)
  found_layer (layer.Func marked params result) id = NoMember
  found_layer (layer.Task inner) id = if id == value_id then Result inner else NoMember

  abbrev pub found_in : Ty → ℕ → Found
  found_in ty id = found_layer (out-Ty ty) id

  abbrev pub found_types : Found → Verdict
  found_types (Property shape number) = part_types (part_at world shape number) 407
  found_types (Method key) = Fails 407
  found_types (Result ty) = Has ty
  found_types NoMember = Fails 407

  -- A `var` of a class or an actor can be assigned, and one of a struct where the struct can.
  abbrev pub found_settable : Bool → Found → Bool
  found_settable base (Property shape number) =
      (is_object world shape || base) && is_var_part (part_at world shape number)
  found_settable base (Method key) = false
  found_settable base (Result ty) = false
  found_settable base NoMember = false

-- the meaning of a word that is read and means something at top level: a global variable has one
abbrev pub top_meaning : words.Meaning → Option Meaning
top_meaning (word.Shape kind number) = None
top_meaning (word.GlobalActor number) = None
top_meaning (word.Func key) = None
top_meaning (word.Global number) = Some (means.GlobalOf number)
top_meaning word.Entry = None

-- the meaning of a word that is read, by its sense; none where it is no value
abbrev pub word_meaning : Sense → Option Meaning
word_meaning (Variable variable) = Some (means.Local variable.at)
word_meaning (OwnProperty shape number) = Some (means.OwnPart number)
word_meaning (OwnMethod key) = None
word_meaning OwnCase = None
word_meaning (Top meaning) = top_meaning meaning
word_meaning Printing = None
word_meaning Nothing = None

-- the enum that a word names; before a `.` it is no node then
abbrev pub word_enum : Sense → Option ℕ
word_enum (Variable variable) = None
word_enum (OwnProperty shape number) = None
word_enum (OwnMethod key) = None
word_enum OwnCase = None
word_enum (Top meaning) = enum_of (Some meaning)
word_enum Printing = None
word_enum Nothing = None

-- what a member that is read means
abbrev pub found_meaning : Found → Option Meaning
found_meaning (Property shape number) = Some (means.PartOf number)
found_meaning (Method key) = None
found_meaning (Result ty) = Some means.TaskValue
found_meaning NoMember = None
