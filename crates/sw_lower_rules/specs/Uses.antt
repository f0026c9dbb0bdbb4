-- The code for what names mean: variables, properties, global variables, calls and what is made.
use Rattle.std.specs.Prelude.{ℕ, false, List, [], ◌∷◌, Option, Some}
use Rattle.std.specs.Prelude.{None, slice_get, if◌then◌else◌}
use Rattle.std.specs.Option.{option_map}
use Rattle.sw_types.specs.declared.isolation.Iso.TheVariants as iso
use Rattle.sw_types.specs.declared.isolation.CallKind.{CallKind}
use Rattle.sw_types.specs.declared.isolation.CallKind.TheVariants as kinds
use Rattle.sw_types.specs.declared.shape.Part.{Part}
use Rattle.sw_types.specs.declared.shape.Shape.{Shape}
use Rattle.sw_types.specs.declared.shape.ShapeKind.{ShapeKind}
use Rattle.sw_types.specs.declared.shape.ShapeKind.TheVariants as shapes
use Rattle.sw_types.specs.declared.ty.Ty.{Ty}
use Rattle.sw_types.specs.declared.ty.Ty.TheVariants as types
use Rattle.sw_graph.specs.declared.function.RegKind.TheVariants.{Plain}
use Rattle.sw_graph.specs.declared.instr.Instr.{Instr}
use Rattle.sw_graph.specs.declared.instr.Instr.TheVariants as instr
use Rattle.sw_graph.specs.declared.instr.Operand.{Operand}
use Rattle.sw_decls.specs.declared.signature.GlobalVar.{GlobalVar}
use Rattle.sw_decls.specs.declared.signature.Signature.{Signature}
use Rattle.sw_typing_rules.specs.Worlds.{item}
use Rattle.sw_typing_rules.specs.declared.row.Meaning.{Meaning}
use Rattle.sw_typing_rules.specs.declared.row.Meaning.TheVariants as means
use Rattle.sw_isolation_rules.specs.Uses.{maker_at, named_shape}
use Rattle.sw_isolation_rules.specs.declared.note.Capture.{Capture}
use Rattle.sw_lower_code.specs.Code.{Code, done, emit, known, number, reg, var, ◌>>=◌}
use Rattle.sw_lower_code.specs.Code.{◌>>◌}
use Rattle.sw_lower_plans.specs.declared.bound.Bound.{Bound}
use Rattle.sw_lower_rules.specs.Tables.{Tables, getter_of, plain}

abbrev pub operand : ℕ → ℕ → Operand
operand number at = record { reg = number; at = at }

-- no accepted program asks for this
abbrev pub no_operand : Operand
no_operand = operand 0 0

unfoldable pub unknown : Code Operand
unknown = known no_operand None

-- An instruction gives a value in a register that is made for it.
abbrev pub give : ℕ → Ty → (ℕ → Instr) → Code Operand
give at ty instr = reg (Plain ty) >>= λ number. emit (instr number) >> done (operand number at)

abbrev pub no_shape : Shape
no_shape = record {
  kind = shapes.Struct;
  at = 0;
  conforms = false;
  actor = None;
  parts = [];
  cases = [];
}

abbrev pub no_part : Part
no_part = record { name = 0; mutable = false; ty = types.Unit }

abbrev pub no_global : GlobalVar
no_global = record {
  key = record { at = 0; id = 0 };
  mutable = false;
  actor = None;
  ty = types.Unit;
}

abbrev pub no_func : Signature
no_func = record {
  key = record { at = 0; id = 0 };
  owner = None;
  iso = iso.Free;
  is_async = false;
  params = [];
  result = types.Unit;
  sends = false;
}

unfoldable pub write_bound : ℕ → Operand → Bound → Code (Unit {0})
write_bound at given bound =
    if bound.boxed then emit (instr.StoreBox at (operand bound.reg at) given)
    else emit (instr.Copy at bound.reg given)

unfoldable pub make_value : ℕ → ℕ → Option ℕ → List Operand → Code Operand
make_value at shape tag operands =
    give at (types.Named shape) (λ dst. instr.Make at dst shape tag operands)

module _ (tables : Tables) where
  -- the type of the expression or variable with a key
  unfoldable pub typed : ℕ → Code Ty
  typed key = known types.Unit (tables.answers.type_at key)

  unfoldable pub shape_at : ℕ → Code Shape
  shape_at number = known no_shape (slice_get tables.world.shapes number)

  -- the number of the declared type that an expression has
  unfoldable pub shape_of : ℕ → Code ℕ
  shape_of key = known 0 (named_shape (tables.answers.type_at key))

  -- A variable's value is in its register, or in its box.
  abbrev pub from_box : ℕ → Bound → Code Operand
  from_box at bound = typed bound.key
      >>= λ ty. give at ty (λ dst. instr.LoadBox at dst (operand bound.reg at))

  unfoldable pub read_bound : ℕ → Bound → Code Operand
  read_bound at bound = if bound.boxed then from_box at bound else done (operand bound.reg at)

  unfoldable pub read_var : ℕ → ℕ → Code Operand
  read_var at key = var key >>= read_bound at

  unfoldable pub write_var : ℕ → ℕ → Operand → Code (Unit {0})
  write_var at key given = var key >>= write_bound at given

  -- What another actor stores is read by a call of its getter.
  unfoldable pub call_getter : ℕ → CallKind → Ty → ℕ → List Operand → Code Operand
  call_getter at kind ty key operands = number (getter_of key)
      >>= λ function. give at ty (λ dst. instr.Call at dst kind function operands)

  abbrev pub part_by : Option CallKind → ℕ → ℕ → ℕ → Ty → Operand → Code Operand
  part_by None at shape number ty cell = give at ty (λ dst. instr.LoadProp at dst cell number)
  part_by (Some kind) at shape number ty cell = known 0 (tables.part_key shape number)
      >>= λ key. call_getter at kind ty key (cell ∷ [])

  abbrev pub part_in : ShapeKind → ℕ → ℕ → ℕ → Ty → Operand → Code Operand
  part_in shapes.Struct at shape number ty base =
      give at ty (λ dst. instr.Field at dst base number)
  part_in shapes.Enum at shape number ty base = unknown
  part_in shapes.Class at shape number ty base =
      part_by (tables.isolation.kind_at at) at shape number ty base
  part_in shapes.Actor at shape number ty base =
      part_by (tables.isolation.kind_at at) at shape number ty base

  unfoldable pub part_at : ℕ → Shape → Code Part
  part_at number shape = known no_part (slice_get shape.parts number)

  -- the property with a number of a value of the type with a number
  unfoldable pub read_part : ℕ → ℕ → ℕ → Operand → Code Operand
  read_part at shape number base = shape_at shape
      >>= λ s. part_at number s >>= λ part. part_in s.kind at shape number part.ty base

  abbrev pub global_by : Option CallKind → ℕ → ℕ → GlobalVar → Code Operand
  global_by None at number global = give at global.ty (λ dst. instr.LoadGlobal at dst number)
  global_by (Some kind) at number global = call_getter at kind global.ty global.key.at []

  unfoldable pub read_global : ℕ → ℕ → Code Operand
  read_global at number = known no_global (slice_get tables.world.globals number)
      >>= global_by (tables.isolation.kind_at at) at number

  -- the call of a function
  abbrev pub call_signature : ℕ → List Operand → Signature → Code Operand
  call_signature at operands func = number (plain func.key.at)
      >>= λ function. known kinds.Plain (tables.isolation.kind_at at)
      >>= λ kind. give at func.result (λ dst. instr.Call at dst kind function operands)

  unfoldable pub call_func : ℕ → ℕ → List Operand → Code Operand
  call_func at number operands = known no_func (slice_get tables.world.funcs number)
      >>= call_signature at operands

  -- the call of a closure
  unfoldable pub call_closure : ℕ → Operand → List Operand → Code Operand
  call_closure at closure operands = typed at
      >>= λ ty. give at ty (λ dst. instr.CallClosure at dst closure operands)

  -- An object or an actor is made by a call of its initialiser.
  abbrev pub make_by : ShapeKind → ℕ → ℕ → List Operand → Code Operand
  make_by shapes.Struct at shape operands = make_value at shape None operands
  make_by shapes.Enum at shape operands = unknown
  make_by shapes.Class at shape operands = known no_func (maker_at tables.world shape)
      >>= call_signature at operands
  make_by shapes.Actor at shape operands = known no_func (maker_at tables.world shape)
      >>= call_signature at operands

  unfoldable pub make : ℕ → ℕ → List Operand → Code Operand
  make at shape operands = shape_at shape >>= λ s. make_by s.kind at shape operands

  -- A captured variable goes into a closure with its box, or by its value; one in a box that the
  -- closure lists is read where the closure is made. No accepted program captures by reference what
  -- is in no box.
  abbrev pub listed_value : ℕ → Capture → Bound → Code Operand
  listed_value at capture bound = typed bound.key
      >>= λ ty. reg (Plain ty)
      >>= λ dst. emit (instr.LoadBox at dst (operand bound.reg capture.first))
      >> done (operand dst capture.first)

  unfoldable pub capture_bound : ℕ → Capture → Bound → Code Operand
  capture_bound at capture bound =
      if capture.by_ref then
      (if bound.boxed then done (operand bound.reg capture.first) else unknown)
      else (if bound.boxed then listed_value at capture bound
      else done (operand bound.reg capture.first))

  unfoldable pub capture : ℕ → Capture → Code Operand
  capture at one = var one.variable >>= capture_bound at one

  -- in a member of the type with a number
  module _ (owner : Option ℕ) where
    -- `self` is the variable whose declaration is the word of the type around.
    unfoldable pub self_key : Option ℕ
    self_key = option_map (λ (shape : Shape). shape.at) (item owner tables.world.shapes)

    unfoldable pub read_self : ℕ → Code Operand
    read_self at = known 0 self_key >>= λ key. read_var at key

    -- a property of `self`, which is left out
    unfoldable pub read_own : ℕ → ℕ → Code Operand
    read_own at number = read_self at
        >>= λ me. known 0 owner >>= λ shape. read_part at shape number me

    -- what a word means
    abbrev pub word_by : ℕ → Option Meaning → Code Operand
    word_by at None = unknown
    word_by at (Some (means.Local variable)) = read_var at variable
    word_by at (Some (means.OwnPart number)) = read_own at number
    word_by at (Some (means.OwnFunc number)) = unknown
    word_by at (Some (means.GlobalOf number)) = read_global at number
    word_by at (Some (means.FuncOf number)) = unknown
    word_by at (Some (means.MakeOf shape)) = unknown
    word_by at (Some (means.CaseOf shape number)) = unknown
    word_by at (Some (means.PartOf number)) = unknown
    word_by at (Some means.Print) = unknown
    word_by at (Some means.TaskValue) = unknown

    unfoldable pub read_word : ℕ → Code Operand
    read_word at = word_by at (tables.answers.meaning_at at)
