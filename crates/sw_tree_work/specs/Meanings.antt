-- The work of names, by what they mean: variables, properties, global variables, calls, and what is
-- made.
use Rattle.std.specs.Prelude.{ℕ, ◌+◌, List, Option, Some, None, slice_get, length}
use Rattle.sw_types.specs.declared.isolation.CallKind.{CallKind}
use Rattle.sw_types.specs.declared.shape.ShapeKind.{ShapeKind}
use Rattle.sw_types.specs.declared.shape.ShapeKind.TheVariants as shapes
use Rattle.sw_decls.specs.declared.signature.Signature.{Signature}
use Rattle.sw_typing_rules.specs.declared.row.Meaning.{Meaning}
use Rattle.sw_typing_rules.specs.declared.row.Meaning.TheVariants as means
use Rattle.sw_isolation_rules.specs.Uses.{maker_at, named_shape}
use Rattle.sw_tree_work.specs.Facts.{Facts, self_key}
use Rattle.sw_tree_work.specs.Forms.{ExprWork, all_in_order, for_known, unknown, value_at}
use Rattle.sw_tree_work.specs.Work.{Await, Before, Call, CallClosure, Field, Function, GlobalGetter}
use Rattle.sw_tree_work.specs.Work.{Keep, LoadGlobal, LoadPart, Make, PartGetter, Print, Read}
use Rattle.sw_tree_work.specs.Work.{SetField, Store, StoreGlobal, StorePart, Then, Unknown}

-- A closure is called with arguments: the closure comes first, then the arguments in order.
abbrev pub call_closure : ℕ → Before → List Before → Before
call_closure at closure args rest =
    closure (all_in_order args (Then (CallClosure at (length args)) rest))

module _ (facts : Facts) where
  -- The part of a value. What another actor stores is read by a call of its getter, which takes the
  -- actor.
  abbrev pub stored_part : Option CallKind → ℕ → ℕ → ℕ → Before
  stored_part None at shape number = Then (LoadPart number)
  stored_part (Some kind) at shape number = Then (Call at kind (PartGetter shape number) 1)

  abbrev pub part_of_kind : ShapeKind → ℕ → ℕ → ℕ → Before
  part_of_kind shapes.Struct at shape number = Then (Field number)
  part_of_kind shapes.Enum at shape number = unknown
  part_of_kind shapes.Class at shape number = stored_part (facts.kind_at at) at shape number
  part_of_kind shapes.Actor at shape number = stored_part (facts.kind_at at) at shape number

  abbrev pub read_part : ℕ → ℕ → ℕ → Before
  read_part at shape number = for_known (slice_get facts.world.shapes shape)
      (λ s. part_of_kind s.kind at shape number)

  -- The newest temporary goes into a part of an object; or into that part of a copy of a struct, and
  -- the copy is assigned to what has the struct.
  abbrev pub write_part_of : ShapeKind → ℕ → ExprWork → Before
  write_part_of shapes.Struct number base rest =
      base.read (Then Keep (Then (SetField number) (base.write rest)))
  write_part_of shapes.Enum number base rest = Unknown
  write_part_of shapes.Class number base rest = base.read (Then (StorePart number) rest)
  write_part_of shapes.Actor number base rest = base.read (Then (StorePart number) rest)

  abbrev pub write_part : ℕ → ℕ → ExprWork → Before
  write_part shape number base = for_known (slice_get facts.world.shapes shape)
      (λ s. write_part_of s.kind number base)

  -- a global variable: one of another actor is read by a call of its getter
  abbrev pub read_global_by : Option CallKind → ℕ → ℕ → Before
  read_global_by None at number = Then (LoadGlobal number)
  read_global_by (Some kind) at number = Then (Call at kind (GlobalGetter number) 0)

  abbrev pub read_global : ℕ → ℕ → Before
  read_global at number = read_global_by (facts.kind_at at) at number

  -- the call of a function with so many arguments
  abbrev pub call_signature : ℕ → ℕ → Signature → Before
  call_signature at count func = for_known (facts.kind_at at)
      (λ kind. Then (Call at kind (Function func.key.at) count))

  abbrev pub call_func : ℕ → ℕ → ℕ → Before
  call_func at number count =
      for_known (slice_get facts.world.funcs number) (call_signature at count)

  -- a struct of its parts; an object or an actor is made by a call of its initialiser
  abbrev pub make_of_kind : ShapeKind → ℕ → ℕ → ℕ → Before
  make_of_kind shapes.Struct at shape count = Then (Make None count)
  make_of_kind shapes.Enum at shape count = unknown
  make_of_kind shapes.Class at shape count =
      for_known (maker_at facts.world shape) (call_signature at count)
  make_of_kind shapes.Actor at shape count =
      for_known (maker_at facts.world shape) (call_signature at count)

  abbrev pub make : ℕ → ℕ → ℕ → Before
  make at shape count = for_known (slice_get facts.world.shapes shape)
      (λ s. make_of_kind s.kind at shape count)

  -- in a member of the type with a number, if there is a type around
  module _ (owner : Option ℕ) where
    abbrev pub read_self : Before
    read_self = for_known (self_key facts owner) (λ key. Then (Read key))

    -- a property of `self`, which is left out
    abbrev pub read_own : ℕ → ℕ → Before
    read_own at number rest =
        read_self (for_known owner (λ shape. read_part at shape number) rest)

    abbrev pub write_own : ℕ → ℕ → Before
    write_own at number = for_known owner
        (λ shape. write_part shape number (value_at at read_self))

    -- a word
    abbrev pub word_read : ℕ → Option Meaning → Before
    word_read at (Some (means.Local variable)) = Then (Read variable)
    word_read at (Some (means.OwnPart number)) = read_own at number
    word_read at (Some (means.GlobalOf number)) = read_global at number
    word_read at _ = unknown

    abbrev pub word_write : ℕ → Option Meaning → Before
    word_write at (Some (means.Local variable)) = Then (Store variable)
    word_write at (Some (means.OwnPart number)) = write_own at number
    word_write at (Some (means.GlobalOf number)) = Then (StoreGlobal number)
    word_write at _ = unknown

    -- A member of the value before the `.`. The word of an enum before a case has no value.
    abbrev pub shape_of : ExprWork → (ℕ → Before) → Before
    shape_of base = for_known (named_shape (facts.answers.type_at base.key))

    abbrev pub part_of_base : ℕ → ExprWork → ℕ → Before
    part_of_base at base number rest =
        base.read (shape_of base (λ shape. read_part at shape number) rest)

    abbrev pub task_value : ExprWork → Before
    task_value base rest = base.read (Then Await rest)

    abbrev pub member_read : ℕ → ExprWork → Option Meaning → Before
    member_read at base (Some (means.CaseOf shape number)) = Then (Make (Some number) 0)
    member_read at base (Some (means.PartOf number)) = part_of_base at base number
    member_read at base (Some means.TaskValue) = task_value base
    member_read at base _ = unknown

    abbrev pub member_write : ExprWork → Option Meaning → Before
    member_write base (Some (means.PartOf number)) =
        shape_of base (λ shape. write_part shape number base)
    member_write base _ = unknown

    -- A call. What holds a closure, or the receiver of a method, comes first, then the arguments in
    -- order, then the call.
    abbrev pub call_method : ℕ → Before → ℕ → List Before → Before
    call_method at receiver number args rest =
        receiver (all_in_order args (call_func at number (1 + length args) rest))

    abbrev pub call_read : ℕ → List Before → Option Meaning → Before
    call_read at args (Some (means.Local variable)) =
        call_closure at (Then (Read variable)) args
    call_read at args (Some (means.OwnPart number)) = call_closure at (read_own at number) args
    call_read at args (Some (means.GlobalOf number)) =
        call_closure at (read_global at number) args
    call_read at args (Some (means.OwnFunc number)) = call_method at read_self number args
    call_read at args (Some (means.FuncOf number)) =
        λ rest. all_in_order args (call_func at number (length args) rest)
    call_read at args (Some (means.MakeOf shape)) =
        λ rest. all_in_order args (make at shape (length args) rest)
    call_read at args (Some means.Print) =
        λ rest. all_in_order args (Then (Print (length args)) rest)
    call_read at args _ = unknown

    abbrev pub method_read : ℕ → ExprWork → List Before → Option Meaning → Before
    method_read at base args (Some (means.FuncOf number)) = call_method at base.read number args
    method_read at base args (Some (means.CaseOf shape number)) =
        λ rest. all_in_order args (Then (Make (Some number) (length args)) rest)
    method_read at base args (Some (means.PartOf number)) =
        call_closure at (part_of_base at base number) args
    method_read at base args _ = unknown
