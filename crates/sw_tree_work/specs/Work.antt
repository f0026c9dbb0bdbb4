-- What a body still has to do, as a machine over the written tree takes it: acts in order, and the
-- ways on which they go on.
use Rattle.std.specs.Prelude.{ℕ, ◌==◌, ◌&&◌, Bool, false, List, Option}
use Rattle.sw_types.specs.declared.isolation.CallKind.{CallKind}
use Rattle.sw_types.specs.declared.isolation.Iso.{Iso}
use Rattle.sw_types.specs.declared.shape.CaseShape.{CaseShape}
use Rattle.sw_types.specs.declared.shape.Shape.{Shape}
use Rattle.sw_graph.specs.declared.instr.BinOp.{BinOp}
use Rattle.sw_graph.specs.declared.instr.UnOp.{UnOp}
use Rattle.sw_isolation_rules.specs.declared.note.Capture.{Capture}
use Rattle.sw_value.specs.declared.value.Value.{Value}

-- The bodies that are found by a name: of a function, a method, an initialiser or the entry, by its
-- key; the getter of a property, by the numbers of the type and of the property; the getter of a
-- global variable, and what gives it its first value, by its number.
pub data BodyName : Type 0 where
  Function : ℕ → BodyName
  PartGetter : ℕ → ℕ → BodyName
  GlobalGetter : ℕ → BodyName
  FirstValue : ℕ → BodyName

abbrev pub is_same_name : BodyName → BodyName → Bool
is_same_name (Function key) (Function other) = key == other
is_same_name (PartGetter shape part) (PartGetter other one) = (shape == other) && (part == one)
is_same_name (GlobalGetter number) (GlobalGetter other) = number == other
is_same_name (FirstValue number) (FirstValue other) = number == other
is_same_name _ _ = false

-- One act. It takes the newest temporaries, and its result becomes the newest. A count says how many
-- it takes. Where an act may trap, its first number is the place at which the trap stands.
pub data Act : Type 0 where
  -- a value that is written
  Literal : Value → Act
  -- what the variable with a key has
  Read : ℕ → Act
  -- the newest temporary isn't wanted; the two newest change places
  Drop : Act
  Swap : Act
  -- the newest once more; the newest in the place of the one before it
  Keep : Act
  Replace : Act
  -- operators: of two operands the right one is the newest
  Unary : ℕ → UnOp → Act
  Binary : ℕ → BinOp → Act
  -- so many values in a line
  Print : ℕ → Act
  -- the part of a struct; the newest is a struct, below it lies a copy of it, and below that a value,
  -- which becomes the part of the copy
  Field : ℕ → Act
  SetField : ℕ → Act
  -- a struct, or the case of an enum with a number, of so many values
  Make : Option ℕ → ℕ → Act
  -- a variable begins, in a box or not; a variable gets its next value
  Declare : ℕ → Bool → Act
  Store : ℕ → Act
  -- a variable begins, with the payload that has this number in the newest, which stays
  Payload : ℕ → ℕ → Act
  -- a part of an object or an actor; the newest is the object, and below it lies the part's next value
  LoadPart : ℕ → Act
  StorePart : ℕ → Act
  LoadGlobal : ℕ → Act
  StoreGlobal : ℕ → Act
  -- an object or an actor of the type with a number, whose properties got values in the order of
  -- these names
  New : ℕ → Shape → List ℕ → Act
  -- a body with so many arguments, of which a method's receiver is the first; a closure that lies
  -- below so many
  Call : ℕ → CallKind → BodyName → ℕ → Act
  CallClosure : ℕ → ℕ → Act
  -- the result of a task; any other job may run
  Await : Act
  Yield : Act

-- acts in order, with the ways on which they go on
pub data Work : Type 0 where
  Then : Act → Work → Work
  -- A closure with its key, what it captures, the keys of its parameters and its body's work; a task
  -- with its isolation, what it captures and its body's work. The last work follows.
  Close : ℕ → List Capture → List ℕ → Work → Work → Work
  Spawn : ℕ → Iso → List Capture → Work → Work → Work
  -- by the newest temporary: one work if it is true, the other if not
  Test : Work → Work → Work
  -- by the case of the newest temporary, which stays: the first way for the case's name
  Switch : List CaseShape → Work → Work
  Case : ℕ → Work → Work → Work
  Otherwise : Work → Work
  -- a part of a statement or of an operator ends, and this follows
  Jump : Work → Work
  -- a loop: its condition, its body, and what follows it
  Loop : Work → Work → Work → Work
  -- In the innermost loop: by the newest temporary the body or what follows the loop; the condition
  -- again; what follows the loop.
  Decide : Work
  Again : Work
  Leave : Work
  -- a body ends, with the newest temporary as its value, or without a value
  Return : Work
  Finish : Work
  -- no program that keeps the rules has this
  Unknown : Work

-- the work of a part of a tree, before the work that follows it
abbrev pub Before : Type 0
Before = Work → Work

-- A body that is found by its name, and the keys of the variables that it takes, in order: `self`
-- first, where it has it.
pub record TreeBody : Type 0 where
  pub name : BodyName
  pub iso : Iso
  pub takes : List ℕ
  pub work : Work
