-- The work of the forms that put parts together, by the work of their parts. Nothing here depends on
-- what a name means.
use Rattle.std.specs.Prelude.{ℕ, ◌+◌, Bool, false, not, List, [], ◌∷◌, flat_map, Option}
use Rattle.std.specs.Prelude.{Some, None, if◌then◌else◌}
use Rattle.std.specs.List.{filter}
use Rattle.sw_tree.specs.declared.operator.AssignOp.{AssignOp}
use Rattle.sw_tree.specs.declared.operator.AssignOp.TheVariants as assigns
use Rattle.sw_tree.specs.declared.operator.InfixOp.{InfixOp}
use Rattle.sw_tree.specs.declared.operator.InfixOp.TheVariants as infix_of
use Rattle.sw_tree.specs.declared.operator.PrefixOp.{PrefixOp}
use Rattle.sw_tree.specs.declared.operator.PrefixOp.TheVariants as prefix_of
use Rattle.sw_tree.specs.declared.stmt.Pattern.{Pattern}
use Rattle.sw_tree.specs.declared.stmt.Pattern.TheVariants.{Skip, Let}
use Rattle.sw_types.specs.declared.ty.Ty.{Ty}
use Rattle.sw_graph.specs.declared.instr.BinOp.{BinOp}
use Rattle.sw_graph.specs.declared.instr.BinOp.TheVariants as bin
use Rattle.sw_graph.specs.declared.instr.UnOp.TheVariants as un
use Rattle.sw_typing_rules.specs.Verdicts.{is_unit}
use Rattle.sw_isolation_rules.specs.declared.note.Capture.{Capture}
use Rattle.sw_tree_work.specs.Work.{Act, Again, Before, Binary, Case, Drop, Finish, Jump, Keep}
use Rattle.sw_tree_work.specs.Work.{Decide, Leave, Loop, Otherwise, Payload, Read, Replace, Return}
use Rattle.sw_tree_work.specs.Work.{Swap, Test, Then, Unary, Unknown, Work}

-- An expression: its key, whether it is the word `self`, the id of the property's name where it is a
-- property of that word, the work that gives its value, and the work that assigns the newest
-- temporary to it.
pub record ExprWork : Type 0 where
  pub key : ℕ
  pub is_self : Bool
  pub own_part : Option ℕ
  pub read : Before
  pub write : Before

-- an operator of a chain with the work of its right operand
pub record LinkWork : Type 0 where
  pub op : InfixOp
  pub at : ℕ
  pub read : Before

-- what an initialiser gives a property, by the id of its name
pub record Given : Type 0 where
  pub name : ℕ
  pub read : Before

-- A statement or a block: its work, by what `break` in it goes on with; the work of its value where
-- it is one expression; and what it gives to properties of `self`.
pub record StmtWork : Type 0 where
  pub work : Work → Before
  pub only : Option Before
  pub gives : List Given

-- a closure, or the body of a task
pub record ClosureWork : Type 0 where
  pub at : ℕ
  pub params : List ℕ
  pub body : StmtWork

-- an arm of a `switch`
pub record CaseWork : Type 0 where
  pub name : ℕ
  pub patterns : List Pattern
  pub body : StmtWork

-- an arm of an `if`
pub record IfWork : Type 0 where
  pub cond : Before
  pub body : StmtWork

abbrev pub unknown : Before
unknown rest = Unknown

-- what is known of each program that keeps the rules
abbrev pub for_known : {A : Type 0} → Option A → (A → Before) → Before
for_known None work rest = Unknown
for_known (Some x) work rest = work x rest

-- parts in order, each before the next
abbrev pub in_order : {A : Type 0} → (A → Before) → List A → Before
in_order work [] rest = rest
in_order work (x ∷ xs) rest = work x (in_order work xs rest)

-- the work of arguments
abbrev pub all_in_order : List Before → Before
all_in_order works = in_order (λ work. work) works

-- an expression that nothing can be assigned to
abbrev pub value_at : ℕ → Before → ExprWork
value_at key read =
    record { key = key; is_self = false; own_part = None; read = read; write = unknown }

-- Operators. The left operand is the newest temporary. The right one follows, and then the operator.
abbrev pub by_two : ℕ → BinOp → Before → Before
by_two at op right rest = right (Then (Binary at op) rest)

-- The left operand of `&&` is the value if it is false, and that of `||` if it is true. Only else the
-- right operand is looked at, and its value takes the place of the left one's.
abbrev pub right_instead : Before → Before
right_instead right rest = right (Then Replace (Jump rest))

abbrev pub both : Before → Before
both right rest = Then Keep (Test (right_instead right rest) rest)

abbrev pub either : Before → Before
either right rest = Then Keep (Test rest (right_instead right rest))

abbrev pub by_op : InfixOp → ℕ → Before → Before
by_op infix_of.Or at right = either right
by_op infix_of.And at right = both right
by_op infix_of.Equal at right = by_two at bin.Eq right
by_op infix_of.NotEqual at right = by_two at bin.Ne right
by_op infix_of.Less at right = by_two at bin.Lt right
by_op infix_of.LessEqual at right = by_two at bin.Le right
by_op infix_of.Greater at right = by_two at bin.Gt right
by_op infix_of.GreaterEqual at right = by_two at bin.Ge right
by_op infix_of.Add at right = by_two at bin.Add right
by_op infix_of.Subtract at right = by_two at bin.Sub right
by_op infix_of.Multiply at right = by_two at bin.Mul right
by_op infix_of.Divide at right = by_two at bin.Div right
by_op infix_of.Remainder at right = by_two at bin.Rem right

abbrev pub link_work : LinkWork → Before
link_work link = by_op link.op link.at link.read

abbrev pub prefixed : PrefixOp → ℕ → Act
prefixed prefix_of.Not at = Unary at un.Not
prefixed prefix_of.Negate at = Unary at un.Neg

-- Assignments. The value is the newest temporary. `x += e` finds e, then x, and assigns their sum.
abbrev pub assign_by : ℕ → BinOp → ExprWork → Before
assign_by at op place rest = place.read (Then Swap (Then (Binary at op) (place.write rest)))

abbrev pub assign : AssignOp → ℕ → ExprWork → Before
assign assigns.Set at place = place.write
assign assigns.Add at place = assign_by at bin.Add place
assign assigns.Subtract at place = assign_by at bin.Sub place
assign assigns.Multiply at place = assign_by at bin.Mul place
assign assigns.Divide at place = assign_by at bin.Div place
assign assigns.Remainder at place = assign_by at bin.Rem place

-- The arms of an `if` in order, each condition only where those before it are false. An arm's part
-- ends with its block, and what follows an arm's condition where it is false is a part too.
abbrev pub arms_work : List IfWork → (Work → Before) → Work → Before
arms_work [] otherwise breaks rest = otherwise breaks rest
arms_work (arm ∷ arms) otherwise breaks rest =
    arm.cond (Test (arm.body.work breaks (Jump rest)) (arms_work arms otherwise breaks (Jump rest)))

abbrev pub else_work : Option StmtWork → Work → Before
else_work None breaks rest = rest
else_work (Some block) breaks rest = block.work breaks rest

-- `break` in a loop's body leaves the loop; the condition follows the body.
abbrev pub while_work : Before → StmtWork → Before
while_work cond body rest = Loop (cond Decide) (body.work Leave Again) rest

-- Payloads, from a number on, become variables.
abbrev pub patterns_work : ℕ → List Pattern → Before
patterns_work number [] rest = rest
patterns_work number (Skip at ∷ patterns) rest = patterns_work (number + 1) patterns rest
patterns_work number (Let name ∷ patterns) rest =
    Then (Payload name.at number) (patterns_work (number + 1) patterns rest)

-- The subject of a `switch` is the newest temporary until its payloads are taken. `break` ends the
-- arm. Without `default`, a case without an arm goes on with what follows.
abbrev pub arm_work : StmtWork → Before
arm_work body rest = Then Drop (body.work (Jump rest) (Jump rest))

abbrev pub ways : List CaseWork → Option StmtWork → Before
ways [] None rest = Otherwise (Then Drop rest)
ways [] (Some block) rest = Otherwise (arm_work block rest)
ways (arm ∷ arms) otherwise rest =
    Case arm.name (patterns_work 0 arm.patterns (arm_work arm.body rest))
    (ways arms otherwise rest)

-- Bodies. A body that gives a value and is one expression ends with that expression's value; each
-- other one that comes to its end ends without a value.
abbrev pub gives_value : Option Ty → Bool
gives_value None = false
gives_value (Some result) = not (is_unit result)

abbrev pub ended_by : Option Before → StmtWork → Work
ended_by None block = block.work Unknown Finish
ended_by (Some read) block = read Return

abbrev pub body_work : Option Ty → StmtWork → Work
body_work result block = ended_by (if gives_value result then block.only else None) block

abbrev pub only_of : List StmtWork → Option Before
only_of [] = None
only_of (one ∷ []) = one.only
only_of (one ∷ other ∷ more) = None

abbrev pub given_part : Option ℕ → Before → List Given
given_part None read = []
given_part (Some name) read = record { name = name; read = read } ∷ []

-- a statement that is no expression and gives no property a value
abbrev pub statement : (Work → Before) → StmtWork
statement work = record { work = work; only = None; gives = [] }

abbrev pub block_of : List StmtWork → StmtWork
block_of stmts = record {
  work = λ breaks. in_order (λ (one : StmtWork). one.work breaks) stmts;
  only = only_of stmts;
  gives = flat_map (λ (one : StmtWork). one.gives) stmts;
}

-- A closure shares a variable that it captures by reference. Each other one that it captures is read
-- where the closure is made, in order.
abbrev pub by_value : List Capture → List Capture
by_value captures = filter (λ (one : Capture). not one.by_ref) captures

abbrev pub captured : List Capture → Before
captured captures = in_order (λ (one : Capture). Then (Read one.variable)) (by_value captures)
