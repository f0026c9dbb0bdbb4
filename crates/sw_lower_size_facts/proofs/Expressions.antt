-- The code of each form of expression is short.
use Rattle.std.proofs.Common.{ℕ, ◌+◌, ◌*◌, ◌≤◌, List, [], ◌∷◌, map, Option, Some, None, arith}
use Rattle.std.specs.List.{AllByRecursion, sum}
use Rattle.sw_tree.specs.declared.operator.InfixOp.{InfixOp}
use Rattle.sw_tree.specs.declared.operator.InfixOp.TheVariants as infix_of
use Rattle.sw_tree.specs.declared.operator.PrefixOp.{PrefixOp}
use Rattle.sw_tree.specs.declared.operator.PrefixOp.TheVariants as prefix_of
use Rattle.sw_tree_facts.specs.Sizes.{ExprSize, read_alone}
use Rattle.sw_types.specs.declared.isolation.CallKind.{CallKind}
use Rattle.sw_types.specs.declared.shape.ShapeKind.{ShapeKind}
use Rattle.sw_types.specs.declared.shape.ShapeKind.TheVariants as shapes
use Rattle.sw_types.specs.declared.ty.Ty.{Ty}
use Rattle.sw_types.specs.declared.ty.Ty.TheVariants as types
use Rattle.sw_graph.specs.declared.function.RegKind.TheVariants.{Plain}
use Rattle.sw_graph.specs.declared.instr.BinOp.{BinOp}
use Rattle.sw_graph.specs.declared.instr.Operand.{Operand}
use Rattle.sw_typing_rules.specs.declared.row.Meaning.{Meaning}
use Rattle.sw_typing_rules.specs.declared.row.Meaning.TheVariants as means
use Rattle.sw_lower_plans.specs.Plan.{Anywhere}
use Rattle.sw_lower_code.specs.Code.{Code, andthen}
use Rattle.sw_lower_rules.specs.Carriers.{ArgCode, ClosureCode, ExprCode, LinkCode}
use Rattle.sw_lower_rules.specs.Expressions.{args_read, awaited, binary, both, by_op, call_read}
use Rattle.sw_lower_rules.specs.Expressions.{closure_called, copied, either, fun_read}
use Rattle.sw_lower_rules.specs.Expressions.{links_read, member_read, member_write, method_read}
use Rattle.sw_lower_rules.specs.Expressions.{own_base, prefixed, read_of_base, right_in, set_part}
use Rattle.sw_lower_rules.specs.Expressions.{spawn_read, unwritten, word_write, write_part}
use Rattle.sw_lower_rules.specs.Tables.{Tables, plain}
use Rattle.sw_lower_rules.specs.Uses.{call_func, call_getter, make, operand, read_self}
use Rattle.sw_lower_rules.specs.Uses.{read_word}
use Rattle.sw_lower_code_facts.proofs.Calls as calls
use Rattle.sw_lower_code_facts.proofs.Uses.{has_call_closure, has_capture, has_each_of, has_give}
use Rattle.sw_lower_code_facts.proofs.Uses.{has_make_value, has_read_global, has_read_own}
use Rattle.sw_lower_code_facts.proofs.Uses.{has_read_part, has_read_self, has_read_var}
use Rattle.sw_lower_code_facts.proofs.Uses.{has_read_word, has_shape_at, has_shape_of, has_typed}
use Rattle.sw_lower_code_facts.proofs.Uses.{has_unknown, has_write_var}
use Rattle.sw_lower_size_facts.specs.Short.{AreShort, IsShort, MakesAtMost}
use Rattle.sw_lower_size_facts.proofs.Lists.{sum-cons}
use Rattle.sw_lower_size_facts.proofs.Steps.{after_block, after_quiet, before_quiet, makes_more}
use Rattle.sw_lower_size_facts.proofs.Steps.{makes_then, quiet, quiet_close, quiet_done, quiet_emit}
use Rattle.sw_lower_size_facts.proofs.Steps.{quiet_known, quiet_resume}

-- An expression of a size: its value, an assignment to it, and the bodies in it.
pub record ExprShort (size : ExprSize) (code : ExprCode) : Type 0 where
  pub read : IsShort size.read code.read
  pub write : (given : Operand) → IsShort size.write (code.write given)
  pub inside : AreShort size.read size.read code.inside

pub record ArgShort (size : ℕ) (arg : ArgCode) : Type 0 where
  pub read : IsShort size arg.read
  pub inside : AreShort size size arg.inside

-- an operator with its right operand
pub record LinkShort (size : ℕ) (link : LinkCode) : Type 0 where
  pub read : (left : Operand) → IsShort size (by_op link.op link.at link.read left)
  pub inside : AreShort size size link.inside

-- code that makes no block is short
pub quiet_short : {A : Type 0} (size : ℕ) (code : Code A) → MakesAtMost 0 code
    → IsShort size code
quiet_short size code makes = makes_more 0 (3 * size) code makes (omega arith)

-- operators
quiet_binary : (n : ℕ) (at : ℕ) (op : BinOp) (ty : Ty) (right : Code Operand) (left : Operand)
    → MakesAtMost n right → MakesAtMost n (binary at op ty right left)
quiet_binary n at op ty right left makes =
    before_quiet n right _ makes (λ other. has_give quiet at ty _ (λ r. tt))

quiet_copied : (at : ℕ) (given : Operand) → MakesAtMost 0 (copied at given)
quiet_copied at given =
    quiet.after _ _ (quiet.reg (Plain types.Bool)) (λ r.
    quiet.after _ _ (quiet_emit _) (λ value. quiet_done r))

right_makes : (n at r : ℕ) (right : Code Operand) (own merge : ℕ) → MakesAtMost n right
    → MakesAtMost n (right_in at r right own merge)
right_makes n at r right own merge makes =
    after_quiet n _ _ (quiet_resume own) (λ resumed.
    before_quiet n right _ makes (λ given.
    quiet.after _ _ (quiet_emit _) (λ copied.
    quiet.after _ _ (quiet_close _) (λ jumped.
    quiet.after _ _ (quiet_resume merge) (λ merged. quiet_done (operand r at))))))

both_makes : (n at : ℕ) (right : Code Operand) (left : Operand) → MakesAtMost n right
    → MakesAtMost (2 + n) (both at right left)
both_makes n at right left makes =
    after_quiet (2 + n) _ _ (quiet_copied at left) (λ r.
    after_block (1 + n) (2 + n) Anywhere _ (λ own.
    after_block n (1 + n) Anywhere _ (λ merge.
    after_quiet n _ _ (quiet_close _) (λ closed. right_makes n at r right own merge makes))
    (omega arith)) (omega arith))

either_makes : (n at : ℕ) (right : Code Operand) (left : Operand) → MakesAtMost n right
    → MakesAtMost (2 + n) (either at right left)
either_makes n at right left makes =
    after_quiet (2 + n) _ _ (quiet_copied at left) (λ r.
    after_block (1 + n) (2 + n) Anywhere _ (λ own.
    after_block n (1 + n) Anywhere _ (λ merge.
    after_quiet n _ _ (quiet_close _) (λ closed. right_makes n at r right own merge makes))
    (omega arith)) (omega arith))

-- An operator counts one.
pub op_short : (size : ℕ) (op : InfixOp) (at : ℕ) (right : Code Operand) (left : Operand)
    → IsShort size right → IsShort (1 + size) (by_op op at right left)
op_short size op at right left short = by op where
  more : (code : Code Operand) → MakesAtMost (2 + 3 * size) code → IsShort (1 + size) code
  more code makes = makes_more (2 + 3 * size) (3 * (1 + size)) code makes (omega arith)

  plain_op : (op : BinOp) (ty : Ty) → IsShort (1 + size) (binary at op ty right left)
  plain_op op ty =
      makes_more (3 * size) (3 * (1 + size)) (binary at op ty right left)
      (quiet_binary (3 * size) at op ty right left short) (omega arith)

  by : (op : InfixOp) → IsShort (1 + size) (by_op op at right left)
  by infix_of.Or = more (either at right left) (either_makes (3 * size) at right left short)
  by infix_of.And = more (both at right left) (both_makes (3 * size) at right left short)
  by infix_of.Equal = plain_op _ _
  by infix_of.NotEqual = plain_op _ _
  by infix_of.Less = plain_op _ _
  by infix_of.LessEqual = plain_op _ _
  by infix_of.Greater = plain_op _ _
  by infix_of.GreaterEqual = plain_op _ _
  by infix_of.Add = plain_op _ _
  by infix_of.Subtract = plain_op _ _
  by infix_of.Multiply = plain_op _ _
  by infix_of.Divide = plain_op _ _
  by infix_of.Remainder = plain_op _ _

pub links_short : {Y : Type 0} (part : Y → LinkCode) (size : Y → ℕ) (ys : List Y)
    → AllByRecursion (λ y. LinkShort (size y) (part y)) ys → (left : Operand)
    → IsShort (sum (map size ys)) (links_read (map part ys) left)
unfolding links_read
links_short part size [] short left = quiet_done left
links_short part size (y ∷ ys) short left =
    makes_then (3 * size y) (3 * sum (map size ys)) (3 * sum (size y ∷ map size ys)) _ _
    (short.0.read left) (λ given. links_short part size ys short.1 given)
    (omega (arith, sum-cons (size y) (map size ys)))

quiet_prefixed : (op : PrefixOp) (at : ℕ) (given : Operand) → MakesAtMost 0 (prefixed op at given)
quiet_prefixed prefix_of.Not at given = has_give quiet at types.Bool _ (λ r. tt)
quiet_prefixed prefix_of.Negate at given = has_give quiet at types.Int _ (λ r. tt)

pub prefix_short : (size : ℕ) (op : PrefixOp) (at : ℕ) (inner : Code Operand) → IsShort size inner
    → IsShort size (andthen inner (prefixed op at))
prefix_short size op at inner short =
    before_quiet (3 * size) inner _ short (quiet_prefixed op at)

pub unwritten_short : (given : Operand) → IsShort 0 (unwritten given)
unwritten_short given = quiet_known _ _

module _ (tables : Tables) (owner : Option ℕ) where
  -- calls and tasks make no block
  quiet_getter : (at : ℕ) (kind : CallKind) (ty : Ty) (key : ℕ) (operands : List Operand)
      → MakesAtMost 0 (call_getter tables at kind ty key operands)
  quiet_getter = calls.getter quiet quiet_emit tables owner

  quiet_func : (at number : ℕ) (operands : List Operand)
      → MakesAtMost 0 (call_func tables at number operands)
  quiet_func = calls.func quiet quiet_emit tables owner

  quiet_maker : (at shape : ℕ) (operands : List Operand)
      → MakesAtMost 0 (make tables at shape operands)
  quiet_maker = calls.maker quiet quiet_emit tables owner

  pub quiet_task : (at : ℕ) (closure : ClosureCode)
      → MakesAtMost 0 (spawn_read tables owner at closure)
  quiet_task = calls.task quiet quiet_emit tables owner

  pub quiet_fun : (closure : ClosureCode) → MakesAtMost 0 (fun_read tables owner closure)
  quiet_fun closure =
      quiet.after _ _
      (has_each_of quiet _ (tables.isolation.captures_of closure.at)
      (has_capture quiet tables closure.at)) (λ operands.
      quiet.after _ _ (quiet.number (plain closure.at)) (λ f.
      quiet.after _ _ (has_typed quiet tables closure.at) (λ ty.
      has_give quiet closure.at ty _ (λ r. tt))))

  pub await_short : (size at : ℕ) (inner : ExprCode) → IsShort size inner.read
      → IsShort size (awaited tables owner at inner)
  await_short size at inner short =
      before_quiet (3 * size) inner.read _ short (λ given. quiet_done _)

  -- words and `self`
  pub quiet_word : (at : ℕ) → MakesAtMost 0 (read_word tables owner at)
  quiet_word = has_read_word quiet tables owner quiet_getter

  pub quiet_self : (at : ℕ) → MakesAtMost 0 (read_self tables owner at)
  quiet_self = has_read_self quiet tables owner quiet_getter

  -- Assignments to parts: what stands before the `.` is read, and may be assigned to.
  set_short : (kind : ShapeKind) (at shape number : ℕ) (base : ExprCode) (given : Operand)
      (size : ExprSize) → IsShort size.read base.read
      → ((given : Operand) → IsShort size.write (base.write given))
      → IsShort (size.read + size.write) (set_part tables owner kind at shape number base given)
  set_short shapes.Struct at shape number base given size read write =
      makes_then (3 * size.read) (3 * size.write) (3 * (size.read + size.write)) base.read _ read
      (λ old.
      after_quiet (3 * size.write) _ _ (quiet.reg (Plain (types.Named shape))) (λ r.
      after_quiet (3 * size.write) _ _ (quiet_emit _) (λ copied.
      after_quiet (3 * size.write) _ _ (quiet_emit _) (λ set. write (operand r base.key)))))
      (omega arith)
  set_short shapes.Enum at shape number base given size read write =
      quiet_short (size.read + size.write) _ (quiet_known _ _)
  set_short shapes.Class at shape number base given size read write =
      makes_then (3 * size.read) 0 (3 * (size.read + size.write)) base.read _ read
      (λ cell. quiet_emit _) (omega arith)
  set_short shapes.Actor at shape number base given size read write =
      makes_then (3 * size.read) 0 (3 * (size.read + size.write)) base.read _ read
      (λ cell. quiet_emit _) (omega arith)

  write_short : (at shape number : ℕ) (base : ExprCode) (given : Operand) (size : ExprSize)
      → IsShort size.read base.read → ((given : Operand) → IsShort size.write (base.write given))
      → IsShort (size.read + size.write) (write_part tables owner at shape number base given)
  unfolding write_part
  write_short at shape number base given size read write =
      after_quiet (3 * (size.read + size.write)) _ _ (has_shape_at quiet tables shape) (λ s.
      set_short s.kind at shape number base given size read write)

  word_written : (at : ℕ) (meaning : Option Meaning) (given : Operand)
      → IsShort 0 (word_write tables owner at meaning given)
  word_written at None given = quiet_known _ _
  word_written at (Some (means.Local variable)) given = has_write_var quiet tables at variable given
  word_written at (Some (means.OwnPart number)) given =
      after_quiet 0 _ _ (quiet_known _ _) (λ shape.
      write_short at shape number (own_base tables owner at) given (read_alone 0) (quiet_self at)
      (λ given. quiet_known _ _))
  word_written at (Some (means.OwnFunc number)) given = quiet_known _ _
  word_written at (Some (means.GlobalOf number)) given = quiet_emit _
  word_written at (Some (means.FuncOf number)) given = quiet_known _ _
  word_written at (Some (means.MakeOf shape)) given = quiet_known _ _
  word_written at (Some (means.CaseOf shape number)) given = quiet_known _ _
  word_written at (Some (means.PartOf number)) given = quiet_known _ _
  word_written at (Some means.Print) given = quiet_known _ _
  word_written at (Some means.TaskValue) given = quiet_known _ _

  pub word_short : (at : ℕ) (given : Operand)
      → IsShort 0 (word_write tables owner at (tables.answers.meaning_at at) given)
  word_short at given = word_written at (tables.answers.meaning_at at) given

  -- members
  base_short : (at : ℕ) (base : ExprCode) (number size : ℕ) → IsShort size base.read
      → IsShort size (read_of_base tables owner at base number)
  base_short at base number size short =
      before_quiet (3 * size) base.read _ short (λ from.
      quiet.after _ _ (has_shape_of quiet tables base.key) (λ shape.
      has_read_part quiet tables owner quiet_getter at shape number from))

  member_by : (at : ℕ) (base : ExprCode) (meaning : Option Meaning) (size : ℕ)
      → IsShort size base.read → IsShort size (member_read tables owner at base meaning)
  member_by at base None size short = quiet_short size _ (has_unknown quiet)
  member_by at base (Some (means.Local variable)) size short =
      quiet_short size _ (has_unknown quiet)
  member_by at base (Some (means.OwnPart number)) size short =
      quiet_short size _ (has_unknown quiet)
  member_by at base (Some (means.OwnFunc number)) size short =
      quiet_short size _ (has_unknown quiet)
  member_by at base (Some (means.GlobalOf number)) size short =
      quiet_short size _ (has_unknown quiet)
  member_by at base (Some (means.FuncOf number)) size short =
      quiet_short size _ (has_unknown quiet)
  member_by at base (Some (means.MakeOf shape)) size short =
      quiet_short size _ (has_unknown quiet)
  member_by at base (Some (means.CaseOf shape number)) size short =
      quiet_short size _ (has_make_value quiet at shape (Some number) [])
  member_by at base (Some (means.PartOf number)) size short =
      base_short at base number size short
  member_by at base (Some means.Print) size short = quiet_short size _ (has_unknown quiet)
  member_by at base (Some means.TaskValue) size short =
      before_quiet (3 * size) base.read _ short (λ task.
      quiet.after _ _ (has_typed quiet tables at) (λ ty. has_give quiet at ty _ (λ r. tt)))

  pub member_short : (at : ℕ) (base : ExprCode) (size : ℕ) → IsShort size base.read
      → IsShort size (member_read tables owner at base (tables.answers.meaning_at at))
  member_short at base size short = member_by at base (tables.answers.meaning_at at) size short

  written_by : (at : ℕ) (base : ExprCode) (meaning : Option Meaning) (given : Operand)
      (size : ExprSize) → IsShort size.read base.read
      → ((given : Operand) → IsShort size.write (base.write given))
      → IsShort (size.read + size.write) (member_write tables owner at base meaning given)
  written_by at base None given size read write = quiet_short _ _ (quiet_known _ _)
  written_by at base (Some (means.Local variable)) given size read write =
      quiet_short _ _ (quiet_known _ _)
  written_by at base (Some (means.OwnPart number)) given size read write =
      quiet_short _ _ (quiet_known _ _)
  written_by at base (Some (means.OwnFunc number)) given size read write =
      quiet_short _ _ (quiet_known _ _)
  written_by at base (Some (means.GlobalOf number)) given size read write =
      quiet_short _ _ (quiet_known _ _)
  written_by at base (Some (means.FuncOf number)) given size read write =
      quiet_short _ _ (quiet_known _ _)
  written_by at base (Some (means.MakeOf shape)) given size read write =
      quiet_short _ _ (quiet_known _ _)
  written_by at base (Some (means.CaseOf shape number)) given size read write =
      quiet_short _ _ (quiet_known _ _)
  written_by at base (Some (means.PartOf number)) given size read write =
      after_quiet (3 * (size.read + size.write)) _ _ (has_shape_of quiet tables base.key) (λ shape.
      write_short at shape number base given size read write)
  written_by at base (Some means.Print) given size read write = quiet_short _ _ (quiet_known _ _)
  written_by at base (Some means.TaskValue) given size read write =
      quiet_short _ _ (quiet_known _ _)

  pub written_short : (at : ℕ) (base : ExprCode) (given : Operand) (size : ExprSize)
      → IsShort size.read base.read → ((given : Operand) → IsShort size.write (base.write given))
      → IsShort (size.read + size.write)
      (member_write tables owner at base (tables.answers.meaning_at at) given)
  written_short at base given size read write =
      written_by at base (tables.answers.meaning_at at) given size read write

  -- calls
  called_short : (at : ℕ) (read : Code Operand) (args : List ArgCode) (a b n : ℕ)
      → IsShort a read → IsShort b (args_read args) → a + b ≤ n
      → IsShort n (closure_called tables owner at read args)
  called_short at read args a b n short all most =
      makes_then (3 * a) (3 * b) (3 * n) read _ short (λ closure.
      before_quiet (3 * b) _ _ all (has_call_closure quiet tables at closure))
      (omega (arith, most))

  call_by : (at : ℕ) (args : List ArgCode) (meaning : Option Meaning) (size : ℕ)
      → IsShort size (args_read args) → IsShort size (call_read tables owner at args meaning)
  call_by at args None size all = quiet_short size _ (has_unknown quiet)
  call_by at args (Some (means.Local variable)) size all =
      called_short at _ args 0 size size (has_read_var quiet tables at variable) all (omega arith)
  call_by at args (Some (means.OwnPart number)) size all =
      called_short at _ args 0 size size (has_read_own quiet tables owner quiet_getter at number)
      all (omega arith)
  call_by at args (Some (means.OwnFunc number)) size all =
      after_quiet (3 * size) _ _ (quiet_self at) (λ me.
      before_quiet (3 * size) _ _ all (λ operands. quiet_func at number (me ∷ operands)))
  call_by at args (Some (means.GlobalOf number)) size all =
      called_short at _ args 0 size size
      (has_read_global quiet tables owner quiet_getter at number) all (omega arith)
  call_by at args (Some (means.FuncOf number)) size all =
      before_quiet (3 * size) _ _ all (λ operands. quiet_func at number operands)
  call_by at args (Some (means.MakeOf shape)) size all =
      before_quiet (3 * size) _ _ all (λ operands. quiet_maker at shape operands)
  call_by at args (Some (means.CaseOf shape number)) size all =
      quiet_short size _ (has_unknown quiet)
  call_by at args (Some (means.PartOf number)) size all = quiet_short size _ (has_unknown quiet)
  call_by at args (Some means.Print) size all =
      before_quiet (3 * size) _ _ all (λ operands. has_give quiet at types.Unit _ (λ r. tt))
  call_by at args (Some means.TaskValue) size all = quiet_short size _ (has_unknown quiet)

  pub call_short : (at : ℕ) (args : List ArgCode) (size : ℕ) → IsShort size (args_read args)
      → IsShort size (call_read tables owner at args (tables.answers.meaning_at at))
  call_short at args size all = call_by at args (tables.answers.meaning_at at) size all

  method_by : (at : ℕ) (base : ExprCode) (args : List ArgCode) (meaning : Option Meaning)
      (a b : ℕ) → IsShort a base.read → IsShort b (args_read args)
      → IsShort (a + b) (method_read tables owner at base args meaning)
  method_by at base args None a b short all = quiet_short _ _ (has_unknown quiet)
  method_by at base args (Some (means.Local variable)) a b short all =
      quiet_short _ _ (has_unknown quiet)
  method_by at base args (Some (means.OwnPart number)) a b short all =
      quiet_short _ _ (has_unknown quiet)
  method_by at base args (Some (means.OwnFunc number)) a b short all =
      quiet_short _ _ (has_unknown quiet)
  method_by at base args (Some (means.GlobalOf number)) a b short all =
      quiet_short _ _ (has_unknown quiet)
  method_by at base args (Some (means.FuncOf number)) a b short all =
      makes_then (3 * a) (3 * b) (3 * (a + b)) base.read _ short (λ receiver.
      before_quiet (3 * b) _ _ all (λ operands. quiet_func at number (receiver ∷ operands)))
      (omega arith)
  method_by at base args (Some (means.MakeOf shape)) a b short all =
      quiet_short _ _ (has_unknown quiet)
  method_by at base args (Some (means.CaseOf shape number)) a b short all =
      makes_then (3 * b) 0 (3 * (a + b)) _ _ all (has_make_value quiet at shape (Some number))
      (omega arith)
  method_by at base args (Some (means.PartOf number)) a b short all =
      called_short at _ args a b (a + b) (base_short at base number a short) all (omega arith)
  method_by at base args (Some means.Print) a b short all = quiet_short _ _ (has_unknown quiet)
  method_by at base args (Some means.TaskValue) a b short all =
      quiet_short _ _ (has_unknown quiet)

  pub method_short : (at : ℕ) (base : ExprCode) (args : List ArgCode) (a b : ℕ)
      → IsShort a base.read → IsShort b (args_read args)
      → IsShort (a + b) (method_read tables owner at base args (tables.answers.meaning_at at))
  method_short at base args a b short all =
      method_by at base args (tables.answers.meaning_at at) a b short all
