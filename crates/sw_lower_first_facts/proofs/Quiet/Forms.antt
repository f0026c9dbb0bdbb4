-- The code of operators, arguments, members and what is made.
use Rattle.std.proofs.Common.{ℕ, List, [], ◌∷◌, Option, Some, None}
use Rattle.std.specs.List.{AllByRecursion}
use Rattle.sw_tree.specs.declared.operator.InfixOp.{InfixOp}
use Rattle.sw_tree.specs.declared.operator.InfixOp.TheVariants as infix_of
use Rattle.sw_tree.specs.declared.operator.PrefixOp.{PrefixOp}
use Rattle.sw_tree.specs.declared.operator.PrefixOp.TheVariants as prefix_of
use Rattle.sw_types.specs.declared.ty.Ty.{Ty}
use Rattle.sw_graph.specs.declared.instr.BinOp.{BinOp}
use Rattle.sw_graph.specs.declared.instr.Operand.{Operand}
use Rattle.sw_typing_rules.specs.declared.row.Meaning.{Meaning}
use Rattle.sw_typing_rules.specs.declared.row.Meaning.TheVariants as means
use Rattle.sw_lower_plans.specs.Plan.{Numbers}
use Rattle.sw_lower_code.specs.Code.{Code, close, emit, reg, resume}
use Rattle.sw_lower_rules.specs.Carriers.{ArgCode, ExprCode, LinkCode}
use Rattle.sw_lower_rules.specs.Expressions.{args_read, binary, block_made, both, by_op, copied}
use Rattle.sw_lower_rules.specs.Expressions.{either, links_read, member_read, prefixed}
use Rattle.sw_lower_rules.specs.Expressions.{read_of_base, right_in}
use Rattle.sw_lower_rules.specs.Tables.{Tables}
use Rattle.sw_lower_rules.specs.Uses.{shape_of}
use Rattle.sw_lower_first_facts.specs.Quiet.{WritesQuiet}
use Rattle.sw_lower_first_facts.proofs.Quiet.Joining.{known_writes, writes_block, writes_close}
use Rattle.sw_lower_first_facts.proofs.Quiet.Joining.{writes_done, writes_each, writes_emit, writes_give}
use Rattle.sw_lower_first_facts.proofs.Quiet.Joining.{writes_reg, writes_resume, writes_then}
use Rattle.sw_lower_first_facts.proofs.Quiet.Uses.{writes_make_value, writes_part, writes_typed}
use Rattle.sw_lower_first_facts.proofs.Quiet.Uses.{writes_unknown}

module _ (tables : Tables) (numbers : Numbers) where
  abbrev Quiet : {A : Type 0} → Code A → Type 0
  Quiet code = WritesQuiet tables numbers code

  writes_binary : (at : ℕ) (op : BinOp) (ty : Ty) (right : Code Operand) (left : Operand)
      → Quiet right → Quiet (binary at op ty right left)
  writes_binary at op ty right left quiet =
      writes_then tables numbers right _ quiet (λ other.
      writes_give tables numbers at ty _ (λ r. tt))

  writes_copied : (at : ℕ) (left : Operand) → Quiet (copied at left)
  writes_copied at left =
      writes_then tables numbers (reg _) _ (writes_reg tables numbers _) (λ r.
      writes_then tables numbers (emit _) _ (writes_emit tables numbers _ tt) (λ value.
      writes_done tables numbers _))

  writes_right : (at r : ℕ) (right : Code Operand) (own merge : ℕ) → Quiet right
      → Quiet (right_in at r right own merge)
  writes_right at r right own merge quiet =
      writes_then tables numbers (resume own) _ (writes_resume tables numbers own) (λ value.
      writes_then tables numbers right _ quiet (λ other.
      writes_then tables numbers (emit _) _ (writes_emit tables numbers _ tt) (λ value.
      writes_then tables numbers (close _) _ (writes_close tables numbers _) (λ value.
      writes_then tables numbers (resume merge) _ (writes_resume tables numbers merge) (λ value.
      writes_done tables numbers _)))))

  writes_both : (at : ℕ) (right : Code Operand) (left : Operand) → Quiet right
      → Quiet (both at right left)
  writes_both at right left quiet =
      writes_then tables numbers (copied at left) _ (writes_copied at left) (λ r.
      writes_then tables numbers block_made _ (writes_block tables numbers _) (λ own.
      writes_then tables numbers block_made _ (writes_block tables numbers _) (λ merge.
      writes_then tables numbers (close _) _ (writes_close tables numbers _) (λ value.
      writes_right at r right own merge quiet))))

  writes_or : (at : ℕ) (right : Code Operand) (left : Operand) → Quiet right
      → Quiet (either at right left)
  writes_or at right left quiet =
      writes_then tables numbers (copied at left) _ (writes_copied at left) (λ r.
      writes_then tables numbers block_made _ (writes_block tables numbers _) (λ own.
      writes_then tables numbers block_made _ (writes_block tables numbers _) (λ merge.
      writes_then tables numbers (close _) _ (writes_close tables numbers _) (λ value.
      writes_right at r right own merge quiet))))

  writes_op : (op : InfixOp) (at : ℕ) (right : Code Operand) (left : Operand) → Quiet right
      → Quiet (by_op op at right left)
  writes_op infix_of.Or at right left quiet = writes_or at right left quiet
  writes_op infix_of.And at right left quiet = writes_both at right left quiet
  writes_op infix_of.Equal at right left quiet = writes_binary at _ _ right left quiet
  writes_op infix_of.NotEqual at right left quiet = writes_binary at _ _ right left quiet
  writes_op infix_of.Less at right left quiet = writes_binary at _ _ right left quiet
  writes_op infix_of.LessEqual at right left quiet = writes_binary at _ _ right left quiet
  writes_op infix_of.Greater at right left quiet = writes_binary at _ _ right left quiet
  writes_op infix_of.GreaterEqual at right left quiet = writes_binary at _ _ right left quiet
  writes_op infix_of.Add at right left quiet = writes_binary at _ _ right left quiet
  writes_op infix_of.Subtract at right left quiet = writes_binary at _ _ right left quiet
  writes_op infix_of.Multiply at right left quiet = writes_binary at _ _ right left quiet
  writes_op infix_of.Divide at right left quiet = writes_binary at _ _ right left quiet
  writes_op infix_of.Remainder at right left quiet = writes_binary at _ _ right left quiet

  pub writes_links : (links : List LinkCode)
      → AllByRecursion (λ (link : LinkCode). Quiet link.read) links → (left : Operand)
      → Quiet (links_read links left)
  unfolding links_read
  writes_links [] all left = writes_done tables numbers left
  writes_links (link ∷ links) all left =
      writes_then tables numbers (by_op link.op link.at link.read left) _
      (writes_op link.op link.at link.read left all.0) (writes_links links all.1)

  pub writes_prefixed : (op : PrefixOp) (at : ℕ) (value : Operand) → Quiet (prefixed op at value)
  writes_prefixed prefix_of.Not at value = writes_give tables numbers at _ _ (λ r. tt)
  writes_prefixed prefix_of.Negate at value = writes_give tables numbers at _ _ (λ r. tt)

  pub writes_args : (args : List ArgCode) → AllByRecursion (λ (arg : ArgCode). Quiet arg.read) args
      → Quiet (args_read args)
  writes_args args all = writes_each tables numbers (λ (arg : ArgCode). arg.read) args all

  writes_of_base : (owner : Option ℕ) (at : ℕ) (base : ExprCode) (n : ℕ) → Quiet base.read
      → Quiet (read_of_base tables owner at base n)
  unfolding shape_of
  writes_of_base owner at base n quiet =
      writes_then tables numbers base.read _ quiet (λ from.
      known_writes tables numbers _ _ _ (λ shape is. writes_part tables numbers at shape n from))

  -- a member of a value
  pub writes_member : (owner : Option ℕ) (at : ℕ) (base : ExprCode) (meaning : Option Meaning)
      → Quiet base.read → Quiet (member_read tables owner at base meaning)
  writes_member owner at base None quiet = writes_unknown tables numbers
  writes_member owner at base (Some (means.CaseOf shape n)) quiet =
      writes_make_value tables numbers at shape (Some n) []
  writes_member owner at base (Some (means.PartOf n)) quiet =
      writes_of_base owner at base n quiet
  writes_member owner at base (Some means.TaskValue) quiet =
      writes_then tables numbers base.read _ quiet (λ task.
      writes_typed tables numbers at _ (λ ty. writes_give tables numbers at ty _ (λ r. tt)))
  writes_member owner at base (Some (means.Local variable)) quiet = writes_unknown tables numbers
  writes_member owner at base (Some (means.OwnPart n)) quiet = writes_unknown tables numbers
  writes_member owner at base (Some (means.OwnFunc n)) quiet = writes_unknown tables numbers
  writes_member owner at base (Some (means.GlobalOf n)) quiet = writes_unknown tables numbers
  writes_member owner at base (Some (means.FuncOf n)) quiet = writes_unknown tables numbers
  writes_member owner at base (Some (means.MakeOf shape)) quiet = writes_unknown tables numbers
  writes_member owner at base (Some means.Print) quiet = writes_unknown tables numbers
