-- An assignment.
use Rattle.std.proofs.Common.{ℕ, ◌≢◌, ◌++◌, refl}
use Rattle.sw_tree.specs.declared.operator.AssignOp.{AssignOp}
use Rattle.sw_tree.specs.declared.operator.AssignOp.TheVariants as assigns
use Rattle.sw_types.specs.declared.ty.Ty.TheVariants as types
use Rattle.sw_graph.specs.declared.instr.BinOp.{BinOp}
use Rattle.sw_graph.specs.declared.instr.BinOp.TheVariants as bin
use Rattle.sw_graph.specs.declared.instr.Instr.TheVariants as instr
use Rattle.sw_graph.specs.declared.instr.Operand.{Operand}
use Rattle.sw_lower_code.specs.Code.{andthen}
use Rattle.sw_lower_rules.specs.Carriers.{ExprCode}
use Rattle.sw_lower_rules.specs.Statements.{assign, assign_by}
use Rattle.sw_lower_rules.specs.Uses.{give}
use Rattle.sw_lower_placed_facts.specs.Claims.{AreOrdinary, CodePlaced, ReadPlaced, WritePlaced}
use Rattle.sw_lower_placed_facts.specs.Placing.{PlacesWith}
use Rattle.sw_lower_placed_facts.specs.Hosts.{Program, Host}
use Rattle.sw_lower_placed_facts.proofs.Forms.Joining.{both_ordinary, then_with, with_then, with_weaker}
use Rattle.sw_lower_placed_facts.proofs.Forms.Values.{goes_give, goes_read}

module _ (program : Program) (host : Host) where
  -- a place that is read and assigned
  assign_by_placed : (at : ℕ) (op : BinOp) (place : ExprCode) (given : Operand)
      → ReadPlaced program host place → WritePlaced program host place
      → PlacesWith program host (assign_by at op place given) (AreOrdinary program place.inside)
  assign_by_placed at op place given read write =
      with_then place.read _ (goes_read program host place read) (λ inside old.
      then_with (give at types.Int (λ r. instr.Bin at r op old given)) place.write
      (goes_give program host at types.Int (λ r. instr.Bin at r op old given) (λ r. refl)
      (λ r regs. tt) (λ r. tt)) (λ x. write x))

  assigned_placed : (op : AssignOp) (at : ℕ) (place : ExprCode) (given : Operand)
      → (op ≢ assigns.Set → ReadPlaced program host place) → WritePlaced program host place
      → PlacesWith program host (assign op at place given) (AreOrdinary program place.inside)
  assigned_placed assigns.Set at place given read write = write given
  assigned_placed assigns.Add at place given read write =
      assign_by_placed at bin.Add place given (read (λ same. cc)) write
  assigned_placed assigns.Subtract at place given read write =
      assign_by_placed at bin.Sub place given (read (λ same. cc)) write
  assigned_placed assigns.Multiply at place given read write =
      assign_by_placed at bin.Mul place given (read (λ same. cc)) write
  assigned_placed assigns.Divide at place given read write =
      assign_by_placed at bin.Div place given (read (λ same. cc)) write
  assigned_placed assigns.Remainder at place given read write =
      assign_by_placed at bin.Rem place given (read (λ same. cc)) write

  pub assign_placed : (op : AssignOp) (at : ℕ) (place assigned : ExprCode)
      → (op ≢ assigns.Set → ReadPlaced program host place) → WritePlaced program host place
      → ReadPlaced program host assigned
      → CodePlaced program host (λ targets. andthen assigned.read (assign op at place))
      (place.inside ++ assigned.inside)
  assign_placed op at place assigned read write value targets =
      with_then assigned.read (assign op at place) (goes_read program host assigned value)
      (λ inside given.
      with_weaker (assign op at place given)
      (λ so. both_ordinary program place.inside assigned.inside so inside)
      (assigned_placed op at place given read write))
