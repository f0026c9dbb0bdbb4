-- What stays as a function has more registers.
use Rattle.std.proofs.Common.{◌≡◌, ℕ, ◌<◌, List, ◌++◌, length, ap, ◌∙◌, arith}
use Rattle.std.proofs.Common.{Some, append_assoc, length-append}
use Rattle.std.specs.Prelude.{All, slice_get}
use Rattle.sw_types.specs.declared.ty.Ty.{Ty}
use Rattle.sw_graph.specs.declared.function.RegKind.{RegKind}
use Rattle.sw_graph.specs.declared.function.RegKind.TheVariants.{Plain}
use Rattle.sw_graph.specs.declared.instr.Operand.{Operand}
use Rattle.sw_list.proofs.ListLemmas.{slice_get_before}
use Rattle.sw_lower_plans.specs.Run.{Making}
use Rattle.sw_lower_formed_facts.specs.Safe.{IsStart}
use Rattle.sw_lower_placed_facts.specs.Allowed.{RegisterHasType}

-- One function has the registers of another, and maybe more.
pub record IsLater (s u : Making) : Type 0 where
  pub regs : IsStart s.made.regs u.made.regs

-- These operands are in registers that were made.
abbrev pub AreBelow : Making → List Operand → Type 0
AreBelow s xs = All (λ (x : Operand). x.reg < length s.made.regs) xs

pub later_then : (s t u : Making) → IsLater s t → IsLater t u → IsLater s u
later_then s t u one two = record {
  regs = (
    one.regs.0 ++ two.regs.0,
    two.regs.1
        ∙ ap (λ regs. regs ++ two.regs.0) one.regs.1
        ∙ append_assoc s.made.regs one.regs.0 two.regs.0,
  );
}

-- A register keeps its kind where more are made after it.
pub start_keeps : (regs more : List RegKind) (r : ℕ) (kind : RegKind) → IsStart regs more
    → slice_get regs r ≡ Some kind → slice_get more r ≡ Some kind
start_keeps regs more r kind start is =
    ap (λ list. slice_get list r) start.1 ∙ slice_get_before regs start.0 r kind is

pub reg_later : (s u : Making) (r : ℕ) (kind : RegKind) → IsLater s u
    → slice_get s.made.regs r ≡ Some kind → slice_get u.made.regs r ≡ Some kind
reg_later s u r kind later is = start_keeps s.made.regs u.made.regs r kind later.regs is

pub type_later : (s u : Making) (r : ℕ) (ty : Ty) → IsLater s u → RegisterHasType s.made.regs r ty
    → RegisterHasType u.made.regs r ty
type_later s u r ty later is = reg_later s u r (Plain ty) later is

pub below_later : (s u : Making) (r : ℕ) → IsLater s u → r < length s.made.regs
    → r < length u.made.regs
below_later s u r later below =
    omega (arith, below, ap length later.regs.1, length-append s.made.regs later.regs.0)
