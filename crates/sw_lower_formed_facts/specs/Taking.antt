-- What the registers have that a body takes, and what a closure captures for it.
use Rattle.std.specs.Prelude.{◌≡◌, ℕ, List, [], ◌∷◌, Option, Some, slice_get}
use Rattle.sw_types.specs.declared.ty.Ty.{Ty}
use Rattle.sw_graph.specs.Kinds.{IsCaptured}
use Rattle.sw_graph.specs.declared.instr.Operand.{Operand}
use Rattle.sw_isolation_rules.specs.declared.note.Capture.{Capture}
use Rattle.sw_lower_code.specs.declared.taken.Taken.{Taken}
use Rattle.sw_lower_rules.specs.Expressions.{capture_taken, captured_kind}
use Rattle.sw_lower_rules.specs.Tables.{Tables}
use Rattle.sw_lower_formed_facts.specs.Ground.{HasVarType, IsDeclaredIn, kind_by}
use Rattle.sw_lower_formed_facts.specs.Safe.{Position, here}
use Rattle.sw_lower_formed_facts.specs.Whole.{IsSet, Whole}

-- What a body takes has its kind by the type of the variable that it is.
pub record TakenOk (tables : Tables) (owner : Option ℕ) (taken : Taken) : Type 0 where
  pub ty : Ty
  pub typed : HasVarType tables owner taken.key ty
  pub kind : taken.kind ≡ kind_by taken.boxed ty
  pub declared : IsDeclaredIn tables ty

-- an operand that is captured, and what is taken for it
pub record IsHeld (tables : Tables) (owner : Option ℕ) (w : Whole) (q : Position) (one : Capture)
    (x : Operand) : Type 0 where
  pub kind : IsCaptured (slice_get w.regs x.reg) (Some (captured_kind tables owner one))
  pub set : IsSet w q.writes (here q) x.reg
  pub taken : TakenOk tables owner (capture_taken tables owner one)

-- an operand for each capture, in order
abbrev pub AreHeld : Tables → Option ℕ → Whole → Position → List Capture → List Operand → Type 0
AreHeld tables owner w q [] [] = Unit {0}
AreHeld tables owner w q (one ∷ more) (x ∷ xs) =
    IsHeld tables owner w q one x × AreHeld tables owner w q more xs
AreHeld tables owner w q _ _ = ⊥
