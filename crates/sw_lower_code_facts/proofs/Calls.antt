-- Calls and tasks have what each instruction has, whatever it is.
use Rattle.std.proofs.Common.{ℕ, List, Option, None}
use Rattle.sw_types.specs.declared.isolation.CallKind.{CallKind}
use Rattle.sw_types.specs.declared.shape.ShapeKind.{ShapeKind}
use Rattle.sw_types.specs.declared.shape.ShapeKind.TheVariants as shapes
use Rattle.sw_types.specs.declared.ty.Ty.{Ty}
use Rattle.sw_graph.specs.declared.function.RegKind.TheVariants.{Plain}
use Rattle.sw_graph.specs.declared.instr.Instr.{Instr}
use Rattle.sw_graph.specs.declared.instr.Operand.{Operand}
use Rattle.sw_decls.specs.declared.signature.Signature.{Signature}
use Rattle.sw_lower_code.specs.Code.{Code, emit}
use Rattle.sw_lower_code.specs.Whole.{Body}
use Rattle.sw_lower_rules.specs.Carriers.{ClosureCode}
use Rattle.sw_lower_rules.specs.Expressions.{both, either, spawn_read}
use Rattle.sw_lower_rules.specs.Tables.{Tables, getter_of, plain}
use Rattle.sw_lower_rules.specs.Uses.{call_func, call_getter, call_signature, give, make, make_by}
use Rattle.sw_lower_rules.specs.Uses.{operand}
use Rattle.sw_lower_code_facts.specs.Kept.{Kept, KeptByForms}
use Rattle.sw_lower_code_facts.proofs.Uses.{has_capture, has_each_of, has_make_value, has_shape_at}
use Rattle.sw_lower_code_facts.proofs.Uses.{has_typed, has_unknown}

module _ (kept : Kept) (emits : (instr : Instr) → kept.Has (emit instr)) where
  abbrev Has : {A : Type 0} → Code A → Type 0
  Has code = kept.Has code

  given : (at : ℕ) (ty : Ty) (instr : ℕ → Instr) → Has (give at ty instr)
  given at ty instr =
      kept.after _ _ (kept.reg (Plain ty)) (λ r.
      kept.after _ _ (emits (instr r)) (λ value. kept.done (operand r at)))

  module _ (tables : Tables) (owner : Option ℕ) where
    pub getter : (at : ℕ) (kind : CallKind) (ty : Ty) (key : ℕ) (operands : List Operand)
        → Has (call_getter tables at kind ty key operands)
    unfolding call_getter
    getter at kind ty key operands =
        kept.after _ _ (kept.number (getter_of key)) (λ f. given at ty _)

    signature : (at : ℕ) (operands : List Operand) (func : Signature)
        → Has (call_signature tables at operands func)
    signature at operands func =
        kept.after _ _ (kept.number (plain func.key.at)) (λ f.
        kept.after _ _ (kept.known _ _) (λ kind. given at func.result _))

    pub func : (at number : ℕ) (operands : List Operand) → Has (call_func tables at number operands)
    unfolding call_func
    func at number operands = kept.after _ _ (kept.known _ _) (signature at operands)

    maker_by : (kind : ShapeKind) (at shape : ℕ) (operands : List Operand)
        → Has (make_by tables kind at shape operands)
    maker_by shapes.Struct at shape operands = has_make_value kept at shape None operands
    maker_by shapes.Enum at shape operands = has_unknown kept
    maker_by shapes.Class at shape operands =
        kept.after _ _ (kept.known _ _) (signature at operands)
    maker_by shapes.Actor at shape operands =
        kept.after _ _ (kept.known _ _) (signature at operands)

    pub maker : (at shape : ℕ) (operands : List Operand) → Has (make tables at shape operands)
    unfolding make
    maker at shape operands =
        kept.after _ _ (has_shape_at kept tables shape) (λ s.
        maker_by s.kind at shape operands)

    pub task : (at : ℕ) (closure : ClosureCode) → Has (spawn_read tables owner at closure)
    task at closure =
        kept.after _ _
        (has_each_of kept _ (tables.isolation.captures_of closure.at) (has_capture kept tables at))
        (λ operands.
        kept.after _ _ (kept.number (plain closure.at)) (λ f.
        kept.after _ _ (has_typed kept tables at) (λ ty. given at ty _)))

    module _ (conjoined : (at : ℕ) (right : Code Operand) (left : Operand) → Has right
        → Has (both at right left))
        (disjoined : (at : ℕ) (right : Code Operand) (left : Operand) → Has right
        → Has (either at right left)) where
      -- Nothing is required of the bodies inside.
      pub kept_by_forms : KeptByForms kept tables owner
      kept_by_forms = record {
        Inside = λ bodies. Unit {0};
        first = λ xs ys all. tt;
        rest = λ xs ys all. tt;
        conjoined = conjoined;
        disjoined = disjoined;
        getter = getter;
        func = λ at number operands means. func at number operands;
        maker = λ at shape operands means. maker at shape operands;
        task = λ at closure inside. task at closure;
      }

      pub none_required : (bodies : List Body) → kept_by_forms.Inside bodies
      unfolding kept_by_forms
      none_required bodies = tt
