-- The code of variables, of properties and of what is made.
use Rattle.std.proofs.Common.{◌≡◌, ℕ, Bool, true, false, List, Option, Some, None, subst}
use Rattle.std.proofs.Common.{refl, sym, slice_get}
use Rattle.std.specs.Prelude.{if◌then◌else◌}
use Rattle.sw_types.specs.declared.isolation.CallKind.{CallKind}
use Rattle.sw_types.specs.declared.shape.Part.{Part}
use Rattle.sw_types.specs.declared.shape.Shape.{Shape}
use Rattle.sw_types.specs.declared.shape.ShapeKind.{ShapeKind}
use Rattle.sw_types.specs.declared.shape.ShapeKind.TheVariants as shapes
use Rattle.sw_types.specs.declared.ty.Ty.{Ty}
use Rattle.sw_graph.specs.declared.instr.Operand.{Operand}
use Rattle.sw_decls.specs.declared.signature.Signature.{Signature}
use Rattle.sw_isolation_rules.specs.Uses.{maker_at}
use Rattle.sw_lower_plans.specs.Plan.{Numbers}
use Rattle.sw_lower_plans.specs.declared.bound.Bound.{Bound}
use Rattle.sw_lower_code.specs.Code.{Code, known, var, ◌>>=◌}
use Rattle.sw_lower_rules.specs.Tables.{Tables}
use Rattle.sw_lower_rules.specs.Uses.{call_getter, call_signature, from_box, make, make_by}
use Rattle.sw_lower_rules.specs.Uses.{make_value, part_at, part_by, part_in, read_bound, read_part}
use Rattle.sw_lower_rules.specs.Uses.{read_var, shape_at, typed, unknown}
use Rattle.sw_lower_total_facts.specs.Known.{IsMade}
use Rattle.sw_lower_first_facts.specs.Quiet.{WritesQuiet, getter, maker}
use Rattle.sw_lower_first_facts.proofs.Quiet.Joining.{known_writes, number_writes, writes_done}
use Rattle.sw_lower_first_facts.proofs.Quiet.Joining.{writes_give, writes_then, writes_var}

module _ (tables : Tables) (numbers : Numbers) where
  -- code of one of two kinds
  writes_either : {A : Type 0} (test : Bool) (one other : Code A) → WritesQuiet tables numbers one
      → WritesQuiet tables numbers other → WritesQuiet tables numbers (if test then one else other)
  writes_either true one other first second = first
  writes_either false one other first second = second

  -- no accepted program asks for this, and no run of it ends
  pub writes_unknown : WritesQuiet tables numbers unknown
  unfolding unknown known
  writes_unknown s t given going same ran = tt

  pub writes_typed : {B : Type 0} (key : ℕ) (next : Ty → Code B)
      → ((ty : Ty) → WritesQuiet tables numbers (next ty))
      → WritesQuiet tables numbers (typed tables key >>= next)
  unfolding typed
  writes_typed key next other = known_writes tables numbers _ _ next (λ ty is. other ty)

  pub writes_make_value : (at shape : ℕ) (tag : Option ℕ) (operands : List Operand)
      → WritesQuiet tables numbers (make_value at shape tag operands)
  unfolding make_value
  writes_make_value at shape tag operands = writes_give tables numbers at _ _ (λ r. tt)

  writes_bound : (at : ℕ) (bound : Bound) → WritesQuiet tables numbers (read_bound tables at bound)
  unfolding read_bound
  writes_bound at bound =
      writes_either bound.boxed (from_box tables at bound) _
      (writes_typed bound.key _ (λ ty. writes_give tables numbers at ty _ (λ r. tt)))
      (writes_done tables numbers _)

  pub writes_var_read : (at key : ℕ) → WritesQuiet tables numbers (read_var tables at key)
  unfolding read_var
  writes_var_read at key =
      writes_then tables numbers (var key) _ (writes_var tables numbers key) (writes_bound at)

  -- a property, which may be read by a call of its getter
  writes_part_by : (kind : Option CallKind) (at k i : ℕ) (shape : Shape) (part : Part)
      → slice_get tables.world.shapes k ≡ Some shape → slice_get shape.parts i ≡ Some part
      → (cell : Operand) → WritesQuiet tables numbers (part_by tables kind at k i part.ty cell)
  unfolding call_getter
  writes_part_by None at k i shape part there is cell =
      writes_give tables numbers at part.ty _ (λ r. tt)
  writes_part_by (Some kind) at k i shape part there is cell =
      known_writes tables numbers _ _ _ (λ key key_is.
      number_writes tables numbers _ _ (λ f found.
      writes_give tables numbers at part.ty _ (λ r. record {
        name = _;
        found = found;
        quiet = getter k i key shape part there is key_is;
      })))

  writes_part_in : (kind : ShapeKind) (at k i : ℕ) (shape : Shape) (part : Part)
      → slice_get tables.world.shapes k ≡ Some shape → slice_get shape.parts i ≡ Some part
      → (base : Operand) → WritesQuiet tables numbers (part_in tables kind at k i part.ty base)
  writes_part_in shapes.Struct at k i shape part there is base =
      writes_give tables numbers at part.ty _ (λ r. tt)
  writes_part_in shapes.Enum at k i shape part there is base = writes_unknown
  writes_part_in shapes.Class at k i shape part there is base =
      writes_part_by (tables.isolation.kind_at at) at k i shape part there is base
  writes_part_in shapes.Actor at k i shape part there is base =
      writes_part_by (tables.isolation.kind_at at) at k i shape part there is base

  pub writes_part : (at k i : ℕ) (base : Operand)
      → WritesQuiet tables numbers (read_part tables at k i base)
  unfolding read_part shape_at part_at
  writes_part at k i base =
      known_writes tables numbers _ _ _ (λ shape there.
      known_writes tables numbers _ _ _ (λ part is.
      writes_part_in shape.kind at k i shape part there is base))

  -- what is made
  writes_maker : (at k : ℕ) (shape : Shape) (func : Signature)
      → slice_get tables.world.shapes k ≡ Some shape → IsMade shape.kind
      → maker_at tables.world k ≡ Some func → (operands : List Operand)
      → WritesQuiet tables numbers (call_signature tables at operands func)
  writes_maker at k shape func there made is operands =
      number_writes tables numbers _ _ (λ f found.
      known_writes tables numbers _ _ _ (λ kind kind_is.
      writes_give tables numbers at func.result _ (λ r. record {
        name = _;
        found = found;
        quiet = maker k shape func there made is;
      })))

  writes_make_by : (kind : ShapeKind) (at k : ℕ) (shape : Shape) → shape.kind ≡ kind
      → slice_get tables.world.shapes k ≡ Some shape → (operands : List Operand)
      → WritesQuiet tables numbers (make_by tables kind at k operands)
  writes_make_by shapes.Struct at k shape is there operands = writes_make_value at k None operands
  writes_make_by shapes.Enum at k shape is there operands = writes_unknown
  writes_make_by shapes.Class at k shape is there operands =
      known_writes tables numbers _ _ _ (λ func made.
      writes_maker at k shape func there (subst IsMade (sym is) tt) made operands)
  writes_make_by shapes.Actor at k shape is there operands =
      known_writes tables numbers _ _ _ (λ func made.
      writes_maker at k shape func there (subst IsMade (sym is) tt) made operands)

  pub writes_make : (at k : ℕ) (operands : List Operand)
      → WritesQuiet tables numbers (make tables at k operands)
  unfolding make shape_at
  writes_make at k operands =
      known_writes tables numbers _ _ _ (λ shape there.
      writes_make_by shape.kind at k shape refl there operands)
