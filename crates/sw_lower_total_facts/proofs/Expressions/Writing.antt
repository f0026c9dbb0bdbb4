-- An assignment to a part of a cell, or of a struct's value, which is assigned with it.
use Rattle.std.proofs.Common.{◌≡◌, ℕ, true, false, List, Option, Some, refl, true≢false}
use Rattle.std.specs.Prelude.{slice_get}
use Rattle.sw_types.specs.declared.shape.Shape.{Shape}
use Rattle.sw_types.specs.declared.shape.ShapeKind.{ShapeKind}
use Rattle.sw_types.specs.declared.shape.ShapeKind.TheVariants as shapes
use Rattle.sw_types.specs.declared.ty.Ty.TheVariants as types
use Rattle.sw_graph.specs.Kinds.{is_enum, is_struct}
use Rattle.sw_graph.specs.declared.function.RegKind.TheVariants.{Plain}
use Rattle.sw_graph.specs.declared.instr.Instr.TheVariants as instr
use Rattle.sw_graph.specs.declared.instr.Operand.{Operand}
use Rattle.sw_typing_rules.specs.declared.scope.Var.{Var}
use Rattle.sw_isolation_rules.specs.declared.note.Note.{Note}
use Rattle.sw_isolation_rules.specs.declared.uses.Context.{Context}
use Rattle.sw_lower_plans.specs.Plan.{Numbers}
use Rattle.sw_lower_code.specs.Code.{Code, emit, reg, ◌>>=◌, ◌>>◌}
use Rattle.sw_lower_rules.specs.Carriers.{ExprCode}
use Rattle.sw_lower_rules.specs.Expressions.{set_part, write_part}
use Rattle.sw_lower_rules.specs.Tables.{Tables}
use Rattle.sw_lower_rules.specs.Uses.{no_shape, operand, shape_at}
use Rattle.sw_lower_total_facts.specs.Bound.{seen_in}
use Rattle.sw_lower_total_facts.specs.Known.{TablesAgree}
use Rattle.sw_lower_total_facts.proofs.Proceeding.Each.{Goes}
use Rattle.sw_lower_total_facts.proofs.Proceeding.Using.{goes_emit, goes_known, goes_reg, goes_then}

module _ (tables : Tables) (number_of : Numbers) (all : List Note)
    (knows : TablesAgree tables number_of all) (context : Context) (listed : List ℕ)
    (vars : List Var)
    (notes : List Note) (owner : Option ℕ) where
  abbrev seen : List ℕ
  seen = seen_in tables context.owner vars

  abbrev Going : {A : Type 0} → Code A → Type 0
  Going code = Goes tables number_of context listed seen notes code

  -- A struct's value is read, copied with the new part, and assigned.
  struct_written : (at k i : ℕ) (base : ExprCode) (given : Operand) → Going base.read
      → ((x : Operand) → Going (base.write x))
      → Going (set_part tables owner shapes.Struct at k i base given)
  struct_written at k i base given read write =
      goes_then tables number_of context listed seen notes base.read
      (λ old. reg (Plain (types.Named k))
      >>= λ r. emit (instr.Copy at r old)
      >> emit (instr.SetField at (operand r base.key) i given) >> base.write (operand r base.key))
      read
      (λ old. goes_then tables number_of context listed seen notes (reg (Plain (types.Named k)))
      (λ r. emit (instr.Copy at r old)
      >> emit (instr.SetField at (operand r base.key) i given) >> base.write (operand r base.key))
      (goes_reg tables number_of context listed seen notes (Plain (types.Named k)))
      (λ r. goes_then tables number_of context listed seen notes (emit (instr.Copy at r old))
      (λ _. emit (instr.SetField at (operand r base.key) i given)
      >> base.write (operand r base.key))
      (goes_emit tables number_of context listed seen notes (instr.Copy at r old))
      (λ _. goes_then tables number_of context listed seen notes
      (emit (instr.SetField at (operand r base.key) i given))
      (λ _. base.write (operand r base.key))
      (goes_emit tables number_of context listed seen notes
      (instr.SetField at (operand r base.key) i given))
      (λ _. write (operand r base.key)))))

  -- A cell takes the value.
  cell_written : (at i : ℕ) (base : ExprCode) (given : Operand) → Going base.read
      → Going (base.read >>= λ cell. emit (instr.StoreProp at cell i given))
  cell_written at i base given read =
      goes_then tables number_of context listed seen notes base.read
      (λ cell. emit (instr.StoreProp at cell i given)) read
      (λ cell. goes_emit tables number_of context listed seen notes
      (instr.StoreProp at cell i given))

  pub goes_write_part : (at k i : ℕ) (shape : Shape) (base : ExprCode) (given : Operand)
      → slice_get tables.world.shapes k ≡ Some shape → is_enum shape.kind ≡ false
      → Going base.read
      → (is_struct shape.kind ≡ true → (x : Operand) → Going (base.write x))
      → Going (write_part tables owner at k i base given)
  unfolding write_part shape_at
  goes_write_part at k i shape base given is no_enum read write =
      goes_known tables number_of context listed seen notes no_shape
      (slice_get tables.world.shapes k) shape
      (λ s. set_part tables owner s.kind at k i base given) is
      (by shape.kind no_enum write) where
        by : (kind : ShapeKind) → is_enum kind ≡ false
            → (is_struct kind ≡ true → (x : Operand) → Going (base.write x))
            → Going (set_part tables owner kind at k i base given)
        by shapes.Struct none writes = struct_written at k i base given read (writes refl)
        by shapes.Enum none writes = absurd (true≢false none)
        by shapes.Class none writes = cell_written at i base given read
        by shapes.Actor none writes = cell_written at i base given read
