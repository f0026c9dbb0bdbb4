-- The code for what names mean has what its steps have.
use Rattle.std.proofs.Common.{ℕ, Bool, true, false, List, [], ◌∷◌, Option, Some, None}
use Rattle.std.specs.List.{AllByRecursion}
use Rattle.std.specs.Prelude.{if◌then◌else◌}
use Rattle.sw_types.specs.declared.isolation.CallKind.{CallKind}
use Rattle.sw_types.specs.declared.shape.Shape.{Shape}
use Rattle.sw_types.specs.declared.shape.ShapeKind.{ShapeKind}
use Rattle.sw_types.specs.declared.shape.ShapeKind.TheVariants as shapes
use Rattle.sw_types.specs.declared.ty.Ty.{Ty}
use Rattle.sw_graph.specs.declared.function.RegKind.TheVariants.{Plain}
use Rattle.sw_graph.specs.declared.instr.Instr.{Instr}
use Rattle.sw_graph.specs.declared.instr.Operand.{Operand}
use Rattle.sw_decls.specs.declared.signature.GlobalVar.{GlobalVar}
use Rattle.sw_typing_rules.specs.declared.row.Meaning.{Meaning}
use Rattle.sw_typing_rules.specs.declared.row.Meaning.TheVariants as means
use Rattle.sw_isolation_rules.specs.declared.note.Capture.{Capture}
use Rattle.sw_lower_plans.specs.declared.bound.Bound.{Bound}
use Rattle.sw_lower_code.specs.Code.{Code, each}
use Rattle.sw_lower_rules.specs.Tables.{Tables}
use Rattle.sw_lower_rules.specs.Uses.{call_closure, call_getter, capture, capture_bound, from_box}
use Rattle.sw_lower_rules.specs.Uses.{give, global_by}
use Rattle.sw_lower_rules.specs.Uses.{listed_value, make_value, operand, part_at, part_by, part_in}
use Rattle.sw_lower_rules.specs.Uses.{read_bound, read_global, read_own, read_part, read_self}
use Rattle.sw_lower_rules.specs.Uses.{read_var, read_word, shape_at, shape_of, typed, unknown}
use Rattle.sw_lower_rules.specs.Uses.{word_by, write_bound, write_var}
use Rattle.sw_lower_code_facts.specs.Kept.{CallsNothing, Kept}

module _ (kept : Kept) where
  abbrev Has : {A : Type 0} → Code A → Type 0
  Has code = kept.Has code

  -- one of two codes
  pub has_if : {A : Type 0} (is : Bool) (one other : Code A) → Has one → Has other
      → Has (if is then one else other)
  has_if true one other first second = first
  has_if false one other first second = second

  -- code for each item
  pub has_each : {A B : Type 0} (code : A → Code B) (xs : List A)
      → AllByRecursion (λ x. Has (code x)) xs → Has (each code xs)
  unfolding each
  has_each code [] all = kept.done []
  has_each code (x ∷ xs) all =
      kept.after (code x) _ all.0 (λ y.
      kept.after (each code xs) _ (has_each code xs all.1) (λ ys. kept.done (y ∷ ys)))

  pub has_each_of : {A B : Type 0} (code : A → Code B) (xs : List A) → ((x : A) → Has (code x))
      → Has (each code xs)
  unfolding each
  has_each_of code [] all = kept.done []
  has_each_of code (x ∷ xs) all =
      kept.after (code x) _ (all x) (λ y.
      kept.after (each code xs) _ (has_each_of code xs all) (λ ys. kept.done (y ∷ ys)))

  pub has_unknown : Has unknown
  unfolding unknown
  has_unknown = kept.known _ _

  -- a value in a register that is made for it
  pub has_give : (at : ℕ) (ty : Ty) (instr : ℕ → Instr) → ((r : ℕ) → CallsNothing (instr r))
      → Has (give at ty instr)
  has_give at ty instr so =
      kept.after _ _ (kept.reg (Plain ty)) (λ r.
      kept.after _ _ (kept.emit (instr r) (so r)) (λ value. kept.done (operand r at)))

  has_write_bound : (at : ℕ) (given : Operand) (bound : Bound) → Has (write_bound at given bound)
  unfolding write_bound
  has_write_bound at given bound =
      has_if bound.boxed _ _ (kept.emit _ tt) (kept.emit _ tt)

  pub has_make_value : (at shape : ℕ) (tag : Option ℕ) (operands : List Operand)
      → Has (make_value at shape tag operands)
  unfolding make_value
  has_make_value at shape tag operands = has_give at _ _ (λ r. tt)

  module _ (tables : Tables) where
    pub has_typed : (key : ℕ) → Has (typed tables key)
    unfolding typed
    has_typed key = kept.known _ _

    pub has_shape_at : (number : ℕ) → Has (shape_at tables number)
    unfolding shape_at
    has_shape_at number = kept.known _ _

    pub has_shape_of : (key : ℕ) → Has (shape_of tables key)
    unfolding shape_of
    has_shape_of key = kept.known _ _

    -- variables
    has_from_box : (at : ℕ) (bound : Bound) → Has (from_box tables at bound)
    has_from_box at bound =
        kept.after _ _ (has_typed bound.key) (λ ty. has_give at ty _ (λ r. tt))

    has_read_bound : (at : ℕ) (bound : Bound) → Has (read_bound tables at bound)
    unfolding read_bound
    has_read_bound at bound = has_if bound.boxed _ _ (has_from_box at bound) (kept.done _)

    pub has_read_var : (at key : ℕ) → Has (read_var tables at key)
    unfolding read_var
    has_read_var at key = kept.after _ _ (kept.var key) (has_read_bound at)

    pub has_write_var : (at key : ℕ) (given : Operand) → Has (write_var tables at key given)
    unfolding write_var
    has_write_var at key given = kept.after _ _ (kept.var key) (has_write_bound at given)

    pub has_call_closure : (at : ℕ) (closure : Operand) (operands : List Operand)
        → Has (call_closure tables at closure operands)
    unfolding call_closure
    has_call_closure at closure operands =
        kept.after _ _ (has_typed at) (λ ty. has_give at ty _ (λ r. tt))

    -- captures
    has_listed : (at : ℕ) (one : Capture) (bound : Bound) → Has (listed_value tables at one bound)
    has_listed at one bound =
        kept.after _ _ (has_typed bound.key) (λ ty.
        kept.after _ _ (kept.reg (Plain ty)) (λ r.
        kept.after _ _ (kept.emit _ tt) (λ value. kept.done _)))

    has_capture_bound : (at : ℕ) (one : Capture) (bound : Bound)
        → Has (capture_bound tables at one bound)
    unfolding capture_bound
    has_capture_bound at one bound =
        has_if one.by_ref _ _ (has_if bound.boxed _ _ (kept.done _) has_unknown)
        (has_if bound.boxed _ _ (has_listed at one bound) (kept.done _))

    pub has_capture : (at : ℕ) (one : Capture) → Has (capture tables at one)
    unfolding capture
    has_capture at one = kept.after _ _ (kept.var one.variable) (has_capture_bound at one)

    module _ (owner : Option ℕ)
        (getter : (at : ℕ) (kind : CallKind) (ty : Ty) (key : ℕ) (operands : List Operand)
        → Has (call_getter tables at kind ty key operands)) where
      -- properties
      has_part_by : (kind : Option CallKind) (at shape number : ℕ) (ty : Ty) (cell : Operand)
          → Has (part_by tables kind at shape number ty cell)
      has_part_by None at shape number ty cell = has_give at ty _ (λ r. tt)
      has_part_by (Some kind) at shape number ty cell =
          kept.after _ _ (kept.known _ _) (λ key. getter at kind ty key (cell ∷ []))

      has_part_in : (kind : ShapeKind) (at shape number : ℕ) (ty : Ty) (base : Operand)
          → Has (part_in tables kind at shape number ty base)
      has_part_in shapes.Struct at shape number ty base = has_give at ty _ (λ r. tt)
      has_part_in shapes.Enum at shape number ty base = has_unknown
      has_part_in shapes.Class at shape number ty base =
          has_part_by (tables.isolation.kind_at at) at shape number ty base
      has_part_in shapes.Actor at shape number ty base =
          has_part_by (tables.isolation.kind_at at) at shape number ty base

      has_part_at : (number : ℕ) (shape : Shape) → Has (part_at tables number shape)
      unfolding part_at
      has_part_at number shape = kept.known _ _

      pub has_read_part : (at shape number : ℕ) (base : Operand)
          → Has (read_part tables at shape number base)
      unfolding read_part
      has_read_part at shape number base =
          kept.after _ _ (has_shape_at shape) (λ s.
          kept.after _ _ (has_part_at number s) (λ part.
          has_part_in s.kind at shape number part.ty base))

      -- global variables
      has_global_by : (kind : Option CallKind) (at number : ℕ) (global : GlobalVar)
          → Has (global_by tables kind at number global)
      has_global_by None at number global = has_give at global.ty _ (λ r. tt)
      has_global_by (Some kind) at number global =
          getter at kind global.ty global.key.at []

      pub has_read_global : (at number : ℕ) → Has (read_global tables at number)
      unfolding read_global
      has_read_global at number =
          kept.after _ _ (kept.known _ _) (has_global_by (tables.isolation.kind_at at) at number)

      -- `self` and words
      pub has_read_self : (at : ℕ) → Has (read_self tables owner at)
      unfolding read_self
      has_read_self at = kept.after _ _ (kept.known _ _) (λ key. has_read_var at key)

      pub has_read_own : (at number : ℕ) → Has (read_own tables owner at number)
      unfolding read_own
      has_read_own at number =
          kept.after _ _ (has_read_self at) (λ me.
          kept.after _ _ (kept.known _ _) (λ shape. has_read_part at shape number me))

      has_word_by : (at : ℕ) (meaning : Option Meaning) → Has (word_by tables owner at meaning)
      has_word_by at None = has_unknown
      has_word_by at (Some (means.Local variable)) = has_read_var at variable
      has_word_by at (Some (means.OwnPart number)) = has_read_own at number
      has_word_by at (Some (means.OwnFunc number)) = has_unknown
      has_word_by at (Some (means.GlobalOf number)) = has_read_global at number
      has_word_by at (Some (means.FuncOf number)) = has_unknown
      has_word_by at (Some (means.MakeOf shape)) = has_unknown
      has_word_by at (Some (means.CaseOf shape number)) = has_unknown
      has_word_by at (Some (means.PartOf number)) = has_unknown
      has_word_by at (Some means.Print) = has_unknown
      has_word_by at (Some means.TaskValue) = has_unknown

      pub has_read_word : (at : ℕ) → Has (read_word tables owner at)
      unfolding read_word
      has_read_word at = has_word_by at (tables.answers.meaning_at at)
