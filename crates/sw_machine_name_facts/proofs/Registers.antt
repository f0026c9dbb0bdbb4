-- What registers name: those of a frame that is begun, and those that operands name.
use Rattle.std.proofs.Common.{◌≡◌, ℕ, inl, inr, Option, Some, None, List, [], ◌∷◌, Contains, refl, ap}
use Rattle.std.proofs.Common.{sym, ◌∙◌, subst}
use Rattle.std.specs.Prelude.{option_and_then}
use Rattle.std.specs.Option.{option_map}
use Rattle.std.specs.List.{slice_get}
use Rattle.sw_list.proofs.ListLemmas.{some_injective}
use Rattle.sw_list.proofs.Members.{none_in, first_or_later, member_at}
use Rattle.sw_graph.specs.declared.instr.Operand.{Operand}
use Rattle.sw_value.specs.declared.value.Value.{Value}
use Rattle.sw_value.specs.Lists.{each_of}
use Rattle.sw_value.specs.Value.{value_at, operand_value, reference_at, reference_of, values_at}
use Rattle.sw_value.specs.Value.{registers}
use Rattle.sw_machine_kind_facts.proofs.BeginLemmas.{register_is}
use Rattle.sw_reach_facts.specs.Reached.{references}
use Rattle.sw_machine_name_facts.specs.Names.{RegistersName}
use Rattle.sw_machine_name_facts.proofs.Parts.{refers}

-- the value of a register
pub in_register : (regs : List (Option Value)) (r : ℕ) (v : Value) (k : ℕ)
    → value_at regs r ≡ Some v → Contains (references v) k → RegistersName regs k
in_register regs r v k at names = record {
  register = r;
  value = v;
  has = by (slice_get regs r) at;
  names = names;
} where
  by : (o : Option (Option Value)) → option_and_then (λ w. w) o ≡ Some v → o ≡ Some (Some v)
  by None at = cc
  by (Some w) at = ap Some at

-- the cell that an operand refers to
pub in_reference : (regs : List (Option Value)) (o : Operand) (c : ℕ)
    → reference_at regs o ≡ Some c → RegistersName regs c
in_reference regs o c = by (operand_value regs o) refl where
  by : (v : Option Value) → operand_value regs o ≡ v → option_and_then reference_of v ≡ Some c
      → RegistersName regs c
  by None at is = cc
  by (Some v) at is = in_register regs o.reg v c at (refers v c is)

-- an item of what is asked of each
of_each : {A B : Type 0} (f : A → Option B) (xs : List A) (ys : List B) (y : B)
    → each_of f xs ≡ Some ys → Contains ys y → (x : A) × (f x ≡ Some y)
of_each f [] ys y is has =
    absurd (none_in y (subst (λ l. Contains l y) (some_injective (sym is)) has))
of_each {A} {B} f (x ∷ xs) ys y is has =
    by (f x) refl (each_of f xs) (λ zs later there. of_each f xs zs y later there) is where
      by : (o : Option B) → f x ≡ o → (rest : Option (List B))
          → ((zs : List B) → rest ≡ Some zs → Contains zs y → (a : A) × (f a ≡ Some y))
          → option_and_then (λ z. option_map (λ zs. z ∷ zs) rest) o ≡ Some ys
          → (a : A) × (f a ≡ Some y)
      by None first rest further is = cc
      by (Some z) first None further is = cc
      by (Some z) first (Some zs) further is =
          elim (first_or_later z zs y (subst (λ l. Contains l y) (some_injective (sym is)) has)) [
            | inl same ↦ (x, first ∙ ap Some same)
            | inr there ↦ further zs refl there
          ]

-- the values of operands
pub in_operands : (regs : List (Option Value)) (operands : List Operand) (vs : List Value)
    (v : Value) (k : ℕ) → values_at regs operands ≡ Some vs → Contains vs v
    → Contains (references v) k → RegistersName regs k
in_operands regs operands vs v k are has names =
    let found = of_each (operand_value regs) operands vs v are has in
    in_register regs found.0.reg v k found.1 names

-- registers of which the first have these values
pub of_registers : (count : ℕ) (vs : List Value) (k : ℕ) → RegistersName (registers count vs) k
    → (v : Value) × Contains vs v × Contains (references v) k
of_registers count vs k n = (
  n.value,
  member_at vs n.register n.value
      (sym (register_is count vs n.register) ∙ ap (option_and_then (λ w. w)) n.has),
  n.names,
)
