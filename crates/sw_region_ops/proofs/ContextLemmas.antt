-- The elements of a function's registers.
use Rattle.std.proofs.Common.{◌≡◌, ◌≢◌, ℕ, ◌+◌, ◌<◌, ◌≤◌, zero}
use Rattle.std.proofs.Common.{suc, true, false, List, [], ◌∷◌, length}
use Rattle.std.proofs.Common.{Some, None, Option, refl, ap, arith, slice_get, IsTrue, cond}
use Rattle.std.proofs.Common.{if◌then◌else◌}
use Rattle.std.proofs.lemmas.List.Sums.{sum_by-cons}
use Rattle.std.specs.List.{All}
use Rattle.std.specs.Option.{is_some}
use Rattle.sw_list.proofs.ListLemmas.{at_index}
use Rattle.sw_graph.specs.WellFormed.{IsWellFormed, FunctionFits, type_in}
use Rattle.sw_graph.specs.Limits.{IsWithinLimits}
use Rattle.sw_graph.specs.declared.function.Function.{Function}
use Rattle.sw_graph.specs.declared.function.GlobalKind.{GlobalKind}
use Rattle.sw_graph.specs.declared.function.RegKind.{RegKind}
use Rattle.sw_graph.specs.declared.function.TheConstants.{MAX_REGISTERS}
use Rattle.sw_types.specs.declared.shape.Shape.{Shape}
use Rattle.sw_types.specs.Named.{is_within}
use Rattle.sw_region_ops.specs.Elements.{numbered, elements_of, element_at, element_count}
use Rattle.sw_region_ops.specs.Elements.{is_tracked}
use Rattle.sw_region_ops.specs.Elements.{AreElements}

pub length_numbered : (shapes : List Shape) (next : ℕ) (kinds : List RegKind)
    → length (numbered shapes next kinds) ≡ length kinds
length_numbered shapes next [] = refl
length_numbered shapes next (kind ∷ kinds) = elim (is_tracked shapes kind) as
    (λ b. length (if b then Some next ∷ numbered shapes (next + 1) kinds
    else None ∷ numbered shapes next kinds) ≡ suc (length kinds)) [
      | true ↦ ap suc (length_numbered shapes (next + 1) kinds)
      | false ↦ ap suc (length_numbered shapes next kinds)
    ]

counted_some : (x : ℕ) (rest : List (Option ℕ))
    → element_count (Some x ∷ rest) ≡ 1 + element_count rest
counted_some x rest =
    let h = sum_by-cons (λ (e : Option ℕ). cond (is_some e) 1 0) (Some x) rest in omega (arith, h)

counted_none : (rest : List (Option ℕ)) → element_count (None ∷ rest) ≡ element_count rest
counted_none rest =
    let h = sum_by-cons (λ (e : Option ℕ). cond (is_some e) 1 0) None rest in omega (arith, h)

-- what is said of each element of a table that is numbered from `next` on
abbrev pub IsBetween : ℕ → List (Option ℕ) → Type 0
IsBetween next elements = (r x : ℕ) → element_at elements r ≡ Some x
    → (next ≤ x) × (x + 1 < next + element_count elements)

pub numbered_between : (shapes : List Shape) (next : ℕ) (kinds : List RegKind)
    → IsBetween next (numbered shapes next kinds)
numbered_between shapes next [] = λ r x e. cc
numbered_between shapes next (kind ∷ kinds) = elim (is_tracked shapes kind) as
    (λ b. IsBetween next (if b then Some next ∷ numbered shapes (next + 1) kinds
    else None ∷ numbered shapes next kinds)) [
      | true ↦ there (numbered shapes (next + 1) kinds) (numbered_between shapes (next + 1) kinds)
      | false ↦ none (numbered shapes next kinds) (numbered_between shapes next kinds)
    ]
  where
    there : (rest : List (Option ℕ)) → IsBetween (next + 1) rest → IsBetween next (Some next ∷ rest)
    there rest later zero x e = let h : next ≡ x = cc in
        (omega arith, omega (arith, counted_some next rest))
    there rest later (suc r) x e = let h = later r x e in
        (omega (arith, h.0), omega (arith, h.1, counted_some next rest))

    none : (rest : List (Option ℕ)) → IsBetween next rest → IsBetween next (None ∷ rest)
    none rest later zero x e = cc
    none rest later (suc r) x e = let h = later r x e in
        (omega (arith, h.0), omega (arith, h.1, counted_none rest))

-- the elements of registers are there, and aren't `Here`
pub inside : (shapes : List Shape) (kinds : List RegKind) (r x : ℕ)
    → element_at (elements_of shapes kinds) r ≡ Some x
    → (x ≢ 0) × (x < element_count (elements_of shapes kinds))
inside shapes kinds r x e = let h = numbered_between shapes 1 kinds r x e in
    (λ zero_is. let e : x ≡ 0 = zero_is in omega (arith, h.0), omega (arith, h.1))

pub are_elements : (shapes : List Shape) (kinds : List RegKind) → length kinds ≤ MAX_REGISTERS
    → AreElements (elements_of shapes kinds)
are_elements shapes kinds few = record {
  few = omega (arith, length_numbered shapes 1 kinds);
  within = inside shapes kinds;
}

-- what a graph says of a function with a number
pub record IsFunctionOf (shapes : List Shape) (body : Function) : Type 0 where
  pub types : All (λ kind. IsTrue (is_within (length shapes) (type_in kind))) body.regs
  pub few : length body.regs ≤ MAX_REGISTERS

pub context_facts : {shapes : List Shape} {globals : List GlobalKind} {functions : List Function}
    {entry : ℕ} {starts : List ℕ} (n : ℕ) (body : Function)
    → IsWellFormed shapes globals functions entry starts → slice_get functions n ≡ Some body
    → IsFunctionOf shapes body
context_facts {shapes} {globals} {functions} n body fits here = record {
  types = (at_index (FunctionFits shapes globals functions) functions n body fits.each here).types;
  few = (at_index IsWithinLimits functions n body fits.limits here).registers;
}
