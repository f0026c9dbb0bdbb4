-- Blocks without payloads.
use Rattle.std.proofs.Common.{◌≡◌, ℕ, ◌||◌, Bool, true, false, cond, not, IsTrue, List, [], ◌∷◌}
use Rattle.std.proofs.Common.{◌++◌}
use Rattle.std.proofs.Common.{refl, ap, ◌∙◌}
use Rattle.std.specs.List.{All}
use Rattle.std.proofs.lemmas.List.Elements.{All-nil, All-cons}
use Rattle.sw_types.specs.declared.shape.Shape.{Shape}
use Rattle.sw_graph.specs.declared.function.Function.{Function}
use Rattle.sw_graph.specs.declared.instr.Block.{Block}
use Rattle.sw_graph.specs.declared.instr.Instr.{Instr}
use Rattle.sw_graph.specs.declared.instr.Instr.TheVariants.{Payload}
use Rattle.sw_graph.specs.Payloads.{is_payload, has_payload, in_front, PayloadFits, PayloadsFit}

neither : (a b : Bool) → (a || b) ≡ false → (a ≡ false) × (b ≡ false)
neither true b none = cc
neither false b none = (refl, none)

pub no_payload-append : (xs ys : List Instr) → has_payload xs ≡ false → has_payload ys ≡ false
    → has_payload (xs ++ ys) ≡ false
no_payload-append [] ys none also = also
no_payload-append (x ∷ xs) ys none also =
    let parts = neither (is_payload x) (has_payload xs) none in
    ap (λ b. b || has_payload (xs ++ ys)) parts.0 ∙ no_payload-append xs ys parts.1 also

in_front-none : (instrs : List Instr) → has_payload instrs ≡ false → IsTrue (in_front instrs)
in_front-none [] none = refl
in_front-none (instr ∷ instrs) none =
    let parts = neither (is_payload instr) (has_payload instrs) none in
    ap (λ b. cond b (in_front instrs) (not (has_payload instrs))) parts.0 ∙ ap not parts.1

one_fits : (shapes : List Shape) (function : Function) (number : ℕ) (instr : Instr)
    → is_payload instr ≡ false → PayloadFits shapes function number instr
one_fits shapes function number (Payload at r s i) none = cc
one_fits shapes function number _ none = tt

all_fit : (shapes : List Shape) (function : Function) (number : ℕ) (instrs : List Instr)
    → has_payload instrs ≡ false → All (PayloadFits shapes function number) instrs
all_fit shapes function number [] none = All-nil (PayloadFits shapes function number)
all_fit shapes function number (instr ∷ instrs) none =
    let parts = neither (is_payload instr) (has_payload instrs) none in
    All-cons (PayloadFits shapes function number) instr instrs
    (one_fits shapes function number instr parts.0)
    (all_fit shapes function number instrs parts.1)

-- A block without payloads is fit in every place.
pub no_payloads_fit : (shapes : List Shape) (function : Function) (number : ℕ) (block : Block)
    → has_payload block.instrs ≡ false → PayloadsFit shapes function number block
no_payloads_fit shapes function number block none = record {
  front = in_front-none block.instrs none;
  each = all_fit shapes function number block.instrs none;
}
