-- Where payloads of an enum's cases are taken: at the front of the blocks that a switch leads to.
use Rattle.std.specs.Prelude.{◌≡◌, ◌≢◌, ℕ, ◌<◌, Bool, true, false, cond, not, ◌||◌, IsTrue, Option}
use Rattle.std.specs.Prelude.{Some}
use Rattle.std.specs.Prelude.{List, [], ◌∷◌, slice_get}
use Rattle.std.specs.List.{All}
use Rattle.std.specs.Option.{option_and_then}
use Rattle.sw_types.specs.declared.shape.Shape.{Shape}
use Rattle.sw_graph.specs.declared.function.Function.{Function}
use Rattle.sw_graph.specs.declared.function.RegKind.{RegKind}
use Rattle.sw_graph.specs.declared.instr.Block.{Block}
use Rattle.sw_graph.specs.declared.instr.Instr.{Instr}
use Rattle.sw_graph.specs.declared.instr.Instr.TheVariants.{Payload}
use Rattle.sw_graph.specs.declared.instr.Last.{Last}
use Rattle.sw_graph.specs.declared.instr.Last.TheVariants.{Switch}
use Rattle.sw_graph.specs.declared.instr.Operand.{Operand}
use Rattle.sw_graph.specs.Kinds.{Goes, shape_of, is_enum, payload}
use Rattle.sw_graph.specs.Mentions.{blocks_of}

abbrev pub is_payload : Instr → Bool
is_payload (Payload at dst src index) = true
is_payload _ = false

abbrev pub has_payload : List Instr → Bool
has_payload [] = false
has_payload (instr ∷ instrs) = is_payload instr || has_payload instrs

-- whether payloads stand in front alone, each after other payloads
abbrev pub in_front : List Instr → Bool
in_front [] = true
in_front (instr ∷ instrs) = cond (is_payload instr) (in_front instrs) (not (has_payload instrs))

-- the kind of payload i of a case of an enum's value
abbrev pub payload_at : List Shape → Option RegKind → ℕ → ℕ → Option RegKind
payload_at shapes kind tag i =
    option_and_then (λ kinds. slice_get kinds i) (payload (shape_of shapes is_enum kind) tag)

-- The last instruction is a switch on the operand, and the case's payload with that index goes to
-- the register.
abbrev pub Unpacks : List Shape → List RegKind → Last → ℕ → Operand → ℕ → ℕ → Type 0
Unpacks shapes regs (Switch subject to) tag src index dst =
    (subject.reg ≡ src.reg)
    × Goes (payload_at shapes (slice_get regs src.reg) tag index) (slice_get regs dst)
Unpacks shapes regs _ tag src index dst = ⊥

-- A payload stands in a block other than the first, and whatever leads to that block is a switch on
-- its operand, for a case that has the payload. It leaves the operand as it is, which the payloads
-- after it read.
abbrev pub PayloadFits : List Shape → Function → ℕ → Instr → Type 0
PayloadFits shapes function number (Payload at dst src index) =
    (0 < number) × (dst ≢ src.reg) × (All (λ (block : Block). (tag : ℕ)
    → slice_get (blocks_of block.last) tag ≡ Some number
    → Unpacks shapes function.regs block.last tag src index dst) function.blocks)
PayloadFits shapes function number _ = Unit {0}

-- in a block payloads are taken by its first instructions alone, and each where its case is known
pub record PayloadsFit (shapes : List Shape) (function : Function) (number : ℕ) (block : Block)
    : Type 0 where
  pub front : IsTrue (in_front block.instrs)
  pub each : All (PayloadFits shapes function number) block.instrs
