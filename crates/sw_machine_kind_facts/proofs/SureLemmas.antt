-- Ways that constants leave, and what the machine has where a constant stands before a branch.
use Rattle.std.proofs.Common.{◌≡◌, ℕ, zero, suc, ◌+◌, ◌⊎◌, inl, inr, Bool, true, false, Option}
use Rattle.std.proofs.Common.{Some, None, List, [], ◌∷◌, ◌++◌, length, map, take, refl, ap, sym}
use Rattle.std.proofs.Common.{◌∙◌, subst, arith, length-append}
use Rattle.std.specs.List.{slice_get}
use Rattle.std.proofs.lemmas.List.{length-map}
use Rattle.std.proofs.lemmas.Option.{slice_get_within}
use Rattle.sw_list.proofs.ListLemmas.{some_injective}
use Rattle.sw_graph.specs.declared.function.Function.{Function}
use Rattle.sw_graph.specs.declared.instr.Block.{Block}
use Rattle.sw_graph.specs.declared.instr.Instr.{Instr}
use Rattle.sw_graph.specs.declared.instr.Instr.TheVariants.{Const, Payload}
use Rattle.sw_graph.specs.declared.instr.Last.{Last}
use Rattle.sw_graph.specs.declared.instr.Last.TheVariants.{Branch}
use Rattle.sw_graph.specs.declared.instr.Literal.TheVariants.{Bool as BoolOf}
use Rattle.sw_graph.specs.declared.instr.Operand.{Operand}
use Rattle.sw_graph.specs.Payloads.{is_payload}
use Rattle.sw_graph.specs.Points.{Point, Middle, End, points_of, points_of_block, point_in}
use Rattle.sw_graph.specs.Points.{block_start}
use Rattle.sw_graph.specs.Ways as ways
use Rattle.sw_graph.specs.Ways.{Leads, Way}
use Rattle.sw_graph.proofs.PointLemmas.{length-points_of_block}
use Rattle.sw_value.specs.declared.value.Value.{Value, out-Value}
use Rattle.sw_value.specs.declared.value.Value.TheOpen as layer
use Rattle.sw_value.specs.declared.value.Value.TheVariants as value
use Rattle.sw_value.specs.Value.{value_at}
use Rattle.sw_value.proofs.ListLemmas.{slice_get_end}
use Rattle.sw_machine_kind_facts.specs.Standing.{HasConst}
use Rattle.sw_graph.specs.Sure.{SureLeads, on, to, SureWay, begin, further, point_before, side}
use Rattle.sw_graph.specs.Sure.{MayTake}
use Rattle.sw_machine_kind_facts.proofs.ItemLemmas.{found_within}
use Rattle.sw_machine_kind_facts.proofs.PlaceLemmas.{point_of_block, start_is}

leads_of : (function : Function) (p q : ℕ) → SureLeads function p q → Leads function p q
leads_of function p q (on r instr here) = ways.on r instr here
leads_of function p q (to r last k block s here at starts may) =
    ways.to r last k block s here at starts

-- a way that constants leave is a way
pub way_of : (function : Function) (p : ℕ) (passed : List ℕ) → SureWay function p passed
    → Way function p passed
way_of function p passed begin = ways.begin
way_of function p passed (further before q earlier way leads) =
    ways.further before q earlier (way_of function before earlier way)
    (leads_of function before q leads)

-- the instruction that stands before the next point
pub before_next : (function : Function) (p : ℕ) (instr : Instr)
    → point_in function p ≡ Some (Middle instr)
    → point_before function (p + 1) ≡ Some (Middle instr)
before_next function p instr here =
    ap (point_before function) (let next : p + 1 ≡ suc p = omega arith in next) ∙ here

-- whether an instruction neither takes a payload nor gives a constant
abbrev pub is_ordinary : Instr → Bool
is_ordinary (Payload at r s i) = false
is_ordinary (Const at r v) = false
is_ordinary _ = true

pub no_payload : (instr : Instr) → is_ordinary instr ≡ true → is_payload instr ≡ false
no_payload (Payload at r s i) ordinary = cc
no_payload _ ordinary = refl

pub no_const : (awaits : Option ℕ) (regs : List (Option Value)) (instr : Instr)
    → is_ordinary instr ≡ true → HasConst awaits regs (Some (Middle instr))
no_const awaits regs (Const at r v) ordinary = absurd (let wrong : ⊥ = cc in wrong)
no_const awaits regs _ ordinary = tt

-- a frame that awaits a result has not come from a constant
pub no_wait : (q : ℕ) (awaits : Option ℕ) (regs after : List (Option Value)) (before : Option Point)
    → HasConst (Some q) regs before → HasConst awaits after before
no_wait q awaits regs after (Some (Middle (Const at r v))) has =
    let ready = has.0 in absurd (let wrong : ⊥ = cc in wrong)
no_wait q awaits regs after _ has = tt

-- the points of the blocks up to one
after_block : (blocks : List Block) (n : ℕ) (block : Block) → slice_get blocks n ≡ Some block
    → length (points_of (take (suc n) blocks))
    ≡ suc (length (points_of (take n blocks)) + length block.instrs)
unfolding points_of
after_block [] n block is = cc
after_block (b ∷ bs) zero block is =
    let same : b ≡ block = some_injective is in
    let count = length-points_of_block block in
    let all = length-append (points_of_block block) [] in
    ap (λ c. length (points_of_block c ++ [])) same ∙ omega (arith, count, all)
after_block (b ∷ bs) (suc n) block is =
    let rest = after_block bs n block is in
    let all = length-append (points_of_block b) (points_of (take (suc n) bs)) in
    let first = length-append (points_of_block b) (points_of (take n bs)) in
    omega (arith, rest, all, first)

-- Before the beginning of a block there is no point, or the last of another block.
end_before : (function : Function) (n q : ℕ) (block : Block)
    → slice_get function.blocks n ≡ Some block → q ≡ length (points_of (take n function.blocks))
    → (point_before function q ≡ None) ⊎ ((l : Last) × (point_before function q ≡ Some (End l)))
unfolding points_of
end_before function zero q block is at = inl (ap (point_before function) at)
end_before function (suc n) q block is at =
    let inside = slice_get_within function.blocks (suc n) block is in
    let from = found_within function.blocks n (omega (arith, inside)) in
    let b = from.0 in
    let place : length b.instrs ≡ length (map Middle b.instrs) =
    sym (length-map b.instrs Middle) in
    inr (
      b.last,
      ap (point_before function) (at ∙ after_block function.blocks n b from.1)
          ∙ point_of_block function.blocks n b (length b.instrs) from.1 (omega arith)
          ∙ ap (slice_get (points_of_block b)) place
          ∙ slice_get_end (map Middle b.instrs) (End b.last),
    )

-- so no constant does
pub start_const : (function : Function) (awaits : Option ℕ) (regs : List (Option Value)) (n q : ℕ)
    (block : Block) → slice_get function.blocks n ≡ Some block → block_start function n ≡ Some q
    → HasConst awaits regs (point_before function q)
start_const function awaits regs n q block is starts =
    elim (end_before function n q block is
    (some_injective (sym starts ∙ start_is function n block is))) [
      | inl none ↦ subst (HasConst awaits regs) (sym none) tt
      | inr (l, ends) ↦ subst (HasConst awaits regs) (sym ends) tt
    ]

-- a branch goes to the side of its register's truth value, which the constant before it has
pub may_branch : (regs : List (Option Value)) (s : Operand) (holds fails : ℕ) (v : Value) (b : Bool)
    → value_at regs s.reg ≡ Some v → out-Value v ≡ layer.Bool b → (before : Option Point)
    → HasConst None regs before → MayTake (Branch s holds fails) before (side b)
may_branch regs s holds fails v b has is (Some (Middle (Const at r (BoolOf c)))) constant = λ same.
    let one : value.Bool c ≡ v =
    some_injective (sym constant.1 ∙ ap (value_at regs) same ∙ has) in
    let truths : layer.Bool c ≡ layer.Bool b = sym (value.outs-Bool c) ∙ ap out-Value one ∙ is in
    ap side (let truth : b ≡ c = cc in truth)
may_branch regs s holds fails v b has is _ constant = tt
