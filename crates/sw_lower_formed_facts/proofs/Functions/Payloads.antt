-- Payloads stand at the front of their blocks, which are entered by a switch for their case alone.
use Rattle.std.proofs.Common.{◌≡◌, ℕ, zero, suc, ◌<◌, ◌&&◌, ◌||◌, not, cond, Bool, true, false}
use Rattle.std.proofs.Common.{IsTrue, List, [], ◌∷◌, take, Some, refl, ap, sym, ◌∙◌, subst, arith}
use Rattle.std.specs.Prelude.{slice_get}
use Rattle.std.specs.List.{All, list_all}
use Rattle.std.proofs.lemmas.Option.{none-some, same_Some}
use Rattle.sw_graph.specs.Kinds.{Goes}
use Rattle.sw_graph.specs.Mentions.{blocks_of}
use Rattle.sw_graph.specs.Payloads.{PayloadFits, PayloadsFit, Unpacks, has_payload, in_front}
use Rattle.sw_graph.specs.Payloads.{is_payload, payload_at}
use Rattle.sw_graph.specs.declared.function.Function.{Function}
use Rattle.sw_graph.specs.declared.instr.Block.{Block}
use Rattle.sw_graph.specs.declared.instr.Instr.{Instr}
use Rattle.sw_graph.specs.declared.instr.Instr.TheVariants.{Payload}
use Rattle.sw_graph.specs.declared.instr.Last.{Last}
use Rattle.sw_graph.specs.declared.instr.Last.TheVariants.{Jump, Branch, Switch, Return}
use Rattle.sw_graph.specs.declared.instr.Operand.{Operand}
use Rattle.sw_lower_plans.specs.Plan.{Ended, NewBlock, OfCase, Written, written_in}
use Rattle.sw_lower_formed_facts.specs.Fitting.{AllWritten, EntersBy, InstrOk, LastOk, LeadsOk, PayloadOk}
use Rattle.sw_lower_formed_facts.specs.Whole.{Whole, made_at}
use Rattle.sw_lower_formed_facts.proofs.Functions.Blocks.{all_blocks, all_instrs, block_in, function_in}
use Rattle.sw_lower_formed_facts.proofs.Functions.Blocks.{instr_at, leads_from}

-- whether an instruction is a payload, and what comes before it are payloads alone
abbrev comes_first : Instr → List Instr → Bool
comes_first instr before = not (is_payload instr) || list_all is_payload before

after_payload : (instr first rest : Bool) → first ≡ true → IsTrue (not instr || (first && rest))
    → IsTrue (not instr || rest)
after_payload instr true rest is holds = holds
after_payload instr false rest is holds = cc

after_other : (instr first rest : Bool) → first ≡ false → IsTrue (not instr || (first && rest))
    → instr ≡ false
after_other true true rest is holds = cc
after_other true false rest is holds = cc
after_other false first rest is holds = refl

no_payloads : (instrs : List Instr)
    → ((index : ℕ) (instr : Instr) → slice_get instrs index ≡ Some instr
    → is_payload instr ≡ false) → has_payload instrs ≡ false
no_payloads [] each = refl
no_payloads (instr ∷ instrs) each =
    ap (λ is. is || has_payload instrs) (each 0 instr refl)
    ∙ no_payloads instrs (λ index other found. each (suc index) other found)

all_in_front : (instrs : List Instr)
    → ((index : ℕ) (instr : Instr) → slice_get instrs index ≡ Some instr
    → IsTrue (comes_first instr (take index instrs))) → IsTrue (in_front instrs)
all_in_front [] each = refl
all_in_front (instr ∷ instrs) each =
    by (is_payload instr) refl (λ rest. all_in_front instrs rest) where
      by : (is : Bool) → is_payload instr ≡ is
          → (((index : ℕ) (other : Instr) → slice_get instrs index ≡ Some other
          → IsTrue (comes_first other (take index instrs))) → IsTrue (in_front instrs))
          → IsTrue (in_front (instr ∷ instrs))
      by true is rest =
          ap (λ b. cond b (in_front instrs) (not (has_payload instrs))) is
          ∙ rest (λ index other found.
          after_payload (is_payload other) (is_payload instr)
          (list_all is_payload (take index instrs)) is (each (suc index) other found))
      by false is rest =
          ap (λ b. cond b (in_front instrs) (not (has_payload instrs))) is
          ∙ ap not (no_payloads instrs (λ index other found.
          after_other (is_payload other) (is_payload instr)
          (list_all is_payload (take index instrs)) is (each (suc index) other found)))

block_in_front : (w : Whole) (number : ℕ) → AllWritten w [] w.writes
    → IsTrue (in_front (written_in number w.writes))
block_in_front w number written =
    all_in_front (written_in number w.writes) (λ index instr found.
    let one = instr_at w number index instr written found in
    subst (λ before. IsTrue (comes_first instr before)) one.up_to one.ok.front)

-- only a block that is made has an entry
is_made : (w : Whole) (number : ℕ) (one : NewBlock) → made_at w number ≡ Some one → 0 < number
is_made w zero one made = absurd (none-some one made)
is_made w (suc number) one made = omega arith

-- A switch alone enters a block for a case.
unpacks : (w : Whole) (last : Last) (tag shape case i r : ℕ) (s : Operand)
    → EntersBy last tag (OfCase s.reg shape case)
    → Goes (payload_at w.shapes (slice_get w.regs s.reg) case i) (slice_get w.regs r)
    → Unpacks w.shapes w.regs last tag s i r
unpacks w (Switch subject blocks) tag shape case i r s enters goes = (
  enters.0,
  subst (λ n. Goes (payload_at w.shapes (slice_get w.regs s.reg) n i)
      (slice_get w.regs r)) (sym enters.1) goes,
)
unpacks w (Jump target) tag shape case i r s enters goes = absurd enters
unpacks w (Branch subject holds fails) tag shape case i r s enters goes = absurd enters
unpacks w (Return result) tag shape case i r s enters goes = absurd enters

leads_unpack : (w : Whole) (number : ℕ) (last : Last) (tag from i r : ℕ) (s : Operand)
    → PayloadOk w number r s i → LeadsOk w from last tag number
    → Unpacks w.shapes w.regs last tag s i r
leads_unpack w number last tag from i r s payload leads =
    unpacks w last tag payload.shape payload.tag i r s
    (subst (EntersBy last tag) payload.entry
    (subst (λ (one : NewBlock). EntersBy last tag one.entry)
    (same_Some leads.one payload.one (sym leads.made ∙ payload.made)) leads.entry)) payload.goes

instr_unpacks : (w : Whole) (lasts : List Ended) (function : Function) (number : ℕ)
    (before : List Written) → All (λ (one : Ended). LastOk w one.block one.last) lasts
    → (instr : Instr) → InstrOk w before number instr
    → PayloadFits w.shapes (function_in w lasts function) number instr
instr_unpacks w lasts function number before all (Payload at r s i) ok = (
  is_made w number ok.payload.one ok.payload.made,
  ok.payload.apart,
  all_blocks w lasts (λ (block : Block). (tag : ℕ)
      → slice_get (blocks_of block.last) tag ≡ Some number
      → Unpacks w.shapes w.regs block.last tag s i r)
      (λ from tag target.
      leads_unpack w number (block_in w lasts from).last tag from i r s ok.payload
      (leads_from w lasts from tag number all target)),
)
instr_unpacks w lasts function number before all _ ok = tt

-- The payloads in each block fit.
pub payloads_fit : (w : Whole) (lasts : List Ended) (function : Function)
    → AllWritten w [] w.writes → All (λ (one : Ended). LastOk w one.block one.last) lasts
    → (number : ℕ)
    → PayloadsFit w.shapes (function_in w lasts function) number (block_in w lasts number)
payloads_fit w lasts function written all number = record {
  front = block_in_front w number written;
  each = all_instrs w number (PayloadFits w.shapes (function_in w lasts function) number) written
      (λ before instr ok. instr_unpacks w lasts function number before all instr ok);
}
