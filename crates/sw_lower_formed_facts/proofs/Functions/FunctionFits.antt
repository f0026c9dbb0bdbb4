-- The function of a body whose piece fits is a function of a well-formed graph.
use Rattle.std.proofs.Common.{◌≡◌, ℕ, zero, suc, ◌+◌, ◌<◌, ◌≤◌, IsTrue, List, [], length, Some}
use Rattle.std.proofs.Common.{None, subst, sym, arith}
use Rattle.std.specs.List.{All}
use Rattle.std.proofs.lemmas.List.{length-map}
use Rattle.std.proofs.lemmas.List.Elements.{All-nil}
use Rattle.std.proofs.lemmas.Option.{none-some, slice_get_within}
use Rattle.sw_types.specs.Named.{is_within}
use Rattle.sw_types.specs.declared.shape.Shape.{Shape}
use Rattle.sw_graph.specs.Kinds.{LastKindsFit}
use Rattle.sw_graph.specs.Mentions.{blocks_of, last_registers}
use Rattle.sw_graph.specs.Payloads.{PayloadsFit}
use Rattle.sw_graph.specs.WellFormed.{AllBelow, BlockFits, FunctionFits, InstrFits, LastFits}
use Rattle.sw_graph.specs.declared.function.Function.{Function}
use Rattle.sw_graph.specs.declared.function.GlobalKind.{GlobalKind}
use Rattle.sw_graph.specs.declared.instr.Instr.{Instr}
use Rattle.sw_graph.specs.declared.instr.Last.TheVariants.{Return}
use Rattle.sw_lower_plans.specs.Plan.{Ended, NewBlock, Numbers, Written}
use Rattle.sw_lower_code.specs.Whole.{Body, function_of, piece_of}
use Rattle.sw_lower_code.specs.declared.taken.Taken.{Taken}
use Rattle.sw_lower_formed_facts.specs.Fitting.{AllWritten, InstrOk, IsKind, LastOk, PieceOk}
use Rattle.sw_lower_formed_facts.specs.Whole.{Whole, made_at, whole_of}
use Rattle.sw_lower_formed_facts.proofs.Functions.Blocks.{all_blocks, all_instrs, all_there, block_in}
use Rattle.sw_lower_formed_facts.proofs.Functions.Blocks.{block_is, blocks_in, ended_at, function_in}
use Rattle.sw_lower_formed_facts.proofs.Functions.Blocks.{leads_from, length_blocks}
use Rattle.sw_lower_formed_facts.proofs.Functions.Payloads.{payloads_fit}
use Rattle.sw_lower_formed_facts.proofs.Functions.Ranges.{functions_below, globals_below, last_below}
use Rattle.sw_lower_formed_facts.proofs.Functions.Ranges.{registers_below, shapes_below}
use Rattle.sw_lower_formed_facts.proofs.Functions.SetFirst.{sets_first}
use Rattle.sw_lower_code.proofs.Takes.{takes_registers}

-- each last instruction fits
abbrev pub AllEnded : Whole → List Ended → Type 0
AllEnded w lasts = All (λ (one : Ended). LastOk w one.block one.last) lasts

instr_fits : (w : Whole) (lasts : List Ended) (function : Function) (number : ℕ)
    (earlier : List Written) (instr : Instr) → InstrOk w earlier number instr
    → InstrFits w.shapes w.globals w.functions (function_in w lasts function) instr
instr_fits w lasts function number earlier instr ok = record {
  registers = registers_below w number instr ok.kinds ok.payload;
  functions_in = functions_below w.shapes w.globals w.functions w.regs instr ok.kinds;
  globals_in = globals_below w.shapes w.globals w.functions w.regs instr ok.kinds;
  shapes_in = shapes_below w.shapes w.globals w.functions w.regs instr ok.kinds;
  kinds = ok.kinds;
}

-- a block that is made is one of the function's
made_below : (w : Whole) (number : ℕ) (one : NewBlock) → made_at w number ≡ Some one
    → number < 1 + length w.made
made_below w zero one made = absurd (none-some one made)
made_below w (suc number) one made = omega (arith, slice_get_within w.made number one made)

last_fits : (w : Whole) (lasts : List Ended) (function : Function) (number : ℕ) → AllEnded w lasts
    → LastFits w.shapes (function_in w lasts function) (block_in w lasts number).last
last_fits w lasts function number all = record {
  registers = ended_at w number lasts (λ last. AllBelow (length w.regs) (last_registers last)) all
      (λ last ok. last_below w.shapes w.regs w.result last ok.kinds) (Return None)
      (All-nil (λ r. r < length w.regs));
  blocks_in = all_there (λ target. target < length (blocks_in w lasts))
      (blocks_of (block_in w lasts number).last) (λ k target found.
      let leads = leads_from w lasts number k target all found in
      omega (arith, length_blocks w lasts, made_below w target leads.one leads.made));
  kinds = ended_at w number lasts (LastKindsFit w.shapes w.regs w.result) all
      (λ last ok. ok.kinds) (Return None) tt;
}

block_fits : (w : Whole) (lasts : List Ended) (function : Function) (number : ℕ)
    → AllWritten w [] w.writes → AllEnded w lasts
    → BlockFits w.shapes w.globals w.functions (function_in w lasts function)
    (block_in w lasts number)
block_fits w lasts function number written all = record {
  instrs = all_instrs w number
      (InstrFits w.shapes w.globals w.functions (function_in w lasts function)) written
      (instr_fits w lasts function number);
  last = last_fits w lasts function number all;
}

-- A function fits that is made of whole lists which fit.
pub whole_fits : (w : Whole) (lasts : List Ended) (function : Function)
    → All (IsKind w) w.regs → AllWritten w [] w.writes → AllEnded w lasts
    → w.takes ≤ length w.regs → length function.sending ≡ w.takes
    → IsTrue (is_within (length w.shapes) w.result)
    → FunctionFits w.shapes w.globals w.functions (function_in w lasts function)
whole_fits w lasts function kinds written all takes sending result = record {
  takes = takes;
  sending = sending;
  begins = omega (arith, length_blocks w lasts);
  types = kinds;
  result = result;
  blocks = all_blocks w lasts
      (BlockFits w.shapes w.globals w.functions (function_in w lasts function))
      (λ number. block_fits w lasts function number written all);
  payloads = λ number block here.
      subst (PayloadsFit w.shapes (function_in w lasts function) number)
      (sym (block_is w lasts number block here)) (payloads_fit w lasts function written all number);
  sets = sets_first w lasts function written all;
}

-- The function of a body whose piece fits is one of a well-formed graph.
pub function_fits : (shapes : List Shape) (globals : List GlobalKind) (functions : List Function)
    (number : Numbers) (body : Body)
    → PieceOk (whole_of shapes globals functions number body) [] (piece_of number body)
    → IsTrue (is_within (length shapes) body.result)
    → FunctionFits shapes globals functions (function_of number body)
unfolding function_of
function_fits shapes globals functions number body fits result =
    whole_fits (whole_of shapes globals functions number body) (piece_of number body).lasts
    (function_of number body) fits.kinds fits.writes fits.lasts (takes_registers number body)
    (length-map body.takes (λ (taken : Taken). taken.sending)) result
