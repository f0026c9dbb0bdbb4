-- The run of a body's code makes the function of the body, and its instructions may stand there.
use Rattle.std.proofs.Common.{◌≡◌, ℕ, Bool, true, false, List, refl, ap, sym, ◌∙◌, subst}
use Rattle.std.proofs.Common.{Some}
use Rattle.std.specs.Prelude.{All, IsOk, Result, Ok, Err, slice_get, if◌then◌else◌, ◌||◌, nat_lt}
use Rattle.std.specs.Prelude.{length}
use Rattle.sw_list.proofs.ListLemmas.{at_index}
use Rattle.sw_graph.specs.declared.function.Function.{Function}
use Rattle.sw_graph.specs.declared.function.RegKind.{RegKind}
use Rattle.sw_graph.specs.declared.function.TheConstants.{MAX_POINTS}
use Rattle.sw_graph.specs.declared.instr.Block.{Block}
use Rattle.sw_graph.specs.declared.instr.Instr.{Instr}
use Rattle.sw_lower_builder.specs.Unfinished.{finished}
use Rattle.sw_lower_plans.specs.Plan.{Numbers}
use Rattle.sw_lower_plans.specs.Run.{Making, at_start, points}
use Rattle.sw_lower_plans.specs.declared.fault.CodeFault.{CodeFault}
use Rattle.sw_lower_plans.specs.declared.fault.CodeFault.TheVariants.{Registers, Blocks, Missing, Memory}
use Rattle.sw_lower_code.specs.Code.{all}
use Rattle.sw_lower_code.specs.Whole.{Body, IsWhole, code_of, ended_by, enter, finish}
use Rattle.sw_lower_code.specs.Whole.{function_of, lower_body, sending_of}
use Rattle.sw_lower_code.specs.declared.fault.BodyFault.{BodyFault}
use Rattle.sw_lower_code.specs.declared.fault.BodyFault.TheVariants as faults
use Rattle.sw_lower_code.proofs.WholeFacts.{lowers_whole}
use Rattle.sw_lower_total_facts.proofs.Frames.Joining.{ran_both}
use Rattle.sw_lower_placed_facts.specs.Allowed.{IsAllowed}
use Rattle.sw_lower_placed_facts.specs.Claims.{PointsAllowed}
use Rattle.sw_lower_placed_facts.specs.Placing.{AllAllowed, Places, Stood}
use Rattle.sw_lower_placed_facts.specs.Hosts.{Program, Host}
use Rattle.sw_lower_placed_facts.proofs.Bodies.Entering.{TakesWell, after_all, begins_at, enters_ran}
use Rattle.sw_lower_placed_facts.proofs.Bodies.Entering.{kinds_of, regs_after, stands_then}

-- the run of a body whose function is made
pub record WholeRun (numbers : Numbers) (body : Body) : Type 0 where
  pub end : Making
  pub ran : (code_of body).run (at_start numbers body.key body.iso body.is_async) ≡ Ok (tt, end)
  pub whole : end.over ≡ false
  pub regs : (function_of numbers body).regs ≡ end.made.regs
  pub blocks : (function_of numbers body).blocks ≡ end.made.blocks

-- What ends well is the function that was made.
ends_so : (body : Body) (making : Making) (function : Function)
    → finish body making ≡ Ok function
    → (making.over ≡ false)
    × (finished making.made (length body.takes) (sending_of body) body.sends body.result ≡ function)
ends_so body making function is = by making.over refl is where
  large : (over : Bool) → making.over ≡ over → (many : Bool)
      → (if over || many then Err (faults.TooManyPoints body.key)
      else Ok (finished making.made (length body.takes) (sending_of body) body.sends body.result))
      ≡ Ok function
      → (making.over ≡ false)
      × (finished making.made (length body.takes) (sending_of body) body.sends body.result
      ≡ function)
  large true over many is = cc
  large false over true is = cc
  large false over false is = (over, cc)

  by : (over : Bool) → making.over ≡ over
      → (if over || nat_lt MAX_POINTS (points making) then Err (faults.TooManyPoints body.key)
      else Ok (finished making.made (length body.takes) (sending_of body) body.sends body.result))
      ≡ Ok function
      → (making.over ≡ false)
      × (finished making.made (length body.takes) (sending_of body) body.sends body.result
      ≡ function)
  by over same is = large over same (nat_lt MAX_POINTS (points making)) is

-- A body that is made ran to its end.
pub whole_ran : (numbers : Numbers) (body : Body) → IsOk (lower_body numbers body)
    → WholeRun numbers body
unfolding lower_body
whole_ran numbers body made =
    by ((code_of body).run start) refl (lowers_whole numbers body) made where
      start : Making
      start = at_start numbers body.key body.iso body.is_async

      ended : (end : Making) → (code_of body).run start ≡ Ok (tt, end)
          → (result : Result Function BodyFault) → finish body end ≡ result
          → IsWhole numbers body result → IsOk result → WholeRun numbers body
      ended end ran (Err fault) is whole made = cc
      ended end ran (Ok function) is whole made =
          let so = ends_so body end function is in
          let same : finished end.made (length body.takes) (sending_of body) body.sends body.result
          ≡ function_of numbers body = so.1 ∙ whole.0 in
          record {
            end = end;
            ran = ran;
            whole = so.0;
            regs = ap (λ (f : Function). f.regs) (sym same);
            blocks = ap (λ (f : Function). f.blocks) (sym same);
          }

      by : (result : Result (Unit {0} × Making) CodeFault) → (code_of body).run start ≡ result
          → IsWhole numbers body (ended_by body result) → IsOk (ended_by body result)
          → WholeRun numbers body
      by (Err Registers) is whole made = cc
      by (Err Blocks) is whole made = cc
      by (Err Missing) is whole made = cc
      by (Err Memory) is whole made = cc
      by (Ok at) is whole made = ended at.1 is (finish body at.1) refl whole made

-- instructions that may stand in blocks
pub in_blocks : (program : Program) (host : Host) (regs : List RegKind) (blocks : List Block)
    → AllAllowed program host regs blocks → (number index : ℕ) (block : Block) (instr : Instr)
    → slice_get blocks number ≡ Some block → slice_get block.instrs index ≡ Some instr
    → IsAllowed program host regs instr
in_blocks program host regs blocks all number index block instr at_block at_instr =
    at_index (IsAllowed program host regs) block.instrs index instr
    (at_index (λ (b : Block). All (IsAllowed program host regs) b.instrs) blocks number block all
    at_block) at_instr

module _ (program : Program) (host : Host) where
  -- The run of a body whose function is made, from where the body's own code begins.
  pub record Ran (body : Body) : Type 0 where
    pub start : Making
    pub end : Making
    pub stood : Stood program host start
    pub regs_at_start : start.made.regs ≡ kinds_of body.takes
    pub ran : body.code.run start ≡ Ok (tt, end)
    pub whole : end.over ≡ false
    pub regs : (function_of program.numbers body).regs ≡ end.made.regs
    pub blocks : (function_of program.numbers body).blocks ≡ end.made.blocks

  pub body_ran : (body : Body) → TakesWell program host body.takes
      → IsOk (lower_body program.numbers body) → Ran body
  unfolding code_of
  body_ran body well made = record {
    start = start;
    end = run.end;
    stood = stands_then program host body.takes well first
        (begins_at program host body.key body.iso body.is_async);
    regs_at_start = regs_after body.takes first;
    ran = subst (λ m. body.code.run m ≡ Ok (tt, run.end))
        (sym (enters_ran body.takes first both.1 both.0 both.2)) both.3;
    whole = run.whole;
    regs = run.regs;
    blocks = run.blocks;
  } where
    first : Making
    first = at_start program.numbers body.key body.iso body.is_async

    start : Making
    start = after_all body.takes first

    run : WholeRun program.numbers body
    run = whole_ran program.numbers body made

    both : (a : Unit {0}) × (m : Making) × ((all enter body.takes).run first ≡ Ok (a, m))
        × (body.code.run m ≡ Ok (tt, run.end))
    both = ran_both (all enter body.takes) (λ _. body.code) first run.end tt run.ran

  -- The instructions of the function may stand in it.
  pub points_by : (body : Body) (regs : List RegKind) (blocks : List Block)
      → (function_of program.numbers body).regs ≡ regs
      → (function_of program.numbers body).blocks ≡ blocks → AllAllowed program host regs blocks
      → PointsAllowed program host (function_of program.numbers body)
  points_by body regs blocks regs_are blocks_are all =
      λ number index block instr at_block at_instr.
      subst (λ r. IsAllowed program host r instr) (sym regs_are)
      (in_blocks program host regs blocks all number index block instr
      (subst (λ b. slice_get b number ≡ Some block) blocks_are at_block) at_instr)

  pub code_placed : (body : Body) → TakesWell program host body.takes
      → IsOk (lower_body program.numbers body) → Places program host body.code
      → PointsAllowed program host (function_of program.numbers body)
  code_placed body well made places =
      let ran = body_ran body well made in
      let placed = places ran.start ran.stood tt ran.end ran.ran ran.whole in
      points_by body ran.end.made.regs ran.end.made.blocks ran.regs ran.blocks placed.0.written
