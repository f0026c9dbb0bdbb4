-- Each single step of code proceeds where what it asks for is known.
use Rattle.std.proofs.Common.{◌≡◌, ◌<◌, ℕ, Bool, true, false, Option, Some, None, length, ap, sym}
use Rattle.std.proofs.Common.{arith}
use Rattle.std.specs.Prelude.{Ok, Err, nat_le, nat_lt, ◌&&◌, ◌≢◌, slice_get, if◌then◌else◌, Result}
use Rattle.sw_graph.specs.Payloads.{is_payload}
use Rattle.sw_graph.specs.declared.function.RegKind.{RegKind}
use Rattle.sw_graph.specs.declared.function.TheConstants.{MAX_POINTS, MAX_REGISTERS}
use Rattle.sw_graph.specs.declared.instr.Instr.{Instr}
use Rattle.sw_graph.specs.declared.instr.Last.{Last}
use Rattle.sw_lower_builder.specs.Blocks.{with_instr}
use Rattle.sw_lower_builder.specs.Unfinished.{in_block, with_block, with_register}
use Rattle.sw_lower_builder.specs.declared.builder.TheConstants.{MOST_BLOCKS}
use Rattle.sw_lower_plans.specs.Plan.{Entry, var_in}
use Rattle.sw_lower_plans.specs.Run.{Making, payloads_alone, points, run_emit, run_known}
use Rattle.sw_lower_plans.specs.declared.bound.Bound.{Bound}
use Rattle.sw_lower_plans.specs.declared.fault.CodeFault.{CodeFault}
use Rattle.sw_lower_plans.specs.declared.fault.CodeFault.TheVariants.{Registers, Blocks, Missing}
use Rattle.sw_lower_plans.specs.declared.name.FunctionName.{FunctionName}
use Rattle.sw_lower_code.specs.Code.{bind, block_for, close, done, emit, front, known, number, reg}
use Rattle.sw_lower_code.specs.Code.{resume, var}
use Rattle.sw_lower_total_facts.specs.Proceeding.{Proceeds}

abbrev made : {A : Type 0} → A → Making → Result (A × Making) CodeFault
made value s = Ok (value, s)

abbrev unit : Unit {0}
unit = tt

pub proceeds_done : {A : Type 0} (value : A) (s : Making) → Proceeds s (done value)
unfolding done
proceeds_done value s faulty = cc

-- one of two results, neither of which is for want of something
neither : {A : Type 0} (test : Bool) (one other : Result (A × Making) CodeFault) → one ≢ Err Missing
    → other ≢ Err Missing → (if test then one else other) ≢ Err Missing
neither true one other first second is = first is
neither false one other first second is = second is

there : {A : Type 0} (value : A) (s : Making) → made value s ≢ Err Missing
there value s is = cc

abbrev full : {A : Type 0} → Result (A × Making) CodeFault
full = Err Registers

few : full {A = ℕ} ≢ Err Missing
few is = cc

abbrev unnumbered : {A : Type 0} → Result (A × Making) CodeFault
unnumbered = Err Blocks

fewer : unnumbered {A = ℕ} ≢ Err Missing
fewer is = cc

pub proceeds_reg : (kind : RegKind) (s : Making) → Proceeds s (reg kind)
unfolding reg
proceeds_reg kind s is =
    neither (nat_le MAX_REGISTERS (length s.made.regs)) full
    (made (length s.made.regs) (record s { made = with_register kind s.made })) few
    (there (length s.made.regs) (record s { made = with_register kind s.made })) is

pub proceeds_block : (entry : Entry) (s : Making) → Proceeds s (block_for entry)
unfolding block_for
proceeds_block entry s is =
    neither (nat_le MOST_BLOCKS (length s.made.blocks)) unnumbered
    (made (length s.made.blocks) (record s { made = with_block s.made })) fewer
    (there (length s.made.blocks) (record s { made = with_block s.made })) is

emits : (instr : Instr) (s : Making) → run_emit instr s ≢ Err Missing
emits instr s is =
    neither (nat_le MAX_POINTS (points s)) (made unit (record s { over = true }))
    (made unit (record s { made = in_block (with_instr instr) s.here s.made }))
    (there unit (record s { over = true }))
    (there unit (record s { made = in_block (with_instr instr) s.here s.made })) is

pub proceeds_emit : (instr : Instr) (s : Making) → Proceeds s (emit instr)
unfolding emit
proceeds_emit instr s faulty = emits instr s faulty

-- A payload is taken at the front of a block.
pub proceeds_front : (instr : Instr) (s : Making) → is_payload instr ≡ true
    → payloads_alone (slice_get s.made.blocks s.here) ≡ true → Proceeds s (front instr)
unfolding front
proceeds_front instr s payload alone faulty =
    by (is_payload instr) (payloads_alone (slice_get s.made.blocks s.here)) payload alone faulty
  where
    by : (one other : Bool) → one ≡ true → other ≡ true
        → (if one && other then run_emit instr s else Err Missing) ≡ Err Missing → ⊥
    by true true a b is = emits instr s is
    by true false a b is = cc
    by false other a b is = cc

pub proceeds_close : (last : Last) (s : Making) → Proceeds s (close last)
unfolding close
proceeds_close last s faulty = cc

-- A block that was made goes on.
pub proceeds_resume : (to : ℕ) (s : Making) → to < length s.made.blocks → Proceeds s (resume to)
unfolding resume
proceeds_resume to s below is =
    by (nat_lt to (length s.made.blocks)) (grind (arith, below)) is where
      by : (test : Bool) → test ≡ true
          → (if test then made unit (record s { here = to }) else Err Missing) ≢ Err Missing
      by true holds is = there unit (record s { here = to }) is
      by false holds is = cc

pub proceeds_bind : (bound : Bound) (s : Making) → Proceeds s (bind bound)
unfolding bind
proceeds_bind bound s faulty = cc

knows : {A : Type 0} (found : Option A) (value : A) (s : Making) → found ≡ Some value
    → run_known found s ≡ Err Missing → ⊥
knows None value s is faulty = cc
knows (Some other) value s is faulty = cc

-- What is known is given.
pub proceeds_known : {A : Type 0} (fallback : A) (found : Option A) (value : A) (s : Making)
    → found ≡ Some value → Proceeds s (known fallback found)
unfolding known
proceeds_known fallback found value s is faulty = knows found value s is faulty

pub proceeds_var : (key : ℕ) (bound : Bound) (s : Making) → var_in key s.vars ≡ Some bound
    → Proceeds s (var key)
unfolding var
proceeds_var key bound s is faulty = knows (var_in key s.vars) bound s is faulty

pub proceeds_number : (name : FunctionName) (value : ℕ) (s : Making) → s.number name ≡ Some value
    → Proceeds s (number name)
unfolding number
proceeds_number name value s is faulty = knows (s.number name) value s is faulty

-- And nothing else is given, at the same place.
gives : {A : Type 0} (found : Option A) (value : A) (s t : Making)
    → run_known found s ≡ made value t → (found ≡ Some value) × (t ≡ s)
gives None value s t ran = cc
gives {A} (Some other) value s t ran =
    (ap (λ at. Some at.0) (sym (same ran)), ap (λ at. at.1) (same ran)) where
      pair : A → Making → A × Making
      pair a u = (a, u)

      same : made other s ≡ made value t → pair value t ≡ pair other s
      same is = cc

pub gives_known : {A : Type 0} (fallback : A) (found : Option A) (value : A) (s t : Making)
    → (known fallback found).run s ≡ Ok (value, t) → (found ≡ Some value) × (t ≡ s)
unfolding known
gives_known fallback found value s t ran = gives found value s t ran

pub gives_var : (key : ℕ) (bound : Bound) (s t : Making) → (var key).run s ≡ Ok (bound, t)
    → (var_in key s.vars ≡ Some bound) × (t ≡ s)
unfolding var
gives_var key bound s t ran = gives (var_in key s.vars) bound s t ran
