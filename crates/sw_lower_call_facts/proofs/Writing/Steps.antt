-- What each single step of code writes.
use Rattle.std.proofs.Common.{◌≡◌, ℕ, zero, suc, Bool, true, false, List, [], ◌∷◌, ◌++◌, length}
use Rattle.std.proofs.Common.{Option, Some, None, ap, ◌∙◌, sym, subst, refl}
use Rattle.std.proofs.lemmas.List.Elements.{All-append, All-cons, All-head, All-nil, All-tail}
use Rattle.std.specs.Prelude.{All, Ok, Err, ◌&&◌, nat_le, nat_lt, slice_get, if◌then◌else◌}
use Rattle.sw_graph.specs.Payloads.{is_payload}
use Rattle.sw_graph.specs.Points.{points_of}
use Rattle.sw_graph.specs.declared.function.RegKind.{RegKind}
use Rattle.sw_graph.specs.declared.function.TheConstants.{MAX_POINTS, MAX_REGISTERS}
use Rattle.sw_graph.specs.declared.instr.Block.{Block}
use Rattle.sw_graph.specs.declared.instr.Instr.{Instr}
use Rattle.sw_graph.specs.declared.instr.Last.{Last}
use Rattle.sw_lower_builder.specs.Blocks.{changed_at, new_block, with_instr, with_last}
use Rattle.sw_lower_builder.specs.Unfinished.{in_block, with_block, with_register}
use Rattle.sw_lower_builder.specs.declared.builder.TheConstants.{MOST_BLOCKS}
use Rattle.sw_lower_plans.specs.Plan.{Entry, Numbers, var_in}
use Rattle.sw_lower_plans.specs.Run.{Making, payloads_alone, run_emit, run_known}
use Rattle.sw_lower_plans.specs.declared.bound.Bound.{Bound}
use Rattle.sw_lower_plans.specs.declared.fault.CodeFault.TheVariants.{Registers, Blocks, Missing}
use Rattle.sw_lower_plans.specs.declared.name.FunctionName.{FunctionName}
use Rattle.sw_lower_code.specs.Code.{Code, andthen, bind, block_for, close, emit, front, known}
use Rattle.sw_lower_code.specs.Code.{number, reg, resume, var}
use Rattle.sw_lower_total_facts.proofs.Frames.Joining.{ran_both}
use Rattle.sw_lower_formed_facts.proofs.Positions.Steps.{ended, gave}
use Rattle.sw_lower_call_facts.specs.Writing.{HoldsOnly, InBlocks, WritesOnly}

-- One block is changed to one that has such instructions too.
pub in_changed : (P : Instr → Type 0) (change : Block → Block)
    → ((block : Block) → All P block.instrs → All P (change block).instrs) → (here : ℕ)
    → (blocks : List Block) → InBlocks P blocks → InBlocks P (changed_at change here blocks)
unfolding changed_at
in_changed P change keeps here [] all = all
in_changed P change keeps zero (block ∷ blocks) all =
    All-cons (λ (b : Block). All P b.instrs) (change block) blocks
    (keeps block (All-head (λ (b : Block). All P b.instrs) block blocks all))
    (All-tail (λ (b : Block). All P b.instrs) block blocks all)
in_changed P change keeps (suc here) (block ∷ blocks) all =
    All-cons (λ (b : Block). All P b.instrs) block (changed_at change here blocks)
    (All-head (λ (b : Block). All P b.instrs) block blocks all)
    (in_changed P change keeps here blocks
    (All-tail (λ (b : Block). All P b.instrs) block blocks all))

-- What is known is the value that was found.
pub known_is : {A : Type 0} (found : Option A) (s t : Making) (value : A)
    → run_known found s ≡ Ok (value, t) → (found ≡ Some value) × (s ≡ t)
known_is None s t value ran = cc
known_is (Some given) s t value ran =
    let is = ended given s value t ran in (ap Some is.0, is.1)

module _ {P : Instr → Type 0} {numbers : Numbers} where
  -- a value that is known
  known_keeps : {A : Type 0} (found : Option A) (s t : Making) (value : A) → HoldsOnly P numbers s
      → run_known found s ≡ Ok (value, t) → HoldsOnly P numbers t
  known_keeps found s t value holds ran =
      subst (HoldsOnly P numbers) (known_is found s t value ran).1 holds

  pub writes_known : {A : Type 0} (fallback : A) (found : Option A)
      → WritesOnly P numbers (known fallback found)
  unfolding known
  writes_known fallback found = record {
    keeps = λ s t value holds ran. known_keeps found s t value holds ran;
  }

  -- code that takes what is known
  pub writes_known_then : {A B : Type 0} (fallback : A) (found : Option A) (next : A → Code B)
      → ((value : A) → found ≡ Some value → WritesOnly P numbers (next value))
      → WritesOnly P numbers (andthen (known fallback found) next)
  unfolding known
  writes_known_then fallback found next writes = record {
    keeps = λ s t value holds ran.
        let both = ran_both (known fallback found) next s t value ran in
        (writes both.0 (known_is found s both.1 both.0 both.2).0).keeps both.1 t value
        (known_keeps found s both.1 both.0 holds both.2) both.3;
  }

  pub writes_number : (name : FunctionName) → WritesOnly P numbers (number name)
  unfolding number
  writes_number name = record {
    keeps = λ s t value holds ran. known_keeps (s.number name) s t value holds ran;
  }

  -- code that takes the number of a function
  pub writes_number_then : {B : Type 0} (name : FunctionName) (next : ℕ → Code B)
      → ((f : ℕ) → numbers name ≡ Some f → WritesOnly P numbers (next f))
      → WritesOnly P numbers (andthen (number name) next)
  unfolding number
  writes_number_then name next writes = record {
    keeps = λ s t value holds ran.
        let both = ran_both (number name) next s t value ran in
        (writes both.0
        (ap (λ (n : Numbers). n name) (sym holds.number)
        ∙ (known_is (s.number name) s both.1 both.0 both.2).0)).keeps both.1 t value
        (known_keeps (s.number name) s both.1 both.0 holds both.2) both.3;
  }

  pub writes_var : (key : ℕ) → WritesOnly P numbers (var key)
  unfolding var
  writes_var key = record {
    keeps = λ s t value holds ran. known_keeps (var_in key s.vars) s t value holds ran;
  }

  -- a function with the same blocks
  same_blocks : (s t : Making) → HoldsOnly P numbers s → t.made.blocks ≡ s.made.blocks
      → t.number ≡ s.number → HoldsOnly P numbers t
  same_blocks s t holds blocks number = record {
    written = subst (InBlocks P) (sym blocks) holds.written;
    number = number ∙ holds.number;
  }

  pub writes_reg : (kind : RegKind) → WritesOnly P numbers (reg kind)
  unfolding reg
  writes_reg kind = record {
    keeps = λ s t value holds ran. by s t value holds (nat_le MAX_REGISTERS (length s.made.regs))
        ran;
  } where
    after : Making → Making
    after s = record s { made = with_register kind s.made }

    by : (s t : Making) (value : ℕ) → HoldsOnly P numbers s → (full : Bool)
        → (if full then Err Registers else gave (length s.made.regs) (after s)) ≡ Ok (value, t)
        → HoldsOnly P numbers t
    by s t value holds true ran = cc
    by s t value holds false ran =
        subst (HoldsOnly P numbers) (ended (length s.made.regs) (after s) value t ran).1
        (same_blocks s (after s) holds refl refl)

  pub writes_bind : (bound : Bound) → WritesOnly P numbers (bind bound)
  unfolding bind
  writes_bind bound = record {
    keeps = λ s t value holds ran.
        let after : Making = record s { vars = s.vars ++ bound ∷ [] } in
        subst (HoldsOnly P numbers) (ended tt after value t ran).1
        (same_blocks s after holds refl refl);
  }

  -- an instruction of the block that goes on
  emit_keeps : (instr : Instr) → P instr → (s t : Making) (value : Unit {0}) → HoldsOnly P numbers s
      → run_emit instr s ≡ Ok (value, t) → HoldsOnly P numbers t
  emit_keeps instr so s t value holds ran =
      by (nat_le MAX_POINTS (length (points_of s.made.blocks))) ran where
        over : Making
        over = record s { over = true }

        written : Making
        written = record s { made = in_block (with_instr instr) s.here s.made }

        grown : HoldsOnly P numbers written
        grown = record {
          written = in_changed P (with_instr instr)
              (λ block all. All-append P block.instrs (instr ∷ []) all
              (All-cons P instr [] so (All-nil P)))
              s.here s.made.blocks holds.written;
          number = holds.number;
        }

        by : (full : Bool) → (if full then gave tt over else gave tt written) ≡ Ok (value, t)
            → HoldsOnly P numbers t
        by true ran =
            subst (HoldsOnly P numbers) (ended tt over value t ran).1
            (same_blocks s over holds refl refl)
        by false ran = subst (HoldsOnly P numbers) (ended tt written value t ran).1 grown

  pub writes_emit : (instr : Instr) → P instr → WritesOnly P numbers (emit instr)
  unfolding emit
  writes_emit instr so = record {
    keeps = λ s t value holds ran. emit_keeps instr so s t value holds ran;
  }

  pub writes_front : (instr : Instr) → P instr → WritesOnly P numbers (front instr)
  unfolding front
  writes_front instr so = record {
    keeps = λ s t value holds ran. by s t value holds
        (is_payload instr && payloads_alone (slice_get s.made.blocks s.here)) ran;
  } where
    by : (s t : Making) (value : Unit {0}) → HoldsOnly P numbers s → (may : Bool)
        → (if may then run_emit instr s else Err Missing) ≡ Ok (value, t) → HoldsOnly P numbers t
    by s t value holds true ran = emit_keeps instr so s t value holds ran
    by s t value holds false ran = cc

  pub writes_close : (last : Last) → WritesOnly P numbers (close last)
  unfolding close
  writes_close last = record {
    keeps = λ s t value holds ran.
        let after : Making = record s { made = in_block (with_last last) s.here s.made } in
        subst (HoldsOnly P numbers) (ended tt after value t ran).1
        (record {
          written = in_changed P (with_last last) (λ block all. all) s.here s.made.blocks
              holds.written;
          number = holds.number;
        });
  }

  pub writes_block : (entry : Entry) → WritesOnly P numbers (block_for entry)
  unfolding block_for
  writes_block entry = record {
    keeps = λ s t value holds ran. by s t value holds (nat_le MOST_BLOCKS (length s.made.blocks))
        ran;
  } where
    after : Making → Making
    after s = record s { made = with_block s.made }

    grown : (s : Making) → HoldsOnly P numbers s → HoldsOnly P numbers (after s)
    grown s holds = record {
      written = All-append (λ (b : Block). All P b.instrs) s.made.blocks (new_block ∷ [])
          holds.written
          (All-cons (λ (b : Block). All P b.instrs) new_block [] (All-nil P)
          (All-nil (λ (b : Block). All P b.instrs)));
      number = holds.number;
    }

    by : (s t : Making) (value : ℕ) → HoldsOnly P numbers s → (full : Bool)
        → (if full then Err Blocks else gave (length s.made.blocks) (after s)) ≡ Ok (value, t)
        → HoldsOnly P numbers t
    by s t value holds true ran = cc
    by s t value holds false ran =
        subst (HoldsOnly P numbers) (ended (length s.made.blocks) (after s) value t ran).1
        (grown s holds)

  pub writes_resume : (block : ℕ) → WritesOnly P numbers (resume block)
  unfolding resume
  writes_resume block = record {
    keeps = λ s t value holds ran. by s t value holds (nat_lt block (length s.made.blocks)) ran;
  } where
    after : Making → Making
    after s = record s { here = block }

    by : (s t : Making) (value : Unit {0}) → HoldsOnly P numbers s → (is : Bool)
        → (if is then gave tt (after s) else Err Missing) ≡ Ok (value, t) → HoldsOnly P numbers t
    by s t value holds false ran = cc
    by s t value holds true ran =
        subst (HoldsOnly P numbers) (ended tt (after s) value t ran).1
        (same_blocks s (after s) holds refl refl)
