-- Where each single step of code writes.
use Rattle.std.proofs.Common.{◌≡◌, ℕ, ◌<◌, ◌≤◌, ◌⊎◌, inl, inr, List, [], ◌∷◌, ◌++◌, length, ap}
use Rattle.std.proofs.Common.{◌∙◌, sym, subst, refl, arith, Bool, true, false, Option, Some, None}
use Rattle.std.proofs.Common.{append-nil}
use Rattle.std.proofs.lemmas.Bool.Decides.{eqb_tells}
use Rattle.std.specs.Prelude.{Ok, Err, ◌==◌, ◌≢◌, ◌&&◌, nat_le, nat_lt, slice_get, if◌then◌else◌}
use Rattle.sw_graph.specs.Payloads.{is_payload}
use Rattle.sw_graph.specs.Points.{points_of}
use Rattle.sw_graph.specs.declared.function.RegKind.{RegKind}
use Rattle.sw_graph.specs.declared.function.TheConstants.{MAX_POINTS, MAX_REGISTERS}
use Rattle.sw_graph.specs.declared.instr.Block.{Block}
use Rattle.sw_graph.specs.declared.instr.Instr.{Instr}
use Rattle.sw_graph.specs.declared.instr.Last.{Last}
use Rattle.sw_lower_builder.specs.Blocks.{changed_at, with_instr, with_last}
use Rattle.sw_lower_builder.specs.Unfinished.{in_block, with_block, with_register}
use Rattle.sw_lower_builder.specs.declared.builder.TheConstants.{MOST_BLOCKS}
use Rattle.sw_lower_plans.specs.Plan.{Entry, var_in}
use Rattle.sw_lower_plans.specs.Run.{IsGoing, Making, instrs_at, payloads_alone, run_emit, run_known}
use Rattle.sw_lower_plans.specs.declared.bound.Bound.{Bound}
use Rattle.sw_lower_plans.specs.declared.fault.CodeFault.TheVariants.{Registers, Blocks, Missing}
use Rattle.sw_lower_plans.specs.declared.name.FunctionName.{FunctionName}
use Rattle.sw_lower_plans.proofs.BlockFacts.{instrs_emitted, instrs_ended, instrs_new}
use Rattle.sw_lower_code.specs.Code.{Code, andthen, bind, block_for, close, emit, front, known}
use Rattle.sw_lower_code.specs.Code.{number, reg, resume, var}
use Rattle.sw_lower_formed_facts.proofs.Positions.Steps.{ended, gave}
use Rattle.sw_lower_total_facts.specs.Frames.{CodeStays, Stays}
use Rattle.sw_lower_total_facts.proofs.Frames.Joining.{IsApart, Keeps, Yields, keeps_with}

-- a function in which the blocks but the one that goes on have what they had
kept_others : (count own : ℕ) (s t : Making) → IsApart count own s
    → ((at : ℕ) → at ≢ s.here → instrs_at at t.made.blocks ≡ instrs_at at s.made.blocks)
    → t.here ≡ s.here → Stays count own s t
kept_others count own s t apart same there = record {
  others = λ at below other. same at (other_block apart at below other);
  there = subst (λ here. (here ≡ own) ⊎ (count ≤ here)) (sym there) apart;
} where
  other_block : IsApart count own s → (at : ℕ) → at < count → at ≢ own → at ≢ s.here
  other_block (inl is) at below other here = other (here ∙ is)
  other_block (inr above) at below other here = omega (arith, below, above, here)

-- a function in which all blocks have what they had
all_kept : (count own : ℕ) (s t : Making) → IsApart count own s
    → ((at : ℕ) → instrs_at at t.made.blocks ≡ instrs_at at s.made.blocks)
    → t.here ≡ s.here → Stays count own s t
all_kept count own s t apart same there =
    kept_others count own s t apart (λ at other. same at) there

-- the blocks but the one in which an instruction is written
instrs_beside : (instr : Instr) (here at : ℕ) (blocks : List Block) → here < length blocks
    → at ≢ here → instrs_at at (changed_at (with_instr instr) here blocks) ≡ instrs_at at blocks
instrs_beside instr here at blocks going other =
    instrs_emitted instr here at blocks going ∙ by (here == at) (eqb_tells here at) where
      by : (same : Bool)
          → (((here == at) ≡ true) × (here ≡ at)) ⊎ (((here == at) ≡ false) × (here ≢ at))
          → instrs_at at blocks ++ (if here == at then instr ∷ [] else []) ≡ instrs_at at blocks
      by same (inl is) = absurd (other (sym is.1))
      by same (inr is) =
          ap (λ there. instrs_at at blocks ++ (if there then instr ∷ [] else [])) is.0
          ∙ append-nil (instrs_at at blocks)

-- a value that is known
known_keeps : {A : Type 0} (count own : ℕ) (found : Option A) (s t : Making) (value : A)
    → IsApart count own s → run_known found s ≡ Ok (value, t) → Stays count own s t
known_keeps count own None s t value apart ran = cc
known_keeps count own (Some given) s t value apart ran =
    subst (Stays count own s) (ended given s value t ran).1
    (all_kept count own s s apart (λ at. refl) refl)

pub stays_known : {A : Type 0} (fallback : A) (found : Option A) → CodeStays (known fallback found)
unfolding known
stays_known fallback found count own s t value going made apart ran =
    known_keeps count own found s t value apart ran

pub stays_var : (key : ℕ) → CodeStays (var key)
unfolding var
stays_var key count own s t value going made apart ran =
    known_keeps count own (var_in key s.vars) s t value apart ran

pub stays_number : (name : FunctionName) → CodeStays (number name)
unfolding number
stays_number name count own s t value going made apart ran =
    known_keeps count own (s.number name) s t value apart ran

pub stays_reg : (kind : RegKind) → CodeStays (reg kind)
unfolding reg
stays_reg kind count own s t value going made apart ran =
    by (nat_le MAX_REGISTERS (length s.made.regs)) ran where
      after : Making
      after = record s { made = with_register kind s.made }

      by : (full : Bool)
          → (if full then Err Registers else gave (length s.made.regs) after) ≡ Ok (value, t)
          → Stays count own s t
      by true ran = cc
      by false ran =
          subst (Stays count own s) (ended (length s.made.regs) after value t ran).1
          (all_kept count own s after apart (λ at. refl) refl)

pub stays_bind : (bound : Bound) → CodeStays (bind bound)
unfolding bind
stays_bind bound count own s t value going made apart ran =
    let after : Making = record s { vars = s.vars ++ bound ∷ [] } in
    subst (Stays count own s) (ended tt after value t ran).1
    (all_kept count own s after apart (λ at. refl) refl)

-- an instruction of the block that goes on
emit_keeps : (count own : ℕ) (instr : Instr) (s t : Making) (value : Unit {0}) → IsGoing s
    → IsApart count own s → run_emit instr s ≡ Ok (value, t) → Stays count own s t
emit_keeps count own instr s t value going apart ran =
    by (nat_le MAX_POINTS (length (points_of s.made.blocks))) ran where
      over : Making
      over = record s { over = true }

      written : Making
      written = record s { made = in_block (with_instr instr) s.here s.made }

      by : (full : Bool) → (if full then gave tt over else gave tt written) ≡ Ok (value, t)
          → Stays count own s t
      by true ran =
          subst (Stays count own s) (ended tt over value t ran).1
          (all_kept count own s over apart (λ at. refl) refl)
      by false ran =
          subst (Stays count own s) (ended tt written value t ran).1
          (kept_others count own s written apart
          (λ at other. instrs_beside instr s.here at s.made.blocks going other) refl)

pub stays_emit : (instr : Instr) → CodeStays (emit instr)
unfolding emit
stays_emit instr count own s t value going made apart ran =
    emit_keeps count own instr s t value going apart ran

pub stays_front : (instr : Instr) → CodeStays (front instr)
unfolding front
stays_front instr count own s t value going made apart ran =
    by (is_payload instr && payloads_alone (slice_get s.made.blocks s.here)) ran where
      by : (may : Bool) → (if may then run_emit instr s else Err Missing) ≡ Ok (value, t)
          → Stays count own s t
      by true ran = emit_keeps count own instr s t value going apart ran
      by false ran = cc

pub stays_close : (last : Last) → CodeStays (close last)
unfolding close
stays_close last count own s t value going made apart ran =
    let after : Making = record s { made = in_block (with_last last) s.here s.made } in
    subst (Stays count own s) (ended tt after value t ran).1
    (all_kept count own s after apart
    (λ at. instrs_ended last s.here at s.made.blocks) refl)

-- a block is made, and it is none of the first
pub stays_block : (entry : Entry) → CodeStays (block_for entry)
unfolding block_for
stays_block entry count own s t value going made apart ran =
    by (nat_le MOST_BLOCKS (length s.made.blocks)) ran where
      after : Making
      after = record s { made = with_block s.made }

      by : (full : Bool)
          → (if full then Err Blocks else gave (length s.made.blocks) after) ≡ Ok (value, t)
          → Stays count own s t
      by true ran = cc
      by false ran =
          subst (Stays count own s) (ended (length s.made.blocks) after value t ran).1
          (all_kept count own s after apart (λ at. instrs_new at s.made.blocks) refl)

pub yields_block : (count : ℕ) (entry : Entry)
    → Yields count (λ block. count ≤ block) (block_for entry)
unfolding block_for
yields_block count entry s t value made going ran =
    by (nat_le MOST_BLOCKS (length s.made.blocks)) ran where
      by : (full : Bool)
          → (if full then Err Blocks
          else gave (length s.made.blocks) (record s { made = with_block s.made })) ≡ Ok (value, t)
          → count ≤ value
      by true ran = cc
      by false ran =
          subst (λ block. count ≤ block)
          (ended (length s.made.blocks) (record s { made = with_block s.made }) value t ran).0 made

-- code after a block is made
pub keeps_block : {B : Type 0} (count own : ℕ) (entry : Entry) (next : ℕ → Code B)
    → ((block : ℕ) → count ≤ block → Keeps count own (next block))
    → Keeps count own (andthen (block_for entry) next)
keeps_block count own entry next keeps =
    keeps_with (λ block. count ≤ block) count own (block_for entry) next
    (stays_block entry count own) (yields_block count entry) keeps

-- A block goes on that is none of the first.
pub keeps_resume : (count own block : ℕ) → count ≤ block → Keeps count own (resume block)
unfolding resume
keeps_resume count own block above s t value going made apart ran =
    by (nat_lt block (length s.made.blocks)) ran where
      after : Making
      after = record s { here = block }

      by : (is : Bool) → (if is then gave tt after else Err Missing) ≡ Ok (value, t)
          → Stays count own s t
      by false ran = cc
      by true ran =
          subst (Stays count own s) (ended tt after value t ran).1
          (record { others = λ at below other. refl; there = inr above })
