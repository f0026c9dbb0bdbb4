-- What the run of each single step makes is what its plan says.
use Rattle.std.proofs.Common.{◌≡◌, ℕ, inl, inr, Option, Some, None, []}
use Rattle.std.proofs.Common.{◌∷◌, Bool, true, false, length, refl, sym, ◌∙◌, arith}
use Rattle.std.proofs.Common.{append-nil, length-append}
use Rattle.std.specs.Prelude.{Ok, Err, nat_le, nat_lt, ◌&&◌, if◌then◌else◌}
use Rattle.std.specs.Option.{unwrap_or}
use Rattle.std.specs.List.{slice_get}
use Rattle.sw_graph.specs.Payloads.{is_payload}
use Rattle.sw_graph.specs.Points.{points_of}
use Rattle.sw_graph.specs.declared.function.RegKind.{RegKind}
use Rattle.sw_graph.specs.declared.function.TheConstants.{MAX_POINTS, MAX_REGISTERS}
use Rattle.sw_graph.specs.declared.instr.Instr.{Instr}
use Rattle.sw_graph.specs.declared.instr.Last.{Last}
use Rattle.sw_lower_builder.specs.Blocks.{new_block, with_instr, with_last}
use Rattle.sw_lower_builder.specs.Unfinished.{in_block, with_block, with_register}
use Rattle.sw_lower_builder.specs.declared.builder.TheConstants.{MOST_BLOCKS}
use Rattle.sw_lower_builder.proofs.BlockLemmas.{length_changed, points_new_block, points_with_instr}
use Rattle.sw_lower_builder.proofs.BlockLemmas.{points_with_last}
use Rattle.sw_lower_plans.specs.Plan.{Entry, nothing, plan_bind, plan_block, plan_emit, plan_close}
use Rattle.sw_lower_plans.specs.Plan.{plan_reg, plan_resume, var_in}
use Rattle.sw_lower_plans.specs.Run.{IsGoing, Making, Makes, Meets, place_of, payloads_alone}
use Rattle.sw_lower_plans.specs.Run.{run_bind, run_block, run_emit, run_close, run_front, run_known}
use Rattle.sw_lower_plans.specs.Run.{run_number, run_reg, run_resume, run_var}
use Rattle.sw_lower_plans.specs.declared.bound.Bound.{Bound}
use Rattle.sw_lower_plans.specs.declared.name.FunctionName.{FunctionName}
use Rattle.sw_lower_plans.specs.declared.fault.CodeFault.TheVariants.{Registers, Blocks, Missing}
use Rattle.sw_lower_plans.proofs.BlockFacts.{instrs_emitted, instrs_ended, instrs_new, last_emitted}
use Rattle.sw_lower_plans.proofs.BlockFacts.{last_ended, last_new}

-- nothing is made
makes_nothing : {A : Type 0} (value : A) (s : Making) → IsGoing s
    → Makes (nothing value (place_of s)) s s
makes_nothing value s going = record {
  key = refl;
  iso = refl;
  is_async = refl;
  number = refl;
  regs = sym (append-nil _);
  few = λ few. few;
  blocks = omega arith;
  here = refl;
  there = going;
  vars = sym (append-nil _);
  lasts = λ number. refl;
  inside = tt;
  most = omega arith;
  beyond = λ over. inl over;
  before = λ fits. fits;
  exact = λ fits. omega arith;
  instrs = λ fits number. sym (append-nil _);
}

pub same_done : {A : Type 0} (value : A) (s : Making) → IsGoing s
    → Meets s (Ok (value, s)) (nothing value (place_of s))
same_done value s going = (refl, makes_nothing value s going)

pub same_known : {A : Type 0} (fallback : A) (value : Option A) (s : Making) → IsGoing s
    → Meets s (run_known value s) (nothing (unwrap_or value fallback) (place_of s))
same_known fallback None s going = tt
same_known fallback (Some value) s going = (refl, makes_nothing value s going)

pub same_var : (fallback : Bound) (key : ℕ) (s : Making) → IsGoing s
    → Meets s (run_var key s) (nothing (unwrap_or (var_in key s.vars) fallback) (place_of s))
same_var fallback key s going = same_known fallback (var_in key s.vars) s going

pub same_number : (fallback : ℕ) (name : FunctionName) (s : Making) → IsGoing s
    → Meets s (run_number name s) (nothing (unwrap_or (s.number name) fallback) (place_of s))
same_number fallback name s going = same_known fallback (s.number name) s going

pub same_bind : (bound : Bound) (s : Making) → IsGoing s
    → Meets s (run_bind bound s) (plan_bind bound (place_of s))
same_bind bound s going = (
  refl,
  record {
    key = refl;
    iso = refl;
    is_async = refl;
    number = refl;
    regs = sym (append-nil _);
    few = λ few. few;
    blocks = omega arith;
    here = refl;
    there = going;
    vars = refl;
    lasts = λ number. refl;
    inside = tt;
    most = omega arith;
    beyond = λ over. inl over;
    before = λ fits. fits;
    exact = λ fits. omega arith;
    instrs = λ fits number. sym (append-nil _);
  },
)

pub same_reg : (kind : RegKind) (s : Making) → IsGoing s
    → Meets s (run_reg kind s) (plan_reg kind (place_of s))
same_reg kind s going = by (nat_le MAX_REGISTERS (length s.made.regs)) refl where
  by : (full : Bool) → nat_le MAX_REGISTERS (length s.made.regs) ≡ full
      → Meets s (if full then Err Registers
      else Ok (length s.made.regs, record s { made = with_register kind s.made }))
      (plan_reg kind (place_of s))
  by true is = grind (arith, is)
  by false is = (
    refl,
    record {
      key = refl;
      iso = refl;
      is_async = refl;
      number = refl;
      regs = refl;
      few = λ few. grind (arith, is, length-append s.made.regs (kind ∷ []));
      blocks = omega arith;
      here = refl;
      there = going;
      vars = sym (append-nil _);
      lasts = λ number. refl;
      inside = tt;
      most = omega arith;
      beyond = λ over. inl over;
      before = λ fits. fits;
      exact = λ fits. omega arith;
      instrs = λ fits number. sym (append-nil _);
    },
  )

pub same_block : (entry : Entry) (s : Making) → IsGoing s
    → Meets s (run_block s) (plan_block entry (place_of s))
same_block entry s going = by (nat_le MOST_BLOCKS (length s.made.blocks)) refl where
  by : (full : Bool) → nat_le MOST_BLOCKS (length s.made.blocks) ≡ full
      → Meets s (if full then Err Blocks
      else Ok (length s.made.blocks, record s { made = with_block s.made }))
      (plan_block entry (place_of s))
  by true is = grind (arith, is)
  by false is =
      let more = points_new_block s.made.blocks in
      let longer = length-append s.made.blocks (new_block ∷ []) in (
        refl,
        record {
          key = refl;
          iso = refl;
          is_async = refl;
          number = refl;
          regs = sym (append-nil _);
          few = λ few. few;
          blocks = longer;
          here = refl;
          there = omega (arith, longer);
          vars = sym (append-nil _);
          lasts = λ number. last_new number s.made.blocks;
          inside = tt;
          most = omega (arith, more);
          beyond = λ over. inl over;
          before = λ fits. fits;
          exact = λ fits. omega (arith, more);
          instrs = λ fits number. instrs_new number s.made.blocks ∙ sym (append-nil _);
        },
      )

pub same_emit : (instr : Instr) (s : Making) → IsGoing s
    → Meets s (run_emit instr s) (plan_emit instr (place_of s))
same_emit instr s going = by (nat_le MAX_POINTS (length (points_of s.made.blocks))) refl where
  by : (full : Bool) → nat_le MAX_POINTS (length (points_of s.made.blocks)) ≡ full
      → Meets s (if full then Ok (tt, record s { over = true })
      else Ok (tt, record s { made = in_block (with_instr instr) s.here s.made }))
      (plan_emit instr (place_of s))
  by true is = (
    refl,
    record {
      key = refl;
      iso = refl;
      is_async = refl;
      number = refl;
      regs = sym (append-nil _);
      few = λ few. few;
      blocks = omega arith;
      here = refl;
      there = going;
      vars = sym (append-nil _);
      lasts = λ number. refl;
      inside = (going, tt);
      most = omega arith;
      beyond = λ over. inr (grind (arith, is));
      before = λ fits. cc;
      exact = λ fits. cc;
      instrs = λ fits number. cc;
    },
  )
  by false is =
      let more = points_with_instr instr s.here s.made.blocks going in
      let as_long = length_changed (with_instr instr) s.here s.made.blocks in (
        refl,
        record {
          key = refl;
          iso = refl;
          is_async = refl;
          number = refl;
          regs = sym (append-nil _);
          few = λ few. few;
          blocks = omega (arith, as_long);
          here = refl;
          there = omega (arith, as_long);
          vars = sym (append-nil _);
          lasts = λ number. last_emitted instr s.here number s.made.blocks;
          inside = (omega (arith, as_long), tt);
          most = omega (arith, more);
          beyond = λ over. inl over;
          before = λ fits. fits;
          exact = λ fits. omega (arith, more);
          instrs = λ fits number. instrs_emitted instr s.here number s.made.blocks going;
        },
      )

pub same_front : (instr : Instr) (s : Making) → IsGoing s
    → Meets s (run_front instr s) (plan_emit instr (place_of s))
same_front instr s going =
    by (is_payload instr && payloads_alone (slice_get s.made.blocks s.here)) where
      by : (front : Bool)
          → Meets s (if front then run_emit instr s else Err Missing) (plan_emit instr (place_of s))
      by true = same_emit instr s going
      by false = tt

pub same_close : (last : Last) (s : Making) → IsGoing s
    → Meets s (run_close last s) (plan_close last (place_of s))
same_close last s going =
    let as_many = points_with_last last s.here s.made.blocks in
    let as_long = length_changed (with_last last) s.here s.made.blocks in (
      refl,
      record {
        key = refl;
        iso = refl;
        is_async = refl;
        number = refl;
        regs = sym (append-nil _);
        few = λ few. few;
        blocks = omega (arith, as_long);
        here = refl;
        there = omega (arith, as_long);
        vars = sym (append-nil _);
        lasts = λ number. last_ended last s.here number s.made.blocks going;
        inside = tt;
        most = omega (arith, as_many);
        beyond = λ over. inl over;
        before = λ fits. fits;
        exact = λ fits. omega (arith, as_many);
        instrs = λ fits number.
            instrs_ended last s.here number s.made.blocks ∙ sym (append-nil _);
      },
    )

pub same_resume : (number : ℕ) (s : Making) → IsGoing s
    → Meets s (run_resume number s) (plan_resume number (place_of s))
same_resume number s going = by (nat_lt number (length s.made.blocks)) refl where
  by : (made : Bool) → nat_lt number (length s.made.blocks) ≡ made
      → Meets s (if made then Ok (tt, record s { here = number }) else Err Missing)
      (plan_resume number (place_of s))
  by false is = tt
  by true is = (
    refl,
    record {
      key = refl;
      iso = refl;
      is_async = refl;
      number = refl;
      regs = sym (append-nil _);
      few = λ few. few;
      blocks = omega arith;
      here = refl;
      there = grind (arith, is);
      vars = sym (append-nil _);
      lasts = λ number. refl;
      inside = tt;
      most = omega arith;
      beyond = λ over. inl over;
      before = λ fits. fits;
      exact = λ fits. omega arith;
      instrs = λ fits number. sym (append-nil _);
    },
  )
