-- The instructions of a function whose code is quiet.
use Rattle.std.proofs.Common.{◌≡◌, ℕ, zero, suc, ◌+◌, ◌-◌, ◌==◌, Bool, true, false}
use Rattle.std.proofs.Common.{List, [], ◌∷◌}
use Rattle.std.proofs.Common.{◌++◌, length, map, Some, None, refl, sym, ap, subst, ◌∙◌, arith}
use Rattle.std.proofs.Common.{inl, inr, slice_get, nat_lt}
use Rattle.std.proofs.lemmas.Bool.{cases_lt}
use Rattle.std.proofs.lemmas.Option.{none-some, same_Some}
use Rattle.std.specs.List.{AllByRecursion}
use Rattle.std.specs.Prelude.{Err, Ok, Result, if◌then◌else◌}
use Rattle.sw_list.proofs.ListLemmas.{slice_get_first, slice_get_after}
use Rattle.sw_graph.specs.Limits.{IsWithinLimits, excess_of}
use Rattle.sw_graph.specs.Points.{Middle, point_in, points_of, points_of_block}
use Rattle.sw_graph.specs.declared.function.Excess.TheVariants.{Registers, Points}
use Rattle.sw_graph.specs.declared.function.Function.{Function}
use Rattle.sw_graph.specs.declared.function.TheConstants.{MAX_REGISTERS, MAX_POINTS}
use Rattle.sw_graph.specs.declared.instr.Instr.{Instr}
use Rattle.sw_lower_plans.specs.Plan.{Numbers, Piece, Written, block_by, counted_from, written_in}
use Rattle.sw_lower_plans.specs.Run.{Making, at_start}
use Rattle.sw_lower_plans.specs.declared.fault.CodeFault.{CodeFault}
use Rattle.sw_lower_plans.specs.declared.fault.CodeFault.TheVariants as code_faults
use Rattle.sw_lower_code.specs.Code.{all}
use Rattle.sw_lower_code.specs.Whole.{Body, IsWhole, code_of, ended_by, enter, function_of}
use Rattle.sw_lower_code.specs.Whole.{lower_body, piece_of}
use Rattle.sw_lower_code.specs.declared.taken.Taken.{Taken}
use Rattle.sw_lower_code.proofs.WholeFacts.{blocks_fit, lowers_whole, wants_no_memory}
use Rattle.sw_lower_rules.specs.Tables.{Tables}
use Rattle.sw_lower_formed_facts.proofs.Functions.Points.{middle_at}
use Rattle.sw_lower_total_facts.specs.Proceeding.{BodyProceeds}
use Rattle.sw_lower_first_facts.specs.Quiet.{IsQuiet, WritesQuiet}
use Rattle.sw_lower_first_facts.proofs.Quiet.Joining.{writes_bind, writes_done, writes_reg, writes_then}

module _ (P : Instr → Type 0) where
  -- what holds of all that is written holds of the instructions of each block
  written_so : (number k : ℕ) (writes : List Written) (instr : Instr)
      → AllByRecursion (λ (one : Written). P one.instr) writes
      → slice_get (written_in number writes) k ≡ Some instr → P instr
  written_so number k [] instr all found = absurd (none-some instr found)
  written_so number k (one ∷ writes) instr all found =
      by (one.block == number) k found (λ j. written_so number j writes instr all.1) where
        rest : List Instr
        rest = written_in number writes

        by : (here : Bool) (k : ℕ)
            → slice_get (if here then one.instr ∷ rest else rest) k ≡ Some instr
            → ((j : ℕ) → slice_get rest j ≡ Some instr → P instr) → P instr
        by true zero is more = subst P (same_Some one.instr instr is) all.0
        by true (suc k) is more = more k is
        by false k is more = more k is

  -- and of the instructions at all points
  points_so : {A : Type 0} (piece : Piece A) (numbers : List ℕ) (p : ℕ) (instr : Instr)
      → AllByRecursion (λ (one : Written). P one.instr) piece.writes
      → slice_get (points_of (map (block_by piece) numbers)) p ≡ Some (Middle instr) → P instr
  unfolding points_of
  points_so piece [] p instr all found = absurd (none-some (Middle instr) found)
  points_so piece (number ∷ numbers) p instr all found =
      let block = block_by piece number in
      let own = points_of_block block in
      let rest = points_of (map (block_by piece) numbers) in
      elim (cases_lt p (length own)) [
        | inl below ↦
            written_so number p piece.writes instr all
            (middle_at block.instrs block.last p instr
            (sym (slice_get_first own rest p below) ∙ found))
        | inr above ↦
            let i : ℕ = p - length own in
            let split : p ≡ length own + i = omega (arith, above) in
            points_so piece numbers i instr all
            (sym (slice_get_after own rest i) ∙ ap (slice_get (own ++ rest)) (sym split) ∙ found)
      ]

  pub function_so : (numbers : Numbers) (body : Body) (p : ℕ) (instr : Instr)
      → AllByRecursion (λ (one : Written). P one.instr) (piece_of numbers body).writes
      → point_in (function_of numbers body) p ≡ Some (Middle instr) → P instr
  unfolding function_of
  function_so numbers body p instr all found =
      points_so (piece_of numbers body)
      (counted_from 0 (1 + length (piece_of numbers body).made)) p instr all found

-- A function within the limits has no excess of registers.
no_excess : (function : Function) → IsWithinLimits function
    → excess_of function ≡ Some Registers → ⊥
no_excess function within is =
    by (nat_lt MAX_REGISTERS (length function.regs)) refl
    (nat_lt MAX_POINTS (length (points_of function.blocks))) is where
      by : (many : Bool) → nat_lt MAX_REGISTERS (length function.regs) ≡ many → (long : Bool)
          → (if many then Some Registers else (if long then Some Points else None))
          ≡ Some Registers → ⊥
      by true large long is =
          let few = within.registers in
          grind (arith, large, few)
      by false large true is = cc
      by false large false is = cc

-- A body that proceeds, and whose function is within the limits, runs to its end.
pub body_runs : (numbers : Numbers) (body : Body) → BodyProceeds numbers body
    → IsWithinLimits (function_of numbers body)
    → (t : Making)
    × ((code_of body).run (at_start numbers body.key body.iso body.is_async) ≡ Ok (tt, t))
unfolding lower_body
body_runs numbers body proceeds within = by run refl where
  run : Result (Unit {0} × Making) CodeFault
  run = (code_of body).run (at_start numbers body.key body.iso body.is_async)

  by : (result : Result (Unit {0} × Making) CodeFault) → run ≡ result
      → (t : Making) × (run ≡ Ok (tt, t))
  by (Ok at) is = (at.1, is)
  by (Err code_faults.Missing) is = absurd (proceeds (ap (ended_by body) is))
  by (Err code_faults.Memory) is =
      absurd (wants_no_memory numbers body (ap (ended_by body) is))
  by (Err code_faults.Blocks) is =
      absurd (blocks_fit numbers body within.points
      (subst (IsWhole numbers body) (ap (ended_by body) is) (lowers_whole numbers body)))
  by (Err code_faults.Registers) is =
      absurd (no_excess (function_of numbers body) within
      (subst (IsWhole numbers body) (ap (ended_by body) is) (lowers_whole numbers body)).1)

module _ (tables : Tables) (numbers : Numbers) where
  enters_quiet : (takes : List Taken) → WritesQuiet tables numbers (all enter takes)
  unfolding all
  enters_quiet [] = writes_done tables numbers _
  enters_quiet (taken ∷ takes) =
      writes_then tables numbers (enter taken) _
      (writes_then tables numbers _ _ (writes_reg tables numbers taken.kind) (λ number.
      writes_bind tables numbers _)) (λ value. enters_quiet takes)

  code_quiet : (body : Body) → WritesQuiet tables numbers body.code
      → WritesQuiet tables numbers (code_of body)
  unfolding code_of
  code_quiet body quiet =
      writes_then tables numbers (all enter body.takes) _ (enters_quiet body.takes)
      (λ value. quiet)

  -- Each instruction of the function of a quiet body is quiet.
  pub instr_quiet : (body : Body) → WritesQuiet tables numbers body.code → BodyProceeds numbers body
      → IsWithinLimits (function_of numbers body) → (p : ℕ) (instr : Instr)
      → point_in (function_of numbers body) p ≡ Some (Middle instr)
      → IsQuiet tables numbers instr
  instr_quiet body quiet proceeds within p instr found =
      let (t, ran) = body_runs numbers body proceeds within in
      function_so (IsQuiet tables numbers) numbers body p instr
      (code_quiet body quiet (at_start numbers body.key body.iso body.is_async) t tt
      (omega arith) refl ran) found
