-- Where payloads may be taken: in a block that has payloads alone.
use Rattle.std.proofs.Common.{◌≡◌, ℕ, zero, suc, ◌<◌, Bool, true, false, ◌&&◌, List, [], ◌∷◌, ◌++◌}
use Rattle.std.proofs.Common.{ap, length, sym, ◌∙◌, subst, arith, true≢false}
use Rattle.std.proofs.lemmas.List.Folds.{list_all-append}
use Rattle.std.specs.List.{list_all}
use Rattle.std.specs.Prelude.{Option, Ok, Err, nat_le, slice_get, if◌then◌else◌}
use Rattle.sw_graph.specs.Payloads.{is_payload}
use Rattle.sw_graph.specs.declared.function.RegKind.{RegKind}
use Rattle.sw_graph.specs.declared.function.TheConstants.{MAX_POINTS, MAX_REGISTERS}
use Rattle.sw_graph.specs.declared.instr.Block.{Block}
use Rattle.sw_graph.specs.declared.instr.Instr.{Instr}
use Rattle.sw_lower_builder.specs.Blocks.{changed_at, with_instr}
use Rattle.sw_lower_builder.specs.Unfinished.{in_block, with_register}
use Rattle.sw_lower_plans.specs.Run.{IsGoing, Making, instrs_at, instrs_of, payloads_alone, points}
use Rattle.sw_lower_plans.specs.Run.{run_emit}
use Rattle.sw_lower_plans.specs.declared.bound.Bound.{Bound}
use Rattle.sw_lower_plans.specs.declared.fault.CodeFault.TheVariants.{Missing, Registers}
use Rattle.sw_lower_code.specs.Code.{Code, andthen, bind, done, front, known, reg}
use Rattle.sw_lower_formed_facts.proofs.Positions.Steps.{ended, gave}
use Rattle.sw_lower_total_facts.specs.Proceeding.{Proceeds}
use Rattle.sw_lower_total_facts.proofs.Frames.Joining.{ran_both}
use Rattle.sw_lower_total_facts.proofs.Proceeding.Steps.{gives_known}
use Rattle.sw_lower_total_facts.proofs.Proceeding.Then.{proceeds_then}

-- The block that goes on has payloads alone.
abbrev pub InFront : Making → Type 0
InFront s = payloads_alone (slice_get s.made.blocks s.here) ≡ true

-- After code the block that goes on has payloads alone, where it had before.
abbrev pub KeepsFront : {A : Type 0} → Code A → Type 0
KeepsFront {A} code = (s t : Making) (value : A) → InFront s → code.run s ≡ Ok (value, t)
    → InFront t

-- So it is in a block without instructions.
pub front_of_empty : (s : Making) → IsGoing s → instrs_at s.here s.made.blocks ≡ [] → InFront s
unfolding instrs_at
front_of_empty s going empty = by s.made.blocks s.here going empty where
  by : (blocks : List Block) (here : ℕ) → here < length blocks
      → instrs_of (slice_get blocks here) ≡ []
      → payloads_alone (slice_get blocks here) ≡ true
  by [] here below none = absurd (omega (arith, below))
  by (block ∷ blocks) zero below none = ap (list_all is_payload) none
  by (block ∷ blocks) (suc here) below none = by blocks here (omega (arith, below)) none

-- one payload more
alone_more : (instr : Instr) (here : ℕ) (blocks : List Block) → is_payload instr ≡ true
    → payloads_alone (slice_get blocks here) ≡ true
    → payloads_alone (slice_get (changed_at (with_instr instr) here blocks) here) ≡ true
unfolding changed_at
alone_more instr here [] payload alone = absurd (true≢false (sym alone))
alone_more instr zero (block ∷ blocks) payload alone =
    list_all-append is_payload block.instrs (instr ∷ [])
    ∙ ap (λ before. before && (is_payload instr && true)) alone
    ∙ ap (λ own. own && true) payload
alone_more instr (suc here) (block ∷ blocks) payload alone =
    alone_more instr here blocks payload alone

pub front_done : {A : Type 0} (value : A) → KeepsFront (done value)
unfolding done
front_done value s t given alone ran = subst InFront (ended value s given t ran).1 alone

pub front_known : {A : Type 0} (fallback : A) (found : Option A) → KeepsFront (known fallback found)
front_known fallback found s t value alone ran =
    subst InFront (sym (gives_known fallback found value s t ran).1) alone

pub front_reg : (kind : RegKind) → KeepsFront (reg kind)
unfolding reg
front_reg kind s t value alone ran = by (nat_le MAX_REGISTERS (length s.made.regs)) ran where
  after : Making
  after = record s { made = with_register kind s.made }

  by : (full : Bool)
      → (if full then Err Registers else gave (length s.made.regs) after) ≡ Ok (value, t)
      → InFront t
  by true is = cc
  by false is = subst InFront (ended (length s.made.regs) after value t is).1 alone

pub front_bind : (bound : Bound) → KeepsFront (bind bound)
unfolding bind
front_bind bound s t value alone ran =
    subst InFront (ended tt (record s { vars = s.vars ++ bound ∷ [] }) value t ran).1 alone

front_emit : (instr : Instr) (s t : Making) (value : Unit {0}) → is_payload instr ≡ true
    → InFront s → run_emit instr s ≡ Ok (value, t) → InFront t
front_emit instr s t value payload alone ran = by (nat_le MAX_POINTS (points s)) ran where
  over : Making
  over = record s { over = true }

  written : Making
  written = record s { made = in_block (with_instr instr) s.here s.made }

  by : (full : Bool) → (if full then gave tt over else gave tt written) ≡ Ok (value, t)
      → InFront t
  by true is = subst InFront (ended tt over value t is).1 alone
  by false is =
      subst InFront (ended tt written value t is).1
      (alone_more instr s.here s.made.blocks payload alone)

pub front_front : (instr : Instr) → is_payload instr ≡ true → KeepsFront (front instr)
unfolding front
front_front instr payload s t value alone ran =
    by (is_payload instr && payloads_alone (slice_get s.made.blocks s.here)) ran where
      by : (may : Bool) → (if may then run_emit instr s else Err Missing) ≡ Ok (value, t)
          → InFront t
      by true is = front_emit instr s t value payload alone is
      by false is = cc

-- code, and after it code that takes its value
pub front_then : {A B : Type 0} (first : Code A) (next : A → Code B) → KeepsFront first
    → ((value : A) → KeepsFront (next value)) → KeepsFront (andthen first next)
front_then first next one two s t value alone ran =
    let both = ran_both first next s t value ran in
    two both.0 both.1 t value (one s both.1 both.0 alone both.2) both.3

-- Code after such code proceeds.
pub then_front : {A B : Type 0} (first : Code A) (next : A → Code B) (s : Making) → IsGoing s
    → InFront s → KeepsFront first → Proceeds s first
    → ((value : A) (t : Making) → IsGoing t → InFront t → Proceeds t (next value))
    → Proceeds s (andthen first next)
then_front first next s going alone keeps one two =
    proceeds_then first next s going one
    (λ value t is ran. two value t ran.1.there (keeps s t value alone is))
