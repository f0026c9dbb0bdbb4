-- The blocks that a `switch` makes are empty until their arms begin.
use Rattle.std.proofs.Common.{◌≡◌, ℕ, zero, suc, ◌+◌, ◌<◌, ◌≤◌, Bool, true, false, List, [], ◌∷◌}
use Rattle.std.proofs.Common.{Option, Some, None, length, map, ap, sym, ◌∙◌, subst, refl, arith}
use Rattle.std.proofs.Common.{length-append}
use Rattle.std.proofs.lemmas.Option.{none-some, same_Some}
use Rattle.std.specs.Prelude.{Err, Ok, nat_le, nat_lt, if◌then◌else◌}
use Rattle.sw_types.specs.declared.shape.Shape.{Shape}
use Rattle.sw_graph.specs.declared.instr.Block.{Block}
use Rattle.sw_graph.specs.declared.instr.Last.{Last}
use Rattle.sw_graph.specs.declared.instr.Operand.{Operand}
use Rattle.sw_lower_builder.specs.Blocks.{with_last}
use Rattle.sw_lower_builder.specs.Unfinished.{in_block, with_block}
use Rattle.sw_lower_builder.specs.declared.builder.TheConstants.{MOST_BLOCKS}
use Rattle.sw_lower_plans.specs.Plan.{Anywhere, Entry, OfCase, Place, after}
use Rattle.sw_lower_plans.specs.Run.{Making, instrs_at, place_of}
use Rattle.sw_lower_plans.specs.declared.fault.CodeFault.TheVariants.{Blocks, Missing}
use Rattle.sw_lower_plans.proofs.BlockFacts.{instrs_ended, instrs_new}
use Rattle.sw_lower_code.specs.Code.{Code, andthen, block_for, close, done, each, known, resume}
use Rattle.sw_lower_code.specs.Code.{◌>>=◌}
use Rattle.sw_lower_rules.specs.Carriers.{BlockCode, CaseCode}
use Rattle.sw_lower_rules.specs.Expressions.{block_made}
use Rattle.sw_lower_rules.specs.Statements.{Arm, arm_block, case_from, default_block}
use Rattle.sw_lower_rules.specs.Tables.{Tables}
use Rattle.sw_lower_formed_facts.proofs.Positions.Steps.{ended, gave}
use Rattle.sw_lower_total_facts.proofs.Frames.Joining.{ran_both}
use Rattle.sw_lower_total_facts.proofs.Proceeding.Steps.{gives_known}
use Rattle.sw_lower_total_facts.proofs.Proceeding.Then.{Ran}

-- Each block has after the code the instructions that it had before.
abbrev pub WritesNothing : {A : Type 0} → Code A → Type 0
WritesNothing {A} code = (s t : Making) (value : A) → code.run s ≡ Ok (value, t)
    → (number : ℕ) → instrs_at number t.made.blocks ≡ instrs_at number s.made.blocks

writes_done : {A : Type 0} (value : A) → WritesNothing (done value)
unfolding done
writes_done value s t given ran number =
    ap (λ (m : Making). instrs_at number m.made.blocks) (sym (ended value s given t ran).1)

writes_known : {A : Type 0} (fallback : A) (found : Option A)
    → WritesNothing (known fallback found)
writes_known fallback found s t value ran number =
    ap (λ (m : Making). instrs_at number m.made.blocks)
    (gives_known fallback found value s t ran).1

pub writes_block : (entry : Entry) → WritesNothing (block_for entry)
unfolding block_for
writes_block entry s t block ran number =
    by (nat_le MOST_BLOCKS (length s.made.blocks)) ran where
      later : Making
      later = record s { made = with_block s.made }

      by : (full : Bool)
          → (if full then Err Blocks else gave (length s.made.blocks) later) ≡ Ok (block, t)
          → instrs_at number t.made.blocks ≡ instrs_at number s.made.blocks
      by true is = cc
      by false is =
          ap (λ (m : Making). instrs_at number m.made.blocks)
          (sym (ended (length s.made.blocks) later block t is).1)
          ∙ instrs_new number s.made.blocks

pub writes_close : (last : Last) → WritesNothing (close last)
unfolding close
writes_close last s t value ran number =
    ap (λ (m : Making). instrs_at number m.made.blocks) (sym (ended tt
    (record s { made = in_block (with_last last) s.here s.made }) value t ran).1)
    ∙ instrs_ended last s.here number s.made.blocks

writes_then : {A B : Type 0} (first : Code A) (next : A → Code B) → WritesNothing first
    → ((value : A) → WritesNothing (next value)) → WritesNothing (andthen first next)
writes_then first next one two s t value ran number =
    let both = ran_both first next s t value ran in
    two both.0 both.1 t value both.3 number ∙ one s both.1 both.0 both.2 number

writes_each : {A B : Type 0} (code : A → Code B) (xs : List A)
    → ((x : A) → WritesNothing (code x)) → WritesNothing (each code xs)
unfolding each
writes_each code [] one = writes_done []
writes_each code (x ∷ xs) one =
    writes_then (code x) (λ y. each code xs >>= λ ys. done (y ∷ ys)) (one x)
    (λ y. writes_then (each code xs) (λ ys. done (y ∷ ys)) (writes_each code xs one)
    (λ ys. writes_done (y ∷ ys)))

-- A block that isn't there has no instructions.
pub empty_end : (blocks : List Block) (number : ℕ) → length blocks ≤ number
    → instrs_at number blocks ≡ []
unfolding instrs_at
empty_end [] number beyond = refl
empty_end (block ∷ blocks) zero beyond = absurd (omega (arith, beyond))
empty_end (block ∷ blocks) (suc number) beyond = empty_end blocks number (omega (arith, beyond))

-- where a block that goes on was made
pub record Resumed (s t : Making) (to : ℕ) : Type 0 where
  pub here : t.here ≡ to
  pub made : t.made ≡ s.made

pub resumed : (to : ℕ) (s t : Making) (value : Unit {0}) → (resume to).run s ≡ Ok (value, t)
    → Resumed s t to
unfolding resume
resumed to s t value ran = by (nat_lt to (length s.made.blocks)) ran where
  later : Making
  later = record s { here = to }

  by : (made : Bool) → (if made then gave value later else Err Missing) ≡ Ok (value, t)
      → Resumed s t to
  by true is =
      subst (λ m. Resumed s m to) (ended value later value t is).1
      (record { here = refl; made = refl })
  by false is = cc

-- arms whose blocks have the numbers from one on
abbrev pub AreAt : ℕ → List Arm → Type 0
AreAt number [] = Unit {0}
AreAt number (one ∷ more) = (one.block ≡ number) × AreAt (suc number) more

abbrev pub arms_of : List Arm → List CaseCode
arms_of blocks = map (λ (one : Arm). one.arm) blocks

module _ (tables : Tables) where
  -- The blocks of arms are made one after the other.
  pub record ArmsMade (s t : Making) (arms : List CaseCode) (blocks : List Arm) : Type 0 where
    pub are : arms_of blocks ≡ arms
    pub at : AreAt (length s.made.blocks) blocks
    pub more : length t.made.blocks ≡ length s.made.blocks + length arms

  made_each : (given : Operand) (k : ℕ) (shape : Shape) (arms : List CaseCode) (place : Place)
      → (arms_of ((each (arm_block tables given k shape) arms).plan place).value ≡ arms)
      × (AreAt place.blocks ((each (arm_block tables given k shape) arms).plan place).value
      × (length ((each (arm_block tables given k shape) arms).plan place).made ≡ length arms))
  unfolding each andthen known block_for done
  made_each given k shape [] place = (refl, (tt, refl))
  made_each given k shape (arm ∷ arms) place =
      let first = (arm_block tables given k shape arm).plan place in
      let later = (each (arm_block tables given k shape) arms).plan (after place first) in
      let rest = made_each given k shape arms (after place first) in (
        ap (λ more. arm ∷ more) rest.0,
        (
          (omega arith, subst (λ n. AreAt n later.value) (omega arith) rest.1.0),
          omega (arith, rest.1.1, length-append later.made []),
        ),
      )

  pub arms_made : (given : Operand) (k : ℕ) (shape : Shape) (arms : List CaseCode)
      (blocks : List Arm) (s t : Making)
      → Ran (each (arm_block tables given k shape) arms) s blocks t → ArmsMade s t arms blocks
  arms_made given k shape arms blocks s t ran =
      let planned = made_each given k shape arms (place_of s) in record {
        are = ap arms_of ran.0 ∙ planned.0;
        at = subst (AreAt (length s.made.blocks)) (sym ran.0) planned.1.0;
        more = omega (arith, ran.1.blocks, planned.1.1);
      }

  pub writes_arms : (given : Operand) (k : ℕ) (shape : Shape) (arms : List CaseCode)
      → WritesNothing (each (arm_block tables given k shape) arms)
  writes_arms given k shape arms =
      writes_each (arm_block tables given k shape) arms
      (λ arm. writes_then (known 0 (case_from 0 shape.cases arm.name.id))
      (λ tag. block_for (OfCase given.reg k tag)
      >>= λ block. done (record { arm = arm; block = block }))
      (writes_known 0 (case_from 0 shape.cases arm.name.id))
      (λ tag. writes_then (block_for (OfCase given.reg k tag))
      (λ block. done (record { arm = arm; block = block }))
      (writes_block (OfCase given.reg k tag))
      (λ block. writes_done (record { arm = arm; block = block }))))

  -- that of a `default`, if there is one
  pub default_made : (otherwise : Option BlockCode) (default : Option ℕ) (s t : Making)
      → Ran (default_block tables otherwise) s default t → (to : ℕ) → default ≡ Some to
      → to < length t.made.blocks
  unfolding andthen block_for done
  default_made None default s t ran to is = absurd (none-some to (sym ran.0 ∙ is))
  default_made (Some block) default s t ran to is =
      let same = same_Some (length s.made.blocks) to (sym ran.0 ∙ is) in
      omega (arith, same, ran.1.blocks)

  pub writes_default : (otherwise : Option BlockCode)
      → WritesNothing (default_block tables otherwise)
  writes_default None = writes_done None
  writes_default (Some block) =
      writes_then block_made (λ to. done (Some to)) (writes_block Anywhere)
      (λ to. writes_done (Some to))
