-- What code writes that is made of other code.
use Rattle.std.proofs.Common.{◌≡◌, length}
use Rattle.std.proofs.Common.{subst, refl, take}
use Rattle.std.specs.Prelude.{Result, Ok, Err}
use Rattle.sw_graph.specs.declared.instr.Instr.{Instr}
use Rattle.sw_lower_plans.specs.Plan.{Numbers}
use Rattle.sw_lower_plans.specs.Run.{Making, with_vars}
use Rattle.sw_lower_plans.specs.declared.fault.CodeFault.{CodeFault}
use Rattle.sw_lower_code.specs.Code.{Code, andthen, done, scope}
use Rattle.sw_lower_total_facts.proofs.Frames.Joining.{ran_both}
use Rattle.sw_lower_formed_facts.proofs.Positions.Steps.{ended}
use Rattle.sw_lower_call_facts.specs.Writing.{HoldsOnly, WritesOnly}

-- What is so of each value that code gives.
abbrev pub Gives : {A : Type 0} → (A → Type 0) → Code A → Type 0
Gives {A} Q code = (s t : Making) (value : A) → code.run s ≡ Ok (value, t) → Q value

pub gives_done : {A : Type 0} (Q : A → Type 0) (value : A) → Q value → Gives Q (done value)
unfolding done
gives_done Q value so s t given ran = subst Q (ended value s given t ran).0 so

pub gives_then : {A B : Type 0} (Q : A → Type 0) (R : B → Type 0) (first : Code A)
    (next : A → Code B) → Gives Q first → ((value : A) → Q value → Gives R (next value))
    → Gives R (andthen first next)
gives_then Q R first next one two s t value ran =
    let both = ran_both first next s t value ran in
    two both.0 (one s both.1 both.0 both.2) both.1 t value both.3

module _ {P : Instr → Type 0} {numbers : Numbers} where
  -- code, and after it code that takes its value, of which something is so
  pub writes_with : {A B : Type 0} (Q : A → Type 0) (first : Code A) (next : A → Code B)
      → WritesOnly P numbers first → Gives Q first
      → ((value : A) → Q value → WritesOnly P numbers (next value))
      → WritesOnly P numbers (andthen first next)
  writes_with Q first next one gives two = record {
    keeps = λ s t value holds ran.
        let both = ran_both first next s t value ran in
        (two both.0 (gives s both.1 both.0 both.2)).keeps both.1 t value
        (one.keeps s both.1 both.0 holds both.2) both.3;
  }

  -- code, and after it code that takes its value
  pub writes_then : {A B : Type 0} (first : Code A) (next : A → Code B) → WritesOnly P numbers first
      → ((value : A) → WritesOnly P numbers (next value))
      → WritesOnly P numbers (andthen first next)
  writes_then first next one two = record {
    keeps = λ s t value holds ran.
        let both = ran_both first next s t value ran in
        (two both.0).keeps both.1 t value (one.keeps s both.1 both.0 holds both.2) both.3;
  }

  -- code whose variables are seen in it alone
  pub writes_scope : {A : Type 0} (code : Code A) → WritesOnly P numbers code
      → WritesOnly P numbers (scope code)
  unfolding scope
  writes_scope {A} code writes = record { keeps = keeps } where
    keeps : (s t : Making) (value : A) → HoldsOnly P numbers s → (scope code).run s ≡ Ok (value, t)
        → HoldsOnly P numbers t
    keeps s t value holds ran = by (code.run s) refl ran where
      by : (result : Result (A × Making) CodeFault) → code.run s ≡ result
          → with_vars (length s.vars) result ≡ Ok (value, t) → HoldsOnly P numbers t
      by (Err fault) is ran = cc
      by (Ok at) is ran =
          let u : Making = record at.1 { vars = take (length s.vars) at.1.vars } in
          let has = writes.keeps s at.1 at.0 holds is in
          let same : HoldsOnly P numbers u =
          record { written = has.written; number = has.number } in
          subst (HoldsOnly P numbers) (ended at.0 u value t ran).1 same

  -- nothing is made
  pub writes_done : {A : Type 0} (value : A) → WritesOnly P numbers (done value)
  unfolding done
  writes_done value = record {
    keeps = λ s t given holds ran. subst (HoldsOnly P numbers) (ended value s given t ran).1 holds;
  }
