-- Code that proceeds, and after it code that proceeds.
use Rattle.std.proofs.Common.{◌≡◌, length, refl, subst}
use Rattle.std.specs.Prelude.{Result, Ok, Err}
use Rattle.sw_lower_plans.specs.Run.{IsGoing, Making, Meets, place_of, run_after, with_vars}
use Rattle.sw_lower_plans.specs.declared.fault.CodeFault.{CodeFault}
use Rattle.sw_lower_plans.specs.declared.fault.CodeFault.TheVariants.{Registers, Blocks, Missing, Memory}
use Rattle.sw_lower_code.specs.Code.{Code, andthen, scope}
use Rattle.sw_lower_total_facts.specs.Proceeding.{Proceeds}

-- What a run that ended made is what its plan says.
abbrev pub Ran : {A : Type 0} → Code A → Making → A → Making → Type 0
Ran code s value t = Meets s (Ok (value, t)) (code.plan (place_of s))

pub ran_of : {A : Type 0} (code : Code A) (s : Making) → IsGoing s → (value : A) (t : Making)
    → code.run s ≡ Ok (value, t) → Ran code s value t
ran_of code s going value t ran =
    subst (λ result. Meets s result (code.plan (place_of s))) ran (code.same s going)

-- Code after code proceeds where each does.
pub proceeds_then : {A B : Type 0} (first : Code A) (next : A → Code B) (s : Making) → IsGoing s
    → Proceeds s first
    → ((value : A) (t : Making) → first.run s ≡ Ok (value, t) → Ran first s value t
    → Proceeds t (next value))
    → Proceeds s (andthen first next)
unfolding andthen
proceeds_then {A} {B} first next s going one two faulty = by (first.run s) refl faulty where
  by : (result : Result (A × Making) CodeFault) → first.run s ≡ result
      → run_after result (λ value. (next value).run) ≡ Err Missing → ⊥
  by (Ok at) ran is = two at.0 at.1 ran (ran_of first s going at.0 at.1 ran) is
  by (Err Registers) ran is = cc
  by (Err Blocks) ran is = cc
  by (Err Missing) ran is = one ran
  by (Err Memory) ran is = cc

-- the same of code whose variables are seen in it alone
pub proceeds_scope : {A : Type 0} (code : Code A) (s : Making) → Proceeds s code
    → Proceeds s (scope code)
unfolding scope
proceeds_scope {A} code s one faulty = by (code.run s) refl faulty where
  by : (result : Result (A × Making) CodeFault) → code.run s ≡ result
      → with_vars (length s.vars) result ≡ Err Missing → ⊥
  by (Ok at) ran is = cc
  by (Err Registers) ran is = cc
  by (Err Blocks) ran is = cc
  by (Err Missing) ran is = one ran
  by (Err Memory) ran is = cc
