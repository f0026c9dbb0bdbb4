-- Lemmas on operations that give nothing where they would overflow.
use Rattle.std.proofs.Common.{◌≡◌, Bool, true, false, cond, Option, Some, None, refl}
use Rattle.std.proofs.Common.{ap, ◌∙◌, sym, arith}
use Rattle.std.specs.Prelude.{ℤ, pos, negsuc, FitsSigned, SomeIff, int_div}
use Rattle.std.specs.Prelude.{Ok, Err}
use Rattle.std.specs.Int.{CanDivide, IsNonZero}
use Rattle.std.proofs.lemmas.Bool.Decides.{nat_tests}
use mir.Syntax.{w64}
use Rattle.sw_value.specs.declared.state.TrapKind.TheVariants.{Overflow}
use Rattle.sw_value.specs.declared.value.Value.TheVariants.{Int}
use Rattle.sw_value.specs.Arithmetic.{fits, unless_too_large}
use Rattle.sw_step.specs.Checked.{of_checked}

fits_yes : (z : ℤ) → FitsSigned w64 z → fits z ≡ true
fits_yes (pos n) h = let s = h.sfits in grind (arith, nat_tests, s)
fits_yes (negsuc n) h = let s = h.sfits in grind (arith, nat_tests, s)

fits_no : (z : ℤ) → (FitsSigned w64 z → ⊥) → fits z ≡ false
fits_no z h = by (fits z) refl where
  says : (w : ℤ) → fits w ≡ true → FitsSigned w64 w
  says (pos n) e = record { sfits = grind (arith, nat_tests, e) }
  says (negsuc n) e = record { sfits = grind (arith, nat_tests, e) }

  by : (b : Bool) → fits z ≡ b → fits z ≡ false
  by true e = absurd (h (says z e))
  by false e = e

-- an operation whose result must fit
pub checked_fits : (o : Option ℤ) (z : ℤ) → SomeIff o (FitsSigned w64 z) z
    → of_checked o ≡ unless_too_large z z
checked_fits None z h = sym (ap (λ b. cond b (Ok (Int z)) (Err Overflow)) (fits_no z h))
checked_fits (Some n) z h =
    ap (λ n. Ok (Int n)) h.1
    ∙ sym (ap (λ b. cond b (Ok (Int z)) (Err Overflow)) (fits_yes z h.0))

-- a division by what is not zero, whose quotient must fit
pub checked_divides : (o : Option ℤ) (a b z : ℤ) → SomeIff o (CanDivide w64 a b) z
    → IsNonZero w64 b → of_checked o ≡ unless_too_large (int_div a b) z
checked_divides None a b z h some =
    sym (ap (λ t. cond t (Ok (Int z)) (Err Overflow)) (fits_no (int_div a b) (λ f. h (some, f))))
checked_divides (Some n) a b z h some =
    ap (λ n. Ok (Int n)) h.1
    ∙ sym (ap (λ t. cond t (Ok (Int z)) (Err Overflow)) (fits_yes (int_div a b) h.0.1))

pub ruleset checks = (checked_fits, checked_divides)
