-- What an instruction does that has what it needs.
use Rattle.std.proofs.Common.{◌≡◌, Option, Some, None, refl}
use Rattle.std.specs.Prelude.{option_and_then}
use Rattle.sw_value.specs.declared.effect.Effect.{Effect}
use Rattle.sw_value.specs.declared.effect.Effect.TheVariants as effect
use Rattle.sw_value.specs.Effect.{needs}

pub of_needs : {A : Type 0} (P : Effect → Type 0) → (P effect.Stuck → ⊥) → (o : Option A)
    (f : A → Effect) → P (needs o f) → (x : A) × (o ≡ Some x) × P (f x)
of_needs P apart None f p = absurd (apart p)
of_needs P apart (Some x) f p = (x, refl, p)

-- what holds of an instruction that is stuck, and of what it does otherwise
pub in_needs : {A : Type 0} (P : Effect → Type 0) → P effect.Stuck → (f : A → Effect)
    → ((x : A) → P (f x)) → (o : Option A) → P (needs o f)
in_needs P stuck f each None = stuck
in_needs P stuck f each (Some x) = each x

pub of_and_then : {A B : Type 0} (f : A → Option B) (o : Option A) (y : B)
    → option_and_then f o ≡ Some y → (x : A) × (o ≡ Some x) × (f x ≡ Some y)
of_and_then f None y is = cc
of_and_then f (Some x) y is = (x, refl, is)
