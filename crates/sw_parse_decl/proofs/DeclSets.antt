-- What declarations and members begin with, as the code asks for it.
use Rattle.std.proofs.Common.{◌≡◌, Bool, true, false, ◌++◌, refl, sym, ◌∙◌}
use Rattle.std.proofs.Common.{◌||◌, ap}
use Rattle.std.specs.Prelude.{Option, Some, None}
use Rattle.sw_token.specs.Spelling.{Spelled}
use Rattle.sw_grammar_forms.specs.Sets.{Set, has, starts, within}
use Rattle.sw_grammar_forms.proofs.SetLemmas.{has-within, starts-append, or_left}

-- sets with the same tokens
pub starts-same : (set other : Set) (token : Option Spelled) → within set other ≡ true
    → within other set ≡ true → starts set token ≡ starts other token
starts-same set other None h k = refl
starts-same set other (Some token) h k = by (has set token) refl (has other token) refl
  where
    by : (a : Bool) → has set token ≡ a → (b : Bool) → has other token ≡ b
        → has set token ≡ has other token
    by true is b is' = is ∙ sym (has-within set other token h is)
    by false is true is' =
        absurd (let clash : true ≡ false = sym (has-within other set token k is') ∙ is in cc)
    by false is false is' = is ∙ sym is'

-- A token of one of two sets, as the code asks for one after the other.

pub of_first : (set other : Set) (token : Option Spelled) (answer : Bool)
    → answer ≡ starts set token → answer ≡ true → answer ≡ starts (set ++ other) token
of_first set other token answer same is =
    is ∙ sym (starts-append set other token ∙ or_left _ _ (sym same ∙ is))

pub of_second : (set other : Set) (token : Option Spelled) (answer next : Bool)
    → answer ≡ starts set token → answer ≡ false → next ≡ starts other token
    → next ≡ starts (set ++ other) token
of_second set other token answer next same is is' =
    is' ∙ sym (starts-append set other token
    ∙ ap (λ b. b || starts other token) (sym same ∙ is))
