-- A set that two others make up, tested by the one and then by the other.
use Rattle.std.proofs.Common.{◌≡◌, true, false, ◌||◌, ◌++◌, sym, ◌∙◌, ap}
use Rattle.std.specs.Prelude.{Option}
use Rattle.sw_token.specs.Spelling.{Spelled}
use Rattle.sw_grammar_forms.specs.Sets.{Set, starts, within}
use Rattle.sw_grammar_forms.proofs.SetLemmas.{starts-append}
use Rattle.sw_grammar_forms.proofs.KindSets.{starts-same}

module _ (set one other : Set) (token : Option Spelled) (covered : within set (one ++ other) ≡ true)
    (covers : within (one ++ other) set ≡ true) where
  joined : starts set token ≡ (starts one token || starts other token)
  joined = starts-same set (one ++ other) token covered covers ∙ starts-append one other token

  pub joined_left : starts one token ≡ true → true ≡ starts set token
  joined_left h = sym (joined ∙ ap (λ b. b || starts other token) h)

  pub joined_right : starts one token ≡ false → starts other token ≡ starts set token
  joined_right h = sym (joined ∙ ap (λ b. b || starts other token) h)
