-- `demo N`: what `clap` makes of the words after the first.
use Rattle.std.proofs.Common.{◌≡◌, ℕ, List, [], ◌∷◌, None, refl}
use Rattle.std.specs.List.{AllByRecursion}
use Rattle.clap.specs.Walk.{Text}
use Rattle.clap.proofs.OnLiterals.{clap_on_literals}
use Rattle.sw_check_words.specs.Tool.{demo_app}
use Rattle.sw_check_words.specs.Words.{certificate, demo_form, nonsending_default}
use Rattle.sw_check_words.specs.Read.{demo_by}
use Rattle.sw_check_words.proofs.Leaves.{IsWord, name, default_option, certificate_option}
use Rattle.sw_check_words.proofs.Leaves.{Agrees, taken, refused, leaf, leaf_fault, leaf_rows}
use Rattle.sw_check_words.proofs.Leaves.{names_in, others_in}

-- no other word stands beside the number
lone : (names : List (List ℕ)) (other : List ℕ) (others : List (List ℕ))
    → demo_form names (other ∷ others) ≡ None
lone [] other others = refl
lone (number ∷ []) other others = refl
lone (number ∷ second ∷ names) other others = refl

abbrev pub DemoAgrees : List Text → Type 0
DemoAgrees words = Agrees (demo_form (names_in words) (others_in words))
    (leaf_fault (leaf demo_app) words) (demo_by (leaf_rows (leaf demo_app) words))

pub demo_agrees : (words : List Text) → AllByRecursion IsWord words → DemoAgrees words
unfolding clap_on_literals
demo_agrees [] _ = refused refl refl
demo_agrees (_ ∷ []) (name f r e, _) = taken (simp e refl) (simp e refl)
demo_agrees (_ ∷ _ ∷ words) (name f r e, (name g s d, are)) =
    refused (simp (e, d) refl) (simp (e, d) refl)
demo_agrees (_ ∷ _ ∷ words) (name f r e, (default_option, are)) =
    refused (simp e refl)
    (simp e (lone ((f ∷ r) ∷ names_in words) nonsending_default (others_in words)))
demo_agrees (_ ∷ _ ∷ words) (name f r e, (certificate_option, are)) =
    refused (simp e refl) (simp e (lone ((f ∷ r) ∷ names_in words) certificate (others_in words)))
demo_agrees (_ ∷ words) (default_option, are) =
    refused refl (lone (names_in words) nonsending_default (others_in words))
demo_agrees (_ ∷ words) (certificate_option, are) =
    refused refl (lone (names_in words) certificate (others_in words))
