-- `check FILE`, where `--certificate` may stand: what `clap` makes of the words after the first.
use Rattle.std.proofs.Common.{◌≡◌, ℕ, false, List, [], ◌∷◌, None, refl}
use Rattle.std.specs.List.{AllByRecursion}
use Rattle.clap.specs.Walk.{Text}
use Rattle.clap.proofs.OnLiterals.{clap_on_literals}
use Rattle.sw_check_words.specs.Tool.{check_app}
use Rattle.sw_check_words.specs.Words.{are_options, certificate, check_form, check_options}
use Rattle.sw_check_words.specs.Words.{file_form, nonsending_default}
use Rattle.sw_check_words.specs.Read.{check_by}
use Rattle.sw_check_words.proofs.Leaves.{IsWord, name, default_option, certificate_option}
use Rattle.sw_check_words.proofs.Leaves.{Agrees, taken, refused, leaf, leaf_fault, leaf_rows}
use Rattle.sw_check_words.proofs.Leaves.{names_in, others_in, no_form, no_options}
use Rattle.sw_check_words.proofs.Leaves.{wrong_behind}

-- an option stands twice behind the other one
twice_behind : (first second : List ℕ) (names others : List (List ℕ))
    → are_options check_options (second ∷ second ∷ others) ≡ false
    → file_form check_options (check_form (first ∷ second ∷ second ∷ others) names)
    (first ∷ second ∷ second ∷ others) ≡ None
twice_behind first second names others twice =
    no_options check_options (check_form (first ∷ second ∷ second ∷ others) names)
    (first ∷ second ∷ second ∷ others)
    (wrong_behind check_options first (second ∷ second ∷ others) twice)

abbrev pub CheckAgrees : List Text → Type 0
CheckAgrees words =
    Agrees (file_form check_options (check_form (others_in words) (names_in words))
    (others_in words)) (leaf_fault (leaf check_app) words)
    (check_by (leaf_rows (leaf check_app) words))

pub check_agrees : (words : List Text) → AllByRecursion IsWord words → CheckAgrees words
unfolding clap_on_literals
-- no file
check_agrees [] _ = refused refl refl
check_agrees (_ ∷ []) (default_option, _) = refused refl refl
check_agrees (_ ∷ []) (certificate_option, _) = refused refl refl
check_agrees (_ ∷ _ ∷ []) (default_option, (certificate_option, _)) = refused refl refl
check_agrees (_ ∷ _ ∷ []) (certificate_option, (default_option, _)) = refused refl refl
-- one
check_agrees (_ ∷ []) (name f r e, _) = taken (simp e refl) (simp e refl)
check_agrees (_ ∷ _ ∷ []) (name f r e, (default_option, _)) = taken (simp e refl) (simp e refl)
check_agrees (_ ∷ _ ∷ []) (name f r e, (certificate_option, _)) = taken (simp e refl) (simp e refl)
check_agrees (_ ∷ _ ∷ []) (default_option, (name f r e, _)) = taken (simp e refl) (simp e refl)
check_agrees (_ ∷ _ ∷ []) (certificate_option, (name f r e, _)) = taken (simp e refl) (simp e refl)
check_agrees (_ ∷ _ ∷ _ ∷ []) (name f r e, (default_option, (certificate_option, _))) =
    taken (simp e refl) (simp e refl)
check_agrees (_ ∷ _ ∷ _ ∷ []) (name f r e, (certificate_option, (default_option, _))) =
    taken (simp e refl) (simp e refl)
check_agrees (_ ∷ _ ∷ _ ∷ []) (default_option, (name f r e, (certificate_option, _))) =
    taken (simp e refl) (simp e refl)
check_agrees (_ ∷ _ ∷ _ ∷ []) (default_option, (certificate_option, (name f r e, _))) =
    taken (simp e refl) (simp e refl)
check_agrees (_ ∷ _ ∷ _ ∷ []) (certificate_option, (name f r e, (default_option, _))) =
    taken (simp e refl) (simp e refl)
check_agrees (_ ∷ _ ∷ _ ∷ []) (certificate_option, (default_option, (name f r e, _))) =
    taken (simp e refl) (simp e refl)
-- a file too many
check_agrees (_ ∷ _ ∷ words) (name f r e, (name g s d, are)) =
    refused (simp (e, d) refl) (simp (e, d) (no_form check_options (others_in words)))
check_agrees (_ ∷ _ ∷ _ ∷ words) (name f r e, (default_option, (name g s d, are))) =
    refused (simp (e, d) refl)
    (simp (e, d) (no_form check_options (nonsending_default ∷ others_in words)))
check_agrees (_ ∷ _ ∷ _ ∷ words) (name f r e, (certificate_option, (name g s d, are))) =
    refused (simp (e, d) refl) (simp (e, d) (no_form check_options (certificate ∷ others_in words)))
check_agrees (_ ∷ _ ∷ _ ∷ words) (default_option, (name f r e, (name g s d, are))) =
    refused (simp (e, d) refl)
    (simp (e, d) (no_form check_options (nonsending_default ∷ others_in words)))
check_agrees (_ ∷ _ ∷ _ ∷ words) (certificate_option, (name f r e, (name g s d, are))) =
    refused (simp (e, d) refl) (simp (e, d) (no_form check_options (certificate ∷ others_in words)))
check_agrees (_ ∷ _ ∷ _ ∷ _ ∷ words)
    (name f r e, (default_option, (certificate_option, (name g s d, are)))) =
    refused (simp (e, d) refl)
    (simp (e, d) (no_form check_options (nonsending_default ∷ certificate ∷ others_in words)))
check_agrees (_ ∷ _ ∷ _ ∷ _ ∷ words)
    (name f r e, (certificate_option, (default_option, (name g s d, are)))) =
    refused (simp (e, d) refl)
    (simp (e, d) (no_form check_options (certificate ∷ nonsending_default ∷ others_in words)))
check_agrees (_ ∷ _ ∷ _ ∷ _ ∷ words)
    (default_option, (name f r e, (certificate_option, (name g s d, are)))) =
    refused (simp (e, d) refl)
    (simp (e, d) (no_form check_options (nonsending_default ∷ certificate ∷ others_in words)))
check_agrees (_ ∷ _ ∷ _ ∷ _ ∷ words)
    (default_option, (certificate_option, (name f r e, (name g s d, are)))) =
    refused (simp (e, d) refl)
    (simp (e, d) (no_form check_options (nonsending_default ∷ certificate ∷ others_in words)))
check_agrees (_ ∷ _ ∷ _ ∷ _ ∷ words)
    (certificate_option, (name f r e, (default_option, (name g s d, are)))) =
    refused (simp (e, d) refl)
    (simp (e, d) (no_form check_options (certificate ∷ nonsending_default ∷ others_in words)))
check_agrees (_ ∷ _ ∷ _ ∷ _ ∷ words)
    (certificate_option, (default_option, (name f r e, (name g s d, are)))) =
    refused (simp (e, d) refl)
    (simp (e, d) (no_form check_options (certificate ∷ nonsending_default ∷ others_in words)))
-- an option twice
check_agrees (_ ∷ _ ∷ words) (default_option, (default_option, are)) = refused refl refl
check_agrees (_ ∷ _ ∷ words) (certificate_option, (certificate_option, are)) = refused refl refl
check_agrees (_ ∷ _ ∷ _ ∷ words) (name f r e, (default_option, (default_option, are))) =
    refused (simp e refl) (simp e refl)
check_agrees (_ ∷ _ ∷ _ ∷ words) (name f r e, (certificate_option, (certificate_option, are))) =
    refused (simp e refl) (simp e refl)
check_agrees (_ ∷ _ ∷ _ ∷ words) (default_option, (name f r e, (default_option, are))) =
    refused (simp e refl) (simp e refl)
check_agrees (_ ∷ _ ∷ _ ∷ words) (default_option, (certificate_option, (default_option, are))) =
    refused refl refl
check_agrees (_ ∷ _ ∷ _ ∷ words) (certificate_option, (name f r e, (certificate_option, are))) =
    refused (simp e refl) (simp e refl)
check_agrees (_ ∷ _ ∷ _ ∷ words) (certificate_option, (default_option, (certificate_option, are))) =
    refused refl refl
check_agrees (_ ∷ _ ∷ _ ∷ _ ∷ words)
    (name f r e, (default_option, (certificate_option, (default_option, are)))) =
    refused (simp e refl) (simp e refl)
check_agrees (_ ∷ _ ∷ _ ∷ _ ∷ words)
    (name f r e, (certificate_option, (default_option, (certificate_option, are)))) =
    refused (simp e refl) (simp e refl)
check_agrees (_ ∷ _ ∷ _ ∷ _ ∷ words)
    (default_option, (name f r e, (certificate_option, (default_option, are)))) =
    refused (simp e refl) (simp e refl)
check_agrees (_ ∷ _ ∷ _ ∷ _ ∷ words)
    (default_option, (certificate_option, (name f r e, (default_option, are)))) =
    refused (simp e refl) (simp e refl)
check_agrees (_ ∷ _ ∷ _ ∷ _ ∷ words)
    (certificate_option, (name f r e, (default_option, (certificate_option, are)))) =
    refused (simp e refl) (simp e refl)
check_agrees (_ ∷ _ ∷ _ ∷ _ ∷ words)
    (certificate_option, (default_option, (name f r e, (certificate_option, are)))) =
    refused (simp e refl) (simp e refl)
-- twice behind the other one
check_agrees (_ ∷ _ ∷ _ ∷ words) (default_option, (certificate_option, (certificate_option, are))) =
    refused refl
    (twice_behind nonsending_default certificate (names_in words) (others_in words) refl)
check_agrees (_ ∷ _ ∷ _ ∷ words) (certificate_option, (default_option, (default_option, are))) =
    refused refl
    (twice_behind certificate nonsending_default (names_in words) (others_in words) refl)
check_agrees (_ ∷ _ ∷ _ ∷ _ ∷ words)
    (name f r e, (default_option, (certificate_option, (certificate_option, are)))) =
    refused (simp e refl)
    (simp e (twice_behind nonsending_default certificate ((f ∷ r) ∷ names_in words)
    (others_in words) refl))
check_agrees (_ ∷ _ ∷ _ ∷ _ ∷ words)
    (name f r e, (certificate_option, (default_option, (default_option, are)))) =
    refused (simp e refl)
    (simp e (twice_behind certificate nonsending_default ((f ∷ r) ∷ names_in words)
    (others_in words) refl))
check_agrees (_ ∷ _ ∷ _ ∷ _ ∷ words)
    (default_option, (name f r e, (certificate_option, (certificate_option, are)))) =
    refused (simp e refl)
    (simp e (twice_behind nonsending_default certificate ((f ∷ r) ∷ names_in words)
    (others_in words) refl))
check_agrees (_ ∷ _ ∷ _ ∷ _ ∷ words)
    (default_option, (certificate_option, (name f r e, (certificate_option, are)))) =
    refused (simp e refl)
    (simp e (twice_behind nonsending_default certificate ((f ∷ r) ∷ names_in words)
    (others_in words) refl))
check_agrees (_ ∷ _ ∷ _ ∷ _ ∷ words)
    (certificate_option, (name f r e, (default_option, (default_option, are)))) =
    refused (simp e refl)
    (simp e (twice_behind certificate nonsending_default ((f ∷ r) ∷ names_in words)
    (others_in words) refl))
check_agrees (_ ∷ _ ∷ _ ∷ _ ∷ words)
    (certificate_option, (default_option, (name f r e, (default_option, are)))) =
    refused (simp e refl)
    (simp e (twice_behind certificate nonsending_default ((f ∷ r) ∷ names_in words)
    (others_in words) refl))
