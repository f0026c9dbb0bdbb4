-- `run FILE SCHEDULE`, and likewise the other commands that read a second file: what `clap` makes
-- of the words after the first.
use Rattle.std.proofs.Common.{◌≡◌, ◌∙◌, ℕ, List, [], ◌∷◌, Option}
use Rattle.std.proofs.Common.{None, Some, refl, sym, codes}
use Rattle.std.specs.List.{AllByRecursion}
use Rattle.clap.specs.Walk.{Row, Text, first_of}
use Rattle.clap.proofs.OnLiterals.{clap_on_literals}
use Rattle.sw_decls.specs.declared.signature.AsyncDefault.{AsyncDefault}
use Rattle.sw_decls.specs.declared.signature.AsyncDefault.TheVariants.{Concurrent, Caller}
use Rattle.sw_check_words.specs.Tool.{pair_app}
use Rattle.sw_check_words.specs.Words.{Action, OnFile, certificate, file_form, file_options}
use Rattle.sw_check_words.specs.Words.{nonsending_default, pair_form}
use Rattle.sw_check_words.specs.Read.{default_in, on_files}
use Rattle.sw_check_words.proofs.Leaves.{IsWord, name, default_option, certificate_option}
use Rattle.sw_check_words.proofs.Leaves.{Agrees, taken, refused, leaf, leaf_fault, leaf_rows}
use Rattle.sw_check_words.proofs.Leaves.{names_in, others_in, no_form, no_options}
use Rattle.sw_check_words.proofs.Leaves.{wrong_behind}

-- the option of `check` stands behind the other one
stray : (form : Option (List ℕ × Action)) (others : List (List ℕ))
    → file_form file_options form (nonsending_default ∷ certificate ∷ others) ≡ None
stray form others =
    no_options file_options form (nonsending_default ∷ certificate ∷ others)
    (wrong_behind file_options nonsending_default (certificate ∷ others) refl)

module _ (verb : List ℕ) (action : List ℕ → Action) where
  -- the command, by what is found
  found_by : (rows : List Row) (rule : AsyncDefault) (file second_file : List ℕ)
      → default_in rows ≡ rule → first_of (codes "file") rows ≡ Some file
      → first_of (codes "second") rows ≡ Some second_file
      → on_files action rows ≡ Some (OnFile rule file (action second_file))
  found_by rows rule file second_file is_rule is_file is_second =
      rw (is_second, is_file, is_rule) refl

  abbrev pub PairAgrees : List Text → Type 0
  PairAgrees words =
      Agrees (file_form file_options (pair_form action (names_in words)) (others_in words))
      (leaf_fault (leaf (pair_app verb)) words)
      (on_files action (leaf_rows (leaf (pair_app verb)) words))

  pub pair_agrees : (words : List Text) → AllByRecursion IsWord words → PairAgrees words
  unfolding clap_on_literals
  -- too few files
  pair_agrees [] _ = refused refl refl
  pair_agrees (_ ∷ []) (name f r e, _) = refused (simp e refl) (simp e refl)
  pair_agrees (_ ∷ []) (default_option, _) = refused refl refl
  pair_agrees (_ ∷ _ ∷ []) (name f r e, (default_option, _)) = refused (simp e refl) (simp e refl)
  pair_agrees (_ ∷ _ ∷ []) (default_option, (name f r e, _)) = refused (simp e refl) (simp e refl)
  -- two
  pair_agrees (_ ∷ _ ∷ []) (name f r e, (name g s d, _)) =
      taken (simp (e, d) refl)
      (found_by (leaf_rows (leaf (pair_app verb))
      ((f ∷ r) ∷ (g ∷ s) ∷ [])) Concurrent (f ∷ r) (g ∷ s)
      (simp (e, d) refl) (simp (e, d) refl) (simp (e, d) refl) ∙ sym (simp (e, d) refl))
  pair_agrees (_ ∷ _ ∷ _ ∷ []) (name f r e, (name g s d, (default_option, _))) =
      taken (simp (e, d) refl)
      (found_by (leaf_rows (leaf (pair_app verb))
      ((f ∷ r) ∷ (g ∷ s) ∷ nonsending_default ∷ [])) Caller (f ∷ r) (g ∷ s)
      (simp (e, d) refl) (simp (e, d) refl) (simp (e, d) refl) ∙ sym (simp (e, d) refl))
  pair_agrees (_ ∷ _ ∷ _ ∷ []) (name f r e, (default_option, (name g s d, _))) =
      taken (simp (e, d) refl)
      (found_by (leaf_rows (leaf (pair_app verb))
      ((f ∷ r) ∷ nonsending_default ∷ (g ∷ s) ∷ [])) Caller (f ∷ r) (g ∷ s)
      (simp (e, d) refl) (simp (e, d) refl) (simp (e, d) refl) ∙ sym (simp (e, d) refl))
  pair_agrees (_ ∷ _ ∷ _ ∷ []) (default_option, (name f r e, (name g s d, _))) =
      taken (simp (e, d) refl)
      (found_by (leaf_rows (leaf (pair_app verb))
      (nonsending_default ∷ (f ∷ r) ∷ (g ∷ s) ∷ [])) Caller (f ∷ r) (g ∷ s)
      (simp (e, d) refl) (simp (e, d) refl) (simp (e, d) refl) ∙ sym (simp (e, d) refl))
  -- too many
  pair_agrees (_ ∷ _ ∷ _ ∷ words) (name f r e, (name g s d, (name h t b, are))) =
      refused (simp (e, d, b) refl) (simp (e, d, b) (no_form file_options (others_in words)))
  pair_agrees (_ ∷ _ ∷ _ ∷ _ ∷ words)
      (name f r e, (name g s d, (default_option, (name h t b, are)))) =
      refused (simp (e, d, b) refl)
      (simp (e, d, b) (no_form file_options (nonsending_default ∷ others_in words)))
  pair_agrees (_ ∷ _ ∷ _ ∷ _ ∷ words)
      (name f r e, (default_option, (name g s d, (name h t b, are)))) =
      refused (simp (e, d, b) refl)
      (simp (e, d, b) (no_form file_options (nonsending_default ∷ others_in words)))
  pair_agrees (_ ∷ _ ∷ _ ∷ _ ∷ words)
      (default_option, (name f r e, (name g s d, (name h t b, are)))) =
      refused (simp (e, d, b) refl)
      (simp (e, d, b) (no_form file_options (nonsending_default ∷ others_in words)))
  -- the option twice
  pair_agrees (_ ∷ _ ∷ words) (default_option, (default_option, are)) = refused refl refl
  pair_agrees (_ ∷ _ ∷ _ ∷ words) (name f r e, (default_option, (default_option, are))) =
      refused (simp e refl) (simp e refl)
  pair_agrees (_ ∷ _ ∷ _ ∷ words) (default_option, (name f r e, (default_option, are))) =
      refused (simp e refl) (simp e refl)
  pair_agrees (_ ∷ _ ∷ _ ∷ _ ∷ words)
      (name f r e, (name g s d, (default_option, (default_option, are)))) =
      refused (simp (e, d) refl) (simp (e, d) refl)
  pair_agrees (_ ∷ _ ∷ _ ∷ _ ∷ words)
      (name f r e, (default_option, (name g s d, (default_option, are)))) =
      refused (simp (e, d) refl) (simp (e, d) refl)
  pair_agrees (_ ∷ _ ∷ _ ∷ _ ∷ words)
      (default_option, (name f r e, (name g s d, (default_option, are)))) =
      refused (simp (e, d) refl) (simp (e, d) refl)
  -- the option of `check`
  pair_agrees (_ ∷ words) (certificate_option, are) = refused refl refl
  pair_agrees (_ ∷ _ ∷ words) (name f r e, (certificate_option, are)) =
      refused (simp e refl) (simp e refl)
  pair_agrees (_ ∷ _ ∷ words) (default_option, (certificate_option, are)) = refused refl
      (stray (pair_form action (names_in words)) (others_in words))
  pair_agrees (_ ∷ _ ∷ _ ∷ words) (name f r e, (name g s d, (certificate_option, are))) =
      refused (simp (e, d) refl) (simp (e, d) refl)
  pair_agrees (_ ∷ _ ∷ _ ∷ words) (name f r e, (default_option, (certificate_option, are))) =
      refused (simp e refl)
      (simp e (stray (pair_form action ((f ∷ r) ∷ names_in words)) (others_in words)))
  pair_agrees (_ ∷ _ ∷ _ ∷ words) (default_option, (name f r e, (certificate_option, are))) =
      refused (simp e refl)
      (simp e (stray (pair_form action ((f ∷ r) ∷ names_in words)) (others_in words)))
  pair_agrees (_ ∷ _ ∷ _ ∷ _ ∷ words)
      (name f r e, (name g s d, (default_option, (certificate_option, are)))) =
      refused (simp (e, d) refl)
      (simp (e, d) (stray (pair_form action ((f ∷ r) ∷ (g ∷ s) ∷ names_in words))
      (others_in words)))
  pair_agrees (_ ∷ _ ∷ _ ∷ _ ∷ words)
      (name f r e, (default_option, (name g s d, (certificate_option, are)))) =
      refused (simp (e, d) refl)
      (simp (e, d) (stray (pair_form action ((f ∷ r) ∷ (g ∷ s) ∷ names_in words))
      (others_in words)))
  pair_agrees (_ ∷ _ ∷ _ ∷ _ ∷ words)
      (default_option, (name f r e, (name g s d, (certificate_option, are)))) =
      refused (simp (e, d) refl)
      (simp (e, d) (stray (pair_form action ((f ∷ r) ∷ (g ∷ s) ∷ names_in words))
      (others_in words)))
