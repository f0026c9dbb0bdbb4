-- What `clap` makes of the words after a command's, beside the command that they are.
use Rattle.std.proofs.Common.{◌≡◌, ℕ, ◌==◌, Bool, true, false, ◌&&◌, List, [], ◌∷◌}
use Rattle.std.proofs.Common.{filter, not, Option, None, option_map, refl, if◌then◌else◌}
use Rattle.clap.specs.Walk.{Row, Text, is_empty, nothing_held, rows_after}
use Rattle.clap.specs.Simple.{App, Shape, built_leaf}
use Rattle.clap.specs.Faults.{level_fault}
use Rattle.clap.specs.Kinds.{Kinds}
use Rattle.sw_check_words.specs.Words.{Action, Command, OnFile, are_options, certificate}
use Rattle.sw_check_words.specs.Words.{default_by, file_form, is_among, is_name}
use Rattle.sw_check_words.specs.Words.{nonsending_default}

-- a word that may stand: a name, or one of the options
pub data IsWord : List ℕ → Type 0 where
  name : (first : ℕ) (rest : List ℕ) → (first == 45) ≡ false → IsWord (first ∷ rest)
  default_option : IsWord nonsending_default
  certificate_option : IsWord certificate

-- What is read where nothing is wrong is the command, and something is wrong only where there is
-- none.
pub data Agrees (command : Option Command) (kinds : Kinds) (read : Option Command) : Type 0 where
  taken : kinds ≡ [] → read ≡ command → Agrees command kinds read
  refused : is_empty kinds ≡ false → command ≡ None → Agrees command kinds read

-- a command of the tool, as it is built
abbrev pub leaf : App → Shape
leaf app = built_leaf (record app.top {
  disable_help_flag = true;
  disable_help_subcommand = true;
  no_binary_name = true;
})

-- what is wrong with the words after it, and what is found in them
abbrev pub leaf_fault : Shape → List Text → Kinds
leaf_fault command words = level_fault command [] nothing_held words false []

abbrev pub leaf_rows : Shape → List Text → List Row
leaf_rows command words = rows_after command.rules [] words

abbrev pub names_in : List (List ℕ) → List (List ℕ)
names_in words = filter is_name words

abbrev pub others_in : List (List ℕ) → List (List ℕ)
others_in words = filter (λ word. not (is_name word)) words

-- names that have no form have none with any options
pub no_form : (options others : List (List ℕ)) → file_form options None others ≡ None
no_form options others = by (are_options options others) where
  by : (are : Bool)
      → ◌≡◌ {A = Option Command} (if are then option_map (λ (found : List ℕ × Action).
      OnFile (default_by others) found.0 found.1) None else None) None
  by true = refl
  by false = refl

and_false : (b c : Bool) → c ≡ false → (b && c) ≡ false
and_false true c e = e
and_false false c e = refl

-- words that are no options are none behind another word
pub wrong_behind : (options : List (List ℕ)) (word : List ℕ) (words : List (List ℕ))
    → are_options options words ≡ false → are_options options (word ∷ words) ≡ false
wrong_behind options word words wrong =
    and_false (is_among options word) _ (and_false (not (is_among words word)) _ wrong)

-- beside them there is no form
pub no_options : (options : List (List ℕ)) (form : Option (List ℕ × Action))
    (others : List (List ℕ)) → are_options options others ≡ false
    → file_form options form others ≡ None
no_options options form others wrong = rw wrong refl
