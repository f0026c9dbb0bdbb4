-- The command of words in which `clap` finds nothing wrong, and of those that it refuses.
use Rattle.std.proofs.Common.{◌≡◌, ◌≢◌, true, false, arith, ne_eqb, List, [], ◌∷◌, Option, Some, None, option_map}
use Rattle.std.proofs.Common.{refl, if◌then◌else◌}
use Rattle.clap.specs.Faults.{fault_of, is_simple_and_free}
use Rattle.clap.specs.Kinds.{Kinds}
use Rattle.clap.specs.Simple.{is_simple, subcommand_of}
use Rattle.clap.specs.Walk.{Row, Text, is_empty}
use Rattle.sw_see_words.specs.Tool.{tool}
use Rattle.sw_see_words.specs.Words.{command_of, read_rows}

-- `tool` is a command of which `clap` says exactly what it does
pub is_simple_tool : is_simple tool ≡ true
is_simple_tool = refl

pub is_free_tool : is_simple_and_free tool ≡ true
is_free_tool = refl

-- words that are refused have no form
pub refused_none : (words : List Text) → fault_of tool words ≢ [] → command_of words ≡ None
unfolding command_of
refused_none words wrong = by (fault_of tool words) wrong where
  by : (kinds : Kinds) → kinds ≢ []
      → (if is_empty kinds then read_rows (subcommand_of tool words) else None) ≡ None
  by [] wrong = absurd (wrong refl)
  by (kind ∷ kinds) wrong = rw is_full refl where
    is_full : is_empty (kind ∷ kinds) ≡ false
    is_full = ne_eqb _ _ (λ e. omega arith)

-- what is read of other words is their command
pub read_command : (words : List Text) → fault_of tool words ≡ []
    → read_rows (subcommand_of tool words) ≡ command_of words
unfolding command_of
read_command words right = rw right refl

-- no subcommand was found
pub no_rows : (met : Option (Text × List Row)) → None ≡ option_map (λ p. p.1) met
    → read_rows met ≡ None
no_rows None none = refl
no_rows (Some found) none = cc
