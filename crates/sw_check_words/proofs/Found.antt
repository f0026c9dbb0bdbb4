-- The command of words in which `clap` finds nothing wrong, and of those that it refuses.
use Rattle.std.proofs.Common.{◌≡◌, ◌≢◌, true, List, [], Option, Some, None, option_map, refl, sym}
use Rattle.std.proofs.Common.{ap₂, ◌∙◌, Box}
use Rattle.std.specs.Box.{box_value}
use Rattle.std.specs.List.{list_all}
use Rattle.clap.specs.Faults.{fault_of}
use Rattle.clap.specs.Kinds.{Kinds}
use Rattle.clap.specs.Matches.{subcommand_name_of}
use Rattle.clap.specs.Simple.{subcommand_of, subcommand_rows, subcommand_rows_of}
use Rattle.clap.specs.Walk.{Row, Text}
use Rattle.clap.specs.declared.parser.matches.ArgMatches.{ArgMatches}
use Rattle.clap.specs.declared.parser.matches.ArgMatches.TheViews.{out-ArgMatches, out-SubCommand}
use Rattle.clap.specs.declared.parser.matches.SubCommand.{SubCommand}
use Rattle.sw_check_words.specs.Read.{read_rows}
use Rattle.sw_check_words.specs.Tool.{tool}
use Rattle.sw_check_words.specs.Words.{Command, command_of, may_stand}
use Rattle.sw_check_words.proofs.Agreement.{agreed}
use Rattle.sw_check_words.proofs.Leaves.{Agrees, taken, refused}
use Rattle.sw_check_words.proofs.Standing.{stand}

refuses : (command : Option Command) (kinds : Kinds) (read : Option Command)
    → Agrees command kinds read → kinds ≢ [] → command ≡ None
refuses command kinds read (taken none _) some = absurd (some none)
refuses command kinds read (refused _ is) some = is

takes : (command : Option Command) (kinds : Kinds) (read : Option Command)
    → Agrees command kinds read → kinds ≡ [] → read ≡ command
takes command kinds read (taken _ is) none = is
takes command kinds read (refused some _) none = cc (some, none)

-- words that are refused have no form
pub refused_none : (words : List Text) → list_all may_stand words ≡ true
    → fault_of tool words ≢ [] → command_of words ≡ None
refused_none words may wrong = refuses _ _ _ (agreed words (stand words may)) wrong

-- what is read of other words is their command
pub read_command : (words : List Text) → list_all may_stand words ≡ true
    → fault_of tool words ≡ [] → read_rows (subcommand_of tool words) ≡ command_of words
read_command words may right = takes _ _ _ (agreed words (stand words may)) right

-- no subcommand was found
pub no_rows : (met : Option (Text × List Row)) → None ≡ option_map (λ p. p.1) met
    → read_rows met ≡ None
no_rows None none = refl
no_rows (Some found) none = cc

names_met : {Z : Type 0} (found : Option (Box SubCommand Z))
    → option_map (λ b. (out-SubCommand (box_value b)).name.now) found
    ≡ option_map (λ p. p.0) (subcommand_rows found)
names_met None = refl
names_met (Some found) = refl

both : (met : Option (Text × List Row)) (name : Text) (rows : List Row)
    → Some name ≡ option_map (λ p. p.0) met → Some rows ≡ option_map (λ p. p.1) met
    → met ≡ Some (name, rows)
both None name rows is_name is_rows = cc
both (Some (other, others)) name rows is_name is_rows =
    let same : name ≡ other = cc (is_name) in
    let all : rows ≡ others = cc (is_rows) in
    ap₂ (λ (name : Text) (rows : List Row). Some (name, rows)) (sym same) (sym all)

-- a subcommand was found, with these rows
pub rows_met : (matches : ArgMatches) (name : Text) (rows : List Row)
    → Some name ≡ subcommand_name_of matches
    → Some rows ≡ option_map (λ p. p.1) (subcommand_rows_of matches)
    → subcommand_rows_of matches ≡ Some (name, rows)
rows_met matches name rows is_name is_rows =
    both (subcommand_rows_of matches) name rows
    (is_name ∙ names_met (out-ArgMatches matches).subcommand) is_rows
