-- The command, as it is read of what `clap` found.
use Rattle.std.specs.Prelude.{◌≡◌, ◌≢◌, Bool, false, List, [], Option, Some, None, option_map}
use Rattle.std.specs.Prelude.{codes, if◌then◌else◌, option_and_then}
use Rattle.std.specs.Str.{bytes_eq}
use Rattle.clap.specs.Walk.{Row, Text, first_of}
use Rattle.clap.specs.Words.{fault_of, subcommand_of, subcommand_rows_of}
use Rattle.clap.specs.declared.parser.matches.ArgMatches.{ArgMatches}
use Rattle.sw_check_words.specs.Tool.{tool}
use Rattle.sw_decls.specs.declared.signature.AsyncDefault.{AsyncDefault}
use Rattle.sw_decls.specs.declared.signature.AsyncDefault.TheVariants.{Concurrent, Caller}
use Rattle.sw_check_words.specs.Words.{Action, Check, Certify, Verify, Run, Trace, Owners, Order}
use Rattle.sw_check_words.specs.Words.{Command, OnFile, Demo, actors_of}

-- the text of a flag says that it was set
abbrev pub says_set : Option Text → Bool
says_set None = false
says_set (Some text) = bytes_eq text (codes "true")

abbrev pub is_set : Text → List Row → Bool
is_set id rows = says_set (first_of id rows)

abbrev pub default_in : List Row → AsyncDefault
default_in rows = if is_set (codes "default") rows then Caller else Concurrent

-- a command on a file
abbrev pub on_file : List Row → Action → Option Command
on_file rows action =
    option_map (λ file. OnFile (default_in rows) file action) (first_of (codes "file") rows)

-- `check FILE`, with or without a certificate
abbrev pub check_by : List Row → Option Command
check_by rows = on_file rows (if is_set (codes "certificate") rows then Certify else Check)

-- a command on a file that reads a second one
abbrev pub on_files : (Text → Action) → List Row → Option Command
on_files action rows = option_and_then (λ second_file. on_file rows (action second_file))
    (first_of (codes "second") rows)

abbrev pub demo_by : List Row → Option Command
demo_by rows =
    option_and_then (λ text. option_map Demo (actors_of text)) (first_of (codes "actors") rows)

abbrev pub command_by : Text → List Row → Option Command
command_by name rows =
    if bytes_eq name (codes "check") then check_by rows
    else if bytes_eq name (codes "verify") then on_files Verify rows
    else if bytes_eq name (codes "run") then on_files Run rows
    else if bytes_eq name (codes "trace") then on_files Trace rows
    else if bytes_eq name (codes "owners") then on_files Owners rows
    else if bytes_eq name (codes "order") then on_files Order rows
    else if bytes_eq name (codes "demo") then demo_by rows
    else None

abbrev pub read_rows : Option (Text × List Row) → Option Command
read_rows met = option_and_then (λ found. command_by found.0 found.1) met

-- `clap` found this in the words, where nothing is wrong with them, or refused them, where
-- something is.
abbrev pub Parses : List Text → Option ArgMatches → Type 0
Parses words (Some matches) = (fault_of tool words ≡ [])
    × (subcommand_rows_of matches ≡ subcommand_of tool words)
Parses words None = fault_of tool words ≢ []
