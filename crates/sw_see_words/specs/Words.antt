-- The words of the command line, after the program's name.
use Rattle.std.specs.Prelude.{◌≡◌, ◌≢◌, ℕ, Bool, List, [], Option, Some, None, map, option_map}
use Rattle.std.specs.Prelude.{option_and_then, codes, String, string_bytes, if◌then◌else◌}
use Rattle.std.specs.declared.alloc.Global.{Global}
use Rattle.std.specs.Str.{bytes_eq}
use Rattle.clap.specs.Walk.{Row, Text, first_of, is_empty}
use Rattle.clap.specs.Words.{fault_of, subcommand_of, subcommand_rows_of}
use Rattle.clap.specs.declared.parser.matches.ArgMatches.{ArgMatches}
use Rattle.sw_check_words.specs.Read.{default_in, is_set}
use Rattle.sw_decls.specs.declared.signature.AsyncDefault.{AsyncDefault}
use Rattle.sw_see_words.specs.Tool.{tool}

-- What is done with the program in a file.
pub data Action : Type 0 where
  -- show its breaches, in colours or without
  Breaches : (color : Bool) → Action
  -- replay it by the schedule in the other file, and tell what each item did
  Steps : (schedule_file : List ℕ) → Action
  -- look for a schedule under which it races; the seed decides which one is found, if one is
  Find : Action
  -- draw its replay by the schedule in the other file, alone or in a page with the program
  Draw : (schedule_file : List ℕ) (page : Bool) → Action

-- What the words ask for.
pub data Command : Type 0 where
  -- the program in the file, under a default: where asynchronous functions without an annotation
  -- run
  OnFile : (rule : AsyncDefault) (file : List ℕ) (action : Action) → Command

-- a command on a file, by the arguments that were found
abbrev pub on_file : List Row → Action → Option Command
on_file rows action =
    option_map (λ file. OnFile (default_in rows) file action) (first_of (codes "file") rows)

-- `breaches FILE`, with or without colours
abbrev pub breaches_by : List Row → Option Command
breaches_by rows = on_file rows (Breaches (is_set (codes "color") rows))

-- `steps FILE SCHEDULE`
abbrev pub steps_by : List Row → Option Command
steps_by rows = option_and_then (λ schedule_file. on_file rows (Steps schedule_file))
    (first_of (codes "schedule") rows)

-- `draw FILE SCHEDULE`, alone or in a page
abbrev pub draw_by : List Row → Option Command
draw_by rows =
    option_and_then (λ schedule_file. on_file rows (Draw schedule_file (is_set (codes "page") rows)))
    (first_of (codes "schedule") rows)

-- the command of this name
abbrev pub command_by : Text → List Row → Option Command
command_by name rows =
    if bytes_eq name (codes "breaches") then breaches_by rows
    else if bytes_eq name (codes "steps") then steps_by rows
    else if bytes_eq name (codes "find") then on_file rows Find
    else if bytes_eq name (codes "draw") then draw_by rows
    else None

abbrev pub read_rows : Option (Text × List Row) → Option Command
read_rows met = option_and_then (λ found. command_by found.0 found.1) met

-- The command of the words: what `clap` finds in them, where it finds nothing wrong. Other words
-- have no form.
unfoldable pub command_of : List Text → Option Command
command_of words =
    if is_empty (fault_of tool words) then read_rows (subcommand_of tool words) else None

-- the command of the words as the program has them
abbrev pub command_in : List (String Global) → Option Command
command_in words = command_of (map string_bytes words)

-- `clap` found this in the words, where nothing is wrong with them, or refused them, where
-- something is.
abbrev pub Parses : List Text → Option ArgMatches → Type 0
Parses words (Some matches) = (fault_of tool words ≡ [])
    × (subcommand_rows_of matches ≡ subcommand_of tool words)
Parses words None = fault_of tool words ≢ []
