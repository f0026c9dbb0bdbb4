-- The words of the command line, after the program's name.
use Rattle.std.specs.Prelude.{ℕ, ◌==◌, Bool, true, false, ◌&&◌, ◌||◌, not, nat_le, List, [], ◌∷◌}
use Rattle.std.specs.Prelude.{length, map}
use Rattle.std.specs.Prelude.{filter, Option, Some, None, option_map}
use Rattle.std.specs.Prelude.{if◌then◌else◌}
use Rattle.std.specs.Prelude.{codes, String, string_bytes}
use Rattle.std.specs.List.{list_all, list_any}
use Rattle.std.specs.declared.alloc.Global.{Global}
use Rattle.std.specs.Str.{bytes_eq}
use Rattle.sw_scan.specs.Classes.{is_digit}
use Rattle.sw_scan.specs.Decimal.{number_of}
use Rattle.sw_decls.specs.declared.signature.AsyncDefault.{AsyncDefault}
use Rattle.sw_decls.specs.declared.signature.AsyncDefault.TheVariants.{Concurrent, Caller}

-- What is done with the program in a file.
pub data Action : Type 0 where
  -- is it accepted?
  Check : Action
  -- is it accepted, and by which certificate?
  Certify : Action
  -- is it accepted, by the certificate in the other file?
  Verify : (certificate_file : List ℕ) → Action
  -- run it, where it is accepted, by the schedule in the other file
  Run : (schedule_file : List ℕ) → Action
  -- run it by the schedule in the other file, also where jobs of it may race
  Trace : (schedule_file : List ℕ) → Action
  -- run it, where it is accepted, by the schedule in the other file, and say who owns its coloured
  -- cells
  Owners : (schedule_file : List ℕ) → Action
  -- run it by the schedule in the other file, and look for accesses that nothing orders
  Order : (schedule_file : List ℕ) → Action

-- What the words ask for.
pub data Command : Type 0 where
  -- the program in the file, under a default: where asynchronous functions without an annotation
  -- run
  OnFile : (rule : AsyncDefault) (file : List ℕ) (action : Action) → Command
  -- the program that is generated for a number of actors
  Demo : (actors : ℕ) → Command

-- A name is a word that isn't empty and doesn't begin with `-`, the byte 45.
abbrev pub is_name : List ℕ → Bool
is_name [] = false
is_name (first ∷ rest) = not (first == 45)

-- the option for the default of SE-0461, and the one that asks `check` for a certificate
abbrev pub nonsending_default : List ℕ
nonsending_default = codes "--nonsending-default"

abbrev pub certificate : List ℕ
certificate = codes "--certificate"

abbrev pub is_among : List (List ℕ) → List ℕ → Bool
is_among words word = list_any (bytes_eq word) words

-- the options of the commands on a file, and those of `check`
abbrev pub file_options : List (List ℕ)
file_options = nonsending_default ∷ []

abbrev pub check_options : List (List ℕ)
check_options = certificate ∷ nonsending_default ∷ []

-- the words of the lists that have a form
abbrev pub may_stand : List ℕ → Bool
may_stand word = is_name word || is_among check_options word

-- Each of the words is one of these options, and none stands twice.
abbrev pub are_options : List (List ℕ) → List (List ℕ) → Bool
are_options options [] = true
are_options options (word ∷ words) =
    is_among options word && (not (is_among words word) && are_options options words)

-- The default, by the words that aren't names: without the option that of SE-0338, and with it that
-- of SE-0461, by which functions without an annotation run where their callers run.
abbrev pub default_by : List (List ℕ) → AsyncDefault
default_by others = if is_among others nonsending_default then Caller else Concurrent

-- `check FILE`: the file and the action, where `--certificate` stands among the other words
abbrev pub check_form : List (List ℕ) → List (List ℕ) → Option (List ℕ × Action)
check_form others (file ∷ []) =
    Some (file, if is_among others certificate then Certify else Check)
check_form others names = None

-- `run FILE SCHEDULE`, and likewise the other commands that read a second file
abbrev pub pair_form : (List ℕ → Action) → List (List ℕ) → Option (List ℕ × Action)
pair_form action (file ∷ second_file ∷ []) = Some (file, action second_file)
pair_form action names = None

-- a command on a file, by what its names say and the other words after it
abbrev pub file_form : List (List ℕ) → Option (List ℕ × Action) → List (List ℕ) → Option Command
file_form options form others =
    if are_options options others
    then option_map (λ found. OnFile (default_by others) found.0 found.1) form else None

-- A number of actors is written in one to three digits, and from 1 to 200.
abbrev pub is_actor_count : List ℕ → Bool
is_actor_count text = list_all is_digit text && (nat_le 1 (length text) && (nat_le (length text) 3
    && (nat_le 1 (number_of text) && nat_le (number_of text) 200)))

abbrev pub actors_of : List ℕ → Option ℕ
actors_of text = if is_actor_count text then Some (number_of text) else None

-- `demo N`
abbrev pub demo_form : List (List ℕ) → List (List ℕ) → Option Command
demo_form (number ∷ []) [] = option_map Demo (actors_of number)
demo_form names others = None

-- the forms, by the first word and the names and other words after it
abbrev pub form_of : List ℕ → List (List ℕ) → List (List ℕ) → Option Command
form_of verb names others =
    if bytes_eq (codes "check") verb
    then file_form check_options (check_form others names) others
    else if bytes_eq (codes "verify") verb
    then file_form file_options (pair_form Verify names) others
    else if bytes_eq (codes "run") verb then file_form file_options (pair_form Run names) others
    else if bytes_eq (codes "trace") verb then file_form file_options (pair_form Trace names) others
    else if bytes_eq (codes "owners") verb
    then file_form file_options (pair_form Owners names) others
    else if bytes_eq (codes "order") verb then file_form file_options (pair_form Order names) others
    else if bytes_eq (codes "demo") verb then demo_form names others
    else None

-- `check FILE`, `verify FILE CERTIFICATE`, `run FILE SCHEDULE`, `trace FILE SCHEDULE`,
-- `owners FILE SCHEDULE` and `order FILE SCHEDULE`, with their options anywhere after the first word,
-- and `demo N` are the forms. Any other list of words has none.
unfoldable pub command_of : List (List ℕ) → Option Command
command_of [] = None
command_of (verb ∷ words) =
    form_of verb (filter is_name words) (filter (λ word. not (is_name word)) words)

-- the command of the words as the program has them
abbrev pub command_in : List (String Global) → Option Command
command_in words = command_of (map string_bytes words)
