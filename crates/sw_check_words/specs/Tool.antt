-- The command line as `clap` knows it.
use Rattle.std.specs.Prelude.{ℕ, true, List, Some, codes}
use Rattle.clap.specs.Words.{App, Rule, new_app, new_rule, with_rule, with_subcommand}
use Rattle.clap.specs.declared.builder.action.ArgAction.TheVariants.{SetTrue}

-- an argument that must be there
abbrev pub required : List ℕ → Rule
required id = record (new_rule id) { required = true }

-- an option of this name without a value
abbrev pub flag : List ℕ → List ℕ → Rule
flag id name = record (new_rule id) { long = Some name; action = Some SetTrue }

abbrev pub default_rule : Rule
default_rule = flag (codes "default") (codes "nonsending-default")

abbrev pub check_app : App
check_app = with_rule (with_rule (with_rule (new_app (codes "check")) default_rule)
    (flag (codes "certificate") (codes "certificate"))) (required (codes "file"))

-- a command on a file that reads a second one
abbrev pub pair_app : List ℕ → App
pair_app name = with_rule (with_rule (with_rule (new_app name) default_rule)
    (required (codes "file"))) (required (codes "second"))

abbrev pub demo_app : App
demo_app = with_rule (new_app (codes "demo")) (required (codes "actors"))

-- no word is read as a request for help
abbrev pub bare_app : App
bare_app = record (new_app (codes "swiftcheck")) {
  top = record (new_app (codes "swiftcheck")).top {
    no_binary_name = true;
    disable_help_flag = true;
    disable_help_subcommand = true;
  };
}

-- `app` and, behind its commands, one that reads two files
abbrev pub with_pair : App → List ℕ → App
with_pair app name = with_subcommand app (pair_app name).top

abbrev pub tool : App
tool = with_subcommand (with_pair (with_pair (with_pair (with_pair (with_pair
    (with_subcommand bare_app check_app.top) (codes "verify")) (codes "run")) (codes "trace"))
    (codes "owners")) (codes "order")) demo_app.top
