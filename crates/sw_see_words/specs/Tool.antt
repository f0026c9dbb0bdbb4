-- The command line as `clap` knows it.
use Rattle.std.specs.Prelude.{true, codes}
use Rattle.clap.specs.Words.{App, new_app, new_rule, with_rule, with_subcommand}
use Rattle.sw_check_words.specs.Tool.{default_rule, flag, required}

abbrev pub breaches_app : App
breaches_app = with_rule (with_rule (with_rule (new_app (codes "breaches")) default_rule)
    (flag (codes "color") (codes "color"))) (required (codes "file"))

abbrev pub steps_app : App
steps_app = with_rule (with_rule (with_rule (new_app (codes "steps")) default_rule)
    (required (codes "file"))) (required (codes "schedule"))

abbrev pub find_app : App
find_app = with_rule (with_rule (with_rule (new_app (codes "find")) default_rule)
    (required (codes "file"))) (new_rule (codes "seed"))

abbrev pub draw_app : App
draw_app = with_rule (with_rule (with_rule (with_rule (new_app (codes "draw")) default_rule)
    (flag (codes "page") (codes "page"))) (required (codes "file"))) (required (codes "schedule"))

-- no word is read as a request for help
abbrev pub bare_app : App
bare_app = record (new_app (codes "swiftcheck_see")) {
  top = record (new_app (codes "swiftcheck_see")).top {
    no_binary_name = true;
    disable_help_flag = true;
    disable_help_subcommand = true;
  };
}

abbrev pub tool : App
tool = with_subcommand (with_subcommand (with_subcommand (with_subcommand bare_app breaches_app.top)
    steps_app.top) find_app.top) draw_app.top
