use Rattle.std.proofs.Common.{◌∙◌, ap, true}
use Rattle.clap.specs.Simple.{App, app_of_fields}
use Rattle.clap.specs.declared.builder.command.Command.{Command}
use Rattle.clap.specs.declared.builder.command.Command.TheOpen.{Command-F}
use Rattle.sw_see_words.proofs.tool.bare.Goals as goal

pub returns-clause-app : goal.returns-clause-app
returns-clause-app c =
    ap app_of_fields c.disable_help_subcommand.ensures
    ∙ ap (λ (f : Command-F Command). app_of_fields (record f { disable_help_subcommand = true }))
    c.disable_help_flag.ensures
    ∙ ap (λ (f : Command-F Command). app_of_fields (record f {
      disable_help_flag = true;
      disable_help_subcommand = true;
    })) c.no_binary_name.ensures
    ∙ ap (λ (a : App). record a {
      top = record a.top {
        no_binary_name = true;
        disable_help_flag = true;
        disable_help_subcommand = true;
      };
    }) c.new.ensures.app
