-- The command as the program has it: its names are lent from the words.
use Rattle.std.specs.Prelude.{◌≤◌}
use Rattle.sw_check_words.specs.declared.command.Action as code
use Rattle.sw_check_words.specs.declared.command.Action.TheVariants as actions
use Rattle.sw_check_words.specs.declared.command.Command as codes
use Rattle.sw_check_words.specs.declared.command.Command.TheVariants as commands
use Rattle.sw_check_words.specs.Words.{Action, Check, Certify, Verify, Run, Trace, Owners, Order}
use Rattle.sw_check_words.specs.Words.{Command, OnFile, Demo}

abbrev pub lent_action : code.Action → Action
lent_action actions.Check = Check
lent_action actions.Certify = Certify
lent_action (actions.Verify certificate_file) = Verify certificate_file.now
lent_action (actions.Run schedule_file) = Run schedule_file.now
lent_action (actions.Trace schedule_file) = Trace schedule_file.now
lent_action (actions.Owners schedule_file) = Owners schedule_file.now
lent_action (actions.Order schedule_file) = Order schedule_file.now

abbrev pub lent_command : codes.Command → Command
lent_command (commands.OnFile rule file what) = OnFile rule file.now (lent_action what)
lent_command (commands.Demo actors) = Demo actors

-- it asks for no more actors than a program is generated for
abbrev pub AsksFew : codes.Command → Type 0
AsksFew (commands.OnFile rule file what) = Unit {0}
AsksFew (commands.Demo actors) = actors ≤ 200
