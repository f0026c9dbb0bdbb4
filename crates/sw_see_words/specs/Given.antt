-- The command as the program has it: its names are lent from the words.
use Rattle.sw_see_words.specs.declared.command.Action as code
use Rattle.sw_see_words.specs.declared.command.Action.TheVariants as actions
use Rattle.sw_see_words.specs.declared.command.Command as codes
use Rattle.sw_see_words.specs.declared.command.Command.TheVariants as commands
use Rattle.sw_see_words.specs.Words.{Action, Breaches, Command, Draw, Find, OnFile, Steps}

abbrev pub lent_action : code.Action → Action
lent_action (actions.Breaches color) = Breaches color
lent_action (actions.Steps schedule_file) = Steps schedule_file.now
lent_action (actions.Find seed) = Find
lent_action (actions.Draw schedule_file page) = Draw schedule_file.now page

abbrev pub lent_command : codes.Command → Command
lent_command (commands.OnFile rule file what) = OnFile rule file.now (lent_action what)
