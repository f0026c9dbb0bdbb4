use Rattle.std.specs.Option.{option_copied}
use Rattle.sw_typing_steps.proofs.TableLemmas.{switched_end}
use Rattle.sw_typing_steps.proofs.switches.switch_end.Goals as goal

pub returns-clause-left : goal.returns-clause-left
returns-clause-left c =
    switched_end (option_copied c.args.cases) c.args.start c.args.at c.args.subject.now
    c.args.arms.now c.args.otherwise c.args.inner c.args.table.now c.note_arms.new.table
    c.is_some-typed.result c.switch_fits-fits.result c.is_some-typed.ensures
    c.switch_fits-fits.ensures c.in_ok-note_arms.ensures
