use Rattle.std.proofs.Common.{Option, ap, sym, ◌∙◌}
use Rattle.sw_tree.specs.declared.name.Name.{Name}
use Rattle.sw_isolation_rules.specs.Noting.{task_iso}
use Rattle.sw_typing_rules.specs.Worlds.{world_of}
use Rattle.sw_isolation_steps.proofs.isolations.task_iso.Goals as goal

pub returns-in-None : goal.returns-in-None
unfolding task_iso
returns-in-None c =
    c.unmarked_iso.ensures
    ∙ ap (λ (mark : Option Name). task_iso (world_of c.args.world.now) mark
    c.args.detached c.args.around) (sym c.in-None.is)
