use Rattle.sw_see_find.proofs.WalkLemmas.{few_jobs}
use Rattle.sw_see_find.proofs.walking.Walk.go_on.Goals as goal

pub jobs-count-requires : goal.jobs-count-requires
jobs-count-requires c =
    few_jobs c.args.graph.now c.args.self.now.state c.args.self.now.items.items c.requires.reached
