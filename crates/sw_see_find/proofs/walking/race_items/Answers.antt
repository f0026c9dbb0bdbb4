use Rattle.sw_see_find.proofs.WalkLemmas.{few_jobs}
use Rattle.sw_see_find.proofs.walking.race_items.Goals as goal

pub race_with-requires : goal.race_with-requires
race_with-requires c =
    few_jobs c.args.graph.now c.go_on.new.self.state c.go_on.new.self.items.items
    c.in_ok-moved.ensures.reached
