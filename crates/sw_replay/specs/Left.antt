-- The items of a schedule that are left.
use Rattle.std.specs.Prelude.{ℕ, List, ◌++◌, replicate}
use Rattle.sw_replay.specs.declared.iter.Iter.{Iter}
use Rattle.sw_replay.specs.Items.{written_out}

-- the job of the run under way as often as it is left, and then the runs
abbrev pub items_left : Iter → List ℕ
items_left left = replicate left.count left.job ++ written_out left.runs.now
