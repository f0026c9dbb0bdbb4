use Rattle.std.proofs.Common.{subst, sym, arith}
use Rattle.sw_value.specs.Busy.{IsReplaced}
use Rattle.std.proofs.Common.{Some, None}
use Rattle.sw_value.proofs.BusyLemmas.{removed_within, removed_last}
use Rattle.sw_value.proofs.busy.remove_at.Goals as goal

pub returns-then-index-len : goal.returns-then-index-len
returns-then-index-len c = λ b there.
    subst (IsReplaced (Some b) None c.args.busy.now) (sym c.set.ensures)
    (removed_within c.args.busy.now c.pop.new.self c.in-Some.last b c.args.index
    c.in-Some.ensures (omega arith) there)

pub returns-else-index-len : goal.returns-else-index-len
returns-else-index-len c = λ b there.
    removed_last c.args.busy.now c.pop.new.self c.in-Some.last b c.args.index c.in-Some.ensures
    (omega arith) c.requires there
