use Rattle.std.proofs.Common.{length}
use Rattle.sw_parse_parts.specs.Around.{known}
use Rattle.sw_parse_decl.proofs.MemberLoops.{Progress}
use Rattle.sw_parse_decl.proofs.types.members.Given as goal

abbrev pub invariant-loop-alloc : goal.invariant-loop-alloc
invariant-loop-alloc g l =
    Progress (known l.fn.around) l.fn.depth l.fn.kind l.initial.tokens l.tokens l.members l.ended

abbrev pub decreases-loop-alloc : goal.decreases-loop-alloc
decreases-loop-alloc g l = length l.tokens
