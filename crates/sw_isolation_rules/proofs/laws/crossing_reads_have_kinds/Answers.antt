use Rattle.sw_isolation_rules.proofs.Calls.{member_has_kind, word_has_kind}
use Rattle.sw_isolation_rules.proofs.laws.crossing_reads_have_kinds.Goals as goal

pub returns-clause-word : goal.returns-clause-word
returns-clause-word c = word_has_kind

pub returns-clause-member : goal.returns-clause-member
returns-clause-member c = member_has_kind
