use Rattle.sw_token.proofs.TokenLaws.{one_list, one_fault, never_both, tokens_or_fault-HasTokens}
use Rattle.sw_token.proofs.one_reading.Goals as goal

pub returns-clause-tokens : goal.returns-clause-tokens
returns-clause-tokens c = one_list

pub returns-clause-faults : goal.returns-clause-faults
returns-clause-faults c = one_fault

pub returns-clause-apart : goal.returns-clause-apart
returns-clause-apart c = never_both

pub returns-clause-always : goal.returns-clause-always
returns-clause-always c = tokens_or_fault-HasTokens
