use Rattle.sw_isolation_rules.proofs.SoundPrograms.{refusal_codes, race_codes}
use Rattle.sw_isolation_rules.proofs.laws.breaches_have_codes_of_their_own.Goals as goal

pub returns-clause-refusals : goal.returns-clause-refusals
returns-clause-refusals c = refusal_codes

pub returns-clause-races : goal.returns-clause-races
returns-clause-races c = race_codes
