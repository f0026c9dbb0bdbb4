use Rattle.sw_arm_facts.proofs.Weighed.{ifs_have_arms}
use Rattle.sw_arm_facts.proofs.laws.spelled_ifs_have_arms.Goals as goal

pub returns : goal.returns
returns c = ifs_have_arms
