use Rattle.sw_lower_plans.proofs.SameParts.{same_bind, same_block, same_close, same_emit, same_front}
use Rattle.sw_lower_plans.proofs.SameParts.{same_reg, same_resume}
use Rattle.sw_lower_plans.proofs.laws.steps_make_plans.Goals as goal

pub returns : goal.returns
returns c = record {
  reg = same_reg;
  block = same_block;
  emit = same_emit;
  front = same_front;
  close = same_close;
  resume = same_resume;
  bind = same_bind;
}
