use Rattle.std.proofs.Common.{◌∙◌, sym}
use Rattle.sw_lower_rules.proofs.CodedKeys.{coded_key}
use Rattle.sw_lower_expr.proofs.keys.key_of.Goals as goal

pub returns : goal.returns
returns c = λ tables owner. c.key.ensures ∙ sym (coded_key tables owner c.args.tree.now)
