use Rattle.std.proofs.Common.{arith, sym}
use Rattle.sw_token.proofs.CommentLemmas.{comment_len-within}
use Rattle.sw_token.proofs.step.comment_step.Goals as goal

pub overflow_add-result : goal.overflow_add-result
overflow_add-result c =
    omega (arith, comment_len-within c.args.after.now c.in-Some.len (sym c.in-Some.ensures))
