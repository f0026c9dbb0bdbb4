use Rattle.std.proofs.Common.{sym, ap, ◌∙◌, drop, arith}
use Rattle.sw_token.specs.Comments.{further, comment_len}
use Rattle.sw_token.proofs.CommentLemmas.{turn_last, turn_closing, turn_opening, turn_inside}
use Rattle.sw_token.proofs.CommentLemmas.{turn_end}
use Rattle.sw_token.proofs.comments.comment_len.Goals as goal

pub returns-then-depth-eq0 : goal.returns-then-depth-eq0
returns-then-depth-eq0 c =
    let last =
    turn_last c.args.bytes.now c.loop-at.at c.loop-at-test.true
    (sym c.closes.ensures ∙ c.if-closes.true) in
    sym (c.loop-at.invariant.so_far
    ∙ (ap
    (λ d. further c.loop-at.at
    (comment_len d (drop c.loop-at.at c.args.bytes.now))) c.if-depth-eq0.true
    ∙ ap (further c.loop-at.at) last))

pub returns : goal.returns
returns c =
    sym (c.loop-at.invariant.so_far
    ∙ turn_end c.args.bytes.now c.loop-at.at c.loop-at.depth c.loop-at-test.false)

pub loop-at-preserved-then-closes : goal.loop-at-preserved-then-closes
loop-at-preserved-then-closes c =
    let turn =
    turn_closing c.args.bytes.now c.loop-at.at c.loop-at-test.true c.loop-at.depth
    (sym c.closes.ensures ∙ c.if-closes.true) (omega arith) in
    record {
      so_far = c.loop-at.invariant.so_far ∙ turn;
      few = omega arith;
      inside = omega arith;
    }

pub loop-at-preserved-then-opens : goal.loop-at-preserved-then-opens
loop-at-preserved-then-opens c =
    let turn =
    turn_opening c.args.bytes.now c.loop-at.at c.loop-at-test.true c.loop-at.depth
    (sym c.closes.ensures ∙ c.if-closes.false) (sym c.opens.ensures ∙ c.if-opens.true) in
    record {
      so_far = c.loop-at.invariant.so_far ∙ turn;
      few = omega arith;
      inside = omega arith;
    }

pub loop-at-preserved : goal.loop-at-preserved
loop-at-preserved c =
    let turn =
    turn_inside c.args.bytes.now c.loop-at.at c.loop-at-test.true c.loop-at.depth
    (sym c.closes.ensures ∙ c.if-closes.false) (sym c.opens.ensures ∙ c.if-opens.false) in
    record {
      so_far = c.loop-at.invariant.so_far ∙ turn;
      few = omega arith;
      inside = omega arith;
    }
