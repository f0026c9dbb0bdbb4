use Rattle.std.proofs.Common.{◌+◌, ◌≤◌, [], arith, ap, get_or, length}
use Rattle.sw_tree.proofs.NamesLemmas.{length-with_text, with_texts-next, with_texts-end}
use Rattle.sw_tree.proofs.names.Names.intern_all.Goals as goal

pub loop-text-preserved : goal.loop-text-preserved
loop-text-preserved c =
    let is = c.in_ok-intern.ensures.texts in
    let most = length-with_text c.loop-text.self
    (get_or c.args.texts.now c.loop-text.text-index (record { ref_ptr = (0, 0); now = [] })).now
    in
    let more : length c.intern.new.self ≤ length c.loop-text.self + 1 =
    omega (arith, ap length is, most) in (
      with_texts-next (λ text. text.now) c.loop-text.self c.intern.new.self _ c.args.texts.now
          c.loop-text.text-index _ c.loop-text-test.true is c.loop-text.invariant.0,
      omega (arith, c.loop-text.invariant.1),
    )

pub returns : goal.returns
returns c = with_texts-end
    (λ text. text.now) c.loop-text.self _ c.args.texts.now c.loop-text.text-index
    c.loop-text-test.false c.loop-text.invariant.0
