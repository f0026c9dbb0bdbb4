use Rattle.std.proofs.Common.{◌≡◌, ◌+◌, ℕ, subst, refl, arith}
use Rattle.sw_solve.specs.Annotation.{value_at}
use Rattle.sw_cert_making.specs.Made.{AreLinesAdded}
use Rattle.sw_cert_making.proofs.Assembling.{lines_start, lines_more}
use Rattle.sw_cert_making.proofs.making.add_lines.Goals as goal

pub loop-block-init : goal.loop-block-init
loop-block-init c = record {
  added = lines_start c.args.function c.args.states.now c.args.text.now.items;
  within = c.requires;
}

pub returns-then-len-gt-CERTIFICATE_LIMIT : goal.returns-then-len-gt-CERTIFICATE_LIMIT
returns-then-len-gt-CERTIFICATE_LIMIT c = (
  c.loop-block.block + 1,
  omega (arith, c.loop-block-test.true),
  lines_more c.args.function c.args.states.now c.loop-block.block
      (value_at c.args.states.now c.loop-block.block) c.args.text.now.items
      c.loop-block.text.items c.add_line.new.text.items refl c.loop-block.invariant.added
      c.in_ok-add_line.ensures,
  omega (arith, c.if-len-gt-CERTIFICATE_LIMIT.true, c.len.ensures),
)

pub loop-block-preserved : goal.loop-block-preserved
loop-block-preserved c = record {
  added = lines_more c.args.function c.args.states.now c.loop-block.block
      (value_at c.args.states.now c.loop-block.block) c.args.text.now.items
      c.loop-block.text.items c.add_line.new.text.items refl c.loop-block.invariant.added
      c.in_ok-add_line.ensures;
  within = omega (arith, c.if-len-gt-CERTIFICATE_LIMIT.false, c.len.ensures);
}

pub returns : goal.returns
returns c =
    let e : c.loop-block.block ≡ c.args.blocks =
    omega (arith, c.loop-block-test.false, c.loop-block.auto.block-end) in (
      subst (λ (n : ℕ). AreLinesAdded c.args.function c.args.states.now n c.args.text.now.items
          c.loop-block.text.items) e c.loop-block.invariant.added,
      c.loop-block.invariant.within,
    )
