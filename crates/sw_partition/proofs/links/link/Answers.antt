use Rattle.std.proofs.Common.{inl, inr}
use Rattle.sw_partition.proofs.Linking.{linking_starts, linking_turn, linking_ends}
use Rattle.sw_partition.proofs.links.link.Goals.{then-links-u, else-links-u}
use Rattle.sw_partition.proofs.links.link.Goals as goal

pub loop-links-init : goal.loop-links-init
loop-links-init c = linking_starts c.args.x c.args.y c.args.links.now c.requires.x c.requires.y
    c.requires.links

pub loop-links-smaller : goal.loop-links-smaller
loop-links-smaller c = (linking_turn c.args.x c.args.y c.args.links.now c.loop-links.links
    c.loop-links.u c.loop-links.v c.if-links-u.u c.if-links-u.v c.loop-links-test.true
    (elim c.if-links-u.branch [
      | then-links-u w ↦ inl (w.if-links-u.true, w.u-is, w.v-is)
      | else-links-u w ↦ inr (w.if-links-u.false, w.u-is, w.v-is)
    ]) c.loop-links.invariant).less

pub loop-links-preserved : goal.loop-links-preserved
loop-links-preserved c = (linking_turn c.args.x c.args.y c.args.links.now c.loop-links.links
    c.loop-links.u c.loop-links.v c.if-links-u.u c.if-links-u.v c.loop-links-test.true
    (elim c.if-links-u.branch [
      | then-links-u w ↦ inl (w.if-links-u.true, w.u-is, w.v-is)
      | else-links-u w ↦ inr (w.if-links-u.false, w.u-is, w.v-is)
    ]) c.loop-links.invariant).linking

pub returns : goal.returns
returns c = linking_ends _ _ _ _ c.loop-links.u c.loop-links.v c.loop-links-test.false
    c.loop-links.invariant
