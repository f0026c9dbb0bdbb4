use Rattle.std.proofs.Common.{refl}
use Rattle.sw_cert.proofs.Slices.{next_just}
use Rattle.sw_cert.specs.Pending.{MayBeElement, MayBeSite}
use Rattle.sw_cert.proofs.pairs.quick_pair.Goals as goal

pub returns-then-is_closer : goal.returns-then-is_closer
returns-then-is_closer c = record {
  site_at = c.in_ok-element.site_at;
  element = next_just (MayBeElement c.args.extent.now c.args.pending.to c.args.pending.left)
      c.args.text.now c.args.pending.at c.in_ok-element.element c.in_ok-element.blank
      c.in_ok-element.site_at c.in_ok-element.ensures (c.if-blank-eq32.true, (_, refl, c.in_ok-rank.ensures.may));
  site = next_just (MayBeSite c.args.extent.now c.args.pending.to c.args.pending.left
      c.in_ok-element.element) c.args.text.now c.in_ok-element.site_at c.in_ok-site.site
      c.in_ok-site.closer c.in_ok-site.end c.in_ok-site.ensures (c.is_closer.ensures.0 c.if-is_closer.true, c.in_ok-rank.ensures.may);
  has_rank = c.in_ok-rank.ensures.rank;
}
