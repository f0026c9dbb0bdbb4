use Rattle.std.proofs.Common.{◌≡◌, ◌↔◌, subst}
use Rattle.std.specs.List.{Contains}
use Rattle.sw_region_ops.specs.Sites.{sites_of, body_ops}
use Rattle.sw_region_ops.proofs.context.Context.sites.Goals as goal

pub returns : goal.returns
returns c =
    let e : c.in_ok-block_sites.field-0 ≡ sites_of (body_ops c.args.self.now) =
    rw (c.as_slice.ensures, c.body.ensures) at c.in_ok-block_sites.ensures in
    record {
      rising = c.in_order.ensures.rising;
      same = λ site. subst (λ given. Contains c.in_order.result.items site ↔ Contains given site) e
          (c.in_order.ensures.same site);
    }
