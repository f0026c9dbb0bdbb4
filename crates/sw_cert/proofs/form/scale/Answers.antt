use Rattle.std.proofs.Common.{length, sym, subst, ap}
use Rattle.sw_cert.specs.Begun.{IsScale}
use Rattle.sw_cert.proofs.Slices.{no_scale, scale_more}
use Rattle.sw_cert.proofs.form.scale.Goals as goal

pub loop-n-init : goal.loop-n-init
loop-n-init c = record {
  length_is = ap length c.new-scale.ensures;
  scale = subst IsScale (sym c.new-scale.ensures) no_scale;
}

pub loop-n-preserved : goal.loop-n-preserved
loop-n-preserved c =
    let h = scale_more c.loop-n.scale c.push.new.self c.loop-n.n c.loop-n.invariant.scale
    c.loop-n.invariant.length_is c.in_ok-push.ensures.ok in
    record { length_is = h.0; scale = h.1 }
