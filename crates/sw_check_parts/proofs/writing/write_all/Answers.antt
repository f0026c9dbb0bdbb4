use Rattle.std.proofs.Common.{sym, subst, ◌∙◌}
use Rattle.sw_check_parts.proofs.WriteLemmas.{IsPartWritten, part_goes_on}
use Rattle.sw_check_parts.proofs.writing.write_all.Goals as goal

pub loop-rest-preserved : goal.loop-rest-preserved
loop-rest-preserved g c = record {
  steady = c.in_ok-n.ensures.steady ∙ c.loop-rest.invariant.steady;
  part = subst (λ left. IsPartWritten c.args.bytes.now left (g.K.Sink.written c.args.out.now)
      (g.K.Sink.written c.put.new.self)) (sym c.split_at.ensures.back)
      (part_goes_on c.in_ok-n.n c.loop-rest.invariant.part c.in_ok-n.ensures.within
      c.in_ok-n.ensures.written);
}
