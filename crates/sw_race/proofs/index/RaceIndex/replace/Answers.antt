use Rattle.std.proofs.Common.{sym, ◌∙◌}
use Rattle.sw_race.specs.Uses.{uses_in}
use Rattle.sw_race.proofs.IndexLemmas.{replaced_indexed}
use Rattle.sw_race.proofs.UsesLemmas.{old_counted}
use Rattle.sw_race.proofs.index.RaceIndex.replace.Goals.{then-self, else-self}
use Rattle.sw_race.proofs.index.RaceIndex.replace.Goals as goal

pub take_out-requires : goal.take_out-requires
take_out-requires c = record {
  there = old_counted c.self.inside.targets c.args.job c.at-old.result.now c.args.next
      (uses_in c.self.inside.uses) (uses_in c.take_in.new.table) c.at-old.ensures
      c.self.invariant.counts c.in_ok-take_in.ensures.ok;
}

pub invariant_of-self-2 : goal.invariant_of-self-2
invariant_of-self-2 c =
    replaced_indexed c.self.inside.uses c.take_out.new.table c.self.inside.clear c.if-self.self
    (uses_in c.take_in.new.table) c.self.inside.targets c.set.new.self c.args.job
    c.at-old.result.now
    c.args.next c.at-old.ensures c.set.ensures c.self.invariant c.in_ok-take_in.ensures.ok
    c.take_out.ensures (λ e. elim c.if-self.branch [
      | then-self w ↦ (w.if-self.true, sym w.is_alone-self-inside.ensures ∙ sym w.self-is ∙ e)
      | else-self w ↦ cc (sym w.self-is ∙ e)
    ])
