use Rattle.std.proofs.Common.{◌≡◌, ap, ◌∙◌, length, arith}
use Rattle.indexmap.proofs.MapLemmas.{OnOk-map}
use Rattle.sw_value.specs.Machine.{Machine}
use Rattle.sw_race.specs.Index.{kept_up}
use Rattle.sw_race.proofs.UpdateLemmas.{few_before, stands_after}
use Rattle.sw_race.proofs.index.RaceIndex.update.Goals as goal

pub keep_up-requires : goal.keep_up-requires
keep_up-requires c = record {
  room =
      let few = few_before c.args.graph.now c.args.self.now c.args.state.now c.args.job
      c.requires.before in
      let jobs = c.requires.jobs in
      omega (arith, few, jobs);
}

pub returns-clause-stands : goal.returns-clause-stands
returns-clause-stands c =
    let jobs = c.len.ensures ∙ ap (λ (m : Machine). length m.jobs) c.state.view_is in
    OnOk-map c.keep_up.result _ _
    (λ (kept : c.keep_up.new.self
    ≡ kept_up c.len.result c.args.job c.target_at.result c.args.self.now).
    stands_after c.args.graph.now c.args.self.now c.args.state.now c.args.job
    c.target_at.result c.keep_up.new.self c.requires.before c.target_at.ensures
    (kept ∙ ap (λ n. kept_up n c.args.job c.target_at.result c.args.self.now) jobs))
    c.keep_up.ensures.ok
