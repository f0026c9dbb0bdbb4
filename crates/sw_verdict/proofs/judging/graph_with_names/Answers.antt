use Rattle.std.proofs.Common.{All, length, map, subst, sym, ap, ◌∙◌, ◌<◌}
use Rattle.sw_verdict.specs.ActorNames.{name_by}
use Rattle.sw_verdict.proofs.judging.graph_with_names.Goals as goal

pub names_of-requires : goal.names_of-requires
names_of-requires c =
    subst (λ texts. All (λ id. id < length texts) c.as_slice.result.now) (sym c.names.ensures)
    (subst (All (λ id. id < length c.args.program.now.texts))
    (sym (c.as_slice.ensures ∙ c.requires.analysed.1.declared.actors)) c.requires.named)

pub returns-clause-actors : goal.returns-clause-actors
returns-clause-actors c =
    c.in_ok-actors.ensures ∙ ap (λ texts. map (name_by texts) c.as_slice.result.now) c.names.ensures
    ∙ ap (map (name_by c.args.program.now.texts))
    (c.as_slice.ensures ∙ c.requires.analysed.1.declared.actors)
