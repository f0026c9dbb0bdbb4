use Rattle.std.proofs.Common.{◌<◌, List, [], ◌∷◌, sym, subst, ◌∙◌}
use Rattle.std.proofs.lemmas.List.{get_or_read}
use Rattle.sw_types.specs.Walks.{IsWalk, steps_left, with_waiting}
use Rattle.sw_types.specs.declared.ordering.Group.{Group}
use Rattle.sw_types.specs.declared.ordering.Walk.{Walk}
use Rattle.sw_types.proofs.Stepping.{open_fewer, target_within, walk_open, walk_passed, walk_united}
use Rattle.sw_types.proofs.ordering.Walk.look.Goals as goal

pub returns-in-Settled-clause-walk : goal.returns-in-Settled-clause-walk
returns-in-Settled-clause-walk c =
    walk_passed c.args.edges.now c.args.self.now c.args.target c.requires.walk c.requires.last
    (sym c.progress_of.ensures ∙ c.in-Settled.is)

pub returns-in-Open-clause-walk : goal.returns-in-Open-clause-walk
returns-in-Open-clause-walk c =
    subst (λ (groups : List Group). IsWalk c.args.edges.now
    (record c.args.self.now { groups = groups })) (sym c.truncate.ensures)
    (walk_united c.args.edges.now c.args.self.now c.args.target c.requires.walk c.requires.last
    c.in-Open.place c.groups_until-count.result (sym c.progress_of.ensures ∙ c.in-Open.is)
    c.groups_until-count.ensures.until c.groups_until-count.ensures.after)

pub returns-in_ok-open-in-Fresh-clause-walk : goal.returns-in_ok-open-in-Fresh-clause-walk
returns-in_ok-open-in-Fresh-clause-walk c =
    let within = target_within c.args.edges.now c.args.self.now c.args.target c.requires.walk
    c.requires.last in
    let row = c.as_slice.ensures
    ∙ get_or_read c.args.edges.now c.args.target _ within c.index-edges-target.is [] in
    subst (IsWalk c.args.edges.now) (sym c.in_ok-open-in-Fresh.ensures)
    (walk_open c.args.edges.now c.args.self.now c.args.target c.requires.walk c.requires.last _ row
    (sym c.progress_of.ensures ∙ c.in-Fresh.is) c.requires.edges)

pub returns-in_ok-open-in-Fresh-clause-fewer : goal.returns-in_ok-open-in-Fresh-clause-fewer
returns-in_ok-open-in-Fresh-clause-fewer c =
    let within = target_within c.args.edges.now c.args.self.now c.args.target c.requires.walk
    c.requires.last in
    let row = c.as_slice.ensures
    ∙ get_or_read c.args.edges.now c.args.target _ within c.index-edges-target.is [] in
    subst (λ (walk : Walk). steps_left c.args.edges.now walk
    < steps_left c.args.edges.now (with_waiting c.args.self.now (c.args.target ∷ [])))
    (sym c.in_ok-open-in-Fresh.ensures)
    (open_fewer c.args.edges.now c.args.self.now c.args.target c.requires.walk c.requires.last _ row
    (sym c.progress_of.ensures ∙ c.in-Fresh.is))
