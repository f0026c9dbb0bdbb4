use Rattle.std.proofs.Common.{◌∙◌, ap, is_some}
use Rattle.sw_isolation_captures.proofs.PlaceLemmas.{among_place}
use Rattle.sw_isolation_captures.proofs.listed.Listed.contains.Goals as goal

pub returns : goal.returns
returns c =
    rw (← c.self.view_is) (c.contains_key.ensures ∙ (ap is_some (c.self.invariant c.args.variable)
    ∙ among_place c.self.inside.variables c.args.variable))
