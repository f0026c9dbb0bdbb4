use Rattle.std.proofs.Common.{◌≡◌, ◌∙◌, Option, subst, sym}
use Rattle.sw_types.specs.declared.isolation.CallKind.{CallKind}
use Rattle.sw_isolation_rules.specs.Lists.{kinds_in}
use Rattle.sw_isolation_rules.specs.Programs.{noted}
use Rattle.sw_isolation_table.proofs.KindFound.{IsKindIn, kind_found}
use Rattle.sw_isolation_table.proofs.isolated.Isolated.kind_at.Goals as goal

pub returns-clause-noted : goal.returns-clause-noted
returns-clause-noted c world answers decls is =
    let kinds = kinds_in (noted world answers decls) in
    subst (λ (found : Option CallKind). IsKindIn kinds c.args.at found)
    (sym (c.copied.ensures ∙ c.get.ensures.value ∙ is.kinds_by_key c.args.at))
    (kind_found kinds c.args.at)
