use Rattle.std.proofs.Common.{◌∙◌, rules, tests}
use Rattle.std.proofs.lemmas.Iterator.{YieldsList-from_slice}
use Rattle.std.proofs.lemmas.Iterator.Search.{find_from_yields_List}
use Rattle.sw_lsp_findings.specs.Hovers.{covers}
use Rattle.sw_lsp_findings.proofs.hovers.first_over.Goals as goal

pub returns : goal.returns
returns c =
    c.copied.ensures
    ∙ find_from_yields_List (covers c.args.table.now c.args.place) _ _ c.find.result c.find.ensures.ran
    (YieldsList-from_slice c.args.breaches.now cc) (λ x b q k. search (rules, tests))
