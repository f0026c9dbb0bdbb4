use Rattle.std.proofs.Common.{not, bytes_eq, rules}
use Rattle.std.proofs.lemmas.Fn.{filter_same}
use Rattle.sw_lsp.proofs.documents.keep_others.Goals as goal

pub returns : goal.returns
returns c =
    filter_same _ (λ document. not (bytes_eq document.0 c.args.uri.now)) _ (λ x b f' says. search rules) _ _
    c.retain.ensures.filtered
