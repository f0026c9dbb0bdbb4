use Rattle.std.proofs.Common.{string_bytes, ◌∙◌}
use Rattle.sw_tree.proofs.NamesLemmas.{id-found, id-missing}
use Rattle.sw_tree.proofs.names.Names.id_of.Goals as goal

pub returns-in-Some : goal.returns-in-Some
returns-in-Some c =
    id-found string_bytes c.args.text.now c.args.self.now c.self.inside.texts.keys c.in-Some.index
    c.self.view_is c.in-Some.ensures.index

pub returns-in-None : goal.returns-in-None
returns-in-None c =
    c.len.ensures.len ∙ id-missing string_bytes c.args.text.now c.args.self.now
    c.self.inside.texts.keys c.self.view_is c.in-None.ensures.index
