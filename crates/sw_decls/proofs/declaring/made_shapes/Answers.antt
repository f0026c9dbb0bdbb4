use Rattle.std.proofs.Common.{◌<◌, length, ap, sym, subst, ◌∙◌, arith}
use Rattle.sw_types.specs.Held.{AreWithin}
use Rattle.sw_decl_words.specs.Evident.{meanings_of}
use Rattle.sw_decl_words.specs.Shaped.{shapes_from}
use Rattle.sw_decl_words.proofs.WithinLemmas.{shapes_few, shapes_within}
use Rattle.sw_decls.proofs.declaring.made_shapes.Goals as goal

pub returns-clause-within : goal.returns-clause-within
returns-clause-within c =
    let decls = c.args.decls.now in
    subst AreWithin
    (sym (c.in_ok-shapes.ensures ∙ ap (λ known. shapes_from known 0 decls) c.requires.known))
    (shapes_within decls)

pub returns-clause-few : goal.returns-clause-few
returns-clause-few c =
    let decls = c.args.decls.now in
    let small = c.requires.small in
    let few = shapes_few (meanings_of decls) decls in
    subst (λ shapes. length shapes < 4294967296)
    (sym (c.in_ok-shapes.ensures ∙ ap (λ known. shapes_from known 0 decls) c.requires.known))
    (omega (arith, few, small))
