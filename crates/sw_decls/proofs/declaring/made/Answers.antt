use Rattle.std.proofs.Common.{ap, subst, ◌∙◌}
use Rattle.std.specs.Prelude.{flat_map, unwrap_or, IsPermutation}
use Rattle.sw_decls.specs.Declaring.{numbered}
use Rattle.sw_decls.specs.Signatures.{funcs_from, global_of}
use Rattle.sw_decls.proofs.declaring.made.Goals as goal

pub returns : goal.returns
returns c =
    let decls = c.args.decls.now in
    let known = c.requires.known in
    record {
      shapes = c.requires.shapes;
      actors = c.in_ok-actors.ensures;
      funcs = subst (λ from. IsPermutation from c.in_ok-funcs.funcs)
          (c.in_ok-signatures_of.ensures
          ∙ ap (λ k. funcs_from k.top c.args.default 0 decls) known)
          c.in_ok-funcs.ensures.same;
      ordered = c.in_ok-funcs.ensures.ordered;
      globals = c.in_ok-globals.ensures ∙ ap (λ k. flat_map (global_of k) decls) known;
      numbers = λ key. c.in_ok-numbers.ensures key
          ∙ ap (λ funcs. numbered funcs key) c.as_slice.ensures;
      entry = c.unwrap_or-entry.ensures
          ∙ ap (λ number. unwrap_or number 0) (c.get.ensures
          ∙ c.in_ok-numbers.ensures c.entry_key.result
          ∙ ap (λ funcs. numbered funcs c.entry_key.result) c.as_slice.ensures
          ∙ ap (numbered c.in_ok-funcs.funcs) c.entry_key.ensures);
      makers = c.in_ok-makers.ensures;
      words = λ id. ap (λ k. k.top id) known;
      members = λ shape word. ap (λ k. k.members shape word) known;
    }
