use Rattle.std.proofs.Common.{◌∙◌, ◌++◌, ◌∷◌, [], ap, length}
use Rattle.std.proofs.lemmas.Result.{err_from_is_err_and}
use Rattle.sw_tree_arena.proofs.Growing.{laid, not_laid}
use Rattle.sw_tree_arena.proofs.arena.Arena.put.Goals as goal

pub returns-in_err-push : goal.returns-in_err-push
returns-in_err-push c =
    let p = err_from_is_err_and c.from_residual.result c.from_residual.ensures.1 in
    λ shapes. not_laid shapes c.args.self.now c.push.new.self c.from_residual.result p.0 _
    (c.in_err-push.ensures.err ∙ c.self.view_is) p.1

pub returns : goal.returns
returns c = λ shapes. laid shapes c.args.self.now c.push.new.self c.args.node c.len-number.result
    (c.in_ok-push.ensures.ok ∙ ap (λ nodes. nodes ++ c.args.node ∷ []) c.self.view_is)
    (c.len-number.ensures ∙ ap length c.self.view_is)
