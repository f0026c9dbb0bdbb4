use Rattle.std.proofs.Common.{refl, sym, ◌∙◌, [], ◌∷◌}
use Rattle.sw_grammar.specs.Decls.{enum_case}
use Rattle.sw_parse_parts.specs.Around.{known}
use Rattle.sw_parse_decl.proofs.CommaLoops.{one_more, part_shrinks}
use Rattle.sw_parse_decl.proofs.members.more_cases.Goals as goal

pub loop-alloc-smaller : goal.loop-alloc-smaller
loop-alloc-smaller c =
    part_shrinks (known c.args.around.now) c.args.depth (enum_case (known c.args.around.now)) refl _
    _ _
    c.loop-alloc.cases.items _ _ c.in_ok-expect.ensures c.in_ok-enum_case.ensures

pub loop-alloc-preserved : goal.loop-alloc-preserved
loop-alloc-preserved c =
    rw c.in_ok-push-2.ensures.items
    (one_more (known c.args.around.now) c.args.depth (enum_case (known c.args.around.now)) refl
    (c.args.first ∷ []) c.args.tokens.now _ _ _ c.loop-alloc.cases.items _ _
    (sym c.sees.ensures ∙ c.loop-alloc-test.true) c.loop-alloc.invariant c.in_ok-expect.ensures
    c.in_ok-enum_case.ensures)
