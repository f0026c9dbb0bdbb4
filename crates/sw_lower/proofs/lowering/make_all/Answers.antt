use Rattle.std.proofs.Common.{All, Contains, subst, sym}
use Rattle.std.proofs.lemmas.List.{take_all}
use Rattle.std.proofs.lemmas.List.Elements.{Contains-get_or}
use Rattle.std.proofs.lemmas.Result.{err_from_is_err_and}
use Rattle.sw_lower.specs.Lowered.{AsksInVain, EndsWell, SomeAsks, function_by}
use Rattle.sw_lower.proofs.Lacking.{still_fails}
use Rattle.sw_lower.proofs.Programs.{all_so_far, functions_next, too_large_next}
use Rattle.sw_lower.proofs.lowering.make_all.Goals as goal

pub loop-tree-preserved : goal.loop-tree-preserved
loop-tree-preserved c = record {
  too_large = too_large_next (function_by c.args.known.now c.args.numbers.now) c.args.bodies.now
      c.loop-tree.tree-index c.tree-item.result c.loop-tree-test.true c.tree-item.is
      c.loop-tree.made.too_large c.add.new.made.too_large _ c.in_ok-add.ensures.too_large
      c.loop-tree.invariant.too_large;
  functions = functions_next (function_by c.args.known.now c.args.numbers.now) c.args.bodies.now
      c.loop-tree.tree-index c.tree-item.result c.loop-tree-test.true c.tree-item.is
      c.loop-tree.made.too_large c.add.new.made.too_large _ c.loop-tree.made.functions
      c.add.new.made.functions _ c.in_ok-add.ensures.too_large c.in_ok-add.ensures.functions
      c.loop-tree.invariant.functions;
  made = all_so_far (EndsWell c.args.known.now c.args.numbers.now) c.args.bodies.now
      c.loop-tree.tree-index c.tree-item.result c.loop-tree.made.too_large
      c.add.new.made.too_large _ c.loop-tree-test.true c.tree-item.is
      c.in_ok-add.ensures.too_large c.loop-tree.invariant.made c.in_ok-add.ensures.made;
}

pub returns-clause-made : goal.returns-clause-made
returns-clause-made c = λ none_large.
    subst (All (EndsWell c.args.known.now c.args.numbers.now))
    (take_all c.loop-tree.tree-index c.args.bodies.now c.loop-tree-test.false)
    (c.loop-tree.invariant.made none_large)

pub returns-in_err-add-clause-fault : goal.returns-in_err-add-clause-fault
returns-in_err-add-clause-fault c =
    let p = err_from_is_err_and c.from_residual.result c.from_residual.ensures.1 in
    let tree = c.tree-item.result in
    let among : Contains c.args.bodies.now tree =
    subst (Contains c.args.bodies.now) (sym c.tree-item.is)
    (Contains-get_or c.args.bodies.now c.loop-tree.tree-index tree c.loop-tree-test.true) in
    let follows : AsksInVain c.args.known.now c.args.numbers.now tree
    → SomeAsks c.args.known.now c.args.numbers.now c.args.bodies.now =
    λ asks. (tree, among, asks) in
    rw (p.1, p.2) (still_fails follows _ c.in_err-add.ensures.fault)
