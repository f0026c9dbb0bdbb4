use Rattle.std.proofs.Common.{◌+◌, take, sym, subst, arith}
use Rattle.std.proofs.lemmas.List.{take_all}
use Rattle.sw_cert.proofs.Naming.{no_roots, first_root, first_same}
use Rattle.sw_cert.specs.Begun.{AreRoots}
use Rattle.sw_cert.proofs.classes.roots_of.Goals.{then-classes-element+in_ok-push, else-classes-element}
use Rattle.sw_cert.proofs.classes.roots_of.Goals as goal

pub loop-element-init : goal.loop-element-init
loop-element-init c = subst (AreRoots (take 0 c.args.classes.now)) (sym c.new-roots.ensures) no_roots

pub loop-element-preserved : goal.loop-element-preserved
loop-element-preserved c = elim c.if-classes-element.branch [
  | then-classes-element+in_ok-push w ↦ subst
      (AreRoots (take (c.loop-element.element + 1) c.args.classes.now)) (sym w.roots-is)
      (first_root c.args.classes.now c.loop-element.roots c.loop-element.element
      c.loop-element-test.true c.loop-element.invariant _ w.if-classes-element.true
      w.in_ok-push.ensures.ok)
  | else-classes-element w ↦ subst
      (AreRoots (take (c.loop-element.element + 1) c.args.classes.now)) (sym w.roots-is)
      (first_same c.args.classes.now c.loop-element.roots c.loop-element.element
      c.loop-element-test.true c.loop-element.invariant w.if-classes-element.false)
]

pub returns : goal.returns
returns c = subst (λ l. AreRoots l c.loop-element.roots)
    (take_all c.loop-element.element c.args.classes.now (omega (arith, c.loop-element-test.false)))
    c.loop-element.invariant
