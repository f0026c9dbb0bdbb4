use Rattle.std.proofs.Common.{◌+◌, [], ◌∷◌, refl}
use Rattle.std.proofs.lemmas.Result.{IfOk-weaker, IfErr-weaker}
use Rattle.sw_dictation.specs.Numbers.{IsOffered}
use Rattle.sw_cert.proofs.Beginning.{bad_weaker, next_same, stuck_same}
use Rattle.sw_cert.proofs.Pairing.{counts_offered}
use Rattle.sw_cert.proofs.Slices.{next_just}
use Rattle.sw_cert.specs.Pending.{MayBeCount}
use Rattle.sw_cert.proofs.pairs.read_count.Goals as goal

pub returns-then-is_count-clause-count : goal.returns-then-is_count-clause-count
returns-then-is_count-clause-count c =
    next_just (MayBeCount c.args.most) c.args.text.now c.args.at c.in-Some.count c.in-Some.closer
    c.in-Some.end c.in-Some.ensures (c.is_count.ensures.0 c.if-is_count.true)

pub returns-clause-count : goal.returns-clause-count
returns-clause-count c = IfOk-weaker c.next.result _ _
    (λ said. next_same (IsOffered (0 ∷ []) c.range.result.now) (MayBeCount c.args.most)
    c.args.text.now c.args.at said.0 said.1
    (λ n closer. (counts_offered c.args.most c.range.result.now (c.args.most + 1) refl
    c.range.ensures n closer).0)) c.next.ensures.said

pub returns-clause-bad : goal.returns-clause-bad
returns-clause-bad c = IfErr-weaker c.next.result _ _
    (λ slip. bad_weaker _ _ slip (λ place. stuck_same (IsOffered (0 ∷ []) c.range.result.now)
    (MayBeCount c.args.most) c.args.text.now c.args.at place
    (counts_offered c.args.most c.range.result.now (c.args.most + 1) refl c.range.ensures)))
    c.next.ensures.bad
