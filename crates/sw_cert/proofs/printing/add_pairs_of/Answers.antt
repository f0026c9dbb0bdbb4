use Rattle.std.proofs.Common.{◌≡◌, ◌+◌, ◌<◌, ◌≤◌, ℕ, List, length, slice_index, sym, subst, ap}
use Rattle.std.proofs.Common.{arith}
use Rattle.std.specs.List.Sorted.{IsStrictlyIncreasing}
use Rattle.sw_cert.proofs.Gathered.{ArePairsTo, row_starts, row_has, row_lacks, row_ends}
use Rattle.sw_cert.proofs.printing.add_pairs_of.Goals.{then-has+in_ok-push, else-has}
use Rattle.sw_cert.proofs.printing.add_pairs_of.Goals as goal

pub loop-site-init : goal.loop-site-init
loop-site-init c = row_starts c.args.state.now c.args.element c.args.pairs.now c.requires.pairs

pub loop-site-preserved : goal.loop-site-preserved
loop-site-preserved c =
    let same = c.sites-site-items.ensures.value in
    let within : c.loop-site.site-index < length c.args.state.now.sites =
    subst (λ (s : List ℕ). c.loop-site.site-index < length s) same c.loop-site-test.true in
    let at : slice_index c.args.state.now.sites c.loop-site.site-index
    ≡ slice_index c.sites-site-items.result.now c.loop-site.site-index =
    ap (λ (s : List ℕ). slice_index s c.loop-site.site-index) (sym same) in
    let rising : IsStrictlyIncreasing c.args.state.now.sites =
    subst IsStrictlyIncreasing same c.sites-site-items.ensures.rising in
    elim c.if-has.branch [
      | then-has+in_ok-push w ↦ subst (ArePairsTo c.args.state.now c.args.element
          (c.loop-site.site-index + 1)) (sym w.pairs-is)
          (row_has c.args.state.now c.args.element c.loop-site.site-index _ c.loop-site.pairs _
          rising within at c.loop-site.invariant (c.has.ensures.0 w.if-has.true)
          w.in_ok-push.ensures.ok)
      | else-has w ↦ subst (ArePairsTo c.args.state.now c.args.element
          (c.loop-site.site-index + 1)) (sym w.pairs-is)
          (row_lacks c.args.state.now c.args.element c.loop-site.site-index _ c.loop-site.pairs at
          c.loop-site.invariant (λ has. absurd (cc (w.if-has.false, c.has.ensures.1 has))))
    ]

pub returns : goal.returns
returns c = row_ends c.args.state.now c.args.element c.loop-site.site-index c.loop-site.pairs
    (subst (λ (s : List ℕ). length s ≤ c.loop-site.site-index) c.sites-site-items.ensures.value
    (omega (arith, c.loop-site-test.false))) c.loop-site.invariant
