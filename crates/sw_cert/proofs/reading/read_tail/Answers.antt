use Rattle.std.proofs.Common.{List, ℕ, sym, subst}
use Rattle.std.proofs.lemmas.Result.{err_from_is_err_and}
use Rattle.sw_cert.proofs.Beginning.{bad_weaker}
use Rattle.sw_cert.proofs.Pairing.{classes_with, count_said, count_not_said}
use Rattle.sw_cert.specs.Begun.{IsNext, IsStuck}
use Rattle.sw_cert.specs.Pending.{MayBeCount, ArePairsRead}
use Rattle.sw_cert.specs.declared.line.Pair.{Pair}
use Rattle.sw_cert.proofs.reading.read_tail.Goals as goal

pub pair_count-most-requires : goal.pair_count-most-requires
pair_count-most-requires c =
    c.requires.form.fit.each c.args.head.function c.at.result.now c.at.ensures

pub returns-in_err-left-clause-bad : goal.returns-in_err-left-clause-bad
returns-in_err-left-clause-bad c =
    let read = classes_with c.args.form.now c.requires.form c.args.spot c.args.text.now
    c.args.head c.in_ok-classes.classes c.in_ok-classes.count_at c.at.result.now c.at.ensures
    c.in_ok-classes.ensures.classes in
    let slip = err_from_is_err_and c.from_residual-in_err-left.result
    c.from_residual-in_err-left.ensures.1 in
    rw (slip.1, slip.2)
    (bad_weaker _ _ _ (λ place stuck. count_not_said c.args.form.now c.requires.form c.args.spot
    c.args.text.now c.args.head c.in_ok-classes.classes c.in_ok-classes.count_at read place
    (subst (λ m. IsStuck (MayBeCount m) c.args.text.now c.in_ok-classes.count_at place)
    c.pair_count-most.ensures stuck)) c.in_err-left.ensures.bad)

pub read_pairs-requires-clause-read : goal.read_pairs-requires-clause-read
read_pairs-requires-clause-read c =
    let read = classes_with c.args.form.now c.requires.form c.args.spot c.args.text.now
    c.args.head c.in_ok-classes.classes c.in_ok-classes.count_at c.at.result.now c.at.ensures
    c.in_ok-classes.ensures.classes in
    subst (λ (classes : List ℕ). ArePairsRead c.args.form.now.extents c.args.spot
    c.args.text.now (record {
      function = c.args.head.function;
      block = c.args.head.block;
      classes = classes;
      pairs = c.new-2.result;
    }) (record { at = c.in_ok-left.at; to = 0; left = c.in_ok-left.left }))
    (sym c.in_ok-shared.ensures)
    (subst (λ (pairs : List Pair). ArePairsRead c.args.form.now.extents c.args.spot
    c.args.text.now (record {
      function = c.args.head.function;
      block = c.args.head.block;
      classes = c.in_ok-classes.classes;
      pairs = pairs;
    }) (record { at = c.in_ok-left.at; to = 0; left = c.in_ok-left.left })) (sym c.new-2.ensures)
    (count_said c.args.form.now c.requires.form c.args.spot c.args.text.now c.args.head
    c.in_ok-classes.classes c.in_ok-classes.count_at read c.in_ok-left.left c.in_ok-left.at
    (subst (λ m. IsNext (MayBeCount m) c.args.text.now c.in_ok-classes.count_at c.in_ok-left.left
    c.in_ok-left.at) c.pair_count-most.ensures c.in_ok-left.ensures.count)))
