use Rattle.std.proofs.Common.{◌≤◌, length, true, arith, sym, rules}
use Rattle.sw_token.proofs.ClassLemmas.{literal_head-within}
use Rattle.sw_token.proofs.kinds.kind_of.Goals as goal
use Rattle.sw_token.proofs.kinds.kind_of.Goals.{In-Some}

pub slice_bounds-number_in-count : goal.slice_bounds-number_in-count
slice_bounds-number_in-count c =
    omega (
      arith,
      literal_head-within true c.args.text.now c.in-Some.form (sym c.in-Some.ensures),
      c.head_len.ensures,
    )

pub slice_bounds-number_in-start : goal.slice_bounds-number_in-start
slice_bounds-number_in-start c =
    let within : c.head_len.result ≤ length c.args.text.now =
    omega (
      arith,
      literal_head-within true c.args.text.now c.in-Some.form (sym c.in-Some.ensures),
      c.head_len.ensures,
    ) in
    search rules
