use Rattle.sw_lsp_places.proofs.Orders.{are_few, each_in, ends_rise}
use Rattle.sw_lsp_places.proofs.range.RangeTable.new.Goals as goal

pub invariant_of-result : goal.invariant_of-result
invariant_of-result c = (
  c.in_ok-places.ensures,
  ends_rise c.args.bytes.now c.in_ok-tokens.tokens.items c.in_ok-tokens.ensures,
  each_in c.args.bytes.now c.in_ok-tokens.tokens.items c.in_ok-tokens.ensures,
  are_few c.args.bytes.now c.in_ok-tokens.tokens.items c.in_ok-tokens.ensures,
)
