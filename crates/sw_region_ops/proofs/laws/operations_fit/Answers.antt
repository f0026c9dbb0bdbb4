use Rattle.sw_region_ops.proofs.RangeLemmas.{block_fits}
use Rattle.sw_region_ops.proofs.laws.operations_fit.Goals as goal

pub returns : goal.returns
returns c = block_fits
