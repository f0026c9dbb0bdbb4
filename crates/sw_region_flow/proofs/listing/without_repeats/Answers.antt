use Rattle.std.proofs.Common.{rules}
use Rattle.std.proofs.lemmas.Fn.{dedup_same}
use Rattle.sw_region_flow.specs.Listing.{is_alike}
use Rattle.sw_region_flow.proofs.listing.without_repeats.Goals as goal

pub returns : goal.returns
returns c = dedup_same _ is_alike _ (λ x y b f' x' y' k. search rules) _ _
    c.dedup_by.ensures.filtered
