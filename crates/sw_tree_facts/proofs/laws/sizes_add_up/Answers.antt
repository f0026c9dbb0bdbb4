use Rattle.std.proofs.Common.{refl}
use Rattle.std.proofs.lemmas.List.Sums.{sum_by-append}
use Rattle.sw_tree_facts.proofs.PlaceSizes.{places_have_no_size}
use Rattle.sw_tree_facts.proofs.laws.sizes_add_up.Goals as goal
use Rattle.sw_tree_facts.specs.Sizes.{decl_size, size_of}

pub returns-clause-places : goal.returns-clause-places
returns-clause-places c = places_have_no_size

pub returns-clause-appended : goal.returns-clause-appended
unfolding size_of
returns-clause-appended c before after = sum_by-append decl_size before after

pub returns-clause-none : goal.returns-clause-none
unfolding size_of
returns-clause-none c = refl
