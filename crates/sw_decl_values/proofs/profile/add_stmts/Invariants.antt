use Rattle.std.proofs.Common.{◌≡◌, ◌++◌, take, nat_eq}
use Rattle.std.specs.List.{flat_map}
use Rattle.indexmap.specs.IndexMap.{get}
use Rattle.sw_decl_words.specs.Evident.{tabled}
use Rattle.sw_decl_values.specs.Profile.{in_stmt}
use Rattle.sw_decl_values.proofs.profile.add_stmts.Given as goal

abbrev pub invariant-loop-stmt : goal.invariant-loop-stmt
invariant-loop-stmt l = l.found ≡ l.fn.found
    ++ flat_map (in_stmt (tabled l.words l.members) l.shape (get nat_eq l.params.places)
    (get nat_eq l.wanted.places) (get nat_eq l.given.times)) (take l.stmt-index l.stmts)
