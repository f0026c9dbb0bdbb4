use Rattle.std.proofs.Common.{◌≡◌, take}
use Rattle.sw_typing_words.proofs.types.+copies.Given as goal

abbrev pub invariant-copies_of-loop-ty : goal.invariant-copies_of-loop-ty
invariant-copies_of-loop-ty l = l.made ≡ take l.ty-index l.types
