use Rattle.std.proofs.Common.{◌≡◌, take}
use Rattle.std.specs.List.{flat_map}
use Rattle.sw_decl_words.specs.Evident.{tabled}
use Rattle.sw_decls.specs.Signatures.{global_of}
use Rattle.sw_decls.proofs.signature.globals_of.Given as goal

abbrev pub invariant-loop-decl : goal.invariant-loop-decl
invariant-loop-decl l =
    l.made ≡ flat_map (global_of (tabled l.words l.members)) (take l.decl-index l.decls)
