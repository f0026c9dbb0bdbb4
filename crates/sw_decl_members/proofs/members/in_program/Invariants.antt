use Rattle.std.proofs.Common.{◌≡◌, ◌++◌, map, take, nat_eq}
use Rattle.std.specs.List.{flat_map}
use Rattle.indexmap.specs.IndexMap.{get}
use Rattle.sw_decl_members.specs.Members.{entry_place, in_decl}
use Rattle.sw_decl_words.specs.Words.{word_of}
use Rattle.sw_decl_members.proofs.members.in_program.Given as goal

abbrev pub invariant-loop-decl : goal.invariant-loop-decl
invariant-loop-decl l = (l.names ≡ map word_of (take l.decl-index l.decls))
    × (l.entries ≡ flat_map entry_place (take l.decl-index l.decls))
    × (l.found ≡ l.fn.found
    ++ flat_map (in_decl (get nat_eq l.words.meanings)) (take l.decl-index l.decls))
