use Rattle.std.proofs.Common.{◌≡◌, ◌++◌, map, take}
use Rattle.sw_tree.specs.declared.decl.InitTree.{InitTree}
use Rattle.sw_decl_words.specs.declared.placed.Placed.{Placed}
use Rattle.sw_decl_members.proofs.members.later_inits.Given as goal

abbrev placed : InitTree → Placed
placed init = record { at = init.at; code = 301 }

abbrev pub invariant-loop-init : goal.invariant-loop-init
invariant-loop-init l = l.found ≡ l.fn.found ++ map placed (take l.init-index l.later)
