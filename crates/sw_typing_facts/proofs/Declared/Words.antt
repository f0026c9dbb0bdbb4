-- The types that words of a program mean are declared, and so are written types.
use Rattle.std.proofs.Common.{ℕ, List, Option}
use Rattle.std.proofs.Common.{map, length, sym, subst}
use Rattle.sw_tree.specs.declared.decl.Decl.{Decl}
use Rattle.sw_tree.specs.declared.type_tree.TypeTree.{TypeTree}
use Rattle.sw_decl_words.specs.TypeWords.{type_of}
use Rattle.sw_decl_words.specs.Words.{top_meaning}
use Rattle.sw_decl_words.specs.declared.words.Meaning.{Meaning}
use Rattle.sw_decl_words.proofs.WithinLemmas.{InRange, length_shapes, top_in, written_within}
use Rattle.sw_decls.specs.Declaring.{made_shapes}
use Rattle.sw_typing_facts.proofs.Types.Within.{AreWithin, Within, all_map}

-- A word that means a shape has the number of one of the program's shapes.
pub top_in_range : (decls : List Decl) (id : ℕ)
    → InRange (length (made_shapes decls)) (top_meaning decls id)
top_in_range decls id =
    subst (λ n. InRange n (top_meaning decls id)) (sym (length_shapes _ 0 decls))
    (top_in decls id)

-- written types in a list
pub each_within : (known : ℕ → Option Meaning) (n : ℕ) → ((id : ℕ) → InRange n (known id))
    → (list : List TypeTree) → AreWithin n (map (type_of known) list)
each_within known n are = all_map (Within n) (type_of known) (written_within known n are)
