-- How a written type is stored where it may be an optional.
use Rattle.std.specs.Prelude.{ℕ, List, Option, refl}
use Rattle.std.specs.Coded.{Coded, code_by, coded×, coded_list, coded_option, coded_ℕ}
use Rattle.sw_tree.specs.declared.type_tree.TypeTree.{TypeTree}
use Rattle.sw_grammar.specs.Types.{Typed}

-- a written type is stored as the pair of its tree and the word that is wanted
abbrev pub typed_code : Coded TypeTree → Coded Typed
typed_code tree =
    code_by (TypeTree × Option (List ℕ)) (coded× tree (coded_option (coded_list coded_ℕ)))
    (λ written. (written.tree, written.wanted)) (λ pair. record { tree = pair.0; wanted = pair.1 })
    (λ _. refl)
