-- The first ill row of all that is said of a program is its first ill node.
use Rattle.std.proofs.Common.{◌≡◌, false, List, Option, Some, None, Contains}
use Rattle.std.proofs.Common.{subst}
use Rattle.std.proofs.lemmas.List.Elements.{All-contains}
use Rattle.std.specs.Ordering.{is_lt}
use Rattle.sw_list.proofs.Members.{none_in}
use Rattle.sw_tree.specs.declared.decl.Decl.{Decl}
use Rattle.sw_decl_words.specs.Placed.{IsFirstPlaced, placed_cmp}
use Rattle.sw_decl_words.specs.declared.placed.Placed.{Placed}
use Rattle.sw_typing_rules.proofs.Saying.{ill_is, is_ill}
use Rattle.sw_typing_rules.specs.Programs.{IsFirstIll, said}
use Rattle.sw_typing_rules.specs.Verdicts.{ills_in}
use Rattle.sw_typing_rules.specs.Worlds.{World}

module _ (world : World) (decls : List Decl) where
  pub is_first_ill : (first : Option Placed) → IsFirstPlaced (ills_in (said world decls)) first
      → IsFirstIll world decls first
  is_first_ill None none = λ at code ill. none_in (record { at = at; code = code })
      (subst (λ list. Contains list (record { at = at; code = code })) none
      (is_ill world decls at code ill))
  is_first_ill (Some one) (has, least) = (
    ill_is world decls one has,
    λ at code ill. All-contains (λ other. is_lt (placed_cmp other one) ≡ false)
        (ills_in (said world decls)) (record { at = at; code = code }) least
        (is_ill world decls at code ill),
  )
