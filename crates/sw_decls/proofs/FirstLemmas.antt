-- The first of all breaches of a program.
use Rattle.std.proofs.Common.{◌≡◌, List, [], ◌∷◌, ◌++◌, Bool, Option, length, ap, subst, ◌∙◌}
use Rattle.std.proofs.Common.{refl, sym, arith}
use Rattle.sw_tree.specs.declared.decl.Decl.{Decl}
use Rattle.sw_types.specs.declared.shape.Shape.{Shape}
use Rattle.sw_decl_words.specs.Placed.{IsFirstPlaced}
use Rattle.sw_decl_words.specs.declared.placed.Placed.{Placed}
use Rattle.sw_decls.specs.Declaring.{IsFirstBreach, breaches_of_decls, breaches_of_shapes}
use Rattle.sw_decls.specs.Declaring.{made_shapes}
use Rattle.sw_decls.specs.Holders.{AreHolders, holders}
use Rattle.sw_decls.specs.Hollow.{hollowed}
use Rattle.sw_decls.specs.Wide.{wide}
use Rattle.sw_decls.proofs.HollowLemmas.{hollowed_same}

prefix_nil : (prefix suffix : List Placed) → prefix ++ suffix ≡ [] → prefix ≡ []
prefix_nil [] suffix none = refl
prefix_nil (one ∷ prefix) suffix none = absurd (let some = ap length none in omega arith)

suffix_nil : (prefix suffix : List Placed) → prefix ++ suffix ≡ [] → suffix ≡ []
suffix_nil [] suffix none = none
suffix_nil (one ∷ prefix) suffix none = absurd (let some = ap length none in omega arith)

module _ (decls : List Decl) (shapes : List Shape) (marks : List Bool) (before found : List Placed)
    (made : shapes ≡ made_shapes decls) (is : found ≡ before ++ breaches_of_shapes shapes marks)
  where
    -- the first of the breaches that were found is that of the program
    pub first_found : AreHolders shapes marks → before ≡ breaches_of_decls decls
        → (first : Option Placed) → IsFirstPlaced found first → IsFirstBreach decls first
    first_found are begins first one = (
      marks,
      (
        subst (λ s. AreHolders s marks) made are,
        subst (λ f. IsFirstPlaced f first)
            (is ∙ ap (λ b. b ++ breaches_of_shapes shapes marks) begins
            ∙ ap (λ s. breaches_of_decls decls ++ breaches_of_shapes s marks) made) one,
      ),
    )

    -- where none was found no shape is hollow
    pub shapes_found : found ≡ [] → hollowed marks shapes ≡ made_shapes decls
    shapes_found none =
        hollowed_same shapes marks (prefix_nil (holders shapes marks) (wide (hollowed marks shapes))
        (suffix_nil before (breaches_of_shapes shapes marks) (sym is ∙ none)))
        ∙ made
