-- Only enums have cases.
use Rattle.std.proofs.Common.{◌≡◌, ℕ, true, List, [], ◌∷◌, Some, None, refl, subst, sym, ap, ◌∙◌}
use Rattle.std.proofs.lemmas.List.Elements.{All-cons, All-nil}
use Rattle.std.specs.Prelude.{All, slice_get}
use Rattle.sw_tree.specs.declared.decl.Decl.{Decl}
use Rattle.sw_tree.specs.declared.decl.Decl.TheVariants.{Entry, Struct, Enum, Class, Actor}
use Rattle.sw_tree.specs.declared.decl.Decl.TheVariants.{GlobalActor, Func, Global}
use Rattle.sw_types.specs.declared.shape.CaseShape.{CaseShape}
use Rattle.sw_types.specs.declared.shape.Shape.{Shape}
use Rattle.sw_graph.specs.Kinds.{is_enum}
use Rattle.sw_list.proofs.ListLemmas.{at_index}
use Rattle.sw_decl_words.specs.Evident.{Meanings, meanings_of}
use Rattle.sw_decl_words.specs.Shaped.{shape_of}
use Rattle.sw_decls.specs.declared.signature.AsyncDefault.{AsyncDefault}
use Rattle.sw_typing_rules.specs.Worlds.{IsWorldOf, World}
use Rattle.sw_typing_facts.proofs.Programs.MadeOf.{each_shape}

-- Each of the shapes that has cases is an enum.
abbrev pub OnlyEnums : List Shape → Type 0
OnlyEnums shapes = (k i : ℕ) (shape : Shape) (one : CaseShape) → slice_get shapes k ≡ Some shape
    → slice_get shape.cases i ≡ Some one → is_enum shape.kind ≡ true

-- a shape with cases is an enum
abbrev CasesOfEnum : Shape → Type 0
CasesOfEnum shape = (i : ℕ) (one : CaseShape) → slice_get shape.cases i ≡ Some one
    → is_enum shape.kind ≡ true

-- a shape without cases
without : (shape : Shape) → shape.cases ≡ [] → All CasesOfEnum (shape ∷ [])
without shape empty = All-cons CasesOfEnum shape []
    (λ i one is. absurd (no one (sym (ap (λ cases. slice_get cases i) empty) ∙ is)))
    (All-nil CasesOfEnum) where
      no : (one : CaseShape) → None ≡ Some one → ⊥
      no one is = cc

-- what a declaration makes
declared_enums : (known : Meanings) (number : ℕ) (decl : Decl)
    → All CasesOfEnum (shape_of known number decl)
unfolding shape_of
declared_enums known number (Entry word written at is_async body) = All-nil CasesOfEnum
declared_enums known number (Struct word conforms fields funcs) = without _ refl
declared_enums known number (Enum word conforms cases funcs) =
    All-cons CasesOfEnum _ [] (λ i one is. refl) (All-nil CasesOfEnum)
declared_enums known number (Class written word conforms props inits funcs) = without _ refl
declared_enums known number (Actor word props inits funcs) = without _ refl
declared_enums known number (GlobalActor word made) = All-nil CasesOfEnum
declared_enums known number (Func func) = All-nil CasesOfEnum
declared_enums known number (Global global) = All-nil CasesOfEnum

-- In what a program declares, only enums have cases.
pub only_enums : (decls : List Decl) (rule : AsyncDefault) (world : World)
    → IsWorldOf decls rule world → OnlyEnums world.shapes
only_enums decls rule world is k i shape one at case_is =
    at_index CasesOfEnum world.shapes k shape
    (subst (All CasesOfEnum) (sym is.shapes) (each_shape CasesOfEnum (meanings_of decls)
    (declared_enums (meanings_of decls)) 0 decls)) at i one
    case_is
