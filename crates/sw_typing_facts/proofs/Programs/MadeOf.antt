-- What is made of a declaration is made of its program.
use Rattle.std.proofs.Common.{◌≡◌, ℕ, ◌+◌, Option, Some, List, [], ◌∷◌, ◌++◌, Contains}
use Rattle.std.proofs.Common.{refl, ap, sym, ◌∙◌, subst, arith}
use Rattle.std.proofs.lemmas.List.Elements.{All-append, All-nil}
use Rattle.std.specs.Prelude.{slice_get, All}
use Rattle.sw_tree.specs.declared.decl.Decl.{Decl}
use Rattle.sw_types.specs.declared.shape.Shape.{Shape}
use Rattle.sw_decl_words.proofs.WithinLemmas.{one_shape, shapes_counted}
use Rattle.sw_decl_words.specs.Evident.{Meanings}
use Rattle.sw_decl_words.specs.Members.{members_from, members_of}
use Rattle.sw_decl_words.specs.Shaped.{shape_of, shapes_from}
use Rattle.sw_decl_words.specs.declared.members.Owned.{Owned}
use Rattle.sw_decl_words.specs.Words.{shapes_made}
use Rattle.sw_decl_words.specs.declared.words.Meaning.{Meaning}
use Rattle.sw_decls.specs.Signatures.{funcs_from, funcs_of}
use Rattle.sw_decls.specs.declared.signature.AsyncDefault.{AsyncDefault}
use Rattle.sw_decls.specs.declared.signature.Signature.{Signature}
use Rattle.sw_typing_rules.specs.Programs.{BodyOf, bodies_of}
use Rattle.sw_typing_rules.specs.Programs as typing
use Rattle.sw_typing_rules.specs.Worlds.{World}
use Rattle.sw_decl_words.specs.Words.{globals_made}
use Rattle.sw_typing_facts.proofs.Lists.Listed.{some_at}
use Rattle.sw_typing_facts.proofs.Programs.Standing.{MadeBy, Stands, at_place, made_by_one, made_from}
use Rattle.sw_typing_facts.proofs.Programs.Standing.{maker_of}

-- what functions a program declares is made of its declarations
pub funcs_are : (known : ℕ → Option Meaning) (rule : AsyncDefault) (number index : ℕ)
    (decls : List Decl)
    → funcs_from known rule number decls
    ≡ made_from (λ n g decl. funcs_of known rule n decl) number index decls
funcs_are known rule number index [] = refl
funcs_are known rule number index (decl ∷ decls) =
    ap (λ more. funcs_of known rule number decl ++ more)
    (funcs_are known rule (number + shapes_made decl) (index + globals_made decl) decls)

-- a function of a declaration is one of the program
pub func_stands : (known : ℕ → Option Meaning) (rule : AsyncDefault) (decls : List Decl) (n g : ℕ)
    (decl : Decl) (func : Signature) → Stands decls n g decl
    → Contains (funcs_of known rule n decl) func → Contains (funcs_from known rule 0 decls) func
func_stands known rule decls n g decl func stands has =
    subst (λ funcs. Contains funcs func) (sym (funcs_are known rule 0 0 decls))
    (made_by_one (λ n g decl. funcs_of known rule n decl) 0 0 decls n g decl func stands has)

-- and so are the bodies that have types
typed_are : (world : World) (number index : ℕ) (decls : List Decl)
    → typing.bodies_from world number decls
    ≡ made_from (λ n g decl. bodies_of world n decl) number index decls
typed_are world number index [] = refl
typed_are world number index (decl ∷ decls) =
    ap (λ more. bodies_of world number decl ++ more)
    (typed_are world (number + shapes_made decl) (index + globals_made decl) decls)

-- a typed body of a declaration is one of the program
pub typed_stands : (world : World) (decls : List Decl) (n g : ℕ) (decl : Decl) (body : BodyOf)
    → Stands decls n g decl → Contains (bodies_of world n decl) body
    → Contains (typing.bodies_from world 0 decls) body
typed_stands world decls n g decl body stands has =
    subst (λ bodies. Contains bodies body) (sym (typed_are world 0 0 decls))
    (made_by_one (λ n g decl. bodies_of world n decl) 0 0 decls n g decl body stands has)

-- and the members
members_are : (number index : ℕ) (decls : List Decl)
    → members_from number decls ≡ made_from (λ n g decl. members_of n decl) number index decls
members_are number index [] = refl
members_are number index (decl ∷ decls) =
    ap (λ more. members_of number decl ++ more)
    (members_are (number + shapes_made decl) (index + globals_made decl) decls)

-- the declaration that makes a member
pub member_made : (decls : List Decl) (owned : Owned) → Contains (members_from 0 decls) owned
    → MadeBy (λ n g decl. members_of n decl) 0 0 decls owned
member_made decls owned has =
    maker_of (λ n g decl. members_of n decl) 0 0 decls owned
    (subst (λ members. Contains members owned) (members_are 0 0 decls) has)

-- and the shapes
pub shapes_are : (known : Meanings) (number index : ℕ) (decls : List Decl)
    → shapes_from known number decls
    ≡ made_from (λ n g decl. shape_of known n decl) number index decls
shapes_are known number index [] = refl
shapes_are known number index (decl ∷ decls) =
    ap (λ more. shape_of known number decl ++ more)
    (shapes_are known (number + shapes_made decl) (index + globals_made decl) decls)

-- what holds of the shapes of each declaration
pub each_shape : (P : Shape → Type 0) (known : Meanings)
    → ((number : ℕ) (decl : Decl) → All P (shape_of known number decl)) → (number : ℕ)
    (decls : List Decl) → All P (shapes_from known number decls)
each_shape P known each number [] = All-nil P
each_shape P known each number (decl ∷ decls) =
    All-append P (shape_of known number decl)
    (shapes_from known (number + shapes_made decl) decls) (each number decl)
    (each_shape P known each (number + shapes_made decl) decls)

-- The shape of a declaration has the number of shapes before it.
pub shape_stands : (known : Meanings) (decls : List Decl) (n g : ℕ) (decl : Decl)
    → Stands decls n g decl → shapes_made decl ≡ 1
    → (shape : Shape) × (slice_get (shapes_from known 0 decls) n ≡ Some shape)
shape_stands known decls n g decl stands makes =
    let (shape, first) = some_at (shape_of known n decl) 0
    (omega (arith, shapes_counted known n decl, makes)) in (
      shape,
      ap (λ shapes. slice_get shapes n) (shapes_are known 0 0 decls)
          ∙ at_place (λ n g decl. shape_of known n decl) (λ n g. n) shapes_made (λ n g decl. refl)
          (λ n g decl. shapes_counted known n decl) one_shape 0 0 decls n g decl shape n stands
          first (omega arith),
    )
