-- Words that mean types say of which kind the types are.
use Rattle.std.proofs.Common.{◌≡◌, ℕ, ◌+◌, ◌==◌, List, [], ◌∷◌, ◌++◌, Option, Some, None, sym, ap}
use Rattle.std.proofs.Common.{◌∙◌, Bool, true, false, arith, refl}
use Rattle.std.specs.Prelude.{if◌then◌else◌, slice_get}
use Rattle.std.proofs.lemmas.Option.{none-some, same_Some}
use Rattle.sw_tree.specs.declared.decl.Decl.{Decl}
use Rattle.sw_tree.specs.declared.decl.Decl.TheVariants.{Entry, Struct, Enum, Class, Actor}
use Rattle.sw_tree.specs.declared.decl.Decl.TheVariants.{GlobalActor, Func, Global}
use Rattle.sw_types.specs.declared.shape.Shape.{Shape}
use Rattle.sw_types.specs.declared.shape.ShapeKind.{ShapeKind}
use Rattle.sw_types.specs.declared.shape.ShapeKind.TheVariants as kinds
use Rattle.sw_list.proofs.ListLemmas.{slice_get_after}
use Rattle.sw_decl_words.proofs.WithinLemmas.{shapes_counted}
use Rattle.sw_decl_words.specs.Evident.{Meanings, meanings_of}
use Rattle.sw_decl_words.specs.Shaped.{shape_of, shapes_from}
use Rattle.sw_decl_words.specs.Words.{actors_made, declares, given_meaning, globals_made, meaning_at}
use Rattle.sw_decl_words.specs.Words.{meaning_from, or_else, shapes_made, word_of}
use Rattle.sw_decl_words.specs.declared.words.Meaning.{Meaning}
use Rattle.sw_decl_words.specs.declared.words.Meaning.TheVariants as means
use Rattle.sw_decls.specs.declared.signature.AsyncDefault.{AsyncDefault}
use Rattle.sw_typing_rules.specs.Worlds.{IsWorldOf, World}

-- A word that means a type says of which kind the type is.
abbrev pub WordKinds : World → Type 0
WordKinds world = (id k : ℕ) (kind : ShapeKind) (shape : Shape)
    → world.known.top id ≡ Some (means.Shape kind k) → slice_get world.shapes k ≡ Some shape
    → shape.kind ≡ kind

-- Among shapes that are numbered from here, the one with a number is there, and is of a kind.
record HasKind (shapes : List Shape) (from k : ℕ) (kind : ShapeKind) : Type 0 where
  place : ℕ
  number : k ≡ from + place
  shape : Shape
  at : slice_get shapes place ≡ Some shape
  is : shape.kind ≡ kind

-- the number and the kind that a meaning names
of_shape : Meaning → ℕ
of_shape (means.Shape kind k) = k
of_shape _ = 0

of_kind : Meaning → ShapeKind
of_kind (means.Shape kind k) = kind
of_kind _ = kinds.Struct

-- the first of these is of the kind that its meaning names
first_kind : (shape : Shape) (rest : List Shape) (from k : ℕ) (kind made : ShapeKind)
    → Some (means.Shape made from) ≡ Some (means.Shape kind k) → shape.kind ≡ made
    → HasKind (shape ∷ rest) from k kind
unfolding of_shape of_kind
first_kind shape rest from k kind made is first =
    let same = same_Some (means.Shape made from) (means.Shape kind k) is in
    record {
      place = 0;
      number = omega (arith, ap of_shape same);
      shape = shape;
      at = refl;
      is = first ∙ ap of_kind same;
    }

module _ (known : Meanings) where
  -- the type that a declaration declares
  declared_kind : (decl : Decl) (rest : List Shape) (number actors globals k : ℕ)
      (kind : ShapeKind) → Some (meaning_at decl number actors globals) ≡ Some (means.Shape kind k)
      → HasKind (shape_of known number decl ++ rest) number k kind
  unfolding shape_of
  declared_kind (Entry word written at is_async body) rest number actors globals k kind is = cc
  declared_kind (Struct word conforms fields funcs) rest number actors globals k kind is =
      first_kind _ rest number k kind kinds.Struct is refl
  declared_kind (Enum word conforms cases funcs) rest number actors globals k kind is =
      first_kind _ rest number k kind kinds.Enum is refl
  declared_kind (Class written word conforms props inits funcs) rest number actors globals k kind
      is =
      first_kind _ rest number k kind kinds.Class is refl
  declared_kind (Actor word props inits funcs) rest number actors globals k kind is =
      first_kind _ rest number k kind kinds.Actor is refl
  declared_kind (GlobalActor word made) rest number actors globals k kind is = cc
  declared_kind (Func func) rest number actors globals k kind is = cc
  declared_kind (Global global) rest number actors globals k kind is = cc

  -- The shapes of a declaration stand before those of the next ones.
  later_kind : (decl : Decl) (rest : List Shape) (number k : ℕ) (kind : ShapeKind)
      → HasKind rest (number + shapes_made decl) k kind
      → HasKind (shape_of known number decl ++ rest) number k kind
  later_kind decl rest number k kind later = record {
    place = shapes_made decl + later.place;
    number = omega (arith, later.number);
    shape = later.shape;
    at = ap (λ n. slice_get (shape_of known number decl ++ rest) (n + later.place))
        (sym (shapes_counted known number decl))
        ∙ slice_get_after (shape_of known number decl) rest later.place
        ∙ later.at;
    is = later.is;
  }

  -- the types of declarations
  from_kind : (decls : List Decl) (number actors globals id k : ℕ) (kind : ShapeKind)
      → meaning_from decls number actors globals id ≡ Some (means.Shape kind k)
      → HasKind (shapes_from known number decls) number k kind
  from_kind [] number actors globals id k kind = λ is. absurd (none-some (means.Shape kind k) is)
  from_kind (decl ∷ decls) number actors globals id k kind =
      by (declares (word_of decl).id id)
      (from_kind decls (number + shapes_made decl) (actors + actors_made decl)
      (globals + globals_made decl) id k kind) where
        rest : List Shape
        rest = shapes_from known (number + shapes_made decl) decls

        later : Option Meaning
        later = meaning_from decls (number + shapes_made decl) (actors + actors_made decl)
            (globals + globals_made decl) id

        by : (here : Bool)
            → (later ≡ Some (means.Shape kind k) → HasKind rest (number + shapes_made decl) k kind)
            → or_else (if here then Some (meaning_at decl number actors globals) else None) later
            ≡ Some (means.Shape kind k)
            → HasKind (shape_of known number decl ++ rest) number k kind
        by true after is = declared_kind decl rest number actors globals k kind is
        by false after is = later_kind decl rest number k kind (after is)

-- no type is given before a program declares any
not_given : (id k : ℕ) (kind : ShapeKind) (later : Option Meaning)
    → or_else (given_meaning id) later ≡ Some (means.Shape kind k)
    → later ≡ Some (means.Shape kind k)
not_given id k kind later = by (6 == id) where
  by : (given : Bool)
      → or_else (if given then Some (means.GlobalActor 0) else None) later
      ≡ Some (means.Shape kind k) → later ≡ Some (means.Shape kind k)
  by true is = cc
  by false is = is

-- In what a program declares, the type that a word means is there, and of the kind that it means.
pub word_shape : (decls : List Decl) (rule : AsyncDefault) (world : World)
    → IsWorldOf decls rule world → (id k : ℕ) (kind : ShapeKind)
    → world.known.top id ≡ Some (means.Shape kind k)
    → (shape : Shape) × (slice_get world.shapes k ≡ Some shape) × (shape.kind ≡ kind)
word_shape decls rule world is id k kind top_is =
    let found = from_kind (meanings_of decls) decls 0 1 0 id k kind
    (not_given id k kind (meaning_from decls 0 1 0 id) (sym (is.words id) ∙ top_is)) in
    let same : k ≡ found.place = omega (arith, found.number) in (
      found.shape,
      ap (λ shapes. slice_get shapes k) is.shapes
          ∙ ap (slice_get (shapes_from (meanings_of decls) 0 decls)) same ∙ found.at,
      found.is,
    )

-- In what a program declares, words that mean types say of which kind the types are.
pub word_kinds : (decls : List Decl) (rule : AsyncDefault) (world : World)
    → IsWorldOf decls rule world → WordKinds world
word_kinds decls rule world is id k kind shape top_is at =
    let (one, there, kind_is) = word_shape decls rule world is id k kind top_is in
    ap (λ (s : Shape). s.kind) (same_Some shape one (sym at ∙ there)) ∙ kind_is
