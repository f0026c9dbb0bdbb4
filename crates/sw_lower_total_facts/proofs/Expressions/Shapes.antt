-- In what a program declares, the types that words mean and those that have methods are there, and
-- enums store nothing.
use Rattle.std.proofs.Common.{◌≡◌, ℕ, false, List, [], Some, refl, subst, sym, ap, ◌∙◌}
use Rattle.std.proofs.lemmas.List.Elements.{All-cons, All-nil}
use Rattle.std.proofs.lemmas.Option.{none-some}
use Rattle.std.specs.Prelude.{All, slice_get}
use Rattle.sw_tree.specs.declared.decl.Decl.{Decl}
use Rattle.sw_tree.specs.declared.decl.Decl.TheVariants.{Entry, Struct, Enum, Class, Actor}
use Rattle.sw_tree.specs.declared.decl.Decl.TheVariants.{GlobalActor, Func, Global}
use Rattle.sw_types.specs.declared.shape.Part.{Part}
use Rattle.sw_types.specs.declared.shape.Shape.{Shape}
use Rattle.sw_graph.specs.Kinds.{is_enum}
use Rattle.sw_list.proofs.ListLemmas.{at_index}
use Rattle.sw_decl_words.specs.Evident.{Meanings, meanings_of}
use Rattle.sw_decl_words.specs.Shaped.{shape_of, shapes_from}
use Rattle.sw_decls.specs.declared.signature.AsyncDefault.{AsyncDefault}
use Rattle.sw_typing_rules.specs.Worlds.{IsWorldOf, World}
use Rattle.sw_lower_formed_facts.proofs.Headers.Methods.{method_shape}
use Rattle.sw_typing_facts.proofs.Programs.MadeOf.{shape_stands, each_shape}
use Rattle.sw_typing_facts.proofs.Programs.MemberTrees.{method_place}
use Rattle.sw_typing_facts.proofs.Programs.WordKinds.{word_shape}
use Rattle.sw_lower_total_facts.proofs.Expressions.Senses.{ShapesStand}

-- a shape that is no enum, where it stores something
abbrev NoEnum : Shape → Type 0
NoEnum shape = (i : ℕ) (part : Part) → slice_get shape.parts i ≡ Some part
    → is_enum shape.kind ≡ false

declared_parts : (known : Meanings) (number : ℕ) (decl : Decl)
    → All NoEnum (shape_of known number decl)
unfolding shape_of
declared_parts known number (Entry word written at is_async body) = All-nil NoEnum
declared_parts known number (Struct word conforms fields funcs) =
    All-cons NoEnum _ [] (λ i part is. refl) (All-nil NoEnum)
declared_parts known number (Enum word conforms cases funcs) =
    All-cons NoEnum _ [] (λ i part is. absurd (none-some part is)) (All-nil NoEnum)
declared_parts known number (Class written word conforms props inits funcs) =
    All-cons NoEnum _ [] (λ i part is. refl) (All-nil NoEnum)
declared_parts known number (Actor word props inits funcs) =
    All-cons NoEnum _ [] (λ i part is. refl) (All-nil NoEnum)
declared_parts known number (GlobalActor word made) = All-nil NoEnum
declared_parts known number (Func func) = All-nil NoEnum
declared_parts known number (Global global) = All-nil NoEnum

pub shapes_stand : (decls : List Decl) (rule : AsyncDefault) (world : World)
    → IsWorldOf decls rule world → ShapesStand world
shapes_stand decls rule world is = record {
  words = λ id k kind top_is.
      let (shape, there, kind_is) = word_shape decls rule world is id k kind top_is in
      (shape, there);
  methods = λ k id member found role_is.
      let place = method_place decls k id member (sym (is.members k id) ∙ found) role_is in
      let shape = shape_stands (meanings_of decls) decls place.n place.g place.decl place.stands
      (method_shape place.decl place.tree place.has) in (
        shape.0,
        ap (λ shapes. slice_get shapes k) is.shapes
            ∙ ap (slice_get (shapes_from (meanings_of decls) 0 decls)) (sym place.there) ∙ shape.1,
      );
  parts = λ k i shape part at part_is.
      at_index NoEnum world.shapes k shape
      (subst (All NoEnum) (sym is.shapes) (each_shape NoEnum (meanings_of decls)
      (declared_parts (meanings_of decls)) 0 decls)) at i part
      part_is;
}
