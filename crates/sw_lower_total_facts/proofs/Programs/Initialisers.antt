-- Each class and each actor has an initialiser, which has a number.
use Rattle.std.proofs.Common.{◌≡◌, ℕ, Option, Some, List, [], ◌∷◌, Contains, refl, ap, ◌∙◌}
use Rattle.std.specs.Prelude.{◌==◌, if◌then◌else◌, length, map, slice_get}
use Rattle.std.proofs.lemmas.List.Elements.{Contains-append_right}
use Rattle.sw_tree.specs.declared.decl.Decl.{Decl}
use Rattle.sw_tree.specs.declared.decl.InitTree.{InitTree}
use Rattle.sw_tree.specs.declared.name.Name.{Name}
use Rattle.sw_types.specs.declared.isolation.Iso.{Iso}
use Rattle.sw_types.specs.declared.shape.Shape.{Shape}
use Rattle.sw_decl_words.specs.Words.{top_meaning}
use Rattle.sw_decl_words.specs.declared.words.Meaning.{Meaning}
use Rattle.sw_decls.specs.Declaring.{init_key}
use Rattle.sw_decls.specs.Signatures.{init_of, inits_of}
use Rattle.sw_decls.specs.declared.signature.AsyncDefault.{AsyncDefault}
use Rattle.sw_decls.specs.declared.signature.Signature.{Signature}
use Rattle.sw_typing_rules.specs.Worlds.{IsWorldOf, World, and_then, item}
use Rattle.sw_isolation_rules.specs.Answers.{Answers}
use Rattle.sw_isolation_rules.specs.Uses.{maker_at}
use Rattle.sw_lower_code.specs.Whole.{Body}
use Rattle.sw_lower_rules.specs.Bodies.{AreOrdered, numbers_of, tables_of}
use Rattle.sw_lower_rules.specs.Tables.{Isolation}
use Rattle.sw_typing_facts.proofs.Lists.Listed.{in_first}
use Rattle.sw_lower_total_facts.specs.Known.{HasMaker, IsMade}
use Rattle.sw_lower_total_facts.proofs.Programs.Found.{FuncAt, func_at_key, func_there}
use Rattle.sw_lower_total_facts.proofs.Programs.FuncBodies.{funcs_numbered}
use Rattle.sw_lower_total_facts.proofs.Programs.Objects.{object_at}

-- an initialiser with the key of a type's initialiser
record MakerOf (known : ℕ → Option Meaning) (word : Name) (n : ℕ) (actor : Iso)
    (inits : List InitTree) : Type 0 where
  func : Signature
  has : Contains (inits_of known word n actor inits) func
  key : func.key.at ≡ init_key word.at inits

-- the first that is written, or else the one that the type has
maker_of_type : (known : ℕ → Option Meaning) (word : Name) (n : ℕ) (actor : Iso)
    (inits : List InitTree) → MakerOf known word n actor inits
maker_of_type known word n actor [] = record {
  func = init_of known word n actor [];
  has = in_first (init_of known word n actor []) [];
  key = refl;
}
maker_of_type known word n actor (init ∷ inits) =
    let signature : InitTree → Signature = λ (one : InitTree).
    init_of known (record { at = one.at; id = word.id }) n actor one.params in
    record {
      func = signature init;
      has = Contains-append_right
          (if length (init ∷ inits) == 0 then init_of known word n actor [] ∷ [] else [])
          (map signature (init ∷ inits)) (signature init)
          (in_first (signature init) (map signature inits));
      key = refl;
    }

-- The initialiser of a type is found by its key.
maker_found : (world : World) (k key : ℕ) → slice_get world.makers k ≡ Some key
    → (one : FuncAt world key) → maker_at world k ≡ Some one.func
unfolding maker_at
maker_found world k key made one =
    ap (λ found. item (and_then found world.numbers) world.funcs) made
    ∙ ap (λ found. item found world.funcs) one.number ∙ one.at

-- Each class and each actor has an initialiser that has a number.
pub has_makers : (world : World) (answers : Answers) (isolation : Isolation) (decls : List Decl)
    (rule : AsyncDefault) → IsWorldOf decls rule world → (ordered : List Body)
    → AreOrdered (tables_of world answers isolation decls) decls ordered
    → (k : ℕ) (shape : Shape) → slice_get world.shapes k ≡ Some shape → IsMade shape.kind
    → HasMaker (tables_of world answers isolation decls) (numbers_of ordered) k
has_makers world answers isolation decls rule is ordered are k shape at made =
    let known = top_meaning decls in
    let here = object_at decls rule world is k shape at made in
    let object = here.object in
    let key = init_key object.word.at object.inits in
    let maker = maker_of_type known object.word k object.actor object.inits in
    let one = func_at_key decls rule world is maker.func key
    (func_there decls rule world is k here.g here.decl maker.func here.stands
    (object.makers maker.func maker.has)) maker.key in
    record {
      func = one.func;
      at = maker_found world k key here.maker one;
      numbered = funcs_numbered world answers isolation decls rule is ordered are one.place
          one.func one.at;
    }
