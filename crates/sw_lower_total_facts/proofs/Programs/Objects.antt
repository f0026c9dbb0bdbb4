-- The declaration of a class or an actor, by the number of its shape.
use Rattle.std.proofs.Common.{◌≡◌, ℕ, Some, List, [], ◌∷◌, ◌++◌, map, flat_map, length, Contains}
use Rattle.std.proofs.Common.{refl, ap, sym, ◌∙◌, subst, arith}
use Rattle.std.proofs.lemmas.List.Elements.{Contains-append_left}
use Rattle.std.proofs.lemmas.Option.{same_Some, slice_get-map}
use Rattle.std.specs.Prelude.{slice_get}
use Rattle.sw_tree.specs.declared.decl.Decl.{Decl}
use Rattle.sw_tree.specs.declared.decl.Decl.TheVariants.{Entry, Struct, Enum, Class, Actor}
use Rattle.sw_tree.specs.declared.decl.Decl.TheVariants.{GlobalActor, Func, Global}
use Rattle.sw_tree.specs.declared.decl.InitTree.{InitTree}
use Rattle.sw_tree.specs.declared.decl.PropTree.{PropTree}
use Rattle.sw_tree.specs.declared.name.Name.{Name}
use Rattle.sw_types.specs.declared.isolation.Iso.{Iso}
use Rattle.sw_types.specs.declared.isolation.Iso.TheVariants as iso
use Rattle.sw_types.specs.declared.shape.Part.{Part}
use Rattle.sw_types.specs.declared.shape.Shape.{Shape}
use Rattle.sw_decl_words.proofs.WithinLemmas.{one_shape, shapes_counted}
use Rattle.sw_decl_words.specs.Evident.{Meanings, meanings_of}
use Rattle.sw_decl_words.specs.Shaped.{part_of, shape_of, written_actor}
use Rattle.sw_decl_words.specs.Words.{shapes_made, top_meaning}
use Rattle.sw_decls.specs.Declaring.{init_key, maker_keys}
use Rattle.sw_decls.specs.Signatures.{actor_iso, func_of, funcs_of, inits_of}
use Rattle.sw_decls.specs.declared.signature.AsyncDefault.{AsyncDefault}
use Rattle.sw_decls.specs.declared.signature.Signature.{Signature}
use Rattle.sw_typing_rules.specs.Worlds.{IsWorldOf, World}
use Rattle.sw_lower_code.specs.Whole.{Body}
use Rattle.sw_lower_rules.specs.Bodies.{decl_bodies, func_tree_bodies, inits_bodies, prop_getters}
use Rattle.sw_lower_rules.specs.Tables.{Tables, prop_keys, shape_keys}
use Rattle.sw_lower_formed_facts.proofs.Headers.Makers.{makers_counted}
use Rattle.sw_lower_formed_facts.proofs.Headers.PartGetters.{keys_counted}
use Rattle.sw_typing_facts.proofs.Lists.Found.{mapped}
use Rattle.sw_typing_facts.proofs.Programs.DeclStands.{made_flat}
use Rattle.sw_typing_facts.proofs.Programs.MadeOf.{shapes_are}
use Rattle.sw_typing_facts.proofs.Programs.Standing.{PlaceOf, Stands, at_place, place_of_thing}
use Rattle.sw_lower_total_facts.specs.Known.{IsMade}

-- a class or an actor: the members of its declaration, and the isolation of its initialisers
pub record IsObject (decls : List Decl) (rule : AsyncDefault) (n g : ℕ) (decl : Decl)
    (shape : Shape) : Type 0 where
  pub word : Name
  pub props : List PropTree
  pub inits : List InitTree
  pub actor : Iso
  pub parts : shape.parts ≡ map (part_of (meanings_of decls) (Some n)) props
  pub keys : shape_keys decl ≡ prop_keys props ∷ []
  pub maker : maker_keys decl ≡ init_key word.at inits ∷ []
  pub makers : (func : Signature) → Contains (inits_of (top_meaning decls) word n actor inits) func
      → Contains (funcs_of (top_meaning decls) rule n decl) func
  pub getters : (tables : Tables) (body : Body) → Contains (prop_getters tables n 0 props) body
      → Contains (decl_bodies tables n g decl) body

-- the shape that a declaration makes
only_shape : (one shape : Shape) → one ∷ [] ≡ shape ∷ [] → one ≡ shape
only_shape one shape is = same_Some one shape (ap (λ shapes. slice_get shapes 0) is)

-- a declaration that makes no shape of a class or an actor
no_shape : (shape : Shape) → [] ≡ shape ∷ [] → ⊥
no_shape shape is = cc

value_shape : (one shape : Shape) → (IsMade one.kind → ⊥) → one ∷ [] ≡ shape ∷ []
    → IsMade shape.kind → ⊥
value_shape one shape never is made =
    never (subst (λ (s : Shape). IsMade s.kind) (sym (only_shape one shape is)) made)

-- The declaration of a shape of a class or an actor is one of a class or an actor.
is_object : (decls : List Decl) (rule : AsyncDefault) (n g : ℕ) (decl : Decl) (shape : Shape)
    → shape_of (meanings_of decls) n decl ≡ shape ∷ [] → IsMade shape.kind
    → IsObject decls rule n g decl shape
unfolding shape_of funcs_of decl_bodies
is_object decls rule n g (Entry word written at is_async body) shape is made =
    absurd (no_shape shape is)
is_object decls rule n g (Struct word conforms fields funcs) shape is made =
    absurd (value_shape _ shape (λ never. never) is made)
is_object decls rule n g (Enum word conforms cases funcs) shape is made =
    absurd (value_shape _ shape (λ never. never) is made)
is_object decls rule n g (Class written word conforms props inits funcs) shape is made =
    let actor = actor_iso (written_actor (top_meaning decls) written) in record {
      word = word;
      props = props;
      inits = inits;
      actor = actor;
      parts = ap (λ (s : Shape). s.parts) (sym (only_shape _ shape is));
      keys = refl;
      maker = refl;
      makers = λ func has.
          Contains-append_left (inits_of (top_meaning decls) word n actor inits)
          (map (func_of (top_meaning decls) rule (Some n) actor) funcs) func has;
      getters = λ tables body has.
          Contains-append_left
          (prop_getters tables n 0 props ++ inits_bodies tables n props word inits)
          (flat_map (func_tree_bodies tables) funcs) body
          (Contains-append_left (prop_getters tables n 0 props)
          (inits_bodies tables n props word inits) body has);
    }
is_object decls rule n g (Actor word props inits funcs) shape is made = record {
  word = word;
  props = props;
  inits = inits;
  actor = iso.Own;
  parts = ap (λ (s : Shape). s.parts) (sym (only_shape _ shape is));
  keys = refl;
  maker = refl;
  makers = λ func has.
      Contains-append_left (inits_of (top_meaning decls) word n iso.Own inits)
      (map (func_of (top_meaning decls) rule (Some n) iso.Own) funcs) func has;
  getters = λ tables body has.
      Contains-append_left
      (prop_getters tables n 0 props ++ inits_bodies tables n props word inits)
      (flat_map (func_tree_bodies tables) funcs) body
      (Contains-append_left (prop_getters tables n 0 props)
      (inits_bodies tables n props word inits) body has);
}
is_object decls rule n g (GlobalActor word made_by) shape is made = absurd (no_shape shape is)
is_object decls rule n g (Func func) shape is made = absurd (no_shape shape is)
is_object decls rule n g (Global global) shape is made = absurd (no_shape shape is)

-- what a declaration makes for its shape alone has the number of the shape
made_there : {X : Type 0} (makes : Decl → List X)
    → ((decl : Decl) → length (makes decl) ≡ shapes_made decl) → (decls : List Decl) (n g : ℕ)
    (decl : Decl) (x : X) → Stands decls n g decl → makes decl ≡ x ∷ []
    → slice_get (flat_map makes decls) n ≡ Some x
made_there makes counted decls n g decl x stands is =
    ap (λ all. slice_get all n) (made_flat makes 0 0 decls)
    ∙ at_place (λ n g decl. makes decl) (λ n g. n) shapes_made (λ n g decl. refl)
    (λ n g decl. counted decl) one_shape 0 0 decls n g decl x n stands
    (ap (λ all. slice_get all 0) is) (omega arith)

-- the declaration of a class or an actor with a number
pub record ObjectAt (decls : List Decl) (rule : AsyncDefault) (world : World) (k : ℕ)
    (shape : Shape) : Type 0 where
  pub g : ℕ
  pub decl : Decl
  pub stands : Stands decls k g decl
  pub object : IsObject decls rule k g decl shape
  pub keys : slice_get (flat_map shape_keys decls) k ≡ Some (prop_keys object.props)
  pub maker : slice_get world.makers k ≡ Some (init_key object.word.at object.inits)

-- A class or an actor has a declaration.
pub object_at : (decls : List Decl) (rule : AsyncDefault) (world : World)
    → IsWorldOf decls rule world → (k : ℕ) (shape : Shape) → slice_get world.shapes k ≡ Some shape
    → IsMade shape.kind → ObjectAt decls rule world k shape
object_at decls rule world is k shape at made = by place.n place.g place.decl place.stands place.is
    (let same : place.n ≡ k = omega (arith, place.at) in same)
  where
    known : Meanings
    known = meanings_of decls

    place : PlaceOf (λ n g decl. shape_of known n decl) (λ n g. n) shapes_made
        (λ n g decl. refl) (λ n g decl. shapes_counted known n decl) one_shape 0 0 decls k shape
    place = place_of_thing (λ n g decl. shape_of known n decl) (λ n g. n) shapes_made
        (λ n g decl. refl) (λ n g decl. shapes_counted known n decl) one_shape 0 0 decls k shape
        (ap (λ shapes. slice_get shapes k) (sym (is.shapes ∙ shapes_are known 0 0 decls)) ∙ at)

    here : (g : ℕ) (decl : Decl) → Stands decls k g decl → shape_of known k decl ≡ shape ∷ []
        → ObjectAt decls rule world k shape
    here g decl stands makes =
        let object = is_object decls rule k g decl shape makes made in record {
          g = g;
          decl = decl;
          stands = stands;
          object = object;
          keys = made_there shape_keys keys_counted decls k g decl (prop_keys object.props) stands
              object.keys;
          maker = ap (λ makers. slice_get makers k) is.makers
              ∙ made_there maker_keys makers_counted decls k g decl
              (init_key object.word.at object.inits) stands object.maker;
        }

    by : (n g : ℕ) (decl : Decl) → Stands decls n g decl → shape_of known n decl ≡ shape ∷ []
        → n ≡ k → ObjectAt decls rule world k shape
    by n g decl stands makes same =
        here g decl (subst (λ m. Stands decls m g decl) same stands)
        (subst (λ m. shape_of known m decl ≡ shape ∷ []) same makes)

-- the property with the number of a part
pub record PropAt (known : Meanings) (k i : ℕ) (props : List PropTree) (part : Part) : Type 0 where
  pub prop : PropTree
  pub at : slice_get props i ≡ Some prop
  pub is : part_of known (Some k) prop ≡ part

-- A part of a class or an actor is a property.
pub prop_at : (decls : List Decl) (rule : AsyncDefault) (k g i : ℕ) (decl : Decl) (shape : Shape)
    (part : Part) (object : IsObject decls rule k g decl shape)
    → slice_get shape.parts i ≡ Some part
    → PropAt (meanings_of decls) k i object.props part
prop_at decls rule k g i decl shape part object at =
    let (prop, found, same) = mapped (part_of (meanings_of decls) (Some k))
    (slice_get object.props i) part
    (sym (slice_get-map (part_of (meanings_of decls) (Some k)) object.props i)
    ∙ ap (λ parts. slice_get parts i) (sym object.parts) ∙ at) in
    record { prop = prop; at = found; is = same }
