-- The initialisers of classes and actors.
use Rattle.std.proofs.Common.{◌≡◌, ℕ, ◌≤◌, Some, List, [], ◌∷◌, flat_map}
use Rattle.std.proofs.Common.{Bool, Contains, refl, ap, sym, ◌∙◌, subst, arith}
use Rattle.std.proofs.lemmas.Option.{same_Some}
use Rattle.std.specs.Prelude.{slice_get}
use Rattle.sw_tree.specs.Contents.{AreKeyed}
use Rattle.sw_tree.specs.declared.decl.Decl.{Decl}
use Rattle.sw_tree.specs.declared.decl.Decl.TheVariants.{Actor, Class, Entry, Enum, Func, Global}
use Rattle.sw_tree.specs.declared.decl.Decl.TheVariants.{GlobalActor, Struct}
use Rattle.sw_tree.specs.declared.decl.FuncTree.{FuncTree}
use Rattle.sw_tree.specs.declared.decl.InitTree.{InitTree}
use Rattle.sw_tree.specs.declared.decl.PropTree.{PropTree}
use Rattle.sw_tree.specs.declared.decl.Written.{Written}
use Rattle.sw_tree.specs.declared.name.Name.{Name}
use Rattle.sw_tree.proofs.Counting.{hits, hits_same}
use Rattle.sw_tree.proofs.KeyCounts as keys
use Rattle.sw_tree.proofs.KeyCounts.{in_decl, in_init}
use Rattle.sw_types.specs.declared.shape.Shape.{Shape}
use Rattle.sw_types.specs.declared.shape.ShapeKind.TheVariants as kinds
use Rattle.sw_decl_words.proofs.WithinLemmas.{one_shape}
use Rattle.sw_decl_words.specs.Words.{shapes_made}
use Rattle.sw_decls.specs.Declaring.{init_key, maker_keys}
use Rattle.sw_decls.specs.declared.signature.AsyncDefault.{AsyncDefault}
use Rattle.sw_decls.specs.declared.signature.Signature.{Signature}
use Rattle.sw_typing_rules.proofs.OneWorld.{value_word}
use Rattle.sw_typing_rules.specs.Worlds.{IsWorldOf, World, item}
use Rattle.sw_isolation_rules.specs.Programs.{func_at}
use Rattle.sw_isolation_rules.specs.Uses.{maker_at}
use Rattle.sw_lower_code.specs.Whole.{Body}
use Rattle.sw_lower_rules.specs.Bodies.{AreNumbered, AreOrdered, decl_bodies, func_tree_bodies}
use Rattle.sw_lower_rules.specs.Bodies.{inits_bodies, numbers_of, program_bodies, prop_getters}
use Rattle.sw_lower_rules.specs.Tables.{Tables, plain}
use Rattle.sw_lower_plans.specs.declared.name.FunctionName.{FunctionName}
use Rattle.sw_lower_formed_facts.proofs.Headers.Makers.{maker_parts, makers_counted}
use Rattle.sw_typing_facts.proofs.Lists.Listed.{between, in_place}
use Rattle.sw_typing_facts.proofs.Programs.DeclStands.{made_flat}
use Rattle.sw_typing_facts.proofs.Programs.Keyed.{one_place}
use Rattle.sw_lower_formed_facts.proofs.Bodies.MadeOf.{body_stands}
use Rattle.sw_typing_facts.proofs.Programs.SignatureKeys.{no_signature, numbered_key}
use Rattle.sw_typing_facts.proofs.Programs.Standing.{Stands, place_of_thing, stands_in}
use Rattle.sw_lower_total_facts.specs.Programs.{noted_tables}
use Rattle.sw_lower_call_facts.proofs.Functions.Signed.{IsSigned, maker_body_signed, signed_among}
use Rattle.sw_lower_placed_facts.specs.Allowed.{FunctionIs, IsActorMaker}
use Rattle.sw_lower_placed_facts.specs.Hosts.{Program}
use Rattle.sw_lower_placed_facts.proofs.Settling.Apart.{KeyedBy, init_counted, maker_keyed}
use Rattle.sw_lower_placed_facts.proofs.Settling.Program.{program_of}
use Rattle.sw_lower_placed_facts.proofs.Settling.Signed.{signed_function}

-- a class or an actor, with the key of its initialiser
record MakesIn (tables : Tables) (k g : ℕ) (decl : Decl) (key : ℕ) : Type 0 where
  word : Name
  props : List PropTree
  inits : List InitTree
  key_is : init_key word.at inits ≡ key
  counted : 1 ≤ maker_keyed decl (init_key word.at inits)
  made : (body : Body) → Contains (inits_bodies tables k props word inits) body
      → Contains (decl_bodies tables k g decl) body

module _ (tables : Tables) (k g key : ℕ) where
  class_makes : (written : Written) (word : Name) (conforms : Bool) (props : List PropTree)
      (inits : List InitTree) (funcs : List FuncTree) → init_key word.at inits ∷ [] ≡ key ∷ []
      → MakesIn tables k g (Class written word conforms props inits funcs) key
  unfolding decl_bodies
  class_makes written word conforms props inits funcs is = record {
    word = word;
    props = props;
    inits = inits;
    key_is = (let here : init_key word.at inits ≡ key = cc in here);
    counted = init_counted word.at inits;
    made = λ body inside.
        between (prop_getters tables k 0 props) (inits_bodies tables k props word inits)
        (flat_map (func_tree_bodies tables) funcs) body inside;
  }

  actor_makes : (word : Name) (props : List PropTree) (inits : List InitTree)
      (funcs : List FuncTree) → init_key word.at inits ∷ [] ≡ key ∷ []
      → MakesIn tables k g (Actor word props inits funcs) key
  unfolding decl_bodies
  actor_makes word props inits funcs is = record {
    word = word;
    props = props;
    inits = inits;
    key_is = (let here : init_key word.at inits ≡ key = cc in here);
    counted = init_counted word.at inits;
    made = λ body inside.
        between (prop_getters tables k 0 props) (inits_bodies tables k props word inits)
        (flat_map (func_tree_bodies tables) funcs) body inside;
  }

  -- the word of a struct or an enum
  value_key : (word : ℕ) → word ∷ [] ≡ key ∷ [] → 1 ≤ hits word key
  value_key word is =
      let here : word ≡ key = cc in
      omega (arith, hits_same key, ap (λ at. hits at key) here)

  no_keys : [] ≡ key ∷ [] → ⊥
  no_keys is = cc

  makes_in : (decl : Decl) → maker_keys decl ≡ key ∷ [] → (1 ≤ value_word decl key → ⊥)
      → MakesIn tables k g decl key
  makes_in (Entry word written at is_async body) is none = absurd (no_keys is)
  makes_in (Struct word conforms fields funcs) is none = absurd (none (value_key word.at is))
  makes_in (Enum word conforms cases funcs) is none = absurd (none (value_key word.at is))
  makes_in (Class written word conforms props inits funcs) is none =
      class_makes written word conforms props inits funcs is
  makes_in (Actor word props inits funcs) is none = actor_makes word props inits funcs is
  makes_in (GlobalActor word made) is none = absurd (no_keys is)
  makes_in (Func tree) is none = absurd (no_keys is)
  makes_in (Global prop) is none = absurd (no_keys is)

module _ (world : World) (decls : List Decl) (rule : AsyncDefault) (keyed : AreKeyed decls)
    (is : IsWorldOf decls rule world) where
  abbrev tables : Tables
  tables = noted_tables world decls

  -- the declaration of the type with a number, which has the key of its initialiser, and that
  -- initialiser's body
  pub record MakerOf (k : ℕ) (func : Signature) : Type 0 where
    pub g : ℕ
    pub decl : Decl
    pub stands : Stands decls k g decl
    pub counted : 1 ≤ maker_keyed decl func.key.at
    pub body : IsSigned tables (program_bodies tables decls) func

  maker_by : (k g : ℕ) (decl : Decl) (shape : Shape) (key : ℕ) (func : Signature)
      → Stands decls k g decl → slice_get world.shapes k ≡ Some shape
      → maker_keys decl ≡ key ∷ [] → func_at world tables.answers key ≡ Some func
      → func.key.at ≡ key → Contains world.funcs func → MakerOf k func
  maker_by k g decl shape key func stands there makes at same has =
      let one = makes_in tables k g key decl makes
      (λ value. no_signature decls rule world keyed is func decl has
      (stands_in 0 0 decls k g decl stands)
      (omega (arith, value, ap (value_word decl) same))) in
      record {
        g = g;
        decl = decl;
        stands = stands;
        counted = omega (arith, one.counted, ap (maker_keyed decl) (same ∙ sym one.key_is));
        body = signed_among tables (inits_bodies tables k one.props one.word one.inits)
            (program_bodies tables decls) func
            (λ body inside. body_stands tables decls k g decl body stands (one.made body inside))
            (maker_body_signed tables k one.props shape there one.word one.inits func
            (ap (func_at world tables.answers) one.key_is ∙ at));
      }

  -- the initialiser of a type
  pub maker_of : (k : ℕ) (shape : Shape) (func : Signature)
      → slice_get world.shapes k ≡ Some shape → maker_at world k ≡ Some func → MakerOf k func
  unfolding maker_at func_at
  maker_of k shape func there made =
      let parts = maker_parts (slice_get world.makers k) world.numbers world.funcs func made in
      let one = place_of_thing (λ n g decl. maker_keys decl) (λ n g. n) shapes_made
      (λ n g decl. refl) (λ n g decl. makers_counted decl) one_shape 0 0 decls k parts.key
      (ap (λ makers. slice_get makers k) (sym (is.makers ∙ made_flat maker_keys 0 0 decls))
      ∙ parts.key_is) in
      let number : one.n ≡ k = omega (arith, one.at) in
      maker_by k one.g one.decl shape parts.key func
      (subst (λ n. Stands decls n one.g one.decl) number one.stands) there one.is
      (ap (λ place. item place world.funcs) parts.place_is ∙ parts.at)
      (numbered_key world.funcs parts.key parts.place func
      (sym (is.numbers parts.key) ∙ parts.place_is) parts.at)
      (in_place world.funcs parts.place func parts.at)

  -- its key
  pub maker_key : (k : ℕ) (func : Signature) → MakerOf k func
      → KeyedBy decls maker_keyed func.key.at
  maker_key k func one = record {
    n = k;
    g = one.g;
    decl = one.decl;
    stands = one.stands;
    counted = one.counted;
  }

  maker_in : (decl : Decl) (key : ℕ) → 1 ≤ maker_keyed decl key → 1 ≤ in_decl decl key
  maker_in (Entry word written at is_async body) key some = absurd (omega (arith, some))
  maker_in (Struct word conforms fields funcs) key some = absurd (omega (arith, some))
  maker_in (Enum word conforms cases funcs) key some = absurd (omega (arith, some))
  maker_in (Class written word conforms props inits funcs) key some =
      omega (arith, some, keys.in_decl-Class written word conforms props inits funcs key)
  maker_in (Actor word props inits funcs) key some =
      omega (arith, some, keys.in_decl-Actor word props inits funcs key)
  maker_in (GlobalActor word made) key some = absurd (omega (arith, some))
  maker_in (Func func) key some = absurd (omega (arith, some))
  maker_in (Global prop) key some = absurd (omega (arith, some))

  -- Initialisers with one key are of one type.
  one_maker : (j k : ℕ) (one other : Signature) → MakerOf j one → MakerOf k other
      → one.key.at ≡ other.key.at → j ≡ k
  one_maker j k one other first second same =
      let key = other.key.at in
      (one_place decls j first.g first.decl k second.g second.decl key keyed first.stands
      second.stands
      (maker_in first.decl key (omega (arith, first.counted, ap (maker_keyed first.decl) same)))
      (maker_in second.decl key second.counted)).shapes

  module _ (ordered : List Body) where
    abbrev program : Program
    program = program_of world decls ordered

    -- the initialiser of an actor, by its name
    pub actor_maker : (key : ℕ) (of : IsActorMaker program (plain key)) → MakerOf of.k of.func
    actor_maker key of = maker_of of.k of.shape of.func of.is_shape of.maker

    pub actor_key : (key : ℕ) (of : IsActorMaker program (plain key)) → key ≡ of.func.key.at
    actor_key key of = ap (λ (name : FunctionName). name.key) of.named

    -- The initialiser of another type is none of an actor.
    pub no_actor_maker : (k : ℕ) (shape : Shape) (func : Signature)
        → slice_get world.shapes k ≡ Some shape → maker_at world k ≡ Some func
        → (shape.kind ≡ kinds.Actor → ⊥) → IsActorMaker program (plain func.key.at) → ⊥
    no_actor_maker k shape func there made other of =
        let same = one_maker k of.k func of.func (maker_of k shape func there made)
        (actor_maker func.key.at of) (actor_key func.key.at of) in
        other
        (ap (λ (s : Shape). s.kind) (same_Some shape of.shape
        (sym there ∙ ap (slice_get world.shapes) same ∙ of.is_shape)) ∙ of.actor)

    pub maker_function : (are : AreOrdered tables decls ordered) (numbered : AreNumbered ordered)
        → (k f : ℕ) (shape : Shape) (func : Signature) → slice_get world.shapes k ≡ Some shape
        → maker_at world k ≡ Some func → numbers_of ordered (plain func.key.at) ≡ Some f
        → FunctionIs program f func.iso func.is_async func.sends func.result
    maker_function are numbered k f shape func there made found =
        signed_function world decls ordered are numbered func f
        (maker_of k shape func there made).body found
