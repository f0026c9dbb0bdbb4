-- What keys tell of bodies and first values in a program that is scoped: their pairs are less, and
-- the words of their types stand before them.
use Rattle.std.proofs.Common.{◌≡◌, ℕ, ◌<◌, Bool, List, [], ◌∷◌, ◌++◌, flat_map, Option, None, Some}
use Rattle.std.proofs.Common.{Contains, refl, ap, sym, subst}
use Rattle.std.proofs.lemmas.List.Elements.{All-contains, Contains-append_left}
use Rattle.std.proofs.lemmas.List.Elements.{Contains-append_right}
use Rattle.std.specs.Prelude.{All, slice_get}
use Rattle.sw_list.proofs.Members.{in_flat_map, none_in}
use Rattle.sw_tree.specs.Keys.{Keys, block_keys, func_keys, init_keys, prop_keys}
use Rattle.sw_tree.specs.declared.decl.Decl.{Decl}
use Rattle.sw_tree.specs.declared.decl.Decl.TheVariants.{Entry, Struct, Enum, Class, Actor}
use Rattle.sw_tree.specs.declared.decl.Decl.TheVariants.{GlobalActor, Func, Global}
use Rattle.sw_tree.specs.declared.decl.FuncTree.{FuncTree}
use Rattle.sw_tree.specs.declared.decl.InitTree.{InitTree}
use Rattle.sw_tree.specs.declared.decl.PropTree.{PropTree}
use Rattle.sw_tree.specs.declared.decl.Written.{Written}
use Rattle.sw_tree.specs.declared.name.Name.{Name}
use Rattle.sw_tree.specs.declared.stmt.Block.{Block}
use Rattle.sw_types.specs.declared.shape.Shape.{Shape}
use Rattle.sw_decl_words.specs.Evident.{meanings_of}
use Rattle.sw_decl_words.specs.Shaped.{shape_of}
use Rattle.sw_decls.specs.declared.signature.AsyncDefault.{AsyncDefault}
use Rattle.sw_typing_rules.specs.Worlds.{IsWorldOf, World}
use Rattle.sw_isolation_rules.specs.Answers.{for_some}
use Rattle.sw_isolation_rules.specs.Captures.{self_of}
use Rattle.sw_typing_facts.proofs.Lists.Listed.{between, only_in}
use Rattle.sw_typing_facts.proofs.Programs.DeclParts.{funcs_in, inits_in, props_in}
use Rattle.sw_typing_facts.proofs.Programs.DeclStands.{made_flat, shape_there}
use Rattle.sw_typing_facts.proofs.Programs.Standing.{Stands, made_by_one}
use Rattle.sw_tree.specs.Scopes.{AreLess, AreScoped, Pair, before, block_scoped}
use Rattle.sw_tree.specs.Scopes.{decl_pairs, func_pairs, init_pairs, prop_pairs}
use Rattle.sw_tree.specs.Scopes.{type_pairs}
use Rattle.sw_tree.proofs.Members.{in_map}
use Rattle.sw_lower_total_facts.proofs.Standing.Declared.{words_of}
use Rattle.sw_lower_total_facts.proofs.Standing.Scopes.{all_among, all_of_each}

-- Each pair of a declaration is one of its program.
pub pairs_less : (decls : List Decl) → AreScoped decls → (n g : ℕ) (decl : Decl)
    → Stands decls n g decl → AreLess (decl_pairs decl)
pairs_less decls scoped n g decl stands =
    all_among (λ (pair : Pair). pair.0 < pair.1) (flat_map decl_pairs decls) (decl_pairs decl)
    (λ pair has.
    subst (λ list. Contains list pair) (sym (made_flat decl_pairs 0 0 decls))
    (made_by_one (λ n g decl. decl_pairs decl) 0 0 decls n g decl pair stands has)) scoped

-- What keys tell of a member: its pairs are less, and the word of its type stands before its keys.
pub record IsLess (words keys : Keys) (pairs : List Pair) : Type 0 where
  pub less : AreLess pairs
  pub own : All (λ word. All (λ key. word < key) keys) words

-- a member among the pairs of its declaration
record IsIn (whole : List Pair) (words keys : Keys) (pairs : List Pair) : Type 0 where
  pub own : (pair : Pair) → Contains pairs pair → Contains whole pair
  pub after : (word key : ℕ) → Contains words word → Contains keys key → Contains whole (word, key)

less_in : (whole : List Pair) (words keys : Keys) (pairs : List Pair) → AreLess whole
    → IsIn whole words keys pairs → IsLess words keys pairs
less_in whole words keys pairs less is = record {
  less = all_among (λ (pair : Pair). pair.0 < pair.1) whole pairs is.own less;
  own = all_of_each (λ word. All (λ key. word < key) keys) words (λ word among.
      all_of_each (λ key. word < key) keys (λ key has.
      All-contains (λ (pair : Pair). pair.0 < pair.1) whole (word, key) less
      (is.after word key among has)));
}

-- a member with no word of a type before it
alone_in : (keys : Keys) (pairs : List Pair) → IsIn pairs [] keys pairs
alone_in keys pairs = record {
  own = λ pair has. has;
  after = λ word key none has. absurd (none_in word none);
}

-- the members of a type
module _ (word : Name) (props : List PropTree) (inits : List InitTree) (funcs : List FuncTree) where
  abbrev members_keys : Keys
  members_keys = flat_map prop_keys props ++ flat_map init_keys inits ++ flat_map func_keys funcs

  -- the pairs of the type's word, with those of properties and of initialisers
  abbrev words_pairs : List Pair
  words_pairs = before word.at members_keys

  abbrev props_pairs : List Pair
  props_pairs = words_pairs ++ flat_map prop_pairs props

  abbrev inits_pairs : List Pair
  inits_pairs = props_pairs ++ flat_map init_pairs inits

  abbrev HasMember : Keys → List Pair → Type 0
  HasMember keys pairs = IsIn (type_pairs word props inits funcs) (word.at ∷ []) keys pairs

  in_inits : (pair : Pair) → Contains inits_pairs pair
      → Contains (type_pairs word props inits funcs) pair
  in_inits pair has = Contains-append_left inits_pairs (flat_map func_pairs funcs) pair has

  in_props : (pair : Pair) → Contains props_pairs pair
      → Contains (type_pairs word props inits funcs) pair
  in_props pair has =
      in_inits pair (Contains-append_left props_pairs (flat_map init_pairs inits) pair has)

  has_member : (keys : Keys) (pairs : List Pair)
      → ((pair : Pair) → Contains pairs pair → Contains (type_pairs word props inits funcs) pair)
      → ((key : ℕ) → Contains keys key → Contains members_keys key) → HasMember keys pairs
  has_member keys pairs among there = record {
    own = among;
    after = λ at key is has.
        subst (λ at. Contains (type_pairs word props inits funcs) (at, key))
        (only_in word.at at is)
        (in_props (word.at, key)
        (Contains-append_left words_pairs (flat_map prop_pairs props) (word.at, key)
        (in_map (λ (other : ℕ). (word.at, other)) members_keys key (there key has))));
  }

  has_prop : (prop : PropTree) → Contains props prop → HasMember (prop_keys prop) (prop_pairs prop)
  has_prop prop has =
      has_member (prop_keys prop) (prop_pairs prop)
      (λ pair there. in_props pair
      (Contains-append_right words_pairs (flat_map prop_pairs props) pair
      (in_flat_map prop_pairs props prop pair has there)))
      (λ key there.
      Contains-append_left (flat_map prop_keys props ++ flat_map init_keys inits)
      (flat_map func_keys funcs) key
      (Contains-append_left (flat_map prop_keys props) (flat_map init_keys inits) key
      (in_flat_map prop_keys props prop key has there)))

  has_init : (init : InitTree) → Contains inits init → HasMember (init_keys init) (init_pairs init)
  has_init init has =
      has_member (init_keys init) (init_pairs init)
      (λ pair there. in_inits pair
      (Contains-append_right props_pairs (flat_map init_pairs inits) pair
      (in_flat_map init_pairs inits init pair has there)))
      (λ key there.
      between (flat_map prop_keys props) (flat_map init_keys inits) (flat_map func_keys funcs) key
      (in_flat_map init_keys inits init key has there))

  has_func : (func : FuncTree) → Contains funcs func → HasMember (func_keys func) (func_pairs func)
  has_func func has =
      has_member (func_keys func) (func_pairs func)
      (λ pair there.
      Contains-append_right inits_pairs (flat_map func_pairs funcs) pair
      (in_flat_map func_pairs funcs func pair has there))
      (λ key there.
      Contains-append_right (flat_map prop_keys props ++ flat_map init_keys inits)
      (flat_map func_keys funcs) key (in_flat_map func_keys funcs func key has there))

-- a function
func_in : (decl : Decl) (tree : FuncTree) → Contains (funcs_in decl) tree
    → IsIn (decl_pairs decl) (words_of decl) (func_keys tree) (func_pairs tree)
func_in (Entry word written at is_async body) tree has = absurd (none_in tree has)
func_in (Struct word conforms fields funcs) tree has = has_func word fields [] funcs tree has
func_in (Enum word conforms cases funcs) tree has = has_func word [] [] funcs tree has
func_in (Class written word conforms props inits funcs) tree has =
    has_func word props inits funcs tree has
func_in (Actor word props inits funcs) tree has = has_func word props inits funcs tree has
func_in (GlobalActor word made) tree has = absurd (none_in tree has)
func_in (Func func) tree has =
    subst (λ one. IsIn (func_pairs func) [] (func_keys one) (func_pairs one)) (only_in func tree has)
    (alone_in (func_keys func) (func_pairs func))
func_in (Global prop) tree has = absurd (none_in tree has)

-- an initialiser
init_in : (decl : Decl) (init : InitTree) → Contains (inits_in decl) init
    → IsIn (decl_pairs decl) (words_of decl) (init_keys init) (init_pairs init)
init_in (Entry word written at is_async body) init has = absurd (none_in init has)
init_in (Struct word conforms fields funcs) init has = absurd (none_in init has)
init_in (Enum word conforms cases funcs) init has = absurd (none_in init has)
init_in (Class written word conforms props inits funcs) init has =
    has_init word props inits funcs init has
init_in (Actor word props inits funcs) init has = has_init word props inits funcs init has
init_in (GlobalActor word made) init has = absurd (none_in init has)
init_in (Func func) init has = absurd (none_in init has)
init_in (Global prop) init has = absurd (none_in init has)

-- a property
prop_in : (decl : Decl) (prop : PropTree) → Contains (props_in decl) prop
    → IsIn (decl_pairs decl) (words_of decl) (prop_keys prop) (prop_pairs prop)
prop_in (Entry word written at is_async body) prop has = absurd (none_in prop has)
prop_in (Struct word conforms fields funcs) prop has = absurd (none_in prop has)
prop_in (Enum word conforms cases funcs) prop has = absurd (none_in prop has)
prop_in (Class written word conforms props inits funcs) prop has =
    has_prop word props inits funcs prop has
prop_in (Actor word props inits funcs) prop has = has_prop word props inits funcs prop has
prop_in (GlobalActor word made) prop has = absurd (none_in prop has)
prop_in (Func func) prop has = absurd (none_in prop has)
prop_in (Global global) prop has = absurd (none_in prop has)

-- What keys tell of the members of a program that is scoped.
module _ (decls : List Decl) (scoped : AreScoped decls) (n g : ℕ) (decl : Decl)
    (stands : Stands decls n g decl) where
  pub func_less : (tree : FuncTree) → Contains (funcs_in decl) tree
      → IsLess (words_of decl) (func_keys tree) (func_pairs tree)
  func_less tree has =
      less_in (decl_pairs decl) (words_of decl) (func_keys tree) (func_pairs tree)
      (pairs_less decls scoped n g decl stands) (func_in decl tree has)

  pub init_less : (init : InitTree) → Contains (inits_in decl) init
      → IsLess (words_of decl) (init_keys init) (init_pairs init)
  init_less init has =
      less_in (decl_pairs decl) (words_of decl) (init_keys init) (init_pairs init)
      (pairs_less decls scoped n g decl stands) (init_in decl init has)

  pub prop_less : (prop : PropTree) → Contains (props_in decl) prop
      → IsLess (words_of decl) (prop_keys prop) (prop_pairs prop)
  prop_less prop has =
      less_in (decl_pairs decl) (words_of decl) (prop_keys prop) (prop_pairs prop)
      (pairs_less decls scoped n g decl stands) (prop_in decl prop has)

-- and of an entry and of a global variable, which are members of no type
pub entry_less : (decls : List Decl) (scoped : AreScoped decls) (n g : ℕ) (word : Name)
    (written : Written) (at : ℕ) (is_async : Bool) (body : Block)
    → Stands decls n g (Entry word written at is_async body)
    → IsLess [] (block_keys body) (block_scoped body).pairs
entry_less decls scoped n g word written at is_async body stands =
    less_in (block_scoped body).pairs [] (block_keys body) (block_scoped body).pairs
    (pairs_less decls scoped n g (Entry word written at is_async body) stands)
    (alone_in (block_keys body) (block_scoped body).pairs)

pub global_less : (decls : List Decl) (scoped : AreScoped decls) (n g : ℕ) (prop : PropTree)
    → Stands decls n g (Global prop) → IsLess [] (prop_keys prop) (prop_pairs prop)
global_less decls scoped n g prop stands =
    less_in (prop_pairs prop) [] (prop_keys prop) (prop_pairs prop)
    (pairs_less decls scoped n g (Global prop) stands) (alone_in (prop_keys prop) (prop_pairs prop))

-- the type whose members a declaration's functions are
abbrev pub owner_of : ℕ → Decl → Option ℕ
owner_of number (Entry word written at is_async body) = None
owner_of number (Struct word conforms fields funcs) = Some number
owner_of number (Enum word conforms cases funcs) = Some number
owner_of number (Class written word conforms props inits funcs) = Some number
owner_of number (Actor word props inits funcs) = Some number
owner_of number (GlobalActor word made) = None
owner_of number (Func func) = None
owner_of number (Global prop) = None

-- `self` in a declaration is the word of its type.
module _ (decls : List Decl) (rule : AsyncDefault) (world : World)
    (is : IsWorldOf decls rule world) (n g : ℕ) where
  self_word : (decl : Decl) (shape : Shape) → Stands decls n g decl
      → slice_get (shape_of (meanings_of decls) n decl) 0 ≡ Some shape
      → self_of world (Some n) ≡ shape.at ∷ []
  self_word decl shape stands made =
      ap (λ found. for_some found (λ (shape : Shape). shape.at ∷ []))
      (shape_there decls rule world is n g decl shape stands made)

  pub self_words : (decl : Decl) → Stands decls n g decl
      → self_of world (owner_of n decl) ≡ words_of decl
  unfolding shape_of
  self_words (Entry word written at is_async body) stands = refl
  self_words (Struct word conforms fields funcs) stands =
      self_word (Struct word conforms fields funcs) _ stands refl
  self_words (Enum word conforms cases funcs) stands =
      self_word (Enum word conforms cases funcs) _ stands refl
  self_words (Class written word conforms props inits funcs) stands =
      self_word (Class written word conforms props inits funcs) _ stands refl
  self_words (Actor word props inits funcs) stands =
      self_word (Actor word props inits funcs) _ stands refl
  self_words (GlobalActor word made) stands = refl
  self_words (Func func) stands = refl
  self_words (Global prop) stands = refl
