-- The keys of functions, of initialisers, of global variables and of closures differ.
use Rattle.std.proofs.Common.{◌≡◌, ℕ, ◌+◌, ◌≤◌, List, [], ◌∷◌, Some, Contains, ap, sym, ◌∙◌}
use Rattle.std.proofs.Common.{arith}
use Rattle.std.specs.Prelude.{slice_get}
use Rattle.sw_list.proofs.Members.{none_in}
use Rattle.sw_tree.specs.Contents.{AreKeyed}
use Rattle.sw_tree.specs.declared.decl.Decl.{Decl}
use Rattle.sw_tree.specs.declared.decl.Decl.TheVariants.{Actor, Class, Entry, Enum, Func, Global}
use Rattle.sw_tree.specs.declared.decl.Decl.TheVariants.{GlobalActor, Struct}
use Rattle.sw_tree.specs.declared.decl.FuncTree.{FuncTree}
use Rattle.sw_tree.specs.declared.decl.InitTree.{InitTree}
use Rattle.sw_tree.proofs.Counting.{Weight, hits, hits_same, in_all, in_all-cons}
use Rattle.sw_tree.proofs.KeyCounts as keys
use Rattle.sw_tree.proofs.KeyCounts.{in_decl, in_func, in_init}
use Rattle.sw_decls.specs.Declaring.{init_key}
use Rattle.sw_decls.specs.declared.signature.AsyncDefault.{AsyncDefault}
use Rattle.sw_decls.specs.declared.signature.GlobalVar.{GlobalVar}
use Rattle.sw_decls.specs.declared.signature.Signature.{Signature}
use Rattle.sw_typing_rules.specs.Worlds.{IsWorldOf, World}
use Rattle.sw_lower_formed_facts.proofs.Headers.Funcs.{func_place}
use Rattle.sw_typing_facts.proofs.Lists.Listed.{place_in}
use Rattle.sw_typing_facts.proofs.Programs.GlobalDecls.{global_at}
use Rattle.sw_typing_facts.proofs.Programs.Keyed.{counted_in, counted_where, key_once, one_place}
use Rattle.sw_typing_facts.proofs.Programs.MemberTrees.{method_place, trees_of}
use Rattle.sw_typing_facts.proofs.Programs.SignatureKeys.{numbered_key}
use Rattle.sw_typing_facts.proofs.Programs.Standing.{Stands}
use Rattle.sw_lower_call_facts.specs.Meant.{IsFuncKey, IsFuncNumber}
use Rattle.sw_lower_call_facts.specs.Meant.IsFuncKey.{of_top, of_type}
use Rattle.sw_lower_call_facts.proofs.Giving.Deep.{deep_counted, deep_of}

-- how often a key is one of a type's initialisers or its word, one in a function, and the word of a
-- global variable
abbrev pub maker_keyed : Decl → Weight
maker_keyed (Entry word written at is_async body) k = 0
maker_keyed (Struct word conforms fields funcs) k = 0
maker_keyed (Enum word conforms cases funcs) k = 0
maker_keyed (Class written word conforms props inits funcs) k =
    hits word.at k + in_all in_init inits k
maker_keyed (Actor word props inits funcs) k = hits word.at k + in_all in_init inits k
maker_keyed (GlobalActor word made) k = 0
maker_keyed (Func func) k = 0
maker_keyed (Global prop) k = 0

abbrev pub func_keyed : Decl → Weight
func_keyed (Entry word written at is_async body) k = 0
func_keyed (Struct word conforms fields funcs) k = in_all in_func funcs k
func_keyed (Enum word conforms cases funcs) k = in_all in_func funcs k
func_keyed (Class written word conforms props inits funcs) k = in_all in_func funcs k
func_keyed (Actor word props inits funcs) k = in_all in_func funcs k
func_keyed (GlobalActor word made) k = 0
func_keyed (Func func) k = in_func func k
func_keyed (Global prop) k = 0

abbrev pub global_keyed : Decl → Weight
global_keyed (Entry word written at is_async body) k = 0
global_keyed (Struct word conforms fields funcs) k = 0
global_keyed (Enum word conforms cases funcs) k = 0
global_keyed (Class written word conforms props inits funcs) k = 0
global_keyed (Actor word props inits funcs) k = 0
global_keyed (GlobalActor word made) k = 0
global_keyed (Func func) k = 0
global_keyed (Global prop) k = hits prop.word.at k

-- Two weights of a declaration are of keys of their own.
abbrev AreApart : (Decl → Weight) → (Decl → Weight) → Type 0
AreApart w v = (decl : Decl) (k : ℕ) → w decl k + v decl k ≤ in_decl decl k

maker_func : AreApart maker_keyed func_keyed
maker_func (Entry word written at is_async body) k = omega arith
maker_func (Struct word conforms fields funcs) k =
    omega (arith, keys.in_decl-Struct word conforms fields funcs k)
maker_func (Enum word conforms cases funcs) k =
    omega (arith, keys.in_decl-Enum word conforms cases funcs k)
maker_func (Class written word conforms props inits funcs) k =
    omega (arith, keys.in_decl-Class written word conforms props inits funcs k)
maker_func (Actor word props inits funcs) k =
    omega (arith, keys.in_decl-Actor word props inits funcs k)
maker_func (GlobalActor word made) k = omega arith
maker_func (Func func) k = omega (arith, keys.in_decl-Func func k)
maker_func (Global prop) k = omega arith

-- and those of global variables are apart from functions, initialisers and closures
global_func : AreApart global_keyed func_keyed
global_func (Entry word written at is_async body) k = omega arith
global_func (Struct word conforms fields funcs) k =
    omega (arith, keys.in_decl-Struct word conforms fields funcs k)
global_func (Enum word conforms cases funcs) k =
    omega (arith, keys.in_decl-Enum word conforms cases funcs k)
global_func (Class written word conforms props inits funcs) k =
    omega (arith, keys.in_decl-Class written word conforms props inits funcs k)
global_func (Actor word props inits funcs) k =
    omega (arith, keys.in_decl-Actor word props inits funcs k)
global_func (GlobalActor word made) k = omega arith
global_func (Func func) k = omega (arith, keys.in_decl-Func func k)
global_func (Global prop) k =
    omega (arith, keys.in_decl-Global prop k, keys.in_prop-is prop k)

global_maker : AreApart global_keyed maker_keyed
global_maker (Entry word written at is_async body) k = omega arith
global_maker (Struct word conforms fields funcs) k = omega arith
global_maker (Enum word conforms cases funcs) k = omega arith
global_maker (Class written word conforms props inits funcs) k =
    omega (arith, keys.in_decl-Class written word conforms props inits funcs k)
global_maker (Actor word props inits funcs) k =
    omega (arith, keys.in_decl-Actor word props inits funcs k)
global_maker (GlobalActor word made) k = omega arith
global_maker (Func func) k = omega arith
global_maker (Global prop) k =
    omega (arith, keys.in_decl-Global prop k, keys.in_prop-is prop k)

global_deep : AreApart global_keyed deep_of
global_deep (Entry word written at is_async body) k =
    omega (arith, deep_counted (Entry word written at is_async body) k)
global_deep (Struct word conforms fields funcs) k =
    omega (arith, deep_counted (Struct word conforms fields funcs) k)
global_deep (Enum word conforms cases funcs) k =
    omega (arith, deep_counted (Enum word conforms cases funcs) k)
global_deep (Class written word conforms props inits funcs) k =
    omega (arith, deep_counted (Class written word conforms props inits funcs) k)
global_deep (Actor word props inits funcs) k =
    omega (arith, deep_counted (Actor word props inits funcs) k)
global_deep (GlobalActor word made) k = omega arith
global_deep (Func func) k = omega (arith, deep_counted (Func func) k)
global_deep (Global prop) k =
    omega (arith, keys.in_decl-Global prop k, keys.in_prop-is prop k)

-- a key that a declaration counts
pub record KeyedBy (decls : List Decl) (w : Decl → Weight) (key : ℕ) : Type 0 where
  pub n : ℕ
  pub g : ℕ
  pub decl : Decl
  pub stands : Stands decls n g decl
  pub counted : 1 ≤ w decl key

-- No key is counted by two weights that are apart.
never_both : (decls : List Decl) → AreKeyed decls → (w v : Decl → Weight) → AreApart w v
    → (key : ℕ) → KeyedBy decls w key → KeyedBy decls v key → ⊥
never_both decls keyed w v apart key one other =
    let same = one_place decls one.n one.g one.decl other.n other.g other.decl key keyed one.stands
    other.stands (omega (arith, one.counted, apart one.decl key))
    (omega (arith, other.counted, apart other.decl key)) in
    omega (
      arith,
      one.counted,
      other.counted,
      apart one.decl key,
      ap (λ decl. v decl key) same.same,
      counted_where 0 0 decls one.n one.g one.decl key one.stands,
      key_once decls keyed key,
    )

module _ (decls : List Decl) (keyed : AreKeyed decls) (key : ℕ) where
  pub no_maker_func : KeyedBy decls maker_keyed key → KeyedBy decls func_keyed key → ⊥
  no_maker_func = never_both decls keyed maker_keyed func_keyed maker_func key

  pub no_global_func : KeyedBy decls global_keyed key → KeyedBy decls func_keyed key → ⊥
  no_global_func = never_both decls keyed global_keyed func_keyed global_func key

  pub no_global_maker : KeyedBy decls global_keyed key → KeyedBy decls maker_keyed key → ⊥
  no_global_maker = never_both decls keyed global_keyed maker_keyed global_maker key

  pub no_global_deep : KeyedBy decls global_keyed key → KeyedBy decls deep_of key → ⊥
  no_global_deep = never_both decls keyed global_keyed deep_of global_deep key

-- the key of an initialiser
pub init_counted : (word : ℕ) (inits : List InitTree)
    → 1 ≤ hits word (init_key word inits) + in_all in_init inits (init_key word inits)
init_counted word [] = omega (arith, hits_same word)
init_counted word (init ∷ inits) =
    omega (
      arith,
      in_all-cons in_init init inits init.at,
      keys.in_init-is init init.at,
      hits_same init.at,
    )

-- the key of a method
method_counted : (decl : Decl) (tree : FuncTree) → Contains (trees_of decl) tree
    → 1 ≤ func_keyed decl tree.word.at
method_counted decl tree has = by decl has where
  own : 1 ≤ in_func tree tree.word.at
  own = omega (arith, keys.in_func-is tree tree.word.at, hits_same tree.word.at)

  in_funcs : (funcs : List FuncTree) → Contains funcs tree
      → 1 ≤ in_all in_func funcs tree.word.at
  in_funcs funcs among =
      omega (arith, own, counted_in in_func funcs tree tree.word.at among)

  by : (decl : Decl) → Contains (trees_of decl) tree → 1 ≤ func_keyed decl tree.word.at
  by (Entry word written at is_async body) among = absurd (none_in tree among)
  by (Struct word conforms fields funcs) among = in_funcs funcs among
  by (Enum word conforms cases funcs) among = in_funcs funcs among
  by (Class written word conforms props inits funcs) among = in_funcs funcs among
  by (Actor word props inits funcs) among = in_funcs funcs among
  by (GlobalActor word made) among = absurd (none_in tree among)
  by (Func func) among = absurd (none_in tree among)
  by (Global prop) among = absurd (none_in tree among)

module _ (decls : List Decl) (rule : AsyncDefault) (world : World)
    (is : IsWorldOf decls rule world) where
  keyed_func : (key : ℕ) → IsFuncKey world key → KeyedBy decls func_keyed key
  keyed_func key (of_top id meant) =
      let one = func_place decls id key (sym (is.words id) ∙ meant) in record {
        n = one.n;
        g = one.g;
        decl = Func one.tree;
        stands = one.stands;
        counted = omega (
          arith,
          keys.in_func-is one.tree key,
          hits_same key,
          ap (λ at. hits at key) one.word,
        );
      }
  keyed_func key (of_type k id member found role same) =
      let one = method_place decls k id member (sym (is.members k id) ∙ found) role in record {
        n = one.n;
        g = one.g;
        decl = one.decl;
        stands = one.stands;
        counted = omega (
          arith,
          method_counted one.decl one.tree one.has,
          ap (func_keyed one.decl) (one.word ∙ same),
        );
      }

  -- the key of a function that may be meant
  pub func_by : (n : ℕ) (func : Signature) → IsFuncNumber world n
      → slice_get world.funcs n ≡ Some func → KeyedBy decls func_keyed func.key.at
  func_by n func meant at =
      let one = keyed_func meant.key meant.is in
      let same : func.key.at ≡ meant.key =
      numbered_key world.funcs meant.key n func (sym (is.numbers meant.key) ∙ meant.number) at in
      record {
        n = one.n;
        g = one.g;
        decl = one.decl;
        stands = one.stands;
        counted = omega (arith, one.counted, ap (func_keyed one.decl) same);
      }

  -- and that of a global variable
  pub global_by : (global : GlobalVar) → Contains world.globals global
      → KeyedBy decls global_keyed global.key.at
  global_by global has =
      let (g, at) = place_in world.globals global has in
      let one = global_at decls rule world is g global at in record {
        n = one.n;
        g = g;
        decl = Global one.prop;
        stands = one.stands;
        counted = omega (
          arith,
          hits_same global.key.at,
          ap (λ key. hits key global.key.at) one.key,
        );
      }
