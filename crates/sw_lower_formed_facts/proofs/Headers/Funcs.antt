-- Functions at top level are found by their names.
use Rattle.std.proofs.Common.{◌≡◌, ℕ, ◌+◌, Option, Some, None, List, [], ◌∷◌, Bool, true, false}
use Rattle.std.proofs.Common.{Contains, inl, inr, refl, sym, ◌∙◌}
use Rattle.std.specs.Prelude.{◌==◌, if◌then◌else◌, slice_get}
use Rattle.sw_tree.specs.Contents.{AreKeyed}
use Rattle.sw_tree.specs.declared.decl.Decl.{Decl}
use Rattle.sw_tree.specs.declared.decl.Decl.TheVariants.{Entry, Struct, Enum, Class, Actor}
use Rattle.sw_tree.specs.declared.decl.Decl.TheVariants.{GlobalActor, Func, Global}
use Rattle.sw_tree.specs.declared.decl.FuncTree.{FuncTree}
use Rattle.sw_types.specs.declared.isolation.Iso.TheVariants as iso
use Rattle.sw_decl_words.specs.Words.{actors_made, declares, globals_made as globals_of, meaning_at}
use Rattle.sw_decl_words.specs.Words.{meaning_from, or_else, shapes_made, top_meaning, word_of}
use Rattle.sw_decl_words.specs.declared.words.Meaning.{Meaning}
use Rattle.sw_decl_words.specs.declared.words.Meaning.TheVariants as means
use Rattle.sw_decls.specs.Signatures.{func_of, funcs_of}
use Rattle.sw_decls.specs.declared.signature.AsyncDefault.{AsyncDefault}
use Rattle.sw_decls.specs.declared.signature.Signature.{Signature}
use Rattle.sw_typing_rules.specs.Programs.{bodies_of, func_body}
use Rattle.sw_typing_rules.specs.Worlds.{IsWorldOf, World}
use Rattle.sw_isolation_rules.specs.Answers.{Answers}
use Rattle.sw_lower_code.specs.Whole.{Body}
use Rattle.sw_lower_rules.specs.Bodies.{AreNumbered, AreOrdered, decl_bodies, func_tree_bodies}
use Rattle.sw_lower_rules.specs.Bodies.{functions_of, numbers_of, tables_of}
use Rattle.sw_decl_words.specs.Words.{globals_made}
use Rattle.sw_lower_rules.specs.Tables.{Isolation, Tables, plain}
use Rattle.sw_lower_formed_facts.specs.Ground.{IsHeader, params_of}
use Rattle.sw_lower_formed_facts.proofs.Headers.ParamTypes.{AreAnswered}
use Rattle.sw_lower_formed_facts.proofs.Headers.Signed.{tree_header}
use Rattle.sw_typing_facts.proofs.Lists.Listed.{in_first}
use Rattle.sw_typing_facts.proofs.Programs.Standing.{StandsFrom}

-- where a function is declared
pub record FuncPlace (number index : ℕ) (decls : List Decl) (key : ℕ) : Type 0 where
  pub n : ℕ
  pub g : ℕ
  pub tree : FuncTree
  pub stands : StandsFrom number index decls n g (Func tree)
  pub word : tree.word.at ≡ key

-- the function of a declaration whose word means one
func_here : (number index : ℕ) (decl : Decl) (decls : List Decl) (shapes actors globals key : ℕ)
    → meaning_at decl shapes actors globals ≡ means.Func key
    → FuncPlace number index (decl ∷ decls) key
func_here number index (Entry word written at is_async body) decls shapes actors globals key is = cc
func_here number index (Struct word conforms fields funcs) decls shapes actors globals key is = cc
func_here number index (Enum word conforms cases funcs) decls shapes actors globals key is = cc
func_here number index (Class written word conforms props inits funcs) decls shapes actors globals
    key is = cc
func_here number index (Actor word props inits funcs) decls shapes actors globals key is = cc
func_here number index (GlobalActor word made) decls shapes actors globals key is = cc
func_here number index (Func func) decls shapes actors globals key is = record {
  n = number;
  g = index;
  tree = func;
  stands = inl (refl, refl, refl);
  word = (let same : func.word.at ≡ key = cc in same);
}
func_here number index (Global global) decls shapes actors globals key is = cc

-- the function of the first declaration of a word
func_meant : (number index : ℕ) (decls : List Decl) (shapes actors globals id key : ℕ)
    → meaning_from decls shapes actors globals id ≡ Some (means.Func key)
    → FuncPlace number index decls key
func_meant number index [] shapes actors globals id key is = cc
func_meant number index (decl ∷ decls) shapes actors globals id key is =
    by (declares (word_of decl).id id) is
    (func_meant (number + shapes_made decl) (index + globals_made decl) decls
    (shapes + shapes_made decl) (actors + actors_made decl) (globals + globals_of decl) id key)
  where
    rest : Option Meaning
    rest = meaning_from decls (shapes + shapes_made decl) (actors + actors_made decl)
        (globals + globals_of decl) id

    by : (here : Bool)
        → or_else (if here then Some (meaning_at decl shapes actors globals) else None) rest
        ≡ Some (means.Func key)
        → (rest ≡ Some (means.Func key)
        → FuncPlace (number + shapes_made decl) (index + globals_made decl) decls key)
        → FuncPlace number index (decl ∷ decls) key
    by true first later =
        func_here number index decl decls shapes actors globals key
        (let same : meaning_at decl shapes actors globals ≡ means.Func key = cc in same)
    by false second later =
        let one = later second in record {
          n = one.n;
          g = one.g;
          tree = one.tree;
          stands = inr one.stands;
          word = one.word;
        }

-- the function that a word means at top level
pub func_place : (decls : List Decl) (id key : ℕ) → top_meaning decls id ≡ Some (means.Func key)
    → FuncPlace 0 0 decls key
func_place decls id key is = by (6 == id) is where
  by : (given : Bool)
      → or_else (if given then Some (means.GlobalActor 0) else None)
      (meaning_from decls 0 1 0 id) ≡ Some (means.Func key)
      → FuncPlace 0 0 decls key
  by true never = cc
  by false found = func_meant 0 0 decls 0 1 0 id key found

-- what is made of a function's declaration
func_declared : (known : ℕ → Option Meaning) (rule : AsyncDefault) (n : ℕ) (tree : FuncTree)
    → Contains (funcs_of known rule n (Func tree)) (func_of known rule None iso.Free tree)
unfolding funcs_of
func_declared known rule n tree = in_first (func_of known rule None iso.Free tree) []

func_typed : (world : World) (n : ℕ) (tree : FuncTree)
    → Contains (bodies_of world n (Func tree)) (func_body world None tree)
unfolding bodies_of
func_typed world n tree = in_first (func_body world None tree) []

pub func_made : (tables : Tables) (n g : ℕ) (tree : FuncTree) (body : Body)
    → Contains (func_tree_bodies tables tree) body
    → Contains (decl_bodies tables n g (Func tree)) body
unfolding decl_bodies
func_made tables n g tree body has = has

module _ (world : World) (answers : Answers) (isolation : Isolation) (decls : List Decl)
    (rule : AsyncDefault) (keys : AreKeyed decls)
    (is : IsWorldOf decls rule world) (ordered : List Body)
    (are : AreOrdered (tables_of world answers isolation decls) decls ordered)
    (numbered : AreNumbered ordered) (typed_once : AreAnswered world answers decls) where
  -- the function that a word means
  pub func_headers : (id key n f : ℕ) (func : Signature)
      → world.known.top id ≡ Some (means.Func key) → world.numbers key ≡ Some n
      → slice_get world.funcs n ≡ Some func → numbers_of ordered (plain func.key.at) ≡ Some f
      → IsHeader (functions_of ordered) (params_of func) func.result f
  func_headers id key n f func meant number at found =
      let one = func_place decls id key (sym (is.words id) ∙ meant) in
      tree_header world answers isolation decls rule keys is ordered are numbered typed_once
      one.n one.g (Func one.tree) None iso.Free one.tree [] one.stands
      (func_declared (top_meaning decls) rule one.n one.tree) (func_typed world one.n one.tree)
      (func_made (tables_of world answers isolation decls) one.n one.g one.tree) refl key n f func
      one.word number at found
