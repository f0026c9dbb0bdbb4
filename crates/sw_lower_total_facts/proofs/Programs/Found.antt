-- A key that a function has finds a function with the key.
use Rattle.std.proofs.Common.{◌≡◌, ℕ, zero, suc, ◌+◌, Bool, true, false, List, [], ◌∷◌, Some, None}
use Rattle.std.proofs.Common.{Contains, refl, ap, sym, ◌∙◌, subst, arith}
use Rattle.std.proofs.lemmas.Bool.{eq-eqb}
use Rattle.std.proofs.lemmas.List.Sorted.{Contains-permutation, IsPermutation-sym}
use Rattle.std.specs.Prelude.{◌==◌, if◌then◌else◌, slice_get}
use Rattle.sw_list.proofs.Members.{none_in}
use Rattle.sw_tree.specs.declared.decl.Decl.{Decl}
use Rattle.sw_decl_words.specs.Words.{or_else, top_meaning}
use Rattle.sw_decls.specs.Declaring.{key_place, numbered_from}
use Rattle.sw_decls.specs.Signatures.{funcs_from, funcs_of}
use Rattle.sw_decls.specs.declared.signature.AsyncDefault.{AsyncDefault}
use Rattle.sw_decls.specs.declared.signature.Signature.{Signature}
use Rattle.sw_typing_rules.specs.Worlds.{IsWorldOf, World, item}
use Rattle.sw_isolation_rules.specs.Answers.{Answers}
use Rattle.sw_isolation_rules.specs.Programs.{func_at}
use Rattle.sw_lower_formed_facts.proofs.Headers.FoundFuncs.{found_func}
use Rattle.sw_typing_facts.proofs.Programs.MadeOf.{func_stands, funcs_are}
use Rattle.sw_typing_facts.proofs.Programs.SignatureKeys.{numbered_key}
use Rattle.sw_typing_facts.proofs.Programs.Standing.{MadeBy, Stands, maker_of}

-- the number of a key, and the function with that number, of functions that are numbered from here
record Numbered (from : ℕ) (funcs : List Signature) (key : ℕ) : Type 0 where
  place : ℕ
  func : Signature
  is : numbered_from from funcs key ≡ Some (from + place)
  at : slice_get funcs place ≡ Some func

first_numbered : (from : ℕ) (one : Signature) (funcs : List Signature) (key : ℕ)
    → (key_place one == key) ≡ true → Numbered from (one ∷ funcs) key
first_numbered from one funcs key same = record {
  place = 0;
  func = one;
  is = ap (λ (test : Bool). or_else (if test then Some from else None)
      (numbered_from (from + 1) funcs key)) same
      ∙ ap Some (let here : from ≡ from + 0 = omega arith in here);
  at = refl;
}

later_numbered : (from : ℕ) (one : Signature) (funcs : List Signature) (key : ℕ)
    → (key_place one == key) ≡ false → Numbered (from + 1) funcs key
    → Numbered from (one ∷ funcs) key
later_numbered from one funcs key differ later = record {
  place = suc later.place;
  func = later.func;
  is = ap (λ (test : Bool). or_else (if test then Some from else None)
      (numbered_from (from + 1) funcs key)) differ
      ∙ later.is
      ∙ ap Some
      (let next : (from + 1) + later.place ≡ from + suc later.place = omega arith in next);
  at = later.at;
}

numbered_in : (from : ℕ) (funcs : List Signature) (key : ℕ) (func : Signature)
    → Contains funcs func → key_place func ≡ key → Numbered from funcs key
numbered_in from [] key func has same = absurd (none_in func has)
numbered_in from (one ∷ funcs) key func (zero, below, is) same =
    first_numbered from one funcs key (eq-eqb (key_place one) key (ap key_place is ∙ same))
numbered_in from (one ∷ funcs) key func (suc k, below, is) same =
    by (key_place one == key) refl
    (numbered_in (from + 1) funcs key func (k, omega (arith, below), is) same) where
      by : (here : Bool) → (key_place one == key) ≡ here → Numbered (from + 1) funcs key
          → Numbered from (one ∷ funcs) key
      by true here later = first_numbered from one funcs key here
      by false here later = later_numbered from one funcs key here later

-- a function that is found by its key
pub record FuncAt (world : World) (key : ℕ) : Type 0 where
  pub place : ℕ
  pub func : Signature
  pub number : world.numbers key ≡ Some place
  pub at : slice_get world.funcs place ≡ Some func
  pub key_is : func.key.at ≡ key

module _ (decls : List Decl) (rule : AsyncDefault) (world : World)
    (is : IsWorldOf decls rule world) where
  -- a function of a declaration is one of the world's
  pub func_there : (n g : ℕ) (decl : Decl) (func : Signature) → Stands decls n g decl
      → Contains (funcs_of (top_meaning decls) rule n decl) func → Contains world.funcs func
  func_there n g decl func stands has =
      Contains-permutation (funcs_from (top_meaning decls) rule 0 decls) world.funcs func is.funcs
      (func_stands (top_meaning decls) rule decls n g decl func stands has)

  -- the declaration of a function
  pub func_made : (func : Signature) → Contains world.funcs func
      → MadeBy (λ n g decl. funcs_of (top_meaning decls) rule n decl) 0 0 decls func
  func_made func has =
      maker_of (λ n g decl. funcs_of (top_meaning decls) rule n decl) 0 0 decls func
      (subst (λ funcs. Contains funcs func) (funcs_are (top_meaning decls) rule 0 0 decls)
      (Contains-permutation world.funcs (funcs_from (top_meaning decls) rule 0 decls) func
      (IsPermutation-sym (funcs_from (top_meaning decls) rule 0 decls) world.funcs is.funcs) has))

  -- The key of a function finds a function.
  pub func_at_key : (func : Signature) (key : ℕ) → Contains world.funcs func → func.key.at ≡ key
      → FuncAt world key
  func_at_key func key has same =
      let one = numbered_in 0 world.funcs key func has same in
      let number : world.numbers key ≡ Some one.place =
      is.numbers key ∙ one.is ∙ ap Some (let here : 0 + one.place ≡ one.place = omega arith in here)
      in record {
        place = one.place;
        func = one.func;
        number = number;
        at = one.at;
        key_is = numbered_key world.funcs key one.place one.func (sym (is.numbers key) ∙ number)
            one.at;
      }

  -- A function that is found by a key has the key.
  pub key_found : (answers : Answers) (key : ℕ) (func : Signature)
      → func_at world answers key ≡ Some func → func.key.at ≡ key
  key_found answers key func found =
      let here = found_func world answers key func found in
      numbered_key world.funcs key here.place func (sym (is.numbers key) ∙ here.number) here.at

-- A function that is found by its key is found so.
pub found_at : (world : World) (answers : Answers) (key : ℕ) (one : FuncAt world key)
    → func_at world answers key ≡ Some one.func
unfolding func_at
found_at world answers key one = ap (λ found. item found world.funcs) one.number ∙ one.at
