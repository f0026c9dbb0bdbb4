-- In a program the key of a function is that of one function, and of no struct or enum.
use Rattle.std.proofs.Common.{◌≡◌, ℕ, suc, ◌+◌, ◌-◌, ◌≤◌, Some, None, List, [], ◌∷◌}
use Rattle.std.proofs.Common.{Bool, true, false, Contains, refl, ap, sym, ◌∙◌, subst}
use Rattle.std.proofs.Common.{arith}
use Rattle.std.proofs.lemmas.Bool.{eqb-true}
use Rattle.std.proofs.lemmas.List.Sorted.{Contains-permutation, IsPermutation-sym}
use Rattle.std.proofs.lemmas.Option.{same_Some}
use Rattle.std.specs.Prelude.{◌==◌, if◌then◌else◌, slice_get}
use Rattle.sw_tree.proofs.Counting.{hits, hits_same}
use Rattle.sw_tree.specs.Contents.{AreKeyed}
use Rattle.sw_tree.specs.declared.decl.Decl.{Decl}
use Rattle.sw_decl_words.specs.Words.{or_else, top_meaning}
use Rattle.sw_decls.specs.Declaring.{key_place, numbered, numbered_from}
use Rattle.sw_decls.specs.Signatures.{funcs_from}
use Rattle.sw_decls.specs.declared.signature.AsyncDefault.{AsyncDefault}
use Rattle.sw_decls.specs.declared.signature.Signature.{Signature}
use Rattle.sw_typing_rules.proofs.OneWorld.{keyed, keyed_from, value_word}
use Rattle.sw_typing_rules.specs.Worlds.{IsWorldOf, World}
use Rattle.sw_typing_facts.proofs.Programs.Keyed.{counted_in, key_once, one_item}

own_key : (func : Signature) (k : ℕ) → key_place func ≡ k → 1 ≤ keyed func k
own_key func k is = omega (arith, hits_same k, ap (λ at. hits at k) is)

module _ (decls : List Decl) (rule : AsyncDefault) (world : World) (keys : AreKeyed decls)
    (is : IsWorldOf decls rule world) where
  declared : (func : Signature) → Contains world.funcs func
      → Contains (funcs_from (top_meaning decls) rule 0 decls) func
  declared func has =
      Contains-permutation world.funcs (funcs_from (top_meaning decls) rule 0 decls) func
      (IsPermutation-sym (funcs_from (top_meaning decls) rule 0 decls) world.funcs is.funcs) has

  -- Functions with one key are one function.
  pub one_signature : (one other : Signature) → Contains world.funcs one
      → Contains world.funcs other → key_place one ≡ key_place other → one ≡ other
  one_signature one other has holds same =
      let k = key_place other in
      one_item keyed (funcs_from (top_meaning decls) rule 0 decls) one other k
      (omega (arith, key_once decls keys k, keyed_from (top_meaning decls) rule 0 decls k))
      (declared one has) (declared other holds) (own_key one k same) (own_key other k refl)

  -- The word of a struct or an enum is no function's key.
  pub no_signature : (func : Signature) (decl : Decl) → Contains world.funcs func
      → Contains decls decl → 1 ≤ value_word decl (key_place func) → ⊥
  no_signature func decl has stands value =
      let k = key_place func in
      omega (
        arith,
        key_once decls keys k,
        keyed_from (top_meaning decls) rule 0 decls k,
        counted_in keyed (funcs_from (top_meaning decls) rule 0 decls) func k (declared func has),
        own_key func k refl,
        counted_in value_word decls decl k stands,
        value,
      )

numbered_above : (from : ℕ) (funcs : List Signature) (key n : ℕ)
    → numbered_from from funcs key ≡ Some n → from ≤ n
numbered_above from [] key n is = cc
numbered_above from (one ∷ funcs) key n is =
    by (key_place one == key) is (numbered_above (from + 1) funcs key n) where
      by : (here : Bool)
          → or_else (if here then Some from else None) (numbered_from (from + 1) funcs key) ≡ Some n
          → (numbered_from (from + 1) funcs key ≡ Some n → from + 1 ≤ n) → from ≤ n
      by true first later = omega (arith, same_Some from n first)
      by false second later = omega (arith, later second)

numbered_by : (from : ℕ) (funcs : List Signature) (key n : ℕ) (func : Signature)
    → numbered_from from funcs key ≡ Some n → slice_get funcs (n - from) ≡ Some func
    → key_place func ≡ key
numbered_by from [] key n func is at = cc
numbered_by from (one ∷ funcs) key n func is at =
    by (key_place one == key) refl is (numbered_by (from + 1) funcs key n func) where
      by : (here : Bool) → (key_place one == key) ≡ here
          → or_else (if here then Some from else None) (numbered_from (from + 1) funcs key) ≡ Some n
          → (numbered_from (from + 1) funcs key ≡ Some n
          → slice_get funcs (n - (from + 1)) ≡ Some func → key_place func ≡ key)
          → key_place func ≡ key
      by true same first later =
          let zero_is : n - from ≡ 0 = omega (arith, same_Some from n first) in
          let func_is : one ≡ func =
          same_Some one func (subst (λ k. slice_get (one ∷ funcs) k ≡ Some func) zero_is at) in
          ap key_place (sym func_is) ∙ eqb-true (key_place one) key same
      by false differ second later =
          let next : n - from ≡ suc (n - (from + 1)) =
          omega (arith, numbered_above (from + 1) funcs key n second) in
          later second (subst (λ k. slice_get (one ∷ funcs) k ≡ Some func) next at)

-- The function with the number of a key has the key.
pub numbered_key : (funcs : List Signature) (key n : ℕ) (func : Signature)
    → numbered funcs key ≡ Some n → slice_get funcs n ≡ Some func → key_place func ≡ key
numbered_key funcs key n func is at =
    numbered_by 0 funcs key n func is
    (subst (λ k. slice_get funcs k ≡ Some func)
    (let same : n ≡ n - 0 = omega arith in same) at)
