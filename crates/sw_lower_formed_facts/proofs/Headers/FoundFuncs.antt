-- The function that is found by a key is the one that is declared with it.
use Rattle.std.proofs.Common.{◌≡◌, ℕ, List, Option, Some, None, refl, sym, ◌∙◌, Contains}
use Rattle.std.proofs.lemmas.List.Sorted.{Contains-permutation}
use Rattle.std.specs.Prelude.{slice_get}
use Rattle.sw_tree.specs.Contents.{AreKeyed}
use Rattle.sw_tree.specs.declared.decl.Decl.{Decl}
use Rattle.sw_decl_words.specs.Words.{top_meaning}
use Rattle.sw_decls.specs.Declaring.{key_place}
use Rattle.sw_decls.specs.Signatures.{funcs_from}
use Rattle.sw_decls.specs.declared.signature.AsyncDefault.{AsyncDefault}
use Rattle.sw_decls.specs.declared.signature.Signature.{Signature}
use Rattle.sw_typing_rules.specs.Worlds.{IsWorldOf, World, item}
use Rattle.sw_isolation_rules.specs.Answers.{Answers}
use Rattle.sw_isolation_rules.specs.Programs.{func_at}
use Rattle.sw_typing_facts.proofs.Lists.Listed.{in_place}
use Rattle.sw_typing_facts.proofs.Programs.SignatureKeys.{numbered_key, one_signature}

-- a function with its number
pub record FuncFound (world : World) (key : ℕ) (func : Signature) : Type 0 where
  pub place : ℕ
  pub number : world.numbers key ≡ Some place
  pub at : slice_get world.funcs place ≡ Some func

-- A signature that is found by a key is one of the program's.
pub found_func : (world : World) (answers : Answers) (key : ℕ) (func : Signature)
    → func_at world answers key ≡ Some func → FuncFound world key func
unfolding func_at
found_func world answers key func found = by (world.numbers key) refl found where
  by : (place : Option ℕ) → world.numbers key ≡ place → item place world.funcs ≡ Some func
      → FuncFound world key func
  by None number found = cc
  by (Some place) number found = record { place = place; number = number; at = found }

-- A signature that is found by the key of a declared one is that one.
pub func_is : (decls : List Decl) (rule : AsyncDefault) (world : World) (answers : Answers)
    → AreKeyed decls → IsWorldOf decls rule world → (key : ℕ) (func one : Signature)
    → func_at world answers key ≡ Some func
    → Contains (funcs_from (top_meaning decls) rule 0 decls) one → key_place one ≡ key → func ≡ one
func_is decls rule world answers keyed is key func one found declared same =
    let here = found_func world answers key func found in
    one_signature decls rule world keyed is func one (in_place world.funcs here.place func here.at)
    (Contains-permutation (funcs_from (top_meaning decls) rule 0 decls) world.funcs one is.funcs
    declared)
    (numbered_key world.funcs key here.place func (sym (is.numbers key) ∙ here.number) here.at
    ∙ sym same)
