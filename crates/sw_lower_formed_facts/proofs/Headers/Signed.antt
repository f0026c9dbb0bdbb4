-- The function of a signature's body has the signature's header.
use Rattle.std.proofs.Common.{◌≡◌, ℕ, Option, Some, List, ◌++◌, map, Contains, ap, sym, ◌∙◌, subst}
use Rattle.std.proofs.lemmas.List.{map-append}
use Rattle.std.proofs.lemmas.List.Sorted.{Contains-permutation}
use Rattle.std.specs.Prelude.{slice_get}
use Rattle.sw_tree.specs.Contents.{AreKeyed}
use Rattle.sw_tree.specs.declared.decl.Decl.{Decl}
use Rattle.sw_tree.specs.declared.decl.FuncTree.{FuncTree}
use Rattle.sw_types.specs.declared.isolation.Iso.{Iso}
use Rattle.sw_graph.specs.declared.function.RegKind.{RegKind}
use Rattle.sw_decl_words.specs.Words.{top_meaning}
use Rattle.sw_decl_words.specs.declared.words.Meaning.{Meaning}
use Rattle.sw_decls.specs.Declaring.{key_place}
use Rattle.sw_decls.specs.Signatures.{func_of, funcs_from, funcs_of}
use Rattle.sw_decls.specs.declared.signature.AsyncDefault.{AsyncDefault}
use Rattle.sw_decls.specs.declared.signature.Signature.{Signature}
use Rattle.sw_typing_rules.specs.Programs.{bodies_of, func_body}
use Rattle.sw_typing_rules.specs.Worlds.{IsWorldOf, World, item}
use Rattle.sw_isolation_rules.specs.Answers.{Answers, for_some}
use Rattle.sw_isolation_rules.specs.Programs.{func_at}
use Rattle.sw_lower_code.specs.Code.{Code}
use Rattle.sw_lower_code.specs.Whole.{Body}
use Rattle.sw_lower_code.specs.declared.taken.Taken.{Taken}
use Rattle.sw_lower_rules.specs.Bodies.{AreNumbered, AreOrdered, decl_bodies, func_bodies}
use Rattle.sw_lower_rules.specs.Bodies.{func_signed, func_tree_bodies, functions_of, numbers_of}
use Rattle.sw_lower_rules.specs.Bodies.{param_taken, program_bodies, self_taken, signed, tables_of}
use Rattle.sw_lower_rules.specs.Expressions.{body_code}
use Rattle.sw_lower_rules.specs.Statements.{block_code}
use Rattle.sw_lower_rules.specs.Tables.{Isolation, Tables, plain}
use Rattle.sw_lower_formed_facts.specs.Ground.{IsHeader, params_of}
use Rattle.sw_lower_formed_facts.proofs.Headers.ByName.{header_of}
use Rattle.sw_lower_formed_facts.proofs.Headers.ParamTypes.{AreAnswered, are_typed, kind_of, kinds_are}
use Rattle.sw_typing_facts.proofs.Lists.Listed.{in_first, in_place}
use Rattle.sw_typing_facts.proofs.Programs.MadeOf.{func_stands, typed_stands}
use Rattle.sw_lower_formed_facts.proofs.Bodies.MadeOf.{body_stands}
use Rattle.sw_typing_facts.proofs.Programs.SignatureKeys.{numbered_key, one_signature}
use Rattle.sw_typing_facts.proofs.Programs.Standing.{Stands}

-- what is made of what is found
pub for_found : {A B : Type 0} (found : Option A) (x : A) (f : A → List B) (y : B) → found ≡ Some x
    → Contains (f x) y → Contains (for_some found f) y
for_found found x f y is has = subst (λ one. Contains (for_some one f) y) (sym is) has

-- The functions of a program, in an order in which each is found by its name.
module _ (world : World) (answers : Answers) (isolation : Isolation) (decls : List Decl)
    (rule : AsyncDefault) (keys : AreKeyed decls)
    (is : IsWorldOf decls rule world) (ordered : List Body)
    (are : AreOrdered (tables_of world answers isolation decls) decls ordered)
    (numbered : AreNumbered ordered) where
  abbrev tables : Tables
  tables = tables_of world answers isolation decls

  abbrev known : ℕ → Option Meaning
  known = top_meaning decls

  -- the header of the function of a signature, by the kinds of what it takes
  pub signed_header : (func : Signature) (takes : List Taken) (code : Code (Unit {0})) (f : ℕ)
      (kinds : List RegKind)
      → Contains (program_bodies tables decls) (signed tables func takes code)
      → numbers_of ordered (plain func.key.at) ≡ Some f → map kind_of takes ≡ kinds
      → IsHeader (functions_of ordered) kinds func.result f
  signed_header func takes code f kinds has found same =
      subst (λ all. IsHeader (functions_of ordered) all func.result f) same
      (header_of (program_bodies tables decls) ordered are.bodies numbered
      (signed tables func takes code) f has found)

  -- a function of a key that is found is found by it
  pub func_found : (key n : ℕ) (func : Signature) → world.numbers key ≡ Some n
      → slice_get world.funcs n ≡ Some func → func_at world answers key ≡ Some func
  unfolding func_at
  func_found key n func number at = ap (λ found. item found world.funcs) number ∙ at

  -- and it is the one that is declared with the key
  pub declared_func : (key n : ℕ) (func one : Signature) → world.numbers key ≡ Some n
      → slice_get world.funcs n ≡ Some func → Contains (funcs_from known rule 0 decls) one
      → key_place one ≡ key → func ≡ one
  declared_func key n func one number at declared same =
      one_signature decls rule world keys is func one (in_place world.funcs n func at)
      (Contains-permutation (funcs_from known rule 0 decls) world.funcs one is.funcs declared)
      (numbered_key world.funcs key n func (sym (is.numbers key) ∙ number) at ∙ sym same)

  module _ (typed_once : AreAnswered world answers decls) where
    -- the header of the function of a function's tree
    pub tree_header : (n g : ℕ) (decl : Decl) (owner : Option ℕ) (actor : Iso) (tree : FuncTree)
        (kinds : List RegKind) → Stands decls n g decl
        → Contains (funcs_of known rule n decl) (func_of known rule owner actor tree)
        → Contains (bodies_of world n decl) (func_body world owner tree)
        → ((body : Body) → Contains (func_tree_bodies tables tree) body
        → Contains (decl_bodies tables n g decl) body)
        → map kind_of (self_taken tables owner) ≡ kinds
        → (key place f : ℕ) (func : Signature) → tree.word.at ≡ key
        → world.numbers key ≡ Some place → slice_get world.funcs place ≡ Some func
        → numbers_of ordered (plain func.key.at) ≡ Some f
        → IsHeader (functions_of ordered) (kinds ++ params_of func) func.result f
    unfolding func_bodies
    tree_header n g decl owner actor tree kinds stands declared typed made self key place f func
        word number at found =
        let one : Signature = func_of known rule owner actor tree in
        let same : func ≡ one =
        declared_func key place func one number at
        (func_stands known rule decls n g decl one stands declared) word in
        let code = block_code tables func.owner tree.body in
        let takes : List Taken =
        self_taken tables func.owner ++ map (param_taken tables) tree.params in
        let has : Contains (func_tree_bodies tables tree)
        (signed tables func takes (body_code func.result code)) =
        for_found (func_at world answers tree.word.at) func
        (func_signed tables tree.params tree.body)
        (signed tables func takes (body_code func.result code))
        (func_found tree.word.at place func (ap world.numbers word ∙ number) at)
        (in_first (signed tables func takes (body_code func.result code)) code.inside) in
        let params : params_of func ≡ map kind_of (map (param_taken tables) tree.params) =
        ap params_of same
        ∙ sym (kinds_are tables known tree.params
        (are_typed world answers decls rule is typed_once (func_body world owner tree)
        (typed_stands world decls n g decl (func_body world owner tree) stands typed))) in
        signed_header func takes (body_code func.result code) f (kinds ++ params_of func)
        (body_stands tables decls n g decl (signed tables func takes (body_code func.result code))
        stands (made (signed tables func takes (body_code func.result code)) has))
        found
        (map-append kind_of (self_taken tables func.owner) (map (param_taken tables) tree.params)
        ∙ ap (λ (by : Option ℕ). map kind_of (self_taken tables by)
        ++ map kind_of (map (param_taken tables) tree.params))
        (ap (λ (x : Signature). x.owner) same)
        ∙ ap (λ all. all ++ map kind_of (map (param_taken tables) tree.params)) self
        ∙ ap (λ all. kinds ++ all) (sym params))
