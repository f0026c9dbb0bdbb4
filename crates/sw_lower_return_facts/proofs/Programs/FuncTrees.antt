-- The functions of the functions and methods that a program declares, and of its entry, return
-- their results.
use Rattle.std.proofs.Common.{◌≡◌, ℕ, List, Option, Some, None, refl, sym, subst, Contains}
use Rattle.std.proofs.lemmas.List.Elements.{All-nil}
use Rattle.sw_lower_formed_facts.specs.Programs.{tables_in}
use Rattle.sw_tree.specs.declared.decl.Decl.{Decl}
use Rattle.sw_tree.specs.declared.decl.FuncTree.{FuncTree}
use Rattle.sw_tree.specs.declared.decl.ParamTree.{ParamTree}
use Rattle.sw_tree.specs.declared.stmt.Block.{Block}
use Rattle.sw_types.specs.declared.isolation.Iso.{Iso}
use Rattle.sw_graph.specs.declared.function.Function.{Function}
use Rattle.sw_decl_words.specs.Words.{top_meaning}
use Rattle.sw_decls.specs.Declaring.{key_place}
use Rattle.sw_decls.specs.Signatures.{func_of, funcs_from, funcs_of}
use Rattle.sw_decls.specs.declared.signature.AsyncDefault.{AsyncDefault}
use Rattle.sw_decls.specs.declared.signature.Signature.{Signature}
use Rattle.sw_typing_rules.specs.Programs.{bodies_from, bodies_of, func_body}
use Rattle.sw_typing_rules.specs.Worlds.{World}
use Rattle.sw_isolation_rules.specs.Answers.{for_some}
use Rattle.sw_isolation_rules.specs.Programs.{func_at}
use Rattle.sw_lower_plans.specs.Plan.{Numbers}
use Rattle.sw_lower_rules.specs.Bodies.{func_bodies, func_signed, func_tree_bodies}
use Rattle.sw_lower_rules.specs.Tables.{Isolation, Tables}
use Rattle.sw_lower_formed_facts.proofs.Bodies.FuncBodies.{body_by}
use Rattle.sw_lower_formed_facts.proofs.Bodies.FuncTrees.{tree_typed}
use Rattle.sw_lower_formed_facts.proofs.Bodies.Given.{AllHere, IsProgram}
use Rattle.sw_lower_formed_facts.proofs.Headers.FoundFuncs.{func_is}
use Rattle.sw_typing_facts.proofs.Programs.MadeOf.{func_stands}
use Rattle.sw_typing_facts.proofs.Programs.Standing.{Stands}
use Rattle.sw_lower_return_facts.specs.Forms.{BodyReturns}
use Rattle.sw_lower_return_facts.proofs.Programs.Signed.{AllReturn, signed_returns}

module _ (world : World) (isolation : Isolation) (decls : List Decl) (rule : AsyncDefault)
    (number : Numbers) (functions : List Function)
    (program : IsProgram world isolation decls rule number functions) where
  abbrev its_tables : Tables
  its_tables = tables_in world isolation decls

  -- what is made of a function with a key, where this one is declared with it
  pub keyed_returns : (key at : ℕ) (params : List ParamTree) (block : Block) (one : Signature)
      → Contains (funcs_from (top_meaning decls) rule 0 decls) one → key_place one ≡ key
      → Contains (bodies_from world 0 decls) (body_by at params block one)
      → AllHere its_tables number functions (func_bodies its_tables key params block)
      → AllReturn number (func_bodies its_tables key params block)
  unfolding func_bodies
  keyed_returns key at params block one declared same stands =
      by (func_at world its_tables.answers key) refl where
        by : (found : Option Signature) → func_at world its_tables.answers key ≡ found
            → AllHere its_tables number functions
            (for_some found (func_signed its_tables params block))
            → AllReturn number
            (for_some found (func_signed its_tables params block))
        by None is here = All-nil (BodyReturns number)
        by (Some func) is here =
            signed_returns world isolation decls rule number functions program at params block func
            (subst (λ f. Contains (bodies_from world 0 decls) (body_by at params block f))
            (sym (func_is decls rule world its_tables.answers program.keyed program.declared key
            func
            one is declared same)) stands)
            here

  -- a function or a method
  pub tree_returns : (n g : ℕ) (decl : Decl) (owner : Option ℕ) (actor : Iso) (tree : FuncTree)
      → Stands decls n g decl
      → Contains (funcs_of (top_meaning decls) rule n decl)
      (func_of (top_meaning decls) rule owner actor tree)
      → Contains (bodies_of world n decl) (func_body world owner tree)
      → AllHere its_tables number functions (func_tree_bodies its_tables tree)
      → AllReturn number (func_tree_bodies its_tables tree)
  tree_returns n g decl owner actor tree stands declared typed here =
      let one = func_of (top_meaning decls) rule owner actor tree in
      keyed_returns tree.word.at tree.word.at tree.params tree.body one
      (func_stands (top_meaning decls) rule decls n g decl one stands declared) refl
      (tree_typed decls rule world program.declared n g decl owner actor tree stands typed) here
