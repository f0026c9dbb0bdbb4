-- The bodies of the functions and methods that a program declares, and of its entry, proceed.
use Rattle.std.proofs.Common.{◌≡◌, ℕ, List, [], Option, Some, None, refl, sym, subst, Contains}
use Rattle.sw_tree.specs.declared.decl.Decl.{Decl}
use Rattle.sw_tree.specs.declared.decl.FuncTree.{FuncTree}
use Rattle.sw_tree.specs.declared.decl.ParamTree.{ParamTree}
use Rattle.sw_tree.specs.declared.stmt.Block.{Block}
use Rattle.sw_tree_facts.specs.Unwritten.{block_unwritten}
use Rattle.sw_types.specs.declared.isolation.Iso.{Iso}
use Rattle.sw_decl_words.specs.Words.{top_meaning}
use Rattle.sw_decls.specs.Declaring.{key_place}
use Rattle.sw_decls.specs.Signatures.{func_of, funcs_from, funcs_of}
use Rattle.sw_decls.specs.declared.signature.AsyncDefault.{AsyncDefault}
use Rattle.sw_decls.specs.declared.signature.Signature.{Signature}
use Rattle.sw_typing_rules.specs.Programs.{bodies_from, bodies_of, func_body}
use Rattle.sw_typing_rules.specs.Worlds.{World}
use Rattle.sw_isolation_rules.specs.Answers.{for_some}
use Rattle.sw_isolation_rules.specs.Programs.{func_at}
use Rattle.sw_lower_plans.specs.Plan.{Numbers}
use Rattle.sw_lower_code.specs.Whole.{Body}
use Rattle.sw_lower_rules.specs.Bodies.{func_bodies, func_signed, func_tree_bodies}
use Rattle.sw_lower_rules.specs.Tables.{Tables}
use Rattle.sw_lower_formed_facts.proofs.Bodies.FuncBodies.{body_by}
use Rattle.sw_lower_formed_facts.proofs.Bodies.FuncTrees.{tree_typed}
use Rattle.sw_lower_formed_facts.proofs.Headers.FoundFuncs.{func_is}
use Rattle.sw_typing_facts.proofs.Lists.Joined.{Gives, none_gives}
use Rattle.sw_typing_facts.proofs.Programs.MadeOf.{func_stands}
use Rattle.sw_typing_facts.proofs.Programs.Standing.{Stands}
use Rattle.sw_lower_total_facts.specs.Proceeding.{BodyProceeds, BodyIsNumbered}
use Rattle.sw_lower_total_facts.specs.Programs.{noted_tables}
use Rattle.sw_lower_total_facts.proofs.Bodies.AllStand.{BodyStands, IsFunc, ParamsAreLets}
use Rattle.sw_lower_total_facts.proofs.Bodies.FuncBodies.{signed_proceeds}
use Rattle.sw_lower_total_facts.proofs.Bodies.Given.{IsProgram}

module _ (world : World) (decls : List Decl) (rule : AsyncDefault) (number : Numbers)
    (program : IsProgram world decls rule number) where
  abbrev its_tables : Tables
  its_tables = noted_tables world decls

  abbrev All : List Body → Type 0
  All = Gives (BodyIsNumbered number) (BodyProceeds number)

  -- what is made of a function with a key, where this one is declared with it
  pub keyed_proceed : (key at : ℕ) (params : List ParamTree) (block : Block) (one : Signature)
      → Contains (funcs_from (top_meaning decls) rule 0 decls) one → key_place one ≡ key
      → Contains (bodies_from world 0 decls) (body_by at params block one)
      → ((func : Signature) → IsFunc world decls number key func
      → BodyStands world decls number func params block)
      → block_unwritten block ≡ [] → ParamsAreLets world decls number params
      → All (func_bodies its_tables key params block)
  unfolding func_bodies
  keyed_proceed key at params block one declared same stands there tasks none =
      by (func_at world its_tables.answers key) refl where
        by : (found : Option Signature) → func_at world its_tables.answers key ≡ found
            → All (for_some found (func_signed its_tables params block))
        by None is = none_gives (BodyIsNumbered number) (BodyProceeds number)
        by (Some func) is =
            signed_proceeds world decls rule number program at params block func
            (subst (λ f. Contains (bodies_from world 0 decls) (body_by at params block f))
            (sym (func_is decls rule world its_tables.answers program.keyed program.declared key
            func one is declared same)) stands)
            (there func is) tasks none

  -- a function or a method
  pub tree_proceeds : (n g : ℕ) (decl : Decl) (owner : Option ℕ) (actor : Iso) (tree : FuncTree)
      → Stands decls n g decl
      → Contains (funcs_of (top_meaning decls) rule n decl)
      (func_of (top_meaning decls) rule owner actor tree)
      → Contains (bodies_of world n decl) (func_body world owner tree)
      → ((func : Signature) → IsFunc world decls number tree.word.at func
      → BodyStands world decls number func tree.params tree.body)
      → block_unwritten tree.body ≡ [] → ParamsAreLets world decls number tree.params
      → All (func_tree_bodies its_tables tree)
  tree_proceeds n g decl owner actor tree stands declared typed there tasks none =
      let one = func_of (top_meaning decls) rule owner actor tree in
      keyed_proceed tree.word.at tree.word.at tree.params tree.body one
      (func_stands (top_meaning decls) rule decls n g decl one stands declared) refl
      (tree_typed decls rule world program.declared n g decl owner actor tree stands typed)
      there tasks none
