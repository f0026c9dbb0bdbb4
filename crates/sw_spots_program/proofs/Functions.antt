-- The body of a function, a method or the entry stands in its function.
use Rattle.std.proofs.Common.{◌≡◌, ℕ, ◌+◌, ◌≤◌, Bool, true, false, Option, Some, None, List, [], ◌∷◌, ◌++◌}
use Rattle.std.proofs.Common.{Contains, map, refl, sym, subst, arith}
use Rattle.std.specs.Prelude.{if◌then◌else◌}
use Rattle.sw_list.proofs.Members.{none_in}
use Rattle.sw_tree.specs.Keys.{block_keys}
use Rattle.sw_tree.specs.declared.decl.Decl.{Decl}
use Rattle.sw_tree.specs.declared.decl.FuncTree.{FuncTree}
use Rattle.sw_tree.specs.declared.decl.ParamTree.{ParamTree}
use Rattle.sw_tree.specs.declared.stmt.Block.{Block}
use Rattle.sw_tree.proofs.Counting.{count, hits, in_all-append, in_all-map}
use Rattle.sw_tree.proofs.KeyCounts.{in_func, in_func-is}
use Rattle.sw_tree_facts.specs.Parts.{StandsIn, of_block, of_decls, of_func}
use Rattle.sw_tree_facts.specs.Parts as parts
use Rattle.sw_types.specs.declared.isolation.Iso.{Iso}
use Rattle.sw_graph.specs.declared.function.Function.{Function}
use Rattle.sw_decl_words.specs.Words.{top_meaning}
use Rattle.sw_decl_words.specs.declared.words.Meaning.{Meaning}
use Rattle.sw_decls.specs.Signatures.{func_of, funcs_of}
use Rattle.sw_decls.specs.declared.signature.AsyncDefault.{AsyncDefault}
use Rattle.sw_decls.specs.declared.signature.Signature.{Signature}
use Rattle.sw_typing_rules.specs.Worlds.{World, and_then}
use Rattle.sw_isolation_rules.specs.Answers.{Answers, for_some}
use Rattle.sw_isolation_rules.specs.Programs.{func_at}
use Rattle.sw_lower_plans.specs.Plan.{Numbers}
use Rattle.sw_lower_code.specs.Whole.{Body}
use Rattle.sw_lower_rules.specs.Bodies.{decl_bodies, func_bodies, func_signed, func_tree_bodies}
use Rattle.sw_lower_rules.specs.Bodies.{functions_of, numbers_of, param_taken}
use Rattle.sw_lower_rules.specs.Bodies.{self_taken, signed, tables_of}
use Rattle.sw_lower_rules.specs.Expressions.{body_code}
use Rattle.sw_lower_rules.specs.Statements.{block_code}
use Rattle.sw_lower_rules.specs.Tables.{Isolation, Tables, plain}
use Rattle.sw_lower_formed_facts.proofs.Bodies.MadeOf.{body_stands}
use Rattle.sw_lower_formed_facts.proofs.Headers.FoundFuncs.{func_is}
use Rattle.sw_lower_formed_facts.proofs.Headers.Signed.{for_found}
use Rattle.sw_typing_facts.proofs.Lists.Listed.{in_first, in_rest, only_in}
use Rattle.sw_typing_facts.proofs.Programs.MadeOf.{func_stands as declared_stands}
use Rattle.sw_typing_facts.proofs.Programs.Standing.{Stands}
use Rattle.sw_tree_work.specs.Bodies as works
use Rattle.sw_tree_work.specs.Bodies.{params_of, self_of}
use Rattle.sw_tree_work.specs.Facts.{Facts}
use Rattle.sw_tree_work.specs.Forms.{body_work}
use Rattle.sw_tree_work.specs.Trees.{block_work}
use Rattle.sw_tree_work.specs.Work.{Function as FunctionAt, TreeBody}
use Rattle.sw_spots.specs.Forms.{facts_of, is_declared, program}
use Rattle.sw_spots.specs.Spots.{BodyStands, Program}
use Rattle.sw_spots_tree.proofs.Bodies.{func_stands}
use Rattle.sw_spots_tree.proofs.Every.{every_block_stands}
use Rattle.sw_spots_tree.proofs.Keys.{down, unseen_taken}
use Rattle.sw_spots_tree.specs.Declared.{block_declared}
use Rattle.sw_spots_program.specs.Lowered.{IsMadeOf}
use Rattle.sw_spots_program.proofs.Declared.{block_few}
use Rattle.sw_spots_program.proofs.Making.{are_made, is_made}
use Rattle.sw_spots_program.proofs.Ones.{once_by, one_counted}

module _ (world : World) (answers : Answers) (isolation : Isolation) (decls : List Decl)
    (rule : AsyncDefault) (ordered : List Body)
    (it : IsMadeOf world answers isolation decls rule ordered) where
  abbrev tables : Tables
  tables = tables_of world answers isolation decls

  abbrev facts : Facts
  facts = facts_of tables

  abbrev numbers : Numbers
  numbers = numbers_of ordered

  abbrev functions : List Function
  functions = functions_of ordered

  abbrev p : Program
  p = program tables numbers functions

  abbrev known : ℕ → Option Meaning
  known = top_meaning decls

  -- A body stands in the function that has its name.
  abbrev pub Good : TreeBody → Type 0
  Good body = (number : ℕ) → p.number body.name ≡ Some number → BodyStands p body number

  pub named_func : (key number : ℕ) → p.number (FunctionAt key) ≡ Some number
      → numbers (plain key) ≡ Some number
  named_func key number named = by (is_declared world.funcs key) named where
    by : (is : Bool)
        → and_then (if is then Some (plain key) else None) numbers ≡ Some number
        → numbers (plain key) ≡ Some number
    by true named = named
    by false named = cc

  -- Variables that are taken aren't among keys that stand once with them.
  abbrev pub AreFew : List ℕ → Block → Type 0
  AreFew takes block = (c : ℕ) → count takes c + count (block_keys block) c ≤ 1

  module _ (n g : ℕ) (decl : Decl) (stands : Stands decls n g decl) where
    module _ (key : ℕ) (params : List ParamTree) (block : Block)
        (inside : (body : Body) → Contains (func_bodies tables key params block) body
        → Contains (decl_bodies tables n g decl) body)
        (part : StandsIn (of_block block) (of_decls decls)) where
      abbrev takes_of : Signature → List ℕ
      takes_of func = self_of facts func.owner ++ params_of facts params

      abbrev body_for : Signature → TreeBody
      body_for func = works.body_of facts func (takes_of func)
          (body_work (Some func.result) (block_work facts func.owner block))

      goes : (func : Signature) → func_at world answers key ≡ Some func
          → AreFew (takes_of func) block → Good (body_for func)
      unfolding func_bodies
      goes func at few number named =
          let code = block_code tables func.owner block in
          let lowered = signed tables func
          (self_taken tables func.owner ++ map (param_taken tables) params)
          (body_code func.result code) in
          let among = λ (body : Body) (has : Contains (lowered ∷ code.inside) body).
          body_stands tables decls n g decl body stands
          (inside body (for_found (func_at world answers key) func (func_signed tables params block)
          body at has)) in
          func_stands tables numbers functions func params block number
          (every_block_stands tables numbers functions func.owner (of_decls decls) it.needs block part
          (once_by (block_declared block)
          (λ c. omega (arith, few c, block_few c block)))
          (are_made tables decls ordered it.are it.numbered it.made code.inside
          (λ body has. among body (in_rest lowered code.inside body has))))
          (λ one declared. unseen_taken 0 (takes_of func) one (λ taken. absurd (omega (
            arith,
            few one,
            block_few one block,
            one_counted (takes_of func) one taken,
            one_counted (block_declared block) one declared,
          ))))
          (is_made tables decls ordered it.are it.numbered it.made lowered
          (among lowered (in_first lowered code.inside)))
          (named_func func.key.at number named)

      -- It stands if the declaration has its function.
      pub func_good : (one : Signature) → Contains (funcs_of known rule n decl) one
          → one.key.at ≡ key → AreFew (takes_of one) block → (body : TreeBody)
          → Contains (works.func_body facts key params block) body → Good body
      func_good one declared same few body has = by (func_at world answers key) refl has where
        by : (found : Option Signature) → func_at world answers key ≡ found
            → Contains (for_some found (λ func. body_for func ∷ [])) body → Good body
        by None at has = absurd (none_in body has)
        by (Some func) at has =
            let is = func_is decls rule world answers it.keyed it.declared key func one at
            (declared_stands known rule decls n g decl one stands declared) same in
            subst Good (only_in (body_for func) body has)
            (goes func at (subst (λ (f : Signature). AreFew (takes_of f) block) (sym is) few))

    -- the body of the function of a tree
    pub tree_good : (tree : FuncTree) (owner : Option ℕ) (actor : Iso)
        → Contains (funcs_of known rule n decl) (func_of known rule owner actor tree)
        → ((body : Body) → Contains (func_tree_bodies tables tree) body
        → Contains (decl_bodies tables n g decl) body)
        → StandsIn (of_func tree) (of_decls decls)
        → ((c : ℕ) → count (self_of facts owner) c + in_func tree c ≤ 1)
        → (body : TreeBody) → Contains (works.func_tree_body facts tree) body → Good body
    tree_good tree owner actor declared inside part few =
        func_good tree.word.at tree.params tree.body inside
        (down (of_block tree.body) (of_func tree) (of_decls decls) (parts.func_body tree) part)
        (func_of known rule owner actor tree) declared refl
        (λ c. omega (
          arith,
          few c,
          in_func-is tree c,
          in_all-append hits (self_of facts owner) (params_of facts tree.params) c,
          in_all-map hits (λ (param : ParamTree). param.name.at) tree.params c,
        ))
