-- The body of a task stands in a block or a first value: its key is one of those in it, and in an
-- actor it is that of a closure in a member.
use Rattle.std.proofs.Common.{◌≡◌, ℕ, ◌+◌, ◌≤◌, List, [], ◌∷◌, ◌++◌, Option, Some, None, flat_map}
use Rattle.std.proofs.Common.{Contains, refl, ap, subst, arith, inl, inr}
use Rattle.std.proofs.lemmas.List.Elements.{All-contains, All-from_recursion, Contains-append_cases}
use Rattle.sw_list.proofs.Members.{none_in}
use Rattle.sw_tree.specs.Contents.{AreKeyed}
use Rattle.sw_tree.specs.declared.decl.Decl.{Decl}
use Rattle.sw_tree.specs.declared.decl.Decl.TheVariants.{Entry, Struct, Enum, Class, Actor}
use Rattle.sw_tree.specs.declared.decl.Decl.TheVariants.{GlobalActor, Func, Global}
use Rattle.sw_tree.specs.declared.decl.FuncTree.{FuncTree}
use Rattle.sw_tree.specs.declared.decl.InitTree.{InitTree}
use Rattle.sw_tree.specs.declared.decl.PropTree.{PropTree}
use Rattle.sw_tree.specs.declared.expr.Expr.{Expr}
use Rattle.sw_tree.specs.declared.name.Name.{Name}
use Rattle.sw_tree.specs.declared.stmt.Block.{Block}
use Rattle.sw_tree.proofs.Counting.{Weight, hits, hits_same, in_all, in_all-append, in_all-cons}
use Rattle.sw_tree.proofs.Counting.{in_all-nil, in_option}
use Rattle.sw_tree.proofs.KeyCounts.{in_block, in_expr}
use Rattle.sw_types.specs.declared.ty.Ty.{Ty}
use Rattle.sw_decls.specs.declared.signature.AsyncDefault.{AsyncDefault}
use Rattle.sw_decls.specs.declared.signature.Signature.{Signature}
use Rattle.sw_typing_rules.specs.Worlds.{IsWorldOf}
use Rattle.sw_isolation_rules.specs.Answers.{for_some}
use Rattle.sw_isolation_rules.specs.Programs.{func_at}
use Rattle.sw_lower_code.specs.Whole.{Body}
use Rattle.sw_lower_rules.specs.Carriers.{ClosureCode}
use Rattle.sw_lower_rules.specs.Expressions.{closure_body}
use Rattle.sw_lower_rules.specs.Statements.{block_code}
use Rattle.sw_lower_rules.specs.Tables.{Tables}
use Rattle.sw_lower_formed_facts.proofs.Headers.InsideBodies.{all_in_block}
use Rattle.sw_typing_facts.proofs.Lists.Listed.{in_first, in_rest}
use Rattle.sw_typing_facts.proofs.Programs.Keyed.{counted_in}
use Rattle.sw_typing_facts.proofs.Programs.Standing.{Stands}
use Rattle.sw_lower_total_facts.proofs.Programs.TreeBodies.{block_few, expr_few}
use Rattle.sw_lower_total_facts.proofs.Standing.Owners.{func_owner}
use Rattle.sw_lower_call_facts.proofs.Calls.Bodies.{value_inside}
use Rattle.sw_lower_call_facts.proofs.Calls.Insides.{func_inside, init_inside, inside_of, tree_inside}
use Rattle.sw_lower_call_facts.proofs.Giving.Deep.{deep_func, deep_init, deep_of}

-- one for a body with a key
abbrev keyed_so : Body → Weight
keyed_so body k = hits body.key k

module _ (tables : Tables) (c : ℕ) where
  abbrev few : List Body → ℕ
  few bodies = in_all keyed_so bodies c

  of_closure : (owner : Option ℕ) (closure : ClosureCode) (result : Ty)
      → keyed_so (closure_body tables owner closure result) c ≤ hits closure.at c
  unfolding closure_body
  of_closure owner closure result = omega arith

  found_few : (block : Block) (found : Option Signature)
      → few (for_some found (λ (func : Signature). (block_code tables func.owner block).inside))
      ≤ in_block block c
  found_few block None = omega (arith, in_all-nil keyed_so c)
  found_few block (Some func) =
      block_few tables func.owner keyed_so c (of_closure func.owner) block

  func_few : (key : ℕ) (block : Block) → few (func_inside tables key block) ≤ in_block block c
  func_few key block = found_few block (func_at tables.world tables.answers key)

  each_few : {X : Type 0} (f : X → List Body) (w : X → Weight) → ((x : X) → few (f x) ≤ w x c)
      → (xs : List X) → few (flat_map f xs) ≤ in_all w xs c
  each_few f w each [] = omega (arith, in_all-nil keyed_so c)
  each_few f w each (x ∷ xs) =
      omega (
        arith,
        in_all-append keyed_so (f x) (flat_map f xs) c,
        in_all-cons w x xs c,
        each x,
        each_few f w each xs,
      )

  trees_few : (funcs : List FuncTree)
      → few (flat_map (tree_inside tables) funcs) ≤ in_all deep_func funcs c
  trees_few =
      each_few (tree_inside tables) deep_func (λ tree. func_few tree.word.at tree.body)

  inits_few : (n : ℕ) (inits : List InitTree)
      → few (flat_map (init_inside tables n) inits) ≤ in_all deep_init inits c
  inits_few n =
      each_few (init_inside tables n) deep_init
      (λ init. block_few tables (Some n) keyed_so c (of_closure (Some n)) init.body)

  value_few : (value : Option Expr) → few (value_inside tables value) ≤ in_option in_expr value c
  unfolding in_option
  value_few None = omega (arith, in_all-nil keyed_so c)
  value_few (Some value) = expr_few tables None keyed_so c (of_closure None) value

  both_few : (n : ℕ) (inits : List InitTree) (funcs : List FuncTree)
      → few (flat_map (init_inside tables n) inits ++ flat_map (tree_inside tables) funcs)
      ≤ in_all deep_init inits c + in_all deep_func funcs c
  both_few n inits funcs =
      omega (
        arith,
        in_all-append keyed_so (flat_map (init_inside tables n) inits)
            (flat_map (tree_inside tables) funcs) c,
        inits_few n inits,
        trees_few funcs,
      )

  inside_few : (n g : ℕ) (decl : Decl) → few (inside_of tables n g decl) ≤ deep_of decl c
  inside_few n g (Entry word written at is_async body) = func_few at body
  inside_few n g (Struct word conforms fields funcs) = trees_few funcs
  inside_few n g (Enum word conforms cases funcs) = trees_few funcs
  inside_few n g (Class written word conforms props inits funcs) = both_few n inits funcs
  inside_few n g (Actor word props inits funcs) = both_few n inits funcs
  inside_few n g (GlobalActor word made) = omega (arith, in_all-nil keyed_so c)
  inside_few n g (Func func) = func_few func.word.at func.body
  inside_few n g (Global prop) = value_few prop.value

  -- The key of a body in a block or a first value is one of those there.
  pub inside_deep : (n g : ℕ) (decl : Decl) (body : Body)
      → Contains (inside_of tables n g decl) body → body.key ≡ c → 1 ≤ deep_of decl c
  inside_deep n g decl body has same =
      omega (
        arith,
        counted_in keyed_so (inside_of tables n g decl) body c has,
        inside_few n g decl,
        ap (λ key. hits key c) same,
        hits_same c,
      )

-- a body of a closure, by the type around it
pub record IsInside (tables : Tables) (owner : Option ℕ) (body : Body) : Type 0 where
  pub closure : ClosureCode
  pub result : Ty
  pub is : body ≡ closure_body tables owner closure result

module _ (tables : Tables) (owner : Option ℕ) where
  in_closures : (closure : ClosureCode) (result : Ty)
      → IsInside tables owner (closure_body tables owner closure result)
  in_closures closure result = record { closure = closure; result = result; is = refl }

  in_block_inside : (block : Block) (body : Body)
      → Contains (block_code tables owner block).inside body → IsInside tables owner body
  in_block_inside block body has =
      All-contains (IsInside tables owner) (block_code tables owner block).inside body
      (All-from_recursion (IsInside tables owner) (block_code tables owner block).inside
      (all_in_block tables owner (IsInside tables owner) in_closures block)) has

each_inside : (tables : Tables) (owner : Option ℕ) {X : Type 0} (f : X → List Body)
    (xs : List X) (body : Body)
    → ((x : X) → Contains xs x → Contains (f x) body → IsInside tables owner body)
    → Contains (flat_map f xs) body → IsInside tables owner body
each_inside tables owner f [] body each has = absurd (none_in body has)
each_inside tables owner f (x ∷ xs) body each has =
    elim (Contains-append_cases (f x) (flat_map f xs) body has) [
      | inl here ↦ each x (in_first x xs) here
      | inr there ↦
          each_inside tables owner f xs body (λ one among. each one (in_rest x xs one among)) there
    ]

module _ (tables : Tables) (decls : List Decl) (rule : AsyncDefault) (keyed : AreKeyed decls)
    (is : IsWorldOf decls rule tables.world) (n g : ℕ) (word : Name) (props : List PropTree)
    (inits : List InitTree) (funcs : List FuncTree)
    (stands : Stands decls n g (Actor word props inits funcs)) where
  found_inside : (tree : FuncTree) (body : Body) (found : Option Signature)
      → ((func : Signature) → found ≡ Some func → func.owner ≡ Some n)
      → Contains (for_some found (λ (func : Signature).
      (block_code tables func.owner tree.body).inside)) body
      → IsInside tables (Some n) body
  found_inside tree body None owned has = absurd (none_in body has)
  found_inside tree body (Some func) owned has =
      subst (λ owner. IsInside tables owner body) (owned func refl)
      (in_block_inside tables func.owner tree.body body has)

  func_inner : (tree : FuncTree) (body : Body) → Contains funcs tree
      → Contains (tree_inside tables tree) body → IsInside tables (Some n) body
  func_inner tree body among has =
      found_inside tree body (func_at tables.world tables.answers tree.word.at)
      (λ func found.
      func_owner decls rule tables.world tables.answers keyed is n g
      (Actor word props inits funcs) stands tree func among found) has

  -- In an actor it is the body of a closure in a member.
  pub actor_inside : (body : Body)
      → Contains (inside_of tables n g (Actor word props inits funcs)) body
      → IsInside tables (Some n) body
  actor_inside body has =
      elim (Contains-append_cases (flat_map (init_inside tables n) inits)
      (flat_map (tree_inside tables) funcs) body has) [
        | inl here ↦ each_inside tables (Some n) (init_inside tables n) inits body
            (λ init among one. in_block_inside tables (Some n) init.body body one) here
        | inr there ↦ each_inside tables (Some n) (tree_inside tables) funcs body
            (λ tree among one. func_inner tree body among one) there
      ]
