-- What is noted of members and of declarations but for global variables: each key is noted as often
-- as it stands there, at most.
use Rattle.std.proofs.Common.{◌≡◌, ℕ, ◌+◌, ◌≤◌, Bool, true, false, List, [], ◌∷◌, ◌++◌, flat_map}
use Rattle.std.proofs.Common.{Option, Some, None, refl, ap, arith, cond}
use Rattle.std.specs.Prelude.{◌&&◌, slice_get}
use Rattle.sw_tree.specs.declared.decl.FuncTree.{FuncTree}
use Rattle.sw_tree.specs.declared.decl.InitTree.{InitTree}
use Rattle.sw_tree.specs.declared.decl.PropTree.{PropTree}
use Rattle.sw_tree.specs.declared.expr.Expr.{Expr}
use Rattle.sw_tree.specs.declared.name.Name.{Name}
use Rattle.sw_tree.specs.declared.decl.Decl.{Decl}
use Rattle.sw_tree.specs.declared.stmt.Block.{Block}
use Rattle.sw_tree.proofs.Counting.{Weight, hits, in_all, in_all-cons, in_option}
use Rattle.sw_tree.proofs.KeyCounts as keys
use Rattle.sw_tree.proofs.KeyCounts.{in_block, in_expr, in_func, in_init, in_prop}
use Rattle.sw_types.specs.declared.isolation.Iso.{Iso}
use Rattle.sw_types.specs.declared.shape.Shape.{Shape}
use Rattle.sw_decls.specs.declared.signature.AsyncDefault.{AsyncDefault}
use Rattle.sw_decls.specs.declared.signature.Signature.{Signature}
use Rattle.sw_typing_rules.specs.Worlds.{IsWorldOf, World}
use Rattle.sw_isolation_rules.specs.Answers.{Answers, for_some}
use Rattle.sw_isolation_rules.specs.Kinds.{is_isolated, shape_iso}
use Rattle.sw_isolation_rules.specs.Noting.{block_notes, body_note}
use Rattle.sw_isolation_rules.specs.Programs.{body_notes, context_of, declared_body, default_notes}
use Rattle.sw_isolation_rules.specs.Programs.{func_at, func_context, func_note, func_notes}
use Rattle.sw_isolation_rules.specs.Programs.{getter_notes, init_notes, inits_notes, prop_notes}
use Rattle.sw_isolation_rules.specs.Programs.{shape_prop, value_notes}
use Rattle.sw_isolation_rules.specs.declared.note.Note.{Note}
use Rattle.sw_lower_total_facts.proofs.Programs.Found.{key_found}
use Rattle.sw_lower_placed_facts.proofs.Settling.Counts.{few, few_body, few_join, none_nothing}
use Rattle.sw_lower_placed_facts.proofs.Settling.Trees.{block_few, expr_few}

module _ (decls : List Decl) (rule : AsyncDefault) (world : World)
    (is : IsWorldOf decls rule world) (answers : Answers) (c : ℕ) where
  each_few : {X : Type 0} (f : X → List Note) (w : X → Weight)
      → ((x : X) → few c (f x) ≤ w x c) → (xs : List X)
      → few c (flat_map f xs) ≤ in_all w xs c
  each_few f w each [] = omega (arith, none_nothing c)
  each_few f w each (x ∷ xs) =
      omega (
        arith,
        few_join c (f x) (flat_map f xs),
        each x,
        each_few f w each xs,
        in_all-cons w x xs c,
      )

  -- a function, by its signature
  declared_few : (key : ℕ) (body : Block) (func : Signature) → func.key.at ≡ key
      → few c (declared_body world answers body func) ≤ hits key c + in_block body c
  declared_few key body func same =
      omega (
        arith,
        few_body c (block_notes world answers body (func_context func) [])
            (func_note func),
        ap (λ at. hits at c) same,
        block_few world answers c body (func_context func) [],
      )

  found_few : (key : ℕ) (body : Block) (found : Option Signature)
      → ((func : Signature) → found ≡ Some func → func.key.at ≡ key)
      → few c (for_some found (declared_body world answers body)) ≤ hits key c + in_block body c
  found_few key body None same = omega (arith, none_nothing c)
  found_few key body (Some func) same = declared_few key body func (same func refl)

  pub body_few : (key : ℕ) (body : Block)
      → few c (body_notes world answers key body) ≤ hits key c + in_block body c
  unfolding body_notes
  body_few key body =
      found_few key body (func_at world answers key)
      (λ func found. key_found decls rule world is answers key func found)

  pub funcs_few : (funcs : List FuncTree)
      → few c (flat_map (func_notes world answers) funcs) ≤ in_all in_func funcs c
  funcs_few =
      each_few (func_notes world answers) in_func
      (λ tree. omega (arith, body_few tree.word.at tree.body, keys.in_func-is tree c))

  -- initialisers
  default_by : (key : ℕ) (found : Option Signature)
      → ((func : Signature) → found ≡ Some func → func.key.at ≡ key)
      → few c (for_some found (λ func. func_note func ∷ [])) ≤ hits key c
  default_by key None same = omega (arith, none_nothing c)
  default_by key (Some func) same =
      omega (
        arith,
        few_body c [] (func_note func),
        none_nothing c,
        ap (λ at. hits at c) (same func refl),
      )

  default_few : (key : ℕ) → few c (default_notes world answers key) ≤ hits key c
  unfolding default_notes
  default_few key =
      default_by key (func_at world answers key)
      (λ func found. key_found decls rule world is answers key func found)

  pub inits_few : (word : Name) (inits : List InitTree)
      → few c (inits_notes world answers word inits)
      ≤ hits word.at c + in_all in_init inits c
  inits_few word [] = omega (arith, default_few word.at)
  inits_few word (init ∷ inits) =
      omega (
        arith,
        each_few (init_notes world answers) in_init
            (λ one. omega (arith, body_few one.at one.body, keys.in_init-is one c))
            (init ∷ inits),
      )

  -- properties
  getter_few : (prop : PropTree) (iso : Iso) → few c (getter_notes prop iso) ≤ hits prop.word.at c
  getter_few prop iso = by (prop.mutable && is_isolated iso) where
    by : (some : Bool) → few c (cond some (body_note prop.word.at iso false ∷ []) [])
        ≤ hits prop.word.at c
    by true =
        omega (arith, few_body c [] (body_note prop.word.at iso false), none_nothing c)
    by false = omega (arith, none_nothing c)

  pub value_few : (iso : Iso) (owner : Option ℕ) (value : Option Expr)
      → few c (value_notes world answers iso owner value) ≤ in_option in_expr value c
  unfolding in_option
  value_few iso owner None = omega (arith, none_nothing c)
  value_few iso owner (Some value) =
      expr_few world answers c value (context_of iso false owner) []

  shape_prop_few : (number : ℕ) (prop : PropTree) (found : Option Shape)
      → few c (for_some found (shape_prop world answers number prop)) ≤ in_prop prop c
  shape_prop_few number prop None = omega (arith, none_nothing c)
  shape_prop_few number prop (Some shape) =
      omega (
        arith,
        few_join c (getter_notes prop (shape_iso shape))
            (value_notes world answers (shape_iso shape) (Some number) prop.value),
        getter_few prop (shape_iso shape),
        value_few (shape_iso shape) (Some number) prop.value,
        keys.in_prop-is prop c,
      )

  prop_few : (number : ℕ) (prop : PropTree)
      → few c (prop_notes world answers number prop) ≤ in_prop prop c
  unfolding prop_notes
  prop_few number prop = shape_prop_few number prop (slice_get world.shapes number)

  pub props_few : (number : ℕ) (props : List PropTree)
      → few c (flat_map (prop_notes world answers number) props) ≤ in_all in_prop props c
  props_few number = each_few (prop_notes world answers number) in_prop (prop_few number)

  -- a class or an actor
  pub object_few : (number : ℕ) (word : Name) (props : List PropTree) (inits : List InitTree)
      (funcs : List FuncTree)
      → few c (flat_map (prop_notes world answers number) props
      ++ inits_notes world answers word inits ++ flat_map (func_notes world answers) funcs)
      ≤ hits word.at c + in_all in_prop props c + in_all in_init inits c + in_all in_func funcs c
  object_few number word props inits funcs =
      let first = flat_map (prop_notes world answers number) props in
      let second = inits_notes world answers word inits in
      let third = flat_map (func_notes world answers) funcs in
      omega (
        arith,
        few_join c (first ++ second) third,
        few_join c first second,
        props_few number props,
        inits_few word inits,
        funcs_few funcs,
      )
