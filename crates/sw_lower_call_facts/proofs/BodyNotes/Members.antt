-- What is noted of functions, initialisers and properties: bodies of good keys, where they are
-- isolated to `self`.
use Rattle.std.proofs.Common.{◌≡◌, ℕ, ◌≤◌, Bool, true, false, List, [], ◌∷◌}
use Rattle.std.proofs.Common.{flat_map, Option, Some, None, Contains, refl}
use Rattle.std.specs.Prelude.{◌&&◌, if◌then◌else◌, slice_get}
use Rattle.sw_tree.specs.declared.decl.FuncTree.{FuncTree}
use Rattle.sw_tree.specs.declared.decl.InitTree.{InitTree}
use Rattle.sw_tree.specs.declared.decl.PropTree.{PropTree}
use Rattle.sw_tree.specs.declared.expr.Expr.{Expr}
use Rattle.sw_tree.specs.declared.name.Name.{Name}
use Rattle.sw_tree.specs.declared.stmt.Block.{Block}
use Rattle.sw_tree.proofs.KeyCounts.{in_block, in_expr}
use Rattle.sw_types.specs.declared.isolation.Iso.{Iso}
use Rattle.sw_types.specs.declared.shape.Shape.{Shape}
use Rattle.sw_decls.specs.declared.signature.Signature.{Signature}
use Rattle.sw_typing_rules.specs.Worlds.{World}
use Rattle.sw_isolation_rules.specs.Answers.{Answers, for_some}
use Rattle.sw_isolation_rules.specs.Kinds.{is_isolated, is_own, shape_iso}
use Rattle.sw_isolation_rules.specs.Noting.{body_note}
use Rattle.sw_isolation_rules.specs.Programs.{body_notes, context_of, declared_body, default_notes}
use Rattle.sw_isolation_rules.specs.Programs.{func_at, func_context, func_note, func_notes}
use Rattle.sw_isolation_rules.specs.Programs.{getter_notes, init_notes, inits_notes, prop_notes}
use Rattle.sw_isolation_rules.specs.Programs.{shape_prop, value_notes}
use Rattle.sw_isolation_rules.specs.declared.note.Note.{Note}
use Rattle.sw_typing_facts.proofs.Lists.Listed.{in_first, in_rest}
use Rattle.sw_lower_call_facts.proofs.BodyNotes.Noted.{AllOwn, join}
use Rattle.sw_lower_call_facts.proofs.BodyNotes.Trees.{block_own, expr_own}

module _ (world : World) (answers : Answers) (Good : ℕ → Type 0) where
  abbrev Own : List Note → Type 0
  Own notes = AllOwn Good notes

  -- where the function with a key is isolated to `self`, its key is good, and those in its body are
  abbrev pub FuncGood : ℕ → Block → Type 0
  FuncGood key body = (func : Signature) → func_at world answers key ≡ Some func
      → is_own func.iso ≡ true → Good func.key.at × ((k : ℕ) → 1 ≤ in_block body k → Good k)

  found_own : (body : Block) (found : Option Signature)
      → ((func : Signature) → found ≡ Some func → is_own func.iso ≡ true
      → Good func.key.at × ((k : ℕ) → 1 ≤ in_block body k → Good k))
      → Own (for_some found (declared_body world answers body))
  found_own body None good = tt
  found_own body (Some func) good = (
    λ own. (good func refl own).0,
    block_own world answers Good body (func_context func) []
        (λ k own some. (good func refl own).1 k some),
  )

  pub body_own : (key : ℕ) (body : Block) → FuncGood key body
      → Own (body_notes world answers key body)
  unfolding body_notes
  body_own key body good = found_own body (func_at world answers key) good

  pub funcs_own : (funcs : List FuncTree)
      → ((tree : FuncTree) → Contains funcs tree → FuncGood tree.word.at tree.body)
      → Own (flat_map (func_notes world answers) funcs)
  funcs_own [] good = tt
  funcs_own (tree ∷ funcs) good =
      join Good (func_notes world answers tree) _
      (body_own tree.word.at tree.body (good tree (in_first tree funcs)))
      (funcs_own funcs (λ one has. good one (in_rest tree funcs one has)))

  -- initialisers
  abbrev pub DefaultGood : ℕ → Type 0
  DefaultGood key = (func : Signature) → func_at world answers key ≡ Some func
      → is_own func.iso ≡ true → Good func.key.at

  default_own : (found : Option Signature)
      → ((func : Signature) → found ≡ Some func → is_own func.iso ≡ true → Good func.key.at)
      → Own (for_some found (λ func. func_note func ∷ []))
  default_own None good = tt
  default_own (Some func) good = (λ own. good func refl own, tt)

  each_init_own : (inits : List InitTree)
      → ((init : InitTree) → Contains inits init → FuncGood init.at init.body)
      → Own (flat_map (init_notes world answers) inits)
  each_init_own [] good = tt
  each_init_own (init ∷ inits) good =
      join Good (init_notes world answers init) _
      (body_own init.at init.body (good init (in_first init inits)))
      (each_init_own inits (λ one has. good one (in_rest init inits one has)))

  pub inits_own : (word : Name) (inits : List InitTree) → (inits ≡ [] → DefaultGood word.at)
      → ((init : InitTree) → Contains inits init → FuncGood init.at init.body)
      → Own (inits_notes world answers word inits)
  unfolding default_notes
  inits_own word [] default good = default_own (func_at world answers word.at) (default refl)
  inits_own word (init ∷ inits) default good = each_init_own (init ∷ inits) good

  -- properties
  pub getter_own : (prop : PropTree) (iso : Iso) → (is_own iso ≡ true → Good prop.word.at)
      → Own (getter_notes prop iso)
  getter_own prop iso good = by (prop.mutable && is_isolated iso) where
    by : (is : Bool) → Own (if is then body_note prop.word.at iso false ∷ [] else [])
    by true = (good, tt)
    by false = tt

  pub value_own : (iso : Iso) (owner : Option ℕ) (value : Option Expr)
      → ((expr : Expr) → value ≡ Some expr → is_own iso ≡ true → (k : ℕ) → 1 ≤ in_expr expr k
      → Good k)
      → Own (value_notes world answers iso owner value)
  value_own iso owner None good = tt
  value_own iso owner (Some value) good =
      expr_own world answers Good value (context_of iso false owner) []
      (λ k own some. good value refl own k some)

  -- where a property's shape is isolated to `self`, its keys are good
  abbrev pub PropGood : ℕ → PropTree → Type 0
  PropGood number prop = (shape : Shape) → slice_get world.shapes number ≡ Some shape
      → is_own (shape_iso shape) ≡ true → Good prop.word.at
      × ((expr : Expr) → prop.value ≡ Some expr → (k : ℕ) → 1 ≤ in_expr expr k → Good k)

  prop_by : (number : ℕ) (prop : PropTree) (found : Option Shape)
      → ((shape : Shape) → found ≡ Some shape → is_own (shape_iso shape) ≡ true
      → Good prop.word.at
      × ((expr : Expr) → prop.value ≡ Some expr → (k : ℕ) → 1 ≤ in_expr expr k → Good k))
      → Own (for_some found (shape_prop world answers number prop))
  prop_by number prop None good = tt
  prop_by number prop (Some shape) good =
      join Good (getter_notes prop (shape_iso shape)) _
      (getter_own prop (shape_iso shape) (λ own. (good shape refl own).0))
      (value_own (shape_iso shape) (Some number) prop.value
      (λ expr is own. (good shape refl own).1 expr is))

  pub props_own : (number : ℕ) (props : List PropTree)
      → ((prop : PropTree) → Contains props prop → PropGood number prop)
      → Own (flat_map (prop_notes world answers number) props)
  unfolding prop_notes
  props_own number [] good = tt
  props_own number (prop ∷ props) good =
      join Good (prop_notes world answers number prop) _
      (prop_by number prop (slice_get world.shapes number) (good prop (in_first prop props)))
      (props_own number props (λ one has. good one (in_rest prop props one has)))
