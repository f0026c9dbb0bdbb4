-- What is given of where the trees of a program stand: each body and each first value.
use Rattle.std.proofs.Common.{◌≡◌, ℕ, Bool, false, List, [], map, Some, None, Contains}
use Rattle.std.specs.Prelude.{slice_get}
use Rattle.sw_tree.specs.declared.decl.Decl.{Decl}
use Rattle.sw_tree.specs.declared.decl.Decl.TheVariants.{Entry, Global}
use Rattle.sw_tree.specs.declared.decl.FuncTree.{FuncTree}
use Rattle.sw_tree.specs.declared.decl.InitTree.{InitTree}
use Rattle.sw_tree.specs.declared.decl.ParamTree.{ParamTree}
use Rattle.sw_tree.specs.declared.decl.PropTree.{PropTree}
use Rattle.sw_tree.specs.declared.decl.Written.{Written}
use Rattle.sw_tree.specs.declared.expr.Expr.{Expr}
use Rattle.sw_tree.specs.declared.name.Name.{Name}
use Rattle.sw_tree.specs.declared.stmt.Block.{Block}
use Rattle.sw_types.specs.declared.shape.Shape.{Shape}
use Rattle.sw_decls.specs.declared.signature.Signature.{Signature}
use Rattle.sw_typing_rules.specs.Programs.{param_var}
use Rattle.sw_typing_rules.specs.Worlds.{World}
use Rattle.sw_isolation_rules.specs.Captures.{is_among}
use Rattle.sw_isolation_rules.specs.Kinds.{shape_iso}
use Rattle.sw_isolation_rules.specs.Lists.{vars_in}
use Rattle.sw_isolation_rules.specs.Programs.{context_of, func_at, func_context}
use Rattle.sw_isolation_rules.specs.declared.note.Note.{Note}
use Rattle.sw_lower_plans.specs.Plan.{Numbers}
use Rattle.sw_lower_rules.specs.Tables.{Tables}
use Rattle.sw_typing_facts.proofs.Programs.DeclParts.{funcs_in, inits_in, props_in}
use Rattle.sw_typing_facts.proofs.Programs.Standing.{Stands}
use Rattle.sw_lower_total_facts.specs.Programs.{noted_tables, notes_of}
use Rattle.sw_lower_total_facts.specs.Trees.{BlockStands, ExprStands}
use Rattle.sw_lower_total_facts.proofs.Standing.Declared.{global_iso}

module _ (world : World) (decls : List Decl) (number : Numbers) where
  abbrev tables : Tables
  tables = noted_tables world decls

  abbrev all : List Note
  all = notes_of world decls

  -- the function with a key
  abbrev pub IsFunc : ℕ → Signature → Type 0
  IsFunc key func = func_at world tables.answers key ≡ Some func

  -- where the body of a function with these parameters stands
  abbrev pub BodyStands : Signature → List ParamTree → Block → Type 0
  BodyStands func params block =
      BlockStands tables number all (func_context func) [] (map (param_var world) params) block

  -- No parameter is noted as a `var`.
  abbrev pub ParamsAreLets : List ParamTree → Type 0
  ParamsAreLets params = (param : ParamTree) → Contains params param
      → is_among (vars_in all) param.name.at ≡ false

  pub record AllStand : Type 0 where
    -- functions and methods
    pub funcs : (n g : ℕ) (decl : Decl) → Stands decls n g decl → (tree : FuncTree)
        → (func : Signature) → Contains (funcs_in decl) tree → IsFunc tree.word.at func
        → BodyStands func tree.params tree.body
    pub func_params : (n g : ℕ) (decl : Decl) → Stands decls n g decl → (tree : FuncTree)
        → Contains (funcs_in decl) tree → ParamsAreLets tree.params
    -- the entry
    pub entries : (n g : ℕ) (word : Name) (written : Written) (at : ℕ) (is_async : Bool)
        (body : Block) (func : Signature)
        → Stands decls n g (Entry word written at is_async body) → IsFunc at func
        → BodyStands func [] body
    -- initialisers
    pub inits : (n g : ℕ) (decl : Decl) → Stands decls n g decl → (init : InitTree)
        → (func : Signature) → Contains (inits_in decl) init → IsFunc init.at func
        → BodyStands func init.params init.body
    pub init_params : (n g : ℕ) (decl : Decl) → Stands decls n g decl → (init : InitTree)
        → Contains (inits_in decl) init → ParamsAreLets init.params
    -- first values of properties and of global variables
    pub props : (n g : ℕ) (decl : Decl) → Stands decls n g decl → (prop : PropTree)
        → (shape : Shape) (value : Expr) → Contains (props_in decl) prop
        → slice_get world.shapes n ≡ Some shape → prop.value ≡ Some value
        → ExprStands tables number all (context_of (shape_iso shape) false (Some n)) [] [] value
    pub globals : (n g : ℕ) (prop : PropTree) (value : Expr) → Stands decls n g (Global prop)
        → prop.value ≡ Some value
        → ExprStands tables number all
        (context_of (global_iso world tables.answers prop) false None) [] [] value
