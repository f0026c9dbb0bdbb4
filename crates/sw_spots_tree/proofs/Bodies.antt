-- The work of each body that is found by its name stands in the body's function.
use Rattle.std.proofs.Common.{◌≡◌, ℕ, suc, ◌⊎◌, inl, inr, Bool, true, false, Option, Some, None, List, []}
use Rattle.std.proofs.Common.{◌∷◌, ◌++◌, map, refl, ap, ◌∙◌}
use Rattle.std.proofs.lemmas.Bool.Decides.{eqb_tells}
use Rattle.std.specs.List.{AllByRecursion}
use Rattle.std.specs.Prelude.{◌==◌, ◌≢◌, slice_get, if◌then◌else◌}
use Rattle.sw_tree.specs.declared.decl.ParamTree.{ParamTree}
use Rattle.sw_tree.specs.declared.decl.PropTree.{PropTree}
use Rattle.sw_tree.specs.declared.expr.Expr.{Expr}
use Rattle.sw_tree.specs.declared.stmt.Block.{Block}
use Rattle.sw_types.specs.declared.shape.Part.{Part}
use Rattle.sw_types.specs.declared.shape.Shape.{Shape}
use Rattle.sw_graph.specs.declared.function.Function.{Function}
use Rattle.sw_decls.specs.declared.signature.GlobalVar.{GlobalVar}
use Rattle.sw_decls.specs.declared.signature.Signature.{Signature}
use Rattle.sw_lower_plans.specs.Plan.{Numbers, var_in}
use Rattle.sw_isolation_rules.specs.Answers.{for_some}
use Rattle.sw_lower_plans.specs.declared.bound.Bound.{Bound}
use Rattle.sw_lower_code.specs.declared.taken.Taken.{Taken}
use Rattle.sw_lower_rules.specs.Bodies as bodies
use Rattle.sw_lower_rules.specs.Bodies.{init_code, param_taken, self_by, self_taken, signed}
use Rattle.sw_lower_rules.specs.Bodies.{stored_read}
use Rattle.sw_lower_rules.specs.Carriers.{Given}
use Rattle.sw_lower_rules.specs.Expressions.{body_code}
use Rattle.sw_lower_rules.specs.Statements.{block_code, expr_code}
use Rattle.sw_lower_rules.specs.Tables.{Tables, name_of}
use Rattle.sw_tree_work.specs.Bodies as works
use Rattle.sw_tree_work.specs.Bodies.{init_work, params_of, self_of}
use Rattle.sw_tree_work.specs.Forms as forms
use Rattle.sw_tree_work.specs.Forms.{body_work}
use Rattle.sw_tree_work.specs.Trees.{block_work, expr_work}
use Rattle.sw_tree_work.specs.Work as work
use Rattle.sw_spots.specs.Making.{IsOne}
use Rattle.sw_spots.specs.Doing.{AreUnseen}
use Rattle.sw_spots.specs.Forms.{BlockStands, ExprStands, GivesStand, facts_of, program}
use Rattle.sw_spots.specs.Spots.{BodyStands, HasIso, Program, bound_of, taken_bounds}
use Rattle.sw_spots_body.proofs.Begun.{IsMade, begins_at}
use Rattle.sw_spots_body.proofs.Ending.{ends_body}
use Rattle.sw_spots_body.proofs.Entering.{bounds_of}
use Rattle.sw_spots_body.proofs.Makers.{HasSelf, ends_first, ends_global, ends_init, ends_part}
use Rattle.sw_spots_tree.specs.Declared.{block_declared}

-- what is in no box, by its keys
abbrev pub keys_taken : List Taken → List ℕ
keys_taken takes = map (λ (one : Taken). one.key) takes

bounds_plain : (r : ℕ) (takes : List Taken) → AllByRecursion (λ (one : Taken). one.boxed ≡ false) takes
    → bounds_of r takes ≡ taken_bounds r [] (keys_taken takes)
bounds_plain r [] plain = refl
bounds_plain r (one ∷ more) plain =
    ap (λ boxed. bound_of one.key r boxed ∷ bounds_of (suc r) more) plain.0
    ∙ ap (λ list. bound_of one.key r false ∷ list) (bounds_plain (suc r) more plain.1)

module _ (tables : Tables) (numbers : Numbers) (functions : List Function) where
  abbrev p : Program
  p = program tables numbers functions

  -- parameters, and `self` before them
  params_plain : (params : List ParamTree)
      → AllByRecursion (λ (one : Taken). one.boxed ≡ false) (map (param_taken tables) params)
  params_plain [] = tt
  params_plain (param ∷ params) = (refl, params_plain params)

  params_keys : (params : List ParamTree)
      → keys_taken (map (param_taken tables) params) ≡ params_of (facts_of tables) params
  params_keys [] = refl
  params_keys (param ∷ params) = ap (λ keys. param.name.at ∷ keys) (params_keys params)

  self_plain : (owner : Option ℕ) (params : List ParamTree)
      → AllByRecursion (λ (one : Taken). one.boxed ≡ false)
      (self_taken tables owner ++ map (param_taken tables) params)
  self_plain None params = params_plain params
  self_plain (Some number) params = by (slice_get tables.world.shapes number) where
    by : (found : Option Shape) → AllByRecursion (λ (one : Taken). one.boxed ≡ false)
        (for_some found (λ shape. self_by number shape ∷ []) ++ map (param_taken tables) params)
    by None = params_plain params
    by (Some shape) = (refl, params_plain params)

  self_keys : (owner : Option ℕ) (params : List ParamTree)
      → keys_taken (self_taken tables owner ++ map (param_taken tables) params)
      ≡ self_of (facts_of tables) owner ++ params_of (facts_of tables) params
  self_keys None params = params_keys params
  self_keys (Some number) params = by (slice_get tables.world.shapes number) where
    by : (found : Option Shape)
        → keys_taken (for_some found (λ shape. self_by number shape ∷ [])
        ++ map (param_taken tables) params)
        ≡ for_some found (λ shape. shape.at ∷ []) ++ params_of (facts_of tables) params
    by None = params_keys params
    by (Some shape) = ap (λ keys. shape.at ∷ keys) (params_keys params)

  -- A function, a method or the entry, if it declares nothing that it takes.
  pub func_stands : (func : Signature) (params : List ParamTree) (block : Block) (number : ℕ)
      → BlockStands tables numbers functions (IsOne (block_declared block))
      (block_code tables func.owner block) (block_work (facts_of tables) func.owner block)
      → ((key : ℕ) → IsOne (block_declared block) key → var_in key (taken_bounds 0 []
      (self_of (facts_of tables) func.owner ++ params_of (facts_of tables) params)) ≡ None)
      → IsMade p numbers (signed tables func (self_taken tables func.owner
      ++ map (param_taken tables) params)
      (body_code func.result (block_code tables func.owner block)))
      → numbers (name_of (signed tables func [] (body_code func.result
      (block_code tables func.owner block)))) ≡ Some number
      → BodyStands p (works.body_of (facts_of tables) func
      (self_of (facts_of tables) func.owner ++ params_of (facts_of tables) params)
      (body_work (Some func.result) (block_work (facts_of tables) func.owner block))) number
  func_stands func params block number is apart made named =
      let takes = self_taken tables func.owner ++ map (param_taken tables) params in
      let bounds = bounds_plain 0 takes (self_plain func.owner params)
      ∙ ap (taken_bounds 0 []) (self_keys func.owner params) in
      begins_at p numbers (signed tables func takes
      (body_code func.result (block_code tables func.owner block)))
      (AreUnseen p numbers (IsOne (block_declared block)))
      (body_work (Some func.result) (block_work (facts_of tables) func.owner block)) []
      (self_of (facts_of tables) func.owner ++ params_of (facts_of tables) params) (HasIso func.iso)
      number made
      (ends_body tables numbers functions (IsOne (block_declared block)) func.result (Some func.result)
      (block_code tables func.owner block) (block_work (facts_of tables) func.owner block) refl is.work
      is.only)
      (λ s vars key one. ap (var_in key) (vars ∙ bounds) ∙ apart key one) bounds (λ f same. same) named

  -- an initialiser
  pub init_stands : (func : Signature) (params : List ParamTree) (number : ℕ) (shape : Shape)
      (givens : List Given) (ones : List forms.Given) (place : ℕ) → GivesStand tables numbers functions givens ones
      → IsMade p numbers (signed tables func (map (param_taken tables) params)
      (init_code func.key.at number shape givens))
      → numbers (name_of (signed tables func [] (init_code func.key.at number shape givens)))
      ≡ Some place
      → BodyStands p (works.body_of (facts_of tables) func (params_of (facts_of tables) params)
      (init_work shape ones number)) place
  init_stands func params number shape givens ones place are made named =
      let takes = map (param_taken tables) params in
      let bounds = bounds_plain 0 takes (params_plain params)
      ∙ ap (taken_bounds 0 []) (params_keys params) in
      begins_at p numbers (signed tables func takes (init_code func.key.at number shape givens))
      (λ s. Unit {0}) (init_work shape ones number) [] (params_of (facts_of tables) params)
      (HasIso func.iso) place made
      (ends_init tables numbers functions (λ s. Unit {0}) func.key.at number shape givens ones are)
      (λ s vars. tt) bounds (λ f same. same) named

  -- the getter of a property
  pub part_getter_stands : (number index : ℕ) (prop : PropTree) (shape : Shape) (part : Part)
      (place : ℕ)
      → IsMade p numbers (bodies.part_getter tables prop.word.at number index shape part)
      → numbers (name_of (bodies.part_getter tables prop.word.at number index shape part))
      ≡ Some place
      → BodyStands p (works.part_getter (facts_of tables) number index prop shape) place
  part_getter_stands number index prop shape part place made named =
      begins_at p numbers (bodies.part_getter tables prop.word.at number index shape part)
      (HasSelf tables numbers functions shape.at)
      (work.Then (work.Read shape.at) (work.Then (work.LoadPart index) work.Return)) []
      (shape.at ∷ []) (HasIso ((facts_of tables).iso_at prop.word.at)) place made
      (ends_part tables numbers functions prop.word.at shape.at index part.ty)
      (λ s vars. ap (var_in shape.at) vars ∙ itself shape.at 0 []) refl (λ f same. same) named where
        itself : (key r : ℕ) (more : List Bound)
            → var_in key (bound_of key r false ∷ more) ≡ Some (bound_of key r false)
        itself key r more = by (key == key) (eqb_tells key key) where
          by : (is : Bool) → ((is ≡ true) × (key ≡ key)) ⊎ ((is ≡ false) × (key ≢ key))
              → (if is then Some (bound_of key r false) else var_in key more)
              ≡ Some (bound_of key r false)
          by true tells = refl
          by false (inl tells) = absurd (let c : ⊥ = (let wrong : false ≡ true = tells.0 in cc) in c)
          by false (inr tells) = absurd (tells.1 refl)

  -- the getter of a global variable
  pub global_getter_stands : (index : ℕ) (prop : PropTree) (global : GlobalVar) (place : ℕ)
      → IsMade p numbers (bodies.getter tables prop.word.at [] global.ty
      (stored_read prop.word.at index global.ty))
      → numbers (name_of (bodies.getter tables prop.word.at [] global.ty
      (stored_read prop.word.at index global.ty))) ≡ Some place
      → BodyStands p (works.global_getter (facts_of tables) index prop) place
  global_getter_stands index prop global place made named =
      begins_at p numbers (bodies.getter tables prop.word.at [] global.ty
      (stored_read prop.word.at index global.ty)) (λ s. Unit {0})
      (work.Then (work.LoadGlobal index) work.Return) [] []
      (HasIso ((facts_of tables).iso_at prop.word.at)) place made
      (ends_global tables numbers functions (λ s. Unit {0}) prop.word.at index global.ty) (λ s vars. tt) refl
      (λ f same. same) named

  -- what gives a global variable its first value
  pub first_value_stands : (index : ℕ) (prop : PropTree) (value : Expr) (place : ℕ)
      → ExprStands tables numbers functions (expr_code tables None value)
      (expr_work (facts_of tables) None value)
      → IsMade p numbers (bodies.first_value tables prop.word.at index (expr_code tables None value))
      → numbers (name_of (bodies.first_value tables prop.word.at index
      (expr_code tables None value))) ≡ Some place
      → BodyStands p (record {
        name = work.FirstValue index;
        iso = (facts_of tables).iso_at prop.word.at;
        takes = [];
        work = (expr_work (facts_of tables) None value).read
            (work.Then (work.StoreGlobal index) work.Finish);
      }) place
  first_value_stands index prop value place is made named =
      begins_at p numbers (bodies.first_value tables prop.word.at index (expr_code tables None value))
      (λ s. Unit {0})
      ((expr_work (facts_of tables) None value).read (work.Then (work.StoreGlobal index) work.Finish))
      [] [] (HasIso ((facts_of tables).iso_at prop.word.at)) place made
      (ends_first tables numbers functions (λ s. Unit {0}) prop.word.at index (expr_code tables None value).read
      (expr_work (facts_of tables) None value).read is.read) (λ s vars. tt) refl (λ f same. same) named
