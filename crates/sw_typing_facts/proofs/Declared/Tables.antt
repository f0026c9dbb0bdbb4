-- The types of a program's properties, payloads, functions and global variables are declared.
use Rattle.std.proofs.Common.{◌≡◌, ℕ, ◌+◌, ◌≤◌, ◌<◌, Bool, true, false, List, [], ◌∷◌, ◌++◌, Option}
use Rattle.std.proofs.Common.{Some, None, map, length, sym, subst, ap, ◌∙◌, arith, if◌then◌else◌}
use Rattle.std.proofs.Common.{◌==◌, flat_map, slice_get}
use Rattle.std.proofs.lemmas.List.Elements.{All-from_recursion, recursion_from_All}
use Rattle.std.proofs.lemmas.List.Sorted.{All-permutation}
use Rattle.std.specs.List.{AllByRecursion}
use Rattle.sw_tree.specs.declared.decl.CaseTree.{CaseTree}
use Rattle.sw_tree.specs.declared.decl.Decl.{Decl}
use Rattle.sw_tree.specs.declared.decl.Decl.TheVariants.{Entry, Struct, Enum, Class, Actor}
use Rattle.sw_tree.specs.declared.decl.Decl.TheVariants.{GlobalActor, Func, Global}
use Rattle.sw_tree.specs.declared.decl.FuncTree.{FuncTree}
use Rattle.sw_tree.specs.declared.decl.InitTree.{InitTree}
use Rattle.sw_tree.specs.declared.decl.ParamTree.{ParamTree}
use Rattle.sw_tree.specs.declared.decl.PropTree.{PropTree}
use Rattle.sw_tree.specs.declared.name.Name.{Name}
use Rattle.sw_types.specs.declared.isolation.Iso.{Iso}
use Rattle.sw_types.specs.declared.isolation.Iso.TheVariants as iso
use Rattle.sw_types.specs.declared.shape.CaseShape.{CaseShape}
use Rattle.sw_types.specs.declared.shape.Part.{Part}
use Rattle.sw_types.specs.declared.shape.Shape.{Shape}
use Rattle.sw_types.specs.declared.ty.Ty.{Ty}
use Rattle.sw_types.specs.declared.ty.Ty.TheVariants as types
use Rattle.sw_decl_words.proofs.WithinLemmas.{InRange, length_shapes, prop_within}
use Rattle.sw_decl_words.proofs.WithinLemmas.{shapes_of_all, stated_within, written_within}
use Rattle.sw_decl_words.specs.Evident.{Meanings, meanings_of}
use Rattle.sw_decl_words.specs.Shaped.{case_of, part_of, shape_of, shapes_from, written_actor}
use Rattle.sw_decl_words.specs.Words.{shapes_made, top_meaning}
use Rattle.sw_decls.specs.Signatures.{actor_iso, func_of, funcs_from, funcs_of, global_of, init_of}
use Rattle.sw_decls.specs.Signatures.{inits_of, param_of}
use Rattle.sw_decls.specs.declared.signature.AsyncDefault.{AsyncDefault}
use Rattle.sw_decls.specs.declared.signature.GlobalVar.{GlobalVar}
use Rattle.sw_decls.specs.declared.signature.Param.{Param}
use Rattle.sw_decls.specs.declared.signature.Signature.{Signature}
use Rattle.sw_typing_rules.specs.Worlds.{IsWorldOf, World}
use Rattle.sw_typing_facts.proofs.Declared.Words.{each_within}
use Rattle.sw_typing_facts.proofs.Declared.Words.{top_in_range}
use Rattle.sw_typing_facts.proofs.Types.Within.{AreWithin, Within, all_append, all_map, at_number}
use Rattle.sw_typing_facts.proofs.Types.Within.{named_within, unit_within}

-- The types that a type names are declared.
abbrev pub Declared : World → Ty → Type 0
Declared world ty = Within (length world.shapes) ty

-- the type of a property names the first n types alone
abbrev pub PartWithin : ℕ → Part → Type 0
PartWithin n part = Within n part.ty

-- so do the types of a payload
abbrev pub CaseWithin : ℕ → CaseShape → Type 0
CaseWithin n one = AreWithin n one.payload

-- the types of a shape's properties and payloads
abbrev pub ShapeWithin : ℕ → Shape → Type 0
ShapeWithin n shape =
    AllByRecursion (PartWithin n) shape.parts × AllByRecursion (CaseWithin n) shape.cases

-- the type of a parameter
abbrev pub ParamWithin : ℕ → Param → Type 0
ParamWithin n param = Within n param.ty

-- the types of a function's parameters, and its result
abbrev pub FuncWithin : ℕ → Signature → Type 0
FuncWithin n func = AllByRecursion (ParamWithin n) func.params × Within n func.result

-- the type of a global variable
abbrev pub GlobalWithin : ℕ → GlobalVar → Type 0
GlobalWithin n global = Within n global.ty

module _ (known : Meanings) (n : ℕ) (are : (id : ℕ) → InRange n (known.top id)) where
  parts_within : (owner : Option ℕ) (props : List PropTree)
      → AllByRecursion (PartWithin n) (map (part_of known owner) props)
  parts_within owner =
      all_map (PartWithin n) (part_of known owner) (λ prop. prop_within known n are owner prop)

  cases_within : (cases : List CaseTree)
      → AllByRecursion (CaseWithin n) (map (case_of known.top) cases)
  cases_within =
      all_map (CaseWithin n) (case_of known.top) (λ one. each_within known.top n are one.types)

  shape_within : (number : ℕ) (decl : Decl)
      → AllByRecursion (ShapeWithin n) (shape_of known number decl)
  unfolding shape_of
  shape_within number (Entry word written at is_async body) = tt
  shape_within number (Struct word conforms fields funcs) =
      ((parts_within (Some number) fields, tt), tt)
  shape_within number (Enum word conforms cases funcs) = ((tt, cases_within cases), tt)
  shape_within number (Class written word conforms props inits funcs) =
      ((parts_within (Some number) props, tt), tt)
  shape_within number (Actor word props inits funcs) =
      ((parts_within (Some number) props, tt), tt)
  shape_within number (GlobalActor word made) = tt
  shape_within number (Func func) = tt
  shape_within number (Global global) = tt

  -- The types of parts and payloads are declared.
  pub shapes_within : (number : ℕ) (decls : List Decl)
      → AllByRecursion (ShapeWithin n) (shapes_from known number decls)
  shapes_within number [] = tt
  shapes_within number (decl ∷ decls) =
      all_append (ShapeWithin n) (shape_of known number decl)
      (shapes_from known (number + shapes_made decl) decls) (shape_within number decl)
      (shapes_within (number + shapes_made decl) decls)

  params_within : (params : List ParamTree)
      → AllByRecursion (ParamWithin n) (map (param_of known.top) params)
  params_within =
      all_map (ParamWithin n) (param_of known.top)
      (λ param. written_within known.top n are param.ty)

  func_within : (rule : AsyncDefault) (owner : Option ℕ) (isolation : Iso) (func : FuncTree)
      → FuncWithin n (func_of known.top rule owner isolation func)
  func_within rule owner isolation func = (
    params_within func.params,
    stated_within known.top n are func.result types.Unit (unit_within n),
  )

  methods_within : (rule : AsyncDefault) (owner : Option ℕ) (isolation : Iso)
      (funcs : List FuncTree)
      → AllByRecursion (FuncWithin n) (map (func_of known.top rule owner isolation) funcs)
  methods_within rule owner isolation =
      all_map (FuncWithin n) (func_of known.top rule owner isolation)
      (func_within rule owner isolation)

  init_within : (key : Name) (number : ℕ) (isolation : Iso) (params : List ParamTree) → number < n
      → FuncWithin n (init_of known.top key number isolation params)
  init_within key number isolation params is = (params_within params, named_within n number is)

  default_within : (is_default : Bool) (func : Signature) → FuncWithin n func
      → AllByRecursion (FuncWithin n) (if is_default then func ∷ [] else [])
  default_within true func is = (is, tt)
  default_within false func is = tt

  inits_within : (word : Name) (number : ℕ) (isolation : Iso) (inits : List InitTree) → number < n
      → AllByRecursion (FuncWithin n) (inits_of known.top word number isolation inits)
  inits_within word number isolation inits is =
      all_append (FuncWithin n)
      (if length inits == 0 then init_of known.top word number isolation [] ∷ [] else []) _
      (default_within (length inits == 0) (init_of known.top word number isolation [])
      (init_within word number isolation [] is))
      (all_map (FuncWithin n) (λ (one : InitTree). init_of known.top
      (record { at = one.at; id = word.id }) number isolation one.params)
      (λ one. init_within (record { at = one.at; id = word.id }) number isolation one.params is)
      inits)

  made_within : (word : Name) (rule : AsyncDefault) (number : ℕ) (isolation : Iso)
      (inits : List InitTree) (funcs : List FuncTree) → number < n
      → AllByRecursion (FuncWithin n) (inits_of known.top word number isolation inits
      ++ map (func_of known.top rule (Some number) isolation) funcs)
  made_within word rule number isolation inits funcs is =
      all_append (FuncWithin n) (inits_of known.top word number isolation inits) _
      (inits_within word number isolation inits is)
      (methods_within rule (Some number) isolation funcs)

  funcs_of_within : (rule : AsyncDefault) (number : ℕ) (decl : Decl)
      → number + shapes_made decl ≤ n
      → AllByRecursion (FuncWithin n) (funcs_of known.top rule number decl)
  unfolding funcs_of
  funcs_of_within rule number (Entry word written at is_async body) few =
      ((tt, unit_within n), tt)
  funcs_of_within rule number (Struct word conforms fields funcs) few =
      methods_within rule (Some number) iso.Free funcs
  funcs_of_within rule number (Enum word conforms cases funcs) few =
      methods_within rule (Some number) iso.Free funcs
  funcs_of_within rule number (Class written word conforms props inits funcs) few =
      made_within word rule number (actor_iso (written_actor known.top written)) inits funcs
      (omega arith)
  funcs_of_within rule number (Actor word props inits funcs) few =
      made_within word rule number iso.Own inits funcs (omega arith)
  funcs_of_within rule number (GlobalActor word made) few = tt
  funcs_of_within rule number (Func func) few = (func_within rule None iso.Free func, tt)
  funcs_of_within rule number (Global global) few = tt

  -- The types of parameters and results are declared.
  pub funcs_within : (rule : AsyncDefault) (number : ℕ) (decls : List Decl)
      → number + shapes_of_all decls ≤ n
      → AllByRecursion (FuncWithin n) (funcs_from known.top rule number decls)
  funcs_within rule number [] few = tt
  funcs_within rule number (decl ∷ decls) few =
      all_append (FuncWithin n) (funcs_of known.top rule number decl)
      (funcs_from known.top rule (number + shapes_made decl) decls)
      (funcs_of_within rule number decl (omega arith))
      (funcs_within rule (number + shapes_made decl) decls (omega arith))

  global_within : (decl : Decl) → AllByRecursion (GlobalWithin n) (global_of known decl)
  global_within (Entry word written at is_async body) = tt
  global_within (Struct word conforms fields funcs) = tt
  global_within (Enum word conforms cases funcs) = tt
  global_within (Class written word conforms props inits funcs) = tt
  global_within (Actor word props inits funcs) = tt
  global_within (GlobalActor word made) = tt
  global_within (Func func) = tt
  global_within (Global global) = (prop_within known n are None global, tt)

  -- The types of global variables are declared.
  pub globals_within : (decls : List Decl)
      → AllByRecursion (GlobalWithin n) (flat_map (global_of known) decls)
  globals_within [] = tt
  globals_within (decl ∷ decls) =
      all_append (GlobalWithin n) (global_of known decl) (flat_map (global_of known) decls)
      (global_within decl) (globals_within decls)

-- What a program's words mean and its tables hold names its declared types alone.
pub record TablesWithin (world : World) : Type 0 where
  pub words : (id : ℕ) → InRange (length world.shapes) (world.known.top id)
  pub shapes : AllByRecursion (ShapeWithin (length world.shapes)) world.shapes
  pub funcs : AllByRecursion (FuncWithin (length world.shapes)) world.funcs
  pub globals : AllByRecursion (GlobalWithin (length world.shapes)) world.globals

module _ (world : World) (decls : List Decl) (rule : AsyncDefault)
    (is : IsWorldOf decls rule world) where
  -- how many shapes there are
  pub shapes_count : length world.shapes ≡ shapes_of_all decls
  shapes_count = ap length is.shapes ∙ length_shapes (meanings_of decls) 0 decls

  own_words : (id : ℕ) → InRange (length world.shapes) (top_meaning decls id)
  own_words id =
      subst (λ shapes. InRange (length shapes) (top_meaning decls id)) (sym is.shapes)
      (top_in_range decls id)

  -- All types in the tables of a program are declared.
  pub tables_within : TablesWithin world
  tables_within =
      let n = length world.shapes in record {
        words = λ id. subst (InRange n) (sym (is.words id)) (own_words id);
        shapes = subst (AllByRecursion (ShapeWithin n)) (sym is.shapes)
            (shapes_within (meanings_of decls) n own_words 0 decls);
        funcs = recursion_from_All (FuncWithin n) world.funcs
            (All-permutation (FuncWithin n) (funcs_from (top_meaning decls) rule 0 decls)
            world.funcs is.funcs
            (All-from_recursion (FuncWithin n) (funcs_from (top_meaning decls) rule 0 decls)
            (funcs_within (meanings_of decls) n own_words rule 0 decls
            (omega (arith, shapes_count)))));
        globals = subst (AllByRecursion (GlobalWithin n)) (sym is.globals)
            (globals_within (meanings_of decls) n own_words decls);
      }

  -- the type of each property
  pub parts_declared : (k i : ℕ) (shape : Shape) (part : Part)
      → slice_get world.shapes k ≡ Some shape → slice_get shape.parts i ≡ Some part
      → Declared world part.ty
  parts_declared k i shape part at_shape at_part =
      let n = length world.shapes in
      at_number (PartWithin n) shape.parts i part
      (at_number (ShapeWithin n) world.shapes k shape tables_within.shapes at_shape).0 at_part

  -- the result of each function, method and initialiser
  pub results_declared : (number : ℕ) (func : Signature)
      → slice_get world.funcs number ≡ Some func → Declared world func.result
  results_declared number func at =
      (at_number (FuncWithin (length world.shapes)) world.funcs number func tables_within.funcs
      at).1

  -- the type of each global variable
  pub globals_declared : (number : ℕ) (global : GlobalVar)
      → slice_get world.globals number ≡ Some global → Declared world global.ty
  globals_declared number global at =
      at_number (GlobalWithin (length world.shapes)) world.globals number global
      tables_within.globals at
