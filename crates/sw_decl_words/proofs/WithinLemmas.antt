-- The types that shapes hold name shapes of the same program.
use Rattle.std.proofs.Common.{◌≡◌, ◌+◌, ◌≤◌, ◌<◌, ℕ, Bool, true, false, cond, refl, IsTrue}
use Rattle.std.proofs.Common.{List, [], ◌∷◌, map, length, Option, Some, None, All, unwrap_or}
use Rattle.std.proofs.Common.{nat_eq, ap, sym, subst, arith, ◌∙◌, ◌&&◌, ◌++◌}
use Rattle.std.specs.List.{flat_map, list_all}
use Rattle.std.proofs.lemmas.Bool.{lt-ltb}
use Rattle.std.proofs.lemmas.List.{length-append}
use Rattle.std.proofs.lemmas.List.Elements.{All-nil, All-cons, All-append}
use Rattle.sw_tree.specs.declared.decl.CaseTree.{CaseTree}
use Rattle.sw_tree.specs.declared.decl.Decl.{Decl}
use Rattle.sw_tree.specs.declared.decl.Decl.TheVariants.{Entry, Struct, Enum, Class, Actor}
use Rattle.sw_tree.specs.declared.decl.Decl.TheVariants.{GlobalActor, Func, Global}
use Rattle.sw_tree.specs.declared.decl.PropTree.{PropTree}
use Rattle.sw_tree.specs.declared.expr.Expr.{Expr, out-Expr}
use Rattle.sw_tree.specs.declared.expr.Expr.TheOpen as exprs
use Rattle.sw_tree.specs.declared.type_tree.TypeTree.{TypeTree, roll-TypeTree}
use Rattle.sw_tree.specs.declared.type_tree.TypeTree.TheFolds as folds
use Rattle.sw_tree.specs.declared.type_tree.TypeTree.TheOpen as tree
use Rattle.sw_types.specs.Held.{AreWithin, types_in}
use Rattle.sw_types.specs.Named.{is_within, layer_is_within}
use Rattle.sw_types.specs.declared.shape.CaseShape.{CaseShape}
use Rattle.sw_types.specs.declared.shape.Part.{Part}
use Rattle.sw_types.specs.declared.shape.Shape.{Shape}
use Rattle.sw_types.specs.declared.shape.ShapeKind.TheVariants as kinds
use Rattle.sw_types.specs.declared.ty.Ty.{Ty, fold-roll-Ty}
use Rattle.sw_types.specs.declared.ty.Ty.TheOpen as layer
use Rattle.sw_types.specs.declared.ty.Ty.TheVariants as types
use Rattle.sw_decl_words.specs.Evident.{Layer, Meanings, base_enum, base_layer, case_type, enum_of}
use Rattle.sw_decl_words.specs.Evident.{evident_layer, evident_type, hides, is_case, made_type}
use Rattle.sw_decl_words.specs.Evident.{meanings_of, seen}
use Rattle.sw_decl_words.specs.Shaped.{case_of, part_of, prop_type, shape_of, shapes_from, stated_type}
use Rattle.sw_decl_words.specs.TypeWords.{named_type, type_layer, type_meaning, type_of}
use Rattle.sw_decl_words.specs.Words.{actors_made, declares, globals_made, given_meaning, meaning_at}
use Rattle.sw_decl_words.specs.Words.{meaning_from, or_else, shapes_made, top_meaning, word_of}
use Rattle.sw_decl_words.specs.declared.words.Meaning.{Meaning}
use Rattle.sw_decl_words.specs.declared.words.Meaning.TheVariants as means

-- a word whose shape, if it has one, is among the first n
abbrev pub InRange : ℕ → Option Meaning → Type 0
InRange n None = Unit {0}
InRange n (Some (means.Shape kind number)) = number < n
InRange n (Some (means.GlobalActor number)) = Unit {0}
InRange n (Some (means.Func at)) = Unit {0}
InRange n (Some (means.Global number)) = Unit {0}
InRange n (Some means.Entry) = Unit {0}

or_else_in : (n : ℕ) (one other : Option Meaning) → InRange n one → InRange n other
    → InRange n (or_else one other)
or_else_in n None other is more = more
or_else_in n (Some meaning) other is more = is

where_in : (n : ℕ) (is_here : Bool) (meaning : Meaning) → InRange n (Some meaning)
    → InRange n (cond is_here (Some meaning) None)
where_in n true meaning is = is
where_in n false meaning is = tt

meaning_in : (n : ℕ) (decl : Decl) (number actors globals : ℕ) → number + shapes_made decl ≤ n
    → InRange n (Some (meaning_at decl number actors globals))
meaning_in n (Entry word written at is_async body) number actors globals few = tt
meaning_in n (Struct word conforms fields funcs) number actors globals few = omega arith
meaning_in n (Enum word conforms cases funcs) number actors globals few = omega arith
meaning_in n (Class written word conforms props inits funcs) number actors globals few = omega arith
meaning_in n (Actor word props inits funcs) number actors globals few = omega arith
meaning_in n (GlobalActor word made) number actors globals few = tt
meaning_in n (Func func) number actors globals few = tt
meaning_in n (Global global) number actors globals few = tt

-- how many shapes declarations make
abbrev pub shapes_of_all : List Decl → ℕ
shapes_of_all [] = 0
shapes_of_all (decl ∷ decls) = shapes_made decl + shapes_of_all decls

declared_in : (n : ℕ) (decls : List Decl) (number actors globals id : ℕ)
    → number + shapes_of_all decls ≤ n → InRange n (meaning_from decls number actors globals id)
declared_in n [] number actors globals id few = tt
declared_in n (decl ∷ decls) number actors globals id few =
    or_else_in n
    (cond (declares (word_of decl).id id) (Some (meaning_at decl number actors globals)) None)
    (meaning_from decls (number + shapes_made decl) (actors + actors_made decl)
    (globals + globals_made decl) id)
    (where_in n (declares (word_of decl).id id) (meaning_at decl number actors globals)
    (meaning_in n decl number actors globals (omega arith)))
    (declared_in n decls (number + shapes_made decl) (actors + actors_made decl)
    (globals + globals_made decl) id (omega arith))

-- A word that means a shape has the number of one of the shapes that declarations make.
pub top_in : (decls : List Decl) (id : ℕ) → InRange (shapes_of_all decls) (top_meaning decls id)
top_in decls id = or_else_in (shapes_of_all decls) (given_meaning id) (meaning_from decls 0 1 0 id)
    (where_in (shapes_of_all decls) (nat_eq 6 id) (means.GlobalActor 0) tt)
    (declared_in (shapes_of_all decls) decls 0 1 0 id (omega arith))

int_within : (n : ℕ) → IsTrue (is_within n types.Int)
int_within n = ap (is_within n) (sym types.rolls-Int)
    ∙ fold-roll-Ty Bool (layer_is_within n) layer.Int

bool_within : (n : ℕ) → IsTrue (is_within n types.Bool)
bool_within n = ap (is_within n) (sym types.rolls-Bool)
    ∙ fold-roll-Ty Bool (layer_is_within n) layer.Bool

void_within : (n : ℕ) → IsTrue (is_within n types.Unit)
void_within n = ap (is_within n) (sym types.rolls-Unit)
    ∙ fold-roll-Ty Bool (layer_is_within n) layer.Unit

pub named_within : (n number : ℕ) → number < n → IsTrue (is_within n (types.Named number))
named_within n number lt = ap (is_within n) (sym (types.rolls-Named number))
    ∙ fold-roll-Ty Bool (layer_is_within n) (layer.Named number) ∙ lt-ltb number n lt

task_within : (n : ℕ) (inner : Ty) → IsTrue (is_within n inner)
    → IsTrue (is_within n (types.Task inner))
task_within n inner is = ap (is_within n) (sym (types.rolls-Task inner))
    ∙ fold-roll-Ty Bool (layer_is_within n) (layer.Task inner) ∙ is

func_within : (n : ℕ) (sendable : Bool) (params : List Ty) (result : Ty)
    → IsTrue (list_all (λ is. is) (map (is_within n) params)) → IsTrue (is_within n result)
    → IsTrue (is_within n (types.Func sendable params result))
func_within n sendable params result each is =
    ap (is_within n) (sym (types.rolls-Func sendable params result))
    ∙ fold-roll-Ty Bool (layer_is_within n) (layer.Func sendable params result)
    ∙ ap (λ all. all && is_within n result) each ∙ is

-- The types that a type names are among the first n.
abbrev pub Within : ℕ → Ty → Type 0
Within n ty = IsTrue (is_within n ty)

-- the type, or the one that stands for it where there is none
abbrev pub Stands : ℕ → Option Ty → Type 0
Stands n ty = Within n (unwrap_or ty types.Unit)

module _ (known : ℕ → Option Meaning) (n : ℕ) (are : (id : ℕ) → InRange n (known id)) where
  named_in : (meaning : Option Meaning) → InRange n meaning → Stands n (named_type meaning)
  named_in None is = void_within n
  named_in (Some (means.Shape kind number)) is = named_within n number is
  named_in (Some (means.GlobalActor number)) is = void_within n
  named_in (Some (means.Func at)) is = void_within n
  named_in (Some (means.Global number)) is = void_within n
  named_in (Some means.Entry) is = void_within n

  either_in : (is_first : Bool) (one other : Option Ty) → Stands n one → Stands n other
      → Stands n (cond is_first one other)
  either_in true one other is more = is
  either_in false one other is more = more

  word_in : (id : ℕ) → Stands n (type_meaning known id)
  word_in id =
      either_in (nat_eq id 0) (Some types.Int) _ (int_within n)
      (either_in (nat_eq id 1) (Some types.Bool) _ (bool_within n)
      (either_in (nat_eq id 2) (Some types.Unit) _ (void_within n) (named_in (known id) (are id))))

  abbrev Known : Type 0
  Known = (t : TypeTree) × (Within n) (type_of known t)

  each_in : (params : List Known)
      → IsTrue (list_all (λ is. is)
      (map (is_within n) (map (type_of known) (map (λ q. q.0) params))))
  each_in [] = refl
  each_in (param ∷ params) =
      ap (λ is. is && list_all (λ more. more)
      (map (is_within n) (map (type_of known) (map (λ q. q.0) params)))) param.1
      ∙ each_in params

  layer_in : (y : tree.TypeTree-F Known)
      → (Within n) (type_of known (roll-TypeTree (folds.map-TypeTree Known TypeTree (λ q. q.0) y)))
  layer_in (tree.Named name) =
      subst (Within n) (sym (folds.fold-roll-TypeTree Ty (type_layer known) (tree.Named name)))
      (word_in name.id)
  layer_in (tree.Unit at) =
      subst (Within n) (sym (folds.fold-roll-TypeTree Ty (type_layer known) (tree.Unit at)))
      (void_within n)
  layer_in (tree.Arrow at mark params result) =
      subst (Within n) (sym (folds.fold-roll-TypeTree Ty (type_layer known)
      (tree.Arrow at mark (map (λ q. q.0) params) result.0)))
      (func_within n _ (map (type_of known) (map (λ q. q.0) params)) (type_of known result.0)
      (each_in params) result.1)
  layer_in (tree.TaskOf at inner) =
      subst (Within n)
      (sym (folds.fold-roll-TypeTree Ty (type_layer known) (tree.TaskOf at inner.0)))
      (task_within n (type_of known inner.0) inner.1)

  -- what a written type means
  pub written_within : (written : TypeTree) → (Within n) (type_of known written)
  written_within = folds.ind-TypeTree (λ t. (Within n) (type_of known t))
      (λ x y is. subst (λ z. (Within n) (type_of known (roll-TypeTree z))) is (layer_in y))

  types_are_in : (written : List TypeTree) → All (Within n) (map (type_of known) written)
  types_are_in [] = All-nil (Within n)
  types_are_in (one ∷ more) =
      All-cons (Within n) (type_of known one) (map (type_of known) more) (written_within one)
      (types_are_in more)

  made_in : (meaning : Option Meaning) → InRange n meaning → Stands n (made_type meaning)
  made_in None is = void_within n
  made_in (Some (means.Shape kinds.Struct number)) is = named_within n number is
  made_in (Some (means.Shape kinds.Enum number)) is = void_within n
  made_in (Some (means.Shape kinds.Class number)) is = named_within n number is
  made_in (Some (means.Shape kinds.Actor number)) is = named_within n number is
  made_in (Some (means.GlobalActor number)) is = void_within n
  made_in (Some (means.Func at)) is = void_within n
  made_in (Some (means.Global number)) is = void_within n
  made_in (Some means.Entry) is = void_within n

  cases_in : (cases : List CaseTree)
      → All (Within n) (flat_map (λ (one : CaseShape). one.payload) (map (case_of known) cases))
  cases_in [] = All-nil (Within n)
  cases_in (one ∷ cases) =
      All-append (Within n) (map (type_of known) one.types)
      (flat_map (λ (case : CaseShape). case.payload) (map (case_of known) cases))
      (types_are_in one.types) (cases_in cases)

  -- a type that is written, or else another
  pub stated_within : (written : Option TypeTree) (ty : Ty) → (Within n) ty
      → (Within n) (stated_type known written ty)
  stated_within None ty is = is
  stated_within (Some one) ty is = written_within one

module _ (known : Meanings) (n : ℕ) (are : (id : ℕ) → InRange n (known.top id)) where
  -- a number of an enum that is among the first n shapes, if there is one
  abbrev EnumIn : Option ℕ → Type 0
  EnumIn None = Unit {0}
  EnumIn (Some number) = number < n

  enum_in : (meaning : Option Meaning) → InRange n meaning → EnumIn (enum_of meaning)
  enum_in None is = tt
  enum_in (Some (means.Shape kinds.Struct number)) is = tt
  enum_in (Some (means.Shape kinds.Enum number)) is = is
  enum_in (Some (means.Shape kinds.Class number)) is = tt
  enum_in (Some (means.Shape kinds.Actor number)) is = tt
  enum_in (Some (means.GlobalActor number)) is = tt
  enum_in (Some (means.Func at)) is = tt
  enum_in (Some (means.Global number)) is = tt
  enum_in (Some means.Entry) is = tt

  unless_in : (is_hidden : Bool) (meaning : Option Meaning) → InRange n meaning
      → InRange n (cond is_hidden None meaning)
  unless_in true meaning is = tt
  unless_in false meaning is = is

  seen_in : (owner : Option ℕ) (id : ℕ) → InRange n (seen known owner id)
  seen_in owner id = unless_in (hides known owner id) (known.top id) (are id)

  if_case_in : (is_one : Bool) (number : ℕ) → number < n
      → Stands n (cond is_one (Some (types.Named number)) None)
  if_case_in true number is = named_within n number is
  if_case_in false number is = void_within n

  case_in : (number : Option ℕ) (word : ℕ) → EnumIn number → Stands n (case_type known number word)
  case_in None word is = void_within n
  case_in (Some number) word is = if_case_in (is_case (known.members number word)) number is

  base_layer_in : (owner : Option ℕ) (node : Layer) → EnumIn (base_layer known owner node)
  base_layer_in owner (exprs.Use name) =
      enum_in (seen known owner name.id) (seen_in owner name.id)
  base_layer_in owner _ = tt

  base_in : (owner : Option ℕ) (base : Expr) → EnumIn (base_enum known owner base)
  base_in owner base = base_layer_in owner (out-Expr base)

  node_in : (owner : Option ℕ) (node : Layer) → Stands n (evident_layer known owner node)
  node_in owner (exprs.Int at value) = int_within n
  node_in owner (exprs.Bool at value) = bool_within n
  node_in owner (exprs.Call name args) =
      made_in known.top n are (seen known owner name.id) (seen_in owner name.id)
  node_in owner (exprs.Member base name) =
      case_in (base_enum known owner base) name.id (base_in owner base)
  node_in owner (exprs.Method base name args) =
      case_in (base_enum known owner base) name.id (base_in owner base)
  node_in owner _ = void_within n

  value_in : (owner : Option ℕ) (value : Option Expr) → Stands n (evident_type known owner value)
  value_in owner None = void_within n
  value_in owner (Some value) = node_in owner (out-Expr value)

  -- the type of a property or a global variable
  pub prop_within : (owner : Option ℕ) (prop : PropTree) → Within n (prop_type known owner prop)
  prop_within owner prop =
      stated_within known.top n are prop.ty
      (unwrap_or (evident_type known owner prop.value) types.Unit) (value_in owner prop.value)

  parts_in : (owner : Option ℕ) (props : List PropTree)
      → All (Within n) (map (λ (part : Part). part.ty) (map (part_of known owner) props))
  parts_in owner [] = All-nil (Within n)
  parts_in owner (prop ∷ props) =
      All-cons (Within n) (prop_type known owner prop)
      (map (λ (part : Part). part.ty) (map (part_of known owner) props))
      (prop_within owner prop)
      (parts_in owner props)

  abbrev Holds : Shape → Type 0
  Holds shape = All (Within n) (types_in shape)

  with_parts : (owner : Option ℕ) (shape : Shape) (props : List PropTree)
      → types_in shape ≡ map (λ (part : Part). part.ty) (map (part_of known owner) props) ++ []
      → All Holds (shape ∷ [])
  with_parts owner shape props is = All-cons Holds shape []
      (subst (All (Within n)) (sym is)
      (All-append (Within n) (map (λ (part : Part). part.ty) (map (part_of known owner) props)) []
      (parts_in owner props) (All-nil (Within n))))
      (All-nil Holds)

  shape_in : (number : ℕ) (decl : Decl) → All Holds (shape_of known number decl)
  unfolding shape_of
  shape_in number (Entry word written at is_async body) = All-nil Holds
  shape_in number (Struct word conforms fields funcs) = with_parts (Some number) _ fields refl
  shape_in number (Enum word conforms cases funcs) =
      All-cons Holds _ [] (cases_in known.top n are cases) (All-nil Holds)
  shape_in number (Class written word conforms props inits funcs) =
      with_parts (Some number) _ props refl
  shape_in number (Actor word props inits funcs) = with_parts (Some number) _ props refl
  shape_in number (GlobalActor word made) = All-nil Holds
  shape_in number (Func func) = All-nil Holds
  shape_in number (Global global) = All-nil Holds

  shapes_in : (number : ℕ) (decls : List Decl) → All Holds (shapes_from known number decls)
  shapes_in number [] = All-nil Holds
  shapes_in number (decl ∷ decls) =
      All-append Holds (shape_of known number decl)
      (shapes_from known (number + shapes_made decl) decls) (shape_in number decl)
      (shapes_in (number + shapes_made decl) decls)

-- A declaration makes as many shapes as are counted.
pub shapes_counted : (known : Meanings) (number : ℕ) (decl : Decl)
    → length (shape_of known number decl) ≡ shapes_made decl
unfolding shape_of
shapes_counted known number (Entry word written at is_async body) = refl
shapes_counted known number (Struct word conforms fields funcs) = refl
shapes_counted known number (Enum word conforms cases funcs) = refl
shapes_counted known number (Class written word conforms props inits funcs) = refl
shapes_counted known number (Actor word props inits funcs) = refl
shapes_counted known number (GlobalActor word made) = refl
shapes_counted known number (Func func) = refl
shapes_counted known number (Global global) = refl

-- There are as many shapes as declarations make.
pub length_shapes : (known : Meanings) (number : ℕ) (decls : List Decl)
    → length (shapes_from known number decls) ≡ shapes_of_all decls
length_shapes known number [] = refl
length_shapes known number (decl ∷ decls) =
    let rest = shapes_from known (number + shapes_made decl) decls in
    length-append (shape_of known number decl) rest
    ∙ ap (λ n. n + length rest) (shapes_counted known number decl)
    ∙ ap (λ n. shapes_made decl + n) (length_shapes known (number + shapes_made decl) decls)

-- A declaration makes one shape at most.
pub one_shape : (decl : Decl) → shapes_made decl ≤ 1
one_shape (Entry word written at is_async body) = omega arith
one_shape (Struct word conforms fields funcs) = omega arith
one_shape (Enum word conforms cases funcs) = omega arith
one_shape (Class written word conforms props inits funcs) = omega arith
one_shape (Actor word props inits funcs) = omega arith
one_shape (GlobalActor word made) = omega arith
one_shape (Func func) = omega arith
one_shape (Global global) = omega arith

total_few : (decls : List Decl) → shapes_of_all decls ≤ length decls
total_few [] = omega arith
total_few (decl ∷ decls) =
    let one = one_shape decl in
    let more = total_few decls in
    omega arith

pub shapes_few : (known : Meanings) (decls : List Decl)
    → length (shapes_from known 0 decls) ≤ length decls
shapes_few known decls =
    subst (λ n. n ≤ length decls) (sym (length_shapes known 0 decls)) (total_few decls)

pub shapes_within : (decls : List Decl) → AreWithin (shapes_from (meanings_of decls) 0 decls)
shapes_within decls =
    subst (λ n. All (λ shape. All (λ ty. IsTrue (is_within n ty)) (types_in shape))
    (shapes_from (meanings_of decls) 0 decls)) (sym (length_shapes (meanings_of decls) 0 decls))
    (shapes_in (meanings_of decls) (shapes_of_all decls) (top_in decls) 0 decls)
