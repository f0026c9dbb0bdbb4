-- Each getter among the bodies of a program is that of a `var` of an actor or of a class with a
-- global actor, or that of a global variable.
use Rattle.std.proofs.Common.{◌≡◌, ℕ, suc, ◌+◌, Option, Some, None, List, [], ◌∷◌, ◌++◌, flat_map}
use Rattle.std.proofs.Common.{Bool, true, false, Contains, ◌⊎◌, inl, inr, refl, ap, sym, subst}
use Rattle.std.proofs.Common.{◌∙◌, arith}
use Rattle.std.proofs.lemmas.List.Elements.{All-contains, All-from_recursion, Contains-append_cases}
use Rattle.std.specs.List.{AllByRecursion}
use Rattle.std.specs.Prelude.{◌&&◌, if◌then◌else◌, slice_get}
use Rattle.sw_list.proofs.Members.{none_in}
use Rattle.sw_tree.specs.declared.decl.Decl.{Decl}
use Rattle.sw_tree.specs.declared.decl.Decl.TheVariants.{Entry, Struct, Enum, Class, Actor}
use Rattle.sw_tree.specs.declared.decl.Decl.TheVariants.{GlobalActor, Func, Global}
use Rattle.sw_tree.specs.declared.decl.FuncTree.{FuncTree}
use Rattle.sw_tree.specs.declared.decl.InitTree.{InitTree}
use Rattle.sw_tree.specs.declared.decl.ParamTree.{ParamTree}
use Rattle.sw_tree.specs.declared.decl.PropTree.{PropTree}
use Rattle.sw_tree.specs.declared.expr.Expr.{Expr}
use Rattle.sw_tree.specs.declared.name.Name.{Name}
use Rattle.sw_tree.specs.declared.stmt.Block.{Block}
use Rattle.sw_types.specs.declared.shape.Part.{Part}
use Rattle.sw_types.specs.declared.shape.Shape.{Shape}
use Rattle.sw_types.specs.declared.ty.Ty.{Ty}
use Rattle.sw_types.specs.declared.ty.Ty.TheVariants as types
use Rattle.sw_graph.specs.declared.function.RegKind.TheVariants.{Plain}
use Rattle.sw_decls.specs.declared.signature.GlobalVar.{GlobalVar}
use Rattle.sw_decls.specs.declared.signature.Signature.{Signature}
use Rattle.sw_isolation_rules.specs.Answers.{for_some}
use Rattle.sw_isolation_rules.specs.Kinds.{is_isolated, shape_iso}
use Rattle.sw_isolation_rules.specs.Programs.{func_at}
use Rattle.sw_lower_code.specs.Whole.{Body}
use Rattle.sw_lower_rules.specs.Bodies.{decl_bodies, default_bodies, func_bodies, func_signed}
use Rattle.sw_lower_rules.specs.Bodies.{func_tree_bodies, getter, global_bodies, global_getter}
use Rattle.sw_lower_rules.specs.Bodies.{init_bodies, init_signed, inits_bodies, part_getter}
use Rattle.sw_lower_rules.specs.Bodies.{prop_getters, shape_getters, stored_read, value_bodies}
use Rattle.sw_lower_rules.specs.Carriers.{ClosureCode, Given}
use Rattle.sw_lower_rules.specs.Expressions.{closure_body}
use Rattle.sw_lower_rules.specs.Statements.{block_code}
use Rattle.sw_lower_rules.specs.Tables.{Tables}
use Rattle.sw_lower_formed_facts.proofs.Functions.Takes.{kinds_of}
use Rattle.sw_lower_formed_facts.proofs.Headers.InsideBodies.{all_both, all_in_block, all_in_expr}
use Rattle.sw_typing_facts.proofs.Lists.Listed.{only_in}

-- no getter
abbrev IsPlain : Body → Type 0
IsPlain body = body.getter ≡ false

abbrev ArePlain : List Body → Type 0
ArePlain bodies = AllByRecursion IsPlain bodies

no_getter : (bodies : List Body) (body : Body) → ArePlain bodies → Contains bodies body
    → body.getter ≡ true → ⊥
no_getter bodies body plain has is =
    let isnt : body.getter ≡ false =
    All-contains IsPlain bodies body (All-from_recursion IsPlain bodies plain) has in
    cc

plain_some : {A : Type 0} (found : Option A) (f : A → List Body) → ((x : A) → ArePlain (f x))
    → ArePlain (for_some found f)
plain_some None f each = tt
plain_some (Some x) f each = each x

plain_each : {A : Type 0} (f : A → List Body) (xs : List A) → ((x : A) → ArePlain (f x))
    → ArePlain (flat_map f xs)
plain_each f [] each = tt
plain_each f (x ∷ xs) each = all_both IsPlain (f x) (flat_map f xs) (each x) (plain_each f xs each)

-- the properties of a type
abbrev pub props_of : Decl → List PropTree
props_of (Entry word written at is_async body) = []
props_of (Struct word conforms fields funcs) = fields
props_of (Enum word conforms cases funcs) = []
props_of (Class written word conforms props inits funcs) = props
props_of (Actor word props inits funcs) = props
props_of (GlobalActor word made) = []
props_of (Func func) = []
props_of (Global global) = []

-- a class or an actor
abbrev pub IsObjectDecl : Decl → Type 0
IsObjectDecl (Class written word conforms props inits funcs) = Unit {0}
IsObjectDecl (Actor word props inits funcs) = Unit {0}
IsObjectDecl _ = ⊥

module _ (tables : Tables) where
  -- The bodies of functions, of closures and of first values are no getters.
  plain_closure : (owner : Option ℕ) (closure : ClosureCode) (result : Ty)
      → IsPlain (closure_body tables owner closure result)
  unfolding closure_body
  plain_closure owner closure result = refl

  plain_block : (owner : Option ℕ) (block : Block)
      → ArePlain (block_code tables owner block).inside
  plain_block owner block = all_in_block tables owner IsPlain (plain_closure owner) block

  plain_func : (key : ℕ) (params : List ParamTree) (block : Block)
      → ArePlain (func_bodies tables key params block)
  unfolding func_bodies
  plain_func key params block =
      plain_some (func_at tables.world tables.answers key) (func_signed tables params block)
      (λ (func : Signature). (refl, plain_block func.owner block))

  plain_funcs : (funcs : List FuncTree) → ArePlain (flat_map (func_tree_bodies tables) funcs)
  plain_funcs funcs =
      plain_each (func_tree_bodies tables) funcs
      (λ func. plain_func func.word.at func.params func.body)

  plain_signed : (n : ℕ) (props : List PropTree) (params : List ParamTree) (givens : List Given)
      (func : Signature) → ArePlain (init_signed tables n props params givens func)
  plain_signed n props params givens func =
      plain_some (slice_get tables.world.shapes n) _ (λ shape. (refl, tt))

  plain_init : (n : ℕ) (props : List PropTree) (init : InitTree)
      → ArePlain (init_bodies tables n props init)
  unfolding init_bodies
  plain_init n props init =
      let code = block_code tables (Some n) init.body in
      all_both IsPlain
      (for_some (func_at tables.world tables.answers init.at)
      (init_signed tables n props init.params code.gives)) code.inside
      (plain_some (func_at tables.world tables.answers init.at)
      (init_signed tables n props init.params code.gives)
      (plain_signed n props init.params code.gives)) (plain_block (Some n) init.body)

  plain_default : (n : ℕ) (props : List PropTree) (word : Name)
      → ArePlain (default_bodies tables n props word)
  unfolding default_bodies
  plain_default n props word =
      plain_some (func_at tables.world tables.answers word.at) (init_signed tables n props [] [])
      (plain_signed n props [] [])

  plain_inits : (n : ℕ) (props : List PropTree) (word : Name) (inits : List InitTree)
      → ArePlain (inits_bodies tables n props word inits)
  plain_inits n props word [] = plain_default n props word
  plain_inits n props word (init ∷ inits) =
      plain_each (init_bodies tables n props) (init ∷ inits) (plain_init n props)

  plain_value : (key index : ℕ) (value : Option Expr)
      → ArePlain (value_bodies tables key index value)
  plain_value key index None = tt
  plain_value key index (Some value) =
      (refl, all_in_expr tables None IsPlain (plain_closure None) value)

  -- the getter of a property, where the first of the properties has a number
  pub record PartGetter (n from : ℕ) (props : List PropTree) (body : Body) : Type 0 where
    pub place : ℕ
    pub prop : PropTree
    pub shape : Shape
    pub part : Part
    pub prop_at : slice_get props place ≡ Some prop
    pub shape_at : slice_get tables.world.shapes n ≡ Some shape
    pub part_at : slice_get shape.parts (from + place) ≡ Some part
    pub isolated : (prop.mutable && is_isolated (shape_iso shape)) ≡ true
    pub is : body ≡ part_getter tables prop.word.at n (from + place) shape part
    pub key : body.key ≡ prop.word.at
    pub takes : kinds_of body ≡ Plain (types.Named n) ∷ []
    pub gives : body.result ≡ part.ty

  -- the getter of a global variable
  pub record GlobalGetter (g : ℕ) (decl : Decl) (body : Body) : Type 0 where
    pub prop : PropTree
    pub global : GlobalVar
    pub decl_is : decl ≡ Global prop
    pub global_at : slice_get tables.world.globals g ≡ Some global
    pub is : body ≡ getter tables prop.word.at [] global.ty
        (stored_read prop.word.at g global.ty)
    pub key : body.key ≡ prop.word.at
    pub takes : kinds_of body ≡ []
    pub gives : body.result ≡ global.ty

  one_part : (n index : ℕ) (prop : PropTree) (props : List PropTree) (shape : Shape) (part : Part)
      (body : Body) → slice_get tables.world.shapes n ≡ Some shape
      → slice_get shape.parts index ≡ Some part
      → (prop.mutable && is_isolated (shape_iso shape)) ≡ true
      → Contains (part_getter tables prop.word.at n index shape part ∷ []) body
      → PartGetter n index (prop ∷ props) body
  one_part n index prop props shape part body shape_at part_at isolated has =
      let is = only_in (part_getter tables prop.word.at n index shape part) body has in
      let same : index ≡ index + 0 = omega arith in record {
        place = 0;
        prop = prop;
        shape = shape;
        part = part;
        prop_at = refl;
        shape_at = shape_at;
        part_at = subst (λ k. slice_get shape.parts k ≡ Some part) same part_at;
        isolated = isolated;
        is = sym is ∙ ap (λ k. part_getter tables prop.word.at n k shape part) same;
        key = ap (λ (one : Body). one.key) (sym is);
        takes = ap kinds_of (sym is);
        gives = ap (λ (one : Body). one.result) (sym is);
      }

  of_shape : (n index : ℕ) (prop : PropTree) (props : List PropTree) (shape : Shape) (body : Body)
      (some : Bool) → (prop.mutable && is_isolated (shape_iso shape)) ≡ some
      → slice_get tables.world.shapes n ≡ Some shape
      → Contains (if some then for_some (slice_get shape.parts index) (λ part.
      part_getter tables prop.word.at n index shape part ∷ []) else []) body
      → PartGetter n index (prop ∷ props) body
  of_shape n index prop props shape body false isolated shape_at has = absurd (none_in body has)
  of_shape n index prop props shape body true isolated shape_at has =
      by (slice_get shape.parts index) refl has where
        by : (found : Option Part) → slice_get shape.parts index ≡ found
            → Contains (for_some found (λ part.
            part_getter tables prop.word.at n index shape part ∷ [])) body
            → PartGetter n index (prop ∷ props) body
        by None at has = absurd (none_in body has)
        by (Some part) at has =
            one_part n index prop props shape part body shape_at at isolated has

  first_part : (n index : ℕ) (prop : PropTree) (props : List PropTree) (body : Body)
      → Contains
      (for_some (slice_get tables.world.shapes n) (shape_getters tables n index prop)) body
      → PartGetter n index (prop ∷ props) body
  first_part n index prop props body has = by (slice_get tables.world.shapes n) refl has where
    by : (found : Option Shape) → slice_get tables.world.shapes n ≡ found
        → Contains (for_some found (shape_getters tables n index prop)) body
        → PartGetter n index (prop ∷ props) body
    by None at has = absurd (none_in body has)
    by (Some shape) at has =
        of_shape n index prop props shape body (prop.mutable && is_isolated (shape_iso shape)) refl
        at has

  part_getters : (n index : ℕ) (props : List PropTree) (body : Body)
      → Contains (prop_getters tables n index props) body → PartGetter n index props body
  part_getters n index [] body has = absurd (none_in body has)
  part_getters n index (prop ∷ props) body has =
      elim (Contains-append_cases
      (for_some (slice_get tables.world.shapes n) (shape_getters tables n index prop))
      (prop_getters tables n (index + 1) props) body has) [
        | inl here ↦ first_part n index prop props body here
        | inr there ↦
            let one = part_getters n (index + 1) props body there in
            let same : (index + 1) + one.place ≡ index + suc one.place = omega arith in record {
              place = suc one.place;
              prop = one.prop;
              shape = one.shape;
              part = one.part;
              prop_at = one.prop_at;
              shape_at = one.shape_at;
              part_at = subst (λ k. slice_get one.shape.parts k ≡ Some one.part) same one.part_at;
              isolated = one.isolated;
              is = one.is
                  ∙ ap (λ k. part_getter tables one.prop.word.at n k one.shape one.part) same;
              key = one.key;
              takes = one.takes;
              gives = one.gives;
            }
      ]

  of_global : (g : ℕ) (prop : PropTree) (global : GlobalVar) (body : Body)
      → slice_get tables.world.globals g ≡ Some global → (actor : Option ℕ) (some : Bool)
      → Contains (for_some actor (λ actor.
      if some
      then getter tables prop.word.at [] global.ty (stored_read prop.word.at g global.ty) ∷ []
      else [])) body
      → GlobalGetter g (Global prop) body
  of_global g prop global body at None some has = absurd (none_in body has)
  of_global g prop global body at (Some actor) false has = absurd (none_in body has)
  of_global g prop global body at (Some actor) true has =
      let is = only_in
      (getter tables prop.word.at [] global.ty (stored_read prop.word.at g global.ty)) body has in
      record {
        prop = prop;
        global = global;
        decl_is = refl;
        global_at = at;
        is = sym is;
        key = ap (λ (one : Body). one.key) (sym is);
        takes = ap kinds_of (sym is);
        gives = ap (λ (one : Body). one.result) (sym is);
      }

  global_getters : (g : ℕ) (prop : PropTree) (body : Body)
      → Contains (global_bodies tables g prop) body → body.getter ≡ true
      → GlobalGetter g (Global prop) body
  unfolding global_bodies
  global_getters g prop body has is =
      elim (Contains-append_cases (value_bodies tables prop.word.at g prop.value)
      (for_some (slice_get tables.world.globals g) (global_getter tables prop.word.at g)) body
      has) [
        | inl never ↦
            absurd (no_getter (value_bodies tables prop.word.at g prop.value) body
            (plain_value prop.word.at g prop.value) never is)
        | inr there ↦ by (slice_get tables.world.globals g) refl there
      ] where
        by : (found : Option GlobalVar) → slice_get tables.world.globals g ≡ found
            → Contains (for_some found (global_getter tables prop.word.at g)) body
            → GlobalGetter g (Global prop) body
        by None at has = absurd (none_in body has)
        by (Some global) at has = of_global g prop global body at global.actor global.mutable has

  object_getter : (n : ℕ) (word : Name) (props : List PropTree) (inits : List InitTree)
      (funcs : List FuncTree) (body : Body)
      → Contains (prop_getters tables n 0 props ++ inits_bodies tables n props word inits
      ++ flat_map (func_tree_bodies tables) funcs) body → body.getter ≡ true
      → PartGetter n 0 props body
  object_getter n word props inits funcs body has is =
      let inits_are = inits_bodies tables n props word inits in
      let funcs_are = flat_map (func_tree_bodies tables) funcs in
      elim (Contains-append_cases (prop_getters tables n 0 props ++ inits_are) funcs_are body has) [
        | inr never ↦ absurd (no_getter funcs_are body (plain_funcs funcs) never is)
        | inl before ↦
            elim (Contains-append_cases (prop_getters tables n 0 props) inits_are body before) [
              | inl here ↦ part_getters n 0 props body here
              | inr never ↦
                  absurd (no_getter inits_are body (plain_inits n props word inits) never is)
            ]
      ]

  -- A getter among the bodies of a declaration is that of a property or of a global variable.
  pub getter_in : (n g : ℕ) (decl : Decl) (body : Body)
      → Contains (decl_bodies tables n g decl) body → body.getter ≡ true
      → (IsObjectDecl decl × PartGetter n 0 (props_of decl) body) ⊎ GlobalGetter g decl body
  unfolding decl_bodies
  getter_in n g (Entry word written at is_async block) body has is =
      absurd (no_getter (func_bodies tables at [] block) body (plain_func at [] block) has is)
  getter_in n g (Struct word conforms fields funcs) body has is =
      absurd (no_getter (flat_map (func_tree_bodies tables) funcs) body (plain_funcs funcs) has is)
  getter_in n g (Enum word conforms cases funcs) body has is =
      absurd (no_getter (flat_map (func_tree_bodies tables) funcs) body (plain_funcs funcs) has is)
  getter_in n g (Class written word conforms props inits funcs) body has is =
      inl (tt, object_getter n word props inits funcs body has is)
  getter_in n g (Actor word props inits funcs) body has is =
      inl (tt, object_getter n word props inits funcs body has is)
  getter_in n g (GlobalActor word made) body has is = absurd (none_in body has)
  getter_in n g (Func func) body has is =
      absurd (no_getter (func_tree_bodies tables func) body
      (plain_func func.word.at func.params func.body) has is)
  getter_in n g (Global prop) body has is = inr (global_getters g prop body has is)
