-- Which functions of a program are initialisers, by what is shown of their bodies.
use Rattle.std.proofs.Common.{◌≡◌, ℕ, true, false, List, Option, Some, None, inl, inr}
use Rattle.std.proofs.Common.{refl, sym, ap, subst, ◌∙◌, slice_get}
use Rattle.std.proofs.lemmas.Bool.{and_from, and_left, and_right, eq-eqb}
use Rattle.sw_types.specs.declared.shape.Shape.{Shape}
use Rattle.sw_types.specs.declared.shape.ShapeKind.{ShapeKind}
use Rattle.sw_types.specs.declared.shape.ShapeKind.TheVariants as kinds
use Rattle.sw_types.specs.declared.ty.Ty.{Ty}
use Rattle.sw_types.specs.declared.ty.Ty.TheVariants as types
use Rattle.sw_graph.specs.Bodies.{is_actor_initialiser, is_class_initialiser, is_own, makes_actor}
use Rattle.sw_graph.specs.Bodies.{layer_names, makes_object, names}
use Rattle.sw_graph.specs.Points.{Middle}
use Rattle.sw_graph.specs.declared.function.Function.{Function}
use Rattle.sw_graph.specs.declared.function.RegKind.{RegKind}
use Rattle.sw_graph.specs.declared.instr.Instr.{Instr}
use Rattle.sw_graph.specs.declared.instr.Instr.TheVariants.{NewActor, NewObject}
use Rattle.sw_decls.specs.Signatures.{actor_iso}
use Rattle.sw_isolation_rules.specs.Kinds.{kind_iso}
use Rattle.sw_lower_plans.specs.declared.name.FunctionName.{FunctionName}
use Rattle.sw_lower_code.specs.Whole.{Body, function_of}
use Rattle.sw_lower_rules.specs.Bodies.{made_instr}
use Rattle.sw_lower_rules.specs.Tables.{name_of}
use Rattle.sw_lower_placed_facts.specs.Allowed.{IsActorMaker, IsAllowed}
use Rattle.sw_lower_placed_facts.specs.Bodies.{ArePlaced, IsFirstValue, IsMaker, IsPlacedBody}
use Rattle.sw_lower_placed_facts.specs.Bodies.IsPlacedBody.{first, maker, ordinary}
use Rattle.sw_lower_placed_facts.specs.Claims.{IsOrdinary}
use Rattle.sw_lower_placed_facts.specs.Hosts.{Program, Host}
use Rattle.sw_lower_placed_facts.proofs.Graphs.Functions.{InOrder, function_is, name_is, of_body}
use Rattle.sw_lower_placed_facts.proofs.Graphs.Points.{StandsIn, none_passes, one_passes}

-- A type is its own.
pub names_itself : (k : ℕ) (ty : Ty) → ty ≡ types.Named k → names k ty ≡ true
names_itself k ty same =
    ap (names k) same ∙ ap (layer_names k) (types.outs-Named k) ∙ eq-eqb k k refl

-- The instruction makes no object and no actor.
abbrev pub MakesNone : Instr → Type 0
MakesNone (NewActor at r k ss) = ⊥
MakesNone (NewObject at r k ss) = ⊥
MakesNone _ = Unit {0}

-- nor does any of a function
abbrev pub NoneMakes : Function → Type 0
NoneMakes function = (instr : Instr) → StandsIn function.blocks instr → MakesNone instr

no_actor : (ty : Ty) (instr : Instr) → MakesNone instr → makes_actor ty (Middle instr) ≡ false
no_actor ty (NewActor at r k ss) none = absurd none
no_actor ty _ none = refl

no_object : (shapes : List Shape) (function : Function) (instr : Instr) → MakesNone instr
    → makes_object shapes function (Middle instr) ≡ false
no_object shapes function (NewObject at r k ss) none = absurd none
no_object shapes function _ none = refl

-- A function that makes no actor is no actor's initialiser.
pub none_actor : (function : Function) → NoneMakes function
    → is_actor_initialiser function ≡ false
none_actor function none =
    and_right (is_own function.iso) _
    (none_passes (makes_actor function.result) function.blocks (λ last. refl)
    (λ instr one. no_actor function.result instr (none instr one)))

-- One that makes no object is no class's.
pub none_class : (shapes : List Shape) (function : Function) → NoneMakes function
    → is_class_initialiser shapes function ≡ false
none_class shapes function none =
    none_passes (makes_object shapes function) function.blocks (λ last. refl)
    (λ instr one. no_object shapes function instr (none instr one))

-- What a global actor isolates, or nothing, isn't isolated to `self`.
pub global_not_own : (actor : Option ℕ) → is_own (actor_iso actor) ≡ false
global_not_own None = refl
global_not_own (Some actor) = refl

-- nor is what a type but an actor stores
pub kind_not_own : (kind : ShapeKind) (actor : Option ℕ) → (kind ≡ kinds.Actor → ⊥)
    → is_own (kind_iso kind actor) ≡ false
kind_not_own kinds.Struct actor other = refl
kind_not_own kinds.Enum actor other = refl
kind_not_own kinds.Class actor other = global_not_own actor
kind_not_own kinds.Actor actor other = absurd (other refl)

module _ (program : Program) where
  -- the function of a body
  abbrev pub made : Body → Function
  made body = function_of program.numbers body

  allowed_makes : (host : Host) (regs : List RegKind) (instr : Instr)
      → IsAllowed program host regs instr → MakesNone instr
  allowed_makes host regs (NewActor at r k ss) ok = ok.uses
  allowed_makes host regs (NewObject at r k ss) ok = ok.uses
  allowed_makes host regs _ ok = tt

  pub ordinary_makes : (body : Body) → IsOrdinary program body → NoneMakes (made body)
  ordinary_makes body one instr here =
      allowed_makes one.host (made body).regs instr
      (one.points here.number here.index here.block instr here.at_block here.at_instr)

  pub first_makes : (body : Body) → IsFirstValue program body → NoneMakes (made body)
  first_makes body one instr here =
      elim (one.points here.number here.index here.block instr here.at_block here.at_instr) [
        | inl ok ↦ allowed_makes _ (made body).regs instr ok
        | inr gives ↦ let (at, s, is) = gives in subst MakesNone (sym is) tt
      ]

  -- The initialiser of an actor makes it.
  maker_makes : (body : Body) (one : IsMaker program body) → one.shape.kind ≡ kinds.Actor
      → makes_actor body.result (Middle one.instr) ≡ true
  maker_makes body one actor =
      ap (λ instr. makes_actor body.result (Middle instr))
      (one.makes.is
      ∙ ap (λ kind. made_instr kind one.makes.key one.makes.r one.k one.makes.operands) actor)
      ∙ names_itself one.k body.result one.result

  pub maker_is : (body : Body) (one : IsMaker program body) → one.shape.kind ≡ kinds.Actor
      → is_actor_initialiser (made body) ≡ true
  unfolding function_of
  maker_is body one actor =
      and_from (is_own body.iso) _
      (ap is_own (one.iso ∙ ap (λ kind. kind_iso kind one.shape.actor) actor))
      (one_passes (makes_actor body.result) (made body).blocks one.instr (record {
        number = one.number;
        index = one.index;
        block = one.block;
        at_block = one.at_block;
        at_instr = one.at_instr;
      }) (maker_makes body one actor))

  other_maker : (body : Body) (one : IsMaker program body) → (one.shape.kind ≡ kinds.Actor → ⊥)
      → is_actor_initialiser (made body) ≡ false
  unfolding function_of
  other_maker body one other =
      and_left (is_own body.iso) _
      (ap is_own one.iso ∙ kind_not_own one.shape.kind one.shape.actor other)

  -- the name of an actor's initialiser
  maker_named : (body : Body) (one : IsMaker program body) → one.shape.kind ≡ kinds.Actor
      → IsActorMaker program (name_of body)
  maker_named body one actor = record {
    k = one.k;
    shape = one.shape;
    func = one.func;
    is_shape = one.is_shape;
    actor = actor;
    maker = one.maker;
    named = one.named;
  }

  -- A body with the name of no actor's initialiser is none.
  pub body_makes : (body : Body) → IsPlacedBody program body
      → (IsActorMaker program (name_of body) → ⊥) → is_actor_initialiser (made body) ≡ false
  body_makes body (ordinary one) other = none_actor (made body) (ordinary_makes body one)
  body_makes body (maker one) other =
      other_maker body one (λ actor. other (maker_named body one actor))
  body_makes body (first one) other = none_actor (made body) (first_makes body one)

module _ (program : Program) (ordered : List Body) (is : InOrder program ordered)
    (placed : ArePlaced program) where
  -- A function with the name of an actor's initialiser is one.
  pub named_maker : (name : FunctionName) (f : ℕ) (function : Function)
      → program.numbers name ≡ Some f → slice_get program.functions f ≡ Some function
      → IsActorMaker program name → is_actor_initialiser function ≡ true
  named_maker name f function found there named =
      let one = placed.makers name named in
      subst (λ f. is_actor_initialiser f ≡ true)
      (function_is program ordered is one.body name f function one.has one.named found there)
      (maker_is program one.body one.makes one.actor)

  -- and one without is none
  pub named_other : (name : FunctionName) (f : ℕ) (function : Function)
      → program.numbers name ≡ Some f → slice_get program.functions f ≡ Some function
      → (IsActorMaker program name → ⊥) → is_actor_initialiser function ≡ false
  named_other name f function found there other =
      let one = of_body program ordered is f function there in
      subst (λ f. is_actor_initialiser f ≡ false) one.same
      (body_makes program one.body (placed.each one.body one.has)
      (λ named. other (subst (IsActorMaker program)
      (name_is program ordered is name f one.body found one.at) named)))
