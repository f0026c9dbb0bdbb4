-- What functions, methods and initialisers take has the types of its variables.
use Rattle.std.proofs.Common.{◌≡◌, ℕ, Bool, true, false, List, [], ◌∷◌, Option, Some, None, map}
use Rattle.std.proofs.Common.{refl, Contains, sym, ◌∙◌, ap, ◌||◌, inl, inr}
use Rattle.std.proofs.lemmas.Bool.{eqb-true, eq-eqb}
use Rattle.std.proofs.lemmas.List.Elements.{All-cons, All-contains_itself, All-map, All-nil}
use Rattle.std.proofs.lemmas.Option.{none-some}
use Rattle.std.specs.Prelude.{All, ◌==◌, slice_get}
use Rattle.sw_tree.specs.declared.decl.ParamTree.{ParamTree}
use Rattle.sw_types.specs.declared.shape.Shape.{Shape}
use Rattle.sw_types.specs.declared.ty.Ty.{Ty}
use Rattle.sw_types.specs.declared.ty.Ty.TheVariants as types
use Rattle.sw_graph.specs.declared.function.Function.{Function}
use Rattle.sw_graph.specs.declared.function.RegKind.TheVariants.{Plain}
use Rattle.sw_isolation_rules.specs.Answers.{for_some}
use Rattle.sw_isolation_rules.specs.Captures.{is_among, self_of}
use Rattle.sw_lower_plans.specs.Plan.{Numbers}
use Rattle.sw_lower_rules.specs.Bodies.{param_taken, self_by, self_taken}
use Rattle.sw_lower_rules.specs.Tables.{Tables, or_void}
use Rattle.sw_lower_formed_facts.specs.Ground.{Ground}
use Rattle.sw_lower_formed_facts.specs.Taking.{TakenOk}
use Rattle.sw_typing_facts.proofs.Types.Within.{shape_within}

same_or_not : (same : Bool) → same ≡ true → (same || false) ≡ true
same_or_not true is = refl
same_or_not false is = is

module _ (tables : Tables) where
  -- `self` of a member of the type with a number
  pub self_ok : (number : ℕ) (shape : Shape) → slice_get tables.world.shapes number ≡ Some shape
      → TakenOk tables (Some number) (self_by number shape)
  self_ok number shape at = record {
    ty = types.Named number;
    typed = inl (
      ap (λ found. is_among (for_some found (λ (shape : Shape). shape.at ∷ [])) shape.at) at
          ∙ same_or_not (shape.at == shape.at) (eq-eqb shape.at shape.at refl),
      refl,
    );
    kind = refl;
    declared = shape_within tables.world.shapes number shape at;
  }

  -- What a member takes for `self` has the type around.
  pub self_taken_ok : (owner : Option ℕ) → All (TakenOk tables owner) (self_taken tables owner)
  self_taken_ok None = All-nil (TakenOk tables None)
  self_taken_ok (Some number) = by (slice_get tables.world.shapes number) refl where
    by : (found : Option Shape) → slice_get tables.world.shapes number ≡ found
        → All (TakenOk tables (Some number))
        (for_some found (λ (shape : Shape). self_by number shape ∷ []))
    by None is = All-nil (TakenOk tables (Some number))
    by (Some shape) is =
        All-cons (TakenOk tables (Some number)) (self_by number shape) [] (self_ok number shape is)
        (All-nil (TakenOk tables (Some number)))

  module _ (number : Numbers) (functions : List Function)
      (ground : Ground tables number functions) where
    -- What has a type of its own isn't `self`.
    not_self : (owner : Option ℕ) (key : ℕ) (ty : Ty) → tables.answers.type_at key ≡ Some ty
        → is_among (self_of tables.world owner) key ≡ false
    not_self None key ty is = refl
    not_self (Some k) key ty is = by (slice_get tables.world.shapes k) refl where
      apart : (shape : Shape) → slice_get tables.world.shapes k ≡ Some shape
          → (same : Bool) → (shape.at == key) ≡ same → (same || false) ≡ false
      apart shape at false differ = refl
      apart shape at true same =
          absurd (none-some ty (sym (ground.selves k shape at)
          ∙ ap tables.answers.type_at (eqb-true shape.at key same) ∙ is))

      by : (found : Option Shape) → slice_get tables.world.shapes k ≡ found
          → is_among (for_some found (λ (shape : Shape). shape.at ∷ [])) key ≡ false
      by None at = refl
      by (Some shape) at = apart shape at (shape.at == key) refl

    -- a parameter, whose type is known
    pub param_ok : (owner : Option ℕ) (param : ParamTree) (ty : Ty)
        → tables.answers.type_at param.name.at ≡ Some ty
        → TakenOk tables owner (param_taken tables param)
    param_ok owner param ty is = record {
      ty = ty;
      typed = inr (not_self owner param.name.at ty is, is);
      kind = ap (λ found. Plain (or_void found)) is;
      declared = ground.typed param.name.at ty is;
    }

    -- What is taken for parameters has the types of their nodes.
    pub params_ok : (owner : Option ℕ) (params : List ParamTree)
        → ((param : ParamTree) → Contains params param
        → (ty : Ty) × (tables.answers.type_at param.name.at ≡ Some ty))
        → All (TakenOk tables owner) (map (param_taken tables) params)
    params_ok owner params typed =
        All-map (TakenOk tables owner) (param_taken tables) params
        (λ k d below. each _ (All-contains_itself params k d below)) where
          each : (param : ParamTree) → Contains params param
              → TakenOk tables owner (param_taken tables param)
          each param has = let one = typed param has in param_ok owner param one.0 one.1
