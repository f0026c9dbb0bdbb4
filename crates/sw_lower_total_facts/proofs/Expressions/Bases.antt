-- What stands before a `.`: what is known of it, what is found in it, and a property of it.
use Rattle.std.proofs.Common.{◌≡◌, ℕ, true, List, [], Option, Some, None, refl, ap, sym, subst, ◌∙◌}
use Rattle.std.proofs.lemmas.List.Elements.{All-nil}
use Rattle.std.specs.Prelude.{All, Contains, slice_get}
use Rattle.sw_types.specs.declared.shape.Part.{Part}
use Rattle.sw_types.specs.declared.shape.Shape.{Shape}
use Rattle.sw_types.specs.declared.ty.Ty.{Ty}
use Rattle.sw_types.specs.declared.ty.Ty.TheVariants as types
use Rattle.sw_types.specs.declared.ty.Ty.TheVariants.{outs-Named}
use Rattle.sw_typing_rules.specs.Expressions.{Judged}
use Rattle.sw_typing_rules.specs.Worlds.{part_at}
use Rattle.sw_typing_rules.specs.declared.row.Meaning.{Meaning}
use Rattle.sw_typing_rules.specs.declared.row.Meaning.TheVariants as means
use Rattle.sw_typing_rules.specs.declared.scope.Var.{Var}
use Rattle.sw_isolation_rules.specs.Noting.{Seen, member_notes, used_at}
use Rattle.sw_isolation_rules.specs.Uses.{base_of, meant, named_layer, named_shape}
use Rattle.sw_isolation_rules.specs.declared.note.Note.{Note}
use Rattle.sw_isolation_rules.specs.declared.uses.Context.{Context}
use Rattle.sw_lower_plans.specs.Plan.{Numbers}
use Rattle.sw_lower_code.specs.Code.{◌>>=◌}
use Rattle.sw_lower_rules.specs.Carriers.{ExprCode}
use Rattle.sw_lower_rules.specs.Expressions.{read_of_base}
use Rattle.sw_lower_rules.specs.Tables.{Tables}
use Rattle.sw_lower_rules.specs.Uses.{read_part, shape_of}
use Rattle.sw_typing_facts.proofs.Lists.Found.{found_in_found}
use Rattle.sw_lower_total_facts.specs.Bound.{seen_in}
use Rattle.sw_lower_total_facts.specs.Forms.{ExprProceeds, PlaceProceeds}
use Rattle.sw_lower_total_facts.specs.Known.{TablesAgree}
use Rattle.sw_lower_total_facts.specs.Noted.{kinds_of}
use Rattle.sw_lower_total_facts.specs.Proceeding.{BodyProceeds}
use Rattle.sw_lower_total_facts.proofs.Expressions.Kinds.{kind_at_use, use_kind}
use Rattle.sw_lower_total_facts.proofs.Expressions.Reading.{goes_read_part}
use Rattle.sw_lower_total_facts.proofs.Expressions.Senses.{ShapesStand}
use Rattle.sw_lower_total_facts.proofs.Expressions.Uses.{part_used_is, used_by}
use Rattle.sw_lower_total_facts.proofs.Proceeding.Each.{Goes}
use Rattle.sw_lower_total_facts.proofs.Proceeding.Using.{goes_known, goes_then}

-- A base that is a value proceeds and has its type; a word that names an enum has no bodies in it.
pub record BaseStands (tables : Tables) (number : Numbers) (context : Context) (listed : List ℕ)
    (vars : List Var) (judged : Judged) (base : ExprCode) (notes : List Note) : Type 0 where
  pub proceeds : judged.enum ≡ None → ExprProceeds tables number context listed vars notes base
  pub typed : judged.enum ≡ None → (ty : Ty) → judged.ty ≡ Some ty
      → tables.answers.type_at base.key ≡ Some ty
  pub alone : (k : ℕ) → judged.enum ≡ Some k → base.inside ≡ []

-- Where a base can be assigned, code for that proceeds, and what is noted before that is noted of
-- the base.
pub record BasePlace (tables : Tables) (number : Numbers) (context : Context) (listed : List ℕ)
    (vars : List Var) (seen : Seen) (judged : Judged) (base : ExprCode) : Type 0 where
  pub place : judged.enum ≡ None → judged.settable ≡ true
      → PlaceProceeds tables number context listed vars (seen.before context listed) base
  pub among : (note : Note) → Contains (seen.before context listed) note
      → Contains (seen.notes context listed) note

-- The bodies in a base proceed.
pub base_inside : (tables : Tables) (number : Numbers) (context : Context) (listed : List ℕ)
    (vars : List Var) (judged : Judged) (base : ExprCode) (notes : List Note)
    → BaseStands tables number context listed vars judged base notes
    → All (BodyProceeds number) base.inside
base_inside tables number context listed vars judged base notes stands =
    by judged.enum refl where
      by : (found : Option ℕ) → judged.enum ≡ found → All (BodyProceeds number) base.inside
      by None is = (stands.proceeds is).inside
      by (Some k) is =
          subst (All (BodyProceeds number)) (sym (stands.alone k is))
          (All-nil (BodyProceeds number))

-- the number of a declared type
pub named_is : (tables : Tables) (key k : ℕ) (ty : Ty) → tables.answers.type_at key ≡ Some ty
    → ty ≡ types.Named k → named_shape (tables.answers.type_at key) ≡ Some k
named_is tables key k ty typed named =
    ap named_shape (typed ∙ ap Some named) ∙ ap named_layer (outs-Named k)

module _ (tables : Tables) (number_of : Numbers) (all : List Note)
    (knows : TablesAgree tables number_of all) (stand : ShapesStand tables.world)
    (context : Context)
    (listed : List ℕ) (vars : List Var) where
  -- the use at a member of a base
  abbrev pub MemberKind : Seen → ℕ → Type 0
  MemberKind seen at = (meaning : Meaning) → tables.answers.meaning_at at ≡ Some meaning
      → tables.isolation.kind_at at
      ≡ use_kind context
      (meant tables.world context.owner (base_of tables.answers seen.key seen.is_self)
      (Some meaning))

  -- what a member uses, where nothing else is noted of its node
  pub member_kind : (seen : Seen) (at : ℕ)
      → kinds_of at all ≡ kinds_of at (member_notes tables.world tables.answers seen at context)
      → MemberKind seen at
  member_kind seen at same meaning is =
      kind_at_use tables number_of all knows context at
      (used_at tables.world tables.answers context
      (base_of tables.answers seen.key seen.is_self) at) same
      ∙ ap (use_kind context)
      (used_by tables.world tables.answers context.owner
      (base_of tables.answers seen.key seen.is_self) at meaning is)

  -- a property of a base
  pub base_part : (owner : Option ℕ) (seen : Seen) (base : ExprCode) (notes : List Note)
      (at k i : ℕ) (part : Part) → seen.key ≡ base.key → part_at tables.world k i ≡ Some part
      → named_shape (tables.answers.type_at base.key) ≡ Some k
      → tables.answers.meaning_at at ≡ Some (means.PartOf i) → MemberKind seen at
      → Goes tables number_of context listed (seen_in tables context.owner vars) notes base.read
      → Goes tables number_of context listed (seen_in tables context.owner vars) notes
      (read_of_base tables owner at base i)
  unfolding shape_of base_of
  base_part owner seen base notes at k i part same is named means_is kind_is read =
      let found = found_in_found (slice_get tables.world.shapes k)
      (λ (s : Shape). slice_get s.parts i) part is in
      goes_then tables number_of context listed (seen_in tables context.owner vars) notes base.read
      (λ from. shape_of tables base.key >>= λ shape. read_part tables at shape i from) read
      (λ from. goes_known tables number_of context listed (seen_in tables context.owner vars) notes
      0 (named_shape (tables.answers.type_at base.key)) k
      (λ shape. read_part tables at shape i from) named
      (goes_read_part tables number_of all knows context listed vars notes at k i found.0 part from
      found.1 found.2 (stand.parts k i found.0 part found.1 found.2) seen.is_self
      (kind_is (means.PartOf i) means_is
      ∙ ap (use_kind context)
      (part_used_is tables.world (named_shape (tables.answers.type_at seen.key)) k i seen.is_self
      found.0 part
      (ap (λ key. named_shape (tables.answers.type_at key)) same ∙ named) found.1 found.2))))
