-- Code that asks for what is known, and code after it.
use Rattle.std.proofs.Common.{◌≡◌, ℕ, Option, Some, subst}
use Rattle.std.specs.Prelude.{slice_get}
use Rattle.sw_types.specs.declared.shape.Shape.{Shape}
use Rattle.sw_types.specs.declared.ty.Ty.{Ty}
use Rattle.sw_types.specs.declared.ty.Ty.TheVariants as types
use Rattle.sw_graph.specs.declared.instr.Operand.{Operand}
use Rattle.sw_lower_plans.specs.Plan.{var_in}
use Rattle.sw_lower_plans.specs.Run.{Making}
use Rattle.sw_lower_plans.specs.declared.bound.Bound.{Bound}
use Rattle.sw_lower_plans.specs.declared.name.FunctionName.{FunctionName}
use Rattle.sw_lower_code.specs.Code.{Code, andthen, known, number, var}
use Rattle.sw_lower_rules.specs.Tables.{Tables}
use Rattle.sw_lower_rules.specs.Uses.{no_operand, no_shape, shape_at, typed, unknown}
use Rattle.sw_lower_formed_facts.proofs.Bodies.SeenBy.{seen_by}
use Rattle.sw_lower_placed_facts.specs.Placing.{IsKnown, PlacesAt}
use Rattle.sw_lower_placed_facts.specs.Hosts.{Program, Host}
use Rattle.sw_lower_placed_facts.proofs.Placing.Joining.{places_in, places_then}
use Rattle.sw_lower_placed_facts.proofs.Placing.Steps.{places_known, places_none, places_number}
use Rattle.sw_lower_placed_facts.proofs.Placing.Steps.{places_var}

module _ {program : Program} {host : Host} where
  -- what no accepted program asks for
  pub places_unknown : (s : Making) (Post : Operand → Making → Type 0)
      → PlacesAt program host s unknown Post
  unfolding unknown
  places_unknown s Post = places_none s no_operand Post

  -- Where something is found, code after it stands at the same function.
  pub places_known_then : {A B : Type 0} (s : Making) (fallback : A) (found : Option A)
      (next : A → Code B) (Post : B → Making → Type 0)
      → ((a : A) → found ≡ Some a → PlacesAt program host s (next a) Post)
      → PlacesAt program host s (andthen (known fallback found) next) Post
  places_known_then s fallback found next Post rule =
      places_then s (known fallback found) next (λ a u. (found ≡ Some a) × (s ≡ u)) Post
      (places_known s fallback found)
      (λ a u later mid.
      subst (λ m. PlacesAt program host m (next a) Post) mid.1 (rule a mid.0))

  -- the number of a function
  pub places_number_then : {B : Type 0} (s : Making) (name : FunctionName) (next : ℕ → Code B)
      (Post : B → Making → Type 0)
      → ((f : ℕ) → program.numbers name ≡ Some f → PlacesAt program host s (next f) Post)
      → PlacesAt program host s (andthen (number name) next) Post
  places_number_then s name next Post rule =
      places_then s (number name) next (λ f u. (program.numbers name ≡ Some f) × (s ≡ u)) Post
      (places_number s name)
      (λ f u later mid.
      subst (λ m. PlacesAt program host m (next f) Post) mid.1 (rule f mid.0))

  -- a variable that is seen
  pub places_var_then : {B : Type 0} (s : Making) (key : ℕ) (next : Bound → Code B)
      (Post : B → Making → Type 0)
      → ((bound : Bound) → var_in key s.vars ≡ Some bound → bound.key ≡ key
      → IsKnown program host s.made.regs bound → PlacesAt program host s (next bound) Post)
      → PlacesAt program host s (andthen (var key) next) Post
  places_var_then s key next Post rule =
      places_in s (andthen (var key) next) Post (λ stood.
      places_then s (var key) next (λ bound u. (var_in key s.vars ≡ Some bound) × (s ≡ u)) Post
      (places_var s key)
      (λ bound u later mid.
      let seen = seen_by (IsKnown program host s.made.regs) key s.vars bound stood.known mid.0 in
      subst (λ m. PlacesAt program host m (next bound) Post) mid.1
      (rule bound mid.0 seen.1 seen.0)))

  -- the type of a node
  pub places_typed_then : {B : Type 0} (tables : Tables) (s : Making) (key : ℕ)
      (next : Ty → Code B) (Post : B → Making → Type 0)
      → ((ty : Ty) → tables.answers.type_at key ≡ Some ty
      → PlacesAt program host s (next ty) Post)
      → PlacesAt program host s (andthen (typed tables key) next) Post
  unfolding typed
  places_typed_then tables s key next Post rule =
      places_known_then s types.Unit (tables.answers.type_at key) next Post rule

  -- a declared type
  pub places_shape_then : {B : Type 0} (tables : Tables) (s : Making) (k : ℕ)
      (next : Shape → Code B) (Post : B → Making → Type 0)
      → ((shape : Shape) → slice_get tables.world.shapes k ≡ Some shape
      → PlacesAt program host s (next shape) Post)
      → PlacesAt program host s (andthen (shape_at tables k) next) Post
  unfolding shape_at
  places_shape_then tables s k next Post rule =
      places_known_then s no_shape (slice_get tables.world.shapes k) next Post rule
