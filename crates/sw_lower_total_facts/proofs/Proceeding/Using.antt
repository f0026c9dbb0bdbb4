-- Code after code proceeds wherever each does: after what is known, the number of a function and a
-- variable, and a value that is given.
use Rattle.std.proofs.Common.{◌≡◌, ℕ, Bool, true, false, List, [], ◌∷◌, ◌++◌, Option, Some, None}
use Rattle.std.proofs.Common.{refl, ap, sym, subst, ◌∙◌, arith}
use Rattle.std.proofs.lemmas.Bool.{false≢true}
use Rattle.std.proofs.lemmas.List.Elements.{Contains-append_left, Contains-append_right}
use Rattle.std.proofs.lemmas.Option.{same_Some}
use Rattle.std.specs.Prelude.{Contains, IsSome, ◌==◌, if◌then◌else◌}
use Rattle.sw_types.specs.declared.ty.Ty.{Ty}
use Rattle.sw_types.specs.declared.ty.Ty.TheVariants as types
use Rattle.sw_graph.specs.declared.function.RegKind.{RegKind}
use Rattle.sw_graph.specs.declared.function.RegKind.TheVariants.{Plain}
use Rattle.sw_graph.specs.declared.instr.Instr.{Instr}
use Rattle.sw_isolation_rules.specs.declared.note.Note.{Note}
use Rattle.sw_isolation_rules.specs.declared.uses.Context.{Context}
use Rattle.sw_lower_plans.specs.Plan.{Numbers, var_in}
use Rattle.sw_lower_plans.specs.Run.{Making}
use Rattle.sw_lower_plans.specs.declared.bound.Bound.{Bound}
use Rattle.sw_lower_plans.specs.declared.name.FunctionName.{FunctionName}
use Rattle.sw_lower_code.specs.Code as code
use Rattle.sw_lower_code.specs.Code.{Code, done, emit, known, reg, var, ◌>>=◌, ◌>>◌}
use Rattle.sw_lower_rules.specs.Tables.{Tables}
use Rattle.sw_lower_rules.specs.Uses.{give, operand, typed}
use Rattle.sw_lower_total_facts.specs.Bound.{VariableIsBound, Ready}
use Rattle.sw_lower_total_facts.specs.Proceeding.{Proceeds}
use Rattle.sw_lower_total_facts.proofs.Proceeding.Each.{Goes}
use Rattle.sw_lower_total_facts.proofs.Proceeding.Ready.{ready_less, then_ready}
use Rattle.sw_lower_total_facts.proofs.Proceeding.Steps.{gives_known, gives_var}
use Rattle.sw_lower_total_facts.proofs.Proceeding.Steps.{proceeds_done, proceeds_emit, proceeds_known}
use Rattle.sw_lower_total_facts.proofs.Proceeding.Steps.{proceeds_number, proceeds_reg, proceeds_var}

-- what is there
pub some_of : {A : Type 0} (found : Option A) → IsSome found → (value : A) × (found ≡ Some value)
some_of None is = absurd (false≢true is)
some_of (Some value) is = (value, refl)

-- A variable that is found has the key that was looked for.
pub key_of : (key : ℕ) (vars : List Bound) (bound : Bound) → var_in key vars ≡ Some bound
    → bound.key ≡ key
key_of key [] bound is = cc
key_of key (one ∷ vars) bound is = by (one.key == key) refl (key_of key vars bound) is where
  by : (test : Bool) → (one.key == key) ≡ test → (var_in key vars ≡ Some bound → bound.key ≡ key)
      → (if test then Some one else var_in key vars) ≡ Some bound → bound.key ≡ key
  by true same later is =
      subst (λ (other : Bound). other.key ≡ key) (same_Some one bound is) (grind (arith, same))
  by false same later is = later is

-- A variable in a box has a type.
typed_of : (tables : Tables) (listed : List ℕ) (vars : List Bound) (key : ℕ) (bound : Bound)
    (one : VariableIsBound tables listed vars key) → one.bound ≡ bound → bound.boxed ≡ true
    → IsSome (tables.answers.type_at key)
typed_of tables listed vars key bound one is boxed =
    let ty = one.typed (ap (λ (b : Bound). b.boxed) is ∙ boxed) in
    subst IsSome (sym ty.1) refl

module _ (tables : Tables) (number : Numbers) (context : Context) (listed seen : List ℕ)
    (notes : List Note) where
  abbrev Going : {A : Type 0} → Code A → Type 0
  Going code = Goes tables number context listed seen notes code

  pub goes_then : {A B : Type 0} (first : Code A) (next : A → Code B) → Going first
      → ((value : A) → Going (next value)) → Going (first >>= next)
  goes_then first next one two s ready =
      then_ready tables number context listed seen notes first next s ready (one s ready)
      (λ value t ready_t ran made. two value t ready_t)

  pub goes_done : {A : Type 0} (value : A) → Going (done value)
  goes_done value s ready = proceeds_done value s

  pub goes_emit : (instr : Instr) → Going (emit instr)
  goes_emit instr s ready = proceeds_emit instr s

  pub goes_reg : (kind : RegKind) → Going (reg kind)
  goes_reg kind s ready = proceeds_reg kind s

  -- after what is known
  pub goes_known : {A B : Type 0} (fallback : A) (found : Option A) (value : A) (next : A → Code B)
      → found ≡ Some value → Going (next value) → Going (known fallback found >>= next)
  goes_known fallback found value next is rest s ready =
      then_ready tables number context listed seen notes (known fallback found) next s ready
      (proceeds_known fallback found value s is)
      (λ other t ready_t ran made.
      subst (λ one. Proceeds t (next one))
      (same_Some value other (sym is ∙ (gives_known fallback found other s t ran).0))
      (rest t ready_t))

  -- the same where it isn't said what it is
  pub goes_found : {A B : Type 0} (fallback : A) (found : Option A) (next : A → Code B)
      → IsSome found → ((value : A) → found ≡ Some value → Going (next value))
      → Going (known fallback found >>= next)
  goes_found fallback found next is rest =
      let one = some_of found is in
      goes_known fallback found one.0 next one.1 (rest one.0 one.1)

  -- after the number of a function
  pub goes_number : {B : Type 0} (name : FunctionName) (next : ℕ → Code B) → IsSome (number name)
      → ((f : ℕ) → Going (next f)) → Going (code.number name >>= next)
  goes_number name next is rest s ready =
      let one = some_of (number name) is in
      then_ready tables number context listed seen notes (code.number name) next s ready
      (proceeds_number name one.0 s
      (subst (λ numbers. numbers name ≡ Some one.0) (sym ready.numbers) one.1))
      (λ f t ready_t ran made. rest f t ready_t)

  -- after a variable that is seen and mentioned
  pub goes_var : {B : Type 0} (key : ℕ) (next : Bound → Code B)
      → ((s : Making) → Ready tables number context listed seen notes s
      → VariableIsBound tables listed s.vars key)
      → ((bound : Bound) → bound.key ≡ key
      → (bound.boxed ≡ true → IsSome (tables.answers.type_at key)) → Going (next bound))
      → Going (var key >>= next)
  goes_var key next bound rest s ready =
      let one = bound s ready in
      then_ready tables number context listed seen notes (var key) next s ready
      (proceeds_var key one.bound s one.found)
      (λ other t ready_t ran made.
      let is = (gives_var key other s t ran).0 in
      rest other (key_of key s.vars other is)
      (λ boxed.
      typed_of tables listed s.vars key other one
      (same_Some one.bound other (sym one.found ∙ is)) boxed) t ready_t)

  -- a value in a new register
  pub goes_give : (at : ℕ) (ty : Ty) (instr : ℕ → Instr) → Going (give at ty instr)
  goes_give at ty instr =
      goes_then (reg (Plain ty)) (λ n. emit (instr n) >> done (operand n at)) (goes_reg (Plain ty))
      (λ n.
      goes_then (emit (instr n)) (λ _. done (operand n at)) (goes_emit (instr n))
      (λ _. goes_done (operand n at)))

  -- after the type of a node
  pub goes_typed : {B : Type 0} (key : ℕ) (next : Ty → Code B) → IsSome (tables.answers.type_at key)
      → ((ty : Ty) → Going (next ty)) → Going (typed tables key >>= next)
  unfolding typed
  goes_typed key next is rest =
      goes_found types.Unit (tables.answers.type_at key) next is (λ ty ty_is. rest ty)

module _ (tables : Tables) (number : Numbers) (context : Context) (listed seen : List ℕ) where
  -- Code that proceeds with some notes proceeds with more.
  pub goes_more : {A : Type 0} (fewer notes : List Note) (some : Code A)
      → ((note : Note) → Contains fewer note → Contains notes note)
      → Goes tables number context listed seen fewer some
      → Goes tables number context listed seen notes some
  goes_more fewer notes some among goes s ready =
      goes s (ready_less tables number context listed seen notes fewer s among ready)

  pub goes_left : {A : Type 0} (first second : List Note) (some : Code A)
      → Goes tables number context listed seen first some
      → Goes tables number context listed seen (first ++ second) some
  goes_left first second some goes =
      goes_more first (first ++ second) some (Contains-append_left first second) goes

  pub goes_right : {A : Type 0} (first second : List Note) (some : Code A)
      → Goes tables number context listed seen second some
      → Goes tables number context listed seen (first ++ second) some
  goes_right first second some goes =
      goes_more second (first ++ second) some (Contains-append_right first second) goes
