-- Code that asks for what is known, and code after it.
use Rattle.std.proofs.Common.{◌≡◌, ℕ, subst, refl, Option, Some, sym, ◌∙◌}
use Rattle.std.proofs.lemmas.Option.{same_Some}
use Rattle.sw_graph.specs.declared.instr.Operand.{Operand}
use Rattle.sw_types.specs.declared.ty.Ty.{Ty}
use Rattle.sw_types.specs.declared.ty.Ty.TheVariants as types
use Rattle.sw_lower_plans.specs.Plan.{Numbers, var_in}
use Rattle.sw_lower_plans.specs.declared.bound.Bound.{Bound}
use Rattle.sw_lower_plans.specs.declared.name.FunctionName.{FunctionName}
use Rattle.sw_lower_code.specs.Code.{Code, known, number, var, ◌>>=◌}
use Rattle.sw_lower_rules.specs.Tables.{Tables}
use Rattle.sw_lower_rules.specs.Uses.{typed}
use Rattle.sw_lower_formed_facts.specs.Ground.{IsSeen, Knows}
use Rattle.sw_lower_formed_facts.specs.Safe.{Position, SafeAt, ValueAfter, IsIn, IsValue, Keeps}
use Rattle.sw_lower_formed_facts.specs.Whole.{Whole}
use Rattle.sw_lower_formed_facts.proofs.Bodies.SeenBy.{seen_by}
use Rattle.sw_lower_formed_facts.proofs.Positions.Following.{keeps_then}
use Rattle.sw_lower_formed_facts.proofs.Positions.Steps.{safe_known, safe_number, safe_var}
use Rattle.sw_lower_formed_facts.proofs.Positions.Then.{safe_then, safe_weaker}

-- Where something is found, code after it stands at the same place.
pub known_then : {A B : Type 0} (w : Whole) (p : Position) (fallback : A) (found : Option A)
    (next : A → Code B) (Post : B → Position → Type 0)
    → ((a : A) → found ≡ Some a → SafeAt w p (next a) Post)
    → SafeAt w p (known fallback found >>= next) Post
known_then w p fallback found next Post rule =
    safe_then w p (known fallback found) next (λ a q. (found ≡ Some a) × (p ≡ q)) Post
    (safe_known w p fallback found (λ a q. (found ≡ Some a) × (p ≡ q)) (λ a is. (is, refl)))
    (λ a q inside mid. subst (λ s. SafeAt w s (next a) Post) mid.1 (rule a mid.0))

-- the same of a variable
pub var_then : {B : Type 0} (w : Whole) (p : Position) (key : ℕ) (next : Bound → Code B)
    (Post : B → Position → Type 0)
    → ((bound : Bound) → var_in key p.making.vars ≡ Some bound → SafeAt w p (next bound) Post)
    → SafeAt w p (var key >>= next) Post
var_then w p key next Post rule =
    safe_then w p (var key) next Mid Post
    (safe_var w p key Mid (λ bound is. (is, refl)))
    (λ bound q inside mid. subst (λ s. SafeAt w s (next bound) Post) (sym mid.1) (rule bound mid.0))
  where
    Mid : Bound → Position → Type 0
    Mid bound q = (var_in key p.making.vars ≡ Some bound) × (q ≡ p)

-- and of the number of a function
pub number_then : {B : Type 0} (w : Whole) (p : Position) (name : FunctionName) (next : ℕ → Code B)
    (Post : B → Position → Type 0)
    → ((f : ℕ) → p.making.number name ≡ Some f → SafeAt w p (next f) Post)
    → SafeAt w p (number name >>= next) Post
number_then w p name next Post rule =
    safe_then w p (number name) next Mid Post
    (safe_number w p name Mid (λ f is. (is, refl)))
    (λ f q inside mid. subst (λ s. SafeAt w s (next f) Post) (sym mid.1) (rule f mid.0))
  where
    Mid : ℕ → Position → Type 0
    Mid f q = (p.making.number name ≡ Some f) × (q ≡ p)

-- the type of a node
pub typed_then : {B : Type 0} (tables : Tables) (w : Whole) (p : Position) (key : ℕ)
    (next : Ty → Code B) (Post : B → Position → Type 0)
    → ((ty : Ty) → tables.answers.type_at key ≡ Some ty → SafeAt w p (next ty) Post)
    → SafeAt w p (typed tables key >>= next) Post
unfolding typed
typed_then tables w p key next Post rule =
    known_then w p types.Unit (tables.answers.type_at key) next Post rule

-- the number of a function
pub function_then : {B : Type 0} (tables : Tables) (owner : Option ℕ) (numbers : Numbers)
    (w : Whole)
    (p : Position) (name : FunctionName) (next : ℕ → Code B) (Post : B → Position → Type 0)
    → Knows tables owner numbers w p
    → ((f : ℕ) → numbers name ≡ Some f → SafeAt w p (next f) Post)
    → SafeAt w p (number name >>= next) Post
function_then tables owner numbers w p name next Post knows rule =
    safe_then w p (number name) next (λ f q. (p.making.number name ≡ Some f) × (p ≡ q)) Post
    (safe_number w p name (λ f q. (p.making.number name ≡ Some f) × (p ≡ q)) (λ f is. (is, refl)))
    (λ f q inside mid. subst (λ s. SafeAt w s (next f) Post) mid.1
    (rule f (subst (λ of. of name ≡ Some f) knows.numbers mid.0)))

-- the register or box of a variable
pub seen_then : {B : Type 0} (tables : Tables) (owner : Option ℕ) (numbers : Numbers) (w : Whole)
    (p : Position) (key : ℕ) (next : Bound → Code B) (Post : B → Position → Type 0)
    → Knows tables owner numbers w p
    → ((bound : Bound) → IsSeen tables owner w p bound → bound.key ≡ key
    → SafeAt w p (next bound) Post)
    → SafeAt w p (var key >>= next) Post
seen_then tables owner numbers w p key next Post knows rule =
    safe_then w p (var key) next (λ b q. (var_in key p.making.vars ≡ Some b) × (p ≡ q)) Post
    (safe_var w p key (λ b q. (var_in key p.making.vars ≡ Some b) × (p ≡ q)) (λ b is. (is, refl)))
    (λ b q inside mid. subst (λ s. SafeAt w s (next b) Post) mid.1
    (let seen = seen_by (IsSeen tables owner w p) key p.making.vars b knows.vars mid.0 in
    rule b seen.0 seen.1))

-- the type of a node that has this type
pub type_then : {A : Type 0} (w : Whole) (tables : Tables) (p : Position) (key : ℕ) (ty : Ty)
    (next : Ty → Code A) (Post : A → Position → Type 0) → tables.answers.type_at key ≡ Some ty
    → SafeAt w p (next ty) Post → SafeAt w p (typed tables key >>= next) Post
unfolding typed
type_then w tables p key ty next Post has safe =
    known_then w p types.Unit (tables.answers.type_at key) next Post
    (λ value is. subst (λ t. SafeAt w p (next t) Post) (same_Some ty value (sym has ∙ is)) safe)

-- A value, and after it code that gives a value.
pub value_then : (w : Whole) (p : Position) (first : Code Operand) (next : Operand → Code Operand)
    (from to : Ty) → SafeAt w p first (ValueAfter w p from)
    → ((x : Operand) (q : Position) → IsIn w q → IsValue w q from x → Keeps w p q
    → SafeAt w q (next x) (ValueAfter w q to))
    → SafeAt w p (first >>= next) (ValueAfter w p to)
value_then w p first next from to one two =
    safe_then w p first next (ValueAfter w p from) (ValueAfter w p to) one
    (λ x q inside mid. safe_weaker w q (next x) (ValueAfter w q to) (ValueAfter w p to)
    (two x q inside mid.0 mid.1)
    (λ y s in_s got. (got.0, keeps_then w p q s mid.1 got.1)))
