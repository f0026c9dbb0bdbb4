-- How many blocks the steps of code make, and code put after code.
use Rattle.std.proofs.Common.{ℕ, ◌+◌, ◌≤◌, List, [], ◌∷◌, Option, length, length-append, arith}
use Rattle.sw_graph.specs.declared.function.RegKind.{RegKind}
use Rattle.sw_graph.specs.declared.instr.Instr.{Instr}
use Rattle.sw_graph.specs.declared.instr.Last.{Last}
use Rattle.sw_lower_plans.specs.Plan.{Entry, Place, after}
use Rattle.sw_lower_plans.specs.declared.bound.Bound.{Bound}
use Rattle.sw_lower_plans.specs.declared.name.FunctionName.{FunctionName}
use Rattle.sw_lower_code.specs.Code.{Code, all, andthen, bind, block_for, close, done, emit}
use Rattle.sw_lower_code.specs.Code.{front, known, number, reg, resume, scope, var}
use Rattle.sw_lower_code_facts.specs.Kept.{Kept}
use Rattle.sw_lower_code_facts.specs.Steps.{KeptByVariables}
use Rattle.sw_lower_size_facts.specs.Short.{MakesAtMost}

-- more blocks may be made
pub makes_more : {A : Type 0} (a n : ℕ) (code : Code A) → MakesAtMost a code → a ≤ n
    → MakesAtMost n code
makes_more a n code makes less = record {
  few = λ place. omega (arith, less, makes.few place);
}

pub quiet_done : {A : Type 0} (value : A) → MakesAtMost 0 (done value)
unfolding done
quiet_done value = record { few = λ place. omega arith }

pub quiet_known : {A : Type 0} (fallback : A) (found : Option A)
    → MakesAtMost 0 (known fallback found)
unfolding known
quiet_known fallback found = record { few = λ place. omega arith }

pub quiet_var : (key : ℕ) → MakesAtMost 0 (var key)
unfolding var
quiet_var key = record { few = λ place. omega arith }

pub quiet_number : (name : FunctionName) → MakesAtMost 0 (number name)
unfolding number
quiet_number name = record { few = λ place. omega arith }

pub quiet_reg : (kind : RegKind) → MakesAtMost 0 (reg kind)
unfolding reg
quiet_reg kind = record { few = λ place. omega arith }

pub quiet_emit : (instr : Instr) → MakesAtMost 0 (emit instr)
unfolding emit
quiet_emit instr = record { few = λ place. omega arith }

pub quiet_front : (instr : Instr) → MakesAtMost 0 (front instr)
unfolding front
quiet_front instr = record { few = λ place. omega arith }

pub quiet_bind : (bound : Bound) → MakesAtMost 0 (bind bound)
unfolding bind
quiet_bind bound = record { few = λ place. omega arith }

pub quiet_close : (last : Last) → MakesAtMost 0 (close last)
unfolding close
quiet_close last = record { few = λ place. omega arith }

pub quiet_resume : (to : ℕ) → MakesAtMost 0 (resume to)
unfolding resume
quiet_resume to = record { few = λ place. omega arith }

makes_block : (entry : Entry) → MakesAtMost 1 (block_for entry)
unfolding block_for
makes_block entry = record { few = λ place. omega arith }

pub makes_scope : {A : Type 0} (n : ℕ) (code : Code A) → MakesAtMost n code
    → MakesAtMost n (scope code)
unfolding scope
makes_scope n code makes = record { few = makes.few }

-- what is so of the value that code gives, wherever the code begins
abbrev pub Gives : {A : Type 0} → (A → Type 0) → Code A → Type 0
Gives P code = (place : Place) → P (code.plan place).value

-- code, and after it code that takes its value
pub makes_given : {A B : Type 0} (P : A → Type 0) (a b n : ℕ) (first : Code A)
    (next : A → Code B) → MakesAtMost a first → Gives P first
    → ((value : A) → P value → MakesAtMost b (next value)) → a + b ≤ n
    → MakesAtMost n (andthen first next)
unfolding andthen
makes_given P a b n first next one gives two most = record {
  few = λ place.
      let piece = first.plan place in
      let rest = (next piece.value).plan (after place piece) in
      omega (
        arith,
        most,
        one.few place,
        (two piece.value (gives place)).few (after place piece),
        length-append piece.made rest.made,
      );
}

pub makes_then : {A B : Type 0} (a b n : ℕ) (first : Code A) (next : A → Code B)
    → MakesAtMost a first → ((value : A) → MakesAtMost b (next value)) → a + b ≤ n
    → MakesAtMost n (andthen first next)
makes_then a b n first next one two most =
    makes_given (λ value. Unit {0}) a b n first next one (λ place. tt) (λ value any. two value)
    most

-- after code that makes no block
pub after_quiet : {A B : Type 0} (n : ℕ) (first : Code A) (next : A → Code B)
    → MakesAtMost 0 first → ((value : A) → MakesAtMost n (next value))
    → MakesAtMost n (andthen first next)
after_quiet n first next one two = makes_then 0 n n first next one two (omega arith)

-- before code that makes no block
pub before_quiet : {A B : Type 0} (n : ℕ) (first : Code A) (next : A → Code B)
    → MakesAtMost n first → ((value : A) → MakesAtMost 0 (next value))
    → MakesAtMost n (andthen first next)
before_quiet n first next one two = makes_then n 0 n first next one two (omega arith)

-- after a block
pub after_block : {B : Type 0} (b n : ℕ) (entry : Entry) (next : ℕ → Code B)
    → ((block : ℕ) → MakesAtMost b (next block)) → 1 + b ≤ n
    → MakesAtMost n (andthen (block_for entry) next)
after_block b n entry next two most =
    makes_then 1 b n (block_for entry) next (makes_block entry) two most

pub quiet_then : {A B : Type 0} (first : Code A) (next : A → Code B) → MakesAtMost 0 first
    → ((value : A) → MakesAtMost 0 (next value)) → MakesAtMost 0 (andthen first next)
quiet_then first next = after_quiet 0 first next

-- the steps that make no block
abbrev pub quiet : Kept
quiet = record {
  Has = λ code. MakesAtMost 0 code;
  done = quiet_done;
  after = quiet_then;
  known = quiet_known;
  var = quiet_var;
  number = quiet_number;
  reg = quiet_reg;
  emit = λ instr so. quiet_emit instr;
}

abbrev pub quiet_variables : KeptByVariables quiet
quiet_variables = record { bind = quiet_bind; front = λ instr so. quiet_front instr }

pub quiet_all : {A : Type 0} (code : A → Code (Unit {0})) (xs : List A)
    → ((x : A) → MakesAtMost 0 (code x)) → MakesAtMost 0 (all code xs)
unfolding all
quiet_all code [] one = quiet_done tt
quiet_all code (x ∷ xs) one =
    quiet_then (code x) (λ y. all code xs) (one x) (λ y. quiet_all code xs one)
