-- Pieces of code that declare no variable.
use Rattle.std.proofs.Common.{ℕ, List, [], ◌∷◌, ◌++◌, Option, ap, ◌∙◌, refl}
use Rattle.std.specs.List.{AllByRecursion}
use Rattle.sw_graph.specs.declared.function.RegKind.{RegKind}
use Rattle.sw_graph.specs.declared.instr.Instr.{Instr}
use Rattle.sw_graph.specs.declared.instr.Last.{Last}
use Rattle.sw_lower_plans.specs.Plan.{Entry, after}
use Rattle.sw_lower_plans.specs.declared.name.FunctionName.{FunctionName}
use Rattle.sw_lower_code.specs.Code.{Code, all, andthen, block_for, close, done, each, emit, known}
use Rattle.sw_lower_code.specs.Code.{number, reg, resume, scope, var, ◌>>=◌}
use Rattle.sw_lower_total_facts.specs.Binding.{BindsNothing}

pub nothing_done : {A : Type 0} (value : A) → BindsNothing (done value)
unfolding done
nothing_done value place = refl

pub nothing_known : {A : Type 0} (fallback : A) (found : Option A)
    → BindsNothing (known fallback found)
unfolding known
nothing_known fallback found place = refl

pub nothing_var : (key : ℕ) → BindsNothing (var key)
unfolding var
nothing_var key place = refl

pub nothing_number : (name : FunctionName) → BindsNothing (number name)
unfolding number
nothing_number name place = refl

pub nothing_reg : (kind : RegKind) → BindsNothing (reg kind)
unfolding reg
nothing_reg kind place = refl

pub nothing_emit : (instr : Instr) → BindsNothing (emit instr)
unfolding emit
nothing_emit instr place = refl

pub nothing_block : (entry : Entry) → BindsNothing (block_for entry)
unfolding block_for
nothing_block entry place = refl

pub nothing_close : (last : Last) → BindsNothing (close last)
unfolding close
nothing_close last place = refl

pub nothing_resume : (to : ℕ) → BindsNothing (resume to)
unfolding resume
nothing_resume to place = refl

pub nothing_scope : {A : Type 0} (code : Code A) → BindsNothing (scope code)
unfolding scope
nothing_scope code place = refl

-- code, and after it code that takes its value
pub nothing_then : {A B : Type 0} (first : Code A) (next : A → Code B) → BindsNothing first
    → ((value : A) → BindsNothing (next value)) → BindsNothing (andthen first next)
unfolding andthen
nothing_then first next one two place =
    let piece = first.plan place in
    ap (λ vars. vars ++ ((next piece.value).plan (after place piece)).vars) (one place)
    ∙ two piece.value (after place piece)

pub nothing_each : {A B : Type 0} (code : A → Code B) (xs : List A)
    → AllByRecursion (λ x. BindsNothing (code x)) xs → BindsNothing (each code xs)
unfolding each
nothing_each code [] one = nothing_done []
nothing_each code (x ∷ xs) one =
    nothing_then (code x) (λ y. each code xs >>= λ ys. done (y ∷ ys)) one.0
    (λ y. nothing_then (each code xs) (λ ys. done (y ∷ ys)) (nothing_each code xs one.1)
    (λ ys. nothing_done (y ∷ ys)))

-- what is so of everything is so of each item
pub each_of : {A : Type 0} (P : A → Type 0) (xs : List A) → ((x : A) → P x) → AllByRecursion P xs
each_of P [] one = tt
each_of P (x ∷ xs) one = (one x, each_of P xs one)

pub nothing_all : {A : Type 0} (code : A → Code (Unit {0})) (xs : List A)
    → AllByRecursion (λ x. BindsNothing (code x)) xs → BindsNothing (all code xs)
unfolding all
nothing_all code [] one = nothing_done tt
nothing_all code (x ∷ xs) one =
    nothing_then (code x) (λ y. all code xs) one.0 (λ y. nothing_all code xs one.1)
