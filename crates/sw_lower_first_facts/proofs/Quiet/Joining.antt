-- Code after code, and each single step of code.
use Rattle.std.proofs.Common.{◌≡◌, ℕ, List, [], ◌∷◌, Option, Some, sym, ap, subst, ◌∙◌}
use Rattle.std.specs.List.{AllByRecursion}
use Rattle.std.specs.Prelude.{Ok}
use Rattle.sw_types.specs.declared.ty.Ty.{Ty}
use Rattle.sw_graph.specs.declared.function.RegKind.{RegKind}
use Rattle.sw_graph.specs.declared.instr.Instr.{Instr}
use Rattle.sw_graph.specs.declared.instr.Last.{Last}
use Rattle.sw_lower_plans.specs.Plan.{Entry, Numbers, Written, after}
use Rattle.sw_lower_plans.specs.Run.{Making, Meets, place_of}
use Rattle.sw_lower_plans.specs.declared.bound.Bound.{Bound}
use Rattle.sw_lower_plans.specs.declared.name.FunctionName.{FunctionName}
use Rattle.sw_lower_plans.proofs.SameThen.{place_after}
use Rattle.sw_lower_code.specs.Code.{Code, andthen, bind, block_for, close, done, each, emit, known}
use Rattle.sw_lower_code.specs.Code.{number, reg, resume, var, ◌>>=◌}
use Rattle.sw_lower_rules.specs.Tables.{Tables}
use Rattle.sw_lower_rules.specs.Uses.{give}
use Rattle.sw_lower_total_facts.proofs.Frames.Joining.{ran_both}
use Rattle.sw_lower_total_facts.proofs.Proceeding.Steps.{gives_known}
use Rattle.sw_lower_first_facts.specs.Quiet.{IsQuiet, WritesQuiet}
use Rattle.sw_lower_first_facts.proofs.Flowing.Joining.{all_joined}

-- a number is given where a function has it
gives_number : (name : FunctionName) (value : ℕ) (s t : Making)
    → (number name).run s ≡ Ok (value, t) → (s.number name ≡ Some value) × (t ≡ s)
unfolding number known
gives_number name value s t ran = gives_known 0 (s.number name) value s t ran

module _ (tables : Tables) (numbers : Numbers) where
  abbrev Quiets : List Written → Type 0
  Quiets = AllByRecursion (λ (one : Written). IsQuiet tables numbers one.instr)

  -- code, and after it code that takes its value, of which something is so
  pub writes_with : {A B : Type 0} (Q : A → Type 0) (first : Code A) (next : A → Code B)
      → WritesQuiet tables numbers first
      → ((s t : Making) (value : A) → s.number ≡ numbers → first.run s ≡ Ok (value, t) → Q value)
      → ((value : A) → Q value → WritesQuiet tables numbers (next value))
      → WritesQuiet tables numbers (andthen first next)
  unfolding andthen
  writes_with {A} {B} Q first next one gives other s t value going same ran =
      let (a, m, ran_first, ran_next) = ran_both first next s t value ran in
      let piece = first.plan (place_of s) in
      let met : Meets s (Ok (a, m)) piece =
      subst (λ result. Meets s result piece) ran_first (first.same s going) in
      let here = place_after piece s m met.1 in
      let later : Quiets ((next a).plan (place_of m)).writes =
      other a (gives s m a same ran_first) m t value met.1.there (met.1.number ∙ same) ran_next in
      all_joined (λ (one : Written). IsQuiet tables numbers one.instr) piece.writes
      ((next piece.value).plan (after (place_of s) piece)).writes
      (one s m a going same ran_first)
      (subst (λ place. Quiets ((next piece.value).plan place).writes) here
      (subst (λ v. Quiets ((next v).plan (place_of m)).writes) met.0 later))

  pub writes_then : {A B : Type 0} (first : Code A) (next : A → Code B)
      → WritesQuiet tables numbers first → ((value : A) → WritesQuiet tables numbers (next value))
      → WritesQuiet tables numbers (andthen first next)
  writes_then first next one other =
      writes_with (λ value. Unit {0}) first next one (λ s t value same ran. tt)
      (λ value so. other value)

  -- steps that write nothing
  pub writes_done : {A : Type 0} (value : A) → WritesQuiet tables numbers (done value)
  unfolding done
  writes_done value s t given going same ran = tt

  pub writes_reg : (kind : RegKind) → WritesQuiet tables numbers (reg kind)
  unfolding reg
  writes_reg kind s t given going same ran = tt

  pub writes_block : (entry : Entry) → WritesQuiet tables numbers (block_for entry)
  unfolding block_for
  writes_block entry s t given going same ran = tt

  pub writes_close : (last : Last) → WritesQuiet tables numbers (close last)
  unfolding close
  writes_close last s t given going same ran = tt

  pub writes_resume : (to : ℕ) → WritesQuiet tables numbers (resume to)
  unfolding resume
  writes_resume to s t given going same ran = tt

  pub writes_bind : (bound : Bound) → WritesQuiet tables numbers (bind bound)
  unfolding bind
  writes_bind bound s t given going same ran = tt

  pub writes_var : (key : ℕ) → WritesQuiet tables numbers (var key)
  unfolding var
  writes_var key s t given going same ran = tt

  writes_number : (name : FunctionName) → WritesQuiet tables numbers (number name)
  unfolding number
  writes_number name s t given going same ran = tt

  writes_known : {A : Type 0} (fallback : A) (found : Option A)
      → WritesQuiet tables numbers (known fallback found)
  unfolding known
  writes_known fallback found s t given going same ran = tt

  pub writes_emit : (instr : Instr) → IsQuiet tables numbers instr
      → WritesQuiet tables numbers (emit instr)
  unfolding emit
  writes_emit instr quiet s t given going same ran = (quiet, tt)

  -- what is known is found, and what has a number has it
  pub known_writes : {A B : Type 0} (fallback : A) (found : Option A) (next : A → Code B)
      → ((value : A) → found ≡ Some value → WritesQuiet tables numbers (next value))
      → WritesQuiet tables numbers (known fallback found >>= next)
  known_writes fallback found next other =
      writes_with (λ value. found ≡ Some value) (known fallback found) next
      (writes_known fallback found)
      (λ s t value same ran. (gives_known fallback found value s t ran).0) other

  pub number_writes : {B : Type 0} (name : FunctionName) (next : ℕ → Code B)
      → ((f : ℕ) → numbers name ≡ Some f → WritesQuiet tables numbers (next f))
      → WritesQuiet tables numbers (number name >>= next)
  number_writes name next other =
      writes_with (λ f. numbers name ≡ Some f) (number name) next (writes_number name)
      (λ s t value same ran.
      ap (λ (of : Numbers). of name) (sym same) ∙ (gives_number name value s t ran).0) other

  pub writes_give : (at : ℕ) (ty : Ty) (instr : ℕ → Instr)
      → ((r : ℕ) → IsQuiet tables numbers (instr r)) → WritesQuiet tables numbers (give at ty instr)
  writes_give at ty instr quiet =
      writes_then (reg _) _ (writes_reg _) (λ r.
      writes_then (emit (instr r)) _ (writes_emit (instr r) (quiet r)) (λ value.
      writes_done _))

  -- code for each item
  pub writes_each : {A B : Type 0} (code : A → Code B) (xs : List A)
      → AllByRecursion (λ x. WritesQuiet tables numbers (code x)) xs
      → WritesQuiet tables numbers (each code xs)
  unfolding each
  writes_each code [] all = writes_done []
  writes_each code (x ∷ xs) all =
      writes_then (code x) _ all.0 (λ y.
      writes_then (each code xs) _ (writes_each code xs all.1) (λ ys. writes_done (y ∷ ys)))
