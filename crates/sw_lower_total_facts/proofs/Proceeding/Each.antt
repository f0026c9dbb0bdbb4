-- Code for each item of a list proceeds where the code for one does.
use Rattle.std.proofs.Common.{ℕ, List, [], ◌∷◌}
use Rattle.std.specs.Prelude.{Contains}
use Rattle.sw_isolation_rules.specs.declared.note.Note.{Note}
use Rattle.sw_isolation_rules.specs.declared.uses.Context.{Context}
use Rattle.sw_lower_plans.specs.Plan.{Numbers}
use Rattle.sw_lower_plans.specs.Run.{Making}
use Rattle.sw_lower_code.specs.Code.{Code, done, each, ◌>>=◌}
use Rattle.sw_lower_rules.specs.Tables.{Tables}
use Rattle.sw_typing_facts.proofs.Lists.Listed.{in_first, in_rest}
use Rattle.sw_lower_total_facts.specs.Bound.{Ready}
use Rattle.sw_lower_total_facts.specs.Proceeding.{Proceeds}
use Rattle.sw_lower_total_facts.proofs.Proceeding.Ready.{then_ready}
use Rattle.sw_lower_total_facts.proofs.Proceeding.Steps.{proceeds_done}

module _ (tables : Tables) (number : Numbers) (context : Context) (listed : List ℕ)
    (seen : List ℕ) (notes : List Note) where
  -- code that proceeds wherever this is known
  abbrev pub Goes : {A : Type 0} → Code A → Type 0
  Goes code = (s : Making) → Ready tables number context listed seen notes s → Proceeds s code

  pub goes_each : {A B : Type 0} (code : A → Code B) (xs : List A)
      → ((x : A) → Contains xs x → Goes (code x)) → Goes (each code xs)
  unfolding each
  goes_each code [] one s ready = proceeds_done [] s
  goes_each code (x ∷ xs) one s ready =
      then_ready tables number context listed seen notes (code x)
      (λ y. each code xs >>= λ ys. done (y ∷ ys)) s ready (one x (in_first x xs) s ready)
      (λ y t ready_t ran made.
      then_ready tables number context listed seen notes (each code xs)
      (λ ys. done (y ∷ ys)) t ready_t
      (goes_each code xs (λ other has. one other (in_rest x xs other has)) t ready_t)
      (λ ys u ready_u ran_u made_u. proceeds_done (y ∷ ys) u))
