-- A body's code begins with what the body takes, and the variables for that are bound.
use Rattle.std.proofs.Common.{◌≡◌, ℕ, ◌==◌, Bool, true, false, List, [], ◌∷◌, map, Contains}
use Rattle.std.proofs.Common.{refl, ap, sym, ◌∙◌, subst, arith, Some, zero, suc}
use Rattle.std.proofs.lemmas.Grind.{common_steps}
use Rattle.std.proofs.lemmas.List.Elements.{Contains-append_right}
use Rattle.std.specs.Prelude.{Ok, Err, Result, if◌then◌else◌, ◌||◌, nat_lt, length}
use Rattle.sw_graph.specs.declared.function.TheConstants.{MAX_POINTS}
use Rattle.sw_lower_builder.specs.Unfinished as made
use Rattle.sw_lower_plans.specs.Plan.{Numbers, Place, var_in}
use Rattle.sw_lower_plans.specs.Run.{IsGoing, Making, at_start, place_of, points}
use Rattle.sw_lower_plans.specs.declared.bound.Bound.{Bound}
use Rattle.sw_lower_plans.specs.declared.fault.CodeFault.{CodeFault}
use Rattle.sw_lower_plans.specs.declared.fault.CodeFault.TheVariants.{Registers, Blocks, Missing, Memory}
use Rattle.sw_lower_code.specs.Code.{Code, all, andthen, bind, done, reg}
use Rattle.sw_lower_code.specs.Whole.{Body, code_of, ended_by, enter, finish, lower_body}
use Rattle.sw_lower_code.specs.Whole.{sending_of}
use Rattle.sw_lower_code.specs.declared.fault.BodyFault.TheVariants as faults
use Rattle.sw_lower_code.specs.declared.taken.Taken.{Taken}
use Rattle.sw_lower_total_facts.specs.Proceeding.{BodyProceeds, Proceeds}
use Rattle.sw_lower_total_facts.proofs.Proceeding.Steps.{proceeds_bind, proceeds_done, proceeds_reg}
use Rattle.sw_lower_total_facts.proofs.Proceeding.Then.{Ran, proceeds_then}

-- The variables are those of what is taken, in order.
abbrev pub AreTaken : List Taken → List Bound → Type 0
AreTaken [] [] = Unit {0}
AreTaken (one ∷ more) (bound ∷ vars) =
    (bound.key ≡ one.key) × (bound.boxed ≡ one.boxed) × AreTaken more vars
AreTaken _ _ = ⊥

-- the variables that a plan for what is taken makes
taken_vars : (takes : List Taken) (place : Place)
    → AreTaken takes ((all enter takes).plan place).vars
unfolding all andthen bind done reg
taken_vars [] place = tt
taken_vars (one ∷ takes) place = (refl, refl, taken_vars takes _)

-- What is taken with a key is found, or something else with the same key.
pub record IsFound (takes : List Taken) (vars : List Bound) (key : ℕ) : Type 0 where
  pub bound : Bound
  pub found : var_in key vars ≡ Some bound
  pub one : Taken
  pub among : Contains takes one
  pub same : one.key ≡ key
  pub boxed : bound.boxed ≡ one.boxed

in_later : (one : Taken) (takes : List Taken) (bound : Bound) (vars : List Bound) (key : ℕ)
    → (bound.key == key) ≡ false → IsFound takes vars key
    → IsFound (one ∷ takes) (bound ∷ vars) key
in_later one takes bound vars key other later = record {
  bound = later.bound;
  found = ap (λ here. if here then Some bound else var_in key vars) other ∙ later.found;
  one = later.one;
  among = Contains-append_right (one ∷ []) takes later.one later.among;
  same = later.same;
  boxed = later.boxed;
}

pub taken_found : (takes : List Taken) (vars : List Bound) (key : ℕ) → AreTaken takes vars
    → Contains (map (λ (one : Taken). one.key) takes) key → IsFound takes vars key
taken_found [] [] key are (k, lt, is) = absurd (omega (arith, lt))
taken_found [] (bound ∷ vars) key are has = absurd are
taken_found (one ∷ takes) [] key are has = absurd are
taken_found (one ∷ takes) (bound ∷ vars) key are has =
    by (bound.key == key) refl (taken_found takes vars key are.2) where
      here_is : (bound.key == key) ≡ true → bound.key ≡ key
      here_is is = grind (arith, common_steps, is)

      later : (bound.key == key) ≡ false
          → Contains (map (λ (one : Taken). one.key) (one ∷ takes)) key
          → Contains (map (λ (one : Taken). one.key) takes) key
      later other (zero, lt, is) = absurd (apart (are.0 ∙ is)) where
        apart : bound.key ≡ key → ⊥
        apart same = grind (arith, common_steps, other, same)
      later other (suc k, lt, is) = (k, omega (arith, lt), is)

      by : (here : Bool) → (bound.key == key) ≡ here
          → (Contains (map (λ (one : Taken). one.key) takes) key → IsFound takes vars key)
          → IsFound (one ∷ takes) (bound ∷ vars) key
      by true is rest = record {
        bound = bound;
        found = ap (λ here. if here then Some bound else var_in key vars) is;
        one = one;
        among = (0, omega arith, refl);
        same = sym are.0 ∙ here_is is;
        boxed = are.1;
      }
      by false is rest = in_later one takes bound vars key is (rest (later is has))

-- what a body takes asks for nothing
enter_proceeds : (one : Taken) (s : Making) → IsGoing s → Proceeds s (enter one)
enter_proceeds one s going =
    proceeds_then (reg one.kind) (λ number. bind (record {
      key = one.key;
      reg = number;
      boxed = one.boxed;
    })) s going (proceeds_reg one.kind s) (λ value t ran made. proceeds_bind _ t)

enters_proceed : (takes : List Taken) (s : Making) → IsGoing s → Proceeds s (all enter takes)
unfolding all
enters_proceed [] s going = proceeds_done tt s
enters_proceed (one ∷ takes) s going =
    proceeds_then (enter one) (λ _. all enter takes) s going (enter_proceeds one s going)
    (λ value t ran made. enters_proceed takes t made.1.there)

-- where the code of a body begins, after what it takes
pub record Entered (number : Numbers) (takes : List Taken) (t : Making) : Type 0 where
  pub going : IsGoing t
  pub numbers : t.number ≡ number
  pub vars : AreTaken takes t.vars

-- A body proceeds where its code does after what it takes.
pub body_proceeds : (number : Numbers) (body : Body)
    → ((t : Making) → Entered number body.takes t → Proceeds t body.code)
    → BodyProceeds number body
unfolding code_of lower_body
body_proceeds number body rule faulty = by (code.run start) refl faulty where
  start : Making
  start = at_start number body.key body.iso body.is_async

  code : Code (Unit {0})
  code = code_of body

  entered : (value : Unit {0}) (t : Making) → Ran (all enter body.takes) start value t
      → Entered number body.takes t
  entered value t made = record {
    going = made.1.there;
    numbers = made.1.number;
    vars = subst (AreTaken body.takes) (sym made.1.vars) (taken_vars body.takes (place_of start));
  }

  proceeds : Proceeds start code
  proceeds =
      proceeds_then (all enter body.takes) (λ _. body.code) start (omega arith)
      (enters_proceed body.takes start (omega arith))
      (λ value t ran made. rule t (entered value t made))

  finished : (t : Making) → finish body t ≡ Err faults.Missing → ⊥
  finished t is = ended (t.over || nat_lt MAX_POINTS (points t)) is where
    ended : (large : Bool) → (if large then Err (faults.TooManyPoints body.key)
        else Ok (made.finished t.made (length body.takes) (sending_of body) body.sends body.result))
        ≡ Err faults.Missing → ⊥
    ended true is = cc
    ended false is = cc

  by : (result : Result (Unit {0} × Making) CodeFault) → code.run start ≡ result
      → ended_by body result ≡ Err faults.Missing → ⊥
  by (Ok at) ran is = finished at.1 is
  by (Err Registers) ran is = cc
  by (Err Blocks) ran is = cc
  by (Err Missing) ran is = proceeds ran
  by (Err Memory) ran is = cc
