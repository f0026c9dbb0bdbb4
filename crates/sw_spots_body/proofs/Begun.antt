-- The function of a body that is made begins with the body's work.
use Rattle.std.proofs.Common.{◌≡◌, ℕ, suc, Bool, true, false, Option, Some, List}
use Rattle.std.proofs.Common.{[], ◌∷◌, ◌++◌, length, map, refl, ap, sym, ◌∙◌, subst, arith}
use Rattle.std.specs.Prelude.{Result, Ok, Err, IsOk, nat_lt, slice_get, ◌||◌, if◌then◌else◌}
use Rattle.sw_tree.specs.declared.expr.ClosureParam.{ClosureParam}
use Rattle.sw_graph.specs.declared.function.Function.{Function}
use Rattle.sw_graph.specs.declared.function.TheConstants.{MAX_POINTS}
use Rattle.sw_isolation_rules.specs.declared.note.Capture.{Capture}
use Rattle.sw_lower_builder.specs.Unfinished.{finished}
use Rattle.sw_lower_plans.specs.Plan.{Numbers}
use Rattle.sw_lower_plans.specs.Run.{IsGoing, Making, at_start, instrs_at, points}
use Rattle.sw_lower_plans.specs.declared.fault.CodeFault.{CodeFault}
use Rattle.sw_lower_plans.specs.declared.fault.CodeFault.TheVariants.{Blocks, Memory, Missing, Registers}
use Rattle.sw_lower_code.specs.Code.{all}
use Rattle.sw_lower_code.specs.Whole.{Body, IsWhole, code_of, ended_by, enter, function_of}
use Rattle.sw_lower_code.specs.Whole.{lower_body, sending_of}
use Rattle.sw_lower_code.specs.declared.fault.BodyFault.{BodyFault}
use Rattle.sw_lower_code.specs.declared.fault.BodyFault.TheVariants as faults
use Rattle.sw_lower_code.specs.declared.taken.Taken.{Taken}
use Rattle.sw_lower_code.proofs.WholeFacts.{lowers_whole}
use Rattle.sw_lower_rules.specs.Expressions.{capture_taken, closure_param_taken}
use Rattle.sw_lower_rules.specs.Tables.{Tables, name_of}
use Rattle.sw_lower_run_facts.specs.Made.{index}
use Rattle.sw_lower_run_facts.proofs.Runs.{grew, made_of, ran_both}
use Rattle.sw_tree_work.specs.Work.{Work}
use Rattle.sw_spots.specs.Spots.{BeginsAt, Enters, Program, Stands, bound_of, taken_bounds}
use Rattle.sw_spots.proofs.Going.{same_spot}
use Rattle.sw_spots_body.proofs.Ending.{Ends, HasMade}
use Rattle.sw_spots_body.proofs.Entering.{bounds_of, entered, ready_entered}

module _ (p : Program) (numbers : Numbers) where
  -- the function takes what the body does, and begins with the work
  pub record Begins (body : Body) (whole : Work) (f : Function) : Type 0 where
    pub takes : f.takes ≡ length body.takes
    pub enters : Enters f 0 (bounds_of 0 body.takes) [] (λ next. Stands p whole f [] next)
    pub iso : f.iso ≡ body.iso

  module _ (body : Body) (Holds : Making → Type 0) (whole : Work)
      (ends : Ends p numbers Holds body.code whole)
      (holds : (s : Making) → s.vars ≡ bounds_of 0 body.takes → Holds s) where
    abbrev start : Making
    start = at_start numbers body.key body.iso body.is_async

    begun_run : (t : Making) (f : Function) → HasMade f t → f.iso ≡ t.made.iso
        → f.takes ≡ length body.takes → t.over ≡ false → (code_of body).run start ≡ Ok (tt, t)
        → Begins body whole f
    unfolding code_of instrs_at
    begun_run t f has iso takes fits ran =
        let going : IsGoing start = omega arith in
        let both = ran_both (all enter body.takes) (λ done. body.code) start t tt ran in
        let s = both.1 in
        let is = entered body.takes start s going both.2 in
        let ready = ready_entered numbers body.takes start s refl refl refl going is in
        let made = (made_of (code_of body) start t tt going ran).1 in
        let blocks = (grew body.code s t tt ready.going both.3).blocks in
        let one = ap length is.blocks in
        let count = ap length has.blocks in
        record {
          takes = takes;
          enters = (
            omega (arith, blocks, one, count),
            subst (Stands p whole f [])
                (same_spot s.here 0 (index s) 0 s.vars (bounds_of 0 body.takes) [] [] is.here
                (ap (λ b. length (instrs_at b s.made.blocks)) is.here
                ∙ ap (λ blocks. length (instrs_at 0 blocks)) is.blocks) is.vars refl)
                (ends s t ready (holds s is.vars) fits both.3 f has),
          );
          iso = iso ∙ made.iso;
        }

    of_finish : (t : Making) (f : Function) → (code_of body).run start ≡ Ok (tt, t)
        → (over many : Bool) → t.over ≡ over
        → (if over || many then Err (faults.TooManyPoints body.key)
        else Ok (finished t.made (length body.takes) (sending_of body) body.sends body.result)) ≡ Ok f
        → Begins body whole f
    of_finish t f ran true many is result = cc
    of_finish t f ran false true is result = cc
    of_finish t f ran false false is result =
        let same : finished t.made (length body.takes) (sending_of body) body.sends body.result ≡ f = cc in
        begun_run t f
        (record {
          regs = ap (λ (x : Function). length x.regs) (sym same);
          blocks = ap (λ (x : Function). x.blocks) (sym same);
        }) (ap (λ (x : Function). x.iso) (sym same)) (ap (λ (x : Function). x.takes) (sym same))
        is ran

    of_run : (result : Result (Unit {0} × Making) CodeFault) (f : Function)
        → (code_of body).run start ≡ result → ended_by body result ≡ Ok f → Begins body whole f
    of_run (Ok at) f is ended =
        of_finish at.1 f is at.1.over (nat_lt MAX_POINTS (points at.1)) refl ended
    of_run (Err Registers) f is ended = cc
    of_run (Err Blocks) f is ended = cc
    of_run (Err Missing) f is ended = cc
    of_run (Err Memory) f is ended = cc

    of_body : (f : Function) → lower_body numbers body ≡ Ok f → Begins body whole f
    unfolding lower_body
    of_body f is = of_run ((code_of body).run start) f refl is

    of_result : (result : Result Function BodyFault) → lower_body numbers body ≡ result
        → IsOk result → Begins body whole (function_of numbers body)
    of_result (Ok f) is ok =
        subst (Begins body whole) (subst (IsWhole numbers body) is (lowers_whole numbers body)).0
        (of_body f is)
    of_result (Err fault) is ok = cc

    pub begun : IsOk (lower_body numbers body) → Begins body whole (function_of numbers body)
    begun ok = of_result (lower_body numbers body) refl ok

  -- The code of the body runs to its end, and its function stands under its number.
  pub record IsMade (body : Body) : Type 0 where
    pub there : (number : ℕ) → numbers (name_of body) ≡ Some number
        → slice_get p.functions number ≡ Some (function_of numbers body)
    pub made : IsOk (lower_body numbers body)

  -- so the function with its number begins with the work
  pub begins_at : (body : Body) (Holds : Making → Type 0) (whole : Work) (captures : List Capture)
      (params : List ℕ) (Is : Function → Type 0) (number : ℕ) → IsMade body
      → Ends p numbers Holds body.code whole
      → ((s : Making) → s.vars ≡ bounds_of 0 body.takes → Holds s)
      → bounds_of 0 body.takes ≡ taken_bounds 0 captures params
      → ((f : Function) → f.iso ≡ body.iso → Is f) → numbers (name_of body) ≡ Some number
      → BeginsAt p number captures params Is (λ g next. Stands p whole g [] next)
  begins_at body Holds whole captures params Is number made ends holds same is named =
      let f = function_of numbers body in
      let b = begun body Holds whole ends holds made.made in (
        f,
        made.there number named,
        is f b.iso,
        b.takes ∙ sym (as_long 0 body.takes) ∙ ap length same,
        subst (λ bounds. Enters f 0 bounds [] (λ next. Stands p whole f [] next)) same b.enters,
      ) where
        as_long : (r : ℕ) (takes : List Taken) → length (bounds_of r takes) ≡ length takes
        as_long r [] = refl
        as_long r (one ∷ more) = ap (λ n. suc n) (as_long (suc r) more)

  -- what a closure takes
  pub closure_bounds : (tables : Tables) (owner : Option ℕ) (r : ℕ) (captures : List Capture)
      (params : List ClosureParam)
      → bounds_of r (map (capture_taken tables owner) captures
      ++ map (closure_param_taken tables) params)
      ≡ taken_bounds r captures (map (λ (param : ClosureParam). param.name.at) params)
  closure_bounds tables owner r [] [] = refl
  closure_bounds tables owner r [] (param ∷ params) =
      ap (λ list. bound_of param.name.at r false ∷ list)
      (closure_bounds tables owner (suc r) [] params)
  closure_bounds tables owner r (one ∷ captures) params =
      ap (λ list. bound_of one.variable r one.by_ref ∷ list)
      (closure_bounds tables owner (suc r) captures params)
