-- The frames that begin on both machines match, if the graph's has the values that its function takes.
use Rattle.std.proofs.Common.{◌≡◌, ℕ, suc, ◌+◌, ◌≤◌, Bool, true, false, Option, Some}
use Rattle.std.proofs.Common.{None, List, [], ◌∷◌, ◌++◌, length, map, refl, ap, sym, ◌∙◌, subst, arith}
use Rattle.std.proofs.Common.{append-nil, length-append}
use Rattle.std.proofs.lemmas.Bool.Decides.{nat_tests}
use Rattle.std.proofs.lemmas.Option.{slice_get_past}
use Rattle.std.specs.Prelude.{slice_get, nat_lt, option_and_then, option_map, ◌==◌, if◌then◌else◌}
use Rattle.sw_types.specs.declared.isolation.CallKind.{CallKind}
use Rattle.sw_types.specs.declared.isolation.CallKind.TheVariants as kinds
use Rattle.sw_types.specs.declared.isolation.Iso.{Iso}
use Rattle.sw_types.specs.declared.isolation.Iso.TheVariants as iso
use Rattle.sw_graph.specs.declared.function.Function.{Function}
use Rattle.sw_graph.specs.declared.graph.Graph.{Graph}
use Rattle.sw_graph.specs.Points.{points_of}
use Rattle.sw_isolation_rules.specs.declared.note.Capture.{Capture}
use Rattle.sw_lower_plans.specs.Plan.{var_in}
use Rattle.sw_lower_plans.specs.declared.bound.Bound.{Bound}
use Rattle.sw_value.specs.declared.cell.HeapCell.{HeapCell}
use Rattle.sw_value.specs.declared.cell.HeapCell.TheVariants as cell
use Rattle.sw_value.specs.declared.executor.Executor.{Executor}
use Rattle.sw_value.specs.declared.executor.Executor.TheVariants.{ActorOf}
use Rattle.sw_value.specs.declared.frame.Frame.{Frame}
use Rattle.sw_value.specs.declared.frame.TheConstants.{NO_REGISTER}
use Rattle.sw_value.specs.declared.value.Value.{Value}
use Rattle.sw_value.specs.Call.{call_executor, called_frame, called_in, closure_frame, crosses}
use Rattle.sw_value.specs.Call.{pushed_frame}
use Rattle.sw_value.specs.Executor.{executor_of}
use Rattle.sw_value.specs.Frame as machine
use Rattle.sw_value.specs.Frame.{first_frame_of}
use Rattle.sw_value.specs.Value.{reference_of, registers, value_at}
use Rattle.sw_machine_kind_facts.proofs.BeginLemmas.{register_is}
use Rattle.sw_tree_work.specs.Work.{TreeBody, Work}
use Rattle.sw_tree_step.specs.Frames.{begun, called, called_closure, first_frame}
use Rattle.sw_tree_step.specs.State.{Closed, Direct, Env, Held, Kept, TreeCell, TreeFrame, put}
use Rattle.sw_tree_step.specs.State.{room_of, taken, value_in}
use Rattle.sw_spots.specs.Spots.{AnyFunction, BeginsAt, BodyStands, HasIso, Program, Stands, bound_of}
use Rattle.sw_spots.specs.Spots.{starts, taken_bounds}
use Rattle.sw_tree_same.specs.Frames.{AreVars, HasRoom, IsRoom, Match}
use Rattle.sw_tree_same.specs.States.{AreCaptured, CellsMatch}
use Rattle.sw_tree_same.proofs.Scene.{BeginsWith, IsFull}
use Rattle.sw_tree_same.proofs.Zips.{BothOrNone}

-- as many values as the function takes, at least
enough : (function : Function) (frame : Frame) (n : ℕ) (values : List Value) → IsFull function frame
    → frame.regs ≡ registers n values → function.takes ≤ length values
enough function frame n values full are = by (nat_lt (length values) function.takes) refl where
  by : (less : Bool) → nat_lt (length values) function.takes ≡ less → function.takes ≤ length values
  by true e =
      let has = full.values (length values) (grind (arith, nat_tests, e)) in
      absurd (let no : ⊥ = (let wrong : None ≡ Some has.0 =
      sym (slice_get_past values (length values) (omega arith))
      ∙ sym (register_is n values (length values))
      ∙ ap (λ regs. value_at regs (length values)) (sym are) ∙ has.1 in cc)
      in no)
  by false e = grind (arith, nat_tests, e)

-- Variables that are taken are in their registers: what is captured, and parameters.
params_there : (regs : List (Option Value)) (r : ℕ) (keys : List ℕ) (values : List Value)
    → length keys ≤ length values
    → ((i : ℕ) (v : Value) → slice_get values i ≡ Some v → value_at regs (r + i) ≡ Some v)
    → AreVars regs (taken keys values) (taken_bounds r [] keys)
params_there regs r [] values long has key bound is = cc
params_there regs r (k ∷ keys) [] long has key bound is =
    absurd (let no : ⊥ = omega (arith, long) in no)
params_there regs r (k ∷ keys) (v ∷ values) long has key bound is =
    by (k == key) refl (params_there regs (suc r) keys values (omega (arith, long))
    (λ i w at. ap (value_at regs) (let same : suc r + i ≡ r + suc i = omega arith in same)
    ∙ has (suc i) w at) key bound) is where
      by : (same : Bool) → (k == key) ≡ same
          → (var_in key (taken_bounds (suc r) [] keys) ≡ Some bound
          → HasRoom regs (taken keys values) key bound)
          → (if same then Some (bound_of k r false) else var_in key (taken_bounds (suc r) [] keys))
          ≡ Some bound
          → HasRoom regs (put k (Direct v) (taken keys values)) key bound
      by true e more is =
          let one : bound_of k r false ≡ bound = cc in
          record {
            room = Direct v;
            found = ap (λ x. if x then Some (Direct v) else room_of key (taken keys values)) e;
            is = subst (λ (b : Bound). (false ≡ b.boxed) × (value_at regs b.reg ≡ Some v)) one (
              refl,
              ap (value_at regs) (let same : r ≡ r + 0 = omega arith in same)
                  ∙ has 0 v refl,
            );
          }
      by false e more is =
          let later = more is in
          record {
            room = later.room;
            found = ap (λ x. if x then Some (Direct v) else room_of key (taken keys values)) e
                ∙ later.found;
            is = later.is;
          }

vars_there : (regs : List (Option Value)) (r : ℕ) (captures : List Capture) (keys : List ℕ)
    (env : Env) (captured values : List Value) → AreCaptured captures env captured
    → length keys ≤ length values
    → ((i : ℕ) (v : Value) → slice_get (captured ++ values) i ≡ Some v
    → value_at regs (r + i) ≡ Some v)
    → AreVars regs (env ++ taken keys values) (taken_bounds r captures keys)
vars_there regs r [] keys [] [] values are long has key bound is =
    params_there regs r keys values long has key bound is
vars_there regs r (one ∷ more) keys (held ∷ env) (v ∷ captured) values are long has key bound is =
    by (one.variable == key) refl (vars_there regs (suc r) more keys env captured values are.3 long
    (λ i w at. ap (value_at regs) (let same : suc r + i ≡ r + suc i = omega arith in same)
    ∙ has (suc i) w at) key bound) is where
      at : (same : Bool) → (one.variable == key) ≡ same → (held.key == key) ≡ same
      at same e = ap (λ k. k == key) are.0 ∙ e

      by : (same : Bool) → (one.variable == key) ≡ same
          → (var_in key (taken_bounds (suc r) more keys) ≡ Some bound
          → HasRoom regs (env ++ taken keys values) key bound)
          → (if same then Some (bound_of one.variable r one.by_ref)
          else var_in key (taken_bounds (suc r) more keys)) ≡ Some bound
          → HasRoom regs (held ∷ (env ++ taken keys values)) key bound
      by true e more is =
          let first : bound_of one.variable r one.by_ref ≡ bound = cc in
          record {
            room = held.room;
            found = ap (λ x. if x then Some held.room else room_of key (env ++ taken keys values))
                (at true e);
            is = subst (λ (b : Bound). IsRoom regs b held.room) first (
              are.1,
              ap (value_at regs) (let same : r ≡ r + 0 = omega arith in same)
                  ∙ has 0 v refl ∙ ap Some (sym are.2),
            );
          }
      by false e more is =
          let later = more is in
          record {
            room = later.room;
            found = ap (λ x. if x then Some held.room else room_of key (env ++ taken keys values))
                (at false e) ∙ later.found;
            is = later.is;
          }
vars_there regs r [] keys (held ∷ env) captured values are long has key bound is = absurd are
vars_there regs r [] keys [] (v ∷ captured) values are long has key bound is = absurd are
vars_there regs r (one ∷ more) keys [] captured values are long has key bound is = absurd are
vars_there regs r (one ∷ more) keys (held ∷ env) [] values are long has key bound is = absurd are

-- as many bounds as what is taken
bounds_count : (r : ℕ) (captures : List Capture) (keys : List ℕ) (env : Env) (captured : List Value)
    → AreCaptured captures env captured
    → length (taken_bounds r captures keys) ≡ length captured + length keys
bounds_count r [] [] [] [] are = omega arith
bounds_count r [] (key ∷ keys) [] [] are =
    let more = bounds_count (suc r) [] keys [] [] are in omega (arith, more)
bounds_count r (one ∷ more) keys (held ∷ env) (v ∷ captured) are =
    let rest = bounds_count (suc r) more keys env captured are.3 in omega (arith, rest)
bounds_count r [] [] (held ∷ env) captured are = absurd are
bounds_count r [] (key ∷ keys) (held ∷ env) captured are = absurd are
bounds_count r [] [] [] (v ∷ captured) are = absurd are
bounds_count r [] (key ∷ keys) [] (v ∷ captured) are = absurd are
bounds_count r (one ∷ more) keys [] captured are = absurd are
bounds_count r (one ∷ more) keys (held ∷ env) [] are = absurd are

module _ (p : Program) (graph : Graph) (functions : p.functions ≡ graph.functions) where
  -- A body begins in the function with a number, with what it captures and its arguments.
  module _ (number : ℕ) (captures : List Capture) (params : List ℕ) (Is : Function → Type 0)
      (body : Work)
      (begins : BeginsAt p number captures params Is (λ g next. Stands p body g [] next))
      (env : Env) (captured values : List Value) (are : AreCaptured captures env captured) where
    abbrev pub callee : Function
    callee = begins.0

    abbrev pub regs : List (Option Value)
    regs = registers (length callee.regs) (captured ++ values)

    pub found : slice_get graph.functions number ≡ Some callee
    found = ap (λ all. slice_get all number) (sym functions) ∙ begins.1

    pub begun_matches : (frame : Frame) (crossing gives : Bool) → frame.function ≡ number
        → frame.point ≡ 0 → frame.regs ≡ regs → frame.crossing ≡ crossing → BeginsWith graph frame
        → Match p graph None (begun (env ++ taken params values) body crossing gives frame.executor)
        frame
    unfolding points_of
    begun_matches frame crossing gives is at have crosses with_all =
        let there = ap (slice_get graph.functions) is ∙ found in
        let full = with_all callee there in
        let takes = begins.3 in
        let counted = bounds_count 0 captures params env captured are in
        let few = enough callee frame (length callee.regs) (captured ++ values) full have in
        let both = length-append captured values in
        record {
          function = callee;
          rings = [];
          spot = starts 0 (taken_bounds 0 captures params) [];
          at = record {
            is = there;
            within = begins.4.0;
            point = at ∙ (let none : 0 ≡ 0 + 0 = omega arith in none);
            regs = full.count;
          };
          temps = tt;
          vars = subst (λ some. AreVars some (env ++ taken params values)
              (taken_bounds 0 captures params)) (sym have)
              (vars_there regs 0 captures params env captured values are
              (omega (arith, takes, counted, few, both))
              (λ i v is. ap (value_at regs) (let same : 0 + i ≡ i = omega arith in same)
              ∙ register_is (length callee.regs) (captured ++ values) i ∙ is));
          free = tt;
          stands = begins.4.1;
          loops = tt;
          executor = refl;
          crossing = sym crosses;
        }

  -- Two frames begin or none does. They match, and the graph's gives its value to the register.
  abbrev pub BothBegin : Option TreeFrame → Option Frame → ℕ → Type 0
  BothBegin None None r = Unit {0}
  BothBegin (Some tree) (Some frame) r = (BeginsWith graph frame → Match p graph None tree frame)
      × (tree.gives ≡ true) × (frame.result ≡ r)
  BothBegin None (Some frame) r = ⊥
  BothBegin (Some tree) None r = ⊥

  first_same : (n : ℕ) (values : List Value)
      → value_at (map Some values) 0 ≡ value_at (registers n values) 0
  first_same n [] = sym (register_is n [] 0)
  first_same n (v ∷ values) = sym (register_is n (v ∷ values) 0)

  own_same : (how : Iso) (n : ℕ) (values : List Value)
      → executor_of how (map Some values) ≡ executor_of how (registers n values)
  own_same iso.Free n values = refl
  own_same iso.Caller n values = refl
  own_same (iso.Global g) n values = refl
  own_same iso.Own n values =
      ap (λ v. option_map ActorOf (option_and_then reference_of v)) (first_same n values)

  executor_same : (kind : CallKind) (caller : Executor) (how : Iso) (n : ℕ) (values : List Value)
      → call_executor kind caller how (map Some values)
      ≡ call_executor kind caller how (registers n values)
  executor_same kinds.Plain caller how n values = refl
  executor_same kinds.Same caller how n values = refl
  executor_same kinds.Weak caller how n values = refl
  executor_same kinds.Make caller how n values = refl
  executor_same kinds.Strong caller how n values = own_same how n values

  -- a call of a body that is found by its name
  pub call_begins : (caller : Frame) (e : Executor) → e ≡ caller.executor → (number r : ℕ)
      (kind : CallKind) (values : List Value) (body : TreeBody) → BodyStands p body number
      → BothBegin (called e kind values body) (called_frame graph caller number kind r values) r
  unfolding called_frame
  call_begins caller e is number r kind values body begins =
      subst (λ o. BothBegin (called e kind values body) (option_and_then (λ (function : Function).
      called_in caller number kind r function.iso (registers (length function.regs) values)) o) r)
      (sym there)
      (subst (λ how. BothBegin (called e kind values body) (called_in caller number kind r how some) r)
      (sym begins.2)
      (subst (λ o. BothBegin (called e kind values body)
      (option_map (pushed_frame number r (crosses kind) some) o) r)
      (executor_same kind e body.iso (length begins.0.regs) values
      ∙ ap (λ one. call_executor kind one body.iso some) is)
      (by (call_executor kind e body.iso (map Some values))))) where
        there : slice_get graph.functions number ≡ Some begins.0
        there = found number [] body.takes (HasIso body.iso) body.work begins [] [] values tt

        some : List (Option Value)
        some = registers (length begins.0.regs) values

        by : (one : Option Executor)
            → BothBegin (option_map (begun (taken body.takes values) body.work (crosses kind) true) one)
            (option_map (pushed_frame number r (crosses kind) some) one) r
        by None = tt
        by (Some a) = (
          begun_matches number [] body.takes (HasIso body.iso) body.work begins [] [] values tt
              (pushed_frame number r (crosses kind) some a) (crosses kind) true refl refl refl refl,
          refl,
          refl,
        )

  -- a call of a closure
  pub closure_begins : (caller : Frame) (e : Executor) → e ≡ caller.executor → (r : ℕ)
      (values : List Value) (one : Option TreeCell) (other : Option HeapCell)
      → BothOrNone (CellsMatch p) one other
      → BothBegin (option_and_then (called_closure e values) one)
      (option_and_then (closure_frame graph caller r values) other) r
  unfolding called_frame
  closure_begins caller e is r values None None both = tt
  closure_begins caller e is r values (Some (Closed key params body env))
      (Some (cell.Closure number captured)) both =
      subst (λ o. BothBegin (Some (begun (env ++ taken params values) body false true e))
      (option_and_then (λ (function : Function). called_in caller number kinds.Plain r function.iso
      (registers (length function.regs) (captured ++ values))) o) r)
      (sym (found number both.0 params AnyFunction body both.2 env captured values both.1))
      (subst (λ on. BothBegin (Some (begun (env ++ taken params values) body false true on))
      (Some (pushed_frame number r false some caller.executor)) r) (sym is) (
        begun_matches number both.0 params AnyFunction body both.2 env captured values both.1
            (pushed_frame number r false some caller.executor) false true refl refl refl refl,
        refl,
        refl,
      )) where
        some : List (Option Value)
        some = registers (length both.2.0.regs) (captured ++ values)
  closure_begins caller e is r values (Some (Closed key params body env)) (Some other) both =
      absurd both
  closure_begins caller e is r values (Some (Kept one)) (Some (cell.Closure number captured)) both =
      absurd both.1
  closure_begins caller e is r values (Some (Kept one)) (Some other) both = tt
  closure_begins caller e is r values None (Some other) both = absurd both
  closure_begins caller e is r values (Some one) None both = absurd both

  -- so it is of the first frames of tasks, whose values no frame wants
  abbrev pub BothFirst : Option TreeFrame → Option Frame → Type 0
  BothFirst None None = Unit {0}
  BothFirst (Some tree) (Some frame) = (BeginsWith graph frame → Match p graph None tree frame)
      × (tree.gives ≡ false) × (frame.result ≡ NO_REGISTER)
  BothFirst None (Some frame) = ⊥
  BothFirst (Some tree) None = ⊥

  captured_same : (captures : List Capture) (env : Env) (captured : List Value)
      → AreCaptured captures env captured
      → map (λ (held : Held). Some (value_in held.room)) env ≡ map Some captured
  captured_same [] [] [] are = refl
  captured_same (one ∷ more) (held ∷ env) (v ∷ captured) are =
      ap (λ w. Some w ∷ map (λ (held : Held). Some (value_in held.room)) env) are.2
      ∙ ap (λ rest. Some v ∷ rest) (captured_same more env captured are.3)
  captured_same [] (held ∷ env) captured are = absurd are
  captured_same [] [] (v ∷ captured) are = absurd are
  captured_same (one ∷ more) [] captured are = absurd are
  captured_same (one ∷ more) (held ∷ env) [] are = absurd are

  pub task_begins : (number : ℕ) (how : Iso) (captures : List Capture) (body : Work) (env : Env)
      (captured : List Value) → AreCaptured captures env captured
      → BeginsAt p number captures [] (HasIso how) (λ g next. Stands p body g [] next)
      → BothFirst (first_frame how env body) (machine.first_frame graph number captured)
  unfolding machine.first_frame
  task_begins number how captures body env captured are begins =
      subst (λ o. BothFirst (first_frame how env body) (option_and_then (λ (function : Function).
      first_frame_of number function.iso (registers (length function.regs) captured)) o))
      (sym there)
      (subst (λ on. BothFirst (first_frame how env body) (first_frame_of number on some))
      (sym begins.2)
      (subst (λ o. BothFirst (first_frame how env body) (option_map top o))
      (ap (executor_of how) (captured_same captures env captured are)
      ∙ own_same how (length begins.0.regs) captured)
      (by (executor_of how (map (λ (held : Held). Some (value_in held.room)) env))))) where
        there : slice_get graph.functions number ≡ Some begins.0
        there = found number captures [] (HasIso how) body begins env captured [] are

        some : List (Option Value)
        some = registers (length begins.0.regs) captured

        top : Executor → Frame
        top e = record {
          function = number;
          point = 0;
          regs = some;
          executor = e;
          crossing = true;
          result = NO_REGISTER;
        }

        by : (one : Option Executor)
            → BothFirst (option_map (begun env body true false) one) (option_map top one)
        by None = tt
        by (Some a) = (
          λ full. subst (λ all. Match p graph None (begun all body true false a) (top a))
              (append-nil env)
              (begun_matches number captures [] (HasIso how) body begins env captured [] are (top a)
              true false refl refl
              (ap (registers (length begins.0.regs)) (sym (append-nil captured))) refl full),
          refl,
          refl,
        )
