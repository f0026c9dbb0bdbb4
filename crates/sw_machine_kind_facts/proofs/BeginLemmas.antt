-- A frame that begins a function with what it takes.
use Rattle.std.proofs.Common.{◌≡◌, ℕ, zero, suc, ◌-◌, ◌<◌, ◌≤◌, Bool, true}
use Rattle.std.proofs.Common.{Option, Some, None, List, [], ◌∷◌, ◌++◌, length, map, take, refl, ap}
use Rattle.std.proofs.Common.{sym, ◌∙◌, subst, arith, length-append, replicate}
use Rattle.std.specs.Prelude.{option_and_then, is_some}
use Rattle.std.specs.Option.{option_map}
use Rattle.std.specs.List.{slice_get}
use Rattle.std.proofs.lemmas.Bool.Decides.{nat_tests}
use Rattle.std.proofs.lemmas.List.{length-map, length-replicate, length-take-le}
use Rattle.std.proofs.lemmas.Option.{slice_get_within}
use Rattle.sw_types.specs.declared.isolation.CallKind.{CallKind}
use Rattle.sw_types.specs.declared.isolation.CallKind.TheVariants as kind
use Rattle.sw_types.specs.declared.isolation.Iso.{Iso}
use Rattle.sw_types.specs.declared.isolation.Iso.TheVariants as iso
use Rattle.sw_graph.specs.declared.function.Function.{Function}
use Rattle.sw_graph.specs.declared.function.RegKind.{RegKind}
use Rattle.sw_graph.specs.declared.graph.Graph.{Graph}
use Rattle.sw_graph.specs.declared.instr.Instr.TheVariants.{Payload}
use Rattle.sw_graph.specs.Kinds.{taken, shape_of, is_actor}
use Rattle.sw_graph.specs.Payloads.{PayloadFits}
use Rattle.sw_graph.specs.Points.{points_of, block_start}
use Rattle.sw_graph.specs.WellFormed.{FunctionFits}
use Rattle.sw_list.proofs.ListLemmas.{at_index}
use Rattle.sw_value.specs.declared.executor.Executor.{Executor}
use Rattle.sw_value.specs.declared.executor.Executor.TheVariants.{Generic, ActorOf, Global}
use Rattle.sw_value.specs.declared.frame.Frame.{Frame}
use Rattle.sw_value.specs.declared.frame.TheConstants.{NO_REGISTER}
use Rattle.sw_value.specs.declared.value.Value.{Value}
use Rattle.sw_value.specs.Call.{call_executor, called_in, called_frame, crosses, pushed_frame}
use Rattle.sw_value.specs.Executor.{executor_of}
use Rattle.sw_value.specs.Frame.{first_frame_of, first_frame}
use Rattle.sw_value.specs.Value.{registers, value_at, reference_of, layer_reference}
use Rattle.sw_machine_kind_facts.specs.Kinds.{HaveKinds}
use Rattle.sw_machine_kind_facts.specs.Standing.{Stands, FrameFits}
use Rattle.sw_graph.specs.Supplied.{TakesActor}
use Rattle.sw_graph.specs.Sure.{begin}
use Rattle.sw_machine_kind_facts.proofs.ItemLemmas.{found_within}
use Rattle.sw_machine_kind_facts.proofs.KindLemmas.{reference_is, sort_actor}
use Rattle.sw_machine_kind_facts.proofs.OperandLemmas.{function_fits}
use Rattle.sw_machine_kind_facts.proofs.PlaceLemmas.{block_place, start_is}

-- the registers with values are the first ones
value_in : (vs : List Value) (count r : ℕ)
    → value_at (map Some vs ++ replicate count None) r ≡ slice_get vs r
value_in [] zero r = refl
value_in [] (suc count) zero = refl
value_in [] (suc count) (suc r) = value_in [] count r
value_in (v ∷ vs) count zero = refl
value_in (v ∷ vs) count (suc r) = value_in vs count r

pub register_is : (count : ℕ) (vs : List Value) (r : ℕ)
    → value_at (registers count vs) r ≡ slice_get vs r
unfolding registers
register_is count vs r = value_in vs (count - length vs) r

pub register_count : (count : ℕ) (vs : List Value) → length vs ≤ count
    → length (registers count vs) ≡ count
unfolding registers
register_count count vs few =
    let all = length-append (map Some vs) (replicate (count - length vs) None) in
    let filled = length-map vs Some in
    let empty = length-replicate {A = Option Value} (count - length vs) None in
    omega (arith, all, filled, empty, few)

taken_get : {A : Type 0} (xs : List A) (n r : ℕ) (x : A) → slice_get xs r ≡ Some x → r < n
    → slice_get (take n xs) r ≡ Some x
taken_get [] n r x e inside = cc
taken_get (y ∷ ys) zero r x e inside = absurd (omega (arith, inside))
taken_get (y ∷ ys) (suc n) zero x e inside = e
taken_get (y ∷ ys) (suc n) (suc r) x e inside = taken_get ys n r x e (omega (arith, inside))

begins_at : (function : Function) → 0 < length function.blocks → block_start function 0 ≡ Some 0
unfolding points_of
begins_at function some = let found = found_within function.blocks 0 some in
    start_is function 0 found.0 found.1

pub stands_first : (graph : Graph) (cells : List RegKind) (function : Function)
    → FunctionFits graph.shapes graph.globals graph.functions function → (awaits : Option ℕ)
    (vs : List Value) → HaveKinds graph.shapes cells vs (taken function)
    → Stands graph.shapes cells function awaits 0 (registers (length function.regs) vs)
stands_first graph cells function fits awaits vs have =
    let takes = fits.takes in
    let count = have.count in
    let taken_count = length-take-le function.takes function.regs takes in
    let first = found_within function.blocks 0 fits.begins in
    let few : length vs ≤ length function.regs = omega (arith, takes, count, taken_count) in
    record {
      place = block_place function 0 0 first.0 first.1 (begins_at function fits.begins);
      front = λ block is at r s i next. let payloads = fits.payloads 0 block is in
          let fit = at_index (PayloadFits graph.shapes function 0) block.instrs 0 (Payload at r s i)
          payloads.each next in absurd (let none = fit.0 in omega (arith, none));
      constant = tt;
      passed = [];
      way = begin;
      slots = record {
        count = register_count (length function.regs) vs few;
        each = λ r v k here at. let given : slice_get vs r ≡ Some v =
            sym (register_is (length function.regs) vs r) ∙ here in
            let inside = slice_get_within vs r v given in
            have.each r v k given (taken_get function.regs function.takes r k at
            (omega (arith, inside, count, taken_count)));
      };
      has = λ r inside set apart. let low : r < function.takes = grind (arith, nat_tests, set) in
          let found = found_within vs r (omega (arith, low, count, taken_count)) in
          (found.0, register_is (length function.regs) vs r ∙ found.1);
    }

-- the executor of a function, whose actor is what it takes first
pub executor_there : (graph : Graph) (cells : List RegKind) (function : Function)
    → FunctionFits graph.shapes graph.globals graph.functions function → (vs : List Value)
    → HaveKinds graph.shapes cells vs (taken function)
    → (function.iso ≡ iso.Own → TakesActor graph.shapes function)
    → (e : Executor)
    × (executor_of function.iso (registers (length function.regs) vs) ≡ Some e)
executor_there graph cells function fits vs have gives = by function.iso refl where
  own : TakesActor graph.shapes function → (c : ℕ)
      × (option_and_then reference_of (value_at (registers (length function.regs) vs) 0) ≡ Some c)
  own actor =
      let takes = fits.takes in
      let few = actor.takes in
      let count = have.count in
      let taken_count = length-take-le function.takes function.regs takes in
      let kind = found_within function.regs 0 (omega (arith, few, takes)) in
      let value = found_within vs 0 (omega (arith, few, count, taken_count)) in
      let has = have.each 0 value.0 kind.0 value.1
      (taken_get function.regs function.takes 0 kind.0 kind.1 few) in
      let is = reference_is graph.shapes cells value.0 kind.0 has
      (sort_actor graph.shapes kind.0 (subst (λ k. is_some (shape_of graph.shapes is_actor k) ≡
      true)
      kind.1 actor.kind)) in (
        is.cell,
        ap (option_and_then reference_of) (register_is (length function.regs) vs 0 ∙ value.1)
            ∙ ap layer_reference is.is,
      )

  by : (i : Iso) → function.iso ≡ i
      → (e : Executor) × (executor_of i (registers (length function.regs) vs) ≡ Some e)
  by iso.Free is = (Generic, refl)
  by iso.Caller is = (Generic, refl)
  by (iso.Global g) is = (Global g, refl)
  by iso.Own is = let reference = own (gives is) in
      (ActorOf reference.0, ap (option_map ActorOf) reference.1)

-- a frame that begins the function with that number, whose result is for register r
pub record IsBegun (graph : Graph) (cells : List RegKind) (number r : ℕ) (function : Function)
    (frame : Frame) : Type 0 where
  pub number_is : frame.function ≡ number
  pub result_is : frame.result ≡ r
  pub point_is : frame.point ≡ 0
  pub fits : (awaits : Option ℕ) → FrameFits graph cells awaits frame
  pub same : (awaits : Option ℕ) → (fits awaits).function ≡ function

begun : (graph : Graph) (cells : List RegKind) (number : ℕ) (function : Function)
    → slice_get graph.functions number ≡ Some function → (vs : List Value)
    → HaveKinds graph.shapes cells vs (taken function) → (e : Executor) (crossing : Bool) (r : ℕ)
    → IsBegun graph cells number r function (record {
      function = number;
      point = 0;
      regs = registers (length function.regs) vs;
      executor = e;
      crossing = crossing;
      result = r;
    })
begun graph cells number function is vs have e crossing r = record {
  number_is = refl;
  result_is = refl;
  point_is = refl;
  fits = λ awaits. record {
    function = function;
    is = is;
    stands = stands_first graph cells function (function_fits graph number function is) awaits vs
        have;
  };
  same = λ awaits. refl;
}

-- the first frame of a job
pub record FirstBegins (graph : Graph) (cells : List RegKind) (number : ℕ) (function : Function)
    (vs : List Value) : Type 0 where
  pub frame : Frame
  pub is : first_frame graph number vs ≡ Some frame
  pub begins : IsBegun graph cells number NO_REGISTER function frame

pub first_begins : (graph : Graph) (cells : List RegKind) (number : ℕ) (function : Function)
    → slice_get graph.functions number ≡ Some function → (vs : List Value)
    → HaveKinds graph.shapes cells vs (taken function)
    → (function.iso ≡ iso.Own → TakesActor graph.shapes function)
    → FirstBegins graph cells number function vs
unfolding first_frame
first_begins graph cells number function is vs have gives =
    let e = executor_there graph cells function (function_fits graph number function is) vs have
    gives in
    record {
      frame = record {
        function = number;
        point = 0;
        regs = registers (length function.regs) vs;
        executor = e.0;
        crossing = true;
        result = NO_REGISTER;
      };
      is = ap (option_and_then (λ (f : Function). first_frame_of number f.iso
          (registers (length f.regs) vs))) is
          ∙ ap (option_map _) e.1;
      begins = begun graph cells number function is vs have e.0 true NO_REGISTER;
    }

-- the frame of a call
pub record CallBegins (graph : Graph) (cells : List RegKind) (caller : Frame) (number : ℕ)
    (kind : CallKind) (r : ℕ) (function : Function) (vs : List Value) : Type 0 where
  pub frame : Frame
  pub is : called_frame graph caller number kind r vs ≡ Some frame
  pub begins : IsBegun graph cells number r function frame

call_executor_there : (graph : Graph) (cells : List RegKind) (function : Function)
    → FunctionFits graph.shapes graph.globals graph.functions function → (vs : List Value)
    → HaveKinds graph.shapes cells vs (taken function) → (caller : Executor) (call : CallKind)
    → (call ≡ kind.Strong → function.iso ≡ iso.Own → TakesActor graph.shapes function)
    → (e : Executor)
    × (call_executor call caller function.iso (registers (length function.regs) vs) ≡ Some e)
call_executor_there graph cells function fits vs have caller kind.Plain gives = (caller, refl)
call_executor_there graph cells function fits vs have caller kind.Same gives = (caller, refl)
call_executor_there graph cells function fits vs have caller kind.Weak gives = (Generic, refl)
call_executor_there graph cells function fits vs have caller kind.Make gives = (caller, refl)
call_executor_there graph cells function fits vs have caller kind.Strong gives =
    executor_there graph cells function fits vs have (gives refl)

pub call_begins : (graph : Graph) (cells : List RegKind) (caller : Frame) (number : ℕ)
    (call : CallKind) (r : ℕ) (function : Function)
    → slice_get graph.functions number ≡ Some function → (vs : List Value)
    → HaveKinds graph.shapes cells vs (taken function)
    → (call ≡ kind.Strong → function.iso ≡ iso.Own → TakesActor graph.shapes function)
    → CallBegins graph cells caller number call r function vs
unfolding called_frame
call_begins graph cells caller number call r function is vs have gives =
    let e = call_executor_there graph cells function (function_fits graph number function is) vs
    have
    caller.executor call gives in
    record {
      frame = pushed_frame number r (crosses call) (registers (length function.regs) vs) e.0;
      is = ap (option_and_then (λ (f : Function). called_in caller number call r f.iso
          (registers (length f.regs) vs))) is
          ∙ ap (option_map (pushed_frame number r (crosses call)
          (registers (length function.regs) vs))) e.1;
      begins = begun graph cells number function is vs have e.0 (crosses call) r;
    }
