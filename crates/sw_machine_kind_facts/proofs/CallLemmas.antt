-- Closures, calls and tasks are never stuck.
use Rattle.std.proofs.Common.{◌≡◌, ℕ, suc, ◌+◌, inr, leb, Bool, true, false, cond}
use Rattle.std.proofs.Common.{Option, Some, None, List, [], ◌∷◌, ◌++◌, length, map, take, drop}
use Rattle.std.proofs.Common.{refl}
use Rattle.std.proofs.Common.{ap, sym, ◌∙◌, subst, arith}
use Rattle.std.specs.Prelude.{option_and_then}
use Rattle.std.specs.Option.{option_map}
use Rattle.std.specs.List.{slice_get}
use Rattle.std.proofs.lemmas.List.{take-append-drop}
use Rattle.sw_list.proofs.ListLemmas.{some_injective}
use Rattle.sw_types.specs.declared.isolation.CallKind.{CallKind}
use Rattle.sw_types.specs.declared.isolation.CallKind.TheVariants as kind
use Rattle.sw_types.specs.declared.isolation.Iso.TheVariants.{Own}
use Rattle.sw_types.specs.declared.shape.Shape.{Shape}
use Rattle.sw_types.specs.declared.ty.Ty.{Ty, out-Ty}
use Rattle.sw_types.specs.declared.ty.Ty.TheOpen as type
use Rattle.sw_types.specs.declared.ty.Ty.TheVariants.{Unit as Void, Task, Func, outs-Func}
use Rattle.sw_types.specs.declared.ty.Ty.TheVariants.{outs-Task}
use Rattle.sw_types.specs.Accepts.{unmarked_layer}
use Rattle.sw_graph.specs.declared.function.Function.{Function}
use Rattle.sw_graph.specs.declared.function.RegKind.{RegKind}
use Rattle.sw_graph.specs.declared.function.RegKind.TheVariants.{Plain, BoxOf}
use Rattle.sw_graph.specs.declared.graph.Graph.{Graph}
use Rattle.sw_graph.specs.declared.instr.Instr.TheVariants as instr
use Rattle.sw_graph.specs.declared.instr.Operand.{Operand}
use Rattle.sw_graph.specs.Kinds.{Goes, IsCaptured, value, form_of, taken, types_of, closure_of}
use Rattle.sw_graph.specs.Kinds.{Each, kinds_of, result_of, params, given, awaited}
use Rattle.sw_value.specs.declared.cell.HeapCell.{HeapCell}
use Rattle.sw_value.specs.declared.cell.HeapCell.TheVariants as cell
use Rattle.sw_value.specs.declared.effect.Effect.TheVariants as effect
use Rattle.sw_value.specs.declared.frame.Frame.{Frame}
use Rattle.sw_value.specs.declared.frame.TheConstants.{MAX_FRAMES}
use Rattle.sw_value.specs.declared.job.TheConstants.{MAX_JOBS}
use Rattle.sw_value.specs.declared.state.State.{State}
use Rattle.sw_value.specs.declared.state.TrapKind.TheVariants.{Frames, Jobs}
use Rattle.sw_value.specs.declared.value.Value.{Value}
use Rattle.sw_value.specs.declared.value.Value.TheVariants as value
use Rattle.sw_value.specs.Call.{called_frame, closure_frame}
use Rattle.sw_value.specs.Cell.{task_of}
use Rattle.sw_value.specs.Effect.{needs, instr_effect, new_of, cell_at, enter_of, spawn_of}
use Rattle.sw_value.specs.Frame.{first_frame}
use Rattle.sw_value.specs.Value.{values_at}
use Rattle.sw_machine_kind_facts.specs.Kinds.{HaveKinds, Referents, CellFits, ClosureFits, TaskFits}
use Rattle.sw_machine_kind_facts.specs.Operands.{HasOperand}
use Rattle.sw_machine_kind_facts.specs.Standing.{ResultGoes}
use Rattle.sw_graph.specs.Supplied.{TakesActor, GivesActor}
use Rattle.sw_machine_kind_facts.proofs.BeginLemmas.{IsBegun, call_begins, first_begins}
use Rattle.sw_machine_kind_facts.proofs.CellLemmas.{cell_of, makes, stands_new}
use Rattle.sw_machine_kind_facts.proofs.ComputeLemmas.{void_has}
use Rattle.sw_machine_kind_facts.proofs.KindLemmas.{goes_to, goes_captured, layers_accept, forms_captured}
use Rattle.sw_machine_kind_facts.proofs.KindLemmas.{captured-refl, sort_form}
use Rattle.sw_machine_kind_facts.proofs.OperandLemmas.{gathered, gathered_in, have_more}
use Rattle.sw_machine_kind_facts.proofs.PartLemmas.{goes_there, unformed}
use Rattle.sw_machine_kind_facts.proofs.TopLemmas.{TopFits, IsAt, kinds_at, operand_at, puts, goes_on}
use Rattle.sw_machine_kind_facts.proofs.TopLemmas.{SpawnFits, StandsAt}

captured_itself : (a b : Option RegKind) → IsCaptured a b → IsCaptured a b
captured_itself a b may = may

-- a function that there is
function_there : {A : Type 0} (f : Function → A) (o : Option Function) (x : A)
    → option_map f o ≡ Some x → (function : Function) × (o ≡ Some function) × (f function ≡ x)
function_there f None x e = cc
function_there f (Some function) x e = (function, refl, some_injective e)

-- types without their mark
func_layer : (l : type.Ty-F Ty) (sendable : Bool) (ps : List Ty) (result : Ty)
    → unmarked_layer l ≡ type.Func false ps result
    → (marked : Bool) × (l ≡ type.Func marked ps result)
func_layer (type.Func marked qs gives) sendable ps result e =
    let same : qs ≡ ps = cc in
    let also : gives ≡ result = cc in
    (marked, ap (λ q. type.Func marked q gives) same ∙ ap (λ g. type.Func marked ps g) also)
func_layer type.Int sendable ps result e = absurd (let c : ⊥ = cc in c)
func_layer type.Bool sendable ps result e = absurd (let c : ⊥ = cc in c)
func_layer type.Unit sendable ps result e = absurd (let c : ⊥ = cc in c)
func_layer (type.Named k) sendable ps result e = absurd (let c : ⊥ = cc in c)
func_layer (type.Task t) sendable ps result e = absurd (let c : ⊥ = cc in c)

task_layer : (l : type.Ty-F Ty) (result : Ty) → unmarked_layer l ≡ type.Task result
    → l ≡ type.Task result
task_layer (type.Func marked qs gives) result e = cc
task_layer type.Int result e = e
task_layer type.Bool result e = e
task_layer type.Unit result e = e
task_layer (type.Named k) result e = e
task_layer (type.Task t) result e = e

-- a place that a function type goes to
func_place : (a b : RegKind) (sendable : Bool) (ps : List Ty) (result : Ty)
    → a ≡ Plain (Func sendable ps result) → Goes (Some a) (Some b)
    → (marked : Bool) × (form_of (Some b) ≡ Some (type.Func marked ps result))
func_place (Plain a) (Plain b) sendable ps result is goes =
    let outer : out-Ty a ≡ type.Func sendable ps result =
    (let same : a ≡ Func sendable ps result = cc in ap out-Ty same ∙ outs-Func sendable ps result)
    in
    let found = func_layer (out-Ty b) sendable ps result
    (sym (layers_accept a b goes) ∙ ap unmarked_layer outer) in
    (found.0, ap Some found.1)
func_place (Plain a) (BoxOf b) sendable ps result is goes = absurd goes
func_place (BoxOf a) b sendable ps result is goes = absurd goes

task_place : (a b : RegKind) (result : Ty) → a ≡ Plain (Task result) → Goes (Some a) (Some b)
    → form_of (Some b) ≡ Some (type.Task result)
task_place (Plain a) (Plain b) result is goes =
    let outer : out-Ty a ≡ type.Task result =
    (let same : a ≡ Task result = cc in ap out-Ty same ∙ outs-Task result) in
    ap Some (task_layer (out-Ty b) result (sym (layers_accept a b goes) ∙ ap unmarked_layer outer))
task_place (Plain a) (BoxOf b) result is goes = absurd goes
task_place (BoxOf a) b result is goes = absurd goes

-- kinds that are types
types_are : (kinds : List RegKind) (types : List Ty) → types_of kinds ≡ Some types
    → kinds ≡ map Plain types
types_are [] types e = ap (map Plain) (some_injective e)
types_are (Plain ty ∷ kinds) types e = by (types_of kinds) (types_are kinds) e where
  by : (o : Option (List Ty)) → ((ts : List Ty) → o ≡ Some ts → kinds ≡ map Plain ts)
      → option_map (λ ts. ty ∷ ts) o ≡ Some types → Plain ty ∷ kinds ≡ map Plain types
  by None rest e = cc
  by (Some ts) rest e = ap (λ ks. Plain ty ∷ ks) (rest ts refl)
      ∙ ap (map Plain) (some_injective e)
types_are (BoxOf ty ∷ kinds) types e = cc

-- the closure of a function
record MakesClosure (graph : Graph) (regs : List RegKind) (number count r : ℕ)
    (captured : List RegKind) : Type 0 where
  function : Function
  is : slice_get graph.functions number ≡ Some function
  taken_first : captured ≡ take count (taken function)
  params : List Ty
  rest : drop count (taken function) ≡ map Plain params
  kind : RegKind
  at : slice_get regs r ≡ Some kind
  marked : Bool
  form : form_of (Some kind) ≡ Some (type.Func marked params function.result)

makes_closure : (graph : Graph) (regs : List RegKind) (number count r : ℕ) (captured : List RegKind)
    → option_map (λ function. take count (taken function)) (slice_get graph.functions number)
    ≡ Some captured
    → Goes (option_and_then (closure_of count) (slice_get graph.functions number))
    (slice_get regs r) → MakesClosure graph regs number count r captured
makes_closure graph regs number count r captured are goes =
    let found = function_there (λ function. take count (taken function))
    (slice_get graph.functions number) captured are in
    by found.0 found.1 found.2 (types_of (drop count (taken found.0))) refl where
      by : (function : Function) → slice_get graph.functions number ≡ Some function
          → take count (taken function) ≡ captured → (o : Option (List Ty))
          → types_of (drop count (taken function)) ≡ o
          → MakesClosure graph regs number count r captured
      by function is taken_first o types =
          pick o types (subst (λ x. Goes x (slice_get regs r))
          (ap (option_and_then (closure_of count)) is
          ∙ ap (option_map (λ ps. Plain (Func true ps function.result))) types) goes) where
            pick : (o : Option (List Ty)) → types_of (drop count (taken function)) ≡ o
                → Goes (option_map (λ ps. Plain (Func true ps function.result)) o)
                (slice_get regs r) → MakesClosure graph regs number count r captured
            pick None types goes = absurd goes
            pick (Some ps) types goes =
                let there = goes_there (Some (Plain (Func true ps function.result)))
                (slice_get regs r) goes in
                let form = func_place (Plain (Func true ps function.result)) there.1 true ps
                function.result refl
                (subst (Goes (Some (Plain (Func true ps function.result)))) there.3 goes) in
                record {
                  function = function;
                  is = is;
                  taken_first = sym taken_first;
                  params = ps;
                  rest = types_are (drop count (taken function)) ps types;
                  kind = there.1;
                  at = there.3;
                  marked = form.0;
                  form = form.1;
                }

-- the kinds of the registers of operands
own_kinds : (shapes : List Shape) (cells kinds : List RegKind) (regs : List (Option Value))
    (ss : List Operand)
    → ((k : ℕ) (o : Operand) → slice_get ss k ≡ Some o → HasOperand shapes cells kinds regs o.reg)
    → (own : List RegKind) × (kinds_of kinds ss ≡ map Some own)
own_kinds shapes cells kinds regs [] has = ([], refl)
own_kinds shapes cells kinds regs (o ∷ ss) has =
    let first = has 0 o refl in
    let rest = own_kinds shapes cells kinds regs ss (λ k. has (suc k)) in (
      first.kind ∷ rest.0,
      ap (λ kind. kind ∷ kinds_of kinds ss) first.is ∙ ap (λ l. Some first.kind ∷ l) rest.1,
    )

each_captured : (kinds : List RegKind) → Each IsCaptured (map Some kinds) kinds
each_captured [] = tt
each_captured (kind ∷ kinds) = (captured-refl kind, each_captured kinds)

-- The values of operands have the kinds of the operands' registers.
have_own : (shapes : List Shape) (cells kinds : List RegKind) (regs : List (Option Value))
    (ss : List Operand)
    → ((k : ℕ) (o : Operand) → slice_get ss k ≡ Some o → HasOperand shapes cells kinds regs o.reg)
    → (own : List RegKind) → kinds_of kinds ss ≡ map Some own → (values : List Value)
    → values_at regs ss ≡ Some values → HaveKinds shapes cells values own
have_own shapes cells kinds regs ss has own are values found =
    let gathers = gathered shapes cells kinds regs IsCaptured captured_itself ss own has
    (subst (λ l. Each IsCaptured l own) (sym are) (each_captured own)) in
    subst (λ vs. HaveKinds shapes cells vs own) (some_injective (sym gathers.are ∙ found))
    gathers.have

pub new_closure_fits : (graph : Graph) (world : Referents) (state : State) (frame : Frame)
    (depth at r f : ℕ) (cs : List Operand)
    → (x : IsAt graph world state frame (instr.NewClosure at r f cs))
    → TopFits graph world state x.run.function frame
    (instr_effect graph state depth frame (frame.point + 1) (instr.NewClosure at r f cs))
unfolding TopFits
new_closure_fits graph world state frame depth at r f cs x =
    let regs = x.run.function.regs in
    let kinds = kinds_at graph world state frame (instr.NewClosure at r f cs) x in
    let operands = operand_at graph world state frame (instr.NewClosure at r f cs) x in
    let all = gathered_in graph.shapes world.cells regs frame.regs IsCaptured captured_itself cs
    (option_map (λ function. take (length cs) (taken function)) (slice_get graph.functions f))
    operands kinds.0 in
    let closure = makes_closure graph regs f (length cs) r all.kinds all.are kinds.1 in
    let own = own_kinds graph.shapes world.cells regs frame.regs cs operands in
    subst (λ o. TopFits graph world state x.run.function frame
    (needs o (λ captures. new_of state (frame.point + 1) r (cell.Closure f captures))))
    (sym all.gathers.are)
    (makes graph world state frame (instr.NewClosure at r f cs) x refl r refl
    (cell.Closure f all.gathers.values) closure.kind closure.at
    (sort_form graph.shapes closure.kind _ closure.form)
    (record {
      function = closure.function;
      is = closure.is;
      captured = all.kinds;
      params = closure.params;
      takes = sym (take-append-drop (length cs) (taken closure.function))
          ∙ ap (λ l. l ++ drop (length cs) (taken closure.function)) (sym closure.taken_first)
          ∙ ap (λ l. all.kinds ++ l) closure.rest;
      have = all.gathers.have;
      sendable = closure.marked;
      form = closure.form;
      made = record {
        body = x.run.function;
        at = at;
        register = r;
        operands = cs;
        maker = record {
          number = frame.function;
          is = x.run.is;
          point = frame.point;
          here = x.here;
        };
        given = closure.at;
        kinds = own.0;
        are = own.1;
        have = have_own graph.shapes world.cells regs frame.regs cs operands own.0 own.1
            all.gathers.values all.gathers.are;
      };
    }))

-- a frame is put on top, or the machine halts
entered : (graph : Graph) (world : Referents) (state : State) (function : Function) (frame : Frame)
    (depth next at r number : ℕ) (callee : Function) (entering : Frame)
    → IsBegun graph world.cells number r callee entering
    → Goes (value callee.result) (slice_get function.regs r)
    → StandsAt graph world.cells function (Some r) next frame.regs
    → TopFits graph world state function frame (enter_of depth next at entering)
unfolding TopFits
entered graph world state function frame depth next at r number callee entering begun goes stands =
    by (leb MAX_FRAMES depth) where
      by : (b : Bool) → TopFits graph world state function frame
          (cond b (effect.Halt Frames at) (effect.Enter entering next))
      by true = tt
      by false = record {
        fits = begun.fits None;
        links = subst (λ f. ResultGoes function entering.result f.result) (sym (begun.same None))
            (subst (λ q. ResultGoes function q callee.result) (sym begun.result_is) (inr goes));
        stands = subst (λ q. StandsAt graph world.cells function (Some q) next frame.regs)
            (sym begun.result_is) stands;
      }

-- what is said of the actor of a strong call
strong_gives : (graph : Graph) (body : Function) (at r f : ℕ) (call : CallKind)
    (ss : List Operand) → GivesActor graph body (instr.Call at r call f ss) → (callee : Function)
    → slice_get graph.functions f ≡ Some callee → call ≡ kind.Strong → callee.iso ≡ Own
    → TakesActor graph.shapes callee
strong_gives graph body at r f kind.Strong ss gives callee is strong own = gives callee is own
strong_gives graph body at r f kind.Plain ss gives callee is strong own =
    absurd (let c : ⊥ = cc in c)
strong_gives graph body at r f kind.Same ss gives callee is strong own =
    absurd (let c : ⊥ = cc in c)
strong_gives graph body at r f kind.Weak ss gives callee is strong own =
    absurd (let c : ⊥ = cc in c)
strong_gives graph body at r f kind.Make ss gives callee is strong own =
    absurd (let c : ⊥ = cc in c)

pub call_fits : (graph : Graph) (world : Referents) (state : State) (frame : Frame) (depth at r : ℕ)
    (call : CallKind) (f : ℕ) (ss : List Operand)
    → (x : IsAt graph world state frame (instr.Call at r call f ss))
    → TopFits graph world state x.run.function frame
    (instr_effect graph state depth frame (frame.point + 1) (instr.Call at r call f ss))
call_fits graph world state frame depth at r call f ss x =
    let run = x.run in
    let regs = run.function.regs in
    let kinds = kinds_at graph world state frame (instr.Call at r call f ss) x in
    let all = gathered_in graph.shapes world.cells regs frame.regs Goes goes_captured ss
    (option_map taken (slice_get graph.functions f))
    (operand_at graph world state frame (instr.Call at r call f ss) x) kinds.0 in
    let callee = function_there taken (slice_get graph.functions f) all.kinds all.are in
    let gives = run.supplied.begins.actors frame.function run.function run.is frame.point
    (instr.Call at r call f ss) x.here in
    let begins = call_begins graph world.cells frame f call r callee.0 callee.1 all.gathers.values
    (subst (HaveKinds graph.shapes world.cells all.gathers.values) (sym callee.2) all.gathers.have)
    (strong_gives graph run.function at r f call ss gives callee.0 callee.1) in
    subst (λ o. TopFits graph world state run.function frame
    (needs o (λ vs. needs (called_frame graph frame f call r vs)
    (enter_of depth (frame.point + 1) at)))) (sym all.gathers.are)
    (subst (λ o. TopFits graph world state run.function frame
    (needs o (enter_of depth (frame.point + 1) at))) (sym begins.is)
    (entered graph world state run.function frame depth (frame.point + 1) at r f callee.0
    begins.frame
    begins.begins (subst (λ o. Goes (result_of o) (slice_get regs r)) callee.1 kinds.1)
    (goes_on graph world state frame (instr.Call at r call f ss) x refl (Some r) refl)))

-- A closure.
record IsClosure (graph : Graph) (world : Referents) (c : HeapCell) (kind : RegKind) : Type 0 where
  number : ℕ
  captures : List Value
  is : c ≡ cell.Closure number captures
  fits : ClosureFits graph world.cells number captures kind

closure_is : (graph : Graph) (world : Referents) (c : HeapCell) (kind : RegKind) (sendable : Bool)
    (ps : List Ty) (result : Ty) → CellFits graph world c kind
    → form_of (Some kind) ≡ Some (type.Func sendable ps result) → IsClosure graph world c kind
closure_is graph world (cell.Closure f vs) kind sendable ps result fits form =
    record { number = f; captures = vs; is = refl; fits = fits }
closure_is graph world (cell.Object k vs) kind sendable ps result fits form =
    let wrong = some_injective (sym form ∙ fits.0) in absurd (let c : ⊥ = cc in c)
closure_is graph world (cell.Actor k vs) kind sendable ps result fits form =
    let wrong = some_injective (sym form ∙ fits.0) in absurd (let c : ⊥ = cc in c)
closure_is graph world (cell.BoxOf v) kind sendable ps result fits form =
    absurd (unformed kind fits.inner _ form fits.is)
closure_is graph world (cell.TaskOf j) kind sendable ps result fits form =
    let wrong = some_injective (sym form ∙ fits.form) in absurd (let c : ⊥ = cc in c)

-- A task.
record IsTask (graph : Graph) (world : Referents) (c : HeapCell) (kind : RegKind) : Type 0 where
  job : ℕ
  is : c ≡ cell.TaskOf job
  fits : TaskFits graph world.results job kind

task_is : (graph : Graph) (world : Referents) (c : HeapCell) (kind : RegKind) (result : Ty)
    → CellFits graph world c kind → form_of (Some kind) ≡ Some (type.Task result)
    → IsTask graph world c kind
task_is graph world (cell.TaskOf j) kind result fits form =
    record { job = j; is = refl; fits = fits }
task_is graph world (cell.Object k vs) kind result fits form =
    let wrong = some_injective (sym form ∙ fits.0) in absurd (let c : ⊥ = cc in c)
task_is graph world (cell.Actor k vs) kind result fits form =
    let wrong = some_injective (sym form ∙ fits.0) in absurd (let c : ⊥ = cc in c)
task_is graph world (cell.BoxOf v) kind result fits form =
    absurd (unformed kind fits.inner _ form fits.is)
task_is graph world (cell.Closure f vs) kind result fits form =
    let wrong = some_injective (sym form ∙ fits.form) in absurd (let c : ⊥ = cc in c)

-- the form of a function's type, by what it takes
record TakesForm (o : Option (type.Ty-F Ty)) (kinds : List RegKind) : Type 0 where
  sendable : Bool
  types : List Ty
  result : Ty
  is : o ≡ Some (type.Func sendable types result)
  are : kinds ≡ map Plain types

takes_form : (o : Option (type.Ty-F Ty)) (kinds : List RegKind) → params o ≡ Some kinds
    → TakesForm o kinds
takes_form (Some (type.Func sendable types result)) kinds e = record {
  sendable = sendable;
  types = types;
  result = result;
  is = refl;
  are = sym (some_injective e);
}
takes_form (Some type.Int) kinds e = absurd (let c : ⊥ = cc in c)
takes_form (Some type.Bool) kinds e = absurd (let c : ⊥ = cc in c)
takes_form (Some type.Unit) kinds e = absurd (let c : ⊥ = cc in c)
takes_form (Some (type.Named k)) kinds e = absurd (let c : ⊥ = cc in c)
takes_form (Some (type.Task t)) kinds e = absurd (let c : ⊥ = cc in c)
takes_form None kinds e = absurd (let c : ⊥ = cc in c)

have_append : (shapes : List Shape) (cells : List RegKind) (vs ws : List Value)
    (ks ls : List RegKind) → HaveKinds shapes cells vs ks → HaveKinds shapes cells ws ls
    → HaveKinds shapes cells (vs ++ ws) (ks ++ ls)
have_append shapes cells [] ws [] ls first second = second
have_append shapes cells [] ws (k ∷ ks) ls first second =
    let count = first.count in absurd (omega (arith, count))
have_append shapes cells (v ∷ vs) ws [] ls first second =
    let count = first.count in absurd (omega (arith, count))
have_append shapes cells (v ∷ vs) ws (k ∷ ks) ls first second =
    let count = first.count in
    have_more shapes cells v (vs ++ ws) k (ks ++ ls) (first.each 0 v k refl refl)
    (have_append shapes cells vs ws ks ls
    (record {
      count = omega (arith, count);
      each = λ i w j here at. first.each (suc i) w j here at;
    })
    second)

same_results : (s t : Bool) (ps qs : List Ty) (r q : Ty)
    → type.Func s ps r ≡ type.Func t qs q → (ps ≡ qs) × (r ≡ q)
same_results s t ps qs r q e = (cc, cc)

plain_not_strong : kind.Plain ≡ kind.Strong → ⊥
plain_not_strong is = cc

pub call_closure_fits : (graph : Graph) (world : Referents) (state : State) (frame : Frame)
    (depth at r : ℕ) (c : Operand) (ss : List Operand)
    → (x : IsAt graph world state frame (instr.CallClosure at r c ss))
    → TopFits graph world state x.run.function frame
    (instr_effect graph state depth frame (frame.point + 1) (instr.CallClosure at r c ss))
call_closure_fits graph world state frame depth at r c ss x =
    let run = x.run in
    let regs = run.function.regs in
    let kinds = kinds_at graph world state frame (instr.CallClosure at r c ss) x in
    let owner = operand_at graph world state frame (instr.CallClosure at r c ss) x 0 c refl in
    let all = gathered_in graph.shapes world.cells regs frame.regs Goes goes_captured ss
    (params (form_of (slice_get regs c.reg)))
    (λ k o is. operand_at graph world state frame (instr.CallClosure at r c ss) x (suc k) o is)
    kinds.0 in
    let takes = takes_form (form_of (slice_get regs c.reg)) all.kinds all.are in
    let form = ap form_of (sym owner.is) ∙ takes.is in
    let found = cell_of graph world state frame c run owner.value owner.kind owner.has owner.fits
    (sort_form graph.shapes owner.kind _ form) in
    let forms = forms_captured found.from owner.kind (type.Func takes.sendable takes.types
    takes.result)
    found.goes form in
    let own = func_layer forms.0 takes.sendable takes.types takes.result forms.2 in
    let own_form = forms.1 ∙ ap Some own.1 in
    let closure = closure_is graph world found.cell found.from own.0 takes.types takes.result
    found.fits own_form in
    let fits = closure.fits in
    let same = same_results fits.sendable own.0 fits.params takes.types fits.function.result
    takes.result (some_injective (sym fits.form ∙ own_form)) in
    let values = closure.captures ++ all.gathers.values in
    let given_kinds : fits.captured ++ all.kinds ≡ taken fits.function =
    ap (λ l. fits.captured ++ l) (takes.are ∙ ap (map Plain) (sym same.0)) ∙ sym fits.takes in
    let begins = call_begins graph world.cells frame closure.number kind.Plain r fits.function
    fits.is
    values (subst (HaveKinds graph.shapes world.cells values) given_kinds
    (have_append graph.shapes world.cells closure.captures all.gathers.values fits.captured
    all.kinds
    fits.have all.gathers.have)) (λ strong. absurd (plain_not_strong strong)) in
    let frame_is : option_and_then (closure_frame graph frame r all.gathers.values)
    (cell_at state frame c) ≡ Some begins.frame =
    ap (option_and_then (closure_frame graph frame r all.gathers.values))
    (found.at ∙ ap Some closure.is) ∙ begins.is in
    subst (λ o. TopFits graph world state run.function frame
    (needs o (λ vs. needs (option_and_then (closure_frame graph frame r vs) (cell_at state frame c))
    (enter_of depth (frame.point + 1) at)))) (sym all.gathers.are)
    (subst (λ o. TopFits graph world state run.function frame
    (needs o (enter_of depth (frame.point + 1) at))) (sym frame_is)
    (entered graph world state run.function frame depth (frame.point + 1) at r closure.number
    fits.function begins.frame begins.begins
    (subst (λ t. Goes (value t) (slice_get regs r)) (sym same.1)
    (subst (λ o. Goes (given o) (slice_get regs r)) takes.is kinds.1))
    (goes_on graph world state frame (instr.CallClosure at r c ss) x refl (Some r) refl)))

-- a task is made, or the machine halts
spawned : (graph : Graph) (world : Referents) (state : State) (function : Function) (frame : Frame)
    (next at r : ℕ) (first : Frame)
    → SpawnFits graph world state function frame r first (length state.jobs) (length state.cells)
    next
    → TopFits graph world state function frame (spawn_of state next at r first)
unfolding TopFits
spawned graph world state function frame next at r first fits =
    by (leb MAX_JOBS (length state.jobs)) where
      by : (b : Bool) → TopFits graph world state function frame
          (cond b (effect.Halt Jobs at)
          (effect.Spawn r first (length state.jobs) (length state.cells) next))
      by true = tt
      by false = fits

pub new_task_fits : (graph : Graph) (world : Referents) (state : State) (frame : Frame)
    (depth at r f : ℕ) (cs : List Operand)
    → (x : IsAt graph world state frame (instr.NewTask at r f cs))
    → TopFits graph world state x.run.function frame
    (instr_effect graph state depth frame (frame.point + 1) (instr.NewTask at r f cs))
unfolding TopFits
new_task_fits graph world state frame depth at r f cs x =
    let run = x.run in
    let regs = run.function.regs in
    let kinds = kinds_at graph world state frame (instr.NewTask at r f cs) x in
    let all = gathered_in graph.shapes world.cells regs frame.regs IsCaptured captured_itself cs
    (option_map taken (slice_get graph.functions f))
    (operand_at graph world state frame (instr.NewTask at r f cs) x) kinds.0 in
    let callee = function_there taken (slice_get graph.functions f) all.kinds all.are in
    let gives = run.supplied.begins.actors frame.function run.function run.is frame.point
    (instr.NewTask at r f cs) x.here in
    let begins = first_begins graph world.cells f callee.0 callee.1 all.gathers.values
    (subst (HaveKinds graph.shapes world.cells all.gathers.values) (sym callee.2) all.gathers.have)
    (gives callee.0 callee.1) in
    let goes = subst (λ o. Goes (option_map (λ (function : Function). Plain (Task function.result))
    o)
    (slice_get regs r)) callee.1 kinds.1 in
    let there = goes_there (Some (Plain (Task callee.0.result))) (slice_get regs r) goes in
    let form = task_place (Plain (Task callee.0.result)) there.1 callee.0.result refl
    (subst (Goes (Some (Plain (Task callee.0.result)))) there.3 goes) in
    let result_form = subst (λ (g : Function). form_of (Some there.1) ≡ Some (type.Task g.result))
    (sym (begins.begins.same None)) form in
    let stands = stands_new graph world state frame (instr.NewTask at r f cs) x refl r refl there.1
    there.3 (sort_form graph.shapes there.1 _ form) in
    subst (λ o. TopFits graph world state run.function frame
    (needs o (λ captures. needs (first_frame graph f captures)
    (spawn_of state (frame.point + 1) at r)))) (sym all.gathers.are)
    (subst (λ o. TopFits graph world state run.function frame
    (needs o (spawn_of state (frame.point + 1) at r))) (sym begins.is)
    (spawned graph world state run.function frame (frame.point + 1) at r begins.frame
    (record {
      job_is = refl;
      cell_is = refl;
      fits = begins.begins.fits None;
      kind = there.1;
      form = result_form;
      made = record {
        body = run.function;
        at = at;
        register = r;
        number = f;
        operands = cs;
        maker = record {
          number = frame.function;
          is = run.is;
          point = frame.point;
          here = x.here;
        };
        function = callee.0;
        is = callee.1;
        gives = ap (λ (g : Function). g.result) (sym (begins.begins.same None));
      };
      stands = stands;
    })))

task_form : (o : Option (type.Ty-F Ty)) (kind : RegKind) → awaited o ≡ Some kind
    → (result : Ty) × (o ≡ Some (type.Task result))
task_form (Some (type.Task t)) kind e = (t, refl)
task_form (Some (type.Func sendable types result)) kind e = absurd (let c : ⊥ = cc in c)
task_form (Some type.Int) kind e = absurd (let c : ⊥ = cc in c)
task_form (Some type.Bool) kind e = absurd (let c : ⊥ = cc in c)
task_form (Some type.Unit) kind e = absurd (let c : ⊥ = cc in c)
task_form (Some (type.Named k)) kind e = absurd (let c : ⊥ = cc in c)
task_form None kind e = absurd (let c : ⊥ = cc in c)

same_tasks : (a b : Ty) → type.Task a ≡ type.Task b → a ≡ b
same_tasks a b e = cc

pub await_fits : (graph : Graph) (world : Referents) (state : State) (frame : Frame)
    (depth at r : ℕ)
    (t : Operand) → (x : IsAt graph world state frame (instr.Await at r t))
    → TopFits graph world state x.run.function frame
    (instr_effect graph state depth frame (frame.point + 1) (instr.Await at r t))
unfolding TopFits
await_fits graph world state frame depth at r t x =
    let run = x.run in
    let regs = run.function.regs in
    let kinds = kinds_at graph world state frame (instr.Await at r t) x in
    let owner = operand_at graph world state frame (instr.Await at r t) x 0 t refl in
    let there = goes_there (awaited (form_of (slice_get regs t.reg))) (slice_get regs r) kinds in
    let gives = task_form (form_of (slice_get regs t.reg)) there.0 there.2 in
    let form = ap form_of (sym owner.is) ∙ gives.1 in
    let found = cell_of graph world state frame t run owner.value owner.kind owner.has owner.fits
    (sort_form graph.shapes owner.kind _ form) in
    let forms = forms_captured found.from owner.kind (type.Task gives.0) found.goes form in
    let own_form = forms.1 ∙ ap Some (task_layer forms.0 gives.0 forms.2) in
    let task = task_is graph world found.cell found.from gives.0 found.fits own_form in
    let same = same_tasks task.fits.result gives.0 (some_injective (sym task.fits.form ∙ own_form))
    in
    subst (λ o. TopFits graph world state run.function frame
    (needs o (λ job. effect.Wait job r (frame.point + 1))))
    (sym (ap (option_and_then task_of) (found.at ∙ ap Some task.is)))
    (record {
      result = task.fits.result;
      is = task.fits.is;
      goes = subst (λ ty. Goes (value ty) (slice_get regs r)) (sym same)
          (subst (λ o. Goes (awaited o) (slice_get regs r)) gives.1 kinds);
      stands = goes_on graph world state frame (instr.Await at r t) x refl (Some r) refl;
    })

pub yield_fits : (graph : Graph) (world : Referents) (state : State) (frame : Frame)
    (depth at r : ℕ)
    → (x : IsAt graph world state frame (instr.Yield at r))
    → TopFits graph world state x.run.function frame
    (instr_effect graph state depth frame (frame.point + 1) (instr.Yield at r))
unfolding TopFits
yield_fits graph world state frame depth at r x =
    puts graph world state frame (instr.Yield at r) x refl r refl value.Unit
    (goes_to graph.shapes world.cells value.Unit (Plain Void) (value Void)
    (slice_get x.run.function.regs r) (void_has graph.shapes world.cells) refl
    (goes_captured (value Void) (slice_get x.run.function.regs r)
    (kinds_at graph world state frame (instr.Yield at r) x)))
