-- A placed graph gives each function that runs on an actor that actor.
use Rattle.std.proofs.Common.{◌≡◌, ℕ, Bool, true, false, ◌&&◌, not, cond, Some}
use Rattle.std.proofs.Common.{List, refl, ap, ◌∙◌}
use Rattle.std.specs.List.{slice_get}
use Rattle.sw_types.specs.declared.isolation.CallKind.{CallKind}
use Rattle.sw_types.specs.declared.isolation.CallKind.TheVariants as kind
use Rattle.sw_types.specs.declared.isolation.Iso.TheVariants.{Own}
use Rattle.sw_graph.specs.declared.function.Function.{Function}
use Rattle.sw_graph.specs.declared.graph.Graph.{Graph}
use Rattle.sw_graph.specs.declared.instr.Instr.{Instr}
use Rattle.sw_graph.specs.declared.instr.Instr.TheVariants as instr
use Rattle.sw_graph.specs.declared.instr.Operand.{Operand}
use Rattle.sw_graph.specs.Bodies.{is_own, is_actor_initialiser, has_self}
use Rattle.sw_types.specs.CallKinds.{kind_by}
use Rattle.sw_graph.specs.Placed.{EachFunction, FunctionAt, HasCallKind, IsPlaced}
use Rattle.sw_graph.specs.Points.{Middle, point_in}
use Rattle.sw_graph.specs.Stores.{StoresFirst}
use Rattle.sw_graph.specs.Supplied.{IsSupplied, TakesActor, GivesActor, ReturnsResult}

-- what is isolated to `self` and no initialiser of an actor takes it
takes_actor : (graph : Graph) → IsPlaced graph → (n : ℕ) (function : Function)
    → slice_get graph.functions n ≡ Some function → is_actor_initialiser function ≡ false
    → function.iso ≡ Own → TakesActor graph.shapes function
takes_actor graph placed n function is plain own =
    let self : has_self function ≡ true =
    ap (λ i. is_own i && not (is_actor_initialiser function)) own ∙ ap not plain in
    let has = placed.selves n function is self in
    record { takes = has.taken; kind = has.kind }

-- the callee of a strong call is no initialiser of an actor
strong_plain : (body callee : Function) (ss : List Operand)
    → HasCallKind body callee ss kind.Strong → is_actor_initialiser callee ≡ false
strong_plain body callee ss has = by (is_actor_initialiser callee) refl where
  by : (b : Bool) → is_actor_initialiser callee ≡ b → is_actor_initialiser callee ≡ false
  by false plain = plain
  by true made =
      let wrong : kind.Strong ≡ kind.Make = has.given
      ∙ ap (λ b. cond b kind.Make
      (kind_by callee.iso callee.is_async has.on_self body.iso)) made in
      absurd (let c : ⊥ = cc in c)

call_gives : (graph : Graph) → IsPlaced graph → (n p : ℕ) (body : Function)
    → slice_get graph.functions n ≡ Some body → (at r : ℕ) (call : CallKind) (f : ℕ)
    (ss : List Operand) → point_in body p ≡ Some (Middle (instr.Call at r call f ss))
    → GivesActor graph body (instr.Call at r call f ss)
call_gives graph placed n p body is at r kind.Strong f ss here = λ function found own.
    takes_actor graph placed f function found (strong_plain body function ss
    (placed.calls n body is p (instr.Call at r kind.Strong f ss) here function found)) own
call_gives graph placed n p body is at r kind.Plain f ss here = tt
call_gives graph placed n p body is at r kind.Same f ss here = tt
call_gives graph placed n p body is at r kind.Weak f ss here = tt
call_gives graph placed n p body is at r kind.Make f ss here = tt

gives_actor : (graph : Graph) → IsPlaced graph → (n p : ℕ) (body : Function) (i : Instr)
    → slice_get graph.functions n ≡ Some body → point_in body p ≡ Some (Middle i)
    → GivesActor graph body i
gives_actor graph placed n p body (instr.Call at r call f ss) is here =
    call_gives graph placed n p body is at r call f ss here
gives_actor graph placed n p body (instr.NewTask at r f cs) is here = λ function found own.
    takes_actor graph placed f function found
    (placed.apart n body is p (instr.NewTask at r f cs) here function found).1.actor own
gives_actor graph placed n p body _ is here = tt

pub placed_supplied : (graph : Graph) → IsPlaced graph → EachFunction graph ReturnsResult
    → ((g f : ℕ) → slice_get graph.starts g ≡ Some f → FunctionAt graph f (StoresFirst g))
    → IsSupplied graph
placed_supplied graph placed returns values = record {
  begins = record {
    actors = λ n body is p i here. gives_actor graph placed n p body i is here;
    entry = placed.entry;
    firsts = placed.firsts;
  };
  returns = returns;
  globals = record { alone = placed.alone; values = values };
}
