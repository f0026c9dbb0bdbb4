-- The points at which a cell is made.
use Rattle.std.proofs.Common.{◌≡◌, ◌+◌, ℕ, Bool, true, false, cond, Option, Some, None, List}
use Rattle.std.proofs.Common.{length, refl, sym, ap, ◌∙◌}
use Rattle.std.specs.Prelude.{Result, Ok, Err}
use Rattle.sw_graph.specs.declared.graph.Graph.{Graph}
use Rattle.sw_graph.specs.declared.instr.Instr.TheVariants as instr
use Rattle.sw_graph.specs.declared.instr.Last.TheVariants as last
use Rattle.sw_graph.specs.declared.instr.Operand.{Operand}
use Rattle.sw_graph.specs.Points.{Point, Middle, End}
use Rattle.sw_value.specs.declared.cell.HeapCell.TheVariants.{Object, Actor, BoxOf, Closure}
use Rattle.sw_value.specs.declared.effect.Effect.{Effect}
use Rattle.sw_value.specs.declared.effect.Effect.TheVariants.{New}
use Rattle.sw_value.specs.declared.frame.Frame.{Frame}
use Rattle.sw_value.specs.declared.state.State.{State}
use Rattle.sw_value.specs.declared.state.TrapKind.{TrapKind}
use Rattle.sw_value.specs.declared.value.Value.{Value}
use Rattle.sw_value.specs.Effect.{computed_of, goto_of, needs, point_effect}
use Rattle.sw_value.specs.Value.{operand_value, values_at}
use Rattle.sw_secure_facts.specs.Executing.{makes_cell}

-- The point makes a cell of values that operands have: a box, an object, an actor or a closure.
pub data MakesAt (state : State) (f : Frame) (point : Point) (e : Effect) : Type 0 where
  box : (at dst : ℕ) (src : Operand) (v : Value) → point ≡ Middle (instr.NewBox at dst src)
      → operand_value f.regs src ≡ Some v
      → e ≡ New dst (BoxOf v) (length state.cells) (f.point + 1) → MakesAt state f point e
  object : (at dst k : ℕ) (args : List Operand) (parts : List Value)
      → point ≡ Middle (instr.NewObject at dst k args) → values_at f.regs args ≡ Some parts
      → e ≡ New dst (Object k parts) (length state.cells) (f.point + 1) → MakesAt state f point e
  actor : (at dst k : ℕ) (args : List Operand) (parts : List Value)
      → point ≡ Middle (instr.NewActor at dst k args) → values_at f.regs args ≡ Some parts
      → e ≡ New dst (Actor k parts) (length state.cells) (f.point + 1) → MakesAt state f point e
  closure : (at dst number : ℕ) (captures : List Operand) (values : List Value)
      → point ≡ Middle (instr.NewClosure at dst number captures)
      → values_at f.regs captures ≡ Some values
      → e ≡ New dst (Closure number values) (length state.cells) (f.point + 1)
      → MakesAt state f point e

-- what an instruction needs to make a cell is there
needed : {X : Type 0} (o : Option X) (k : X → Effect) (e : Effect) → needs o k ≡ e
    → makes_cell e ≡ true → (z : X) × (o ≡ Some z) × (k z ≡ e)
needed None k e is makes =
    let clash : false ≡ true = ap makes_cell is ∙ makes in absurd (let wrong : ⊥ = cc in wrong)
needed (Some z) k e is makes = (z, refl, is)

-- ---- effects that make none
none_of : {X : Type 0} (o : Option X) (k : X → Effect) → ((z : X) → makes_cell (k z) ≡ false)
    → makes_cell (needs o k) ≡ false
none_of None k none = refl
none_of (Some z) k none = none z

none_if : (b : Bool) (a c : Effect) → makes_cell a ≡ false → makes_cell c ≡ false
    → makes_cell (cond b a c) ≡ false
none_if true a c first second = first
none_if false a c first second = second

computed : (next at r : ℕ) (result : Result Value TrapKind)
    → makes_cell (computed_of next at r result) ≡ false
computed next at r (Ok v) = refl
computed next at r (Err kind) = refl

goes : (graph : Graph) (f : Frame) (block : ℕ) → makes_cell (goto_of graph f block) ≡ false
goes graph f block = search none_of

-- whether the point makes a cell
abbrev makes_at : Point → Bool
makes_at (Middle (instr.NewObject at dst k args)) = true
makes_at (Middle (instr.NewBox at dst src)) = true
makes_at (Middle (instr.NewActor at dst k args)) = true
makes_at (Middle (instr.NewClosure at dst number captures)) = true
makes_at _ = false

makes_none : (graph : Graph) (state : State) (depth : ℕ) (f : Frame) (point : Point)
    → makes_at point ≡ false → makes_cell (point_effect graph state depth f point) ≡ false
makes_none graph state depth f (Middle (instr.Const at dst literal)) is = refl
makes_none graph state depth f (Middle (instr.Un at dst op src)) is =
    search (none_of, computed)
makes_none graph state depth f (Middle (instr.Bin at dst op left right)) is =
    search (none_of, computed)
makes_none graph state depth f (Middle (instr.Print at dst args)) is = search none_of
makes_none graph state depth f (Middle (instr.Copy at dst src)) is = search none_of
makes_none graph state depth f (Middle (instr.Field at dst src part)) is = search none_of
makes_none graph state depth f (Middle (instr.Payload at dst src index)) is =
    search none_of
makes_none graph state depth f (Middle (instr.SetField at target part src)) is =
    search none_of
makes_none graph state depth f (Middle (instr.Make at dst shape tag args)) is =
    search none_of
makes_none graph state depth f (Middle (instr.NewObject at dst k args)) is = cc
makes_none graph state depth f (Middle (instr.NewBox at dst src)) is = cc
makes_none graph state depth f (Middle (instr.NewActor at dst k args)) is = cc
makes_none graph state depth f (Middle (instr.LoadBox at dst cell)) is = search none_of
makes_none graph state depth f (Middle (instr.StoreBox at cell src)) is =
    search none_of
makes_none graph state depth f (Middle (instr.LoadProp at dst cell part)) is =
    search none_of
makes_none graph state depth f (Middle (instr.StoreProp at cell part src)) is =
    search none_of
makes_none graph state depth f (Middle (instr.LoadGlobal at dst global)) is =
    search none_of
makes_none graph state depth f (Middle (instr.StoreGlobal at global src)) is =
    search none_of
makes_none graph state depth f (Middle (instr.NewClosure at dst number captures)) is = cc
makes_none graph state depth f (Middle (instr.Call at dst kind function args)) is =
    search (none_of, none_if)
makes_none graph state depth f (Middle (instr.CallClosure at dst called args)) is =
    search (none_of, none_if)
makes_none graph state depth f (Middle (instr.NewTask at dst function captures)) is =
    search (none_of, none_if)
makes_none graph state depth f (Middle (instr.Await at dst task)) is = search none_of
makes_none graph state depth f (Middle (instr.Yield at dst)) is = refl
makes_none graph state depth f (End (last.Jump to)) is = goes graph f to
makes_none graph state depth f (End (last.Branch condition holds fails)) is =
    search (none_of, goes)
makes_none graph state depth f (End (last.Switch subject to)) is =
    search (none_of, goes)
makes_none graph state depth f (End (last.Return operand)) is = search none_of

makers : (graph : Graph) (state : State) (depth : ℕ) (f : Frame) (point : Point) (e : Effect)
    → makes_at point ≡ true → point_effect graph state depth f point ≡ e → makes_cell e ≡ true
    → MakesAt state f point e
makers graph state depth f (Middle (instr.NewBox at dst src)) e is gives makes =
    let v = needed _ _ e gives makes in box at dst src v.0 refl v.1 (sym v.2)
makers graph state depth f (Middle (instr.NewObject at dst k args)) e is gives makes =
    let vs = needed _ _ e gives makes in object at dst k args vs.0 refl vs.1 (sym vs.2)
makers graph state depth f (Middle (instr.NewActor at dst k args)) e is gives makes =
    let vs = needed _ _ e gives makes in actor at dst k args vs.0 refl vs.1 (sym vs.2)
makers graph state depth f (Middle (instr.NewClosure at dst number captures)) e is gives makes =
    let vs = needed _ _ e gives makes in closure at dst number captures vs.0 refl vs.1 (sym vs.2)
makers graph state depth f _ e is gives makes = absurd (let wrong : ⊥ = cc in wrong)

pub made_at : (graph : Graph) (state : State) (depth : ℕ) (f : Frame) (point : Point) (e : Effect)
    → point_effect graph state depth f point ≡ e → makes_cell e ≡ true → MakesAt state f point e
made_at graph state depth f point e gives makes = by (makes_at point) refl where
  by : (b : Bool) → makes_at point ≡ b → MakesAt state f point e
  by true is = makers graph state depth f point e is gives makes
  by false is =
      let clash : false ≡ true =
      sym (makes_none graph state depth f point is) ∙ ap makes_cell gives ∙ makes in
      absurd (let wrong : ⊥ = cc in wrong)
