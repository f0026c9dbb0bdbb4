-- The works that nodes are.
use Rattle.std.specs.Prelude.{◌≡◌, ◌<◌, ℕ, List, [], ◌∷◌, ◌++◌, Option, Some, None, Result}
use Rattle.std.specs.Prelude.{Ok, Err, IfOk, get_or, length, slice_get}
use Rattle.std.specs.declared.alloc.AllocError.{AllocError}
use Rattle.sw_types.specs.declared.shape.CaseShape.{CaseShape}
use Rattle.sw_types.specs.declared.shape.Shape.{Shape}
use Rattle.sw_typing_rules.specs.Worlds.{item}
use Rattle.sw_value.specs.Value.{value_of}
use Rattle.sw_tree_work.specs.Forms.{for_known}
use Rattle.sw_tree_work.specs.Work as work
use Rattle.sw_tree_work.specs.Work.{Before, Work}
use Rattle.sw_tree_arena.specs.declared.node.Act.{Act}
use Rattle.sw_tree_arena.specs.declared.node.Act.TheVariants as acts
use Rattle.sw_tree_arena.specs.declared.node.BodyName.{BodyName}
use Rattle.sw_tree_arena.specs.declared.node.BodyName.TheVariants as names
use Rattle.sw_tree_arena.specs.declared.node.Node.{Node}
use Rattle.sw_tree_arena.specs.declared.node.Node.TheVariants as nodes

abbrev pub name_of : BodyName → work.BodyName
name_of (names.Function key) = work.Function key
name_of (names.PartGetter shape part) = work.PartGetter shape part
name_of (names.GlobalGetter global) = work.GlobalGetter global
name_of (names.FirstValue global) = work.FirstValue global

abbrev pub act_of : Act → work.Act
act_of (acts.Literal value) = work.Literal (value_of value)
act_of (acts.Read variable) = work.Read variable
act_of acts.Drop = work.Drop
act_of acts.Swap = work.Swap
act_of acts.Keep = work.Keep
act_of acts.Replace = work.Replace
act_of (acts.Unary at op) = work.Unary at op
act_of (acts.Binary at op) = work.Binary at op
act_of (acts.Print count) = work.Print count
act_of (acts.Field part) = work.Field part
act_of (acts.SetField part) = work.SetField part
act_of (acts.Make tag count) = work.Make tag count
act_of (acts.Declare variable boxed) = work.Declare variable boxed
act_of (acts.Store variable) = work.Store variable
act_of (acts.Payload variable index) = work.Payload variable index
act_of (acts.LoadPart part) = work.LoadPart part
act_of (acts.StorePart part) = work.StorePart part
act_of (acts.LoadGlobal global) = work.LoadGlobal global
act_of (acts.StoreGlobal global) = work.StoreGlobal global
act_of (acts.Call at kind name count) = work.Call at kind (name_of name) count
act_of (acts.CallClosure at count) = work.CallClosure at count
act_of acts.Await = work.Await
act_of acts.Yield = work.Yield

module _ (shapes : List Shape) where
  -- The cases of the enum with a number, and an object or an actor of the type with a number.
  abbrev pub cases_in : Option Shape → List CaseShape
  cases_in None = []
  cases_in (Some shape) = shape.cases

  abbrev pub new_work : ℕ → List ℕ → Before
  new_work number names = for_known (slice_get shapes number)
      (λ shape. work.Then (work.New number shape names))

  -- the work that a node is, by those of the nodes that it names
  abbrev pub node_work : (ℕ → Work) → Node → Work
  node_work at (nodes.Then act rest) = work.Then (act_of act) (at rest)
  node_work at (nodes.New number names rest) = new_work number names (at rest)
  node_work at (nodes.Close key captures params body rest) =
      work.Close key captures params (at body) (at rest)
  node_work at (nodes.Spawn key iso captures body rest) =
      work.Spawn key iso captures (at body) (at rest)
  node_work at (nodes.Test one other) = work.Test (at one) (at other)
  node_work at (nodes.Switch shape ways) = work.Switch (cases_in (item shape shapes)) (at ways)
  node_work at (nodes.Case name way others) = work.Case name (at way) (at others)
  node_work at (nodes.Otherwise way) = work.Otherwise (at way)
  node_work at (nodes.Jump rest) = work.Jump (at rest)
  node_work at (nodes.Loop cond body rest) = work.Loop (at cond) (at body) (at rest)
  node_work at nodes.Decide = work.Decide
  node_work at nodes.Again = work.Again
  node_work at nodes.Leave = work.Leave
  node_work at nodes.Return = work.Return
  node_work at nodes.Finish = work.Finish
  node_work at nodes.Unknown = work.Unknown

  -- the works of nodes, after those of the nodes before them
  abbrev pub works_after : List Work → List Node → List Work
  works_after works [] = works
  works_after works (node ∷ nodes) =
      works_after (works ++ node_work (λ number. get_or works number work.Unknown) node ∷ []) nodes

  -- the work of the node with a number
  unfoldable pub work_at : List Node → ℕ → Work
  work_at nodes number = get_or (works_after [] nodes) number work.Unknown

  -- the work of the node that a call gives, and this work where memory ran out
  unfoldable pub given : List Node → Work → Result ℕ AllocError → Work
  given nodes wanted (Ok number) = work_at nodes number
  given nodes wanted (Err fault) = wanted

-- all nodes that a node names have lower numbers than this
abbrev pub AreBelow : ℕ → Node → Type 0
AreBelow bound (nodes.Then act rest) = rest < bound
AreBelow bound (nodes.New number names rest) = rest < bound
AreBelow bound (nodes.Close key captures params body rest) = (body < bound) × (rest < bound)
AreBelow bound (nodes.Spawn key iso captures body rest) = (body < bound) × (rest < bound)
AreBelow bound (nodes.Test one other) = (one < bound) × (other < bound)
AreBelow bound (nodes.Switch shape ways) = ways < bound
AreBelow bound (nodes.Case name way others) = (way < bound) × (others < bound)
AreBelow bound (nodes.Otherwise way) = way < bound
AreBelow bound (nodes.Jump rest) = rest < bound
AreBelow bound (nodes.Loop cond body rest) = (cond < bound) × (body < bound) × (rest < bound)
AreBelow bound _ = Unit {0}

-- each node names nodes before it
unfoldable pub AreInOrder : List Node → Type 0
AreInOrder nodes =
    (number : ℕ) (node : Node) → slice_get nodes number ≡ Some node → AreBelow number node

-- nodes that were there stay, and others may follow
unfoldable pub Grows : List Node → List Node → Type 0
Grows old new = (added : List Node) × (new ≡ old ++ added)

-- A call gives the number of a node that is this work. What was there before stays. Where memory runs
-- out it gives no number.
pub record LaysIn (shapes : List Shape) (old new : List Node) (result : Result ℕ AllocError)
    (wanted : Work) : Type 0 where
  pub stays : Grows old new
  pub here : IfOk result (λ number. number < length new)
  pub is : given shapes new wanted result ≡ wanted
