-- Where work of the machine on the written tree stands in a graph: the instructions from a spot of a
-- function on are those that the work asks for.
use Rattle.std.specs.Prelude.{◌≡◌, ◌≢◌, ℕ, suc, ◌<◌, ◌≤◌, Bool, true, false, List, [], ◌∷◌, ◌++◌}
use Rattle.std.specs.Prelude.{Option, Some, None, length, map, slice_get, take, drop, reverse}
use Rattle.std.specs.Prelude.{if◌then◌else◌, ◌==◌}
use Rattle.std.specs.List.{AllByRecursion}
use Rattle.sw_types.specs.declared.isolation.CallKind.{CallKind}
use Rattle.sw_types.specs.declared.isolation.Iso.{Iso}
use Rattle.sw_types.specs.declared.shape.CaseShape.{CaseShape}
use Rattle.sw_types.specs.declared.shape.Part.{Part}
use Rattle.sw_types.specs.declared.shape.Shape.{Shape}
use Rattle.sw_graph.specs.declared.function.Function.{Function}
use Rattle.sw_graph.specs.declared.instr.Instr.{Instr}
use Rattle.sw_graph.specs.declared.instr.Instr.TheVariants as instr
use Rattle.sw_graph.specs.declared.instr.Last.{Last}
use Rattle.sw_graph.specs.declared.instr.Last.TheVariants as last
use Rattle.sw_graph.specs.declared.instr.Literal.{Literal}
use Rattle.sw_graph.specs.declared.instr.Operand.{Operand}
use Rattle.sw_isolation_rules.specs.declared.note.Capture.{Capture}
use Rattle.sw_value.specs.Value.{value_of}
use Rattle.sw_lower_plans.specs.Plan.{var_in}
use Rattle.sw_lower_plans.specs.Run.{instrs_at, last_at}
use Rattle.sw_lower_plans.specs.declared.bound.Bound.{Bound}
use Rattle.sw_lower_rules.specs.Bodies.{made_instr}
use Rattle.sw_tree_work.specs.Work as work
use Rattle.sw_tree_work.specs.Work.{Act, BodyName, TreeBody, Work}

-- the functions of a graph by number, and the number of the function of a body that has a name
pub record Program : Type 0 where
  pub functions : List Function
  pub number : BodyName → Option ℕ

-- A spot of a function: before an instruction of a block, by its index. There variables are seen, each
-- in a register, and the temporaries are in registers, the newest first.
pub record Spot : Type 0 where
  pub block : ℕ
  pub index : ℕ
  pub vars : List Bound
  pub temps : List ℕ

abbrev pub with_temps : Spot → List ℕ → Spot
with_temps spot temps = record spot { temps = temps }

-- behind the instruction
abbrev pub behind : Spot → List ℕ → Spot
behind spot temps = record spot { index = suc spot.index; temps = temps }

-- behind an instruction that declares a variable
abbrev pub declares : Spot → Bound → List ℕ → Spot
declares spot bound temps =
    record spot { index = suc spot.index; vars = spot.vars ++ bound ∷ []; temps = temps }

-- the first spot of a block
abbrev pub starts : ℕ → List Bound → List ℕ → Spot
starts block vars temps = record { block = block; index = 0; vars = vars; temps = temps }

abbrev pub IsInstr : Function → Spot → Instr → Type 0
IsInstr f spot instr = slice_get (instrs_at spot.block f.blocks) spot.index ≡ Some instr

-- the end of a block
pub record IsEnd (f : Function) (spot : Spot) (how : Last) : Type 0 where
  pub within : spot.block < length f.blocks
  pub index : spot.index ≡ length (instrs_at spot.block f.blocks)
  pub ends : last_at spot.block f.blocks ≡ how

-- A register is above those of all variables and of these temporaries.
pub record IsFree (f : Function) (r : ℕ) (vars : List Bound) (temps : List ℕ) : Type 0 where
  pub within : r < length f.regs
  pub temporaries : AllByRecursion (λ s. s < r) temps
  pub variables : (key : ℕ) (bound : Bound) → var_in key vars ≡ Some bound → bound.reg < r

-- what the first see, the second see
abbrev pub IsSeen : List Bound → List Bound → Type 0
IsSeen vars more = (key : ℕ) (bound : Bound) → var_in key vars ≡ Some bound
    → var_in key more ≡ Some bound

-- no other variable has the register
abbrev pub IsAlone : ℕ → Bound → List Bound → Type 0
IsAlone key bound vars = (other : ℕ) (one : Bound) → var_in other vars ≡ Some one
    → one.reg ≡ bound.reg → other ≡ key

-- what is said of the spot after an act
abbrev pub Next : Type 1
Next = Spot → Type 0

-- the registers of the newest temporaries, and those of the others
abbrev pub OnOne : List ℕ → (ℕ → List ℕ → Type 0) → Type 0
OnOne [] P = ⊥
OnOne (s ∷ temps) P = P s temps

abbrev pub OnTwo : List ℕ → (ℕ → ℕ → List ℕ → Type 0) → Type 0
OnTwo temps P = OnOne temps (λ t more. OnOne more (λ s rest. P t s rest))

-- so many of the newest, the oldest of them first
abbrev pub OnMany : ℕ → List ℕ → (List ℕ → List ℕ → Type 0) → Type 0
OnMany count temps P =
    (count ≤ length temps) × P (reverse (take count temps)) (drop count temps)

-- operands in registers
abbrev pub OfReg : ℕ → (Operand → Type 0) → Type 0
OfReg r P = (o : Operand) × (o.reg ≡ r) × P o

abbrev pub OfRegs : List ℕ → (List Operand → Type 0) → Type 0
OfRegs rs P = (os : List Operand) × (map (λ (o : Operand). o.reg) os ≡ rs) × P os

-- An instruction gives a value to a free register.
pub record Gives (f : Function) (spot : Spot) (temps : List ℕ) (made : ℕ → Instr) (K : ℕ → Type 0)
    : Type 0 where
  pub r : ℕ
  pub free : IsFree f r spot.vars temps
  pub is : IsInstr f spot (made r)
  pub next : K r

-- The value becomes the newest temporary.
abbrev pub GivesNewest : Function → Spot → List ℕ → (ℕ → Instr) → Next → Type 0
GivesNewest f spot temps made K = Gives f spot temps made (λ r. K (behind spot (r ∷ temps)))

abbrev pub bound_of : ℕ → ℕ → Bool → Bound
bound_of key r boxed = record { key = key; reg = r; boxed = boxed }

-- A variable is in its register, or its box is.
abbrev pub ReadAt : Function → Spot → Next → Bound → Bool → Type 0
ReadAt f spot K bound false = K (with_temps spot (bound.reg ∷ spot.temps))
ReadAt f spot K bound true = (at : ℕ) × OfReg bound.reg (λ o.
    GivesNewest f spot spot.temps (λ r. instr.LoadBox at r o) K)

abbrev pub StoreAt : Function → Spot → ℕ → Next → Bound → Bool → Type 0
StoreAt f spot s K bound false = (at : ℕ) × OfReg s (λ o.
    IsInstr f spot (instr.Copy at bound.reg o) × (bound.reg < length f.regs) × K (behind spot []))
StoreAt f spot s K bound true = (at : ℕ) × OfReg s (λ o. OfReg bound.reg (λ box.
    IsInstr f spot (instr.StoreBox at box o) × K (behind spot [])))

abbrev pub declared : ℕ → ℕ → Bool → Operand → Instr
declared at r true o = instr.NewBox at r o
declared at r false o = instr.Copy at r o

-- Each property gets the first value that was given by its name.
abbrev pub reg_given : List ℕ → List ℕ → ℕ → Option ℕ
reg_given (one ∷ names) (r ∷ rs) name = if one == name then Some r else reg_given names rs name
reg_given _ _ name = None

abbrev pub AreParts : List ℕ → List ℕ → List Part → List Operand → Type 0
AreParts names rs [] [] = Unit {0}
AreParts names rs (part ∷ parts) (o ∷ os) =
    (reg_given names rs part.name ≡ Some o.reg) × AreParts names rs parts os
AreParts names rs _ _ = ⊥

-- What acts ask for that take so many values, by the values' registers and those of the temporaries
-- below them.
abbrev pub PrintAt : Function → Spot → Next → List ℕ → List ℕ → Type 0
PrintAt f spot K rs temps = (at : ℕ)
    × OfRegs rs (λ os. GivesNewest f spot temps (λ r. instr.Print at r os) K)

abbrev pub MakeAt : Option ℕ → Function → Spot → Next → List ℕ → List ℕ → Type 0
MakeAt tag f spot K rs temps = (at : ℕ) × (shape : ℕ)
    × OfRegs rs (λ os. GivesNewest f spot temps (λ r. instr.Make at r shape tag os) K)

abbrev pub NewAt : ℕ → Shape → List ℕ → Function → Spot → Next → List ℕ → List ℕ → Type 0
NewAt number shape names f spot K rs temps = (at : ℕ) × (os : List Operand)
    × AreParts names rs shape.parts os
    × GivesNewest f spot temps (λ r. made_instr shape.kind at r number os) K

abbrev pub CallAt : Program → ℕ → CallKind → BodyName → Function → Spot → Next → List ℕ → List ℕ
    → Type 0
CallAt p at kind name f spot K rs temps = (function : ℕ) × (p.number name ≡ Some function)
    × OfRegs rs (λ os. GivesNewest f spot temps (λ r. instr.Call at r kind function os) K)

abbrev pub ClosureCallAt : ℕ → Function → Spot → Next → List ℕ → List ℕ → Type 0
ClosureCallAt at f spot K rs temps = OnOne temps (λ s below. OfReg s (λ closure.
    OfRegs rs (λ os. GivesNewest f spot below (λ r. instr.CallClosure at r closure os) K)))

-- What an act asks for: its instruction, if it has one, and what is said of the spot after it.
abbrev pub ActAt : Program → Act → Function → Spot → Next → Type 0
ActAt p (work.Literal v) f spot K = (at : ℕ) × (literal : Literal) × (value_of literal ≡ v)
    × GivesNewest f spot spot.temps (λ r. instr.Const at r literal) K
ActAt p (work.Read key) f spot K = (bound : Bound) × (var_in key spot.vars ≡ Some bound)
    × ReadAt f spot K bound bound.boxed
ActAt p work.Drop f spot K = OnOne spot.temps (λ s temps. K (with_temps spot temps))
ActAt p work.Swap f spot K = OnTwo spot.temps (λ t s temps. K (with_temps spot (s ∷ t ∷ temps)))
ActAt p work.Keep f spot K = OnOne spot.temps (λ s temps. (at : ℕ) × OfReg s (λ o.
    Gives f spot (s ∷ temps) (λ r. instr.Copy at r o) (λ r. K (behind spot (s ∷ r ∷ temps)))))
ActAt p work.Replace f spot K = OnTwo spot.temps (λ s r temps. (at : ℕ) × OfReg s (λ o.
    IsFree f r spot.vars temps × IsInstr f spot (instr.Copy at r o)
    × K (behind spot (r ∷ temps))))
ActAt p (work.Unary at op) f spot K = OnOne spot.temps (λ s temps. OfReg s (λ o.
    GivesNewest f spot temps (λ r. instr.Un at r op o) K))
ActAt p (work.Binary at op) f spot K = OnTwo spot.temps (λ t s temps. OfReg s (λ left.
    OfReg t (λ right. GivesNewest f spot temps (λ r. instr.Bin at r op left right) K)))
ActAt p (work.Print count) f spot K = OnMany count spot.temps (PrintAt f spot K)
ActAt p (work.Field i) f spot K = OnOne spot.temps (λ s temps. (at : ℕ) × OfReg s (λ o.
    GivesNewest f spot temps (λ r. instr.Field at r o i) K))
ActAt p (work.SetField i) f spot K = OnTwo spot.temps (λ s r more. OnOne more (λ t temps.
    (at : ℕ) × OfReg r (λ copy. OfReg t (λ o. IsFree f r spot.vars temps
    × IsInstr f spot (instr.SetField at copy i o) × K (behind spot (r ∷ temps))))))
ActAt p (work.Make tag count) f spot K = OnMany count spot.temps (MakeAt tag f spot K)
ActAt p (work.Declare key boxed) f spot K = OnOne spot.temps (λ s temps.
    (var_in key spot.vars ≡ None) × (at : ℕ) × OfReg s (λ o.
    Gives f spot temps (λ r. declared at r boxed o)
    (λ r. K (declares spot (bound_of key r boxed) temps))))
ActAt p (work.Store key) f spot K = OnOne spot.temps (λ s temps. (temps ≡ [])
    × (bound : Bound) × (var_in key spot.vars ≡ Some bound) × IsAlone key bound spot.vars
    × StoreAt f spot s K bound bound.boxed)
ActAt p (work.Payload key i) f spot K = OnOne spot.temps (λ s temps.
    (var_in key spot.vars ≡ None) × (at : ℕ) × OfReg s (λ o.
    Gives f spot (s ∷ temps) (λ r. instr.Payload at r o i)
    (λ r. K (declares spot (bound_of key r false) (s ∷ temps)))))
ActAt p (work.LoadPart i) f spot K = OnOne spot.temps (λ s temps. (at : ℕ) × OfReg s (λ o.
    GivesNewest f spot temps (λ r. instr.LoadProp at r o i) K))
ActAt p (work.StorePart i) f spot K = OnTwo spot.temps (λ c s temps. (at : ℕ) × OfReg c (λ cell.
    OfReg s (λ o. IsInstr f spot (instr.StoreProp at cell i o) × K (behind spot temps))))
ActAt p (work.LoadGlobal g) f spot K = (at : ℕ)
    × GivesNewest f spot spot.temps (λ r. instr.LoadGlobal at r g) K
ActAt p (work.StoreGlobal g) f spot K = OnOne spot.temps (λ s temps. (at : ℕ) × OfReg s (λ o.
    IsInstr f spot (instr.StoreGlobal at g o) × K (behind spot temps)))
ActAt p (work.New number shape names) f spot K =
    OnMany (length names) spot.temps (NewAt number shape names f spot K)
ActAt p (work.Call at kind name count) f spot K =
    OnMany count spot.temps (CallAt p at kind name f spot K)
ActAt p (work.CallClosure at count) f spot K =
    OnMany count spot.temps (ClosureCallAt at f spot K)
ActAt p work.Await f spot K = OnOne spot.temps (λ s temps. (at : ℕ) × OfReg s (λ o.
    GivesNewest f spot temps (λ r. instr.Await at r o) K))
ActAt p work.Yield f spot K = (at : ℕ)
    × GivesNewest f spot spot.temps (λ r. instr.Yield at r) K

-- The operands of what a closure captures, in order: the boxes of variables that it shares, and the
-- values that were read.
abbrev pub OnHeld : Bool → ℕ → List Bound → List ℕ → Operand → (List ℕ → Type 0) → Type 0
OnHeld true key vars rs o P = ((bound : Bound) × (var_in key vars ≡ Some bound)
    × (bound.boxed ≡ true) × (o.reg ≡ bound.reg)) × P rs
OnHeld false key vars rs o P = OnOne rs (λ r rest. (o.reg ≡ r) × P rest)

abbrev pub AreHeld : List Capture → List Bound → List ℕ → List Operand → Type 0
AreHeld [] vars rs [] = rs ≡ []
AreHeld (one ∷ more) vars rs (o ∷ os) =
    OnHeld one.by_ref one.variable vars rs o (λ rest. AreHeld more vars rest os)
AreHeld _ vars rs os = ⊥

-- how many of them were read
abbrev pub read_count : List Capture → ℕ
read_count [] = 0
read_count (one ∷ more) = if one.by_ref then read_count more else suc (read_count more)

-- What a function takes is in its first registers: what a closure captures, and then parameters.
abbrev pub taken_bounds : ℕ → List Capture → List ℕ → List Bound
taken_bounds r [] [] = []
taken_bounds r [] (key ∷ keys) = bound_of key r false ∷ taken_bounds (suc r) [] keys
taken_bounds r (one ∷ more) keys =
    bound_of one.variable r one.by_ref ∷ taken_bounds (suc r) more keys

-- a loop that goes on: the blocks of its condition and of its body, the one after it, and what is seen
-- there
pub record Ring : Type 0 where
  pub head : ℕ
  pub inner : ℕ
  pub after : ℕ
  pub vars : List Bound

abbrev pub InRing : List Ring → (Ring → List Ring → Type 0) → Type 0
InRing [] P = ⊥
InRing (ring ∷ rings) P = P ring rings

-- the block is there, and this is said of its first spot
abbrev pub Enters : Function → ℕ → List Bound → List ℕ → Next → Type 0
Enters f block vars temps K = (block < length f.blocks) × K (starts block vars temps)

-- A `switch` goes to a block for the case with a name.
abbrev pub GoesTo : List CaseShape → List ℕ → ℕ → ℕ → Type 0
GoesTo cases to name block = (i : ℕ) × (one : CaseShape) × (slice_get cases i ≡ Some one)
    × (one.name ≡ name) × (slice_get to i ≡ Some block)

-- the function with a number takes these, and begins with this
abbrev pub BeginsAt : Program → ℕ → List Capture → List ℕ → (Function → Type 0)
    → (Function → Next) → Type 0
BeginsAt p number captures takes Is K = (g : Function) × (slice_get p.functions number ≡ Some g)
    × Is g × (g.takes ≡ length (taken_bounds 0 captures takes))
    × Enters g 0 (taken_bounds 0 captures takes) [] (K g)

abbrev pub AnyFunction : Function → Type 0
AnyFunction f = Unit {0}

abbrev pub HasIso : Iso → Function → Type 0
HasIso iso f = f.iso ≡ iso

module _ (p : Program) where
  abbrev mutual
    -- Work stands at a spot of a function, inside of these loops, the innermost first.
    pub Stands : Work → Function → List Ring → Spot → Type 0
    Stands (work.Then act rest) f rings spot = ActAt p act f spot (λ next. Stands rest f rings next)
    Stands (work.Close key captures params body rest) f rings spot =
        OnMany (read_count captures) spot.temps (λ rs temps. (at : ℕ) × (number : ℕ)
        × (os : List Operand) × AreHeld captures spot.vars rs os
        × BeginsAt p number captures params AnyFunction (λ g next. Stands body g [] next)
        × GivesNewest f spot temps (λ r. instr.NewClosure at r number os)
        (λ next. Stands rest f rings next))
    Stands (work.Spawn at iso captures body rest) f rings spot =
        OnMany (read_count captures) spot.temps (λ rs temps. (number : ℕ)
        × (os : List Operand) × AreHeld captures spot.vars rs os
        × BeginsAt p number captures [] (HasIso iso) (λ g next. Stands body g [] next)
        × GivesNewest f spot temps (λ r. instr.NewTask at r number os)
        (λ next. Stands rest f rings next))
    Stands (work.Test one other) f rings spot = OnOne spot.temps (λ s temps.
        (holds : ℕ) × (fails : ℕ) × OfReg s (λ o. IsEnd f spot (last.Branch o holds fails)
        × Enters f holds spot.vars temps (λ next. Stands one f rings next)
        × Enters f fails spot.vars temps (λ next. Stands other f rings next)))
    Stands (work.Switch cases ways) f rings spot = OnOne spot.temps (λ s temps.
        (to : List ℕ) × OfReg s (λ o. IsEnd f spot (last.Switch o to)
        × (length to ≡ length cases) × WaysStand ways f rings (GoesTo cases to) spot))
    Stands (work.Jump rest) f rings spot = (to : ℕ) × (seen : List Bound)
        × IsEnd f spot (last.Jump to) × IsSeen seen spot.vars
        × Enters f to seen spot.temps (λ next. Stands rest f rings next)
    Stands (work.Loop cond body rest) f rings spot = (spot.temps ≡ []) × (ring : Ring)
        × (ring.vars ≡ spot.vars) × IsEnd f spot (last.Jump ring.head)
        × Enters f ring.head ring.vars [] (λ next. Stands cond f (ring ∷ rings) next)
        × Enters f ring.inner ring.vars [] (λ next. Stands body f (ring ∷ rings) next)
        × Enters f ring.after ring.vars [] (λ next. Stands rest f rings next)
    Stands work.Decide f rings spot = OnOne spot.temps (λ s temps. InRing rings (λ ring rings.
        (temps ≡ []) × OfReg s (λ o. IsEnd f spot (last.Branch o ring.inner ring.after)
        × IsSeen ring.vars spot.vars)))
    Stands work.Again f rings spot = InRing rings (λ ring rings.
        (spot.temps ≡ []) × IsEnd f spot (last.Jump ring.head) × IsSeen ring.vars spot.vars)
    Stands work.Leave f rings spot = InRing rings (λ ring rings.
        (spot.temps ≡ []) × IsEnd f spot (last.Jump ring.after) × IsSeen ring.vars spot.vars)
    Stands work.Return f rings spot =
        OnOne spot.temps (λ s temps. OfReg s (λ o. IsEnd f spot (last.Return (Some o))))
    Stands work.Finish f rings spot = IsEnd f spot (last.Return None)
    Stands (work.Case name way others) f rings spot = ⊥
    Stands (work.Otherwise way) f rings spot = ⊥
    Stands work.Unknown f rings spot = ⊥

    -- The ways of a `switch` stand where it goes: each at the blocks of its case's name, and the last
    -- one at those of all other names.
    pub WaysStand : Work → Function → List Ring → (ℕ → ℕ → Type 0) → Spot → Type 0
    WaysStand (work.Case name way others) f rings Goes spot =
        ((block : ℕ) → Goes name block
        → Enters f block spot.vars spot.temps (λ next. Stands way f rings next))
        × WaysStand others f rings (λ other block. Goes other block × (other ≢ name)) spot
    WaysStand (work.Otherwise way) f rings Goes spot = (name block : ℕ) → Goes name block
        → Enters f block spot.vars spot.temps (λ next. Stands way f rings next)
    WaysStand _ f rings Goes spot = ⊥

  -- a body that is found by its name stands in the function with a number
  abbrev pub BodyStands : TreeBody → ℕ → Type 0
  BodyStands body number = BeginsAt p number [] body.takes (HasIso body.iso)
      (λ g next. Stands body.work g [] next)

  -- so do all bodies that are found by their names
  abbrev pub BodiesStand : (BodyName → Option TreeBody) → Type 0
  BodiesStand bodies = (name : BodyName) (number : ℕ) → p.number name ≡ Some number
      → (body : TreeBody) × (bodies name ≡ Some body) × BodyStands body number
