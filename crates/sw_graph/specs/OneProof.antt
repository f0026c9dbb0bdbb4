-- That a graph's facts have one proof at most.
use Rattle.std.specs.Coded.{Coded-set, Unit-prop}
use Rattle.std.proofs.Props.{props}
use Rattle.sw_types.specs.declared.ty.Ty.{Ty}
use Rattle.sw_types.specs.declared.ty.Ty.TheVariants.{Unit as Void}
use Rattle.sw_types.specs.contracts.ty.Ty as ty
use Rattle.sw_types.specs.declared.shape.Shape.{Shape}
use Rattle.sw_graph.specs.declared.function.Function.{Function}
use Rattle.sw_graph.specs.declared.function.GlobalKind.{GlobalKind}
use Rattle.sw_graph.specs.declared.function.RegKind.{RegKind}
use Rattle.sw_graph.specs.declared.function.RegKind.TheVariants.{Plain, BoxOf}
use Rattle.sw_graph.specs.contracts.function.RegKind as kind
use Rattle.sw_graph.specs.declared.instr.BinOp.{BinOp}
use Rattle.sw_graph.specs.declared.instr.BinOp.TheVariants.{Eq, Ne}
use Rattle.sw_graph.specs.declared.instr.Instr.{Instr}
use Rattle.sw_graph.specs.declared.instr.Instr.TheVariants.{Const, Un, Bin, Print, Copy, Field}
use Rattle.sw_graph.specs.declared.instr.Instr.TheVariants.{Payload, SetField, Make, NewObject}
use Rattle.sw_graph.specs.declared.instr.Instr.TheVariants.{NewBox, NewActor, LoadBox, StoreBox}
use Rattle.sw_graph.specs.declared.instr.Instr.TheVariants.{LoadProp, StoreProp, LoadGlobal}
use Rattle.sw_graph.specs.declared.instr.Instr.TheVariants.{StoreGlobal, NewClosure, Call}
use Rattle.sw_graph.specs.declared.instr.Instr.TheVariants.{CallClosure, NewTask, Await, Yield}
use Rattle.sw_graph.specs.declared.instr.Last.{Last}
use Rattle.sw_graph.specs.declared.instr.Last.TheVariants.{Jump, Branch, Switch, Return}
use Rattle.sw_graph.specs.declared.instr.Operand.{Operand}
use Rattle.std.specs.Prelude.{List, [], ◌∷◌, Option, Some, None, ℕ, slice_get}
use Rattle.sw_graph.specs.Kinds.{Goes, IsCaptured, Each, EachOf, TakesBoth, KindsFit, LastKindsFit}
use Rattle.sw_graph.specs.Kinds.{value, literal_type}
use Rattle.sw_graph.specs.Payloads.{Unpacks, PayloadFits}
use Rattle.sw_graph.specs.WellFormed.{IsWellFormed}

Ty-set : IsSet Ty
Ty-set = Coded-set ty.the_row.coded

RegKind-set : IsSet RegKind
RegKind-set = Coded-set kind.the_row.coded

Goes-prop : (from to : Option RegKind) → IsProp (Goes from to)
Goes-prop (Some (Plain from)) (Some (Plain to)) = hlevel (props, Ty-set)
Goes-prop _ _ = hlevel props

IsCaptured-prop : (from to : Option RegKind) → IsProp (IsCaptured from to)
IsCaptured-prop (Some (Plain from)) (Some (Plain to)) = hlevel (props, Ty-set)
IsCaptured-prop (Some (BoxOf from)) (Some (BoxOf to)) = hlevel (props, Ty-set)
IsCaptured-prop _ _ = hlevel props

Each-prop : (May : Option RegKind → Option RegKind → Type 0)
    → ((from to : Option RegKind) → IsProp (May from to))
    → (froms : List (Option RegKind)) (tos : List RegKind) → IsProp (Each May froms tos)
Each-prop May one [] [] = Unit-prop
Each-prop May one (from ∷ froms) (to ∷ tos) =
    let first = one from (Some to) in
    let rest = Each-prop May one froms tos in hlevel (props, first, rest)
Each-prop May one _ _ = hlevel props

EachOf-prop : (May : Option RegKind → Option RegKind → Type 0)
    → ((from to : Option RegKind) → IsProp (May from to))
    → (froms : List (Option RegKind)) (tos : Option (List RegKind)) → IsProp (EachOf May froms tos)
EachOf-prop May one froms (Some tos) = Each-prop May one froms tos
EachOf-prop May one froms None = hlevel props

all_go : (froms : List (Option RegKind)) (tos : Option (List RegKind))
    → IsProp (EachOf Goes froms tos)
all_go = EachOf-prop Goes Goes-prop

all_captured : (froms : List (Option RegKind)) (tos : Option (List RegKind))
    → IsProp (EachOf IsCaptured froms tos)
all_captured = EachOf-prop IsCaptured IsCaptured-prop

TakesBoth-prop : (op : BinOp) (left right : Option RegKind) → IsProp (TakesBoth op left right)
TakesBoth-prop Eq left right = hlevel (props, RegKind-set)
TakesBoth-prop Ne left right = hlevel (props, RegKind-set)
TakesBoth-prop _ left right = hlevel (props, RegKind-set)

KindsFit-prop : (shapes : List Shape) (globals : List GlobalKind) (functions : List Function)
    (regs : List RegKind) (instr : Instr) → IsProp (KindsFit shapes globals functions regs instr)
KindsFit-prop shapes globals functions regs (Const at dst literal) =
    Goes-prop (value (literal_type literal)) (slice_get regs dst)
KindsFit-prop shapes globals functions regs (Un at dst op src) =
    hlevel (props, RegKind-set, Goes-prop)
KindsFit-prop shapes globals functions regs (Bin at dst op left right) =
    hlevel (props, TakesBoth-prop, Goes-prop)
KindsFit-prop shapes globals functions regs (Print at dst args) = hlevel (props, Goes-prop)
KindsFit-prop shapes globals functions regs (Copy at dst src) = Goes-prop _ _
KindsFit-prop shapes globals functions regs (Field at dst src part) = Goes-prop _ _
KindsFit-prop shapes globals functions regs (Payload at dst src index) = hlevel props
KindsFit-prop shapes globals functions regs (SetField at target part src) = Goes-prop _ _
KindsFit-prop shapes globals functions regs (Make at dst shape tag args) =
    hlevel (props, all_go, Goes-prop)
KindsFit-prop shapes globals functions regs (NewObject at dst shape args) =
    hlevel (props, all_go, Goes-prop)
KindsFit-prop shapes globals functions regs (NewBox at dst src) = Goes-prop _ _
KindsFit-prop shapes globals functions regs (NewActor at dst shape args) =
    hlevel (props, all_go, Goes-prop)
KindsFit-prop shapes globals functions regs (LoadBox at dst cell) = Goes-prop _ _
KindsFit-prop shapes globals functions regs (StoreBox at cell src) = Goes-prop _ _
KindsFit-prop shapes globals functions regs (LoadProp at dst cell part) = Goes-prop _ _
KindsFit-prop shapes globals functions regs (StoreProp at cell part src) = Goes-prop _ _
KindsFit-prop shapes globals functions regs (LoadGlobal at dst global) = Goes-prop _ _
KindsFit-prop shapes globals functions regs (StoreGlobal at global src) = Goes-prop _ _
KindsFit-prop shapes globals functions regs (NewClosure at dst function captures) =
    hlevel (props, all_captured, Goes-prop)
KindsFit-prop shapes globals functions regs (Call at dst kind function args) =
    hlevel (props, all_go, Goes-prop)
KindsFit-prop shapes globals functions regs (CallClosure at dst closure args) =
    hlevel (props, all_go, Goes-prop)
KindsFit-prop shapes globals functions regs (NewTask at dst function captures) =
    hlevel (props, all_captured, Goes-prop)
KindsFit-prop shapes globals functions regs (Await at dst task) = Goes-prop _ _
KindsFit-prop shapes globals functions regs (Yield at dst) =
    Goes-prop (value Void) (slice_get regs dst)

LastKindsFit-prop : (shapes : List Shape) (regs : List RegKind) (result : Ty) (last : Last)
    → IsProp (LastKindsFit shapes regs result last)
LastKindsFit-prop shapes regs result (Jump to) = Unit-prop
LastKindsFit-prop shapes regs result (Branch condition holds fails) = hlevel (props, RegKind-set)
LastKindsFit-prop shapes regs result (Switch subject to) = hlevel props
LastKindsFit-prop shapes regs result (Return (Some operand)) = Goes-prop _ _
LastKindsFit-prop shapes regs result (Return None) = Unit-prop

Unpacks-prop : (shapes : List Shape) (regs : List RegKind) (last : Last) (tag : ℕ) (src : Operand)
    (index dst : ℕ) → IsProp (Unpacks shapes regs last tag src index dst)
Unpacks-prop shapes regs (Switch subject to) tag src index dst = hlevel (props, Goes-prop)
Unpacks-prop shapes regs _ tag src index dst = hlevel props

PayloadFits-prop : (shapes : List Shape) (function : Function) (number : ℕ) (instr : Instr)
    → IsProp (PayloadFits shapes function number instr)
PayloadFits-prop shapes function number (Payload at dst src index) = hlevel (props, Unpacks-prop)
PayloadFits-prop shapes function number _ = Unit-prop

pub IsWellFormed-prop : (shapes : List Shape) (globals : List GlobalKind)
    (functions : List Function) (entry : ℕ) (starts : List ℕ)
    → IsProp (IsWellFormed shapes globals functions entry starts)
IsWellFormed-prop shapes globals functions entry starts =
    hlevel (props, KindsFit-prop, LastKindsFit-prop, PayloadFits-prop)
