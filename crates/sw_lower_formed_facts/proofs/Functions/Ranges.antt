-- What has a kind is there: the numbers that an instruction mentions are in range.
use Rattle.std.proofs.Common.{◌≡◌, ℕ, ◌<◌, IsTrue, List, [], ◌∷◌, Option, Some, length, map, subst}
use Rattle.std.proofs.Common.{refl}
use Rattle.std.specs.Prelude.{Bool, IsSome, None, cond, slice_get}
use Rattle.std.specs.List.{All}
use Rattle.std.specs.Option.{option_map, option_and_then}
use Rattle.std.proofs.lemmas.List.Elements.{All-nil, All-cons, All-head, All-tail}
use Rattle.std.proofs.lemmas.Option.{slice_get_within}
use Rattle.sw_types.specs.declared.shape.Shape.{Shape}
use Rattle.sw_types.specs.declared.shape.ShapeKind.{ShapeKind}
use Rattle.sw_types.specs.declared.ty.Ty.{Ty}
use Rattle.sw_types.specs.declared.ty.Ty.TheVariants.{Named, Unit as Void}
use Rattle.sw_graph.specs.Kinds.{Each, EachOf, Goes, IsCaptured, KindsFit, LastKindsFit, TakesBoth}
use Rattle.sw_graph.specs.Kinds.{bin_type, literal_type, un_type, awaited, closure_of, form_of}
use Rattle.sw_graph.specs.Kinds.{given, box_content, is_actor, is_cell, is_class, is_enum}
use Rattle.sw_graph.specs.Kinds.{is_printable}
use Rattle.sw_graph.specs.Kinds.{is_struct, kinds_of, made_of, part, parts, payload, result_of}
use Rattle.sw_graph.specs.Kinds.{shape_at, shape_of, taken, value}
use Rattle.sw_graph.specs.Mentions.{functions_of, globals_of, last_registers, registers_of}
use Rattle.sw_graph.specs.Mentions.{shapes_of}
use Rattle.sw_graph.specs.WellFormed.{AllBelow}
use Rattle.sw_graph.specs.declared.function.Function.{Function}
use Rattle.sw_graph.specs.declared.function.GlobalKind.{GlobalKind}
use Rattle.sw_graph.specs.declared.function.RegKind.{RegKind}
use Rattle.sw_graph.specs.declared.function.RegKind.TheVariants.{Plain, BoxOf}
use Rattle.sw_graph.specs.declared.instr.BinOp.{BinOp}
use Rattle.sw_graph.specs.declared.instr.BinOp.TheVariants.{Eq, Ne}
use Rattle.sw_graph.specs.declared.instr.Instr.{Instr}
use Rattle.sw_graph.specs.declared.instr.Instr.TheVariants.{Const, Un, Bin, Print, Copy, Field}
use Rattle.sw_graph.specs.declared.instr.Instr.TheVariants.{Payload, SetField, Make, NewObject}
use Rattle.sw_graph.specs.declared.instr.Instr.TheVariants.{NewBox, NewActor, LoadBox, StoreBox}
use Rattle.sw_graph.specs.declared.instr.Instr.TheVariants.{LoadProp, StoreProp, LoadGlobal}
use Rattle.sw_graph.specs.declared.instr.Instr.TheVariants.{StoreGlobal, NewClosure, Call}
use Rattle.sw_graph.specs.declared.instr.Instr.TheVariants.{CallClosure, NewTask, Await, Yield}
use Rattle.sw_graph.specs.declared.instr.Last.{Last}
use Rattle.sw_graph.specs.declared.instr.Last.TheVariants.{Jump, Branch, Switch, Return}
use Rattle.sw_graph.specs.declared.instr.Operand.{Operand}
use Rattle.sw_graph.proofs.KindLemmas.{goes-accepted}
use Rattle.sw_lower_formed_facts.specs.Fitting.{MayBePayload}
use Rattle.sw_lower_formed_facts.specs.Whole.{Whole}

-- What holds of an element, and not where there is none, says that there is one.
pub is_there : {A : Type 0} (P : Option A → Type 0) (xs : List A) (k : ℕ) → P (slice_get xs k)
    → (P None → ⊥) → k < length xs
is_there {A} P xs k holds never = by (slice_get xs k) refl where
  by : (found : Option A) → slice_get xs k ≡ found → k < length xs
  by (Some x) is = slice_get_within xs k x is
  by None is = absurd (never (subst P is holds))

below_none : (count : ℕ) → AllBelow count []
below_none count = All-nil (λ n. n < count)

below_more : (count n : ℕ) (ns : List ℕ) → n < count → AllBelow count ns → AllBelow count (n ∷ ns)
below_more count = All-cons (λ n. n < count)

nothing_goes : (from : Option RegKind) → Goes from None → ⊥
nothing_goes (Some (Plain ty)) goes = goes
nothing_goes (Some (BoxOf ty)) goes = goes
nothing_goes None goes = goes

-- the register that a value goes to
pub to_below : (from : Option RegKind) (regs : List RegKind) (r : ℕ)
    → Goes from (slice_get regs r) → r < length regs
to_below from regs r goes =
    slice_get_within regs r _ (goes-accepted from (slice_get regs r) goes).to_is

-- the register that it comes from
from_below : (to : Option RegKind) (regs : List RegKind) (s : ℕ)
    → Goes (slice_get regs s) to → s < length regs
from_below to regs s goes = is_there (λ kind. Goes kind to) regs s goes (λ never. never)

-- the registers of operands of which each goes somewhere
each_below : (May : Option RegKind → Option RegKind → Type 0)
    → ((to : Option RegKind) → May None to → ⊥) → (regs : List RegKind) (ss : List Operand)
    (tos : List RegKind) → Each May (kinds_of regs ss) tos
    → AllBelow (length regs) (map (λ operand. operand.reg) ss)
each_below May never regs [] tos each = below_none _
each_below May never regs (s ∷ ss) [] each = absurd each
each_below May never regs (s ∷ ss) (to ∷ tos) each =
    below_more _ s.reg (map (λ operand. operand.reg) ss)
    (is_there (λ kind. May kind (Some to)) regs s.reg each.0 (never (Some to)))
    (each_below May never regs ss tos each.1)

each_of_below : (May : Option RegKind → Option RegKind → Type 0)
    → ((to : Option RegKind) → May None to → ⊥) → (regs : List RegKind) (ss : List Operand)
    (tos : Option (List RegKind)) → EachOf May (kinds_of regs ss) tos
    → AllBelow (length regs) (map (λ operand. operand.reg) ss)
each_of_below May never regs ss (Some tos) each = each_below May never regs ss tos each
each_of_below May never regs ss None each = absurd each

all_go : (regs : List RegKind) (ss : List Operand) (tos : Option (List RegKind))
    → EachOf Goes (kinds_of regs ss) tos
    → AllBelow (length regs) (map (λ operand. operand.reg) ss)
all_go = each_of_below Goes (λ to never. never)

all_captured : (regs : List RegKind) (ss : List Operand) (tos : Option (List RegKind))
    → EachOf IsCaptured (kinds_of regs ss) tos
    → AllBelow (length regs) (map (λ operand. operand.reg) ss)
all_captured = each_of_below IsCaptured (λ to never. never)

all_printable : (regs : List RegKind) (ss : List Operand)
    → All (λ kind. IsTrue (is_printable kind)) (kinds_of regs ss)
    → AllBelow (length regs) (map (λ operand. operand.reg) ss)
all_printable regs [] printable = below_none _
all_printable regs (s ∷ ss) printable =
    below_more _ s.reg (map (λ operand. operand.reg) ss)
    (is_there (λ kind. IsTrue (is_printable kind)) regs s.reg
    (All-head (λ kind. IsTrue (is_printable kind)) (slice_get regs s.reg) (kinds_of regs ss)
    printable) (λ never. cc))
    (all_printable regs ss (All-tail (λ kind. IsTrue (is_printable kind))
    (slice_get regs s.reg) (kinds_of regs ss) printable))

-- what an operator takes both of
ints_below : (regs : List RegKind) (s t : ℕ) (left right : RegKind)
    → (slice_get regs s ≡ Some left) × (slice_get regs t ≡ Some right)
    → (s < length regs) × (t < length regs)
ints_below regs s t left right both =
    (slice_get_within regs s left both.0, slice_get_within regs t right both.1)

alike_below : (regs : List RegKind) (s t : ℕ)
    → IsTrue (is_printable (slice_get regs s)) × (slice_get regs s ≡ slice_get regs t)
    → (s < length regs) × (t < length regs)
alike_below regs s t both =
    let printable : (Option RegKind → Type 0) = λ kind. IsTrue (is_printable kind) in (
      is_there printable regs s both.0 (λ never. cc),
      is_there printable regs t (subst printable both.1 both.0) (λ never. cc),
    )

both_below : (op : BinOp) (regs : List RegKind) (s t : ℕ)
    → TakesBoth op (slice_get regs s) (slice_get regs t)
    → (s < length regs) × (t < length regs)
both_below Eq regs s t both = alike_below regs s t both
both_below Ne regs s t both = alike_below regs s t both
both_below _ regs s t both = ints_below regs s t _ _ both

-- the registers of operands
abbrev regs_of : List Operand → List ℕ
regs_of ss = map (λ operand. operand.reg) ss

-- The registers that an instruction mentions are there, if it has its kinds and is a payload at
-- most where one may be.
pub registers_below : (w : Whole) (block : ℕ) (instr : Instr)
    → KindsFit w.shapes w.globals w.functions w.regs instr → MayBePayload w block instr
    → AllBelow (length w.regs) (registers_of instr)
registers_below w block (Const at r v) fits may =
    below_more _ r [] (to_below (value (literal_type v)) w.regs r fits) (below_none _)
registers_below w block (Un at r op s) fits may =
    below_more _ r (s.reg ∷ []) (to_below (value (un_type op)) w.regs r fits.1)
    (below_more _ s.reg [] (slice_get_within w.regs s.reg _ fits.0) (below_none _))
registers_below w block (Bin at r op s t) fits may =
    let both = both_below op w.regs s.reg t.reg fits.0 in
    below_more _ r (s.reg ∷ t.reg ∷ []) (to_below (value (bin_type op)) w.regs r fits.1)
    (below_more _ s.reg (t.reg ∷ []) both.0 (below_more _ t.reg [] both.1 (below_none _)))
registers_below w block (Print at r ss) fits may =
    below_more _ r (regs_of ss) (to_below (value Void) w.regs r fits.1)
    (all_printable w.regs ss fits.0)
registers_below w block (Copy at r s) fits may =
    below_more _ r (s.reg ∷ []) (to_below _ w.regs r fits)
    (below_more _ s.reg [] (from_below _ w.regs s.reg fits) (below_none _))
registers_below w block (Field at r s i) fits may =
    below_more _ r (s.reg ∷ []) (to_below _ w.regs r fits)
    (below_more _ s.reg []
    (is_there (λ kind. Goes (part (shape_of w.shapes is_struct kind) i) (slice_get w.regs r))
    w.regs s.reg fits (λ never. never)) (below_none _))
registers_below w block (Payload at r s i) fits may =
    below_more _ r (s.reg ∷ []) (to_below _ w.regs r may.goes)
    (below_more _ s.reg []
    (is_there (λ kind. IsSome (shape_of w.shapes is_enum kind)) w.regs s.reg fits
    (λ never. cc)) (below_none _))
registers_below w block (SetField at r i s) fits may =
    below_more _ r.reg (s.reg ∷ [])
    (is_there (λ kind. Goes (slice_get w.regs s.reg) (part (shape_of w.shapes is_struct kind) i))
    w.regs r.reg fits (λ never. nothing_goes _ never))
    (below_more _ s.reg [] (from_below _ w.regs s.reg fits) (below_none _))
registers_below w block (Make at r k tag ss) fits may =
    below_more _ r (regs_of ss) (to_below (value (Named k)) w.regs r fits.1)
    (all_go w.regs ss _ fits.0)
registers_below w block (NewObject at r k ss) fits may =
    below_more _ r (regs_of ss) (to_below (value (Named k)) w.regs r fits.1)
    (all_go w.regs ss _ fits.0)
registers_below w block (NewBox at r s) fits may =
    below_more _ r (s.reg ∷ [])
    (is_there (λ kind. Goes (slice_get w.regs s.reg) (box_content kind)) w.regs r fits
    (λ never. nothing_goes _ never))
    (below_more _ s.reg [] (from_below _ w.regs s.reg fits) (below_none _))
registers_below w block (NewActor at r k ss) fits may =
    below_more _ r (regs_of ss) (to_below (value (Named k)) w.regs r fits.1)
    (all_go w.regs ss _ fits.0)
registers_below w block (LoadBox at r b) fits may =
    below_more _ r (b.reg ∷ []) (to_below _ w.regs r fits)
    (below_more _ b.reg []
    (is_there (λ kind. Goes (box_content kind) (slice_get w.regs r)) w.regs b.reg fits
    (λ never. never)) (below_none _))
registers_below w block (StoreBox at b s) fits may =
    below_more _ b.reg (s.reg ∷ [])
    (is_there (λ kind. Goes (slice_get w.regs s.reg) (box_content kind)) w.regs b.reg fits
    (λ never. nothing_goes _ never))
    (below_more _ s.reg [] (from_below _ w.regs s.reg fits) (below_none _))
registers_below w block (LoadProp at r o i) fits may =
    below_more _ r (o.reg ∷ []) (to_below _ w.regs r fits)
    (below_more _ o.reg []
    (is_there (λ kind. Goes (part (shape_of w.shapes is_cell kind) i) (slice_get w.regs r))
    w.regs o.reg fits (λ never. never)) (below_none _))
registers_below w block (StoreProp at o i s) fits may =
    below_more _ o.reg (s.reg ∷ [])
    (is_there (λ kind. Goes (slice_get w.regs s.reg) (part (shape_of w.shapes is_cell kind) i))
    w.regs o.reg fits (λ never. nothing_goes _ never))
    (below_more _ s.reg [] (from_below _ w.regs s.reg fits) (below_none _))
registers_below w block (LoadGlobal at r g) fits may =
    below_more _ r [] (to_below _ w.regs r fits) (below_none _)
registers_below w block (StoreGlobal at g s) fits may =
    below_more _ s.reg [] (from_below _ w.regs s.reg fits) (below_none _)
registers_below w block (NewClosure at r f cs) fits may =
    below_more _ r (regs_of cs) (to_below _ w.regs r fits.1) (all_captured w.regs cs _ fits.0)
registers_below w block (Call at r kind f ss) fits may =
    below_more _ r (regs_of ss) (to_below _ w.regs r fits.1) (all_go w.regs ss _ fits.0)
registers_below w block (CallClosure at r c ss) fits may =
    below_more _ r (c.reg ∷ regs_of ss) (to_below _ w.regs r fits.1)
    (below_more _ c.reg (regs_of ss)
    (is_there (λ kind. Goes (given (form_of kind)) (slice_get w.regs r)) w.regs c.reg fits.1
    (λ never. never)) (all_go w.regs ss _ fits.0))
registers_below w block (NewTask at r f cs) fits may =
    below_more _ r (regs_of cs) (to_below _ w.regs r fits.1) (all_captured w.regs cs _ fits.0)
registers_below w block (Await at r t) fits may =
    below_more _ r (t.reg ∷ []) (to_below _ w.regs r fits)
    (below_more _ t.reg []
    (is_there (λ kind. Goes (awaited (form_of kind)) (slice_get w.regs r)) w.regs t.reg fits
    (λ never. never)) (below_none _))
registers_below w block (Yield at r) fits may =
    below_more _ r [] (to_below (value Void) w.regs r fits) (below_none _)

-- The functions that an instruction mentions are there.
pub functions_below : (shapes : List Shape) (globals : List GlobalKind)
    (functions : List Function) (regs : List RegKind) (instr : Instr)
    → KindsFit shapes globals functions regs instr
    → AllBelow (length functions) (functions_of instr)
functions_below shapes globals functions regs (NewClosure at r f cs) fits =
    below_more _ f []
    (is_there (λ function. Goes (option_and_then (closure_of (length cs)) function)
    (slice_get regs r)) functions f fits.1 (λ never. never)) (below_none _)
functions_below shapes globals functions regs (Call at r kind f ss) fits =
    below_more _ f []
    (is_there (λ function. Goes (result_of function) (slice_get regs r)) functions f fits.1
    (λ never. never)) (below_none _)
functions_below shapes globals functions regs (NewTask at r f cs) fits =
    below_more _ f []
    (is_there (λ function. EachOf IsCaptured (kinds_of regs cs) (option_map taken function))
    functions f fits.0 (λ never. never)) (below_none _)
functions_below shapes globals functions regs _ fits = below_none _

-- The global variables that it mentions are there.
pub globals_below : (shapes : List Shape) (globals : List GlobalKind)
    (functions : List Function) (regs : List RegKind) (instr : Instr)
    → KindsFit shapes globals functions regs instr → AllBelow (length globals) (globals_of instr)
globals_below shapes globals functions regs (LoadGlobal at r g) fits =
    below_more _ g []
    (is_there (λ global. Goes (option_map (λ (one : GlobalKind). Plain one.ty) global)
    (slice_get regs r)) globals g fits (λ never. never)) (below_none _)
globals_below shapes globals functions regs (StoreGlobal at g s) fits =
    below_more _ g []
    (is_there (λ global. Goes (slice_get regs s.reg)
    (option_map (λ (one : GlobalKind). Plain one.ty) global)) globals g fits
    (λ never. nothing_goes _ never)) (below_none _)
globals_below shapes globals functions regs _ fits = below_none _

-- the shape that a value, or an object, is made of
made_below : (shapes : List Shape) (froms : List (Option RegKind)) (k : ℕ) (tag : Option ℕ)
    → EachOf Goes froms (made_of shapes k tag) → k < length shapes
made_below shapes froms k None fits =
    is_there (λ shape. EachOf Goes froms (parts (option_and_then (λ (s : Shape).
    cond (is_struct s.kind) (Some s) None) shape))) shapes k fits (λ never. never)
made_below shapes froms k (Some tag) fits =
    is_there (λ shape. EachOf Goes froms (payload (option_and_then (λ (s : Shape).
    cond (is_enum s.kind) (Some s) None) shape) tag)) shapes k fits (λ never. never)

cell_below : (shapes : List Shape) (is_kind : ShapeKind → Bool) (froms : List (Option RegKind))
    (k : ℕ) → EachOf Goes froms (parts (shape_at shapes is_kind k)) → k < length shapes
cell_below shapes is_kind froms k fits =
    is_there (λ shape. EachOf Goes froms (parts (option_and_then (λ (s : Shape).
    cond (is_kind s.kind) (Some s) None) shape))) shapes k fits (λ never. never)

-- The shapes that it mentions are there.
pub shapes_below : (shapes : List Shape) (globals : List GlobalKind)
    (functions : List Function) (regs : List RegKind) (instr : Instr)
    → KindsFit shapes globals functions regs instr → AllBelow (length shapes) (shapes_of instr)
shapes_below shapes globals functions regs (Make at r k tag ss) fits =
    below_more _ k [] (made_below shapes _ k tag fits.0) (below_none _)
shapes_below shapes globals functions regs (NewObject at r k ss) fits =
    below_more _ k [] (cell_below shapes is_class _ k fits.0) (below_none _)
shapes_below shapes globals functions regs (NewActor at r k ss) fits =
    below_more _ k [] (cell_below shapes is_actor _ k fits.0) (below_none _)
shapes_below shapes globals functions regs _ fits = below_none _

-- the registers that a last instruction reads
pub last_below : (shapes : List Shape) (regs : List RegKind) (result : Ty) (last : Last)
    → LastKindsFit shapes regs result last → AllBelow (length regs) (last_registers last)
last_below shapes regs result (Jump to) fits = below_none _
last_below shapes regs result (Branch s holds fails) fits =
    below_more _ s.reg [] (slice_get_within regs s.reg _ fits) (below_none _)
last_below shapes regs result (Switch s to) fits =
    below_more _ s.reg []
    (is_there (λ kind. option_map (λ (shape : Shape). length shape.cases)
    (shape_of shapes is_enum kind) ≡ Some (length to)) regs s.reg fits (λ never. cc)) (below_none _)
last_below shapes regs result (Return (Some s)) fits =
    below_more _ s.reg [] (from_below _ regs s.reg fits) (below_none _)
last_below shapes regs result (Return None) fits = below_none _
