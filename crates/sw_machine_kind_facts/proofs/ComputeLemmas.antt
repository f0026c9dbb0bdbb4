-- Literals, operators and prints are never stuck.
use Rattle.std.proofs.Common.{◌≡◌, ℕ, ℤ, suc, ◌+◌, Bool, true, false, not, cond, IsTrue}
use Rattle.std.proofs.Common.{Option, Some, None, List, [], ◌∷◌, refl, ap, sym, ◌∙◌, subst, arith}
use Rattle.std.specs.Prelude.{option_and_then, Result, Ok, Err}
use Rattle.std.specs.Prelude.{pos, ◌+ℤ◌, ◌-ℤ◌, ◌*ℤ◌, neg_ℤ, int_lt, int_le, int_div, int_rem}
use Rattle.std.specs.Ordering.{int_eq}
use Rattle.std.specs.Option.{option_map}
use Rattle.std.specs.List.{slice_get, slice_set}
use Rattle.std.proofs.lemmas.Option.{slice_get-map, slice_get_within}
use Rattle.sw_list.proofs.ListLemmas.{some_injective, at_index}
use Rattle.sw_types.specs.declared.shape.Shape.{Shape}
use Rattle.sw_types.specs.declared.ty.Ty.{Ty, out-Ty}
use Rattle.sw_types.specs.declared.ty.Ty.TheOpen as type
use Rattle.sw_types.specs.declared.ty.Ty.TheVariants.{Int, Bool as BoolType, Unit as Void}
use Rattle.sw_types.specs.declared.ty.Ty.TheVariants.{outs-Int, outs-Bool, outs-Unit}
use Rattle.sw_graph.specs.declared.function.Function.{Function}
use Rattle.sw_graph.specs.declared.function.RegKind.{RegKind}
use Rattle.sw_graph.specs.declared.function.RegKind.TheVariants.{Plain, BoxOf}
use Rattle.sw_graph.specs.declared.graph.Graph.{Graph}
use Rattle.sw_graph.specs.declared.instr.BinOp.{BinOp}
use Rattle.sw_graph.specs.declared.instr.BinOp.TheVariants.{Add, Sub, Mul, Div, Rem, Eq, Ne, Lt, Le}
use Rattle.sw_graph.specs.declared.instr.BinOp.TheVariants.{Gt, Ge}
use Rattle.sw_graph.specs.declared.instr.Instr.TheVariants as instr
use Rattle.sw_graph.specs.declared.instr.Literal.{Literal}
use Rattle.sw_graph.specs.declared.instr.Literal.TheVariants as literal
use Rattle.sw_graph.specs.declared.instr.Operand.{Operand}
use Rattle.sw_graph.specs.declared.instr.UnOp.{UnOp}
use Rattle.sw_graph.specs.declared.instr.UnOp.TheVariants.{Not, Neg}
use Rattle.sw_graph.specs.Kinds.{value, literal_type, un_type, bin_type, TakesBoth}
use Rattle.sw_graph.specs.Kinds.{is_printable, form_is_printable, kinds_of}
use Rattle.sw_value.specs.declared.frame.Frame.{Frame}
use Rattle.sw_value.specs.declared.state.State.{State}
use Rattle.sw_value.specs.declared.state.TrapKind.{TrapKind}
use Rattle.sw_value.specs.declared.state.TrapKind.TheVariants.{Overflow, ZeroDivisor}
use Rattle.sw_value.specs.declared.effect.Effect.TheVariants as effect
use Rattle.sw_value.specs.declared.value.Value.{Value, out-Value}
use Rattle.sw_value.specs.declared.value.Value.TheOpen as layer
use Rattle.sw_value.specs.declared.value.Value.TheVariants as value
use Rattle.sw_value.specs.Arithmetic.{fits, unless_too_large, of_integers}
use Rattle.sw_value.specs.Arithmetic.{is_same_truth, layer_binary, binary, layer_unary, unary}
use Rattle.sw_value.specs.Effect.{needs, computed_of, instr_effect}
use Rattle.sw_value.specs.Lists.{each_of}
use Rattle.sw_value.specs.Printed.{text_of, layer_text, text_at, line_of, printed_line}
use Rattle.sw_value.specs.Value.{value_of, operand_value}
use Rattle.sw_machine_kind_facts.specs.Kinds.{HasKind, integer, truth, void, Integer, Truth, sort_of}
use Rattle.sw_machine_kind_facts.specs.Kinds.{layer_sort}
use Rattle.sw_machine_kind_facts.specs.Kinds.{Referents}
use Rattle.sw_machine_kind_facts.proofs.ItemLemmas.{set_here}
use Rattle.sw_machine_kind_facts.proofs.KindLemmas.{goes_to, goes_captured, integer_is, truth_is}
use Rattle.sw_machine_kind_facts.proofs.TopLemmas.{TopFits, IsAt, kinds_at, operand_at, gives, puts, StandsAt}

int_has : (shapes : List Shape) (cells : List RegKind) (n : ℤ)
    → HasKind shapes cells (value.Int n) (Plain Int)
int_has shapes cells n =
    integer (value.Int n) (Plain Int) n (value.outs-Int n) (ap (layer_sort shapes) outs-Int)

truth_has : (shapes : List Shape) (cells : List RegKind) (b : Bool)
    → HasKind shapes cells (value.Bool b) (Plain BoolType)
truth_has shapes cells b =
    truth (value.Bool b) (Plain BoolType) b (value.outs-Bool b) (ap (layer_sort shapes) outs-Bool)

pub void_has : (shapes : List Shape) (cells : List RegKind)
    → HasKind shapes cells value.Unit (Plain Void)
void_has shapes cells =
    void value.Unit (Plain Void) value.outs-Unit (ap (layer_sort shapes) outs-Unit)

literal_has : (shapes : List Shape) (cells : List RegKind) (l : Literal)
    → HasKind shapes cells (value_of l) (Plain (literal_type l))
literal_has shapes cells (literal.Int n) = int_has shapes cells n
literal_has shapes cells (literal.Bool b) = truth_has shapes cells b

pub const_fits : (graph : Graph) (world : Referents) (state : State) (frame : Frame)
    (depth at r : ℕ)
    (v : Literal) → (x : IsAt graph world state frame (instr.Const at r v))
    → TopFits graph world state x.run.function frame
    (instr_effect graph state depth frame (frame.point + 1) (instr.Const at r v))
unfolding TopFits
const_fits graph world state frame depth at r v x =
    let run = x.run in
    let went = goes_to graph.shapes world.cells (value_of v) (Plain (literal_type v))
    (value (literal_type v)) (slice_get run.function.regs r)
    (literal_has graph.shapes world.cells v) refl
    (goes_captured (value (literal_type v)) (slice_get run.function.regs r)
    (kinds_at graph world state frame (instr.Const at r v) x)) in
    let inside = slice_get_within run.function.regs r went.kind went.is in
    let count = run.stands.slots.count in
    gives graph world state frame (instr.Const at r v) x refl r refl (value_of v)
    (refl, set_here frame.regs r (value_of v) (omega (arith, inside, count))) went

-- what an operator gives has its type, or it is a trap
abbrev ResultHas : List Shape → List RegKind → Ty → Result Value TrapKind → Type 0
ResultHas shapes cells ty (Ok v) = HasKind shapes cells v (Plain ty)
ResultHas shapes cells ty (Err kind) = Unit {0}

unless_has : (shapes : List Shape) (cells : List RegKind) (deciding n : ℤ)
    → ResultHas shapes cells Int (unless_too_large deciding n)
unless_has shapes cells deciding n = by (fits deciding) where
  by : (b : Bool) → ResultHas shapes cells Int (cond b (Ok (value.Int n)) (Err Overflow))
  by true = int_has shapes cells n
  by false = tt

divided_has : (shapes : List Shape) (cells : List RegKind) (b deciding n : ℤ)
    → ResultHas shapes cells Int
    (cond (int_eq b (pos 0)) (Err ZeroDivisor) (unless_too_large deciding n))
divided_has shapes cells b deciding n = by (int_eq b (pos 0)) where
  by : (zero_divisor : Bool) → ResultHas shapes cells Int
      (cond zero_divisor (Err ZeroDivisor) (unless_too_large deciding n))
  by true = tt
  by false = unless_has shapes cells deciding n

integers_have : (shapes : List Shape) (cells : List RegKind) (op : BinOp) (a b : ℤ)
    → ResultHas shapes cells (bin_type op) (of_integers op a b)
integers_have shapes cells Add a b = unless_has shapes cells (a +ℤ b) (a +ℤ b)
integers_have shapes cells Sub a b = unless_has shapes cells (a -ℤ b) (a -ℤ b)
integers_have shapes cells Mul a b = unless_has shapes cells (a *ℤ b) (a *ℤ b)
integers_have shapes cells Div a b = divided_has shapes cells b (int_div a b) (int_div a b)
integers_have shapes cells Rem a b = divided_has shapes cells b (int_div a b) (int_rem a b)
integers_have shapes cells Eq a b = truth_has shapes cells (int_eq a b)
integers_have shapes cells Ne a b = truth_has shapes cells (not (int_eq a b))
integers_have shapes cells Lt a b = truth_has shapes cells (int_lt a b)
integers_have shapes cells Le a b = truth_has shapes cells (int_le a b)
integers_have shapes cells Gt a b = truth_has shapes cells (int_lt b a)
integers_have shapes cells Ge a b = truth_has shapes cells (int_le b a)

-- what an operator computes of values of its types
record Computes (shapes : List Shape) (cells : List RegKind) (ty : Ty)
    (o : Option (Result Value TrapKind)) : Type 0 where
  result : Result Value TrapKind
  is : o ≡ Some result
  has : ResultHas shapes cells ty result

int_sort : (shapes : List Shape) (kind : RegKind) → Some kind ≡ value Int
    → sort_of shapes kind ≡ Integer
int_sort shapes kind e = ap (sort_of shapes) (some_injective e) ∙ ap (layer_sort shapes) outs-Int

bool_sort : (shapes : List Shape) (kind : RegKind) → Some kind ≡ value BoolType
    → sort_of shapes kind ≡ Truth
bool_sort shapes kind e = ap (sort_of shapes) (some_injective e) ∙ ap (layer_sort shapes) outs-Bool

unary_computes : (shapes : List Shape) (cells : List RegKind) (op : UnOp) (v : Value)
    (kind : RegKind) → HasKind shapes cells v kind → Some kind ≡ value (un_type op)
    → Computes shapes cells (un_type op) (unary op v)
unary_computes shapes cells Not v kind has is =
    let b = truth_is shapes cells v kind has (bool_sort shapes kind is) in
    record {
      result = Ok (value.Bool (not b.0));
      is = ap (layer_unary Not) b.1;
      has = truth_has shapes cells (not b.0);
    }
unary_computes shapes cells Neg v kind has is =
    let n = integer_is shapes cells v kind has (int_sort shapes kind is) in
    record {
      result = unless_too_large (neg_ℤ n.0) (neg_ℤ n.0);
      is = ap (layer_unary Neg) n.1;
      has = unless_has shapes cells (neg_ℤ n.0) (neg_ℤ n.0);
    }

binary_integers : (shapes : List Shape) (cells : List RegKind) (op : BinOp) (v w : Value)
    (k l : RegKind) → HasKind shapes cells v k → HasKind shapes cells w l
    → sort_of shapes k ≡ Integer → sort_of shapes l ≡ Integer
    → Computes shapes cells (bin_type op) (binary op v w)
binary_integers shapes cells op v w k l has also first second =
    let a = integer_is shapes cells v k has first in
    let b = integer_is shapes cells w l also second in
    record {
      result = of_integers op a.0 b.0;
      is = ap (λ x. layer_binary op x (out-Value w)) a.1 ∙ ap (layer_binary op (layer.Int a.0)) b.1;
      has = integers_have shapes cells op a.0 b.0;
    }

-- `==` and `!=` of two truth values
abbrev Compares : BinOp → Type 0
Compares Eq = Unit {0}
Compares Ne = Unit {0}
Compares _ = ⊥

truths_compute : (shapes : List Shape) (cells : List RegKind) (op : BinOp) (a b : Bool)
    → Compares op → Computes shapes cells (bin_type op) (layer_binary op (layer.Bool a)
    (layer.Bool b))
truths_compute shapes cells Eq a b is = record {
  result = Ok (value.Bool (is_same_truth a b));
  is = refl;
  has = truth_has shapes cells (is_same_truth a b);
}
truths_compute shapes cells Ne a b is = record {
  result = Ok (value.Bool (not (is_same_truth a b)));
  is = refl;
  has = truth_has shapes cells (not (is_same_truth a b));
}
truths_compute shapes cells _ a b is = absurd is

-- an integer or a truth value
data IsPrinted (shapes : List Shape) (kind : RegKind) : Type 0 where
  number : sort_of shapes kind ≡ Integer → IsPrinted shapes kind
  boolean : sort_of shapes kind ≡ Truth → IsPrinted shapes kind

printed_is : (shapes : List Shape) (kind : RegKind) → IsTrue (is_printable (Some kind))
    → IsPrinted shapes kind
printed_is shapes (BoxOf ty) is = cc
printed_is shapes (Plain ty) is = by (out-Ty ty) refl is where
  by : (l : type.Ty-F Ty) → out-Ty ty ≡ l → IsTrue (form_is_printable (Some l))
      → IsPrinted shapes (Plain ty)
  by type.Int e is = number (ap (layer_sort shapes) e)
  by type.Bool e is = boolean (ap (layer_sort shapes) e)
  by type.Unit e is = absurd (let c : ⊥ = cc in c)
  by (type.Named k) e is = absurd (let c : ⊥ = cc in c)
  by (type.Func sendable params result) e is = absurd (let c : ⊥ = cc in c)
  by (type.Task result) e is = absurd (let c : ⊥ = cc in c)

compared : (shapes : List Shape) (cells : List RegKind) (op : BinOp) (v w : Value) (k l : RegKind)
    → HasKind shapes cells v k → HasKind shapes cells w l → Compares op
    → IsTrue (is_printable (Some k)) → k ≡ l → Computes shapes cells (bin_type op) (binary op v w)
compared shapes cells op v w k l has also compares printable same =
    elim (printed_is shapes k printable) [
      | number is ↦ binary_integers shapes cells op v w k l has also is
          (ap (sort_of shapes) (sym same) ∙ is)
      | boolean is ↦
          let a = truth_is shapes cells v k has is in
          let b = truth_is shapes cells w l also (ap (sort_of shapes) (sym same) ∙ is) in
          subst (Computes shapes cells (bin_type op))
          (sym (ap (λ x. layer_binary op x (out-Value w)) a.1
          ∙ ap (layer_binary op (layer.Bool a.0)) b.1))
          (truths_compute shapes cells op a.0 b.0 compares)
    ]

calculated : (shapes : List Shape) (cells : List RegKind) (op : BinOp) (v w : Value) (k l : RegKind)
    → HasKind shapes cells v k → HasKind shapes cells w l
    → (Some k ≡ value Int) × (Some l ≡ value Int)
    → Computes shapes cells (bin_type op) (binary op v w)
calculated shapes cells op v w k l has also both =
    binary_integers shapes cells op v w k l has also (int_sort shapes k both.0)
    (int_sort shapes l both.1)

binary_computes : (shapes : List Shape) (cells : List RegKind) (op : BinOp) (v w : Value)
    (k l : RegKind) → HasKind shapes cells v k → HasKind shapes cells w l
    → TakesBoth op (Some k) (Some l) → Computes shapes cells (bin_type op) (binary op v w)
binary_computes shapes cells Eq v w k l has also takes =
    compared shapes cells Eq v w k l has also tt takes.0 (some_injective takes.1)
binary_computes shapes cells Ne v w k l has also takes =
    compared shapes cells Ne v w k l has also tt takes.0 (some_injective takes.1)
binary_computes shapes cells Add v w k l has also takes =
    calculated shapes cells Add v w k l has also takes
binary_computes shapes cells Sub v w k l has also takes =
    calculated shapes cells Sub v w k l has also takes
binary_computes shapes cells Mul v w k l has also takes =
    calculated shapes cells Mul v w k l has also takes
binary_computes shapes cells Div v w k l has also takes =
    calculated shapes cells Div v w k l has also takes
binary_computes shapes cells Rem v w k l has also takes =
    calculated shapes cells Rem v w k l has also takes
binary_computes shapes cells Lt v w k l has also takes =
    calculated shapes cells Lt v w k l has also takes
binary_computes shapes cells Le v w k l has also takes =
    calculated shapes cells Le v w k l has also takes
binary_computes shapes cells Gt v w k l has also takes =
    calculated shapes cells Gt v w k l has also takes
binary_computes shapes cells Ge v w k l has also takes =
    calculated shapes cells Ge v w k l has also takes

-- the register gets what was computed, or the machine halts
computed_fits : (graph : Graph) (world : Referents) (state : State) (function : Function)
    (frame : Frame) (next at r : ℕ) (ty : Ty) (o : Option (Result Value TrapKind))
    → Computes graph.shapes world.cells ty o
    → ((v : Value) → HasKind graph.shapes world.cells v (Plain ty)
    → StandsAt graph world.cells function None next (slice_set frame.regs r (Some v)))
    → TopFits graph world state function frame (needs o (computed_of next at r))
unfolding TopFits
computed_fits graph world state function frame next at r ty o computes put =
    subst (λ x. TopFits graph world state function frame (needs x (computed_of next at r)))
    (sym computes.is) (by computes.result computes.has) where
      by : (result : Result Value TrapKind) → ResultHas graph.shapes world.cells ty result
          → TopFits graph world state function frame (computed_of next at r result)
      by (Ok v) has = put v has
      by (Err kind) has = tt

pub un_fits : (graph : Graph) (world : Referents) (state : State) (frame : Frame) (depth at r : ℕ)
    (op : UnOp) (s : Operand) → (x : IsAt graph world state frame (instr.Un at r op s))
    → TopFits graph world state x.run.function frame
    (instr_effect graph state depth frame (frame.point + 1) (instr.Un at r op s))
un_fits graph world state frame depth at r op s x =
    let kinds = kinds_at graph world state frame (instr.Un at r op s) x in
    let operand = operand_at graph world state frame (instr.Un at r op s) x 0 s refl in
    let computes = unary_computes graph.shapes world.cells op operand.value operand.kind
    operand.fits
    (sym operand.is ∙ kinds.0) in
    computed_fits graph world state x.run.function frame (frame.point + 1) at r (un_type op)
    (option_and_then (unary op) (operand_value frame.regs s))
    (record {
      result = computes.result;
      is = ap (option_and_then (unary op)) operand.has ∙ computes.is;
      has = computes.has;
    })
    (λ v has. puts graph world state frame (instr.Un at r op s) x refl r refl v
    (goes_to graph.shapes world.cells v (Plain (un_type op)) (value (un_type op))
    (slice_get x.run.function.regs r) has refl
    (goes_captured (value (un_type op)) (slice_get x.run.function.regs r) kinds.1)))

pub bin_fits : (graph : Graph) (world : Referents) (state : State) (frame : Frame) (depth at r : ℕ)
    (op : BinOp) (s t : Operand) → (x : IsAt graph world state frame (instr.Bin at r op s t))
    → TopFits graph world state x.run.function frame
    (instr_effect graph state depth frame (frame.point + 1) (instr.Bin at r op s t))
bin_fits graph world state frame depth at r op s t x =
    let kinds = kinds_at graph world state frame (instr.Bin at r op s t) x in
    let first = operand_at graph world state frame (instr.Bin at r op s t) x 0 s refl in
    let second = operand_at graph world state frame (instr.Bin at r op s t) x 1 t refl in
    let takes : TakesBoth op (Some first.kind) (Some second.kind) =
    subst (λ k. TakesBoth op k (Some second.kind)) first.is
    (subst (TakesBoth op (slice_get x.run.function.regs s.reg)) second.is kinds.0) in
    let computes = binary_computes graph.shapes world.cells op first.value second.value first.kind
    second.kind first.fits second.fits takes in
    subst (λ o. TopFits graph world state x.run.function frame
    (needs o (λ v. needs (option_and_then (binary op v) (operand_value frame.regs t))
    (computed_of (frame.point + 1) at r)))) (sym first.has)
    (computed_fits graph world state x.run.function frame (frame.point + 1) at r (bin_type op)
    (option_and_then (binary op first.value) (operand_value frame.regs t))
    (record {
      result = computes.result;
      is = ap (option_and_then (binary op first.value)) second.has ∙ computes.is;
      has = computes.has;
    })
    (λ v has. puts graph world state frame (instr.Bin at r op s t) x refl r refl v
    (goes_to graph.shapes world.cells v (Plain (bin_type op)) (value (bin_type op))
    (slice_get x.run.function.regs r) has refl
    (goes_captured (value (bin_type op)) (slice_get x.run.function.regs r) kinds.1))))

-- a line of values that can be printed
text_there : (shapes : List Shape) (cells : List RegKind) (v : Value) (kind : RegKind)
    → HasKind shapes cells v kind → IsTrue (is_printable (Some kind))
    → (text : List ℕ) × (text_of v ≡ Some text)
text_there shapes cells v kind has printable = by (printed_is shapes kind printable) where
  of : (l : layer.Value-F Value) (t : List ℕ) → layer_text l ≡ Some t → out-Value v ≡ l
      → (text : List ℕ) × (text_of v ≡ Some text)
  of l t e is = (t, ap layer_text is ∙ e)

  by : IsPrinted shapes kind → (text : List ℕ) × (text_of v ≡ Some text)
  by (number sort) = let n = integer_is shapes cells v kind has sort in
      of (layer.Int n.0) _ refl n.1
  by (boolean sort) = let b = truth_is shapes cells v kind has sort in
      of (layer.Bool b.0) _ refl b.1

each_there : {A B : Type 0} (f : A → Option B) (xs : List A)
    → ((k : ℕ) (x : A) → slice_get xs k ≡ Some x → (y : B) × (f x ≡ Some y))
    → (ys : List B) × (each_of f xs ≡ Some ys)
each_there f [] found = ([], refl)
each_there f (x ∷ xs) found =
    let first = found 0 x refl in
    let rest = each_there f xs (λ k y is. found (suc k) y is) in (
      first.0 ∷ rest.0,
      ap (option_and_then (λ y. option_map (λ ys. y ∷ ys) (each_of f xs))) first.1
          ∙ ap (option_map (λ ys. first.0 ∷ ys)) rest.1,
    )

pub print_fits : (graph : Graph) (world : Referents) (state : State) (frame : Frame)
    (depth at r : ℕ)
    (ss : List Operand) → (x : IsAt graph world state frame (instr.Print at r ss))
    → TopFits graph world state x.run.function frame
    (instr_effect graph state depth frame (frame.point + 1) (instr.Print at r ss))
unfolding TopFits printed_line
print_fits graph world state frame depth at r ss x =
    let kinds = kinds_at graph world state frame (instr.Print at r ss) x in
    let texts = each_there (text_at frame.regs) ss text in
    subst (λ o. TopFits graph world state x.run.function frame
    (needs o (λ line. effect.Print r line (frame.point + 1))))
    (sym (ap (option_map line_of) texts.1))
    (puts graph world state frame (instr.Print at r ss) x refl r refl value.Unit
    (goes_to graph.shapes world.cells value.Unit (Plain Void) (value Void)
    (slice_get x.run.function.regs r) (void_has graph.shapes world.cells) refl
    (goes_captured (value Void) (slice_get x.run.function.regs r) kinds.1))) where
      text : (k : ℕ) (o : Operand) → slice_get ss k ≡ Some o
          → (t : List ℕ) × (text_at frame.regs o ≡ Some t)
      text k o is =
          let operand = operand_at graph world state frame (instr.Print at r ss) x k o is in
          let printable = at_index (λ kind. IsTrue (is_printable kind))
          (kinds_of x.run.function.regs ss) k (slice_get x.run.function.regs o.reg)
          (kinds_at graph world state frame (instr.Print at r ss) x).0
          (slice_get-map (λ (operand : Operand). slice_get x.run.function.regs operand.reg) ss k
          ∙ ap (option_map (λ (operand : Operand). slice_get x.run.function.regs operand.reg)) is)
          in
          let found = text_there graph.shapes world.cells operand.value operand.kind operand.fits
          (subst (λ k. IsTrue (is_printable k)) operand.is printable) in
          (found.0, ap (option_and_then text_of) operand.has ∙ found.1)
