-- The operands of an instruction have values, since each way to it sets them.
use Rattle.std.proofs.Common.{◌≡◌, ℕ, suc, ◌<◌, IsTrue, Option, Some, None, List, [], ◌∷◌}
use Rattle.std.proofs.Common.{zero, length, refl, ap, sym, ◌∙◌, subst}
use Rattle.std.specs.Prelude.{option_and_then}
use Rattle.std.specs.Option.{option_map}
use Rattle.std.specs.List.{slice_get}
use Rattle.std.proofs.lemmas.Option.{slice_get-map}
use Rattle.sw_list.proofs.ListLemmas.{some_injective, at_index}
use Rattle.sw_types.specs.declared.shape.Shape.{Shape}
use Rattle.sw_graph.specs.declared.function.Function.{Function}
use Rattle.sw_graph.specs.declared.function.RegKind.{RegKind}
use Rattle.sw_graph.specs.declared.graph.Graph.{Graph}
use Rattle.sw_graph.specs.declared.instr.Instr.{Instr}
use Rattle.sw_graph.specs.declared.instr.Last.{Last}
use Rattle.sw_graph.specs.declared.instr.Operand.{Operand}
use Rattle.sw_graph.specs.Kinds.{IsCaptured, Each, EachOf, kinds_of}
use Rattle.sw_graph.specs.Mentions.{operands_of, set_by, reads, and_then_all, registers_of}
use Rattle.sw_graph.specs.Mentions.{last_registers}
use Rattle.sw_graph.specs.Points.{Middle, End, point_in}
use Rattle.sw_graph.specs.Ways.{is_set}
use Rattle.sw_graph.specs.WellFormed.{FunctionFits, BlockFits, InstrFits, LastFits}
use Rattle.sw_value.specs.declared.value.Value.{Value}
use Rattle.sw_value.specs.Value.{values_at}
use Rattle.sw_machine_kind_facts.specs.Kinds.{HasKind, HaveKinds}
use Rattle.sw_machine_kind_facts.specs.Operands.{HasOperand}
use Rattle.sw_machine_kind_facts.specs.Standing.{PlaceOfPoint, Stands}
use Rattle.sw_machine_kind_facts.proofs.ItemLemmas.{found_within}
use Rattle.sw_machine_kind_facts.proofs.KindLemmas.{goes_to}
use Rattle.sw_machine_kind_facts.proofs.PlaceLemmas.{instr_at_place, last_at_place}
use Rattle.sw_machine_kind_facts.proofs.SureLemmas.{way_of}

pub function_fits : (graph : Graph) (n : ℕ) (function : Function)
    → slice_get graph.functions n ≡ Some function
    → FunctionFits graph.shapes graph.globals graph.functions function
function_fits graph n function is =
    at_index (FunctionFits graph.shapes graph.globals graph.functions) graph.functions n function
    graph.well_formed.each is

pub block_fits : (graph : Graph) (function : Function)
    → FunctionFits graph.shapes graph.globals graph.functions function → (p : ℕ)
    (place : PlaceOfPoint function p)
    → BlockFits graph.shapes graph.globals graph.functions function place.block
block_fits graph function fits p place =
    at_index (BlockFits graph.shapes graph.globals graph.functions function) function.blocks
    place.number place.block fits.blocks place.is

pub instr_fits : (graph : Graph) (function : Function)
    → FunctionFits graph.shapes graph.globals graph.functions function → (p : ℕ)
    → PlaceOfPoint function p → (instr : Instr) → point_in function p ≡ Some (Middle instr)
    → InstrFits graph.shapes graph.globals graph.functions function instr
instr_fits graph function fits p place instr here =
    let block = block_fits graph function fits p place in
    at_index (InstrFits graph.shapes graph.globals graph.functions function) place.block.instrs
    place.index instr block.instrs (instr_at_place function p place instr here)

pub last_fits : (graph : Graph) (function : Function)
    → FunctionFits graph.shapes graph.globals graph.functions function → (p : ℕ)
    → PlaceOfPoint function p → (last : Last) → point_in function p ≡ Some (End last)
    → LastFits graph.shapes function last
last_fits graph function fits p place last here =
    let block = block_fits graph function fits p place in
    subst (LastFits graph.shapes function) (sym (last_at_place function p place last here))
    block.last

-- a register that is read within a function, and that the way has set
has_register : (shapes : List Shape) (cells : List RegKind) (function : Function) (p : ℕ)
    (regs : List (Option Value)) (s : Stands shapes cells function None p regs) (r : ℕ)
    → r < length function.regs → IsTrue (is_set function s.passed r)
    → HasOperand shapes cells function.regs regs r
has_register shapes cells function p regs s r inside set =
    let found = s.has r inside set (λ e. cc) in
    let kind = found_within function.regs r inside in
    record {
      value = found.0;
      has = found.1;
      kind = kind.0;
      is = kind.1;
      fits = s.slots.each r found.0 kind.0 found.1 kind.1;
    }

after_set : (o : Option ℕ) (rs : List ℕ) (k r : ℕ) → slice_get rs k ≡ Some r
    → (j : ℕ) × (slice_get (and_then_all o rs) j ≡ Some r)
after_set None rs k r e = (k, e)
after_set (Some q) rs k r e = (suc k, e)

pub operand_has : (graph : Graph) (cells : List RegKind) (function : Function)
    → FunctionFits graph.shapes graph.globals graph.functions function → (p : ℕ)
    (regs : List (Option Value)) → Stands graph.shapes cells function None p regs → (instr : Instr)
    → point_in function p ≡ Some (Middle instr) → (k : ℕ) (o : Operand)
    → slice_get (operands_of instr) k ≡ Some o
    → HasOperand graph.shapes cells function.regs regs o.reg
operand_has graph cells function fits p regs s instr here k o is =
    let read : slice_get (reads instr) k ≡ Some o.reg =
    slice_get-map (λ (operand : Operand). operand.reg) (operands_of instr) k
    ∙ ap (option_map (λ (operand : Operand). operand.reg)) is in
    let mentioned = after_set (set_by instr) (reads instr) k o.reg read in
    let instr_fit = instr_fits graph function fits p s.place instr here in
    has_register graph.shapes cells function p regs s o.reg
    (at_index (λ r. r < length function.regs) (registers_of instr) mentioned.0 o.reg
    instr_fit.registers mentioned.1)
    (at_index (λ r. IsTrue (is_set function s.passed r)) (reads instr) k o.reg
    (fits.sets p s.passed (way_of function p s.passed s.way) (Middle instr) here) read)

pub last_has : (graph : Graph) (cells : List RegKind) (function : Function)
    → FunctionFits graph.shapes graph.globals graph.functions function → (p : ℕ)
    (regs : List (Option Value)) → Stands graph.shapes cells function None p regs → (last : Last)
    → point_in function p ≡ Some (End last) → (k r : ℕ)
    → slice_get (last_registers last) k ≡ Some r
    → HasOperand graph.shapes cells function.regs regs r
last_has graph cells function fits p regs s last here k r is =
    let last_fit = last_fits graph function fits p s.place last here in
    has_register graph.shapes cells function p regs s r
    (at_index (λ r. r < length function.regs) (last_registers last) k r last_fit.registers is)
    (at_index (λ r. IsTrue (is_set function s.passed r)) (last_registers last) k r
    (fits.sets p s.passed (way_of function p s.passed s.way) (End last) here) is)

-- the values of some operands, of the kinds of the places to which they go
pub record Gathered (shapes : List Shape) (cells : List RegKind) (regs : List (Option Value))
    (ss : List Operand) (places : List RegKind) : Type 0 where
  pub values : List Value
  pub are : values_at regs ss ≡ Some values
  pub have : HaveKinds shapes cells values places

have_none : (shapes : List Shape) (cells : List RegKind) → HaveKinds shapes cells [] []
have_none shapes cells = record { count = refl; each = λ i w k here at. cc }

pub have_more : (shapes : List Shape) (cells : List RegKind) (v : Value) (vs : List Value)
    (kind : RegKind) (kinds : List RegKind) → HasKind shapes cells v kind
    → HaveKinds shapes cells vs kinds → HaveKinds shapes cells (v ∷ vs) (kind ∷ kinds)
have_more shapes cells v vs kind kinds has have = record {
  count = ap (λ n. suc n) have.count;
  each = by;
} where
  by : (i : ℕ) (w : Value) (k : RegKind) → slice_get (v ∷ vs) i ≡ Some w
      → slice_get (kind ∷ kinds) i ≡ Some k → HasKind shapes cells w k
  by zero w k here at = subst (λ x. HasKind shapes cells x k) (some_injective here)
      (subst (λ x. HasKind shapes cells v x) (some_injective at) has)
  by (suc i) w k here at = have.each i w k here at

pub gathered : (shapes : List Shape) (cells : List RegKind) (kinds : List RegKind)
    (regs : List (Option Value)) (May : Option RegKind → Option RegKind → Type 0)
    → ((a b : Option RegKind) → May a b → IsCaptured a b) → (ss : List Operand)
    (places : List RegKind)
    → ((k : ℕ) (o : Operand) → slice_get ss k ≡ Some o → HasOperand shapes cells kinds regs o.reg)
    → Each May (kinds_of kinds ss) places → Gathered shapes cells regs ss places
gathered shapes cells kinds regs May may [] [] has each =
    record { values = []; are = refl; have = have_none shapes cells }
gathered shapes cells kinds regs May may [] (place ∷ places) has each = absurd each
gathered shapes cells kinds regs May may (s ∷ ss) [] has each = absurd each
gathered shapes cells kinds regs May may (s ∷ ss) (place ∷ places) has each =
    let first = has 0 s refl in
    let rest = gathered shapes cells kinds regs May may ss places (λ k o is. has (suc k) o is)
    each.1 in
    let went = goes_to shapes cells first.value first.kind (slice_get kinds s.reg) (Some place)
    first.fits first.is (may (slice_get kinds s.reg) (Some place) each.0) in
    record {
      values = first.value ∷ rest.values;
      are = ap (option_and_then (λ y. option_map (λ ys. y ∷ ys) (values_at regs ss))) first.has
          ∙ ap (option_map (λ ys. first.value ∷ ys)) rest.are;
      have = have_more shapes cells first.value rest.values place places
          (subst (HasKind shapes cells first.value) (some_injective (sym went.is)) went.has)
          rest.have;
    }

-- the same, where the places may not be known
pub record GatheredIn (shapes : List Shape) (cells : List RegKind) (regs : List (Option Value))
    (ss : List Operand) (places : Option (List RegKind)) : Type 0 where
  pub kinds : List RegKind
  pub are : places ≡ Some kinds
  pub gathers : Gathered shapes cells regs ss kinds

pub gathered_in : (shapes : List Shape) (cells : List RegKind) (kinds : List RegKind)
    (regs : List (Option Value)) (May : Option RegKind → Option RegKind → Type 0)
    → ((a b : Option RegKind) → May a b → IsCaptured a b) → (ss : List Operand)
    (places : Option (List RegKind))
    → ((k : ℕ) (o : Operand) → slice_get ss k ≡ Some o → HasOperand shapes cells kinds regs o.reg)
    → EachOf May (kinds_of kinds ss) places → GatheredIn shapes cells regs ss places
gathered_in shapes cells kinds regs May may ss (Some places) has each = record {
  kinds = places;
  are = refl;
  gathers = gathered shapes cells kinds regs May may ss places has each;
}
gathered_in shapes cells kinds regs May may ss None has each = absurd each
