-- A supplied graph in which a way leads to a return of nothing: `while true { print(1) }` in a
-- function whose result is `Int`. The way leaves the loop, and the constant rules it out.
use Rattle.std.proofs.Common.{◌≡◌, ℕ, zero, suc, ◌+◌, ◌<◌, ◌||◌, Bool, true, false, IsTrue, Some}
use Rattle.std.proofs.Common.{None, List, [], ◌∷◌, refl, ap, sym, ◌∙◌, subst, arith, lit≤}
use Rattle.std.specs.Prelude.{pos, nat_lt}
use Rattle.std.specs.List.{slice_get, All}
use Rattle.std.proofs.lemmas.Bool.{or_left}
use Rattle.std.proofs.lemmas.List.Elements.{All-from_recursion, All-nil}
use Rattle.sw_list.proofs.ListLemmas.{some_injective}
use Rattle.sw_types.specs.declared.isolation.Iso.TheVariants.{Free}
use Rattle.sw_types.specs.declared.ty.Ty.{out-Ty}
use Rattle.sw_types.specs.declared.ty.Ty.TheOpen as type
use Rattle.sw_types.specs.declared.ty.Ty.TheVariants.{Int, Bool as BoolType, Unit as Void}
use Rattle.sw_types.specs.declared.ty.Ty.TheVariants.{outs-Int, outs-Unit}
use Rattle.sw_types.specs.Named.{is_within}
use Rattle.sw_graph.specs.declared.function.Function.{Function}
use Rattle.sw_graph.specs.declared.function.GlobalKind.{GlobalKind}
use Rattle.sw_graph.specs.declared.function.RegKind.{RegKind}
use Rattle.sw_graph.specs.declared.function.RegKind.TheVariants.{Plain}
use Rattle.sw_graph.specs.declared.graph.Graph.{Graph}
use Rattle.sw_graph.specs.declared.instr.Block.{Block}
use Rattle.sw_graph.specs.declared.instr.Instr.{Instr}
use Rattle.sw_graph.specs.declared.instr.Instr.TheVariants.{Const, Print}
use Rattle.sw_graph.specs.declared.instr.Last.{Last}
use Rattle.sw_graph.specs.declared.instr.Last.TheVariants.{Branch, Jump, Return}
use Rattle.sw_graph.specs.declared.instr.Literal.{Literal}
use Rattle.sw_graph.specs.declared.instr.Literal.TheVariants as literal
use Rattle.sw_graph.specs.declared.instr.Operand.{Operand}
use Rattle.sw_graph.specs.Kinds.{Goes, is_printable, literal_type, value}
use Rattle.sw_graph.specs.Limits.{IsWithinLimits}
use Rattle.sw_graph.specs.Mentions.{blocks_of}
use Rattle.sw_graph.specs.Payloads.{has_payload}
use Rattle.sw_graph.specs.Points.{Point, Middle, End, points_of, point_in, block_start}
use Rattle.sw_graph.specs.Ways as ways
use Rattle.sw_graph.specs.Ways.{Leads, IsAnnotated, is_number, point_reads, point_sets}
use Rattle.sw_graph.specs.WellFormed.{InstrFits, BlockFits, FunctionFits, IsWellFormed}
use Rattle.sw_graph.specs.WellFormed.{type_in}
use Rattle.sw_graph.proofs.KindLemmas.{bool_within, int_within, void_within, int_printable}
use Rattle.sw_graph.proofs.PayloadLemmas.{no_payloads_fit}
use Rattle.sw_graph.proofs.WayLemmas.{annotated}
use Rattle.sw_graph.specs.Annotations.{ReachesReturns}
use Rattle.sw_graph.specs.Supplied.{IsSupplied, ReturnsResult}
use Rattle.sw_graph.specs.Sure.{SureLeads, on, to, MayTake, MayLackResult, point_before}
use Rattle.sw_machine_kind_facts.proofs.AnnotationLemmas.{returns_result}
use Rattle.sw_machine_kind_facts.proofs.PlainLemmas.{plain_supplied}

abbrev read : ℕ → Operand
read r = record { reg = r; at = 0 }

-- the condition of the loop, its body, and what stands after it
abbrev head : Block
head = record { instrs = Const 0 0 (literal.Bool true) ∷ []; last = Branch (read 0) 1 2 }

abbrev inner : Block
inner = record {
  instrs = Const 0 1 (literal.Int (pos 1)) ∷ Print 0 2 (read 1 ∷ []) ∷ [];
  last = Jump 0;
}

abbrev after : Block
after = record { instrs = []; last = Return None }

abbrev kinds : List RegKind
kinds = Plain BoolType ∷ Plain Int ∷ Plain Void ∷ []

abbrev endless : Function
endless = record {
  key = 0;
  iso = Free;
  is_async = false;
  takes = 0;
  sending = [];
  sends = false;
  result = Int;
  regs = kinds;
  blocks = head ∷ inner ∷ after ∷ [];
}

-- where a register has been set that is read next
abbrev known : ℕ → ℕ → Bool
known zero r = false
known (suc zero) r = is_number r (Some 0)
known (suc (suc zero)) r = false
known (suc (suc (suc zero))) r = is_number r (Some 1)
known (suc (suc (suc (suc p)))) r = false

known_on : (p r : ℕ) (instr : Instr) → point_in endless p ≡ Some (Middle instr)
    → IsTrue (known (p + 1) r) → IsTrue (point_sets r (point_in endless p) || known p r)
unfolding points_of
known_on zero r instr here holds = or_left (is_number r (Some 0)) false holds
known_on (suc zero) r instr here holds = cc
known_on (suc (suc zero)) r instr here holds = or_left (is_number r (Some 1)) false holds
known_on (suc (suc (suc zero))) r instr here holds = cc
known_on (suc (suc (suc (suc zero)))) r instr here holds = cc
known_on (suc (suc (suc (suc (suc zero))))) r instr here holds = cc
known_on (suc (suc (suc (suc (suc (suc p)))))) r instr here holds = cc

known_start : (n q r : ℕ) → block_start endless n ≡ Some q → IsTrue (known q r) → ⊥
unfolding points_of
known_start zero q r starts holds =
    let wrong = subst (λ p. IsTrue (known p r)) (sym (some_injective starts)) holds in cc
known_start (suc zero) q r starts holds =
    let wrong = subst (λ p. IsTrue (known p r)) (sym (some_injective starts)) holds in cc
known_start (suc (suc zero)) q r starts holds =
    let wrong = subst (λ p. IsTrue (known p r)) (sym (some_injective starts)) holds in cc
known_start (suc (suc (suc n))) q r starts holds = cc

known_leads : (p q r : ℕ) → Leads endless p q → IsTrue (known q r)
    → IsTrue (point_sets r (point_in endless p) || known p r)
known_leads p q r (ways.on s instr here) holds = known_on s r instr here holds
known_leads p q r (ways.to s l k n t here at starts) holds =
    absurd (known_start n t r starts holds)

known_reads : (p : ℕ) (point : Point) → point_in endless p ≡ Some point
    → All (λ r. IsTrue (known p r)) (point_reads point)
unfolding points_of
known_reads zero point here =
    subst (λ x. All (λ r. IsTrue (known 0 r)) (point_reads x)) (some_injective here)
    (All-nil (λ r. IsTrue (known 0 r)))
known_reads (suc zero) point here =
    subst (λ x. All (λ r. IsTrue (known 1 r)) (point_reads x)) (some_injective here)
    (All-from_recursion (λ r. IsTrue (known 1 r)) (0 ∷ []) (refl, tt))
known_reads (suc (suc zero)) point here =
    subst (λ x. All (λ r. IsTrue (known 2 r)) (point_reads x)) (some_injective here)
    (All-nil (λ r. IsTrue (known 2 r)))
known_reads (suc (suc (suc zero))) point here =
    subst (λ x. All (λ r. IsTrue (known 3 r)) (point_reads x)) (some_injective here)
    (All-from_recursion (λ r. IsTrue (known 3 r)) (1 ∷ []) (refl, tt))
known_reads (suc (suc (suc (suc zero)))) point here =
    subst (λ x. All (λ r. IsTrue (known 4 r)) (point_reads x)) (some_injective here)
    (All-nil (λ r. IsTrue (known 4 r)))
known_reads (suc (suc (suc (suc (suc zero))))) point here =
    subst (λ x. All (λ r. IsTrue (known 5 r)) (point_reads x)) (some_injective here)
    (All-nil (λ r. IsTrue (known 5 r)))
known_reads (suc (suc (suc (suc (suc (suc p)))))) point here = cc

known_fits : IsAnnotated endless known
known_fits = record { starts = λ r holds. cc; leads = known_leads; reads_set = known_reads }

abbrev functions : List Function
functions = endless ∷ []

types_in : All (λ kind. IsTrue (is_within 0 (type_in kind))) kinds
types_in = All-from_recursion (λ kind. IsTrue (is_within 0 (type_in kind))) kinds
    (bool_within 0, (int_within 0, (void_within 0, tt)))

const_in : (r : ℕ) (l : Literal) → r < 3 → Goes (value (literal_type l)) (slice_get kinds r)
    → InstrFits [] [] functions endless (Const 0 r l)
const_in r l inside goes = record {
  registers = All-from_recursion (λ n. n < 3) (r ∷ []) (inside, tt);
  functions_in = All-nil (λ n. n < 1);
  globals_in = All-nil (λ n. n < 0);
  shapes_in = All-nil (λ n. n < 0);
  kinds = goes;
}

head_fits : BlockFits [] [] functions endless head
head_fits = record {
  instrs = All-from_recursion (InstrFits [] [] functions endless) head.instrs
      (const_in 0 (literal.Bool true) (lit≤ tt) (refl, λ marked. marked), tt);
  last = record {
    registers = All-from_recursion (λ n. n < 3) (0 ∷ []) (lit≤ tt, tt);
    blocks_in = All-from_recursion (λ n. n < 3) (1 ∷ 2 ∷ []) (lit≤ tt, (lit≤ tt, tt));
    kinds = refl;
  };
}

inner_fits : BlockFits [] [] functions endless inner
inner_fits = record {
  instrs = All-from_recursion (InstrFits [] [] functions endless) inner.instrs (
    const_in 1 (literal.Int (pos 1)) (lit≤ tt) (refl, λ marked. marked),
    (
      record {
        registers = All-from_recursion (λ n. n < 3) (2 ∷ 1 ∷ []) (lit≤ tt, (lit≤ tt, tt));
        functions_in = All-nil (λ n. n < 1);
        globals_in = All-nil (λ n. n < 0);
        shapes_in = All-nil (λ n. n < 0);
        kinds = (
          All-from_recursion (λ kind. IsTrue (is_printable kind)) (Some (Plain Int) ∷ [])
              (int_printable kinds 1 refl, tt),
          (refl, λ marked. marked),
        );
      },
      tt,
    ),
  );
  last = record {
    registers = All-nil (λ n. n < 3);
    blocks_in = All-from_recursion (λ n. n < 3) (0 ∷ []) (lit≤ tt, tt);
    kinds = tt;
  };
}

after_fits : BlockFits [] [] functions endless after
after_fits = record {
  instrs = All-nil (InstrFits [] [] functions endless);
  last = record {
    registers = All-nil (λ n. n < 3);
    blocks_in = All-nil (λ n. n < 3);
    kinds = tt;
  };
}

no_payloads : (n : ℕ) (block : Block) → slice_get endless.blocks n ≡ Some block
    → has_payload block.instrs ≡ false
no_payloads zero block is = ap (λ (b : Block). has_payload b.instrs) (sym (some_injective is))
no_payloads (suc zero) block is =
    ap (λ (b : Block). has_payload b.instrs) (sym (some_injective is))
no_payloads (suc (suc zero)) block is =
    ap (λ (b : Block). has_payload b.instrs) (sym (some_injective is))
no_payloads (suc (suc (suc n))) block is = cc

endless_fits : FunctionFits [] [] functions endless
endless_fits = record {
  takes = omega arith;
  sending = refl;
  begins = lit≤ tt;
  types = types_in;
  result = int_within 0;
  blocks = All-from_recursion (BlockFits [] [] functions endless) endless.blocks
      (head_fits, (inner_fits, (after_fits, tt)));
  payloads = λ n block is. no_payloads_fit [] endless n block (no_payloads n block is);
  sets = annotated endless known known_fits;
}

graph_fits : IsWellFormed [] [] functions 0 []
unfolding points_of
graph_fits = record {
  entry_in = lit≤ tt;
  starts_in = All-nil (λ n. n < 1);
  first_values = refl;
  types = All-nil (λ (global : GlobalKind). IsTrue (is_within 0 global.ty));
  limits = All-from_recursion IsWithinLimits functions
      (record { registers = lit≤ tt; points = lit≤ tt }, tt);
  each = All-from_recursion (FunctionFits [] [] functions) functions (endless_fits, tt);
}

abbrev graph : Graph
graph = record {
  shapes = [];
  globals = [];
  functions = functions;
  entry = 0;
  starts = [];
  well_formed = graph_fits;
}

-- the points that are reached: all but the return
abbrev reached : ℕ → Bool
reached p = nat_lt p 5

reached_on : (p : ℕ) (instr : Instr) → point_in endless p ≡ Some (Middle instr)
    → IsTrue (reached (p + 1))
unfolding points_of
reached_on zero instr here = refl
reached_on (suc zero) instr here = refl
reached_on (suc (suc zero)) instr here = refl
reached_on (suc (suc (suc zero))) instr here = refl
reached_on (suc (suc (suc (suc zero)))) instr here = cc
reached_on (suc (suc (suc (suc (suc zero))))) instr here = cc
reached_on (suc (suc (suc (suc (suc (suc p)))))) instr here = cc

-- the branch goes to its first side, and the jump to the condition
reached_to : (p q : ℕ) (l : Last) (k n : ℕ) → point_in endless p ≡ Some (End l)
    → slice_get (blocks_of l) k ≡ Some n → block_start endless n ≡ Some q
    → MayTake l (point_before endless p) k → IsTrue (reached q)
unfolding points_of
reached_to zero q l k n here at starts may = cc
reached_to (suc zero) q l k n here at starts may =
    let branch : Branch (read 0) 1 2 ≡ l = cc in
    let first = subst (λ m. MayTake m (point_before endless 1) k) (sym branch) may refl in
    let number : 1 ≡ n = some_injective (ap (slice_get (1 ∷ 2 ∷ [])) (sym first)
    ∙ ap (λ m. slice_get (blocks_of m) k) branch ∙ at) in
    let place : 2 ≡ q = some_injective (ap (block_start endless) number ∙ starts) in
    subst (λ m. IsTrue (reached m)) place refl
reached_to (suc (suc zero)) q l k n here at starts may = cc
reached_to (suc (suc (suc zero))) q l k n here at starts may = cc
reached_to (suc (suc (suc (suc zero)))) q l k n here at starts may =
    let jump : Jump 0 ≡ l = cc in
    let number : 0 ≡ n = by k (ap (λ m. slice_get (blocks_of m) k) jump ∙ at) in
    let place : 0 ≡ q = some_injective (ap (block_start endless) number ∙ starts) in
    subst (λ m. IsTrue (reached m)) place refl where
      by : (k : ℕ) → slice_get (0 ∷ []) k ≡ Some n → 0 ≡ n
      by zero is = some_injective is
      by (suc k) is = cc
reached_to (suc (suc (suc (suc (suc zero))))) q l k n here at starts may =
    let return : Return None ≡ l = cc in
    let none : slice_get [] k ≡ Some n = ap (λ m. slice_get (blocks_of m) k) return ∙ at in cc
reached_to (suc (suc (suc (suc (suc (suc p)))))) q l k n here at starts may = cc

reached_leads : (p q : ℕ) → SureLeads endless p q → IsTrue (reached p) → IsTrue (reached q)
reached_leads p q (on s instr here) holds = reached_on s instr here
reached_leads p q (to s l k n t here at starts may) holds =
    reached_to s t l k n here at starts may

reached_returns : (p : ℕ) → IsTrue (reached p)
    → point_in endless p ≡ Some (End (Return None)) → endless.result ≡ Void
unfolding points_of
reached_returns zero holds here = cc
reached_returns (suc zero) holds here = cc
reached_returns (suc (suc zero)) holds here = cc
reached_returns (suc (suc (suc zero))) holds here = cc
reached_returns (suc (suc (suc (suc zero)))) holds here = cc
reached_returns (suc (suc (suc (suc (suc zero))))) holds here = cc
reached_returns (suc (suc (suc (suc (suc (suc p)))))) holds here = cc

reaches : ReachesReturns endless reached
reaches = record { starts = refl; leads = reached_leads; returns = reached_returns }

-- what holds of the one function
of_one : (P : Function → Type 0) → P endless → (n : ℕ) (function : Function)
    → slice_get functions n ≡ Some function → P function
of_one P holds zero function is = subst P (some_injective is) holds
of_one P holds (suc n) function is = absurd (let none : ⊥ = cc in none)

supplied : IsSupplied graph
supplied = plain_supplied graph (record {
  free = of_one (λ (function : Function). function.iso ≡ Free) refl;
  entry = of_one (λ (function : Function). function.takes ≡ 0) refl 0;
  globals = refl;
}) (of_one ReturnsResult (returns_result endless reached reaches))

lacks : MayLackResult graph
unfolding points_of
lacks = record {
  number = 0;
  function = endless;
  is = refl;
  gives = λ same. let wrong : type.Int ≡ type.Unit = sym outs-Int ∙ ap out-Ty same ∙ outs-Unit in
      cc;
  point = 5;
  passed = 1 ∷ 0 ∷ [];
  way = ways.further 1 5 (0 ∷ [])
      (ways.further 0 1 [] ways.begin (ways.on 0 (Const 0 0 (literal.Bool true)) refl))
      (ways.to 1 (Branch (read 0) 1 2) 1 2 5 refl refl refl);
  here = refl;
}

pub supplied_graph : (graph : Graph) × IsSupplied graph × MayLackResult graph
supplied_graph = (graph, supplied, lacks)
