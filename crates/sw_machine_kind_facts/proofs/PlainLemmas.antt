-- A plain graph is supplied.
use Rattle.std.proofs.Common.{◌∷◌, refl, ap, Some}
use Rattle.std.specs.List.{slice_get}
use Rattle.std.proofs.Common.{◌≡◌, ℕ, ◌<◌, List, [], length, sym, ◌∙◌, subst, arith}
use Rattle.sw_types.specs.declared.isolation.CallKind.{CallKind}
use Rattle.sw_types.specs.declared.isolation.CallKind.TheVariants as kind
use Rattle.sw_types.specs.declared.isolation.Iso.{Iso}
use Rattle.sw_types.specs.declared.isolation.Iso.TheVariants.{Free, Own}
use Rattle.sw_graph.specs.declared.function.Function.{Function}
use Rattle.sw_graph.specs.declared.function.GlobalKind.{GlobalKind}
use Rattle.sw_graph.specs.declared.graph.Graph.{Graph}
use Rattle.sw_graph.specs.declared.instr.Instr.{Instr}
use Rattle.sw_graph.specs.declared.instr.Instr.TheVariants as instr
use Rattle.sw_graph.specs.declared.instr.Operand.{Operand}
use Rattle.sw_graph.specs.Placed.{EachFunction, IsFreeOrGlobal, GivesFirst, starts, leads}
use Rattle.sw_graph.specs.Supplied.{SetsGlobals, ReturnsResult}
use Rattle.sw_graph.specs.Supplied.{IsSupplied, IsPlain, GivesActor}

pub none_first : (graph : Graph) → graph.starts ≡ [] → (f : ℕ) → GivesFirst graph f → ⊥
none_first graph none f (starts n first) =
    let inside : first.0 < length {A = ℕ} [] = subst (λ l. first.0 < length l) none first.1 in
    omega (arith, inside)
none_first graph none f (leads n g p body i earlier is here named) =
    none_first graph none n earlier

not_own : (i : Iso) → i ≡ Free → i ≡ Own → ⊥
not_own i free own = let same : Free ≡ Own = sym free ∙ own in cc

-- no function that is called or handed on is isolated to `self`
free_call : (graph : Graph) → EachFunction graph (λ function. function.iso ≡ Free)
    → (body : Function) (at r : ℕ) (call : CallKind) (f : ℕ) (ss : List Operand)
    → GivesActor graph body (instr.Call at r call f ss)
free_call graph free body at r kind.Strong f ss = λ function found own.
    absurd (not_own function.iso (free f function found) own)
free_call graph free body at r kind.Plain f ss = tt
free_call graph free body at r kind.Same f ss = tt
free_call graph free body at r kind.Weak f ss = tt
free_call graph free body at r kind.Make f ss = tt

pub free_gives : (graph : Graph) → EachFunction graph (λ function. function.iso ≡ Free)
    → (body : Function) (i : Instr) → GivesActor graph body i
free_gives graph free body (instr.Call at r call f ss) =
    free_call graph free body at r call f ss
free_gives graph free body (instr.NewTask at r f cs) = λ function found own.
    absurd (not_own function.iso (free f function found) own)
free_gives graph free body _ = tt

pub no_starts : (graph : Graph) → graph.globals ≡ [] → graph.starts ≡ []
no_starts graph globals = by graph.starts
    (graph.well_formed.first_values ∙ ap (λ l. length l) globals) where
      by : (l : List ℕ) → length l ≡ length {A = GlobalKind} [] → l ≡ []
      by [] e = refl
      by (f ∷ fs) e = absurd (omega (arith, e))

pub no_globals : (graph : Graph) → graph.globals ≡ [] → SetsGlobals graph
no_globals graph globals =
    let none = no_starts graph globals in
    record {
      alone = λ f p body i first is here. absurd (none_first graph none f first);
      values = λ g f first. let past : slice_get [] g ≡ Some f =
          ap (λ l. slice_get l g) (sym none) ∙ first in absurd (let wrong : ⊥ = cc in wrong);
    }

pub plain_supplied : (graph : Graph) → IsPlain graph → EachFunction graph ReturnsResult
    → IsSupplied graph
plain_supplied graph plain returns = record {
  begins = record {
    actors = λ n function is p i here. free_gives graph plain.free function i;
    entry = λ function is. record {
      takes = plain.entry function is;
      iso = subst IsFreeOrGlobal (sym (plain.free graph.entry function is)) tt;
    };
    firsts = λ f first. absurd (none_first graph (no_starts graph plain.globals) f
        (starts f first));
  };
  returns = returns;
  globals = no_globals graph plain.globals;
}
