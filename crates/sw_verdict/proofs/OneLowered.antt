-- A program has one graph: where each of its bodies is found by its name, they stand in one order.
use mathlib.Core.HLevel.{is_prop→PathP}
use Rattle.std.proofs.Common.{◌≡◌, ℕ, ◌+◌, ◌*◌, ◌<◌, List, [], ◌∷◌, Bool, true, false, Some}
use Rattle.std.proofs.Common.{length, map, get_or, slice_get, refl, ap, sym, ◌∙◌, subst}
use Rattle.std.proofs.Common.{arith}
use Rattle.std.specs.List.Sorted.{IsNonDecreasingBy, IsPermutation}
use Rattle.std.specs.Prelude.{if◌then◌else◌}
use Rattle.std.proofs.lemmas.List.{get_or-map, get_or_default, same_lists}
use Rattle.std.proofs.lemmas.List.Sorted.{Contains-permutation, IsPermutation-sym}
use Rattle.std.proofs.lemmas.List.Sorted.{IsPermutation-trans, length_permutation}
use Rattle.std.proofs.lemmas.Option.{slice_get-get_or}
use Rattle.sw_list.proofs.ListLemmas.{some_injective}
use Rattle.sw_tree.specs.declared.decl.Decl.{Decl}
use Rattle.sw_graph.specs.OneProof.{IsWellFormed-prop}
use Rattle.sw_graph.specs.WellFormed.{IsWellFormed}
use Rattle.sw_graph.specs.declared.graph.Graph.{Graph}
use Rattle.sw_decls.specs.declared.signature.AsyncDefault.{AsyncDefault}
use Rattle.sw_typing_rules.specs.Worlds.{World, and_then}
use Rattle.sw_isolation_rules.specs.Answers.{Answers}
use Rattle.sw_lower_code.specs.Whole.{Body}
use Rattle.sw_lower_rules.specs.Bodies.{AreNumbered, AreOrdered, Lowered, entry_key, functions_of}
use Rattle.sw_lower_rules.specs.Bodies.{numbers_of, order_of, program_bodies, tables_of}
use Rattle.sw_lower_rules.specs.Tables.{Isolation, Tables, name_of, plain}
use Rattle.sw_lower_rules.proofs.Orders.{one_numbering}
use Rattle.sw_lower.specs.Lowered.{IsLowering}
use Rattle.sw_lower.specs.declared.lowering.Lowering.{Lowering}
use Rattle.sw_verdict.specs.Phases.{IsGraphOf, answers_of_program, isolation_of_program}
use Rattle.sw_verdict.proofs.SameProgram.{of_same, same_world}

-- Graphs are equal where their fields are: what they keep has one proof.
same_graph : (a b : Graph) → a.shapes ≡ b.shapes → a.globals ≡ b.globals
    → a.functions ≡ b.functions → a.entry ≡ b.entry → a.starts ≡ b.starts → a ≡ b
same_graph a b shapes globals functions entry starts = λ i. record {
  shapes = shapes i;
  globals = globals i;
  functions = functions i;
  entry = entry i;
  starts = starts i;
  well_formed = is_prop→PathP
      (λ j. IsWellFormed (shapes j) (globals j) (functions j) (entry j) (starts j))
      (λ j. IsWellFormed-prop (shapes j) (globals j) (functions j) (entry j) (starts j))
      a.well_formed b.well_formed i;
}

-- the order of a body says its name
name_by_order : (one other : Body) → order_of one ≡ order_of other → name_of one ≡ name_of other
name_by_order one other same = λ i. record { key = both.0 i; getter = both.1 i } where
  by : (first second : Bool)
      → 2 * one.key + (if first then 1 else 0) ≡ 2 * other.key + (if second then 1 else 0)
      → (one.key ≡ other.key) × (first ≡ second)
  by true true is = (omega (arith, is), refl)
  by true false is = absurd (omega (arith, is))
  by false true is = absurd (omega (arith, is))
  by false false is = (omega (arith, is), refl)

  both : (one.key ≡ other.key) × (one.getter ≡ other.getter)
  both = by one.getter other.getter same

-- Bodies that are found by their names have orders of their own.
own_place : (ordered : List Body) (i j : ℕ) (one other : Body) → AreNumbered ordered
    → slice_get ordered i ≡ Some one → slice_get ordered j ≡ Some other
    → order_of one ≡ order_of other → i ≡ j
own_place ordered i j one other numbered at_i at_j same =
    some_injective (sym (numbered i one at_i)
    ∙ (ap (numbers_of ordered) (name_by_order one other same) ∙ numbered j other at_j))

-- two orders of such bodies are one
pub same_order : (all xs ys : List Body) → IsPermutation all xs → IsNonDecreasingBy order_of xs
    → IsPermutation all ys → IsNonDecreasingBy order_of ys → AreNumbered xs → xs ≡ ys
same_order all xs ys first up second down numbered =
    same_lists xs ys many each where
      many : length xs ≡ length ys
      many = omega (arith, length_permutation all xs first, length_permutation all ys second)

      moved : IsPermutation ys xs
      moved = IsPermutation-trans ys all xs (IsPermutation-sym all ys second) first

      orders : map order_of xs ≡ map order_of ys
      orders = one_numbering order_of all xs ys first up second down

      -- the body at a place of the second list is at some place of the first, which is the same one
      at_place : (k j : ℕ) (one other : Body) → slice_get xs k ≡ Some one → j < length xs
          → get_or xs j other ≡ other → order_of one ≡ order_of other → one ≡ other
      at_place k j one other at_k below is same =
          let at_j : slice_get xs j ≡ Some other =
          slice_get-get_or xs j other below ∙ ap Some is in
          let place = own_place xs k j one other numbered at_k at_j same in
          some_injective (sym at_k ∙ (ap (slice_get xs) place ∙ at_j))

      each : (k : ℕ) (d : Body) → k < length xs → get_or xs k d ≡ get_or ys k d
      each k d below =
          let within : k < length ys = omega (arith, below, many) in
          let one = get_or xs k d in
          let other = get_or ys k d in
          let (j, inside, is) = Contains-permutation ys xs other moved
          (k, within, get_or_default ys k _ d within) in
          at_place k j one other (slice_get-get_or xs k d below) inside is
          (sym (get_or-map order_of xs k d (order_of d) below)
          ∙ (ap (λ numbers. get_or numbers k (order_of d)) orders
          ∙ get_or-map order_of ys k d (order_of d) within))

same_somes : (xs ys : List ℕ) → map Some xs ≡ map Some ys → xs ≡ ys
same_somes [] [] same = refl
same_somes [] (y ∷ ys) same = cc
same_somes (x ∷ xs) [] same = cc
same_somes (x ∷ xs) (y ∷ ys) same =
    let first : x ≡ y = cc in
    let rest : map Some xs ≡ map Some ys = cc in
    ap (λ number. number ∷ xs) first ∙ ap (λ list. y ∷ list) (same_somes xs ys rest)

module _ (world : World) (answers : Answers) (isolation : Isolation) (decls : List Decl) where
  -- what a program's functions are in order
  abbrev tables : Tables
  tables = tables_of world answers isolation decls

  abbrev IsMade : Graph → Type 0
  IsMade graph = Lowered world answers isolation decls graph

  same_bodies : (xs ys : List Body) → AreOrdered tables decls xs → AreOrdered tables decls ys
      → AreNumbered xs → xs ≡ ys
  same_bodies xs ys first second =
      same_order (program_bodies tables decls) xs ys first.bodies first.in_order second.bodies
      second.in_order

  pub one_lowered : (a b : Graph) (is_a : IsMade a) → AreNumbered is_a.ordered → IsMade b → a ≡ b
  one_lowered a b is_a numbered is_b =
      let same = same_bodies is_a.ordered is_b.ordered is_a.are_ordered is_b.are_ordered numbered in
      let entry : Some a.entry ≡ Some b.entry =
      is_a.entry
      ∙ (ap (λ ordered. and_then (entry_key decls) (λ key. numbers_of ordered (plain key)))
      same ∙ sym is_b.entry) in
      let starts : map Some a.starts ≡ map Some b.starts =
      is_a.starts ∙ (ap (λ ordered. map (λ global. numbers_of ordered (plain global.key.at))
      world.globals) same ∙ sym is_b.starts) in
      same_graph a b (is_a.shapes ∙ sym is_b.shapes) (is_a.globals ∙ sym is_b.globals)
      (is_a.functions ∙ (ap functions_of same ∙ sym is_b.functions)) (some_injective entry)
      (same_somes a.starts b.starts starts)

  -- the bodies of the graph that is made of a lowering are found by their names
  pub numbered_bodies : (lowering : Lowering) (graph : Graph) → IsLowering tables decls lowering
      → (is : IsMade graph) → AreNumbered is.ordered
  numbered_bodies lowering graph given is =
      subst AreNumbered
      (same_bodies given.has.ordered is.ordered given.has.are_ordered is.are_ordered
      given.has.numbered) given.has.numbered

-- a graph of a program in a world, each of whose bodies is found by its name
abbrev pub HasGraph : Graph → World → List Decl → Answers → Isolation → Type 0
HasGraph graph world decls answers isolation =
    (is : Lowered world answers isolation decls graph) × AreNumbered is.ordered

pub one_graph_of : (rule : AsyncDefault) (text : List ℕ) (a b : Graph) → IsGraphOf rule text a
    → IsGraphOf rule text b → a ≡ b
one_graph_of rule text a b is_a is_b =
    let of : World → List Decl → Type 0 = λ world decls.
    HasGraph a world decls (answers_of_program world decls) (isolation_of_program world decls) in
    let (lowered, numbered) =
    of_same of (same_world rule text is_a.has_world is_b.has_world) (is_a.lowered, is_a.numbered) in
    one_lowered is_b.world (answers_of_program is_b.world is_b.decls)
    (isolation_of_program is_b.world is_b.decls) is_b.decls a b lowered numbered is_b.lowered
