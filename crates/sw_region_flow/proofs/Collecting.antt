-- The breaches of the functions of a graph so far, and how many joins they took.
use Rattle.std.proofs.Common.{◌≡◌, ℕ, ◌+◌, ◌<◌, ◌≤◌, ◌⊎◌, inl, inr, ◌↔◌, Some, List, []}
use Rattle.std.proofs.Common.{length, take, sum_by, Contains, sym, subst, ap, ◌∙◌, arith}
use Rattle.std.proofs.lemmas.Bool.{cases_eq}
use Rattle.std.proofs.lemmas.List.Sums.{sum_by_more, sum_by-take-le}
use Rattle.std.proofs.lemmas.Option.{slice_get_within, get_or_from_slice_get}
use Rattle.std.specs.List.{slice_get}
use Rattle.sw_breach.specs.declared.Breach.{Breach}
use Rattle.sw_graph.specs.declared.function.Function.{Function}
use Rattle.sw_graph.specs.declared.graph.Graph.{Graph}
use Rattle.sw_region_flow.proofs.Places.{element_at}
use Rattle.sw_region_flow.proofs.Visiting.{IsFound, found_none, found_both}
use Rattle.sw_region_flow.specs.Breaches.{IsBreachIn, IsBreachOf}
use Rattle.sw_region_flow.specs.Visits.{BreaksBelow}
use Rattle.sw_region_flow.specs.Work.{joins_of, graph_joins}
use Rattle.sw_region_ops.specs.Setting.{setting_of}

pub breaks_start : (graph : Graph) (list : List Breach) → IsFound (BreaksBelow graph 0) list list
breaks_start graph list = found_none (BreaksBelow graph 0) list
    (λ b breaks. let h = breaks.below in omega arith)

-- one function more
pub breaks_more : (graph : Graph) (n : ℕ) (old was new : List Breach) → n < length graph.functions
    → IsFound (BreaksBelow graph n) old was
    → ((body : Function) → slice_get graph.functions n ≡ Some body
    → IsFound (IsBreachIn (setting_of graph body)) was new)
    → IsFound (BreaksBelow graph (n + 1)) old new
breaks_more graph n old was new within first second =
    let h = element_at graph.functions n within in
    found_both (BreaksBelow graph n) (IsBreachIn (setting_of graph h.0))
    (BreaksBelow graph (n + 1)) old was new first (second h.0 h.1)
    (λ b. (λ breaks. forth h.0 h.1 b breaks, λ p. back h.0 h.1 b p))
  where
    one : (k : ℕ) (f g : Function) → k ≡ n → slice_get graph.functions k ≡ Some f
        → slice_get graph.functions n ≡ Some g → f ≡ g
    one k f g same at there =
        let e : Some f ≡ Some g = sym at ∙ ap (slice_get graph.functions) same ∙ there in cc

    forth : (body : Function) → slice_get graph.functions n ≡ Some body → (b : Breach)
        → BreaksBelow graph (n + 1) b
        → BreaksBelow graph n b ⊎ IsBreachIn (setting_of graph body) b
    forth body there b breaks = elim (cases_eq breaks.number n) [
      | inl e ↦ inr (subst (λ f. IsBreachIn (setting_of graph f) b)
          (one breaks.number breaks.body body e breaks.is_body there) breaks.breaks)
      | inr other ↦ inl (record {
        number = breaks.number;
        below = omega (arith, breaks.below, other);
        body = breaks.body;
        is_body = breaks.is_body;
        breaks = breaks.breaks;
      })
    ]

    back : (body : Function) → slice_get graph.functions n ≡ Some body → (b : Breach)
        → BreaksBelow graph n b ⊎ IsBreachIn (setting_of graph body) b
        → BreaksBelow graph (n + 1) b
    back body there b (inl breaks) = record {
      number = breaks.number;
      below = omega (arith, breaks.below);
      body = breaks.body;
      is_body = breaks.is_body;
      breaks = breaks.breaks;
    }
    back body there b (inr breaks) = record {
      number = n;
      below = omega arith;
      body = body;
      is_body = there;
      breaks = breaks;
    }

-- all functions
pub breaks_all : (graph : Graph) (n : ℕ) (list : List Breach) → length graph.functions ≤ n
    → IsFound (BreaksBelow graph n) [] list → (b : Breach) → Contains list b ↔ IsBreachOf graph b
breaks_all graph n list past found b = (λ has. forth ((found b).0 has), λ of. back of)
  where
    forth : Contains [] b ⊎ BreaksBelow graph n b → IsBreachOf graph b
    forth (inl none) = absurd (let h = none.1 in omega arith)
    forth (inr breaks) = record {
      number = breaks.number;
      body = breaks.body;
      is_body = breaks.is_body;
      breaks = breaks.breaks;
    }

    back : IsBreachOf graph b → Contains list b
    back of = (found b).1 (inr (record {
      number = of.number;
      below = omega (arith, slice_get_within graph.functions of.number of.body of.is_body);
      body = of.body;
      is_body = of.is_body;
      breaks = of.breaks;
    }))

-- the joins of the first functions
unfoldable pub joins_below : Graph → ℕ → ℕ
joins_below graph n = sum_by (λ body. joins_of (setting_of graph body)) (take n graph.functions)

pub joins_start : (graph : Graph) (n : ℕ) → n ≤ n + joins_below graph 0
joins_start graph n = omega arith

pub found_start : (graph : Graph) (list : List Breach) → list ≡ []
    → IsFound (BreaksBelow graph 0) [] list
found_start graph list e =
    subst (λ l. IsFound (BreaksBelow graph 0) [] l) (sym e) (breaks_start graph [])

pub joins_more : (graph : Graph) (k old was new : ℕ) → k < length graph.functions
    → was ≤ old + joins_below graph k
    → ((body : Function) → slice_get graph.functions k ≡ Some body
    → new ≤ was + joins_of (setting_of graph body))
    → new ≤ old + joins_below graph (k + 1)
unfolding joins_below
joins_more graph k old was new within first second =
    let h = element_at graph.functions k within in
    let at = get_or_from_slice_get graph.functions k h.0 h.0 h.1 in
    let more =
    sum_by_more (λ body. joins_of (setting_of graph body)) graph.functions k h.0 within in
    let same = ap (λ body. joins_of (setting_of graph body)) at in
    omega (arith, more, same, first, second h.0 h.1)

pub joins_all : (graph : Graph) (k : ℕ) → joins_below graph k ≤ graph_joins graph
unfolding joins_below graph_joins
joins_all graph k = sum_by-take-le (λ body. joins_of (setting_of graph body)) graph.functions k
