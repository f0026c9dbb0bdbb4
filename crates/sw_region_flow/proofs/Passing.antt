-- No test fails in the least annotations of a graph exactly where each passes.
use Rattle.std.proofs.Common.{◌≡◌, ℕ, ◌⊎◌, inl, inr, ◌↔◌, Option, Some, None, List, [], ◌∷◌}
use Rattle.std.proofs.Common.{Contains, refl, subst, arith}
use Rattle.sw_breach.specs.declared.Breach.{Breach}
use Rattle.sw_graph.specs.declared.graph.Graph.{Graph}
use Rattle.sw_partition.specs.Effects.{IsLeastSite}
use Rattle.sw_partition.specs.Regions.{Regions}
use Rattle.sw_region_flow.proofs.Gathering.{given}
use Rattle.sw_region_flow.proofs.Leasts.{some_least}
use Rattle.sw_region_flow.proofs.OneSites.{member_first, no_member}
use Rattle.sw_region_flow.specs.Breaches.{AreBreaches, IsBreachIn, IsBreachOf}
use Rattle.sw_region_flow.specs.Least.{point_ops_at, IsLeast}
use Rattle.sw_region_flow.specs.Passing.{AllPass, EachPasses, IsNotGivenAway, IsPassed, Passes}
use Rattle.sw_region_flow.specs.Walks.{TestFails, FailsAmong}
use Rattle.sw_breach.specs.declared.codes.TheConstants.{GIVEN_AWAY}
use Rattle.sw_region_ops.proofs.ContextLemmas.{inside}
use Rattle.sw_region_ops.specs.Setting.{FunctionSetting, setting_of}
use Rattle.sw_region_ops.specs.declared.op.Op.{Op}
use Rattle.sw_region_ops.specs.declared.op.Op.TheVariants.{Need, Free, Fresh, Put, Join, Give}

-- an element that isn't live has a least site
live_or_given : (r : Regions) (x : ℕ) → ((site : ℕ) → IsLeastSite r x site → ⊥) → IsNotGivenAway r x
live_or_given r x none has = elim (given r x) [
  | inl (site, least) ↦ none site least
  | inr live ↦ live has
]

-- a test passes that doesn't fail
op_passes : (op : Op) (r : Regions) → ((breach : Breach) → TestFails op r breach → ⊥) → Passes op r
op_passes (Need x at) r none = live_or_given r x (λ site least.
    none (record { code = GIVEN_AWAY; at = at; note = Some site })
    (record { site = site; least = least; is = refl }))
op_passes (Free x at code) r none = (
  live,
  λ here.
      none (record { code = code; at = at; note = None })
      (inr (record { not_given = live; is_here = here; is = refl })),
)
  where
    live : IsNotGivenAway r x
    live = live_or_given r x (λ site least.
        none (record { code = GIVEN_AWAY; at = at; note = Some site })
        (inl (record { site = site; least = least; is = refl })))
op_passes (Fresh x) r none = tt
op_passes (Put x y) r none = tt
op_passes (Join x y) r none = tt
op_passes (Give x site) r none = tt

all_pass : (ops : List Op) (r : Regions) → ((breach : Breach) → FailsAmong ops r breach → ⊥)
    → AllPass ops r
all_pass [] r none = tt
all_pass (op ∷ ops) r none = (
  op_passes op r (λ breach fails. none breach (inl fails)),
  λ made does. all_pass ops made (λ breach fails. none breach (inr (made, does, fails))),
)

-- a test that passes doesn't fail
op_fails : (op : Op) (r : Regions) (breach : Breach) → Passes op r → TestFails op r breach → ⊥
op_fails (Need x at) r breach live fails = live (fails.site, fails.least.there)
op_fails (Free x at code) r breach free (inl fails) = free.0 (fails.site, fails.least.there)
op_fails (Free x at code) r breach free (inr fails) = free.1 fails.is_here
op_fails (Fresh x) r breach passes fails = fails
op_fails (Put x y) r breach passes fails = fails
op_fails (Join x y) r breach passes fails = fails
op_fails (Give x site) r breach passes fails = fails

none_fails : (ops : List Op) (r : Regions) (breach : Breach) → AllPass ops r
    → FailsAmong ops r breach → ⊥
none_fails [] r breach passes fails = fails
none_fails (op ∷ ops) r breach passes (inl fails) = op_fails op r breach passes.0 fails
none_fails (op ∷ ops) r breach passes (inr later) =
    none_fails ops later.0 breach (passes.1 later.0 later.1) later.2

-- no breach is found exactly where all operations pass
pub pass_if_none : (ops : List Op) (r : Regions) (found : List Breach)
    → ((breach : Breach) → Contains found breach
    ↔ (Contains [] breach ⊎ FailsAmong ops r breach)) → (found ≡ []) ↔ AllPass ops r
pass_if_none ops r found are = (
  λ e. all_pass ops r (λ breach fails.
      no_member breach (subst (λ l. Contains l breach) e ((are breach).1 (inr fails)))),
  λ passes. empty found (λ breach has. elim ((are breach).0 has) [
    | inl none ↦ no_member breach none
    | inr fails ↦ none_fails ops r breach passes fails
  ]),
)
  where
    empty : (list : List Breach) → ((breach : Breach) → Contains list breach → ⊥) → list ≡ []
    empty [] none = refl
    empty (breach ∷ rest) none = absurd (none breach (member_first breach rest))

each_passes : (setting : FunctionSetting) (states : List (Option Regions)) → IsLeast setting states
    → ((breach : Breach) → IsBreachIn setting breach → ⊥) → EachPasses setting states
each_passes setting states least none p state copied stands copy =
    all_pass (point_ops_at setting p) copied (λ breach fails. none breach (record {
      states = states;
      least = least;
      point = p;
      fails = record {
        state = state;
        stands = stands;
        copied = copied;
        is_copy = copy;
        fails = fails;
      };
    }))

no_breach_of : (graph : Graph) → AreBreaches graph [] → (breach : Breach)
    → IsBreachOf graph breach → ⊥
no_breach_of graph are breach is =
    let kept = are.complete breach is in no_member kept.0 kept.1

-- what has no breach has an empty list of them
pub no_breaches : (graph : Graph) → ((breach : Breach) → IsBreachOf graph breach → ⊥)
    → AreBreaches graph []
no_breaches graph none = record {
  sound = λ breach has. absurd (no_member breach has);
  complete = λ breach is. absurd (none breach is);
  rising = λ i j d lt within. absurd (omega (arith, within));
}

pub graph_passes : (graph : Graph) → AreBreaches graph [] → IsPassed graph
graph_passes graph are = record {
  annotated = λ number body is. some_least (setting_of graph body)
      (inside graph.shapes body.regs);
  passes = λ number body is states least. each_passes (setting_of graph body) states least
      (λ breach breaks. no_breach_of graph are breach
      (record { number = number; body = body; is_body = is; breaks = breaks }));
}

breaks_not : (graph : Graph) → IsPassed graph → (breach : Breach) → IsBreachOf graph breach → ⊥
breaks_not graph passed breach is = let b = is.breaks in
    none_fails (point_ops_at (setting_of graph is.body) b.point) b.fails.copied breach
    (passed.passes is.number is.body is.is_body b.states b.least b.point b.fails.state
    b.fails.copied b.fails.stands b.fails.is_copy)
    b.fails.fails

pub passed_breaches : (graph : Graph) → IsPassed graph → AreBreaches graph []
passed_breaches graph passed = no_breaches graph (breaks_not graph passed)
