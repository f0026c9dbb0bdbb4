-- Each function has a least annotation of its blocks.
use Rattle.std.proofs.Common.{◌≡◌, ℕ, zero, suc, ◌<◌, ◌≤◌, ◌⊎◌, inl, inr, Option, Some, None, IfSome}
use Rattle.std.proofs.Common.{IsSome, List, [], ◌∷◌, length, take, Contains, refl, sym, subst, ap}
use Rattle.std.proofs.Common.{◌∙◌, arith}
use Rattle.std.proofs.lemmas.Bool.{cases_lt}
use Rattle.std.proofs.lemmas.List.{get_or-take, length-take}
use Rattle.std.proofs.lemmas.List.Elements.{All-nil, All-contains}
use Rattle.std.proofs.lemmas.Option.{slice_get_past}
use Rattle.std.specs.List.{All, slice_get}
use Rattle.std.specs.Option.{option_map_or}
use Rattle.sw_graph.specs.Mentions.{blocks_of}
use Rattle.sw_graph.specs.declared.function.Function.{Function}
use Rattle.sw_graph.specs.declared.graph.Graph.{Graph}
use Rattle.sw_partition.specs.Laws.{rank_bound, within_refl, within_trans}
use Rattle.sw_partition.specs.Rank.{height_of, rank_of}
use Rattle.sw_partition.specs.Regions.{Regions, size_of, IsWithin}
use Rattle.sw_region_flow.proofs.Climbing.{IsHigher, CanClimb, IsTop, some_top}
use Rattle.sw_region_flow.proofs.Doing.{some_run}
use Rattle.sw_region_flow.proofs.Flows.{body_fits}
use Rattle.sw_region_flow.proofs.Leasts.{some_least}
use Rattle.sw_region_flow.proofs.OneSites.{no_member}
use Rattle.sw_region_flow.proofs.Places.{element_at, targets_of}
use Rattle.sw_region_flow.proofs.Same.{copy_same}
use Rattle.sw_region_flow.proofs.United.{taken_in}
use Rattle.sw_region_flow.specs.Analysis.{Analysis, IsAnalysis, IsLeastOfFunction, facts_of, layout}
use Rattle.sw_region_flow.specs.Analysis.{block_ops_at, targets_at}
use Rattle.sw_region_flow.specs.Laws.{entries_within, walks_monotone}
use Rattle.sw_region_flow.specs.Walks.{Walks}
use Rattle.sw_region_ops.proofs.ContextLemmas.{inside}
use Rattle.sw_region_ops.proofs.RunLemmas.{runs_size}
use Rattle.sw_region_ops.specs.Elements.{element_count}
use Rattle.sw_region_ops.specs.Entry.{IsEntry}
use Rattle.sw_region_ops.specs.Runs.{Fits}
use Rattle.sw_region_ops.specs.Setting.{setting_of}
use Rattle.sw_region_ops.specs.Table.{block_ops}
use Rattle.sw_solve.proofs.Solving.{Problem, IsLawful, Bounds}
use Rattle.sw_solve.proofs.Spreading.{some_from_below}
use Rattle.sw_solve.specs.Annotation.{value_at, IsBelow, IsAtMost}
use Rattle.sw_solve.specs.Layout.{BlocksBound, BlocksClosed, IsLeastOfBlocks}
use Rattle.sw_solve.specs.Ways.{IsWay}
use Rattle.sw_cert.proofs.OpsDecided.{ops_fit_at}
use Rattle.sw_cert_making.proofs.Bared.{within_list}

-- ---- the flow of the blocks, with nothing to do past the last
module _ (analysis : Analysis) (fits : IsAnalysis analysis) where
  abbrev count : ℕ
  count = length analysis.setting.body.blocks

  abbrev block_flow : Problem Regions
  block_flow = record {
    le = IsWithin;
    size = size_of;
    rank = rank_of;
    facts = facts_of analysis;
    enters = IsEntry analysis.setting analysis.sites;
    leads = λ b. Walks (block_ops_at analysis.setting b);
    successors = targets_at analysis.setting.body.blocks;
  }

  block_laws : IsLawful block_flow
  block_laws = record {
    reflexive = within_refl;
    transitive = within_trans;
    one_entry = entries_within analysis.setting analysis.sites;
    monotone = λ b x y z w first second within walks walks_too.
        walks_monotone (block_ops_at analysis.setting b) x y z w (first ∙ sym second) within walks
        walks_too;
  }

  ops_fit_everywhere : (b : ℕ)
      → All (Fits (facts_of analysis)) (block_ops_at analysis.setting b)
  unfolding block_ops_at
  ops_fit_everywhere b = elim (cases_lt b count) [
    | inl lt ↦ ops_fit_at analysis fits b lt
    | inr past ↦ subst
        (λ o. All (Fits (facts_of analysis)) (option_map_or (block_ops analysis.setting) o []))
        (sym (slice_get_past analysis.setting.body.blocks b past))
        (All-nil (Fits (facts_of analysis)))
  ]

  no_target : (b q : ℕ) → count ≤ b → Contains (targets_at analysis.setting.body.blocks b) q → ⊥
  unfolding targets_at
  no_target b q past has = no_member q (subst
      (λ o. Contains (option_map_or (λ block. blocks_of block.last) o []) q)
      (slice_get_past analysis.setting.body.blocks b past) has)

  target_within : (b q : ℕ) → Contains (targets_at analysis.setting.body.blocks b) q → q < count
  target_within b q has = elim (cases_lt b count) [
    | inr past ↦ absurd (no_target b q past has)
    | inl lt ↦ (let block = element_at analysis.setting.body.blocks b lt in
        All-contains (λ n. n < count) (blocks_of block.0.last)
        q (fits.targets b block.0 block.1)
        (subst (λ ts. Contains ts q) (targets_of analysis.setting.body.blocks b block.0 block.1) has))
  ]

  module _ (entry : Regions) (enters : IsEntry analysis.setting analysis.sites entry) where
    can_climb : CanClimb block_flow count (height_of (facts_of analysis))
    can_climb = record {
      some = fits.begins;
      inside = target_within;
      steps = λ b x sized.
          let h = some_run (block_ops_at analysis.setting b) x
          (subst (λ f. All (Fits f) (block_ops_at analysis.setting b)) (sym sized)
          (ops_fit_everywhere b)) in (
            h.0,
            record { copied = x; is_copy = copy_same x; runs = h.1 },
            runs_size (block_ops_at analysis.setting b) x h.0 h.1 ∙ sized,
          );
      takes = λ x y x_sized y_sized. take_in x y x_sized y_sized;
      bounded = λ x sized. subst (λ s. rank_of x ≤ height_of s) sized (rank_bound x);
      entry = entry;
      enters_by = enters;
      entry_sized = ap (λ n. n ∷ entry.sites) enters.elements_are
          ∙ ap (λ s. element_count analysis.setting.elements ∷ s) enters.sites_are;
    }
      where
        take_in : (x y : Regions) → size_of x ≡ facts_of analysis → size_of y ≡ facts_of analysis
            → IsWithin y x ⊎ ((z : Regions) × IsHigher block_flow x y z)
        take_in x y x_sized y_sized = elim (taken_in x y (y_sized ∙ sym x_sized)) [
          | inl le ↦ inl le
          | inr h ↦ inr (
            h.0,
            record {
              sized = h.1.union.sized ∙ x_sized;
              left = h.1.union.left;
              right = h.1.union.right;
              least = λ w sized. h.1.union.least w;
              higher = h.1.higher;
            },
          )
        ]

    module _ (a : List (Option Regions))
        (top : IsTop block_flow block_laws count (height_of (facts_of analysis)) can_climb a) where
      least : List (Option Regions)
      least = take count a

      least_at : (b : ℕ) → b < count → value_at least b ≡ value_at a b
      unfolding least
      least_at b lt = get_or-take count a b None lt

      least_within : (b : ℕ) (x : Regions) → value_at least b ≡ Some x → b < count
      unfolding least
      least_within b x e =
          let h = within_list (take count a) b x e in
          let k = length-take count a in omega (arith, h, k)

      least_closed : BlocksClosed (layout analysis) least
      least_closed = record {
        sized = λ b. elim (cases_lt b count) [
          | inl lt ↦ subst (λ o. IfSome o (λ x. size_of x ≡ facts_of analysis)) (sym (least_at b lt))
              (top.closed.sized b)
          | inr past ↦ if_none (value_at least b) (λ x e. let h = least_within b x e in
              omega (arith, h, past))
        ];
        entry = top.closed.entry;
        enters_by = top.closed.enters_by;
        entered = subst (IsBelow IsWithin top.closed.entry) (sym (least_at 0 fits.begins))
            top.closed.entered;
        stepped = λ b x e.
            let lt = least_within b x e in
            let passed = top.closed.stepped b x (sym (least_at b lt) ∙ e) in record {
              made = passed.made;
              leads_to = (lt, passed.leads_to);
              below = λ q has. subst (IsBelow IsWithin passed.made)
                  (sym (least_at q (target_within b q has))) (passed.below q has);
            };
      }
        where
          if_none : (o : Option Regions) → ((x : Regions) → o ≡ Some x → ⊥)
              → IfSome o (λ x. size_of x ≡ facts_of analysis)
          if_none None never = tt
          if_none (Some x) never = absurd (never x refl)

      as_bounds : (other : List (Option Regions)) → BlocksBound (layout analysis) other
          → Bounds block_flow other
      as_bounds other bound = record {
        sized = bound.sized;
        entered = bound.entered;
        stepped = λ b x y made e within size walks q has. elim (cases_lt b count) [
          | inl lt ↦ bound.stepped b x y made e within size (lt, walks) q has
          | inr past ↦ absurd (no_target b q past has)
        ];
      }

      is_least : IsLeastOfBlocks (layout analysis) least
      is_least = record {
        closed = least_closed;
        lowest = λ other bound. record {
          each = λ b. elim (cases_lt b count) [
            | inl lt ↦ subst (λ o. IsAtMost IsWithin o (value_at other b)) (sym (least_at b lt))
                ((top.lowest other (as_bounds other bound)).each b)
            | inr past ↦ at_most_none (value_at least b) (value_at other b) (λ x e.
                let h = least_within b x e in omega (arith, h, past))
          ];
        };
      }
        where
          at_most_none : (o other : Option Regions) → ((x : Regions) → o ≡ Some x → ⊥)
              → IsAtMost IsWithin o other
          at_most_none None other never = tt
          at_most_none (Some x) other never = absurd (never x refl)

    pub some_of_blocks : (states : List (Option Regions))
        × IsLeastOfBlocks (layout analysis) states
    some_of_blocks =
        let top = some_top block_flow block_laws count (height_of (facts_of analysis)) can_climb in
        (least top.0 top.1, is_least top.0 top.1)

-- a function of a graph has a least annotation of its blocks
pub some_of_function : (graph : Graph) (number : ℕ) (body : Function)
    → slice_get graph.functions number ≡ Some body
    → (states : List (Option Regions)) × IsLeastOfFunction (setting_of graph body) states
some_of_function graph number body is =
    let points = some_least (setting_of graph body) (inside graph.shapes body.regs) in
    let fits = body_fits graph number body points.1.sites is points.1.are_sites in
    let found = some_of_blocks (record { setting = setting_of graph body; sites = points.1.sites })
    fits points.1.closed.entry points.1.closed.enters_by in (
      found.0,
      record { sites = points.1.sites; fits = fits; least = found.1 },
    )

-- something stands where a path leads
pub stands_on_way : (analysis : Analysis) (s : List (Option Regions))
    → BlocksClosed (layout analysis) s → (n q : ℕ)
    → IsWay (targets_at analysis.setting.body.blocks) n q → IsSome (value_at s q)
stands_on_way analysis s closed zero q e = subst (λ p. IsSome (value_at s p)) (sym e)
    (some_from_below IsWithin closed.entry (value_at s 0) closed.entered)
stands_on_way analysis s closed (suc n) q (p, way, has) =
    by (value_at s p) refl (stands_on_way analysis s closed n p way)
  where
    by : (o : Option Regions) → value_at s p ≡ o → IsSome o → IsSome (value_at s q)
    by None e some = cc
    by (Some x) e some = let passed = closed.stepped p x e in
        some_from_below IsWithin passed.made (value_at s q) (passed.below q has)
