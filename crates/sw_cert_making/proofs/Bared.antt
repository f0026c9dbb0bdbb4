-- Least annotations of blocks have no pair of `Here`, and nothing at blocks to which no path leads:
-- without these they still bound from above.
use Rattle.std.proofs.Common.{◌≡◌, ◌≢◌, ℕ, zero, suc, ◌+◌, ◌<◌, inl, inr, Bool, true, false, cond}
use Rattle.std.proofs.Common.{Option, Some, None, IfSome, List, [], ◌∷◌, length, refl, sym}
use Rattle.std.proofs.Common.{subst, ap, ◌∙◌, arith}
use Rattle.std.proofs.lemmas.List.Elements.{All-head, All-tail}
use Rattle.std.proofs.lemmas.Bool.{cases_eq, cases_lt, ne_eqb}
use Rattle.std.proofs.lemmas.List.{get_or_past}
use Rattle.std.proofs.lemmas.Option.{none-some, same_Some}
use Rattle.std.specs.List.{All}
use Rattle.std.specs.Option.{option_map}
use Rattle.sw_partition.specs.Effects.{stand_in}
use Rattle.sw_partition.specs.Laws.{within_trans, same_within}
use Rattle.sw_partition.specs.Regions.{Regions, size_of, Together, HasPair, IsWithin}
use Rattle.sw_region_flow.proofs.Deciding.{Decided, both_decided, not_decided, same_decided, test}
use Rattle.sw_region_flow.proofs.Deciding.{holds_test}
use Rattle.sw_region_flow.proofs.Doing.{tell_together, tell_pair, itself, turned, along, pair_there}
use Rattle.sw_region_flow.proofs.Exact.{stands_above, at_some, size_at}
use Rattle.sw_region_flow.proofs.Tabled.{IsState, IsMade, made, is_made}
use Rattle.sw_region_flow.specs.Analysis.{Analysis, IsAnalysis, layout, facts_of, targets_at}
use Rattle.sw_region_flow.specs.Analysis.{block_ops_at}
use Rattle.sw_region_flow.specs.Laws.{entries_within, leads_monotone}
use Rattle.sw_region_ops.specs.Runs.{Applies, Runs, Fits, FitsIn}
use Rattle.sw_region_ops.specs.declared.op.Op.{Op}
use Rattle.sw_region_ops.specs.declared.op.Op.TheVariants.{Need, Free, Fresh, Put, Join, Give}
use Rattle.sw_solve.proofs.Spreading.{below_down}
use Rattle.sw_solve.specs.Annotation.{value_at, IsBelow}
use Rattle.sw_solve.specs.Layout.{IsLeastOfBlocks, BlocksBound}
use Rattle.sw_solve.specs.Ways.{HasWay}
use Rattle.sw_cert.proofs.OpsDecided.{ops_fit_at}

-- `Here` has no pair
abbrev pub IsBare : Regions → Type 0
IsBare r = (site : ℕ) → HasPair r 0 site → ⊥

-- ---- operations keep it so
other_stays : (x y : ℕ) → x ≢ 0 → stand_in x y 0 ≡ 0
other_stays x y other = ap (λ b. cond b y 0) (ne_eqb 0 x (λ e. other (sym e)))

does_bare : (op : Op) (count : ℕ) (sites : List ℕ) (a b : Regions) → FitsIn count sites op
    → Applies op a b → IsBare a → IsBare b
does_bare (Need x at) count sites a b fits does bare = subst IsBare (sym does) bare
does_bare (Free x at code) count sites a b fits does bare = subst IsBare (sym does) bare
does_bare (Fresh x) count sites a b fits does bare =
    λ site has. bare site ((does.pairs 0 site).0 has).1
does_bare (Put x y) count sites a b fits does bare = λ site has.
    bare site (subst (λ n. HasPair a n site) (other_stays x y fits.0) ((does.pairs 0 site).0 has))
does_bare (Join x y) count sites a b fits does bare =
    λ site has. bare site ((does.pairs 0 site).0 has)
does_bare (Give x given) count sites a b fits does bare =
    λ site has. elim ((does.pairs 0 site).0 has) [
      | inl old ↦ bare site old
      | inr new ↦ new.1 refl
    ]

runs_bare : (ops : List Op) (count : ℕ) (sites : List ℕ) (a b : Regions)
    → All (Fits (count ∷ sites)) ops → Runs ops a b → IsBare a → IsBare b
runs_bare [] count sites a b fits runs bare = subst IsBare (sym runs) bare
runs_bare (op ∷ ops) count sites a b fits (m, does, rest) bare =
    runs_bare ops count sites m b (All-tail (Fits (count ∷ sites)) op ops fits) rest
    (does_bare op count sites a m (All-head (Fits (count ∷ sites)) op ops fits) does bare)

-- ---- a state without the pairs of `Here`
module _ (r : Regions) where
  abbrev Other : ℕ → ℕ → Type 0
  Other x site = (x ≡ 0 → ⊥) × HasPair r x site

  other_is : IsState (length r.labels) r.sites (Together r) Other
  other_is = record {
    tell = tell_together r;
    within = λ x y t. (t.left, t.right);
    itself = itself r;
    turned = turned r;
    along = along r;
    tell_pair = λ x site. both_decided (not_decided (same_decided x 0)) (tell_pair r x site);
    there = λ x site h. pair_there r x site h.1;
  }

  pub bared : Regions
  bared = made (length r.labels) r.sites (Together r) Other other_is

  is_bared : IsMade (length r.labels) r.sites (Together r) Other bared
  unfolding bared
  is_bared = is_made (length r.labels) r.sites (Together r) Other other_is

  bared_size : size_of bared ≡ size_of r
  bared_size = ap (λ n. n ∷ bared.sites) is_bared.elements_are
      ∙ ap (λ sites. length r.labels ∷ sites) is_bared.sites_are

  bared_bare : IsBare bared
  bared_bare site has = ((is_bared.pairs 0 site).0 has).0 refl

  bared_within : IsWithin bared r
  bared_within = record {
    together = λ x y t. (is_bared.together x y).0 t;
    pairs = λ x site has. ((is_bared.pairs x site).0 has).1;
  }

  -- it includes what is included in the state and has no such pair
  within_bared : (a : Regions) → IsWithin a r → IsBare a → IsWithin a bared
  within_bared a within bare = record {
    together = λ x y t. (is_bared.together x y).1 (within.together x y t);
    pairs = λ x site has. (is_bared.pairs x site).1 (
      (λ e. bare site (subst (λ n. HasPair a n site) e has)),
      within.pairs x site has,
    );
  }

-- ---- the same at each point that passes a test, and nothing at the others
kept : (ℕ → Bool) → ℕ → Option Regions → Option Regions
kept passes p o = cond (passes p) (option_map bared o) None

kept_from : (ℕ → Bool) → ℕ → List (Option Regions) → List (Option Regions)
kept_from passes p [] = []
kept_from passes p (o ∷ os) = kept passes p o ∷ kept_from passes (suc p) os

kept_nothing : (passes : ℕ → Bool) (p : ℕ) → kept passes p None ≡ None
unfolding kept
kept_nothing passes p = by (passes p)
  where
    by : (b : Bool) → cond b (option_map bared None) None ≡ None
    by true = refl
    by false = refl

kept_at : (passes : ℕ → Bool) (from : ℕ) (s : List (Option Regions)) (p : ℕ)
    → value_at (kept_from passes from s) p ≡ kept passes (from + p) (value_at s p)
unfolding kept_from
kept_at passes from [] p = sym (kept_nothing passes (from + p))
kept_at passes from (o ∷ os) zero =
    let e : from ≡ from + 0 = omega arith in ap (λ n. kept passes n o) e
kept_at passes from (o ∷ os) (suc p) =
    let e : suc from + p ≡ from + suc p = omega arith in
    kept_at passes (suc from) os p ∙ ap (λ n. kept passes n (value_at os p)) e

-- ---- what holds below a number is decided, where only a contradiction is sought
decided_below : (n : ℕ) (P : ℕ → Type 0) → (((p : ℕ) → Decided ((p < n) × P p)) → ⊥) → ⊥
decided_below zero P none = none (λ p. inr (λ h. omega (arith, h.0)))
decided_below (suc n) P none = decided_below n P (λ before.
    let no : P n → ⊥ = λ holds. none (λ p. more before (inl holds) p) in
    none (λ p. more before (inr no) p))
  where
    more : ((p : ℕ) → Decided ((p < n) × P p)) → Decided (P n) → (p : ℕ)
        → Decided ((p < suc n) × P p)
    more before last p = elim (cases_eq p n) [
      | inl e ↦ at_last last p e
      | inr other ↦ elim (before p) [
        | inl h ↦ inl (omega (arith, h.0), h.1)
        | inr non ↦ inr (λ h. non (omega (arith, h.0, other), h.1))
      ]
    ]
      where
        at_last : Decided (P n) → (p : ℕ) → p ≡ n → Decided ((p < suc n) × P p)
        at_last (inl holds) p e = inl (omega (arith, e), subst P (sym e) holds)
        at_last (inr non) p e = inr (λ h. non (subst P e h.1))

if_some : (P : Regions → Type 0) (o : Option Regions) → ((y : Regions) → o ≡ Some y → P y)
    → IfSome o P
if_some P None each = tt
if_some P (Some y) each = each y refl

-- where something stands, that is within the list
pub within_list : (s : List (Option Regions)) (p : ℕ) (x : Regions) → value_at s p ≡ Some x
    → p < length s
within_list s p x e = elim (cases_lt p (length s)) [
  | inl lt ↦ lt
  | inr past ↦ absurd (none-some x (sym (get_or_past s p None past) ∙ e))
]

module _ (analysis : Analysis) (fits : IsAnalysis analysis) (s : List (Option Regions))
    (least : IsLeastOfBlocks (layout analysis) s) where
  size_of_state : (p : ℕ) (x : Regions) → value_at s p ≡ Some x → size_of x ≡ facts_of analysis
  size_of_state p x e = size_at (facts_of analysis) (value_at s p) x e (least.closed.sized p)

  pub bounds : BlocksBound (layout analysis) s
  bounds = record {
    sized = least.closed.sized;
    entered = λ x enters size. below_down IsWithin within_trans x least.closed.entry (value_at s 0)
        (entries_within analysis.setting analysis.sites x least.closed.entry enters
        least.closed.enters_by) least.closed.entered;
    stepped = λ p x y made e within size walks q has.
        let passed = least.closed.stepped p y e in
        below_down IsWithin within_trans made passed.made (value_at s q)
        (leads_monotone analysis p x y made passed.made size (size_of_state p y e) within walks
        passed.leads_to) (passed.below q has);
  }

  abbrev Way : ℕ → Type 0
  Way = HasWay (targets_at analysis.setting.body.blocks)

  module _ (reached : (p : ℕ) → Decided ((p < length s) × Way p)) where
    passes : ℕ → Bool
    passes p = test (reached p)

    pub lower : List (Option Regions)
    lower = kept_from passes 0 s

    lower_at : (p : ℕ) → value_at lower p ≡ kept passes p (value_at s p)
    unfolding lower
    lower_at p = let e : 0 + p ≡ p = omega arith in
        kept_at passes 0 s p ∙ ap (λ n. kept passes n (value_at s p)) e

    -- what stands in it
    stands_in : (p : ℕ) (y : Regions) → value_at lower p ≡ Some y
        → (x : Regions) × (value_at s p ≡ Some x) × (y ≡ bared x) × Way p
    unfolding kept passes
    stands_in p y e = by (reached p) (value_at s p) refl refl (sym (lower_at p) ∙ e)
      where
        by : (d : Decided ((p < length s) × Way p)) (o : Option Regions) → reached p ≡ d
            → value_at s p ≡ o → cond (test (reached p)) (option_map bared (value_at s p)) None ≡ Some y
            → (x : Regions) × (value_at s p ≡ Some x) × (y ≡ bared x) × Way p
        by (inl h) (Some x) d o is = (
          x,
          o,
          sym (same_Some (bared x) y (sym (ap (λ n. cond (test n) (option_map bared (value_at s p)) None) d
              ∙ ap (option_map bared) o) ∙ is)),
          h.1,
        )
        by (inl h) None d o is = absurd (none-some y (sym (ap (λ n. cond (test n)
            (option_map bared (value_at s p)) None) d ∙ ap (option_map bared) o) ∙ is))
        by (inr non) o d o_is is = absurd (none-some y (sym (ap (λ n. cond (test n)
            (option_map bared (value_at s p)) None) d) ∙ is))

    below_lower : (p : ℕ) (x : Regions) → Way p → IsBare x → IsBelow IsWithin x (value_at s p)
        → IsBelow IsWithin x (value_at lower p)
    unfolding kept passes
    below_lower p x way bare below =
        let y = stands_above (value_at s p) x below in
        let is_reached = holds_test (reached p) (within_list s p y.0 y.1, way) in
        subst (IsBelow IsWithin x) (sym (lower_at p
        ∙ ap (λ b. cond b (option_map bared (value_at s p)) None) is_reached
        ∙ ap (option_map bared) y.1)) (within_bared y.0 x y.2 bare)

    lower_bounds : BlocksBound (layout analysis) lower
    lower_bounds = record {
      sized = λ p. if_some (λ r. size_of r ≡ facts_of analysis) (value_at lower p)
          (λ y e. let w = stands_in p y e in
          ap size_of w.2 ∙ bared_size w.0 ∙ size_of_state p w.0 w.1);
      entered = λ x enters size. below_lower 0 x (0, refl)
          (λ site has. enters.no_pairs 0 site has) (bounds.entered x enters size);
      stepped = λ p x y made e within size walks q has.
          let w = stands_in p y e in
          let low = subst (IsWithin x) w.2 within in
          let up = within_trans x (bared w.0) w.0 low (bared_within w.0) in
          let bare : IsBare x = λ site pair. bared_bare w.0 site (low.pairs 0 site pair) in
          let copied : IsBare walks.1.copied = λ site pair.
          bare site ((same_within x walks.1.copied walks.1.is_copy.same).1.pairs 0 site pair) in
          below_lower q made (suc w.3.0, (p, w.3.1, has))
          (runs_bare (block_ops_at analysis.setting p) _ _ walks.1.copied made
          (ops_fit_at analysis fits p walks.0) walks.1.runs copied)
          (bounds.stepped p x w.0 made w.1 up size walks q has);
    }

    -- what stands in the least annotation
    found : (p : ℕ) (x : Regions) → value_at s p ≡ Some x → IsBare x × Way p
    found p x e =
        let most = least.lowest lower lower_bounds in
        let y = stands_above (value_at lower p) x
        (at_some (value_at s p) (value_at lower p) x e (most.each p)) in
        let w = stands_in p y.0 y.1 in (
          λ site has. bared_bare w.0 site ((subst (IsWithin x) w.2 y.2).pairs 0 site has),
          w.3,
        )

  pub least_is_bare : (p : ℕ) (x : Regions) → value_at s p ≡ Some x → IsBare x
  least_is_bare p x e site has = decided_below (length s) Way
      (λ reached. (found reached p x e).0 site has)

  pub least_is_reached : (p : ℕ) (x : Regions) → value_at s p ≡ Some x → (Way p → ⊥) → ⊥
  least_is_reached p x e none = decided_below (length s) Way
      (λ reached. none (found reached p x e).1)
