-- Each operation makes some state of a state that it fits.
use Rattle.std.proofs.Common.{◌≡◌, ◌≢◌, ℕ, ◌<◌, ◌⊎◌, inl, inr, Bool, true, false, List, [], ◌∷◌}
use Rattle.std.proofs.Common.{◌==◌, if◌then◌else◌, length, Contains, refl, sym, subst, ◌∙◌}
use Rattle.std.proofs.lemmas.Bool.{cases_eq, eqb-true}
use Rattle.std.proofs.lemmas.List.Elements.{All-head, All-tail}
use Rattle.std.proofs.lemmas.List.{get_or_default}
use Rattle.std.specs.List.{All}
use Rattle.std.specs.Prelude.{slice_index}
use Rattle.sw_partition.specs.Effects.{IsFreshened, IsPut, IsJoined, IsGiven, stand_in}
use Rattle.sw_partition.specs.Regions.{Regions, size_of, mark_of, Together, HasPair}
use Rattle.sw_region_flow.proofs.Deciding.{Decided, both_decided, either_decided, not_decided}
use Rattle.sw_region_flow.proofs.Deciding.{same_decided, below_decided, member_decided, first_below}
use Rattle.sw_region_flow.proofs.Tabled.{IsState, made, is_made}
use Rattle.sw_region_ops.proofs.RunLemmas.{does_size}
use Rattle.sw_region_ops.specs.Entry.{AreMet, IsMet}
use Rattle.sw_region_ops.specs.Runs.{Applies, Runs, Fits}
use Rattle.sw_region_ops.specs.declared.op.Op.{Op}
use Rattle.sw_region_ops.specs.declared.op.Op.TheVariants.{Need, Free, Fresh, Put, Join, Give}

-- what is said of a state can be decided
pub tell_together : (r : Regions) (x y : ℕ) → Decided (Together r x y)
tell_together r x y = by (below_decided x (length r.labels)) (below_decided y (length r.labels))
    (same_decided (slice_index r.labels x) (slice_index r.labels y))
  where
    by : Decided (x < length r.labels) → Decided (y < length r.labels)
        → Decided (slice_index r.labels x ≡ slice_index r.labels y) → Decided (Together r x y)
    by (inl a) (inl b) (inl e) = inl (record { left = a; right = b; same = e })
    by (inl a) (inl b) (inr non) = inr (λ t. non t.same)
    by (inl a) (inr non) e = inr (λ t. non t.right)
    by (inr non) b e = inr (λ t. non t.left)

pub tell_pair : (r : Regions) (x site : ℕ) → Decided (HasPair r x site)
tell_pair r x site = by (below_decided x (length r.labels)) (first_below (length r.sites)
    (λ k. (slice_index r.sites k ≡ site) × (mark_of r x k ≡ 1))
    (λ k. both_decided (same_decided (slice_index r.sites k) site)
    (same_decided (mark_of r x k) 1)))
  where
    by : Decided (x < length r.labels)
        → ((k : ℕ) × (k < length r.sites)
        × ((slice_index r.sites k ≡ site) × (mark_of r x k ≡ 1))
        × ((j : ℕ) → j < k → ((slice_index r.sites j ≡ site) × (mark_of r x j ≡ 1)) → ⊥))
        ⊎ ((k : ℕ) → k < length r.sites
        → ((slice_index r.sites k ≡ site) × (mark_of r x k ≡ 1)) → ⊥)
        → Decided (HasPair r x site)
    by (inl lt) (inl h) = inl (record {
      element = lt;
      column = h.0;
      in_range = h.1;
      is_site = h.2.0;
      marked = h.2.1;
    })
    by (inl lt) (inr none) = inr (λ has. none has.column has.in_range (has.is_site, has.marked))
    by (inr non) found = inr (λ has. non has.element)

-- the equivalence of a state
pub itself : (r : Regions) (x : ℕ) → x < length r.labels → Together r x x
itself r x lt = record { left = lt; right = lt; same = refl }

pub turned : (r : Regions) (x y : ℕ) → Together r x y → Together r y x
turned r x y t = record { left = t.right; right = t.left; same = sym t.same }

pub along : (r : Regions) (x y z : ℕ) → Together r x y → Together r y z → Together r x z
along r x y z t u = record { left = t.left; right = u.right; same = t.same ∙ u.same }

pub pair_there : (r : Regions) (x site : ℕ) → HasPair r x site
    → (x < length r.labels) × Contains r.sites site
pair_there r x site has = (
  has.element,
  (
    has.column,
    has.in_range,
    get_or_default r.sites has.column site 0 has.in_range ∙ has.is_site,
  ),
)

-- an element leaves its class
module _ (x : ℕ) (a : Regions) where
  abbrev Fresher : ℕ → ℕ → Type 0
  Fresher p q = ((p ≡ q) × (p < length a.labels)) ⊎ ((p ≢ x) × (q ≢ x) × Together a p q)

  fresher_within : (p q : ℕ) → Fresher p q → (p < length a.labels) × (q < length a.labels)
  fresher_within p q (inl h) = (h.1, subst (λ n. n < length a.labels) h.0 h.1)
  fresher_within p q (inr h) = (h.2.left, h.2.right)

  fresher_turned : (p q : ℕ) → Fresher p q → Fresher q p
  fresher_turned p q (inl h) = inl (sym h.0, subst (λ n. n < length a.labels) h.0 h.1)
  fresher_turned p q (inr h) = inr (h.1, h.0, turned a p q h.2)

  fresher_along : (p q s : ℕ) → Fresher p q → Fresher q s → Fresher p s
  fresher_along p q s (inl h) u = subst (λ n. Fresher n s) (sym h.0) u
  fresher_along p q s (inr h) (inl u) = inr (
    h.0,
    subst (λ n. n ≢ x) u.0 h.1,
    subst (λ n. Together a p n) u.0 h.2,
  )
  fresher_along p q s (inr h) (inr u) = inr (h.0, u.1, along a p q s h.2 u.2)

  freshened_is : IsState (length a.labels) a.sites Fresher (λ p site. (p ≢ x) × HasPair a p site)
  freshened_is = record {
    tell = λ p q. either_decided
        (both_decided (same_decided p q) (below_decided p (length a.labels)))
        (tell_apart p q (same_decided p x) (same_decided q x) (tell_together a p q));
    within = fresher_within;
    itself = λ p lt. inl (refl, lt);
    turned = fresher_turned;
    along = fresher_along;
    tell_pair = λ p site. both_decided (not_decided (same_decided p x)) (tell_pair a p site);
    there = λ p site h. pair_there a p site h.1;
  }
    where
      tell_apart : (p q : ℕ) → Decided (p ≡ x) → Decided (q ≡ x) → Decided (Together a p q)
          → Decided ((p ≢ x) × (q ≢ x) × Together a p q)
      tell_apart p q (inl e) d t = inr (λ h. h.0 e)
      tell_apart p q (inr non) (inl e) t = inr (λ h. h.1 e)
      tell_apart p q (inr non) (inr none) (inl t) = inl (non, none, t)
      tell_apart p q (inr non) (inr none) (inr apart) = inr (λ h. apart h.2)

  some_freshened : (b : Regions) × IsFreshened x a b
  some_freshened =
      let m = is_made (length a.labels) a.sites Fresher (λ p site. (p ≢ x) × HasPair a p site)
      freshened_is in (
        made (length a.labels) a.sites Fresher (λ p site. (p ≢ x) × HasPair a p site) freshened_is,
        record {
          elements_same = m.elements_are;
          sites_same = m.sites_are;
          together = m.together;
          pairs = m.pairs;
        },
      )

-- an element becomes as another is
module _ (x y : ℕ) (a : Regions) (x_lt : x < length a.labels) (y_lt : y < length a.labels) where
  back_within : (p : ℕ) → stand_in x y p < length a.labels → p < length a.labels
  back_within p lt = elim (cases_eq p x) [
    | inl e ↦ subst (λ n. n < length a.labels) (sym e) x_lt
    | inr other ↦ by (p == x) refl lt other
  ]
    where
      by : (b : Bool) → (p == x) ≡ b → (if b then y else p) < length a.labels → (p ≡ x → ⊥)
          → p < length a.labels
      by true e lt other = absurd (other (eqb-true p x e))
      by false e lt other = lt

  forth_within : (p : ℕ) → p < length a.labels → stand_in x y p < length a.labels
  forth_within p lt = by (p == x)
    where
      by : (b : Bool) → (if b then y else p) < length a.labels
      by true = y_lt
      by false = lt

  put_is : IsState (length a.labels) a.sites (λ p q. Together a (stand_in x y p) (stand_in x y q))
      (λ p site. HasPair a (stand_in x y p) site)
  put_is = record {
    tell = λ p q. tell_together a (stand_in x y p) (stand_in x y q);
    within = λ p q t. (back_within p t.left, back_within q t.right);
    itself = λ p lt. itself a (stand_in x y p) (forth_within p lt);
    turned = λ p q t. turned a (stand_in x y p) (stand_in x y q) t;
    along = λ p q s t u. along a (stand_in x y p) (stand_in x y q) (stand_in x y s) t u;
    tell_pair = λ p site. tell_pair a (stand_in x y p) site;
    there = λ p site has. let h = pair_there a (stand_in x y p) site has in
        (back_within p h.0, h.1);
  }

  some_put : (b : Regions) × IsPut x y a b
  some_put =
      let m = is_made (length a.labels) a.sites
      (λ p q. Together a (stand_in x y p) (stand_in x y q))
      (λ p site. HasPair a (stand_in x y p) site) put_is in (
        made (length a.labels) a.sites (λ p q. Together a (stand_in x y p) (stand_in x y q))
            (λ p site. HasPair a (stand_in x y p) site) put_is,
        record {
          elements_same = m.elements_are;
          sites_same = m.sites_are;
          together = m.together;
          pairs = m.pairs;
        },
      )

-- two classes unite
module _ (x y : ℕ) (a : Regions) where
  abbrev Nearer : ℕ → ℕ → Type 0
  Nearer p q = Together a p q
      ⊎ ((Together a p x × Together a y q) ⊎ (Together a p y × Together a x q))

  nearer_within : (p q : ℕ) → Nearer p q → (p < length a.labels) × (q < length a.labels)
  nearer_within p q (inl t) = (t.left, t.right)
  nearer_within p q (inr (inl h)) = (h.0.left, h.1.right)
  nearer_within p q (inr (inr h)) = (h.0.left, h.1.right)

  nearer_turned : (p q : ℕ) → Nearer p q → Nearer q p
  nearer_turned p q (inl t) = inl (turned a p q t)
  nearer_turned p q (inr (inl h)) = inr (inr (turned a y q h.1, turned a p x h.0))
  nearer_turned p q (inr (inr h)) = inr (inl (turned a x q h.1, turned a p y h.0))

  nearer_along : (p q s : ℕ) → Nearer p q → Nearer q s → Nearer p s
  nearer_along p q s (inl t) (inl u) = inl (along a p q s t u)
  nearer_along p q s (inl t) (inr (inl u)) = inr (inl (along a p q x t u.0, u.1))
  nearer_along p q s (inl t) (inr (inr u)) = inr (inr (along a p q y t u.0, u.1))
  nearer_along p q s (inr (inl h)) (inl u) = inr (inl (h.0, along a y q s h.1 u))
  nearer_along p q s (inr (inl h)) (inr (inl u)) = inr (inl (h.0, u.1))
  nearer_along p q s (inr (inl h)) (inr (inr u)) = inl (along a p x s h.0 u.1)
  nearer_along p q s (inr (inr h)) (inl u) = inr (inr (h.0, along a x q s h.1 u))
  nearer_along p q s (inr (inr h)) (inr (inl u)) = inl (along a p y s h.0 u.1)
  nearer_along p q s (inr (inr h)) (inr (inr u)) = inr (inr (h.0, u.1))

  joined_is : IsState (length a.labels) a.sites Nearer (HasPair a)
  joined_is = record {
    tell = λ p q. either_decided (tell_together a p q) (either_decided
        (both_decided (tell_together a p x) (tell_together a y q))
        (both_decided (tell_together a p y) (tell_together a x q)));
    within = nearer_within;
    itself = λ p lt. inl (itself a p lt);
    turned = nearer_turned;
    along = nearer_along;
    tell_pair = tell_pair a;
    there = pair_there a;
  }

  pub some_joined : (b : Regions) × IsJoined x y a b
  some_joined = let m = is_made (length a.labels) a.sites Nearer (HasPair a) joined_is in (
    made (length a.labels) a.sites Nearer (HasPair a) joined_is,
    record {
      elements_same = m.elements_are;
      sites_same = m.sites_are;
      together = m.together;
      pairs = m.pairs;
    },
  )

-- the elements of a class are given away
module _ (x given : ℕ) (a : Regions) (site_there : Contains a.sites given) where
  abbrev Given : ℕ → ℕ → Type 0
  Given p site = HasPair a p site ⊎ ((site ≡ given) × (p ≢ 0) × Together a p x)

  given_there : (p site : ℕ) → Given p site → (p < length a.labels) × Contains a.sites site
  given_there p site (inl has) = pair_there a p site has
  given_there p site (inr h) =
      (h.2.left, subst (λ s. Contains a.sites s) (sym h.0) site_there)

  given_is : IsState (length a.labels) a.sites (Together a) Given
  given_is = record {
    tell = tell_together a;
    within = λ p q t. (t.left, t.right);
    itself = itself a;
    turned = turned a;
    along = along a;
    tell_pair = λ p site. either_decided (tell_pair a p site)
        (tell_new p site (same_decided site given) (same_decided p 0) (tell_together a p x));
    there = given_there;
  }
    where
      tell_new : (p site : ℕ) → Decided (site ≡ given) → Decided (p ≡ 0)
          → Decided (Together a p x) → Decided ((site ≡ given) × (p ≢ 0) × Together a p x)
      tell_new p site (inr non) d t = inr (λ h. non h.0)
      tell_new p site (inl e) (inl here) t = inr (λ h. h.1 here)
      tell_new p site (inl e) (inr non) (inl t) = inl (e, non, t)
      tell_new p site (inl e) (inr non) (inr apart) = inr (λ h. apart h.2)

  some_given : (b : Regions) × IsGiven x given a b
  some_given = let m = is_made (length a.labels) a.sites (Together a) Given given_is in (
    made (length a.labels) a.sites (Together a) Given given_is,
    record {
      elements_same = m.elements_are;
      sites_same = m.sites_are;
      together = m.together;
      pairs = m.pairs;
    },
  )

pub some_done : (op : Op) (a : Regions) → Fits (size_of a) op → (b : Regions) × Applies op a b
some_done (Need x at) a fits = (a, refl)
some_done (Free x at code) a fits = (a, refl)
some_done (Fresh x) a fits = some_freshened x a
some_done (Put x y) a fits = some_put x y a fits.1 fits.2
some_done (Join x y) a fits = some_joined x y a
some_done (Give x site) a fits = some_given x site a fits.2

-- and so do operations, one after the other
pub some_run : (ops : List Op) (a : Regions) → All (Fits (size_of a)) ops
    → (b : Regions) × Runs ops a b
some_run [] a fits = (a, refl)
some_run (op ∷ ops) a fits =
    let m = some_done op a (All-head (Fits (size_of a)) op ops fits) in
    let rest = some_run ops m.0 (subst (λ s. All (Fits s) ops) (sym (does_size op a m.0 m.1))
    (All-tail (Fits (size_of a)) op ops fits)) in (rest.0, (m.0, m.1, rest.1))

-- a state in which some elements are together
module _ (count : ℕ) (sites met : List ℕ)
    (inside : (x : ℕ) → Contains met x → x < count) where
  met_within : (x y : ℕ) → AreMet count met x y → (x < count) × (y < count)
  met_within x y (inl h) = (h.1, subst (λ n. n < count) h.0 h.1)
  met_within x y (inr h) = (inside x h.0, inside y h.1)

  met_turned : (x y : ℕ) → AreMet count met x y → AreMet count met y x
  met_turned x y (inl h) = inl (sym h.0, subst (λ n. n < count) h.0 h.1)
  met_turned x y (inr h) = inr (h.1, h.0)

  met_along : (x y z : ℕ) → AreMet count met x y → AreMet count met y z → AreMet count met x z
  met_along x y z (inl h) u = subst (λ n. AreMet count met n z) (sym h.0) u
  met_along x y z (inr h) (inl u) = inr (h.0, subst (λ n. Contains met n) u.0 h.1)
  met_along x y z (inr h) (inr u) = inr (h.0, u.1)

  met_is : IsState count sites (AreMet count met) (λ x site. ⊥)
  met_is = record {
    tell = λ x y. either_decided (both_decided (same_decided x y) (below_decided x count))
        (both_decided (member_decided met x) (member_decided met y));
    within = met_within;
    itself = λ x lt. inl (refl, lt);
    turned = met_turned;
    along = met_along;
    tell_pair = λ x site. inr (λ none. none);
    there = λ x site none. absurd none;
  }

  pub some_met : (r : Regions) × IsMet count sites met r
  some_met = let m = is_made count sites (AreMet count met) (λ x site. ⊥) met_is in (
    made count sites (AreMet count met) (λ x site. ⊥) met_is,
    record {
      elements_are = m.elements_are;
      sites_are = m.sites_are;
      together = m.together;
      no_pairs = λ x site has. (m.pairs x site).0 has;
    },
  )
