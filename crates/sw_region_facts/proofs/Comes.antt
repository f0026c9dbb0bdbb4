-- What a register gets from sources.
use Rattle.std.proofs.Common.{Some, None, ◌≡◌, ◌≢◌, ℕ, ◌⊎◌, List, [], ◌∷◌, Option, Contains, cond}
use Rattle.std.proofs.Common.{refl, sym, subst, ap, ◌∙◌, inl, inr}
use Rattle.std.proofs.lemmas.Bool.{cases_eq, eq-eqb, ne_eqb}
use Rattle.sw_list.proofs.Members.{none_in, one_in, first_in}
use Rattle.sw_owner_facts.specs.View.{Element, Here, Register}
use Rattle.sw_partition.specs.Regions.{Regions}
use Rattle.sw_region_facts.specs.FrameRegions.{region_in, TogetherIn, LiveIn, IsWeaker}
use Rattle.sw_region_facts.specs.Moves.{comes, Sets, Gathers, Makes, if_tracked}
use Rattle.sw_region_ops.specs.Elements.{element_at}

-- an element comes from the sources if it is register r, and else from itself
pub comes_from : (r : ℕ) (sources : List Element) (x from_x : Element)
    → Contains (comes r sources x) from_x
    → ((x ≡ Register r) × Contains sources from_x) ⊎ ((x ≢ Register r) × (x ≡ from_x))
comes_from r sources Here from_x has =
    inr (λ is. let clash : ⊥ = cc in clash, one_in Here from_x has)
comes_from r sources (Register s) from_x has = elim (cases_eq s r) [
  | inl same ↦ inl (
    ap Register same,
    subst (λ b. Contains (cond b sources (Register s ∷ [])) from_x) (eq-eqb s r same) has,
  )
  | inr differ ↦ inr (
    λ is. differ (let same : s ≡ r = cc in same),
    one_in (Register s) from_x
        (subst (λ b. Contains (cond b sources (Register s ∷ [])) from_x) (ne_eqb s r differ) has),
  )
]

module _ (elements : List (Option ℕ)) where
  -- Register r gets what the sources hold, if what is elsewhere stays, and what was with a source is
  -- with r.
  pub sets_by : (r : ℕ) (sources : List Element) (a c : Regions)
      → ((x y : Element) → x ≢ Register r → y ≢ Register r → TogetherIn elements a x y
      → TogetherIn elements c x y)
      → ((x : Element) → x ≢ Register r → LiveIn elements c x → LiveIn elements a x)
      → ((s : Element) → Contains sources s → LiveIn elements a s)
      → ((s y : Element) → Contains sources s → y ≢ Register r → TogetherIn elements a s y
      → TogetherIn elements c (Register r) y)
      → Sets elements r sources a c
  sets_by r sources a c together live used joins = record {
    together = λ x y from_x from_y has there t. each x y from_x from_y
        (comes_from r sources x from_x has) (comes_from r sources y from_y there) t;
    live = live;
    used = used;
  }
    where
      each : (x y from_x from_y : Element)
          → ((x ≡ Register r) × Contains sources from_x) ⊎ ((x ≢ Register r) × (x ≡ from_x))
          → ((y ≡ Register r) × Contains sources from_y) ⊎ ((y ≢ Register r) × (y ≡ from_y))
          → TogetherIn elements a from_x from_y → TogetherIn elements c x y
      each x y from_x from_y (inl one) (inl two) t = ap (region_in elements c) (one.0 ∙ sym two.0)
      each x y from_x from_y (inl one) (inr two) t = ap (region_in elements c) one.0
          ∙ joins from_x y one.1 two.0 (t ∙ sym (ap (region_in elements a) two.1))
      each x y from_x from_y (inr one) (inl two) t =
          sym (ap (region_in elements c) two.0
          ∙ joins from_y x two.1 one.0 (sym (ap (region_in elements a) one.1 ∙ t)))
      each x y from_x from_y (inr one) (inr two) t = together x y one.0 two.0
          (ap (region_in elements a) one.1 ∙ t ∙ sym (ap (region_in elements a) two.1))

  -- it gets nothing
  pub sets_nothing : (r : ℕ) (a c : Regions)
      → ((x y : Element) → x ≢ Register r → y ≢ Register r → TogetherIn elements a x y
      → TogetherIn elements c x y)
      → ((x : Element) → x ≢ Register r → LiveIn elements c x → LiveIn elements a x)
      → Sets elements r [] a c
  sets_nothing r a c together live = sets_by r [] a c together live
      (λ s has. absurd (none_in s has)) (λ s y has. absurd (none_in s has))

  pub sets_weaker : (r : ℕ) (a c : Regions) → IsWeaker elements a c → Sets elements r [] a c
  sets_weaker r a c weaker =
      sets_nothing r a c (λ x y one two t. weaker.together x y t) (λ x differ l. weaker.live x l)

  -- also up to a weaker state
  pub sets_to : (r : ℕ) (sources : List Element) (a b c : Regions) → Sets elements r sources a b
      → IsWeaker elements b c → Sets elements r sources a c
  sets_to r sources a b c sets weaker = record {
    together = λ x y from_x from_y has there t.
        weaker.together x y (sets.together x y from_x from_y has there t);
    live = λ x differ l. sets.live x differ (weaker.live x l);
    used = sets.used;
  }

  -- what comes from one source comes from all that are together with it
  pub sets_from_all : (r : ℕ) (y : Element) (sources : List Element) (a c : Regions)
      → Sets elements r (y ∷ []) a c
      → ((s : Element) → Contains sources s → LiveIn elements a s)
      → ((s : Element) → Contains sources s → TogetherIn elements a y s)
      → Sets elements r sources a c
  sets_from_all r y sources a c sets live together = sets_by r sources a c
      (λ x z one two t. sets.together x z x z (itself x one) (itself z two) t) sets.live live
      (λ s z has differ t. sets.together (Register r) z y z source (itself z differ)
      (together s has ∙ t))
    where
      itself : (x : Element) → x ≢ Register r → Contains (comes r (y ∷ []) x) x
      itself Here differ = first_in Here []
      itself (Register s) differ =
          subst (λ b. Contains (cond b (y ∷ []) (Register s ∷ [])) (Register s))
          (sym (ne_eqb s r (λ same. differ (ap Register same)))) (first_in (Register s) [])

      source : Contains (comes r (y ∷ []) (Register r)) y
      source = subst (λ b. Contains (cond b (y ∷ []) (Register r ∷ [])) y) (sym (eq-eqb r r refl))
          (first_in y [])

  -- one of the elements that come together gets what all of them hold
  pub gathers_sets : (r : ℕ) (xs : List Element) (a c : Regions) → Gathers elements xs a c
      → Contains xs (Register r) → Sets elements r xs a c
  gathers_sets r xs a c gathers has = sets_by r xs a c
      (λ x y one two t. gathers.uses.weaker.together x y t)
      (λ x differ l. gathers.uses.weaker.live x l) gathers.uses.used
      (λ s y there differ t. gathers.together (Register r) s has there
      ∙ gathers.uses.weaker.together s y t)

  -- a new value comes from what it is made of
  pub makes_sets : (r : ℕ) (xs : List Element) (a c : Regions) → Makes elements r xs a c
      → ((x : Element) → Contains xs x → x ≢ Register r)
      → Sets elements r (if_tracked (element_at elements r) xs) a c
  makes_sets r xs a c makes apart = by (element_at elements r) refl where
    by : (o : Option ℕ) → element_at elements r ≡ o → Sets elements r (if_tracked o xs) a c
    by None is = sets_nothing r a c makes.together makes.live
    by (Some number) is = sets_by r xs a c makes.together makes.live makes.used
        (λ s y has differ t. sym (makes.joined s number has is)
        ∙ makes.together s y (apart s has) differ t)
