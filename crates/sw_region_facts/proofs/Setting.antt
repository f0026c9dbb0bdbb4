-- The operations `put` and `fresh`, as what a register gets.
use Rattle.std.proofs.Common.{◌≡◌, ◌≢◌, ℕ, List, [], ◌∷◌, Option, Some, None, Contains, cond, refl}
use Rattle.std.proofs.Common.{sym, subst, ap, ◌∙◌, inl, inr}
use Rattle.std.proofs.lemmas.Bool.{eq-eqb, ne_eqb}
use Rattle.sw_list.proofs.Members.{one_in, first_in}
use Rattle.sw_owner_facts.specs.View.{Element, Here, Register}
use Rattle.sw_partition.specs.Effects.{IsFreshened, IsPut, stand_in}
use Rattle.sw_partition.specs.Regions.{Regions, Together, HasPair}
use Rattle.sw_region_ops.specs.Elements.{element_at}
use Rattle.sw_region_ops.specs.Groups.{put_first, put_here, fresh}
use Rattle.sw_region_ops.specs.declared.marks.Mark.{Mark}
use Rattle.sw_region_facts.specs.FrameRegions.{element_in, region_in, TogetherIn, LiveIn, HaveOwnNumbers}
use Rattle.sw_region_facts.specs.FrameRegions.{IsStateOf}
use Rattle.sw_region_facts.specs.Moves.{Sets, if_tracked}
use Rattle.sw_region_facts.proofs.Comes.{sets_by, sets_nothing, sets_weaker, sets_from_all}
use Rattle.sw_region_facts.proofs.Doing.{Done}
use Rattle.sw_region_facts.proofs.Marked.{AreMarked}
use Rattle.sw_region_facts.proofs.Numbers.{together_by, live_by, other_number, together_from}
use Rattle.sw_region_facts.proofs.Numbers.{together_tells, alone_is, cases_in}
use Rattle.sw_region_facts.proofs.Weaker.{weaker_itself}

module _ (elements : List (Option ℕ)) (own : HaveOwnNumbers elements) (a b : Regions)
    (sized : IsStateOf elements a) (r : ℕ) where
  -- ---- a fresh register is alone
  pub fresh_together : (x : ℕ) → element_at elements r ≡ Some x → IsFreshened x a b
      → (e f : Element) → e ≢ Register r → f ≢ Register r → TogetherIn elements a e f
      → TogetherIn elements b e f
  fresh_together x is fresh e f one two t = together_by elements own a b sized e f
      (λ p q at there both. (fresh.together p q).1 (inr (
        other_number elements own r x is e p at one,
        other_number elements own r x is f q there two,
        both,
      ))) t

  pub fresh_live : (x : ℕ) → element_at elements r ≡ Some x → IsFreshened x a b
      → (e : Element) → e ≢ Register r → LiveIn elements b e → LiveIn elements a e
  fresh_live x is fresh e differ l = live_by elements own a b sized e
      (λ p site at has. (fresh.pairs p site).1 (other_number elements own r x is e p at differ, has))
      l

  pub sets_fresh : Done (fresh (element_at elements r)) a b → Sets elements r [] a b
  sets_fresh done = by (element_at elements r) refl done where
    by : (o : Option ℕ) → element_at elements r ≡ o → Done (fresh o) a b → Sets elements r [] a b
    by None is done = subst (Sets elements r [] a) (sym done.runs)
        (sets_weaker elements r a a (weaker_itself elements a))
    by (Some x) is done =
        let made : IsFreshened x a b =
        subst (IsFreshened x a) (sym done.runs.2) done.runs.1 in
        sets_nothing elements r a b (fresh_together x is made) (fresh_live x is made)

  -- ---- a register that is put with element y
  module _ (y : Element) (x z : ℕ) (is : element_at elements r ≡ Some x)
      (there : element_in elements y ≡ Some z) (put : IsPut x z a b) where
    stays : (e : Element) (w : ℕ) → element_in elements e ≡ Some w → e ≢ Register r
        → stand_in x z w ≡ w
    stays e w at differ =
        ap (λ t. cond t z w) (ne_eqb w x (other_number elements own r x is e w at differ))

    put_together : (e f : Element) → e ≢ Register r → f ≢ Register r → TogetherIn elements a e f
        → TogetherIn elements b e f
    put_together e f one two t = together_by elements own a b sized e f
        (λ p q at at_f both. (put.together p q).1
        (subst (λ n. Together a n (stand_in x z q)) (sym (stays e p at one))
        (subst (Together a p) (sym (stays f q at_f two)) both))) t

    put_live : (e : Element) → e ≢ Register r → LiveIn elements b e → LiveIn elements a e
    put_live e differ l = live_by elements own a b sized e
        (λ p site at has. (put.pairs p site).1
        (subst (λ n. HasPair a n site) (sym (stays e p at differ)) has)) l

    -- what was with y is with r
    put_with_source : (e : Element) → e ≢ Register r → TogetherIn elements a y e
        → TogetherIn elements b (Register r) e
    put_with_source e differ t = elim (cases_in elements e) [
      | inr (s, same, none) ↦
          let y_is : y ≡ Register s = alone_is elements a s y none
          (ap (region_in elements a) (sym same) ∙ sym t) in
          let clash : Some z ≡ None =
          sym there ∙ ap (element_in elements) y_is ∙ none in
          absurd (let nothing : ⊥ = cc in nothing)
      | inl (w, at) ↦ together_from elements b (Register r) e x w is at ((put.together x w).1
          (subst (λ n. Together a n (stand_in x z w)) (sym (ap (λ t. cond t z x) (eq-eqb x x refl)))
          (subst (Together a z) (sym (stays e w at differ))
          (together_tells elements own a sized y e z w there at t))))
    ]

    pub sets_put : LiveIn elements a y → Sets elements r (y ∷ []) a b
    sets_put live = sets_by elements r (y ∷ []) a b put_together put_live
        (λ s has. subst (LiveIn elements a) (one_in y s has) live)
        (λ s e has differ t. put_with_source e differ
        (subst (λ n. TogetherIn elements a n e) (sym (one_in y s has)) t))

  pub sets_here : Done (put_here (element_at elements r)) a b
      → Sets elements r (if_tracked (element_at elements r) (Here ∷ [])) a b
  sets_here done = by (element_at elements r) refl done where
    by : (o : Option ℕ) → element_at elements r ≡ o → Done (put_here o) a b
        → Sets elements r (if_tracked o (Here ∷ [])) a b
    by None is done = subst (Sets elements r [] a) (sym done.runs)
        (sets_weaker elements r a a (weaker_itself elements a))
    by (Some x) is done = sets_put Here x 0 is refl
        (subst (IsPut x 0 a) (sym done.runs.2) done.runs.1) tt

  -- a register that is as the first of several that are together
  pub sets_first : (xs : List Element) (marks : List Mark) → AreMarked elements xs marks
      → ((s : Element) → Contains xs s → LiveIn elements a s)
      → ((s y : Element) → Contains xs s → Contains xs y → TogetherIn elements a s y)
      → Done (put_first (element_at elements r) marks) a b
      → Sets elements r (if_tracked (element_at elements r) xs) a b
  sets_first xs marks marked live together done =
      by (element_at elements r) refl xs marks marked live together done
    where
      by : (o : Option ℕ) → element_at elements r ≡ o → (xs : List Element) (marks : List Mark)
          → AreMarked elements xs marks
          → ((s : Element) → Contains xs s → LiveIn elements a s)
          → ((s y : Element) → Contains xs s → Contains xs y → TogetherIn elements a s y)
          → Done (put_first o marks) a b → Sets elements r (if_tracked o xs) a b
      by None is xs marks marked live together done = subst (Sets elements r [] a) (sym done.runs)
          (sets_weaker elements r a a (weaker_itself elements a))
      by (Some x) is [] [] marked live together done =
          let made : IsFreshened x a b = subst (IsFreshened x a) (sym done.runs.2) done.runs.1 in
          sets_nothing elements r a b (fresh_together x is made) (fresh_live x is made)
      by (Some x) is [] (first ∷ marks) marked live together done = absurd cc
      by (Some x) is (y ∷ xs) [] marked live together done = absurd cc
      by (Some x) is (y ∷ xs) (first ∷ marks) marked live together done =
          let there : element_in elements y ≡ Some first.x = cc in
          sets_from_all elements r y (y ∷ xs) a b
          (sets_put y x first.x is there (subst (IsPut x first.x a) (sym done.runs.2) done.runs.1)
          (live y (first_in y xs))) live (λ s has. together y s (first_in y xs) has)
