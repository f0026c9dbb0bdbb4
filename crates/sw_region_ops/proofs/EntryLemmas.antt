-- The state at the entry of a function, as elements are put with `Here` one after the other.
use Rattle.std.proofs.Common.{◌≡◌, ℕ, ◌+◌, ◌<◌, List, [], ◌∷◌, ◌++◌, length, ◌⊎◌, inl, inr}
use Rattle.std.proofs.Common.{zero, suc, refl, sym, subst, ◌∙◌, arith}
use Rattle.std.proofs.Common.{ap, append_assoc, add-one, drop, drop-cons, Bool, false, Option, ◌≤◌}
use Rattle.std.proofs.Common.{if◌then◌else◌}
use Rattle.std.specs.List.{Contains}
use Rattle.std.specs.Prelude.{slice_index_or}
use Rattle.std.proofs.lemmas.Grind.{common_steps}
use Rattle.std.proofs.lemmas.List.{append-nil}
use Rattle.std.proofs.lemmas.List.Elements.{Contains-append_left, Contains-push}
use Rattle.std.proofs.lemmas.List.Elements.{Contains-push_cases}
use Rattle.sw_partition.specs.Regions.{Regions, Together}
use Rattle.sw_partition.specs.Effects.{IsBlank, IsJoined}
use Rattle.sw_region_ops.specs.Elements.{element_at}
use Rattle.sw_region_ops.specs.Entry.{IsMet, AreMet, listed, lent_from}

-- Some elements are together, and `all` are those with the rest.
pub record IsLentUpTo (count : ℕ) (sites all rest : List ℕ) (r : Regions) : Type 0 where
  pub met : List ℕ
  pub here : Contains met 0
  pub is_met : IsMet count sites met r
  pub whole : met ++ rest ≡ all

-- after a join with `Here` one more element is among those that are together
pub met_more : (count : ℕ) (sites met : List ℕ) (x : ℕ) (a b : Regions) → Contains met 0
    → IsMet count sites met a → x < length a.labels → IsJoined x 0 a b
    → IsMet count sites (met ++ x ∷ []) b
met_more count sites met x a b here is_met within joined = record {
  elements_are = joined.elements_same ∙ is_met.elements_are;
  sites_are = joined.sites_same ∙ is_met.sites_are;
  together = λ p q. (
    λ t. forth p q ((joined.together p q).0 t),
    λ m. (joined.together p q).1 (back p q m),
  );
  no_pairs = λ p site has. is_met.no_pairs p site ((joined.pairs p site).0 has);
}
  where
    old : (p q : ℕ) → AreMet count met p q → Together a p q
    old p q m = (is_met.together p q).1 m

    more : (p : ℕ) → Contains met p → Contains (met ++ x ∷ []) p
    more p c = Contains-append_left met (x ∷ []) p c

    self : Together a x x
    self = old x x (inl (refl, subst (λ n. x < n) is_met.elements_are within))

    -- what is with x or with `Here` is among the new ones
    with_x : (p : ℕ) → AreMet count met p x → Contains (met ++ x ∷ []) p
    with_x p (inl e) = subst (λ n. Contains (met ++ x ∷ []) n) (sym e.0) (Contains-push met x)
    with_x p (inr both) = more p both.0

    with_here : (p : ℕ) → AreMet count met p 0 → Contains (met ++ x ∷ []) p
    with_here p (inl e) = subst (λ n. Contains (met ++ x ∷ []) n) (sym e.0) (more 0 here)
    with_here p (inr both) = more p both.0

    swap : (p q : ℕ) → AreMet count met p q → AreMet count met q p
    swap p q (inl e) = inl (sym e.0, subst (λ n. n < count) e.0 e.1)
    swap p q (inr both) = inr (both.1, both.0)

    forth : (p q : ℕ) → (Together a p q ⊎ ((Together a p x × Together a 0 q)
        ⊎ (Together a p 0 × Together a x q))) → AreMet count (met ++ x ∷ []) p q
    forth p q (inl t) = kept ((is_met.together p q).0 t)
      where
        kept : AreMet count met p q → AreMet count (met ++ x ∷ []) p q
        kept (inl e) = inl e
        kept (inr both) = inr (more p both.0, more q both.1)
    forth p q (inr (inl w)) = inr (
      with_x p ((is_met.together p x).0 w.0),
      with_here q (swap 0 q ((is_met.together 0 q).0 w.1)),
    )
    forth p q (inr (inr w)) = inr (
      with_here p ((is_met.together p 0).0 w.0),
      with_x q (swap x q ((is_met.together x q).0 w.1)),
    )

    cases : (p q : ℕ) → (Contains met p ⊎ (x ≡ p)) → (Contains met q ⊎ (x ≡ q))
        → (Together a p q ⊎ ((Together a p x × Together a 0 q)
        ⊎ (Together a p 0 × Together a x q)))
    cases p q (inl c) (inl d) = inl (old p q (inr (c, d)))
    cases p q (inl c) (inr e) =
        inr (inr (old p 0 (inr (c, here)), subst (λ n. Together a x n) e self))
    cases p q (inr e) (inl d) =
        inr (inl (subst (λ n. Together a n x) e self, old 0 q (inr (here, d))))
    cases p q (inr e) (inr f) =
        inl (subst (λ n. Together a n q) e (subst (λ n. Together a x n) f self))

    back : (p q : ℕ) → AreMet count (met ++ x ∷ []) p q
        → (Together a p q ⊎ ((Together a p x × Together a 0 q)
        ⊎ (Together a p 0 × Together a x q)))
    back p q (inl e) = inl (old p q (inl e))
    back p q (inr both) =
        cases p q (Contains-push_cases met x p both.0) (Contains-push_cases met x q both.1)

-- where each element is alone, `Here` is with itself
pub blank_met : (count : ℕ) (sites : List ℕ) (r : Regions) → 0 < count → IsBlank count sites r
    → IsMet count sites (0 ∷ []) r
blank_met count sites r some blank = record {
  elements_are = blank.elements_are;
  sites_are = blank.sites_are;
  together = λ x y. (λ t. inl ((blank.alone x y).0 t), λ m. (blank.alone x y).1 (alone x y m));
  no_pairs = blank.no_pairs;
}
  where
    is_here : (x : ℕ) → Contains (0 ∷ []) x → x ≡ 0
    is_here x (zero, within, e) = sym e
    is_here x (suc k, within, e) = absurd (omega arith)

    alone : (x y : ℕ) → AreMet count (0 ∷ []) x y → (x ≡ y) × (x < count)
    alone x y (inl e) = e
    alone x y (inr both) = let left = is_here x both.0 in let right = is_here y both.1 in
        (left ∙ sym right, subst (λ n. n < count) (sym left) some)

-- one more register
pub lent_next : (count : ℕ) (sites all : List ℕ) (elements : List (Option ℕ)) (sending : List Bool)
    (i : ℕ) (a b : Regions) → i < length sending
    → ((met : List ℕ) → Contains met 0 → IsMet count sites met a → IsMet count sites
    (met ++ (if slice_index_or sending i false then [] else listed (element_at elements i))) b)
    → IsLentUpTo count sites all (lent_from elements i (drop i sending)) a
    → IsLentUpTo count sites all (lent_from elements (i + 1) (drop (i + 1) sending)) b
lent_next count sites all elements sending i a b within more upto = record {
  met = upto.met ++ last;
  here = Contains-append_left upto.met last 0 upto.here;
  is_met = more upto.met upto.here upto.is_met;
  whole = append_assoc upto.met last later ∙ ap (λ xs. upto.met ++ xs) (sym split) ∙ upto.whole;
}
  where
    last : List ℕ
    last = if slice_index_or sending i false then [] else listed (element_at elements i)

    later : List ℕ
    later = lent_from elements (i + 1) (drop (i + 1) sending)

    split : lent_from elements i (drop i sending)
        ≡ (if slice_index_or sending i false then [] else listed (element_at elements i))
        ++ lent_from elements (i + 1) (drop (i + 1) sending)
    split =
        let next : i + 1 ≡ suc i = omega arith in
        rw (add-one, drop-cons sending i false within)
        (ap (λ k. last ++ lent_from elements k (drop (suc i) sending)) next)

-- all registers
pub lent_all : (count : ℕ) (sites all : List ℕ) (elements : List (Option ℕ)) (sending : List Bool)
    (i : ℕ) (a : Regions) → length sending ≤ i
    → IsLentUpTo count sites all (lent_from elements i (drop i sending)) a
    → IsMet count sites all a
lent_all count sites all elements sending i a past upto =
    subst (λ met. IsMet count sites met a) whole upto.is_met
  where
    none : drop i sending ≡ []
    none = grind (arith, common_steps)

    whole : upto.met ≡ all
    whole = let h = rw none at upto.whole in sym (append-nil upto.met) ∙ h
