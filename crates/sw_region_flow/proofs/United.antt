-- Two region states of one size have a least state above both.
use Rattle.std.proofs.Common.{◌≡◌, ℕ, zero, suc, ◌<◌, ◌⊎◌, inl, inr, List, ◌∷◌}
use Rattle.std.proofs.Common.{length, Contains, refl, sym, subst, ap, ◌∙◌, arith}
use Rattle.std.proofs.lemmas.Bool.{cases_eq, cases_lt}
use Rattle.sw_partition.specs.Effects.{IsJoined}
use Rattle.sw_partition.specs.Laws.{within_trans, rank_rises}
use Rattle.sw_partition.specs.Rank.{rank_of}
use Rattle.sw_partition.specs.Regions.{Regions, size_of, Together, HasPair, IsWithin, IsSameState}
use Rattle.sw_region_flow.proofs.Deciding.{Decided, either_decided}
use Rattle.sw_region_flow.proofs.Doing.{tell_together, tell_pair, itself, turned, along, pair_there}
use Rattle.sw_region_flow.proofs.Doing.{some_joined}
use Rattle.sw_region_flow.proofs.Tabled.{IsState, IsMade, made, is_made}

-- the elements of a state, coarsened: no more than what Q puts together
record IsCoarsened (a : Regions) (Q : ℕ → ℕ → Type 0) (c : Regions) : Type 0 where
  elements_same : length c.labels ≡ length a.labels
  sites_same : c.sites ≡ a.sites
  grown : (x y : ℕ) → Together a x y → Together c x y
  taken : (x y : ℕ) → Q x y → Together c x y
  least : (z : Regions) → ((x y : ℕ) → Together a x y → Together z x y)
      → ((x y : ℕ) → Q x y → Together z x y) → (x y : ℕ) → Together c x y → Together z x y

-- nothing more
nothing_more : (a : Regions) (Q : ℕ → ℕ → Type 0) → ((x y : ℕ) → Q x y → ⊥) → IsCoarsened a Q a
nothing_more a Q none = record {
  elements_same = refl;
  sites_same = refl;
  grown = λ x y t. t;
  taken = λ x y q. absurd (none x y q);
  least = λ z above takes x y t. above x y t;
}

-- what two facts put together, one after the other
one_more : (a c d : Regions) (Q R S : ℕ → ℕ → Type 0) → ((x y : ℕ) → S x y → Q x y ⊎ R x y)
    → ((x y : ℕ) → Q x y → S x y) → ((x y : ℕ) → R x y → S x y) → IsCoarsened a Q c
    → IsCoarsened c R d → IsCoarsened a S d
one_more a c d Q R S parts left right first second = record {
  elements_same = second.elements_same ∙ first.elements_same;
  sites_same = second.sites_same ∙ first.sites_same;
  grown = λ x y t. second.grown x y (first.grown x y t);
  taken = λ x y s. by x y (parts x y s);
  least = λ z above takes. second.least z
      (first.least z above (λ x y q. takes x y (left x y q))) (λ x y r. takes x y (right x y r));
}
  where
    by : (x y : ℕ) → Q x y ⊎ R x y → Together d x y
    by x y (inl q) = second.grown x y (first.taken x y q)
    by x y (inr r) = second.taken x y r

-- one pair of elements
one_pair : (a c : Regions) (p q : ℕ) → p < length a.labels → q < length a.labels
    → IsJoined p q a c → IsCoarsened a (λ x y. (x ≡ p) × (y ≡ q)) c
one_pair a c p q p_lt q_lt joined = record {
  elements_same = joined.elements_same;
  sites_same = joined.sites_same;
  grown = λ x y t. (joined.together x y).1 (inl t);
  taken = λ x y h. subst (λ n. Together c n y) (sym h.0) (subst (λ n. Together c p n) (sym h.1)
      ((joined.together p q).1 (inr (inl (itself a p p_lt, itself a q q_lt)))));
  least = λ z above takes x y t.
      above_all z above (takes p q (refl, refl)) x y ((joined.together x y).0 t);
}
  where
    above_all : (z : Regions) → ((x y : ℕ) → Together a x y → Together z x y) → Together z p q
        → (x y : ℕ) → (Together a x y
        ⊎ ((Together a x p × Together a q y) ⊎ (Together a x q × Together a p y)))
        → Together z x y
    above_all z above both x y (inl t) = above x y t
    above_all z above both x y (inr (inl h)) =
        along z x p y (above x p h.0) (along z p q y both (above q y h.1))
    above_all z above both x y (inr (inr h)) =
        along z x q y (above x q h.0) (along z q p y (turned z p q both) (above p y h.1))

-- what stands together in another state, in a row up to a column
abbrev InRow : Regions → ℕ → ℕ → ℕ → ℕ → Type 0
InRow b p k x y = (x ≡ p) × (y < k) × Together b x y

abbrev InRows : Regions → ℕ → ℕ → ℕ → Type 0
InRows b k x y = (x < k) × Together b x y

row_taken : (a b : Regions) → length a.labels ≡ length b.labels → (p k : ℕ)
    → (c : Regions) × IsCoarsened a (InRow b p k) c
row_taken a b same p zero =
    (a, nothing_more a (InRow b p zero) (λ x y h. let lt = h.1 in omega arith))
row_taken a b same p (suc k) = by (row_taken a b same p k) (tell_together b p k)
  where
    by : (c : Regions) × IsCoarsened a (InRow b p k) c → Decided (Together b p k)
        → (c : Regions) × IsCoarsened a (InRow b p (suc k)) c
    by (c, is) (inl t) =
        let wide : length c.labels ≡ length b.labels = is.elements_same ∙ same in
        let d = some_joined p k c in (
          d.0,
          one_more a c d.0 (InRow b p k) (λ x y. (x ≡ p) × (y ≡ k)) (InRow b p (suc k))
              (λ x y h. elim (cases_eq y k) [
                | inl e ↦ inr (h.0, e)
                | inr other ↦ inl (h.0, let lt = h.1 in omega (arith, other), h.2)
              ])
              (λ x y h. (h.0, let lt = h.1 in omega arith, h.2))
              (λ x y h. (
                h.0,
                let e = h.1 in omega arith,
                subst (λ n. Together b n y) (sym h.0)
                    (subst (λ n. Together b p n) (sym h.1) t),
              ))
              is (one_pair c d.0 p k (subst (λ n. p < n) (sym wide) t.left)
              (subst (λ n. k < n) (sym wide) t.right) d.1),
        )
    by (c, is) (inr apart) = (
      c,
      one_more a c c (InRow b p k) (λ x y. ⊥) (InRow b p (suc k))
          (λ x y h. elim (cases_eq y k) [
            | inl e ↦ inr (apart (subst (λ n. Together b n k) h.0
                (subst (λ n. Together b x n) e h.2)))
            | inr other ↦ inl (h.0, let lt = h.1 in omega (arith, other), h.2)
          ])
          (λ x y h. (h.0, let lt = h.1 in omega arith, h.2)) (λ x y none. absurd none) is
          (nothing_more c (λ x y. ⊥) (λ x y none. none)),
    )

rows_taken : (a b : Regions) → length a.labels ≡ length b.labels → (k : ℕ)
    → (c : Regions) × IsCoarsened a (InRows b k) c
rows_taken a b same zero =
    (a, nothing_more a (InRows b zero) (λ x y h. let lt = h.0 in omega arith))
rows_taken a b same (suc k) = by (rows_taken a b same k)
  where
    by : (c : Regions) × IsCoarsened a (InRows b k) c
        → (c : Regions) × IsCoarsened a (InRows b (suc k)) c
    by (c, is) =
        let d = row_taken c b (is.elements_same ∙ same) k (length b.labels) in (
          d.0,
          one_more a c d.0 (InRows b k) (InRow b k (length b.labels)) (InRows b (suc k))
              (λ x y h. elim (cases_eq x k) [
                | inl e ↦ inr (e, h.1.right, h.1)
                | inr other ↦ inl (let lt = h.0 in omega (arith, other), h.1)
              ])
              (λ x y h. (let lt = h.0 in omega arith, h.1))
              (λ x y h. (let e = h.0 in omega arith, h.2)) is d.1,
        )

-- the equivalence of one state, and the pairs of two
pairs_of_both : (a b c : Regions) → length c.labels ≡ length a.labels
    → length c.labels ≡ length b.labels → b.sites ≡ a.sites
    → (u : Regions) × IsMade (length c.labels) a.sites (Together c)
    (λ x site. HasPair a x site ⊎ HasPair b x site) u
pairs_of_both a b c wide wide_too sites_same = (
  made (length c.labels) a.sites (Together c) (λ x site. HasPair a x site ⊎ HasPair b x site) is,
  is_made (length c.labels) a.sites (Together c) (λ x site. HasPair a x site ⊎ HasPair b x site)
      is,
)
  where
    there : (x site : ℕ) → HasPair a x site ⊎ HasPair b x site
        → (x < length c.labels) × Contains a.sites site
    there x site (inl has) = let h = pair_there a x site has in
        (subst (λ n. x < n) (sym wide) h.0, h.1)
    there x site (inr has) = let h = pair_there b x site has in
        (subst (λ n. x < n) (sym wide_too) h.0, subst (λ s. Contains s site) sites_same h.1)

    is : IsState (length c.labels) a.sites (Together c)
        (λ x site. HasPair a x site ⊎ HasPair b x site)
    is = record {
      tell = tell_together c;
      within = λ x y t. (t.left, t.right);
      itself = itself c;
      turned = turned c;
      along = along c;
      tell_pair = λ x site. either_decided (tell_pair a x site) (tell_pair b x site);
      there = there;
    }

either_pair : (a b z : Regions) → IsWithin a z → IsWithin b z → (x site : ℕ)
    → HasPair a x site ⊎ HasPair b x site → HasPair z x site
either_pair a b z first second x site (inl has) = first.pairs x site has
either_pair a b z first second x site (inr has) = second.pairs x site has

same_parts : (n m : ℕ) (s t : List ℕ) → n ≡ m → s ≡ t → n ∷ s ≡ m ∷ t
same_parts n m s t e f = ap (λ k. k ∷ s) e ∙ ap (λ l. m ∷ l) f

-- the least state above both
pub record IsUnion (a b c : Regions) : Type 0 where
  pub sized : size_of c ≡ size_of a
  pub left : IsWithin a c
  pub right : IsWithin b c
  pub least : (z : Regions) → IsWithin a z → IsWithin b z → IsWithin c z

is_union : (a b c u : Regions) → length c.labels ≡ length a.labels
    → IsCoarsened a (InRows b (length b.labels)) c
    → IsMade (length c.labels) a.sites (Together c)
    (λ x site. HasPair a x site ⊎ HasPair b x site) u → IsUnion a b u
is_union a b c u wide is m = record {
  sized = same_parts (length u.labels) (length a.labels) u.sites a.sites (m.elements_are ∙ wide)
      m.sites_are;
  left = record {
    together = λ x y t. (m.together x y).1 (is.grown x y t);
    pairs = λ x site has. (m.pairs x site).1 (inl has);
  };
  right = record {
    together = λ x y t. (m.together x y).1 (is.taken x y (t.left, t));
    pairs = λ x site has. (m.pairs x site).1 (inr has);
  };
  least = λ z first second. record {
    together = λ x y t. is.least z first.together (λ p q h. second.together p q h.1) x y
        ((m.together x y).0 t);
    pairs = λ x site has. either_pair a b z first second x site ((m.pairs x site).0 has);
  };
}

pub some_union : (a b : Regions) → size_of b ≡ size_of a → (c : Regions) × IsUnion a b c
some_union a b sized =
    let c = rows_taken a b same (length b.labels) in
    let wide = c.1.elements_same in
    let u = pairs_of_both a b c.0 wide (wide ∙ same) sites_same in
    (u.0, is_union a b c.0 u.0 wide c.1 u.1)
  where
    same : length a.labels ≡ length b.labels
    same = cc

    sites_same : b.sites ≡ a.sites
    sites_same = cc

-- what is not apart is within
pub not_apart : (a b : Regions) → ((IsSameState a b → ⊥) → ⊥) → IsWithin b a
not_apart a b close = record {
  together = λ x y t. elim (tell_together a x y) [
    | inl u ↦ u
    | inr apart ↦ absurd (close (λ same. apart ((same.together x y).1 t)))
  ];
  pairs = λ x site has. elim (tell_pair a x site) [
    | inl p ↦ p
    | inr none ↦ absurd (close (λ same. none ((same.pairs x site).1 has)))
  ];
}

-- a state takes another in: it is above that already, or there is a state of greater rank
pub record IsRaised (a b c : Regions) : Type 0 where
  pub union : IsUnion a b c
  pub higher : rank_of a < rank_of c

pub taken_in : (a b : Regions) → size_of b ≡ size_of a
    → IsWithin b a ⊎ ((c : Regions) × IsRaised a b c)
taken_in a b sized = by (some_union a b sized)
  where
    by : (c : Regions) × IsUnion a b c → IsWithin b a ⊎ ((c : Regions) × IsRaised a b c)
    by (c, is) = elim (cases_lt (rank_of a) (rank_of c)) [
      | inl lt ↦ inr (c, record { union = is; higher = lt })
      | inr ge ↦ inl (within_trans b c a is.right (not_apart a c
          (λ apart. let h = rank_rises a c (sym is.sized) is.left apart in omega (arith, ge))))
    ]
