-- Numbers in order are the same numbers, and which colours become one goes by which there are.
use Rattle.std.proofs.Common.{◌≡◌, ◌⊎◌, ℕ, Bool, true, false, cond, eqb, ltb, List, [], ◌∷◌, fold}
use Rattle.std.proofs.Common.{Contains, refl, sym, subst, ◌∙◌, inl, inr}
use Rattle.std.proofs.lemmas.Bool.Decides.{eqb_tells}
use Rattle.sw_list.proofs.Members.{first_or_later, none_in}
use Rattle.sw_color_rules.specs.declared.colors.Palette.{Palette}
use Rattle.sw_color_rules.specs.Tints.{in_order, inserted}
use Rattle.sw_late_facts.specs.Hues.{hue}
use Rattle.sw_owner_facts.specs.Colours.{Colour, OfJob}
use Rattle.sw_owner_facts.specs.View.{Frame as Spot}
use Rattle.sw_secure_facts.specs.Painting.{MayUnite, Unites}
use Rattle.sw_view_facts.specs.Views.{Colours}
use Rattle.sw_view_facts.proofs.RenameLemmas.{of_map}
use Rattle.sw_hue_facts.specs.Hued.{SameColours, hues_of}
use Rattle.sw_hue_facts.proofs.Lists.{first_in, in_map, later_in}

-- ---- numbers in order
inserted_has : (n : ℕ) (ns : List ℕ) (m : ℕ) → Contains (n ∷ ns) m → Contains (inserted n ns) m
inserted_has n [] m has = has
inserted_has n (k ∷ ks) m has =
    by (ltb n k) (eqb n k) (eqb_tells n k) (first_or_later n (k ∷ ks) m has)
    (λ rest. inserted_has n ks m rest) where
      by : (low same : Bool) → ((same ≡ true) × (n ≡ k)) ⊎ ((same ≡ false) × (n ≡ k → ⊥))
          → (n ≡ m) ⊎ Contains (k ∷ ks) m
          → (Contains (n ∷ ks) m → Contains (inserted n ks) m)
          → Contains (cond low (n ∷ k ∷ ks) (cond same (k ∷ ks) (k ∷ inserted n ks))) m
      by true same tells (inl e) more =
          subst (λ x. Contains (n ∷ k ∷ ks) x) e (first_in n (k ∷ ks))
      by true same tells (inr old) more = later_in n (k ∷ ks) m old
      by false true (inl (t, is)) (inl e) more =
          subst (λ x. Contains (k ∷ ks) x) (sym is ∙ e) (first_in k ks)
      by false true (inl t) (inr old) more = old
      by false true (inr t) has more = cc
      by false false tells (inl e) more =
          later_in k (inserted n ks) m (more (subst (λ x. Contains (n ∷ ks) x) e (first_in n ks)))
      by false false tells (inr old) more = elim (first_or_later k ks m old) [
        | inl e ↦ subst (λ x. Contains (k ∷ inserted n ks) x) e (first_in k (inserted n ks))
        | inr rest ↦ later_in k (inserted n ks) m (more (later_in n ks m rest))
      ]

had_inserted : (n : ℕ) (ns : List ℕ) (m : ℕ) → Contains (inserted n ns) m → Contains (n ∷ ns) m
had_inserted n [] m has = has
had_inserted n (k ∷ ks) m has =
    by (ltb n k) (eqb n k) (λ rest. had_inserted n ks m rest) has where
      by : (low same : Bool) → (Contains (inserted n ks) m → Contains (n ∷ ks) m)
          → Contains (cond low (n ∷ k ∷ ks) (cond same (k ∷ ks) (k ∷ inserted n ks))) m
          → Contains (n ∷ k ∷ ks) m
      by true same less has = has
      by false true less has = later_in n (k ∷ ks) m has
      by false false less has = elim (first_or_later k (inserted n ks) m has) [
        | inl e ↦ later_in n (k ∷ ks) m (subst (λ x. Contains (k ∷ ks) x) e (first_in k ks))
        | inr rest ↦ elim (first_or_later n ks m (less rest)) [
          | inl e ↦ subst (λ x. Contains (n ∷ k ∷ ks) x) e (first_in n (k ∷ ks))
          | inr old ↦ later_in n (k ∷ ks) m (later_in k ks m old)
        ]
      ]

-- what was in order before, and what is put among it
folded_has : (done ns : List ℕ) (m : ℕ) → Contains done m ⊎ Contains ns m
    → Contains (fold (λ ms n. inserted n ms) done ns) m
folded_has done [] m (inl has) = has
folded_has done [] m (inr has) = absurd (none_in m has)
folded_has done (n ∷ ns) m (inl has) =
    folded_has (inserted n done) ns m (inl (inserted_has n done m (later_in n done m has)))
folded_has done (n ∷ ns) m (inr has) = elim (first_or_later n ns m has) [
  | inl e ↦ folded_has (inserted n done) ns m
      (inl (inserted_has n done m (subst (λ x. Contains (n ∷ done) x) e (first_in n done))))
  | inr rest ↦ folded_has (inserted n done) ns m (inr rest)
]

had_folded : (done ns : List ℕ) (m : ℕ) → Contains (fold (λ ms n. inserted n ms) done ns) m
    → Contains done m ⊎ Contains ns m
had_folded done [] m has = inl has
had_folded done (n ∷ ns) m has = elim (had_folded (inserted n done) ns m has) [
  | inl before ↦ elim (first_or_later n done m (had_inserted n done m before)) [
    | inl e ↦ inr (subst (λ x. Contains (n ∷ ns) x) e (first_in n ns))
    | inr old ↦ inl old
  ]
  | inr rest ↦ inr (later_in n ns m rest)
]

-- colours of the same numbers
same_hues : (palette : Palette) (ns ms : List ℕ) → ((n : ℕ) → Contains ns n → Contains ms n)
    → (c : Colour) → Contains (hues_of palette ns) c → Contains (hues_of palette ms) c
same_hues palette ns ms within c has =
    let number = of_map (hue palette) ns c has in
    subst (λ d. Contains (hues_of palette ms) d) number.2
    (in_map (hue palette) ms number.0 (within number.0 number.1))

pub ordered_same : (palette : Palette) (ns : List ℕ)
    → SameColours (hues_of palette (in_order ns)) (hues_of palette ns)
unfolding in_order
ordered_same palette ns = record {
  to = same_hues palette (fold (λ ms n. inserted n ms) [] ns) ns (λ n has.
      elim (had_folded [] ns n has) [
        | inl before ↦ absurd (none_in n before)
        | inr there ↦ there
      ]);
  from = same_hues palette ns (fold (λ ms n. inserted n ms) [] ns)
      (λ n has. folded_has [] ns n (inr has));
}

-- ---- colours that become one
pub may_alike : (q : Spot) (cs ds : List Colour) → SameColours cs ds → MayUnite q ds → MayUnite q cs
may_alike q [] ds same may = inl refl
may_alike q (c ∷ cs) ds same (inl none) = absurd (none_in c
    (subst (λ (l : List Colour). Contains l c) none (same.to c (first_in c cs))))
may_alike q (c ∷ cs) ds same (inr (kept, among, others, own)) =
    inr (kept, same.from kept among, (λ d has. others d (same.to d has)), own)

pub unite_alike : (job : ℕ) (cs ds : List Colour) (before after : Colours) → SameColours cs ds
    → Unites job cs before after → Unites job ds before after
unite_alike job cs ds before after same unites = record {
  kept = unites.kept;
  numbers = unites.numbers;
  is = unites.is;
  among = λ c has. same.to unites.kept (unites.among c (same.from c has));
  others = λ c has. unites.others c (same.from c has);
  only = λ n has. same.to (OfJob job n) (unites.only n has);
}
