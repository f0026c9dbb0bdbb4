-- Two colours that merge, by hue: of a job's colours and one actor's, one stays, and the other
-- becomes that one.
use Rattle.std.proofs.Common.{◌≡◌, ◌⊎◌, ◌<◌, ℕ, length, refl, sym, subst, ap, ◌∙◌, inl, inr, arith}
use Rattle.std.proofs.lemmas.Bool.{cases_eq, cases_lt}
use Rattle.sw_color_rules.specs.declared.colors.Palette.{Palette}
use Rattle.sw_color_rules.specs.Palette.{IsWhole, merge}
use Rattle.sw_late_facts.specs.Hues.{GivesWay, hue}
use Rattle.sw_late_facts.proofs.HueLemmas.{merge_comes, merge_goes, merge_same}
use Rattle.sw_owner_facts.specs.Colours.{Actor, Colour, OfActor, OfJob}
use Rattle.sw_owner_facts.specs.Within.{Becomes}

-- the colour is this actor's or the job's
abbrev pub IsOneOf : ℕ → Actor → Colour → Type 0
IsOneOf job a c = (c ≡ OfActor a) ⊎ ((n : ℕ) × (c ≡ OfJob job n))

-- of x and y, k is the one that stays, and the other one is the job's
abbrev pub IsKept : ℕ → Colour → Colour → Colour → Type 0
IsKept job x y k = ((k ≡ x) × ((y ≡ x) ⊎ ((n : ℕ) × (y ≡ OfJob job n))))
    ⊎ ((k ≡ y) × ((n : ℕ) × (x ≡ OfJob job n)))

-- where the hues x and y meet, both are k
pub record Meets (job : ℕ) (x y k : Colour) (p q : Palette) : Type 0 where
  pub both : (m : ℕ) → (hue p m ≡ x) ⊎ (hue p m ≡ y) → hue q m ≡ k
  pub others : (m : ℕ) → (hue p m ≡ x → ⊥) → (hue p m ≡ y → ⊥) → hue q m ≡ hue p m
  pub is : IsKept job x y k

module _ (job : ℕ) (p q : Palette) (x y : Colour) where
  met : (n : ℕ) (lost kept : Colour) → lost ≡ OfJob job n
      → ((m : ℕ) → Becomes (OfJob job n) kept (hue p m) (hue q m)) → (m : ℕ)
      → (hue p m ≡ lost) ⊎ (hue p m ≡ kept) → hue q m ≡ kept
  met n lost kept is becomes m (inl e) = elim (becomes m) [
    | inl now ↦ now.1
    | inr stays ↦ absurd (stays.0 (e ∙ is))
  ]
  met n lost kept is becomes m (inr e) = elim (becomes m) [
    | inl now ↦ now.1
    | inr stays ↦ stays.1 ∙ e
  ]

  apart : (n : ℕ) (lost kept : Colour) → lost ≡ OfJob job n
      → ((m : ℕ) → Becomes (OfJob job n) kept (hue p m) (hue q m)) → (m : ℕ)
      → (hue p m ≡ lost → ⊥) → hue q m ≡ hue p m
  apart n lost kept is becomes m differs = elim (becomes m) [
    | inl now ↦ absurd (differs (now.0 ∙ sym is))
    | inr stays ↦ stays.1
  ]

  second_stays : (n : ℕ) → x ≡ OfJob job n
      → ((m : ℕ) → Becomes (OfJob job n) y (hue p m) (hue q m)) → Meets job x y y p q
  second_stays n is becomes = record {
    both = λ m one. met n x y is becomes m one;
    others = λ m no_x no_y. apart n x y is becomes m no_x;
    is = inr (refl, (n, is));
  }

  first_stays : (n : ℕ) → y ≡ OfJob job n
      → ((m : ℕ) → Becomes (OfJob job n) x (hue p m) (hue q m)) → Meets job x y x p q
  first_stays n is becomes = record {
    both = λ m one. met n y x is becomes m (turned one);
    others = λ m no_x no_y. apart n y x is becomes m no_y;
    is = inl (refl, inr (n, is));
  }
    where
      turned : {A B : Type 0} → A ⊎ B → B ⊎ A
      turned (inl a) = inr a
      turned (inr b) = inl b

  same_stays : x ≡ y → ((m : ℕ) → hue q m ≡ hue p m) → Meets job x y x p q
  same_stays e stays = record {
    both = λ m one. stays m ∙ elim one [
      | inl first ↦ first
      | inr second ↦ second ∙ sym e
    ];
    others = λ m no_x no_y. stays m;
    is = inl (refl, inl (sym e));
  }

module _ (job : ℕ) (a : Actor) (i j : ℕ) (p : Palette) (whole : IsWhole p)
    (i_in : i < length p.names) (j_in : j < length p.names) where
  first_goes : (n : ℕ) → hue p i ≡ OfJob job n → GivesWay (hue p i) (hue p j)
      → Meets job (hue p i) (hue p j) (hue p j) p (merge i j p)
  first_goes n is goes = second_stays job p (merge i j p) (hue p i) (hue p j) n is
      (merge_goes i j p whole i_in j_in job n is goes)

  second_goes : (n : ℕ) → hue p j ≡ OfJob job n → GivesWay (hue p j) (hue p i)
      → Meets job (hue p i) (hue p j) (hue p i) p (merge i j p)
  second_goes n is goes = first_stays job p (merge i j p) (hue p i) (hue p j) n is
      (merge_comes i j p whole i_in j_in job n is goes)

  both_stay : hue p i ≡ hue p j → Meets job (hue p i) (hue p j) (hue p i) p (merge i j p)
  both_stay e = same_stays job p (merge i j p) (hue p i) (hue p j) e
      (merge_same i j p whole i_in j_in e)

  gives : (c d e f : Colour) → c ≡ e → d ≡ f → GivesWay e f → GivesWay c d
  gives c d e f is_e is_f goes =
      subst (λ z. GivesWay z d) (sym is_e) (subst (λ z. GivesWay e z) (sym is_f) goes)

  pub meets : IsOneOf job a (hue p i) → IsOneOf job a (hue p j)
      → (k : Colour) × Meets job (hue p i) (hue p j) k p (merge i j p)
  meets (inl e) (inl f) = (hue p i, both_stay (e ∙ sym f))
  meets (inl e) (inr (m, f)) = (
    hue p i,
    second_goes m f (gives (hue p j) (hue p i) (OfJob job m) (OfActor a) f e tt),
  )
  meets (inr (n, e)) (inl f) = (
    hue p j,
    first_goes n e (gives (hue p i) (hue p j) (OfJob job n) (OfActor a) e f tt),
  )
  meets (inr (n, e)) (inr (m, f)) = elim (cases_eq n m) [
    | inl same ↦ (hue p i, both_stay (e ∙ ap (OfJob job) same ∙ sym f))
    | inr differ ↦ elim (cases_lt n m) [
      | inl lower ↦ (
        hue p i,
        second_goes m f (gives (hue p j) (hue p i) (OfJob job m) (OfJob job n) f e (refl, lower)),
      )
      | inr higher ↦ (
        hue p j,
        first_goes n e (gives (hue p i) (hue p j) (OfJob job n) (OfJob job m) e f
            (refl, omega (arith, differ, higher))),
      )
    ]
  ]
