-- What changes do to palettes, by what palettes show.
use Rattle.std.proofs.Common.{◌≡◌, ◌≢◌, ◌⊎◌, ℕ, ◌<◌, ◌≤◌, min, max, arith, refl, ap, sym, ◌∙◌, inl, inr}
use Rattle.std.proofs.Common.{Bool, true, false, cond, eqb, Option, Some, None, List, [], ◌∷◌, ◌++◌, map, length}
use Rattle.std.proofs.Common.{length-append, slice_get, get_or}
use Rattle.std.specs.Prelude.{if◌then◌else◌, ◌==◌, option_map}
use Rattle.std.proofs.lemmas.Bool.{cases_eq, cases_lt}
use Rattle.std.proofs.lemmas.Bool.Decides.{eqb_tells}
use Rattle.std.proofs.lemmas.List.{get_or-map, get_or_past, get_or_append_left, get_or_at, length-map}
use Rattle.std.proofs.lemmas.Option.{slice_get_past, slice_get-get_or}
use Rattle.std.proofs.lemmas.List.{get_or_default}
use Rattle.std.proofs.lemmas.List.Folds.{map_fixed}
use Rattle.sw_list.proofs.ListLemmas.{slice_get_first}
use Rattle.sw_value.specs.Lists.{changed_at}
use Rattle.sw_value.proofs.ListLemmas.{slice_get_end, changed_at_found, changed_at_none, changed_at_there}
use Rattle.sw_value.proofs.ListLemmas.{set_back}
use Rattle.sw_machine_access_facts.proofs.CellLemmas.{changed_other}
use Rattle.sw_color_rules.specs.declared.colors.Owner.{Owner}
use Rattle.sw_color_rules.specs.declared.colors.Owner.TheVariants.{Job}
use Rattle.sw_color_rules.specs.declared.colors.Palette.{Palette}
use Rattle.sw_color_rules.specs.Names.{name_in, turned}
use Rattle.sw_color_rules.specs.Palette.{owner_in, united, united_with, handed_to, fresh, united_as}
use Rattle.sw_color_rules.specs.Palette.{merge, hand_over, IsWhole}
use Rattle.sw_late_facts.proofs.Names.{joined, joined_first, joined_second, joined_other, joined_same}
use Rattle.sw_late_facts.proofs.Sights.{Sight, if_same, if_other, owner_met, met, met_first, met_second}
use Rattle.sw_late_facts.proofs.Sights.{met_other}
use Rattle.sw_late_facts.proofs.Handing.{IsSight, handed, made}
use Rattle.sw_late_facts.proofs.Seen.{ltb_is, ltb_not}

-- what a palette shows, where owners are seen by g
abbrev pub sight_as : {W : Type 0} → (Option Owner → W) → Palette → Sight W
sight_as g p = record {
  count = length p.names;
  name = name_in p.names;
  owner = λ n. g (owner_in p n);
}

name_past : (p : Palette) (n : ℕ) → length p.names ≤ n → name_in p.names n ≡ n
name_past p n out = get_or_past p.names n n out

pub palette_shows : {W : Type 0} (g : Option Owner → W) (p : Palette) → IsWhole p
    → IsSight (sight_as g p)
palette_shows g p whole = record {
  owners = λ m n e. ap (λ k. g (slice_get p.owners k)) e;
  lower = whole.lower;
  past = name_past p;
}

-- the same, by parts
same_sight : {W : Type 0} (s t : Sight W) → s.count ≡ t.count → ((n : ℕ) → s.name n ≡ t.name n)
    → ((n : ℕ) → s.owner n ≡ t.owner n) → s ≡ t
same_sight s t counts names owners = λ i. record {
  count = counts i;
  name = λ n. names n i;
  owner = λ n. owners n i;
}

-- the item that is changed
changed_here : {A : Type 0} (g : A → A) (i : ℕ) (xs : List A)
    → slice_get (changed_at g i xs) i ≡ option_map g (slice_get xs i)
changed_here {A = A} g i xs = by (slice_get xs i) refl where
  by : (o : Option A) → slice_get xs i ≡ o
      → slice_get (changed_at g i xs) i ≡ option_map g (slice_get xs i)
  by None e =
      ap (λ l. slice_get l i) (changed_at_none g i xs e) ∙ e ∙ sym (ap (option_map g) e)
  by (Some z) e = changed_at_found g i xs z e ∙ sym (ap (option_map g) e)

module _ {W : Type 0} (g : Option Owner → W) (u : W → W → W) (hand : ℕ → W → W)
    (unites : (low high : Owner) → g (Some (united low high)) ≡ u (g (Some low)) (g (Some high)))
    (hands : (j : ℕ) (o : Option Owner) → g (option_map (handed_to j) o) ≡ hand j (g o)) where
  -- ---- a colour that is made
  module _ (o : Owner) (p : Palette) (whole : IsWhole p) where
    fresh_name : (n : ℕ) → name_in (p.names ++ length p.names ∷ []) n ≡ name_in p.names n
    fresh_name n = elim (cases_lt n (length p.names)) [
      | inl inside ↦ get_or_append_left p.names (length p.names ∷ []) n n inside
      | inr out ↦ elim (cases_eq n (length p.names)) [
        | inl same ↦
            get_or_at p.names (length p.names) [] n n (sym same) ∙ sym same ∙ sym (name_past p n out)
        | inr other ↦
            get_or_past (p.names ++ length p.names ∷ []) n n
            (omega (arith, length-append p.names (length p.names ∷ []), out, other))
            ∙ sym (name_past p n out)
      ]
    ]

    fresh_owner : (n : ℕ) → slice_get (p.owners ++ o ∷ []) (name_in p.names n)
        ≡ (if n == length p.names then Some o else slice_get p.owners (name_in p.names n))
    fresh_owner n = elim (cases_eq n (length p.names)) [
      | inl same ↦
          ap (slice_get (p.owners ++ o ∷ []))
          (name_past p n (omega (arith, same)) ∙ same ∙ sym whole.owned)
          ∙ slice_get_end p.owners o ∙ sym (if_same n (length p.names) _ _ same)
      | inr other ↦ elim (cases_lt n (length p.names)) [
        | inl inside ↦
            slice_get_first p.owners (o ∷ []) (name_in p.names n)
            (omega (arith, whole.owned, whole.lower n, inside))
            ∙ sym (if_other n (length p.names) _ _ other)
        | inr out ↦
            let name : name_in p.names n ≡ n = name_past p n out in
            slice_get_past (p.owners ++ o ∷ []) (name_in p.names n)
            (omega (arith, length-append p.owners (o ∷ []), whole.owned, name, other, out))
            ∙ sym (slice_get_past p.owners (name_in p.names n) (omega (arith, whole.owned, name, out)))
            ∙ sym (if_other n (length p.names) _ _ other)
      ]
    ]

    job_if : (b : Bool) (x y : Option Owner) → g (cond b x y) ≡ cond b (g x) (g y)
    job_if true x y = refl
    job_if false x y = refl

    pub sight_fresh : sight_as g (fresh o p) ≡ made u hand (g (Some o)) (sight_as g p)
    unfolding fresh
    sight_fresh = same_sight (sight_as g (fresh o p)) (made u hand (g (Some o)) (sight_as g p))
        (omega (arith, length-append p.names (length p.names ∷ [])))
        fresh_name
        (λ n. ap (λ k. g (slice_get (p.owners ++ o ∷ []) k)) (fresh_name n)
        ∙ ap g (fresh_owner n)
        ∙ job_if (n == length p.names) (Some o) (slice_get p.owners (name_in p.names n)))

  -- ---- a colour that is handed over
  module _ (n j : ℕ) (p : Palette) (whole : IsWhole p) where
    handed_owner : (m : ℕ) → g (slice_get (changed_at (handed_to j) (name_in p.names n) p.owners) m)
        ≡ (if m == name_in p.names n then hand j (g (slice_get p.owners m))
        else g (slice_get p.owners m))
    handed_owner m = elim (cases_eq m (name_in p.names n)) [
      | inl same ↦
          ap g (ap (slice_get (changed_at (handed_to j) (name_in p.names n) p.owners)) same
          ∙ changed_here (handed_to j) (name_in p.names n) p.owners
          ∙ ap (λ k. option_map (handed_to j) (slice_get p.owners k)) (sym same))
          ∙ hands j (slice_get p.owners m)
          ∙ sym (if_same m (name_in p.names n) _ _ same)
      | inr other ↦
          ap g (changed_other (handed_to j) (name_in p.names n) m p.owners other)
          ∙ sym (if_other m (name_in p.names n) _ _ other)
    ]

    pub sight_handed : sight_as g (hand_over n j p) ≡ handed u hand n j (sight_as g p)
    unfolding hand_over
    sight_handed = same_sight (sight_as g (hand_over n j p)) (handed u hand n j (sight_as g p))
        refl (λ m. refl) (λ m. handed_owner (name_in p.names m))

  -- ---- colours that merge
  module _ (a b : ℕ) (p : Palette) (whole : IsWhole p) where
    abbrev x : ℕ
    x = name_in p.names a

    abbrev y : ℕ
    y = name_in p.names b

    abbrev owners_after : List Owner
    owners_after = changed_at (united_with (slice_get p.owners (max x y))) (min x y) p.owners

    met_by : (low high : Option Owner) → (low ≡ None → ⊥) → (high ≡ None → ⊥)
        → g (option_map (united_with high) low) ≡ u (g low) (g high)
    met_by None high low_there there = absurd (low_there refl)
    met_by (Some o) None low_there there = absurd (there refl)
    met_by (Some o) (Some other) low_there there = unites o other

    -- both were made
    module _ (a_in : a < length p.names) (b_in : b < length p.names) where
      x_in : x < length p.names
      x_in = omega (arith, whole.lower a, a_in)

      y_in : y < length p.names
      y_in = omega (arith, whole.lower b, b_in)

      turned_names : (n : ℕ) → name_in (map (turned (max x y) (min x y)) p.names) n
          ≡ joined x y (name_in p.names n)
      turned_names n = elim (cases_lt n (length p.names)) [
        | inl inside ↦ get_or-map (turned (max x y) (min x y)) p.names n n n inside
        | inr out ↦
            let name : name_in p.names n ≡ n = name_past p n out in
            get_or_past (map (turned (max x y) (min x y)) p.names) n n
            (omega (arith, length-map p.names (turned (max x y) (min x y)), out))
            ∙ sym (joined_other x y (name_in p.names n) (λ e. absurd (omega (arith, e, name, x_in, out)))
            (λ e. absurd (omega (arith, e, name, y_in, out))) ∙ name)
      ]

      owned_there : (k : ℕ) → k < length p.names → slice_get p.owners k ≡ None → ⊥
      owned_there k k_in e =
          let some = slice_get-get_or p.owners k (Job 0) (omega (arith, whole.owned, k_in)) in
          let clash : Some (get_or p.owners k (Job 0)) ≡ None = sym some ∙ e in cc clash

      met_owner : x ≢ y → g (slice_get owners_after (min x y))
          ≡ owner_met u x y (g (slice_get p.owners x)) (g (slice_get p.owners y))
      met_owner differ =
          ap g (changed_here (united_with (slice_get p.owners (max x y))) (min x y) p.owners)
          ∙ met_by (slice_get p.owners (min x y)) (slice_get p.owners (max x y))
          (owned_there (min x y) (omega (arith, x_in, y_in))) (owned_there (max x y) (omega (arith, x_in, y_in)))
          ∙ by (cases_lt x y)
        where
          by : (x < y) ⊎ (y ≤ x)
              → u (g (slice_get p.owners (min x y))) (g (slice_get p.owners (max x y)))
              ≡ owner_met u x y (g (slice_get p.owners x)) (g (slice_get p.owners y))
          by (inl below) =
              let low : min x y ≡ x = omega (arith, below) in
              let high : max x y ≡ y = omega (arith, below) in
              ap (λ k. u (g (slice_get p.owners k)) (g (slice_get p.owners (max x y)))) low
              ∙ ap (λ k. u (g (slice_get p.owners x)) (g (slice_get p.owners k))) high
              ∙ sym (if_other x y _ _ differ ∙ ap (λ t. cond t
              (u (g (slice_get p.owners x)) (g (slice_get p.owners y)))
              (u (g (slice_get p.owners y)) (g (slice_get p.owners x)))) (ltb_is x y below))
          by (inr above) =
              let low : min x y ≡ y = omega (arith, above) in
              let high : max x y ≡ x = omega (arith, above) in
              ap (λ k. u (g (slice_get p.owners k)) (g (slice_get p.owners (max x y)))) low
              ∙ ap (λ k. u (g (slice_get p.owners y)) (g (slice_get p.owners k))) high
              ∙ sym (if_other x y _ _ differ ∙ ap (λ t. cond t
              (u (g (slice_get p.owners x)) (g (slice_get p.owners y)))
              (u (g (slice_get p.owners y)) (g (slice_get p.owners x)))) (ltb_not x y above))

      united_owner : x ≢ y → (n : ℕ) → g (slice_get owners_after (joined x y (name_in p.names n)))
          ≡ (met u a b (sight_as g p)).owner n
      united_owner differ n =
          by (cases_eq (name_in p.names n) x) (cases_eq (name_in p.names n) y) where
            by : (name_in p.names n ≡ x) ⊎ (name_in p.names n ≢ x)
                → (name_in p.names n ≡ y) ⊎ (name_in p.names n ≢ y)
                → g (slice_get owners_after (joined x y (name_in p.names n)))
                ≡ (met u a b (sight_as g p)).owner n
            by (inl is) _ =
                ap (λ k. g (slice_get owners_after k)) (joined_first x y (name_in p.names n) is)
                ∙ met_owner differ ∙ sym (met_first u a b (sight_as g p) n is)
            by (inr isnt) (inl is) =
                ap (λ k. g (slice_get owners_after k)) (joined_second x y (name_in p.names n) is)
                ∙ met_owner differ ∙ sym (met_second u a b (sight_as g p) n is)
            by (inr no_x) (inr no_y) =
                ap (λ k. g (slice_get owners_after k)) (joined_other x y (name_in p.names n) no_x no_y)
                ∙ ap g (changed_other (united_with (slice_get p.owners (max x y))) (min x y)
                (name_in p.names n) p.owners (λ e. elim (cases_lt x y) [
                  | inl below ↦ no_x (omega (arith, e, below))
                  | inr above ↦ no_y (omega (arith, e, above))
                ]))
                ∙ sym (met_other u a b (sight_as g p) n no_x no_y)

      same_owner : x ≡ y → (n : ℕ) → g (slice_get p.owners (name_in p.names n))
          ≡ (met u a b (sight_as g p)).owner n
      same_owner same n = elim (cases_eq (name_in p.names n) x) [
        | inl is ↦
            ap (λ k. g (slice_get p.owners k)) is
            ∙ sym (met_first u a b (sight_as g p) n is ∙ if_same x y _ _ same)
        | inr other ↦
            sym (met_other u a b (sight_as g p) n other (λ e. other (e ∙ sym same)))
      ]

      pub sight_merge : sight_as g (merge a b p) ≡ met u a b (sight_as g p)
      unfolding merge united_as
      sight_merge = by (eqb x y) (eqb_tells x y) where
        by : (t : Bool) → ((t ≡ true) × (x ≡ y)) ⊎ ((t ≡ false) × (x ≢ y))
            → sight_as g (cond t p (united_as (min x y) (max x y) p)) ≡ met u a b (sight_as g p)
        by true (inl e) = same_sight (sight_as g p) (met u a b (sight_as g p)) refl
            (λ n. sym (ap (λ z. joined x z (name_in p.names n)) (sym e.1) ∙ joined_same x (name_in p.names n)))
            (same_owner e.1)
        by true (inr e) = cc
        by false (inl e) = cc
        by false (inr e) = same_sight (sight_as g (united_as (min x y) (max x y) p)) (met u a b (sight_as g p))
            (length-map p.names (turned (max x y) (min x y))) turned_names
            (λ n. ap (λ k. g (slice_get owners_after k)) (turned_names n) ∙ united_owner e.1 n)

    -- one wasn't
    module _ (out : (length p.names ≤ a) ⊎ (length p.names ≤ b)) where
      high_out : length p.names ≤ max x y
      high_out = elim out [
        | inl above ↦ omega (arith, name_past p a above, above)
        | inr above ↦ omega (arith, name_past p b above, above)
      ]

      names_stay : map (turned (max x y) (min x y)) p.names ≡ p.names
      names_stay = map_fixed (turned (max x y) (min x y)) p.names (λ k d within.
          let same = get_or_default p.names k d k within in
          if_other (get_or p.names k d) (max x y) _ _
          (λ e. absurd (omega (arith, e, same, whole.lower k, within, high_out))))

      owners_stay : owners_after ≡ p.owners
      owners_stay =
          ap (λ o. changed_at (united_with o) (min x y) p.owners)
          (slice_get_past p.owners (max x y) (omega (arith, whole.owned, high_out)))
          ∙ by (slice_get p.owners (min x y)) refl
        where
          by : (o : Option Owner) → slice_get p.owners (min x y) ≡ o
              → changed_at (united_with None) (min x y) p.owners ≡ p.owners
          by None e = changed_at_none (united_with None) (min x y) p.owners e
          by (Some z) e =
              changed_at_there (united_with None) (min x y) p.owners z e
              ∙ set_back p.owners (min x y) z z e refl

      pub merge_out : merge a b p ≡ p
      unfolding merge united_as
      merge_out = by (eqb x y) where
        by : (t : Bool) → cond t p (united_as (min x y) (max x y) p) ≡ p
        by true = refl
        by false = λ i. record { names = names_stay i; owners = owners_stay i }
