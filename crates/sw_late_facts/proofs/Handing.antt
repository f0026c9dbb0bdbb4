-- Colours that are made, and colours that are handed over, where others meet.
use Rattle.std.proofs.Common.{◌≡◌, ◌≢◌, ◌⊎◌, ℕ, ◌+◌, ◌<◌, ◌≤◌, arith, ap, sym, ◌∙◌, inl, inr}
use Rattle.std.specs.Prelude.{if◌then◌else◌, ◌==◌}
use Rattle.std.proofs.lemmas.Bool.{cases_eq}
use Rattle.std.proofs.lemmas.Bool.Decides.{nat_tests}
use Rattle.sw_late_facts.proofs.Names.{joined}
use Rattle.sw_late_facts.proofs.Names.{joined_apart}
use Rattle.sw_late_facts.proofs.Sights.{Sight, IsNamed, if_same, if_other, met, met_named, met_other}
use Rattle.sw_late_facts.proofs.Sights.{met_together, met_top, owner_after}

-- names are no higher than numbers, and what wasn't made is its own name
pub record IsSight {W : Type 0} (s : Sight W) : Type 0 where
  pub owners : (m n : ℕ) → s.name m ≡ s.name n → s.owner m ≡ s.owner n
  pub lower : (n : ℕ) → s.name n ≤ n
  pub past : (n : ℕ) → s.count ≤ n → s.name n ≡ n

pub is_named : {W : Type 0} (s : Sight W) → IsSight s → IsNamed s
is_named s is = record { owners = is.owners }

module _ {W : Type 0} (u : W → W → W) (hand : ℕ → W → W) where
  abbrev pub handed : ℕ → ℕ → Sight W → Sight W
  handed n j s = record {
    count = s.count;
    name = s.name;
    owner = λ m. if s.name m == s.name n then hand j (s.owner m) else s.owner m;
  }

  abbrev pub made : W → Sight W → Sight W
  made o s = record {
    count = s.count + 1;
    name = s.name;
    owner = λ m. if m == s.count then o else s.owner m;
  }

  -- ---- sights stay sights
  pub met_sight : (a b : ℕ) (s : Sight W) → IsSight s → a < s.count → b < s.count
      → IsSight (met u a b s)
  met_sight a b s is a_in b_in = record {
    owners = (met_named u a b s (is_named s is)).owners;
    lower = λ n. lower (s.name a) (s.name b) (s.name n) n (is.lower n);
    past = λ n out. past (s.name a) (s.name b) (s.name n) n (is.past n out)
        (omega (arith, is.lower a, a_in, out)) (omega (arith, is.lower b, b_in, out));
  } where
    lower : (x y m n : ℕ) → m ≤ n → joined x y m ≤ n
    lower x y m n le = grind (arith, nat_tests)

    past : (x y m n : ℕ) → m ≡ n → x < n → y < n → joined x y m ≡ n
    past x y m n e x_in y_in = grind (arith, nat_tests)

  pub handed_sight : (n j : ℕ) (s : Sight W) → IsSight s → IsSight (handed n j s)
  handed_sight n j s is = record {
    owners = λ k m e. same (s.name k) (s.name m) (s.owner k) (s.owner m) e (is.owners k m e);
    lower = is.lower;
    past = is.past;
  } where
    same : (k m : ℕ) (x y : W) → k ≡ m → x ≡ y
        → (if k == s.name n then hand j x else x) ≡ (if m == s.name n then hand j y else y)
    same k m x y e f = cc

  pub made_sight : (o : W) (s : Sight W) → IsSight s → IsSight (made o s)
  made_sight o s is = record {
    owners = λ m n e. by m n e (cases_eq m s.count) (cases_eq n s.count);
    lower = is.lower;
    past = λ n out. is.past n (omega (arith, out));
  } where
    one_past : (m n : ℕ) → s.name m ≡ s.name n → m ≡ s.count → n ≡ s.count
    one_past m n e is_count =
        let top : s.name m ≡ s.count = is.past m (omega (arith, is_count)) ∙ is_count in
        let out : s.count ≤ n = omega (arith, top, e, is.lower n) in
        omega (arith, is.past n out, top, e)

    by : (m n : ℕ) → s.name m ≡ s.name n → (m ≡ s.count) ⊎ (m ≢ s.count)
        → (n ≡ s.count) ⊎ (n ≢ s.count) → (made o s).owner m ≡ (made o s).owner n
    by m n e (inl x) (inl y) = if_same m s.count _ _ x ∙ sym (if_same n s.count _ _ y)
    by m n e (inl x) (inr y) = absurd (y (one_past m n e x))
    by m n e (inr x) (inl y) = absurd (x (one_past n m (sym e) y))
    by m n e (inr x) (inr y) =
        if_other m s.count _ _ x ∙ is.owners m n e ∙ sym (if_other n s.count _ _ y)

  -- ---- colours that are made
  pub made_before : (o : W) (s : Sight W) (m : ℕ) → m < s.count → (made o s).owner m ≡ s.owner m
  made_before o s m inside = if_other m s.count _ _ (λ e. absurd (omega (arith, e, inside)))

  pub made_commutes : (o : W) (h x : ℕ) (s : Sight W) → IsSight s → h < s.count → x < s.count
      → met u h x (made o s) ≡ made o (met u h x s)
  made_commutes o h x s is h_in x_in = λ i. record {
    count = s.count + 1;
    name = λ n. joined (s.name h) (s.name x) (s.name n);
    owner = λ n. owners n (cases_eq n s.count) i;
  } where
    owners : (n : ℕ) → (n ≡ s.count) ⊎ (n ≢ s.count)
        → (met u h x (made o s)).owner n ≡ (made o (met u h x s)).owner n
    owners n (inl e) =
        let top : s.name n ≡ s.count = is.past n (omega (arith, e)) ∙ e in
        met_other u h x (made o s) n
        (λ f. absurd (omega (arith, f, top, is.lower h, h_in)))
        (λ f. absurd (omega (arith, f, top, is.lower x, x_in)))
        ∙ if_same n s.count _ _ e ∙ sym (if_same n s.count _ _ e)
    owners n (inr e) =
        same (s.name h) (s.name x) (s.name n) (made_before o s h h_in) (made_before o s x x_in)
        (if_other n s.count _ _ e)
        ∙ sym (if_other n s.count _ _ e)
      where
        same : (a b m : ℕ) {p q r p_new q_new r_new : W} → p_new ≡ p → q_new ≡ q → r_new ≡ r
            → owner_after u a b p_new q_new m r_new ≡ owner_after u a b p q m r
        same a b m e f g = cc

  -- ---- colours that are handed over
  module _ (t : W) (stays : (y : W) → u t y ≡ t) (wins : (y : W) → u y t ≡ t)
      (keeps : (j : ℕ) → hand j t ≡ t) where
    pub handed_top : (n j : ℕ) (s : Sight W) (h : ℕ) → s.owner h ≡ t
        → (handed n j s).owner h ≡ t
    handed_top n j s h top = elim (cases_eq (s.name h) (s.name n)) [
      | inl e ↦ if_same (s.name h) (s.name n) _ _ e ∙ ap (hand j) top ∙ keeps j
      | inr e ↦ if_other (s.name h) (s.name n) _ _ e ∙ top
    ]

    module _ (h x : ℕ) (s : Sight W) (named : IsNamed s) (top : s.owner h ≡ t) where
      abbrev after : Sight W
      after = met u h x s

      handed_named : (n j : ℕ) → IsNamed (handed n j s)
      handed_named n j = record {
        owners = λ k m e. same (s.name k) (s.name m) (s.owner k) (s.owner m) e (named.owners k m e);
      } where
        same : (k m : ℕ) (y z : W) → k ≡ m → y ≡ z
            → (if k == s.name n then hand j y else y) ≡ (if m == s.name n then hand j z else z)
        same k m y z e f = cc

      -- what meets h is t's in both
      top_after : (m : ℕ) → after.name m ≡ after.name h → after.owner m ≡ t
      top_after m e = (met_named u h x s named).owners m h e ∙ met_top u t stays wins h x s named h top

      top_handed : (n j m : ℕ) → after.name m ≡ after.name h → (met u h x (handed n j s)).owner m ≡ t
      top_handed n j m e =
          (met_named u h x (handed n j s) (handed_named n j)).owners m h e
          ∙ met_top u t stays wins h x (handed n j s) (handed_named n j) h (handed_top n j s h top)

      no_h : (m : ℕ) → after.name m ≢ after.name h → s.name m ≢ s.name h
      no_h m apart e = apart (ap (joined (s.name h) (s.name x)) e)

      no_x : (m : ℕ) → after.name m ≢ after.name h → s.name m ≢ s.name x
      no_x m apart e = apart (ap (joined (s.name h) (s.name x)) e ∙ met_together u h x s)

      pub handing_commutes : (n j : ℕ) → met u h x (handed n j s) ≡ handed n j (met u h x s)
      handing_commutes n j = λ i. record {
        count = s.count;
        name = after.name;
        owner = λ m. owners m (cases_eq (after.name m) (after.name h)) (cases_eq (s.name m) (s.name n)) i;
      } where
        owners : (m : ℕ) → (after.name m ≡ after.name h) ⊎ (after.name m ≢ after.name h)
            → (s.name m ≡ s.name n) ⊎ (s.name m ≢ s.name n)
            → (met u h x (handed n j s)).owner m ≡ (handed n j (met u h x s)).owner m
        owners m (inl e) _ =
            top_handed n j m e
            ∙ sym (handed_top n j after m (top_after m e))
        owners m (inr apart) (inl e) =
            met_other u h x (handed n j s) m (no_h m apart) (no_x m apart)
            ∙ if_same (s.name m) (s.name n) _ _ e
            ∙ ap (hand j) (sym (met_other u h x s m (no_h m apart) (no_x m apart)))
            ∙ sym (if_same (after.name m) (after.name n) _ _ (ap (joined (s.name h) (s.name x)) e))
        owners m (inr apart) (inr e) =
            met_other u h x (handed n j s) m (no_h m apart) (no_x m apart)
            ∙ if_other (s.name m) (s.name n) _ _ e
            ∙ sym (met_other u h x s m (no_h m apart) (no_x m apart))
            ∙ sym (if_other (after.name m) (after.name n) _ _ (λ f.
            e (joined_apart (s.name h) (s.name x) (s.name m) (no_h m apart) (no_x m apart) (s.name n) f)))

      -- handing over what then meets h is nothing
      pub handing_lost : (j : ℕ) → met u h x (handed x j s) ≡ met u h x s
      handing_lost j = λ i. record {
        count = s.count;
        name = after.name;
        owner = λ m. owners m (cases_eq (after.name m) (after.name h)) i;
      } where
        owners : (m : ℕ) → (after.name m ≡ after.name h) ⊎ (after.name m ≢ after.name h)
            → (met u h x (handed x j s)).owner m ≡ (met u h x s).owner m
        owners m (inl e) = top_handed x j m e ∙ sym (top_after m e)
        owners m (inr apart) =
            met_other u h x (handed x j s) m (no_h m apart) (no_x m apart)
            ∙ if_other (s.name m) (s.name x) _ _ (no_x m apart)
            ∙ sym (met_other u h x s m (no_h m apart) (no_x m apart))

    -- nor is handing over what is t's
    pub handing_none : (n j : ℕ) (s : Sight W) → IsNamed s → s.owner n ≡ t → handed n j s ≡ s
    handing_none n j s named top = λ i. record {
      count = s.count;
      name = s.name;
      owner = λ m. owners m (cases_eq (s.name m) (s.name n)) i;
    } where
      owners : (m : ℕ) → (s.name m ≡ s.name n) ⊎ (s.name m ≢ s.name n)
          → (handed n j s).owner m ≡ s.owner m
      owners m (inl e) =
          let own : s.owner m ≡ t = named.owners m n e ∙ top in
          if_same (s.name m) (s.name n) _ _ e ∙ ap (hand j) own ∙ keeps j ∙ sym own
      owners m (inr e) = if_other (s.name m) (s.name n) _ _ e
