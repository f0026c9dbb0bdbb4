-- What a palette shows: which number is left of each, and who owns it. Owners are seen as W.
use Rattle.std.proofs.Common.{◌≡◌, ◌≢◌, ◌⊎◌, ℕ, refl, ap, sym, ◌∙◌, inl, inr}
use Rattle.std.proofs.Common.{Bool, true, false, cond, eqb}
use Rattle.std.specs.Prelude.{if◌then◌else◌, ◌==◌, nat_lt}
use Rattle.std.proofs.lemmas.Bool.{cases_eq}
use Rattle.std.proofs.lemmas.Bool.Decides.{eqb_tells}
use Rattle.sw_late_facts.proofs.Names.{joined, joins_commute, joined_first, joined_second}
use Rattle.sw_late_facts.proofs.Names.{joined_other, joined_apart}

pub record Sight (W : Type 0) : Type 0 where
  pub count : ℕ
  pub name : ℕ → ℕ
  pub owner : ℕ → W

-- the owner is that of what is left
pub record IsNamed {W : Type 0} (s : Sight W) : Type 0 where
  pub owners : (m n : ℕ) → s.name m ≡ s.name n → s.owner m ≡ s.owner n

pub if_same : {A : Type 0} (m n : ℕ) (x y : A) → m ≡ n → (if m == n then x else y) ≡ x
if_same {A = A} m n x y e = by (eqb m n) (eqb_tells m n) where
  by : (b : Bool) → ((b ≡ true) × (m ≡ n)) ⊎ ((b ≡ false) × (m ≢ n)) → cond b x y ≡ x
  by true _ = refl
  by false (inl h) = cc
  by false (inr h) = absurd (h.1 e)

pub if_other : {A : Type 0} (m n : ℕ) (x y : A) → m ≢ n → (if m == n then x else y) ≡ y
if_other {A = A} m n x y e = by (eqb m n) (eqb_tells m n) where
  by : (b : Bool) → ((b ≡ true) × (m ≡ n)) ⊎ ((b ≡ false) × (m ≢ n)) → cond b x y ≡ y
  by true (inl h) = absurd (e h.1)
  by true (inr h) = cc
  by false _ = refl

module _ {W : Type 0} (u : W → W → W) where
  -- the owner where colours with these names and owners meet
  abbrev pub owner_met : ℕ → ℕ → W → W → W
  owner_met a b x y = if a == b then x else if nat_lt a b then u x y else u y x

  -- a colour with the name m and the owner z, where those with the names a and b meet
  abbrev pub owner_after : ℕ → ℕ → W → W → ℕ → W → W
  owner_after a b x y m z =
      if m == a then owner_met a b x y else if m == b then owner_met a b x y else z

  abbrev pub met : ℕ → ℕ → Sight W → Sight W
  met a b s = record {
    count = s.count;
    name = λ n. joined (s.name a) (s.name b) (s.name n);
    owner = λ n. owner_after (s.name a) (s.name b) (s.owner a) (s.owner b) (s.name n) (s.owner n);
  }

  after_first : (a b : ℕ) (x y : W) (m : ℕ) (z : W) → m ≡ a
      → owner_after a b x y m z ≡ owner_met a b x y
  after_first a b x y m z e = if_same m a _ _ e

  after_second : (a b : ℕ) (x y : W) (m : ℕ) (z : W) → m ≡ b
      → owner_after a b x y m z ≡ owner_met a b x y
  after_second a b x y m z e = elim (cases_eq m a) [
    | inl same ↦ after_first a b x y m z same
    | inr other ↦ if_other m a _ _ other ∙ if_same m b _ _ e
  ]

  after_other : (a b : ℕ) (x y : W) (m : ℕ) (z : W) → m ≢ a → m ≢ b
      → owner_after a b x y m z ≡ z
  after_other a b x y m z no_a no_b = if_other m a _ _ no_a ∙ if_other m b _ _ no_b

  -- ---- two colours meet
  module _ (a b : ℕ) (s : Sight W) where
    pub met_first : (n : ℕ) → s.name n ≡ s.name a
        → (met a b s).owner n ≡ owner_met (s.name a) (s.name b) (s.owner a) (s.owner b)
    met_first n e = after_first (s.name a) (s.name b) (s.owner a) (s.owner b) (s.name n) (s.owner n) e

    pub met_second : (n : ℕ) → s.name n ≡ s.name b
        → (met a b s).owner n ≡ owner_met (s.name a) (s.name b) (s.owner a) (s.owner b)
    met_second n e = after_second (s.name a) (s.name b) (s.owner a) (s.owner b) (s.name n) (s.owner n) e

    pub met_other : (n : ℕ) → s.name n ≢ s.name a → s.name n ≢ s.name b
        → (met a b s).owner n ≡ s.owner n
    met_other n no_a no_b =
        after_other (s.name a) (s.name b) (s.owner a) (s.owner b) (s.name n) (s.owner n) no_a no_b

    -- what meets with a or b
    meets : (n : ℕ) → ((met a b s).name n ≡ (met a b s).name a)
        → (met a b s).owner n ≡ owner_met (s.name a) (s.name b) (s.owner a) (s.owner b)
    meets n e = by (cases_eq (s.name n) (s.name a)) (cases_eq (s.name n) (s.name b)) where
      by : (s.name n ≡ s.name a) ⊎ (s.name n ≢ s.name a)
          → (s.name n ≡ s.name b) ⊎ (s.name n ≢ s.name b)
          → (met a b s).owner n ≡ owner_met (s.name a) (s.name b) (s.owner a) (s.owner b)
      by (inl is) _ = met_first n is
      by (inr apart) (inl is) = met_second n is
      by (inr no_a) (inr no_b) =
          absurd (no_a (joined_apart (s.name a) (s.name b) (s.name n) no_a no_b (s.name a) e))

    pub met_together : (met a b s).name b ≡ (met a b s).name a
    met_together = joined_second (s.name a) (s.name b) (s.name b) refl
        ∙ sym (joined_first (s.name a) (s.name b) (s.name a) refl)

    pub met_named : IsNamed s → IsNamed (met a b s)
    met_named named = record {
      owners = λ m n e.
          by m n e (cases_eq (s.name m) (s.name a)) (cases_eq (s.name m) (s.name b));
    } where
      by : (m n : ℕ) → (met a b s).name m ≡ (met a b s).name n
          → (s.name m ≡ s.name a) ⊎ (s.name m ≢ s.name a)
          → (s.name m ≡ s.name b) ⊎ (s.name m ≢ s.name b)
          → (met a b s).owner m ≡ (met a b s).owner n
      by m n e (inl is) _ =
          met_first m is ∙ sym (meets n (sym e ∙ ap (joined (s.name a) (s.name b)) is))
      by m n e (inr apart) (inl is) =
          met_second m is
          ∙ sym (meets n (sym e ∙ ap (joined (s.name a) (s.name b)) is ∙ met_together))
      by m n e (inr no_a) (inr no_b) =
          let same = joined_apart (s.name a) (s.name b) (s.name m) no_a no_b (s.name n) e in
          met_other m no_a no_b ∙ named.owners m n same
          ∙ sym (met_other n (λ is. no_a (same ∙ is)) (λ is. no_b (same ∙ is)))

  -- ---- an owner t that stays where colours meet
  module _ (t : W) (stays : (y : W) → u t y ≡ t) (wins : (y : W) → u y t ≡ t) where
    met_t : (a b : ℕ) (x y : W) → (x ≡ t) ⊎ ((y ≡ t) × (a ≡ b → x ≡ y))
        → owner_met a b x y ≡ t
    met_t a b x y e = elim (cases_eq a b) [
      | inl same ↦ if_same a b _ _ same ∙ one same e
      | inr other ↦ if_other a b _ _ other ∙ by (nat_lt a b) e
    ] where
      one : a ≡ b → (x ≡ t) ⊎ ((y ≡ t) × (a ≡ b → x ≡ y)) → x ≡ t
      one same (inl is) = is
      one same (inr is) = is.1 same ∙ is.0

      by : (l : Bool) → (x ≡ t) ⊎ ((y ≡ t) × (a ≡ b → x ≡ y)) → cond l (u x y) (u y x) ≡ t
      by true (inl is) = ap (λ z. u z y) is ∙ stays y
      by false (inl is) = ap (u y) is ∙ wins y
      by true (inr is) = ap (u x) is.0 ∙ wins x
      by false (inr is) = ap (λ z. u z x) is.0 ∙ stays x

    -- and is that of what meets with a colour that it owns
    pub met_top : (a b : ℕ) (s : Sight W) → IsNamed s → (h : ℕ) → s.owner h ≡ t
        → (met a b s).owner h ≡ t
    met_top a b s named h is = by (cases_eq (s.name h) (s.name a)) (cases_eq (s.name h) (s.name b))
      where
        by : (s.name h ≡ s.name a) ⊎ (s.name h ≢ s.name a)
            → (s.name h ≡ s.name b) ⊎ (s.name h ≢ s.name b) → (met a b s).owner h ≡ t
        by (inl e) _ = met_first a b s h e
            ∙ met_t (s.name a) (s.name b) (s.owner a) (s.owner b) (inl (named.owners a h (sym e) ∙ is))
        by (inr apart) (inl e) = met_second a b s h e
            ∙ met_t (s.name a) (s.name b) (s.owner a) (s.owner b)
            (inr (named.owners b h (sym e) ∙ is, named.owners a b))
        by (inr no_a) (inr no_b) = met_other a b s h no_a no_b ∙ is

    same_met : {a b c d : ℕ} {x y z w : W} → c ≡ a → d ≡ b → z ≡ x → w ≡ y
        → owner_met a b x y ≡ owner_met c d z w
    same_met e f g h = cc

    -- the order of two meetings doesn't matter, where t owns a colour of one of them
    module _ (a b h x : ℕ) (s : Sight W) (named : IsNamed s) (top : s.owner h ≡ t) where
      abbrev one : Sight W
      one = met a b s

      abbrev other : Sight W
      other = met h x s

      names : (n : ℕ) → (met h x one).name n ≡ (met a b other).name n
      names n = joins_commute (s.name a) (s.name b) (s.name h) (s.name x) (s.name n)

      with_t : (n : ℕ) → (met h x one).name n ≡ (met h x one).name h
          → (met h x one).owner n ≡ (met a b other).owner n
      with_t n e =
          (met_named h x one (met_named a b s named)).owners n h e
          ∙ met_top h x one (met_named a b s named) h (met_top a b s named h top)
          ∙ sym ((met_named a b other (met_named h x s named)).owners n h
          (sym (names n) ∙ e ∙ names h)
          ∙ met_top a b other (met_named h x s named) h (met_top h x s named h top))

      -- what doesn't meet h
      module _ (n : ℕ) (apart : (met h x one).name n ≢ (met h x one).name h) where
        no_one_h : one.name n ≢ one.name h
        no_one_h e = apart (ap (joined (one.name h) (one.name x)) e)

        no_one_x : one.name n ≢ one.name x
        no_one_x e = apart (ap (joined (one.name h) (one.name x)) e ∙ met_together h x one)

        no_h : s.name n ≢ s.name h
        no_h e = no_one_h (ap (joined (s.name a) (s.name b)) e)

        no_x : s.name n ≢ s.name x
        no_x e = no_one_x (ap (joined (s.name a) (s.name b)) e)

        left : (met h x one).owner n ≡ one.owner n
        left = met_other h x one n no_one_h no_one_x

        stays_named : other.name n ≡ s.name n
        stays_named = joined_other (s.name h) (s.name x) (s.name n) no_h no_x

        -- where a meets what it is, b does too, and neither meets h
        module _ (to_a : one.name n ≡ one.name a) where
          to_b : one.name n ≡ one.name b
          to_b = to_a ∙ sym (met_together a b s)

          apart_from : (c d : ℕ) → one.name n ≡ one.name c → one.name n ≢ one.name d
              → s.name c ≢ s.name d
          apart_from c d is isnt e = isnt (is ∙ ap (joined (s.name a) (s.name b)) e)

          as_before : owner_met (s.name a) (s.name b) (s.owner a) (s.owner b)
              ≡ owner_met (other.name a) (other.name b) (other.owner a) (other.owner b)
          as_before = same_met
              (joined_other (s.name h) (s.name x) (s.name a) (apart_from a h to_a no_one_h)
              (apart_from a x to_a no_one_x))
              (joined_other (s.name h) (s.name x) (s.name b) (apart_from b h to_b no_one_h)
              (apart_from b x to_b no_one_x))
              (met_other h x s a (apart_from a h to_a no_one_h) (apart_from a x to_a no_one_x))
              (met_other h x s b (apart_from b h to_b no_one_h) (apart_from b x to_b no_one_x))

        apart_owner : (s.name n ≡ s.name a) ⊎ (s.name n ≢ s.name a)
            → (s.name n ≡ s.name b) ⊎ (s.name n ≢ s.name b)
            → (met h x one).owner n ≡ (met a b other).owner n
        apart_owner (inl is) _ =
            left ∙ met_first a b s n is ∙ as_before (ap (joined (s.name a) (s.name b)) is)
            ∙ sym (met_first a b other n (ap (joined (s.name h) (s.name x)) is))
        apart_owner (inr isnt) (inl is) =
            left ∙ met_second a b s n is
            ∙ as_before (ap (joined (s.name a) (s.name b)) is ∙ met_together a b s)
            ∙ sym (met_second a b other n (ap (joined (s.name h) (s.name x)) is))
        apart_owner (inr no_a) (inr no_b) =
            left ∙ met_other a b s n no_a no_b ∙ sym (met_other h x s n no_h no_x)
            ∙ sym (met_other a b other n
            (λ e. no_a (joined_apart (s.name h) (s.name x) (s.name n) no_h no_x (s.name a) e))
            (λ e. no_b (joined_apart (s.name h) (s.name x) (s.name n) no_h no_x (s.name b) e)))

      owners : (n : ℕ) → (met h x one).owner n ≡ (met a b other).owner n
      owners n = elim (cases_eq ((met h x one).name n) ((met h x one).name h)) [
        | inl is ↦ with_t n is
        | inr apart ↦
            apart_owner n apart (cases_eq (s.name n) (s.name a)) (cases_eq (s.name n) (s.name b))
      ]

      pub meetings_commute : met h x (met a b s) ≡ met a b (met h x s)
      meetings_commute = λ i. record {
        count = s.count;
        name = λ n. names n i;
        owner = λ n. owners n i;
      }
