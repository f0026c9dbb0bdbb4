-- What changes of colours leave of the numbers that owners have.
use Rattle.std.proofs.Common.{◌≡◌, ◌≢◌, ◌⊎◌, ℕ, ◌<◌, ◌≤◌, refl, sym, ap, ◌∙◌, subst, inl, inr}
use Rattle.std.proofs.Common.{Bool, true, false, cond, eqb, Option, Some, None, List, [], ◌∷◌, ◌++◌}
use Rattle.std.proofs.Common.{length}
use Rattle.std.specs.Prelude.{option_map, option_and_then, nat_lt}
use Rattle.std.proofs.lemmas.Bool.{cases_eq, cases_lt}
use Rattle.sw_list.proofs.ListLemmas.{some_injective}
use Rattle.sw_value.proofs.ListLemmas.{slice_get_end}
use Rattle.sw_color_rules.specs.declared.colors.Owner.{Owner}
use Rattle.sw_color_rules.specs.declared.colors.Owner.TheVariants as owner
use Rattle.sw_color_rules.specs.declared.colors.Tint.{Tint}
use Rattle.sw_color_rules.specs.declared.colors.Tint.TheVariants.{Owns}
use Rattle.sw_color_rules.specs.declared.colors.Palette.{Palette}
use Rattle.sw_color_rules.specs.Palette.{united, handed_to, fresh, merge, hand_over, IsWhole}
use Rattle.sw_color_rules.specs.Tints.{owned_number, owned_by}
use Rattle.sw_late_facts.proofs.Names.{joined}
use Rattle.sw_late_facts.proofs.Sights.{Sight, if_same, if_other, owner_met, met, met_first, met_second}
use Rattle.sw_late_facts.proofs.Sights.{met_other, met_together}
use Rattle.sw_late_facts.proofs.Handing.{handed, made}
use Rattle.sw_late_facts.proofs.Palettes.{sight_as, sight_fresh, sight_merge, merge_out, sight_handed}
use Rattle.sw_late_facts.proofs.Waiting.{owned_more}

-- Owners are seen as they are.
abbrev pub Owners : Type 0
Owners = Sight (Option Owner)

abbrev pub owners_unite : Option Owner → Option Owner → Option Owner
owners_unite (Some low) (Some high) = Some (united low high)
owners_unite None high = high
owners_unite (Some low) None = Some low

abbrev pub owner_handed : ℕ → Option Owner → Option Owner
owner_handed j o = option_map (handed_to j) o

abbrev pub owners_of : Palette → Owners
owners_of p = sight_as (λ o. o) p

-- The number that an owner has: of an actor the one that is noted of its cell, of a global actor its
-- own. A job has all numbers.
abbrev pub HasNumber : ℕ → List Tint → Owner → ℕ → Type 0
HasNumber globals cells (owner.Job j) n = Unit {0}
HasNumber globals cells (owner.ActorOf c) n = owned_number cells c ≡ Some n
HasNumber globals cells (owner.Global g) n = (g < globals) × (n ≡ g)

-- what is owned is one colour with a number that its owner has
pub record AreNumbered (globals : ℕ) (cells : List Tint) (s : Owners) : Type 0 where
  pub each : (n : ℕ) (o : Owner) → s.owner n ≡ Some o
      → (own : ℕ) × HasNumber globals cells o own × (s.name own ≡ s.name n)

-- ---- two owners
united_one : (low high o : Owner) → united low high ≡ o → (low ≡ o) ⊎ (high ≡ o)
united_one (owner.Job j) high o e = inr e
united_one (owner.ActorOf c) high o e = inl e
united_one (owner.Global g) high o e = inl e

unite_one : (x y : Option Owner) (o : Owner) → owners_unite x y ≡ Some o
    → (x ≡ Some o) ⊎ (y ≡ Some o)
unite_one None y o e = inr e
unite_one (Some low) None o e = inl e
unite_one (Some low) (Some high) o e = elim (united_one low high o (some_injective e)) [
  | inl is ↦ inl (ap (λ z. Some z) is)
  | inr is ↦ inr (ap (λ z. Some z) is)
]

met_one : (a b : ℕ) (x y : Option Owner) (o : Owner) → owner_met owners_unite a b x y ≡ Some o
    → (x ≡ Some o) ⊎ (y ≡ Some o)
met_one a b x y o e = by (eqb a b) (nat_lt a b) e where
  turn : (y ≡ Some o) ⊎ (x ≡ Some o) → (x ≡ Some o) ⊎ (y ≡ Some o)
  turn (inl is) = inr is
  turn (inr is) = inl is

  by : (same low : Bool) → cond same x (cond low (owners_unite x y) (owners_unite y x)) ≡ Some o
      → (x ≡ Some o) ⊎ (y ≡ Some o)
  by true low h = inl h
  by false true h = unite_one x y o h
  by false false h = turn (unite_one y x o h)

module _ (globals : ℕ) (cells : List Tint) (s : Owners) (numbered : AreNumbered globals cells s) where
  abbrev Numbered : Owners → Type 0
  Numbered t = AreNumbered globals cells t

  -- ---- colours that merge
  module _ (a b : ℕ) where
    abbrev after : Owners
    after = met owners_unite a b s

    -- what comes from one of the two goes to both
    from : (n z : ℕ) (o : Owner) → after.name z ≡ after.name n → s.owner z ≡ Some o
        → (own : ℕ) × HasNumber globals cells o own × (after.name own ≡ after.name n)
    from n z o e is =
        let own = numbered.each z o is in
        (own.0, own.1, ap (joined (s.name a) (s.name b)) own.2 ∙ e)

    either : (n : ℕ) (o : Owner) → after.name a ≡ after.name n → after.name b ≡ after.name n
        → owner_met owners_unite (s.name a) (s.name b) (s.owner a) (s.owner b) ≡ Some o
        → (own : ℕ) × HasNumber globals cells o own × (after.name own ≡ after.name n)
    either n o to_a to_b e =
        elim (met_one (s.name a) (s.name b) (s.owner a) (s.owner b) o e) [
          | inl is ↦ from n a o to_a is
          | inr is ↦ from n b o to_b is
        ]

    pub met_numbered : Numbered after
    met_numbered = record {
      each = λ n o e. by n o e (cases_eq (s.name n) (s.name a)) (cases_eq (s.name n) (s.name b));
    } where
      together : after.name b ≡ after.name a
      together = met_together owners_unite a b s

      by : (n : ℕ) (o : Owner) → after.owner n ≡ Some o → (s.name n ≡ s.name a) ⊎ (s.name n ≢ s.name a)
          → (s.name n ≡ s.name b) ⊎ (s.name n ≢ s.name b)
          → (own : ℕ) × HasNumber globals cells o own × (after.name own ≡ after.name n)
      by n o e (inl is) _ =
          let same = sym (ap (joined (s.name a) (s.name b)) is) in
          either n o same (together ∙ same) (sym (met_first owners_unite a b s n is) ∙ e)
      by n o e (inr apart) (inl is) =
          let same = sym (ap (joined (s.name a) (s.name b)) is) in
          either n o (sym together ∙ same) same (sym (met_second owners_unite a b s n is) ∙ e)
      by n o e (inr no_a) (inr no_b) =
          from n n o refl (sym (met_other owners_unite a b s n no_a no_b) ∙ e)

  -- ---- colours that are handed over
  still : (j : ℕ) (one : Owner) (n : ℕ) → HasNumber globals cells one n
      → HasNumber globals cells (handed_to j one) n
  still j (owner.Job i) n has = tt
  still j (owner.ActorOf c) n has = has
  still j (owner.Global g) n has = has

  given : (j m : ℕ) (x : Option Owner) (o : Owner) → s.owner m ≡ x → owner_handed j x ≡ Some o
      → (own : ℕ) × HasNumber globals cells o own × (s.name own ≡ s.name m)
  given j m None o is e = cc
  given j m (Some one) o is e =
      let own = numbered.each m one is in
      (own.0, subst (λ z. HasNumber globals cells z own.0) (some_injective e) (still j one own.0 own.1), own.2)

  pub handed_numbered : (n j : ℕ) → Numbered (handed owners_unite owner_handed n j s)
  handed_numbered n j = record { each = λ m o e. by m o e (cases_eq (s.name m) (s.name n)) } where
    by : (m : ℕ) (o : Owner) → (handed owners_unite owner_handed n j s).owner m ≡ Some o
        → (s.name m ≡ s.name n) ⊎ (s.name m ≢ s.name n)
        → (own : ℕ) × HasNumber globals cells o own × (s.name own ≡ s.name m)
    by m o e (inl same) =
        given j m (s.owner m) o refl (sym (if_same (s.name m) (s.name n) _ _ same) ∙ e)
    by m o e (inr other) = numbered.each m o (sym (if_other (s.name m) (s.name n) _ _ other) ∙ e)

  -- ---- colours that are made
  -- with a cell more, and an owner that has the number
  pub more_numbered : (t : Tint) → AreNumbered globals (cells ++ t ∷ []) s
  more_numbered t = record {
    each = λ n o e. let own = numbered.each n o e in (own.0, by o own.0 own.1, own.2);
  } where
    by : (o : Owner) (n : ℕ) → HasNumber globals cells o n → HasNumber globals (cells ++ t ∷ []) o n
    by (owner.Job j) n has = tt
    by (owner.ActorOf c) n has = owned_more cells t c n has
    by (owner.Global g) n has = has

  pub made_numbered : (one : Owner) → HasNumber globals cells one s.count
      → Numbered (made owners_unite owner_handed (Some one) s)
  made_numbered one has = record { each = λ n o e. by n o e (cases_eq n s.count) } where
    by : (n : ℕ) (o : Owner) → (made owners_unite owner_handed (Some one) s).owner n ≡ Some o
        → (n ≡ s.count) ⊎ (n ≢ s.count)
        → (own : ℕ) × HasNumber globals cells o own × (s.name own ≡ s.name n)
    by n o e (inl same) =
        let is = some_injective (sym (if_same n s.count _ _ same) ∙ e) in
        (s.count, subst (λ z. HasNumber globals cells z s.count) is has, ap s.name (sym same))
    by n o e (inr other) = numbered.each n o (sym (if_other n s.count _ _ other) ∙ e)

-- ---- palettes
pub unites : (low high : Owner) → Some (united low high) ≡ owners_unite (Some low) (Some high)
unites low high = refl

pub hands : (j : ℕ) (o : Option Owner) → option_map (handed_to j) o ≡ owner_handed j o
hands j o = refl

module _ (globals : ℕ) (cells : List Tint) (p : Palette) (whole : IsWhole p)
    (numbered : AreNumbered globals cells (owners_of p)) where
  pub merge_numbered : (a b : ℕ) → AreNumbered globals cells (owners_of (merge a b p))
  merge_numbered a b = by (cases_lt a (length p.names)) (cases_lt b (length p.names)) where
    out : (length p.names ≤ a) ⊎ (length p.names ≤ b)
        → AreNumbered globals cells (owners_of (merge a b p))
    out h = subst (λ q. AreNumbered globals cells (owners_of q))
        (sym (merge_out (λ o. o) owners_unite owner_handed unites hands a b p whole h)) numbered

    by : (a < length p.names) ⊎ (length p.names ≤ a) → (b < length p.names) ⊎ (length p.names ≤ b)
        → AreNumbered globals cells (owners_of (merge a b p))
    by (inl a_in) (inl b_in) = subst (AreNumbered globals cells)
        (sym (sight_merge (λ o. o) owners_unite owner_handed unites hands a b p whole a_in b_in))
        (met_numbered globals cells (owners_of p) numbered a b)
    by (inl a_in) (inr past) = out (inr past)
    by (inr past) _ = out (inl past)

  pub hand_over_numbered : (n j : ℕ) → AreNumbered globals cells (owners_of (hand_over n j p))
  hand_over_numbered n j = subst (AreNumbered globals cells)
      (sym (sight_handed (λ o. o) owners_unite owner_handed unites hands n j p whole))
      (handed_numbered globals cells (owners_of p) numbered n j)

  pub fresh_numbered : (o : Owner) → HasNumber globals cells o (length p.names)
      → AreNumbered globals cells (owners_of (fresh o p))
  fresh_numbered o has = subst (AreNumbered globals cells)
      (sym (sight_fresh (λ z. z) owners_unite owner_handed unites hands o p whole))
      (made_numbered globals cells (owners_of p) numbered o has)

-- the number that is noted of one cell more
pub owned_next : (cells : List Tint) (n : ℕ) → owned_number (cells ++ Owns n ∷ []) (length cells) ≡ Some n
unfolding owned_number
owned_next cells n = ap (option_and_then owned_by) (slice_get_end cells (Owns n))
