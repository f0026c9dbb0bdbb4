-- What a task takes may be handed over to it before it merges, or after.
use Rattle.std.proofs.Common.{◌≡◌, ◌≢◌, ◌⊎◌, ℕ, refl, ap, sym, ◌∙◌, inl, inr, Bool, true, false}
use Rattle.std.proofs.Common.{cond, eqb, Option, Some, None}
use Rattle.std.specs.Prelude.{if◌then◌else◌, ◌==◌, nat_lt}
use Rattle.std.proofs.lemmas.Bool.{cases_eq}
use Rattle.sw_late_facts.proofs.Names.{joined, joined_apart}
use Rattle.sw_late_facts.proofs.Sights.{IsNamed, if_same, if_other, owner_met, met, met_first}
use Rattle.sw_late_facts.proofs.Sights.{met_other, met_named, met_together}
use Rattle.sw_late_facts.proofs.Handing.{handed}
use Rattle.sw_late_facts.proofs.Seen.{Jobs, job_united, job_handed}

abbrev pub joins : ℕ → ℕ → Jobs → Jobs
joins a b s = met job_united a b s

abbrev pub hands : ℕ → ℕ → Jobs → Jobs
hands n j s = handed job_united job_handed n j s

-- what isn't another job's
abbrev pub IsOwn : ℕ → Option ℕ → Type 0
IsOwn j o = job_handed j o ≡ o

pub met_own : (j a b : ℕ) (x y : Option ℕ) → IsOwn j x → IsOwn j y → IsOwn j (owner_met job_united a b x y)
met_own j a b x y own_x own_y = by (eqb a b) (nat_lt a b) x y own_x own_y where
  by : (same low : Bool) (x y : Option ℕ) → IsOwn j x → IsOwn j y
      → IsOwn j (cond same x (cond low (job_united x y) (job_united y x)))
  by true low x y own_x own_y = own_x
  by false true (Some i) y own_x own_y = own_y
  by false true None y own_x own_y = refl
  by false false x (Some i) own_x own_y = own_x
  by false false x None own_x own_y = refl

module _ (s : Jobs) (named : IsNamed s) where
  -- ---- one handing
  hands_named : (n j : ℕ) → IsNamed (hands n j s)
  hands_named n j = record {
    owners = λ k m e. same (s.name k) (s.name m) (s.owner k) (s.owner m) e (named.owners k m e);
  } where
    same : (k m : ℕ) (y z : Option ℕ) → k ≡ m → y ≡ z
        → (if k == s.name n then job_handed j y else y) ≡ (if m == s.name n then job_handed j z else z)
    same k m y z e f = cc

  pub own_kept : (n j h : ℕ) → IsOwn j (s.owner h) → (hands n j s).owner h ≡ s.owner h
  own_kept n j h own = elim (cases_eq (s.name h) (s.name n)) [
    | inl e ↦ if_same (s.name h) (s.name n) _ _ e ∙ own
    | inr e ↦ if_other (s.name h) (s.name n) _ _ e
  ]

  pub handed_there : (n j h : ℕ) → s.name h ≡ s.name n → (hands n j s).owner h ≡ job_handed j (s.owner h)
  handed_there n j h e = if_same (s.name h) (s.name n) _ _ e

  handed_apart : (n j h : ℕ) → s.name h ≢ s.name n → (hands n j s).owner h ≡ s.owner h
  handed_apart n j h e = if_other (s.name h) (s.name n) _ _ e

  -- handing over what is the job's is nothing
  pub own_stays : (n j : ℕ) → IsOwn j (s.owner n) → hands n j s ≡ s
  own_stays n j own = λ i. record { count = s.count; name = s.name; owner = λ m. owners m i } where
    owners : (m : ℕ) → (hands n j s).owner m ≡ s.owner m
    owners m = elim (cases_eq (s.name m) (s.name n)) [
      | inl e ↦
          handed_there n j m e ∙ ap (job_handed j) (named.owners m n e) ∙ own ∙ sym (named.owners m n e)
      | inr e ↦ handed_apart n j m e
    ]

  -- ---- one handing and one merge
  module _ (h x : ℕ) where
    abbrev after : Jobs
    after = joins h x s

    no_h : (m : ℕ) → after.name m ≢ after.name h → s.name m ≢ s.name h
    no_h m apart e = apart (ap (joined (s.name h) (s.name x)) e)

    no_x : (m : ℕ) → after.name m ≢ after.name h → s.name m ≢ s.name x
    no_x m apart e = apart (ap (joined (s.name h) (s.name x)) e ∙ met_together job_united h x s)

    after_there : (m : ℕ) → after.name m ≡ after.name h
        → after.owner m ≡ owner_met job_united (s.name h) (s.name x) (s.owner h) (s.owner x)
    after_there m e =
        (met_named job_united h x s named).owners m h e ∙ met_first job_united h x s h refl

    handed_after : (n j m : ℕ) → after.name m ≡ after.name h → (joins h x (hands n j s)).owner m
        ≡ owner_met job_united (s.name h) (s.name x) ((hands n j s).owner h) ((hands n j s).owner x)
    handed_after n j m e =
        (met_named job_united h x (hands n j s) (hands_named n j)).owners m h e
        ∙ met_first job_united h x (hands n j s) h refl

    after_apart : (m : ℕ) → after.name m ≢ after.name h → after.owner m ≡ s.owner m
    after_apart m apart = met_other job_united h x s m (no_h m apart) (no_x m apart)

    handed_after_apart : (n j m : ℕ) → after.name m ≢ after.name h
        → (joins h x (hands n j s)).owner m ≡ (hands n j s).owner m
    handed_after_apart n j m apart =
        met_other job_united h x (hands n j s) m (no_h m apart) (no_x m apart)

    met_with : {a b c d : Option ℕ} → a ≡ c → b ≡ d
        → owner_met job_united (s.name h) (s.name x) a b
        ≡ owner_met job_united (s.name h) (s.name x) c d
    met_with e f = cc

    pub own_commutes : (n j : ℕ) → IsOwn j (s.owner h) → IsOwn j (s.owner x)
        → joins h x (hands n j s) ≡ hands n j (joins h x s)
    own_commutes n j own_h own_x = λ i. record {
      count = s.count;
      name = after.name;
      owner = λ m. owners m (cases_eq (after.name m) (after.name h)) (cases_eq (s.name m) (s.name n)) i;
    } where
      both : Option ℕ
      both = owner_met job_united (s.name h) (s.name x) (s.owner h) (s.owner x)

      stays : (m : ℕ) → after.owner m ≡ both → (hands n j after).owner m ≡ both
      stays m is = elim (cases_eq (after.name m) (after.name n)) [
        | inl e ↦ if_same (after.name m) (after.name n) _ _ e ∙ ap (job_handed j) is
            ∙ met_own j (s.name h) (s.name x) (s.owner h) (s.owner x) own_h own_x
        | inr e ↦ if_other (after.name m) (after.name n) _ _ e ∙ is
      ]

      owners : (m : ℕ) → (after.name m ≡ after.name h) ⊎ (after.name m ≢ after.name h)
          → (s.name m ≡ s.name n) ⊎ (s.name m ≢ s.name n)
          → (joins h x (hands n j s)).owner m ≡ (hands n j after).owner m
      owners m (inl e) _ =
          handed_after n j m e ∙ met_with (own_kept n j h own_h) (own_kept n j x own_x)
          ∙ sym (stays m (after_there m e))
      owners m (inr apart) (inl e) =
          handed_after_apart n j m apart ∙ handed_there n j m e
          ∙ ap (job_handed j) (sym (after_apart m apart))
          ∙ sym (if_same (after.name m) (after.name n) _ _ (ap (joined (s.name h) (s.name x)) e))
      owners m (inr apart) (inr e) =
          handed_after_apart n j m apart ∙ handed_apart n j m e ∙ sym (after_apart m apart)
          ∙ sym (if_other (after.name m) (after.name n) _ _ (λ f.
          e (joined_apart (s.name h) (s.name x) (s.name m) (no_h m apart) (no_x m apart) (s.name n) f)))

    -- the owner of what merges with a colour of the job
    first_met : (j a b : ℕ) (o : Option ℕ) → owner_met job_united a b (Some j) (job_handed j o)
        ≡ job_handed j (owner_met job_united a b (Some j) o)
    first_met j a b o = by (eqb a b) (nat_lt a b) o where
      by : (same low : Bool) (o : Option ℕ)
          → cond same (Some j) (cond low (job_united (Some j) (job_handed j o))
          (job_united (job_handed j o) (Some j)))
          ≡ job_handed j (cond same (Some j) (cond low (job_united (Some j) o) (job_united o (Some j))))
      by true low o = refl
      by false true (Some i) = refl
      by false true None = refl
      by false false (Some i) = refl
      by false false None = refl

    pub first_handed : (j : ℕ) → s.owner h ≡ Some j → joins h x (hands x j s) ≡ hands h j (joins h x s)
    first_handed j own = λ i. record {
      count = s.count;
      name = after.name;
      owner = λ m. owners m (cases_eq (after.name m) (after.name h)) i;
    } where
      owners : (m : ℕ) → (after.name m ≡ after.name h) ⊎ (after.name m ≢ after.name h)
          → (joins h x (hands x j s)).owner m ≡ (hands h j after).owner m
      owners m (inl e) =
          handed_after x j m e
          ∙ met_with (own_kept x j h (ap (job_handed j) own ∙ sym own) ∙ own) (handed_there x j x refl)
          ∙ first_met j (s.name h) (s.name x) (s.owner x)
          ∙ ap (job_handed j) (sym (met_with own refl))
          ∙ ap (job_handed j) (sym (after_there m e))
          ∙ sym (if_same (after.name m) (after.name h) _ _ e)
      owners m (inr apart) =
          handed_after_apart x j m apart ∙ handed_apart x j m (no_x m apart)
          ∙ sym (after_apart m apart) ∙ sym (if_other (after.name m) (after.name h) _ _ apart)

    -- the first owner doesn't matter where what merges is handed over
    lost_met : (j a b : ℕ) (o p : Option ℕ)
        → job_handed j (owner_met job_united a b (job_handed j o) p)
        ≡ job_handed j (owner_met job_united a b o p)
    lost_met j a b o p = by (eqb a b) (nat_lt a b) o p where
      by : (same low : Bool) (o p : Option ℕ)
          → job_handed j (cond same (job_handed j o) (cond low (job_united (job_handed j o) p)
          (job_united p (job_handed j o))))
          ≡ job_handed j (cond same o (cond low (job_united o p) (job_united p o)))
      by true low (Some i) p = refl
      by true low None p = refl
      by false true (Some i) p = refl
      by false true None p = refl
      by false false (Some i) (Some k) = refl
      by false false None (Some k) = refl
      by false false (Some i) None = refl
      by false false None None = refl

    pub last_handed : (j : ℕ) → hands h j (joins h x (hands h j s)) ≡ hands h j (joins h x s)
    last_handed j = λ i. record {
      count = s.count;
      name = after.name;
      owner = λ m. owners m (cases_eq (after.name m) (after.name h)) i;
    } where
      -- x's owner, if x isn't h's
      met_x : job_handed j (owner_met job_united (s.name h) (s.name x) (job_handed j (s.owner h))
          ((hands h j s).owner x))
          ≡ job_handed j (owner_met job_united (s.name h) (s.name x) (job_handed j (s.owner h))
          (s.owner x))
      met_x = elim (cases_eq (s.name h) (s.name x)) [
        | inl e ↦
            ap (job_handed j) (if_same (s.name h) (s.name x) _ _ e
            ∙ sym (if_same (s.name h) (s.name x) _ _ e))
        | inr e ↦ ap (job_handed j) (met_with refl (handed_apart h j x (λ f. e (sym f))))
      ]

      owners : (m : ℕ) → (after.name m ≡ after.name h) ⊎ (after.name m ≢ after.name h)
          → (hands h j (joins h x (hands h j s))).owner m ≡ (hands h j after).owner m
      owners m (inl e) =
          if_same (after.name m) (after.name h) _ _ e
          ∙ ap (job_handed j) (handed_after h j m e ∙ met_with (handed_there h j h refl) refl)
          ∙ met_x
          ∙ lost_met j (s.name h) (s.name x) (s.owner h) (s.owner x)
          ∙ ap (job_handed j) (sym (after_there m e))
          ∙ sym (if_same (after.name m) (after.name h) _ _ e)
      owners m (inr apart) =
          if_other (after.name m) (after.name h) _ _ apart
          ∙ handed_after_apart h j m apart ∙ handed_apart h j m (no_h m apart)
          ∙ sym (after_apart m apart) ∙ sym (if_other (after.name m) (after.name h) _ _ apart)
