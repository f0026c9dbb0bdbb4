-- Whose the colours are that jobs take to actors, once they are delivered.
use Rattle.std.proofs.Common.{◌≡◌, ◌≢◌, ◌⊎◌, ℕ, ◌<◌, ◌≤◌, suc, arith, refl, sym, ap, ◌∙◌, inl, inr, subst}
use Rattle.std.proofs.Common.{Bool, true, false, cond, eqb, Option, Some, None, List, [], ◌∷◌, ◌++◌, map}
use Rattle.std.proofs.Common.{length, slice_get}
use Rattle.std.specs.Prelude.{nat_lt, Contains}
use Rattle.std.specs.List.{All, AllPairs}
use Rattle.std.proofs.lemmas.Bool.{cases_eq, cases_lt}
use Rattle.std.proofs.lemmas.List.Elements.{All-head, All-tail, All-weaker}
use Rattle.sw_list.proofs.ListLemmas.{some_injective}
use Rattle.sw_color_rules.specs.declared.colors.Owner.{Owner}
use Rattle.sw_color_rules.specs.declared.colors.Owner.TheVariants as owner
use Rattle.sw_color_rules.specs.declared.colors.Colors.{Colors}
use Rattle.sw_color_rules.specs.declared.colors.Palette.{Palette}
use Rattle.sw_color_rules.specs.Palette.{IsWhole, owner_in, united, merge}
use Rattle.sw_color_rules.specs.Changes.{Change, Merge, after_change, after_changes}
use Rattle.sw_color_rules.proofs.PaletteLemmas.{changes_whole}
use Rattle.sw_late_facts.specs.Late.{Cargo, delivery, deliveries}
use Rattle.sw_late_facts.specs.Alike.{job_of}
use Rattle.sw_late_facts.specs.Owners.{AreOfOtherJobs}
use Rattle.sw_late_facts.proofs.Sights.{owner_met, met, met_first, met_second, met_other}
use Rattle.sw_late_facts.proofs.Palettes.{sight_merge, merge_out}
use Rattle.sw_late_facts.proofs.Numbers.{Owners, owners_unite, owner_handed, owners_of, unites, hands}

-- an owner that isn't a job
abbrev pub IsActor : Owner → Type 0
IsActor o = job_of (Some o) ≡ None

no_job : (o : Owner) → IsActor o → (j : ℕ) → Some o ≡ Some (owner.Job j) → ⊥
no_job o actor j e =
    let clash : None ≡ Some j = sym actor ∙ ap job_of e in
    cc

-- the job's, or the actor's already
abbrev pub IsOwn : ℕ → Owner → Option Owner → Type 0
IsOwn j actor o = (o ≡ Some (owner.Job j)) ⊎ (o ≡ Some actor)

-- The colours that have become the actor's were the job's, and all others have the owner they had.
abbrev pub Turned : ℕ → Owner → Palette → Palette → Type 0
Turned j actor p q = (n : ℕ) → (owner_in q n ≡ owner_in p n)
    ⊎ ((owner_in p n ≡ Some (owner.Job j)) × (owner_in q n ≡ Some actor))

-- ---- one merge
actor_first : (actor : Owner) → IsActor actor → (o : Owner) → united actor o ≡ actor
actor_first (owner.Job j) is o = cc
actor_first (owner.ActorOf c) is o = refl
actor_first (owner.Global g) is o = refl

actor_second : (actor : Owner) (j : ℕ) (o : Owner) → IsOwn j actor (Some o) → IsActor actor
    → united o actor ≡ actor
actor_second actor j o (inl e) is = ap (λ z. united z actor) (some_injective e)
actor_second actor j o (inr e) is =
    ap (λ z. united z actor) (some_injective e) ∙ actor_first actor is actor

met_actor : (actor : Owner) (j : ℕ) → IsActor actor → (a b : ℕ) (x y : Option Owner) → x ≡ Some actor
    → IsOwn j actor y → owner_met owners_unite a b x y ≡ Some actor
met_actor actor j is a b x None at (inl e) = cc
met_actor actor j is a b x None at (inr e) = cc
met_actor actor j is a b x (Some o) at own = by (eqb a b) (nat_lt a b) where
  by : (same low : Bool)
      → cond same x (cond low (owners_unite x (Some o)) (owners_unite (Some o) x)) ≡ Some actor
  by true low = at
  by false true =
      ap (λ z. owners_unite z (Some o)) at ∙ ap (λ z. Some z) (actor_first actor is o)
  by false false =
      ap (λ z. owners_unite (Some o) z) at ∙ ap (λ z. Some z) (actor_second actor j o own is)

merge_turns : (j : ℕ) (actor : Owner) → IsActor actor → (a x : ℕ) (p : Palette) → IsWhole p
    → owner_in p a ≡ Some actor → IsOwn j actor (owner_in p x) → Turned j actor p (merge a x p)
merge_turns j actor is a x p whole at own n =
    by (cases_lt a (length p.names)) (cases_lt x (length p.names)) where
      s : Owners
      s = owners_of p

      Turns : Option Owner → Type 0
      Turns o = (o ≡ owner_in p n) ⊎ ((owner_in p n ≡ Some (owner.Job j)) × (o ≡ Some actor))

      out : (length p.names ≤ a) ⊎ (length p.names ≤ x) → Turns (owner_in (merge a x p) n)
      out h = inl (ap (λ q. owner_in q n)
          (merge_out (λ o. o) owners_unite owner_handed unites hands a x p whole h))

      both : owner_met owners_unite (s.name a) (s.name x) (s.owner a) (s.owner x) ≡ Some actor
      both = met_actor actor j is (s.name a) (s.name x) (s.owner a) (s.owner x) at own

      same_owner : (m : ℕ) → s.name n ≡ s.name m → owner_in p n ≡ owner_in p m
      same_owner m e =
          ap (λ k. slice_get p.owners k) e

      here : (s.name n ≡ s.name a) ⊎ (s.name n ≢ s.name a)
          → (s.name n ≡ s.name x) ⊎ (s.name n ≢ s.name x)
          → Turns ((met owners_unite a x s).owner n)
      here (inl e) _ = inl (met_first owners_unite a x s n e ∙ both ∙ sym at ∙ sym (same_owner a e))
      here (inr apart) (inl e) = elim own [
        | inl jobs ↦ inr (same_owner x e ∙ jobs, met_second owners_unite a x s n e ∙ both)
        | inr actors ↦
            inl (met_second owners_unite a x s n e ∙ both ∙ sym actors ∙ sym (same_owner x e))
      ]
      here (inr no_a) (inr no_x) = inl (met_other owners_unite a x s n no_a no_x)

      by : (a < length p.names) ⊎ (length p.names ≤ a) → (x < length p.names) ⊎ (length p.names ≤ x)
          → Turns (owner_in (merge a x p) n)
      by (inl a_in) (inl x_in) =
          subst Turns (sym (ap (λ (t : Owners). t.owner n)
          (sight_merge (λ o. o) owners_unite owner_handed unites hands a x p whole a_in x_in)))
          (here (cases_eq (s.name n) (s.name a)) (cases_eq (s.name n) (s.name x)))
      by (inl a_in) (inr past) = out (inr past)
      by (inr past) _ = out (inl past)

-- ---- what one job takes
-- what an actor owns it still owns
actor_stays : (j : ℕ) (actor : Owner) (p q : Palette) → Turned j actor p q → (n : ℕ) (o : Owner)
    → IsActor o → owner_in p n ≡ Some o → owner_in q n ≡ Some o
actor_stays j actor p q turned n o is e = elim (turned n) [
  | inl same ↦ same ∙ e
  | inr both ↦ absurd (no_job o is j (sym e ∙ both.0))
]

own_stays : (j : ℕ) (actor : Owner) (p q : Palette) → Turned j actor p q → IsActor actor → (n : ℕ)
    → IsOwn j actor (owner_in p n) → IsOwn j actor (owner_in q n)
own_stays j actor p q turned is n (inr e) = inr (actor_stays j actor p q turned n actor is e)
own_stays j actor p q turned is n (inl e) = elim (turned n) [
  | inl same ↦ inl (same ∙ e)
  | inr both ↦ inr both.1
]

turned_both : (j : ℕ) (actor : Owner) (p q r : Palette) → IsActor actor → Turned j actor p q
    → Turned j actor q r → Turned j actor p r
turned_both j actor p q r is one other n = by (one n) (other n) where
  by : (owner_in q n ≡ owner_in p n)
      ⊎ ((owner_in p n ≡ Some (owner.Job j)) × (owner_in q n ≡ Some actor))
      → (owner_in r n ≡ owner_in q n)
      ⊎ ((owner_in q n ≡ Some (owner.Job j)) × (owner_in r n ≡ Some actor))
      → (owner_in r n ≡ owner_in p n)
      ⊎ ((owner_in p n ≡ Some (owner.Job j)) × (owner_in r n ≡ Some actor))
  by (inl same) (inl still) = inl (still ∙ same)
  by (inl same) (inr next) = inr (sym same ∙ next.0, next.1)
  by (inr both) (inl still) = inr (both.0, still ∙ both.1)
  by (inr both) (inr next) = absurd (no_job actor is j (sym both.1 ∙ next.0))

delivery_turns : (j : ℕ) (actor : Owner) → IsActor actor → (a : ℕ) (ns : List ℕ) (colors : Colors)
    → IsWhole colors.palette → owner_in colors.palette a ≡ Some actor
    → All (λ n. IsOwn j actor (owner_in colors.palette n)) ns
    → Turned j actor colors.palette (after_changes (map (Merge a) ns) colors).palette
delivery_turns j actor is a [] colors whole at own = λ n. inl refl
delivery_turns j actor is a (x ∷ xs) colors whole at own =
    turned_both j actor colors.palette next.palette (after_changes (map (Merge a) xs) next).palette is first
    (delivery_turns j actor is a xs next (changes_whole (Merge a x ∷ []) colors whole)
    (actor_stays j actor colors.palette next.palette first a actor is at)
    (All-weaker (λ n. IsOwn j actor (owner_in colors.palette n))
    (λ n. IsOwn j actor (owner_in next.palette n))
    (λ n e. own_stays j actor colors.palette next.palette first is n e) xs
    (All-tail (λ n. IsOwn j actor (owner_in colors.palette n)) x xs own)))
  where
    next : Colors
    next = after_change colors (Merge a x)

    first : Turned j actor colors.palette next.palette
    first = merge_turns j actor is a x colors.palette whole at
        (All-head (λ n. IsOwn j actor (owner_in colors.palette n)) x xs own)

-- ---- what all jobs take
-- What a job takes is the job's, or is that actor's already to which the job takes it.
pub record IsCarried (p : Palette) (cargo : Cargo) : Type 0 where
  pub actor : Owner
  pub at : owner_in p cargo.actor ≡ Some actor
  pub is : IsActor actor
  pub own : All (λ n. IsOwn cargo.job actor (owner_in p n)) cargo.colors

-- another job's stays so where a job's is delivered
carried_stays : (j : ℕ) (actor : Owner) → IsActor actor → (p q : Palette) → Turned j actor p q
    → (cargo : Cargo) → j ≢ cargo.job → IsCarried p cargo → IsCarried q cargo
carried_stays j actor is p q turned cargo apart c = record {
  actor = c.actor;
  at = actor_stays j actor p q turned cargo.actor c.actor c.is c.at;
  is = c.is;
  own = All-weaker (λ n. IsOwn cargo.job c.actor (owner_in p n))
      (λ n. IsOwn cargo.job c.actor (owner_in q n)) by cargo.colors c.own;
} where
  same_job : (k l : ℕ) → Some (owner.Job k) ≡ Some (owner.Job l) → k ≡ l
  same_job k l e = cc

  by : (n : ℕ) → IsOwn cargo.job c.actor (owner_in p n) → IsOwn cargo.job c.actor (owner_in q n)
  by n (inr e) = inr (actor_stays j actor p q turned n c.actor c.is e)
  by n (inl e) = elim (turned n) [
    | inl same ↦ inl (same ∙ e)
    | inr both ↦ absurd (apart (same_job j cargo.job (sym both.0 ∙ e)))
  ]

-- a job takes the colour to an actor, which owns it afterwards
pub record IsBrought (cargo : List Cargo) (p q : Palette) (n : ℕ) : Type 0 where
  pub one : Cargo
  pub among : Contains cargo one
  pub jobs : owner_in p n ≡ Some (owner.Job one.job)
  pub actor : Owner
  pub is : IsActor actor
  pub at : owner_in p one.actor ≡ Some actor
  pub becomes : owner_in q n ≡ Some actor

pub deliveries_bring : (cargo : List Cargo) (colors : Colors) → IsWhole colors.palette
    → AllPairs AreOfOtherJobs cargo → All (IsCarried colors.palette) cargo → (n : ℕ)
    → (owner_in (after_changes (deliveries cargo) colors).palette n ≡ owner_in colors.palette n)
    ⊎ IsBrought cargo colors.palette (after_changes (deliveries cargo) colors).palette n
deliveries_bring [] colors whole apart carried n = inl refl
deliveries_bring (c ∷ cs) colors whole apart carried n =
    subst Brings (sym (ap (λ (z : Colors). z.palette) ends))
    (by (first n) (deliveries_bring cs next next_whole apart_rest carried_rest n)) where
      Brings : Palette → Type 0
      Brings q = (owner_in q n ≡ owner_in colors.palette n) ⊎ IsBrought (c ∷ cs) colors.palette q n

      next : Colors
      next = after_changes (delivery c) colors

      next_whole : IsWhole next.palette
      next_whole = changes_whole (delivery c) colors whole

      end : Palette
      end = (after_changes (deliveries cs) next).palette

      changes_both : (ds es : List Change) (now : Colors)
          → after_changes (ds ++ es) now ≡ after_changes es (after_changes ds now)
      changes_both [] es now = refl
      changes_both (d ∷ ds) es now = changes_both ds es (after_change now d)

      ends : after_changes (deliveries (c ∷ cs)) colors ≡ after_changes (deliveries cs) next
      ends = changes_both (delivery c) (deliveries cs) colors

      this : IsCarried colors.palette c
      this = All-head (IsCarried colors.palette) c cs carried

      first : Turned c.job this.actor colors.palette next.palette
      first = delivery_turns c.job this.actor this.is c.actor c.colors colors whole this.at this.own

      apart_rest : AllPairs AreOfOtherJobs cs
      apart_rest i j d low within =
          apart (suc i) (suc j) d (omega (arith, low)) (omega (arith, within))

      carried_rest : All (IsCarried next.palette) cs
      carried_rest k d within =
          carried_stays c.job this.actor this.is colors.palette next.palette first _
          (apart 0 (suc k) d (omega arith) (omega (arith, within)))
          (All-tail (IsCarried colors.palette) c cs carried k d within)

      same_actor : (d : Cargo) → Contains cs d → IsCarried colors.palette d
      same_actor d at =
          subst (IsCarried colors.palette) at.2
          (All-tail (IsCarried colors.palette) c cs carried at.0 d at.1)

      later : (d : Cargo) → Contains cs d → Contains (c ∷ cs) d
      later d at = (suc at.0, omega (arith, at.1), at.2)

      by : (owner_in next.palette n ≡ owner_in colors.palette n)
          ⊎ ((owner_in colors.palette n ≡ Some (owner.Job c.job)) × (owner_in next.palette n ≡ Some this.actor))
          → (owner_in end n ≡ owner_in next.palette n) ⊎ IsBrought cs next.palette end n
          → (owner_in end n ≡ owner_in colors.palette n) ⊎ IsBrought (c ∷ cs) colors.palette end n
      by (inl same) (inl still) = inl (still ∙ same)
      by (inr both) (inl still) = inr (record {
        one = c;
        among = (0, omega arith, refl);
        jobs = both.0;
        actor = this.actor;
        is = this.is;
        at = this.at;
        becomes = still ∙ both.1;
      })
      by (inl same) (inr b) =
          let d = same_actor b.one b.among in
          inr (record {
            one = b.one;
            among = later b.one b.among;
            jobs = sym same ∙ b.jobs;
            actor = d.actor;
            is = d.is;
            at = d.at;
            becomes = b.becomes ∙ sym b.at
                ∙ actor_stays c.job this.actor colors.palette next.palette first b.one.actor d.actor d.is d.at;
          })
      by (inr both) (inr b) = absurd (no_job this.actor this.is b.one.job (sym both.1 ∙ b.jobs))
