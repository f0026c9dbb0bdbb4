-- What each change of a palette does to hues.
use Rattle.std.proofs.Common.{◌≡◌, ◌≢◌, ◌⊎◌, ℕ, ◌<◌, min, max, arith, refl, ap, sym, ◌∙◌, inl, inr, subst}
use Rattle.std.proofs.Common.{Bool, true, false, cond, Option, Some, None, length, slice_get, get_or}
use Rattle.std.specs.Prelude.{option_map, ◌==◌, if◌then◌else◌}
use Rattle.std.proofs.lemmas.Bool.{cases_eq}
use Rattle.std.proofs.lemmas.Option.{slice_get-get_or}
use Rattle.sw_owner_facts.specs.Colours.{Actor, OfJob, OfActor}
use Rattle.sw_owner_facts.specs.Within.{Becomes}
use Rattle.sw_color_rules.specs.declared.colors.Owner.{Owner}
use Rattle.sw_color_rules.specs.declared.colors.Owner.TheVariants.{Job, ActorOf, Global}
use Rattle.sw_color_rules.specs.declared.colors.Palette.{Palette}
use Rattle.sw_color_rules.specs.Names.{name_in}
use Rattle.sw_color_rules.specs.Palette.{owner_in, united, united_as, handed_to, fresh, merge, merged_by}
use Rattle.sw_color_rules.specs.Palette.{hand_over, IsWhole}
use Rattle.sw_late_facts.specs.Hues.{hue_by, hue, GivesWay}
use Rattle.sw_late_facts.proofs.Names.{joined, joined_first, joined_second, joined_other}
use Rattle.sw_late_facts.proofs.Sights.{Sight, if_same, if_other, owner_met, met, met_first, met_second}
use Rattle.sw_late_facts.proofs.Sights.{met_other}
use Rattle.sw_late_facts.proofs.Palettes.{sight_as, sight_fresh, sight_merge, sight_handed}
use Rattle.sw_late_facts.proofs.Seen.{ltb_not}

-- ---- owners as they are
abbrev itself : Option Owner → Option Owner
itself o = o

abbrev owner_united : Option Owner → Option Owner → Option Owner
owner_united (Some low) (Some high) = Some (united low high)
owner_united (Some low) None = Some low
owner_united None high = None

abbrev owner_handed : ℕ → Option Owner → Option Owner
owner_handed j o = option_map (handed_to j) o

unites : (low high : Owner) → Some (united low high) ≡ owner_united (Some low) (Some high)
unites low high = refl

hands : (j : ℕ) (o : Option Owner) → option_map (handed_to j) o ≡ owner_handed j o
hands j o = refl

-- a job's hue has its number
hue_number : (o : Option Owner) (n job l : ℕ) → hue_by o n ≡ OfJob job l → n ≡ l
hue_number (Some (Job j)) n job l e = cc
hue_number (Some (ActorOf c)) n job l e = cc
hue_number (Some (Global g)) n job l e = cc
hue_number None n job l e = cc

there : (p : Palette) → IsWhole p → (n : ℕ) → n < length p.names → owner_in p n ≡ None → ⊥
there p whole n inside e =
    let some = slice_get-get_or p.owners (name_in p.names n) (Job 0)
    (omega (arith, whole.owned, whole.lower n, inside)) in
    let clash : Some (get_or p.owners (name_in p.names n) (Job 0)) ≡ None = sym some ∙ e in cc clash

-- ---- two colours merge
-- where one gives way
met_hue : (x y : ℕ) (one other : Option Owner) → (x ≡ y → one ≡ other) → (one ≡ None → ⊥)
    → (other ≡ None → ⊥) → GivesWay (hue_by one x) (hue_by other y)
    → hue_by (owner_met owner_united x y one other) (min x y) ≡ hue_by other y
met_hue x y None other same one_there other_there goes = absurd (one_there refl)
met_hue x y (Some (ActorOf c)) other same one_there other_there goes = absurd goes
met_hue x y (Some (Global g)) other same one_there other_there goes = absurd goes
met_hue x y (Some (Job j)) None same one_there other_there goes = absurd (other_there refl)
met_hue x y (Some (Job j)) (Some (Job k)) same one_there other_there goes =
    ap (λ o. hue_by o (min x y)) (if_other x y _ _ (λ e. absurd (omega (arith, e, goes.1)))
    ∙ ap (λ t. cond t (Some (Job k)) (Some (Job j))) (ltb_not x y (omega (arith, goes.1))))
    ∙ ap (OfJob j) (let low : min x y ≡ y = omega (arith, goes.1) in low)
    ∙ ap (λ i. OfJob i y) goes.0
met_hue x y (Some (Job j)) (Some (ActorOf c)) same one_there other_there goes =
    ap (λ o. hue_by o (min x y)) (if_other x y _ _ (λ e. let h = same e in cc) ∙ by _) where
      by : (t : Bool) → cond t (Some (ActorOf c)) (Some (ActorOf c)) ≡ Some (ActorOf c)
      by true = refl
      by false = refl
met_hue x y (Some (Job j)) (Some (Global g)) same one_there other_there goes =
    ap (λ o. hue_by o (min x y)) (if_other x y _ _ (λ e. let h = same e in cc) ∙ by _) where
      by : (t : Bool) → cond t (Some (Global g)) (Some (Global g)) ≡ Some (Global g)
      by true = refl
      by false = refl

module _ (a b : ℕ) (p : Palette) (whole : IsWhole p) (a_in : a < length p.names)
    (b_in : b < length p.names) where
  abbrev s : Sight (Option Owner)
  s = sight_as itself p

  merged : sight_as itself (merge a b p) ≡ met owner_united a b s
  merged = sight_merge itself owner_united owner_handed unites hands a b p whole a_in b_in

  after : (n : ℕ) → hue (merge a b p) n
      ≡ hue_by ((met owner_united a b s).owner n) (joined (s.name a) (s.name b) (s.name n))
  after n = ap (λ (t : Sight (Option Owner)). hue_by (t.owner n) (t.name n)) merged

  by_name : (m n : ℕ) → s.name m ≡ s.name n → hue p m ≡ hue p n
  by_name m n e = ap (λ k. hue_by (slice_get p.owners k) k) e

  after_first : (n : ℕ) → s.name n ≡ s.name a → hue (merge a b p) n
      ≡ hue_by (owner_met owner_united (s.name a) (s.name b) (s.owner a) (s.owner b))
      (min (s.name a) (s.name b))
  after_first n e =
      after n
      ∙ ap (λ o. hue_by o (joined (s.name a) (s.name b) (s.name n))) (met_first owner_united a b s n e)
      ∙ ap (hue_by (owner_met owner_united (s.name a) (s.name b) (s.owner a) (s.owner b)))
      (joined_first (s.name a) (s.name b) (s.name n) e)

  after_second : (n : ℕ) → s.name n ≡ s.name b → hue (merge a b p) n
      ≡ hue_by (owner_met owner_united (s.name a) (s.name b) (s.owner a) (s.owner b))
      (min (s.name a) (s.name b))
  after_second n e =
      after n
      ∙ ap (λ o. hue_by o (joined (s.name a) (s.name b) (s.name n))) (met_second owner_united a b s n e)
      ∙ ap (hue_by (owner_met owner_united (s.name a) (s.name b) (s.owner a) (s.owner b)))
      (joined_second (s.name a) (s.name b) (s.name n) e)

  after_other : (n : ℕ) → s.name n ≢ s.name a → s.name n ≢ s.name b → hue (merge a b p) n ≡ hue p n
  after_other n no_a no_b =
      after n
      ∙ ap (λ o. hue_by o (joined (s.name a) (s.name b) (s.name n)))
      (met_other owner_united a b s n no_a no_b)
      ∙ ap (hue_by (s.owner n)) (joined_other (s.name a) (s.name b) (s.name n) no_a no_b)

  pub merge_goes : (job number : ℕ) → hue p a ≡ OfJob job number → GivesWay (hue p a) (hue p b)
      → (n : ℕ) → Becomes (OfJob job number) (hue p b) (hue p n) (hue (merge a b p) n)
  merge_goes job number is goes n = by (cases_eq (s.name n) (s.name a)) (cases_eq (s.name n) (s.name b))
    where
      kept : hue_by (owner_met owner_united (s.name a) (s.name b) (s.owner a) (s.owner b))
          (min (s.name a) (s.name b)) ≡ hue p b
      kept = met_hue (s.name a) (s.name b) (s.owner a) (s.owner b)
          (λ e. ap (slice_get p.owners) e) (there p whole a a_in) (there p whole b b_in) goes

      a_number : s.name a ≡ number
      a_number = hue_number (s.owner a) (s.name a) job number is

      not_lost : s.name n ≢ s.name a → hue p n ≢ OfJob job number
      not_lost apart e = apart (hue_number (s.owner n) (s.name n) job number e ∙ sym a_number)

      by : (s.name n ≡ s.name a) ⊎ (s.name n ≢ s.name a) → (s.name n ≡ s.name b) ⊎ (s.name n ≢ s.name b)
          → Becomes (OfJob job number) (hue p b) (hue p n) (hue (merge a b p) n)
      by (inl e) _ = inl (by_name n a e ∙ is, after_first n e ∙ kept)
      by (inr apart) (inl e) =
          inr (not_lost apart, after_second n e ∙ kept ∙ sym (by_name n b e))
      by (inr no_a) (inr no_b) = inr (not_lost no_a, after_other n no_a no_b)

-- the order of two colours doesn't matter
merge_swaps : (a b : ℕ) (p : Palette) → merge a b p ≡ merge b a p
unfolding merge
merge_swaps a b p = swaps (name_in p.names a) (name_in p.names b) where
  swaps : (x y : ℕ) → merged_by x y p ≡ merged_by y x p
  swaps x y = elim (cases_eq x y) [
    | inl e ↦ if_same x y _ _ e ∙ sym (if_same y x _ _ (sym e))
    | inr e ↦
        if_other x y _ _ e
        ∙ ap (λ l. united_as l (max x y) p) (let low : min x y ≡ min y x = omega arith in low)
        ∙ ap (λ h. united_as (min y x) h p) (let high : max x y ≡ max y x = omega arith in high)
        ∙ sym (if_other y x _ _ (λ f. e (sym f)))
  ]

pub merge_comes : (a b : ℕ) (p : Palette) → IsWhole p → a < length p.names → b < length p.names
    → (job number : ℕ) → hue p b ≡ OfJob job number → GivesWay (hue p b) (hue p a)
    → (n : ℕ) → Becomes (OfJob job number) (hue p a) (hue p n) (hue (merge a b p) n)
merge_comes a b p whole a_in b_in job number is goes n =
    subst (λ q. Becomes (OfJob job number) (hue p a) (hue p n) (hue q n)) (merge_swaps b a p)
    (merge_goes b a p whole b_in a_in job number is goes n)

-- ---- two colours with one hue
alike_met : (x y : ℕ) (one other : Option Owner) → (x ≡ y → one ≡ other) → (one ≡ None → ⊥)
    → (other ≡ None → ⊥) → hue_by one x ≡ hue_by other y
    → hue_by (owner_met owner_united x y one other) (min x y) ≡ hue_by one x
alike_met x y one other same one_there other_there e = elim (cases_eq x y) [
  | inl is ↦
      ap (λ o. hue_by o (min x y)) (if_same x y _ _ is)
      ∙ ap (hue_by one) (let low : min x y ≡ x = omega (arith, is) in low)
  | inr differ ↦ ap (λ o. hue_by o (min x y)) (if_other x y _ _ differ) ∙ by one other one_there other_there e differ _
] where
  by : (one other : Option Owner) → (one ≡ None → ⊥) → (other ≡ None → ⊥)
      → hue_by one x ≡ hue_by other y → x ≢ y → (t : Bool)
      → hue_by (cond t (owner_united one other) (owner_united other one)) (min x y) ≡ hue_by one x
  by None other a b h differ t = absurd (a refl)
  by (Some o) None a b h differ t = absurd (b refl)
  by (Some (Job j)) (Some o) a b h differ t =
      absurd (differ (sym (hue_number (Some o) y j x (sym h))))
  by (Some (ActorOf c)) (Some (Job j)) a b h differ t = cc
  by (Some (ActorOf c)) (Some (ActorOf d)) a b h differ true = refl
  by (Some (ActorOf c)) (Some (ActorOf d)) a b h differ false = sym h
  by (Some (ActorOf c)) (Some (Global g)) a b h differ t = cc
  by (Some (Global g)) (Some (Job j)) a b h differ t = cc
  by (Some (Global g)) (Some (ActorOf d)) a b h differ t = cc
  by (Some (Global g)) (Some (Global k)) a b h differ true = refl
  by (Some (Global g)) (Some (Global k)) a b h differ false = sym h

pub merge_same : (a b : ℕ) (p : Palette) → IsWhole p → a < length p.names → b < length p.names
    → hue p a ≡ hue p b → (n : ℕ) → hue (merge a b p) n ≡ hue p n
merge_same a b p whole a_in b_in e n =
    by (cases_eq (name_in p.names n) (name_in p.names a)) (cases_eq (name_in p.names n) (name_in p.names b))
  where
    kept : hue_by (owner_met owner_united (name_in p.names a) (name_in p.names b) (owner_in p a)
        (owner_in p b)) (min (name_in p.names a) (name_in p.names b)) ≡ hue p a
    kept = alike_met (name_in p.names a) (name_in p.names b) (owner_in p a) (owner_in p b)
        (λ f. ap (slice_get p.owners) f) (there p whole a a_in) (there p whole b b_in) e

    by : (name_in p.names n ≡ name_in p.names a) ⊎ (name_in p.names n ≢ name_in p.names a)
        → (name_in p.names n ≡ name_in p.names b) ⊎ (name_in p.names n ≢ name_in p.names b)
        → hue (merge a b p) n ≡ hue p n
    by (inl f) _ =
        after_first a b p whole a_in b_in n f ∙ kept
        ∙ sym (by_name a b p whole a_in b_in n a f)
    by (inr apart) (inl f) =
        after_second a b p whole a_in b_in n f ∙ kept ∙ e
        ∙ sym (by_name a b p whole a_in b_in n b f)
    by (inr no_a) (inr no_b) = after_other a b p whole a_in b_in n no_a no_b

-- ---- a colour is handed over
module _ (n job : ℕ) (p : Palette) (whole : IsWhole p) where
  handed : (m : ℕ) → hue (hand_over n job p) m
      ≡ hue_by (if name_in p.names m == name_in p.names n then owner_handed job (owner_in p m)
      else owner_in p m) (name_in p.names m)
  handed m = ap (λ (t : Sight (Option Owner)). hue_by (t.owner m) (t.name m))
      (sight_handed itself owner_united owner_handed unites hands n job p whole)

  handed_there : (m : ℕ) → name_in p.names m ≡ name_in p.names n → hue (hand_over n job p) m
      ≡ hue_by (owner_handed job (owner_in p n)) (name_in p.names n)
  handed_there m e =
      handed m ∙ ap (λ o. hue_by o (name_in p.names m)) (if_same (name_in p.names m) (name_in p.names n) _ _ e)
      ∙ ap (λ k. hue_by (owner_handed job (slice_get p.owners k)) k) e

  handed_apart : (m : ℕ) → name_in p.names m ≢ name_in p.names n → hue (hand_over n job p) m ≡ hue p m
  handed_apart m e =
      handed m ∙ ap (λ o. hue_by o (name_in p.names m)) (if_other (name_in p.names m) (name_in p.names n) _ _ e)

  pub handed_goes : n < length p.names → (i number : ℕ) → hue p n ≡ OfJob i number
      → (m : ℕ) → Becomes (OfJob i number) (OfJob job number) (hue p m) (hue (hand_over n job p) m)
  handed_goes inside i number is m = elim (cases_eq (name_in p.names m) (name_in p.names n)) [
    | inl e ↦ inl (
      ap (λ k. hue_by (slice_get p.owners k) k) e ∙ is,
      handed_there m e ∙ by (owner_in p n) (there p whole n inside) is,
    )
    | inr e ↦ inr (
      λ f. e (hue_number (owner_in p m) (name_in p.names m) i number f
          ∙ sym (hue_number (owner_in p n) (name_in p.names n) i number is)),
      handed_apart m e,
    )
  ] where
    by : (o : Option Owner) → (o ≡ None → ⊥) → hue_by o (name_in p.names n) ≡ OfJob i number
        → hue_by (owner_handed job o) (name_in p.names n) ≡ OfJob job number
    by None is_there h = absurd (is_there refl)
    by (Some (Job j)) is_there h =
        ap (OfJob job) (hue_number (Some (Job j)) (name_in p.names n) i number h)
    by (Some (ActorOf c)) is_there h = cc
    by (Some (Global g)) is_there h = cc

  pub handed_stays : (actor : Actor) → hue p n ≡ OfActor actor → (m : ℕ)
      → hue (hand_over n job p) m ≡ hue p m
  handed_stays actor is m = elim (cases_eq (name_in p.names m) (name_in p.names n)) [
    | inl e ↦ handed_there m e ∙ by (owner_in p n) is
        ∙ sym (ap (λ k. hue_by (slice_get p.owners k) k) e)
    | inr e ↦ handed_apart m e
  ] where
    by : (o : Option Owner) → hue_by o (name_in p.names n) ≡ OfActor actor
        → hue_by (owner_handed job o) (name_in p.names n) ≡ hue_by o (name_in p.names n)
    by None h = cc
    by (Some (Job j)) h = cc
    by (Some (ActorOf c)) h = refl
    by (Some (Global g)) h = refl

-- ---- a colour is made
pub fresh_stays : (o : Owner) (p : Palette) → IsWhole p → (n : ℕ) → n < length p.names
    → hue (fresh o p) n ≡ hue p n
fresh_stays o p whole n inside =
    ap (λ (t : Sight (Option Owner)). hue_by (t.owner n) (t.name n))
    (sight_fresh itself owner_united owner_handed unites hands o p whole)
    ∙ ap (λ q. hue_by q (name_in p.names n))
    (if_other n (length p.names) _ _ (λ e. absurd (omega (arith, e, inside))))
