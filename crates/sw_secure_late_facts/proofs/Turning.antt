-- What the changes of a plan do to the hues of numbers: what is made leaves them, and the rest
-- touches no actor's and no other job's.
use Rattle.std.proofs.Common.{◌≡◌, ◌≢◌, ◌⊎◌, ◌<◌, inl, inr, ℕ, Option, Some, None, List, [], ◌∷◌}
use Rattle.std.proofs.Common.{◌++◌, refl, sym, subst, ap, ◌∙◌}
use Rattle.std.proofs.Common.{Contains, length}
use Rattle.std.specs.Option.{option_map, option_to_list}
use Rattle.std.proofs.lemmas.List.Elements.{All-head, All-tail, Contains-append_left}
use Rattle.std.proofs.lemmas.List.Elements.{Contains-append_right}
use Rattle.std.proofs.lemmas.List.Sums.{fold-append}
use Rattle.sw_list.proofs.Members.{in_one, none_in}
use Rattle.sw_graph.specs.declared.graph.Graph.{Graph}
use Rattle.sw_value.specs.declared.cell.HeapCell.{HeapCell}
use Rattle.sw_color_rules.specs.declared.colors.Colors.{Colors}
use Rattle.sw_color_rules.specs.declared.colors.Owner.{Owner}
use Rattle.sw_color_rules.specs.declared.colors.Palette.{Palette}
use Rattle.sw_color_rules.specs.declared.colors.Tint.{Tint}
use Rattle.sw_color_rules.specs.declared.plan.FrameChange.{FrameChange}
use Rattle.sw_color_rules.specs.declared.plan.FrameChange.TheVariants.{Stays, Pushed, Begun, Popped}
use Rattle.sw_color_rules.specs.declared.plan.Plan.{Plan}
use Rattle.sw_color_rules.specs.Changes.{Fresh, Mark, after_change, after_changes}
use Rattle.sw_color_rules.specs.Changes.{begin_heres, mark, pop_here, push_here}
use Rattle.sw_color_rules.specs.Palette.{IsWhole, fresh, hand_over}
use Rattle.sw_color_rules.specs.Plans.{frame_changes, makings, merges, next_color}
use Rattle.sw_color_rules.specs.Ranges.{AreBelow}
use Rattle.sw_color_rules.proofs.PaletteLemmas.{changes_whole}
use Rattle.sw_late_facts.specs.Hues.{hue}
use Rattle.sw_late_facts.specs.Late.{carrier, givings, late_by, later_of, merges_here}
use Rattle.sw_late_facts.proofs.HueLemmas.{fresh_stays, handed_goes, handed_stays}
use Rattle.sw_owner_facts.specs.Colours.{Actor, Colour, Instance, OfActor, OfJob}
use Rattle.sw_owner_facts.specs.Within.{Becomes}
use Rattle.sw_owner_facts.specs.View.{Frame as Spot}
use Rattle.sw_secure_facts.specs.Painting.{MayUnite}
use Rattle.sw_hue_facts.specs.Hued.{hues_of}
use Rattle.sw_hue_facts.specs.Tinted.{TintsFit}
use Rattle.sw_hue_facts.proofs.Counts.{handed_count, handed_whole}
use Rattle.sw_hue_facts.proofs.Handing.{givings_are, hand_all}
use Rattle.sw_hue_facts.proofs.Colours.{cases_among}
use Rattle.sw_hue_facts.proofs.Lists.{all_of}
use Rattle.sw_hue_facts.proofs.Meeting.{IsOneOf}
use Rattle.sw_hue_facts.proofs.Merging.{Merged, merge_all, merged_all}
use Rattle.sw_hue_facts.proofs.Retinted.{tints_handed, tints_merged}
use Rattle.sw_hue_facts.proofs.Uniting.{merges_are}
use Rattle.sw_secure_late_facts.proofs.Joining.{base_of}
use Rattle.sw_secure_late_facts.proofs.Same.{in_hues, may_unite_own}

same_job : (j m i l : ℕ) → OfJob j m ≡ OfJob i l → j ≡ i
same_job j m i l e = cc

-- The hues of one palette, and those of another, for which a job and perhaps an heir of it did
-- something. An actor's stays, and so does another job's, and nothing else becomes that.
pub record Renamed (job heir : ℕ) (one other : Palette) : Type 0 where
  pub actors : (n : ℕ) (a : Actor) → hue one n ≡ OfActor a → hue other n ≡ OfActor a
  pub fixed : (n j m : ℕ) → j ≢ job → j ≢ heir → hue one n ≡ OfJob j m → hue other n ≡ OfJob j m
  pub back : (n j m : ℕ) → j ≢ job → j ≢ heir → hue other n ≡ OfJob j m → hue one n ≡ OfJob j m

pub itself : (job heir : ℕ) (p : Palette) → Renamed job heir p p
itself job heir p = record {
  actors = λ n a is. is;
  fixed = λ n j m no_job no_heir is. is;
  back = λ n j m no_job no_heir is. is;
}

pub renamed_then : (job heir : ℕ) (p q r : Palette) → Renamed job heir p q → Renamed job heir q r
    → Renamed job heir p r
renamed_then job heir p q r one other = record {
  actors = λ n a is. other.actors n a (one.actors n a is);
  fixed = λ n j m no_job no_heir is. other.fixed n j m no_job no_heir
      (one.fixed n j m no_job no_heir is);
  back = λ n j m no_job no_heir is. one.back n j m no_job no_heir
      (other.back n j m no_job no_heir is);
}

-- the hues are the same
pub all_stay : (job heir : ℕ) (p q : Palette) → ((n : ℕ) → hue q n ≡ hue p n) → Renamed job heir p q
all_stay job heir p q same = record {
  actors = λ n a is. same n ∙ is;
  fixed = λ n j m no_job no_heir is. same n ∙ is;
  back = λ n j m no_job no_heir is. sym (same n) ∙ is;
}

-- ---- colours are handed over
-- an actor's, the job's, or the heir's already
abbrev pub MayHand : ℕ → ℕ → Colour → Type 0
MayHand job heir c = ((a : Actor) × (c ≡ OfActor a))
    ⊎ (((m : ℕ) × (c ≡ OfJob job m)) ⊎ ((m : ℕ) × (c ≡ OfJob heir m)))

module _ (job heir : ℕ) where
  -- a colour of one of the two becomes the heir's
  goes_over : (p q : Palette) (i number : ℕ) → (i ≡ job) ⊎ (i ≡ heir)
      → ((m : ℕ) → Becomes (OfJob i number) (OfJob heir number) (hue p m) (hue q m))
      → Renamed job heir p q
  goes_over p q i number ours becomes = record {
    actors = λ n a is. elim (becomes n) [
      | inl now ↦ absurd (let clash : OfActor a ≡ OfJob i number = sym is ∙ now.0 in
          let no : ⊥ = cc in no)
      | inr stays ↦ stays.1 ∙ is
    ];
    fixed = λ n j m no_job no_heir is. elim (becomes n) [
      | inl now ↦ absurd (other j no_job no_heir (same_job j m i number (sym is ∙ now.0)))
      | inr stays ↦ stays.1 ∙ is
    ];
    back = λ n j m no_job no_heir is. elim (becomes n) [
      | inl now ↦ absurd (no_heir (same_job j m heir number (sym is ∙ now.1)))
      | inr stays ↦ sym stays.1 ∙ is
    ];
  }
    where
      other : (j : ℕ) → j ≢ job → j ≢ heir → j ≡ i → ⊥
      other j no_job no_heir is = elim ours [
        | inl same ↦ no_job (is ∙ same)
        | inr same ↦ no_heir (is ∙ same)
      ]

  handed_one : (n : ℕ) (p : Palette) → IsWhole p → n < length p.names → MayHand job heir (hue p n)
      → Renamed job heir p (hand_over n heir p)
  handed_one n p whole inside (inl (a, is)) =
      all_stay job heir p (hand_over n heir p) (handed_stays n heir p whole a is)
  handed_one n p whole inside (inr (inl (m, is))) =
      goes_over p (hand_over n heir p) job m (inl refl) (handed_goes n heir p whole inside job m is)
  handed_one n p whole inside (inr (inr (m, is))) =
      goes_over p (hand_over n heir p) heir m (inr refl)
      (handed_goes n heir p whole inside heir m is)

  -- what may go may still
  still_may : (n : ℕ) (p : Palette) → IsWhole p → n < length p.names → MayHand job heir (hue p n)
      → (m : ℕ) → MayHand job heir (hue p m) → MayHand job heir (hue (hand_over n heir p) m)
  still_may n p whole inside (inl (a, is)) m may =
      subst (MayHand job heir) (sym (handed_stays n heir p whole a is m)) may
  still_may n p whole inside (inr (inl (l, is))) m may =
      elim (handed_goes n heir p whole inside job l is m) [
        | inl now ↦ inr (inr (l, now.1))
        | inr stays ↦ subst (MayHand job heir) (sym stays.1) may
      ]
  still_may n p whole inside (inr (inr (l, is))) m may =
      elim (handed_goes n heir p whole inside heir l is m) [
        | inl now ↦ inr (inr (l, now.1))
        | inr stays ↦ subst (MayHand job heir) (sym stays.1) may
      ]

  handed_all : (ns : List ℕ) (p : Palette) → IsWhole p → AreBelow (length p.names) ns
      → ((n : ℕ) → Contains ns n → MayHand job heir (hue p n)) → Renamed job heir p
      (hand_all heir ns p)
  handed_all [] p whole below may = itself job heir p
  handed_all (n ∷ ns) p whole below may =
      let inside = All-head (λ m. m < length p.names) n ns below in
      let goes = may n (Contains-append_left (n ∷ []) ns n (in_one n)) in
      renamed_then job heir p (hand_over n heir p) (hand_all heir ns (hand_over n heir p))
      (handed_one n p whole inside goes)
      (handed_all ns (hand_over n heir p) (handed_whole n heir p whole)
      (subst (λ count. AreBelow count ns) (sym (handed_count n heir p))
      (All-tail (λ m. m < length p.names) n ns below))
      (λ m has. still_may n p whole inside goes m
      (may m (Contains-append_right (n ∷ []) ns m has))))

handed_names : (heir : ℕ) (ns : List ℕ) (p : Palette)
    → length (hand_all heir ns p).names ≡ length p.names
handed_names heir [] p = refl
handed_names heir (n ∷ ns) p = handed_names heir ns (hand_over n heir p) ∙ handed_count n heir p

-- ---- colours become one
-- the colours that are not the job's are one actor's
one_actor : (q : Spot) (p : Palette) (ns : List ℕ) → MayUnite q (hues_of p ns) → (n : ℕ) → Contains
    ns n
    → (a : Actor) × ((m : ℕ) → Contains ns m → IsOneOf q.job a (hue p m))
one_actor q p ns (inl none) n has = absurd (none_in (hue p n)
    (subst (λ l. Contains l (hue p n)) none
    (in_hues p ns n has)))
one_actor q p ns (inr (kept, among, others, inl (a, is))) n has = (
  a,
  λ m here. elim (others (hue p m) (in_hues p ns m here)) [
    | inl same ↦ inl (same ∙ is)
    | inr owned ↦ inr owned
  ],
)
one_actor q p ns (inr (kept, among, others, inr (l, is))) n has = (
  Instance 0,
  λ m here. elim (others (hue p m) (in_hues p ns m here)) [
    | inl same ↦ inr (l, same ∙ is)
    | inr owned ↦ inr owned
  ],
)

merged_hues : (job heir : ℕ) (a : Actor) (joined : List Colour) (k : Colour) (p q : Palette)
    → Merged heir a joined k p q → Renamed job heir p q
merged_hues job heir a joined k p q merged = record {
  actors = λ n b is. elim (cases_among (hue p n) joined) [
    | inr lacks ↦ merged.stays n lacks ∙ is
    | inl has ↦ merged.moves n has ∙ elim (merged.others (hue p n) has) [
      | inl same ↦ sym same ∙ is
      | inr (l, owned) ↦ absurd (let clash : OfActor b ≡ OfJob heir l = sym is ∙ owned in
          let none : ⊥ = cc in none)
    ]
  ];
  fixed = λ n j m no_job no_heir is. elim (cases_among (hue p n) joined) [
    | inr lacks ↦ merged.stays n lacks ∙ is
    | inl has ↦ merged.moves n has ∙ elim (merged.others (hue p n) has) [
      | inl same ↦ sym same ∙ is
      | inr (l, owned) ↦ absurd (no_heir (same_job j m heir l (sym is ∙ owned)))
    ]
  ];
  back = λ n j m no_job no_heir is. elim (cases_among (hue p n) joined) [
    | inr lacks ↦ sym (merged.stays n lacks) ∙ is
    | inl has ↦ absurd (kept_not n j m no_heir (sym (merged.moves n has) ∙ is) merged.one)
  ];
}
  where
    kept_not : (n j m : ℕ) → j ≢ heir → k ≡ OfJob j m → IsOneOf heir a k → ⊥
    kept_not n j m no_heir is (inl actor) =
        let clash : OfActor a ≡ OfJob j m = sym actor ∙ is in let none : ⊥ = cc in none
    kept_not n j m no_heir is (inr (l, owned)) =
        no_heir (same_job j m heir l (sym is ∙ owned))

-- colours that merge, and may become one
pub merges_renamed : (job : ℕ) (q : Spot) (ns : List ℕ) (colors : Colors) → IsWhole colors.palette
    → AreBelow (next_color colors) ns → MayUnite q (hues_of colors.palette ns)
    → Renamed job q.job colors.palette (after_changes (merges ns) colors).palette
merges_renamed job q [] colors whole below may = itself job q.job colors.palette
merges_renamed job q (n ∷ ns) colors whole below may =
    let one = one_actor q colors.palette (n ∷ ns) may n
    (Contains-append_left (n ∷ []) ns n (in_one n)) in
    let all = all_of (λ m. IsOneOf q.job one.0 (hue colors.palette m)) (n ∷ ns) one.1 in
    let last = merged_all q.job one.0 colors.palette n
    (All-head (λ m. m < next_color colors) n ns below) whole ns
    (All-tail (λ m. m < next_color colors) n ns below)
    (All-head (λ m. IsOneOf q.job one.0 (hue colors.palette m)) n ns all)
    (All-tail (λ m. IsOneOf q.job one.0 (hue colors.palette m)) n ns all) in
    subst (λ (c : Colors). Renamed job q.job colors.palette c.palette)
    (sym (merges_are n ns colors))
    (merged_hues job q.job one.0 (hues_of colors.palette (n ∷ ns)) last.0 colors.palette
    (merge_all n ns colors.palette) last.1)

-- ---- what is made
abbrev fresh_with : Option Owner → Palette → Palette
fresh_with None p = p
fresh_with (Some o) p = fresh o p

framed : (job : ℕ) (change : FrameChange) (colors : Colors)
    → (after_changes (frame_changes job change) colors).palette ≡ colors.palette
unfolding push_here begin_heres pop_here
framed job Stays colors = refl
framed job (Pushed n) colors = refl
framed job (Begun n) colors = refl
framed job Popped colors = refl

marked : (job : ℕ) (change : FrameChange) (tint : Option Tint) (colors : Colors)
    → (after_changes (option_to_list (option_map Mark tint) ++ frame_changes job change)
    colors).palette
    ≡ colors.palette
unfolding mark
marked job change None colors = framed job change colors
marked job change (Some t) colors = framed job change (mark t colors)

palette_made : (job : ℕ) (plan : Plan) (colors : Colors)
    → (base_of job plan colors).palette ≡ fresh_with plan.fresh colors.palette
palette_made job plan colors = by plan.fresh where
  by : (o : Option Owner) → (after_changes (option_to_list (option_map Fresh o)
      ++ (option_to_list (option_map Mark plan.tint) ++ frame_changes job plan.frame))
      colors).palette
      ≡ fresh_with o colors.palette
  by None = marked job plan.frame plan.tint colors
  by (Some o) = marked job plan.frame plan.tint (after_change colors (Fresh o))

-- what is made leaves hues as they are
pub hues_made : (job : ℕ) (plan : Plan) (colors : Colors) → IsWhole colors.palette → (n : ℕ)
    → n < next_color colors → hue (base_of job plan colors).palette n ≡ hue colors.palette n
hues_made job plan colors whole n inside = ap (λ p. hue p n) (palette_made job plan colors) ∙ by
    plan.fresh
  where
    by : (o : Option Owner) → hue (fresh_with o colors.palette) n ≡ hue colors.palette n
    by None = refl
    by (Some o) = fresh_stays o colors.palette whole n inside

-- ---- a plan
-- the colours once what a task takes is the new job's
abbrev pub given_of : ℕ → Plan → Colors → Colors
given_of job plan colors =
    after_changes (givings plan.heir (later_of plan.joined)) (base_of job plan colors)

-- whose the colours are that become one
abbrev pub joiner : ℕ → Plan → Spot
joiner job plan = record { job = carrier job plan.heir; depth = 0 }

-- What a plan joins was made, and may become one unless it goes to an actor first.
pub record PlanJoins (job : ℕ) (colors : Colors) (plan : Plan) (to : Option ℕ) : Type 0 where
  pub below : AreBelow (next_color (base_of job plan colors)) plan.joined
  pub gives : (heir : ℕ) → plan.heir ≡ Some heir → (n : ℕ) → Contains (later_of plan.joined) n
      → MayHand job heir (hue (base_of job plan colors).palette n)
  pub may : to ≡ None → MayUnite (joiner job plan)
      (hues_of (given_of job plan colors).palette plan.joined)

later_below : (count : ℕ) (ns : List ℕ) → AreBelow count ns → AreBelow count (later_of ns)
later_below count [] below = below
later_below count (n ∷ ns) below = All-tail (λ m. m < count) n ns below

module _ (job : ℕ) (colors : Colors) (plan : Plan) (to : Option ℕ)
    (joins : PlanJoins job colors plan to) (whole : IsWhole colors.palette) where
  abbrev base : Colors
  base = base_of job plan colors

  abbrev given : Colors
  given = given_of job plan colors

  abbrev after : Colors
  after = after_changes (late_by job plan to) colors

  pub changed : after ≡ after_changes (merges_here to plan.joined) given
  changed =
      fold-append after_change colors (makings job plan)
      (givings plan.heir (later_of plan.joined) ++ merges_here to plan.joined)
      ∙ fold-append after_change base (givings plan.heir (later_of plan.joined))
      (merges_here to plan.joined)

  base_whole : IsWhole base.palette
  base_whole = changes_whole (makings job plan) colors whole

  given_whole : IsWhole given.palette
  given_whole = changes_whole (givings plan.heir (later_of plan.joined)) base base_whole

  -- what is given
  given_renamed : Renamed job (carrier job plan.heir) base.palette given.palette
  given_renamed = by plan.heir joins.gives where
    by : (o : Option ℕ) → ((heir : ℕ) → o ≡ Some heir → (n : ℕ) → Contains (later_of plan.joined) n
        → MayHand job heir (hue base.palette n)) → Renamed job (carrier job o) base.palette
        (after_changes (givings o (later_of plan.joined)) base).palette
    by None may = itself job job base.palette
    by (Some heir) may = subst (λ (c : Colors). Renamed job heir base.palette c.palette)
        (sym (givings_are heir (later_of plan.joined) base))
        (handed_all job heir (later_of plan.joined) base.palette base_whole
        (later_below (next_color base) plan.joined joins.below) (may heir refl))

  given_count : next_color given ≡ next_color base
  given_count = by plan.heir where
    by : (o : Option ℕ)
        → next_color (after_changes (givings o (later_of plan.joined)) base) ≡ next_color base
    by None = refl
    by (Some heir) = ap next_color (givings_are heir (later_of plan.joined) base)
        ∙ handed_names heir (later_of plan.joined) base.palette

  given_below : AreBelow (next_color given) plan.joined
  given_below = subst (λ count. AreBelow count plan.joined) (sym given_count) joins.below

  -- what merges
  merged_renamed : Renamed job (carrier job plan.heir) given.palette after.palette
  merged_renamed = subst (λ (c : Colors). Renamed job (carrier job plan.heir) given.palette
      c.palette)
      (sym changed) (by to refl)
    where
      by : (o : Option ℕ) → to ≡ o → Renamed job (carrier job plan.heir) given.palette
          (after_changes (merges_here o plan.joined) given).palette
      by (Some a) is = itself job (carrier job plan.heir) given.palette
      by None is = merges_renamed job (joiner job plan) plan.joined given given_whole given_below
          (joins.may is)

  -- what was made before has its actor's or its job's hue, unless a job has to do with it that acts
  pub plan_renamed : Renamed job (carrier job plan.heir) base.palette after.palette
  plan_renamed = renamed_then job (carrier job plan.heir) base.palette given.palette after.palette
      given_renamed merged_renamed

  -- tints go on to fit
  pub tints_turned : (graph : Graph) (cells : List HeapCell) → TintsFit graph cells base
      → TintsFit graph cells after
  tints_turned graph cells fit = subst (TintsFit graph cells) (sym changed)
      (by to refl plan.joined given_below joins.may (handed plan.heir))
    where
      handed : (o : Option ℕ)
          → TintsFit graph cells (after_changes (givings o (later_of plan.joined)) base)
      handed None = fit
      handed (Some heir) = tints_handed graph cells heir (later_of plan.joined) base base_whole
          (later_below (next_color base) plan.joined joins.below) fit

      by : (o : Option ℕ) → to ≡ o → (ns : List ℕ) → AreBelow (next_color given) ns
          → (to ≡ None → MayUnite (joiner job plan) (hues_of given.palette ns))
          → TintsFit graph cells given → TintsFit graph cells
          (after_changes (merges_here o ns) given)
      by (Some a) is ns below may fits = fits
      by None is [] below may fits = fits
      by None is (n ∷ ns) below may fits =
          tints_merged graph cells (joiner job plan) n ns given given_whole below (may is)
          (λ m has. may_unite_own (joiner job plan) (hues_of given.palette (n ∷ ns)) (may is)
          (hue given.palette m) (in_hues given.palette (n ∷ ns) m has)) fits
