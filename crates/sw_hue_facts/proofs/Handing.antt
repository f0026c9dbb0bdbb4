-- Colours that are handed over by number are handed over by hue.
use Rattle.std.proofs.Common.{◌≡◌, ◌⊎◌, ◌<◌, ℕ, Some, List, [], ◌∷◌, length, Contains}
use Rattle.std.proofs.Common.{refl, sym, subst, ap, ◌∙◌, inl, inr}
use Rattle.std.proofs.lemmas.Bool.{cases_eq}
use Rattle.std.proofs.lemmas.List.Elements.{All-head, All-tail}
use Rattle.sw_list.proofs.Members.{first_or_later, none_in}
use Rattle.sw_color_rules.specs.declared.colors.Colors.{Colors}
use Rattle.sw_color_rules.specs.declared.colors.Palette.{Palette}
use Rattle.sw_color_rules.specs.Changes.{after_changes, on_palette}
use Rattle.sw_color_rules.specs.Palette.{IsWhole, hand_over}
use Rattle.sw_color_rules.specs.Ranges.{AreBelow}
use Rattle.sw_late_facts.specs.Hues.{hue}
use Rattle.sw_late_facts.specs.Late.{givings}
use Rattle.sw_late_facts.proofs.HueLemmas.{handed_goes, handed_stays}
use Rattle.sw_owner_facts.specs.Colours.{Actor, Colour, OfActor, OfJob}
use Rattle.sw_owner_facts.specs.Within.{Becomes}
use Rattle.sw_secure_facts.specs.Painting.{handed}
use Rattle.sw_view_facts.specs.Renaming.{renames}
use Rattle.sw_view_facts.specs.Views.{Colours}
use Rattle.sw_view_facts.proofs.RenameLemmas.{becomes, of_map}
use Rattle.sw_hue_facts.specs.Hued.{hued, hues_of}
use Rattle.sw_hue_facts.proofs.Colours.{hued_alike, hued_renamed}
use Rattle.sw_hue_facts.proofs.Counts.{handed_count, handed_whole}
use Rattle.sw_hue_facts.proofs.Lists.{first_in, in_map, later_in, map_same}

-- a renaming is what becomes of a colour
pub renaming : (job l : ℕ) (kept c d : Colour) → Becomes (OfJob job l) kept c d
    → d ≡ renames job l kept c
renaming job l kept c d (inl now) = elim (becomes job l kept c) [
  | inl both ↦ now.1 ∙ sym both.1
  | inr other ↦ absurd (other.0 now.0)
]
renaming job l kept c d (inr stays) = elim (becomes job l kept c) [
  | inl both ↦ absurd (stays.0 both.0)
  | inr other ↦ stays.1 ∙ sym other.1
]

itself : (lost c d : Colour) → Becomes lost lost c d → d ≡ c
itself lost c d (inl now) = now.1 ∙ sym now.0
itself lost c d (inr stays) = stays.1

-- each of these is handed over
abbrev pub hand_all : ℕ → List ℕ → Palette → Palette
hand_all heir [] p = p
hand_all heir (n ∷ ns) p = hand_all heir ns (hand_over n heir p)

pub givings_are : (heir : ℕ) (ns : List ℕ) (colors : Colors)
    → after_changes (givings (Some heir) ns) colors ≡ on_palette (hand_all heir ns) colors
givings_are heir [] colors = refl
givings_are heir (n ∷ ns) colors = givings_are heir ns _

module _ (job heir : ℕ) where
  -- an actor's, the job's, or the heir's already
  abbrev MayGo : Colour → Type 0
  MayGo c = ((a : Actor) × (c ≡ OfActor a))
      ⊎ (((m : ℕ) × (c ≡ OfJob job m)) ⊎ ((m : ℕ) × (c ≡ OfJob heir m)))

  -- What is given is the numbers of the job's colours among these.
  record Gives (cs : List Colour) (before after : Colours) : Type 0 where
    given : List ℕ
    only : (m : ℕ) → Contains given m → Contains cs (OfJob job m)
    each : (m : ℕ) → Contains cs (OfJob job m) → Contains given m
    is : after ≡ handed job heir given before

  none : (colours : Colours) → Gives [] colours colours
  none colours = record {
    given = [];
    only = λ m has. absurd (none_in m has);
    each = λ m has. absurd (none_in (OfJob job m) has);
    is = refl;
  }

  -- a colour more that isn't the job's
  passes : (c : Colour) (cs ds : List Colour) (before middle after : Colours)
      → ((m : ℕ) → c ≡ OfJob job m → ⊥) → cs ≡ ds → middle ≡ before
      → Gives ds middle after → Gives (c ∷ cs) before after
  passes c cs ds before middle after differs same stays gives = record {
    given = gives.given;
    only = λ m has. later_in c cs (OfJob job m)
        (subst (λ l. Contains l (OfJob job m)) (sym same) (gives.only m has));
    each = λ m has. elim (first_or_later c cs (OfJob job m) has) [
      | inl is ↦ absurd (differs m is)
      | inr later ↦ gives.each m (subst (λ l. Contains l (OfJob job m)) same later)
    ];
    is = gives.is ∙ ap (handed job heir gives.given) stays;
  }

  module _ (p q : Palette) (n l : ℕ) (is : hue p n ≡ OfJob job l)
      (turns : (m : ℕ) → Becomes (OfJob job l) (OfJob heir l) (hue p m) (hue q m)) where
    only_before : (ns : List ℕ) (m : ℕ) → Contains (hues_of q ns) (OfJob job m)
        → Contains (hues_of p (n ∷ ns)) (OfJob job m)
    only_before ns m has =
        let old = of_map (hue q) ns (OfJob job m) has in by old.0 old.1 old.2 (turns old.0)
      where
        by : (x : ℕ) → Contains ns x → hue q x ≡ OfJob job m
            → Becomes (OfJob job l) (OfJob heir l) (hue p x) (hue q x)
            → Contains (hues_of p (n ∷ ns)) (OfJob job m)
        by x in_x e (inl now) =
            let both : OfJob job m ≡ OfJob heir l = sym e ∙ now.1 in
            let same : l ≡ m = cc in
            subst (λ c. Contains (hues_of p (n ∷ ns)) c) (is ∙ ap (OfJob job) same)
            (first_in (hue p n) (hues_of p ns))
        by x in_x e (inr stays) = later_in (hue p n) (hues_of p ns) (OfJob job m)
            (subst (λ c. Contains (hues_of p ns) c) (sym stays.1 ∙ e) (in_map (hue p) ns x in_x))

    each_after : (ns : List ℕ) (m : ℕ) → Contains (hues_of p (n ∷ ns)) (OfJob job m)
        → (l ≡ m) ⊎ Contains (hues_of q ns) (OfJob job m)
    each_after ns m has = elim (first_or_later (hue p n) (hues_of p ns) (OfJob job m) has) [
      | inl here ↦ inl (same (sym is ∙ here))
      | inr later ↦
          let old = of_map (hue p) ns (OfJob job m) later in by old.0 old.1 old.2 (turns old.0)
    ]
      where
        same : OfJob job l ≡ OfJob job m → l ≡ m
        same e = cc

        by : (x : ℕ) → Contains ns x → hue p x ≡ OfJob job m
            → Becomes (OfJob job l) (OfJob heir l) (hue p x) (hue q x)
            → (l ≡ m) ⊎ Contains (hues_of q ns) (OfJob job m)
        by x in_x e (inl now) = inl (same (sym now.0 ∙ e))
        by x in_x e (inr stays) = inr (subst (λ c. Contains (hues_of q ns) c) (stays.1 ∙ e)
            (in_map (hue q) ns x in_x))

    -- a colour more that is the job's
    goes : (ns : List ℕ) (before middle after : Colours)
        → handed job heir (l ∷ []) before ≡ middle
        → Gives (hues_of q ns) middle after → Gives (hues_of p (n ∷ ns)) before after
    goes ns before middle after turned gives = record {
      given = l ∷ gives.given;
      only = λ m has. elim (first_or_later l gives.given m has) [
        | inl same ↦ subst (λ c. Contains (hues_of p (n ∷ ns)) c) (is ∙ ap (OfJob job) same)
            (first_in (hue p n) (hues_of p ns))
        | inr later ↦ only_before ns m (gives.only m later)
      ];
      each = λ m has. elim (each_after ns m has) [
        | inl same ↦ subst (λ k. Contains (l ∷ gives.given) k) same (first_in l gives.given)
        | inr later ↦ later_in l gives.given m (gives.each m later)
      ];
      is = gives.is ∙ ap (handed job heir gives.given) (sym turned);
    }

    may_go : (m : ℕ) → MayGo (hue p m) → MayGo (hue q m)
    may_go m may = elim (turns m) [
      | inl now ↦ inr (inr (l, now.1))
      | inr stays ↦ subst MayGo (sym stays.1) may
    ]

  module _ (n : ℕ) (ns : List ℕ) (colors : Colors) (whole : IsWhole colors.palette)
      (n_in : n < length colors.palette.names) where
    abbrev p : Palette
    p = colors.palette

    abbrev q : Palette
    q = hand_over n heir p

    abbrev next : Colors
    next = record colors { palette = q }

    abbrev last : Colors
    last = on_palette (hand_all heir ns) next

    module _ (rest : ((m : ℕ) → MayGo (hue p m) → MayGo (hue q m))
        → Gives (hues_of q ns) (hued next) (hued last)) where
      stays : ((m : ℕ) → hue p n ≡ OfJob job m → ⊥) → ((m : ℕ) → hue q m ≡ hue p m)
          → Gives (hues_of p (n ∷ ns)) (hued colors) (hued last)
      stays differs same = passes (hue p n) (hues_of p ns) (hues_of q ns) (hued colors) (hued next)
          (hued last) differs (map_same (hue p) (hue q) ns (λ m. sym (same m)))
          (hued_alike colors q same) (rest (λ m ok. subst MayGo (sym (same m)) ok))

      turns : (l : ℕ) → hue p n ≡ OfJob job l → Gives (hues_of p (n ∷ ns)) (hued colors) (hued last)
      turns l is = goes p q n l is becoming ns (hued colors) (hued next) (hued last)
          (sym (hued_renamed colors q (renames job l (OfJob heir l))
          (λ m. renaming job l (OfJob heir l) (hue p m) (hue q m) (becoming m))))
          (rest (may_go p q n l is becoming))
        where
          becoming : (m : ℕ) → Becomes (OfJob job l) (OfJob heir l) (hue p m) (hue q m)
          becoming = handed_goes n heir p whole n_in job l is

      one_more : MayGo (hue p n) → Gives (hues_of p (n ∷ ns)) (hued colors) (hued last)
      one_more (inl (a, is)) = stays
          (λ m e. let clash : OfActor a ≡ OfJob job m = sym is ∙ e in let no : ⊥ = cc in no)
          (handed_stays n heir p whole a is)
      one_more (inr (inl (l, is))) = turns l is
      one_more (inr (inr (l, is))) = elim (cases_eq heir job) [
        | inl same ↦ turns l (is ∙ ap (λ j. OfJob j l) same)
        | inr differ ↦ stays (λ m e. differ
            (let both : OfJob heir l ≡ OfJob job m = sym is ∙ e in
            let same : heir ≡ job = cc in same))
            (λ m. itself (OfJob heir l) (hue p m) (hue q m)
            (handed_goes n heir p whole n_in heir l is m))
      ]

  hands : (ns : List ℕ) (colors : Colors) → IsWhole colors.palette
      → AreBelow (length colors.palette.names) ns
      → ((m : ℕ) → Contains ns m → MayGo (hue colors.palette m))
      → Gives (hues_of colors.palette ns) (hued colors)
      (hued (on_palette (hand_all heir ns) colors))
  hands [] colors whole below may = none (hued colors)
  hands (n ∷ ns) colors whole below may =
      one_more n ns colors whole (All-head (λ m. m < length colors.palette.names) n ns below)
      (λ later. hands ns (record colors { palette = hand_over n heir colors.palette })
      (handed_whole n heir colors.palette whole)
      (subst (λ count. AreBelow count ns) (sym (handed_count n heir colors.palette))
      (All-tail (λ m. m < length colors.palette.names) n ns below))
      (λ m has. later m (may m (later_in n ns m has))))
      (may n (first_in n ns))

  pub givings_hand_over : (ns : List ℕ) (colors : Colors) → IsWhole colors.palette
      → AreBelow (length colors.palette.names) ns
      → ((n : ℕ) → Contains ns n → ((a : Actor) × (hue colors.palette n ≡ OfActor a))
      ⊎ ((m : ℕ) × (hue colors.palette n ≡ OfJob job m)))
      → (given : List ℕ) × ((m : ℕ) → Contains given m
      → Contains (hues_of colors.palette ns) (OfJob job m))
      × ((m : ℕ) → Contains (hues_of colors.palette ns) (OfJob job m) → Contains given m)
      × (hued (after_changes (givings (Some heir) ns) colors)
      ≡ handed job heir given (hued colors))
  givings_hand_over ns colors whole below ours =
      let gives = hands ns colors whole below (λ m has. may m (ours m has)) in
      (gives.given, gives.only, gives.each, ap hued (givings_are heir ns colors) ∙ gives.is)
    where
      may : (m : ℕ) → ((a : Actor) × (hue colors.palette m ≡ OfActor a))
          ⊎ ((l : ℕ) × (hue colors.palette m ≡ OfJob job l)) → MayGo (hue colors.palette m)
      may m (inl actors) = inl actors
      may m (inr jobs) = inr (inl jobs)
