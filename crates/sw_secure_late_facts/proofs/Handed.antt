-- Colours that are handed over: which ones goes by the numbers that there are, and what is an
-- actor's
-- or the new job's stays as it is.
use Rattle.std.proofs.Common.{◌≡◌, ◌≢◌, ◌⊎◌, ◌<◌, ℕ, List, [], ◌∷◌, length, Contains, refl, sym}
use Rattle.std.proofs.Common.{subst, ap, ◌∙◌}
use Rattle.std.proofs.Common.{inl, inr}
use Rattle.std.proofs.lemmas.List.Elements.{All-head, All-tail}
use Rattle.sw_color_rules.specs.declared.colors.Palette.{Palette}
use Rattle.sw_color_rules.specs.Palette.{IsWhole, hand_over}
use Rattle.sw_color_rules.specs.Ranges.{AreBelow}
use Rattle.sw_owner_facts.specs.Colours.{Actor, Colour, OfActor, OfJob}
use Rattle.sw_owner_facts.specs.Within.{Becomes}
use Rattle.sw_late_facts.specs.Hues.{hue}
use Rattle.sw_late_facts.proofs.HueLemmas.{handed_goes, handed_stays}
use Rattle.sw_view_facts.specs.Views.{Colours}
use Rattle.sw_secure_facts.specs.Painting.{handed}
use Rattle.sw_secure_job_facts.proofs.Handing.{handed_cases, handed_colour, handed_given, handed_is}
use Rattle.sw_secure_job_facts.proofs.Handing.{same_renaming}
use Rattle.sw_hue_facts.proofs.Counts.{handed_count, handed_whole}
use Rattle.sw_hue_facts.proofs.Handing.{hand_all}

-- ---- the same numbers
module _ (job heir : ℕ) (apart : job ≢ heir) (ns ms : List ℕ)
    (to : (n : ℕ) → Contains ns n → Contains ms n) (from : (n : ℕ) → Contains ms n → Contains ns n)
  where
    both_given : (n : ℕ) → Contains ns n → Contains ms n → (c : Colour) → c ≡ OfJob job n
        → handed_colour job heir ns c ≡ handed_colour job heir ms c
    both_given n one other c is =
        ap (handed_colour job heir ns) is ∙ handed_given job heir ns n apart one
        ∙ sym (ap (handed_colour job heir ms) is ∙ handed_given job heir ms n apart other)

    same_handed : (c : Colour) → handed_colour job heir ns c ≡ handed_colour job heir ms c
    same_handed c = by (handed_cases job heir ns c apart) (handed_cases job heir ms c apart) where
      by : (handed_colour job heir ns c ≡ c) ⊎ ((n : ℕ) × Contains ns n × (c ≡ OfJob job n))
          → (handed_colour job heir ms c ≡ c) ⊎ ((n : ℕ) × Contains ms n × (c ≡ OfJob job n))
          → handed_colour job heir ns c ≡ handed_colour job heir ms c
      by (inl one) (inl other) = one ∙ sym other
      by (inl one) (inr (n, has, is)) = both_given n (from n has) has c is
      by (inr (n, has, is)) _ = both_given n has (to n has) c is

    pub handed_same : (colours : Colours) → handed job heir ns colours ≡ handed job heir ms colours
    handed_same colours =
        handed_is job heir ns colours
        ∙ same_renaming (handed_colour job heir ns) (handed_colour job heir ms) colours same_handed
        ∙ sym (handed_is job heir ms colours)

-- ---- by number
pub all_count : (heir : ℕ) (ns : List ℕ) (p : Palette)
    → length (hand_all heir ns p).names ≡ length p.names
all_count heir [] p = refl
all_count heir (n ∷ ns) p = all_count heir ns (hand_over n heir p) ∙ handed_count n heir p

pub all_whole : (heir : ℕ) (ns : List ℕ) (p : Palette) → IsWhole p → IsWhole (hand_all heir ns p)
all_whole heir [] p whole = whole
all_whole heir (n ∷ ns) p whole = all_whole heir ns (hand_over n heir p)
    (handed_whole n heir p whole)

-- an actor's colour, or the new job's
abbrev pub IsTaken : ℕ → Colour → Type 0
IsTaken heir c = ((a : Actor) × (c ≡ OfActor a)) ⊎ ((m : ℕ) × (c ≡ OfJob heir m))

once_stays : (heir n : ℕ) (p : Palette) → IsWhole p → n < length p.names → (m : ℕ) (c : Colour)
    → IsTaken heir c → hue p m ≡ c → hue (hand_over n heir p) m ≡ c
once_stays heir n p whole inside m c taken is = by (hue p n) refl where
  goes : (j l : ℕ) → IsTaken heir c
      → Becomes (OfJob j l) (OfJob heir l) (hue p m) (hue (hand_over n heir p) m)
      → hue (hand_over n heir p) m ≡ c
  goes j l taken (inr stays) = stays.1 ∙ is
  goes j l (inl (a, actor)) (inl now) =
      absurd (let wrong : OfActor a ≡ OfJob j l = sym actor ∙ sym is ∙ now.0 in
      let clash : ⊥ = cc in clash)
  goes j l (inr (k, job)) (inl now) =
      let same : OfJob heir k ≡ OfJob j l = sym job ∙ sym is ∙ now.0 in
      let number : l ≡ k = cc in
      now.1 ∙ ap (OfJob heir) number ∙ sym job

  by : (d : Colour) → hue p n ≡ d → hue (hand_over n heir p) m ≡ c
  by (OfActor a) e = handed_stays n heir p whole a e m ∙ is
  by (OfJob j l) e = goes j l taken (handed_goes n heir p whole inside j l e m)

-- it stays, whatever is handed over
pub all_stays : (heir : ℕ) (ns : List ℕ) (p : Palette) → IsWhole p → AreBelow (length p.names) ns
    → (m : ℕ) (c : Colour) → IsTaken heir c → hue p m ≡ c → hue (hand_all heir ns p) m ≡ c
all_stays heir [] p whole below m c taken is = is
all_stays heir (n ∷ ns) p whole below m c taken is =
    all_stays heir ns (hand_over n heir p) (handed_whole n heir p whole)
    (subst (λ count. AreBelow count ns) (sym (handed_count n heir p))
    (All-tail (λ k. k < length p.names) n ns below)) m c taken
    (once_stays heir n p whole (All-head (λ k. k < length p.names) n ns below) m c taken is)
