-- Colours that merge by number become one by hue.
use Rattle.std.proofs.Common.{◌≡◌, ◌⊎◌, ◌<◌, ℕ, List, [], ◌∷◌, length, map, Contains, refl}
use Rattle.std.proofs.Common.{sym, subst, ap, ◌∙◌, inl, inr}
use Rattle.std.proofs.lemmas.List.Elements.{All-head, All-tail}
use Rattle.std.proofs.lemmas.List.Elements.{Contains-append_left}
use Rattle.sw_list.proofs.Members.{in_one, none_in}
use Rattle.sw_color_rules.specs.declared.colors.Colors.{Colors}
use Rattle.sw_color_rules.specs.declared.colors.Palette.{Palette}
use Rattle.sw_color_rules.specs.Changes.{Merge, after_changes, on_palette}
use Rattle.sw_color_rules.specs.Palette.{IsWhole}
use Rattle.sw_color_rules.specs.Plans.{merges}
use Rattle.sw_color_rules.specs.Ranges.{AreBelow}
use Rattle.sw_late_facts.specs.Hues.{hue}
use Rattle.sw_owner_facts.specs.Colours.{Actor, Colour, Instance, OfActor, OfJob}
use Rattle.sw_owner_facts.specs.View.{Frame as Spot}
use Rattle.sw_secure_facts.specs.Painting.{MayUnite, Unites}
use Rattle.sw_secure_facts.proofs.Uniting.{actors_stay}
use Rattle.sw_secure_facts.proofs.Uniting.{joins_kept, numbered, numbers_are, numbers_of}
use Rattle.sw_secure_facts.proofs.Uniting.{kept_stays, others_stay, united_colour, united_is}
use Rattle.sw_view_facts.proofs.RenameLemmas.{of_map}
use Rattle.sw_hue_facts.specs.Hued.{hued, hues_of}
use Rattle.sw_hue_facts.proofs.Colours.{cases_among, hued_renamed}
use Rattle.sw_hue_facts.proofs.Lists.{all_of, in_map}
use Rattle.sw_hue_facts.proofs.Meeting.{IsOneOf}
use Rattle.sw_hue_facts.proofs.Merging.{Merged, merge_all, merged_all}

-- merges change the palette alone
pub merges_are : (n : ℕ) (ms : List ℕ) (colors : Colors)
    → after_changes (map (Merge n) ms) colors ≡ on_palette (merge_all n ms) colors
merges_are n [] colors = refl
merges_are n (m ∷ ms) colors = merges_are n ms _

module _ (q : Spot) (n : ℕ) (ms : List ℕ) (colors : Colors) where
  abbrev p : Palette
  p = colors.palette

  abbrev joined : List Colour
  joined = hues_of p (n ∷ ms)

  abbrev IsOurs : ℕ → Type 0
  IsOurs m = ((a : Actor) × (hue p m ≡ OfActor a)) ⊎ ((l : ℕ) × (hue p m ≡ OfJob q.job l))

  -- the colours that are not the job's are one actor's
  one_actor : MayUnite q joined → ((m : ℕ) → Contains (n ∷ ms) m → IsOurs m)
      → (a : Actor) × ((m : ℕ) → Contains (n ∷ ms) m → IsOneOf q.job a (hue p m))
  one_actor (inl none) ours = absurd (none_in (hue p n) (subst (λ l. Contains l (hue p n)) none
      (Contains-append_left (hue p n ∷ []) (hues_of p ms) (hue p n) (in_one (hue p n)))))
  one_actor (inr (kept, among, others, own)) ours =
      let old = of_map (hue p) (n ∷ ms) kept among in by old.0 old.2 (ours old.0 old.1)
    where
      by : (k : ℕ) → hue p k ≡ kept → IsOurs k
          → (a : Actor) × ((m : ℕ) → Contains (n ∷ ms) m → IsOneOf q.job a (hue p m))
      by k is (inl (a, e)) = (
        a,
        λ m has. elim (others (hue p m) (in_map (hue p) (n ∷ ms) m has)) [
          | inl same ↦ inl (same ∙ sym is ∙ e)
          | inr owned ↦ inr owned
        ],
      )
      by k is (inr (l, e)) = (
        Instance 0,
        λ m has. elim (others (hue p m) (in_map (hue p) (n ∷ ms) m has)) [
          | inl same ↦ inr (l, same ∙ sym is ∙ e)
          | inr owned ↦ inr owned
        ],
      )

  module _ (a : Actor) (k : Colour) (after : Palette)
      (merged : Merged q.job a joined k p after) where
    abbrev turned : Colour → Colour
    turned = united_colour q.job (numbers_of q.job joined) k

    joins : (c : Colour) → Contains joined c → (c ≡ k) ⊎ ((l : ℕ) × (c ≡ OfJob q.job l))
        → turned c ≡ k
    joins c has (inl same) = ap turned same ∙ kept_stays q.job (numbers_of q.job joined) k
    joins c has (inr (l, is)) = ap turned is ∙ joins_kept q.job (numbers_of q.job joined) k l
        (numbered q.job joined l (subst (λ d. Contains joined d) is has))

    renamed : (m : ℕ) → hue after m ≡ turned (hue p m)
    renamed m = elim (cases_among (hue p m) joined) [
      | inl has ↦ merged.moves m has ∙ sym (joins (hue p m) has (merged.others (hue p m) has))
      | inr nowhere ↦ merged.stays m nowhere
          ∙ sym (others_stay q.job (numbers_of q.job joined) k (hue p m)
          (λ l has is. nowhere (subst (λ d. Contains joined d) (sym is)
          (numbers_are q.job joined l has))))
    ]

    unites : Unites q.job joined (hued colors) (hued (record colors { palette = after }))
    unites = record {
      kept = k;
      numbers = numbers_of q.job joined;
      is = hued_renamed colors after turned renamed
          ∙ sym (united_is q.job (numbers_of q.job joined) k (hued colors));
      among = λ c has. merged.among;
      others = λ c has. elim (merged.others c has) [
        | inl same ↦ inl same
        | inr (l, is) ↦ inr (l, numbered q.job joined l (subst (λ d. Contains joined d) is has), is)
      ];
      only = λ l has. numbers_are q.job joined l has;
    }

  abbrev AreOurs : Type 0
  AreOurs = (m : ℕ) → Contains (n ∷ ms) m → IsOurs m

  merges_end : IsWhole p → AreBelow (length p.names) (n ∷ ms) → MayUnite q joined → AreOurs
      → (a : Actor) × (k : Colour) × Merged q.job a joined k p (merge_all n ms p)
  merges_end whole below may ours =
      let one = one_actor may ours in
      let all = all_of (λ m. IsOneOf q.job one.0 (hue p m)) (n ∷ ms) one.1 in
      let last = merged_all q.job one.0 p n (All-head (λ m. m < length p.names) n ms below) whole ms
      (All-tail (λ m. m < length p.names) n ms below)
      (All-head (λ m. IsOneOf q.job one.0 (hue p m)) n ms all)
      (All-tail (λ m. IsOneOf q.job one.0 (hue p m)) n ms all) in
      (one.0, last.0, last.1)

  pub merges_unite : IsWhole p → AreBelow (length p.names) (n ∷ ms) → MayUnite q joined → AreOurs
      → Unites q.job joined (hued colors) (hued (after_changes (merges (n ∷ ms)) colors))
  merges_unite whole below may ours =
      let end = merges_end whole below may ours in
      subst (λ c. Unites q.job joined (hued colors) (hued c)) (sym (merges_are n ms colors))
      (unites end.0 end.1 (merge_all n ms p) end.2)

  -- merges rename colours, and no actor's
  pub merges_rename : IsWhole p → AreBelow (length p.names) (n ∷ ms) → MayUnite q joined → AreOurs
      → (f : Colour → Colour) × ((a : Actor) → f (OfActor a) ≡ OfActor a)
      × ((m : ℕ) → hue (merge_all n ms p) m ≡ f (hue p m))
  merges_rename whole below may ours =
      let end = merges_end whole below may ours in (
        turned end.0 end.1 (merge_all n ms p) end.2,
        actors_stay q.job (numbers_of q.job joined) end.1,
        renamed end.0 end.1 (merge_all n ms p) end.2,
      )
