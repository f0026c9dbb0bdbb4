-- Colours of one job that become another's, as a renaming.
use Rattle.std.specs.Option.{option_map}
use Rattle.std.proofs.Common.{◌≡◌, ◌≢◌, ◌⊎◌, ℕ, zero, suc, Option, List, [], ◌∷◌, map}
use Rattle.std.proofs.Common.{Contains, refl, sym, subst, ap, ◌∙◌, arith, inl, inr}
use Rattle.sw_list.proofs.Members.{first_or_later, none_in}
use Rattle.sw_graph.specs.declared.graph.Graph.{Graph}
use Rattle.sw_value.specs.declared.state.State.{State}
use Rattle.sw_partition.specs.Regions.{Regions}
use Rattle.sw_owner_facts.specs.Colours.{Actor, Colour, OfActor, OfJob}
use Rattle.sw_owner_facts.specs.Owned.{IsSound}
use Rattle.sw_owner_facts.specs.View.{HoldsLive, IsFrame, IsUnheld, Frame as Spot}
use Rattle.sw_owner_facts.proofs.WithinLemmas.{unheld}
use Rattle.sw_view_facts.specs.Renaming.{HasHere, recoloured_by, renames}
use Rattle.sw_view_facts.specs.Views.{Colours, view_of}
use Rattle.sw_view_facts.proofs.RenameLemmas.{becomes, here_later, held_from, recoloured}
use Rattle.sw_secure_facts.specs.Painting.{handed}
use Rattle.sw_secure_facts.proofs.Uniting.{map_options, map_rows, united_is}

-- ---- what becomes of a colour
abbrev pub handed_colour : ℕ → ℕ → List ℕ → Colour → Colour
handed_colour job heir [] c = c
handed_colour job heir (n ∷ ns) c = handed_colour job heir ns (renames job n (OfJob heir n) c)

pub handed_actor : (job heir : ℕ) (ns : List ℕ) (a : Actor)
    → handed_colour job heir ns (OfActor a) ≡ OfActor a
handed_actor job heir [] a = refl
handed_actor job heir (n ∷ ns) a = handed_actor job heir ns a

-- what isn't given stays
pub handed_other : (job heir : ℕ) (ns : List ℕ) (c : Colour)
    → ((n : ℕ) → Contains ns n → c ≡ OfJob job n → ⊥) → handed_colour job heir ns c ≡ c
handed_other job heir [] c differs = refl
handed_other job heir (n ∷ ns) c differs = elim (becomes job n (OfJob heir n) c) [
  | inl both ↦ absurd (differs n (zero, omega arith, refl) both.0)
  | inr other ↦ ap (handed_colour job heir ns) other.1
      ∙ handed_other job heir ns c (λ m has. differs m
      (suc has.0, (let inside = has.1 in omega (arith, inside)), has.2))
]

-- and so does what is of the other job
pub handed_heir : (job heir : ℕ) (ns : List ℕ) (m : ℕ) → job ≢ heir
    → handed_colour job heir ns (OfJob heir m) ≡ OfJob heir m
handed_heir job heir ns m differ = handed_other job heir ns (OfJob heir m)
    (λ n has is. differ (let same : job ≡ heir = cc in same))

-- what is given is the other job's
pub handed_given : (job heir : ℕ) (ns : List ℕ) (n : ℕ) → job ≢ heir → Contains ns n
    → handed_colour job heir ns (OfJob job n) ≡ OfJob heir n
handed_given job heir [] n differ has = absurd (none_in n has)
handed_given job heir (m ∷ ns) n differ has = elim (becomes job m (OfJob heir m) (OfJob job n)) [
  | inl both ↦
      let same : n ≡ m = (let is : OfJob job n ≡ OfJob job m = both.0 in number_is job n m is) in
      ap (handed_colour job heir ns) both.1 ∙ handed_heir job heir ns m differ
      ∙ ap (OfJob heir) (sym same)
  | inr other ↦ elim (first_or_later m ns n has) [
    | inl same ↦ absurd (other.0 (ap (OfJob job) (sym same)))
    | inr later ↦ ap (handed_colour job heir ns) other.1
        ∙ handed_given job heir ns n differ later
  ]
]
  where
    number_is : (j a b : ℕ) → OfJob j a ≡ OfJob j b → a ≡ b
    number_is j a b is = cc

-- each colour stays, or is given
pub handed_cases : (job heir : ℕ) (ns : List ℕ) (c : Colour) → job ≢ heir
    → (handed_colour job heir ns c ≡ c) ⊎ ((n : ℕ) × Contains ns n × (c ≡ OfJob job n))
handed_cases job heir [] c differ = inl refl
handed_cases job heir (n ∷ ns) c differ = elim (becomes job n (OfJob heir n) c) [
  | inl both ↦ inr (n, (zero, omega arith, refl), both.0)
  | inr other ↦ elim (handed_cases job heir ns c differ) [
    | inl stays ↦ inl (ap (handed_colour job heir ns) other.1 ∙ stays)
    | inr (m, has, is) ↦ inr (
      m,
      (suc has.0, (let inside = has.1 in omega (arith, inside)), has.2),
      is,
    )
  ]
]

-- ---- of the colours of a state
pub twice : (f g : Colour → Colour) (colours : Colours)
    → recoloured_by f (recoloured_by g colours) ≡ recoloured_by (λ c. f (g c)) colours
twice f g colours =
    ap (λ (cs : List (Option Colour)). record {
      cells = cs;
      heres = map (map f) (map (map g) colours.heres);
    }) (map_options f g colours.cells)
    ∙ ap (λ (hs : List (List Colour)). record {
      cells = map (option_map (λ c. f (g c))) colours.cells;
      heres = hs;
    }) (map_rows f g colours.heres)

-- renamings that agree
pub same_renaming : (f g : Colour → Colour) (colours : Colours) → ((c : Colour) → f c ≡ g c)
    → recoloured_by f colours ≡ recoloured_by g colours
same_renaming f g colours same = ap (λ h. recoloured_by h colours) (λ i c. same c i)

pub handed_is : (job heir : ℕ) (ns : List ℕ) (colours : Colours)
    → handed job heir ns colours ≡ recoloured_by (handed_colour job heir ns) colours
handed_is job heir [] colours = united_is job [] (OfJob heir 0) colours
handed_is job heir (n ∷ ns) colours =
    handed_is job heir ns (recoloured_by (renames job n (OfJob heir n)) colours)
    ∙ twice (handed_colour job heir ns) (renames job n (OfJob heir n)) colours

-- ---- of a view
-- What nothing live holds may be handed over.
pub handed_sound : (graph : Graph) (regions : Spot → Option Regions) (state : State) (job heir : ℕ)
    (ns : List ℕ) (colours : Colours) → job ≢ heir
    → ((p : Spot) → IsFrame (view_of graph regions state colours) p → HasHere colours p)
    → ((n : ℕ) → Contains ns n
    → IsUnheld (view_of graph regions state colours) (OfJob job n))
    → IsSound (view_of graph regions state colours)
    → IsSound (view_of graph regions state (handed job heir ns colours))
handed_sound graph regions state job heir [] colours differ heres none sound = sound
handed_sound graph regions state job heir (n ∷ ns) colours differ heres none sound =
    handed_sound graph regions state job heir ns
    (recoloured_by (renames job n (OfJob heir n)) colours) differ
    (λ p is. here_later graph regions state colours heres (renames job n (OfJob heir n)) p
    (heres p is))
    (λ m has. still m (none m (suc has.0, (let inside = has.1 in omega (arith, inside)), has.2)))
    (unheld (view_of graph regions state colours)
    (view_of graph regions state (recoloured_by (renames job n (OfJob heir n)) colours)) job n
    (OfJob heir n) sound (none n (zero, omega arith, refl))
    (recoloured graph regions state colours heres job n (OfJob heir n)))
  where
    still : (m : ℕ) → IsUnheld (view_of graph regions state colours) (OfJob job m)
        → IsUnheld (view_of graph regions state
        (recoloured_by (renames job n (OfJob heir n)) colours)) (OfJob job m)
    still m free p x h =
        let found = held_from graph regions state colours heres (renames job n (OfJob heir n)) p x
        (OfJob job m) h in
        elim (becomes job n (OfJob heir n) found.0) [
          | inl both ↦
              let is : OfJob heir n ≡ OfJob job m = sym both.1 ∙ found.2 in
              differ (let same : job ≡ heir = cc in same)
          | inr other ↦ free p x (subst (HoldsLive (view_of graph regions state colours) p x)
              (sym other.1 ∙ found.2) found.1)
        ]
