-- Colours that the top frame holds together become one that nothing holds.
use Rattle.std.proofs.Common.{ℕ, suc, List, [], ◌∷◌, Contains}
use Rattle.std.proofs.Common.{refl, sym, subst, ◌∙◌, arith, inl, inr}
use Rattle.sw_graph.specs.declared.graph.Graph.{Graph}
use Rattle.sw_value.specs.declared.state.State.{State}
use Rattle.sw_partition.specs.Regions.{Regions}
use Rattle.std.specs.Prelude.{Option}
use Rattle.sw_owner_facts.specs.Colours.{Colour, OfJob}
use Rattle.sw_owner_facts.specs.View.{Element, View, IsFrame, IsTop, HoldsLive}
use Rattle.sw_owner_facts.specs.View.{IsUnheld, InOneRegion, Frame as Spot}
use Rattle.sw_owner_facts.specs.Owned.{IsSound}
use Rattle.sw_owner_facts.proofs.WithinLemmas.{unheld}
use Rattle.sw_view_facts.specs.Renaming.{HasHere, MayUnite, recoloured_by, renames, united}
use Rattle.sw_view_facts.specs.Views.{Colours, view_of}
use Rattle.sw_view_facts.proofs.RenameLemmas.{becomes, held_from, held_to, here_later, recoloured}
use Rattle.sw_view_facts.proofs.RenameLemmas.{renames_it, still_unites, unites_all}
use Rattle.sw_secure_call_facts.proofs.Injective.{refreshed}

module _ (graph : Graph) (regions : Spot → Option Regions) (state : State) (q : Spot) (y : Element)
    (m : ℕ) where
  abbrev kept : Colour
  kept = OfJob q.job m

  abbrev seen : Colours → View
  seen colours = view_of graph regions state colours

  module _ (colours : Colours) (heres : (p : Spot) → IsFrame (seen colours) p → HasHere colours p)
      (n : ℕ) where
    abbrev later : Colours
    later = recoloured_by (renames q.job n kept) colours

    -- what is held by nothing stays so
    still_free : IsUnheld (seen colours) kept → IsUnheld (seen colours) (OfJob q.job n)
        → IsUnheld (seen later) kept
    still_free free none p x h =
        let found = held_from graph regions state colours heres (renames q.job n kept) p x kept h in
        elim (becomes q.job n kept found.0) [
          | inl both ↦ none p x (subst (HoldsLive (seen colours) p x) both.0 found.1)
          | inr other ↦ free p x
              (subst (HoldsLive (seen colours) p x) (sym other.1 ∙ found.2) found.1)
        ]

    sound_later : IsSound (seen colours) → IsUnheld (seen colours) (OfJob q.job n)
        → IsSound (seen later)
    sound_later sound none = unheld (seen colours) (seen later) q.job n kept sound none
        (recoloured graph regions state colours heres q.job n kept)

    held_later : (x : Element) → HoldsLive (seen colours) q x (OfJob q.job n)
        → HoldsLive (seen later) q x kept
    held_later x h = subst (HoldsLive (seen later) q x) (renames_it q.job n kept)
        (held_to graph regions state colours heres (renames q.job n kept) q x (OfJob q.job n) h)

    heres_later : (p : Spot) → IsFrame (seen later) p → HasHere later p
    heres_later p is =
        here_later graph regions state colours heres (renames q.job n kept) p (heres p is)

  with_other : (colours : Colours) (x : Element) (n : ℕ) → InOneRegion (seen colours) q x y
      → MayUnite (seen colours) q y kept n → MayUnite (seen colours) q x kept n
  with_other colours x n one (inl is) = inl is
  with_other colours x n one (inr (inl none)) = inr (inl none)
  with_other colours x n one (inr (inr other)) = inr (inr (other.0, other.1, other.2 ∙ sym one))

  -- what is left to do
  abbrev On : List ℕ → Colours → Type 0
  On ns colours = IsUnheld (seen colours) kept
      → ((k : ℕ) → Contains ns k → MayUnite (seen colours) q y kept k) → IsSound (seen colours)
      → IsSound (seen (united q.job ns kept colours))

  pub unites_free : (ns : List ℕ) (colours : Colours)
      → ((p : Spot) → IsFrame (seen colours) p → HasHere colours p) → IsTop (seen colours) q
      → IsUnheld (seen colours) kept
      → ((n : ℕ) → Contains ns n → MayUnite (seen colours) q y kept n) → IsSound (seen colours)
      → IsSound (seen (united q.job ns kept colours))
  unites_free [] colours heres top free may sound = sound
  unites_free (n ∷ ns) colours heres top free may sound =
      by (may n (0, omega arith, refl)) (unites_free ns (later colours heres n)
      (heres_later colours heres n) top) where
        still : (k : ℕ) → Contains ns k → MayUnite (seen (later colours heres n)) q y kept k
        still k has = still_unites graph regions state colours heres q y kept n k
            (may k (suc has.0, omega (arith, has.1), has.2))

        without : On ns (later colours heres n) → IsUnheld (seen colours) (OfJob q.job n)
            → IsSound (seen (united q.job (n ∷ ns) kept colours))
        without on none = on (still_free colours heres n free none) still
            (sound_later colours heres n sound none)

        by : MayUnite (seen colours) q y kept n → On ns (later colours heres n)
            → IsSound (seen (united q.job (n ∷ ns) kept colours))
        by (inl is) on = without on (subst (IsUnheld (seen colours)) is free)
        by (inr (inl none)) on = without on none
        by (inr (inr other)) on =
            unites_all graph regions state q other.0 kept ns (later colours heres n)
            (heres_later colours heres n) top (held_later colours heres n other.0 other.1)
            (λ k has. with_other (later colours heres n) other.0 k other.2 (still k has))
            (refreshed (seen colours) (seen (later colours heres n)) q.job n m sound free
            (recoloured graph regions state colours heres q.job n kept))
