-- Actors that are there have numbers with their hues.
use Rattle.std.proofs.Common.{◌≡◌, ◌<◌, ℕ, cond, Option, Some, None, List, [], length, refl, sym}
use Rattle.std.proofs.Common.{subst, ap, ◌∙◌, arith}
use Rattle.std.proofs.Common.{inl, inr}
use Rattle.std.specs.Option.{option_and_then}
use Rattle.std.specs.List.{slice_get}
use Rattle.std.proofs.lemmas.Bool.{cases_lt}
use Rattle.std.proofs.lemmas.List.{get_or_past}
use Rattle.std.proofs.lemmas.List.Elements.{All-head}
use Rattle.std.proofs.lemmas.Option.{slice_get_past, slice_get_within}
use Rattle.sw_list.proofs.ListLemmas.{some_injective}
use Rattle.sw_graph.specs.declared.graph.Graph.{Graph}
use Rattle.sw_value.specs.declared.cell.HeapCell.TheVariants.{Actor}
use Rattle.sw_value.specs.declared.executor.Executor.{Executor}
use Rattle.sw_value.specs.declared.executor.Executor.TheVariants as executor
use Rattle.sw_value.specs.declared.value.Value.{Value}
use Rattle.sw_color_rules.specs.declared.colors.Palette.{Palette}
use Rattle.sw_color_rules.specs.declared.colors.Tint.TheVariants.{Owns}
use Rattle.sw_color_rules.specs.Palette.{IsWhole}
use Rattle.sw_color_rules.specs.Names.{name_in}
use Rattle.sw_color_rules.specs.Plans.{next_color, number_on}
use Rattle.sw_color_rules.specs.Ranges.{AreBelow, noted}
use Rattle.sw_color_rules.specs.Tints.{owned_by, owned_number}
use Rattle.sw_color_rules.proofs.NumberLemmas.{all_there}
use Rattle.sw_partition.specs.Regions.{Regions}
use Rattle.sw_machine_kind_facts.proofs.ItemLemmas.{found_within}
use Rattle.sw_owner_facts.specs.Colours.{Actor as Owner, GlobalActor, Instance, OfActor}
use Rattle.sw_late_facts.specs.Hues.{hue, hue_by}
use Rattle.sw_late_facts.specs.Late.{Late}
use Rattle.sw_late_facts.proofs.Seen.{ltb_is}
use Rattle.sw_secure_facts.specs.Painting.{actor_on}
use Rattle.sw_hue_facts.specs.Tinted.{TintFits}
use Rattle.sw_secure_late_facts.specs.LateSecure.{IsLateSecure}
use Rattle.sw_secure_late_facts.proofs.Anchors.{IsKnown}
use Rattle.sw_secure_late_facts.proofs.Begun.{HasNumber}

-- an actor's hue is that of a colour that was made
pub actor_below : (p : Palette) → IsWhole p → (n : ℕ) (a : Owner) → hue p n ≡ OfActor a
    → n < length p.names
actor_below p whole n a is = elim (cases_lt n (length p.names)) [
  | inl below ↦ below
  | inr past ↦
      let none = ap (slice_get p.owners) (get_or_past p.names n n past)
      ∙ slice_get_past p.owners n (let owned = whole.owned in omega (arith, owned, past)) in
      absurd (let wrong = sym (ap (λ o. hue_by o (name_in p.names n)) none) ∙ is in
      let clash : ⊥ = cc in clash)
]

module _ (graph : Graph) (states : ℕ → List (Option Regions)) (late : Late)
    (s : IsLateSecure graph states late) where
  abbrev Numbered : Executor → Owner → Type 0
  Numbered on a = (n : ℕ) × (number_on late.colors on ≡ Some n) × (n < next_color late.colors)
      × (hue late.colors.palette n ≡ OfActor a)

  owned : (c k : ℕ) (parts : List Value) → slice_get late.state.cells c ≡ Some (Actor k parts)
      → Numbered (executor.ActorOf c) (Instance c)
  unfolding owned_number
  owned c k parts at =
      let inside = slice_get_within late.state.cells c (Actor k parts) at in
      let count = s.tints.count in
      let tint = found_within late.colors.cells c (omega (arith, inside, count)) in
      let fits : TintFits graph late.state.cells late.colors c (Actor k parts) tint.0 =
      s.tints.each c (Actor k parts) tint.0 at tint.1 in
      let own = fits.owns k parts refl in
      let there = tint.1 ∙ ap (λ t. Some t) own.1 in (
        own.0,
        ap (option_and_then owned_by) there,
        All-head (λ n. n < next_color late.colors) own.0 []
            (all_there (λ t. AreBelow (next_color late.colors) (noted t)) late.colors.cells c
            (Owns own.0) there s.made.cells),
        own.2,
      )

  global : (g : ℕ) → IsKnown graph late.state (GlobalActor g)
      → Numbered (executor.Global g) (GlobalActor g)
  global g known =
      let is = s.globals g known in
      let below = actor_below late.colors.palette s.whole g (GlobalActor g) is in (
        g,
        ap (λ b. cond b (Some g) None) (ltb_is g (next_color late.colors) below),
        below,
        is,
      )

  pub has_number : (on : Executor)
      → ((a : Owner) → actor_on on ≡ Some a → IsKnown graph late.state a)
      → HasNumber late.colors on
  has_number executor.Generic known a on = absurd (let clash : ⊥ = cc in clash)
  has_number (executor.ActorOf c) known a on =
      let cell = known (Instance c) refl in
      subst (Numbered (executor.ActorOf c)) (some_injective on) (owned c cell.0 cell.1 cell.2)
  has_number (executor.Global g) known a on =
      subst (Numbered (executor.Global g)) (some_injective on)
      (global g (known (GlobalActor g) refl))
