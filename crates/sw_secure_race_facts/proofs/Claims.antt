-- What a job has of the place that it accesses: it holds the colour of the cell live, or it stands on
-- the actor whose the place is. Which of the two depends on the place alone.
use Rattle.std.proofs.Common.{◌≡◌, ◌⊎◌, ℕ, IsTrue, Option, Some, None}
use Rattle.std.proofs.Common.{sym, subst, ap, ◌∙◌, inl, inr}
use Rattle.std.specs.List.{slice_get, slice_index_or}
use Rattle.sw_list.proofs.ListLemmas.{some_injective}
use Rattle.sw_graph.specs.declared.function.GlobalKind.{GlobalKind}
use Rattle.sw_graph.specs.declared.graph.Graph.{Graph}
use Rattle.sw_value.specs.declared.cell.HeapCell.{HeapCell}
use Rattle.sw_value.specs.declared.race.Place.{Place}
use Rattle.sw_value.specs.declared.race.Place.TheVariants.{Prop, Global, BoxOf}
use Rattle.sw_value.specs.declared.state.State.{State}
use Rattle.sw_owner_facts.specs.Colours.{Actor, Colour, GlobalActor, On}
use Rattle.sw_owner_facts.specs.Owned.{IsOwned}
use Rattle.sw_owner_facts.specs.View.{Element, HoldsLive, IsTop, View, Frame as Spot}
use Rattle.sw_owner_facts.proofs.OwnerLemmas.{one_runner}
use Rattle.sw_view_facts.specs.Views.{Colours}
use Rattle.sw_secure_facts.specs.Memory.{keeper}
use Rattle.sw_secure_race_facts.specs.Places.{HasColour, IsKept, cell_in}

abbrev pub Claims : Graph → State → Colours → View → Spot → Place → Type 0
Claims graph state colours view q place =
    ((colour : Colour) × HasColour colours place colour
    × ((x : Element) × HoldsLive view q x colour))
    ⊎ ((actor : Actor) × IsKept graph state colours place actor
    × ((view.shape q).executor ≡ On actor))

-- ---- a place has one colour, or one keeper
pub same_colour : (colours : Colours) (place : Place) (c d : Colour) → HasColour colours place c
    → HasColour colours place d → c ≡ d
same_colour colours place c d one other =
    let same = some_injective (sym one.inside ∙ other.inside) in
    some_injective (sym one.is ∙ ap (λ n. slice_index_or colours.cells n None) same ∙ other.is)

pub same_keeper : (graph : Graph) (state : State) (colours : Colours) (place : Place) (a b : Actor)
    → IsKept graph state colours place a → IsKept graph state colours place b → a ≡ b
same_keeper graph state colours (Prop c i) a b one other =
    let cells = some_injective (sym one.1.1 ∙ other.1.1) in
    some_injective (sym one.1.2 ∙ ap (keeper graph c) cells ∙ other.1.2)
same_keeper graph state colours (BoxOf c) a b one other = absurd one
same_keeper graph state colours (Global g) a b one other =
    let kinds = some_injective (sym one.2 ∙ other.2) in
    let numbers = some_injective (sym one.3 ∙ ap (λ (k : GlobalKind). k.actor) kinds ∙ other.3) in
    one.4 ∙ ap GlobalActor numbers ∙ sym other.4

pub coloured_or_kept : (graph : Graph) (state : State) (colours : Colours) (place : Place)
    (colour : Colour) (actor : Actor) → HasColour colours place colour
    → IsKept graph state colours place actor → ⊥
coloured_or_kept graph state colours (Prop c i) colour actor one other =
    let same : c ≡ one.number = some_injective one.inside in
    let clash : None ≡ Some colour =
    sym other.0 ∙ ap (λ n. slice_index_or colours.cells n None) same ∙ one.is in
    cc
coloured_or_kept graph state colours (BoxOf c) colour actor one other = other
coloured_or_kept graph state colours (Global g) colour actor one other =
    let clash : None ≡ Some one.number = one.inside in
    cc

-- two running jobs with claims to one place are one
pub one_claims : (graph : Graph) (state : State) (colours : Colours) (view : View) → IsOwned view
    → (p q : Spot) (place : Place) → IsTrue (view.running p.job) → IsTrue (view.running q.job)
    → IsTop view p → IsTop view q → Claims graph state colours view p place
    → Claims graph state colours view q place → p.job ≡ q.job
one_claims graph state colours view owned p q place p_runs q_runs p_top q_top
    (inl (c, colour, (x, held))) (inl (d, other, (y, holds))) =
    one_runner view owned p q x y c p_runs q_runs p_top q_top held
    (subst (λ e. HoldsLive view q y e) (sym (same_colour colours place c d colour other)) holds)
one_claims graph state colours view owned p q place p_runs q_runs p_top q_top
    (inl (c, colour, held)) (inr (a, kept, stands)) =
    absurd (coloured_or_kept graph state colours place c a colour kept)
one_claims graph state colours view owned p q place p_runs q_runs p_top q_top
    (inr (a, kept, stands)) (inl (c, colour, held)) =
    absurd (coloured_or_kept graph state colours place c a colour kept)
one_claims graph state colours view owned p q place p_runs q_runs p_top q_top
    (inr (a, kept, stands)) (inr (b, other, stood)) =
    owned.exclusive (record { running = p_runs; top = p_top; executor = stands })
    (record {
      running = q_runs;
      top = q_top;
      executor = stood ∙ ap On (sym (same_keeper graph state colours place a b kept other));
    })
