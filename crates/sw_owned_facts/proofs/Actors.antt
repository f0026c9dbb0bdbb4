-- Each actor owns one colour.
use Rattle.std.proofs.Common.{◌≡◌, ℕ, Some, List, refl, sym, ap, ◌∙◌, Option, arith}
use Rattle.std.specs.List.{slice_get}
use Rattle.std.proofs.lemmas.Option.{slice_get_within}
use Rattle.sw_graph.specs.declared.graph.Graph.{Graph}
use Rattle.sw_value.specs.declared.cell.HeapCell.TheVariants as cell
use Rattle.sw_value.specs.declared.value.Value.{Value}
use Rattle.sw_color_rules.specs.declared.colored.Colored.{Colored}
use Rattle.sw_color_rules.specs.declared.colors.Owner.TheVariants as owner
use Rattle.sw_color_rules.specs.Names.{name_in}
use Rattle.sw_partition.specs.Regions.{Regions}
use Rattle.sw_machine_kind_facts.proofs.ItemLemmas.{found_within}
use Rattle.sw_owner_facts.specs.Colours.{Actor, GlobalActor, Instance, OfActor}
use Rattle.sw_late_facts.specs.Hues.{hue, hue_by}
use Rattle.sw_owned_facts.specs.Holding.{colour_with, owner_by}
use Rattle.sw_owned_facts.specs.Owned.{ActorsHaveOne, OwnsOne}
use Rattle.sw_owned_facts.proofs.Numbers.{IsKnown, is_actors, is_colour, owner_as}
use Rattle.sw_owned_facts.proofs.Standing.{here_home}

module _ (graph : Graph) (states : ℕ → List (Option Regions)) (colored : Colored)
    (known : IsKnown graph states colored) where
  -- what an actor owns has its hue
  shown : (n : ℕ) (a : Actor) → owner_by colored n ≡ Some (owner_as a)
      → hue colored.colors.palette n ≡ OfActor a
  shown n (Instance c) is = ap (λ o. hue_by o (name_in colored.colors.palette.names n)) is
  shown n (GlobalActor g) is = ap (λ o. hue_by o (name_in colored.colors.palette.names n)) is

  owns_one : (n : ℕ) (a : Actor) → hue colored.colors.palette n ≡ OfActor a
      → OwnsOne colored (owner_as a)
  owns_one n a is = (
    colour_with colored n,
    is_actors graph states colored known n (colour_with colored n) a refl is,
    λ m owned. is_colour graph states colored known m n (shown m a owned ∙ sym is),
  )

  of_cell : (c k : ℕ) (parts : List Value)
      → slice_get colored.state.cells c ≡ Some (cell.Actor k parts)
      → OwnsOne colored (owner.ActorOf c)
  of_cell c k parts there =
      let within = slice_get_within colored.state.cells c (cell.Actor k parts) there in
      let count = known.late.tints.count in
      let tint = found_within colored.colors.cells c (omega (arith, within, count)) in
      let own = (known.late.tints.each c (cell.Actor k parts) tint.0 there tint.1).owns k parts refl
      in
      owns_one own.0 (Instance c) own.2

  pub actors : ActorsHaveOne graph colored
  actors = record {
    actors = of_cell;
    globals = λ g few. owns_one g (GlobalActor g) (shown g (GlobalActor g)
        (known.keep.globals g few));
    heres = λ p frame function there is. here_home graph states colored known p frame function
        there is;
  }
