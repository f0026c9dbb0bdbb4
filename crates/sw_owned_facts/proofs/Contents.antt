-- What cells and globals hold is their own.
use Rattle.std.proofs.Common.{◌≡◌, ℕ, true, Option, Some, None, List}
use Rattle.std.proofs.Common.{is_some, Contains, refl, sym, ap, ◌∙◌}
use Rattle.std.specs.Prelude.{slice_index_or}
use Rattle.std.specs.Option.{option_map}
use Rattle.std.specs.List.{slice_get}
use Rattle.sw_graph.specs.declared.graph.Graph.{Graph}
use Rattle.sw_value.specs.declared.cell.HeapCell.{HeapCell}
use Rattle.sw_value.specs.declared.cell.HeapCell.TheVariants as cell
use Rattle.sw_value.specs.declared.state.State.{State}
use Rattle.sw_value.specs.declared.value.Value.{Value}
use Rattle.sw_color_rules.specs.declared.colored.Colored.{Colored}
use Rattle.sw_color_rules.specs.Tints.{color_number}
use Rattle.sw_partition.specs.Regions.{Regions}
use Rattle.sw_owner_facts.specs.Colours.{Actor, Colour, GlobalActor, Instance, OfActor}
use Rattle.sw_reach_facts.specs.Coloured.{may_have_colour}
use Rattle.sw_reach_facts.specs.Reached.{colours_of}
use Rattle.sw_late_facts.specs.Hues.{hue}
use Rattle.sw_secure_facts.specs.Secure.{IsSecure}
use Rattle.sw_hue_facts.specs.Hued.{hued}
use Rattle.sw_secure_late_facts.proofs.Values.{number_shows}
use Rattle.sw_owned_facts.specs.Owned.{HasOnlyOf}
use Rattle.sw_owned_facts.specs.Owned.{HoldTheirOwn}
use Rattle.sw_owned_facts.proofs.Numbers.{IsKnown, is_actors, is_colour}
use Rattle.sw_owned_facts.proofs.Numbers.{owner_as, reaches, secure}

module _ (graph : Graph) (states : ℕ → List (Option Regions)) (colored : Colored)
    (known : IsKnown graph states colored) where
  abbrev state : State
  state = colored.state

  abbrev shade : ℕ → Colour
  shade = hue colored.colors.palette

  is_secure : IsSecure graph states colored.state (hued colored.colors)
  is_secure = secure graph states colored known

  -- the hue of a coloured cell
  pub shows : (c n : ℕ) → color_number colored.colors.cells c ≡ Some n
      → slice_index_or (hued colored.colors).cells c None ≡ Some (hue colored.colors.palette n)
  shows c n is = number_shows colored.colors.palette colored.colors.cells c
      ∙ ap (option_map (hue colored.colors.palette)) is

  -- a cell that may have a colour has a number
  pub numbered : (c : ℕ) (here : HeapCell) → slice_get colored.state.cells c ≡ Some here
      → may_have_colour graph here ≡ true
      → (n : ℕ) × (color_number colored.colors.cells c ≡ Some n)
  numbered c here there may = by (color_number colored.colors.cells c) refl where
    by : (o : Option ℕ) → color_number colored.colors.cells c ≡ o
        → (n : ℕ) × (color_number colored.colors.cells c ≡ Some n)
    by (Some n) is = (n, is)
    by None is =
        let has = is_secure.memory.marked c here there may in
        let clash : None ≡ Some has.0 =
        sym (number_shows colored.colors.palette colored.colors.cells c
        ∙ ap (option_map (hue colored.colors.palette)) is) ∙ has.1 in
        absurd (let none : ⊥ = cc in none)

  -- where all that a value reaches is an actor's
  only_of : (v : Value) (a : Actor)
      → ((c : Colour) → Contains (colours_of colored.state.cells (hued colored.colors).cells v) c
      → c ≡ OfActor a) → HasOnlyOf colored v (owner_as a)
  only_of v a all colour has =
      let reached = reaches graph states colored known v colour has in
      is_actors graph states colored known reached.number colour a reached.is
      (all (hue colored.colors.palette reached.number) reached.reached)

  pub contents : HoldTheirOwn graph colored
  contents = record {
    coloured = λ c here there may.
        ap is_some (numbered c here there may).1;
    inside = λ c n here v colour there is among has.
        let reached = reaches graph states colored known v colour has in
        sym reached.is
        ∙ is_colour graph states colored known reached.number n
        (is_secure.memory.inside c here (hue colored.colors.palette n) v there (shows c n is) among
        (hue colored.colors.palette reached.number) reached.reached);
    actors = λ c k parts v there among.
        only_of v (Instance c)
        (is_secure.memory.kept c (cell.Actor k parts) (Instance c) v there refl among);
    objects = λ c k g parts v there of among.
        only_of v (GlobalActor g)
        (is_secure.memory.kept c (cell.Object k parts) (GlobalActor g) v there
        (ap (option_map GlobalActor) of) among);
    globals = λ g kind v colour at has_value has.
        let reached = reaches graph states colored known v colour has in
        let own = is_secure.memory.globals g kind v (hue colored.colors.palette reached.number) at
        has_value reached.reached in (
          own.0,
          own.1,
          is_actors graph states colored known reached.number colour (GlobalActor own.0) reached.is
              own.2,
        );
  }
