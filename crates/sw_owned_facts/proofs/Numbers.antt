-- Colours by number and by hue: numbers of one hue are one colour.
use Rattle.std.proofs.Common.{◌≡◌, ◌<◌, ℕ, Option, Some, List, [], Contains, refl, sym, ap}
use Rattle.std.proofs.Common.{◌∙◌}
use Rattle.std.specs.List.{slice_get}
use Rattle.sw_list.proofs.ListLemmas.{some_injective}
use Rattle.sw_graph.specs.declared.graph.Graph.{Graph}
use Rattle.sw_value.specs.declared.value.Value.{Value}
use Rattle.sw_color_rules.specs.declared.colored.Colored.{Colored}
use Rattle.sw_color_rules.specs.declared.colors.Colors.{Colors}
use Rattle.sw_color_rules.specs.declared.colors.Owner.{Owner}
use Rattle.sw_color_rules.specs.declared.colors.Owner.TheVariants as owner
use Rattle.sw_color_rules.specs.declared.colors.Palette.{Palette}
use Rattle.sw_color_rules.specs.Machine.{global_count}
use Rattle.sw_color_rules.specs.Names.{name_in}
use Rattle.sw_color_rules.specs.Palette.{IsWhole, owner_in}
use Rattle.sw_color_rules.specs.Plans.{next_color}
use Rattle.sw_color_rules.specs.Tints.{colors_in}
use Rattle.sw_color_rules.proofs.NumberLemmas.{value_below}
use Rattle.sw_partition.specs.Regions.{Regions}
use Rattle.sw_owner_facts.specs.Colours.{Actor, Colour, GlobalActor, Instance, OfActor, OfJob}
use Rattle.sw_reach_facts.specs.Reached.{colours_of}
use Rattle.sw_view_facts.proofs.RenameLemmas.{of_map}
use Rattle.sw_late_facts.specs.Hues.{hue, hue_by}
use Rattle.sw_late_facts.specs.Owners.{KeepNumbers, OwnByNumber}
use Rattle.sw_secure_facts.specs.Secure.{IsSecure}
use Rattle.sw_hue_facts.specs.Hued.{hued}
use Rattle.sw_secure_late_facts.specs.LateSecure.{IsLateSecure, taking_nothing}
use Rattle.sw_secure_late_facts.proofs.Coloured.{actor_by, global_by, job_owns}
use Rattle.sw_secure_late_facts.proofs.Numbers.{all_in, job_number}
use Rattle.sw_secure_late_facts.proofs.Reading.{value_reads}
use Rattle.sw_secure_late_facts.proofs.Same.{in_hues, nothing_in}
use Rattle.sw_owned_facts.specs.Holding.{colour_with, colours_in, owner_by}

-- an actor as an owner
abbrev pub owner_as : Actor → Owner
owner_as (Instance c) = owner.ActorOf c
owner_as (GlobalActor g) = owner.Global g

pub actor_owns : (p : Palette) (n : ℕ) (a : Actor) → hue p n ≡ OfActor a
    → owner_in p n ≡ Some (owner_as a)
actor_owns p n (Instance c) is = actor_by (owner_in p n) (name_in p.names n) c is
actor_owns p n (GlobalActor g) is = global_by (owner_in p n) (name_in p.names n) g is

-- what is left of a number has its owner and its hue
pub owner_left : (p : Palette) → IsWhole p → (n : ℕ)
    → owner_in p (name_in p.names n) ≡ owner_in p n
owner_left p whole n = ap (slice_get p.owners) (whole.left n)

-- numbers of one hue are one colour
pub same_hue : (count : ℕ) (colors : Colors) → OwnByNumber count colors → (n m : ℕ)
    → hue colors.palette n ≡ hue colors.palette m
    → name_in colors.palette.names n ≡ name_in colors.palette.names m
same_hue count colors own n m same = by (hue colors.palette n) refl where
  by : (c : Colour) → hue colors.palette n ≡ c
      → name_in colors.palette.names n ≡ name_in colors.palette.names m
  by (OfJob job k) is =
      job_number (owner_in colors.palette n) (name_in colors.palette.names n) job k is
      ∙ sym (job_number (owner_in colors.palette m) (name_in colors.palette.names m) job k
      (sym same ∙ is))
  by (OfActor (Instance c)) is =
      let one = own.actors n c (actor_owns colors.palette n (Instance c) is) in
      let other = own.actors m c (actor_owns colors.palette m (Instance c) (sym same ∙ is)) in
      sym one.2 ∙ ap (name_in colors.palette.names) (some_injective (sym one.1 ∙ other.1)) ∙ other.2
  by (OfActor (GlobalActor g)) is =
      sym (own.globals n g (actor_owns colors.palette n (GlobalActor g) is)).1
      ∙ (own.globals m g (actor_owns colors.palette m (GlobalActor g) (sym same ∙ is))).1

-- one colour has one hue
pub same_name : (p : Palette) (n m : ℕ) → name_in p.names n ≡ name_in p.names m → hue p n ≡ hue p m
same_name p n m same = ap (λ k. hue_by (slice_get p.owners k) k) same

-- What is known of a coloured state: it is secure by hue, and actors own their numbers.
pub record IsKnown (graph : Graph) (states : ℕ → List (Option Regions)) (colored : Colored)
    : Type 0 where
  pub late : IsLateSecure graph states (taking_nothing colored)
  pub own : OwnByNumber (global_count graph.functions) colored.colors
  pub keep : KeepNumbers (global_count graph.functions) colored.colors

module _ (graph : Graph) (states : ℕ → List (Option Regions)) (colored : Colored)
    (known : IsKnown graph states colored) where
  abbrev palette : Palette
  palette = colored.colors.palette

  pub secure : IsSecure graph states colored.state (hued colored.colors)
  secure = known.late.secure

  -- what has the hue of a colour that is left is that colour
  pub is_colour : (n m : ℕ) → hue palette n ≡ hue palette m
      → colour_with colored n ≡ colour_with colored m
  is_colour = same_hue (global_count graph.functions) colored.colors known.own

  -- an actor's by hue
  pub is_actors : (n colour : ℕ) (a : Actor) → colour_with colored n ≡ colour
      → hue palette n ≡ OfActor a → owner_by colored colour ≡ Some (owner_as a)
  is_actors n colour a is shade =
      ap (owner_in palette) (sym is) ∙ owner_left palette known.late.whole n
      ∙ actor_owns palette n a shade

  -- a job's by hue
  pub is_jobs : (n colour job k : ℕ) → n < next_color colored.colors
      → colour_with colored n ≡ colour → hue palette n ≡ OfJob job k
      → owner_by colored colour ≡ Some (owner.Job job)
  is_jobs n colour job k made is shade =
      ap (owner_in palette) (sym is) ∙ owner_left palette known.late.whole n
      ∙ job_owns palette known.late.whole n made job k shade

  -- ---- the colours of a value
  -- what a value reaches by hue, where it has a colour by number
  pub record Reaches (v : Value) (colour : ℕ) : Type 0 where
    pub number : ℕ
    pub made : number < next_color colored.colors
    pub is : colour_with colored number ≡ colour
    pub reached : Contains (colours_of colored.state.cells (hued colored.colors).cells v)
        (hue palette number)

  pub reaches : (v : Value) (colour : ℕ) → Contains (colours_in colored v) colour
      → Reaches v colour
  reaches v colour has =
      let found = of_map (colour_with colored) (colors_in colored.colors.cells v) colour has in
      record {
        number = found.0;
        made = all_in (λ n. n < next_color colored.colors) (colors_in colored.colors.cells v)
            found.0 (value_below (next_color colored.colors) colored.colors.cells
            known.late.made.cells v) found.1;
        is = found.2;
        reached = (value_reads graph colored.state.cells colored.colors known.late.tints
            secure.memory.earlier v).to (hue palette found.0)
            (in_hues palette (colors_in colored.colors.cells v) found.0 found.1);
      }

  -- what reaches nothing by hue has no colour
  pub has_none : (v : Value)
      → ((c : Colour) → Contains (colours_of colored.state.cells (hued colored.colors).cells v) c
      → ⊥) → colors_in colored.colors.cells v ≡ []
  has_none v none = nothing_in (colors_in colored.colors.cells v) (λ n has.
      none (hue palette n) ((value_reads graph colored.state.cells colored.colors known.late.tints
      secure.memory.earlier v).to (hue palette n)
      (in_hues palette (colors_in colored.colors.cells v) n has)))
