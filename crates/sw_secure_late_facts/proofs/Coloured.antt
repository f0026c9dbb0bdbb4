-- Each state of the coloured machine is secure by hue: its colours are the late ones once all that
-- jobs take along is delivered.
use Rattle.std.proofs.Common.{◌≡◌, ◌<◌, ℕ, Bool, true, false, not, Option, Some, None, List, length}
use Rattle.std.proofs.Common.{map, get_or}
use Rattle.std.proofs.Common.{[], refl, sym, subst, ap, ◌∙◌, arith, inl, inr}
use Rattle.std.specs.List.{All, slice_get}
use Rattle.std.specs.Option.{option_and_then}
use Rattle.std.proofs.lemmas.List.Elements.{All-cons, All-nil}
use Rattle.std.proofs.lemmas.Option.{slice_get-get_or, slice_get_within}
use Rattle.sw_list.proofs.ListLemmas.{some_injective}
use Rattle.sw_types.specs.Sendable.{sends_at}
use Rattle.sw_graph.specs.declared.graph.Graph.{Graph}
use Rattle.sw_graph.specs.Clean.{IsClean}
use Rattle.sw_graph.specs.Supplied.{IsSupplied}
use Rattle.sw_value.specs.declared.cell.HeapCell.{HeapCell}
use Rattle.sw_value.specs.declared.cell.HeapCell.TheVariants.{Object, Actor, BoxOf, Closure, TaskOf}
use Rattle.sw_value.specs.declared.state.State.{State}
use Rattle.sw_machine_kind_facts.proofs.ItemLemmas.{found_within}
use Rattle.sw_color_rules.specs.declared.colored.Colored.{Colored as Machine}
use Rattle.sw_color_rules.specs.declared.colors.Colors.{Colors}
use Rattle.sw_color_rules.specs.declared.colors.Owner.{Owner}
use Rattle.sw_color_rules.specs.declared.colors.Owner.TheVariants as owner
use Rattle.sw_color_rules.specs.declared.colors.Palette.{Palette}
use Rattle.sw_color_rules.specs.declared.colors.Tint.{Tint}
use Rattle.sw_color_rules.specs.declared.colors.Tint.TheVariants.{Bare, Colored, Owns, Holds}
use Rattle.sw_color_rules.specs.Machine.{colored_reach, global_count}
use Rattle.sw_color_rules.specs.Names.{name_in}
use Rattle.sw_color_rules.specs.Palette.{IsWhole, owner_in}
use Rattle.sw_color_rules.specs.Plans.{next_color}
use Rattle.sw_color_rules.specs.Tints.{owned_by, owned_number}
use Rattle.sw_color_rules.proofs.PlanRanges.{reach_made}
use Rattle.sw_partition.specs.Regions.{Regions}
use Rattle.sw_owner_facts.specs.Colours.{GlobalActor, Instance, OfActor, OfJob}
use Rattle.sw_reach_facts.specs.Coloured.{runs_isolated}
use Rattle.sw_late_facts.specs.Alike.{AreAlike, delivered, job_of}
use Rattle.sw_late_facts.specs.Hues.{hue, hue_by}
use Rattle.sw_late_facts.specs.Late.{Cargo, Late, late_reach}
use Rattle.sw_late_facts.specs.Owners.{KeepNumbers, TakesOwn}
use Rattle.sw_late_facts.proofs.Carriers.{reach_goes}
use Rattle.sw_late_facts.proofs.Once.{reach_once}
use Rattle.sw_late_facts.proofs.Reached.{alike, reach_follows}
use Rattle.sw_late_facts.proofs.SameOwners.{owners_delayed, owners_same}
use Rattle.sw_secure_facts.specs.Secure.{IsSecure}
use Rattle.sw_secure_job_facts.specs.Begins.{AreAnnotated}
use Rattle.sw_hue_facts.specs.Hued.{cell_hue, hued}
use Rattle.sw_hue_facts.specs.Tinted.{TintFits, TintsFit}
use Rattle.sw_hue_facts.proofs.Colours.{hued_alike}
use Rattle.sw_hue_facts.proofs.Retinted.{tints_renamed}
use Rattle.sw_secure_late_facts.specs.LateSecure.{CargoFits, IsLateSecure, taking_nothing}
use Rattle.sw_secure_late_facts.proofs.Arriving.{Stands, all_arrive}
use Rattle.sw_secure_late_facts.proofs.Everywhere.{late_secure}
use Rattle.sw_secure_late_facts.proofs.Numbers.{all_in}

-- ---- owners by hue
pub actor_by : (o : Option Owner) (n c : ℕ) → hue_by o n ≡ OfActor (Instance c) → o ≡ Some
    (owner.ActorOf c)
actor_by None n c is = cc
actor_by (Some (owner.Job j)) n c is = cc
actor_by (Some (owner.ActorOf d)) n c is = cc
actor_by (Some (owner.Global g)) n c is = cc

pub global_by : (o : Option Owner) (n g : ℕ) → hue_by o n ≡ OfActor (GlobalActor g)
    → o ≡ Some (owner.Global g)
global_by None n g is = cc
global_by (Some (owner.Job j)) n g is = cc
global_by (Some (owner.ActorOf d)) n g is = cc
global_by (Some (owner.Global h)) n g is = cc

job_by : (o : Owner) (n job number : ℕ) → hue_by (Some o) n ≡ OfJob job number → o ≡ owner.Job job
job_by (owner.Job j) n job number is = cc
job_by (owner.ActorOf c) n job number is = cc
job_by (owner.Global g) n job number is = cc

pub job_owns : (p : Palette) → IsWhole p → (n : ℕ) → n < length p.names → (job number : ℕ)
    → hue p n ≡ OfJob job number → owner_in p n ≡ Some (owner.Job job)
job_owns p whole n inside job number is =
    has ∙ ap (λ o. Some o) (job_by own (name_in p.names n) job number
    (ap (λ o. hue_by o (name_in p.names n)) (sym has) ∙ is))
  where
    own : Owner
    own = get_or p.owners (name_in p.names n) (owner.Job 0)

    has : owner_in p n ≡ Some (get_or p.owners (name_in p.names n) (owner.Job 0))
    has = slice_get-get_or p.owners (name_in p.names n) (owner.Job 0)
        (omega (arith, whole.owned, whole.lower n, inside))

-- ---- what an actor owns by number
owning_tint : (t : Tint) (n : ℕ) → owned_by t ≡ Some n → t ≡ Owns n
owning_tint (Owns m) n is = ap Owns (some_injective is)
owning_tint Bare n is = cc
owning_tint (Colored m) n is = cc
owning_tint (Holds ns) n is = cc

module _ (graph : Graph) (cells : List HeapCell) (colors : Colors)
    (fit : TintsFit graph cells colors) where
  owning_cell : (c n : ℕ) (cell : HeapCell) (t : Tint) → t ≡ Owns n → TintFits graph cells colors c
      cell t
      → hue colors.palette n ≡ OfActor (Instance c)
  owning_cell c n (Object k parts) t is fits = by (sends_at graph.shapes k) refl where
    by : (b : Bool) → sends_at graph.shapes k ≡ b → hue colors.palette n ≡ OfActor (Instance c)
    by true sends = absurd (let wrong = sym is ∙ fits.bare sends in let clash : ⊥ = cc in clash)
    by false keeps =
        let coloured = fits.coloured (ap not keeps) in
        absurd (let wrong = sym is ∙ coloured.1 in let clash : ⊥ = cc in clash)
  owning_cell c n (Actor k parts) t is fits =
      let own = fits.owns k parts refl in
      let both : Owns own.0 ≡ Owns n = sym own.1 ∙ is in
      let same : own.0 ≡ n = cc in
      ap (hue colors.palette) (sym same) ∙ own.2
  owning_cell c n (BoxOf v) t is fits =
      absurd (let coloured = fits.coloured refl in let wrong = sym is ∙ coloured.1
      in let clash : ⊥ = cc in clash)
  owning_cell c n (Closure f captures) t is fits = by (runs_isolated graph f) refl where
    by : (b : Bool) → runs_isolated graph f ≡ b → hue colors.palette n ≡ OfActor (Instance c)
    by true isolated = absurd (let coloured = fits.coloured isolated in
        let wrong = sym is ∙ coloured.1 in let clash : ⊥ = cc in clash)
    by false free = absurd (let held = fits.holds f captures refl free in
        let wrong = sym is ∙ held.1 in let clash : ⊥ = cc in clash)
  owning_cell c n (TaskOf j) t is fits =
      absurd (let wrong = sym is ∙ fits.bare refl in let clash : ⊥ = cc in clash)

  owns_number : (c n : ℕ) → owned_number colors.cells c ≡ Some n
      → hue colors.palette n ≡ OfActor (Instance c)
  unfolding owned_number
  owns_number c n is = by (slice_get colors.cells c) refl is where
    by : (o : Option Tint) → slice_get colors.cells c ≡ o → option_and_then owned_by o ≡ Some n
        → hue colors.palette n ≡ OfActor (Instance c)
    by None at e = absurd (let clash : ⊥ = cc in clash)
    by (Some t) at e =
        let low = slice_get_within colors.cells c t at in
        let count = fit.count in
        let cell = found_within cells c (omega (arith, low, count)) in
        owning_cell c n cell.0 t (owning_tint t n e) (fit.each c cell.0 t cell.1 at)

-- ---- the coloured machine
module _ (graph : Graph) (clean : IsClean graph) (supplied : IsSupplied graph)
    (states : ℕ → List (Option Regions)) (annotated : AreAnnotated graph states) (items : List ℕ)
  where
    abbrev late : Late
    late = late_reach graph items

    abbrev early : Machine
    early = colored_reach graph items

    secure : IsLateSecure graph states late
    secure = late_secure graph clean supplied states annotated items

    pub keep_numbers : KeepNumbers (global_count graph.functions) late.colors
    keep_numbers = record {
      actors = λ c n is. actor_by (owner_in late.colors.palette n)
          (name_in late.colors.palette.names n) c
          (owns_number graph late.state.cells late.colors secure.tints c n is);
      globals = λ g few. global_by (owner_in late.colors.palette g)
          (name_in late.colors.palette.names g) g
          (secure.globals g few);
    }

    pub take_own : All (TakesOwn late.colors) late.cargo
    take_own k d within = record {
      each = λ n has.
          let c : Cargo = get_or late.cargo k d in
          let own = (secure.cargo k d within).owned n has in
          inl (job_owns late.colors.palette secure.whole n
          (all_in (λ m. m < next_color late.colors) c.colors n
          (reach_goes graph items k d within).colors_made has)
          c.job own.0 own.1);
    }

    -- once all is delivered
    arrived : Stands graph states late.state (next_color late.colors) (delivered late) []
    arrived = all_arrive graph states late.state (next_color late.colors) late.cargo late.colors
        (record {
          whole = secure.whole;
          made = secure.made;
          counted = refl;
          tints = secure.tints;
          secure = secure.secure;
          fits = secure.cargo;
          below = λ k d within.
              let goes = reach_goes graph items k d within in
              let c : Cargo = get_or late.cargo k d in
              All-cons (λ n. n < next_color late.colors) c.actor c.colors goes.made
              goes.colors_made;
          once = reach_once graph items;
        })

    same : AreAlike early.colors (delivered late)
    same = alike graph early late (reach_follows graph items)

    hues_same : (n : ℕ) → hue early.colors.palette n ≡ hue (delivered late).palette n
    hues_same n =
        ap (λ o. hue_by o (name_in early.colors.palette.names n))
        (owners_same graph items keep_numbers take_own n)
        ∙ ap (λ names. hue_by (owner_in (delivered late).palette n) (name_in names n)) same.names

    hued_same : hued early.colors ≡ hued (delivered late)
    hued_same =
        hued_alike (record early.colors { palette = (delivered late).palette }) early.colors.palette
        hues_same
        ∙ ap (λ (ts : List Tint). record {
          cells = map (cell_hue (delivered late).palette) ts;
          heres = map (map (hue (delivered late).palette)) early.colors.heres;
        }) same.cells
        ∙ ap (λ (hs : List (List ℕ)). record {
          cells = map (cell_hue (delivered late).palette) (delivered late).cells;
          heres = map (map (hue (delivered late).palette)) hs;
        }) same.heres

    pub colored_secure : IsSecure graph states early.state (hued early.colors)
    colored_secure = subst (λ (t : State). IsSecure graph states t (hued early.colors))
        (sym (reach_follows graph items).state)
        (subst (IsSecure graph states late.state) (sym hued_same) arrived.secure)

    -- ---- what is noted by number
    fits_there : TintsFit graph late.state.cells (record {
      cells = (delivered late).cells;
      palette = early.colors.palette;
      heres = (delivered late).heres;
    })
    fits_there = tints_renamed graph late.state.cells (delivered late) early.colors.palette
        (λ c. c) hues_same (λ a. refl) arrived.tints

    colored_tints : TintsFit graph early.state.cells early.colors
    colored_tints =
        subst (λ (t : State). TintsFit graph t.cells early.colors)
        (sym (reach_follows graph items).state)
        (subst (λ (ts : List Tint). TintsFit graph late.state.cells (record {
          cells = ts;
          palette = early.colors.palette;
          heres = early.colors.heres;
        })) (sym same.cells)
        (subst (λ (hs : List (List ℕ)). TintsFit graph late.state.cells (record {
          cells = (delivered late).cells;
          palette = early.colors.palette;
          heres = hs;
        })) (sym same.heres) fits_there))

    -- what an actor owns in the late colours it owns
    actor_stays : (n : ℕ) (o : Owner) → job_of (Some o) ≡ None
        → owner_in late.colors.palette n ≡ Some o → owner_in early.colors.palette n ≡ Some o
    actor_stays n o actor is = elim (owners_delayed graph items keep_numbers take_own n) [
      | inl same ↦ same ∙ is
      | inr taken ↦
          let clash : None ≡ Some taken.cargo.job =
          sym actor ∙ ap job_of (sym is ∙ taken.jobs) in
          absurd (let none : ⊥ = cc in none)
    ]

    pub colored_keep_numbers : KeepNumbers (global_count graph.functions) early.colors
    colored_keep_numbers = record {
      actors = λ c n is. actor_stays n (owner.ActorOf c) refl (keep_numbers.actors c n
          (ap (λ (ts : List Tint). owned_number ts c) (sym (reach_follows graph items).cells)
          ∙ is));
      globals = λ g few. actor_stays g (owner.Global g) refl (keep_numbers.globals g few);
    }

    -- the coloured state as a late one of which nothing is taken along
    pub colored_late : IsLateSecure graph states (taking_nothing early)
    colored_late = record {
      whole = (reach_follows graph items).early_whole;
      made = reach_made graph items;
      globals = λ g few. ap (λ o. hue_by o (name_in early.colors.palette.names g))
          (colored_keep_numbers.globals g few);
      tints = colored_tints;
      cargo = All-nil (CargoFits graph states early.state early.colors);
      secure = colored_secure;
    }
