-- Both colourings have the same owners, where actors keep their own numbers.
use Rattle.std.proofs.Common.{◌≡◌, ◌⊎◌, ℕ, ◌<◌, arith, refl, sym, ap, ◌∙◌, inl, inr}
use Rattle.std.proofs.Common.{Option, Some, None, List, length, slice_get, get_or}
use Rattle.std.specs.List.{All}
use Rattle.std.proofs.lemmas.List.Elements.{Contains-get_or}
use Rattle.std.proofs.lemmas.Option.{slice_get_within, slice_get-get_or}
use Rattle.sw_graph.specs.declared.graph.Graph.{Graph}
use Rattle.sw_color_rules.specs.declared.colors.Owner.{Owner}
use Rattle.sw_color_rules.specs.declared.colors.Owner.TheVariants as owner
use Rattle.sw_color_rules.specs.declared.colors.Colors.{Colors}
use Rattle.sw_color_rules.specs.declared.colors.Palette.{Palette}
use Rattle.sw_color_rules.specs.Names.{name_in}
use Rattle.sw_color_rules.specs.Palette.{IsWhole, owner_in}
use Rattle.sw_color_rules.specs.Tints.{owned_number}
use Rattle.sw_color_rules.specs.Machine.{global_count, colored_reach}
use Rattle.sw_color_rules.proofs.PaletteLemmas.{changes_whole}
use Rattle.sw_late_facts.specs.Late.{Cargo, Late, deliveries, late_reach}
use Rattle.sw_late_facts.specs.Alike.{AreAlike, delivered, job_of}
use Rattle.sw_late_facts.specs.Carriers.{GoesToActor}
use Rattle.sw_late_facts.specs.Owners.{OwnByNumber, KeepNumbers, TakesOwn, IsTaken}
use Rattle.sw_late_facts.proofs.Carriers.{reach_goes}
use Rattle.sw_late_facts.proofs.Cells.{changes_cells, deliveries_quiet}
use Rattle.sw_late_facts.proofs.Delivered.{IsActor, IsOwn, IsCarried, IsBrought, deliveries_bring}
use Rattle.sw_late_facts.proofs.Follows.{Follows}
use Rattle.sw_late_facts.proofs.Once.{reach_once}
use Rattle.sw_late_facts.proofs.Owners.{early_own}
use Rattle.sw_late_facts.proofs.Reached.{alike, reach_follows}

-- ---- two palettes
-- a number that was made has an owner
made_owned : (p : Palette) → IsWhole p → (n : ℕ) → n < length p.names
    → (o : Owner) × (owner_in p n ≡ Some o)
made_owned p whole n inside = (
  get_or p.owners (name_in p.names n) (owner.Job 0),
  slice_get-get_or p.owners (name_in p.names n) (owner.Job 0)
      (omega (arith, whole.owned, whole.lower n, inside)),
)

module _ (count : ℕ) (one other : Colors) (same : AreAlike one other) (one_whole : IsWhole one.palette)
    (other_whole : IsWhole other.palette) (own : OwnByNumber count one) (keep : KeepNumbers count other) where
  -- what is one colour in one of them is so in the other
  together : (m n : ℕ) → name_in one.palette.names m ≡ name_in one.palette.names n
      → owner_in other.palette m ≡ owner_in other.palette n
  together m n e =
      ap (slice_get other.palette.owners)
      (ap (λ names. name_in names m) (sym same.names) ∙ e ∙ ap (λ names. name_in names n) same.names)

  job_there : (n j : ℕ) → job_of (owner_in other.palette n) ≡ Some j
      → owner_in other.palette n ≡ Some (owner.Job j)
  job_there n j e = by (owner_in other.palette n) e where
    by : (o : Option Owner) → job_of o ≡ Some j → o ≡ Some (owner.Job j)
    by None h = cc
    by (Some (owner.Job i)) h = cc
    by (Some (owner.ActorOf c)) h = cc
    by (Some (owner.Global g)) h = cc

  counts : length one.palette.owners ≡ length other.palette.owners
  counts =
      one_whole.owned ∙ ap (λ (names : List ℕ). length names) same.names
      ∙ sym other_whole.owned

  none_there : (n : ℕ) → owner_in one.palette n ≡ None → owner_in other.palette n ≡ None
  none_there n e = by (owner_in other.palette n) refl where
    name : ℕ
    name = name_in other.palette.names n

    by : (o : Option Owner) → owner_in other.palette n ≡ o → o ≡ None
    by None is = refl
    by (Some o) is =
        let inside = slice_get_within other.palette.owners name o is in
        let there = slice_get-get_or one.palette.owners name (owner.Job 0) (omega (arith, counts, inside)) in
        let clash : Some (get_or one.palette.owners name (owner.Job 0)) ≡ None =
        sym there ∙ ap (λ names. slice_get one.palette.owners (name_in names n)) (sym same.names) ∙ e in
        cc

  pub same_owners : (n : ℕ) → owner_in one.palette n ≡ owner_in other.palette n
  same_owners n = by (owner_in one.palette n) refl where
    by : (o : Option Owner) → owner_in one.palette n ≡ o → o ≡ owner_in other.palette n
    by None is = sym (none_there n is)
    by (Some (owner.Job j)) is =
        sym (job_there n j (sym (same.jobs n) ∙ ap job_of is))
    by (Some (owner.ActorOf c)) is =
        let number = own.actors n c is in
        sym (keep.actors c number.0
        (ap (λ cells. owned_number cells c) (sym same.cells) ∙ number.1))
        ∙ together number.0 n number.2
    by (Some (owner.Global g)) is =
        let number = own.globals n g is in
        sym (keep.globals g number.0) ∙ together g n number.1

-- ---- late colours
-- what a job takes, if it goes to an actor and is the job's or that actor's
carried : (colors : Colors) → IsWhole colors.palette → (cargo : Cargo) → GoesToActor colors cargo
    → TakesOwn colors cargo → IsCarried colors.palette cargo
carried colors whole cargo goes takes = record {
  actor = has.0;
  at = has.1;
  is = ap job_of (sym has.1) ∙ goes.actors;
  own = λ k d within. by _ (takes.each _ (Contains-get_or cargo.colors k d within));
} where
  has : (o : Owner) × (owner_in colors.palette cargo.actor ≡ Some o)
  has = made_owned colors.palette whole cargo.actor goes.made

  by : (n : ℕ) → (owner_in colors.palette n ≡ Some (owner.Job cargo.job))
      ⊎ (owner_in colors.palette n ≡ owner_in colors.palette cargo.actor)
      → IsOwn cargo.job has.0 (owner_in colors.palette n)
  by n (inl jobs) = inl jobs
  by n (inr actors) = inr (actors ∙ has.1)

module _ (graph : Graph) (items : List ℕ) where
  abbrev late : Late
  late = late_reach graph items

  abbrev early : Colors
  early = (colored_reach graph items).colors

  abbrev then : Colors
  then = delivered late

  follows : Follows graph (colored_reach graph items) late
  follows = reach_follows graph items

  module _ (keep : KeepNumbers (global_count graph.functions) late.colors)
      (takes : All (TakesOwn late.colors) late.cargo) where
    all_carried : All (IsCarried late.colors.palette) late.cargo
    all_carried k d within =
        carried late.colors follows.late_whole _ (reach_goes graph items k d within) (takes k d within)

    brings : (n : ℕ) → (owner_in then.palette n ≡ owner_in late.colors.palette n)
        ⊎ IsBrought late.cargo late.colors.palette then.palette n
    brings =
        deliveries_bring late.cargo late.colors follows.late_whole (reach_once graph items) all_carried

    -- an actor owns what it owned
    actor_keeps : (n : ℕ) (o : Owner) → IsActor o → owner_in late.colors.palette n ≡ Some o
        → owner_in then.palette n ≡ Some o
    actor_keeps n o is e = elim (brings n) [
      | inl still ↦ still ∙ e
      | inr b ↦
          let clash : None ≡ Some b.one.job = sym is ∙ ap job_of (sym e ∙ b.jobs) in
          absurd (let x : ⊥ = cc in x)
    ]

    keep_then : KeepNumbers (global_count graph.functions) then
    keep_then = record {
      actors = λ c n e. actor_keeps n (owner.ActorOf c) refl (keep.actors c n
          (ap (λ cells. owned_number cells c)
          (sym (changes_cells (deliveries late.cargo) late.colors
          ∙ (deliveries_quiet late.cargo).cells late.colors.cells)) ∙ e));
      globals = λ g few. actor_keeps g (owner.Global g) refl (keep.globals g few);
    }

    pub owners_same : (n : ℕ) → owner_in early.palette n ≡ owner_in then.palette n
    owners_same =
        same_owners (global_count graph.functions) early then
        (alike graph (colored_reach graph items) late follows) follows.early_whole
        (changes_whole (deliveries late.cargo) late.colors follows.late_whole) (early_own graph items)
        keep_then

    pub owners_delayed : (n : ℕ) → (owner_in early.palette n ≡ owner_in late.colors.palette n)
        ⊎ IsTaken late n (owner_in early.palette n)
    owners_delayed n = elim (brings n) [
      | inl still ↦ inl (owners_same n ∙ still)
      | inr b ↦ inr (record {
        cargo = b.one;
        taken = b.among;
        jobs = b.jobs;
        becomes = owners_same n ∙ b.becomes ∙ sym b.at;
      })
    ]
