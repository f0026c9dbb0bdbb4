-- What a state keeps when colours are renamed and actors' colours stay.
use Rattle.std.proofs.Common.{◌≡◌, ℕ, Option, Some, None, List, length, map, Contains, refl}
use Rattle.std.proofs.Common.{sym, subst, ap, ◌∙◌}
use Rattle.std.specs.Option.{option_map}
use Rattle.std.specs.List.{slice_get, slice_index_or}
use Rattle.std.proofs.lemmas.List.{length-map}
use Rattle.std.proofs.lemmas.Option.{slice_get-map}
use Rattle.sw_list.proofs.ListLemmas.{some_injective}
use Rattle.sw_graph.specs.declared.graph.Graph.{Graph}
use Rattle.sw_value.specs.declared.job.Job.{Job}
use Rattle.sw_value.specs.declared.state.State.{State}
use Rattle.sw_value.specs.declared.value.Value.{Value}
use Rattle.sw_owner_facts.specs.Colours.{Actor, Colour, OfActor}
use Rattle.sw_reach_facts.specs.Coloured.{HaveColours}
use Rattle.sw_reach_facts.specs.Reached.{colours_of}
use Rattle.sw_reach_facts.proofs.RenamedLemmas.{colours_renamed, index_renamed}
use Rattle.sw_view_facts.specs.Renaming.{recoloured_by, united}
use Rattle.sw_view_facts.specs.Views.{Colours}
use Rattle.sw_view_facts.proofs.RenameLemmas.{of_map}
use Rattle.sw_secure_facts.specs.Memory.{OwnsMemory, ReachesOnly}
use Rattle.sw_secure_facts.specs.Secure.{HeresFit}
use Rattle.sw_secure_facts.proofs.Uniting.{united_keeps}

module _ (graph : Graph) (state : State) (f : Colour → Colour) (colours : Colours)
    (stay : (a : Actor) → f (OfActor a) ≡ OfActor a) where
  abbrev after : Colours
  after = recoloured_by f colours

  -- what a value reaches was reached, under its old name
  pub reached_was : (v : Value) (other : Colour)
      → Contains (colours_of state.cells after.cells v) other
      → (c : Colour) × Contains (colours_of state.cells colours.cells v) c × (f c ≡ other)
  reached_was v other has = of_map f (colours_of state.cells colours.cells v) other
      (subst (λ (l : List Colour). Contains l other)
      (colours_renamed f state.cells colours.cells v) has)

  -- and so had a cell its colour
  pub colour_was : (c : ℕ) (own : Colour) → slice_index_or after.cells c None ≡ Some own
      → (old : Colour) × (slice_index_or colours.cells c None ≡ Some old) × (f old ≡ own)
  colour_was c own is = by (slice_index_or colours.cells c None) refl
      (sym (index_renamed f colours.cells c) ∙ is) where
        by : (o : Option Colour) → slice_index_or colours.cells c None ≡ o
            → option_map f o ≡ Some own
            → (old : Colour) × (slice_index_or colours.cells c None ≡ Some old) × (f old ≡ own)
        by None e is = cc
        by (Some old) e is = (old, e, some_injective is)

  only_later : (v : Value) (own : Colour) → ReachesOnly state colours v own
      → ReachesOnly state after v (f own)
  only_later v own only other has =
      let old = reached_was v other has in
      sym old.2 ∙ ap f (only old.0 old.1)

  pub memory_recoloured : OwnsMemory graph state colours → OwnsMemory graph state after
  memory_recoloured memory = record {
    count = length-map colours.cells (option_map f) ∙ memory.count;
    marked = λ c cell at may.
        let found = memory.marked c cell at may in
        (f found.0, index_renamed f colours.cells c ∙ ap (option_map f) found.1);
    inside = λ c cell own v at is has other reached.
        let old = colour_was c own is in
        only_later v old.0 (memory.inside c cell old.0 v at old.1 has) other reached ∙ old.2;
    kept = λ c cell owner v at is has other reached.
        only_later v (OfActor owner) (memory.kept c cell owner v at is has) other reached
        ∙ stay owner;
    globals = λ g kind v other at is reached.
        let old = reached_was v other reached in
        let before = memory.globals g kind v old.0 at is old.1 in
        (before.0, before.1, sym old.2 ∙ ap f before.2 ∙ stay _);
    global_closures = λ c g actor captures colour at iso is.
        let old = colour_was c colour is in
        sym old.2 ∙ ap f (memory.global_closures c g actor captures old.0 at iso old.1) ∙ stay _;
    own_closures = λ c g self captures colour at iso is.
        let old = colour_was c colour is in
        let before = memory.own_closures c g self captures old.0 at iso old.1 in
        (before.0, before.1, sym old.2 ∙ ap f before.2 ∙ stay _);
    earlier = memory.earlier;
  }

  pub have_recoloured : HaveColours graph state.cells colours.cells
      → HaveColours graph state.cells after.cells
  have_recoloured have c colour is =
      let old = colour_was c colour is in
      have c old.0 old.1

  pub heres_recoloured : HeresFit state colours → HeresFit state after
  heres_recoloured fit = record {
    jobs = length-map colours.heres (map f) ∙ fit.jobs;
    frames = λ j job row there at.
        by j job row there (slice_get colours.heres j) refl
        (sym (slice_get-map (map f) colours.heres j) ∙ at);
  }
    where
      by : (j : ℕ) (job : Job) (row : List Colour) → slice_get state.jobs j ≡ Some job
          → (o : Option (List Colour)) → slice_get colours.heres j ≡ o
          → option_map (map f) o ≡ Some row → length row ≡ length job.frames
      by j job row there None e is = cc
      by j job row there (Some old) e is =
          ap (λ (l : List Colour). length l) (sym (some_injective is)) ∙ length-map old f
          ∙ fit.frames j job old there e

-- ---- where colours become one
module _ (graph : Graph) (state : State) (job : ℕ) (numbers : List ℕ) (kept : Colour)
    (colours : Colours) where
  pub memory_united : OwnsMemory graph state colours
      → OwnsMemory graph state (united job numbers kept colours)
  memory_united = united_keeps (OwnsMemory graph state)
      (λ f c stay. memory_recoloured graph state f c stay) job numbers kept colours

  pub have_united : HaveColours graph state.cells colours.cells
      → HaveColours graph state.cells (united job numbers kept colours).cells
  have_united = united_keeps (λ (c : Colours). HaveColours graph state.cells c.cells)
      (λ f c stay. have_recoloured graph state f c stay) job numbers kept colours

  pub heres_united : HeresFit state colours
      → HeresFit state (united job numbers kept colours)
  heres_united = united_keeps (HeresFit state)
      (λ f c stay. heres_recoloured graph state f c stay) job numbers kept colours
