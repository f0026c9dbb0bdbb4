-- A secure state from its parts: after a step, and where colours become one.
use Rattle.std.proofs.Common.{ℕ, Option, List}
use Rattle.sw_graph.specs.declared.graph.Graph.{Graph}
use Rattle.sw_value.specs.declared.state.State.{State}
use Rattle.sw_value.specs.Reach.{step_of}
use Rattle.sw_partition.specs.Regions.{Regions}
use Rattle.sw_machine_kind_facts.specs.Kinded.{KindedLater}
use Rattle.sw_machine_kind_facts.proofs.NeverStuck.{step_kinded}
use Rattle.sw_owner_facts.specs.Colours.{Colour}
use Rattle.sw_reach_facts.specs.Coloured.{HaveColours}
use Rattle.sw_store_facts.specs.Sound.{HasSoundView}
use Rattle.sw_view_facts.specs.Renaming.{united}
use Rattle.sw_view_facts.specs.Views.{Colours}
use Rattle.sw_secure_facts.specs.Memory.{OwnsMemory}
use Rattle.sw_secure_facts.specs.Secure.{HeresFit, IsSecure, WaitsFit}
use Rattle.sw_secure_facts.proofs.Recoloured.{have_united, heres_united, memory_united}

module _ (graph : Graph) (states : ℕ → List (Option Regions)) (state : State) (colours : Colours)
    (s : IsSecure graph states state colours) where
  -- the kinds after a step
  pub later_kinds : (item : ℕ)
      → KindedLater graph s.coloured.kinded.world (step_of graph state item)
  later_kinds item = step_kinded graph s.coloured.supplied state item s.coloured.kinded

  -- the state after a step
  pub secured : (item : ℕ) (after : Colours)
      → HaveColours graph (step_of graph state item).cells after.cells
      → HasSoundView graph states (step_of graph state item) after
      → OwnsMemory graph (step_of graph state item) after
      → HeresFit (step_of graph state item) after
      → WaitsFit graph (later_kinds item).kinded.world.results (step_of graph state item)
      → IsSecure graph states (step_of graph state item) after
  secured item after have sound memory heres waits = record {
    coloured = record {
      clean = s.coloured.clean;
      supplied = s.coloured.supplied;
      annotates = s.coloured.annotates;
      kinded = (later_kinds item).kinded;
      have = have;
      sound = sound;
    };
    memory = memory;
    heres = heres;
    waits = waits;
  }

  -- the same state, where colours have become one
  pub secure_united : (job : ℕ) (numbers : List ℕ) (kept : Colour)
      → HasSoundView graph states state (united job numbers kept colours)
      → IsSecure graph states state (united job numbers kept colours)
  secure_united job numbers kept sound = record {
    coloured = record {
      clean = s.coloured.clean;
      supplied = s.coloured.supplied;
      annotates = s.coloured.annotates;
      kinded = s.coloured.kinded;
      have = have_united graph state job numbers kept colours s.coloured.have;
      sound = sound;
    };
    memory = memory_united graph state job numbers kept colours s.memory;
    heres = heres_united graph state job numbers kept colours s.heres;
    waits = s.waits;
  }
