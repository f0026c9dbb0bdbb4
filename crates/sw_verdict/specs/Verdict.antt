-- The verdict on the text of a program, under a default for asynchronous functions (see Phases).
use Rattle.std.specs.Prelude.{◌≢◌, ℕ, List, [], ◌∷◌, Result, Ok, Err}
use Rattle.sw_graph.specs.declared.graph.Graph.{Graph}
use Rattle.sw_breach.specs.declared.Breach.{Breach}
use Rattle.sw_decls.specs.declared.signature.AsyncDefault.{AsyncDefault}
use Rattle.sw_verdict.specs.Phases.{Phase, all_phases, Finds, IsGraphOf}

-- `Breaches rule phases text list`: the first of these phases that finds breaches in the text
-- decides, and these are what it finds. The list is empty where none of them finds any.
pub data Breaches (rule : AsyncDefault) : List Phase → List ℕ → List Breach → Type 0 where
  none : (text : List ℕ) → Breaches rule [] text []
  first : (phase : Phase) (phases : List Phase) (text : List ℕ) (breach : Breach)
      (others : List Breach)
      → Finds rule phase text (breach ∷ others)
      → Breaches rule (phase ∷ phases) text (breach ∷ others)
  later : (phase : Phase) (phases : List Phase) (text : List ℕ) (list : List Breach)
      → Finds rule phase text [] → Breaches rule phases text list
      → Breaches rule (phase ∷ phases) text list

-- no phase finds a breach in the text
abbrev pub Accepts : AsyncDefault → List ℕ → Type 0
Accepts rule text = Breaches rule all_phases text []

-- one of these phases finds a breach in the text
abbrev pub Refuses : AsyncDefault → List Phase → List ℕ → Type 0
Refuses rule phases text = (list : List Breach) × (list ≢ []) × Breaches rule phases text list

-- The verdict of these phases on a text: its graph, where none of them finds a breach, or else the
-- breaches of the first that finds any.
abbrev pub IsVerdict : AsyncDefault → List Phase → List ℕ → Result Graph (List Breach) → Type 0
IsVerdict rule phases text (Ok graph) = Breaches rule phases text [] × IsGraphOf rule text graph
IsVerdict rule phases text (Err list) = (list ≢ []) × Breaches rule phases text list
