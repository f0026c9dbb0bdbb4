-- What a verdict says of a text, under a default for asynchronous functions.
use Rattle.std.specs.Prelude.{◌≢◌, ℕ, List, [], ◌∷◌, map, string_bytes}
use Rattle.sw_graph.specs.declared.graph.Graph.{Graph}
use Rattle.sw_breach.specs.declared.Breach.{Breach}
use Rattle.sw_decls.specs.declared.signature.AsyncDefault.{AsyncDefault}
use Rattle.sw_verdict.specs.ActorNames.{HasActorNames}
use Rattle.sw_verdict.specs.Phases.{IsGraphOf, all_phases, phases_to_size}
use Rattle.sw_verdict.specs.Verdict.{Accepts, Breaches}
use Rattle.sw_check_text.specs.declared.checking.Verdict.{Verdict}
use Rattle.sw_check_text.specs.declared.checking.Verdict.TheVariants as verdicts

-- no phase finds a breach in the text, which has this graph and these names of global actors
pub record IsAccepted (rule : AsyncDefault) (text : List ℕ) (graph : Graph)
    (actors : List (List ℕ)) : Type 0 where
  pub accepts : Accepts rule text
  pub of_text : IsGraphOf rule text graph
  pub named : HasActorNames text actors

-- The phases before the last find no breach in the text, which has this graph. The last phase finds
-- these, all of them, and there are some.
pub record HasRaces (rule : AsyncDefault) (text : List ℕ) (graph : Graph)
    (breaches : List Breach) : Type 0 where
  pub passes : Breaches rule phases_to_size text []
  pub of_text : IsGraphOf rule text graph
  pub some : breaches ≢ []
  pub are : Breaches rule all_phases text breaches

-- the phases before the last find this breach in the text
abbrev pub IsRefused : AsyncDefault → List ℕ → Breach → Type 0
IsRefused rule text breach = Breaches rule phases_to_size text (breach ∷ [])

-- `IsVerdictOn rule text verdict`: what the verdict says of the text is so.
abbrev pub IsVerdictOn : AsyncDefault → List ℕ → Verdict → Type 0
IsVerdictOn rule text (verdicts.Accepted checked actors) =
    IsAccepted rule text checked.graph (map string_bytes actors)
IsVerdictOn rule text (verdicts.Races graph breaches) = HasRaces rule text graph breaches
IsVerdictOn rule text (verdicts.Refused breach) = IsRefused rule text breach

-- the three kinds of verdicts
abbrev pub Accepting : Verdict → Type 0
Accepting (verdicts.Accepted checked actors) = Unit {0}
Accepting (verdicts.Races graph breaches) = ⊥
Accepting (verdicts.Refused breach) = ⊥

abbrev pub NamesRaces : Verdict → Type 0
NamesRaces (verdicts.Accepted checked actors) = ⊥
NamesRaces (verdicts.Races graph breaches) = Unit {0}
NamesRaces (verdicts.Refused breach) = ⊥

abbrev pub Refusing : Verdict → Type 0
Refusing (verdicts.Accepted checked actors) = ⊥
Refusing (verdicts.Races graph breaches) = ⊥
Refusing (verdicts.Refused breach) = Unit {0}
