-- What is found of a text without a breach up to the size of functions.
use Rattle.std.specs.Prelude.{ℕ, List, Ok, map, string_bytes}
use Rattle.sw_decls.specs.declared.signature.AsyncDefault.{AsyncDefault}
use Rattle.sw_verdict.specs.ActorNames.{HasActorNames}
use Rattle.sw_verdict.specs.Phases.{AreSharedIn, RacesFinds, SharingFinds, phases_to_size}
use Rattle.sw_verdict.specs.Verdict.{IsVerdict}
use Rattle.sw_verdict.specs.declared.judging.Judged.{Judged}
use Rattle.sw_verdict.specs.declared.judging.NamedGraph.{NamedGraph}
use Rattle.sw_verdict.specs.declared.judging.Shared.{Shared}

-- it is the graph of the text, with the names of its global actors
pub record IsNamedGraphOf (rule : AsyncDefault) (text : List ℕ) (made : NamedGraph) : Type 0 where
  pub verdict : IsVerdict rule phases_to_size text (Ok made.graph)
  pub actors : HasActorNames text (map string_bytes made.actors)

-- it is the graph of the text, and these are the values that the text shares and may not
pub record IsSharedOf (rule : AsyncDefault) (text : List ℕ) (found : Shared) : Type 0 where
  pub made : IsNamedGraphOf rule text found.made
  pub shared : AreSharedIn rule text found.shared

-- these are all breaches that the last phase finds in the text too
pub record IsJudged (rule : AsyncDefault) (text : List ℕ) (judged : Judged) : Type 0 where
  pub made : IsNamedGraphOf rule text judged.made
  pub races : RacesFinds rule text judged.races

-- these are all breaches that the phase of sharing finds in the text too
pub record IsJudgedBySharing (rule : AsyncDefault) (text : List ℕ) (judged : Judged) : Type 0 where
  pub made : IsNamedGraphOf rule text judged.made
  pub sharing : SharingFinds rule text judged.races
