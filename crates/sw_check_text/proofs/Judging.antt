-- The verdict on a text that was judged.
use Rattle.std.proofs.Common.{◌≡◌, ◌≢◌, ℕ, List, [], map, subst}
use Rattle.std.specs.Prelude.{string_bytes}
use Rattle.sw_decls.specs.declared.signature.AsyncDefault.{AsyncDefault}
use Rattle.sw_graph.specs.Clean.{IsClean}
use Rattle.sw_graph.specs.Supplied.{IsSupplied}
use Rattle.sw_region_flow.specs.Passing.{IsPassed}
use Rattle.sw_text_facts.proofs.Graphs.{accepted_clean}
use Rattle.sw_text_facts.proofs.Supplied.{text_supplied}
use Rattle.sw_verdict.specs.Judged.{IsJudged}
use Rattle.sw_verdict.specs.Phases.{Races, RacesFinds}
use Rattle.sw_verdict.specs.Verdict.{Accepts}
use Rattle.sw_verdict.specs.declared.judging.Judged.{Judged}
use Rattle.sw_verdict.proofs.Passing.{accepted_passes}
use Rattle.sw_verdict.proofs.Verdicts.{last_decides}
use Rattle.sw_check_text.specs.Verdicts.{HasRaces, IsAccepted}

module _ (rule : AsyncDefault) (text : List ℕ) (judged : Judged)
    (is : IsJudged rule text judged) where
  accepts : judged.races ≡ [] → Accepts rule text
  accepts none = last_decides rule Races text [] is.made.verdict.0
      (subst (RacesFinds rule text) none is.races)

  pub is_accepted : judged.races ≡ []
      → IsAccepted rule text judged.made.graph (map string_bytes judged.made.actors)
  is_accepted none = record {
    accepts = accepts none;
    of_text = is.made.verdict.1;
    named = is.made.actors;
  }

  pub has_races : judged.races ≢ [] → HasRaces rule text judged.made.graph judged.races
  has_races some = record {
    passes = is.made.verdict.0;
    of_text = is.made.verdict.1;
    some = some;
    are = last_decides rule Races text judged.races is.made.verdict.0 is.races;
  }

  -- what a checked graph asks for
  pub is_clean : judged.races ≡ [] → IsClean judged.made.graph
  is_clean none = accepted_clean rule text judged.made.graph (accepts none) is.made.verdict.1

  pub is_supplied : IsSupplied judged.made.graph
  is_supplied = text_supplied rule text judged.made.graph is.made.verdict.0 is.made.verdict.1

  pub is_passed : judged.races ≡ [] → IsPassed judged.made.graph
  is_passed none = accepted_passes rule text judged.made.graph (accepts none) is.made.verdict.1
