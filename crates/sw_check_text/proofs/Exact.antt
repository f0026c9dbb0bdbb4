-- A text has verdicts of one kind.
use Rattle.std.proofs.Common.{ℕ, List, [], ◌∷◌}
use Rattle.sw_decls.specs.declared.signature.AsyncDefault.{AsyncDefault}
use Rattle.sw_verdict.specs.Phases.{Races as RacePhase, all_phases, phases_to_size}
use Rattle.sw_verdict.specs.Verdict.{Accepts, Breaches, Refuses}
use Rattle.sw_verdict.proofs.LoweredTexts.{accepted_to_size}
use Rattle.sw_verdict.proofs.Verdicts.{never_both, refused_before}
use Rattle.sw_check_text.specs.Verdicts.{Accepting, IsVerdictOn, NamesRaces, Refusing}
use Rattle.sw_check_text.specs.declared.checking.Verdict.{Verdict}
use Rattle.sw_check_text.specs.declared.checking.Verdict.TheVariants.{Accepted, Races, Refused}

module _ (rule : AsyncDefault) (text : List ℕ) where
  pub only_accepted : (verdict : Verdict) → IsVerdictOn rule text verdict → Accepts rule text
      → Accepting verdict
  only_accepted (Accepted checked actors) is accepts = tt
  only_accepted (Races graph breaches) is accepts =
      never_both rule all_phases text accepts (breaches, is.some, is.are)
  only_accepted (Refused breach) is accepts =
      never_both rule all_phases text accepts
      (breach ∷ [], (λ e. cc), refused_before rule RacePhase text (breach ∷ []) (λ e. cc) is)

  pub only_races : (verdict : Verdict) → IsVerdictOn rule text verdict
      → Breaches rule phases_to_size text [] → Refuses rule all_phases text → NamesRaces verdict
  only_races (Accepted checked actors) is passes refuses =
      never_both rule all_phases text is.accepts refuses
  only_races (Races graph breaches) is passes refuses = tt
  only_races (Refused breach) is passes refuses =
      never_both rule phases_to_size text passes (breach ∷ [], (λ e. cc), is)

  pub only_refused : (verdict : Verdict) → IsVerdictOn rule text verdict
      → Refuses rule phases_to_size text → Refusing verdict
  only_refused (Accepted checked actors) is refuses =
      never_both rule phases_to_size text (accepted_to_size rule text is.accepts) refuses
  only_refused (Races graph breaches) is refuses =
      never_both rule phases_to_size text is.passes refuses
  only_refused (Refused breach) is refuses = tt
