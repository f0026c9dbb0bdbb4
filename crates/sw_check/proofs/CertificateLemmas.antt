-- What the exit of a reply about a certificate says.
use Rattle.std.proofs.Common.{◌≡◌, ℕ, ◌≤◌, inr, List, length, Option, Some, None, Result, Ok, Err}
use Rattle.std.proofs.Common.{refl}
use Rattle.sw_graph.specs.declared.graph.Graph.{Graph}
use Rattle.sw_cert.specs.Reading.{states_of}
use Rattle.sw_region_flow.proofs.Certifying.{certified_passes}
use Rattle.sw_cert_making.specs.Printed.{IsPrinted}
use Rattle.sw_cert.specs.Verified.{IsAccepted, Verified, accepted}
use Rattle.sw_cert.specs.declared.verdict.CertFault.{CertFault}
use Rattle.sw_cert.specs.declared.verdict.TheConstants.{CERTIFICATE_LIMIT}
use Rattle.sw_check_parts.specs.declared.exit.Exit.TheVariants.{Done}
use Rattle.sw_check_parts.specs.declared.outcome.Outcome.{Outcome}
use Rattle.sw_check_parts.specs.Course.{Read, AreOf, Ended, Alone}
use Rattle.sw_check_parts.proofs.Inversions.{EndsAfterFetch, after_fetch, by_rule, fetched, too_long}
use Rattle.sw_decls.specs.declared.signature.AsyncDefault.{AsyncDefault}
use Rattle.sw_replay.specs.declared.output.End.TheVariants.{Ran}
use Rattle.sw_verdict.specs.Phases.{IsGraphOf}
use Rattle.sw_verdict.specs.Verdict.{Accepts}
use Rattle.sw_verdict.proofs.Passing.{certified_accepts}
use Rattle.sw_check_words.specs.Words.{Certify, OnFile, Verify}
use Rattle.sw_check.specs.Claims.{ExitSaysOf, ProgramPasses, Stands, verified_ending}
use Rattle.sw_check.specs.Reply.{Certifies, Verifies, by_certificate, certificate_outcome, prints}
use Rattle.sw_check.specs.Reply.{tests, verified_outcome}
use Rattle.sw_check.proofs.Pieces.{outcome_of}

module _ (files : List ℕ → List ℕ) (rule : AsyncDefault) (file : List ℕ) (graph : Graph)
    (of_text : IsGraphOf rule (files file) graph) where
  -- a certificate is printed
  pub certifies_say : ProgramPasses files (OnFile rule file Certify)
      → (result : Result Outcome Outcome) → Certifies graph result
      → ExitSaysOf files (OnFile rule file Certify) (outcome_of result).exit
  certifies_say whole _ (prints printed is) = by printed is where
    by : (printed : Option (List ℕ)) → IsPrinted graph printed
        → ExitSaysOf files (OnFile rule file Certify) (certificate_outcome printed).exit
    by (Some certificate) is = (
      whole,
      (tt, tt),
      record { graph = graph; of_text = of_text; ends = (Some certificate, is, refl) },
    )
    by None is =
        (whole, (tt, tt), record { graph = graph; of_text = of_text; ends = (None, is, refl) })

  -- a certificate is fetched and tested
  module _ (certificate_file : List ℕ)
      (whole : ProgramPasses files (OnFile rule file (Verify certificate_file))) where
    verifies_say : length (files certificate_file) ≤ CERTIFICATE_LIMIT
        → (result : Result Outcome Outcome) → Verifies graph (files certificate_file) result
        → ExitSaysOf files (OnFile rule file (Verify certificate_file)) (outcome_of result).exit
    verifies_say short _ (tests result is) = by result is where
      by : (result : Result (Unit {0}) CertFault) → Verified graph (files certificate_file) result
          → ExitSaysOf files (OnFile rule file (Verify certificate_file))
          (verified_outcome (files certificate_file) result).exit
      by (Ok value) is = (
        whole,
        (tt, short),
        record { graph = graph; of_text = of_text; ends = (Ok value, is, refl) },
      )
      by (Err fault) is = (
        whole,
        (tt, short),
        fault,
        record { graph = graph; of_text = of_text; ends = (Err fault, is, refl) },
      )

    pub says_certificate : (reads : List Read) (result : Result Outcome Outcome)
        → AreOf files reads → by_certificate certificate_file graph reads (Ended result)
        → ExitSaysOf files (OnFile rule file (Verify certificate_file)) (outcome_of result).exit
    says_certificate reads result of_files ended =
        by result (after_fetch files certificate_file CERTIFICATE_LIMIT
        (λ certificate. Alone (Verifies graph certificate)) reads result of_files ended) where
          by : (result : Result Outcome Outcome)
              → EndsAfterFetch files certificate_file CERTIFICATE_LIMIT
              (λ certificate. Alone (Verifies graph certificate)) result
              → ExitSaysOf files (OnFile rule file (Verify certificate_file)) (outcome_of result).exit
          by _ (too_long long) = inr (whole, inr long)
          by _ (fetched others result short _ ended) =
              verifies_say short result
              (by_rule (Verifies graph (files certificate_file)) others result ended)

-- what was tested without a fault is accepted
is_accepted : (graph : Graph) (certificate : List ℕ) (value : Unit {0})
    → Verified graph certificate (Ok value) → IsAccepted graph certificate
is_accepted graph certificate _ (accepted is) = is

-- a program with a certificate that is accepted has no breach
pub says_certified : (files : List ℕ → List ℕ) (rule : AsyncDefault) (file certificate_file : List ℕ)
    → ExitSaysOf files (OnFile rule file (Verify certificate_file)) Done
    → Accepts rule (files file)
says_certified files rule file certificate_file (whole, fits, so) =
    by so.ends.0 so.ends.1 so.ends.2 where
      by : (result : Result (Unit {0}) CertFault)
          → Verified so.graph (files certificate_file) result
          → Stands Ran ≡ verified_ending result → Accepts rule (files file)
      by (Ok value) is e = certified_accepts rule (files file) so.graph whole.no_breach so.of_text
          (let accepted = is_accepted so.graph (files certificate_file) value is in
          certified_passes so.graph (λ number body is_body.
          (states_of accepted.annotations number, accepted.certified number body is_body)))
      by (Err fault) is e = cc
