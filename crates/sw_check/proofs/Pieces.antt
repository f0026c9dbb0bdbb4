-- Pieces that commands have in common.
use Rattle.std.proofs.Common.{ℕ, List, Result, Ok, Err}
use Rattle.sw_check_parts.specs.declared.TheConstants.{PROGRAM_LIMIT}
use Rattle.sw_check_parts.specs.declared.outcome.Outcome.{Outcome}
use Rattle.sw_check_parts.specs.Course.{Part, Alone, Fetched, ◌>>=◌}
use Rattle.sw_decls.specs.declared.signature.AsyncDefault.{AsyncDefault}
use Rattle.sw_verdict.specs.Phases.{Phase}
use Rattle.sw_check.specs.Programs.{Passed}
use Rattle.sw_check.specs.Reply.{IsJudgement}

-- the reply with which a command ends
abbrev pub outcome_of : Result Outcome Outcome → Outcome
outcome_of (Ok outcome) = outcome
outcome_of (Err outcome) = outcome

-- A program is fetched and judged by these phases under a default, and the rest goes on from its
-- text and what passes.
abbrev pub program_then : AsyncDefault → List Phase → List ℕ → (List ℕ → Passed → Part Outcome)
    → Part Outcome
program_then rule phases file rest = do
  text ← Fetched file PROGRAM_LIMIT
  passed ← Alone (IsJudgement rule phases text)
  rest text passed
