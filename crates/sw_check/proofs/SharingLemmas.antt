-- The judgement of a text by the phases up to that of sharing.
use Rattle.std.proofs.Common.{◌≡◌, ◌≢◌, ℕ, List, [], Ok, Err, subst}
use Rattle.sw_decls.specs.declared.signature.AsyncDefault.{AsyncDefault}
use Rattle.sw_verdict.specs.Judged.{IsJudgedBySharing}
use Rattle.sw_verdict.specs.Phases.{Sharing, SharingFinds, phases_to_sharing}
use Rattle.sw_verdict.specs.Verdict.{IsVerdict}
use Rattle.sw_verdict.specs.declared.judging.Judged.{Judged}
use Rattle.sw_verdict.proofs.Verdicts.{last_decides}
use Rattle.sw_check.specs.Programs.{seen_graph}
use Rattle.sw_check.specs.Reply.{IsJudgement, passes}

module _ (rule : AsyncDefault) (text : List ℕ) (judged : Judged)
    (is : IsJudgedBySharing rule text judged) where
  pub is_unshared : judged.races ≡ []
      → IsJudgement rule phases_to_sharing text (Ok (seen_graph judged.made))
  is_unshared none =
      passes (seen_graph judged.made) (
        last_decides rule Sharing text [] is.made.verdict.0
            (subst (SharingFinds rule text) none is.sharing),
        is.made.verdict.1,
      ) is.made.actors

  pub is_shared : judged.races ≢ [] → IsVerdict rule phases_to_sharing text (Err judged.races)
  is_shared some = (some, last_decides rule Sharing text judged.races is.made.verdict.0 is.sharing)
