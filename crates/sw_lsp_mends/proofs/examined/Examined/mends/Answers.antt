use Rattle.std.proofs.Common.{◌≡◌, ◌<◌, ◌++◌, Some, None, length, map, option_map, option_to_list, take, sym, arith}
use Rattle.std.proofs.lemmas.List.{append-nil, take_more}
use Rattle.sw_breach.specs.declared.Breach.{Breach}
use Rattle.sw_lsp_mends.specs.Offers.{seen_action}
use Rattle.sw_lsp_mends.proofs.Offering.{mends_push, seen_more}
use Rattle.sw_lsp_mends.proofs.examined.Examined.mends.Goals as goal
use Rattle.sw_lsp_mends.proofs.examined.Examined.mends.Goals.{in-Some+in_ok-push-in-Some, in-None}

pub loop-breach-preserved : goal.loop-breach-preserved
loop-breach-preserved c =
    let breaches = c.args.breaches.now in
    let none : Breach = record { code = 0; at = 0; note = None } in
    let before = c.loop-breach.found.items in
    let more : map seen_action c.match-branch-2.found.items
    ≡ map seen_action before ++ option_to_list (option_map seen_action c.in_ok-action.field-0) =
    elim c.match-branch-2.branch [
      | in-Some+in_ok-push-in-Some w ↦
          rw (w.found-is, w.in-Some.is)
          (seen_more before _ (Some w.in-Some.action) w.in_ok-push-in-Some.ensures.items)
      | in-None w ↦ rw (w.found-is, w.in-None.is) (seen_more before before None (sym (append-nil before)))
    ] in
    let low : c.loop-breach.breach-index < length breaches = omega arith in
    rw (take_more breaches c.loop-breach.breach-index none low, more)
    (mends_push c.args.self.now (take c.loop-breach.breach-index breaches) _ (map seen_action before)
    (option_map seen_action c.in_ok-action.field-0) c.loop-breach.invariant c.in_ok-action.ensures)
