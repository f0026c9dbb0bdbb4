use Rattle.std.proofs.Common.{◌≡◌, ◌+◌, ◌-◌, option_map, refl, arith}
use Rattle.serde_json.specs.View.{view}
use Rattle.sw_lsp.proofs.Turns.{goes_behind_body}
use Rattle.sw_lsp.proofs.session.answer_body.Goals as goal

pub returns : goal.returns
returns g c =
    let minus : c.args.header + c.args.body - c.args.header ≡ c.args.body = omega arith in
    goes_behind_body c.args.server.now c.args.held.now.items c.step.new.self c.let_go.new.held.items
    (g.W.Write.contents c.args.output.now) (g.W.Write.contents c.send.new.output) c.in_ok-send.ensures.0
    c.in_ok-send.ensures.2 c.args.header c.args.body c.requires.cut c.requires.within _
    (rw (c.deref.ensures.value, minus) refl)
    c.in_ok-sent.ensures.0 (option_map view c.in_ok-sent.sent) c.in_ok-sent.ensures.1
    c.in_ok-send.ensures.1 c.let_go.ensures
