use Rattle.std.proofs.Common.{option_map}
use Rattle.serde_json.specs.View.{view}
use Rattle.sw_lsp.proofs.Turns.{goes_behind_header}
use Rattle.sw_lsp.proofs.session.answer_header.Goals as goal

pub returns : goal.returns
returns g c =
    goes_behind_header c.args.server.now c.args.held.now.items c.let_go.new.held.items
    (g.W.Write.contents c.args.output.now) (g.W.Write.contents c.send.new.output) c.in_ok-send.ensures.0
    c.in_ok-send.ensures.2 c.requires.cut.0 c.args.header c.requires.cut.1 c.requires.cut.2 c.requires.within
    (option_map view c.in_ok-sent.sent) c.in_ok-sent.ensures c.in_ok-send.ensures.1 c.let_go.ensures
