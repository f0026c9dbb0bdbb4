use Rattle.std.proofs.Common.{Some}
use Rattle.serde_json.specs.View.{view}
use Rattle.sw_lsp_text.specs.MessageRead.{seen}
use Rattle.sw_lsp.proofs.server.Server.step.Goals as goal

pub returns-in_ok-sent-in-Ok : goal.returns-in_ok-sent-in-Ok
returns-in_ok-sent-in-Ok c = (
  Some (seen c.read_message.result),
  record {
    said = view c.in-Ok.message;
    is_utf8 = c.in-Ok.ensures.ok.0;
    is_read = c.in-Ok.ensures.ok.1;
    message_is = c.read_message.ensures;
    follows = c.in_ok-sent-in-Ok.ensures;
  },
)
