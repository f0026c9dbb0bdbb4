use Rattle.std.proofs.Common.{string_bytes, arith, rules}
use Rattle.sw_lsp_text.proofs.Texts.{sent_text}
use Rattle.sw_lsp_text.proofs.sending.framed.Goals as goal

pub returns : goal.returns
returns c = record {
  body = string_bytes c.in_ok-body.body;
  sent_is =
      sent_text (string_bytes c.in_ok-sent.sent) (string_bytes c.in_ok-body.body) c.len.result
      (first_of (search rules, omega (arith, c.len.ensures, c.in_ok-body.body.bytes.ok.0)))
      c.in_ok-sent.ensures.ok;
  reads = c.in_ok-body.ensures.reads_back;
}
