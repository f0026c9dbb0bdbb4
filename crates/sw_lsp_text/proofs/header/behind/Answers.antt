use Rattle.std.proofs.Common.{◌+◌}
use Rattle.sw_lsp_text.proofs.Lines.{rest_of}
use Rattle.sw_lsp_text.proofs.header.behind.Goals as goal

pub returns : goal.returns
returns c = rest_of c.args.bytes.now (c.args.end + 1)
