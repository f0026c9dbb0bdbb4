-- Which message of the definitions a message of the code is.
use Rattle.serde_json.specs.View.{view}
use Rattle.sw_lsp_text.specs.Messages as lsp
use Rattle.sw_lsp_text.specs.declared.message.Message.{Message}
use Rattle.sw_lsp_text.specs.declared.message.Message.TheVariants as code

abbrev pub seen : Message → lsp.Message
seen (code.Initialize id nonsending_default) = lsp.Initialize (view id.now) nonsending_default
seen code.Initialized = lsp.Initialized
seen (code.Shutdown id) = lsp.Shutdown (view id.now)
seen code.Exit = lsp.Exit
seen (code.Opened uri text version) = lsp.Opened uri.now text.now version
seen (code.Changed uri text) = lsp.Changed uri.now text.now
seen (code.ChangedInPart uri) = lsp.ChangedInPart uri.now
seen (code.Closed uri) = lsp.Closed uri.now
seen (code.Diagnostic id uri) = lsp.Diagnostic (view id.now) uri.now
seen (code.Hover id uri place) = lsp.Hover (view id.now) uri.now place
seen (code.CodeAction id uri range) = lsp.CodeAction (view id.now) uri.now range
seen code.Ignored = lsp.Ignored
seen (code.Unknown id) = lsp.Unknown (view id.now)
seen (code.BadParams id) = lsp.BadParams (view id.now)
seen code.Invalid = lsp.Invalid
