-- What is shown for a document, and what was last heard of it; and the answers to requests.
use Rattle.std.specs.Prelude.{◌≡◌, ◌⊎◌, ℕ, Bool, if◌then◌else◌, false, List, [], map, codes, fold}
use Rattle.std.specs.Prelude.{Option, Some, None, option_and_then}
use Rattle.std.specs.Option.{option_or, option_map_or}
use Rattle.std.specs.Str.{bytes_eq}
use Rattle.serde_json.specs.Data.{Data, null}
use Rattle.serde_json.specs.Find.{get}
use Rattle.sw_lsp_text.specs.Messages as lsp
use Rattle.sw_lsp_text.specs.Parts.{text_at}
use Rattle.sw_lsp_text.specs.Replies as reply
use Rattle.sw_lsp_text.specs.declared.diagnostic.Diagnostic.{Diagnostic}
use Rattle.sw_lsp_findings.specs.Findings.{AreFindings, shown}
use Rattle.sw_lsp_findings.specs.Settings.{KnownSetting}
use Rattle.sw_lsp.specs.Session.{Exchange}
use Rattle.sw_lsp.specs.Steps.{request_id}
use Rattle.sw_lsp.specs.declared.phase.Phase.{Phase}
use Rattle.sw_lsp.specs.declared.phase.Phase.TheVariants as phase

-- ---- the text of a document

-- the text of this document after one more message. It isn't known any more where the document was
-- closed, or only a part of it came.
abbrev pub text_by : List ℕ → Option (List ℕ) → lsp.Message → Option (List ℕ)
text_by uri known (lsp.Opened of text version) = if bytes_eq of uri then Some text else known
text_by uri known (lsp.Changed of text) = if bytes_eq of uri then Some text else known
text_by uri known (lsp.ChangedInPart of) = if bytes_eq of uri then None else known
text_by uri known (lsp.Closed of) = if bytes_eq of uri then None else known
text_by uri known message = known

-- messages on documents count from the request to begin up to the one to make ready for the end
abbrev pub text_heard : List ℕ → Option (List ℕ) → Phase → Option lsp.Message → Option (List ℕ)
text_heard uri known phase.Running (Some message) = text_by uri known message
text_heard uri known other message = known

abbrev pub heard : List ℕ → Option (List ℕ) → Exchange → Option (List ℕ)
heard uri known e = text_heard uri known e.phase e.message

-- the last text that came for a document, if it is open
abbrev pub last_text : List ℕ → List Exchange → Option (List ℕ)
last_text uri talk = fold (heard uri) None talk

-- ---- what is shown for a document

abbrev pub is_text : List ℕ → Option (List ℕ) → Bool
is_text text o = option_map_or (λ other. bytes_eq other text) o false

-- the diagnostics that a message shows for this document, if it shows any
abbrev pub published_in : List ℕ → Data → Option Data
published_in uri params =
    if is_text uri (text_at (codes "uri") params) then get (codes "diagnostics") params else None

abbrev pub published_for : List ℕ → Data → Option Data
published_for uri d =
    if is_text (codes "textDocument/publishDiagnostics") (text_at (codes "method") d)
    then option_and_then (published_in uri) (get (codes "params") d) else None

-- A client shows the diagnostics that were sent last for a document.
abbrev pub shown_by : List ℕ → Option Data → Exchange → Option Data
shown_by uri before e = option_or (option_and_then (published_for uri) e.sent) before

abbrev pub last_shown : List ℕ → List Exchange → Option Data
last_shown uri talk = fold (shown_by uri) None talk

-- ---- the law

-- Where the text of a document is known, what is found in it is shown, all of it. Else nothing is.
abbrev pub IsRightlyShown : KnownSetting → List ℕ → Option (List ℕ) → Option Data → Type 0
IsRightlyShown setting uri None on_screen =
    (on_screen ≡ None) ⊎ (on_screen ≡ Some (reply.diagnostics []))
IsRightlyShown setting uri (Some text) on_screen =
    (found : List Diagnostic) × AreFindings setting uri text (map shown found)
    × (on_screen ≡ Some (reply.diagnostics found))

-- the id that an answer has to have: that of the request, and null where nothing could be read
abbrev pub asked : Option lsp.Message → Option Data
asked None = Some null
asked (Some lsp.Invalid) = Some null
asked (Some message) = request_id message

-- the id of the answer that was sent, if one was. A notification has none.
abbrev pub answered : Exchange → Option Data
answered e = option_and_then (get (codes "id")) e.sent

abbrev pub IsRightlyAnswered : Exchange → Type 0
IsRightlyAnswered e = answered e ≡ asked e.message
