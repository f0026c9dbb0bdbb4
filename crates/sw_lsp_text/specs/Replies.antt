-- The replies of a server, as JSON. The members of an object stand in the order of their names.
use Rattle.std.specs.Prelude.{ℕ, true, false, List, map, codes}
use Rattle.serde_json.specs.Data.{Data, null, boolean, number, string, array, object}
use Rattle.serde_json.specs.Data.{item, no_items, no_members, member, unsigned}
use Rattle.serde_json.specs.Find.{of_integer}
use Rattle.serde_json.specs.View.{items_of}
use Rattle.sw_lsp_text.specs.Diagnostics as json
use Rattle.sw_lsp_text.specs.Faults.{fault_code, fault_text}
use Rattle.sw_lsp_text.specs.declared.diagnostic.Action.{Action}
use Rattle.sw_lsp_text.specs.declared.diagnostic.Diagnostic.{Diagnostic}
use Rattle.sw_lsp_text.specs.declared.fault.Fault.{Fault}
use Rattle.sw_lsp_text.specs.declared.place.Range.{Range}

abbrev pub version : Data
version = string (codes "2.0")

-- the answer to a request with this id
abbrev pub answer : Data → Data → Data
answer id result =
    object (member (codes "id") id (member (codes "jsonrpc") version
    (member (codes "result") result no_members)))

-- whole texts are sent, and diagnostics of a document depend on it alone
abbrev pub capabilities : Data
capabilities =
    object (member (codes "codeActionProvider") (object (member (codes "codeActionKinds")
    (array (item (string (codes "quickfix")) no_items)) no_members))
    (member (codes "diagnosticProvider") (object (member (codes "interFileDependencies") (boolean false)
    (member (codes "workspaceDiagnostics") (boolean false) no_members)))
    (member (codes "hoverProvider") (boolean true)
    (member (codes "positionEncoding") (string (codes "utf-16"))
    (member (codes "textDocumentSync") (object (member (codes "change") (number (unsigned 1))
    (member (codes "openClose") (boolean true) no_members))) no_members)))))

abbrev pub begun : Data → Data
begun id =
    answer id (object (member (codes "capabilities") capabilities
    (member (codes "serverInfo") (object (member (codes "name") (string (codes "swiftcheck_lsp")) no_members))
    no_members)))

abbrev pub nothing : Data → Data
nothing id = answer id null

abbrev pub refused : Data → Fault → Data
refused id fault =
    object (member (codes "error") (object (member (codes "code") (number (of_integer (fault_code fault)))
    (member (codes "message") (string (fault_text fault)) no_members)))
    (member (codes "id") id (member (codes "jsonrpc") version no_members)))

abbrev pub diagnostics : List Diagnostic → Data
diagnostics found = array (items_of (map json.diagnostic found))

abbrev pub published : List ℕ → List Diagnostic → Data
published uri found =
    object (member (codes "jsonrpc") version
    (member (codes "method") (string (codes "textDocument/publishDiagnostics"))
    (member (codes "params") (object (member (codes "diagnostics") (diagnostics found)
    (member (codes "uri") (string uri) no_members))) no_members)))

abbrev pub report : List Diagnostic → Data
report found =
    object (member (codes "items") (diagnostics found)
    (member (codes "kind") (string (codes "full")) no_members))

abbrev pub reported : Data → List Diagnostic → Data
reported id found = answer id (report found)

abbrev pub hover : List ℕ → Range → Data
hover text at =
    object (member (codes "contents") (object (member (codes "kind") (string (codes "markdown"))
    (member (codes "value") (string text) no_members)))
    (member (codes "range") (json.range at) no_members))

abbrev pub hovered : Data → List ℕ → Range → Data
hovered id text at = answer id (hover text at)

abbrev pub offered : Data → List ℕ → List Action → Data
offered id uri found = answer id (array (items_of (map (json.action uri) found)))
