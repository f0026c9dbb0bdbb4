-- What a JSON says, read as the message of a client.
use Rattle.std.specs.Prelude.{ℕ, ℤ, Bool, true, false, ◌||◌, if◌then◌else◌, List, codes}
use Rattle.std.specs.Prelude.{Option, Some, None, is_some, unwrap_or, option_and_then}
use Rattle.std.specs.Str.{bytes_eq}
use Rattle.serde_json.specs.Data.{Data, null, boolean, number, string, array, object}
use Rattle.serde_json.specs.Find.{get, pointer, as_array, as_bool, as_i64, as_number}
use Rattle.sw_lsp_text.specs.Changes.{has_range, last_item}
use Rattle.sw_lsp_text.specs.Parts.{◌>>=◌, place_in, range_in, text_at, text_behind}
use Rattle.sw_lsp_text.specs.declared.message.Notice.{Notice}
use Rattle.sw_lsp_text.specs.declared.message.Notice.TheVariants as notice
use Rattle.sw_lsp_text.specs.declared.message.Request.{Request}
use Rattle.sw_lsp_text.specs.declared.message.Request.TheVariants as request
use Rattle.sw_lsp_text.specs.declared.place.Place.{Place}
use Rattle.sw_lsp_text.specs.declared.place.Range.{Range}

-- What a client says. An id is that of a request, a number or a text.
pub data Message : Type 0 where
  -- the request to begin
  Initialize : (id : Data) (nonsending_default : Bool) → Message
  -- the client has begun
  Initialized : Message
  -- the request to make ready for the end, and the end
  Shutdown : (id : Data) → Message
  Exit : Message
  -- a document is open, with this text
  Opened : (uri text : List ℕ) (version : ℤ) → Message
  -- an open document has this text now
  Changed : (uri text : List ℕ) → Message
  -- parts of an open document were changed
  ChangedInPart : (uri : List ℕ) → Message
  -- a document is closed
  Closed : (uri : List ℕ) → Message
  -- the request for the diagnostics of a document
  Diagnostic : (id : Data) (uri : List ℕ) → Message
  -- the request for what is known of a place
  Hover : (id : Data) (uri : List ℕ) (place : Place) → Message
  -- the request for actions on a range
  CodeAction : (id : Data) (uri : List ℕ) (range : Range) → Message
  -- nothing that is to be answered, or that changes anything
  Ignored : Message
  -- a request of another method
  Unknown : (id : Data) → Message
  -- a request whose parameters lack what they must have
  BadParams : (id : Data) → Message
  -- JSON that is no message
  Invalid : Message

abbrev pub request_of : List ℕ → Request
request_of method =
    if bytes_eq method (codes "initialize") then request.Initialize
    else (if bytes_eq method (codes "shutdown") then request.Shutdown
    else (if bytes_eq method (codes "textDocument/diagnostic") then request.Diagnostic
    else (if bytes_eq method (codes "textDocument/hover") then request.Hover
    else (if bytes_eq method (codes "textDocument/codeAction") then request.CodeAction
    else request.Other))))

abbrev pub notice_of : List ℕ → Notice
notice_of method =
    if bytes_eq method (codes "initialized") then notice.Initialized
    else (if bytes_eq method (codes "exit") then notice.Exit
    else (if bytes_eq method (codes "textDocument/didOpen") then notice.Opened
    else (if bytes_eq method (codes "textDocument/didChange") then notice.Changed
    else (if bytes_eq method (codes "textDocument/didClose") then notice.Closed
    else notice.Other))))

-- the document that the parameters name
abbrev pub uri_in : Data → Option (List ℕ)
uri_in d = text_behind (codes "/params/textDocument/uri") d

-- the default is another one only if the client says so
abbrev pub initialize : Data → Data → Message
initialize id d =
    Initialize id (unwrap_or (option_and_then as_bool
    (pointer (codes "/params/initializationOptions/nonsendingDefault") d)) false)

abbrev pub opened : Data → Option Message
opened d = do
  uri ← uri_in d
  text ← text_behind (codes "/params/textDocument/text") d
  version ← option_and_then as_i64 (option_and_then as_number
      (pointer (codes "/params/textDocument/version") d))
  Some (Opened uri text version)

-- the last of the changes has the text that holds
abbrev pub changed_to : List ℕ → Option Data → Option Message
changed_to uri None = Some Ignored
changed_to uri (Some change) = do
  text ← text_at (codes "text") change
  Some (Changed uri text)

abbrev pub changed : Data → Option Message
changed d = do
  uri ← uri_in d
  changes ← option_and_then as_array (pointer (codes "/params/contentChanges") d)
  if has_range changes then Some (ChangedInPart uri) else changed_to uri (last_item changes)

abbrev pub closed : Data → Option Message
closed d = do
  uri ← uri_in d
  Some (Closed uri)

abbrev pub diagnostic : Data → Data → Option Message
diagnostic id d = do
  uri ← uri_in d
  Some (Diagnostic id uri)

abbrev pub hover : Data → Data → Option Message
hover id d = do
  uri ← uri_in d
  position ← pointer (codes "/params/position") d
  place ← place_in position
  Some (Hover id uri place)

abbrev pub code_action : Data → Data → Option Message
code_action id d = do
  uri ← uri_in d
  within ← pointer (codes "/params/range") d
  range ← range_in within
  Some (CodeAction id uri range)

abbrev pub requested : Request → Data → Data → Message
requested request.Initialize id d = initialize id d
requested request.Shutdown id d = Shutdown id
requested request.Diagnostic id d = unwrap_or (diagnostic id d) (BadParams id)
requested request.Hover id d = unwrap_or (hover id d) (BadParams id)
requested request.CodeAction id d = unwrap_or (code_action id d) (BadParams id)
requested request.Other id d = Unknown id

-- no notification is answered, also if it lacks what it must have
abbrev pub notified : Notice → Data → Message
notified notice.Initialized d = Initialized
notified notice.Exit d = Exit
notified notice.Opened d = unwrap_or (opened d) Ignored
notified notice.Changed d = unwrap_or (changed d) Ignored
notified notice.Closed d = unwrap_or (closed d) Ignored
notified notice.Other d = Ignored

-- a number or a text
abbrev pub is_id : Data → Bool
is_id null = false
is_id (boolean b) = false
is_id (number n) = true
is_id (string s) = true
is_id (array ds) = false
is_id (object ms) = false

-- a call is a request if it has an id, and else a notification
abbrev pub called_by : Option Data → List ℕ → Data → Message
called_by None method d = notified (notice_of method) d
called_by (Some id) method d = if is_id id then requested (request_of method) id d else Invalid

abbrev pub called : List ℕ → Data → Message
called method d = called_by (get (codes "id") d) method d

-- an answer of the client to a request: none is sent to it, so there is nothing to be done
abbrev pub is_answer : Data → Bool
is_answer d = is_some (get (codes "result") d) || is_some (get (codes "error") d)

abbrev pub said_by : Option Data → Data → Message
said_by None d = if is_answer d then Ignored else Invalid
said_by (Some (string method)) d = called method d
said_by (Some other) d = Invalid

abbrev pub is_version : Option (List ℕ) → Bool
is_version None = false
is_version (Some version) = bytes_eq version (codes "2.0")

abbrev pub has_version : Data → Bool
has_version d = is_version (text_at (codes "jsonrpc") d)

-- what a JSON says
abbrev pub message_in : Data → Message
message_in d = if has_version d then said_by (get (codes "method") d) d else Invalid
