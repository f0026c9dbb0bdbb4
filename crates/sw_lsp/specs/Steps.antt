-- What a server does about a message: the state after it, and what is sent.
use Rattle.std.specs.Prelude.{◌≡◌, ℕ, Bool, List, [], map, Option, Some, None}
use Rattle.std.specs.Prelude.{option_map}
use Rattle.std.specs.Str.{IsUtf8}
use Rattle.serde_json.specs.Data.{Data, null}
use Rattle.serde_json.specs.Read.{read}
use Rattle.serde_json.specs.View.{view}
use Rattle.serde_json.specs.declared.value.Value.{Value}
use Rattle.sw_lsp_text.specs.Messages as lsp
use Rattle.sw_lsp_text.specs.Replies as reply
use Rattle.sw_lsp_text.specs.declared.diagnostic.Action.{Action}
use Rattle.sw_lsp_text.specs.declared.diagnostic.Diagnostic.{Diagnostic}
use Rattle.sw_lsp_text.specs.declared.fault.Fault.{Fault}
use Rattle.sw_lsp_text.specs.declared.fault.Fault.TheVariants as fault
use Rattle.sw_lsp_text.specs.declared.place.Place.{Place}
use Rattle.sw_lsp_text.specs.declared.place.Range.{Range}
use Rattle.sw_lsp_findings.specs.Findings.{AreFindings, AreFindingsIn, shown}
use Rattle.sw_lsp_findings.specs.Hovers.{IsKnownIn, KnownHover}
use Rattle.sw_lsp_findings.specs.Settings.{KnownSetting, default_by}
use Rattle.sw_lsp_mends.specs.Actions.{AreActionsIn}
use Rattle.sw_lsp_mends.specs.Offers.{seen_action}
use Rattle.sw_lsp.specs.Documents.{KnownDocuments, text_in, with_text, without}
use Rattle.sw_lsp.specs.declared.phase.Phase.{Phase}
use Rattle.sw_lsp.specs.declared.phase.Phase.TheVariants as phase

-- what a server keeps
pub record ServerState : Type 0 where
  pub phase : Phase
  pub setting : KnownSetting
  pub documents : KnownDocuments

-- what a server does: it goes on in this state, and sends this, if anything
pub record After : Type 0 where
  pub state : ServerState
  pub sent : Option Data

abbrev pub outcome : ServerState → Option Data → After
outcome s sent = record { state = s; sent = sent }

abbrev pub after : ServerState → Option Value → After
after s sent = outcome s (option_map view sent)

abbrev pub silent : ServerState → After
silent s = outcome s None

abbrev pub says : ServerState → Data → After
says s d = outcome s (Some d)

abbrev pub in_phase : Phase → ServerState → ServerState
in_phase phase s = record s { phase = phase }

-- the state in which a server begins
abbrev pub first_state : KnownSetting → ServerState
first_state setting = record { phase = phase.Waiting; setting = setting; documents = [] }

-- the id of the request that a message is
abbrev pub request_id : lsp.Message → Option Data
request_id (lsp.Initialize id nonsending_default) = Some id
request_id lsp.Initialized = None
request_id (lsp.Shutdown id) = Some id
request_id lsp.Exit = None
request_id (lsp.Opened uri text version) = None
request_id (lsp.Changed uri text) = None
request_id (lsp.ChangedInPart uri) = None
request_id (lsp.Closed uri) = None
request_id (lsp.Diagnostic id uri) = Some id
request_id (lsp.Hover id uri place) = Some id
request_id (lsp.CodeAction id uri range) = Some id
request_id lsp.Ignored = None
request_id (lsp.Unknown id) = Some id
request_id (lsp.BadParams id) = Some id
request_id lsp.Invalid = None

-- a request is refused, and another message isn't answered
abbrev pub turned_down : ServerState → Fault → Option Data → After
turned_down s fault None = silent s
turned_down s fault (Some id) = says s (reply.refused id fault)

-- JSON that is no message is answered without an id
abbrev pub no_message : ServerState → After
no_message s = says s (reply.refused null fault.NoRequest)

-- a server that waits for the request to begin
abbrev pub begun : Bool → ServerState → ServerState
begun nonsending s =
    record s {
      phase = phase.Running;
      setting = record s.setting { default = default_by nonsending };
    }

abbrev pub waiting : ServerState → lsp.Message → After
waiting s (lsp.Initialize id nonsending) = says (begun nonsending s) (reply.begun id)
waiting s lsp.Exit = silent (in_phase phase.Dropped s)
waiting s lsp.Invalid = no_message s
waiting s message = turned_down s fault.NotInitialized (request_id message)

-- a server that waits for the end
abbrev pub stopping : ServerState → lsp.Message → After
stopping s lsp.Exit = silent (in_phase phase.Done s)
stopping s lsp.Invalid = no_message s
stopping s message = turned_down s fault.NoRequest (request_id message)

-- a document has this text now, and what is found in it is shown
pub record Holds (s : ServerState) (uri text : List ℕ) (done : After) : Type 0 where
  pub found : List Diagnostic
  pub are_found : AreFindings s.setting uri text (map shown found)
  pub done_is : done
      ≡ says (record s { documents = with_text uri text s.documents }) (reply.published uri found)

-- the text of a document isn't known any more, and nothing is shown for it
abbrev pub forgets : ServerState → List ℕ → After
forgets s uri = says (record s { documents = without uri s.documents }) (reply.published uri [])

-- the answer has what is found in a document
pub record Reports (s : ServerState) (id : Data) (uri : List ℕ) (done : After) : Type 0 where
  pub found : List Diagnostic
  pub are_found : AreFindingsIn s.setting uri (text_in uri s.documents) (map shown found)
  pub done_is : done ≡ says s (reply.reported id found)

-- the answer with what is known of a place
abbrev pub hovered : Data → Option KnownHover → Data
hovered id None = reply.nothing id
hovered id (Some known) = reply.hovered id known.text known.range

pub record Hovers (s : ServerState) (id : Data) (uri : List ℕ) (place : Place) (done : After)
    : Type 0 where
  pub known : Option KnownHover
  pub is_known : IsKnownIn s.setting (text_in uri s.documents) place known
  pub done_is : done ≡ says s (hovered id known)

-- the answer has the edits that mend what a range of a document touches
pub record Offers (s : ServerState) (id : Data) (uri : List ℕ) (range : Range) (done : After)
    : Type 0 where
  pub found : List Action
  pub are_found : AreActionsIn s.setting uri (text_in uri s.documents) range (map seen_action found)
  pub done_is : done ≡ says s (reply.offered id uri found)

-- a server that has begun
abbrev pub IsRunning : ServerState → lsp.Message → After → Type 0
IsRunning s (lsp.Initialize id nonsending) done =
    done ≡ says s (reply.refused id fault.NoRequest)
IsRunning s lsp.Initialized done = done ≡ silent s
IsRunning s (lsp.Shutdown id) done = done ≡ says (in_phase phase.Stopping s) (reply.nothing id)
IsRunning s lsp.Exit done = done ≡ silent (in_phase phase.Dropped s)
IsRunning s (lsp.Opened uri text version) done = Holds s uri text done
IsRunning s (lsp.Changed uri text) done = Holds s uri text done
IsRunning s (lsp.ChangedInPart uri) done = done ≡ forgets s uri
IsRunning s (lsp.Closed uri) done = done ≡ forgets s uri
IsRunning s (lsp.Diagnostic id uri) done = Reports s id uri done
IsRunning s (lsp.Hover id uri place) done = Hovers s id uri place done
IsRunning s (lsp.CodeAction id uri range) done = Offers s id uri range done
IsRunning s lsp.Ignored done = done ≡ silent s
IsRunning s (lsp.Unknown id) done = done ≡ says s (reply.refused id fault.NoMethod)
IsRunning s (lsp.BadParams id) done = done ≡ says s (reply.refused id fault.BadParams)
IsRunning s lsp.Invalid done = done ≡ no_message s

-- what is done about a message in each phase; after the end nothing is
abbrev pub FollowsIn : Phase → ServerState → lsp.Message → After → Type 0
FollowsIn phase.Waiting s message done = done ≡ waiting s message
FollowsIn phase.Running s message done = IsRunning s message done
FollowsIn phase.Stopping s message done = done ≡ stopping s message
FollowsIn phase.Done s message done = done ≡ silent s
FollowsIn phase.Dropped s message done = done ≡ silent s

abbrev pub Follows : ServerState → lsp.Message → After → Type 0
Follows s message done = FollowsIn s.phase s message done

-- what is done about a body that is no JSON
abbrev pub no_json : ServerState → After
no_json s = says s (reply.refused null fault.NoJson)

-- what is done about a body that says this
pub record IsAnswer (s : ServerState) (body : List ℕ) (message : lsp.Message) (done : After)
    : Type 0 where
  pub said : Data
  pub is_utf8 : IsUtf8 body
  pub is_read : read body ≡ Some said
  pub message_is : message ≡ lsp.message_in said
  pub follows : Follows s message done

-- What is done about the body of a frame, by the message that it is. It is none if it isn't UTF-8,
-- or is no JSON.
abbrev pub Answers : ServerState → List ℕ → Option lsp.Message → After → Type 0
Answers s body (Some message) done = IsAnswer s body message done
Answers s body None done = (IsUtf8 body → read body ≡ None) × (done ≡ no_json s)
