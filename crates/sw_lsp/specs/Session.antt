-- A session: the bytes that came and those that were sent, frame by frame.
use Rattle.std.specs.Prelude.{◌≡◌, ◌⊎◌, ℕ, ◌+◌, List, [], ◌∷◌, ◌++◌, length, drop}
use Rattle.std.specs.Prelude.{Option, Some, None}
use Rattle.serde_json.specs.Data.{Data}
use Rattle.sw_lsp_text.specs.Frames.{IsCut}
use Rattle.sw_lsp_text.specs.Messages as lsp
use Rattle.sw_lsp_text.specs.Sent.{IsFrame}
use Rattle.sw_lsp_text.specs.declared.frame.Cut.{Cut}
use Rattle.sw_lsp_text.specs.declared.frame.Cut.TheVariants as cut
use Rattle.sw_lsp_findings.specs.Settings.{KnownSetting}
use Rattle.sw_lsp.specs.Steps.{After, Answers, ServerState, first_state, no_message}
use Rattle.sw_lsp.specs.declared.ending.Ending.{Ending}
use Rattle.sw_lsp.specs.declared.ending.Ending.TheVariants as ending
use Rattle.sw_lsp.specs.declared.phase.Phase.{Phase}
use Rattle.sw_lsp.specs.declared.phase.Phase.TheVariants as phase

-- how a session ends by what the client says, if it has ended
abbrev pub ended_as : Phase → Option Ending
ended_as phase.Waiting = None
ended_as phase.Running = None
ended_as phase.Stopping = None
ended_as phase.Done = Some ending.Done
ended_as phase.Dropped = Some ending.Dropped

-- a frame with a body
pub record IsWhole (s : ServerState) (frame : List ℕ) (message : Option lsp.Message) (done : After)
    : Type 0 where
  pub header : ℕ
  pub body : ℕ
  pub is_cut : IsCut frame (cut.Whole header body)
  pub all : length frame ≡ header + body
  pub answers : Answers s (drop header frame) message done

-- The cut is a header of this length that declares no length of a body. It is taken for a frame
-- without a body.
abbrev pub IsBare : Cut → ℕ → Type 0
IsBare cut.Partial len = ⊥
IsBare cut.Endless len = ⊥
IsBare (cut.NoLength header) len = header ≡ len
IsBare (cut.NoNumber header) len = header ≡ len
IsBare (cut.TooLong header) len = ⊥
IsBare (cut.Whole header body) len = ⊥

pub record IsHeader (s : ServerState) (frame : List ℕ) (message : Option lsp.Message) (done : After)
    : Type 0 where
  pub is : Cut
  pub is_cut : IsCut frame is
  pub bare : IsBare is (length frame)
  pub is_unread : message ≡ None
  pub done_is : done ≡ no_message s

-- what is done about a frame, by the message that it has, if it has one
abbrev pub IsTurn : ServerState → List ℕ → Option lsp.Message → After → Type 0
IsTurn s frame message done = IsWhole s frame message done ⊎ IsHeader s frame message done

-- a frame that came: how far the session was, the message, and what was sent about it
pub record Exchange : Type 0 where
  pub phase : Phase
  pub message : Option lsp.Message
  pub sent : Option Data

abbrev pub exchange : ServerState → Option lsp.Message → After → Exchange
exchange s message done = record { phase = s.phase; message = message; sent = done.sent }

-- these bytes are the frame of what is sent, and none if nothing is
abbrev pub Carries : Option Data → List ℕ → Type 0
Carries None bytes = bytes ≡ []
Carries (Some d) bytes = IsFrame d bytes

-- `IsSession setting came went talk s`: of a server with this setting, to which these bytes came and
-- which sent those, by these exchanges, in order. This is its state.
pub data IsSession (setting : KnownSetting)
    : List ℕ → List ℕ → List Exchange → ServerState → Type 0 where
  opens : IsSession setting [] [] [] (first_state setting)
  goes_on : (came went : List ℕ) (talk : List Exchange) (s : ServerState)
      → IsSession setting came went talk s → ended_as s.phase ≡ None
      → (frame bytes : List ℕ) (message : Option lsp.Message) (done : After)
      → IsTurn s frame message done → Carries done.sent bytes
      → IsSession setting (came ++ frame) (went ++ bytes) (talk ++ exchange s message done ∷ [])
      done.state
