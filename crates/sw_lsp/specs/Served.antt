-- A session over a reader and a writer, of which the bytes may be known.
use Rattle.std.specs.Prelude.{◌≡◌, ◌≢◌, ℕ, List, [], ◌∷◌, ◌++◌, Option, Some}
use Rattle.std.specs.List.{AllByRecursion}
use Rattle.std.specs.Io.KnownBytes.{Appends, Consumes, IsAtEnd}
use Rattle.sw_lsp_text.specs.Frames.{IsCut}
use Rattle.sw_lsp_text.specs.Messages as lsp
use Rattle.sw_lsp_text.specs.declared.frame.Cut.{Cut}
use Rattle.sw_lsp_text.specs.declared.frame.Cut.TheVariants as cut
use Rattle.sw_lsp_findings.specs.Settings.{KnownSetting}
use Rattle.sw_lsp.specs.Law.{IsRightlyAnswered, IsRightlyShown, last_shown, last_text}
use Rattle.sw_lsp.specs.Session.{Carries, Exchange, IsSession, IsTurn, ended_as}
use Rattle.sw_lsp.specs.Steps.{After, ServerState}
use Rattle.sw_lsp.specs.declared.ending.Ending.{Ending}
use Rattle.sw_lsp.specs.declared.ending.Ending.TheVariants as ending

-- The server took one frame from the front of the bytes that are held, and sent what is sent about
-- it.
pub record Goes (s : ServerState) (held : List ℕ) (t : ServerState) (rest : List ℕ)
    (before behind : Option (List ℕ)) : Type 0 where
  pub frame : List ℕ
  pub bytes : List ℕ
  pub message : Option lsp.Message
  pub done : After
  pub is_turn : IsTurn s frame message done
  pub state_is : done.state ≡ t
  pub held_is : held ≡ frame ++ rest
  pub carries : Carries done.sent bytes
  pub wrote : Appends before behind bytes

-- A session is so far: the reader had `came` and `now` is left of it, the writer had `before` and has
-- `behind`; these bytes are held, and the server is in this state.
pub record IsUnderWay (setting : KnownSetting) (came now before behind : Option (List ℕ))
    (held : List ℕ) (s : ServerState) : Type 0 where
  pub taken : List ℕ
  pub went : List ℕ
  pub talk : List Exchange
  pub reads : Consumes came now (taken ++ held)
  pub writes : Appends before behind went
  pub is_session : IsSession setting taken went talk s

-- a header that doesn't end, or that declares too much
abbrev pub IsTooLong : Cut → Type 0
IsTooLong cut.Partial = ⊥
IsTooLong cut.Endless = Unit {0}
IsTooLong (cut.NoLength header) = ⊥
IsTooLong (cut.NoNumber header) = ⊥
IsTooLong (cut.TooLong header) = Unit {0}
IsTooLong (cut.Whole header body) = ⊥

-- what an ending says of the server's state, of the bytes that are held and of those left to read
abbrev pub EndsSo : Ending → ServerState → List ℕ → Option (List ℕ) → Type 0
EndsSo ending.Done s held now = ended_as s.phase ≡ Some ending.Done
EndsSo ending.Dropped s held now = ended_as s.phase ≡ Some ending.Dropped
EndsSo ending.Closed s held now = (held ≡ []) × IsAtEnd now
EndsSo ending.CutOff s held now = (held ≢ []) × IsCut held cut.Partial × IsAtEnd now
EndsSo ending.TooLong s held now = (is : Cut) × IsCut held is × IsTooLong is

-- the ending at the end of the input, where these bytes are held
abbrev pub end_with : List ℕ → Ending
end_with [] = ending.Closed
end_with (byte ∷ bytes) = ending.CutOff

-- A session that has ended. What was sent last to be shown for a document is what is found in the
-- last text that came for it, and each request has its one answer.
pub record IsServed (setting : KnownSetting) (came now before behind : Option (List ℕ))
    (ending : Ending) : Type 0 where
  pub held : List ℕ
  pub state : ServerState
  pub is_so_far : IsUnderWay setting came now before behind held state
  pub ends : EndsSo ending state held now
  pub right : (uri : List ℕ) → IsRightlyShown state.setting uri (last_text uri is_so_far.talk)
      (last_shown uri is_so_far.talk)
  pub answered : AllByRecursion IsRightlyAnswered is_so_far.talk
