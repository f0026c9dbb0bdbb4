-- What one message does to the texts that are known and to what is shown.
use Rattle.std.proofs.Common.{◌≡◌, ◌≢◌, ℕ, Bool, true, false, cond, inl, inr, List, [], map, Option, Some, None}
use Rattle.std.proofs.Common.{bytes_eq, refl, sym, ap, subst, ◌∙◌, option_and_then}
use Rattle.std.specs.Option.{option_or}
use Rattle.serde_json.specs.Data.{Data}
use Rattle.sw_lsp_text.specs.Messages as lsp
use Rattle.sw_lsp_text.specs.Replies as reply
use Rattle.sw_lsp_text.specs.declared.diagnostic.Diagnostic.{Diagnostic}
use Rattle.sw_lsp_text.specs.declared.fault.Fault.{Fault}
use Rattle.sw_lsp_text.specs.declared.fault.Fault.TheVariants as fault
use Rattle.sw_lsp_findings.specs.Findings.{AreFindings, shown}
use Rattle.sw_lsp_findings.specs.Hovers.{KnownHover}
use Rattle.sw_lsp_findings.specs.Settings.{KnownSetting}
use Rattle.sw_lsp.specs.Documents.{KnownDocuments, text_in, with_text}
use Rattle.sw_lsp.specs.Law.{IsRightlyShown, heard, published_for, shown_by, text_heard}
use Rattle.sw_lsp.specs.Session.{IsTurn, exchange}
use Rattle.sw_lsp.specs.Steps.{After, Answers, FollowsIn, Holds, IsRunning, ServerState, forgets, hovered}
use Rattle.sw_lsp.specs.Steps.{outcome, request_id, says, silent, stopping, turned_down, waiting}
use Rattle.sw_lsp.specs.declared.phase.Phase.{Phase}
use Rattle.sw_lsp.specs.declared.phase.Phase.TheVariants as phase
use Rattle.sw_lsp.proofs.KnownTexts.{same_bytes, text_in-with, text_in-without}

-- A server has begun, or it knows no documents yet.
abbrev pub IsFresh : ServerState → Type 0
IsFresh s = s.phase ≡ phase.Waiting → s.documents ≡ []

-- what one message does
pub record Lasts (s : ServerState) (m : Option lsp.Message) (done : After) : Type 0 where
  pub text : (uri : List ℕ) → text_in uri done.state.documents
      ≡ heard uri (text_in uri s.documents) (exchange s m done)
  pub right : (uri : List ℕ) (on_screen : Option Data)
      → IsRightlyShown s.setting uri (text_in uri s.documents) on_screen
      → IsRightlyShown done.state.setting uri (text_in uri done.state.documents)
      (shown_by uri on_screen (exchange s m done))
  pub fresh : IsFresh done.state

-- ---- messages that change nothing

-- nothing is shown by what is sent
abbrev IsQuiet : Option Data → Type 0
IsQuiet sent = (uri : List ℕ) → option_and_then (published_for uri) sent ≡ None

-- the message says nothing of a document
abbrev IsDeaf : Phase → Option lsp.Message → Type 0
IsDeaf p m = (uri : List ℕ) (known : Option (List ℕ)) → text_heard uri known p m ≡ known

quiet : (s : ServerState) (p : Phase) (m : Option lsp.Message) (sent : Option Data) → IsFresh s
    → (p ≡ phase.Waiting → s.phase ≡ phase.Waiting) → IsQuiet sent → IsDeaf s.phase m
    → Lasts s m (outcome (record s { phase = p }) sent)
quiet s p m sent fresh back still deaf = record {
  text = λ uri. sym (deaf uri (text_in uri s.documents));
  right = λ uri on_screen right. rw (still uri) right;
  fresh = λ e. fresh (back e);
}

-- the same, where the phase stays too
silent_lasts : (s : ServerState) (m : Option lsp.Message) (sent : Option Data) → IsFresh s
    → IsQuiet sent → IsDeaf s.phase m → Lasts s m (outcome s sent)
silent_lasts s m sent fresh still deaf = quiet s s.phase m sent fresh (λ e. e) still deaf

turned_down_lasts : (s : ServerState) (fault : Fault) (m : Option lsp.Message) (id : Option Data)
    → IsFresh s → IsDeaf s.phase m → Lasts s m (turned_down s fault id)
turned_down_lasts s fault m None fresh deaf = silent_lasts s m None fresh (λ uri. refl) deaf
turned_down_lasts s fault m (Some id) fresh deaf =
    silent_lasts s m (Some (reply.refused id fault)) fresh (λ uri. refl) deaf

hovered_still : (id : Data) (known : Option KnownHover) → IsQuiet (Some (hovered id known))
hovered_still id None uri = refl
hovered_still id (Some known) uri = refl

-- before a session has begun no message says anything of a document, nor once it is to end
deaf_if : (p q : Phase) (m : lsp.Message) → p ≡ q → IsDeaf q (Some m) → IsDeaf p (Some m)
deaf_if p q m e deaf = subst (λ x. IsDeaf x (Some m)) (sym e) deaf

-- ---- documents

held_right : (b : Bool) (setting : KnownSetting) (of uri text : List ℕ) (known : Option (List ℕ))
    (found : List Diagnostic) (on_screen : Option Data) → (b ≡ true → of ≡ uri)
    → AreFindings setting of text (map shown found) → IsRightlyShown setting uri known on_screen
    → IsRightlyShown setting uri (cond b (Some text) known)
    (option_or (cond b (Some (reply.diagnostics found)) None) on_screen)
held_right true setting of uri text known found on_screen same are right =
    (found, subst (λ x. AreFindings setting x text (map shown found)) (same refl) are, refl)
held_right false setting of uri text known found on_screen same are right = right

forgotten_right : (b : Bool) (setting : KnownSetting) (uri : List ℕ) (known : Option (List ℕ))
    (on_screen : Option Data) → IsRightlyShown setting uri known on_screen
    → IsRightlyShown setting uri (cond b None known)
    (option_or (cond b (Some (reply.diagnostics [])) None) on_screen)
forgotten_right true setting uri known on_screen right = inr refl
forgotten_right false setting uri known on_screen right = right

module _ (s : ServerState) (running : s.phase ≡ phase.Running) (of : List ℕ) where
  held_lasts : (text : List ℕ) (found : List Diagnostic) (m : lsp.Message)
      → ((uri : List ℕ) (known : Option (List ℕ))
      → text_heard uri known s.phase (Some m) ≡ cond (bytes_eq of uri) (Some text) known)
      → AreFindings s.setting of text (map shown found)
      → Lasts s (Some m)
      (says (record s { documents = with_text of text s.documents }) (reply.published of found))
  held_lasts text found m hears are = record {
    text = λ uri. text_in-with of uri text s.documents ∙ sym (hears uri (text_in uri s.documents));
    right = λ uri on_screen right.
        subst (λ known. IsRightlyShown s.setting uri known
        (option_or (cond (bytes_eq of uri) (Some (reply.diagnostics found)) None) on_screen))
        (sym (text_in-with of uri text s.documents))
        (held_right (bytes_eq of uri) s.setting of uri text (text_in uri s.documents) found on_screen
        (same_bytes of uri) are right);
    fresh = λ e. let no : ⊥ = cc in absurd no;
  }

  forgotten_lasts : (m : lsp.Message)
      → ((uri : List ℕ) (known : Option (List ℕ))
      → text_heard uri known s.phase (Some m) ≡ cond (bytes_eq of uri) None known)
      → Lasts s (Some m) (forgets s of)
  forgotten_lasts m hears = record {
    text = λ uri. text_in-without of uri s.documents ∙ sym (hears uri (text_in uri s.documents));
    right = λ uri on_screen right.
        subst (λ known. IsRightlyShown s.setting uri known
        (option_or (cond (bytes_eq of uri) (Some (reply.diagnostics [])) None) on_screen))
        (sym (text_in-without of uri s.documents))
        (forgotten_right (bytes_eq of uri) s.setting uri (text_in uri s.documents) on_screen right);
    fresh = λ e. let no : ⊥ = cc in absurd no;
  }

-- ---- each phase

module _ (s : ServerState) (fresh : IsFresh s) where
  begun_right : (other : KnownSetting) → s.documents ≡ [] → (uri : List ℕ) (on_screen : Option Data)
      → IsRightlyShown s.setting uri (text_in uri s.documents) on_screen
      → IsRightlyShown other uri (text_in uri s.documents) on_screen
  begun_right other none uri on_screen right =
      subst (λ (ds : KnownDocuments). IsRightlyShown other uri (text_in uri ds) on_screen) (sym none)
      (subst (λ (ds : KnownDocuments). IsRightlyShown s.setting uri (text_in uri ds) on_screen) none right)

  waiting_lasts : s.phase ≡ phase.Waiting → (m : lsp.Message) → Lasts s (Some m) (waiting s m)
  waiting_lasts at (lsp.Initialize id nonsending) = record {
    text = λ uri. sym (deaf_if s.phase phase.Waiting (lsp.Initialize id nonsending) at (λ u k. refl) uri
        (text_in uri s.documents));
    right = λ uri on_screen right. begun_right _ (fresh at) uri on_screen right;
    fresh = λ e. let no : ⊥ = cc in absurd no;
  }
  waiting_lasts at lsp.Exit =
      quiet s phase.Dropped (Some lsp.Exit) None fresh (λ e. let no : ⊥ = cc in absurd no) (λ uri. refl)
      (deaf_if s.phase phase.Waiting lsp.Exit at (λ u k. refl))
  waiting_lasts at lsp.Invalid =
      silent_lasts s (Some lsp.Invalid) _ fresh (λ uri. refl)
      (deaf_if s.phase phase.Waiting lsp.Invalid at (λ u k. refl))
  waiting_lasts at m =
      turned_down_lasts s fault.NotInitialized (Some m) (request_id m) fresh
      (deaf_if s.phase phase.Waiting m at (λ u k. refl))

  stopping_lasts : s.phase ≡ phase.Stopping → (m : lsp.Message) → Lasts s (Some m) (stopping s m)
  stopping_lasts at lsp.Exit =
      quiet s phase.Done (Some lsp.Exit) None fresh (λ e. let no : ⊥ = cc in absurd no) (λ uri. refl)
      (deaf_if s.phase phase.Stopping lsp.Exit at (λ u k. refl))
  stopping_lasts at lsp.Invalid =
      silent_lasts s (Some lsp.Invalid) _ fresh (λ uri. refl)
      (deaf_if s.phase phase.Stopping lsp.Invalid at (λ u k. refl))
  stopping_lasts at m =
      turned_down_lasts s fault.NoRequest (Some m) (request_id m) fresh
      (deaf_if s.phase phase.Stopping m at (λ u k. refl))

  -- what a running server answers without a word on documents
  answered_lasts : s.phase ≡ phase.Running → (m : lsp.Message) (done : After) (sent : Option Data)
      → IsQuiet sent → IsDeaf phase.Running (Some m) → done ≡ outcome s sent → Lasts s (Some m) done
  answered_lasts at m done sent still deaf e =
      subst (Lasts s (Some m)) (sym e)
      (silent_lasts s (Some m) sent fresh still (deaf_if s.phase phase.Running m at deaf))

  leaves_lasts : s.phase ≡ phase.Running → (p : Phase) → p ≢ phase.Waiting → (m : lsp.Message) (done : After)
      (sent : Option Data) → IsQuiet sent → IsDeaf phase.Running (Some m)
      → done ≡ outcome (record s { phase = p }) sent → Lasts s (Some m) done
  leaves_lasts at p apart m done sent still deaf e =
      subst (Lasts s (Some m)) (sym e)
      (quiet s p (Some m) sent fresh (λ w. absurd (apart w)) still (deaf_if s.phase phase.Running m at deaf))

  holds_lasts : s.phase ≡ phase.Running → (of text : List ℕ) (m : lsp.Message) (done : After)
      → ((uri : List ℕ) (known : Option (List ℕ))
      → text_heard uri known phase.Running (Some m) ≡ cond (bytes_eq of uri) (Some text) known)
      → Holds s of text done → Lasts s (Some m) done
  holds_lasts at of text m done hears h =
      subst (Lasts s (Some m)) (sym h.done_is)
      (held_lasts s at of text h.found m
      (λ uri known. ap (λ p. text_heard uri known p (Some m)) at ∙ hears uri known) h.are_found)

  forgets_lasts : s.phase ≡ phase.Running → (of : List ℕ) (m : lsp.Message) (done : After)
      → ((uri : List ℕ) (known : Option (List ℕ))
      → text_heard uri known phase.Running (Some m) ≡ cond (bytes_eq of uri) None known)
      → done ≡ forgets s of → Lasts s (Some m) done
  forgets_lasts at of m done hears e =
      subst (Lasts s (Some m)) (sym e)
      (forgotten_lasts s at of m (λ uri known. ap (λ p. text_heard uri known p (Some m)) at ∙ hears uri known))

  running_lasts : s.phase ≡ phase.Running → (m : lsp.Message) (done : After) → IsRunning s m done
      → Lasts s (Some m) done
  running_lasts at (lsp.Initialize id nonsending) done e =
      answered_lasts at (lsp.Initialize id nonsending) done _ (λ uri. refl) (λ u k. refl) e
  running_lasts at lsp.Initialized done e =
      answered_lasts at lsp.Initialized done None (λ uri. refl) (λ u k. refl) e
  running_lasts at (lsp.Shutdown id) done e =
      leaves_lasts at phase.Stopping (λ w. cc) (lsp.Shutdown id) done _ (λ uri. refl) (λ u k. refl) e
  running_lasts at lsp.Exit done e =
      leaves_lasts at phase.Dropped (λ w. cc) lsp.Exit done None (λ uri. refl) (λ u k. refl) e
  running_lasts at (lsp.Opened of text version) done h =
      holds_lasts at of text (lsp.Opened of text version) done (λ u k. refl) h
  running_lasts at (lsp.Changed of text) done h =
      holds_lasts at of text (lsp.Changed of text) done (λ u k. refl) h
  running_lasts at (lsp.ChangedInPart of) done e =
      forgets_lasts at of (lsp.ChangedInPart of) done (λ u k. refl) e
  running_lasts at (lsp.Closed of) done e = forgets_lasts at of (lsp.Closed of) done (λ u k. refl) e
  running_lasts at (lsp.Diagnostic id of) done h =
      answered_lasts at (lsp.Diagnostic id of) done _ (λ uri. refl) (λ u k. refl) h.done_is
  running_lasts at (lsp.Hover id of place) done h =
      answered_lasts at (lsp.Hover id of place) done _ (hovered_still id h.known) (λ u k. refl) h.done_is
  running_lasts at (lsp.CodeAction id of range) done h =
      answered_lasts at (lsp.CodeAction id of range) done _ (λ uri. refl) (λ u k. refl) h.done_is
  running_lasts at lsp.Ignored done e =
      answered_lasts at lsp.Ignored done None (λ uri. refl) (λ u k. refl) e
  running_lasts at (lsp.Unknown id) done e =
      answered_lasts at (lsp.Unknown id) done _ (λ uri. refl) (λ u k. refl) e
  running_lasts at (lsp.BadParams id) done e =
      answered_lasts at (lsp.BadParams id) done _ (λ uri. refl) (λ u k. refl) e
  running_lasts at lsp.Invalid done e =
      answered_lasts at lsp.Invalid done _ (λ uri. refl) (λ u k. refl) e

  over_lasts : (p : Phase) → s.phase ≡ p → (m : lsp.Message) (done : After) → IsDeaf p (Some m)
      → done ≡ silent s → Lasts s (Some m) done
  over_lasts p at m done deaf e =
      subst (Lasts s (Some m)) (sym e)
      (silent_lasts s (Some m) None fresh (λ uri. refl) (deaf_if s.phase p m at deaf))

  followed_lasts : (p : Phase) → s.phase ≡ p → (m : lsp.Message) (done : After) → FollowsIn p s m done
      → Lasts s (Some m) done
  followed_lasts phase.Waiting at m done e = subst (Lasts s (Some m)) (sym e) (waiting_lasts at m)
  followed_lasts phase.Running at m done h = running_lasts at m done h
  followed_lasts phase.Stopping at m done e = subst (Lasts s (Some m)) (sym e) (stopping_lasts at m)
  followed_lasts phase.Done at m done e = over_lasts phase.Done at m done (λ u k. refl) e
  followed_lasts phase.Dropped at m done e = over_lasts phase.Dropped at m done (λ u k. refl) e

-- what isn't read says nothing of a document
unread : (p : Phase) → IsDeaf p None
unread phase.Waiting uri known = refl
unread phase.Running uri known = refl
unread phase.Stopping uri known = refl
unread phase.Done uri known = refl
unread phase.Dropped uri known = refl

answers_last : (s : ServerState) (body : List ℕ) (m : Option lsp.Message) (done : After) → IsFresh s
    → Answers s body m done → Lasts s m done
answers_last s body None done fresh h =
    subst (Lasts s None) (sym h.1)
    (silent_lasts s None _ fresh (λ uri. refl) (unread s.phase))
answers_last s body (Some m) done fresh h = followed_lasts s fresh s.phase refl m done h.follows

pub turn_lasts : (s : ServerState) (frame : List ℕ) (m : Option lsp.Message) (done : After) → IsFresh s
    → IsTurn s frame m done → Lasts s m done
turn_lasts s frame m done fresh (inl whole) = answers_last s _ m done fresh whole.answers
turn_lasts s frame m done fresh (inr header) =
    subst (λ x. Lasts s x done) (sym header.is_unread)
    (subst (Lasts s None) (sym header.done_is)
    (silent_lasts s None _ fresh (λ uri. refl) (unread s.phase)))
