-- Each request has one answer.
use Rattle.std.proofs.Common.{◌≡◌, ℕ, inl, inr, List, [], ◌∷◌, ◌++◌, Option, Some, None, refl, ap, ◌∙◌}
use Rattle.std.proofs.Common.{option_and_then, codes, sym}
use Rattle.std.specs.List.{AllByRecursion}
use Rattle.serde_json.specs.Data.{Data}
use Rattle.serde_json.specs.Find.{get}
use Rattle.sw_lsp_text.specs.Messages as lsp
use Rattle.sw_lsp_text.specs.declared.fault.Fault.{Fault}
use Rattle.sw_lsp_findings.specs.Hovers.{KnownHover}
use Rattle.sw_lsp_findings.specs.Settings.{KnownSetting}
use Rattle.sw_lsp.specs.Law.{IsRightlyAnswered, asked}
use Rattle.sw_lsp.specs.Session.{Exchange, IsSession, IsTurn, ended_as, exchange, goes_on, opens}
use Rattle.sw_lsp.specs.Steps.{After, Answers, FollowsIn, IsRunning, ServerState, hovered}
use Rattle.sw_lsp.specs.Steps.{says, stopping, turned_down, waiting}
use Rattle.sw_lsp.specs.declared.phase.Phase.{Phase}
use Rattle.sw_lsp.specs.declared.phase.Phase.TheVariants as phase

-- the id of an answer
abbrev id_in : After → Option Data
id_in done = option_and_then (get (codes "id")) done.sent

turned_down_id : (s : ServerState) (fault : Fault) (id : Option Data) → id_in (turned_down s fault id) ≡ id
turned_down_id s fault None = refl
turned_down_id s fault (Some id) = refl

hovered_id : (s : ServerState) (id : Data) (known : Option KnownHover)
    → id_in (says s (hovered id known)) ≡ Some id
hovered_id s id None = refl
hovered_id s id (Some known) = refl

waiting_id : (s : ServerState) (m : lsp.Message) → id_in (waiting s m) ≡ asked (Some m)
waiting_id s (lsp.Initialize id nonsending) = refl
waiting_id s lsp.Initialized = refl
waiting_id s (lsp.Shutdown id) = refl
waiting_id s lsp.Exit = refl
waiting_id s (lsp.Opened uri text version) = refl
waiting_id s (lsp.Changed uri text) = refl
waiting_id s (lsp.ChangedInPart uri) = refl
waiting_id s (lsp.Closed uri) = refl
waiting_id s (lsp.Diagnostic id uri) = refl
waiting_id s (lsp.Hover id uri place) = refl
waiting_id s (lsp.CodeAction id uri range) = refl
waiting_id s lsp.Ignored = refl
waiting_id s (lsp.Unknown id) = refl
waiting_id s (lsp.BadParams id) = refl
waiting_id s lsp.Invalid = refl

stopping_id : (s : ServerState) (m : lsp.Message) → id_in (stopping s m) ≡ asked (Some m)
stopping_id s (lsp.Initialize id nonsending) = refl
stopping_id s lsp.Initialized = refl
stopping_id s (lsp.Shutdown id) = refl
stopping_id s lsp.Exit = refl
stopping_id s (lsp.Opened uri text version) = refl
stopping_id s (lsp.Changed uri text) = refl
stopping_id s (lsp.ChangedInPart uri) = refl
stopping_id s (lsp.Closed uri) = refl
stopping_id s (lsp.Diagnostic id uri) = refl
stopping_id s (lsp.Hover id uri place) = refl
stopping_id s (lsp.CodeAction id uri range) = refl
stopping_id s lsp.Ignored = refl
stopping_id s (lsp.Unknown id) = refl
stopping_id s (lsp.BadParams id) = refl
stopping_id s lsp.Invalid = refl

running_id : (s : ServerState) (m : lsp.Message) (done : After) → IsRunning s m done
    → id_in done ≡ asked (Some m)
running_id s (lsp.Initialize id nonsending) done e = ap id_in e
running_id s lsp.Initialized done e = ap id_in e
running_id s (lsp.Shutdown id) done e = ap id_in e
running_id s lsp.Exit done e = ap id_in e
running_id s (lsp.Opened uri text version) done h = ap id_in h.done_is
running_id s (lsp.Changed uri text) done h = ap id_in h.done_is
running_id s (lsp.ChangedInPart uri) done e = ap id_in e
running_id s (lsp.Closed uri) done e = ap id_in e
running_id s (lsp.Diagnostic id uri) done h = ap id_in h.done_is
running_id s (lsp.Hover id uri place) done h = ap id_in h.done_is ∙ hovered_id s id h.known
running_id s (lsp.CodeAction id uri range) done h = ap id_in h.done_is
running_id s lsp.Ignored done e = ap id_in e
running_id s (lsp.Unknown id) done e = ap id_in e
running_id s (lsp.BadParams id) done e = ap id_in e
running_id s lsp.Invalid done e = ap id_in e

followed_id : (p : Phase) (s : ServerState) (m : lsp.Message) (done : After) → ended_as p ≡ None
    → FollowsIn p s m done → id_in done ≡ asked (Some m)
followed_id phase.Waiting s m done going e = ap id_in e ∙ waiting_id s m
followed_id phase.Running s m done going h = running_id s m done h
followed_id phase.Stopping s m done going e = ap id_in e ∙ stopping_id s m
followed_id phase.Done s m done going e = let no : ⊥ = cc in absurd no
followed_id phase.Dropped s m done going e = let no : ⊥ = cc in absurd no

answered_id : (s : ServerState) (body : List ℕ) (m : Option lsp.Message) (done : After)
    → ended_as s.phase ≡ None → Answers s body m done → id_in done ≡ asked m
answered_id s body None done going h = ap id_in h.1
answered_id s body (Some m) done going h = followed_id s.phase s m done going h.follows

turn_id : (s : ServerState) (frame : List ℕ) (m : Option lsp.Message) (done : After)
    → ended_as s.phase ≡ None → IsTurn s frame m done → id_in done ≡ asked m
turn_id s frame m done going (inl whole) = answered_id s _ m done going whole.answers
turn_id s frame m done going (inr header) = ap id_in header.done_is ∙ ap asked (sym header.is_unread)

all_push : {A : Type 0} (P : A → Type 0) (xs : List A) (x : A) → AllByRecursion P xs → P x
    → AllByRecursion P (xs ++ x ∷ [])
all_push P [] x all p = (p, tt)
all_push P (y ∷ xs) x all p = (all.0, all_push P xs x all.1 p)

pub all_answered : (setting : KnownSetting) (came went : List ℕ) (talk : List Exchange) (s : ServerState)
    → IsSession setting came went talk s → AllByRecursion IsRightlyAnswered talk
all_answered setting came went talk s opens = tt
all_answered setting came went talk s (goes_on came' went' talk' s' before going frame bytes m done turn carries) =
    all_push IsRightlyAnswered talk' (exchange s' m done)
    (all_answered setting came' went' talk' s' before) (turn_id s' frame m done going turn)
