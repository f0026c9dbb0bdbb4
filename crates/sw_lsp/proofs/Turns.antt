-- A session goes on: it begins, more comes, and a frame is answered.
use Rattle.std.proofs.Common.{◌≡◌, ◌≢◌, ℕ, ◌+◌, ◌≤◌, inl, inr, List, [], ◌∷◌, ◌++◌, length, take, drop, Option, Some}
use Rattle.std.proofs.Common.{None, refl, sym, ap, subst, ◌∙◌, arith, append_assoc}
use Rattle.std.proofs.lemmas.List.{drop-take, length-take-le, take-append-drop}
use Rattle.std.specs.Io.KnownBytes.{Appends, Consumes, IsAtEnd}
use Rattle.serde_json.specs.Data.{Data}
use Rattle.sw_lsp_text.specs.Frames.{IsCut, IsWithin}
use Rattle.sw_lsp_text.specs.Messages as lsp
use Rattle.sw_lsp_text.specs.declared.frame.Cut.{Cut}
use Rattle.sw_lsp_text.specs.declared.frame.Cut.TheVariants as cut
use Rattle.sw_lsp_findings.specs.Settings.{KnownSetting}
use Rattle.sw_lsp.specs.Served.{EndsSo, Goes, IsUnderWay, end_with}
use Rattle.sw_lsp.specs.Session.{Carries, IsBare, IsSession, ended_as, exchange, opens, goes_on}
use Rattle.sw_lsp.specs.Steps.{Answers, ServerState, first_state, no_message, outcome}
use Rattle.sw_lsp.specs.declared.ending.Ending.{Ending}
use Rattle.sw_lsp.specs.declared.ending.Ending.TheVariants as endings
use Rattle.sw_lsp.specs.declared.phase.Phase.{Phase}
use Rattle.sw_lsp.specs.declared.phase.Phase.TheVariants as phase
use Rattle.sw_lsp.proofs.Fronts.{cut_was}
use Rattle.sw_lsp.proofs.Known.{Appends-none, Appends-then, Consumes-none, Consumes-then}

module _ (setting : KnownSetting) where
  pub begins : (came before : Option (List ℕ))
      → IsUnderWay setting came came before before [] (first_state setting)
  begins came before = record {
    taken = [];
    went = [];
    talk = [];
    reads = Consumes-none came;
    writes = Appends-none before;
    is_session = opens;
  }

  pub takes_in : (came now then before behind : Option (List ℕ)) (held more : List ℕ) (s : ServerState)
      → IsUnderWay setting came now before behind held s → Consumes now then more
      → IsUnderWay setting came then before behind (held ++ more) s
  takes_in came now then before behind held more s u consumes = record {
    taken = u.taken;
    went = u.went;
    talk = u.talk;
    reads =
        subst (Consumes came then) (append_assoc u.taken held more)
        (Consumes-then came now then (u.taken ++ held) more u.reads consumes);
    writes = u.writes;
    is_session = u.is_session;
  }

  pub turns : (came now before behind then : Option (List ℕ)) (held rest : List ℕ) (s t : ServerState)
      → IsUnderWay setting came now before behind held s → ended_as s.phase ≡ None
      → Goes s held t rest behind then → IsUnderWay setting came now before then rest t
  turns came now before behind then held rest s t u going g =
      let e : u.taken ++ held ≡ (u.taken ++ g.frame) ++ rest =
      ap (λ xs. u.taken ++ xs) g.held_is ∙ sym (append_assoc u.taken g.frame rest) in
      record {
        taken = u.taken ++ g.frame;
        went = u.went ++ g.bytes;
        talk = u.talk ++ exchange s g.message g.done ∷ [];
        reads = subst (Consumes came now) e u.reads;
        writes = Appends-then before behind then u.went g.bytes u.writes g.wrote;
        is_session =
            subst (IsSession setting (u.taken ++ g.frame) (u.went ++ g.bytes)
            (u.talk ++ exchange s g.message g.done ∷ [])) g.state_is
            (goes_on u.taken u.went u.talk s u.is_session going g.frame g.bytes g.message g.done g.is_turn
            g.carries);
      }

-- ---- one frame

-- the first bytes of those that are held are cut off as these are
cut_off : (held : List ℕ) (n : ℕ) (is : Cut) → IsCut held is → IsCut (take n held ++ drop n held) is
cut_off held n is h = subst (λ xs. IsCut xs is) (sym (take-append-drop n held)) h

module _ (s : ServerState) (held : List ℕ) (t : ServerState) (rest : List ℕ)
    (before behind : Option (List ℕ)) (bytes : List ℕ) (wrote : Appends before behind bytes) where
  pub goes_behind_body : (header body : ℕ) → IsCut held (cut.Whole header body)
      → IsWithin (length held) (cut.Whole header body) → (said : List ℕ) → said ≡ take body (drop header held)
      → (message : Option lsp.Message) (sent : Option Data)
      → Answers s said message (outcome t sent) → Carries sent bytes
      → rest ≡ drop (header + body) held → Goes s held t rest before behind
  goes_behind_body header body is within said said_is message sent answers carries rest_is =
      let frame : List ℕ = take (header + body) held in
      let long : length frame ≡ header + body = length-take-le (header + body) held within.0 in
      record {
        frame = frame;
        bytes = bytes;
        message = message;
        done = outcome t sent;
        is_turn = inl (record {
          header = header;
          body = body;
          is_cut =
              cut_was frame (drop (header + body) held) (cut.Whole header body) (λ e. cc) (λ e. cc)
              (omega arith, within.1)
              (cut_off held (header + body) (cut.Whole header body) is);
          all = long;
          answers =
              subst (λ xs. Answers s xs message (outcome t sent))
              (said_is ∙ sym (drop-take header body held)) answers;
        });
        state_is = refl;
        held_is = sym (take-append-drop (header + body) held) ∙ ap (λ xs. frame ++ xs) (sym rest_is);
        carries = carries;
        wrote = wrote;
      }

-- a header without a length is neither too short to tell nor endless
bare_partial : (is : Cut) (n : ℕ) → IsBare is n → is ≢ cut.Partial
bare_partial cut.Partial n bare = absurd bare
bare_partial cut.Endless n bare = absurd bare
bare_partial (cut.NoLength header) n bare = λ e. cc
bare_partial (cut.NoNumber header) n bare = λ e. cc
bare_partial (cut.TooLong header) n bare = absurd bare
bare_partial (cut.Whole header body) n bare = absurd bare

bare_endless : (is : Cut) (n : ℕ) → IsBare is n → is ≢ cut.Endless
bare_endless cut.Partial n bare = absurd bare
bare_endless cut.Endless n bare = absurd bare
bare_endless (cut.NoLength header) n bare = λ e. cc
bare_endless (cut.NoNumber header) n bare = λ e. cc
bare_endless (cut.TooLong header) n bare = absurd bare
bare_endless (cut.Whole header body) n bare = absurd bare

bare_within : (is : Cut) (n : ℕ) → IsBare is n → IsWithin n is
bare_within cut.Partial n bare = tt
bare_within cut.Endless n bare = tt
bare_within (cut.NoLength header) n bare = omega (arith, bare)
bare_within (cut.NoNumber header) n bare = omega (arith, bare)
bare_within (cut.TooLong header) n bare = absurd bare
bare_within (cut.Whole header body) n bare = absurd bare

pub goes_behind_header : (s : ServerState) (held rest : List ℕ) (before behind : Option (List ℕ))
    (bytes : List ℕ) → Appends before behind bytes
    → (is : Cut) (header : ℕ) → IsCut held is → IsBare is header → header ≤ length held
    → (sent : Option Data) → outcome s sent ≡ no_message s → Carries sent bytes
    → rest ≡ drop header held → Goes s held s rest before behind
goes_behind_header s held rest before behind bytes wrote is header is_cut bare within sent done carries rest_is =
    let frame : List ℕ = take header held in
    let long : length frame ≡ header = length-take-le header held within in
    record {
      frame = frame;
      bytes = bytes;
      message = None;
      done = outcome s sent;
      is_turn = inr (record {
        is = is;
        is_cut =
            cut_was frame (drop header held) is (bare_partial is header bare) (bare_endless is header bare)
            (subst (λ n. IsWithin n is) (sym long) (bare_within is header bare))
            (cut_off held header is is_cut);
        bare = subst (IsBare is) (sym long) bare;
        is_unread = refl;
        done_is = done;
      });
      state_is = refl;
      held_is = sym (take-append-drop header held) ∙ ap (λ xs. frame ++ xs) (sym rest_is);
      carries = carries;
      wrote = wrote;
    }

-- ---- endings

-- what the client says ends a session
pub ended_so : (p : Phase) (ending : Ending) (s : ServerState) (held : List ℕ) (now : Option (List ℕ))
    → s.phase ≡ p → Some ending ≡ ended_as p → EndsSo ending s held now
ended_so phase.Waiting ending s held now at e = let no : ⊥ = cc in absurd no
ended_so phase.Running ending s held now at e = let no : ⊥ = cc in absurd no
ended_so phase.Stopping ending s held now at e = let no : ⊥ = cc in absurd no
ended_so phase.Done ending s held now at e =
    let is : endings.Done ≡ ending = cc in
    subst (λ x. EndsSo x s held now) is (ap ended_as at)
ended_so phase.Dropped ending s held now at e =
    let is : endings.Dropped ≡ ending = cc in
    subst (λ x. EndsSo x s held now) is (ap ended_as at)

-- the end of the input does
pub input_ended : (held : List ℕ) (s : ServerState) (now : Option (List ℕ)) → IsCut held cut.Partial
    → IsAtEnd now → EndsSo (end_with held) s held now
input_ended [] s now is at_end = (refl, at_end)
input_ended (byte ∷ bytes) s now is at_end = ((λ e. cc), is, at_end)
