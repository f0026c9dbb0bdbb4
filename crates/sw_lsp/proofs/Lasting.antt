-- Along a session what is shown stays right.
use Rattle.std.proofs.Common.{◌≡◌, ℕ, inl, List, ◌++◌, Option, None, refl, sym, ap, subst, ◌∙◌}
use Rattle.std.proofs.lemmas.List.Sums.{fold_push}
use Rattle.std.specs.Io.KnownBytes.{Consumes, IsAtEnd}
use Rattle.sw_lsp_text.specs.Frames.{IsCut}
use Rattle.sw_lsp_text.specs.declared.frame.Cut.TheVariants.{Partial}
use Rattle.sw_lsp_findings.specs.Settings.{KnownSetting}
use Rattle.sw_lsp.specs.Documents.{text_in}
use Rattle.sw_lsp.specs.Law.{IsRightlyShown, heard, last_shown, last_text, shown_by}
use Rattle.sw_lsp.specs.Session.{Exchange, IsSession, exchange, goes_on, opens}
use Rattle.sw_lsp.specs.Steps.{ServerState}
use Rattle.sw_lsp.specs.Served.{EndsSo, IsServed, IsUnderWay, end_with}
use Rattle.sw_lsp.specs.declared.ending.Ending.{Ending}
use Rattle.sw_lsp.proofs.Answering.{all_answered}
use Rattle.sw_lsp.proofs.Showing.{IsFresh, turn_lasts}
use Rattle.sw_lsp.proofs.Turns.{input_ended, takes_in}

record IsRight (talk : List Exchange) (s : ServerState) : Type 0 where
  text : (uri : List ℕ) → text_in uri s.documents ≡ last_text uri talk
  right : (uri : List ℕ) → IsRightlyShown s.setting uri (text_in uri s.documents) (last_shown uri talk)
  fresh : IsFresh s

stays_right : (setting : KnownSetting) (came went : List ℕ) (talk : List Exchange) (s : ServerState)
    → IsSession setting came went talk s → IsRight talk s
stays_right setting came went talk s opens = record {
  text = λ uri. refl;
  right = λ uri. inl refl;
  fresh = λ e. refl;
}
stays_right setting came went talk s (goes_on came' went' talk' s' before going frame bytes m done turn carries) =
    let was = stays_right setting came' went' talk' s' before in
    let lasts = turn_lasts s' frame m done was.fresh turn in
    let e = exchange s' m done in
    record {
      text = λ uri.
          lasts.text uri ∙ ap (λ known. heard uri known e) (was.text uri)
          ∙ sym (fold_push (heard uri) None talk' e);
      right = λ uri.
          subst (IsRightlyShown done.state.setting uri (text_in uri done.state.documents))
          (sym (fold_push (shown_by uri) None talk' e))
          (lasts.right uri (last_shown uri talk') (was.right uri));
      fresh = lasts.fresh;
    }

pub shown_right : (setting : KnownSetting) (came went : List ℕ) (talk : List Exchange) (s : ServerState)
    → IsSession setting came went talk s → (uri : List ℕ)
    → IsRightlyShown s.setting uri (last_text uri talk) (last_shown uri talk)
shown_right setting came went talk s session uri =
    let is = stays_right setting came went talk s session in
    subst (λ known. IsRightlyShown s.setting uri known (last_shown uri talk)) (is.text uri) (is.right uri)

-- a session that ends so
pub served : (setting : KnownSetting) (came now before behind : Option (List ℕ)) (held : List ℕ)
    (s : ServerState) (ending : Ending) → IsUnderWay setting came now before behind held s
    → EndsSo ending s held now → IsServed setting came now before behind ending
served setting came now before behind held s ending so_far ends = record {
  held = held;
  state = s;
  is_so_far = so_far;
  ends = ends;
  right = shown_right setting so_far.taken so_far.went so_far.talk s so_far.is_session;
  answered = all_answered setting so_far.taken so_far.went so_far.talk s so_far.is_session;
}

-- a session whose input ends
pub served_to_the_end : (setting : KnownSetting) (came now then before behind : Option (List ℕ))
    (held next more : List ℕ) (s : ServerState) → IsUnderWay setting came now before behind held s
    → Consumes now then more → next ≡ held ++ more → IsAtEnd then × (next ≡ held) → IsCut held Partial
    → IsServed setting came then before behind (end_with next)
served_to_the_end setting came now then before behind held next more s so_far consumes next_is ends is =
    let after = takes_in setting came now then before behind held more s so_far consumes in
    let same : held ++ more ≡ held = sym next_is ∙ ends.1 in
    subst (λ xs. IsServed setting came then before behind (end_with xs)) (sym ends.1)
    (served setting came then before behind held s (end_with held)
    (subst (λ xs. IsUnderWay setting came then before behind xs s) same after)
    (input_ended held s then is ends.0))
