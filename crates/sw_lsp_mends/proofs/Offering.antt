-- What is offered for breaches, one after another, and the document of a text.
use Rattle.std.proofs.Common.{◌≡◌, ℕ, List, [], ◌∷◌, ◌++◌, Option, Some, None, option_map, option_to_list}
use Rattle.std.proofs.Common.{map, refl, sym, ap, ◌∙◌, append_assoc}
use Rattle.std.proofs.lemmas.List.{append-nil, map-append}
use Rattle.sw_breach.specs.declared.Breach.{Breach}
use Rattle.sw_token.specs.declared.Token.{Token}
use Rattle.sw_lsp_text.specs.declared.diagnostic.Action.{Action}
use Rattle.sw_lsp_places.specs.Ranges.{Tokenized}
use Rattle.sw_lsp_findings.specs.Settings.{KnownSetting}
use Rattle.sw_lsp_mends.specs.Actions.{document}
use Rattle.sw_lsp_mends.specs.Offers.{AreMends, Document, IsOffered, KnownAction, seen_action}

-- one more breach
pub mends_push : (d : Document) (breaches : List Breach) (breach : Breach) (offered : List KnownAction)
    (last : Option KnownAction) → AreMends d breaches offered → IsOffered d breach last
    → AreMends d (breaches ++ breach ∷ []) (offered ++ option_to_list last)
mends_push d [] breach offered last none is =
    rw none (record {
      first = last;
      rest = [];
      is_first = is;
      are_rest = refl;
      offered_are = sym (append-nil (option_to_list last));
    })
mends_push d (b ∷ bs) breach offered last are is = record {
  first = are.first;
  rest = are.rest ++ option_to_list last;
  is_first = are.is_first;
  are_rest = mends_push d bs breach are.rest last are.are_rest is;
  offered_are =
      ap (λ xs. xs ++ option_to_list last) are.offered_are
      ∙ append_assoc (option_to_list are.first) are.rest (option_to_list last);
}

-- what was offered, and one more action or none
pub seen_more : (before after : List Action) (o : Option Action) → after ≡ before ++ option_to_list o
    → map seen_action after ≡ map seen_action before ++ option_to_list (option_map seen_action o)
seen_more before after None is =
    ap (map seen_action) (is ∙ append-nil before) ∙ sym (append-nil (map seen_action before))
seen_more before after (Some action) is =
    ap (map seen_action) is ∙ map-append seen_action before (action ∷ [])

abbrev pub tokenized : List ℕ → List Token → Tokenized
tokenized text tokens = record { text = text; tokens = tokens }

-- the document of a text
pub document_is : (d : Document) (setting : KnownSetting) (uri text : List ℕ) → d.setting ≡ setting
    → d.uri ≡ uri → d.table.text ≡ text
    → d ≡ document setting uri (tokenized text d.table.tokens) d.breaches
document_is d setting uri text of at is =
    ap (λ (s : KnownSetting). document s d.uri d.table d.breaches) of
    ∙ ap (λ (u : List ℕ). document setting u d.table d.breaches) at
    ∙ ap (λ (t : List ℕ). document setting uri (tokenized t d.table.tokens) d.breaches) is
