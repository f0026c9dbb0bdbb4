-- What one token is in its text.
use Rattle.std.proofs.Common.{◌≡◌, ◌⊎◌, ℕ, ◌+◌, ◌-◌, Bool, List, ◌++◌, length, take, refl, sym, ap}
use Rattle.std.proofs.Common.{◌∙◌, inl, inr, arith, append_assoc, length-append}
use Rattle.std.specs.Prelude.{slice_range}
use Rattle.std.specs.Str.{IsUtf8, IsCharBoundary}
use Rattle.std.proofs.lemmas.List.{take_at, drop_at}
use Rattle.std.proofs.lemmas.Str.{IsCharBoundary-at_seam}
use Rattle.sw_scan.proofs.Positions.{StandsIn}
use Rattle.sw_token.specs.declared.Kind.{Kind}
use Rattle.sw_token.specs.declared.Kind.TheVariants as kinds
use Rattle.sw_token.specs.declared.Fixity.TheVariants as fixities
use Rattle.sw_token.specs.declared.Token.{Token}
use Rattle.sw_token.specs.declared.before.Before.{Before}
use Rattle.sw_token.specs.Kinds.{kind_of}
use Rattle.sw_token.specs.Operators.{is_white_after}
use Rattle.sw_token.specs.Tokens.{IsToken, IsTokenIn, fixity_of, token_of, lexis}
use Rattle.sw_token.proofs.Steps.{some_token, IsUtf8-IsToken}
use Rattle.sw_token.proofs.Utf8Lemmas.{utf8_after}

-- the bytes that a token spans are its text
pub slice_of : (prefix text after : List ℕ)
    → slice_range (prefix ++ (text ++ after)) (length prefix) (length prefix + length text) ≡ text
slice_of prefix text after =
    let size : length text ≡ (length prefix + length text) - length prefix = omega arith in
    ap (take ((length prefix + length text) - length prefix))
    (drop_at prefix (text ++ after) (length prefix) refl)
    ∙ take_at text after ((length prefix + length text) - length prefix) size

-- only an operator has a fixity
fixity_is : (kind : Kind) (before after : Bool)
    → (fixity_of kind before after ≡ fixities.None) ⊎ ((number : ℕ) × (kind ≡ kinds.Op number))
fixity_is kinds.Word before after = inl refl
fixity_is kinds.Underscore before after = inl refl
fixity_is (kinds.Key number) before after = inl refl
fixity_is kinds.At before after = inl refl
fixity_is (kinds.Int value) before after = inl refl
fixity_is (kinds.Op number) before after = inr (number, refl)
fixity_is (kinds.Mark number) before after = inl refl

made_in : (prefix text after : List ℕ) (before : Before) → IsToken before.is_white text after
    → IsTokenIn (prefix ++ (text ++ after)) (token_of (length prefix) before text after)
made_in prefix text after before t =
    let cut = slice_of prefix text after in
    record {
      some = omega (arith, some_token before.is_white text after t);
      within = omega (arith, length-append prefix (text ++ after), length-append text after);
      kind = ap kind_of (sym cut);
      utf8 = rw cut (IsUtf8-IsToken before.is_white text after t);
      fixity = fixity_is (kind_of text) before.is_white (is_white_after after);
    }

pub IsTokenIn-stands : (text : List ℕ) (token : Token) → StandsIn lexis IsUtf8 text token
    → IsTokenIn text token
IsTokenIn-stands text token is =
    rw (is.whole_is, is.is_made) (made_in is.prefix is.text is.after is.before is.is_item.is_token)

-- a token's span cuts no character in two
pub borders : (text : List ℕ) (token : Token) → StandsIn lexis IsUtf8 text token
    → IsCharBoundary text token.span.start × IsCharBoundary text token.span.end
borders text token is =
    let whole : text ≡ (is.prefix ++ is.text) ++ is.after =
    is.whole_is ∙ sym (append_assoc is.prefix is.text is.after) in
    let later =
    utf8_after is.text is.after
    (IsUtf8-IsToken is.before.is_white is.text is.after is.is_item.is_token) is.sound in
    let start : IsCharBoundary text (length is.prefix) =
    IsCharBoundary-at_seam text is.prefix (is.text ++ is.after) is.whole_is is.sound in
    let end : IsCharBoundary text (length (is.prefix ++ is.text)) =
    IsCharBoundary-at_seam text (is.prefix ++ is.text) is.after whole later in
    rw is.is_made (start, rw (length-append is.prefix is.text) at end)
