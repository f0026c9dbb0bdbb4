-- The tokens of a source are a spelling, and the cursor can read them.
use Rattle.std.proofs.Common.{ℕ, ◌-◌, List, [], ◌∷◌, drop, arith, length-take}
use Rattle.std.proofs.lemmas.List.Elements.{All-from_recursion}
use Rattle.std.specs.Prelude.{All}
use Rattle.std.specs.List.{AllByRecursion}
use Rattle.std.specs.Str.{IsUtf8}
use Rattle.sw_token.specs.declared.Token.{Token}
use Rattle.sw_token.specs.Tokens.{lexis, IsTokens, IsTokenIn, StandInOrder}
use Rattle.sw_token.specs.Spelling.{spelled, spelling_of, StandApart, IsSpelling, IsReadable}
use Rattle.sw_token.proofs.TokenLaws.{IsTokens-stand, IsTokens-each_by_recursion, IsTokens-order}
use Rattle.sw_token.proofs.TokenTexts.{IsTokenText-IsToken}
use Rattle.sw_token.proofs.Spans.{slice_of, IsTokenIn-stands, borders}
use Rattle.sw_scan.proofs.Positions.{StandsIn}
use Rattle.sw_grammar_forms.proofs.Rising.{StandApart-earlier, HasTokenText, is_spelling}

-- Each token has the text of a token.

stands_text : (source : List ℕ) (token : Token) → StandsIn lexis IsUtf8 source token
    → HasTokenText (spelled source token)
stands_text source token is =
    rw (is.is_made, is.whole_is, slice_of is.prefix is.text is.after)
    (IsTokenText-IsToken is.before.is_white is.text is.after is.is_item.is_token)

tokens_texts : (source : List ℕ) (tokens : List Token)
    → AllByRecursion (StandsIn lexis IsUtf8 source) tokens
    → AllByRecursion HasTokenText (spelling_of source tokens)
tokens_texts source [] h = tt
tokens_texts source (token ∷ tokens) h =
    (stands_text source token h.0, tokens_texts source tokens h.1)

-- Each token ends before the next begins.

order_apart : (source : List ℕ) (from : ℕ) (tokens : List Token)
    → AllByRecursion (IsTokenIn source) tokens → StandInOrder from tokens
    → StandApart from (spelling_of source tokens)
order_apart source from [] each h = tt
order_apart source from (token ∷ tokens) each h =
    let some = each.0.some in
    let short = length-take (token.span.end - token.span.start) (drop token.span.start source) in (
      h.0,
      StandApart-earlier _ token.span.end (spelling_of source tokens) (omega arith)
          (order_apart source token.span.end tokens each.1 h.1),
    )

-- The tokens of a source are a spelling.
pub tokens_spelled : (source : List ℕ) (tokens : List Token) → IsUtf8 source
    → IsTokens source tokens → IsSpelling (spelling_of source tokens)
tokens_spelled source tokens utf8 is =
    is_spelling 0 (spelling_of source tokens)
    (tokens_texts source tokens (IsTokens-stand source tokens utf8 is))
    (order_apart source 0 tokens (IsTokens-each_by_recursion source tokens utf8 is)
    (IsTokens-order source tokens is))

readable : (source : List ℕ) (token : Token) → StandsIn lexis IsUtf8 source token
    → IsReadable source token
readable source token is =
    let inside = IsTokenIn-stands source token is in
    let ends = borders source token is in
    record {
      ordered = omega (arith, inside.some);
      start = ends.0;
      end = ends.1;
      kind = inside.kind;
    }

each_readable : (source : List ℕ) (tokens : List Token)
    → AllByRecursion (StandsIn lexis IsUtf8 source) tokens
    → AllByRecursion (IsReadable source) tokens
each_readable source [] h = tt
each_readable source (token ∷ tokens) h =
    (readable source token h.0, each_readable source tokens h.1)

-- The cursor can read the tokens of a source.
pub tokens_readable : (source : List ℕ) (tokens : List Token) → IsUtf8 source
    → IsTokens source tokens → All (IsReadable source) tokens
tokens_readable source tokens utf8 is =
    All-from_recursion (IsReadable source) tokens
    (each_readable source tokens (IsTokens-stand source tokens utf8 is))
