-- Where the words of a mend may stand.
use Rattle.std.specs.Prelude.{ℕ, zero, suc, ◌+◌, Bool, false, not, ◌&&◌, if◌then◌else◌, List, [], ◌++◌}
use Rattle.std.specs.Prelude.{length, take, drop, codes, Option, None, option_map, option_to_list}
use Rattle.std.specs.List.{prefix_len}
use Rattle.std.specs.Option.{option_map_or}
use Rattle.std.specs.Str.{bytes_eq}
use Rattle.sw_token.specs.declared.Token.{Token}
use Rattle.sw_lsp_places.specs.Ranges.{Tokenized, span_at, spelled, text_at}
use Rattle.sw_lsp_mends.specs.declared.words.Mend.{Mend}
use Rattle.sw_lsp_mends.specs.declared.words.Mend.TheVariants.{Await, Capture, SendingResult}
use Rattle.sw_lsp_mends.specs.declared.words.Mend.TheVariants.{SendingParameter}

-- whether the token of a number has this text
abbrev pub is_at : Tokenized → ℕ → List ℕ → Bool
is_at t number text = option_map_or (λ found. bytes_eq found text) (text_at t number) false

-- where the token of a number starts and ends
abbrev pub start_at : Tokenized → ℕ → Option ℕ
start_at t number = option_map (λ span. span.start) (span_at t number)

abbrev pub end_at : Tokenized → ℕ → Option ℕ
end_at t number = option_map (λ span. span.end) (span_at t number)

abbrev pub no_arrow : Tokenized → Token → Bool
no_arrow t token = not (bytes_eq (spelled t.text token) (codes "->"))

-- how many tokens from this one on are before the first `->`
abbrev pub before_arrow : Tokenized → ℕ → ℕ
before_arrow t from = prefix_len (no_arrow t) (drop from t.tokens)

-- the start of what follows the first `->` from a token on
abbrev pub behind_arrow : Tokenized → ℕ → Option ℕ
behind_arrow t from = start_at t (from + before_arrow t from + 1)

-- Where the words may stand by the token of a number, if they may, for a breach at this word: at any
-- token; behind a `{`; before the result of a function of this name; before the type of a parameter
-- of this name.
abbrev pub site : Mend → Tokenized → List ℕ → ℕ → Option ℕ
site Await t word number = start_at t number
site Capture t word number = if is_at t number (codes "{") then end_at t number else None
site SendingResult t word number =
    if is_at t number (codes "func") && is_at t (number + 1) word then behind_arrow t number else None
site SendingParameter t word number =
    if is_at t number word && is_at t (number + 1) (codes ":") then start_at t (number + 2) else None

-- Below which number the tokens are tried. Words stand before the breach, but a function may be
-- declared anywhere.
abbrev pub reach : Mend → Tokenized → ℕ → ℕ
reach Await t number = number + 1
reach Capture t number = number + 1
reach SendingResult t number = length t.tokens
reach SendingParameter t number = number + 1

-- the sites by the tokens below a number, from the last of them
abbrev pub sites_below : (ℕ → Option ℕ) → ℕ → List ℕ
sites_below by zero = []
sites_below by (suc number) = option_to_list (by number) ++ sites_below by number

-- the sites that are tried for a breach at this word, which is the token of this number
abbrev pub sites : Mend → Tokenized → ℕ → List ℕ → List ℕ
sites mend t number word = take 32 (sites_below (site mend t word) (reach mend t number))
