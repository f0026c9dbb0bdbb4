-- The sets of words that name values and of attributes.
use Rattle.std.proofs.Common.{◌≡◌, true, not, ◌&&◌, codes, refl}
use Rattle.std.specs.Prelude.{Option}
use Rattle.sw_token.specs.Spelling.{Spelled}
use Rattle.sw_grammar_forms.specs.Sets.{starts, word, quoted, attribute}
use Rattle.sw_grammar_forms.proofs.KindSets.{starts-without, starts-within}
use Rattle.sw_grammar.specs.Tokens.{plain_word, value_word, at_word}

pub starts-value_word : (token : Option Spelled)
    → starts value_word token ≡ (starts word token && not (starts (quoted (codes "Task")) token))
starts-value_word token =
    starts-without value_word word (quoted (codes "Task")) token refl refl refl

pub starts-plain_word : (token : Option Spelled) → starts plain_word token
    ≡ (starts value_word token && not (starts (quoted (codes "Optional")) token))
starts-plain_word token =
    starts-without plain_word value_word (quoted (codes "Optional")) token refl refl refl

pub starts-at_word : (token : Option Spelled) → starts at_word token
    ≡ (starts attribute token && not (starts (quoted (codes "@concurrent")) token))
starts-at_word token =
    starts-without at_word attribute (quoted (codes "@concurrent")) token refl refl refl

pub at_word-attribute : (token : Option Spelled) → starts at_word token ≡ true
    → starts attribute token ≡ true
at_word-attribute token h = starts-within at_word attribute token refl h

pub sendable-attribute : (token : Option Spelled)
    → starts (quoted (codes "@Sendable")) token ≡ true → starts attribute token ≡ true
sendable-attribute token h = starts-within (quoted (codes "@Sendable")) attribute token refl h
