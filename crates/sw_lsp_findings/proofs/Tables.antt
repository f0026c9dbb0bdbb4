-- A text with its tokens, as a table of ranges has them.
use Rattle.std.proofs.Common.{◌≡◌, ℕ, List, ap}
use Rattle.sw_token.specs.declared.Token.{Token}
use Rattle.sw_lsp_places.specs.Ranges.{Tokenized}

abbrev pub tokenized : List ℕ → List Token → Tokenized
tokenized text tokens = record { text = text; tokens = tokens }

-- the table of a text
pub table_of_text : (t : Tokenized) (text : List ℕ) → t.text ≡ text → t ≡ tokenized text t.tokens
table_of_text t text e = ap (λ x. tokenized x t.tokens) e
