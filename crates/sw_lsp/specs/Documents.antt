-- The documents whose texts are known, each by its address.
use Rattle.std.specs.Prelude.{ℕ, List, [], ◌∷◌, ◌++◌, Option, find, filter, not, option_map}
use Rattle.std.specs.Str.{bytes_eq}

-- each is an address and a text
abbrev pub KnownDocuments : Type 0
KnownDocuments = List (List ℕ × List ℕ)

-- the text of the document of this address
abbrev pub text_in : List ℕ → KnownDocuments → Option (List ℕ)
text_in uri documents =
    option_map (λ document. document.1) (find (λ document. bytes_eq document.0 uri) documents)

-- the other documents
abbrev pub without : List ℕ → KnownDocuments → KnownDocuments
without uri documents = filter (λ document. not (bytes_eq document.0 uri)) documents

-- the documents where this one has this text
abbrev pub with_text : List ℕ → List ℕ → KnownDocuments → KnownDocuments
with_text uri text documents = without uri documents ++ (uri, text) ∷ []
