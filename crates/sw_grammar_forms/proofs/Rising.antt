-- Tokens that stand apart, along a list, and spellings that go on with new tokens.
use Rattle.std.proofs.Common.{◌≡◌, ℕ, ◌+◌, ◌≤◌, List, [], ◌∷◌, ◌++◌, length, refl, sym, subst}
use Rattle.std.proofs.Common.{arith}
use Rattle.std.specs.List.{AllByRecursion}
use Rattle.std.proofs.lemmas.List.Elements.{All-from_recursion, recursion_from_All}
use Rattle.sw_token.specs.Spelling.{Spelled, IsTokenText, StandApart, IsSpelling}
use Rattle.sw_grammar_forms.proofs.ReaderLaws.{Fills}

-- where the last token ends
abbrev pub end_of : ℕ → List Spelled → ℕ
end_of from [] = from
end_of from (t ∷ ts) = end_of (t.at + length t.text) ts

pub end_of-append : (from : ℕ) (us vs : List Spelled)
    → end_of from (us ++ vs) ≡ end_of (end_of from us) vs
end_of-append from [] vs = refl
end_of-append from (u ∷ us) vs = end_of-append (u.at + length u.text) us vs

pub StandApart-earlier : (to from : ℕ) (ts : List Spelled) → to ≤ from → StandApart from ts
    → StandApart to ts
StandApart-earlier to from [] early h = tt
StandApart-earlier to from (t ∷ ts) early h = (omega (arith, h.0), h.1)

pub StandApart-append : (from : ℕ) (us vs : List Spelled) → StandApart from us
    → StandApart (end_of from us) vs → StandApart from (us ++ vs)
StandApart-append from [] vs h k = k
StandApart-append from (u ∷ us) vs h k =
    (h.0, StandApart-append (u.at + length u.text) us vs h.1 k)

pub StandApart-prefix : (from : ℕ) (us vs : List Spelled) → StandApart from (us ++ vs)
    → StandApart from us
StandApart-prefix from [] vs h = tt
StandApart-prefix from (u ∷ us) vs h =
    (h.0, StandApart-prefix (u.at + length u.text) us vs h.1)

pub StandApart-rest : (from : ℕ) (us vs : List Spelled) → StandApart from (us ++ vs)
    → StandApart (end_of from us) vs
StandApart-rest from [] vs h = h
StandApart-rest from (u ∷ us) vs h = StandApart-rest (u.at + length u.text) us vs h.1

StandApart-fills : (from : ℕ) (ts : List Spelled) → Fills from ts → StandApart from ts
StandApart-fills from [] h = tt
StandApart-fills from (t ∷ ts) h = (
  omega (arith, h.0),
  subst (λ at. StandApart (at + length t.text) ts) (sym h.0)
      (StandApart-fills (from + length t.text) ts h.2),
)

abbrev pub HasTokenText : Spelled → Type 0
HasTokenText token = IsTokenText token.text

pub texts_append : (us vs : List Spelled) → AllByRecursion HasTokenText us
    → AllByRecursion HasTokenText vs → AllByRecursion HasTokenText (us ++ vs)
texts_append [] vs h k = k
texts_append (u ∷ us) vs h k = (h.0, texts_append us vs h.1 k)

pub texts_prefix : (us vs : List Spelled) → AllByRecursion HasTokenText (us ++ vs)
    → AllByRecursion HasTokenText us
texts_prefix [] vs h = tt
texts_prefix (u ∷ us) vs h = (h.0, texts_prefix us vs h.1)

texts_fills : (from : ℕ) (ts : List Spelled) → Fills from ts → AllByRecursion HasTokenText ts
texts_fills from [] h = tt
texts_fills from (t ∷ ts) h = (h.1, texts_fills (from + length t.text) ts h.2)

pub is_spelling : (from : ℕ) (ts : List Spelled) → AllByRecursion HasTokenText ts
    → StandApart from ts → IsSpelling ts
is_spelling from ts texts apart =
    record {
      texts = All-from_recursion HasTokenText ts texts;
      apart = StandApart-earlier 0 from ts (omega arith) apart;
    }

-- The tokens before a fault go on with new tokens to a spelling.
pub IsSpelling-completed : (before bad filler : List Spelled) → IsSpelling (before ++ bad)
    → Fills (end_of 0 before) filler → IsSpelling (before ++ filler)
IsSpelling-completed before bad filler is fills = is_spelling 0 (before ++ filler)
    (texts_append before filler
    (texts_prefix before bad (recursion_from_All HasTokenText (before ++ bad) is.texts))
    (texts_fills (end_of 0 before) filler fills))
    (StandApart-append 0 before filler (StandApart-prefix 0 before bad is.apart)
    (StandApart-fills (end_of 0 before) filler fills))

pub texts_rest : (us vs : List Spelled) → AllByRecursion HasTokenText (us ++ vs)
    → AllByRecursion HasTokenText vs
texts_rest [] vs h = h
texts_rest (u ∷ us) vs h = texts_rest us vs h.1

-- The first tokens of a spelling are a spelling, and so are those after them.
pub IsSpelling-first : (us vs : List Spelled) → IsSpelling (us ++ vs) → IsSpelling us
IsSpelling-first us vs is = is_spelling 0 us
    (texts_prefix us vs (recursion_from_All HasTokenText (us ++ vs) is.texts))
    (StandApart-prefix 0 us vs is.apart)

pub IsSpelling-rest : (us vs : List Spelled) → IsSpelling (us ++ vs) → IsSpelling vs
IsSpelling-rest us vs is = is_spelling (end_of 0 us) vs
    (texts_rest us vs (recursion_from_All HasTokenText (us ++ vs) is.texts))
    (StandApart-rest 0 us vs is.apart)
