-- The laws of every grammar, for programs.
use Rattle.std.proofs.Common.{◌≡◌, ℕ, ◌⊎◌, inl, inr, List, ◌++◌, refl, ap, sym, ◌∙◌}
use Rattle.sw_token.specs.Spelling.{Spelled, IsSpelling}
use Rattle.sw_grammar_forms.specs.Relations.{Relation}
use Rattle.sw_grammar_forms.specs.Whole.{IsSpelled}
use Rattle.sw_grammar_forms.proofs.GrammarLaws.{one_value, value_or_unexpected, value_or_fault}
use Rattle.sw_grammar_forms.proofs.GrammarLaws.{spelled_is_shallow}
use Rattle.sw_grammar_forms.proofs.WholeLaws as wholes
use Rattle.sw_tree.specs.declared.decl.Decl.{Decl}
use Rattle.sw_grammar.specs.Around.{outermost}
use Rattle.sw_grammar.specs.Nests.{El, shape_of}
use Rattle.sw_grammar.specs.Decls.{program}
use Rattle.sw_grammar.specs.Enums.{enums, WithEnums}
use Rattle.sw_grammar.specs.Grammar.{body, good}
use Rattle.sw_grammar.specs.Program.{SpellsDecls, Spells, IsProgram, IsUnexpected}
use Rattle.sw_grammar.specs.Program.{SpellsDeclsWithin, SpellsWithin, IsProgramWithin, IsTooDeep}
use Rattle.sw_grammar.specs.Program.{Opens}
use Rattle.sw_grammar.specs.Program.{IsFirstUnexpected}

-- What the tokens spell and what they spell with its enums: if there is one there is the other.
module _ (id_of : List ℕ → ℕ) (R : Relation (List Decl)) (tokens : List Spelled) where
  with_enums : IsSpelled R tokens → IsSpelled (WithEnums id_of R) tokens
  with_enums (written, is) = (
    written ++ enums id_of tokens,
    record {
      spelling = is.spelling;
      form = record { written = written; spelled = is.form; whole = refl };
    },
  )

  without_enums : IsSpelled (WithEnums id_of R) tokens → IsSpelled R tokens
  without_enums (decls, is) =
      (is.form.written, record { spelling = is.spelling; form = is.form.spelled })

  -- the same declarations have the same enums
  same_enums : (a b : List Decl) (h : WithEnums id_of R a tokens) (k : WithEnums id_of R b tokens)
      → h.written ≡ k.written → a ≡ b
  same_enums a b h k same =
      h.whole ∙ (ap (λ written. written ++ enums id_of tokens) same ∙ sym k.whole)

pub decided : (id_of : List ℕ → ℕ) (tokens : List Spelled) → IsSpelling tokens
    → IsProgram id_of tokens ⊎ ((n : ℕ) × IsUnexpected id_of tokens n)
decided id_of tokens is =
    elim (value_or_unexpected El shape_of (body id_of) good (program (outermost id_of)) refl
    tokens is) [
      | inl h ↦ inl (with_enums id_of (SpellsDecls id_of) tokens h)
      | inr h ↦ inr h
    ]

pub never_both : (id_of : List ℕ → ℕ) (tokens : List Spelled) (n : ℕ) → IsProgram id_of tokens
    → ¬ (IsUnexpected id_of tokens n)
never_both id_of tokens n h k =
    wholes.none_unexpected (SpellsDecls id_of) tokens n
    (without_enums id_of (SpellsDecls id_of) tokens h) k

pub one_program : (id_of : List ℕ → ℕ) (tokens : List Spelled) (a b : List Decl)
    → Spells id_of a tokens → Spells id_of b tokens → a ≡ b
one_program id_of tokens a b h k =
    same_enums id_of (SpellsDecls id_of) tokens a b h.form k.form
    (one_value El shape_of (body id_of) good (program (outermost id_of)) refl h.form.written
    k.form.written tokens h.form.spelled k.form.spelled)

pub one_unexpected : (id_of : List ℕ → ℕ) (tokens : List Spelled) (a b : ℕ)
    → IsUnexpected id_of tokens a → IsUnexpected id_of tokens b → a ≡ b
one_unexpected id_of tokens a b h k = wholes.one_unexpected (SpellsDecls id_of) tokens a b h k

pub decided_within : (id_of : List ℕ → ℕ) (depth : ℕ) (tokens : List Spelled) → IsSpelling tokens
    → IsProgramWithin id_of depth tokens
    ⊎ ((n : ℕ) × (IsFirstUnexpected id_of depth tokens n ⊎ IsTooDeep id_of depth tokens n))
decided_within id_of depth tokens is =
    elim (value_or_fault El shape_of (body id_of) good (program (outermost id_of)) refl
    depth tokens is) [
      | inl h ↦ inl (with_enums id_of (SpellsDeclsWithin id_of depth) tokens h)
      | inr h ↦ elim h.1 [
        | inl k ↦ inr (h.0, inl (record { unexpected = k.0; shallow = k.1 }))
        | inr k ↦ inr (h.0, inr k)
      ]
    ]

pub never_unexpected : (id_of : List ℕ → ℕ) (depth : ℕ) (tokens : List Spelled) (n : ℕ)
    → IsProgramWithin id_of depth tokens → ¬ (IsFirstUnexpected id_of depth tokens n)
never_unexpected id_of depth tokens n h k =
    wholes.none_unexpected (SpellsDecls id_of) tokens n
    (h.1.form.written, record { spelling = h.1.spelling; form = (depth, h.1.form.spelled) })
    k.unexpected

pub one_program_within : (id_of : List ℕ → ℕ) (depth : ℕ) (tokens : List Spelled)
    (a b : List Decl) → SpellsWithin id_of depth a tokens → SpellsWithin id_of depth b tokens
    → a ≡ b
one_program_within id_of depth tokens a b h k =
    same_enums id_of (SpellsDeclsWithin id_of depth) tokens a b h k
    (one_value El shape_of (body id_of) good (program (outermost id_of)) refl h.written k.written
    tokens (depth, h.spelled) (depth, k.spelled))

pub one_first_unexpected : (id_of : List ℕ → ℕ) (depth : ℕ) (tokens : List Spelled) (a b : ℕ)
    → IsFirstUnexpected id_of depth tokens a → IsFirstUnexpected id_of depth tokens b → a ≡ b
one_first_unexpected id_of depth tokens a b h k =
    one_unexpected id_of tokens a b h.unexpected k.unexpected

pub never_too_deep : (id_of : List ℕ → ℕ) (depth : ℕ) (tokens : List Spelled) (n : ℕ)
    → IsProgramWithin id_of depth tokens → ¬ (IsTooDeep id_of depth tokens n)
never_too_deep id_of depth tokens n h k =
    spelled_is_shallow El shape_of (body id_of) good (program (outermost id_of)) refl
    depth tokens (without_enums id_of (SpellsDeclsWithin id_of depth) tokens h) n k.within
    k.opens

pub one_too_deep : (id_of : List ℕ → ℕ) (depth : ℕ) (tokens : List Spelled) (a b : ℕ)
    → IsTooDeep id_of depth tokens a → IsTooDeep id_of depth tokens b → a ≡ b
one_too_deep id_of depth tokens a b h k =
    wholes.one_too_deep (Opens id_of depth) (SpellsDecls id_of) tokens a b h k

pub one_fault : (id_of : List ℕ → ℕ) (depth : ℕ) (tokens : List Spelled) (a b : ℕ)
    → IsFirstUnexpected id_of depth tokens a → ¬ (IsTooDeep id_of depth tokens b)
one_fault id_of depth tokens a b h k =
    wholes.unexpected_or_deep (Opens id_of depth) (SpellsDecls id_of) tokens a b h.unexpected
    h.shallow k
