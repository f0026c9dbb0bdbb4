-- Programs as tokens. `id_of` gives the index of a text among the texts of names.
use Rattle.std.specs.Prelude.{ℕ, List}
use Rattle.sw_token.specs.Spelling.{Spelled}
use Rattle.sw_grammar_forms.specs.Spells.{spells, Wide}
use Rattle.sw_grammar_forms.specs.Whole.{IsSpelledAs, IsSpelled, IsUnexpectedIn, IsTooDeepIn}
use Rattle.sw_grammar_forms.specs.Whole.{IsShallow}
use Rattle.sw_grammar_forms.specs.Opens.{opens}
use Rattle.sw_tree.specs.declared.decl.Decl.{Decl}
use Rattle.sw_grammar.specs.Around.{outermost}
use Rattle.sw_grammar.specs.Nests.{El, shape_of}
use Rattle.sw_grammar.specs.Decls.{program}
use Rattle.sw_grammar.specs.Enums.{WithEnums}
use Rattle.sw_grammar.specs.Grammar.{body}

-- The tokens have the form of these declarations.
abbrev pub SpellsDecls : (List ℕ → ℕ) → List Decl → List Spelled → Type 0
SpellsDecls id_of decls tokens =
    Wide El shape_of (body id_of) (program (outermost id_of)) decls tokens

-- the same, where at most `depth` constructs are open at a token
abbrev pub SpellsDeclsWithin : (List ℕ → ℕ) → ℕ → List Decl → List Spelled → Type 0
SpellsDeclsWithin id_of depth decls tokens =
    spells El shape_of (body id_of) depth (program (outermost id_of)) decls tokens

-- A program is the declarations that its tokens spell, and the enums of its optionals.
abbrev pub SpellsWithin : (List ℕ → ℕ) → ℕ → List Decl → List Spelled → Type 0
SpellsWithin id_of depth decls tokens =
    WithEnums id_of (SpellsDeclsWithin id_of depth) decls tokens

-- The tokens are a spelling of the program that these declarations are.
abbrev pub Spells : (List ℕ → ℕ) → List Decl → List Spelled → Type 0
Spells id_of decls tokens = IsSpelledAs (WithEnums id_of (SpellsDecls id_of)) decls tokens

-- some program has these tokens as a spelling
abbrev pub IsProgram : (List ℕ → ℕ) → List Spelled → Type 0
IsProgram id_of tokens = IsSpelled (WithEnums id_of (SpellsDecls id_of)) tokens

-- The first `n` tokens begin a program's spelling. With the next they begin none; where there is no
-- next, they are none themselves.
abbrev pub IsUnexpected : (List ℕ → ℕ) → List Spelled → ℕ → Type 0
IsUnexpected id_of tokens n = IsUnexpectedIn (SpellsDecls id_of) tokens n

-- some program has these tokens as a spelling, with at most `depth` nests open at a token
abbrev pub IsProgramWithin : (List ℕ → ℕ) → ℕ → List Spelled → Type 0
IsProgramWithin id_of depth tokens = IsSpelled (SpellsWithin id_of depth) tokens

-- The last of the tokens opens a nest where `depth` nests are open before it.
abbrev pub Opens : (List ℕ → ℕ) → ℕ → List Spelled → Type 0
Opens id_of depth tokens =
    opens El shape_of (body id_of) depth (program (outermost id_of)) tokens

-- The token after the first `n` is the first that opens a nest where `depth` are open, and a
-- program's spelling begins with it and those before it.
abbrev pub IsTooDeep : (List ℕ → ℕ) → ℕ → List Spelled → ℕ → Type 0
IsTooDeep id_of depth tokens n = IsTooDeepIn (Opens id_of depth) (SpellsDecls id_of) tokens n

-- The token after the first `n` can't be taken, and none before it opens a nest too many.
pub record IsFirstUnexpected (id_of : List ℕ → ℕ) (depth : ℕ) (tokens : List Spelled)
    (n : ℕ) : Type 0 where
  pub unexpected : IsUnexpected id_of tokens n
  pub shallow : IsShallow (Opens id_of depth) tokens n
