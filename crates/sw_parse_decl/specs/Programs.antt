-- Programs: which texts their names have, which declarations their tokens spell, and the one fault
-- of tokens that are no program.
use Rattle.std.specs.Prelude.{ℕ, List}
use Rattle.sw_token.specs.Spelling.{Spelled}
use Rattle.sw_grammar_forms.specs.Reader.{Reader, whole}
use Rattle.sw_grammar_forms.specs.Whole.{IsSpelledAs}
use Rattle.sw_tree.specs.Names.{predeclared, with_texts}
use Rattle.sw_tree.specs.declared.decl.Decl.{Decl}
use Rattle.sw_grammar.specs.Around.{Around, outermost, index_in}
use Rattle.sw_grammar.specs.Decls.{program}
use Rattle.sw_grammar.specs.Program.{SpellsWithin, IsFirstUnexpected, IsTooDeep}
use Rattle.sw_grammar.specs.Reading.{read}
use Rattle.sw_grammar_facts.specs.Interned.{texts_in}
use Rattle.sw_parse_decl.specs.declared.fault.ParseFault.{ParseFault}
use Rattle.sw_parse_decl.specs.declared.fault.ParseFault.TheVariants as faults

-- how many nests may be open at a token
abbrev pub most_nests : ℕ
most_nests = 128

-- The texts of a program's names: the predeclared ones, and those of its tokens.
unfoldable pub texts_of : List Spelled → List (List ℕ)
texts_of tokens = with_texts predeclared (texts_in tokens)

-- The tokens are a spelling of the program that these declarations are, and no token of it opens a
-- nest too many.
abbrev pub IsProgramOf : List Decl → List Spelled → Type 0
IsProgramOf decls tokens =
    IsSpelledAs (SpellsWithin (index_in (texts_of tokens)) most_nests) decls tokens

-- reads the declarations of a program and no more, from left to right
abbrev pub whole_around : Around → Reader (List Decl)
whole_around around = whole (read around most_nests (program around))

abbrev pub whole_program : (List ℕ → ℕ) → Reader (List Decl)
whole_program id_of = whole_around (outermost id_of)

-- The one syntax fault of the tokens: the first that can't be taken, or the first that opens a nest
-- too many, whichever is earlier; at one token it is the former.
abbrev pub IsSyntaxFault : List Spelled → ParseFault → Type 0
IsSyntaxFault tokens (faults.Unexpected token) =
    IsFirstUnexpected (index_in (texts_of tokens)) most_nests tokens token
IsSyntaxFault tokens (faults.TooDeep token) =
    IsTooDeep (index_in (texts_of tokens)) most_nests tokens token
IsSyntaxFault tokens faults.Memory = ⊥

-- The fault is that of the tokens, unless memory ran out.
abbrev pub Explains : ParseFault → List Spelled → Type 0
Explains (faults.Unexpected token) tokens = IsSyntaxFault tokens (faults.Unexpected token)
Explains (faults.TooDeep token) tokens = IsSyntaxFault tokens (faults.TooDeep token)
Explains faults.Memory tokens = Unit {0}
