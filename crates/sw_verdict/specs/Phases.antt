-- The phases of the verdict. Each says which breaches it finds in a text in which the phases before
-- it find none. What a program declares, and so what the phases from that of types on find, depends
-- on the default: where asynchronous functions without an annotation run (SE-0338, SE-0461). It is an
-- argument, and each phase is defined for both defaults.
use Rattle.std.specs.Prelude.{ℕ, List, [], ◌∷◌, ◌++◌, ◌⊎◌, Contains, length, map, slice_get}
use Rattle.std.specs.Prelude.{Option, Some, None}
use Rattle.std.specs.Option.{option_map_or}
use Rattle.std.specs.Str.{IsUtf8}
use Rattle.std.specs.Str.Lossy.{utf8_valid_len}
use Rattle.sw_token.specs.declared.Token.{Token}
use Rattle.sw_token.specs.declared.LexFault.{LexFault}
use Rattle.sw_token.specs.declared.LexFault.TheVariants.{Unclosed, TooBig, BadChar, TooMany, Memory}
use Rattle.sw_token.specs.Tokens.{IsTokens, IsLexicalFault, position_of}
use Rattle.sw_breach.specs.declared.Breach.{Breach}
use Rattle.sw_graph.specs.declared.graph.Graph.{Graph}
use Rattle.sw_token.specs.Spelling.{spelling_of}
use Rattle.sw_tree.specs.declared.decl.Decl.{Decl}
use Rattle.sw_parse_decl.specs.declared.fault.ParseFault.{ParseFault}
use Rattle.sw_parse_decl.specs.declared.fault.ParseFault.TheVariants as faults
use Rattle.sw_parse_decl.specs.Programs.{IsProgramOf, IsSyntaxFault}
use Rattle.sw_decl_words.specs.declared.placed.Placed.{Placed}
use Rattle.sw_decls.specs.Declaring.{IsFirstBreach}
use Rattle.sw_decls.specs.declared.signature.AsyncDefault.{AsyncDefault}
use Rattle.sw_typing_rules.specs.Programs.{IsFirstIll, said}
use Rattle.sw_typing_rules.specs.Worlds.{IsWorldOf, World}
use Rattle.sw_isolation_rules.specs.Answers.{Answers, answers_in}
use Rattle.sw_isolation_rules.specs.Programs.{IsFirstRefusal, noted}
use Rattle.sw_isolation_rules.specs.Races.{AreRaces}
use Rattle.sw_lower_rules.specs.Bodies.{AreNumbered, IsFirstTooLarge, Lowered, tables_of}
use Rattle.sw_lower_rules.specs.Tables.{Isolation as Noted, Tables, isolation_in}
use Rattle.sw_region_flow.specs.Breaches.{AreAll, IsBreachOf}

pub data Phase : Type 0 where
  -- the text is UTF-8
  Encoding : Phase
  -- the text has tokens
  Lexis : Phase
  -- the tokens spell a program
  Syntax : Phase
  -- the program keeps the rules on declarations
  Declarations : Phase
  -- the program has types: no node of it is ill
  Types : Phase
  -- each body keeps to its isolation, and awaits what leaves it
  Isolation : Phase
  -- the program's functions are no larger than those of a graph
  Size : Phase
  -- no value is shared that may not be
  Sharing : Phase
  -- no value is shared that may not be, and the program's graph has no region breach
  Races : Phase

-- The phases up to the size of functions, in order. Where they find no breach, a text has a program
-- whose functions are those of a graph, whatever races it has.
abbrev pub phases_to_size : List Phase
phases_to_size = Encoding ∷ Lexis ∷ Syntax ∷ Declarations ∷ Types ∷ Isolation ∷ Size ∷ []

-- Those by which the text of a certificate's program is judged. Its regions are tested by the
-- certificate.
abbrev pub phases_to_sharing : List Phase
phases_to_sharing = phases_to_size ++ (Sharing ∷ [])

-- All phases, in order. The last finds what that of sharing finds, too.
abbrev pub all_phases : List Phase
all_phases = phases_to_size ++ (Races ∷ [])

-- the code of a text that isn't UTF-8
abbrev pub not_utf8_code : ℕ
not_utf8_code = 101

-- the code of each fault of the syntax; a call that ran out of memory found none
abbrev pub syntax_code : ParseFault → ℕ
syntax_code (faults.Unexpected _) = 201
syntax_code (faults.TooDeep _) = 202
syntax_code faults.Memory = 0

-- the token at which a fault stands, by its index
abbrev pub token_of : ParseFault → ℕ
token_of (faults.Unexpected token) = token
token_of (faults.TooDeep token) = token
token_of faults.Memory = 0

-- a breach without a note
abbrev pub breach_of : Placed → Breach
breach_of placed = record { code = placed.code; at = placed.at; note = None }

-- one breach without a note
abbrev pub breach_at : ℕ → ℕ → List Breach
breach_at code at = breach_of (record { at = at; code = code }) ∷ []

-- The breach is at the first byte after the longest prefix that is UTF-8.
pub data EncodingFinds (text : List ℕ) : List Breach → Type 0 where
  is_utf8 : IsUtf8 text → EncodingFinds text []
  not_utf8 : ¬ (IsUtf8 text) → EncodingFinds text (breach_at not_utf8_code (utf8_valid_len text))

-- the code of each fault of the tokens; a call that ran out of memory found none
abbrev pub lexical_code : LexFault → ℕ
lexical_code (Unclosed _) = 102
lexical_code (TooBig _) = 103
lexical_code (BadChar _) = 104
lexical_code (TooMany _) = 105
lexical_code Memory = 0

-- The breach is at the lexical fault.
pub data LexisFinds (text : List ℕ) : List Breach → Type 0 where
  has_tokens : (tokens : List Token) → IsTokens text tokens → LexisFinds text []
  has_fault : (fault : LexFault) → IsLexicalFault text fault
      → LexisFinds text (breach_at (lexical_code fault) (position_of fault))

-- where the token after the first n begins; the end of the text where there are no more
abbrev pub token_position : List ℕ → List Token → ℕ → ℕ
token_position text tokens n =
    option_map_or (λ token. token.span.start) (slice_get tokens n) (length text)

-- the text has tokens that spell a program of these declarations
pub record HasProgram (text : List ℕ) (decls : List Decl) : Type 0 where
  pub tokens : List Token
  pub are_tokens : IsTokens text tokens
  pub is_program : IsProgramOf decls (spelling_of text tokens)

-- the text has a program of these declarations, which make this world under the default
pub record HasWorld (rule : AsyncDefault) (text : List ℕ) (decls : List Decl)
    (world : World) : Type 0 where
  pub program : HasProgram text decls
  pub is_world : IsWorldOf decls rule world

-- The breach is at the one fault of the syntax.
pub data SyntaxFinds (text : List ℕ) : List Breach → Type 0 where
  spells_program : (decls : List Decl) → HasProgram text decls → SyntaxFinds text []
  has_syntax_fault : (tokens : List Token) (fault : ParseFault) → IsTokens text tokens
      → IsSyntaxFault (spelling_of text tokens) fault
      → SyntaxFinds text (breach_at (syntax_code fault)
      (token_position text tokens (token_of fault)))

-- Of the breaches of some rules the first is found, and none where there is none.
pub data FindsFirst (IsFirst : Option Placed → Type 0) : List Breach → Type 0 where
  keeps_all : IsFirst None → FindsFirst IsFirst []
  breaks_one : (placed : Placed) → IsFirst (Some placed)
      → FindsFirst IsFirst (breach_at placed.code placed.at)

-- the first breach of the rules on declarations
pub record DeclarationsFinds (text : List ℕ) (list : List Breach) : Type 0 where
  pub decls : List Decl
  pub program : HasProgram text decls
  pub finds : FindsFirst (IsFirstBreach decls) list

-- the first breach of rules that go by what the program declares
pub record FindsIn (IsFirst : World → List Decl → Option Placed → Type 0) (rule : AsyncDefault)
    (text : List ℕ) (list : List Breach) : Type 0 where
  pub decls : List Decl
  pub world : World
  pub has_world : HasWorld rule text decls world
  pub finds : FindsFirst (IsFirst world decls) list

-- the first ill node of the program
abbrev pub TypesFinds : AsyncDefault → List ℕ → List Breach → Type 0
TypesFinds rule text list = FindsIn IsFirstIll rule text list

-- the types and meanings of a program's nodes, by key
abbrev pub answers_of_program : World → List Decl → Answers
answers_of_program world decls = answers_in (said world decls)

-- the first breach of the rules on isolation (SE-0306, SE-0316, SE-0338, SE-0412)
abbrev pub FirstRefusal : World → List Decl → Option Placed → Type 0
FirstRefusal world decls first =
    IsFirstRefusal world (answers_of_program world decls) decls first

abbrev pub IsolationFinds : AsyncDefault → List ℕ → List Breach → Type 0
IsolationFinds rule text list = FindsIn FirstRefusal rule text list

-- what is noted of a program's isolation
abbrev pub isolation_of_program : World → List Decl → Noted
isolation_of_program world decls =
    isolation_in (noted world (answers_of_program world decls) decls)

-- what lowering looks up in a program
abbrev pub tables_of_program : World → List Decl → Tables
tables_of_program world decls =
    tables_of world (answers_of_program world decls) (isolation_of_program world decls) decls

-- the key of the first function that is too large
abbrev pub FirstTooLarge : World → List Decl → Option Placed → Type 0
FirstTooLarge world decls first = IsFirstTooLarge (tables_of_program world decls) decls first

abbrev pub SizeFinds : AsyncDefault → List ℕ → List Breach → Type 0
SizeFinds rule text list = FindsIn FirstTooLarge rule text list

-- The graph is that of the text's program under this default. Each of its bodies is found by its
-- name.
pub record IsGraphOf (rule : AsyncDefault) (text : List ℕ) (graph : Graph) : Type 0 where
  pub decls : List Decl
  pub world : World
  pub has_world : HasWorld rule text decls world
  pub lowered : Lowered world (answers_of_program world decls) (isolation_of_program world decls)
      decls graph
  pub numbered : AreNumbered lowered.ordered

-- the text's program shares these values under this default, and may not
pub record AreSharedIn (rule : AsyncDefault) (text : List ℕ) (shared : List Placed) : Type 0 where
  pub decls : List Decl
  pub world : World
  pub has_world : HasWorld rule text decls world
  pub are : AreRaces world (answers_of_program world decls) decls shared

-- The breaches are all values that may not be shared, by position and then by code, each once
-- (SE-0302).
pub record SharingFinds (rule : AsyncDefault) (text : List ℕ) (list : List Breach) : Type 0 where
  pub shared : List Placed
  pub are_shared : AreSharedIn rule text shared
  pub are_all : AreAll (Contains (map breach_of shared)) list

-- a breach of a value that may not be shared, or of the regions of a graph
abbrev pub IsRaceBreach : List Placed → Graph → Breach → Type 0
IsRaceBreach shared graph breach = Contains (map breach_of shared) breach ⊎ IsBreachOf graph breach

-- The breaches are all values that may not be shared, and all region breaches of the text's graph,
-- by position and then by code, each once, with the least note (SE-0302, SE-0414, SE-0430).
pub record RacesFinds (rule : AsyncDefault) (text : List ℕ) (list : List Breach) : Type 0 where
  pub shared : List Placed
  pub are_shared : AreSharedIn rule text shared
  pub graph : Graph
  pub of_text : IsGraphOf rule text graph
  pub are_all : AreAll (IsRaceBreach shared graph) list

-- `Finds rule phase text list`: under this default, where the phases before it find no breach in
-- the text, this one finds these.
abbrev pub Finds : AsyncDefault → Phase → List ℕ → List Breach → Type 0
Finds rule Encoding text list = EncodingFinds text list
Finds rule Lexis text list = LexisFinds text list
Finds rule Syntax text list = SyntaxFinds text list
Finds rule Declarations text list = DeclarationsFinds text list
Finds rule Types text list = TypesFinds rule text list
Finds rule Isolation text list = IsolationFinds rule text list
Finds rule Size text list = SizeFinds rule text list
Finds rule Sharing text list = SharingFinds rule text list
Finds rule Races text list = RacesFinds rule text list
