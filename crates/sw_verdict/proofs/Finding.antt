-- What the functions of the phases find.
use Rattle.std.proofs.Common.{◌≡◌, ◌≢◌, ℕ, List, [], Option, Some, None, length, refl, sym, subst}
use Rattle.sw_token.specs.declared.Token.{Token}
use Rattle.sw_token.specs.declared.LexFault.{LexFault}
use Rattle.sw_token.specs.declared.LexFault.TheVariants as faults
use Rattle.sw_scan.proofs.Positions.{IsRefusedIn, Fails-refused}
use Rattle.sw_token.specs.declared.before.Before.{Before}
use Rattle.sw_token.specs.Tokens.{IsTokens, IsLexicalFault, IsTokenFault, position_of, at_start}
use Rattle.sw_token.specs.Tokens.{lexis}
use Rattle.sw_token.specs.Tokens as tokens
use Rattle.sw_token.specs.Spelling.{spelling_of}
use Rattle.sw_parse_decl.specs.declared.fault.ParseFault.{ParseFault}
use Rattle.sw_parse_decl.specs.declared.fault.ParseFault.TheVariants as parse_faults
use Rattle.sw_parse_decl.specs.Programs.{Explains}
use Rattle.sw_tree.specs.declared.decl.Decl.{Decl}
use Rattle.sw_decls.specs.Declaring.{IsDeclarationFault}
use Rattle.sw_decls.specs.declared.declaring.DeclFault.TheVariants as decl_faults
use Rattle.sw_decls.specs.declared.signature.AsyncDefault.{AsyncDefault}
use Rattle.sw_decl_words.specs.declared.placed.Placed.{Placed}
use Rattle.sw_decls.specs.Declaring.{IsDeclared}
use Rattle.sw_decls.specs.declared.declaring.Decls.{Decls}
use Rattle.sw_typing_rules.specs.Worlds.{World, world_of}
use Rattle.sw_typing_rules.proofs.OneWorld.{declared_world}
use Rattle.sw_breach.specs.declared.Breach.{Breach}
use Rattle.sw_verdict.specs.declared.phases.Refusal.{Refusal}
use Rattle.sw_verdict.specs.declared.phases.Refusal.TheVariants.{Breached, Memory}
use Rattle.sw_verdict.specs.Phases.{DeclarationsFinds, FindsFirst, FindsIn, HasProgram, HasWorld}
use Rattle.sw_verdict.specs.Phases.{LexisFinds, SyntaxFinds, breach_at, breaks_one, has_fault}
use Rattle.sw_verdict.specs.Phases.{has_syntax_fault, keeps_all, lexical_code, syntax_code}
use Rattle.sw_verdict.specs.Phases.{token_of, token_position}
use Rattle.sw_verdict.specs.Decided.{IsAnalysed, IsSpelledText}
use Rattle.sw_verdict.specs.declared.judging.Analysed.{Analysed}
use Rattle.sw_verdict.specs.declared.judging.Spelled.{Spelled as Read}
use Rattle.sw_verdict.specs.Found.{FoundBy, refusal_at}

-- one breach, unless memory ran out
pub found_breach : (Finding : List Breach → Type 0) (code at : ℕ) (refusal : Refusal)
    → refusal ≡ refusal_at code at → Finding (breach_at code at) → FoundBy Finding refusal
found_breach Finding code at refusal is finding = subst (FoundBy Finding) (sym is) finding

other_fault : (at : ℕ) (before : Before) (bytes : List ℕ) (fault : LexFault)
    → IsTokenFault at before bytes fault → fault ≢ faults.Memory
other_fault at before _ _ (tokens.unclosed bytes is) e = cc
other_fault at before _ _ (tokens.too_big bytes is) e = cc
other_fault at before _ _ (tokens.bad_first bytes is) e = cc
other_fault at before _ _ (tokens.bad_later bytes n is later few) e = cc
other_fault at before _ _ (tokens.too_many_begun bytes n is later full) e = cc
other_fault at before _ _ (tokens.too_many text after is full) e = cc

-- that memory ran out is no fault of a text
pub memory_is_no_fault : (text : List ℕ) → IsLexicalFault text faults.Memory → ⊥
memory_is_no_fault text is =
    let fault : IsRefusedIn lexis text faults.Memory =
    Fails-refused lexis [] 0 at_start text faults.Memory is refl in
    other_fault (length fault.prefix) fault.before fault.rest faults.Memory fault.is_refused refl

pub found_fault : (text : List ℕ) (fault : LexFault) (refusal : Refusal)
    → (fault ≢ faults.Memory → IsLexicalFault text fault)
    → (refusal ≢ Memory → (fault ≢ faults.Memory)
    × (refusal ≡ refusal_at (lexical_code fault) (position_of fault)))
    → FoundBy (LexisFinds text) refusal
found_fault text fault Memory place is = tt
found_fault text fault (Breached breach) place is =
    let why = is (λ e. cc) in
    found_breach (LexisFinds text) (lexical_code fault) (position_of fault) (Breached breach)
    why.1 (has_fault fault (place why.0))

-- what a fault of the syntax is found as
pub found_syntax_fault : (text : List ℕ) (tokens : List Token) (fault : ParseFault)
    (refusal : Refusal) → IsTokens text tokens → Explains fault (spelling_of text tokens)
    → (refusal ≢ Memory → (fault ≢ parse_faults.Memory) × (refusal
    ≡ refusal_at (syntax_code fault) (token_position text tokens (token_of fault))))
    → FoundBy (SyntaxFinds text) refusal
found_syntax_fault text tokens fault Memory are place is = tt
found_syntax_fault text tokens (parse_faults.Unexpected token) (Breached breach) are place is =
    found_breach (SyntaxFinds text) _ _ (Breached breach) (is (λ e. cc)).1
    (has_syntax_fault tokens (parse_faults.Unexpected token) are place)
found_syntax_fault text tokens (parse_faults.TooDeep token) (Breached breach) are place is =
    found_breach (SyntaxFinds text) _ _ (Breached breach) (is (λ e. cc)).1
    (has_syntax_fault tokens (parse_faults.TooDeep token) are place)
found_syntax_fault text tokens parse_faults.Memory (Breached breach) are place is =
    absurd ((is (λ e. cc)).0 refl)

-- what a first breach is found as
pub found_first : (text : List ℕ) (decls : List Decl) (code at : ℕ) (refusal : Refusal)
    → HasProgram text decls → IsDeclarationFault decls (decl_faults.Breach code at)
    → refusal ≡ refusal_at code at → FoundBy (DeclarationsFinds text) refusal
found_first text decls code at refusal program first is =
    found_breach (DeclarationsFinds text) code at refusal is (record {
      decls = decls;
      program = program;
      finds = breaks_one (record { at = at; code = code }) first;
    })

-- the same by what the program declares
pub found_in : (IsFirst : World → List Decl → Option Placed → Type 0) (rule : AsyncDefault)
    (text : List ℕ) (decls : List Decl) (world : World) (code at : ℕ) (refusal : Refusal)
    → HasWorld rule text decls world → IsFirst world decls (Some (record { at = at; code = code }))
    → refusal ≡ refusal_at code at → FoundBy (FindsIn IsFirst rule text) refusal
found_in IsFirst rule text decls world code at refusal has_world first is =
    found_breach (FindsIn IsFirst rule text) code at refusal is (record {
      decls = decls;
      world = world;
      has_world = has_world;
      finds = breaks_one (record { at = at; code = code }) first;
    })

-- none is found where none is first
pub none_in_world : (IsFirst : World → List Decl → Option Placed → Type 0) (rule : AsyncDefault)
    (text : List ℕ) (decls : List Decl) (world : World) → HasWorld rule text decls world
    → IsFirst world decls None → FindsIn IsFirst rule text []
none_in_world IsFirst rule text decls world has_world none = record {
  decls = decls;
  world = world;
  has_world = has_world;
  finds = keeps_all none;
}

-- and the other way round
pub none_first : {IsFirst : Option Placed → Type 0} → FindsFirst IsFirst [] → IsFirst None
none_first (keeps_all none) = none

-- the world of a program that declares these
pub world_of_text : (rule : AsyncDefault) (text : List ℕ) (decls : List Decl) (made : Decls)
    → IsDeclared decls rule made → HasProgram text decls
    → HasWorld rule text decls (world_of made)
world_of_text rule text decls made declared program =
    record { program = program; is_world = declared_world decls rule made declared }

-- the world of a text's program, which was read and analysed
pub read_world : (rule : AsyncDefault) (text : List ℕ) (read : Read) (found : Analysed)
    → IsSpelledText text read → IsAnalysed rule read.program.decls found
    → HasWorld rule text read.program.decls (world_of found.declared)
read_world rule text read found is known =
    world_of_text rule text read.program.decls found.declared known.declared (record {
      tokens = read.tokens.items;
      are_tokens = is.are_tokens;
      is_program = is.is_program;
    })
