-- A text has one list of breaches, and each phase but the last finds one breach at most.
use Rattle.std.proofs.Common.{◌≡◌, ◌≢◌, ℕ, ◌≤◌, List, [], length, Option, Some, None}
use Rattle.std.proofs.Common.{refl, ap, subst, ◌∙◌, arith}
use Rattle.sw_list.proofs.ListLemmas.{some_injective}
use Rattle.sw_token.specs.declared.Token.{Token}
use Rattle.sw_token.specs.Tokens.{IsTokens, position_of}
use Rattle.sw_token.specs.Spelling.{spelling_of}
use Rattle.sw_token.proofs.TokenLaws.{one_list as one_tokens, one_fault}
use Rattle.sw_token.proofs.TokenLaws.{never_both as tokens_and_fault}
use Rattle.sw_breach.specs.declared.Breach.{Breach}
use Rattle.sw_tree.specs.declared.decl.Decl.{Decl}
use Rattle.sw_parse_decl.specs.declared.fault.ParseFault.{ParseFault}
use Rattle.sw_parse_decl.specs.Programs.{IsProgramOf, IsSyntaxFault}
use Rattle.sw_parse_decl.proofs.ProgramFaults as programs
use Rattle.sw_decl_words.specs.declared.placed.Placed.{Placed}
use Rattle.sw_decls.specs.Declaring.{IsFirstBreach}
use Rattle.sw_decls.proofs.OneFirst.{one_first, one_first_breach}
use Rattle.sw_decls.specs.declared.signature.AsyncDefault.{AsyncDefault}
use Rattle.sw_typing_rules.specs.Programs.{IsFirstIll}
use Rattle.sw_typing_rules.specs.Worlds.{World}
use Rattle.sw_typing_rules.proofs.Saying.{one_first_ill}
use Rattle.sw_isolation_rules.specs.Programs.{refusals}
use Rattle.sw_lower_rules.proofs.FirstTooLarge.{one_too_large}
use Rattle.sw_verdict.specs.Phases.{Declarations, DeclarationsFinds, Encoding, EncodingFinds, Finds}
use Rattle.sw_verdict.specs.Phases.{FindsFirst, FindsIn, FirstRefusal, FirstTooLarge, HasProgram}
use Rattle.sw_verdict.specs.Phases.{Isolation, Lexis, LexisFinds, Phase, Races, Sharing, Size, Syntax}
use Rattle.sw_verdict.specs.Phases.{SyntaxFinds, Types, answers_of_program, breach_at, breaks_one}
use Rattle.sw_verdict.specs.Phases.{has_fault, has_syntax_fault, has_tokens, is_utf8, keeps_all}
use Rattle.sw_verdict.specs.Phases.{lexical_code, not_utf8, spells_program, syntax_code}
use Rattle.sw_verdict.specs.Phases.{tables_of_program, token_of, token_position}
use Rattle.sw_verdict.specs.Verdict.{Breaches, first, later, none}
use Rattle.sw_verdict.proofs.Races.{races_one, sharing_one}
use Rattle.sw_verdict.proofs.SameProgram.{of_same, same_decls, same_world}

-- each phase finds one list
encoding_one : (text : List ℕ) (a b : List Breach) → EncodingFinds text a → EncodingFinds text b
    → a ≡ b
encoding_one text _ _ (is_utf8 _) (is_utf8 _) = refl
encoding_one text _ _ (is_utf8 utf8) (not_utf8 not) = absurd (not utf8)
encoding_one text _ _ (not_utf8 not) (is_utf8 utf8) = absurd (not utf8)
encoding_one text _ _ (not_utf8 _) (not_utf8 _) = refl

lexis_one : (text : List ℕ) (a b : List Breach) → LexisFinds text a → LexisFinds text b → a ≡ b
lexis_one text _ _ (has_tokens _ _) (has_tokens _ _) = refl
lexis_one text _ _ (has_tokens tokens are) (has_fault fault place) =
    absurd (tokens_and_fault text tokens fault are place)
lexis_one text _ _ (has_fault fault place) (has_tokens tokens are) =
    absurd (tokens_and_fault text tokens fault are place)
lexis_one text _ _ (has_fault a is_a) (has_fault b is_b) =
    ap (λ fault. breach_at (lexical_code fault) (position_of fault)) (one_fault text a b is_a is_b)

program_or_fault : (text : List ℕ) (b : List Token) (decls : List Decl) (fault : ParseFault)
    → HasProgram text decls → IsTokens text b → IsSyntaxFault (spelling_of text b) fault → ⊥
program_or_fault text b decls fault is are_b place =
    programs.never_both (spelling_of text b) decls fault
    (subst (λ tokens. IsProgramOf decls (spelling_of text tokens))
    (one_tokens text is.tokens b is.are_tokens are_b) is.is_program) place

syntax_one : (text : List ℕ) (a b : List Breach) → SyntaxFinds text a → SyntaxFinds text b → a ≡ b
syntax_one text _ _ (spells_program _ _) (spells_program _ _) = refl
syntax_one text _ _ (spells_program decls is) (has_syntax_fault b fault are_b place) =
    absurd (program_or_fault text b decls fault is are_b place)
syntax_one text _ _ (has_syntax_fault b fault are_b place) (spells_program decls is) =
    absurd (program_or_fault text b decls fault is are_b place)
syntax_one text _ _ (has_syntax_fault a f are_a place_a) (has_syntax_fault b g are_b place_b) =
    let tokens : a ≡ b = one_tokens text a b are_a are_b in
    let same : f ≡ g = programs.one_fault (spelling_of text b) f g
    (subst (λ tokens. IsSyntaxFault (spelling_of text tokens) f) tokens place_a) place_b in
    ap (λ tokens. breach_at (syntax_code f) (token_position text tokens (token_of f))) tokens
    ∙ ap (λ fault. breach_at (syntax_code fault) (token_position text b (token_of fault))) same

-- rules with one first breach find one list
first_one : (IsFirst : Option Placed → Type 0)
    → ((one other : Option Placed) → IsFirst one → IsFirst other → one ≡ other)
    → (a b : List Breach) → FindsFirst IsFirst a → FindsFirst IsFirst b → a ≡ b
first_one IsFirst one _ _ (keeps_all _) (keeps_all _) = refl
first_one IsFirst one _ _ (keeps_all keeps) (breaks_one placed some) =
    cc (one None (Some placed) keeps some)
first_one IsFirst one _ _ (breaks_one placed some) (keeps_all keeps) =
    cc (one (Some placed) None some keeps)
first_one IsFirst one _ _ (breaks_one a is_a) (breaks_one b is_b) =
    ap (λ (placed : Placed). breach_at placed.code placed.at)
    (some_injective (one (Some a) (Some b) is_a is_b))

declarations_one : (text : List ℕ) (a b : List Breach) → DeclarationsFinds text a
    → DeclarationsFinds text b → a ≡ b
declarations_one text a b is_a is_b =
    first_one (IsFirstBreach is_b.decls) (one_first_breach is_b.decls) a b
    (subst (λ decls. FindsFirst (IsFirstBreach decls) a)
    (same_decls text is_a.program is_b.program) is_a.finds) is_b.finds

one_in_world : (IsFirst : World → List Decl → Option Placed → Type 0)
    → ((world : World) (decls : List Decl) (one other : Option Placed) → IsFirst world decls one
    → IsFirst world decls other → one ≡ other)
    → (rule : AsyncDefault) (text : List ℕ) (a b : List Breach) → FindsIn IsFirst rule text a
    → FindsIn IsFirst rule text b → a ≡ b
one_in_world IsFirst one rule text a b is_a is_b =
    first_one (IsFirst is_b.world is_b.decls) (one is_b.world is_b.decls) a b
    (of_same (λ world decls. FindsFirst (IsFirst world decls) a)
    (same_world rule text is_a.has_world is_b.has_world) is_a.finds) is_b.finds

one_found : (rule : AsyncDefault) (phase : Phase) (text : List ℕ) (a b : List Breach)
    → Finds rule phase text a
    → Finds rule phase text b → a ≡ b
one_found rule Encoding text a b is_a is_b = encoding_one text a b is_a is_b
one_found rule Lexis text a b is_a is_b = lexis_one text a b is_a is_b
one_found rule Syntax text a b is_a is_b = syntax_one text a b is_a is_b
one_found rule Declarations text a b is_a is_b = declarations_one text a b is_a is_b
one_found rule Types text a b is_a is_b =
    one_in_world IsFirstIll one_first_ill rule text a b is_a is_b
one_found rule Isolation text a b is_a is_b =
    one_in_world FirstRefusal
    (λ world decls. one_first (refusals world (answers_of_program world decls) decls)) rule text a b
    is_a is_b
one_found rule Size text a b is_a is_b =
    one_in_world FirstTooLarge
    (λ world decls. one_too_large (tables_of_program world decls) decls) rule text a b is_a is_b
one_found rule Sharing text a b is_a is_b = sharing_one rule text a b is_a is_b
one_found rule Races text a b is_a is_b = races_one rule text a b is_a is_b

-- and so do phases in order
pub one_list : (rule : AsyncDefault) (phases : List Phase) (text : List ℕ) (a b : List Breach)
    → Breaches rule phases text a
    → Breaches rule phases text b → a ≡ b
one_list rule _ _ _ _ (none _) (none _) = refl
one_list rule _ text a b (first phase _ _ _ _ is_a) (first _ _ _ _ _ is_b) =
    one_found rule phase text a b is_a is_b
one_list rule _ text a b (first phase _ _ _ _ is_a) (later _ _ _ _ passes _) =
    cc (one_found rule phase text a [] is_a passes)
one_list rule _ text a b (later phase _ _ _ passes _) (first _ _ _ _ _ is_b) =
    cc (one_found rule phase text b [] is_b passes)
one_list rule _ text a b (later _ phases _ _ _ is_a) (later _ _ _ _ _ is_b) =
    one_list rule phases text a b is_a is_b

few_first : {IsFirst : Option Placed → Type 0} {list : List Breach} → FindsFirst IsFirst list
    → length list ≤ 1
few_first (keeps_all _) = omega arith
few_first (breaks_one _ _) = omega arith

-- Each phase but those of sharing and of races finds one breach at most.
pub few_found : (rule : AsyncDefault) (phase : Phase) (text : List ℕ) (list : List Breach)
    → phase ≢ Sharing → phase ≢ Races
    → Finds rule phase text list → length list ≤ 1
few_found rule Encoding text _ not other (is_utf8 _) = omega arith
few_found rule Encoding text _ not other (not_utf8 _) = omega arith
few_found rule Lexis text _ not other (has_tokens _ _) = omega arith
few_found rule Lexis text _ not other (has_fault _ _) = omega arith
few_found rule Syntax text _ not other (spells_program _ _) = omega arith
few_found rule Syntax text _ not other (has_syntax_fault _ _ _ _) = omega arith
few_found rule Declarations text list not other finds = few_first finds.finds
few_found rule Types text list not other finds = few_first finds.finds
few_found rule Isolation text list not other finds = few_first finds.finds
few_found rule Size text list not other finds = few_first finds.finds
few_found rule Sharing text list not other finds = absurd (not refl)
few_found rule Races text list not other finds = absurd (other refl)
