-- Every text has one verdict.
use Rattle.std.proofs.Common.{◌≡◌, ◌≢◌, ℕ, ◌^◌, ◌<◌, ◌≤◌, Bool, true, false, List, [], ◌∷◌, ◌++◌}
use Rattle.std.proofs.Common.{length, Result, Ok, Err, ◌⊎◌, inl, inr, refl, ap, subst, ◌∙◌, arith}
use Rattle.std.proofs.Common.{Option, Some, None}
use Rattle.std.specs.Str.{IsUtf8, is_utf8 as test_utf8}
use Rattle.std.proofs.lemmas.Str.{IsUtf8-from_is_utf8, is_utf8-from_IsUtf8}
use Rattle.sw_token.specs.declared.Token.{Token}
use Rattle.sw_token.specs.declared.LexFault.{LexFault}
use Rattle.sw_token.specs.Tokens.{IsTokens, HasTokens}
use Rattle.sw_token.specs.Reading.{tokens_or_fault}
use Rattle.sw_token.specs.Spelling.{spelling_of}
use Rattle.sw_token.proofs.TokenLaws.{IsTokens-few, tokens_or_fault-HasTokens}
use Rattle.sw_breach.specs.declared.Breach.{Breach}
use Rattle.sw_graph.specs.declared.graph.Graph.{Graph}
use Rattle.sw_tree.specs.declared.decl.Decl.{Decl}
use Rattle.sw_parse_decl.specs.declared.fault.ParseFault.{ParseFault}
use Rattle.sw_parse_decl.specs.Programs.{IsProgramOf, IsSyntaxFault, texts_of}
use Rattle.sw_parse_decl.proofs.ProgramFaults as programs
use Rattle.sw_decl_words.specs.declared.placed.Placed.{Placed}
use Rattle.sw_decls.specs.Declaring.{IsFirstBreach}
use Rattle.sw_decls.proofs.SomeFirst.{some_first, some_first_breach}
use Rattle.sw_decls.specs.declared.signature.AsyncDefault.{AsyncDefault}
use Rattle.sw_typing_rules.specs.Programs.{IsFirstIll}
use Rattle.sw_typing_rules.specs.Worlds.{World}
use Rattle.sw_typing_rules.proofs.OneWorld.{some_world}
use Rattle.sw_typing_rules.proofs.Saying.{some_first_ill}
use Rattle.sw_isolation_rules.specs.Programs.{refusals}
use Rattle.sw_lower_rules.proofs.FirstTooLarge.{some_too_large}
use Rattle.sw_grammar_forms.proofs.TokensSpelled.{tokens_spelled}
use Rattle.sw_text.specs.declared.TheConstants.{MAX_LENGTH}
use Rattle.sw_verdict.specs.Phases.{Declarations, Encoding, Finds, FindsFirst, FindsIn, FirstRefusal}
use Rattle.sw_verdict.specs.Phases.{FirstTooLarge, HasProgram, HasWorld, Isolation, Lexis, Phase}
use Rattle.sw_verdict.specs.Phases.{IsGraphOf, Races, Sharing, Size, Syntax, Types, all_phases}
use Rattle.sw_verdict.specs.Phases.{answers_of_program, breaks_one, has_fault, has_syntax_fault}
use Rattle.sw_verdict.specs.Phases.{has_tokens, is_utf8, keeps_all, not_utf8, phases_to_sharing}
use Rattle.sw_verdict.specs.Phases.{phases_to_size, spells_program, tables_of_program}
use Rattle.sw_verdict.specs.Verdict.{Accepts, Breaches, Refuses, first, later, none}
use Rattle.sw_verdict.proofs.GraphsExist.{some_graph}
use Rattle.sw_verdict.proofs.InOrder.{decided_before, decided_later, passed}
use Rattle.sw_verdict.proofs.OneLists.{one_list}
use Rattle.sw_verdict.proofs.Races.{some_races, some_sharing}
use Rattle.sw_verdict.specs.Decided.{IsSpelledText}
use Rattle.sw_verdict.specs.declared.judging.Spelled.{Spelled as Read}

-- the phases up to the size of functions after the tokens, after the syntax, and so on
abbrev after_isolation : List Phase
after_isolation = Size ∷ []

abbrev after_types : List Phase
after_types = Isolation ∷ after_isolation

abbrev after_declarations : List Phase
after_declarations = Types ∷ after_types

abbrev after_syntax : List Phase
after_syntax = Declarations ∷ after_declarations

abbrev after_lexis : List Phase
after_lexis = Syntax ∷ after_syntax

-- these phases have a list of breaches
abbrev pub SomeList : AsyncDefault → List Phase → List ℕ → Type 0
SomeList rule phases text = (list : List Breach) × Breaches rule phases text list

-- that of the phases after one that finds none
and_before : (rule : AsyncDefault) (phase : Phase) (phases : List Phase) (text : List ℕ)
    → Finds rule phase text []
    → SomeList rule phases text → SomeList rule (phase ∷ phases) text
and_before rule phase phases text passes (list, found) =
    (list, later phase phases text list passes found)

-- A phase that looks for a first breach decides, or the phases after it do.
decide : (rule : AsyncDefault) (phase : Phase) (phases : List Phase) (text : List ℕ)
    (IsFirst : Option Placed → Type 0)
    → ((list : List Breach) → FindsFirst IsFirst list → Finds rule phase text list)
    → (IsFirst None → SomeList rule phases text) → (found : Option Placed) → IsFirst found
    → SomeList rule (phase ∷ phases) text
decide rule phase phases text IsFirst finds after None is =
    and_before rule phase phases text (finds [] (keeps_all is)) (after is)
decide rule phase phases text IsFirst finds after (Some placed) is =
    (_, first phase phases text _ [] (finds _ (breaks_one placed is)))

-- A text whose program makes a world has a list of breaches by the phases up to the size of
-- functions.
module _ (rule : AsyncDefault) (text : List ℕ) (decls : List Decl) (world : World)
    (has_world : HasWorld rule text decls world) where
  found_by : (IsFirst : World → List Decl → Option Placed → Type 0) (list : List Breach)
      → FindsFirst (IsFirst world decls) list → FindsIn IsFirst rule text list
  found_by IsFirst list finds =
      record { decls = decls; world = world; has_world = has_world; finds = finds }

  by_size : SomeList rule after_isolation text
  by_size =
      let (found, is_first) = some_too_large (tables_of_program world decls) decls in
      decide rule Size [] text (FirstTooLarge world decls) (found_by FirstTooLarge)
      (λ fits. ([], none text)) found is_first

  by_refusal : SomeList rule after_types text
  by_refusal =
      let (found, is_first) =
      some_first (refusals world (answers_of_program world decls) decls) in
      decide rule Isolation after_isolation text (FirstRefusal world decls) (found_by FirstRefusal)
      (λ apart. by_size) found is_first

  by_ill : SomeList rule after_declarations text
  by_ill =
      let (found, is_first) = some_first_ill world decls in
      decide rule Types after_types text (IsFirstIll world decls) (found_by IsFirstIll)
      (λ well. by_refusal) found is_first

declarations_decide : (rule : AsyncDefault) (text : List ℕ) (decls : List Decl)
    → HasProgram text decls → SomeList rule after_syntax text
declarations_decide rule text decls program =
    let (found, is_first) = some_first_breach decls in
    decide rule Declarations after_declarations text (IsFirstBreach decls)
    (λ list finds. record { decls = decls; program = program; finds = finds })
    (λ keeps. let (world, is_world) = some_world decls rule in
    by_ill rule text decls world (record { program = program; is_world = is_world })) found is_first

syntax_decides : (rule : AsyncDefault) (text : List ℕ) (tokens : List Token) → IsTokens text tokens
    → ((decls : List Decl) × IsProgramOf decls (spelling_of text tokens))
    ⊎ ((fault : ParseFault) × IsSyntaxFault (spelling_of text tokens) fault)
    → SomeList rule after_lexis text
syntax_decides rule text tokens are (inl (decls, is)) =
    let program : HasProgram text decls =
    record { tokens = tokens; are_tokens = are; is_program = is } in
    and_before rule Syntax after_syntax text (spells_program decls program)
    (declarations_decide rule text decls program)
syntax_decides rule text tokens are (inr (fault, place)) =
    (_, first Syntax _ text _ [] (has_syntax_fault tokens fault are place))

lexis_decides : (rule : AsyncDefault) (text : List ℕ) → IsUtf8 text
    → (read : Result (List Token) LexFault)
    → HasTokens text read → SomeList rule (Lexis ∷ after_lexis) text
lexis_decides rule text utf8 (Err fault) place =
    (_, first Lexis _ text _ [] (has_fault fault place))
lexis_decides rule text utf8 (Ok tokens) are =
    and_before rule Lexis after_lexis text (has_tokens tokens are)
    (syntax_decides rule text tokens are
    (programs.decided (spelling_of text tokens) (tokens_spelled text tokens utf8 are)))

-- every text has a list of breaches by the phases up to the size of functions
pub some_to_size : (rule : AsyncDefault) (text : List ℕ) → SomeList rule phases_to_size text
some_to_size rule text = by (test_utf8 text) refl where
  by : (test : Bool) → test_utf8 text ≡ test → SomeList rule phases_to_size text
  by false is = (
    _,
    first Encoding _ text _ [] (not_utf8 (λ utf8. cc (is_utf8-from_IsUtf8 text utf8, is))),
  )
  by true is =
      let utf8 = IsUtf8-from_is_utf8 text is in
      and_before rule Encoding (Lexis ∷ after_lexis) text (is_utf8 utf8)
      (lexis_decides rule text utf8 (tokens_or_fault text) (tokens_or_fault-HasTokens text utf8))

-- a phase alone
by_one : (rule : AsyncDefault) (phase : Phase) (text : List ℕ) (list : List Breach)
    → Finds rule phase text list → Breaches rule (phase ∷ []) text list
by_one rule phase text [] finds = later phase [] text [] finds (none text)
by_one rule phase text (breach ∷ others) finds = first phase [] text breach others finds

-- The phases up to the size of functions, and one more.
module _ (rule : AsyncDefault) (last : Phase) (text : List ℕ) where
  -- where those find none, the last decides
  pub last_decides : (list : List Breach) → Breaches rule phases_to_size text []
      → Finds rule last text list → Breaches rule (phases_to_size ++ last ∷ []) text list
  last_decides list found finds =
      decided_later rule phases_to_size (last ∷ []) text list
      (passed rule phases_to_size text found) (by_one rule last text list finds)

  -- where they find some, these are all
  pub refused_before : (list : List Breach) → list ≢ [] → Breaches rule phases_to_size text list
      → Breaches rule (phases_to_size ++ last ∷ []) text list
  refused_before list some found =
      decided_before rule phases_to_size (last ∷ []) text list some found

  -- Where those find none, the text has a graph, and the last finds a list.
  with_last : ((graph : Graph) → IsGraphOf rule text graph
      → (list : List Breach) × Finds rule last text list)
      → (list : List Breach) → Breaches rule phases_to_size text list
      → SomeList rule (phases_to_size ++ last ∷ []) text
  with_last finds_some [] found =
      let (graph, of_text) = some_graph rule text found in
      let (list, finds) = finds_some graph of_text in
      (list, last_decides list found finds)
  with_last finds_some (breach ∷ others) found =
      (breach ∷ others, refused_before (breach ∷ others) (λ e. cc) found)

-- phases with a list find no breach, or some
pub none_or_some : (rule : AsyncDefault) (phases : List Phase) (text : List ℕ)
    → SomeList rule phases text → Breaches rule phases text [] ⊎ Refuses rule phases text
none_or_some rule phases text ([], found) = inl found
none_or_some rule phases text (breach ∷ others, found) = inr (breach ∷ others, (λ e. cc), found)

pub decided : (rule : AsyncDefault) (text : List ℕ) → Accepts rule text
    ⊎ Refuses rule all_phases text
decided rule text =
    let (list, found) = some_to_size rule text in
    none_or_some rule all_phases text
    (with_last rule Races text (some_races rule text) list found)

pub decided_to_sharing : (rule : AsyncDefault) (text : List ℕ)
    → Breaches rule phases_to_sharing text [] ⊎ Refuses rule phases_to_sharing text
decided_to_sharing rule text =
    let (list, found) = some_to_size rule text in
    none_or_some rule phases_to_sharing text
    (with_last rule Sharing text (some_sharing rule text) list found)

pub never_both : (rule : AsyncDefault) (phases : List Phase) (text : List ℕ)
    → Breaches rule phases text []
    → Refuses rule phases text → ⊥
never_both rule phases text accepts (list, some, found) =
    some (one_list rule phases text list [] found accepts)

-- the declarations of a text within the limit are few
pub few_decls : (text : List ℕ) (tokens : List Token) (decls : List Decl) → IsTokens text tokens
    → length decls ≤ length tokens → length text ≤ MAX_LENGTH → length decls < 2 ^ 31
few_decls text tokens decls are few short =
    omega (arith, few, IsTokens-few text tokens are, short)

-- a text with its tokens and the program that was read of them
pub spelled_read : (text : List ℕ) (read : Read) (given : List Token) → read.source ≡ text
    → given ≡ read.tokens.items → IsTokens read.source read.tokens.items
    → IsProgramOf read.program.decls (spelling_of read.source given)
    → read.program.texts ≡ texts_of (spelling_of read.source given)
    → length read.program.decls ≤ length given → length text ≤ MAX_LENGTH → IsSpelledText text read
spelled_read text read given same handed are is texts few short =
    let are_tokens = subst (λ source. IsTokens source read.tokens.items) same are in
    record {
      source = same;
      are_tokens = are_tokens;
      is_program = subst
          (λ source. IsProgramOf read.program.decls (spelling_of source read.tokens.items)) same
          (subst (λ tokens. IsProgramOf read.program.decls (spelling_of read.source tokens)) handed
          is);
      texts = texts ∙ ap (λ tokens. texts_of (spelling_of read.source tokens)) handed
          ∙ ap (λ source. texts_of (spelling_of source read.tokens.items)) same;
      few = few_decls text read.tokens.items read.program.decls are_tokens
          (omega (arith, few, ap length handed)) short;
    }
