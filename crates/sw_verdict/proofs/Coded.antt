-- Each breach has a code with a text.
use Rattle.std.proofs.Common.{◌≡◌, ℕ, ◌≤◌, ◌+◌, ◌-◌, zero, suc, List, Option, Some, ◌⊎◌, inl, inr}
use Rattle.std.proofs.Common.{refl, sym, subst, arith}
use Rattle.std.specs.List.{AllByRecursion}
use Rattle.std.specs.Prelude.{Contains, map}
use Rattle.sw_token.specs.declared.LexFault.{LexFault}
use Rattle.sw_token.specs.declared.LexFault.TheVariants as faults
use Rattle.sw_token.specs.Tokens.{IsLexicalFault}
use Rattle.sw_token.specs.Spelling.{Spelled, spelling_of}
use Rattle.sw_breach.specs.declared.Breach.{Breach}
use Rattle.sw_breach.specs.Codes.{IsCode, text_of, texts}
use Rattle.sw_tree.specs.declared.decl.Decl.{Decl}
use Rattle.sw_parse_decl.specs.declared.fault.ParseFault.{ParseFault}
use Rattle.sw_parse_decl.specs.declared.fault.ParseFault.TheVariants as parse_faults
use Rattle.sw_parse_decl.specs.Programs.{IsSyntaxFault}
use Rattle.sw_decl_words.specs.declared.placed.Placed.{Placed}
use Rattle.sw_decls.specs.Declaring.{IsFirstBreach}
use Rattle.sw_decls.proofs.BreachCodes.{first_is_coded}
use Rattle.sw_decls.specs.declared.signature.AsyncDefault.{AsyncDefault}
use Rattle.sw_typing_rules.specs.Programs.{IsFirstIll}
use Rattle.sw_typing_rules.specs.Worlds.{World}
use Rattle.sw_typing_rules.proofs.IllCodes.{ill_is_coded}
use Rattle.sw_isolation_rules.proofs.SoundPrograms.{race_codes, refusal_codes}
use Rattle.sw_lower_rules.proofs.FirstTooLarge.{too_large_code}
use Rattle.sw_region_flow.proofs.Codes.{breach_code}
use Rattle.sw_region_flow.proofs.OneList.{each_breach}
use Rattle.sw_verdict.specs.Phases.{AreSharedIn, Declarations, Encoding, Finds, FindsFirst}
use Rattle.sw_verdict.specs.Phases.{FirstRefusal, FirstTooLarge, IsRaceBreach, Isolation, Lexis}
use Rattle.sw_verdict.specs.Phases.{Phase, Races, RacesFinds, Sharing, SharingFinds, Size, Syntax}
use Rattle.sw_verdict.specs.Phases.{Types, answers_of_program, breach_of}
use Rattle.sw_verdict.specs.Phases.{breaks_one, has_fault, has_syntax_fault, has_tokens, is_utf8}
use Rattle.sw_verdict.specs.Phases.{keeps_all, lexical_code, not_utf8, not_utf8_code}
use Rattle.sw_verdict.specs.Phases.{spells_program, syntax_code, tables_of_program}
use Rattle.sw_verdict.specs.Verdict.{Breaches, first, later, none}
use Rattle.sw_verdict.proofs.Finding.{memory_is_no_fault}
use Rattle.sw_verdict.proofs.Races.{of_each}

-- the codes that these phases name have texts
syntax_is_code : (tokens : List Spelled) (fault : ParseFault) → IsSyntaxFault tokens fault
    → IsCode (syntax_code fault)
unfolding text_of texts
syntax_is_code tokens (parse_faults.Unexpected _) is = refl
syntax_is_code tokens (parse_faults.TooDeep _) is = refl
syntax_is_code tokens parse_faults.Memory is = absurd is

not_utf8_is_code : IsCode not_utf8_code
unfolding text_of texts
not_utf8_is_code = refl

-- a lexical fault isn't that memory ran out
lexical_is_code : (text : List ℕ) (fault : LexFault) → IsLexicalFault text fault
    → IsCode (lexical_code fault)
unfolding text_of texts
lexical_is_code text (faults.Unclosed _) is = refl
lexical_is_code text (faults.TooBig _) is = refl
lexical_is_code text (faults.BadChar _) is = refl
lexical_is_code text (faults.TooMany _) is = refl
lexical_is_code text faults.Memory is = absurd (memory_is_no_fault text is)

-- the codes of functions that are too large have texts
size_codes : IsCode 510 × IsCode 511
unfolding text_of texts
size_codes = (refl, refl)

first_size_is_code : (world : World) (decls : List Decl) (placed : Placed)
    → FirstTooLarge world decls (Some placed) → IsCode placed.code
first_size_is_code world decls placed some =
    by (too_large_code (tables_of_program world decls) decls placed some) where
      by : (placed.code ≡ 510) ⊎ (placed.code ≡ 511) → IsCode placed.code
      by (inl registers) = subst IsCode (sym registers) size_codes.0
      by (inr points) = subst IsCode (sym points) size_codes.1

-- the codes of the rules on declarations have texts
listed : IsCode 301 × IsCode 302 × IsCode 303 × IsCode 304 × IsCode 305 × IsCode 306 × IsCode 307
unfolding text_of texts
listed = (refl, refl, refl, refl, refl, refl, refl)

-- a property of a number that holds of one and of all after it, up to another
or_later : (P : ℕ → Type 0) (n k : ℕ) → n ≤ k → P n → (n + 1 ≤ k → P k) → P k
or_later P n k least holds after = by (k - n) (omega (arith, least))
  where
    by : (m : ℕ) → k ≡ n + m → P k
    by zero is = let same : n ≡ k = omega (arith, is) in subst P same holds
    by (suc m) is = after (omega (arith, is))

declaration_is_code : (decls : List Decl) (placed : Placed) → IsFirstBreach decls (Some placed)
    → IsCode placed.code
declaration_is_code decls placed some =
    let within = first_is_coded decls placed some in
    let code = placed.code in
    or_later IsCode 301 code within.0 listed.0
    (λ a. or_later IsCode 302 code a listed.1
    (λ b. or_later IsCode 303 code b listed.2
    (λ c. or_later IsCode 304 code c listed.3
    (λ d. or_later IsCode 305 code d listed.4
    (λ e. or_later IsCode 306 code e listed.5
    (λ f. or_later IsCode 307 code f listed.6
    (λ g. absurd (omega (arith, g, within.1)))))))))

-- the codes of the rules of types have texts
type_codes : IsCode 401 × IsCode 402 × IsCode 403 × IsCode 404 × IsCode 405 × IsCode 406
    × IsCode 407 × IsCode 408
unfolding text_of texts
type_codes = (refl, refl, refl, refl, refl, refl, refl, refl)

ill_is_code : (world : World) (decls : List Decl) (placed : Placed)
    → IsFirstIll world decls (Some placed) → IsCode placed.code
ill_is_code world decls placed some =
    let within = ill_is_coded world decls placed.at placed.code some.0 in
    let code = placed.code in
    or_later IsCode 401 code within.0 type_codes.0
    (λ a. or_later IsCode 402 code a type_codes.1
    (λ b. or_later IsCode 403 code b type_codes.2
    (λ c. or_later IsCode 404 code c type_codes.3
    (λ d. or_later IsCode 405 code d type_codes.4
    (λ e. or_later IsCode 406 code e type_codes.5
    (λ f. or_later IsCode 407 code f type_codes.6
    (λ g. or_later IsCode 408 code g type_codes.7
    (λ h. absurd (omega (arith, h, within.1))))))))))

-- the codes of the rules on isolation have texts
isolation_codes : IsCode 501 × IsCode 502 × IsCode 503 × IsCode 504 × IsCode 505
unfolding text_of texts
isolation_codes = (refl, refl, refl, refl, refl)

refusal_is_code : (world : World) (decls : List Decl) (placed : Placed)
    → FirstRefusal world decls (Some placed) → IsCode placed.code
refusal_is_code world decls placed some =
    let within = refusal_codes world (answers_of_program world decls) decls placed some.0 in
    let code = placed.code in
    or_later IsCode 501 code within.0 isolation_codes.0
    (λ a. or_later IsCode 502 code a isolation_codes.1
    (λ b. or_later IsCode 503 code b isolation_codes.2
    (λ c. or_later IsCode 504 code c isolation_codes.3
    (λ d. or_later IsCode 505 code d isolation_codes.4
    (λ e. absurd (omega (arith, e, within.1)))))))

-- the codes of what may not be shared have texts
sharing_codes : IsCode 601 × IsCode 602 × IsCode 603 × IsCode 604 × IsCode 605 × IsCode 606
unfolding text_of texts
sharing_codes = (refl, refl, refl, refl, refl, refl)

shared_is_code : (rule : AsyncDefault) (text : List ℕ) (shared : List Placed) (placed : Placed)
    → AreSharedIn rule text shared → Contains shared placed → IsCode placed.code
shared_is_code rule text shared placed is has =
    let within = race_codes is.world (answers_of_program is.world is.decls) is.decls placed
    (is.are.from placed has) in
    let code = placed.code in
    or_later IsCode 601 code within.0 sharing_codes.0
    (λ a. or_later IsCode 602 code a sharing_codes.1
    (λ b. or_later IsCode 603 code b sharing_codes.2
    (λ c. or_later IsCode 604 code c sharing_codes.3
    (λ d. or_later IsCode 605 code d sharing_codes.4
    (λ e. or_later IsCode 606 code e sharing_codes.5
    (λ f. absurd (omega (arith, f, within.1))))))))

shared_coded : (rule : AsyncDefault) (text : List ℕ) (shared : List Placed)
    → AreSharedIn rule text shared → (breach : Breach) → Contains (map breach_of shared) breach
    → IsCode breach.code
shared_coded rule text shared are =
    of_each shared IsCode (λ placed has. shared_is_code rule text shared placed are has)

sharing_coded : (rule : AsyncDefault) (text : List ℕ) (list : List Breach)
    → SharingFinds rule text list → AllByRecursion (λ breach. IsCode breach.code) list
sharing_coded rule text list is =
    each_breach (λ breach. IsCode breach.code) list (λ breach has.
    shared_coded rule text is.shared is.are_shared breach (is.are_all.sound breach has))

races_coded : (rule : AsyncDefault) (text : List ℕ) (list : List Breach) → RacesFinds rule text list
    → AllByRecursion (λ breach. IsCode breach.code) list
races_coded rule text list is =
    each_breach (λ breach. IsCode breach.code) list
    (λ breach has. by breach (is.are_all.sound breach has))
  where
    by : (breach : Breach) → IsRaceBreach is.shared is.graph breach → IsCode breach.code
    by breach (inl is_shared) = shared_coded rule text is.shared is.are_shared breach is_shared
    by breach (inr of_graph) = breach_code is.graph breach of_graph

first_coded : {IsFirst : Option Placed → Type 0} {list : List Breach}
    → ((placed : Placed) → IsFirst (Some placed) → IsCode placed.code) → FindsFirst IsFirst list
    → AllByRecursion (λ breach. IsCode breach.code) list
first_coded coded (keeps_all _) = tt
first_coded coded (breaks_one placed some) = (coded placed some, tt)

codes_found : (rule : AsyncDefault) (phase : Phase) (text : List ℕ) (list : List Breach)
    → Finds rule phase text list
    → AllByRecursion (λ breach. IsCode breach.code) list
codes_found rule Encoding text _ (is_utf8 _) = tt
codes_found rule Encoding text _ (not_utf8 _) = (not_utf8_is_code, tt)
codes_found rule Lexis text _ (has_tokens _ _) = tt
codes_found rule Lexis text _ (has_fault fault is) = (lexical_is_code text fault is, tt)
codes_found rule Syntax text _ (spells_program _ _) = tt
codes_found rule Syntax text _ (has_syntax_fault tokens fault _ is) =
    (syntax_is_code (spelling_of text tokens) fault is, tt)
codes_found rule Declarations text list is = first_coded (declaration_is_code is.decls) is.finds
codes_found rule Types text list is = first_coded (ill_is_code is.world is.decls) is.finds
codes_found rule Isolation text list is = first_coded (refusal_is_code is.world is.decls) is.finds
codes_found rule Size text list is = first_coded (first_size_is_code is.world is.decls) is.finds
codes_found rule Sharing text list finds = sharing_coded rule text list finds
codes_found rule Races text list finds = races_coded rule text list finds

pub have_codes : (rule : AsyncDefault) (phases : List Phase) (text : List ℕ) (list : List Breach)
    → Breaches rule phases text list → AllByRecursion (λ breach. IsCode breach.code) list
have_codes rule _ _ _ (none _) = tt
have_codes rule _ text list (first phase _ _ _ _ found) = codes_found rule phase text list found
have_codes rule _ text list (later _ phases _ _ _ found) = have_codes rule phases text list found
