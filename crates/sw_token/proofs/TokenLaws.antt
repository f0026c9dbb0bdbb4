-- The laws of the tokens of whole texts, and what a call's answer says.
use Rattle.std.proofs.Common.{◌≡◌, ◌≢◌, ℕ, ◌+◌, ◌-◌, ◌≤◌, List, [], ◌∷◌, length, Result, Ok, Err}
use Rattle.std.proofs.Common.{refl, ap, arith, length-append}
use Rattle.std.specs.Prelude.{slice_range, All, IfOk, IfErr}
use Rattle.std.specs.List.{AllByRecursion}
use Rattle.std.specs.Str.{IsUtf8, IsCharBoundary}
use Rattle.std.specs.Global.{Vec}
use Rattle.std.proofs.lemmas.List.{take_all}
use Rattle.std.proofs.lemmas.List.Elements.{All-from_recursion}
use Rattle.sw_scan.specs.Scan.{Splits}
use Rattle.sw_scan.specs.Scan as scans
use Rattle.sw_scan.proofs.ScanLaws as laws
use Rattle.sw_scan.proofs.Positions.{StandsIn, IsRefusedIn, Splits-stand, Fails-refused}
use Rattle.sw_token.specs.declared.TheConstants.{MOST_TOKENS}
use Rattle.sw_token.specs.declared.Token.{Token}
use Rattle.sw_token.specs.declared.before.Before.{Before}
use Rattle.sw_token.specs.declared.LexFault.{LexFault}
use Rattle.sw_token.specs.declared.LexFault.TheVariants.{Memory}
use Rattle.sw_token.specs.Tokens.{IsTokens, IsLexicalFault, HasTokens, IsTokenFault}
use Rattle.sw_token.specs.Tokens.{IsTokenIn, StandInOrder, position_of, at_start, lexis}
use Rattle.sw_token.specs.Tokens as tokens
use Rattle.sw_token.specs.Reading.{tokens_or_fault, Lexes}
use Rattle.sw_token.proofs.FoundHolds.{bad_inside}
use Rattle.sw_token.proofs.Steps.{agrees, some_token}
use Rattle.sw_token.proofs.Spans.{IsTokenIn-stands, borders}

pub tokens_or_fault-IsTokens : (text : List ℕ) (ts : List Token) → IsTokens text ts
    → tokens_or_fault text ≡ Ok ts
unfolding tokens_or_fault
tokens_or_fault-IsTokens text ts h = laws.scan-Splits agrees 0 at_start text ts h

pub tokens_or_fault-IsLexicalFault : (text : List ℕ) (fault : LexFault) → IsLexicalFault text fault
    → tokens_or_fault text ≡ Err fault
unfolding tokens_or_fault
tokens_or_fault-IsLexicalFault text fault h = laws.scan-Fails agrees 0 at_start text fault h

-- every text has its tokens or a lexical fault: what `tokens_or_fault` gives
pub tokens_or_fault-HasTokens : (text : List ℕ) → IsUtf8 text
    → HasTokens text (tokens_or_fault text)
unfolding tokens_or_fault
tokens_or_fault-HasTokens text utf8 = laws.scan_holds agrees 0 at_start text utf8

pub one_list : (text : List ℕ) (a b : List Token) → IsTokens text a → IsTokens text b → a ≡ b
one_list text a b h k = laws.one_list agrees 0 at_start text a b h k

pub one_fault : (text : List ℕ) (a b : LexFault) → IsLexicalFault text a → IsLexicalFault text b
    → a ≡ b
one_fault text a b h k = laws.one_fault agrees 0 at_start text a b h k

pub never_both : (text : List ℕ) (ts : List Token) (fault : LexFault) → IsTokens text ts
    → IsLexicalFault text fault → ⊥
never_both text ts fault h k = laws.never_both agrees 0 at_start text ts fault h k

-- each token stands in the text
pub IsTokens-stand : (text : List ℕ) (ts : List Token) → IsUtf8 text → IsTokens text ts
    → AllByRecursion (StandsIn lexis IsUtf8 text) ts
IsTokens-stand text ts utf8 h = Splits-stand agrees [] 0 at_start text ts h refl utf8

each_in : (text : List ℕ) (ts : List Token) → AllByRecursion (StandsIn lexis IsUtf8 text) ts
    → AllByRecursion (IsTokenIn text) ts
each_in text [] h = tt
each_in text (token ∷ ts) h = (IsTokenIn-stands text token h.0, each_in text ts h.1)

pub IsTokens-each_by_recursion : (text : List ℕ) (ts : List Token) → IsUtf8 text → IsTokens text ts
    → AllByRecursion (IsTokenIn text) ts
IsTokens-each_by_recursion text ts utf8 h = each_in text ts (IsTokens-stand text ts utf8 h)

pub IsTokens-each : (text : List ℕ) (ts : List Token) → IsUtf8 text → IsTokens text ts
    → All (IsTokenIn text) ts
IsTokens-each text ts utf8 h =
    All-from_recursion (IsTokenIn text) ts (IsTokens-each_by_recursion text ts utf8 h)

abbrev HasBorders : List ℕ → Token → Type 0
HasBorders text token = IsCharBoundary text token.span.start × IsCharBoundary text token.span.end

each_border : (text : List ℕ) (ts : List Token) → AllByRecursion (StandsIn lexis IsUtf8 text) ts
    → AllByRecursion (HasBorders text) ts
each_border text [] h = tt
each_border text (token ∷ ts) h = (borders text token h.0, each_border text ts h.1)

pub IsTokens-borders : (text : List ℕ) (ts : List Token) → IsUtf8 text → IsTokens text ts
    → All (λ token. IsCharBoundary text token.span.start × IsCharBoundary text token.span.end) ts
IsTokens-borders text ts utf8 h =
    All-from_recursion (HasBorders text) ts (each_border text ts (IsTokens-stand text ts utf8 h))

StandInOrder-earlier : (to from : ℕ) (ts : List Token) → to ≤ from → StandInOrder from ts
    → StandInOrder to ts
StandInOrder-earlier to from [] early h = tt
StandInOrder-earlier to from (token ∷ ts) early h = (omega (arith, h.0), h.1)

Splits-order : (at : ℕ) (before : Before) (bytes : List ℕ) (ts : List Token)
    → Splits lexis at before bytes ts → StandInOrder at ts
Splits-order _ _ _ _ (scans.nothing at before) = tt
Splits-order _ _ _ _ (scans.piece at before p after ts is rest) =
    StandInOrder-earlier at _ ts (omega arith) (Splits-order _ _ _ _ rest)
Splits-order _ _ _ _ (scans.item at before t after ts is rest) =
    (omega arith, Splits-order _ _ _ _ rest)

pub IsTokens-order : (text : List ℕ) (ts : List Token) → IsTokens text ts → StandInOrder 0 ts
IsTokens-order text ts h = Splits-order 0 at_start text ts h

Splits-few : (at : ℕ) (before : Before) (bytes : List ℕ) (ts : List Token)
    → Splits lexis at before bytes ts → length ts ≤ length bytes
Splits-few _ _ _ _ (scans.nothing at before) = omega arith
Splits-few _ _ _ _ (scans.piece at before p after ts is rest) =
    omega (arith, Splits-few _ _ _ _ rest, length-append p after)
Splits-few _ _ _ _ (scans.item at before t after ts is rest) =
    omega (
      arith,
      Splits-few _ _ _ _ rest,
      length-append t after,
      some_token before.is_white t after is.is_token,
    )

pub IsTokens-few : (text : List ℕ) (ts : List Token) → IsTokens text ts → length ts ≤ length text
IsTokens-few text ts h = Splits-few 0 at_start text ts h

Splits-most : (at : ℕ) (before : Before) (bytes : List ℕ) (ts : List Token)
    → Splits lexis at before bytes ts
    → before.count ≤ MOST_TOKENS → before.count + length ts ≤ MOST_TOKENS
Splits-most _ _ _ _ (scans.nothing at before) few = omega arith
Splits-most _ _ _ _ (scans.piece at before p after ts is rest) few = Splits-most _ _ _ _ rest few
Splits-most _ _ _ _ (scans.item at before t after ts is rest) few =
    omega (arith, Splits-most _ _ _ _ rest (omega (arith, is.few)))

pub IsTokens-most : (text : List ℕ) (ts : List Token) → IsTokens text ts → length ts ≤ MOST_TOKENS
IsTokens-most text ts h = omega (arith, Splits-most 0 at_start text ts h (omega arith))

-- a lexical fault is in the text, or at its end

fault_inside : (at : ℕ) (before : Before) (bytes : List ℕ) (fault : LexFault)
    → IsTokenFault at before bytes fault → position_of fault ≤ at + length bytes
fault_inside at before _ _ (tokens.unclosed bytes is) = omega arith
fault_inside at before _ _ (tokens.too_big bytes is) = omega arith
fault_inside at before _ _ (tokens.bad_first bytes is) = omega arith
fault_inside at before _ _ (tokens.bad_later bytes n is later few) =
    omega (arith, bad_inside before.is_white bytes n is)
fault_inside at before _ _ (tokens.too_many_begun bytes n is later full) = omega arith
fault_inside at before _ _ (tokens.too_many text after is full) = omega arith

pub IsLexicalFault-inside : (text : List ℕ) (fault : LexFault) → IsLexicalFault text fault
    → position_of fault ≤ length text
IsLexicalFault-inside text fault h =
    let is : IsRefusedIn lexis text fault = Fails-refused lexis [] 0 at_start text fault h refl in
    let inside = fault_inside (length is.prefix) is.before is.rest fault is.is_refused in
    omega (arith, inside, length-append is.prefix is.rest, ap length is.whole_is)

-- a lexical fault is never a want of memory

fault_names : (at : ℕ) (before : Before) (bytes : List ℕ) (fault : LexFault)
    → IsTokenFault at before bytes fault → fault ≢ Memory
fault_names at before _ _ (tokens.unclosed bytes is) = λ e. cc
fault_names at before _ _ (tokens.too_big bytes is) = λ e. cc
fault_names at before _ _ (tokens.bad_first bytes is) = λ e. cc
fault_names at before _ _ (tokens.bad_later bytes n is later few) = λ e. cc
fault_names at before _ _ (tokens.too_many_begun bytes n is later full) = λ e. cc
fault_names at before _ _ (tokens.too_many text after is full) = λ e. cc

pub IsLexicalFault-names : (text : List ℕ) (fault : LexFault) → IsLexicalFault text fault
    → fault ≢ Memory
IsLexicalFault-names text fault h =
    let is : IsRefusedIn lexis text fault = Fails-refused lexis [] 0 at_start text fault h refl in
    fault_names (length is.prefix) is.before is.rest fault is.is_refused

-- what a call answered

pub IsTokens-lexed : (text : List ℕ) (answer : Result (Vec Token) LexFault) → IsUtf8 text
    → Lexes (tokens_or_fault text) answer → IfOk answer (λ v. IsTokens text v.items)
IsTokens-lexed text (Ok v) utf8 h = rw h at (tokens_or_fault-HasTokens text utf8)
IsTokens-lexed text (Err fault) utf8 h = tt

pub IsLexicalFault-lexed : (text : List ℕ) (answer : Result (Vec Token) LexFault) → IsUtf8 text
    → Lexes (tokens_or_fault text) answer
    → IfErr answer (λ fault. fault ≢ Memory → IsLexicalFault text fault)
IsLexicalFault-lexed text (Ok v) utf8 h = tt
IsLexicalFault-lexed text (Err fault) utf8 h =
    λ other. (let e = h other in rw e at (tokens_or_fault-HasTokens text utf8))

pub whole_slice : (text : List ℕ) (n : ℕ) → n ≡ length text → slice_range text 0 n ≡ text
whole_slice text n e = take_all (n - 0) text (omega arith)
