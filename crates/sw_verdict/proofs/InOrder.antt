-- The phases one after another.
use Rattle.std.proofs.Common.{◌≡◌, ◌≢◌, ℕ, List, [], ◌∷◌, ◌++◌, Result, Err, refl, subst, sym}
use Rattle.std.proofs.Common.{ap, ◌∙◌}
use Rattle.std.specs.Prelude.{IsErrAnd, IsErrOf}
use Rattle.std.proofs.lemmas.Result.{err_from_is_err_and}
use Rattle.std.specs.Str.{IsUtf8}
use Rattle.sw_breach.specs.declared.Breach.{Breach}
use Rattle.sw_decls.specs.declared.signature.AsyncDefault.{AsyncDefault}
use Rattle.sw_verdict.specs.declared.phases.Refusal.{Refusal}
use Rattle.sw_verdict.specs.declared.phases.Refusal.TheVariants.{Breached, Memory}
use Rattle.sw_verdict.specs.Phases.{Phase, Finds, EncodingFinds, is_utf8}
use Rattle.sw_verdict.specs.Decided.{Decided, DecidedBy}
use Rattle.sw_verdict.specs.Found.{FoundBy}
use Rattle.sw_verdict.specs.Verdict.{Breaches, IsVerdict, none, first, later}

-- what a phase finds decides it and those after it
pub decided_by : (rule : AsyncDefault) (phase : Phase) (phases : List Phase) (text : List ℕ)
    (refusal : Refusal)
    → FoundBy (Finds rule phase text) refusal → DecidedBy rule (phase ∷ phases) text refusal
decided_by rule phase phases text Memory found = tt
decided_by rule phase phases text (Breached breach) finds =
    first phase phases text breach [] finds

-- these phases find no breach in the text
abbrev pub Pass : AsyncDefault → List Phase → List ℕ → Type 0
Pass rule [] text = Unit {0}
Pass rule (phase ∷ phases) text = Finds rule phase text [] × Pass rule phases text

pub passed : (rule : AsyncDefault) (phases : List Phase) (text : List ℕ)
    → Breaches rule phases text [] → Pass rule phases text
passed rule [] text found = tt
passed rule (phase ∷ phases) text (later _ _ _ _ passes more) =
    (passes, passed rule phases text more)

pub all_pass : (rule : AsyncDefault) (phases : List Phase) (text : List ℕ) → Pass rule phases text
    → Breaches rule phases text []
all_pass rule [] text pass = none text
all_pass rule (phase ∷ phases) text pass =
    later phase phases text [] pass.0 (all_pass rule phases text pass.1)

-- what the phases after those that find none decide is decided
pub decided_later : (rule : AsyncDefault) (before phases : List Phase) (text : List ℕ)
    (list : List Breach)
    → Pass rule before text → Breaches rule phases text list
    → Breaches rule (before ++ phases) text list
decided_later rule [] phases text list pass found = found
decided_later rule (phase ∷ before) phases text list pass found =
    later phase (before ++ phases) text list pass.0
    (decided_later rule before phases text list pass.1 found)

-- what phases find is decided, whatever phases come after
pub decided_before : (rule : AsyncDefault) (phases after : List Phase) (text : List ℕ)
    (list : List Breach) → list ≢ []
    → Breaches rule phases text list → Breaches rule (phases ++ after) text list
decided_before rule _ after text _ some (none _) = absurd (some refl)
decided_before rule _ after text _ some (first phase phases _ breach others found) =
    first phase (phases ++ after) text breach others found
decided_before rule _ after text list some (later phase phases _ _ passes more) =
    later phase (phases ++ after) text list passes
    (decided_before rule phases after text list some more)

decided_inside : (rule : AsyncDefault) (before phases after : List Phase) (text : List ℕ)
    (refusal : Refusal)
    → Pass rule before text → DecidedBy rule phases text refusal
    → DecidedBy rule (before ++ (phases ++ after)) text refusal
decided_inside rule before phases after text Memory pass found = tt
decided_inside rule before phases after text (Breached breach) pass found =
    decided_later rule before (phases ++ after) text (breach ∷ []) pass
    (decided_before rule phases after text (breach ∷ []) (λ e. cc) found)

-- Phases stopped the function, after these that find none.
pub stopped : {B : Type 0} (rule : AsyncDefault) (before phases after : List Phase) (text : List ℕ)
    (refusal : Refusal)
    (result : Result B Refusal) → Pass rule before text → DecidedBy rule phases text refusal
    → IsErrAnd result (λ other. other ≡ refusal)
    → Decided rule (before ++ (phases ++ after)) text result
stopped rule before phases after text refusal result pass found passes_on =
    let (other, was, same) = err_from_is_err_and result passes_on in
    let it : result ≡ Err refusal = was ∙ ap Err same in
    subst (Decided rule (before ++ (phases ++ after)) text) (sym it)
    (decided_inside rule before phases after text refusal pass found)

-- the breach of a refusal
pub breach_decided : {B : Type 0} (rule : AsyncDefault) (phases : List Phase) (text : List ℕ)
    (result : Result B Refusal) → Decided rule phases text result → (breach : Breach)
    → IsErrOf result (Breached breach) → IsVerdict rule phases text (Err (breach ∷ []))
breach_decided rule phases text result decided breach is =
    let it : result ≡ Err (Breached breach) = cc in
    ((λ e. cc), subst (Decided rule phases text) it decided)

pub utf8_found : (text : List ℕ) → EncodingFinds text [] → IsUtf8 text
utf8_found text (is_utf8 utf8) = utf8
