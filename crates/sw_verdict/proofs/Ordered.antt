-- The breaches of a text stand in order, each once.
use Rattle.std.proofs.Common.{ℕ, List, Option}
use Rattle.std.specs.List.Sorted.{IsStrictlySortedBy}
use Rattle.sw_breach.specs.declared.Breach.{Breach}
use Rattle.sw_breach.specs.Order.{breach_cmp}
use Rattle.sw_decl_words.specs.declared.placed.Placed.{Placed}
use Rattle.sw_decls.specs.declared.signature.AsyncDefault.{AsyncDefault}
use Rattle.sw_verdict.specs.Phases.{Declarations, Encoding, Finds, FindsFirst, Isolation, Lexis}
use Rattle.sw_verdict.specs.Phases.{Phase, Races, Sharing, Size, Syntax, Types, breaks_one}
use Rattle.sw_verdict.specs.Phases.{has_fault, has_syntax_fault, has_tokens, is_utf8, keeps_all}
use Rattle.sw_verdict.specs.Phases.{not_utf8, spells_program}
use Rattle.sw_verdict.specs.Verdict.{Breaches, first, later, none}
use Rattle.sw_verdict.proofs.Races.{races_in_order, sharing_in_order}

first_in_order : {IsFirst : Option Placed → Type 0} {list : List Breach} → FindsFirst IsFirst list
    → IsStrictlySortedBy breach_cmp list
unfolding IsStrictlySortedBy
first_in_order (keeps_all _) = tt
first_in_order (breaks_one _ _) = (tt, tt)

found_in_order : (rule : AsyncDefault) (phase : Phase) (text : List ℕ) (list : List Breach)
    → Finds rule phase text list
    → IsStrictlySortedBy breach_cmp list
unfolding IsStrictlySortedBy
found_in_order rule Encoding text _ (is_utf8 _) = tt
found_in_order rule Encoding text _ (not_utf8 _) = (tt, tt)
found_in_order rule Lexis text _ (has_tokens _ _) = tt
found_in_order rule Lexis text _ (has_fault _ _) = (tt, tt)
found_in_order rule Syntax text _ (spells_program _ _) = tt
found_in_order rule Syntax text _ (has_syntax_fault _ _ _ _) = (tt, tt)
found_in_order rule Declarations text list finds = first_in_order finds.finds
found_in_order rule Types text list finds = first_in_order finds.finds
found_in_order rule Isolation text list finds = first_in_order finds.finds
found_in_order rule Size text list finds = first_in_order finds.finds
found_in_order rule Sharing text list finds = sharing_in_order rule text list finds
found_in_order rule Races text list finds = races_in_order rule text list finds

pub breaches_in_order : (rule : AsyncDefault) (phases : List Phase) (text : List ℕ)
    (list : List Breach)
    → Breaches rule phases text list → IsStrictlySortedBy breach_cmp list
unfolding IsStrictlySortedBy
breaches_in_order rule _ _ _ (none _) = tt
breaches_in_order rule _ text list (first phase _ _ _ _ found) =
    found_in_order rule phase text list found
breaches_in_order rule _ text list (later _ phases _ _ _ found) =
    breaches_in_order rule phases text list found
