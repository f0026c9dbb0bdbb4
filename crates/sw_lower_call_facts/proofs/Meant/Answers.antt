-- A meaning that is found by a key is one of those that are said.
use Rattle.std.proofs.Common.{◌≡◌, ℕ, List, [], ◌∷◌, Bool, true, false, Some, None, subst}
use Rattle.std.specs.Prelude.{◌==◌, if◌then◌else◌, Contains}
use Rattle.std.proofs.Common.{inl, inr}
use Rattle.std.proofs.lemmas.List.Elements.{Contains-append_right}
use Rattle.sw_decl_words.specs.Words.{or_else}
use Rattle.sw_tree.specs.declared.decl.Decl.{Decl}
use Rattle.sw_typing_rules.proofs.Saying.{is_said}
use Rattle.sw_typing_rules.specs.Programs.{said}
use Rattle.sw_typing_rules.specs.Worlds.{World}
use Rattle.sw_typing_rules.specs.declared.row.Meaning.{Meaning}
use Rattle.sw_typing_rules.specs.declared.row.Meaning.TheVariants as means
use Rattle.sw_typing_rules.specs.declared.row.Row.{Row}
use Rattle.sw_typing_rules.specs.declared.row.Row.TheVariants.{Typed, Means, Ill}
use Rattle.sw_isolation_rules.specs.Answers.{answers_in, meaning_in}
use Rattle.sw_typing_facts.proofs.Lists.Listed.{in_first}
use Rattle.sw_lower_call_facts.specs.Calls.{MeansFunc}
use Rattle.sw_lower_call_facts.specs.Meant.{IsFuncNumber, MeaningSo}
use Rattle.sw_lower_call_facts.proofs.Meant.Rules.{row_so}

-- what is so of each meaning that is noted is so of one that is found
found_so : (P : Meaning → Type 0) (rows : List Row) (key : ℕ) (meaning : Meaning)
    → ((at : ℕ) (one : Meaning) → Contains rows (Means at one) → P one)
    → meaning_in rows key ≡ Some meaning → P meaning
found_so P [] key meaning all is = cc
found_so P (Typed at ty ∷ rows) key meaning all is =
    found_so P rows key meaning
    (λ k one has. all k one (Contains-append_right (Typed at ty ∷ []) rows (Means k one) has)) is
found_so P (Ill at code unless ∷ rows) key meaning all is =
    found_so P rows key meaning
    (λ k one has. all k one
    (Contains-append_right (Ill at code unless ∷ []) rows (Means k one) has)) is
found_so P (Means at other ∷ rows) key meaning all is =
    by (at == key) is (found_so P rows key meaning
    (λ k one has. all k one (Contains-append_right (Means at other ∷ []) rows (Means k one) has)))
  where
    by : (same : Bool)
        → or_else (if same then Some other else None) (meaning_in rows key) ≡ Some meaning
        → (meaning_in rows key ≡ Some meaning → P meaning) → P meaning
    by true is later =
        let same : other ≡ meaning = cc in
        subst P same (all at other (in_first (Means at other) rows))
    by false is later = later is

-- A function that is meant at a key is one of the top level or a method.
pub func_is_meant : (world : World) (decls : List Decl) (at n : ℕ)
    → MeansFunc ((answers_in (said world decls)).meaning_at at) n → IsFuncNumber world n
func_is_meant world decls at n (inl is) =
    found_so (MeaningSo world) (said world decls) at (means.FuncOf n)
    (λ k one has. row_so world decls (Means k one) (is_said world decls (Means k one) has)) is
func_is_meant world decls at n (inr is) =
    found_so (MeaningSo world) (said world decls) at (means.OwnFunc n)
    (λ k one has. row_so world decls (Means k one) (is_said world decls (Means k one) has)) is
