-- What is read by a word.
use Rattle.std.proofs.Common.{ℕ, true, Option, Some, None, subst}
use Rattle.sw_typing_rules.specs.declared.row.Meaning.{Meaning}
use Rattle.sw_typing_rules.specs.declared.row.Meaning.TheVariants as means
use Rattle.sw_isolation_rules.specs.Noting.{used_at}
use Rattle.sw_isolation_rules.specs.Uses.{meant, no_base, part_used, used}
use Rattle.sw_isolation_rules.specs.declared.uses.Context.{Context}
use Rattle.sw_lower_plans.specs.Run.{Making}
use Rattle.sw_lower_rules.specs.Uses.{read_word, word_by}
use Rattle.sw_lower_placed_facts.specs.Placing.{PlacesAt}
use Rattle.sw_lower_placed_facts.specs.Settled.{IsSettled}
use Rattle.sw_lower_placed_facts.specs.Hosts.{IsSeenFrom, IsHost, Program, Host}
use Rattle.sw_lower_placed_facts.proofs.Placing.Asking.{places_unknown}
use Rattle.sw_lower_placed_facts.proofs.Uses.Parts.{read_global_placed, read_own_placed}
use Rattle.sw_lower_placed_facts.proofs.Uses.Using.{IsUsed, MadeValue}
use Rattle.sw_lower_placed_facts.proofs.Uses.Variables.{read_var_placed}

module _ (program : Program) (host : Host) (settled : IsSettled program)
    (is_host : IsHost program host) where
  -- what a word means
  word_by_placed : (at : ℕ) (meaning : Option Meaning) (context : Context)
      → IsSeenFrom host context
      → IsUsed program context at (meant program.tables.world context.owner no_base meaning)
      → (s : Making)
      → PlacesAt program host s (word_by program.tables host.owner at meaning) MadeValue
  word_by_placed at None context seen is_used s = places_unknown s MadeValue
  word_by_placed at (Some (means.Local key)) context seen is_used s =
      read_var_placed program host settled is_host at key s
  word_by_placed at (Some (means.OwnPart i)) context seen is_used s =
      read_own_placed program host settled is_host at i context seen
      (subst (λ around. IsUsed program context at (part_used program.tables.world around i true))
      seen.owner is_used) s
  word_by_placed at (Some (means.OwnFunc n)) context seen is_used s = places_unknown s MadeValue
  word_by_placed at (Some (means.GlobalOf g)) context seen is_used s =
      read_global_placed program host settled is_host at g context seen is_used s
  word_by_placed at (Some (means.FuncOf n)) context seen is_used s = places_unknown s MadeValue
  word_by_placed at (Some (means.MakeOf k)) context seen is_used s = places_unknown s MadeValue
  word_by_placed at (Some (means.CaseOf k n)) context seen is_used s = places_unknown s MadeValue
  word_by_placed at (Some (means.PartOf n)) context seen is_used s = places_unknown s MadeValue
  word_by_placed at (Some means.Print) context seen is_used s = places_unknown s MadeValue
  word_by_placed at (Some means.TaskValue) context seen is_used s = places_unknown s MadeValue

  -- a word
  pub read_word_placed : (at : ℕ) (context : Context) → IsSeenFrom host context
      → IsUsed program context at
      (used_at program.tables.world program.tables.answers context no_base at)
      → (s : Making)
      → PlacesAt program host s (read_word program.tables host.owner at) MadeValue
  unfolding read_word used
  read_word_placed at context seen is_used s =
      word_by_placed at (program.tables.answers.meaning_at at) context seen is_used s
