-- Texts without `?`, and places where a `T?` of such a text `T` may be wanted.
use Rattle.std.specs.Prelude.{ℕ, Bool, true, not, ◌==◌, List, Option, Some, None}
use Rattle.std.specs.List.{list_all}
use Rattle.sw_grammar.specs.Nests.{Nest}
use Rattle.sw_grammar.specs.Nests.Nest.{in_types, in_payload, in_result, in_task_type, in_round}
use Rattle.sw_grammar.specs.Nests.Nest.{in_args, in_member, in_empty, in_captures}
use Rattle.sw_grammar.specs.Nests.Nest.{in_closure_params, in_closure, in_task, in_block, in_switch}
use Rattle.sw_grammar.specs.Nests.Nest.{in_if_let, in_patterns, in_params, in_isolation, in_entry}
use Rattle.sw_grammar.specs.Nests.Nest.{in_global_actor, in_struct, in_enum, in_class}

abbrev pub is_unmarked : List ℕ → Bool
is_unmarked text = list_all (λ byte. not (byte == 63)) text

-- whether what is wanted is nothing, or the optional of a text without `?`
abbrev pub wants_word : Option (List ℕ) → Bool
wants_word None = true
wants_word (Some text) = is_unmarked text

-- the same of what is wanted around a nest
abbrev pub fits : Nest → Bool
fits (in_round here) = wants_word here.wanted
fits (in_args here) = wants_word here.wanted
fits (in_member here) = wants_word here.wanted
fits (in_closure here) = wants_word here.wanted
fits (in_task here) = wants_word here.wanted
fits (in_block here) = wants_word here.wanted
fits (in_switch here) = wants_word here.wanted
fits (in_if_let here) = wants_word here.wanted
fits (in_patterns here) = wants_word here.wanted
fits in_types = true
fits in_payload = true
fits in_result = true
fits in_task_type = true
fits in_empty = true
fits in_captures = true
fits (in_closure_params here) = true
fits in_params = true
fits in_isolation = true
fits in_entry = true
fits in_global_actor = true
fits in_struct = true
fits in_enum = true
fits in_class = true
