-- Trials: what is found in a text with words put in.
use Rattle.std.specs.Prelude.{ℕ, ◌+◌, ◌==◌, nat_lt, nat_le, Bool, not, ◌&&◌, ◌||◌, if◌then◌else◌, List, ◌++◌}
use Rattle.std.specs.Prelude.{take, drop}
use Rattle.std.specs.List.{list_all, list_any}
use Rattle.sw_breach.specs.declared.Breach.{Breach}
use Rattle.sw_lsp_mends.specs.declared.trial.Gap.{Gap}

-- the text with a piece put in at the position `at`, a byte offset
abbrev pub edited : List ℕ → ℕ → List ℕ → List ℕ
edited text at piece = take at text ++ (piece ++ drop at text)

-- where what stands at a position stands in the edited text
abbrev pub moved : Gap → ℕ → ℕ
moved gap at = if nat_lt at gap.at then at else at + gap.len

-- a breach of the edited text is this one of the text
abbrev pub is_same : Gap → Breach → Breach → Bool
is_same gap before after = after.code == before.code && after.at == moved gap before.at

-- Where an `await` is missing, nobody has looked for the breaches of isolation behind it, nor for
-- those of later phases.
abbrev pub may_be_new : Breach → Breach → Bool
may_be_new mended after = mended.code == 502 && nat_le 500 after.code

-- a breach may be found where this one is mended: one that was found before, or that nobody has
-- looked for
abbrev pub is_left : Gap → Breach → List Breach → Breach → Bool
is_left gap mended before after =
    list_any (λ known. is_same gap known after) before || may_be_new mended after

-- a breach is mended: it isn't found any more, and no other that is new
abbrev pub is_mended : Gap → Breach → List Breach → List Breach → Bool
is_mended gap breach before after =
    not (list_any (is_same gap breach) after) && list_all (is_left gap breach before) after
