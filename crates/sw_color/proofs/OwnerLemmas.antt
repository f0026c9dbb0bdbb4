-- Owners that change.
use Rattle.std.proofs.Common.{◌≡◌, ℕ, List, ap, sym, ◌∙◌, Some, slice_get, slice_set}
use Rattle.sw_value.specs.Lists.{changed_at}
use Rattle.sw_value.proofs.ListLemmas.{changed_at_there}
use Rattle.sw_color_rules.specs.declared.colors.Owner.{Owner}
use Rattle.sw_color_rules.specs.declared.colors.Palette.{Palette}
use Rattle.sw_color_rules.specs.Names.{name_in}
use Rattle.sw_color_rules.specs.Palette.{handed_to, hand_over}

pub handed_there : (n job left : ℕ) (palette : Palette) (owner next : Owner) (owners : List Owner)
    → left ≡ name_in palette.names n → slice_get palette.owners left ≡ Some owner
    → next ≡ handed_to job owner → owners ≡ slice_set palette.owners left next
    → record { names = palette.names; owners = owners } ≡ hand_over n job palette
unfolding hand_over
handed_there n job left palette owner next owners left_is there next_is owners_is =
    ap (λ os. record { names = palette.names; owners = os })
    (owners_is ∙ ap (slice_set palette.owners left) next_is
    ∙ sym (changed_at_there (handed_to job) left palette.owners owner there)
    ∙ ap (λ k. changed_at (handed_to job) k palette.owners) left_is)
