-- A plan as it is carried out: what is made, then what is merged and handed over.
use Rattle.std.specs.Prelude.{ℕ, Option, Some, None, List, [], ◌∷◌, fold}
use Rattle.sw_color_rules.specs.declared.colors.Owner.{Owner}
use Rattle.sw_color_rules.specs.declared.colors.Tint.{Tint}
use Rattle.sw_color_rules.specs.declared.colors.Palette.{Palette}
use Rattle.sw_color_rules.specs.declared.colors.Colors.{Colors}
use Rattle.sw_color_rules.specs.declared.plan.FrameChange.{FrameChange}
use Rattle.sw_color_rules.specs.declared.plan.FrameChange.TheVariants.{Stays, Pushed, Begun, Popped}
use Rattle.sw_color_rules.specs.Palette.{fresh, merge, hand_over}
use Rattle.sw_color_rules.specs.Changes.{on_palette, mark, push_here, pop_here, begin_heres}

abbrev pub made_fresh : Option Owner → Colors → Colors
made_fresh None colors = colors
made_fresh (Some owner) colors = on_palette (fresh owner) colors

abbrev pub marked : Option Tint → Colors → Colors
marked None colors = colors
marked (Some tint) colors = mark tint colors

abbrev pub framed : ℕ → FrameChange → Colors → Colors
framed job Stays colors = colors
framed job (Pushed n) colors = push_here job n colors
framed job (Begun n) colors = begin_heres n colors
framed job Popped colors = pop_here job colors

-- these colours become one with the first
abbrev pub joined_with : ℕ → List ℕ → Palette → Palette
joined_with a ns palette = fold (λ p n. merge a n p) palette ns

abbrev pub joined : List ℕ → Palette → Palette
joined [] palette = palette
joined (a ∷ ns) palette = joined_with a ns palette

-- the first of these colours is handed over
abbrev pub handed : List ℕ → Option ℕ → Palette → Palette
handed (a ∷ ns) (Some job) palette = hand_over a job palette
handed _ _ palette = palette
