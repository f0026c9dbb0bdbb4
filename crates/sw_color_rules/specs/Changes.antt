-- The elementary changes of colours.
use Rattle.std.specs.Prelude.{ℕ, ◌-◌, List, [], ◌∷◌, ◌++◌, length, take, fold}
use Rattle.sw_value.specs.Lists.{changed_at}
use Rattle.sw_color_rules.specs.declared.colors.Owner.{Owner}
use Rattle.sw_color_rules.specs.declared.colors.Tint.{Tint}
use Rattle.sw_color_rules.specs.declared.colors.Palette.{Palette}
use Rattle.sw_color_rules.specs.declared.colors.Colors.{Colors}
use Rattle.sw_color_rules.specs.Palette.{fresh, merge, hand_over}

pub data Change : Type 0 where
  -- a colour is made with the next number, and has this owner
  Fresh : (owner : Owner) → Change
  -- the cell that is made has this to do with colours
  Mark : (tint : Tint) → Change
  -- a frame is put on top of a job's, and its `Here` is this colour
  Push : (job number : ℕ) → Change
  -- a job is made with one frame, and its `Here` is this colour
  Begin : (number : ℕ) → Change
  -- the top frame of a job is taken off
  Pop : (job : ℕ) → Change
  -- two colours become one
  Merge : (a b : ℕ) → Change
  -- a colour that a job owns is another job's
  HandOver : (number job : ℕ) → Change

abbrev pub on_palette : (Palette → Palette) → Colors → Colors
on_palette g colors = record colors { palette = g colors.palette }

unfoldable pub mark : Tint → Colors → Colors
mark tint colors = record colors { cells = colors.cells ++ tint ∷ [] }

unfoldable pub with_last : ℕ → List ℕ → List ℕ
with_last n ns = ns ++ n ∷ []

unfoldable pub without_last : List ℕ → List ℕ
without_last ns = take (length ns - 1) ns

unfoldable pub push_here : ℕ → ℕ → Colors → Colors
push_here job n colors = record colors { heres = changed_at (with_last n) job colors.heres }

unfoldable pub pop_here : ℕ → Colors → Colors
pop_here job colors = record colors { heres = changed_at without_last job colors.heres }

unfoldable pub begin_heres : ℕ → Colors → Colors
begin_heres n colors = record colors { heres = colors.heres ++ (n ∷ []) ∷ [] }

abbrev pub after_change : Colors → Change → Colors
after_change colors (Fresh owner) = on_palette (fresh owner) colors
after_change colors (Mark tint) = mark tint colors
after_change colors (Push job n) = push_here job n colors
after_change colors (Begin n) = begin_heres n colors
after_change colors (Pop job) = pop_here job colors
after_change colors (Merge a b) = on_palette (merge a b) colors
after_change colors (HandOver n job) = on_palette (hand_over n job) colors

abbrev pub after_changes : List Change → Colors → Colors
after_changes changes colors = fold after_change colors changes
