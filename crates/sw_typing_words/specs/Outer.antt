-- What a word means that no visible variable has as its name.
use Rattle.std.specs.Prelude.{ℕ, Option}
use Rattle.sw_typing_rules.specs.Words as words
use Rattle.sw_typing_rules.specs.Words.{Sense, member_sense, owned, top_sense}
use Rattle.sw_typing_rules.specs.Worlds.{World}
use Rattle.sw_typing_words.specs.declared.meant.Outer.{Outer}
use Rattle.sw_typing_words.specs.declared.meant.Outer.TheVariants as outer

abbrev pub as_sense : Outer → Sense
as_sense (outer.OwnProperty shape number) = words.OwnProperty shape number
as_sense (outer.OwnMethod key) = words.OwnMethod key
as_sense outer.OwnCase = words.OwnCase
as_sense (outer.Top meaning) = words.Top meaning
as_sense outer.Printing = words.Printing
as_sense outer.Nothing = words.Nothing

-- a member of the type around, or what the word means at top level, or `print`
abbrev pub outer_sense : World → Option ℕ → ℕ → Sense
outer_sense world owner id =
    member_sense owner (owned world owner id) (top_sense (world.known.top id) id)
