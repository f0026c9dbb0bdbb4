-- A colour more: the numbers that there were show what they showed, and the new one its owner.
use Rattle.std.proofs.Common.{◌≡◌, ◌<◌, ℕ, suc, Some, List, [], ◌∷◌, sym, subst, arith}
use Rattle.std.proofs.Common.{length-append}
use Rattle.std.proofs.lemmas.List.Elements.{All-cons, All-weaker}
use Rattle.sw_color_rules.specs.declared.colors.Colors.{Colors}
use Rattle.sw_color_rules.specs.declared.colors.Owner.{Owner}
use Rattle.sw_color_rules.specs.Changes.{Fresh, after_change}
use Rattle.sw_color_rules.specs.Palette.{IsWhole, fresh}
use Rattle.sw_color_rules.specs.Plans.{next_color}
use Rattle.sw_color_rules.specs.Ranges.{AreBelow, AreMade}
use Rattle.sw_late_facts.specs.Hues.{hue, hue_by}
use Rattle.sw_late_facts.proofs.HueLemmas.{fresh_stays}
use Rattle.sw_owner_facts.specs.Colours.{Colour}
use Rattle.sw_hue_facts.specs.Hued.{SameColours, hues_of}
use Rattle.sw_hue_facts.proofs.Lists.{map_all}
use Rattle.sw_hue_facts.proofs.Made.{fresh_made}
use Rattle.sw_secure_late_facts.proofs.Same.{same_more}

module _ (colors : Colors) (o : Owner) (whole : IsWhole colors.palette) (made : AreMade colors)
  where
    abbrev pub more : Colors
    more = after_change colors (Fresh o)

    -- the numbers that there were show what they showed
    pub hues_stay : (ns : List ℕ) → AreBelow (next_color colors) ns
        → hues_of more.palette ns ≡ hues_of colors.palette ns
    hues_stay ns below = map_all (λ n. n < next_color colors) (hue more.palette)
        (hue colors.palette)
        ns
        (fresh_stays o colors.palette whole) below

    pub count_more : next_color more ≡ suc (next_color colors)
    unfolding fresh
    count_more = omega (arith, length-append colors.palette.names (next_color colors ∷ []))

    -- the new number and others
    pub more_below : (ns : List ℕ) → AreBelow (next_color colors) ns
        → AreBelow (next_color more) (next_color colors ∷ ns)
    more_below ns below = All-cons (λ n. n < next_color more) (next_color colors) ns
        (omega (arith, count_more))
        (All-weaker (λ n. n < next_color colors) (λ n. n < next_color more)
        (λ n inside. omega (arith, inside, count_more)) ns below)

    pub more_show : (ns : List ℕ) (cs : List Colour) → AreBelow (next_color colors) ns
        → SameColours (hues_of colors.palette ns) cs
        → SameColours (hues_of more.palette (next_color colors ∷ ns))
        (hue_by (Some o) (next_color colors) ∷ cs)
    more_show ns cs below same =
        same_more (hue more.palette (next_color colors)) (hue_by (Some o) (next_color colors))
        (hues_of more.palette ns) cs (fresh_made o colors whole made).1
        (subst (λ l. SameColours l cs) (sym (hues_stay ns below)) same)
