-- Changes that note no colour but those that are made.
use Rattle.std.proofs.Common.{◌≡◌, ℕ, suc, ◌<◌, Bool, true, false, cond, eqb, min, max, List, [], ◌∷◌}
use Rattle.std.proofs.Common.{length, refl, sym, subst, arith, length-append, ◌≤◌}
use Rattle.std.specs.Prelude.{◌-◌}
use Rattle.std.specs.List.{All}
use Rattle.std.proofs.lemmas.List.{length-map}
use Rattle.std.proofs.lemmas.List.Elements.{All-nil, All-cons, All-take, All-weaker, All-push}
use Rattle.sw_color_rules.specs.declared.colors.Owner.{Owner}
use Rattle.sw_color_rules.specs.declared.colors.Tint.{Tint}
use Rattle.sw_color_rules.specs.declared.colors.Palette.{Palette}
use Rattle.sw_color_rules.specs.declared.colors.Colors.{Colors}
use Rattle.sw_color_rules.specs.Names.{name_in, turned}
use Rattle.sw_color_rules.specs.Palette.{fresh, merge, united_as, hand_over}
use Rattle.sw_color_rules.specs.Changes.{Change, Fresh, Mark, Push, Begin, Pop, Merge, HandOver}
use Rattle.sw_color_rules.specs.Changes.{after_change, after_changes, mark, push_here, pop_here, begin_heres}
use Rattle.sw_color_rules.specs.Changes.{with_last, without_last}
use Rattle.sw_color_rules.specs.Ranges.{noted, AreBelow, AreMade}
use Rattle.sw_color_rules.proofs.NumberLemmas.{all_changed, AreNoted}

-- how many colours there are after a change
abbrev pub count_after : ℕ → Change → ℕ
count_after count (Fresh o) = suc count
count_after count _ = count

-- a change that notes no colour but those that are made
abbrev pub Notes : ℕ → Change → Type 0
Notes count (Mark tint) = AreBelow count (noted tint)
Notes count (Push job n) = n < count
Notes count (Begin n) = n < count
Notes count _ = Unit {0}

abbrev pub AllNote : ℕ → List Change → Type 0
AllNote count [] = Unit {0}
AllNote count (change ∷ changes) = Notes count change × AllNote (count_after count change) changes

fresh_length : (o : Owner) (p : Palette) → length (fresh o p).names ≡ suc (length p.names)
unfolding fresh
fresh_length o p = omega (arith, length-append p.names (length p.names ∷ []))

merge_length : (a b : ℕ) (p : Palette) → length (merge a b p).names ≡ length p.names
unfolding merge united_as
merge_length a b p = by (eqb x y) where
  x : ℕ
  x = name_in p.names a

  y : ℕ
  y = name_in p.names b

  by : (t : Bool) → length (cond t p (united_as (min x y) (max x y) p)).names ≡ length p.names
  by true = refl
  by false = length-map p.names (turned (max x y) (min x y))

hand_over_length : (n job : ℕ) (p : Palette) → length (hand_over n job p).names ≡ length p.names
unfolding hand_over
hand_over_length n job p = refl

-- a state with as many colours, or more
more_made : (cells : List Tint) (heres : List (List ℕ)) (count more : ℕ) → count ≤ more
    → AreNoted count cells → All (AreBelow count) heres
    → AreNoted more cells × All (AreBelow more) heres
more_made cells heres count more few noted_cells noted_heres = (
  All-weaker (λ t. AreBelow count (noted t)) (λ t. AreBelow more (noted t))
      (λ t. wider (noted t)) cells noted_cells,
  All-weaker (AreBelow count) (AreBelow more) wider heres noted_heres,
) where
  wider : (ns : List ℕ) → AreBelow count ns → AreBelow more ns
  wider ns below = All-weaker (λ n. n < count) (λ n. n < more) (λ n l. omega (arith, few, l)) ns below

on_more : (palette : Palette) (colors : Colors)
    → length colors.palette.names ≤ length palette.names → AreMade colors
    → AreMade (record colors { palette = palette })
on_more palette colors few made =
    let both = more_made colors.cells colors.heres (length colors.palette.names)
    (length palette.names) few made.cells made.heres in
    record { cells = both.0; heres = both.1 }

change_made : (change : Change) (colors : Colors) → Notes (length colors.palette.names) change
    → AreMade colors → AreMade (after_change colors change)
unfolding mark push_here pop_here begin_heres with_last without_last
change_made (Fresh o) colors notes made =
    on_more (fresh o colors.palette) colors (omega (arith, fresh_length o colors.palette)) made
change_made (Mark tint) colors notes made = record {
  cells = All-push (λ t. AreBelow (length colors.palette.names) (noted t)) colors.cells tint made.cells
      notes;
  heres = made.heres;
}
change_made (Push job n) colors notes made = record {
  cells = made.cells;
  heres = all_changed (AreBelow (length colors.palette.names)) (with_last n) job colors.heres
      (λ ns below. All-push (λ m. m < length colors.palette.names) ns n below notes) made.heres;
}
change_made (Begin n) colors notes made = record {
  cells = made.cells;
  heres = All-push (AreBelow (length colors.palette.names)) colors.heres (n ∷ []) made.heres
      (All-cons (λ m. m < length colors.palette.names) n [] notes (All-nil (λ m. m < length colors.palette.names)));
}
change_made (Pop job) colors notes made = record {
  cells = made.cells;
  heres = all_changed (AreBelow (length colors.palette.names)) without_last job colors.heres
      (λ ns below. All-take (λ m. m < length colors.palette.names) (length ns - 1) ns below) made.heres;
}
change_made (Merge a b) colors notes made =
    on_more (merge a b colors.palette) colors (omega (arith, merge_length a b colors.palette)) made
change_made (HandOver n job) colors notes made =
    on_more (hand_over n job colors.palette) colors (omega (arith, hand_over_length n job colors.palette))
    made

changed_count : (change : Change) (colors : Colors)
    → length (after_change colors change).palette.names
    ≡ count_after (length colors.palette.names) change
unfolding mark push_here pop_here begin_heres
changed_count (Fresh o) colors = fresh_length o colors.palette
changed_count (Mark tint) colors = refl
changed_count (Push job n) colors = refl
changed_count (Begin n) colors = refl
changed_count (Pop job) colors = refl
changed_count (Merge a b) colors = merge_length a b colors.palette
changed_count (HandOver n job) colors = hand_over_length n job colors.palette

pub changes_made : (changes : List Change) (colors : Colors)
    → AllNote (length colors.palette.names) changes → AreMade colors
    → AreMade (after_changes changes colors)
changes_made [] colors notes made = made
changes_made (change ∷ changes) colors notes made =
    changes_made changes (after_change colors change)
    (subst (λ count. AllNote count changes) (sym (changed_count change colors)) notes.1)
    (change_made change colors notes.0 made)
