-- What holds of the colours of every state that is reached.
use Rattle.std.proofs.Common.{◌≡◌, ◌≢◌, ℕ, zero, suc, ◌<◌, ◌≤◌, min, max, List, [], ◌∷◌, ◌++◌, length}
use Rattle.std.proofs.Common.{map, refl, ap, sym, ◌∙◌, arith, subst, Bool, true, false, cond}
use Rattle.std.proofs.Common.{slice_get, fold, length-append, inl, inr, ◌⊎◌}
use Rattle.std.specs.Prelude.{◌==◌}
use Rattle.std.proofs.lemmas.Bool.{cases_eq, cases_lt}
use Rattle.std.proofs.lemmas.Bool.Decides.{eqb_tells}
use Rattle.std.proofs.lemmas.List.{get_or-map, get_or_past, get_or_append_left, get_or_at, length-map}
use Rattle.sw_graph.specs.declared.graph.Graph.{Graph}
use Rattle.sw_value.specs.declared.frame.Frame.{Frame}
use Rattle.sw_value.specs.Start.{start_frames}
use Rattle.sw_value.proofs.ListLemmas.{length-changed_at}
use Rattle.sw_color_rules.specs.declared.colors.Owner.{Owner}
use Rattle.sw_color_rules.specs.declared.colors.Owner.TheVariants as owner
use Rattle.sw_color_rules.specs.declared.colors.Palette.{Palette}
use Rattle.sw_color_rules.specs.declared.colors.Colors.{Colors}
use Rattle.sw_color_rules.specs.declared.colored.Colored.{Colored}
use Rattle.sw_color_rules.specs.declared.plan.FrameChange.TheVariants.{Pushed}
use Rattle.sw_color_rules.specs.Names.{name_in, turned}
use Rattle.sw_color_rules.specs.Palette.{fresh, united_as, united_with, merged_by, merge, hand_over, handed_to}
use Rattle.sw_color_rules.specs.Palette.{IsWhole}
use Rattle.sw_color_rules.specs.Changes.{Change, Fresh, Mark, Push, Begin, Pop, Merge, HandOver, after_change}
use Rattle.sw_color_rules.specs.Changes.{after_changes, mark, push_here, pop_here, begin_heres}
use Rattle.sw_color_rules.specs.Machine.{global_colors, global_count, started, start_colors, colored_step}
use Rattle.sw_color_rules.specs.Machine.{colored_start, colored_reach, changes_of, first_colors}
use Rattle.sw_color_rules.specs.Plans.{changes_by, begun_with, number_on, next_color}
use Rattle.sw_color_rules.proofs.NamesLemmas.{turned_other, turned_same}

none_whole : IsWhole (record { names = []; owners = [] })
none_whole = record { owned = refl; lower = λ n. omega arith; left = λ n. refl }

fresh_whole : (o : Owner) (p : Palette) → IsWhole p → IsWhole (fresh o p)
unfolding fresh
fresh_whole o p whole = record {
  owned = omega (
    arith,
    length-append p.owners (o ∷ []),
    length-append p.names (length p.names ∷ []),
    whole.owned,
  );
  lower = λ n. by_lower n (cases_lt n (length p.names));
  left = λ n. by_left n (cases_lt n (length p.names));
} where
  more : List ℕ
  more = p.names ++ length p.names ∷ []

  inside : (n : ℕ) → n < length p.names → name_in more n ≡ name_in p.names n
  inside n below = get_or_append_left p.names (length p.names ∷ []) n n below

  beyond : (n : ℕ) → length p.names ≤ n → name_in more n ≡ n
  beyond n past = elim (cases_eq n (length p.names)) [
    | inl same ↦
        get_or_at p.names (length p.names) [] n n (sym same) ∙ sym same
    | inr other ↦
        get_or_past more n n
        (omega (arith, length-append p.names (length p.names ∷ []), past, other))
  ]

  by_lower : (n : ℕ) → (n < length p.names) ⊎ (length p.names ≤ n) → name_in more n ≤ n
  by_lower n (inl below) = omega (arith, inside n below, whole.lower n)
  by_lower n (inr past) = omega (arith, beyond n past)

  by_left : (n : ℕ) → (n < length p.names) ⊎ (length p.names ≤ n)
      → name_in more (name_in more n) ≡ name_in more n
  by_left n (inl below) =
      let low : name_in p.names n < length p.names = omega (arith, whole.lower n, below) in
      ap (name_in more) (inside n below) ∙ inside (name_in p.names n) low ∙ whole.left n
      ∙ sym (inside n below)
  by_left n (inr past) = ap (name_in more) (beyond n past)

-- the name of each number is turned
turned_name : (f : ℕ → ℕ) (names : List ℕ) (n : ℕ) → n < length names
    → name_in (map f names) n ≡ f (name_in names n)
turned_name f names n below = get_or-map f names n n n below

united_whole : (low high : ℕ) (p : Palette) → IsWhole p → low < high → name_in p.names low ≡ low
    → name_in p.names high ≡ high → IsWhole (united_as low high p)
unfolding united_as
united_whole low high p whole below low_left high_left = record {
  owned = length-changed_at (united_with (slice_get p.owners high)) low p.owners ∙ whole.owned
      ∙ sym (length-map p.names (turned high low));
  lower = λ n. by_lower n (cases_lt n (length p.names));
  left = λ n. by_left n (cases_lt n (length p.names));
} where
  more : List ℕ
  more = map (turned high low) p.names

  beyond : (n : ℕ) → length p.names ≤ n → name_in more n ≡ n
  beyond n past = get_or_past more n n (omega (arith, length-map p.names (turned high low), past))

  turned_low : (m : ℕ) → turned high low m ≤ m
  turned_low m = elim (cases_eq m high) [
    | inl same ↦ omega (arith, turned_same high low m same, same, below)
    | inr other ↦ omega (arith, turned_other high low m other)
  ]

  by_lower : (n : ℕ) → (n < length p.names) ⊎ (length p.names ≤ n) → name_in more n ≤ n
  by_lower n (inl inside) =
      omega (
        arith,
        turned_name (turned high low) p.names n inside,
        turned_low (name_in p.names n),
        whole.lower n,
      )
  by_lower n (inr past) = omega (arith, beyond n past)

  -- a number that is left and isn't turned is left
  stays : (m : ℕ) → m < length p.names → name_in p.names m ≡ m → m ≢ high → name_in more m ≡ m
  stays m inside is_left other =
      turned_name (turned high low) p.names m inside ∙ ap (turned high low) is_left
      ∙ turned_other high low m other

  by_left : (n : ℕ) → (n < length p.names) ⊎ (length p.names ≤ n)
      → name_in more (name_in more n) ≡ name_in more n
  by_left n (inr past) = ap (name_in more) (beyond n past)
  by_left n (inl inside) =
      let m = name_in p.names n in
      let is = turned_name (turned high low) p.names n inside in
      let m_inside : m < length p.names = omega (arith, whole.lower n, inside) in
      elim (cases_eq m high) [
        | inl same ↦
            let is_low = is ∙ turned_same high low m same in
            ap (name_in more) is_low
            ∙ stays low (omega (arith, below, same, m_inside)) low_left (λ e. absurd (omega arith))
            ∙ sym is_low
        | inr other ↦
            let is_m = is ∙ turned_other high low m other in
            ap (name_in more) is_m ∙ stays m m_inside (whole.left n) other ∙ sym is_m
      ]

merged_whole : (a b : ℕ) (p : Palette) → IsWhole p → name_in p.names a ≡ a → name_in p.names b ≡ b
    → IsWhole (merged_by a b p)
merged_whole a b p whole a_left b_left = by (a == b) (eqb_tells a b) where
  sides : (low high : ℕ) → low < high → name_in p.names low ≡ low → name_in p.names high ≡ high
      → (x y : ℕ) → x ≡ low → y ≡ high → IsWhole (united_as x y p)
  sides low high below low_left high_left x y x_is y_is =
      subst (λ z. IsWhole (united_as z y p)) (sym x_is)
      (subst (λ z. IsWhole (united_as low z p)) (sym y_is)
      (united_whole low high p whole below low_left high_left))

  by : (t : Bool) → ((t ≡ true) × (a ≡ b)) ⊎ ((t ≡ false) × (a ≢ b))
      → IsWhole (cond t p (united_as (min a b) (max a b) p))
  by true _ = whole
  by false (inl h) = cc
  by false (inr h) = elim (cases_lt a b) [
    | inl below ↦
        sides a b below a_left b_left (min a b) (max a b) (omega (arith, below))
        (omega (arith, below))
    | inr above ↦
        sides b a (omega (arith, above, h.1)) b_left a_left (min a b) (max a b)
        (omega (arith, above)) (omega (arith, above))
  ]

merge_whole : (a b : ℕ) (p : Palette) → IsWhole p → IsWhole (merge a b p)
unfolding merge
merge_whole a b p whole =
    merged_whole (name_in p.names a) (name_in p.names b) p whole (whole.left a) (whole.left b)

hand_over_whole : (n job : ℕ) (p : Palette) → IsWhole p → IsWhole (hand_over n job p)
unfolding hand_over
hand_over_whole n job p whole = record {
  owned = length-changed_at (handed_to job) (name_in p.names n) p.owners ∙ whole.owned;
  lower = whole.lower;
  left = whole.left;
}

change_whole : (change : Change) (colors : Colors) → IsWhole colors.palette
    → IsWhole (after_change colors change).palette
unfolding mark push_here pop_here begin_heres
change_whole (Fresh o) colors whole = fresh_whole o colors.palette whole
change_whole (Mark tint) colors whole = whole
change_whole (Push job n) colors whole = whole
change_whole (Begin n) colors whole = whole
change_whole (Pop job) colors whole = whole
change_whole (Merge a b) colors whole = merge_whole a b colors.palette whole
change_whole (HandOver n job) colors whole = hand_over_whole n job colors.palette whole

pub changes_whole : (changes : List Change) (colors : Colors) → IsWhole colors.palette
    → IsWhole (after_changes changes colors).palette
changes_whole [] colors whole = whole
changes_whole (x ∷ xs) colors whole =
    changes_whole xs (after_change colors x) (change_whole x colors whole)

globals_whole : (n : ℕ) → IsWhole (global_colors n)
globals_whole zero = none_whole
globals_whole (suc n) = fresh_whole (owner.Global n) (global_colors n) (globals_whole n)

frames_whole : (frames : List Frame) (colors : Colors) → IsWhole colors.palette
    → IsWhole (fold started colors frames).palette
unfolding started
frames_whole [] colors whole = whole
frames_whole (frame ∷ frames) colors whole =
    frames_whole frames (started colors frame)
    (changes_whole
    (changes_by 0
    (begun_with (number_on colors frame.executor) (owner.Job 0) Pushed (next_color colors) [])) colors
    whole)

pub start_whole : (graph : Graph) → IsWhole (start_colors graph).palette
unfolding start_colors
start_whole graph = frames_whole (start_frames graph) (first_colors graph) (globals_whole (global_count graph.functions))

steps_whole : (graph : Graph) (items : List ℕ) (colored : Colored) → IsWhole colored.colors.palette
    → IsWhole (fold (colored_step graph) colored items).colors.palette
unfolding colored_step
steps_whole graph [] colored whole = whole
steps_whole graph (item ∷ items) colored whole =
    steps_whole graph items (colored_step graph colored item)
    (changes_whole (changes_of graph colored item) colored.colors whole)

pub reach_whole : (graph : Graph) (items : List ℕ)
    → IsWhole (colored_reach graph items).colors.palette
unfolding colored_reach
reach_whole graph items = steps_whole graph items (colored_start graph) (start_whole graph)
