-- The tint with which a cell is made fits it.
use Rattle.std.proofs.Common.{◌≡◌, ℕ, Bool, true, false, Option, Some, None, List, ◌++◌, cond}
use Rattle.std.proofs.Common.{flat_map, Contains, refl, sym, subst, ap, ◌∙◌, slice_get}
use Rattle.std.specs.Prelude.{not}
use Rattle.std.specs.Option.{option_map, option_map_or, option_to_list}
use Rattle.sw_types.specs.declared.isolation.Iso.{Iso}
use Rattle.sw_types.specs.declared.isolation.Iso.TheVariants as iso
use Rattle.sw_types.specs.Sendable.{sends_at}
use Rattle.sw_graph.specs.declared.function.Function.{Function}
use Rattle.sw_graph.specs.declared.graph.Graph.{Graph}
use Rattle.sw_region_ops.specs.Calls as calls
use Rattle.sw_value.specs.declared.cell.HeapCell.{HeapCell}
use Rattle.sw_value.specs.declared.cell.HeapCell.TheVariants.{Object, Actor, BoxOf, Closure, TaskOf}
use Rattle.sw_value.specs.declared.value.Value.{Value}
use Rattle.sw_color_rules.specs.declared.colors.Colors.{Colors}
use Rattle.sw_color_rules.specs.declared.colors.Owner.TheVariants as owner
use Rattle.sw_color_rules.specs.declared.colors.Tint.{Tint}
use Rattle.sw_color_rules.specs.declared.colors.Tint.TheVariants.{Bare, Colored, Owns, Holds}
use Rattle.sw_color_rules.specs.declared.plan.Plan.{Plan}
use Rattle.sw_color_rules.specs.Changes.{Fresh, after_changes}
use Rattle.sw_color_rules.specs.Palette.{IsWhole}
use Rattle.sw_color_rules.specs.Plans as plans
use Rattle.sw_color_rules.specs.Plans.{bare_cell, colored_cell, new_cell, new_closure, next_color}
use Rattle.sw_color_rules.specs.Plans.{top_here}
use Rattle.sw_color_rules.specs.Ranges.{AreMade}
use Rattle.sw_color_rules.specs.Tints.{colors_in, colors_of, in_order}
use Rattle.sw_reach_facts.specs.Coloured.{CaptureEarlier, runs_isolated}
use Rattle.sw_reach_facts.specs.Named.{NamesCells, values_in}
use Rattle.sw_reach_facts.specs.Reached.{colours_of}
use Rattle.sw_hue_facts.specs.Hued.{SameColours, hued, hues_of}
use Rattle.sw_hue_facts.specs.Tinted.{TintFits, TintsFit}
use Rattle.sw_hue_facts.proofs.Made.{fresh_made}
use Rattle.sw_hue_facts.proofs.Ordered.{ordered_same}
use Rattle.sw_hue_facts.proofs.Same.{same_through}
use Rattle.sw_hue_facts.proofs.Tinted.{values_same}

isolated_same : (graph : Graph) (f : ℕ) → plans.is_isolated graph f ≡ runs_isolated graph f
isolated_same graph f = by (slice_get graph.functions f) where
  one : (i : Iso) → plans.is_isolated_to i ≡ calls.is_isolated i
  one iso.Free = refl
  one iso.Own = refl
  one (iso.Global g) = refl
  one iso.Caller = refl

  by : (o : Option Function)
      → option_map_or (λ (function : Function). plans.is_isolated_to function.iso) o false
      ≡ option_map_or (λ (function : Function). calls.is_isolated function.iso) o false
  by None = refl
  by (Some function) = one function.iso

-- a task needs no more than to be bare
pub task_fits : (graph : Graph) (cells : List HeapCell) (colors : Colors) (c j : ℕ)
    → TintFits graph cells colors c (TaskOf j) Bare
task_fits graph cells colors c j = record {
  coloured = λ may. let clash : ⊥ = cc in absurd clash;
  bare = λ is. refl;
  owns = λ k parts is. let clash : ⊥ = cc in absurd clash;
  holds = λ f vs is free. let clash : ⊥ = cc in absurd clash;
}

module _ (graph : Graph) (cells : List HeapCell) (colors : Colors) (job c : ℕ)
    (fit : TintsFit graph cells colors) (earlier : CaptureEarlier cells)
    (whole : IsWhole colors.palette) (made : AreMade colors) where
  -- the colours with the one that a plan makes
  abbrev freshened : Plan → Colors
  freshened plan = after_changes (option_to_list (option_map Fresh plan.fresh)) colors

  abbrev IsTinted : HeapCell → Plan → Type 0
  IsTinted cell plan = (tint : Tint) × (plan.tint ≡ Some tint)
      × TintFits graph cells (freshened plan) c cell tint

  -- a cell with a colour
  object_coloured : (k : ℕ) (parts : List Value) (ns : List ℕ) → sends_at graph.shapes k ≡ false
      → IsTinted (Object k parts) (colored_cell job (next_color colors) ns)
  object_coloured k parts ns e = (
    Colored (next_color colors),
    refl,
    record {
      coloured = λ may. (next_color colors, refl);
      bare = λ is. let clash : ⊥ = cc in absurd clash;
      owns = λ l us is. let clash : ⊥ = cc in absurd clash;
      holds = λ f vs is free. let clash : ⊥ = cc in absurd clash;
    },
  )

  object_bare : (k : ℕ) (parts : List Value) (ns : List ℕ) → sends_at graph.shapes k ≡ true
      → IsTinted (Object k parts) (bare_cell ns)
  object_bare k parts ns e = (
    Bare,
    refl,
    record {
      coloured = λ may.
          let clash : false ≡ true = sym (ap not e) ∙ may in let no : ⊥ = cc in absurd no;
      bare = λ is. refl;
      owns = λ l us is. let clash : ⊥ = cc in absurd clash;
      holds = λ f vs is free. let clash : ⊥ = cc in absurd clash;
    },
  )

  box_coloured : (v : Value) (ns : List ℕ)
      → IsTinted (BoxOf v) (colored_cell job (next_color colors) ns)
  box_coloured v ns = (
    Colored (next_color colors),
    refl,
    record {
      coloured = λ may. (next_color colors, refl);
      bare = λ is. let clash : ⊥ = cc in absurd clash;
      owns = λ l us is. let clash : ⊥ = cc in absurd clash;
      holds = λ f vs is free. let clash : ⊥ = cc in absurd clash;
    },
  )

  closure_coloured : (f : ℕ) (vs : List Value) (ns : List ℕ) → runs_isolated graph f ≡ true
      → IsTinted (Closure f vs) (colored_cell job (next_color colors) ns)
  closure_coloured f vs ns e = (
    Colored (next_color colors),
    refl,
    record {
      coloured = λ may. (next_color colors, refl);
      bare = λ is. let clash : ⊥ = cc in absurd clash;
      owns = λ l us is. let clash : ⊥ = cc in absurd clash;
      holds = λ g us is free.
          let same : f ≡ g = cc in
          let clash : true ≡ false = sym e ∙ ap (runs_isolated graph) same ∙ free in
          let no : ⊥ = cc in absurd no;
    },
  )

  closure_holds : (f : ℕ) (vs : List Value) → runs_isolated graph f ≡ false
      → ((v : Value) → Contains vs v → NamesCells cells v)
      → IsTinted (Closure f vs) (new_closure colors false job (colors_of colors.cells vs))
  closure_holds f vs e named = (
    Holds (in_order (colors_of colors.cells vs)),
    refl,
    record {
      coloured = λ may. let clash : true ≡ false = sym may ∙ e in let no : ⊥ = cc in absurd no;
      bare = λ is. let clash : ⊥ = cc in absurd clash;
      owns = λ l us is. let clash : ⊥ = cc in absurd clash;
      holds = λ g us is free.
          let same : vs ≡ us = cc in (
            in_order (colors_of colors.cells vs),
            refl,
            subst (λ l. SameColours (hues_of colors.palette (in_order (colors_of colors.cells vs)))
                (flat_map (colours_of cells (hued colors).cells) l)) same
                (same_through (hues_of colors.palette (in_order (colors_of colors.cells vs)))
                (hues_of colors.palette (colors_of colors.cells vs))
                (flat_map (colours_of cells (hued colors).cells) vs)
                (ordered_same colors.palette (colors_of colors.cells vs))
                (values_same graph cells colors fit earlier vs named)),
          );
    },
  )

  actor_owns : (k : ℕ) (parts : List Value) (ns : List ℕ)
      → IsTinted (Actor k parts) (plans.new_actor c (next_color colors) ns)
  actor_owns k parts ns = (
    Owns (next_color colors),
    refl,
    record {
      coloured = λ may. let clash : ⊥ = cc in absurd clash;
      bare = λ is. let clash : ⊥ = cc in absurd clash;
      owns = λ l us is.
          (next_color colors, refl, (fresh_made (owner.ActorOf c) colors whole made).1);
      holds = λ f vs is free. let clash : ⊥ = cc in absurd clash;
    },
  )

  pub new_tints_fit : (cell : HeapCell)
      → ((v : Value) → Contains (values_in cell) v → NamesCells cells v)
      → IsTinted cell (new_cell graph colors job c cell)
  new_tints_fit (Object k parts) named = by (sends_at graph.shapes k) refl where
    by : (b : Bool) → sends_at graph.shapes k ≡ b → IsTinted (Object k parts)
        (cond b (bare_cell (top_here colors job ++ colors_of colors.cells parts))
        (colored_cell job (next_color colors) (colors_of colors.cells parts)))
    by true e = object_bare k parts (top_here colors job ++ colors_of colors.cells parts) e
    by false e = object_coloured k parts (colors_of colors.cells parts) e
  new_tints_fit (Actor k parts) named =
      actor_owns k parts (top_here colors job ++ colors_of colors.cells parts)
  new_tints_fit (BoxOf v) named = box_coloured v (colors_in colors.cells v)
  new_tints_fit (Closure f vs) named = by (plans.is_isolated graph f) refl where
    by : (b : Bool) → plans.is_isolated graph f ≡ b → IsTinted (Closure f vs)
        (new_closure colors b job (colors_of colors.cells vs))
    by true e = closure_coloured f vs (top_here colors job ++ colors_of colors.cells vs)
        (sym (isolated_same graph f) ∙ e)
    by false e = closure_holds f vs (sym (isolated_same graph f) ∙ e) named
  new_tints_fit (TaskOf j) named = (Bare, refl, task_fits graph cells colors c j)
