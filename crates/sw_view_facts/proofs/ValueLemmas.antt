-- What the register reaches that an effect sets.
use Rattle.std.specs.Option.{option_and_then, option_map, option_map_or}
use Rattle.std.specs.List.{slice_get, slice_set}
use Rattle.std.proofs.Common.{◌≡◌, ◌⊎◌, ℕ, Option, Some, None, List, [], length, Contains, refl}
use Rattle.std.proofs.Common.{sym, subst, inl, inr, flat_map}
use Rattle.sw_list.proofs.ListLemmas.{some_injective}
use Rattle.sw_list.proofs.Members.{none_in}
use Rattle.sw_value.specs.declared.effect.Effect.{Effect}
use Rattle.sw_value.specs.declared.effect.Effect.TheVariants as effect
use Rattle.sw_value.specs.declared.frame.Frame.{Frame}
use Rattle.sw_value.specs.declared.state.State.{State}
use Rattle.sw_value.specs.declared.value.Value.{Value}
use Rattle.sw_value.specs.declared.value.Value.TheVariants as value
use Rattle.sw_value.specs.Frame.{finish_instr, set_field}
use Rattle.sw_value.specs.Value.{value_at, with_field}
use Rattle.sw_value.proofs.ListLemmas.{changed_at_found, changed_at_none}
use Rattle.sw_owner_facts.specs.Colours.{Colour}
use Rattle.sw_reach_facts.specs.Reached.{colours_of, shown_below}
use Rattle.sw_reach_facts.proofs.PartLemmas.{with_field_within}
use Rattle.sw_reach_facts.proofs.ReferenceLemmas.{references-void}
use Rattle.sw_view_facts.specs.Effects.{register_of, turn_of, value_by}
use Rattle.sw_view_facts.specs.Views.{Colours, colours_by}
use Rattle.sw_view_facts.proofs.LeaveLemmas.{set_has}

-- the register has that value, if it is there
value_is : (e : Effect) (f : Frame) (r : ℕ) (v w : Value) → register_of e ≡ Some r
    → value_by e ≡ Some v → value_at (turn_of e f).regs r ≡ Some w → w ≡ v
unfolding finish_instr
value_is (effect.Set s u next) f r v w sets gives has =
    set_has f.regs r v w (subst (λ k. value_at (slice_set f.regs k (Some v)) r ≡ Some w)
    (some_injective sets) (subst (λ x. value_at (slice_set f.regs s (Some x)) r ≡ Some w)
    (some_injective gives) has))
value_is (effect.Print s line next) f r v w sets gives has =
    set_has f.regs r v w (subst (λ k. value_at (slice_set f.regs k (Some v)) r ≡ Some w)
    (some_injective sets) (subst (λ x. value_at (slice_set f.regs s (Some x)) r ≡ Some w)
    (some_injective gives) has))
value_is (effect.New s cell number next) f r v w sets gives has =
    set_has f.regs r v w (subst (λ k. value_at (slice_set f.regs k (Some v)) r ≡ Some w)
    (some_injective sets) (subst (λ x. value_at (slice_set f.regs s (Some x)) r ≡ Some w)
    (some_injective gives) has))
value_is (effect.Rest s next) f r v w sets gives has =
    set_has f.regs r v w (subst (λ k. value_at (slice_set f.regs k (Some v)) r ≡ Some w)
    (some_injective sets) (subst (λ x. value_at (slice_set f.regs s (Some x)) r ≡ Some w)
    (some_injective gives) has))
value_is (effect.SetField s i u next) f r v w sets gives has = cc
value_is (effect.Write c slot u next) f r v w sets gives has = cc
value_is (effect.WriteGlobal g u next) f r v w sets gives has = cc
value_is (effect.Goto next) f r v w sets gives has = cc
value_is (effect.Wait on s next) f r v w sets gives has = cc
value_is (effect.Enter frame next) f r v w sets gives has = cc
value_is (effect.Leave u) f r v w sets gives has = cc
value_is (effect.Spawn s frame job cell next) f r v w sets gives has = cc
value_is (effect.Halt kind at) f r v w sets gives has = cc
value_is effect.Stuck f r v w sets gives has = cc

module _ (state : State) (colours : Colours) (f : Frame) where
  -- and reaches no more than the value
  pub register_shows : (e : Effect) (r : ℕ) (v : Value) (c : Colour) → register_of e ≡ Some r
      → value_by e ≡ Some v → Contains (colours_by state colours (Some (turn_of e f)) r) c
      → Contains (colours_of state.cells colours.cells v) c
  register_shows e r v c sets gives has = by (value_at (turn_of e f).regs r) refl has where
    by : (o : Option Value) → value_at (turn_of e f).regs r ≡ o
        → Contains (option_map_or (colours_of state.cells colours.cells) o []) c
        → Contains (colours_of state.cells colours.cells v) c
    by None is has = absurd (none_in c has)
    by (Some w) is has = subst (λ u. Contains (colours_of state.cells colours.cells u) c)
        (value_is e f r v w sets gives is) has

  -- the value of `Void` reaches nothing
  pub void_shows : (c : Colour) → Contains (colours_of state.cells colours.cells value.Unit) c → ⊥
  unfolding colours_of
  void_shows c has = none_in c (subst (λ l. Contains
      (flat_map (shown_below state.cells colours.cells (length state.cells)) l) c)
      (references-void value.Unit value.outs-Unit) has)

  -- a struct that gets another part reaches no more than before and than the part
  pub field_shows : (r i : ℕ) (v : Value) (next : ℕ) (c : Colour)
      → Contains (colours_by state colours (Some (set_field r i v next f)) r) c
      → Contains (colours_by state colours (Some f) r) c
      ⊎ Contains (colours_of state.cells colours.cells v) c
  unfolding set_field
  field_shows r i v next c has = by (slice_get f.regs r) refl where
    shows : Option (Option Value) → List Colour
    shows o = option_map_or (colours_of state.cells colours.cells)
        (option_and_then (λ (o : Option Value). o) o) []

    inner : (o : Option Value) → Contains (shows (Some (option_map (with_field i v) o))) c
        → Contains (shows (Some o)) c ⊎ Contains (colours_of state.cells colours.cells v) c
    inner None has = inl has
    inner (Some w) has = with_field_within state.cells colours.cells i v w c has

    by : (o : Option (Option Value)) → slice_get f.regs r ≡ o
        → Contains (colours_by state colours (Some f) r) c
        ⊎ Contains (colours_of state.cells colours.cells v) c
    by None is = inl (subst (λ l. Contains (shows (slice_get l r)) c)
        (changed_at_none (option_map (with_field i v)) r f.regs is) has)
    by (Some o) is = elim (inner o (subst (λ l. Contains (shows l) c)
        (changed_at_found (option_map (with_field i v)) r f.regs o is) has)) [
          | inl old ↦ inl (subst (λ l. Contains (shows l) c) (sym is) old)
          | inr new ↦ inr new
        ]
