-- Acts that read, begin and store variables, in boxes and without.
use Rattle.std.proofs.Common.{◌≡◌, ℕ, Bool, true, false, Option, Some, None, List, [], ◌∷◌, length, refl}
use Rattle.std.proofs.Common.{ap, sym, ◌∙◌, subst}
use Rattle.std.specs.Prelude.{option_and_then}
use Rattle.sw_graph.specs.declared.instr.Instr.TheVariants as instr
use Rattle.sw_lower_plans.specs.Plan.{var_in}
use Rattle.sw_lower_plans.specs.declared.bound.Bound.{Bound}
use Rattle.sw_value.specs.declared.cell.HeapCell.TheVariants as cell
use Rattle.sw_value.specs.declared.cell.Slot.TheVariants.{Content}
use Rattle.sw_value.specs.declared.effect.Effect.TheVariants as effect
use Rattle.sw_value.specs.declared.value.Value.{Value}
use Rattle.sw_value.specs.declared.value.Value.TheVariants as value
use Rattle.sw_value.specs.Effect.{needs}
use Rattle.sw_value.specs.Frame.{finish_instr}
use Rattle.sw_value.specs.Value.{payload_of, value_at}
use Rattle.sw_tree_work.specs.Work as work
use Rattle.sw_tree_work.specs.Work.{Work}
use Rattle.sw_tree_step.specs.Acting.{Quiet, declares, loaded, may_give, puts, reads}
use Rattle.sw_tree_step.specs.Acting.{stores}
use Rattle.sw_tree_step.specs.State.{Direct, InBox, Room, put}
use Rattle.sw_spots.specs.Spots.{IsAlone, ReadAt, StoreAt}
use Rattle.sw_tree_same.specs.Frames.{IsRoom}
use Rattle.sw_tree_same.proofs.Cells.{cell_count, loaded_same, writes_slot}
use Rattle.sw_tree_same.proofs.Computing.{now_is, sets}
use Rattle.sw_tree_same.proofs.Following.{declared, stored}
use Rattle.sw_tree_same.proofs.Scene.{Does, Follows, Have, Related, Relates, Rest, Scene, has_value}
use Rattle.sw_tree_same.proofs.Scene.{here, next, now, on_one}

module _ (c : Scene) where
  -- what a box has
  pub box_read : (rest : Work) (temps : List Value) (numbers : List ℕ) (bound : Bound) (k : ℕ)
      → Have c temps numbers → value_at c.frame.regs bound.reg ≡ Some (value.Cell k)
      → ReadAt c.function (here c numbers) (Rest c rest) bound true
      → Relates c (may_give (reads c.trees (Some (InBox k))) temps rest c.tree)
  box_read rest temps numbers bound k are has act =
      sets c rest numbers temps numbers (λ r. instr.LoadBox act.0 r act.1.0) are act.1.2
      (loaded c.trees Content (value.Cell k))
      (ap (λ o. needs o (λ w. effect.Set act.1.2.r w (next c)))
      (loaded_same c Content act.1.0 bound.reg (value.Cell k) act.1.1 has))

  pub declare_does : (key : ℕ) (boxed : Bool) → Does c (work.Declare key boxed)
  declare_does key false rest temps numbers are act = on_one c _ _ temps numbers are act
      (λ v s more others has below on.
      let g = on.2.2 in
      subst (Related c (declares c.trees key false v more rest c.tree))
      (sym (now_is c numbers (instr.Copy on.1 g.r on.2.0) g.is
      ∙ ap (λ o. needs o (λ w. effect.Set g.r w (next c))) (has_value c on.2.0 s v on.2.1 has)))
      (declared c rest more others g.r key false (Direct v) below g.free on.0 refl g.next))
  declare_does key true rest temps numbers are act = on_one c _ _ temps numbers are act
      (λ v s more others has below on.
      let g = on.2.2 in
      subst (Related c (declares c.trees key true v more rest c.tree))
      (sym (now_is c numbers (instr.NewBox on.1 g.r on.2.0) g.is
      ∙ ap (λ o. needs o (λ w. effect.New g.r (cell.BoxOf w) (length c.state.cells) (next c)))
      (has_value c on.2.0 s v on.2.1 has))) (
        (refl, tt),
        subst (λ n. Follows c None (record c.tree {
          env = put key (InBox (length c.trees.cells)) c.tree.env;
          temps = more;
          work = rest;
        }) (finish_instr g.r (value.Cell n) (next c) c.frame)) (cell_count c)
            (declared c rest more others g.r key true (InBox (length c.trees.cells)) below g.free
            on.0 refl g.next),
      ))

  store_room : (key : ℕ) (rest : Work) (s : ℕ) (v : Value) (bound : Bound) (room : Room)
      → value_at c.frame.regs s ≡ Some v → IsRoom c.frame.regs bound room
      → var_in key c.vars ≡ Some bound → IsAlone key bound c.vars → (boxed : Bool)
      → bound.boxed ≡ boxed → StoreAt c.function (here c (s ∷ [])) s (Rest c rest) bound boxed
      → Relates c (stores c.trees key (Some room) v [] rest c.tree)
  store_room key rest s v bound (Direct old) has is found alone false plain act =
      subst (Related c (stores c.trees key (Some (Direct old)) v [] rest c.tree))
      (sym (now_is c (s ∷ []) (instr.Copy act.0 bound.reg act.1.0) act.1.2.0
      ∙ ap (λ o. needs o (λ w. effect.Set bound.reg w (next c)))
      (has_value c act.1.0 s v act.1.1 has)))
      (stored c rest key bound v act.1.2.1 plain found alone act.1.2.2)
  store_room key rest s v bound (InBox k) has is found alone true boxed act =
      let from = act.1 in
      let into = act.1.2 in
      writes_slot c Content rest (s ∷ []) [] [] (instr.StoreBox act.0 into.0 from.0) into.0 from.0
      bound.reg s (value.Cell k) v tt into.2.0 into.2.1 into.1 is.1 from.1 has refl
  store_room key rest s v bound (Direct old) has is found alone true boxed act =
      absurd (let no : ⊥ = (let wrong : false ≡ true = is.0 ∙ boxed in cc) in no)
  store_room key rest s v bound (InBox k) has is found alone false plain act =
      absurd (let no : ⊥ = (let wrong : true ≡ false = is.0 ∙ plain in cc) in no)

  pub store_does : (key : ℕ) → Does c (work.Store key)
  store_does key rest (v ∷ []) (s ∷ []) are act =
      let has = c.are_vars key act.1 act.2 in
      subst (λ room. Relates c (stores c.trees key room v [] rest c.tree)) (sym has.found)
      (store_room key rest s v act.1 has.room are.0 has.is act.2 act.3 act.1.boxed refl act.4)
  store_does key rest (v ∷ w ∷ temps) (s ∷ t ∷ numbers) are act =
      absurd (let no : ⊥ = (let wrong = act.0 in cc) in no)
  store_does key rest [] [] are act = absurd act
  store_does key rest [] (s ∷ numbers) are act = absurd are
  store_does key rest (v ∷ temps) [] are act = absurd are
  store_does key rest (v ∷ []) (s ∷ t ∷ numbers) are act = absurd are.1
  store_does key rest (v ∷ w ∷ temps) (s ∷ []) are act = absurd are.1

  pub payload_does : (key i : ℕ) → Does c (work.Payload key i)
  payload_does key i rest (v ∷ temps) (s ∷ numbers) are act =
      let g = act.2.2 in
      by (payload_of i v)
      (now_is c (s ∷ numbers) (instr.Payload act.1 g.r act.2.0 i) g.is
      ∙ ap (λ o. needs (option_and_then (payload_of i) o) (λ w. effect.Set g.r w (next c)))
      (has_value c act.2.0 s v act.2.1 are.0)) where
        by : (part : Option Value)
            → now c ≡ needs part (λ w. effect.Set act.2.2.r w (next c))
            → Relates c (option_and_then
            (λ w. puts key (Direct w) Quiet (v ∷ temps) rest c.tree) part)
        by None is = is
        by (Some w) is =
            subst (Related c (puts key (Direct w) Quiet (v ∷ temps) rest c.tree)) (sym is)
            (declared c rest (v ∷ temps) (s ∷ numbers) act.2.2.r key false (Direct w) are
            act.2.2.free act.0 refl act.2.2.next)
  payload_does key i rest [] [] are act = absurd act
  payload_does key i rest [] (s ∷ numbers) are act = absurd are
  payload_does key i rest (v ∷ temps) [] are act = absurd are
