-- What the last instruction of a block asks of the state before it, and that it leaves it as it is.
use Rattle.std.proofs.Common.{◌≡◌, ℕ, Bool, true, false, List, [], ◌∷◌, Option, Some, None, refl}
use Rattle.std.proofs.Common.{subst, append-nil}
use Rattle.sw_graph.specs.declared.instr.Last.{Last}
use Rattle.sw_graph.specs.declared.instr.Last.TheVariants.{Jump, Branch, Switch, Return}
use Rattle.sw_graph.specs.declared.instr.Operand.{Operand}
use Rattle.sw_owner_facts.specs.View.{Here}
use Rattle.sw_partition.specs.Regions.{Regions}
use Rattle.sw_region_ops.specs.Groups.{need_each, free_each}
use Rattle.sw_region_ops.specs.Marks.{marks_of}
use Rattle.sw_region_ops.specs.Setting.{FunctionSetting}
use Rattle.sw_region_ops.specs.Table.{last_ops, return_ops}
use Rattle.sw_region_ops.specs.declared.op.TheConstants.{NOT_DISCONNECTED}
use Rattle.sw_region_facts.specs.FrameRegions.{HaveOwnNumbers, IsStateOf, IsWeaker}
use Rattle.sw_region_facts.specs.Moves.{tracked}
use Rattle.sw_region_facts.specs.Rows.{AreLive, MayReturn, LastAsks}
use Rattle.sw_region_facts.proofs.Doing.{Done, parts, freed}
use Rattle.sw_region_facts.proofs.Gathering.{uses_needed}
use Rattle.sw_region_facts.proofs.Marked.{tracked_marked, mark_of_element}
use Rattle.sw_region_facts.proofs.Numbers.{together_tells}

module _ (setting : FunctionSetting) (own : HaveOwnNumbers setting.elements) (a : Regions)
    (sized : IsStateOf setting.elements a) (b : Regions) where
  abbrev elements : List (Option ℕ)
  elements = setting.elements

  used : (operands : List Operand) (m : Regions)
      → Done (need_each (marks_of elements operands)) a m
      → (m ≡ a) × AreLive elements (tracked elements operands) a
  used operands m done =
      let uses = uses_needed elements own a sized (tracked elements operands)
      (marks_of elements operands) (tracked_marked elements operands) m done in
      (uses.0, uses.1.used)

  returns : (sends : Bool) (value : Operand)
      → Done (return_ops sends (marks_of elements (value ∷ []))) a b
      → (b ≡ a) × MayReturn elements sends (tracked elements (value ∷ [])) a
  returns false value done =
      let uses = used (value ∷ []) b (subst (λ l. Done l a b)
      (append-nil (need_each (marks_of elements (value ∷ [])))) done) in
      (uses.0, record { live = uses.1; free = λ is. absurd (let clash : ⊥ = cc in clash) })
  returns true value done =
      let xs = tracked elements (value ∷ []) in
      let marks = marks_of elements (value ∷ []) in
      let halves = parts (need_each marks) (free_each NOT_DISCONNECTED marks) a b done in
      let uses = used (value ∷ []) halves.between halves.before in
      let free = freed NOT_DISCONNECTED marks a b
      (subst (λ m. Done (free_each NOT_DISCONNECTED marks) m b) uses.0 halves.after) in (
        free.0,
        record {
          live = uses.1;
          free = λ is x has t.
              let mark = mark_of_element elements xs marks (tracked_marked elements (value ∷ [])) x has
              in
              (free.1 mark.0 mark.1).1
              (together_tells elements own a sized x Here mark.0.x 0 mark.2 refl t);
        },
      )

  pub last_asks : (last : Last) → Done (last_ops setting last) a b
      → (b ≡ a) × LastAsks setting last a
  last_asks (Jump to) done = (done.runs, tt)
  last_asks (Branch condition holds fails) done = (done.runs, tt)
  last_asks (Switch subject to) done = used (subject ∷ []) b done
  last_asks (Return None) done = (done.runs, tt)
  last_asks (Return (Some value)) done = returns setting.body.sends value done

-- the same from a state of which the operations change a copy
pub asks_behind : (setting : FunctionSetting) (a b : Regions) → IsWeaker setting.elements a b
    → (last : Last) → LastAsks setting last b → LastAsks setting last a
asks_behind setting a b before (Jump to) asks = tt
asks_behind setting a b before (Branch condition holds fails) asks = tt
asks_behind setting a b before (Switch subject to) asks = λ x has. before.live x (asks x has)
asks_behind setting a b before (Return None) asks = tt
asks_behind setting a b before (Return (Some value)) asks = record {
  live = λ x has. before.live x (asks.live x has);
  free = λ is x has t. asks.free is x has (before.together x Here t);
}
