-- What is in a cell with parts that a body of its isolation accesses: it is of the actor that the
-- body is isolated to, or it may cross.
use Rattle.std.proofs.Common.{◌≡◌, ◌⊎◌, ◌==◌, ◌||◌, not, ℕ, Bool, true, false, Option, Some, None, List}
use Rattle.std.proofs.Common.{refl, sym, ap, ◌∙◌, inl, inr}
use Rattle.std.specs.Option.{is_some, option_and_then, option_map, option_map_or}
use Rattle.std.specs.List.{slice_get}
use Rattle.std.proofs.lemmas.Bool.{and_parts, eqb-true}
use Rattle.sw_list.proofs.ListLemmas.{at_index}
use Rattle.sw_types.specs.Sendable.{sends_at}
use Rattle.sw_types.specs.declared.shape.Shape.{Shape}
use Rattle.sw_types.specs.declared.shape.ShapeKind.{ShapeKind}
use Rattle.sw_types.specs.declared.shape.ShapeKind.TheVariants as sort
use Rattle.sw_graph.specs.declared.function.Function.{Function}
use Rattle.sw_graph.specs.declared.graph.Graph.{Graph}
use Rattle.sw_graph.specs.declared.instr.Operand.{Operand}
use Rattle.sw_graph.specs.Bodies.{has_self, is_on, is_self}
use Rattle.sw_graph.specs.Clean.{IsClean, conforms}
use Rattle.sw_graph.specs.Kinds.{is_actor, is_class}
use Rattle.sw_graph.specs.Placed.{ActorOfClass, is_inside_shape}
use Rattle.sw_value.specs.declared.cell.HeapCell.{HeapCell}
use Rattle.sw_value.specs.declared.cell.HeapCell.TheVariants as heap
use Rattle.sw_value.specs.declared.value.Value.{Value}
use Rattle.sw_value.specs.Value.{operand_value, reference_at, reference_of, value_at}
use Rattle.sw_owner_facts.specs.Colours.{Actor as Owner, GlobalActor, Instance}
use Rattle.sw_owner_facts.specs.View.{IsolatedTo}
use Rattle.sw_reach_facts.proofs.ClassLemmas.{sendable_class}
use Rattle.sw_view_facts.specs.Views.{isolation_in}
use Rattle.sw_view_facts.proofs.IsolationLemmas.{global_isolation, on_is, self_isolation}
use Rattle.sw_store_facts.proofs.Getting.{from_some}
use Rattle.sw_secure_facts.specs.Memory.{keeper}

no_class : (kind : ShapeKind) → is_actor kind ≡ true → kind ≡ sort.Class → ⊥
no_class kind is class = let clash : true ≡ false = sym is ∙ ap is_actor class in
    let z : ⊥ = cc in z

-- what follows, of tests
pub implied : (b c : Bool) → b ≡ true → (not b || c) ≡ true → c ≡ true
implied true c is either = either
implied false c is either = cc

module _ (graph : Graph) (clean : IsClean graph) (function : Function) (regs : List (Option Value))
    (o : Operand) (c : ℕ) (cell : HeapCell) (refers : reference_at regs o ≡ Some c) (k : ℕ)
    (vs : List Value) (shape : Shape) (at : slice_get graph.shapes k ≡ Some shape)
    (inside : is_inside_shape function o shape ≡ true) where
  -- the cell's contents are those of the actor to which the body is isolated
  pub record IsOfActor : Type 0 where
    pub owner : Owner
    pub keeps : keeper graph c cell ≡ Some owner
    pub isolated : isolation_in function regs ≡ IsolatedTo owner

  abbrev says : Option ℕ → Bool
  says actor = option_map_or (λ actor. is_on actor function.iso) actor
      (not (is_actor shape.kind) || is_self function o)

  of_class : cell ≡ heap.Object k vs → is_class shape.kind ≡ true
      → sends_at graph.shapes k ≡ true
      → IsOfActor ⊎ ((keeper graph c cell ≡ None) × (conforms graph shape ≡ true))
  of_class is class sends = by shape.actor refl inside where
    keeps : keeper graph c cell ≡ option_map GlobalActor shape.actor
    keeps = ap (keeper graph c) is
        ∙ ap (λ p. option_map GlobalActor (option_and_then (λ (t : Shape). t.actor) p)) at

    by : (actor : Option ℕ) → shape.actor ≡ actor → says actor ≡ true
        → IsOfActor ⊎ ((keeper graph c cell ≡ None) × (conforms graph shape ≡ true))
    by (Some actor) has on = inl (record {
      owner = GlobalActor actor;
      keeps = keeps ∙ ap (option_map GlobalActor) has;
      isolated = global_isolation function regs actor (on_is actor function.iso on);
    })
    by None has on = inr (
      keeps ∙ ap (option_map GlobalActor) has,
      sendable_class graph clean k shape at class sends has,
    )

  pub of_actor : cell ≡ heap.Actor k vs → is_actor shape.kind ≡ true → IsOfActor
  of_actor is sort = by shape.actor refl inside where
    by : (actor : Option ℕ) → shape.actor ≡ actor → says actor ≡ true → IsOfActor
    by (Some actor) has on = absurd (no_class shape.kind sort
        (at_index ActorOfClass graph.shapes k shape clean.placed.actors at (ap is_some has)))
    by None has on =
        let self = implied (is_actor shape.kind) (is_self function o) sort on in
        let both = and_parts (has_self function) (o.reg == 0) self in
        let v = from_some reference_of (operand_value regs o) c refers in
        record {
          owner = Instance c;
          keeps = ap (keeper graph c) is;
          isolated = self_isolation function regs v.0 c both.0
              (ap (value_at regs) (sym (eqb-true o.reg 0 both.1)) ∙ v.1) v.2;
        }

  pub belongs : ((cell ≡ heap.Object k vs) × (is_class shape.kind ≡ true))
      ⊎ ((cell ≡ heap.Actor k vs) × (is_actor shape.kind ≡ true))
      → (is_class shape.kind ≡ true → sends_at graph.shapes k ≡ true)
      → IsOfActor ⊎ ((keeper graph c cell ≡ None) × (conforms graph shape ≡ true))
  belongs (inl object) sends = of_class object.0 object.1 (sends object.1)
  belongs (inr actor) sends = inl (of_actor actor.0 actor.1)
