-- Calls of functions, by their kinds.
use Rattle.std.proofs.Common.{◌≡◌, ◌+◌, ℕ, Bool, true, false, cond, ◌||◌, Option, Some, None}
use Rattle.std.proofs.Common.{List, [], length, refl, sym, subst, ap, ◌∙◌, IsTrue, is_some, inl}
use Rattle.std.specs.Option.{option_and_then, option_map}
use Rattle.std.specs.List.{slice_get}
use Rattle.sw_list.proofs.ListLemmas.{some_injective}
use Rattle.sw_types.specs.declared.isolation.CallKind.{CallKind}
use Rattle.sw_types.specs.declared.isolation.CallKind.TheVariants.{Plain, Same, Weak, Strong, Make}
use Rattle.sw_types.specs.declared.isolation.Iso.{Iso}
use Rattle.sw_types.specs.declared.isolation.Iso.TheVariants as iso
use Rattle.sw_graph.specs.declared.function.Function.{Function}
use Rattle.sw_graph.specs.declared.graph.Graph.{Graph}
use Rattle.sw_graph.specs.declared.instr.Instr.TheVariants as instr
use Rattle.sw_graph.specs.declared.instr.Operand.{Operand}
use Rattle.sw_graph.specs.Bodies.{is_actor_initialiser}
use Rattle.sw_graph.specs.Clean.{is_untracked}
use Rattle.sw_graph.specs.Placed.{HasCallKind}
use Rattle.sw_graph.specs.Points.{Point, Middle}
use Rattle.sw_value.specs.declared.effect.Effect.TheVariants.{Enter}
use Rattle.sw_value.specs.declared.executor.Executor.{Executor}
use Rattle.sw_value.specs.declared.executor.Executor.TheVariants as executor
use Rattle.sw_value.specs.declared.frame.Frame.{Frame}
use Rattle.sw_value.specs.declared.job.Job.{Job}
use Rattle.sw_value.specs.declared.state.State.{State}
use Rattle.sw_value.specs.declared.value.Value.{Value}
use Rattle.sw_value.specs.Call.{call_executor, crosses, pushed_frame}
use Rattle.sw_value.specs.Effect.{point_effect}
use Rattle.sw_value.specs.Executor.{executor_of}
use Rattle.sw_value.specs.Value.{reference_of, registers, value_at, values_at}
use Rattle.sw_partition.specs.Regions.{Regions}
use Rattle.sw_region_ops.specs.Elements.{element_at, elements_of}
use Rattle.sw_machine_kind_facts.proofs.BeginLemmas.{register_is}
use Rattle.sw_owner_facts.specs.Colours.{Actor as Owner, GlobalActor, Instance, On}
use Rattle.sw_owner_facts.specs.View.{IsolatedTo, MakesActor, Nonisolated}
use Rattle.sw_owner_facts.specs.View.{Frame as Spot}
use Rattle.sw_view_facts.specs.Standing.{StandsAt}
use Rattle.sw_view_facts.specs.Views.{Colours, here_at, isolation_by, isolation_in, on_actor}
use Rattle.sw_view_facts.specs.Views.{result_in, stands_on}
use Rattle.sw_owner_facts.specs.Colours.{OfActor}
use Rattle.sw_secure_facts.specs.Executing.{MayJoin, StaysSecure}
use Rattle.sw_secure_facts.specs.Painting.{Unites, actor_on}
use Rattle.sw_secure_facts.specs.Painting.{joined_by_call}
use Rattle.sw_secure_facts.specs.Secure.{AreNumberedBelow, IsSecure}
use Rattle.sw_secure_call_facts.proofs.Actors.{make_sound, same_sound, strong_sound}
use Rattle.sw_secure_call_facts.proofs.After.{all_lent, with_begun}
use Rattle.sw_secure_call_facts.proofs.Caller.{value_of_first}
use Rattle.sw_secure_call_facts.proofs.Direct.{setup}
use Rattle.sw_secure_call_facts.proofs.Finishing.{may_join_here, may_join_new, secure_after}
use Rattle.sw_secure_call_facts.proofs.Plain.{plain_sound, weak_sound}
use Rattle.sw_secure_call_facts.proofs.Pushing.{next}
use Rattle.sw_secure_call_facts.proofs.Setup.{Setup}
use Rattle.sw_secure_call_facts.proofs.Standing.{self_first, self_is, stands_isolated}
use Rattle.sw_secure_call_facts.proofs.Telling.{AreAlike, IsToActor, Tells, free_isolation, tells}
use Rattle.sw_reach_facts.proofs.ElementLemmas.{untracked_element}
use Rattle.sw_view_facts.proofs.IsolationLemmas.{global_isolation, isolated_by}

-- A call of a function, of this kind, in a secure state.
pub record DirectCall (kind : CallKind) : Type 0 where
  pub graph : Graph
  pub states : ℕ → List (Option Regions)
  pub state : State
  pub colours : Colours
  pub secure : IsSecure graph states state colours
  pub q : Spot
  pub number : ℕ
  pub numbered : AreNumberedBelow number colours
  pub job : Job
  pub f : Frame
  pub function : Function
  pub at : ℕ
  pub dst : ℕ
  pub body : ℕ
  pub args : List Operand
  pub x : StandsAt graph state q job f function (Middle (instr.Call at dst kind body args))
  pub callee : Function
  pub is : slice_get graph.functions body ≡ Some callee
  pub values : List Value
  pub are : values_at f.regs args ≡ Some values
  pub executor : Executor
  pub runs : call_executor kind f.executor callee.iso (registers (length callee.regs) values)
      ≡ Some executor
  pub gives : point_effect graph state (length job.frames) f
      (Middle (instr.Call at dst kind body args))
      ≡ Enter (pushed_frame body dst (crosses kind) (registers (length callee.regs) values)
      executor)
      (f.point + 1)

abbrev pub set : (kind : CallKind) → DirectCall kind → Setup
set kind c = setup c.graph c.states c.state c.colours c.secure c.q c.number c.numbered c.job c.f
    c.function c.at c.dst kind c.body c.args c.x c.callee c.is c.values c.are c.executor c.gives

abbrev regs_of : (kind : CallKind) → DirectCall kind → List (Option Value)
regs_of kind c = registers (length c.callee.regs) c.values

placed : (kind : CallKind) (c : DirectCall kind) → HasCallKind c.function c.callee c.args kind
placed kind c = c.secure.coloured.clean.placed.calls c.f.function c.function c.x.is c.f.point
    (instr.Call c.at c.dst kind c.body c.args) c.x.here c.callee c.is

tells_of : (kind : CallKind) (c : DirectCall kind)
    → Tells kind (is_actor_initialiser c.callee) c.callee.iso c.function.iso
tells_of kind c =
    let p = placed kind c in
    subst (λ k. Tells k (is_actor_initialiser c.callee) c.callee.iso c.function.iso) (sym p.given)
    (tells (is_actor_initialiser c.callee) c.callee.is_async p.on_self c.callee.iso c.function.iso)

-- ---- callees that are isolated to nothing
plain_secure : (c : DirectCall Plain) (after : Colours)
    → Unites c.q.job (all_lent (set Plain c)) (with_begun (set Plain c)) after
    → IsSecure c.graph c.states (next (set Plain c)) after
plain_secure c after unites =
    let t = tells_of Plain c in
    secure_after (set Plain c) (all_lent (set Plain c)) after unites
    (plain_sound (set Plain c) after unites refl refl refl (sym (some_injective c.runs)) t.0
    (λ a is. absurd (not_free a (sym (free_isolation c.callee.iso (regs_of Plain c) t.1) ∙ is))))
  where
    not_free : (a : Owner) → Nonisolated ≡ IsolatedTo a → ⊥
    not_free a is = cc

weak_secure : (c : DirectCall Weak) (after : Colours)
    → Unites c.q.job (all_lent (set Weak c)) (with_begun (set Weak c)) after
    → IsSecure c.graph c.states (next (set Weak c)) after
weak_secure c after unites =
    let t = tells_of Weak c in
    secure_after (set Weak c) (all_lent (set Weak c)) after unites
    (weak_sound (set Weak c) after unites refl refl refl (sym (some_injective c.runs))
    (isolated_by c.callee (regs_of Weak c) iso.Free t.0 t.1))

-- ---- an actor's initialiser
make_secure : (c : DirectCall Make) (after : Colours)
    → Unites c.q.job (all_lent (set Make c)) (with_begun (set Make c)) after
    → IsSecure c.graph c.states (next (set Make c)) after
make_secure c after unites =
    secure_after (set Make c) (all_lent (set Make c)) after unites
    (make_sound (set Make c) after unites refl refl refl (sym (some_injective c.runs))
    (ap (λ b. cond b MakesActor (isolation_by c.callee.iso (regs_of Make c))) (tells_of Make c)))

-- ---- a callee of the caller's isolation
record IsSame (c : DirectCall Same) : Type 0 where
  owner : Owner
  on : actor_on c.f.executor ≡ Some owner
  here : here_at c.colours c.q ≡ OfActor owner
  isolation : isolation_in c.callee (regs_of Same c) ≡ IsolatedTo owner

is_same : (c : DirectCall Same) → IsSame c
is_same c = by c.callee.iso c.function.iso refl refl (tells_of Same c).1 where
  makes : is_actor_initialiser c.callee ≡ false
  makes = (tells_of Same c).0

  own : c.callee.iso ≡ iso.Own → IsSame c
  own called =
      let self = self_first c.function c.args ((placed Same c).within refl called) in
      let v = value_of_first c.f.regs c.args c.values self.0 c.are self.1 in
      let actor = self_is c.graph c.states c.state c.colours c.secure c.q c.job c.f c.function
      (instr.Call c.at c.dst Same c.body c.args) c.x self.2 v.0
      (ap (value_at c.f.regs) (sym self.3) ∙ v.2) in
      let same : actor.value ≡ v.0 = some_injective
      (sym actor.at ∙ ap (value_at c.f.regs) (sym self.3) ∙ v.2) in
      record {
        owner = Instance actor.cell;
        on = actor.on.executor;
        here = actor.on.here;
        isolation = isolated_by c.callee (regs_of Same c) iso.Own makes called
            ∙ ap (λ o. on_actor (option_and_then reference_of o))
            (register_is (length c.callee.regs) c.values 0 ∙ v.1)
            ∙ ap on_actor (ap reference_of (sym same) ∙ actor.refers);
      }

  global : (g h : ℕ) → c.callee.iso ≡ iso.Global g → c.function.iso ≡ iso.Global h → g ≡ h
      → IsSame c
  global g h called caller same =
      let on = stands_isolated c.graph c.states c.state c.colours c.secure c.q c.job c.f c.function
      (instr.Call c.at c.dst Same c.body c.args) c.x (GlobalActor g)
      (global_isolation c.function c.f.regs g (caller ∙ ap iso.Global (sym same))) in
      record {
        owner = GlobalActor g;
        on = on.executor;
        here = on.here;
        isolation = isolated_by c.callee (regs_of Same c) (iso.Global g) makes called;
      }

  by : (ci bi : Iso) → c.callee.iso ≡ ci → c.function.iso ≡ bi → AreAlike ci bi → IsSame c
  by iso.Own iso.Own called caller alike = own called
  by (iso.Global g) (iso.Global h) called caller alike = global g h called caller alike
  by iso.Own iso.Free called caller alike = absurd alike
  by iso.Own iso.Caller called caller alike = absurd alike
  by iso.Own (iso.Global h) called caller alike = absurd alike
  by (iso.Global g) iso.Free called caller alike = absurd alike
  by (iso.Global g) iso.Own called caller alike = absurd alike
  by (iso.Global g) iso.Caller called caller alike = absurd alike
  by iso.Free bi called caller alike = absurd alike
  by iso.Caller bi called caller alike = absurd alike

same_on : (c : DirectCall Same) → actor_on c.executor ≡ Some (is_same c).owner
same_on c = ap actor_on (sym (some_injective c.runs)) ∙ (is_same c).on

same_secure : (c : DirectCall Same) (after : Colours)
    → Unites c.q.job (all_lent (set Same c)) (with_begun (set Same c)) after
    → IsSecure c.graph c.states (next (set Same c)) after
same_secure c after unites =
    secure_after (set Same c) (all_lent (set Same c)) after unites
    (same_sound (set Same c) after unites (is_same c).owner (same_on c) refl refl
    (sym (some_injective c.runs)) (is_same c).isolation (is_same c).here)

-- ---- a callee on an actor, from elsewhere
record IsStrong (c : DirectCall Strong) : Type 0 where
  owner : Owner
  on : actor_on c.executor ≡ Some owner
  stands : stands_on c.executor ≡ On owner
  isolation : isolation_in c.callee (regs_of Strong c) ≡ IsolatedTo owner

is_strong : (c : DirectCall Strong) → IsStrong c
is_strong c = by c.callee.iso refl (tells_of Strong c).1 c.runs where
  makes : is_actor_initialiser c.callee ≡ false
  makes = (tells_of Strong c).0

  own : c.callee.iso ≡ iso.Own → (o : Option ℕ)
      → option_and_then reference_of (value_at (regs_of Strong c) 0) ≡ o
      → option_map executor.ActorOf o ≡ Some c.executor → IsStrong c
  own called None at runs = absurd (let no : ⊥ = cc in no)
  own called (Some cell) at runs =
      let is : executor.ActorOf cell ≡ c.executor = some_injective runs in
      record {
        owner = Instance cell;
        on = ap actor_on (sym is);
        stands = ap stands_on (sym is);
        isolation = isolated_by c.callee (regs_of Strong c) iso.Own makes called ∙ ap on_actor at;
      }

  by : (i : Iso) → c.callee.iso ≡ i → IsToActor i
      → executor_of c.callee.iso (regs_of Strong c) ≡ Some c.executor → IsStrong c
  by iso.Own called to runs = own called
      (option_and_then reference_of (value_at (regs_of Strong c) 0)) refl
      (ap (λ i. executor_of i (regs_of Strong c)) (sym called) ∙ runs)
  by (iso.Global g) called to runs =
      let is : executor.Global g ≡ c.executor = some_injective
      (ap (λ i. executor_of i (regs_of Strong c)) (sym called) ∙ runs) in
      record {
        owner = GlobalActor g;
        on = ap actor_on (sym is);
        stands = ap stands_on (sym is);
        isolation = isolated_by c.callee (regs_of Strong c) (iso.Global g) makes called;
      }
  by iso.Free called to runs = absurd to
  by iso.Caller called to runs = absurd to

-- its result is in no region of the caller's
strong_result : (c : DirectCall Strong)
    → result_in c.graph (Some c.function) (set Strong c).t c.callee ≡ None
strong_result c = by c.callee.sends refl (c.secure.coloured.clean.calls c.f.function c.function
    c.x.is
    c.f.point (instr.Call c.at c.dst Strong c.body c.args) c.x.here refl c.callee c.is) where
      by : (b : Bool) → c.callee.sends ≡ b
          → IsTrue (c.callee.sends || is_untracked c.graph (slice_get c.function.regs c.dst))
          → cond c.callee.sends None (option_map (λ (_ : ℕ). c.dst)
          (element_at (elements_of c.graph.shapes c.function.regs) c.dst)) ≡ None
      by true sends clean = ap (λ b. cond b None (option_map (λ (_ : ℕ). c.dst)
          (element_at (elements_of c.graph.shapes c.function.regs) c.dst))) sends
      by false sends clean = ap (λ b. cond b None (option_map (λ (_ : ℕ). c.dst)
          (element_at (elements_of c.graph.shapes c.function.regs) c.dst))) sends
          ∙ ap (option_map (λ (_ : ℕ). c.dst)) (untracked_element c.graph c.function.regs c.dst
          (ap (λ b. b || is_untracked c.graph (slice_get c.function.regs c.dst)) (sym sends) ∙
          clean))

joined_strong : (c : DirectCall Strong) → joined_by_call c.graph c.state c.colours c.q c.number c.f
    (Middle (instr.Call c.at c.dst Strong c.body c.args)) (set Strong c).t ≡ []
joined_strong c = ap (λ (o : Option Owner). cond (is_some o) [] (all_lent (set Strong c)))
    (is_strong c).on

strong_secure : (c : DirectCall Strong) (after : Colours)
    → Unites c.q.job [] (with_begun (set Strong c)) after
    → IsSecure c.graph c.states (next (set Strong c)) after
strong_secure c after unites =
    secure_after (set Strong c) [] after unites
    (strong_sound (set Strong c) after unites refl (is_strong c).owner (is_strong c).on refl
    (is_strong c).stands (is_strong c).isolation (strong_result c))

-- ---- each kind
abbrev pub point_of : (kind : CallKind) → DirectCall kind → Point
point_of kind c = Middle (instr.Call c.at c.dst kind c.body c.args)

pub function_stays : (kind : CallKind) (c : DirectCall kind)
    → StaysSecure c.graph c.states c.state c.colours c.q c.number c.f (point_of kind c)
    (Enter (set kind c).t (c.f.point + 1))
function_stays Plain c after paints = plain_secure c after paints
function_stays Same c after paints = same_secure c after paints
function_stays Weak c after paints = weak_secure c after paints
function_stays Strong c after paints = strong_secure c after
    (subst (λ l. Unites c.q.job l (with_begun (set Strong c)) after) (joined_strong c) paints)
function_stays Make c after paints = make_secure c after paints

pub function_joins : (kind : CallKind) (c : DirectCall kind)
    → MayJoin c.graph c.state c.colours c.q c.number c.f (point_of kind c)
    (Enter (set kind c).t (c.f.point + 1))
function_joins Plain c = may_join_new (set Plain c) refl
function_joins Same c = may_join_here (set Same c) (is_same c).owner (same_on c) (is_same c).here
function_joins Weak c = may_join_new (set Weak c) refl
function_joins Strong c = inl (joined_strong c)
function_joins Make c = may_join_new (set Make c) refl
