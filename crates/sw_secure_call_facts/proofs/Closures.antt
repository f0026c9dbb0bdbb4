-- Calls of closures.
use Rattle.std.proofs.Common.{◌≡◌, ◌+◌, ◌-◌, ◌++◌, ℕ, zero, suc, Bool, true, false, Option, Some}
use Rattle.std.proofs.Common.{None}
use Rattle.std.proofs.Common.{List, [], ◌∷◌, length, Contains, refl, sym, subst, ap, ◌∙◌, inl, inr}
use Rattle.std.specs.Option.{option_and_then, option_map_or}
use Rattle.std.specs.List.{slice_get}
use Rattle.std.proofs.lemmas.Bool.{cases_lt}
use Rattle.std.proofs.lemmas.List.Elements.{Contains-append_cases, Contains-append_left}
use Rattle.std.proofs.lemmas.List.Elements.{Contains-append_right}
use Rattle.sw_list.proofs.ListLemmas.{some_injective, slice_get_first, slice_get_second}
use Rattle.sw_list.proofs.Members.{first_in, member_at}
use Rattle.sw_types.specs.declared.isolation.CallKind.TheVariants.{Plain}
use Rattle.sw_types.specs.declared.isolation.Iso.{Iso}
use Rattle.sw_types.specs.declared.isolation.Iso.TheVariants as iso
use Rattle.sw_graph.specs.declared.function.Function.{Function}
use Rattle.sw_graph.specs.declared.graph.Graph.{Graph}
use Rattle.sw_graph.specs.declared.instr.Instr.{Instr}
use Rattle.sw_graph.specs.declared.instr.Instr.TheVariants as instr
use Rattle.sw_graph.specs.declared.instr.Operand.{Operand}
use Rattle.sw_graph.specs.Bodies.{is_own}
use Rattle.sw_graph.specs.Points.{Middle}
use Rattle.sw_value.specs.declared.cell.HeapCell.TheVariants as cell
use Rattle.sw_value.specs.declared.effect.Effect.TheVariants.{Enter}
use Rattle.sw_value.specs.declared.frame.Frame.{Frame}
use Rattle.sw_value.specs.declared.job.Job.{Job}
use Rattle.sw_value.specs.declared.state.State.{State}
use Rattle.sw_value.specs.declared.value.Value.{Value}
use Rattle.sw_value.specs.Call.{pushed_frame}
use Rattle.sw_value.specs.Effect.{point_effect}
use Rattle.sw_value.specs.Value.{reference_of, registers, value_at, values_at}
use Rattle.sw_partition.specs.Regions.{Regions}
use Rattle.sw_region_ops.specs.Elements.{element_at, elements_of}
use Rattle.sw_machine_kind_facts.proofs.BeginLemmas.{register_is}
use Rattle.sw_owner_facts.specs.Colours.{Actor as Owner, Colour, GlobalActor, Instance, OfActor}
use Rattle.sw_owner_facts.specs.View.{Element, IsolatedTo, Register, Frame as Spot}
use Rattle.sw_region_facts.specs.Moves.{if_tracked, tracked}
use Rattle.sw_reach_facts.specs.Reached.{colours_of}
use Rattle.sw_color_rules.specs.Plans.{sending_of}
use Rattle.sw_view_facts.specs.Changes.{HoldsIn}
use Rattle.sw_view_facts.specs.Standing.{StandsAt}
use Rattle.sw_view_facts.specs.Views.{Colours, colours_by, here_at, isolation_by, on_actor}
use Rattle.sw_store_facts.proofs.Getting.{no_maker}
use Rattle.sw_store_facts.proofs.Stepping as step
use Rattle.sw_secure_facts.specs.Executing.{MayJoin, StaysSecure}
use Rattle.sw_secure_facts.specs.Painting.{passed}
use Rattle.sw_secure_facts.specs.Secure.{AreNumberedBelow, IsSecure}
use Rattle.sw_secure_call_facts.proofs.After.{all_lent}
use Rattle.sw_secure_call_facts.proofs.Caller.{holds_value, operand_of, tracked_at}
use Rattle.sw_secure_call_facts.proofs.Closed.{captures_within, few_values, global_reached}
use Rattle.sw_secure_call_facts.proofs.Closed.{never_sends, runs_apart, self_reached}
use Rattle.sw_secure_call_facts.proofs.Finishing.{may_join_new, secure_after}
use Rattle.sw_secure_call_facts.proofs.Passed.{of_passed}
use Rattle.sw_secure_call_facts.proofs.Plain.{plain_sound}
use Rattle.sw_secure_call_facts.proofs.Setup.{Setup}

-- a tracked operand is among the tracked ones
in_tracked : (elements : List (Option ℕ)) (operands : List Operand) (k : ℕ) (o : Operand) (n : ℕ)
    → slice_get operands k ≡ Some o → element_at elements o.reg ≡ Some n
    → Contains (tracked elements operands) (Register o.reg)
in_tracked elements [] k o n at is = absurd (let no : ⊥ = cc in no)
in_tracked elements (a ∷ operands) zero o n at is =
    let same : a ≡ o = some_injective at in
    Contains-append_left (if_tracked (element_at elements a.reg) (Register a.reg ∷ []))
    (tracked elements operands) (Register o.reg)
    (subst (λ (b : Operand).
    Contains (if_tracked (element_at elements b.reg) (Register b.reg ∷ [])) (Register o.reg))
    (sym same)
    (subst (λ e. Contains (if_tracked e (Register o.reg ∷ [])) (Register o.reg)) (sym is)
    (first_in (Register o.reg) [])))
in_tracked elements (a ∷ operands) (suc k) o n at is =
    Contains-append_right (if_tracked (element_at elements a.reg) (Register a.reg ∷ []))
    (tracked elements operands) (Register o.reg) (in_tracked elements operands k o n at is)

pub sends_nothing : (b : Bool) → false ≡ true → b ≡ true
sends_nothing b clash = absurd (let no : ⊥ = cc in no)

module _ (graph : Graph) (states : ℕ → List (Option Regions)) (state : State) (colours : Colours)
    (secure : IsSecure graph states state colours) (q : Spot) (number : ℕ)
    (numbered : AreNumberedBelow number colours) (job : Job) (f : Frame) (function : Function)
    (at dst : ℕ) (o : Operand) (args : List Operand)
    (x : StandsAt graph state q job f function (Middle (instr.CallClosure at dst o args)))
    (value : Value) (has : value_at f.regs o.reg ≡ Some value) (named : ℕ)
    (refers : reference_of value ≡ Some named) (body : ℕ) (captures : List Value)
    (there : slice_get state.cells named ≡ Some (cell.Closure body captures))
    (callee : Function) (is : slice_get graph.functions body ≡ Some callee)
    (values : List Value) (are : values_at f.regs args ≡ Some values)
    (gives : point_effect graph state (length job.frames) f (Middle (instr.CallClosure at dst o
    args))
    ≡ Enter (pushed_frame body dst false (registers (length callee.regs) (captures ++ values))
    f.executor) (f.point + 1)) where
  abbrev here : Instr
  here = instr.CallClosure at dst o args

  abbrev t : Frame
  t = pushed_frame body dst false (registers (length callee.regs) (captures ++ values)) f.executor

  abbrev elements : List (Option ℕ)
  elements = elements_of graph.shapes function.regs

  abbrev lent : List Element
  lent = tracked elements (o ∷ args)

  abbrev called : List Colour
  called = colours_by state colours (Some f) o.reg

  abbrev row : step.Row graph states state colours secure.coloured q job f function here x
  row = step.row graph states state colours secure.coloured q job f function here x

  abbrev shows : Value → List Colour
  shows v = colours_of state.cells colours.cells v

  -- what an operand's value reaches, its register holds
  holds_operand : (k : ℕ) (a : Operand) (v : Value) (d : Colour) → slice_get (o ∷ args) k ≡ Some a
      → value_at f.regs a.reg ≡ Some v → Contains (shows v) d
      → (y : Element) × Contains lent y × HoldsIn state colours f (here_at colours q) y d
  holds_operand k a v d at_k v_is reached =
      let n = tracked_at graph states state colours secure q job f function here x a.reg v d v_is
      reached in (
        Register a.reg,
        in_tracked elements (o ∷ args) k a n.0 at_k n.1,
        holds_value graph states state colours secure q job f function here x a.reg v d v_is
            reached,
      )

  in_called : (d : Colour) → Contains (shows value) d → Contains called d
  in_called d reached =
      subst (λ v. Contains (option_map_or (colours_of state.cells colours.cells) v []) d) (sym has)
      reached

  of_called : (d : Colour) → Contains called d → Contains (shows value) d
  of_called d reached =
      subst (λ v. Contains (option_map_or (colours_of state.cells colours.cells) v []) d) has
      reached

  -- a value with which the frame begins was captured, or is that of an argument
  value_holds : (k : ℕ) (v : Value) (d : Colour) → slice_get (captures ++ values) k ≡ Some v
      → Contains (shows v) d
      → (y : Element) × Contains lent y × HoldsIn state colours f (here_at colours q) y d
  value_holds k v d v_at reached = elim (cases_lt k (length captures)) [
    | inl low ↦ holds_operand 0 o value d refl has
        (captures_within graph states state colours secure q job f function at dst o args x value
        has
        named refers body captures there callee is values are v d
        (member_at captures k v (sym (slice_get_first captures values k low) ∙ v_at)) reached)
    | inr high ↦
        let a = operand_of f.regs args values (k - length captures) v are
        (sym (slice_get_second captures values k high) ∙ v_at) in
        holds_operand (suc (k - length captures)) a.operand v d a.at a.has reached
  ]

  pub lent_holds : (d : Colour)
      → Contains (called ++ passed state colours (sending_of graph body) t.regs) d
      → (y : Element) × Contains lent y × HoldsIn state colours f (here_at colours q) y d
  lent_holds d given = elim (Contains-append_cases called
      (passed state colours (sending_of graph body) t.regs) d given) [
        | inl first ↦ holds_operand 0 o value d refl has (of_called d first)
        | inr second ↦
            let from = of_passed state colours (sending_of graph body) (length callee.regs)
            (captures ++ values) d second in
            value_holds from.index from.value d from.at from.has
      ]

  pub no_sending : (k : ℕ) → slice_get callee.sending k ≡ Some true → ⊥
  no_sending = never_sends graph states state colours secure q job f function at dst o args x value
      has named refers body captures there callee is values are

  abbrev pub setup : Setup
  setup = record {
    graph = graph;
    states = states;
    state = state;
    colours = colours;
    secure = secure;
    q = q;
    number = number;
    numbered = numbered;
    job = job;
    f = f;
    function = function;
    instr = here;
    x = x;
    t = t;
    gives = gives;
    ordinary = no_maker (is_own function.iso);
    callee = callee;
    is = is;
    values = captures ++ values;
    regs = refl;
    begins = refl;
    few = few_values graph states state colours secure q job f function at dst o args x value has
        named refers body captures there callee is values are;
    kind = Plain;
    sends = false;
    sends_too = sends_nothing callee.sends;
    sets = refl;
    sent = [];
    lent = lent;
    a = row.a;
    at = row.at;
    c = row.c;
    behind = row.behind;
    moves = row.moves;
    called = called;
    lent_holds = lent_holds;
    sent_holds = λ k v d v_at sends reached. absurd (no_sending k sends);
    sent_apart = λ k l v w d differ v_at sends w_at too reached also. no_sending k sends;
    on = None;
  }

  -- an isolated closure has its actor's colour
  isolated_reached : (a : Owner) (i : Iso) → callee.iso ≡ i
      → isolation_by i t.regs ≡ IsolatedTo a → Contains (shows value) (OfActor a)
  isolated_reached a iso.Free i_is isolated = absurd (let no : ⊥ = cc in no)
  isolated_reached a iso.Caller i_is isolated = absurd (let no : ⊥ = cc in no)
  isolated_reached a (iso.Global g) i_is isolated =
      let same : GlobalActor g ≡ a = cc in
      subst (λ b. Contains (shows value) (OfActor b)) same
      (global_reached graph states state colours secure q job f function at dst o args x value has
      named refers body captures there callee is values are g i_is)
  isolated_reached a iso.Own i_is isolated =
      let own = self_reached graph states state colours secure q job f function at dst o args x
      value
      has named refers body captures there callee is values are i_is in
      let first : slice_get (captures ++ values) 0 ≡ Some own.self = first_of captures own.first in
      let on : IsolatedTo (Instance own.actor) ≡ IsolatedTo a =
      sym (ap (λ v. on_actor (option_and_then reference_of v))
      (register_is (length callee.regs) (captures ++ values) 0 ∙ first) ∙ ap on_actor own.refers_to)
      ∙ isolated in
      let same : Instance own.actor ≡ a = cc in
      subst (λ b. Contains (shows value) (OfActor b)) same own.reached
    where
      first_of : (vs : List Value) {v : Value} → slice_get vs 0 ≡ Some v
          → slice_get (vs ++ values) 0 ≡ Some v
      first_of [] {v} none = absurd (let no : ⊥ = cc in no)
      first_of (w ∷ vs) {v} is = is

  pub closure_stays : StaysSecure graph states state colours q number f (Middle here)
      (Enter t (f.point + 1))
  closure_stays after paints =
      secure_after setup (all_lent setup) after paints
      (plain_sound setup after paints refl refl refl refl
      (runs_apart graph states state colours secure q job f function at dst o args x value has named
      refers body captures there callee is values are).actor
      (λ a isolated. Contains-append_left called
      (passed state colours (sending_of graph body) t.regs) (OfActor a)
      (in_called (OfActor a) (isolated_reached a callee.iso refl isolated))))

  pub closure_joins : MayJoin graph state colours q number f (Middle here) (Enter t (f.point + 1))
  closure_joins = may_join_new setup refl
