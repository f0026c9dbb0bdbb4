-- A call of a function.
use Rattle.std.proofs.Common.{◌≡◌, ◌≢◌, ◌≤◌, ◌+◌, ℕ, zero, suc, Bool, true, false, Option, Some}
use Rattle.std.proofs.Common.{List, [], ◌∷◌, length, take, Contains, refl, subst, ap}
use Rattle.std.proofs.Common.{arith}
use Rattle.std.specs.Option.{option_map, option_map_or}
use Rattle.std.specs.List.{slice_get, slice_index_or}
use Rattle.std.proofs.lemmas.List.{length-map}
use Rattle.std.proofs.lemmas.Option.{get_or_from_slice_get}
use Rattle.sw_list.proofs.Members.{member_at}
use Rattle.sw_types.specs.declared.isolation.CallKind.{CallKind}
use Rattle.sw_graph.specs.declared.function.Function.{Function}
use Rattle.sw_graph.specs.declared.function.RegKind.{RegKind}
use Rattle.sw_graph.specs.declared.graph.Graph.{Graph}
use Rattle.sw_graph.specs.declared.instr.Instr.{Instr}
use Rattle.sw_graph.specs.declared.instr.Instr.TheVariants as instr
use Rattle.sw_graph.specs.declared.instr.Operand.{Operand}
use Rattle.sw_graph.specs.Bodies.{is_own}
use Rattle.sw_graph.specs.Kinds.{Each, EachOf, Goes, kinds_of, taken}
use Rattle.sw_graph.specs.Points.{Middle}
use Rattle.sw_value.specs.declared.effect.Effect.TheVariants.{Enter}
use Rattle.sw_value.specs.declared.executor.Executor.{Executor}
use Rattle.sw_value.specs.declared.frame.Frame.{Frame}
use Rattle.sw_value.specs.declared.job.Job.{Job}
use Rattle.sw_value.specs.declared.state.State.{State}
use Rattle.sw_value.specs.declared.value.Value.{Value}
use Rattle.sw_value.specs.Call.{crosses, pushed_frame}
use Rattle.sw_value.specs.Effect.{point_effect}
use Rattle.sw_value.specs.Value.{registers, values_at}
use Rattle.sw_partition.specs.Regions.{Regions}
use Rattle.sw_region_ops.specs.Elements.{elements_of}
use Rattle.sw_machine_kind_facts.proofs.OperandLemmas.{function_fits}
use Rattle.sw_owner_facts.specs.Colours.{Colour}
use Rattle.sw_owner_facts.specs.View.{Element, Register, Frame as Spot}
use Rattle.sw_region_facts.specs.Calling.{Calls, CallsFunction, IsArgument, lent_of, sent_of}
use Rattle.sw_region_facts.proofs.Passed.{argument_in, places_differ}
use Rattle.sw_reach_facts.specs.Reached.{colours_of}
use Rattle.sw_color_rules.specs.Plans.{sending_of}
use Rattle.sw_view_facts.specs.Changes.{HoldsIn}
use Rattle.sw_view_facts.specs.Standing.{StandsAt}
use Rattle.sw_view_facts.specs.Views.{Colours, here_at}
use Rattle.sw_store_facts.proofs.Getting.{no_maker}
use Rattle.sw_store_facts.proofs.Stepping as step
use Rattle.sw_secure_facts.specs.Painting.{called_on, passed}
use Rattle.sw_secure_facts.specs.Secure.{AreNumberedBelow, IsSecure}
use Rattle.sw_store_facts.proofs.Standing.{instr_at}
use Rattle.sw_secure_call_facts.proofs.Caller.{count_of, holds_value}
use Rattle.sw_store_facts.proofs.Gathering.{one_region_before}
use Rattle.sw_secure_call_facts.proofs.Caller.{operand_of, tracked_at}
use Rattle.sw_secure_call_facts.proofs.Passed.{of_passed}
use Rattle.sw_secure_call_facts.proofs.Setup.{Setup}

pub each_count : (May : Option RegKind → Option RegKind → Type 0) (froms : List (Option RegKind))
    (tos : List RegKind) → Each May froms tos → length froms ≡ length tos
each_count May [] [] each = refl
each_count May (from ∷ froms) (to ∷ tos) each = ap suc (each_count May froms tos each.1)
each_count May [] (to ∷ tos) each = absurd each
each_count May (from ∷ froms) [] each = absurd each

pub take_count : {A : Type 0} (n : ℕ) (xs : List A) → length (take n xs) ≤ n
take_count zero xs = omega arith
take_count (suc n) [] = omega arith
take_count (suc n) (x ∷ xs) = let few = take_count n xs in omega (arith, few)

module _ (graph : Graph) (states : ℕ → List (Option Regions)) (state : State) (colours : Colours)
    (secure : IsSecure graph states state colours) (q : Spot) (number : ℕ)
    (numbered : AreNumberedBelow number colours) (job : Job) (f : Frame) (function : Function)
    (at dst : ℕ) (kind : CallKind) (body : ℕ) (args : List Operand)
    (x : StandsAt graph state q job f function (Middle (instr.Call at dst kind body args)))
    (callee : Function) (is : slice_get graph.functions body ≡ Some callee)
    (values : List Value) (are : values_at f.regs args ≡ Some values) (executor : Executor)
    (gives : point_effect graph state (length job.frames) f
    (Middle (instr.Call at dst kind body args))
    ≡ Enter (pushed_frame body dst (crosses kind) (registers (length callee.regs) values) executor)
    (f.point + 1)) where
  abbrev here : Instr
  here = instr.Call at dst kind body args

  abbrev t : Frame
  t = pushed_frame body dst (crosses kind) (registers (length callee.regs) values) executor

  abbrev elements : List (Option ℕ)
  elements = elements_of graph.shapes function.regs

  abbrev sent : List Element
  sent = sent_of elements callee.sending args

  abbrev lent : List Element
  lent = lent_of elements callee.sending args

  abbrev row : step.Row graph states state colours secure.coloured q job f function here x
  row = step.row graph states state colours secure.coloured q job f function here x

  pub moves : Calls elements kind callee.sends dst sent lent row.a row.c
  moves = subst (λ o. CallsFunction elements kind dst args o row.a row.c) is row.moves

  abbrev shows : Value → List Colour
  shows v = colours_of state.cells colours.cells v

  -- a value that reaches a colour is that of a tracked argument
  record FromArgument (wanted : Bool) (k : ℕ) (d : Colour) : Type 0 where
    element : Element
    argument : IsArgument elements callee.sending wanted args k element
    holds : HoldsIn state colours f (here_at colours q) element d

  from_argument : (wanted : Bool) (k : ℕ) (v : Value) (d : Colour) → slice_get values k ≡ Some v
      → slice_index_or callee.sending k false ≡ wanted → Contains (shows v) d
      → FromArgument wanted k d
  from_argument wanted k v d given sends has =
      let o = operand_of f.regs args values k v are given in
      let tracked = tracked_at graph states state colours secure q job f function here x
      o.operand.reg v d o.has has in
      record {
        element = Register o.operand.reg;
        argument = record {
          operand = o.operand;
          at = o.at;
          is_wanted = sends;
          number = tracked.0;
          tracked = tracked.1;
          is = refl;
        };
        holds = holds_value graph states state colours secure q job f function here x
            o.operand.reg v d o.has has;
      }

  pub lent_holds : (d : Colour) → Contains (passed state colours (sending_of graph body) t.regs) d
      → (y : Element) × Contains lent y × HoldsIn state colours f (here_at colours q) y d
  lent_holds d has =
      let from = of_passed state colours callee.sending (length callee.regs) values d
      (subst (λ l. Contains (passed state colours l t.regs) d)
      (ap (λ o. option_map_or (λ (g : Function). g.sending) o []) is) has) in
      let argument = from_argument false from.index from.value d from.at from.keeps from.has in (
        argument.element,
        argument_in elements callee.sending false args from.index argument.element
            argument.argument,
        argument.holds,
      )

  -- it is given away
  gone : (k : ℕ) → slice_get callee.sending k ≡ Some true
      → slice_index_or callee.sending k false ≡ true
  gone k sends = get_or_from_slice_get callee.sending k true false sends

  pub sent_holds : (k : ℕ) (v : Value) (d : Colour) → slice_get values k ≡ Some v
      → slice_get callee.sending k ≡ Some true → Contains (shows v) d
      → (y : Element) × Contains sent y × HoldsIn state colours f (here_at colours q) y d
  sent_holds k v d given sends has =
      let argument = from_argument true k v d given (gone k sends) has in (
        argument.element,
        argument_in elements callee.sending true args k argument.element argument.argument,
        argument.holds,
      )

  pub sent_apart : (k l : ℕ) (v w : Value) (d : Colour) → k ≢ l → slice_get values k ≡ Some v
      → slice_get callee.sending k ≡ Some true → slice_get values l ≡ Some w
      → slice_get callee.sending l ≡ Some true → Contains (shows v) d → Contains (shows w) d → ⊥
  sent_apart k l v w d differ given sends given_too sends_too has has_too =
      let one = from_argument true k v d given (gone k sends) has in
      let two = from_argument true l w d given_too (gone l sends_too) has_too in
      let places = places_differ elements callee.sending true args k l one.element two.element
      one.argument two.argument differ in
      moves.gives.apart places.0 places.1 one.element two.element places.2 places.3 places.4
      (one_region_before graph states state colours secure.coloured q job f function here x
      one.element two.element d
      (moves.gives.sends.sent one.element (member_at sent places.0 one.element places.2)).used
      (moves.gives.sends.sent two.element (member_at sent places.1 two.element places.3)).used
      one.holds two.holds)

  pub few : length values ≤ length callee.sending
  few =
      let each = subst (λ o. EachOf Goes (kinds_of function.regs args) (option_map taken o)) is
      (instr_at graph states state colours secure.coloured q job f function here x).kinds.0 in
      let count = each_count Goes (kinds_of function.regs args) (taken callee) each in
      let operands = length-map args (λ (o : Operand). slice_get function.regs o.reg) in
      let many = count_of f.regs args values are in
      let takes = take_count callee.takes callee.regs in
      let sends = (function_fits graph body callee is).sending in
      omega (arith, count, operands, many, takes, sends)

  abbrev pub setup : Setup
  setup = record {
    graph = graph;
    states = states;
    state = state;
    colours = colours;
    secure = secure;
    q = q;
    number = number;
    numbered = numbered;
    job = job;
    f = f;
    function = function;
    instr = here;
    x = x;
    t = t;
    gives = gives;
    ordinary = no_maker (is_own function.iso);
    callee = callee;
    is = is;
    values = values;
    regs = refl;
    begins = refl;
    few = few;
    kind = kind;
    sends = callee.sends;
    sends_too = λ sends. sends;
    sets = refl;
    sent = sent;
    lent = lent;
    a = row.a;
    at = row.at;
    c = row.c;
    behind = row.behind;
    moves = moves;
    called = [];
    lent_holds = lent_holds;
    sent_holds = sent_holds;
    sent_apart = sent_apart;
    on = called_on (Middle here) t;
  }
