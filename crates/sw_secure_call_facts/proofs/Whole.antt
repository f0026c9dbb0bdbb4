-- A call, of a function or of a closure.
use Rattle.std.proofs.Common.{◌≡◌, ◌+◌, ◌++◌, ℕ, true, List, Option, length, sym, subst, ap, ◌∙◌}
use Rattle.sw_list.proofs.ListLemmas.{some_injective}
use Rattle.sw_types.specs.declared.isolation.CallKind.{CallKind}
use Rattle.sw_types.specs.declared.isolation.CallKind.TheVariants.{Plain}
use Rattle.sw_graph.specs.declared.function.Function.{Function}
use Rattle.sw_graph.specs.declared.graph.Graph.{Graph}
use Rattle.sw_graph.specs.declared.instr.Instr.TheVariants as instr
use Rattle.sw_graph.specs.declared.instr.Operand.{Operand}
use Rattle.sw_graph.specs.Points.{Point, Middle}
use Rattle.sw_value.specs.declared.effect.Effect.{Effect}
use Rattle.sw_value.specs.declared.effect.Effect.TheVariants as effect
use Rattle.sw_value.specs.declared.frame.Frame.{Frame}
use Rattle.sw_value.specs.declared.job.Job.{Job}
use Rattle.sw_value.specs.declared.state.State.{State}
use Rattle.sw_value.specs.Call.{crosses, pushed_frame}
use Rattle.sw_value.specs.Value.{registers}
use Rattle.sw_partition.specs.Regions.{Regions}
use Rattle.sw_owner_facts.specs.View.{Frame as Spot}
use Rattle.sw_view_facts.specs.Views.{Colours}
use Rattle.sw_secure_facts.specs.Executing.{Executing, MayJoin, StaysSecure, is_call}
use Rattle.sw_secure_call_facts.proofs.Closures.{closure_joins, closure_stays}
use Rattle.sw_secure_call_facts.proofs.Functions.{DirectCall, function_joins, function_stays}
use Rattle.sw_secure_call_facts.proofs.Inverting.{CallsAt, calls_at, closure, closure_called}
use Rattle.sw_secure_call_facts.proofs.Inverting.{function}
use Rattle.sw_secure_call_facts.proofs.Inverting.{function_called}

module _ (graph : Graph) (states : ℕ → List (Option Regions)) (state : State) (colours : Colours)
    (q : Spot) (number : ℕ) (job : Job) (f : Frame) (body : Function) where
  -- what is to be shown of a point with an effect
  pub record IsKept (point : Point) (e : Effect) : Type 0 where
    pub stays : StaysSecure graph states state colours q number f point e
    pub joins : MayJoin graph state colours q number f point e

  direct : (at dst : ℕ) (kind : CallKind) (called : ℕ) (args : List Operand) (t : Frame) (n : ℕ)
      → Executing graph states state colours q number job f body
      (Middle (instr.Call at dst kind called args)) (effect.Enter t n)
      → IsKept (Middle (instr.Call at dst kind called args)) (effect.Enter t n)
  direct at dst kind called args t n e =
      let found = function_called graph state (length job.frames) f at dst kind called args t n
      e.gives
      in
      let c : DirectCall kind = record {
        graph = graph;
        states = states;
        state = state;
        colours = colours;
        secure = e.secure;
        q = q;
        number = number;
        numbered = e.numbered;
        job = job;
        f = f;
        function = body;
        at = at;
        dst = dst;
        body = called;
        args = args;
        x = e.stands;
        callee = found.called.callee;
        is = found.called.is;
        values = found.values;
        are = found.are;
        executor = found.called.executor;
        runs = found.called.runs;
        gives = e.gives ∙ ap (λ g. effect.Enter g n) (sym found.called.frame)
            ∙ ap (effect.Enter (pushed_frame called dst (crosses kind)
            (registers (length found.called.callee.regs) found.values) found.called.executor))
            (sym found.next);
      } in
      subst (λ m. IsKept (Middle (instr.Call at dst kind called args)) (effect.Enter t m))
      found.next
      (subst (λ g. IsKept (Middle (instr.Call at dst kind called args))
      (effect.Enter g (f.point + 1))) found.called.frame
      (record { stays = function_stays kind c; joins = function_joins kind c }))

  closed : (at dst : ℕ) (o : Operand) (args : List Operand) (t : Frame) (n : ℕ)
      → Executing graph states state colours q number job f body
      (Middle (instr.CallClosure at dst o args)) (effect.Enter t n)
      → IsKept (Middle (instr.CallClosure at dst o args)) (effect.Enter t n)
  closed at dst o args t n e =
      let found = closure_called graph state (length job.frames) f at dst o args t n e.gives in
      let same = some_injective found.called.runs in
      let frame : pushed_frame found.body dst (crosses Plain)
      (registers (length found.called.callee.regs) (found.captures ++ found.values)) f.executor ≡ t
      =
      ap (pushed_frame found.body dst (crosses Plain)
      (registers (length found.called.callee.regs) (found.captures ++ found.values))) same
      ∙ found.called.frame in
      let gives = e.gives ∙ ap (λ g. effect.Enter g n) (sym frame)
      ∙ ap (effect.Enter (pushed_frame found.body dst (crosses Plain)
      (registers (length found.called.callee.regs) (found.captures ++ found.values)) f.executor))
      (sym found.next) in
      subst (λ m. IsKept (Middle (instr.CallClosure at dst o args)) (effect.Enter t m)) found.next
      (subst (λ g. IsKept (Middle (instr.CallClosure at dst o args))
      (effect.Enter g (f.point + 1))) frame
      (record {
        stays = closure_stays graph states state colours e.secure q number e.numbered job f body at
            dst o args e.stands found.value found.has found.number found.refers found.body
            found.captures found.at found.called.callee found.called.is found.values found.are
            gives;
        joins = closure_joins graph states state colours e.secure q number e.numbered job f body at
            dst o args e.stands found.value found.has found.number found.refers found.body
            found.captures found.at found.called.callee found.called.is found.values found.are
            gives;
      }))

  entered : (point : Point) (t : Frame) (n : ℕ) → CallsAt point
      → Executing graph states state colours q number job f body point (effect.Enter t n)
      → IsKept point (effect.Enter t n)
  entered point t n (function at dst kind called args p is) e =
      subst (λ p. IsKept p (effect.Enter t n)) (sym is) (direct at dst kind called args t n
      (subst (λ p. Executing graph states state colours q number job f body p (effect.Enter t n)) is
      e))
  entered point t n (closure at dst o args p is) e =
      subst (λ p. IsKept p (effect.Enter t n)) (sym is) (closed at dst o args t n
      (subst (λ p. Executing graph states state colours q number job f body p (effect.Enter t n)) is
      e))

  kept : (point : Point) (e : Effect)
      → Executing graph states state colours q number job f body point e → is_call e ≡ true
      → IsKept point e
  kept point (effect.Enter t n) e call = entered point t n
      (calls_at graph state (length job.frames) f point (ap is_call e.gives)) e
  kept point (effect.Set r v n) e call = absurd (let no : ⊥ = cc in no)
  kept point (effect.SetField r i v n) e call = absurd (let no : ⊥ = cc in no)
  kept point (effect.Print r line n) e call = absurd (let no : ⊥ = cc in no)
  kept point (effect.New r c m n) e call = absurd (let no : ⊥ = cc in no)
  kept point (effect.Write c slot v n) e call = absurd (let no : ⊥ = cc in no)
  kept point (effect.WriteGlobal g v n) e call = absurd (let no : ⊥ = cc in no)
  kept point (effect.Goto n) e call = absurd (let no : ⊥ = cc in no)
  kept point (effect.Spawn r t j c n) e call = absurd (let no : ⊥ = cc in no)
  kept point (effect.Wait on r n) e call = absurd (let no : ⊥ = cc in no)
  kept point (effect.Rest r n) e call = absurd (let no : ⊥ = cc in no)
  kept point (effect.Leave v) e call = absurd (let no : ⊥ = cc in no)
  kept point (effect.Halt k a) e call = absurd (let no : ⊥ = cc in no)
  kept point effect.Stuck e call = absurd (let no : ⊥ = cc in no)

  pub calls_stay : (point : Point) (e : Effect)
      → Executing graph states state colours q number job f body point e → is_call e ≡ true
      → StaysSecure graph states state colours q number f point e
  calls_stay point e x call = (kept point e x call).stays

  pub calls_join : (point : Point) (e : Effect)
      → Executing graph states state colours q number job f body point e → is_call e ≡ true
      → MayJoin graph state colours q number f point e
  calls_join point e x call = (kept point e x call).joins
