-- Where nothing is shared that may not be, the instructions of a graph keep to it.
use Rattle.std.proofs.Common.{◌≡◌, ℕ, Bool, true, false, not, ◌&&◌, ◌||◌, List, [], ◌∷◌, Option}
use Rattle.std.proofs.Common.{All, Some}
use Rattle.std.proofs.Common.{Contains, IsTrue, refl, sym, ap, subst, ◌∙◌, slice_get, true≢false}
use Rattle.std.proofs.lemmas.Bool.{and_from, not_from_false, true_from_ne_false}
use Rattle.std.proofs.lemmas.Option.{same_Some}
use Rattle.std.specs.List.{list_all}
use Rattle.std.specs.Option.{option_map_or}
use Rattle.std.specs.Prelude.{cond}
use Rattle.sw_types.specs.Accepts.{is_marked}
use Rattle.sw_types.specs.Sendable.{is_sendable}
use Rattle.sw_types.specs.declared.isolation.CallKind.{CallKind}
use Rattle.sw_types.specs.declared.isolation.CallKind.TheVariants.{Strong}
use Rattle.sw_types.specs.declared.isolation.Iso.TheVariants.{Free}
use Rattle.sw_types.specs.declared.shape.ShapeKind.{ShapeKind}
use Rattle.sw_types.specs.declared.ty.Ty.{Ty}
use Rattle.sw_graph.specs.Clean.{CallClean, ClosureClean, ReadClean, TaskClean, is_marked_kind}
use Rattle.sw_graph.specs.Clean.{is_untracked}
use Rattle.sw_graph.specs.Kinds.{is_cell, kinds_of, part, shape_of}
use Rattle.sw_graph.specs.Placed.{ActorOfClass, EachInstr, FunctionAt, is_inside}
use Rattle.sw_graph.specs.Placed.{is_inside_global}
use Rattle.sw_graph.specs.Placed.{is_var_global, is_var_part}
use Rattle.sw_graph.specs.declared.function.Function.{Function}
use Rattle.sw_graph.specs.declared.function.GlobalKind.{GlobalKind}
use Rattle.sw_graph.specs.declared.function.RegKind.{RegKind}
use Rattle.sw_graph.specs.declared.function.RegKind.TheVariants.{Plain}
use Rattle.sw_graph.specs.declared.graph.Graph.{Graph}
use Rattle.sw_graph.specs.declared.instr.Instr.{Instr}
use Rattle.sw_graph.specs.declared.instr.Instr.TheVariants.{Call, LoadGlobal, LoadProp}
use Rattle.sw_graph.specs.declared.instr.Instr.TheVariants.{NewClosure, NewTask, StoreGlobal}
use Rattle.sw_graph.specs.declared.instr.Operand.{Operand}
use Rattle.sw_typing_rules.specs.Statements.{marked_type}
use Rattle.sw_isolation_rules.specs.Kinds.{inherited, is_strong}
use Rattle.sw_isolation_rules.specs.Noting.{closure_iso}
use Rattle.sw_lower_code.specs.Whole.{Body}
use Rattle.sw_lower_rules.specs.Bodies.{made_instr}
use Rattle.sw_typing_facts.proofs.Lists.Listed.{in_first, in_rest}
use Rattle.sw_lower_placed_facts.specs.Allowed.{CallOk, ClosureOk, GlobalRead, IsAllowed, PartRead}
use Rattle.sw_lower_placed_facts.specs.Allowed.{SharesNone, TaskOk, global_storage, is_away, used_storage}
use Rattle.sw_lower_placed_facts.specs.Bodies.{ArePlaced}
use Rattle.sw_lower_placed_facts.specs.Hosts.{Program, Host}
use Rattle.sw_lower_placed_facts.proofs.Graphs.Accesses.{global_at, global_inside}
use Rattle.sw_lower_placed_facts.proofs.Graphs.Accesses.{global_variable, globals, part_holds}
use Rattle.sw_lower_placed_facts.proofs.Graphs.Accesses.{part_inside, part_variable, shapes}
use Rattle.sw_lower_placed_facts.proofs.Graphs.Closures.{closure_runs, task_runs}
use Rattle.sw_lower_placed_facts.proofs.Graphs.Functions.{InOrder}
use Rattle.sw_lower_placed_facts.proofs.Graphs.Initialisers.{made}
use Rattle.sw_lower_placed_facts.proofs.Graphs.Standing.{HostOf, at_points, made_either}

module _ (program : Program) (ordered : List Body) (is : InOrder program ordered)
    (placed : ArePlaced program) (actors : All ActorOfClass (shapes program))
    (shares : SharesNone program) (graph : Graph) (same_shapes : graph.shapes ≡ shapes program)
    (same_globals : graph.globals ≡ globals program)
    (functions : graph.functions ≡ program.functions) where
  -- A register is untracked where its type may cross.
  untracked_is : (kind : Option RegKind) (ty : Ty) → kind ≡ Some (Plain ty)
      → is_untracked graph kind ≡ is_sendable (shapes program) ty
  untracked_is kind ty is =
      ap (is_untracked graph) is ∙ ap (λ all. is_sendable all ty) same_shapes

  here : (f : ℕ) (function : Function) → slice_get graph.functions f ≡ Some function
      → slice_get program.functions f ≡ Some function
  here f function there = subst (λ all. slice_get all f ≡ Some function) functions there

  all_untracked : (regs : List RegKind) (cs : List Operand)
      → ((x : Operand) → Contains cs x → is_untracked graph (slice_get regs x.reg) ≡ true)
      → list_all (is_untracked graph) (kinds_of regs cs) ≡ true
  all_untracked regs [] each = refl
  all_untracked regs (x ∷ cs) each =
      and_from (is_untracked graph (slice_get regs x.reg)) _ (each x (in_first x cs))
      (all_untracked regs cs (λ y has. each y (in_rest x cs y has)))

  -- A closure that may be sent is isolated to no actor, and captures what may cross.
  closure_clean : (body : Function) (host : Host) (r f : ℕ) (cs : List Operand)
      → ClosureOk program host body.regs r f cs
      → IsTrue (is_marked_kind (slice_get body.regs r))
      → FunctionAt graph f (λ function. function.iso ≡ Free)
      × IsTrue (list_all (is_untracked graph) (kinds_of body.regs cs))
  unfolding closure_iso
  closure_clean body host r f cs ok holds =
      let marked : is_marked ok.ty ≡ true = sym (ap is_marked_kind ok.gives) ∙ holds in (
        λ function there.
            (closure_runs program ordered is placed ok.owner ok.closure ok.result f function ok.has
            ok.numbered (here f function there)).iso_is
            ∙ ok.noted.iso_is
            ∙ ap (λ found. cond (marked_type found) Free (inherited host.iso)) ok.typed
            ∙ ap (λ (mark : Bool). cond mark Free (inherited host.iso)) marked,
        all_untracked body.regs cs (λ x has.
            let (ty, held, sends) = ok.crosses shares marked x has in
            untracked_is (slice_get body.regs x.reg) ty held ∙ sends),
      )

  -- What a call into another isolation gives may cross.
  call_clean : (body : Function) (host : Host) (r : ℕ) (kind : CallKind) (f : ℕ)
      (ss : List Operand) → CallOk program host body.regs r kind f ss → kind ≡ Strong
      → FunctionAt graph f
      (λ callee. IsTrue (callee.sends || is_untracked graph (slice_get body.regs r)))
  call_clean body host r kind f ss ok strong callee there =
      let same : ok.header.function ≡ callee =
      same_Some ok.header.function callee (sym ok.header.at ∙ here f callee there) in
      ap (λ sends. sends || is_untracked graph (slice_get body.regs r))
      (sym (ap (λ (one : Function). one.sends) same) ∙ ok.header.sends_is)
      ∙ ap (λ untracked. ok.sends || untracked)
      (untracked_is (slice_get body.regs r) ok.result ok.gives)
      ∙ ok.crosses shares (ap is_strong strong)

  -- The result of a task may cross.
  task_clean : (body : Function) (host : Host) (f : ℕ) (cs : List Operand)
      → TaskOk program host body.regs f cs
      → FunctionAt graph f (λ function. is_sendable graph.shapes function.result ≡ true)
  task_clean body host f cs ok function there =
      ap (λ all. is_sendable all function.result) same_shapes
      ∙ ap (is_sendable (shapes program))
      (task_runs program ordered is placed ok.owner ok.closure ok.result f function ok.has
      ok.numbered (here f function there)).result_is
      ∙ ok.crosses shares

  module _ (body : Function) (host : Host) (of : HostOf body host) where
    -- A part of another isolation that is read is a `let` that may cross.
    part_clean : (o : Operand) (i : ℕ) → PartRead program host body.regs o i
        → is_inside graph.shapes body o ≡ false
        → (not (is_var_part graph.shapes body o i)
        && is_untracked graph (part (shape_of graph.shapes is_cell (slice_get body.regs o.reg)) i))
        ≡ true
    part_clean o i ok outside =
        let used = ok.used in
        let away : is_away host.iso (used_storage program host body.regs o i used) ≡ true =
        true_from_ne_false (is_away host.iso (used_storage program host body.regs o i used))
        (λ near. true≢false (sym (part_inside program actors body host of o i used near)
        ∙ ap (λ all. is_inside all body o) (sym same_shapes) ∙ outside)) in
        and_from (not (is_var_part graph.shapes body o i)) _
        (not_from_false (is_var_part graph.shapes body o i)
        (ap (λ all. is_var_part all body o i) same_shapes
        ∙ part_variable program actors body host of o i used ∙ ok.ok.constant away))
        (untracked_is (part (shape_of graph.shapes is_cell (slice_get body.regs o.reg)) i)
        used.part.ty
        (ap (λ all. part (shape_of all is_cell (slice_get body.regs o.reg)) i) same_shapes
        ∙ part_holds program actors body host of o i used) ∙ ok.ok.crosses shares away)

    global_clean : (g : ℕ) → GlobalRead program host body.regs g
        → is_inside_global graph.globals body g ≡ false
        → (not (is_var_global graph.globals g)
        && option_map_or (λ (one : GlobalKind). is_sendable graph.shapes one.ty)
        (slice_get graph.globals g) false) ≡ true
    global_clean g ok outside =
        let storage = global_storage program ok.global in
        let away : is_away host.iso storage ≡ true =
        true_from_ne_false (is_away host.iso storage) (λ near.
        true≢false (sym (global_inside program actors body host of g ok.global ok.is near)
        ∙ ap (λ all. is_inside_global all body g) (sym same_globals) ∙ outside)) in
        and_from (not (is_var_global graph.globals g)) _
        (not_from_false (is_var_global graph.globals g)
        (ap (λ all. is_var_global all g) same_globals
        ∙ global_variable program actors body host of g ok.global ok.is ∙ ok.ok.constant away))
        (ap (λ all. option_map_or (λ (one : GlobalKind). is_sendable graph.shapes one.ty)
        (slice_get all g) false) same_globals
        ∙ ap (λ found. option_map_or (λ (one : GlobalKind). is_sendable graph.shapes one.ty) found
        false) (global_at program g ok.global ok.is)
        ∙ ap (λ all. is_sendable all ok.global.ty) same_shapes ∙ ok.ok.crosses shares away)

  module _ (body : Function) (host : Host) (of : HostOf body host) where
    closure_allowed : (instr : Instr) → IsAllowed program host body.regs instr
        → ClosureClean graph body instr
    closure_allowed (NewClosure at r f cs) ok = closure_clean body host r f cs ok.uses
    closure_allowed _ ok = tt

    call_allowed : (instr : Instr) → IsAllowed program host body.regs instr
        → CallClean graph body instr
    call_allowed (Call at r kind f ss) ok = call_clean body host r kind f ss ok.uses
    call_allowed _ ok = tt

    task_allowed : (instr : Instr) → IsAllowed program host body.regs instr
        → TaskClean graph instr
    task_allowed (NewTask at r f cs) ok = task_clean body host f cs ok.uses
    task_allowed _ ok = tt

    read_allowed : (instr : Instr) → IsAllowed program host body.regs instr
        → ReadClean graph body instr
    read_allowed (LoadProp at r o i) ok = part_clean body host of o i ok.uses
    read_allowed (LoadGlobal at r g) ok = global_clean body host of g ok.uses
    read_allowed _ ok = tt

  -- What is so of each instruction that is allowed, of each that makes an object and of each that
  -- stores a first value is so of all.
  each_clean : (P : Function → Instr → Type 0)
      → ((body : Function) (host : Host) → HostOf body host → (instr : Instr)
      → IsAllowed program host body.regs instr → P body instr)
      → ((body : Function) (kind : ShapeKind) (key r k : ℕ) (operands : List Operand)
      → P body (made_instr kind key r k operands))
      → ((body : Function) (at g : ℕ) (s : Operand) → P body (StoreGlobal at g s))
      → EachInstr graph P
  each_clean P allowed makes gives n body there =
      at_points program ordered (λ n body instr. P body instr) (record {
        allowed = λ n body at host of block index instr ok.
            allowed (made program body) host of instr ok;
        makes = λ n body at one block index key r operands apart last.
            makes (made program body) one.shape.kind key r one.k operands;
        gives = λ n body at one block index key s. gives (made program body) key one.g s;
      }) is placed n body (here n body there)

  pub closures_are_clean : EachInstr graph (ClosureClean graph)
  closures_are_clean =
      each_clean (ClosureClean graph) closure_allowed
      (λ body kind key r k operands.
      made_either (ClosureClean graph body) kind key r k operands tt tt)
      (λ body at g s. tt)

  pub calls_are_clean : EachInstr graph (CallClean graph)
  calls_are_clean =
      each_clean (CallClean graph) call_allowed
      (λ body kind key r k operands. made_either (CallClean graph body) kind key r k operands tt tt)
      (λ body at g s. tt)

  pub tasks_are_clean : EachInstr graph (λ body. TaskClean graph)
  tasks_are_clean =
      each_clean (λ body. TaskClean graph) task_allowed
      (λ body kind key r k operands. made_either (TaskClean graph) kind key r k operands tt tt)
      (λ body at g s. tt)

  pub reads_are_clean : EachInstr graph (ReadClean graph)
  reads_are_clean =
      each_clean (ReadClean graph) read_allowed
      (λ body kind key r k operands. made_either (ReadClean graph body) kind key r k operands tt tt)
      (λ body at g s. tt)
