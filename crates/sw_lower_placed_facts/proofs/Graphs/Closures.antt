-- The functions of closures and tasks stand in bodies of their isolation, and run apart.
use Rattle.std.proofs.Common.{◌≡◌, ◌≢◌, ℕ, Bool, true, false, List, [], ◌∷◌, ◌++◌, Option, Some}
use Rattle.std.proofs.Common.{Contains, All, IsTrue, map, refl, sym, ap, subst, ◌∙◌, slice_get}
use Rattle.std.proofs.lemmas.Bool.{eq-eqb}
use Rattle.std.proofs.lemmas.List.Elements.{All-cons, All-head, All-nil, All-tail}
use Rattle.std.specs.Prelude.{cond}
use Rattle.sw_types.specs.declared.isolation.Iso.{Iso}
use Rattle.sw_types.specs.declared.isolation.Iso.TheVariants as iso
use Rattle.sw_types.specs.declared.ty.Ty.{Ty}
use Rattle.sw_graph.specs.Bodies.{first_is_self, is_actor_initialiser, is_class_initialiser}
use Rattle.sw_graph.specs.Bodies.{is_on, is_own}
use Rattle.sw_graph.specs.Placed.{ApartPlaced, EachInstr, IsRunApart, MadeInside, TaskInside}
use Rattle.sw_graph.specs.declared.function.Function.{Function}
use Rattle.sw_graph.specs.declared.graph.Graph.{Graph}
use Rattle.sw_graph.specs.declared.instr.Instr.{Instr}
use Rattle.sw_graph.specs.declared.instr.Instr.TheVariants.{NewClosure, NewTask}
use Rattle.sw_graph.specs.declared.instr.Operand.{Operand}
use Rattle.sw_typing_rules.specs.Statements.{marked_type}
use Rattle.sw_isolation_rules.specs.Kinds.{inherited}
use Rattle.sw_isolation_rules.specs.Noting.{closure_iso}
use Rattle.sw_lower_code.specs.Whole.{Body, function_of}
use Rattle.sw_lower_code.specs.declared.taken.Taken.{Taken}
use Rattle.sw_lower_rules.specs.Carriers.{ClosureCode}
use Rattle.sw_lower_rules.specs.Expressions.{capture_taken, closure_body, closure_param_taken}
use Rattle.sw_lower_rules.specs.Expressions.{closure_takes, iso_of, task_body}
use Rattle.sw_lower_rules.specs.Tables.{Tables, name_of, plain}
use Rattle.sw_lower_placed_facts.specs.Allowed.{ClosureOk, IsAllowed, TaskOk}
use Rattle.sw_lower_placed_facts.specs.Bodies.{ArePlaced}
use Rattle.sw_lower_placed_facts.specs.Hosts.{Program, Host}
use Rattle.sw_lower_placed_facts.proofs.Graphs.Accesses.{shapes}
use Rattle.sw_lower_placed_facts.proofs.Graphs.Functions.{InOrder, function_is}
use Rattle.sw_lower_placed_facts.proofs.Graphs.Initialisers.{made, none_actor, none_class}
use Rattle.sw_lower_placed_facts.proofs.Graphs.Initialisers.{ordinary_makes}
use Rattle.sw_lower_placed_facts.proofs.Graphs.Selves.{first_own}
use Rattle.sw_lower_placed_facts.proofs.Graphs.Standing.{InEach, HostOf, at_points, made_either}

-- Nothing that is taken is marked as `sending`.
abbrev KeepsAll : List Taken → Type 0
KeepsAll takes = All (λ sends. sends ≡ false) (map (λ (one : Taken). one.sending) takes)

keeps_each : {X : Type 0} (take : X → Taken) → ((x : X) → (take x).sending ≡ false)
    → (xs : List X) → KeepsAll (map take xs)
keeps_each take keeps [] = All-nil (λ sends. sends ≡ false)
keeps_each take keeps (x ∷ xs) =
    All-cons (λ sends. sends ≡ false) (take x).sending _ (keeps x) (keeps_each take keeps xs)

keeps_both : (one other : List Taken) → KeepsAll one → KeepsAll other → KeepsAll (one ++ other)
keeps_both [] other first second = second
keeps_both (taken ∷ one) other first second =
    All-cons (λ sends. sends ≡ false) taken.sending _
    (All-head (λ sends. sends ≡ false) taken.sending _ first)
    (keeps_both one other (All-tail (λ sends. sends ≡ false) taken.sending _ first) second)

closure_keeps : (tables : Tables) (owner : Option ℕ) (closure : ClosureCode)
    → KeepsAll (closure_takes tables owner closure.at closure.params)
closure_keeps tables owner closure =
    keeps_both (map (capture_taken tables owner) (tables.isolation.captures_of closure.at)) _
    (keeps_each (capture_taken tables owner) (λ one. refl)
    (tables.isolation.captures_of closure.at))
    (keeps_each (closure_param_taken tables) (λ one. refl) closure.params)

-- A closure that is isolated has the isolation of what is around it.
inherits : (body : Function) (cs : List Operand) (around : Iso) → around ≡ body.iso
    → (inherited around ≡ iso.Own → IsTrue (first_is_self body cs))
    → MadeInside body cs (inherited around)
inherits body cs iso.Free same first = tt
inherits body cs iso.Own same first = first refl
inherits body cs (iso.Global actor) same first =
    ap (is_on actor) (sym same) ∙ eq-eqb actor actor refl
inherits body cs iso.Caller same first = tt

closure_inside : (body : Function) (cs : List Operand) (marked : Bool) (around : Iso)
    → around ≡ body.iso
    → (cond marked iso.Free (inherited around) ≡ iso.Own → IsTrue (first_is_self body cs))
    → MadeInside body cs (cond marked iso.Free (inherited around))
closure_inside body cs true around same first = tt
closure_inside body cs false around same first = inherits body cs around same first

-- It is never its caller's.
inherits_apart : (around : Iso) → inherited around ≢ iso.Caller
inherits_apart iso.Free is = cc
inherits_apart iso.Own is = cc
inherits_apart (iso.Global actor) is = cc
inherits_apart iso.Caller is = cc

closure_apart : (marked : Bool) (around : Iso)
    → cond marked iso.Free (inherited around) ≢ iso.Caller
closure_apart true around is = cc
closure_apart false around is = inherits_apart around is

-- What is isolated to `self` stands in a body that is.
closure_own : (marked : Bool) (around : Iso)
    → cond marked iso.Free (inherited around) ≡ iso.Own → is_own around ≡ true
closure_own true around is = cc
closure_own false iso.Free is = cc
closure_own false iso.Own is = refl
closure_own false (iso.Global actor) is = cc
closure_own false iso.Caller is = cc

task_inside : (body : Function) (cs : List Operand) (one : Iso)
    → (one ≡ iso.Own → IsTrue (first_is_self body cs)) → TaskInside body cs one
task_inside body cs iso.Free first = tt
task_inside body cs iso.Own first = first refl
task_inside body cs (iso.Global actor) first = tt
task_inside body cs iso.Caller first = tt

module _ (program : Program) (ordered : List Body) (is : InOrder program ordered)
    (placed : ArePlaced program) where
  -- what is known of the function of a closure or a task with a key
  pub record Runs (at : ℕ) (result : Ty) (function : Function) : Type 0 where
    pub iso_is : function.iso ≡ iso_of (program.tables.isolation.body_at at)
    pub result_is : function.result ≡ result
    pub sending : All (λ sends. sends ≡ false) function.sending
    pub actor : is_actor_initialiser function ≡ false
    pub class : is_class_initialiser (shapes program) function ≡ false

  body_runs : (owner : Option ℕ) (closure : ClosureCode) (result : Ty)
      → Contains program.inside (closure_body program.tables owner closure result)
      → Runs closure.at result (made program (closure_body program.tables owner closure result))
  unfolding closure_body function_of
  body_runs owner closure result has =
      let body = closure_body program.tables owner closure result in
      let none = ordinary_makes program body (placed.inside body has) in
      record {
        iso_is = refl;
        result_is = refl;
        sending = closure_keeps program.tables owner closure;
        actor = none_actor (made program body) none;
        class = none_class (shapes program) (made program body) none;
      }

  named_so : (tables : Tables) (owner : Option ℕ) (closure : ClosureCode) (result : Ty)
      → name_of (closure_body tables owner closure result) ≡ plain closure.at
  unfolding closure_body
  named_so tables owner closure result = refl

  pub closure_runs : (owner : Option ℕ) (closure : ClosureCode) (result : Ty) (f : ℕ)
      (function : Function)
      → Contains program.inside (closure_body program.tables owner closure result)
      → program.numbers (plain closure.at) ≡ Some f
      → slice_get program.functions f ≡ Some function → Runs closure.at result function
  closure_runs owner closure result f function has found there =
      let body = closure_body program.tables owner closure result in
      subst (Runs closure.at result)
      (function_is program ordered is body (plain closure.at) f function (placed.among body has)
      (named_so program.tables owner closure result) found there)
      (body_runs owner closure result has)

  pub task_runs : (owner : Option ℕ) (closure : ClosureCode) (result : Ty) (f : ℕ)
      (function : Function)
      → Contains program.inside (task_body program.tables owner closure result)
      → program.numbers (plain closure.at) ≡ Some f
      → slice_get program.functions f ≡ Some function → Runs closure.at result function
  task_runs owner closure result f function has found there =
      closure_runs owner (record closure { params = [] }) result f function has found there

  module _ (graph : Graph) (same_shapes : graph.shapes ≡ shapes program)
      (functions : graph.functions ≡ program.functions) where
    runs_apart : (at : ℕ) (result : Ty) (function : Function) → Runs at result function
        → function.iso ≢ iso.Caller → IsRunApart graph.shapes function
    runs_apart at result function runs apart = record {
      iso = apart;
      sending = runs.sending;
      actor = runs.actor;
      class = subst (λ all. is_class_initialiser all function ≡ false) (sym same_shapes)
          runs.class;
    }

    closure_stands : (body : Function) (host : Host) → HostOf body host → (r f : ℕ)
        (cs : List Operand) → ClosureOk program host body.regs r f cs → (function : Function)
        → slice_get program.functions f ≡ Some function
        → MadeInside body cs function.iso × IsRunApart graph.shapes function
    unfolding closure_iso
    closure_stands body host of r f cs ok function there =
        let marked = marked_type (program.tables.answers.type_at ok.closure.at) in
        let runs = closure_runs ok.owner ok.closure ok.result f function ok.has ok.numbered there in
        let same : function.iso ≡ cond marked iso.Free (inherited host.iso) =
        runs.iso_is ∙ ok.noted.iso_is in (
          subst (MadeInside body cs) (sym same)
              (closure_inside body cs marked host.iso of.iso (λ own.
              first_own body host of cs (ok.held own)
              (sym (ap is_own of.iso) ∙ closure_own marked host.iso own))),
          runs_apart ok.closure.at ok.result function runs
              (λ caller. closure_apart marked host.iso (sym same ∙ caller)),
        )

    task_stands : (body : Function) (host : Host) → HostOf body host → (f : ℕ)
        (cs : List Operand) → TaskOk program host body.regs f cs → (function : Function)
        → slice_get program.functions f ≡ Some function
        → TaskInside body cs function.iso × IsRunApart graph.shapes function
    task_stands body host of f cs ok function there =
        let runs = task_runs ok.owner ok.closure ok.result f function ok.has ok.numbered there in
        let same : function.iso ≡ ok.iso = runs.iso_is ∙ ok.noted.iso_is in (
          subst (TaskInside body cs) (sym same)
              (task_inside body cs ok.iso (λ own.
              first_own body host of cs (ok.held own)
              (sym (ap is_own of.iso) ∙ ok.within own))),
          runs_apart ok.closure.at ok.result function runs
              (λ caller. ok.apart (sym same ∙ caller)),
        )

    allowed : (body : Function) (host : Host) → HostOf body host → (instr : Instr)
        → IsAllowed program host body.regs instr → ApartPlaced graph body instr
    allowed body host of (NewClosure at r f cs) ok =
        λ function there. closure_stands body host of r f cs ok.uses function
        (subst (λ all. slice_get all f ≡ Some function) functions there)
    allowed body host of (NewTask at r f cs) ok =
        λ function there. task_stands body host of f cs ok.uses function
        (subst (λ all. slice_get all f ≡ Some function) functions there)
    allowed body host of _ ok = tt

    each : InEach program ordered (λ n body block index instr. ApartPlaced graph body instr)
    each = record {
      allowed = λ n body at host of block index instr ok. allowed _ host of instr ok;
      makes = λ n body at one block index key r operands apart last.
          made_either (ApartPlaced graph (made program body)) one.shape.kind key r
          one.k operands tt tt;
      gives = λ n body at one block index key s. tt;
    }

    pub apart_placed : EachInstr graph (ApartPlaced graph)
    apart_placed n body there =
        at_points program ordered (λ n body instr. ApartPlaced graph body instr) each is placed n
        body (subst (λ all. slice_get all n ≡ Some body) functions there)
