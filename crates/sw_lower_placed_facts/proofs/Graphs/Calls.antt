-- Each call of a graph has the kind that its callee and the caller's isolation give.
use Rattle.std.proofs.Common.{◌≡◌, ℕ, Bool, true, false, List, Some, refl, sym, ap, subst, ◌∙◌}
use Rattle.std.proofs.Common.{slice_get}
use Rattle.std.proofs.lemmas.Option.{same_Some}
use Rattle.sw_types.specs.declared.isolation.CallKind.{CallKind}
use Rattle.sw_types.specs.declared.isolation.CallKind.TheVariants.{Same}
use Rattle.sw_types.specs.declared.isolation.Iso.{Iso}
use Rattle.sw_types.specs.declared.isolation.Iso.TheVariants as iso
use Rattle.sw_graph.specs.Bodies.{is_actor_initialiser, is_own}
use Rattle.sw_types.specs.CallKinds.{call_kind}
use Rattle.sw_graph.specs.Placed.{CallPlaced, EachInstr, HasCallKind}
use Rattle.sw_graph.specs.declared.function.Function.{Function}
use Rattle.sw_graph.specs.declared.function.RegKind.{RegKind}
use Rattle.sw_graph.specs.declared.graph.Graph.{Graph}
use Rattle.sw_graph.specs.declared.instr.Instr.{Instr}
use Rattle.sw_graph.specs.declared.instr.Instr.TheVariants.{Call}
use Rattle.sw_graph.specs.declared.instr.Operand.{Operand}
use Rattle.sw_lower_code.specs.Whole.{Body}
use Rattle.sw_lower_plans.specs.declared.name.FunctionName.{FunctionName}
use Rattle.sw_lower_placed_facts.specs.Allowed.{CallOk, IsActorMaker, IsAllowed}
use Rattle.sw_lower_placed_facts.specs.Bodies.{ArePlaced}
use Rattle.sw_lower_placed_facts.specs.Hosts.{Program, Host}
use Rattle.sw_lower_placed_facts.proofs.Graphs.Functions.{InOrder}
use Rattle.sw_lower_placed_facts.proofs.Graphs.Initialisers.{made, named_maker, named_other}
use Rattle.sw_lower_placed_facts.proofs.Graphs.Selves.{first_own}
use Rattle.sw_lower_placed_facts.proofs.Graphs.Standing.{InEach, HostOf, at_points, made_either}

-- equal callees have calls of one kind
same_kind : (one other : Iso) (is_async other_async makes other_makes on_self : Bool)
    (body around : Iso) → one ≡ other → is_async ≡ other_async → makes ≡ other_makes
    → body ≡ around
    → call_kind (record {
      iso = one;
      is_async = is_async;
      is_initialiser = makes;
      on_self = on_self;
    }) body ≡ call_kind (record {
      iso = other;
      is_async = other_async;
      is_initialiser = other_makes;
      on_self = on_self;
    }) around
same_kind one other is_async other_async makes other_makes on_self body around isos asyncs makers
    bodies =
    λ i. call_kind (record {
      iso = isos i;
      is_async = asyncs i;
      is_initialiser = makers i;
      on_self = on_self;
    }) (bodies i)

-- A call within an actor is on `self`, in a body that is isolated to it.
own_within : (is_async makes on_self : Bool) (body : Iso)
    → call_kind (record {
      iso = iso.Own;
      is_async = is_async;
      is_initialiser = makes;
      on_self = on_self;
    }) body ≡ Same → (on_self ≡ true) × (is_own body ≡ true)
own_within is_async true on_self body is = cc
own_within is_async false true iso.Own is = (refl, refl)
own_within is_async false true iso.Free is = cc
own_within is_async false true (iso.Global actor) is = cc
own_within is_async false true iso.Caller is = cc
own_within is_async false false body is = cc

module _ (program : Program) (ordered : List Body) (is : InOrder program ordered)
    (placed : ArePlaced program) where
  -- whether the function that is called is an actor's initialiser
  initialises : (name : FunctionName) (f : ℕ) (callee : Function) (makes : Bool)
      → program.numbers name ≡ Some f → slice_get program.functions f ≡ Some callee
      → (makes ≡ true → IsActorMaker program name)
      → (makes ≡ false → IsActorMaker program name → ⊥)
      → is_actor_initialiser callee ≡ makes
  initialises name f callee true found there makes none =
      named_maker program ordered is placed name f callee found there (makes refl)
  initialises name f callee false found there makes none =
      named_other program ordered is placed name f callee found there (none refl)

  call_has : (function : Function) (host : Host) → HostOf function host → (regs : List RegKind)
      (r : ℕ) (kind : CallKind) (f : ℕ) (ss : List Operand) → CallOk program host regs r kind f ss
      → (callee : Function) → slice_get program.functions f ≡ Some callee
      → HasCallKind function callee ss kind
  call_has function host of regs r kind f ss ok callee there =
      let same : ok.header.function ≡ callee =
      same_Some ok.header.function callee (sym ok.header.at ∙ there) in
      let given = ok.given
      ∙ same_kind ok.callee.iso callee.iso ok.callee.is_async callee.is_async
      ok.callee.is_initialiser (is_actor_initialiser callee) ok.callee.on_self host.iso
      function.iso (sym ok.header.iso_is ∙ ap (λ (f : Function). f.iso) same)
      (sym ok.header.async_is ∙ ap (λ (f : Function). f.is_async) same)
      (sym (initialises ok.name f callee ok.callee.is_initialiser ok.numbered there ok.makes
      ok.makes_none)) of.iso in
      record {
        on_self = ok.callee.on_self;
        given = given;
        within = λ same own.
            let parts = own_within callee.is_async (is_actor_initialiser callee)
            ok.callee.on_self function.iso
            (ap (λ one. call_kind (record {
              iso = one;
              is_async = callee.is_async;
              is_initialiser = is_actor_initialiser callee;
              on_self = ok.callee.on_self;
            }) function.iso) (sym own) ∙ sym given ∙ same) in
            first_own function host of ss (ok.on_self parts.0) parts.1;
      }

  module _ (graph : Graph) (functions : graph.functions ≡ program.functions) where
    allowed : (function : Function) (host : Host) → HostOf function host → (regs : List RegKind)
        (instr : Instr) → IsAllowed program host regs instr → CallPlaced graph function instr
    allowed function host of regs (Call at r kind f ss) ok =
        λ callee there. call_has function host of regs r kind f ss ok.uses callee
        (subst (λ all. slice_get all f ≡ Some callee) functions there)
    allowed function host of regs _ ok = tt

    each : InEach program ordered (λ n function block index instr. CallPlaced graph function instr)
    each = record {
      allowed = λ n body at host of block index instr ok. allowed _ host of _ instr ok;
      makes = λ n body at one block index key r operands apart last.
          made_either (CallPlaced graph (made program body)) one.shape.kind key r
          one.k operands tt tt;
      gives = λ n body at one block index key s. tt;
    }

    pub calls_placed : EachInstr graph (CallPlaced graph)
    calls_placed n function there =
        at_points program ordered (λ n function instr. CallPlaced graph function instr) each is
        placed n function (subst (λ all. slice_get all n ≡ Some function) functions there)
