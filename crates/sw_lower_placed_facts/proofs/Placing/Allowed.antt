-- What may stand in a body may stand there still as the body has more registers.
use Rattle.std.proofs.Common.{ℕ, List}
use Rattle.sw_types.specs.declared.isolation.CallKind.{CallKind}
use Rattle.sw_types.specs.declared.ty.Ty.TheVariants as types
use Rattle.sw_graph.specs.declared.function.RegKind.{RegKind}
use Rattle.sw_graph.specs.declared.function.RegKind.TheVariants.{Plain}
use Rattle.sw_graph.specs.declared.instr.Block.{Block}
use Rattle.sw_graph.specs.declared.instr.Instr.{Instr}
use Rattle.sw_graph.specs.declared.instr.Instr.TheVariants.{Const, Un, Bin, Print, Copy, Field}
use Rattle.sw_graph.specs.declared.instr.Instr.TheVariants.{Payload, SetField, Make, NewObject}
use Rattle.sw_graph.specs.declared.instr.Instr.TheVariants.{NewBox, NewActor, LoadBox, StoreBox}
use Rattle.sw_graph.specs.declared.instr.Instr.TheVariants.{LoadProp, StoreProp, LoadGlobal}
use Rattle.sw_graph.specs.declared.instr.Instr.TheVariants.{StoreGlobal, NewClosure, Call}
use Rattle.sw_graph.specs.declared.instr.Instr.TheVariants.{CallClosure, NewTask, Await, Yield}
use Rattle.sw_graph.specs.declared.instr.Operand.{Operand}
use Rattle.sw_isolation_rules.specs.declared.uses.Storage.{Storage}
use Rattle.sw_lower_plans.specs.declared.bound.Bound.{Bound}
use Rattle.sw_lower_formed_facts.specs.Ground.{kind_by}
use Rattle.sw_lower_formed_facts.specs.Safe.{IsStart}
use Rattle.sw_lower_placed_facts.specs.Allowed.{CallOk, ClosureOk, IsAllowed, PartUsed, ReadOk, TaskOk}
use Rattle.sw_lower_placed_facts.specs.Allowed.{UseOk, WriteOk, global_storage, used_storage}
use Rattle.sw_lower_placed_facts.specs.Placing.{AllAllowed, IsKnown}
use Rattle.sw_lower_placed_facts.specs.Hosts.{Program, Host}
use Rattle.sw_lower_placed_facts.proofs.Placing.Later.{start_keeps}

module _ (program : Program) (host : Host) (regs more : List RegKind) (start : IsStart regs more)
  where
    -- a variable's register
    pub known_later : (bound : Bound) → IsKnown program host regs bound
        → IsKnown program host more bound
    known_later bound known = record {
      ty = known.ty;
      typed = known.typed;
      kind = start_keeps regs more bound.reg (kind_by bound.boxed known.ty) start known.kind;
    }

    abbrev part_later : (o : Operand) (i : ℕ) → PartUsed program host regs o i
        → PartUsed program host more o i
    part_later o i used = record {
      k = used.k;
      shape = used.shape;
      part = used.part;
      on_self = used.on_self;
      held = start_keeps regs more o.reg (Plain (types.Named used.k)) start used.held;
      is_shape = used.is_shape;
      object = used.object;
      is_part = used.is_part;
      own = used.own;
    }

    read_later : (storage : Storage) → ReadOk program host regs storage
        → ReadOk program host more storage
    read_later storage ok = record { constant = ok.constant; crosses = ok.crosses }

    write_later : (storage : Storage) → WriteOk program host regs storage
        → WriteOk program host more storage
    write_later storage ok = record { inside = ok.inside; variable = ok.variable }

    call_later : (r : ℕ) (kind : CallKind) (f : ℕ) (ss : List Operand)
        → CallOk program host regs r kind f ss → CallOk program host more r kind f ss
    call_later r kind f ss ok = record {
      name = ok.name;
      callee = ok.callee;
      sends = ok.sends;
      result = ok.result;
      numbered = ok.numbered;
      header = ok.header;
      makes = ok.makes;
      makes_none = ok.makes_none;
      given = ok.given;
      on_self = ok.on_self;
      gives = start_keeps regs more r (Plain ok.result) start ok.gives;
      crosses = ok.crosses;
    }

    closure_later : (r f : ℕ) (cs : List Operand) → ClosureOk program host regs r f cs
        → ClosureOk program host more r f cs
    closure_later r f cs ok = record {
      owner = ok.owner;
      closure = ok.closure;
      result = ok.result;
      ty = ok.ty;
      has = ok.has;
      numbered = ok.numbered;
      noted = ok.noted;
      held = ok.held;
      typed = ok.typed;
      gives = start_keeps regs more r (Plain ok.ty) start ok.gives;
      crosses = λ none marked x has.
          let (ty, held, sends) = ok.crosses none marked x has in
          (ty, start_keeps regs more x.reg (Plain ty) start held, sends);
    }

    task_later : (f : ℕ) (cs : List Operand) → TaskOk program host regs f cs
        → TaskOk program host more f cs
    task_later f cs ok = record {
      owner = ok.owner;
      closure = ok.closure;
      result = ok.result;
      iso = ok.iso;
      has = ok.has;
      numbered = ok.numbered;
      noted = ok.noted;
      apart = ok.apart;
      within = ok.within;
      held = ok.held;
      crosses = ok.crosses;
    }

    -- what an instruction uses
    use_later : (instr : Instr) → UseOk program host regs instr → UseOk program host more instr
    use_later (Const at r v) ok = tt
    use_later (Un at r op s) ok = tt
    use_later (Bin at r op s t) ok = tt
    use_later (Print at r ss) ok = tt
    use_later (Copy at r s) ok = tt
    use_later (Field at r s i) ok = tt
    use_later (Payload at r s i) ok = tt
    use_later (SetField at r i s) ok = tt
    use_later (Make at r k tag ss) ok = tt
    use_later (NewObject at r k ss) ok = ok
    use_later (NewBox at r s) ok = tt
    use_later (NewActor at r k ss) ok = ok
    use_later (LoadBox at r b) ok = tt
    use_later (StoreBox at b s) ok = tt
    use_later (LoadProp at r o i) ok = record {
      used = part_later o i ok.used;
      ok = read_later (used_storage program host regs o i ok.used) ok.ok;
    }
    use_later (StoreProp at o i s) ok = record {
      used = part_later o i ok.used;
      ok = write_later (used_storage program host regs o i ok.used) ok.ok;
    }
    use_later (LoadGlobal at r g) ok = record {
      global = ok.global;
      is = ok.is;
      ok = read_later (global_storage program ok.global) ok.ok;
    }
    use_later (StoreGlobal at g s) ok = record {
      global = ok.global;
      is = ok.is;
      ok = write_later (global_storage program ok.global) ok.ok;
    }
    use_later (NewClosure at r f cs) ok = closure_later r f cs ok
    use_later (Call at r kind f ss) ok = call_later r kind f ss ok
    use_later (CallClosure at r c ss) ok = tt
    use_later (NewTask at r f cs) ok = task_later f cs ok
    use_later (Await at r t) ok = tt
    use_later (Yield at r) ok = tt

    pub allowed_later : (instr : Instr) → IsAllowed program host regs instr
        → IsAllowed program host more instr
    allowed_later instr allowed = record {
      uses = use_later instr allowed.uses;
      sets = allowed.sets;
      leaves = allowed.leaves;
    }

    -- each instruction of blocks
    pub all_allowed_later : (blocks : List Block) → AllAllowed program host regs blocks
        → AllAllowed program host more blocks
    all_allowed_later blocks all k d below i e inside =
        allowed_later _ (all k d below i e inside)
