-- The body that gives a global variable its first value stores it last.
use Rattle.std.proofs.Common.{◌≡◌, ℕ, ◌⊎◌, inl, inr, false, List, Some, None}
use Rattle.std.proofs.Common.{refl, ap, sym, subst}
use Rattle.std.specs.Prelude.{IsOk, Ok, slice_get}
use Rattle.sw_graph.specs.declared.function.RegKind.{RegKind}
use Rattle.sw_graph.specs.declared.instr.Block.{Block}
use Rattle.sw_graph.specs.declared.instr.Instr.{Instr}
use Rattle.sw_graph.specs.declared.instr.Instr.TheVariants.{StoreGlobal}
use Rattle.sw_graph.specs.declared.instr.Last.TheVariants.{Return}
use Rattle.sw_graph.specs.declared.instr.Operand.{Operand}
use Rattle.sw_decls.specs.Signatures.{actor_iso}
use Rattle.sw_decls.specs.declared.signature.GlobalVar.{GlobalVar}
use Rattle.sw_lower_plans.specs.Run.{Making}
use Rattle.sw_lower_code.specs.Code.{Code, close, emit, ◌>>◌}
use Rattle.sw_lower_code.specs.Whole.{Body, lower_body}
use Rattle.sw_lower_rules.specs.Bodies.{first_code, first_value}
use Rattle.sw_lower_rules.specs.Carriers.{ExprCode}
use Rattle.sw_lower_rules.specs.Tables.{plain}
use Rattle.sw_lower_total_facts.proofs.Frames.Joining.{code_grows, ran_both}
use Rattle.sw_lower_placed_facts.specs.Allowed.{IsAllowed}
use Rattle.sw_lower_placed_facts.specs.Bodies.{IsFirstValue}
use Rattle.sw_lower_placed_facts.specs.Placing.{PlacesWith, Stood}
use Rattle.sw_lower_placed_facts.specs.Hosts.{Program, Host}
use Rattle.sw_lower_placed_facts.proofs.Bodies.Ends.{Ends, IsEnd, ends_by, over_before}
use Rattle.sw_lower_placed_facts.proofs.Bodies.Entering.{takes_nothing}
use Rattle.sw_lower_placed_facts.proofs.Bodies.Functions.{Ran, body_ran}

module _ (program : Program) (host : Host) where
  -- what is shown of the run of what gives a first value
  record FirstEnds (key g : ℕ) (So : Type 0) (t : Making) : Type 0 where
    given : Operand
    ends : Ends program host (StoreGlobal key g given) (Return None) t.made.regs t.made.blocks
    so : So

  first_ends : (key g : ℕ) (read : Code Operand) (So : Type 0) → PlacesWith program host read So
      → (s t : Making) → Stood program host s → (first_code key g read).run s ≡ Ok (tt, t)
      → t.over ≡ false → FirstEnds key g So t
  first_ends key g read So places s t stood ran whole =
      let given = ran_both read (λ x. emit (StoreGlobal key g x) >> close (Return None)) s t tt ran
      in
      let u = given.1 in
      let store = ran_both (emit (StoreGlobal key g given.0)) (λ _. close (Return None)) u t tt
      given.3 in
      let going = (code_grows read s u given.0 stood.going given.2).0 in
      let before = over_before (emit (StoreGlobal key g given.0) >> close (Return None)) u t tt
      going given.3 whole in
      let placed = places s stood given.0 u given.2 before in
      record {
        given = given.0;
        ends = ends_by program host (StoreGlobal key g given.0) (Return None) u store.1 t store.0
            tt placed.0 store.2 store.3 whole;
        so = placed.1;
      }

module _ (program : Program) (key g : ℕ) (code : ExprCode) where
  abbrev body : Body
  body = first_value program.tables key g code

  -- where a first value stands
  abbrev pub first_host : Host
  first_host = record { iso = body.iso; owner = None; has_self = false }

  abbrev MayBe : List RegKind → ℕ → Block → Instr → Type 0
  MayBe regs index block instr = IsAllowed program first_host regs instr
      ⊎ ((at : ℕ) × (s : Operand) × (instr ≡ StoreGlobal at g s))

  -- What gives a first value, where the code of the value is placed
  pub first_placed : (global : GlobalVar) (So : Type 0)
      → slice_get program.tables.world.globals g ≡ Some global → global.key.at ≡ key
      → body.iso ≡ actor_iso global.actor → IsOk (lower_body program.numbers body)
      → PlacesWith program first_host code.read So → IsFirstValue program body × So
  first_placed global So is same iso made places = (
    record {
      g = g;
      global = global;
      is = is;
      named = ap plain (sym same);
      iso = iso;
      points = λ number index block instr at_block at_instr.
          subst (λ regs. MayBe regs index block instr) (sym ran.regs)
          (either instr index block
          (last.ends.points number index block instr
          (subst (λ blocks. slice_get blocks number ≡ Some block) ran.blocks at_block) at_instr));
    },
    last.so,
  ) where
    ran : Ran program first_host body
    ran = body_ran program first_host body (takes_nothing program first_host refl) made

    last : FirstEnds program first_host key g So ran.end
    last = first_ends program first_host key g code.read So places ran.start ran.end ran.stood
        ran.ran ran.whole

    either : (instr : Instr) (index : ℕ) (block : Block)
        → IsAllowed program first_host ran.end.made.regs instr
        ⊎ IsEnd (StoreGlobal key g last.given) (Return None) block index instr
        → MayBe ran.end.made.regs index block instr
    either instr index block (inl allowed) = inl allowed
    either instr index block (inr end) = inr (key, last.given, end.is)
