-- What operations come to, from a state of which they change a copy, up to a state that says the same
-- as the one that they make.
use Rattle.std.proofs.Common.{ℕ, Bool, true, false, Option, Some, None, List, [], ◌∷◌, slice_get}
use Rattle.sw_types.specs.declared.isolation.CallKind.{CallKind}
use Rattle.sw_types.specs.declared.isolation.CallKind.TheVariants.{Plain}
use Rattle.sw_graph.specs.declared.function.Function.{Function}
use Rattle.sw_graph.specs.declared.instr.Instr.{Instr}
use Rattle.sw_graph.specs.declared.instr.Instr.TheVariants.{Const, Un, Bin, Print, Copy, Field}
use Rattle.sw_graph.specs.declared.instr.Instr.TheVariants.{Payload, SetField, Make, NewObject}
use Rattle.sw_graph.specs.declared.instr.Instr.TheVariants.{NewBox, NewActor, LoadBox, StoreBox}
use Rattle.sw_graph.specs.declared.instr.Instr.TheVariants.{LoadProp, StoreProp, LoadGlobal}
use Rattle.sw_graph.specs.declared.instr.Instr.TheVariants.{StoreGlobal, NewClosure, Call}
use Rattle.sw_graph.specs.declared.instr.Instr.TheVariants.{CallClosure, NewTask, Await, Yield}
use Rattle.sw_graph.specs.declared.instr.Operand.{Operand}
use Rattle.sw_owner_facts.specs.View.{Element, Here, Register}
use Rattle.sw_partition.specs.Regions.{Regions}
use Rattle.sw_region_ops.specs.Elements.{element_at}
use Rattle.sw_region_ops.specs.Setting.{FunctionSetting}
use Rattle.sw_region_ops.specs.Table.{iso_is, shares_actor}
use Rattle.sw_region_facts.specs.FrameRegions.{IsWeaker}
use Rattle.sw_region_facts.specs.Moves.{tracked, Sets, Uses, Gathers, Makes, IsSent}
use Rattle.sw_region_facts.specs.Moves.{Sends, SendsEach}
use Rattle.sw_region_facts.specs.Calling.{Calls, CallsFunction}
use Rattle.sw_region_facts.specs.Rows.{CopiesFrom, LoadsPart, StoresPart, StartsTask, InstrMoves}
use Rattle.sw_region_facts.proofs.Comes.{sets_to}
use Rattle.sw_region_facts.proofs.Weaker.{weaker_on}

module _ (elements : List (Option ℕ)) (a b : Regions) (before : IsWeaker elements a b) where
  sends_behind : (c : Regions) (xs : List Element) → Sends elements xs b c → Sends elements xs a c
  sends_behind c xs sends = record {
    weaker = weaker_on elements a b c before sends.weaker;
    sent = λ x has. one x (sends.sent x has);
  }
    where
      one : (x : Element) → IsSent elements b c x → IsSent elements a c x
      one x sent = record {
        free = λ t. sent.free (before.together x Here t);
        used = before.live x sent.used;
        gone = λ r t live. sent.gone r (before.together x (Register r) t) live;
      }

  sends_each_behind : (c : Regions) (xs : List Element) → SendsEach elements xs b c
      → SendsEach elements xs a c
  sends_each_behind c xs each = record {
    sends = sends_behind c xs each.sends;
    apart = λ i j x y at there differ t. each.apart i j x y at there differ
        (before.together x y t);
  }

  module _ (c d : Regions) (after : IsWeaker elements c d) where
    sets_between : (r : ℕ) (sources : List Element) → Sets elements r sources b c
        → Sets elements r sources a d
    sets_between r sources sets = record {
      together = λ x y from_x from_y has there t. after.together x y
          (sets.together x y from_x from_y has there (before.together from_x from_y t));
      live = λ x differ l. before.live x (sets.live x differ (after.live x l));
      used = λ x has. before.live x (sets.used x has);
    }

    copies_between : (r : ℕ) (operand : Operand) → CopiesFrom elements r operand b c
        → CopiesFrom elements r operand a d
    copies_between r operand copies = record {
      live = before.live (Register operand.reg) copies.live;
      sets = sets_between r _ copies.sets;
    }

    weaker_between : IsWeaker elements b c → IsWeaker elements a d
    weaker_between weaker =
        weaker_on elements a c d (weaker_on elements a b c before weaker) after

    uses_between : (xs : List Element) → Uses elements xs b c → Uses elements xs a d
    uses_between xs uses = record {
      weaker = weaker_between uses.weaker;
      used = λ x has. before.live x (uses.used x has);
    }

    calls_between : (kind : CallKind) (sends : Bool) (r : ℕ) (sent lent : List Element)
        → Calls elements kind sends r sent lent b c → Calls elements kind sends r sent lent a d
    calls_between kind sends r sent lent calls = record {
      given = calls.given;
      gives = sends_each_behind calls.given sent calls.gives;
      taken = calls.taken;
      lends = calls.lends;
      result = sets_to elements r _ calls.taken c d calls.result after;
    }

    calls_function_between : (kind : CallKind) (r : ℕ) (operands : List Operand)
        (callee : Option Function) → CallsFunction elements kind r operands callee b c
        → CallsFunction elements kind r operands callee a d
    calls_function_between kind r operands None weaker = weaker_between weaker
    calls_function_between kind r operands (Some callee) calls =
        calls_between kind callee.sends r _ _ calls

    module _ (back : IsWeaker elements d c) where
      gathers_between : (xs : List Element) → Gathers elements xs b c → Gathers elements xs a d
      gathers_between xs gathers = record {
        uses = uses_between xs gathers.uses;
        still = λ x has. back.live x (gathers.still x has);
        together = λ x y has there. after.together x y (gathers.together x y has there);
      }

      makes_between : (r : ℕ) (xs : List Element) → Makes elements r xs b c
          → Makes elements r xs a d
      makes_between r xs makes = record {
        together = λ x y one two t.
            after.together x y (makes.together x y one two (before.together x y t));
        live = λ x differ l. before.live x (makes.live x differ (after.live x l));
        used = λ x has. before.live x (makes.used x has);
        still = λ x has. back.live x (makes.still x has);
        made_live = back.live (Register r) makes.made_live;
        joined = λ x number has is. after.together x (Register r) (makes.joined x number has is);
      }

      sends_between : (xs : List Element) → Sends elements xs b c → Sends elements xs a d
      sends_between xs sends = sends_on (sends_behind c xs sends) where
        sends_on : Sends elements xs a c → Sends elements xs a d
        sends_on sends = record {
          weaker = weaker_on elements a c d sends.weaker after;
          sent = λ x has.
              let sent = sends.sent x has in
              record {
                free = sent.free;
                used = sent.used;
                gone = λ r t l. sent.gone r t (after.live (Register r) l);
              };
        }

      loads_between : (o : Option ℕ) (r : ℕ) (cell : Operand) → LoadsPart elements o r cell b c
          → LoadsPart elements o r cell a d
      loads_between (Some number) r cell copies = copies_between r cell copies
      loads_between None r cell sets = sets_between r _ sets

      stores_between : (o : Option ℕ) (cell src : Operand) → StoresPart elements o cell src b c
          → StoresPart elements o cell src a d
      stores_between (Some number) cell src gathers = gathers_between _ gathers
      stores_between None cell src gathers = gathers_between _ gathers

      starts_between : (shares : Bool) (xs : List Element) → StartsTask shares elements xs b c
          → StartsTask shares elements xs a d
      starts_between true xs gathers = gathers_between (Here ∷ xs) gathers
      starts_between false xs sends = sends_between xs sends

-- a row of the table
module _ (setting : FunctionSetting) (a b : Regions) (before : IsWeaker setting.elements a b)
    (c d : Regions) (after : IsWeaker setting.elements c d)
    (back : IsWeaker setting.elements d c) where
  abbrev elements : List (Option ℕ)
  elements = setting.elements

  abbrev sets : (r : ℕ) (sources : List Element) → Sets elements r sources b c
      → Sets elements r sources a d
  sets r sources = sets_between elements a b before c d after r sources

  abbrev copies : (r : ℕ) (operand : Operand) → CopiesFrom elements r operand b c
      → CopiesFrom elements r operand a d
  copies r operand = copies_between elements a b before c d after r operand

  abbrev gathers : (xs : List Element) → Gathers elements xs b c → Gathers elements xs a d
  gathers xs = gathers_between elements a b before c d after back xs

  abbrev makes : (r : ℕ) (xs : List Element) → Makes elements r xs b c → Makes elements r xs a d
  makes r xs = makes_between elements a b before c d after back r xs

  abbrev weaker : IsWeaker elements b c → IsWeaker elements a d
  weaker = weaker_between elements a b before c d after

  pub moves_between : (instr : Instr) → InstrMoves setting instr b c → InstrMoves setting instr a d
  moves_between (Const at dst value) moves = weaker moves
  moves_between (Un at dst op src) moves = weaker moves
  moves_between (Bin at dst op left right) moves = weaker moves
  moves_between (Print at dst args) moves = weaker moves
  moves_between (Copy at dst src) moves = copies dst src moves
  moves_between (Field at dst src part) moves = copies dst src moves
  moves_between (Payload at dst src index) moves = copies dst src moves
  moves_between (SetField at target part src) moves = gathers _ moves
  moves_between (Make at dst shape tag args) moves = makes dst _ moves
  moves_between (NewObject at dst shape args) moves = makes dst _ moves
  moves_between (NewBox at dst src) moves = makes dst _ moves
  moves_between (NewActor at dst shape args) moves =
      uses_between elements a b before c d after _ moves
  moves_between (LoadBox at dst cell) moves = copies dst cell moves
  moves_between (StoreBox at cell src) moves = gathers _ moves
  moves_between (LoadProp at dst cell part) moves =
      loads_between elements a b before c d after back (element_at elements cell.reg) dst cell moves
  moves_between (StoreProp at cell part src) moves =
      stores_between elements a b before c d after back (element_at elements cell.reg) cell src moves
  moves_between (LoadGlobal at dst global) moves = sets dst _ moves
  moves_between (StoreGlobal at global src) moves = gathers _ moves
  moves_between (NewClosure at dst function captures) moves = makes dst _ moves
  moves_between (Call at dst kind function args) moves =
      calls_function_between elements a b before c d after kind dst args
      (slice_get setting.functions function) moves
  moves_between (CallClosure at dst closure args) moves =
      calls_between elements a b before c d after Plain false dst []
      (tracked elements (closure ∷ args)) moves
  moves_between (NewTask at dst function captures) moves =
      starts_between elements a b before c d after back
      (iso_is setting (λ iso. shares_actor iso setting.body.iso) function)
      (tracked elements captures) moves
  moves_between (Await at dst task) moves = weaker moves
  moves_between (Yield at dst) moves = weaker moves
