-- The table of region operations, row by row.
use Rattle.std.proofs.Common.{◌≡◌, ℕ, ◌++◌, Bool, true, false, List, [], ◌∷◌, Option, Some, None}
use Rattle.std.proofs.Common.{Contains, refl, ◌∙◌, ap, sym, subst, append-nil, slice_get}
use Rattle.sw_list.proofs.Members.{one_in, none_in, first_in}
use Rattle.sw_types.specs.declared.isolation.CallKind.TheVariants.{Plain as PlainCall}
use Rattle.sw_graph.specs.declared.instr.Instr.{Instr}
use Rattle.sw_graph.specs.declared.instr.Instr.TheVariants.{Const, Un, Bin, Print, Copy, Field}
use Rattle.sw_graph.specs.declared.instr.Instr.TheVariants.{Payload, SetField, Make, NewObject}
use Rattle.sw_graph.specs.declared.instr.Instr.TheVariants.{NewBox, NewActor, LoadBox, StoreBox}
use Rattle.sw_graph.specs.declared.instr.Instr.TheVariants.{LoadProp, StoreProp, LoadGlobal}
use Rattle.sw_graph.specs.declared.instr.Instr.TheVariants.{StoreGlobal, NewClosure, Call}
use Rattle.sw_graph.specs.declared.instr.Instr.TheVariants.{CallClosure, NewTask, Await, Yield}
use Rattle.sw_graph.specs.declared.instr.Operand.{Operand}
use Rattle.sw_owner_facts.specs.View.{Element, Here, Register}
use Rattle.sw_partition.specs.Regions.{Regions}
use Rattle.sw_region_ops.specs.Calls.{is_isolated, free_code}
use Rattle.sw_region_ops.specs.Elements.{element_at}
use Rattle.sw_region_ops.specs.Groups.{take_from, need_each, put_first, meet}
use Rattle.sw_region_ops.specs.Groups.{keep, make_of}
use Rattle.sw_region_ops.specs.Marks.{marks_of}
use Rattle.sw_region_ops.specs.Setting.{FunctionSetting}
use Rattle.sw_region_ops.specs.Table.{instr_ops, load_ops, store_ops, task_ops}
use Rattle.sw_region_ops.specs.Table.{iso_is, shares_actor}
use Rattle.sw_region_facts.specs.FrameRegions.{LiveIn, HaveOwnNumbers, IsStateOf, IsWeaker, TogetherIn, region_in}
use Rattle.sw_region_facts.specs.Moves.{if_tracked, tracked, Sets, Uses, Gathers, Makes}
use Rattle.sw_region_facts.specs.Rows.{CopiesFrom, LoadsPart, StoresPart, StartsTask, InstrMoves}
use Rattle.sw_region_facts.proofs.Calling.{calls, calls_function}
use Rattle.sw_region_facts.proofs.Doing.{Done, parts}
use Rattle.sw_region_facts.proofs.Gathering.{uses_needed, met, kept}
use Rattle.sw_region_facts.proofs.Making.{made_of, closed_over}
use Rattle.sw_region_facts.proofs.Marked.{tracked_marked}
use Rattle.sw_region_facts.proofs.Numbers.{untracked_live}
use Rattle.sw_region_facts.proofs.Sending.{sends_parted}
use Rattle.sw_region_facts.proofs.Setting.{sets_here, sets_first}
use Rattle.sw_region_facts.proofs.Weaker.{weaker_itself}

module _ (setting : FunctionSetting) (own : HaveOwnNumbers setting.elements) (a : Regions)
    (sized : IsStateOf setting.elements a) (b : Regions) where
  abbrev elements : List (Option ℕ)
  elements = setting.elements

  unchanged : Done [] a b → IsWeaker elements a b
  unchanged done = subst (IsWeaker elements a) (sym done.runs) (weaker_itself elements a)

  -- a copy of one operand
  copies : (r : ℕ) (operand : Operand)
      → Done (take_from (element_at elements r) (marks_of elements (operand ∷ []))) a b
      → CopiesFrom elements r operand a b
  copies r operand done =
      let marks = marks_of elements (operand ∷ []) in
      let halves = parts (need_each marks) (put_first (element_at elements r) marks) a b done in
      let uses = uses_needed elements own a sized (tracked elements (operand ∷ [])) marks
      (tracked_marked elements (operand ∷ [])) halves.between halves.before in
      let sets : Sets elements r
      (if_tracked (element_at elements r) (tracked elements (operand ∷ []))) a b =
      sets_first elements own a b sized r (tracked elements (operand ∷ [])) marks
      (tracked_marked elements (operand ∷ [])) uses.1.used
      (λ s y has there. alone (element_at elements operand.reg) s y has there)
      (subst (λ m. Done (put_first (element_at elements r) marks) m b) uses.0 halves.after) in
      record {
        live = is_live (element_at elements operand.reg) refl uses.1.used;
        sets = subst (λ l. Sets elements r (if_tracked (element_at elements r) l) a b)
            (append-nil (if_tracked (element_at elements operand.reg) (Register operand.reg ∷ [])))
            sets;
      }
    where
      is_live : (o : Option ℕ) → element_at elements operand.reg ≡ o
          → ((x : Element) → Contains (if_tracked o (Register operand.reg ∷ []) ++ []) x
          → LiveIn elements a x) → LiveIn elements a (Register operand.reg)
      is_live None is live = untracked_live elements a operand.reg is
      is_live (Some x) is live = live (Register operand.reg) (first_in (Register operand.reg) [])

      alone : (o : Option ℕ) (s y : Element)
          → Contains (if_tracked o (Register operand.reg ∷ []) ++ []) s
          → Contains (if_tracked o (Register operand.reg ∷ []) ++ []) y
          → TogetherIn elements a s y
      alone None s y has there = absurd (none_in s has)
      alone (Some x) s y has there =
          ap (region_in elements a) (sym (one_in (Register operand.reg) s has)
          ∙ one_in (Register operand.reg) y there)

  meets : (operands : List Operand) → Done (meet (marks_of elements operands)) a b
      → Gathers elements (tracked elements operands) a b
  meets operands done = met elements own a sized (tracked elements operands)
      (marks_of elements operands) (tracked_marked elements operands) b done

  keeps : (operands : List Operand) → Done (keep (marks_of elements operands)) a b
      → Gathers elements (Here ∷ tracked elements operands) a b
  keeps operands done = kept elements own a sized (tracked elements operands)
      (marks_of elements operands) (tracked_marked elements operands) b done

  makes : (r : ℕ) (operands : List Operand)
      → Done (make_of (element_at elements r) (marks_of elements operands)) a b
      → Makes elements r (tracked elements operands) a b
  makes r operands done = made_of elements own a sized r b (tracked elements operands)
      (marks_of elements operands) (tracked_marked elements operands) done

  uses : (operands : List Operand) → Done (need_each (marks_of elements operands)) a b
      → Uses elements (tracked elements operands) a b
  uses operands done = (uses_needed elements own a sized (tracked elements operands)
      (marks_of elements operands) (tracked_marked elements operands) b done).1

  loads : (o : Option ℕ) (r : ℕ) (cell : Operand) → Done (load_ops setting o r cell) a b
      → LoadsPart elements o r cell a b
  loads (Some number) r cell done = copies r cell done
  loads None r cell done = sets_here elements own a b sized r done

  stores : (o : Option ℕ) (cell src : Operand) → Done (store_ops setting o cell src) a b
      → StoresPart elements o cell src a b
  stores (Some number) cell src done = meets (cell ∷ src ∷ []) done
  stores None cell src done = keeps (src ∷ []) done

  starts : (shares : Bool) (code site : ℕ) (captures : List Operand)
      → Done (task_ops shares code site (marks_of elements captures)) a b
      → StartsTask shares elements (tracked elements captures) a b
  starts true code site captures done = keeps captures done
  starts false code site captures done =
      sends_parted elements own a sized (tracked elements captures) (marks_of elements captures)
      (tracked_marked elements captures) b code site done

  pub instr_moves : (instr : Instr) → Done (instr_ops setting instr) a b
      → InstrMoves setting instr a b
  instr_moves (Const at dst value) done = unchanged done
  instr_moves (Un at dst op src) done = unchanged done
  instr_moves (Bin at dst op left right) done = unchanged done
  instr_moves (Print at dst args) done = unchanged done
  instr_moves (Copy at dst src) done = copies dst src done
  instr_moves (Field at dst src part) done = copies dst src done
  instr_moves (Payload at dst src index) done = copies dst src done
  instr_moves (SetField at target part src) done = meets (target ∷ src ∷ []) done
  instr_moves (Make at dst shape tag args) done = makes dst args done
  instr_moves (NewObject at dst shape args) done = makes dst args done
  instr_moves (NewBox at dst src) done = makes dst (src ∷ []) done
  instr_moves (NewActor at dst shape args) done = uses args done
  instr_moves (LoadBox at dst cell) done = copies dst cell done
  instr_moves (StoreBox at cell src) done = meets (cell ∷ src ∷ []) done
  instr_moves (LoadProp at dst cell part) done = loads (element_at elements cell.reg) dst cell done
  instr_moves (StoreProp at cell part src) done =
      stores (element_at elements cell.reg) cell src done
  instr_moves (LoadGlobal at dst global) done = sets_here elements own a b sized dst done
  instr_moves (StoreGlobal at global src) done = keeps (src ∷ []) done
  instr_moves (NewClosure at dst function captures) done = closed_over elements own a sized dst b
      (iso_is setting is_isolated function) (tracked elements captures)
      (marks_of elements captures) (tracked_marked elements captures) done
  instr_moves (Call at dst kind function args) done = calls_function elements own kind
      (free_code setting.body.iso) at dst args (slice_get setting.functions function) a b sized done
  instr_moves (CallClosure at dst closure args) done = calls elements own PlainCall 0 at false dst []
      (tracked elements (closure ∷ args)) [] (marks_of elements (closure ∷ args)) refl
      (tracked_marked elements (closure ∷ args)) a b sized done
  instr_moves (NewTask at dst function captures) done =
      starts (iso_is setting (λ iso. shares_actor iso setting.body.iso) function)
      (free_code setting.body.iso) at captures done
  instr_moves (Await at dst task) done = unchanged done
  instr_moves (Yield at dst) done = unchanged done
