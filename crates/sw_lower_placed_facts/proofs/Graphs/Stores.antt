-- A `var` part is stored, and a global `let` by a function that gives a first value alone.
use Rattle.std.proofs.Common.{◌≡◌, ℕ, true, List, Some, Contains, sym, ap, subst}
use Rattle.std.proofs.Common.{All, ◌∙◌, map, slice_get, true≢false}
use Rattle.std.proofs.lemmas.Option.{slice_get-map}
use Rattle.std.specs.Option.{option_map}
use Rattle.sw_graph.specs.Placed.{ActorOfClass, StorePlaced, is_var_global, is_var_part}
use Rattle.sw_graph.specs.Points.{Middle, point_in}
use Rattle.sw_graph.specs.declared.function.Function.{Function}
use Rattle.sw_graph.specs.declared.graph.Graph.{Graph}
use Rattle.sw_graph.specs.declared.instr.Instr.{Instr}
use Rattle.sw_graph.specs.declared.instr.Instr.TheVariants.{StoreGlobal, StoreProp}
use Rattle.sw_decls.specs.declared.signature.GlobalVar.{GlobalVar}
use Rattle.sw_lower_code.specs.Whole.{Body}
use Rattle.sw_lower_rules.specs.Tables.{plain}
use Rattle.sw_typing_facts.proofs.Lists.Found.{mapped}
use Rattle.sw_typing_facts.proofs.Lists.Listed.{in_place}
use Rattle.sw_lower_placed_facts.specs.Allowed.{IsAllowed}
use Rattle.sw_lower_placed_facts.specs.Bodies.{ArePlaced}
use Rattle.sw_lower_placed_facts.specs.Hosts.{Program, Host}
use Rattle.sw_lower_placed_facts.proofs.Graphs.Accesses.{global_variable, globals}
use Rattle.sw_lower_placed_facts.proofs.Graphs.Accesses.{part_variable, shapes}
use Rattle.sw_lower_placed_facts.proofs.Graphs.Functions.{InOrder}
use Rattle.sw_lower_placed_facts.proofs.Graphs.Initialisers.{made}
use Rattle.sw_lower_placed_facts.proofs.Graphs.Standing.{InEach, HostOf, at_points, made_either}

-- The functions with these numbers give the global variables their first values, in order.
abbrev pub AreStarts : Program → List ℕ → Type 0
AreStarts program starts = map Some starts
    ≡ map (λ (global : GlobalVar). program.numbers (plain global.key.at))
    program.tables.world.globals

-- the number of what gives a global variable its first value
pub start_has : (program : Program) (starts : List ℕ) → AreStarts program starts → (g n : ℕ)
    (global : GlobalVar) → slice_get program.tables.world.globals g ≡ Some global
    → program.numbers (plain global.key.at) ≡ Some n → Contains starts n
start_has program starts are g n global is found =
    let number = λ (global : GlobalVar). program.numbers (plain global.key.at) in
    let (f, at, same) = mapped Some (slice_get starts g) (Some n)
    (sym (slice_get-map Some starts g) ∙ ap (λ all. slice_get all g) are
    ∙ slice_get-map number program.tables.world.globals g ∙ ap (option_map number) is
    ∙ ap Some found) in
    let here : f ≡ n = cc in
    in_place starts g n (at ∙ ap Some here)

module _ (program : Program) (ordered : List Body) (is : InOrder program ordered)
    (placed : ArePlaced program) (actors : All ActorOfClass (shapes program)) (graph : Graph)
    (same_shapes : graph.shapes ≡ shapes program) (same_globals : graph.globals ≡ globals program)
    (functions : graph.functions ≡ program.functions)
    (starts : AreStarts program graph.starts) where
  -- what is stored where it may be is a `var`
  allowed : (n : ℕ) (function : Function) (host : Host) → HostOf function host → (instr : Instr)
      → IsAllowed program host function.regs instr → StorePlaced graph n function instr
  allowed n function host of (StoreProp at o i s) ok =
      subst (λ all. is_var_part all function o i ≡ true) (sym same_shapes)
      (part_variable program actors function host of o i ok.uses.used ∙ ok.uses.ok.variable)
  allowed n function host of (StoreGlobal at g s) ok =
      λ constant. absurd (true≢false (sym ok.uses.ok.variable
      ∙ sym (global_variable program actors function host of g ok.uses.global ok.uses.is)
      ∙ ap (λ all. is_var_global all g) (sym same_globals) ∙ constant))
  allowed n function host of _ ok = tt

  each : InEach program ordered (λ n function block index instr. StorePlaced graph n function instr)
  each = record {
    allowed = λ n body at host of block index instr ok. allowed n _ host of instr ok;
    makes = λ n body at one block index key r operands apart last.
        made_either (StorePlaced graph n (made program body)) one.shape.kind key r
        one.k operands tt tt;
    gives = λ n body at one block index key s constant.
        start_has program graph.starts starts one.g n one.global one.is
        (ap program.numbers (sym one.named) ∙ is.numbered n body at);
  }

  pub stores_placed : (n : ℕ) (body : Function) (p : ℕ) (instr : Instr)
      → slice_get graph.functions n ≡ Some body → point_in body p ≡ Some (Middle instr)
      → StorePlaced graph n body instr
  stores_placed n body p instr there here =
      at_points program ordered (λ n function instr. StorePlaced graph n function instr) each is
      placed n body (subst (λ all. slice_get all n ≡ Some body) functions there) p instr here
