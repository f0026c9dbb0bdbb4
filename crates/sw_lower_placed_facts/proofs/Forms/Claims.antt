-- What is claimed of each tree and of each list of trees, by how it is judged: its code is placed.
use Rattle.std.proofs.Common.{◌≡◌, ℕ, ◌<◌, Bool, false, List, Option, map, flat_map, length}
use Rattle.std.proofs.Common.{option_map}
use Rattle.std.specs.Prelude.{All}
use Rattle.sw_tree.specs.Folds.{fold_arg, fold_block, fold_case_arm, fold_if_arm, fold_link}
use Rattle.sw_tree.specs.Folds.{fold_stmt}
use Rattle.sw_tree.specs.declared.expr.Arg.{Arg}
use Rattle.sw_tree.specs.declared.expr.Expr.{Expr}
use Rattle.sw_tree.specs.declared.expr.Link.{Link}
use Rattle.sw_tree.specs.declared.stmt.Block.{Block}
use Rattle.sw_tree.specs.declared.stmt.CaseArm.{CaseArm}
use Rattle.sw_tree.specs.declared.stmt.IfArm.{IfArm}
use Rattle.sw_tree.specs.declared.stmt.Stmt.{Stmt}
use Rattle.sw_types.specs.declared.shape.CaseShape.{CaseShape}
use Rattle.sw_graph.specs.declared.instr.Operand.{Operand}
use Rattle.sw_typing_rules.specs.Calls.{Slot}
use Rattle.sw_typing_rules.specs.Expressions.{Judged, Passed}
use Rattle.sw_typing_rules.specs.Judges as is
use Rattle.sw_typing_rules.specs.Statements.{Armed, Left, State}
use Rattle.sw_typing_rules.specs.Words.{Setting}
use Rattle.sw_typing_rules.specs.declared.row.Row.{Row}
use Rattle.sw_typing_rules.specs.declared.scope.Inside.{Inside}
use Rattle.sw_typing_rules.specs.declared.scope.Var.{Var}
use Rattle.sw_isolation_rules.specs.declared.uses.Context.{Context}
use Rattle.sw_lower_plans.specs.Run.{Making}
use Rattle.sw_lower_code.specs.Whole.{Body}
use Rattle.sw_lower_rules.specs.Carriers.{ArgCode, CaseCode, IfCode, LinkCode, StmtCode}
use Rattle.sw_lower_rules.specs.Expressions.{args_inside, args_read, links_read}
use Rattle.sw_lower_rules.specs.Statements.{block_code, code_steps, expr_code, inside_of, stmt_code}
use Rattle.sw_lower_formed_facts.specs.Forms.{VarsHold}
use Rattle.sw_typing_facts.specs.Rows.{RowsHold}
use Rattle.sw_lower_formed_facts.proofs.Statements.Cases.{HeadFits}
use Rattle.sw_lower_placed_facts.specs.Claims.{AreInside, AreOrdinary, BlockNoted, BlockPlaced}
use Rattle.sw_lower_placed_facts.specs.Claims.{ExprPlaced, StmtPlaced}
use Rattle.sw_lower_placed_facts.specs.Placing.{PlacesAt}
use Rattle.sw_lower_placed_facts.specs.Hosts.{IsSeenFrom, IsHost, Program, Host}
use Rattle.sw_lower_placed_facts.proofs.Forms.Blocks.{StmtsPlaced}
use Rattle.sw_lower_placed_facts.proofs.Forms.Branches.{ArmsPlaced, CasesPlaced, OtherwisePlaced}
use Rattle.sw_lower_placed_facts.proofs.Forms.Noted.{ArgsNoted, ArmsNoted, CasesNoted, LinksNoted}
use Rattle.sw_lower_placed_facts.proofs.Forms.Noted.{OtherwiseNoted, StmtNoted, StmtsNoted}
use Rattle.sw_lower_placed_facts.proofs.Placing.Later.{AreBelow}

module _ (program : Program) (host : Host) where
  -- arguments
  abbrev pub ArgsPlaced : List ArgCode → Type 0
  ArgsPlaced args = (s : Making) → PlacesAt program host s (args_read args)
      (λ xs t. AreBelow t xs × AreOrdinary program (args_inside args))

  -- the operators of a chain, after a value
  abbrev pub LinksPlaced : List LinkCode → Type 0
  LinksPlaced links = (left : Operand) (s : Making) → left.reg < length s.made.regs
      → PlacesAt program host s (links_read links left)
      (λ x t. (x.reg < length t.made.regs)
      × AreOrdinary program (flat_map (λ (link : LinkCode). link.inside) links))

module _ (program : Program) where
  -- a tree in a host, whose bodies are those of the program
  abbrev pub Somewhere : Option ℕ → List Var → List Row → (Host → List Body)
      → (Host → Context → List ℕ → Type 0) → Type 0
  Somewhere owner vars rows inside Claim = (host : Host) → IsHost program host
      → owner ≡ host.owner → VarsHold program.tables.answers vars
      → RowsHold program.tables.answers rows → AreInside program (inside host)
      → (context : Context) (listed : List ℕ) → IsSeenFrom host context
      → Claim host context listed

  -- expressions
  abbrev pub ExprClaim : {setting : Setting} {expected : Bool} {expr : Expr} {judged : Judged}
      → is.Judges program.tables.world setting expected expr judged → Type 0
  ExprClaim {setting} {expected} {expr} {judged} judges =
      Somewhere setting.owner setting.vars judged.rows
      (λ host. (expr_code program.tables host.owner expr).inside)
      (λ host context listed.
      ExprPlaced program host context listed setting.vars expr judged.settable)

  -- arguments
  abbrev args_of : Host → List Arg → List ArgCode
  args_of host args = map (fold_arg (code_steps program.tables host.owner)) args

  abbrev pub ArgsClaim : {setting : Setting} {slots : List Slot} {args : List Arg}
      {passed : Passed} → is.Passes program.tables.world setting slots args passed → Type 0
  ArgsClaim {setting} {slots} {args} {passed} passes =
      Somewhere setting.owner setting.vars passed.rows
      (λ host. args_inside (args_of host args))
      (λ host context listed. ArgsNoted program context listed setting.vars args
      → ArgsPlaced program host (args_of host args))

  -- the operators of a chain
  abbrev links_of : Host → List Link → List LinkCode
  links_of host links = map (fold_link (code_steps program.tables host.owner)) links

  abbrev pub LinksClaim : {setting : Setting} {left judged : Judged} {links : List Link}
      → is.Links program.tables.world setting left links judged → Type 0
  LinksClaim {setting} {left} {judged} {links} of_links =
      Somewhere setting.owner setting.vars judged.rows
      (λ host. flat_map (λ (link : LinkCode). link.inside) (links_of host links))
      (λ host context listed. LinksNoted program context listed setting.vars links
      → LinksPlaced program host (links_of host links))

  -- blocks
  abbrev pub BlockClaim : {inside : Inside} {state : State} {block : Block} {left : Left}
      → is.LeavesBlock program.tables.world inside state block left → Type 0
  BlockClaim {inside} {state} {block} {left} leaves = inside.init ≡ false
      → Somewhere inside.owner state.vars left.rows
      (λ host. (block_code program.tables host.owner block).inside)
      (λ host context listed. BlockNoted program context listed state.vars block
      → BlockPlaced program host (block_code program.tables host.owner block))

  -- the statements of a block
  abbrev stmts_of : Host → List Stmt → List StmtCode
  stmts_of host list = map (fold_stmt (code_steps program.tables host.owner)) list

  abbrev pub StmtsClaim : {inside : Inside} {state : State} {list : List Stmt} {left : Left}
      → is.LeavesAll program.tables.world inside state list left → Type 0
  StmtsClaim {inside} {state} {list} {left} leaves = inside.init ≡ false
      → Somewhere inside.owner state.vars left.rows
      (λ host. flat_map (λ (one : StmtCode). one.inside) (stmts_of host list))
      (λ host context listed. StmtsNoted program context listed state.vars list
      → StmtsPlaced program host (stmts_of host list))

  -- statements
  abbrev pub StmtClaim : {inside : Inside} {state : State} {stmt : Stmt} {left : Left}
      → is.Leaves program.tables.world inside state stmt left → Type 0
  StmtClaim {inside} {state} {stmt} {left} leaves = inside.init ≡ false
      → Somewhere inside.owner state.vars left.rows
      (λ host. (stmt_code program.tables host.owner stmt).inside)
      (λ host context listed. StmtNoted program context listed state.vars stmt
      → StmtPlaced program host (stmt_code program.tables host.owner stmt))

  -- the arms of an `if`
  abbrev arms_of : Host → List IfArm → List IfCode
  arms_of host arms = map (fold_if_arm (code_steps program.tables host.owner)) arms

  abbrev pub ArmsClaim : {inside : Inside} {state : State} {arms : List IfArm} {left : Left}
      → is.LeavesArms program.tables.world inside state arms left → Type 0
  ArmsClaim {inside} {state} {arms} {left} leaves = inside.init ≡ false
      → Somewhere inside.owner state.vars left.rows
      (λ host. flat_map (λ (arm : IfCode). arm.inside) (arms_of host arms))
      (λ host context listed. ArmsNoted program context listed state.vars arms
      → ArmsPlaced program host (arms_of host arms))

  -- an `else` or a `default`
  abbrev pub OtherwiseClaim : {ends : Bool} {inside : Inside} {state : State}
      {other : Option Block} {left : Left}
      → is.LeavesOtherwise program.tables.world ends inside state other left → Type 0
  OtherwiseClaim {ends} {inside} {state} {other} {left} leaves = inside.init ≡ false
      → Somewhere inside.owner state.vars left.rows
      (λ host. inside_of (option_map (fold_block (code_steps program.tables host.owner)) other))
      (λ host context listed. OtherwiseNoted program context listed state.vars other
      → OtherwisePlaced program host
      (option_map (fold_block (code_steps program.tables host.owner)) other))

  -- the arms of a `switch`
  abbrev cases_of : Host → List CaseArm → List CaseCode
  cases_of host arms = map (fold_case_arm (code_steps program.tables host.owner)) arms

  abbrev pub CasesClaim : {inside : Inside} {cases : Option (List CaseShape)} {state : State}
      {arms : List CaseArm} {armed : Armed}
      → is.LeavesCases program.tables.world inside cases state arms armed → Type 0
  CasesClaim {inside} {cases} {state} {arms} {armed} leaves = inside.init ≡ false
      → All (HeadFits cases) armed.heads
      → Somewhere inside.owner state.vars armed.left.rows
      (λ host. flat_map (λ (arm : CaseCode). arm.body.inside) (cases_of host arms))
      (λ host context listed. CasesNoted program context listed state.vars arms
      → CasesPlaced program host (cases_of host arms))
