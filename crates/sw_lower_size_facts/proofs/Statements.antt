-- The code of each form of statement is short.
use Rattle.std.proofs.Common.{◌≡◌, ℕ, ◌+◌, ◌*◌, ◌≤◌, Bool, true, false, List, [], ◌∷◌, ◌++◌, map}
use Rattle.std.proofs.Common.{flat_map, Option, Some, None, length, length-append, arith}
use Rattle.std.specs.List.{AllByRecursion, sum}
use Rattle.std.specs.Prelude.{if◌then◌else◌}
use Rattle.sw_tree.specs.declared.operator.AssignOp.{AssignOp}
use Rattle.sw_tree.specs.declared.operator.AssignOp.TheVariants as assigns
use Rattle.sw_tree_facts.specs.Sizes.{ExprSize}
use Rattle.sw_types.specs.declared.ty.Ty.{Ty}
use Rattle.sw_types.specs.declared.ty.Ty.TheVariants as types
use Rattle.sw_graph.specs.declared.instr.BinOp.{BinOp}
use Rattle.sw_graph.specs.declared.instr.BinOp.TheVariants as bin
use Rattle.sw_graph.specs.declared.instr.Operand.{Operand}
use Rattle.sw_typing_rules.specs.Verdicts.{is_unit}
use Rattle.sw_lower_plans.specs.Plan.{Anywhere, Place, after}
use Rattle.sw_lower_code.specs.Code.{Code, all, andthen, done, each, ◌>>=◌}
use Rattle.sw_lower_rules.specs.Bodies.{give_value}
use Rattle.sw_lower_rules.specs.Carriers.{BlockCode, ExprCode, Given, IfCode, StmtCode, no_targets}
use Rattle.sw_lower_rules.specs.Expressions.{body_code, with_result}
use Rattle.sw_lower_rules.specs.Statements.{arms_code, assign, assign_by, block_only, declare_var}
use Rattle.sw_lower_rules.specs.Statements.{given_part, ignored, in_new_block, leave, return_code}
use Rattle.sw_lower_rules.specs.Statements.{while_code}
use Rattle.sw_lower_rules.specs.Tables.{Tables}
use Rattle.sw_lower_rules.specs.declared.targets.Targets.{Targets}
use Rattle.sw_lower_code_facts.proofs.Declaring.{has_declare}
use Rattle.sw_lower_code_facts.proofs.Uses.{has_give}
use Rattle.sw_lower_size_facts.specs.Short.{AreShort, IsShort, MakesAtMost}
use Rattle.sw_lower_size_facts.proofs.Lists.{sum-cons}
use Rattle.sw_lower_size_facts.proofs.Steps.{after_block, after_quiet, before_quiet, makes_more}
use Rattle.sw_lower_size_facts.proofs.Steps.{makes_then, quiet, quiet_close, quiet_done}
use Rattle.sw_lower_size_facts.proofs.Steps.{quiet_known, quiet_resume, quiet_variables}

-- code that depends on where `break` and `continue` lead
abbrev pub ForTargets : ℕ → (Targets → Code (Unit {0})) → Type 0
ForTargets size code = (targets : Targets) → IsShort size (code targets)

-- the code of a value, where there is one
abbrev pub OnlyShort : ℕ → Option (Code Operand) → Type 0
OnlyShort size None = Unit {0}
OnlyShort size (Some read) = IsShort size read

-- what is given to properties
abbrev pub GivesShort : ℕ → List Given → Type 0
GivesShort size gives = IsShort size (each give_value gives)

pub record StmtShort (size : ℕ) (stmt : StmtCode) : Type 0 where
  pub code : ForTargets size stmt.code
  pub only : OnlyShort size stmt.only
  pub gives : GivesShort size stmt.gives
  pub inside : AreShort size size stmt.inside

pub record BlockShort (size : ℕ) (block : BlockCode) : Type 0 where
  pub code : ForTargets size block.code
  pub only : OnlyShort size block.only
  pub gives : GivesShort size block.gives
  pub inside : AreShort size size block.inside

-- an arm of an `if`
pub record IfShort (size : ℕ) (arm : IfCode) : Type 0 where
  pub test : ℕ
  pub block : ℕ
  pub fits : 1 + test + block ≤ size
  pub cond : IsShort test arm.cond
  pub body : BlockShort block arm.body
  pub inside : AreShort size size arm.inside

-- a block that may be left out
abbrev pub ForSome : ℕ → Option BlockCode → Type 0
ForSome size None = Unit {0}
ForSome size (Some block) = BlockShort size block

-- What is given, and more after it.
give_more : (one more : List Given) (n : ℕ) → MakesAtMost n (each give_value more)
    → (place : Place)
    → length ((each give_value (one ++ more)).plan place).made
    ≤ length ((each give_value one).plan place).made + n
unfolding andthen done each
give_more [] more n makes place = omega (arith, makes.few place)
give_more (given ∷ one) more n makes place =
    let piece = (give_value given).plan place in
    let next = after place piece in
    let first = ((each give_value one).plan next).made in
    let all = ((each give_value (one ++ more)).plan next).made in
    let fewer : length ((each give_value (given ∷ one)).plan place).made
    ≡ length piece.made + length first
    = omega (arith, length-append piece.made (first ++ []), length-append first []) in
    let longer : length ((each give_value (given ∷ one ++ more)).plan place).made
    ≡ length piece.made + length all
    = omega (arith, length-append piece.made (all ++ []), length-append all []) in
    let rest : length all ≤ length first + n = give_more one more n makes next in
    let whole : length ((each give_value (given ∷ one ++ more)).plan place).made
    ≤ length ((each give_value (given ∷ one)).plan place).made + n
    = omega (arith, fewer, longer, rest) in
    whole

pub gives_both : (one more : List Given) (a b n : ℕ) → GivesShort a one → GivesShort b more
    → a + b ≤ n → GivesShort n (one ++ more)
gives_both one more a b n first rest most = record {
  few = λ place.
      omega (arith, most, first.few place, give_more one more (3 * b) rest place);
}

pub gives_none : (size : ℕ) → GivesShort size []
unfolding each
gives_none size = makes_more 0 (3 * size) (done []) (quiet_done []) (omega arith)

pub gives_one : (size : ℕ) (given : Given) → IsShort size given.read
    → GivesShort size (given ∷ [])
unfolding each
gives_one size given short =
    before_quiet (3 * size) (give_value given) (λ y. each give_value [] >>= λ ys. done (y ∷ ys))
    (before_quiet (3 * size) given.read _ short (λ value. quiet_done _))
    (λ y. after_quiet 0 (done []) (λ ys. done (y ∷ ys)) (quiet_done []) (λ ys. quiet_done (y ∷ ys)))

-- what an assignment gives
pub part_gives : (size : ℕ) (name : Option ℕ) (read : Code Operand) → IsShort size read
    → GivesShort size (given_part name read)
part_gives size None read short = gives_none size
part_gives size (Some name) read short = gives_one size (record { name = name; read = read }) short

-- after a statement that leaves
new_block : MakesAtMost 1 in_new_block
new_block = after_block 0 1 Anywhere _ (λ block. quiet_resume block) (omega arith)

-- assignments
assigned_by : (at : ℕ) (op : BinOp) (place : ExprCode) (given : Operand) (size : ExprSize)
    → IsShort size.read place.read → ((given : Operand) → IsShort size.write (place.write given))
    → IsShort (size.read + size.write) (assign_by at op place given)
assigned_by at op place given size read write =
    makes_then (3 * size.read) (3 * size.write) (3 * (size.read + size.write)) place.read _ read
    (λ old. after_quiet (3 * size.write) _ _ (has_give quiet at types.Int _ (λ r. tt)) write)
    (omega arith)

pub assign_short : (op : AssignOp) (at : ℕ) (place : ExprCode) (given : Operand) (size : ExprSize)
    → IsShort size.read place.read → ((given : Operand) → IsShort size.write (place.write given))
    → IsShort (size.read + size.write) (assign op at place given)
assign_short assigns.Set at place given size read write =
    makes_more (3 * size.write) (3 * (size.read + size.write)) (place.write given) (write given)
    (omega arith)
assign_short assigns.Add at place given size read write =
    assigned_by at bin.Add place given size read write
assign_short assigns.Subtract at place given size read write =
    assigned_by at bin.Sub place given size read write
assign_short assigns.Multiply at place given size read write =
    assigned_by at bin.Mul place given size read write
assign_short assigns.Divide at place given size read write =
    assigned_by at bin.Div place given size read write
assign_short assigns.Remainder at place given size read write =
    assigned_by at bin.Rem place given size read write

pub ignored_short : (tables : Tables) (size : ℕ) (read : Code Operand) → IsShort size read
    → IsShort size (ignored tables read)
ignored_short tables size read short = before_quiet (3 * size) read _ short (λ given. quiet_done tt)

pub declared_short : (tables : Tables) (key size : ℕ) (read : Code Operand) → IsShort size read
    → IsShort size (read >>= declare_var tables key)
declared_short tables key size read short =
    before_quiet (3 * size) read _ short (has_declare quiet quiet_variables tables key)

-- the arms of an `if`: three blocks for each
pub arms_short : {Y : Type 0} (part : Y → IfCode) (size : Y → ℕ) (ys : List Y)
    (otherwise : Code (Unit {0})) (last : ℕ) (targets : Targets)
    → AllByRecursion (λ y. IfShort (size y) (part y)) ys → IsShort last otherwise
    → IsShort (sum (map size ys) + last) (arms_code (map part ys) otherwise targets)
unfolding arms_code
arms_short part size [] otherwise last targets short rest =
    makes_more (3 * last) (3 * (0 + last)) otherwise rest (omega arith)
arms_short part size (y ∷ ys) otherwise last targets short rest =
    let arm = short.0 in
    let more = 3 * (sum (map size ys) + last) in
    let body = 3 * arm.block + more in
    makes_then (3 * arm.test) (3 + body) (3 * (sum (size y ∷ map size ys) + last)) _ _ arm.cond
    (λ given.
    after_block (2 + body) (3 + body) Anywhere _ (λ yes.
    after_block (1 + body) (2 + body) Anywhere _ (λ no.
    after_block body (1 + body) Anywhere _ (λ merge.
    after_quiet body _ _ (quiet_close _) (λ closed.
    after_quiet body _ _ (quiet_resume yes) (λ resumed.
    makes_then (3 * arm.block) more body _ _ (arm.body.code targets) (λ done.
    after_quiet more _ _ (quiet_close _) (λ jumped.
    after_quiet more _ _ (quiet_resume no) (λ again.
    before_quiet more _ _ (arms_short part size ys otherwise last targets short.1 rest) (λ done.
    after_quiet 0 _ _ (quiet_close _) (λ merged. quiet_resume merge)))))
    (omega arith)))) (omega arith)) (omega arith)) (omega arith))
    (omega (arith, arm.fits, sum-cons (size y) (map size ys)))

-- loops
pub while_short : (test block : ℕ) (cond : Code Operand) (body : BlockCode) → IsShort test cond
    → BlockShort block body → IsShort (1 + test + block) (while_code cond body)
while_short test block cond body of_cond of_body =
    let inside = 3 * test + 3 * block in
    after_block (2 + inside) (3 * (1 + test + block)) Anywhere _ (λ head.
    after_block (1 + inside) (2 + inside) Anywhere _ (λ inner.
    after_block inside (1 + inside) Anywhere _ (λ after.
    after_quiet inside _ _ (quiet_close _) (λ jumped.
    after_quiet inside _ _ (quiet_resume head) (λ resumed.
    makes_then (3 * test) (3 * block) inside _ _ of_cond (λ given.
    after_quiet (3 * block) _ _ (quiet_close _) (λ closed.
    after_quiet (3 * block) _ _ (quiet_resume inner) (λ entered.
    before_quiet (3 * block) _ _ (of_body.code _) (λ done.
    after_quiet 0 _ _ (quiet_close _) (λ again. quiet_resume after))))) (omega arith))))
    (omega arith)) (omega arith)) (omega arith)

-- `return`, `break` and `continue`: a block after each
pub return_nothing : (tables : Tables) → IsShort 1 (return_code tables None)
return_nothing tables =
    after_quiet 3 _ _ (quiet_close _) (λ closed.
    makes_more 1 3 in_new_block new_block (omega arith))

pub return_short : (tables : Tables) (size : ℕ) (read : Code Operand) → IsShort size read
    → IsShort (1 + size) (return_code tables (Some read))
return_short tables size read short =
    makes_then (3 * size) 1 (3 * (1 + size)) read _ short (λ given.
    after_quiet 1 _ _ (quiet_close _) (λ closed. new_block)) (omega arith)

pub leave_short : (tables : Tables) (to : Option ℕ) → IsShort 1 (leave tables to)
leave_short tables to =
    after_quiet 3 _ _ (quiet_known _ _) (λ number.
    after_quiet 3 _ _ (quiet_close _) (λ jumped.
    makes_more 1 3 in_new_block new_block (omega arith)))

-- the code of a body
with_short : (size : ℕ) (only : Option (Code Operand)) (block : BlockCode) → OnlyShort size only
    → BlockShort size block → IsShort size (with_result only block)
with_short size None block only short =
    before_quiet (3 * size) _ _ (short.code no_targets) (λ done. quiet_close _)
with_short size (Some read) block only short =
    before_quiet (3 * size) read _ only (λ given. quiet_close _)

chosen : (is : Bool) (size : ℕ) (only : Option (Code Operand)) → OnlyShort size only
    → OnlyShort size (if is then None else only)
chosen true size only short = tt
chosen false size only short = short

pub body_short : (size : ℕ) (result : Ty) (block : BlockCode) → BlockShort size block
    → IsShort size (body_code result block)
unfolding body_code
body_short size result block short =
    with_short size (if is_unit result then None else block.only) block
    (chosen (is_unit result) size block.only short.only) short

-- the only statement of a block
pub only_short : {Y : Type 0} (part : Y → StmtCode) (size : Y → ℕ) (ys : List Y)
    → AllByRecursion (λ y. StmtShort (size y) (part y)) ys
    → OnlyShort (sum (map size ys)) (block_only (map part ys))
only_short part size [] short = tt
only_short part size (y ∷ []) short = more (part y).only short.0.only where
  more : (only : Option (Code Operand)) → OnlyShort (size y) only
      → OnlyShort (sum (size y ∷ [])) only
  more None short = tt
  more (Some read) short =
      makes_more (3 * size y) (3 * sum (size y ∷ [])) read short
      (omega (arith, sum-cons (size y) []))
only_short part size (y ∷ other ∷ ys) short = tt

-- what all statements of a block give
pub all_give : {Y : Type 0} (part : Y → StmtCode) (size : Y → ℕ) (ys : List Y)
    → AllByRecursion (λ y. StmtShort (size y) (part y)) ys
    → GivesShort (sum (map size ys)) (flat_map (λ (one : StmtCode). one.gives) (map part ys))
all_give part size [] short = gives_none 0
all_give part size (y ∷ ys) short =
    gives_both (part y).gives (flat_map (λ (one : StmtCode). one.gives) (map part ys)) (size y)
    (sum (map size ys)) (sum (size y ∷ map size ys)) short.0.gives (all_give part size ys short.1)
    (omega (arith, sum-cons (size y) (map size ys)))
