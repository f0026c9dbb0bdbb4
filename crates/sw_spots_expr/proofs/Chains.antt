-- The work of operators stands where their code is.
use Rattle.std.proofs.Common.{ℕ, List, [], ◌∷◌, refl, subst}
use Rattle.sw_tree.specs.declared.operator.InfixOp.{InfixOp}
use Rattle.sw_tree.specs.declared.operator.InfixOp.TheVariants as infix_of
use Rattle.sw_tree.specs.declared.operator.PrefixOp.{PrefixOp}
use Rattle.sw_tree.specs.declared.operator.PrefixOp.TheVariants as prefix_of
use Rattle.sw_types.specs.declared.ty.Ty.{Ty}
use Rattle.sw_types.specs.declared.ty.Ty.TheVariants as types
use Rattle.sw_graph.specs.declared.function.Function.{Function}
use Rattle.sw_graph.specs.declared.instr.BinOp.{BinOp}
use Rattle.sw_graph.specs.declared.instr.BinOp.TheVariants as bin
use Rattle.sw_graph.specs.declared.instr.Instr.TheVariants as instr
use Rattle.sw_graph.specs.declared.instr.Operand.{Operand}
use Rattle.sw_graph.specs.declared.instr.UnOp.{UnOp}
use Rattle.sw_graph.specs.declared.instr.UnOp.TheVariants as un
use Rattle.sw_lower_plans.specs.Plan.{Numbers}
use Rattle.sw_lower_code.specs.Code.{Code, done, ◌>>=◌}
use Rattle.sw_lower_rules.specs.Carriers.{LinkCode}
use Rattle.sw_lower_rules.specs.Expressions.{binary, by_op, links_read, prefixed}
use Rattle.sw_lower_rules.specs.Tables.{Tables}
use Rattle.sw_lower_rules.specs.Uses.{give, operand}
use Rattle.sw_tree_work.specs.Forms as works
use Rattle.sw_tree_work.specs.Forms.{LinkWork, in_order, link_work}
use Rattle.sw_tree_work.specs.Work as work
use Rattle.sw_tree_work.specs.Work.{Before}
use Rattle.sw_spots.specs.Doing.{Does}
use Rattle.sw_spots.specs.Forms.{LinkStands, ValueStands, program}
use Rattle.sw_spots.specs.Spots.{Program}
use Rattle.sw_spots.proofs.Joining.{does_done, does_then}
use Rattle.sw_spots.proofs.Writing.{does_give}
use Rattle.sw_spots_expr.proofs.Logic.{does_both, does_either}

module _ (tables : Tables) (numbers : Numbers) (functions : List Function) where
  abbrev p : Program
  p = program tables numbers functions

  -- an operator before one operand
  does_unary : (at : ℕ) (op : UnOp) (ty : Ty) (x : Operand) (temps : List ℕ)
      → Does p numbers (x.reg ∷ temps) (give at ty (λ r. instr.Un at r op x))
      (work.Then (work.Unary at op)) (λ o. o.reg ∷ temps)
  does_unary at op ty x temps =
      does_give p numbers (x.reg ∷ temps) temps at ty (λ r. instr.Un at r op x)
      (work.Then (work.Unary at op)) (λ n all. all.1)
      (λ f rings rest s gives. (x, refl, gives))

  does_prefixed : (op : PrefixOp) (at : ℕ) (x : Operand) (temps : List ℕ)
      → Does p numbers (x.reg ∷ temps) (prefixed op at x) (work.Then (works.prefixed op at))
      (λ o. o.reg ∷ temps)
  does_prefixed prefix_of.Not at x temps = does_unary at un.Not types.Bool x temps
  does_prefixed prefix_of.Negate at x temps = does_unary at un.Neg types.Int x temps

  pub reads_prefix : (op : PrefixOp) (at : ℕ) (read : Code Operand) (before : Before)
      → ValueStands tables numbers functions read before
      → ValueStands tables numbers functions (read >>= prefixed op at)
      (λ rest. before (work.Then (works.prefixed op at) rest))
  reads_prefix op at read before is temps =
      does_then p numbers temps read (prefixed op at) before (work.Then (works.prefixed op at))
      (λ o. o.reg ∷ temps) (λ o. o.reg ∷ temps) (is temps)
      (λ x. does_prefixed op at x temps)

  -- an awaited value has another key
  pub reads_await : (at : ℕ) (read : Code Operand) (before : Before)
      → ValueStands tables numbers functions read before
      → ValueStands tables numbers functions (read >>= λ given. done (operand given.reg at)) before
  reads_await at read before is temps =
      does_then p numbers temps read (λ given. done (operand given.reg at)) before (λ rest. rest)
      (λ o. o.reg ∷ temps) (λ o. o.reg ∷ temps) (is temps)
      (λ x. does_done p numbers (x.reg ∷ temps) (operand x.reg at) (λ o. o.reg ∷ temps)
      (λ s ready. ready.temporaries) (λ s. refl))

  -- an operator between two operands, after the left one
  does_binary : (at : ℕ) (op : BinOp) (ty : Ty) (right : Code Operand) (before : Before)
      (left : Operand) (temps : List ℕ) → ValueStands tables numbers functions right before
      → Does p numbers (left.reg ∷ temps) (binary at op ty right left)
      (works.by_two at op before) (λ o. o.reg ∷ temps)
  does_binary at op ty right before left temps is =
      does_then p numbers (left.reg ∷ temps) right
      (λ other. give at ty (λ r. instr.Bin at r op left other)) before
      (work.Then (work.Binary at op)) (λ o. o.reg ∷ left.reg ∷ temps) (λ o. o.reg ∷ temps)
      (is (left.reg ∷ temps))
      (λ other. does_give p numbers (other.reg ∷ left.reg ∷ temps) temps at ty
      (λ r. instr.Bin at r op left other) (work.Then (work.Binary at op)) (λ n all. all.1.1)
      (λ f rings rest s gives. (left, refl, (other, refl, gives))))

  does_op : (op : InfixOp) (at : ℕ) (right : Code Operand) (before : Before) (left : Operand)
      (temps : List ℕ) → ValueStands tables numbers functions right before
      → Does p numbers (left.reg ∷ temps) (by_op op at right left) (works.by_op op at before)
      (λ o. o.reg ∷ temps)
  does_op infix_of.Or at right before left temps is =
      does_either p numbers at right before is left temps
  does_op infix_of.And at right before left temps is =
      does_both p numbers at right before is left temps
  does_op infix_of.Equal at right before left temps is =
      does_binary at bin.Eq types.Bool right before left temps is
  does_op infix_of.NotEqual at right before left temps is =
      does_binary at bin.Ne types.Bool right before left temps is
  does_op infix_of.Less at right before left temps is =
      does_binary at bin.Lt types.Bool right before left temps is
  does_op infix_of.LessEqual at right before left temps is =
      does_binary at bin.Le types.Bool right before left temps is
  does_op infix_of.Greater at right before left temps is =
      does_binary at bin.Gt types.Bool right before left temps is
  does_op infix_of.GreaterEqual at right before left temps is =
      does_binary at bin.Ge types.Bool right before left temps is
  does_op infix_of.Add at right before left temps is =
      does_binary at bin.Add types.Int right before left temps is
  does_op infix_of.Subtract at right before left temps is =
      does_binary at bin.Sub types.Int right before left temps is
  does_op infix_of.Multiply at right before left temps is =
      does_binary at bin.Mul types.Int right before left temps is
  does_op infix_of.Divide at right before left temps is =
      does_binary at bin.Div types.Int right before left temps is
  does_op infix_of.Remainder at right before left temps is =
      does_binary at bin.Rem types.Int right before left temps is

  does_link : (link : LinkCode) (one : LinkWork) (left : Operand) (temps : List ℕ)
      → LinkStands tables numbers functions link one
      → Does p numbers (left.reg ∷ temps) (by_op link.op link.at link.read left) (link_work one)
      (λ o. o.reg ∷ temps)
  does_link link one left temps is =
      subst (λ op. Does p numbers (left.reg ∷ temps) (by_op link.op link.at link.read left)
      (works.by_op op one.at one.read) (λ o. o.reg ∷ temps)) is.op
      (subst (λ at. Does p numbers (left.reg ∷ temps) (by_op link.op link.at link.read left)
      (works.by_op link.op at one.read) (λ o. o.reg ∷ temps)) is.at
      (does_op link.op link.at link.read one.read left temps is.read))

  -- operators of one rank, from the left
  abbrev pub LinksStand : List LinkCode → List LinkWork → Type 0
  LinksStand [] [] = Unit {0}
  LinksStand (link ∷ links) (one ∷ ones) =
      LinkStands tables numbers functions link one × LinksStand links ones
  LinksStand _ _ = ⊥

  does_links : (links : List LinkCode) (ones : List LinkWork) (left : Operand) (temps : List ℕ)
      → LinksStand links ones
      → Does p numbers (left.reg ∷ temps) (links_read links left) (in_order link_work ones)
      (λ o. o.reg ∷ temps)
  unfolding links_read
  does_links [] [] left temps are =
      does_done p numbers (left.reg ∷ temps) left (λ o. o.reg ∷ temps)
      (λ s ready. ready.temporaries) (λ s. refl)
  does_links (link ∷ links) (one ∷ ones) left temps are =
      does_then p numbers (left.reg ∷ temps) (by_op link.op link.at link.read left)
      (links_read links) (link_work one) (in_order link_work ones) (λ o. o.reg ∷ temps)
      (λ o. o.reg ∷ temps) (does_link link one left temps are.0)
      (λ given. does_links links ones given temps are.1)
  does_links [] (one ∷ ones) left temps are = absurd are
  does_links (link ∷ links) [] left temps are = absurd are

  pub reads_chain : (read : Code Operand) (before : Before) (links : List LinkCode)
      (ones : List LinkWork) → ValueStands tables numbers functions read before
      → LinksStand links ones
      → ValueStands tables numbers functions (read >>= links_read links)
      (λ rest. before (in_order link_work ones rest))
  reads_chain read before links ones is are temps =
      does_then p numbers temps read (links_read links) before (in_order link_work ones)
      (λ o. o.reg ∷ temps) (λ o. o.reg ∷ temps) (is temps)
      (λ left. does_links links ones left temps are)
