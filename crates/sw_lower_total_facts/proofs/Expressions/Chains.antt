-- Operators between values ask for nothing that isn't known.
use Rattle.std.proofs.Common.{◌<◌, ℕ, List, [], ◌∷◌, ◌++◌, length}
use Rattle.std.proofs.lemmas.List.Elements.{All-append, All-nil}
use Rattle.std.specs.Prelude.{flat_map}
use Rattle.sw_tree.specs.declared.operator.InfixOp.{InfixOp}
use Rattle.sw_tree.specs.declared.operator.InfixOp.TheVariants as infix_of
use Rattle.sw_types.specs.declared.ty.Ty.{Ty}
use Rattle.sw_types.specs.declared.ty.Ty.TheVariants as types
use Rattle.sw_graph.specs.declared.function.RegKind.TheVariants.{Plain}
use Rattle.sw_graph.specs.declared.instr.BinOp.{BinOp}
use Rattle.sw_graph.specs.declared.instr.BinOp.TheVariants as bin
use Rattle.sw_graph.specs.declared.instr.Instr.TheVariants as instr
use Rattle.sw_graph.specs.declared.instr.Last.{Last}
use Rattle.sw_graph.specs.declared.instr.Last.TheVariants as last
use Rattle.sw_graph.specs.declared.instr.Operand.{Operand}
use Rattle.sw_typing_rules.specs.declared.scope.Var.{Var}
use Rattle.sw_isolation_rules.specs.declared.note.Note.{Note}
use Rattle.sw_isolation_rules.specs.declared.uses.Context.{Context}
use Rattle.sw_lower_plans.specs.Plan.{Anywhere, Numbers}
use Rattle.sw_lower_plans.specs.Run.{Making}
use Rattle.sw_lower_code.specs.Code.{Code, close, done, emit, reg, resume, ◌>>=◌, ◌>>◌}
use Rattle.sw_lower_rules.specs.Carriers.{ExprCode, LinkCode}
use Rattle.sw_lower_rules.specs.Expressions.{binary, block_made, by_op, copied, jump}
use Rattle.sw_lower_rules.specs.Expressions.{links_read, right_in, value}
use Rattle.sw_lower_rules.specs.Tables.{Tables}
use Rattle.sw_lower_rules.specs.Uses.{give, operand}
use Rattle.sw_lower_total_facts.specs.Bound.{Ready, seen_in}
use Rattle.sw_lower_total_facts.specs.Forms.{ExprProceeds, LinksProceed}
use Rattle.sw_lower_total_facts.specs.Proceeding.{BodyProceeds, Proceeds}
use Rattle.sw_lower_total_facts.proofs.Proceeding.Blocks.{made_below, more_below}
use Rattle.sw_lower_total_facts.proofs.Proceeding.Each.{Goes}
use Rattle.sw_lower_total_facts.proofs.Proceeding.Ready.{then_ready}
use Rattle.sw_lower_total_facts.proofs.Proceeding.Steps.{proceeds_block, proceeds_close, proceeds_done}
use Rattle.sw_lower_total_facts.proofs.Proceeding.Steps.{proceeds_emit, proceeds_resume}
use Rattle.sw_lower_total_facts.proofs.Proceeding.Using.{goes_done, goes_emit, goes_give, goes_left}
use Rattle.sw_lower_total_facts.proofs.Proceeding.Using.{goes_reg, goes_right, goes_then}

module _ (tables : Tables) (number : Numbers) (context : Context) (listed : List ℕ)
    (vars : List Var) (notes : List Note) where
  abbrev seen : List ℕ
  seen = seen_in tables context.owner vars

  abbrev Going : {A : Type 0} → Code A → Type 0
  Going code = Goes tables number context listed seen notes code

  abbrev At : Making → Type 0
  At s = Ready tables number context listed seen notes s

  -- an operator between two values
  binary_goes : (at : ℕ) (op : BinOp) (ty : Ty) (right : Code Operand) (left : Operand)
      → Going right → Going (binary at op ty right left)
  binary_goes at op ty right left goes =
      goes_then tables number context listed seen notes right
      (λ other. give at ty (λ r. instr.Bin at r op left other)) goes
      (λ other. goes_give tables number context listed seen notes at ty
      (λ r. instr.Bin at r op left other))

  -- the left value, kept
  copied_goes : (at : ℕ) (left : Operand) → Going (copied at left)
  copied_goes at left =
      goes_then tables number context listed seen notes (reg (Plain types.Bool))
      (λ r. emit (instr.Copy at r left) >> done r)
      (goes_reg tables number context listed seen notes (Plain types.Bool))
      (λ r. goes_then tables number context listed seen notes (emit (instr.Copy at r left))
      (λ _. done r) (goes_emit tables number context listed seen notes (instr.Copy at r left))
      (λ _. goes_done tables number context listed seen notes r))

  -- The right value is looked at in a block that was made, and code goes on in another.
  right_proceeds : (at r : ℕ) (right : Code Operand) (own merge : ℕ) (s : Making) → At s
      → Going right → own < length s.made.blocks → merge < length s.made.blocks
      → Proceeds s (right_in at r right own merge)
  right_proceeds at r right own merge s ready goes own_made merge_made =
      then_ready tables number context listed seen notes (resume own) (λ _. right >>= with_right) s
      ready (proceeds_resume own s own_made)
      (λ _ t ready_t ran made_t.
      then_ready tables number context listed seen notes right with_right t ready_t
      (goes t ready_t)
      (λ other u ready_u ran_u made_u.
      then_ready tables number context listed seen notes (emit (instr.Copy at r other))
      (λ _. jump merge >> go_on) u ready_u (proceeds_emit (instr.Copy at r other) u)
      (λ _ v ready_v ran_v made_v.
      then_ready tables number context listed seen notes (jump merge) (λ _. go_on) v ready_v
      (proceeds_close (last.Jump merge) v)
      (λ _ w ready_w ran_w made_w.
      then_ready tables number context listed seen notes (resume merge)
      (λ _. done (operand r at)) w ready_w
      (proceeds_resume merge w
      (more_below (jump merge) v w tt merge made_w
      (more_below (emit (instr.Copy at r other)) u v tt merge made_v
      (more_below right t u other merge made_u
      (more_below (resume own) s t tt merge made_t merge_made)))))
      (λ _ x ready_x ran_x made_x. proceeds_done (operand r at) x))))) where
        go_on : Code Operand
        go_on = resume merge >> done (operand r at)

        with_right : Operand → Code Operand
        with_right other = emit (instr.Copy at r other) >> jump merge >> go_on

  -- `&&` and `||`: the right value has a block of its own
  halves_go : (at : ℕ) (left : Operand) (right : Code Operand) (ends : ℕ → ℕ → Last) → Going right
      → Going (copied at left
      >>= λ r. block_made
      >>= λ own. block_made >>= λ merge. close (ends own merge) >> right_in at r right own merge)
  halves_go at left right ends goes =
      goes_then tables number context listed seen notes (copied at left) two (copied_goes at left)
      (λ r s ready.
      then_ready tables number context listed seen notes block_made
      (λ own. block_made >>= rest r own)
      s
      ready (proceeds_block Anywhere s)
      (λ own t ready_t ran_t made_t.
      then_ready tables number context listed seen notes block_made (rest r own) t ready_t
      (proceeds_block Anywhere t)
      (λ merge u ready_u ran_u made_u.
      then_ready tables number context listed seen notes (close (ends own merge))
      (λ _. right_in at r right own merge) u ready_u (proceeds_close (ends own merge) u)
      (λ _ v ready_v ran_v made_v.
      right_proceeds at r right own merge v ready_v goes
      (more_below (close (ends own merge)) u v tt own made_v
      (more_below block_made t u merge own made_u (made_below Anywhere s t own made_t)))
      (more_below (close (ends own merge)) u v tt merge made_v
      (made_below Anywhere t u merge made_u)))))) where
        rest : ℕ → ℕ → ℕ → Code Operand
        rest r own merge = close (ends own merge) >> right_in at r right own merge

        two : ℕ → Code Operand
        two r = block_made >>= λ own. block_made >>= rest r own

  -- an operator and its right operand
  pub op_goes : (op : InfixOp) (at : ℕ) (right : Code Operand) (left : Operand) → Going right
      → Going (by_op op at right left)
  op_goes infix_of.Or at right left goes =
      halves_go at left right (λ own merge. last.Branch left merge own) goes
  op_goes infix_of.And at right left goes =
      halves_go at left right (λ own merge. last.Branch left own merge) goes
  op_goes infix_of.Equal at right left goes = binary_goes at bin.Eq types.Bool right left goes
  op_goes infix_of.NotEqual at right left goes = binary_goes at bin.Ne types.Bool right left goes
  op_goes infix_of.Less at right left goes = binary_goes at bin.Lt types.Bool right left goes
  op_goes infix_of.LessEqual at right left goes = binary_goes at bin.Le types.Bool right left goes
  op_goes infix_of.Greater at right left goes = binary_goes at bin.Gt types.Bool right left goes
  op_goes infix_of.GreaterEqual at right left goes =
      binary_goes at bin.Ge types.Bool right left goes
  op_goes infix_of.Add at right left goes = binary_goes at bin.Add types.Int right left goes
  op_goes infix_of.Subtract at right left goes = binary_goes at bin.Sub types.Int right left goes
  op_goes infix_of.Multiply at right left goes = binary_goes at bin.Mul types.Int right left goes
  op_goes infix_of.Divide at right left goes = binary_goes at bin.Div types.Int right left goes
  op_goes infix_of.Remainder at right left goes = binary_goes at bin.Rem types.Int right left goes

module _ (tables : Tables) (number : Numbers) (context : Context) (listed : List ℕ)
    (vars : List Var) where
  -- no operators
  pub no_links_proceed : (notes : List Note)
      → LinksProceed tables number context listed vars notes []
  unfolding links_read
  no_links_proceed notes = record {
    read = λ left.
        goes_done tables number context listed (seen_in tables context.owner vars) notes left;
    inside = All-nil (BodyProceeds number);
  }

  -- an operator before others
  pub link_proceeds : (one more : List Note) (op : InfixOp) (at : ℕ) (code : ExprCode)
      (links : List LinkCode) → ExprProceeds tables number context listed vars one code
      → LinksProceed tables number context listed vars more links
      → LinksProceed tables number context listed vars (one ++ more)
      (record { op = op; at = at; read = code.read; inside = code.inside } ∷ links)
  unfolding links_read
  link_proceeds one more op at code links proceeds rest = record {
    read = λ left.
        goes_then tables number context listed (seen_in tables context.owner vars) (one ++ more)
        (by_op op at code.read left) (links_read links)
        (op_goes tables number context listed vars (one ++ more) op at code.read left
        (goes_left tables number context listed (seen_in tables context.owner vars) one more
        code.read proceeds.read))
        (λ x. goes_right tables number context listed (seen_in tables context.owner vars) one more
        (links_read links x) (rest.read x));
    inside = All-append (BodyProceeds number) code.inside
        (flat_map (λ (link : LinkCode). link.inside) links) proceeds.inside rest.inside;
  }

  -- a value and operators
  pub chain_proceeds : (one more : List Note) (key : ℕ) (first : ExprCode) (links : List LinkCode)
      → ExprProceeds tables number context listed vars one first
      → LinksProceed tables number context listed vars more links
      → ExprProceeds tables number context listed vars (one ++ more)
      (value key (first.read >>= links_read links)
      (first.inside ++ flat_map (λ (link : LinkCode). link.inside) links))
  chain_proceeds one more key first links proceeds rest = record {
    read = goes_then tables number context listed (seen_in tables context.owner vars)
        (one ++ more) first.read (links_read links)
        (goes_left tables number context listed (seen_in tables context.owner vars) one more
        first.read proceeds.read)
        (λ x. goes_right tables number context listed (seen_in tables context.owner vars) one more
        (links_read links x) (rest.read x));
    inside = All-append (BodyProceeds number) first.inside
        (flat_map (λ (link : LinkCode). link.inside) links) proceeds.inside rest.inside;
  }
