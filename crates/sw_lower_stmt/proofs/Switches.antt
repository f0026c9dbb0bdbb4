-- The code of a `switch` by its trees.
use Rattle.std.proofs.Common.{◌≡◌, ℕ, List, Option, Some, None, Ok, ap, refl, sym, ◌∙◌}
use Rattle.std.specs.Option.{unwrap_or}
use Rattle.sw_tree.specs.declared.expr.Expr.{Expr}
use Rattle.sw_tree.specs.declared.stmt.Block.{Block}
use Rattle.sw_tree.specs.declared.stmt.CaseArm.{CaseArm}
use Rattle.sw_graph.specs.declared.instr.Last.TheVariants as last
use Rattle.sw_graph.specs.declared.instr.Operand.{Operand}
use Rattle.sw_types.specs.declared.shape.Shape.{Shape}
use Rattle.sw_lower_plans.specs.Run.{Making, run_after}
use Rattle.sw_lower_code.specs.Code.{Code, all, andthen, close, each, resume, ◌>>=◌, ◌>>◌}
use Rattle.sw_lower_rules.specs.Expressions.{block_made}
use Rattle.sw_lower_rules.specs.Statements.{Arm, arm_block, arm_code, default_block, default_code}
use Rattle.sw_lower_rules.specs.Statements.{expr_code, switch_code, switch_to}
use Rattle.sw_lower_rules.specs.Tables.{Tables}
use Rattle.sw_lower_rules.specs.Uses.{shape_at, shape_of}
use Rattle.sw_lower_rules.specs.declared.targets.Targets.{Targets}
use Rattle.sw_lower_stmt.proofs.CaseArms.{arms_numbered, goes}
use Rattle.sw_lower_stmt.proofs.Loops.{after_then, done_then, then_same, then_then}
use Rattle.sw_lower_stmt.specs.Parts.{arm_number, blocks_opened, case_codes}
use Rattle.sw_lower_stmt.specs.Parts.{default_number, goes_to, numbered, otherwise_code}
use Rattle.sw_lower_stmt.specs.Parts.{switch_arms, switch_opened}

module _ (tables : Tables) (owner : Option ℕ) (subject : Expr) (trees : List CaseArm)
    (otherwise : Option Block) (targets : Targets) where
  -- what follows the block of `default`
  abbrev ended : Operand → Shape → List Arm → Option ℕ → Code (Unit {0})
  ended given shape arms default = block_made
      >>= λ merge. close (last.Switch given
      (switch_to shape.cases arms (unwrap_or default merge)))
      >> all (arm_code tables given targets merge) arms
      >> default_code tables (otherwise_code tables owner otherwise) default targets merge
      >> resume merge

  -- what follows the blocks of the arms
  abbrev begun : Operand → Shape → List Arm → Code (Unit {0})
  begun given shape arms = default_number otherwise >>= ended given shape arms

  abbrev flat : Code (Unit {0})
  flat = (expr_code tables owner subject).read
      >>= λ given. shape_of tables (expr_code tables owner subject).key
      >>= λ number. shape_at tables number
      >>= λ shape. each (arm_number given number shape) trees
      >>= λ blocks. begun given shape (numbered tables owner trees blocks)

  same_default : (tree : Option Block)
      → default_block tables (otherwise_code tables owner tree) ≡ default_number tree
  same_default None = refl
  same_default (Some tree) = refl

  arms_then : (given : Operand) (number : ℕ) (shape : Shape) (next : List Arm → Code (Unit {0}))
      (s : Making)
      → (each (arm_block tables given number shape) (case_codes tables owner trees) >>= next).run s
      ≡ (each (arm_number given number shape) trees
      >>= λ blocks. next (numbered tables owner trees blocks)).run s
  unfolding andthen
  arms_then given number shape next s =
      ap (λ run. run_after run (λ arms. (next arms).run))
      (arms_numbered tables owner given number shape trees s)
      ∙ after_then ((each (arm_number given number shape) trees).run s)
      (λ blocks t. Ok (numbered tables owner trees blocks, t)) (λ arms. (next arms).run)
      (λ blocks. (next (numbered tables owner trees blocks)).run) (λ blocks t. refl)

  code_flat : (s : Making)
      → (switch_code tables (expr_code tables owner subject) (case_codes tables owner trees)
      (otherwise_code tables owner otherwise) targets).run s ≡ flat.run s
  code_flat s =
      then_same (expr_code tables owner subject).read _ _ s (λ given t.
      then_same (shape_of tables (expr_code tables owner subject).key) _ _ t (λ number u.
      then_same (shape_at tables number) _ _ u (λ shape v.
      then_same (each (arm_block tables given number shape) (case_codes tables owner trees)) _
      (begun given shape) v
      (λ arms w. ap (λ code. (code >>= ended given shape arms).run w) (same_default otherwise))
      ∙ arms_then given number shape (begun given shape) v)))

  -- what follows the end of the block before
  abbrev later : Operand → List Arm → Option ℕ → ℕ → Code (Unit {0})
  later given arms default merge = all (arm_code tables given targets merge) arms
      >> default_code tables (otherwise_code tables owner otherwise) default targets merge
      >> resume merge

  blocks_flat : (given : Operand) (number : ℕ) (shape : Shape) (s : Making)
      → (blocks_opened given number shape trees otherwise
      >>= switch_arms tables owner trees otherwise targets).run s
      ≡ (each (arm_number given number shape) trees
      >>= λ blocks. begun given shape (numbered tables owner trees blocks)).run s
  unfolding blocks_opened
  blocks_flat given number shape s =
      then_then (each (arm_number given number shape) trees) _ _ _ s (λ blocks t.
      then_then (default_number otherwise) _ _ _ t (λ default t.
      then_then block_made _ _ _ t (λ merge t.
      then_then (close (last.Switch given
      (goes_to shape.cases trees blocks (unwrap_or default merge)))) _ _
      (λ _. later given (numbered tables owner trees blocks) default merge) t
      (λ _ t. done_then _ (switch_arms tables owner trees otherwise targets) t)
      ∙ ap (λ to. (close (last.Switch given to)
      >> later given (numbered tables owner trees blocks) default merge).run t)
      (sym (goes tables owner shape.cases trees blocks (unwrap_or default merge))))))

  opened_flat : (s : Making)
      → (switch_opened tables owner subject trees otherwise
      >>= switch_arms tables owner trees otherwise targets).run s ≡ flat.run s
  unfolding switch_opened
  opened_flat s =
      then_then (expr_code tables owner subject).read _ _ _ s (λ given t.
      then_then _ _ _ _ t (λ number t. then_then _ _ _ _ t (λ shape t.
      blocks_flat given number shape t)))

  pub switch_is : (s : Making)
      → (switch_code tables (expr_code tables owner subject) (case_codes tables owner trees)
      (otherwise_code tables owner otherwise) targets).run s
      ≡ (switch_opened tables owner subject trees otherwise
      >>= switch_arms tables owner trees otherwise targets).run s
  switch_is s = code_flat s ∙ sym (opened_flat s)
