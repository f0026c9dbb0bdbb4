-- The code of each form of statement has what the steps have, which make blocks, end them and go on
-- in others.
use Rattle.std.proofs.Common.{ℕ, List, [], ◌∷◌, Option, Some, None}
use Rattle.std.specs.List.{AllByRecursion}
use Rattle.sw_types.specs.declared.shape.Shape.{Shape}
use Rattle.sw_graph.specs.declared.instr.Operand.{Operand}
use Rattle.sw_lower_plans.specs.Plan.{Anywhere, OfCase}
use Rattle.sw_lower_code.specs.Code.{Code, all, each, known}
use Rattle.sw_lower_rules.specs.Carriers.{BlockCode, CaseCode, ExprCode, IfCode}
use Rattle.sw_lower_rules.specs.Statements.{Arm, arm_block, arm_code, arms_code, case_from}
use Rattle.sw_lower_rules.specs.Statements.{default_block, default_code, else_code, in_new_block}
use Rattle.sw_lower_rules.specs.Statements.{leave, return_code, switch_code, switch_targets, while_code}
use Rattle.sw_lower_rules.specs.Tables.{Tables}
use Rattle.sw_lower_rules.specs.declared.targets.Targets.{Targets}
use Rattle.sw_lower_code_facts.specs.Kept.{Kept}
use Rattle.sw_lower_code_facts.specs.Said.{ForSome, ForTargets, Said}
use Rattle.sw_lower_code_facts.specs.Steps.{KeptByBlocks, KeptByStatements, KeptByVariables}
use Rattle.sw_lower_code_facts.proofs.Declaring.{has_assign, has_declare, has_patterns}
use Rattle.sw_lower_code_facts.proofs.Logic.{has_jump}
use Rattle.sw_lower_code_facts.proofs.Uses.{has_each_of, has_shape_at, has_shape_of}

module _ (kept : Kept) (blocks : KeptByBlocks kept)
    (variables : KeptByVariables kept) (statements : KeptByStatements kept blocks) where
  abbrev Has : {A : Type 0} → Code A → Type 0
  Has code = kept.Has code

  abbrev StmtHas : Code (Unit {0}) → Type 0
  StmtHas code = kept.Has code

  -- code for each item
  has_all : {A : Type 0} (code : A → Code (Unit {0})) (xs : List A)
      → AllByRecursion (λ x. Has (code x)) xs → Has (all code xs)
  unfolding all
  has_all code [] have = kept.done tt
  has_all code (x ∷ xs) have = kept.after (code x) _ have.0 (λ y. has_all code xs have.1)

  -- what is so of each value that code gives for items
  gives_each : {A B : Type 0} (P : B → Type 0) (code : A → Code B) (xs : List A)
      → AllByRecursion (λ x. statements.Gives P (code x)) xs
      → statements.Gives (AllByRecursion P) (each code xs)
  unfolding each
  gives_each P code [] give = statements.gives_done (AllByRecursion P) [] tt
  gives_each P code (x ∷ xs) give =
      statements.gives_after P (AllByRecursion P) (code x) _ give.0 (λ y first.
      statements.gives_after (AllByRecursion P) (AllByRecursion P) (each code xs) _
      (gives_each P code xs give.1) (λ ys rest.
      statements.gives_done (AllByRecursion P) (y ∷ ys) (first, rest)))

  -- after a statement that leaves
  has_new_block : Has in_new_block
  has_new_block = blocks.after_block Anywhere _ (λ block fresh. blocks.resume block fresh)

  -- the arms of an `if`
  has_else : (otherwise : Option BlockCode) (targets : Targets) → ForSome StmtHas otherwise
      → Has (else_code otherwise targets)
  has_else None targets has = kept.done tt
  has_else (Some block) targets has = has targets

  has_arms : (arms : List IfCode) (otherwise : Code (Unit {0})) (targets : Targets)
      → AllByRecursion (λ (arm : IfCode). Has arm.cond × ForTargets StmtHas arm.body.code) arms
      → Has otherwise → Has (arms_code arms otherwise targets)
  unfolding arms_code
  has_arms [] otherwise targets have last = last
  has_arms (arm ∷ arms) otherwise targets have last =
      kept.after _ _ have.0.0 (λ given.
      blocks.after_block Anywhere _ (λ yes fresh_yes.
      blocks.after_block Anywhere _ (λ no fresh_no.
      blocks.after_block Anywhere _ (λ merge fresh.
      kept.after _ _ (blocks.close _) (λ closed.
      kept.after _ _ (blocks.resume yes fresh_yes) (λ resumed.
      kept.after _ _ (have.0.1 targets) (λ done.
      kept.after _ _ (has_jump kept blocks merge) (λ jumped.
      kept.after _ _ (blocks.resume no fresh_no) (λ again.
      kept.after _ _ (has_arms arms otherwise targets have.1 last) (λ rest.
      kept.after _ _ (has_jump kept blocks merge) (λ merged.
      blocks.resume merge fresh)))))))))))

  -- loops
  has_while : (cond : Code Operand) (body : BlockCode) → Has cond → ForTargets StmtHas body.code
      → Has (while_code cond body)
  has_while cond body of_cond of_body =
      blocks.after_block Anywhere _ (λ head fresh_head.
      blocks.after_block Anywhere _ (λ inner fresh_inner.
      blocks.after_block Anywhere _ (λ after fresh.
      kept.after _ _ (has_jump kept blocks head) (λ jumped.
      kept.after _ _ (blocks.resume head fresh_head) (λ resumed.
      kept.after _ _ of_cond (λ given.
      kept.after _ _ (blocks.close _) (λ closed.
      kept.after _ _ (blocks.resume inner fresh_inner) (λ entered.
      kept.after _ _ (of_body _) (λ done.
      kept.after _ _ (has_jump kept blocks head) (λ again.
      blocks.resume after fresh))))))))))

  -- an arm of a `switch` with its block: a fresh one, and the body has the property
  record ArmHas (one : Arm) : Type 0 where
    pub fresh : blocks.Fresh one.block
    pub body : ForTargets StmtHas one.arm.body.code

  abbrev SomeFresh : Option ℕ → Type 0
  SomeFresh None = Unit {0}
  SomeFresh (Some block) = blocks.Fresh block

  module _ (tables : Tables) where
    -- the arms of a `switch`
    has_arm_block : (subject : Operand) (number : ℕ) (shape : Shape) (arm : CaseCode)
        → Has (arm_block tables subject number shape arm)
    has_arm_block subject number shape arm =
        kept.after _ _ (kept.known _ _) (λ tag.
        blocks.after_block (OfCase subject.reg number tag) _ (λ block fresh. kept.done _))

    gives_arm_block : (subject : Operand) (number : ℕ) (shape : Shape) (arm : CaseCode)
        → ForTargets StmtHas arm.body.code
        → statements.Gives ArmHas (arm_block tables subject number shape arm)
    gives_arm_block subject number shape arm has =
        statements.gives_after (λ tag. Unit {0}) ArmHas _ _
        (statements.gives_any (known 0 (case_from 0 shape.cases arm.name.id))) (λ tag any.
        statements.gives_after blocks.Fresh ArmHas _ _
        (statements.gives_block (OfCase subject.reg number tag)) (λ block fresh.
        statements.gives_done ArmHas (record { arm = arm; block = block })
        (record { fresh = fresh; body = has })))

    give_arm_blocks : (subject : Operand) (number : ℕ) (shape : Shape) (arms : List CaseCode)
        → AllByRecursion (λ (arm : CaseCode). ForTargets StmtHas arm.body.code) arms
        → AllByRecursion
        (λ arm. statements.Gives ArmHas (arm_block tables subject number shape arm)) arms
    give_arm_blocks subject number shape [] have = tt
    give_arm_blocks subject number shape (arm ∷ arms) have = (
      gives_arm_block subject number shape arm have.0,
      give_arm_blocks subject number shape arms have.1,
    )

    has_arm : (subject : Operand) (targets : Targets) (merge : ℕ) (one : Arm) → ArmHas one
        → Has (arm_code tables subject targets merge one)
    has_arm subject targets merge one has =
        kept.after _ _ (blocks.resume one.block has.fresh) (λ resumed.
        kept.after _ _ (statements.scope _
        (kept.after _ _ (has_patterns kept variables tables subject 0 one.arm.patterns) (λ taken.
        has.body (switch_targets tables targets merge)))) (λ done. has_jump kept blocks merge))

    have_arms : (subject : Operand) (targets : Targets) (merge : ℕ) (arms : List Arm)
        → AllByRecursion ArmHas arms
        → AllByRecursion (λ one. Has (arm_code tables subject targets merge one)) arms
    have_arms subject targets merge [] have = tt
    have_arms subject targets merge (one ∷ more) have = (
      has_arm subject targets merge one have.0,
      have_arms subject targets merge more have.1,
    )

    -- its `default`
    has_default_block : (otherwise : Option BlockCode) → Has (default_block tables otherwise)
    has_default_block None = kept.done None
    has_default_block (Some block) =
        blocks.after_block Anywhere _ (λ number fresh. kept.done (Some number))

    gives_default : (otherwise : Option BlockCode)
        → statements.Gives SomeFresh (default_block tables otherwise)
    gives_default None = statements.gives_done SomeFresh None tt
    gives_default (Some block) =
        statements.gives_after blocks.Fresh SomeFresh _ _ (statements.gives_block Anywhere)
        (λ number fresh. statements.gives_done SomeFresh (Some number) fresh)

    has_default : (otherwise : Option BlockCode) (default : Option ℕ) (targets : Targets)
        (merge : ℕ) → ForSome StmtHas otherwise → SomeFresh default
        → Has (default_code tables otherwise default targets merge)
    has_default None None targets merge has fresh = kept.done tt
    has_default None (Some number) targets merge has fresh = kept.done tt
    has_default (Some block) None targets merge has fresh = kept.done tt
    has_default (Some block) (Some number) targets merge has fresh =
        kept.after _ _ (blocks.resume number fresh) (λ resumed.
        kept.after _ _ (has (switch_targets tables targets merge)) (λ done.
        has_jump kept blocks merge))

    has_switch : (subject : ExprCode) (arms : List CaseCode) (otherwise : Option BlockCode)
        (targets : Targets) → Has subject.read
        → AllByRecursion (λ (arm : CaseCode). ForTargets StmtHas arm.body.code) arms
        → ForSome StmtHas otherwise → Has (switch_code tables subject arms otherwise targets)
    has_switch subject arms otherwise targets of_subject have last =
        kept.after _ _ of_subject (λ given.
        kept.after _ _ (has_shape_of kept tables subject.key) (λ number.
        kept.after _ _ (has_shape_at kept tables number) (λ shape.
        statements.after_given (AllByRecursion ArmHas) _ _
        (has_each_of kept _ arms (has_arm_block given number shape))
        (gives_each ArmHas (arm_block tables given number shape) arms
        (give_arm_blocks given number shape arms have)) (λ arm_blocks these.
        statements.after_given SomeFresh _ _ (has_default_block otherwise) (gives_default otherwise)
        (λ default fresh_default.
        blocks.after_block Anywhere _ (λ merge fresh.
        kept.after _ _ (blocks.close _) (λ closed.
        kept.after _ _ (has_all _ arm_blocks (have_arms given targets merge arm_blocks these)) (λ done.
        kept.after _ _ (has_default otherwise default targets merge last fresh_default) (λ ended.
        blocks.resume merge fresh)))))))))

    -- `return`, `break` and `continue`
    has_return : (read : Code Operand) → Has read → Has (return_code tables (Some read))
    has_return read has =
        kept.after read _ has (λ given.
        kept.after _ _ (blocks.close _) (λ closed. has_new_block))

    has_leave : (to : Option ℕ) → Has (leave tables to)
    has_leave to =
        kept.after _ _ (kept.known _ _) (λ number.
        kept.after _ _ (has_jump kept blocks number) (λ jumped. has_new_block))

    -- So the property itself is said of statements.
    pub said_by_steps : Said kept tables
    said_by_steps = record {
      Says = StmtHas;
      declared = λ key read has. kept.after read _ has (has_declare kept variables tables key);
      assigned = λ op at place read of_place has.
          kept.after read _ has (λ given. has_assign kept op at place given of_place);
      unused = λ read has. kept.after read _ has (λ given. kept.done tt);
      branches = λ arms otherwise targets have last.
          has_arms arms _ targets have (has_else otherwise targets last);
      loop = has_while;
      switch = has_switch;
      return_nothing = kept.after _ _ (blocks.close _) (λ closed. has_new_block);
      return_value = has_return;
      left = has_leave;
      block = λ stmts targets have. statements.scope _ (has_all _ stmts have);
      ended = λ code has. kept.after code _ has (λ done. blocks.close _);
      ended_by = λ read has. kept.after read _ has (λ given. blocks.close _);
    }

    pub said_has : (code : Code (Unit {0})) → said_by_steps.Says code → Has code
    unfolding said_by_steps
    said_has code has = has
