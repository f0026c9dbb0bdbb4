-- A statement keeps the variables that are visible before it, and adds one at most.
use Rattle.std.proofs.Common.{◌≡◌, ℕ, Bool, true, false, List, [], ◌++◌, Option, Some, None}
use Rattle.std.proofs.Common.{length, take, refl, sym, ap, ◌∙◌, if◌then◌else◌}
use Rattle.std.proofs.lemmas.List.{append-nil, append_assoc, take_at}
use Rattle.sw_tree.specs.declared.name.Name.{Name}
use Rattle.sw_tree.specs.declared.stmt.Block.{Block, out-Block}
use Rattle.sw_tree.specs.declared.stmt.CaseArm.{CaseArm}
use Rattle.sw_tree.specs.declared.stmt.IfArm.{IfArm}
use Rattle.sw_tree.specs.declared.stmt.Stmt.{Stmt}
use Rattle.sw_types.specs.declared.shape.CaseShape.{CaseShape}
use Rattle.sw_types.specs.declared.ty.Ty.{Ty}
use Rattle.sw_typing_rules.proofs.Sound.{leaves_block}
use Rattle.sw_typing_rules.specs.Expressions.{Judged}
use Rattle.sw_typing_rules.specs.Judges as is
use Rattle.sw_typing_rules.specs.Judging.{leave_block}
use Rattle.sw_typing.specs.Walked.{block_left, stmts_left}
use Rattle.sw_typing.proofs.Walking.{block_is}
use Rattle.sw_typing_rules.specs.Statements.{State, Left, Armed, bind_left, plain_left, result_left}
use Rattle.sw_typing_rules.specs.Statements.{return_void, return_value, discard_left}
use Rattle.sw_typing_rules.specs.Statements.{accepted_left, is_one, with_only, written}
use Rattle.sw_typing_rules.specs.Verdicts.{is_unit}
use Rattle.sw_typing_rules.specs.Worlds.{World}
use Rattle.sw_typing_rules.specs.declared.scope.Inside.{Inside}
use Rattle.sw_typing_rules.specs.declared.scope.Returned.{Returned}
use Rattle.sw_typing_rules.specs.declared.scope.Returned.TheVariants.{Wants, Open, Gives}
use Rattle.sw_typing_rules.specs.declared.scope.Var.{Var}

-- the second list is the first with more after it
abbrev pub Grown : List Var → List Var → Type 0
Grown old new = (more : List Var) × (new ≡ old ++ more)

same_grown : (old new : List Var) → new ≡ old → Grown old new
same_grown old new e = ([], e ∙ sym (append-nil old))

grown_then : (a b c : List Var) → Grown a b → Grown b c → Grown a c
grown_then a b c (more, p) (last, q) =
    (more ++ last, q ∙ ap (λ vars. vars ++ last) p ∙ append_assoc a more last)

pub grown_take : (old new : List Var) → Grown old new → take (length old) new ≡ old
grown_take old new (more, p) = ap (take (length old)) p ∙ take_at old more (length old) refl

bind_grown : (s : State) (mutable : Bool) (name : Name) (ty : Option Ty) (value : Judged)
    → Grown s.vars (bind_left s mutable name ty value).state.vars
bind_grown s mutable name None value = (_, refl)
bind_grown s mutable name (Some ty) value = (_, refl)

void_vars : (r : Returned) (s : State) (at : ℕ) → (return_void r s at).state.vars ≡ s.vars
void_vars (Wants ty) s at = refl
void_vars (Open places) s at = refl
void_vars (Gives None) s at = refl
void_vars (Gives (Some ty)) s at = refl

value_vars : (r : Returned) (s : State) (at : ℕ) (value : Judged)
    → (return_value r s at value).state.vars ≡ s.vars
value_vars (Wants ty) s at value = refl
value_vars (Open places) s at value = refl
value_vars (Gives None) s at value = refl
value_vars (Gives (Some ty)) s at value = refl

either_vars : (b : Bool) (s : State) (value : Judged) (ty : Ty)
    → (if b then discard_left s value else accepted_left s value.key value ty).state.vars ≡ s.vars
either_vars true s value ty = refl
either_vars false s value ty = refl

result_vars : (r : Returned) (s : State) (value : Judged)
    → (result_left r s value).state.vars ≡ s.vars
result_vars (Wants ty) s value = either_vars (is_unit ty) s value ty
result_vars (Open places) s value = refl
result_vars (Gives ty) s value = refl

plain_vars : (only : Bool) (s : State) (value : Judged)
    → (plain_left only s value).state.vars ≡ s.vars
plain_vars false s value = refl
plain_vars true s value = result_vars s.returned s value

module _ (world : World) where
  arms_vars : (i : Inside) (s : State) (arms : List IfArm) (l : Left)
      → is.LeavesArms world i s arms l → l.state.vars ≡ s.vars
  arms_vars i s arms l (is.no_arm _ _) = refl
  arms_vars i s arms l (is.one_arm _ _ at cond body more judged left last d b rest) =
      arms_vars i _ more last rest

  otherwise_vars : (ends : Bool) (i : Inside) (s : State) (o : Option Block) (l : Left)
      → is.LeavesOtherwise world ends i s o l → l.state.vars ≡ s.vars
  otherwise_vars ends i s o l (is.absent _ _) = refl
  otherwise_vars ends i s o l (is.absent_default _ _) = refl
  otherwise_vars ends i s o l (is.present _ _ _ body left d) = refl

  cases_vars : (i : Inside) (cases : Option (List CaseShape)) (s : State) (arms : List CaseArm)
      (a : Armed) → is.LeavesCases world i cases s arms a → a.left.state.vars ≡ s.vars
  cases_vars i cases s arms a (is.no_case _ _ _) = refl
  cases_vars i cases s arms a (is.one_case _ _ _ name patterns body more left armed d rest) =
      cases_vars i cases _ more armed rest

  stmt_grown : (i : Inside) (s : State) (stmt : Stmt) (l : Left) → is.Leaves world i s stmt l
      → Grown s.vars l.state.vars
  stmt_grown i s stmt l (is.bind _ _ mutable name ty value judged d) =
      bind_grown s mutable name (written world ty) judged
  stmt_grown i s stmt l (is.assign _ _ at op place value placed judged p d) =
      same_grown s.vars s.vars refl
  stmt_grown i s stmt l (is.discard _ _ at value judged d) = same_grown s.vars s.vars refl
  stmt_grown i s stmt l (is.if_of _ _ arms otherwise left last a o) =
      same_grown s.vars _ (otherwise_vars false i _ otherwise last o ∙ arms_vars i s arms left a)
  stmt_grown i s stmt l (is.while_of _ _ at cond body judged left d b) =
      same_grown s.vars s.vars refl
  stmt_grown i s stmt l (is.switch _ _ at subject arms otherwise judged armed last d c o) =
      same_grown s.vars _
      (otherwise_vars true _ _ otherwise last o ∙ cases_vars _ _ s arms armed c)
  stmt_grown i s stmt l (is.return_nothing _ _ at) =
      same_grown s.vars _ (void_vars s.returned s at)
  stmt_grown i s stmt l (is.return_of _ _ at value judged d) =
      same_grown s.vars _ (value_vars s.returned s at judged)
  stmt_grown i s stmt l (is.break_of _ _ at) = same_grown s.vars s.vars refl
  stmt_grown i s stmt l (is.continue_of _ _ at) = same_grown s.vars s.vars refl
  stmt_grown i s stmt l (is.plain _ _ value judged d) =
      same_grown s.vars _ (plain_vars i.only s judged)

  all_grown : (i : Inside) (s : State) (stmts : List Stmt) (l : Left)
      → is.LeavesAll world i s stmts l → Grown s.vars l.state.vars
  all_grown i s stmts l (is.no_stmt _ _) = same_grown s.vars s.vars refl
  all_grown i s stmts l (is.one_stmt _ _ stmt more left last d rest) =
      grown_then s.vars left.state.vars last.state.vars (stmt_grown i s stmt left d)
      (all_grown i left.state more last rest)

  block_grown : (i : Inside) (s : State) (block : Block) (l : Left)
      → is.LeavesBlock world i s block l → Grown s.vars l.state.vars
  block_grown i s block l (is.block _ _ stmts left d) = all_grown _ s stmts l d

  -- what stands in a block is no longer visible after it
  block_keeps : (block : Block) (i : Inside) (s : State)
      → take (length s.vars) (block_left world block i s).state.vars ≡ s.vars
  unfolding leave_block
  block_keeps block i s =
      grown_take s.vars _ (block_grown i s block _ (leaves_block world i s block))

  -- so is what the statements of a block leave
  pub stmts_keep : (block : Block) (i : Inside) (s : State)
      → take (length s.vars) (stmts_left world (out-Block block).stmts
      (with_only i (is_one (out-Block block).stmts)) s).state.vars ≡ s.vars
  stmts_keep block i s =
      ap (λ (l : Left). take (length s.vars) l.state.vars) (sym (block_is world block i s))
      ∙ block_keeps block i s
