-- The bodies in a tree: each closure's and each task's, and those in them.
use Rattle.std.proofs.Common.{Bool, true, false, List, [], ◌∷◌, ◌++◌, Option, Some, None, flat_map}
use Rattle.std.proofs.Common.{ℕ, refl}
use Rattle.std.proofs.lemmas.List.Elements.{All-append, All-cons, All-nil}
use Rattle.std.specs.List.{AllByRecursion}
use Rattle.std.specs.Prelude.{All, if◌then◌else◌}
use Rattle.sw_types.specs.declared.ty.Ty.{Ty}
use Rattle.sw_graph.specs.declared.instr.Operand.{Operand}
use Rattle.sw_typing_rules.specs.Verdicts.{is_unit}
use Rattle.sw_lower_code.specs.Code.{Code}
use Rattle.sw_lower_code.specs.Whole.{Body}
use Rattle.sw_lower_rules.specs.Carriers.{BlockCode, ClosureCode, Given, StmtCode, no_targets}
use Rattle.sw_lower_rules.specs.Expressions.{body_code, closure_body, fun_code, fun_result}
use Rattle.sw_lower_rules.specs.Expressions.{spawn_code, spawn_result, task_body, with_result}
use Rattle.sw_lower_rules.specs.Statements.{block_layer, block_only}
use Rattle.sw_lower_rules.specs.Tables.{Tables}
use Rattle.sw_lower_rules.specs.declared.targets.Targets.{Targets}
use Rattle.sw_lower_code_facts.specs.Kept.{GivesHave, Kept, KeptByForms}
use Rattle.sw_lower_code_facts.specs.Said.{BlockSo, BodySo, ExprSo, OnlySo, Said, StmtSo}
use Rattle.sw_lower_code_facts.proofs.Expressions.{has_fun, value_has}

-- each of a list, if it is so whenever something holds of the bodies inside
pub each_so : {X : Type 0} (Inside : List Body → Type 0)
    → ((xs ys : List Body) → Inside (xs ++ ys) → Inside xs)
    → ((xs ys : List Body) → Inside (xs ++ ys) → Inside ys) → (f : X → List Body)
    (So : X → Type 0) (xs : List X) → AllByRecursion (λ x. Inside (f x) → So x) xs
    → Inside (flat_map f xs) → AllByRecursion So xs
each_so Inside first rest f So [] goes are = tt
each_so Inside first rest f So (x ∷ xs) goes are = (
  goes.0 (first (f x) (flat_map f xs) are),
  each_so Inside first rest f So xs goes.1 (rest (f x) (flat_map f xs) are),
)

-- the bodies in each of a list
pub each_inside : {X : Type 0} (P : Body → Type 0) (f : X → List Body) (So : X → Type 0)
    → ((x : X) → So x → All P (f x)) → (xs : List X) → AllByRecursion So xs
    → All P (flat_map f xs)
each_inside P f So one [] all = All-nil P
each_inside P f So one (x ∷ xs) all =
    All-append P (f x) (flat_map f xs) (one x all.0) (each_inside P f So one xs all.1)

-- what all statements give
pub gives_both : (kept : Kept) (one more : List Given) → GivesHave kept one → GivesHave kept more
    → GivesHave kept (one ++ more)
gives_both kept [] more first rest = rest
gives_both kept (given ∷ one) more first rest = (first.0, gives_both kept one more first.1 rest)

module _ {kept : Kept} {tables : Tables} (said : Said kept tables) where
  -- the code of a body with a result
  with_so : (only : Option (Code Operand)) (block : BlockCode) → OnlySo said only
      → BlockSo said block → said.Says (with_result only block)
  with_so None block only so = said.ended _ (so.code no_targets)
  with_so (Some read) block only so = said.ended_by read only

  chosen : (is : Bool) (only : Option (Code Operand)) → OnlySo said only
      → OnlySo said (if is then None else only)
  chosen true only so = tt
  chosen false only so = so

  pub body_code_so : (result : Ty) (block : BlockCode) → BlockSo said block
      → said.Says (body_code result block)
  unfolding body_code
  body_code_so result block so =
      with_so (if is_unit result then None else block.only) block
      (chosen (is_unit result) block.only so.only) so

  -- the body of a closure
  closure_so : (owner : Option ℕ) (closure : ClosureCode) (result : Ty)
      → BlockSo said closure.body → BodySo said (closure_body tables owner closure result)
  unfolding closure_body
  closure_so owner closure result so =
      record { code = body_code_so result closure.body so; closure = refl }

  -- closures and tasks
  module _ (owner : Option ℕ) (forms : KeptByForms kept tables owner) where
    pub fun_so : (closure : ClosureCode)
        → (forms.Inside closure.body.inside → BlockSo said closure.body)
        → forms.Inside (fun_code tables owner closure).inside
        → ExprSo said (fun_code tables owner closure)
    fun_so closure goes are =
        let result = fun_result tables owner closure.at in
        let body = closure_body tables owner closure result in
        let so = goes (forms.rest (body ∷ []) closure.body.inside are) in
        record {
          has = value_has kept closure.at _ _ (has_fun kept tables owner forms closure);
          inside = All-cons (BodySo said) body closure.body.inside
              (closure_so owner closure result so) so.inside;
        }

    pub spawn_so : (at : ℕ) (closure : ClosureCode)
        → (forms.Inside closure.body.inside → BlockSo said closure.body)
        → forms.Inside (spawn_code tables owner at closure).inside
        → ExprSo said (spawn_code tables owner at closure)
    spawn_so at closure goes are =
        let result = spawn_result tables owner at in
        let body = task_body tables owner closure result in
        let so = goes (forms.rest (body ∷ []) closure.body.inside are) in
        record {
          has = value_has kept at _ _ (forms.task at closure are);
          inside = All-cons (BodySo said) body closure.body.inside
              (closure_so owner (record closure { params = [] }) result so) so.inside;
        }

  -- blocks
  only_so : (stmts : List StmtCode) → AllByRecursion (StmtSo said) stmts
      → OnlySo said (block_only stmts)
  only_so [] all = tt
  only_so (one ∷ []) all = all.0.only
  only_so (one ∷ other ∷ more) all = tt

  codes_so : (stmts : List StmtCode) (targets : Targets) → AllByRecursion (StmtSo said) stmts
      → AllByRecursion (λ (one : StmtCode). said.Says (one.code targets)) stmts
  codes_so [] targets all = tt
  codes_so (one ∷ more) targets all = (all.0.code targets, codes_so more targets all.1)

  gives_so : (stmts : List StmtCode) → AllByRecursion (StmtSo said) stmts
      → GivesHave kept (flat_map (λ (one : StmtCode). one.gives) stmts)
  gives_so [] all = tt
  gives_so (one ∷ more) all = gives_both kept one.gives _ all.0.gives (gives_so more all.1)

  pub block_so : (stmts : List StmtCode) → AllByRecursion (StmtSo said) stmts
      → BlockSo said (block_layer stmts)
  block_so stmts all = record {
    code = λ targets. said.block stmts targets (codes_so stmts targets all);
    only = only_so stmts all;
    gives = gives_so stmts all;
    inside = each_inside (BodySo said) (λ (one : StmtCode). one.inside) (StmtSo said)
        (λ one so. so.inside) stmts all;
  }
