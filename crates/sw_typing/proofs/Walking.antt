-- What a walk needs of the definitions where it goes over the parts of a tree.
use Rattle.std.proofs.Common.{◌≡◌, ◌+◌, ℕ, suc, zero, arith, Bool, List, [], ◌∷◌, Option, map, drop}
use Rattle.std.proofs.Common.{refl, ap, ◌++◌, ◌∙◌, append_assoc, sym}
use Rattle.sw_tree.proofs.FoldEquations as eq
use Rattle.sw_tree.specs.Folds.{fold_case_arm, fold_stmt}
use Rattle.sw_decls.specs.Signatures.{label_id}
use Rattle.sw_tree.specs.declared.expr.Arg.{Arg, out-Arg}
use Rattle.sw_tree.specs.declared.stmt.Block.{Block, out-Block}
use Rattle.sw_tree.specs.declared.stmt.CaseArm.{CaseArm}
use Rattle.sw_types.specs.declared.shape.CaseShape.{CaseShape}
use Rattle.sw_typing_steps.specs.Switches.{head_at}
use Rattle.sw_typing_rules.proofs.Complete.{is_one-map}
use Rattle.sw_typing_rules.specs.Calls.{Slot}
use Rattle.sw_typing_rules.specs.Expressions.{first_marked, later, one_passed}
use Rattle.sw_typing_rules.specs.Judging.{OfArg, OfCaseArm, OfStmt, do_all, do_case, do_cases}
use Rattle.sw_typing_rules.specs.Judging.{typing_steps}
use Rattle.sw_typing_rules.specs.Statements.{State, is_one, with_only}
use Rattle.sw_typing_rules.specs.Worlds.{World}
use Rattle.sw_typing_rules.specs.Words.{Setting}
use Rattle.sw_typing_rules.specs.declared.row.Row.{Row}
use Rattle.sw_typing_rules.specs.declared.scope.Inside.{Inside}
use Rattle.sw_typing_rules.specs.declared.verdict.Given.{Given}
use Rattle.sw_typing_steps.specs.Steps.{known_of}
use Rattle.sw_typing_steps.specs.declared.known.Known.{Known}
use Rattle.sw_typing.specs.Walked.{args_passed, block_left, case_arms_left, expr_known}
use Rattle.sw_typing.specs.Walked.{stmts_left}

later_suc : (slots : List Slot) (n : ℕ) → later (drop n slots) ≡ drop (suc n) slots
later_suc [] zero = refl
later_suc [] (suc n) = refl
later_suc (slot ∷ slots) zero = refl
later_suc (slot ∷ slots) (suc n) = later_suc slots n

pub later_drop : (slots : List Slot) (n : ℕ) → later (drop n slots) ≡ drop (n + 1) slots
later_drop slots n =
    let one : suc n ≡ n + 1 = omega arith in
    later_suc slots n ∙ ap (λ k. drop k slots) one

module _ (world : World) where
  -- a block is its statements, of which there may be one
  pub block_is : (block : Block) (i : Inside) (s : State) → block_left world block i s
      ≡ stmts_left world (out-Block block).stmts
      (with_only i (is_one (out-Block block).stmts)) s
  block_is block i s = ap (λ (f : OfStmt). f i s) (eq.fold_block-out (typing_steps world) block)
      ∙ ap (λ one. do_all (with_only i one) s
      (map (fold_stmt (typing_steps world)) (out-Block block).stmts))
      (is_one-map (fold_stmt (typing_steps world)) (out-Block block).stmts)

  heads_from : (i : Inside) (cases : Option (List CaseShape)) (arms : List CaseArm) (s : State)
      → (case_arms_left world arms cases i s).heads ≡ map head_at arms
  heads_from i cases [] s = refl
  heads_from i cases (arm ∷ arms) s = ap (λ (f : OfCaseArm). f.head ∷
      (do_cases i cases (do_case i cases s f).state
      (map (fold_case_arm (typing_steps world)) arms)).heads)
      (eq.fold_case_arm-out (typing_steps world) arm)
      ∙ ap (λ heads. head_at arm ∷ heads) (heads_from i cases arms _)

  -- the heads of a `switch` are those of its arms
  pub heads_are : (arms : List CaseArm) (cases : Option (List CaseShape)) (i : Inside) (s : State)
      → (case_arms_left world arms cases i s).heads ≡ map head_at arms
  heads_are arms cases i s = heads_from i cases arms s

  -- what an argument gives, and what those after it give
  pub passed_step : (args : List Arg) (slots : List Slot) (index : ℕ) (arg : Arg) (s : Setting)
      (value : Known) (marked : Bool) → drop index args ≡ arg ∷ drop (index + 1) args
      → marked ≡ first_marked (drop index slots)
      → value ≡ known_of (expr_known world (out-Arg arg).value s marked)
      → args_passed world (drop index args) s (drop index slots) ≡ record {
        given = record { label = label_id (out-Arg arg).label; ty = value.ty }
            ∷ (args_passed world (drop (index + 1) args) s (drop (index + 1) slots)).given;
        rows = (expr_known world (out-Arg arg).value s marked).rows
            ++ (args_passed world (drop (index + 1) args) s (drop (index + 1) slots)).rows;
      }
  passed_step args slots index arg s value marked d m k =
      ap (λ x. args_passed world x s (drop index slots)) d
      ∙ ap (λ (f : OfArg). one_passed f.label (f.value s (first_marked (drop index slots)))
      (args_passed world (drop (index + 1) args) s (later (drop index slots))))
      (eq.fold_arg-out (typing_steps world) arg)
      ∙ ap (λ x. one_passed (out-Arg arg).label
      (expr_known world (out-Arg arg).value s (first_marked (drop index slots)))
      (args_passed world (drop (index + 1) args) s x)) (later_drop slots index)
      ∙ ap (λ x. one_passed (out-Arg arg).label (expr_known world (out-Arg arg).value s x)
      (args_passed world (drop (index + 1) args) s (drop (index + 1) slots))) (sym m)
      ∙ ap (λ (x : Known). record {
        given = record { label = label_id (out-Arg arg).label; ty = x.ty }
            ∷ (args_passed world (drop (index + 1) args) s (drop (index + 1) slots)).given;
        rows = (expr_known world (out-Arg arg).value s marked).rows
            ++ (args_passed world (drop (index + 1) args) s (drop (index + 1) slots)).rows;
      }) (sym k)

pub given_more : (given now : List Given) (item : Given) (passed rest whole : List Given)
    → now ≡ given ++ item ∷ [] → passed ≡ item ∷ rest → given ++ passed ≡ whole
    → now ++ rest ≡ whole
given_more given now item passed rest whole n p v =
    ap (λ g. g ++ rest) n ∙ append_assoc given (item ∷ []) rest ∙ ap (λ g. given ++ g) (sym p) ∙ v

pub rows_more : (rows now first old passed rest whole : List Row) → now ≡ rows ++ first
    → passed ≡ first ++ rest → rows ++ passed ≡ old ++ whole → now ++ rest ≡ old ++ whole
rows_more rows now first old passed rest whole n p v =
    ap (λ g. g ++ rest) n ∙ append_assoc rows first rest ∙ ap (λ g. rows ++ g) (sym p) ∙ v
