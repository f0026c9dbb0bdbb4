-- The code of arguments and of the operators of a chain, one after the other.
use Rattle.std.proofs.Common.{◌≡◌, ℕ, List, [], ◌∷◌, map, Option, ap, refl, ◌∙◌}
use Rattle.sw_tree.proofs.FoldEquations.{fold_arg-out, fold_link-out}
use Rattle.sw_tree.specs.Folds.{fold_arg}
use Rattle.sw_tree.specs.declared.expr.Arg.{Arg}
use Rattle.sw_tree.specs.declared.expr.Link.{Link}
use Rattle.sw_graph.specs.declared.instr.Operand.{Operand}
use Rattle.sw_lower_plans.specs.Run.{Making, run_after}
use Rattle.sw_lower_code.specs.Code.{Code, andthen, done, each}
use Rattle.sw_lower_rules.specs.Carriers.{ArgCode, LinkCode}
use Rattle.sw_lower_rules.specs.Expressions.{args_read, by_op, links_read}
use Rattle.sw_lower_rules.specs.Statements.{code_steps, expr_code}
use Rattle.sw_lower_rules.specs.Tables.{Tables}
use Rattle.sw_lower_uses.specs.Gathering.{each_after}
use Rattle.sw_lower_uses.proofs.Gathered.{each_is}
use Rattle.sw_lower_expr.specs.Walked.{arg_codes, arg_value, link_codes, link_value, links_run}

each_same : {A B C : Type 0} (f : B → Code C) (g : A → B) (h : A → Code C)
    → ((x : A) → f (g x) ≡ h x) → (xs : List A) → each f (map g xs) ≡ each h xs
unfolding each
each_same f g h same [] = refl
each_same f g h same (x ∷ xs) =
    ap (λ one. andthen one (λ y. andthen (each f (map g xs)) (λ ys. done (y ∷ ys)))) (same x)
    ∙ ap (λ more. andthen (h x) (λ y. andthen more (λ ys. done (y ∷ ys))))
    (each_same f g h same xs)

module _ (tables : Tables) (owner : Option ℕ) where
  arg_is : (arg : Arg)
      → (fold_arg (code_steps tables owner) arg).read ≡ arg_value tables owner arg
  unfolding expr_code
  arg_is arg = ap (λ (code : ArgCode). code.read) (fold_arg-out (code_steps tables owner) arg)

  pub args_are : (args : List Arg) (making : Making)
      → (args_read (arg_codes tables owner args)).run making
      ≡ each_after (arg_value tables owner) args [] making
  unfolding arg_codes
  args_are args making =
      ap (λ (code : Code (List Operand)). code.run making)
      (each_same (λ (code : ArgCode). code.read) (fold_arg (code_steps tables owner))
      (arg_value tables owner) arg_is args)
      ∙ each_is (arg_value tables owner) args making

  pub links_are : (links : List Link) (left : Operand) (making : Making)
      → (links_read (link_codes tables owner links) left).run making
      ≡ links_run tables owner links left making
  unfolding link_codes links_read andthen done expr_code
  links_are [] left making = refl
  links_are (link ∷ links) left making =
      ap (λ (code : LinkCode). run_after ((by_op code.op code.at code.read left).run making)
      (λ x. (links_read (link_codes tables owner links) x).run))
      (fold_link-out (code_steps tables owner) link)
      ∙ (λ i. run_after ((link_value tables owner link left).run making)
      (λ x m. links_are links x m i))
