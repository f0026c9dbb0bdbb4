-- How a loop does what the code of patterns does.
use Rattle.std.proofs.Common.{◌≡◌, ◌+◌, ◌<◌, ◌≤◌, ℕ, List, Ok, Err, ap, drop, get_or, length, sym}
use Rattle.std.proofs.Common.{◌∙◌}
use Rattle.std.proofs.lemmas.List.{at_drop_all, drop_more}
use Rattle.sw_tree.specs.declared.stmt.Pattern.{Pattern}
use Rattle.sw_graph.specs.declared.instr.Operand.{Operand}
use Rattle.sw_lower_plans.specs.Run.{Making, run_after}
use Rattle.sw_lower_plans.specs.declared.fault.CodeFault.{CodeFault}
use Rattle.sw_lower_code.specs.Code.{andthen, done}
use Rattle.sw_lower_rules.specs.Statements.{pattern_code, patterns_code}
use Rattle.sw_lower_rules.specs.Tables.{Tables}
use Rattle.sw_lower_stmt.proofs.Loops.{Outcome}

module _ (tables : Tables) (subject : Operand) (xs : List Pattern) (i : ℕ) (s : Making)
    (whole : Outcome (Unit {0}))
    (left : (patterns_code tables subject i (drop i xs)).run s ≡ whole) where
  pub patterns_next : (x : Pattern) (t : Making) → i < length xs
      → (pattern_code tables subject i (get_or xs i x)).run s ≡ Ok (tt, t)
      → (patterns_code tables subject (i + 1) (drop (i + 1) xs)).run t ≡ whole
  unfolding patterns_code andthen
  patterns_next x t lt one =
      sym (ap (λ run. run_after run
      (λ _. (patterns_code tables subject (i + 1) (drop (i + 1) xs)).run)) one)
      ∙ (sym (ap (λ ys. (patterns_code tables subject i ys).run s) (drop_more xs i x lt)) ∙ left)

  pub patterns_fail : (x : Pattern) (fault : CodeFault) → i < length xs
      → (pattern_code tables subject i (get_or xs i x)).run s ≡ Err fault → whole ≡ Err fault
  unfolding patterns_code andthen
  patterns_fail x fault lt one =
      sym left ∙ (ap (λ ys. (patterns_code tables subject i ys).run s) (drop_more xs i x lt)
      ∙ ap (λ run. run_after run
      (λ _. (patterns_code tables subject (i + 1) (drop (i + 1) xs)).run)) one)

  pub patterns_end : length xs ≤ i → whole ≡ Ok (tt, s)
  unfolding patterns_code done
  patterns_end le = sym left ∙ at_drop_all (λ ys. (patterns_code tables subject i ys).run s) xs i le
