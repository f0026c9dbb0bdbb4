-- What an initialiser gives: first values, and what its statements give.
use Rattle.std.proofs.Common.{◌≡◌, List, [], ◌++◌, Ok, Err, ap, ◌∙◌}
use Rattle.sw_lower_plans.specs.Run.{Making, run_after}
use Rattle.sw_lower_plans.specs.declared.fault.CodeFault.{CodeFault}
use Rattle.sw_lower_code.specs.Code.{each}
use Rattle.sw_lower_rules.specs.Bodies.{GivenValue, give_value}
use Rattle.sw_lower_rules.specs.Carriers.{Given}
use Rattle.sw_lower_uses.specs.Gathering.{each_after}
use Rattle.sw_lower_stmt.proofs.Gathered.{each_is}
use Rattle.sw_lower_stmt.proofs.Loops.{Outcome, each_append}

module _ (first second : List Given) (s : Making) where
  both : (each give_value (first ++ second)).run s
      ≡ run_after (each_after give_value first [] s)
      (λ more. each_after give_value second more)
  both = each_is give_value (first ++ second) s ∙ each_append give_value first second [] s

  pub both_given : (values : List GivenValue) (t : Making) (run : Outcome (List GivenValue))
      → each_after give_value first [] s ≡ Ok (values, t)
      → each_after give_value second values t ≡ run
      → (each give_value (first ++ second)).run s ≡ run
  both_given values t run one two =
      both ∙ (ap (λ r. run_after r (λ more. each_after give_value second more)) one ∙ two)

  pub first_fails : (fault : CodeFault) → each_after give_value first [] s ≡ Err fault
      → (each give_value (first ++ second)).run s ≡ Err fault
  first_fails fault one =
      both ∙ ap (λ r. run_after r (λ more. each_after give_value second more)) one
