use Rattle.std.proofs.Common.{◌≡◌, Some, Ok, rules, subst, sym}
use Rattle.sw_check_parts.specs.declared.exit.Exit.TheVariants.{Done}
use Rattle.sw_check.specs.Reply.{Certifies, prints}
use Rattle.sw_check.proofs.PartLemmas.{long_answered}
use Rattle.sw_check.proofs.parts.certify.Goals as goal

pub returns-in-Some : goal.returns-in-Some
returns-in-Some c =
    let same : c.from_vec.result ≡ c.in-Some.text.items = search rules in
    subst (λ bytes. Certifies c.args.graph.now (Ok (record { exit = Done; bytes = bytes })))
    (sym same)
    (prints (Some c.in-Some.text.items) (rw c.in-Some.is at c.in_ok-text.ensures))

pub returns-in-None : goal.returns-in-None
returns-in-None c =
    long_answered c.args.graph.now _ (rw c.in-None.is at c.in_ok-text.ensures) c.lines.ensures
