use Rattle.std.proofs.Common.{sym, ◌∙◌}
use Rattle.std.proofs.lemmas.Slice.Eq.{bytes_eq-Decides}
use Rattle.sw_cert.proofs.Tailing.{stands}
use Rattle.sw_cert.proofs.reading.stand_at.Goals as goal

pub returns-clause-stand : goal.returns-clause-stand
returns-clause-stand c = λ yes. stands c.args.text.now c.args.said.now c.args.at
    ((bytes_eq-Decides _ _).0 (sym c.eq.ensures ∙ yes))
