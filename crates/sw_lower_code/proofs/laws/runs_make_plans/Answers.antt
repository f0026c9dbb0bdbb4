use Rattle.sw_lower_code.proofs.laws.runs_make_plans.Goals as goal

pub returns : goal.returns
returns g c = λ code making going. code.same making going
