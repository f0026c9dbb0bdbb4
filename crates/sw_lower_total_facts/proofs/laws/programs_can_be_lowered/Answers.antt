use Rattle.sw_lower_total_facts.proofs.Lowering as lowering
use Rattle.sw_lower_total_facts.proofs.laws.programs_can_be_lowered.Goals as goal

pub returns-clause-proceed : goal.returns-clause-proceed
returns-clause-proceed c decls rule world ordered is are =
    lowering.bodies_proceed decls rule world is ordered are

pub returns-clause-found : goal.returns-clause-found
returns-clause-found c decls rule world ordered is are =
    lowering.bodies_are_found decls rule world is ordered are

pub returns-clause-made : goal.returns-clause-made
returns-clause-made c decls rule world ordered is are =
    lowering.bodies_are_made decls rule world is ordered are

pub returns-clause-entry : goal.returns-clause-entry
returns-clause-entry c decls rule world ordered is are =
    lowering.has_entry_number decls rule world is ordered are

pub returns-clause-starts : goal.returns-clause-starts
returns-clause-starts c decls rule world ordered is are =
    lowering.has_starts decls rule world is ordered are

pub returns-clause-lacks_nothing : goal.returns-clause-lacks_nothing
returns-clause-lacks_nothing c decls rule world is lacks =
    lowering.lacks_nothing decls rule world is lacks
