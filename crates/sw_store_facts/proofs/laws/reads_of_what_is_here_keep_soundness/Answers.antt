use Rattle.sw_store_facts.proofs.Heres.{global_loads, own_loads}
use Rattle.sw_store_facts.proofs.laws.reads_of_what_is_here_keep_soundness.Goals as goal

pub returns : goal.returns
returns c = record { globals = global_loads; parts = own_loads }
