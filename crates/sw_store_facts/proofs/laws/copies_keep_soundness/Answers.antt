use Rattle.sw_store_facts.proofs.Copies.{copies, fields, payloads}
use Rattle.sw_store_facts.proofs.laws.copies_keep_soundness.Goals as goal

pub returns : goal.returns
returns c = record { copy = copies; field = fields; payload = payloads }
