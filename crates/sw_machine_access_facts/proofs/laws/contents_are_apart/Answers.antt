use Rattle.sw_machine_access_facts.proofs.ContentLemmas.{content_changed, content_kept}
use Rattle.sw_machine_access_facts.proofs.laws.contents_are_apart.Goals as goal

pub returns : goal.returns
returns c = record { same = content_changed; others = content_kept }
