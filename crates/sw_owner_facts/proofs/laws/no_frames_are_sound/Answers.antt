use Rattle.sw_owner_facts.proofs.WithinLemmas.{no_frames}
use Rattle.sw_owner_facts.proofs.laws.no_frames_are_sound.Goals as goal

pub returns : goal.returns
returns c = no_frames
