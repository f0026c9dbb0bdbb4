use Rattle.sw_owned_facts.proofs.Taking.{met, taken}
use Rattle.sw_owned_facts.proofs.laws.colours_meet_in_two_ways.Goals as goal

pub returns : goal.returns
returns c = record {
  taken = λ graph clean supplied states annotated items.
      taken graph clean supplied states annotated items;
  met = λ graph clean supplied states annotated items.
      met graph clean supplied states annotated items;
}
