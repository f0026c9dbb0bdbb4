use Rattle.sw_sound.proofs.checked.Checked.of_passed.Goals as goal

pub invariant_of-result : goal.invariant_of-result
invariant_of-result c = record {
  checked = ∣ record {
    clean = c.requires.clean;
    supplied = c.requires.supplied;
    passed = c.requires.passed;
  } ∣₁;
}
