use Rattle.std.proofs.Common.{◌≡◌, take}
use Rattle.sw_decl_values.specs.Profile.{param_names}
use Rattle.sw_decl_values.proofs.profile.param_names.Given as goal

abbrev pub invariant-loop-param : goal.invariant-loop-param
invariant-loop-param l = l.names ≡ param_names (take l.param-index l.params)
