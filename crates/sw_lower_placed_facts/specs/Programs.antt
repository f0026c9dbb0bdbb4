-- Programs that keep the rules on isolation, and those that share nothing.
use Rattle.std.specs.Prelude.{◌≡◌, List, []}
use Rattle.sw_tree.specs.declared.decl.Decl.{Decl}
use Rattle.sw_typing_rules.specs.Programs.{said}
use Rattle.sw_typing_rules.specs.Worlds.{World}
use Rattle.sw_isolation_rules.specs.Answers.{answers_in}
use Rattle.sw_isolation_rules.specs.Programs.{refusals}
use Rattle.sw_isolation_rules.specs.Races.{races}

-- No body breaches the rules on isolation.
abbrev pub KeepsApart : World → List Decl → Type 0
KeepsApart world decls = refusals world (answers_in (said world decls)) decls ≡ []

-- No value is shared between isolations that may not be.
abbrev pub KeepsUnshared : World → List Decl → Type 0
KeepsUnshared world decls = races world (answers_in (said world decls)) decls ≡ []
