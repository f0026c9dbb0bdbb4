use Rattle.std.proofs.Common.{◌≡◌, drop}
use Rattle.sw_lower_rules.specs.Bodies.{entry_key}
use Rattle.sw_lower.proofs.numbers.entry_key.Given as goal

-- no entry is among the declarations before this one
abbrev pub invariant-loop-decl : goal.invariant-loop-decl
invariant-loop-decl l = entry_key (drop l.decl-index l.decls) ≡ entry_key l.decls
