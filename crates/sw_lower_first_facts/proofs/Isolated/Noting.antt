-- Notes in which each body is so, and notes of uses, where no body is noted.
use Rattle.std.proofs.Common.{Bool, true, false, cond, List, ◌++◌}
use Rattle.sw_isolation_rules.specs.declared.note.BodyIso.{BodyIso}
use Rattle.sw_isolation_rules.specs.declared.note.Note.{Note}
use Rattle.sw_isolation_rules.proofs.Each.{each_join}
use Rattle.sw_isolation_rules.proofs.NotedUses.{EachLeaf}
use Rattle.sw_lower_first_facts.specs.Isolated.{BodiesAre, BodyIs}

module _ (P : BodyIso → Type 0) where
  pub bodies_join : (one other : List Note) → BodiesAre P one → BodiesAre P other
      → BodiesAre P (one ++ other)
  bodies_join = each_join (BodyIs P)

  pub one_of : (is : Bool) (one other : List Note) → BodiesAre P one → BodiesAre P other
      → BodiesAre P (cond is one other)
  one_of true one other first second = first
  one_of false one other first second = second

  pub leaf_bodies : EachLeaf (BodyIs P)
  leaf_bodies = record {
    refused = λ at code low high. tt;
    race = λ at code low high. tt;
    mentioned = λ one. tt;
    captures = λ closure listed one less. tt;
  }
