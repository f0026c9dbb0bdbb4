-- What is noted of bodies.
use Rattle.std.specs.Prelude.{List}
use Rattle.std.specs.List.{AllByRecursion}
use Rattle.sw_isolation_rules.specs.declared.note.BodyIso.{BodyIso}
use Rattle.sw_isolation_rules.specs.declared.note.Note.{Note}
use Rattle.sw_isolation_rules.specs.declared.note.Note.TheVariants.{Body, Kind, Refused, Race, Var}
use Rattle.sw_isolation_rules.specs.declared.note.Note.TheVariants.{Mentioned, Captures}

-- The body of a note is so.
abbrev pub BodyIs : (BodyIso → Type 0) → Note → Type 0
BodyIs P (Body body) = P body
BodyIs P (Kind kinded) = Unit {0}
BodyIs P (Refused placed) = Unit {0}
BodyIs P (Race placed) = Unit {0}
BodyIs P (Var key) = Unit {0}
BodyIs P (Mentioned one) = Unit {0}
BodyIs P (Captures held) = Unit {0}

-- each body that is noted
abbrev pub BodiesAre : (BodyIso → Type 0) → List Note → Type 0
BodiesAre P notes = AllByRecursion (BodyIs P) notes
