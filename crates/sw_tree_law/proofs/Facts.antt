-- What the work of a program depends on is what lowering looks up of it.
use Rattle.std.proofs.Common.{◌≡◌, ℕ, Bool, true, false, List, [], ◌∷◌, refl}
use Rattle.std.specs.List.{filter}
use Rattle.std.specs.Prelude.{◌==◌, if◌then◌else◌, Some}
use Rattle.sw_tree.specs.declared.decl.Decl.{Decl}
use Rattle.sw_typing_rules.specs.Worlds.{World}
use Rattle.sw_isolation_rules.specs.Captures.{is_among}
use Rattle.sw_isolation_rules.specs.Lists.{bodies_in, boxes_in, captures_in, kind_with, kinds_in}
use Rattle.sw_isolation_rules.specs.declared.note.BodyIso.{BodyIso}
use Rattle.sw_isolation_rules.specs.declared.note.Capture.{Capture}
use Rattle.sw_isolation_rules.specs.declared.note.Note.{Note}
use Rattle.sw_lower_rules.specs.Bodies.{tables_of}
use Rattle.sw_lower_rules.specs.Expressions.{iso_of}
use Rattle.sw_lower_rules.specs.Tables.{body_with, isolation_in}
use Rattle.sw_verdict.specs.Phases.{answers_of_program}
use Rattle.sw_spots.specs.Forms.{facts_of}
use Rattle.sw_tree_law.specs.Programs.{facts_by, iso_in}

iso_same : (bodies : List BodyIso) (key : ℕ) → iso_in bodies key ≡ iso_of (body_with bodies key)
iso_same [] key = refl
iso_same (body ∷ bodies) key = by (body.key == key) (iso_same bodies key) where
  by : (same : Bool) → iso_in bodies key ≡ iso_of (body_with bodies key)
      → (if same then body.iso else iso_in bodies key)
      ≡ iso_of (if same then Some body else body_with bodies key)
  by true more = refl
  by false more = more

pub facts_same : (world : World) (decls : List Decl) (notes : List Note)
    → facts_by world decls notes
    ≡ facts_of (tables_of world (answers_of_program world decls) (isolation_in notes) decls)
facts_same world decls notes = λ i. record {
  world = world;
  answers = answers_of_program world decls;
  iso_at = λ key. iso_same (bodies_in notes) key i;
  kind_at = kind_with (kinds_in notes);
  captures_of = λ key. filter (λ (one : Capture). one.closure == key) (captures_in notes);
  is_boxed = is_among (boxes_in notes);
}
