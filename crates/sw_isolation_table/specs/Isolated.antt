-- What is known of the isolation of a program.
use Rattle.std.specs.Prelude.{◌≡◌, ℕ, List, Contains, nat_eq}
use Rattle.std.specs.Ordering.{nat_cmp}
use Rattle.std.specs.List.Sorted.{IsStrictlySortedBy}
use Rattle.indexmap.specs.IndexMap.{get}
use Rattle.sw_tree.specs.declared.decl.Decl.{Decl}
use Rattle.sw_typing_rules.specs.Worlds.{World}
use Rattle.sw_isolation_rules.specs.Answers.{Answers}
use Rattle.sw_isolation_rules.specs.Lists.{bodies_in, boxes_in, captures_in, kind_with}
use Rattle.sw_isolation_rules.specs.Lists.{kinds_in, races_in}
use Rattle.sw_isolation_rules.specs.Programs.{noted}
use Rattle.sw_isolation_rules.specs.declared.note.Note.{Note}
use Rattle.sw_isolation_table.specs.declared.isolated.Isolated as known

-- the keys in order, each once
pub record AreBoxes (found boxes : List ℕ) : Type 0 where
  pub rises : IsStrictlySortedBy nat_cmp boxes
  pub from : (key : ℕ) → Contains boxes key → Contains found key
  pub covers : (key : ℕ) → Contains found key → Contains boxes key

-- What is known has these notes: all bodies, kinds, captures, boxes and values that cross.
pub record HasNotes (notes : List Note) (isolated : known.Isolated) : Type 0 where
  pub bodies : isolated.bodies ≡ bodies_in notes
  pub kinds : isolated.kinds ≡ kinds_in notes
  pub kinds_by_key : (key : ℕ) → get nat_eq isolated.kinds_by_key key
      ≡ kind_with (kinds_in notes) key
  pub captures : isolated.captures ≡ captures_in notes
  pub boxes : AreBoxes (boxes_in notes) isolated.boxes
  pub crossings : isolated.crossings ≡ races_in notes

-- what is known has the notes of a program
abbrev pub IsIsolated : World → Answers → List Decl → known.Isolated → Type 0
IsIsolated world answers decls isolated = HasNotes (noted world answers decls) isolated
