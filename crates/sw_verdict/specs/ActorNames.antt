-- The names of a text's global actors.
use Rattle.std.specs.Prelude.{◌≡◌, ℕ, List, [], ◌∷◌, flat_map, map, slice_get, unwrap_or}
use Rattle.sw_token.specs.Spelling.{spelling_of}
use Rattle.sw_tree.specs.Names.{main_actor_id}
use Rattle.sw_tree.specs.declared.decl.Decl.{Decl}
use Rattle.sw_parse_decl.specs.Programs.{texts_of}
use Rattle.sw_decls.specs.Declaring.{actor_ids}
use Rattle.sw_verdict.specs.Phases.{HasProgram}

-- the name that has this id, by the texts of all names
abbrev pub name_by : List (List ℕ) → ℕ → List ℕ
name_by texts id = unwrap_or (slice_get texts id) []

-- the names of the global actors of declarations, by number: `MainActor` first, and the declared
-- ones in their order (SE-0316)
abbrev pub actor_names : List (List ℕ) → List Decl → List (List ℕ)
actor_names texts decls = map (name_by texts) (main_actor_id ∷ flat_map actor_ids decls)

-- these are the names of the global actors of the text's program
pub record HasActorNames (text : List ℕ) (names : List (List ℕ)) : Type 0 where
  pub decls : List Decl
  pub program : HasProgram text decls
  pub names_are : names ≡ actor_names (texts_of (spelling_of text program.tokens)) decls
