-- The machine on the written tree of a program: what the work of the tree depends on, the states that
-- items lead to, their events, and what comes of them.
use Rattle.std.specs.Prelude.{ℕ, Bool, List, [], ◌∷◌, flat_map, length, count_by, is_some, ◌==◌}
use Rattle.std.specs.Prelude.{if◌then◌else◌}
use Rattle.std.specs.List.{filter}
use Rattle.sw_tree.specs.declared.decl.Decl.{Decl}
use Rattle.sw_types.specs.declared.isolation.Iso.{Iso}
use Rattle.sw_types.specs.declared.isolation.Iso.TheVariants.{Free}
use Rattle.sw_typing_rules.specs.Worlds.{World}
use Rattle.sw_isolation_rules.specs.Captures.{is_among}
use Rattle.sw_isolation_rules.specs.Lists.{bodies_in, boxes_in, captures_in, kind_with, kinds_in}
use Rattle.sw_isolation_rules.specs.Programs.{noted}
use Rattle.sw_isolation_rules.specs.declared.note.BodyIso.{BodyIso}
use Rattle.sw_isolation_rules.specs.declared.note.Capture.{Capture}
use Rattle.sw_isolation_rules.specs.declared.note.Note.{Note}
use Rattle.sw_step.specs.declared.event.Event.{Event}
use Rattle.sw_replay.specs.Output.{end_by, line_of}
use Rattle.sw_replay.specs.declared.output.Output.{Output}
use Rattle.sw_verdict.specs.Phases.{answers_of_program}
use Rattle.sw_tree_work.specs.Bodies.{bodies_of}
use Rattle.sw_tree_work.specs.Facts.{Facts}
use Rattle.sw_tree_step.specs.Items.{tree_events, tree_reach, tree_start_of}
use Rattle.sw_tree_step.specs.State.{TreeJob, TreeState}
use Rattle.sw_tree_step.specs.Step.{ended_with}

-- the isolation that is noted of the body with a key
abbrev pub iso_in : List BodyIso → ℕ → Iso
iso_in [] key = Free
iso_in (body ∷ bodies) key = if body.key == key then body.iso else iso_in bodies key

-- What the work of a program's tree depends on: what the program declares, the types and meanings of
-- its nodes, and its isolation.
abbrev pub facts_by : World → List Decl → List Note → Facts
facts_by world decls notes = record {
  world = world;
  answers = answers_of_program world decls;
  iso_at = iso_in (bodies_in notes);
  kind_at = kind_with (kinds_in notes);
  captures_of = λ key. filter (λ (one : Capture). one.closure == key) (captures_in notes);
  is_boxed = is_among (boxes_in notes);
}

abbrev pub program_facts : World → List Decl → Facts
program_facts world decls =
    facts_by world decls (noted world (answers_of_program world decls) decls)

-- the state after items
abbrev pub program_reach : World → List Decl → List ℕ → TreeState
program_reach world decls items =
    let facts = program_facts world decls in
    tree_reach (bodies_of facts decls) (tree_start_of facts decls) items

-- and their events
abbrev pub program_events : World → List Decl → List ℕ → List Event
program_events world decls items =
    let facts = program_facts world decls in
    tree_events (bodies_of facts decls) (tree_start_of facts decls) items

abbrev pub has_ended : TreeJob → Bool
has_ended job = is_some (ended_with job.status)

-- the lines that items print, what halts the machine, and how many jobs have ended, of how many
abbrev pub program_output : World → List Decl → List ℕ → Output
program_output world decls items =
    let state = program_reach world decls items in record {
      lines = flat_map line_of (program_events world decls items);
      end = end_by state.halted;
      ended = count_by has_ended state.jobs;
      jobs = length state.jobs;
    }
