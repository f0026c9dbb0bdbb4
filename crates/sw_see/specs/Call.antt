-- What a call of the program that shows races leaves: which files were read, and what was written.
use Rattle.std.specs.Prelude.{◌≡◌, ◌≤◌, ℕ, List, length, Option}
use Rattle.sw_outside.specs.Shelf.{KnownShelf}
use Rattle.sw_check_parts.specs.declared.exit.Exit.{Exit}
use Rattle.sw_check_parts.specs.declared.outcome.Outcome.{Outcome}
use Rattle.sw_check_parts.specs.Course.{Read, Underway}
use Rattle.sw_check_parts.specs.Leaves.{HasRead}
use Rattle.sw_check_parts.specs.Written.{Appended, IsPrefixWritten}
use Rattle.sw_see.specs.Reply.{Reply, course_of}
use Rattle.sw_see_words.specs.Words.{Command}

-- the outcome is a reply to the words over the files that were read, and no others were read
pub record Answered (command : Option Command) (before : Option KnownShelf) (outcome : Outcome)
    (after : Option KnownShelf) : Type 0 where
  pub reads : List Read
  pub reply : Reply command reads outcome
  pub has_read : HasRead reads before after

-- There is no reply. The command is under way, and for it these files were read, n at least, and no
-- others.
pub record Unanswered (command : Option Command) (n : ℕ)
    (before after : Option KnownShelf) : Type 0 where
  pub reads : List Read
  pub so_far : course_of command reads Underway
  pub at_least : n ≤ length reads
  pub has_read : HasRead reads before after

-- the exit is that of the reply, and the whole reply was written
pub record Replied (command : Option Command) (exit : Exit) (known known_after : Option KnownShelf)
    (written written_after : Option (List ℕ)) : Type 0 where
  pub outcome : Outcome
  pub answered : Answered command known outcome known_after
  pub exit_is : exit ≡ outcome.exit
  pub bytes : Appended outcome.bytes written written_after

-- there is a reply, and a prefix of it was written
pub record Interrupted (command : Option Command) (known known_after : Option KnownShelf)
    (written written_after : Option (List ℕ)) : Type 0 where
  pub outcome : Outcome
  pub answered : Answered command known outcome known_after
  pub bytes : IsPrefixWritten outcome.bytes written written_after
