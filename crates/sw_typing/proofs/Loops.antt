-- What loops over statements and branches keep: what went so far, with what is left, is the whole.
use Rattle.std.proofs.Common.{◌≡◌, ◌++◌, ◌&&◌, ◌||◌, Bool, true, false, refl}
use Rattle.sw_typing_rules.specs.Statements.{Left}
use Rattle.sw_typing_steps.specs.declared.known.Went.{Went}
use Rattle.sw_typing_steps.specs.declared.table.Table.{Table}

-- statements: what went so far, the table, what is left, the table before, and the whole
abbrev pub follows : Went → Table → Left → Table → Left → Type 0
follows went table rest before whole =
    ((went.fine && rest.fine) ≡ whole.fine) × (((went.ends || rest.ends) ≡ whole.ends)
    × (((went.breaks || rest.breaks) ≡ whole.breaks)
    × ((table.rows ++ rest.rows ≡ before.rows ++ whole.rows) × (rest.state ≡ whole.state))))

-- the same of branches
abbrev pub branches : Went → Table → Left → Table → Left → Type 0
branches went table rest before whole =
    ((went.fine && rest.fine) ≡ whole.fine) × (((went.ends && rest.ends) ≡ whole.ends)
    × (((went.breaks || rest.breaks) ≡ whole.breaks)
    × ((table.rows ++ rest.rows ≡ before.rows ++ whole.rows) × (rest.state ≡ whole.state))))

pub or_after : (a b c : Bool) → ((a || b) || c) ≡ (a || (b || c))
or_after true b c = refl
or_after false b c = refl

pub and_after : (a b c : Bool) → ((a && b) && c) ≡ (a && (b && c))
and_after true b c = refl
and_after false b c = refl
