-- Only a variable that is noted as a `var` is kept in a box.
use Rattle.std.proofs.Common.{◌≡◌, ℕ, Bool, true, false, List, [], ◌∷◌, map, flat_map, refl, ap}
use Rattle.std.proofs.Common.{sym, ◌∙◌, ◌&&◌, ◌||◌, ◌==◌, not, true≢false, cond}
use Rattle.std.proofs.lemmas.Bool.{eqb-true}
use Rattle.sw_isolation_rules.specs.Captures.{is_among}
use Rattle.sw_isolation_rules.specs.Lists.{by_reference, capture_of, held_in, vars_in}
use Rattle.sw_isolation_rules.specs.declared.note.Capture.{Capture}
use Rattle.sw_isolation_rules.specs.declared.note.Captured.{Captured as Held}
use Rattle.sw_isolation_rules.specs.declared.note.Note.{Note}
use Rattle.sw_lower_plans.specs.Plan.{Numbers}
use Rattle.sw_lower_rules.specs.Tables.{Isolation, Tables}
use Rattle.sw_lower_total_facts.specs.Known.{TablesAgree}

abbrev captured : List Capture → List ℕ
captured captures = map (λ (one : Capture). one.variable) captures

-- What is captured by reference is among these.
among_boxes : (vars : List ℕ) (helds : List Held) (key : ℕ) → is_among vars key ≡ false
    → is_among (captured (by_reference (map (capture_of vars) helds))) key ≡ false
among_boxes vars [] key none = refl
among_boxes vars (held ∷ helds) key none =
    by (is_among vars held.mention.variable && not held.listed) refl
    (among_boxes vars helds key none) where
      rest : List Capture
      rest = by_reference (map (capture_of vars) helds)

      -- what is captured by reference is among these, and so it isn't this variable
      other : (same : Bool) → (held.mention.variable == key) ≡ same
          → (is_among vars held.mention.variable && not held.listed) ≡ true
          → is_among (captured rest) key ≡ false → (same || is_among (captured rest) key) ≡ false
      other true same by_ref later =
          absurd (true≢false (sym by_ref
          ∙ ap (λ b. b && not held.listed)
          (ap (is_among vars) (eqb-true held.mention.variable key same) ∙ none)))
      other false same by_ref later = later

      by : (by_ref : Bool) → (is_among vars held.mention.variable && not held.listed) ≡ by_ref
          → is_among (captured rest) key ≡ false
          → is_among (captured (cond by_ref (capture_of vars held ∷ rest) rest)) key ≡ false
      by true is later = other (held.mention.variable == key) refl is later
      by false is later = later

-- A variable that isn't noted as a `var` is in no box.
pub not_boxed : (tables : Tables) (number : Numbers) (all : List Note)
    → TablesAgree tables number all
    → (key : ℕ) → is_among (vars_in all) key ≡ false → tables.isolation.is_boxed key ≡ false
not_boxed tables number all known key none =
    ap (λ (isolation : Isolation). isolation.is_boxed key) known.noted
    ∙ among_boxes (vars_in all) (flat_map held_in all) key none
