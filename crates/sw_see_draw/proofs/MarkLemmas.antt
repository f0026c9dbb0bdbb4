-- The marks of a picture are for all events.
use Rattle.std.proofs.Common.{◌≡◌, ℕ, ◌+◌, ◌==◌, ◌&&◌, Bool, true, false, List, [], ◌∷◌, ◌++◌, length}
use Rattle.std.proofs.Common.{nat_lt, refl, sym, subst, arith, if◌then◌else◌}
use Rattle.std.proofs.lemmas.Bool.Decides.{nat_tests}
use Rattle.std.proofs.lemmas.List.{append_assoc, length-append}
use Rattle.std.specs.List.{AllByRecursion}
use Rattle.sw_see_events.specs.declared.happening.Happening.{Happening}
use Rattle.sw_see_draw.specs.Covers.{Covers}
use Rattle.sw_see_draw.specs.Covers.Covers.{no_more, and_then}
use Rattle.sw_see_draw.specs.Marks.{goes_on, grown, mark_of, marks, marks_from, marks_of}
use Rattle.sw_see_draw.specs.declared.marks.Mark.{Mark}
use Rattle.sw_see_draw.specs.declared.marks.TheConstants.{MOST_MARKS}

abbrev IsOf : Mark → Happening → Type 0
IsOf mark event = event.job ≡ mark.job

and_left : (a b : Bool) → a && b ≡ true → a ≡ true
and_left true b e = refl
and_left false b e = cc

and_right : (a b : Bool) → a && b ≡ true → b ≡ true
and_right true b e = e
and_right false b e = cc

same_number : (a b : ℕ) → (a == b) ≡ true → a ≡ b
same_number a b e = grind (arith, nat_tests)

-- an event for which a mark goes on is of its job
own_job : (joins : Bool) (mark : Mark) (event : Happening)
    → joins && goes_on mark event ≡ true → IsOf mark event
own_job joins mark event on =
    same_number event.job mark.job
    (and_left _ _ (and_right joins (goes_on mark event) on))

-- one more of its job
with_last : (mark : Mark) (run : List Happening) (event : Happening)
    → AllByRecursion (IsOf mark) run → IsOf mark event
    → AllByRecursion (IsOf mark) (run ++ event ∷ [])
with_last mark [] event all own = (own, tt)
with_last mark (one ∷ run) event all own = (all.0, with_last mark run event all.1 own)

-- The marks after the next event, whether a mark goes on for it or not.
next_covers : (joins : Bool) (mark : Mark) (n : ℕ) (run : List Happening) (event : Happening)
    (events : List Happening)
    → (joins && goes_on mark event ≡ true
    → Covers mark.number (marks_from joins (grown mark) (n + 1) events) (run ++ event ∷ events))
    → Covers mark.number (mark ∷ marks_from joins (mark_of n event) (n + 1) events)
    (run ++ event ∷ events)
    → Covers mark.number (marks_from joins mark n (event ∷ events)) (run ++ event ∷ events)
next_covers joins mark n run event events on off = by (joins && goes_on mark event) refl
  where
    by : (b : Bool) → joins && goes_on mark event ≡ b → Covers mark.number
        (if b then marks_from joins (grown mark) (n + 1) events
        else mark ∷ marks_from joins (mark_of n event) (n + 1) events) (run ++ event ∷ events)
    by true is = on is
    by false is = off

-- A mark that isn't ended, for these events, and the marks after it are for these events and those
-- that are left.
covers_from : (joins : Bool) (mark : Mark) (n : ℕ) (run events : List Happening)
    → mark.count ≡ length run → mark.number + length run ≡ n → AllByRecursion (IsOf mark) run
    → Covers mark.number (marks_from joins mark n events) (run ++ events)
covers_from joins mark n run [] count next own =
    and_then mark.number mark run [] [] refl count own (no_more _)
covers_from joins mark n run (event ∷ events) count next own =
    next_covers joins mark n run event events
    (λ is. subst (Covers mark.number (marks_from joins (grown mark) (n + 1) events))
    (append_assoc run (event ∷ []) events)
    (covers_from joins (grown mark) (n + 1) (run ++ event ∷ []) events
    (omega (arith, count, length-append run (event ∷ [])))
    (omega (arith, next, length-append run (event ∷ [])))
    (with_last mark run event own (own_job joins mark event is))))
    (and_then mark.number mark run _ (event ∷ events) refl count own
    (subst (λ m. Covers m (marks_from joins (mark_of n event) (n + 1) events) (event ∷ events))
    (sym next)
    (covers_from joins (mark_of n event) (n + 1) (event ∷ []) events refl refl (refl, tt))))

covers_of : (joins : Bool) (events : List Happening) → Covers 1 (marks_of joins events) events
covers_of joins [] = no_more 1
covers_of joins (event ∷ events) =
    covers_from joins (mark_of 1 event) 2 (event ∷ []) events refl refl (refl, tt)

pub covers : (events : List Happening) → Covers 1 (marks events) events
unfolding marks
covers events = covers_of (nat_lt MOST_MARKS (length events)) events
