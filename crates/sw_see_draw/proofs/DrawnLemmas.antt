-- The marks that are drawn are for the last events.
use Rattle.std.proofs.Common.{◌≡◌, ◌≢◌, ℕ, zero, suc, ◌+◌, ◌-◌, ◌<◌, List, [], ◌∷◌, ◌++◌, length, drop}
use Rattle.std.proofs.Common.{refl, ap, sym, subst, arith}
use Rattle.std.proofs.Math.Seq.{drop-append-add}
use Rattle.std.proofs.lemmas.List.{length-drop}
use Rattle.sw_see_events.specs.declared.happening.Happening.{Happening}
use Rattle.sw_see_draw.specs.Covers.{Covers}
use Rattle.sw_see_draw.specs.Covers.Covers.{no_more, and_then}
use Rattle.sw_see_draw.specs.Marks.{drawn, marks}
use Rattle.sw_see_draw.specs.Picture.{left_out}
use Rattle.sw_see_draw.specs.declared.marks.Mark.{Mark}
use Rattle.sw_see_draw.specs.declared.marks.TheConstants.{MOST_MARKS}
use Rattle.sw_see_draw.proofs.MarkLemmas.{covers}

-- Marks from some one on, and the events that they are for.
record AreLast (n k : ℕ) (all : List Mark) (events : List Happening) : Type 0 where
  before : ℕ
  covers : Covers (n + before) (drop k all) (drop before events)

-- without the first marks
without : (k n : ℕ) (all : List Mark) (events : List Happening) → Covers n all events
    → AreLast n k all events
without zero n all events covers =
    let same : n ≡ n + 0 = omega (arith) in
    record { before = 0; covers = subst (λ m. Covers m all events) same covers }
without (suc k) n _ _ (no_more _) = record { before = 0; covers = no_more (n + 0) }
without (suc k) n _ _ (and_then _ mark run marks events number count own rest) =
    let last = without k (n + length run) marks events rest in
    let same : n + length run + last.before ≡ n + (length run + last.before) = omega (arith) in
    let left = sym (drop-append-add run events last.before) in record {
      before = length run + last.before;
      covers = subst (λ m. Covers m (drop k marks) (drop (length run + last.before) (run ++ events)))
          same (subst (Covers (n + length run + last.before) (drop k marks)) left last.covers);
    }

-- as many events are left out as come before the first mark
first_number : (shown : List Mark) (before : ℕ) (events : List Happening)
    → Covers (1 + before) shown events → shown ≢ [] → left_out shown ≡ before
first_number _ before _ (no_more _) some = absurd (some refl)
first_number _ before _ (and_then _ mark run marks events number count own rest) some =
    omega (arith, number)

not_all_dropped : (k : ℕ) (all : List Mark) → k < length all → drop k all ≢ []
not_all_dropped k all more none =
    let none_left : length (drop k all) ≡ 0 = ap length none in
    omega (arith, more, length-drop k all, none_left)

last_covers : (all : List Mark) (events : List Happening) → Covers 1 all events
    → Covers (1 + left_out (drawn all)) (drawn all) (drop (left_out (drawn all)) events)
unfolding drawn
last_covers [] events covers = by events covers where
  by : (events : List Happening) → Covers 1 [] events → Covers 1 [] events
  by _ (no_more _) = no_more 1
last_covers (mark ∷ rest) events covers =
    let k = length (mark ∷ rest) - MOST_MARKS in
    let fewer : k < length (mark ∷ rest) = omega (arith) in
    let last = without k 1 (mark ∷ rest) events covers in
    let same = first_number (drop k (mark ∷ rest)) last.before (drop last.before events) last.covers
    (not_all_dropped k (mark ∷ rest) fewer) in
    subst (λ m. Covers (1 + m) (drop k (mark ∷ rest)) (drop m events)) (sym same) last.covers

pub drawn_covers : (events : List Happening)
    → Covers (1 + left_out (drawn (marks events))) (drawn (marks events))
    (drop (left_out (drawn (marks events))) events)
drawn_covers events = last_covers (marks events) events (covers events)
