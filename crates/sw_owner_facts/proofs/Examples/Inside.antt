-- What each move inside frames needs.
use Rattle.std.specs.Prelude.{◌≡◌, ◌≢◌, ℕ, zero, suc, Bool, true, false, Some, None, List, [], ◌∷◌}
use Rattle.std.specs.Prelude.{◌<◌, ◌||◌, Contains, slice_index_or, refl}
use Rattle.std.specs.List.{list_all}
use Rattle.std.proofs.lemmas.Bool.{or_cases}
use Rattle.std.proofs.Common.{sym, ap, ◌∙◌, inl, inr, arith}
use Rattle.sw_owner_facts.specs.Colours.{Colour, Generic, On}
use Rattle.sw_owner_facts.specs.View.{Element, Here, Register, Nonisolated, IsolatedTo, View, HoldsLive}
use Rattle.sw_owner_facts.specs.View.{InOneRegion}
use Rattle.sw_owner_facts.specs.Sketch.{Job, row_at, view_of}
use Rattle.sw_owner_facts.specs.Premises.{IsNeeded, IsPossible, StaysSound, WithinPremise, within_says}
use Rattle.sw_owner_facts.specs.Premises.{Change, Held, Joined, ComesPremise, comes_says}
use Rattle.sw_owner_facts.specs.Premises.{FreshenedPremise, freshened_says, Fresh, NewColour}
use Rattle.sw_owner_facts.specs.Premises.{WeakenedPremise, weakened_says, Top, Jobs, SameShape, SameHere}
use Rattle.sw_owner_facts.specs.Premises.{Others, Heights, Running}
use Rattle.sw_owner_facts.proofs.Sketches.Tests.{sound_view, holders, held_in, in_all}
use Rattle.sw_owner_facts.proofs.Sketches.Reading.{there, joined, holds_live, held_by, for_holders}
use Rattle.sw_owner_facts.proofs.Sketches.Moves.{same_element, same_element_true, changes_top}
use Rattle.sw_owner_facts.proofs.Sketches.Premises.{freshened_by, weakened_by, within_by, runs_by}
use Rattle.sw_owner_facts.proofs.Examples.Views.{bank, banks, mine, yours, nobodys, main, callee, task}
use Rattle.sw_owner_facts.proofs.Examples.Views.{called, free, on_bank, slot, dead, row, runs, waits}

-- one frame with two registers
abbrev two : List Job
two = runs (row free (mine 0) (slot 1 (mine 1 ∷ []) ∷ slot 2 (mine 2 ∷ []) ∷ []) ∷ []) ∷ []

-- the second register put with the first
abbrev put : List Job
put = runs (row free (mine 0) (slot 1 (mine 1 ∷ []) ∷ slot 1 (mine 1 ∷ []) ∷ []) ∷ []) ∷ []

second_is_first : Element → Element
second_is_first Here = Here
second_is_first (Register zero) = Register zero
second_is_first (Register (suc zero)) = Register zero
second_is_first (Register (suc (suc r))) = Register (suc (suc r))

put_regions : (x : Element) → (view_of put).region main x ≡ (view_of two).region main
    (second_is_first x)
unfolding second_is_first
put_regions Here = refl
put_regions (Register zero) = refl
put_regions (Register (suc zero)) = refl
put_regions (Register (suc (suc r))) = refl

pub within_possible : IsPossible within_says
unfolding second_is_first
within_possible = record {
  old = view_of two;
  new = view_of put;
  at = (main, second_is_first);
  sound = sound_view two refl;
  all = elim [
    | Joined ↦ λ x y t. put_regions x ∙ t ∙ sym (put_regions y)
    | other ↦ within_by two put main second_is_first other refl
  ];
}

-- a job comes from nowhere, whose `Here` has a colour of the first one
abbrev rogue : Job
rogue = waits (row free (mine 0) [] ∷ [])

abbrev two_and_rogue : List Job
two_and_rogue = runs (row free (mine 0) (slot 1 (mine 1 ∷ []) ∷ slot 2 (mine 2 ∷ []) ∷ []) ∷ []) ∷
    rogue ∷ []

-- a register holds what nothing held
abbrev foreign : List Job
foreign = runs (row free (mine 0) (slot 1 (nobodys ∷ []) ∷ slot 2 (mine 2 ∷ []) ∷ []) ∷ []) ∷ []

-- the second register put with the first, in a region of its own
abbrev torn : List Job
torn = runs (row free (mine 0) (slot 1 (mine 1 ∷ []) ∷ slot 2 (mine 1 ∷ []) ∷ []) ∷ []) ∷ []

-- the frame in another shape
abbrev reshaped : List Job
reshaped = runs (row on_bank (mine 0) (slot 1 (mine 1 ∷ []) ∷ slot 2 (mine 2 ∷ []) ∷ []) ∷ []) ∷ []

-- a call whose second register waits, with a third that is not live
abbrev asking : ℕ → List Job
asking region = runs (row free (mine 0) (slot 1 (mine 1 ∷ []) ∷ dead region ∷ dead 7 ∷ []) ∷ row
    (called Nonisolated Generic (Some 1)) (mine 1) [] ∷ []) ∷ []

second_is_third : Element → Element
second_is_third Here = Here
second_is_third (Register zero) = Register zero
second_is_third (Register (suc zero)) = Register 2
second_is_third (Register (suc (suc r))) = Register (suc (suc r))

asking_regions : (x : Element) → (view_of (asking 7)).region main x ≡ (view_of (asking 1)).region
    main (second_is_third x)
unfolding second_is_third
asking_regions Here = refl
asking_regions (Register zero) = refl
asking_regions (Register (suc zero)) = refl
asking_regions (Register (suc (suc r))) = refl

-- a callee that shares its first register with its caller: the colour of its `Here`
abbrev sharing : Colour → List Job
sharing here = runs (row free (mine 0) (slot 1 (mine 1 ∷ []) ∷ []) ∷ row
    (called Nonisolated Generic None) here (slot 0 (mine 1 ∷ []) ∷ slot 0 (mine 2 ∷ []) ∷ []) ∷ [])
    ∷ []

here_is_second : Element → Element
here_is_second Here = Register 1
here_is_second (Register r) = Register r

-- a frame beside a task
abbrev with_task : Colour → List Job
with_task c = runs (row free (mine 0) [] ∷ []) ∷ waits (row free c [] ∷ []) ∷ []

in_region_0 : (x : Element) → (view_of (sharing (mine 2))).region callee x ≡ 0
in_region_0 Here = refl
in_region_0 (Register zero) = refl
in_region_0 (Register (suc zero)) = refl
in_region_0 (Register (suc (suc r))) = refl

pub within_needed : (premise : WithinPremise) → IsNeeded within_says StaysSound premise
unfolding second_is_first second_is_third here_is_second
within_needed Top = record {
  old = view_of (asking 1);
  new = view_of (asking 7);
  at = (main, second_is_third);
  sound = sound_view (asking 1) refl;
  others = elim [
    | Top ↦ λ n. absurd (n refl)
    | Joined ↦ λ _ x y t. asking_regions x ∙ t ∙ sym (asking_regions y)
    | other ↦ λ _. within_by (asking 1) (asking 7) main second_is_third other refl
  ];
  fails = λ s. cc (s.returns.near {p = main} {x = Register 0} 1 refl
      (there (asking 7) callee Here (mine 1) refl)
      (there (asking 7) main (Register 0) (mine 1) refl));
}
within_needed Jobs = record {
  old = view_of two;
  new = view_of two_and_rogue;
  at = (main, λ x. x);
  sound = sound_view two refl;
  others = elim [
    | Jobs ↦ λ n. absurd (n refl)
    | Joined ↦ λ _ x y t. t
    | other ↦ λ _. within_by two two_and_rogue main (λ x. x) other refl
  ];
  fails = λ s. cc (s.owned.owned (there two_and_rogue task Here (mine 0) refl));
}
within_needed SameShape = record {
  old = view_of two;
  new = view_of reshaped;
  at = (main, λ x. x);
  sound = sound_view two refl;
  others = elim [
    | SameShape ↦ λ n. absurd (n refl)
    | Joined ↦ λ _ x y t. t
    | other ↦ λ _. within_by two reshaped main (λ x. x) other refl
  ];
  fails = λ s. cc (s.owned.isolated {a = bank} main (omega arith) refl);
}
within_needed SameHere = record {
  old = view_of (sharing (mine 1));
  new = view_of (sharing (mine 2));
  at = (callee, here_is_second);
  sound = sound_view (sharing (mine 1)) refl;
  others = elim [
    | SameHere ↦ λ n. absurd (n refl)
    | Joined ↦ λ _ x y t. in_region_0 x ∙ sym (in_region_0 y)
    | other ↦ λ _. within_by (sharing (mine 1)) (sharing (mine 2)) callee here_is_second other refl
  ];
  fails = λ s. cc (s.owned.apart {p = main} {q = callee} {x = Register 0} {y = Register 0}
      (refl, omega arith) (there (sharing (mine 2)) main (Register 0) (mine 1) refl)
      (there (sharing (mine 2)) callee (Register 0) (mine 1) refl));
}
within_needed Others = record {
  old = view_of (with_task (yours 0));
  new = view_of (with_task nobodys);
  at = (main, λ x. x);
  sound = sound_view (with_task (yours 0)) refl;
  others = elim [
    | Others ↦ λ n. absurd (n refl)
    | Joined ↦ λ _ x y t. t
    | other ↦ λ _. within_by (with_task (yours 0)) (with_task nobodys) main (λ x. x) other refl
  ];
  fails = λ s. cc (s.owned.owned (there (with_task nobodys) task Here nobodys refl));
}
within_needed Held = record {
  old = view_of two;
  new = view_of foreign;
  at = (main, λ x. x);
  sound = sound_view two refl;
  others = elim [
    | Held ↦ λ n. absurd (n refl)
    | Joined ↦ λ _ x y t. joined two foreign main refl x y t
    | other ↦ λ _. within_by two foreign main (λ x. x) other refl
  ];
  fails = λ s. cc (s.owned.owned (there foreign main (Register 0) nobodys refl));
}
within_needed Joined = record {
  old = view_of two;
  new = view_of torn;
  at = (main, second_is_first);
  sound = sound_view two refl;
  others = elim [
    | Joined ↦ λ n. absurd (n refl)
    | other ↦ λ _. within_by two torn main second_is_first other refl
  ];
  fails = λ s. cc (s.owned.together (there torn main (Register 0) (mine 1) refl)
      (there torn main (Register 1) (mine 1) refl));
}

-- ---- several sources
only : {x y : Element} → Contains (x ∷ []) y → x ≡ y
only {x} {y} h = go h.0 h.1 h.2
  where
    go : (k : ℕ) → k < 1 → slice_index_or (x ∷ []) k y ≡ y → x ≡ y
    go zero lt e = e
    go (suc k) lt e = absurd (omega arith)

-- each element comes from one element
from_one : (old new : View) (origin : Element → Element)
    → ((x : Element) (c : Colour) → HoldsLive new main x c → HoldsLive old main (origin x) c)
    → (x : Element) (c : Colour) → HoldsLive new main x c → (y : Element)
    × Contains (origin x ∷ []) y × HoldsLive old main y c
from_one old new origin held x c h = (origin x, (0, omega arith, refl), held x c h)

joined_one : (old new : View) (origin : Element → Element)
    → ((x y : Element) → InOneRegion old main (origin x) (origin y) → InOneRegion new main x y)
    → (x y from_x from_y : Element) → Contains (origin x ∷ []) from_x
    → Contains (origin y ∷ []) from_y → InOneRegion old main from_x from_y
    → InOneRegion new main x y
joined_one old new origin together x y from_x from_y a b t = together x y
    (ap (old.region main) (only a) ∙ t ∙ sym (ap (old.region main) (only b)))

-- two registers of one region, and a third that gets the colours of both
abbrev pair : List Job
pair = runs (row free (mine 0) (slot 1 (mine 1 ∷ []) ∷ slot 1 (mine 2 ∷ []) ∷ dead 1 ∷ []) ∷ []) ∷
    []

abbrev gathered : List Job
gathered = runs (row free (mine 0) (slot 1 (mine 1 ∷ []) ∷ slot 1 (mine 2 ∷ []) ∷ slot 1
    (mine 1 ∷ mine 2 ∷ []) ∷ []) ∷ []) ∷ []

both_first : Element → List Element
both_first Here = Here ∷ []
both_first (Register zero) = Register 0 ∷ []
both_first (Register (suc zero)) = Register 1 ∷ []
both_first (Register (suc (suc zero))) = Register 0 ∷ Register 1 ∷ []
both_first (Register (suc (suc (suc r)))) = Register (suc (suc (suc r))) ∷ []

gathered_regions : (x from_x : Element) → Contains (both_first x) from_x
    → (view_of pair).region main from_x ≡ (view_of gathered).region main x
unfolding both_first
gathered_regions Here from_x h = ap ((view_of pair).region main) (sym (only h))
gathered_regions (Register zero) from_x h = ap ((view_of pair).region main) (sym (only h))
gathered_regions (Register (suc zero)) from_x h = ap ((view_of pair).region main) (sym (only h))
gathered_regions (Register (suc (suc zero))) from_x h = go h.0 h.1 h.2
  where
    go : (k : ℕ) → k < 2 → slice_index_or (Register 0 ∷ Register 1 ∷ []) k from_x ≡ from_x
        → (view_of pair).region main from_x ≡ 1
    go zero lt e = ap ((view_of pair).region main) (sym e)
    go (suc zero) lt e = ap ((view_of pair).region main) (sym e)
    go (suc (suc k)) lt e = absurd (omega arith)
gathered_regions (Register (suc (suc (suc r)))) from_x h = ap ((view_of pair).region main)
    (sym (only h))

-- where each colour comes from
abbrev FromPair : Element → Colour → Type 0
FromPair x c = (y : Element) × Contains (both_first x) y × HoldsLive (view_of pair) main y c

gathered_from : (x : Element) (c : Colour) → HoldsLive (view_of gathered) main x c → FromPair x c
unfolding both_first
gathered_from = for_holders gathered main FromPair (record {
  first = (Here, (0, omega arith, refl), there pair main Here (mine 0) refl);
  rest = record {
    first = (Register 0, (0, omega arith, refl), holds_first);
    rest = record {
      first = (Register 1, (0, omega arith, refl), holds_second);
      rest = record {
        first = (Register 0, (0, omega arith, refl), holds_first);
        rest = record {
          first = (Register 1, (1, omega arith, refl), holds_second);
          rest = record {};
        };
      };
    };
  };
})
  where
    holds_first : HoldsLive (view_of pair) main (Register 0) (mine 1)
    holds_first = there pair main (Register 0) (mine 1) refl

    holds_second : HoldsLive (view_of pair) main (Register 1) (mine 2)
    holds_second = there pair main (Register 1) (mine 2) refl

pub comes_possible : IsPossible comes_says
unfolding both_first
comes_possible = record {
  old = view_of pair;
  new = view_of gathered;
  at = (main, both_first);
  sound = sound_view pair refl;
  all = elim [
    | Change ↦ changes_top pair gathered main refl
    | Held ↦ gathered_from
    | Joined ↦ λ x y from_x from_y a b t. sym (gathered_regions x from_x a) ∙ t
        ∙ gathered_regions y from_y b
  ];
}

pub comes_needed : (premise : ComesPremise) → IsNeeded comes_says StaysSound premise
unfolding second_is_first
comes_needed Change = record {
  old = view_of two;
  new = view_of two_and_rogue;
  at = (main, λ x. x ∷ []);
  sound = sound_view two refl;
  others = elim [
    | Change ↦ λ n. absurd (n refl)
    | Held ↦ λ _. from_one (view_of two) (view_of two_and_rogue) (λ x. x)
        (held_by two two_and_rogue main (λ x. x) refl)
    | Joined ↦ λ _. joined_one (view_of two) (view_of two_and_rogue) (λ x. x) (λ x y t. t)
  ];
  fails = λ s. cc (s.owned.owned (there two_and_rogue task Here (mine 0) refl));
}
comes_needed Held = record {
  old = view_of two;
  new = view_of foreign;
  at = (main, λ x. x ∷ []);
  sound = sound_view two refl;
  others = elim [
    | Change ↦ λ _. changes_top two foreign main refl
    | Held ↦ λ n. absurd (n refl)
    | Joined ↦ λ _. joined_one (view_of two) (view_of foreign) (λ x. x)
        (joined two foreign main refl)
  ];
  fails = λ s. cc (s.owned.owned (there foreign main (Register 0) nobodys refl));
}
comes_needed Joined = record {
  old = view_of two;
  new = view_of torn;
  at = (main, λ x. second_is_first x ∷ []);
  sound = sound_view two refl;
  others = elim [
    | Change ↦ λ _. changes_top two torn main refl
    | Held ↦ λ _. from_one (view_of two) (view_of torn) second_is_first
        (held_by two torn main second_is_first refl)
    | Joined ↦ λ n. absurd (n refl)
  ];
  fails = λ s. cc (s.owned.together (there torn main (Register 0) (mine 1) refl)
      (there torn main (Register 1) (mine 1) refl));
}

-- ---- a fresh colour
abbrev before_fresh : List Job
before_fresh = runs (row free (mine 0) (slot 1 (mine 1 ∷ []) ∷ slot 1 (mine 1 ∷ []) ∷ dead 3 ∷ []) ∷
    []) ∷ []

-- what the third register gets, and the region of the second
abbrev with_third : ℕ → Colour → List Job
with_third second c = runs
    (row free (mine 0) (slot 1 (mine 1 ∷ []) ∷ slot second (mine 1 ∷ []) ∷ slot 3 (c ∷ []) ∷ []) ∷
    []) ∷ []

abbrev third_and_rogue : List Job
third_and_rogue = runs
    (row free (mine 0) (slot 1 (mine 1 ∷ []) ∷ slot 1 (mine 1 ∷ []) ∷ slot 3 (mine 3 ∷ []) ∷ []) ∷
    []) ∷ rogue ∷ []

abbrev third_and_foreign : List Job
third_and_foreign = runs
    (row free (mine 0) (slot 1 (nobodys ∷ []) ∷ slot 1 (mine 1 ∷ []) ∷ slot 3 (mine 3 ∷ []) ∷ []) ∷
    []) ∷ []

-- what the others hold
abbrev others_held : List Job → List Job → Bool
others_held old new = list_all (λ h. same_element h.0 (Register 2) || holds_live old main h.0 h.1)
    (holders (row_at new main))

rest_held : (old new : List Job) → others_held old new ≡ true → (x : Element) (c : Colour)
    → x ≢ Register 2 → HoldsLive (view_of new) main x c → HoldsLive (view_of old) main x c
rest_held old new e x c n h = elim (or_cases (same_element x (Register 2)) (holds_live old main x c)
    (in_all (λ h. same_element h.0 (Register 2) || holds_live old main h.0 h.1) (x, c)
    (holders (row_at new main)) e (held_in new main x c h))) [
      | inl is ↦ absurd (n (same_element_true x (Register 2) is))
      | inr holds ↦ there old main x c holds
    ]

pub freshened_possible : IsPossible freshened_says
freshened_possible = record {
  old = view_of before_fresh;
  new = view_of (with_third 1 (mine 3));
  at = (main, 2, 3);
  sound = sound_view before_fresh refl;
  all = elim [
    | Change ↦ freshened_by before_fresh (with_third 1 (mine 3)) main 2 3 Change refl
    | other ↦ freshened_by before_fresh (with_third 1 (mine 3)) main 2 3 other refl
  ];
}

pub freshened_needed : (premise : FreshenedPremise) → IsNeeded freshened_says StaysSound premise
freshened_needed Change = record {
  old = view_of before_fresh;
  new = view_of third_and_rogue;
  at = (main, 2, 3);
  sound = sound_view before_fresh refl;
  others = elim [
    | Change ↦ λ n. absurd (n refl)
    | other ↦ λ _. freshened_by before_fresh third_and_rogue main 2 3 other refl
  ];
  fails = λ s. cc (s.owned.owned (there third_and_rogue task Here (mine 0) refl));
}
freshened_needed Fresh = record {
  old = view_of before_fresh;
  new = view_of (with_third 1 (mine 1));
  at = (main, 2, 1);
  sound = sound_view before_fresh refl;
  others = elim [
    | Fresh ↦ λ n. absurd (n refl)
    | other ↦ λ _. freshened_by before_fresh (with_third 1 (mine 1)) main 2 1 other refl
  ];
  fails = λ s. cc (s.owned.together (there (with_third 1 (mine 1)) main (Register 0) (mine 1) refl)
      (there (with_third 1 (mine 1)) main (Register 2) (mine 1) refl));
}
freshened_needed NewColour = record {
  old = view_of before_fresh;
  new = view_of (with_third 1 nobodys);
  at = (main, 2, 3);
  sound = sound_view before_fresh refl;
  others = elim [
    | NewColour ↦ λ n. absurd (n refl)
    | other ↦ λ _. freshened_by before_fresh (with_third 1 nobodys) main 2 3 other refl
  ];
  fails = λ s. cc (s.owned.owned (there (with_third 1 nobodys) main (Register 2) nobodys refl));
}
freshened_needed Held = record {
  old = view_of before_fresh;
  new = view_of third_and_foreign;
  at = (main, 2, 3);
  sound = sound_view before_fresh refl;
  others = elim [
    | Held ↦ λ n. absurd (n refl)
    | other ↦ λ _. freshened_by before_fresh third_and_foreign main 2 3 other refl
  ];
  fails = λ s. cc (s.owned.owned (there third_and_foreign main (Register 0) nobodys refl));
}
freshened_needed Joined = record {
  old = view_of before_fresh;
  new = view_of (with_third 2 (mine 3));
  at = (main, 2, 3);
  sound = sound_view before_fresh refl;
  others = elim [
    | Joined ↦ λ n. absurd (n refl)
    | other ↦ λ _. freshened_by before_fresh (with_third 2 (mine 3)) main 2 3 other refl
  ];
  fails = λ s. cc (s.owned.together (there (with_third 2 (mine 3)) main (Register 0) (mine 1) refl)
      (there (with_third 2 (mine 3)) main (Register 1) (mine 1) refl));
}

-- ---- nothing but less
-- the job stops, and its second register is not live any more
abbrev stopped : List Job
stopped = waits (row free (mine 0) (slot 1 (mine 1 ∷ []) ∷ dead 2 ∷ []) ∷ []) ∷ []

-- two jobs on the bank, and whether the second runs
abbrev on_bank_with : Bool → List Job
on_bank_with other = runs (row on_bank banks [] ∷ []) ∷ record {
  running = other;
  rows = row on_bank banks [] ∷ [];
} ∷ []

-- an isolated initialiser with only its return left
abbrev closing_here : Colour → List Job
closing_here here = runs
    (row (record {
      isolation = IsolatedTo bank;
      executor = On bank;
      crossing = true;
      closing = true;
      result = None;
    }) here [] ∷ []) ∷ []

-- two registers of one colour: the region of the second
abbrev same_colours : ℕ → List Job
same_colours region = runs
    (row free (mine 0) (slot 1 (mine 1 ∷ []) ∷ slot region (mine 1 ∷ []) ∷ []) ∷ []) ∷ []

pub weakened_possible : IsPossible weakened_says
weakened_possible = record {
  old = view_of two;
  new = view_of stopped;
  at = tt;
  sound = sound_view two refl;
  all = elim [
    | Heights ↦ weakened_by two stopped Heights refl
    | other ↦ weakened_by two stopped other refl
  ];
}

pub weakened_needed : (premise : WeakenedPremise) → IsNeeded weakened_says StaysSound premise
weakened_needed Heights = record {
  old = view_of two;
  new = view_of two_and_rogue;
  at = tt;
  sound = sound_view two refl;
  others = elim [
    | Heights ↦ λ n. absurd (n refl)
    | other ↦ λ _. weakened_by two two_and_rogue other refl
  ];
  fails = λ s. cc (s.owned.owned (there two_and_rogue task Here (mine 0) refl));
}
weakened_needed Running = record {
  old = view_of (on_bank_with false);
  new = view_of (on_bank_with true);
  at = tt;
  sound = sound_view (on_bank_with false) refl;
  others = elim [
    | Running ↦ λ n. absurd (n refl)
    | other ↦ λ _. weakened_by (on_bank_with false) (on_bank_with true) other refl
  ];
  fails = λ s. cc (s.owned.exclusive (runs_by (on_bank_with true) main bank refl)
      (runs_by (on_bank_with true) task bank refl));
}
weakened_needed SameShape = record {
  old = view_of two;
  new = view_of reshaped;
  at = tt;
  sound = sound_view two refl;
  others = elim [
    | SameShape ↦ λ n. absurd (n refl)
    | other ↦ λ _. weakened_by two reshaped other refl
  ];
  fails = λ s. cc (s.owned.isolated {a = bank} main (omega arith) refl);
}
weakened_needed SameHere = record {
  old = view_of (closing_here banks);
  new = view_of (closing_here (mine 0));
  at = tt;
  sound = sound_view (closing_here banks) refl;
  others = elim [
    | SameHere ↦ λ n. absurd (n refl)
    | other ↦ λ _. weakened_by (closing_here banks) (closing_here (mine 0)) other refl
  ];
  fails = λ s. cc (s.owned.isolated {a = bank} main (omega arith) refl);
}
weakened_needed Held = record {
  old = view_of two;
  new = view_of foreign;
  at = tt;
  sound = sound_view two refl;
  others = elim [
    | Held ↦ λ n. absurd (n refl)
    | other ↦ λ _. weakened_by two foreign other refl
  ];
  fails = λ s. cc (s.owned.owned (there foreign main (Register 0) nobodys refl));
}
weakened_needed Joined = record {
  old = view_of (same_colours 1);
  new = view_of (same_colours 2);
  at = tt;
  sound = sound_view (same_colours 1) refl;
  others = elim [
    | Joined ↦ λ n. absurd (n refl)
    | other ↦ λ _. weakened_by (same_colours 1) (same_colours 2) other refl
  ];
  fails = λ s. cc (s.owned.together (there (same_colours 2) main (Register 0) (mine 1) refl)
      (there (same_colours 2) main (Register 1) (mine 1) refl));
}
