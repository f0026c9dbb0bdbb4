-- The race that a job is in.
use Rattle.std.proofs.Common.{◌≡◌, ℕ, ◌+◌, ◌<◌, ◌≤◌, ◌⊎◌, inl, inr, length, eqb, ltb, Bool, true}
use Rattle.std.proofs.Common.{false, cond, not, Option, Some, None, refl, ap, sym, ◌∙◌, arith}
use Rattle.std.specs.Prelude.{◌&&◌, ◌||◌, is_some, option_and_then}
use Rattle.std.specs.List.{slice_get}
use Rattle.std.proofs.lemmas.Option.{slice_get_within}
use Rattle.std.proofs.lemmas.Bool.Decides.{nat_tests}
use Rattle.sw_list.proofs.ListLemmas.{some_injective}
use Rattle.sw_graph.specs.declared.graph.Graph.{Graph}
use Rattle.sw_value.specs.declared.race.Access.{Access}
use Rattle.sw_value.specs.declared.race.Place.{Place}
use Rattle.sw_value.specs.declared.race.Place.TheVariants.{Prop, Global, BoxOf}
use Rattle.sw_value.specs.declared.race.Race.{Race}
use Rattle.sw_value.specs.declared.state.State.{State}
use Rattle.sw_value.specs.declared.job.Job.{Job}
use Rattle.sw_value.specs.Access.{job_access, next_access}
use Rattle.sw_value.specs.Racing.{IsConflict}
use Rattle.sw_value.proofs.AccessLemmas.{next_names_its_job}
use Rattle.sw_race.specs.With.{IsRaceOf, other_of, IsLeastRaceOf, is_same_place, are_rivals}
use Rattle.sw_race.specs.With.{IsRival, ordered, IsFound}

-- the test of two locations
pub and_left : (a b : Bool) → a && b ≡ true → a ≡ true
and_left true b e = refl
and_left false b e = cc

pub and_right : (a b : Bool) → a && b ≡ true → b ≡ true
and_right true b e = e
and_right false b e = cc

same_numbers : (a b : ℕ) → eqb a b ≡ true → a ≡ b
same_numbers a b e = grind (arith, nat_tests)

same_number : (a : ℕ) → eqb a a ≡ true
same_number a = grind (arith, nat_tests)

pub place_is : (p q : Place) → is_same_place p q ≡ true → p ≡ q
place_is (Prop c i) (Prop d k) e =
    let cells = same_numbers c d (and_left (eqb c d) (eqb i k) e) in
    let parts = same_numbers i k (and_right (eqb c d) (eqb i k) e) in
    ap (λ x. Prop x i) cells ∙ ap (Prop d) parts
place_is (Prop c i) (Global g) e = cc
place_is (Prop c i) (BoxOf d) e = cc
place_is (Global g) (Prop d k) e = cc
place_is (Global g) (Global h) e = ap Global (same_numbers g h e)
place_is (Global g) (BoxOf d) e = cc
place_is (BoxOf c) (Prop d k) e = cc
place_is (BoxOf c) (Global h) e = cc
place_is (BoxOf c) (BoxOf d) e = ap BoxOf (same_numbers c d e)

pub place_same : (p : Place) → is_same_place p p ≡ true
place_same (Prop c i) = ap (λ b. b && eqb i i) (same_number c) ∙ same_number i
place_same (Global g) = same_number g
place_same (BoxOf c) = same_number c

pub or_swap : (a b : Bool) → a || b ≡ true → b || a ≡ true
or_swap true true e = refl
or_swap true false e = refl
or_swap false true e = refl
or_swap false false e = cc

-- what the test of two accesses says
pub conflicts : (a b : Access) → are_rivals a b ≡ true → IsConflict a b
conflicts a b e =
    let rest = and_right (not (eqb a.job b.job))
    (is_same_place a.place b.place && (a.writes || b.writes)) e in
    record {
      same = place_is a.place b.place
          (and_left (is_same_place a.place b.place) (a.writes || b.writes) rest);
      writes = and_right (is_same_place a.place b.place) (a.writes || b.writes) rest;
    }

pub differ : (a b : Access) → are_rivals a b ≡ true → eqb a.job b.job ≡ false
differ a b e = by (eqb a.job b.job) (and_left (not (eqb a.job b.job))
    (is_same_place a.place b.place && (a.writes || b.writes)) e) where
      by : (t : Bool) → not t ≡ true → t ≡ false
      by true e = cc
      by false e = refl

pub swapped : (a b : Access) → IsConflict a b → IsConflict b a
swapped a b c = record { same = sym c.same; writes = or_swap a.writes b.writes c.writes }

rival_of : (a b : Access) → eqb a.job b.job ≡ false → IsConflict a b → are_rivals a b ≡ true
rival_of a b apart c =
    let place : is_same_place a.place b.place ≡ true =
    ap (is_same_place a.place) (sym c.same) ∙ place_same a.place in
    ap (λ t. not t && (is_same_place a.place b.place && (a.writes || b.writes))) apart
    ∙ ap (λ t. t && (a.writes || b.writes)) place ∙ c.writes

-- the accesses of a race of job j are that of j and that of a rival
pub record Sides (graph : Graph) (state : State) (j : ℕ) (access : Access) (race : Race)
    : Type 0 where
  pub rival : Access
  pub is_rival : IsRival graph state access rival
  pub other : other_of j race ≡ rival.job

pub sides : (graph : Graph) (state : State) (j : ℕ) (access : Access)
    → next_access graph state j ≡ Some access → (race : Race) → IsRaceOf graph state j race
    → Sides graph state j access race
sides graph state j access next race r = by r.takes_part where
  order : race.first.job < race.second.job
  order = r.is_race.order

  by : (race.first.job ≡ j) ⊎ (race.second.job ≡ j) → Sides graph state j access race
  by (inl first) =
      let same : race.first ≡ access =
      some_injective (sym r.is_race.first_next ∙ ap (next_access graph state) first ∙ next) in
      let apart : eqb race.first.job race.second.job ≡ false =
      grind (arith, nat_tests, r.is_race.order) in
      let test : eqb race.first.job j ≡ true = grind (arith, nat_tests, first) in
      record {
        rival = race.second;
        is_rival = record {
          next = r.is_race.second_next;
          rivals = ap (λ a. are_rivals a race.second) (sym same)
              ∙ rival_of race.first race.second apart r.is_race.conflict;
        };
        other = ap (λ b. cond b race.second.job race.first.job) test;
      }
  by (inr second) =
      let same : race.second ≡ access =
      some_injective (sym r.is_race.second_next ∙ ap (next_access graph state) second ∙ next) in
      let apart : eqb race.second.job race.first.job ≡ false =
      grind (arith, nat_tests, r.is_race.order) in
      let test : eqb race.first.job j ≡ false = grind (arith, nat_tests, second, r.is_race.order) in
      record {
        rival = race.first;
        is_rival = record {
          next = r.is_race.first_next;
          rivals = ap (λ a. are_rivals a race.first) (sym same)
              ∙ rival_of race.second race.first apart
              (swapped race.first race.second r.is_race.conflict);
        };
        other = ap (λ b. cond b race.second.job race.first.job) test;
      }

-- a job that accesses nothing is in no race
pub found_none : (graph : Graph) (state : State) (j : ℕ) → next_access graph state j ≡ None
    → IsFound graph state j None
found_none graph state j none race r = by r.takes_part where
  by : (race.first.job ≡ j) ⊎ (race.second.job ≡ j) → ⊥
  by (inl first) =
      let some = sym r.is_race.first_next ∙ ap (next_access graph state) first ∙ none in cc
  by (inr second) =
      let some = sym r.is_race.second_next ∙ ap (next_access graph state) second ∙ none in cc

-- nor is one without a rival
pub found_alone : (graph : Graph) (state : State) (j : ℕ) (access : Access)
    → next_access graph state j ≡ Some access
    → ((other : Access) → IsRival graph state access other → ⊥) → IsFound graph state j None
found_alone graph state j access next alone race r =
    let s = sides graph state j access next race r in alone s.rival s.is_rival

-- one with a rival races with the least
pub found_rival : (graph : Graph) (state : State) (j : ℕ) (access rival : Access)
    → next_access graph state j ≡ Some access → IsRival graph state access rival
    → ((other : Access) → IsRival graph state access other → rival.job ≤ other.job)
    → IsFound graph state j (Some (ordered access rival))
found_rival graph state j access rival next is least =
    by (ltb access.job rival.job) refl where
      named : access.job ≡ j
      named = next_names_its_job graph state j access next

      least_of : (race : Race) → IsRaceOf graph state j race → other_of j race ≡ rival.job
          → (other : Race) → IsRaceOf graph state j other → other_of j race ≤ other_of j other
      least_of race r here other o =
          let s = sides graph state j access next other o in
          let l = least s.rival s.is_rival in
          omega (arith, here, s.other, l)

      by : (b : Bool) → ltb access.job rival.job ≡ b
          → IsLeastRaceOf graph state j
          (cond b (record { first = access; second = rival })
          (record { first = rival; second = access }))
      by true e =
          let race : Race = record { first = access; second = rival } in
          let less : access.job < rival.job = grind (arith, nat_tests, e) in
          let test : eqb access.job j ≡ true = grind (arith, nat_tests, named) in
          let r : IsRaceOf graph state j race = record {
            is_race = record {
              order = less;
              first_next = ap (next_access graph state) named ∙ next;
              second_next = is.next;
              conflict = conflicts access rival is.rivals;
            };
            takes_part = inl named;
          } in
          record {
            is_race_of = r;
            least = least_of race r (ap (λ b. cond b rival.job access.job) test);
          }
      by false e =
          let race : Race = record { first = rival; second = access } in
          let apart = differ access rival is.rivals in
          let less : rival.job < access.job = grind (arith, nat_tests, e, apart) in
          let test : eqb rival.job j ≡ false = grind (arith, nat_tests, named, less) in
          let r : IsRaceOf graph state j race = record {
            is_race = record {
              order = less;
              first_next = is.next;
              second_next = ap (next_access graph state) named ∙ next;
              conflict = swapped access rival (conflicts access rival is.rivals);
            };
            takes_part = inr named;
          } in
          record {
            is_race_of = r;
            least = least_of race r (ap (λ b. cond b access.job rival.job) test);
          }

-- the search for the first rival: no rival has a lower number
pub rival_later_none : (graph : Graph) (state : State) (access : Access) (k : ℕ)
    → ((o : Access) → IsRival graph state access o → k ≤ o.job)
    → next_access graph state k ≡ None
    → (o : Access) → IsRival graph state access o → k + 1 ≤ o.job
rival_later_none graph state access k lower none o r = by (eqb k o.job) refl where
  by : (b : Bool) → eqb k o.job ≡ b → k + 1 ≤ o.job
  by true e =
      let same = same_numbers k o.job e in
      let some = sym r.next ∙ sym (ap (next_access graph state) same) ∙ none in cc
  by false e =
      let low = lower o r in
      let apart : k < o.job = grind (arith, nat_tests, low, e) in omega (arith, apart)

pub rival_later_other : (graph : Graph) (state : State) (access : Access) (k : ℕ) (x : Access)
    → ((o : Access) → IsRival graph state access o → k ≤ o.job)
    → next_access graph state k ≡ Some x → are_rivals access x ≡ false
    → (o : Access) → IsRival graph state access o → k + 1 ≤ o.job
rival_later_other graph state access k x lower next fails o r = by (eqb k o.job) refl where
  by : (b : Bool) → eqb k o.job ≡ b → k + 1 ≤ o.job
  by true e =
      let same = same_numbers k o.job e in
      let is : x ≡ o = some_injective (sym next ∙ ap (next_access graph state) same ∙ r.next) in
      let passes = ap (are_rivals access) is ∙ r.rivals in
      let both = sym fails ∙ passes in cc
  by false e =
      let low = lower o r in
      let apart : k < o.job = grind (arith, nat_tests, low, e) in omega (arith, apart)

pub rival_here : (graph : Graph) (state : State) (access : Access) (k : ℕ) (x : Access)
    → next_access graph state k ≡ Some x → are_rivals access x ≡ true
    → IsRival graph state access x
rival_here graph state access k x next passes = record {
  next = ap (next_access graph state) (next_names_its_job graph state k x next) ∙ next;
  rivals = passes;
}

pub rival_least : (graph : Graph) (state : State) (access : Access) (k : ℕ) (x : Access)
    → ((o : Access) → IsRival graph state access o → k ≤ o.job)
    → next_access graph state k ≡ Some x
    → (o : Access) → IsRival graph state access o → x.job ≤ o.job
rival_least graph state access k x lower next o r =
    let here = next_names_its_job graph state k x next in
    let low = lower o r in omega (arith, here, low)

-- only jobs that are there make accesses
next_within : (graph : Graph) (state : State) (k : ℕ) (x : Access)
    → next_access graph state k ≡ Some x → k < length state.jobs
unfolding next_access
next_within graph state k x = by (is_some state.halted) where
  by_job : (o : Option Job) → slice_get state.jobs k ≡ o
      → option_and_then (job_access graph state k) o ≡ Some x → k < length state.jobs
  by_job None there e = cc
  by_job (Some job) there e = slice_get_within state.jobs k job there

  by : (b : Bool)
      → cond b None (option_and_then (job_access graph state k) (slice_get state.jobs k)) ≡ Some x
      → k < length state.jobs
  by true e = cc
  by false e = by_job (slice_get state.jobs k) refl e

pub rival_past : (graph : Graph) (state : State) (access : Access) (k : ℕ)
    → ((o : Access) → IsRival graph state access o → k ≤ o.job) → length state.jobs ≤ k
    → (o : Access) → IsRival graph state access o → ⊥
rival_past graph state access k lower past o r =
    let low = lower o r in
    let inside = next_within graph state o.job o r.next in absurd (omega (arith, low, past, inside))

pub ruleset found = (found_none, found_alone, found_rival)

pub ruleset search_steps =
    (rival_later_none, rival_later_other, rival_here, rival_least, rival_past)
