-- Uses of locations, in a table and in a list of targets.
use Rattle.std.proofs.Common.{◌≡◌, ℕ, ◌+◌, ◌<◌, ◌≤◌, Bool, true, false, cond, not, Option}
use Rattle.std.proofs.Common.{Some, None, List, [], ◌∷◌, ◌++◌, refl, ap, ◌∙◌, arith}
use Rattle.std.specs.Prelude.{unwrap_or, ◌&&◌, IfSome}
use Rattle.std.specs.List.{slice_get, slice_set}
use Rattle.sw_value.specs.contracts.race.PlacePartialEq.TheImpl as derived
use Rattle.sw_value.specs.declared.race.Place.{Place}
use Rattle.sw_value.specs.declared.race.Place.TheVariants.{Prop, Global, BoxOf}
use Rattle.sw_value.proofs.BusyLemmas.{count_set, count_push, count_at}
use Rattle.sw_race.specs.declared.target.Target.{Target}
use Rattle.sw_race.specs.declared.uses.Uses.{Uses}
use Rattle.sw_race.specs.Uses.{unused, uses_of, more, with_use, used, reads, writes}
use Rattle.sw_race.specs.With.{is_same_place}
use Rattle.sw_race.proofs.WithLemmas.{place_same}

-- one for a test that is passed
abbrev pub one : Bool → ℕ
one b = cond b 1 0

-- a table that was changed at one location
pub put_at : (b : Bool) (uses : Uses) (o : Option Uses)
    → unwrap_or (cond b (Some uses) o) unused ≡ cond b uses (unwrap_or o unused)
put_at true uses o = refl
put_at false uses o = refl

pub cleared_at : (b : Bool) (o : Option Uses)
    → unwrap_or (cond b None o) unused ≡ cond b unused (unwrap_or o unused)
cleared_at true o = refl
cleared_at false o = refl

-- one more target adds to the readers or to the writers
readers_with : (x : Option Target) (p : Place) (u : Uses)
    → (with_use x p u).readers ≡ u.readers + one (reads p x)
readers_with None p u = omega arith
readers_with (Some t) p u = by (is_same_place t.place p) t.writes where
  by : (same w : Bool) → (cond same (more w u) u).readers ≡ u.readers + one (same && not w)
  by true true = omega arith
  by true false = refl
  by false w = omega arith

writers_with : (x : Option Target) (p : Place) (u : Uses)
    → (with_use x p u).writers ≡ u.writers + one (writes p x)
writers_with None p u = omega arith
writers_with (Some t) p u = by (is_same_place t.place p) t.writes where
  by : (same w : Bool) → (cond same (more w u) u).writers ≡ u.writers + one (same && w)
  by true true = refl
  by true false = omega arith
  by false w = omega arith

same_uses : (u v : Uses) → u.readers ≡ v.readers → u.writers ≡ v.writers → u ≡ v
same_uses u v r w = λ i. record { readers = r i; writers = w i }

-- The targets of which one was replaced: what was counted in and taken out.
pub replaced_counts : (xs : List (Option Target)) (j : ℕ) (old next : Option Target)
    (before mid after : Uses) (p : Place) → slice_get xs j ≡ Some old → before ≡ uses_of p xs
    → mid ≡ with_use next p before → with_use old p after ≡ mid
    → after ≡ uses_of p (slice_set xs j next)
replaced_counts xs j old next before mid after p here was more less =
    let reading = count_set (reads p) xs j old next here in
    let writing = count_set (writes p) xs j old next here in
    let all = less ∙ more ∙ ap (with_use next p) was in
    let readers = ap (λ u. u.readers) all in
    let writers = ap (λ u. u.writers) all in
    same_uses after (uses_of p (slice_set xs j next))
    (omega (
      arith,
      reading,
      readers,
      readers_with old p after,
      readers_with next p (uses_of p xs),
    ))
    (omega (
      arith,
      writing,
      writers,
      writers_with old p after,
      writers_with next p (uses_of p xs),
    ))

-- a target of the list is counted, also where another was counted in
counted : (w : Bool) (u v : Uses) → u.readers ≤ v.readers → u.writers ≤ v.writers
    → 0 < used w u → 0 < used w v
counted true u v r w some = omega arith
counted false u v r w some = omega arith

pub target_counted : (xs : List (Option Target)) (j : ℕ) (t : Target)
    → slice_get xs j ≡ Some (Some t) → 0 < used t.writes (uses_of t.place xs)
target_counted xs j t here = by t.writes refl where
  by : (w : Bool) → t.writes ≡ w → 0 < used w (uses_of t.place xs)
  by true e =
      let test : writes t.place (Some t) ≡ true =
      ap (λ b. b && t.writes) (place_same t.place) ∙ e in
      let some = count_at (writes t.place) xs j (Some t) here in
      let o = ap one test in
      omega (arith, some, o)
  by false e =
      let test : reads t.place (Some t) ≡ true =
      ap (λ b. b && not t.writes) (place_same t.place) ∙ ap not e in
      let some = count_at (reads t.place) xs j (Some t) here in
      let o = ap one test in
      omega (arith, some, o)

pub old_counted : (xs : List (Option Target)) (j : ℕ) (old next : Option Target)
    (before mid : Place → Uses) → slice_get xs j ≡ Some old
    → ((p : Place) → before p ≡ uses_of p xs)
    → ((p : Place) → mid p ≡ with_use next p (before p))
    → IfSome old (λ t. 0 < used t.writes (mid t.place))
old_counted xs j None next before mid here was more = tt
old_counted xs j (Some t) next before mid here was more =
    let all = more t.place ∙ ap (with_use next t.place) (was t.place) in
    let readers = ap (λ u. u.readers) all in
    let writers = ap (λ u. u.writers) all in
    counted t.writes (uses_of t.place xs) (mid t.place)
    (omega (arith, readers, readers_with next t.place (uses_of t.place xs)))
    (omega (arith, writers, writers_with next t.place (uses_of t.place xs)))
    (target_counted xs j t here)

-- a job without target uses nothing
pub uses_push : (xs : List (Option Target)) (p : Place)
    → uses_of p (xs ++ None ∷ []) ≡ uses_of p xs
uses_push xs p =
    same_uses (uses_of p (xs ++ None ∷ [])) (uses_of p xs)
    (omega (arith, count_push (reads p) xs None)) (omega (arith, count_push (writes p) xs None))

-- the equality of locations that a table goes by
pub table_eq : (p q : Place) → derived.ghosts.eq p q ≡ is_same_place p q
table_eq (Prop c i) (Prop d k) = refl
table_eq (Prop c i) (Global g) = refl
table_eq (Prop c i) (BoxOf d) = refl
table_eq (Global g) (Prop d k) = refl
table_eq (Global g) (Global h) = refl
table_eq (Global g) (BoxOf d) = refl
table_eq (BoxOf c) (Prop d k) = refl
table_eq (BoxOf c) (Global h) = refl
table_eq (BoxOf c) (BoxOf d) = refl

pub same_test : derived.ghosts.eq ≡ is_same_place
same_test = λ i p q. table_eq p q i
