-- One more open number goes into the order.
use Rattle.std.proofs.Common.{◌≡◌, ◌≢◌, ℕ, ◌+◌, ◌<◌, ◌≤◌, inl, inr, Bool, false, List, [], ◌∷◌}
use Rattle.std.proofs.Common.{◌++◌, length, get_or, set, take, drop, Some, slice_get, sym, ap, subst}
use Rattle.std.proofs.Common.{◌∙◌, arith, append_assoc}
use Rattle.std.proofs.lemmas.Bool.{cases_eq, cases_lt}
use Rattle.std.proofs.lemmas.List.{drop-append-le, get_or-set_other, get_or-set_same, length-set}
use Rattle.std.proofs.lemmas.List.{length-take, take_more}
use Rattle.std.proofs.lemmas.Option.{slice_get_within, get_or_from_slice_get}
use Rattle.sw_list.proofs.ListLemmas.{some_injective}
use Rattle.sw_types.specs.Walks.{is_fresh, progress_at, AreMoved}
use Rattle.sw_types.specs.declared.ordering.Progress.{Progress}
use Rattle.sw_types.specs.declared.ordering.Progress.TheVariants.{Fresh, Open, Settled}
use Rattle.sw_types.specs.declared.ordering.Walk.{Walk}
use Rattle.sw_types.proofs.Walking.{fresh_count-set, in_table, same_place, weight}

module _ (first place : ℕ) (returns : Bool) (old now : Walk)
    (is : AreMoved first place returns old now) (from : first ≤ place)
    (placed : (k p : ℕ) → slice_get old.opened p ≡ Some k → progress_at old.progress k ≡ Open p)
    (sizes : length old.returns ≡ length old.progress)
    (number : ℕ) (at : slice_get old.opened place ≡ Some number) where
  under : place < length old.opened
  under = slice_get_within old.opened place number at

  -- it is not among those that were moved before
  still_open : progress_at now.progress number ≡ Open place
  still_open = (is.others number (λ p here le lt.
      let same = same_place p place (sym (placed number p here) ∙ placed number place at) in
      omega (arith, same, lt))).0 ∙ placed number place at

  pub moves_in_table : number < length now.progress
  moves_in_table = in_table now.progress number (ap is_fresh still_open)

  pub moves_in_marks : number < length now.returns
  moves_in_marks = omega (arith, moves_in_table, sizes, is.sized, is.marks_sized)

  order_more : now.order ++ number ∷ [] ≡ old.order ++ drop first (take (place + 1) old.opened)
  order_more =
      let more : take (place + 1) old.opened ≡ take place old.opened ++ number ∷ [] =
      take_more old.opened place 0 under
      ∙ ap (λ k. take place old.opened ++ k ∷ []) (get_or_from_slice_get old.opened place number 0 at) in
      ap (λ l. l ++ number ∷ []) is.order
      ∙ append_assoc old.order (drop first (take place old.opened)) (number ∷ [])
      ∙ ap (λ l. old.order ++ l) (sym (ap (drop first) more
      ∙ drop-append-le first (take place old.opened) (number ∷ [])
      (omega (arith, from, under, length-take place old.opened))))

  moved_more : AreMoved first (place + 1) returns old (record now {
    progress = set now.progress number Settled;
    returns = set now.returns number returns;
    order = now.order ++ number ∷ [];
  })
  moved_more = record {
    opened = is.opened;
    groups = is.groups;
    waiting = is.waiting;
    order = order_more;
    sized = length-set now.progress number Settled ∙ is.sized;
    marks_sized = length-set now.returns number returns ∙ is.marks_sized;
    moved = λ k p here le lt. elim (cases_eq k number) [
      | inl e ↦ (
        subst (λ j. progress_at (set now.progress number Settled) j ≡ Settled) (sym e)
            (get_or-set_same now.progress number Settled Fresh moves_in_table),
        subst (λ j. get_or (set now.returns number returns) j false ≡ returns) (sym e)
            (get_or-set_same now.returns number returns false moves_in_marks),
      )
      | inr ne ↦
          (let both = is.moved k p here le (earlier k p here lt ne) in (
            get_or-set_other now.progress number k Settled Fresh ne ∙ both.0,
            get_or-set_other now.returns number k returns false ne ∙ both.1,
          ))
    ];
    others = λ k none.
        let ne : k ≢ number = λ e. none place (subst (λ j. slice_get old.opened place ≡ Some j)
        (sym e) at) from (omega arith) in
        let both = is.others k (λ p here le lt. none p here le (omega (arith, lt))) in (
          get_or-set_other now.progress number k Settled Fresh ne ∙ both.0,
          get_or-set_other now.returns number k returns false ne ∙ both.1,
        );
    counted =
        (let counts = fresh_count-set now.progress number Settled moves_in_table in
        let none : weight (progress_at now.progress number) ≡ 0 = ap weight still_open in
        omega (arith, counts, none, is.counted));
  }
    where
      earlier : (k p : ℕ) → slice_get old.opened p ≡ Some k → p < place + 1 → k ≢ number → p < place
      earlier k p here lt ne = elim (cases_lt p place) [
        | inl before ↦ before
        | inr le ↦ absurd (let same : p ≡ place = omega (arith, lt, le) in
            ne (some_injective (sym here ∙ ap (slice_get old.opened) same ∙ at)))
      ]

  pub moved_to : (progress : List Progress) (marks : List Bool) (order : List ℕ)
      → progress ≡ set now.progress number Settled → marks ≡ set now.returns number returns
      → order ≡ now.order ++ number ∷ []
      → AreMoved first (place + 1) returns old (record now {
        progress = progress;
        returns = marks;
        order = order;
      })
  moved_to progress marks order e f g =
      subst (λ (p : List Progress). AreMoved first (place + 1) returns old (record now {
        progress = p;
        returns = marks;
        order = order;
      })) (sym e)
      (subst (λ (m : List Bool). AreMoved first (place + 1) returns old (record now {
        progress = set now.progress number Settled;
        returns = m;
        order = order;
      })) (sym f)
      (subst (λ (o : List ℕ). AreMoved first (place + 1) returns old (record now {
        progress = set now.progress number Settled;
        returns = set now.returns number returns;
        order = o;
      })) (sym g) moved_more))
