-- A new value that holds operands.
use Rattle.std.proofs.Common.{◌≡◌, ℕ, ◌<◌, ◌∷◌, [], ◌++◌, List, Option, Some, None, length, map}
use Rattle.std.proofs.Common.{Contains, refl, ap, ◌∙◌, sym, subst, inl, inr, Bool, true, false}
use Rattle.std.proofs.Common.{append-nil, append_assoc}
use Rattle.sw_list.proofs.Members.{later_in, first_in, one_in}
use Rattle.sw_region_flow.specs.Passing.{IsNotGivenAway}
use Rattle.std.proofs.lemmas.List.{map-append}
use Rattle.std.proofs.lemmas.List.Elements.{Contains-append_cases}
use Rattle.sw_owner_facts.specs.View.{Element, Here, Register}
use Rattle.sw_partition.specs.Effects.{IsFreshened}
use Rattle.sw_partition.specs.Regions.{Regions}
use Rattle.sw_region_ops.specs.Elements.{element_at}
use Rattle.sw_region_ops.specs.Groups.{need_each, fresh, join_with, make_of, join_result_here}
use Rattle.sw_region_ops.specs.Table.{closure_ops}
use Rattle.sw_region_ops.specs.declared.marks.Mark.{Mark}
use Rattle.sw_region_ops.specs.declared.op.Op.TheVariants.{Fresh, Join}
use Rattle.sw_region_facts.specs.FrameRegions.{LiveIn, IsWeaker}
use Rattle.sw_region_facts.specs.FrameRegions.{HaveOwnNumbers, IsStateOf}
use Rattle.sw_region_facts.specs.Moves.{Makes}
use Rattle.sw_region_facts.specs.Rows.{captured}
use Rattle.sw_region_facts.proofs.Doing.{Done, parts, needed}
use Rattle.sw_region_facts.proofs.Gathering.{weaker_grown, live_marks}
use Rattle.sw_region_facts.proofs.Joining.{Joined, joined_with, here_mark}
use Rattle.sw_region_facts.proofs.Marked.{AreMarked, mark_of_element, marks_inside, marked_append}
use Rattle.sw_region_facts.proofs.Numbers.{live_from, live_by, together_from, untracked_live}
use Rattle.sw_region_facts.proofs.Setting.{fresh_together, fresh_live}

module _ (elements : List (Option ℕ)) (own : HaveOwnNumbers elements) (a : Regions)
    (sized : IsStateOf elements a) (r : ℕ) (b : Regions) where
  -- the register isn't tracked, and nothing changes
  makes_untracked : element_at elements r ≡ None → (xs : List Element)
      → ((x : Element) → Contains xs x → LiveIn elements a x) → b ≡ a → Makes elements r xs a b
  makes_untracked none xs live same = subst (Makes elements r xs a) (sym same) (record {
    together = λ x y one two t. t;
    live = λ x differ l. l;
    used = live;
    still = live;
    made_live = untracked_live elements a r none;
    joined = λ x number has is. absurd (let clash = sym none ∙ is in cc);
  })

  -- it is tracked: it is fresh, and then joins what it is made of
  makes_tracked : (number : ℕ) → element_at elements r ≡ Some number → (xs : List Element)
      (marks : List Mark) → AreMarked elements xs marks
      → ((x : Element) → Contains xs x → LiveIn elements a x) → (m : Regions)
      → IsFreshened number a m → Done (join_with number marks) m b → Makes elements r xs a b
  makes_tracked number is xs marks marked live m fresh done = record {
    together = λ x y one two t. grows.together x y
        (fresh_together elements own a m sized r number is fresh x y one two t);
    live = λ x differ l. fresh_live elements own a m sized r number is fresh x differ
        (grows.live x l);
    used = live;
    still = λ x has. live_by elements own b a b_sized x
        (λ p site at pair. ((fresh.pairs p site).0 (joined.pairs p site pair)).1) (live x has);
    made_live = live_from elements own b b_sized (Register r) number is
        (λ pair. ((fresh.pairs number pair.0).0 (joined.pairs number pair.0 pair.1)).0 refl);
    joined = λ x other has there.
        let mark = mark_of_element elements xs marks marked x has in
        together_from elements b x (Register r) mark.0.x number mark.2 is
        (joined.together mark.0 made (later_in made marks mark.0 mark.1) (first_in made marks));
  }
    where
      made : Mark
      made = record { x = number; at = 0 }

      m_sized : IsStateOf elements m
      m_sized = fresh.elements_same ∙ sized

      inside_m : (mark : Mark) → Contains (made ∷ marks) mark → mark.x < length m.labels
      inside_m = marks_inside elements own (Register r ∷ xs) (made ∷ marks)
          (ap (λ l. element_at elements r ∷ l) marked ∙ ap (λ o. o ∷ map (λ (n : Mark). Some n.x) marks) is)
          m m_sized

      joined : Joined (made ∷ marks) m b
      joined = joined_with marks m b made done inside_m

      b_sized : IsStateOf elements b
      b_sized = joined.grown.sized ∙ m_sized

      grows : IsWeaker elements m b
      grows = weaker_grown elements own m m_sized b joined.grown

  -- the marks `needs` are needed, then the register is fresh and joins `marks`
  makes_by : (number : ℕ) → element_at elements r ≡ Some number → (xs : List Element)
      (needs marks : List Mark) → AreMarked elements xs marks
      → (((mark : Mark) → Contains needs mark → IsNotGivenAway a mark.x) → (x : Element)
      → Contains xs x → LiveIn elements a x)
      → Done ((need_each needs ++ Fresh number ∷ []) ++ join_with number marks) a b
      → Makes elements r xs a b
  makes_by number is xs needs marks marked live done =
      let last = parts (need_each needs ++ Fresh number ∷ []) (join_with number marks) a b done in
      let first = parts (need_each needs) (Fresh number ∷ []) a last.between last.before in
      let tests = needed needs a first.between first.before in
      let fresh : IsFreshened number a last.between =
      subst (λ n. IsFreshened number n last.between) tests.0
      (subst (IsFreshened number first.between) (sym first.after.runs.2) first.after.runs.1) in
      makes_tracked number is xs marks marked (live tests.1) last.between fresh last.after

  alone_made : element_at elements r ≡ None → (xs : List Element) (marks : List Mark)
      → AreMarked elements xs marks → Done (need_each marks) a b → Makes elements r xs a b
  alone_made none xs marks marked done =
      let needs = needed marks a b done in
      makes_untracked none xs (live_marks elements own a sized xs marks marked needs.1) needs.0

  pub made_of : (xs : List Element) (marks : List Mark) → AreMarked elements xs marks
      → Done (make_of (element_at elements r) marks) a b → Makes elements r xs a b
  made_of xs marks marked done = by (element_at elements r) refl done where
    by : (o : Option ℕ) → element_at elements r ≡ o → Done (make_of o marks) a b
        → Makes elements r xs a b
    by None is done = alone_made is xs marks marked
        (subst (λ l. Done l a b) (append-nil (need_each marks ++ []) ∙ append-nil (need_each marks))
        done)
    by (Some number) is done = makes_by number is xs marks marks marked
        (live_marks elements own a sized xs marks marked) done

  -- what an isolated closure captures is with `Here`
  pub closed_over : (isolated : Bool) (xs : List Element) (marks : List Mark)
      → AreMarked elements xs marks
      → Done (closure_ops isolated (element_at elements r) marks) a b
      → Makes elements r (captured isolated xs) a b
  closed_over false xs marks marked done = made_of xs marks marked
      (subst (λ l. Done l a b) (append-nil (make_of (element_at elements r) marks)) done)
  closed_over true xs marks marked done = by (element_at elements r) refl done where
    with_here : ((x : Element) → Contains xs x → LiveIn elements a x) → (x : Element)
        → Contains (xs ++ Here ∷ []) x → LiveIn elements a x
    with_here live x has = elim (Contains-append_cases xs (Here ∷ []) x has) [
      | inl there ↦ live x there
      | inr last ↦ subst (LiveIn elements a) (one_in Here x last) tt
    ]

    by : (o : Option ℕ) → element_at elements r ≡ o
        → Done (make_of o marks ++ join_result_here o) a b
        → Makes elements r (xs ++ Here ∷ []) a b
    by None is done =
        let needs = needed marks a b (subst (λ l. Done l a b)
        (append-nil ((need_each marks ++ []) ++ []) ∙ append-nil (need_each marks ++ [])
        ∙ append-nil (need_each marks)) done) in
        makes_untracked is (xs ++ Here ∷ [])
        (with_here (live_marks elements own a sized xs marks marked needs.1)) needs.0
    by (Some number) is done = makes_by number is (xs ++ Here ∷ []) marks (marks ++ here_mark ∷ [])
        (marked_append elements xs (Here ∷ []) marks (here_mark ∷ []) marked refl)
        (λ needs. with_here (live_marks elements own a sized xs marks marked needs))
        (subst (λ l. Done l a b)
        (append_assoc (need_each marks ++ Fresh number ∷ []) (join_with number marks)
        (Join number 0 ∷ [])
        ∙ ap (λ l. (need_each marks ++ Fresh number ∷ []) ++ l)
        (sym (map-append (λ (mark : Mark). Join number mark.x) marks (here_mark ∷ [])))) done)
