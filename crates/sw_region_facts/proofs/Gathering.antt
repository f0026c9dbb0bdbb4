-- Operands that are used, and operands that come together.
use Rattle.std.proofs.Common.{◌++◌, ◌≡◌, ℕ, ◌∷◌, List, Option, Some, Contains, refl, ap, ◌∙◌, sym}
use Rattle.std.proofs.Common.{subst, inl, inr}
use Rattle.sw_list.proofs.Members.{first_or_later}
use Rattle.sw_owner_facts.specs.View.{Element, Here}
use Rattle.sw_partition.specs.Regions.{Regions}
use Rattle.sw_region_flow.specs.Passing.{IsNotGivenAway}
use Rattle.sw_region_ops.specs.Groups.{need_each, join_all, join_here, free_each, meet, keep}
use Rattle.sw_region_ops.specs.declared.marks.Mark.{Mark}
use Rattle.sw_region_facts.specs.FrameRegions.{LiveIn, IsWeaker}
use Rattle.sw_region_facts.specs.FrameRegions.{HaveOwnNumbers, IsStateOf}
use Rattle.sw_region_facts.specs.Moves.{Uses, Gathers, GathersApart}
use Rattle.sw_region_facts.proofs.Doing.{Done, parts, needed, freed}
use Rattle.sw_region_facts.proofs.Joining.{Joined, Grown, joined_all, joined_here, here_mark}
use Rattle.sw_region_facts.proofs.Marked.{AreMarked, mark_of_element, marks_inside}
use Rattle.sw_region_facts.proofs.Numbers.{live_from, live_by, together_from, together_tells}
use Rattle.sw_region_facts.proofs.Weaker.{weaker_itself, weaker_within}

module _ (elements : List (Option ℕ)) (own : HaveOwnNumbers elements) (a : Regions)
    (sized : IsStateOf elements a) where
  pub weaker_grown : (b : Regions) → Grown a b → IsWeaker elements a b
  weaker_grown b grown = weaker_within elements own a b sized grown.within

  -- elements whose marks have no pair are live
  pub live_marks : (xs : List Element) (marks : List Mark) → AreMarked elements xs marks
      → ((mark : Mark) → Contains marks mark → IsNotGivenAway a mark.x) → (x : Element)
      → Contains xs x → LiveIn elements a x
  live_marks xs marks marked none x has =
      let mark = mark_of_element elements xs marks marked x has in
      live_from elements own a sized x mark.0.x mark.2 (none mark.0 mark.1)

  -- tests leave the state as it is
  pub uses_needed : (xs : List Element) (marks : List Mark) → AreMarked elements xs marks
      → (b : Regions) → Done (need_each marks) a b → (b ≡ a) × Uses elements xs a b
  uses_needed xs marks marked b done =
      let needs = needed marks a b done in (
        needs.0,
        record {
          weaker = subst (IsWeaker elements a) (sym needs.0) (weaker_itself elements a);
          used = live_marks xs marks marked needs.1;
        },
      )

  -- elements that are live, and whose marks are joined
  pub gathers_joined : (xs : List Element) (marks : List Mark) → AreMarked elements xs marks
      → ((x : Element) → Contains xs x → LiveIn elements a x) → (b : Regions) → Joined marks a b
      → Gathers elements xs a b
  gathers_joined xs marks marked live b joined = record {
    uses = record { weaker = weaker_grown b joined.grown; used = live };
    still = λ x has. live_by elements own b a (joined.grown.sized ∙ sized) x
        (λ p site at pair. joined.pairs p site pair) (live x has);
    together = λ x y has there.
        let one = mark_of_element elements xs marks marked x has in
        let two = mark_of_element elements xs marks marked y there in
        together_from elements b x y one.0.x two.0.x one.2 two.2
        (joined.together one.0 two.0 one.1 two.1);
  }

  pub met : (xs : List Element) (marks : List Mark) → AreMarked elements xs marks → (b : Regions)
      → Done (meet marks) a b → Gathers elements xs a b
  met xs marks marked b done =
      let halves = parts (need_each marks) (join_all marks) a b done in
      let needs = needed marks a halves.between halves.before in
      gathers_joined xs marks marked (live_marks xs marks marked needs.1) b
      (joined_all marks a b (subst (λ m. Done (join_all marks) m b) needs.0 halves.after)
      (marks_inside elements own xs marks marked a sized))

  -- `Here` and its mark come first
  here_marked : (xs : List Element) (marks : List Mark) → AreMarked elements xs marks
      → AreMarked elements (Here ∷ xs) (here_mark ∷ marks)
  here_marked xs marks marked = ap (λ l. Some 0 ∷ l) marked

  live_with_here : (xs : List Element) → ((x : Element) → Contains xs x → LiveIn elements a x)
      → (x : Element) → Contains (Here ∷ xs) x → LiveIn elements a x
  live_with_here xs live x has = elim (first_or_later Here xs x has) [
    | inl is ↦ subst (LiveIn elements a) is tt
    | inr there ↦ live x there
  ]

  pub kept : (xs : List Element) (marks : List Mark) → AreMarked elements xs marks → (b : Regions)
      → Done (keep marks) a b → Gathers elements (Here ∷ xs) a b
  kept xs marks marked b done =
      let halves = parts (need_each marks) (join_here marks) a b done in
      let needs = needed marks a halves.between halves.before in
      gathers_joined (Here ∷ xs) (here_mark ∷ marks) (here_marked xs marks marked)
      (live_with_here xs (live_marks xs marks marked needs.1)) b
      (joined_here marks a b (subst (λ m. Done (join_here marks) m b) needs.0 halves.after)
      (marks_inside elements own (Here ∷ xs) (here_mark ∷ marks) (here_marked xs marks marked) a
      sized))

  -- operands that are free, and come together
  pub met_apart : (code : ℕ) (xs : List Element) (marks : List Mark) → AreMarked elements xs marks
      → (b : Regions) → Done (free_each code marks ++ join_all marks) a b
      → GathersApart elements xs a b
  met_apart code xs marks marked b done =
      let halves = parts (free_each code marks) (join_all marks) a b done in
      let free = freed code marks a halves.between halves.before in
      let joined = joined_all marks a b
      (subst (λ m. Done (join_all marks) m b) free.0 halves.after)
      (marks_inside elements own xs marks marked a sized) in
      record {
        gathers = gathers_joined xs marks marked
            (live_marks xs marks marked (λ mark has. (free.1 mark has).0)) b joined;
        apart = λ x has t.
            let mark = mark_of_element elements xs marks marked x has in
            joined.apart 0 (λ other there. (free.1 other there).1) mark.0.x
            (free.1 mark.0 mark.1).1
            (together_tells elements own b (joined.grown.sized ∙ sized) x Here mark.0.x 0 mark.2
            refl t);
      }
