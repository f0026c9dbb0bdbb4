-- Operands that are given away.
use Rattle.std.proofs.Common.{◌≡◌, ℕ, List, Option, Some, None, Contains, refl, sym, ap, ◌∙◌}
use Rattle.sw_owner_facts.specs.View.{Element, Here, Register}
use Rattle.sw_partition.specs.Regions.{Regions}
use Rattle.sw_region_ops.specs.Elements.{element_at}
use Rattle.sw_region_ops.specs.Groups.{part_with, send_each}
use Rattle.sw_region_ops.specs.declared.marks.Mark.{Mark}
use Rattle.sw_region_facts.specs.FrameRegions.{element_in, TogetherIn, LiveIn, HaveOwnNumbers}
use Rattle.sw_region_facts.specs.FrameRegions.{IsStateOf}
use Rattle.sw_region_facts.specs.Moves.{IsSent, Sends, SendsEach}
use Rattle.sw_region_facts.proofs.Doing.{Done}
use Rattle.sw_region_facts.proofs.Gathering.{weaker_grown, live_marks}
use Rattle.sw_region_facts.proofs.Giving.{Parted, parted, parted_each}
use Rattle.sw_region_facts.proofs.Marked.{AreMarked, mark_of_element, mark_at_index}
use Rattle.sw_region_facts.proofs.Numbers.{alone_is, together_tells, live_tells, nonzero}

module _ (elements : List (Option ℕ)) (own : HaveOwnNumbers elements) (a : Regions)
    (sized : IsStateOf elements a) (xs : List Element) (marks : List Mark)
    (marked : AreMarked elements xs marks) (b : Regions) where
  sent_marks : Parted marks a b → Sends elements xs a b
  sent_marks gone = record {
    weaker = weaker_grown elements own a sized b gone.given.grown;
    sent = λ x has. one x (mark_of_element elements xs marks marked x has)
        (live_marks elements own a sized xs marks marked
        (λ mark there. (gone.free mark there).0) x has);
  }
    where
      one : (x : Element)
          → (mark : Mark) × Contains marks mark × (element_in elements x ≡ Some mark.x)
          → LiveIn elements a x → IsSent elements a b x
      one x (mark, has, is) live = record {
        free = λ t. (gone.free mark has).1
            (together_tells elements own a sized x Here mark.x 0 is refl t);
        used = live;
        gone = λ r t l. with_it r t l (element_at elements r) refl;
      }
        where
          with_it : (r : ℕ) → TogetherIn elements a x (Register r) → LiveIn elements b (Register r)
              → (o : Option ℕ) → element_at elements r ≡ o → ⊥
          with_it r t l None none =
              let same : x ≡ Register r = alone_is elements a r x none (sym t) in
              let clash : Some mark.x ≡ None =
              sym is ∙ ap (element_in elements) same ∙ none in
              cc
          with_it r t l (Some y) at = live_tells elements own b r y at l
              (gone.given.gone mark has y (nonzero elements own r y at)
              (together_tells elements own a sized (Register r) x y mark.x at is (sym t)))

  pub sends_parted : (code site : ℕ) → Done (part_with code site marks) a b
      → Sends elements xs a b
  sends_parted code site done = sent_marks (parted code site marks a b done)

  pub sends_each : (code site : ℕ) → Done (send_each code site marks) a b
      → SendsEach elements xs a b
  sends_each code site done =
      let each = parted_each code site marks a b done in
      record {
        sends = sent_marks each.parted;
        apart = λ i j x y at there differ t.
            let one = mark_at_index elements xs marks marked i x at in
            let two = mark_at_index elements xs marks marked j y there in
            each.apart i j one.mark two.mark one.at two.at differ
            (together_tells elements own a sized x y one.mark.x two.mark.x one.is two.is t);
      }
