-- What the invariant gives: who can hold one colour at once.
use Rattle.std.specs.Prelude.{◌≡◌, ◌⊎◌, ℕ, IsTrue}
use Rattle.std.proofs.Common.{sym, ap, inl, inr, ◌∙◌, refl}
use Rattle.sw_owner_facts.specs.Colours.{Actor, Colour, OfJob, OfActor, On}
use Rattle.sw_owner_facts.specs.View.{Frame, Element, View, IsTop, HoldsLive}
use Rattle.sw_owner_facts.specs.Owned.{IsOwned}
use Rattle.sw_owner_facts.specs.Within.{Merged}

pub one_owner : (w : View) → IsOwned w → (p q : Frame) (x y : Element) (c : Colour)
    → HoldsLive w p x c → HoldsLive w q y c
    → (p.job ≡ q.job) ⊎ ((a : Actor) × (c ≡ OfActor a) × ((w.shape p).executor ≡ On a)
    × ((w.shape q).executor ≡ On a))
one_owner w owned p q x y (OfJob j n) h k = inl (sym (owned.owned h) ∙ owned.owned k)
one_owner w owned p q x y (OfActor a) h k = inr (a, refl, owned.owned h, owned.owned k)

pub one_runner : (w : View) → IsOwned w → (p q : Frame) (x y : Element) (c : Colour)
    → IsTrue (w.running p.job) → IsTrue (w.running q.job)
    → IsTop w p → IsTop w q → HoldsLive w p x c → HoldsLive w q y c → p.job ≡ q.job
one_runner w owned p q x y c p_runs q_runs p_top q_top h k =
    elim (one_owner w owned p q x y c h k) [
      | inl same ↦ same
      | inr on ↦ owned.exclusive (record { running = p_runs; top = p_top; executor = on.2 })
          (record { running = q_runs; top = q_top; executor = on.3 })
    ]

-- what a colour of the job merges with in the top frame is the job's, or the actor's that `Here` is
-- of
pub merged_owner : (old new : View) (q : Frame) (x y : Element) (number : ℕ) (kept : Colour)
    → IsOwned old → Merged old new q x y number kept
    → ((n : ℕ) × (kept ≡ OfJob q.job n))
    ⊎ ((a : Actor) × (kept ≡ OfActor a) × (old.here q ≡ OfActor a))
merged_owner old new q x y number kept owned m = by kept m.holds_kept
  where
    by : (c : Colour) → HoldsLive old q y c
        → ((n : ℕ) × (c ≡ OfJob q.job n))
        ⊎ ((a : Actor) × (c ≡ OfActor a) × (old.here q ≡ OfActor a))
    by (OfJob j n) h = inl (n, ap (λ j. OfJob j n) (owned.owned h))
    by (OfActor a) h = inr (a, refl, owned.actors h)

-- of two colours that a frame holds, one is the job's, or they are one
pub one_merges : (w : View) (p : Frame) (x y : Element) (c d : Colour) → IsOwned w
    → HoldsLive w p x c → HoldsLive w p y d
    → (c ≡ d) ⊎ ((n : ℕ) × ((c ≡ OfJob p.job n) ⊎ (d ≡ OfJob p.job n)))
one_merges w p x y (OfJob j n) d owned h k = inr (n, inl (ap (λ j. OfJob j n) (owned.owned h)))
one_merges w p x y (OfActor a) (OfJob j n) owned h k =
    inr (n, inr (ap (λ j. OfJob j n) (owned.owned k)))
one_merges w p x y (OfActor a) (OfActor b) owned h k = inl (sym (owned.actors h) ∙ owned.actors k)
