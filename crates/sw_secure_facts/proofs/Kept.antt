-- Of colours that a frame holds live, one can be kept.
use Rattle.std.proofs.Common.{List, [], ◌∷◌, Contains, refl, inl, inr, ap}
use Rattle.sw_owner_facts.specs.Colours.{Colour, OfActor, OfJob}
use Rattle.sw_owner_facts.specs.Owned.{IsOwned}
use Rattle.sw_owner_facts.specs.View.{Element, HoldsLive, View, Frame as Spot}
use Rattle.sw_view_facts.specs.Renaming.{AllButOne}
use Rattle.sw_view_facts.proofs.KeptColourLemmas.{some_kept}
use Rattle.sw_secure_facts.specs.Painting.{IsOwn, MayUnite}

-- what a frame holds live is an actor's, or its job's
pub held_is_own : (w : View) (p : Spot) (x : Element) (c : Colour) → IsOwned w → HoldsLive w p x c
    → IsOwn p c
held_is_own w p x (OfActor a) owned holds = inl (a, refl)
held_is_own w p x (OfJob j n) owned holds = inr (n, ap (λ k. OfJob k n) (owned.owned holds))

pub some_own_kept : (w : View) (p : Spot) → IsOwned w → (first : Colour) (rest : List Colour)
    → ((c : Colour) → Contains (first ∷ rest) c → (x : Element) × HoldsLive w p x c)
    → (kept : Colour) × Contains (first ∷ rest) kept × AllButOne p kept (first ∷ rest)
    × IsOwn p kept
some_own_kept w p owned first rest held =
    let kept = some_kept w p owned first rest held in
    let holds = held kept.0 kept.1 in
    (kept.0, kept.1, kept.2, held_is_own w p holds.0 kept.0 owned holds.1)

-- so they may become one
pub held_unite : (w : View) (p : Spot) → IsOwned w → (joined : List Colour)
    → ((c : Colour) → Contains joined c → (x : Element) × HoldsLive w p x c) → MayUnite p joined
held_unite w p owned [] held = inl refl
held_unite w p owned (first ∷ rest) held = inr (some_own_kept w p owned first rest held)
