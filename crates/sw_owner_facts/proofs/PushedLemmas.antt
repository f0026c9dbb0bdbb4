-- A job gets a frame on top of its others.
use Rattle.std.specs.Prelude.{◌≡◌, ◌≢◌, ◌⊎◌, ℕ, zero, true, false, Some, refl}
use Rattle.std.proofs.Common.{sym, subst, ap, ◌∙◌, inl, inr, arith}
use Rattle.std.proofs.lemmas.Bool.{cases_eq}
use Rattle.sw_owner_facts.specs.Colours.{Actor, Colour, OfActor, Generic, On, IsOwnedBy}
use Rattle.sw_owner_facts.specs.View.{Frame, above, IsLowerFrame, Element, Here, Register, IsolatedTo}
use Rattle.sw_owner_facts.specs.View.{MakesActor, FrameShape, View, IsFrame, HoldsLive, InOneRegion}
use Rattle.sw_owner_facts.specs.View.{RunsOn}
use Rattle.sw_owner_facts.specs.Owned.{IsSound}
use Rattle.sw_owner_facts.specs.Within.{KeptLive}
use Rattle.sw_owner_facts.specs.Calls.{Pushed}
use Rattle.sw_owner_facts.proofs.FrameLemmas.{cases_frame, same_frame, top_is_frame, frame_below}
use Rattle.sw_owner_facts.proofs.FrameLemmas.{below_above}
use Rattle.sw_owner_facts.proofs.CarriedLemmas.{SameShape, same_shape}

-- what a new top frame must bring with it
pub record Entered (old new : View) (q : Frame) : Type 0 where
  pub pushed : Pushed old new q
  pub others : (p : Frame) → IsFrame old p → KeptLive old new p
  pub heres : (p : Frame) → IsFrame old p → new.here p ≡ old.here p
  pub waits : {x y : Element} (p : Frame) → IsFrame old (above p) → InOneRegion old p x y
      → InOneRegion new p x y
  pub runs : {a : Actor} → RunsOn new q a → (p : Frame) × RunsOn old p a × (p.job ≡ q.job)
  pub stands : {a : Actor} → (new.shape q).isolation ≡ IsolatedTo a → (new.shape q).executor ≡ On a
  pub isolated : {a : Actor} → (new.shape q).isolation ≡ IsolatedTo a → new.here q ≡ OfActor a
  pub owned : {x : Element} {c : Colour} → HoldsLive new q x c
      → IsOwnedBy q.job (new.shape q).executor c
  pub actors : {x : Element} {a : Actor} → HoldsLive new q x (OfActor a) → new.here q ≡ OfActor a
  pub apart : {p : Frame} {x y : Element} {c : Colour} → HoldsLive old p x c → HoldsLive new q y c
      → new.here q ≡ c
  pub entered : {a : Actor} → ((q.depth ≡ zero) ⊎ ((new.shape q).crossing ≡ true))
      → (new.shape q).executor ≡ On a → (new.shape q).isolation ≡ IsolatedTo a
  pub inherited : (p : Frame) → above p ≡ q → (new.shape q).crossing ≡ false
      → (new.shape q).executor ≡ (new.shape p).executor
  pub linked : (r : ℕ) (p : Frame) → above p ≡ q → (new.shape q).crossing ≡ true
      → (new.shape q).result ≡ Some r → (new.shape q).executor ≡ Generic
  pub waiting : (p : Frame) → above p ≡ q → (old.shape p).closing ≡ false
  pub near : {x : Element} {c : Colour} (r : ℕ) (p : Frame) → above p ≡ q
      → (new.shape q).result ≡ Some r → new.here q ≡ c
      → HoldsLive new p x c → InOneRegion new p x (Register r)
  pub far : {o : Frame} {x : Element} {c : Colour} (r : ℕ) (p : Frame) → above p ≡ q
      → (new.shape q).result ≡ Some r → new.here q ≡ c
      → IsLowerFrame o p → HoldsLive old o x c → old.here p ≡ c
  pub alone : {p : Frame} {x : Element} {c : Colour} → (new.shape q).isolation ≡ MakesActor
      → new.here q ≡ c → ¬ (HoldsLive old p x c)

module _ (old new : View) (q : Frame) (sound : IsSound old) (m : Entered old new q) where
  -- each other frame was there
  other_frame : (p : Frame) → p ≢ q → IsFrame new p → IsFrame old p
  other_frame p n f = by (cases_eq p.job q.job)
    where
      by : (p.job ≡ q.job) ⊎ (p.job ≢ q.job) → IsFrame old p
      by (inl e) = let differs : p.depth ≢ q.depth = λ d. n (same_frame e d) in
          omega (
            arith,
            f,
            differs,
            m.pushed.before,
            m.pushed.height,
            ap new.height e,
            ap old.height
                e,
          )
      by (inr other) = omega (arith, f, m.pushed.heights p.job other)

  kept : (p : Frame) → p ≢ q → IsFrame new p → KeptLive old new p
  kept p n f = m.others p (other_frame p n f)

  same_here : (p : Frame) → p ≢ q → IsFrame new p → new.here p ≡ old.here p
  same_here p n f = m.heres p (other_frame p n f)

  below_differs : {p s : Frame} → IsLowerFrame p s → IsFrame new s → p ≢ q
  below_differs {p} {s} below f is = by (ap (λ (f : Frame). f.job) is)
      (ap (λ (f : Frame). f.depth) is)
    where
      by : p.job ≡ q.job → p.depth ≡ q.depth → ⊥
      by e d = omega (arith, f, below.1, d, m.pushed.height, ap new.height (sym below.0 ∙ e))

  -- a frame below the new one, or below another
  lower : {p s : Frame} {x : Element} {c : Colour} → IsLowerFrame p s → IsFrame new s
      → HoldsLive new p x c → HoldsLive old p x c
  lower {p} below f h = (kept p (below_differs below f) h.frame).held h

  shape : (p : Frame) → p ≢ q → IsFrame new p → new.shape p ≡ old.shape p
  shape p n f = (kept p n f).shape

  old_run : {p : Frame} {a : Actor} → RunsOn new p a → (o : Frame) × RunsOn old o a
      × (o.job ≡ p.job)
  old_run {p} {a} r = by (cases_frame p q)
    where
      same_job : p ≢ q → (p.job ≡ q.job) → ⊥
      same_job n e = n (same_frame e (omega (arith, r.top, m.pushed.height, ap new.height e)))

      by : (p ≡ q) ⊎ (p ≢ q) → (o : Frame) × RunsOn old o a × (o.job ≡ p.job)
      by (inl e) = let found = m.runs (subst (λ f. RunsOn new f a) e r) in
          (found.0, found.1, found.2 ∙ ap (λ (f : Frame). f.job) (sym e))
      by (inr n) = (
        p,
        record {
          running = m.pushed.running p.job r.running;
          top = sym (m.pushed.heights p.job (same_job n)) ∙ r.top;
          executor =
              sym (ap (λ (s : FrameShape). s.executor) (shape p n (top_is_frame new p r.top)))
              ∙ r.executor;
        },
        refl,
      )

  abbrev IsQ : Frame → Type 0
  IsQ p = (p ≡ q) ⊎ (p ≢ q)

  stands : (p : Frame) (a : Actor) → IsQ p → IsFrame new p → (new.shape p).isolation ≡ IsolatedTo a
      → (new.shape p).executor ≡ On a
  stands p a (inl is) f e = subst (λ p. (new.shape p).executor ≡ On a) (sym is)
      (m.stands (subst (λ p. (new.shape p).isolation ≡ IsolatedTo a) is e))
  stands p a (inr n) f e = let s = same_shape (shape p n f) in
      s.executor ∙ sound.owned.stands p (other_frame p n f) (sym s.isolation ∙ e)

  isolated : (p : Frame) (a : Actor) → IsQ p → IsFrame new p
      → (new.shape p).isolation ≡ IsolatedTo a → new.here p ≡ OfActor a
  isolated p a (inl is) f e = subst (λ p. new.here p ≡ OfActor a) (sym is)
      (m.isolated (subst (λ p. (new.shape p).isolation ≡ IsolatedTo a) is e))
  isolated p a (inr n) f e = let s = same_shape (shape p n f) in
      same_here p n f ∙ sound.owned.isolated p (other_frame p n f) (sym s.isolation ∙ e)

  together : (p : Frame) (x y : Element) (c : Colour) → IsQ p → HoldsLive new p x c
      → HoldsLive new p y c → InOneRegion new p x y
  together p x y c (inl is) h k = subst (λ p. InOneRegion new p x y) (sym is)
      (m.pushed.together (subst (λ p. HoldsLive new p x c) is h)
      (subst (λ p. HoldsLive new p y c) is k))
  together p x y c (inr n) h k = let s = kept p n h.frame in
      s.together h k (sound.owned.together (s.held h) (s.held k))

  is_owned : (p : Frame) (x : Element) (c : Colour) → IsQ p → HoldsLive new p x c
      → IsOwnedBy p.job (new.shape p).executor c
  is_owned p x c (inl is) h = subst (λ p. IsOwnedBy p.job (new.shape p).executor c) (sym is)
      (m.owned (subst (λ p. HoldsLive new p x c) is h))
  is_owned p x c (inr n) h = let s = kept p n h.frame in
      subst (λ e. IsOwnedBy p.job e c) (sym (same_shape s.shape).executor)
      (sound.owned.owned (s.held h))

  actors : (p : Frame) (x : Element) (a : Actor) → IsQ p → HoldsLive new p x (OfActor a)
      → new.here p ≡ OfActor a
  actors p x a (inl is) h = subst (λ p. new.here p ≡ OfActor a) (sym is)
      (m.actors (subst (λ p. HoldsLive new p x (OfActor a)) is h))
  actors p x a (inr n) h = same_here p n h.frame ∙ sound.owned.actors ((kept p n h.frame).held h)

  apart : (p s : Frame) (x y : Element) (c : Colour) → IsQ s → IsLowerFrame p s
      → HoldsLive new p x c
      → HoldsLive new s y c → new.here s ≡ c
  apart p s x y c (inl is) below h k = subst (λ s. new.here s ≡ c) (sym is)
      (m.apart (lower below k.frame h) (subst (λ s. HoldsLive new s y c) is k))
  apart p s x y c (inr n) below h k = same_here s n k.frame
      ∙ sound.owned.apart below (lower below k.frame h) ((kept s n k.frame).held k)

  entered : (p : Frame) (a : Actor) → IsQ p → IsFrame new p
      → ((p.depth ≡ zero) ⊎ ((new.shape p).crossing ≡ true))
      → (new.shape p).executor ≡ On a → (new.shape p).isolation ≡ IsolatedTo a
  entered p a (inl is) f how on = subst (λ p. (new.shape p).isolation ≡ IsolatedTo a) (sym is)
      (m.entered
      (subst (λ p. (p.depth ≡ zero) ⊎ ((new.shape p).crossing ≡ true)) is how)
      (subst (λ p. (new.shape p).executor ≡ On a) is on))
  entered p a (inr n) f how on = let s = same_shape (shape p n f) in
      s.isolation ∙ sound.stacked.entered p (other_frame p n f) (by s how) (sym s.executor ∙ on)
    where
      by : SameShape (old.shape p) (new.shape p)
          → ((p.depth ≡ zero) ⊎ ((new.shape p).crossing ≡ true))
          → ((p.depth ≡ zero) ⊎ ((old.shape p).crossing ≡ true))
      by s (inl e) = inl e
      by s (inr e) = inr (sym s.crossing ∙ e)

  inherited : (p : Frame) → IsQ (above p) → IsFrame new (above p)
      → (new.shape (above p)).crossing ≡ false
      → (new.shape (above p)).executor ≡ (new.shape p).executor
  inherited p (inl is) f stays = subst (λ s. (new.shape s).executor ≡ (new.shape p).executor)
      (sym is) (m.inherited p is (subst (λ s. (new.shape s).crossing ≡ false) is stays))
  inherited p (inr n) f stays = let g = other_frame (above p) n f in
      let t = same_shape (shape (above p) n f) in
      let s = same_shape (m.others p (frame_below old p g)).shape in
      t.executor ∙ sound.stacked.inherited p g (sym t.crossing ∙ stays) ∙ sym s.executor

  linked : (r : ℕ) (p : Frame) → IsQ (above p) → IsFrame new (above p)
      → (new.shape (above p)).crossing ≡ true
      → (new.shape (above p)).result ≡ Some r → (new.shape (above p)).executor ≡ Generic
  linked r p (inl is) f crosses result = subst (λ s. (new.shape s).executor ≡ Generic) (sym is)
      (m.linked r p is
      (subst (λ s. (new.shape s).crossing ≡ true) is crosses)
      (subst (λ s. (new.shape s).result ≡ Some r) is result))
  linked r p (inr n) f crosses result = let s = same_shape (shape (above p) n f) in
      s.executor ∙ sound.stacked.linked r p (other_frame (above p) n f) (sym s.crossing ∙ crosses)
      (sym s.result ∙ result)

  waiting : (p : Frame) → IsQ (above p) → IsFrame new (above p) → (new.shape p).closing ≡ false
  waiting p s f = ap (λ (s : FrameShape). s.closing)
      (shape p (below_differs (below_above p) f) (frame_below new p f)) ∙ by s
    where
      by : IsQ (above p) → (old.shape p).closing ≡ false
      by (inl is) = m.waiting p is
      by (inr n) = sound.stacked.waiting p (other_frame (above p) n f)

  here_back : (p : Frame) (c : Colour) → p ≢ q → HoldsLive new p Here c → HoldsLive old p Here c
  here_back p c n h = (kept p n h.frame).held h

  near : (r : ℕ) (p : Frame) (x : Element) (c : Colour) → IsQ (above p)
      → (new.shape (above p)).result ≡ Some r
      → HoldsLive new (above p) Here c → HoldsLive new p x c → InOneRegion new p x (Register r)
  near r p x c (inl is) e h k = m.near r p is (subst (λ s. (new.shape s).result ≡ Some r) is e)
      (subst (λ s. new.here s ≡ c) is h.holds) k
  near r p x c (inr n) e h k = m.waits p (other_frame (above p) n h.frame)
      (sound.returns.near r (sym (same_shape (shape (above p) n h.frame)).result ∙ e)
      (here_back (above p) c n h) (lower (below_above p) h.frame k))

  far : (r : ℕ) (o p : Frame) (x : Element) (c : Colour) → IsQ (above p)
      → (new.shape (above p)).result ≡ Some r
      → IsLowerFrame o p → HoldsLive new (above p) Here c → HoldsLive new o x c → new.here p ≡ c
  far r o p x c s e below h k = same_here p (below_differs (below_above p) h.frame) f ∙ by s
    where
      f : IsFrame new p
      f = frame_below new p h.frame

      by : IsQ (above p) → old.here p ≡ c
      by (inl is) = m.far r p is (subst (λ s. (new.shape s).result ≡ Some r) is e)
          (subst (λ s. new.here s ≡ c) is h.holds) below (lower below f k)
      by (inr n) = sound.returns.far r (sym (same_shape (shape (above p) n h.frame)).result ∙ e)
          below (here_back (above p) c n h) (lower below f k)

  alone : (p s : Frame) (x : Element) (c : Colour) → IsQ s → (new.shape s).isolation ≡ MakesActor
      → IsLowerFrame p s
      → HoldsLive new s Here c → HoldsLive new p x c → ⊥
  alone p s x c (inl is) e below h k = m.alone (subst (λ s. (new.shape s).isolation ≡ MakesActor) is
      e) (subst (λ s. new.here s ≡ c) is h.holds) (lower below h.frame k)
  alone p s x c (inr n) e below h k = sound.initialisers.alone
      (sym (same_shape (shape s n h.frame)).isolation ∙ e) below (here_back s c n h)
      (lower below h.frame k)

  pub is_entered : IsSound new
  is_entered = record {
    owned = record {
      exclusive = λ h k. let a = old_run h in let b = old_run k in
          sym a.2 ∙ sound.owned.exclusive a.1 b.1 ∙ b.2;
      stands = λ {a} p. stands p a (cases_frame p q);
      isolated = λ {a} p. isolated p a (cases_frame p q);
      together = λ {p} {x} {y} {c}. together p x y c (cases_frame p q);
      owned = λ {p} {x} {c}. is_owned p x c (cases_frame p q);
      actors = λ {p} {x} {a}. actors p x a (cases_frame p q);
      apart = λ {p} {q = s} {x} {y} {c}. apart p s x y c (cases_frame s q);
    };
    stacked = record {
      entered = λ {a} p. entered p a (cases_frame p q);
      inherited = λ p. inherited p (cases_frame (above p) q);
      linked = λ r p. linked r p (cases_frame (above p) q);
      waiting = λ p. waiting p (cases_frame (above p) q);
    };
    returns = record {
      near = λ {p} {x} {c} r. near r p x c (cases_frame (above p) q);
      far = λ {o} {p} {x} {c} r. far r o p x c (cases_frame (above p) q);
    };
    initialisers = record { alone = λ {p} {q = s} {x} {c}. alone p s x c (cases_frame s q) };
  }
