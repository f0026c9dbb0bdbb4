-- What holds of each move that leaves the jobs their frames, and whose elements hold no new colour.
use Rattle.std.specs.Prelude.{◌≡◌, ◌⊎◌, ℕ, suc, true, false}
use Rattle.std.proofs.Common.{sym, subst, ap, ◌∙◌, inl, inr, arith}
use Rattle.sw_owner_facts.specs.Colours.{Actor, Colour, OfActor, IsOwnedBy}
use Rattle.sw_owner_facts.specs.View.{Frame, above, Element, Here, Register, FrameShape, View, IsFrame}
use Rattle.sw_owner_facts.specs.View.{HoldsLive, InOneRegion, RunsOn}
use Rattle.sw_owner_facts.specs.Owned.{IsOwned, IsStacked, IsReturnLinked, IsInitialiserLinked, IsSound}
use Rattle.sw_owner_facts.specs.Within.{SameJobs}
use Rattle.sw_owner_facts.proofs.FrameLemmas.{frame_below}

-- two shapes are equal but for `closing`, which may only begin
pub record SameShape (old new : FrameShape) : Type 0 where
  pub isolation : new.isolation ≡ old.isolation
  pub executor : new.executor ≡ old.executor
  pub crossing : new.crossing ≡ old.crossing
  pub result : new.result ≡ old.result
  pub closing : new.closing ≡ false → old.closing ≡ false

-- From p x y: what x holds in the new view, y held in the old one
pub record Carried (old new : View) (From : Frame → Element → Element → Type 0) : Type 0 where
  pub frames : (p : Frame) → IsFrame new p → IsFrame old p
  pub shape : (p : Frame) → IsFrame new p → SameShape (old.shape p) (new.shape p)
  pub waiting : (p : Frame) → IsFrame new (above p) → (old.shape p).closing ≡ false
      → (new.shape p).closing ≡ false
  pub exclusive : {p q : Frame} {a : Actor} → RunsOn new p a → RunsOn new q a → p.job ≡ q.job
  pub isolated : {a : Actor} (p : Frame) → IsFrame new p → old.here p ≡ OfActor a
      → new.here p ≡ OfActor a
  pub here : (p : Frame) → IsFrame new p → (new.shape p).closing ≡ false → new.here p ≡ old.here p
  pub held : {p : Frame} {x : Element} {c : Colour} → HoldsLive new p x c → (y : Element)
      × From p x y × HoldsLive old p y c
  pub together : {x y from_x from_y : Element} (p : Frame) → IsFrame new p → From p x from_x
      → From p y from_y
      → InOneRegion old p from_x from_y → InOneRegion new p x y
  pub waits : {x y : Element} (r : ℕ) (p : Frame) → IsFrame new (above p) → From p x y
      → InOneRegion old p y (Register r) → InOneRegion new p x (Register r)

-- the stacks, where frames keep their shapes
stacked_still : (old new : View) → IsStacked old → ((p : Frame) → IsFrame new p → IsFrame old p)
    → ((p : Frame) → IsFrame new p → SameShape (old.shape p) (new.shape p))
    → ((p : Frame) → IsFrame new (above p) → (old.shape p).closing ≡ false
    → (new.shape p).closing ≡ false) → IsStacked new
stacked_still old new stacked frames shape waiting = record {
  entered = λ p f how on. let s = shape p f in
      s.isolation ∙ stacked.entered p (frames p f) (by p s how) (sym s.executor ∙ on);
  inherited = λ p f stays. let s = shape p (frame_below new p f) in let t = shape (above p) f in
      t.executor ∙ stacked.inherited p (frames (above p) f) (sym t.crossing ∙ stays)
      ∙ sym s.executor;
  linked = λ r p f crosses result. let s = shape (above p) f in
      s.executor ∙ stacked.linked r p (frames (above p) f) (sym s.crossing ∙ crosses) (sym s.result
      ∙ result);
  waiting = λ p f. waiting p f (stacked.waiting p (frames (above p) f));
}
  where
    by : (p : Frame) → SameShape (old.shape p) (new.shape p)
        → ((p.depth ≡ 0) ⊎ ((new.shape p).crossing ≡ true))
        → ((p.depth ≡ 0) ⊎ ((old.shape p).crossing ≡ true))
    by p s (inl e) = inl e
    by p s (inr e) = inr (sym s.crossing ∙ e)

module _ (old new : View) (From : Frame → Element → Element → Type 0) (sound : IsSound old)
    (m : Carried old new From) where
  -- `Here` of the new view is that of the old one
  here_back : {p : Frame} {c : Colour} → HoldsLive new p Here c → HoldsLive old p Here c
  here_back {p} h = record {
    frame = m.frames p h.frame;
    not_closing = (m.shape p h.frame).closing h.not_closing;
    live = h.live;
    holds = sym (m.here p h.frame h.not_closing) ∙ h.holds;
  }

  owned : IsOwned new
  owned = record {
    exclusive = m.exclusive;
    stands = λ p f e. let s = m.shape p f in
        s.executor ∙ sound.owned.stands p (m.frames p f) (sym s.isolation ∙ e);
    isolated = λ p f e. let s = m.shape p f in
        m.isolated p f (sound.owned.isolated p (m.frames p f) (sym s.isolation ∙ e));
    together = λ {p} h k. let a = m.held h in let b = m.held k in
        m.together p h.frame a.1 b.1 (sound.owned.together a.2 b.2);
    owned = λ {p} {x} {c} h. subst (λ e. IsOwnedBy p.job e c) (sym (m.shape p h.frame).executor)
        (sound.owned.owned (m.held h).2);
    actors = λ {p} h. m.here p h.frame h.not_closing ∙ sound.owned.actors (m.held h).2;
    apart = λ {p} {q} below h k. m.here q k.frame k.not_closing
        ∙ sound.owned.apart below (m.held h).2 (m.held k).2;
  }

  returns : IsReturnLinked new
  returns = record {
    near = λ {p} r e h k. let a = m.held k in
        m.waits r p h.frame a.1 (sound.returns.near r (sym (m.shape (above p) h.frame).result ∙ e)
        (here_back h) a.2);
    far = λ {o} {p} r e below h k.
        m.here p (frame_below new p h.frame)
        (m.waiting p h.frame (sound.stacked.waiting p (m.frames (above p) h.frame)))
        ∙ sound.returns.far r (sym (m.shape (above p) h.frame).result ∙ e) below (here_back h)
        (m.held k).2;
  }

  initialisers : IsInitialiserLinked new
  initialisers = record {
    alone = λ {p} {q} e below h k. sound.initialisers.alone (sym (m.shape q h.frame).isolation ∙ e)
        below (here_back h) (m.held k).2;
  }

  pub carried : IsSound new
  carried = record {
    owned = owned;
    stacked = stacked_still old new sound.stacked m.frames m.shape m.waiting;
    returns = returns;
    initialisers = initialisers;
  }

-- ---- that no two running jobs stand on one actor, where no job starts to run
pub still_exclusive : (old new : View) → IsSound old → SameJobs old new
    → ((p : Frame) → IsFrame old p → (new.shape p).executor ≡ (old.shape p).executor)
    → {p q : Frame} {a : Actor} → RunsOn new p a → RunsOn new q a → p.job ≡ q.job
still_exclusive old new sound jobs executor {p} {q} {a} h k = sound.owned.exclusive (back h)
    (back k)
  where
    back : {f : Frame} → RunsOn new f a → RunsOn old f a
    back {f} r = let top : old.height f.job ≡ suc f.depth = sym (jobs.height f.job) ∙ r.top in
        record {
          running = jobs.running f.job r.running;
          top = top;
          executor = sym (executor f (omega (arith, top))) ∙ r.executor;
        }

-- a shape that is the same
pub same_shape : {a b : FrameShape} → b ≡ a → SameShape a b
same_shape e = record {
  isolation = ap (λ (s : FrameShape). s.isolation) e;
  executor = ap (λ (s : FrameShape). s.executor) e;
  crossing = ap (λ (s : FrameShape). s.crossing) e;
  result = ap (λ (s : FrameShape). s.result) e;
  closing = λ h. sym (ap (λ (s : FrameShape). s.closing) e) ∙ h;
}

-- the stacks are the same
pub restacked : (old new : View) → IsStacked old → ((p : Frame) → IsFrame new p → IsFrame old p)
    → ((p : Frame) → IsFrame new p → new.shape p ≡ old.shape p) → IsStacked new
restacked old new stacked frames shape = stacked_still old new stacked frames
    (λ p f. same_shape (shape p f))
    (λ p f e. ap (λ (s : FrameShape). s.closing) (shape p (frame_below new p f)) ∙ e)

pub still_frames : (old new : View) → ((j : ℕ) → new.height j ≡ old.height j) → (p : Frame)
    → IsFrame new p → IsFrame old p
still_frames old new height p f = omega (arith, height p.job)
