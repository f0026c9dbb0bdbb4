-- A register of the top frame gets a colour of its job that nothing live holds.
use Rattle.std.specs.Prelude.{◌≡◌, ◌≢◌, ◌⊎◌, ℕ}
use Rattle.std.proofs.Common.{sym, subst, ap, ◌∙◌, inl, inr}
use Rattle.sw_owner_facts.specs.Colours.{Colour, OfJob, IsOwnedBy}
use Rattle.sw_owner_facts.specs.View.{Frame, above, IsLowerFrame, Element, Here, Register, FrameShape}
use Rattle.sw_owner_facts.specs.View.{View}
use Rattle.sw_owner_facts.specs.View.{IsFrame, IsTop, HoldsLive, InOneRegion}
use Rattle.sw_owner_facts.specs.Owned.{IsOwned, IsReturnLinked, IsInitialiserLinked, IsSound}
use Rattle.sw_owner_facts.specs.Within.{Freshened}
use Rattle.sw_owner_facts.proofs.FrameLemmas.{cases_frame, cases_register, below_is_not_top, frame_below}
use Rattle.sw_owner_facts.proofs.FrameLemmas.{below_above, below_trans}
use Rattle.sw_owner_facts.proofs.CarriedLemmas.{still_exclusive, restacked, still_frames}

module _ (old new : View) (q : Frame) (r number : ℕ) (sound : IsSound old)
    (m : Freshened old new q r number) where
  back : (p : Frame) → IsFrame new p → IsFrame old p
  back = still_frames old new m.change.jobs.height

  shape : (p : Frame) → IsFrame old p → new.shape p ≡ old.shape p
  shape p f = elim (cases_frame p q) [
    | inl e ↦ subst (λ p. new.shape p ≡ old.shape p) (sym e) m.change.shape
    | inr n ↦ (m.change.others p f n).shape
  ]

  here : (p : Frame) → IsFrame old p → new.here p ≡ old.here p
  here p f = elim (cases_frame p q) [
    | inl e ↦ subst (λ p. new.here p ≡ old.here p) (sym e) m.change.here
    | inr n ↦ (m.change.others p f n).here
  ]

  -- what the new view holds is what the old one held, or the register's new colour
  abbrev IsOld : Frame → Element → Colour → Type 0
  IsOld p x c = HoldsLive old p x c × (p ≡ q → x ≢ Register r)

  abbrev IsNew : Frame → Element → Colour → Type 0
  IsNew p x c = (p ≡ q) × (x ≡ Register r) × (c ≡ OfJob q.job number)

  origin : {p : Frame} {x : Element} {c : Colour} → HoldsLive new p x c → IsOld p x c ⊎ IsNew p x c
  origin {p} {x} {c} h = by (cases_frame p q) (cases_register x r)
    where
      by : (p ≡ q) ⊎ (p ≢ q) → (x ≡ Register r) ⊎ (x ≢ Register r) → IsOld p x c ⊎ IsNew p x c
      by (inl e) (inl f) = let k = subst (λ f. HoldsLive new f x c) e h in
          inr (e, f, m.register (subst (λ y. HoldsLive new q y c) f k))
      by (inl e) (inr n) = let k = subst (λ f. HoldsLive new f x c) e h in
          inl (subst (λ f. HoldsLive old f x c) (sym e) (m.held n k), λ _. n)
      by (inr n) s = inl ((m.change.others p (back p h.frame) n).held h, λ e. absurd (n e))

  -- below another frame nothing is new
  lower : {p s : Frame} {x : Element} {c : Colour} → IsLowerFrame p s → IsFrame new s
      → HoldsLive new p x c → HoldsLive old p x c
  lower {p} {s} {x} {c} below f h = elim (origin h) [
    | inl o ↦ o.0
    | inr n ↦ absurd (below_is_not_top old below (back s f)
        (subst (IsTop old) (sym n.0) m.change.top))
  ]

  here_back : {p : Frame} {c : Colour} → HoldsLive new p Here c → HoldsLive old p Here c
  here_back {p} h = let f = back p h.frame in record {
    frame = f;
    not_closing = sym (ap (λ (s : FrameShape). s.closing) (shape p f)) ∙ h.not_closing;
    live = h.live;
    holds = sym (here p f) ∙ h.holds;
  }

  -- what waits for a frame above it holds what it held
  waits : (p : Frame) {x y : Element} → IsFrame new (above p) → InOneRegion old p x y
      → InOneRegion new p x y
  waits p f t = (m.change.others p (frame_below old p (back (above p) f))
      (λ e. below_is_not_top old (below_above p) (back (above p) f)
      (subst (IsTop old) (sym e) m.change.top))).together t

  still_together : (p : Frame) (x y : Element) (c : Colour) → HoldsLive new p x c
      → HoldsLive new p y c → InOneRegion new p x y
  still_together p x y c h k = by (origin h) (origin k)
    where
      kept : (p ≡ q) ⊎ (p ≢ q) → (p ≡ q → x ≢ Register r) → (p ≡ q → y ≢ Register r)
          → InOneRegion old p x y → InOneRegion new p x y
      kept (inl e) x_is y_is t = subst (λ f. InOneRegion new f x y) (sym e)
          (m.together (x_is e) (y_is e) (subst (λ f. InOneRegion old f x y) e t))
      kept (inr n) x_is y_is t = (m.change.others p (back p h.frame) n).together t

      by : IsOld p x c ⊎ IsNew p x c → IsOld p y c ⊎ IsNew p y c → InOneRegion new p x y
      by (inl a) (inl b) = kept (cases_frame p q) a.1 b.1 (sound.owned.together a.0 b.0)
      by (inl a) (inr b) = absurd (m.fresh p x (subst (HoldsLive old p x) b.2 a.0))
      by (inr a) (inl b) = absurd (m.fresh p y (subst (HoldsLive old p y) a.2 b.0))
      by (inr a) (inr b) = ap (new.region p) (a.1 ∙ sym b.1)

  still_owned : (p : Frame) (x : Element) (c : Colour) → HoldsLive new p x c
      → IsOwnedBy p.job (old.shape p).executor c
  still_owned p x c h = elim (origin h) [
    | inl o ↦ sound.owned.owned o.0
    | inr n ↦ subst (IsOwnedBy p.job (old.shape p).executor) (sym n.2)
        (ap (λ (f : Frame). f.job) (sym n.0))
  ]

  owned : IsOwned new
  owned = record {
    exclusive = λ {p = f} {q = g} {a = actor}. still_exclusive old new sound m.change.jobs
        (λ p f. ap (λ (s : FrameShape). s.executor) (shape p f)) {p = f} {q = g} {a = actor};
    stands = λ p f e. let s = shape p (back p f) in
        ap (λ (s : FrameShape). s.executor) s
        ∙ sound.owned.stands p (back p f) (sym (ap (λ (s : FrameShape). s.isolation) s) ∙ e);
    isolated = λ p f e. here p (back p f)
        ∙ sound.owned.isolated p (back p f)
        (sym (ap (λ (s : FrameShape). s.isolation) (shape p (back p f))) ∙ e);
    together = λ {p} {x} {y} {c} h k. still_together p x y c h k;
    owned = λ {p} {x} {c} h. subst (λ e. IsOwnedBy p.job e c)
        (sym (ap (λ (s : FrameShape). s.executor) (shape p (back p h.frame))))
        (still_owned p x c h);
    actors = λ {p} {x} {a} h. here p (back p h.frame) ∙ elim (origin h) [
      | inl o ↦ sound.owned.actors o.0
      | inr n ↦ absurd (cc (n.2))
    ];
    apart = λ {p} {q = s} {x} {y} below h k. here s (back s k.frame) ∙ elim (origin k) [
      | inl o ↦ sound.owned.apart below (lower below k.frame h) o.0
      | inr n ↦ absurd (m.fresh p x (subst (HoldsLive old p x) n.2 (lower below k.frame h)))
    ];
  }

  returns : IsReturnLinked new
  returns = record {
    near = λ {p} r e h k. waits p h.frame
        (sound.returns.near r
        (sym (ap (λ (s : FrameShape). s.result) (shape (above p) (back (above p) h.frame))) ∙ e)
        (here_back h) (lower (below_above p) h.frame k));
    far = λ {o} {p} r e below h k. here p (frame_below old p (back (above p) h.frame))
        ∙ sound.returns.far r
        (sym (ap (λ (s : FrameShape). s.result) (shape (above p) (back (above p) h.frame))) ∙ e)
        below (here_back h)
        (lower (below_trans below (below_above p)) h.frame k);
  }

  initialisers : IsInitialiserLinked new
  initialisers = record {
    alone = λ {p} {q = s} e below h k. sound.initialisers.alone
        (sym (ap (λ (s : FrameShape). s.isolation) (shape s (back s h.frame))) ∙ e) below
        (here_back h) (lower below h.frame k);
  }

  pub freshened : IsSound new
  freshened = record {
    owned = owned;
    stacked = restacked old new sound.stacked back (λ p f. shape p (back p f));
    returns = returns;
    initialisers = initialisers;
  }
