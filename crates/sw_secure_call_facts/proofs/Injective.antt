-- A colour of a job becomes another one of the job that nothing holds: the view stays sound.
use Rattle.std.specs.Prelude.{◌≡◌, ℕ}
use Rattle.std.proofs.Common.{sym, subst, ap, ◌∙◌, inl, inr}
use Rattle.sw_owner_facts.specs.Colours.{Actor, Colour, OfJob, OfActor, IsOwnedBy}
use Rattle.sw_owner_facts.specs.View.{Frame, above, Element, Here, FrameShape, View}
use Rattle.sw_owner_facts.specs.View.{IsFrame, IsUnheld, HoldsLive}
use Rattle.sw_owner_facts.specs.Owned.{IsOwned, IsReturnLinked, IsInitialiserLinked, IsSound}
use Rattle.sw_owner_facts.specs.Within.{Becomes, Recoloured}
use Rattle.sw_owner_facts.proofs.FrameLemmas.{frame_below}
use Rattle.sw_owner_facts.proofs.CarriedLemmas.{still_exclusive, restacked, still_frames}

-- what a colour becomes is one colour
becomes_one : (lost kept c d e : Colour) → Becomes lost kept c d → Becomes lost kept c e → d ≡ e
becomes_one lost kept c d e (inl a) (inl b) = a.1 ∙ sym b.1
becomes_one lost kept c d e (inl a) (inr b) = absurd (b.0 a.0)
becomes_one lost kept c d e (inr a) (inl b) = absurd (a.0 b.0)
becomes_one lost kept c d e (inr a) (inr b) = a.1 ∙ sym b.1

module _ (old new : View) (job number fresh : ℕ) (sound : IsSound old)
    (none : IsUnheld old (OfJob job fresh)) (m : Recoloured old new job number (OfJob job fresh))
  where
    abbrev Turns : Colour → Colour → Type 0
    Turns = Becomes (OfJob job number) (OfJob job fresh)

    back : (p : Frame) → IsFrame new p → IsFrame old p
    back = still_frames old new m.jobs.height

    -- two held colours that become one are one
    one : (p r : Frame) (z w : Element) (c d e : Colour) → HoldsLive old p z c → HoldsLive old r w d
        → Turns c e → Turns d e → c ≡ d
    one p r z w c d e h k (inl a) (inl b) = a.0 ∙ sym b.0
    one p r z w c d e h k (inl a) (inr b) =
        absurd (none r w (subst (HoldsLive old r w) (sym b.1 ∙ a.1) k))
    one p r z w c d e h k (inr a) (inl b) =
        absurd (none p z (subst (HoldsLive old p z) (sym a.1 ∙ b.1) h))
    one p r z w c d e h k (inr a) (inr b) = sym a.1 ∙ b.1

    here_stays : (p : Frame) (a : Actor) → IsFrame old p → old.here p ≡ OfActor a
        → new.here p ≡ OfActor a
    here_stays p a f e = elim (m.here p f) [
      | inl b ↦ absurd (cc (b.0, e))
      | inr b ↦ b.1 ∙ e
    ]

    here_becomes : (p : Frame) (c d : Colour) → IsFrame old p → old.here p ≡ c → Turns c d
        → new.here p ≡ d
    here_becomes p c d f e t = becomes_one (OfJob job number) (OfJob job fresh) c (new.here p) d
        (subst (λ h. Turns h (new.here p)) e (m.here p f)) t

    still_owned : (p : Frame) (z : Element) (d : Colour) → HoldsLive new p z d
        → IsOwnedBy p.job (old.shape p).executor d
    still_owned p z d h = by found.0 found.1 found.2
      where
        found : (c : Colour) × HoldsLive old p z c × Turns c d
        found = m.held h

        by : (c : Colour) → HoldsLive old p z c → Turns c d → IsOwnedBy p.job (old.shape p).executor
            d
        by c k (inl a) =
            let own : IsOwnedBy p.job (old.shape p).executor (OfJob job number) =
            sound.owned.owned (subst (HoldsLive old p z) a.0 k) in
            subst (IsOwnedBy p.job (old.shape p).executor) (sym a.1) own
        by c k (inr a) = subst (IsOwnedBy p.job (old.shape p).executor) (sym a.1)
            (sound.owned.owned k)

    still_actors : (p : Frame) (z : Element) (a : Actor) → HoldsLive new p z (OfActor a)
        → new.here p ≡ OfActor a
    still_actors p z a h = here_stays p a (back p h.frame) (by found.0 found.1 found.2)
      where
        found : (c : Colour) × HoldsLive old p z c × Turns c (OfActor a)
        found = m.held h

        by : (c : Colour) → HoldsLive old p z c → Turns c (OfActor a) → old.here p ≡ OfActor a
        by c k (inr b) = sound.owned.actors (subst (HoldsLive old p z) (sym b.1) k)
        by c k (inl b) = absurd (cc (b.1))

    owned : IsOwned new
    owned = record {
      exclusive = λ {p = f} {q = g} {a = actor}. still_exclusive old new sound m.jobs
          (λ p f. ap (λ (s : FrameShape). s.executor) (m.shape p f)) {p = f} {q = g} {a = actor};
      stands = λ p f e. let s = m.shape p (back p f) in
          ap (λ (s : FrameShape). s.executor) s
          ∙ sound.owned.stands p (back p f) (sym (ap (λ (s : FrameShape). s.isolation) s) ∙ e);
      isolated = λ {a} p f e. here_stays p a (back p f)
          (sound.owned.isolated p (back p f)
          (sym (ap (λ (s : FrameShape). s.isolation) (m.shape p (back p f))) ∙ e));
      together = λ {p} {x = z} {y = w} {c = d} h k.
          let a = m.held h in
          let b = m.held k in
          m.together p (back p h.frame) (sound.owned.together
          (subst (HoldsLive old p z) (one p p z w a.0 b.0 d a.1 b.1 a.2 b.2) a.1) b.1);
      owned = λ {p} {x = z} {c = d} h. subst (λ e. IsOwnedBy p.job e d)
          (sym (ap (λ (s : FrameShape). s.executor) (m.shape p (back p h.frame))))
          (still_owned p z d h);
      actors = λ {p} {x = z} {a} h. still_actors p z a h;
      apart = λ {p} {q = r} {x = z} {y = w} {c = d} below h k.
          let a = m.held h in
          let b = m.held k in
          here_becomes r a.0 d (back r k.frame) (sound.owned.apart below a.1
          (subst (HoldsLive old r w) (one r p w z b.0 a.0 d b.1 a.1 b.2 a.2) b.1)) a.2;
    }

    returns : IsReturnLinked new
    returns = record {
      near = λ {p} {x = z} {c = d} r e h k. let a = m.held k in
          let b = m.held h in
          m.together p (back p k.frame)
          (sound.returns.near r
          (sym (ap (λ (s : FrameShape). s.result) (m.shape (above p) (back (above p) h.frame))) ∙ e)
          b.1
          (subst (HoldsLive old p z) (one p (above p) z Here a.0 b.0 d a.1 b.1 a.2 b.2) a.1));
      far = λ {o} {p} {x = z} {c = d} r e below h k. let a = m.held k in
          let b = m.held h in
          here_becomes p b.0 d (frame_below old p (back (above p) h.frame))
          (sound.returns.far r (sym
          (ap (λ (s : FrameShape). s.result) (m.shape (above p) (back (above p) h.frame))) ∙ e)
          below
          b.1
          (subst (HoldsLive old o z) (one o (above p) z Here a.0 b.0 d a.1 b.1 a.2 b.2) a.1)) b.2;
    }

    initialisers : IsInitialiserLinked new
    initialisers = record {
      alone = λ {p} {q = r} {x = z} {c = d} e below h k. let a = m.held k in
          let b = m.held h in
          sound.initialisers.alone (sym (ap (λ (s : FrameShape). s.isolation)
          (m.shape r (back r h.frame)))
          ∙ e) below b.1
          (subst (HoldsLive old p z) (one p r z Here a.0 b.0 d a.1 b.1 a.2 b.2) a.1);
    }

    pub refreshed : IsSound new
    refreshed = record {
      owned = owned;
      stacked = restacked old new sound.stacked back (λ p f. m.shape p (back p f));
      returns = returns;
      initialisers = initialisers;
    }
