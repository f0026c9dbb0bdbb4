-- Each kind of call, and a new task, keep the invariant.
use Rattle.std.specs.Prelude.{◌≡◌, ℕ, Bool, true, false, IsTrue, Some, refl}
use Rattle.std.proofs.Common.{sym, subst, ap, ◌∙◌, inl, inr, arith}
use Rattle.sw_owner_facts.specs.Colours.{Actor, OfActor, Generic, On, IsOwnedBy}
use Rattle.sw_owner_facts.specs.View.{Frame, above, bottom, IsLowerFrame, Element, Here, Register}
use Rattle.sw_owner_facts.specs.View.{IsolatedTo}
use Rattle.sw_owner_facts.specs.View.{MakesActor, FrameShape, View, IsFrame, HoldsLive, IsDisconnected}
use Rattle.sw_owner_facts.specs.View.{InOneRegion, RunsOn}
use Rattle.sw_owner_facts.specs.Owned.{IsSound}
use Rattle.sw_owner_facts.specs.Within.{Kept, KeptLive}
use Rattle.sw_owner_facts.specs.Calls.{Called, SharesArgument, CalledPlain, CalledSame, CalledWeak}
use Rattle.sw_owner_facts.specs.Calls.{CalledStrong, CalledMake, Spawned}
use Rattle.sw_owner_facts.proofs.FrameLemmas.{cases_frame, same_frame, top_is_frame, frame_below}
use Rattle.sw_owner_facts.proofs.FrameLemmas.{nothing_above}
use Rattle.sw_owner_facts.proofs.WithinLemmas.{free_is_of_job}
use Rattle.sw_owner_facts.proofs.PushedLemmas.{is_entered}

not_running : {b : Bool} → b ≡ false → IsTrue b → ⊥
not_running e h = cc

kept_live : {old new : View} {p : Frame} → Kept old new p → KeptLive old new p
kept_live k = record { shape = k.shape; held = k.held; together = λ _ _ t. k.together t }

-- what a call's frame must bring with it, by kind
record Brings (old new : View) (p : Frame) : Type 0 where
  runs : {a : Actor} → RunsOn new (above p) a → RunsOn old p a
  stands : {a : Actor} → (new.shape (above p)).isolation ≡ IsolatedTo a
      → (new.shape (above p)).executor ≡ On a
  isolated : {a : Actor} → (new.shape (above p)).isolation ≡ IsolatedTo a
      → new.here (above p) ≡ OfActor a
  owned : IsOwnedBy p.job (new.shape (above p)).executor (new.here (above p))
  entered : {a : Actor} → (new.shape (above p)).crossing ≡ true
      → (new.shape (above p)).executor ≡ On a → (new.shape (above p)).isolation ≡ IsolatedTo a
  inherited : (new.shape (above p)).crossing ≡ false
      → (new.shape (above p)).executor ≡ (new.shape p).executor
  linked : (r : ℕ) → (new.shape (above p)).crossing ≡ true → (new.shape (above p)).result ≡ Some r
      → (new.shape (above p)).executor ≡ Generic
  near : {x : Element} (r : ℕ) → (new.shape (above p)).result ≡ Some r
      → HoldsLive new p x (new.here (above p)) → InOneRegion new p x (Register r)
  far : {o : Frame} {x : Element} (r : ℕ) → (new.shape (above p)).result ≡ Some r → IsLowerFrame o p
      → HoldsLive old o x (new.here (above p))
      → old.here p ≡ new.here (above p)
  alone : {o : Frame} {x : Element} → (new.shape (above p)).isolation ≡ MakesActor
      → ¬ (HoldsLive old o x (new.here (above p)))

called : (old new : View) (p : Frame) → IsSound old → Called old new p → Brings old new p
    → IsSound new
called old new p sound c b = is_entered old new (above p) sound (record {
  pushed = c.pushed;
  others = λ f is. elim (cases_frame f p) [
    | inl e ↦ subst (KeptLive old new) (sym e) c.caller
    | inr n ↦ kept_live (c.others f is n)
  ];
  heres = λ f is. elim (cases_frame f p) [
    | inl e ↦ subst (λ f. new.here f ≡ old.here f) (sym e) caller_here
    | inr n ↦ (c.others f is n).here
  ];
  waits = λ f is t. (c.others f (frame_below old f is)
      (λ e. nothing_above old p c.pushed.before (subst (λ f. IsFrame old (above f)) e is))).together
      t;
  runs = λ r. (p, b.runs r, refl);
  stands = b.stands;
  isolated = b.isolated;
  owned = λ {x} {c = d} h. elim (c.held h) [
    | inl e ↦ subst (IsOwnedBy p.job (new.shape (above p)).executor) e b.owned
    | inr s ↦ subst (IsOwnedBy p.job (new.shape (above p)).executor) (sym s.owner) refl
  ];
  actors = λ h. elim (c.held h) [
    | inl e ↦ e
    | inr s ↦ absurd (cc (s.owner))
  ];
  apart = λ {p = o} {x} h k. elim (c.held k) [
    | inl e ↦ e
    | inr s ↦ absurd (s.unheld o x h)
  ];
  entered = λ how on. elim how [
    | inl e ↦ absurd (omega (arith, e))
    | inr crosses ↦ b.entered crosses on
  ];
  inherited = λ s e stays. b.inherited stays ∙ ap (λ (f : Frame). (new.shape f).executor)
      (caller s e);
  linked = λ r s e. b.linked r;
  waiting = λ s e. subst (λ f. (old.shape f).closing ≡ false) (caller s e) c.not_closing;
  near = λ {x} {c = d} r s e result here h. let at = subst
      (λ f. HoldsLive new f x (new.here (above p))) (sym (caller s e))
      (subst (HoldsLive new s x) (sym here) h) in
      subst (λ f. InOneRegion new f x (Register r)) (caller s e) (b.near r result at);
  far = λ {o} {x} {c = d} r s e result here below h. ap old.here (sym (caller s e))
      ∙ b.far r result (subst (IsLowerFrame o) (sym (caller s e)) below)
      (subst (HoldsLive old o x) (sym here) h) ∙ here;
  alone = λ {p = o} {x} makes here h. b.alone makes (subst (HoldsLive old o x) (sym here) h);
})
  where
    -- the caller isn't closing, and its `Here` is live
    caller_here : new.here p ≡ old.here p
    caller_here = sym (c.caller.held {x = Here} (record {
      frame = omega (arith, c.pushed.height);
      not_closing = ap (λ (s : FrameShape). s.closing) c.caller.shape ∙ c.not_closing;
      live = tt;
      holds = refl;
    })).holds

    caller : (s : Frame) → above s ≡ above p → p ≡ s
    caller s e = same_frame (ap (λ (f : Frame). f.job) (sym e))
        (omega (arith, ap (λ (f : Frame). f.depth) e))

module _ (old new : View) (p : Frame) (sound : IsSound old) (c : Called old new p) where
  p_frame : IsFrame old p
  p_frame = top_is_frame old p c.pushed.before

  same_executor : (new.shape p).executor ≡ (old.shape p).executor
  same_executor = ap (λ (s : FrameShape). s.executor) c.caller.shape

  -- a frame that stands on its caller's actor runs where its caller ran
  goes_on : (a : Actor) → (new.shape (above p)).executor ≡ (new.shape p).executor
      → RunsOn new (above p) a → RunsOn old p a
  goes_on a e r = record {
    running = c.pushed.running p.job r.running;
    top = c.pushed.before;
    executor = sym (e ∙ same_executor) ∙ r.executor;
  }

  shared_near : (s x : Element) (r : ℕ) → SharesArgument old new p s
      → (new.shape (above p)).result ≡ Some r
      → HoldsLive new p x (new.here (above p)) → InOneRegion new p x (Register r)
  shared_near s x r share result h = share.result r result x (new.here (above p)) h
      (sound.owned.together (c.caller.held h) share.colour)

  caller_owns : (s : Element) → SharesArgument old new p s
      → (new.shape (above p)).executor ≡ (new.shape p).executor
      → IsOwnedBy p.job (new.shape (above p)).executor (new.here (above p))
  caller_owns s share e = subst (λ e. IsOwnedBy p.job e (new.here (above p)))
      (sym (e ∙ same_executor)) (sound.owned.owned share.colour)

  job_owns : IsDisconnected old p.job (new.here (above p))
      → IsOwnedBy p.job (new.shape (above p)).executor (new.here (above p))
  job_owns d = subst (IsOwnedBy p.job (new.shape (above p)).executor) (sym d.owner) refl

pub called_plain : (old new : View) (p : Frame) → IsSound old → CalledPlain old new p → IsSound new
called_plain old new p sound m = called old new p sound m.called (record {
  runs = λ {a}. goes_on old new p sound m.called a m.executor;
  stands = λ {a} e. m.executor ∙ same_executor old new p sound m.called ∙ on a (m.isolated a e);
  isolated = λ {a} e. m.isolated a e;
  owned = elim m.here [
    | inl s ↦ caller_owns old new p sound m.called s.0 s.1 m.executor
    | inr d ↦ job_owns old new p sound m.called d
  ];
  entered = λ crosses. absurd (cc (crosses, m.stays));
  inherited = λ _. m.executor;
  linked = λ r crosses. absurd (cc (crosses, m.stays));
  near = λ {x} r result h. elim m.here [
    | inl s ↦ shared_near old new p sound m.called s.0 x r s.1 result h
    | inr d ↦ absurd (d.unheld p x (m.called.caller.held h))
  ];
  far = λ {o} {x} r result below h. elim m.here [
    | inl s ↦ sound.owned.apart below h s.1.colour
    | inr d ↦ absurd (d.unheld o x h)
  ];
  alone = λ makes. absurd (m.no_initialiser makes);
})
  where
    on : (a : Actor) → new.here (above p) ≡ OfActor a → (old.shape p).executor ≡ On a
    on a e = elim m.here [
      | inl s ↦ subst (IsOwnedBy p.job (old.shape p).executor) e (sound.owned.owned s.1.colour)
      | inr d ↦ absurd (cc (d.owner, e))
    ]

pub called_same : (old new : View) (p : Frame) (a : Actor) → IsSound old → CalledSame old new p a
    → IsSound new
called_same old new p a sound m = called old new p sound m.called (record {
  runs = λ {a = b}. goes_on old new p sound m.called b m.executor;
  stands = λ {a = b} e. on ∙ ap On (actor b e);
  isolated = λ {a = b} e. m.here ∙ ap OfActor (actor b e);
  owned = subst (IsOwnedBy p.job (new.shape (above p)).executor) (sym m.here) on;
  entered = λ crosses. absurd (cc (crosses, m.stays));
  inherited = λ _. m.executor;
  linked = λ r crosses. absurd (cc (crosses, m.stays));
  near = λ {x} r result h. m.result r result x (new.here (above p)) h
      (sound.owned.together (subst (HoldsLive old p x) m.here (m.called.caller.held h)) caller);
  far = λ r result below h. m.caller_here ∙ sym m.here;
  alone = λ makes. absurd (cc (makes, m.isolation));
})
  where
    caller : HoldsLive old p Here (OfActor a)
    caller = record {
      frame = p_frame old new p sound m.called;
      not_closing = m.called.not_closing;
      live = tt;
      holds = m.caller_here;
    }

    on : (new.shape (above p)).executor ≡ On a
    on = m.executor ∙ same_executor old new p sound m.called ∙ sound.owned.owned caller

    actor : (b : Actor) → (new.shape (above p)).isolation ≡ IsolatedTo b → a ≡ b
    actor b e = cc (m.isolation, e)

pub called_weak : (old new : View) (p : Frame) → IsSound old → CalledWeak old new p → IsSound new
called_weak old new p sound m = called old new p sound m.called (record {
  runs = λ r. absurd (cc (r.executor, m.executor));
  stands = λ e. absurd (cc (e, m.isolation));
  isolated = λ e. absurd (cc (e, m.isolation));
  owned = elim m.here [
    | inl s ↦ (let job = free_is_of_job old p s.0 (new.here (above p)) sound s.2 s.1.colour in
        subst (IsOwnedBy p.job (new.shape (above p)).executor) (sym job.1) refl)
    | inr d ↦ job_owns old new p sound m.called d
  ];
  entered = λ crosses on. absurd (cc (on, m.executor));
  inherited = λ stays. absurd (cc (stays, m.crosses));
  linked = λ r crosses result. m.executor;
  near = λ {x} r result h. elim m.here [
    | inl s ↦ shared_near old new p sound m.called s.0 x r s.1 result h
    | inr d ↦ absurd (d.unheld p x (m.called.caller.held h))
  ];
  far = λ {o} {x} r result below h. elim m.here [
    | inl s ↦ sound.owned.apart below h s.1.colour
    | inr d ↦ absurd (d.unheld o x h)
  ];
  alone = λ makes. absurd (cc (makes, m.isolation));
})

pub called_strong : (old new : View) (p : Frame) (a : Actor) → IsSound old
    → CalledStrong old new p a → IsSound new
called_strong old new p a sound m = called old new p sound m.called (record {
  runs = λ r. absurd (not_running m.leaves r.running);
  stands = λ {a = b} e. m.callee.executor ∙ ap On (actor b e);
  isolated = λ {a = b} e. m.callee.here ∙ ap OfActor (actor b e);
  owned = subst (IsOwnedBy p.job (new.shape (above p)).executor) (sym m.callee.here)
      m.callee.executor;
  entered = λ {a = b} crosses on. (let same : a ≡ b = cc (on, m.callee.executor) in
      m.callee.isolation ∙ ap IsolatedTo same);
  inherited = λ stays. absurd (cc (stays, m.crosses));
  linked = λ r crosses result. absurd (cc (result, m.result));
  near = λ r result h. absurd (cc (result, m.result));
  far = λ r result below h. absurd (cc (result, m.result));
  alone = λ makes. absurd (cc (makes, m.callee.isolation));
})
  where
    actor : (b : Actor) → (new.shape (above p)).isolation ≡ IsolatedTo b → a ≡ b
    actor b e = cc (m.callee.isolation, e)

pub called_make : (old new : View) (p : Frame) → IsSound old → CalledMake old new p → IsSound new
called_make old new p sound m = called old new p sound m.called (record {
  runs = λ {a}. goes_on old new p sound m.called a m.executor;
  stands = λ e. absurd (cc (e, m.isolation));
  isolated = λ e. absurd (cc (e, m.isolation));
  owned = job_owns old new p sound m.called m.here;
  entered = λ crosses. absurd (cc (crosses, m.stays));
  inherited = λ _. m.executor;
  linked = λ r crosses. absurd (cc (crosses, m.stays));
  near = λ {x} r result h. absurd (m.here.unheld p x (m.called.caller.held h));
  far = λ {o} {x} r result below h. absurd (m.here.unheld o x h);
  alone = λ {o} {x} makes h. m.here.unheld o x h;
})

pub spawned : (old new : View) (j : ℕ) → IsSound old → Spawned old new j → IsSound new
spawned old new j sound m = is_entered old new (bottom j) sound (record {
  pushed = m.pushed;
  others = λ p f. kept_live (m.others p f);
  heres = λ p f. (m.others p f).here;
  waits = λ p f t. (m.others p (frame_below old p f)).together t;
  runs = λ r. absurd (not_running m.ready r.running);
  stands = λ {a} e. (stands a e).0;
  isolated = λ {a} e. (stands a e).1;
  owned = λ h. elim (m.held h) [
    | inl e ↦ subst (IsOwnedBy j (new.shape (bottom j)).executor) e owned
    | inr s ↦ subst (IsOwnedBy j (new.shape (bottom j)).executor) (sym s.owner) refl
  ];
  actors = λ h. elim (m.held h) [
    | inl e ↦ e
    | inr s ↦ absurd (cc (s.owner))
  ];
  apart = λ {p} {x} h k. elim (m.held k) [
    | inl e ↦ e
    | inr s ↦ absurd (s.unheld p x h)
  ];
  entered = λ {a} how on. entered a on;
  inherited = λ p e. absurd (nothing_below p e);
  linked = λ r p e. absurd (nothing_below p e);
  waiting = λ p e. absurd (nothing_below p e);
  near = λ r p e. absurd (nothing_below p e);
  far = λ r p e. absurd (nothing_below p e);
  alone = λ makes. absurd (no_initialiser makes);
})
  where
    nothing_below : (p : Frame) → above p ≡ bottom j → ⊥
    nothing_below p e = omega (arith, ap (λ (f : Frame). f.depth) e)

    stands : (a : Actor) → (new.shape (bottom j)).isolation ≡ IsolatedTo a
        → ((new.shape (bottom j)).executor ≡ On a) × (new.here (bottom j) ≡ OfActor a)
    stands a e = elim m.stands [
      | inl s ↦ (let same : s.0 ≡ a = cc (s.1.isolation, e) in
          (s.1.executor ∙ ap On same, s.1.here ∙ ap OfActor same))
      | inr n ↦ absurd (cc (n.isolation, e))
    ]

    owned : IsOwnedBy j (new.shape (bottom j)).executor (new.here (bottom j))
    owned = elim m.stands [
      | inl s ↦ subst (IsOwnedBy j (new.shape (bottom j)).executor) (sym s.1.here) s.1.executor
      | inr n ↦ subst (IsOwnedBy j (new.shape (bottom j)).executor) (sym n.here.1) refl
    ]

    entered : (a : Actor) → (new.shape (bottom j)).executor ≡ On a
        → (new.shape (bottom j)).isolation ≡ IsolatedTo a
    entered a on = elim m.stands [
      | inl s ↦ (let same : s.0 ≡ a = cc (s.1.executor, on) in s.1.isolation ∙ ap IsolatedTo same)
      | inr n ↦ absurd (cc (n.executor, on))
    ]

    no_initialiser : (new.shape (bottom j)).isolation ≡ MakesActor → ⊥
    no_initialiser e = elim m.stands [
      | inl s ↦ cc (s.1.isolation, e)
      | inr n ↦ cc (n.isolation, e)
    ]
