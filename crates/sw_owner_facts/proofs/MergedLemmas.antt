-- Two colours that the top frame holds become one. What lies below sees one of them at most: the
-- colour of the top frame's `Here`.
use Rattle.std.specs.Prelude.{◌≡◌, ◌≢◌, ◌⊎◌, ℕ, false, refl}
use Rattle.std.proofs.Common.{sym, subst, ap, ◌∙◌, inl, inr}
use Rattle.std.proofs.lemmas.Bool.{cases_eq}
use Rattle.sw_owner_facts.specs.Colours.{Actor, Colour, OfJob, OfActor, IsOwnedBy}
use Rattle.sw_owner_facts.specs.View.{Frame, above, IsLowerFrame, Element, Here, FrameShape, View}
use Rattle.sw_owner_facts.specs.View.{IsFrame, IsTop}
use Rattle.sw_owner_facts.specs.View.{HoldsLive, InOneRegion}
use Rattle.sw_owner_facts.specs.Owned.{IsOwned, IsReturnLinked, IsInitialiserLinked, IsSound}
use Rattle.sw_owner_facts.specs.Within.{Kept, Becomes, Merged}
use Rattle.sw_owner_facts.proofs.FrameLemmas.{cases_frame, below_trans, below_is_not_top, frame_below}
use Rattle.sw_owner_facts.proofs.FrameLemmas.{top_or_below, below_above}
use Rattle.sw_owner_facts.proofs.CarriedLemmas.{still_exclusive, restacked, still_frames}

-- what a colour becomes is one colour
becomes_one : (lost kept c d e : Colour) → Becomes lost kept c d → Becomes lost kept c e → d ≡ e
becomes_one lost kept c d e (inl a) (inl b) = a.1 ∙ sym b.1
becomes_one lost kept c d e (inl a) (inr b) = absurd (b.0 a.0)
becomes_one lost kept c d e (inr a) (inl b) = absurd (a.0 b.0)
becomes_one lost kept c d e (inr a) (inr b) = a.1 ∙ sym b.1

module _ (old new : View) (q : Frame) (x y : Element) (number : ℕ) (kept : Colour)
    (sound : IsSound old) (m : Merged old new q x y number kept) where
  abbrev lost : Colour
  lost = OfJob q.job number

  abbrev Turns : Colour → Colour → Type 0
  Turns = Becomes lost kept

  back : (p : Frame) → IsFrame new p → IsFrame old p
  back = still_frames old new m.recoloured.jobs.height

  shape : (p : Frame) → IsFrame old p → new.shape p ≡ old.shape p
  shape = m.recoloured.shape

  -- if it is one of the two, it is the colour of the top frame's `Here`
  abbrev Seen : Colour → Type 0
  Seen c = (c ≡ lost → old.here q ≡ lost) × (c ≡ kept → old.here q ≡ kept)

  seen_lower : {p : Frame} {z : Element} {c : Colour} → p ≢ q → p.job ≡ q.job → HoldsLive old p z c
      → Seen c
  seen_lower {p} {z} {c} n e h = elim (top_or_below old p q m.top e h.frame) [
    | inl is ↦ absurd (n is)
    | inr below ↦ (
      λ is. sound.owned.apart below (subst (HoldsLive old p z) is h) m.holds_lost,
      λ is. sound.owned.apart below (subst (HoldsLive old p z) is h) m.holds_kept,
    )
  ]

  -- so is the colour of `Here` in each frame of the job
  seen_here : {p : Frame} {c : Colour} → p.job ≡ q.job → HoldsLive old p Here c → Seen c
  seen_here {p} {c} e h = elim (cases_frame p q) [
    | inl is ↦ (let here : old.here q ≡ c = ap old.here (sym is) ∙ h.holds in
        (λ a. here ∙ a, λ a. here ∙ a))
    | inr n ↦ seen_lower n e h
  ]

  -- no other job holds the colour that is lost
  not_lost : {p : Frame} {z : Element} {c : Colour} → p.job ≢ q.job → HoldsLive old p z c → c ≢ lost
  not_lost {p} {z} n h e = n (sym (sound.owned.owned (subst (HoldsLive old p z) e h)))

  seen_pair : {c d e : Colour} → Seen c → Seen d → Turns c e → Turns d e → c ≡ d
  seen_pair s t (inl a) (inl b) = a.0 ∙ sym b.0
  seen_pair s t (inl a) (inr b) = absurd (b.0 (sym b.1 ∙ a.1 ∙ sym (t.1 (sym b.1 ∙ a.1)) ∙ s.0 a.0))
  seen_pair s t (inr a) (inl b) = absurd (a.0 (sym a.1 ∙ b.1 ∙ sym (s.1 (sym a.1 ∙ b.1)) ∙ t.0 b.0))
  seen_pair s t (inr a) (inr b) = sym a.1 ∙ b.1

  other_pair : {c d e : Colour} → c ≢ lost → d ≢ lost → Turns c e → Turns d e → c ≡ d
  other_pair s t (inl a) b = absurd (s a.0)
  other_pair s t (inr a) (inl b) = absurd (t b.0)
  other_pair s t (inr a) (inr b) = sym a.1 ∙ b.1

  -- two colours of frames of one job, neither of them the top frame, that become one were one
  lower_pair : {p r : Frame} {z w : Element} {c d e : Colour} → p ≢ q → r ≢ q → p.job ≡ r.job
      → HoldsLive old p z c → HoldsLive old r w d → Turns c e → Turns d e → c ≡ d
  lower_pair {p} {r} p_lower r_lower same h k a b = elim (cases_eq r.job q.job) [
    | inl e ↦ seen_pair (seen_lower p_lower (same ∙ e) h) (seen_lower r_lower e k) a b
    | inr n ↦ other_pair (not_lost (λ e. n (sym same ∙ e)) h) (not_lost n k) a b
  ]

  is_lower : {p r : Frame} → IsLowerFrame p r → IsFrame old r → p ≢ q
  is_lower below f is = below_is_not_top old below f (subst (IsTop old) (sym is) m.top)

  -- nor a colour of a frame below and that of a `Here` above it
  here_pair : {p r : Frame} {z : Element} {c d e : Colour} → IsLowerFrame p r → HoldsLive old p z c
      → HoldsLive old r Here d
      → Turns c e → Turns d e → c ≡ d
  here_pair {p} {r} below h k a b = elim (cases_eq r.job q.job) [
    | inl e ↦ seen_pair (seen_lower (is_lower below k.frame) (below.0 ∙ e) h) (seen_here e k) a b
    | inr n ↦ other_pair (not_lost (λ e. n (sym below.0 ∙ e)) h) (not_lost n k) a b
  ]

  -- ---- the parts
  still_together : (p : Frame) (z w : Element) (d : Colour) → (p ≡ q) ⊎ (p ≢ q)
      → HoldsLive new p z d → HoldsLive new p w d → InOneRegion new p z w
  still_together p z w d (inl is) h k = subst (λ f. InOneRegion new f z w) (sym is)
      (at_top (m.recoloured.held (subst (λ f. HoldsLive new f z d) is h))
      (m.recoloured.held (subst (λ f. HoldsLive new f w d) is k)))
    where
      f : IsFrame old q
      f = m.holds_lost.frame

      kept_together : {a b : Element} → InOneRegion old q a b → InOneRegion new q a b
      kept_together = m.recoloured.together q f

      at_top : (c : Colour) × HoldsLive old q z c × Turns c d → (c : Colour) × HoldsLive old q w c
          × Turns c d → InOneRegion new q z w
      at_top a b = by a.2 b.2
        where
          one : a.0 ≡ b.0 → InOneRegion new q z w
          one e = kept_together (sound.owned.together (subst (HoldsLive old q z) e a.1) b.1)

          by : Turns a.0 d → Turns b.0 d → InOneRegion new q z w
          by (inl s) (inl t) = one (s.0 ∙ sym t.0)
          by (inr s) (inr t) = one (sym s.1 ∙ t.1)
          by (inl s) (inr t) = kept_together
              (sound.owned.together (subst (HoldsLive old q z) s.0 a.1) m.holds_lost)
              ∙ m.joined ∙ kept_together
              (sound.owned.together m.holds_kept
              (subst (HoldsLive old q w) (sym t.1 ∙ s.1) b.1))
          by (inr s) (inl t) = kept_together
              (sound.owned.together (subst (HoldsLive old q z) (sym s.1 ∙ t.1) a.1) m.holds_kept)
              ∙ sym m.joined ∙ kept_together
              (sound.owned.together m.holds_lost (subst (HoldsLive old q w) t.0 b.1))
  still_together p z w d (inr n) h k = let a = m.recoloured.held h in let b = m.recoloured.held k in
      m.recoloured.together p (back p h.frame)
      (sound.owned.together (subst (HoldsLive old p z) (lower_pair n n refl a.1 b.1 a.2 b.2)
      a.1) b.1)

  still_owned : (p : Frame) (z : Element) (d : Colour) → HoldsLive new p z d
      → IsOwnedBy p.job (old.shape p).executor d
  still_owned p z d h = by found.0 found.1 found.2
    where
      found : (c : Colour) × HoldsLive old p z c × Turns c d
      found = m.recoloured.held h

      to_kept : HoldsLive old p z lost → IsOwnedBy p.job (old.shape p).executor kept
      to_kept k = go kept m.holds_kept (elim (cases_frame p q) [
        | inl is ↦ inl is
        | inr n ↦ inr ((seen_lower n (sym (sound.owned.owned k)) k).0 refl)
      ])
        where
          go : (c : Colour) → HoldsLive old q y c → (p ≡ q) ⊎ (old.here q ≡ lost)
              → IsOwnedBy p.job (old.shape p).executor c
          go (OfJob j n) l s = sound.owned.owned l ∙ sound.owned.owned k
          go (OfActor a) l (inl is) = ap (λ f. (old.shape f).executor) is ∙ sound.owned.owned l
          go (OfActor a) l (inr here) = absurd (cc (sound.owned.actors l, here))

      by : (c : Colour) → HoldsLive old p z c → Turns c d → IsOwnedBy p.job (old.shape p).executor d
      by c k (inl a) = subst (IsOwnedBy p.job (old.shape p).executor) (sym a.1)
          (to_kept (subst (HoldsLive old p z) a.0 k))
      by c k (inr a) = subst (IsOwnedBy p.job (old.shape p).executor) (sym a.1)
          (sound.owned.owned k)

  -- an actor's colour stays
  here_stays : (p : Frame) (a : Actor) → IsFrame old p → old.here p ≡ OfActor a
      → new.here p ≡ OfActor a
  here_stays p a f e = elim (m.recoloured.here p f) [
    | inl b ↦ absurd (cc (b.0, e))
    | inr b ↦ b.1 ∙ e
  ]

  still_actors : (p : Frame) (z : Element) (a : Actor) → HoldsLive new p z (OfActor a)
      → new.here p ≡ OfActor a
  still_actors p z a h = here_stays p a (back p h.frame) (by found.0 found.1 found.2)
    where
      found : (c : Colour) × HoldsLive old p z c × Turns c (OfActor a)
      found = m.recoloured.held h

      by : (c : Colour) → HoldsLive old p z c → Turns c (OfActor a) → old.here p ≡ OfActor a
      by c k (inr b) = sound.owned.actors (subst (HoldsLive old p z) (sym b.1) k)
      by c k (inl b) = (let q_here : old.here q ≡ OfActor a = sound.owned.actors
          (subst (HoldsLive old q y) (sym b.1) m.holds_kept) in
          let at : HoldsLive old p z lost = subst (HoldsLive old p z) b.0 k in
          elim (cases_frame p q) [
            | inl is ↦ ap old.here is ∙ q_here
            | inr n ↦ absurd (cc (q_here, (seen_lower n (sym (sound.owned.owned at)) at).0 refl))
          ])

  -- what a lower and a later frame share after the step, the later one's `Here` had
  shared_is_here : (p r : Frame) (z w : Element) (c e d : Colour) → IsLowerFrame p r
      → HoldsLive old p z c → HoldsLive old r w e
      → Turns c d → Turns e d → old.here r ≡ c
  shared_is_here p r z w c e d below h k a b = elim (cases_frame r q) [
    | inr n ↦ sound.owned.apart below h
        (subst (HoldsLive old r w) (sym (lower_pair (is_lower below k.frame) n below.0 h k a b)) k)
    | inl is ↦ top is a b
  ]
    where
      seen : r ≡ q → Seen c
      seen is = seen_lower (is_lower below k.frame) (below.0 ∙ ap (λ (f : Frame). f.job) is) h

      one : c ≡ e → old.here r ≡ c
      one same = sound.owned.apart below h (subst (HoldsLive old r w) (sym same) k)

      top : r ≡ q → Turns c d → Turns e d → old.here r ≡ c
      top is (inl s) (inl t) = one (s.0 ∙ sym t.0)
      top is (inr s) (inr t) = one (sym s.1 ∙ t.1)
      top is (inl s) (inr t) = ap old.here is ∙ (seen is).0 s.0 ∙ sym s.0
      top is (inr s) (inl t) = ap old.here is ∙ (seen is).1 (sym s.1 ∙ t.1) ∙ sym t.1 ∙ s.1

  here_becomes : (p : Frame) (c d : Colour) → IsFrame old p → old.here p ≡ c → Turns c d
      → new.here p ≡ d
  here_becomes p c d f e t = becomes_one lost kept c (new.here p) d
      (subst (λ h. Turns h (new.here p)) e (m.recoloured.here p f)) t

  still_apart : (p r : Frame) (z w : Element) (d : Colour) → IsLowerFrame p r → HoldsLive new p z d
      → HoldsLive new r w d → new.here r ≡ d
  still_apart p r z w d below h k = let a = m.recoloured.held h in let b = m.recoloured.held k in
      here_becomes r a.0 d (back r k.frame) (shared_is_here p r z w a.0 b.0 d below a.1 b.1 a.2 b.2)
      a.2

  owned : IsOwned new
  owned = record {
    exclusive = λ {p = f} {q = g} {a = actor}. still_exclusive old new sound m.recoloured.jobs
        (λ p f. ap (λ (s : FrameShape). s.executor) (shape p f)) {p = f} {q = g} {a = actor};
    stands = λ p f e. let s = shape p (back p f) in
        ap (λ (s : FrameShape). s.executor) s
        ∙ sound.owned.stands p (back p f) (sym (ap (λ (s : FrameShape). s.isolation) s) ∙ e);
    isolated = λ {a} p f e. here_stays p a (back p f)
        (sound.owned.isolated p (back p f)
        (sym (ap (λ (s : FrameShape). s.isolation) (shape p (back p f))) ∙ e));
    together = λ {p} {x = z} {y = w} {c = d} h k. still_together p z w d (cases_frame p q) h k;
    owned = λ {p} {x = z} {c = d} h. subst (λ e. IsOwnedBy p.job e d)
        (sym (ap (λ (s : FrameShape). s.executor) (shape p (back p h.frame))))
        (still_owned p z d h);
    actors = λ {p} {x = z} {a} h. still_actors p z a h;
    apart = λ {p} {q = r} {x = z} {y = w} {c = d} below h k. still_apart p r z w d below h k;
  }

  returns : IsReturnLinked new
  returns = record {
    near = λ {p} {x = z} {c = d} r e h k. let a = m.recoloured.held k in
        let b = m.recoloured.held h in
        m.recoloured.together p (back p k.frame)
        (sound.returns.near r
        (sym (ap (λ (s : FrameShape). s.result) (shape (above p) (back (above p) h.frame))) ∙ e) b.1
        (subst (HoldsLive old p z) (here_pair (below_above p) a.1 b.1 a.2 b.2) a.1));
    far = λ {o} {p} {x = z} {c = d} r e below h k. let a = m.recoloured.held k in
        let b = m.recoloured.held h in
        here_becomes p b.0 d (frame_below old p (back (above p) h.frame))
        (sound.returns.far r (sym
        (ap (λ (s : FrameShape). s.result) (shape (above p) (back (above p) h.frame))) ∙ e) below
        b.1
        (subst (HoldsLive old o z) (here_pair (below_trans below (below_above p)) a.1 b.1 a.2 b.2)
        a.1)) b.2;
  }

  initialisers : IsInitialiserLinked new
  initialisers = record {
    alone = λ {p} {q = r} {x = z} e below h k. let a = m.recoloured.held k in
        let b = m.recoloured.held h in
        sound.initialisers.alone (sym (ap (λ (s : FrameShape). s.isolation)
        (shape r (back r h.frame)))
        ∙ e) below b.1
        (subst (HoldsLive old p z) (here_pair below a.1 b.1 a.2 b.2) a.1);
  }

  pub merged : IsSound new
  merged = record {
    owned = owned;
    stacked = restacked old new sound.stacked back (λ p f. shape p (back p f));
    returns = returns;
    initialisers = initialisers;
  }

  -- frames of other jobs hold what they held
  pub others_stay : (p : Frame) → p.job ≢ q.job → IsFrame old p → (old.shape p).closing ≡ false
      → Kept old new p
  others_stay p n f open_frame = record {
    shape = shape p f;
    here = elim (m.recoloured.here p f) [
      | inl b ↦ absurd (not_lost {z = Here} n (record {
        frame = f;
        not_closing = open_frame;
        live = tt;
        holds = refl;
      }) b.0)
      | inr b ↦ b.1
    ];
    held = λ {x = z} {c = d} h. let a = m.recoloured.held h in elim a.2 [
      | inl b ↦ absurd (not_lost n a.1 b.0)
      | inr b ↦ subst (HoldsLive old p z) (sym b.1) a.1
    ];
    together = m.recoloured.together p f;
  }
