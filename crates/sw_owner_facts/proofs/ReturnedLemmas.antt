-- A frame returns. What it hands out lies, where the frame below shares it, in the region that the
-- call kept for it.
use Rattle.std.specs.Prelude.{◌≡◌, ◌≢◌, ◌⊎◌, ℕ, ◌≤◌, Some, refl}
use Rattle.std.proofs.Common.{sym, subst, ap, ◌∙◌, inl, inr, arith}
use Rattle.std.proofs.lemmas.Bool.{cases_eq}
use Rattle.sw_owner_facts.specs.Colours.{Actor, Colour, OfJob, OfActor, On, IsOwnedBy}
use Rattle.sw_owner_facts.specs.View.{Frame, above, IsLowerFrame, Element, Here, Register, IsolatedTo}
use Rattle.sw_owner_facts.specs.View.{FrameShape}
use Rattle.sw_owner_facts.specs.View.{View, IsFrame, IsTop, HoldsLive, InOneRegion, RunsOn}
use Rattle.sw_owner_facts.specs.Owned.{IsOwned, IsReturnLinked, IsInitialiserLinked, IsSound}
use Rattle.sw_owner_facts.specs.Calls.{Handed, Returned, JobEnded}
use Rattle.sw_owner_facts.proofs.FrameLemmas.{cases_frame, cases_crossing, same_frame, same_top}
use Rattle.sw_owner_facts.proofs.FrameLemmas.{top_is_frame, frame_below, below_above, below_is_frame}
use Rattle.sw_owner_facts.proofs.FrameLemmas.{below_is_not_top, below_trans, anchored}
use Rattle.sw_owner_facts.proofs.CarriedLemmas.{carried, restacked}
use Rattle.sw_owner_facts.proofs.WithinLemmas.{Itself, kept_carried, waits_below}

module _ (old new : View) (p : Frame) (r : ℕ) (sound : IsSound old) (m : Returned old new p r) where
  abbrev q : Frame
  q = above p

  q_frame : IsFrame old q
  q_frame = top_is_frame old q m.popped.top

  p_top : IsTop new p
  p_top = m.popped.height

  back : (f : Frame) → IsFrame new f → IsFrame old f
  back f is = elim (cases_eq f.job p.job) [
    | inl e ↦ omega (arith, is, m.popped.height, m.popped.top, ap new.height e, ap old.height e)
    | inr n ↦ omega (arith, is, m.popped.heights f.job n)
  ]

  shape : (f : Frame) → IsFrame new f → new.shape f ≡ old.shape f
  shape f is = elim (cases_frame f p) [
    | inl e ↦ subst (λ f. new.shape f ≡ old.shape f) (sym e) m.shape
    | inr n ↦ (m.others f is n).shape
  ]

  -- the frame that waited isn't closing, and its `Here` is live
  p_here : new.here p ≡ old.here p
  p_here = by (m.held {x = Here} (record {
    frame = omega (arith, m.popped.height);
    not_closing = ap (λ (s : FrameShape). s.closing) m.shape ∙ sound.stacked.waiting p q_frame;
    live = tt;
    holds = refl;
  }))
    where
      by : HoldsLive old p Here (new.here p) ⊎ ((Here ≡ Register r) × Handed old p r (new.here p))
          → new.here p ≡ old.here p
      by (inl k) = sym k.holds
      by (inr k) = absurd (cc (k.0))

  here : (f : Frame) → IsFrame new f → new.here f ≡ old.here f
  here f is = elim (cases_frame f p) [
    | inl e ↦ subst (λ f. new.here f ≡ old.here f) (sym e) p_here
    | inr n ↦ (m.others f is n).here
  ]

  regions : (f : Frame) {x y : Element} → IsFrame new f → InOneRegion old f x y
      → InOneRegion new f x y
  regions f {x} {y} is t = elim (cases_frame f p) [
    | inl e ↦ subst (λ f. InOneRegion new f x y) (sym e)
        (m.together (subst (λ f. InOneRegion old f x y) e t))
    | inr n ↦ (m.others f is n).together t
  ]

  -- what the new view holds was held, or was handed out
  abbrev IsHanded : Frame → Element → Colour → Type 0
  IsHanded f x c = (f ≡ p) × (x ≡ Register r) × Handed old p r c

  origin : {f : Frame} {x : Element} {c : Colour} → HoldsLive new f x c → HoldsLive old f x c
      ⊎ IsHanded f x c
  origin {f} {x} {c} h = elim (cases_frame f p) [
    | inl e ↦ elim (m.held (subst (λ f. HoldsLive new f x c) e h)) [
      | inl k ↦ inl (subst (λ f. HoldsLive old f x c) (sym e) k)
      | inr k ↦ inr (e, k.0, k.1)
    ]
    | inr n ↦ inl ((m.others f h.frame n).held h)
  ]

  lower : {f s : Frame} {x : Element} {c : Colour} → IsLowerFrame f s → IsFrame new s
      → HoldsLive new f x c → HoldsLive old f x c
  lower {f} below is h = elim (origin h) [
    | inl k ↦ k
    | inr k ↦ absurd (below_is_not_top new below is (subst (IsTop new) (sym k.0) p_top))
  ]

  here_back : {f : Frame} {c : Colour} → HoldsLive new f Here c → HoldsLive old f Here c
  here_back h = elim (origin h) [
    | inl k ↦ k
    | inr k ↦ absurd (cc (k.1))
  ]

  -- ---- what is handed out
  callee_here : {x : Element} {c d : Colour} → HoldsLive old q x c → old.here q ≡ d
      → HoldsLive old q Here d
  callee_here h e = record { frame = h.frame; not_closing = h.not_closing; live = tt; holds = e }

  -- what another frame of the job shares is allowed by the link alone
  shares : {o : Frame} {x : Element} {c : Colour} → IsLowerFrame o q → Handed old p r c
      → HoldsLive old o x c
      → ((old.shape q).result ≡ Some r) × HoldsLive old q Here c
  shares {c} below given k = let here = callee_here given.holds
      (sound.owned.apart below k given.holds) in elim given.allowed [
        | inl link ↦ (link, here)
        | inr free ↦ absurd (free (sound.owned.together given.holds here))
      ]

  joins : {x : Element} {c : Colour} → Handed old p r c → HoldsLive old p x c
      → InOneRegion old p x (Register r)
  joins given k = let s = shares (below_above p) given k in sound.returns.near r s.0 s.1 k

  reaches : {o : Frame} {x : Element} {c : Colour} → IsLowerFrame o p → Handed old p r c
      → HoldsLive old o x c → old.here p ≡ c
  reaches below given k = let s = shares (below_trans below (below_above p)) given k in
      sound.returns.far r s.0 below s.1 k

  -- where it is an actor's, the caller stands on that actor, and its `Here` has the colour
  actor : (a : Actor) → Handed old p r (OfActor a) → ((old.shape p).executor ≡ On a)
      × (old.here p ≡ OfActor a)
  actor a given = by given.allowed
    where
      callee_on : (old.shape q).executor ≡ On a
      callee_on = sound.owned.owned given.holds

      at_here : HoldsLive old q Here (OfActor a)
      at_here = callee_here given.holds (sound.owned.actors given.holds)

      by : ((old.shape q).result ≡ Some r) ⊎ (¬ (InOneRegion old q given.value Here))
          → ((old.shape p).executor ≡ On a) × (old.here p ≡ OfActor a)
      by (inr free) = absurd (free (sound.owned.together given.holds at_here))
      by (inl link) = (on, meet found.0 found.1 found.2 found.3)
        where
          on : (old.shape p).executor ≡ On a
          on = elim (cases_crossing (old.shape q).crossing) [
            | inl crosses ↦ absurd (cc (callee_on, sound.stacked.linked r p q_frame crosses link))
            | inr stays ↦ sym (sound.stacked.inherited p q_frame stays) ∙ callee_on
          ]

          found : (o : Frame) × (o.job ≡ p.job) × (o.depth ≤ p.depth)
              × ((old.shape o).isolation ≡ IsolatedTo a)
          found = anchored old sound.stacked a p.job p.depth (frame_below old p q_frame) on

          meet : (o : Frame) → o.job ≡ p.job → o.depth ≤ p.depth
              → (old.shape o).isolation ≡ IsolatedTo a → old.here p ≡ OfActor a
          meet o e le isolation = elim (cases_frame o p) [
            | inl is ↦ ap old.here (sym is)
                ∙ sound.owned.isolated o (subst (IsFrame old) (sym is) (frame_below old p q_frame))
                isolation
            | inr n ↦ (let below : IsLowerFrame o p =
                (e, omega (arith, le, λ (d : o.depth ≡ p.depth). n (same_frame e d))) in
                let f : IsFrame old o = below_is_frame old below (frame_below old p q_frame) in
                sound.returns.far {x = Here} r link below at_here (record {
                  frame = f;
                  not_closing = waits_below old sound below (frame_below old p q_frame);
                  live = tt;
                  holds = sound.owned.isolated o f isolation;
                }))
          ]

  -- ---- the parts
  still_together : (f : Frame) (x y : Element) (c : Colour) → HoldsLive new f x c
      → HoldsLive new f y c → InOneRegion new f x y
  still_together f x y c h k = by (origin h) (origin k)
    where
      at_p : (x y : Element) → f ≡ p → y ≡ Register r → Handed old p r c → HoldsLive old f x c
          → InOneRegion new f x y
      at_p x y e y_is given l = subst (λ f. InOneRegion new f x y) (sym e)
          (subst (InOneRegion new p x) (sym y_is)
          (m.together (joins given (subst (λ f. HoldsLive old f x c) e l))))

      by : HoldsLive old f x c ⊎ IsHanded f x c → HoldsLive old f y c ⊎ IsHanded f y c
          → InOneRegion new f x y
      by (inl a) (inl b) = regions f h.frame (sound.owned.together a b)
      by (inl a) (inr b) = at_p x y b.0 b.1 b.2 a
      by (inr a) (inl b) = sym (at_p y x a.0 a.1 a.2 b)
      by (inr a) (inr b) = ap (new.region f) (a.1 ∙ sym b.1)

  still_owned : (f : Frame) (x : Element) (c : Colour) → HoldsLive new f x c
      → IsOwnedBy f.job (old.shape f).executor c
  still_owned f x c h = elim (origin h) [
    | inl k ↦ sound.owned.owned k
    | inr k ↦ subst (λ f. IsOwnedBy f.job (old.shape f).executor c) (sym k.0) (by c k.2)
  ]
    where
      by : (c : Colour) → Handed old p r c → IsOwnedBy p.job (old.shape p).executor c
      by (OfJob j n) given = sound.owned.owned given.holds
      by (OfActor a) given = (actor a given).0

  old_run : {f : Frame} {a : Actor} → RunsOn new f a → (o : Frame) × RunsOn old o a
      × (o.job ≡ f.job)
  old_run {f} {a} run = by (cases_eq f.job p.job)
    where
      on : (old.shape f).executor ≡ On a
      on = sym (ap (λ (s : FrameShape). s.executor) (shape f (top_is_frame new f run.top)))
          ∙ run.executor

      by : (f.job ≡ p.job) ⊎ (f.job ≢ p.job) → (o : Frame) × RunsOn old o a × (o.job ≡ f.job)
      by (inl e) = elim (cases_crossing (old.shape q).crossing) [
        | inl crosses ↦ absurd (cc (m.leaves crosses, run.running, ap new.running e))
        | inr stays ↦ (
          q,
          record {
            running = m.popped.running p.job (sym (ap new.running e) ∙ run.running);
            top = m.popped.top;
            executor = sound.stacked.inherited p q_frame stays
                ∙ ap (λ (f : Frame). (old.shape f).executor) (sym (same_top new run.top p_top e))
                ∙ on;
          },
          sym e,
        )
      ]
      by (inr n) = (
        f,
        record {
          running = m.popped.running f.job run.running;
          top = sym (m.popped.heights f.job n) ∙ run.top;
          executor = on;
        },
        refl,
      )

  owned : IsOwned new
  owned = record {
    exclusive = λ h k. let a = old_run h in let b = old_run k in
        sym a.2 ∙ sound.owned.exclusive a.1 b.1 ∙ b.2;
    stands = λ f is e. let s = shape f is in
        ap (λ (s : FrameShape). s.executor) s
        ∙ sound.owned.stands f (back f is) (sym (ap (λ (s : FrameShape). s.isolation) s) ∙ e);
    isolated = λ f is e. here f is
        ∙ sound.owned.isolated f (back f is) (sym
        (ap (λ (s : FrameShape). s.isolation) (shape f is))
        ∙ e);
    together = λ {p = f} {x} {y} {c} h k. still_together f x y c h k;
    owned = λ {p = f} {x} {c} h. subst (λ e. IsOwnedBy f.job e c)
        (sym (ap (λ (s : FrameShape). s.executor) (shape f h.frame))) (still_owned f x c h);
    actors = λ {p = f} {x} {a} h. here f h.frame ∙ elim (origin h) [
      | inl k ↦ sound.owned.actors k
      | inr k ↦ ap old.here k.0 ∙ (actor a k.2).1
    ];
    apart = λ {p = o} {q = f} {x} {y} {c} below h k. here f k.frame ∙ elim (origin k) [
      | inl l ↦ sound.owned.apart below (lower below k.frame h) l
      | inr l ↦ ap old.here l.0 ∙ reaches (subst (IsLowerFrame o) l.0 below) l.2
          (lower below k.frame h)
    ];
  }

  returns : IsReturnLinked new
  returns = record {
    near = λ {p = f} s e h k. regions f k.frame
        (sound.returns.near s (sym (ap (λ (s : FrameShape). s.result) (shape (above f) h.frame)) ∙
        e)
        (here_back h) (lower (below_above f) h.frame k));
    far = λ {o} {p = f} s e below h k. here f (frame_below new f h.frame)
        ∙ sound.returns.far s (sym (ap (λ (s : FrameShape). s.result) (shape (above f) h.frame)) ∙
        e)
        below (here_back h)
        (lower (below_trans below (below_above f)) h.frame k);
  }

  initialisers : IsInitialiserLinked new
  initialisers = record {
    alone = λ {q = f} e below h k. sound.initialisers.alone
        (sym (ap (λ (s : FrameShape). s.isolation) (shape f h.frame)) ∙ e) below
        (here_back h) (lower below h.frame k);
  }

  pub returned : IsSound new
  returned = record {
    owned = owned;
    stacked = restacked old new sound.stacked back shape;
    returns = returns;
    initialisers = initialisers;
  }

pub ended : (old new : View) (j : ℕ) → IsSound old → JobEnded old new j → IsSound new
ended old new j sound m = carried old new Itself sound
    (kept_carried old new back m.others exclusive)
  where
    other : (f : Frame) → IsFrame new f → f.job ≢ j
    other f is e = omega (arith, is, m.height, ap new.height e)

    back : (f : Frame) → IsFrame new f → IsFrame old f
    back f is = omega (arith, is, m.heights f.job (other f is))

    runs_back : {f : Frame} {a : Actor} → RunsOn new f a → RunsOn old f a
    runs_back {f} run = let is = top_is_frame new f run.top in record {
      running = m.running f.job (other f is) run.running;
      top = sym (m.heights f.job (other f is)) ∙ run.top;
      executor = sym (ap (λ (s : FrameShape). s.executor) (m.others f is).shape) ∙ run.executor;
    }

    exclusive : (f g : Frame) (a : Actor) → RunsOn new f a → RunsOn new g a → f.job ≡ g.job
    exclusive f g a h k = sound.owned.exclusive (runs_back h) (runs_back k)
