-- Moves that leave the jobs their frames keep the invariant, where no element comes to hold a new
-- colour.
use Rattle.std.specs.Prelude.{◌≡◌, ◌≢◌, ◌⊎◌, ℕ, ◌≤◌, false, List, Contains, refl}
use Rattle.std.proofs.Common.{sym, subst, ap, ◌∙◌, inl, inr, arith}
use Rattle.std.proofs.lemmas.Bool.{cases_eq}
use Rattle.sw_owner_facts.specs.Colours.{Actor, Colour, OfJob, OfActor, On, IsOwnedBy}
use Rattle.sw_owner_facts.specs.View.{Frame, above, IsLowerFrame, Element, Here, Register, IsolatedTo}
use Rattle.sw_owner_facts.specs.View.{MakesActor, FrameShape, View, IsFrame, IsTop, HoldsLive, IsUnheld}
use Rattle.sw_owner_facts.specs.View.{IsDisconnected, InOneRegion, RunsOn}
use Rattle.sw_owner_facts.specs.Owned.{IsSound}
use Rattle.sw_owner_facts.specs.Within.{Kept, ChangesTop, Within, Comes, Becomes, Recoloured, Weakened}
use Rattle.sw_owner_facts.specs.Within.{GivenAway, BeginsClosing, Dispatched}
use Rattle.sw_owner_facts.proofs.FrameLemmas.{cases_frame, below_is_frame, frame_below, nothing_above}
use Rattle.sw_owner_facts.proofs.FrameLemmas.{top_is_frame, same_frame, top_or_below, anchored}
use Rattle.sw_owner_facts.proofs.CarriedLemmas.{Carried, SameShape, carried, still_exclusive}
use Rattle.sw_owner_facts.proofs.CarriedLemmas.{still_frames, same_shape}

-- a frame below another waits, and isn't closing
pub waits_below : (w : View) → IsSound w → {o q : Frame} → IsLowerFrame o q → IsFrame w q
    → (w.shape o).closing ≡ false
waits_below w sound {o} below f = sound.stacked.waiting o
    (omega (arith, below.1, f, ap w.height below.0))

-- ---- no frame changes but that it may hold less
abbrev pub Itself : Frame → Element → Element → Type 0
Itself p x y = x ≡ y

pub kept_carried : (old new : View) → ((p : Frame) → IsFrame new p → IsFrame old p)
    → ((p : Frame) → IsFrame new p → Kept old new p)
    → ((p q : Frame) (a : Actor) → RunsOn new p a → RunsOn new q a → p.job ≡ q.job)
    → Carried old new Itself
kept_carried old new back kept exclusive = record {
  frames = back;
  shape = λ p f. same_shape (kept p f).shape;
  waiting = λ p f e. ap (λ (s : FrameShape). s.closing) (kept p (frame_below new p f)).shape ∙ e;
  exclusive = λ {p} {q} {a}. exclusive p q a;
  isolated = λ p f e. (kept p f).here ∙ e;
  here = λ p f e. (kept p f).here;
  held = λ {p} {x} h. (x, refl, (kept p h.frame).held h);
  together = λ {x} {y} {from_x} {from_y} p f a b t. (kept p f).together (ap (old.region p) a ∙ t
      ∙ sym (ap (old.region p) b));
  waits = λ r p f a t. (kept p (frame_below new p f)).together (ap (old.region p) a ∙ t);
}

pub weakened : (old new : View) → IsSound old → Weakened old new → IsSound new
weakened old new sound m = let back = still_frames old new m.jobs.height in
    carried old new Itself sound (kept_carried old new back (λ p f. m.frames p (back p f))
    (λ p q a. still_exclusive old new sound m.jobs
    (λ p f. ap (λ (s : FrameShape). s.executor) (m.frames p f).shape) {p = p} {q = q} {a = a}))

pub dispatched : (old new : View) (j : ℕ) → IsSound old → Dispatched old new j → IsSound new
dispatched old new j sound m = carried old new Itself sound
    (kept_carried old new back (λ p f. m.frames p (back p f)) exclusive)
  where
    back : (p : Frame) → IsFrame new p → IsFrame old p
    back = still_frames old new m.height

    top_back : {p : Frame} → IsTop new p → IsTop old p
    top_back {p} top = sym (m.height p.job) ∙ top

    on_back : {p : Frame} {a : Actor} → RunsOn new p a → (old.shape p).executor ≡ On a
    on_back {p} r = sym (ap (λ (s : FrameShape). s.executor)
        (m.frames p (top_is_frame old p (top_back r.top))).shape) ∙ r.executor

    runs_back : {p : Frame} {a : Actor} → RunsOn new p a → p.job ≢ j → RunsOn old p a
    runs_back {p} r n = record {
      running = m.running p.job n r.running;
      top = top_back r.top;
      executor = on_back r;
    }

    exclusive : (p q : Frame) (a : Actor) → RunsOn new p a → RunsOn new q a → p.job ≡ q.job
    exclusive p q a h k = by (cases_eq p.job j) (cases_eq q.job j)
      where
        by : (p.job ≡ j) ⊎ (p.job ≢ j) → (q.job ≡ j) ⊎ (q.job ≢ j) → p.job ≡ q.job
        by (inl e) (inl f) = e ∙ sym f
        by (inl e) (inr n) = absurd (m.exclusive p e (top_back h.top) (on_back h) (runs_back k n))
        by (inr n) (inl f) = absurd (m.exclusive q f (top_back k.top) (on_back k) (runs_back h n))
        by (inr n) (inr o) = sound.owned.exclusive (runs_back h n) (runs_back k o)

-- ---- the top frame of a job changes inside
module _ (old new : View) (q : Frame) (Origin : Element → Element → Type 0) where
  abbrev From : Frame → Element → Element → Type 0
  From p x y = ((p ≡ q) × Origin x y) ⊎ ((p ≢ q) × (x ≡ y))

  changed_carried : IsSound old → ChangesTop old new q
      → ((x : Element) (c : Colour) → HoldsLive new q x c → (y : Element) × Origin x y
      × HoldsLive old q y c)
      → ((x y from_x from_y : Element) → Origin x from_x → Origin y from_y
      → InOneRegion old q from_x from_y → InOneRegion new q x y)
      → Carried old new From
  changed_carried sound m held together = record {
    frames = back;
    shape = λ p f. same_shape (shape p (back p f));
    waiting =
        λ p f e. ap (λ (s : FrameShape). s.closing) (shape p (back p (frame_below new p f))) ∙ e;
    exclusive = λ {p = f} {q = g} {a = actor}. still_exclusive old new sound m.jobs
        (λ p f. ap (λ (s : FrameShape). s.executor) (shape p f)) {p = f} {q = g} {a = actor};
    isolated = λ p f e. here p (back p f) ∙ e;
    here = λ p f e. here p (back p f);
    held = λ {p} {x} {c} h. from (cases_frame p q) h;
    together = λ {x} {y} {from_x} {from_y} p f a b t. unite p (back p f) a b t;
    waits = λ r p f a t. wait r p (back (above p) f) a t;
  }
    where
      back : (p : Frame) → IsFrame new p → IsFrame old p
      back = still_frames old new m.jobs.height

      shape : (p : Frame) → IsFrame old p → new.shape p ≡ old.shape p
      shape p f = elim (cases_frame p q) [
        | inl e ↦ subst (λ p. new.shape p ≡ old.shape p) (sym e) m.shape
        | inr n ↦ (m.others p f n).shape
      ]

      here : (p : Frame) → IsFrame old p → new.here p ≡ old.here p
      here p f = elim (cases_frame p q) [
        | inl e ↦ subst (λ p. new.here p ≡ old.here p) (sym e) m.here
        | inr n ↦ (m.others p f n).here
      ]

      from : {p : Frame} {x : Element} {c : Colour} → (p ≡ q) ⊎ (p ≢ q) → HoldsLive new p x c
          → (y : Element) × From p x y × HoldsLive old p y c
      from {p} {x} {c} (inl e) h = let found = held x c (subst (λ f. HoldsLive new f x c) e h) in
          (found.0, inl (e, found.1), subst (λ f. HoldsLive old f found.0 c) (sym e) found.2)
      from {p} {x} {c} (inr n) h = (x, inr (n, refl), (m.others p (back p h.frame) n).held h)

      unite : {x y from_x from_y : Element} (p : Frame) → IsFrame old p → From p x from_x
          → From p y from_y
          → InOneRegion old p from_x from_y → InOneRegion new p x y
      unite {x} {y} {from_x} {from_y} p f (inl a) (inl b) t = subst (λ f. InOneRegion new f x y)
          (sym a.0)
          (together x y from_x from_y a.1 b.1 (subst (λ f. InOneRegion old f from_x from_y) a.0 t))
      unite p f (inl a) (inr b) t = absurd (b.0 a.0)
      unite p f (inr a) (inl b) t = absurd (a.0 b.0)
      unite {x} {y} p f (inr a) (inr b) t = (m.others p f a.0).together (ap (old.region p) a.1 ∙ t
          ∙ sym (ap (old.region p) b.1))

      wait : {x y : Element} (r : ℕ) (p : Frame) → IsFrame old (above p) → From p x y
          → InOneRegion old p y (Register r) → InOneRegion new p x (Register r)
      wait r p f (inl a) t = absurd (nothing_above old p (subst (IsTop old) (sym a.0) m.top) f)
      wait r p f (inr a) t = (m.others p (frame_below old p f) a.0).together (ap (old.region p) a.1
          ∙ t)

  pub changed : IsSound old → ChangesTop old new q
      → ((x : Element) (c : Colour) → HoldsLive new q x c → (y : Element) × Origin x y
      × HoldsLive old q y c)
      → ((x y from_x from_y : Element) → Origin x from_x → Origin y from_y
      → InOneRegion old q from_x from_y → InOneRegion new q x y)
      → IsSound new
  changed sound m held together = carried old new From sound (changed_carried sound m held together)

pub comes : (old new : View) (q : Frame) (origins : Element → List Element) → IsSound old
    → Comes old new q origins → IsSound new
comes old new q origins sound m = changed old new q (λ x y. Contains (origins x) y) sound m.change
    (λ x c h. m.held h) (λ x y from_x from_y a b t. m.together a b t)

pub within : (old new : View) (q : Frame) (origin : Element → Element) → IsSound old
    → Within old new q origin → IsSound new
within old new q origin sound m = changed old new q (λ x y. y ≡ origin x) sound m.change
    (λ x c h. (origin x, refl, m.held h))
    (λ x y from_x from_y a b t. m.together (sym (ap (old.region q) a) ∙ t ∙ ap (old.region q) b))

-- ---- a colour that nothing live holds becomes another
pub unheld : (old new : View) (j number : ℕ) (kept : Colour) → IsSound old
    → IsUnheld old (OfJob j number)
    → Recoloured old new j number kept → IsSound new
unheld old new j number kept sound nobody m = carried old new Itself sound (record {
  frames = at;
  shape = λ p f. same_shape (m.shape p (at p f));
  waiting =
      λ p f e. ap (λ (s : FrameShape). s.closing) (m.shape p (at p (frame_below new p f))) ∙ e;
  exclusive = λ {p = f} {q = g} {a = actor}. still_exclusive old new sound m.jobs
      (λ p f. ap (λ (s : FrameShape). s.executor) (m.shape p f)) {p = f} {q = g} {a = actor};
  isolated = λ {a} p f e. elim (m.here p (at p f)) [
    | inl b ↦ absurd (cc (b.0, e))
    | inr b ↦ b.1 ∙ e
  ];
  here = λ p f e. elim (m.here p (at p f)) [
    | inl b ↦ absurd (nobody p Here
        (record {
          frame = at p f;
          not_closing = sym (ap (λ (s : FrameShape). s.closing) (m.shape p (at p f))) ∙ e;
          live = tt;
          holds = b.0;
        }))
    | inr b ↦ b.1
  ];
  held = λ {p} {x} {c} h. back p x c (m.held h);
  together = λ p f a b t. m.together p (at p f) (ap (old.region p) a ∙ t
      ∙ sym (ap (old.region p) b));
  waits = λ r p f a t. m.together p (at p (frame_below new p f)) (ap (old.region p) a ∙ t);
})
  where
    at : (p : Frame) → IsFrame new p → IsFrame old p
    at = still_frames old new m.jobs.height

    back : (p : Frame) (x : Element) (d : Colour)
        → ((c : Colour) × HoldsLive old p x c × Becomes (OfJob j number) kept c d)
        → (y : Element) × Itself p x y × HoldsLive old p y d
    back p x d found = elim found.2 [
      | inl b ↦ absurd (nobody p x (subst (HoldsLive old p x) b.0 found.1))
      | inr b ↦ (x, refl, subst (HoldsLive old p x) (sym b.1) found.1)
    ]

-- ---- what is given away
pub given : (old new : View) (q : Frame) (x : Element) → IsSound old → GivenAway old new q x
    → IsSound new
given old new q x sound m = weakened old new sound m.weakened

-- a live element that isn't with `Here` holds no colour of an actor
pub free_is_of_job : (w : View) (q : Frame) (x : Element) (c : Colour) → IsSound w
    → ¬ (InOneRegion w q x Here) → HoldsLive w q x c
    → (number : ℕ) × (c ≡ OfJob q.job number)
free_is_of_job w q x (OfJob j n) sound free h = (n, ap (λ j. OfJob j n) (sound.owned.owned h))
free_is_of_job w q x (OfActor a) sound free h = absurd (free (sound.owned.together h (record {
  frame = h.frame;
  not_closing = h.not_closing;
  live = tt;
  holds = sound.owned.actors h;
})))

pub given_is_disconnected : (old new : View) (q : Frame) (x : Element) → IsSound old
    → GivenAway old new q x
    → (c : Colour) → HoldsLive old q x c → IsDisconnected new q.job c
given_is_disconnected old new q x sound m c h = record {
  number = owner.0;
  owner = owner.1;
  unheld = nobody;
}
  where
    owner : (number : ℕ) × (c ≡ OfJob q.job number)
    owner = free_is_of_job old q x c sound m.free h

    back : {p : Frame} {y : Element} → HoldsLive new p y c → HoldsLive old p y c
    back {p} k = (m.weakened.frames p (omega (arith, k.frame, m.weakened.jobs.height p.job))).held k

    -- in the frame itself
    here : (y : Element) → HoldsLive new q y c → ⊥
    here Here k = m.free (sound.owned.together h (back k))
    here (Register r) k = m.gone r (sound.owned.together h (back k)) k.live

    same_job : {p : Frame} {y : Element} → HoldsLive old p y c → p.job ≡ q.job
    same_job {p} {y} k = let o : IsOwnedBy p.job (old.shape p).executor (OfJob q.job owner.0) =
        subst (IsOwnedBy p.job (old.shape p).executor) owner.1 (sound.owned.owned k) in sym o

    nobody : IsUnheld new c
    nobody p y k = elim (top_or_below old p q m.top (same_job (back k)) (back k).frame) [
      | inl e ↦ here y (subst (λ f. HoldsLive new f y c) e k)
      | inr below ↦ m.free (sound.owned.together h
          (record {
            frame = h.frame;
            not_closing = h.not_closing;
            live = tt;
            holds = sound.owned.apart below (back k) h;
          }))
    ]

-- ---- a frame with only its return left
abbrev Elsewhere : Frame → Frame → Element → Element → Type 0
Elsewhere q p x y = (p ≢ q) × (x ≡ y)

pub closed : (old new : View) (q : Frame) → IsSound old → BeginsClosing old new q → IsSound new
closed old new q sound m = carried old new (Elsewhere q) sound (record {
  frames = back;
  shape = λ p f. shape p (back p f);
  waiting = λ p f e. elim (cases_frame p q) [
    | inl is ↦ absurd (nothing_above old p (subst (IsTop old) (sym is) m.top) (back (above p) f))
    | inr n ↦ ap (λ (s : FrameShape). s.closing)
        (m.others p (back p (frame_below new p f)) n).shape ∙ e
  ];
  exclusive = λ {p = f} {q = g} {a = actor}. still_exclusive old new sound m.jobs
      (λ p f. (shape p f).executor) {p = f} {q = g} {a = actor};
  isolated = λ p f e. here p (back p f) ∙ e;
  here = λ p f e. here p (back p f);
  held = λ {p} {x} {c} h. let n = other (cases_frame p q) h in
      (x, (n, refl), (m.others p (back p h.frame) n).held h);
  together = λ p f a b t. (m.others p (back p f) a.0).together (ap (old.region p) a.1 ∙ t
      ∙ sym (ap (old.region p) b.1));
  waits = λ r p f a t. (m.others p (back p (frame_below new p f)) a.0).together
      (ap (old.region p) a.1 ∙ t);
})
  where
    back : (p : Frame) → IsFrame new p → IsFrame old p
    back = still_frames old new m.jobs.height

    shape : (p : Frame) → IsFrame old p → SameShape (old.shape p) (new.shape p)
    shape p f = elim (cases_frame p q) [
      | inl e ↦ subst (λ p. SameShape (old.shape p) (new.shape p)) (sym e) (record {
        isolation = ap (λ (s : FrameShape). s.isolation) m.shape;
        executor = ap (λ (s : FrameShape). s.executor) m.shape;
        crossing = ap (λ (s : FrameShape). s.crossing) m.shape;
        result = ap (λ (s : FrameShape). s.result) m.shape;
        closing = λ no_more. absurd (cc (no_more, ap (λ (s : FrameShape). s.closing) m.shape));
      })
      | inr n ↦ same_shape (m.others p f n).shape
    ]

    here : (p : Frame) → IsFrame old p → new.here p ≡ old.here p
    here p f = elim (cases_frame p q) [
      | inl e ↦ subst (λ p. new.here p ≡ old.here p) (sym e) m.here
      | inr n ↦ (m.others p f n).here
    ]

    other : {p : Frame} {x : Element} {c : Colour} → (p ≡ q) ⊎ (p ≢ q) → HoldsLive new p x c → p ≢ q
    other {p} {x} {c} (inl e) h = let k = subst (λ f. HoldsLive new f x c) e h in
        absurd (cc (k.not_closing, ap (λ (s : FrameShape). s.closing) m.shape))
    other {p} {x} {c} (inr n) h = n

-- A colour of the job that a frame held when only its return is left, nothing holds, if no frame
-- below holds it.
closed_is_unheld : (old new : View) (q : Frame) (x : Element) (number : ℕ) → IsSound old
    → BeginsClosing old new q → HoldsLive old q x (OfJob q.job number)
    → ((p : Frame) (y : Element) → IsLowerFrame p q → ¬ (HoldsLive old p y (OfJob q.job number)))
    → IsUnheld new (OfJob q.job number)
closed_is_unheld old new q x number sound m h alone p y k = elim (cases_frame p q) [
  | inl e ↦ (let at_q = subst (λ f. HoldsLive new f y (OfJob q.job number)) e k in
      cc (at_q.not_closing, ap (λ (s : FrameShape). s.closing) m.shape))
  | inr n ↦ elim (top_or_below old p q m.top (same_job (held_back n)) (held_back n).frame) [
    | inl e ↦ n e
    | inr below ↦ alone p y below (held_back n)
  ]
]
  where
    held_back : p ≢ q → HoldsLive old p y (OfJob q.job number)
    held_back n = (m.others p (omega (arith, k.frame, m.jobs.height p.job)) n).held k

    same_job : HoldsLive old p y (OfJob q.job number) → p.job ≡ q.job
    same_job back = let o : IsOwnedBy p.job (old.shape p).executor (OfJob q.job number)
        = sound.owned.owned back in
        sym o

-- None below holds one where the frame's `Here` has an actor's colour, as that of an initialiser of
-- a class with a global actor.
pub closed_class_is_unheld : (old new : View) (q : Frame) (x : Element) (a : Actor) (number : ℕ)
    → IsSound old → BeginsClosing old new q → old.here q ≡ OfActor a
    → HoldsLive old q x (OfJob q.job number) → IsUnheld new (OfJob q.job number)
closed_class_is_unheld old new q x a number sound m here h =
    closed_is_unheld old new q x number sound m h (λ p y below k.
    let is : old.here q ≡ OfJob q.job number = sound.owned.apart below k h in cc (is, here))

-- what an actor's initialiser held when only its return is left, nothing holds
pub closed_is_disconnected : (old new : View) (q : Frame) → IsSound old → BeginsClosing old new q
    → (old.shape q).isolation ≡ MakesActor
    → (x : Element) (c : Colour) → HoldsLive old q x c → IsDisconnected new q.job c
closed_is_disconnected old new q sound m makes x c h = record {
  number = (owner c h).0;
  owner = (owner c h).1;
  unheld = subst (IsUnheld new) (sym (owner c h).1)
      (closed_is_unheld old new q x (owner c h).0 sound m of_job (λ p y below k.
      sound.initialisers.alone makes below (q_here (sound.owned.apart below k of_job)) k));
}
  where
    q_here : {c : Colour} → old.here q ≡ c → HoldsLive old q Here c
    q_here e = record { frame = h.frame; not_closing = h.not_closing; live = tt; holds = e }

    -- no actor's: the frame that stands for the actor lies below, and its `Here` has the colour
    no_actor : (a : Actor) → HoldsLive old q x (OfActor a) → ⊥
    no_actor a k = let found = anchored old sound.stacked a q.job q.depth k.frame
        (sound.owned.owned k) in
        meet found.0 found.1 found.2 found.3
      where
        meet : (o : Frame) → o.job ≡ q.job → o.depth ≤ q.depth
            → (old.shape o).isolation ≡ IsolatedTo a → ⊥
        meet o e le isolation = elim (cases_frame o q) [
          | inl is ↦ cc (makes, isolation, ap old.shape is)
          | inr n ↦ (let below : IsLowerFrame o q =
              (e, omega (arith, le, λ (d : o.depth ≡ q.depth). n (same_frame e d))) in
              let f : IsFrame old o = below_is_frame old below k.frame in
              sound.initialisers.alone {x = Here} makes below (q_here (sound.owned.actors k))
              (record {
                frame = f;
                not_closing = waits_below old sound below k.frame;
                live = tt;
                holds = sound.owned.isolated o f isolation;
              }))
        ]

    owner : (c : Colour) → HoldsLive old q x c → (number : ℕ) × (c ≡ OfJob q.job number)
    owner (OfJob j n) k = (n, ap (λ j. OfJob j n) (sound.owned.owned k))
    owner (OfActor a) k = absurd (no_actor a k)

    of_job : HoldsLive old q x (OfJob q.job (owner c h).0)
    of_job = subst (HoldsLive old q x) (owner c h).1 h

-- what nothing live holds may be recoloured, and each frame that isn't closing stays as it is
pub unheld_stay : (old new : View) (j number : ℕ) (kept : Colour) → IsUnheld old (OfJob j number)
    → Recoloured old new j number kept
    → (p : Frame) → IsFrame old p → (old.shape p).closing ≡ false → Kept old new p
unheld_stay old new j number kept nobody m p f open_frame = record {
  shape = m.shape p f;
  here = elim (m.here p f) [
    | inl b ↦ absurd (nobody p Here (record {
      frame = f;
      not_closing = open_frame;
      live = tt;
      holds = b.0;
    }))
    | inr b ↦ b.1
  ];
  held = λ {x} {c} h. back x c (m.held h);
  together = m.together p f;
}
  where
    back : (x : Element) (d : Colour)
        → ((c : Colour) × HoldsLive old p x c × Becomes (OfJob j number) kept c d)
        → HoldsLive old p x d
    back x d found = elim found.2 [
      | inl b ↦ absurd (nobody p x (subst (HoldsLive old p x) b.0 found.1))
      | inr b ↦ subst (HoldsLive old p x) (sym b.1) found.1
    ]

-- ---- with no frames there is nothing to keep apart
pub no_frames : (w : View) → ((j : ℕ) → w.height j ≡ 0) → IsSound w
no_frames w empty = record {
  owned = record {
    exclusive = λ {p} h k. absurd (omega (arith, h.top, empty p.job));
    stands = λ p f. absurd (none p f);
    isolated = λ p f. absurd (none p f);
    together = λ {p} h. absurd (none p h.frame);
    owned = λ {p} h. absurd (none p h.frame);
    actors = λ {p} h. absurd (none p h.frame);
    apart = λ {p} below h. absurd (none p h.frame);
  };
  stacked = record {
    entered = λ p f. absurd (none p f);
    inherited = λ p f. absurd (none (above p) f);
    linked = λ r p f. absurd (none (above p) f);
    waiting = λ p f. absurd (none (above p) f);
  };
  returns = record {
    near = λ {p} r e h. absurd (none (above p) h.frame);
    far = λ {p} r e below h. absurd (none (above p) h.frame);
  };
  initialisers = record { alone = λ {q} e below h. absurd (none q h.frame) };
}
  where
    none : (p : Frame) → IsFrame w p → ⊥
    none p f = omega (arith, f, empty p.job)

-- ---- who stands on an actor
pub anchor : (w : View) (p : Frame) (a : Actor) → IsSound w → IsFrame w p
    → (w.shape p).executor ≡ On a
    → (o : Frame) × ((o ≡ p) ⊎ IsLowerFrame o p) × ((w.shape o).isolation ≡ IsolatedTo a)
anchor w p a sound f on = let found = anchored w sound.stacked a p.job p.depth f on in
    (found.0, lies found.0 found.1 found.2, found.3)
  where
    lies : (o : Frame) → o.job ≡ p.job → o.depth ≤ p.depth → (o ≡ p) ⊎ IsLowerFrame o p
    lies o e le = elim (cases_frame o p) [
      | inl is ↦ inl is
      | inr n ↦ inr (e, omega (arith, le, λ (d : o.depth ≡ p.depth). n (same_frame e d)))
    ]
