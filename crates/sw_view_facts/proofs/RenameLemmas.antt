-- Colours that become one keep a view sound.
use Rattle.std.specs.Option.{option_map, option_map_or}
use Rattle.std.specs.List.{slice_get, slice_index_or}
use Rattle.std.proofs.Common.{◌≡◌, ℕ, suc, ◌⊎◌, ◌==◌, ◌&&◌, cond, Option, Some, None, List, [], ◌∷◌}
use Rattle.std.proofs.Common.{map, Contains, refl, sym, subst, ap, ◌∙◌, arith, inl, inr}
use Rattle.std.proofs.lemmas.Bool.{cases_eq, eq-eqb, ne_eqb, and_left, and_right}
use Rattle.std.proofs.lemmas.Option.{slice_get-map, get_or_from_slice_get}
use Rattle.sw_list.proofs.Members.{member_at, stands_at}
use Rattle.sw_graph.specs.declared.graph.Graph.{Graph}
use Rattle.sw_value.specs.declared.frame.Frame.{Frame}
use Rattle.sw_value.specs.declared.state.State.{State}
use Rattle.sw_value.specs.declared.value.Value.{Value}
use Rattle.sw_value.specs.Value.{value_at}
use Rattle.sw_partition.specs.Regions.{Regions}
use Rattle.sw_owner_facts.specs.Colours.{Colour, OfJob, OfActor}
use Rattle.sw_owner_facts.specs.View.{Element, Here, Register, View, IsFrame, IsTop, HoldsLive}
use Rattle.sw_owner_facts.specs.View.{IsUnheld, InOneRegion, Frame as Spot}
use Rattle.sw_owner_facts.specs.Owned.{IsSound}
use Rattle.sw_owner_facts.specs.Within.{Becomes, Recoloured}
use Rattle.sw_owner_facts.proofs.MergedLemmas.{merged}
use Rattle.sw_owner_facts.proofs.WithinLemmas.{unheld}
use Rattle.sw_reach_facts.specs.Reached.{colours_of}
use Rattle.sw_reach_facts.proofs.RenamedLemmas.{colours_renamed}
use Rattle.sw_view_facts.specs.Renaming.{renames, recoloured_by, united, HasHere, MayUnite}
use Rattle.sw_view_facts.specs.Views.{Colours, frame_at, here_at, colours_by, view_of}

-- ---- colours
pub renames_it : (job n : ℕ) (kept : Colour) → renames job n kept (OfJob job n) ≡ kept
renames_it job n kept = ap (λ b. cond (b && (n == n)) kept (OfJob job n)) (eq-eqb job job refl)
    ∙ ap (λ b. cond b kept (OfJob job n)) (eq-eqb n n refl)

renames_no_job : (job n j m : ℕ) (kept : Colour) → (j ≡ job → ⊥)
    → renames job n kept (OfJob j m) ≡ OfJob j m
renames_no_job job n j m kept differ =
    ap (λ b. cond b kept (OfJob j m)) (and_left (j == job) (m == n) (ne_eqb j job differ))

renames_no_number : (job n j m : ℕ) (kept : Colour) → (m ≡ n → ⊥)
    → renames job n kept (OfJob j m) ≡ OfJob j m
renames_no_number job n j m kept differ =
    ap (λ b. cond b kept (OfJob j m)) (and_right (j == job) (m == n) (ne_eqb m n differ))

job_parts : (j m job n : ℕ) → OfJob j m ≡ OfJob job n → (j ≡ job) × (m ≡ n)
job_parts j m job n e = (cc, cc)

pub becomes : (job n : ℕ) (kept c : Colour) → Becomes (OfJob job n) kept c (renames job n kept c)
becomes job n kept (OfActor a) = inr (λ e. let x : ⊥ = cc in x, refl)
becomes job n kept (OfJob j m) = elim (cases_eq j job) [
  | inr differ ↦ inr (λ e. differ (job_parts j m job n e).0, renames_no_job job n j m kept differ)
  | inl same ↦ elim (cases_eq m n) [
    | inr differ ↦
        inr (λ e. differ (job_parts j m job n e).1, renames_no_number job n j m kept differ)
    | inl number ↦
        let is : OfJob j m ≡ OfJob job n = ap (λ k. OfJob k m) same ∙ ap (OfJob job) number in
        inl (is, ap (renames job n kept) is ∙ renames_it job n kept)
  ]
]

pub cases_colour : (c : Colour) (job n : ℕ) → (c ≡ OfJob job n) ⊎ (c ≡ OfJob job n → ⊥)
cases_colour (OfActor a) job n = inr (λ e. let x : ⊥ = cc in x)
cases_colour (OfJob j m) job n = elim (cases_eq j job) [
  | inr differ ↦ inr (λ e. differ (job_parts j m job n e).0)
  | inl same ↦ elim (cases_eq m n) [
    | inr differ ↦ inr (λ e. differ (job_parts j m job n e).1)
    | inl number ↦ inl (ap (λ k. OfJob k m) same ∙ ap (OfJob job) number)
  ]
]

-- ---- lists
in_map : {X Y : Type 0} (f : X → Y) (xs : List X) (x : X) → Contains xs x → Contains (map f xs) (f x)
in_map f xs x has = let at = stands_at xs x has in
    member_at (map f xs) at.0 (f x) (slice_get-map f xs at.0 ∙ ap (option_map f) at.1)

pub of_map : {X Y : Type 0} (f : X → Y) (xs : List X) (y : Y) → Contains (map f xs) y
    → (x : X) × Contains xs x × (f x ≡ y)
of_map {X = X} {Y = Y} f xs y has =
    by (slice_get xs at.0) refl (sym (slice_get-map f xs at.0) ∙ at.1)
  where
    at : (i : ℕ) × (slice_get (map f xs) i ≡ Some y)
    at = stands_at (map f xs) y has

    by : (o : Option X) → slice_get xs at.0 ≡ o → option_map f o ≡ Some y
        → (x : X) × Contains xs x × (f x ≡ y)
    by None e is = cc
    by (Some x) e is = (x, member_at xs at.0 x e, (let same : f x ≡ y = cc in same))

-- ---- views
module _ (graph : Graph) (regions : Spot → Option Regions) (state : State) (colours : Colours)
    (heres : (p : Spot) → IsFrame (view_of graph regions state colours) p → HasHere colours p)
    (f : Colour → Colour) where
  abbrev old : View
  old = view_of graph regions state colours

  abbrev new : View
  new = view_of graph regions state (recoloured_by f colours)

  here_is : (p : Spot) (h : HasHere colours p) → here_at colours p ≡ h.colour
  here_is p h =
      ap (λ row. slice_index_or row p.depth (OfJob p.job 0))
      (get_or_from_slice_get colours.heres p.job h.row [] h.rows)
      ∙ get_or_from_slice_get h.row p.depth h.colour (OfJob p.job 0) h.at

  pub here_later : (p : Spot) → HasHere colours p → HasHere (recoloured_by f colours) p
  here_later p h = record {
    row = map f h.row;
    rows = slice_get-map (map f) colours.heres p.job ∙ ap (option_map (map f)) h.rows;
    colour = f h.colour;
    at = slice_get-map f h.row p.depth ∙ ap (option_map f) h.at;
  }

  here_renamed : (p : Spot) (h : HasHere colours p)
      → here_at (recoloured_by f colours) p ≡ f (here_at colours p)
  here_renamed p h =
      ap (λ row. slice_index_or row p.depth (OfJob p.job 0))
      (get_or_from_slice_get (map (map f) colours.heres) p.job (map f h.row) []
      (slice_get-map (map f) colours.heres p.job ∙ ap (option_map (map f)) h.rows))
      ∙ get_or_from_slice_get (map f h.row) p.depth (f h.colour) (OfJob p.job 0)
      (slice_get-map f h.row p.depth ∙ ap (option_map f) h.at)
      ∙ sym (ap f (here_is p h))

  held_renamed : (o : Option Frame) (r : ℕ)
      → colours_by state (recoloured_by f colours) o r ≡ map f (colours_by state colours o r)
  held_renamed None r = refl
  held_renamed (Some g) r = by (value_at g.regs r) where
    by : (v : Option Value)
        → option_map_or (colours_of state.cells (map (option_map f) colours.cells)) v []
        ≡ map f (option_map_or (colours_of state.cells colours.cells) v [])
    by None = refl
    by (Some v) = colours_renamed f state.cells colours.cells v

  -- what is held after renaming was held, and the other way round
  pub held_from : (p : Spot) (x : Element) (d : Colour) → HoldsLive new p x d
      → (c : Colour) × HoldsLive old p x c × (f c ≡ d)
  held_from p Here d h =
      let there = heres p h.frame in (
        here_at colours p,
        record { frame = h.frame; not_closing = h.not_closing; live = h.live; holds = refl },
        sym (here_renamed p there) ∙ h.holds,
      )
  held_from p (Register r) d h =
      let found = of_map f (old.colours p r) d
      (subst (λ l. Contains l d) (held_renamed (frame_at state p) r) h.holds) in (
        found.0,
        record { frame = h.frame; not_closing = h.not_closing; live = h.live; holds = found.1 },
        found.2,
      )

  pub held_to : (p : Spot) (x : Element) (c : Colour) → HoldsLive old p x c
      → HoldsLive new p x (f c)
  held_to p Here c h = record {
    frame = h.frame;
    not_closing = h.not_closing;
    live = h.live;
    holds = here_renamed p (heres p h.frame) ∙ ap f h.holds;
  }
  held_to p (Register r) c h = record {
    frame = h.frame;
    not_closing = h.not_closing;
    live = h.live;
    holds = subst (λ l. Contains l (f c)) (sym (held_renamed (frame_at state p) r))
        (in_map f (old.colours p r) c h.holds);
  }

-- ---- one colour becomes another
module _ (graph : Graph) (regions : Spot → Option Regions) (state : State) (colours : Colours)
    (heres : (p : Spot) → IsFrame (view_of graph regions state colours) p → HasHere colours p) where
  pub recoloured : (job n : ℕ) (kept : Colour)
      → Recoloured (view_of graph regions state colours)
      (view_of graph regions state (recoloured_by (renames job n kept) colours)) job n kept
  recoloured job n kept = record {
    jobs = record { height = λ j. refl; running = λ j r. r };
    shape = λ p is. refl;
    here = λ p is. subst (Becomes (OfJob job n) kept (here_at colours p))
        (sym (here_renamed graph regions state colours heres (renames job n kept) p (heres p is)))
        (becomes job n kept (here_at colours p));
    held = λ {p} {x} {d} h.
        let found = held_from graph regions state colours heres (renames job n kept) p x d h in (
          found.0,
          found.1,
          subst (Becomes (OfJob job n) kept found.0) found.2
              (becomes job n kept found.0),
        );
    together = λ {x} {y} p is t. t;
  }

  same_colours : (g : Colour → Colour) → ((c : Colour) → g c ≡ c)
      → recoloured_by g colours ≡ colours
  same_colours g same =
      ap (λ h. recoloured_by h colours) (λ i c. same c i)
      ∙ ap (λ (cs : List (Option Colour)). record {
        cells = cs;
        heres = map (map (λ c. c))
            colours.heres;
      }) (options colours.cells)
      ∙ ap (λ (hs : List (List Colour)). record { cells = colours.cells; heres = hs })
      (rows colours.heres)
    where
      options : (os : List (Option Colour)) → map (option_map (λ c. c)) os ≡ os
      options [] = refl
      options (None ∷ os) = ap (λ l. None ∷ l) (options os)
      options (Some c ∷ os) = ap (λ l. Some c ∷ l) (options os)

      row : (cs : List Colour) → map (λ c. c) cs ≡ cs
      row [] = refl
      row (c ∷ cs) = ap (λ l. c ∷ l) (row cs)

      rows : (hs : List (List Colour)) → map (map (λ c. c)) hs ≡ hs
      rows [] = refl
      rows (h ∷ hs) = ap (λ l. l ∷ map (map (λ c. c)) hs) (row h) ∙ ap (λ l. h ∷ l) (rows hs)

  renames_itself : (job n : ℕ) (kept c : Colour) → kept ≡ OfJob job n → renames job n kept c ≡ c
  renames_itself job n kept c is = elim (becomes job n kept c) [
    | inl both ↦ both.1 ∙ is ∙ sym both.0
    | inr other ↦ other.1
  ]

  -- a colour that may unite with another does, and the view stays sound
  pub unites_one : (q : Spot) (y : Element) (kept : Colour) (n : ℕ)
      → IsTop (view_of graph regions state colours) q
      → HoldsLive (view_of graph regions state colours) q y kept
      → MayUnite (view_of graph regions state colours) q y kept n
      → IsSound (view_of graph regions state colours)
      → IsSound (view_of graph regions state (recoloured_by (renames q.job n kept) colours))
  unites_one q y kept n top holds (inl is) sound =
      subst (λ cs. IsSound (view_of graph regions state cs))
      (sym (same_colours (renames q.job n kept) (λ c. renames_itself q.job n kept c is))) sound
  unites_one q y kept n top holds (inr (inl none)) sound =
      unheld (view_of graph regions state colours)
      (view_of graph regions state (recoloured_by (renames q.job n kept) colours)) q.job n kept sound
      none (recoloured q.job n kept)
  unites_one q y kept n top holds (inr (inr other)) sound =
      merged (view_of graph regions state colours)
      (view_of graph regions state (recoloured_by (renames q.job n kept) colours)) q other.0 y n kept
      sound (record {
        top = top;
        holds_lost = other.1;
        holds_kept = holds;
        recoloured = recoloured q.job n kept;
        joined = other.2;
      })

  -- what holds the kept colour goes on to
  pub kept_stays : (q : Spot) (y : Element) (kept : Colour) (n : ℕ)
      → HoldsLive (view_of graph regions state colours) q y kept
      → HoldsLive (view_of graph regions state (recoloured_by (renames q.job n kept) colours)) q y kept
  kept_stays q y kept n holds =
      subst (HoldsLive (view_of graph regions state (recoloured_by (renames q.job n kept) colours)) q y)
      same (held_to graph regions state colours heres (renames q.job n kept) q y kept holds)
    where
      same : renames q.job n kept kept ≡ kept
      same = elim (becomes q.job n kept kept) [
        | inl both ↦ both.1
        | inr other ↦ other.1
      ]

  -- and each other colour that may unite may still
  pub still_unites : (q : Spot) (y : Element) (kept : Colour) (n m : ℕ)
      → MayUnite (view_of graph regions state colours) q y kept m
      → MayUnite (view_of graph regions state (recoloured_by (renames q.job n kept) colours)) q y kept
      m
  still_unites q y kept n m may = elim (cases_colour kept q.job m) [
    | inl is ↦ inl is
    | inr apart ↦ inr (by apart may)
  ]
    where
      from : (p : Spot) (x : Element) → (kept ≡ OfJob q.job m → ⊥)
          → HoldsLive (view_of graph regions state (recoloured_by (renames q.job n kept) colours)) p x
          (OfJob q.job m)
          → HoldsLive (view_of graph regions state colours) p x (OfJob q.job m)
          × (OfJob q.job m ≡ OfJob q.job n → ⊥)
      from p x apart h =
          let found = held_from graph regions state colours heres (renames q.job n kept) p x
          (OfJob q.job m) h in
          pick found.0 found.1 found.2 (becomes q.job n kept found.0) where
            pick : (c : Colour) → HoldsLive (view_of graph regions state colours) p x c
                → renames q.job n kept c ≡ OfJob q.job m
                → Becomes (OfJob q.job n) kept c (renames q.job n kept c)
                → HoldsLive (view_of graph regions state colours) p x (OfJob q.job m)
                × (OfJob q.job m ≡ OfJob q.job n → ⊥)
            pick c held is (inl both) = absurd (apart (sym both.1 ∙ is))
            pick c held is (inr other) =
                let same : c ≡ OfJob q.job m = sym other.1 ∙ is in (
                  subst (HoldsLive (view_of graph regions state colours) p x) same held,
                  λ e. other.0 (same ∙ e),
                )

      by : (kept ≡ OfJob q.job m → ⊥) → MayUnite (view_of graph regions state colours) q y kept m
          → IsUnheld (view_of graph regions state (recoloured_by (renames q.job n kept) colours))
          (OfJob q.job m) ⊎ ((x : Element)
          × HoldsLive (view_of graph regions state (recoloured_by (renames q.job n kept) colours)) q x
          (OfJob q.job m)
          × InOneRegion (view_of graph regions state (recoloured_by (renames q.job n kept) colours)) q x y)
      by apart (inl is) = absurd (apart is)
      by apart (inr (inl none)) = inl (λ p x h. none p x (from p x apart h).0)
      by apart (inr (inr other)) = elim (cases_eq m n) [
        | inl same ↦ inl (λ p x h. (from p x apart h).1 (ap (OfJob q.job) same))
        | inr differ ↦ inr (
          other.0,
          subst (HoldsLive (view_of graph regions state (recoloured_by (renames q.job n kept) colours))
              q other.0) (renames_no_number q.job n q.job m kept differ)
              (held_to graph regions state colours heres (renames q.job n kept) q other.0
              (OfJob q.job m) other.1),
          other.2,
        )
      ]

-- ---- several colours become one
pub unites_all : (graph : Graph) (regions : Spot → Option Regions) (state : State)
    (q : Spot) (y : Element) (kept : Colour) (ns : List ℕ) (colours : Colours)
    → ((p : Spot) → IsFrame (view_of graph regions state colours) p → HasHere colours p)
    → IsTop (view_of graph regions state colours) q
    → HoldsLive (view_of graph regions state colours) q y kept
    → ((n : ℕ) → Contains ns n → MayUnite (view_of graph regions state colours) q y kept n)
    → IsSound (view_of graph regions state colours)
    → IsSound (view_of graph regions state (united q.job ns kept colours))
unites_all graph regions state q y kept [] colours heres top holds may sound = sound
unites_all graph regions state q y kept (n ∷ ns) colours heres top holds may sound =
    unites_all graph regions state q y kept ns (recoloured_by (renames q.job n kept) colours)
    (λ p is. here_later graph regions state colours heres (renames q.job n kept) p (heres p is)) top
    (kept_stays graph regions state colours heres q y kept n holds)
    (λ m has. still_unites graph regions state colours heres q y kept n m
    (may m (suc has.0, omega (arith, has.1), has.2)))
    (unites_one graph regions state colours heres q y kept n top holds (may n (0, omega arith, refl))
    sound)

-- ---- colours that nothing live holds become one, whose it may be
pub hands_over : (graph : Graph) (regions : Spot → Option Regions) (state : State) (job : ℕ)
    (kept : Colour) (ns : List ℕ) (colours : Colours)
    → ((p : Spot) → IsFrame (view_of graph regions state colours) p → HasHere colours p)
    → ((n : ℕ) → Contains ns n → IsUnheld (view_of graph regions state colours) (OfJob job n))
    → IsSound (view_of graph regions state colours)
    → IsSound (view_of graph regions state (united job ns kept colours))
hands_over graph regions state job kept [] colours heres none sound = sound
hands_over graph regions state job kept (n ∷ ns) colours heres none sound =
    hands_over graph regions state job kept ns (recoloured_by (renames job n kept) colours)
    (λ p is. here_later graph regions state colours heres (renames job n kept) p (heres p is))
    (λ m has. still m (none m (suc has.0, omega (arith, has.1), has.2)))
    (unheld (view_of graph regions state colours)
    (view_of graph regions state (recoloured_by (renames job n kept) colours)) job n kept sound
    (none n (0, omega arith, refl)) (recoloured graph regions state colours heres job n kept))
  where
    still : (m : ℕ) → IsUnheld (view_of graph regions state colours) (OfJob job m)
        → IsUnheld (view_of graph regions state (recoloured_by (renames job n kept) colours))
        (OfJob job m)
    still m free p x h =
        let found = held_from graph regions state colours heres (renames job n kept) p x
        (OfJob job m) h in
        elim (becomes job n kept found.0) [
          | inl both ↦ none n (0, omega arith, refl) p x
              (subst (HoldsLive (view_of graph regions state colours) p x) both.0 found.1)
          | inr other ↦ free p x (subst (HoldsLive (view_of graph regions state colours) p x)
              (sym other.1 ∙ found.2) found.1)
        ]
