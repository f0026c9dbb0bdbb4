-- Lists of merges with actors' colours may wait.
use Rattle.std.proofs.Common.{◌≡◌, ℕ, ◌<◌, ◌≤◌, arith, refl, ap, sym, ◌∙◌, Bool, true, false}
use Rattle.std.proofs.Common.{cond, Some, None, List, [], ◌∷◌, ◌++◌, map}
use Rattle.std.specs.Prelude.{filter, not}
use Rattle.std.specs.List.{All}
use Rattle.std.proofs.lemmas.List.Elements.{All-head, All-tail, All-weaker}
use Rattle.sw_color_rules.specs.Changes.{Change, Merge, HandOver}
use Rattle.sw_color_rules.specs.Ranges.{AreBelow}
use Rattle.sw_late_facts.specs.Late.{Cargo, delivery, deliveries, is_of, is_left, givings}
use Rattle.sw_late_facts.proofs.Handing.{IsSight, is_named, handing_lost}
use Rattle.sw_late_facts.proofs.Seen.{Jobs, job_united, job_handed, none_wins, see, seen, see_in}
use Rattle.sw_late_facts.proofs.Seen.{see_sight, see_count, see_top, see_link, IsActors, IsLink, link_waits}

-- ---- lists of changes
pub seen_both : (cs ds : List Change) (s : Jobs) → seen (cs ++ ds) s ≡ seen ds (seen cs s)
seen_both [] ds s = refl
seen_both (c ∷ cs) ds s = seen_both cs ds (see c s)

pub seen_sight : (cs : List Change) (s : Jobs) → IsSight s → IsSight (seen cs s)
seen_sight [] s is = is
seen_sight (c ∷ cs) s is = seen_sight cs (see c s) (see_sight c s is)

pub seen_count : (cs : List Change) (s : Jobs) → s.count ≤ (seen cs s).count
seen_count [] s = omega arith
seen_count (c ∷ cs) s = omega (arith, see_count c s, seen_count cs (see c s))

pub seen_top : (cs : List Change) (s : Jobs) → IsSight s → (h : ℕ) → IsActors s h
    → IsActors (seen cs s) h
seen_top [] s is h top = top
seen_top (c ∷ cs) s is h top = seen_top cs (see c s) (see_sight c s is) h (see_top c s is h top)

-- ---- what waits
pub data AreLinks (s : Jobs) : List Change → Type 0 where
  NoLinks : AreLinks s []
  Link : (h x : ℕ) (cs : List Change) → IsLink s h x → AreLinks s cs → AreLinks s (Merge h x ∷ cs)

pub links_stay : (c : Change) (s : Jobs) → IsSight s → (ds : List Change) → AreLinks s ds
    → AreLinks (see c s) ds
links_stay c s is _ NoLinks = NoLinks
links_stay c s is _ (Link h x ds link rest) =
    Link h x ds (see_link c s is h x link) (links_stay c s is ds rest)

first_link : (s : Jobs) (h x : ℕ) (ds : List Change) → AreLinks s (Merge h x ∷ ds)
    → IsLink s h x × AreLinks s ds
first_link s h x ds (Link _ _ _ link rest) = (link, rest)

pub links_wait : (c : Change) (ds : List Change) (s : Jobs) → IsSight s → AreLinks s ds
    → seen ds (see c s) ≡ see c (seen ds s)
links_wait c [] s is links = refl
links_wait c (Merge h x ∷ ds) s is links =
    let both = first_link s h x ds links in
    ap (seen ds) (link_waits c s is h x both.0)
    ∙ links_wait c ds (see (Merge h x) s) (see_sight (Merge h x) s is)
    (links_stay (Merge h x) s is ds both.1)
links_wait c (_ ∷ ds) s is links = elim links [ ]

pub links_wait_all : (cs ds : List Change) (s : Jobs) → IsSight s → AreLinks s ds
    → seen ds (seen cs s) ≡ seen cs (seen ds s)
links_wait_all [] ds s is links = refl
links_wait_all (c ∷ cs) ds s is links =
    links_wait_all cs ds (see c s) (see_sight c s is) (links_stay c s is ds links)
    ∙ ap (seen cs) (links_wait c ds s is links)

-- ---- what jobs take to actors
pub record IsSent (s : Jobs) (cargo : Cargo) : Type 0 where
  pub actor : IsActors s cargo.actor
  pub inside : AreBelow s.count cargo.colors

pub sent_stays : (cs : List Change) (s : Jobs) → IsSight s → (cargo : Cargo) → IsSent s cargo
    → IsSent (seen cs s) cargo
sent_stays cs s is cargo sent = record {
  actor = seen_top cs s is cargo.actor sent.actor;
  inside = All-weaker (λ n. n < s.count) (λ n. n < (seen cs s).count)
      (λ n below. omega (arith, seen_count cs s, below)) cargo.colors sent.inside;
}

colors_link : (s : Jobs) (h : ℕ) → IsActors s h → (ns : List ℕ) → AreBelow s.count ns
    → (ds : List Change) → AreLinks s ds → AreLinks s (map (Merge h) ns ++ ds)
colors_link s h top [] below ds links = links
colors_link s h top (n ∷ ns) below ds links =
    Link h n (map (Merge h) ns ++ ds)
    (record { actor = top; inside = All-head (λ m. m < s.count) n ns below })
    (colors_link s h top ns (All-tail (λ m. m < s.count) n ns below) ds links)

some_link : (s : Jobs) (h : ℕ) → IsActors s h → (ns : List ℕ) → AreBelow s.count ns
    → AreLinks s (map (Merge h) ns)
some_link s h top [] below = NoLinks
some_link s h top (n ∷ ns) below =
    Link h n (map (Merge h) ns)
    (record { actor = top; inside = All-head (λ m. m < s.count) n ns below })
    (some_link s h top ns (All-tail (λ m. m < s.count) n ns below))

pub cargo_links : (s : Jobs) (cargo : List Cargo) → All (IsSent s) cargo → AreLinks s (deliveries cargo)
cargo_links s [] all = NoLinks
cargo_links s (c ∷ cs) all =
    let sent = All-head (IsSent s) c cs all in
    colors_link s c.actor sent.actor c.colors sent.inside (deliveries cs)
    (cargo_links s cs (All-tail (IsSent s) c cs all))

-- what one job takes may be delivered before the rest
pub first_delivered : (job : ℕ) (cargo : List Cargo) (s : Jobs) → IsSight s → All (IsSent s) cargo
    → seen (deliveries cargo) s
    ≡ seen (deliveries (filter (is_left job) cargo)) (seen (deliveries (filter (is_of job) cargo)) s)
first_delivered job [] s is all = refl
first_delivered job (c ∷ cs) s is all =
    by (is_of job c) (first_delivered job cs next (seen_sight (delivery c) s is)
    (All-weaker (IsSent s) (IsSent next) (sent_stays (delivery c) s is) cs
    (All-tail (IsSent s) c cs all))) where
      left : List Change
      left = deliveries (filter (is_left job) cs)

      own : List Change
      own = deliveries (filter (is_of job) cs)

      next : Jobs
      next = seen (delivery c) s

      sent : IsSent s c
      sent = All-head (IsSent s) c cs all

      by : (b : Bool) → seen (deliveries cs) next ≡ seen left (seen own next)
          → seen (delivery c ++ deliveries cs) s
          ≡ seen (deliveries (cond (not b) (c ∷ filter (is_left job) cs) (filter (is_left job) cs)))
          (seen (deliveries (cond b (c ∷ filter (is_of job) cs) (filter (is_of job) cs))) s)
      by true rest =
          seen_both (delivery c) (deliveries cs) s ∙ rest
          ∙ ap (seen left) (sym (seen_both (delivery c) own s))
      by false rest =
          seen_both (delivery c) (deliveries cs) s ∙ rest
          ∙ ap (seen left) (sym (links_wait_all own (delivery c) s is
          (some_link s c.actor sent.actor c.colors sent.inside)))
          ∙ sym (seen_both (delivery c) left (seen own s))

-- ---- what a task takes
-- What is handed over to a job and then merges with an actor's colour: it might as well not have
-- been handed over.
pub givings_lost : (h j : ℕ) (ns : List ℕ) (s : Jobs) → IsSight s → IsActors s h
    → AreBelow s.count ns
    → seen (map (Merge h) ns) (seen (givings (Some j) ns) s) ≡ seen (map (Merge h) ns) s
givings_lost h j [] s is top below = refl
givings_lost h j (n ∷ ns) s is top below =
    -- the merge of the first one goes before what is handed over after it
    ap (seen (map (Merge h) ns))
    (links_wait_all (givings (Some j) ns) (Merge h n ∷ []) (see (HandOver n j) s)
    (see_sight (HandOver n j) s is)
    (Link h n [] (see_link (HandOver n j) s is h n link) NoLinks))
    ∙ ap (λ t. seen (map (Merge h) ns) (seen (givings (Some j) ns) t)) lost
    ∙ givings_lost h j ns (see (Merge h n) s) (see_sight (Merge h n) s is)
    (see_top (Merge h n) s is h top)
    (All-weaker (λ m. m < s.count) (λ m. m < (see (Merge h n) s).count)
    (λ m inside. omega (arith, see_count (Merge h n) s, inside)) ns
    (All-tail (λ m. m < s.count) n ns below))
  where
    link : IsLink s h n
    link = record { actor = top; inside = All-head (λ m. m < s.count) n ns below }

    lost : see (Merge h n) (see (HandOver n j) s) ≡ see (Merge h n) s
    lost =
        see_in h n (see (HandOver n j) s) top.inside link.inside
        ∙ handing_lost job_united job_handed None (λ o. refl) none_wins (λ k. refl) h n s
        (is_named s is) top.none j
        ∙ sym (see_in h n s top.inside link.inside)
