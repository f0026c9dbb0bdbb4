-- A task that begins on no actor: what it takes may be handed over before it merges, or after.
use Rattle.std.proofs.Common.{◌≡◌, ◌⊎◌, ℕ, ◌<◌, arith, refl, ap, sym, ◌∙◌, inl, inr, Option, Some, None}
use Rattle.std.proofs.Common.{List, [], ◌∷◌, map}
use Rattle.std.proofs.lemmas.List.Elements.{All-head, All-tail, All-weaker}
use Rattle.sw_color_rules.specs.Changes.{Change, Merge, HandOver}
use Rattle.sw_color_rules.specs.Ranges.{AreBelow}
use Rattle.sw_late_facts.specs.Late.{givings}
use Rattle.sw_late_facts.proofs.Sights.{owner_met, met_first}
use Rattle.sw_late_facts.proofs.Handing.{IsSight, is_named, handing_none}
use Rattle.sw_late_facts.proofs.Seen.{Jobs, job_united, job_handed, none_wins, see, seen, see_in, see_sight}
use Rattle.sw_late_facts.proofs.Seen.{see_count, IsActors}
use Rattle.sw_late_facts.proofs.Links.{seen_top, seen_sight, givings_lost}
use Rattle.sw_late_facts.proofs.Tasks.{hands, IsOwn, met_own, own_kept, handed_there, own_stays}
use Rattle.sw_late_facts.proofs.Tasks.{own_commutes, first_handed, last_handed}

-- all that is below a count is below what it grows to
pub still_below : (c : Change) (s : Jobs) (ns : List ℕ) → AreBelow s.count ns
    → AreBelow (see c s).count ns
still_below c s ns below =
    All-weaker (λ m. m < s.count) (λ m. m < (see c s).count)
    (λ m inside. omega (arith, see_count c s, inside)) ns below

-- handing the first colour over before the merges too changes nothing
handed_twice : (n j : ℕ) (ns : List ℕ) (s : Jobs) → IsSight s → n < s.count → AreBelow s.count ns
    → see (HandOver n j) (seen (map (Merge n) ns) (see (HandOver n j) s))
    ≡ see (HandOver n j) (seen (map (Merge n) ns) s)
handed_twice n j [] s is inside below =
    own_stays (hands n j s) (is_named (hands n j s) (see_sight (HandOver n j) s is)) n j own where
      twice : (o : Option ℕ) → job_handed j (job_handed j o) ≡ job_handed j o
      twice None = refl
      twice (Some i) = refl

      own : IsOwn j ((hands n j s).owner n)
      own = ap (job_handed j) (handed_there s (is_named s is) n j n refl) ∙ twice (s.owner n)
          ∙ sym (handed_there s (is_named s is) n j n refl)
handed_twice n j (x ∷ xs) s is inside below =
    sym (handed_twice n j xs first first_is first_in first_below)
    ∙ ap (λ t. see (HandOver n j) (seen (map (Merge n) xs) t)) same
    ∙ handed_twice n j xs second second_is second_in second_below
  where
    x_in : x < s.count
    x_in = All-head (λ m. m < s.count) x xs below

    first : Jobs
    first = see (Merge n x) (see (HandOver n j) s)

    second : Jobs
    second = see (Merge n x) s

    first_is : IsSight first
    first_is = see_sight (Merge n x) (see (HandOver n j) s) (see_sight (HandOver n j) s is)

    second_is : IsSight second
    second_is = see_sight (Merge n x) s is

    first_in : n < first.count
    first_in = omega (arith, see_count (Merge n x) (see (HandOver n j) s), inside)

    second_in : n < second.count
    second_in = omega (arith, see_count (Merge n x) s, inside)

    first_below : AreBelow first.count xs
    first_below = still_below (Merge n x) (see (HandOver n j) s) xs
        (All-tail (λ m. m < s.count) x xs below)

    second_below : AreBelow second.count xs
    second_below = still_below (Merge n x) s xs (All-tail (λ m. m < s.count) x xs below)

    same : see (HandOver n j) first ≡ see (HandOver n j) second
    same =
        ap (hands n j) (see_in n x (hands n j s) inside x_in)
        ∙ last_handed s (is_named s is) n x j
        ∙ ap (hands n j) (sym (see_in n x s inside x_in))

-- what is handed over may wait for a merge of colours of the job
givings_wait : (n x j : ℕ) (ns : List ℕ) (s : Jobs) → IsSight s → n < s.count → x < s.count
    → IsOwn j (s.owner n) → IsOwn j (s.owner x)
    → see (Merge n x) (seen (givings (Some j) ns) s) ≡ seen (givings (Some j) ns) (see (Merge n x) s)
givings_wait n x j [] s is n_in x_in own_n own_x = refl
givings_wait n x j (y ∷ ys) s is n_in x_in own_n own_x =
    givings_wait n x j ys (hands y j s) (see_sight (HandOver y j) s is) n_in x_in
    (ap (job_handed j) (own_kept s (is_named s is) y j n own_n) ∙ own_n
    ∙ sym (own_kept s (is_named s is) y j n own_n))
    (ap (job_handed j) (own_kept s (is_named s is) y j x own_x) ∙ own_x
    ∙ sym (own_kept s (is_named s is) y j x own_x))
    ∙ ap (seen (givings (Some j) ys))
    (see_in n x (hands y j s) n_in x_in
    ∙ own_commutes s (is_named s is) n x y j own_n own_x
    ∙ ap (hands y j) (sym (see_in n x s n_in x_in)))

pub taken_first : (n j : ℕ) (ns : List ℕ) (s : Jobs) → IsSight s → n < s.count → AreBelow s.count ns
    → (s.owner n ≡ Some j) ⊎ (s.owner n ≡ None)
    → seen (map (Merge n) ns) (seen (givings (Some j) ns) s)
    ≡ see (HandOver n j) (seen (map (Merge n) ns) s)
taken_first n j ns s is inside below (inr none) =
    givings_lost n j ns s is top below
    ∙ sym (handing_none job_united job_handed None (λ o. refl) none_wins (λ k. refl) n j
    (seen (map (Merge n) ns) s) (is_named (seen (map (Merge n) ns) s) (seen_sight (map (Merge n) ns) s is))
    (seen_top (map (Merge n) ns) s is n top).none)
  where
    top : IsActors s n
    top = record { inside = inside; none = none }
taken_first n j [] s is inside below (inl own) =
    sym (own_stays s (is_named s is) n j (ap (job_handed j) own ∙ sym own))
taken_first n j (x ∷ xs) s is inside below (inl own) =
    ap (seen (map (Merge n) xs))
    (givings_wait n x j xs (hands x j s) (see_sight (HandOver x j) s is) inside x_in own_first own_x)
    ∙ taken_first n j xs (see (Merge n x) (hands x j s))
    (see_sight (Merge n x) (hands x j s) (see_sight (HandOver x j) s is))
    (omega (arith, see_count (Merge n x) (hands x j s), inside))
    (still_below (Merge n x) (hands x j s) xs (All-tail (λ m. m < s.count) x xs below))
    owner_next
    ∙ ap (λ t. see (HandOver n j) (seen (map (Merge n) xs) t)) moved
    ∙ handed_twice n j xs (see (Merge n x) s) (see_sight (Merge n x) s is)
    (omega (arith, see_count (Merge n x) s, inside))
    (still_below (Merge n x) s xs (All-tail (λ m. m < s.count) x xs below))
  where
    x_in : x < s.count
    x_in = All-head (λ m. m < s.count) x xs below

    own_n : IsOwn j (s.owner n)
    own_n = ap (job_handed j) own ∙ sym own

    kept : (hands x j s).owner n ≡ s.owner n
    kept = own_kept s (is_named s is) x j n own_n

    own_first : IsOwn j ((hands x j s).owner n)
    own_first = ap (job_handed j) kept ∙ own_n ∙ sym kept

    twice : (o : Option ℕ) → job_handed j (job_handed j o) ≡ job_handed j o
    twice None = refl
    twice (Some i) = refl

    own_x : IsOwn j ((hands x j s).owner x)
    own_x = ap (job_handed j) (handed_there s (is_named s is) x j x refl) ∙ twice (s.owner x)
        ∙ sym (handed_there s (is_named s is) x j x refl)

    one_or_none : (o : Option ℕ) → IsOwn j o → (o ≡ Some j) ⊎ (o ≡ None)
    one_or_none None e = inr refl
    one_or_none (Some i) e = inl (sym e)

    owner_next : ((see (Merge n x) (hands x j s)).owner n ≡ Some j)
        ⊎ ((see (Merge n x) (hands x j s)).owner n ≡ None)
    owner_next = one_or_none ((see (Merge n x) (hands x j s)).owner n)
        (let is_met : (see (Merge n x) (hands x j s)).owner n
        ≡ owner_met job_united (s.name n) (s.name x) ((hands x j s).owner n) ((hands x j s).owner x) =
        ap (λ (t : Jobs). t.owner n) (see_in n x (hands x j s) inside x_in)
        ∙ met_first job_united n x (hands x j s) n refl in
        ap (job_handed j) is_met
        ∙ met_own j (s.name n) (s.name x) ((hands x j s).owner n) ((hands x j s).owner x) own_first own_x
        ∙ sym is_met)

    moved : see (Merge n x) (hands x j s) ≡ hands n j (see (Merge n x) s)
    moved = see_in n x (hands x j s) inside x_in
        ∙ first_handed s (is_named s is) n x j own
        ∙ ap (hands n j) (sym (see_in n x s inside x_in))
