-- Elements that are given away: what has a pair afterwards.
use Rattle.std.proofs.Common.{◌≡◌, ◌≢◌, ℕ, zero, suc, ◌<◌, List, [], ◌∷◌, length, Contains, refl}
use Rattle.std.proofs.Common.{sym, subst, inl, inr, ap, Some, slice_get, slice_index}
use Rattle.sw_list.proofs.ListLemmas.{some_injective}
use Rattle.sw_list.proofs.Members.{none_in, first_or_later, member_at}
use Rattle.sw_partition.specs.Effects.{IsGiven, IsFree}
use Rattle.sw_partition.specs.Regions.{Regions, Together, HasPair}
use Rattle.sw_region_ops.specs.Groups.{give_each, send_each, part_with, free_each}
use Rattle.sw_region_ops.specs.declared.marks.Mark.{Mark}
use Rattle.sw_region_ops.specs.declared.op.Op.TheVariants.{Free, Give}
use Rattle.sw_region_facts.proofs.Doing.{Done, done_rest, parts, freed}
use Rattle.sw_region_facts.proofs.Joining.{Grown, grown_itself, grown_on, together_sym}

-- What is with one of the marks, except for `Here`, has a pair afterwards.
pub record Given (marks : List Mark) (a b : Regions) : Type 0 where
  pub grown : Grown a b
  pub gone : (mark : Mark) → Contains marks mark → (p : ℕ) → p ≢ 0 → Together a p mark.x
      → (site : ℕ) × HasPair b p site

given_none : (a : Regions) → Given [] a a
given_none a = record { grown = grown_itself a; gone = λ mark has. absurd (none_in mark has) }

given_grows : (x site : ℕ) (a b : Regions) → IsGiven x site a b → Grown a b
given_grows x site a b given = record {
  within = record {
    together = λ p q t. (given.together p q).1 t;
    pairs = λ p s has. (given.pairs p s).1 (inl has);
  };
  sized = given.elements_same;
}

-- one is given away, then others are
given_more : (first : Mark) (marks : List Mark) (site : ℕ) (a m b : Regions)
    → IsGiven first.x site a m → Given marks m b → Given (first ∷ marks) a b
given_more first marks site a m b step rest = record {
  grown = grown_on a m b (given_grows first.x site a m step) rest.grown;
  gone = λ mark has p nonzero t. elim (first_or_later first marks mark has) [
    | inl is ↦ (
      site,
      rest.grown.within.pairs p site ((step.pairs p site).1
          (inr (refl, nonzero, subst (λ n. Together a p n.x) (sym is) t))),
    )
    | inr there ↦ rest.gone mark there p nonzero ((step.together p mark.x).1 t)
  ];
}

given_each : (site : ℕ) (marks : List Mark) (a b : Regions) → Done (give_each site marks) a b
    → Given marks a b
given_each site [] a b done = subst (Given [] a) (sym done.runs) (given_none a)
given_each site (first ∷ marks) a b done =
    given_more first marks site a done.runs.0 b done.runs.1
    (given_each site marks done.runs.0 b (done_rest (Give first.x site) (give_each site marks) a b done))

-- Each of the marks was free, and they are given away.
pub record Parted (marks : List Mark) (a b : Regions) : Type 0 where
  pub free : (mark : Mark) → Contains marks mark → IsFree a mark.x
  pub given : Given marks a b

-- all at once, as the arguments of a strong call are
pub parted : (code site : ℕ) (marks : List Mark) (a b : Regions)
    → Done (part_with code site marks) a b → Parted marks a b
parted code site marks a b done =
    let halves = parts (free_each code marks) (give_each site marks) a b done in
    let free = freed code marks a halves.between halves.before in
    record {
      free = free.1;
      given = given_each site marks a b
          (subst (λ m. Done (give_each site marks) m b) free.0 halves.after);
    }

-- They are given away one after the other, so that no two of them were together.
pub record PartedEach (marks : List Mark) (a b : Regions) : Type 0 where
  pub parted : Parted marks a b
  pub apart : (i j : ℕ) (one other : Mark) → slice_get marks i ≡ Some one
      → slice_get marks j ≡ Some other → i ≢ j → Together a one.x other.x → ⊥

free_before : (x : ℕ) (a b : Regions) → Grown a b → IsFree b x → IsFree a x
free_before x a b grown free = (
  λ pair. free.0 (pair.0, grown.within.pairs x pair.0 pair.1),
  λ t. free.1 (grown.within.together x 0 t),
)

-- what is free isn't `Here`
not_here : (x y : ℕ) (a : Regions) → IsFree a x → Together a x y → x ≢ 0
not_here x y a free t is = free.1 (record {
  left = t.left;
  right = subst (λ n. n < length a.labels) is t.left;
  same = ap (slice_index a.labels) is;
})

pub parted_each : (code site : ℕ) (marks : List Mark) (a b : Regions)
    → Done (send_each code site marks) a b → PartedEach marks a b
parted_each code site [] a b done = subst (PartedEach [] a) (sym done.runs) (record {
  parted = record { free = λ mark has. absurd (none_in mark has); given = given_none a };
  apart = λ i j one other at. absurd (none_in one (member_at [] i one at));
})
parted_each code site (first ∷ marks) a b done =
    let test = done_rest (Free first.x first.at code) (Give first.x site ∷ send_each code site marks) a
    b done in
    let again : Done (Give first.x site ∷ send_each code site marks) a b =
    subst (λ m. Done (Give first.x site ∷ send_each code site marks) m b) done.runs.1 test in
    let m = again.runs.0 in
    let rest = parted_each code site marks m b
    (done_rest (Give first.x site) (send_each code site marks) a b again) in
    step m again.runs.1 rest done.passes.0
  where
    step : (m : Regions) → IsGiven first.x site a m → PartedEach marks m b → IsFree a first.x
        → PartedEach (first ∷ marks) a b
    step m given rest free = record {
      parted = record {
        free = λ mark has. elim (first_or_later first marks mark has) [
          | inl is ↦ subst (λ n. IsFree a n.x) is free
          | inr there ↦ free_before mark.x a m (given_grows first.x site a m given)
              (rest.parted.free mark there)
        ];
        given = given_more first marks site a m b given rest.parted.given;
      };
      apart = differs;
    }
      where
        -- what is with the first has a pair, and is not free
        clash : (other : Mark) → Contains marks other → Together a other.x first.x → ⊥
        clash other has t =
            let other_free = rest.parted.free other has in
            let earlier = free_before other.x a m (given_grows first.x site a m given) other_free in
            other_free.0 (
              site,
              (given.pairs other.x site).1
                  (inr (refl, not_here other.x first.x a earlier t, t)),
            )

        differs : (i j : ℕ) (one other : Mark) → slice_get (first ∷ marks) i ≡ Some one
            → slice_get (first ∷ marks) j ≡ Some other → i ≢ j → Together a one.x other.x → ⊥
        differs zero zero one other at there differ t = differ refl
        differs zero (suc j) one other at there differ t =
            let is : first ≡ one = some_injective at in
            clash other (member_at marks j other there)
            (together_sym a first.x other.x (subst (λ n. Together a n.x other.x) (sym is) t))
        differs (suc i) zero one other at there differ t =
            let is : first ≡ other = some_injective there in
            clash one (member_at marks i one at) (subst (λ n. Together a one.x n.x) (sym is) t)
        differs (suc i) (suc j) one other at there differ t =
            rest.apart i j one other at there (λ same. differ (ap suc same))
            ((given.together one.x other.x).1 t)
