-- What a failing test says of a state.
use Rattle.std.proofs.Common.{◌≡◌, ℕ, ◌<◌, ◌⊎◌, inl, inr, ◌↔◌, Option, Some, None, IsSome, length}
use Rattle.std.proofs.Common.{Bool, true, false, IsTrue, sym, ap, ◌∙◌, arith}
use Rattle.std.proofs.lemmas.Bool.{cases_eq, both_ways}
use Rattle.std.specs.Prelude.{slice_index}
use Rattle.sw_breach.specs.declared.Breach.{Breach}
use Rattle.sw_partition.specs.Effects.{IsFree, IsLeastSite}
use Rattle.sw_partition.specs.Regions.{Regions, Together, HasSomePair}
use Rattle.sw_region_flow.specs.Walks.{IsGivenAway, IsNotFree}
use Rattle.sw_breach.specs.declared.codes.TheConstants.{GIVEN_AWAY}

pub given_none : (x at : ℕ) (r : Regions) → (HasSomePair r x → ⊥) → (b : Breach)
    → (None ≡ Some b) ↔ IsGivenAway x at r b
given_none x at r none b = (λ e. cc, λ g. absurd (none (g.site, g.least.there)))

pub given_some : (x at : ℕ) (r : Regions) (site : ℕ) → IsLeastSite r x site → (b : Breach)
    → (Some (record { code = GIVEN_AWAY; at = at; note = Some site }) ≡ Some b)
    ↔ IsGivenAway x at r b
given_some x at r site least b = (
  λ e. record { site = site; least = least; is = inside _ _ (sym e) },
  λ g. let one : site ≡ g.site =
      omega (arith, least.least g.site g.least.there, g.least.least site least.there) in
      ap (λ s. Some (record { code = GIVEN_AWAY; at = at; note = Some s })) one
      ∙ ap Some (sym g.is),
)
  where
    inside : (c d : Breach) → Some c ≡ Some d → c ≡ d
    inside c d e = cc

pub free_none : (x at code : ℕ) (r : Regions) → IsFree r x → (b : Breach)
    → (None ≡ Some b) ↔ IsNotFree x at code r b
free_none x at code r free b = (λ e. cc, λ wrong. absurd (free.1 wrong.is_here))

-- where an element isn't free and has no pair, it is with `Here`
here : (x : ℕ) (r : Regions) → x < length r.labels → (IsFree r x → ⊥) → (HasSomePair r x → ⊥)
    → Together r x 0
here x r within not_free none = elim (cases_eq (slice_index r.labels x) (slice_index r.labels 0)) [
  | inl e ↦ record { left = within; right = omega arith; same = e }
  | inr apart ↦ absurd (not_free (none, λ together. apart together.same))
]

pub free_some : (x at code : ℕ) (r : Regions) → x < length r.labels → (IsFree r x → ⊥)
    → (HasSomePair r x → ⊥) → (b : Breach)
    → (Some (record { code = code; at = at; note = None }) ≡ Some b) ↔ IsNotFree x at code r b
free_some x at code r within not_free none b = (
  λ e. record {
    not_given = none;
    is_here = here x r within not_free none;
    is = inside _ _ (sym e);
  },
  λ wrong. ap Some (sym wrong.is),
)
  where
    inside : (c d : Breach) → Some c ≡ Some d → c ≡ d
    inside c d e = cc

-- an element that was given away is given away, and isn't tested further
pub either_given : (x at code : ℕ) (r : Regions) (o : Option Breach) (first : Breach)
    → o ≡ Some first → ((b : Breach) → (o ≡ Some b) ↔ IsGivenAway x at r b) → (b : Breach)
    → (Some first ≡ Some b) ↔ (IsGivenAway x at r b ⊎ IsNotFree x at code r b)
either_given x at code r o first is given b = (
  λ e. inl ((given b).0 (is ∙ e)),
  λ wrong. back wrong,
)
  where
    back : IsGivenAway x at r b ⊎ IsNotFree x at code r b → Some first ≡ Some b
    back (inl g) = sym is ∙ (given b).1 g
    back (inr wrong) = let g = (given first).0 is in
        absurd (wrong.not_given (g.site, g.least.there))

pub either_free : (x at code : ℕ) (r : Regions) (o : Option Breach) → (HasSomePair r x → ⊥)
    → ((b : Breach) → (o ≡ Some b) ↔ IsNotFree x at code r b) → (b : Breach)
    → (o ≡ Some b) ↔ (IsGivenAway x at r b ⊎ IsNotFree x at code r b)
either_free x at code r o none free b = (λ e. inr ((free b).0 e), λ wrong. back wrong)
  where
    back : IsGivenAway x at r b ⊎ IsNotFree x at code r b → o ≡ Some b
    back (inl g) = absurd (none (g.site, g.least.there))
    back (inr wrong) = (free b).1 wrong

-- what an answer decides
pub none_has : (X P : Type 0) → IsSome {T = X} None ↔ P → P → ⊥
none_has X P tells has = let e : false ≡ true = tells.1 has in cc

pub is_true : (answer : Bool) (P : Type 0) → answer ≡ true → IsTrue answer ↔ P → P
is_true answer P e tells = tells.0 e

pub not_true : (answer : Bool) (P : Type 0) → answer ≡ false → IsTrue answer ↔ P → P → ⊥
not_true answer P e tells has = both_ways answer e (tells.1 has)
