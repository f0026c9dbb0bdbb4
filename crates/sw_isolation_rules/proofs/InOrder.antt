-- Sorting and leaving out doubles gives the breaches in order, each once.
use Rattle.std.proofs.Common.{◌≡◌, Bool, true, false, ◌&&◌, List, nat_eq, nat_cmp, refl}
use Rattle.std.proofs.Common.{sym, ap, ◌∙◌, IsPermutation}
use Rattle.std.proofs.lemmas.Bool.{eqb-true, false≢true}
use Rattle.std.proofs.lemmas.Cmp.{then_total, on_total, nat_cmp_total, and_equiv, on_equiv}
use Rattle.std.proofs.lemmas.Cmp.{nat_eq_equiv}
use Rattle.std.proofs.lemmas.List.Kept.{Contains-dedup, Contains-from_dedup}
use Rattle.std.proofs.lemmas.List.Kept.{IsStrictlySortedBy-dedup}
use Rattle.std.proofs.lemmas.List.Sorted.{Contains-permutation, IsPermutation-sym}
use Rattle.std.specs.Cmp.{unsigned_tied, IsTotalOrder, IsEquivalence}
use Rattle.std.specs.List.{dedup}
use Rattle.std.specs.List.Sorted.{IsSorted}
use Rattle.std.specs.Ordering.{eq_by_cmp, is_eq, ordering_then}
use Rattle.std.specs.declared.cmp.Ordering.{Ordering}
use Rattle.std.specs.declared.cmp.Ordering.TheVariants.{Less, Equal, Greater}
use Rattle.sw_decl_words.specs.Placed.{placed_cmp}
use Rattle.sw_decl_words.specs.declared.placed.Placed.{Placed}
use Rattle.sw_isolation_rules.specs.Races.{IsMerged}

abbrev pub same : Placed → Placed → Bool
same x y = nat_eq x.at y.at && nat_eq x.code y.code

in_total : IsTotalOrder placed_cmp
in_total =
    then_total (on_total (λ (p : Placed). p.at) nat_cmp_total)
    (on_total (λ (p : Placed). p.code) nat_cmp_total)

are_equal : IsEquivalence same
are_equal =
    and_equiv (on_equiv (λ (p : Placed). p.at) nat_eq_equiv)
    (on_equiv (λ (p : Placed). p.code) nat_eq_equiv)

tied : (a b : Ordering) → is_eq (ordering_then a b) ≡ (is_eq a && is_eq b)
tied Less b = refl
tied Equal b = refl
tied Greater b = refl

ties : (x y : Placed) → same x y ≡ eq_by_cmp placed_cmp x y
ties x y =
    ap (λ b. b && nat_eq x.code y.code) (sym (unsigned_tied x.at y.at))
    ∙ (ap (λ b. is_eq (nat_cmp x.at y.at) && b) (sym (unsigned_tied x.code y.code))
    ∙ sym (tied (nat_cmp x.at y.at) (nat_cmp x.code y.code)))

both : (a b : Bool) → (a && b) ≡ true → (a ≡ true) × (b ≡ true)
both true b is = (refl, is)
both false b is = absurd (false≢true is)

one : (x y : Placed) → same x y ≡ true → x ≡ y
one x y is =
    let parts = both (nat_eq x.at y.at) (nat_eq x.code y.code) is in
    let at = eqb-true x.at y.at parts.0 in
    let code = eqb-true x.code y.code parts.1 in
    λ i. record { at = at i; code = code i }

pub in_order : (all sorted : List Placed) → IsPermutation all sorted → IsSorted placed_cmp sorted
    → IsMerged all (dedup same sorted)
in_order all sorted moved up = record {
  rises = IsStrictlySortedBy-dedup in_total ties sorted up;
  from = λ p has. Contains-permutation sorted all p (IsPermutation-sym all sorted moved)
      (Contains-from_dedup same sorted p has);
  covers = λ p has. Contains-dedup are_equal one sorted p
      (Contains-permutation all sorted p moved has);
}
