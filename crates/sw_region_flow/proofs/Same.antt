-- What operations make of copies of a state are copies, and the same tests fail.
use Rattle.std.proofs.Common.{ℕ, ◌⊎◌, inl, inr, ◌↔◌, List, [], ◌∷◌, ◌++◌, refl, sym, subst, ◌∙◌}
use Rattle.sw_breach.specs.declared.Breach.{Breach}
use Rattle.sw_partition.specs.Laws.{within_both, within_trans, same_within, same_refl}
use Rattle.sw_partition.specs.Regions.{Regions, IsWithin}
use Rattle.sw_region_flow.specs.Walks.{IsCopy, IsGivenAway, IsNotFree, TestFails, FailsAmong}
use Rattle.sw_region_ops.proofs.RunLemmas.{runs_size, runs_monotone}
use Rattle.sw_region_ops.specs.Runs.{Runs}
use Rattle.sw_region_ops.specs.declared.op.Op.{Op}
use Rattle.sw_region_ops.specs.declared.op.Op.TheVariants.{Need, Free, Fresh, Put, Join, Give}

pub copy_same : (r : Regions) → IsCopy r r
copy_same r = record { same = same_refl r; sized = refl }

pub copy_back : (a b : Regions) → IsCopy a b → IsCopy b a
copy_back a b copy = record {
  same = let h = same_within a b copy.same in within_both b a h.1 h.0;
  sized = sym copy.sized;
}

pub copy_trans : (a b c : Regions) → IsCopy a b → IsCopy b c → IsCopy a c
copy_trans a b c first second = record {
  same = let h = same_within a b first.same in let k = same_within b c second.same in
      within_both a c (within_trans a b c h.0 k.0) (within_trans c b a k.1 h.1);
  sized = second.sized ∙ first.sized;
}

pub runs_same : (ops : List Op) (a c y z : Regions) → IsCopy a c → Runs ops a y → Runs ops c z
    → IsCopy y z
runs_same ops a c y z copy first second = record {
  same = let h = same_within a c copy.same in
      within_both y z (runs_monotone ops a c y z (sym copy.sized) h.0 first second)
      (runs_monotone ops c a z y copy.sized h.1 second first);
  sized = runs_size ops c z second ∙ copy.sized ∙ sym (runs_size ops a y first);
}

given_away_same : (x at : ℕ) (a c : Regions) (breach : Breach) → IsWithin a c → IsWithin c a
    → IsGivenAway x at a breach → IsGivenAway x at c breach
given_away_same x at a c breach forth back given = record {
  site = given.site;
  least = record {
    there = forth.pairs x given.site given.least.there;
    least = λ other has. given.least.least other (back.pairs x other has);
  };
  is = given.is;
}

not_free_same : (x at code : ℕ) (a c : Regions) (breach : Breach) → IsWithin a c → IsWithin c a
    → IsNotFree x at code a breach → IsNotFree x at code c breach
not_free_same x at code a c breach forth back wrong = record {
  not_given = λ has. wrong.not_given (has.0, back.pairs x has.0 has.1);
  is_here = forth.together x 0 wrong.is_here;
  is = wrong.is;
}

-- a test that fails in a state fails in a copy
pub fails_same : (op : Op) (a c : Regions) (breach : Breach) → IsCopy a c → TestFails op a breach
    → TestFails op c breach
fails_same (Need x at) a c breach copy fails = let h = same_within a c copy.same in
    given_away_same x at a c breach h.0 h.1 fails
fails_same (Free x at code) a c breach copy (inl given) = let h = same_within a c copy.same in
    inl (given_away_same x at a c breach h.0 h.1 given)
fails_same (Free x at code) a c breach copy (inr wrong) = let h = same_within a c copy.same in
    inr (not_free_same x at code a c breach h.0 h.1 wrong)
fails_same (Fresh x) a c breach copy fails = fails
fails_same (Put x y) a c breach copy fails = fails
fails_same (Join x y) a c breach copy fails = fails
fails_same (Give x site) a c breach copy fails = fails

-- and so does one among operations, if these can be done in the copy
pub among_same : (ops : List Op) (a c z : Regions) (breach : Breach) → IsCopy a c → Runs ops c z
    → FailsAmong ops a breach → FailsAmong ops c breach
among_same [] a c z breach copy runs fails = fails
among_same (op ∷ ops) a c z breach copy runs (inl fails) =
    inl (fails_same op a c breach copy fails)
among_same (op ∷ ops) a c z breach copy (n, does_too, rest) (inr (m, does, later)) =
    inr (
      n,
      does_too,
      among_same ops m n z breach
          (runs_same (op ∷ []) a c m n copy (m, does, refl) (n, does_too, refl)) rest later,
    )

-- a test that fails among two lists of operations
pub among_split : (xs ys : List Op) (a : Regions) (breach : Breach) → FailsAmong (xs ++ ys) a breach
    → FailsAmong xs a breach ⊎ ((m : Regions) × Runs xs a m × FailsAmong ys m breach)
among_split [] ys a breach fails = inr (a, refl, fails)
among_split (op ∷ xs) ys a breach (inl fails) = inl (inl fails)
among_split (op ∷ xs) ys a breach (inr (n, does, later)) = elim (among_split xs ys n breach later) [
  | inl first ↦ inl (inr (n, does, first))
  | inr second ↦ inr (second.0, (n, does, second.1), second.2)
]

pub among_left : (xs ys : List Op) (a : Regions) (breach : Breach) → FailsAmong xs a breach
    → FailsAmong (xs ++ ys) a breach
among_left [] ys a breach fails = absurd fails
among_left (op ∷ xs) ys a breach (inl fails) = inl fails
among_left (op ∷ xs) ys a breach (inr (n, does, later)) =
    inr (n, does, among_left xs ys n breach later)

pub among_right : (xs ys : List Op) (a m : Regions) (breach : Breach) → Runs xs a m
    → FailsAmong ys m breach → FailsAmong (xs ++ ys) a breach
among_right [] ys a m breach e fails = subst (λ r. FailsAmong ys r breach) e fails
among_right (op ∷ xs) ys a m breach (n, does, rest) fails =
    inr (n, does, among_right xs ys n m breach rest fails)

-- one more operation
pub among_push : (xs : List Op) (op : Op) (a m : Regions) (breach : Breach) → Runs xs a m
    → FailsAmong (xs ++ op ∷ []) a breach ↔ (FailsAmong xs a breach ⊎ TestFails op m breach)
among_push xs op a m breach runs = (forth, back)
  where
    last : (n : Regions) → Runs xs a n → FailsAmong (op ∷ []) n breach
        → FailsAmong xs a breach ⊎ TestFails op m breach
    last n runs_too (inl fails) =
        inr (fails_same op n m breach (runs_same xs a a n m (copy_same a) runs_too runs) fails)
    last n runs_too (inr later) = absurd later.2

    forth : FailsAmong (xs ++ op ∷ []) a breach → FailsAmong xs a breach ⊎ TestFails op m breach
    forth fails = elim (among_split xs (op ∷ []) a breach fails) [
      | inl first ↦ inl first
      | inr second ↦ last second.0 second.1 second.2
    ]

    back : FailsAmong xs a breach ⊎ TestFails op m breach → FailsAmong (xs ++ op ∷ []) a breach
    back (inl first) = among_left xs (op ∷ []) a breach first
    back (inr fails) = among_right xs (op ∷ []) a m breach runs (inl fails)
