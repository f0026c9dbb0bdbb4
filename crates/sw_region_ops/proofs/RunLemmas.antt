-- Operations keep the size of states, and from a greater state make a greater one; and there is one
-- state at an entry.
use Rattle.std.proofs.Common.{◌≡◌, ℕ, List, [], ◌∷◌, ◌++◌, length, refl, sym, subst, ap, ◌∙◌}
use Rattle.sw_partition.specs.Monotone as monotone
use Rattle.sw_partition.specs.Regions.{Regions, size_of, IsWithin, IsSameState}
use Rattle.sw_region_ops.specs.Entry.{IsMet}
use Rattle.sw_region_ops.specs.Runs.{Applies, Runs}
use Rattle.sw_region_ops.specs.declared.op.Op.{Op}
use Rattle.sw_region_ops.specs.declared.op.Op.TheVariants.{Need, Free, Fresh, Put, Join, Give}

same_size : (a b : Regions) → length b.labels ≡ length a.labels → b.sites ≡ a.sites
    → size_of b ≡ size_of a
same_size a b elements sites = cc

pub does_size : (op : Op) (a b : Regions) → Applies op a b → size_of b ≡ size_of a
does_size (Need x at) a b does = ap size_of does
does_size (Free x at code) a b does = ap size_of does
does_size (Fresh x) a b does = same_size a b does.elements_same does.sites_same
does_size (Put x y) a b does = same_size a b does.elements_same does.sites_same
does_size (Join x y) a b does = same_size a b does.elements_same does.sites_same
does_size (Give x site) a b does = same_size a b does.elements_same does.sites_same

pub runs_size : (ops : List Op) (a b : Regions) → Runs ops a b → size_of b ≡ size_of a
runs_size [] a b e = ap size_of e
runs_size (op ∷ ops) a b (m, does, later) = runs_size ops m b later ∙ does_size op a m does

-- a list of operations is done part after part
pub runs_both : (xs ys : List Op) (a m b : Regions) → Runs xs a m → Runs ys m b
    → Runs (xs ++ ys) a b
runs_both [] ys a m b e later = subst (λ r. Runs ys r b) e later
runs_both (op ∷ xs) ys a m b (n, does, rest) later = (n, does, runs_both xs ys n m b rest later)

pub runs_split : (xs ys : List Op) (a b : Regions) → Runs (xs ++ ys) a b
    → (m : Regions) × Runs xs a m × Runs ys m b
runs_split [] ys a b runs = (a, refl, runs)
runs_split (op ∷ xs) ys a b (n, does, rest) =
    let h = runs_split xs ys n b rest in (h.0, (n, does, h.1), h.2)

both_same : (a b c d : Regions) → IsWithin a b → c ≡ a → d ≡ b → IsWithin c d
both_same a b c d within first second =
    subst (λ r. IsWithin r d) (sym first) (subst (λ r. IsWithin a r) (sym second) within)

pub does_monotone : (op : Op) (a b c d : Regions) → size_of a ≡ size_of b → IsWithin a b
    → Applies op a c → Applies op b d → IsWithin c d
does_monotone (Need x at) a b c d size within first second = both_same a b c d within first second
does_monotone (Free x at code) a b c d size within first second =
    both_same a b c d within first second
does_monotone (Fresh x) a b c d size within first second =
    monotone.fresh_monotone x a b c d size within first second
does_monotone (Put x y) a b c d size within first second =
    monotone.put_monotone x y a b c d within first second
does_monotone (Join x y) a b c d size within first second =
    monotone.join_monotone x y a b c d within first second
does_monotone (Give x site) a b c d size within first second =
    monotone.give_monotone x site a b c d within first second

pub runs_monotone : (ops : List Op) (a b c d : Regions) → size_of a ≡ size_of b → IsWithin a b
    → Runs ops a c → Runs ops b d → IsWithin c d
runs_monotone [] a b c d size within first second = both_same a b c d within first second
runs_monotone (op ∷ ops) a b c d size within (m, does, later) (n, does_too, later_too) =
    runs_monotone ops m n c d
    (does_size op a m does ∙ size ∙ sym (does_size op b n does_too))
    (does_monotone op a b m n size within does does_too) later later_too

pub one_entry : (count : ℕ) (sites met : List ℕ) (a b : Regions) → IsMet count sites met a
    → IsMet count sites met b → IsSameState a b
one_entry count sites met a b first second = record {
  together = λ x y. (
    λ t. (second.together x y).1 ((first.together x y).0 t),
    λ t. (first.together x y).1 ((second.together x y).0 t),
  );
  pairs = λ x site. (
    λ has. absurd (first.no_pairs x site has),
    λ has. absurd (second.no_pairs x site has),
  );
}
