-- Operations that are done and pass, part by part.
use Rattle.std.proofs.Common.{◌≡◌, ℕ, List, [], ◌∷◌, ◌++◌, map, refl, subst, Contains, inl, inr}
use Rattle.sw_list.proofs.Members.{none_in, first_or_later}
use Rattle.sw_partition.specs.Effects.{IsFree}
use Rattle.sw_partition.specs.Regions.{Regions}
use Rattle.sw_region_flow.specs.Passing.{IsNotGivenAway, Passes, AllPass}
use Rattle.sw_region_ops.specs.Groups.{need_each, free_each}
use Rattle.sw_region_ops.specs.Runs.{Applies, Runs}
use Rattle.sw_region_ops.specs.declared.marks.Mark.{Mark}
use Rattle.sw_region_ops.specs.declared.op.Op.{Op}

-- the operations make the second state of the first, and pass on the way
pub record Done (ops : List Op) (a b : Regions) : Type 0 where
  pub runs : Runs ops a b
  pub passes : AllPass ops a

-- what is left after the first operation
pub done_rest : (op : Op) (ops : List Op) (a b : Regions) (done : Done (op ∷ ops) a b)
    → Done ops done.runs.0 b
done_rest op ops a b done =
    record { runs = done.runs.2; passes = done.passes.1 done.runs.0 done.runs.1 }

-- one part, then the other
pub record Parts (first second : List Op) (a b : Regions) : Type 0 where
  pub between : Regions
  pub before : Done first a between
  pub after : Done second between b

pub parts : (first second : List Op) (a b : Regions) → Done (first ++ second) a b
    → Parts first second a b
parts [] second a b done =
    record { between = a; before = record { runs = refl; passes = tt }; after = done }
parts (op ∷ first) second a b done =
    let rest = parts first second done.runs.0 b (done_rest op (first ++ second) a b done) in
    record {
      between = rest.between;
      before = record {
        runs = (done.runs.0, done.runs.1, rest.before.runs);
        passes = (done.passes.0, λ made applies. passes_first first made (done.passes.1 made applies));
      };
      after = rest.after;
    }
  where
    passes_first : (ops : List Op) (m : Regions) → AllPass (ops ++ second) m → AllPass ops m
    passes_first [] m all = tt
    passes_first (next ∷ ops) m all =
        (all.0, λ made applies. passes_first ops made (all.1 made applies))

-- tests change nothing, and each of them passes
tested : (test : Mark → Op) (P : Regions → Mark → Type 0)
    → ((mark : Mark) (a b : Regions) → Applies (test mark) a b → b ≡ a)
    → ((mark : Mark) (a : Regions) → Passes (test mark) a → P a mark)
    → (marks : List Mark) (a b : Regions) → Done (map test marks) a b
    → (b ≡ a) × ((mark : Mark) → Contains marks mark → P a mark)
tested test P same tells [] a b done = (done.runs, λ mark has. absurd (none_in mark has))
tested test P same tells (first ∷ marks) a b done =
    let stays : done.runs.0 ≡ a = same first a done.runs.0 done.runs.1 in
    let rest = tested test P same tells marks a b
    (subst (λ m. Done (map test marks) m b) stays
    (done_rest (test first) (map test marks) a b done)) in (
      rest.0,
      λ mark has. elim (first_or_later first marks mark has) [
        | inl is ↦ subst (P a) is (tells first a done.passes.0)
        | inr there ↦ rest.1 mark there
      ],
    )

pub needed : (marks : List Mark) (a b : Regions) → Done (need_each marks) a b
    → (b ≡ a) × ((mark : Mark) → Contains marks mark → IsNotGivenAway a mark.x)
needed = tested _ (λ a mark. IsNotGivenAway a mark.x) (λ mark a b same. same)
    (λ mark a passes. passes)

pub freed : (code : ℕ) (marks : List Mark) (a b : Regions) → Done (free_each code marks) a b
    → (b ≡ a) × ((mark : Mark) → Contains marks mark → IsFree a mark.x)
freed code = tested _ (λ a mark. IsFree a mark.x) (λ mark a b same. same) (λ mark a passes. passes)
